use Rattle.std.proofs.Common.{ℕ, ◌<◌, ◌≤◌, ◌∙◌, All, ap, length, subst}
use Rattle.std.proofs.lemmas.List.{get_or_default}
use Rattle.cargo_metadata.specs.Dependencies.{name_of}
use Rattle.cargo_record.specs.Lines.{AreApartFrom, IsDeclaredLink, IsLinkAt, IsOneMore, line_rows, no_link, row_of}
use Rattle.cargo_record.proofs.ApartFacts.{apart_in, apart_new}
use Rattle.cargo_record.proofs.LinkFacts.{declared_in, declared_new}
use Rattle.cargo_record.proofs.RowFacts.{lined_is, pushed_in, pushed_new}
use Rattle.cargo_record.proofs.lines.push_line.Goals as goal

pub returns-in_ok-push-in-Some : goal.returns-in_ok-push-in-Some
returns-in_ok-push-in-Some c =
    let links = c.args.links.now.items in
    let line = c.in_ok-line-in-Some.line in
    let lt : c.in-Some.place < length links = rw c.deref.ensures.value at c.in-Some.ensures.within in
    let at : IsLinkAt links c.in-Some.place c.args.from.now c.args.to.now (name_of c.args.dependency.now) = rw (c.deref.ensures.value, c.name.ensures) at c.in-Some.ensures.is in
    let is = c.link.view_is ∙ c.index_mut-link.ensures.value ∙ get_or_default links c.in-Some.place _ no_link lt in
    let new = lined_is links c.in-Some.place _ _ _ _ _ _ _ _ line is c.in_ok-push-in-Some.ensures.items in
    record {
      more = subst (λ ls. IsOneMore (line_rows links) (row_of c.args.from.now c.args.to.now c.args.dependency.now) (line_rows ls)) new (pushed_in links c.in-Some.place c.args.from.now c.args.to.now c.args.dependency.now line lt at (c.in_ok-line-in-Some.ensures ∙ ap (λ d. d.line) c.dependency.view_is));
      declared = λ packages p here same in_p all. subst (All (IsDeclaredLink packages)) new (declared_in packages links c.in-Some.place line lt all);
      apart = λ apart. subst (AreApartFrom c.args.start c.args.from.now) new (apart_in c.args.start c.args.from.now links apart c.in-Some.place line);
    }

pub returns-in_ok-push-in-None : goal.returns-in_ok-push-in-None
returns-in_ok-push-in-None c =
    let links = c.args.links.now.items in
    let from = c.args.from.now in
    let to = c.args.to.now in
    let d = c.args.dependency.now in
    let items = rw c.in_ok-new_link-in-None.ensures at c.in_ok-push-in-None.ensures.items in
    let none : (k : ℕ) → c.args.start ≤ k → k < length links → ¬ IsLinkAt links k from to (name_of d) = rw (c.deref.ensures.value, c.name.ensures) at c.in-None.ensures.none in
    record { more = rw items (pushed_new links from to d); declared = rw items (declared_new links from to d); apart = λ apart. rw items (apart_new c.args.start from links apart to d none) }
