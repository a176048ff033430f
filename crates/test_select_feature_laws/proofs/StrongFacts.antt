-- A strong entry demands each line that a weak one of the same name demands between the same features.
use Rattle.std.proofs.Common.{◌≡◌, ℕ, List, All, Contains, Some, refl, sym, subst, ap, ◌∙◌}
use Rattle.workspace_record.specs.Records.{Text, Line, Link, Package}
use Rattle.workspace_record.specs.Features.{FeatureValue, label_name}
use Rattle.workspace_record.specs.Entries.{Strong}
use Rattle.feature_account_rules.specs.IsEntry.{IsEntry}
use Rattle.feature_account_rules.specs.IsRule.{HasEntry}
use Rattle.guppy_feature_demands.specs.Demands.{DemandValue, StrongSlash, WeakSlash, NumberedValue, demands_of, kept_demands, leads_by}
use Rattle.guppy_feature_demands.specs.Nodes.{named_of, nodes_of}
use Rattle.test_select_feature_laws.specs.RecordGraphs.{HasDistinctFeatures}
use Rattle.test_select_feature_laws.proofs.DemandFacts.{IsDemand, IsPlaced, demand_cases, to_base, to_own, to_dependency, strong_dependency, strong_name, strong_line, weak_line, by_line}
use Rattle.test_select_feature_laws.proofs.KeptDemandFacts.{kept, kept_cases, same_number}
use Rattle.test_select_feature_laws.proofs.MadeFacts.{is_demanded}
use Rattle.test_select_feature_laws.proofs.WeakFacts.{StrongToo}

module _ (packages : List Package) (links : List Link) where
  -- the demand is of a weak entry of this name
  record OfWeak (d : DemandValue) (n : Text) : Type 0 where
    p : Package
    name : Text
    x : Text
    place : ℕ × ℕ
    link : Link
    line : Line
    at : IsPlaced links place link line
    source : link.from ≡ p.id
    named : link.name ≡ n
    is : leads_by (WeakSlash n) (named_of p.id name) (named_of link.to x) place ≡ d

  -- the demand is of a strong entry of this name
  record OfStrong (d : DemandValue) (n : Text) : Type 0 where
    p : Package
    name : Text
    entry : Text
    x : Text
    target : Text
    listed : Contains packages p
    has : HasEntry p name entry
    reads : IsEntry entry (Strong n x)
    from_is : named_of p.id name ≡ d.from
    to_is : named_of target x ≡ d.to

  of_weak : (d : DemandValue) → IsDemand packages links d → (n : Text) → d.form ≡ WeakSlash n → OfWeak d n
  of_weak d (to_base h) n e = absurd cc
  of_weak d (to_own listed has reads) n e = absurd cc
  of_weak d (to_dependency listed has reads) n e = absurd cc
  of_weak d (strong_dependency listed has reads) n e = absurd cc
  of_weak d (strong_name listed has reads there) n e = absurd cc
  of_weak d (strong_line listed has reads at from named) n e = absurd cc
  of_weak d (weak_line {p = p} {name = name} {other = other} {x = x} {place = place} {link = link} {line = line} listed has reads at from named) n e =
      let same : other ≡ n = cc in
      record { p = p; name = name; x = x; place = place; link = link; line = line; at = at; source = from; named = named ∙ same; is = ap (λ m. leads_by (WeakSlash m) (named_of p.id name) (named_of link.to x) place) (sym same) }
  of_weak d (by_line at h) n e = absurd cc

  of_strong : (d : DemandValue) → IsDemand packages links d → (n : Text) → d.form ≡ StrongSlash n → OfStrong d n
  of_strong d (to_base h) n e = absurd cc
  of_strong d (to_own listed has reads) n e = absurd cc
  of_strong d (to_dependency listed has reads) n e = absurd cc
  of_strong d (strong_dependency listed has reads) n e = absurd cc
  of_strong d (strong_name listed has reads there) n e = absurd cc
  of_strong d (strong_line {p = p} {name = name} {entry = entry} {other = other} {x = x} {link = link} listed has reads at from named) n e =
      let same : other ≡ n = cc in
      record { p = p; name = name; entry = entry; x = x; target = link.to; listed = listed; has = has; reads = subst (λ m. IsEntry entry (Strong m x)) same reads; from_is = refl; to_is = refl }
  of_strong d (weak_line listed has reads at from named) n e = absurd cc
  of_strong d (by_line at h) n e = absurd cc

  -- so the strong one demands its lines too
  pub strong_too : All HasDistinctFeatures packages → StrongToo (kept_demands (nodes_of packages) (demands_of packages links))
  strong_too distinct d other n hd ho weak strong ends =
      let nodes = nodes_of packages in
      let demands = demands_of packages links in
      let (a, ka, is_a) = kept_cases nodes demands d hd in
      let (b, kb, is_b) = kept_cases nodes demands other ho in
      let w = of_weak a (demand_cases packages links a ka.demanded) n (ap (λ (k : NumberedValue). k.form) is_a ∙ weak) in
      let s = of_strong b (demand_cases packages links b kb.demanded) n (ap (λ (k : NumberedValue). k.form) is_b ∙ strong) in
      let from = same_number nodes b.from a.from kb.from ka.from (ap (λ (k : NumberedValue). k.from) is_b ∙ ap (λ (q : ℕ × ℕ). q.0) ends ∙ sym (ap (λ (k : NumberedValue). k.from) is_a)) in
      let to = same_number nodes b.to a.to kb.to ka.to (ap (λ (k : NumberedValue). k.to) is_b ∙ ap (λ (q : ℕ × ℕ). q.1) ends ∙ sym (ap (λ (k : NumberedValue). k.to) is_a)) in
      let w_from : named_of w.p.id w.name ≡ a.from = ap (λ (k : DemandValue). k.from) w.is in
      let w_to : named_of w.link.to w.x ≡ a.to = ap (λ (k : DemandValue). k.to) w.is in
      let place : Some w.place ≡ a.line = ap (λ (k : DemandValue). k.line) w.is in
      let id : w.p.id ≡ s.p.id = ap (λ (f : FeatureValue). f.package_id) (w_from ∙ sym from ∙ sym s.from_is) in
      let x : s.x ≡ w.x = ap (λ (f : FeatureValue). label_name f.label) (s.to_is ∙ to ∙ sym w_to) in
      let c : DemandValue = leads_by (StrongSlash n) (named_of s.p.id s.name) (named_of w.link.to s.x) w.place in
      let c_from : c.from ≡ a.from = s.from_is ∙ from in
      let c_to : c.to ≡ a.to = ap (named_of w.link.to) x ∙ w_to in
      let demanded = is_demanded packages links distinct c (strong_line s.listed s.has s.reads w.at (w.source ∙ id) w.named) in
      let strongly : DemandValue = record { from = a.from; to = a.to; form = StrongSlash n; line = a.line } in
      let same : c ≡ strongly = λ i. record { from = c_from i; to = c_to i; form = StrongSlash n; line = place i } in
      let here = kept nodes demands strongly (record { demanded = subst (Contains demands) same demanded; from = ka.from; to = ka.to; differ = ka.differ }) in
      subst (Contains (kept_demands nodes demands)) (ap (λ (k : NumberedValue). record { from = k.from; to = k.to; form = StrongSlash n; line = k.line }) is_a) here
