use Rattle.std.proofs.Common.{◌≡◌, ◌+◌, ◌-◌, ◌/◌, ◌<◌, length, get_or, sym, subst, ◌∙◌, arith}
use Rattle.std.specs.declared.cmp.Ordering.TheVariants.{Less, Greater}
use Rattle.workspace_record.specs.Features.{FeatureValue, feature_cmp}
use Rattle.test_select_rules.specs.CountedViews.{counted_list}
use Rattle.test_select_rules.specs.Digits.{digits}
use Rattle.test_select_rules.specs.Searches.{LooksLeft}
use Rattle.test_select_rules.proofs.SearchFacts.{found_at, found_nowhere, between_after, between_before, looks_at_start, looks_less}
use Rattle.test_select_rules.proofs.search.finds_counted.Goals as goal

pub loop-low-init : goal.loop-low-init
loop-low-init g c =
    let on = counted_list c.args.features.now in
    let size : c.len-high.result ≡ length on = c.len-high.ensures.count in
    record {
      ordered = omega arith;
      within = omega arith;
      between = λ k lt is. (omega arith, omega (arith, lt));
      left = subst (λ n. LooksLeft (n - 0) (c.args.looks.now + digits (length on)) c.args.looks.now) (sym size) (looks_at_start (length on) c.args.looks.now);
    }

pub compare-requires : goal.compare-requires
compare-requires g c = let test = c.loop-low-test.true in let within = c.loop-low.invariant.within in omega arith

pub returns-in-Equal-clause-found : goal.returns-in-Equal-clause-found
returns-in-Equal-clause-found g c =
    let on = counted_list c.args.features.now in
    let f : FeatureValue = c.args.wanted.now in
    let low = c.loop-low.low in
    let high = c.loop-low.high in
    let i = low + (high - low) / 2 in
    let lt : i < length on = let test = c.loop-low-test.true in let within = c.loop-low.invariant.within in omega arith in
    found_at on f c.requires i lt (sym c.compare.ensures.order ∙ c.in-Equal.is)

pub loop-low-preserved-in-Less : goal.loop-low-preserved-in-Less
loop-low-preserved-in-Less g c =
    let on = counted_list c.args.features.now in
    let f : FeatureValue = c.args.wanted.now in
    let low = c.loop-low.low in
    let high = c.loop-low.high in
    let i = low + (high - low) / 2 in
    let was = c.loop-low.invariant in
    let test : low < high = c.loop-low-test.true in
    let lt : i < length on = let within = was.within in omega arith in
    let less : feature_cmp (get_or on i f) f ≡ Less = sym c.compare.ensures.order ∙ c.in-Less.is in
    record {
      ordered = omega arith;
      within = was.within;
      between = between_after on f c.requires low high i lt less was.between;
      left = subst (LooksLeft (high - (i + 1)) _) (sym c.compare.ensures.looks) (looks_less (high - low) (high - (i + 1)) _ c.loop-low.looks (omega arith) (omega arith) was.left);
    }

pub loop-low-preserved : goal.loop-low-preserved
loop-low-preserved g c =
    let on = counted_list c.args.features.now in
    let f : FeatureValue = c.args.wanted.now in
    let low = c.loop-low.low in
    let high = c.loop-low.high in
    let i = low + (high - low) / 2 in
    let was = c.loop-low.invariant in
    let test : low < high = c.loop-low-test.true in
    let lt : i < length on = let within = was.within in omega arith in
    let more : feature_cmp (get_or on i f) f ≡ Greater = sym c.compare.ensures.order ∙ c.in-Greater.is in
    record {
      ordered = omega arith;
      within = let within = was.within in omega arith;
      between = between_before on f c.requires low high i lt more was.between;
      left = subst (LooksLeft (i - low) _) (sym c.compare.ensures.looks) (looks_less (high - low) (i - low) _ c.loop-low.looks (omega arith) (omega arith) was.left);
    }

pub returns-clause-found : goal.returns-clause-found
returns-clause-found g c =
    let f : FeatureValue = c.args.wanted.now in
    found_nowhere (counted_list c.args.features.now) f c.requires c.loop-low.low c.loop-low.high (let test = c.loop-low-test.false in omega arith) c.loop-low.invariant.between
