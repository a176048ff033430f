-- Selections over declared links look at a choice only for which binaries are available, where no filter names features.
use Rattle.std.proofs.Common.{List, [], Contains, Option}
use Rattle.list_facts.proofs.Membership.{Contains-none}
use Rattle.workspace_record.specs.Records.{Text, Workspace}
use Rattle.workspace_record.specs.Choices.{Choice}
use Rattle.workspace_record.specs.declared.choice.PlatformTable.{PlatformTable}
use Rattle.nextest_filtering.proofs.SameFacts.{same}
use Rattle.test_select_checks.proofs.OneReadingFacts.{AreOneReading}
use Rattle.test_select_checks.proofs.OneRecordFacts.{byte_packages, one_context}
use Rattle.test_select_tests.specs.Readings.{AreReadings, Readings}
use Rattle.test_select_tests.specs.Selecting.{IsAsked, IsChosen}
use Rattle.test_select_tests.specs.declared.asked_binaries.AskedBinaries.{AskedBinaries}
use Rattle.test_select_tests.proofs.ReadingFacts.{one_followed, one_says_the_same}
use Rattle.test_select_tests.proofs.SelectingFacts.{one_asked, one_report}
use Rattle.test_select_tests.specs.declared.scope.LinkScope.TheVariants.{Declared}
use Rattle.test_select_laws.specs.Laws.{AreAvailableAlike, DeclaredSelectionsAgree, over_declared}
use Rattle.test_select_laws.proofs.PlainFacts.{asked_plain, chosen_plain, plain, plain_names}

module _ (w : Workspace) (texts : List Text) (asks : AskedBinaries) (choice other : Choice) (table known : PlatformTable) where
  -- with nothing said to be on, the readings of both questions are one but for their patterns
  one_plain : (r s : Readings) → AreReadings (over_declared w texts asks choice table) r → AreReadings (over_declared w texts asks other known) s → AreOneReading w (plain r).context (plain s).context r.filters s.filters
  one_plain r s p o =
      let names = plain_names w r.context p.names in
      let rows = one_followed Declared w p.followed.0 table r.context.graph s.context.graph p.followed.2 o.followed.2 in
      record {
        one = one_context w (plain r).context (plain s).context names (plain_names w s.context o.names) rows.packages rows.links (λ f. same (Contains [] f));
        byte_packages = byte_packages w (plain r).context names (λ x inside. (p.spelled.texts.packages x inside).name);
        byte_on = λ f listed. absurd (Contains-none f listed);
        byte_groups = p.spelled.texts.groups;
        of_first = p.filters;
        of_second = o.filters;
      }

  module _ (alike : AreAvailableAlike (over_declared w texts asks choice table) (over_declared w texts asks other known)) (s : Readings) where
    chosen_there : (listing_of : Text → Option (List Text)) (pair : Text × Text) → IsChosen (over_declared w texts asks choice table) s listing_of pair → IsChosen (over_declared w texts asks other known) s listing_of pair
    chosen_there listing_of pair h = record {
      binary = h.binary;
      available = (alike h.binary).0 h.available;
      id = h.id;
      names = h.names;
      listing = h.listing;
      listed = h.listed;
      holds = h.holds;
      default_holds = h.default_holds;
    }

    chosen_here : (listing_of : Text → Option (List Text)) (pair : Text × Text) → IsChosen (over_declared w texts asks other known) s listing_of pair → IsChosen (over_declared w texts asks choice table) s listing_of pair
    chosen_here listing_of pair h = record {
      binary = h.binary;
      available = (alike h.binary).1 h.available;
      id = h.id;
      names = h.names;
      listing = h.listing;
      listed = h.listed;
      holds = h.holds;
      default_holds = h.default_holds;
    }

    asked_here : (ids : List Text) → IsAsked (over_declared w texts asks other known) s ids → IsAsked (over_declared w texts asks choice table) s ids
    asked_here ids h = record {
      members = λ id. (
        λ there. let b = (h.members id).0 there in (b.0, b.1, (alike b.0).1 b.2, b.3),
        λ b. (h.members id).1 (b.0, b.1, (alike b.0).0 b.2, b.3),
      );
      ascending = h.ascending;
    }

pub selections_agree : DeclaredSelectionsAgree
selections_agree w texts asks choice other table known r s p o none nor alike =
    let mine = over_declared w texts asks choice table in
    let theirs = over_declared w texts asks other known in
    let says = one_says_the_same mine p.spelled.texts (plain r) (plain s) (one_plain w texts asks choice other table known r s p o) p.texts o.texts in
    record {
      reports = λ listing_of pairs others report told.
          one_report
          (λ pair. (
            λ h. let here = (says.chosen listing_of pair (report.byte_names pair h)).0 ((chosen_plain r none mine listing_of pair).0 ((report.members pair).0 h)) in
                (told.members pair).1 ((chosen_plain s nor theirs listing_of pair).1 (chosen_there w texts asks choice other table known alike (plain s) listing_of pair here)),
            λ h. let there = (chosen_plain s nor theirs listing_of pair).0 ((told.members pair).0 h) in
                (report.members pair).1 ((chosen_plain r none mine listing_of pair).1 ((says.chosen listing_of pair (told.byte_names pair h)).1 (chosen_here w texts asks choice other table known alike (plain s) listing_of pair there))),
          ))
          report.ascending told.ascending;
      asked = λ ids others own told.
          let there = (asked_plain s nor theirs others).0 told in
          let here = (says.asked others).1 (asked_here w texts asks choice other table known alike (plain s) others there) in
          one_asked mine r ids others own ((asked_plain r none mine others).1 here);
    }
