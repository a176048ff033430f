-- What is printed of a verdict.
use Rattle.std.specs.Prelude.{◌++◌, codes, decimal}
use Rattle.workspace_record.specs.Records.{Text}
use Rattle.feature_account.specs.declared.verdict.Verdict.{Verdict}
use Rattle.feature_account.specs.declared.verdict.Verdict.TheVariants.{Accepted, UnknownRule, RepeatedConclusion, MissingPremise, NotClosed, NotGoal, Unused}

-- that it is accepted, or its first fault with the place in the list or the rule's number
abbrev pub verdict_text : Verdict → Text
verdict_text Accepted = codes "accepted"
verdict_text (UnknownRule place) = codes "refused: unknown rule at " ++ decimal place
verdict_text (RepeatedConclusion place) = codes "refused: repeated conclusion at " ++ decimal place
verdict_text (MissingPremise place) = codes "refused: missing premise at " ++ decimal place
verdict_text (NotClosed number) = codes "refused: not closed at " ++ decimal number
verdict_text NotGoal = codes "refused: goal not reached"
verdict_text (Unused place) = codes "refused: unused at " ++ decimal place
