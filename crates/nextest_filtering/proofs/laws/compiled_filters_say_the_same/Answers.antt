use Rattle.std.proofs.Common.{IsTrue}
use Rattle.nextest_filtering.proofs.SameFacts.{compiled_gives, compiled_holds}
use Rattle.nextest_filtering.proofs.laws.compiled_filters_say_the_same.Goals as goal

pub returns-clause-holds : goal.returns-clause-holds
returns-clause-holds c cx f compiled h member default t = compiled_holds cx (λ m. IsTrue (member m)) (IsTrue default) t f compiled h

pub returns-clause-gives : goal.returns-clause-gives
returns-clause-gives c cx f compiled h default b v = compiled_gives cx (λ x. IsTrue (default x)) b f compiled h v
