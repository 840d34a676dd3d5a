-- The last step tells nothing more.
use Rattle.ll_events.proofs.Telling.{ending_tells, ends_unchanged}
use Rattle.ll_events.proofs.Stepping.{ends_here}
use Rattle.ll_events.proofs.laws.endings_tell_the_memory.Goals as goal

-- src/laws.rt:32:1
pub returns-clause-blocks : goal.returns-clause-blocks
returns-clause-blocks c = λ p args steps s m w. ending_tells p args steps s m w

-- src/laws.rt:32:1
pub returns-clause-unchanged : goal.returns-clause-unchanged
returns-clause-unchanged c = λ p args s outcome core e. ends_unchanged p args s outcome core e

-- src/laws.rt:32:1
pub returns-clause-places : goal.returns-clause-places
returns-clause-places c = λ p args s outcome core e. ends_here p args s outcome core e
