use Rattle.rpy_meaning.proofs.Held.{held_no_more, references_no_more}
use Rattle.rpy_meaning.proofs.laws.fewer_roots_hold_no_more.Goals as goal

pub returns-clause-objects : goal.returns-clause-objects
returns-clause-objects c = held_no_more

pub returns-clause-references : goal.returns-clause-references
returns-clause-references c = references_no_more
