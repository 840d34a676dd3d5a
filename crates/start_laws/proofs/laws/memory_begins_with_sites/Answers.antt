use Rattle.start_laws.proofs.Programs.{memory_begins_with_sites}
use Rattle.start_laws.proofs.laws.memory_begins_with_sites.Goals as goal

pub returns : goal.returns
returns c = memory_begins_with_sites
