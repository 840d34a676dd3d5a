use Rattle.object_laws.proofs.Entries.{one_entry}
use Rattle.object_laws.proofs.laws.an_entry_is_in_a_dict.Goals as goal

pub returns : goal.returns
returns c = one_entry
