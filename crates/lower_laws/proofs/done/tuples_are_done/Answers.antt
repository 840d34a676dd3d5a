use Rattle.lower_laws.proofs.Items.{unpack_is_done, index_is_done, len_is_done}
use Rattle.lower_laws.proofs.Tupled.{tuple_is_done}
use Rattle.lower_laws.proofs.done.tuples_are_done.Goals as goal

pub returns-clause-made : goal.returns-clause-made
returns-clause-made c = tuple_is_done

pub returns-clause-item : goal.returns-clause-item
returns-clause-item c = unpack_is_done

pub returns-clause-index : goal.returns-clause-index
returns-clause-index c = index_is_done

pub returns-clause-length : goal.returns-clause-length
returns-clause-length c = len_is_done
