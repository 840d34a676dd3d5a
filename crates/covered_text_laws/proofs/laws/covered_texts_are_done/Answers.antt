use Rattle.covered_text_laws.proofs.Operations.{add_done, but_last_done, index_done, len_done, mul_done}
use Rattle.covered_text_laws.proofs.laws.covered_texts_are_done.Goals as goal

pub returns-clause-len : goal.returns-clause-len
returns-clause-len c = len_done

pub returns-clause-but_last : goal.returns-clause-but_last
returns-clause-but_last c = but_last_done

pub returns-clause-add : goal.returns-clause-add
returns-clause-add c = add_done

pub returns-clause-mul : goal.returns-clause-mul
returns-clause-mul c = mul_done

pub returns-clause-index : goal.returns-clause-index
returns-clause-index c = index_done
