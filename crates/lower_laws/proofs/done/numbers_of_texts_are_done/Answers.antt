use Rattle.lower_laws.proofs.Numbered.{int_is_done}
use Rattle.lower_laws.proofs.done.numbers_of_texts_are_done.Goals as goal

pub returns : goal.returns
returns c = int_is_done
