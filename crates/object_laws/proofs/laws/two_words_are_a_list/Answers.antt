use Rattle.object_laws.proofs.Rows.{two_words}
use Rattle.object_laws.proofs.laws.two_words_are_a_list.Goals as goal

pub returns : goal.returns
returns c = two_words
