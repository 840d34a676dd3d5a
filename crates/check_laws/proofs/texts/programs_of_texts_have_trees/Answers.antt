use Rattle.check_laws.proofs.Asked.{has_trees}
use Rattle.check_laws.proofs.texts.programs_of_texts_have_trees.Goals as goal

pub returns : goal.returns
returns c = has_trees c.modules_number_their_nodes.ensures c.numbered_modules_have_apart_nodes.ensures c.classes_are_a_forest.ensures.programs c.programs_have_a_site.ensures.program
