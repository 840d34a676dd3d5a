use Rattle.resolved_laws.specs.Meant.{further_of}
use Rattle.sound_programs.proofs.Texting.{texts_are_whole}
use Rattle.sound_programs.proofs.laws.programs_of_texts_are_whole.Goals as goal

pub returns : goal.returns
returns c =
    texts_are_whole c.programs_of_texts_have_trees.ensures c.modules_have_no_inner_classes.ensures.texts c.programs_have_their_functions.ensures
    (λ ms p is class lt. c.builtins_stand_below_exception.ensures ms p is (further_of p) class lt)
