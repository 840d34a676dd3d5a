use Rattle.layout_laws.proofs.Knowing.{classes_are_known, programs_have_their_classes, programs_have_their_constants}
use Rattle.layout_laws.proofs.laws.classes_are_known.Goals as goal

pub returns-clause-of : goal.returns-clause-of
returns-clause-of c = classes_are_known

pub returns-clause-meant : goal.returns-clause-meant
returns-clause-meant c = programs_have_their_classes

pub returns-clause-constants : goal.returns-clause-constants
returns-clause-constants c = programs_have_their_constants
