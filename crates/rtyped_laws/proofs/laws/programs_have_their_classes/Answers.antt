use Rattle.rtyped_laws.proofs.Programs.{classes_are_laid, vtables_are_had}
use Rattle.rtyped_laws.proofs.laws.programs_have_their_classes.Goals as goal

pub returns-clause-layouts : goal.returns-clause-layouts
returns-clause-layouts c = classes_are_laid

pub returns-clause-vtables : goal.returns-clause-vtables
returns-clause-vtables c = vtables_are_had
