use Rattle.rtyped_laws.proofs.Programs.{layouts_are_had_by_programs, statics_are_had, worlds_are_of_programs}
use Rattle.rtyped_laws.proofs.laws.programs_have_their_layouts.Goals as goal

pub returns-clause-worlds : goal.returns-clause-worlds
returns-clause-worlds c = worlds_are_of_programs

pub returns-clause-structs : goal.returns-clause-structs
returns-clause-structs c = layouts_are_had_by_programs

pub returns-clause-statics : goal.returns-clause-statics
returns-clause-statics c = statics_are_had
