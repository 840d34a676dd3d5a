use Rattle.sound_programs.proofs.Settling.{never_wrong}
use Rattle.sound_programs.proofs.laws.programs_with_types_are_never_wrong.Goals as goal

pub returns : goal.returns
returns c = never_wrong c.types_leave_trees_without_fault.ensures
