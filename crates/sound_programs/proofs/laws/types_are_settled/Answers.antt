use Rattle.sound_programs.proofs.Settling.{types_are_settled}
use Rattle.sound_programs.proofs.laws.types_are_settled.Goals as goal

pub returns : goal.returns
returns c = types_are_settled c.types_leave_trees_without_fault.ensures
