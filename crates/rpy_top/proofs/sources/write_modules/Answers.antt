use Rattle.std.proofs.Common.{subst}
use Rattle.rpy_first.specs.Gives.{Gives}
use Rattle.rpy_top.specs.Answer.{only_body}
use Rattle.rpy_top.proofs.Translation.{of_program}
use Rattle.rpy_top.proofs.sources.write_modules.Goals as goal

pub returns-in-Ok : goal.returns-in-Ok
returns-in-Ok c =
    of_program c.args.task c.args.name.now c.args.modules c.in-Ok.program _ _ c.requires c.in-Ok.ensures (subst (λ x. Gives (only_body x) c.only_body-found.result) c.as_slice.ensures c.only_body-found.ensures) c.write_of.ensures
