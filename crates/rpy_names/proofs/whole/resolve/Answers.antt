use Rattle.std.proofs.Common.{◌≡◌, refl, ap}
use Rattle.rpy_names.specs.Build.{build}
use Rattle.rpy_names.proofs.Told.{told_at}
use Rattle.rpy_names.proofs.whole.resolve.Goals as goal

pub returns-in-Err : goal.returns-in-Err
returns-in-Err c = (refl, told_at (build c.args.modules) (build c.as_slice.result.now) (ap build c.as_slice.ensures) c.in-Err.fault c.in-Err.ensures)
