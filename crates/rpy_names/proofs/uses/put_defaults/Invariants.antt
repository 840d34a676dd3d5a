use Rattle.std.proofs.Common.{◌≡◌, drop}
use Rattle.rpy_names.specs.Uses.{put_defaults}
use Rattle.rpy_names.proofs.uses.put_defaults.Given as goal

abbrev pub invariant-loop-default : goal.invariant-loop-default
invariant-loop-default l = put_defaults l.values l.modules (drop l.default-index l.defaults) l.uses ≡ put_defaults l.values l.modules l.defaults l.fn.uses
