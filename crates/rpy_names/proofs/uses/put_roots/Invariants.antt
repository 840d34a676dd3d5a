use Rattle.std.proofs.Common.{◌≡◌, drop}
use Rattle.rpy_names.specs.Uses.{put_roots}
use Rattle.rpy_names.proofs.uses.put_roots.Given as goal

abbrev pub invariant-loop-root : goal.invariant-loop-root
invariant-loop-root l = put_roots (drop l.root-index l.roots) l.uses ≡ put_roots l.roots l.fn.uses
