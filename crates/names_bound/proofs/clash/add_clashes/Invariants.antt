use Rattle.std.proofs.Common.{◌≡◌, drop}
use Rattle.names_bound.specs.Clash.{add_clashes}
use Rattle.names_bound.proofs.clash.add_clashes.Given as goal

abbrev pub invariant-loop-key : goal.invariant-loop-key
invariant-loop-key l = add_clashes (drop l.key-index l.keys) l.table l.bases l.classes ≡ add_clashes l.keys l.table l.bases l.fn.classes
