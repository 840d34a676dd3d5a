use Rattle.std.proofs.Common.{◌≡◌, ◌-◌, length}
use Rattle.names_bound.specs.Clash.{declares_from, declares}
use Rattle.names_bound.proofs.clash.declares.Given as goal

abbrev pub invariant-loop-turn : goal.invariant-loop-turn
invariant-loop-turn l = declares_from l.table l.bases l.name (length l.bases - l._turn) l.class ≡ declares l.table l.bases l.fn.class l.name
