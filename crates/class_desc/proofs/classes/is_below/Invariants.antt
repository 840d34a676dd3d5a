use Rattle.std.proofs.Common.{◌≡◌, ◌-◌, length}
use Rattle.std.specs.Prelude.{◌==◌}
use Rattle.std.specs.List.{list_any}
use Rattle.class_desc.specs.Line.{line, is_below}
use Rattle.class_desc.proofs.classes.is_below.Given as goal

abbrev pub invariant-loop-turn : goal.invariant-loop-turn
invariant-loop-turn l = list_any (λ b. b == l.d) (line l.infos (length l.infos - l._turn) l.class) ≡ is_below l.infos l.c l.d
