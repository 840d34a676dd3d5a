use Rattle.std.proofs.Common.{◌≡◌, ◌-◌, length}
use Rattle.std.specs.Prelude.{find}
use Rattle.class_desc.specs.Line.{line, is_below, common_base}
use Rattle.class_desc.proofs.classes.common_base.Given as goal

abbrev pub invariant-loop-turn : goal.invariant-loop-turn
invariant-loop-turn l = find (λ b. is_below l.infos l.d b) (line l.infos (length l.infos - l._turn) l.class) ≡ common_base l.infos l.c l.d
