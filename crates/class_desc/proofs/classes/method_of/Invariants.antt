use Rattle.std.proofs.Common.{◌≡◌, ◌-◌, length}
use Rattle.class_desc.specs.Line.{line, nearest, own_method, method}
use Rattle.class_desc.proofs.classes.method_of.Given as goal

abbrev pub invariant-loop-turn : goal.invariant-loop-turn
invariant-loop-turn l = nearest (own_method l.infos l.name) (line l.infos (length l.infos - l._turn) l.class) ≡ method l.infos l.c l.name
