use Rattle.std.proofs.Common.{◌≡◌, ◌-◌, length}
use Rattle.class_desc.specs.Line.{line}
use Rattle.class_desc.specs.Range.{summed, number}
use Rattle.class_desc.proofs.range.number_of.Given as goal

abbrev pub invariant-loop-turn : goal.invariant-loop-turn
invariant-loop-turn l = summed l.offsets (line l.infos (length l.infos - l._turn) l.class) l.number ≡ number l.infos l.offsets l.c
