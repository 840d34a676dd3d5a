use Rattle.std.proofs.Common.{◌≡◌, ◌-◌, length}
use Rattle.class_desc.specs.Line.{line, above}
use Rattle.class_desc.specs.Range.{bumps}
use Rattle.class_desc.proofs.range.bump_line.Given as goal

abbrev pub invariant-loop-turn : goal.invariant-loop-turn
invariant-loop-turn l = bumps (line l.infos (length l.infos - l._turn) l.class) l.counts ≡ bumps (above l.infos l.c) l.fn.counts
