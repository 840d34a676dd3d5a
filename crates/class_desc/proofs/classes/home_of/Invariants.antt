use Rattle.std.proofs.Common.{◌≡◌, ◌-◌, length}
use Rattle.class_desc.specs.Line.{line, topmost}
use Rattle.class_desc.specs.Tables.{declares, home_in}
use Rattle.class_desc.proofs.classes.home_of.Given as goal

abbrev pub invariant-loop-turn : goal.invariant-loop-turn
invariant-loop-turn l = topmost (declares l.attributes l.name) l.found (line l.infos (length l.infos - l._turn) l.class) ≡ home_in l.infos l.attributes l.c l.name
