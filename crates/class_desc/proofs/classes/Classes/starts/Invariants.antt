use Rattle.std.proofs.Common.{◌≡◌, ◌-◌, length}
use Rattle.class_desc.specs.Line.{line}
use Rattle.class_desc.specs.Tables.{from_classes, starts}
use Rattle.class_desc.proofs.classes.Classes.starts.Given as goal

abbrev pub invariant-loop-turn : goal.invariant-loop-turn
invariant-loop-turn l = from_classes l.self l.c (line l.self.classes (length l.self.classes - l._turn) l.class) l.starts ≡ starts l.self l.c
