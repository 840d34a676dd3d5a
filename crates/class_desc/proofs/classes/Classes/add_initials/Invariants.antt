use Rattle.std.proofs.Common.{◌≡◌, drop}
use Rattle.class_desc.specs.Tables.{with_initials}
use Rattle.class_desc.proofs.classes.Classes.add_initials.Given as goal

abbrev pub invariant-loop-constant : goal.invariant-loop-constant
invariant-loop-constant l = with_initials l.self l.c (drop l.constant-index l.constants) l.starts ≡ with_initials l.self l.c l.constants l.fn.starts
