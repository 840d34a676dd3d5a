use Rattle.std.proofs.Common.{◌≡◌, ◌-◌, length}
use Rattle.rtyper_layout.specs.Families.{top_within, top_of}
use Rattle.rtyper_layout.proofs.classes.top_of.Given as goal

abbrev pub invariant-loop-seen : goal.invariant-loop-seen
invariant-loop-seen l = top_within l.classes.classes (length l.classes.classes - l.seen) l.at ≡ top_of l.classes.classes l.class
