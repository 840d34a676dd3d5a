use Rattle.std.proofs.Common.{◌≡◌, reverse, length}
use Rattle.rtyper_program.specs.Cuts.{pieces_from}
use Rattle.rtyper_program.proofs.cuts.pieces_of.Given as goal

abbrev pub invariant-loop-op : goal.invariant-loop-op
invariant-loop-op l = pieces_from l.found l.least (reverse l.left) l.pieces ≡ pieces_from l.found l.initial.least (reverse l.initial.left) l.initial.pieces

abbrev pub decreases-loop-op : goal.decreases-loop-op
decreases-loop-op l = length l.left
