use Rattle.std.proofs.Common.{◌≡◌, drop, map, pos}
use Rattle.rtyper_op.specs.Mapped.{hash_of, with_parts}
use Rattle.rtyper_op.proofs.mapped.+hash.Given as goal

abbrev pub invariant-hash_of_parts-loop-part : goal.invariant-hash_of_parts-loop-part
invariant-hash_of_parts-loop-part l = with_parts l.h (map (hash_of l.layout) (drop l.part-index l.parts)) l.rest ≡ with_parts (pos 0) (map (hash_of l.layout) l.parts) l.initial.rest
