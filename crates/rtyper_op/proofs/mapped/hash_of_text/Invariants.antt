use Rattle.std.proofs.Common.{◌≡◌, drop, pos}
use Rattle.rtyper_op.specs.Mapped.{with_bytes}
use Rattle.rtyper_op.proofs.mapped.hash_of_text.Given as goal

abbrev pub invariant-loop-byte : goal.invariant-loop-byte
invariant-loop-byte l = with_bytes l.h (drop l.byte-index l.bytes) ≡ with_bytes (pos 0) l.bytes
