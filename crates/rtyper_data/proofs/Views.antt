-- Operands of a list, as plain data.
use Rattle.std.proofs.Common.{◌≡◌, ℕ, List, slice_get}
use Rattle.std.specs.Prelude.{option_map}
use Rattle.std.proofs.lemmas.Option.{slice_get-map}
use Rattle.rtyper_data.specs.declared.body.Operand.{Operand}
use Rattle.rtyper_data.specs.Seen.{the_operand, the_operands}

pub at_place : (args : List Operand) (i : ℕ) → slice_get (the_operands args) i ≡ option_map the_operand (slice_get args i)
at_place args i = slice_get-map the_operand args i
