-- The exceptions of a program.
use Rattle.std.specs.Prelude.{ℕ, List, [], ◌∷◌, slice_get, Option, Some, None}
use Rattle.ll_code.specs.declared.program.LlType.{LlType}
use Rattle.ll_code.specs.declared.program.LlStruct.{LlStruct}
use Rattle.ll_code.specs.declared.program.LlOp.{LlOp}
use Rattle.ll_code.specs.declared.program.LlOp.TheVariants as op
use Rattle.ll_code.specs.declared.program.LlExit.{LlExit}
use Rattle.ll_code.specs.declared.program.LlExit.TheVariants as exit
use Rattle.ll_code.specs.declared.program.LlBlock.{LlBlock}
use Rattle.ll_code.specs.declared.program.LlGraph.{LlGraph}
use Rattle.ll_code.specs.Typed.{base_of}
use Rattle.exc_transform.specs.declared.family.Family.{Family}
use Rattle.exc_transform.specs.Explicit.{led_to}

-- ---- the struct of the first exception

abbrev pub in_ops : List LlType → List LlOp → Option ℕ
in_ops types [] = None
in_ops types (op.Raise a ∷ ops) = led_to types a
in_ops types (other ∷ ops) = in_ops types ops

abbrev pub in_exit : List LlType → LlExit → Option ℕ
in_exit types (exit.OnRaise a by without) = led_to types a
in_exit types (exit.Raise a) = led_to types a
in_exit types other = None

abbrev pub or_found : Option ℕ → Option ℕ → Option ℕ
or_found None other = other
or_found (Some n) other = Some n

abbrev pub in_blocks : List LlType → List LlBlock → Option ℕ
in_blocks types [] = None
in_blocks types (block ∷ blocks) = or_found (in_ops types block.ops) (or_found (in_exit types block.exit) (in_blocks types blocks))

abbrev pub in_graphs : List LlGraph → Option ℕ
in_graphs [] = None
in_graphs (graph ∷ graphs) = or_found (in_blocks graph.types graph.blocks) (in_graphs graphs)

-- ---- roots

abbrev pub above : (ℕ → ℕ) → ℕ → Option ℕ → ℕ
above go n None = n
above go n (Some base) = go base

-- the base of the base, and so on, a time for each of these structs at most
abbrev pub root_within : List LlStruct → List LlStruct → ℕ → ℕ
root_within structs [] n = n
root_within structs (time ∷ times) n = above (root_within structs times) n (base_of (slice_get structs n))

abbrev pub first_of : Option LlStruct → Option ℕ
first_of None = None
first_of (Some s) = led_to s.fields 0

abbrev pub first_field : List LlStruct → ℕ → Option ℕ
first_field structs n = first_of (slice_get structs n)

abbrev pub root_from : List LlStruct → Option ℕ → ℕ
root_from structs None = 0
root_from structs (Some n) = root_within structs structs n

abbrev pub family_at : List LlStruct → ℕ → Family
family_at structs root = record { root = root; kind = first_field structs root }

abbrev pub family_of : List LlStruct → List LlGraph → Family
family_of structs graphs = family_at structs (root_from structs (in_graphs graphs))
