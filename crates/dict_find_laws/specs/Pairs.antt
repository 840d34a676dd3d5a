-- Lists are made of the pairs of dicts, as tuples, where no key or value is converted on the way. They may have any type.
use Rattle.std.specs.Prelude.{◌≡◌, ◌<◌, ◌≤◌, ℕ, ◌+◌, List, [], ◌∷◌, ◌++◌, length, slice_get, Option, Some}
use Rattle.ann_element.specs.declared.element.Element.{Element}
use Rattle.rpy_tree.specs.Value.{Value as Meant, Ref, Object, Mapped, Heap}
use Rattle.rpy_meaning.specs.declared.row.Covers.{Covers}
use Rattle.rpy_meaning.specs.declared.row.RowOp.{RowOp}
use Rattle.rpy_meaning.specs.declared.row.RowOp.TheVariants as row
use Rattle.rpy_meaning.specs.Operations.{op}
use Rattle.rpy_meaning.specs.World.{World}
use Rattle.csub_tree.specs.State.{Value, Core}
use Rattle.ll_code.specs.State.{Frame, At}
use Rattle.ll_code.specs.declared.program.LlType.{LlType}
use Rattle.ll_code.specs.declared.program.LlOp.{LlOp}
use Rattle.ll_code.specs.declared.program.LlExit.{LlExit}
use Rattle.ll_code.specs.declared.program.LlProgram.{LlProgram}
use Rattle.ll_build.specs.declared.needs.Numbers.{Numbers}
use Rattle.rtyper_layout.specs.declared.dicts.Mapping.{Mapping}
use Rattle.rtyper_data.specs.declared.small.Keyed.TheVariants as keyed
use Rattle.rtyper_data.specs.declared.small.Small.TheVariants as small
use Rattle.rtyper_data.specs.Seen.{Around, Operand, Place, Writing}
use Rattle.rtyper_dict.specs.Lowering.{lower_dict_op}
use Rattle.lower_laws.specs.Asked.{Ask, Make, all_asked}
use Rattle.lower_laws.specs.Tuples.{IsTuple}
use Rattle.lower_laws.specs.Values.{AllBelow}
use Rattle.object_laws.specs.Done.{Follows, HasLayout, references}
use Rattle.object_laws.specs.Ghost.{Ghost}
use Rattle.object_laws.specs.Known.{Known}
use Rattle.object_laws.specs.Represents.{Represents}
use Rattle.object_laws.specs.Staying.{Stays}
use Rattle.object_laws.specs.Values.{Given}
use Rattle.dict_op_laws.specs.Dicts.{IsDictOf, there_asks}
use Rattle.list_copy_laws.specs.Joined.{Takes}
use Rattle.dict_find_laws.specs.Asked.{HasAll}
use Rattle.dict_find_laws.specs.Listings.{KeysAre}
use Rattle.dict_find_laws.specs.Lookups.{HasValues}

-- the pairs of a dict
abbrev pub pairs_in : Option Object → ℕ
pairs_in (Some (Mapped pairs)) = length pairs
pairs_in other = 0

-- those of the first operand
abbrev pub first_pairs : Heap → List Meant → ℕ
first_pairs heap (Ref i ∷ vs) = pairs_in (slice_get heap i)
first_pairs heap vs = 0

-- What is written behind what was there asks for this, and does what the operation does: in every program that has it at its numbers, over
-- every memory that represents the heap, whatever comes behind and waits. At most two blocks are made, and one for each pair of the first
-- operand.
pub record IsListedInPairs (known : Known) (around : Around) (o : RowOp) (covers : Covers) (asks : List Ask) (place : Place) (args : List Operand) (w : Writing) : Type 0 where
  pub ops : List LlOp
  pub new : List LlType
  pub asked : (lower_dict_op around o place args w).found ≡ all_asked asks w.found
  pub written : (lower_dict_op around o place args w).body.ops ≡ w.body.ops ++ ops
  pub types : (lower_dict_op around o place args w).body.types ≡ w.body.types ++ new
  pub follows : (p : LlProgram) (numbers : Numbers) (raised : ℕ → Value) (arguments : List (List ℕ)) (rest : List LlOp) (e : LlExit) (frames : List Frame) (core : Core) (g : Ghost) (world : World) (vs : List Meant)
      → HasLayout p around.layout → HasAll p around.layout numbers raised core asks w.found → Represents around.layout known g world.heap world.left core.blocks core.statics → world.left ≡ core.steps
      → length w.body.types + length new ≤ length core.vars → place.variable < length w.body.types → AllBelow (length w.body.types) args → Given known around g core args vs
      → Follows (2 + first_pairs world.heap vs) known around place p arguments (At (ops ++ rest) e frames core) rest e frames core g raised (references world.heap vs) (length w.body.types) world (op known.program covers o vs world)

-- by a method of this name: a list of the pairs, in order of insertion, at its cost
abbrev pub MethodsListPairs : List ℕ → Type 0
MethodsListPairs name = (site : Option ℕ) (known : Known) (around : Around) (place : Place) (a : Operand) (w : Writing) (n l t : ℕ) (m : Mapping) (key value item first second : Element) → IsDictOf around a n m → KeysAre around known m key → HasValues around known m value → Takes around known place l item
    → IsTuple around (Some item) t (first ∷ second ∷ []) → Stays around.layout known (Some key) (Some first) → Stays around.layout known (Some value) (Some second)
    → IsListedInPairs known around (row.Method name site) w.found.covered (there_asks around a w.found.covered ++ Make (small.Keyed (keyed.Items n l)) ∷ []) place (a ∷ []) w
