-- When a helper is an operation, in every program in which its graph and those that it calls stand at their numbers.
use Rattle.std.specs.Prelude.{◌≡◌, ◌<◌, ◌^◌, ℕ, true, false, List, [], ◌∷◌, slice_get, Some, pos, int_lt, if◌then◌else◌}
use Rattle.rpy_tree.specs.Value.{Value as Meant, Word}
use Rattle.rpy_meaning.specs.declared.row.RowOp.{RowOp}
use Rattle.rpy_meaning.specs.declared.row.RowOp.TheVariants as row
use Rattle.rpy_meaning.specs.Classes.{no_covers}
use Rattle.rpy_tree.specs.Meaning.{printed}
use Rattle.rpy_meaning.specs.Operations.{op, write_if_any}
use Rattle.rpy_meaning.specs.Tree.{Program}
use Rattle.rpy_meaning.specs.World.{World, Op, bad}
use Rattle.csub_tree.specs.State.{Value, Core, Word as Number}
use Rattle.ll_code.specs.State.{Frame, Calling}
use Rattle.ll_code.specs.declared.program.LlType.{LlType}
use Rattle.ll_code.specs.declared.program.LlType.TheVariants as type
use Rattle.ll_code.specs.declared.program.LlProgram.{LlProgram}
use Rattle.ll_code.specs.declared.program.LlBlock.{LlBlock}
use Rattle.ll_code.specs.declared.program.LlGraph.{LlGraph}
use Rattle.ll_live.specs.Live.{among, handler_variable, live}
use Rattle.ll_helpers.specs.Helpers.{graph_for, shared_graph}
use Rattle.ll_build.specs.Needs.{uses, names_texts}
use Rattle.ll_build.specs.declared.needs.Helper.{Helper}
use Rattle.ll_build.specs.declared.needs.Helper.TheVariants as helper
use Rattle.ll_build.specs.declared.needs.Numbers.{Numbers}
use Rattle.ll_build.specs.declared.needs.Shared.{Shared}
use Rattle.ll_build.specs.declared.needs.Shared.TheVariants as shared
use Rattle.ll_texts.specs.Texts.{HasText, HasStatics}
use Rattle.ll_texts.specs.Stands.{Stands}
use Rattle.ll_texts.specs.Follows.{Follows}

-- the number of a graph that helpers call
abbrev pub number_in : Numbers → Shared → ℕ
number_in n shared.PrintDigits = n.print_digits
number_in n shared.PutBytes = n.put_bytes
number_in n shared.CopyBytes = n.copy_bytes
number_in n shared.StringPart = n.string_part
number_in n shared.RepeatBytes = n.repeat_bytes
number_in n shared.AlikeBytes = n.alike_bytes
number_in n shared.FindBytes = n.find_bytes
number_in n shared.LessBytes = n.less_bytes
number_in n shared.CountDigits = n.count_digits
number_in n shared.WriteDigits = n.write_digits
number_in n shared.IsSpace = n.is_space
number_in n shared.SkipForwards = n.skip_forwards
number_in n shared.SkipBackwards = n.skip_backwards

-- The graph of the helper has this number, and those that it uses have theirs; struct 0 is that of strings; the static strings are
-- there, where they are named; and fewer steps are left than the cost for which none suffice.
pub record HasHelper (p : LlProgram) (numbers : Numbers) (helper : Helper) (f : ℕ) (core : Core) : Type 0 where
  pub graph : slice_get p.graphs f ≡ Some (graph_for numbers helper)
  pub shared : (g : Shared) → uses g helper ≡ true → slice_get p.graphs (number_in numbers g) ≡ Some (shared_graph numbers g)
  pub text : HasText p
  pub statics : names_texts helper ≡ true → HasStatics p numbers.table core.statics
  pub small : core.steps < 2 ^ 62

-- a helper that takes one value of this type, and gives one of that type, is what is done with it
abbrev pub Does : Helper → LlType → LlType → (Program → Meant → Op) → Type 0
Does helper takes result does =
    (program : Program) (p : LlProgram) (args : List (List ℕ)) (numbers : Numbers) (f : ℕ) (frames : List Frame) (core : Core) (w : World)
    → HasHelper p numbers helper f core → w.left ≡ core.steps → (x : Value) (v : Meant) → Stands core.blocks core.statics takes x v
    → Follows p args (Calling f (x ∷ []) frames core) frames core result w (does program v w)

-- of two values
abbrev pub DoesTwo : Helper → LlType → LlType → LlType → (Program → Meant → Meant → Op) → Type 0
DoesTwo helper takes also result does =
    (program : Program) (p : LlProgram) (args : List (List ℕ)) (numbers : Numbers) (f : ℕ) (frames : List Frame) (core : Core) (w : World)
    → HasHelper p numbers helper f core → w.left ≡ core.steps → (x y : Value) (v u : Meant) → Stands core.blocks core.statics takes x v → Stands core.blocks core.statics also y u
    → Follows p args (Calling f (x ∷ y ∷ []) frames core) frames core result w (does program v u w)

-- of three
abbrev pub DoesThree : Helper → LlType → LlType → LlType → LlType → (Program → Meant → Meant → Meant → Op) → Type 0
DoesThree helper takes also third result does =
    (program : Program) (p : LlProgram) (args : List (List ℕ)) (numbers : Numbers) (f : ℕ) (frames : List Frame) (core : Core) (w : World)
    → HasHelper p numbers helper f core → w.left ≡ core.steps → (x y z : Value) (v u s : Meant) → Stands core.blocks core.statics takes x v → Stands core.blocks core.statics also y u → Stands core.blocks core.statics third z s
    → Follows p args (Calling f (x ∷ y ∷ z ∷ []) frames core) frames core result w (does program v u s w)

-- the helper is the operation
abbrev pub Is : Helper → LlType → LlType → RowOp → Type 0
Is helper takes result o = Does helper takes result (λ program v. op program no_covers o (v ∷ []))

abbrev pub IsTwo : Helper → LlType → LlType → LlType → RowOp → Type 0
IsTwo helper takes also result o = DoesTwo helper takes also result (λ program v u. op program no_covers o (v ∷ u ∷ []))

abbrev pub IsThree : Helper → LlType → LlType → LlType → LlType → RowOp → Type 0
IsThree helper takes also third result o = DoesThree helper takes also third result (λ program v u s. op program no_covers o (v ∷ u ∷ s ∷ []))

-- it prints one value, as `print` does
abbrev pub Shows : Helper → LlType → Type 0
Shows helper takes = Does helper takes type.Void (λ program v. write_if_any (printed v))

-- the next number of a range that rises by a step, of one that falls
abbrev pub rising : Program → Meant → Meant → Meant → Op
rising program end i (Word step) = if int_lt (pos 0) step then op program no_covers (row.Advance (Some step)) (end ∷ i ∷ []) else bad
rising program end i other = bad

abbrev pub falling : Program → Meant → Meant → Meant → Op
falling program end i (Word step) = if int_lt step (pos 0) then op program no_covers (row.Advance (Some step)) (end ∷ i ∷ []) else bad
falling program end i other = bad

-- each block of the graph reads its inputs alone, and what it sets itself
abbrev pub ReadsInputsAlone : LlGraph → Type 0
ReadsInputsAlone graph = (n : ℕ) (block : LlBlock) → slice_get graph.blocks n ≡ Some block → (v : ℕ) → live block.ops block.exit v ≡ true → among v block.inputs ≡ true

-- the end of any string
abbrev pub any_end : Value
any_end = Number (pos 9223372036854775807)

-- A slice without a lower bound begins at 0, one without an upper bound stops at the end of any string.
abbrev pub SlicesUpTo : RowOp → Type 0
SlicesUpTo o =
    (program : Program) (p : LlProgram) (args : List (List ℕ)) (numbers : Numbers) (f : ℕ) (frames : List Frame) (core : Core) (w : World)
    → HasHelper p numbers helper.StrSlice f core → w.left ≡ core.steps → (x y : Value) (v u : Meant) → Stands core.blocks core.statics (type.Ptr 0) x v → Stands core.blocks core.statics type.Signed y u
    → Follows p args (Calling f (x ∷ Number (pos 0) ∷ y ∷ []) frames core) frames core (type.Ptr 0) w (op program no_covers o (v ∷ u ∷ []) w)

abbrev pub SlicesFrom : RowOp → Type 0
SlicesFrom o =
    (program : Program) (p : LlProgram) (args : List (List ℕ)) (numbers : Numbers) (f : ℕ) (frames : List Frame) (core : Core) (w : World)
    → HasHelper p numbers helper.StrSlice f core → w.left ≡ core.steps → (x y : Value) (v u : Meant) → Stands core.blocks core.statics (type.Ptr 0) x v → Stands core.blocks core.statics type.Signed y u
    → Follows p args (Calling f (x ∷ y ∷ any_end ∷ []) frames core) frames core (type.Ptr 0) w (op program no_covers o (v ∷ u ∷ []) w)

abbrev pub SlicesAll : RowOp → Type 0
SlicesAll o =
    (program : Program) (p : LlProgram) (args : List (List ℕ)) (numbers : Numbers) (f : ℕ) (frames : List Frame) (core : Core) (w : World)
    → HasHelper p numbers helper.StrSlice f core → w.left ≡ core.steps → (x : Value) (v : Meant) → Stands core.blocks core.statics (type.Ptr 0) x v
    → Follows p args (Calling f (x ∷ Number (pos 0) ∷ any_end ∷ []) frames core) frames core (type.Ptr 0) w (op program no_covers o (v ∷ []) w)

-- no block of the graph catches an exception
abbrev pub CatchesNothing : LlGraph → Type 0
CatchesNothing graph = (n : ℕ) (block : LlBlock) → slice_get graph.blocks n ≡ Some block → (v : ℕ) → handler_variable block.exit v ≡ false
