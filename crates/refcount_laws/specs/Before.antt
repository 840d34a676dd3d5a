-- Where a counted program stands before an operation of its program, and what is asked there.
use Rattle.std.specs.Prelude.{◌≡◌, ℕ, ◌+◌, Bool, true, false, List, ◌∷◌, length, slice_get, Option, Some, Ok}
use Rattle.csub_tree.specs.State.{Value, Ptr, Block, Core}
use Rattle.csub_tree.specs.Layout.{shape_at, place}
use Rattle.csub_tree.specs.Operation.{is_unset}
use Rattle.csub_tree.specs.Statement.{read, reached}
use Rattle.ll_code.specs.State.{Frame, At}
use Rattle.ll_code.specs.Machine.{does, shapes_of}
use Rattle.ll_code.specs.declared.program.LlOp.{LlOp}
use Rattle.ll_code.specs.declared.program.LlOp.TheVariants as op
use Rattle.ll_code.specs.declared.program.LlExit.{LlExit}
use Rattle.ll_code.specs.declared.program.LlType.{LlType}
use Rattle.ll_code.specs.declared.program.LlProgram.{LlProgram}
use Rattle.ll_live.specs.Live.{among, reads, live}
use Rattle.refcount_transform.specs.Plan.{plan_of}
use Rattle.refcount_transform.specs.Changes.{around_of, var_referred, changed, touched, dead}
use Rattle.refcount_transform.specs.Counted.{counted}
use Rattle.refcount_laws.specs.Made.{counts_of}
use Rattle.refcount_laws.specs.Ghost.{Ghost, memory, IsCounted}
use Rattle.refcount_laws.specs.Runs.{here}
use Rattle.refcount_laws.specs.Owned.{owned, Roomy}
use Rattle.refcount_laws.specs.Matches.{PointsTo, Pointing, AllRoots, Stands, Follows}

-- the counts are right for what is live there and `own`, and have room
pub record Before (p : LlProgram) (types : List LlType) (own : Value → ℕ) (o : LlOp) (ops : List LlOp) (e : LlExit) (core qcore : Core) (g : Ghost) (h : List (Option Block)) : Type 0 where
  pub roots : AllRoots p types
  pub fits : length core.vars ≡ length types
  pub stands : Stands p core qcore g h
  pub pointing : Pointing p types core.blocks core.statics (live (o ∷ ops) e) core.vars
  pub counts : IsCounted (counted p) (counts_of (plan_of p)) g (λ r. owned (around_of (plan_of p) types) (live (o ∷ ops) e) core.vars r + own r)
  pub room : Roomy g 1

-- the counted program follows the operation, and stands before the rest of the block then
abbrev pub IsFollowed : LlProgram → List (List ℕ) → List LlType → (Value → ℕ) → LlOp → List LlOp → List LlOp → LlExit → LlExit → List Frame → ℕ → ℕ → Core → Core → Ghost → List (Option Block) → Type 0
IsFollowed p args types own o ops rest e ex frames b at core qcore g h =
    Follows p args types (live ops e) own (At (changed (around_of (plan_of p) types) o (dead (around_of (plan_of p) types) (touched o) ops e rest)) ex frames (here qcore core.function b at core.vars h (memory g))) rest ex frames b (does p args core o)

-- an operation on words, bytes, steps, arguments or output
abbrev pub is_of_words : LlOp → Bool
is_of_words (op.Unary a o x) = true
is_of_words (op.Binary a o x y) = true
is_of_words (op.Step x) = true
is_of_words (op.Argc a) = true
is_of_words (op.ArgLen a x) = true
is_of_words (op.Arg a x y) = true
is_of_words (op.Put x) = true
is_of_words other = false

-- the value leads where the variable refers to, and is no block where that refers to nothing that is counted
pub record MayStand (p : LlProgram) (types : List LlType) (core : Core) (a : ℕ) (v : Value) : Type 0 where
  pub points : (n : ℕ) → var_referred (around_of (plan_of p) types) a ≡ Some n → PointsTo p core.blocks core.statics n v
  pub refers : (m : ℕ) → v ≡ Ptr m → (n : ℕ) × (var_referred (around_of (plan_of p) types) a ≡ Some n)

-- an operation sets no reference that it reads
abbrev pub SetsUnread : LlProgram → List LlType → ℕ → LlOp → Type 0
SetsUnread p types a o = (n : ℕ) → var_referred (around_of (plan_of p) types) a ≡ Some n → among a (reads o) ≡ false

-- what stands in a field, or in an item, of what the variable reaches, may be taken by the other
abbrev pub MayTakeField : LlProgram → List LlType → Core → ℕ → ℕ → ℕ → ℕ → Type 0
MayTakeField p types core a n v i = (block : Block) → reached core (shapes_of p.structs) n (read core.vars v) ≡ Ok block → is_unset (read block.fields (place (shape_at (shapes_of p.structs) n) i)) ≡ false
    → MayStand p types core a (read block.fields (place (shape_at (shapes_of p.structs) n) i))

abbrev pub MayTakeItem : LlProgram → List LlType → Core → ℕ → ℕ → ℕ → Type 0
MayTakeItem p types core a n v = (block : Block) (i : ℕ) → reached core (shapes_of p.structs) n (read core.vars v) ≡ Ok block → is_unset (read block.items i) ≡ false → MayStand p types core a (read block.items i)

-- no block stands in a static
abbrev pub NoBlocksIn : List Block → Type 0
NoBlocksIn statics = (s : ℕ) (block : Block) → slice_get statics s ≡ Some block → ((j m : ℕ) → read block.fields j ≡ Ptr m → ⊥) × ((j m : ℕ) → read block.items j ≡ Ptr m → ⊥)
