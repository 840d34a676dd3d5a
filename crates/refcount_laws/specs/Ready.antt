-- What is asked of a state before an operation that stays in its block, by what the operation is.
use Rattle.std.specs.Prelude.{◌≡◌, ◌<◌, ◌^◌, ℕ, pos, true, List, length, slice_get, Option, Some, None}
use Rattle.csub_tree.specs.State.{Value, Word, Ptr, Static, Block, Core}
use Rattle.csub_tree.specs.Layout.{shape_at, place, begins_with}
use Rattle.csub_tree.specs.Statement.{read, operand}
use Rattle.csub_tree.specs.declared.tree.COperand.{COperand}
use Rattle.ll_code.specs.Machine.{shapes_of}
use Rattle.ll_code.specs.declared.program.LlOp.{LlOp}
use Rattle.ll_code.specs.declared.program.LlOp.TheVariants as op
use Rattle.ll_code.specs.declared.program.LlType.{LlType}
use Rattle.ll_code.specs.declared.program.LlType.TheVariants as type
use Rattle.ll_code.specs.declared.program.LlStruct.{LlStruct}
use Rattle.ll_code.specs.declared.program.LlProgram.{LlProgram}
use Rattle.refcount_transform.specs.Plan.{plan_of, is_counted, fields_of, field_referred, items_referred}
use Rattle.refcount_transform.specs.Changes.{around_of, var_referred}
use Rattle.refcount_laws.specs.Made.{counts_of}
use Rattle.refcount_laws.specs.Touched.{block_in}
use Rattle.refcount_laws.specs.Matches.{PointsTo}
use Rattle.refcount_laws.specs.Before.{MayStand, SetsUnread, MayTakeField, MayTakeItem}

-- a reference is written into a block, and not into a static
abbrev pub InBlock : Core → ℕ → Option ℕ → Type 0
InBlock core v o = (m s : ℕ) → o ≡ Some m → read core.vars v ≡ Static s → ⊥

-- what is given leads where the field or the items do
abbrev pub MayBeGiven : LlProgram → Core → Option ℕ → COperand → Type 0
MayBeGiven p core None x = Unit {0}
MayBeGiven p core (Some m) x = PointsTo p core.blocks core.statics m (operand core.vars x)

-- what is written into the field that has the number of the items of an array of references is that number
abbrev pub KeepsNumber : LlProgram → Core → ℕ → ℕ → ℕ → COperand → Type 0
KeepsNumber p core n v i x = (b m : ℕ) (block : Block) → read core.vars v ≡ Ptr b → block_in core.blocks b ≡ Some block → begins_with (shapes_of p.structs) block.kind n ≡ true → (counts_of (plan_of p)).items block.kind ≡ Some m
    → (counts_of (plan_of p)).number_at block.kind ≡ place (shape_at (shapes_of p.structs) n) i → operand core.vars x ≡ Word (pos (length block.items))

-- a block of a struct that is counted is made, for a variable that may hold it
pub record MayMake (p : LlProgram) (types : List LlType) (core : Core) (a n : ℕ) : Type 0 where
  pub struct : LlStruct
  pub there : slice_get p.structs n ≡ Some struct
  pub counted : is_counted (plan_of p) n ≡ true
  pub to : ℕ
  pub refers : var_referred (around_of (plan_of p) types) a ≡ Some to
  pub begins : begins_with (shapes_of p.structs) n to ≡ true
  pub inside : a < length core.vars

-- where its items are references, their number has a field, and fits a word
pub record MayFill (p : LlProgram) (core : Core) (n : ℕ) (x : COperand) : Type 0 where
  pub number : (m : ℕ) → items_referred (plan_of p) n ≡ Some m → slice_get (fields_of (plan_of p) n) 0 ≡ Some type.Signed
  pub short : (m k : ℕ) → items_referred (plan_of p) n ≡ Some m → operand core.vars x ≡ Word (pos k) → k < 2 ^ 63

-- the slot holds what the variable may, and what is owned has it
pub record MayTakeSlot (p : LlProgram) (types : List LlType) (own : Value → ℕ) (core : Core) (a : ℕ) (v : Value) : Type 0 where
  pub inside : a < length core.vars
  pub may : MayStand p types core a v
  pub held : (m : ℕ) → v ≡ Ptr m → 0 < own (Ptr m)

abbrev pub Ready : LlProgram → List LlType → (Value → ℕ) → Core → LlOp → Type 0
Ready p types own core (op.Set a x) = SetsUnread p types a (op.Set a x) × MayStand p types core a (operand core.vars x)
Ready p types own core (op.GetField a n v i) = SetsUnread p types a (op.GetField a n v i) × MayTakeField p types core a n v i
Ready p types own core (op.GetItem a n v x) = SetsUnread p types a (op.GetItem a n v x) × MayTakeItem p types core a n v
Ready p types own core (op.SetField n v i x) = InBlock core v (field_referred (plan_of p) n i) × KeepsNumber p core n v i x × MayBeGiven p core (field_referred (plan_of p) n i) x × (is_counted (plan_of p) n ≡ true)
Ready p types own core (op.SetItem n v i x) = InBlock core v (items_referred (plan_of p) n) × MayBeGiven p core (items_referred (plan_of p) n) x × (is_counted (plan_of p) n ≡ true)
Ready p types own core (op.New a m n) = MayMake p types core a n
Ready p types own core (op.NewArray a m n x) = MayMake p types core a n × SetsUnread p types a (op.NewArray a m n x) × MayFill p core n x
Ready p types own core (op.ExcType a n) = MayTakeSlot p types own core a core.exc_type
Ready p types own core (op.ExcValue a n) = MayTakeSlot p types own core a core.exc_value
Ready p types own core (op.Unary a o x) = Unit {0}
Ready p types own core (op.Binary a o x y) = Unit {0}
Ready p types own core (op.Step x) = Unit {0}
Ready p types own core (op.Argc a) = Unit {0}
Ready p types own core (op.ArgLen a x) = Unit {0}
Ready p types own core (op.Arg a x y) = Unit {0}
Ready p types own core (op.Put x) = Unit {0}
Ready p types own core other = ⊥
