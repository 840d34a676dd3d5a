-- When an operation under other names does what it did.
use Rattle.std.specs.Prelude.{◌≡◌, ◌<◌, ℕ, true, length, List, [], ◌∷◌, Option, option_map, Some, None}
use Rattle.csub_tree.specs.State.{Value, Core, After, Onward, Puts, Told, Over, Stuck}
use Rattle.csub_tree.specs.Statement.{read, operand, taken_by}
use Rattle.csub_tree.specs.declared.tree.COperand.TheVariants.{Var}
use Rattle.ll_code.specs.declared.program.LlOp.{LlOp}
use Rattle.ll_code.specs.declared.program.LlExit.{LlExit}
use Rattle.ll_code.specs.declared.program.LlOp.TheVariants as op
use Rattle.ll_code.specs.declared.program.LlGraph.{LlGraph}
use Rattle.ll_code.specs.declared.program.LlProgram.{LlProgram}
use Rattle.ll_code.specs.Machine.{does}
use Rattle.ll_live.specs.Live.{among, reads, set_by, live}
use Rattle.ll_joined.specs.Named.{Naming, name_of, value_of, named}

-- the same graph and the same memory; places and variables may differ
pub record Alike (core other : Core) : Type 0 where
  pub function : other.function ≡ core.function
  pub blocks : other.blocks ≡ core.blocks
  pub statics : other.statics ≡ core.statics
  pub exc_type : other.exc_type ≡ core.exc_type
  pub exc_value : other.exc_value ≡ core.exc_value
  pub steps : other.steps ≡ core.steps

-- both went on, and wrote the same value, if they wrote one: the first into `a`, the second into `b`
pub record Wrote (a b : Option ℕ) (old other_old core other : Core) : Type 0 where
  pub alike : Alike core other
  pub graph : core.function ≡ old.function
  pub written : Value
  pub vars : core.vars ≡ taken_by old.vars a written
  pub other_vars : other.vars ≡ taken_by other_old.vars b written

abbrev pub SameAfter : Option ℕ → Option ℕ → Core → Core → After → After → Type 0
SameAfter a b old other_old (Onward core) (Onward other) = Wrote a b old other_old core other
SameAfter a b old other_old (Puts byte core) (Puts other_byte other) = (other_byte ≡ byte) × Wrote a b old other_old core other
SameAfter a b old other_old (Told event core) (Told other_event other) = (other_event ≡ event) × Wrote a b old other_old core other
SameAfter a b old other_old (Over outcome core) (Over other_outcome other) = (other_outcome ≡ outcome) × (other.steps ≡ core.steps)
SameAfter a b old other_old (Stuck reason) (Stuck other_reason) = other_reason ≡ reason
SameAfter a b old other_old after other_after = ⊥

-- what stands where no constant can
abbrev pub asked : LlOp → List ℕ
asked (op.GetField a n b k) = b ∷ []
asked (op.SetField n b k x) = b ∷ []
asked (op.GetItem a n b i) = b ∷ []
asked (op.SetItem n b i x) = b ∷ []
asked (op.Free a) = a ∷ []
asked (op.ExcSet a b) = a ∷ b ∷ []
asked other = []

-- what the operation reads has the same value under its other name, which is a variable where one is asked for
pub record Finds (names : Naming) (o : LlOp) (vars other_vars : List Value) : Type 0 where
  pub values : (v : ℕ) → among v (reads o) ≡ true → operand other_vars (value_of names v) ≡ read vars v
  pub variables : (v : ℕ) → among v (asked o) ≡ true → value_of names v ≡ Var (name_of names v)

-- An operation that finds what it read under other names does the same, and sets the variable under its other name.
abbrev pub RenamedDoTheSame : Type 0
RenamedDoTheSame = (p : LlProgram) (graphs : List LlGraph) (args : List (List ℕ)) (names : Naming) (o : LlOp) (core other : Core) → Alike core other → Finds names o core.vars other.vars
    → SameAfter (set_by o) (option_map (name_of names) (set_by o)) core other (does p args core o) (does (record p { graphs = graphs }) args other (named names o))

-- ---- what is left of a block

-- what is left reads has the same value under its other name
abbrev pub Stands : Naming → List LlOp → LlExit → List Value → List Value → Type 0
Stands names ops e vars other_vars = (v : ℕ) → live ops e v ≡ true → operand other_vars (value_of names v) ≡ read vars v

-- the variable that is set has a name of its own among those that are read afterwards
pub record IsApart (names : Naming) (a : ℕ) (ops : List LlOp) (e : LlExit) : Type 0 where
  pub own : value_of names a ≡ Var (name_of names a)
  pub others : (v : ℕ) → live ops e v ≡ true → (a ≡ v → ⊥) → value_of names v ≡ Var (name_of names a) → ⊥

abbrev pub SetsApart : Naming → Option ℕ → List LlOp → LlExit → List Value → List Value → Type 0
SetsApart names None ops e vars other_vars = Unit {0}
SetsApart names (Some a) ops e vars other_vars = IsApart names a ops e × (a < length vars) × (name_of names a < length other_vars)

-- Where an operation wrote the same under other names, the rest finds what it reads as before.
abbrev pub RenamedStand : Type 0
RenamedStand = (names : Naming) (o : LlOp) (ops : List LlOp) (e : LlExit) (old other_old core other : Core) → Stands names (o ∷ ops) e old.vars other_old.vars → SetsApart names (set_by o) ops e old.vars other_old.vars
    → Wrote (set_by o) (option_map (name_of names) (set_by o)) old other_old core other → Stands names ops e core.vars other.vars
