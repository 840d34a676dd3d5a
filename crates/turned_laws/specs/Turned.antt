-- Blocks that do what others do: under other names, joined along ways, and without copies.
use Rattle.std.specs.Prelude.{◌≡◌, ℕ, suc, ◌&&◌, Bool, true, false, List, [], ◌∷◌, ◌++◌, slice_get, Option, Some, None}
use Rattle.csub_tree.specs.declared.tree.COperand.{COperand}
use Rattle.csub_tree.specs.declared.tree.COperand.TheVariants.{Var, Const}
use Rattle.ll_code.specs.declared.program.LlType.{LlType}
use Rattle.ll_code.specs.declared.program.LlLink.{LlLink}
use Rattle.ll_code.specs.declared.program.LlOp.{LlOp}
use Rattle.ll_code.specs.declared.program.LlOp.TheVariants as op
use Rattle.ll_code.specs.declared.program.LlExit.{LlExit}
use Rattle.ll_code.specs.declared.program.LlExit.TheVariants as exit
use Rattle.ll_code.specs.declared.program.LlBlock.{LlBlock}
use Rattle.ll_code.specs.declared.program.LlGraph.{LlGraph}
use Rattle.ll_code.specs.declared.program.LlProgram.{LlProgram}
use Rattle.ll_code.specs.Typed.{IsWellTyped}
use Rattle.ll_code.specs.Meaning.{Meant, LMeans}
use Rattle.ll_live.specs.Live.{among, variables_in, set_by, live}
use Rattle.ll_joined.specs.Named.{Naming, name_of, value_of, operand_by, named, number_of, exit_by}
use Rattle.ll_joined.specs.Counted.{are_some}
use Rattle.ll_joined.specs.Joined.{constants_of}
use Rattle.joined_laws.specs.Renamed.{asked}
use Rattle.turned_laws.specs.Ordered.{IsOrdered}

-- ---- names

-- what stands where no constant can
abbrev pub asked_of : LlOp → List ℕ
asked_of (op.CallFn into result params b xs) = b ∷ []
asked_of (op.Raise a) = a ∷ []
asked_of other = asked other

abbrev pub asked_at : LlExit → List ℕ
asked_at (exit.If a there elsewhere) = a ∷ []
asked_at (exit.Raise a) = a ∷ []
asked_at (exit.Raised a) = a ∷ []
asked_at other = []

abbrev pub AreVariables : Naming → List ℕ → Type 0
AreVariables names vs = (v : ℕ) → among v vs ≡ true → value_of names v ≡ Var (name_of names v)

-- the variable has its own name, which is none of another one that is read
pub record KeepsName (names : Naming) (a : ℕ) (is_read : ℕ → Bool) : Type 0 where
  pub own : value_of names a ≡ Var a
  pub others : (v : ℕ) → is_read v ≡ true → (a ≡ v → ⊥) → value_of names v ≡ Var a → ⊥

abbrev pub KeepsNames : Naming → Option ℕ → (ℕ → Bool) → Type 0
KeepsNames names None is_read = Unit {0}
KeepsNames names (Some a) is_read = KeepsName names a is_read

-- so has the variable of an exception
abbrev pub KeepsCaught : Naming → LlExit → Type 0
KeepsCaught names (exit.OnRaise a (Some by) without) = KeepsName names a (λ v. among v (variables_in by.args))
KeepsCaught names (exit.OnRaise a None without) = value_of names a ≡ Var a
KeepsCaught names other = Unit {0}

-- an exit by the exceptions of the last operation
abbrev pub catches : LlExit → Bool
catches (exit.OnRaise a by without) = true
catches other = false

-- an input is called as what is passed on, or, where that is a constant, has its own name
abbrev pub IsPassed : Naming → Naming → List ℕ → ℕ → COperand → Type 0
IsPassed names next inputs v (Var w) = value_of next v ≡ value_of names w
IsPassed names next inputs v (Const c) = KeepsName next v (λ u. among u inputs)

abbrev pub ArePassed : Naming → Naming → List ℕ → List ℕ → List COperand → Type 0
ArePassed names next inputs [] [] = Unit {0}
ArePassed names next inputs (v ∷ vs) (x ∷ xs) = IsPassed names next inputs v x × ArePassed names next inputs vs xs
ArePassed names next inputs vs xs = ⊥

-- ---- what is left of a block

module _ (heads : ℕ → Bool) where
  abbrev pub leads_if : Option LlLink → Bool
  leads_if None = true
  leads_if (Some link) = heads link.to

  -- the links lead to these blocks
  abbrev pub leads : LlExit → Bool
  leads (exit.Goto link) = heads link.to
  leads (exit.If a there elsewhere) = heads there.to && heads elsewhere.to
  leads (exit.OnRaise a by without) = leads_if by && heads without.to
  leads other = true

-- where the type of a variable is looked at, it is that of its name
abbrev pub KeepsType : List LlType → Naming → LlExit → Type 0
KeepsType types names (exit.Raised a) = slice_get types (name_of names a) ≡ slice_get types a
KeepsType types names other = Unit {0}

module _ (types : List LlType) (blocks : List LlBlock) (numbers : List ℕ) (heads : ℕ → Bool) where
  -- Under these names, the second operations and exit do what the first ones do: they end by the same exit, whose links have other numbers; or begin
  -- with the same operation; or leave out a copy; or go on as the block to which the first ones lead. So many moves of the first ones are left out
  -- before the next operation.
  pub data Turned : ℕ → Naming → List LlOp → LlExit → List LlOp → LlExit → Type 0 where
    Ended : (names : Naming) (e : LlExit) → leads heads e ≡ true → AreVariables names (asked_at e) → KeepsCaught names e → KeepsType types names e → Turned 0 names [] e [] (exit_by names numbers e)
    Kept : (n : ℕ) (names : Naming) (o : LlOp) (ops made : List LlOp) (e ends : LlExit) → AreVariables names (asked_of o) → KeepsNames names (set_by o) (λ v. live ops e v) → Turned n names ops e made ends
        → Turned 0 names (o ∷ ops) e (named names o ∷ made) ends
    Copied : (n : ℕ) (names next : Naming) (a : ℕ) (x : COperand) (ops made : List LlOp) (e ends : LlExit) → (catches e ≡ true → are_some ops ≡ true)
        → value_of next a ≡ operand_by names x → ((v : ℕ) → live ops e v ≡ true → (a ≡ v → ⊥) → value_of next v ≡ value_of names v) → Turned n next ops e made ends → Turned (suc n) names (op.Set a x ∷ ops) e made ends
    Joined : (n : ℕ) (names next : Naming) (link : LlLink) (block : LlBlock) (made : List LlOp) (ends : LlExit) → slice_get blocks link.to ≡ Some block → (catches block.exit ≡ true → are_some block.ops ≡ true)
        → ArePassed names next block.inputs block.inputs link.args → Turned n next block.ops block.exit made ends → Turned (suc n) names [] (exit.Goto link) (constants_of block.inputs link.args ++ made) ends

  -- the second block does what the first one does: its inputs have their own names
  pub record IsTurned (block made : LlBlock) : Type 0 where
    pub inputs : made.inputs ≡ block.inputs
    pub names : Naming
    pub own : (v : ℕ) → among v block.inputs ≡ true → value_of names v ≡ Var v
    pub moves : ℕ
    pub text : Turned moves names block.ops block.exit made.ops made.exit

  abbrev pub MayTurn : Option LlBlock → Option LlBlock → Type 0
  MayTurn None None = Unit {0}
  MayTurn (Some block) (Some made) = IsTurned block made
  MayTurn block made = ⊥

-- ---- programs

-- the first block does what it did, and so does each that a block leads to; there are no others
pub record GraphTurned (graph made : LlGraph) : Type 0 where
  pub name : made.name ≡ graph.name
  pub params : made.params ≡ graph.params
  pub result : made.result ≡ graph.result
  pub types : made.types ≡ graph.types
  pub numbers : List ℕ
  pub heads : ℕ → Bool
  pub first : heads 0 ≡ true
  pub first_number : number_of numbers 0 ≡ 0
  pub blocks : (n : ℕ) → heads n ≡ true → MayTurn graph.types graph.blocks numbers heads (slice_get graph.blocks n) (slice_get made.blocks (number_of numbers n))
  pub from : (m : ℕ) (block : LlBlock) → slice_get made.blocks m ≡ Some block → (n : ℕ) × (old : LlBlock) × (slice_get graph.blocks n ≡ Some old) × IsTurned graph.types graph.blocks numbers heads old block

abbrev pub MayTurnGraph : Option LlGraph → Option LlGraph → Type 0
MayTurnGraph None None = Unit {0}
MayTurnGraph (Some graph) (Some made) = GraphTurned graph made
MayTurnGraph graph made = ⊥

abbrev pub AreTurned : LlProgram → List LlGraph → Type 0
AreTurned p made = (f : ℕ) → MayTurnGraph (slice_get p.graphs f) (slice_get made f)

-- the same meanings
pub record MeanTheSame (p q : LlProgram) : Type 0 where
  pub means : (args : List (List ℕ)) (steps : ℕ) (meant : Meant) → LMeans p args steps meant → LMeans q args steps meant
  pub back : (args : List (List ℕ)) (steps : ℕ) (meant : Meant) → LMeans q args steps meant → LMeans p args steps meant

-- A program that is turned means the same, where each block reads its inputs alone.
abbrev pub TurnedMeanTheSame : Type 0
TurnedMeanTheSame = (p : LlProgram) (made : List LlGraph) → IsWellTyped p → IsOrdered p → AreTurned p made → MeanTheSame p (record p { graphs = made })
