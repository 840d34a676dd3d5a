-- When a state of a program and one of the turned program stand at the same point.
use Rattle.std.proofs.Common.{◌≡◌, ◌<◌, ℕ, zero, suc, Bool, true, false, ◌||◌, ◌&&◌, not, ◌==◌, List, [], ◌∷◌, ◌++◌, length, map, Option, Some, None, refl, sym, ap, ◌∙◌, subst, arith, ◌⊎◌, inl, inr}
use Rattle.std.specs.Prelude.{slice_get, slice_set}
use Rattle.csub_tree.specs.State.{Value, Unset, Core}
use Rattle.csub_tree.specs.Layout.{constant}
use Rattle.csub_tree.specs.Operation.{is_unset}
use Rattle.csub_tree.specs.Statement.{read, operand, operands, taken_by, any_unset}
use Rattle.csub_tree.specs.declared.tree.CConst.{CConst}
use Rattle.csub_tree.specs.declared.tree.CConst.TheVariants as is
use Rattle.csub_tree.specs.declared.tree.COperand.{COperand}
use Rattle.csub_tree.specs.declared.tree.COperand.TheVariants.{Var, Const}
use Rattle.ll_code.specs.State.{Frame, State, Calling, At, Returning, Throwing}
use Rattle.ll_code.specs.declared.program.LlOp.{LlOp}
use Rattle.ll_code.specs.declared.program.LlExit.{LlExit}
use Rattle.ll_code.specs.declared.program.LlGraph.{LlGraph}
use Rattle.ll_code.specs.declared.program.LlProgram.{LlProgram}
use Rattle.ll_laws.proofs.Values.{is_same}
use Rattle.ll_live.specs.Live.{among, variables_of, variables_in, sets, live}
use Rattle.ll_joined.specs.Named.{Naming, ByPairs, ByPlaces, ByValues, name_of, value_of, operand_by, variable_or, value_or, by_pairs, or_own}
use Rattle.joined_laws.specs.Renamed.{Alike}
use Rattle.turned_laws.specs.Turned.{KeepsName, KeepsNames, Turned, GraphTurned}
use Rattle.turned_laws.proofs.Lists.{IsSet, known, differ, set_here, set_elsewhere, or_left, or_right, same}

-- ---- names

pub own_name : (names : Naming) (a : ℕ) → value_of names a ≡ Var a → name_of names a ≡ a
own_name (ByPairs pairs) a e = let f : by_pairs pairs a ≡ a = cc in f
own_name (ByPlaces places) a e = let f : or_own a (slice_get places a) ≡ a = cc in f
own_name (ByValues values) a e = one (slice_get values a) e
  where
    one : (o : Option COperand) → value_or a o ≡ Var a → variable_or a o ≡ a
    one None e = refl
    one (Some (Var w)) e = cc
    one (Some (Const c)) e = absurd (cc)

pub constant_set : (c : CConst) → IsSet (constant c)
constant_set (is.Word z) = refl
constant_set (is.Char b) = refl
constant_set (is.Bool b) = refl
constant_set (is.Fun f) = refl
constant_set is.Null = refl
constant_set (is.Static s g) = refl

-- ---- values under names

abbrev pub FindsAll : Naming → List ℕ → List Value → List Value → Type 0
FindsAll names vs vars others = (v : ℕ) → among v vs ≡ true → operand others (value_of names v) ≡ read vars v

pub among_left : (v : ℕ) (xs ys : List ℕ) → among v xs ≡ true → among v (xs ++ ys) ≡ true
among_left v [] ys h = absurd (cc)
among_left v (x ∷ xs) ys h = one (among_left v xs ys) (x == v) h
  where
    one : (among v xs ≡ true → among v (xs ++ ys) ≡ true) → (b : Bool) → (b || among v xs) ≡ true → (b || among v (xs ++ ys)) ≡ true
    one go true h = refl
    one go false h = go h

pub among_right : (v : ℕ) (xs ys : List ℕ) → among v ys ≡ true → among v (xs ++ ys) ≡ true
among_right v [] ys h = h
among_right v (x ∷ xs) ys h = or_right (x == v) (among v (xs ++ ys)) (among_right v xs ys h)

pub among_first : (v : ℕ) (vs : List ℕ) → among v (v ∷ vs) ≡ true
among_first v vs = or_left (v == v) (among v vs) (same v)

pub operand_same : (names : Naming) (vars others : List Value) (x : COperand) → FindsAll names (variables_of x) vars others → operand others (operand_by names x) ≡ operand vars x
operand_same names vars others (Var v) h = h v (among_first v [])
operand_same names vars others (Const c) h = refl

pub operands_same : (names : Naming) (vars others : List Value) (xs : List COperand) → FindsAll names (variables_in xs) vars others → operands others (map (operand_by names) xs) ≡ operands vars xs
operands_same names vars others [] h = refl
operands_same names vars others (x ∷ xs) h =
    ap (λ w. w ∷ operands others (map (operand_by names) xs)) (operand_same names vars others x (λ v e. h v (among_left v (variables_of x) (variables_in xs) e)))
    ∙ ap (λ l. operand vars x ∷ l) (operands_same names vars others xs (λ v e. h v (among_right v (variables_of x) (variables_in xs) e)))

pub operand_set : (vars : List Value) (x : COperand) → ((v : ℕ) → among v (variables_of x) ≡ true → IsSet (read vars v)) → IsSet (operand vars x)
operand_set vars (Var v) h = h v (among_first v [])
operand_set vars (Const c) h = constant_set c

pub operands_set : (vars : List Value) (xs : List COperand) → ((v : ℕ) → among v (variables_in xs) ≡ true → IsSet (read vars v)) → any_unset (operands vars xs) ≡ false
operands_set vars [] h = refl
operands_set vars (x ∷ xs) h =
    ap (λ b. b || any_unset (operands vars xs)) (operand_set vars x (λ v e. h v (among_left v (variables_of x) (variables_in xs) e)))
    ∙ operands_set vars xs (λ v e. h v (among_right v (variables_of x) (variables_in xs) e))

-- one that is set under its own name
pub set_stands : (names : Naming) (a : ℕ) (value : Value) (good : ℕ → Bool) (vars others : List Value) → KeepsName names a good → a < length vars → length others ≡ length vars → ((v : ℕ) → good v ≡ true → (a == v) ≡ false → operand others (value_of names v) ≡ read vars v)
    → (v : ℕ) → good v ≡ true → operand (slice_set others a value) (value_of names v) ≡ read (slice_set vars a value) v
set_stands names a value good vars others keeps lt size h v g = one (known (a == v))
  where
    here : operand (slice_set others a value) (value_of names a) ≡ read (slice_set vars a value) a
    here = ap (operand (slice_set others a value)) keeps.own ∙ set_here others a value Unset (omega (arith, lt, size)) ∙ sym (set_here vars a value Unset lt)

    elsewhere : (a ≡ v → ⊥) → (x : COperand) → value_of names v ≡ x → operand (slice_set others a value) x ≡ operand others x
    elsewhere ne (Const c) is = refl
    elsewhere ne (Var u) is = set_elsewhere others a u value Unset (λ e. keeps.others v g ne (is ∙ ap Var (sym e)))

    one : (a == v) ≡ true ⊎ (a == v) ≡ false → operand (slice_set others a value) (value_of names v) ≡ read (slice_set vars a value) v
    one (inl e) = subst (λ v. operand (slice_set others a value) (value_of names v) ≡ read (slice_set vars a value) v) (is_same a v e) here
    one (inr e) = elsewhere (differ a v e) (value_of names v) refl ∙ h v g e ∙ sym (set_elsewhere vars a v value Unset (differ a v e))

-- the result of a call, or of an operation, comes under its own name
pub taken_stands : (names : Naming) (into : Option ℕ) (value : Value) (good : ℕ → Bool) (vars others : List Value) → KeepsNames names into good → ((a : ℕ) → into ≡ Some a → a < length vars) → length others ≡ length vars
    → ((v : ℕ) → good v ≡ true → sets into v ≡ false → operand others (value_of names v) ≡ read vars v) → (v : ℕ) → good v ≡ true → operand (taken_by others into value) (value_of names v) ≡ read (taken_by vars into value) v
taken_stands names None value good vars others keeps lt size h v g = h v g refl
taken_stands names (Some a) value good vars others keeps lt size h v g = set_stands names a value good vars others keeps (lt a refl) size h v g

-- ---- states

module _ (p : LlProgram) (made : List LlGraph) where
  -- the graph in both programs
  pub record InGraph (f : ℕ) : Type 0 where
    pub graph : LlGraph
    pub other : LlGraph
    pub of : slice_get p.graphs f ≡ Some graph
    pub other_of : slice_get made f ≡ Some other
    pub turned : GraphTurned graph other

  abbrev pub Text : (f : ℕ) → InGraph f → ℕ → Naming → List LlOp → LlExit → List LlOp → LlExit → Type 0
  Text f at n names ops e left ends = Turned at.graph.types at.graph.blocks at.turned.numbers at.turned.heads n names ops e left ends

  -- both wait for the same
  pub record FrameTurned (frame other : Frame) : Type 0 where
    pub f : ℕ
    pub is_in : frame.graph ≡ f
    pub graph : other.graph ≡ frame.graph
    pub into : other.into ≡ frame.into
    pub at : InGraph f
    pub moves : ℕ
    pub names : Naming
    pub text : Text f at moves names frame.ops frame.exit other.ops other.exit
    pub size : length other.vars ≡ length frame.vars
    pub stands : (v : ℕ) → live frame.ops frame.exit v ≡ true → sets frame.into v ≡ false → operand other.vars (value_of names v) ≡ read frame.vars v
    pub own : KeepsNames names frame.into (λ v. live frame.ops frame.exit v)

  abbrev pub FramesTurned : List Frame → List Frame → Type 0
  FramesTurned [] [] = Unit {0}
  FramesTurned (frame ∷ frames) (other ∷ others) = FrameTurned frame other × FramesTurned frames others
  FramesTurned frames others = ⊥

  -- what is left does the same
  pub record AtTurned (n : ℕ) (ops : List LlOp) (e : LlExit) (core : Core) (left : List LlOp) (ends : LlExit) (other : Core) : Type 0 where
    pub alike : Alike core other
    pub f : ℕ
    pub is_in : core.function ≡ f
    pub at : InGraph f
    pub names : Naming
    pub text : Text f at n names ops e left ends
    pub size : length other.vars ≡ length core.vars
    pub stands : (v : ℕ) → live ops e v ≡ true → operand other.vars (value_of names v) ≡ read core.vars v

  abbrev pub StateTurned : ℕ → State → State → Type 0
  StateTurned n (Calling f values frames core) (Calling g others behind other) = (g ≡ f) × (others ≡ values) × FramesTurned frames behind × Alike core other
  StateTurned n (At ops e frames core) (At left ends behind other) = AtTurned n ops e core left ends other × FramesTurned frames behind
  StateTurned n (Returning value frames core) (Returning given behind other) = (given ≡ value) × FramesTurned frames behind × Alike core other
  StateTurned n (Throwing value frames core) (Throwing given behind other) = (given ≡ value) × FramesTurned frames behind × Alike core other
  StateTurned n s t = ⊥
