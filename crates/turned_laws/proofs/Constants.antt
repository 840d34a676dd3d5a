-- Where a block is joined, its inputs that are constants are set one after the other.
use Rattle.std.proofs.Common.{◌≡◌, ◌<◌, ℕ, zero, suc, ◌+◌, Bool, true, false, ◌||◌, ◌&&◌, not, ◌==◌, cond, List, [], ◌∷◌, ◌++◌, length, refl, sym, ap, ◌∙◌, subst, arith, ◌⊎◌, inl, inr}
use Rattle.std.specs.Prelude.{slice_set}
use Rattle.csub_tree.specs.State.{Value, Unset, Core, Stuck}
use Rattle.csub_tree.specs.Layout.{constant}
use Rattle.csub_tree.specs.Operation.{is_unset}
use Rattle.csub_tree.specs.Statement as st
use Rattle.csub_tree.specs.Statement.{read, operand, operands}
use Rattle.csub_tree.specs.declared.stuck.StuckReason.TheVariants.{Unset as IsUnset}
use Rattle.csub_tree.specs.declared.tree.COperand.{COperand}
use Rattle.csub_tree.specs.declared.tree.COperand.TheVariants.{Var, Const}
use Rattle.ll_code.specs.State.{Frame, At, Goes}
use Rattle.ll_code.specs.Machine.{goes_on, set_all, step}
use Rattle.ll_code.specs.declared.program.LlOp.{LlOp}
use Rattle.ll_code.specs.declared.program.LlOp.TheVariants as op
use Rattle.ll_code.specs.declared.program.LlExit.{LlExit}
use Rattle.ll_code.specs.declared.program.LlProgram.{LlProgram}
use Rattle.ll_laws.proofs.Values.{and_left, and_right, is_same}
use Rattle.ll_live.specs.Live.{among}
use Rattle.ll_joined.specs.Named.{Naming, value_of}
use Rattle.ll_joined.specs.Joined.{constants_of}
use Rattle.joined_laws.specs.Renamed.{Alike}
use Rattle.turned_laws.specs.Ordered.{are_apart}
use Rattle.turned_laws.specs.Turned.{KeepsName, IsPassed, ArePassed}
use Rattle.turned_laws.proofs.Lists.{known, either_of, not_is, none_true, opposite, differ, set_here, set_elsewhere, set_size, all_elsewhere, or_left, or_right, same}
use Rattle.turned_laws.proofs.Stuttering.{Silent, Stay, Go}
use Rattle.turned_laws.proofs.Relation.{constant_set, among_first}

-- ---- what is done

-- the core when they are set
abbrev pub with_constants : Core → List ℕ → List COperand → Core
with_constants core (v ∷ vs) (Var w ∷ xs) = with_constants core vs xs
with_constants core (v ∷ vs) (Const c ∷ xs) = with_constants (record core { at = core.at + 1; vars = slice_set core.vars v (constant c) }) vs xs
with_constants core vs xs = core

abbrev pub how_many : List ℕ → List COperand → ℕ
how_many (v ∷ vs) (Var w ∷ xs) = how_many vs xs
how_many (v ∷ vs) (Const c ∷ xs) = suc (how_many vs xs)
how_many vs xs = 0

pub constants_alike : (core other : Core) (vs : List ℕ) (xs : List COperand) → Alike core other → Alike core (with_constants other vs xs)
constants_alike core other [] [] alike = alike
constants_alike core other [] (x ∷ xs) alike = alike
constants_alike core other (v ∷ vs) [] alike = alike
constants_alike core other (v ∷ vs) (Var w ∷ xs) alike = constants_alike core other vs xs alike
constants_alike core other (v ∷ vs) (Const c ∷ xs) alike =
    constants_alike core (record other { at = other.at + 1; vars = slice_set other.vars v (constant c) }) vs xs
    (record { function = alike.function; blocks = alike.blocks; statics = alike.statics; exc_type = alike.exc_type; exc_value = alike.exc_value; steps = alike.steps })

pub constants_size : (core : Core) (vs : List ℕ) (xs : List COperand) → length (with_constants core vs xs).vars ≡ length core.vars
constants_size core [] [] = refl
constants_size core [] (x ∷ xs) = refl
constants_size core (v ∷ vs) [] = refl
constants_size core (v ∷ vs) (Var w ∷ xs) = constants_size core vs xs
constants_size core (v ∷ vs) (Const c ∷ xs) = constants_size (record core { at = core.at + 1; vars = slice_set core.vars v (constant c) }) vs xs ∙ set_size core.vars v (constant c)

pub constants_silent : (q : LlProgram) (args : List (List ℕ)) (ops : List LlOp) (e : LlExit) (frames : List Frame) (core : Core) (vs : List ℕ) (xs : List COperand)
    → Silent q args (how_many vs xs) (At (constants_of vs xs ++ ops) e frames core) (At ops e frames (with_constants core vs xs))
constants_silent q args ops e frames core [] [] = Stay _
constants_silent q args ops e frames core [] (x ∷ xs) = Stay _
constants_silent q args ops e frames core (v ∷ vs) [] = Stay _
constants_silent q args ops e frames core (v ∷ vs) (Var w ∷ xs) = constants_silent q args ops e frames core vs xs
constants_silent q args ops e frames core (v ∷ vs) (Const c ∷ xs) =
    Go (how_many vs xs) (At (op.Set v (Const c) ∷ constants_of vs xs ++ ops) e frames core) (At (constants_of vs xs ++ ops) e frames next) _ (ap (λ b. goes_on (At (constants_of vs xs ++ ops) e frames) (cond b (Stuck IsUnset) (st.assigned core v (constant c)))) (constant_set c))
    (constants_silent q args ops e frames next vs xs)
  where
    next : Core
    next = record core { at = core.at + 1; vars = slice_set core.vars v (constant c) }

-- ---- what stands then

module _ (names next : Naming) (inputs : List ℕ) (old : List Value) where
  -- what is passed on stands under the name of its input
  abbrev pub Holds : List Value → List ℕ → List COperand → Type 0
  Holds others (v ∷ vs) (Var w ∷ xs) = (operand others (value_of next v) ≡ read old w) × Holds others vs xs
  Holds others (v ∷ vs) (Const c ∷ xs) = Holds others vs xs
  Holds others vs xs = Unit {0}

  -- a constant is set under a name that is no other's
  kept_value : (others : List Value) (v : ℕ) (value : Value) (x : COperand) → (x ≡ Var v → ⊥) → operand (slice_set others v value) x ≡ operand others x
  kept_value others v value (Const c) ne = refl
  kept_value others v value (Var w) ne = set_elsewhere others v w value Unset (λ e. ne (ap Var (sym e)))

  holds_on : (others : List Value) (v : ℕ) (value : Value) (vs : List ℕ) (xs : List COperand) → ((u : ℕ) → among u vs ≡ true → value_of next u ≡ Var v → ⊥) → Holds others vs xs → Holds (slice_set others v value) vs xs
  holds_on others v value [] [] ne h = tt
  holds_on others v value [] (x ∷ xs) ne h = tt
  holds_on others v value (u ∷ vs) [] ne h = tt
  holds_on others v value (u ∷ vs) (Var w ∷ xs) ne (e, h) = (kept_value others v value (value_of next u) (ne u (among_first u vs)) ∙ e, holds_on others v value vs xs (λ t l. ne t (or_right (u == t) (among t vs) l)) h)
  holds_on others v value (u ∷ vs) (Const c ∷ xs) ne h = holds_on others v value vs xs (λ t l. ne t (or_right (u == t) (among t vs) l)) h

  -- what is called otherwise than each of these inputs stays
  stays : (core : Core) (vs : List ℕ) (xs : List COperand) (x : COperand) → ArePassed names next inputs vs xs → ((u : ℕ) → among u vs ≡ true → KeepsName next u (λ u. among u inputs) → x ≡ Var u → ⊥) → operand (with_constants core vs xs).vars x ≡ operand core.vars x
  stays core [] [] x passed ne = refl
  stays core [] (y ∷ xs) x passed ne = refl
  stays core (v ∷ vs) [] x passed ne = refl
  stays core (v ∷ vs) (Var w ∷ xs) x (k, passed) ne = stays core vs xs x passed (λ u l keeps. ne u (or_right (v == u) (among u vs) l) keeps)
  stays core (v ∷ vs) (Const c ∷ xs) x (k, passed) ne =
      stays (record core { at = core.at + 1; vars = slice_set core.vars v (constant c) }) vs xs x passed (λ u l keeps. ne u (or_right (v == u) (among u vs) l) keeps)
      ∙ kept_value core.vars v (constant c) x (ne v (among_first v vs) k)

  abbrev IsInput : List ℕ → Type 0
  IsInput vs = (u : ℕ) → among u vs ≡ true → among u inputs ≡ true

  pub all_stand : (core : Core) (vars : List Value) (vs : List ℕ) (xs : List COperand) → are_apart vs ≡ true → IsInput vs → length core.vars ≡ length vars → ((u : ℕ) → among u vs ≡ true → u < length vars) → ArePassed names next inputs vs xs → Holds core.vars vs xs
      → (v : ℕ) → among v vs ≡ true → operand (with_constants core vs xs).vars (value_of next v) ≡ read (set_all vars vs (operands old xs)) v
  all_stand core vars [] xs apart inside size within passed holds v l = none_true (sym l)
  all_stand core vars (w ∷ vs) [] apart inside size within passed holds v l = elim passed [ ]
  all_stand core vars (w ∷ vs) (Var u ∷ xs) apart inside size within (k, passed) (e, holds) v l =
      one (λ m. all_stand core (slice_set vars w (read old u)) vs xs (and_right (not (among w vs)) _ apart) (λ t m. inside t (or_right (w == t) (among t vs) m)) (size ∙ sym (set_size vars w (read old u))) (λ t m. subst (λ n. t < n) (sym (set_size vars w (read old u))) (within t (or_right (w == t) (among t vs) m))) passed holds v m)
      (known (among v vs))
    where
      alone : among w vs ≡ false
      alone = not_is (among w vs) (and_left (not (among w vs)) _ apart)

      here : operand (with_constants core vs xs).vars (value_of next w) ≡ read (set_all (slice_set vars w (read old u)) vs (operands old xs)) w
      here =
          stays core vs xs (value_of next w) passed (λ t m keeps. keeps.others w (inside w (among_first w vs)) (λ f. opposite (among w vs) (subst (λ t. among t vs ≡ true) f m) alone))
          ∙ e
          ∙ sym (all_elsewhere (slice_set vars w (read old u)) vs (operands old xs) w alone ∙ set_here vars w (read old u) Unset (within w (among_first w vs)))

      one : (among v vs ≡ true → operand (with_constants core vs xs).vars (value_of next v) ≡ read (set_all (slice_set vars w (read old u)) vs (operands old xs)) v) → (among v vs ≡ true) ⊎ (among v vs ≡ false)
          → operand (with_constants core vs xs).vars (value_of next v) ≡ read (set_all (slice_set vars w (read old u)) vs (operands old xs)) v
      one go (inl m) = go m
      one go (inr m) = two (either_of (w == v) (among v vs) l)
        where
          two : (w == v) ≡ true ⊎ among v vs ≡ true → operand (with_constants core vs xs).vars (value_of next v) ≡ read (set_all (slice_set vars w (read old u)) vs (operands old xs)) v
          two (inl s) = subst (λ v. operand (with_constants core vs xs).vars (value_of next v) ≡ read (set_all (slice_set vars w (read old u)) vs (operands old xs)) v) (is_same w v s) here
          two (inr s) = opposite (among v vs) s m
  all_stand core vars (w ∷ vs) (Const c ∷ xs) apart inside size within (k, passed) holds v l =
      one (λ m. all_stand next_core (slice_set vars w (constant c)) vs xs (and_right (not (among w vs)) _ apart) (λ t m. inside t (or_right (w == t) (among t vs) m)) (set_size core.vars w (constant c) ∙ size ∙ sym (set_size vars w (constant c))) (λ t m. subst (λ n. t < n) (sym (set_size vars w (constant c))) (within t (or_right (w == t) (among t vs) m))) passed
      (holds_on core.vars w (constant c) vs xs (λ t m. k.others t (inside t (or_right (w == t) (among t vs) m)) (λ f. opposite (among w vs) (subst (λ t. among t vs ≡ true) (sym f) m) alone)) holds) v m)
      (known (among v vs))
    where
      next_core : Core
      next_core = record core { at = core.at + 1; vars = slice_set core.vars w (constant c) }

      alone : among w vs ≡ false
      alone = not_is (among w vs) (and_left (not (among w vs)) _ apart)

      here : operand (with_constants next_core vs xs).vars (value_of next w) ≡ read (set_all (slice_set vars w (constant c)) vs (operands old xs)) w
      here =
          stays next_core vs xs (value_of next w) passed (λ t m keeps. keeps.others w (inside w (among_first w vs)) (λ f. opposite (among w vs) (subst (λ t. among t vs ≡ true) f m) alone))
          ∙ ap (operand (slice_set core.vars w (constant c))) k.own
          ∙ set_here core.vars w (constant c) Unset (subst (λ n. w < n) (sym size) (within w (among_first w vs)))
          ∙ sym (all_elsewhere (slice_set vars w (constant c)) vs (operands old xs) w alone ∙ set_here vars w (constant c) Unset (within w (among_first w vs)))

      one : (among v vs ≡ true → operand (with_constants next_core vs xs).vars (value_of next v) ≡ read (set_all (slice_set vars w (constant c)) vs (operands old xs)) v) → (among v vs ≡ true) ⊎ (among v vs ≡ false)
          → operand (with_constants next_core vs xs).vars (value_of next v) ≡ read (set_all (slice_set vars w (constant c)) vs (operands old xs)) v
      one go (inl m) = go m
      one go (inr m) = two (either_of (w == v) (among v vs) l)
        where
          two : (w == v) ≡ true ⊎ among v vs ≡ true → operand (with_constants next_core vs xs).vars (value_of next v) ≡ read (set_all (slice_set vars w (constant c)) vs (operands old xs)) v
          two (inl s) = subst (λ v. operand (with_constants next_core vs xs).vars (value_of next v) ≡ read (set_all (slice_set vars w (constant c)) vs (operands old xs)) v) (is_same w v s) here
          two (inr s) = opposite (among v vs) s m
