-- Operations on words, bytes and arguments, of steps and of output are followed.
use Rattle.std.proofs.Common.{◌≡◌, ◌<◌, ℕ, zero, suc, ◌+◌, ◌-◌, Bool, true, false, List, [], ◌∷◌, length, Option, Some, None, Ok, refl, sym, ap, ◌∙◌, subst, arith}
use Rattle.std.specs.Prelude.{slice_get}
use Rattle.csub_tree.specs.State.{Value, Word, Ptr, Block, Core, After, Onward, Puts as PutsByte, Over, Stuck}
use Rattle.csub_tree.specs.Statement as st
use Rattle.csub_tree.specs.Statement.{read, operand}
use Rattle.csub_tree.specs.declared.tree.COperand.{COperand}
use Rattle.ll_code.specs.State.{Frame, State, At}
use Rattle.ll_code.specs.Machine.{step, does, goes_on}
use Rattle.ll_code.specs.declared.program.LlOp.{LlOp}
use Rattle.ll_code.specs.declared.program.LlOp.TheVariants as op
use Rattle.ll_code.specs.declared.program.LlExit.{LlExit}
use Rattle.ll_code.specs.declared.program.LlType.{LlType}
use Rattle.ll_code.specs.declared.program.LlProgram.{LlProgram}
use Rattle.ll_live.specs.Live.{set_by, live}
use Rattle.refcount_transform.specs.Plan.{Plan, plan_of, reference_given}
use Rattle.refcount_transform.specs.Changes.{Around, around_of, var_referred, touched, dead}
use Rattle.refcount_transform.specs.Counted.{counted}
use Rattle.refcount_laws.specs.Graphs.{Counting}
use Rattle.refcount_laws.specs.Made.{counts_of}
use Rattle.refcount_laws.specs.Ghost.{Ghost, memory, IsCounted}
use Rattle.refcount_laws.specs.Runs.{here}
use Rattle.refcount_laws.specs.Owned.{owned}
use Rattle.refcount_laws.specs.Matches.{Pointing, AllRoots, Stands, Follows}
use Rattle.refcount_laws.proofs.Steps.{stays, goes}
use Rattle.refcount_laws.proofs.Numbers.{Based}
use Rattle.std.specs.Prelude.{ℤ, pos, negsuc, cond, nat_le, nat_lt, option_map}
use Rattle.rpy_base.specs.declared.outcome.Outcome.TheVariants.{Running}
use Rattle.csub_tree.specs.Operation.{word_of, unary_of, binary_of}
use Rattle.csub_tree.specs.declared.stuck.StuckReason.TheVariants.{Word as BadWord}
use Rattle.csub_tree.specs.declared.tree.CUnary.{CUnary}
use Rattle.csub_tree.specs.declared.tree.CUnary.TheVariants as unary
use Rattle.csub_tree.specs.declared.tree.CBinary.{CBinary}
use Rattle.ll_code.specs.Typed.{operation_ok, unary_gives, binary_gives, has_type}
use Rattle.csub_tree.specs.Checked.{gives_bool}
use Rattle.ll_code.specs.declared.program.LlType.TheVariants as type
use Rattle.ll_laws.specs.Fits.{Fits, AnswerFits}
use Rattle.ll_laws.proofs.Values.{and_left, has_type_is, unary_fits, binary_fits}
use Rattle.refcount_transform.specs.Plan.{reference_to}
use Rattle.refcount_transform.specs.Changes.{changed}
use Rattle.refcount_laws.proofs.Following.{comes_before, effect_end, answered_follows}

unary_plain : (marks : List Bool) (o : CUnary) → reference_to marks (unary_gives o) ≡ None
unary_plain marks unary.Neg = refl
unary_plain marks unary.Inv = refl
unary_plain marks unary.Not = refl
unary_plain marks unary.C2S = refl
unary_plain marks unary.S2C = refl
unary_plain marks unary.B2S = refl

binary_plain : (marks : List Bool) (o : CBinary) → reference_to marks (binary_gives o) ≡ None
binary_plain marks o = by (gives_bool o)
  where
    by : (b : Bool) → reference_to marks (cond b type.Bool type.Signed) ≡ None
    by true = refl
    by false = refl

-- what is of a type that is no pointer is no pointer
fits_apart : (p : LlProgram) (made : ℕ) (t : LlType) (v : Value) → ((n : ℕ) → t ≡ type.Ptr n → ⊥) → Fits p made t v → (m : ℕ) → v ≡ Ptr m → ⊥
fits_apart p made t v none fit m e = by t none (subst (Fits p made t) e fit)
  where
    by : (t : LlType) → ((n : ℕ) → t ≡ type.Ptr n → ⊥) → Fits p made t (Ptr m) → ⊥
    by type.Signed none h = h
    by type.Char none h = h
    by type.Bool none h = h
    by type.Void none h = h
    by type.Fn none h = h
    by (type.Ptr n) none h = none n refl

unary_apart : (p : LlProgram) (o : CUnary) (x v : Value) → unary_of o x ≡ Ok v → (m : ℕ) → v ≡ Ptr m → ⊥
unary_apart p o x v f m r = fits_apart p 0 (unary_gives o) v (no_pointer o) (subst (AnswerFits p 0 (unary_gives o)) f (unary_fits p 0 o x)) m r
  where
    no_pointer : (o : CUnary) (n : ℕ) → unary_gives o ≡ type.Ptr n → ⊥
    no_pointer unary.Neg n e = cc
    no_pointer unary.Inv n e = cc
    no_pointer unary.Not n e = cc
    no_pointer unary.C2S n e = cc
    no_pointer unary.S2C n e = cc
    no_pointer unary.B2S n e = cc

binary_apart : (p : LlProgram) (o : CBinary) (x y v : Value) → binary_of o x y ≡ Ok v → (m : ℕ) → v ≡ Ptr m → ⊥
binary_apart p o x y v f m r = fits_apart p 0 (binary_gives o) v (λ n e. by (gives_bool o) n e) (subst (AnswerFits p 0 (binary_gives o)) f (binary_fits p 0 o x y)) m r
  where
    by : (b : Bool) (n : ℕ) → cond b type.Bool type.Signed ≡ type.Ptr n → ⊥
    by true n e = cc
    by false n e = cc

pub typed_inside : (types : List LlType) (a : ℕ) (t : LlType) → slice_get types a ≡ Some t → a < length types
typed_inside [] a t e = absurd (cc)
typed_inside (x ∷ types) zero t e = omega arith
typed_inside (x ∷ types) (suc a) t e = omega (arith, typed_inside types a t e)

module _ (p : LlProgram) (based : Based p.structs) (counting : Counting (counted p) (counts_of (plan_of p))) (args : List (List ℕ)) (types : List LlType) (roots : AllRoots p types) (own : Value → ℕ) (ops rest : List LlOp) (e : LlExit) (ex : LlExit)
    (frames : List Frame) (b : ℕ) (core qcore : Core) (g : Ghost) (h : List (Option Block)) (at : ℕ) (fits : length core.vars ≡ length types) (stands : Stands p core qcore g h) where
  abbrev plan : Plan
  plan = plan_of p

  abbrev q : LlProgram
  q = counted p

  abbrev around : Around
  around = around_of plan types

  -- where the counted program stands before an operation
  abbrev pub before : LlOp → State
  before o = At (changed around o (dead around (touched o) ops e rest)) ex frames (here qcore core.function b at core.vars h (memory g))

  abbrev pub IsFollowed : LlOp → After → Type 0
  IsFollowed o after = Pointing p types core.blocks core.statics (live (o ∷ ops) e) core.vars → IsCounted q (counts_of plan) g (λ r. owned around (live (o ∷ ops) e) core.vars r + own r) → Follows p args types (live ops e) own (before o) rest ex frames b after

  abbrev behind : LlOp → List Value → State
  behind o vars = At (dead around (touched o) ops e rest) ex frames (here qcore core.function b (at + 1) vars h (memory g))

  pub has_place : (a : ℕ) (t : LlType) → has_type t (slice_get types a) ≡ true → a < length core.vars
  has_place a t ok = let lt : a < length types = typed_inside types a t (has_type_is t (slice_get types a) ok) in omega (arith, lt, fits)

  pub is_plain : (a : ℕ) (t : LlType) → has_type t (slice_get types a) ≡ true → reference_to plan.counted t ≡ None → var_referred around a ≡ None
  is_plain a t ok none = ap (reference_given plan.counted) (has_type_is t (slice_get types a) ok) ∙ none

  pub unary_followed : (a : ℕ) (o : CUnary) (x : COperand) → operation_ok p types (op.Unary a o x) ≡ true → IsFollowed (op.Unary a o x) (does p args core (op.Unary a o x))
  unary_followed a o x ok pointing counts =
      answered_follows p based counting args types roots own (op.Unary a o x) ops rest e ex frames b a refl core qcore g h at (unary_of o (operand core.vars x)) (has_place a (unary_gives o) (and_left _ _ ok)) fits
      (is_plain a (unary_gives o) (and_left _ _ ok) (unary_plain plan.counted o)) (unary_apart p o (operand core.vars x)) stands pointing counts refl

  pub binary_followed : (a : ℕ) (o : CBinary) (x y : COperand) → operation_ok p types (op.Binary a o x y) ≡ true → IsFollowed (op.Binary a o x y) (does p args core (op.Binary a o x y))
  binary_followed a o x y ok pointing counts =
      answered_follows p based counting args types roots own (op.Binary a o x y) ops rest e ex frames b a refl core qcore g h at (binary_of o (operand core.vars x) (operand core.vars y)) (has_place a (binary_gives o) (and_left _ _ ok)) fits
      (is_plain a (binary_gives o) (and_left _ _ ok) (binary_plain plan.counted o)) (binary_apart p o (operand core.vars x) (operand core.vars y)) stands pointing counts refl

  pub argc_followed : (a : ℕ) → operation_ok p types (op.Argc a) ≡ true → IsFollowed (op.Argc a) (does p args core (op.Argc a))
  argc_followed a ok pointing counts =
      answered_follows p based counting args types roots own (op.Argc a) ops rest e ex frames b a refl core qcore g h at (Ok (Word (pos (length args)))) (has_place a type.Signed ok) fits (is_plain a type.Signed ok refl) (λ v f m r. absurd (cc)) stands pointing counts refl

  -- a number that may be out of range
  in_range : (o : LlOp) (a : ℕ) → set_by o ≡ Some a → changed around o (dead around (touched o) ops e rest) ≡ o ∷ dead around (touched o) ops e rest → has_type type.Signed (slice_get types a) ≡ true → (n : Option ℕ)
      → step q args (At (o ∷ dead around (touched o) ops e rest) ex frames (here qcore core.function b at core.vars h (memory g))) ≡ goes_on (At (dead around (touched o) ops e rest) ex frames) (st.in_range (here qcore core.function b at core.vars h (memory g)) a n)
      → IsFollowed o (st.in_range core a n)
  in_range o a sets_it plain ok None moves pointing counts = tt
  in_range o a sets_it plain ok (Some n) moves pointing counts =
      subst (λ l. Follows p args types (live ops e) own (At l ex frames (here qcore core.function b at core.vars h (memory g))) rest ex frames b (st.in_range core a (Some n))) (sym plain)
      (answered_follows p based counting args types roots own o ops rest e ex frames b a sets_it core qcore g h at (Ok (Word (pos n))) (has_place a type.Signed ok) fits (is_plain a type.Signed ok refl) (λ v f m r. absurd (cc)) stands pointing counts moves)

  pub arg_len_followed : (a : ℕ) (x : COperand) → operation_ok p types (op.ArgLen a x) ≡ true → IsFollowed (op.ArgLen a x) (does p args core (op.ArgLen a x))
  arg_len_followed a x ok = by (word_of (operand core.vars x)) refl
    where
      by : (w : Option ℤ) → word_of (operand core.vars x) ≡ w → IsFollowed (op.ArgLen a x) (st.on (λ i. st.in_range core a (option_map length (st.argument args i))) w)
      by None f = λ pointing counts. tt
      by (Some i) f =
          in_range (op.ArgLen a x) a refl refl (and_left _ _ ok) (option_map length (st.argument args i))
          (ap (λ w. goes_on (At (dead around (touched (op.ArgLen a x)) ops e rest) ex frames) (st.on (λ i. st.in_range (here qcore core.function b at core.vars h (memory g)) a (option_map length (st.argument args i))) w)) f)

  pub arg_followed : (a : ℕ) (x y : COperand) → operation_ok p types (op.Arg a x y) ≡ true → IsFollowed (op.Arg a x y) (does p args core (op.Arg a x y))
  arg_followed a x y ok = by (word_of (operand core.vars x)) refl (word_of (operand core.vars y)) refl
    where
      by : (v : Option ℤ) → word_of (operand core.vars x) ≡ v → (w : Option ℤ) → word_of (operand core.vars y) ≡ w → IsFollowed (op.Arg a x y) (st.on (λ i. st.on (λ j. st.in_range core a (st.byte_in (st.argument args i) j)) w) v)
      by None f w k = λ pointing counts. tt
      by (Some i) f None k = λ pointing counts. tt
      by (Some i) f (Some j) k =
          in_range (op.Arg a x y) a refl refl (and_left _ _ (and_left _ _ ok)) (st.byte_in (st.argument args i) j)
          (ap (λ v. goes_on (At (dead around (touched (op.Arg a x y)) ops e rest) ex frames) (st.on (λ i. st.on (λ j. st.in_range (here qcore core.function b at core.vars h (memory g)) a (st.byte_in (st.argument args i) j)) (word_of (operand core.vars y))) v)) f
          ∙ ap (λ w. goes_on (At (dead around (touched (op.Arg a x y)) ops e rest) ex frames) (st.on (λ j. st.in_range (here qcore core.function b at core.vars h (memory g)) a (st.byte_in (st.argument args i) j)) w)) k)

  pub step_followed : (x : COperand) → IsFollowed (op.Step x) (does p args core (op.Step x))
  step_followed x = by (word_of (operand core.vars x)) refl
    where
      paid : (cost : ℕ) (y : Bool) → nat_le cost core.steps ≡ y → word_of (operand core.vars x) ≡ Some (pos cost)
          → IsFollowed (op.Step x) (cond y (Onward (record core { at = core.at + 1; steps = core.steps - cost })) (Over Running core))
      paid cost true f w pointing counts =
          comes_before p based counting args types roots own (op.Step x) ops rest e ex frames b (live ops e) (before (op.Step x))
          (At (dead around (touched (op.Step x)) ops e rest) ex frames (here (record qcore { steps = core.steps - cost }) core.function b (at + 1) core.vars h (memory g))) (record core { at = core.at + 1; steps = core.steps - cost })
          (goes q args (before (op.Step x)) (At (dead around (touched (op.Step x)) ops e rest) ex frames (here (record qcore { steps = core.steps - cost }) core.function b (at + 1) core.vars h (memory g)))
          (ap (λ w. goes_on (At (dead around (touched (op.Step x)) ops e rest) ex frames) (st.on (st.pay_steps (here qcore core.function b at core.vars h (memory g))) w)) w
          ∙ ap (λ n. goes_on (At (dead around (touched (op.Step x)) ops e rest) ex frames) (cond (nat_le cost n) (Onward (here (record qcore { steps = n - cost }) core.function b (at + 1) core.vars h (memory g))) (Over Running (here (record qcore { steps = n }) core.function b at core.vars h (memory g))))) stands.steps
          ∙ ap (λ y. goes_on (At (dead around (touched (op.Step x)) ops e rest) ex frames) (cond y (Onward (here (record qcore { steps = core.steps - cost }) core.function b (at + 1) core.vars h (memory g))) (Over Running (here (record qcore { steps = core.steps }) core.function b at core.vars h (memory g))))) f))
          (effect_end p based counting args types roots own (op.Step x) ops rest e ex frames b (record core { at = core.at + 1; steps = core.steps - cost }) (record qcore { steps = core.steps - cost }) g h (at + 1) refl fits
          (record { near = stands.near; shown = stands.shown; steps = refl; exc_type = stands.exc_type; exc_value = stands.exc_value }) pointing counts)
      paid cost false f w pointing counts = (
        before (op.Step x),
        here (record qcore { steps = core.steps }) core.function b at core.vars h (memory g),
        stays q args (before (op.Step x)),
        ap (λ w. goes_on (At (dead around (touched (op.Step x)) ops e rest) ex frames) (st.on (st.pay_steps (here qcore core.function b at core.vars h (memory g))) w)) w
            ∙ ap (λ n. goes_on (At (dead around (touched (op.Step x)) ops e rest) ex frames) (cond (nat_le cost n) (Onward (here (record qcore { steps = n - cost }) core.function b (at + 1) core.vars h (memory g))) (Over Running (here (record qcore { steps = n }) core.function b at core.vars h (memory g))))) stands.steps
            ∙ ap (λ y. goes_on (At (dead around (touched (op.Step x)) ops e rest) ex frames) (cond y (Onward (here (record qcore { steps = core.steps - cost }) core.function b (at + 1) core.vars h (memory g))) (Over Running (here (record qcore { steps = core.steps }) core.function b at core.vars h (memory g))))) f,
        refl,
      )

      by : (w : Option ℤ) → word_of (operand core.vars x) ≡ w → IsFollowed (op.Step x) (st.on (st.pay_steps core) w)
      by None f = λ pointing counts. tt
      by (Some (negsuc n)) f = λ pointing counts. tt
      by (Some (pos cost)) f = paid cost (nat_le cost core.steps) refl f

  pub put_followed : (x : COperand) → IsFollowed (op.Put x) (does p args core (op.Put x))
  put_followed x = by (word_of (operand core.vars x)) refl
    where
      put : (byte : ℕ) (y : Bool) → nat_lt byte 256 ≡ y → word_of (operand core.vars x) ≡ Some (pos byte) → IsFollowed (op.Put x) (cond y (PutsByte byte (record core { at = core.at + 1 })) (Stuck BadWord))
      put byte false f w pointing counts = tt
      put byte true f w pointing counts = (
        before (op.Put x),
        behind (op.Put x) core.vars,
        stays q args (before (op.Put x)),
        ap (λ w. goes_on (At (dead around (touched (op.Put x)) ops e rest) ex frames) (st.on (st.put_word (here qcore core.function b at core.vars h (memory g))) w)) w
            ∙ ap (λ y. goes_on (At (dead around (touched (op.Put x)) ops e rest) ex frames) (cond y (PutsByte byte (here qcore core.function b (at + 1) core.vars h (memory g))) (Stuck BadWord))) f,
        effect_end p based counting args types roots own (op.Put x) ops rest e ex frames b (record core { at = core.at + 1 }) qcore g h (at + 1) refl fits
            (record { near = stands.near; shown = stands.shown; steps = stands.steps; exc_type = stands.exc_type; exc_value = stands.exc_value }) pointing counts,
      )

      by : (w : Option ℤ) → word_of (operand core.vars x) ≡ w → IsFollowed (op.Put x) (st.on (st.put_word core) w)
      by None f = λ pointing counts. tt
      by (Some (negsuc n)) f = λ pointing counts. tt
      by (Some (pos byte)) f = put byte (nat_lt byte 256) refl f
