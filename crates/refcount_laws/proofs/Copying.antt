-- Operations that copy a reference are followed.
use Rattle.std.proofs.Common.{◌≡◌, ◌≢◌, ◌<◌, ℕ, zero, suc, ◌+◌, Bool, true, false, ◌||◌, List, [], ◌∷◌, length, Option, Some, None, refl, sym, ap, ◌∙◌, subst, arith}
use Rattle.std.specs.Prelude.{slice_get, slice_set, ◌==◌}
use Rattle.csub_tree.specs.State.{Value, Unset, Word, Byte, Flag, Fun, Null, Ptr, Static, Block, Core, After, Stuck}
use Rattle.csub_tree.specs.Operation.{is_unset}
use Rattle.csub_tree.specs.Statement as st
use Rattle.csub_tree.specs.Statement.{read, operand}
use Rattle.csub_tree.specs.declared.tree.COperand.{COperand}
use Rattle.csub_tree.specs.declared.tree.COperand.TheVariants.{Var, Const}
use Rattle.ll_code.specs.State.{Frame, State, At, Goes}
use Rattle.ll_code.specs.Machine.{step, does, goes_on}
use Rattle.ll_code.specs.declared.program.LlOp.{LlOp}
use Rattle.ll_code.specs.declared.program.LlOp.TheVariants as op
use Rattle.ll_code.specs.declared.program.LlExit.{LlExit}
use Rattle.ll_code.specs.declared.program.LlType.{LlType}
use Rattle.ll_code.specs.declared.program.LlProgram.{LlProgram}
use Rattle.ll_live.specs.Live.{among, reads, set_by, sets, live}
use Rattle.refcount_transform.specs.Plan.{Plan, plan_of, reference_given}
use Rattle.refcount_transform.specs.Changes.{Around, around_of, var_referred, operand_referred, up, touched, dead}
use Rattle.refcount_transform.specs.Counted.{counted}
use Rattle.refcount_laws.specs.Graphs.{Counting}
use Rattle.refcount_laws.specs.Made.{counts_of}
use Rattle.refcount_laws.specs.Ghost.{Ghost, count, memory, hit, IsCounted}
use Rattle.refcount_laws.specs.Runs.{here}
use Rattle.refcount_laws.specs.Owned.{owned, DoneTo, hits_by, operand_hits, Roomy}
use Rattle.refcount_laws.specs.Matches.{PointsTo, Pointing, AllRoots, Stands, Comes}
use Rattle.refcount_laws.proofs.Steps.{leads_on, goes}
use Rattle.refcount_laws.proofs.Moving.{own_same}
use Rattle.refcount_laws.proofs.Numbers.{Based}
use Rattle.refcount_laws.proofs.Places.{given_marked}
use Rattle.refcount_laws.proofs.Given.{up_run}
use Rattle.std.specs.Prelude.{cond}
use Rattle.csub_tree.specs.declared.stuck.StuckReason.TheVariants.{Unset as IsUnset}
use Rattle.ll_code.specs.Typed.{operation_ok}
use Rattle.ll_code.specs.declared.program.LlType.TheVariants as type
use Rattle.ll_laws.proofs.Values.{and_left, has_type_is}
use Rattle.refcount_transform.specs.Plan.{reference_to}
use Rattle.refcount_transform.specs.Changes.{changed}
use Rattle.refcount_laws.proofs.Following.{near_kept, value_leads, comes_before, value_end}
use Rattle.std.specs.Prelude.{not, ◌&&◌}
use Rattle.csub_tree.specs.declared.tree.CConst.TheVariants as const
use Rattle.ll_code.specs.Typed.{given_takes, takes}
use Rattle.ll_live.specs.Live.{variables_of}
use Rattle.ll_laws.proofs.Values.{is_same}
use Rattle.refcount_laws.proofs.Ghosts.{one_self}
use Rattle.refcount_laws.proofs.Owning.{owned_one}
use Rattle.refcount_laws.proofs.Dead.{same_is, differ_is}
use Rattle.refcount_laws.proofs.Following.{copy_end}
use Rattle.refcount_laws.proofs.Operating.{typed_inside, before, IsFollowed}

pub no_null : (r : Value) → hit r Null ≡ 0
no_null Unset = refl
no_null (Word z) = refl
no_null (Byte z) = refl
no_null (Flag z) = refl
no_null (Fun z) = refl
no_null Null = refl
no_null (Ptr z) = refl
no_null (Static z) = refl

-- a variable that owns a block owns it
pub owned_has : (around : Around) (types_long : ℕ) (uses : ℕ → Bool) (vars : List Value) (v n m : ℕ) → v < length vars → uses v ≡ true → var_referred around v ≡ Some n → read vars v ≡ Ptr m → 0 < owned around uses vars (Ptr m)
owned_has around types_long uses vars v n m lt u e is =
    let less : ℕ → Bool = λ w. uses w && not (v == w) in
    let gone : less v ≡ false = ap (λ b. uses v && not b) (same_is v) ∙ neither (uses v) in
    let others : (w : ℕ) → w ≢ v → uses w ≡ less w = λ w ne. sym (ap (λ b. uses w && not b) (differ_is v w (λ q. ne (sym q))) ∙ all (uses w)) in
    omega (arith, owned_one around uses less v n vars (Ptr m) lt e u gone others, ap (hit (Ptr m)) is, one_self m)
  where
    neither : (b : Bool) → (b && not true) ≡ false
    neither true = refl
    neither false = refl

    all : (b : Bool) → (b && not false) ≡ b
    all true = refl
    all false = refl

module _ (p : LlProgram) (types : List LlType) (a : ℕ) where
  abbrev marks : List Bool
  marks = (plan_of p).counted

  abbrev around_ : Around
  around_ = around_of (plan_of p) types

  -- an operand that a variable takes refers to what the variable does, or is NULL
  pub taken_by : (t : LlType) (x : COperand) (vars : List Value) (r : Value) → slice_get types a ≡ Some t → takes p types t x ≡ true → hits_by (operand_referred around_ x) (operand vars x) r ≡ hits_by (var_referred around_ a) (operand vars x) r
  taken_by t (Var w) vars r e ok = ap (λ k. hits_by k (read vars w) r) (ap (reference_given marks) (has_type_is t (slice_get types w) ok ∙ sym e))
  taken_by type.Signed (Const (const.Word z)) vars r e ok = ap (λ k. hits_by (reference_given marks k) (Word z) r) (sym e)
  taken_by type.Char (Const (const.Char z)) vars r e ok = ap (λ k. hits_by (reference_given marks k) (Byte z) r) (sym e)
  taken_by type.Bool (Const (const.Bool z)) vars r e ok = ap (λ k. hits_by (reference_given marks k) (Flag z) r) (sym e)
  taken_by type.Fn (Const const.Null) vars r e ok = ap (λ k. hits_by (reference_given marks k) Null r) (sym e)
  taken_by type.Fn (Const (const.Fun z)) vars r e ok = ap (λ k. hits_by (reference_given marks k) (Fun z) r) (sym e)
  taken_by (type.Ptr n) (Const const.Null) vars r e ok = sym (by (var_referred around_ a))
    where
      by : (k : Option ℕ) → hits_by k Null r ≡ 0
      by None = refl
      by (Some n) = no_null r
  taken_by (type.Ptr n) (Const (const.Static s g)) vars r e ok =
      let f : n ≡ s = is_same n s (and_left _ _ (and_left _ _ ok)) in
      ap (λ n. hits_by (reference_to marks (type.Ptr n)) (Static g) r) (sym f) ∙ ap (λ k. hits_by (reference_given marks k) (Static g) r) (sym e)
  taken_by t (Const k) vars r e ok = absurd (cc)

  -- where it refers to a struct, so does the variable
  pub refers_to : (t : LlType) (x : COperand) (n : ℕ) → slice_get types a ≡ Some t → takes p types t x ≡ true → operand_referred around_ x ≡ Some n → var_referred around_ a ≡ Some n
  refers_to t (Var w) n e ok h = ap (reference_given marks) (e ∙ sym (has_type_is t (slice_get types w) ok)) ∙ h
  refers_to type.Signed (Const (const.Word z)) n e ok h = absurd (cc)
  refers_to type.Char (Const (const.Char z)) n e ok h = absurd (cc)
  refers_to type.Bool (Const (const.Bool z)) n e ok h = absurd (cc)
  refers_to type.Fn (Const const.Null) n e ok h = absurd (cc)
  refers_to type.Fn (Const (const.Fun z)) n e ok h = absurd (cc)
  refers_to (type.Ptr m) (Const const.Null) n e ok h = absurd (cc)
  refers_to (type.Ptr m) (Const (const.Static s g)) n e ok h =
      let f : m ≡ s = is_same m s (and_left _ _ (and_left _ _ ok)) in ap (reference_given marks) e ∙ ap (λ n. reference_to marks (type.Ptr n)) f ∙ h
  refers_to t (Const k) n e ok h = absurd (cc)

module _ (p : LlProgram) (based : Based p.structs) (counting : Counting (counted p) (counts_of (plan_of p))) (args : List (List ℕ)) (types : List LlType) (roots : AllRoots p types) (own : Value → ℕ) (ops rest : List LlOp) (e : LlExit) (ex : LlExit)
    (frames : List Frame) (b : ℕ) (core qcore : Core) (g : Ghost) (h : List (Option Block)) (at : ℕ) (fits : length core.vars ≡ length types) (stands : Stands p core qcore g h) (k : ℕ) (room : Roomy g (suc k)) where
  abbrev plan : Plan
  plan = plan_of p

  abbrev q : LlProgram
  q = counted p

  abbrev around : Around
  around = around_of plan types

  abbrev start : LlOp → State
  start o = before p based counting args types roots own ops rest e ex frames b core qcore g h at fits stands o

  abbrev pub IsFollowedBy : LlOp → After → Type 0
  IsFollowedBy o after = IsFollowed p based counting args types roots own ops rest e ex frames b core qcore g h at fits stands o after

  -- what a variable is given may stand there
  pub record MayHold (a : ℕ) (v : Value) : Type 0 where
    pub points : (n : ℕ) → var_referred around a ≡ Some n → PointsTo p core.blocks core.statics n v
    pub refers : (m : ℕ) → v ≡ Ptr m → (n : ℕ) × (var_referred around a ≡ Some n)

  -- a slot is read, which owns what it holds
  pub slot_followed : (o : LlOp) (a : ℕ) (v : Value) → set_by o ≡ Some a → reads o ≡ [] → a < length core.vars → MayHold a v → ((m : ℕ) → v ≡ Ptr m → 0 < own (Ptr m))
      → changed around o (dead around (touched o) ops e rest) ≡ o ∷ up around (Var a) (dead around (touched o) ops e rest)
      → step q args (At (o ∷ up around (Var a) (dead around (touched o) ops e rest)) ex frames (here qcore core.function b at core.vars h (memory g)))
      ≡ Goes (At (up around (Var a) (dead around (touched o) ops e rest)) ex frames (here qcore core.function b (at + 1) (slice_set core.vars a v) h (memory g)))
      → IsFollowedBy o (st.assigned core a v)
  slot_followed o a v sets_it none inside may held plain moves pointing counts =
      subst (λ l. Comes p args types (live ops e) own (At l ex frames (here qcore core.function b at core.vars h (memory g))) rest ex frames b (record core { at = core.at + 1; vars = slice_set core.vars a v })) (sym plain)
      (comes_before p based counting args types roots own o ops rest e ex frames b (live ops e) (At (o ∷ up around (Var a) (dead around (touched o) ops e rest)) ex frames (here qcore core.function b at core.vars h (memory g)))
      (At (up around (Var a) (dead around (touched o) ops e rest)) ex frames (here qcore core.function b (at + 1) (slice_set core.vars a v) h (memory g))) (record core { at = core.at + 1; vars = slice_set core.vars a v })
      (goes q args (At (o ∷ up around (Var a) (dead around (touched o) ops e rest)) ex frames (here qcore core.function b at core.vars h (memory g)))
      (At (up around (Var a) (dead around (touched o) ops e rest)) ex frames (here qcore core.function b (at + 1) (slice_set core.vars a v) h (memory g))) moves)
      (copy_end p based counting args types roots own o ops rest e ex frames b a sets_it core qcore g h (at + 1) k v inside fits (λ n r. ap (among a) none) stands pointing may.points may.refers
      (λ m r. (let lt : 0 < own (Ptr m) = held m r in omega (arith, lt, counts.blocks m))) room counts))

  pub exc_type_followed : (a n : ℕ) → a < length core.vars → MayHold a core.exc_type → ((m : ℕ) → core.exc_type ≡ Ptr m → 0 < own (Ptr m)) → IsFollowedBy (op.ExcType a n) (does p args core (op.ExcType a n))
  exc_type_followed a n inside may held =
      slot_followed (op.ExcType a n) a core.exc_type refl refl inside may held refl
      (ap (λ v. Goes (At (up around (Var a) (dead around (touched (op.ExcType a n)) ops e rest)) ex frames (here qcore core.function b (at + 1) (slice_set core.vars a v) h (memory g)))) stands.exc_type)

  pub exc_value_followed : (a n : ℕ) → a < length core.vars → MayHold a core.exc_value → ((m : ℕ) → core.exc_value ≡ Ptr m → 0 < own (Ptr m)) → IsFollowedBy (op.ExcValue a n) (does p args core (op.ExcValue a n))
  exc_value_followed a n inside may held =
      slot_followed (op.ExcValue a n) a core.exc_value refl refl inside may held refl
      (ap (λ v. Goes (At (up around (Var a) (dead around (touched (op.ExcValue a n)) ops e rest)) ex frames (here qcore core.function b (at + 1) (slice_set core.vars a v) h (memory g)))) stands.exc_value)

  -- an operand is copied
  pub set_followed : (a : ℕ) (x : COperand) → operation_ok p types (op.Set a x) ≡ true → ((n : ℕ) → var_referred around a ≡ Some n → among a (variables_of x) ≡ false) → MayHold a (operand core.vars x) → IsFollowedBy (op.Set a x) (does p args core (op.Set a x))
  set_followed a x ok unread may = typed (slice_get types a) refl ok
    where
      set : (t : LlType) → slice_get types a ≡ Some t → takes p types t x ≡ true → (y : Bool) → is_unset (operand core.vars x) ≡ y → IsFollowedBy (op.Set a x) (cond y (Stuck IsUnset) (st.assigned core a (operand core.vars x)))
      set t f takes true y pointing counts = tt
      set t f takes false y pointing counts =
          let o : LlOp = op.Set a x in
          let v : Value = operand core.vars x in
          let had : Value → ℕ = λ r. owned around (live (op.Set a x ∷ ops) e) core.vars r + own r in
          let inside : a < length core.vars = (let lt : a < length types = typed_inside types a t f in omega (arith, lt, fits)) in
          let behind : List LlOp = dead around (touched (op.Set a x)) ops e rest in
          let d : DoneTo q args (counts_of plan) g (λ r. operand_hits around core.vars x r + had r) (start (op.Set a x)) (op.Set a x ∷ behind) ex frames qcore core.function b core.vars =
          up_run q args plan counting types qcore core.function b ex frames core.vars g h had x k at (op.Set a x ∷ behind) stands.shown (λ n r. roots a n (refers_to p types a t x n f takes r))
          (λ n r. value_leads p based counting args types roots core.blocks core.statics g stands.near n v (given_marked plan.counted (slice_get types a) n (refers_to p types a t x n f takes r)) (roots a n (refers_to p types a t x n f takes r)) (may.points n (refers_to p types a t x n f takes r)))
          (λ n m r is. alive x refl n m r is pointing counts) room counts in
          let g1 : Ghost = d.done.later in
          comes_before p based counting args types roots own (op.Set a x) ops rest e ex frames b (live ops e) (start (op.Set a x)) (At behind ex frames (here qcore core.function b (d.at + 1) (slice_set core.vars a v) d.done.blocks (memory g1)))
          (record core { at = core.at + 1; vars = slice_set core.vars a v })
          (leads_on q args d.done.leads (goes q args (At (op.Set a x ∷ behind) ex frames (here qcore core.function b d.at core.vars d.done.blocks (memory g1))) (At behind ex frames (here qcore core.function b (d.at + 1) (slice_set core.vars a v) d.done.blocks (memory g1)))
          (ap (λ y. goes_on (At behind ex frames) (cond y (Stuck IsUnset) (st.assigned (here qcore core.function b d.at core.vars d.done.blocks (memory g1)) a v))) y)))
          (value_end p based counting args types roots own (op.Set a x) ops rest e ex frames b a refl core qcore g1 d.done.blocks (d.at + 1) v inside fits unread
          (record {
            near = near_kept plan g g1 d.done.same d.done.same_statics core.blocks core.statics d.done.size d.done.size_statics stands.near;
            shown = d.done.shown;
            steps = stands.steps;
            exc_type = stands.exc_type;
            exc_value = stands.exc_value;
          })
          pointing may.points may.refers
          (own_same q args (counts_of plan) g1 (λ r. operand_hits around core.vars x r + had r) (λ r. hits_by (var_referred around a) v r + had r) (λ r. ap (λ n. n + had r) (taken_by p types a t x core.vars r f takes)) d.done.counted))
        where
          alive : (z : COperand) → z ≡ x → (n m : ℕ) → operand_referred around z ≡ Some n → operand core.vars z ≡ Ptr m → Pointing p types core.blocks core.statics (live (op.Set a x ∷ ops) e) core.vars
              → IsCounted q (counts_of plan) g (λ r. owned around (live (op.Set a x ∷ ops) e) core.vars r + own r) → 0 < count g.blocks m
          alive (Var w) same n m r is pointing counts =
              let lt : w < length core.vars = (let l : w < length types = referred_inside types w n r in omega (arith, l, fits)) in
              let used : live (op.Set a x ∷ ops) e w ≡ true = subst (λ x. (among w (variables_of x) || (not (sets (Some a) w) && live ops e w)) ≡ true) same (ap (λ b. (b || false) || (not (sets (Some a) w) && live ops e w)) (same_is w)) in
              let has : 0 < owned around (live (op.Set a x ∷ ops) e) core.vars (Ptr m) = owned_has around 0 (live (op.Set a x ∷ ops) e) core.vars w n m lt used r is in
              omega (arith, has, counts.blocks m)
            where
              referred_inside : (ts : List LlType) (v n : ℕ) → reference_given plan.counted (slice_get ts v) ≡ Some n → v < length ts
              referred_inside [] v n e = absurd (cc)
              referred_inside (t ∷ ts) zero n e = omega arith
              referred_inside (t ∷ ts) (suc v) n e = omega (arith, referred_inside ts v n e)
          alive (Const (const.Word z)) same n m r is pointing counts = absurd (cc)
          alive (Const (const.Char z)) same n m r is pointing counts = absurd (cc)
          alive (Const (const.Bool z)) same n m r is pointing counts = absurd (cc)
          alive (Const const.Null) same n m r is pointing counts = absurd (cc)
          alive (Const (const.Static s z)) same n m r is pointing counts = absurd (cc)
          alive (Const (const.Fun z)) same n m r is pointing counts = absurd (cc)

      typed : (o : Option LlType) → slice_get types a ≡ o → given_takes p types o x ≡ true → IsFollowedBy (op.Set a x) (does p args core (op.Set a x))
      typed None f ok = absurd (cc)
      typed (Some t) f ok = set t f ok (is_unset (operand core.vars x)) refl
