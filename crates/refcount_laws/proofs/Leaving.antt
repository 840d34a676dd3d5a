-- Exits of a counted program: links give their references on, and a block drops the inputs that it does not read.
use Rattle.std.proofs.Common.{◌≡◌, ◌≢◌, ◌<◌, ◌≤◌, ℕ, zero, suc, ◌+◌, Bool, true, false, ◌||◌, List, [], ◌∷◌, length, Option, Some, None, refl, sym, ap, ◌∙◌, subst, arith}
use Rattle.std.specs.Prelude.{slice_get, slice_set, ◌==◌, not, cond}
use Rattle.csub_tree.specs.State.{Value, Unset, Ptr, Block, Core}
use Rattle.csub_tree.specs.Statement.{read, operand, operands, any_unset}
use Rattle.csub_tree.specs.declared.tree.CConst.TheVariants as const
use Rattle.csub_tree.specs.declared.tree.COperand.{COperand}
use Rattle.csub_tree.specs.declared.tree.COperand.TheVariants.{Var, Const}
use Rattle.csub_tree.specs.declared.stuck.StuckReason.TheVariants.{Unset as IsUnset}
use Rattle.ll_code.specs.State.{Frame, State, At, Goes, Sticks}
use Rattle.ll_code.specs.Machine.{step, jump, begins, block_in, set_all}
use Rattle.ll_code.specs.Typed.{all_given, given_takes}
use Rattle.ll_code.specs.declared.program.LlType.{LlType}
use Rattle.ll_code.specs.declared.program.LlLink.{LlLink}
use Rattle.ll_code.specs.declared.program.LlOp.{LlOp}
use Rattle.ll_code.specs.declared.program.LlExit.{LlExit}
use Rattle.ll_code.specs.declared.program.LlBlock.{LlBlock}
use Rattle.ll_code.specs.declared.program.LlProgram.{LlProgram}
use Rattle.ll_live.specs.Live.{among, variables_in, variables_of, live}
use Rattle.ll_laws.proofs.Values.{and_left, and_right}
use Rattle.refcount_transform.specs.Plan.{Plan, plan_of, reference_given}
use Rattle.refcount_transform.specs.Changes.{Around, around_of, var_referred, operand_referred, dead, ops_of}
use Rattle.refcount_transform.specs.Blocks.{exit_of, block_of}
use Rattle.refcount_transform.specs.Counted.{counted}
use Rattle.refcount_laws.specs.Graphs.{Counts, Counting}
use Rattle.refcount_laws.specs.Made.{counts_of}
use Rattle.refcount_laws.specs.Ghost.{Ghost, hit, count, memory, LeadsTo, IsCounted}
use Rattle.refcount_laws.specs.Runs.{here}
use Rattle.refcount_laws.specs.Owned.{owns, owned, DoneTo, hits_by, all_hits, OperandsLead}
use Rattle.refcount_laws.specs.Matches.{PointsTo, Pointing, AllRoots, Stands, Comes}
use Rattle.refcount_laws.specs.Leaves.{are_apart}
use Rattle.refcount_laws.proofs.Cells.{set_here, set_other, set_length}
use Rattle.refcount_laws.proofs.Steps.{leads_on, goes, on_count, goes_count}
use Rattle.refcount_laws.proofs.Moving.{own_same}
use Rattle.refcount_laws.proofs.Numbers.{Based}
use Rattle.refcount_laws.proofs.Places.{given_marked}
use Rattle.refcount_laws.proofs.Owning.{owned_same, owned_plain, owned_one}
use Rattle.refcount_laws.proofs.Dead.{same_is, differ_is, dead_run}
use Rattle.refcount_laws.proofs.Following.{near_kept, value_leads}
use Rattle.refcount_laws.proofs.Operating.{typed_inside}
use Rattle.refcount_laws.proofs.Copying.{owned_has, taken_by, refers_to}

-- ---- variables that are set at once

not_true : (b : Bool) → not b ≡ true → b ≡ false
not_true true h = absurd (cc)
not_true false h = refl

pub all_length : (vars : List Value) (vs : List ℕ) (ys : List Value) → length (set_all vars vs ys) ≡ length vars
all_length vars [] ys = refl
all_length vars (v ∷ vs) [] = refl
all_length vars (v ∷ vs) (y ∷ ys) = all_length (slice_set vars v y) vs ys ∙ set_length vars v y

all_other : (vars : List Value) (vs : List ℕ) (ys : List Value) (w : ℕ) → among w vs ≡ false → read (set_all vars vs ys) w ≡ read vars w
all_other vars [] ys w h = refl
all_other vars (v ∷ vs) [] w h = refl
all_other vars (v ∷ vs) (y ∷ ys) w h = one (v == w) refl h (all_other (slice_set vars v y) vs ys w)
  where
    ne_of : (v == w) ≡ false → v ≢ w
    ne_of e f = absurd (let t : (v == w) ≡ true = ap (λ w. v == w) (sym f) ∙ same_is v in let x : true ≡ false = sym t ∙ e in cc)

    one : (b : Bool) → (v == w) ≡ b → (b || among w vs) ≡ false → (among w vs ≡ false → read (set_all (slice_set vars v y) vs ys) w ≡ read (slice_set vars v y) w) → read (set_all (slice_set vars v y) vs ys) w ≡ read vars w
    one true e h go = absurd (cc)
    one false e h go = go h ∙ set_other vars v w y Unset (ne_of e)

-- the first of them
all_here : (vars : List Value) (v : ℕ) (vs : List ℕ) (y : Value) (ys : List Value) → v < length vars → among v vs ≡ false → read (set_all vars (v ∷ vs) (y ∷ ys)) v ≡ y
all_here vars v vs y ys lt h = all_other (slice_set vars v y) vs ys v h ∙ set_here vars v y Unset lt

-- ---- what the inputs of a block own

-- what is still used while these variables are to be dropped
abbrev pub left_over : List LlOp → LlExit → List ℕ → ℕ → Bool
left_over ops e vs w = live ops e w || among w vs

module _ (p : LlProgram) (types : List LlType) where
  abbrev around_ : Around
  around_ = around_of (plan_of p) types

  taken_at : (v : ℕ) (x : COperand) (vars : List Value) (r : Value) → given_takes p types (slice_get types v) x ≡ true → hits_by (operand_referred around_ x) (operand vars x) r ≡ hits_by (var_referred around_ v) (operand vars x) r
  taken_at v x vars r ok = one (slice_get types v) refl ok
    where
      one : (o : Option LlType) → slice_get types v ≡ o → given_takes p types o x ≡ true → hits_by (operand_referred around_ x) (operand vars x) r ≡ hits_by (var_referred around_ v) (operand vars x) r
      one None e ok = absurd (cc)
      one (Some t) e ok = taken_by p types v t x vars r e ok

  inside_at : (v : ℕ) (x : COperand) → given_takes p types (slice_get types v) x ≡ true → v < length types
  inside_at v x ok = one (slice_get types v) refl ok
    where
      one : (o : Option LlType) → slice_get types v ≡ o → given_takes p types o x ≡ true → v < length types
      one None e ok = absurd (cc)
      one (Some t) e ok = typed_inside types v t e

  refers_at : (v : ℕ) (x : COperand) (n : ℕ) → given_takes p types (slice_get types v) x ≡ true → operand_referred around_ x ≡ Some n → var_referred around_ v ≡ Some n
  refers_at v x n ok h = one (slice_get types v) refl ok
    where
      one : (o : Option LlType) → slice_get types v ≡ o → given_takes p types o x ≡ true → var_referred around_ v ≡ Some n
      one None e ok = absurd (cc)
      one (Some t) e ok = refers_to p types v t x n e ok h

  pub inputs_owned : (old : List Value) (vs : List ℕ) (xs : List COperand) (vars : List Value) (r : Value) → all_given p types types vs xs ≡ true → are_apart vs ≡ true → length vars ≡ length types
      → owned around_ (λ w. among w vs) (set_all vars vs (operands old xs)) r ≡ all_hits around_ old xs r
  inputs_owned old [] [] vars r ok apart fits = nothing 0 vars
    where
      nothing : (n : ℕ) (vars : List Value) → Rattle.refcount_laws.specs.Ghost.occurs r (Rattle.ll_held.specs.Roots.kept (owns around_ (λ w. false)) n vars) ≡ 0
      nothing n [] = refl
      nothing n (x ∷ vars) = nothing (suc n) vars
  inputs_owned old [] (x ∷ xs) vars r ok apart fits = absurd (cc)
  inputs_owned old (v ∷ vs) [] vars r ok apart fits = absurd (cc)
  inputs_owned old (v ∷ vs) (x ∷ xs) vars r ok apart fits =
      by (inputs_owned old vs xs (slice_set vars v y) r (and_right _ _ ok) (and_right _ _ apart) (set_length vars v y ∙ fits)) (var_referred around_ v) refl (taken_at v x old r (and_left _ _ ok))
    where
      y : Value
      y = operand old x

      now : List Value
      now = set_all vars (v ∷ vs) (operands old (x ∷ xs))

      alone : among v vs ≡ false
      alone = not_true (among v vs) (and_left _ _ apart)

      first : among v (v ∷ vs) ≡ true
      first = ap (λ b. b || among v vs) (same_is v)

      others : (w : ℕ) → w ≢ v → among w (v ∷ vs) ≡ among w vs
      others w ne = ap (λ b. b || among w vs) (differ_is v w (λ q. ne (sym q)))

      inside : v < length vars
      inside = let lt : v < length types = inside_at v x (and_left _ _ ok) in omega (arith, lt, fits)

      by : owned around_ (λ w. among w vs) now r ≡ all_hits around_ old xs r → (k : Option ℕ) → var_referred around_ v ≡ k → hits_by (operand_referred around_ x) y r ≡ hits_by (var_referred around_ v) y r
          → owned around_ (λ w. among w (v ∷ vs)) now r ≡ hits_by (operand_referred around_ x) y r + all_hits around_ old xs r
      by ih None e taken =
          let a : owned around_ (λ w. among w (v ∷ vs)) now r ≡ owned around_ (λ w. among w vs) now r = owned_plain around_ (λ w. among w (v ∷ vs)) (λ w. among w vs) v now r e others in
          let b : hits_by (operand_referred around_ x) y r ≡ 0 = taken ∙ ap (λ k. hits_by k y r) e in
          omega (arith, a, b, ih)
      by ih (Some n) e taken =
          let long : length now ≡ length vars = all_length vars (v ∷ vs) (operands old (x ∷ xs)) in
          let a : owned around_ (λ w. among w (v ∷ vs)) now r ≡ hit r (read now v) + owned around_ (λ w. among w vs) now r =
          owned_one around_ (λ w. among w (v ∷ vs)) (λ w. among w vs) v n now r (omega (arith, long, inside)) e first alone others in
          let b : hits_by (operand_referred around_ x) y r ≡ hit r y = taken ∙ ap (λ k. hits_by k y r) e in
          let d : hit r (read now v) ≡ hit r y = ap (hit r) (all_here vars v vs y (operands old xs) inside alone) in
          omega (arith, a, b, d, ih)

module _ (p : LlProgram) (based : Based p.structs) (counting : Counting (counted p) (counts_of (plan_of p))) (args : List (List ℕ)) (types : List LlType) (roots : AllRoots p types) (own : Value → ℕ) (frames : List Frame) (core qcore : Core) (fits : length core.vars ≡ length types) where
  abbrev plan : Plan
  plan = plan_of p

  abbrev q : LlProgram
  q = counted p

  abbrev c : Counts
  c = counts_of plan

  abbrev around : Around
  around = around_of plan types

  -- it comes there by some steps
  pub record Arrives (uses : ℕ → Bool) (from : State) (rest : List LlOp) (ex : LlExit) (block : ℕ) (later : Core) : Type 0 where
    pub comes : Comes p args types uses own from rest ex frames block later
    pub moves : 0 < comes.leads.count

  -- ---- a link whose references were counted

  module _ (link : LlLink) (block : LlBlock) (next : ℕ) (ok : all_given p types types block.inputs link.args ≡ true) (apart : are_apart block.inputs ≡ true) (closed : (v : ℕ) → live block.ops block.exit v ≡ true → among v block.inputs ≡ true)
      (set : any_unset (operands core.vars link.args) ≡ false) (there : block_in (slice_get q.graphs core.function) link.to ≡ Some (block_of around next block)) where
    abbrev vars : List Value
    vars = set_all core.vars block.inputs (operands core.vars link.args)

    abbrev later : Core
    later = record core { block = link.to; at = 0; vars = vars }

    pub arrives : (g : Ghost) (h : List (Option Block)) (b at : ℕ) (from : State) → Stands p core qcore g h → Pointing p types core.blocks core.statics (λ w. among w block.inputs) vars
        → IsCounted q c g (λ r. all_hits around core.vars link.args r + own r) → step q args from ≡ jump q frames (here qcore core.function b at core.vars h (memory g)) link
        → Arrives (live block.ops block.exit) from (ops_of around block.ops block.exit) (exit_of around next block.exit) link.to later
    arrives g h b at from stands pointing counts stepped =
        let begun : State = At (dead around block.inputs block.ops block.exit (ops_of around block.ops block.exit)) (exit_of around next block.exit) frames (here qcore core.function link.to 0 vars h (memory g)) in
        let moves : step q args from ≡ Goes begun =
        stepped ∙ ap (λ y. cond y (Sticks IsUnset) (begins frames (here qcore core.function b at core.vars h (memory g)) link.to (operands core.vars link.args) (block_in (slice_get q.graphs core.function) link.to))) set
        ∙ ap (begins frames (here qcore core.function b at core.vars h (memory g)) link.to (operands core.vars link.args)) there in
        let long : length vars ≡ length types = all_length core.vars block.inputs (operands core.vars link.args) ∙ fits in
        let d : DoneTo q args c g (λ r. owned around (live block.ops block.exit) vars r + own r) begun (ops_of around block.ops block.exit) (exit_of around next block.exit) frames qcore core.function link.to vars =
        dead_run q args plan counting types qcore core.function link.to (exit_of around next block.exit) frames vars long block.inputs block.ops block.exit (ops_of around block.ops block.exit) 0 g h own stands.shown
        (record {
          root = λ v n u e. roots v n e;
          leads = λ v n u e. value_leads p based counting args types roots core.blocks core.statics g stands.near n (read vars v) (given_marked plan.counted (slice_get types v) n e) (roots v n e) (pointing.at v n (sym (used v) ∙ u) e);
        })
        (own_same q args c g (λ r. all_hits around core.vars link.args r + own r) (λ r. owned around (left_over block.ops block.exit block.inputs) vars r + own r)
        (λ r. ap (λ n. n + own r) (sym (inputs_owned p types core.vars block.inputs link.args core.vars r ok apart fits) ∙ owned_same around (λ w. among w block.inputs) (left_over block.ops block.exit block.inputs) vars r (λ w. sym (used w)))) counts) in
        let comes : Comes p args types (live block.ops block.exit) own from (ops_of around block.ops block.exit) (exit_of around next block.exit) frames link.to later = record {
          qcore = qcore;
          g = d.done.later;
          h = d.done.blocks;
          at = d.at;
          stands = record {
            near = near_kept plan g d.done.later d.done.same d.done.same_statics core.blocks core.statics d.done.size d.done.size_statics stands.near;
            shown = d.done.shown;
            steps = stands.steps;
            exc_type = stands.exc_type;
            exc_value = stands.exc_value;
          };
          counts = d.done.counted;
          leads = leads_on q args (goes q args from begun moves) d.done.leads;
        } in
        record { comes = comes; moves = omega (arith, on_count q args (goes q args from begun moves) d.done.leads, goes_count q args from begun moves) }
      where
        used : (w : ℕ) → left_over block.ops block.exit block.inputs w ≡ among w block.inputs
        used w = one (live block.ops block.exit w) refl
          where
            one : (b : Bool) → live block.ops block.exit w ≡ b → (b || among w block.inputs) ≡ among w block.inputs
            one true e = sym (closed w e)
            one false e = refl

  -- ---- operands that are given

  module _ (uses : ℕ → Bool) (g : Ghost) (h : List (Option Block)) (stands : Stands p core qcore g h) (pointing : Pointing p types core.blocks core.statics uses core.vars) (most : Value → ℕ) (more : (r : Value) → owned around uses core.vars r ≤ most r) where
    pub owned_by : (x : COperand) (n a : ℕ) → ((w : ℕ) → among w (variables_of x) ≡ true → uses w ≡ true) → operand_referred around x ≡ Some n → operand core.vars x ≡ Ptr a → 0 < most (Ptr a)
    owned_by (Var w) n a used e is =
        let l : w < length types = referred_inside types w n e in
        let lt : w < length core.vars = omega (arith, l, fits) in
        omega (arith, owned_has around 0 uses core.vars w n a lt (used w (ap (λ b. b || false) (same_is w))) e is, more (Ptr a))
      where
        referred_inside : (ts : List LlType) (v n : ℕ) → reference_given plan.counted (slice_get ts v) ≡ Some n → v < length ts
        referred_inside [] v n e = absurd (cc)
        referred_inside (t ∷ ts) zero n e = omega arith
        referred_inside (t ∷ ts) (suc v) n e = omega (arith, referred_inside ts v n e)
    owned_by (Const (const.Word z)) n a used e is = absurd (cc)
    owned_by (Const (const.Char z)) n a used e is = absurd (cc)
    owned_by (Const (const.Bool z)) n a used e is = absurd (cc)
    owned_by (Const const.Null) n a used e is = absurd (cc)
    owned_by (Const (const.Static s z)) n a used e is = absurd (cc)
    owned_by (Const (const.Fun z)) n a used e is = absurd (cc)

    -- each leads where the variable that takes it points
    pub inputs_lead : (vs : List ℕ) (xs : List COperand) (vars : List Value) → all_given p types types vs xs ≡ true → are_apart vs ≡ true → length vars ≡ length types → ((w : ℕ) → among w (variables_in xs) ≡ true → uses w ≡ true)
        → Pointing p types core.blocks core.statics (λ w. among w vs) (set_all vars vs (operands core.vars xs)) → OperandsLead q around g most core.vars xs
    inputs_lead [] [] vars ok apart long used at = tt
    inputs_lead [] (x ∷ xs) vars ok apart long used at = absurd (cc)
    inputs_lead (v ∷ vs) [] vars ok apart long used at = absurd (cc)
    inputs_lead (v ∷ vs) (x ∷ xs) vars ok apart long used at =
        let y : Value = operand core.vars x in
        let t : given_takes p types (slice_get types v) x ≡ true = and_left _ _ ok in
        let lt : v < length vars = (let l : v < length types = inside_at p types v x t in omega (arith, l, long)) in
        let is : read (set_all (slice_set vars v y) vs (operands core.vars xs)) v ≡ y = all_here vars v vs y (operands core.vars xs) lt (not_true (among v vs) (and_left _ _ apart)) in (
          record {
            root = λ n e. roots v n (refers_at p types v x n t e);
            leads = λ n e. (let f : var_referred around v ≡ Some n = refers_at p types v x n t e in
                value_leads p based counting args types roots core.blocks core.statics g stands.near n y (given_marked plan.counted (slice_get types v) n f) (roots v n f) (subst (PointsTo p core.blocks core.statics n) is (at.at v n (ap (λ b. b || among v vs) (same_is v)) f)));
            owned = λ n a e i. owned_by x n a (λ w m. used w (first_in x xs w m)) e i;
          },
          inputs_lead vs xs (slice_set vars v y) (and_right _ _ ok) (and_right _ _ apart) (set_length vars v y ∙ long) (λ w m. used w (later_in x xs w m))
              (record { at = λ w n u e. at.at w n (behind (v == w) (among w vs) u) e; refers = λ w a u e. at.refers w a (behind (v == w) (among w vs) u) e }),
        )
      where
        behind : (b c : Bool) → c ≡ true → (b || c) ≡ true
        behind true c e = refl
        behind false c e = e

        first_in : (x : COperand) (xs : List COperand) (w : ℕ) → among w (variables_of x) ≡ true → among w (variables_in (x ∷ xs)) ≡ true
        first_in (Var z) xs w m = by (z == w) m
          where
            by : (b : Bool) → (b || false) ≡ true → (b || among w (variables_in xs)) ≡ true
            by true e = refl
            by false e = absurd (cc)
        first_in (Const k) xs w m = absurd (cc)

        later_in : (x : COperand) (xs : List COperand) (w : ℕ) → among w (variables_in xs) ≡ true → among w (variables_in (x ∷ xs)) ≡ true
        later_in (Var z) xs w m = behind (z == w) (among w (variables_in xs)) m
        later_in (Const k) xs w m = m
