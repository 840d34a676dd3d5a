-- The rounds of the code end with the values of the rules.
use Rattle.std.proofs.Common.{◌≡◌, ℕ, ◌+◌, ◌≤◌, ◌<◌, zero, suc, List, [], ◌∷◌, ◌++◌, append_assoc, length, length-append, map, true, false, cond, Option, Some, None, sym, ap, ◌∙◌, refl, arith, subst, ◌⊎◌, inl, inr}
use Rattle.std.specs.Prelude.{slice_get, slice_set, nat_lt}
use Rattle.std.proofs.lemmas.Grind.{common_steps}
use Rattle.rpy_tree.specs.declared.program.Const.{Const}
use Rattle.names_bound.specs.declared.declare.ConstantAt.{ConstantAt}
use Rattle.names_found.specs.declared.unit.Found.{Found}
use Rattle.names_rules.specs.Bindings.{Binding}
use Rattle.names_rules.specs.Events.{Names}
use Rattle.names_value.specs.Constants as code
use Rattle.names_value.specs.declared.constants.Values.{Values as Code}
use Rattle.names_constants.specs.Constants as rule
use Rattle.names_constants.specs.Constants.{Constant}
use Rattle.names_constants.specs.Stands.{name_part, bound_part, attr_part}
use Rattle.names_constants.specs.Value.{from_node}
use Rattle.names_constants.proofs.Grows.{expr_grows}
use Rattle.names_constants.proofs.Order.{Below, AllBelow, Values, all_trans, all_both_ways, count, count_length, grown, full, same_length}
use Rattle.names_constants.proofs.Read.{Reads}
use Rattle.names_constants.proofs.Slots.{slot, last_in}

-- ---- lists

get_end : (xs ys : Values) (x : Option Const) → slice_get (xs ++ x ∷ ys) (length xs) ≡ Some x
get_end [] ys x = refl
get_end (z ∷ xs) ys x = get_end xs ys x

set_end : (xs ys : Values) (x y : Option Const) → slice_set (xs ++ x ∷ ys) (length xs) y ≡ xs ++ y ∷ ys
set_end [] ys x y = refl
set_end (z ∷ xs) ys x y = ap (λ zs. z ∷ zs) (set_end xs ys x y)

less : (n m : ℕ) → nat_lt n (n + suc m) ≡ true
less n m = grind (arith, common_steps)

within : (xs ys : Values) (x : Option Const) → nat_lt (length xs) (length (xs ++ x ∷ ys)) ≡ true
within xs ys x = ap (nat_lt (length xs)) (length-append xs (x ∷ ys)) ∙ less (length xs) (length ys)

count_append : (xs ys : Values) → count (xs ++ ys) ≡ count xs + count ys
count_append [] ys = omega arith
count_append (x ∷ xs) ys = let e : count (xs ++ ys) ≡ count xs + count ys = count_append xs ys in omega (arith, e)

one_found : (xs ys : Values) (c : Const) → count (xs ++ None ∷ ys) < count (xs ++ Some c ∷ ys)
one_found xs ys c = omega (arith, count_append xs (None ∷ ys), count_append xs (Some c ∷ ys))

all_append : (xs ys xs' ys' : Values) → AllBelow xs ys → AllBelow xs' ys' → AllBelow (xs ++ xs') (ys ++ ys')
all_append [] [] xs' ys' h k = k
all_append [] (y ∷ ys) xs' ys' h k = absurd h
all_append (x ∷ xs) [] xs' ys' h k = absurd h
all_append (x ∷ xs) (y ∷ ys) xs' ys' h k = (h.0, all_append xs ys xs' ys' h.1 k)

abbrev pub nones : ℕ → Values
nones zero = []
nones (suc n) = None ∷ nones n

none_end : (n : ℕ) → nones n ++ None ∷ [] ≡ None ∷ nones n
none_end zero = refl
none_end (suc n) = ap (λ xs. None ∷ xs) (none_end n)

pub none_yet_is : (n : ℕ) → code.none_yet n ≡ nones n
none_yet_is zero = refl
none_yet_is (suc n) = ap (λ xs. xs ++ None ∷ []) (none_yet_is n) ∙ none_end n

pub nones_below : (ys : Values) → AllBelow (nones (length ys)) ys
nones_below [] = tt
nones_below (y ∷ ys) = (tt, nones_below ys)

module _ (bs cs : List Binding) (bases : List (Option ℕ)) where
  abbrev value : Values → Constant → Option Const
  value V c = rule.value_of bs cs bases V c

  abbrev pub all_values : List Constant → Values → Values
  all_values all V = rule.all_values bs cs bases all V

  pub value_grows : (c : Constant) (V W : Values) → AllBelow V W → Below (value V c) (value W c)
  value_grows c V W h = (expr_grows (name_part bs cs bases c.file c.place []) (bound_part bs cs bases c.file c.place []) (attr_part bs cs bases c.file c.place []) V W h c.value.of (from_node c.value.first c.sites)).0.2

  values_grow : (all : List Constant) (V W : Values) → AllBelow V W → AllBelow (all_values all V) (all_values all W)
  values_grow [] V W h = tt
  values_grow (c ∷ all) V W h = (value_grows c V W h, values_grow all V W h)

  none_below : (all : List Constant) (f : Constant → Option Const) → AllBelow (map (λ c. None) all) (map f all)
  none_below [] f = tt
  none_below (c ∷ all) f = (tt, none_below all f)

  as_many : (all : List Constant) (f : Constant → Option Const) → length (map f all) ≡ length all
  as_many [] f = refl
  as_many (c ∷ all) f = ap suc (as_many all f)

  -- ---- the values of the rules stay when each is looked at once more

  module _ (all : List Constant) where
    abbrev by : ℕ → Values
    by n = rule.values_by bs cs bases all n

    step : (n : ℕ) → AllBelow (by n) (by (suc n))
    step zero = none_below all (value (by 0))
    step (suc n) = values_grow all (by n) (by (suc n)) (step n)

    stable_by : (n : ℕ) → (by n ≡ by (suc n)) ⊎ (count (by n) < count (by (suc n))) → n ≤ count (by n) → (by (suc n) ≡ by (suc (suc n))) ⊎ (suc n ≤ count (by (suc n)))
    stable_by n (inl e) h = inl (ap (all_values all) e)
    stable_by n (inr lt) h = inr (omega (arith, lt, h))

    stable_next : (n : ℕ) → (by n ≡ by (suc n)) ⊎ (n ≤ count (by n)) → (by (suc n) ≡ by (suc (suc n))) ⊎ (suc n ≤ count (by (suc n)))
    stable_next n (inl e) = inl (ap (all_values all) e)
    stable_next n (inr h) = stable_by n (grown (by n) (by (suc n)) (step n)) h

    stable : (n : ℕ) → (by n ≡ by (suc n)) ⊎ (n ≤ count (by n))
    stable zero = inr (omega arith)
    stable (suc n) = stable_next n (stable n)

    fixed_by : (n : ℕ) → n ≡ length all → (by n ≡ by (suc n)) ⊎ (count (by n) < count (by (suc n))) → n ≤ count (by n) → by n ≡ by (suc n)
    fixed_by n e (inl p) h = p
    fixed_by n e (inr lt) h = absurd (omega (arith, lt, h, e, count_length (by (suc n)), as_many all (value (by n))))

    fixed_from : (n : ℕ) → n ≡ length all → (by n ≡ by (suc n)) ⊎ (n ≤ count (by n)) → by n ≡ by (suc n)
    fixed_from n e (inl p) = p
    fixed_from n e (inr h) = fixed_by n e (grown (by n) (by (suc n)) (step n)) h

    abbrev pub final : Values
    final = rule.values bs cs bases all

    pub fixed : final ≡ all_values all final
    fixed = fixed_from (length all) refl (stable (length all))

    -- no values are fewer that give no more
    pub least_by : (n : ℕ) (V : Values) → length V ≡ length all → AllBelow (all_values all V) V → AllBelow (by n) V
    least_by zero V n closed = subst (λ (xs : Values). AllBelow (map (λ c. None) all) xs) refl (all_trans (map (λ c. None) all) (all_values all V) V (none_below all (value V)) closed)
    least_by (suc n) V e closed = all_trans (by (suc n)) (all_values all V) V (values_grow all (by n) V (least_by n V e closed)) closed

  pub least : (all : List Constant) (V : Values) → length V ≡ length all → AllBelow (all_values all V) V → AllBelow (rule.values bs cs bases all) V
  least all V e closed = least_by all (length all) V e closed

  -- ---- the code

  module _ (names : Names) (found : List Found) where
    abbrev pub steps : ConstantAt → List Rattle.names_found.specs.declared.step.Step.Step
    steps a = code.steps_of found a.unit

    -- a constant of the code
    pub record IsConstant (a : ConstantAt) (c : Constant) : Type 0 where
      pub class : a.class ≡ c.class
      pub reads : Reads names (steps a) (λ V. rule.of_constant bs cs bases V c)

    abbrev pub AreConstants : List ConstantAt → List Constant → Type 0
    AreConstants [] [] = Unit {0}
    AreConstants [] (c ∷ all) = ⊥
    AreConstants (a ∷ ats) [] = ⊥
    AreConstants (a ∷ ats) (c ∷ all) = IsConstant a c × AreConstants ats all

    pub many : (ats : List ConstantAt) (all : List Constant) → AreConstants ats all → length ats ≡ length all
    many [] [] h = refl
    many [] (c ∷ all) h = absurd h
    many (a ∷ ats) [] h = absurd h
    many (a ∷ ats) (c ∷ all) h = ap suc (many ats all h.1)

    abbrev made_more : Code → Constant → Code
    made_more v c = record { constants = v.constants; prebuilt = v.prebuilt ++ (rule.of_constant bs cs bases v.constants c).1.made; changed = v.changed }

    -- what a constant is tried with
    pub settled : (a : ConstantAt) (c : Constant) (number : ℕ) (v : Code) → IsConstant a c → code.settle names number (steps a) v ≡ code.put number (value v.constants c) (made_more v c)
    settled a c number v h = ap (λ m. code.settle_with number (code.value_at_end m) v) (h.reads.run v.constants v.prebuilt [])
        ∙ ap (λ x. code.put number x.value (made_more v c)) (last_in [] (slot (rule.of_constant bs cs bases v.constants c).0))

    module _ (final : Values) where
      abbrev Outcome : Code → Code → Type 0 → Type 0
      Outcome v v' closed = ((v'.constants ≡ v.constants) × (v'.changed ≡ v.changed) × closed) ⊎ ((v'.changed ≡ true) × (count v.constants < count v'.constants))

      record Pass (v v' : Code) (all : List Constant) (rest : Values) : Type 0 where
        sound : AllBelow v'.constants final
        outcome : Outcome v v' (AllBelow (map (value v.constants) all) rest)

      one_more : (v v' : Code) (all : List Constant) (rest : Values) (c : Constant) (x : Option Const) → Below (value v.constants c) x → Outcome v v' (AllBelow (map (value v.constants) all) rest) → Outcome v v' (AllBelow (map (value v.constants) (c ∷ all)) (x ∷ rest))
      one_more v v' all rest c x h (inl o) = inl (o.0, o.1, (h, o.2))
      one_more v v' all rest c x h (inr o) = inr o

      kept_on : (v v' : Code) (all : List Constant) (rest : Values) (c : Constant) (x : Option Const) → Below (value v.constants c) x → Pass v v' all rest → Pass v v' (c ∷ all) (x ∷ rest)
      kept_on v v' all rest c x h p = record { sound = p.sound; outcome = one_more v v' all rest c x h p.outcome }

      found_on : (v v2 v' : Code) (C D : Type 0) → v2.changed ≡ true → count v.constants < count v2.constants → Outcome v2 v' C → Outcome v v' D
      found_on v v2 v' C D e lt (inl o) = inr (o.1 ∙ e, omega (arith, lt, ap count o.0))
      found_on v v2 v' C D e lt (inr o) = inr (o.0, omega (arith, lt, o.1))

      none_below_it : (o : Option Const) (x : Option Const) → o ≡ None → Below o x
      none_below_it None x e = tt
      none_below_it (Some c) x e = absurd cc

      -- what stands before these constants, and theirs
      record Stands (v : Code) (number : ℕ) (done before rest : Values) (all : List Constant) : Type 0 where
        here : v.constants ≡ done ++ rest
        place : number ≡ length done
        whole : final ≡ before ++ map (value final) all
        first : AllBelow done before
        later : AllBelow rest (map (value final) all)

      all_sound : (v : Code) (number : ℕ) (done before rest : Values) (all : List Constant) → Stands v number done before rest all → AllBelow v.constants final
      all_sound v number done before rest all s = subst (λ (xs : Values). AllBelow xs final) (sym s.here) (subst (λ (ys : Values). AllBelow (done ++ rest) ys) (sym s.whole) (all_append done before rest (map (value final) all) s.first s.later))

      next_place : (n : ℕ) (done : Values) (x : Option Const) → n ≡ length done → n + 1 ≡ length (done ++ x ∷ [])
      next_place n done x e = omega (arith, e, length-append done (x ∷ []))

      -- past a constant that stays as it is
      past : (v : Code) (number : ℕ) (done before rest : Values) (c : Constant) (all : List Constant) (x : Option Const) → Stands v number done before (x ∷ rest) (c ∷ all) → Stands v (number + 1) (done ++ x ∷ []) (before ++ value final c ∷ []) rest all
      past v number done before rest c all x s = record {
        here = s.here ∙ sym (append_assoc done (x ∷ []) rest);
        place = next_place number done x s.place;
        whole = s.whole ∙ sym (append_assoc before (value final c ∷ []) (map (value final) all));
        first = all_append done before (x ∷ []) (value final c ∷ []) s.first (s.later.0, tt);
        later = s.later.1;
      }

      abbrev with_value : Code → ℕ → Const → Code
      with_value v number d = record { constants = slice_set v.constants number (Some d); prebuilt = v.prebuilt; changed = true }

      -- past a constant that gets a value
      given : (v : Code) (number : ℕ) (done before rest : Values) (c : Constant) (all : List Constant) (d : Const) → value final c ≡ Some d → Stands v number done before (None ∷ rest) (c ∷ all) → Stands (with_value v number d) (number + 1) (done ++ Some d ∷ []) (before ++ value final c ∷ []) rest all
      given v number done before rest c all d e s = record {
        here = (λ j. slice_set (s.here j) (s.place j) (Some d)) ∙ set_end done rest None (Some d) ∙ sym (append_assoc done (Some d ∷ []) rest);
        place = next_place number done (Some d) s.place;
        whole = s.whole ∙ sym (append_assoc before (value final c ∷ []) (map (value final) all));
        first = all_append done before (Some d ∷ []) (value final c ∷ []) s.first (e, tt);
        later = s.later.1;
      }

      more_found : (v : Code) (number : ℕ) (done before rest : Values) (c : Constant) (all : List Constant) (d : Const) → Stands v number done before (None ∷ rest) (c ∷ all) → count v.constants < count (with_value v number d).constants
      more_found v number done before rest c all d s = subst (λ (xs : Values). count xs < count (slice_set xs number (Some d))) (sym s.here)
          (subst (λ (n : ℕ). count (done ++ None ∷ rest) < count (slice_set (done ++ None ∷ rest) n (Some d))) (sym s.place)
          (subst (λ (ys : Values). count (done ++ None ∷ rest) < count ys) (sym (set_end done rest None (Some d))) (one_found done rest d)))

      is_open : (v : Code) (number : ℕ) (done before rest : Values) (all : List Constant) (x : Option Const) → Stands v number done before (x ∷ rest) all → code.is_open v.constants number ≡ code.open_at (Some x)
      is_open v number done before rest all x s = ap code.open_at ((λ j. slice_get (s.here j) (s.place j)) ∙ get_end done rest x)

      is_within : (v : Code) (number : ℕ) (done before rest : Values) (all : List Constant) (x : Option Const) → Stands v number done before (x ∷ rest) all → nat_lt number (length v.constants) ≡ true
      is_within v number done before rest all x s = (λ j. nat_lt (s.place j) (length (s.here j))) ∙ within done rest x

      remade : (v : Code) (number : ℕ) (done before rest : Values) (all : List Constant) (c : Constant) → Stands v number done before rest all → Stands (made_more v c) number done before rest all
      remade v number done before rest all c s = record { here = s.here; place = s.place; whole = s.whole; first = s.first; later = s.later }

      as_before : (v v' : Code) (c : Constant) (all : List Constant) (rest : Values) → Pass (made_more v c) v' all rest → Pass v v' all rest
      as_before v v' c all rest p = record { sound = p.sound; outcome = p.outcome }

      -- what comes after a constant
      abbrev Later : List ConstantAt → List Constant → ℕ → Values → Type 0
      Later ats all number rest = (w : Code) (done before : Values) → Stands w number done before rest all → Pass w (code.pass_from names found number ats w) all rest

      -- a constant that is open is tried
      tried : (ats : List ConstantAt) (c : Constant) (all : List Constant) (v : Code) (number : ℕ) (done before rest : Values) (o : Option Const) → Later ats all (number + 1) rest → Stands v number done before (None ∷ rest) (c ∷ all) → value v.constants c ≡ o
          → Pass v (code.pass_from names found (number + 1) ats (code.put number o (made_more v c))) (c ∷ all) (None ∷ rest)
      tried ats c all v number done before rest None go s e =
          kept_on v _ all rest c None (none_below_it (value v.constants c) None e)
          (as_before v _ c all rest (go (made_more v c) (done ++ None ∷ []) (before ++ value final c ∷ []) (past (made_more v c) number done before rest c all None (remade v number done before (None ∷ rest) (c ∷ all) c s))))
      tried ats c all v number done before rest (Some d) go s e =
          let told : value final c ≡ Some d = subst (λ (o : Option Const). Below o (value final c)) e (value_grows c v.constants final (all_sound v number done before (None ∷ rest) (c ∷ all) s)) in
          let s' : Stands (made_more v c) number done before (None ∷ rest) (c ∷ all) = remade v number done before (None ∷ rest) (c ∷ all) c s in
          let put_there : code.put number (Some d) (made_more v c) ≡ with_value (made_more v c) number d = ap (λ b. code.put_if b number d (made_more v c)) (is_within v number done before rest (c ∷ all) None s) in
          let p : Pass (with_value (made_more v c) number d) (code.pass_from names found (number + 1) ats (with_value (made_more v c) number d)) all rest
          = go (with_value (made_more v c) number d) (done ++ Some d ∷ []) (before ++ value final c ∷ []) (given (made_more v c) number done before rest c all d told s') in
          subst (λ (w : Code). Pass v (code.pass_from names found (number + 1) ats w) (c ∷ all) (None ∷ rest)) (sym put_there)
          (record { sound = p.sound; outcome = found_on v (with_value (made_more v c) number d) (code.pass_from names found (number + 1) ats (with_value (made_more v c) number d)) (AllBelow (map (value (with_value (made_more v c) number d).constants) all) rest) (AllBelow (map (value v.constants) (c ∷ all)) (None ∷ rest)) refl (more_found (made_more v c) number done before rest c all d s') p.outcome })

      passes : (ats : List ConstantAt) (all : List Constant) (v : Code) (number : ℕ) (done before rest : Values) → AreConstants ats all → Stands v number done before rest all → Pass v (code.pass_from names found number ats v) all rest
      passes [] [] v number done before [] h s = record { sound = all_sound v number done before [] [] s; outcome = inl (refl, refl, tt) }
      passes [] [] v number done before (x ∷ rest) h s = absurd s.later
      passes [] (c ∷ all) v number done before rest h s = absurd h
      passes (a ∷ ats) [] v number done before rest h s = absurd h
      passes (a ∷ ats) (c ∷ all) v number done before [] h s = absurd s.later
      passes (a ∷ ats) (c ∷ all) v number done before (Some d ∷ rest) h s =
          let same : code.settle_open names number (steps a) v ≡ v = ap (λ b. cond b (code.settle names number (steps a) v) v) (is_open v number done before rest (c ∷ all) (Some d) s) in
          let below : Below (value v.constants c) (Some d) = subst (λ (o : Option Const). Below (value v.constants c) o) s.later.0 (value_grows c v.constants final (all_sound v number done before (Some d ∷ rest) (c ∷ all) s)) in
          subst (λ (w : Code). Pass v (code.pass_from names found (number + 1) ats w) (c ∷ all) (Some d ∷ rest)) (sym same)
          (kept_on v _ all rest c (Some d) below (passes ats all v (number + 1) (done ++ Some d ∷ []) (before ++ value final c ∷ []) rest h.1 (past v number done before rest c all (Some d) s)))
      passes (a ∷ ats) (c ∷ all) v number done before (None ∷ rest) h s =
          let opened : code.settle_open names number (steps a) v ≡ code.put number (value v.constants c) (made_more v c)
          = ap (λ b. cond b (code.settle names number (steps a) v) v) (is_open v number done before rest (c ∷ all) None s) ∙ settled a c number v h.0 in
          subst (λ (w : Code). Pass v (code.pass_from names found (number + 1) ats w) (c ∷ all) (None ∷ rest)) (sym opened)
          (tried ats c all v number done before rest (value v.constants c) (λ w done' before' s'. passes ats all w (number + 1) done' before' rest h.1 s') s refl)

    -- ---- round after round

    module _ (ats : List ConstantAt) (all : List Constant) (are : AreConstants ats all) where
      abbrev last : Values
      last = final all

      last_length : length last ≡ length all
      last_length = ap length (fixed all) ∙ as_many all (value last)

      abbrev begin : Code → Code
      begin v = record { constants = v.constants; prebuilt = v.prebuilt; changed = false }

      stands : (v : Code) → AllBelow v.constants last → Stands last (begin v) 0 [] [] v.constants all
      stands v h = record { here = refl; place = refl; whole = fixed all; first = tt; later = subst (λ (ys : Values). AllBelow v.constants ys) (fixed all) h }

      ended : (n : ℕ) (v : Code) → v.changed ≡ false → code.rounds names found ats n v ≡ v
      ended zero v e = refl
      ended (suc n) v e = ap (λ b. cond b (code.rounds names found ats n (code.pass names found ats v)) v) e

      by_outcome : (n : ℕ) (v : Code) → AllBelow v.constants last → length ats ≤ suc n + count v.constants
          → ((w : Code) → w.changed ≡ true → AllBelow w.constants last → length ats ≤ n + count w.constants → (code.rounds names found ats n w).constants ≡ last)
          → Pass last (begin v) (code.pass names found ats v) all v.constants → Outcome last (begin v) (code.pass names found ats v) (AllBelow (map (value v.constants) all) v.constants)
          → (code.rounds names found ats n (code.pass names found ats v)).constants ≡ last
      by_outcome n v sound many_enough go p (inl o) = ap (λ w. w.constants) (ended n (code.pass names found ats v) o.1) ∙ o.0
          ∙ all_both_ways v.constants last sound (least_by all (length all) v.constants (same_length v.constants last sound ∙ last_length) o.2)
      by_outcome n v sound many_enough go p (inr o) = go (code.pass names found ats v) o.0 p.sound (omega (arith, many_enough, o.1))

      rounds_are : (n : ℕ) (v : Code) → v.changed ≡ true → AllBelow v.constants last → length ats ≤ n + count v.constants → (code.rounds names found ats n v).constants ≡ last
      rounds_are zero v e sound h = full v.constants last sound (omega (arith, h, same_length v.constants last sound, last_length, many ats all are))
      rounds_are (suc n) v e sound h =
          let p : Pass last (begin v) (code.pass names found ats v) all v.constants = passes last ats all (begin v) 0 [] [] v.constants are (stands v sound) in
          ap (λ b. (cond b (code.rounds names found ats n (code.pass names found ats v)) v).constants) e
          ∙ by_outcome n v sound h (rounds_are n) p p.outcome

      pub none_sound : AllBelow (code.none_yet (length ats)) last
      none_sound = subst (λ (xs : Values). AllBelow xs last) (sym (none_yet_is (length ats) ∙ ap nones (many ats all are ∙ sym last_length))) (nones_below last)

      pub values_are : (code.constant_values names found ats).constants ≡ last
      values_are = rounds_are (length ats) (record { constants = code.none_yet (length ats); prebuilt = []; changed = true }) refl none_sound (omega arith)
