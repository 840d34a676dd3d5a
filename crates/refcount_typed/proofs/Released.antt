-- The graphs that release a block keep the rules.
use Rattle.std.proofs.Common.{◌≡◌, ◌<◌, ◌≤◌, ℕ, zero, suc, ◌+◌, Bool, true, false, ◌&&◌, List, [], ◌∷◌, ◌++◌, length, map, Option, Some, None, refl, sym, ap, ◌∙◌, arith, codes}
use Rattle.std.specs.Prelude.{slice_get}
use Rattle.std.specs.Fmt.{decimal}
use Rattle.csub_tree.specs.Checked.{is_name}
use Rattle.csub_tree.specs.declared.tree.CBinary.TheVariants.{Add, Lt}
use Rattle.csub_tree.specs.declared.tree.COperand.{COperand}
use Rattle.csub_tree.specs.declared.tree.COperand.TheVariants.{Var}
use Rattle.ll_code.specs.declared.program.LlType.{LlType}
use Rattle.ll_code.specs.declared.program.LlType.TheVariants as type
use Rattle.ll_code.specs.declared.program.LlOp.{LlOp}
use Rattle.ll_code.specs.declared.program.LlOp.TheVariants as op
use Rattle.ll_code.specs.declared.program.LlGraph.{LlGraph}
use Rattle.ll_code.specs.declared.program.LlProgram.{LlProgram}
use Rattle.ll_code.specs.Typed.{IsWellTyped, field_of, items_of, is_kind, are_kinds, same_type, has_type, has_given, takes, given_takes, all_given, exit_ok, operations_ok, block_ok, graph_ok}
use Rattle.ll_laws.proofs.Values.{and_left, and_right}
use Rattle.refcount_transform.specs.declared.plan.Held.{Held}
use Rattle.refcount_transform.specs.declared.made.Loop.{Loop}
use Rattle.refcount_transform.specs.Plan.{Plan, plan_of, counts_at, root_of, field_number}
use Rattle.refcount_transform.specs.Made.{call, word, numbers_from, first_variables, first_operands, drops, held_types, freed, plain_body, release_plain, release_items, loop_behind, loop_types, release_start, release_test, release_one, release_end}
use Rattle.refcount_transform.specs.Counted.{counted}
use Rattle.refcount_laws.specs.Graphs.{IsRoot}
use Rattle.refcount_laws.specs.Made.{counts_of, leads_to_roots}
use Rattle.refcount_laws.proofs.Numbers.{length_mapped, get_left, get_right}
use Rattle.refcount_typed.proofs.Tests.{and_both}
use Rattle.refcount_typed.proofs.Named.{decimal_named, both_named}
use Rattle.refcount_typed.proofs.Fields.{AllRight}
use Rattle.refcount_typed.proofs.Calls.{down_call}
use Rattle.refcount_typed.proofs.Made.{self, Inside, graph_fine, one_block, more, gets_good, drops_good}

-- ---- variables that are there pass themselves on

abbrev pub is_there : LlType → Bool
is_there type.Void = false
is_there other = true

abbrev pub all_there : List LlType → Bool
all_there [] = true
all_there (t ∷ ts) = is_there t && all_there ts

same_self : (t : LlType) → is_there t ≡ true → same_type t t ≡ true
same_self type.Signed h = refl
same_self type.Char h = refl
same_self type.Bool h = refl
same_self type.Void h = absurd (cc)
same_self type.Fn h = refl
same_self (type.Ptr n) h = self n

held_there : (held : List Held) (ts : List LlType) → all_there ts ≡ true → all_there (held_types held ++ ts) ≡ true
held_there [] ts h = h
held_there (x ∷ held) ts h = held_there held ts h

abbrev own_type : Option LlType → Bool
own_type None = false
own_type (Some t) = same_type t t

at_there : (ts : List LlType) (v : ℕ) → all_there ts ≡ true → v < length ts → own_type (slice_get ts v) ≡ true
at_there [] v h lt = absurd (omega (arith, lt))
at_there (t ∷ ts) zero h lt = same_self t (and_left _ _ h)
at_there (t ∷ ts) (suc v) h lt = at_there ts v (and_right (is_there t) _ h) (omega (arith, lt))

module _ (q : LlProgram) (types : List LlType) (there : all_there types ≡ true) where
  passes : (v : ℕ) → v < length types → given_takes q types (slice_get types v) (Var v) ≡ true
  passes v lt = by (slice_get types v) refl (at_there types v there lt)
    where
      by : (o : Option LlType) → slice_get types v ≡ o → own_type o ≡ true → given_takes q types o (Var v) ≡ true
      by None e h = absurd (cc)
      by (Some t) e h = ap (has_type t) e ∙ h

  -- the variables from v on, and one operand more
  all_pass : (v k : ℕ) → v + k ≤ length types → all_given q types types (numbers_from v k) (map Var (numbers_from v k)) ≡ true
  all_pass v zero lt = refl
  all_pass v (suc k) lt = and_both (given_takes q types (slice_get types v) (Var v)) _ (passes v (omega (arith, lt))) (all_pass (suc v) k (omega (arith, lt)))

  pass_more : (v k : ℕ) (x : COperand) → v + k ≤ length types → given_takes q types (slice_get types (v + k)) x ≡ true → all_given q types types (numbers_from v (suc k)) (map Var (numbers_from v k) ++ x ∷ []) ≡ true
  pass_more v zero x lt h = and_both (given_takes q types (slice_get types v) x) true (ap (λ n. given_takes q types (slice_get types n) x) (let z : v ≡ v + 0 = omega arith in z) ∙ h) refl
  pass_more v (suc k) x lt h =
      and_both (given_takes q types (slice_get types v) (Var v)) _ (passes v (omega (arith, lt)))
      (pass_more (suc v) k x (omega (arith, lt)) (ap (λ n. given_takes q types (slice_get types n) x) (let z : suc v + k ≡ v + suc k = omega arith in z) ∙ h))

-- ---- what stands behind the first variable and the fields

behind_held : (m : ℕ) (held : List Held) (t : LlType) (j : ℕ) → slice_get (t ∷ (held_types held ++ loop_types m)) (length held + suc j) ≡ slice_get (loop_types m) j
behind_held m held t j =
    ap (slice_get (t ∷ (held_types held ++ loop_types m))) (let z : length held + suc j ≡ suc (length (held_types held) + j) = omega (arith, length_mapped (λ h. type.Ptr h.to) held) in z)
    ∙ get_right (held_types held) (loop_types m) j

long_behind : (m : ℕ) (held : List Held) (t : LlType) → length (t ∷ (held_types held ++ loop_types m)) ≡ length held + 5
long_behind m [] t = refl
long_behind m (h ∷ held) t = let e : length (t ∷ (held_types held ++ loop_types m)) ≡ length held + 5 = long_behind m held t in omega (arith, e)

module _ (p : LlProgram) (ok : IsWellTyped p) (leads : leads_to_roots p ≡ true) where
  abbrev plan : Plan
  plan = plan_of p

  abbrev pub AllInside : List Held → Type 0
  AllInside [] = Unit {0}
  AllInside (h ∷ held) = Inside (counted p) h.to × AllInside held

  kinds_inside : (held : List Held) (ts : List LlType) → AllInside held → are_kinds (counted p).structs ts ≡ true → are_kinds (counted p).structs (held_types held ++ ts) ≡ true
  kinds_inside [] ts a h = h
  kinds_inside (x ∷ held) ts a h = and_both (is_kind (counted p).structs (type.Ptr x.to)) (are_kinds (counted p).structs (held_types held ++ ts)) a.0 (kinds_inside held ts a.1 h)

  none_more : (held : List Held) → held_types held ++ [] ≡ held_types held
  none_more [] = refl
  none_more (h ∷ held) = ap (λ l. type.Ptr h.to ∷ l) (none_more held)

  name_is : (n : ℕ) → is_name (codes "release_s" ++ decimal n) ≡ true
  name_is n = both_named (codes "release_s") (decimal n) refl (decimal_named n)

  pub plain_good : (n : ℕ) (held : List Held) → AllRight p held → AllInside held → Inside (counted p) (root_of plan n) → graph_ok (counted p) (release_plain plan n held) ≡ true
  plain_good n held right inside owner =
      let types : List LlType = type.Ptr (root_of plan n) ∷ held_types held in
      let have : (i : ℕ) → i < length held → slice_get types (1 + i) ≡ slice_get (held_types held) i = λ i lt. ap (slice_get types) (let z : 1 + i ≡ suc i = omega arith in z) in
      graph_fine p (release_plain plan n held) (name_is n)
      (and_both (is_kind (counted p).structs (type.Ptr (root_of plan n))) (are_kinds (counted p).structs (held_types held)) owner (ap (are_kinds (counted p).structs) (sym (none_more held)) ∙ kinds_inside held [] inside refl))
      refl (simp (owner) refl) refl
      (one_block p (release_plain plan n held) (plain_body plan held)
      (gets_good p ok leads types refl 1 held (freed plan held) have right (more p ok leads types (op.Free 0) (drops plan 1 held []) refl (drops_good p ok leads types refl 1 held have right))) refl)

  -- ---- with items

  module _ (n m : ℕ) (held : List Held) (right : AllRight p held) (root : IsRoot (counts_of plan) m) (items : items_of (slice_get (counted p).structs n) ≡ Some (type.Ptr m))
      (number : field_of (slice_get (counted p).structs n) (field_number plan n 0) ≡ Some type.Signed) where
    abbrev k : ℕ
    k = length held

    abbrev types : List LlType
    types = type.Ptr (root_of plan n) ∷ (held_types held ++ loop_types m)

    abbrev places : Loop
    places = loop_behind k

    abbrev g : LlGraph
    g = release_items plan n m held

    there : all_there types ≡ true
    there = held_there held (loop_types m) refl

    long : length types ≡ k + 5
    long = long_behind m held (type.Ptr (root_of plan n))

    length_is : slice_get types (k + 1) ≡ Some type.Signed
    length_is = behind_held m held (type.Ptr (root_of plan n)) 0

    at_is : slice_get types (k + 2) ≡ Some type.Signed
    at_is = behind_held m held (type.Ptr (root_of plan n)) 1

    test_is : slice_get types (k + 3) ≡ Some type.Bool
    test_is = behind_held m held (type.Ptr (root_of plan n)) 2

    item_is : slice_get types (k + 4) ≡ Some (type.Ptr m)
    item_is = behind_held m held (type.Ptr (root_of plan n)) 3

    have : (i : ℕ) → i < length held → slice_get types (1 + i) ≡ slice_get (held_types held) i
    have i lt = ap (slice_get types) (let z : 1 + i ≡ suc i = omega arith in z) ∙ get_left (held_types held) (loop_types m) i (omega (arith, lt, length_mapped (λ h. type.Ptr h.to) held))

    -- the first variables and one operand more are taken by the block of the loop
    on : (x : COperand) → takes (counted p) types type.Signed x ≡ true → all_given (counted p) types types (first_variables (places.at + 1)) (first_operands places.at ++ x ∷ []) ≡ true
    on x h =
        ap (λ j. all_given (counted p) types types (numbers_from 0 j) (first_operands (k + 2) ++ x ∷ [])) (let z : k + 2 + 1 ≡ suc (k + 2) = omega arith in z)
        ∙ pass_more (counted p) types there 0 (k + 2) x (omega (arith, long))
        (ap (λ j. given_takes (counted p) types (slice_get types j) x) (let z : 0 + (k + 2) ≡ k + 2 = omega arith in z) ∙ ap (λ o. given_takes (counted p) types o x) at_is ∙ h)

    at_signed : takes (counted p) types type.Signed (Var (k + 2)) ≡ true
    at_signed = ap (has_type type.Signed) at_is

    start_good : block_ok (counted p) g (release_start plan n held places) ≡ true
    start_good =
        and_both _ (exit_ok (counted p) g (release_start plan n held places).exit)
        (gets_good p ok leads types refl 1 held (op.GetField places.length n 0 (field_number plan n 0) ∷ []) have right
        (more p ok leads types (op.GetField places.length n 0 (field_number plan n 0)) [] (ap (has_given types (k + 1)) number ∙ ap (has_type type.Signed) length_is) refl))
        (on (word 0) refl)

    test_good : block_ok (counted p) g (release_test places) ≡ true
    test_good =
        and_both (operations_ok (counted p) types (op.Binary places.test Lt (Var places.at) (Var places.length) ∷ [])) _
        (more p ok leads types (op.Binary places.test Lt (Var places.at) (Var places.length)) []
        (and_both (has_type type.Bool (slice_get types (k + 3))) _ (ap (has_type type.Bool) test_is) (and_both (takes (counted p) types type.Signed (Var (k + 2))) _ at_signed (ap (has_type type.Signed) length_is))) refl)
        (and_both (has_type type.Bool (slice_get types (k + 3)) && all_given (counted p) types types (first_variables (places.at + 1)) (first_operands places.at ++ Var places.at ∷ [])) _
        (and_both (has_type type.Bool (slice_get types (k + 3))) _ (ap (has_type type.Bool) test_is) (on (Var (k + 2)) at_signed)) (all_pass (counted p) types there 0 (k + 1) (omega (arith, long))))

    one_good : block_ok (counted p) g (release_one plan n m places) ≡ true
    one_good =
        let get : LlOp = op.GetItem places.item n 0 (Var places.at) in
        let down : LlOp = call (counts_at plan m).down (Var places.item ∷ []) in
        let add : LlOp = op.Binary places.at Add (Var places.at) (word 1) in
        and_both (operations_ok (counted p) types (get ∷ down ∷ add ∷ [])) _
        (more p ok leads types get (down ∷ add ∷ [])
        (and_both (takes (counted p) types type.Signed (Var (k + 2))) _ at_signed (ap (has_given types (k + 4)) items ∙ ap (has_type (type.Ptr m)) item_is ∙ self m))
        (more p ok leads types down (add ∷ []) (down_call p ok leads types m (Var (k + 4)) root (ap (has_type (type.Ptr m)) item_is ∙ self m))
        (more p ok leads types add [] (and_both (has_type type.Signed (slice_get types (k + 2))) _ (ap (has_type type.Signed) at_is) (and_both (takes (counted p) types type.Signed (Var (k + 2))) true at_signed refl)) refl)))
        (on (Var (k + 2)) at_signed)

    end_good : block_ok (counted p) g (release_end plan held places) ≡ true
    end_good = and_both (operations_ok (counted p) types (freed plan held)) true (more p ok leads types (op.Free 0) (drops plan 1 held []) refl (drops_good p ok leads types refl 1 held have right)) refl

    pub items_good : AllInside held → Inside (counted p) (root_of plan n) → Inside (counted p) m → graph_ok (counted p) (release_items plan n m held) ≡ true
    items_good inside owner to =
        graph_fine p g (name_is n)
        (and_both (is_kind (counted p).structs (type.Ptr (root_of plan n))) (are_kinds (counted p).structs (held_types held ++ loop_types m)) owner (kinds_inside held (loop_types m) inside (simp (to) refl)))
        refl (simp (owner) refl) refl
        (and_both (block_ok (counted p) g (release_start plan n held places)) _ start_good
        (and_both (block_ok (counted p) g (release_test places)) _ test_good (and_both (block_ok (counted p) g (release_one plan n m places)) _ one_good (and_both (block_ok (counted p) g (release_end plan held places)) true end_good refl))))
