-- Structs of which blocks are made or written are counted, and their roots begin with the count and the graph that releases.
use Rattle.std.proofs.Common.{◌≡◌, ◌<◌, ◌≤◌, ℕ, zero, suc, ◌+◌, true, List, [], ◌∷◌, length, Option, Some, None, refl, sym, ap, ◌∙◌, arith}
use Rattle.std.specs.Prelude.{slice_get, option_map, is_none, nat_lt}
use Rattle.ll_code.specs.declared.program.LlType.TheVariants as type
use Rattle.ll_code.specs.declared.program.LlStruct.{LlStruct}
use Rattle.ll_code.specs.declared.program.LlGraph.{LlGraph}
use Rattle.ll_code.specs.declared.program.LlProgram.{LlProgram}
use Rattle.ll_code.specs.Typed.{base_of, field_of, own_field}
use Rattle.ll_laws.proofs.Values.{is_same}
use Rattle.refcount_transform.specs.Plan.{Plan, plan_of, base_in, above, root_within, root, graphs_make, is_made, counted_from, is_marked, is_counted, root_of, base_at, has_count}
use Rattle.refcount_transform.specs.Counted.{struct_by, struct_at, counted}
use Rattle.refcount_laws.proofs.Numbers.{Based, root_low, is_own_root}
use Rattle.refcount_laws.proofs.Standing.{StructAt, marked_there}
use Rattle.refcount_typed.proofs.Tests.{and_both, is_below}
use Rattle.refcount_typed.proofs.Structs.{get_struct}

pub inside : {A : Type 0} (l : List A) (n : ℕ) (x : A) → slice_get l n ≡ Some x → n < length l
inside [] n x e = absurd (cc)
inside (y ∷ l) zero x e = omega arith
inside (y ∷ l) (suc n) x e = omega (arith, inside l n x e)

there : {A : Type 0} (l : List A) (n : ℕ) → n < length l → (x : A) × (slice_get l n ≡ Some x)
there [] n h = absurd (omega (arith, h))
there (x ∷ l) zero h = (x, refl)
there (x ∷ l) (suc n) h = there l n (omega (arith, h))

marked_is : (structs : List LlStruct) (graphs : List LlGraph) (k : ℕ) (ss : List LlStruct) (j : ℕ) → j < length ss → is_marked (counted_from structs graphs k ss) j ≡ is_made structs graphs (root structs (k + j))
marked_is structs graphs k [] j h = absurd (omega (arith, h))
marked_is structs graphs k (t ∷ ss) zero h = let z : k ≡ k + 0 = omega arith in ap (λ n. is_made structs graphs (root structs n)) z
marked_is structs graphs k (t ∷ ss) (suc j) h = let z : suc k + j ≡ k + suc j = omega arith in marked_is structs graphs (suc k) ss j (omega (arith, h)) ∙ ap (λ n. is_made structs graphs (root structs n)) z

module _ (structs : List LlStruct) (based : Based structs) where
  before : (n m : ℕ) (o : Option LlStruct) → slice_get structs n ≡ o → base_of o ≡ Some m → m < n
  before n m None e b = absurd (cc)
  before n m (Some s) e b = based.before n m s e b

  -- the root has no base
  root_ends : (times : List LlStruct) (n : ℕ) → n < length times → base_in structs (root_within structs times n) ≡ None
  root_ends [] n h = absurd (omega (arith, h))
  root_ends (t ∷ times) n h = by (λ m lt. root_ends times m lt) (base_in structs n) refl
    where
      by : ((m : ℕ) → m < length times → base_in structs (root_within structs times m) ≡ None) → (o : Option ℕ) → base_in structs n ≡ o → base_in structs (above (root_within structs times) n o) ≡ None
      by go None e = e
      by go (Some m) e = let lt : m < n = before n m (slice_get structs n) refl e in go m (omega (arith, lt, h))

  root_there : (n : ℕ) → n < length structs → root structs n < length structs
  root_there n h = let low : root structs n ≤ n = root_low structs based structs n in omega (arith, low, h)

  root_of_root : (n : ℕ) → n < length structs → root structs (root structs n) ≡ root structs n
  root_of_root n h =
      let w : (s : LlStruct) × (slice_get structs (root structs n) ≡ Some s) = there structs (root structs n) (root_there n h) in
      is_same (root structs (root structs n)) (root structs n) (is_own_root structs based (root structs n) w.0 w.1 ∙ ap (λ o. is_none (base_of o)) (sym w.1) ∙ ap is_none (root_ends structs n h))

module _ (p : LlProgram) (based : Based p.structs) where
  abbrev plan : Plan
  plan = plan_of p

  counted_is : (n : ℕ) → n < length p.structs → is_counted plan n ≡ is_made p.structs p.graphs (root p.structs n)
  counted_is n h = marked_is p.structs p.graphs 0 p.structs n h ∙ (let z : 0 + n ≡ n = omega arith in ap (λ n. is_made p.structs p.graphs (root p.structs n)) z)

  -- a struct of which blocks are made or written is counted
  pub made_counted : (n : ℕ) → n < length p.structs → graphs_make p.structs (root p.structs n) p.graphs ≡ true → is_counted plan n ≡ true
  made_counted n h made = counted_is n h ∙ and_both (nat_lt (root p.structs n) (length p.structs)) (graphs_make p.structs (root p.structs n) p.graphs) (is_below (root p.structs n) (length p.structs) (root_there p.structs based n h)) made

  counted_there : (n : ℕ) → is_counted plan n ≡ true → StructAt p.structs n
  counted_there n c = marked_there p.structs p.graphs 0 p.structs n c

  pub counted_inside : (n : ℕ) → is_counted plan n ≡ true → n < length p.structs
  counted_inside n c = let w : StructAt p.structs n = counted_there n c in inside p.structs n w.s w.is

  -- and so is its root
  pub root_counted : (n : ℕ) → is_counted plan n ≡ true → is_counted plan (root_of plan n) ≡ true
  root_counted n c =
      let h : n < length p.structs = counted_inside n c in
      counted_is (root_of plan n) (root_there p.structs based n h) ∙ ap (is_made p.structs p.graphs) (root_of_root p.structs based n h) ∙ sym (counted_is n h) ∙ c

  pub root_is_root : (n : ℕ) → is_counted plan n ≡ true → root_of plan (root_of plan n) ≡ root_of plan n
  root_is_root n c = root_of_root p.structs based n (counted_inside n c)

  root_begins : (n : ℕ) → is_counted plan n ≡ true → has_count plan (root_of plan n) ≡ true
  root_begins n c = and_both (is_counted plan (root_of plan n)) (is_none (base_at plan (root_of plan n))) (root_counted n c) (ap is_none (root_ends p.structs based p.structs n (counted_inside n c)))

  root_field : (n k : ℕ) (c : is_counted plan n ≡ true) → field_of (slice_get (counted p).structs (root_of plan n)) k ≡ slice_get (struct_by true (counted_there (root_of plan n) (root_counted n c)).s).fields k
  root_field n k c =
      let w : StructAt p.structs (root_of plan n) = counted_there (root_of plan n) (root_counted n c) in
      let none : w.s.base ≡ None = ap base_of (sym w.is) ∙ root_ends p.structs based p.structs n (counted_inside n c) in
      ap (λ o. field_of o k) (get_struct plan (root_of plan n)) ∙ ap (λ o. field_of (option_map (struct_at plan (root_of plan n)) o) k) w.is ∙ ap (λ b. field_of (Some (struct_by b w.s)) k) (root_begins n c)
      ∙ ap (λ o. own_field (struct_by true w.s) o k) none

  pub count_field : (n : ℕ) → is_counted plan n ≡ true → field_of (slice_get (counted p).structs (root_of plan n)) 0 ≡ Some type.Signed
  count_field n c = root_field n 0 c

  pub release_field : (n : ℕ) → is_counted plan n ≡ true → field_of (slice_get (counted p).structs (root_of plan n)) 1 ≡ Some type.Fn
  release_field n c = root_field n 1 c
