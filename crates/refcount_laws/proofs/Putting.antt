-- A counted program has the graphs that write references.
use Rattle.std.proofs.Common.{◌≡◌, ◌<◌, ℕ, zero, suc, ◌+◌, true, List, [], ◌∷◌, ◌++◌, length, map, Option, Some, None, refl, ap, ◌∙◌, arith}
use Rattle.std.specs.Prelude.{slice_get, ◌==◌}
use Rattle.std.proofs.lemmas.Option.{slice_get_within}
use Rattle.ll_code.specs.declared.program.LlType.{LlType}
use Rattle.ll_code.specs.declared.program.LlGraph.{LlGraph}
use Rattle.ll_code.specs.declared.program.LlProgram.{LlProgram}
use Rattle.ll_code.specs.Typed.{IsWellTyped}
use Rattle.ll_laws.proofs.Values.{and_left}
use Rattle.refcount_transform.specs.declared.plan.Held.{Held}
use Rattle.refcount_transform.specs.Plan.{Plan, plan_of, references_in, one_if, references_before, reference_to, is_counted, counts_at, root_of, referred, fields_of, field_number, held_if, held_from, own_held, items_referred}
use Rattle.refcount_laws.proofs.Clearing.{clear_types, clear_blocks}
use Rattle.refcount_transform.specs.Made.{put_graph, put_item_graph, clear_graph, items_made, references_made}
use Rattle.refcount_transform.specs.Counted.{counted}
use Rattle.refcount_laws.specs.Graphs.{StandsWith, put_types, put_block, put_item_types, put_item_block}
use Rattle.refcount_laws.specs.Made.{reference_of, counts_of}
use Rattle.refcount_laws.proofs.Numbers.{length_two, length_mapped, get_left, get_right, Based, all_based, is_own_root, puts_count}
use Rattle.refcount_laws.proofs.Standing.{at_struct, place, first_number, made_there}

mapped_at : {A B : Type 0} (f : A → B) (xs : List A) (k : ℕ) (x : A) → slice_get xs k ≡ Some x → slice_get (map f xs) k ≡ Some (f x)
mapped_at f [] k x e = absurd (cc)
mapped_at f (y ∷ xs) zero x e = let g : y ≡ x = cc in ap (λ y. Some (f y)) g
mapped_at f (y ∷ xs) (suc k) x e = mapped_at f xs k x e

-- the fields before one that is a reference
held_at : (plan : Plan) (n place : ℕ) (ts : List LlType) (k : ℕ) (t : LlType) (m : ℕ) → slice_get ts k ≡ Some t → reference_to plan.counted t ≡ Some m
    → slice_get (held_from plan n place ts) (references_before plan.counted k ts) ≡ Some (record { owner = n; number = field_number plan n (place + k); to = m })
held_at plan n place [] k t m e f = absurd (cc)
held_at plan n place (u ∷ ts) zero t m e f =
    let g : u ≡ t = cc in
    ap (λ o. slice_get (held_if n (field_number plan n place) o (held_from plan n (suc place) ts)) 0) (ap (reference_to plan.counted) g ∙ f)
    ∙ ap (λ k. Some (record { owner = n; number = field_number plan n k; to = m })) (let z : place ≡ place + 0 = omega arith in z)
held_at plan n place (u ∷ ts) (suc k) t m e f =
    skip (reference_to plan.counted u) (held_from plan n (suc place) ts) (references_before plan.counted k ts) ∙ held_at plan n (suc place) ts k t m e f
    ∙ ap (λ k. Some (record { owner = n; number = field_number plan n k; to = m })) (let z : suc place + k ≡ place + suc k = omega arith in z)
  where
    skip : (o : Option ℕ) (l : List Held) (j : ℕ) → slice_get (held_if n (field_number plan n place) o l) (one_if o + j) ≡ slice_get l j
    skip None l j = ap (slice_get l) (let z : 0 + j ≡ j = omega arith in z)
    skip (Some i) l j = ap (slice_get (held_if n (field_number plan n place) (Some i) l)) (let z : 1 + j ≡ suc j = omega arith in z)

module _ (p : LlProgram) (based : Based p.structs) (n : ℕ) (is_one : is_counted (plan_of p) n ≡ true) where
  abbrev plan : Plan
  plan = plan_of p

  abbrev puts : List LlGraph
  puts = map (put_graph plan) (own_held plan n)

  abbrev items : List LlGraph
  items = items_made plan n (items_referred plan n)

  abbrev refs : List LlGraph
  refs = references_made n (root_of plan n == n)

  put_there : (j : ℕ) (h : Held) → slice_get (own_held plan n) j ≡ Some h → slice_get (counted p).graphs ((counts_at plan n).puts + j) ≡ Some (put_graph plan h)
  put_there j h e =
      let lt : j < length (own_held plan n) = slice_get_within (own_held plan n) j h e in
      let l : length (map (put_graph plan) (own_held plan n)) ≡ length (own_held plan n) = length_mapped (put_graph plan) (own_held plan n) in
      ap (λ c. slice_get (counted p).graphs (c.puts + j)) (place p based n is_one).is
      ∙ ap (slice_get (counted p).graphs) (let z : first_number p based n is_one + 1 + j ≡ first_number p based n is_one + suc j = omega arith in z)
      ∙ made_there p based n is_one (suc j) (omega (arith, lt, l, length_two (puts ++ items) refs, length_two puts items)) ∙ get_left (puts ++ items) refs j (omega (arith, lt, l, length_two puts items)) ∙ get_left puts items j (omega (arith, lt, l))
      ∙ mapped_at (put_graph plan) (own_held plan n) j h e

  pub put_stands : (k : ℕ) (t : LlType) (m : ℕ) → slice_get (fields_of plan n) k ≡ Some t → referred plan t ≡ Some m
      → StandsWith (counted p) ((counts_at plan n).puts + references_before plan.counted k (fields_of plan n)) (0 ∷ 1 ∷ []) (put_types (counts_of plan) (reference_of plan (record { owner = n; number = field_number plan n k; to = m })))
      (put_block (counts_of plan) (reference_of plan (record { owner = n; number = field_number plan n k; to = m })) ∷ [])
  put_stands k t m e f =
      let h : Held = record { owner = n; number = field_number plan n k; to = m } in
      let z : 0 + k ≡ k = omega arith in
      record {
        graph = put_graph plan h;
        there = put_there (references_before plan.counted k (fields_of plan n)) h (held_at plan n 0 (fields_of plan n) k t m e f ∙ ap (λ k. Some (record { owner = n; number = field_number plan n k; to = m })) z);
        taken = refl;
        result = refl;
        typed = refl;
        laid = refl;
      }

pub counted_puts : (p : LlProgram) → IsWellTyped p → (n : ℕ) → is_counted (plan_of p) n ≡ true → (k : ℕ) (t : LlType) (m : ℕ) → slice_get (fields_of (plan_of p) n) k ≡ Some t → referred (plan_of p) t ≡ Some m
    → StandsWith (counted p) ((counts_at (plan_of p) n).puts + references_before (plan_of p).counted k (fields_of (plan_of p) n)) (0 ∷ 1 ∷ [])
    (put_types (counts_of (plan_of p)) (reference_of (plan_of p) (record { owner = n; number = field_number (plan_of p) n k; to = m })))
    (put_block (counts_of (plan_of p)) (reference_of (plan_of p) (record { owner = n; number = field_number (plan_of p) n k; to = m })) ∷ [])
counted_puts p ok n c = put_stands p (all_based p.structs (and_left _ _ (and_left _ _ (and_left _ _ ok)))) n c

module _ (p : LlProgram) (based : Based p.structs) (n : ℕ) (is_one : is_counted (plan_of p) n ≡ true) (m : ℕ) (refers : items_referred (plan_of p) n ≡ Some m) where
  abbrev plan_ : Plan
  plan_ = plan_of p

  abbrev puts_ : List LlGraph
  puts_ = map (put_graph plan_) (own_held plan_ n)

  items_are : items_made plan_ n (items_referred plan_ n) ≡ put_item_graph plan_ n m ∷ clear_graph plan_ n ∷ []
  items_are = ap (items_made plan_ n) refers

  item_there : slice_get (counted p).graphs (counts_at plan_ n).items ≡ Some (put_item_graph plan_ n m)
  item_there =
      let refs_ : List LlGraph = references_made n (root_of plan_ n == n) in
      let items_ : List LlGraph = items_made plan_ n (items_referred plan_ n) in
      let long : length items_ ≡ 2 = ap length items_are in
      let size : length puts_ ≡ references_in plan_.counted (at_struct p based n is_one).s.fields = puts_count plan_ n (at_struct p based n is_one).s (at_struct p based n is_one).is (is_own_root p.structs based n (at_struct p based n is_one).s (at_struct p based n is_one).is) in
      ap (λ c. slice_get (counted p).graphs c.items) (place p based n is_one).is
      ∙ ap (slice_get (counted p).graphs) (let z : first_number p based n is_one + 1 + references_in plan_.counted (at_struct p based n is_one).s.fields ≡ first_number p based n is_one + suc (length puts_ + 0) = omega (arith, size) in z)
      ∙ made_there p based n is_one (suc (length puts_ + 0)) (omega (arith, length_two (puts_ ++ items_) refs_, length_two puts_ items_, long)) ∙ get_left (puts_ ++ items_) refs_ (length puts_ + 0) (omega (arith, length_two puts_ items_, long))
      ∙ get_right puts_ items_ 0 ∙ ap (λ l. slice_get l 0) items_are

  pub put_item_stands : StandsWith (counted p) (counts_at plan_ n).items (0 ∷ 1 ∷ 2 ∷ []) (put_item_types (counts_of plan_) n m) (put_item_block (counts_of plan_) n m ∷ [])
  put_item_stands = record { graph = put_item_graph plan_ n m; there = item_there; taken = refl; result = refl; typed = refl; laid = refl }

  clear_there : slice_get (counted p).graphs ((counts_at plan_ n).items + 1) ≡ Some (clear_graph plan_ n)
  clear_there =
      let refs_ : List LlGraph = references_made n (root_of plan_ n == n) in
      let items_ : List LlGraph = items_made plan_ n (items_referred plan_ n) in
      let long : length items_ ≡ 2 = ap length items_are in
      let size : length puts_ ≡ references_in plan_.counted (at_struct p based n is_one).s.fields = puts_count plan_ n (at_struct p based n is_one).s (at_struct p based n is_one).is (is_own_root p.structs based n (at_struct p based n is_one).s (at_struct p based n is_one).is) in
      ap (λ c. slice_get (counted p).graphs (c.items + 1)) (place p based n is_one).is
      ∙ ap (slice_get (counted p).graphs) (let z : first_number p based n is_one + 1 + references_in plan_.counted (at_struct p based n is_one).s.fields + 1 ≡ first_number p based n is_one + suc (length puts_ + 1) = omega (arith, size) in z)
      ∙ made_there p based n is_one (suc (length puts_ + 1)) (omega (arith, length_two (puts_ ++ items_) refs_, length_two puts_ items_, long)) ∙ get_left (puts_ ++ items_) refs_ (length puts_ + 1) (omega (arith, length_two puts_ items_, long))
      ∙ get_right puts_ items_ 1 ∙ ap (λ l. slice_get l 1) items_are

  pub clear_stands : StandsWith (counted p) ((counts_at plan_ n).items + 1) (0 ∷ 1 ∷ []) (clear_types (root_of plan_ n)) (clear_blocks n)
  clear_stands = record { graph = clear_graph plan_ n; there = clear_there; taken = refl; result = refl; typed = refl; laid = refl }
