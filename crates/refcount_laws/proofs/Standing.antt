-- A counted program has the graphs that count references.
use Rattle.std.proofs.Common.{◌≡◌, ◌<◌, ℕ, zero, suc, ◌+◌, Bool, true, false, List, [], ◌∷◌, ◌++◌, length, map, Option, Some, None, refl, sym, ap, ◌∙◌, arith}
use Rattle.std.specs.Prelude.{slice_get, ◌==◌, is_some, cond}
use Rattle.std.proofs.lemmas.Bool.Decides.{nat_tests}
use Rattle.csub_tree.specs.declared.tree.CBinary.TheVariants.{Add, Lt}
use Rattle.csub_tree.specs.declared.tree.COperand.{COperand}
use Rattle.csub_tree.specs.declared.tree.COperand.TheVariants.{Var}
use Rattle.ll_code.specs.declared.program.LlType.TheVariants as type
use Rattle.ll_code.specs.declared.program.LlStruct.{LlStruct}
use Rattle.ll_code.specs.declared.program.LlOp.{LlOp}
use Rattle.ll_code.specs.declared.program.LlOp.TheVariants as op
use Rattle.ll_code.specs.declared.program.LlExit.TheVariants as exit
use Rattle.ll_code.specs.declared.program.LlBlock.{LlBlock}
use Rattle.ll_code.specs.declared.program.LlGraph.{LlGraph}
use Rattle.ll_code.specs.declared.program.LlProgram.{LlProgram}
use Rattle.refcount_transform.specs.declared.plan.Held.{Held}
use Rattle.refcount_transform.specs.declared.made.Loop.{Loop}
use Rattle.refcount_transform.specs.Plan.{Plan, plan_of, counted_from, counted_structs, is_marked, slots_of, or_slots, set_by_blocks, own_some, behind, reference_given, references_in, two_if, is_counted, counts_at, root_of, items_referred, field_number, held_of}
use Rattle.refcount_transform.specs.Made as made
use Rattle.refcount_transform.specs.Made.{numbers_from, loop_behind, up_graph, down_graph, release_graph, release_by, slots_made, references_made, made_for, made_from, all_made}
use Rattle.refcount_transform.specs.Blocks.{graph_of}
use Rattle.refcount_transform.specs.Counted.{counted}
use Rattle.refcount_laws.specs.Graphs as own
use Rattle.refcount_laws.specs.Graphs.{Stands, link, word, variables, given}
use Rattle.refcount_laws.specs.Made.{reference_of, counts_of}
use Rattle.refcount_laws.proofs.Cells.{none_behind}
use Rattle.refcount_laws.proofs.Numbers.{length_mapped, get_right, Based, is_own_root, Found, all_found, made_long, ups_there}

-- ---- numbers

pub slots_clear : (counted : List Bool) (graphs : List LlGraph) (n : ℕ) → (slots_of counted graphs n).clear ≡ n
slots_clear counted [] n = refl
slots_clear counted (graph ∷ graphs) n = by (set_by_blocks graph.blocks) (slots_clear counted graphs n)
  where
    by : (o : Option (ℕ × ℕ)) → (slots_of counted graphs n).clear ≡ n → (or_slots counted graph.types n o (slots_of counted graphs n)).clear ≡ n
    by None e = e
    by (Some x) e = refl

-- a struct that is counted is there
pub record StructAt (structs : List LlStruct) (n : ℕ) : Type 0 where
  pub s : LlStruct
  pub is : slice_get structs n ≡ Some s

pub marked_there : (structs : List LlStruct) (graphs : List LlGraph) (k : ℕ) (ss : List LlStruct) (n : ℕ) → is_marked (counted_from structs graphs k ss) n ≡ true → StructAt ss n
marked_there structs graphs k [] n e = absurd (cc)
marked_there structs graphs k (s ∷ ss) zero e = record { s = s; is = refl }
marked_there structs graphs k (s ∷ ss) (suc n) e = let w : StructAt ss n = marked_there structs graphs (suc k) ss n e in record { s = w.s; is = w.is }

module _ (p : LlProgram) (based : Based p.structs) where
  abbrev plan : Plan
  plan = plan_of p

  next_is : behind plan.slots ≡ length p.graphs + length (slots_made plan (own_some plan.slots))
  next_is = by (own_some plan.slots) (slots_clear (counted_structs p.structs p.graphs) p.graphs (length p.graphs))
    where
      by : (b : Bool) → plan.slots.clear ≡ length p.graphs → cond b (plan.slots.clear + 1) plan.slots.clear ≡ length p.graphs + length (slots_made plan b)
      by true e = omega (arith, e)
      by false e = omega (arith, e)

  behind_all : (i : ℕ) → slice_get (counted p).graphs (behind plan.slots + i) ≡ slice_get (made_from plan 0 plan.structs) i
  behind_all i =
      ap (slice_get (counted p).graphs) (let e : behind plan.slots + i ≡ length (map (graph_of plan) p.graphs) + (length (slots_made plan (own_some plan.slots)) + i) = omega (arith, next_is, length_mapped (graph_of plan) p.graphs) in e)
      ∙ get_right (map (graph_of plan) p.graphs) (all_made plan) (length (slots_made plan (own_some plan.slots)) + i) ∙ get_right (slots_made plan (own_some plan.slots)) (made_from plan 0 plan.structs) i

  module _ (n : ℕ) (is_one : is_counted plan n ≡ true) where
    pub at_struct : StructAt p.structs n
    at_struct = marked_there p.structs p.graphs 0 p.structs n is_one

    abbrev s : LlStruct
    s = at_struct.s

    pub place : Found plan (behind plan.slots) (counts_at plan n) (made_from plan 0 plan.structs) (made_for plan n) s
    place = all_found plan based (behind plan.slots) n s at_struct.is is_one

    abbrev pub first_number : ℕ
    first_number = behind plan.slots + place.behind

    pub made_there : (i : ℕ) → i < length (made_for plan n) → slice_get (counted p).graphs (first_number + i) ≡ slice_get (made_for plan n) i
    made_there i lt = ap (slice_get (counted p).graphs) (let e : first_number + i ≡ behind plan.slots + (place.behind + i) = omega arith in e) ∙ behind_all (place.behind + i) ∙ place.at i lt

    pub release_there : slice_get (counted p).graphs (counts_at plan n).release ≡ Some (release_graph plan n)
    release_there = ap (λ c. slice_get (counted p).graphs c.release) place.is ∙ ap (slice_get (counted p).graphs) (let e : first_number ≡ first_number + 0 = omega arith in e) ∙ made_there 0 (omega arith)

    module _ (root : root_of plan n ≡ n) where
      same_root : (root_of plan n == n) ≡ true
      same_root = grind (arith, nat_tests, root)

      refs_are : references_made n (root_of plan n == n) ≡ up_graph n ∷ down_graph n ∷ []
      refs_are = ap (references_made n) same_root

      abbrev before : ℕ
      before = 1 + references_in plan.counted s.fields + two_if (is_some (reference_given plan.counted s.items))

      long : length (made_for plan n) ≡ before + 2
      long = made_long plan n s at_struct.is (is_own_root p.structs based n s at_struct.is) ∙ ap (λ b. before + two_if b) (sym (is_own_root p.structs based n s at_struct.is) ∙ same_root)

      up_there : slice_get (counted p).graphs (counts_at plan n).up ≡ Some (up_graph n)
      up_there =
          ap (λ c. slice_get (counted p).graphs c.up) place.is
          ∙ ap (slice_get (counted p).graphs) (let e : first_number + 1 + references_in plan.counted s.fields + two_if (is_some (reference_given plan.counted s.items)) ≡ first_number + (before + 0) = omega arith in e)
          ∙ made_there (before + 0) (omega (arith, long)) ∙ ups_there plan n s at_struct.is (is_own_root p.structs based n s at_struct.is) 0 ∙ ap (λ l. slice_get l 0) refs_are

      down_there : slice_get (counted p).graphs (counts_at plan n).down ≡ Some (down_graph n)
      down_there =
          ap (λ c. slice_get (counted p).graphs c.down) place.is
          ∙ ap (slice_get (counted p).graphs) (let e : first_number + 1 + references_in plan.counted s.fields + two_if (is_some (reference_given plan.counted s.items)) + 1 ≡ first_number + (before + 1) = omega arith in e)
          ∙ made_there (before + 1) (omega (arith, long)) ∙ ups_there plan n s at_struct.is (is_own_root p.structs based n s at_struct.is) 1 ∙ ap (λ l. slice_get l 1) refs_are

      pub up_stands : Stands (counted p) ((counts_of plan).up n) (own.up_types n) (own.up_blocks n)
      up_stands = record { graph = up_graph n; there = up_there; params = refl; result = refl; typed = refl; laid = refl }

      pub down_stands : Stands (counted p) ((counts_of plan).down n) (own.down_types n) (own.down_blocks n)
      down_stands = record { graph = down_graph n; there = down_there; params = refl; result = refl; typed = refl; laid = refl }

    -- ---- the graph that releases

    gets_same : (held : List Held) (v : ℕ) (rest : List LlOp) → made.gets v held rest ≡ own.gets (map (reference_of plan) held) v ++ rest
    gets_same [] v rest = refl
    gets_same (h ∷ held) v rest = ap (λ l. op.GetField v h.owner 0 h.number ∷ l) (gets_same held (suc v) rest)

    drops_same : (held : List Held) (v : ℕ) → made.drops plan v held [] ≡ own.drops (counts_of plan) (map (reference_of plan) held) v
    drops_same [] v = refl
    drops_same (h ∷ held) v = ap (λ l. op.Call None (counts_at plan h.to).down (Var v ∷ []) ∷ l) (drops_same held (suc v))

    types_same : (held : List Held) → made.held_types held ≡ own.held_types (map (reference_of plan) held)
    types_same [] = refl
    types_same (h ∷ held) = ap (λ l. type.Ptr h.to ∷ l) (types_same held)

    numbers_same : (v k : ℕ) → numbers_from v k ≡ variables v k
    numbers_same v zero = refl
    numbers_same v (suc k) = ap (λ l. v ∷ l) (numbers_same (suc v) k)

    operands_same : (k : ℕ) → map Var (numbers_from 0 k) ≡ given 0 k
    operands_same k = ap (map Var) (numbers_same 0 k)

    -- the blocks of a release with items, by what stands in them
    abbrev shape : ℕ → ℕ → ℕ → ℕ → List LlOp → List COperand → List ℕ → List COperand → List ℕ → List LlOp → ℕ → List LlBlock
    shape len at test item start args inputs others firsts drops m =
        record { inputs = 0 ∷ []; ops = start; exit = exit.Goto (link 1 (args ++ word 0 ∷ [])) }
        ∷ record { inputs = inputs; ops = op.Binary test Lt (Var at) (Var len) ∷ []; exit = exit.If test (link 2 (args ++ Var at ∷ [])) (link 3 others) }
        ∷ record {
          inputs = inputs;
          ops = op.GetItem item n 0 (Var at) ∷ op.Call None (counts_at plan m).down (Var item ∷ []) ∷ op.Binary at Add (Var at) (word 1) ∷ [];
          exit = exit.Goto (link 1 (args ++ Var at ∷ []));
        }
        ∷ record { inputs = firsts; ops = op.Free 0 ∷ drops; exit = exit.Return None }
        ∷ []

    abbrev held : List Held
    held = held_of plan n

    abbrev refs : List own.Reference
    refs = map (reference_of plan) held

    shape_theirs : (k m : ℕ) → k ≡ length held → made.release_blocks plan n m held (loop_behind (length held))
        ≡ shape (suc k) (suc (suc k)) (suc (suc (suc k))) (suc (suc (suc (suc k)))) (own.gets refs 1 ++ op.GetField (suc k) n 0 (field_number plan n 0) ∷ []) (given 0 (suc (suc k))) (variables 0 (suc (suc (suc k)))) (given 0 (suc k)) (variables 0 (suc k))
        (own.drops (counts_of plan) refs 1) m
    shape_theirs k m e =
        let places : Loop = record { length = suc k; at = suc (suc k); test = suc (suc (suc k)); item = suc (suc (suc (suc k))) } in
        let l1 : length held + 1 ≡ suc k = omega (arith, e) in
        let l2 : length held + 2 ≡ suc (suc k) = omega (arith, e) in
        let l3 : length held + 3 ≡ suc (suc (suc k)) = omega (arith, e) in
        let l4 : length held + 4 ≡ suc (suc (suc (suc k))) = omega (arith, e) in
        let here : loop_behind (length held) ≡ places =
        ap (λ x. record { length = x; at = length held + 2; test = length held + 3; item = length held + 4 }) l1 ∙ ap (λ x. record { length = suc k; at = x; test = length held + 3; item = length held + 4 }) l2
        ∙ ap (λ x. record { length = suc k; at = suc (suc k); test = x; item = length held + 4 }) l3 ∙ ap (λ x. record { length = suc k; at = suc (suc k); test = suc (suc (suc k)); item = x }) l4 in
        let more : suc (suc k) + 1 ≡ suc (suc (suc k)) = omega arith in
        let with1 : List LlOp → List COperand → List ℕ → List COperand → List ℕ → List LlOp → List LlBlock = λ start args inputs others firsts drops. shape (suc k) (suc (suc k)) (suc (suc (suc k))) (suc (suc (suc (suc k)))) start args inputs others firsts drops m in
        let start1 : List LlOp = made.gets 1 held (op.GetField (suc k) n 0 (field_number plan n 0) ∷ []) in
        let start2 : List LlOp = own.gets refs 1 ++ op.GetField (suc k) n 0 (field_number plan n 0) ∷ [] in
        ap (made.release_blocks plan n m held) here
        ∙ ap (λ l. with1 l (map Var (numbers_from 0 (suc (suc k)))) (numbers_from 0 (suc (suc k) + 1)) (map Var (numbers_from 0 (suc k))) (numbers_from 0 (suc k)) (made.drops plan 1 held [])) (gets_same held 1 (op.GetField (suc k) n 0 (field_number plan n 0) ∷ []))
        ∙ ap (λ l. with1 start2 l (numbers_from 0 (suc (suc k) + 1)) (map Var (numbers_from 0 (suc k))) (numbers_from 0 (suc k)) (made.drops plan 1 held [])) (operands_same (suc (suc k)))
        ∙ ap (λ l. with1 start2 (given 0 (suc (suc k))) l (map Var (numbers_from 0 (suc k))) (numbers_from 0 (suc k)) (made.drops plan 1 held [])) (ap (numbers_from 0) more ∙ numbers_same 0 (suc (suc (suc k))))
        ∙ ap (λ l. with1 start2 (given 0 (suc (suc k))) (variables 0 (suc (suc (suc k)))) l (numbers_from 0 (suc k)) (made.drops plan 1 held [])) (operands_same (suc k))
        ∙ ap (λ l. with1 start2 (given 0 (suc (suc k))) (variables 0 (suc (suc (suc k)))) (given 0 (suc k)) l (made.drops plan 1 held [])) (numbers_same 0 (suc k))
        ∙ ap (λ l. with1 start2 (given 0 (suc (suc k))) (variables 0 (suc (suc (suc k)))) (given 0 (suc k)) (variables 0 (suc k)) l) (drops_same held 1)

    blocks_are : (o : Option ℕ) → (release_by plan n held o).blocks ≡ own.blocks_for (counts_of plan) n o
    blocks_are None =
        ap (λ l. record { inputs = 0 ∷ []; ops = l; exit = exit.Return None } ∷ []) (gets_same held 1 (op.Free 0 ∷ made.drops plan 1 held []) ∙ ap (λ l. own.gets refs 1 ++ op.Free 0 ∷ l) (drops_same held 1))
    blocks_are (Some m) = shape_theirs (length refs) m (length_mapped (reference_of plan) held)

    types_are : (o : Option ℕ) → (release_by plan n held o).types ≡ type.Ptr (root_of plan n) ∷ (own.held_types refs ++ own.types_for o)
    types_are None = ap (λ l. type.Ptr (root_of plan n) ∷ l) (types_same held ∙ sym (none_behind (own.held_types refs)))
    types_are (Some m) = ap (λ l. type.Ptr (root_of plan n) ∷ (l ++ own.loop_types m)) (types_same held)

    params_are : (o : Option ℕ) → (release_by plan n held o).params ≡ 0 ∷ []
    params_are None = refl
    params_are (Some m) = refl

    result_is : (o : Option ℕ) → (release_by plan n held o).result ≡ type.Void
    result_is None = refl
    result_is (Some m) = refl

    pub release_stands : Stands (counted p) ((counts_of plan).release n) (own.release_types (counts_of plan) n) (own.release_blocks (counts_of plan) n)
    release_stands = record {
      graph = release_graph plan n;
      there = release_there;
      params = params_are (items_referred plan n);
      result = result_is (items_referred plan n);
      typed = types_are (items_referred plan n);
      laid = blocks_are (items_referred plan n);
    }
