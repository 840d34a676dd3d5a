-- The graphs that set an item and clear items, and the one that empties the exception slots, stand at their numbers.
use Rattle.std.proofs.Common.{◌≡◌, ◌<◌, ℕ, suc, ◌+◌, Bool, true, ◌==◌, List, [], ◌∷◌, ◌++◌, length, map, Option, Some, None, refl, ap, ◌∙◌, arith}
use Rattle.std.specs.Prelude.{slice_get}
use Rattle.ll_code.specs.declared.program.LlType.{LlType}
use Rattle.ll_code.specs.declared.program.LlStruct.{LlStruct}
use Rattle.ll_code.specs.declared.program.LlGraph.{LlGraph}
use Rattle.ll_code.specs.declared.program.LlProgram.{LlProgram}
use Rattle.refcount_transform.specs.Plan.{Plan, plan_of, counted_structs, slots_of, or_slots, set_by_blocks, own_some, reference_to, one_if, references_in, fields_given, fields_of, field_number, held_if, held_from, own_held, items_referred, is_counted, counts_at, root_of}
use Rattle.refcount_transform.specs.Made.{put_graph, put_item_graph, clear_graph, slots_graph, slots_made, items_made, references_made, made_from, all_made}
use Rattle.refcount_transform.specs.Blocks.{graph_of}
use Rattle.refcount_transform.specs.Counted.{counted}
use Rattle.refcount_laws.proofs.Numbers.{length_two, length_mapped, get_left, get_right, Based}
use Rattle.refcount_laws.proofs.Standing.{at_struct, place, first_number, made_there}

held_long : (plan : Plan) (n place : ℕ) (ts : List LlType) → length (held_from plan n place ts) ≡ references_in plan.counted ts
held_long plan n place [] = refl
held_long plan n place (t ∷ ts) = by (reference_to plan.counted t) (held_long plan n (suc place) ts)
  where
    by : (o : Option ℕ) → length (held_from plan n (suc place) ts) ≡ references_in plan.counted ts → length (held_if n (field_number plan n place) o (held_from plan n (suc place) ts)) ≡ one_if o + references_in plan.counted ts
    by None e = omega (arith, e)
    by (Some m) e = omega (arith, e)

module _ (p : LlProgram) (based : Based p.structs) where
  abbrev plan : Plan
  plan = plan_of p

  module _ (n m : ℕ) (is_one : is_counted plan n ≡ true) (has : items_referred plan n ≡ Some m) where
    abbrev puts : List LlGraph
    puts = map (put_graph plan) (own_held plan n)

    abbrev items : List LlGraph
    items = items_made plan n (items_referred plan n)

    abbrev refs : List LlGraph
    refs = references_made n (root_of plan n == n)

    abbrev s : LlStruct
    s = (at_struct p based n is_one).s

    puts_long : length puts ≡ references_in plan.counted s.fields
    puts_long = length_mapped (put_graph plan) (own_held plan n) ∙ held_long plan n 0 (fields_of plan n) ∙ ap (λ o. references_in plan.counted (fields_given o)) (at_struct p based n is_one).is

    items_are : items ≡ put_item_graph plan n m ∷ clear_graph plan n ∷ []
    items_are = ap (items_made plan n) has

    two_long : length items ≡ 2
    two_long = ap length items_are

    item_there : (j : ℕ) → j < 2 → slice_get (counted p).graphs ((counts_at plan n).items + j) ≡ slice_get items j
    item_there j lt =
        ap (λ c. slice_get (counted p).graphs (c.items + j)) (place p based n is_one).is
        ∙ ap (slice_get (counted p).graphs) (let z : first_number p based n is_one + 1 + references_in plan.counted s.fields + j ≡ first_number p based n is_one + suc (length puts + j) = omega (arith, puts_long) in z)
        ∙ made_there p based n is_one (suc (length puts + j)) (omega (arith, lt, two_long, length_two (puts ++ items) refs, length_two puts items))
        ∙ get_left (puts ++ items) refs (length puts + j) (omega (arith, lt, two_long, length_two puts items)) ∙ get_right puts items j

    pub put_item_there : slice_get (counted p).graphs (counts_at plan n).items ≡ Some (put_item_graph plan n m)
    put_item_there = ap (slice_get (counted p).graphs) (let z : (counts_at plan n).items ≡ (counts_at plan n).items + 0 = omega arith in z) ∙ item_there 0 (omega arith) ∙ ap (λ l. slice_get l 0) items_are

    pub clear_there : slice_get (counted p).graphs ((counts_at plan n).items + 1) ≡ Some (clear_graph plan n)
    clear_there = item_there 1 (omega arith) ∙ ap (λ l. slice_get l 1) items_are

slots_at : (counted : List Bool) (graphs : List LlGraph) (n : ℕ) → (slots_of counted graphs n).clear ≡ n
slots_at counted [] n = refl
slots_at counted (graph ∷ graphs) n = by (set_by_blocks graph.blocks) (slots_at counted graphs n)
  where
    by : (o : Option (ℕ × ℕ)) → (slots_of counted graphs n).clear ≡ n → (or_slots counted graph.types n o (slots_of counted graphs n)).clear ≡ n
    by None e = e
    by (Some x) e = refl

pub slots_there : (p : LlProgram) → own_some (plan_of p).slots ≡ true → slice_get (counted p).graphs (plan_of p).slots.clear ≡ Some (slots_graph (plan_of p))
slots_there p own =
    let plan : Plan = plan_of p in
    ap (slice_get (counted p).graphs) (let z : plan.slots.clear ≡ length (map (graph_of plan) p.graphs) + 0 = omega (arith, slots_at (counted_structs p.structs p.graphs) p.graphs (length p.graphs), length_mapped (graph_of plan) p.graphs) in z)
    ∙ get_right (map (graph_of plan) p.graphs) (all_made plan) 0 ∙ ap (λ b. slice_get (slots_made plan b ++ made_from plan 0 plan.structs) 0) own
