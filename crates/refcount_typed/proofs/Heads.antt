-- Graphs keep their heads, and those that are made stand behind.
use Rattle.std.proofs.Common.{◌≡◌, ℕ, suc, Bool, true, false, ◌==◌, List, [], ◌∷◌, ◌++◌, map, Option, Some, None, refl, ap, ◌∙◌}
use Rattle.ll_code.specs.declared.program.LlStruct.{LlStruct}
use Rattle.ll_code.specs.declared.program.LlGraph.{LlGraph}
use Rattle.ll_code.specs.declared.program.LlProgram.{LlProgram}
use Rattle.refcount_transform.specs.declared.plan.Held.{Held}
use Rattle.refcount_transform.specs.Plan.{Plan, plan_of, root_of, own_held, held_of, items_referred, is_counted, own_some}
use Rattle.refcount_transform.specs.Made.{put_graph, release_by, slots_made, items_made, references_made, made_for, made_if, made_from, all_made}
use Rattle.refcount_transform.specs.Blocks.{graph_of}
use Rattle.refcount_transform.specs.Counted.{counted}
use Rattle.refcount_typed.specs.Heads.{Head, head_of, put_head, item_heads, reference_heads, heads_for, heads_if, heads_from, slots_heads, made_heads}

map_both : {A B : Type 0} (f : A → B) (xs ys : List A) → map f (xs ++ ys) ≡ map f xs ++ map f ys
map_both f [] ys = refl
map_both f (x ∷ xs) ys = ap (λ l. f x ∷ l) (map_both f xs ys)

module _ (plan : Plan) where
  own_same : (graphs : List LlGraph) → map head_of (map (graph_of plan) graphs) ≡ map head_of graphs
  own_same [] = refl
  own_same (g ∷ graphs) = ap (λ l. head_of g ∷ l) (own_same graphs)

  puts_same : (held : List Held) → map head_of (map (put_graph plan) held) ≡ map put_head held
  puts_same [] = refl
  puts_same (h ∷ held) = ap (λ l. put_head h ∷ l) (puts_same held)

  items_same : (n : ℕ) (o : Option ℕ) → map head_of (items_made plan n o) ≡ item_heads n o
  items_same n None = refl
  items_same n (Some m) = refl

  references_same : (n : ℕ) (b : Bool) → map head_of (references_made n b) ≡ reference_heads n b
  references_same n true = refl
  references_same n false = refl

  release_same : (n : ℕ) (o : Option ℕ) (rest : List Head) → head_of (release_by plan n (held_of plan n) o) ∷ rest ≡ head_of (release_by plan n (held_of plan n) None) ∷ rest
  release_same n None rest = refl
  release_same n (Some m) rest = refl

  for_same : (n : ℕ) → map head_of (made_for plan n) ≡ heads_for plan n
  for_same n =
      release_same n (items_referred plan n) (map head_of ((map (put_graph plan) (own_held plan n) ++ items_made plan n (items_referred plan n)) ++ references_made n (root_of plan n == n)))
      ∙ ap (λ l. head_of (release_by plan n (held_of plan n) None) ∷ l)
      (map_both head_of (map (put_graph plan) (own_held plan n) ++ items_made plan n (items_referred plan n)) (references_made n (root_of plan n == n))
      ∙ ap (λ l. l ++ map head_of (references_made n (root_of plan n == n))) (map_both head_of (map (put_graph plan) (own_held plan n)) (items_made plan n (items_referred plan n)))
      ∙ ap (λ l. (l ++ map head_of (items_made plan n (items_referred plan n))) ++ map head_of (references_made n (root_of plan n == n))) (puts_same (own_held plan n))
      ∙ ap (λ l. (map put_head (own_held plan n) ++ l) ++ map head_of (references_made n (root_of plan n == n))) (items_same n (items_referred plan n))
      ∙ ap (λ l. (map put_head (own_held plan n) ++ item_heads n (items_referred plan n)) ++ l) (references_same n (root_of plan n == n)))

  if_same : (n : ℕ) (b : Bool) → map head_of (made_if plan n b) ≡ heads_if plan n b
  if_same n true = for_same n
  if_same n false = refl

  from_same : (n : ℕ) (ss : List LlStruct) → map head_of (made_from plan n ss) ≡ heads_from plan n ss
  from_same n [] = refl
  from_same n (s ∷ ss) =
      map_both head_of (made_if plan n (is_counted plan n)) (made_from plan (suc n) ss) ∙ ap (λ l. l ++ map head_of (made_from plan (suc n) ss)) (if_same n (is_counted plan n))
      ∙ ap (λ l. heads_if plan n (is_counted plan n) ++ l) (from_same (suc n) ss)

  slots_same : (b : Bool) → map head_of (slots_made plan b) ≡ slots_heads b
  slots_same true = refl
  slots_same false = refl

  made_same : map head_of (all_made plan) ≡ made_heads plan
  made_same =
      map_both head_of (slots_made plan (own_some plan.slots)) (made_from plan 0 plan.structs) ∙ ap (λ l. l ++ map head_of (made_from plan 0 plan.structs)) (slots_same (own_some plan.slots))
      ∙ ap (λ l. slots_heads (own_some plan.slots) ++ l) (from_same 0 plan.structs)

pub heads_kept : (p : LlProgram) → map head_of (counted p).graphs ≡ map head_of p.graphs ++ made_heads (plan_of p)
heads_kept p =
    map_both head_of (map (graph_of (plan_of p)) p.graphs) (all_made (plan_of p)) ∙ ap (λ l. l ++ map head_of (all_made (plan_of p))) (own_same (plan_of p) p.graphs)
    ∙ ap (λ l. map head_of p.graphs ++ l) (made_same (plan_of p))
