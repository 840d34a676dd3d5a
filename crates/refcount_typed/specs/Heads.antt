-- What a caller sees of a graph: its name, its parameters, and what it gives.
use Rattle.std.specs.Prelude.{ℕ, suc, ◌==◌, Bool, true, false, List, [], ◌∷◌, ◌++◌, map, Option, Some, None, codes}
use Rattle.std.specs.Fmt.{decimal}
use Rattle.ll_code.specs.declared.program.LlType.{LlType}
use Rattle.ll_code.specs.declared.program.LlType.TheVariants as type
use Rattle.ll_code.specs.declared.program.LlStruct.{LlStruct}
use Rattle.ll_code.specs.declared.program.LlGraph.{LlGraph}
use Rattle.refcount_transform.specs.declared.plan.Held.{Held}
use Rattle.refcount_transform.specs.Plan.{Plan, root_of, own_held, items_referred, is_counted, own_some}
use Rattle.refcount_transform.specs.Made.{first_variables}

abbrev pub Head : Type 0
Head = List ℕ × List ℕ × LlType

abbrev pub head_of : LlGraph → Head
head_of graph = (graph.name, graph.params, graph.result)

-- ---- the graphs that are made: a word and the number of the struct, so many parameters, and no result

abbrev pub head : List ℕ → ℕ → Head
head name params = (name, first_variables params, type.Void)

abbrev pub put_head : Held → Head
put_head h = head (codes "put_s" ++ decimal h.owner ++ codes "_" ++ decimal h.number) 2

abbrev pub item_heads : ℕ → Option ℕ → List Head
item_heads n None = []
item_heads n (Some m) = head (codes "put_item_s" ++ decimal n) 3 ∷ head (codes "clear_s" ++ decimal n) 2 ∷ []

abbrev pub reference_heads : ℕ → Bool → List Head
reference_heads n true = head (codes "count_s" ++ decimal n) 1 ∷ head (codes "drop_s" ++ decimal n) 1 ∷ []
reference_heads n false = []

abbrev pub heads_for : Plan → ℕ → List Head
heads_for plan n = head (codes "release_s" ++ decimal n) 1 ∷ map put_head (own_held plan n) ++ item_heads n (items_referred plan n) ++ reference_heads n (root_of plan n == n)

abbrev pub heads_if : Plan → ℕ → Bool → List Head
heads_if plan n true = heads_for plan n
heads_if plan n false = []

abbrev pub heads_from : Plan → ℕ → List LlStruct → List Head
heads_from plan n [] = []
heads_from plan n (s ∷ ss) = heads_if plan n (is_counted plan n) ++ heads_from plan (suc n) ss

abbrev pub slots_heads : Bool → List Head
slots_heads true = head (codes "clear_exception") 0 ∷ []
slots_heads false = []

abbrev pub made_heads : Plan → List Head
made_heads plan = slots_heads (own_some plan.slots) ++ heads_from plan 0 plan.structs
