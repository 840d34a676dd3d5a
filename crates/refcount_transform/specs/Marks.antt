-- The marks of the structs of which blocks are made or written, as they are set one after the other.
use Rattle.std.specs.Prelude.{ℕ, zero, suc, Bool, true, false, List, [], ◌∷◌, map, Option, Some, None}
use Rattle.ll_code.specs.declared.program.LlStruct.{LlStruct}
use Rattle.ll_code.specs.declared.program.LlOp.{LlOp}
use Rattle.ll_code.specs.declared.program.LlBlock.{LlBlock}
use Rattle.ll_code.specs.declared.program.LlGraph.{LlGraph}
use Rattle.refcount_transform.specs.Plan.{root, made_by, is_marked}

abbrev pub mark_at : ℕ → List Bool → List Bool
mark_at r [] = []
mark_at zero (b ∷ marks) = true ∷ marks
mark_at (suc r) (b ∷ marks) = b ∷ mark_at r marks

abbrev pub mark_made : List LlStruct → Option ℕ → List Bool → List Bool
mark_made structs None marks = marks
mark_made structs (Some n) marks = mark_at (root structs n) marks

abbrev pub mark_ops : List LlStruct → List LlOp → List Bool → List Bool
mark_ops structs [] marks = marks
mark_ops structs (o ∷ ops) marks = mark_ops structs ops (mark_made structs (made_by o) marks)

abbrev pub mark_blocks : List LlStruct → List LlBlock → List Bool → List Bool
mark_blocks structs [] marks = marks
mark_blocks structs (block ∷ blocks) marks = mark_blocks structs blocks (mark_ops structs block.ops marks)

abbrev pub mark_graphs : List LlStruct → List LlGraph → List Bool → List Bool
mark_graphs structs [] marks = marks
mark_graphs structs (graph ∷ graphs) marks = mark_graphs structs graphs (mark_blocks structs graph.blocks marks)

abbrev pub none_marked : List LlStruct → List Bool
none_marked structs = map (λ s. false) structs

abbrev pub roots_made : List LlStruct → List LlGraph → List Bool
roots_made structs graphs = mark_graphs structs graphs (none_marked structs)

-- for each of these structs, of which the first has number n, the mark of its root
abbrev pub marks_from : List LlStruct → List Bool → ℕ → List LlStruct → List Bool
marks_from structs marks n [] = []
marks_from structs marks n (s ∷ ss) = is_marked marks (root structs n) ∷ marks_from structs marks (suc n) ss
