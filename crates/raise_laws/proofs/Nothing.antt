-- Where nothing is covered, a graph that raises is the graph itself.
use Rattle.std.proofs.Common.{◌≡◌, ℕ, ◌==◌, Bool, true, false, List, [], ◌∷◌, Option, None, refl, ap, ◌∙◌}
use Rattle.std.specs.Prelude.{if◌then◌else◌}
use Rattle.ll_code.specs.declared.program.LlExit.{LlExit}
use Rattle.ll_code.specs.declared.program.LlExit.TheVariants as exit
use Rattle.ll_code.specs.declared.program.LlBlock.{LlBlock}
use Rattle.ll_code.specs.declared.program.LlGraph.{LlGraph}
use Rattle.rtyper_data.specs.Finding.{nothing}
use Rattle.rtyper_data.specs.declared.found.Found.{Found}
use Rattle.rtyper_raising.specs.Raising.{class_of, failing_with, raising_block, raising_blocks, raising_graph, with_block}

none_or : (b : Bool) (o : Option ℕ) → o ≡ None → (if b then None else o) ≡ None
none_or true o h = refl
none_or false o h = h

no_class : (n : ℕ) → class_of n nothing ≡ None
no_class n = none_or (n == 1) _ (none_or (n == 2) _ (none_or (n == 3) _ (none_or (n == 4) None refl)))

pub fails_plainly : (e : LlExit) → failing_with e nothing ≡ None
fails_plainly (exit.Fail n) = no_class n
fails_plainly _ = refl

pub blocks_plain : (blocks : List LlBlock) (found : Found) → raising_blocks nothing blocks found ≡ (blocks, found)
blocks_plain [] found = refl
blocks_plain (block ∷ blocks) found =
    ap (λ o. with_block (raising_block block o found) (λ next. raising_blocks nothing blocks next)) (fails_plainly block.exit)
    ∙ ap (λ (r : List LlBlock × Found). (block ∷ r.0, r.1)) (blocks_plain blocks found)

pub graph_plain : (graph : LlGraph) (found : Found) → raising_graph nothing graph found ≡ graph
graph_plain graph found = ap (λ (r : List LlBlock × Found). record graph { blocks = r.0 }) (blocks_plain graph.blocks found)
