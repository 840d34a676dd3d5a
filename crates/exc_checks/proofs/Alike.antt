-- The test of this crate is that of exc_ready.
use Rattle.std.proofs.Common.{◌≡◌, ◌&&◌, not, Bool, List, [], ◌∷◌, refl, ap, ◌∙◌}
use Rattle.std.specs.Prelude.{slice_get}
use Rattle.ll_code.specs.declared.program.LlType.{LlType}
use Rattle.ll_code.specs.declared.program.LlBlock.{LlBlock}
use Rattle.ll_code.specs.declared.program.LlGraph.{LlGraph}
use Rattle.ll_code.specs.declared.program.LlProgram.{LlProgram}
use Rattle.exc_transform.specs.Explicit.{is_marked}
use Rattle.exc_laws.specs.Ready.{marks_of, any_of}
use Rattle.exc_ready.specs.Raisable as spec
use Rattle.exc_ready.specs.Raisable.{root_of}
use Rattle.exc_checks.specs.Tests as tests

blocks_same : (p : LlProgram) (types : List LlType) (blocks : List LlBlock) → tests.blocks_raisable (marks_of p) (any_of p) (root_of p) types blocks ≡ spec.blocks_raisable p types blocks
blocks_same p types [] = refl
blocks_same p types (block ∷ blocks) = ap (λ rest. spec.block_raisable p types block && rest) (blocks_same p types blocks)

pub graphs_same : (p : LlProgram) (graphs : List LlGraph) → tests.graphs_raisable (marks_of p) (any_of p) (root_of p) graphs ≡ spec.graphs_raisable p graphs
graphs_same p [] = refl
graphs_same p (graph ∷ graphs) =
    ap (λ blocks. (spec.takes_params graph.params (slice_get graph.blocks 0) && blocks) && tests.graphs_raisable (marks_of p) (any_of p) (root_of p) graphs) (blocks_same p graph.types graph.blocks)
    ∙ ap (λ rest. spec.graph_raisable p graph && rest) (graphs_same p graphs)

-- the whole test
abbrev pub tested : LlProgram → Bool
tested p = tests.graphs_raisable (marks_of p) (any_of p) (root_of p) p.graphs && not (is_marked (marks_of p) p.entry)

pub tested_same : (p : LlProgram) → tested p ≡ spec.is_raisable p
tested_same p = ap (λ graphs. graphs && not (is_marked (marks_of p) p.entry)) (graphs_same p p.graphs)
