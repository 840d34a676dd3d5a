-- The last pass of joining is the one that leaves out variables.
use Rattle.std.proofs.Common.{◌≡◌, ℕ, ◌+◌, List, [], ◌∷◌, length, map, Some, None, refl, sym, ap, ◌∙◌}
use Rattle.ll_code.specs.declared.program.LlExit.{LlExit}
use Rattle.ll_code.specs.declared.program.LlExit.TheVariants as exit
use Rattle.ll_code.specs.declared.program.LlBlock.{LlBlock}
use Rattle.ll_code.specs.declared.program.LlGraph.{LlGraph}
use Rattle.ll_code.specs.declared.program.LlProgram.{LlProgram}
use Rattle.ll_joined.specs.declared.marks.Marks.{Marks}
use Rattle.ll_joined.specs.Named.{Naming, ByPlaces, exit_by}
use Rattle.ll_joined.specs.Counted.{counts_of}
use Rattle.ll_joined.specs.Marked.{in_exit, in_block, in_blocks, ask_all, no_marks, marks_of}
use Rattle.ll_joined.specs.Joined.{block_by, numbered, numbers_in, plain_ways, ways_of, joined_graph, joined}
use Rattle.joined_laws.specs.Fewer.{counts_in, fewer_graph, fewer}
use Rattle.joined_laws.specs.Straight.{exit_at, block_at, straight_graph, straight}

-- the numbers of blocks name no variable
exit_same : (numbers : List ℕ) (e : LlExit) (m : Marks) → in_exit (exit_at numbers e) m ≡ in_exit e m
exit_same numbers (exit.Goto link) m = refl
exit_same numbers (exit.If a there elsewhere) m = refl
exit_same numbers (exit.OnRaise a None without) m = refl
exit_same numbers (exit.OnRaise a (Some by) without) m = refl
exit_same numbers (exit.Return x) m = refl
exit_same numbers (exit.Raise a) m = refl
exit_same numbers (exit.Fail n) m = refl
exit_same numbers (exit.Raised a) m = refl

blocks_same : (numbers : List ℕ) (i : ℕ) (blocks : List LlBlock) (m : Marks) → in_blocks i (map (block_at numbers) blocks) m ≡ in_blocks i blocks m
blocks_same numbers i [] m = refl
blocks_same numbers i (block ∷ blocks) m =
    blocks_same numbers (i + 1) blocks (in_block i (block_at numbers block) m) ∙ ap (in_blocks (i + 1) blocks) (exit_same numbers block.exit _)

-- names and numbers at once, or one after the other
exit_then : (names : Naming) (numbers : List ℕ) (e : LlExit) → exit_by names [] (exit_at numbers e) ≡ exit_by names numbers e
exit_then names numbers (exit.Goto link) = refl
exit_then names numbers (exit.If a there elsewhere) = refl
exit_then names numbers (exit.OnRaise a None without) = refl
exit_then names numbers (exit.OnRaise a (Some by) without) = refl
exit_then names numbers (exit.Return x) = refl
exit_then names numbers (exit.Raise a) = refl
exit_then names numbers (exit.Fail n) = refl
exit_then names numbers (exit.Raised a) = refl

blocks_then : (names : Naming) (numbers : List ℕ) (blocks : List LlBlock) → map (block_by names []) (map (block_at numbers) blocks) ≡ map (block_by names numbers) blocks
blocks_then names numbers [] = refl
blocks_then names numbers (block ∷ blocks) =
    ap (λ e. record (block_by names numbers block) { exit = e } ∷ map (block_by names []) (map (block_at numbers) blocks)) (exit_then names numbers block.exit)
    ∙ ap (λ l. block_by names numbers block ∷ l) (blocks_then names numbers blocks)

module _ (graph : LlGraph) where
  abbrev numbers : List ℕ
  numbers = numbers_in graph.blocks (counts_of (length graph.types) graph.blocks)

  abbrev plain : List LlBlock
  plain = plain_ways graph.params graph.types (ways_of graph)

  abbrev named_times : List ℕ
  named_times = (marks_of (length graph.types) graph.params plain).named

  counts_same : counts_in (straight_graph graph) ≡ named_times
  counts_same = ap (λ m. m.named) (blocks_same numbers 0 plain (ask_all graph.params (no_marks (length graph.types))))

  graph_same : joined_graph graph ≡ fewer_graph (straight_graph graph)
  unfolding joined_graph
  graph_same =
      sym (ap (λ bs. record (numbered graph named_times numbers plain) { blocks = bs }) (blocks_then (ByPlaces _) numbers plain))
      ∙ sym (ap (λ c. numbered graph c [] (map (block_at numbers) plain)) counts_same)

graphs_same : (graphs : List LlGraph) → map joined_graph graphs ≡ map fewer_graph (map straight_graph graphs)
graphs_same [] = refl
graphs_same (g ∷ graphs) = ap (λ h. h ∷ map joined_graph graphs) (graph_same g) ∙ ap (λ l. fewer_graph (straight_graph g) ∷ l) (graphs_same graphs)

pub joined_same : (p : LlProgram) → joined p ≡ fewer (straight p)
joined_same p = ap (λ gs. record p { graphs = gs }) (graphs_same p.graphs)
