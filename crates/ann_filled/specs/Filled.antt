-- The assignment that is made of the parts of an annotation and of what stands at the blocks of the graphs.
use Rattle.std.specs.Prelude.{ℕ, suc, ◌==◌, if◌then◌else◌, Bool, false, List, [], ◌∷◌, ◌++◌, length, map, take, drop, Option, Some, None, option_map}
use Rattle.rpy_tree.specs.declared.program.Program.{Program}
use Rattle.flow_graph.specs.declared.graph.Block.{Block}
use Rattle.flow_graph.specs.declared.graph.Graph.{Graph}
use Rattle.flow_graph.specs.declared.graph.Graphs.{Graphs}
use Rattle.flow_graph.specs.Owners.{variables_of}
use Rattle.class_desc.specs.Tables.{Tables}
use Rattle.ann_lattice.specs.Shape.{Shape, Nothing}
use Rattle.ann_lattice.specs.Assign.{Assignment}
use Rattle.ann_layout.specs.Callees.{callees}
use Rattle.ann_layout.specs.Layout.{numbers, param_count, variable_count, block_count, variables_at, blocks_at, unbound_at}
use Rattle.ann_tree.specs.Annotation.{Annotation}
use Rattle.ann_lift.specs.Spots.{Spots}

-- ---- where a variable stands

-- the first place at which a number stands
abbrev pub place_of : ℕ → List ℕ → Option ℕ
place_of v [] = None
place_of v (w ∷ vs) = if w == v then Some 0 else option_map suc (place_of v vs)

-- a place in block b; where there is none, the one found later
abbrev pub here_or : ℕ → Option ℕ → Option (ℕ × ℕ) → Option (ℕ × ℕ)
here_or b None later = later
here_or b (Some j) later = Some (b, j)

-- the first of the blocks from b on that has a variable, and the variable's place there
abbrev pub owner : ℕ → ℕ → List Block → Option (ℕ × ℕ)
owner v b [] = None
owner v b (block ∷ blocks) = here_or b (place_of v (variables_of block)) (owner v (suc b) blocks)

abbrev pub element_in : Spots → Option (ℕ × ℕ) → Shape
element_in spots None = Nothing
element_in spots (Some place) = (spots place.0).element place.1

abbrev pub unbound_in : Spots → Option (ℕ × ℕ) → Bool
unbound_in spots None = false
unbound_in spots (Some place) = (spots place.0).unbound place.1

-- ---- all graphs, one after the other

-- what a function gives for each number below a count, for the graphs from f on
abbrev pub each : {A : Type 0} → (Graph → ℕ) → (ℕ → Graph → ℕ → A) → ℕ → List Graph → List A
each count value f [] = []
each count value f (graph ∷ graphs) = map (value f graph) (numbers 0 (count graph)) ++ each count value (suc f) graphs

module _ (at_blocks : ℕ → Spots) where
  abbrev pub element_of : ℕ → Graph → ℕ → Shape
  element_of f graph v = element_in (at_blocks f) (owner v 0 graph.blocks)

  abbrev pub is_unbound : ℕ → Graph → ℕ → Bool
  is_unbound f graph v = unbound_in (at_blocks f) (owner v 0 graph.blocks)

  abbrev pub is_reached : ℕ → Graph → ℕ → Bool
  is_reached f graph b = (at_blocks f b).reached

-- ---- the assignment

module _ (p : Program) (gs : Graphs) (t : Tables) where
  -- the first cell of a variable, the first mark of a block, and the first one behind those of variables
  abbrev pub first_variable : ℕ
  first_variable = variables_at (map param_count (callees p)) (map variable_count gs.graphs) (map block_count gs.graphs) (length (callees p)) (length t.classes) (length p.sites) (length p.uses) t

  abbrev pub first_block : ℕ
  first_block = blocks_at (map param_count (callees p)) (map variable_count gs.graphs) (map block_count gs.graphs) (length (callees p)) (length t.classes) (length p.sites) (length p.uses) t

  abbrev pub first_node : ℕ
  first_node = unbound_at (map param_count (callees p)) (map variable_count gs.graphs) (map block_count gs.graphs) (length (callees p)) (length t.classes) (length p.sites) (length p.uses) t

  -- parts as in the annotation; variables and blocks, graph by graph, as what stands at the blocks
  abbrev pub filled : Annotation → (ℕ → Spots) → Assignment
  filled a at_blocks = record {
    cells = take first_variable a.parts.cells ++ each variable_count (element_of at_blocks) 0 gs.graphs;
    marks = take first_block a.parts.marks
        ++ (each block_count (is_reached at_blocks) 0 gs.graphs ++ (each variable_count (is_unbound at_blocks) 0 gs.graphs ++ drop first_node a.parts.marks));
    same = a.parts.same;
  }
