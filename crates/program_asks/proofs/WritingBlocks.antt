-- The graphs of functions only ask for more.
use Rattle.std.proofs.Common.{ℕ, ◌+◌, List, [], ◌∷◌, length, map, Option, None, refl}
use Rattle.ll_code.specs.declared.program.LlBlock.{LlBlock}
use Rattle.ll_code.specs.declared.program.LlExit.{LlExit}
use Rattle.ll_code.specs.declared.program.LlLink.{LlLink}
use Rattle.flow_graph.specs.declared.graph.Block.{Block}
use Rattle.flow_graph.specs.declared.graph.Exit.{Exit}
use Rattle.flow_graph.specs.declared.graph.Exit.TheVariants as exit
use Rattle.flow_graph.specs.declared.graph.Graph.{Graph}
use Rattle.flow_graph.specs.declared.graph.Link.{Link}
use Rattle.flow_graph.specs.declared.graph.Op.{Op}
use Rattle.rpy_meaning.specs.declared.row.Covers.{Covers}
use Rattle.rpy_meaning.specs.declared.row.RowOp.{RowOp}
use Rattle.rtyper_data.specs.declared.body.Body.{Body}
use Rattle.rtyper_data.specs.declared.found.Found.{Found}
use Rattle.rtyper_data.specs.declared.small.Small.{Small}
use Rattle.rtyper_data.specs.declared.small.Small.TheVariants as small
use Rattle.rtyper_data.specs.Finding.{nothing}
use Rattle.rtyper_data.specs.Seen.{Operand, Place, Writing, fresh, writing}
use Rattle.rtyper_layout.specs.Types.{root_of}
use Rattle.rtyper_class.specs.Seen.{World, laid}
use Rattle.rtyper_program.specs.declared.extra.Extra.{Extra}
use Rattle.rtyper_program.specs.Blocks.{block_of, exit_of, lowered, op_of, ops_from, ops_of, with_covered}
use Rattle.rtyper_program.specs.Cuts.{any_raises, caught_in, on_raise, raised_before}
use Rattle.rtyper_program.specs.Graphs.{block_at, blocks_from, blocks_of, graph_of, lowered_graph, nothing_behind, paid, variables, with_block}
use Rattle.rtyper_program.specs.Handlers.{Work, work}
use Rattle.rtyper_program.specs.Links.{link_of}
use Rattle.rtyper_program.specs.Program.{small_of}
use Rattle.rtyper_program.specs.Raises.{catches}
use Rattle.rtyper_program.specs.Seen.{Known, Lowered, is_block_reached, operand_of, place_of}
use Rattle.growth_laws.specs.Growing.{Grows}
use Rattle.growth_laws.proofs.ClassGraphs.{class_graph_grows}
use Rattle.growth_laws.proofs.Classes.{lower_class_op_grows}
use Rattle.growth_laws.proofs.Data.{then_grows}
use Rattle.growth_laws.proofs.DictGraphs.{dict_graph_grows}
use Rattle.growth_laws.proofs.Dicts.{lower_dict_op_grows}
use Rattle.growth_laws.proofs.Fronts.{itself}
use Rattle.growth_laws.proofs.Growing.{same_found}
use Rattle.growth_laws.proofs.Prebuilding.{prebuilt_grows}
use Rattle.program_asks.specs.Standing.{OnlyAsks}
use Rattle.program_asks.proofs.WritingLinks.{branch_grows, either, give_back_grows, link_grows, taken_grows}

-- ---- exits

module _ (l : Lowered) where
  raised_grows : (v : ℕ) (hands : List (ℕ × Link)) (by : Option Link) (least : ℕ) (e : Extra) (last : LlLink × Writing) → Grows last.1.found (raised_before l v hands by least e last).1.writing.found
  raised_grows v hands by least e last =
      let made : ℕ × Body = fresh (root_of (laid l.world 0)) last.1.body in taken_grows l (caught_in l v hands by made) hands by (work (writing last.1.found made.1) e)

  on_raise_grows : (v : ℕ) (hands : List (ℕ × Link)) (by : Option Link) (without : Link) (least : ℕ) (w : Work) → Grows w.writing.found (on_raise l v hands by without least w).1.writing.found
  unfolding on_raise
  on_raise_grows v hands by without least w =
      either w.writing.found (λ (made : LlExit × Work). made.1.writing.found) (any_raises w.writing.found least w.writing.body.ops) _ _
      (then_grows (link_grows l None without w.writing) (raised_grows v hands by least w.extra (link_of l None without w.writing))) (link_grows l None without w.writing)

  exit_grows : (e : Exit) (least : ℕ) (w : Work) → Grows w.writing.found (exit_of l e least w).1.writing.found
  unfolding exit_of
  exit_grows (exit.Goto link) least w = link_grows l None link w.writing
  exit_grows (exit.If v there elsewhere) least w = branch_grows l v there elsewhere w.writing
  exit_grows (exit.OnRaise v hands by without) least w =
      either w.writing.found (λ (made : LlExit × Work). made.1.writing.found) (catches l.graph hands by) _ _ (on_raise_grows v hands by without least w) (link_grows l None without w.writing)
  exit_grows (exit.Return v) least w = give_back_grows l v w.writing
  exit_grows (exit.Raise v) least w = same_found w.writing.found

-- ---- operations and blocks

covered_grows : (c : Covers) (w : Writing) → Grows w.found (with_covered c w).found
covered_grows c w = record { needs = itself w.found.needs; caught = itself w.found.caught; together = refl; statics = itself w.found.statics; smalls = itself w.found.smalls; sites = itself w.found.prebuilt; first = refl }

lowered_grows : (world : World) (o : RowOp) (place : Place) (args : List Operand) (w : Writing) → Grows w.found (lowered world o place args w).found
lowered_grows world o place args w = either w.found (λ (made : Writing). made.found) _ _ _ (lower_dict_op_grows world.around o place args w) (lower_class_op_grows world o place args w)

module _ (l : Lowered) where
  pub op_grows : (o : Op) (w : Writing) → Grows w.found (op_of l o w).found
  unfolding op_of
  op_grows o w =
      then_grows (covered_grows o.covered w) (then_grows (lowered_grows l.world o.op (place_of l o.result) (map (operand_of l) o.args) (with_covered o.covered w))
      (covered_grows nothing (lowered l.world o.op (place_of l o.result) (map (operand_of l) o.args) (with_covered o.covered w))))

  pub ops_grow : (ops : List Op) (made : ℕ × Writing) → Grows made.1.found (ops_from l ops made).1.found
  ops_grow [] made = same_found made.1.found
  ops_grow (o ∷ ops) made = then_grows (op_grows o made.1) (ops_grow ops (length made.1.body.ops, op_of l o made.1))

  pub block_grows : (block : Block) (w : Work) → Grows w.writing.found (block_of l block w).1.writing.found
  unfolding block_of
  block_grows block w =
      let ops : ℕ × Writing = ops_of l block.ops w.writing in
      then_grows (ops_grow block.ops (length w.writing.body.ops, w.writing)) (exit_grows l block.exit ops.0 (work ops.1 w.extra))

  pub block_at_grows : (n : ℕ) (block : Block) (w : Work) → Grows w.writing.found (block_at l n block w).1.writing.found
  block_at_grows n block w =
      either w.writing.found (λ (made : LlBlock × Work). made.1.writing.found) (is_block_reached l.known.annotation l.number n) _ _ (block_grows block (paid n w)) (same_found w.writing.found)

  pub blocks_grow : (n : ℕ) (blocks : List Block) (made : List LlBlock × Work) → Grows made.1.writing.found (blocks_from l n blocks made).1.writing.found
  blocks_grow n [] made = same_found made.1.writing.found
  blocks_grow n (block ∷ blocks) made = then_grows (block_at_grows n block made.1) (blocks_grow (n + 1) blocks (with_block made.0 (block_at l n block made.1)))

-- ---- graphs

pub graph_grows : (known : Known) (world : World) (n : ℕ) (graph : Graph) (found : Found) → Grows found (graph_of known world n graph found).1
unfolding graph_of blocks_of
graph_grows known world n graph found =
    blocks_grow (lowered_graph known world n graph) 0 graph.blocks ([], work (writing found (record { types = variables known world n; ops = [] })) (nothing_behind graph.blocks))

pub small_of_grows : (world : World) (s : Small) (found : Found) → Grows found (small_of world s found).1
small_of_grows world (small.Keyed keyed) found = dict_graph_grows world.around.layout keyed found
small_of_grows world other found = class_graph_grows world other found

-- ---- programs

pub programs_only_ask : (known : Known) (world : World) → OnlyAsks known world
programs_only_ask known world = record {
  constants = prebuilt_grows world.around known.program.sites known.annotation.same;
  functions = graph_grows known world;
  smalls = small_of_grows world;
}
