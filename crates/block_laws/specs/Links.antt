-- Links, and how what they pass on is converted.
use Rattle.std.specs.Prelude.{◌≡◌, ◌≢◌, ◌<◌, ◌≤◌, ℕ, ◌+◌, true, false, List, [], ◌∷◌, ◌++◌, length, slice_get, Option, Some, None, unwrap_or, false}
use Rattle.ann_element.specs.declared.element.Element.{Element}
use Rattle.csub_tree.specs.declared.tree.COperand.{COperand}
use Rattle.csub_tree.specs.declared.tree.COperand.TheVariants.{Var}
use Rattle.csub_tree.specs.State.{Core}
use Rattle.ll_code.specs.declared.program.LlType.{LlType}
use Rattle.ll_code.specs.declared.program.LlType.TheVariants as type
use Rattle.ll_code.specs.declared.program.LlOp.{LlOp}
use Rattle.ll_code.specs.declared.program.LlExit.{LlExit}
use Rattle.ll_code.specs.declared.program.LlBlock.{LlBlock}
use Rattle.ll_code.specs.declared.program.LlGraph.{LlGraph}
use Rattle.ll_code.specs.declared.program.LlProgram.{LlProgram}
use Rattle.ll_build.specs.declared.needs.Numbers.{Numbers}
use Rattle.ll_live.specs.Live.{among}
use Rattle.rpy_tree.specs.Value.{Heap}
use Rattle.flow_graph.specs.declared.graph.Block.{Block}
use Rattle.flow_graph.specs.declared.graph.Exit.{Exit}
use Rattle.flow_graph.specs.declared.graph.Exit.TheVariants as exit
use Rattle.flow_graph.specs.declared.graph.Graphs.{Graphs}
use Rattle.flow_graph.specs.declared.graph.Link.{Link}
use Rattle.rtyper_layout.specs.Layout.{is_tuple}
use Rattle.rtyper_layout.specs.Types.{type_seen}
use Rattle.rtyper_data.specs.declared.found.Found.{Found}
use Rattle.rtyper_data.specs.Seen.{Writing}
use Rattle.rtyper_program.specs.Links.{goto, link_of, typed, with_argument}
use Rattle.rtyper_program.specs.Seen.{Lowered, element_at, is_block_reached, type_at}
use Rattle.lower_laws.specs.Asked.{Ask}
use Rattle.object_laws.specs.Done.{AllAsked, HasLayout}
use Rattle.object_laws.specs.Ghost.{Ghost}
use Rattle.object_laws.specs.Known.{Known}
use Rattle.object_laws.specs.Represents.{Represents}
use Rattle.conversion_laws.specs.Asked.{Has, asks_for}
use Rattle.conversion_laws.specs.Going.{Goes}
use Rattle.conversion_laws.specs.Converted.{IsConverted}
use Rattle.run_laws.specs.Points.{Setting, is_conflict, BlockAt}
use Rattle.run_laws.specs.Does.{Does}
use Rattle.block_laws.specs.Operations.{HasTypes}

-- ---- the program around a graph

abbrev pub types_in : Option LlGraph → List LlType
types_in None = []
types_in (Some graph) = graph.types

abbrev pub graph_in : LlProgram → Option ℕ → Option LlGraph
graph_in p None = None
graph_in p (Some number) = slice_get p.graphs number

-- in which graphs are lowered, with what is known of objects, the flow graphs, the low-level program and its arguments
abbrev pub setting : Lowered → Known → Graphs → LlProgram → List (List ℕ) → Setting
setting l known graphs p arguments = record {
  graphs = graphs;
  low = p;
  arguments = arguments;
  around = l.world.around;
  known = known;
  element = element_at l.known.annotation;
  reached = is_block_reached l.known.annotation;
  size = λ f. length (types_in (graph_in p (known.graph f)));
  made = λ c. unwrap_or (slice_get l.world.made c) false;
}

-- ---- blocks

-- no variable stands there twice
abbrev pub AreDistinct : List ℕ → Type 0
AreDistinct [] = Unit {0}
AreDistinct (v ∷ vs) = (among v vs ≡ false) × AreDistinct vs

abbrev pub AllAmong : List ℕ → List ℕ → Type 0
AllAmong [] names = Unit {0}
AllAmong (v ∷ vs) names = (among v names ≡ true) × AllAmong vs names

abbrev pub AllUnder : ℕ → List ℕ → Type 0
AllUnder n [] = Unit {0}
AllUnder n (v ∷ vs) = (v < n) × AllUnder n vs

-- a block of a flow graph has its block in the low-level graph, which takes those inputs that have a type
pub record HasBlock (s : Setting) (l : Lowered) (n : ℕ) (b : Block) : Type 0 where
  pub low : LlBlock
  pub at : BlockAt s l.number n b low
  pub inputs : low.inputs ≡ typed l b.inputs

-- each block that is reached, behind the first one
abbrev pub HasBlocks : Setting → Lowered → Type 0
HasBlocks s l = (n : ℕ) (b : Block) → slice_get l.graph.blocks n ≡ Some b → s.reached l.number n ≡ true → n ≢ 0 → HasBlock s l n b

-- ---- conversions

module _ (s : Setting) (numbers : Numbers) where
  -- it is asked for and stands, over all memory that represents a heap, with as many steps left
  abbrev pub Stood : List Ask → Found → Type 0
  Stood asks found = (core : Core) (g : Ghost) (heap : Heap) (left : ℕ) → Represents s.around.layout s.known g heap left core.blocks core.statics → left ≡ core.steps → AllAsked (Has s.low s.around.layout numbers s.known.exception core) asks found

  -- a value of which the one is known is converted to one of which the other is known
  pub record Converts (from to : Option Element) (x : COperand) (w : Writing) : Type 0 where
    pub asks : List Ask
    pub is : IsConverted (λ p. Has p s.around.layout) s.known s.around.layout from to asks x w
    pub stood : Stood asks w.found

  module _ (l : Lowered) where
    abbrev pub OneConverts : Option ℕ → ℕ → Writing → Type 0
    OneConverts None v w = Unit {0}
    OneConverts (Some a) v w = is_conflict (s.element l.number v) ≡ false → (is_conflict (s.element l.number a) ≡ false) × (type_at l v ≡ type.Void → type_at l a ≡ type.Void) × (type_at l v ≢ type.Void → Converts (s.element l.number a) (s.element l.number v) (Var a) w)

    -- What stands at the places of a link, from the n-th on, for the inputs; what goes to one without a type has none. What goes to one in conflict may be
    -- anything.
    abbrev pub AllConvert : List ℕ → ℕ → List ℕ → List COperand × Writing → Type 0
    AllConvert args n [] written = Unit {0}
    AllConvert args n (v ∷ inputs) written = OneConverts (slice_get args n) v written.1 × AllConvert args (n + 1) inputs (with_argument l None (slice_get args n) (type_at l v) written)

    -- A link to a block that is reached, behind the first one: it passes on variables that have been set, the inputs are apart, and what it passes
    -- on is converted to what is known of them.
    pub record IsLink (names : List ℕ) (link : Link) (w : Writing) : Type 0 where
      pub reached : s.reached l.number link.to ≡ true
      pub later : link.to ≢ 0
      pub block : Block
      pub is : slice_get l.graph.blocks link.to ≡ Some block
      pub apart : AreDistinct block.inputs
      pub own : AllAmong link.args names
      pub inside : AllUnder (length w.body.types) link.args
      pub converts : AllConvert link.args 0 block.inputs ([], w)

-- What is written for an exit behind what was there does what the exit does, with the low-level exit, and sets none of the variables before.
pub record Ends (s : Setting) (l : Lowered) (names : List ℕ) (e : Exit) (w : Writing) (made : LlExit × Writing) : Type 0 where
  pub ops : List LlOp
  pub new : List LlType
  pub written : made.1.body.ops ≡ w.body.ops ++ ops
  pub types : made.1.body.types ≡ w.body.types ++ new
  pub does : length w.body.types + length new ≤ s.size l.number → Does s l.number names [] e ops made.0

-- what is written for a link
abbrev pub LinksArePassed : Type 0
LinksArePassed = (l : Lowered) (known : Known) (graphs : Graphs) (p : LlProgram) (arguments : List (List ℕ)) (numbers : Numbers) (below : ℕ) (names : List ℕ) (link : Link) (w : Writing)
    → HasLayout p l.world.around.layout → HasTypes (setting l known graphs p arguments) l.number below → below ≤ length w.body.types → slice_get graphs.graphs l.number ≡ Some l.graph → HasBlocks (setting l known graphs p arguments) l
    → IsLink (setting l known graphs p arguments) numbers l names link w → Ends (setting l known graphs p arguments) l names (exit.Goto link) w (goto (link_of l None link w))

-- what goes from the one element to the other is converted, where what that asks for stands
abbrev pub ElementsAreConverted : Type 0
ElementsAreConverted = (s : Setting) (numbers : Numbers) (from to : Option Element) (x : COperand) (w : Writing) → is_tuple s.around.layout 0 ≡ false → Goes s.around.layout s.known from to
    → Stood s numbers (asks_for s.around.layout (type_seen s.around.layout from) (type_seen s.around.layout to)) w.found → Converts s numbers from to x w
