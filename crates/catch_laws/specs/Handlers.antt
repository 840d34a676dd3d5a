-- Where an exception goes that is caught: the classes of the handlers are tested in turn, and what its link passes on is converted.
use Rattle.std.specs.Prelude.{◌≡◌, ◌≢◌, ◌<◌, ◌≤◌, ℕ, ◌+◌, ◌==◌, Bool, true, false, List, [], ◌∷◌, ◌++◌, length, slice_get, Option, Some, None}
use Rattle.ann_element.specs.declared.element.Element.TheVariants as element
use Rattle.csub_tree.specs.declared.tree.COperand.TheVariants.{Var}
use Rattle.csub_tree.specs.State.{Core}
use Rattle.csub_tree.specs.Statement.{read}
use Rattle.ll_code.specs.State.{Frame, State, Goes}
use Rattle.ll_code.specs.Machine.{jump}
use Rattle.ll_code.specs.declared.program.LlType.TheVariants as type
use Rattle.ll_code.specs.declared.program.LlBlock.{LlBlock}
use Rattle.ll_code.specs.declared.program.LlGraph.{LlGraph}
use Rattle.ll_code.specs.declared.program.LlLink.{LlLink}
use Rattle.ll_code.specs.declared.program.LlProgram.{LlProgram}
use Rattle.ll_build.specs.declared.needs.Numbers.{Numbers}
use Rattle.ll_live.specs.Live.{among, variables_in}
use Rattle.rpy_tree.specs.Value.{Ref}
use Rattle.rpy_meaning.specs.Classes.{is_below}
use Rattle.rpy_meaning.specs.World.{World}
use Rattle.flow_graph.specs.declared.graph.Block.{Block}
use Rattle.flow_graph.specs.declared.graph.Graphs.{Graphs}
use Rattle.flow_graph.specs.declared.graph.Link.{Link}
use Rattle.flow_meaning.specs.Machine.{Bound, bind, block_in, catching, passed}
use Rattle.rtyper_layout.specs.declared.classes.Laid.{Laid}
use Rattle.rtyper_layout.specs.Types.{type_seen, word}
use Rattle.rtyper_data.specs.Finding.{small_number}
use Rattle.rtyper_data.specs.Seen.{Writing, writing}
use Rattle.rtyper_class.specs.Seen.{laid}
use Rattle.rtyper_program.specs.declared.extra.Extra.{Extra}
use Rattle.rtyper_program.specs.declared.links.Caught.{Caught}
use Rattle.rtyper_program.specs.Handlers.{Work, any_other, handlers, land, taken, test_of}
use Rattle.rtyper_program.specs.Links.{typed, with_argument}
use Rattle.rtyper_program.specs.Seen.{Lowered, type_at}
use Rattle.csub_tree.specs.declared.tree.COperand.{COperand}
use Rattle.object_laws.specs.Done.{HasLayout}
use Rattle.object_laws.specs.Ghost.{Ghost, InstanceOf}
use Rattle.object_laws.specs.Known.{Known}
use Rattle.class_laws.specs.Asked.{HasClass}
use Rattle.class_laws.specs.Classes.{IsOf, IsLaidOut}
use Rattle.run_laws.specs.Points.{Setting, is_conflict, IsAt}
use Rattle.run_laws.specs.Does.{Begins, Leaves}
use Rattle.block_laws.specs.Links.{setting, AreDistinct, AllAmong, AllUnder, Converts, HasBlocks}
use Rattle.block_laws.specs.Operations.{HasTypes}
use Rattle.throw_laws.specs.Pieces.{AllIn}

-- ---- links by which exceptions go

module _ (s : Setting) (numbers : Numbers) (l : Lowered) (caught : Caught) (class : ℕ) where
  -- the exception, as an instance of this class, or another variable goes to an input; to one in conflict anything may go
  abbrev pub OneCatches : Bool → ℕ → ℕ → Writing → Type 0
  OneCatches true a v w = is_conflict (s.element l.number v) ≡ false → (type_at l v ≢ type.Void) × Converts s numbers (Some (element.Instance class false)) (s.element l.number v) (Var caught.exception) w
  OneCatches false a v w = is_conflict (s.element l.number v) ≡ false → (is_conflict (s.element l.number a) ≡ false) × (type_at l v ≡ type.Void → type_at l a ≡ type.Void) × (type_at l v ≢ type.Void → Converts s numbers (s.element l.number a) (s.element l.number v) (Var a) w)

  abbrev pub OneIsCaught : Option ℕ → ℕ → Writing → Type 0
  OneIsCaught None v w = Unit {0}
  OneIsCaught (Some a) v w = OneCatches (caught.variable == a) a v w

  -- what stands at the places of a link, from the n-th on, for the inputs
  abbrev pub AllAreCaught : List ℕ → ℕ → List ℕ → List COperand × Writing → Type 0
  AllAreCaught args n [] written = Unit {0}
  AllAreCaught args n (v ∷ inputs) written = OneIsCaught (slice_get args n) v written.1 × AllAreCaught args (n + 1) inputs (with_argument l (Some caught) (slice_get args n) (type_at l v) written)

  -- A link by which an exception of this class, or of one below it, goes to a block that is reached, behind the first one: it passes on variables that have been set and
  -- the exception, the inputs are apart, and what it passes on is converted to what is known of them.
  pub record IsLanding (names : List ℕ) (link : Link) (w : Writing) : Type 0 where
    pub kind : type_seen s.around.layout (Some (element.Instance class false)) ≡ caught.kind
    pub reached : s.reached l.number link.to ≡ true
    pub later : link.to ≢ 0
    pub block : Block
    pub is : slice_get l.graph.blocks link.to ≡ Some block
    pub apart : AreDistinct block.inputs
    pub own : AllAmong link.args (names ++ caught.variable ∷ [])
    pub inside : AllUnder (length w.body.types) link.args
    pub converts : AllAreCaught link.args 0 block.inputs ([], w)

-- where the conversions stand in a block of their own
abbrev pub emptied : Writing → Writing
emptied w = writing w.found (record w.body { ops = [] })

-- ---- handlers

module _ (s : Setting) (numbers : Numbers) (l : Lowered) (caught : Caught) (names : List ℕ) where
  -- a handler of a class, before what was written for the further ones: its link, and the graph that tells the class
  pub record HandIsDone (hand : ℕ × Link) (w : Work) : Type 0 where
    pub class : hand.0 < length l.world.classes.classes
    pub landing : IsLanding s numbers l caught hand.0 names hand.1 (emptied w.writing)
    pub test : HasClass s.low l.world s.known.exception (test_of l.world hand.0) (small_number (test_of l.world hand.0) (land l hand.1 caught w).1.writing.found).0

  abbrev pub AnyIsDone : Option Link → Work → Type 0
  AnyIsDone None w = Unit {0}
  AnyIsDone (Some link) w = IsLanding s numbers l caught 0 names link (emptied w.writing)

  abbrev pub HandsAreDone : List (ℕ × Link) → LlLink × Work → Type 0
  HandsAreDone [] next = Unit {0}
  HandsAreDone (hand ∷ hands) next = HandsAreDone hands next × HandIsDone hand (handlers l caught hands next).1

-- the blocks that were made stand in the graph, at their numbers
abbrev pub AreInGraph : LlGraph → Extra → Type 0
AreInGraph graph e = (i : ℕ) (b : LlBlock) → slice_get e.blocks i ≡ Some b → slice_get graph.blocks (word (e.first + i)) ≡ Some b

-- where what is caught goes on, and with what room
pub record IsPlaced (s : Setting) (l : Lowered) (w : Work) : Type 0 where
  pub number : ℕ
  pub is : s.known.graph l.number ≡ Some number
  pub graph : LlGraph
  pub stands : slice_get s.low.graphs number ≡ Some graph
  pub extra : AreInGraph graph w.extra
  pub room : length w.writing.body.types ≤ s.size l.number

-- classes are laid out, those of exceptions among them
pub record HasClasses (l : Lowered) (known : Known) : Type 0 where
  pub of_world : IsOf l.world known
  pub out : IsLaidOut l.world known
  pub root : Laid
  pub is_laid : laid l.world 0 ≡ Some root

-- ---- what comes of an exception

-- it is caught: what stands for it is in a variable, beside the variables of the block
pub record IsCaughtAt (s : Setting) (f : ℕ) (names : List ℕ) (exception : ℕ) (g : Ghost) (env : List Bound) (w : World) (core : Core) (r class : ℕ) : Type 0 where
  pub at : IsAt s g f names env w core
  pub home : slice_get g.homes r ≡ Some (record { sort = InstanceOf class; head = read core.vars exception })
  pub above : is_below s.known.program.classes class 0 ≡ true

-- the block that a link leads to is next, and its inputs have what the link passes on
pub record LandsAt (s : Setting) (f : ℕ) (link : Link) (env : List Bound) (w : World) (g : Ghost) (frames : List Frame) (from : State) : Type 0 where
  pub block : Block
  pub is : block_in (slice_get s.graphs.graphs f) link.to ≡ Some block
  pub begins : Begins s f link.to block (passed env block.inputs link.args) w g frames from

-- it goes by this link, or leaves the graph
abbrev pub Lands : Setting → ℕ → ℕ → Option Link → ℕ → List Bound → World → Ghost → List Frame → State → Type 0
Lands s f v None r env w g frames from = Leaves s r w g frames from
Lands s f v (Some link) r env w g frames from = LandsAt s f link (env ++ bind v (Some (Ref r)) ∷ []) w g frames from

pub record Reaches (s : Setting) (f v : ℕ) (chosen : Option Link) (r : ℕ) (env : List Bound) (w : World) (g : Ghost) (frames : List Frame) (core : Core) (by : LlLink) : Type 0 where
  pub state : State
  pub goes : jump s.low frames core by ≡ Goes state
  pub lands : Lands s f v chosen r env w g frames state

-- The link passes on variables of the block and the exception, and leads to the first handler whose class that of the exception is below, or to the block for any
-- other, or out of the graph.
pub record IsTaken (s : Setting) (l : Lowered) (names : List ℕ) (caught : Caught) (hands : List (ℕ × Link)) (any : Option Link) (by : LlLink) : Type 0 where
  pub own : AllIn (variables_in by.args) (caught.exception ∷ typed l names)
  pub leads : (frames : List Frame) (core : Core) (g : Ghost) (env : List Bound) (w : World) (r class : ℕ) → IsCaughtAt s l.number names caught.exception g env w core r class
      → Reaches s l.number caught.variable (catching s.known.program class hands any) r env w g frames core by

abbrev pub HandlersAreFound : Type 0
HandlersAreFound = (l : Lowered) (known : Known) (graphs : Graphs) (p : LlProgram) (arguments : List (List ℕ)) (numbers : Numbers) (below : ℕ) (names : List ℕ) (caught : Caught) (hands : List (ℕ × Link)) (any : Option Link) (w : Work)
    → HasLayout p l.world.around.layout → HasTypes (setting l known graphs p arguments) l.number below → below ≤ caught.exception → caught.exception < length w.writing.body.types → among caught.variable names ≡ false
    → slice_get graphs.graphs l.number ≡ Some l.graph → HasBlocks (setting l known graphs p arguments) l → HasClasses l known
    → AnyIsDone (setting l known graphs p arguments) numbers l caught names any w → HandsAreDone (setting l known graphs p arguments) numbers l caught names hands (any_other l caught any w)
    → IsPlaced (setting l known graphs p arguments) l (taken l caught hands any w).1 → IsTaken (setting l known graphs p arguments) l names caught hands any (taken l caught hands any w).0
