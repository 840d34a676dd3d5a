-- Exits that catch, as they are written behind the operation of their block.
use Rattle.std.specs.Prelude.{◌≡◌, ◌≤◌, ℕ, ◌+◌, Bool, true, false, not, List, [], ◌∷◌, ◌++◌, length, slice_get, Option, Some, None}
use Rattle.ll_code.specs.declared.program.LlType.{LlType}
use Rattle.ll_code.specs.declared.program.LlOp.{LlOp}
use Rattle.ll_code.specs.declared.program.LlExit.{LlExit}
use Rattle.ll_code.specs.declared.program.LlProgram.{LlProgram}
use Rattle.ll_build.specs.declared.needs.Numbers.{Numbers}
use Rattle.ll_live.specs.Live.{among}
use Rattle.flow_graph.specs.declared.graph.Exit.{Exit}
use Rattle.flow_graph.specs.declared.graph.Exit.TheVariants as exit
use Rattle.flow_graph.specs.declared.graph.Graphs.{Graphs}
use Rattle.flow_graph.specs.declared.graph.Link.{Link}
use Rattle.flow_graph.specs.declared.graph.Op.{Op}
use Rattle.rtyper_layout.specs.Types.{root_of}
use Rattle.rtyper_data.specs.declared.found.Found.{Found}
use Rattle.rtyper_data.specs.Seen.{Writing, writing, fresh}
use Rattle.rtyper_class.specs.Seen.{laid}
use Rattle.rtyper_program.specs.declared.extra.Extra.{Extra}
use Rattle.rtyper_program.specs.declared.links.Caught.{Caught}
use Rattle.rtyper_program.specs.Cuts.{any_raises, caught_in, graph_raises, on_raise}
use Rattle.rtyper_program.specs.Handlers.{Work, work, any_other}
use Rattle.rtyper_program.specs.Links.{link_of}
use Rattle.rtyper_program.specs.Seen.{Lowered}
use Rattle.object_laws.specs.Done.{HasLayout}
use Rattle.object_laws.specs.Known.{Known}
use Rattle.run_laws.specs.Points.{Setting}
use Rattle.run_laws.specs.Does.{Does}
use Rattle.block_laws.specs.Links.{setting, AllAmong, HasBlocks}
use Rattle.block_laws.specs.Operations.{AreRead, HasTypes, IsOperation}
use Rattle.throw_laws.specs.Ready.{AllFit}
use Rattle.catch_laws.specs.Caught.{GoesOn, IsTold, ReadsInside}
use Rattle.catch_laws.specs.Handlers.{AnyIsDone, HandsAreDone, HasClasses, IsPlaced}

-- the graphs that are told not to raise, by what was found
abbrev pub quiet_by : Found → ℕ → Bool
quiet_by found g = not (graph_raises found g)

-- the program around a graph of which types are below a number
pub record IsAround (l : Lowered) (known : Known) (graphs : Graphs) (p : LlProgram) (arguments : List (List ℕ)) (below : ℕ) : Type 0 where
  pub layout : HasLayout p l.world.around.layout
  pub types : HasTypes (setting l known graphs p arguments) l.number below
  pub graph : slice_get graphs.graphs l.number ≡ Some l.graph
  pub blocks : HasBlocks (setting l known graphs p arguments) l
  pub classes : HasClasses l known

-- an operation is written so behind what was there, reads what is set and in no conflict, and sets a new variable
pub record IsWrittenSo (s : Setting) (l : Lowered) (names : List ℕ) (o : Op) (front written : List LlOp) (start new : ℕ) (w : Writing) : Type 0 where
  pub ops : w.body.ops ≡ front ++ written
  pub types : start + new ≤ length w.body.types
  pub is : IsOperation s l.number o start new written
  pub are_read : AreRead s l.number o.args
  pub fresh : among o.result names ≡ false
  pub inside : ReadsInside l names o.result written

module _ (s : Setting) (numbers : Numbers) (l : Lowered) (names : List ℕ) (o : Op) (v : ℕ) (hands : List (ℕ × Link)) (any : Option Link) (without : Link) (w : Writing) (e : Extra) where
  -- what is written for the link without an exception, and the variable of the exception behind it
  abbrev pub passed_on : Writing
  passed_on = (link_of l None without w).1

  abbrev pub excepting : Work
  excepting = work (writing passed_on.found (fresh (root_of (laid l.world 0)) passed_on.body).1) e

  abbrev pub the_caught : Caught
  the_caught = caught_in l v hands any (fresh (root_of (laid l.world 0)) passed_on.body)

  -- What is passed on is converted, by variables of the graph, where it has those that are written, and, where an operation behind the first so many may raise, also by
  -- handlers, whose tests stand.
  pub record AreWaysDone (least : ℕ) (written : List LlOp) : Type 0 where
    pub new : among v names ≡ false
    pub own : AllAmong without.args (names ++ o.result ∷ [])
    pub way : GoesOn s numbers l names o without w
    pub conversions : List LlOp
    pub are : passed_on.body.ops ≡ w.body.ops ++ conversions
    pub fits : length w.body.types ≤ s.size l.number → length passed_on.body.types ≤ s.size l.number → AllFit s.low (s.size l.number) (written ++ conversions)
    pub any_done : any_raises w.found least w.body.ops ≡ true → AnyIsDone s numbers l the_caught names any excepting
    pub hands_done : any_raises w.found least w.body.ops ≡ true → HandsAreDone s numbers l the_caught names hands (any_other l the_caught any excepting)

-- what an exit is written as, behind an operation, does what the operation and the exit do
pub record DoesSo (s : Setting) (l : Lowered) (names : List ℕ) (o : Op) (e : Exit) (front : List LlOp) (w : Writing) (made : LlExit × Work) : Type 0 where
  pub left : List LlOp
  pub new : List LlType
  pub written : made.1.writing.body.ops ≡ front ++ left
  pub types : made.1.writing.body.types ≡ w.body.types ++ new
  pub does : IsPlaced s l made.1 → IsTold s (quiet_by w.found) → IsTold s (quiet_by made.1.writing.found) → Does s l.number names (o ∷ []) e left made.0

-- What is written for an exit by exceptions behind an operation does what both do, whether the operation may raise or not.
abbrev pub ExitsCatch : Type 0
ExitsCatch = (l : Lowered) (known : Known) (graphs : Graphs) (p : LlProgram) (arguments : List (List ℕ)) (numbers : Numbers) (below start new : ℕ) (names : List ℕ) (o : Op) (v : ℕ) (hands : List (ℕ × Link)) (any : Option Link) (without : Link) (front written : List LlOp) (w : Writing) (e : Extra)
    → IsAround l known graphs p arguments below → below ≤ start → IsWrittenSo (setting l known graphs p arguments) l names o front written start new w → AreWaysDone (setting l known graphs p arguments) numbers l names o v hands any without w e (length front) written
    → DoesSo (setting l known graphs p arguments) l names o (exit.OnRaise v hands any without) front w (on_raise l v hands any without (length front) (work w e))
