-- When the parts of a program that is lowered are done, blocks that catch among them.
use Rattle.std.specs.Prelude.{◌≡◌, ◌≤◌, ◌⊎◌, ℕ, true, false, List, [], ◌∷◌, ◌++◌, length, slice_get, Option, Some}
use Rattle.ann_element.specs.declared.element.Element.{Element}
use Rattle.ll_code.specs.declared.program.LlOp.{LlOp}
use Rattle.ll_build.specs.declared.needs.Numbers.{Numbers}
use Rattle.ll_live.specs.Live.{among}
use Rattle.flow_graph.specs.declared.graph.Block.{Block}
use Rattle.flow_graph.specs.declared.graph.Exit.TheVariants as exit
use Rattle.flow_graph.specs.declared.graph.Link.{Link}
use Rattle.flow_graph.specs.declared.graph.Op.{Op}
use Rattle.rtyper_data.specs.declared.found.Found.{Found}
use Rattle.rtyper_data.specs.Seen.{Writing}
use Rattle.rtyper_program.specs.declared.extra.Extra.{Extra}
use Rattle.rtyper_program.specs.Blocks.{op_of}
use Rattle.rtyper_program.specs.Cuts.{any_raises, on_raise}
use Rattle.rtyper_program.specs.Graphs.{variables}
use Rattle.rtyper_program.specs.Handlers.{any_other, work}
use Rattle.rtyper_program.specs.Raises.{catches}
use Rattle.rtyper_program.specs.Seen.{Lowered}
use Rattle.growth_laws.specs.Growing.{Grows}
use Rattle.run_laws.specs.Points.{Setting}
use Rattle.block_laws.specs.Links.{AllAmong}
use Rattle.block_laws.specs.Operations.{AreRead, HasTypes}
use Rattle.throw_laws.specs.Ready.{AllFit}
use Rattle.catch_laws.specs.Caught.{GoesOn, ReadsInside}
use Rattle.catch_laws.specs.Exits.{excepting, passed_on, the_caught}
use Rattle.catch_laws.specs.Handlers.{AnyIsDone, HandsAreDone, HasClasses}
use Rattle.rtyped_runs.specs.Parts.{BlockIsDone, OpIsWritten, TakesParameters}

-- what an operation is written as does what it does, reads what is set and in no conflict, and sets variables of the graph, where that has those that are written
pub record OpMayThrow (s : Setting) (l : Lowered) (names : List ℕ) (o : Op) (w : Writing) : Type 0 where
  pub does : OpIsWritten s l o w
  pub are_read : AreRead s l.number o.args
  pub inside : ReadsInside l names o.result does.ops
  pub fits : length (op_of l o w).body.types ≤ s.size l.number → AllFit s.low (s.size l.number) does.ops

module _ (s : Setting) (numbers : Numbers) (l : Lowered) (names : List ℕ) (o : Op) (v : ℕ) (hands : List (ℕ × Link)) (any : Option Link) (without : Link) (w : Writing) (e : Extra) (least : ℕ) where
  -- What is passed on behind the operation, where that gives anything, is converted, and, where it may raise, also by handlers, whose tests stand.
  pub record WaysAreDone : Type 0 where
    pub own : AllAmong without.args (names ++ o.result ∷ [])
    pub way : GoesOn s numbers l names o without w
    pub conversions : List LlOp
    pub are : (passed_on s numbers l names o v hands any without w e).body.ops ≡ w.body.ops ++ conversions
    pub fits : length (passed_on s numbers l names o v hands any without w e).body.types ≤ s.size l.number → AllFit s.low (s.size l.number) conversions
    pub any_done : any_raises w.found least w.body.ops ≡ true → AnyIsDone s numbers l (the_caught s numbers l names o v hands any without w e) names any (excepting s numbers l names o v hands any without w e)
    pub hands_done : any_raises w.found least w.body.ops ≡ true → HandsAreDone s numbers l (the_caught s numbers l names o v hands any without w e) names hands (any_other l (the_caught s numbers l names o v hands any without w e) any (excepting s numbers l names o v hands any without w e))

-- A block of one operation, whose exit catches: classes are laid out, those of exceptions among them, and whatever was asked for before, between these two moments of the lowering, its parts are done.
pub record BlockCatches (s : Setting) (numbers : Numbers) (l : Lowered) (first last : Found) (b : Block) : Type 0 where
  pub classes : HasClasses l s.known
  pub o : Op
  pub v : ℕ
  pub hands : List (ℕ × Link)
  pub any : Option Link
  pub without : Link
  pub ops : b.ops ≡ o ∷ []
  pub exit : b.exit ≡ exit.OnRaise v hands any without
  pub catches_it : catches l.graph hands any ≡ true
  pub fresh : among o.result b.inputs ≡ false
  pub new : among v b.inputs ≡ false
  pub does : (w : Writing) → Grows first w.found → Grows (op_of l o w).found last → length (variables l.known l.world l.number) ≤ length w.body.types → OpMayThrow s l b.inputs o w
  pub ways : (least : ℕ) (w : Writing) (e : Extra) → Grows first w.found → Grows (on_raise l v hands any without least (work w e)).1.writing.found last → length (variables l.known l.world l.number) ≤ length w.body.types → WaysAreDone s numbers l b.inputs o v hands any without w e least

-- of a block that catches nothing, or of one that catches
abbrev pub BlockIsDoneSo : Setting → Numbers → Lowered → Found → Found → Block → Type 0
BlockIsDoneSo s numbers l first last b = BlockIsDone s numbers l first last b ⊎ BlockCatches s numbers l first last b

-- of a graph of this number, whose function has it too
pub record GraphIsDoneSo (s : Setting) (numbers : Numbers) (l : Lowered) (first last : Found) : Type 0 where
  pub function : l.graph.function ≡ l.number
  pub types : HasTypes s l.number (length (variables l.known l.world l.number))
  pub blocks : (n : ℕ) (b : Block) → slice_get l.graph.blocks n ≡ Some b → s.reached l.number n ≡ true → BlockIsDoneSo s numbers l first last b
  pub begins : s.reached l.number 0 ≡ true
  pub params : (params : List Element) (b : Block) → slice_get l.world.around.params l.number ≡ Some params → slice_get l.graph.blocks 0 ≡ Some b → TakesParameters l params b
  pub some_block : (b : Block) × (slice_get l.graph.blocks 0 ≡ Some b)
