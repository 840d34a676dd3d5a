-- When what is written for a result that goes to its place keeps its value.
use Rattle.std.specs.Prelude.{◌≡◌, ◌≢◌, ◌<◌, ◌≤◌, ℕ, ◌+◌, false, List, [], ◌++◌, length, Option}
use Rattle.ann_element.specs.declared.element.Element.{Element}
use Rattle.csub_tree.specs.State.{Value, Core}
use Rattle.csub_tree.specs.Statement.{read, operand}
use Rattle.csub_tree.specs.declared.tree.COperand.{COperand}
use Rattle.ll_code.specs.State.{Frame, State, At}
use Rattle.ll_code.specs.declared.program.LlType.{LlType}
use Rattle.ll_code.specs.declared.program.LlOp.{LlOp}
use Rattle.ll_code.specs.declared.program.LlExit.{LlExit}
use Rattle.ll_code.specs.declared.program.LlProgram.{LlProgram}
use Rattle.ll_leads.specs.Memory.{forgotten}
use Rattle.ll_leads.specs.Path.{Leads}
use Rattle.ll_build.specs.declared.needs.Numbers.{Numbers}
use Rattle.rpy_tree.specs.Value.{Value as Meant, Heap}
use Rattle.rtyper_layout.specs.Layout.{is_tuple}
use Rattle.rtyper_layout.specs.Types.{type_seen}
use Rattle.rtyper_data.specs.Converting.{give}
use Rattle.rtyper_data.specs.Seen.{Around, Place, type_at, Writing, writing}
use Rattle.lower_laws.specs.Asked.{all_asked}
use Rattle.lower_laws.specs.Values.{IsBelow}
use Rattle.object_laws.specs.Done.{HasLayout}
use Rattle.object_laws.specs.Ghost.{Ghost, Grown}
use Rattle.object_laws.specs.Known.{Known}
use Rattle.object_laws.specs.Represents.{Represents}
use Rattle.object_laws.specs.Values.{Holds}
use Rattle.conversion_laws.specs.Asked.{Has, asks_for}
use Rattle.conversion_laws.specs.Converted.{tuples_in, items_in}
use Rattle.conversion_laws.specs.Going.{Goes}
use Rattle.passing_laws.specs.Standing.{Stood}

-- What comes behind is next, memory represents the same heap, and the place has the value. Of the first so many variables no other is changed.
pub record Placed (known : Known) (around : Around) (place : Place) (p : LlProgram) (arguments : List (List ℕ)) (s : State) (rest : List LlOp) (e : LlExit) (frames : List Frame) (core : Core) (g : Ghost) (heap : Heap) (left below most count : ℕ) (v : Meant) : Type 0 where
  pub end : Core
  pub leads : Leads p arguments most s [] (At rest e frames end)
  pub ghost : Ghost
  pub grown : Grown g ghost
  pub stands : Represents around.layout known ghost heap left end.blocks end.statics
  pub holds : Holds around.layout known ghost place.element (read end.vars place.variable) v
  pub few : length end.blocks ≤ length core.blocks + count
  pub memory : forgotten end ≡ forgotten (record core { blocks = end.blocks })
  pub others : (n : ℕ) → n < below → n ≢ place.variable → read end.vars n ≡ read core.vars n
  pub room : length end.vars ≡ length core.vars
  pub function : end.function ≡ core.function
  pub block : end.block ≡ core.block

-- What is written behind what was there asks for this, and the place has the value of the operand, of which its own element is known.
pub record IsGiven (known : Known) (around : Around) (place : Place) (from : Option Element) (x : COperand) (w : Writing) : Type 0 where
  pub ops : List LlOp
  pub new : List LlType
  pub is : give around place x (type_seen around.layout from) w ≡ writing (all_asked (asks_for around.layout (type_seen around.layout from) (type_at around place)) w.found) (record { types = w.body.types ++ new; ops = w.body.ops ++ ops })
  pub follows : (p : LlProgram) (numbers : Numbers) (raised : ℕ → Value) (arguments : List (List ℕ)) (rest : List LlOp) (e : LlExit) (frames : List Frame) (core : Core) (g : Ghost) (heap : Heap) (left : ℕ) (v : Meant)
      → HasLayout p around.layout → Stood around.layout known (Has p around.layout numbers raised) (asks_for around.layout (type_seen around.layout from) (type_at around place)) w.found → Represents around.layout known g heap left core.blocks core.statics → left ≡ core.steps
      → length w.body.types + length new ≤ length core.vars → place.variable < length core.vars → IsBelow (length w.body.types) x → Holds around.layout known g from (operand core.vars x) v
      → Placed known around place p arguments (At (ops ++ rest) e frames core) rest e frames core g heap left (length w.body.types) (items_in place.element) (tuples_in place.element) v

-- a result is given where it goes to what is known of its place; the struct of strings is no tuple
abbrev pub ResultsAreGiven : Type 0
ResultsAreGiven = (known : Known) (around : Around) (place : Place) (from : Option Element) (x : COperand) (w : Writing) → is_tuple around.layout 0 ≡ false → Goes around.layout known from place.element → IsGiven known around place from x w
