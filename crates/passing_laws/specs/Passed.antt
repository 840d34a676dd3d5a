-- When what is written for operands that go to other elements keeps their values.
use Rattle.std.specs.Prelude.{◌≡◌, ◌<◌, ◌≤◌, ℕ, ◌+◌, false, List, [], ◌++◌, length}
use Rattle.ann_element.specs.declared.element.Element.{Element}
use Rattle.csub_tree.specs.State.{Value, Core}
use Rattle.csub_tree.specs.Statement.{read, operands}
use Rattle.csub_tree.specs.declared.tree.COperand.{COperand}
use Rattle.ll_code.specs.State.{Frame, State, At}
use Rattle.ll_code.specs.declared.program.LlType.{LlType}
use Rattle.ll_code.specs.declared.program.LlOp.{LlOp}
use Rattle.ll_code.specs.declared.program.LlExit.{LlExit}
use Rattle.ll_code.specs.declared.program.LlProgram.{LlProgram}
use Rattle.ll_leads.specs.Memory.{forgotten}
use Rattle.ll_leads.specs.Path.{Leads}
use Rattle.ll_build.specs.declared.needs.Numbers.{Numbers}
use Rattle.rpy_tree.specs.Value.{Value as Meant, Heap}
use Rattle.rtyper_layout.specs.declared.layout.Layout.{Layout}
use Rattle.rtyper_layout.specs.Layout.{is_tuple}
use Rattle.rtyper_data.specs.Seen.{Around, Operand, Writing, writing}
use Rattle.lower_laws.specs.Asked.{all_asked}
use Rattle.lower_laws.specs.Values.{AllBelow}
use Rattle.object_laws.specs.Done.{HasLayout}
use Rattle.object_laws.specs.Ghost.{Ghost, Grown}
use Rattle.object_laws.specs.Known.{Known}
use Rattle.object_laws.specs.Represents.{Represents}
use Rattle.object_laws.specs.Values.{AllHold, Given}
use Rattle.conversion_laws.specs.Asked.{Has}
use Rattle.passing_laws.specs.Passing.{AllPass, each_given, pass_asks, tuples_of, items_of, AllUnder}
use Rattle.passing_laws.specs.Standing.{Stood}

-- Operations are done that keep the heap, and what comes behind them is next: what was there stands for what it was, and of the first so many
-- variables none is changed. At most so many blocks are made, and so many references written.
pub record Moved (layout : Layout) (known : Known) (p : LlProgram) (arguments : List (List ℕ)) (s : State) (rest : List LlOp) (e : LlExit) (frames : List Frame) (core : Core) (g : Ghost) (heap : Heap) (left below most count : ℕ) (Fine : Ghost → Core → Type 0) : Type 0 where
  pub end : Core
  pub leads : Leads p arguments most s [] (At rest e frames end)
  pub ghost : Ghost
  pub grown : Grown g ghost
  pub stands : Represents layout known ghost heap left end.blocks end.statics
  pub fine : Fine ghost end
  pub few : length end.blocks ≤ length core.blocks + count
  pub memory : forgotten end ≡ forgotten (record core { blocks = end.blocks })
  pub others : (n : ℕ) → n < below → read end.vars n ≡ read core.vars n
  pub room : length end.vars ≡ length core.vars
  pub function : end.function ≡ core.function
  pub block : end.block ≡ core.block

-- What is written behind what was there asks for this, and the operands have their values then, of which these elements are known.
pub record ArePassed (known : Known) (around : Around) (args : List Operand) (es : List Element) (w : Writing) : Type 0 where
  pub xs : List COperand
  pub ops : List LlOp
  pub new : List LlType
  pub is : each_given around args es w ≡ (xs, writing (all_asked (pass_asks around.layout args es) w.found) (record { types = w.body.types ++ new; ops = w.body.ops ++ ops }))
  pub under : AllBelow (length w.body.types) args → AllUnder (length w.body.types + length new) xs
  pub follows : (p : LlProgram) (numbers : Numbers) (raised : ℕ → Value) (arguments : List (List ℕ)) (rest : List LlOp) (e : LlExit) (frames : List Frame) (core : Core) (g : Ghost) (heap : Heap) (left : ℕ) (vs : List Meant)
      → HasLayout p around.layout → Stood around.layout known (Has p around.layout numbers raised) (pass_asks around.layout args es) w.found → Represents around.layout known g heap left core.blocks core.statics → left ≡ core.steps
      → length w.body.types + length new ≤ length core.vars → AllBelow (length w.body.types) args → Given known around g core args vs
      → Moved around.layout known p arguments (At (ops ++ rest) e frames core) rest e frames core g heap left (length w.body.types) (items_of es) (tuples_of es) (λ ghost end. AllHold around.layout known ghost es (operands end.vars xs) vs)

-- operands are converted where each goes to what is known of its place; the struct of strings is no tuple
abbrev pub OperandsArePassed : Type 0
OperandsArePassed = (known : Known) (around : Around) (args : List Operand) (es : List Element) (w : Writing) → is_tuple around.layout 0 ≡ false → AllPass around.layout known args es → ArePassed known around args es w
