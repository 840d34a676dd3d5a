-- When what is written for a conversion gives the same value, of which something else is known.
use Rattle.std.specs.Prelude.{◌≡◌, ◌<◌, ◌≤◌, ℕ, ◌+◌, ℤ, Bool, List, [], ◌++◌, length, sum, Option, Some, None}
use Rattle.rpy_base.specs.Word.{Fits}
use Rattle.ann_element.specs.declared.element.Element.{Element, fold-Element}
use Rattle.ann_element.specs.declared.element.Element.TheOpen.{Element-F}
use Rattle.csub_tree.specs.State.{Value, Word, Byte, Flag, Null, Core}
use Rattle.csub_tree.specs.Statement.{read, operand}
use Rattle.csub_tree.specs.declared.tree.COperand.{COperand}
use Rattle.ll_code.specs.State.{Frame, State, At}
use Rattle.ll_code.specs.declared.program.LlType.{LlType}
use Rattle.ll_code.specs.declared.program.LlType.TheVariants as type
use Rattle.ll_code.specs.declared.program.LlOp.{LlOp}
use Rattle.ll_code.specs.declared.program.LlExit.{LlExit}
use Rattle.ll_code.specs.declared.program.LlProgram.{LlProgram}
use Rattle.ll_leads.specs.Memory.{forgotten}
use Rattle.ll_leads.specs.Path.{Leads}
use Rattle.ll_build.specs.declared.needs.Numbers.{Numbers}
use Rattle.rpy_tree.specs.Value.{Value as Meant, Heap}
use Rattle.rtyper_layout.specs.declared.layout.Layout.{Layout}
use Rattle.rtyper_layout.specs.Types.{type_seen}
use Rattle.rtyper_data.specs.declared.found.Found.{Found}
use Rattle.rtyper_data.specs.Converting.{value_as}
use Rattle.rtyper_data.specs.Seen.{Writing}
use Rattle.lower_laws.specs.Asked.{Ask, all_asked}
use Rattle.lower_laws.specs.Values.{IsBelow}
use Rattle.object_laws.specs.Done.{HasLayout, AllAsked}
use Rattle.object_laws.specs.Ghost.{Ghost, Grown}
use Rattle.object_laws.specs.Known.{Known}
use Rattle.object_laws.specs.Represents.{Represents}
use Rattle.object_laws.specs.Values.{IsText, Holds}

-- ---- variables that are bound to nothing

-- a value of a type, which stands for nothing that is used; a string, or NULL, for that of strings
pub data Blank (g : Ghost) : LlType → Value → Type 0 where
  never : (x : Value) → Blank g type.Void x
  word : (z : ℤ) → Fits z → Blank g type.Signed (Word z)
  flag : (b : Bool) → Blank g type.Bool (Flag b)
  byte : (b : ℕ) → b < 256 → Blank g type.Char (Byte b)
  null : (n : ℕ) → Blank g (type.Ptr n) Null
  function : Blank g type.Fn Null
  text : (x : Value) (bytes : List ℕ) → IsText g x bytes → Blank g (type.Ptr 0) x

-- ---- what is made

-- how many tuples there are in a value, and how many items they have
abbrev pub tuples_step : Element-F ℕ → ℕ
tuples_step (Element-F.Tuple counts) = 1 + sum counts
tuples_step other = 0

abbrev pub tuples_in : Option Element → ℕ
tuples_in None = 0
tuples_in (Some e) = fold-Element ℕ tuples_step e

abbrev pub items_step : Element-F ℕ → ℕ
items_step (Element-F.Tuple counts) = length counts + sum counts
items_step other = 0

abbrev pub items_in : Option Element → ℕ
items_in None = 0
items_in (Some e) = fold-Element ℕ items_step e

-- ---- conversions

-- The operations are done, and what comes behind them is next. The operand is as it should be. The blocks represent the same heap, and what
-- was there stands for what it was; of the first so many variables none is changed. At most so many blocks are made, and so many references
-- are written, as the value has tuples and items.
pub record Came (layout : Layout) (known : Known) (Fine : Ghost → Value → Type 0) (p : LlProgram) (arguments : List (List ℕ)) (s : State) (rest : List LlOp) (e : LlExit) (frames : List Frame) (core : Core) (g : Ghost) (heap : Heap) (left below : ℕ) (to : Option Element) (x : COperand) : Type 0 where
  pub end : Core
  pub leads : Leads p arguments (items_in to) s [] (At rest e frames end)
  pub ghost : Ghost
  pub grown : Grown g ghost
  pub stands : Represents layout known ghost heap left end.blocks end.statics
  pub fine : Fine ghost (operand end.vars x)
  pub few : length end.blocks ≤ length core.blocks + tuples_in to
  pub memory : forgotten end ≡ forgotten (record core { blocks = end.blocks })
  pub others : (n : ℕ) → n < below → read end.vars n ≡ read core.vars n
  pub room : length end.vars ≡ length core.vars
  pub function : end.function ≡ core.function
  pub block : end.block ≡ core.block

-- the operand as a value of which the other is known
abbrev pub converted : Layout → Option Element → Option Element → COperand → Writing → COperand × Writing
converted layout from to x w = value_as layout x (type_seen layout from) (type_seen layout to) w

-- What is written behind what was there asks for this, and gives the same value, of which the other element is known: in every program that
-- has it at its numbers, over every memory that represents a heap, whatever comes behind and waits. What is bound to nothing stays so.
pub record IsConverted (Has : LlProgram → Numbers → (ℕ → Value) → Core → Ask → Found → Type 0) (known : Known) (layout : Layout) (from to : Option Element) (asks : List Ask) (x : COperand) (w : Writing) : Type 0 where
  pub ops : List LlOp
  pub new : List LlType
  pub asked : (converted layout from to x w).1.found ≡ all_asked asks w.found
  pub written : (converted layout from to x w).1.body.ops ≡ w.body.ops ++ ops
  pub types : (converted layout from to x w).1.body.types ≡ w.body.types ++ new
  pub under : IsBelow (length w.body.types) x → IsBelow (length w.body.types + length new) (converted layout from to x w).0
  pub follows : (p : LlProgram) (numbers : Numbers) (raised : ℕ → Value) (arguments : List (List ℕ)) (rest : List LlOp) (e : LlExit) (frames : List Frame) (core : Core) (g : Ghost) (heap : Heap) (left : ℕ) (v : Meant)
      → HasLayout p layout → AllAsked (Has p numbers raised core) asks w.found → Represents layout known g heap left core.blocks core.statics → left ≡ core.steps
      → length w.body.types + length new ≤ length core.vars → IsBelow (length w.body.types) x → Holds layout known g from (operand core.vars x) v
      → Came layout known (λ ghost y. Holds layout known ghost to y v) p arguments (At (ops ++ rest) e frames core) rest e frames core g heap left (length w.body.types) to (converted layout from to x w).0
  pub blank : (p : LlProgram) (numbers : Numbers) (raised : ℕ → Value) (arguments : List (List ℕ)) (rest : List LlOp) (e : LlExit) (frames : List Frame) (core : Core) (g : Ghost) (heap : Heap) (left : ℕ)
      → HasLayout p layout → AllAsked (Has p numbers raised core) asks w.found → Represents layout known g heap left core.blocks core.statics → left ≡ core.steps
      → length w.body.types + length new ≤ length core.vars → IsBelow (length w.body.types) x → Blank g (type_seen layout from) (operand core.vars x)
      → Came layout known (λ ghost y. Blank ghost (type_seen layout to) y) p arguments (At (ops ++ rest) e frames core) rest e frames core g heap left (length w.body.types) to (converted layout from to x w).0
