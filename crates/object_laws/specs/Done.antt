-- When the low-level operations of an operation do what it does with a heap that blocks and statics represent.
use Rattle.std.specs.Prelude.{◌≡◌, ◌≢◌, ◌<◌, ◌≤◌, ℕ, ◌+◌, ◌*◌, true, false, List, [], ◌∷◌, ◌++◌, length, slice_get, Option, Some, None}
use Rattle.rpy_tree.specs.Value.{Value as Meant, Ref, Object, Listed, Mapped, Heap}
use Rattle.rpy_meaning.specs.declared.row.Covers.{Covers}
use Rattle.rpy_meaning.specs.declared.row.RowOp.{RowOp}
use Rattle.rpy_meaning.specs.Operations.{op}
use Rattle.rpy_meaning.specs.World.{World, Answer, Gives, Throws, Fails, Lacks, Enters, Bad}
use Rattle.csub_tree.specs.State.{Value, Core}
use Rattle.csub_tree.specs.Layout.{shape_at, shape_over}
use Rattle.csub_tree.specs.Statement.{read}
use Rattle.ll_code.specs.State.{Frame, State, At}
use Rattle.ll_code.specs.Machine.{shapes_of}
use Rattle.ll_code.specs.declared.program.LlType.{LlType}
use Rattle.ll_code.specs.declared.program.LlOp.{LlOp}
use Rattle.ll_code.specs.declared.program.LlExit.{LlExit}
use Rattle.ll_code.specs.declared.program.LlProgram.{LlProgram}
use Rattle.ll_leads.specs.Memory.{forgotten}
use Rattle.ll_leads.specs.Path.{Leads}
use Rattle.ll_build.specs.declared.needs.Numbers.{Numbers}
use Rattle.ll_texts.specs.Follows.{FailedAs}
use Rattle.rtyper_layout.specs.declared.layout.Layout.{Layout}
use Rattle.rtyper_layout.specs.declared.classes.Laid.{Laid}
use Rattle.rtyper_layout.specs.declared.dicts.Mapping.{Mapping}
use Rattle.rtyper_layout.specs.Dicts.{first, second}
use Rattle.rtyper_layout.specs.Layout.{is_list, mapping_at}
use Rattle.rtyper_layout.specs.Types.{word, laid_in}
use Rattle.rtyper_data.specs.Seen.{Around, Operand, Place, Writing}
use Rattle.rtyper_data.specs.declared.found.Found.{Found}
use Rattle.lower_laws.specs.Asked.{Ask, all_asked, number_of}
use Rattle.lower_laws.specs.Done.{HasStructs, Threw}
use Rattle.lower_laws.specs.Helped.{Lacked}
use Rattle.lower_laws.specs.Values.{AllBelow}
use Rattle.object_laws.specs.Ghost.{Ghost, Grown}
use Rattle.object_laws.specs.Known.{Known}
use Rattle.object_laws.specs.Represents.{Represents, shapes, is_settled}
use Rattle.object_laws.specs.Values.{Holds, Given}

-- the items of a list; each pair of a dict counts for three
abbrev pub items_in : Option Object → ℕ
items_in (Some (Listed vs)) = length vs
items_in (Some (Mapped pairs)) = 3 * length pairs
items_in other = 0

abbrev pub items_of : Heap → Meant → ℕ
items_of heap (Ref r) = items_in (slice_get heap r)
items_of heap other = 0

-- How many references may be written into blocks: one for each operand, those of the lists and dicts among them, whose arrays may be made
-- anew, and that of an array.
abbrev pub references : Heap → List Meant → ℕ
references heap [] = 1
references heap (v ∷ vs) = 1 + (items_of heap v + references heap vs)

-- The operations are done, and what comes behind them is next. The blocks represent the heap that the operation leaves, and what was there
-- stands for what it was. A variable has what stands for the result; of the first so many no other is changed. At most so many blocks are
-- made, and no more than so many references are written; what was put is that of the operation.
pub record Came (blocks : ℕ) (known : Known) (around : Around) (place : Place) (p : LlProgram) (args : List (List ℕ)) (s : State) (rest : List LlOp) (e : LlExit) (frames : List Frame) (core : Core) (g : Ghost) (most below : ℕ) (w : World) (v : Meant) (w' : World) : Type 0 where
  pub end : Core
  pub text : List ℕ
  pub leads : Leads p args most s text (At rest e frames end)
  pub ghost : Ghost
  pub grown : Grown g ghost
  pub stands : Represents around.layout known ghost w'.heap w'.left end.blocks end.statics
  pub holds : Holds around.layout known ghost place.element (read end.vars place.variable) v
  pub few : length end.blocks ≤ length core.blocks + blocks
  pub memory : forgotten end ≡ forgotten (record core { blocks = end.blocks; statics = end.statics; steps = w'.left })
  pub others : (n : ℕ) → n < below → n ≢ place.variable → read end.vars n ≡ read core.vars n
  pub room : length end.vars ≡ length core.vars
  pub function : end.function ≡ core.function
  pub block : end.block ≡ core.block
  pub out : w'.out ≡ w.out ++ text

-- `raised` gives what stands for the one instance of a builtin exception class. What throws, fails or lacks steps leaves memory as it was.
abbrev pub Follows : ℕ → Known → Around → Place → LlProgram → List (List ℕ) → State → List LlOp → LlExit → List Frame → Core → Ghost → (ℕ → Value) → ℕ → ℕ → World → Answer → Type 0
Follows blocks known around place p args s rest e frames core g raised most below w (Gives v w') = Came blocks known around place p args s rest e frames core g most below w v w'
Follows blocks known around place p args s rest e frames core g raised most below w (Throws exception w') = Threw p args s rest e frames core (raised exception) below w w'
Follows blocks known around place p args s rest e frames core g raised most below w (Fails name) = FailedAs p args s name
Follows blocks known around place p args s rest e frames core g raised most below w Lacks = Lacked p args s core
Follows blocks known around place p args s rest e frames core g raised most below w (Enters function values instead w') = ⊥
Follows blocks known around place p args s rest e frames core g raised most below w Bad = Unit {0}

pub record HasDict (p : LlProgram) (m : Mapping) : Type 0 where
  pub head : shape_at (shapes_of p.structs) m.dict ≡ shape_over m.dict 4 None
  pub first : shape_at (shapes_of p.structs) (first m) ≡ shape_over (first m) 1 None
  pub second : shape_at (shapes_of p.structs) (second m) ≡ shape_over (second m) 1 None

-- What a program has of a layout: the structs of strings and tuples; those of lists, without bases: a length and an array, and the array,
-- which has a length; those of dicts, with four fields, and their two arrays; and each struct in its shape. The structs of lists, dicts and
-- instances are not those of strings and tuples.
pub record HasLayout (p : LlProgram) (layout : Layout) : Type 0 where
  pub plain : HasStructs p layout
  pub heads : (n : ℕ) → is_list layout n ≡ true → shape_at (shapes_of p.structs) n ≡ shape_over n 2 None
  pub arrays : (n : ℕ) → is_list layout n ≡ true → shape_at (shapes_of p.structs) (word (n + 1)) ≡ shape_over (word (n + 1)) 1 None
  pub dicts : (n : ℕ) (m : Mapping) → mapping_at layout.mappings n ≡ Some m → HasDict p m
  pub shapes : (n : ℕ) → n < length layout.structs → shape_at (shapes_of p.structs) n ≡ shape_at (shapes layout) n
  pub lists_apart : (n : ℕ) → is_list layout n ≡ true → (is_settled layout n ≡ false) × (is_settled layout (word (n + 1)) ≡ false)
  pub dicts_apart : (n : ℕ) (m : Mapping) → mapping_at layout.mappings n ≡ Some m → (is_settled layout m.dict ≡ false) × (is_settled layout (first m) ≡ false) × (is_settled layout (second m) ≡ false)
  pub classes_apart : (class : ℕ) (l : Laid) → laid_in layout.classes class ≡ Some l → is_settled layout l.own ≡ false

-- each is asked for in turn and stands at its number, where `Has` says when one does
abbrev pub AllAsked : (Ask → Found → Type 0) → List Ask → Found → Type 0
AllAsked Has [] found = Unit {0}
AllAsked Has (a ∷ asks) found = Has a found × AllAsked Has asks (number_of a found).1

-- What is written behind what was there asks for this, and does what the operation does where these failures are covered: in every
-- program that has it at its numbers, over every memory that represents the heap, whatever comes behind and waits, of operands with values
-- of this kind in this world. At most so many blocks are made.
pub record IsDoneWhere (Good : World → List Meant → Type 0) (Has : LlProgram → Numbers → (ℕ → Value) → Core → Ask → Found → Type 0) (blocks : ℕ) (known : Known) (around : Around) (o : RowOp) (covers : Covers) (asks : List Ask) (lowered : Writing) (place : Place) (args : List Operand) (w : Writing) : Type 0 where
  pub ops : List LlOp
  pub new : List LlType
  pub asked : lowered.found ≡ all_asked asks w.found
  pub written : lowered.body.ops ≡ w.body.ops ++ ops
  pub types : lowered.body.types ≡ w.body.types ++ new
  pub follows : (p : LlProgram) (numbers : Numbers) (raised : ℕ → Value) (arguments : List (List ℕ)) (rest : List LlOp) (e : LlExit) (frames : List Frame) (core : Core) (g : Ghost) (world : World) (vs : List Meant)
      → HasLayout p around.layout → AllAsked (Has p numbers raised core) asks w.found → Represents around.layout known g world.heap world.left core.blocks core.statics → world.left ≡ core.steps
      → length w.body.types + length new ≤ length core.vars → place.variable < length w.body.types → AllBelow (length w.body.types) args → Given known around g core args vs → Good world vs
      → Follows blocks known around place p arguments (At (ops ++ rest) e frames core) rest e frames core g raised (references world.heap vs) (length w.body.types) world (op known.program covers o vs world)

abbrev pub Any : World → List Meant → Type 0
Any world vs = Unit {0}

-- whatever the values are
abbrev pub IsDone : (LlProgram → Numbers → (ℕ → Value) → Core → Ask → Found → Type 0) → ℕ → Known → Around → RowOp → Covers → List Ask → Writing → Place → List Operand → Writing → Type 0
IsDone = IsDoneWhere Any
