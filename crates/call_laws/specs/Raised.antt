-- An exception that is raised here: its low-level operations lead to a `raise` of what stands for it.
use Rattle.std.specs.Prelude.{◌≡◌, ◌<◌, ◌≤◌, ◌⊎◌, ℕ, ◌+◌, Bool, List, [], ◌∷◌, ◌++◌, length, slice_get, Some, true}
use Rattle.csub_tree.specs.State.{Value, Core}
use Rattle.csub_tree.specs.Statement.{read}
use Rattle.ll_code.specs.State.{Frame, State, At}
use Rattle.ll_code.specs.declared.program.LlType.{LlType}
use Rattle.ll_code.specs.declared.program.LlType.TheVariants as type
use Rattle.ll_code.specs.declared.program.LlOp.{LlOp}
use Rattle.ll_code.specs.declared.program.LlOp.TheVariants as op
use Rattle.ll_code.specs.declared.program.LlExit.{LlExit}
use Rattle.ll_code.specs.declared.program.LlProgram.{LlProgram}
use Rattle.ll_build.specs.declared.needs.Numbers.{Numbers}
use Rattle.ll_leads.specs.Memory.{forgotten}
use Rattle.ll_leads.specs.Path.{Leads}
use Rattle.ll_texts.specs.Follows.{FailedAs}
use Rattle.rpy_meaning.specs.declared.row.Covers.{Covers}
use Rattle.rpy_meaning.specs.declared.row.RowOp.TheVariants as row
use Rattle.rpy_meaning.specs.Classes.{is_below}
use Rattle.rpy_meaning.specs.Tree.{Class}
use Rattle.rpy_meaning.specs.Operations.{op as meant_op, builtin_classes}
use Rattle.rpy_meaning.specs.World.{World as MeantWorld, Answer, Gives, Throws, Fails, Lacks, Enters, Bad}
use Rattle.rpy_tree.specs.Value.{Value as Meant}
use Rattle.rtyper_layout.specs.declared.classes.Laid.{Laid}
use Rattle.rtyper_data.specs.Seen.{Operand, Place, type_at, Writing}
use Rattle.rtyper_class.specs.Lowering.{lower_class_op}
use Rattle.rtyper_class.specs.Seen.{World}
use Rattle.lower_laws.specs.Asked.{Ask, all_asked}
use Rattle.lower_laws.specs.Done.{Threw}
use Rattle.lower_laws.specs.Values.{AllBelow}
use Rattle.object_laws.specs.Done.{HasLayout, AllAsked}
use Rattle.object_laws.specs.Ghost.{Ghost, InstanceOf}
use Rattle.object_laws.specs.Known.{Known}
use Rattle.object_laws.specs.Represents.{Represents}
use Rattle.object_laws.specs.Values.{Given}
use Rattle.class_laws.specs.Asked.{Has}
use Rattle.class_laws.specs.Instances.{IsInstance, present_asks}

-- What stands for the exception, an instance of `Exception` or of a class below it, is in a variable, which is raised next, and nothing comes behind it here. Memory is as it was, and of the
-- first so many variables none is changed.
pub record Raised (classes : List Class) (p : LlProgram) (args : List (List ℕ)) (s : State) (rest : List LlOp) (e : LlExit) (frames : List Frame) (core : Core) (g : Ghost) (exception below : ℕ) (w w' : MeantWorld) : Type 0 where
  pub variable : ℕ
  pub end : Core
  pub leads : Leads p args 0 s [] (At (op.Raise variable ∷ rest) e frames end)
  pub class : ℕ
  pub home : slice_get g.homes exception ≡ Some (record { sort = InstanceOf class; head = read end.vars variable })
  pub above : is_below classes class 0 ≡ true
  pub memory : forgotten end ≡ forgotten core
  pub others : (n : ℕ) → n < below → read end.vars n ≡ read core.vars n
  pub room : length end.vars ≡ length core.vars
  pub function : end.function ≡ core.function
  pub block : end.block ≡ core.block
  pub same : w' ≡ w

-- what `raise` answers: an exception is raised here, or a builtin one by what was asked whether it is there; or it fails
abbrev pub Raises : List Class → LlProgram → List (List ℕ) → State → List LlOp → LlExit → List Frame → Core → Ghost → (ℕ → Value) → ℕ → MeantWorld → Answer → Type 0
Raises classes p args s rest e frames core g raised below w (Throws exception w') = Raised classes p args s rest e frames core g exception below w w' ⊎ ((exception < builtin_classes) × Threw p args s rest e frames core (raised exception) below w w')
Raises classes p args s rest e frames core g raised below w (Fails name) = FailedAs p args s name
Raises classes p args s rest e frames core g raised below w (Gives v w') = ⊥
Raises classes p args s rest e frames core g raised below w Lacks = ⊥
Raises classes p args s rest e frames core g raised below w (Enters f values instead w') = ⊥
Raises classes p args s rest e frames core g raised below w Bad = Unit {0}

-- what is written for a `raise` of the operand asks whether it is there, where it may be missing, and raises it
pub record IsRaised (world : World) (known : Known) (covers : Covers) (asks : List Ask) (place : Place) (a : Operand) (w : Writing) : Type 0 where
  pub ops : List LlOp
  pub new : List LlType
  pub asked : (lower_class_op world row.Raise place (a ∷ []) w).found ≡ all_asked asks w.found
  pub written : (lower_class_op world row.Raise place (a ∷ []) w).body.ops ≡ w.body.ops ++ ops
  pub types : (lower_class_op world row.Raise place (a ∷ []) w).body.types ≡ w.body.types ++ new
  pub follows : (p : LlProgram) (numbers : Numbers) (raised : ℕ → Value) (arguments : List (List ℕ)) (rest : List LlOp) (e : LlExit) (frames : List Frame) (core : Core) (g : Ghost) (meant : MeantWorld) (vs : List Meant)
      → HasLayout p world.around.layout → AllAsked (Has world p numbers raised core) asks w.found → Represents world.around.layout known g meant.heap meant.left core.blocks core.statics
      → length w.body.types + length new ≤ length core.vars → AllBelow (length w.body.types) (a ∷ []) → Given known world.around g core (a ∷ []) vs
      → Raises known.program.classes p arguments (At (ops ++ rest) e frames core) rest e frames core g raised (length w.body.types) meant (meant_op known.program covers row.Raise vs meant)

-- an instance is raised, where nothing is known of a result; `None` fails, or raises
abbrev pub ExceptionsAreRaised : Type 0
ExceptionsAreRaised = (world : World) (known : Known) (class : ℕ) (r : Bool) (l : Laid) (place : Place) (a : Operand) (w : Writing) → IsInstance world a.element class r l → type_at world.around place ≡ type.Void
    → IsRaised world known w.found.covered (present_asks world a r w.found.covered) place a w
