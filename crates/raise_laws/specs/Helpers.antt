-- What the call of a helper that raises leads to, by what the operation answers.
use Rattle.std.specs.Prelude.{◌≡◌, ◌<◌, ◌^◌, ℕ, true, List, [], slice_get, Option, Some, None}
use Rattle.rpy_base.specs.declared.outcome.FailName.{FailName}
use Rattle.csub_tree.specs.State.{Value, Core}
use Rattle.ll_code.specs.State.{Frame, State, Calling, Throwing}
use Rattle.ll_code.specs.declared.program.LlType.{LlType}
use Rattle.ll_code.specs.declared.program.LlProgram.{LlProgram}
use Rattle.ll_build.specs.Needs.{uses, names_texts}
use Rattle.ll_build.specs.declared.needs.Helper.{Helper}
use Rattle.ll_build.specs.declared.needs.Numbers.{Numbers}
use Rattle.ll_build.specs.declared.needs.Shared.{Shared}
use Rattle.ll_helpers.specs.Helpers.{shared_graph}
use Rattle.ll_leads.specs.Memory.{forgotten}
use Rattle.ll_leads.specs.Path.{Leads}
use Rattle.ll_texts.specs.Follows as plain
use Rattle.ll_texts.specs.Follows.{FailedAs, Gave, Lacked}
use Rattle.ll_texts.specs.Texts.{HasText, HasStatics}
use Rattle.ll_strings.specs.Laws.{HasHelper, number_in}
use Rattle.rpy_meaning.specs.declared.row.Covers.{Covers}
use Rattle.rpy_meaning.specs.World.{World, Answer, Gives, Throws, Fails, Lacks, Enters, Bad}
use Rattle.rtyper_data.specs.Finding.{failures_of}
use Rattle.lower_laws.specs.Asked.{HasRaising}
use Rattle.raise_laws.specs.Raising.{class_named}

-- The helper has this number, and raises those of its failures that are covered; the graphs that it uses have theirs, and fail nowhere; struct 0 is
-- that of strings; the static strings are there, where they are named; and fewer steps are left than the cost for which none suffice.
pub record HasRaisingHelper (p : LlProgram) (numbers : Numbers) (raised : ℕ → Value) (h : Helper) (covers : Covers) (f : ℕ) (core : Core) : Type 0 where
  pub raising : HasRaising p numbers raised h covers f
  pub shared : (g : Shared) → uses g h ≡ true → slice_get p.graphs (number_in numbers g) ≡ Some (shared_graph numbers g)
  pub text : HasText p
  pub statics : names_texts h ≡ true → HasStatics p numbers.table core.statics
  pub small : core.steps < 2 ^ 62

-- ---- answers

abbrev pub thrown_or : FailName → World → Option ℕ → Answer
thrown_or name w None = Fails name
thrown_or name w (Some class) = Throws class w

-- the same answer, where the exceptions of failures that are covered are thrown
abbrev pub with_raised : Covers → World → Answer → Answer
with_raised covers w (Fails name) = thrown_or name w (class_named name covers)
with_raised covers w other = other

-- ---- calls

-- the exception comes out of the call, with nothing made, paid or put
pub record Threw (p : LlProgram) (args : List (List ℕ)) (s : State) (x : Value) (frames : List Frame) (core : Core) (w w' : World) : Type 0 where
  pub end : Core
  pub leads : Leads p args 0 s [] (Throwing x frames end)
  pub memory : forgotten end ≡ forgotten core
  pub same : w' ≡ w

-- `raised` gives what stands for the one instance of a builtin exception class
abbrev pub Follows : LlProgram → List (List ℕ) → State → List Frame → Core → (ℕ → Value) → LlType → World → Answer → Type 0
Follows p args s frames core raised t w (Gives v w') = Gave p args s frames core t w v w'
Follows p args s frames core raised t w (Throws exception w') = Threw p args s (raised exception) frames core w w'
Follows p args s frames core raised t w (Fails name) = FailedAs p args s name
Follows p args s frames core raised t w Lacks = Lacked p args s core
Follows p args s frames core raised t w (Enters function values instead w') = ⊥
Follows p args s frames core raised t w Bad = Unit {0}

-- Where the helper that fails does what is answered, in every program that has it, the one that raises does so too, but raises what is covered.
abbrev pub RaisingHelpersFollow : Type 0
RaisingHelpersFollow = (p : LlProgram) (numbers : Numbers) (raised : ℕ → Value) (h : Helper) (c : Covers) (f : ℕ) (core : Core) → HasRaisingHelper p numbers raised h (failures_of h c) f core
    → (args : List (List ℕ)) (values : List Value) (frames : List Frame) (t : LlType) (w : World) (answer : Answer)
    → ((q : LlProgram) (waits : List Frame) → HasHelper q numbers h f core → plain.Follows q args (Calling f values waits core) waits core t w answer)
    → Follows p args (Calling f values frames core) frames core raised t w (with_raised (failures_of h c) w answer)
