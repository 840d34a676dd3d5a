-- A program that raises an exception and catches it passes the test, its runs keep the rule, and its explicit program means the same.
use Rattle.std.proofs.Common.{◌≡◌, ℕ, zero, suc, true, false, List, [], ◌∷◌, Some, None, refl, codes, pos, subst}
use Rattle.rpy_base.specs.declared.outcome.Outcome.TheVariants.{Returned}
use Rattle.csub_tree.specs.State.{Unset, Ptr, Null, Block, Core}
use Rattle.csub_tree.specs.Statement.{read}
use Rattle.csub_tree.specs.declared.tree.CConst.TheVariants as constant
use Rattle.csub_tree.specs.declared.tree.COperand.{COperand}
use Rattle.csub_tree.specs.declared.tree.COperand.TheVariants.{Var, Const}
use Rattle.ll_code.specs.declared.program.LlStage.TheVariants as stage
use Rattle.ll_code.specs.declared.program.LlType.TheVariants as type
use Rattle.ll_code.specs.declared.program.LlOp.{LlOp}
use Rattle.ll_code.specs.declared.program.LlOp.TheVariants as op
use Rattle.ll_code.specs.declared.program.LlExit.{LlExit}
use Rattle.ll_code.specs.declared.program.LlExit.TheVariants as exit
use Rattle.ll_code.specs.declared.program.LlGraph.{LlGraph}
use Rattle.ll_code.specs.declared.program.LlProgram.{LlProgram}
use Rattle.ll_code.specs.Machine.{start, shapes_from}
use Rattle.ll_code.specs.Meaning.{run, Ran, Unfinished, Ended, Came, Meant, LMeans}
use Rattle.ll_code.specs.Typed.{IsWellTyped, begins_within}
use Rattle.exc_transform.specs.Pieces.{explicit}
use Rattle.ll_points.specs.Agrees.{Agrees}
use Rattle.exc_laws.specs.Ready.{exceptions_of}
use Rattle.exc_laws.proofs.Whole.{means_forth}
use Rattle.exc_ready.specs.Raisable.{is_raisable, IsRaisable}
use Rattle.exc_ready.specs.Classes.{names_classes}
use Rattle.exc_ready.specs.Along.{EachState, NamesClass, HasClass, RaisesClassed}
use Rattle.exc_ready.proofs.Agreeing.{explicit_agrees}
use Rattle.exc_ready.proofs.Whole.{allowed}

abbrev seven : COperand
seven = Const (constant.Word (pos 7))

-- it makes an exception and its class, and ends so
abbrev raiser : LlExit → LlGraph
raiser end = record {
  name = codes "raiser";
  params = [];
  result = type.Signed;
  types = type.Ptr 0 ∷ type.Ptr 1 ∷ [];
  blocks = record { inputs = []; ops = op.New 0 0 0 ∷ op.New 1 1 1 ∷ op.SetField 0 0 0 (Var 1) ∷ []; exit = end } ∷ [];
}

-- it calls that, and gives seven where an exception comes; what catches it is passed this variable
abbrev main : ℕ → LlGraph
main passed = record {
  name = codes "main";
  params = [];
  result = type.Signed;
  types = type.Ptr 0 ∷ type.Signed ∷ [];
  blocks =
      record { inputs = []; ops = op.Set 1 seven ∷ op.Call (Some 1) 1 [] ∷ []; exit = exit.OnRaise 0 (Some (record { to = 1; args = Var passed ∷ [] })) (record { to = 2; args = Var 1 ∷ [] }) }
      ∷ record { inputs = passed ∷ []; ops = []; exit = exit.Return (Some seven) }
      ∷ record { inputs = 1 ∷ []; ops = []; exit = exit.Return (Some (Var 1)) }
      ∷ [];
}

-- struct 0 is an exception with its class, struct 1 a class
abbrev program : ℕ → LlGraph → LlGraph → LlProgram
program entry first second = record {
  stage = stage.Raw;
  structs = record { base = None; fields = type.Ptr 1 ∷ []; items = None } ∷ record { base = None; fields = type.Signed ∷ []; items = None } ∷ [];
  statics = [];
  graphs = first ∷ second ∷ [];
  entry = entry;
}

abbrev pub caught : LlProgram
caught = program 0 (main 0) (raiser (exit.Raise 0))

pub typed : IsWellTyped caught
unfolding begins_within
typed = refl

pub passes : IsRaisable caught
passes = refl

-- an exception may not leave the first graph
leaves_first : is_raisable (program 1 (main 0) (raiser (exit.Raise 0))) ≡ false
leaves_first = refl

-- what catches one may not read what the call would have set
reads_result : is_raisable (program 0 (main 1) (raiser (exit.Raise 0))) ≡ false
reads_result = refl

-- two graphs may not raise what begins with other structs
other_struct : is_raisable (program 0 (main 0) (raiser (exit.Raise 1))) ≡ false
other_struct = refl

-- a block may read nothing but its inputs
reads_more : is_raisable (program 0 (main 0) (raiser (exit.If 1 (record { to = 0; args = [] }) (record { to = 0; args = Var 2 ∷ [] })))) ≡ false
reads_more = refl

-- ---- each state of its run keeps the rule

abbrev RanClassed : Ran → Type 0
RanClassed (Unfinished s text events) = RaisesClassed caught s
RanClassed (Ended ending steps text events) = Unit {0}

abbrev made : Block
made = record { kind = 0; fields = Ptr 1 ∷ []; items = [] }

-- where the exception is raised
abbrev raising : Core
raising = record {
  function = 1;
  block = 0;
  at = 3;
  vars = Ptr 0 ∷ Ptr 1 ∷ [];
  callers = [];
  blocks = Some made ∷ Some (record { kind = 1; fields = Unset ∷ []; items = [] }) ∷ [];
  statics = [];
  exc_type = Null;
  exc_value = Null;
  steps = 0;
}

has_class : HasClass caught raising (Ptr 0)
unfolding shapes_from
has_class = record { there = refl; class = λ block is. let same : made ≡ block = cc in subst (NamesClass caught (exceptions_of caught).kind) same refl }

classed_after : (k : ℕ) → RanClassed (run caught [] k (start caught 0) [] [])
unfolding run shapes_from
classed_after zero = tt
classed_after (suc zero) = λ a e. absurd (cc)
classed_after (suc (suc zero)) = λ a e. absurd (cc)
classed_after (suc (suc (suc zero))) = tt
classed_after (suc (suc (suc (suc zero)))) = λ a e. absurd (cc)
classed_after (suc (suc (suc (suc (suc zero))))) = λ a e. absurd (cc)
classed_after (suc (suc (suc (suc (suc (suc zero)))))) = λ a e. absurd (cc)
classed_after (suc (suc (suc (suc (suc (suc (suc zero))))))) = λ a e. let same : 0 ≡ a = cc in subst (λ a. HasClass caught raising (read raising.vars a)) same has_class
classed_after (suc (suc (suc (suc (suc (suc (suc (suc zero)))))))) = tt
classed_after (suc (suc (suc (suc (suc (suc (suc (suc (suc zero))))))))) = λ a e. absurd (cc)
classed_after (suc (suc (suc (suc (suc (suc (suc (suc (suc (suc zero)))))))))) = tt
classed_after (suc (suc (suc (suc (suc (suc (suc (suc (suc (suc (suc k))))))))))) = tt

pub classed : EachState (RaisesClassed caught) caught [] 0
classed = λ k s text events e. subst RanClassed e (classed_after k)

-- the exception is caught
abbrev pub meant : Meant
meant = record { ending = Came (Returned (pos 7)); output = []; paid = 0; made = (0, 0, 1) ∷ (1, 1, 1) ∷ []; gone = [] }

pub means : LMeans caught [] 0 meant
unfolding run shapes_from
means = (11, refl)

means_explicit : LMeans (explicit caught) [] 0 meant
means_explicit = means_forth caught typed refl [] 0 (allowed caught typed refl passes [] 0 classed) meant means

-- its explicit program by itself
agrees : Agrees (Some (1, 0)) (explicit caught)
agrees = explicit_agrees caught typed refl passes

agrees_so : Agrees (Some (1, 0)) (explicit caught)
agrees_so = refl

-- ---- classes

-- an exception is made, and these are done
abbrev making : List LlOp → LlProgram
making ops = record (program 0 (main 0) (record (raiser (exit.Raise 0)) { blocks = record { inputs = []; ops = op.New 0 0 0 ∷ ops; exit = exit.Raise 0 } ∷ [] })) {
  statics = record { kind = 1; cells = [] } ∷ [];
}

-- its class is named at once
at_once : names_classes (making (op.SetField 0 0 0 (Const (constant.Static 1 0)) ∷ op.New 1 1 1 ∷ [])) ≡ true
unfolding shapes_from
at_once = refl

-- not where another operation stands between
too_late : names_classes (making (op.New 1 1 1 ∷ op.SetField 0 0 0 (Const (constant.Static 1 0)) ∷ [])) ≡ false
unfolding shapes_from
too_late = refl

-- nor where it is taken away
taken_away : names_classes (making (op.SetField 0 0 0 (Const (constant.Static 1 0)) ∷ op.SetField 0 0 0 (Const constant.Null) ∷ [])) ≡ false
unfolding shapes_from
taken_away = refl
