-- A program that makes a list of three links in a loop, each by a call that returns it; and tests that arrays pass, or do not.
use Rattle.std.proofs.Common.{◌≡◌, pos, true, false, List, [], ◌∷◌, Some, None, refl, codes}
use Rattle.std.specs.Int.{int_wrap}
use Rattle.rpy_base.specs.declared.outcome.Outcome.TheVariants.{Returned}
use Rattle.csub_tree.specs.declared.tree.CBinary.TheVariants as binary
use Rattle.csub_tree.specs.declared.tree.CConst.TheVariants as constant
use Rattle.csub_tree.specs.declared.tree.COperand.TheVariants.{Var, Const}
use Rattle.ll_code.specs.Machine.{shapes_from}
use Rattle.ll_code.specs.Meaning.{Meant, LMeans, Came, run}
use Rattle.ll_code.specs.Typed.{IsWellTyped, begins_within}
use Rattle.ll_code.specs.declared.program.LlStage.TheVariants as stage
use Rattle.ll_code.specs.declared.program.LlType.TheVariants as type
use Rattle.ll_code.specs.declared.program.LlOp.{LlOp}
use Rattle.ll_code.specs.declared.program.LlOp.TheVariants as op
use Rattle.ll_code.specs.declared.program.LlExit.TheVariants as exit
use Rattle.ll_code.specs.declared.program.LlBlock.{LlBlock}
use Rattle.ll_code.specs.declared.program.LlGraph.{LlGraph}
use Rattle.ll_code.specs.declared.program.LlProgram.{LlProgram}
use Rattle.ll_held.specs.Quiet.{ReadsInputs}
use Rattle.ll_points.specs.Agrees.{Agrees, slots_of}
use Rattle.refcount_transform.specs.Counted.{counted}
use Rattle.refcount_laws.specs.Means.{SameMeaning}
use Rattle.refcount_typed.specs.Leads.{LeadsToRoots}
use Rattle.refcount_typed.specs.Numbered.{HasNumbers}
use Rattle.refcount_checks.specs.Countable.{is_countable}
use Rattle.refcount_ready.specs.Programs.{CanBeCounted, RunsSmall}
use Rattle.refcount_ready.proofs.Inputs.{known_reads}
use Rattle.refcount_ready.proofs.Small.{fine_within, small_run}
use Rattle.refcount_ready.proofs.Composed.{means_the_same}

abbrev first : LlBlock
first = record { inputs = []; ops = op.Set 0 (Const (constant.Word (pos 0))) ∷ op.Set 1 (Const constant.Null) ∷ []; exit = exit.Goto (record { to = 1; args = Var 0 ∷ Var 1 ∷ [] }) }

abbrev head : LlBlock
head = record {
  inputs = 0 ∷ 1 ∷ [];
  ops = op.Binary 2 binary.Lt (Var 0) (Const (constant.Word (pos 3))) ∷ [];
  exit = exit.If 2 (record { to = 2; args = Var 0 ∷ Var 1 ∷ [] }) (record { to = 3; args = Var 0 ∷ [] });
}

abbrev body : LlBlock
body = record { inputs = 0 ∷ 1 ∷ []; ops = op.Call (Some 3) 1 (Var 1 ∷ []) ∷ op.Binary 0 binary.Add (Var 0) (Const (constant.Word (pos 1))) ∷ []; exit = exit.Goto (record { to = 1; args = Var 0 ∷ Var 3 ∷ [] }) }

abbrev last : LlBlock
last = record { inputs = 0 ∷ []; ops = []; exit = exit.Return (Some (Var 0)) }

abbrev main : LlGraph
main = record { name = codes "main"; params = []; result = type.Signed; types = type.Signed ∷ type.Ptr 0 ∷ type.Bool ∷ type.Ptr 0 ∷ []; blocks = first ∷ head ∷ body ∷ last ∷ [] }

-- a new link before the others
abbrev pushed : LlBlock
pushed = record { inputs = 0 ∷ []; ops = op.New 1 0 0 ∷ op.SetField 0 1 0 (Var 0) ∷ op.SetField 0 1 1 (Const (constant.Word (pos 7))) ∷ []; exit = exit.Return (Some (Var 1)) }

abbrev push : LlGraph
push = record { name = codes "push"; params = 0 ∷ []; result = type.Ptr 0; types = type.Ptr 0 ∷ type.Ptr 0 ∷ []; blocks = pushed ∷ [] }

abbrev links : LlProgram
links = record { stage = stage.Explicit; structs = record { base = None; fields = type.Ptr 0 ∷ type.Signed ∷ []; items = None } ∷ []; statics = []; graphs = main ∷ push ∷ []; entry = 0 }

typed : IsWellTyped links
unfolding begins_within
typed = refl

agrees : Agrees (slots_of links) links
agrees = refl

leads : LeadsToRoots links
leads = refl

numbers : HasNumbers links
numbers = refl

countable : is_countable links ≡ true
countable = refl

reads_inputs : ReadsInputs links
reads_inputs = known_reads links refl

-- so its references can be counted
can : CanBeCounted links
can = record { typed = typed; agrees = agrees; leads = leads; numbers = numbers; inputs = reads_inputs; countable = countable }

-- its run ends within sixty steps, and each of its states is small
small : RunsSmall links [] 100
unfolding fine_within shapes_from int_wrap
small = small_run links [] 60 100 refl

abbrev meant : Meant
meant = record { ending = Came (Returned (pos 3)); output = []; paid = 0; made = (0, 0, 2) ∷ (1, 0, 2) ∷ (2, 0, 2) ∷ []; gone = [] }

means : LMeans links [] 100 meant
unfolding run shapes_from int_wrap
means = (60, refl)

-- and its counted program means the same
same : SameMeaning links [] 100 meant
same = means_the_same links can [] 100 small meant means tt

-- as that computes itself: three blocks, each two cells larger, and all three gone
counted_means : LMeans (counted links) [] 100 (record { ending = Came (Returned (pos 3)); output = []; paid = 0; made = (0, 0, 4) ∷ (1, 0, 4) ∷ (2, 0, 4) ∷ []; gone = 2 ∷ 1 ∷ 0 ∷ [] })
unfolding run shapes_from int_wrap
counted_means = (400, refl)

-- ---- arrays

-- an array of links: its number, and so many items; it is made, its number is set, and one item is
abbrev array_ops : List LlOp
array_ops =
    op.Set 0 (Const (constant.Word (pos 2))) ∷ op.NewArray 1 1 1 (Var 0) ∷ op.SetField 1 1 0 (Var 0) ∷ op.New 2 0 0 ∷ op.SetField 0 2 0 (Const constant.Null) ∷ op.SetItem 1 1 (Const (constant.Word (pos 0))) (Var 2) ∷ []

abbrev with_ops : List LlOp → LlProgram
with_ops ops = record {
  stage = stage.Explicit;
  structs = record { base = None; fields = type.Ptr 0 ∷ []; items = None } ∷ record { base = None; fields = type.Signed ∷ []; items = Some (type.Ptr 0) } ∷ [];
  statics = [];
  graphs = record { name = codes "main"; params = []; result = type.Signed; types = type.Signed ∷ type.Ptr 1 ∷ type.Ptr 0 ∷ []; blocks = record { inputs = []; ops = ops; exit = exit.Return (Some (Var 0)) } ∷ [] } ∷ [];
  entry = 0;
}

arrays : is_countable (with_ops array_ops) ≡ true
arrays = refl

arrays_can : CanBeCounted (with_ops array_ops)
unfolding begins_within
arrays_can = record { typed = refl; agrees = refl; leads = refl; numbers = refl; inputs = known_reads (with_ops array_ops) refl; countable = refl }

arrays_small : RunsSmall (with_ops array_ops) [] 100
unfolding fine_within shapes_from
arrays_small = small_run (with_ops array_ops) [] 20 100 refl

-- not where another operation stands before the number is set
late : is_countable (with_ops (op.Set 0 (Const (constant.Word (pos 2))) ∷ op.NewArray 1 1 1 (Var 0) ∷ op.New 2 0 0 ∷ op.SetField 1 1 0 (Var 0) ∷ [])) ≡ false
late = refl

-- nor where it is set once more
again : is_countable (with_ops (op.New 2 0 0 ∷ op.Set 0 (Const (constant.Word (pos 2))) ∷ op.NewArray 1 1 1 (Var 0) ∷ op.SetField 1 1 0 (Var 0) ∷ op.SetField 1 1 0 (Var 0) ∷ [])) ≡ false
again = refl

-- nor where a reference that is read is set
moved : is_countable (with_ops (op.New 2 0 0 ∷ op.SetField 0 2 0 (Const constant.Null) ∷ op.GetField 2 0 2 0 ∷ op.Set 0 (Const (constant.Word (pos 0))) ∷ [])) ≡ false
moved = refl
