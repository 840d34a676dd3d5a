-- A list of two links, with its counts.
use Rattle.std.proofs.Common.{◌≡◌, true, false, [], ◌∷◌, Some, None, refl, codes}
use Rattle.std.specs.Fmt.{digits}
use Rattle.csub_tree.specs.declared.tree.CConst.TheVariants as constant
use Rattle.csub_tree.specs.declared.tree.COperand.TheVariants.{Var, Const}
use Rattle.ll_code.specs.declared.program.LlStage.TheVariants as stage
use Rattle.ll_code.specs.declared.program.LlType.TheVariants as type
use Rattle.ll_code.specs.declared.program.LlOp.TheVariants as op
use Rattle.ll_code.specs.declared.program.LlExit.TheVariants as exit
use Rattle.ll_code.specs.declared.program.LlGraph.{LlGraph}
use Rattle.ll_code.specs.declared.program.LlProgram.{LlProgram}
use Rattle.ll_code.specs.Typed.{IsWellTyped, begins_within}
use Rattle.refcount_transform.specs.Plan.{plan_of, is_counted, counts_at}
use Rattle.refcount_transform.specs.Made.{call, null, word}
use Rattle.refcount_transform.specs.Changes.{around_of, ops_of}
use Rattle.refcount_transform.specs.Counted.{counted, structs_of}
use Rattle.refcount_typed.specs.Heads.{head, made_heads}
use Rattle.refcount_typed.specs.Leads.{LeadsToRoots}
use Rattle.refcount_typed.specs.Numbered.{HasNumbers}
use Rattle.refcount_typed.proofs.Whole.{counted_typed}

-- struct 0 is a link: a number, and the next link; struct 1 is made by nothing
abbrev main : LlGraph
main = record {
  name = codes "main";
  params = [];
  result = type.Signed;
  types = type.Ptr 0 ∷ type.Ptr 0 ∷ type.Ptr 0 ∷ type.Signed ∷ [];
  blocks = record {
    inputs = [];
    ops = op.New 0 0 0 ∷ op.New 1 0 0 ∷ op.SetField 0 0 1 (Var 1) ∷ op.GetField 2 0 0 1 ∷ op.GetField 3 0 2 0 ∷ [];
    exit = exit.Return (Some (Var 3));
  } ∷ [];
}

abbrev links : LlProgram
links = record {
  stage = stage.Explicit;
  structs = record { base = None; fields = type.Signed ∷ type.Ptr 0 ∷ []; items = None } ∷ record { base = None; fields = type.Char ∷ []; items = None } ∷ [];
  statics = [];
  graphs = main ∷ [];
  entry = 0;
}

typed : IsWellTyped links
unfolding begins_within
typed = refl

rooted : LeadsToRoots links
rooted = refl

numbered : HasNumbers links
numbered = refl

-- only struct 0 is counted, and begins with the count and the graph that releases
counted_ones : is_counted (plan_of links) 0 ≡ true
counted_ones = refl

others : is_counted (plan_of links) 1 ≡ false
others = refl

wide : structs_of (plan_of links) ≡ record { base = None; fields = type.Signed ∷ type.Fn ∷ type.Signed ∷ type.Ptr 0 ∷ []; items = None } ∷ record { base = None; fields = type.Char ∷ []; items = None } ∷ []
wide = refl

-- its graphs stand behind the program's own: release, the one for the field, count and drop
heads : made_heads (plan_of links) ≡ head (codes "release_s0") 1 ∷ head (codes "put_s0_3") 2 ∷ head (codes "count_s0") 1 ∷ head (codes "drop_s0") 1 ∷ []
unfolding digits
heads = refl

numbers : counts_at (plan_of links) 0 ≡ record { release = 1; puts = 2; items = 3; up = 3; down = 4 }
numbers = refl

-- each link has one reference when it is new; what is read takes one more, and each is dropped behind where it is last read
ops : ops_of (around_of (plan_of links) main.types) (op.New 0 0 0 ∷ op.SetField 0 0 1 (Const constant.Null) ∷ op.GetField 2 0 0 1 ∷ op.GetField 3 0 2 0 ∷ []) (exit.Return (Some (Var 3)))
    ≡ op.New 0 0 0 ∷ op.SetField 0 0 0 (word 1) ∷ op.SetField 0 0 1 (Const (constant.Fun 1)) ∷ op.SetField 0 0 3 null ∷ call 2 (Var 0 ∷ Const constant.Null ∷ []) ∷ op.GetField 2 0 0 3 ∷ call 3 (Var 2 ∷ []) ∷ call 4 (Var 0 ∷ []) ∷ op.GetField 3 0 2 2 ∷ call 4 (Var 2 ∷ []) ∷ []
ops = refl

still_typed : IsWellTyped (counted links)
still_typed = counted_typed links typed refl rooted numbered
