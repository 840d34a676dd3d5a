-- Programs and their files that compute.
use Rattle.std.proofs.Common.{◌≡◌, ℕ, List, [], ◌∷◌, Some, refl, codes, pos, true}
use Rattle.csub_tree.specs.Layout.{shapes_from as c_shapes_from}
use Rattle.csub_tree.specs.Meaning as c
use Rattle.csub_tree.specs.Meaning.{run as c_run}
use Rattle.csub_tree.specs.declared.stuck.StuckReason.TheVariants.{Unset}
use Rattle.csub_tree.specs.declared.tree.COperand.{COperand}
use Rattle.csub_tree.specs.declared.tree.COperand.TheVariants.{Const, Var}
use Rattle.csub_tree.specs.declared.tree.CConst.TheVariants.{Word, Fun}
use Rattle.csub_tree.specs.declared.tree.CStmt.TheVariants as stmt
use Rattle.rpy_base.specs.declared.outcome.Outcome.TheVariants.{Returned}
use Rattle.ll_code.specs.declared.program.LlStage.TheVariants.{Counted}
use Rattle.ll_code.specs.declared.program.LlType.{LlType}
use Rattle.ll_code.specs.declared.program.LlType.TheVariants.{Signed, Fn}
use Rattle.ll_code.specs.declared.program.LlOp.TheVariants as op
use Rattle.ll_code.specs.declared.program.LlExit.TheVariants.{Goto, Return}
use Rattle.ll_code.specs.declared.program.LlBlock.{LlBlock}
use Rattle.ll_code.specs.declared.program.LlGraph.{LlGraph}
use Rattle.ll_code.specs.declared.program.LlProgram.{LlProgram}
use Rattle.ll_code.specs.Typed.{well_typed}
use Rattle.ll_code.specs.Machine.{shapes_from}
use Rattle.ll_code.specs.Meaning as l
use Rattle.ll_code.specs.Meaning.{run as l_run}
use Rattle.genc_lower.specs.Lower.{lowered, is_new, order_of, blocks_code}

abbrev word : ℕ → COperand
word n = Const (Word (pos n))

abbrev with_graphs : ℕ → List LlGraph → LlProgram
with_graphs entry graphs = record { stage = Counted; structs = []; statics = []; graphs = graphs; entry = entry }

abbrev main : List LlType → List LlBlock → LlGraph
main types blocks = record { name = codes "main"; params = []; result = Signed; types = types; blocks = blocks }

-- ---- an input that stands twice takes the last of its values, also where that is its own

abbrev twice : LlProgram
twice = with_graphs 0 (main (Signed ∷ []) (
    record { inputs = []; ops = op.Set 0 (word 3) ∷ []; exit = Goto (record { to = 1; args = word 8 ∷ Var 0 ∷ [] }) }
    ∷ record { inputs = 0 ∷ 0 ∷ []; ops = []; exit = Return (Some (Var 0)) } ∷ []) ∷ [])

twice_typed : well_typed twice ≡ true
twice_typed = refl

twice_means : l.within twice [] 0 9 ≡ Some (record { ending = l.Came (Returned (pos 3)); output = []; paid = 0; made = []; gone = [] })
unfolding l_run shapes_from
twice_means = refl

twice_is : c.within (lowered twice) [] 0 9 ≡ Some (record { ending = c.Came (Returned (pos 3)); output = []; paid = 0; made = []; gone = [] })
unfolding c_run c_shapes_from is_new
twice_is = refl

-- ---- the entry comes last, and the numbers of functions with it: a function is called by its value

abbrev called : LlProgram
called = with_graphs 0 (main (Signed ∷ Fn ∷ []) (
    record { inputs = []; ops = op.Set 1 (Const (Fun 1)) ∷ op.CallFn (Some 0) Signed (Signed ∷ []) 1 (word 5 ∷ []) ∷ []; exit = Return (Some (Var 0)) } ∷ [])
    ∷ record { name = codes "same"; params = 0 ∷ []; result = Signed; types = Signed ∷ []; blocks = record { inputs = []; ops = []; exit = Return (Some (Var 0)) } ∷ [] } ∷ [])

called_typed : well_typed called ≡ true
called_typed = refl

called_code : blocks_code (order_of called) (main (Signed ∷ Fn ∷ []) (
    record { inputs = []; ops = op.Set 1 (Const (Fun 1)) ∷ []; exit = Return (Some (Var 0)) } ∷ []))
    ≡ (stmt.Set 1 (Const (Fun 0)) ∷ stmt.Return (Some (Var 0)) ∷ []) ∷ []
called_code = refl

called_means : l.within called [] 0 9 ≡ Some (record { ending = l.Came (Returned (pos 5)); output = []; paid = 0; made = []; gone = [] })
unfolding l_run shapes_from
called_means = refl

called_is : c.within (lowered called) [] 0 9 ≡ Some (record { ending = c.Came (Returned (pos 5)); output = []; paid = 0; made = []; gone = [] })
unfolding c_run c_shapes_from is_new
called_is = refl

-- ---- a link that passes what is unset to itself: the program is stuck there, and its file goes on

abbrev idle : LlProgram
idle = with_graphs 0 (main (Signed ∷ []) (
    record { inputs = []; ops = []; exit = Goto (record { to = 1; args = Var 0 ∷ [] }) }
    ∷ record { inputs = 0 ∷ []; ops = []; exit = Return (Some (word 1)) } ∷ []) ∷ [])

idle_typed : well_typed idle ≡ true
idle_typed = refl

idle_sticks : l.within idle [] 0 9 ≡ Some (record { ending = l.StuckFor Unset; output = []; paid = 0; made = []; gone = [] })
unfolding l_run shapes_from
idle_sticks = refl

pub idle_goes_on : c.within (lowered idle) [] 0 9 ≡ Some (record { ending = c.Came (Returned (pos 1)); output = []; paid = 0; made = []; gone = [] })
unfolding c_run c_shapes_from is_new
idle_goes_on = refl
