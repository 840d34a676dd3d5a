-- Runs that compute.
use Rattle.std.proofs.Common.{◌≡◌, ℕ, List, [], ◌∷◌, Some, None, refl, codes, pos, true}
use Rattle.csub_tree.specs.declared.stuck.StuckReason.TheVariants.{BadFree}
use Rattle.csub_tree.specs.declared.tree.CBinary.TheVariants.{Lt}
use Rattle.csub_tree.specs.declared.tree.COperand.{COperand}
use Rattle.csub_tree.specs.declared.tree.COperand.TheVariants.{Const, Var}
use Rattle.csub_tree.specs.declared.tree.CConst.TheVariants.{Word}
use Rattle.rpy_base.specs.declared.outcome.Outcome.TheVariants.{Returned, Running}
use Rattle.ll_code.specs.declared.program.LlStage.{LlStage}
use Rattle.ll_code.specs.declared.program.LlStage.TheVariants.{Raw, Counted}
use Rattle.ll_code.specs.declared.program.LlType.TheVariants.{Signed, Bool as Flag, Void, Ptr}
use Rattle.ll_code.specs.declared.program.LlOp.{LlOp}
use Rattle.ll_code.specs.declared.program.LlOp.TheVariants as op
use Rattle.ll_code.specs.declared.program.LlExit.TheVariants.{Goto, If, OnRaise, Return}
use Rattle.ll_code.specs.declared.program.LlGraph.{LlGraph}
use Rattle.ll_code.specs.declared.program.LlProgram.{LlProgram}
use Rattle.ll_code.specs.Typed.{well_typed, begins_within}
use Rattle.ll_code.specs.Machine.{shapes_from}
use Rattle.ll_code.specs.Meaning.{run, within, Came, StuckFor, RunsOn}

abbrev graphs_at : LlStage → List LlGraph → LlProgram
graphs_at stage graphs = record { stage = stage; structs = record { base = None; fields = Signed ∷ []; items = None } ∷ []; statics = []; graphs = graphs; entry = 0 }

abbrev word : ℕ → COperand
word n = Const (Word (pos n))

-- a graph of one block with a pointer to a struct of one word and a word
abbrev main : List LlOp → LlGraph
main ops = record { name = codes "main"; params = []; result = Signed; types = Ptr 0 ∷ Signed ∷ []; blocks = record { inputs = []; ops = ops; exit = Return (Some (word 0)) } ∷ [] }

returns : within (graphs_at Raw (main (op.Put (word 65) ∷ op.Step (word 2) ∷ []) ∷ [])) [] 5 9
    ≡ Some (record { ending = Came (Returned (pos 0)); output = 65 ∷ []; paid = 2; made = []; gone = [] })
unfolding run shapes_from
returns = refl

unpaid : within (graphs_at Raw (main (op.Step (word 2) ∷ op.Step (word 2) ∷ []) ∷ [])) [] 3 9
    ≡ Some (record { ending = Came Running; output = []; paid = 2; made = []; gone = [] })
unfolding run shapes_from
unpaid = refl

freed_twice : within (graphs_at Counted (main (op.New 0 0 0 ∷ op.Free 0 ∷ op.Free 0 ∷ []) ∷ [])) [] 0 9
    ≡ Some (record { ending = StuckFor BadFree; output = []; paid = 0; made = (0, 0, 1) ∷ []; gone = 0 ∷ [] })
unfolding run shapes_from
freed_twice = refl

-- the inputs of a block take their values all at once: two words change places
abbrev swapped : LlProgram
swapped = graphs_at Raw (record {
  name = codes "main";
  params = [];
  result = Signed;
  types = Signed ∷ Signed ∷ Flag ∷ [];
  blocks =
      record { inputs = []; ops = []; exit = Goto (record { to = 1; args = word 5 ∷ word 7 ∷ [] }) }
      ∷ record {
        inputs = 0 ∷ 1 ∷ [];
        ops = op.Binary 2 Lt (Var 0) (Var 1) ∷ [];
        exit = If 2 (record { to = 1; args = Var 1 ∷ Var 0 ∷ [] }) (record { to = 2; args = [] });
      }
      ∷ record { inputs = []; ops = []; exit = Return (Some (Var 1)) } ∷ [];
} ∷ [])

swapped_typed : well_typed swapped ≡ true
swapped_typed = refl

change_places : within swapped [] 0 40 ≡ Some (record { ending = Came (Returned (pos 5)); output = []; paid = 0; made = []; gone = [] })
unfolding run shapes_from
change_places = refl

-- an exception leaves the call that raises it, and is caught by the exit behind the call
abbrev caught : LlProgram
caught = graphs_at Raw (record {
  name = codes "main";
  params = [];
  result = Signed;
  types = Ptr 0 ∷ Signed ∷ [];
  blocks =
      record { inputs = []; ops = op.Call None 1 [] ∷ []; exit = OnRaise 0 (Some (record { to = 1; args = [] })) (record { to = 2; args = [] }) }
      ∷ record { inputs = []; ops = op.GetField 1 0 0 0 ∷ []; exit = Return (Some (Var 1)) }
      ∷ record { inputs = []; ops = []; exit = Return (Some (word 1)) } ∷ [];
}
    ∷ record {
      name = codes "raise";
      params = [];
      result = Void;
      types = Ptr 0 ∷ [];
      blocks =
          record { inputs = []; ops = op.New 0 0 0 ∷ op.SetField 0 0 0 (word 7) ∷ op.Raise 0 ∷ []; exit = Return None } ∷ [];
    } ∷ [])

caught_typed : well_typed caught ≡ true
unfolding begins_within
caught_typed = refl

caught_there : within caught [] 0 20 ≡ Some (record { ending = Came (Returned (pos 7)); output = []; paid = 0; made = (0, 0, 1) ∷ []; gone = [] })
unfolding run shapes_from
caught_there = refl

goes_on : RunsOn 100 (graphs_at Raw (record {
  name = codes "main";
  params = [];
  result = Signed;
  types = [];
  blocks =
      record { inputs = []; ops = []; exit = Goto (record { to = 0; args = [] }) } ∷ [];
} ∷ [])) [] 0
unfolding run shapes_from
goes_on = refl
