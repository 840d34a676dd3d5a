-- An object with its vtable goes through the exception slots.
use Rattle.std.proofs.Common.{◌≡◌, true, false, List, [], ◌∷◌, Some, None, refl, codes, pos, ap, ◌∙◌}
use Rattle.csub_tree.specs.State.{Unset, Ptr, Static, Word, Block, Made}
use Rattle.csub_tree.specs.Layout.{begins_with}
use Rattle.csub_tree.specs.declared.tree.CConst.TheVariants as constant
use Rattle.csub_tree.specs.declared.tree.COperand.TheVariants.{Var, Const}
use Rattle.ll_code.specs.declared.program.LlStage.TheVariants as stage
use Rattle.ll_code.specs.declared.program.LlType.TheVariants as type
use Rattle.ll_code.specs.declared.program.LlOp.{LlOp}
use Rattle.ll_code.specs.declared.program.LlOp.TheVariants as op
use Rattle.ll_code.specs.declared.program.LlExit.TheVariants as exit
use Rattle.ll_code.specs.declared.program.LlGraph.{LlGraph}
use Rattle.ll_code.specs.declared.program.LlProgram.{LlProgram}
use Rattle.ll_code.specs.State.{At}
use Rattle.ll_code.specs.Machine.{start, shapes_from}
use Rattle.ll_code.specs.Meaning.{run, Unfinished}
use Rattle.ll_code.specs.Typed.{IsWellTyped, begins_within}
use Rattle.ll_points.specs.Agrees.{Agrees, graphs_agree, slots_of}
use Rattle.ll_points.specs.Points.{Leads, RanLeads}
use Rattle.ll_points.proofs.Runs.{whole_run_leads}

-- struct 0 is an object with its vtable, struct 1 a vtable, struct 2 an object with a word besides
abbrev main : List LlOp → LlGraph
main ops = record { name = codes "main"; params = []; result = type.Signed; types = type.Ptr 0 ∷ type.Ptr 1 ∷ []; blocks = record { inputs = []; ops = ops; exit = exit.Return (Some (Const (constant.Word (pos 0)))) } ∷ [] }

abbrev objects : List LlOp → LlProgram
objects ops = record {
  stage = stage.Explicit;
  structs = record { base = None; fields = type.Ptr 1 ∷ []; items = None } ∷ record { base = None; fields = type.Signed ∷ []; items = None } ∷ record { base = Some 0; fields = type.Signed ∷ []; items = None } ∷ [];
  statics = [];
  graphs = main ops ∷ [];
  entry = 0;
}

abbrev thrown : List LlOp
thrown = op.New 0 0 2 ∷ op.New 1 1 1 ∷ op.SetField 0 0 0 (Var 1) ∷ op.ExcSet 1 0 ∷ op.ExcType 1 1 ∷ op.ExcValue 0 0 ∷ op.ExcClear ∷ []

typed : IsWellTyped (objects thrown)
unfolding begins_within
typed = refl

found : slots_of (objects thrown) ≡ Some (1, 0)
found = refl

agree : Agrees (Some (1, 0)) (objects thrown)
agree = refl

-- an object is taken for a vtable
astray : graphs_agree (Some (1, 0)) (objects (op.ExcSet 1 0 ∷ op.ExcType 0 0 ∷ [])).graphs ≡ false
astray = refl

-- nothing sets the slots, so they are read as NULL, whatever the struct
never_set : Agrees None (objects (op.ExcType 0 0 ∷ op.ExcType 1 1 ∷ []))
never_set = refl

abbrev made : Block
made = record { kind = 2; fields = Static 0 ∷ Word (pos 7) ∷ []; items = [] }

abbrev vtable : Block
vtable = record { kind = 1; fields = Word (pos 5) ∷ []; items = [] }

-- the block begins with an object, and with no vtable
leads : Leads (objects thrown) (Some made ∷ []) (vtable ∷ []) 0 (Ptr 0)
unfolding shapes_from
leads = (made, refl, refl)

leads_not : Leads (objects thrown) (Some made ∷ []) (vtable ∷ []) 1 (Ptr 0) → ⊥
unfolding shapes_from
leads_not (block, is, h) = let e : made ≡ block = cc in let f : begins_with (shapes_from [] (objects thrown).structs) 2 1 ≡ true = ap (λ b. begins_with (shapes_from [] (objects thrown).structs) b.kind 1) e ∙ h in absurd (cc)

-- nor does a block that is gone
leads_nowhere : Leads (objects thrown) (None ∷ []) (vtable ∷ []) 0 (Ptr 0) → ⊥
leads_nowhere (block, is, h) = cc

-- by the slots the two come back to variables of their types
back : run (objects thrown) [] 7 (start (objects thrown) 0) [] []
    ≡ Unfinished (At (op.ExcClear ∷ []) (exit.Return (Some (Const (constant.Word (pos 0))))) [] (record {
      function = 0;
      block = 0;
      at = 6;
      vars = Ptr 0 ∷ Ptr 1 ∷ [];
      callers = [];
      blocks = Some (record { kind = 2; fields = Ptr 1 ∷ Unset ∷ []; items = [] }) ∷ Some (record { kind = 1; fields = Unset ∷ []; items = [] }) ∷ [];
      statics = [];
      exc_type = Ptr 1;
      exc_value = Ptr 0;
      steps = 0;
    })) [] (Made 0 2 2 ∷ Made 1 1 1 ∷ [])
unfolding run shapes_from
back = refl

led : RanLeads (objects thrown) (Some (1, 0)) (run (objects thrown) [] 7 (start (objects thrown) 0) [] [])
led = whole_run_leads (objects thrown) (Some (1, 0)) typed agree [] 0 7
