-- Runs that compute.
use Rattle.std.proofs.Common.{◌≡◌, List, [], ◌∷◌, Some, None, refl, codes, pos}
use Rattle.csub_tree.specs.Layout.{shapes_from}
use Rattle.csub_tree.specs.Meaning.{run, within, Came, StuckAt, RunsOn}
use Rattle.rpy_base.specs.declared.outcome.Outcome.TheVariants.{Returned, Running}
use Rattle.csub_tree.specs.declared.stuck.StuckReason.TheVariants.{BadFree, Gone, Unset}
use Rattle.csub_tree.specs.declared.tree.CFile.{CFile}
use Rattle.csub_tree.specs.declared.tree.CType.TheVariants.{Signed, Ptr}
use Rattle.csub_tree.specs.declared.tree.CStmt.{CStmt}
use Rattle.csub_tree.specs.declared.tree.CStmt.TheVariants.{New, Free, Put, Return, Goto, GetField, Step, Set, SetField, Arg}
use Rattle.csub_tree.specs.declared.tree.COperand.TheVariants.{Const, Var}
use Rattle.csub_tree.specs.declared.tree.CConst.TheVariants.{Word, Null}

-- a function of one block, with a variable that points to a struct of one word, and a word
abbrev one_block : List CStmt → CFile
one_block stmts = record {
  structs = record { base = None; fields = Signed ∷ []; items = None } ∷ [];
  prototypes = record { result = Some Signed; params = [] } ∷ [];
  statics = [];
  functions = record { name = codes "main"; result = Some Signed; params = []; locals = Ptr 0 ∷ Signed ∷ []; blocks = stmts ∷ [] } ∷ [];
}

abbrev zero_back : CStmt
zero_back = Return (Some (Const (Word (pos 0))))

returns : within (one_block (Put (Const (Word (pos 65))) ∷ Step (Const (Word (pos 2))) ∷ zero_back ∷ [])) [] 5 3
    ≡ Some (record { ending = Came (Returned (pos 0)); output = 65 ∷ []; paid = 2; made = []; gone = [] })
unfolding run shapes_from
returns = refl

freed_twice : within (one_block (New 0 0 0 ∷ Free 0 ∷ Free 0 ∷ zero_back ∷ [])) [] 0 9
    ≡ Some (record { ending = StuckAt BadFree 3; output = []; paid = 0; made = (0, 0, 1) ∷ []; gone = 0 ∷ [] })
unfolding run shapes_from
freed_twice = refl

read_after_free : within (one_block (New 0 0 0 ∷ Free 0 ∷ GetField 1 0 0 0 ∷ zero_back ∷ [])) [] 0 9
    ≡ Some (record { ending = StuckAt Gone 3; output = []; paid = 0; made = (0, 0, 1) ∷ []; gone = 0 ∷ [] })
unfolding run shapes_from
read_after_free = refl

no_steps : within (one_block (Step (Const (Word (pos 1))) ∷ zero_back ∷ [])) [] 0 1
    ≡ Some (record { ending = Came Running; output = []; paid = 0; made = []; gone = [] })
unfolding run shapes_from
no_steps = refl

goes_on : RunsOn 100 (one_block (Goto 0 ∷ [])) [] 0
unfolding run shapes_from
goes_on = refl

-- an unset variable is found before a null pointer
unset_first : within (one_block (Set 0 (Const Null) ∷ SetField 0 0 0 (Var 1) ∷ [])) [] 0 9
    ≡ Some (record { ending = StuckAt Unset 2; output = []; paid = 0; made = []; gone = [] })
unfolding run shapes_from
unset_first = refl

-- a step that is not paid changes nothing
unpaid : within (one_block (Step (Const (Word (pos 3))) ∷ Step (Const (Word (pos 3))) ∷ zero_back ∷ [])) [] 5 9
    ≡ Some (record { ending = Came Running; output = []; paid = 3; made = []; gone = [] })
unfolding run shapes_from
unpaid = refl

-- arguments by their places
argument_byte : within (one_block (Arg 1 (Const (Word (pos 0))) (Const (Word (pos 1))) ∷ Return (Some (Var 1)) ∷ [])) ((120 ∷ 121 ∷ []) ∷ []) 0 9
    ≡ Some (record { ending = Came (Returned (pos 121)); output = []; paid = 0; made = []; gone = [] })
unfolding run shapes_from
argument_byte = refl
