-- Worked runs of graphs, which compute.
use Rattle.std.proofs.Common.{◌≡◌, ℕ, List, [], ◌∷◌, Option, Some, None, refl}
use Rattle.std.specs.Prelude.{pos, Bool, true, false, length, replicate}
use Rattle.rpy_base.specs.declared.outcome.Outcome.{Outcome}
use Rattle.rpy_base.specs.declared.outcome.Outcome.TheVariants.{Returned, Failed, Running}
use Rattle.rpy_base.specs.declared.outcome.FailName.TheVariants as fail
use Rattle.rpy_meaning.specs.declared.row.Covers.{Covers}
use Rattle.rpy_meaning.specs.declared.row.RowOp.{RowOp}
use Rattle.rpy_meaning.specs.declared.row.RowOp.TheVariants as row
use Rattle.rpy_meaning.specs.Tree.{done, Class, Program}
use Rattle.rpy_meaning.specs.Classes.{no_covers}
use Rattle.rpy_meaning.specs.Meaning.{Run}
use Rattle.flow_graph.specs.declared.graph.Link.{Link}
use Rattle.flow_graph.specs.declared.graph.Exit.{Exit}
use Rattle.flow_graph.specs.declared.graph.Exit.TheVariants as exit
use Rattle.flow_graph.specs.declared.graph.Op.{Op}
use Rattle.flow_graph.specs.declared.graph.Block.{Block}
use Rattle.flow_graph.specs.declared.graph.Graphs.{Graphs}
use Rattle.flow_meaning.specs.Meaning.{run, gmean}
use Rattle.flow_meaning.specs.Moments.{run_to, gmoment}

-- ---- graphs of one function with one parameter

abbrev link : ℕ → List ℕ → Link
link to args = record { to = to; args = args }

abbrev does : ℕ → Covers → RowOp → List ℕ → Op
does result covered o args = record { result = result; op = o; args = args; node = 0; value = true; covered = covered }

abbrev block : List ℕ → List Op → Exit → Block
block inputs ops exit = record { inputs = inputs; ops = ops; exit = exit }

-- classes without bases, as many as the builtin ones
abbrev classes : List Class
classes = replicate 13 (record { name = []; base = None; constants = []; methods = [] })

abbrev program : Program
program = record { functions = record { defaults = None ∷ []; takes_more = false; locals = 1; body = done } ∷ []; classes = classes; sites = None ∷ []; entry = 0 }

abbrev graphs : List Block → Graphs
graphs blocks = record { graphs = record { function = 0; blocks = blocks } ∷ [] }

abbrev seen : Option Run → Option (Option Outcome × ℕ × ℕ)
seen None = None
seen (Some run) = Some (run.outcome, length run.held, run.world.left)

-- return 7
seven : Graphs
seven = graphs (block (0 ∷ []) (does 1 no_covers (row.Word (pos 7)) [] ∷ []) (exit.Return 1) ∷ [])

returns : seen (gmean program seven [] 1 10) ≡ Some (Some (Returned (pos 7)), 0, 0)
unfolding seven run
returns = refl

-- the call itself is not paid: the list of arguments is held
stops_at_the_call : seen (gmean program seven [] 0 10) ≡ Some (Some Running, 1, 0)
unfolding seven run
stops_at_the_call = refl

-- l = []; l[5], with what catches an index outside, or without
outside : Bool → Graphs
outside covered = graphs (
    block (0 ∷ []) (does 1 no_covers (row.List 0) [] ∷ []) (exit.Goto (link 1 (1 ∷ [])))
    ∷ block (2 ∷ []) (does 3 no_covers (row.Word (pos 5)) [] ∷ does 4 (record no_covers { index = covered }) (row.Index None) (2 ∷ 3 ∷ []) ∷ []) (exit.OnRaise 5 ((6, link 2 (5 ∷ [])) ∷ []) None (link 3 (4 ∷ [])))
    ∷ block (6 ∷ []) (does 7 no_covers (row.Word (pos 1)) [] ∷ []) (exit.Return 7)
    ∷ block (8 ∷ []) [] (exit.Return 8)
    ∷ [])

is_caught : seen (gmean program (outside true) [] 10 20) ≡ Some (Some (Returned (pos 1)), 0, 8)
unfolding outside run
is_caught = refl

is_not_covered : seen (gmean program (outside false) [] 10 20) ≡ Some (Some (Failed fail.Index), 0, 8)
unfolding outside run
is_not_covered = refl

-- a turn that is not paid holds what is read behind it
turning : Graphs
turning = graphs (block (0 ∷ []) (does 1 no_covers row.Turn [] ∷ does 2 no_covers row.Copy (0 ∷ []) ∷ []) (exit.Goto (link 0 (2 ∷ []))) ∷ [])

turns_are_paid : seen (gmean program turning [] 5 100) ≡ Some (Some Running, 1, 0)
unfolding turning run
turns_are_paid = refl

-- a call that is not paid holds once what it passes
calling : Graphs
calling = record {
  graphs =
      record { function = 0; blocks = block (0 ∷ []) (does 1 no_covers (row.Word (pos 7)) [] ∷ does 2 no_covers (row.Call 1) (1 ∷ []) ∷ []) (exit.Return 2) ∷ [] }
      ∷ record { function = 1; blocks = block (0 ∷ []) [] (exit.Return 0) ∷ [] }
      ∷ [];
}

caller : Program
caller = record program {
  functions =
      record { defaults = None ∷ []; takes_more = false; locals = 1; body = done }
      ∷ record { defaults = None ∷ []; takes_more = false; locals = 1; body = done }
      ∷ [];
}

passes_once : seen (gmean caller calling [] 1 10) ≡ Some (Some Running, 1, 0)
unfolding calling caller run
passes_once = refl

-- the moments of these: the entry, before the call, its entry, behind it, and then the end
stands_behind_the_call : seen (gmoment caller calling [] 9 3 99) ≡ Some (Some Running, 1, 7)
unfolding calling caller run_to
stands_behind_the_call = refl

stands_in_the_call : seen (gmoment caller calling [] 9 2 99) ≡ Some (Some Running, 1, 8)
unfolding calling caller run_to
stands_in_the_call = refl

stands_at_the_end : seen (gmoment caller calling [] 9 4 99) ≡ Some (Some (Returned (pos 7)), 0, 7)
unfolding calling caller run_to
stands_at_the_end = refl
