-- The graph at which a run begins.
use Rattle.std.specs.Prelude.{ℕ, List, [], ◌∷◌, slice_get, unwrap_or, Option, Some, None, pos, codes}
use Rattle.csub_tree.specs.declared.tree.CConst.TheVariants.{Word}
use Rattle.csub_tree.specs.declared.tree.COperand.{COperand}
use Rattle.csub_tree.specs.declared.tree.COperand.TheVariants.{Var, Const}
use Rattle.ll_code.specs.declared.program.LlType.{LlType}
use Rattle.ll_code.specs.declared.program.LlType.TheVariants as type
use Rattle.ll_code.specs.declared.program.LlOp.{LlOp}
use Rattle.ll_code.specs.declared.program.LlOp.TheVariants as op
use Rattle.ll_code.specs.declared.program.LlExit.{LlExit}
use Rattle.ll_code.specs.declared.program.LlExit.TheVariants as exit
use Rattle.ll_code.specs.declared.program.LlBlock.{LlBlock}
use Rattle.ll_code.specs.declared.program.LlGraph.{LlGraph}
use Rattle.rtyper_layout.specs.declared.classes.Laid.{Laid}
use Rattle.rtyper_data.specs.Building.{block_with, graph_with, link_to}
use Rattle.rtyper_class.specs.Seen.{World, laid}
use Rattle.rtyper_program.specs.Graphs.{result_of}

-- the variable of what the entry point gives, where it gives a word
abbrev pub into_of : LlType → Option ℕ
into_of type.Signed = Some 1
into_of t = None

-- an entry point that gives no word never gives anything
abbrev pub given_back : Option ℕ → COperand
given_back None = Const (Word (pos 0))
given_back (Some v) = Var v

-- the entry point is called with the list of arguments
abbrev pub calls : ℕ → Option ℕ → ℕ → List LlOp
calls number into arguments = op.Call (Some 0) arguments [] ∷ op.Call into number (Var 0 ∷ []) ∷ []

-- the list, what is given, and where there are exceptions one and its vtable
abbrev pub types : ℕ → Option Laid → List LlType
types list None = type.Ptr list ∷ type.Signed ∷ []
types list (Some l) = type.Ptr list ∷ type.Signed ∷ type.Ptr l.root ∷ type.Ptr l.vtable ∷ []

abbrev pub ways : Option ℕ → LlExit
ways into = exit.OnRaise 2 (Some (link_to 1 (Var 2 ∷ []))) (link_to 2 (given_back into ∷ []))

-- the run ends as raised, with the name that the vtable of the exception has
abbrev pub raised : Laid → LlBlock
raised l = block_with (2 ∷ []) (op.GetField 3 l.root 2 0 ∷ []) (exit.Raised 3)

abbrev pub returned : LlBlock
returned = block_with (1 ∷ []) [] (exit.Return (Some (Var 1)))

-- an exception that leaves the entry point ends the run
abbrev pub blocks : ℕ → Option ℕ → ℕ → Option Laid → List LlBlock
blocks number into arguments None = block_with [] (calls number into arguments) (exit.Return (Some (given_back into))) ∷ []
blocks number into arguments (Some l) = block_with [] (calls number into arguments) (ways into) ∷ raised l ∷ returned ∷ []

abbrev pub graph_to : ℕ → Option ℕ → ℕ → ℕ → Option Laid → LlGraph
graph_to number into arguments list l = graph_with (codes "entry") [] type.Signed (types list l) (blocks number into arguments l)

abbrev pub number_of : World → ℕ → ℕ
number_of world function = unwrap_or (slice_get world.around.numbers function) 0

-- it calls the function with the list of arguments, which the graph of that number makes
unfoldable pub entry_graph : World → ℕ → ℕ → LlGraph
entry_graph world function arguments =
    graph_to (number_of world function) (into_of (result_of world.around function)) arguments world.around.layout.first_list (laid world 0)
