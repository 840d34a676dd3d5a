-- The list of the program's arguments.
use Rattle.std.specs.Prelude.{ℕ, List, [], ◌∷◌, ◌++◌, pos, Some, None, codes}
use Rattle.csub_tree.specs.declared.tree.CBinary.TheVariants.{Add, Lt}
use Rattle.csub_tree.specs.declared.tree.CUnary.TheVariants.{S2C}
use Rattle.csub_tree.specs.declared.tree.COperand.{COperand}
use Rattle.csub_tree.specs.declared.tree.COperand.TheVariants.{Var}
use Rattle.ll_code.specs.declared.program.LlType.{LlType}
use Rattle.ll_code.specs.declared.program.LlType.TheVariants.{Signed, Bool, Char, Ptr}
use Rattle.ll_code.specs.declared.program.LlOp.TheVariants.{Unary, Binary, SetField, SetItem, NewArray, Call, Argc, ArgLen, Arg}
use Rattle.ll_code.specs.declared.program.LlExit.TheVariants.{Goto, Return}
use Rattle.ll_code.specs.declared.program.LlBlock.{LlBlock}
use Rattle.ll_code.specs.declared.program.LlGraph.{LlGraph}
use Rattle.ll_build.specs.Build.{word, to, fork, block_of, graph_of}
use Rattle.rtyper_data.specs.declared.found.Found.{Found}
use Rattle.rtyper_data.specs.declared.small.Listed.TheVariants.{Make}
use Rattle.list_shape.specs.declared.shape.Shape.{Shape}
use Rattle.list_shape.specs.Shapes.{array_read, number_of, taking, gives}

-- 0 the list, 1 its array, 2 the number of arguments, 3 which one, 4 a test, 5 its length, 6 its string, 7 to 10 a byte of it

unfoldable pub types : Shape → List LlType
types s = Ptr s.list ∷ Ptr s.array ∷ Signed ∷ Signed ∷ Bool ∷ Signed ∷ Ptr 0 ∷ Signed ∷ Signed ∷ Char ∷ Signed ∷ []

unfoldable pub start : ℕ → Shape → LlBlock
start makes s = block_of [] (
    Argc 2
    ∷ Call (Some 0) makes (Var 2 ∷ [])
    ∷ array_read 1 s 0 ∷ []) (Goto (to 1 (Var 0 ∷ Var 1 ∷ Var 2 ∷ word (pos 0) ∷ [])))

unfoldable pub asks : LlBlock
asks = block_of (0 ∷ 1 ∷ 2 ∷ 3 ∷ []) (Binary 4 Lt (Var 3) (Var 2) ∷ []) (fork 4 2 (Var 0 ∷ Var 1 ∷ Var 2 ∷ Var 3 ∷ []) 6 (Var 0 ∷ []))

-- the string of the next argument, which has no bytes yet
unfoldable pub next_text : LlBlock
next_text = block_of (0 ∷ 1 ∷ 2 ∷ 3 ∷ []) (
    ArgLen 5 (Var 3)
    ∷ NewArray 6 0 0 (Var 5)
    ∷ SetField 0 6 0 (Var 5) ∷ []) (Goto (to 3 (Var 0 ∷ Var 1 ∷ Var 2 ∷ Var 3 ∷ Var 6 ∷ Var 5 ∷ word (pos 0) ∷ [])))

-- whether it has another byte
unfoldable pub text_asks : LlBlock
text_asks = block_of (0 ∷ 1 ∷ 2 ∷ 3 ∷ 6 ∷ 5 ∷ 7 ∷ []) (Binary 4 Lt (Var 7) (Var 5) ∷ []) (fork 4 4 (Var 0 ∷ Var 1 ∷ Var 2 ∷ Var 3 ∷ Var 6 ∷ Var 5 ∷ Var 7 ∷ []) 5 (Var 0 ∷ Var 1 ∷ Var 2 ∷ Var 3 ∷ Var 6 ∷ []))

unfoldable pub next_byte : LlBlock
next_byte = block_of (0 ∷ 1 ∷ 2 ∷ 3 ∷ 6 ∷ 5 ∷ 7 ∷ []) (
    Arg 8 (Var 3) (Var 7)
    ∷ Unary 9 S2C (Var 8)
    ∷ SetItem 0 6 (Var 7) (Var 9)
    ∷ Binary 10 Add (Var 7) (word (pos 1)) ∷ []) (Goto (to 3 (Var 0 ∷ Var 1 ∷ Var 2 ∷ Var 3 ∷ Var 6 ∷ Var 5 ∷ Var 10 ∷ [])))

unfoldable pub text_done : ℕ → LlBlock
text_done array = block_of (0 ∷ 1 ∷ 2 ∷ 3 ∷ 6 ∷ []) (
    SetItem array 1 (Var 3) (Var 6)
    ∷ Binary 10 Add (Var 3) (word (pos 1)) ∷ []) (Goto (to 1 (Var 0 ∷ Var 1 ∷ Var 2 ∷ Var 10 ∷ [])))

unfoldable pub first_blocks : ℕ → Shape → List LlBlock
first_blocks makes s = start makes s ∷ asks ∷ next_text ∷ []

unfoldable pub last_blocks : ℕ → List LlBlock
last_blocks array = text_asks ∷ next_byte ∷ text_done array ∷ gives 0 ∷ []

unfoldable pub arguments_graph : ℕ → Shape → LlGraph
arguments_graph makes s = graph_of (codes "arguments") [] (Ptr s.list) (types s) (first_blocks makes s ++ last_blocks s.array)

unfoldable pub arguments : Shape → Found → LlGraph × Found
arguments s found = taking (number_of (Make s.list) found) (λ makes all. (arguments_graph makes s, all))
