-- The graphs of operations on words whose results have to fit: a result that does not raises `OverflowError`.
use Rattle.std.specs.Prelude.{ℕ, Bool, true, List, [], ◌∷◌, pos, negsuc, codes}
use Rattle.csub_tree.specs.declared.tree.CBinary.{CBinary}
use Rattle.csub_tree.specs.declared.tree.CBinary.TheVariants as binary
use Rattle.csub_tree.specs.declared.tree.CUnary.TheVariants as unary
use Rattle.csub_tree.specs.declared.tree.COperand.{COperand}
use Rattle.csub_tree.specs.declared.tree.COperand.TheVariants.{Var}
use Rattle.ll_code.specs.declared.program.LlType.{LlType}
use Rattle.ll_code.specs.declared.program.LlType.TheVariants as type
use Rattle.ll_code.specs.declared.program.LlOp.TheVariants as op
use Rattle.ll_code.specs.declared.program.LlExit.TheVariants as exit
use Rattle.ll_code.specs.declared.program.LlBlock.{LlBlock}
use Rattle.ll_code.specs.declared.program.LlGraph.{LlGraph}
use Rattle.rtyper_data.specs.declared.found.Found.{Found}
use Rattle.rtyper_data.specs.Building.{link_to, block_with, fork, gives, graph_with}
use Rattle.rtyper_data.specs.Graphs.{ends_as, raised, failing}
use Rattle.rtyper_data.specs.Numbers.{word}

-- a block that raises `OverflowError`, class 3; nothing comes behind the call
abbrev pub overflowing : Found → LlBlock × Found
overflowing found = ends_as 3 (raised true 3 found)

-- by a test of the two words, variable 2
abbrev pub test : CBinary → COperand → COperand → ℕ → ℕ → LlBlock
test o x y there elsewhere = block_with (0 ∷ 1 ∷ []) (op.Binary 2 o x y ∷ []) (fork 2 there (Var 0 ∷ Var 1 ∷ []) elsewhere (Var 0 ∷ Var 1 ∷ []))

-- the words are given to a block that takes none of them
abbrev pub dropped : ℕ → LlBlock
dropped to = block_with (0 ∷ 1 ∷ []) [] (exit.Goto (link_to to []))

abbrev pub result : CBinary → LlBlock
result o = block_with (0 ∷ 1 ∷ []) (op.Binary 3 o (Var 0) (Var 1) ∷ []) (gives 3)

-- ---- sums, differences and products

abbrev pub of_sum_with : CBinary → CBinary → LlBlock × Found → List LlBlock × Found
of_sum_with o overflows last = (test overflows (Var 0) (Var 1) 2 1 ∷ result o ∷ dropped 3 ∷ last.0 ∷ [], last.1)

abbrev pub of_sum : CBinary → CBinary → Found → List LlBlock × Found
of_sum o overflows found = of_sum_with o overflows (overflowing found)

-- ---- shifts: the count is 0 to 63

abbrev pub of_shift_with : LlBlock → LlBlock × Found → List LlBlock × Found
of_shift_with overflow last = (
  test binary.Lt (Var 1) (word (pos 0)) 5 1 ∷ test binary.Lt (Var 1) (word (pos 64)) 2 5 ∷ test binary.ShlOvf (Var 0) (Var 1) 4 3
      ∷ result binary.Shl ∷ dropped 6 ∷ dropped 7 ∷ overflow ∷ last.0 ∷ [],
  last.1,
)

abbrev pub of_shift : Bool → Found → List LlBlock × Found
of_shift raises found = of_shift_with (overflowing found).0 (failing 3 8 raises (overflowing found).1)

-- ---- quotients: the divisor is not zero, and the smallest word has no opposite

abbrev pub of_quotient_with : LlBlock → LlBlock × Found → List LlBlock × Found
of_quotient_with overflow last = (
  test binary.Eq (Var 1) (word (pos 0)) 5 1 ∷ test binary.Eq (Var 1) (word (negsuc 0)) 2 3 ∷ test binary.Eq (Var 0) (word (negsuc 9223372036854775807)) 4 3
      ∷ result binary.Div ∷ dropped 6 ∷ dropped 7 ∷ overflow ∷ last.0 ∷ [],
  last.1,
)

abbrev pub of_quotient : Bool → Found → List LlBlock × Found
of_quotient raises found = of_quotient_with (overflowing found).0 (failing 2 4 raises (overflowing found).1)

abbrev pub of_rest_with : LlBlock × Found → List LlBlock × Found
of_rest_with last = (test binary.Eq (Var 1) (word (pos 0)) 2 1 ∷ result binary.Mod ∷ dropped 3 ∷ last.0 ∷ [], last.1)

abbrev pub of_rest : Bool → Found → List LlBlock × Found
of_rest raises found = of_rest_with (failing 2 4 raises found)

abbrev pub blocks_of : CBinary → Bool → Found → List LlBlock × Found
blocks_of binary.Add raises found = of_sum binary.Add binary.AddOvf found
blocks_of binary.Sub raises found = of_sum binary.Sub binary.SubOvf found
blocks_of binary.Mul raises found = of_sum binary.Mul binary.MulOvf found
blocks_of binary.Shl raises found = of_shift raises found
blocks_of binary.Mod raises found = of_rest raises found
blocks_of other raises found = of_quotient raises found

abbrev pub types : List LlType
types = type.Signed ∷ type.Signed ∷ type.Bool ∷ type.Signed ∷ []

abbrev pub checked_with : List LlBlock × Found → LlGraph × Found
checked_with blocks = (graph_with (codes "checked") (0 ∷ 1 ∷ []) type.Signed types blocks.0, blocks.1)

-- an operation on two words
abbrev pub checked_graph : CBinary → Bool → Found → LlGraph × Found
checked_graph o raises found = checked_with (blocks_of o raises found)

abbrev pub checked_neg_with : LlBlock × Found → LlGraph × Found
checked_neg_with last = (
  graph_with (codes "checked_neg") (0 ∷ []) type.Signed types (
      block_with (0 ∷ []) (op.Binary 2 binary.Eq (Var 0) (word (negsuc 9223372036854775807)) ∷ []) (fork 2 2 [] 1 (Var 0 ∷ []))
      ∷ block_with (0 ∷ []) (op.Unary 3 unary.Neg (Var 0) ∷ []) (gives 3)
      ∷ last.0
      ∷ []),
  last.1,
)

-- the opposite of a word
abbrev pub checked_neg_graph : Found → LlGraph × Found
checked_neg_graph found = checked_neg_with (overflowing found)
