-- The graph of `int` of a string: blanks at both ends, perhaps a sign, and digits whose number is a word. The number is taken
-- together below zero, since the smallest word has no opposite. Any other text raises `ValueError`.
use Rattle.std.specs.Prelude.{ℕ, List, [], ◌∷◌, ◌++◌, ℤ, pos, negsuc, true, codes}
use Rattle.csub_tree.specs.declared.tree.CBinary.{CBinary}
use Rattle.csub_tree.specs.declared.tree.CBinary.TheVariants as binary
use Rattle.csub_tree.specs.declared.tree.CUnary.TheVariants as unary
use Rattle.csub_tree.specs.declared.tree.COperand.{COperand}
use Rattle.csub_tree.specs.declared.tree.COperand.TheVariants.{Var}
use Rattle.ll_code.specs.declared.program.LlType.{LlType}
use Rattle.ll_code.specs.declared.program.LlType.TheVariants as type
use Rattle.ll_code.specs.declared.program.LlOp.{LlOp}
use Rattle.ll_code.specs.declared.program.LlOp.TheVariants as op
use Rattle.ll_code.specs.declared.program.LlExit.TheVariants as exit
use Rattle.ll_code.specs.declared.program.LlBlock.{LlBlock}
use Rattle.ll_code.specs.declared.program.LlGraph.{LlGraph}
use Rattle.rtyper_data.specs.declared.found.Found.{Found}
use Rattle.rtyper_data.specs.Building.{link_to, block_with, fork, gives, graph_with}
use Rattle.rtyper_data.specs.Graphs.{failing}
use Rattle.rtyper_data.specs.Numbers.{word}

-- the variables: the text, the end, the place, the byte and its number, a test, the sum, whether it is below zero, and others
abbrev pub text : ℕ
text = 0

abbrev pub end : ℕ
end = 1

abbrev pub place : ℕ
place = 2

abbrev pub char : ℕ
char = 3

abbrev pub number : ℕ
number = 4

abbrev pub test : ℕ
test = 5

abbrev pub sum : ℕ
sum = 6

abbrev pub below : ℕ
below = 7

abbrev pub next : ℕ
next = 8

abbrev pub first : ℕ
first = 9

abbrev pub second : ℕ
second = 10

abbrev pub tenfold : ℕ
tenfold = 11

-- ---- operations

-- the number of the byte at a place
unfoldable pub byte_at : ℕ → List LlOp
byte_at at = op.GetItem char 0 text (Var at) ∷ op.Unary number unary.C2S (Var char) ∷ []

-- a test as a word
unfoldable pub asked : ℕ → CBinary → COperand → COperand → List LlOp
asked into o x y = op.Binary test o x y ∷ op.Unary into unary.B2S (Var test) ∷ []

-- whether the number of the byte lies between two
unfoldable pub between : ℤ → ℤ → List LlOp
between low high = asked first binary.Ge (Var number) (word low) ++ (asked second binary.Le (Var number) (word high) ++ op.Binary first binary.And (Var first) (Var second) ∷ [])

-- whether the byte is blank: a space, or one of 9 to 13
unfoldable pub blank : List LlOp
blank = between (pos 9) (pos 13) ++ (asked second binary.Eq (Var number) (word (pos 32)) ++ op.Binary first binary.Or (Var first) (Var second) ∷ op.Binary test binary.Ne (Var first) (word (pos 0)) ∷ [])

-- ---- blocks: 0 to 2 blanks at the beginning, 3 at the end, 4 to 6 the sign, 7 to 9 the digits, 10 to 12 the result, 13 what is no number

abbrev pub start : LlBlock
start = block_with (text ∷ []) (op.GetField end 0 text 0 ∷ []) (exit.Goto (link_to 1 (Var text ∷ Var end ∷ word (pos 0) ∷ [])))

abbrev pub at_end : ℕ → ℕ → LlBlock
at_end there elsewhere = block_with (text ∷ end ∷ place ∷ []) (op.Binary test binary.Ge (Var place) (Var end) ∷ []) (fork test there [] elsewhere (Var text ∷ Var end ∷ Var place ∷ []))

abbrev pub blank_front : LlBlock
blank_front = block_with (text ∷ end ∷ place ∷ []) (byte_at place ++ (blank ++ op.Binary next binary.Add (Var place) (word (pos 1)) ∷ [])) (fork test 1 (Var text ∷ Var end ∷ Var next ∷ []) 3 (Var text ∷ Var end ∷ Var place ∷ []))

-- a byte that is not blank stands before the end
abbrev pub blank_back : LlBlock
blank_back = block_with (text ∷ end ∷ place ∷ []) (op.Binary next binary.Sub (Var end) (word (pos 1)) ∷ byte_at next ++ blank) (fork test 3 (Var text ∷ Var next ∷ Var place ∷ []) 4 (Var text ∷ Var end ∷ Var place ∷ []))

abbrev pub minus : LlBlock
minus = block_with (text ∷ end ∷ place ∷ []) (byte_at place ++ op.Binary next binary.Add (Var place) (word (pos 1)) ∷ op.Binary test binary.Eq (Var number) (word (pos 45)) ∷ [])
    (fork test 6 (Var text ∷ Var end ∷ Var next ∷ word (pos 1) ∷ []) 5 (Var text ∷ Var end ∷ Var place ∷ Var next ∷ Var number ∷ []))

abbrev pub plus : LlBlock
plus = block_with (text ∷ end ∷ place ∷ next ∷ number ∷ []) (op.Binary test binary.Eq (Var number) (word (pos 43)) ∷ [])
    (fork test 6 (Var text ∷ Var end ∷ Var next ∷ word (pos 0) ∷ []) 6 (Var text ∷ Var end ∷ Var place ∷ word (pos 0) ∷ []))

abbrev pub any_digit : LlBlock
any_digit = block_with (text ∷ end ∷ place ∷ below ∷ []) (op.Binary test binary.Ge (Var place) (Var end) ∷ []) (fork test 13 [] 7 (Var text ∷ Var end ∷ Var place ∷ Var below ∷ word (pos 0) ∷ []))

abbrev pub digits : List ℕ
digits = text ∷ end ∷ place ∷ below ∷ sum ∷ []

abbrev pub more : LlBlock
more = block_with digits (op.Binary test binary.Ge (Var place) (Var end) ∷ []) (fork test 10 (Var below ∷ Var sum ∷ []) 8 (Var text ∷ Var end ∷ Var place ∷ Var below ∷ Var sum ∷ []))

abbrev pub digit : LlBlock
digit = block_with digits (byte_at place ++ (between (pos 48) (pos 57) ++ op.Binary test binary.Ne (Var first) (word (pos 0)) ∷ [])) (fork test 9 (Var text ∷ Var end ∷ Var place ∷ Var below ∷ Var sum ∷ Var number ∷ []) 13 [])

-- ten times the sum, less the digit
abbrev pub taken_ops : List LlOp
taken_ops =
    asked first binary.MulOvf (Var sum) (word (pos 10))
    ++ (op.Binary tenfold binary.Mul (Var sum) (word (pos 10)) ∷ op.Binary number binary.Sub (Var number) (word (pos 48)) ∷ asked second binary.SubOvf (Var tenfold) (Var number)
    ++ op.Binary sum binary.Sub (Var tenfold) (Var number) ∷ op.Binary first binary.Or (Var first) (Var second) ∷ op.Binary test binary.Ne (Var first) (word (pos 0)) ∷ op.Binary next binary.Add (Var place) (word (pos 1)) ∷ [])

abbrev pub taken : LlBlock
taken = block_with (text ∷ end ∷ place ∷ below ∷ sum ∷ number ∷ []) taken_ops (fork test 13 [] 7 (Var text ∷ Var end ∷ Var next ∷ Var below ∷ Var sum ∷ []))

abbrev pub done : LlBlock
done = block_with (below ∷ sum ∷ []) (op.Binary test binary.Ne (Var below) (word (pos 0)) ∷ []) (fork test 12 (Var sum ∷ []) 11 (Var sum ∷ []))

abbrev pub opposite : LlBlock
opposite = block_with (sum ∷ []) (op.Binary test binary.Eq (Var sum) (word (negsuc 9223372036854775807)) ∷ op.Unary sum unary.Neg (Var sum) ∷ []) (fork test 13 [] 12 (Var sum ∷ []))

abbrev pub given : LlBlock
given = block_with (sum ∷ []) [] (gives sum)

abbrev pub first_blocks : List LlBlock
first_blocks = start ∷ at_end 13 2 ∷ blank_front ∷ blank_back ∷ minus ∷ plus ∷ any_digit ∷ []

abbrev pub blocks_with : LlBlock × Found → List LlBlock × Found
blocks_with last = (first_blocks ++ more ∷ digit ∷ taken ∷ done ∷ opposite ∷ given ∷ last.0 ∷ [], last.1)

abbrev pub blocks : Found → List LlBlock × Found
blocks found = blocks_with (failing 3 8 true found)

abbrev pub types : List LlType
types = type.Ptr 0 ∷ type.Signed ∷ type.Signed ∷ type.Char ∷ type.Signed ∷ type.Bool ∷ type.Signed ∷ type.Signed ∷ type.Signed ∷ type.Signed ∷ type.Signed ∷ type.Signed ∷ []

abbrev pub int_with : List LlBlock × Found → LlGraph × Found
int_with those = (graph_with (codes "int_of_text") (text ∷ []) type.Signed types those.0, those.1)

abbrev pub int_graph : Found → LlGraph × Found
int_graph found = int_with (blocks found)
