-- The graphs that print.
use Rattle.std.specs.Prelude.{ℕ, ℤ, pos, negsuc, List, [], ◌∷◌, None, codes}
use Rattle.csub_tree.specs.declared.tree.COperand.{COperand}
use Rattle.csub_tree.specs.declared.tree.CBinary.{CBinary}
use Rattle.csub_tree.specs.declared.tree.CBinary.TheVariants.{Add, Sub, Div, Mod, Lt, Eq}
use Rattle.csub_tree.specs.declared.tree.COperand.TheVariants.{Var}
use Rattle.ll_code.specs.declared.program.LlType.{LlType}
use Rattle.ll_code.specs.declared.program.LlType.TheVariants.{Signed, Bool, Void}
use Rattle.ll_code.specs.declared.program.LlOp.{LlOp}
use Rattle.ll_code.specs.declared.program.LlOp.TheVariants.{Binary, Call, Put}
use Rattle.ll_code.specs.declared.program.LlExit.TheVariants.{Goto, Return}
use Rattle.ll_code.specs.declared.program.LlBlock.{LlBlock}
use Rattle.ll_code.specs.declared.program.LlGraph.{LlGraph}
use Rattle.ll_build.specs.Build.{word, to, fork, block_of, graph_of}

-- a graph of one parameter without a result
abbrev pub printer : List ℕ → List LlType → List LlBlock → LlGraph
printer name types blocks = graph_of name (0 ∷ []) Void types blocks

-- the word against a bound
abbrev pub test : ℤ → ℕ → ℕ → LlBlock
test bound there elsewhere = block_of (0 ∷ []) (Binary 1 Lt (Var 0) (word bound) ∷ []) (fork 1 there (Var 0 ∷ []) elsewhere (Var 0 ∷ []))

abbrev pub last_digit : ℤ → CBinary → COperand → COperand → LlBlock
last_digit by op x y = block_of (0 ∷ []) (Binary 2 Mod (Var 0) (word by) ∷ Binary 3 op x y ∷ Put (Var 3) ∷ []) (Return None)

abbrev pub before_last : ℕ → LlBlock
before_last number = block_of (0 ∷ []) (Binary 2 Div (Var 0) (word (pos 10)) ∷ Call None number (Var 2 ∷ []) ∷ []) (Goto (to 2 (Var 0 ∷ [])))

abbrev pub word_types : List LlType
word_types = Signed ∷ Bool ∷ Signed ∷ Signed ∷ []

-- the digits of a word that is not negative: those before the last, by the graph itself, which has this number, and the last
abbrev pub print_digits : ℕ → LlGraph
print_digits number = printer (codes "print_digits") word_types (
    test (pos 10) 2 1
    ∷ before_last number
    ∷ last_digit (pos 10) Add (Var 2) (word (pos 48)) ∷ [])

-- the sign, and whether there are digits before the last; the divisor is negative, so that the smallest word has a quotient
abbrev pub sign : LlBlock
sign = block_of (0 ∷ []) (Put (word (pos 45)) ∷ Binary 2 Div (Var 0) (word (negsuc 9)) ∷ Binary 1 Eq (Var 2) (word (pos 0)) ∷ [])
    (fork 1 3 (Var 0 ∷ []) 2 (Var 0 ∷ Var 2 ∷ []))

abbrev pub digits_before : ℕ → LlBlock
digits_before digits = block_of (0 ∷ 2 ∷ []) (Call None digits (Var 2 ∷ []) ∷ []) (Goto (to 3 (Var 0 ∷ [])))

abbrev pub all_digits : ℕ → LlBlock
all_digits digits = block_of (0 ∷ []) (Call None digits (Var 0 ∷ []) ∷ []) (Return None)

abbrev pub print_word : ℕ → LlGraph
print_word digits = printer (codes "print_word") word_types (
    test (pos 0) 1 4 ∷ sign ∷ digits_before digits ∷ last_digit (negsuc 9) Sub (word (pos 48)) (Var 2) ∷ all_digits digits ∷ [])

abbrev pub puts : List ℕ → List LlOp
puts [] = []
puts (byte ∷ bytes) = Put (word (pos byte)) ∷ puts bytes

abbrev pub puts_text : List ℕ → LlBlock
puts_text text = block_of [] (puts text) (Return None)

abbrev pub print_bool : LlGraph
print_bool = printer (codes "print_bool") (Bool ∷ []) (block_of (0 ∷ []) [] (fork 0 1 [] 2 []) ∷ puts_text (codes "True") ∷ puts_text (codes "False") ∷ [])
