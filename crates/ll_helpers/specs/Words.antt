-- The graphs of operations on words and bytes that test something.
use Rattle.std.specs.Prelude.{pos, [], ◌∷◌, Some, codes, true, false}
use Rattle.csub_tree.specs.declared.tree.CUnary.TheVariants.{C2S, S2C}
use Rattle.csub_tree.specs.declared.tree.CBinary.TheVariants.{Add, Div, Mod, Shl, Shr, Or, AddOvf, Eq, Lt, Le, Gt, Ge}
use Rattle.csub_tree.specs.declared.tree.COperand.TheVariants.{Var}
use Rattle.ll_code.specs.declared.program.LlType.TheVariants.{Signed, Char, Bool}
use Rattle.ll_code.specs.declared.program.LlOp.TheVariants.{Unary, Binary}
use Rattle.ll_code.specs.declared.program.LlExit.TheVariants.{Return, Fail}
use Rattle.ll_code.specs.declared.program.LlGraph.{LlGraph}
use Rattle.ll_build.specs.Build.{word, flag, fork, block_of, graph_of}

-- the floor of a quotient; a zero divisor fails
abbrev pub word_div : LlGraph
word_div = graph_of (codes "word_div") (0 ∷ 1 ∷ []) Signed (Signed ∷ Signed ∷ Bool ∷ Signed ∷ []) (
    block_of (0 ∷ 1 ∷ []) (Binary 2 Eq (Var 1) (word (pos 0)) ∷ []) (fork 2 1 ([]) 2 (Var 0 ∷ Var 1 ∷ []))
    ∷ block_of ([]) ([]) (Fail 2)
    ∷ block_of (0 ∷ 1 ∷ []) (Binary 3 Div (Var 0) (Var 1) ∷ []) (Return (Some (Var 3))) ∷ [])

-- what is left of it; a zero divisor fails
abbrev pub word_mod : LlGraph
word_mod = graph_of (codes "word_mod") (0 ∷ 1 ∷ []) Signed (Signed ∷ Signed ∷ Bool ∷ Signed ∷ []) (
    block_of (0 ∷ 1 ∷ []) (Binary 2 Eq (Var 1) (word (pos 0)) ∷ []) (fork 2 1 ([]) 2 (Var 0 ∷ Var 1 ∷ []))
    ∷ block_of ([]) ([]) (Fail 2)
    ∷ block_of (0 ∷ 1 ∷ []) (Binary 3 Mod (Var 0) (Var 1) ∷ []) (Return (Some (Var 3))) ∷ [])

-- a shift to the left; a count outside 0 to 63 fails
abbrev pub word_shl : LlGraph
word_shl = graph_of (codes "word_shl") (0 ∷ 1 ∷ []) Signed (Signed ∷ Signed ∷ Bool ∷ Bool ∷ Signed ∷ []) (
    block_of (0 ∷ 1 ∷ []) (Binary 2 Lt (Var 1) (word (pos 0)) ∷ []) (fork 2 3 ([]) 1 (Var 0 ∷ Var 1 ∷ []))
    ∷ block_of (0 ∷ 1 ∷ []) (Binary 3 Lt (Var 1) (word (pos 64)) ∷ []) (fork 3 2 (Var 0 ∷ Var 1 ∷ []) 3 ([]))
    ∷ block_of (0 ∷ 1 ∷ []) (Binary 4 Shl (Var 0) (Var 1) ∷ []) (Return (Some (Var 4)))
    ∷ block_of ([]) ([]) (Fail 3) ∷ [])

-- a shift to the right; a count outside 0 to 63 fails
abbrev pub word_shr : LlGraph
word_shr = graph_of (codes "word_shr") (0 ∷ 1 ∷ []) Signed (Signed ∷ Signed ∷ Bool ∷ Bool ∷ Signed ∷ []) (
    block_of (0 ∷ 1 ∷ []) (Binary 2 Lt (Var 1) (word (pos 0)) ∷ []) (fork 2 3 ([]) 1 (Var 0 ∷ Var 1 ∷ []))
    ∷ block_of (0 ∷ 1 ∷ []) (Binary 3 Lt (Var 1) (word (pos 64)) ∷ []) (fork 3 2 (Var 0 ∷ Var 1 ∷ []) 3 ([]))
    ∷ block_of (0 ∷ 1 ∷ []) (Binary 4 Shr (Var 0) (Var 1) ∷ []) (Return (Some (Var 4)))
    ∷ block_of ([]) ([]) (Fail 3) ∷ [])

-- the byte of a number; one outside 0 to 255 fails
abbrev pub word_chr : LlGraph
word_chr = graph_of (codes "word_chr") (0 ∷ []) Char (Signed ∷ Bool ∷ Bool ∷ Char ∷ []) (
    block_of (0 ∷ []) (Binary 1 Lt (Var 0) (word (pos 0)) ∷ []) (fork 1 3 ([]) 1 (Var 0 ∷ []))
    ∷ block_of (0 ∷ []) (Binary 2 Lt (Var 0) (word (pos 256)) ∷ []) (fork 2 2 (Var 0 ∷ []) 3 ([]))
    ∷ block_of (0 ∷ []) (Unary 3 S2C (Var 0) ∷ []) (Return (Some (Var 3)))
    ∷ block_of ([]) ([]) (Fail 3) ∷ [])

-- the smaller of two words
abbrev pub word_min : LlGraph
word_min = graph_of (codes "word_min") (0 ∷ 1 ∷ []) Signed (Signed ∷ Signed ∷ Bool ∷ []) (
    block_of (0 ∷ 1 ∷ []) (Binary 2 Le (Var 0) (Var 1) ∷ []) (fork 2 1 (Var 0 ∷ []) 2 (Var 1 ∷ []))
    ∷ block_of (0 ∷ []) ([]) (Return (Some (Var 0)))
    ∷ block_of (1 ∷ []) ([]) (Return (Some (Var 1))) ∷ [])

-- the greater of two words
abbrev pub word_max : LlGraph
word_max = graph_of (codes "word_max") (0 ∷ 1 ∷ []) Signed (Signed ∷ Signed ∷ Bool ∷ []) (
    block_of (0 ∷ 1 ∷ []) (Binary 2 Ge (Var 0) (Var 1) ∷ []) (fork 2 1 (Var 0 ∷ []) 2 (Var 1 ∷ []))
    ∷ block_of (0 ∷ []) ([]) (Return (Some (Var 0)))
    ∷ block_of (1 ∷ []) ([]) (Return (Some (Var 1))) ∷ [])

-- of a range that rises: its end, a number and the step; the next number, or the end where that comes first
abbrev pub range_up : LlGraph
range_up = graph_of (codes "range_up") (0 ∷ 1 ∷ 2 ∷ []) Signed (Signed ∷ Signed ∷ Signed ∷ Signed ∷ Bool ∷ Bool ∷ []) (
    block_of (0 ∷ 1 ∷ 2 ∷ []) (Binary 3 Add (Var 1) (Var 2) ∷ Binary 4 AddOvf (Var 1) (Var 2) ∷ []) (fork 4 2 (Var 0 ∷ []) 1 (Var 0 ∷ Var 3 ∷ []))
    ∷ block_of (0 ∷ 3 ∷ []) (Binary 5 Lt (Var 3) (Var 0) ∷ []) (fork 5 3 (Var 3 ∷ []) 2 (Var 0 ∷ []))
    ∷ block_of (0 ∷ []) ([]) (Return (Some (Var 0)))
    ∷ block_of (3 ∷ []) ([]) (Return (Some (Var 3))) ∷ [])

-- the same of a range that falls
abbrev pub range_down : LlGraph
range_down = graph_of (codes "range_down") (0 ∷ 1 ∷ 2 ∷ []) Signed (Signed ∷ Signed ∷ Signed ∷ Signed ∷ Bool ∷ Bool ∷ []) (
    block_of (0 ∷ 1 ∷ 2 ∷ []) (Binary 3 Add (Var 1) (Var 2) ∷ Binary 4 AddOvf (Var 1) (Var 2) ∷ []) (fork 4 2 (Var 0 ∷ []) 1 (Var 0 ∷ Var 3 ∷ []))
    ∷ block_of (0 ∷ 3 ∷ []) (Binary 5 Gt (Var 3) (Var 0) ∷ []) (fork 5 3 (Var 3 ∷ []) 2 (Var 0 ∷ []))
    ∷ block_of (0 ∷ []) ([]) (Return (Some (Var 0)))
    ∷ block_of (3 ∷ []) ([]) (Return (Some (Var 3))) ∷ [])

-- whether a byte is a digit
abbrev pub is_digit : LlGraph
is_digit = graph_of (codes "is_digit") (0 ∷ []) Bool (Char ∷ Signed ∷ Bool ∷ Bool ∷ []) (
    block_of (0 ∷ []) (Unary 1 C2S (Var 0) ∷ Binary 2 Lt (Var 1) (word (pos 48)) ∷ []) (fork 2 2 ([]) 1 (Var 1 ∷ []))
    ∷ block_of (1 ∷ []) (Binary 3 Lt (Var 1) (word (pos 58)) ∷ []) (Return (Some (Var 3)))
    ∷ block_of ([]) ([]) (Return (Some (flag false))) ∷ [])

-- whether a byte is a letter. Those of two cases differ by 32
abbrev pub is_alpha : LlGraph
is_alpha = graph_of (codes "is_alpha") (0 ∷ []) Bool (Char ∷ Signed ∷ Signed ∷ Bool ∷ Bool ∷ []) (
    block_of (0 ∷ []) (Unary 1 C2S (Var 0) ∷ Binary 2 Or (Var 1) (word (pos 32)) ∷ Binary 3 Lt (Var 2) (word (pos 97)) ∷ []) (fork 3 2 ([]) 1 (Var 2 ∷ []))
    ∷ block_of (2 ∷ []) (Binary 4 Lt (Var 2) (word (pos 123)) ∷ []) (Return (Some (Var 4)))
    ∷ block_of ([]) ([]) (Return (Some (flag false))) ∷ [])

-- whether a byte is a space or one of 9 to 13
abbrev pub is_space : LlGraph
is_space = graph_of (codes "is_space") (0 ∷ []) Bool (Char ∷ Signed ∷ Bool ∷ Bool ∷ Bool ∷ []) (
    block_of (0 ∷ []) (Unary 1 C2S (Var 0) ∷ Binary 2 Eq (Var 1) (word (pos 32)) ∷ []) (fork 2 3 ([]) 1 (Var 1 ∷ []))
    ∷ block_of (1 ∷ []) (Binary 3 Lt (Var 1) (word (pos 9)) ∷ []) (fork 3 4 ([]) 2 (Var 1 ∷ []))
    ∷ block_of (1 ∷ []) (Binary 4 Lt (Var 1) (word (pos 14)) ∷ []) (Return (Some (Var 4)))
    ∷ block_of ([]) ([]) (Return (Some (flag true)))
    ∷ block_of ([]) ([]) (Return (Some (flag false))) ∷ [])
