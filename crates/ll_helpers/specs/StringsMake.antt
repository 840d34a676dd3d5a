-- Graphs that make strings. A cost is paid before the block is made, and no string of a byte or none is made.
use Rattle.std.specs.Prelude.{ℕ, pos, negsuc, Some, None, codes, List, [], ◌∷◌, ◌++◌}
use Rattle.csub_tree.specs.declared.tree.CUnary.TheVariants.{C2S, S2C}
use Rattle.csub_tree.specs.declared.tree.CBinary.TheVariants.{Add, Sub, Mul, Div, Mod, MulOvf, Lt}
use Rattle.csub_tree.specs.declared.tree.COperand.TheVariants.{Var}
use Rattle.ll_code.specs.declared.program.LlType.TheVariants.{Signed, Char, Bool, Ptr}
use Rattle.ll_code.specs.declared.program.LlOp.TheVariants.{Set, Unary, Binary, GetField, SetField, GetItem, SetItem, NewArray, Step, Call}
use Rattle.ll_code.specs.declared.program.LlExit.TheVariants.{Goto, Return}
use Rattle.ll_code.specs.declared.program.LlBlock.{LlBlock}
use Rattle.ll_code.specs.declared.program.LlGraph.{LlGraph}
use Rattle.ll_build.specs.Build.{word, byte, static_text, static_table, to, fork, block_of, graph_of, ask, fails, answer}

-- pays, and asks whether the string is one that is never made
abbrev pub string_part_pays : LlBlock
string_part_pays = block_of (0 ∷ 1 ∷ 2 ∷ []) (
    Step (word (pos 1))
    ∷ Step (Var 2)
    ∷ Binary 3 Lt (Var 2) (word (pos 2)) ∷ []) (fork 3 1 (Var 0 ∷ Var 1 ∷ Var 2 ∷ []) 4 (Var 0 ∷ Var 1 ∷ Var 2 ∷ []))

-- no byte or one
abbrev pub string_part_short : LlBlock
string_part_short = block_of (0 ∷ 1 ∷ 2 ∷ []) (Binary 3 Lt (Var 2) (word (pos 1)) ∷ []) (fork 3 2 [] 3 (Var 0 ∷ Var 1 ∷ []))

-- the string of one byte
abbrev pub string_part_single : ℕ → LlBlock
string_part_single table = block_of (0 ∷ 1 ∷ []) (
    GetItem 4 0 0 (Var 1)
    ∷ Unary 5 C2S (Var 4)
    ∷ Set 6 (static_table table)
    ∷ GetItem 7 table 6 (Var 5) ∷ []) (Return (Some (Var 7)))

-- a new string
abbrev pub string_part_makes : ℕ → LlBlock
string_part_makes copy = block_of (0 ∷ 1 ∷ 2 ∷ []) (
    NewArray 7 0 0 (Var 2)
    ∷ SetField 0 7 0 (Var 2)
    ∷ Call None copy (Var 0 ∷ Var 1 ∷ Var 7 ∷ word (pos 0) ∷ Var 2 ∷ []) ∷ []) (Return (Some (Var 7)))

abbrev pub string_part_blocks_a : List LlBlock
string_part_blocks_a = string_part_pays ∷ string_part_short ∷ answer (static_text 0) ∷ []

abbrev pub string_part_blocks_b : ℕ → ℕ → List LlBlock
string_part_blocks_b table copy = string_part_single table ∷ string_part_makes copy ∷ []

-- the string of a part of a string, from a place on, of so many bytes, which are paid for with one step more
-- variables: 0 text, 1 at, 2 count, 3 few, 4 char, 5 byte, 6 table, 7 made
abbrev pub string_part : ℕ → ℕ → LlGraph
string_part table copy = graph_of (codes "string_part") (0 ∷ 1 ∷ 2 ∷ []) (Ptr 0) (Ptr 0 ∷ Signed ∷ Signed ∷ Bool ∷ Char ∷ Signed ∷ Ptr table ∷ Ptr 0 ∷ []) (string_part_blocks_a ++ string_part_blocks_b table copy)

-- from the table
abbrev pub str_of_char_whole : ℕ → LlBlock
str_of_char_whole table = block_of (0 ∷ []) (
    Unary 1 C2S (Var 0)
    ∷ Set 2 (static_table table)
    ∷ GetItem 3 table 2 (Var 1) ∷ []) (Return (Some (Var 3)))

-- the string of a byte
-- variables: 0 char, 1 byte, 2 table, 3 made
abbrev pub str_of_char : ℕ → LlGraph
str_of_char table = graph_of (codes "str_of_char") (0 ∷ []) (Ptr 0) (Char ∷ Signed ∷ Ptr table ∷ Ptr 0 ∷ []) (
    str_of_char_whole table ∷ [])

-- whether the word is negative
abbrev pub str_of_word_sign : LlBlock
str_of_word_sign = block_of (0 ∷ []) (Binary 1 Lt (Var 0) (word (pos 0)) ∷ []) (fork 1 1 (Var 0 ∷ []) 2 (Var 0 ∷ []))

-- the sign, the digits before the last, and the last
abbrev pub str_of_word_negative : ℕ → ℕ → LlBlock
str_of_word_negative digits write = block_of (0 ∷ []) (
    Binary 2 Div (Var 0) (word (negsuc 9))
    ∷ Call (Some 3) digits (Var 2 ∷ [])
    ∷ Binary 10 Add (Var 3) (word (pos 1))
    ∷ Binary 4 Add (Var 3) (word (pos 2))
    ∷ Binary 5 Add (Var 3) (word (pos 3))
    ∷ Step (Var 5)
    ∷ NewArray 7 0 0 (Var 4)
    ∷ SetField 0 7 0 (Var 4)
    ∷ SetItem 0 7 (word (pos 0)) (byte 45)
    ∷ Binary 8 Mod (Var 0) (word (negsuc 9))
    ∷ Binary 8 Sub (word (pos 48)) (Var 8)
    ∷ Unary 9 S2C (Var 8)
    ∷ SetItem 0 7 (Var 10) (Var 9)
    ∷ Call None write (Var 7 ∷ Var 10 ∷ Var 2 ∷ []) ∷ []) (Return (Some (Var 7)))

-- how many digits there are, which are paid for
abbrev pub str_of_word_positive : ℕ → LlBlock
str_of_word_positive digits = block_of (0 ∷ []) (
    Binary 2 Div (Var 0) (word (pos 10))
    ∷ Call (Some 3) digits (Var 2 ∷ [])
    ∷ Binary 4 Add (Var 3) (word (pos 1))
    ∷ Binary 5 Add (Var 3) (word (pos 2))
    ∷ Step (Var 5)
    ∷ Binary 1 Lt (Var 4) (word (pos 2)) ∷ []) (fork 1 3 (Var 0 ∷ []) 4 (Var 0 ∷ Var 4 ∷ []))

-- one digit, from the table
abbrev pub str_of_word_single : ℕ → LlBlock
str_of_word_single table = block_of (0 ∷ []) (
    Binary 8 Add (Var 0) (word (pos 48))
    ∷ Set 6 (static_table table)
    ∷ GetItem 7 table 6 (Var 8) ∷ []) (Return (Some (Var 7)))

-- all digits
abbrev pub str_of_word_makes : ℕ → LlBlock
str_of_word_makes write = block_of (0 ∷ 4 ∷ []) (
    NewArray 7 0 0 (Var 4)
    ∷ SetField 0 7 0 (Var 4)
    ∷ Call None write (Var 7 ∷ Var 4 ∷ Var 0 ∷ []) ∷ []) (Return (Some (Var 7)))

abbrev pub str_of_word_blocks_a : ℕ → ℕ → List LlBlock
str_of_word_blocks_a digits write = str_of_word_sign ∷ str_of_word_negative digits write ∷ []

abbrev pub str_of_word_blocks_b : ℕ → ℕ → List LlBlock
str_of_word_blocks_b table digits = str_of_word_positive digits ∷ str_of_word_single table ∷ []

abbrev pub str_of_word_blocks_c : ℕ → List LlBlock
str_of_word_blocks_c write = str_of_word_makes write ∷ []

-- the decimal of a word. The divisor of a negative one is negative, so that the smallest has a quotient
-- variables: 0 number, 1 test, 2 rest, 3 digits, 4 length, 5 cost, 6 table, 7 made, 8 digit, 9 char, 10 place
abbrev pub str_of_word : ℕ → ℕ → ℕ → LlGraph
str_of_word table digits write = graph_of (codes "str_of_word") (0 ∷ []) (Ptr 0) (Signed ∷ Bool ∷ Signed ∷ Signed ∷ Signed ∷ Signed ∷ Ptr table ∷ Ptr 0 ∷ Signed ∷ Char ∷ Signed ∷ []) (str_of_word_blocks_a digits write ++ str_of_word_blocks_b table digits ++ str_of_word_blocks_c write)

abbrev pub str_of_bool_test : LlBlock
str_of_bool_test = block_of (0 ∷ []) [] (fork 0 1 [] 2 [])

abbrev pub str_of_bool_blocks : List LlBlock
str_of_bool_blocks = str_of_bool_test ∷ answer (static_text 258) ∷ answer (static_text 259) ∷ []

-- `True` or `False`
-- variables: 0 value
abbrev pub str_of_bool : LlGraph
str_of_bool = graph_of (codes "str_of_bool") (0 ∷ []) (Ptr 0) (Bool ∷ []) str_of_bool_blocks

abbrev pub str_add_ask_first : LlBlock
str_add_ask_first = ask (0 ∷ 1 ∷ []) (Var 0 ∷ Var 1 ∷ []) 0 2 2 1

abbrev pub str_add_next : LlBlock
str_add_next = ask (0 ∷ 1 ∷ []) (Var 0 ∷ Var 1 ∷ []) 1 2 2 3

-- the lengths. Where the first is empty, the bytes are those of the second
abbrev pub str_add_lengths : LlBlock
str_add_lengths = block_of (0 ∷ 1 ∷ []) (
    GetField 3 0 0 0
    ∷ GetField 4 0 1 0
    ∷ Binary 2 Lt (Var 3) (word (pos 1)) ∷ []) (fork 2 4 (Var 1 ∷ Var 4 ∷ []) 5 (Var 0 ∷ Var 3 ∷ Var 1 ∷ Var 4 ∷ []))

abbrev pub str_add_second : ℕ → LlBlock
str_add_second part = block_of (1 ∷ 4 ∷ []) (Call (Some 6) part (Var 1 ∷ word (pos 0) ∷ Var 4 ∷ []) ∷ []) (Return (Some (Var 6)))

-- where the second is empty, they are those of the first
abbrev pub str_add_sizes : LlBlock
str_add_sizes = block_of (0 ∷ 3 ∷ 1 ∷ 4 ∷ []) (
    Binary 2 Lt (Var 4) (word (pos 1)) ∷ []) (fork 2 6 (Var 0 ∷ Var 3 ∷ []) 7 (Var 0 ∷ Var 3 ∷ Var 1 ∷ Var 4 ∷ []))

abbrev pub str_add_first : ℕ → LlBlock
str_add_first part = block_of (0 ∷ 3 ∷ []) (Call (Some 6) part (Var 0 ∷ word (pos 0) ∷ Var 3 ∷ []) ∷ []) (Return (Some (Var 6)))

-- a new string, which is paid for in parts, since the whole cost may be no word
unfoldable pub str_add_makes : ℕ → LlBlock
str_add_makes copy = block_of (0 ∷ 3 ∷ 1 ∷ 4 ∷ []) (
    Step (word (pos 1))
    ∷ Step (Var 3)
    ∷ Step (Var 4)
    ∷ Binary 5 Add (Var 3) (Var 4)
    ∷ NewArray 6 0 0 (Var 5)
    ∷ SetField 0 6 0 (Var 5)
    ∷ Call None copy (Var 0 ∷ word (pos 0) ∷ Var 6 ∷ word (pos 0) ∷ Var 3 ∷ [])
    ∷ Call None copy (Var 1 ∷ word (pos 0) ∷ Var 6 ∷ Var 3 ∷ Var 4 ∷ []) ∷ []) (Return (Some (Var 6)))

abbrev pub str_add_blocks_a : List LlBlock
str_add_blocks_a =
    str_add_ask_first
    ∷ str_add_next
    ∷ fails 4 ∷ []

abbrev pub str_add_blocks_b : ℕ → List LlBlock
str_add_blocks_b part =
    str_add_lengths
    ∷ str_add_second part
    ∷ str_add_sizes ∷ []

abbrev pub str_add_blocks_c : ℕ → ℕ → List LlBlock
str_add_blocks_c copy part =
    str_add_first part
    ∷ str_add_makes copy ∷ []

-- two strings, one behind the other
-- variables: 0 first, 1 second, 2 test, 3 length, 4 size, 5 whole, 6 made
abbrev pub str_add : ℕ → ℕ → LlGraph
str_add copy part = graph_of (codes "str_add") (0 ∷ 1 ∷ []) (Ptr 0) (Ptr 0 ∷ Ptr 0 ∷ Bool ∷ Signed ∷ Signed ∷ Signed ∷ Ptr 0 ∷ []) (
    str_add_blocks_a ++ str_add_blocks_b part ++ str_add_blocks_c copy part)

abbrev pub str_mul_ask_text : LlBlock
str_mul_ask_text = ask (0 ∷ 1 ∷ []) (Var 0 ∷ Var 1 ∷ []) 0 2 1 2

-- whether it stands at least once
abbrev pub str_mul_sizes : LlBlock
str_mul_sizes = block_of (0 ∷ 1 ∷ []) (
    GetField 3 0 0 0
    ∷ Binary 2 Lt (Var 1) (word (pos 1)) ∷ []) (fork 2 3 (Var 0 ∷ []) 4 (Var 0 ∷ Var 1 ∷ Var 3 ∷ []))

-- no byte
abbrev pub str_mul_empty : ℕ → LlBlock
str_mul_empty part = block_of (0 ∷ []) (Call (Some 5) part (Var 0 ∷ word (pos 0) ∷ word (pos 0) ∷ []) ∷ []) (Return (Some (Var 5)))

-- whether the length is a word
abbrev pub str_mul_lengths : LlBlock
str_mul_lengths = block_of (0 ∷ 1 ∷ 3 ∷ []) (Binary 2 MulOvf (Var 3) (Var 1) ∷ []) (fork 2 5 [] 6 (Var 0 ∷ Var 1 ∷ Var 3 ∷ []))

-- a cost for which no steps suffice
abbrev pub str_mul_never : LlBlock
str_mul_never = block_of [] (Step (word (pos 4611686018427387904)) ∷ []) (Return (Some (static_text 0)))

-- whether there is more than a byte
abbrev pub str_mul_pays : LlBlock
str_mul_pays = block_of (0 ∷ 1 ∷ 3 ∷ []) (
    Binary 4 Mul (Var 3) (Var 1)
    ∷ Binary 2 Lt (Var 4) (word (pos 2)) ∷ []) (fork 2 7 (Var 0 ∷ Var 4 ∷ []) 8 (Var 0 ∷ Var 3 ∷ Var 4 ∷ []))

-- no byte or one
abbrev pub str_mul_short : ℕ → LlBlock
str_mul_short part = block_of (0 ∷ 4 ∷ []) (Call (Some 5) part (Var 0 ∷ word (pos 0) ∷ Var 4 ∷ []) ∷ []) (Return (Some (Var 5)))

-- a new string
abbrev pub str_mul_makes : ℕ → LlBlock
str_mul_makes repeat = block_of (0 ∷ 3 ∷ 4 ∷ []) (
    Step (word (pos 1))
    ∷ Step (Var 4)
    ∷ NewArray 5 0 0 (Var 4)
    ∷ SetField 0 5 0 (Var 4)
    ∷ Call None repeat (Var 0 ∷ Var 5 ∷ Var 3 ∷ Var 4 ∷ []) ∷ []) (Return (Some (Var 5)))

abbrev pub str_mul_blocks_a : List LlBlock
str_mul_blocks_a =
    str_mul_ask_text
    ∷ fails 4
    ∷ str_mul_sizes ∷ []

abbrev pub str_mul_blocks_b : ℕ → List LlBlock
str_mul_blocks_b part =
    str_mul_empty part
    ∷ str_mul_lengths
    ∷ str_mul_never ∷ []

abbrev pub str_mul_blocks_c : ℕ → ℕ → List LlBlock
str_mul_blocks_c part repeat =
    str_mul_pays
    ∷ str_mul_short part
    ∷ str_mul_makes repeat ∷ []

-- a string so many times; below zero counts as none
-- variables: 0 text, 1 times, 2 test, 3 size, 4 length, 5 made
abbrev pub str_mul : ℕ → ℕ → LlGraph
str_mul part repeat = graph_of (codes "str_mul") (0 ∷ 1 ∷ []) (Ptr 0) (Ptr 0 ∷ Signed ∷ Bool ∷ Signed ∷ Signed ∷ Ptr 0 ∷ []) (
    str_mul_blocks_a ++ str_mul_blocks_b part ++ str_mul_blocks_c part repeat)

abbrev pub str_slice_ask_text : LlBlock
str_slice_ask_text = ask (0 ∷ 1 ∷ 2 ∷ []) (Var 0 ∷ Var 1 ∷ Var 2 ∷ []) 0 3 1 2

-- the lower bound
abbrev pub str_slice_lower : LlBlock
str_slice_lower = block_of (0 ∷ 1 ∷ 2 ∷ []) (Binary 3 Lt (Var 1) (word (pos 0)) ∷ []) (fork 3 4 [] 3 (Var 0 ∷ Var 1 ∷ Var 2 ∷ []))

-- the upper bound
abbrev pub str_slice_upper : LlBlock
str_slice_upper = block_of (0 ∷ 1 ∷ 2 ∷ []) (Binary 3 Lt (Var 2) (word (pos 0)) ∷ []) (fork 3 4 [] 5 (Var 0 ∷ Var 1 ∷ Var 2 ∷ []))

-- past the end it is cut there
abbrev pub str_slice_cuts : LlBlock
str_slice_cuts = block_of (0 ∷ 1 ∷ 2 ∷ []) (
    GetField 4 0 0 0
    ∷ Binary 3 Lt (Var 2) (Var 4) ∷ []) (fork 3 6 (Var 0 ∷ Var 1 ∷ Var 2 ∷ []) 6 (Var 0 ∷ Var 1 ∷ Var 4 ∷ []))

-- whether there is a byte between them
abbrev pub str_slice_counts : LlBlock
str_slice_counts = block_of (0 ∷ 1 ∷ 2 ∷ []) (Binary 3 Lt (Var 1) (Var 2) ∷ []) (fork 3 7 (Var 0 ∷ Var 1 ∷ Var 2 ∷ []) 8 (Var 0 ∷ []))

abbrev pub str_slice_between : ℕ → LlBlock
str_slice_between part = block_of (0 ∷ 1 ∷ 2 ∷ []) (
    Binary 5 Sub (Var 2) (Var 1)
    ∷ Call (Some 6) part (Var 0 ∷ Var 1 ∷ Var 5 ∷ []) ∷ []) (Return (Some (Var 6)))

-- no byte
abbrev pub str_slice_empty : ℕ → LlBlock
str_slice_empty part = block_of (0 ∷ []) (Call (Some 6) part (Var 0 ∷ word (pos 0) ∷ word (pos 0) ∷ []) ∷ []) (Return (Some (Var 6)))

abbrev pub str_slice_blocks_a : List LlBlock
str_slice_blocks_a =
    str_slice_ask_text
    ∷ fails 4
    ∷ str_slice_lower ∷ []

abbrev pub str_slice_blocks_b : List LlBlock
str_slice_blocks_b =
    str_slice_upper
    ∷ fails 5
    ∷ str_slice_cuts ∷ []

abbrev pub str_slice_blocks_c : ℕ → List LlBlock
str_slice_blocks_c part =
    str_slice_counts
    ∷ str_slice_between part
    ∷ str_slice_empty part ∷ []

-- the bytes from a place up to another, cut at the end; a bound below zero fails
-- variables: 0 text, 1 low, 2 high, 3 test, 4 length, 5 count, 6 made
abbrev pub str_slice : ℕ → LlGraph
str_slice part = graph_of (codes "str_slice") (0 ∷ 1 ∷ 2 ∷ []) (Ptr 0) (Ptr 0 ∷ Signed ∷ Signed ∷ Bool ∷ Signed ∷ Signed ∷ Ptr 0 ∷ []) (
    str_slice_blocks_a ++ str_slice_blocks_b ++ str_slice_blocks_c part)

abbrev pub str_but_last_ask_text : LlBlock
str_but_last_ask_text = ask (0 ∷ []) (Var 0 ∷ []) 0 1 1 2

-- whether there is a byte
abbrev pub str_but_last_lengths : LlBlock
str_but_last_lengths = block_of (0 ∷ []) (
    GetField 2 0 0 0
    ∷ Binary 1 Lt (Var 2) (word (pos 1)) ∷ []) (fork 1 4 (Var 0 ∷ Var 2 ∷ []) 3 (Var 0 ∷ Var 2 ∷ []))

-- one byte less
abbrev pub str_but_last_shorter : LlBlock
str_but_last_shorter = block_of (0 ∷ 2 ∷ []) (Binary 2 Sub (Var 2) (word (pos 1)) ∷ []) (Goto (to 4 (Var 0 ∷ Var 2 ∷ [])))

abbrev pub str_but_last_takes : ℕ → LlBlock
str_but_last_takes part = block_of (0 ∷ 2 ∷ []) (Call (Some 3) part (Var 0 ∷ word (pos 0) ∷ Var 2 ∷ []) ∷ []) (Return (Some (Var 3)))

abbrev pub str_but_last_blocks_a : List LlBlock
str_but_last_blocks_a = str_but_last_ask_text ∷ fails 4 ∷ str_but_last_lengths ∷ []

abbrev pub str_but_last_blocks_b : ℕ → List LlBlock
str_but_last_blocks_b part = str_but_last_shorter ∷ str_but_last_takes part ∷ []

-- all bytes but the last
-- variables: 0 text, 1 test, 2 length, 3 made
abbrev pub str_but_last : ℕ → LlGraph
str_but_last part = graph_of (codes "str_but_last") (0 ∷ []) (Ptr 0) (Ptr 0 ∷ Bool ∷ Signed ∷ Ptr 0 ∷ []) (str_but_last_blocks_a ++ str_but_last_blocks_b part)

abbrev pub str_strip_ask_text : LlBlock
str_strip_ask_text = ask (0 ∷ []) (Var 0 ∷ []) 0 1 1 2

-- what stands between the blanks
abbrev pub str_strip_takes : ℕ → ℕ → ℕ → LlBlock
str_strip_takes part forwards backwards = block_of (0 ∷ []) (
    Call (Some 2) forwards (Var 0 ∷ [])
    ∷ Call (Some 3) backwards (Var 0 ∷ Var 2 ∷ [])
    ∷ Binary 4 Sub (Var 3) (Var 2)
    ∷ Call (Some 5) part (Var 0 ∷ Var 2 ∷ Var 4 ∷ []) ∷ []) (Return (Some (Var 5)))

abbrev pub str_strip_blocks : ℕ → ℕ → ℕ → List LlBlock
str_strip_blocks part forwards backwards = str_strip_ask_text ∷ fails 4 ∷ str_strip_takes part forwards backwards ∷ []

-- a string without blanks at its ends
-- variables: 0 text, 1 test, 2 from, 3 end, 4 count, 5 made
abbrev pub str_strip : ℕ → ℕ → ℕ → LlGraph
str_strip part forwards backwards = graph_of (codes "str_strip") (0 ∷ []) (Ptr 0) (Ptr 0 ∷ Bool ∷ Signed ∷ Signed ∷ Signed ∷ Ptr 0 ∷ []) (str_strip_blocks part forwards backwards)
