-- Loops over the bytes of strings, which the helpers call.
use Rattle.std.specs.Prelude.{ℕ, pos, negsuc, Some, None, codes, true, false, List, [], ◌∷◌, ◌++◌}
use Rattle.csub_tree.specs.declared.tree.CUnary.TheVariants.{C2S, S2C}
use Rattle.csub_tree.specs.declared.tree.CBinary.TheVariants.{Add, Sub, Div, Mod, Eq, Lt, Le}
use Rattle.csub_tree.specs.declared.tree.COperand.TheVariants.{Var}
use Rattle.ll_code.specs.declared.program.LlType.TheVariants.{Signed, Char, Bool, Void, Ptr}
use Rattle.ll_code.specs.declared.program.LlOp.TheVariants.{Unary, Binary, GetField, GetItem, SetItem, Call, Put}
use Rattle.ll_code.specs.declared.program.LlExit.TheVariants.{Goto, Return}
use Rattle.ll_code.specs.declared.program.LlBlock.{LlBlock}
use Rattle.ll_code.specs.declared.program.LlGraph.{LlGraph}
use Rattle.ll_build.specs.Build.{word, flag, to, fork, block_of, graph_of, done, answer}

-- the length, and the first place
abbrev pub put_bytes_start : LlBlock
put_bytes_start = block_of (0 ∷ []) (GetField 1 0 0 0 ∷ []) (Goto (to 1 (Var 0 ∷ Var 1 ∷ word (pos 0) ∷ [])))

-- whether there is a byte at the place
abbrev pub put_bytes_test : LlBlock
put_bytes_test = block_of (0 ∷ 1 ∷ 2 ∷ []) (Binary 3 Lt (Var 2) (Var 1) ∷ []) (fork 3 2 (Var 0 ∷ Var 1 ∷ Var 2 ∷ []) 3 [])

-- puts it and goes on
abbrev pub put_bytes_byte : LlBlock
put_bytes_byte = block_of (0 ∷ 1 ∷ 2 ∷ []) (
    GetItem 4 0 0 (Var 2)
    ∷ Unary 5 C2S (Var 4)
    ∷ Put (Var 5)
    ∷ Binary 2 Add (Var 2) (word (pos 1)) ∷ []) (Goto (to 1 (Var 0 ∷ Var 1 ∷ Var 2 ∷ [])))

abbrev pub put_bytes_blocks_a : List LlBlock
put_bytes_blocks_a = put_bytes_start ∷ put_bytes_test ∷ []

abbrev pub put_bytes_blocks_b : List LlBlock
put_bytes_blocks_b = put_bytes_byte ∷ done ∷ []

-- prints the bytes of a string
-- variables: 0 text, 1 length, 2 at, 3 more, 4 char, 5 byte
abbrev pub put_bytes : LlGraph
put_bytes = graph_of (codes "put_bytes") (0 ∷ []) Void (Ptr 0 ∷ Signed ∷ Signed ∷ Bool ∷ Char ∷ Signed ∷ []) (put_bytes_blocks_a ++ put_bytes_blocks_b)

-- whether there is a byte left
abbrev pub copy_bytes_test : LlBlock
copy_bytes_test = block_of (0 ∷ 1 ∷ 2 ∷ 3 ∷ 4 ∷ []) (
    Binary 5 Lt (word (pos 0)) (Var 4) ∷ []) (fork 5 1 (Var 0 ∷ Var 1 ∷ Var 2 ∷ Var 3 ∷ Var 4 ∷ []) 2 [])

-- copies one and goes on
abbrev pub copy_bytes_turn : LlBlock
copy_bytes_turn = block_of (0 ∷ 1 ∷ 2 ∷ 3 ∷ 4 ∷ []) (
    GetItem 6 0 0 (Var 1)
    ∷ SetItem 0 2 (Var 3) (Var 6)
    ∷ Binary 1 Add (Var 1) (word (pos 1))
    ∷ Binary 3 Add (Var 3) (word (pos 1))
    ∷ Binary 4 Sub (Var 4) (word (pos 1)) ∷ []) (Goto (to 0 (Var 0 ∷ Var 1 ∷ Var 2 ∷ Var 3 ∷ Var 4 ∷ [])))

abbrev pub copy_bytes_blocks : List LlBlock
copy_bytes_blocks = copy_bytes_test ∷ copy_bytes_turn ∷ done ∷ []

-- copies bytes: from a string and a place to another string and place, so many
-- variables: 0 source, 1 from, 2 target, 3 to, 4 count, 5 more, 6 char
abbrev pub copy_bytes : LlGraph
copy_bytes = graph_of (codes "copy_bytes") (0 ∷ 1 ∷ 2 ∷ 3 ∷ 4 ∷ []) Void (Ptr 0 ∷ Signed ∷ Ptr 0 ∷ Signed ∷ Signed ∷ Bool ∷ Char ∷ []) copy_bytes_blocks

-- the first place
abbrev pub repeat_bytes_start : LlBlock
repeat_bytes_start = block_of (0 ∷ 1 ∷ 2 ∷ 3 ∷ []) [] (Goto (to 1 (Var 0 ∷ Var 1 ∷ Var 2 ∷ Var 3 ∷ word (pos 0) ∷ [])))

-- whether there is room left
abbrev pub repeat_bytes_test : LlBlock
repeat_bytes_test = block_of (0 ∷ 1 ∷ 2 ∷ 3 ∷ 4 ∷ []) (Binary 5 Lt (Var 4) (Var 3) ∷ []) (fork 5 2 (Var 0 ∷ Var 1 ∷ Var 2 ∷ Var 3 ∷ Var 4 ∷ []) 3 [])

-- one copy more
abbrev pub repeat_bytes_turn : ℕ → LlBlock
repeat_bytes_turn copy = block_of (0 ∷ 1 ∷ 2 ∷ 3 ∷ 4 ∷ []) (
    Call None copy (Var 0 ∷ word (pos 0) ∷ Var 1 ∷ Var 4 ∷ Var 2 ∷ [])
    ∷ Binary 4 Add (Var 4) (Var 2) ∷ []) (Goto (to 1 (Var 0 ∷ Var 1 ∷ Var 2 ∷ Var 3 ∷ Var 4 ∷ [])))

abbrev pub repeat_bytes_blocks_a : List LlBlock
repeat_bytes_blocks_a = repeat_bytes_start ∷ repeat_bytes_test ∷ []

abbrev pub repeat_bytes_blocks_b : ℕ → List LlBlock
repeat_bytes_blocks_b copy = repeat_bytes_turn copy ∷ done ∷ []

-- fills a string of this length with copies of one of this size
-- variables: 0 source, 1 target, 2 size, 3 length, 4 at, 5 more
abbrev pub repeat_bytes : ℕ → LlGraph
repeat_bytes copy = graph_of (codes "repeat_bytes") (0 ∷ 1 ∷ 2 ∷ 3 ∷ []) Void (Ptr 0 ∷ Ptr 0 ∷ Signed ∷ Signed ∷ Signed ∷ Bool ∷ []) (repeat_bytes_blocks_a ++ repeat_bytes_blocks_b copy)

-- whether there is a byte left
abbrev pub alike_bytes_test : LlBlock
alike_bytes_test = block_of (0 ∷ 1 ∷ 2 ∷ 3 ∷ 4 ∷ []) (
    Binary 5 Lt (word (pos 0)) (Var 4) ∷ []) (fork 5 1 (Var 0 ∷ Var 1 ∷ Var 2 ∷ Var 3 ∷ Var 4 ∷ []) 2 [])

-- compares one of each
abbrev pub alike_bytes_turn : LlBlock
alike_bytes_turn = block_of (0 ∷ 1 ∷ 2 ∷ 3 ∷ 4 ∷ []) (
    GetItem 6 0 0 (Var 1)
    ∷ GetItem 7 0 2 (Var 3)
    ∷ Unary 8 C2S (Var 6)
    ∷ Unary 9 C2S (Var 7)
    ∷ Binary 5 Eq (Var 8) (Var 9)
    ∷ Binary 1 Add (Var 1) (word (pos 1))
    ∷ Binary 3 Add (Var 3) (word (pos 1))
    ∷ Binary 4 Sub (Var 4) (word (pos 1)) ∷ []) (fork 5 0 (Var 0 ∷ Var 1 ∷ Var 2 ∷ Var 3 ∷ Var 4 ∷ []) 3 [])

abbrev pub alike_bytes_blocks_a : List LlBlock
alike_bytes_blocks_a = alike_bytes_test ∷ alike_bytes_turn ∷ []

abbrev pub alike_bytes_blocks_b : List LlBlock
alike_bytes_blocks_b = answer (flag true) ∷ answer (flag false) ∷ []

-- whether two stretches of this many bytes are alike, each of a string from a place on
-- variables: 0 first, 1 from, 2 second, 3 at, 4 count, 5 more, 6 left, 7 right, 8 low, 9 high
abbrev pub alike_bytes : LlGraph
alike_bytes = graph_of (codes "alike_bytes") (0 ∷ 1 ∷ 2 ∷ 3 ∷ 4 ∷ []) Bool (Ptr 0 ∷ Signed ∷ Ptr 0 ∷ Signed ∷ Signed ∷ Bool ∷ Char ∷ Char ∷ Signed ∷ Signed ∷ []) (alike_bytes_blocks_a ++ alike_bytes_blocks_b)

-- the last place that the part could stand at
abbrev pub find_bytes_start : LlBlock
find_bytes_start = block_of (0 ∷ 1 ∷ 2 ∷ 3 ∷ []) (Binary 4 Sub (Var 1) (Var 3) ∷ []) (Goto (to 1 (Var 0 ∷ Var 2 ∷ Var 3 ∷ Var 4 ∷ word (pos 0) ∷ [])))

-- whether the part could stand here
abbrev pub find_bytes_test : LlBlock
find_bytes_test = block_of (0 ∷ 2 ∷ 3 ∷ 4 ∷ 5 ∷ []) (Binary 6 Le (Var 5) (Var 4) ∷ []) (fork 6 2 (Var 0 ∷ Var 2 ∷ Var 3 ∷ Var 4 ∷ Var 5 ∷ []) 5 [])

-- whether it stands here
abbrev pub find_bytes_look : ℕ → LlBlock
find_bytes_look alike = block_of (0 ∷ 2 ∷ 3 ∷ 4 ∷ 5 ∷ []) (
    Call (Some 6) alike (Var 0 ∷ Var 5 ∷ Var 2 ∷ word (pos 0) ∷ Var 3 ∷ []) ∷ []) (fork 6 4 (Var 5 ∷ []) 3 (Var 0 ∷ Var 2 ∷ Var 3 ∷ Var 4 ∷ Var 5 ∷ []))

-- the next place
abbrev pub find_bytes_next : LlBlock
find_bytes_next = block_of (0 ∷ 2 ∷ 3 ∷ 4 ∷ 5 ∷ []) (
    Binary 5 Add (Var 5) (word (pos 1)) ∷ []) (Goto (to 1 (Var 0 ∷ Var 2 ∷ Var 3 ∷ Var 4 ∷ Var 5 ∷ [])))

abbrev pub find_bytes_found : LlBlock
find_bytes_found = block_of (5 ∷ []) [] (Return (Some (Var 5)))

abbrev pub find_bytes_blocks_a : ℕ → List LlBlock
find_bytes_blocks_a alike =
    find_bytes_start
    ∷ find_bytes_test
    ∷ find_bytes_look alike ∷ []

abbrev pub find_bytes_blocks_b : List LlBlock
find_bytes_blocks_b =
    find_bytes_next
    ∷ find_bytes_found
    ∷ answer (word (negsuc 0)) ∷ []

-- the first place from which a text of this length begins with a part of this size, or -1
-- variables: 0 text, 1 length, 2 part, 3 size, 4 last, 5 at, 6 more
abbrev pub find_bytes : ℕ → LlGraph
find_bytes alike = graph_of (codes "find_bytes") (0 ∷ 1 ∷ 2 ∷ 3 ∷ []) Signed (Ptr 0 ∷ Signed ∷ Ptr 0 ∷ Signed ∷ Signed ∷ Signed ∷ Bool ∷ []) (
    find_bytes_blocks_a alike ++ find_bytes_blocks_b)

-- the first place
abbrev pub less_bytes_start : LlBlock
less_bytes_start = block_of (0 ∷ 1 ∷ 2 ∷ 3 ∷ []) [] (Goto (to 1 (Var 0 ∷ Var 1 ∷ Var 2 ∷ Var 3 ∷ word (pos 0) ∷ [])))

-- whether the second has a byte there; if not, the first is no less
abbrev pub less_bytes_second : LlBlock
less_bytes_second = block_of (0 ∷ 1 ∷ 2 ∷ 3 ∷ 4 ∷ []) (Binary 5 Lt (Var 4) (Var 3) ∷ []) (fork 5 2 (Var 0 ∷ Var 1 ∷ Var 2 ∷ Var 3 ∷ Var 4 ∷ []) 6 [])

-- whether the first has one; if not, it is less
abbrev pub less_bytes_first : LlBlock
less_bytes_first = block_of (0 ∷ 1 ∷ 2 ∷ 3 ∷ 4 ∷ []) (Binary 5 Lt (Var 4) (Var 1) ∷ []) (fork 5 3 (Var 0 ∷ Var 1 ∷ Var 2 ∷ Var 3 ∷ Var 4 ∷ []) 5 [])

-- goes on where both have the same byte
abbrev pub less_bytes_turn : LlBlock
less_bytes_turn = block_of (0 ∷ 1 ∷ 2 ∷ 3 ∷ 4 ∷ []) (
    GetItem 6 0 0 (Var 4)
    ∷ GetItem 7 0 2 (Var 4)
    ∷ Unary 8 C2S (Var 6)
    ∷ Unary 9 C2S (Var 7)
    ∷ Binary 5 Eq (Var 8) (Var 9)
    ∷ Binary 4 Add (Var 4) (word (pos 1)) ∷ []) (fork 5 1 (Var 0 ∷ Var 1 ∷ Var 2 ∷ Var 3 ∷ Var 4 ∷ []) 4 (Var 8 ∷ Var 9 ∷ []))

-- by the first bytes that differ
abbrev pub less_bytes_differ : LlBlock
less_bytes_differ = block_of (8 ∷ 9 ∷ []) (Binary 5 Lt (Var 8) (Var 9) ∷ []) (Return (Some (Var 5)))

abbrev pub less_bytes_blocks_a : List LlBlock
less_bytes_blocks_a =
    less_bytes_start
    ∷ less_bytes_second
    ∷ less_bytes_first
    ∷ less_bytes_turn ∷ []

abbrev pub less_bytes_blocks_b : List LlBlock
less_bytes_blocks_b =
    less_bytes_differ
    ∷ answer (flag true)
    ∷ answer (flag false) ∷ []

-- whether the first of two strings of these lengths is less
-- variables: 0 first, 1 length, 2 second, 3 size, 4 at, 5 more, 6 left, 7 right, 8 low, 9 high
abbrev pub less_bytes : LlGraph
less_bytes = graph_of (codes "less_bytes") (0 ∷ 1 ∷ 2 ∷ 3 ∷ []) Bool (Ptr 0 ∷ Signed ∷ Ptr 0 ∷ Signed ∷ Signed ∷ Bool ∷ Char ∷ Char ∷ Signed ∷ Signed ∷ []) (
    less_bytes_blocks_a ++ less_bytes_blocks_b)

-- none yet
abbrev pub count_digits_start : LlBlock
count_digits_start = block_of (0 ∷ []) [] (Goto (to 1 (Var 0 ∷ word (pos 0) ∷ [])))

-- whether there is a digit left
abbrev pub count_digits_test : LlBlock
count_digits_test = block_of (0 ∷ 1 ∷ []) (Binary 2 Lt (word (pos 0)) (Var 0) ∷ []) (fork 2 2 (Var 0 ∷ Var 1 ∷ []) 3 (Var 1 ∷ []))

-- one digit more
abbrev pub count_digits_turn : LlBlock
count_digits_turn = block_of (0 ∷ 1 ∷ []) (
    Binary 0 Div (Var 0) (word (pos 10))
    ∷ Binary 1 Add (Var 1) (word (pos 1)) ∷ []) (Goto (to 1 (Var 0 ∷ Var 1 ∷ [])))

abbrev pub count_digits_done : LlBlock
count_digits_done = block_of (1 ∷ []) [] (Return (Some (Var 1)))

abbrev pub count_digits_blocks_a : List LlBlock
count_digits_blocks_a = count_digits_start ∷ count_digits_test ∷ []

abbrev pub count_digits_blocks_b : List LlBlock
count_digits_blocks_b = count_digits_turn ∷ count_digits_done ∷ []

-- how many digits a word has that is not negative; zero has none
-- variables: 0 number, 1 count, 2 more
abbrev pub count_digits : LlGraph
count_digits = graph_of (codes "count_digits") (0 ∷ []) Signed (Signed ∷ Signed ∷ Bool ∷ []) (count_digits_blocks_a ++ count_digits_blocks_b)

-- whether there is a digit left
abbrev pub write_digits_test : LlBlock
write_digits_test = block_of (0 ∷ 1 ∷ 2 ∷ []) (Binary 3 Lt (word (pos 0)) (Var 2) ∷ []) (fork 3 1 (Var 0 ∷ Var 1 ∷ Var 2 ∷ []) 2 [])

-- writes the last one and goes on
abbrev pub write_digits_turn : LlBlock
write_digits_turn = block_of (0 ∷ 1 ∷ 2 ∷ []) (
    Binary 4 Mod (Var 2) (word (pos 10))
    ∷ Binary 4 Add (Var 4) (word (pos 48))
    ∷ Unary 5 S2C (Var 4)
    ∷ Binary 1 Sub (Var 1) (word (pos 1))
    ∷ SetItem 0 0 (Var 1) (Var 5)
    ∷ Binary 2 Div (Var 2) (word (pos 10)) ∷ []) (Goto (to 0 (Var 0 ∷ Var 1 ∷ Var 2 ∷ [])))

abbrev pub write_digits_blocks : List LlBlock
write_digits_blocks = write_digits_test ∷ write_digits_turn ∷ done ∷ []

-- writes the digits of a word that is not negative into a string, so that they end before a place; of zero none
-- variables: 0 text, 1 end, 2 number, 3 more, 4 digit, 5 char
abbrev pub write_digits : LlGraph
write_digits = graph_of (codes "write_digits") (0 ∷ 1 ∷ 2 ∷ []) Void (Ptr 0 ∷ Signed ∷ Signed ∷ Bool ∷ Signed ∷ Char ∷ []) write_digits_blocks

-- the length, and the first place
abbrev pub skip_forwards_start : LlBlock
skip_forwards_start = block_of (0 ∷ []) (GetField 1 0 0 0 ∷ []) (Goto (to 1 (Var 0 ∷ Var 1 ∷ word (pos 0) ∷ [])))

-- whether there is a byte at the place
abbrev pub skip_forwards_test : LlBlock
skip_forwards_test = block_of (0 ∷ 1 ∷ 2 ∷ []) (Binary 3 Lt (Var 2) (Var 1) ∷ []) (fork 3 2 (Var 0 ∷ Var 1 ∷ Var 2 ∷ []) 4 (Var 2 ∷ []))

-- whether it is blank
abbrev pub skip_forwards_look : ℕ → LlBlock
skip_forwards_look space = block_of (0 ∷ 1 ∷ 2 ∷ []) (
    GetItem 4 0 0 (Var 2)
    ∷ Call (Some 3) space (Var 4 ∷ []) ∷ []) (fork 3 3 (Var 0 ∷ Var 1 ∷ Var 2 ∷ []) 4 (Var 2 ∷ []))

-- the next place
abbrev pub skip_forwards_next : LlBlock
skip_forwards_next = block_of (0 ∷ 1 ∷ 2 ∷ []) (Binary 2 Add (Var 2) (word (pos 1)) ∷ []) (Goto (to 1 (Var 0 ∷ Var 1 ∷ Var 2 ∷ [])))

abbrev pub skip_forwards_done : LlBlock
skip_forwards_done = block_of (2 ∷ []) [] (Return (Some (Var 2)))

abbrev pub skip_forwards_blocks_a : ℕ → List LlBlock
skip_forwards_blocks_a space = skip_forwards_start ∷ skip_forwards_test ∷ skip_forwards_look space ∷ []

abbrev pub skip_forwards_blocks_b : List LlBlock
skip_forwards_blocks_b = skip_forwards_next ∷ skip_forwards_done ∷ []

-- the first place of a string that has no blank, or its length
-- variables: 0 text, 1 length, 2 at, 3 more, 4 char
abbrev pub skip_forwards : ℕ → LlGraph
skip_forwards space = graph_of (codes "skip_forwards") (0 ∷ []) Signed (Ptr 0 ∷ Signed ∷ Signed ∷ Bool ∷ Char ∷ []) (skip_forwards_blocks_a space ++ skip_forwards_blocks_b)

-- the length
abbrev pub skip_backwards_start : LlBlock
skip_backwards_start = block_of (0 ∷ 1 ∷ []) (GetField 2 0 0 0 ∷ []) (Goto (to 1 (Var 0 ∷ Var 1 ∷ Var 2 ∷ [])))

-- whether there is a byte before the place
abbrev pub skip_backwards_test : LlBlock
skip_backwards_test = block_of (0 ∷ 1 ∷ 2 ∷ []) (Binary 4 Lt (Var 1) (Var 2) ∷ []) (fork 4 2 (Var 0 ∷ Var 1 ∷ Var 2 ∷ []) 3 (Var 2 ∷ []))

-- whether it is blank
abbrev pub skip_backwards_look : ℕ → LlBlock
skip_backwards_look space = block_of (0 ∷ 1 ∷ 2 ∷ []) (
    Binary 3 Sub (Var 2) (word (pos 1))
    ∷ GetItem 5 0 0 (Var 3)
    ∷ Call (Some 4) space (Var 5 ∷ []) ∷ []) (fork 4 1 (Var 0 ∷ Var 1 ∷ Var 3 ∷ []) 3 (Var 2 ∷ []))

abbrev pub skip_backwards_done : LlBlock
skip_backwards_done = block_of (2 ∷ []) [] (Return (Some (Var 2)))

abbrev pub skip_backwards_blocks_a : List LlBlock
skip_backwards_blocks_a = skip_backwards_start ∷ skip_backwards_test ∷ []

abbrev pub skip_backwards_blocks_b : ℕ → List LlBlock
skip_backwards_blocks_b space = skip_backwards_look space ∷ skip_backwards_done ∷ []

-- the place behind the last byte that is no blank, but none before this one
-- variables: 0 text, 1 from, 2 end, 3 place, 4 more, 5 char
abbrev pub skip_backwards : ℕ → LlGraph
skip_backwards space = graph_of (codes "skip_backwards") (0 ∷ 1 ∷ []) Signed (Ptr 0 ∷ Signed ∷ Signed ∷ Signed ∷ Bool ∷ Char ∷ []) (skip_backwards_blocks_a ++ skip_backwards_blocks_b space)
