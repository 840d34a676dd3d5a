-- Graphs that ask something of strings, or write them.
use Rattle.std.specs.Prelude.{ℕ, pos, Some, None, codes, false, List, [], ◌∷◌, ◌++◌}
use Rattle.csub_tree.specs.declared.tree.CBinary.TheVariants.{Add, Sub, Eq, Lt, Le, Peq}
use Rattle.csub_tree.specs.declared.tree.COperand.TheVariants.{Var}
use Rattle.ll_code.specs.declared.program.LlType.TheVariants.{Signed, Char, Bool, Void, Ptr}
use Rattle.ll_code.specs.declared.program.LlOp.TheVariants.{Binary, GetField, GetItem, Call}
use Rattle.ll_code.specs.declared.program.LlExit.TheVariants.{Return}
use Rattle.ll_code.specs.declared.program.LlBlock.{LlBlock}
use Rattle.ll_code.specs.declared.program.LlGraph.{LlGraph}
use Rattle.ll_build.specs.Build.{word, flag, null, fork, block_of, graph_of, ask, fails, answer}

abbrev pub print_str_ask_text : LlBlock
print_str_ask_text = ask (0 ∷ []) (Var 0 ∷ []) 0 1 1 2

abbrev pub print_str_puts : ℕ → LlBlock
print_str_puts puts = block_of (0 ∷ []) (Call None puts (Var 0 ∷ []) ∷ []) (Return None)

abbrev pub print_str_blocks : ℕ → List LlBlock
print_str_blocks puts = print_str_ask_text ∷ fails 4 ∷ print_str_puts puts ∷ []

-- prints the bytes of a string
-- variables: 0 text, 1 test
abbrev pub print_str : ℕ → LlGraph
print_str puts = graph_of (codes "print_str") (0 ∷ []) Void (Ptr 0 ∷ Bool ∷ []) (print_str_blocks puts)

abbrev pub str_write_ask_text : LlBlock
str_write_ask_text = ask (0 ∷ []) (Var 0 ∷ []) 0 1 1 2

abbrev pub str_write_writes : ℕ → LlBlock
str_write_writes puts = block_of (0 ∷ []) (Call None puts (Var 0 ∷ []) ∷ GetField 2 0 0 0 ∷ []) (Return (Some (Var 2)))

abbrev pub str_write_blocks : ℕ → List LlBlock
str_write_blocks puts = str_write_ask_text ∷ fails 4 ∷ str_write_writes puts ∷ []

-- writes the bytes of a string, and gives their number
-- variables: 0 text, 1 test, 2 length
abbrev pub str_write : ℕ → LlGraph
str_write puts = graph_of (codes "str_write") (0 ∷ []) Signed (Ptr 0 ∷ Bool ∷ Signed ∷ []) (str_write_blocks puts)

abbrev pub str_index_ask_text : LlBlock
str_index_ask_text = ask (0 ∷ 1 ∷ []) (Var 0 ∷ Var 1 ∷ []) 0 2 1 2

-- whether the place counts from the end
abbrev pub str_index_sides : LlBlock
str_index_sides = block_of (0 ∷ 1 ∷ []) (
    GetField 3 0 0 0
    ∷ Binary 2 Lt (Var 1) (word (pos 0)) ∷ []) (fork 2 3 (Var 0 ∷ Var 1 ∷ Var 3 ∷ []) 4 (Var 0 ∷ Var 1 ∷ Var 3 ∷ []))

-- it has the length added once
abbrev pub str_index_turns : LlBlock
str_index_turns = block_of (0 ∷ 1 ∷ 3 ∷ []) (
    Binary 1 Add (Var 1) (Var 3)
    ∷ Binary 2 Lt (Var 1) (word (pos 0)) ∷ []) (fork 2 5 [] 4 (Var 0 ∷ Var 1 ∷ Var 3 ∷ []))

-- whether it is below the length
abbrev pub str_index_bounds : LlBlock
str_index_bounds = block_of (0 ∷ 1 ∷ 3 ∷ []) (Binary 2 Lt (Var 1) (Var 3) ∷ []) (fork 2 6 (Var 0 ∷ Var 1 ∷ []) 5 [])

abbrev pub str_index_takes : LlBlock
str_index_takes = block_of (0 ∷ 1 ∷ []) (GetItem 4 0 0 (Var 1) ∷ []) (Return (Some (Var 4)))

abbrev pub str_index_blocks_a : List LlBlock
str_index_blocks_a =
    str_index_ask_text
    ∷ fails 4
    ∷ str_index_sides
    ∷ str_index_turns ∷ []

abbrev pub str_index_blocks_b : List LlBlock
str_index_blocks_b =
    str_index_bounds
    ∷ fails 1
    ∷ str_index_takes ∷ []

-- the byte at a place; one below zero counts from the end, and one outside fails
-- variables: 0 text, 1 at, 2 test, 3 length, 4 char
abbrev pub str_index : LlGraph
str_index = graph_of (codes "str_index") (0 ∷ 1 ∷ []) Char (Ptr 0 ∷ Signed ∷ Bool ∷ Signed ∷ Char ∷ []) (
    str_index_blocks_a ++ str_index_blocks_b)

abbrev pub str_len_ask_text : LlBlock
str_len_ask_text = ask (0 ∷ []) (Var 0 ∷ []) 0 1 1 2

abbrev pub str_len_takes : LlBlock
str_len_takes = block_of (0 ∷ []) (GetField 2 0 0 0 ∷ []) (Return (Some (Var 2)))

abbrev pub str_len_blocks : List LlBlock
str_len_blocks = str_len_ask_text ∷ fails 4 ∷ str_len_takes ∷ []

-- the length of a string
-- variables: 0 text, 1 test, 2 length
abbrev pub str_len : LlGraph
str_len = graph_of (codes "str_len") (0 ∷ []) Signed (Ptr 0 ∷ Bool ∷ Signed ∷ []) str_len_blocks

abbrev pub str_truth_ask_text : LlBlock
str_truth_ask_text = ask (0 ∷ []) (Var 0 ∷ []) 0 1 1 2

abbrev pub str_truth_takes : LlBlock
str_truth_takes = block_of (0 ∷ []) (GetField 2 0 0 0 ∷ Binary 1 Lt (word (pos 0)) (Var 2) ∷ []) (Return (Some (Var 1)))

abbrev pub str_truth_blocks : List LlBlock
str_truth_blocks = str_truth_ask_text ∷ answer (flag false) ∷ str_truth_takes ∷ []

-- whether a string is there and has a byte
-- variables: 0 text, 1 test, 2 length
abbrev pub str_truth : LlGraph
str_truth = graph_of (codes "str_truth") (0 ∷ []) Bool (Ptr 0 ∷ Bool ∷ Signed ∷ []) str_truth_blocks

-- whether the first is missing
abbrev pub str_equal_first : LlBlock
str_equal_first = block_of (0 ∷ 1 ∷ []) (Binary 2 Peq (Var 0) null ∷ []) (fork 2 1 (Var 1 ∷ []) 2 (Var 0 ∷ Var 1 ∷ []))

-- the second must then be, too
abbrev pub str_equal_missing : LlBlock
str_equal_missing = block_of (1 ∷ []) (Binary 2 Peq (Var 1) null ∷ []) (Return (Some (Var 2)))

-- whether the second is missing
abbrev pub str_equal_second : LlBlock
str_equal_second = block_of (0 ∷ 1 ∷ []) (Binary 2 Peq (Var 1) null ∷ []) (fork 2 5 [] 3 (Var 0 ∷ Var 1 ∷ []))

-- whether they are of one length
abbrev pub str_equal_lengths : LlBlock
str_equal_lengths = block_of (0 ∷ 1 ∷ []) (
    GetField 3 0 0 0
    ∷ GetField 4 0 1 0
    ∷ Binary 2 Eq (Var 3) (Var 4) ∷ []) (fork 2 4 (Var 0 ∷ Var 1 ∷ Var 3 ∷ []) 5 [])

-- whether they are alike
abbrev pub str_equal_bytes : ℕ → LlBlock
str_equal_bytes alike = block_of (0 ∷ 1 ∷ 3 ∷ []) (
    Call (Some 2) alike (Var 0 ∷ word (pos 0) ∷ Var 1 ∷ word (pos 0) ∷ Var 3 ∷ []) ∷ []) (Return (Some (Var 2)))

abbrev pub str_equal_blocks_a : List LlBlock
str_equal_blocks_a =
    str_equal_first
    ∷ str_equal_missing
    ∷ str_equal_second ∷ []

abbrev pub str_equal_blocks_b : ℕ → List LlBlock
str_equal_blocks_b alike =
    str_equal_lengths
    ∷ str_equal_bytes alike
    ∷ answer (flag false) ∷ []

-- whether two strings are equal, or both missing
-- variables: 0 first, 1 second, 2 test, 3 length, 4 size
abbrev pub str_equal : ℕ → LlGraph
str_equal alike = graph_of (codes "str_equal") (0 ∷ 1 ∷ []) Bool (Ptr 0 ∷ Ptr 0 ∷ Bool ∷ Signed ∷ Signed ∷ []) (
    str_equal_blocks_a ++ str_equal_blocks_b alike)

abbrev pub str_less_whole : ℕ → LlBlock
str_less_whole less = block_of (0 ∷ 1 ∷ []) (
    GetField 3 0 0 0
    ∷ GetField 4 0 1 0
    ∷ Call (Some 2) less (Var 0 ∷ Var 3 ∷ Var 1 ∷ Var 4 ∷ []) ∷ []) (Return (Some (Var 2)))

-- whether the first of two strings is less
-- variables: 0 first, 1 second, 2 test, 3 length, 4 size
abbrev pub str_less : ℕ → LlGraph
str_less less = graph_of (codes "str_less") (0 ∷ 1 ∷ []) Bool (Ptr 0 ∷ Ptr 0 ∷ Bool ∷ Signed ∷ Signed ∷ []) (
    str_less_whole less ∷ [])

abbrev pub str_contains_ask_text : LlBlock
str_contains_ask_text = ask (0 ∷ 1 ∷ []) (Var 0 ∷ Var 1 ∷ []) 1 2 2 1

abbrev pub str_contains_part : LlBlock
str_contains_part = ask (0 ∷ 1 ∷ []) (Var 0 ∷ Var 1 ∷ []) 0 2 2 3

-- whether it stands at a place
abbrev pub str_contains_takes : ℕ → LlBlock
str_contains_takes find = block_of (0 ∷ 1 ∷ []) (
    GetField 3 0 1 0
    ∷ GetField 4 0 0 0
    ∷ Call (Some 5) find (Var 1 ∷ Var 3 ∷ Var 0 ∷ Var 4 ∷ [])
    ∷ Binary 2 Le (word (pos 0)) (Var 5) ∷ []) (Return (Some (Var 2)))

abbrev pub str_contains_blocks_a : List LlBlock
str_contains_blocks_a = str_contains_ask_text ∷ str_contains_part ∷ []

abbrev pub str_contains_blocks_b : ℕ → List LlBlock
str_contains_blocks_b find = fails 4 ∷ str_contains_takes find ∷ []

-- whether the first string is a part of the second
-- variables: 0 part, 1 text, 2 test, 3 length, 4 size, 5 place
abbrev pub str_contains : ℕ → LlGraph
str_contains find = graph_of (codes "str_contains") (0 ∷ 1 ∷ []) Bool (Ptr 0 ∷ Ptr 0 ∷ Bool ∷ Signed ∷ Signed ∷ Signed ∷ []) (str_contains_blocks_a ++ str_contains_blocks_b find)

abbrev pub str_find_ask_text : LlBlock
str_find_ask_text = ask (0 ∷ 1 ∷ []) (Var 0 ∷ Var 1 ∷ []) 0 2 2 1

abbrev pub str_find_part : LlBlock
str_find_part = ask (0 ∷ 1 ∷ []) (Var 0 ∷ Var 1 ∷ []) 1 2 2 3

abbrev pub str_find_takes : ℕ → LlBlock
str_find_takes find = block_of (0 ∷ 1 ∷ []) (
    GetField 3 0 0 0
    ∷ GetField 4 0 1 0
    ∷ Call (Some 5) find (Var 0 ∷ Var 3 ∷ Var 1 ∷ Var 4 ∷ []) ∷ []) (Return (Some (Var 5)))

abbrev pub str_find_blocks_a : List LlBlock
str_find_blocks_a = str_find_ask_text ∷ str_find_part ∷ []

abbrev pub str_find_blocks_b : ℕ → List LlBlock
str_find_blocks_b find = fails 4 ∷ str_find_takes find ∷ []

-- the first place from which the first string begins with the second, or -1
-- variables: 0 text, 1 part, 2 test, 3 length, 4 size, 5 place
abbrev pub str_find : ℕ → LlGraph
str_find find = graph_of (codes "str_find") (0 ∷ 1 ∷ []) Signed (Ptr 0 ∷ Ptr 0 ∷ Bool ∷ Signed ∷ Signed ∷ Signed ∷ []) (str_find_blocks_a ++ str_find_blocks_b find)

abbrev pub str_starts_with_ask_text : LlBlock
str_starts_with_ask_text = ask (0 ∷ 1 ∷ []) (Var 0 ∷ Var 1 ∷ []) 0 2 2 1

abbrev pub str_starts_with_part : LlBlock
str_starts_with_part = ask (0 ∷ 1 ∷ []) (Var 0 ∷ Var 1 ∷ []) 1 2 2 3

-- whether the second is no longer
abbrev pub str_starts_with_takes : LlBlock
str_starts_with_takes = block_of (0 ∷ 1 ∷ []) (
    GetField 3 0 0 0
    ∷ GetField 4 0 1 0
    ∷ Binary 2 Le (Var 4) (Var 3) ∷ []) (fork 2 4 (Var 0 ∷ Var 1 ∷ Var 4 ∷ []) 5 [])

-- whether they are alike
abbrev pub str_starts_with_bytes : ℕ → LlBlock
str_starts_with_bytes alike = block_of (0 ∷ 1 ∷ 4 ∷ []) (
    Call (Some 2) alike (Var 0 ∷ word (pos 0) ∷ Var 1 ∷ word (pos 0) ∷ Var 4 ∷ []) ∷ []) (Return (Some (Var 2)))

abbrev pub str_starts_with_blocks_a : List LlBlock
str_starts_with_blocks_a =
    str_starts_with_ask_text
    ∷ str_starts_with_part
    ∷ fails 4 ∷ []

abbrev pub str_starts_with_blocks_b : ℕ → List LlBlock
str_starts_with_blocks_b alike =
    str_starts_with_takes
    ∷ str_starts_with_bytes alike
    ∷ answer (flag false) ∷ []

-- whether the first string begins with the second
-- variables: 0 text, 1 part, 2 test, 3 length, 4 size
abbrev pub str_starts_with : ℕ → LlGraph
str_starts_with alike = graph_of (codes "str_starts_with") (0 ∷ 1 ∷ []) Bool (Ptr 0 ∷ Ptr 0 ∷ Bool ∷ Signed ∷ Signed ∷ []) (
    str_starts_with_blocks_a ++ str_starts_with_blocks_b alike)

abbrev pub str_ends_with_ask_text : LlBlock
str_ends_with_ask_text = ask (0 ∷ 1 ∷ []) (Var 0 ∷ Var 1 ∷ []) 0 2 2 1

abbrev pub str_ends_with_part : LlBlock
str_ends_with_part = ask (0 ∷ 1 ∷ []) (Var 0 ∷ Var 1 ∷ []) 1 2 2 3

-- whether the second is no longer
abbrev pub str_ends_with_takes : LlBlock
str_ends_with_takes = block_of (0 ∷ 1 ∷ []) (
    GetField 3 0 0 0
    ∷ GetField 4 0 1 0
    ∷ Binary 2 Le (Var 4) (Var 3) ∷ []) (fork 2 4 (Var 0 ∷ Var 1 ∷ Var 4 ∷ Var 3 ∷ []) 5 [])

-- whether they are alike
abbrev pub str_ends_with_bytes : ℕ → LlBlock
str_ends_with_bytes alike = block_of (0 ∷ 1 ∷ 4 ∷ 3 ∷ []) (
    Binary 3 Sub (Var 3) (Var 4)
    ∷ Call (Some 2) alike (Var 0 ∷ Var 3 ∷ Var 1 ∷ word (pos 0) ∷ Var 4 ∷ []) ∷ []) (Return (Some (Var 2)))

abbrev pub str_ends_with_blocks_a : List LlBlock
str_ends_with_blocks_a =
    str_ends_with_ask_text
    ∷ str_ends_with_part
    ∷ fails 4 ∷ []

abbrev pub str_ends_with_blocks_b : ℕ → List LlBlock
str_ends_with_blocks_b alike =
    str_ends_with_takes
    ∷ str_ends_with_bytes alike
    ∷ answer (flag false) ∷ []

-- whether the first string ends with the second
-- variables: 0 text, 1 part, 2 test, 3 length, 4 size
abbrev pub str_ends_with : ℕ → LlGraph
str_ends_with alike = graph_of (codes "str_ends_with") (0 ∷ 1 ∷ []) Bool (Ptr 0 ∷ Ptr 0 ∷ Bool ∷ Signed ∷ Signed ∷ []) (
    str_ends_with_blocks_a ++ str_ends_with_blocks_b alike)

abbrev pub str_walk_ask_text : LlBlock
str_walk_ask_text = ask (0 ∷ []) (Var 0 ∷ []) 0 1 1 2

abbrev pub str_walk_takes : LlBlock
str_walk_takes = block_of (0 ∷ []) [] (Return (Some (Var 0)))

abbrev pub str_walk_blocks : List LlBlock
str_walk_blocks = str_walk_ask_text ∷ fails 4 ∷ str_walk_takes ∷ []

-- what is walked: the string itself
-- variables: 0 text, 1 test
abbrev pub str_walk : LlGraph
str_walk = graph_of (codes "str_walk") (0 ∷ []) (Ptr 0) (Ptr 0 ∷ Bool ∷ []) str_walk_blocks

abbrev pub str_has_item_whole : LlBlock
str_has_item_whole = block_of (0 ∷ 1 ∷ []) (GetField 2 0 0 0 ∷ Binary 3 Lt (Var 1) (Var 2) ∷ []) (Return (Some (Var 3)))

-- whether a place is below the length
-- variables: 0 text, 1 at, 2 length, 3 test
abbrev pub str_has_item : LlGraph
str_has_item = graph_of (codes "str_has_item") (0 ∷ 1 ∷ []) Bool (Ptr 0 ∷ Signed ∷ Signed ∷ Bool ∷ []) (
    str_has_item_whole ∷ [])

abbrev pub str_item_whole : LlBlock
str_item_whole = block_of (0 ∷ 1 ∷ []) (GetItem 2 0 0 (Var 1) ∷ []) (Return (Some (Var 2)))

-- the byte at a place that is there
-- variables: 0 text, 1 at, 2 char
abbrev pub str_item : LlGraph
str_item = graph_of (codes "str_item") (0 ∷ 1 ∷ []) Char (Ptr 0 ∷ Signed ∷ Char ∷ []) (
    str_item_whole ∷ [])
