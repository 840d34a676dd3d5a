-- Strings out of lists, and lists out of strings. All is paid before the first block is made.
use Rattle.std.specs.Prelude.{ℕ, List, [], ◌∷◌, ◌++◌, pos, Some, None, codes}
use Rattle.csub_tree.specs.declared.tree.CBinary.TheVariants.{Add, Sub, Lt, Gt, Eq}
use Rattle.csub_tree.specs.declared.tree.CUnary.TheVariants.{C2S, B2S}
use Rattle.csub_tree.specs.declared.tree.CCell.{CCell}
use Rattle.csub_tree.specs.declared.tree.CCell.TheVariants as cell
use Rattle.csub_tree.specs.declared.tree.CConst.{CConst}
use Rattle.csub_tree.specs.declared.tree.CConst.TheVariants.{Word}
use Rattle.csub_tree.specs.declared.tree.COperand.{COperand}
use Rattle.csub_tree.specs.declared.tree.COperand.TheVariants.{Var, Const}
use Rattle.ll_code.specs.declared.program.LlType.{LlType}
use Rattle.ll_code.specs.declared.program.LlType.TheVariants.{Signed, Bool, Char, Ptr}
use Rattle.ll_code.specs.declared.program.LlOp.{LlOp}
use Rattle.ll_code.specs.declared.program.LlOp.TheVariants.{Unary, Binary, GetField, SetField, GetItem, SetItem, NewArray, Step, Call}
use Rattle.ll_code.specs.declared.program.LlExit.TheVariants.{Goto, Return}
use Rattle.ll_code.specs.declared.program.LlBlock.{LlBlock}
use Rattle.ll_code.specs.declared.program.LlGraph.{LlGraph}
use Rattle.ll_build.specs.declared.needs.Helper.TheVariants.{StrOfChar}
use Rattle.ll_build.specs.Build.{word, to, fork, block_of, graph_of, answer}
use Rattle.rtyper_layout.specs.declared.layout.Layout.{Layout}
use Rattle.rtyper_data.specs.declared.body.Body.{Body}
use Rattle.rtyper_data.specs.declared.found.Found.{Found}
use Rattle.rtyper_data.specs.declared.small.Listed.TheVariants.{Make, Copy, Part}
use Rattle.rtyper_data.specs.Converting.{value_as}
use Rattle.rtyper_data.specs.Finding.{helper_number, static_of}
use Rattle.rtyper_data.specs.Graphs.{body_of}
use Rattle.rtyper_data.specs.Seen.{fresh, with_op, Writing, writing, push}
use Rattle.rtyper_data.specs.Tuples.{variable_of}
use Rattle.list_shape.specs.declared.shape.Shape.{Shape}
use Rattle.list_shape.specs.Shapes.{length_read, array_read, new_by, number_of, taking, gives}

-- what a graph of three variables passes on
abbrev pub three : List COperand
three = Var 0 ∷ Var 1 ∷ Var 2 ∷ []

-- ---- a part of a string, which costs nothing: short ones are statics

-- the string without bytes
unfoldable pub empty : Found → CConst × Found
empty found = static_of 0 (cell.Const (Word (pos 0)) ∷ cell.Braces [] ∷ []) found

unfoldable pub part_types : List LlType
part_types = Ptr 0 ∷ Signed ∷ Signed ∷ Bool ∷ Char ∷ Ptr 0 ∷ Ptr 0 ∷ []

unfoldable pub part_none : LlBlock
part_none = block_of (0 ∷ 1 ∷ 2 ∷ []) (Binary 3 Eq (Var 2) (word (pos 0)) ∷ []) (fork 3 1 [] 2 three)

unfoldable pub part_one : LlBlock
part_one = block_of (0 ∷ 1 ∷ 2 ∷ []) (Binary 3 Eq (Var 2) (word (pos 1)) ∷ []) (fork 3 3 (Var 0 ∷ Var 1 ∷ []) 4 three)

unfoldable pub part_byte : ℕ → LlBlock
part_byte of_char = block_of (0 ∷ 1 ∷ []) (GetItem 4 0 0 (Var 1) ∷ Call (Some 5) of_char (Var 4 ∷ []) ∷ []) (Return (Some (Var 5)))

unfoldable pub part_more : ℕ → LlBlock
part_more copies = block_of (0 ∷ 1 ∷ 2 ∷ []) (
    NewArray 6 0 0 (Var 2)
    ∷ SetField 0 6 0 (Var 2)
    ∷ Call None copies (Var 0 ∷ Var 1 ∷ Var 6 ∷ word (pos 0) ∷ Var 2 ∷ []) ∷ []) (Return (Some (Var 6)))

-- no byte or one
unfoldable pub part_short : CConst → ℕ → List LlBlock
part_short nothing of_char = part_none ∷ answer (Const nothing) ∷ part_one ∷ part_byte of_char ∷ []

unfoldable pub part_graph : CConst → ℕ → ℕ → LlGraph
part_graph nothing of_char copies = graph_of (codes "text_part") (0 ∷ 1 ∷ 2 ∷ []) (Ptr 0) part_types (part_short nothing of_char ++ part_more copies ∷ [])

abbrev pub part_with : CConst × Found → LlGraph × Found
part_with nothing =
    taking (helper_number StrOfChar nothing.1) (λ of_char last.
    taking (number_of (Copy 0 0) last) (λ copies all. (part_graph nothing.0 of_char copies, all)))

unfoldable pub part : Found → LlGraph × Found
part found = part_with (empty found)

-- ---- `join`: 0 the string between, 1 the list, 2 its array, 3 its length, 4 the length of the string between, 5 a place, 6 the
-- length of all, 7 a test, 8 the result, 9 a place in it, 10 and 11 what comes next, 12 the length of an item, 13 a short result

unfoldable pub join_types : Shape → List LlType
join_types s = Ptr 0 ∷ Ptr s.list ∷ Ptr s.array ∷ Signed ∷ Signed ∷ Signed ∷ Signed ∷ Bool ∷ Ptr 0 ∷ Signed ∷ Signed ∷ Signed ∷ Signed ∷ Ptr 0 ∷ []

abbrev pub measured : Found → ℕ × Body → ℕ × Writing
measured found text = (text.0, writing found (with_op (GetField 12 0 text.0 0) text.1))

abbrev pub item_as_text : COperand × Writing → ℕ × Writing
item_as_text item = measured item.1.found (variable_of item.0 (Ptr 0) item.1.body)

abbrev pub item_text_of : Layout → Shape → Found → COperand × Body → ℕ × Writing
item_text_of layout s found item = item_as_text (value_as layout item.0 s.item (Ptr 0) (writing found item.1))

-- the item at the place, as a string, and its length
unfoldable pub item_text : Layout → Shape → Writing → ℕ × Writing
item_text layout s w = item_text_of layout s w.found (new_by s.item (λ v. GetItem v s.array 2 (Var 5)) w.body)

-- the variables alone
abbrev pub without_ops : Body → Body
without_ops body = body_of body.types

-- a block of what was written
abbrev pub taken : (List LlOp → LlBlock) → Writing → LlBlock × Writing
taken block w = (block w.body.ops, writing w.found (without_ops w.body))

-- 0 and 2 to 6: what counting goes on with
abbrev pub counting : List ℕ
counting = 0 ∷ 2 ∷ 3 ∷ 4 ∷ 5 ∷ 6 ∷ []

abbrev pub counted_next : List COperand
counted_next = Var 0 ∷ Var 2 ∷ Var 3 ∷ Var 4 ∷ Var 5 ∷ Var 11 ∷ []

unfoldable pub join_start : Shape → LlBlock
join_start s = block_of (0 ∷ 1 ∷ []) (
    length_read 3 s 1
    ∷ array_read 2 s 1
    ∷ GetField 4 0 0 0
    ∷ Step (word (pos 1)) ∷ []) (Goto (to 1 (Var 0 ∷ Var 2 ∷ Var 3 ∷ Var 4 ∷ word (pos 0) ∷ word (pos 0) ∷ [])))

unfoldable pub join_asks : LlBlock
join_asks = block_of counting (Binary 7 Lt (Var 5) (Var 3) ∷ []) (fork 7 2 (Var 0 ∷ Var 2 ∷ Var 3 ∷ Var 4 ∷ Var 5 ∷ Var 6 ∷ []) 5 (Var 0 ∷ Var 2 ∷ Var 3 ∷ Var 4 ∷ Var 6 ∷ []))

unfoldable pub counted_block : List LlOp → LlBlock
counted_block ops = block_of counting ops (fork 7 3 counted_next 4 counted_next)

-- an item is paid by its length
abbrev pub counted_by : ℕ × Writing → LlBlock × Writing
counted_by text = taken counted_block (push (Binary 7 Gt (Var 5) (word (pos 0))) (push (Binary 11 Add (Var 6) (Var 12)) (push (Step (Var 12)) text.1)))

unfoldable pub counted : Layout → Shape → Writing → LlBlock × Writing
counted layout s w = counted_by (item_text layout s w)

-- and the string before it by its own
unfoldable pub join_between : LlBlock
join_between = block_of counting (Step (Var 4) ∷ Binary 11 Add (Var 6) (Var 4) ∷ []) (Goto (to 4 counted_next))

unfoldable pub join_next : LlBlock
join_next = block_of counting (Binary 10 Add (Var 5) (word (pos 1)) ∷ []) (Goto (to 1 (Var 0 ∷ Var 2 ∷ Var 3 ∷ Var 4 ∷ Var 10 ∷ Var 6 ∷ [])))

unfoldable pub join_made : LlBlock
join_made = block_of (0 ∷ 2 ∷ 3 ∷ 4 ∷ 6 ∷ []) (
    NewArray 8 0 0 (Var 6)
    ∷ SetField 0 8 0 (Var 6) ∷ []) (Goto (to 6 (Var 0 ∷ Var 2 ∷ Var 3 ∷ Var 4 ∷ Var 8 ∷ word (pos 0) ∷ word (pos 0) ∷ Var 6 ∷ [])))

-- what writing goes on with
abbrev pub joining : List ℕ
joining = 0 ∷ 2 ∷ 3 ∷ 4 ∷ 8 ∷ 5 ∷ 9 ∷ 6 ∷ []

abbrev pub joining_on : List COperand
joining_on = Var 0 ∷ Var 2 ∷ Var 3 ∷ Var 4 ∷ Var 8 ∷ Var 5 ∷ Var 9 ∷ Var 6 ∷ []

unfoldable pub join_more : LlBlock
join_more = block_of joining (Binary 7 Lt (Var 5) (Var 3) ∷ []) (fork 7 7 joining_on 10 (Var 8 ∷ Var 6 ∷ []))

unfoldable pub join_behind_first : LlBlock
join_behind_first = block_of joining (Binary 7 Gt (Var 5) (word (pos 0)) ∷ []) (fork 7 8 joining_on 9 joining_on)

unfoldable pub join_separated : ℕ → LlBlock
join_separated copies = block_of joining (
    Call None copies (Var 0 ∷ word (pos 0) ∷ Var 8 ∷ Var 9 ∷ Var 4 ∷ [])
    ∷ Binary 11 Add (Var 9) (Var 4) ∷ []) (Goto (to 9 (Var 0 ∷ Var 2 ∷ Var 3 ∷ Var 4 ∷ Var 8 ∷ Var 5 ∷ Var 11 ∷ Var 6 ∷ [])))

unfoldable pub put_block : List LlOp → LlBlock
put_block ops = block_of joining ops (Goto (to 6 (Var 0 ∷ Var 2 ∷ Var 3 ∷ Var 4 ∷ Var 8 ∷ Var 10 ∷ Var 11 ∷ Var 6 ∷ [])))

abbrev pub put_by : ℕ → ℕ × Writing → LlBlock × Writing
put_by copies text =
    taken put_block
    (push (Binary 10 Add (Var 5) (word (pos 1)))
    (push (Binary 11 Add (Var 9) (Var 12))
    (push (Call None copies (Var text.0 ∷ word (pos 0) ∷ Var 8 ∷ Var 9 ∷ Var 12 ∷ [])) text.1)))

unfoldable pub put : Layout → Shape → ℕ → Writing → LlBlock × Writing
put layout s copies w = put_by copies (item_text layout s w)

unfoldable pub join_short : LlBlock
join_short = block_of (8 ∷ 6 ∷ []) (Binary 7 Lt (Var 6) (word (pos 2)) ∷ []) (fork 7 11 (Var 8 ∷ Var 6 ∷ []) 12 (Var 8 ∷ []))

unfoldable pub join_shortened : ℕ → LlBlock
join_shortened parts = block_of (8 ∷ 6 ∷ []) (Call (Some 13) parts (Var 8 ∷ word (pos 0) ∷ Var 6 ∷ []) ∷ []) (Return (Some (Var 13)))

-- blocks 0 to 4 count and pay, 5 makes the result, 6 to 9 write it, 10 to 12 give it
unfoldable pub join_graph : Shape → LlBlock → ℕ → LlBlock → ℕ → List LlType → LlGraph
join_graph s counts copies puts parts types = graph_of (codes "join") (0 ∷ 1 ∷ []) (Ptr 0) types (
    join_start s
    ∷ join_asks
    ∷ counts
    ∷ join_between
    ∷ join_next
    ∷ join_made
    ∷ join_more
    ∷ join_behind_first
    ∷ join_separated copies
    ∷ puts
    ∷ join_short
    ∷ join_shortened parts
    ∷ gives 8
    ∷ [])

abbrev pub join_last : Shape → LlBlock → ℕ → LlBlock × Writing → LlGraph × Found
join_last s counts copies puts = taking (number_of Part puts.1.found) (λ parts all. (join_graph s counts copies puts.0 parts puts.1.body.types, all))

abbrev pub join_with : Layout → Shape → LlBlock × Writing → LlGraph × Found
join_with layout s counts = taking (number_of (Copy 0 0) counts.1.found) (λ copies next. join_last s counts.0 copies (put layout s copies (writing next counts.1.body)))

unfoldable pub join : Layout → Shape → Found → LlGraph × Found
join layout s found = join_with layout s (counted layout s (writing found (body_of (join_types s))))

-- ---- `split`: 0 the string, 1 the character, 2 its number, 3 the length, 4 a place, 5 the number of parts, 6 a test, 7 the list, 8
-- its array, 9 where a part begins, 10 the place of a part, 11 to 15 what comes between

unfoldable pub split_types : Shape → List LlType
split_types s = Ptr 0 ∷ Char ∷ Signed ∷ Signed ∷ Signed ∷ Signed ∷ Bool ∷ Ptr s.list ∷ Ptr s.array ∷ Signed ∷ Signed ∷ Char ∷ Signed ∷ Signed ∷ Ptr 0 ∷ Signed ∷ []

unfoldable pub split_start : LlBlock
split_start = block_of (0 ∷ 1 ∷ []) (Unary 2 C2S (Var 1) ∷ GetField 3 0 0 0 ∷ []) (Goto (to 1 (Var 0 ∷ Var 2 ∷ Var 3 ∷ word (pos 0) ∷ word (pos 1) ∷ [])))

unfoldable pub split_asks : LlBlock
split_asks = block_of (0 ∷ 2 ∷ 3 ∷ 4 ∷ 5 ∷ []) (Binary 6 Lt (Var 4) (Var 3) ∷ []) (fork 6 2 (Var 0 ∷ Var 2 ∷ Var 3 ∷ Var 4 ∷ Var 5 ∷ []) 3 (Var 0 ∷ Var 2 ∷ Var 3 ∷ Var 5 ∷ []))

unfoldable pub split_counted : LlBlock
split_counted = block_of (0 ∷ 2 ∷ 3 ∷ 4 ∷ 5 ∷ []) (
    GetItem 11 0 0 (Var 4)
    ∷ Unary 12 C2S (Var 11)
    ∷ Binary 6 Eq (Var 12) (Var 2)
    ∷ Unary 13 B2S (Var 6)
    ∷ Binary 12 Add (Var 5) (Var 13)
    ∷ Binary 13 Add (Var 4) (word (pos 1)) ∷ []) (Goto (to 1 (Var 0 ∷ Var 2 ∷ Var 3 ∷ Var 13 ∷ Var 12 ∷ [])))

-- a step, two for each part, and one for each byte of the parts
unfoldable pub split_paid : ℕ → Shape → LlBlock
split_paid makes s = block_of (0 ∷ 2 ∷ 3 ∷ 5 ∷ []) (
    Binary 12 Sub (Var 3) (Var 5)
    ∷ Binary 12 Add (Var 12) (word (pos 1))
    ∷ Step (word (pos 1))
    ∷ Step (Var 5)
    ∷ Step (Var 5)
    ∷ Step (Var 12)
    ∷ Call (Some 7) makes (Var 5 ∷ [])
    ∷ array_read 8 s 7 ∷ []) (Goto (to 4 (Var 0 ∷ Var 2 ∷ Var 3 ∷ Var 7 ∷ Var 8 ∷ word (pos 0) ∷ word (pos 0) ∷ word (pos 0) ∷ [])))

-- what taking parts goes on with
abbrev pub splitting : List ℕ
splitting = 0 ∷ 2 ∷ 3 ∷ 7 ∷ 8 ∷ 4 ∷ 9 ∷ 10 ∷ []

abbrev pub splitting_on : List COperand
splitting_on = Var 0 ∷ Var 2 ∷ Var 3 ∷ Var 7 ∷ Var 8 ∷ Var 4 ∷ Var 9 ∷ Var 10 ∷ []

unfoldable pub split_more : LlBlock
split_more = block_of splitting (Binary 6 Lt (Var 4) (Var 3) ∷ []) (fork 6 5 splitting_on 8 (Var 0 ∷ Var 3 ∷ Var 7 ∷ Var 8 ∷ Var 9 ∷ Var 10 ∷ []))

unfoldable pub split_tested : LlBlock
split_tested = block_of splitting (
    GetItem 11 0 0 (Var 4)
    ∷ Unary 12 C2S (Var 11)
    ∷ Binary 6 Eq (Var 12) (Var 2) ∷ []) (fork 6 6 splitting_on 7 splitting_on)

unfoldable pub split_part : ℕ → Shape → LlBlock
split_part parts s = block_of splitting (
    Binary 12 Sub (Var 4) (Var 9)
    ∷ Call (Some 14) parts (Var 0 ∷ Var 9 ∷ Var 12 ∷ [])
    ∷ SetItem s.array 8 (Var 10) (Var 14)
    ∷ Binary 12 Add (Var 4) (word (pos 1))
    ∷ Binary 13 Add (Var 10) (word (pos 1)) ∷ []) (Goto (to 4 (Var 0 ∷ Var 2 ∷ Var 3 ∷ Var 7 ∷ Var 8 ∷ Var 12 ∷ Var 12 ∷ Var 13 ∷ [])))

unfoldable pub split_next : LlBlock
split_next = block_of splitting (Binary 12 Add (Var 4) (word (pos 1)) ∷ []) (Goto (to 4 (Var 0 ∷ Var 2 ∷ Var 3 ∷ Var 7 ∷ Var 8 ∷ Var 12 ∷ Var 9 ∷ Var 10 ∷ [])))

unfoldable pub split_last : ℕ → Shape → LlBlock
split_last parts s = block_of (0 ∷ 3 ∷ 7 ∷ 8 ∷ 9 ∷ 10 ∷ []) (
    Binary 12 Sub (Var 3) (Var 9)
    ∷ Call (Some 14) parts (Var 0 ∷ Var 9 ∷ Var 12 ∷ [])
    ∷ SetItem s.array 8 (Var 10) (Var 14) ∷ []) (Return (Some (Var 7)))

-- blocks 0 to 2 count the parts, 3 pays and makes the list, 4 to 8 take the parts
unfoldable pub split_graph : ℕ → ℕ → Shape → LlGraph
split_graph makes parts s = graph_of (codes "split") (0 ∷ 1 ∷ []) (Ptr s.list) (split_types s) (
    split_start
    ∷ split_asks
    ∷ split_counted
    ∷ split_paid makes s
    ∷ split_more
    ∷ split_tested
    ∷ split_part parts s
    ∷ split_next
    ∷ split_last parts s
    ∷ [])

unfoldable pub split : Shape → Found → LlGraph × Found
split s found =
    taking (number_of (Make s.list) found) (λ makes next.
    taking (number_of Part next) (λ parts all. (split_graph makes parts s, all)))
