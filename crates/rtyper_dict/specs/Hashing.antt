-- Hashes of keys. They are those that the dicts of constants have.
use Rattle.std.specs.Prelude.{ℕ, ◌+◌, ◌==◌, if◌then◌else◌, ℤ, List, [], ◌∷◌, Some, pos, negsuc, codes}
use Rattle.csub_tree.specs.declared.tree.CBinary.TheVariants.{Mul, Shr, Xor}
use Rattle.csub_tree.specs.declared.tree.CUnary.TheVariants.{C2S}
use Rattle.csub_tree.specs.declared.tree.COperand.{COperand}
use Rattle.csub_tree.specs.declared.tree.COperand.TheVariants.{Var}
use Rattle.ll_code.specs.declared.program.LlType.{LlType}
use Rattle.ll_code.specs.declared.program.LlType.TheVariants.{Signed, Bool, Char, Ptr}
use Rattle.ll_code.specs.declared.program.LlOp.TheVariants.{Binary, Unary, GetField, GetItem, Call}
use Rattle.ll_code.specs.declared.program.LlExit.TheVariants.{Goto, Return}
use Rattle.ll_code.specs.declared.program.LlBlock.{LlBlock}
use Rattle.ll_code.specs.declared.program.LlGraph.{LlGraph}
use Rattle.ll_build.specs.Build.{word, to, fork, block_of, graph_of}
use Rattle.rtyper_layout.specs.declared.layout.Layout.{Layout}
use Rattle.rtyper_data.specs.declared.body.Body.{Body}
use Rattle.rtyper_data.specs.declared.found.Found.{Found}
use Rattle.rtyper_data.specs.declared.small.Keyed.TheVariants.{Hash}
use Rattle.rtyper_data.specs.declared.small.Small.TheVariants.{Keyed}
use Rattle.rtyper_data.specs.Comparing.{alone, binary_in, field_of}
use Rattle.rtyper_data.specs.Converting.{by_small}
use Rattle.rtyper_data.specs.Graphs.{body_of, fields_at}
use Rattle.rtyper_data.specs.Seen.{Writing, writing}
use Rattle.list_shape.specs.Shapes.{taking}
use Rattle.rtyper_dict.specs.Parts.{add, less, stored, keyed_number}

abbrev pub mix_factor : ℤ
mix_factor = negsuc 7046029254386353130

abbrev pub hash_factor : ℤ
hash_factor = pos 1099511628211

-- ---- words

unfoldable pub word_mixed : LlBlock
word_mixed = block_of (0 ∷ []) (
    Binary 1 Mul (Var 0) (word mix_factor)
    ∷ Binary 2 Shr (Var 1) (word (pos 32))
    ∷ Binary 3 Xor (Var 1) (Var 2) ∷ []) (Return (Some (Var 3)))

unfoldable pub of_word : LlGraph
of_word = graph_of (codes "hash_word") (0 ∷ []) Signed (Signed ∷ Signed ∷ Signed ∷ Signed ∷ []) (word_mixed ∷ [])

-- ---- strings: 0 the string, 1 the hash so far, 2 a place, 3 the length

abbrev pub text_turns : List COperand
text_turns = Var 0 ∷ Var 1 ∷ Var 2 ∷ Var 3 ∷ []

unfoldable pub text_start : LlBlock
text_start = block_of (0 ∷ []) (GetField 3 0 0 0 ∷ []) (Goto (to 1 (Var 0 ∷ word (pos 0) ∷ word (pos 0) ∷ Var 3 ∷ [])))

unfoldable pub text_asks : LlBlock
text_asks = block_of (0 ∷ 1 ∷ 2 ∷ 3 ∷ []) (less 4 2 (Var 3) ∷ []) (fork 4 2 text_turns 3 (Var 1 ∷ []))

unfoldable pub text_turn : LlBlock
text_turn = block_of (0 ∷ 1 ∷ 2 ∷ 3 ∷ []) (
    GetItem 5 0 0 (Var 2)
    ∷ Unary 6 C2S (Var 5)
    ∷ Binary 7 Xor (Var 1) (Var 6)
    ∷ Binary 8 Mul (Var 7) (word hash_factor)
    ∷ add 9 2 (word (pos 1)) ∷ []) (Goto (to 1 (Var 0 ∷ Var 8 ∷ Var 9 ∷ Var 3 ∷ [])))

unfoldable pub text_mixed : ℕ → LlBlock
text_mixed mixes = block_of (1 ∷ []) (Call (Some 6) mixes (Var 1 ∷ []) ∷ []) (Return (Some (Var 6)))

unfoldable pub text_types : List LlType
text_types = Ptr 0 ∷ Signed ∷ Signed ∷ Signed ∷ Bool ∷ Char ∷ Signed ∷ Signed ∷ Signed ∷ Signed ∷ []

unfoldable pub text_blocks : ℕ → List LlBlock
text_blocks mixes = text_start ∷ text_asks ∷ text_turn ∷ text_mixed mixes ∷ []

unfoldable pub text_graph : ℕ → LlGraph
text_graph mixes = graph_of (codes "hash_text") (0 ∷ []) Signed text_types (text_blocks mixes)

unfoldable pub of_text : Found → LlGraph × Found
of_text found = taking (keyed_number (Hash Signed) found) (λ mixes all. (text_graph mixes, all))

-- ---- tuples: all items, one after the other

-- as which type an item is hashed
abbrev pub key_item : LlType → LlType
key_item Bool = Signed
key_item Char = Signed
key_item other = other

abbrev pub hash_of : LlType → Found → COperand × Body → COperand × Writing
hash_of t found x = by_small (Keyed (Hash t)) Signed (x.0 ∷ []) (writing found x.1)

-- the hash of a value
unfoldable pub hashed : LlType → COperand → Writing → COperand × Writing
hashed t x w = hash_of (key_item t) w.found (stored t (key_item t) x w.body)

abbrev pub multiplied : COperand × Body → COperand × Body
multiplied mixed = binary_in Mul Signed mixed.0 (word hash_factor) mixed.1

-- the hash so far, with that of one item more
unfoldable pub with_item : COperand → COperand → Body → COperand × Body
with_item h x body = multiplied (binary_in Xor Signed h x body)

abbrev pub item_hashed : LlType → Found → COperand × Body → COperand × Writing
item_hashed t found item = hashed t item.0 (writing found item.1)

-- the item at a place of the tuple that is variable 0
unfoldable pub item_mixed : ℕ → ℕ → LlType → COperand → Writing → COperand × Writing
item_mixed n i t h w = taking (item_hashed t w.found (field_of n 0 i t w.body)) (λ x next. alone next.found (with_item h x next.body))

-- the items from a place on, with the hash so far
abbrev pub items_mixed : ℕ → ℕ → List LlType → COperand × Writing → COperand × Writing
items_mixed n i [] made = made
items_mixed n i (t ∷ ts) made = items_mixed n (i + 1) ts (item_mixed n i t made.0 made.1)

unfoldable pub tuple_mixed : Layout → ℕ → Writing → COperand × Writing
tuple_mixed layout n w = items_mixed n 0 (fields_at layout n) (word (pos 0), w)

unfoldable pub tuple_graph : COperand → Body → LlGraph
tuple_graph hash body = graph_of (codes "hash_tuple") (0 ∷ []) Signed body.types (block_of (0 ∷ []) body.ops (Return (Some hash)) ∷ [])

abbrev pub tuple_made : COperand × Writing → LlGraph × Found
tuple_made hash = (tuple_graph hash.0 hash.1.body, hash.1.found)

unfoldable pub of_tuple : Layout → ℕ → Found → LlGraph × Found
of_tuple layout n found =
    taking (tuple_mixed layout n (writing found (body_of (Ptr n ∷ [])))) (λ h next. tuple_made (by_small (Keyed (Hash Signed)) Signed (h ∷ []) next))

-- the hash of a key as it stands in an array
unfoldable pub hash_graph : Layout → LlType → Found → LlGraph × Found
hash_graph layout (Ptr n) found = if n == 0 then of_text found else of_tuple layout n found
hash_graph layout other found = (of_word, found)
