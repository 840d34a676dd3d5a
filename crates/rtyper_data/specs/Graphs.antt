-- The small graphs that ask nothing of classes.
use Rattle.std.specs.Prelude.{ℕ, ◌+◌, Bool, true, false, if◌then◌else◌, List, [], ◌∷◌, length, take, slice_get, unwrap_or, Some, None, pos, codes}
use Rattle.csub_tree.specs.declared.tree.CBinary.TheVariants as binary
use Rattle.csub_tree.specs.declared.tree.CUnary.TheVariants as unary
use Rattle.csub_tree.specs.declared.tree.COperand.{COperand}
use Rattle.csub_tree.specs.declared.tree.COperand.TheVariants.{Var}
use Rattle.ll_code.specs.declared.program.LlType.{LlType}
use Rattle.ll_code.specs.declared.program.LlType.TheVariants as type
use Rattle.ll_code.specs.declared.program.LlOp.{LlOp}
use Rattle.ll_code.specs.declared.program.LlOp.TheVariants as op
use Rattle.ll_code.specs.declared.program.LlExit.TheVariants as exit
use Rattle.ll_code.specs.declared.program.LlBlock.{LlBlock}
use Rattle.ll_code.specs.declared.program.LlGraph.{LlGraph}
use Rattle.rtyper_layout.specs.declared.layout.Layout.{Layout}
use Rattle.rtyper_layout.specs.Layout.{fields_in}
use Rattle.rtyper_data.specs.declared.body.Body.{Body}
use Rattle.rtyper_data.specs.declared.found.Found.{Found}
use Rattle.rtyper_data.specs.declared.small.Small.TheVariants as small
use Rattle.rtyper_data.specs.Building.{block_with, fork, gives, graph_with}
use Rattle.rtyper_data.specs.Comparing.{null, zero_word, binary_in, unary_in, alone, equal, field_of}
use Rattle.rtyper_data.specs.Converting.{value_as}
use Rattle.rtyper_data.specs.Finding.{same_type, small_number}
use Rattle.rtyper_data.specs.Numbers.{word}
use Rattle.rtyper_data.specs.Seen.{with_op, fresh, Writing, writing}
use Rattle.rtyper_data.specs.Tuples.{set_fields}

abbrev pub fields_at : Layout → ℕ → List LlType
fields_at layout n = fields_in (slice_get layout.structs n)

abbrev pub field_at : List LlType → ℕ → LlType
field_at fields i = unwrap_or (slice_get fields i) type.Void

abbrev pub body_of : List LlType → Body
body_of types = record { types = types; ops = [] }

-- ---- failures

-- a call of the graph that raises the exception of a class
abbrev pub raising : Bool → ℕ × Found → Found → List LlOp × Found
raising true number found = (op.Call None number.0 [] ∷ [], number.1)
raising false number found = ([], found)

abbrev pub raised : Bool → ℕ → Found → List LlOp × Found
raised raises class found = raising raises (small_number (small.Raise class) found) found

abbrev pub ends_as : ℕ → List LlOp × Found → LlBlock × Found
ends_as number ops = (block_with [] ops.0 (exit.Fail number), ops.1)

-- a block that fails, or raises the exception of the failure
unfoldable pub failing : ℕ → ℕ → Bool → Found → LlBlock × Found
failing number class raises found = ends_as number (raised raises class found)

abbrev pub of_block : (LlBlock → LlGraph) → LlBlock × Found → LlGraph × Found
of_block graph made = (graph made.0, made.1)

-- what meets `None` fails, or raises
abbrev pub failure : Bool → Found → LlGraph × Found
failure raises found = of_block (λ block. graph_with (codes "fail") [] type.Void [] (block ∷ [])) (failing 4 9 raises found)

-- ---- what is not `None`

-- whether variable 0 is NULL, as variable 1
abbrev pub asks_null : LlType → List LlOp
asks_null t = op.Binary 1 (if same_type t type.Fn then binary.Feq else binary.Peq) (Var 0) null ∷ []

abbrev pub present : LlType → Bool → Found → LlGraph × Found
present t raises found = of_block
    (λ fails. graph_with (codes "present") (0 ∷ []) t (t ∷ type.Bool ∷ []) (
    block_with (0 ∷ []) (asks_null t) (fork 1 1 [] 2 (Var 0 ∷ []))
    ∷ fails
    ∷ block_with (0 ∷ []) [] (gives 0)
    ∷ []))
    (failing 4 9 raises found)

-- ---- casts

-- Of the fields of the one struct those at whose places the other has one too. A tuple is only ever taken as one of as many items; what is written
-- for others, which no run comes to, is well formed all the same.
abbrev pub shared_fields : Layout → ℕ → ℕ → List LlType
shared_fields layout m n = take (length (fields_at layout n)) (fields_at layout m)

-- one item after another, as one of the other shape
abbrev pub with_item : COperand × Writing → (Writing → List COperand × Writing) → List COperand × Writing
with_item made rest = (made.0 ∷ (rest made.1).0, (rest made.1).1)

abbrev pub item_as : Layout → LlType → LlType → Found → COperand × Body → COperand × Writing
item_as layout from to found item = value_as layout item.0 from to (writing found item.1)

abbrev pub cast_from : Layout → ℕ → List LlType → ℕ → List LlType → Writing → List COperand × Writing
cast_from layout m to i [] w = ([], w)
cast_from layout m to i (t ∷ ts) w = with_item (item_as layout t (field_at to i) w.found (field_of m 0 i t w.body)) (λ next. cast_from layout m to (i + 1) ts next)

unfoldable pub cast_items : Layout → ℕ → ℕ → Writing → List COperand × Writing
cast_items layout m n w = cast_from layout m (fields_at layout n) 0 (shared_fields layout m n) w

-- the first block asks whether there is a tuple: a local that is not bound yet has none
abbrev pub cast_blocks : ℕ → List LlOp → List LlBlock
cast_blocks made ops =
    block_with (0 ∷ []) (asks_null (type.Ptr 0)) (fork 1 1 [] 2 (Var 0 ∷ []))
    ∷ block_with [] [] (exit.Return (Some null))
    ∷ block_with (0 ∷ []) ops (gives made)
    ∷ []

unfoldable pub cast_graph : ℕ → ℕ → Body → LlGraph
cast_graph n made body = graph_with (codes "tuple_as") (0 ∷ []) (type.Ptr n) body.types (cast_blocks made body.ops)

abbrev pub cast_made : ℕ → List COperand × Writing → LlGraph × Found
cast_made n items = (cast_graph n (fresh (type.Ptr n) items.1.body).0 (set_fields n (fresh (type.Ptr n) items.1.body).0 0 items.0 (with_op (op.New (fresh (type.Ptr n) items.1.body).0 n n) (fresh (type.Ptr n) items.1.body).1)), items.1.found)

abbrev pub cast : Layout → ℕ → ℕ → Found → LlGraph × Found
cast layout m n found = cast_made n (cast_items layout m n (writing found (body_of (type.Ptr m ∷ type.Bool ∷ []))))

-- ---- equality

-- a word that is not zero where the word is not, and the truth value holds
abbrev pub and_word : COperand → COperand → Body → COperand × Body
and_word all same body = both (unary_in unary.B2S type.Signed same body)
  where
    both : COperand × Body → COperand × Body
    both word = binary_in binary.And type.Signed all word.0 word.1

abbrev pub and_equal : COperand → COperand × Writing → COperand × Writing
and_equal all same = alone same.1.found (and_word all same.0 same.1.body)

abbrev pub fields_equal : Layout → LlType → LlType → Found → COperand → COperand × Body → COperand × Writing
fields_equal layout s t found a b = equal layout a s b.0 t (writing found b.1)

abbrev pub items_equal : Layout → ℕ → ℕ → LlType → Found → LlType → COperand × Body → COperand × Writing
items_equal layout n i t found s a = fields_equal layout s t found a.0 (field_of n 1 i t a.1)

-- whether the fields from a place on are equal, as a word, with what was found before
abbrev pub equal_from : Layout → ℕ → ℕ → List LlType → ℕ → List LlType → COperand × Writing → COperand × Writing
equal_from layout m n those i [] all = all
equal_from layout m n those i (s ∷ ss) all = equal_from layout m n those (i + 1) ss (and_equal all.0 (items_equal layout n i (field_at those i) all.1.found s (field_of m 0 i s all.1.body)))

unfoldable pub equal_items : Layout → ℕ → ℕ → Writing → COperand × Writing
equal_items layout m n w = equal_from layout m n (fields_at layout n) 0 (shared_fields layout m n) (word (pos 1), w)

unfoldable pub equality_graph : COperand × Body → LlGraph
equality_graph answer = graph_with (codes "tuple_equal") (0 ∷ 1 ∷ []) type.Bool answer.1.types (block_with (0 ∷ 1 ∷ []) answer.1.ops (exit.Return (Some answer.0)) ∷ [])

abbrev pub equality_made : COperand × Writing → LlGraph × Found
equality_made all = (equality_graph (binary_in binary.Ne type.Bool all.0 zero_word all.1.body), all.1.found)

abbrev pub equality : Layout → ℕ → ℕ → Found → LlGraph × Found
equality layout m n found = equality_made (equal_items layout m n (writing found (body_of (type.Ptr m ∷ type.Ptr n ∷ []))))
