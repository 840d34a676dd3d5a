-- Operations that no list, dict or instance is in are tidy.
use Rattle.std.proofs.Common.{◌≡◌, ℕ, ◌&&◌, Bool, true, false, List, [], ◌∷◌, Option, Some, None, refl, sym, subst, pos, ℤ}
use Rattle.std.specs.Prelude.{if◌then◌else◌, ◌≢◌}
use Rattle.csub_tree.specs.declared.tree.CBinary.TheVariants as binary
use Rattle.csub_tree.specs.declared.tree.CConst.{CConst}
use Rattle.csub_tree.specs.declared.tree.CConst.TheVariants as constant
use Rattle.csub_tree.specs.declared.tree.CUnary.TheVariants as unary
use Rattle.csub_tree.specs.declared.tree.COperand.{COperand}
use Rattle.csub_tree.specs.declared.tree.COperand.TheVariants.{Var}
use Rattle.csub_tree.specs.declared.tree.COperand.TheVariants.{Const as held_const}
use Rattle.ll_code.specs.declared.program.LlType.{LlType}
use Rattle.ll_code.specs.declared.program.LlType.TheVariants as type
use Rattle.ll_code.specs.declared.program.LlOp.TheVariants as op
use Rattle.ll_build.specs.declared.needs.Helper.{Helper}
use Rattle.ll_build.specs.declared.needs.Helper.TheVariants as helper
use Rattle.rpy_meaning.specs.declared.row.Covers.{Covers}
use Rattle.rpy_meaning.specs.declared.row.RowOp.{RowOp}
use Rattle.rpy_meaning.specs.declared.row.RowOp.TheVariants as row
use Rattle.rpy_tree.specs.declared.program.Const.{Const}
use Rattle.rpy_tree.specs.declared.program.Const.TheVariants as const
use Rattle.rpy_tree.specs.declared.syntax.BinOp.{BinOp}
use Rattle.rpy_tree.specs.declared.syntax.BinOp.TheVariants as bin
use Rattle.rtyper_layout.specs.declared.kind.Kind.{Kind}
use Rattle.rtyper_layout.specs.declared.kind.Kind.TheVariants as kind
use Rattle.rtyper_layout.specs.Kinds.{is_text_or_none}
use Rattle.rtyper_data.specs.declared.found.Found.{Found}
use Rattle.rtyper_data.specs.declared.small.Small.TheVariants as small
use Rattle.rtyper_data.specs.Comparing.{compare, flag}
use Rattle.rtyper_data.specs.Converting.{by_small, give_helped}
use Rattle.rtyper_data.specs.Finding.{small_number}
use Rattle.rtyper_data.specs.Numbers.{binary_of, to_int, word}
use Rattle.rtyper_data.specs.Seen.{Operand, kind_of, push, type_at, type_of, with_op, Writing, writing}
use Rattle.rtyper_data.specs.Tuples.{length_of, place_of}
use Rattle.rtyper_op.specs.Constants.{constant_of, text}
use Rattle.rtyper_op.specs.Lowering.{all_but_last, binary_to, checked, checked_small, constant_to, conversion, conversion_by, failure, give_constant, give_text, if_words, is_never, least, literal, lower_op, lowered, method_by, method_to, of_one, of_some, of_two, same, set_constant, text_to, unpack_by}
use Rattle.rtyper_op.specs.Placing.{advance, has_item, index, index_by, len, len_by, product, product_by, says_nothing, sum, sum_by, walk, walk_by, walk_item}
use Rattle.rtyper_op.specs.Texts.{of_text, of_text_and_word, of_texts, print, text_type, to_str}
use Rattle.growth_laws.specs.Growing.{Grows}
use Rattle.growth_laws.proofs.Growing.{same_found, smalls_grow}
use Rattle.growth_laws.proofs.Operating.{constant_of_grows, text_grows}
use Rattle.reading_laws.specs.Results.{helper_gives, SmallGives}
use Rattle.reading_laws.specs.Suits.{are_words, binary_suits, conversion_suits, index_suits, is_plain, is_tuple_kind, len_suits, literal_suits, lower_suits, method_suits_by, method_suits_to, one_suits, op_suits, product_suits, some_suit, sum_suits, two_suits}
use Rattle.reading_laws.specs.Tidy.{AreSet, AreThere, IsSet, IsThere, Setup, Stands, Tidy, Wider, taken, target}
use Rattle.reading_laws.proofs.Steps.{all_given, asked, held, if_sets, if_taken, if_tidy, more, nothing, pushed, sets_in, takes_none, then_tidy}
use Rattle.reading_laws.proofs.Values.{by_small_tidy, give_helped_tidy, give_made_tidy, give_nothing_tidy, give_tidy, set_place}
use Rattle.reading_laws.proofs.Comparisons.{compare_tidy}
use Rattle.reading_laws.proofs.Writers.{binary_of_tidy, give_binary_tidy, give_unary_tidy, item_of_tidy, paid_tidy, range_advance_tidy, range_has_tidy, to_int_tidy, tuple_of_tidy, unary_of_tidy, word_set}
use Rattle.reading_laws.proofs.Texts.{method_tidy, of_text_and_word_tidy, of_text_tidy, of_texts_tidy, print_tidy, slice_tidy, to_str_tidy, truth_to_tidy, write_tidy}
use Rattle.reading_laws.proofs.Calls.{call_tidy}

module _ {f : Setup} (c : Stands f) where
  pub says_nothing_tidy : {s : List ℕ} (w : Writing) → Tidy f s (taken true f) w (says_nothing f.world.around f.place w)
  says_nothing_tidy w = give_nothing_tidy c w

  -- ---- indices, lengths and walks

  index_by_tidy : {s : List ℕ} (k : Kind) (literal : Option ℤ) (a b : Operand) (w : Writing) → IsSet a.x s → IsSet b.x s → Tidy f s (taken (index_suits k literal) f) w (index_by k literal f.world.around f.place a b w)
  index_by_tidy kind.Tuple (Some i) a b w h j = item_of_tidy c a (place_of i (length_of f.world.around a)) w h
  index_by_tidy k literal a b w h j = if_sets (is_text_or_none k) (of_text_and_word f.world.around f.place helper.StrIndex type.Char a b w) (of_text_and_word_tidy c helper.StrIndex type.Char a b w refl (λ e. absurd (cc)) h j)

  index_tidy : {s : List ℕ} (literal : Option ℤ) (a b : Operand) (w : Writing) → IsSet a.x s → IsSet b.x s → Tidy f s (taken (index_suits (kind_of a) literal) f) w (index f.world.around f.place literal a b w)
  unfolding index
  index_tidy literal a b w h j = index_by_tidy (kind_of a) literal a b w h j

  len_by_tidy : {s : List ℕ} (k : Kind) (a : Operand) (w : Writing) → IsSet a.x s → Tidy f s (taken (len_suits k) f) w (len_by k f.world.around f.place a w)
  len_by_tidy {s} kind.Tuple a w h = give_tidy c (word (pos (length_of f.world.around a))) type.Signed w (word_set (pos (length_of f.world.around a)) s)
  len_by_tidy k a w h = if_sets (is_text_or_none k) (of_text f.world.around f.place helper.StrLen type.Signed a w) (of_text_tidy c helper.StrLen type.Signed a w refl (λ e. absurd (cc)) h)

  len_tidy : {s : List ℕ} (a : Operand) (w : Writing) → IsSet a.x s → Tidy f s (taken (len_suits (kind_of a)) f) w (len f.world.around f.place a w)
  unfolding len
  len_tidy a w h = len_by_tidy (kind_of a) a w h

  walk_by_tidy : {s : List ℕ} (k : Kind) (a : Operand) (w : Writing) → IsSet a.x s → Tidy f s (taken true f) w (walk_by k f.world.around f.place a w)
  walk_by_tidy kind.Byte a w h = give_tidy c a.x type.Char w h
  walk_by_tidy k a w h = if_tidy (is_text_or_none k) (of_text f.world.around f.place helper.StrWalk text_type a w) (says_nothing f.world.around f.place w) (of_text_tidy c helper.StrWalk text_type a w refl (λ e. absurd (cc)) h) (says_nothing_tidy w)

  walk_tidy : {s : List ℕ} (a : Operand) (w : Writing) → IsSet a.x s → Tidy f s (taken true f) w (walk f.world.around f.place a w)
  unfolding walk
  walk_tidy a w h = walk_by_tidy (kind_of a) a w h

  has_item_tidy : {s : List ℕ} (step : Option ℤ) (a b : Operand) (w : Writing) → IsSet a.x s → IsSet b.x s → Tidy f s (taken true f) w (has_item f.world.around f.place step a b w)
  unfolding has_item
  has_item_tidy (Some step) a b w h j = range_has_tidy c step a.x b.x w h j
  has_item_tidy None a b w h j = if_tidy (is_text_or_none (kind_of a)) _ _ (of_text_and_word_tidy c helper.StrHasItem type.Bool a b w refl (λ e. absurd (cc)) h j) (says_nothing_tidy w)

  walk_item_tidy : {s : List ℕ} (step : Option ℤ) (a b : Operand) (w : Writing) → IsSet a.x s → IsSet b.x s → Tidy f s (taken true f) w (walk_item f.world.around f.place step a b w)
  unfolding walk_item
  walk_item_tidy (Some step) a b w h j = give_tidy c b.x type.Signed w j
  walk_item_tidy None a b w h j = if_tidy (is_text_or_none (kind_of a)) _ _ (of_text_and_word_tidy c helper.StrItem type.Char a b w refl (λ e. absurd (cc)) h j) (says_nothing_tidy w)

  advance_tidy : {s : List ℕ} (step : Option ℤ) (a b : Operand) (w : Writing) → IsSet a.x s → IsSet b.x s → Tidy f s (taken true f) w (advance f.world.around f.place step a b w)
  unfolding advance
  advance_tidy (Some step) a b w h j = range_advance_tidy c step a.x b.x w h j
  advance_tidy {s} None a b w h j = give_binary_tidy c binary.Add type.Signed b.x (word (pos 1)) w (λ e. absurd (cc)) j (word_set (pos 1) s)

  sum_by_tidy : {s : List ℕ} (p q : Kind) (a b : Operand) (w : Writing) → IsSet a.x s → IsSet b.x s → Tidy f s (taken (sum_suits p q) f) w (sum_by p q f.world.around f.place a b w)
  sum_by_tidy kind.Word kind.Word a b w h j = give_binary_tidy c binary.Add type.Signed a.x b.x w (λ e. absurd (cc)) h j
  sum_by_tidy p q a b w h j = if_sets (is_text_or_none p && is_text_or_none q) (of_texts f.world.around f.place helper.StrAdd text_type a b w) (of_texts_tidy c helper.StrAdd text_type a b w refl (λ e. absurd (cc)) h j)

  sum_tidy : {s : List ℕ} (a b : Operand) (w : Writing) → IsSet a.x s → IsSet b.x s → Tidy f s (taken (sum_suits (kind_of a) (kind_of b)) f) w (sum f.world.around f.place a b w)
  unfolding sum
  sum_tidy a b w h j = sum_by_tidy (kind_of a) (kind_of b) a b w h j

  product_by_tidy : {s : List ℕ} (p : Kind) (a b : Operand) (w : Writing) → IsSet a.x s → IsSet b.x s → Tidy f s (taken (product_suits p) f) w (product_by p f.world.around f.place a b w)
  product_by_tidy kind.Word a b w h j = give_binary_tidy c binary.Mul type.Signed a.x b.x w (λ e. absurd (cc)) h j
  product_by_tidy p a b w h j = if_sets (is_text_or_none p) (of_text_and_word f.world.around f.place helper.StrMul text_type a b w) (of_text_and_word_tidy c helper.StrMul text_type a b w refl (λ e. absurd (cc)) h j)

  product_tidy : {s : List ℕ} (a b : Operand) (w : Writing) → IsSet a.x s → IsSet b.x s → Tidy f s (taken (product_suits (kind_of a)) f) w (product f.world.around f.place a b w)
  unfolding product
  product_tidy a b w h j = product_by_tidy (kind_of a) a b w h j

  -- ---- without operands

  same_tidy : {s : List ℕ} (a : Operand) (w : Writing) → IsSet a.x s → Tidy f s (taken true f) w (same f.world.around f.place a w)
  same_tidy a w h = give_tidy c a.x (type_of f.world.around a) w h

  pub failure_tidy : {s : List ℕ} (w : Writing) → Tidy f s (taken true f) w (failure f.world.around f.place w)
  unfolding failure
  failure_tidy {s} w =
      then_tidy (pushed [] (op.Call None (small_number (small.Fail w.found.covered.attribute) w.found).0 []) (small_number (small.Fail w.found.covered.attribute) w.found).1 w (sets_in [] s tt) tt (smalls_grow (small.Fail w.found.covered.attribute) w.found) (λ a i. takes_none f.program f.size _))
      (λ t m k. give_nothing_tidy c (writing (small_number (small.Fail w.found.covered.attribute) w.found).1 (with_op (op.Call None (small_number (small.Fail w.found.covered.attribute) w.found).0 []) w.body)))

  set_constant_tidy : {s : List ℕ} (t : LlType) (w : Writing) (made : CConst × Found) → t ≢ type.Void → type_at f.world.around f.place ≡ t → Grows w.found made.1 → Tidy f s (target t f.place.variable) w (set_constant f.place w.body made)
  set_constant_tidy t w made there is g = then_tidy (asked made.1 w g) (λ u m k. set_place c t (held_const made.0) (writing made.1 w.body) there is (held made.0 u))

  constant_to_tidy : {s : List ℕ} (k : Const) (t : LlType) (w : Writing) → type_at f.world.around f.place ≡ t → Tidy f s (target t f.place.variable) w (constant_to f.world.around f.place k t w)
  constant_to_tidy k type.Void w is = nothing
  constant_to_tidy k type.Signed w is = set_constant_tidy type.Signed w _ (λ e. absurd (cc)) is (constant_of_grows f.world.around k type.Signed w.found)
  constant_to_tidy k type.Char w is = set_constant_tidy type.Char w _ (λ e. absurd (cc)) is (constant_of_grows f.world.around k type.Char w.found)
  constant_to_tidy k type.Bool w is = set_constant_tidy type.Bool w _ (λ e. absurd (cc)) is (constant_of_grows f.world.around k type.Bool w.found)
  constant_to_tidy k type.Fn w is = set_constant_tidy type.Fn w _ (λ e. absurd (cc)) is (constant_of_grows f.world.around k type.Fn w.found)
  constant_to_tidy k (type.Ptr n) w is = set_constant_tidy (type.Ptr n) w _ (λ e. absurd (cc)) is (constant_of_grows f.world.around k (type.Ptr n) w.found)

  text_to_tidy : {s : List ℕ} (bytes : List ℕ) (t : LlType) (w : Writing) → type_at f.world.around f.place ≡ t → Tidy f s (target t f.place.variable) w (text_to f.world.around f.place bytes t w)
  text_to_tidy bytes type.Void w is = nothing
  text_to_tidy bytes type.Signed w is = set_constant_tidy type.Signed w (text bytes type.Signed w.found) (λ e. absurd (cc)) is (text_grows bytes type.Signed w.found)
  text_to_tidy bytes type.Char w is = set_constant_tidy type.Char w (text bytes type.Char w.found) (λ e. absurd (cc)) is (text_grows bytes type.Char w.found)
  text_to_tidy bytes type.Bool w is = set_constant_tidy type.Bool w (text bytes type.Bool w.found) (λ e. absurd (cc)) is (text_grows bytes type.Bool w.found)
  text_to_tidy bytes type.Fn w is = set_constant_tidy type.Fn w (text bytes type.Fn w.found) (λ e. absurd (cc)) is (text_grows bytes type.Fn w.found)
  text_to_tidy bytes (type.Ptr n) w is = set_constant_tidy (type.Ptr n) w (text bytes (type.Ptr n) w.found) (λ e. absurd (cc)) is (text_grows bytes (type.Ptr n) w.found)

  literal_tidy : {s : List ℕ} (o : RowOp) (w : Writing) → Tidy f s (taken (literal_suits o) f) w (literal f.world.around f.place o w)
  unfolding literal
  literal_tidy {s} (row.Word z) w = give_tidy c (word z) type.Signed w (word_set z s)
  literal_tidy (row.Str bytes) w = text_to_tidy bytes (type_at f.world.around f.place) w refl
  literal_tidy {s} (row.Bool b) w = give_tidy c (flag b) type.Bool w (held (constant.Bool b) s)
  literal_tidy row.None w = constant_to_tidy const.None (type_at f.world.around f.place) w refl
  literal_tidy (row.Constant k) w = constant_to_tidy k (type_at f.world.around f.place) w refl
  literal_tidy {s} row.Turn w = then_tidy (paid_tidy c (word (pos 1)) w (word_set (pos 1) s)) (λ t m k. says_nothing_tidy (push (op.Step (word (pos 1))) w))
  literal_tidy o w = nothing

  -- ---- of one operand

  conversion_by_tidy : {s : List ℕ} (o : RowOp) (k : Kind) (a : Operand) (w : Writing) → k ≡ kind_of a → IsSet a.x s → Tidy f s (taken (conversion_suits o k) f) w (conversion_by o k f.world.around f.place a w)
  conversion_by_tidy row.Intmask kind.Word a w e h = give_tidy c a.x type.Signed w h
  conversion_by_tidy {s} row.ToInt k a w e h = subst (λ (k : Kind). Tidy f s (taken (is_plain k) f) w (to_int f.world.around f.place a w)) (sym e) (to_int_tidy c a w h)
  conversion_by_tidy {s} row.ToStr k a w e h = subst (λ (k : Kind). Tidy f s (taken (is_plain k) f) w (to_str f.world.around f.place a w)) (sym e) (to_str_tidy c a w h)
  conversion_by_tidy row.Ord kind.Byte a w e h = give_unary_tidy c unary.C2S type.Signed a.x w (λ e. absurd (cc)) h
  conversion_by_tidy row.Chr kind.Word a w e h = give_helped_tidy c helper.WordChr type.Char (a.x ∷ []) w refl (λ e. absurd (cc)) (h, tt)
  conversion_by_tidy (row.Unary o) kind.Word a w e h = unary_of_tidy c o a w h
  conversion_by_tidy row.CheckedNeg kind.Word a w e h = give_made_tidy c type.Signed w _ (by_small_tidy c small.CheckedNeg type.Signed (a.x ∷ []) w tt (h, tt))
  conversion_by_tidy {s} (row.IsInstance class) kind.Nothing a w e h = give_tidy c (flag false) type.Bool w (held (constant.Bool false) s)
  conversion_by_tidy o k a w e h = nothing

  all_but_last_tidy : {s : List ℕ} (a : Operand) (w : Writing) → IsSet a.x s → Tidy f s (taken (is_text_or_none (kind_of a)) f) w (all_but_last f.world.around f.place a w)
  all_but_last_tidy a w h = if_sets (is_text_or_none (kind_of a)) _ (of_text_tidy c helper.StrButLast text_type a w refl (λ e. absurd (cc)) h)

  unpack_by_tidy : {s : List ℕ} (k : Kind) (a : Operand) (i : ℕ) (w : Writing) → IsSet a.x s → Tidy f s (taken (is_tuple_kind k) f) w (unpack_by k f.world.around f.place a i w)
  unpack_by_tidy kind.Tuple a i w h = item_of_tidy c a i w h
  unpack_by_tidy k a i w h = nothing

  conversion_tidy : {s : List ℕ} (o : RowOp) (a : Operand) (w : Writing) → IsSet a.x s → Tidy f s (taken (conversion_suits o (kind_of a)) f) w (conversion f.world.around f.place o a w)
  unfolding conversion
  conversion_tidy o a w h = conversion_by_tidy o (kind_of a) a w refl h

  of_one_tidy : {s : List ℕ} (o : RowOp) (a : Operand) (w : Writing) → IsSet a.x s → Tidy f s (taken (one_suits o (kind_of a)) f) w (of_one f.world.around f.place o a w)
  unfolding of_one
  of_one_tidy row.Copy a w h = same_tidy a w h
  of_one_tidy row.DropNone a w h = same_tidy a w h
  of_one_tidy row.OnlyNone a w h = same_tidy a w h
  of_one_tidy row.FalseNone a w h = same_tidy a w h
  of_one_tidy (row.Lower class) a w h = same_tidy a w h
  of_one_tidy row.Not a w h = truth_to_tidy c a true w h
  of_one_tidy row.Truth a w h = truth_to_tidy c a false w h
  of_one_tidy row.Len a w h = len_tidy a w h
  of_one_tidy (row.AllButLast site) a w h = all_but_last_tidy a w h
  of_one_tidy (row.Walk site) a w h = walk_tidy a w h
  of_one_tidy (row.Unpack n i) a w h = unpack_by_tidy (kind_of a) a i w h
  of_one_tidy o a w h = conversion_tidy o a w h

  -- ---- of two operands

  if_words_tidy : {s : List ℕ} (p q : Kind) (there w : Writing) → Tidy f s (taken true f) w there → Tidy f s (taken (are_words p q) f) w (if_words p q there w)
  if_words_tidy kind.Word kind.Word there w g = g
  if_words_tidy p q there w g = nothing

  binary_to_tidy : {s : List ℕ} (o : BinOp) (a b : Operand) (w : Writing) → IsSet a.x s → IsSet b.x s → Tidy f s (taken (binary_suits o (kind_of a) (kind_of b)) f) w (binary_to f.world.around f.place o a b w)
  unfolding binary_to
  binary_to_tidy bin.Add a b w h j = sum_tidy a b w h j
  binary_to_tidy bin.Mul a b w h j = product_tidy a b w h j
  binary_to_tidy o a b w h j = if_words_tidy (kind_of a) (kind_of b) (binary_of f.world.around f.place o a.x b.x w) w (binary_of_tidy c o a.x b.x w h j)

  least_tidy : {s : List ℕ} (h : Helper) (a b : Operand) (w : Writing) → helper_gives h ≡ true → IsSet a.x s → IsSet b.x s → Tidy f s (taken (are_words (kind_of a) (kind_of b)) f) w (least f.world.around f.place h a b w)
  unfolding least
  least_tidy h a b w g i j = if_words_tidy (kind_of a) (kind_of b) (give_helped f.world.around f.place h type.Signed (a.x ∷ b.x ∷ []) w) w (give_helped_tidy c h type.Signed (a.x ∷ b.x ∷ []) w g (λ e. absurd (cc)) (i, (j, tt)))

  checked_gives : (o : BinOp) (covers : Covers) → SmallGives f.world (checked_small o covers)
  checked_gives bin.Add covers = tt
  checked_gives bin.Sub covers = tt
  checked_gives bin.Mul covers = tt
  checked_gives bin.Shl covers = tt
  checked_gives bin.Mod covers = tt
  checked_gives o covers = tt

  checked_tidy : {s : List ℕ} (o : BinOp) (a b : Operand) (w : Writing) → IsSet a.x s → IsSet b.x s → Tidy f s (taken true f) w (checked f.world.around f.place o a b w)
  unfolding checked
  checked_tidy o a b w h j = give_made_tidy c type.Signed w _ (by_small_tidy c (checked_small o w.found.covered) type.Signed (a.x ∷ b.x ∷ []) w (checked_gives o w.found.covered) (h, (j, tt)))

  of_two_tidy : {s : List ℕ} (o : RowOp) (a b : Operand) (w : Writing) → IsSet a.x s → IsSet b.x s → Tidy f s (taken (two_suits o (kind_of a) (kind_of b)) f) w (of_two f.world.around f.place o a b w)
  unfolding of_two
  of_two_tidy (row.Binary o site) a b w h j = binary_to_tidy o a b w h j
  of_two_tidy row.AddTo a b w h j = sum_tidy a b w h j
  of_two_tidy (row.Compare o) a b w h j = give_made_tidy c type.Bool w _ (compare_tidy c o a b w h j)
  of_two_tidy row.Min a b w h j = least_tidy helper.WordMin a b w refl h j
  of_two_tidy row.Max a b w h j = least_tidy helper.WordMax a b w refl h j
  of_two_tidy row.Write a b w h j = write_tidy c b w j
  of_two_tidy (row.Index i) a b w h j = index_tidy i a b w h j
  of_two_tidy (row.HasItem step) a b w h j = has_item_tidy step a b w h j
  of_two_tidy (row.Item step) a b w h j = walk_item_tidy step a b w h j
  of_two_tidy (row.Advance step) a b w h j = advance_tidy step a b w h j
  of_two_tidy row.NonNegative a b w h j = same_tidy a w h
  of_two_tidy (row.Checked o) a b w h j = checked_tidy o a b w h j
  of_two_tidy o a b w h j = nothing

  -- ---- of any number

  method_by_tidy : {s : List ℕ} (k : Kind) (name : List ℕ) (args : List Operand) (w : Writing) → AreThere f args s → Tidy f s (taken (method_suits_by k name args) f) w (method_by k f.world.around f.place name args w)
  method_by_tidy kind.Nothing name args w h = failure_tidy w
  method_by_tidy k name args w h = method_tidy c name args w h

  method_to_tidy : {s : List ℕ} (name : List ℕ) (args : List Operand) (w : Writing) → AreThere f args s → Tidy f s (taken (method_suits_to name args) f) w (method_to f.world.around f.place name args w)
  method_to_tidy name [] w h = nothing
  method_to_tidy name (a ∷ args) w h = method_by_tidy (kind_of a) name (a ∷ args) w h

  of_some_tidy : {s : List ℕ} (o : RowOp) (args : List Operand) (w : Writing) → AreThere f args s → Tidy f s (taken (some_suit o args) f) w (of_some f.world.around f.place o args w)
  unfolding of_some
  of_some_tidy o [] w h = literal_tidy o w
  of_some_tidy o (a ∷ []) w h = of_one_tidy o a w h.0.inside
  of_some_tidy o (a ∷ b ∷ []) w h = of_two_tidy o a b w h.0.inside h.1.0.inside
  of_some_tidy o (a ∷ b ∷ d ∷ args) w h = nothing

  lowered_tidy : {s : List ℕ} (o : RowOp) (args : List Operand) (w : Writing) → AreThere f args s → Tidy f s (taken (op_suits f.world.around f.place o args) f) w (lowered f.world.around f.place o args w)
  lowered_tidy row.Print args w h = then_tidy (print_tidy c args w h) (λ t m k. says_nothing_tidy (print args w))
  lowered_tidy row.Tuple args w h = tuple_of_tidy c args w h
  lowered_tidy {s} (row.Call g) args w h = call_tidy c g args w (all_given f s args h)
  lowered_tidy (row.Slice site low high) args w h = slice_tidy c low high args w h
  lowered_tidy (row.Method name site) args w h = method_to_tidy name args w h
  lowered_tidy o args w h = of_some_tidy o args w h

  -- what never comes is not read
  pub never_tidy : {s : List ℕ} (o : RowOp) (args : List Operand) (w : Writing) → is_never args ≡ true → Tidy f s (taken (lower_suits f.world.around o f.place args) f) w (lower_op f.world.around o f.place args w)
  never_tidy {s} o args w e = subst (λ (b : Bool). Tidy f s (taken (if b then true else op_suits f.world.around f.place o args) f) w (if b then says_nothing f.world.around f.place w else lowered f.world.around f.place o args w)) (sym e) (says_nothing_tidy w)

  pub lower_op_tidy : {s : List ℕ} (o : RowOp) (args : List Operand) (w : Writing) → AreThere f args s → Tidy f s (taken (lower_suits f.world.around o f.place args) f) w (lower_op f.world.around o f.place args w)
  lower_op_tidy o args w h = if_taken (is_never args) true (op_suits f.world.around f.place o args) _ _ (says_nothing_tidy w) (lowered_tidy o args w h)
