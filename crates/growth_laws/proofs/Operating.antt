-- What operations are lowered to only asks for more.
use Rattle.std.proofs.Common.{ℕ, ◌+◌, ◌==◌, ◌&&◌, Bool, true, false, List, [], ◌∷◌, ◌++◌, map, slice_get, Option, Some, None, ℤ, pos, sym, subst}
use Rattle.std.specs.Prelude.{if◌then◌else◌, not, codes}
use Rattle.std.specs.Str.{bytes_eq}
use Rattle.csub_tree.specs.declared.tree.CBinary.TheVariants as binary
use Rattle.csub_tree.specs.declared.tree.CUnary.TheVariants as unary
use Rattle.csub_tree.specs.declared.tree.CConst.{CConst}
use Rattle.csub_tree.specs.declared.tree.COperand.{COperand}
use Rattle.ll_code.specs.declared.program.LlType.{LlType}
use Rattle.ll_code.specs.declared.program.LlType.TheVariants as type
use Rattle.ll_code.specs.declared.program.LlOp.TheVariants as op
use Rattle.ll_build.specs.declared.needs.Helper.{Helper}
use Rattle.ll_build.specs.declared.needs.Helper.TheVariants as helper
use Rattle.ann_element.specs.declared.element.Element.{Element}
use Rattle.rpy_meaning.specs.declared.row.RowOp.{RowOp}
use Rattle.rpy_meaning.specs.declared.row.RowOp.TheVariants as row
use Rattle.rpy_resolved.specs.declared.tree.Function.{Function}
use Rattle.rpy_tree.specs.declared.program.Const.{Const, fold-roll-Const, map-Const, ind-Const}
use Rattle.rpy_tree.specs.declared.program.Const.TheOpen.{Const-F}
use Rattle.rpy_tree.specs.declared.program.Const.TheVariants as const
use Rattle.rpy_tree.specs.declared.syntax.BinOp.{BinOp}
use Rattle.rpy_tree.specs.declared.syntax.BinOp.TheVariants as bin
use Rattle.rtyper_layout.specs.declared.kind.Kind.{Kind}
use Rattle.rtyper_layout.specs.declared.kind.Kind.TheVariants as kind
use Rattle.rtyper_layout.specs.Kinds.{is_text, is_text_or_none}
use Rattle.rtyper_layout.specs.Layout.{is_tuple}
use Rattle.rtyper_layout.specs.Types.{type_of as type_of_element, type_seen}
use Rattle.rtyper_data.specs.declared.found.Found.{Found}
use Rattle.rtyper_data.specs.declared.small.Small.TheVariants as small
use Rattle.rtyper_data.specs.declared.small.Listed.TheVariants as listed
use Rattle.rtyper_data.specs.declared.small.Keyed.TheVariants as keyed
use Rattle.rtyper_data.specs.Comparing.{compare, flag}
use Rattle.rtyper_data.specs.Converting.{by_small, give_helped, given, landing}
use Rattle.rtyper_data.specs.Numbers.{binary_of, word}
use Rattle.rtyper_data.specs.Seen.{Around, Operand, Place, kind_of, operand_at, push, type_at, type_of, Writing}
use Rattle.rtyper_data.specs.Tuples.{fields_of, length_of, place_of}
use Rattle.rtyper_op.specs.declared.text.Test.{Test}
use Rattle.rtyper_op.specs.declared.text.Test.TheVariants.{Known, By}
use Rattle.rtyper_op.specs.Calls.{argument, argument_if, arguments, arguments_for, arguments_from, call, call_giving, constant_for, number_of, stand_in}
use Rattle.rtyper_op.specs.Constants.{constant_of, constant_step, parts_of, static_text, text, text_cells, tuple}
use Rattle.rtyper_op.specs.Lowering.{all_but_last, binary_to, checked, checked_small, constant_to, conversion, conversion_by, failure, give_constant, give_text, if_words, is_never, least, literal, lowered, method_by, method_to, of_one, of_some, of_two, same, text_to, unpack_by}
use Rattle.rtyper_op.specs.Placing.{advance, has_item, index, index_by, len, len_by, product, product_by, says_nothing, sum, sum_by, walk, walk_by, walk_item}
use Rattle.rtyper_op.specs.Texts.{byte_method, byte_method_by, dict_truth, list_truth, lower, method, of_byte, of_text, of_text_and_word, of_texts, print, printed_by, put, put_all, put_by, put_more, slice, strip, strip_unless, tested_to, text_method, text_method_by, text_type, to_str, to_str_by, truth_by, truth_of, truth_to, upper, write}
use Rattle.rtyper_op.specs.Texts.{of_two as two_of}
use Rattle.growth_laws.specs.Growing.{Grows}
use Rattle.growth_laws.specs.Asking.{OperationsOnlyAsk}
use Rattle.growth_laws.proofs.Growing.{helpers_grow, same_found, smalls_grow, statics_grow}
use Rattle.growth_laws.proofs.Data.{binary_of_grows, by_small_grows, compare_grows, give_binary_grows, give_grows, give_helped_grows, give_made_grows, give_unary_grows, given_grows, helped_grows, if_asked, if_written, item_of_grows, landed_grows, range_advance_grows, range_has_grows, then_grows, to_int_grows, tuple_of_grows, unary_of_grows}

-- ---- truth

pub list_truth_grows : (t : LlType) (x : COperand) (w : Writing) → Grows w.found (list_truth t x w).1.found
list_truth_grows (type.Ptr n) x w = by_small_grows (small.Listed (listed.Truth n)) type.Bool (x ∷ []) w
list_truth_grows _ x w = same_found w.found

pub dict_truth_grows : (t : LlType) (x : COperand) (w : Writing) → Grows w.found (dict_truth t x w).1.found
dict_truth_grows (type.Ptr n) x w = by_small_grows (small.Keyed (keyed.Truth n)) type.Bool (x ∷ []) w
dict_truth_grows _ x w = same_found w.found

pub truth_by_grows : (k : Kind) (around : Around) (a : Operand) (w : Writing) → Grows w.found (truth_by k around a w).1.found
truth_by_grows kind.Text around a w = helped_grows helper.StrTruth type.Bool (a.x ∷ []) w
truth_by_grows kind.MaybeText around a w = helped_grows helper.StrTruth type.Bool (a.x ∷ []) w
truth_by_grows kind.List around a w = list_truth_grows (type_of around a) a.x w
truth_by_grows kind.MaybeList around a w = list_truth_grows (type_of around a) a.x w
truth_by_grows kind.Dict around a w = dict_truth_grows (type_of around a) a.x w
truth_by_grows kind.MaybeDict around a w = dict_truth_grows (type_of around a) a.x w
truth_by_grows _ around a w = same_found w.found

pub truth_of_grows : (around : Around) (a : Operand) (w : Writing) → Grows w.found (truth_of around a w).1.found
unfolding truth_of
truth_of_grows around a w = truth_by_grows (kind_of a) around a w

pub tested_to_grows : (around : Around) (place : Place) (reversed : Bool) (t : Test) (w : Writing) → Grows w.found (tested_to around place reversed t w).found
tested_to_grows around place reversed (Known b) w = give_grows around place (flag (if reversed then not b else b)) type.Bool w
tested_to_grows around place reversed (By x) w = if_written _ _ reversed (give_unary_grows around place unary.Not type.Bool x w) (give_grows around place x type.Bool w)

pub truth_to_grows : (around : Around) (place : Place) (a : Operand) (reversed : Bool) (w : Writing) → Grows w.found (truth_to around place a reversed w).found
truth_to_grows around place a reversed w = then_grows (truth_of_grows around a w) (tested_to_grows around place reversed (truth_of around a w).0 (truth_of around a w).1)

-- ---- printing

pub printed_by_grows : (h : Helper) (x : COperand) (w : Writing) → Grows w.found (printed_by h x w).found
printed_by_grows h x w = helpers_grow h w.found

pub put_by_grows : (k : Kind) (x : COperand) (w : Writing) → Grows w.found (put_by k x w).found
put_by_grows kind.Word x w = printed_by_grows helper.PrintWord x w
put_by_grows kind.Flag x w = printed_by_grows helper.PrintBool x w
put_by_grows kind.Text x w = printed_by_grows helper.PrintStr x w
put_by_grows _ x w = same_found w.found

pub put_grows : (a : Operand) (w : Writing) → Grows w.found (put a w).found
unfolding put
put_grows a w = put_by_grows (kind_of a) a.x w

pub put_more_grows : (args : List Operand) (w : Writing) → Grows w.found (put_more args w).found
put_more_grows [] w = same_found w.found
put_more_grows (a ∷ args) w = then_grows (put_grows a (push (op.Put (word (pos 32))) w)) (put_more_grows args (put a (push (op.Put (word (pos 32))) w)))

pub put_all_grows : (args : List Operand) (w : Writing) → Grows w.found (put_all args w).found
put_all_grows [] w = same_found w.found
put_all_grows (a ∷ args) w = then_grows (put_grows a w) (put_more_grows args (put a w))

pub print_grows : (args : List Operand) (w : Writing) → Grows w.found (print args w).found
print_grows args w = put_all_grows args w

-- ---- strings

pub to_str_by_grows : (k : Kind) (around : Around) (place : Place) (a : Operand) (w : Writing) → Grows w.found (to_str_by k around place a w).found
to_str_by_grows kind.Word around place a w = give_helped_grows around place helper.StrOfWord text_type (a.x ∷ []) w
to_str_by_grows kind.Flag around place a w = give_helped_grows around place helper.StrOfBool text_type (a.x ∷ []) w
to_str_by_grows kind.Byte around place a w = give_grows around place a.x type.Char w
to_str_by_grows kind.Text around place a w = give_grows around place a.x text_type w
to_str_by_grows _ around place a w = same_found w.found

pub to_str_grows : (around : Around) (place : Place) (a : Operand) (w : Writing) → Grows w.found (to_str around place a w).found
unfolding to_str
to_str_grows around place a w = to_str_by_grows (kind_of a) around place a w

pub of_text_grows : (around : Around) (place : Place) (h : Helper) (gives : LlType) (a : Operand) (w : Writing) → Grows w.found (of_text around place h gives a w).found
unfolding of_text
of_text_grows around place h gives a w = then_grows (given_grows around a text_type w) (give_helped_grows around place h gives ((given around a text_type w).0 ∷ []) (given around a text_type w).1)

pub of_texts_grows : (around : Around) (place : Place) (h : Helper) (gives : LlType) (a b : Operand) (w : Writing) → Grows w.found (of_texts around place h gives a b w).found
unfolding of_texts
of_texts_grows around place h gives a b w = then_grows (given_grows around a text_type w) (two (given around a text_type w))
  where
    two : (x : COperand × Writing) → Grows x.1.found (give_helped around place h gives (x.0 ∷ (given around b text_type x.1).0 ∷ []) (given around b text_type x.1).1).found
    two x = then_grows (given_grows around b text_type x.1) (give_helped_grows around place h gives (x.0 ∷ (given around b text_type x.1).0 ∷ []) (given around b text_type x.1).1)

pub of_text_and_word_grows : (around : Around) (place : Place) (h : Helper) (gives : LlType) (a b : Operand) (w : Writing) → Grows w.found (of_text_and_word around place h gives a b w).found
unfolding of_text_and_word
of_text_and_word_grows around place h gives a b w = then_grows (given_grows around a text_type w) (give_helped_grows around place h gives ((given around a text_type w).0 ∷ b.x ∷ []) (given around a text_type w).1)

pub slice_grows : (around : Around) (place : Place) (low high : Bool) (args : List Operand) (w : Writing) → Grows w.found (slice around place low high args w).found
slice_grows around place low high args w = if_written _ _ (is_text_or_none (kind_of (operand_at args 0))) (then_grows (given_grows around (operand_at args 0) text_type w) (one (given around (operand_at args 0) text_type w))) (same_found w.found)
  where
    one : (x : COperand × Writing) → Grows x.1.found (give_helped around place helper.StrSlice text_type (x.0 ∷ lower low args ∷ upper low high args ∷ []) x.1).found
    one x = give_helped_grows around place helper.StrSlice text_type (x.0 ∷ lower low args ∷ upper low high args ∷ []) x.1

pub byte_method_by_grows : (h : Option Helper) (k : Kind) (around : Around) (place : Place) (a : Operand) (w : Writing) → Grows w.found (byte_method_by h k around place a w).1.found
byte_method_by_grows (Some h) kind.Byte around place a w = give_helped_grows around place h type.Bool (a.x ∷ []) w
byte_method_by_grows _ _ around place a w = same_found w.found

pub byte_method_grows : (around : Around) (place : Place) (name : List ℕ) (a : Operand) (w : Writing) → Grows w.found (byte_method around place name a w).1.found
unfolding byte_method
byte_method_grows around place name a w = byte_method_by_grows (of_byte name) (kind_of a) around place a w

pub text_method_by_grows : (h : Option (Helper × LlType)) (are_texts : Bool) (around : Around) (place : Place) (a b : Operand) (w : Writing) → Grows w.found (text_method_by h are_texts around place a b w).found
text_method_by_grows (Some h) true around place a b w = of_texts_grows around place h.0 h.1 a b w
text_method_by_grows _ _ around place a b w = same_found w.found

pub text_method_grows : (around : Around) (place : Place) (name : List ℕ) (a b : Operand) (w : Writing) → Grows w.found (text_method around place name a b w).found
text_method_grows around place name a b w = text_method_by_grows (two_of name) (is_text_or_none (kind_of a) && is_text (kind_of b)) around place a b w

pub strip_grows : (around : Around) (place : Place) (name : List ℕ) (a : Operand) (w : Writing) → Grows w.found (strip around place name a w).found
strip_grows around place name a w = if_written _ _ (bytes_eq name (codes "strip") && is_text_or_none (kind_of a)) (of_text_grows around place helper.StrStrip text_type a w) (same_found w.found)

pub strip_unless_grows : (done : Bool) (around : Around) (place : Place) (name : List ℕ) (a : Operand) (w : Writing) → Grows w.found (strip_unless done around place name a w).found
strip_unless_grows true around place name a w = same_found w.found
strip_unless_grows false around place name a w = strip_grows around place name a w

pub method_grows : (around : Around) (place : Place) (name : List ℕ) (args : List Operand) (w : Writing) → Grows w.found (method around place name args w).found
method_grows around place name (a ∷ []) w = then_grows (byte_method_grows around place name a w) (strip_unless_grows (byte_method around place name a w).0 around place name a (byte_method around place name a w).1)
method_grows around place name (a ∷ b ∷ []) w = text_method_grows around place name a b w
method_grows around place name _ w = same_found w.found

pub write_grows : (around : Around) (place : Place) (a : Operand) (w : Writing) → Grows w.found (write around place a w).found
write_grows around place a w = if_written _ _ (is_text (kind_of a)) (of_text_grows around place helper.StrWrite type.Signed a w) (same_found w.found)

-- ---- indices, lengths and walks

pub index_by_grows : (k : Kind) (literal : Option ℤ) (around : Around) (place : Place) (a b : Operand) (w : Writing) → Grows w.found (index_by k literal around place a b w).found
index_by_grows kind.Tuple (Some i) around place a b w = item_of_grows around place a (place_of i (length_of around a)) w
index_by_grows k literal around place a b w = if_written (of_text_and_word around place helper.StrIndex type.Char a b w) w (is_text_or_none k) (of_text_and_word_grows around place helper.StrIndex type.Char a b w) (same_found w.found)

pub index_grows : (around : Around) (place : Place) (literal : Option ℤ) (a b : Operand) (w : Writing) → Grows w.found (index around place literal a b w).found
unfolding index
index_grows around place literal a b w = index_by_grows (kind_of a) literal around place a b w

pub len_by_grows : (k : Kind) (around : Around) (place : Place) (a : Operand) (w : Writing) → Grows w.found (len_by k around place a w).found
len_by_grows kind.Tuple around place a w = give_grows around place (word (pos (length_of around a))) type.Signed w
len_by_grows k around place a w = if_written (of_text around place helper.StrLen type.Signed a w) w (is_text_or_none k) (of_text_grows around place helper.StrLen type.Signed a w) (same_found w.found)

pub len_grows : (around : Around) (place : Place) (a : Operand) (w : Writing) → Grows w.found (len around place a w).found
unfolding len
len_grows around place a w = len_by_grows (kind_of a) around place a w

pub walk_by_grows : (k : Kind) (around : Around) (place : Place) (a : Operand) (w : Writing) → Grows w.found (walk_by k around place a w).found
walk_by_grows kind.Byte around place a w = give_grows around place a.x type.Char w
walk_by_grows k around place a w = if_written (of_text around place helper.StrWalk text_type a w) (says_nothing around place w) (is_text_or_none k) (of_text_grows around place helper.StrWalk text_type a w) (same_found w.found)

pub walk_grows : (around : Around) (place : Place) (a : Operand) (w : Writing) → Grows w.found (walk around place a w).found
unfolding walk
walk_grows around place a w = walk_by_grows (kind_of a) around place a w

pub has_item_grows : (around : Around) (place : Place) (step : Option ℤ) (a b : Operand) (w : Writing) → Grows w.found (has_item around place step a b w).found
unfolding has_item
has_item_grows around place (Some step) a b w = range_has_grows around place step a.x b.x w
has_item_grows around place None a b w = if_written _ _ (is_text_or_none (kind_of a)) (of_text_and_word_grows around place helper.StrHasItem type.Bool a b w) (same_found w.found)

pub walk_item_grows : (around : Around) (place : Place) (step : Option ℤ) (a b : Operand) (w : Writing) → Grows w.found (walk_item around place step a b w).found
unfolding walk_item
walk_item_grows around place (Some step) a b w = give_grows around place b.x type.Signed w
walk_item_grows around place None a b w = if_written _ _ (is_text_or_none (kind_of a)) (of_text_and_word_grows around place helper.StrItem type.Char a b w) (same_found w.found)

pub advance_grows : (around : Around) (place : Place) (step : Option ℤ) (a b : Operand) (w : Writing) → Grows w.found (advance around place step a b w).found
unfolding advance
advance_grows around place (Some step) a b w = range_advance_grows around place step a.x b.x w
advance_grows around place None a b w = give_binary_grows around place binary.Add type.Signed b.x (word (pos 1)) w

pub sum_by_grows : (s t : Kind) (around : Around) (place : Place) (a b : Operand) (w : Writing) → Grows w.found (sum_by s t around place a b w).found
sum_by_grows kind.Word kind.Word around place a b w = give_binary_grows around place binary.Add type.Signed a.x b.x w
sum_by_grows s t around place a b w = if_written (of_texts around place helper.StrAdd text_type a b w) w (is_text_or_none s && is_text_or_none t) (of_texts_grows around place helper.StrAdd text_type a b w) (same_found w.found)

pub sum_grows : (around : Around) (place : Place) (a b : Operand) (w : Writing) → Grows w.found (sum around place a b w).found
unfolding sum
sum_grows around place a b w = sum_by_grows (kind_of a) (kind_of b) around place a b w

pub product_by_grows : (s : Kind) (around : Around) (place : Place) (a b : Operand) (w : Writing) → Grows w.found (product_by s around place a b w).found
product_by_grows kind.Word around place a b w = give_binary_grows around place binary.Mul type.Signed a.x b.x w
product_by_grows s around place a b w = if_written (of_text_and_word around place helper.StrMul text_type a b w) w (is_text_or_none s) (of_text_and_word_grows around place helper.StrMul text_type a b w) (same_found w.found)

pub product_grows : (around : Around) (place : Place) (a b : Operand) (w : Writing) → Grows w.found (product around place a b w).found
unfolding product
product_grows around place a b w = product_by_grows (kind_of a) around place a b w

-- ---- constants

pub static_text_grows : (bytes : List ℕ) (to : LlType) (found : Found) → Grows found (static_text bytes to found).1
static_text_grows bytes (type.Ptr n) found = if_asked _ _ (n == 0) (statics_grow 0 (text_cells bytes) found) (same_found found)
static_text_grows bytes _ found = same_found found

pub text_grows : (bytes : List ℕ) (to : LlType) (found : Found) → Grows found (text bytes to found).1
text_grows (b ∷ []) type.Char found = same_found found
text_grows bytes to found = static_text_grows bytes to found

abbrev OnlyAsks : (LlType → Found → CConst × Found) → Type 0
OnlyAsks f = (to : LlType) (found : Found) → Grows found (f to found).1

module _ (around : Around) where
  abbrev Asks : Const → Type 0
  Asks c = OnlyAsks (constant_of around c)

  parts_grow : (ys : List ((c : Const) × Asks c)) (fields : List LlType) (found : Found) → Grows found (parts_of (map (constant_of around) (map (λ q. q.0) ys)) fields found).1
  parts_grow [] fields found = same_found found
  parts_grow (y ∷ ys) [] found = same_found found
  parts_grow (y ∷ ys) (t ∷ ts) found = then_grows (y.1 t found) (parts_grow ys ts (constant_of around y.0 t found).1)

  tuple_grows : (ys : List ((c : Const) × Asks c)) (to : LlType) (found : Found) → Grows found (tuple around (map (constant_of around) (map (λ q. q.0) ys)) to found).1
  tuple_grows ys (type.Ptr n) found = if_asked _ _ (is_tuple around.layout n)
      (then_grows (parts_grow ys (fields_of around n) found) (statics_grow n (parts_of (map (constant_of around) (map (λ q. q.0) ys)) (fields_of around n) found).0 (parts_of (map (constant_of around) (map (λ q. q.0) ys)) (fields_of around n) found).1))
      (same_found found)
  tuple_grows ys _ found = same_found found

  constant_on : (y : Const-F ((c : Const) × Asks c)) → OnlyAsks (constant_step around (map-Const Const (LlType → Found → CConst × Found) (constant_of around) (map-Const ((c : Const) × Asks c) Const (λ q. q.0) y)))
  constant_on (Const-F.Word z) to found = same_found found
  constant_on (Const-F.Bool b) to found = same_found found
  constant_on (Const-F.Str bytes) to found = text_grows bytes to found
  constant_on Const-F.None to found = same_found found
  constant_on (Const-F.Function f) to found = same_found found
  constant_on (Const-F.Tuple ys) to found = tuple_grows ys to found
  constant_on (Const-F.List site) to found = same_found found
  constant_on (Const-F.Dict site) to found = same_found found

  pub constant_of_grows : (c : Const) (to : LlType) (found : Found) → Grows found (constant_of around c to found).1
  constant_of_grows = ind-Const Asks
      (λ x y is. subst OnlyAsks (sym (fold-roll-Const (LlType → Found → CConst × Found) (constant_step around) x)) (subst (λ z. OnlyAsks (constant_step around (map-Const Const (LlType → Found → CConst × Found) (constant_of around) z))) is (constant_on y)))

-- ---- calls

pub constant_for_grows : (around : Around) (c : Option (Option Const)) (to : LlType) (found : Found) → Grows found (constant_for around c to found).1
constant_for_grows around (Some (Some c)) to found = constant_of_grows around c to found
constant_for_grows around (Some None) to found = same_found found
constant_for_grows around None to found = same_found found

pub stand_in_grows : (around : Around) (f : Option Function) (i : ℕ) (to : LlType) (found : Found) → Grows found (stand_in around f i to found).1
unfolding stand_in
stand_in_grows around None i to found = same_found found
stand_in_grows around (Some f) i to found = constant_for_grows around (slice_get f.defaults i) to found

pub argument_grows : (around : Around) (f : Option Function) (i : ℕ) (a : Option Operand) (to : LlType) (w : Writing) → Grows w.found (argument around f i a to w).1.found
argument_grows around f i (Some a) to w = given_grows around a to w
argument_grows around f i None to w = stand_in_grows around f i to w.found

pub argument_if_grows : (around : Around) (f : Option Function) (i : ℕ) (a : Option Operand) (to : LlType) (w : Writing) → Grows w.found (argument_if around f i a to w).1.found
unfolding argument_if
argument_if_grows around f i a type.Void w = same_found w.found
argument_if_grows around f i a to w = argument_grows around f i a to w

pub arguments_from_grows : (around : Around) (f : Option Function) (args : List Operand) (i : ℕ) (params : List Element) (done : List COperand × Writing) → Grows done.1.found (arguments_from around f args i params done).1.found
arguments_from_grows around f args i [] done = same_found done.1.found
arguments_from_grows around f args i (p ∷ params) done =
    then_grows (argument_if_grows around f i (slice_get args i) (type_of_element around.layout p) done.1)
    (arguments_from_grows around f args (i + 1) params (done.0 ++ (argument_if around f i (slice_get args i) (type_of_element around.layout p) done.1).0, (argument_if around f i (slice_get args i) (type_of_element around.layout p) done.1).1))

pub arguments_for_grows : (around : Around) (params : Option (List Element)) (number : ℕ) (args : List Operand) (w : Writing) → Grows w.found (arguments_for around params number args w).1.found
arguments_for_grows around None number args w = same_found w.found
arguments_for_grows around (Some params) number args w = arguments_from_grows around (slice_get around.functions number) args 0 params ([], w)

pub arguments_grows : (around : Around) (number : ℕ) (args : List Operand) (w : Writing) → Grows w.found (arguments around number args w).1.found
unfolding arguments
arguments_grows around number args w = arguments_for_grows around (slice_get around.params number) number args w

pub call_giving_grows : (around : Around) (place : Place) (number : ℕ) (gives : LlType) (xs : List COperand × Writing) → Grows xs.1.found (call_giving around place number gives xs).found
unfolding call_giving
call_giving_grows around place number type.Void xs = same_found xs.1.found
call_giving_grows around place number gives xs = landed_grows around place gives (λ v. op.Call (Some v) number xs.0) xs.1.found (landing around place gives xs.1.body)

pub call_grows : (around : Around) (place : Place) (f : ℕ) (args : List Operand) (w : Writing) → Grows w.found (call around place f args w).found
call_grows around place f args w = then_grows (arguments_grows around f args w) (call_giving_grows around place (number_of around f) (type_seen around.layout (slice_get around.results f)) (arguments around f args w))

-- ---- without operands

pub same_grows : (around : Around) (place : Place) (a : Operand) (w : Writing) → Grows w.found (same around place a w).found
same_grows around place a w = give_grows around place a.x (type_of around a) w

pub failure_op_grows : (around : Around) (place : Place) (w : Writing) → Grows w.found (failure around place w).found
unfolding failure
failure_op_grows around place w = smalls_grow (small.Fail w.found.covered.attribute) w.found

pub constant_to_grows : (around : Around) (place : Place) (c : Const) (t : LlType) (w : Writing) → Grows w.found (constant_to around place c t w).found
constant_to_grows around place c type.Void w = same_found w.found
constant_to_grows around place c to w = constant_of_grows around c to w.found

pub give_constant_grows : (around : Around) (place : Place) (c : Const) (w : Writing) → Grows w.found (give_constant around place c w).found
give_constant_grows around place c w = constant_to_grows around place c (type_at around place) w

pub text_to_grows : (around : Around) (place : Place) (bytes : List ℕ) (t : LlType) (w : Writing) → Grows w.found (text_to around place bytes t w).found
text_to_grows around place bytes type.Void w = same_found w.found
text_to_grows around place bytes to w = text_grows bytes to w.found

pub give_text_grows : (around : Around) (place : Place) (bytes : List ℕ) (w : Writing) → Grows w.found (give_text around place bytes w).found
give_text_grows around place bytes w = text_to_grows around place bytes (type_at around place) w

pub literal_grows : (around : Around) (place : Place) (o : RowOp) (w : Writing) → Grows w.found (literal around place o w).found
unfolding literal
literal_grows around place (row.Word z) w = give_grows around place (word z) type.Signed w
literal_grows around place (row.Str bytes) w = give_text_grows around place bytes w
literal_grows around place (row.Bool b) w = give_grows around place (flag b) type.Bool w
literal_grows around place row.None w = give_constant_grows around place const.None w
literal_grows around place (row.Constant c) w = give_constant_grows around place c w
literal_grows around place _ w = same_found w.found

-- ---- of one operand

pub conversion_by_grows : (o : RowOp) (k : Kind) (around : Around) (place : Place) (a : Operand) (w : Writing) → Grows w.found (conversion_by o k around place a w).found
conversion_by_grows row.Intmask kind.Word around place a w = give_grows around place a.x type.Signed w
conversion_by_grows row.ToInt k around place a w = to_int_grows around place a w
conversion_by_grows row.ToStr k around place a w = to_str_grows around place a w
conversion_by_grows row.Ord kind.Byte around place a w = give_unary_grows around place unary.C2S type.Signed a.x w
conversion_by_grows row.Chr kind.Word around place a w = give_helped_grows around place helper.WordChr type.Char (a.x ∷ []) w
conversion_by_grows (row.Unary o) kind.Word around place a w = unary_of_grows around place o a w
conversion_by_grows row.CheckedNeg kind.Word around place a w = then_grows (by_small_grows small.CheckedNeg type.Signed (a.x ∷ []) w) (give_made_grows around place type.Signed (by_small small.CheckedNeg type.Signed (a.x ∷ []) w))
conversion_by_grows (row.IsInstance class) kind.Nothing around place a w = give_grows around place (flag false) type.Bool w
conversion_by_grows _ _ around place a w = same_found w.found

pub conversion_grows : (around : Around) (place : Place) (o : RowOp) (a : Operand) (w : Writing) → Grows w.found (conversion around place o a w).found
unfolding conversion
conversion_grows around place o a w = conversion_by_grows o (kind_of a) around place a w

pub all_but_last_grows : (around : Around) (place : Place) (a : Operand) (w : Writing) → Grows w.found (all_but_last around place a w).found
all_but_last_grows around place a w = if_written _ _ (is_text_or_none (kind_of a)) (of_text_grows around place helper.StrButLast text_type a w) (same_found w.found)

pub unpack_by_grows : (k : Kind) (around : Around) (place : Place) (a : Operand) (i : ℕ) (w : Writing) → Grows w.found (unpack_by k around place a i w).found
unpack_by_grows kind.Tuple around place a i w = item_of_grows around place a i w
unpack_by_grows _ around place a i w = same_found w.found

pub of_one_grows : (around : Around) (place : Place) (o : RowOp) (a : Operand) (w : Writing) → Grows w.found (of_one around place o a w).found
unfolding of_one
of_one_grows around place row.Copy a w = same_grows around place a w
of_one_grows around place row.DropNone a w = same_grows around place a w
of_one_grows around place row.OnlyNone a w = same_grows around place a w
of_one_grows around place row.FalseNone a w = same_grows around place a w
of_one_grows around place (row.Lower class) a w = same_grows around place a w
of_one_grows around place row.Not a w = truth_to_grows around place a true w
of_one_grows around place row.Truth a w = truth_to_grows around place a false w
of_one_grows around place row.Len a w = len_grows around place a w
of_one_grows around place (row.AllButLast site) a w = all_but_last_grows around place a w
of_one_grows around place (row.Walk site) a w = walk_grows around place a w
of_one_grows around place (row.Unpack n i) a w = unpack_by_grows (kind_of a) around place a i w
of_one_grows around place o a w = conversion_grows around place o a w

-- ---- of two operands

pub if_words_grows : {found : Found} (s t : Kind) (there elsewhere : Writing) → Grows found there.found → Grows found elsewhere.found → Grows found (if_words s t there elsewhere).found
if_words_grows kind.Word kind.Word there elsewhere g h = g
if_words_grows _ _ there elsewhere g h = h

pub binary_to_grows : (around : Around) (place : Place) (o : BinOp) (a b : Operand) (w : Writing) → Grows w.found (binary_to around place o a b w).found
unfolding binary_to
binary_to_grows around place bin.Add a b w = sum_grows around place a b w
binary_to_grows around place bin.Mul a b w = product_grows around place a b w
binary_to_grows around place o a b w = if_words_grows (kind_of a) (kind_of b) (binary_of around place o a.x b.x w) w (binary_of_grows around place o a.x b.x w) (same_found w.found)

pub least_grows : (around : Around) (place : Place) (h : Helper) (a b : Operand) (w : Writing) → Grows w.found (least around place h a b w).found
unfolding least
least_grows around place h a b w = if_words_grows (kind_of a) (kind_of b) (give_helped around place h type.Signed (a.x ∷ b.x ∷ []) w) w (give_helped_grows around place h type.Signed (a.x ∷ b.x ∷ []) w) (same_found w.found)

pub checked_grows : (around : Around) (place : Place) (o : BinOp) (a b : Operand) (w : Writing) → Grows w.found (checked around place o a b w).found
unfolding checked
checked_grows around place o a b w =
    then_grows (by_small_grows (checked_small o w.found.covered) type.Signed (a.x ∷ b.x ∷ []) w) (give_made_grows around place type.Signed (by_small (checked_small o w.found.covered) type.Signed (a.x ∷ b.x ∷ []) w))

pub of_two_grows : (around : Around) (place : Place) (o : RowOp) (a b : Operand) (w : Writing) → Grows w.found (of_two around place o a b w).found
unfolding of_two
of_two_grows around place (row.Binary o site) a b w = binary_to_grows around place o a b w
of_two_grows around place row.AddTo a b w = sum_grows around place a b w
of_two_grows around place (row.Compare o) a b w = then_grows (compare_grows around o a b w) (give_made_grows around place type.Bool (compare around o a b w))
of_two_grows around place row.Min a b w = least_grows around place helper.WordMin a b w
of_two_grows around place row.Max a b w = least_grows around place helper.WordMax a b w
of_two_grows around place row.Write a b w = write_grows around place b w
of_two_grows around place (row.Index i) a b w = index_grows around place i a b w
of_two_grows around place (row.HasItem step) a b w = has_item_grows around place step a b w
of_two_grows around place (row.Item step) a b w = walk_item_grows around place step a b w
of_two_grows around place (row.Advance step) a b w = advance_grows around place step a b w
of_two_grows around place row.NonNegative a b w = same_grows around place a w
of_two_grows around place (row.Checked o) a b w = checked_grows around place o a b w
of_two_grows around place _ a b w = same_found w.found

-- ---- of any number

pub method_by_grows : (k : Kind) (around : Around) (place : Place) (name : List ℕ) (args : List Operand) (w : Writing) → Grows w.found (method_by k around place name args w).found
method_by_grows kind.Nothing around place name args w = failure_op_grows around place w
method_by_grows _ around place name args w = method_grows around place name args w

pub method_to_grows : (around : Around) (place : Place) (name : List ℕ) (args : List Operand) (w : Writing) → Grows w.found (method_to around place name args w).found
method_to_grows around place name [] w = method_grows around place name [] w
method_to_grows around place name (a ∷ args) w = method_by_grows (kind_of a) around place name (a ∷ args) w

pub of_some_grows : (around : Around) (place : Place) (o : RowOp) (args : List Operand) (w : Writing) → Grows w.found (of_some around place o args w).found
unfolding of_some
of_some_grows around place o [] w = literal_grows around place o w
of_some_grows around place o (a ∷ []) w = of_one_grows around place o a w
of_some_grows around place o (a ∷ b ∷ []) w = of_two_grows around place o a b w
of_some_grows around place o (a ∷ b ∷ c ∷ args) w = same_found w.found

pub lowered_grows : (around : Around) (place : Place) (o : RowOp) (args : List Operand) (w : Writing) → Grows w.found (lowered around place o args w).found
lowered_grows around place row.Print args w = print_grows args w
lowered_grows around place row.Tuple args w = tuple_of_grows around place args w
lowered_grows around place (row.Call f) args w = call_grows around place f args w
lowered_grows around place (row.Slice site low high) args w = slice_grows around place low high args w
lowered_grows around place (row.Method name site) args w = method_to_grows around place name args w
lowered_grows around place o args w = of_some_grows around place o args w

pub lower_op_grows : OperationsOnlyAsk
lower_op_grows around o place args w = if_written _ _ (is_never args) (same_found w.found) (lowered_grows around place o args w)
