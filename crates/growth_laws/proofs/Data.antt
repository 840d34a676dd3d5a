-- What is written by the base of lowering only asks for more.
use Rattle.std.proofs.Common.{ℕ, ◌+◌, ◌==◌, ◌&&◌, Bool, true, false, List, [], ◌∷◌, Option, Some, None, pos, negsuc, ℤ, ◌||◌}
use Rattle.std.specs.Ordering.{int_eq}
use Rattle.std.specs.Prelude.{if◌then◌else◌}
use Rattle.csub_tree.specs.declared.tree.CBinary.{CBinary}
use Rattle.csub_tree.specs.declared.tree.CBinary.TheVariants as binary
use Rattle.csub_tree.specs.declared.tree.CUnary.{CUnary}
use Rattle.csub_tree.specs.declared.tree.CUnary.TheVariants as unary
use Rattle.csub_tree.specs.declared.tree.COperand.{COperand}
use Rattle.csub_tree.specs.declared.tree.COperand.TheVariants.{Var}
use Rattle.ll_code.specs.declared.program.LlType.{LlType}
use Rattle.ll_code.specs.declared.program.LlType.TheVariants as type
use Rattle.ll_code.specs.declared.program.LlOp.{LlOp}
use Rattle.ll_code.specs.declared.program.LlOp.TheVariants as op
use Rattle.ll_build.specs.declared.needs.Helper.{Helper}
use Rattle.ll_build.specs.declared.needs.Helper.TheVariants as helper
use Rattle.rpy_tree.specs.declared.syntax.BinOp.{BinOp}
use Rattle.rpy_tree.specs.declared.syntax.UnOp.{UnOp}
use Rattle.rpy_tree.specs.declared.syntax.UnOp.TheVariants as un
use Rattle.rpy_tree.specs.declared.syntax.CmpOp.{CmpOp}
use Rattle.rpy_tree.specs.declared.syntax.CmpOp.TheVariants as compared
use Rattle.rtyper_layout.specs.declared.kind.Kind.{Kind}
use Rattle.rtyper_layout.specs.declared.kind.Kind.TheVariants as kind
use Rattle.rtyper_layout.specs.declared.layout.Layout.{Layout}
use Rattle.rtyper_layout.specs.Kinds.{is_text, is_text_or_none}
use Rattle.rtyper_layout.specs.Layout.{is_tuple}
use Rattle.rtyper_data.specs.declared.body.Body.{Body}
use Rattle.rtyper_data.specs.declared.found.Found.{Found}
use Rattle.rtyper_data.specs.declared.small.Small.{Small}
use Rattle.rtyper_data.specs.declared.small.Small.TheVariants as small
use Rattle.rtyper_data.specs.Seen.{Around, Operand, Place, type_of, type_at, kind_of, with_op, fresh, Writing, writing, push}
use Rattle.rtyper_data.specs.Finding.{same_type, helper_number, small_number}
use Rattle.rtyper_data.specs.Converting.{by_small, converted, give, give_called, give_helped, give_made, give_op, give_to, given, helped, land, landed, landing, present, value_as}
use Rattle.rtyper_data.specs.Comparing.{any_equal, compare, equal, field_equal, field_of, flag, joined, ordered, ordered_by, pointers_equal, texts_equal, texts_less, texts_less_by, within, within_by, within_of, within_text, within_tuple, zero_word}
use Rattle.rtyper_data.specs.Tuples.{field_read, field_type_of, fields_of, item_by, item_of, parts_from, tuple_made, tuple_of, tuple_to, variable_of}
use Rattle.rtyper_data.specs.Graphs.{and_equal, body_of, cast, cast_from, cast_items, equal_from, equal_items, equality, failing, failure, field_at, fields_at, item_as, items_equal, raised, raising, present as present_graph, shared_fields}
use Rattle.rtyper_data.specs.Numbers.{binary_by, binary_of, give_binary, give_unary, int_of_text, plain, range_advance, range_has, rises, tested, to_int, to_int_by, unary_of, word}
use Rattle.rtyper_data.specs.CheckedGraphs.{blocks_of, checked_graph, checked_neg_graph, of_quotient, of_rest, of_shift, of_sum, overflowing}
use Rattle.rtyper_data.specs.IntOfText.{int_graph}
use Rattle.rtyper_data.specs.Smalls.{small_graph}
use Rattle.growth_laws.specs.Growing.{Grows}
use Rattle.growth_laws.proofs.Growing.{growth_is_one, helpers_grow, same_found, smalls_grow}

-- ---- one after another, and either

pub then_grows : {a b c : Found} → Grows a b → Grows b c → Grows a c
then_grows {a} {b} {c} g h = growth_is_one a b c g h

pub if_asked : {A : Type 0} {found : Found} (x y : A × Found) (c : Bool) → Grows found x.1 → Grows found y.1 → Grows found (if c then x else y).1
if_asked x y true g h = g
if_asked x y false g h = h

pub if_written : {found : Found} (x y : Writing) (c : Bool) → Grows found x.found → Grows found y.found → Grows found (if c then x else y).found
if_written x y true g h = g
if_written x y false g h = h

pub if_given : {A : Type 0} {found : Found} (x y : A × Writing) (c : Bool) → Grows found x.1.found → Grows found y.1.found → Grows found (if c then x else y).1.found
if_given x y true g h = g
if_given x y false g h = h

-- ---- conversions

pub helped_grows : (h : Helper) (gives : LlType) (xs : List COperand) (w : Writing) → Grows w.found (helped h gives xs w).1.found
unfolding helped
helped_grows h gives xs w = helpers_grow h w.found

pub by_small_grows : (s : Small) (gives : LlType) (xs : List COperand) (w : Writing) → Grows w.found (by_small s gives xs w).1.found
unfolding by_small
by_small_grows s gives xs w = smalls_grow s w.found

pub converted_grows : (layout : Layout) (x : COperand) (from to : LlType) (w : Writing) → Grows w.found (converted layout x from to w).1.found
converted_grows layout x type.Char (type.Ptr n) w = if_given _ _ (n == 0) (helped_grows helper.StrOfChar (type.Ptr n) (x ∷ []) w) (same_found w.found)
converted_grows layout x (type.Ptr m) (type.Ptr n) w = if_given _ _ (is_tuple layout m && is_tuple layout n) (by_small_grows (small.Cast m n) (type.Ptr n) (x ∷ []) w) (same_found w.found)
converted_grows layout x _ _ w = same_found w.found

pub value_as_grows : (layout : Layout) (x : COperand) (from to : LlType) (w : Writing) → Grows w.found (value_as layout x from to w).1.found
unfolding value_as
value_as_grows layout x from to w = if_given _ _ (same_type from to) (same_found w.found) (converted_grows layout x from to w)

pub given_grows : (around : Around) (a : Operand) (to : LlType) (w : Writing) → Grows w.found (given around a to w).1.found
given_grows around a to w = value_as_grows around.layout a.x (type_of around a) to w

pub present_grows : (around : Around) (a : Operand) (or_none : Bool) (w : Writing) → Grows w.found (present around a or_none w).1.found
present_grows around a or_none w = if_given _ _ or_none (by_small_grows (small.Present (type_of around a) w.found.covered.attribute) (type_of around a) (a.x ∷ []) w) (same_found w.found)

-- ---- results

pub give_to_grows : (around : Around) (place : Place) (x : COperand) (from to : LlType) (w : Writing) → Grows w.found (give_to around place x from to w).found
give_to_grows around place x from type.Void w = same_found w.found
give_to_grows around place x from to w = value_as_grows around.layout x from to w

pub give_grows : (around : Around) (place : Place) (x : COperand) (from : LlType) (w : Writing) → Grows w.found (give around place x from w).found
unfolding give
give_grows around place x from w = give_to_grows around place x from (type_at around place) w

pub land_grows : (around : Around) (place : Place) (v : ℕ) (gives : LlType) (w : Writing) → Grows w.found (land around place v gives w).found
land_grows around place v gives w = if_written _ _ (v == place.variable) (same_found w.found) (give_grows around place (Var v) gives w)

pub landed_grows : (around : Around) (place : Place) (gives : LlType) (o : ℕ → LlOp) (found : Found) (v : ℕ × Body) → Grows found (landed around place gives o found v).found
landed_grows around place gives o found v = land_grows around place v.0 gives (writing found (with_op (o v.0) v.1))

pub give_op_grows : (around : Around) (place : Place) (gives : LlType) (o : ℕ → LlOp) (w : Writing) → Grows w.found (give_op around place gives o w).found
give_op_grows around place gives o w = landed_grows around place gives o w.found (landing around place gives w.body)

pub give_called_grows : (around : Around) (place : Place) (gives : LlType) (xs : List COperand) (number : ℕ × Found) (body : Body) → Grows number.1 (give_called around place gives xs number body).found
give_called_grows around place gives xs number body = landed_grows around place gives (λ v. op.Call (Some v) number.0 xs) number.1 (landing around place gives body)

pub give_helped_grows : (around : Around) (place : Place) (h : Helper) (gives : LlType) (xs : List COperand) (w : Writing) → Grows w.found (give_helped around place h gives xs w).found
unfolding give_helped
give_helped_grows around place h gives xs w = then_grows (helpers_grow h w.found) (give_called_grows around place gives xs (helper_number h w.found) w.body)

pub give_made_grows : (around : Around) (place : Place) (from : LlType) (made : COperand × Writing) → Grows made.1.found (give_made around place from made).found
give_made_grows around place from made = give_grows around place made.0 from made.1

-- ---- words

pub give_unary_grows : (around : Around) (place : Place) (o : CUnary) (gives : LlType) (x : COperand) (w : Writing) → Grows w.found (give_unary around place o gives x w).found
unfolding give_unary
give_unary_grows around place o gives x w = give_op_grows around place gives (λ v. op.Unary v o x) w

pub give_binary_grows : (around : Around) (place : Place) (o : CBinary) (gives : LlType) (x y : COperand) (w : Writing) → Grows w.found (give_binary around place o gives x y w).found
unfolding give_binary
give_binary_grows around place o gives x y w = give_op_grows around place gives (λ v. op.Binary v o x y) w

pub unary_of_grows : (around : Around) (place : Place) (o : UnOp) (a : Operand) (w : Writing) → Grows w.found (unary_of around place o a w).found
unfolding unary_of
unary_of_grows around place un.Neg a w = give_unary_grows around place unary.Neg type.Signed a.x w
unary_of_grows around place un.Pos a w = give_grows around place a.x type.Signed w
unary_of_grows around place un.Invert a w = give_unary_grows around place unary.Inv type.Signed a.x w

pub binary_by_grows : (around : Around) (place : Place) (o : BinOp) (c : Option CBinary) (x y : COperand) (w : Writing) → Grows w.found (binary_by around place o c x y w).found
binary_by_grows around place o (Some c) x y w = give_binary_grows around place c type.Signed x y w
binary_by_grows around place o None x y w = give_helped_grows around place (tested o) type.Signed (x ∷ y ∷ []) w

pub binary_of_grows : (around : Around) (place : Place) (o : BinOp) (x y : COperand) (w : Writing) → Grows w.found (binary_of around place o x y w).found
unfolding binary_of
binary_of_grows around place o x y w = binary_by_grows around place o (plain o) x y w

pub int_of_text_grows : (around : Around) (place : Place) (made : COperand × Writing) → Grows made.1.found (int_of_text around place made).found
int_of_text_grows around place made = then_grows (by_small_grows small.IntOfText type.Signed (made.0 ∷ []) made.1) (give_made_grows around place type.Signed (by_small small.IntOfText type.Signed (made.0 ∷ []) made.1))

pub to_int_by_grows : (k : Kind) (around : Around) (place : Place) (a : Operand) (w : Writing) → Grows w.found (to_int_by k around place a w).found
to_int_by_grows kind.Word around place a w = give_grows around place a.x type.Signed w
to_int_by_grows kind.Flag around place a w = give_unary_grows around place unary.B2S type.Signed a.x w
to_int_by_grows kind.Byte around place a w = then_grows (given_grows around a (type.Ptr 0) w) (int_of_text_grows around place (given around a (type.Ptr 0) w))
to_int_by_grows kind.Text around place a w = then_grows (given_grows around a (type.Ptr 0) w) (int_of_text_grows around place (given around a (type.Ptr 0) w))
to_int_by_grows _ around place a w = same_found w.found

pub to_int_grows : (around : Around) (place : Place) (a : Operand) (w : Writing) → Grows w.found (to_int around place a w).found
unfolding to_int
to_int_grows around place a w = to_int_by_grows (kind_of a) around place a w

pub range_has_grows : (around : Around) (place : Place) (step : ℤ) (end next : COperand) (w : Writing) → Grows w.found (range_has around place step end next w).found
unfolding range_has
range_has_grows around place step end next w = give_binary_grows around place (if rises step then binary.Gt else binary.Lt) type.Bool end next w

pub range_advance_grows : (around : Around) (place : Place) (step : ℤ) (end next : COperand) (w : Writing) → Grows w.found (range_advance around place step end next w).found
unfolding range_advance
range_advance_grows around place step end next w =
    if_written _ _ (int_eq step (pos 1) || int_eq step (negsuc 0)) (give_binary_grows around place binary.Add type.Signed next (word step) w)
    (give_helped_grows around place (if rises step then helper.RangeUp else helper.RangeDown) type.Signed (end ∷ next ∷ word step ∷ []) w)

-- ---- comparisons

pub texts_equal_grows : (layout : Layout) (x : COperand) (s : LlType) (y : COperand) (t : LlType) (w : Writing) → Grows w.found (texts_equal layout x s y t w).1.found
unfolding texts_equal
texts_equal_grows layout x s y t w = then_grows (value_as_grows layout x s (type.Ptr 0) w) (then_grows (value_as_grows layout y t (type.Ptr 0) (value_as layout x s (type.Ptr 0) w).1) (helped_grows helper.StrEqual type.Bool _ _))

pub pointers_equal_grows : (layout : Layout) (x : COperand) (m : ℕ) (y : COperand) (n : ℕ) (w : Writing) → Grows w.found (pointers_equal layout x m y n w).1.found
pointers_equal_grows layout x m y n w =
    if_given _ _ ((m == 0) && (n == 0)) (helped_grows helper.StrEqual type.Bool (x ∷ y ∷ []) w)
    (if_given _ _ (is_tuple layout m && is_tuple layout n) (by_small_grows (small.Equal m n) type.Bool (x ∷ y ∷ []) w) (same_found w.found))

pub equal_grows : (layout : Layout) (x : COperand) (s : LlType) (y : COperand) (t : LlType) (w : Writing) → Grows w.found (equal layout x s y t w).1.found
unfolding equal
equal_grows layout x type.Signed y type.Signed w = same_found w.found
equal_grows layout x type.Bool y type.Bool w = same_found w.found
equal_grows layout x type.Char y type.Char w = same_found w.found
equal_grows layout x type.Char y (type.Ptr n) w = if_given _ _ (n == 0) (texts_equal_grows layout x type.Char y (type.Ptr n) w) (same_found w.found)
equal_grows layout x (type.Ptr m) y type.Char w = if_given _ _ (m == 0) (texts_equal_grows layout x (type.Ptr m) y type.Char w) (same_found w.found)
equal_grows layout x type.Bool y (type.Ptr n) w = same_found w.found
equal_grows layout x (type.Ptr m) y type.Bool w = same_found w.found
equal_grows layout x (type.Ptr m) y (type.Ptr n) w = pointers_equal_grows layout x m y n w
equal_grows layout x _ y _ w = same_found w.found

pub texts_less_by_grows : (o : CmpOp) (x : COperand) (y : COperand × Writing) → Grows y.1.found (texts_less_by o x y).1.found
texts_less_by_grows compared.Lt x y = helped_grows helper.StrLess type.Bool (x ∷ y.0 ∷ []) y.1
texts_less_by_grows compared.Le x y = helped_grows helper.StrLess type.Bool (y.0 ∷ x ∷ []) y.1
texts_less_by_grows compared.Gt x y = helped_grows helper.StrLess type.Bool (y.0 ∷ x ∷ []) y.1
texts_less_by_grows _ x y = helped_grows helper.StrLess type.Bool (x ∷ y.0 ∷ []) y.1

pub texts_less_grows : (around : Around) (o : CmpOp) (a b : Operand) (w : Writing) → Grows w.found (texts_less around o a b w).1.found
texts_less_grows around o a b w = then_grows (given_grows around a (type.Ptr 0) w) (then_grows (given_grows around b (type.Ptr 0) (given around a (type.Ptr 0) w).1) (texts_less_by_grows o _ _))

pub ordered_by_grows : (s t : Kind) (around : Around) (o : CmpOp) (a b : Operand) (w : Writing) → Grows w.found (ordered_by s t around o a b w).1.found
ordered_by_grows kind.Word kind.Word around o a b w = same_found w.found
ordered_by_grows kind.Byte kind.Byte around o a b w = same_found w.found
ordered_by_grows s t around o a b w = if_given (texts_less around o a b w) (flag false, w) (is_text s && is_text t) (texts_less_grows around o a b w) (same_found w.found)

pub ordered_grows : (around : Around) (o : CmpOp) (a b : Operand) (w : Writing) → Grows w.found (ordered around o a b w).1.found
unfolding ordered
ordered_grows around o a b w = ordered_by_grows (kind_of a) (kind_of b) around o a b w

pub within_text_grows : (around : Around) (a b : Operand) (w : Writing) → Grows w.found (within_text around a b w).1.found
within_text_grows around a b w = then_grows (given_grows around a (type.Ptr 0) w) (then_grows (given_grows around b (type.Ptr 0) (given around a (type.Ptr 0) w).1) (helped_grows helper.StrContains type.Bool _ _))

pub any_equal_grows : (layout : Layout) (n tuple : ℕ) (x : COperand) (s : LlType) (i : ℕ) (ts : List LlType) (any : COperand × Writing) → Grows any.1.found (any_equal layout n tuple x s i ts any).1.found
any_equal_grows layout n tuple x s i [] any = same_found any.1.found
any_equal_grows layout n tuple x s i (t ∷ ts) any =
    then_grows (equal_grows layout (field_of n tuple i t any.1.body).0 t x s (writing any.1.found (field_of n tuple i t any.1.body).1))
    (any_equal_grows layout n tuple x s (i + 1) ts (joined any.0 (field_equal layout x s t any.1.found (field_of n tuple i t any.1.body))))

pub within_tuple_grows : (around : Around) (a : Operand) (b : COperand) (n : ℕ) (w : Writing) → Grows w.found (within_tuple around a b n w).1.found
within_tuple_grows around a b n w = any_equal_grows around.layout n _ a.x (type_of around a) 0 (fields_of around n) (zero_word, writing w.found (variable_of b (type.Ptr n) w.body).1)

pub within_of_grows : (t : LlType) (around : Around) (a b : Operand) (w : Writing) → Grows w.found (within_of t around a b w).1.found
within_of_grows (type.Ptr n) around a b w = within_tuple_grows around a b.x n w
within_of_grows _ around a b w = same_found w.found

pub within_by_grows : (s t : Kind) (around : Around) (a b : Operand) (w : Writing) → Grows w.found (within_by s t around a b w).1.found
within_by_grows kind.Byte kind.Byte around a b w = same_found w.found
within_by_grows s kind.Tuple around a b w = within_of_grows (type_of around b) around a b w
within_by_grows s t around a b w = if_given (within_text around a b w) (flag false, w) (is_text s && is_text_or_none t) (within_text_grows around a b w) (same_found w.found)

pub within_grows : (around : Around) (a b : Operand) (w : Writing) → Grows w.found (within around a b w).1.found
unfolding within
within_grows around a b w = within_by_grows (kind_of a) (kind_of b) around a b w

pub compare_grows : (around : Around) (o : CmpOp) (a b : Operand) (w : Writing) → Grows w.found (compare around o a b w).1.found
unfolding compare
compare_grows around compared.Eq a b w = equal_grows around.layout a.x (type_of around a) b.x (type_of around b) w
compare_grows around compared.Ne a b w = equal_grows around.layout a.x (type_of around a) b.x (type_of around b) w
compare_grows around compared.Is a b w = same_found w.found
compare_grows around compared.IsNot a b w = same_found w.found
compare_grows around compared.Within a b w = within_grows around a b w
compare_grows around compared.NotWithin a b w = within_grows around a b w
compare_grows around o a b w = ordered_grows around o a b w

-- ---- tuples

pub parts_from_grows : (around : Around) (n i : ℕ) (args : List Operand) (w : Writing) → Grows w.found (parts_from around n i args w).1.found
parts_from_grows around n i [] w = same_found w.found
parts_from_grows around n i (a ∷ args) w = then_grows (given_grows around a (field_type_of around n i) w) (parts_from_grows around n (i + 1) args (given around a (field_type_of around n i) w).1)

pub tuple_made_grows : (around : Around) (n : ℕ) (args : List Operand) (w : Writing) → Grows w.found (tuple_made around n args w).1.found
unfolding tuple_made
tuple_made_grows around n args w = parts_from_grows around n 0 args w

pub tuple_to_grows : (around : Around) (place : Place) (args : List Operand) (t : LlType) (w : Writing) → Grows w.found (tuple_to around place args t w).found
tuple_to_grows around place args (type.Ptr n) w = if_written _ _ (is_tuple around.layout n) (tuple_made_grows around n args w) (same_found w.found)
tuple_to_grows around place args _ w = same_found w.found

pub tuple_of_grows : (around : Around) (place : Place) (args : List Operand) (w : Writing) → Grows w.found (tuple_of around place args w).found
tuple_of_grows around place args w = tuple_to_grows around place args (type_at around place) (push _ w)

pub field_read_grows : (around : Around) (place : Place) (n i : ℕ) (t : LlType) (tuple : ℕ × Body) (w : Writing) → Grows w.found (field_read around place n i t tuple w).found
field_read_grows around place n i type.Void tuple w = same_found w.found
field_read_grows around place n i t tuple w = give_grows around place (Var (fresh t tuple.1).0) t (writing w.found (with_op (op.GetField (fresh t tuple.1).0 n tuple.0 i) (fresh t tuple.1).1))

pub item_by_grows : (around : Around) (place : Place) (a : Operand) (i : ℕ) (t : LlType) (w : Writing) → Grows w.found (item_by around place a i t w).found
item_by_grows around place a i (type.Ptr n) w = field_read_grows around place n i (field_type_of around n i) (variable_of a.x (type.Ptr n) w.body) w
item_by_grows around place a i _ w = same_found w.found

pub item_of_grows : (around : Around) (place : Place) (a : Operand) (i : ℕ) (w : Writing) → Grows w.found (item_of around place a i w).found
item_of_grows around place a i w = item_by_grows around place a i (type_of around a) w

-- ---- graphs

pub raising_grows : (raises : Bool) (number : ℕ × Found) (found : Found) → Grows found number.1 → Grows found (raising raises number found).1
raising_grows true number found g = g
raising_grows false number found g = same_found found

pub raised_grows : (raises : Bool) (class : ℕ) (found : Found) → Grows found (raised raises class found).1
raised_grows raises class found = raising_grows raises (small_number (small.Raise class) found) found (smalls_grow (small.Raise class) found)

pub failing_grows : (number class : ℕ) (raises : Bool) (found : Found) → Grows found (failing number class raises found).1
unfolding failing
failing_grows number class raises found = raised_grows raises class found

pub failure_grows : (raises : Bool) (found : Found) → Grows found (failure raises found).1
failure_grows raises found = failing_grows 4 9 raises found

pub present_graph_grows : (t : LlType) (raises : Bool) (found : Found) → Grows found (present_graph t raises found).1
present_graph_grows t raises found = failing_grows 4 9 raises found

pub cast_from_grows : (layout : Layout) (m : ℕ) (to : List LlType) (i : ℕ) (ts : List LlType) (w : Writing) → Grows w.found (cast_from layout m to i ts w).1.found
cast_from_grows layout m to i [] w = same_found w.found
cast_from_grows layout m to i (t ∷ ts) w =
    then_grows (value_as_grows layout (field_of m 0 i t w.body).0 t (field_at to i) (writing w.found (field_of m 0 i t w.body).1))
    (cast_from_grows layout m to (i + 1) ts (item_as layout t (field_at to i) w.found (field_of m 0 i t w.body)).1)

pub cast_items_grows : (layout : Layout) (m n : ℕ) (w : Writing) → Grows w.found (cast_items layout m n w).1.found
unfolding cast_items
cast_items_grows layout m n w = cast_from_grows layout m (fields_at layout n) 0 (shared_fields layout m n) w

pub cast_grows : (layout : Layout) (m n : ℕ) (found : Found) → Grows found (cast layout m n found).1
cast_grows layout m n found = cast_items_grows layout m n (writing found (body_of (type.Ptr m ∷ type.Bool ∷ [])))

pub equal_from_grows : (layout : Layout) (m n : ℕ) (those : List LlType) (i : ℕ) (ss : List LlType) (all : COperand × Writing) → Grows all.1.found (equal_from layout m n those i ss all).1.found
equal_from_grows layout m n those i [] all = same_found all.1.found
equal_from_grows layout m n those i (s ∷ ss) all =
    then_grows (equal_grows layout _ s _ (field_at those i) (writing all.1.found (field_of n 1 i (field_at those i) (field_of m 0 i s all.1.body).1).1))
    (equal_from_grows layout m n those (i + 1) ss (and_equal all.0 (items_equal layout n i (field_at those i) all.1.found s (field_of m 0 i s all.1.body))))

pub equal_items_grows : (layout : Layout) (m n : ℕ) (w : Writing) → Grows w.found (equal_items layout m n w).1.found
unfolding equal_items
equal_items_grows layout m n w = equal_from_grows layout m n (fields_at layout n) 0 (shared_fields layout m n) (word (pos 1), w)

pub equality_grows : (layout : Layout) (m n : ℕ) (found : Found) → Grows found (equality layout m n found).1
equality_grows layout m n found = equal_items_grows layout m n (writing found (body_of (type.Ptr m ∷ type.Ptr n ∷ [])))

-- ---- words that have to fit

pub overflowing_grows : (found : Found) → Grows found (overflowing found).1
overflowing_grows found = raised_grows true 3 found

pub of_sum_grows : (o overflows : CBinary) (found : Found) → Grows found (of_sum o overflows found).1
of_sum_grows o overflows found = overflowing_grows found

pub of_shift_grows : (raises : Bool) (found : Found) → Grows found (of_shift raises found).1
of_shift_grows raises found = then_grows (overflowing_grows found) (failing_grows 3 8 raises (overflowing found).1)

pub of_quotient_grows : (raises : Bool) (found : Found) → Grows found (of_quotient raises found).1
of_quotient_grows raises found = then_grows (overflowing_grows found) (failing_grows 2 4 raises (overflowing found).1)

pub of_rest_grows : (raises : Bool) (found : Found) → Grows found (of_rest raises found).1
of_rest_grows raises found = failing_grows 2 4 raises found

pub blocks_of_grows : (o : CBinary) (raises : Bool) (found : Found) → Grows found (blocks_of o raises found).1
blocks_of_grows binary.Add raises found = of_sum_grows binary.Add binary.AddOvf found
blocks_of_grows binary.Sub raises found = of_sum_grows binary.Sub binary.SubOvf found
blocks_of_grows binary.Mul raises found = of_sum_grows binary.Mul binary.MulOvf found
blocks_of_grows binary.Shl raises found = of_shift_grows raises found
blocks_of_grows binary.Mod raises found = of_rest_grows raises found
blocks_of_grows _ raises found = of_quotient_grows raises found

pub checked_graph_grows : (o : CBinary) (raises : Bool) (found : Found) → Grows found (checked_graph o raises found).1
checked_graph_grows o raises found = blocks_of_grows o raises found

pub checked_neg_graph_grows : (found : Found) → Grows found (checked_neg_graph found).1
checked_neg_graph_grows found = overflowing_grows found

pub int_graph_grows : (found : Found) → Grows found (int_graph found).1
int_graph_grows found = failing_grows 3 8 true found

pub small_graph_grows : (layout : Layout) (s : Small) (found : Found) → Grows found (small_graph layout s found).1
small_graph_grows layout (small.Cast m n) found = cast_grows layout m n found
small_graph_grows layout (small.Equal m n) found = equality_grows layout m n found
small_graph_grows layout (small.Fail raises) found = failure_grows raises found
small_graph_grows layout (small.Present t raises) found = present_graph_grows t raises found
small_graph_grows layout (small.Checked o raises) found = checked_graph_grows o raises found
small_graph_grows layout small.CheckedNeg found = checked_neg_graph_grows found
small_graph_grows layout small.IntOfText found = int_graph_grows found
small_graph_grows layout _ found = failure_grows false found
