-- What a row gives for well-formed operands is well-formed.
use Rattle.std.proofs.Common.{◌≡◌, ◌≤◌, ℕ, zero, suc, ℤ, pos, negsuc, Bool, true, false, List, [], ◌∷◌, length, map, Option, Some, None, refl, sym, arith, subst}
use Rattle.std.specs.Prelude.{◌&&◌, ◌||◌, ◌==◌, not, int_lt, nat_le, if◌then◌else◌, is_some}
use Rattle.std.proofs.lemmas.Bool.{leb-true}
use Rattle.rpy_tree.specs.declared.syntax.UnOp.{UnOp}
use Rattle.rpy_tree.specs.declared.syntax.UnOp.TheVariants as un
use Rattle.rpy_tree.specs.declared.syntax.BinOp.{BinOp}
use Rattle.rpy_tree.specs.declared.syntax.BinOp.TheVariants as bin
use Rattle.rpy_tree.specs.declared.syntax.CmpOp.{CmpOp}
use Rattle.rpy_tree.specs.declared.syntax.CmpOp.TheVariants as cmp
use Rattle.rpy_tree.specs.declared.program.ClassInfo.{ClassInfo}
use Rattle.rpy_tree.specs.declared.program.Const.{Const, fold-roll-Const, map-Const, ind-Const}
use Rattle.rpy_tree.specs.declared.program.Const.TheOpen.{Const-F}
use Rattle.rpy_meaning.specs.declared.row.RowOp.{RowOp}
use Rattle.rpy_meaning.specs.declared.row.RowOp.TheVariants as row
use Rattle.class_desc.specs.Line as line
use Rattle.class_desc.specs.Tables.{Tables}
use Rattle.ann_lattice.specs.declared.method.Method.{Method}
use Rattle.ann_lattice.specs.declared.method.Method.TheVariants as m
use Rattle.ann_lattice.specs.Shape.{One, Any, OrNone, Shape, Nothing, NoneOnly, Truth, Num, Str, Tup, Lst, Dct, Inst, Fun, Clash, Shapes, end, more, shapes_of, items}
use Rattle.ann_lattice.specs.Join.{is_clash, no_clash, depth, depths}
use Rattle.ann_lattice.specs.Laws.{IsFormed, is_sound, are_sound}
use Rattle.ann_lattice.specs.Kind.{misfit, given, is_int, is_positive, is_char, is_str, known_unless, positive_if, some_nothing, some_clash, all_positive}
use Rattle.ann_lattice.specs.Methods as methods
use Rattle.ann_lattice.specs.Row as rows
use Rattle.ann_lattice.specs.Row.{pieces}
use Rattle.ann_lattice.proofs.Ordered.{no, and_left, and_right}
use Rattle.ann_formed.specs.Formed.{AllFormed}

-- ---- what is no tuple and no function

pub flat : {x : Shape} → is_sound x ≡ true → depth x ≡ 0 → IsFormed x
flat {x} s d = record { sound = s; shallow = omega (arith, d) }

pub given_formed : (b : Bool) (x : Shape) → IsFormed x → IsFormed (given b x)
given_formed true x f = f
given_formed false x f = flat refl refl

if_formed : (b : Bool) (x y : Shape) → IsFormed x → IsFormed y → IsFormed (if b then x else y)
if_formed true x y f g = f
if_formed false x y f g = g

both : (a b : Bool) → a ≡ true → b ≡ true → (a && b) ≡ true
both true b e h = h
both false b e h = e

not_first : (a b : Bool) → (a || b) ≡ false → a ≡ false
not_first true b e = e
not_first false b e = refl

not_second : (a b : Bool) → (a || b) ≡ false → b ≡ false
not_second true b e = absurd (no (sym e))
not_second false b e = e

-- ---- tuples

nth_formed : (xs : Shapes) (place : ℕ) → are_sound xs ≡ true → depths xs ≤ 8 → IsFormed (rows.nth xs place)
nth_formed end place sound shallow = flat refl refl
nth_formed (more x xs) zero sound shallow = record { sound = and_left (is_sound x) (are_sound xs) sound; shallow = grind (arith, shallow) }
nth_formed (more x xs) (suc place) sound shallow = nth_formed xs place (and_right (is_sound x) (are_sound xs) sound) (grind (arith, shallow))

item_formed : (xs : Shapes) (place : ℕ) → IsFormed (Tup xs) → IsFormed (rows.nth xs place)
item_formed xs place f = nth_formed xs place (and_right (no_clash xs) (are_sound xs) f.sound) (let s = f.shallow in omega (arith, s))

shallow_by : (b : Bool) (x : Shape) → nat_le (depth x) 8 ≡ b → is_sound x ≡ true → IsFormed (given b x)
shallow_by true x e f = record { sound = f; shallow = leb-true (depth x) 8 e }
shallow_by false x e f = flat refl refl

pub if_shallow_formed : (x : Shape) → is_sound x ≡ true → IsFormed (rows.if_shallow x)
if_shallow_formed x f = shallow_by (nat_le (depth x) 8) x refl f

not_clash : (b c : Bool) → b ≡ false → c ≡ true → (not b && c) ≡ true
not_clash true c e f = absurd (no (sym e))
not_clash false c e f = f

no_clash_of : (xs : List Shape) → some_clash xs ≡ false → no_clash (shapes_of xs) ≡ true
no_clash_of [] e = refl
no_clash_of (x ∷ xs) e = not_clash (is_clash x) (no_clash (shapes_of xs)) (not_first (is_clash x) (some_clash xs) e) (no_clash_of xs (not_second (is_clash x) (some_clash xs) e))

are_sound_of : (xs : List Shape) → AllFormed xs → are_sound (shapes_of xs) ≡ true
are_sound_of [] h = refl
are_sound_of (x ∷ xs) h = both (is_sound x) (are_sound (shapes_of xs)) h.0.sound (are_sound_of xs h.1)

pub tuple_formed : (xs : List Shape) → some_clash xs ≡ false → AllFormed xs → IsFormed (rows.tuple xs)
tuple_formed xs e h = if_shallow_formed (Tup (shapes_of xs)) (both (no_clash (shapes_of xs)) (are_sound (shapes_of xs)) (no_clash_of xs e) (are_sound_of xs h))

-- ---- constants

abbrev IsPlain : Shape → Type 0
IsPlain x = (is_sound x ≡ true) × (is_clash x ≡ false)

positive_plain : (b : Bool) → IsPlain (positive_if b)
positive_plain b = (refl, refl)

text_plain : (b : Bool) → IsPlain (if b then Str One else Str Any)
text_plain true = (refl, refl)
text_plain false = (refl, refl)

abbrev Plain : Const → Type 0
Plain c = IsPlain (rows.constant_shape c)

abbrev shapes_at : List ((c : Const) × Plain c) → List Shape
shapes_at ys = map rows.constant_shape (map (λ q. q.0) ys)

parts_sound : (ys : List ((c : Const) × Plain c)) → are_sound (shapes_of (shapes_at ys)) ≡ true
parts_sound [] = refl
parts_sound (y ∷ ys) = both (is_sound (rows.constant_shape y.0)) (are_sound (shapes_of (shapes_at ys))) y.1.0 (parts_sound ys)

parts_clear : (ys : List ((c : Const) × Plain c)) → no_clash (shapes_of (shapes_at ys)) ≡ true
parts_clear [] = refl
parts_clear (y ∷ ys) = not_clash (is_clash (rows.constant_shape y.0)) (no_clash (shapes_of (shapes_at ys))) y.1.1 (parts_clear ys)

plain_of : (y : Const-F ((c : Const) × Plain c)) → IsPlain (rows.constant_step (map-Const Const Shape rows.constant_shape (map-Const ((c : Const) × Plain c) Const (λ q. q.0) y)))
plain_of (Const-F.Word z) = (refl, refl)
plain_of (Const-F.Bool b) = (refl, refl)
plain_of (Const-F.Str t) = text_plain (length t == 1)
plain_of Const-F.None = (refl, refl)
plain_of (Const-F.Function f) = (refl, refl)
plain_of (Const-F.Tuple ys) = (both (no_clash (shapes_of (shapes_at ys))) (are_sound (shapes_of (shapes_at ys))) (parts_clear ys) (parts_sound ys), refl)
plain_of (Const-F.List s) = (refl, refl)
plain_of (Const-F.Dict s) = (refl, refl)

constant_plain : (c : Const) → Plain c
constant_plain = ind-Const Plain (λ x y is. subst IsPlain (sym (fold-roll-Const Shape rows.constant_step x)) (subst (λ z. IsPlain (rows.constant_step (map-Const Const Shape rows.constant_shape z))) is (plain_of y)))

pub constant_formed : (c : Const) → IsFormed (rows.constant c)
constant_formed c = if_shallow_formed (rows.constant_shape c) (constant_plain c).0

-- ---- numbers, comparisons and truth

number_formed : (o : BinOp) (a b : Shape) → IsFormed (rows.number o a b)
number_formed o a b = flat (sound o) (low o)
  where
    sound : (o : BinOp) → is_sound (rows.number o a b) ≡ true
    sound bin.Mod = refl
    sound bin.BitAnd = refl
    sound bin.Shr = refl
    sound bin.Sub = refl
    sound bin.Shl = refl
    sound o = refl

    low : (o : BinOp) → depth (rows.number o a b) ≡ 0
    low bin.Mod = refl
    low bin.BitAnd = refl
    low bin.Shr = refl
    low bin.Sub = refl
    low bin.Shl = refl
    low o = refl

unary_formed : (o : UnOp) (a : Shape) → IsFormed (rows.unary o a)
unary_formed un.Neg a = given_formed (is_int a) (Num true) (flat refl refl)
unary_formed un.Invert a = given_formed (is_int a) (Num true) (flat refl refl)
unary_formed un.Pos a = given_formed (is_int a) (positive_if (is_positive a)) (flat refl refl)

to_int_formed : (a : Shape) → IsFormed (rows.to_int a)
to_int_formed (Num n) = flat refl refl
to_int_formed (Truth b) = flat refl refl
to_int_formed (Str One) = flat refl refl
to_int_formed (Str Any) = flat refl refl
to_int_formed a = flat refl refl

to_str_formed : (a : Shape) → IsFormed (rows.to_str a)
to_str_formed (Str One) = flat refl refl
to_str_formed (Str Any) = flat refl refl
to_str_formed (Num n) = flat refl refl
to_str_formed (Truth b) = flat refl refl
to_str_formed a = flat refl refl

negated_formed : (a : Shape) → IsFormed a → IsFormed (rows.negated a)
negated_formed (Truth (Some true)) f = flat refl refl
negated_formed (Truth (Some false)) f = flat refl refl
negated_formed a f = f

known_formed : (v n : Bool) → IsFormed (known_unless v n)
known_formed v true = flat refl refl
known_formed v false = flat refl refl

is_none_formed : (a : Shape) → IsFormed (rows.is_none a)
is_none_formed NoneOnly = flat refl refl
is_none_formed (Str OrNone) = flat refl refl
is_none_formed (Lst s n) = known_formed false n
is_none_formed (Dct s n) = known_formed false n
is_none_formed (Inst c n) = known_formed false n
is_none_formed (Fun fs n) = known_formed false n
is_none_formed a = flat refl refl

identical_formed : (k : List ClassInfo) (a b : Shape) → IsFormed (rows.identical k a b)
identical_formed k NoneOnly b = is_none_formed b
identical_formed k a NoneOnly = is_none_formed a
identical_formed k a b = given_formed (rows.are_alike k a b) (Truth None) (flat refl refl)

within_formed : (a b p : Shape) → IsFormed (rows.within a b p)
within_formed a NoneOnly p = flat refl refl
within_formed a (Str w) p = given_formed (is_str a) (Truth None) (flat refl refl)
within_formed a (Dct s n) p = flat refl refl
within_formed a (Lst s n) p = given_formed (rows.has_equality p p) (Truth None) (flat refl refl)
within_formed a (Tup ys) p = given_formed (rows.equals_each a ys) (Truth None) (flat refl refl)
within_formed a b p = flat refl refl

compare_formed : (k : List ClassInfo) (o : CmpOp) (a b p : Shape) → IsFormed (rows.compare k o a b p)
compare_formed k cmp.Eq a b p = given_formed (rows.has_equality a b) (Truth None) (flat refl refl)
compare_formed k cmp.Ne a b p = given_formed (rows.has_equality a b) (Truth None) (flat refl refl)
compare_formed k cmp.Within a b p = within_formed a b p
compare_formed k cmp.NotWithin a b p = within_formed a b p
compare_formed k cmp.Is a b p = identical_formed k a b
compare_formed k cmp.IsNot a b p = negated_formed (rows.identical k a b) (identical_formed k a b)
compare_formed k o a b p = given_formed (rows.both_int a b || (is_str a && is_str b)) (Truth None) (flat refl refl)

truth_of_formed : (a : Shape) → IsFormed (rows.truth_of a)
truth_of_formed Nothing = flat refl refl
truth_of_formed NoneOnly = flat refl refl
truth_of_formed (Truth b) = flat refl refl
truth_of_formed (Inst c n) = known_formed true n
truth_of_formed (Fun fs n) = known_formed true n
truth_of_formed (Tup xs) = flat refl refl
truth_of_formed (Clash o p) = flat refl refl
truth_of_formed a = flat refl refl

-- ---- strings, lists and dicts

add_formed : (site : Option ℕ) (a b : Shape) → IsFormed (rows.add site a b)
add_formed site NoneOnly b = given_formed (rows.is_sequence b) Nothing (flat refl refl)
add_formed site (Str w) NoneOnly = flat refl refl
add_formed site (Str w) (Str v) = flat refl refl
add_formed site (Lst s n) NoneOnly = flat refl refl
add_formed site (Lst s n) (Lst u l) = flat refl refl
add_formed site a b = flat refl refl

multiply_formed : (site : Option ℕ) (a : Shape) → IsFormed (rows.multiply site a)
multiply_formed site NoneOnly = flat refl refl
multiply_formed site (Str w) = flat refl refl
multiply_formed site (Lst s n) = flat refl refl
multiply_formed site a = flat refl refl

binary_other_formed : (o : BinOp) (site : Option ℕ) (a b : Shape) → IsFormed (rows.binary_other o site a b)
binary_other_formed bin.Add site a b = add_formed site a b
binary_other_formed bin.Mul site a b = given_formed (is_int b) (rows.multiply site a) (multiply_formed site a)
binary_other_formed o site a b = flat refl refl

binary_formed : (o : BinOp) (site : Option ℕ) (a b : Shape) → IsFormed (rows.binary o site a b)
binary_formed o site a b = if_formed (rows.both_int a b) (rows.number o a b) (rows.binary_other o site a b) (number_formed o a b) (binary_other_formed o site a b)

len_formed : (a : Shape) → IsFormed (rows.len a)
len_formed NoneOnly = flat refl refl
len_formed (Str w) = flat refl refl
len_formed (Lst s n) = flat refl refl
len_formed (Dct s n) = flat refl refl
len_formed (Tup xs) = flat refl refl
len_formed a = flat refl refl

literal_formed : (literal : Option ℤ) (xs : Shapes) → IsFormed (Tup xs) → IsFormed (rows.at_literal literal xs)
literal_formed None xs f = flat refl refl
literal_formed (Some (pos n)) xs f = item_formed xs n f
literal_formed (Some (negsuc n)) xs f = flat refl refl

index_formed : (literal : Option ℤ) (a i p : Shape) → IsFormed a → IsFormed p → IsFormed (rows.index literal a i p)
index_formed literal NoneOnly i p f g = flat refl refl
index_formed literal (Dct s n) i p f g = g
index_formed literal (Tup xs) i p f g = literal_formed literal xs f
index_formed literal (Lst s n) i p f g = given_formed (is_int i) p g
index_formed literal (Str w) i p f g = given_formed (is_int i) (Str One) (flat refl refl)
index_formed literal a i p f g = flat refl refl

store_index_formed : (a i x : Shape) → IsFormed x → IsFormed (rows.store_index a i x)
store_index_formed NoneOnly i x f = flat refl refl
store_index_formed (Dct s n) i x f = f
store_index_formed (Lst s n) i x f = given_formed (is_int i) x f
store_index_formed a i x f = flat refl refl

delete_index_formed : (a i : Shape) → IsFormed (rows.delete_index a i)
delete_index_formed NoneOnly i = flat refl refl
delete_index_formed (Dct s n) i = flat refl refl
delete_index_formed (Lst s n) i = given_formed (is_int i) NoneOnly (flat refl refl)
delete_index_formed a i = flat refl refl

slice_formed : (site : ℕ) (a : Shape) → IsFormed (rows.slice site a)
slice_formed site NoneOnly = flat refl refl
slice_formed site (Str w) = flat refl refl
slice_formed site (Lst s n) = flat refl refl
slice_formed site a = flat refl refl

bounded_formed : (site : ℕ) (xs : List Shape) → IsFormed (rows.bounded_slice site xs)
bounded_formed site [] = flat refl refl
bounded_formed site (a ∷ bounds) = given_formed (all_positive bounds) (rows.slice site a) (slice_formed site a)

unpack_formed : (n place : ℕ) (a : Shape) → IsFormed a → IsFormed (rows.unpack n place a)
unpack_formed n place (Tup xs) f = given_formed (length (items xs) == n) (rows.nth xs place) (item_formed xs place f)
unpack_formed n place a f = flat refl refl

-- ---- instances and functions

attribute_formed : (t : Tables) (name : List ℕ) (a p : Shape) → IsFormed p → IsFormed (rows.attribute t name a p)
attribute_formed t name NoneOnly p f = flat refl refl
attribute_formed t name (Inst c n) p f = given_formed (rows.has_home t name c) p f
attribute_formed t name a p f = flat refl refl

store_attribute_formed : (t : Tables) (name : List ℕ) (a x : Shape) → IsFormed x → IsFormed (rows.store_attribute t name a x)
store_attribute_formed t name NoneOnly x f = flat refl refl
store_attribute_formed t name (Inst c n) x f = given_formed (rows.has_home t name c) x f
store_attribute_formed t name a x f = flat refl refl

is_instance_formed : (k : List ClassInfo) (d : ℕ) (a : Shape) → IsFormed (rows.is_instance k d a)
is_instance_formed k d NoneOnly = flat refl refl
is_instance_formed k d (Inst c false) =
    if_formed (line.is_below k c d) (Truth (Some true)) (if line.is_below k d c then Truth None else Truth (Some false)) (flat refl refl)
    (if_formed (line.is_below k d c) (Truth None) (Truth (Some false)) (flat refl refl) (flat refl refl))
is_instance_formed k d (Inst c true) = if_formed (line.is_below k c d || line.is_below k d c) (Truth None) (Truth (Some false)) (flat refl refl) (flat refl refl)
is_instance_formed k d a = flat refl refl

call_of_formed : (k : List ClassInfo) (c : ℕ) (xs : List Shape) (p : Shape) → IsFormed p → IsFormed (rows.call_of k c xs p)
call_of_formed k c [] p f = flat refl refl
call_of_formed k c (Inst d false ∷ xs) p f = given_formed (line.is_below k d c) p f
call_of_formed k c (x ∷ xs) p f = flat refl refl

call_value_formed : (xs : List Shape) (p : Shape) → IsFormed p → IsFormed (rows.call_value xs p)
call_value_formed [] p f = flat refl refl
call_value_formed (NoneOnly ∷ xs) p f = flat refl refl
call_value_formed (Fun fs n ∷ xs) p f = f
call_value_formed (x ∷ xs) p f = flat refl refl

raised_formed : (k : List ClassInfo) (a : Shape) → IsFormed (rows.raised k a)
raised_formed k NoneOnly = flat refl refl
raised_formed k (Inst c n) = given_formed (line.is_below k c 0) NoneOnly (flat refl refl)
raised_formed k a = flat refl refl

-- ---- what a test says of a local

drop_none_formed : (a : Shape) → IsFormed a → IsFormed (rows.drop_none a)
drop_none_formed NoneOnly f = flat refl refl
drop_none_formed (Str OrNone) f = flat refl refl
drop_none_formed (Lst s n) f = flat refl refl
drop_none_formed (Dct s n) f = flat refl refl
drop_none_formed (Inst c n) f = flat refl refl
drop_none_formed (Fun fs n) f = flat f.sound refl
drop_none_formed a f = f

false_none_formed : (a : Shape) → IsFormed a → IsFormed (rows.false_none a)
false_none_formed (Inst c n) f = flat refl refl
false_none_formed (Fun fs n) f = flat refl refl
false_none_formed a f = f

lower_formed : (k : List ClassInfo) (d : ℕ) (a : Shape) → IsFormed a → IsFormed (rows.lower k d a)
lower_formed k d NoneOnly f = flat refl refl
lower_formed k d (Inst c n) f =
    if_formed (line.is_below k c d) (Inst c false) (if line.is_below k d c then Inst d false else Nothing) (flat refl refl)
    (if_formed (line.is_below k d c) (Inst d false) Nothing (flat refl refl) (flat refl refl))
lower_formed k d a f = f

-- ---- what is walked

walk_formed : (site : ℕ) (a : Shape) → IsFormed (rows.walk site a)
walk_formed site NoneOnly = flat refl refl
walk_formed site (Str w) = flat refl refl
walk_formed site (Lst s n) = flat refl refl
walk_formed site (Dct s n) = flat refl refl
walk_formed site a = flat refl refl

has_item_formed : (step : Option ℤ) (a i : Shape) → IsFormed (rows.has_item step a i)
has_item_formed None a i = given_formed (rows.is_sequence a && is_int i) (Truth None) (flat refl refl)
has_item_formed (Some z) a i = given_formed (rows.both_int a i) (Truth None) (flat refl refl)

sequence_item_formed : (a p : Shape) → IsFormed p → IsFormed (rows.sequence_item a p)
sequence_item_formed NoneOnly p f = flat refl refl
sequence_item_formed (Str w) p f = flat refl refl
sequence_item_formed (Lst s n) p f = f
sequence_item_formed a p f = flat refl refl

walked_item_formed : (step : Option ℤ) (a i p : Shape) → IsFormed p → IsFormed (rows.item step a i p)
walked_item_formed None a i p f = sequence_item_formed a p f
walked_item_formed (Some z) a i p f = given_formed (rows.both_int a i) (positive_if (is_positive (if int_lt (pos 0) z then i else a))) (flat refl refl)

advance_formed : (step : Option ℤ) (a i : Shape) → IsFormed (rows.advance step a i)
advance_formed None a i = flat refl refl
advance_formed (Some z) a i = given_formed (rows.both_int a i) (positive_if (int_lt (pos 0) z && is_positive i)) (flat refl refl)

add_item_formed : (a : Shape) → IsFormed (rows.add_item a)
add_item_formed NoneOnly = flat refl refl
add_item_formed (Lst s n) = flat refl refl
add_item_formed a = flat refl refl

-- ---- methods

joined_formed : (a : Shape) (xs : List Shape) (p : Shape) → IsFormed (methods.joined a xs p)
joined_formed a [] p = flat refl refl
joined_formed a (Lst s false ∷ []) p = given_formed (is_str a && methods.can_be_joined p) (Str Any) (flat refl refl)
joined_formed a (Lst s true ∷ []) p = flat refl refl
joined_formed a (Lst s n ∷ x ∷ xs) p = flat refl refl
joined_formed a (x ∷ xs) p = flat refl refl

own_list_formed : (site : Option ℕ) (b : Bool) → IsFormed (methods.own_list site b)
own_list_formed None b = flat refl refl
own_list_formed (Some s) b = given_formed b (Lst s false) (flat refl refl)

text_method_formed : (n : Method) (site : Option ℕ) (a : Shape) (xs : List Shape) (p : Shape) → IsFormed (methods.text_method n site a xs p)
text_method_formed m.Join site a xs p = joined_formed a xs p
text_method_formed m.Split site a xs p = own_list_formed site (methods.one_char xs)
text_method_formed m.Find site a xs p = given_formed (methods.one_str xs) (Num true) (flat refl refl)
text_method_formed m.StartsWith site a xs p = given_formed (methods.one_str xs) (Truth None) (flat refl refl)
text_method_formed m.EndsWith site a xs p = given_formed (methods.one_str xs) (Truth None) (flat refl refl)
text_method_formed m.Strip site a xs p = given_formed (methods.no_args xs) (Str Any) (flat refl refl)
text_method_formed m.IsDigit site a xs p = given_formed (is_char a && methods.no_args xs) (Truth None) (flat refl refl)
text_method_formed m.IsAlpha site a xs p = given_formed (is_char a && methods.no_args xs) (Truth None) (flat refl refl)
text_method_formed m.IsSpace site a xs p = given_formed (is_char a && methods.no_args xs) (Truth None) (flat refl refl)
text_method_formed n site a xs p = flat refl refl

extended_formed : (xs : List Shape) → IsFormed (methods.extended xs)
extended_formed [] = flat refl refl
extended_formed (NoneOnly ∷ []) = flat refl refl
extended_formed (Lst s n ∷ []) = flat refl refl
extended_formed (x ∷ []) = flat refl refl
extended_formed (NoneOnly ∷ y ∷ xs) = flat refl refl
extended_formed (Lst s n ∷ y ∷ xs) = flat refl refl
extended_formed (x ∷ y ∷ xs) = flat refl refl

list_method_formed : (n : Method) (xs : List Shape) (p : Shape) → IsFormed p → IsFormed (methods.list_method n xs p)
list_method_formed m.Append xs p f = given_formed (methods.one_arg xs) NoneOnly (flat refl refl)
list_method_formed m.Insert xs p f = given_formed (methods.place_and_value xs) NoneOnly (flat refl refl)
list_method_formed m.Extend xs p f = extended_formed xs
list_method_formed m.Reverse xs p f = given_formed (methods.no_args xs) NoneOnly (flat refl refl)
list_method_formed m.Pop xs p f = given_formed (methods.none_or_int xs) p f
list_method_formed n xs p f = flat refl refl

got_formed : (xs : List Shape) (p : Shape) → AllFormed xs → IsFormed p → AllFormed (methods.got xs p)
got_formed [] p h f = (flat refl refl, tt)
got_formed (key ∷ []) p h f = (f, (flat refl refl, tt))
got_formed (key ∷ other ∷ []) p h f = (f, (h.1.0, tt))
got_formed (key ∷ other ∷ x ∷ xs) p h f = (flat refl refl, tt)

dict_method_formed : (n : Method) (site : Option ℕ) (xs : List Shape) (p : Shape) → AllFormed xs → IsFormed p → AllFormed (methods.dict_method n site xs p)
dict_method_formed m.Get site xs p h f = got_formed xs p h f
dict_method_formed m.Keys site xs p h f = (own_list_formed site (methods.no_args xs), tt)
dict_method_formed m.Values site xs p h f = (own_list_formed site (methods.no_args xs), tt)
dict_method_formed m.Items site xs p h f = (own_list_formed site (methods.no_args xs), tt)
dict_method_formed n site xs p h f = (flat refl refl, tt)

method_formed : (k : List ClassInfo) (name : List ℕ) (site : Option ℕ) (a : Shape) (xs : List Shape) (p : Shape) → AllFormed xs → IsFormed p → AllFormed (methods.method k name site a xs p)
method_formed k name site NoneOnly xs p h f = (given_formed (methods.takes_none (methods.method_named name) xs || methods.is_class_method k name) Nothing (flat refl refl), tt)
method_formed k name site (Str w) xs p h f = (text_method_formed (methods.method_named name) site (Str w) xs p, tt)
method_formed k name site (Lst s n) xs p h f = (list_method_formed (methods.method_named name) xs p f, tt)
method_formed k name site (Dct s n) xs p h f = dict_method_formed (methods.method_named name) site xs p h f
method_formed k name site (Inst c n) xs p h f = (given_formed (methods.has_method k name c) p f, tt)
method_formed k name site a xs p h f = (flat refl refl, tt)

-- ---- operations by how many operands they take

text_formed : (b : Bool) → IsFormed (if b then Str One else Str Any)
text_formed b = if_formed b (Str One) (Str Any) (flat refl refl) (flat refl refl)

of_none_formed : (o : RowOp) → IsFormed (rows.of_none o)
of_none_formed (row.Word z) = flat refl refl
of_none_formed (row.Str t) = text_formed (length t == 1)
of_none_formed (row.Bool b) = flat refl refl
of_none_formed row.None = flat refl refl
of_none_formed (row.Constant c) = constant_formed c
of_none_formed (row.Dict s) = flat refl refl
of_none_formed (row.Comprehension s) = flat refl refl
of_none_formed row.Turn = flat refl refl
of_none_formed o = flat refl refl

narrowed_formed : (k : List ClassInfo) (o : RowOp) (a : Shape) → IsFormed a → IsFormed (rows.narrowed k o a)
narrowed_formed k row.DropNone a f = drop_none_formed a f
narrowed_formed k row.OnlyNone a f = flat refl refl
narrowed_formed k row.FalseNone a f = false_none_formed a f
narrowed_formed k (row.Lower d) a f = lower_formed k d a f
narrowed_formed k o a f = flat refl refl

of_one_formed : (t : Tables) (o : RowOp) (a p : Shape) → IsFormed a → IsFormed p → IsFormed (rows.of_one t o a p)
of_one_formed t row.Copy a p f g = f
of_one_formed t (row.Unary op) a p f g = unary_formed op a
of_one_formed t row.CheckedNeg a p f g = unary_formed un.Neg a
of_one_formed t row.Not a p f g = negated_formed (rows.truth_of a) (truth_of_formed a)
of_one_formed t row.Truth a p f g = truth_of_formed a
of_one_formed t row.Intmask a p f g = given_formed (is_int a) (positive_if (is_positive a)) (flat refl refl)
of_one_formed t row.Len a p f g = len_formed a
of_one_formed t row.Ord a p f g = given_formed (is_char a) (Num false) (flat refl refl)
of_one_formed t row.Chr a p f g = given_formed (is_int a) (Str One) (flat refl refl)
of_one_formed t row.ToStr a p f g = to_str_formed a
of_one_formed t row.ToInt a p f g = to_int_formed a
of_one_formed t (row.IsInstance d) a p f g = is_instance_formed t.classes d a
of_one_formed t (row.Attr name) a p f g = attribute_formed t name a p g
of_one_formed t (row.AllButLast s) a p f g = slice_formed s a
of_one_formed t row.Raise a p f g = raised_formed t.classes a
of_one_formed t (row.Walk s) a p f g = walk_formed s a
of_one_formed t (row.Unpack n place) a p f g = unpack_formed n place a f
of_one_formed t o a p f g = narrowed_formed t.classes o a f

of_two_formed : (t : Tables) (o : RowOp) (a b p : Shape) → IsFormed a → IsFormed b → IsFormed p → IsFormed (rows.of_two t o a b p)
of_two_formed t (row.Binary op site) a b p f g h = binary_formed op site a b
of_two_formed t row.AddTo a b p f g h = binary_formed bin.Add None a b
of_two_formed t (row.Checked op) a b p f g h = given_formed (rows.both_int a b && rows.can_be_checked op) (rows.number op a b) (number_formed op a b)
of_two_formed t (row.Compare op) a b p f g h = compare_formed t.classes op a b p
of_two_formed t row.Min a b p f g h = given_formed (rows.both_int a b) (positive_if (is_positive a && is_positive b)) (flat refl refl)
of_two_formed t row.Max a b p f g h = given_formed (rows.both_int a b) (positive_if (is_positive a || is_positive b)) (flat refl refl)
of_two_formed t row.Write a b p f g h = given_formed (is_str b) (Num false) (flat refl refl)
of_two_formed t (row.Index literal) a b p f g h = index_formed literal a b p f h
of_two_formed t row.DeleteIndex a b p f g h = delete_index_formed a b
of_two_formed t (row.StoreAttr name) a b p f g h = store_attribute_formed t name a b g
of_two_formed t row.AddItem a b p f g h = add_item_formed a
of_two_formed t (row.HasItem step) a b p f g h = has_item_formed step a b
of_two_formed t (row.Item step) a b p f g h = walked_item_formed step a b p h
of_two_formed t (row.Advance step) a b p f g h = advance_formed step a b
of_two_formed t row.NonNegative a b p f g h = if_formed (is_positive b && is_int a) (Num false) a (flat refl refl) f
of_two_formed t o a b p f g h = flat refl refl

of_three_formed : (o : RowOp) (a i x : Shape) → IsFormed x → IsFormed (rows.of_three o a i x)
of_three_formed row.StoreIndex a i x f = store_index_formed a i x f
of_three_formed o a i x f = flat refl refl

counted_formed : (t : Tables) (o : RowOp) (xs : List Shape) (p : Shape) → AllFormed xs → IsFormed p → IsFormed (rows.counted t o xs p)
counted_formed t o [] p h g = of_none_formed o
counted_formed t o (a ∷ []) p h g = of_one_formed t o a p h.0 g
counted_formed t o (a ∷ b ∷ []) p h g = of_two_formed t o a b p h.0 h.1.0 g
counted_formed t o (a ∷ b ∷ c ∷ []) p h g = of_three_formed o a b c h.1.1.0
counted_formed t o (a ∷ b ∷ c ∷ d ∷ xs) p h g = flat refl refl

called_formed : (t : Tables) (name : List ℕ) (site : Option ℕ) (xs : List Shape) (p : Shape) → AllFormed xs → IsFormed p → AllFormed (rows.called t name site xs p)
called_formed t name site [] p h g = (flat refl refl, tt)
called_formed t name site (a ∷ xs) p h g = method_formed t.classes name site a xs p h.1 g

fitting_formed : (t : Tables) (o : RowOp) (xs : List Shape) (p : Shape) → some_clash xs ≡ false → AllFormed xs → IsFormed p → AllFormed (rows.fitting t o xs p)
fitting_formed t row.Tuple xs p e h g = (tuple_formed xs e h, tt)
fitting_formed t (row.List s) xs p e h g = (flat refl refl, tt)
fitting_formed t row.Print xs p e h g = (given_formed (rows.can_be_printed xs) NoneOnly (flat refl refl), tt)
fitting_formed t (row.Slice s low high) xs p e h g = (bounded_formed s xs, tt)
fitting_formed t (row.Call f) xs p e h g = (g, tt)
fitting_formed t (row.CallOf c f) xs p e h g = (call_of_formed t.classes c xs p g, tt)
fitting_formed t row.CallValue xs p e h g = (call_value_formed xs p g, tt)
fitting_formed t (row.New c) xs p e h g = (given_formed (is_some (line.init t.classes c) || rows.takes_arguments t.classes c xs) (Inst c false) (flat refl refl), tt)
fitting_formed t (row.Method name site) xs p e h g = called_formed t name site xs p h g
fitting_formed t o xs p e h g = (counted_formed t o xs p h g, tt)

pub pieces_formed : (t : Tables) (o : RowOp) (xs : List Shape) (p : Shape) → AllFormed xs → IsFormed p → AllFormed (pieces t o xs p)
pieces_formed t o xs p h g = by_tests (some_nothing xs) (some_clash xs) refl
  where
    by_tests : (b c : Bool) → some_clash xs ≡ c → AllFormed (if b then [] else if c then misfit ∷ [] else rows.fitting t o xs p)
    by_tests true c e = tt
    by_tests false true e = (flat refl refl, tt)
    by_tests false false e = fitting_formed t o xs p e h g
