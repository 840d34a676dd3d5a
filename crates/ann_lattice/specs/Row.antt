-- The table: what each operation gives for the elements of its operands. p is the further part that a line speaks of: the item of a list, the
-- value of a dict, an attribute or the result of a function. An operand that may be `None` fits a line that takes a form with it, and with `None`
-- alone the operation never gives a value.
use Rattle.std.specs.Prelude.{ℕ, zero, suc, ℤ, pos, negsuc, int_lt, int_le, ◌==◌, ◌-◌, ◌&&◌, ◌||◌, not, nat_le, if◌then◌else◌, Bool, true, false, List, [], ◌∷◌, length, take, drop, Option, Some, None, is_some}
use Rattle.rpy_tree.specs.declared.syntax.UnOp.{UnOp}
use Rattle.rpy_tree.specs.declared.syntax.UnOp.TheVariants as un
use Rattle.rpy_tree.specs.declared.syntax.BinOp.{BinOp}
use Rattle.rpy_tree.specs.declared.syntax.BinOp.TheVariants as bin
use Rattle.rpy_tree.specs.declared.syntax.CmpOp.{CmpOp}
use Rattle.rpy_tree.specs.declared.syntax.CmpOp.TheVariants as cmp
use Rattle.rpy_tree.specs.declared.program.ClassInfo.{ClassInfo}
use Rattle.rpy_tree.specs.declared.program.Const.{Const, fold-Const}
use Rattle.rpy_tree.specs.declared.program.Const.TheOpen.{Const-F}
use Rattle.rpy_meaning.specs.declared.row.RowOp.{RowOp}
use Rattle.rpy_meaning.specs.declared.row.RowOp.TheVariants as row
use Rattle.class_desc.specs.Line as line
use Rattle.class_desc.specs.Tables.{Tables, home}
use Rattle.ann_lattice.specs.Shape.{One, Any, OrNone, Shape, Nothing, NoneOnly, Truth, Num, Str, Tup, Lst, Dct, Inst, Fun, Clash, Shapes, end, more, shapes_of, items}
use Rattle.ann_lattice.specs.Join.{depth}
use Rattle.ann_lattice.specs.Kind.{misfit, given, is_nothing, is_int, is_positive, is_bool, is_char, is_str, is_text, is_list, positive_if, known_unless, some_nothing, some_clash, all_positive}
use Rattle.ann_lattice.specs.Methods as methods

-- ---- numbers

abbrev pub word : ℤ → Shape
word z = positive_if (int_le (pos 0) z)

abbrev pub text : ℕ → Shape
text n = if n == 1 then Str One else Str Any

-- an operation on two integers
abbrev pub number : BinOp → Shape → Shape → Shape
number bin.Mod a b = positive_if (is_positive b)
number bin.BitAnd a b = positive_if (is_positive a || is_positive b)
number bin.Shr a b = positive_if (is_positive a)
number bin.Sub a b = Num true
number bin.Shl a b = Num true
number other a b = positive_if (is_positive a && is_positive b)

abbrev pub both_int : Shape → Shape → Bool
both_int a b = is_int a && is_int b

abbrev pub unary : UnOp → Shape → Shape
unary un.Neg a = given (is_int a) (Num true)
unary un.Invert a = given (is_int a) (Num true)
unary un.Pos a = given (is_int a) (positive_if (is_positive a))

-- the operations that `ovfcheck` takes
abbrev pub can_be_checked : BinOp → Bool
can_be_checked bin.BitAnd = false
can_be_checked bin.BitOr = false
can_be_checked bin.BitXor = false
can_be_checked bin.Shr = false
can_be_checked other = true

abbrev pub checked : BinOp → Shape → Shape → Shape
checked op a b = given (both_int a b && can_be_checked op) (number op a b)

abbrev pub intmask : Shape → Shape
intmask a = given (is_int a) (positive_if (is_positive a))

abbrev pub min_of : Shape → Shape → Shape
min_of a b = given (both_int a b) (positive_if (is_positive a && is_positive b))

abbrev pub max_of : Shape → Shape → Shape
max_of a b = given (both_int a b) (positive_if (is_positive a || is_positive b))

abbrev pub to_int : Shape → Shape
to_int (Num n) = Num n
to_int (Truth b) = Num false
to_int (Str One) = Num true
to_int (Str Any) = Num true
to_int other = misfit

abbrev pub to_str : Shape → Shape
to_str (Str One) = Str One
to_str (Str Any) = Str Any
to_str (Num n) = Str Any
to_str (Truth b) = Str Any
to_str other = misfit

-- ---- comparisons and truth

abbrev pub less : Shape → Shape → Shape
less a b = given (both_int a b || (is_str a && is_str b)) (Truth None)

abbrev pub plain_equal : Shape → Shape → Bool
plain_equal a b = both_int a b || (is_bool a && is_bool b) || (is_text a && is_text b) || is_nothing a || is_nothing b

-- `==` compares them: integers, truth values, strings or `None`, tuples item by item, and anything with what is not reached
abbrev mutual
  pub has_equality : Shape → Shape → Bool
  has_equality (Tup xs) (Tup ys) = have_equality xs ys
  has_equality (Tup xs) b = is_nothing b
  has_equality a b = plain_equal a b

  pub have_equality : Shapes → Shapes → Bool
  have_equality end end = true
  have_equality end (more y ys) = false
  have_equality (more x xs) end = false
  have_equality (more x xs) (more y ys) = has_equality x y && have_equality xs ys

abbrev pub equals_each : Shape → Shapes → Bool
equals_each a end = true
equals_each a (more y ys) = has_equality a y && equals_each a ys

abbrev pub negated : Shape → Shape
negated (Truth (Some true)) = Truth (Some false)
negated (Truth (Some false)) = Truth (Some true)
negated other = other

-- whether it is `None`
abbrev pub is_none : Shape → Shape
is_none NoneOnly = Truth (Some true)
is_none (Str OrNone) = Truth None
is_none (Lst s n) = known_unless false n
is_none (Dct s n) = known_unless false n
is_none (Inst c n) = known_unless false n
is_none (Fun fs n) = known_unless false n
is_none other = Truth (Some false)

abbrev pub are_alike : List ClassInfo → Shape → Shape → Bool
are_alike k (Lst s a) (Lst u b) = true
are_alike k (Dct s a) (Dct u b) = true
are_alike k (Inst c a) (Inst d b) = is_some (line.common_base k c d)
are_alike k a b = false

-- `is`
abbrev pub identical : List ClassInfo → Shape → Shape → Shape
identical k NoneOnly b = is_none b
identical k a NoneOnly = is_none a
identical k a b = given (are_alike k a b) (Truth None)

-- `a in b`
abbrev pub within : Shape → Shape → Shape → Shape
within a NoneOnly p = Nothing
within a (Str w) p = given (is_str a) (Truth None)
within a (Dct s n) p = Truth None
within a (Lst s n) p = given (has_equality p p) (Truth None)
within a (Tup ys) p = given (equals_each a ys) (Truth None)
within a b p = misfit

abbrev pub compare : List ClassInfo → CmpOp → Shape → Shape → Shape → Shape
compare k cmp.Eq a b p = given (has_equality a b) (Truth None)
compare k cmp.Ne a b p = given (has_equality a b) (Truth None)
compare k cmp.Within a b p = within a b p
compare k cmp.NotWithin a b p = within a b p
compare k cmp.Is a b p = identical k a b
compare k cmp.IsNot a b p = negated (identical k a b)
compare k other a b p = less a b

abbrev pub truth_of : Shape → Shape
truth_of Nothing = Nothing
truth_of NoneOnly = Truth (Some false)
truth_of (Truth b) = Truth b
truth_of (Inst c n) = known_unless true n
truth_of (Fun fs n) = known_unless true n
truth_of (Tup xs) = misfit
truth_of (Clash o p) = misfit
truth_of other = Truth None

-- ---- strings, tuples, lists and dicts

-- the list that `+` and `*` make; for `+=` the left one
abbrev pub own_site : Option ℕ → ℕ → ℕ
own_site None left = left
own_site (Some s) left = s

-- a string, list or `None`
abbrev pub is_sequence : Shape → Bool
is_sequence NoneOnly = true
is_sequence (Str w) = true
is_sequence (Lst s n) = true
is_sequence other = false

abbrev pub add : Option ℕ → Shape → Shape → Shape
add site NoneOnly b = given (is_sequence b) Nothing
add site (Str w) NoneOnly = Nothing
add site (Str w) (Str v) = Str Any
add site (Lst s n) NoneOnly = Nothing
add site (Lst s n) (Lst u l) = Lst (own_site site s) false
add site a b = misfit

abbrev pub multiply : Option ℕ → Shape → Shape
multiply site NoneOnly = Nothing
multiply site (Str w) = Str Any
multiply site (Lst s n) = Lst (own_site site s) false
multiply site other = misfit

abbrev pub binary_other : BinOp → Option ℕ → Shape → Shape → Shape
binary_other bin.Add site a b = add site a b
binary_other bin.Mul site a b = given (is_int b) (multiply site a)
binary_other other site a b = misfit

abbrev pub binary : BinOp → Option ℕ → Shape → Shape → Shape
binary op site a b = if both_int a b then number op a b else binary_other op site a b

abbrev pub len : Shape → Shape
len NoneOnly = Nothing
len (Str w) = Num false
len (Lst s n) = Num false
len (Dct s n) = Num false
len (Tup xs) = Num false
len other = misfit

-- the item at a place
abbrev pub nth : Shapes → ℕ → Shape
nth end n = misfit
nth (more x xs) zero = x
nth (more x xs) (suc n) = nth xs n

abbrev pub at_literal : Option ℤ → Shapes → Shape
at_literal None xs = misfit
at_literal (Some (pos n)) xs = nth xs n
at_literal (Some (negsuc n)) xs = misfit

abbrev pub index : Option ℤ → Shape → Shape → Shape → Shape
index literal NoneOnly i p = Nothing
index literal (Dct s n) i p = p
index literal (Tup xs) i p = at_literal literal xs
index literal (Lst s n) i p = given (is_int i) p
index literal (Str w) i p = given (is_int i) (Str One)
index literal other i p = misfit

abbrev pub store_index : Shape → Shape → Shape → Shape
store_index NoneOnly i x = Nothing
store_index (Dct s n) i x = x
store_index (Lst s n) i x = given (is_int i) x
store_index other i x = misfit

abbrev pub delete_index : Shape → Shape → Shape
delete_index NoneOnly i = Nothing
delete_index (Dct s n) i = NoneOnly
delete_index (Lst s n) i = given (is_int i) NoneOnly
delete_index other i = misfit

abbrev pub slice : ℕ → Shape → Shape
slice site NoneOnly = Nothing
slice site (Str w) = Str Any
slice site (Lst s n) = Lst site false
slice site other = misfit

abbrev pub bounded_slice : ℕ → List Shape → Shape
bounded_slice site [] = misfit
bounded_slice site (a ∷ bounds) = given (all_positive bounds) (slice site a)

-- at most 8 tuples stand inside one another
abbrev pub if_shallow : Shape → Shape
if_shallow x = given (nat_le (depth x) 8) x

abbrev pub tuple : List Shape → Shape
tuple xs = if_shallow (Tup (shapes_of xs))

abbrev pub unpack : ℕ → ℕ → Shape → Shape
unpack n place (Tup xs) = given (length (items xs) == n) (nth xs place)
unpack n place other = misfit

abbrev pub can_be_printed : List Shape → Bool
can_be_printed [] = true
can_be_printed (x ∷ xs) = (is_int x || is_bool x || is_str x) && can_be_printed xs

-- ---- instances and functions

abbrev pub has_home : Tables → List ℕ → ℕ → Bool
has_home t name c = is_some (home t c name)

abbrev pub attribute : Tables → List ℕ → Shape → Shape → Shape
attribute t name NoneOnly p = Nothing
attribute t name (Inst c n) p = given (has_home t name c) p
attribute t name other p = misfit

abbrev pub store_attribute : Tables → List ℕ → Shape → Shape → Shape
store_attribute t name NoneOnly x = Nothing
store_attribute t name (Inst c n) x = given (has_home t name c) x
store_attribute t name other x = misfit

-- an instance of c, which is not `None`, is one of d
abbrev pub surely : List ClassInfo → ℕ → ℕ → Shape
surely k c d = if line.is_below k c d then Truth (Some true) else if line.is_below k d c then Truth None else Truth (Some false)

abbrev pub perhaps : List ClassInfo → ℕ → ℕ → Shape
perhaps k c d = if line.is_below k c d || line.is_below k d c then Truth None else Truth (Some false)

abbrev pub is_instance : List ClassInfo → ℕ → Shape → Shape
is_instance k d NoneOnly = Truth (Some false)
is_instance k d (Inst c false) = surely k c d
is_instance k d (Inst c true) = perhaps k c d
is_instance k d other = misfit

-- without an `__init__` a call takes no argument; below `Exception` one string may stand
abbrev pub takes_arguments : List ClassInfo → ℕ → List Shape → Bool
takes_arguments k c [] = true
takes_arguments k c (s ∷ []) = is_str s && line.is_below k c 0
takes_arguments k c other = false

abbrev pub new : List ClassInfo → ℕ → List Shape → Shape
new k c xs = given (is_some (line.init k c) || takes_arguments k c xs) (Inst c false)

abbrev pub call_of : List ClassInfo → ℕ → List Shape → Shape → Shape
call_of k c (Inst d false ∷ xs) p = given (line.is_below k d c) p
call_of k c other p = misfit

abbrev pub call_value : List Shape → Shape → Shape
call_value (NoneOnly ∷ xs) p = Nothing
call_value (Fun fs n ∷ xs) p = p
call_value other p = misfit

abbrev pub raised : List ClassInfo → Shape → Shape
raised k NoneOnly = Nothing
raised k (Inst c n) = given (line.is_below k c 0) NoneOnly
raised k other = misfit

-- ---- constants

abbrev pub constant_step : Const-F Shape → Shape
constant_step (Const-F.Word z) = word z
constant_step (Const-F.Bool b) = Truth (Some b)
constant_step (Const-F.Str bytes) = text (length bytes)
constant_step Const-F.None = NoneOnly
constant_step (Const-F.Function f) = Fun (f ∷ []) false
constant_step (Const-F.Tuple parts) = Tup (shapes_of parts)
constant_step (Const-F.List s) = Lst s false
constant_step (Const-F.Dict s) = Dct s false

abbrev pub constant_shape : Const → Shape
constant_shape = fold-Const Shape constant_step

abbrev pub constant : Const → Shape
constant c = if_shallow (constant_shape c)

-- ---- what a test says of a local

abbrev pub drop_none : Shape → Shape
drop_none NoneOnly = Nothing
drop_none (Str OrNone) = Str Any
drop_none (Lst s n) = Lst s false
drop_none (Dct s n) = Dct s false
drop_none (Inst c n) = Inst c false
drop_none (Fun fs n) = Fun fs false
drop_none other = other

abbrev pub false_none : Shape → Shape
false_none (Inst c n) = NoneOnly
false_none (Fun fs n) = NoneOnly
false_none other = other

abbrev pub lower_instance : List ClassInfo → ℕ → ℕ → Shape
lower_instance k c d = if line.is_below k c d then Inst c false else if line.is_below k d c then Inst d false else Nothing

abbrev pub lower : List ClassInfo → ℕ → Shape → Shape
lower k d NoneOnly = Nothing
lower k d (Inst c n) = lower_instance k c d
lower k d other = other

abbrev pub non_negative : Shape → Shape → Shape
non_negative a b = if is_positive b && is_int a then Num false else a

-- ---- what `for` and comprehensions walk

abbrev pub walk : ℕ → Shape → Shape
walk site NoneOnly = NoneOnly
walk site (Str w) = Str w
walk site (Lst s n) = Lst s n
walk site (Dct s n) = Lst site n
walk site other = misfit

abbrev pub has_item : Option ℤ → Shape → Shape → Shape
has_item None a i = given (is_sequence a && is_int i) (Truth None)
has_item (Some step) a i = given (both_int a i) (Truth None)

-- a range that goes up is not below its start, and one that goes down is not below its end
abbrev pub range_item : ℤ → Shape → Shape → Shape
range_item step a i = given (both_int a i) (positive_if (is_positive (if int_lt (pos 0) step then i else a)))

abbrev pub sequence_item : Shape → Shape → Shape
sequence_item NoneOnly p = Nothing
sequence_item (Str w) p = Str One
sequence_item (Lst s n) p = p
sequence_item other p = misfit

abbrev pub item : Option ℤ → Shape → Shape → Shape → Shape
item None a i p = sequence_item a p
item (Some step) a i p = range_item step a i

abbrev pub advance : Option ℤ → Shape → Shape → Shape
advance None a i = Num false
advance (Some step) a i = given (both_int a i) (positive_if (int_lt (pos 0) step && is_positive i))

abbrev pub add_item : Shape → Shape
add_item NoneOnly = Nothing
add_item (Lst s n) = NoneOnly
add_item other = misfit

-- ---- operations by how many operands they take

abbrev pub of_none : RowOp → Shape
of_none (row.Word z) = word z
of_none (row.Str bytes) = text (length bytes)
of_none (row.Bool b) = Truth (Some b)
of_none row.None = NoneOnly
of_none (row.Constant c) = constant c
of_none (row.Dict s) = Dct s false
of_none (row.Comprehension s) = Lst s false
of_none row.Turn = NoneOnly
of_none other = misfit

abbrev pub narrowed : List ClassInfo → RowOp → Shape → Shape
narrowed k row.DropNone a = drop_none a
narrowed k row.OnlyNone a = NoneOnly
narrowed k row.FalseNone a = false_none a
narrowed k (row.Lower d) a = lower k d a
narrowed k other a = misfit

abbrev pub of_one : Tables → RowOp → Shape → Shape → Shape
of_one t row.Copy a p = a
of_one t (row.Unary op) a p = unary op a
of_one t row.CheckedNeg a p = unary un.Neg a
of_one t row.Not a p = negated (truth_of a)
of_one t row.Truth a p = truth_of a
of_one t row.Intmask a p = intmask a
of_one t row.Len a p = len a
of_one t row.Ord a p = given (is_char a) (Num false)
of_one t row.Chr a p = given (is_int a) (Str One)
of_one t row.ToStr a p = to_str a
of_one t row.ToInt a p = to_int a
of_one t (row.IsInstance d) a p = is_instance t.classes d a
of_one t (row.Attr name) a p = attribute t name a p
of_one t (row.AllButLast s) a p = slice s a
of_one t row.Raise a p = raised t.classes a
of_one t (row.Walk s) a p = walk s a
of_one t (row.Unpack n place) a p = unpack n place a
of_one t other a p = narrowed t.classes other a

abbrev pub of_two : Tables → RowOp → Shape → Shape → Shape → Shape
of_two t (row.Binary op site) a b p = binary op site a b
of_two t row.AddTo a b p = binary bin.Add None a b
of_two t (row.Checked op) a b p = checked op a b
of_two t (row.Compare op) a b p = compare t.classes op a b p
of_two t row.Min a b p = min_of a b
of_two t row.Max a b p = max_of a b
of_two t row.Write a b p = given (is_str b) (Num false)
of_two t (row.Index literal) a b p = index literal a b p
of_two t row.DeleteIndex a b p = delete_index a b
of_two t (row.StoreAttr name) a b p = store_attribute t name a b
of_two t row.AddItem a b p = add_item a
of_two t (row.HasItem step) a b p = has_item step a b
of_two t (row.Item step) a b p = item step a b p
of_two t (row.Advance step) a b p = advance step a b
of_two t row.NonNegative a b p = non_negative a b
of_two t other a b p = misfit

abbrev pub of_three : RowOp → Shape → Shape → Shape → Shape
of_three row.StoreIndex a i x = store_index a i x
of_three other a i x = misfit

-- operations that take as many operands as they say
abbrev pub counted : Tables → RowOp → List Shape → Shape → Shape
counted t op [] p = of_none op
counted t op (a ∷ []) p = of_one t op a p
counted t op (a ∷ b ∷ []) p = of_two t op a b p
counted t op (a ∷ b ∷ c ∷ []) p = of_three op a b c
counted t op other p = misfit

abbrev pub called : Tables → List ℕ → Option ℕ → List Shape → Shape → List Shape
called t name site [] p = misfit ∷ []
called t name site (a ∷ xs) p = methods.method t.classes name site a xs p

-- what the operation asks its result to be above, where all operands are reached and none is in conflict
abbrev pub fitting : Tables → RowOp → List Shape → Shape → List Shape
fitting t row.Tuple xs p = tuple xs ∷ []
fitting t (row.List s) xs p = Lst s false ∷ []
fitting t row.Print xs p = given (can_be_printed xs) NoneOnly ∷ []
fitting t (row.Slice s from to) xs p = bounded_slice s xs ∷ []
fitting t (row.Call f) xs p = p ∷ []
fitting t (row.CallOf c f) xs p = call_of t.classes c xs p ∷ []
fitting t row.CallValue xs p = call_value xs p ∷ []
fitting t (row.New c) xs p = new t.classes c xs ∷ []
fitting t (row.Method name site) xs p = called t name site xs p
fitting t op xs p = counted t op xs p ∷ []

-- an operand that is not reached gives no value, else one in conflict a conflict
abbrev pub pieces : Tables → RowOp → List Shape → Shape → List Shape
pieces t op xs p = if some_nothing xs then [] else if some_clash xs then misfit ∷ [] else fitting t op xs p

-- ---- operands and the further part in one list

abbrev pub the_part : List Shape → Shape
the_part (p ∷ []) = p
the_part other = misfit

abbrev pub method_has_part : List ℕ → List Shape → Bool
method_has_part name (Inst c n ∷ xs) = true
method_has_part name (Lst s n ∷ xs) = methods.is_pop (methods.method_named name)
method_has_part name (Dct s n ∷ xs) = methods.is_get (methods.method_named name)
method_has_part name (a ∷ b ∷ xs) = methods.is_join (methods.method_named name) && (is_list b && not (is_int a))
method_has_part name other = false

abbrev pub first_holds_items : List Shape → Bool
first_holds_items (Lst s n ∷ xs) = true
first_holds_items (Dct s n ∷ xs) = true
first_holds_items other = false

abbrev pub first_is_function : List Shape → Bool
first_is_function (Fun fs n ∷ xs) = true
first_is_function other = false

abbrev pub first_is_instance : List Shape → Bool
first_is_instance (Inst c n ∷ xs) = true
first_is_instance other = false

abbrev pub second_is_list : List Shape → Bool
second_is_list (a ∷ b ∷ xs) = is_list b
second_is_list other = false

abbrev pub compare_has_part : CmpOp → List Shape → Bool
compare_has_part cmp.Within xs = second_is_list xs
compare_has_part cmp.NotWithin xs = second_is_list xs
compare_has_part other xs = false

-- the last of the elements is no operand
abbrev pub has_part : RowOp → List Shape → Bool
has_part (row.Compare op) xs = compare_has_part op xs
has_part (row.Index literal) xs = first_holds_items xs
has_part (row.Item None) xs = first_holds_items xs
has_part (row.Attr name) xs = first_is_instance xs
has_part (row.Call f) xs = true
has_part (row.CallOf c f) xs = true
has_part row.CallValue xs = first_is_function xs
has_part (row.Method name site) xs = method_has_part name xs
has_part other xs = false

abbrev pub operand_count : RowOp → List Shape → ℕ
operand_count op xs = if has_part op xs then length xs - 1 else length xs

-- what the operation asks its result to be above, for its operands with the further part behind them where it takes one
abbrev pub asked : Tables → RowOp → List Shape → List Shape
asked t op xs = pieces t op (take (operand_count op xs) xs) (the_part (drop (operand_count op xs) xs))
