-- What each operation does with its operands, in a program and where these classes are covered.
use Rattle.std.specs.Prelude.{ℕ, ◌+◌, ◌==◌, nat_lt, pos, Bool, false, not, List, [], ◌∷◌, ◌++◌, length, take, count_by, slice_get, Option, Some, None, is_some, option_map, if◌then◌else◌, codes}
use Rattle.std.specs.Ordering.{int_eq}
use Rattle.rpy_tree.specs.declared.program.Const.{Const, fold-Const}
use Rattle.rpy_tree.specs.declared.program.Const.TheOpen.{Const-F}
use Rattle.rpy_tree.specs.declared.syntax.CmpOp.{CmpOp}
use Rattle.rpy_tree.specs.declared.syntax.CmpOp.TheVariants.{Lt, Le, Gt, Ge, Eq, Ne, Within, NotWithin, Is, IsNot}
use Rattle.rpy_tree.specs.Value.{Value, Word, Flag, Text, Nothing, Tuple, Fun, Ref, Object, Listed, Mapped, Instance}
use Rattle.rpy_tree.specs.Meaning.{print_line}
use Rattle.rpy_meaning.specs.declared.row.Covers.{Covers}
use Rattle.rpy_meaning.specs.declared.row.RowOp.{RowOp}
use Rattle.rpy_meaning.specs.declared.row.RowOp.TheVariants as row
use Rattle.rpy_meaning.specs.Costs.{instance_cost, dict_cost, comprehension_cost, item_cost, turn_cost}
use Rattle.rpy_meaning.specs.Tree.{Program}
use Rattle.rpy_meaning.specs.World.{World, Op, Enters, bad, give, throw, flag, flag_if_any, write, paying, new_object, set_object, at_object, with_list, new_list, attribute_error, if_some}
use Rattle.rpy_meaning.specs.Classes.{named, with_name, is_below, method_of, first_attributes}
use Rattle.rpy_meaning.specs.Compare.{equal, identical, less, truth, is_among}
use Rattle.rpy_meaning.specs.Arithmetic.{unary, checked_neg, checked, least, greatest, on_word}
use Rattle.rpy_meaning.specs.Sequences.{tuple, new_tuple, index, store_index, delete_index, slice, all_but_last, binary, add_to, is_in_object, items_of}
use Rattle.rpy_meaning.specs.Walks.{walk, has_item, item, advance}
use Rattle.rpy_meaning.specs.Methods.{place_of, text_methods, list_methods, dict_methods, len, ord, chr, to_text, to_word}

-- ---- operands

abbrev pub with_none : Op → List Value → Op
with_none f [] = f
with_none f other = bad

abbrev pub with_one : (Value → Op) → List Value → Op
with_one f (x ∷ []) = f x
with_one f other = bad

abbrev pub with_two : (Value → Value → Op) → List Value → Op
with_two f (x ∷ y ∷ []) = f x y
with_two f other = bad

abbrev pub with_three : (Value → Value → Value → Op) → List Value → Op
with_three f (x ∷ y ∷ z ∷ []) = f x y z
with_three f other = bad

-- ---- comparison and truth

abbrev pub opposite : Option Bool → Option Bool
opposite = option_map not

-- `x in y`
abbrev pub within : Covers → (Bool → Bool) → Value → Value → Op
within c f (Text part) (Text text) = flag (f (is_some (place_of part 0 text)))
within c f x (Ref r) = at_object r (λ object. flag_if_any (option_map f (is_in_object x object)))
within c f x (Tuple vs) = flag (f (is_among x (items_of vs)))
within c f x Nothing = attribute_error c
within c f x y = bad

abbrev pub compare : Covers → CmpOp → Value → Value → Op
compare c Lt x y = flag_if_any (less x y)
compare c Le x y = flag_if_any (opposite (less y x))
compare c Gt x y = flag_if_any (less y x)
compare c Ge x y = flag_if_any (opposite (less x y))
compare c Eq x y = flag_if_any (equal x y)
compare c Ne x y = flag_if_any (opposite (equal x y))
compare c Within x y = within c (λ b. b) x y
compare c NotWithin x y = within c not x y
compare c Is x y = flag_if_any (identical x y)
compare c IsNot x y = flag_if_any (opposite (identical x y))

abbrev pub truth_in : World → Value → Option Bool
truth_in w v = truth (slice_get w.heap) v

abbrev pub is_true : Value → Op
is_true v = λ w. flag_if_any (truth_in w v) w

abbrev pub is_not_true : Value → Op
is_not_true v = λ w. flag_if_any (opposite (truth_in w v)) w

-- ---- printing

abbrev pub write_if_any : Option (List ℕ) → Op
write_if_any None = bad
write_if_any (Some text) = write text Nothing

abbrev pub print : List Value → Op
print vs = write_if_any (print_line vs)

-- `os.write(1, s)`
abbrev pub os_write : Value → Value → Op
os_write (Word to) (Text text) = if int_eq to (pos 1) then write text (Word (pos (length text))) else bad
os_write x y = bad

-- ---- tuples and lists

-- the item at a place of a tuple of so many
abbrev pub unpack : ℕ → ℕ → Value → Op
unpack count place (Tuple vs) = if length (items_of vs) == count then if_some bad (slice_get (items_of vs) place) give else bad
unpack count place other = bad

-- what a comprehension adds to its list
abbrev pub add_item : Value → Value → Op
add_item (Ref r) v = with_list r (λ vs. paying item_cost (set_object r (Listed (vs ++ v ∷ [])) Nothing))
add_item other v = bad

-- ---- constants

-- the builtin exception classes, whose instances are the first objects; the lists and dicts of modules follow, by their sites
abbrev pub builtin_classes : ℕ
builtin_classes = 13

abbrev pub object_of : List (Option Object) → ℕ → ℕ
object_of sites s = builtin_classes + count_by is_some (take s sites)

abbrev pub constant_step : List (Option Object) → Const-F Value → Value
constant_step sites (Const-F.Word z) = Word z
constant_step sites (Const-F.Bool b) = Flag b
constant_step sites (Const-F.Str text) = Text text
constant_step sites Const-F.None = Nothing
constant_step sites (Const-F.Function f) = Fun f
constant_step sites (Const-F.Tuple vs) = tuple vs
constant_step sites (Const-F.List s) = Ref (object_of sites s)
constant_step sites (Const-F.Dict s) = Ref (object_of sites s)

abbrev pub constant : List (Option Object) → Const → Value
constant sites = fold-Const Value (constant_step sites)

module _ (p : Program) (c : Covers) where
  -- ---- attributes

  abbrev pub read_attribute : List ℕ → Option Object → Op
  read_attribute name (Some (Instance class attributes)) = if_some (attribute_error c) (named name attributes) give
  read_attribute name other = bad

  abbrev pub attribute : List ℕ → Value → Op
  attribute name (Ref r) = at_object r (read_attribute name)
  attribute name Nothing = attribute_error c
  attribute name other = bad

  abbrev pub set_attribute : List ℕ → ℕ → Value → Option Object → Op
  set_attribute name r v (Some (Instance class attributes)) = set_object r (Instance class (with_name name v attributes)) v
  set_attribute name r v other = bad

  abbrev pub store_attribute : List ℕ → Value → Value → Op
  store_attribute name (Ref r) v = at_object r (set_attribute name r v)
  store_attribute name Nothing v = attribute_error c
  store_attribute name other v = bad

  -- ---- classes

  abbrev pub is_instance_object : ℕ → Option Object → Op
  is_instance_object d (Some (Instance class attributes)) = flag (is_below p.classes class d)
  is_instance_object d other = bad

  abbrev pub is_instance : ℕ → Value → Op
  is_instance d (Ref r) = at_object r (is_instance_object d)
  is_instance d Nothing = flag false
  is_instance d other = bad

  -- an instance of `Exception`, the class 0, or of one below it
  abbrev pub raise_object : ℕ → Option Object → Op
  raise_object r (Some (Instance class attributes)) = if is_below p.classes class 0 then throw r else bad
  raise_object r other = bad

  abbrev pub raise : Value → Op
  raise (Ref r) = at_object r (raise_object r)
  raise Nothing = attribute_error c
  raise other = bad

  -- a class without `__init__` gives the instance as it is
  abbrev pub initialised : Option ℕ → Value → List Value → Op
  initialised None instance args = give instance
  initialised (Some init) instance args = λ w. Enters init (instance ∷ args) (Some instance) w

  abbrev pub new_instance : ℕ → List Value → Op
  new_instance d args = λ w.
      initialised (method_of p.classes d (codes "__init__")) (Ref (length w.heap)) args
      (record w { heap = w.heap ++ Instance d (first_attributes p.classes d) ∷ [] })

  abbrev pub new : ℕ → List Value → Op
  new d args = if nat_lt d builtin_classes then give (Ref d) else paying instance_cost (new_instance d args)

  -- ---- calls

  abbrev pub enter : ℕ → List Value → Op
  enter f args = λ w. Enters f args None w

  abbrev pub call_value : List Value → Op
  call_value (Fun f ∷ args) = enter f args
  call_value (Nothing ∷ args) = attribute_error c
  call_value other = bad

  abbrev pub object_method : List ℕ → ℕ → List Value → Option Object → Op
  object_method name r args (Some (Listed vs)) = if_some bad (named name (list_methods c)) (λ f. f r vs args)
  object_method name r args (Some (Mapped pairs)) = if_some bad (named name dict_methods) (λ f. f pairs args)
  object_method name r args (Some (Instance class attributes)) = if_some bad (method_of p.classes class name) (λ f. enter f (Ref r ∷ args))
  object_method name r args None = bad

  abbrev pub method : List ℕ → List Value → Op
  method name (Text text ∷ args) = if_some bad (named name text_methods) (λ f. f text args)
  method name (Ref r ∷ args) = at_object r (object_method name r args)
  method name (Nothing ∷ args) = attribute_error c
  method name other = bad

  -- ---- all operations

  abbrev pub op : RowOp → List Value → Op
  op (row.Word z) = with_none (give (Word z))
  op (row.Str text) = with_none (give (Text text))
  op (row.Bool b) = with_none (flag b)
  op row.None = with_none (give Nothing)
  op (row.Constant a) = with_none (give (constant p.sites a))
  op row.Copy = with_one give
  op (row.Unary f) = with_one (unary f)
  op (row.Binary f site) = with_two (binary c f)
  op row.AddTo = with_two (add_to c)
  op row.CheckedNeg = with_one checked_neg
  op (row.Checked f) = with_two (checked c f)
  op (row.Compare f) = with_two (compare c f)
  op row.Not = with_one is_not_true
  op row.Truth = with_one is_true
  op row.Intmask = with_one (on_word (λ z. give (Word z)))
  op row.Min = with_two least
  op row.Max = with_two greatest
  op row.Len = with_one (len c)
  op row.Ord = with_one ord
  op row.Chr = with_one (chr c)
  op row.ToStr = with_one to_text
  op row.ToInt = with_one to_word
  op row.Write = with_two os_write
  op (row.IsInstance d) = with_one (is_instance d)
  op (row.Index literal) = with_two (index c)
  op row.StoreIndex = with_three (store_index c)
  op row.DeleteIndex = with_two (delete_index c)
  op (row.Attr name) = with_one (attribute name)
  op (row.StoreAttr name) = with_two (store_attribute name)
  op (row.Slice site low high) = slice c low high
  op (row.AllButLast site) = with_one (all_but_last c)
  op row.Tuple = new_tuple
  op (row.List site) = new_list
  op (row.Dict site) = with_none (paying dict_cost (new_object (Mapped [])))
  op (row.Comprehension site) = with_none (paying comprehension_cost (new_object (Listed [])))
  op row.AddItem = with_two add_item
  op (row.Call f) = enter f
  op (row.CallOf d f) = enter f
  op row.CallValue = call_value
  op (row.New d) = new d
  op (row.Method name site) = method name
  op row.Raise = with_one raise
  op row.Print = print
  op (row.Walk site) = with_one (walk c)
  op (row.HasItem step) = with_two (has_item step)
  op (row.Item step) = with_two (item step)
  op (row.Advance step) = with_two (advance step)
  op row.Turn = with_none (paying turn_cost (give Nothing))
  op (row.Unpack count place) = with_one (unpack count place)
  op row.DropNone = with_one give
  op row.OnlyNone = with_one give
  op row.FalseNone = with_one give
  op (row.Lower d) = with_one give
  op row.NonNegative = with_two (λ x y. give x)
