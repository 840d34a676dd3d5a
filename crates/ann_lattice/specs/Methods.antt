-- What the methods of strings, lists, dicts and instances give. p is the further part that a line speaks of: the item of a list, the value of a
-- dict, or the result of a function.
use Rattle.std.specs.Prelude.{ℕ, zero, suc, ◌&&◌, ◌||◌, min, if◌then◌else◌, Bool, true, false, List, [], ◌∷◌, length, Option, Some, None, is_some, codes}
use Rattle.std.specs.Str.{bytes_eq}
use Rattle.rpy_tree.specs.declared.program.ClassInfo.{ClassInfo}
use Rattle.class_desc.specs.Line as line
use Rattle.ann_lattice.specs.declared.method.Method.{Method}
use Rattle.ann_lattice.specs.declared.method.Method.TheVariants as m
use Rattle.ann_lattice.specs.Shape.{Any, Shape, Nothing, NoneOnly, Truth, Num, Str, Lst, Dct, Inst}
use Rattle.ann_lattice.specs.Kind.{misfit, given, is_int, is_char, is_str, is_positive}

-- ---- methods by their names

abbrev pub dict_method_named : List ℕ → Method
dict_method_named name =
    if bytes_eq name (codes "get") then m.Get
    else if bytes_eq name (codes "keys") || bytes_eq name (codes "iterkeys") then m.Keys
    else if bytes_eq name (codes "values") || bytes_eq name (codes "itervalues") then m.Values
    else if bytes_eq name (codes "items") || bytes_eq name (codes "iteritems") then m.Items
    else m.Other

abbrev pub list_method_named : List ℕ → Method
list_method_named name =
    if bytes_eq name (codes "append") then m.Append
    else if bytes_eq name (codes "pop") then m.Pop
    else if bytes_eq name (codes "insert") then m.Insert
    else if bytes_eq name (codes "extend") then m.Extend
    else if bytes_eq name (codes "reverse") then m.Reverse
    else dict_method_named name

abbrev pub method_named : List ℕ → Method
method_named name =
    if bytes_eq name (codes "join") then m.Join
    else if bytes_eq name (codes "split") then m.Split
    else if bytes_eq name (codes "find") then m.Find
    else if bytes_eq name (codes "startswith") then m.StartsWith
    else if bytes_eq name (codes "endswith") then m.EndsWith
    else if bytes_eq name (codes "strip") then m.Strip
    else if bytes_eq name (codes "isdigit") then m.IsDigit
    else if bytes_eq name (codes "isalpha") then m.IsAlpha
    else if bytes_eq name (codes "isspace") then m.IsSpace
    else list_method_named name

abbrev pub is_pop : Method → Bool
is_pop m.Pop = true
is_pop _ = false

abbrev pub is_get : Method → Bool
is_get m.Get = true
is_get _ = false

abbrev pub is_join : Method → Bool
is_join m.Join = true
is_join _ = false

-- ---- arguments

abbrev pub no_args : List Shape → Bool
no_args [] = true
no_args (x ∷ xs) = false

abbrev pub one_str : List Shape → Bool
one_str (s ∷ []) = is_str s
one_str other = false

abbrev pub one_char : List Shape → Bool
one_char (c ∷ []) = is_char c
one_char other = false

abbrev pub one_arg : List Shape → Bool
one_arg (x ∷ []) = true
one_arg other = false

abbrev pub one_or_two : List Shape → Bool
one_or_two (x ∷ []) = true
one_or_two (x ∷ y ∷ []) = true
one_or_two other = false

-- a place that is not below zero, and what is put there
abbrev pub place_and_value : List Shape → Bool
place_and_value (i ∷ x ∷ []) = is_positive i
place_and_value other = false

abbrev pub none_or_int : List Shape → Bool
none_or_int [] = true
none_or_int (i ∷ []) = is_int i
none_or_int other = false

abbrev pub one_list_or_none : List Shape → Bool
one_list_or_none (NoneOnly ∷ []) = true
one_list_or_none (Lst s n ∷ []) = true
one_list_or_none other = false

-- ---- strings

-- what can be joined: strings, and the items of a list that has none
abbrev pub can_be_joined : Shape → Bool
can_be_joined Nothing = true
can_be_joined other = is_str other

-- `join` of a list of strings, neither of which may be `None`
abbrev pub joined : Shape → List Shape → Shape → Shape
joined a (Lst s false ∷ []) p = given (is_str a && can_be_joined p) (Str Any)
joined a other p = misfit

-- a list of its own site
abbrev pub own_list : Option ℕ → Bool → Shape
own_list None fits = misfit
own_list (Some s) fits = given fits (Lst s false)

abbrev pub text_method : Method → Option ℕ → Shape → List Shape → Shape → Shape
text_method m.Join site a xs p = joined a xs p
text_method m.Split site a xs p = own_list site (one_char xs)
text_method m.Find site a xs p = given (one_str xs) (Num true)
text_method m.StartsWith site a xs p = given (one_str xs) (Truth None)
text_method m.EndsWith site a xs p = given (one_str xs) (Truth None)
text_method m.Strip site a xs p = given (no_args xs) (Str Any)
text_method m.IsDigit site a xs p = given (is_char a && no_args xs) (Truth None)
text_method m.IsAlpha site a xs p = given (is_char a && no_args xs) (Truth None)
text_method m.IsSpace site a xs p = given (is_char a && no_args xs) (Truth None)
text_method _ site a xs p = misfit

-- ---- lists

abbrev pub extended : List Shape → Shape
extended (NoneOnly ∷ []) = Nothing
extended (Lst s n ∷ []) = NoneOnly
extended other = misfit

abbrev pub list_method : Method → List Shape → Shape → Shape
list_method m.Append xs p = given (one_arg xs) NoneOnly
list_method m.Insert xs p = given (place_and_value xs) NoneOnly
list_method m.Extend xs p = extended xs
list_method m.Reverse xs p = given (no_args xs) NoneOnly
list_method m.Pop xs p = given (none_or_int xs) p
list_method _ xs p = misfit

-- ---- dicts: `get` gives the value, or else `None` or what stands in for it

abbrev pub got : List Shape → Shape → List Shape
got (key ∷ []) p = p ∷ NoneOnly ∷ []
got (key ∷ other ∷ []) p = p ∷ other ∷ []
got xs p = misfit ∷ []

abbrev pub dict_method : Method → Option ℕ → List Shape → Shape → List Shape
dict_method m.Get site xs p = got xs p
dict_method m.Keys site xs p = own_list site (no_args xs) ∷ []
dict_method m.Values site xs p = own_list site (no_args xs) ∷ []
dict_method m.Items site xs p = own_list site (no_args xs) ∷ []
dict_method _ site xs p = misfit ∷ []

-- ---- `None`

-- a line for the method takes `None` as its receiver
abbrev pub takes_none : Method → List Shape → Bool
takes_none m.Split xs = one_char xs
takes_none m.Find xs = one_str xs
takes_none m.StartsWith xs = one_str xs
takes_none m.EndsWith xs = one_str xs
takes_none m.Strip xs = no_args xs
takes_none m.Append xs = one_arg xs
takes_none m.Insert xs = place_and_value xs
takes_none m.Extend xs = one_list_or_none xs
takes_none m.Reverse xs = no_args xs
takes_none m.Pop xs = none_or_int xs
takes_none m.Get xs = one_or_two xs
takes_none m.Keys xs = no_args xs
takes_none m.Values xs = no_args xs
takes_none m.Items xs = no_args xs
takes_none _ xs = false

abbrev pub has_method : List ClassInfo → List ℕ → ℕ → Bool
has_method k name c = is_some (line.method k c name)

-- one of so many classes from c on has a method of the name
abbrev pub some_method : List ClassInfo → List ℕ → ℕ → ℕ → Bool
some_method k name c zero = false
some_method k name c (suc n) = has_method k name c || some_method k name (suc c) n

-- the numbers of classes are below 2 ^ 32
abbrev pub is_class_method : List ClassInfo → List ℕ → Bool
is_class_method k name = some_method k name 0 (min (length k) 4294967296)

-- ---- a method of whatever the receiver is

abbrev pub method : List ClassInfo → List ℕ → Option ℕ → Shape → List Shape → Shape → List Shape
method k name site NoneOnly xs p = given (takes_none (method_named name) xs || is_class_method k name) Nothing ∷ []
method k name site (Str w) xs p = text_method (method_named name) site (Str w) xs p ∷ []
method k name site (Lst s n) xs p = list_method (method_named name) xs p ∷ []
method k name site (Dct s n) xs p = dict_method (method_named name) site xs p
method k name site (Inst c n) xs p = given (has_method k name c) p ∷ []
method k name site other xs p = misfit ∷ []
