-- Kinds of elements, as the lines of the table name them.
use Rattle.std.specs.Prelude.{ℕ, ◌&&◌, ◌||◌, not, if◌then◌else◌, Bool, true, false, List, [], ◌∷◌, Some, None}
use Rattle.rpy_tree.specs.declared.program.ClassInfo.{ClassInfo}
use Rattle.ann_lattice.specs.Shape.{One, Any, Shape, Nothing, NoneOnly, Truth, Num, Str, Lst, Clash}
use Rattle.ann_lattice.specs.Join.{is_clash, join, classes_after}

-- what no line fits
abbrev pub misfit : Shape
misfit = Clash None None

-- what a line gives, where the operands fit it
abbrev pub given : Bool → Shape → Shape
given fits e = if fits then e else misfit

abbrev pub is_nothing : Shape → Bool
is_nothing Nothing = true
is_nothing other = false

abbrev pub is_int : Shape → Bool
is_int (Num n) = true
is_int other = false

abbrev pub is_positive : Shape → Bool
is_positive (Num false) = true
is_positive other = false

abbrev pub is_bool : Shape → Bool
is_bool (Truth b) = true
is_bool other = false

abbrev pub is_char : Shape → Bool
is_char (Str One) = true
is_char other = false

abbrev pub is_str : Shape → Bool
is_str (Str One) = true
is_str (Str Any) = true
is_str other = false

-- a string or `None`
abbrev pub is_text : Shape → Bool
is_text NoneOnly = true
is_text (Str w) = true
is_text other = false

abbrev pub is_list : Shape → Bool
is_list (Lst s n) = true
is_list other = false

-- an integer that is not below zero where this is so
abbrev pub positive_if : Bool → Shape
positive_if holds = Num (not holds)

-- a truth value that is known unless the value may be `None`
abbrev pub known_unless : Bool → Bool → Shape
known_unless value none = if none then Truth None else Truth (Some value)

abbrev pub some_nothing : List Shape → Bool
some_nothing [] = false
some_nothing (x ∷ xs) = is_nothing x || some_nothing xs

abbrev pub some_clash : List Shape → Bool
some_clash [] = false
some_clash (x ∷ xs) = is_clash x || some_clash xs

abbrev pub all_positive : List Shape → Bool
all_positive [] = true
all_positive (x ∷ xs) = is_positive x && all_positive xs

-- ---- what an operation asks its result to be above: nothing, one element or two

-- a conflict that a row gives keeps no class of sites
abbrev pub blunt : Shape → Shape
blunt (Clash o p) = misfit
blunt other = other

-- the result itself
abbrev pub gathered : List ClassInfo → List Shape → Shape
gathered k [] = Nothing
gathered k (x ∷ []) = x
gathered k (x ∷ y ∷ others) = blunt (join k x y)

-- the classes of sites after it
abbrev pub classes_gathered : List ClassInfo → List ℕ → List Shape → List ℕ
classes_gathered k t [] = t
classes_gathered k t (x ∷ []) = t
classes_gathered k t (x ∷ y ∷ others) = classes_after k t x y
