-- Worked rows of the order and the join, which compute.
use Rattle.std.proofs.Common.{◌≡◌, ℕ, zero, suc, List, [], ◌∷◌, Option, Some, None, Bool, true, false, refl}
use Rattle.rpy_tree.specs.declared.program.ClassInfo.{ClassInfo}
use Rattle.ann_lattice.specs.Shape.{Width, One, Any, OrNone, Shape, Nothing, NoneOnly, Truth, Num, Str, Tup, Lst, Dct, Inst, Fun, Clash, Shapes, end, more}
use Rattle.ann_lattice.specs.Order.{is_below, is_key}
use Rattle.ann_lattice.specs.Join.{join, classes_after}

abbrev class : Option ℕ → ClassInfo
class base = record { node = 0; file = 0; base = base; constants = []; methods = [] }

-- classes 1 and 2 are below 0; 3 has no base
abbrev k : List ClassInfo
k = class None ∷ class (Some 0) ∷ class (Some 0) ∷ class None ∷ []

-- four sites, each alone
abbrev t : List ℕ
t = 0 ∷ 1 ∷ 2 ∷ 3 ∷ []

characters : join k (Str One) (Str One) ≡ Str One
characters = refl

strings : join k (Str One) (Str Any) ≡ Str Any
strings = refl

none_and_character : join k NoneOnly (Str One) ≡ Str OrNone
none_and_character = refl

none_and_word : join k NoneOnly (Num false) ≡ Clash None None
none_and_word = refl

word_and_truth : join k (Num false) (Truth None) ≡ Clash None None
word_and_truth = refl

true_and_false : join k (Truth (Some true)) (Truth (Some false)) ≡ Truth None
true_and_false = refl

lists_join : join k (Lst 3 false) (Lst 1 true) ≡ Lst 3 true
lists_join = refl

lists_are_one_class : classes_after k t (Lst 3 false) (Lst 1 true) ≡ 0 ∷ 1 ∷ 2 ∷ 1 ∷ []
lists_are_one_class = refl

siblings : join k (Inst 1 false) (Inst 2 false) ≡ Inst 0 false
siblings = refl

strangers : join k (Inst 1 false) (Inst 3 false) ≡ Clash None None
strangers = refl

functions : join k (Fun (1 ∷ 4 ∷ []) false) (Fun (2 ∷ 4 ∷ []) false) ≡ Fun (1 ∷ 2 ∷ 4 ∷ []) false
functions = refl

-- a tuple of a list and another thing
abbrev beside : ℕ → Shape → Shape
beside s x = Tup (more (Lst s false) (more x end))

tuples : join k (beside 0 (Num false)) (beside 2 (Num true)) ≡ beside 0 (Num true)
tuples = refl

conflict_in_an_item : join k (beside 0 (Num false)) (beside 2 (Str One)) ≡ Clash (Some 0) None
conflict_in_an_item = refl

its_lists_are_one_class : classes_after k t (beside 0 (Num false)) (beside 2 (Str One)) ≡ 0 ∷ 1 ∷ 0 ∷ 3 ∷ []
its_lists_are_one_class = refl

below_a_conflict : is_below k t (beside 0 (Num false)) (Clash (Some 0) None) ≡ true
below_a_conflict = refl

not_below_another : is_below k t (beside 0 (Num false)) (Clash (Some 1) None) ≡ false
not_below_another = refl

lengths_differ : join k (Tup end) (Tup (more (Num false) end)) ≡ Clash None None
lengths_differ = refl

abbrev nested : ℕ → Shape
nested zero = Num false
nested (suc n) = Tup (more (nested n) end)

eight_levels : join k (nested 8) (nested 8) ≡ nested 8
eight_levels = refl

nine_levels : join k (nested 9) (nested 9) ≡ Clash None None
nine_levels = refl

tuple_key : is_key (nested 3) ≡ true
tuple_key = refl

list_is_no_key : is_key (beside 0 (Num false)) ≡ false
list_is_no_key = refl
