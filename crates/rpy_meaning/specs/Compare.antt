-- Equality, identity, order and truth of values.
use Rattle.std.specs.Prelude.{ℕ, pos, int_lt, ◌==◌, nat_lt, ◌||◌, ◌&&◌, not, Bool, true, false, List, [], ◌∷◌, Option, Some, None}
use Rattle.std.specs.Ordering.{int_eq}
use Rattle.std.specs.Str.{bytes_eq}
use Rattle.rpy_tree.specs.Value.{Value, Word, Flag, Text, Nothing, Tuple, Fun, Ref, Values, none, more, Object, Listed, Mapped, Instance}

abbrev pub same_flag : Bool → Bool → Bool
same_flag true b = b
same_flag false b = not b

abbrev pub both : Option Bool → Option Bool → Option Bool
both (Some a) (Some b) = Some (a && b)
both a b = None

-- whether values are equal, where they are words, bools, strings or `None`, or tuples of these
abbrev mutual
  pub equal : Value → Value → Option Bool
  equal (Word a) (Word b) = Some (int_eq a b)
  equal (Flag a) (Flag b) = Some (same_flag a b)
  equal (Text a) (Text b) = Some (bytes_eq a b)
  equal (Text a) Nothing = Some false
  equal Nothing (Text b) = Some false
  equal Nothing Nothing = Some true
  equal (Tuple xs) (Tuple ys) = all_equal xs ys
  equal x y = None

  pub all_equal : Values → Values → Option Bool
  all_equal none none = Some true
  all_equal (more x xs) (more y ys) = both (equal x y) (all_equal xs ys)
  all_equal xs ys = None

abbrev pub holds : Option Bool → Bool
holds None = false
holds (Some b) = b

abbrev pub is_equal : Value → Value → Bool
is_equal x y = holds (equal x y)

abbrev pub is_among : Value → List Value → Bool
is_among v [] = false
is_among v (w ∷ ws) = is_equal w v || is_among v ws

-- identity, which is asked of references, and of any value and `None`
abbrev pub identical : Value → Value → Option Bool
identical (Ref r) (Ref s) = Some (r == s)
identical Nothing Nothing = Some true
identical Nothing y = Some false
identical x Nothing = Some false
identical x y = None

-- the first string is less: by the first bytes that differ, a shorter one before what it begins
abbrev pub text_less : List ℕ → List ℕ → Bool
text_less text [] = false
text_less [] (b ∷ bs) = true
text_less (a ∷ text) (b ∷ bs) = nat_lt a b || ((a == b) && text_less text bs)

abbrev pub less : Value → Value → Option Bool
less (Word a) (Word b) = Some (int_lt a b)
less (Text a) (Text b) = Some (text_less a b)
less x y = None

-- ---- truth

abbrev pub is_some_item : {A : Type 0} → List A → Bool
is_some_item [] = false
is_some_item (x ∷ xs) = true

abbrev pub object_truth : Option Object → Option Bool
object_truth None = None
object_truth (Some (Listed vs)) = Some (is_some_item vs)
object_truth (Some (Mapped pairs)) = Some (is_some_item pairs)
object_truth (Some (Instance class fields)) = Some true

-- whether a value is true, given the object that it refers to
abbrev pub truth : (ℕ → Option Object) → Value → Option Bool
truth object (Word z) = Some (not (int_eq z (pos 0)))
truth object (Flag b) = Some b
truth object (Text bytes) = Some (is_some_item bytes)
truth object Nothing = Some false
truth object (Fun f) = Some true
truth object (Ref r) = object_truth (object r)
truth object (Tuple vs) = None
