-- Kinds that hold of smaller elements where they hold of larger ones.
use Rattle.std.proofs.Common.{◌≡◌, ℕ, Bool, true, false, List, Some, None, refl}
use Rattle.std.specs.Prelude.{not}
use Rattle.rpy_tree.specs.declared.program.ClassInfo.{ClassInfo}
use Rattle.ann_lattice.specs.Shape.{One, Any, OrNone, Shape, Truth}
use Rattle.ann_lattice.specs.Order.{Implies, Below, truth, num}
use Rattle.ann_lattice.specs.Kind.{is_int, is_positive, is_bool, is_char, is_str, is_text, positive_if, known_unless}
use Rattle.ann_lattice.specs.Row.{both_int, is_sequence}
use Rattle.ann_laws.proofs.Pairs.{no, Pair, nones, or_str, or_list, truths, nums, strs, lsts, and_down}

module _ (k : List ClassInfo) (u : List ℕ) where
  pub int_down : (x y : Shape) → Pair k u x y → is_int y ≡ true → is_int x ≡ true
  int_down _ _ (nums a b h) e = refl
  int_down _ _ p e = absurd (no e)

  pub positive_down : (x y : Shape) → Pair k u x y → is_positive y ≡ true → is_positive x ≡ true
  positive_down _ _ (nums false b h) e = refl
  positive_down _ _ (nums true false h) e = absurd h
  positive_down _ _ p e = absurd (no e)

  pub bool_down : (x y : Shape) → Pair k u x y → is_bool y ≡ true → is_bool x ≡ true
  bool_down _ _ (truths a b h) e = refl
  bool_down _ _ p e = absurd (no e)

  pub str_down : (x y : Shape) → Pair k u x y → is_str y ≡ true → is_str x ≡ true
  str_down _ _ (strs One b h) e = refl
  str_down _ _ (strs Any b h) e = refl
  str_down _ _ (strs OrNone OrNone h) e = absurd (no e)
  str_down _ _ (strs OrNone One h) e = absurd h
  str_down _ _ (strs OrNone Any h) e = absurd h
  str_down _ _ p e = absurd (no e)

  pub char_down : (x y : Shape) → Pair k u x y → is_char y ≡ true → is_char x ≡ true
  char_down _ _ (strs One b h) e = refl
  char_down _ _ (strs Any One h) e = absurd h
  char_down _ _ (strs OrNone One h) e = absurd h
  char_down _ _ p e = absurd (no e)

  pub text_down : (x y : Shape) → Pair k u x y → is_text y ≡ true → is_text x ≡ true
  text_down _ _ nones e = refl
  text_down _ _ or_str e = refl
  text_down _ _ (strs a b h) e = refl
  text_down _ _ p e = absurd (no e)

  pub sequence_down : (x y : Shape) → Pair k u x y → is_sequence y ≡ true → is_sequence x ≡ true
  sequence_down _ _ nones e = refl
  sequence_down _ _ or_str e = refl
  sequence_down _ _ (or_list s) e = refl
  sequence_down _ _ (strs a b h) e = refl
  sequence_down _ _ (lsts s v a b i h) e = refl
  sequence_down _ _ p e = absurd (no e)

  pub both_int_down : (x y v w : Shape) → Pair k u x y → Pair k u v w → both_int y w ≡ true → both_int x v ≡ true
  both_int_down x y v w p q = and_down (is_int x) (is_int v) (is_int y) (is_int w) (int_down x y p) (int_down v w q)

  pub positive_rises : (b c : Bool) → (c ≡ true → b ≡ true) → Below k u (positive_if b) (positive_if c)
  positive_rises true c f = num false (not c) tt
  positive_rises false true f = absurd (no (f refl))
  positive_rises false false f = num true true tt

  pub known_rises : (v a b : Bool) → Implies a b → Below k u (known_unless v a) (known_unless v b)
  known_rises true true true h = truth None None tt
  known_rises false true true h = truth None None tt
  known_rises v true false h = absurd h
  known_rises true false true h = truth (Some true) None tt
  known_rises false false true h = truth (Some false) None tt
  known_rises true false false h = truth (Some true) (Some true) tt
  known_rises false false false h = truth (Some false) (Some false) tt

  -- a bool is above all that is known
  pub known_top : (v a : Bool) → Below k u (known_unless v a) (Truth None)
  known_top true true = truth None None tt
  known_top false true = truth None None tt
  known_top true false = truth (Some true) None tt
  known_top false false = truth (Some false) None tt
