-- Which exceptions operations on values throw: those of their failures, where these are covered.
use Rattle.std.proofs.Common.{◌≡◌, ℕ, ◌-◌, ◌*◌, Bool, true, false, List, [], ◌∷◌, ◌++◌, length, Option, Some, None, refl, arith}
use Rattle.std.specs.Prelude.{ℤ, pos, negsuc, ◌&&◌, int_le, int_lt, nat_lt, not, option_map, slice_get, if◌then◌else◌}
use Rattle.std.specs.List.{repeat}
use Rattle.std.specs.Ordering.{int_eq}
use Rattle.rpy_base.specs.Word.{wrap}
use Rattle.rpy_tree.specs.declared.syntax.BinOp.{BinOp}
use Rattle.rpy_tree.specs.declared.syntax.BinOp.TheVariants as bin
use Rattle.rpy_tree.specs.declared.syntax.CmpOp.{CmpOp}
use Rattle.rpy_tree.specs.declared.syntax.CmpOp.TheVariants as cmp
use Rattle.rpy_tree.specs.Value.{Value, Word, Text, Nothing, Tuple, Ref, Object, Listed}
use Rattle.rpy_meaning.specs.declared.row.Covers.{Covers}
use Rattle.rpy_meaning.specs.Arithmetic.{arithmetic, checked, checked_neg, on_word, on_words, result, word, word_that_fits}
use Rattle.rpy_meaning.specs.Costs.{extend_cost, list_cost, text_cost}
use Rattle.rpy_meaning.specs.Methods.{chr}
use Rattle.rpy_meaning.specs.Operations.{compare, with_none, with_one, with_two, within}
use Rattle.rpy_meaning.specs.Sequences.{add_to, binary, count, is_in_object, plus, times}
use Rattle.rpy_meaning.specs.World.{World, Op, Lacks, new_object, attribute_error, division_error, flag_if_any, give, on_list, paying, set_object, value_error, with_list}
use Rattle.rtyper_program.specs.Raises.{is_covered}
use Rattle.value_rows.proofs.Premises.{ThrowsFew, covered_by, fails_few}

module _ (may : Bool) where
  abbrev pub Fine : Op → Type 0
  Fine f = (w : World) → ThrowsFew may (f w)

  pub if_fine : (b : Bool) (f g : Op) → Fine f → Fine g → Fine (if b then f else g)
  if_fine true f g h i = h
  if_fine false f g h i = i

  pub pays_fine : (cost : ℕ) (go : Op) → Fine go → Fine (paying cost go)
  pays_fine cost go h w = by (nat_lt w.left cost)
    where
      by : (b : Bool) → ThrowsFew may (if b then Lacks else go (record w { left = w.left - cost }))
      by true = tt
      by false = h (record w { left = w.left - cost })

  pub flags_fine : (o : Option Bool) → Fine (flag_if_any o)
  flags_fine None w = tt
  flags_fine (Some b) w = tt

  pub none_fine : (f : Op) → Fine f → (vs : List Value) → Fine (with_none f vs)
  none_fine f h [] = h
  none_fine f h (v ∷ vs) = λ w. tt

  pub one_fine : (f : Value → Op) → ((x : Value) → Fine (f x)) → (vs : List Value) → Fine (with_one f vs)
  one_fine f h [] = λ w. tt
  one_fine f h (x ∷ []) = h x
  one_fine f h (x ∷ y ∷ vs) = λ w. tt

  pub two_fine : (f : Value → Value → Op) → ((x y : Value) → Fine (f x y)) → (vs : List Value) → Fine (with_two f vs)
  two_fine f h [] = λ w. tt
  two_fine f h (x ∷ []) = λ w. tt
  two_fine f h (x ∷ y ∷ []) = h x y
  two_fine f h (x ∷ y ∷ z ∷ vs) = λ w. tt

  pub word_fine : (f : ℤ → Op) → ((a : ℤ) → Fine (f a)) → (x : Value) → Fine (on_word f x)
  word_fine f h (Word a) = h a
  word_fine f h x = λ w. tt

  pub words_fine : (f : ℤ → ℤ → Op) → ((a b : ℤ) → Fine (f a b)) → (x y : Value) → Fine (on_words f x y)
  words_fine f h (Word a) (Word b) = h a b
  words_fine f h x y = λ w. tt

  list_fine : (r : ℕ) (f : List Value → Op) → ((vs : List Value) → Fine (f vs)) → Fine (with_list r f)
  list_fine r f h w = by (slice_get w.heap r)
    where
      by : (o : Option Object) → ThrowsFew may (on_list f o w)
      by (Some (Listed vs)) = h vs w
      by other = tt

  module _ (c : Covers) (so : is_covered c ≡ true → may ≡ true) where
    division_fine : Fine (division_error c)
    division_fine w = fails_few may c.zero 4 _ w (omega arith) (λ e. so (covered_by c (λ (c : Covers). c.zero) refl e))

    value_fine : Fine (value_error c)
    value_fine w = fails_few may c.number 8 _ w (omega arith) (λ e. so (covered_by c (λ (c : Covers). c.number) refl e))

    attribute_fine : Fine (attribute_error c)
    attribute_fine w = fails_few may c.attribute 9 _ w (omega arith) (λ e. so (covered_by c (λ (c : Covers). c.attribute) refl e))

    pub arithmetic_fine : (f : ℤ → Op) → ((z : ℤ) → Fine (f z)) → (o : BinOp) (a b : ℤ) → Fine (arithmetic c f o a b)
    arithmetic_fine f h bin.Div a b = if_fine (int_eq b (pos 0)) (division_error c) (f (result bin.Div a b)) division_fine (h _)
    arithmetic_fine f h bin.FloorDiv a b = if_fine (int_eq b (pos 0)) (division_error c) (f (result bin.FloorDiv a b)) division_fine (h _)
    arithmetic_fine f h bin.Mod a b = if_fine (int_eq b (pos 0)) (division_error c) (f (result bin.Mod a b)) division_fine (h _)
    arithmetic_fine f h bin.Shl a b = if_fine (int_le (pos 0) b && int_lt b (pos 64)) (f (result bin.Shl a b)) (value_error c) (h _) value_fine
    arithmetic_fine f h bin.Shr a b = if_fine (int_le (pos 0) b && int_lt b (pos 64)) (f (result bin.Shr a b)) (value_error c) (h _) value_fine
    arithmetic_fine f h o a b = h _

    plus_fine : (x y : Value) → Fine (plus c x y)
    plus_fine (Text a) (Text b) = pays_fine (text_cost (length (a ++ b))) (give (Text (a ++ b))) (λ w. tt)
    plus_fine (Ref r) (Ref s) = list_fine r _ (λ vs. list_fine s _ (λ us. pays_fine (list_cost (length (vs ++ us))) (new_object (Listed (vs ++ us))) (λ w. tt)))
    plus_fine (Word a) (Word b) = λ w. tt
    plus_fine Nothing y = attribute_fine
    plus_fine x Nothing = attribute_fine
    plus_fine x y = λ w. tt

    times_fine : (x y : Value) → Fine (times c x y)
    times_fine (Text a) (Word n) = pays_fine (text_cost (length a * count n)) (give (Text (repeat (count n) a))) (λ w. tt)
    times_fine (Ref r) (Word n) = list_fine r _ (λ vs. pays_fine (list_cost (length vs * count n)) (new_object (Listed (repeat (count n) vs))) (λ w. tt))
    times_fine (Word a) (Word b) = λ w. tt
    times_fine Nothing y = attribute_fine
    times_fine x y = λ w. tt

    pub binary_fine : (o : BinOp) (x y : Value) → Fine (binary c o x y)
    binary_fine bin.Add = plus_fine
    binary_fine bin.Mul = times_fine
    binary_fine bin.Sub = words_fine _ (arithmetic_fine word (λ z w. tt) bin.Sub)
    binary_fine bin.Div = words_fine _ (arithmetic_fine word (λ z w. tt) bin.Div)
    binary_fine bin.FloorDiv = words_fine _ (arithmetic_fine word (λ z w. tt) bin.FloorDiv)
    binary_fine bin.Mod = words_fine _ (arithmetic_fine word (λ z w. tt) bin.Mod)
    binary_fine bin.Shl = words_fine _ (arithmetic_fine word (λ z w. tt) bin.Shl)
    binary_fine bin.Shr = words_fine _ (arithmetic_fine word (λ z w. tt) bin.Shr)
    binary_fine bin.BitAnd = words_fine _ (arithmetic_fine word (λ z w. tt) bin.BitAnd)
    binary_fine bin.BitOr = words_fine _ (arithmetic_fine word (λ z w. tt) bin.BitOr)
    binary_fine bin.BitXor = words_fine _ (arithmetic_fine word (λ z w. tt) bin.BitXor)

    pub add_to_fine : (x y : Value) → Fine (add_to c x y)
    add_to_fine (Ref r) (Ref s) = list_fine r _ (λ vs. list_fine s _ (λ us. pays_fine (extend_cost (length us)) (set_object r (Listed (vs ++ us)) (Ref r)) (λ w. tt)))
    add_to_fine x y = plus_fine x y

    within_fine : (f : Bool → Bool) (x y : Value) → Fine (within c f x y)
    within_fine f (Text part) (Text text) = λ w. tt
    within_fine f x (Ref r) = λ w. flags_fine (option_map f (is_in_object x (slice_get w.heap r))) w
    within_fine f x (Tuple vs) = λ w. tt
    within_fine f x Nothing = attribute_fine
    within_fine f x y = λ w. tt

    pub compare_fine : (o : CmpOp) (x y : Value) → Fine (compare c o x y)
    compare_fine cmp.Lt x y = flags_fine _
    compare_fine cmp.Le x y = flags_fine _
    compare_fine cmp.Gt x y = flags_fine _
    compare_fine cmp.Ge x y = flags_fine _
    compare_fine cmp.Eq x y = flags_fine _
    compare_fine cmp.Ne x y = flags_fine _
    compare_fine cmp.Within x y = within_fine (λ b. b) x y
    compare_fine cmp.NotWithin x y = within_fine not x y
    compare_fine cmp.Is x y = flags_fine _
    compare_fine cmp.IsNot x y = flags_fine _

    pub chr_fine : (x : Value) → Fine (chr c x)
    chr_fine (Word (pos n)) = if_fine (nat_lt n 256) _ (value_error c) (λ w. tt) value_fine
    chr_fine (Word (negsuc n)) = value_fine
    chr_fine x = λ w. tt

  -- what has to fit raises where it does not
  module _ (c : Covers) (so : may ≡ true) where
    fits_fine : (z : ℤ) → Fine (word_that_fits z)
    fits_fine z = if_fine (int_eq (wrap z) z) (give (Word z)) _ (λ w. tt) (λ w. (omega arith, so))

    pub checked_fine : (o : BinOp) (x y : Value) → Fine (checked c o x y)
    checked_fine o = words_fine _ (arithmetic_fine c (λ e. so) word_that_fits fits_fine o)

    pub checked_neg_fine : (x : Value) → Fine (checked_neg x)
    checked_neg_fine = word_fine _ (λ a. fits_fine _)
