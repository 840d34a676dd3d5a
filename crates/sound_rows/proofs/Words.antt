-- Operations on words, and tests of values.
use Rattle.std.proofs.Common.{◌≡◌, Bool, true, sym, subst, arith}
use Rattle.std.specs.Prelude.{ℤ, ◌&&◌, ◌||◌, not, if◌then◌else◌, int_lt}
use Rattle.std.specs.Ordering.{int_eq}
use Rattle.rpy_base.specs.Word.{wrap}
use Rattle.rpy_tree.specs.declared.syntax.UnOp.{UnOp}
use Rattle.rpy_tree.specs.declared.syntax.UnOp.TheVariants as un
use Rattle.rpy_tree.specs.declared.syntax.BinOp.{BinOp}
use Rattle.rpy_tree.specs.declared.syntax.BinOp.TheVariants as bin
use Rattle.rpy_tree.specs.Value.{Value, Word}
use Rattle.rpy_meaning.specs.declared.row.Covers.{Covers}
use Rattle.rpy_meaning.specs.World.{Op, give, overflow}
use Rattle.rpy_meaning.specs.Arithmetic.{word, word_that_fits, unary, checked_neg, checked, least, greatest, arithmetic, on_word, on_words}
use Rattle.ann_lattice.specs.Shape.{Shape, Num}
use Rattle.ann_lattice.specs.Kind.{is_int, is_positive, positive_if}
use Rattle.ann_lattice.specs.Row as row
use Rattle.sound_values.specs.Values as values
use Rattle.sound_rows.proofs.Tools.{Setting, Sounds, Has, Under, give_of, throw_ok, division_ok, value_ok, if_ok, fits}
use Rattle.sound_rows.proofs.Operands.{and_left, and_right, word_of}

module _ (s : Setting) where
  -- a word, whatever is known of its sign
  pub num_ok : (n : Bool) (z : ℤ) → Under s (Num n) → Sounds s (give (Word z))
  num_ok n z b = give_of s (Num n) (Word z) b (values.word n z)

  pub on_word_ok : (f : ℤ → Op) (x : Shape) (v : Value) → Has s x v → is_int x ≡ true → ((z : ℤ) → Sounds s (f z)) → Sounds s (on_word f v)
  on_word_ok f x v h i go = let w = word_of s x v h i in subst (λ (u : Value). Sounds s (on_word f u)) (sym w.is) (go w.number)

  on_words_ok : (f : ℤ → ℤ → Op) (x y : Shape) (v u : Value) → Has s x v → Has s y u → row.both_int x y ≡ true → ((a b : ℤ) → Sounds s (f a b)) → Sounds s (on_words f v u)
  on_words_ok f x y v u h j i go =
      let a = word_of s x v h (and_left (is_int x) (is_int y) i) in
      let b = word_of s y u j (and_right (is_int x) (is_int y) i) in
      subst (λ (e : Value). Sounds s (on_words f e u)) (sym a.is) (subst (λ (e : Value). Sounds s (on_words f (Word a.number) e)) (sym b.is) (go a.number b.number))

  pub unary_ok : (f : UnOp) (x : Shape) (v : Value) → Has s x v → Under s (row.unary f x) → Sounds s (unary f v)
  unary_ok un.Neg x v h b = let g = fits s (is_int x) (Num true) b in on_word_ok _ x v h g.0 (λ z. num_ok true _ g.1)
  unary_ok un.Invert x v h b = let g = fits s (is_int x) (Num true) b in on_word_ok _ x v h g.0 (λ z. num_ok true _ g.1)
  unary_ok un.Pos x v h b = let g = fits s (is_int x) (positive_if (is_positive x)) b in on_word_ok _ x v h g.0 (λ z. num_ok (not (is_positive x)) _ g.1)

  fits_ok : (n : Bool) (z : ℤ) → Under s (Num n) → Sounds s (word_that_fits z)
  fits_ok n z b = if_ok s (int_eq (wrap z) z) (give (Word z)) overflow (num_ok n z b) (throw_ok s 3 (omega arith))

  pub checked_neg_ok : (x : Shape) (v : Value) → Has s x v → Under s (row.unary un.Neg x) → Sounds s (checked_neg v)
  checked_neg_ok x v h b = let g = fits s (is_int x) (Num true) b in on_word_ok _ x v h g.0 (λ z. fits_ok true _ g.1)

  pub arithmetic_ok : (c : Covers) (f : ℤ → Op) → ((z : ℤ) → Sounds s (f z)) → (o : BinOp) (a b : ℤ) → Sounds s (arithmetic c f o a b)
  arithmetic_ok c f h bin.Div a b = if_ok s _ _ _ (division_ok s c) (h _)
  arithmetic_ok c f h bin.FloorDiv a b = if_ok s _ _ _ (division_ok s c) (h _)
  arithmetic_ok c f h bin.Mod a b = if_ok s _ _ _ (division_ok s c) (h _)
  arithmetic_ok c f h bin.Shl a b = if_ok s _ _ _ (h _) (value_ok s c)
  arithmetic_ok c f h bin.Shr a b = if_ok s _ _ _ (h _) (value_ok s c)
  arithmetic_ok c f h o a b = h _

  -- what two integers give is one
  pub a_number : (o : BinOp) (x y : Shape) → Under s (row.number o x y) → (n : Bool) × Under s (Num n)
  a_number bin.Add x y b = (not (is_positive x && is_positive y), b)
  a_number bin.Sub x y b = (true, b)
  a_number bin.Mul x y b = (not (is_positive x && is_positive y), b)
  a_number bin.Div x y b = (not (is_positive x && is_positive y), b)
  a_number bin.FloorDiv x y b = (not (is_positive x && is_positive y), b)
  a_number bin.Mod x y b = (not (is_positive y), b)
  a_number bin.Shl x y b = (true, b)
  a_number bin.Shr x y b = (not (is_positive x), b)
  a_number bin.BitAnd x y b = (not (is_positive x || is_positive y), b)
  a_number bin.BitOr x y b = (not (is_positive x && is_positive y), b)
  a_number bin.BitXor x y b = (not (is_positive x && is_positive y), b)

  pub words_ok : (c : Covers) (o : BinOp) (x y : Shape) (v u : Value) → Has s x v → Has s y u → row.both_int x y ≡ true → Under s (row.number o x y)
      → Sounds s (on_words (arithmetic c word o) v u)
  words_ok c o x y v u h j i b =
      let n = a_number o x y b in
      on_words_ok (arithmetic c word o) x y v u h j i (arithmetic_ok c word (λ z. num_ok n.0 (wrap z) n.1) o)

  pub checked_ok : (c : Covers) (o : BinOp) (x y : Shape) (v u : Value) → Has s x v → Has s y u → Under s (row.checked o x y) → Sounds s (checked c o v u)
  checked_ok c o x y v u h j b =
      let g = fits s (row.both_int x y && row.can_be_checked o) (row.number o x y) b in
      let n = a_number o x y g.1 in
      on_words_ok (arithmetic c word_that_fits o) x y v u h j (and_left (row.both_int x y) (row.can_be_checked o) g.0) (arithmetic_ok c word_that_fits (λ z. fits_ok n.0 z n.1) o)

  pub intmask_ok : (x : Shape) (v : Value) → Has s x v → Under s (row.intmask x) → Sounds s (on_word (λ z. give (Word z)) v)
  intmask_ok x v h b = let g = fits s (is_int x) (positive_if (is_positive x)) b in on_word_ok _ x v h g.0 (λ z. num_ok (not (is_positive x)) z g.1)

  pub least_ok : (x y : Shape) (v u : Value) → Has s x v → Has s y u → Under s (row.min_of x y) → Sounds s (least v u)
  least_ok x y v u h j b =
      let g = fits s (row.both_int x y) (positive_if (is_positive x && is_positive y)) b in
      on_words_ok (λ a b. give (Word (if int_lt b a then b else a))) x y v u h j g.0 (λ a b. num_ok (not (is_positive x && is_positive y)) _ g.1)

  pub greatest_ok : (x y : Shape) (v u : Value) → Has s x v → Has s y u → Under s (row.max_of x y) → Sounds s (greatest v u)
  greatest_ok x y v u h j b =
      let g = fits s (row.both_int x y) (positive_if (is_positive x || is_positive y)) b in
      on_words_ok (λ a b. give (Word (if int_lt a b then b else a))) x y v u h j g.0 (λ a b. num_ok (not (is_positive x || is_positive y)) _ g.1)
