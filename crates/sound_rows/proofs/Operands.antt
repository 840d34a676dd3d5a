-- Operands, by what they are and by how many there are.
use Rattle.std.proofs.Common.{◌≡◌, ℕ, Bool, true, false, List, [], ◌∷◌, refl, subst}
use Rattle.std.specs.Prelude.{ℤ, ◌&&◌}
use Rattle.rpy_tree.specs.Value.{Value, Word, Flag, Text}
use Rattle.rpy_meaning.specs.declared.row.RowOp.{RowOp}
use Rattle.rpy_meaning.specs.World.{Op}
use Rattle.rpy_meaning.specs.Operations.{with_none, with_one, with_two, with_three}
use Rattle.ann_lattice.specs.Shape.{One, Shape}
use Rattle.ann_lattice.specs.Kind.{misfit, is_int, is_bool, is_char, is_str}
use Rattle.ann_lattice.specs.Row.{of_none, of_one, of_two, of_three, counted}
use Rattle.sound_values.specs.Values.{flag, word, text}
use Rattle.sound_rows.proofs.Tools.{no, Setting, Sounds, Has, Have, Under, misfits}

pub and_left : (a b : Bool) → (a && b) ≡ true → a ≡ true
and_left true b e = refl
and_left false b e = absurd (no e)

pub and_right : (a b : Bool) → (a && b) ≡ true → b ≡ true
and_right true b e = e
and_right false b e = absurd (no e)

-- ---- what they are

pub record IsWord (v : Value) : Type 0 where
  pub number : ℤ
  pub is : v ≡ Word number

pub record IsFlag (v : Value) : Type 0 where
  pub bool : Bool
  pub is : v ≡ Flag bool

pub record IsText (v : Value) : Type 0 where
  pub bytes : List ℕ
  pub is : v ≡ Text bytes

pub record IsByte (v : Value) : Type 0 where
  pub byte : ℕ
  pub is : v ≡ Text (byte ∷ [])

module _ (s : Setting) where
  pub word_of : (x : Shape) (v : Value) → Has s x v → is_int x ≡ true → IsWord v
  word_of _ _ (word n z) e = record { number = z; is = refl }
  word_of x v h e = absurd (no e)

  pub flag_of : (x : Shape) (v : Value) → Has s x v → is_bool x ≡ true → IsFlag v
  flag_of _ _ (flag known b g) e = record { bool = b; is = refl }
  flag_of x v h e = absurd (no e)

  pub text_of : (x : Shape) (v : Value) → Has s x v → is_str x ≡ true → IsText v
  text_of _ _ (text width bytes f) e = record { bytes = bytes; is = refl }
  text_of x v h e = absurd (no e)

  pub byte_of : (x : Shape) (v : Value) → Has s x v → is_char x ≡ true → IsByte v
  byte_of _ _ (text One [] f) e = absurd f
  byte_of _ _ (text One (b ∷ []) f) e = record { byte = b; is = refl }
  byte_of _ _ (text One (b ∷ c ∷ bytes) f) e = absurd f
  byte_of x v h e = absurd (no e)

  -- ---- how many there are

  pub misfits_by : (x : Shape) → x ≡ misfit → Under s x → ⊥
  misfits_by x e b = misfits s (subst (λ y. Under s y) e b)

  pub zero_values : (f : Op) (vs : List Value) → Have s [] vs → Sounds s f → Sounds s (with_none f vs)
  zero_values f [] h go = go
  zero_values f (v ∷ vs) h go = absurd h

  pub one_value : (f : Value → Op) (x : Shape) (vs : List Value) → Have s (x ∷ []) vs → ((v : Value) → Has s x v → Sounds s (f v)) → Sounds s (with_one f vs)
  one_value f x [] h go = absurd h
  one_value f x (v ∷ []) h go = go v h.0
  one_value f x (v ∷ w ∷ vs) h go = absurd h.1

  pub two_values : (f : Value → Value → Op) (x y : Shape) (vs : List Value) → Have s (x ∷ y ∷ []) vs → ((v w : Value) → Has s x v → Has s y w → Sounds s (f v w)) → Sounds s (with_two f vs)
  two_values f x y [] h go = absurd h
  two_values f x y (v ∷ []) h go = absurd h.1
  two_values f x y (v ∷ w ∷ []) h go = go v w h.0 h.1.0
  two_values f x y (v ∷ w ∷ u ∷ vs) h go = absurd h.1.1

  pub three_values : (f : Value → Value → Value → Op) (x y z : Shape) (vs : List Value) → Have s (x ∷ y ∷ z ∷ []) vs
      → ((v w u : Value) → Has s x v → Has s y w → Has s z u → Sounds s (f v w u)) → Sounds s (with_three f vs)
  three_values f x y z [] h go = absurd h
  three_values f x y z (v ∷ []) h go = absurd h.1
  three_values f x y z (v ∷ w ∷ []) h go = absurd h.1.1
  three_values f x y z (v ∷ w ∷ u ∷ []) h go = go v w u h.0 h.1.0 h.1.1.0
  three_values f x y z (v ∷ w ∷ u ∷ t ∷ vs) h go = absurd h.1.1.1

  module _ (o : RowOp) (p : Shape) where
    abbrev Row : List Shape → Type 0
    Row xs = Under s (counted s.p.tables o xs p)

    pub zero_ok : (f : Op) (xs : List Shape) (vs : List Value) → Have s xs vs → Row xs
        → ((x : Shape) → of_one s.p.tables o x p ≡ misfit) → ((x y : Shape) → of_two s.p.tables o x y p ≡ misfit) → ((x y z : Shape) → of_three o x y z ≡ misfit)
        → (Under s (of_none o) → Sounds s f) → Sounds s (with_none f vs)
    zero_ok f [] vs h b one two three go = zero_values f vs h (go b)
    zero_ok f (x ∷ []) vs h b one two three go = absurd (misfits_by _ (one x) b)
    zero_ok f (x ∷ y ∷ []) vs h b one two three go = absurd (misfits_by _ (two x y) b)
    zero_ok f (x ∷ y ∷ z ∷ []) vs h b one two three go = absurd (misfits_by _ (three x y z) b)
    zero_ok f (x ∷ y ∷ z ∷ u ∷ xs) vs h b one two three go = absurd (misfits s b)

    pub one_ok : (f : Value → Op) (xs : List Shape) (vs : List Value) → Have s xs vs → Row xs
        → of_none o ≡ misfit → ((x y : Shape) → of_two s.p.tables o x y p ≡ misfit) → ((x y z : Shape) → of_three o x y z ≡ misfit)
        → ((x : Shape) (v : Value) → Has s x v → Under s (of_one s.p.tables o x p) → Sounds s (f v)) → Sounds s (with_one f vs)
    one_ok f [] vs h b zero two three go = absurd (misfits_by _ zero b)
    one_ok f (x ∷ []) vs h b zero two three go = one_value f x vs h (λ v i. go x v i b)
    one_ok f (x ∷ y ∷ []) vs h b zero two three go = absurd (misfits_by _ (two x y) b)
    one_ok f (x ∷ y ∷ z ∷ []) vs h b zero two three go = absurd (misfits_by _ (three x y z) b)
    one_ok f (x ∷ y ∷ z ∷ u ∷ xs) vs h b zero two three go = absurd (misfits s b)

    pub two_ok : (f : Value → Value → Op) (xs : List Shape) (vs : List Value) → Have s xs vs → Row xs
        → of_none o ≡ misfit → ((x : Shape) → of_one s.p.tables o x p ≡ misfit) → ((x y z : Shape) → of_three o x y z ≡ misfit)
        → ((x y : Shape) (v w : Value) → Has s x v → Has s y w → Under s (of_two s.p.tables o x y p) → Sounds s (f v w)) → Sounds s (with_two f vs)
    two_ok f [] vs h b zero one three go = absurd (misfits_by _ zero b)
    two_ok f (x ∷ []) vs h b zero one three go = absurd (misfits_by _ (one x) b)
    two_ok f (x ∷ y ∷ []) vs h b zero one three go = two_values f x y vs h (λ v w i j. go x y v w i j b)
    two_ok f (x ∷ y ∷ z ∷ []) vs h b zero one three go = absurd (misfits_by _ (three x y z) b)
    two_ok f (x ∷ y ∷ z ∷ u ∷ xs) vs h b zero one three go = absurd (misfits s b)
