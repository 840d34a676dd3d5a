-- What is known of the elements of operands and of a result where what a row asks is met.
use Rattle.std.proofs.Common.{◌≡◌, ℕ, Bool, true, false, List, [], ◌∷◌, ◌++◌, map, Some, refl, subst}
use Rattle.std.specs.Prelude.{if◌then◌else◌}
use Rattle.ann_element.specs.declared.element.Element.{Element}
use Rattle.ann_lattice.specs.Assign.{Assignment, Under}
use Rattle.ann_lattice.specs.Kind.{given, misfit, some_clash, some_nothing}
use Rattle.ann_lattice.specs.Order.{Below}
use Rattle.ann_lattice.specs.Row.{counted, fitting, of_none, of_one, of_three, of_two, pieces}
use Rattle.ann_lattice.specs.Shape.{Shape, Nothing, shape}
use Rattle.ann_rules.specs.Asks.{parts}
use Rattle.ann_rules.specs.Program.{Whole}
use Rattle.ann_rules.specs.Rules.{is_unfit, pieces_for}
use Rattle.rpy_meaning.specs.declared.row.RowOp.{RowOp}
use Rattle.rtyper_program.specs.Seen.{element_at}
use Rattle.sound_rows.proofs.Tools.{above_clash, yes}
use Rattle.sound_rows.specs.Sound.{Fits}
use Rattle.typed_rows.specs.Programs.{Typed}
use Rattle.typed_rows.specs.Rows.{AreElements}

module _ (p : Whole) (a : Assignment) (g node : ℕ) (o : RowOp) (xs : List Shape) (z : Shape) (f : Fits p a g o node xs z) where
  abbrev pub Asked : List Shape → Type 0
  Asked ys = Under p.tables.classes a.same ys z

  pub misfits : Below p.tables.classes a.same misfit z → ⊥
  misfits b = above_clash p.tables.classes a.same misfit z b refl f.free

  pub given_so : (b : Bool) (x : Shape) → Below p.tables.classes a.same (given b x) z → (b ≡ true) × Below p.tables.classes a.same x z
  given_so true x h = (refl, h)
  given_so false x h = absurd (misfits h)

  -- of each further part
  abbrev pub OfParts : List Shape → Type 0
  OfParts [] = Unit {0}
  OfParts (q ∷ qs) = Asked (fitting p.tables o xs q) × OfParts qs

  split : (ys zs : List Shape) → Asked (ys ++ zs) → Asked ys × Asked zs
  split [] zs h = (tt, h)
  split (y ∷ ys) zs h = let r = split ys zs h.1 in ((h.0, r.0), r.1)

  fitted : (b c : Bool) (ys : List Shape) → b ≡ false → Asked (if b then [] else if c then misfit ∷ [] else ys) → Asked ys
  fitted true c ys e h = absurd (yes e)
  fitted false true ys e h = absurd (misfits h.0)
  fitted false false ys e h = h

  asked_so : (b : Bool) (ys : List Shape) → Asked (if b then misfit ∷ [] else ys) → Asked ys
  asked_so true ys h = absurd (misfits h.0)
  asked_so false ys h = h

  module _ (some : some_nothing xs ≡ false) where
    of_pieces : (q : Shape) → Asked (pieces p.tables o xs q) → Asked (fitting p.tables o xs q)
    of_pieces q h = fitted (some_nothing xs) (some_clash xs) (fitting p.tables o xs q) some h

    of_each : (qs : List Shape) → Asked (pieces_for p a g o xs qs) → OfParts qs
    of_each [] h = tt
    of_each (q ∷ qs) h = let hs = split (pieces p.tables o xs q) (pieces_for p a g o xs qs) h in (of_pieces q hs.0, of_each qs hs.1)

    both : Asked (fitting p.tables o xs Nothing) × OfParts (parts p a o xs)
    both = of_each (Nothing ∷ parts p a o xs) (asked_so (is_unfit p a g o xs node) (pieces_for p a g o xs (Nothing ∷ parts p a o xs)) f.above)

    pub plain : Asked (fitting p.tables o xs Nothing)
    plain = both.0

    pub of_parts : OfParts (parts p a o xs)
    of_parts = both.1

  -- ---- by how many operands there are

  pub one_shape : of_none o ≡ misfit → ((x y : Shape) → of_two p.tables o x y Nothing ≡ misfit) → ((x y z : Shape) → of_three o x y z ≡ misfit) → (ys : List Shape) → Below p.tables.classes a.same (counted p.tables o ys Nothing) z
      → (x : Shape) × (ys ≡ x ∷ [])
  one_shape zero two three [] b = absurd (misfits (subst (λ q. Below p.tables.classes a.same q z) zero b))
  one_shape zero two three (x ∷ []) b = (x, refl)
  one_shape zero two three (x ∷ y ∷ []) b = absurd (misfits (subst (λ q. Below p.tables.classes a.same q z) (two x y) b))
  one_shape zero two three (x ∷ y ∷ u ∷ []) b = absurd (misfits (subst (λ q. Below p.tables.classes a.same q z) (three x y u) b))
  one_shape zero two three (x ∷ y ∷ u ∷ v ∷ ys) b = absurd (misfits b)

  pub two_shapes : of_none o ≡ misfit → ((x : Shape) → of_one p.tables o x Nothing ≡ misfit) → ((x y z : Shape) → of_three o x y z ≡ misfit) → (ys : List Shape) → Below p.tables.classes a.same (counted p.tables o ys Nothing) z
      → (x : Shape) × ((y : Shape) × (ys ≡ x ∷ y ∷ []))
  two_shapes zero one three [] b = absurd (misfits (subst (λ q. Below p.tables.classes a.same q z) zero b))
  two_shapes zero one three (x ∷ []) b = absurd (misfits (subst (λ q. Below p.tables.classes a.same q z) (one x) b))
  two_shapes zero one three (x ∷ y ∷ []) b = (x, (y, refl))
  two_shapes zero one three (x ∷ y ∷ u ∷ []) b = absurd (misfits (subst (λ q. Below p.tables.classes a.same q z) (three x y u) b))
  two_shapes zero one three (x ∷ y ∷ u ∷ v ∷ ys) b = absurd (misfits b)

-- ---- operands with their elements

pub record OneOperand (t : Typed) (n : ℕ) (args : List ℕ) (es : List Element) (x : Shape) : Type 0 where
  pub v : ℕ
  pub e : Element
  pub args_are : args ≡ v ∷ []
  pub elements_are : es ≡ e ∷ []
  pub at : element_at t.known.annotation n v ≡ Some e
  pub shaped : shape e ≡ x

first_is : {A : Type 0} (x y : A) (xs ys : List A) → x ∷ xs ≡ y ∷ ys → x ≡ y
first_is x y xs ys e = cc

pub one_operand : (t : Typed) (n : ℕ) (args : List ℕ) (es : List Element) (x : Shape) → AreElements t n args es → map shape es ≡ x ∷ [] → OneOperand t n args es x
one_operand t n [] [] x are e = absurd (cc)
one_operand t n [] (c ∷ es) x are e = absurd are
one_operand t n (v ∷ vs) [] x are e = absurd are
one_operand t n (v ∷ []) (c ∷ []) x are e = record { v = v; e = c; args_are = refl; elements_are = refl; at = are.0; shaped = first_is (shape c) x [] [] e }
one_operand t n (v ∷ u ∷ vs) (c ∷ []) x are e = absurd are.1
one_operand t n (v ∷ []) (c ∷ d ∷ es) x are e = absurd are.1
one_operand t n (v ∷ u ∷ vs) (c ∷ d ∷ es) x are e = absurd (cc)

pub record TwoOperands (t : Typed) (n : ℕ) (args : List ℕ) (es : List Element) (x y : Shape) : Type 0 where
  pub v : ℕ
  pub u : ℕ
  pub e : Element
  pub d : Element
  pub args_are : args ≡ v ∷ u ∷ []
  pub elements_are : es ≡ e ∷ d ∷ []
  pub first_at : element_at t.known.annotation n v ≡ Some e
  pub second_at : element_at t.known.annotation n u ≡ Some d
  pub first_shaped : shape e ≡ x
  pub second_shaped : shape d ≡ y

second_is : {A : Type 0} (x y u v : A) (xs ys : List A) → x ∷ u ∷ xs ≡ y ∷ v ∷ ys → u ≡ v
second_is x y u v xs ys e = cc

pub two_operands : (t : Typed) (n : ℕ) (args : List ℕ) (es : List Element) (x y : Shape) → AreElements t n args es → map shape es ≡ x ∷ y ∷ [] → TwoOperands t n args es x y
two_operands t n [] [] x y are e = absurd (cc)
two_operands t n [] (c ∷ es) x y are e = absurd are
two_operands t n (v ∷ vs) [] x y are e = absurd are
two_operands t n (v ∷ vs) (c ∷ []) x y are e = absurd (cc)
two_operands t n (v ∷ []) (c ∷ d ∷ es) x y are e = absurd are.1
two_operands t n (v ∷ u ∷ []) (c ∷ d ∷ []) x y are e = record {
  v = v;
  u = u;
  e = c;
  d = d;
  args_are = refl;
  elements_are = refl;
  first_at = are.0;
  second_at = are.1.0;
  first_shaped = first_is (shape c) x (shape d ∷ []) (y ∷ []) e;
  second_shaped = second_is (shape c) x (shape d) y [] [] e;
}
two_operands t n (v ∷ u ∷ s ∷ vs) (c ∷ d ∷ []) x y are e = absurd are.1.1
two_operands t n (v ∷ u ∷ []) (c ∷ d ∷ b ∷ es) x y are e = absurd are.1.1
two_operands t n (v ∷ u ∷ s ∷ vs) (c ∷ d ∷ b ∷ es) x y are e = absurd (cc)
