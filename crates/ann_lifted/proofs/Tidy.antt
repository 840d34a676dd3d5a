-- Elements that are not well-formed count as unreached: nothing that is reached passes to them.
use Rattle.std.proofs.Common.{◌≡◌, ℕ, Bool, true, false, List, [], ◌∷◌, map, refl, ap, ◌∙◌, arith, subst, sym}
use Rattle.std.specs.Prelude.{◌&&◌, ◌||◌, nat_le, if◌then◌else◌}
use Rattle.std.proofs.lemmas.Bool.{false≢true, leb-true, le-leb}
use Rattle.rpy_tree.specs.declared.program.ClassInfo.{ClassInfo}
use Rattle.ann_lattice.specs.Shape.{Shape, Nothing, Inst}
use Rattle.ann_lattice.specs.Order.{Below, least}
use Rattle.ann_lattice.specs.Join.{depth, is_clash}
use Rattle.ann_lattice.specs.Kind.{is_nothing, some_nothing}
use Rattle.ann_lattice.specs.Laws.{IsFormed, is_sound}
use Rattle.ann_lattice.proofs.Ordered.{and_left, and_right}
use Rattle.ann_tree.specs.Annotation.{Passes}
use Rattle.ann_tree.specs.Gives.{AreFormed}
use Rattle.ann_lift.specs.Spots.{Spot}

abbrev pub formed : Shape → Bool
formed x = is_sound x && nat_le (depth x) 8

pub formed_yes : (x : Shape) → formed x ≡ true → IsFormed x
formed_yes x h = record { sound = and_left (is_sound x) (nat_le (depth x) 8) h; shallow = leb-true (depth x) 8 (and_right (is_sound x) (nat_le (depth x) 8) h) }

both : (b c : Bool) → b ≡ true → c ≡ true → (b && c) ≡ true
both b c g h = ap (λ x. x && c) g ∙ h

pub formed_no : (x : Shape) → IsFormed x → formed x ≡ true
formed_no x h = both (is_sound x) (nat_le (depth x) 8) h.sound (le-leb (depth x) 8 h.shallow)

abbrev pub tidy : Shape → Shape
tidy x = if formed x then x else Nothing

-- by whether it is well-formed
pub by_form : (P : Shape → Type 0) (x : Shape) → (IsFormed x → P x) → (formed x ≡ false → P Nothing) → P (tidy x)
by_form P x well other = by (formed x) refl
  where
    by : (b : Bool) → formed x ≡ b → P (if b then x else Nothing)
    by true h = well (formed_yes x h)
    by false h = other h

pub nothing_formed : IsFormed Nothing
nothing_formed = record { sound = refl; shallow = omega arith }

pub inst_formed : (c : ℕ) → IsFormed (Inst c false)
inst_formed c = record { sound = refl; shallow = omega arith }

pub tidy_formed : (x : Shape) → IsFormed (tidy x)
tidy_formed x = by_form IsFormed x (λ h. h) (λ h. nothing_formed)

pub tidy_is : (x : Shape) → IsFormed x → tidy x ≡ x
tidy_is x h = ap (λ b. if b then x else Nothing) (formed_no x h)

pub tidy_nothing : (x : Shape) → formed x ≡ false → tidy x ≡ Nothing
tidy_nothing x h = ap (λ b. if b then x else Nothing) h

pub tidy_passes : (k : List ClassInfo) (t : List ℕ) (x y : Shape) → Passes k t x y → Below k t (tidy x) (tidy y)
tidy_passes k t x y h = by_form (λ z. Below k t z (tidy y)) x (λ f. subst (λ z. Below k t x z) (sym (tidy_is y (h.1 f))) h.0) (λ f. least (tidy y))

pub tidy_below : (k : List ClassInfo) (t : List ℕ) (x y : Shape) → Below k t x y → Below k t (tidy x) y
tidy_below k t x y h = by_form (λ z. Below k t z y) x (λ f. h) (λ f. least y)

pub tidy_free : (x : Shape) → is_clash x ≡ false → is_clash (tidy x) ≡ false
tidy_free x h = by_form (λ z. is_clash z ≡ false) x (λ f. h) (λ f. refl)

-- what stands at a block
abbrev pub tidied : Spot → Spot
tidied s = record { reached = s.reached; element = λ j. tidy (s.element j); unbound = s.unbound }

-- operands of which none is unreached are well-formed, and stay as they are
no_nothing : (b c : Bool) → (b || c) ≡ false → b ≡ false
no_nothing false c h = refl
no_nothing true c h = absurd (false≢true (sym h))

nor_nothing : (b c : Bool) → (b || c) ≡ false → c ≡ false
nor_nothing false c h = h
nor_nothing true c h = absurd (false≢true (sym h))

module _ (s : Spot) where
  one_formed : (x : Shape) → is_nothing (tidy x) ≡ false → IsFormed x
  one_formed x some = by (formed x) refl
    where
      by : (b : Bool) → formed x ≡ b → IsFormed x
      by true h = formed_yes x h
      by false h = absurd (false≢true (sym (ap is_nothing (sym (tidy_nothing x h)) ∙ some)))

  pub all_formed : (args : List ℕ) → some_nothing (map (tidied s).element args) ≡ false → AreFormed (map s.element args)
  all_formed [] some = tt
  all_formed (i ∷ args) some = (
    one_formed (s.element i) (no_nothing (is_nothing (tidy (s.element i))) (some_nothing (map (tidied s).element args)) some),
    all_formed args (nor_nothing (is_nothing (tidy (s.element i))) (some_nothing (map (tidied s).element args)) some),
  )

  pub same_operands : (args : List ℕ) → AreFormed (map s.element args) → map (tidied s).element args ≡ map s.element args
  same_operands [] f = refl
  same_operands (i ∷ args) f = λ j. tidy_is (s.element i) f.0 j ∷ same_operands args f.1 j
