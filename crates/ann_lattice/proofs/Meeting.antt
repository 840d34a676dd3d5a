-- The sites that meet in a join, one after the other, and what the items of tuples join to.
use Rattle.std.proofs.Common.{◌≡◌, ℕ, zero, suc, ◌-◌, ◌<◌, ◌≤◌, Bool, true, false, List, [], ◌∷◌, ◌++◌, length, map, Option, Some, None, refl, sym, ap, ◌∙◌, arith, subst}
use Rattle.std.specs.Prelude.{◌&&◌, ◌||◌, if◌then◌else◌, nat_le, max}
use Rattle.std.proofs.lemmas.Bool.{leb-true, leb-false, le-leb}
use Rattle.std.proofs.lemmas.List.{append-nil}
use Rattle.rpy_tree.specs.declared.program.ClassInfo.{ClassInfo}
use Rattle.class_desc.specs.Line.{common_base}
use Rattle.ann_element.specs.declared.element.Element.{Element}
use Rattle.ann_lattice.specs.Shape.{Shape, Nothing, NoneOnly, Truth, Num, Str, Tup, Lst, Dct, Inst, Fun, Clash, Shapes, end, more, items, shapes_of, shape, shapes}
use Rattle.ann_lattice.specs.Join.{chain, first, join_inst, is_clash, no_clash, equal_count, depths, conflict, stays, join, joins, all_tied, tied, all_each}
use Rattle.ann_lattice.proofs.Ordered.{no}

inst_tied_by : (o : Option ℕ) (c d : ℕ) (a b n : Bool) → (if is_clash (join_inst o n) then all_tied (Inst c a) (Inst d b) else []) ≡ []
inst_tied_by (Some m) c d a b n = refl
inst_tied_by None c d a b n = refl

pub inst_tied : (k : List ClassInfo) (c d : ℕ) (a b : Bool) → (if is_clash (join_inst (common_base k c d) (a || b)) then all_tied (Inst c a) (Inst d b) else []) ≡ []
inst_tied k c d a b = inst_tied_by (common_base k c d) c d a b (a || b)

pub nothing_tied : (k : List ClassInfo) (y : Shape) → tied k Nothing y ≡ []
nothing_tied k Nothing = refl
nothing_tied k NoneOnly = refl
nothing_tied k (Truth a) = refl
nothing_tied k (Num a) = refl
nothing_tied k (Str a) = refl
nothing_tied k (Tup xs) = refl
nothing_tied k (Lst s a) = refl
nothing_tied k (Dct s a) = refl
nothing_tied k (Inst c a) = refl
nothing_tied k (Fun fs a) = refl
nothing_tied k (Clash None None) = refl
nothing_tied k (Clash None (Some b)) = refl
nothing_tied k (Clash (Some a) None) = refl
nothing_tied k (Clash (Some a) (Some b)) = refl

-- ---- depths

above_by : (b : Bool) (x n : ℕ) → nat_le x n ≡ b → n < x → nat_le x n ≡ false
above_by true x n e lt = absurd (omega (arith, lt, leb-true x n e))
above_by false x n e lt = e

above : (x n : ℕ) → n < x → nat_le x n ≡ false
above x n lt = above_by (nat_le x n) x n refl lt

max_by : (b c : Bool) (x y n : ℕ) → nat_le x n ≡ b → nat_le y n ≡ c → nat_le (max x y) n ≡ (b && c)
max_by true true x y n e d = le-leb (max x y) n (omega (arith, leb-true x n e, leb-true y n d))
max_by true false x y n e d = above (max x y) n (omega (arith, leb-false y n d))
max_by false c x y n e d = above (max x y) n (omega (arith, leb-false x n e))

deep_by : (b : Bool) (d n : ℕ) → 0 < n → nat_le d (n - 1) ≡ b → nat_le (suc d) n ≡ b
deep_by true d n lt e = le-leb (suc d) n (omega (arith, lt, leb-true d (n - 1) e))
deep_by false d n lt e = above (suc d) n (omega (arith, lt, leb-false d (n - 1) e))

pub deeper : (d n : ℕ) → 0 < n → nat_le (suc d) n ≡ nat_le d (n - 1)
deeper d n lt = deep_by (nat_le d (n - 1)) d n lt refl

pub max_within : (x y n : ℕ) → nat_le (max x y) n ≡ (nat_le x n && nat_le y n)
max_within x y n = max_by (nat_le x n) (nat_le y n) x y n refl refl

-- ---- items

pub and_one : (es : List Element) (e : Element) → map shape (es ++ e ∷ []) ≡ map shape es ++ shape e ∷ []
and_one [] e = refl
and_one (d ∷ es) e = ap (λ l. shape d ∷ l) (and_one es e)

again : (xs : Shapes) → shapes_of (items xs) ≡ xs
again end = refl
again (more x xs) = ap (λ l. more x l) (again xs)

pub joined_all : (es : List Element) (xs : Shapes) → map shape es ≡ [] ++ items xs → shapes es ≡ xs
joined_all es xs e = ap shapes_of e ∙ again xs

pub item_count : (es : List Element) → length es ≡ length (items (shapes es))
item_count [] = refl
item_count (e ∷ es) = ap suc (item_count es)

-- ---- tuples

module _ (k : List ClassInfo) (xs ys : Shapes) where
  both : (b c : Bool) → b ≡ true → c ≡ true → (b && c) ≡ true
  both b c e d = ap (λ x. x && c) e ∙ d

  abbrev Keeps : Bool → Type 0
  Keeps b = (no_clash (joins k xs ys) && nat_le (depths (joins k xs ys)) 7) ≡ b

  stays_by : (b : Bool) → equal_count xs ys ≡ true → Keeps b → stays xs ys (joins k xs ys) ≡ b
  stays_by b e d = ap (λ x. x && (no_clash (joins k xs ys) && nat_le (depths (joins k xs ys)) 7)) e ∙ d

  apart_by : equal_count xs ys ≡ false → stays xs ys (joins k xs ys) ≡ false
  apart_by e = ap (λ x. x && (no_clash (joins k xs ys) && nat_le (depths (joins k xs ys)) 7)) e

  pub tuple_stays : equal_count xs ys ≡ true → Keeps true → join k (Tup xs) (Tup ys) ≡ Tup (joins k xs ys)
  tuple_stays e d = ap (λ b. if b then Tup (joins k xs ys) else conflict (Tup xs) (Tup ys)) (stays_by true e d)

  pub tuple_goes : equal_count xs ys ≡ true → Keeps false → join k (Tup xs) (Tup ys) ≡ conflict (Tup xs) (Tup ys)
  tuple_goes e d = ap (λ b. if b then Tup (joins k xs ys) else conflict (Tup xs) (Tup ys)) (stays_by false e d)

  pub tuple_apart : equal_count xs ys ≡ false → join k (Tup xs) (Tup ys) ≡ conflict (Tup xs) (Tup ys)
  tuple_apart e = ap (λ b. if b then Tup (joins k xs ys) else conflict (Tup xs) (Tup ys)) (apart_by e)

  abbrev ties : Bool → Bool → List (ℕ × ℕ)
  ties b c = (if b then all_each k xs ys else []) ++ (if c then [] else all_tied (Tup xs) (Tup ys))

  pub tied_stays : (t : List (ℕ × ℕ)) → equal_count xs ys ≡ true → Keeps true → t ++ tied k (Tup xs) (Tup ys) ≡ t ++ all_each k xs ys
  tied_stays t e d =
      ap (λ b. t ++ ties (equal_count xs ys) b) (stays_by true e d) ∙ ap (λ b. t ++ ties b true) e ∙ ap (λ l. t ++ l) (append-nil (all_each k xs ys))

  pub tied_goes : (t : List (ℕ × ℕ)) → equal_count xs ys ≡ true → Keeps false → t ++ tied k (Tup xs) (Tup ys) ≡ t ++ (all_each k xs ys ++ all_tied (Tup xs) (Tup ys))
  tied_goes t e d = ap (λ b. t ++ ties (equal_count xs ys) b) (stays_by false e d) ∙ ap (λ b. t ++ ties b false) e

  pub tied_apart : (t : List (ℕ × ℕ)) → equal_count xs ys ≡ false → t ++ tied k (Tup xs) (Tup ys) ≡ t ++ all_tied (Tup xs) (Tup ys)
  tied_apart t e = ap (λ b. t ++ ties (equal_count xs ys) b) (apart_by e) ∙ ap (λ b. t ++ ties b false) e
