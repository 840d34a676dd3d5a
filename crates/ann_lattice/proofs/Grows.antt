-- What is grown by monotone rules is below each assignment that is closed and free.
use Rattle.std.proofs.Common.{◌≡◌, ◌≢◌, ◌<◌, ℕ, Bool, true, false, List, [], ◌∷◌, length, get_or, set, refl, sym, ap, ◌∙◌, arith, subst, ◌⊎◌, inl, inr}
use Rattle.std.specs.Prelude.{nat_lt, if◌then◌else◌}
use Rattle.std.proofs.lemmas.Bool.{ltb-true}
use Rattle.std.proofs.lemmas.List.{get_or-set_same, get_or-set_other, length-set}
use Rattle.rpy_tree.specs.declared.program.ClassInfo.{ClassInfo}
use Rattle.ann_lattice.specs.Shape.{Shape, Nothing}
use Rattle.ann_lattice.specs.Order.{Below}
use Rattle.ann_lattice.specs.Join.{join}
use Rattle.ann_lattice.specs.Laws.{IsTree, IsFormed}
use Rattle.ann_lattice.specs.Assign.{Assignment, at, mark, Less, Need, Up, Set, Under, Holds, raised, raise, meet, Rules, Grown, begin, step, IsTable, Monotone, IsLeast}
use Rattle.ann_lattice.proofs.Joined.{is_join}
use Rattle.ann_lattice.proofs.Tables.{meet_table}

same_number : (c d : ℕ) → (c ≡ d) ⊎ (c ≢ d)
same_number c d = grind arith

module _ (k : List ClassInfo) (tree : IsTree k) where
  raised_cell : (a b : Assignment) (c d : ℕ) (e : Shape) → c < length a.cells → Less k a b → IsFormed (at b c) → Below k b.same e (at b c)
      → (c ≡ d) ⊎ (c ≢ d) → Below k b.same (at (raised k c e a) d) (at b d)
  raised_cell a b c d e lt l f h (inl same) =
      let new : get_or (set a.cells c (join k (at a c) e)) c Nothing ≡ join k (at a c) e = get_or-set_same a.cells c (join k (at a c) e) Nothing lt in
      let up : Below k b.same (join k (at a c) e) (at b c) = (is_join k tree b.same).least b.same (at a c) e (at b c) f (l.cells c) h in
      subst (λ i. Below k b.same (get_or (set a.cells c (join k (at a c) e)) i Nothing) (at b i)) same (subst (λ x. Below k b.same x (at b c)) (sym new) up)
  raised_cell a b c d e lt l f h (inr other) =
      let old : get_or (set a.cells c (join k (at a c) e)) d Nothing ≡ at a d = get_or-set_other a.cells c d (join k (at a c) e) Nothing (λ e. other (sym e)) in
      subst (λ x. Below k b.same x (at b d)) (sym old) (l.cells d)

  raised_less : (a b : Assignment) (c : ℕ) (e : Shape) → c < length a.cells → Less k a b → IsFormed (at b c) → Below k b.same e (at b c) → Less k (raised k c e a) b
  raised_less a b c e lt l f h =
      record {
        same = (is_join k tree a.same).finest b.same l.same (at a c) e (at b c) f (l.cells c) h;
        cells = λ d. raised_cell a b c d e lt l f h (same_number c d);
        marks = l.marks;
      }

  raise_less : (es : List Shape) (a b : Assignment) (c : ℕ) → c < length a.cells → Less k a b → IsFormed (at b c) → Under k b.same es (at b c) → Less k (raise k c es a) b
  raise_less [] a b c lt l f h = l
  raise_less (e ∷ es) a b c lt l f h =
      raise_less es (raised k c e a) b c (omega (arith, lt, length-set a.cells c (join k (at a c) e))) (raised_less a b c e lt l f h.0) f h.1

  raise_cells : (es : List Shape) (a : Assignment) (c : ℕ) → length (raise k c es a).cells ≡ length a.cells
  raise_cells [] a c = refl
  raise_cells (e ∷ es) a c = raise_cells es (raised k c e a) c ∙ length-set a.cells c (join k (at a c) e)

  raise_marks : (es : List Shape) (a : Assignment) (c : ℕ) → length (raise k c es a).marks ≡ length a.marks
  raise_marks [] a c = refl
  raise_marks (e ∷ es) a c = raise_marks es (raised k c e a) c

  set_mark : (a b : Assignment) (m d : ℕ) → m < length a.marks → mark b m ≡ true → (mark a d ≡ true → mark b d ≡ true) → (m ≡ d) ⊎ (m ≢ d)
      → get_or (set a.marks m true) d false ≡ true → mark b d ≡ true
  set_mark a b m d lt h l (inl same) e = sym (ap (mark b) same) ∙ h
  set_mark a b m d lt h l (inr other) e = l (sym (get_or-set_other a.marks m d true false (λ i. other (sym i))) ∙ e)

  up_by : (t : Bool) (es : List Shape) (a b : Assignment) (c : ℕ) → nat_lt c (length a.cells) ≡ t → length b.cells ≡ length a.cells → Less k a b → IsFormed (at b c)
      → Holds k b (Up c es) → Less k (if t then raise k c es a else a) b
  up_by true es a b c e n l f h = let lt : c < length a.cells = ltb-true c (length a.cells) e in raise_less es a b c lt l f (h (omega (arith, lt, n)))
  up_by false es a b c e n l f h = l

  set_by : (t : Bool) (a b : Assignment) (m : ℕ) → nat_lt m (length a.marks) ≡ t → length b.marks ≡ length a.marks → Less k a b → Holds k b (Set m)
      → Less k (if t then record { cells = a.cells; marks = set a.marks m true; same = a.same } else a) b
  set_by true a b m e n l h =
      let lt : m < length a.marks = ltb-true m (length a.marks) e in
      record { same = l.same; cells = l.cells; marks = λ d. set_mark a b m d lt (h (omega (arith, lt, n))) (l.marks d) (same_number m d) }
  set_by false a b m e n l h = l

  meet_less : (q : Need) (a b : Assignment) → length b.cells ≡ length a.cells → length b.marks ≡ length a.marks → Less k a b → ((c : ℕ) → IsFormed (at b c)) → Holds k b q
      → Less k (meet k q a) b
  meet_less (Up c es) a b n m l f h = up_by (nat_lt c (length a.cells)) es a b c refl n l (f c) h
  meet_less (Set i) a b n m l f h = set_by (nat_lt i (length a.marks)) a b i refl m l h

  cells_by : (t : Bool) (es : List Shape) (a : Assignment) (c : ℕ) → length (if t then raise k c es a else a).cells ≡ length a.cells
  cells_by true es a c = raise_cells es a c
  cells_by false es a c = refl

  marks_by : (t : Bool) (es : List Shape) (a : Assignment) (c : ℕ) → length (if t then raise k c es a else a).marks ≡ length a.marks
  marks_by true es a c = raise_marks es a c
  marks_by false es a c = refl

  set_cells : (t : Bool) (a : Assignment) (m : ℕ) → length (if t then record { cells = a.cells; marks = set a.marks m true; same = a.same } else a).cells ≡ length a.cells
  set_cells true a m = refl
  set_cells false a m = refl

  set_marks : (t : Bool) (a : Assignment) (m : ℕ) → length (if t then record { cells = a.cells; marks = set a.marks m true; same = a.same } else a).marks ≡ length a.marks
  set_marks true a m = length-set a.marks m true
  set_marks false a m = refl

  meet_cells : (q : Need) (a : Assignment) → length (meet k q a).cells ≡ length a.cells
  meet_cells (Up c es) a = cells_by (nat_lt c (length a.cells)) es a c
  meet_cells (Set m) a = set_cells (nat_lt m (length a.marks)) a m

  meet_marks : (q : Need) (a : Assignment) → length (meet k q a).marks ≡ length a.marks
  meet_marks (Up c es) a = marks_by (nat_lt c (length a.cells)) es a c
  meet_marks (Set m) a = set_marks (nat_lt m (length a.marks)) a m

  module _ (rules : Rules) (start : Assignment) where
    grown_cells : (a : Assignment) → Grown k rules start a → length a.cells ≡ length start.cells
    grown_cells _ begin = refl
    grown_cells _ (step a r g) = meet_cells (rules r a) a ∙ grown_cells a g

    grown_marks : (a : Assignment) → Grown k rules start a → length a.marks ≡ length start.marks
    grown_marks _ begin = refl
    grown_marks _ (step a r g) = meet_marks (rules r a) a ∙ grown_marks a g

    grown_table : IsTable (length start.same) start.same → (a : Assignment) → Grown k rules start a → IsTable (length start.same) a.same
    grown_table t _ begin = t
    grown_table t _ (step a r g) = meet_table (length start.same) k (rules r a) a (grown_table t a g)

    grown_less : (spots : ℕ → Bool) → IsTable (length start.same) start.same → Monotone k rules spots start → (a : Assignment) → Grown k rules start a → IsLeast k rules spots start a
    grown_less spots t mono _ begin b fits closed free = fits.above
    grown_less spots t mono _ (step a r g) b fits closed free =
        let l = grown_less spots t mono a g b fits closed free in
        meet_less (rules r a) a b (fits.cells ∙ sym (grown_cells a g)) (fits.marks ∙ sym (grown_marks a g)) l fits.formed (mono r a b (grown_table t a g) l fits closed free)

pub grown_is_least : (k : List ClassInfo) → IsTree k → (rules : Rules) (spots : ℕ → Bool) (start : Assignment) → IsTable (length start.same) start.same
    → Monotone k rules spots start → (a : Assignment) → Grown k rules start a → IsLeast k rules spots start a
grown_is_least k tree rules spots start t mono a g = grown_less k tree rules start spots t mono a g
