-- One need that is asked is met: a step.
use Rattle.std.proofs.Common.{◌≡◌, ℕ, zero, suc, Bool, true, false, List, [], ◌∷◌, length, get_or, set, Some, None, refl, sym, ap, ◌∙◌, subst, ◌⊎◌, inl, inr, ◌≢◌, arith}
use Rattle.std.specs.Prelude.{nat_lt, if◌then◌else◌, ◌&&◌, is_some, unwrap_or}
use Rattle.std.proofs.lemmas.List.{length-set, get_or-set_other}
use Rattle.rpy_tree.specs.declared.program.ClassInfo.{ClassInfo}
use Rattle.ann_lattice.specs.Shape.{Shape, Nothing}
use Rattle.ann_lattice.specs.Join.{join, is_clash}
use Rattle.ann_lattice.specs.Assign.{Assignment, at, Need, Up, Set, raised, raise, meet, Grown, begin, step, Fits, Free, IsTable}
use Rattle.ann_lattice.proofs.Tables.{meet_table}
use Rattle.ann_laws.proofs.Calls.{above_clash}
use Rattle.ann_laws.proofs.Pairs.{no}
use Rattle.ann_rules.specs.Program.{Whole}
use Rattle.ann_rules.specs.Rules.{needs, rules, no_need}
use Rattle.ann_rules.proofs.Mono.{grown_by_rules}
use Rattle.ann_grown.proofs.Forming.{grown_above, grown_formed}
use Rattle.ann_grown.specs.Partial.{Basis, IsPartial, NoneFree, IsOne, IsAsked, IsFirst, clash_at, Keeps, Meets}

same_number : (c d : ℕ) → (c ≡ d) ⊎ (c ≢ d)
same_number c d = grind arith

-- ---- one need

module _ (k : List ClassInfo) where
  raise_cells : (es : List Shape) (a : Assignment) (c : ℕ) → length (raise k c es a).cells ≡ length a.cells
  raise_cells [] a c = refl
  raise_cells (e ∷ es) a c = raise_cells es (raised k c e a) c ∙ length-set a.cells c (join k (at a c) e)

  raise_marks : (es : List Shape) (a : Assignment) (c : ℕ) → length (raise k c es a).marks ≡ length a.marks
  raise_marks [] a c = refl
  raise_marks (e ∷ es) a c = raise_marks es (raised k c e a) c

  up_cells : (b : Bool) (es : List Shape) (a : Assignment) (c : ℕ) → length (if b then raise k c es a else a).cells ≡ length a.cells
  up_cells true es a c = raise_cells es a c
  up_cells false es a c = refl

  up_marks : (b : Bool) (es : List Shape) (a : Assignment) (c : ℕ) → length (if b then raise k c es a else a).marks ≡ length a.marks
  up_marks true es a c = raise_marks es a c
  up_marks false es a c = refl

  set_cells : (b : Bool) (a : Assignment) (m : ℕ) → (if b then record { cells = a.cells; marks = set a.marks m true; same = a.same } else a).cells ≡ a.cells
  set_cells true a m = refl
  set_cells false a m = refl

  set_marks : (b : Bool) (a : Assignment) (m : ℕ) → length (if b then record { cells = a.cells; marks = set a.marks m true; same = a.same } else a).marks ≡ length a.marks
  set_marks true a m = length-set a.marks m true
  set_marks false a m = refl

  meet_cells : (q : Need) (a : Assignment) → length (meet k q a).cells ≡ length a.cells
  meet_cells (Up c es) a = up_cells (nat_lt c (length a.cells)) es a c
  meet_cells (Set m) a = ap length (set_cells (nat_lt m (length a.marks)) a m)

  meet_marks : (q : Need) (a : Assignment) → length (meet k q a).marks ≡ length a.marks
  meet_marks (Up c es) a = up_marks (nat_lt c (length a.cells)) es a c
  meet_marks (Set m) a = set_marks (nat_lt m (length a.marks)) a m

  -- ---- the other cells are as they were

  raise_other : (es : List Shape) (a : Assignment) (c d : ℕ) → d ≢ c → at (raise k c es a) d ≡ at a d
  raise_other [] a c d other = refl
  raise_other (e ∷ es) a c d other = raise_other es (raised k c e a) c d other ∙ get_or-set_other a.cells c d (join k (at a c) e) Nothing other

  up_other : (b : Bool) (es : List Shape) (a : Assignment) (c d : ℕ) → d ≢ c → at (if b then raise k c es a else a) d ≡ at a d
  up_other true es a c d other = raise_other es a c d other
  up_other false es a c d other = refl

  pub meet_other : (es : List Shape) (a : Assignment) (c d : ℕ) → d ≢ c → at (meet k (Up c es) a) d ≡ at a d
  meet_other es a c d other = up_other (nat_lt c (length a.cells)) es a c d other

-- ---- a step without conflict

and_no : (a b : Bool) → a ≡ true → (a && b) ≡ false → b ≡ false
and_no true b h e = e
and_no false b h e = absurd (no h)

and_left : (a b : Bool) → (a && b) ≡ true → a ≡ true
and_left true b e = refl
and_left false b e = e

and_right : (a b : Bool) → (a && b) ≡ true → b ≡ true
and_right true b e = e
and_right false b e = absurd (no e)

found_not : (b : Bool) (c : ℕ) → (if b then Some c else None) ≡ None → b ≡ false
found_not true c e = absurd (no (sym (ap is_some e)))
found_not false c e = refl

found_so : (b : Bool) (c d : ℕ) → (if b then Some c else None) ≡ Some d → b ≡ true
found_so true c d e = refl
found_so false c d e = absurd (no (ap is_some e))

found_it : (b : Bool) (c d : ℕ) → (if b then Some c else None) ≡ Some d → c ≡ d
found_it true c d e = ap (λ o. unwrap_or o c) e
found_it false c d e = absurd (no (ap is_some e))

module _ (k : List ClassInfo) (spots : ℕ → Bool) where
  pub free_on : (n : Need) (a : Assignment) → clash_at spots (meet k n a) n ≡ None → Free spots a → Free spots (meet k n a)
  free_on (Up c es) a e free d h = by_cell (same_number d c)
    where
      by_cell : (d ≡ c) ⊎ (d ≢ c) → is_clash (at (meet k (Up c es) a) d) ≡ false
      by_cell (inl i) =
          ap (λ j. is_clash (at (meet k (Up c es) a) j)) i
          ∙ and_no (spots c) (is_clash (at (meet k (Up c es) a) c)) (ap spots (sym i) ∙ h) (found_not (spots c && is_clash (at (meet k (Up c es) a) c)) c e)
      by_cell (inr other) = ap is_clash (meet_other k es a c d other) ∙ free d h
  free_on (Set m) a e free d h = ap (λ cells. is_clash (get_or cells d Nothing)) (set_cells k (nat_lt m (length a.marks)) a m) ∙ free d h

  pub spot_of : (n : Need) (a : Assignment) (c : ℕ) → clash_at spots a n ≡ Some c → spots c ≡ true
  spot_of (Up d es) a c e =
      ap spots (sym (found_it (spots d && is_clash (at a d)) d c e))
      ∙ and_left (spots d) (is_clash (at a d)) (found_so (spots d && is_clash (at a d)) d c e)
  spot_of (Set m) a c e = absurd (no (ap is_some e))

  pub clash_of : (n : Need) (a : Assignment) (c : ℕ) → clash_at spots a n ≡ Some c → is_clash (at a c) ≡ true
  clash_of (Up d es) a c e =
      ap (λ j. is_clash (at a j)) (sym (found_it (spots d && is_clash (at a d)) d c e))
      ∙ and_right (spots d) (is_clash (at a d)) (found_so (spots d && is_clash (at a d)) d c e)
  clash_of (Set m) a c e = absurd (no (ap is_some e))

-- ---- by its number

record Numbered (n : Need) (ns : List Need) : Type 0 where
  number : ℕ
  is : get_or ns number no_need ≡ n

numbered : (n : Need) (ns : List Need) → IsOne n ns → Numbered n ns
numbered n [] h = absurd h
numbered n (m ∷ ms) (inl e) = record { number = zero; is = e }
numbered n (m ∷ ms) (inr h) = let q = numbered n ms h in record { number = suc q.number; is = q.is }

module _ (p : Whole) (spots : ℕ → Bool) (a : Assignment) (n : Need) (asked : IsAsked p a n) where
  abbrev k : List ClassInfo
  k = p.tables.classes

  by_number : Numbered n (needs p a)
  by_number = numbered n (needs p a) asked

  pub asked_step : (Free spots a → Free spots (meet k n a)) → Keeps p spots a (meet k n a)
  asked_step free start h = record {
    grown = subst (λ m. Grown k (rules p) start (meet k m a)) by_number.is (step a by_number.number h.grown);
    free = free h.free;
  }

  pub kept : clash_at spots (meet k n a) n ≡ None → Keeps p spots a (meet k n a)
  kept e = asked_step (free_on k spots n a e)

  pub met : (c : ℕ) → clash_at spots (meet k n a) n ≡ Some c → Meets p spots a (meet k n a) c
  met c e start h = record {
    before = a;
    grown = h;
    rule = by_number.number;
    step = ap (λ m. meet k m a) (sym by_number.is);
    spot = spot_of k spots n (meet k n a) c e;
    clash = clash_of k spots n (meet k n a) c e;
  }

-- ---- all that is grown

module _ (p : Whole) (start : Assignment) where
  abbrev all : List ClassInfo
  all = p.tables.classes

  pub grown_cells : (a : Assignment) → Grown all (rules p) start a → length a.cells ≡ length start.cells
  grown_cells _ begin = refl
  grown_cells _ (step a r g) = meet_cells all (rules p r a) a ∙ grown_cells a g

  grown_marks : (a : Assignment) → Grown all (rules p) start a → length a.marks ≡ length start.marks
  grown_marks _ begin = refl
  grown_marks _ (step a r g) = meet_marks all (rules p r a) a ∙ grown_marks a g

  grown_table : IsTable (length start.same) start.same → (a : Assignment) → Grown all (rules p) start a → IsTable (length start.same) a.same
  grown_table t _ begin = t
  grown_table t _ (step a r g) = meet_table (length start.same) all (rules p r a) a (grown_table t a g)

pub partial_grown : (p : Whole) (spots : ℕ → Bool) (start a : Assignment) → Basis p spots start → Grown p.tables.classes (rules p) start a → IsPartial p spots start a
partial_grown p spots start a basis g = record {
  cells = grown_cells p start a g;
  marks = grown_marks p start a g;
  table = grown_table p start basis.table a g;
  above = grown_above p spots start basis a g;
  formed = grown_formed p spots start basis a g;
  least = grown_by_rules p basis.classes spots start basis.placed basis.table a g;
}

-- and where it is free of conflict
pub fits_grown : (p : Whole) (spots : ℕ → Bool) (start a : Assignment) → IsPartial p spots start a → Free spots a → Fits p.tables.classes start a
fits_grown p spots start a h free = record { cells = h.cells; marks = h.marks; table = h.table; above = h.above; formed = h.formed free }

-- and where it is the first conflict
pub partial_first : (p : Whole) (spots : ℕ → Bool) (start a : Assignment) (c : ℕ) → Basis p spots start → IsFirst p spots start a c → IsPartial p spots start a
partial_first p spots start a c basis f =
    subst (IsPartial p spots start) (sym f.step) (partial_grown p spots start (meet p.tables.classes (rules p f.rule f.before) f.before) basis (step f.before f.rule f.grown.grown))

-- ---- a conflict

clashes : (b : Bool) → (b ≡ false → b ≡ true → ⊥)
clashes true e f = no (sym e)
clashes false e f = no f

pub none_free : (p : Whole) (spots : ℕ → Bool) (start a : Assignment) → IsPartial p spots start a → (c : ℕ) → spots c ≡ true → is_clash (at a c) ≡ true → NoneFree p spots start
none_free p spots start a h c e i b fits closed free =
    clashes (is_clash (at a c)) (above_clash p.tables.classes b.same (at a c) (at b c) (free c e) ((h.least b fits closed free).cells c)) i
