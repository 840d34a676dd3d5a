-- What grows is above the start, and well-formed as long as no item and no key is in conflict.
use Rattle.std.proofs.Common.{◌≡◌, ◌<◌, ℕ, zero, suc, Bool, true, false, List, [], ◌∷◌, length, get_or, set, refl, sym, ap, ◌∙◌, subst, ◌⊎◌, inl, inr, ◌≢◌, arith}
use Rattle.std.specs.Prelude.{nat_lt, if◌then◌else◌}
use Rattle.std.proofs.lemmas.Bool.{ltb-true}
use Rattle.std.proofs.lemmas.List.{length-set, get_or-set_same, get_or-set_other}
use Rattle.rpy_tree.specs.declared.program.ClassInfo.{ClassInfo}
use Rattle.ann_lattice.specs.Shape.{Shape, Nothing}
use Rattle.ann_lattice.specs.Order.{Below}
use Rattle.ann_lattice.specs.Join.{join}
use Rattle.ann_lattice.specs.Laws.{IsTree, IsFormed}
use Rattle.ann_lattice.specs.Assign.{Assignment, at, mark, Less, Need, Up, Set, raised, raise, meet, Grown, begin, step, Free}
use Rattle.ann_lattice.proofs.Sites.{within_self, within_on}
use Rattle.ann_lattice.proofs.Ordered.{is_order}
use Rattle.ann_lattice.proofs.Joined.{is_join}
use Rattle.ann_laws.proofs.Calls.{above_clash}
use Rattle.ann_rules.specs.Program.{Whole}
use Rattle.ann_rules.specs.Rules.{needs, rules, no_need}
use Rattle.ann_formed.specs.Formed.{AllFormed, IsFormedNeed, AreFormedNeeds}
use Rattle.ann_formed.proofs.Needing.{needs_well}
use Rattle.ann_grown.specs.Partial.{Basis}

same_number : (c d : ℕ) → (c ≡ d) ⊎ (c ≢ d)
same_number c d = grind arith

abbrev AreFormed : Assignment → Type 0
AreFormed a = (c : ℕ) → IsFormed (at a c)

module _ (k : List ClassInfo) (tree : IsTree k) where
  -- ---- a step goes up

  less_self : (a : Assignment) → Less k a a
  less_self a = record { same = within_self a.same; cells = λ c. (is_order k tree a.same).itself (at a c); marks = λ m e. e }

  less_on : (a b c : Assignment) → Less k a b → Less k b c → Less k a c
  less_on a b c f g = record {
    same = within_on f.same g.same;
    cells = λ d. (is_order k tree c.same).onward (at a d) (at b d) (at c d) ((is_order k tree b.same).wider c.same g.same (at a d) (at b d) (f.cells d)) (g.cells d);
    marks = λ m e. g.marks m (f.marks m e);
  }

  raised_cell : (a : Assignment) (c d : ℕ) (e : Shape) → c < length a.cells → (d ≡ c) ⊎ (d ≢ c) → Below k (raised k c e a).same (at a d) (at (raised k c e a) d)
  raised_cell a c d e lt (inl same) =
      let u : List ℕ = (raised k c e a).same in
      let new : at (raised k c e a) c ≡ join k (at a c) e = get_or-set_same a.cells c (join k (at a c) e) Nothing lt in
      subst (λ i. Below k u (at a i) (at (raised k c e a) i)) (sym same) (subst (λ x. Below k u (at a c) x) (sym new) ((is_join k tree a.same).left (at a c) e))
  raised_cell a c d e lt (inr other) =
      let u : List ℕ = (raised k c e a).same in
      subst (λ x. Below k u (at a d) x) (sym (get_or-set_other a.cells c d (join k (at a c) e) Nothing other)) ((is_order k tree u).itself (at a d))

  raised_above : (a : Assignment) (c : ℕ) (e : Shape) → c < length a.cells → Less k a (raised k c e a)
  raised_above a c e lt = record {
    same = (is_join k tree a.same).finer (at a c) e;
    cells = λ d. raised_cell a c d e lt (same_number d c);
    marks = λ m h. h;
  }

  raise_above : (es : List Shape) (a : Assignment) (c : ℕ) → c < length a.cells → Less k a (raise k c es a)
  raise_above [] a c lt = less_self a
  raise_above (e ∷ es) a c lt =
      less_on a (raised k c e a) (raise k c es (raised k c e a)) (raised_above a c e lt)
      (raise_above es (raised k c e a) c (omega (arith, lt, length-set a.cells c (join k (at a c) e))))

  up_above : (b : Bool) (es : List Shape) (a : Assignment) (c : ℕ) → nat_lt c (length a.cells) ≡ b → Less k a (if b then raise k c es a else a)
  up_above true es a c e = raise_above es a c (ltb-true c (length a.cells) e)
  up_above false es a c e = less_self a

  set_mark : (a : Assignment) (m d : ℕ) → m < length a.marks → mark a d ≡ true → (d ≡ m) ⊎ (d ≢ m) → get_or (set a.marks m true) d false ≡ true
  set_mark a m d lt e (inl same) = ap (λ i. get_or (set a.marks m true) i false) same ∙ get_or-set_same a.marks m true false lt
  set_mark a m d lt e (inr other) = get_or-set_other a.marks m d true false other ∙ e

  set_above : (b : Bool) (a : Assignment) (m : ℕ) → nat_lt m (length a.marks) ≡ b → Less k a (if b then record { cells = a.cells; marks = set a.marks m true; same = a.same } else a)
  set_above true a m e = record {
    same = within_self a.same;
    cells = λ c. (is_order k tree a.same).itself (at a c);
    marks = λ d h. set_mark a m d (ltb-true m (length a.marks) e) h (same_number d m);
  }
  set_above false a m e = less_self a

  pub meet_above : (n : Need) (a : Assignment) → Less k a (meet k n a)
  meet_above (Up c es) a = up_above (nat_lt c (length a.cells)) es a c refl
  meet_above (Set m) a = set_above (nat_lt m (length a.marks)) a m refl

  -- ---- a step with well-formed elements

  raised_formed : (a : Assignment) (c d : ℕ) (e : Shape) → c < length a.cells → AreFormed a → IsFormed e → (d ≡ c) ⊎ (d ≢ c) → IsFormed (at (raised k c e a) d)
  raised_formed a c d e lt f h (inl same) =
      let new : at (raised k c e a) c ≡ join k (at a c) e = get_or-set_same a.cells c (join k (at a c) e) Nothing lt in
      subst (λ i. IsFormed (at (raised k c e a) i)) (sym same) (subst IsFormed (sym new) ((is_join k tree a.same).formed (at a c) e (f c) h))
  raised_formed a c d e lt f h (inr other) = subst IsFormed (sym (get_or-set_other a.cells c d (join k (at a c) e) Nothing other)) (f d)

  raise_formed : (es : List Shape) (a : Assignment) (c : ℕ) → c < length a.cells → AreFormed a → AllFormed es → AreFormed (raise k c es a)
  raise_formed [] a c lt f h = f
  raise_formed (e ∷ es) a c lt f h =
      raise_formed es (raised k c e a) c (omega (arith, lt, length-set a.cells c (join k (at a c) e))) (λ d. raised_formed a c d e lt f h.0 (same_number d c)) h.1

  up_formed : (b : Bool) (es : List Shape) (a : Assignment) (c : ℕ) → nat_lt c (length a.cells) ≡ b → AreFormed a → AllFormed es → AreFormed (if b then raise k c es a else a)
  up_formed true es a c e f h = raise_formed es a c (ltb-true c (length a.cells) e) f h
  up_formed false es a c e f h = f

  set_formed : (b : Bool) (a : Assignment) (m : ℕ) → AreFormed a → AreFormed (if b then record { cells = a.cells; marks = set a.marks m true; same = a.same } else a)
  set_formed true a m f = f
  set_formed false a m f = f

  pub meet_formed : (n : Need) (a : Assignment) → AreFormed a → IsFormedNeed n → AreFormed (meet k n a)
  meet_formed (Up c es) a f h = up_formed (nat_lt c (length a.cells)) es a c refl f h
  meet_formed (Set m) a f h = set_formed (nat_lt m (length a.marks)) a m f

-- ---- all that is grown

need_formed : (ns : List Need) (r : ℕ) → AreFormedNeeds ns → IsFormedNeed (get_or ns r no_need)
need_formed [] r h = tt
need_formed (n ∷ ns) zero h = h.0
need_formed (n ∷ ns) (suc r) h = need_formed ns r h.1

module _ (p : Whole) (spots : ℕ → Bool) (start : Assignment) (basis : Basis p spots start) where
  abbrev k : List ClassInfo
  k = p.tables.classes

  abbrev tree : IsTree k
  tree = basis.classes.tree

  pub grown_above : (a : Assignment) → Grown k (rules p) start a → Less k start a
  grown_above _ begin = less_self k tree start
  grown_above _ (step a r g) = less_on k tree start a (meet k (rules p r a) a) (grown_above a g) (meet_above k tree (rules p r a) a)

  -- a conflict stays
  free_before : (n : Need) (a : Assignment) → Free spots (meet k n a) → Free spots a
  free_before n a free c e = let l = meet_above k tree n a in above_clash k (meet k n a).same (at a c) (at (meet k n a) c) (free c e) (l.cells c)

  pub grown_formed : (a : Assignment) → Grown k (rules p) start a → Free spots a → AreFormed a
  grown_formed _ begin free = basis.formed
  grown_formed _ (step a r g) free =
      let before : Free spots a = free_before (rules p r a) a free in
      let f : AreFormed a = grown_formed a g before in
      let asked = needs_well p a (record { cells = f; items = λ s. before (p.places.item s) (basis.placed.item_spots s); keys = λ s. before (p.places.key s) (basis.placed.key_spots s) }) in
      meet_formed k tree (rules p r a) a f (need_formed (needs p a) r asked)
