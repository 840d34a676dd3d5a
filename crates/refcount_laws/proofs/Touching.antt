-- Memory that is touched only where blocks are there.
use Rattle.std.proofs.Common.{◌≡◌, ◌≢◌, ◌⊎◌, ⊎_elim, ℕ, zero, suc, ◌<◌, ◌≤◌, List, [], ◌∷◌, length, Option, Some, None, refl, sym, ap, ◌∙◌, subst, arith}
use Rattle.std.specs.Prelude.{slice_set}
use Rattle.csub_tree.specs.State.{Block}
use Rattle.refcount_laws.specs.Graphs.{Counts}
use Rattle.refcount_laws.specs.Ghost.{Slot, S, no_slot, count_of, shown, slot_at, count}
use Rattle.refcount_laws.specs.Touched.{block_in, Shows, Touched, Shown}
use Rattle.refcount_laws.proofs.Cells.{set_here, set_other, set_length}
use Rattle.refcount_laws.proofs.Ghosts.{inside}

pub is_or_not : (a b : ℕ) → (a ≡ b) ⊎ (a ≢ b)
is_or_not a b = grind arith

pub none_or_some : (n : ℕ) → (n ≡ 0) ⊎ (0 < n)
none_or_some n = grind arith

pub set_twice : {A : Type 0} (xs : List A) (a : ℕ) (x y : A) → slice_set (slice_set xs a x) a y ≡ slice_set xs a y
set_twice [] a x y = refl
set_twice (z ∷ xs) zero x y = refl
set_twice (z ∷ xs) (suc a) x y = ap (λ l. z ∷ l) (set_twice xs a x y)

pub there_inside : (h : List (Option Block)) (a : ℕ) (block : Block) → block_in h a ≡ Some block → a < length h
there_inside [] a block e = absurd (cc)
there_inside (x ∷ h) zero block e = omega arith
there_inside (x ∷ h) (suc a) block e = omega (arith, there_inside h a block e)

module _ (c : Counts) where
  pub gone_shown : (d : Slot) → count_of d ≡ 0 → shown c d ≡ None
  gone_shown (S zero kind fields items) e = refl
  gone_shown (S (suc n) kind fields items) e = absurd (omega (arith, e))

  pub shows_after : (g g' : List Slot) (h h' : List (Option Block)) → Touched c g g' h h' → Shows c h' g'
  shows_after g g' h h' t = record { at = λ a lt. t.live a (omega (arith, t.less a)) }

  pub untouched : (g : List Slot) (h : List (Option Block)) → Shows c h g → Touched c g g h h
  untouched g h sh = record { dead = λ a z. refl; live = λ a lt. sh.at a lt; size = refl; less = λ a. omega arith }

  pub touched_on : (g g1 g2 : List Slot) (h h1 h2 : List (Option Block)) → Touched c g g1 h h1 → Touched c g1 g2 h1 h2 → Touched c g g2 h h2
  touched_on g g1 g2 h h1 h2 x y = record {
    dead = λ a e. y.dead a (omega (arith, x.less a)) ∙ x.dead a e;
    live = λ a lt.
        ⊎_elim
        (λ z. let z2 : count g2 a ≡ 0 = omega (arith, y.less a) in y.dead a z ∙ x.live a lt ∙ gone_shown (slot_at g1 a) z ∙ sym (gone_shown (slot_at g2 a) z2))
        (λ n. y.live a n) (none_or_some (count g1 a));
    size = y.size ∙ x.size;
    less = λ a. omega (arith, x.less a, y.less a);
  }

  -- one block that is there changes, or goes
  pub touched_one : (g : List Slot) (h : List (Option Block)) (a : ℕ) (d : Slot) (block : Block) → Shows c h g → block_in h a ≡ Some block → 0 < count g a → count_of d ≤ count g a → Touched c g (slice_set g a d) h (slice_set h a (shown c d))
  touched_one g h a d block sh e alive le =
      let now : slot_at (slice_set g a d) a ≡ d = set_here g a d no_slot (inside g a alive) in
      let set : block_in (slice_set h a (shown c d)) a ≡ shown c d = set_here h a (shown c d) None (there_inside h a block e) in
      record {
        dead = λ b z. set_other h a b (shown c d) None (λ q. absurd (omega (arith, ap (count g) q)));
        live = λ b lt.
            ⊎_elim
            (λ q. subst (λ b. block_in (slice_set h a (shown c d)) b ≡ shown c (slot_at (slice_set g a d) b)) q (set ∙ sym (ap (shown c) now)))
            (λ ne. set_other h a b (shown c d) None ne ∙ sh.at b lt ∙ sym (ap (shown c) (set_other g a b d no_slot ne))) (is_or_not a b);
        size = set_length h a (shown c d);
        less = λ b.
            ⊎_elim
            (λ q. subst (λ b. count (slice_set g a d) b ≤ count g b) q (omega (arith, ap count_of now)))
            (λ ne. omega (arith, ap count_of (set_other g a b d no_slot ne))) (is_or_not a b);
      }

  -- a block that is not there any more is touched besides
  pub touched_beside : (g g' : List Slot) (h h' : List (Option Block)) (z : ℕ) (x : Option Block) → Touched c g g' h h' → count g z ≡ 0 → z < length h → Touched c g g' (slice_set h z x) (slice_set h' z x)
  touched_beside g g' h h' z x t gone lt = record {
    dead = λ b e.
        ⊎_elim
        (λ q. subst (λ b. block_in (slice_set h' z x) b ≡ block_in (slice_set h z x) b) q (set_here h' z x None (omega (arith, t.size, lt)) ∙ sym (set_here h z x None lt)))
        (λ ne. set_other h' z b x None ne ∙ t.dead b e ∙ sym (set_other h z b x None ne)) (is_or_not z b);
    live = λ b e.
        ⊎_elim
        (λ q. absurd (omega (arith, ap (count g) q)))
        (λ ne. set_other h' z b x None ne ∙ t.live b e) (is_or_not z b);
    size = set_length h' z x ∙ t.size ∙ sym (set_length h z x);
    less = t.less;
  }

  pub shows_gone : (g : List Slot) (h : List (Option Block)) (a : ℕ) (d : Slot) → count_of d ≡ 0 → 0 < count g a → Shows c h g → Shows c h (slice_set g a d)
  shows_gone g h a d e alive sh = record {
    at = λ b lt.
        let ne : a ≢ b = λ q. absurd (omega (arith, lt, ap (count (slice_set g a d)) (sym q), ap count_of (set_here g a d no_slot (inside g a alive)), e)) in
        sh.at b (omega (arith, lt, ap count_of (set_other g a b d no_slot ne))) ∙ sym (ap (shown c) (set_other g a b d no_slot ne));
  }

  pub shows_beside : (g : List Slot) (h : List (Option Block)) (z : ℕ) (x : Option Block) → count g z ≡ 0 → Shows c h g → Shows c (slice_set h z x) g
  shows_beside g h z x gone sh = record { at = λ b lt. set_other h z b x None (λ q. absurd (omega (arith, lt, gone, ap (count g) q))) ∙ sh.at b lt }

  pub shown_after : (g g' : List Slot) (h h' : List (Option Block)) → length g' ≡ length g → Shown c h g → Touched c g g' h h' → Shown c h' g'
  shown_after g g' h h' e sh t = record {
    at = λ a.
        ⊎_elim
        (λ z. let z2 : count g' a ≡ 0 = omega (arith, t.less a) in t.dead a z ∙ sh.at a ∙ gone_shown (slot_at g a) z ∙ sym (gone_shown (slot_at g' a) z2))
        (λ lt. t.live a lt) (none_or_some (count g a));
    size = t.size ∙ sh.size ∙ sym e;
  }

  pub all_shown : (g : List Slot) (h : List (Option Block)) → Shown c h g → Shows c h g
  all_shown g h sh = record { at = λ a lt. sh.at a }
