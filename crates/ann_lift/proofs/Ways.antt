-- Ways on from a reached block, to where points lead.
use Rattle.std.proofs.Common.{◌≡◌, ℕ, zero, suc, ◌+◌, ◌<◌, ◌≤◌, inl, inr, Bool, false, List, [], ◌∷◌, ◌++◌, length, map, refl, sym, ap, ◌∙◌, subst, arith, length-append}
use Rattle.std.proofs.lemmas.Bool.{cases_lt, false≢true}
use Rattle.flow_stands.specs.Places.{range, first, first_and, stored}
use Rattle.ann_lattice.specs.Shape.{Shape}
use Rattle.ann_lattice.specs.Laws.{IsTree}
use Rattle.ann_rules.specs.Program.{Whole}
use Rattle.ann_tree.specs.Annotation.{Annotation, Environment, Point, Never, With, bind, narrow, Leads as LeadsOn}
use Rattle.ann_lift.specs.Spots.{Spots, Pass, Goes, first_unbound}
use Rattle.ann_lift.proofs.Lists.{one_more, push}
use Rattle.ann_lift.proofs.States.{held_at, loose_at, bound, spot, at_in, at_more, set_other, set_here, bind_other, loose_local, loose_held, Lower, Enters, Leads, Lowers, all_self, with_last, enters_from, goes_first, goes_and, goes_two, goes_stored}

module _ (n : ℕ) where
  -- held operands, by the range of their places
  pub map_range : (e : Environment) (before xs rest all : List Shape) (m : ℕ) → all ≡ before ++ (xs ++ rest) → m ≡ n + length before → map (held_at n e all) (range m (length xs)) ≡ xs
  map_range e before [] rest all m is at = refl
  map_range e before (x ∷ xs) rest all m is at =
      let first_is : held_at n e all m ≡ x = at_in n e before x (xs ++ rest) all m is at in
      let others = map_range e (before ++ x ∷ []) xs rest all (m + 1) (is ∙ sym (push before x (xs ++ rest))) (omega (arith, at, one_more before x)) in
      ap (λ y. y ∷ map (held_at n e all) (range (m + 1) (length xs))) first_is ∙ ap (λ l. x ∷ l) others

  pub clear_range : (e : Environment) (all : List Shape) (m c : ℕ) → n ≤ m → first_unbound (spot n e all bound) (range m c) ≡ false
  clear_range e all m zero le = refl
  clear_range e all m (suc c) le = loose_held n e bound m le

module _ (p : Whole) (a : Annotation) (f n : ℕ) (classes : IsTree p.tables.classes) where
  abbrev In : Spots → ℕ → Environment → List Shape → Type 0
  In at q e held = Enters p a f n classes at q e held

  abbrev pub LeadsTo : Environment → Point → Type 0
  LeadsTo e r = LeadsOn p.tables.classes a.parts.same n e r

  pub led : (at : Spots) (q : ℕ) (r : Point) (e : Environment) (held : List Shape) → LeadsTo e r → Leads p a f n classes at q r held → In at q e held
  led at q Never e held below leads = absurd below
  led at q (With g) e held below leads = enters_from p a f n classes at q e g held held below (all_self p a f n classes held) leads

  pub led_and : (at : Spots) (q : ℕ) (r : Point) (e : Environment) (held : List Shape) (z x : Shape) → Lower p a f n classes z x → LeadsTo e r → Leads p a f n classes at q r (held ++ x ∷ []) → In at q e (held ++ z ∷ [])
  led_and at q Never e held z x fits below leads = absurd below
  led_and at q (With g) e held z x fits below leads = enters_from p a f n classes at q e g (held ++ z ∷ []) (held ++ x ∷ []) below (with_last p a f n classes held z x fits) leads

  -- one more, both larger
  pub led_both : (at : Spots) (q : ℕ) (r : Point) (e : Environment) (xs ys : List Shape) → Lowers p a f n classes xs ys → LeadsTo e r → Leads p a f n classes at q r ys → In at q e xs
  led_both at q Never e xs ys l below leads = absurd below
  led_both at q (With g) e xs ys l below leads = enters_from p a f n classes at q e g xs ys below l leads

  -- what stands at a place is as at another one of what is entered
  pass_as : (at : Spots) (q : ℕ) (e : Environment) (held all : List Shape) (i j : ℕ) → In at q e held → j < n + length held → held_at n e all i ≡ held_at n e held j → loose_at n e bound i ≡ loose_at n e bound j → Pass p a f (spot n e all bound) i (at q) j
  pass_as at q e held all i j enters lt same loose = (subst (λ x. Lower p a f n classes x ((at q).element j)) (sym same) (enters.1 j lt).0, λ h. (enters.1 j lt).1 (sym loose ∙ h))

  keeps : (e : Environment) (held rest all : List Shape) (j : ℕ) → all ≡ held ++ rest → j < n + length held → held_at n e all j ≡ held_at n e held j
  keeps e held rest all j is lt = ap (λ (l : List Shape). held_at n e l j) is ∙ at_more n e held rest j lt

  pub goes_keeping : (at : Spots) (q m : ℕ) (e : Environment) (held rest all : List Shape) → all ≡ held ++ rest → m ≡ n + length held → In at q e held → Goes p a f at (spot n e all bound) (first q m)
  goes_keeping at q m e held rest all is count enters =
      goes_first p a f n classes at (spot n e all bound) q m enters.0 (λ j lt. pass_as at q e held all j j enters (omega (arith, lt, count)) (keeps e held rest all j is (omega (arith, lt, count))) refl)

  both_held : (e : Environment) (i j : ℕ) → n ≤ i → n ≤ j → loose_at n e bound i ≡ loose_at n e bound j
  both_held e i j l r = loose_held n e bound i l ∙ sym (loose_held n e bound j r)

  pub goes_keeping_and : (at : Spots) (q m last : ℕ) (e : Environment) (held rest all : List Shape) (z : Shape) → all ≡ held ++ rest → m ≡ n + length held → held_at n e all last ≡ z → n ≤ last → In at q e (held ++ z ∷ []) → Goes p a f at (spot n e all bound) (first_and q m last)
  goes_keeping_and at q m last e held rest all z is count there le enters =
      let long = one_more held z in
      goes_and p a f n classes at (spot n e all bound) q m last enters.0
      (λ j lt. pass_as at q e (held ++ z ∷ []) all j j enters (omega (arith, lt, count, long)) (keeps e held rest all j is (omega (arith, lt, count)) ∙ sym (at_more n e held (z ∷ []) j (omega (arith, lt, count)))) refl)
      (pass_as at q e (held ++ z ∷ []) all last m enters (omega (arith, count, long)) (there ∙ sym (at_in n e held z [] (held ++ z ∷ []) m refl count)) (both_held e last m le (omega (arith, count))))

  -- a local takes what stands at a place
  pub goes_binding : (at : Spots) (q m i w : ℕ) (e : Environment) (held rest all : List Shape) (z : Shape) → all ≡ held ++ rest → m ≡ n + length held → held_at n e all w ≡ z → n ≤ w → i < n → In at q (bind e i z) held → Goes p a f at (spot n e all bound) (stored q m i w)
  goes_binding at q m i w e held rest all z is count there le inside enters =
      goes_stored p a f n classes at (spot n e all bound) q m i w enters.0
      (λ j lt ne.
      let less : j < n + length held = omega (arith, lt, count) in
      (subst (λ x. Lower p a f n classes x ((at q).element j)) (set_other n e (bind e i z).unbound i z held j ne ∙ sym (keeps e held rest all j is less)) (enters.1 j less).0, λ h. (enters.1 j less).1 (bind_other n e i z j ne ∙ h)))
      (λ lt. (
        subst (λ x. Lower p a f n classes x ((at q).element i)) (set_here n e (bind e i z).unbound i z held inside ∙ sym there) (enters.1 i (omega (arith, inside))).0,
        λ h. absurd (false≢true (sym (loose_held n e bound w le) ∙ h)),
      ))

  -- or is known better, and may be unbound as before
  pub goes_narrowing : (at : Spots) (q m i w : ℕ) (e : Environment) (u : ℕ → Bool) (held rest all : List Shape) (z : Shape) → all ≡ held ++ rest → m ≡ n + length held → held_at n e all w ≡ z → n ≤ w → i < n → u w ≡ e.unbound i
      → ((j : ℕ) → j < w → n ≤ j → u j ≡ false) → n + length held ≤ w → In at q (narrow e i z) held → Goes p a f at (spot n e all u) (stored q m i w)
  goes_narrowing at q m i w e u held rest all z is count there le inside loose quiet before enters =
      let e2 : Environment = narrow e i z in
      goes_stored p a f n classes at (spot n e all u) q m i w enters.0
      (λ j lt ne.
      let less : j < n + length held = omega (arith, lt, count) in (
        subst (λ x. Lower p a f n classes x ((at q).element j)) (set_other n e e.unbound i z held j ne ∙ sym (keeps e held rest all j is less)) (enters.1 j less).0,
        λ h. (enters.1 j less).1 (elim (cases_lt j n) [ inl small ↦ loose_local n e bound j small ∙ (sym (loose_local n e u j small) ∙ h) | inr big ↦ absurd (false≢true (sym (loose_held n e u j big ∙ quiet j (omega (arith, less, before)) big) ∙ h)) ]),
      ))
      (λ lt. (
        subst (λ x. Lower p a f n classes x ((at q).element i)) (set_here n e e.unbound i z held inside ∙ sym there) (enters.1 i (omega (arith, inside))).0,
        λ h. (enters.1 i (omega (arith, inside))).1 (loose_local n e bound i inside ∙ (sym loose ∙ (sym (loose_held n e u w le) ∙ h))),
      ))

  -- two that are held go on in the other order
  pub goes_swapped : (at : Spots) (q m : ℕ) (e : Environment) (held : List Shape) (x y : Shape) → m ≡ n + length held → In at q e (held ++ y ∷ x ∷ []) → Goes p a f at (spot n e (held ++ x ∷ y ∷ []) bound) (record { to = q; places = (range 0 m ++ (m + 1) ∷ []) ++ m ∷ [] })
  goes_swapped at q m e held x y count enters =
      let all = held ++ x ∷ y ∷ [] in
      let long : length (held ++ y ∷ x ∷ []) ≡ length held + 2 = length-append held (y ∷ x ∷ []) in
      let second : held_at n e all (m + 1) ≡ y = at_in n e (held ++ x ∷ []) y [] all (m + 1) (sym (push held x (y ∷ []))) (omega (arith, count, one_more held x)) in
      let first_is : held_at n e all m ≡ x = at_in n e held x (y ∷ []) all m refl count in
      goes_two p a f n classes at (spot n e all bound) q m (m + 1) m enters.0
      (λ j lt. pass_as at q e (held ++ y ∷ x ∷ []) all j j enters (omega (arith, lt, count, long)) (keeps e held (x ∷ y ∷ []) all j refl (omega (arith, lt, count)) ∙ sym (at_more n e held (y ∷ x ∷ []) j (omega (arith, lt, count)))) refl)
      (pass_as at q e (held ++ y ∷ x ∷ []) all (m + 1) m enters (omega (arith, count, long)) (second ∙ sym (at_in n e held y (x ∷ []) (held ++ y ∷ x ∷ []) m refl count)) (both_held e (m + 1) m (omega (arith, count)) (omega (arith, count))))
      (pass_as at q e (held ++ y ∷ x ∷ []) all m (m + 1) enters (omega (arith, count, long)) (first_is ∙ sym (at_in n e (held ++ y ∷ []) x [] (held ++ y ∷ x ∷ []) (m + 1) (sym (push held y (x ∷ []))) (omega (arith, count, one_more held y)))) (both_held e m (m + 1) (omega (arith, count)) (omega (arith, count))))
