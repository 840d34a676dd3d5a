-- What is found for the blocks of a part: what stands at them, under what is known of other blocks.
use Rattle.std.proofs.Common.{◌≡◌, ℕ, ◌<◌, ◌≤◌, inl, inr, Bool, true, false, sym, ap, ◌∙◌, subst, arith, Some}
use Rattle.std.proofs.lemmas.Bool.{cases_lt}
use Rattle.std.specs.Prelude.{nat_lt, if◌then◌else◌, slice_get}
use Rattle.flow_graph.specs.declared.graph.Graphs.{Graphs}
use Rattle.flow_meaning.specs.Machine.{block_in}
use Rattle.flow_stands.specs.Places.{Shape as Form, numbered}
use Rattle.flow_trees.specs.Marks.{Alone}
use Rattle.ann_lattice.specs.Shape.{Nothing}
use Rattle.ann_rules.specs.Program.{Whole}
use Rattle.ann_tree.specs.Annotation.{Annotation}
use Rattle.ann_lift.specs.Spots.{Spot, Spots, Results, Fits, Good}
use Rattle.ann_lift.proofs.Lists.{is_less, not_less}

abbrev pub Matches : Spots → ℕ → ℕ → Spots → Type 0
Matches at lo hi found = (b : ℕ) → lo ≤ b → b < hi → at b ≡ found b

-- the lower blocks, and those from a number on
abbrev pub split : ℕ → Spots → Spots → Spots
split mid low high b = if nat_lt b mid then low b else high b

module _ (p : Whole) (a : Annotation) (f : ℕ) (gs : Graphs) where
  abbrev pub AllGood : Spots → ℕ → ℕ → Type 0
  AllGood at lo hi = (b : ℕ) → lo ≤ b → b < hi → Good p a f gs at b

  -- wherever these stand at the blocks, and what is asked holds, the rest is known, and the blocks are as they must be
  pub record Lifted (lo hi : ℕ) (C E : Spots → Type 0) : Type 0 where
    pub rise : lo ≤ hi
    pub found : Spots
    pub known : (at : Spots) → Matches at lo hi found → C at → E at
    pub good : (at : Spots) → Matches at lo hi found → C at → AllGood at lo hi

  pub under : {lo hi : ℕ} {C D E : Spots → Type 0} → ((at : Spots) → D at → C at) → Lifted lo hi C E → Lifted lo hi D E
  under g x = record { rise = x.rise; found = x.found; known = λ at m d. x.known at m (g at d); good = λ at m d. x.good at m (g at d) }

  pub so : {lo hi : ℕ} {C E F : Spots → Type 0} → ((at : Spots) → C at → E at → F at) → Lifted lo hi C E → Lifted lo hi C F
  so g x = record { rise = x.rise; found = x.found; known = λ at m c. g at c (x.known at m c); good = x.good }

  low_part : (at low high : Spots) (lo mid hi : ℕ) → mid ≤ hi → Matches at lo hi (split mid low high) → Matches at lo mid low
  low_part at low high lo mid hi le m b l h = m b l (omega (arith, le, h)) ∙ ap (λ t. if t then low b else high b) (is_less b mid h)

  high_part : (at low high : Spots) (lo mid hi : ℕ) → lo ≤ mid → Matches at lo hi (split mid low high) → Matches at mid hi high
  high_part at low high lo mid hi le m b l h = m b (omega (arith, le, l)) h ∙ ap (λ t. if t then low b else high b) (not_less b mid l)

  join : (at : Spots) (lo mid hi : ℕ) → AllGood at lo mid → AllGood at mid hi → AllGood at lo hi
  join at lo mid hi g h b l r = elim (cases_lt b mid) [ inl lt ↦ g b l lt | inr le ↦ h b le r ]

  -- one part before another, which may go on to it
  pub seq : {lo mid hi : ℕ} {C E F : Spots → Type 0} → Lifted lo mid C E → Lifted mid hi (λ at. C at × E at) F → Lifted lo hi C (λ at. E at × F at)
  seq {lo} {mid} {hi} {C} {E} {F} x y = record {
    rise = omega (arith, x.rise, y.rise);
    found = split mid x.found y.found;
    known = λ at m c.
        let e = x.known at (low_part at x.found y.found lo mid hi y.rise m) c in
        (e, y.known at (high_part at x.found y.found lo mid hi x.rise m) (c, e));
    good = λ at m c.
        let ml = low_part at x.found y.found lo mid hi y.rise m in
        join at lo mid hi (x.good at ml c) (y.good at (high_part at x.found y.found lo mid hi x.rise m) (c, x.known at ml c));
  }

  -- nothing is put
  pub straight : {lo hi : ℕ} {C E : Spots → Type 0} → lo ≡ hi → ((at : Spots) → C at → E at) → Lifted lo hi C E
  straight e g = record {
    rise = omega (arith, e);
    found = λ b. record { reached = false; element = λ j. Nothing; unbound = λ j. false };
    known = λ at m c. g at c;
    good = λ at m c b l r. absurd (omega (arith, e, l, r));
  }

  -- one block, with what stands there
  one_good : (lo hi b base m node : ℕ) (value : Bool) (form : Form) → Alone b lo hi → block_in (slice_get gs.graphs f) b ≡ Some (numbered base m node value form)
      → (s : Spot) → Results p a f s m node value form → (at : Spots) → at b ≡ s → (s.reached ≡ true → Fits p a f at s m node value form) → AllGood at lo hi
  one_good lo hi b base m node value form alone is s results at e fits i l r =
      let here : i ≡ b = omega (arith, alone.0, alone.1, l, r) in
      subst (λ j. Good p a f gs at j) (sym here)
      (base, m, node, value, form, is, subst (λ (u : Spot). Results p a f u m node value form) (sym e) results, λ reached. subst (λ (u : Spot). Fits p a f at u m node value form) (sym e) (fits (ap (λ (u : Spot). u.reached) (sym e) ∙ reached)))

  pub one : {lo hi : ℕ} {C : Spots → Type 0} (b base m node : ℕ) (value : Bool) (form : Form) → Alone b lo hi → block_in (slice_get gs.graphs f) b ≡ Some (numbered base m node value form)
      → (s : Spot) → Results p a f s m node value form → ((at : Spots) → C at → s.reached ≡ true → Fits p a f at s m node value form) → Lifted lo hi C (λ at. at b ≡ s)
  one {lo} {hi} {C} b base m node value form alone is s results fits = record {
    rise = omega (arith, alone.0, alone.1);
    found = λ i. s;
    known = λ at match c. match b (omega (arith, alone.0)) (omega (arith, alone.0, alone.1));
    good = λ at match c. one_good lo hi b base m node value form alone is s results at (match b (omega (arith, alone.0)) (omega (arith, alone.0, alone.1))) (fits at c);
  }

  -- the head of a loop, which goes on to what is put behind it
  pub head : {lo mid hi : ℕ} {C F : Spots → Type 0} (b base m node : ℕ) (value : Bool) (form : Form) → Alone b lo mid → block_in (slice_get gs.graphs f) b ≡ Some (numbered base m node value form)
      → (s : Spot) → Results p a f s m node value form → Lifted mid hi (λ at. C at × (at b ≡ s)) F → ((at : Spots) → C at → F at → s.reached ≡ true → Fits p a f at s m node value form) → Lifted lo hi C (λ at. (at b ≡ s) × F at)
  head {lo} {mid} {hi} {C} {F} b base m node value form alone is s results y fits =
      let rise : lo ≤ mid = omega (arith, alone.0, alone.1) in
      let before : (at : Spots) → Matches at lo hi (split mid (λ i. s) y.found) → at b ≡ s = λ at match. low_part at (λ i. s) y.found lo mid hi y.rise match b (omega (arith, alone.0)) (omega (arith, alone.0, alone.1)) in
      record {
        rise = omega (arith, rise, y.rise);
        found = split mid (λ i. s) y.found;
        known = λ at match c. (before at match, y.known at (high_part at (λ i. s) y.found lo mid hi rise match) (c, before at match));
        good = λ at match c.
            let e = before at match in
            let above = high_part at (λ i. s) y.found lo mid hi rise match in
            join at lo mid hi (one_good lo mid b base m node value form alone is s results at e (fits at c (y.known at above (c, e)))) (y.good at above (c, e));
      }
