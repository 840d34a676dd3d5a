-- Evaluation stops where what a plain expression gives is unreached.
use Rattle.std.proofs.Common.{◌≡◌, ℕ, Bool, true, false, List, [], ◌∷◌, inl, inr, refl, sym, ◌∙◌}
use Rattle.std.specs.Prelude.{◌&&◌, not}
use Rattle.std.proofs.lemmas.Bool.{or_parts}
use Rattle.rpy_meaning.specs.declared.row.RowOp.{RowOp}
use Rattle.rpy_meaning.specs.declared.row.RowOp.TheVariants as row
use Rattle.flow_trees.specs.Tree.{Expr, Local, Constant, Apply, And, Or, Display, Comprehension}
use Rattle.ann_lattice.specs.Shape.{Shape as Element}
use Rattle.ann_lattice.specs.Kind.{is_nothing}
use Rattle.ann_laws.proofs.Equal.{nothing_down}
use Rattle.ann_rules.specs.Rules.{is_narrowing}
use Rattle.ann_tree.specs.Annotation.{Environment, Point, Never, With, Handler, At}
use Rattle.ann_tree.specs.Gives as part
use Rattle.ann_tree.specs.Gives.{is_raise}
use Rattle.ann_read.specs.Plain.{IsPlain}
use Rattle.ann_read.proofs.Links.{Known, k, u, Fits}
use Rattle.ann_read.proofs.Acts.{annotation}

pub at_on : (q : Point) (P Q : Environment → Type 0) → ((g : Environment) → P g → Q g) → At q P → At q Q
at_on Never P Q f h = tt
at_on (With g) P Q f h = f g h

module _ (c : Known) (hs : List Handler) where
  abbrev InTree : ℕ → Bool → RowOp → List Element → part.Giving
  InTree = part.Acts c.p c.program.sites (annotation c) c.n hs

  contrary : {A : Type 0} → false ≡ true → A
  contrary e = cc

  stopped : (b : Bool) (z x : Element) → b ≡ false → (not b && is_nothing z) ≡ false → Fits c z x → is_nothing x ≡ true → false ≡ true
  stopped true z x plain t fits none = sym plain
  stopped false z x plain t fits none = sym t ∙ nothing_down (k c) (u c) z x fits none

  acts_stop : (node : ℕ) (value : Bool) (o : RowOp) (xs : List Element) (e : Environment) (x : Element) (q : Point) → is_narrowing o ≡ false → is_nothing x ≡ true → InTree node value o xs e x q → InTree node value o xs e x Never
  acts_stop node value o xs e x q plain none (seen, (z, does, is, on, marked)) = (
    seen,
    (
      z,
      does,
      is,
      (λ t. let parts = or_parts (is_raise o) (not (is_narrowing o) && is_nothing z) t in contrary (stopped (is_narrowing o) z x plain parts.1 (on t).0.0 none)),
      marked,
    ),
  )

  -- the copy in which ways meet
  meet_stops : (node : ℕ) (y x : Element) (meet q : Point) → is_nothing x ≡ true → At meet (λ g. InTree node true row.Copy (y ∷ []) g x q) → At meet (λ g. InTree node true row.Copy (y ∷ []) g x Never)
  meet_stops node y x meet q none h =
      at_on meet (λ g. InTree node true row.Copy (y ∷ []) g x q) (λ g. InTree node true row.Copy (y ∷ []) g x Never) (λ g. acts_stop node true row.Copy (y ∷ []) g x q refl none) h

  abbrev Gives : Expr → part.Giving
  Gives = part.Gives c.p c.program.sites (annotation c) c.n hs

  pub plain_stops : (l : Expr) (e : Environment) (x : Element) (q : Point) → IsPlain l → is_nothing x ≡ true → Gives l e x q → Gives l e x Never
  plain_stops (Local node i) e x q plain none h = (h.0, acts_stop node true row.Copy (e.element i ∷ []) e x q refl none h.1)
  plain_stops (Constant node d v) e x q plain none h = acts_stop node true (row.Constant d) [] e x q refl none h
  plain_stops (Apply node value o es) e x q plain none (xs, inl (ways, (behind, operands, at))) =
      (xs, inl (ways, (behind, operands, at_on behind (λ g. InTree node value o xs g x q) (λ g. InTree node value o xs g x Never) (λ g. acts_stop node value o xs g x q plain none) at)))
  plain_stops (Apply node value o es) e x q plain none (xs, inr (ways, (is, (y, so, other, meet, test, one, two, at)))) =
      (xs, inr (ways, (is, (y, so, other, meet, test, one, two, meet_stops node y x meet q none at))))
  plain_stops (And node a b) e x q plain none (y, right, meet, left, at_right, at) = (y, right, meet, left, at_right, meet_stops node y x meet q none at)
  plain_stops (Or node a b) e x q plain none (y, right, meet, left, at_right, at) = (y, right, meet, left, at_right, meet_stops node y x meet q none at)
  plain_stops (Display node site pairs) e x q plain none (dict, empty, full, acts, at_empty, at) = (dict, empty, full, acts, at_empty, meet_stops node dict x full q none at)
  plain_stops (Comprehension node site item target subject condition) e x q plain none (made, over, place, empty, head, begin, next, after, acts, at_empty, walks, gathers, at) =
      (made, over, place, empty, head, begin, next, after, acts, at_empty, walks, gathers, meet_stops node made x after q none at)
