-- A conflict of a row is one for the operands behind the step.
use Rattle.std.proofs.Common.{◌≡◌, ◌≢◌, ℕ, Bool, true, false, List, [], ◌∷◌, ◌++◌, map, refl, sym, ap, ◌∙◌, subst, ◌⊎◌, inl, inr, arith}
use Rattle.std.specs.Prelude.{◌||◌, if◌then◌else◌}
use Rattle.rpy_tree.specs.declared.program.ClassInfo.{ClassInfo}
use Rattle.rpy_meaning.specs.declared.row.RowOp.{RowOp}
use Rattle.rpy_meaning.specs.declared.row.RowOp.TheVariants as op
use Rattle.flow_graph.specs.declared.graph.Op.{Op}
use Rattle.ann_lattice.specs.Shape.{Shape, Nothing, Clash}
use Rattle.ann_lattice.specs.Join.{is_clash}
use Rattle.ann_lattice.specs.Kind.{misfit, is_nothing, some_nothing, some_clash}
use Rattle.ann_lattice.specs.Row.{pieces, fitting}
use Rattle.ann_lattice.specs.Assign.{Assignment, at, Up, meet}
use Rattle.ann_laws.proofs.Pairs.{no}
use Rattle.ann_rules.specs.Program.{Whole}
use Rattle.ann_rules.specs.Asks.{parts}
use Rattle.ann_rules.specs.Rules as rule
use Rattle.ann_grown.specs.Partial.{IsFirst}
use Rattle.ann_grown.proofs.Meeting.{meet_other}
use Rattle.ann_shown.specs.Operands.{operands}
use Rattle.ann_shown.specs.Told as spec

same_number : (c d : ℕ) → (c ≡ d) ⊎ (c ≢ d)
same_number c d = grind arith

-- each operand is as it was, or in conflict now
abbrev Turns : List Shape → List Shape → Type 0
Turns [] [] = Unit {0}
Turns [] (y ∷ ys) = ⊥
Turns (x ∷ xs) [] = ⊥
Turns (x ∷ xs) (y ∷ ys) = ((y ≡ x) ⊎ (is_clash y ≡ true)) × Turns xs ys

reached_clash : (y : Shape) → is_clash y ≡ true → is_nothing y ≡ false
reached_clash (Clash o p) e = refl
reached_clash Nothing e = absurd (no e)
reached_clash y e = refl

or_no : (a b : Bool) → a ≡ false → b ≡ false → (a || b) ≡ false
or_no false b e f = f
or_no true b e f = absurd (no (sym e))

or_left_no : (a b : Bool) → (a || b) ≡ false → a ≡ false
or_left_no false b e = refl
or_left_no true b e = absurd (no (sym e))

or_right_no : (a b : Bool) → (a || b) ≡ false → b ≡ false
or_right_no false b e = e
or_right_no true b e = absurd (no (sym e))

or_right_yes : (a b : Bool) → b ≡ true → (a || b) ≡ true
or_right_yes true b e = refl
or_right_yes false b e = e

or_left_yes : (a b : Bool) → a ≡ true → (a || b) ≡ true
or_left_yes true b e = refl
or_left_yes false b e = absurd (no e)

reached : (xs ys : List Shape) → Turns xs ys → some_nothing xs ≡ false → some_nothing ys ≡ false
reached [] [] t e = e
reached [] (y ∷ ys) t e = absurd t
reached (x ∷ xs) [] t e = absurd t
reached (x ∷ xs) (y ∷ ys) (inl same, t) e =
    or_no (is_nothing y) (some_nothing ys) (ap is_nothing same ∙ or_left_no (is_nothing x) (some_nothing xs) e) (reached xs ys t (or_right_no (is_nothing x) (some_nothing xs) e))
reached (x ∷ xs) (y ∷ ys) (inr clash, t) e = or_no (is_nothing y) (some_nothing ys) (reached_clash y clash) (reached xs ys t (or_right_no (is_nothing x) (some_nothing xs) e))

same_or_clash : (xs ys : List Shape) → Turns xs ys → (ys ≡ xs) ⊎ (some_clash ys ≡ true)
same_or_clash [] [] t = inl refl
same_or_clash [] (y ∷ ys) t = absurd t
same_or_clash (x ∷ xs) [] t = absurd t
same_or_clash (x ∷ xs) (y ∷ ys) (inr clash, t) = inr (or_left_yes (is_clash y) (some_clash ys) clash)
same_or_clash (x ∷ xs) (y ∷ ys) (inl same, t) = by_rest (same_or_clash xs ys t)
  where
    by_rest : (ys ≡ xs) ⊎ (some_clash ys ≡ true) → ((y ∷ ys) ≡ (x ∷ xs)) ⊎ (some_clash (y ∷ ys) ≡ true)
    by_rest (inl e) = inl (ap (λ z. z ∷ ys) same ∙ ap (λ zs. x ∷ zs) e)
    by_rest (inr e) = inr (or_right_yes (is_clash y) (some_clash ys) e)

module _ (q : Whole) where
  unfit_two : (a b : Assignment) (g : ℕ) (o : RowOp) (x y : Shape) (xs ys : List Shape) (node : ℕ) → rule.is_unfit q a g o (x ∷ xs) node ≡ rule.is_unfit q b g o (y ∷ ys) node
  unfit_two a b g (op.New c) x y xs ys node = refl
  unfit_two a b g o x y xs ys node = refl

  unfit_none : (a b : Assignment) (g : ℕ) (o : RowOp) (node : ℕ) → rule.is_unfit q a g o [] node ≡ rule.is_unfit q b g o [] node
  unfit_none a b g (op.New c) node = refl
  unfit_none a b g o node = refl

  unfit_same : (a b : Assignment) (g : ℕ) (o : RowOp) (xs ys : List Shape) (node : ℕ) → Turns xs ys → rule.is_unfit q a g o xs node ≡ rule.is_unfit q b g o ys node
  unfit_same a b g o [] [] node t = unfit_none a b g o node
  unfit_same a b g o [] (y ∷ ys) node t = absurd t
  unfit_same a b g o (x ∷ xs) [] node t = absurd t
  unfit_same a b g o (x ∷ xs) (y ∷ ys) node t = unfit_two a b g o x y xs ys node

  -- without an operand a row gives nothing
  no_pieces : (a : Assignment) (g : ℕ) (o : RowOp) (xs further : List Shape) → some_nothing xs ≡ true → rule.pieces_for q a g o xs further ≡ []
  no_pieces a g o xs [] e = refl
  no_pieces a g o xs (f ∷ further) e =
      ap (λ b. (if b then [] else if some_clash xs then misfit ∷ [] else fitting q.tables o xs f) ++ rule.pieces_for q a g o xs further) e ∙ no_pieces a g o xs further e

  has_operands : (a : Assignment) (g : ℕ) (o : RowOp) (xs further : List Shape) (b : Bool) → some_nothing xs ≡ b → some_clash (rule.pieces_for q a g o xs further) ≡ true → some_nothing xs ≡ false
  has_operands a g o xs further false e h = e
  has_operands a g o xs further true e h = absurd (no (sym (ap some_clash (no_pieces a g o xs further e)) ∙ h))

  -- an operand in conflict gives one
  clash_pieces : (b : Assignment) (g : ℕ) (o : RowOp) (ys further : List Shape) (f : Shape) → some_nothing ys ≡ false → some_clash ys ≡ true
      → some_clash (rule.pieces_for q b g o ys (f ∷ further)) ≡ true
  clash_pieces b g o ys further f e h =
      ap (λ n. some_clash ((if n then [] else if some_clash ys then misfit ∷ [] else fitting q.tables o ys f) ++ rule.pieces_for q b g o ys further)) e
      ∙ ap (λ n. some_clash ((if n then misfit ∷ [] else fitting q.tables o ys f) ++ rule.pieces_for q b g o ys further)) h

  pieces_on : (a b : Assignment) (g : ℕ) (o : RowOp) (xs ys further : List Shape) → Turns xs ys → some_clash (rule.pieces_for q a g o xs (Nothing ∷ further)) ≡ true
      → some_clash (rule.pieces_for q b g o ys (Nothing ∷ further)) ≡ true
  pieces_on a b g o xs ys further t h = by_two (same_or_clash xs ys t)
    where
      all_same : (fs : List Shape) → rule.pieces_for q a g o xs fs ≡ rule.pieces_for q b g o xs fs
      all_same [] = refl
      all_same (f ∷ fs) = ap (λ ps. pieces q.tables o xs f ++ ps) (all_same fs)

      by_two : (ys ≡ xs) ⊎ (some_clash ys ≡ true) → some_clash (rule.pieces_for q b g o ys (Nothing ∷ further)) ≡ true
      by_two (inl e) = ap (λ zs. some_clash (rule.pieces_for q b g o zs (Nothing ∷ further))) e ∙ (sym (ap some_clash (all_same (Nothing ∷ further))) ∙ h)
      by_two (inr e) =
          clash_pieces b g o ys further Nothing (reached xs ys t (has_operands a g o xs (Nothing ∷ further) (some_nothing xs) refl h)) e

  -- ---- the operands behind a step

  module _ (before : Assignment) (g : ℕ) (o : Op) (es : List Shape) where
    abbrev k : List ClassInfo
    k = q.tables.classes

    abbrev cell : ℕ
    cell = q.places.variable g o.result

    abbrev after : Assignment
    after = meet k (Up cell es) before

    turns : is_clash (at after cell) ≡ true → (vs : List ℕ) → Turns (map (rule.value q before g) vs) (map (rule.value q after g) vs)
    turns clash [] = tt
    turns clash (v ∷ vs) = (one (same_number (q.places.variable g v) cell), turns clash vs)
      where
        one : (q.places.variable g v ≡ cell) ⊎ (q.places.variable g v ≢ cell) → (rule.value q after g v ≡ rule.value q before g v) ⊎ (is_clash (rule.value q after g v) ≡ true)
        one (inl e) = inr (ap (λ c. is_clash (at after c)) e ∙ clash)
        one (inr other) = inl (meet_other k es before cell (q.places.variable g v) other)

    abbrev xs : List Shape
    xs = operands q before g o

    abbrev ys : List Shape
    ys = operands q after g o

    abbrev further : List Shape
    further = parts q before o.op xs

    by_fit : (u : Bool) → rule.is_unfit q before g o.op xs o.node ≡ u → Turns xs ys → some_clash (rule.asked q before g o.op xs o.node) ≡ true
        → (rule.is_unfit q after g o.op ys o.node ≡ true) ⊎ (some_clash (spec.row q after g o ys further) ≡ true)
    by_fit true e t h = inl (sym (unfit_same before after g o.op xs ys o.node t) ∙ e)
    by_fit false e t h =
        inr (pieces_on before after g o.op xs ys further t
        (sym (ap (λ b. some_clash (if b then misfit ∷ [] else rule.pieces_for q before g o.op xs (Nothing ∷ further))) e) ∙ h))

    row_on : is_clash (at after cell) ≡ true → some_clash (rule.asked q before g o.op xs o.node) ≡ true
        → (rule.is_unfit q after g o.op ys o.node ≡ true) ⊎ (some_clash (spec.row q after g o ys further) ≡ true)
    row_on clash h = by_fit (rule.is_unfit q before g o.op xs o.node) refl (turns clash o.args) h

pub of_row : (p : Whole) (spots : ℕ → Bool) (start a : Assignment) (c : ℕ) (f : IsFirst p spots start a c) → spec.IsOfRow p f.before f.rule a
of_row p spots start a c f g o e h =
    subst
    (λ d. (rule.is_unfit p d g o.op (operands p d g o) o.node ≡ true) ⊎ (some_clash (spec.row p d g o (operands p d g o) (parts p f.before o.op (operands p f.before g o))) ≡ true))
    (sym is) (row_on p f.before g o es clash h)
  where
    es : List Shape
    es = rule.asked p f.before g o.op (operands p f.before g o) o.node

    cell : ℕ
    cell = p.places.variable g o.result

    is : a ≡ meet p.tables.classes (Up cell es) f.before
    is = f.step ∙ ap (λ n. meet p.tables.classes n f.before) e

    clash_there : is_clash (at (meet p.tables.classes (Up cell es) f.before) c) ≡ true
    clash_there = ap (λ d. is_clash (at d c)) (sym is) ∙ f.clash

    by_cell : (c ≡ cell) ⊎ (c ≢ cell) → is_clash (at (meet p.tables.classes (Up cell es) f.before) cell) ≡ true
    by_cell (inl same) = ap (λ d. is_clash (at (meet p.tables.classes (Up cell es) f.before) d)) (sym same) ∙ clash_there
    by_cell (inr other) =
        absurd (no (sym (ap is_clash (meet_other p.tables.classes es f.before cell c other) ∙ f.grown.free c f.spot) ∙ clash_there))

    clash : is_clash (at (meet p.tables.classes (Up cell es) f.before) cell) ≡ true
    clash = by_cell (same_number c cell)
