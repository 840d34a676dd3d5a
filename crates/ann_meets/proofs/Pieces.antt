-- What a piece of a call asks is a part of what the call asks.
use Rattle.std.proofs.Common.{◌≡◌, ℕ, Bool, true, false, List, [], ◌∷◌, map, slice_get, Option, Some, None, refl, inr}
use Rattle.std.specs.Prelude.{not}
use Rattle.rpy_meaning.specs.declared.row.RowOp.{RowOp}
use Rattle.rpy_meaning.specs.declared.row.RowOp.TheVariants as op
use Rattle.flow_graph.specs.declared.graph.Op.{Op}
use Rattle.ann_lattice.specs.Shape.{Shape, Inst, Fun}
use Rattle.ann_lattice.specs.Assign.{Assignment, Need, Up}
use Rattle.ann_lattice.specs.Kind.{some_nothing, some_clash}
use Rattle.ann_rules.specs.Program as program
use Rattle.ann_rules.specs.Asks as ask
use Rattle.ann_rules.specs.Asks.{when, from_each}
use Rattle.ann_rules.specs.Rules as rule
use Rattle.ann_grown.specs.Partial.{AreOf}
use Rattle.ann_grown.proofs.Asked.{of_none, of_on, of_left, of_right, of_item}
use Rattle.ann_meets.specs.Calls as calls
use Rattle.ann_meets.specs.declared.part.Piece.{Piece}
use Rattle.ann_meets.specs.declared.part.Piece.TheVariants as piece

of_first : (f h : Shape → List Shape → List Need) → ((y : Shape) (xs : List Shape) → AreOf (f y xs) (h y xs)) → (xs : List Shape)
    → AreOf (ask.with_first f xs) (ask.with_first h xs)
of_first f h w [] = of_none []
of_first f h w (x ∷ xs) = w x xs

when_in : (b : Bool) (ms ns : List Need) → AreOf ms ns → AreOf (when b ms) (when b ns)
when_in true ms ns i n h = i n h
when_in false ms ns i n h = absurd h

in_rest : (m : Need) (ms ns : List Need) → AreOf ms ns → AreOf ms (m ∷ ns)
in_rest m ms ns i n h = inr (i n h)

module _ (p : program.Whole) (a : Assignment) where
  -- ---- functions

  reached_in : (xs : List Shape) (fs : List ℕ) (i : ℕ) (x : Option ℕ) → slice_get fs i ≡ x → AreOf (calls.reach_one p xs x) (from_each (λ f. ask.reach p f xs) fs)
  reached_in xs fs i None e = of_none (from_each (λ f. ask.reach p f xs) fs)
  reached_in xs fs i (Some f) e = of_item (λ f. ask.reach p f xs) fs i f e

  shared_in : (r : Bool) (fs : List ℕ) (i j : ℕ) (x y : Option ℕ) → slice_get fs i ≡ x → slice_get fs j ≡ y → AreOf (calls.share p a r x y) (ask.tie_each p a r fs fs)
  shared_in r fs i j None y e h = of_none (ask.tie_each p a r fs fs)
  shared_in r fs i j (Some f) None e h = of_none (ask.tie_each p a r fs fs)
  shared_in r fs i j (Some f) (Some k) e h =
      of_on (ask.tie_two p a r f k) (from_each (ask.tie_two p a r f) fs) (ask.tie_each p a r fs fs)
      (of_item (ask.tie_two p a r f) fs j k h) (of_item (λ f. from_each (ask.tie_two p a r f) fs) fs i f e)

  functions_in : (x : Piece) (fs : List ℕ) (xs : List Shape) → AreOf (calls.of_functions p a x fs xs) (ask.call_all p a fs xs)
  functions_in piece.Result fs xs = of_none (ask.call_all p a fs xs)
  functions_in (piece.Reach i) fs xs =
      of_on (calls.reach_one p xs (slice_get fs i)) (from_each (λ f. ask.reach p f xs) fs) (ask.call_all p a fs xs)
      (reached_in xs fs i (slice_get fs i) refl) (of_left (from_each (λ f. ask.reach p f xs) fs) (ask.tie_each p a false fs fs))
  functions_in (piece.Share i j) fs xs =
      of_on (calls.share p a false (slice_get fs i) (slice_get fs j)) (ask.tie_each p a false fs fs) (ask.call_all p a fs xs)
      (shared_in false fs i j (slice_get fs i) (slice_get fs j) refl refl) (of_right (from_each (λ f. ask.reach p f xs) fs) (ask.tie_each p a false fs fs))

  value_in : (x : Piece) (y : Shape) (xs : List Shape) → AreOf (calls.of_value p a x y xs) (ask.call_value p a y xs)
  value_in x (Fun fs n) xs = functions_in x fs xs
  value_in x other xs = of_none (ask.call_value p a other xs)

  -- ---- methods

  method_in : (xs : List Shape) (found : List (ℕ × ℕ)) (i : ℕ) (x : Option (ℕ × ℕ)) → slice_get found i ≡ x
      → AreOf (calls.reach_method p xs x) (from_each (λ f. ask.reach p f.1 (Inst f.0 false ∷ xs)) found)
  method_in xs found i None e = of_none (from_each (λ f. ask.reach p f.1 (Inst f.0 false ∷ xs)) found)
  method_in xs found i (Some f) e = of_item (λ f. ask.reach p f.1 (Inst f.0 false ∷ xs)) found i f e

  methods_in : (x : Piece) (found : List (ℕ × ℕ)) (xs : List Shape) → AreOf (calls.of_methods p a x found xs) (ask.call_methods p a found xs)
  methods_in piece.Result found xs = of_none (ask.call_methods p a found xs)
  methods_in (piece.Reach i) found xs =
      of_on (calls.reach_method p xs (slice_get found i)) (from_each (λ f. ask.reach p f.1 (Inst f.0 false ∷ xs)) found) (ask.call_methods p a found xs)
      (method_in xs found i (slice_get found i) refl)
      (of_left (from_each (λ f. ask.reach p f.1 (Inst f.0 false ∷ xs)) found) (ask.tie_each p a true (map (λ f. f.1) found) (map (λ f. f.1) found)))
  methods_in (piece.Share i j) found xs =
      of_on (calls.share p a true (slice_get (map (λ f. f.1) found) i) (slice_get (map (λ f. f.1) found) j))
      (ask.tie_each p a true (map (λ f. f.1) found) (map (λ f. f.1) found)) (ask.call_methods p a found xs)
      (shared_in true (map (λ f. f.1) found) i j (slice_get (map (λ f. f.1) found) i) (slice_get (map (λ f. f.1) found) j) refl refl)
      (of_right (from_each (λ f. ask.reach p f.1 (Inst f.0 false ∷ xs)) found) (ask.tie_each p a true (map (λ f. f.1) found) (map (λ f. f.1) found)))

  receiver_in : (name : List ℕ) (site : Option ℕ) (x : Piece) (y : Shape) (xs : List Shape) → AreOf (calls.of_receiver p a name x y xs) (ask.method_asks p a name site y xs)
  receiver_in name site x (Inst c n) xs = methods_in x (ask.methods p a c name) xs
  receiver_in name site x other xs = of_none (ask.method_asks p a name site other xs)

  -- ---- calls

  called_in : (x : Piece) (o : RowOp) (xs : List Shape) → AreOf (calls.called p a x o xs) (ask.asks p a o xs)
  called_in x op.CallValue xs = of_first (calls.of_value p a x) (ask.call_value p a) (value_in x) xs
  called_in x (op.Method name site) xs = of_first (calls.of_receiver p a name x) (ask.method_asks p a name site) (receiver_in name site x) xs
  called_in x o xs = of_none (ask.asks p a o xs)

  module _ (g : ℕ) where
    fitting_in : (x : Piece) (o : Op) (xs : List Shape) → AreOf (calls.fitting p a g x o xs) (rule.reached_needs p a g o xs)
    fitting_in x o xs =
        in_rest (Up (p.places.variable g o.result) (rule.asked p a g o.op xs o.node)) (calls.fitting p a g x o xs)
        (when (not (some_clash (rule.asked p a g o.op xs o.node))) (ask.asks p a o.op xs))
        (when_in (not (some_clash (rule.asked p a g o.op xs o.node))) (calls.called p a x o.op xs) (ask.asks p a o.op xs) (called_in x o.op xs))

    call_in : (x : Piece) (o : Op) (xs : List Shape) → AreOf (calls.call_needs p a g x o xs) (rule.reached_needs p a g o xs)
    call_in piece.Result o xs =
        of_left (calls.result_needs p a g o xs) (when (not (some_clash (rule.asked p a g o.op xs o.node))) (ask.asks p a o.op xs))
    call_in (piece.Reach i) o xs = fitting_in (piece.Reach i) o xs
    call_in (piece.Share i j) o xs = fitting_in (piece.Share i j) o xs

    pub piece_in : (x : Piece) (o : Op) → AreOf (calls.piece_needs p a g x o) (rule.op_needs p a g o)
    piece_in x o =
        of_on (calls.piece_needs p a g x o) (when (not (some_nothing (map (rule.value p a g) o.args))) (rule.reached_needs p a g o (map (rule.value p a g) o.args)))
        (rule.op_needs p a g o)
        (when_in (not (some_nothing (map (rule.value p a g) o.args))) (calls.call_needs p a g x o (map (rule.value p a g) o.args))
        (rule.reached_needs p a g o (map (rule.value p a g) o.args)) (call_in x o (map (rule.value p a g) o.args)))
        (of_right (rule.loose_needs p a g o) (when (not (some_nothing (map (rule.value p a g) o.args))) (rule.reached_needs p a g o (map (rule.value p a g) o.args))))
