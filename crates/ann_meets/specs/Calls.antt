-- What a call asks, in pieces: of its result, of each function that it reaches, and of any two of these.
use Rattle.std.specs.Prelude.{ℕ, Bool, true, false, List, [], ◌∷◌, map, slice_get, not, Option, Some, None}
use Rattle.rpy_meaning.specs.declared.row.RowOp.{RowOp}
use Rattle.rpy_meaning.specs.declared.row.RowOp.TheVariants as op
use Rattle.flow_graph.specs.declared.graph.Op.{Op}
use Rattle.ann_lattice.specs.Shape.{Shape, Inst, Fun}
use Rattle.ann_lattice.specs.Assign.{Assignment, Need, Up}
use Rattle.ann_lattice.specs.Kind.{some_nothing, some_clash}
use Rattle.ann_rules.specs.Program as program
use Rattle.ann_rules.specs.Asks as ask
use Rattle.ann_rules.specs.Rules as rule
use Rattle.ann_meets.specs.declared.part.Piece.{Piece}
use Rattle.ann_meets.specs.declared.part.Piece.TheVariants as piece

module _ (p : program.Whole) where
  abbrev pub reach_one : List Shape → Option ℕ → List Need
  reach_one xs None = []
  reach_one xs (Some f) = ask.reach p f xs

  abbrev pub reach_method : List Shape → Option (ℕ × ℕ) → List Need
  reach_method xs None = []
  reach_method xs (Some f) = ask.reach p f.1 (Inst f.0 false ∷ xs)

module _ (p : program.Whole) (a : Assignment) where
  -- ---- functions

  abbrev pub share_with : Bool → ℕ → Option ℕ → List Need
  share_with received f None = []
  share_with received f (Some h) = ask.tie_two p a received f h

  abbrev pub share : Bool → Option ℕ → Option ℕ → List Need
  share received None y = []
  share received (Some f) y = share_with received f y

  abbrev pub of_functions : Piece → List ℕ → List Shape → List Need
  of_functions piece.Result fs xs = []
  of_functions (piece.Reach i) fs xs = reach_one p xs (slice_get fs i)
  of_functions (piece.Share i j) fs xs = share false (slice_get fs i) (slice_get fs j)

  abbrev pub of_value : Piece → Shape → List Shape → List Need
  of_value x (Fun fs n) xs = of_functions x fs xs
  of_value x other xs = []

  -- ---- methods

  abbrev pub of_methods : Piece → List (ℕ × ℕ) → List Shape → List Need
  of_methods piece.Result found xs = []
  of_methods (piece.Reach i) found xs = reach_method p xs (slice_get found i)
  of_methods (piece.Share i j) found xs = share true (slice_get (map (λ f. f.1) found) i) (slice_get (map (λ f. f.1) found) j)

  abbrev pub of_receiver : List ℕ → Piece → Shape → List Shape → List Need
  of_receiver name x (Inst c n) xs = of_methods x (ask.methods p a c name) xs
  of_receiver name x other xs = []

  -- ---- calls

  abbrev pub called : Piece → RowOp → List Shape → List Need
  called x op.CallValue xs = ask.with_first (of_value x) xs
  called x (op.Method name site) xs = ask.with_first (of_receiver name x) xs
  called x o xs = []

  module _ (g : ℕ) where
    -- what it asks of its result
    abbrev pub result_needs : Op → List Shape → List Need
    result_needs o xs = Up (p.places.variable g o.result) (rule.asked p a g o.op xs o.node) ∷ []

    -- what it asks of functions where its row fits
    abbrev pub fitting : Piece → Op → List Shape → List Need
    fitting x o xs = ask.when (not (some_clash (rule.asked p a g o.op xs o.node))) (called x o.op xs)

    abbrev pub call_needs : Piece → Op → List Shape → List Need
    call_needs piece.Result o xs = result_needs o xs
    call_needs (piece.Reach i) o xs = fitting (piece.Reach i) o xs
    call_needs (piece.Share i j) o xs = fitting (piece.Share i j) o xs

    abbrev pub piece_needs : Piece → Op → List Need
    piece_needs x o = ask.when (not (some_nothing (map (rule.value p a g) o.args))) (call_needs x o (map (rule.value p a g) o.args))

    -- of the operation that a block begins with
    abbrev pub first_piece : Piece → List Op → List Need
    first_piece x [] = []
    first_piece x (o ∷ os) = piece_needs x o
