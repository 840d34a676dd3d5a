-- Blocks by places: the inputs of a block are 0 to m - 1, and the result of its operation, or the exception, is m.
use Rattle.std.specs.Prelude.{ℕ, zero, suc, ◌+◌, Bool, List, [], ◌∷◌, ◌++◌, map, slice_set, Option, Some, None}
use Rattle.rpy_meaning.specs.declared.row.Covers.{Covers}
use Rattle.rpy_meaning.specs.declared.row.RowOp.{RowOp}
use Rattle.rpy_meaning.specs.Classes.{no_covers}
use Rattle.flow_graph.specs.declared.graph.Link.{Link}
use Rattle.flow_graph.specs.declared.graph.Exit.{Exit}
use Rattle.flow_graph.specs.declared.graph.Exit.TheVariants as exit
use Rattle.flow_graph.specs.declared.graph.Op.{Op}
use Rattle.flow_graph.specs.declared.graph.Block.{Block}

-- the k numbers from a
abbrev pub range : ℕ → ℕ → List ℕ
range a zero = []
range a (suc k) = a ∷ range (a + 1) k

-- a block, and how many of the variables go on to it, the first ones
pub record Aim : Type 0 where
  pub to : ℕ
  pub keep : ℕ

-- an exception of the class goes to the block with the first variables, of which the local, if there is one, is the exception then
pub record Hand : Type 0 where
  pub class : ℕ
  pub local : Option ℕ
  pub aim : Aim

-- Where exceptions go: to the first hand that takes them, else on with the first variables and the exception; for which failures they
-- come; and whether a `try` stands around.
pub record Scope : Type 0 where
  pub hands : List Hand
  pub default : Aim
  pub covers : Covers
  pub tried : Bool

-- where a statement goes on to: `norm` with all variables, the others with the first ones, `ret` with the returned value besides
pub record Ways : Type 0 where
  pub norm : ℕ
  pub brk : Aim
  pub cont : Aim
  pub ret : Aim

abbrev pub onto : Ways → ℕ → Ways
onto t k = record t { norm = k }

-- a block, and the places of the variables that go on to it
pub record Jump : Type 0 where
  pub to : ℕ
  pub places : List ℕ

abbrev pub first : ℕ → ℕ → Jump
first to keep = record { to = to; places = range 0 keep }

abbrev pub first_and : ℕ → ℕ → ℕ → Jump
first_and to keep last = record { to = to; places = range 0 keep ++ last ∷ [] }

-- the first variables, of which the local is the one at a place
abbrev pub stored : ℕ → ℕ → ℕ → ℕ → Jump
stored to keep local place = record { to = to; places = slice_set (range 0 keep) local place }

abbrev pub on_to : Aim → Jump
on_to aim = first aim.to aim.keep

-- where a hand takes the exception at a place
abbrev pub stored_if_any : Aim → Option ℕ → ℕ → Jump
stored_if_any aim None place = first aim.to aim.keep
stored_if_any aim (Some local) place = stored aim.to aim.keep local place

abbrev pub hand_jumps : ℕ → List Hand → List (ℕ × Jump)
hand_jumps place [] = []
hand_jumps place (hand ∷ hands) = (hand.class, stored_if_any hand.aim hand.local place) ∷ hand_jumps place hands

-- ---- blocks

-- one that goes on at once; by the truth of a variable; by how its operation ends; or, after an operation that cannot raise, at once; one
-- that returns its input, and one that leaves the function by it
pub data Shape : Type 0 where
  Go : Jump → Shape
  Fork : (test : ℕ) → (so other_way : Jump) → Shape
  Does : RowOp → (args : List ℕ) → Covers → (hands : List (ℕ × Jump)) → (default norm : Jump) → Shape
  Plain : RowOp → Jump → Shape
  GiveBack : Shape
  GiveUp : Shape

module _ (base : ℕ) where
  abbrev pub shift : List ℕ → List ℕ
  shift places = map (λ place. base + place) places

  abbrev pub link : Jump → Link
  link jump = record { to = jump.to; args = shift jump.places }

  abbrev pub links : List (ℕ × Jump) → List (ℕ × Link)
  links [] = []
  links (jump ∷ jumps) = (jump.0, link jump.1) ∷ links jumps

  module _ (m node : ℕ) (value : Bool) where
    abbrev pub act : RowOp → List ℕ → Covers → Op
    act o args covers = record { result = base + m; op = o; args = shift args; node = node; value = value; covered = covers }

    abbrev pub block : List Op → Exit → Block
    block ops exit = record { inputs = shift (range 0 m); ops = ops; exit = exit }

    -- the block of this shape, with m inputs of which the first has the number `base`
    abbrev pub numbered : Shape → Block
    numbered (Go jump) = block [] (exit.Goto (link jump))
    numbered (Fork test so other_way) = block [] (exit.If (base + test) (link so) (link other_way))
    numbered (Does o args covers hands default norm) =
        block (act o args covers ∷ []) (exit.OnRaise (base + m) (links hands) (Some (link default)) (link norm))
    numbered (Plain o jump) = block (act o [] no_covers ∷ []) (exit.Goto (link jump))
    numbered GiveBack = block [] (exit.Return (base + 0))
    numbered GiveUp = block [] (exit.Raise (base + 0))
