-- How a run ends, as far as it is compared, and how much it holds at each of its moments.
use Rattle.std.specs.Prelude.{◌≡◌, ℕ, zero, suc, ◌+◌, ◌-◌, ◌^◌, ◌<◌, ◌≤◌, Bool, true, false, List, length, filter, sum_by, Some, if◌then◌else◌}
use Rattle.std.specs.List.{range_with_len}
use Rattle.rpy_base.specs.declared.outcome.Outcome.{Outcome}
use Rattle.rpy_tree.specs.Value.{Value, Heap}
use Rattle.rpy_tree.specs.Held.{refs, texts, values_at, is_among, held_objects}
use Rattle.rpy_meaning.specs.Tree.{Program}
use Rattle.rpy_meaning.specs.declared.row.RowOp.{RowOp}
use Rattle.rpy_meaning.specs.declared.row.RowOp.TheVariants as row
use Rattle.rpy_meaning.specs.Evaluation.{Done, Running, Eval, pure}
use Rattle.rpy_meaning.specs.Meaning.{Run, Moment, Before, Behind, Entry, Watch, prebuilt, run}

-- a run ends so, with this output
abbrev pub EndsAs : Outcome → List ℕ → Run → Type 0
EndsAs outcome output r = (r.outcome ≡ Some outcome) × (r.world.out ≡ output)

-- two runs end in one kind, with one word or name, and one output
abbrev pub Same : Run → Run → Type 0
Same r q = (r.outcome ≡ q.outcome) × (r.world.out ≡ q.world.out)

-- ---- what is held

-- the objects that can be reached from the roots or from an object on a cycle, but for those that are there from the start
abbrev pub counted : ℕ → List Value → Heap → List ℕ
counted prebuilt roots heap = filter (λ n. is_among n (held_objects roots heap)) (range_with_len prebuilt (length heap - prebuilt))

-- what the values in the roots and in these objects weigh together, each as often as it stands
abbrev pub weight : (Value → ℕ) → ℕ → List Value → Heap → ℕ
weight f prebuilt roots heap = sum_by f roots + sum_by (λ n. sum_by f (values_at heap n)) (counted prebuilt roots heap)

-- these objects, and the strings and tuples in the roots and in them
abbrev pub held : ℕ → List Value → Heap → ℕ
held prebuilt roots heap = length (counted prebuilt roots heap) + weight texts prebuilt roots heap

abbrev pub references : ℕ → List Value → Heap → ℕ
references prebuilt roots heap = weight (λ v. length (refs v)) prebuilt roots heap

-- how much a run holds where it ends or is stopped
abbrev pub held_by : Program → Run → ℕ
held_by p r = held (length (prebuilt p)) r.held r.world.heap

abbrev pub references_of : Program → Run → ℕ
references_of p r = references (length (prebuilt p)) r.held r.world.heap

-- these values hold no more than those: whatever each value weighs
abbrev pub NoMore : List Value → List Value → Type 0
NoMore vs us = (f : Value → ℕ) → sum_by f vs ≤ sum_by f us

-- ---- moments

abbrev pub stopped_at : ℕ → List Value → Eval (Unit {0})
stopped_at zero roots = λ s. Running roots s
stopped_at (suc m) roots = λ s. Done tt (record s { moments = m })

-- operations that hand a value on, ask for its truth or raise it: they make and change nothing
abbrev pub is_slight : RowOp → Bool
is_slight (row.Word z) = true
is_slight (row.Str text) = true
is_slight (row.Bool b) = true
is_slight row.None = true
is_slight (row.Constant a) = true
is_slight row.Copy = true
is_slight row.Not = true
is_slight row.Truth = true
is_slight (row.Unpack count place) = true
is_slight row.Raise = true
is_slight row.DropNone = true
is_slight row.OnlyNone = true
is_slight row.FalseNone = true
is_slight (row.Lower class) = true
is_slight row.NonNegative = true
is_slight other = false

-- these are passed over, and so is what stands behind a comparison, where no more is held than before it
abbrev pub is_passed_over : Moment → Bool
is_passed_over (Before o) = is_slight o
is_passed_over (Behind (row.Compare f)) = true
is_passed_over (Behind o) = is_slight o
is_passed_over Entry = false

-- a run that stops at the moment with its number
abbrev pub stopping : Watch
stopping at roots = if is_passed_over at then pure tt else (λ s. stopped_at s.moments roots s)

-- the run as it stands before or behind an operation or at the entry of a call: these are its moments, in order, and the last is its end
abbrev pub moment : Program → List (List ℕ) → ℕ → ℕ → Run
moment p args n m = run p stopping args n m

-- at every moment the values and references that are held are few enough for a count to fit a word
abbrev pub Few : Program → List (List ℕ) → ℕ → Type 0
Few p args n = (m : ℕ) → held_by p (moment p args n m) + references_of p (moment p args n m) < 2 ^ 58
