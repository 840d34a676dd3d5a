-- How many links lead to each block, how often each variable is set, and which block can follow at once.
use Rattle.std.specs.Prelude.{ℕ, ◌+◌, ◌-◌, ◌^◌, ◌==◌, ◌&&◌, not, min, Bool, true, false, cond, List, [], ◌∷◌, length, replicate, slice_get, slice_set, Option, Some, None}
use Rattle.csub_tree.specs.declared.tree.COperand.{COperand}
use Rattle.csub_tree.specs.declared.tree.COperand.TheVariants.{Var, Const}
use Rattle.ll_code.specs.declared.program.LlLink.{LlLink}
use Rattle.ll_code.specs.declared.program.LlOp.{LlOp}
use Rattle.ll_code.specs.declared.program.LlExit.{LlExit}
use Rattle.ll_code.specs.declared.program.LlExit.TheVariants as exit
use Rattle.ll_code.specs.declared.program.LlBlock.{LlBlock}
use Rattle.ll_live.specs.Live.{set_by}
use Rattle.ll_joined.specs.declared.count.Counts.{Counts}

-- ---- counting

-- counts end at the largest word
abbrev pub one_more : ℕ → ℕ
one_more n = min (n + 1) (2 ^ 64 - 1)

abbrev pub more_at : ℕ → List ℕ → Option ℕ → List ℕ
more_at at counts None = counts
more_at at counts (Some n) = slice_set counts at (one_more n)

-- one more at this place
abbrev pub add_one : ℕ → List ℕ → List ℕ
add_one at counts = more_at at counts (slice_get counts at)

abbrev pub is : ℕ → Option ℕ → Bool
is n None = false
is n (Some count) = count == n

abbrev pub has : ℕ → ℕ → List ℕ → Bool
has n at counts = is n (slice_get counts at)

abbrev pub zeros : ℕ → List ℕ
zeros count = replicate count 0

-- ---- what sets a variable

abbrev pub add_if : Option ℕ → List ℕ → List ℕ
add_if None counts = counts
add_if (Some a) counts = add_one a counts

abbrev pub sets_in : List LlOp → List ℕ → List ℕ
sets_in [] counts = counts
sets_in (o ∷ ops) counts = sets_in ops (add_if (set_by o) counts)

abbrev pub inputs_in : List ℕ → List ℕ → List ℕ
inputs_in [] counts = counts
inputs_in (v ∷ inputs) counts = inputs_in inputs (add_one v counts)

-- the variable of an exception is set
abbrev pub set_by_exit : LlExit → List ℕ → List ℕ
set_by_exit (exit.OnRaise a by without) counts = add_one a counts
set_by_exit other counts = counts

-- ---- what leads to a block

abbrev pub led_if : Option LlLink → List ℕ → List ℕ
led_if None counts = counts
led_if (Some link) counts = add_one link.to counts

abbrev pub led_by : LlExit → List ℕ → List ℕ
led_by (exit.Goto link) counts = add_one link.to counts
led_by (exit.If a there elsewhere) counts = add_one elsewhere.to (add_one there.to counts)
led_by (exit.OnRaise a by without) counts = add_one without.to (led_if by counts)
led_by other counts = counts

abbrev pub counted : LlBlock → Counts → Counts
counted block counts = record { to = led_by block.exit counts.to; set = set_by_exit block.exit (sets_in block.ops (inputs_in block.inputs counts.set)) }

abbrev pub counted_in : List LlBlock → Counts → Counts
counted_in [] counts = counts
counted_in (block ∷ blocks) counts = counted_in blocks (counted block counts)

-- of a graph with so many variables
abbrev pub counts_of : ℕ → List LlBlock → Counts
counts_of variables blocks = counted_in blocks (record { to = zeros (length blocks); set = zeros variables })

-- ---- what can follow at once

abbrev pub is_alone : Counts → Option ℕ → Bool
is_alone counts None = true
is_alone counts (Some a) = has 1 a counts.set

-- what the operations set is set by nothing else
abbrev pub are_alone : Counts → List LlOp → Bool
are_alone counts [] = true
are_alone counts (o ∷ ops) = is_alone counts (set_by o) && are_alone counts ops

abbrev pub are_some : List LlOp → Bool
are_some [] = false
are_some (o ∷ ops) = true

-- an exit by exceptions is one of the block's last operation
abbrev pub is_exit_alone : Counts → List LlOp → LlExit → Bool
is_exit_alone counts ops (exit.OnRaise a by without) = has 1 a counts.set && are_some ops
is_exit_alone counts ops other = true

-- an input becomes a variable, or is set by nothing else
abbrev pub is_named : Counts → ℕ → COperand → Bool
is_named counts v (Var w) = true
is_named counts v (Const c) = has 1 v counts.set

abbrev pub are_named : Counts → List ℕ → List COperand → Bool
are_named counts [] xs = true
are_named counts (v ∷ inputs) [] = false
are_named counts (v ∷ inputs) (x ∷ xs) = is_named counts v x && are_named counts inputs xs

abbrev pub is_open : Counts → LlLink → LlBlock → Bool
is_open counts link next = not (link.to == 0) && (has 1 link.to counts.to && (are_named counts next.inputs link.args && (are_alone counts next.ops && is_exit_alone counts next.ops next.exit)))

abbrev pub follows_by : Counts → LlLink → Option LlBlock → Option LlLink
follows_by counts link None = None
follows_by counts link (Some next) = cond (is_open counts link next) (Some link) None

-- the link to a block that can follow at once
abbrev pub follows : List LlBlock → Counts → LlExit → Option LlLink
follows blocks counts (exit.Goto link) = follows_by counts link (slice_get blocks link.to)
follows blocks counts other = None

abbrev pub taken_from : List LlBlock → Counts → List LlBlock → List ℕ → List ℕ
taken_from all counts [] taken = taken
taken_from all counts (block ∷ blocks) taken = taken_from all counts blocks (led_if (follows all counts block.exit) taken)

-- for each block how many others take it in, one or none
abbrev pub taken_in : List LlBlock → Counts → List ℕ
taken_in blocks counts = taken_from blocks counts blocks (zeros (length blocks))
