-- Variables that are copies. One that is set once, to another variable or to a constant, and is named in one block alone, behind
-- that, is another name of what it is set to, as long as that stays what it is up to the block's end.
use Rattle.std.specs.Prelude.{ℕ, zero, suc, ◌+◌, ◌==◌, ◌&&◌, Bool, true, false, cond, List, [], ◌∷◌, ◌++◌, length, slice_get, slice_set, Option, Some, None}
use Rattle.csub_tree.specs.declared.tree.COperand.{COperand}
use Rattle.csub_tree.specs.declared.tree.COperand.TheVariants.{Var, Const}
use Rattle.ll_code.specs.declared.program.LlType.{LlType}
use Rattle.ll_code.specs.declared.program.LlType.TheVariants as type
use Rattle.ll_code.specs.declared.program.LlOp.{LlOp}
use Rattle.ll_code.specs.declared.program.LlOp.TheVariants as op
use Rattle.ll_code.specs.declared.program.LlExit.{LlExit}
use Rattle.ll_code.specs.declared.program.LlExit.TheVariants as exit
use Rattle.ll_code.specs.declared.program.LlBlock.{LlBlock}
use Rattle.ll_live.specs.Live.{set_by}
use Rattle.ll_joined.specs.declared.count.Counts.{Counts}
use Rattle.ll_joined.specs.declared.marks.Marks.{Marks}
use Rattle.ll_joined.specs.declared.copies.Copies.{Copies}
use Rattle.ll_joined.specs.declared.copies.Known.{Known}
use Rattle.ll_joined.specs.Named.{ByValues, operand_by, named, exit_by}
use Rattle.ll_joined.specs.Counted.{has, one_more, zeros, add_if, sets_in, set_by_exit, are_some}

-- ---- what is known

-- the types of a graph's variables; how often each is set, by operations, or by an exception, and by anything; and where it is named
pub record Facts : Type 0 where
  pub types : List LlType
  pub set : List ℕ
  pub changes : List ℕ
  pub marks : Marks

abbrev pub facts : Known → Facts
facts known = record { types = known.types.now; set = known.counts.now.set; changes = known.changes.now; marks = known.marks.now }

abbrev pub changes_in : List LlBlock → List ℕ → List ℕ
changes_in [] changes = changes
changes_in (block ∷ blocks) changes = changes_in blocks (set_by_exit block.exit (sets_in block.ops changes))

abbrev pub own_from : ℕ → ℕ → List COperand
own_from i zero = []
own_from i (suc count) = Var i ∷ own_from (i + 1) count

-- ---- copies

abbrev pub same_kind : LlType → LlType → Bool
same_kind type.Signed type.Signed = true
same_kind type.Char type.Char = true
same_kind type.Bool type.Bool = true
same_kind type.Void type.Void = true
same_kind type.Fn type.Fn = true
same_kind (type.Ptr m) (type.Ptr n) = m == n
same_kind s t = false

abbrev pub same_kinds : Option LlType → Option LlType → Bool
same_kinds None None = true
same_kinds (Some s) (Some t) = same_kind s t
same_kinds s t = false

abbrev pub same_counts : Option ℕ → Option ℕ → Bool
same_counts None None = true
same_counts (Some m) (Some n) = m == n
same_counts m n = false

-- the variable is set once, and named in this block alone, first where it is set
abbrev pub is_local : Facts → ℕ → ℕ → Bool
is_local known block a = has 1 a known.set && (has block a known.marks.home && has 1 a known.marks.first_set)

-- no operation sets the second variable from here to the end of the block
abbrev pub is_same : Facts → List ℕ → ℕ → ℕ → Bool
is_same known done a b = same_kinds (slice_get known.types a) (slice_get known.types b) && same_counts (slice_get known.changes b) (slice_get done b)

abbrev pub stands_for : Facts → List ℕ → ℕ → COperand → Bool
stands_for known done a (Var b) = is_same known done a b
stands_for known done a (Const c) = has 0 a known.marks.asked

abbrev pub is_copy : Facts → List ℕ → ℕ → ℕ → COperand → Bool
is_copy known done block a x = is_local known block a && stands_for known done a x

-- ---- operations

-- what is left of an operation, none where it makes a copy
pub record Left : Type 0 where
  pub ops : List LlOp
  pub copies : Copies

abbrev pub left_in : List LlOp → Copies → Left
left_in ops copies = record { ops = ops; copies = copies }

abbrev pub kept : Copies → LlOp → Left
kept copies o = record { ops = named (ByValues copies.values) o ∷ []; copies = record copies { done = add_if (set_by o) copies.done } }

abbrev pub set_or_kept : Facts → ℕ → Copies → LlOp → ℕ → COperand → Left
set_or_kept known block copies o a value = cond (is_copy known copies.done block a value) (record { ops = []; copies = record copies { values = slice_set copies.values a value } }) (kept copies o)

abbrev pub left_of : Facts → ℕ → Copies → LlOp → Left
left_of known block copies (op.Set a x) = set_or_kept known block copies (op.Set a x) a (operand_by (ByValues copies.values) x)
left_of known block copies other = kept copies other

-- an exit by exceptions is one of the last operation, which stays the last: no variable is named in block 0 alone
abbrev pub home_of : ℕ → LlExit → List LlOp → ℕ
home_of block (exit.OnRaise a by without) rest = cond (are_some rest) block 0
home_of block other rest = block

abbrev pub behind : List LlOp → Left → Left
behind ops left = record left { ops = ops ++ left.ops }

abbrev pub left_from : Facts → ℕ → LlExit → List LlOp → Left → Left
left_from known block e [] left = left
left_from known block e (o ∷ rest) left = left_from known block e rest (behind left.ops (left_of known (home_of block e rest) left.copies o))

-- ---- blocks

abbrev pub ops_left : Facts → ℕ → Copies → LlBlock → Left
ops_left known number copies block = left_from known number block.exit block.ops (record { ops = []; copies = copies })

abbrev pub copies_then : LlExit → Copies → Copies
copies_then e copies = record copies { done = set_by_exit e copies.done }

abbrev pub block_by_left : LlBlock → Left → LlBlock
block_by_left block left = record { inputs = block.inputs; ops = left.ops; exit = exit_by (ByValues left.copies.values) [] block.exit }

abbrev pub block_without : Facts → ℕ → Copies → LlBlock → LlBlock
block_without known number copies block = block_by_left block (ops_left known number copies block)

abbrev pub copies_behind : Facts → ℕ → Copies → LlBlock → Copies
copies_behind known number copies block = copies_then block.exit (ops_left known number copies block).copies

abbrev pub blocks_without : Facts → ℕ → Copies → List LlBlock → List LlBlock
blocks_without known i copies [] = []
blocks_without known i copies (block ∷ blocks) = block_without known (one_more i) copies block ∷ blocks_without known (i + 1) (copies_behind known (one_more i) copies block) blocks

abbrev pub no_copies : ℕ → Copies
no_copies count = record { values = own_from 0 count; done = zeros count }

abbrev pub without_copies : List LlType → Counts → Marks → List LlBlock → List LlBlock
without_copies types counts marks blocks =
    blocks_without (record { types = types; set = counts.set; changes = changes_in blocks (zeros (length types)); marks = marks }) 0 (no_copies (length types)) blocks
