-- Where the variables of a graph are named, and how.
use Rattle.std.specs.Prelude.{ℕ, ◌+◌, ◌-◌, ◌^◌, ◌==◌, cond, List, [], ◌∷◌, slice_get, slice_set, Option, Some, None}
use Rattle.csub_tree.specs.declared.tree.COperand.{COperand}
use Rattle.csub_tree.specs.declared.tree.COperand.TheVariants.{Var, Const}
use Rattle.ll_code.specs.declared.program.LlLink.{LlLink}
use Rattle.ll_code.specs.declared.program.LlOp.{LlOp}
use Rattle.ll_code.specs.declared.program.LlOp.TheVariants as op
use Rattle.ll_code.specs.declared.program.LlExit.{LlExit}
use Rattle.ll_code.specs.declared.program.LlExit.TheVariants as exit
use Rattle.ll_code.specs.declared.program.LlBlock.{LlBlock}
use Rattle.ll_live.specs.Live.{set_by}
use Rattle.ll_joined.specs.declared.marks.Marks.{Marks}
use Rattle.ll_joined.specs.Counted.{add_one, has, one_more, zeros}

-- ---- marking

-- stands for more blocks than one
abbrev pub many : ℕ
many = 2 ^ 64 - 1

-- in no block so far, in this one, or in more than one
abbrev pub home_from : ℕ → ℕ → List ℕ → Option ℕ → List ℕ
home_from block v homes None = homes
home_from block v homes (Some home) = cond (home == 0) (slice_set homes v block) (cond (home == block) homes (slice_set homes v many))

abbrev pub name : ℕ → Marks → Marks
name v marks = record marks { named = add_one v marks.named; home = home_from marks.block v marks.home (slice_get marks.home v) }

-- where it is named first an operation sets it
abbrev pub first : ℕ → Marks → Marks
first v marks = cond (has 0 v marks.named) (record marks { first_set = add_one v marks.first_set }) marks

abbrev pub set : ℕ → Marks → Marks
set v marks = name v (first v marks)

-- no constant can stand there
abbrev pub ask : ℕ → Marks → Marks
ask v marks = name v (record marks { asked = add_one v marks.asked })

abbrev pub read : COperand → Marks → Marks
read (Var v) marks = name v marks
read (Const c) marks = marks

abbrev pub read_all : List COperand → Marks → Marks
read_all [] marks = marks
read_all (x ∷ xs) marks = read_all xs (read x marks)

abbrev pub ask_all : List ℕ → Marks → Marks
ask_all [] marks = marks
ask_all (v ∷ variables) marks = ask_all variables (ask v marks)

-- ---- operations

abbrev pub reads : LlOp → Marks → Marks
reads (op.Set a x) marks = read x marks
reads (op.Unary a o x) marks = read x marks
reads (op.Binary a o x y) marks = read y (read x marks)
reads (op.GetField a n b k) marks = ask b marks
reads (op.SetField n b k x) marks = read x (ask b marks)
reads (op.GetItem a n b i) marks = read i (ask b marks)
reads (op.SetItem n b i x) marks = read x (read i (ask b marks))
reads (op.New a m n) marks = marks
reads (op.NewArray a m n x) marks = read x marks
reads (op.Free a) marks = ask a marks
reads (op.Step x) marks = read x marks
reads (op.Call into g xs) marks = read_all xs marks
reads (op.CallFn into result params b xs) marks = read_all xs (ask b marks)
reads (op.ExcType a n) marks = marks
reads (op.ExcValue a n) marks = marks
reads (op.ExcSet a b) marks = ask b (ask a marks)
reads op.ExcClear marks = marks
reads (op.Argc a) marks = marks
reads (op.ArgLen a x) marks = read x marks
reads (op.Arg a x y) marks = read y (read x marks)
reads (op.Put x) marks = read x marks
reads (op.Raise a) marks = ask a marks

abbrev pub set_if : Option ℕ → Marks → Marks
set_if None marks = marks
set_if (Some a) marks = set a marks

abbrev pub in_ops : List LlOp → Marks → Marks
in_ops [] marks = marks
in_ops (o ∷ ops) marks = in_ops ops (set_if (set_by o) (reads o marks))

-- ---- exits

abbrev pub in_link_if : Option LlLink → Marks → Marks
in_link_if None marks = marks
in_link_if (Some link) marks = read_all link.args marks

abbrev pub in_exit : LlExit → Marks → Marks
in_exit (exit.Goto link) marks = read_all link.args marks
in_exit (exit.If a there elsewhere) marks = read_all elsewhere.args (read_all there.args (ask a marks))
in_exit (exit.OnRaise a by without) marks = read_all without.args (in_link_if by (ask a marks))
in_exit (exit.Return None) marks = marks
in_exit (exit.Return (Some x)) marks = read x marks
in_exit (exit.Raise a) marks = ask a marks
in_exit (exit.Fail why) marks = marks
in_exit (exit.Raised a) marks = ask a marks

-- ---- blocks

-- blocks are counted from 1 on
abbrev pub in_block : ℕ → LlBlock → Marks → Marks
in_block i block marks = in_exit block.exit (in_ops block.ops (ask_all block.inputs (record marks { block = one_more i })))

abbrev pub in_blocks : ℕ → List LlBlock → Marks → Marks
in_blocks i [] marks = marks
in_blocks i (block ∷ blocks) marks = in_blocks (i + 1) blocks (in_block i block marks)

abbrev pub no_marks : ℕ → Marks
no_marks count = record { named = zeros count; home = zeros count; asked = zeros count; first_set = zeros count; block = many }

-- of a graph with so many variables; its parameters are named outside of its blocks
abbrev pub marks_of : ℕ → List ℕ → List LlBlock → Marks
marks_of count params blocks = in_blocks 0 blocks (ask_all params (no_marks count))
