-- Rows: a list of two links whose second is held twice, and once more by a variable; and a run that leaves nothing.
use Rattle.std.proofs.Common.{◌≡◌, ◌≤◌, ℕ, zero, suc, pos, [], ◌∷◌, Some, None, refl, sym, arith}
use Rattle.std.proofs.Common.{codes}
use Rattle.std.specs.Int.{int_wrap}
use Rattle.rpy_base.specs.declared.outcome.Outcome.TheVariants.{Returned}
use Rattle.csub_tree.specs.State.{Word, Fun, Null, Ptr, Block, Core, Made}
use Rattle.csub_tree.specs.declared.tree.CConst.TheVariants as constant
use Rattle.csub_tree.specs.declared.tree.COperand.TheVariants.{Var, Const}
use Rattle.ll_code.specs.State.{State, At, Returning}
use Rattle.ll_code.specs.Machine.{shapes_from}
use Rattle.ll_code.specs.Meaning.{Meant, LMeans, Came, run}
use Rattle.ll_code.specs.Typed.{begins_within}
use Rattle.ll_code.specs.declared.program.LlStage.TheVariants as stage
use Rattle.ll_code.specs.declared.program.LlType.TheVariants as type
use Rattle.ll_code.specs.declared.program.LlOp.TheVariants as op
use Rattle.ll_code.specs.declared.program.LlProgram.{LlProgram}
use Rattle.ll_code.specs.declared.program.LlExit.TheVariants as exit
use Rattle.ll_held.specs.Held.{Refers, Reaches, Next, Then}
use Rattle.ll_events.specs.Told.{EndsAt}
use Rattle.refcount_transform.specs.Counted.{counted}
use Rattle.refcount_ready.specs.Programs.{CanBeCounted, RunsSmall}
use Rattle.refcount_ready.proofs.Inputs.{known_reads}
use Rattle.refcount_ready.proofs.Small.{fine_within, small_run}
use Rattle.refcount_exact.specs.Exact.{inner, outer, HasCount}
use Rattle.refcount_exact.specs.Endings.{EndsEmpty}
use Rattle.refcount_exact.proofs.Endings.{returns_empty}

-- the second block has this count
abbrev second : ℕ → Block
second n = record { kind = 0; fields = Word (pos n) ∷ Fun 1 ∷ Null ∷ Null ∷ []; items = [] }

abbrev memory : ℕ → Core
memory n = record {
  function = 0;
  block = 0;
  at = 0;
  vars = Ptr 0 ∷ Ptr 1 ∷ [];
  callers = [];
  blocks = Some (record { kind = 0; fields = Word (pos 1) ∷ Fun 1 ∷ Ptr 1 ∷ Ptr 1 ∷ []; items = [] }) ∷ Some (second n) ∷ None ∷ [];
  statics = [];
  exc_type = Null;
  exc_value = Null;
  steps = 0;
}

abbrev state : ℕ → State
state n = At [] (exit.Return None) [] (memory n)

pub held_twice : inner (memory 3) 1 ≡ 2
held_twice = refl

pub named_once : outer (state 3) 1 ≡ 1
named_once = refl

-- the variable may own its reference or not
pub counts_three : HasCount (state 3) 1 (second 3)
counts_three = record { count = 3; first = refl; least = omega arith; most = omega arith }

pub counts_two : HasCount (state 2) 1 (second 2)
counts_two = record { count = 2; first = refl; least = omega arith; most = omega arith }

-- but no reference is counted that is none, and none is left out
pub not_four : HasCount (state 4) 1 (second 4) → ⊥
not_four w = let e : Word (pos w.count) ≡ Word (pos 4) = sym w.first in let f : w.count ≡ 4 = cc in let h : w.count ≤ 3 = w.most in omega (arith, f, h)

pub not_one : HasCount (state 1) 1 (second 1) → ⊥
not_one w = let e : Word (pos w.count) ≡ Word (pos 1) = sym w.first in let f : w.count ≡ 1 = cc in let h : 2 ≤ w.count = w.least in omega (arith, f, h)

-- ---- a run that leaves nothing: it makes one link, and returns a word

abbrev one_link : LlProgram
one_link = record {
  stage = stage.Explicit;
  structs = record { base = None; fields = type.Ptr 0 ∷ []; items = None } ∷ [];
  statics = [];
  graphs = record {
    name = codes "main";
    params = [];
    result = type.Signed;
    types = type.Signed ∷ type.Ptr 0 ∷ [];
    blocks = record { inputs = []; ops = op.Set 0 (Const (constant.Word (pos 2))) ∷ op.New 1 0 0 ∷ op.SetField 0 1 0 (Const constant.Null) ∷ []; exit = exit.Return (Some (Var 0)) } ∷ [];
  } ∷ [];
  entry = 0;
}

can : CanBeCounted one_link
unfolding begins_within
can = record { typed = refl; agrees = refl; leads = refl; numbers = refl; inputs = known_reads one_link refl; countable = refl }

small : RunsSmall one_link [] 100
unfolding fine_within shapes_from
small = small_run one_link [] 20 100 refl

abbrev at_end : Core
at_end = record {
  function = 0;
  block = 0;
  at = 3;
  vars = Word (pos 2) ∷ Ptr 0 ∷ [];
  callers = [];
  blocks = Some (record { kind = 0; fields = Null ∷ []; items = [] }) ∷ [];
  statics = [];
  exc_type = Null;
  exc_value = Null;
  steps = 100;
}

abbrev meant : Meant
meant = record { ending = Came (Returned (pos 2)); output = []; paid = 0; made = (0, 0, 1) ∷ []; gone = [] }

ends : EndsAt one_link [] 100 (Returning (Word (pos 2)) [] at_end) meant
unfolding run shapes_from
ends = record { taken = 5; text = []; events = Made 0 0 1 ∷ []; comes = refl; ends = refl }

refers_not : (a b : ℕ) → Refers at_end.blocks a b → ⊥
refers_not zero b h = omega (arith, h)
refers_not (suc a) b h = omega (arith, h)

apart : (b : ℕ) → Reaches at_end.blocks b b → ⊥
apart b (Next r) = refers_not b _ r
apart b (Then r w) = refers_not b _ r

-- so the link is gone at the end of the counted program
leaves_nothing : EndsEmpty one_link [] 100 meant
leaves_nothing = returns_empty one_link can [] 100 small (pos 2) (Returning (Word (pos 2)) [] at_end) meant ends refl (record { kind = refl; value = refl; apart = apart })

-- as that computes itself
counted_means : LMeans (counted one_link) [] 100 (record { ending = Came (Returned (pos 2)); output = []; paid = 0; made = (0, 0, 3) ∷ []; gone = 0 ∷ [] })
unfolding run shapes_from int_wrap
counted_means = (100, refl)
