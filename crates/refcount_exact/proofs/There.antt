-- A block that is there in a state which stands for one of the program is held there.
use Rattle.std.proofs.Common.{◌≡◌, ◌<◌, ℕ, zero, suc, ◌+◌, List, Option, Some, sym, ap, ◌∙◌, arith}
use Rattle.csub_tree.specs.State.{Block}
use Rattle.ll_code.specs.State.{Frame, State, Calling, At, Returning, Throwing}
use Rattle.ll_code.specs.declared.program.LlProgram.{LlProgram}
use Rattle.ll_live.specs.Live.{live}
use Rattle.ll_held.specs.Held.{Held}
use Rattle.ll_held.specs.Roots.{roots, core_of}
use Rattle.refcount_transform.specs.Plan.{plan_of, reference_given}
use Rattle.refcount_transform.specs.Changes.{around_of}
use Rattle.refcount_laws.specs.Ghost.{Ghost, Slot, S, slot_at, shown, count_of}
use Rattle.refcount_laws.specs.Leaves.{given_to}
use Rattle.refcount_laws.specs.Made.{counts_of}
use Rattle.refcount_laws.specs.Owned.{owned, hits_by}
use Rattle.refcount_laws.specs.Touched.{block_in}
use Rattle.refcount_laws.specs.Whole.{Call, StandsFor, beside}
use Rattle.refcount_laws.proofs.Leftover.{edges_of}
use Rattle.refcount_laws.proofs.Reaching.{there_held}
use Rattle.refcount_ready.proofs.Room.{owns_at, owns_calling, owns_returning}

module _ (p : LlProgram) where
  pub slot_there : (d : Slot) (block : Block) → shown (counts_of (plan_of p)) d ≡ Some block → 0 < count_of d
  slot_there (S zero kind fields items) block e = absurd (cc)
  slot_there (S (suc n) kind fields items) block e = omega arith

  pub there_at : (s t : State) (calls : List Call) (others : List Frame) (g : Ghost) (h : List (Option Block)) → StandsFor p calls others s t g h → (b : ℕ) (block : Block) → block_in (core_of t).blocks b ≡ Some block → Held (core_of s).blocks (roots p s) b
  there_at (At ops e frames core) t calls others g h both b block is =
      there_held (counts_of (plan_of p)) g.blocks core.blocks (λ r. owned (around_of (plan_of p) both.graph.types) (live ops e) core.vars r + beside p calls frames core r) (roots p (At ops e frames core)) (edges_of p core.blocks core.statics g both.stands.near)
      (owns_at p both.graph.types calls ops e frames others core both.waits).named (λ b. both.counts.blocks b) b (slot_there (slot_at g.blocks b) block (sym (both.stands.shown.at b) ∙ ap (λ s. block_in (core_of s).blocks b) (sym both.is) ∙ is))
  there_at (Calling f values frames core) t calls others g h both b block is =
      there_held (counts_of (plan_of p)) g.blocks core.blocks (λ r. given_to (around_of (plan_of p) both.graph.types) 0 values r + beside p calls frames core r) (roots p (Calling f values frames core)) (edges_of p core.blocks core.statics g both.stands.near)
      (owns_calling p both.graph.types calls f values frames others core both.waits).named (λ b. both.counts.blocks b) b (slot_there (slot_at g.blocks b) block (sym (both.stands.shown.at b) ∙ ap (λ s. block_in (core_of s).blocks b) (sym both.is) ∙ is))
  there_at (Returning value frames core) t calls others g h both b block is =
      there_held (counts_of (plan_of p)) g.blocks core.blocks (λ r. hits_by (reference_given (plan_of p).counted (Some both.graph.result)) value r + beside p calls frames core r) (roots p (Returning value frames core)) (edges_of p core.blocks core.statics g both.stands.near)
      (owns_returning p (reference_given (plan_of p).counted (Some both.graph.result)) calls value frames others core both.waits).named (λ b. both.counts.blocks b) b (slot_there (slot_at g.blocks b) block (sym (both.stands.shown.at b) ∙ ap (λ s. block_in (core_of s).blocks b) (sym both.is) ∙ is))
  there_at (Throwing value frames core) t calls others g h both b block is = absurd both
