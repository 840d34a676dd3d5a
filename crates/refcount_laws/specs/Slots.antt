-- The exception slots, each of which owns what it holds, where that is counted.
use Rattle.std.specs.Prelude.{◌≡◌, ℕ, ◌+◌, true, Option, Some}
use Rattle.csub_tree.specs.State.{Value, Core}
use Rattle.ll_code.specs.declared.program.LlProgram.{LlProgram}
use Rattle.refcount_transform.specs.Plan.{Plan, plan_of, is_counted, root_of}
use Rattle.refcount_laws.specs.Matches.{PointsTo}
use Rattle.refcount_laws.specs.Owned.{hits_by}

abbrev pub slot_hits : Plan → Value → Value → Value → ℕ
slot_hits plan kind value r = hits_by plan.slots.kind kind r + hits_by plan.slots.value value r

-- what a slot refers to is a root that is counted, and what it holds leads there
abbrev pub SlotLeads : LlProgram → Core → Option ℕ → Value → Type 0
SlotLeads p core o value = (n : ℕ) → o ≡ Some n → (is_counted (plan_of p) n ≡ true) × (root_of (plan_of p) n ≡ n) × PointsTo p core.blocks core.statics n value
