-- The machine's state as its definition sees it.
use Rattle.std.specs.Prelude.{◌≡◌, ℕ, List, [], map, replicate}
use Rattle.std.specs.List.{All}
use Rattle.csub_tree.specs.State.{Unset, Null, Block, Core, Event, Made, Freed, After, Onward, Puts, Told, Over, Stuck}
use Rattle.csub_runner.specs.Erased.{erase, erase_all, erase_cells, erase_caller}
use Rattle.csub_runner.specs.Heap.{IsSound, ValOk, CellsOk, blocks_of}
use Rattle.csub_runner.specs.Waiting.{Waiting}
use Rattle.csub_runner.specs.declared.val.Val.{Val}
use Rattle.csub_runner.specs.declared.val.Cells.{Cells}
use Rattle.csub_runner.specs.declared.heap.Heap.{Heap}
use Rattle.csub_runner.specs.declared.machine.Machine.{Machine}
use Rattle.csub_runner.specs.declared.machine.Next.{Next}
use Rattle.csub_runner.specs.declared.plain.Went.{Went}
use Rattle.csub_runner.specs.declared.plain.Went.TheVariants.{On, Jumped, Undone}
use Rattle.csub_runner.specs.declared.machine.Next.TheVariants.{Goes, Puts as NextPuts, Made as NextMade, Freed as NextFreed, Ends, Stuck as NextStuck}

abbrev pub core_of : Machine → Core
core_of m = record {
  function = m.function;
  block = m.block;
  at = m.at;
  vars = erase_all m.vars.items;
  callers = map erase_caller m.callers.items;
  blocks = blocks_of m.heap;
  statics = map erase_cells m.statics.items;
  exc_type = erase m.exc_type;
  exc_value = erase m.exc_value;
  steps = m.steps;
}

-- the heap is sound, and each pointer that is stored is ok
pub record AllOk (heap : Heap) (vars : List Val) (callers : List Waiting) (statics : List Cells) (type value : Val) : Type 0 where
  pub sound : IsSound heap
  pub vars_ok : All (ValOk heap) vars
  pub callers_ok : All (λ w. All (ValOk heap) w.vars) callers
  pub statics_ok : All (CellsOk heap) statics
  pub type_ok : ValOk heap type
  pub value_ok : ValOk heap value

abbrev pub MachineOk : Machine → Type 0
MachineOk m = AllOk m.heap m.vars.items m.callers.items m.statics.items m.exc_type m.exc_value

-- how the code names an event
abbrev pub named : Event → Next
named (Made number kind cells) = NextMade number kind cells
named (Freed number) = NextFreed number

-- what the code answers and leaves is what the machine does
abbrev pub IsStep : Core → After → Next → Core → Type 0
IsStep old (Onward core) next new = (next ≡ Goes) × (new ≡ core)
IsStep old (Puts byte core) next new = (next ≡ NextPuts byte) × (new ≡ core)
IsStep old (Told event core) next new = (next ≡ named event) × (new ≡ core)
IsStep old (Over outcome core) next new = (next ≡ Ends outcome) × (new ≡ core)
IsStep old (Stuck reason) next new = (next ≡ NextStuck reason) × (new ≡ old)

-- how a plain statement went: it leads on, behind itself or at a label; or it is not done
abbrev pub Plainly : After → Went → Core → Core → Type 0
Plainly after On old new = (after ≡ Onward new) × (new.function ≡ old.function) × (new.block ≡ old.block)
Plainly after Jumped old new = after ≡ Onward new
Plainly after Undone old new = new ≡ old

-- at the start of a function of so many variables, with no block
abbrev pub new_core : ℕ → ℕ → List Block → ℕ → Core
new_core function locals statics steps = record {
  function = function;
  block = 0;
  at = 0;
  vars = replicate locals Unset;
  callers = [];
  blocks = [];
  statics = statics;
  exc_type = Null;
  exc_value = Null;
  steps = steps;
}
