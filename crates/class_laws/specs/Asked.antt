-- Graphs of classes that are asked for stand at their numbers.
use Rattle.std.specs.Prelude.{◌≡◌, ℕ, List, [], Some, slice_get}
use Rattle.csub_tree.specs.State.{Value, Core}
use Rattle.ll_code.specs.declared.program.LlProgram.{LlProgram}
use Rattle.ll_build.specs.declared.needs.Numbers.{Numbers}
use Rattle.rtyper_data.specs.declared.found.Found.{Found}
use Rattle.rtyper_data.specs.declared.small.Small.{Small}
use Rattle.rtyper_data.specs.declared.small.Small.TheVariants as small
use Rattle.rtyper_data.specs.Finding.{small_number}
use Rattle.rtyper_class.specs.Seen.{World}
use Rattle.rtyper_class.specs.Smalls.{class_graph}
use Rattle.lower_laws.specs.Asked.{Ask, Make, AllRaise, if_raised}
use Rattle.list_laws.specs.Asked.{Has as HasOther}

-- the classes of what a graph of classes raises
abbrev pub raised_by : Small → List ℕ
raised_by (small.Attribute own place raises) = if_raised raises 9
raised_by other = []

-- the graph has this number, and what it raises is raised
pub record HasClass (p : LlProgram) (world : World) (raised : ℕ → Value) (s : Small) (f : ℕ) : Type 0 where
  pub made : Found
  pub graph : slice_get p.graphs f ≡ Some (class_graph world s made).0
  pub raises : AllRaise p raised (raised_by s) made

abbrev pub Has : World → LlProgram → Numbers → (ℕ → Value) → Core → Ask → Found → Type 0
Has world p numbers raised core (Make (small.New class)) found = HasClass p world raised (small.New class) (small_number (small.New class) found).0
Has world p numbers raised core (Make (small.Attribute own place raises)) found = HasClass p world raised (small.Attribute own place raises) (small_number (small.Attribute own place raises) found).0
Has world p numbers raised core (Make (small.IsInstance root vtable low high)) found = HasClass p world raised (small.IsInstance root vtable low high) (small_number (small.IsInstance root vtable low high) found).0
Has world p numbers raised core ask found = HasOther p world.around.layout numbers raised core ask found
