-- What lists and dicts grow by is paid, along whole runs.
use Rattle.std.specs.Prelude.{ℕ}
use Rattle.rpy_meaning.specs.Laws.{HasRoom}
use Rattle.rpy_meaning.specs.Tree.{Program}
use Rattle.flow_graph.specs.declared.graph.Graphs.{Graphs}
use Rattle.flow_meaning.specs.Machine.{State, world_of}
use Rattle.flow_runs.specs.Runs.{Reaches}

-- a bound on the size of each list and dict with the steps left stays one wherever a run comes to
abbrev pub RoomIsKept : Type 0
RoomIsKept = (p : Program) (gs : Graphs) (most : ℕ) (state last : State) → Reaches p gs state last → HasRoom most (world_of state) → HasRoom most (world_of last)
