-- The room with which a run begins.
use Rattle.std.specs.Prelude.{◌≡◌, ◌≤◌, ◌+◌, ℕ, List, length, slice_get, Some}
use Rattle.rpy_tree.specs.Value.{Object}
use Rattle.rpy_meaning.specs.Laws.{HasRoom, size}
use Rattle.rpy_meaning.specs.Tree.{Program}
use Rattle.flow_meaning.specs.Machine.{world_of}
use Rattle.flow_meaning.specs.Meaning.{start}

-- A run begins with room for its steps where each list and dict of a module, and the list of arguments, has it.
abbrev pub StartsHaveRoom : Type 0
StartsHaveRoom = (q : Program) (args : List (List ℕ)) (steps most : ℕ) → ((s : ℕ) (object : Object) → slice_get q.sites s ≡ Some (Some object) → size object + steps ≤ most) → length args + steps ≤ most
    → HasRoom most (world_of (start q args steps))
