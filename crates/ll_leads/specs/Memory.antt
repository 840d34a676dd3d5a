-- The memory of a state: its blocks and statics, the exception slots and the steps left.
use Rattle.std.specs.Prelude.{[]}
use Rattle.csub_tree.specs.State.{Core}

-- whatever runs
abbrev pub forgotten : Core → Core
forgotten core = record core { function = 0; block = 0; at = 0; vars = [] }
