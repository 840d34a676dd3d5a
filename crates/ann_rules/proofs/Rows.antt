-- Worked rows of the rules, which compute: a program whose entry point returns its list of arguments.
use Rattle.std.proofs.Common.{◌≡◌, ℕ, zero, suc, ◌+◌, List, [], ◌∷◌, Option, Some, None, Bool, true, false, refl}
use Rattle.rpy_tree.specs.declared.program.Site.{Site}
use Rattle.flow_graph.specs.declared.graph.Exit.TheVariants as exit
use Rattle.flow_graph.specs.declared.graph.Block.{Block}
use Rattle.flow_graph.specs.declared.graph.Graph.{Graph}
use Rattle.ann_lattice.specs.Shape.{Width, Any, Shape, Nothing, Str, Lst}
use Rattle.ann_lattice.specs.Assign.{Assignment, Need, Up, Set, meet}
use Rattle.ann_rules.specs.Program.{Whole, Places}
use Rattle.ann_rules.specs.Rules.{needs}

-- the items and keys of the one site, the parameter, the result and the variable; then the block, and that the function is reached
abbrev places : Places
places = record {
  variable = λ g v. 4 + v;
  param = λ f i. 2 + i;
  result = λ f. 3;
  attribute = λ c name. 5;
  item = λ s. 0;
  key = λ s. 1;
  block = λ g n. n;
  reached = λ f. 1;
  made = λ c. 2;
  loaded = λ s. 2;
  loose = λ g v. 2;
  unbound = λ n. 2;
}

abbrev block : Block
block = record { inputs = 0 ∷ []; ops = []; exit = exit.Return 0 }

abbrev program : Whole
program = record {
  tables = record { classes = []; attributes = [] };
  callees = record { defaults = None ∷ []; star = false } ∷ [];
  sites = record { node = 0; dict = false; prebuilt = None } ∷ [];
  graphs = record { function = 0; blocks = block ∷ [] } ∷ [];
  entry = 0;
  has_literal = λ n. false;
  places = places;
}

-- nothing is reached
abbrev start : Assignment
start = record { cells = Nothing ∷ Nothing ∷ Nothing ∷ Nothing ∷ Nothing ∷ []; marks = false ∷ false ∷ []; same = 0 ∷ [] }

pub first_asked : needs program start ≡ Up 0 (Str Any ∷ []) ∷ Up 2 (Lst 0 false ∷ []) ∷ Set 1
    ∷ Up 0 (Nothing ∷ []) ∷ Up 0 (Nothing ∷ []) ∷ Up 1 (Nothing ∷ []) ∷ Up 1 (Nothing ∷ []) ∷ []
first_asked = refl

-- what is asked is met, one after the other
abbrev met : List Need → Assignment → Assignment
met [] a = a
met (n ∷ ns) a = met ns (meet [] n a)

abbrev sweep : Assignment → Assignment
sweep a = met (needs program a) a

-- the arguments are strings, and go from the parameter to the variable and to the result
abbrev settled : Assignment
settled = record { cells = Str Any ∷ Nothing ∷ Lst 0 false ∷ Lst 0 false ∷ Lst 0 false ∷ []; marks = true ∷ true ∷ []; same = 0 ∷ [] }

pub three_sweeps : sweep (sweep (sweep start)) ≡ settled
three_sweeps = refl

pub rests : sweep settled ≡ settled
rests = refl
