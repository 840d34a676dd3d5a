-- Two classes, one below the other, that are laid out.
use Rattle.std.specs.Prelude.{ℕ, List, [], ◌∷◌, ◌++◌, replicate, Option, Some, None}
use Rattle.rpy_tree.specs.declared.program.ClassInfo.{ClassInfo}
use Rattle.rtyper_class.specs.Seen.{World}
use Rattle.object_laws.specs.Rows.{class_layout, class_known}
use Rattle.class_laws.specs.Classes.{IsLaidOut}

abbrev pub info : Option ℕ → ClassInfo
info base = record { node = 0; file = 0; base = base; constants = []; methods = [] }

-- class 14 is below class 13
abbrev pub infos : List ClassInfo
infos = replicate 13 (info None) ++ info None ∷ info (Some 13) ∷ []

abbrev pub world : World
world = record {
  around = record { layout = class_layout; numbers = []; params = []; results = []; functions = [] };
  classes = record { classes = infos; attributes = [] };
  made = [];
  attributes = [];
  first_vtable = 0;
  first_exception = 0;
}

-- a word that both have, and an instance that the one below has
abbrev pub TwoClasses : Type 0
TwoClasses = IsLaidOut world class_known
