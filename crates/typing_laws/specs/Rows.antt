-- A worked program: a list and a dict of its own, and one of each that are constants; a function of two parameters, of which the last has a default,
-- one of one parameter, and one that takes more.
use Rattle.std.specs.Prelude.{false, true, Bool, List, [], ◌∷◌, Option, Some, None}
use Rattle.rpy_tree.specs.declared.program.Const.{Const}
use Rattle.rpy_tree.specs.declared.program.Const.TheVariants as const
use Rattle.rpy_tree.specs.declared.program.Site.{Site}
use Rattle.ann_lattice.specs.Assign.{Assignment}
use Rattle.ann_rules.specs.Program.{Callee, Whole}
use Rattle.ann_tree.specs.Examples as example

abbrev pub site : Bool → Option (List (Const × Const)) → Site
site dict prebuilt = record { node = 0; dict = dict; prebuilt = prebuilt }

abbrev pub takes : List (Option Const) → Bool → Callee
takes defaults star = record { defaults = defaults; star = star }

abbrev pub whole : Whole
whole = record example.whole {
  sites = site false None ∷ site false (Some []) ∷ site true None ∷ site true (Some []) ∷ site false None ∷ [];
  callees = takes (None ∷ Some const.None ∷ []) false ∷ takes (None ∷ []) false ∷ takes (None ∷ []) true ∷ [];
}

-- the last list is of the class of the constant one
abbrev pub parts : Assignment
parts = record { cells = []; marks = []; same = 0 ∷ 1 ∷ 2 ∷ 3 ∷ 1 ∷ [] }
