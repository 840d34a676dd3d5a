-- What ties the classes and constants that rules are read from to those that operations see.
use Rattle.std.specs.Prelude.{◌≡◌, ◌<◌, ◌&&◌, ℕ, Bool, true, false, List, [], ◌∷◌, length, map, slice_get, Option, Some, None}
use Rattle.rpy_tree.specs.declared.program.ClassInfo.{ClassInfo}
use Rattle.rpy_tree.specs.declared.program.Const.{Const, fold-Const}
use Rattle.rpy_tree.specs.declared.program.Const.TheOpen.{Const-F}
use Rattle.rpy_tree.specs.Value.{Value, Object, Listed, Mapped}
use Rattle.rpy_meaning.specs.Tree.{Class, Program}
use Rattle.rpy_meaning.specs.Operations.{builtin_classes, constant}
use Rattle.class_desc.specs.Line as line
use Rattle.ann_lattice.specs.Order.{Sub}
use Rattle.ann_laws.specs.Rows.{HasClasses}
use Rattle.ann_rules.specs.Program.{Whole}
use Rattle.ann_rules.specs.Asks.{defaults}

-- ---- constants whose lists and dicts are there

abbrev pub all_true : List Bool → Bool
all_true [] = true
all_true (b ∷ bs) = b && all_true bs

abbrev pub is_list_there : Option (Option Object) → Bool
is_list_there (Some (Some (Listed vs))) = true
is_list_there other = false

abbrev pub is_dict_there : Option (Option Object) → Bool
is_dict_there (Some (Some (Mapped pairs))) = true
is_dict_there other = false

abbrev pub there_step : List (Option Object) → Const-F Bool → Bool
there_step sites (Const-F.Tuple parts) = all_true parts
there_step sites (Const-F.List s) = is_list_there (slice_get sites s)
there_step sites (Const-F.Dict s) = is_dict_there (slice_get sites s)
there_step sites other = true

-- the lists and dicts in a constant are made where the program says
abbrev pub is_there : List (Option Object) → Const → Bool
is_there sites = fold-Const Bool (there_step sites)

abbrev pub AllThere : List (Option Object) → List (List ℕ × Const) → Type 0
AllThere sites [] = Unit {0}
AllThere sites (entry ∷ entries) = (is_there sites entry.1 ≡ true) × AllThere sites entries

abbrev pub DefaultsThere : List (Option Object) → List (Option Const) → Type 0
DefaultsThere sites [] = Unit {0}
DefaultsThere sites (None ∷ ds) = DefaultsThere sites ds
DefaultsThere sites (Some c ∷ ds) = (is_there sites c ≡ true) × DefaultsThere sites ds

-- ---- classes

abbrev pub values_of : List (Option Object) → List (List ℕ × Const) → List (List ℕ × Value)
values_of sites constants = map (λ (entry : List ℕ × Const). (entry.0, constant sites entry.1)) constants

-- a class as operations see it
pub record IsSeenAs (sites : List (Option Object)) (info : ClassInfo) (class : Class) : Type 0 where
  pub base : class.base ≡ info.base
  pub methods : class.methods ≡ info.methods
  pub constants : class.constants ≡ values_of sites info.constants

abbrev pub SeenAt : List (Option Object) → Option ClassInfo → Option Class → Type 0
SeenAt sites None None = Unit {0}
SeenAt sites (Some info) (Some class) = IsSeenAs sites info class
SeenAt sites None (Some class) = ⊥
SeenAt sites (Some info) None = ⊥

-- The classes are a tree, the same for rules and for operations. The builtin exception classes are below `Exception`, and have no methods. Constants
-- name lists and dicts that are there.
pub record Sees (p : Whole) (q : Program) : Type 0 where
  pub tree : HasClasses p.tables
  pub count : length q.classes ≡ length p.tables.classes
  pub classes : (c : ℕ) → SeenAt q.sites (slice_get p.tables.classes c) (slice_get q.classes c)
  pub exceptions : (c : ℕ) → c < builtin_classes → Sub p.tables.classes c 0
  pub plain : (c : ℕ) (name : List ℕ) → c < builtin_classes → line.method p.tables.classes c name ≡ None
  pub constants : (c : ℕ) → AllThere q.sites (line.constants_in (slice_get p.tables.classes c))
  pub defaults : (f : ℕ) → DefaultsThere q.sites (defaults p f)
