-- What is known of the program that texts are.
use Rattle.std.specs.Prelude.{◌≡◌, ◌<◌, ℕ, List, length, slice_get, Option, Some, None}
use Rattle.rpy_tree.specs.declared.program.Program.{Program}
use Rattle.rpy_tree.specs.declared.program.Site.{Site}
use Rattle.rpy_tree.specs.Value.{Object}
use Rattle.rpy_meaning.specs.Operations.{builtin_classes}
use Rattle.rpy_nodes.specs.declared.listing.Named.{Named}
use Rattle.rpy_names.specs.Resolve.{prog}
use Rattle.rpy_front.specs.Modules.{AreModules}
use Rattle.resolved_laws.specs.Meant.{meant_by}
use Rattle.flow_graph.specs.declared.graph.Graphs.{Graphs}
use Rattle.flow_runs.specs.Good.{HasWholeKeys}
use Rattle.class_desc.specs.Line as line
use Rattle.ann_lattice.specs.Assign.{Assignment}
use Rattle.ann_rules.specs.Asks.{defaults}
use Rattle.ann_rules.specs.Rules.{needs}
use Rattle.rpy_checked.specs.Settles.{IsSmall}
use Rattle.sound_rows.specs.Seen.{AllThere, DefaultsThere}
use Rattle.sound_runs.specs.Closed.{AreThere}
use Rattle.sound_runs.specs.Start.{ContentsThere}
use Rattle.sound_programs.specs.Whole.{whole_of, DefaultsAreMeant, IsWhole}

-- The program has the classes of its modules, and the builtin exception classes have no methods. Each list, dict, function, class and attribute of which the
-- program speaks is one of its own, no key of a dict of a module is `None` or has such a part, and the entry point has one parameter.
pub record NamesAreThere (p : Program) (gs : Graphs) (a : Assignment) : Type 0 where
  pub classes : length (meant_by p).classes ≡ length p.classes
  pub plain : (c : ℕ) (name : List ℕ) → c < builtin_classes → line.method p.classes c name ≡ None
  pub constants : (c : ℕ) → AllThere (meant_by p).sites (line.constants_in (slice_get p.classes c))
  pub defaults_there : (f : ℕ) → DefaultsThere (meant_by p).sites (defaults (whole_of p gs) f)
  pub meant : DefaultsAreMeant p gs
  pub contents : (s : ℕ) (site : Site) → slice_get p.sites s ≡ Some site → ContentsThere (meant_by p).sites site.prebuilt
  pub keys : (s : ℕ) (object : Option Object) → slice_get (meant_by p).sites s ≡ Some object → HasWholeKeys object
  pub takes : length (defaults (whole_of p gs) p.entry) ≡ 1
  pub there : AreThere a (needs (whole_of p gs) a)

-- Of a program that texts are the rest is known: its classes are a tree, with the builtin exceptions below the first one, it has a site and its functions, and no
-- number is the node of two of them.
abbrev pub ProgramsOfTextsAreWhole : Type 0
ProgramsOfTextsAreWhole = (sources names : List (List ℕ)) (modules : List Named) (p : Program) (gs : Graphs) → AreModules sources names modules → prog modules ≡ Some p → IsSmall p gs
    → (a : Assignment) → NamesAreThere p gs a → IsWhole p gs a
