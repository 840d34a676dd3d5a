-- What is known of a program that has types, beside its types: what it names is there, and its blocks read what is bound.
use Rattle.std.specs.Prelude.{◌≡◌, ◌<◌, ◌≤◌, ℕ, true, false, List, [], ◌∷◌, length, map, slice_get, Some, None, option_map, Option}
use Rattle.rpy_tree.specs.declared.program.Program.{Program}
use Rattle.rpy_tree.specs.declared.program.Site.{Site}
use Rattle.rpy_tree.specs.Value.{Object}
use Rattle.rpy_meaning.specs.Operations.{builtin_classes, constant}
use Rattle.rpy_meaning.specs.Tree.{Function}
use Rattle.rpy_resolved.specs.Count.{function_count}
use Rattle.resolved_laws.specs.Meant.{meant_by}
use Rattle.resolver_laws.specs.Listing.{HasNoInnerClasses}
use Rattle.resolver_laws.specs.Made.{HaveApartNodes}
use Rattle.flow_graph.specs.declared.graph.Block.{Block}
use Rattle.flow_graph.specs.declared.graph.Exit.{Exit}
use Rattle.flow_graph.specs.declared.graph.Exit.TheVariants as exit
use Rattle.flow_graph.specs.declared.graph.Graph.{Graph}
use Rattle.flow_graph.specs.declared.graph.Graphs.{Graphs}
use Rattle.flow_graph.specs.declared.graph.Op.{Op}
use Rattle.flow_runs.specs.Good.{HasWholeKeys}
use Rattle.class_desc.specs.Line as line
use Rattle.class_desc.specs.Tables.{tables}
use Rattle.ann_lattice.specs.Assign.{Assignment, mark}
use Rattle.ann_lattice.specs.Join.{is_clash}
use Rattle.ann_lattice.specs.Order.{Sub}
use Rattle.ann_lattice.specs.Row.{truth_of}
use Rattle.ann_laws.specs.Rows.{HasClasses}
use Rattle.ann_rules.specs.Asks.{defaults}
use Rattle.ann_rules.specs.Program.{Callee, Whole}
use Rattle.ann_rules.specs.Rules.{needs, value, may_be_unbound}
use Rattle.ann_needs.specs.View.{whole}
use Rattle.ann_layout.specs.Layout.{plan}
use Rattle.sound_rows.specs.Seen.{AllThere, DefaultsThere}
use Rattle.sound_runs.specs.Closed.{AreThere}
use Rattle.sound_runs.specs.Graphs.{IsException}
use Rattle.sound_runs.specs.Start.{ContentsThere}

abbrev pub whole_of : Program → Graphs → Whole
whole_of p gs = whole (plan p gs (tables p))

-- ---- what is read is bound

module _ (w : Whole) (a : Assignment) (g : ℕ) where
  abbrev pub AreBound : List ℕ → Type 0
  AreBound [] = Unit {0}
  AreBound (v ∷ vs) = (may_be_unbound w a g v ≡ false) × AreBound vs

  abbrev pub OperandsAreBound : List Op → Type 0
  OperandsAreBound [] = Unit {0}
  OperandsAreBound (o ∷ ops) = AreBound o.args × OperandsAreBound ops

  -- a test has a truth besides, and what leaves a function by a raise is an exception
  abbrev pub ExitIsBound : Exit → Type 0
  ExitIsBound (exit.If v one two) = (may_be_unbound w a g v ≡ false) × (is_clash (truth_of (value w a g v)) ≡ false)
  ExitIsBound (exit.Return v) = may_be_unbound w a g v ≡ false
  ExitIsBound (exit.Raise v) = (may_be_unbound w a g v ≡ false) × IsException w a g (value w a g v)
  ExitIsBound other = Unit {0}

-- a block that is reached reads no variable that may be unbound
abbrev pub ReadsAreBound : Whole → Assignment → Type 0
ReadsAreBound w a = (g n : ℕ) (graph : Graph) (block : Block) → slice_get w.graphs g ≡ Some graph → slice_get graph.blocks n ≡ Some block → mark a (w.places.block g n) ≡ true
    → OperandsAreBound w a g block.ops × ExitIsBound w a g block.exit

-- ---- what is named is there

-- the parameters of a function have the defaults that the meaning gives them
abbrev pub DefaultsAreMeant : Program → Graphs → Type 0
DefaultsAreMeant p gs = (f : ℕ) (c : Callee) (function : Function) → slice_get (whole_of p gs).callees f ≡ Some c → slice_get (meant_by p).functions f ≡ Some function
    → function.defaults ≡ map (option_map (constant (meant_by p).sites)) c.defaults

-- The classes are a tree, there is a site, no number is the node of two functions, no class stands within a class, and the program has the functions and the classes of its modules. The builtin
-- exception classes are below the first of them, and have no methods. Each list, dict, function, class and attribute of which the program speaks is one of
-- its own; no key of a dict of a module is `None` or has such a part; the entry point has one parameter.
pub record IsWhole (p : Program) (gs : Graphs) (a : Assignment) : Type 0 where
  pub tree : HasClasses (tables p)
  pub site : 0 < length p.sites
  pub nodes : HaveApartNodes p.modules
  pub flat : HasNoInnerClasses p.modules
  pub functions : function_count p.modules ≤ length p.functions
  pub classes : length (meant_by p).classes ≡ length p.classes
  pub exceptions : (c : ℕ) → c < builtin_classes → Sub p.classes c 0
  pub plain : (c : ℕ) (name : List ℕ) → c < builtin_classes → line.method p.classes c name ≡ None
  pub constants : (c : ℕ) → AllThere (meant_by p).sites (line.constants_in (slice_get p.classes c))
  pub defaults_there : (f : ℕ) → DefaultsThere (meant_by p).sites (defaults (whole_of p gs) f)
  pub meant : DefaultsAreMeant p gs
  pub contents : (s : ℕ) (site : Site) → slice_get p.sites s ≡ Some site → ContentsThere (meant_by p).sites site.prebuilt
  pub keys : (s : ℕ) (object : Option Object) → slice_get (meant_by p).sites s ≡ Some object → HasWholeKeys object
  pub takes : length (defaults (whole_of p gs) p.entry) ≡ 1
  pub there : AreThere a (needs (whole_of p gs) a)
