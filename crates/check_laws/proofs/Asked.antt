-- What the laws of trees ask, of a program that texts are.
use Rattle.std.proofs.Common.{◌≡◌, ℕ, suc, ◌+◌, ◌<◌, ◌≤◌, ◌-◌, ◌^◌, List, [], ◌∷◌, ◌++◌, length, length-append, Option, Some, None, sym, ap, subst, arith}
use Rattle.std.specs.Prelude.{Result, Ok, Err}
use Rattle.std.proofs.lemmas.List.Sums.{sum_by-cons}
use Rattle.rpy_tree.specs.Places.{node_count}
use Rattle.rpy_tree.specs.declared.program.ClassInfo.{ClassInfo}
use Rattle.rpy_tree.specs.declared.program.Program.{Program}
use Rattle.rpy_tree.specs.declared.syntax.Module.{Module}
use Rattle.rpy_parse.specs.Input.{Input}
use Rattle.rpy_parse.specs.Modules.{IsModule}
use Rattle.rpy_nodes.specs.declared.listing.Named.{Named}
use Rattle.rpy_names.specs.Build.{build}
use Rattle.rpy_names.specs.Place.{modules_of}
use Rattle.rpy_names.specs.Resolve.{program_by, prog}
use Rattle.rpy_names.specs.declared.build.Parts.{Parts}
use Rattle.rpy_names.specs.declared.fault.NameFault.{NameFault}
use Rattle.names_bound.specs.Scopes.{base_in}
use Rattle.names_rules.specs.Program.{bases}
use Rattle.names_whole.specs.Classes.{builtins_to}
use Rattle.names_whole.specs.Functions.{as_number}
use Rattle.names_whole.proofs.Program.{program_is}
use Rattle.rpy_front.specs.Modules.{AreFirst, AreModules}
use Rattle.resolver_laws.specs.Made.{HaveApartNodes}
use Rattle.resolver_nodes.specs.Numbered.{IsNumbered, AreNumbered}
use Rattle.flow_graph.specs.declared.graph.Graphs.{Graphs}
use Rattle.class_desc.specs.Range.{IsForest}
use Rattle.rpy_checked.specs.Settles.{IsSmall}
use Rattle.check_laws.specs.Trees.{HasTrees}

abbrev modules_in : Option Program → List Module
modules_in None = []
modules_in (Some p) = p.modules

modules_are : (ms : List Named) (parts : Result Parts NameFault) (p : Program) → program_by ms parts ≡ Some p → p.modules ≡ modules_of ms
modules_are ms (Ok parts) p h = sym (ap modules_in h)
modules_are ms (Err fault) p h = absurd cc

-- ---- the builtin classes are there

some_builtin : (bs : List (Option ℕ)) (n : ℕ) → 0 < length (builtins_to bs (suc n))
some_builtin bs n = omega (arith, length-append (builtins_to bs n) (record { node = 0; file = 0; base = as_number (base_in bs n); constants = []; methods = [] } ∷ []))

before_all : (xs ys : List ClassInfo) → 0 < length xs → 0 < length (xs ++ ys)
before_all xs ys h = omega (arith, length-append xs ys, h)

some_class : (ms : List Named) (p : Program) → prog ms ≡ Some p → 0 < length p.classes
some_class ms p h = subst (λ (q : Program). 0 < length q.classes) (sym (program_is ms p h)) (before_all (builtins_to (bases ms) 13) _ (some_builtin (bases ms) 12))

-- ---- the nodes of each module have their numbers

module _ (one : (ts : Input) (m : Module) → IsModule ts m → m.nodes ≤ 2 ^ 32 → IsNumbered m) where
  first_numbered : (sources names : List (List ℕ)) (ms : List Named) → AreFirst sources names ms → node_count (modules_of ms) < 2 ^ 32 → AreNumbered (modules_of ms)
  first_numbered sources names [] h few = tt
  first_numbered [] names (m ∷ ms) h few = absurd h
  first_numbered (source ∷ sources) [] (m ∷ ms) h few = absurd h
  first_numbered (source ∷ sources) (name ∷ names) (m ∷ ms) h few =
      let sum : node_count (m.module ∷ modules_of ms) ≡ m.module.nodes + node_count (modules_of ms) = sum_by-cons (λ (x : Module). x.nodes) m.module (modules_of ms) in
      (one h.0.has.tokens m.module h.0.has.are (omega (arith, sum, few)), first_numbered sources names ms h.1 (omega (arith, sum, few)))

  -- ---- the whole

  module _ (apart : (modules : List Module) → AreNumbered modules → node_count modules < 2 ^ 32 → HaveApartNodes modules)
      (forest : (ms : List Named) (p : Program) → prog ms ≡ Some p → length p.classes < 2 ^ 32 - 1 → IsForest p.classes)
      (site : (ms : List Named) (p : Program) → prog ms ≡ Some p → 0 < length p.sites) where
    pub has_trees : (sources names : List (List ℕ)) (ms : List Named) (p : Program) (gs : Graphs) → AreModules sources names ms → prog ms ≡ Some p → IsSmall p gs → HasTrees p gs
    has_trees sources names ms p gs are is small = record {
      classes = record { tree = record { some = some_class ms p is; forest = forest ms p is small.classes }; few = omega (arith, small.classes) };
      sites = site ms p is;
      nodes = apart p.modules (subst (λ (modules : List Module). AreNumbered modules) (sym same) (first_numbered sources names ms are.0 (subst (λ (modules : List Module). node_count modules < 2 ^ 32) same small.nodes))) small.nodes;
      cells = small.cells;
      marks = small.marks;
    }
      where
        same : p.modules ≡ modules_of ms
        same = modules_are ms (build ms) p is
