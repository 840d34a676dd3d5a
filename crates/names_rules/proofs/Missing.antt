-- The faults of imports.
use Rattle.std.proofs.Common.{◌≡◌, ℕ, List, [], ◌∷◌, ◌++◌, Bool, true, false, map, Option, Some, None, sym, ap, ◌∙◌, refl, cond}
use Rattle.std.specs.Prelude.{◌||◌}
use Rattle.std.specs.List.{AllByRecursion, list_any}
use Rattle.rpy_nodes.specs.Listing as listing
use Rattle.rpy_nodes.specs.Names.{number}
use Rattle.rpy_nodes.specs.declared.listing.Named.{Named}
use Rattle.names_bound.specs.Declare as declare
use Rattle.names_bound.specs.Fault.{lesser, fault_if}
use Rattle.names_bound.specs.Imports as old
use Rattle.names_bound.specs.Scopes as code
use Rattle.names_bound.specs.declared.fault.Fault.{Fault}
use Rattle.names_bound.specs.declared.fault.FaultKind.{FaultKind}
use Rattle.names_bound.specs.declared.fault.FaultKind.TheVariants as fault
use Rattle.names_bound.specs.declared.imports.Source.{Source}
use Rattle.names_bound.specs.declared.imports.Source.TheVariants as source
use Rattle.names_bound.specs.declared.scopes.Scopes.{Scopes}
use Rattle.names_bound.specs.declared.stand.Stand.{Stand}
use Rattle.names_bound.specs.declared.stand.Stand.TheVariants as stand
use Rattle.names_rules.specs.Bindings.{Binding, bindings}
use Rattle.names_rules.specs.Events.{Names}
use Rattle.names_rules.specs.Imports.{source_of}
use Rattle.names_rules.specs.Least.{least}
use Rattle.names_rules.specs.Listed.{numbers, module_names, names_of, listed, says}
use Rattle.names_rules.specs.Locals.{Has, IsKnown}
use Rattle.names_rules.specs.Members as member
use Rattle.names_rules.specs.Members.{What, Placed, members}
use Rattle.names_rules.specs.Missing.{is_missing, is_unknown, no_module, lacks, from_faults, faults_of, missing}
use Rattle.names_rules.specs.Scopes as scope
use Rattle.names_rules.specs.Words.{words}
use Rattle.names_rules.proofs.Imports.{import_is, source_is, arithmetic_is, modules_stand}
use Rattle.names_rules.proofs.Known.{members_known}
use Rattle.names_rules.proofs.Least.{least_if, lesser_more, lesser_nothing}
use Rattle.names_rules.proofs.Locals.{all_rest}
use Rattle.names_rules.proofs.Modules.{listing_is}
use Rattle.names_rules.proofs.Scopes.{scopes_alike}
use Rattle.names_rules.proofs.Words.{texts, table_begins}

missing_same : (s : Stand) → old.is_missing s ≡ is_missing s
missing_same stand.Missing = refl
missing_same s = refl

pub unknown_same : (s : Stand) → old.is_unknown s ≡ is_unknown s
unknown_same stand.Unknown = refl
unknown_same s = refl

or_fault : (a b : Bool) (node : ℕ) (kind : FaultKind) → cond a (Some (record { node = node; kind = kind })) (fault_if b node kind) ≡ fault_if (a || b) node kind
or_fault true b node kind = refl
or_fault false b node kind = refl

module _ (names rest modules : Names) (begins : names ≡ texts words ++ rest) (all : AllByRecursion (Has names) modules) (s : Scopes) (bs : List Binding) (follows : (file : ℕ) (name : List ℕ) → Has names name → code.follow s file (number names name) ≡ scope.follow bs file name) where
  abbrev given : List ℕ
  given = numbers names modules

  import_any : (of : Names) (node : ℕ) → old.import_fault given (numbers names of) node ≡ fault_if (list_any (no_module modules) of) node fault.NoModule
  import_any [] node = refl
  import_any (name ∷ of) node = (λ j. cond ((missing_same (old.import_stand given (number names name)) ∙ ap is_missing (import_is names rest begins modules name all)) j) (Some (record { node = node; kind = fault.NoModule })) (import_any of node j))
      ∙ or_fault (no_module modules name) (list_any (no_module modules) of) node fault.NoModule

  lacks_same : (src : Source) (name : List ℕ) → Has names name → old.lacks s src (number names name) ≡ lacks bs src name
  lacks_same (source.Module file) name has = unknown_same (code.follow s file (number names name)) ∙ ap is_unknown (follows file name has)
  lacks_same source.Arithmetic name has = missing_same (old.arithmetic (number names name)) ∙ ap is_missing (arithmetic_is names rest begins name)
  lacks_same source.Missing name has = refl

  names_any : (of : Names) (src : Source) (node : ℕ) → AllByRecursion (Has names) of → old.names_fault s src (numbers names of) node ≡ fault_if (list_any (lacks bs src) of) node fault.Unknown
  names_any [] src node has = refl
  names_any (name ∷ of) src node has = (λ j. cond (lacks_same src name has.0 j) (Some (record { node = node; kind = fault.Unknown })) (names_any of src node has.1 j))
      ∙ or_fault (lacks bs src name) (list_any (lacks bs src) of) node fault.Unknown

  from_same : (src : Source) (of : Names) (node : ℕ) → AllByRecursion (Has names) of → old.from_fault s src (numbers names of) node ≡ least (from_faults bs src of node)
  from_same source.Missing of node has = refl
  from_same (source.Module file) of node has = names_any of (source.Module file) node has ∙ least_if (list_any (lacks bs (source.Module file)) of) node fault.Unknown
  from_same source.Arithmetic of node has = names_any of source.Arithmetic node has ∙ least_if (list_any (lacks bs source.Arithmetic) of) node fault.Unknown

  what_same : (w : What) (node : ℕ) → AllByRecursion (Has names) (member.what_said w) → old.what_fault s given node (says names w) ≡ least (faults_of modules bs node w)
  what_same (member.Import of) node has = import_any of node ∙ least_if (list_any (no_module modules) of) node fault.NoModule
  what_same (member.From path of) node has = ap (λ src. old.from_fault s src (numbers names of) node) (source_is names rest begins modules path all) ∙ from_same (source_of modules path) of node (all_rest (Has names) path of has)
  what_same (member.Constant name v) node has = refl
  what_same (member.Def name params star body) node has = refl
  what_same (member.Class name base) node has = refl

  units_same : (ps : List Placed) (f : Option Fault) → AllByRecursion (IsKnown names) ps → old.faults_onto f s given (map (listed names) ps) ≡ lesser f (least (missing modules bs ps))
  units_same [] f has = lesser_nothing f
  units_same (p ∷ ps) f has = units_same ps (lesser f (old.what_fault s given p.node (says names p.what))) has.1
      ∙ lesser_more f _ (faults_of modules bs p.node p.what) (missing modules bs ps) (ap (lesser f) (what_same p.what p.node has.0))

missing_by : (ms : List Named) (begins : (rest : Names) × (names_of ms ≡ texts words ++ rest)) (s : Scopes) → s.bindings ≡ (declare.declared (listing.listing ms).modules (listing.listing ms).units).bindings
    → old.faults s (numbers (names_of ms) (module_names ms)) (map (listed (names_of ms)) (members ms)) ≡ least (missing (module_names ms) (bindings (module_names ms) (members ms)) (members ms))
missing_by ms (rest, e) s h = units_same (names_of ms) rest (module_names ms) e (modules_stand ms) s (bindings (module_names ms) (members ms)) (λ file name has. (scopes_alike ms s h file name has).0) (members ms) None (members_known ms)

pub missing_are : (ms : List Named) (s : Scopes) → s.bindings ≡ (declare.declared (listing.listing ms).modules (listing.listing ms).units).bindings
    → old.faults s (listing.listing ms).modules (listing.listing ms).units ≡ least (missing (module_names ms) (bindings (module_names ms) (members ms)) (members ms))
missing_are ms s h = ap (λ l. old.faults s l.modules l.units) (listing_is ms) ∙ missing_by ms (table_begins ms) s h
