-- The faults of names that are bound twice.
use Rattle.std.proofs.Common.{◌≡◌, ℕ, ◌+◌, List, [], ◌∷◌, ◌++◌, append-nil, Bool, true, false, map, length, Option, Some, None, sym, ap, ◌∙◌, refl, cond}
use Rattle.std.specs.Prelude.{not, ◌||◌}
use Rattle.std.specs.List.{AllByRecursion}
use Rattle.rpy_nodes.specs.Listing as listing
use Rattle.rpy_nodes.specs.Names.{number}
use Rattle.rpy_nodes.specs.declared.event.Event.{Event}
use Rattle.rpy_nodes.specs.declared.listing.Named.{Named}
use Rattle.rpy_nodes.specs.declared.unit.Parameter.{Parameter}
use Rattle.names_bound.specs.Declare as old
use Rattle.names_bound.specs.Fault.{lesser, fault_if}
use Rattle.names_bound.specs.Imports as old_imports
use Rattle.names_bound.specs.Known as known
use Rattle.names_bound.specs.Table.{Entries, look, fresh, is_fresh}
use Rattle.names_bound.specs.declared.declare.Declared.{Declared}
use Rattle.names_bound.specs.declared.declare.Spot.{Spot}
use Rattle.names_bound.specs.declared.fault.Fault.{Fault}
use Rattle.names_bound.specs.declared.fault.FaultKind.TheVariants as fault
use Rattle.names_bound.specs.declared.imports.Source.{Source}
use Rattle.names_bound.specs.declared.stand.Stand.{Stand}
use Rattle.names_bound.specs.declared.stand.Stand.TheVariants as stand
use Rattle.names_bound.specs.declared.table.Bound.{Bound as OldBound}
use Rattle.names_bound.specs.declared.table.Bound.TheVariants as old_bound
use Rattle.names_rules.specs.Bindings as rule
use Rattle.names_rules.specs.Bindings.{Binding, Counts, none_before, count, binding, class_binding, unless_inside, if_inside, binds, class_binds}
use Rattle.names_rules.specs.Bound.{bound_in, entries}
use Rattle.names_rules.specs.Events.{Names}
use Rattle.names_rules.specs.Imports.{Bound, Is, import_stand, source_of, taken}
use Rattle.names_rules.specs.Least.{least, faults_if}
use Rattle.names_rules.specs.Listed.{numbers, module_names, names_of, listed, says, parameter, body_events}
use Rattle.names_rules.specs.Locals.{Has, IsKnown}
use Rattle.names_rules.specs.Members as member
use Rattle.names_rules.specs.Members.{What, Placed, members}
use Rattle.names_rules.specs.Numbering.{said}
use Rattle.names_rules.specs.Order.{expr}
use Rattle.names_rules.specs.Twice.{is_bound, is_twice, twice_at, twices_from, twices}
use Rattle.names_rules.specs.Words.{words, is_fixed}
use Rattle.names_rules.proofs.Bindings as table
use Rattle.names_rules.proofs.Bindings.{entry_of, look_entries, bound_entries}
use Rattle.names_rules.proofs.ClassBindings as classes
use Rattle.names_rules.proofs.Imports.{import_is, source_is, taken_is, modules_stand}
use Rattle.names_rules.proofs.Known.{members_known}
use Rattle.names_rules.proofs.Least.{least_if, lesser_more, lesser_nothing}
use Rattle.names_rules.proofs.Locals.{all_rest}
use Rattle.names_rules.proofs.Modules.{listing_is}
use Rattle.names_rules.proofs.Words.{texts, table_begins, fixed_is}

-- ---- what is declared beside is no fault

attribute_fault : (o : Option ℕ) (name : ℕ) (d : Declared) → (old.attribute_in o name d).fault ≡ d.fault
attribute_fault None name d = refl
attribute_fault (Some class) name d = refl

method_fault : (o : Option ℕ) (name : ℕ) (d : Declared) → (old.method_in o name d).fault ≡ d.fault
method_fault None name d = refl
method_fault (Some class) name d = refl

store_fault : (at : Spot) (o : Option ℕ) (d : Declared) → (old.store_of at o d).fault ≡ d.fault
store_fault at None d = refl
store_fault at (Some name) d = attribute_fault at.class name d

stores_fault : (at : Spot) (first : ℕ) (es : List Event) (last : Option ℕ) (d : Declared) → (old.stores_from at first last es d).fault ≡ d.fault
stores_fault at first [] last d = refl
stores_fault at first (e ∷ es) last d = stores_fault at first es (old.name_in e.act) (old.store_of at (old.stored first last e.act) d) ∙ store_fault at (old.stored first last e.act) d

self_fault : (at : Spot) (ps : List Parameter) (es : List Event) (d : Declared) → (old.declare_self at ps es d).fault ≡ d.fault
self_fault at [] es d = refl
self_fault at (p ∷ ps) es d = stores_fault at p.name es None d

module _ (names rest modules : Names) (begins : names ≡ texts words ++ rest) (all : AllByRecursion (Has names) modules) (fixed : (name : List ℕ) → known.is_fixed (number names name) ≡ is_fixed name) where
  abbrev given : List ℕ
  given = numbers names modules

  abbrev spot : ℕ → Placed → Option ℕ → Spot
  spot unit p o = record { unit = unit; file = p.file; place = p.place; node = p.node; class = o }

  not_fresh : (o : Option Binding) → not (fresh (entry_of names o)) ≡ is_bound o
  not_fresh None = refl
  not_fresh (Some b) = refl

  -- a binding is at fault in the code as it is by the rules
  twice_is : (es : Entries) (bs : List Binding) (b : Binding) (node : ℕ) → es ≡ entries names bs → Has names b.name → old.twice (is_fresh es b.scope (number names b.name)) (number names b.name) node ≡ least (faults_if (is_twice bs b) node fault.Twice)
  twice_is es bs b node h has =
      let l : not (is_fresh es b.scope (number names b.name)) ≡ is_bound (rule.look bs b.scope b.name) = ap (λ t. not (is_fresh t b.scope (number names b.name))) h ∙ ap (λ o. not (fresh o)) (look_entries names bs b.scope b.name has) ∙ not_fresh (rule.look bs b.scope b.name) in
      (λ j. fault_if (l j || fixed b.name j) node fault.Twice) ∙ least_if (is_twice bs b) node fault.Twice

  one_more : (f : Option Fault) (es : Entries) (bs : List Binding) (b : Binding) (node : ℕ) → es ≡ entries names bs → Has names b.name → lesser f (old.twice (is_fresh es b.scope (number names b.name)) (number names b.name) node) ≡ lesser f (least (faults_if (is_twice bs b) node fault.Twice))
  one_more f es bs b node h has = ap (lesser f) (twice_is es bs b node h has)

  -- ---- imports

  imports_fault : (of : Names) (unit : ℕ) (p : Placed) (o : Option ℕ) (d : Declared) (bs : List Binding) → d.bindings ≡ entries names bs → AllByRecursion (Has names) of
      → (old.add_imports (spot unit p o) given (numbers names of) d).fault ≡ lesser d.fault (least (twice_at p.node bs (map (λ name. binding p name (Is (import_stand modules name))) of)))
  imports_fault [] unit p o d bs h has = lesser_nothing d.fault
  imports_fault (name ∷ of) unit p o d bs h has =
      imports_fault of unit p o (old.bind_name (spot unit p o) (number names name) (old_bound.Is (old_imports.import_stand given (number names name))) d) (rule.add bs (binding p name (Is (import_stand modules name))))
      (table.name_bound names rest modules begins all p name (old_bound.Is (old_imports.import_stand given (number names name))) (Is (import_stand modules name)) (ap old_bound.Is (import_is names rest begins modules name all)) d.bindings bs h has.0) has.1
      ∙ lesser_more d.fault _ (faults_if (is_twice bs (binding p name (Is (import_stand modules name)))) p.node fault.Twice) (twice_at p.node (rule.add bs (binding p name (Is (import_stand modules name)))) (map (λ name. binding p name (Is (import_stand modules name))) of))
      (one_more d.fault d.bindings bs (binding p name (Is (import_stand modules name))) p.node h has.0)

  taken_fault : (of path : Names) (unit : ℕ) (p : Placed) (o : Option ℕ) (d : Declared) (bs : List Binding) → d.bindings ≡ entries names bs → AllByRecursion (Has names) of
      → (old.add_taken (spot unit p o) (old_imports.source_of given (numbers names path)) (numbers names of) d).fault ≡ lesser d.fault (least (twice_at p.node bs (map (λ name. binding p name (taken (source_of modules path) name)) of)))
  taken_fault [] path unit p o d bs h has = lesser_nothing d.fault
  taken_fault (name ∷ of) path unit p o d bs h has =
      taken_fault of path unit p o (old.bind_name (spot unit p o) (number names name) (old_imports.from_bound (old_imports.source_of given (numbers names path)) (number names name)) d) (rule.add bs (binding p name (taken (source_of modules path) name)))
      (table.name_bound names rest modules begins all p name (old_imports.from_bound (old_imports.source_of given (numbers names path)) (number names name)) (taken (source_of modules path) name)
      (ap (λ s. old_imports.from_bound s (number names name)) (source_is names rest begins modules path all) ∙ taken_is names rest begins (source_of modules path) name) d.bindings bs h has.0) has.1
      ∙ lesser_more d.fault _ (faults_if (is_twice bs (binding p name (taken (source_of modules path) name))) p.node fault.Twice) (twice_at p.node (rule.add bs (binding p name (taken (source_of modules path) name))) (map (λ name. binding p name (taken (source_of modules path) name)) of))
      (one_more d.fault d.bindings bs (binding p name (taken (source_of modules path) name)) p.node h has.0)

  -- ---- constants, functions and classes

  single : (f : Option Fault) (fs gs : List Fault) → fs ≡ gs → lesser f (least fs) ≡ lesser f (least gs)
  single f fs gs e = ap (λ x. lesser f (least x)) e

  one_fault : (o : Option ℕ) (unit : ℕ) (p : Placed) (class : Option ℕ) (name : List ℕ) (s there inner : Stand) (d : Declared) (bs cs : List Binding) → d.bindings ≡ entries names bs → d.members ≡ entries names cs → Has names name
      → (old.bind_in o (spot unit p class) (number names name) s d).fault ≡ lesser d.fault (least (twice_at p.node bs (unless_inside o (binding p name (Is there))) ++ twice_at p.node cs (if_inside o p name inner)))
  one_fault None unit p class name s there inner d bs cs h k has =
      one_more d.fault d.bindings bs (binding p name (Is there)) p.node h has
      ∙ single d.fault _ _ (sym (append-nil (faults_if (is_twice bs (binding p name (Is there))) p.node fault.Twice ++ []) ∙ append-nil (faults_if (is_twice bs (binding p name (Is there))) p.node fault.Twice)))
  one_fault (Some c) unit p class name s there inner d bs cs h k has =
      one_more d.fault d.members cs (class_binding c p name inner) p.node k has
      ∙ single d.fault _ _ (sym (append-nil (faults_if (is_twice cs (class_binding c p name inner)) p.node fault.Twice)))

  abbrev here : Placed → Declared → Option ℕ
  here p d = old.class_here p.inside (length d.classes)

  abbrev counts : Declared → Counts
  counts d = record { functions = length d.functions; classes = length d.classes; constants = length d.constants }

  abbrev after : What → ℕ → Placed → Declared → Declared
  after w unit p d = old.add (spot unit p (here p d)) given (says names w) d

  abbrev at_fault : What → Placed → Counts → List Binding → List Binding → List Fault
  at_fault w p c bs cs = twice_at p.node bs (binds modules c p w) ++ twice_at p.node cs (class_binds c p w)

  what_fault : (w : What) (unit : ℕ) (p : Placed) (d : Declared) (bs cs : List Binding) → d.bindings ≡ entries names bs → d.members ≡ entries names cs → AllByRecursion (Has names) (member.what_said w)
      → (after w unit p d).fault ≡ lesser d.fault (least (at_fault w p (counts d) bs cs))
  what_fault (member.Import of) unit p d bs cs h k has = imports_fault of unit p (here p d) d bs h has ∙ single d.fault _ _ (sym (append-nil (twice_at p.node bs (binds modules (counts d) p (member.Import of)))))
  what_fault (member.From path of) unit p d bs cs h k has = taken_fault of path unit p (here p d) d bs h (all_rest (Has names) path of has) ∙ single d.fault _ _ (sym (append-nil (twice_at p.node bs (binds modules (counts d) p (member.From path of)))))
  what_fault (member.Constant name v) unit p d bs cs h k has =
      attribute_fault (here p d) (number names name) _
      ∙ one_fault (here p d) unit p (here p d) name (stand.Constant (length d.constants)) (stand.Constant (length d.constants)) (stand.Constant (length d.constants)) (old.new_constant (spot unit p (here p d)) d) bs cs h k (all_rest (Has names) (said (expr v.of)) (name ∷ []) has).0
  what_fault (member.Def name params star body) unit p d bs cs h k has =
      self_fault (spot unit p (here p d)) (map (parameter names) params) (body_events names body) _
      ∙ method_fault (here p d) (number names name) _
      ∙ one_fault (here p d) unit p (here p d) name (old.function_stand (here p d) (length d.functions)) (stand.Function (length d.functions)) (stand.Method (length d.functions)) (old.new_function (spot unit p (here p d)) d) bs cs h k has.0
  what_fault (member.Class name base) unit p d bs cs h k has =
      one_fault (here p d) unit p (here p d) name (stand.Class (length d.classes + 13)) (stand.Class (length d.classes + 13)) (stand.Class (length d.classes + 13)) (old.new_class (spot unit p (here p d)) d) bs cs h k has.0

  units_fault : (ps : List Placed) (unit : ℕ) (d : Declared) (bs cs : List Binding) (c : Counts) → d.bindings ≡ entries names bs → d.members ≡ entries names cs → counts d ≡ c → AllByRecursion (IsKnown names) ps
      → (old.declared_from given unit (map (listed names) ps) d).fault ≡ lesser d.fault (least (twices_from modules c bs cs ps))
  units_fault [] unit d bs cs c h k n has = lesser_nothing d.fault
  units_fault (p ∷ ps) unit d bs cs c h k n has =
      units_fault ps (unit + 1) (after p.what unit p d) (rule.add_all bs (binds modules c p p.what)) (rule.add_all cs (class_binds c p p.what)) (count p.what c)
      (table.what_bound names rest modules begins all p.what unit p d bs c h n has.0)
      (classes.what_bound names given p.what unit p d cs c k n has.0)
      (table.what_counted names rest modules begins all p.what unit p d c n) has.1
      ∙ lesser_more d.fault (after p.what unit p d).fault (at_fault p.what p c bs cs) (twices_from modules (count p.what c) (rule.add_all bs (binds modules c p p.what)) (rule.add_all cs (class_binds c p p.what)) ps)
      (what_fault p.what unit p d bs cs h k has.0 ∙ ap (λ x. lesser d.fault (least (at_fault p.what p x bs cs))) n)

twices_by : (ms : List Named) (begins : (rest : Names) × (names_of ms ≡ texts words ++ rest)) → (old.declared (numbers (names_of ms) (module_names ms)) (map (listed (names_of ms)) (members ms))).fault ≡ least (twices (module_names ms) (members ms))
twices_by ms (rest, e) = units_fault (names_of ms) rest (module_names ms) e (modules_stand ms) (fixed_is ms) (members ms) 0 old.start [] [] none_before refl refl refl (members_known ms)

pub twices_are : (ms : List Named) → (old.declared (listing.listing ms).modules (listing.listing ms).units).fault ≡ least (twices (module_names ms) (members ms))
twices_are ms = ap (λ l. (old.declared l.modules l.units).fault) (listing_is ms) ∙ twices_by ms (table_begins ms)
