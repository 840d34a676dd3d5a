-- The table of the names of class bodies is what the rules bind.
use Rattle.std.proofs.Common.{◌≡◌, ℕ, ◌+◌, List, [], ◌∷◌, map, length, Option, Some, None, sym, ap, ◌∙◌, refl}
use Rattle.std.specs.List.{AllByRecursion}
use Rattle.rpy_nodes.specs.Listing as listing
use Rattle.rpy_nodes.specs.Names.{number}
use Rattle.rpy_nodes.specs.declared.event.Event.{Event}
use Rattle.rpy_nodes.specs.declared.listing.Named.{Named}
use Rattle.rpy_nodes.specs.declared.unit.Parameter.{Parameter}
use Rattle.names_bound.specs.Declare as old
use Rattle.names_bound.specs.Imports as old_imports
use Rattle.names_bound.specs.Table.{Entries, bind}
use Rattle.names_bound.specs.declared.declare.Declared.{Declared}
use Rattle.names_bound.specs.declared.declare.Spot.{Spot}
use Rattle.names_bound.specs.declared.imports.Source.{Source}
use Rattle.names_bound.specs.declared.stand.Stand.{Stand}
use Rattle.names_bound.specs.declared.stand.Stand.TheVariants as stand
use Rattle.names_bound.specs.declared.table.Bound.TheVariants as old_bound
use Rattle.names_rules.specs.Bindings as rule
use Rattle.names_rules.specs.Bindings.{Binding, Counts, none_before, count, class_binding, if_inside, class_binds, class_bindings_from, class_bindings}
use Rattle.names_rules.specs.Bound.{entries}
use Rattle.names_rules.specs.Events.{Names}
use Rattle.names_rules.specs.Listed.{numbers, module_names, names_of, listed, says, parameter, body_events}
use Rattle.names_rules.specs.Locals.{Has, IsKnown}
use Rattle.names_rules.specs.Members as member
use Rattle.names_rules.specs.Members.{What, Placed, members}
use Rattle.names_rules.specs.Numbering.{said}
use Rattle.names_rules.specs.Order.{expr}
use Rattle.names_rules.proofs.Bindings.{bound_entries, add_append, longer}
use Rattle.names_rules.proofs.Known.{members_known}
use Rattle.names_rules.proofs.Locals.{all_rest}
use Rattle.names_rules.proofs.Modules.{listing_is}

pub record Sum : Type 0 where
  pub table : Entries
  pub counts : Counts

abbrev pub sum : Declared → Sum
sum d = record { table = d.members; counts = record { functions = length d.functions; classes = length d.classes; constants = length d.constants } }

attribute_sum : (o : Option ℕ) (name : ℕ) (d : Declared) → sum (old.attribute_in o name d) ≡ sum d
attribute_sum None name d = refl
attribute_sum (Some class) name d = refl

method_sum : (o : Option ℕ) (name : ℕ) (d : Declared) → sum (old.method_in o name d) ≡ sum d
method_sum None name d = refl
method_sum (Some class) name d = refl

store_sum : (at : Spot) (o : Option ℕ) (d : Declared) → sum (old.store_of at o d) ≡ sum d
store_sum at None d = refl
store_sum at (Some name) d = attribute_sum at.class name d

stores_sum : (at : Spot) (first : ℕ) (es : List Event) (last : Option ℕ) (d : Declared) → sum (old.stores_from at first last es d) ≡ sum d
stores_sum at first [] last d = refl
stores_sum at first (e ∷ es) last d = stores_sum at first es (old.name_in e.act) (old.store_of at (old.stored first last e.act) d) ∙ store_sum at (old.stored first last e.act) d

self_sum : (at : Spot) (ps : List Parameter) (es : List Event) (d : Declared) → sum (old.declare_self at ps es d) ≡ sum d
self_sum at [] es d = refl
self_sum at (p ∷ ps) es d = stores_sum at p.name es None d

-- a table after a name of the body of a class
abbrev bound_at : Option ℕ → Spot → ℕ → Stand → Entries → Entries
bound_at None at name s es = es
bound_at (Some class) at name s es = bind es class name (record { place = at.place; bound = old_bound.Is s })

abbrev with_table : Entries → Sum → Sum
with_table es s = record { table = es; counts = s.counts }

bind_sum : (o : Option ℕ) (at : Spot) (name : ℕ) (s : Stand) (d : Declared) → sum (old.bind_in o at name s d) ≡ with_table (bound_at o at name s d.members) (sum d)
bind_sum None at name s d = refl
bind_sum (Some class) at name s d = refl

constant_sum : (at : Spot) (name : ℕ) (d : Declared) → sum (old.add_constant at name d) ≡ record { table = bound_at at.class at name (stand.Constant (length d.constants)) d.members; counts = record { functions = length d.functions; classes = length d.classes; constants = length d.constants + 1 } }
constant_sum at name d = attribute_sum at.class name _ ∙ bind_sum at.class at name (stand.Constant (length d.constants)) (old.new_constant at d)
    ∙ (λ j. record { table = bound_at at.class at name (stand.Constant (length d.constants)) d.members; counts = record { functions = length d.functions; classes = length d.classes; constants = longer d.constants (record { unit = at.unit; class = at.class }) j } })

function_sum : (at : Spot) (name : ℕ) (ps : List Parameter) (es : List Event) (d : Declared) → sum (old.add_function at name ps es d) ≡ record { table = bound_at at.class at name (old.function_stand at.class (length d.functions)) d.members; counts = record { functions = length d.functions + 1; classes = length d.classes; constants = length d.constants } }
function_sum at name ps es d = self_sum at ps es _ ∙ method_sum at.class name _ ∙ bind_sum at.class at name (old.function_stand at.class (length d.functions)) (old.new_function at d)
    ∙ (λ j. record { table = bound_at at.class at name (old.function_stand at.class (length d.functions)) d.members; counts = record { functions = longer d.functions (record { unit = at.unit; class = at.class }) j; classes = length d.classes; constants = length d.constants } })

class_sum : (at : Spot) (name : ℕ) (d : Declared) → sum (old.add_class at name d) ≡ record { table = bound_at at.class at name (stand.Class (length d.classes + 13)) d.members; counts = record { functions = length d.functions; classes = length d.classes + 1; constants = length d.constants } }
class_sum at name d = bind_sum at.class at name (stand.Class (length d.classes + 13)) (old.new_class at d)
    ∙ (λ j. record { table = bound_at at.class at name (stand.Class (length d.classes + 13)) d.members; counts = record { functions = length d.functions; classes = longer d.classes (record { unit = at.unit; file = at.file; place = at.place; constant = length d.constants; function = length d.functions }) j; constants = length d.constants } })

module _ (names : Names) (given : List ℕ) where
  abbrev pub spot : ℕ → Placed → Option ℕ → Spot
  spot unit p o = record { unit = unit; file = p.file; place = p.place; node = p.node; class = o }

  abbrev pub Tables : Declared → List Binding → Type 0
  Tables d bs = d.members ≡ entries names bs

  abbrev pub Counted : Declared → Counts → Type 0
  Counted d c = (sum d).counts ≡ c

  placed_bound : (o : Option ℕ) (unit : ℕ) (p : Placed) (class : Option ℕ) (name : List ℕ) (s : Stand) (es : Entries) (bs : List Binding) → es ≡ entries names bs → Has names name → bound_at o (spot unit p class) (number names name) s es ≡ entries names (rule.add_all bs (if_inside o p name s))
  placed_bound None unit p class name s es bs h has = h
  placed_bound (Some c) unit p class name s es bs h has = ap (λ t. bind t c (number names name) (record { place = p.place; bound = old_bound.Is s })) h ∙ bound_entries names bs (class_binding c p name s) has

  function_bound : (o : Option ℕ) (unit : ℕ) (p : Placed) (class : Option ℕ) (name : List ℕ) (n : ℕ) (es : Entries) (bs : List Binding) → es ≡ entries names bs → Has names name → bound_at o (spot unit p class) (number names name) (old.function_stand o n) es ≡ entries names (rule.add_all bs (if_inside o p name (stand.Method n)))
  function_bound None unit p class name n es bs h has = h
  function_bound (Some c) unit p class name n es bs h has = placed_bound (Some c) unit p class name (stand.Method n) es bs h has

  imports_sum : (of : List ℕ) (unit : ℕ) (p : Placed) (o : Option ℕ) (d : Declared) → sum (old.add_imports (spot unit p o) given of d) ≡ sum d
  imports_sum [] unit p o d = refl
  imports_sum (name ∷ of) unit p o d = imports_sum of unit p o (old.bind_name (spot unit p o) name (old_bound.Is (old_imports.import_stand given name)) d)

  taken_sum : (of : List ℕ) (s : Source) (unit : ℕ) (p : Placed) (o : Option ℕ) (d : Declared) → sum (old.add_taken (spot unit p o) s of d) ≡ sum d
  taken_sum [] s unit p o d = refl
  taken_sum (name ∷ of) s unit p o d = taken_sum of s unit p o (old.bind_name (spot unit p o) name (old_imports.from_bound s name) d)

  abbrev pub after : What → ℕ → Placed → Declared → Declared
  after w unit p d = old.add (spot unit p (old.class_here p.inside (length d.classes))) given (says names w) d

  abbrev at : ℕ → Placed → Declared → Spot
  at unit p d = spot unit p (old.class_here p.inside (length d.classes))

  counted_as : (w : What) (p : Placed) (d : Declared) (bs : List Binding) (c : Counts) → Counted d c → (es : Entries) → es ≡ entries names (rule.add_all bs (class_binds (sum d).counts p w)) → es ≡ entries names (rule.add_all bs (class_binds c p w))
  counted_as w p d bs c k es h = h ∙ ap (λ x. entries names (rule.add_all bs (class_binds x p w))) k

  pub what_bound : (w : What) (unit : ℕ) (p : Placed) (d : Declared) (bs : List Binding) (c : Counts) → Tables d bs → Counted d c → AllByRecursion (Has names) (member.what_said w) → Tables (after w unit p d) (rule.add_all bs (class_binds c p w))
  what_bound (member.Import of) unit p d bs c h k has = ap (λ s. s.table) (imports_sum (numbers names of) unit p (old.class_here p.inside (length d.classes)) d) ∙ h
  what_bound (member.From path of) unit p d bs c h k has = ap (λ s. s.table) (taken_sum (numbers names of) (old_imports.source_of given (numbers names path)) unit p (old.class_here p.inside (length d.classes)) d) ∙ h
  what_bound (member.Constant name v) unit p d bs c h k has = counted_as (member.Constant name v) p d bs c k _
      (ap (λ s. s.table) (constant_sum (at unit p d) (number names name) d) ∙ placed_bound (old.class_here p.inside (length d.classes)) unit p (old.class_here p.inside (length d.classes)) name (stand.Constant (length d.constants)) d.members bs h (all_rest (Has names) (said (expr v.of)) (name ∷ []) has).0)
  what_bound (member.Def name params star body) unit p d bs c h k has = counted_as (member.Def name params star body) p d bs c k _
      (ap (λ s. s.table) (function_sum (at unit p d) (number names name) (map (parameter names) params) (body_events names body) d) ∙ function_bound (old.class_here p.inside (length d.classes)) unit p (old.class_here p.inside (length d.classes)) name (length d.functions) d.members bs h has.0)
  what_bound (member.Class name base) unit p d bs c h k has = counted_as (member.Class name base) p d bs c k _
      (ap (λ s. s.table) (class_sum (at unit p d) (number names name) d) ∙ placed_bound (old.class_here p.inside (length d.classes)) unit p (old.class_here p.inside (length d.classes)) name (stand.Class (length d.classes + 13)) d.members bs h has.0)

  pub what_counted : (w : What) (unit : ℕ) (p : Placed) (d : Declared) (c : Counts) → Counted d c → Counted (after w unit p d) (count w c)
  what_counted (member.Import of) unit p d c k = ap (λ s. s.counts) (imports_sum (numbers names of) unit p (old.class_here p.inside (length d.classes)) d) ∙ k
  what_counted (member.From path of) unit p d c k = ap (λ s. s.counts) (taken_sum (numbers names of) (old_imports.source_of given (numbers names path)) unit p (old.class_here p.inside (length d.classes)) d) ∙ k
  what_counted (member.Constant name v) unit p d c k = ap (λ s. s.counts) (constant_sum (at unit p d) (number names name) d) ∙ ap (count (member.Constant name v)) k
  what_counted (member.Def name params star body) unit p d c k = ap (λ s. s.counts) (function_sum (at unit p d) (number names name) (map (parameter names) params) (body_events names body) d) ∙ ap (count (member.Def name params star body)) k
  what_counted (member.Class name base) unit p d c k = ap (λ s. s.counts) (class_sum (at unit p d) (number names name) d) ∙ ap (count (member.Class name base)) k

  units_bound : (ps : List Placed) (unit : ℕ) (d : Declared) (bs : List Binding) (c : Counts) → Tables d bs → Counted d c → AllByRecursion (IsKnown names) ps → Tables (old.declared_from given unit (map (listed names) ps) d) (rule.add_all bs (class_bindings_from c ps))
  units_bound [] unit d bs c h k has = h
  units_bound (p ∷ ps) unit d bs c h k has =
      units_bound ps (unit + 1) (after p.what unit p d) (rule.add_all bs (class_binds c p p.what)) (count p.what c) (what_bound p.what unit p d bs c h k has.0) (what_counted p.what unit p d c k) has.1
      ∙ ap (entries names) (sym (add_append (class_binds c p p.what) (class_bindings_from (count p.what c) ps) bs))

pub class_bindings_are : (ms : List Named) → (old.declared (listing.listing ms).modules (listing.listing ms).units).members ≡ entries (names_of ms) (class_bindings (members ms))
class_bindings_are ms = ap (λ l. (old.declared l.modules l.units).members) (listing_is ms) ∙ units_bound (names_of ms) (numbers (names_of ms) (module_names ms)) (members ms) 0 old.start [] none_before refl refl (members_known ms)
