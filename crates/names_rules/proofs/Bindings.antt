-- The tables of the code find what the rules bind.
use Rattle.std.proofs.Common.{◌≡◌, ℕ, ◌+◌, List, [], ◌∷◌, ◌++◌, Bool, true, false, map, length, length-append, Option, Some, None, sym, ap, ◌∙◌, refl, cond}
use Rattle.std.specs.Prelude.{nat_eq, ◌&&◌}
use Rattle.std.specs.List.{AllByRecursion}
use Rattle.std.specs.Str.{bytes_eq}
use Rattle.rpy_nodes.specs.Listing as listing
use Rattle.rpy_nodes.specs.Names.{number}
use Rattle.rpy_nodes.specs.declared.event.Event.{Event}
use Rattle.rpy_nodes.specs.declared.listing.Named.{Named}
use Rattle.rpy_nodes.specs.declared.unit.Parameter.{Parameter}
use Rattle.names_bound.specs.Declare as old
use Rattle.names_bound.specs.Imports as old_imports
use Rattle.names_bound.specs.Table.{Entries, look, bind, fresh}
use Rattle.names_bound.specs.declared.declare.Declared.{Declared}
use Rattle.names_bound.specs.declared.declare.Spot.{Spot}
use Rattle.names_bound.specs.declared.imports.Source.{Source}
use Rattle.names_bound.specs.declared.stand.Stand.{Stand}
use Rattle.names_bound.specs.declared.stand.Stand.TheVariants as stand
use Rattle.names_bound.specs.declared.table.Binding.{Binding as Old}
use Rattle.names_bound.specs.declared.table.Bound.{Bound as OldBound}
use Rattle.names_bound.specs.declared.table.Bound.TheVariants as old_bound
use Rattle.names_rules.specs.Bindings as rule
use Rattle.names_rules.specs.Bindings.{Binding, Counts, none_before, count, binding, unless_inside, binds, bindings_from, bindings}
use Rattle.names_rules.specs.Bound.{bound_in, entry, entries}
use Rattle.names_rules.specs.Events.{Names}
use Rattle.names_rules.specs.Imports.{Bound, Is, import_stand, source_of, taken}
use Rattle.names_rules.specs.Listed.{numbers, module_names, names_of, listed, says, parameter, body_events}
use Rattle.names_rules.specs.Locals.{Has, IsKnown}
use Rattle.names_rules.specs.Numbering.{said}
use Rattle.names_rules.specs.Order.{expr}
use Rattle.names_rules.specs.Members as member
use Rattle.names_rules.specs.Members.{What, Placed, members}
use Rattle.names_rules.specs.Words.{words}
use Rattle.names_rules.proofs.Imports.{import_is, source_is, taken_is, modules_stand}
use Rattle.names_rules.proofs.Injective.{compared}
use Rattle.names_rules.proofs.Known.{members_known}
use Rattle.names_rules.proofs.Locals.{all_rest}
use Rattle.names_rules.proofs.Modules.{listing_is}
use Rattle.names_rules.proofs.Words.{texts, table_begins}

-- ---- tables

module _ (names : Names) where
  abbrev pub entry_of : Option Binding → Option Old
  entry_of None = None
  entry_of (Some b) = Some (entry names b).1

  entry_cond : (t : Bool) (b : Binding) (o : Option Binding) → cond t (Some (entry names b).1) (entry_of o) ≡ entry_of (cond t (Some b) o)
  entry_cond true b o = refl
  entry_cond false b o = refl

  pub look_entries : (bs : List Binding) (file : ℕ) (name : List ℕ) → Has names name → look (entries names bs) file (number names name) ≡ entry_of (rule.look bs file name)
  look_entries [] file name has = refl
  look_entries (b ∷ bs) file name has = (λ j. cond (nat_eq file b.scope && compared names name b.name has j) (Some (entry names b).1) (look_entries bs file name has j))
      ∙ entry_cond (nat_eq file b.scope && bytes_eq name b.name) b (rule.look bs file name)

  entries_end : (bs : List Binding) (b : Binding) → entries names bs ++ entry names b ∷ [] ≡ entries names (bs ++ b ∷ [])
  entries_end [] b = refl
  entries_end (x ∷ bs) b = ap (λ es. entry names x ∷ es) (entries_end bs b)

  bind_by : (o : Option Binding) (bs : List Binding) (b : Binding) → cond (fresh (entry_of o)) (entries names bs ++ entry names b ∷ []) (entries names bs) ≡ entries names (rule.add_by o bs b)
  bind_by None bs b = entries_end bs b
  bind_by (Some x) bs b = refl

  pub bound_entries : (bs : List Binding) (b : Binding) → Has names b.name → bind (entries names bs) b.scope (number names b.name) (entry names b).1 ≡ entries names (rule.add bs b)
  bound_entries bs b has = ap (λ o. cond (fresh o) (entries names bs ++ entry names b ∷ []) (entries names bs)) (look_entries bs b.scope b.name has) ∙ bind_by (rule.look bs b.scope b.name) bs b

pub add_append : (xs ys bs : List Binding) → rule.add_all bs (xs ++ ys) ≡ rule.add_all (rule.add_all bs xs) ys
add_append [] ys bs = refl
add_append (x ∷ xs) ys bs = add_append xs ys (rule.add bs x)

-- ---- what the code has declared, as far as bindings and counts go

pub record Sum : Type 0 where
  pub table : Entries
  pub counts : Counts

abbrev pub sum : Declared → Sum
sum d = record { table = d.bindings; counts = record { functions = length d.functions; classes = length d.classes; constants = length d.constants } }

attribute_sum : (o : Option ℕ) (name : ℕ) (d : Declared) → sum (old.attribute_in o name d) ≡ sum d
attribute_sum None name d = refl
attribute_sum (Some class) name d = refl

method_sum : (o : Option ℕ) (name : ℕ) (d : Declared) → sum (old.method_in o name d) ≡ sum d
method_sum None name d = refl
method_sum (Some class) name d = refl

store_sum : (at : Spot) (o : Option ℕ) (d : Declared) → sum (old.store_of at o d) ≡ sum d
store_sum at None d = refl
store_sum at (Some name) d = attribute_sum at.class name d

pub stores_sum : (at : Spot) (first : ℕ) (es : List Event) (last : Option ℕ) (d : Declared) → sum (old.stores_from at first last es d) ≡ sum d
stores_sum at first [] last d = refl
stores_sum at first (e ∷ es) last d = stores_sum at first es (old.name_in e.act) (old.store_of at (old.stored first last e.act) d) ∙ store_sum at (old.stored first last e.act) d

self_sum : (at : Spot) (ps : List Parameter) (es : List Event) (d : Declared) → sum (old.declare_self at ps es d) ≡ sum d
self_sum at [] es d = refl
self_sum at (p ∷ ps) es d = stores_sum at p.name es None d

-- a table after a name of the module, unless in the body of a class
abbrev bound_at : Option ℕ → Spot → ℕ → Stand → Entries → Entries
bound_at None at name s es = bind es at.file name (record { place = at.place; bound = old_bound.Is s })
bound_at (Some class) at name s es = es

abbrev with_table : Entries → Sum → Sum
with_table es s = record { table = es; counts = s.counts }

bind_sum : (o : Option ℕ) (at : Spot) (name : ℕ) (s : Stand) (d : Declared) → sum (old.bind_in o at name s d) ≡ with_table (bound_at o at name s d.bindings) (sum d)
bind_sum None at name s d = refl
bind_sum (Some class) at name s d = refl

pub longer : {A : Type 0} (xs : List A) (x : A) → length (xs ++ x ∷ []) ≡ length xs + 1
longer xs x = length-append xs (x ∷ [])

constant_sum : (at : Spot) (name : ℕ) (d : Declared) → sum (old.add_constant at name d) ≡ record { table = bound_at at.class at name (stand.Constant (length d.constants)) d.bindings; counts = record { functions = length d.functions; classes = length d.classes; constants = length d.constants + 1 } }
constant_sum at name d = attribute_sum at.class name _ ∙ bind_sum at.class at name (stand.Constant (length d.constants)) (old.new_constant at d)
    ∙ (λ j. record { table = bound_at at.class at name (stand.Constant (length d.constants)) d.bindings; counts = record { functions = length d.functions; classes = length d.classes; constants = longer d.constants (record { unit = at.unit; class = at.class }) j } })

function_sum : (at : Spot) (name : ℕ) (ps : List Parameter) (es : List Event) (d : Declared) → sum (old.add_function at name ps es d) ≡ record { table = bound_at at.class at name (old.function_stand at.class (length d.functions)) d.bindings; counts = record { functions = length d.functions + 1; classes = length d.classes; constants = length d.constants } }
function_sum at name ps es d = self_sum at ps es _ ∙ method_sum at.class name _ ∙ bind_sum at.class at name (old.function_stand at.class (length d.functions)) (old.new_function at d)
    ∙ (λ j. record { table = bound_at at.class at name (old.function_stand at.class (length d.functions)) d.bindings; counts = record { functions = longer d.functions (record { unit = at.unit; class = at.class }) j; classes = length d.classes; constants = length d.constants } })

class_sum : (at : Spot) (name : ℕ) (d : Declared) → sum (old.add_class at name d) ≡ record { table = bound_at at.class at name (stand.Class (length d.classes + 13)) d.bindings; counts = record { functions = length d.functions; classes = length d.classes + 1; constants = length d.constants } }
class_sum at name d = bind_sum at.class at name (stand.Class (length d.classes + 13)) (old.new_class at d)
    ∙ (λ j. record { table = bound_at at.class at name (stand.Class (length d.classes + 13)) d.bindings; counts = record { functions = length d.functions; classes = longer d.classes (record { unit = at.unit; file = at.file; place = at.place; constant = length d.constants; function = length d.functions }) j; constants = length d.constants } })

module _ (names rest modules : Names) (begins : names ≡ texts words ++ rest) (all : AllByRecursion (Has names) modules) where
  abbrev pub given : List ℕ
  given = numbers names modules

  abbrev pub spot : ℕ → Placed → Option ℕ → Spot
  spot unit p o = record { unit = unit; file = p.file; place = p.place; node = p.node; class = o }

  -- the code has these bindings and counts
  abbrev pub Tables : Declared → List Binding → Type 0
  Tables d bs = d.bindings ≡ entries names bs

  abbrev pub Counted : Declared → Counts → Type 0
  Counted d c = (sum d).counts ≡ c

  pub name_bound : (p : Placed) (name : List ℕ) (o : OldBound) (b : Bound) → o ≡ bound_in names b → (es : Entries) (bs : List Binding) → es ≡ entries names bs → Has names name → bind es p.file (number names name) (record { place = p.place; bound = o }) ≡ entries names (rule.add bs (binding p name b))
  name_bound p name o b e es bs h has = (λ j. bind (h j) p.file (number names name) (record { place = p.place; bound = e j })) ∙ bound_entries names bs (binding p name b) has

  placed_bound : (o : Option ℕ) (unit : ℕ) (p : Placed) (class : Option ℕ) (name : List ℕ) (s : Stand) (es : Entries) (bs : List Binding) → es ≡ entries names bs → Has names name → bound_at o (spot unit p class) (number names name) s es ≡ entries names (rule.add_all bs (unless_inside o (binding p name (Is s))))
  placed_bound None unit p class name s es bs h has = name_bound p name (old_bound.Is s) (Is s) refl es bs h has
  placed_bound (Some c) unit p class name s es bs h has = h

  function_bound : (o : Option ℕ) (unit : ℕ) (p : Placed) (class : Option ℕ) (name : List ℕ) (n : ℕ) (es : Entries) (bs : List Binding) → es ≡ entries names bs → Has names name → bound_at o (spot unit p class) (number names name) (old.function_stand o n) es ≡ entries names (rule.add_all bs (unless_inside o (binding p name (Is (stand.Function n)))))
  function_bound None unit p class name n es bs h has = placed_bound None unit p class name (stand.Function n) es bs h has
  function_bound (Some c) unit p class name n es bs h has = h

  -- ---- imports

  imports_bound : (of : Names) (unit : ℕ) (p : Placed) (o : Option ℕ) (d : Declared) (bs : List Binding) → Tables d bs → AllByRecursion (Has names) of → (old.add_imports (spot unit p o) given (numbers names of) d).bindings ≡ entries names (rule.add_all bs (map (λ name. binding p name (Is (import_stand modules name))) of))
  imports_bound [] unit p o d bs h has = h
  imports_bound (name ∷ of) unit p o d bs h has =
      imports_bound of unit p o (old.bind_name (spot unit p o) (number names name) (old_bound.Is (old_imports.import_stand given (number names name))) d) (rule.add bs (binding p name (Is (import_stand modules name))))
      (name_bound p name (old_bound.Is (old_imports.import_stand given (number names name))) (Is (import_stand modules name)) (ap old_bound.Is (import_is names rest begins modules name all)) d.bindings bs h has.0) has.1

  imports_counted : (of : List ℕ) (unit : ℕ) (p : Placed) (o : Option ℕ) (d : Declared) → (sum (old.add_imports (spot unit p o) given of d)).counts ≡ (sum d).counts
  imports_counted [] unit p o d = refl
  imports_counted (name ∷ of) unit p o d = imports_counted of unit p o (old.bind_name (spot unit p o) name (old_bound.Is (old_imports.import_stand given name)) d)

  taken_bound : (of path : Names) (unit : ℕ) (p : Placed) (o : Option ℕ) (d : Declared) (bs : List Binding) → Tables d bs → AllByRecursion (Has names) of → (old.add_taken (spot unit p o) (old_imports.source_of given (numbers names path)) (numbers names of) d).bindings ≡ entries names (rule.add_all bs (map (λ name. binding p name (taken (source_of modules path) name)) of))
  taken_bound [] path unit p o d bs h has = h
  taken_bound (name ∷ of) path unit p o d bs h has =
      taken_bound of path unit p o (old.bind_name (spot unit p o) (number names name) (old_imports.from_bound (old_imports.source_of given (numbers names path)) (number names name)) d) (rule.add bs (binding p name (taken (source_of modules path) name)))
      (name_bound p name (old_imports.from_bound (old_imports.source_of given (numbers names path)) (number names name)) (taken (source_of modules path) name)
      (ap (λ s. old_imports.from_bound s (number names name)) (source_is names rest begins modules path all) ∙ taken_is names rest begins (source_of modules path) name) d.bindings bs h has.0) has.1

  taken_counted : (of : List ℕ) (s : Source) (unit : ℕ) (p : Placed) (o : Option ℕ) (d : Declared) → (sum (old.add_taken (spot unit p o) s of d)).counts ≡ (sum d).counts
  taken_counted [] s unit p o d = refl
  taken_counted (name ∷ of) s unit p o d = taken_counted of s unit p o (old.bind_name (spot unit p o) name (old_imports.from_bound s name) d)

  -- ---- members

  abbrev pub after : What → ℕ → Placed → Declared → Declared
  after w unit p d = old.add (spot unit p (old.class_here p.inside (length d.classes))) given (says names w) d

  abbrev at : ℕ → Placed → Declared → Spot
  at unit p d = spot unit p (old.class_here p.inside (length d.classes))

  -- what is bound with the counts of the code is bound with those of the rules
  counted_as : (w : What) (p : Placed) (d : Declared) (bs : List Binding) (c : Counts) → Counted d c → (es : Entries) → es ≡ entries names (rule.add_all bs (binds modules (sum d).counts p w)) → es ≡ entries names (rule.add_all bs (binds modules c p w))
  counted_as w p d bs c k es h = h ∙ ap (λ x. entries names (rule.add_all bs (binds modules x p w))) k

  pub what_bound : (w : What) (unit : ℕ) (p : Placed) (d : Declared) (bs : List Binding) (c : Counts) → Tables d bs → Counted d c → AllByRecursion (Has names) (member.what_said w) → Tables (after w unit p d) (rule.add_all bs (binds modules c p w))
  what_bound (member.Import of) unit p d bs c h k has = imports_bound of unit p (old.class_here p.inside (length d.classes)) d bs h has
  what_bound (member.From path of) unit p d bs c h k has = taken_bound of path unit p (old.class_here p.inside (length d.classes)) d bs h (all_rest (Has names) path of has)
  what_bound (member.Constant name v) unit p d bs c h k has = counted_as (member.Constant name v) p d bs c k _
      (ap (λ s. s.table) (constant_sum (at unit p d) (number names name) d) ∙ placed_bound (old.class_here p.inside (length d.classes)) unit p (old.class_here p.inside (length d.classes)) name (stand.Constant (length d.constants)) d.bindings bs h (all_rest (Has names) (said (expr v.of)) (name ∷ []) has).0)
  what_bound (member.Def name params star body) unit p d bs c h k has = counted_as (member.Def name params star body) p d bs c k _
      (ap (λ s. s.table) (function_sum (at unit p d) (number names name) (map (parameter names) params) (body_events names body) d) ∙ function_bound (old.class_here p.inside (length d.classes)) unit p (old.class_here p.inside (length d.classes)) name (length d.functions) d.bindings bs h has.0)
  what_bound (member.Class name base) unit p d bs c h k has = counted_as (member.Class name base) p d bs c k _
      (ap (λ s. s.table) (class_sum (at unit p d) (number names name) d) ∙ placed_bound (old.class_here p.inside (length d.classes)) unit p (old.class_here p.inside (length d.classes)) name (stand.Class (length d.classes + 13)) d.bindings bs h has.0)

  pub what_counted : (w : What) (unit : ℕ) (p : Placed) (d : Declared) (c : Counts) → Counted d c → Counted (after w unit p d) (count w c)
  what_counted (member.Import of) unit p d c k = imports_counted (numbers names of) unit p (old.class_here p.inside (length d.classes)) d ∙ k
  what_counted (member.From path of) unit p d c k = taken_counted (numbers names of) (old_imports.source_of given (numbers names path)) unit p (old.class_here p.inside (length d.classes)) d ∙ k
  what_counted (member.Constant name v) unit p d c k = ap (λ s. s.counts) (constant_sum (at unit p d) (number names name) d) ∙ ap (count (member.Constant name v)) k
  what_counted (member.Def name params star body) unit p d c k = ap (λ s. s.counts) (function_sum (at unit p d) (number names name) (map (parameter names) params) (body_events names body) d) ∙ ap (count (member.Def name params star body)) k
  what_counted (member.Class name base) unit p d c k = ap (λ s. s.counts) (class_sum (at unit p d) (number names name) d) ∙ ap (count (member.Class name base)) k

  units_bound : (ps : List Placed) (unit : ℕ) (d : Declared) (bs : List Binding) (c : Counts) → Tables d bs → Counted d c → AllByRecursion (IsKnown names) ps → Tables (old.declared_from given unit (map (listed names) ps) d) (rule.add_all bs (bindings_from modules c ps))
  units_bound [] unit d bs c h k has = h
  units_bound (p ∷ ps) unit d bs c h k has =
      units_bound ps (unit + 1) (after p.what unit p d) (rule.add_all bs (binds modules c p p.what)) (count p.what c) (what_bound p.what unit p d bs c h k has.0) (what_counted p.what unit p d c k) has.1
      ∙ ap (entries names) (sym (add_append (binds modules c p p.what) (bindings_from modules (count p.what c) ps) bs))

bindings_by : (ms : List Named) (begins : (rest : Names) × (names_of ms ≡ texts words ++ rest)) → (old.declared (numbers (names_of ms) (module_names ms)) (map (listed (names_of ms)) (members ms))).bindings ≡ entries (names_of ms) (bindings (module_names ms) (members ms))
bindings_by ms (rest, e) = units_bound (names_of ms) rest (module_names ms) e (modules_stand ms) (members ms) 0 old.start [] none_before refl refl (members_known ms)

-- the table of the code is what the rules bind
pub bindings_are : (ms : List Named) → (old.declared (listing.listing ms).modules (listing.listing ms).units).bindings ≡ entries (names_of ms) (bindings (module_names ms) (members ms))
bindings_are ms = ap (λ l. (old.declared l.modules l.units).bindings) (listing_is ms) ∙ bindings_by ms (table_begins ms)
