-- The functions, constants and classes that the code declares, member by member.
use Rattle.std.proofs.Common.{◌≡◌, ℕ, ◌+◌, List, [], ◌∷◌, ◌++◌, append_assoc, append-nil, map, length, Option, Some, None, sym, ◌∙◌, refl}
use Rattle.std.specs.List.{AllByRecursion}
use Rattle.rpy_nodes.specs.Names.{number}
use Rattle.rpy_nodes.specs.declared.event.Event.{Event}
use Rattle.rpy_nodes.specs.declared.unit.Parameter.{Parameter}
use Rattle.names_bound.specs.Declare as old
use Rattle.names_bound.specs.Imports as old_imports
use Rattle.names_bound.specs.declared.declare.ClassAt.{ClassAt}
use Rattle.names_bound.specs.declared.declare.ConstantAt.{ConstantAt}
use Rattle.names_bound.specs.declared.declare.Declared.{Declared}
use Rattle.names_bound.specs.declared.declare.FunctionAt.{FunctionAt}
use Rattle.names_bound.specs.declared.declare.Spot.{Spot}
use Rattle.names_bound.specs.declared.imports.Source.{Source}
use Rattle.names_bound.specs.declared.stand.Stand.{Stand}
use Rattle.names_bound.specs.declared.stand.Stand.TheVariants as stand
use Rattle.names_bound.specs.declared.table.Bound.TheVariants as old_bound
use Rattle.names_rules.specs.Bindings.{Counts, count}
use Rattle.names_rules.specs.Events.{Names}
use Rattle.names_rules.specs.Listed.{numbers, listed, says, parameter, body_events}
use Rattle.names_rules.specs.Locals.{Has}
use Rattle.names_rules.specs.Members as member
use Rattle.names_rules.specs.Members.{What, Placed}
use Rattle.names_rules.specs.Words.{words}
use Rattle.names_rules.proofs.Bindings as table
use Rattle.names_rules.proofs.Words.{texts}

-- ---- what leaves them as they are

pub record Lists : Type 0 where
  pub functions : List FunctionAt
  pub constants : List ConstantAt
  pub classes : List ClassAt

abbrev pub lists : Declared → Lists
lists d = record { functions = d.functions; constants = d.constants; classes = d.classes }

attribute_lists : (o : Option ℕ) (name : ℕ) (d : Declared) → lists (old.attribute_in o name d) ≡ lists d
attribute_lists None name d = refl
attribute_lists (Some class) name d = refl

method_lists : (o : Option ℕ) (name : ℕ) (d : Declared) → lists (old.method_in o name d) ≡ lists d
method_lists None name d = refl
method_lists (Some class) name d = refl

bind_lists : (o : Option ℕ) (at : Spot) (name : ℕ) (s : Stand) (d : Declared) → lists (old.bind_in o at name s d) ≡ lists d
bind_lists None at name s d = refl
bind_lists (Some class) at name s d = refl

store_lists : (at : Spot) (o : Option ℕ) (d : Declared) → lists (old.store_of at o d) ≡ lists d
store_lists at None d = refl
store_lists at (Some name) d = attribute_lists at.class name d

stores_lists : (at : Spot) (first : ℕ) (es : List Event) (last : Option ℕ) (d : Declared) → lists (old.stores_from at first last es d) ≡ lists d
stores_lists at first [] last d = refl
stores_lists at first (e ∷ es) last d = stores_lists at first es (old.name_in e.act) (old.store_of at (old.stored first last e.act) d) ∙ store_lists at (old.stored first last e.act) d

self_lists : (at : Spot) (ps : List Parameter) (es : List Event) (d : Declared) → lists (old.declare_self at ps es d) ≡ lists d
self_lists at [] es d = refl
self_lists at (p ∷ ps) es d = stores_lists at p.name es None d

imports_lists : (at : Spot) (given of : List ℕ) (d : Declared) → lists (old.add_imports at given of d) ≡ lists d
imports_lists at given [] d = refl
imports_lists at given (name ∷ of) d = imports_lists at given of (old.bind_name at name (old_bound.Is (old_imports.import_stand given name)) d)

taken_lists : (at : Spot) (s : Source) (of : List ℕ) (d : Declared) → lists (old.add_taken at s of d) ≡ lists d
taken_lists at s [] d = refl
taken_lists at s (name ∷ of) d = taken_lists at s of (old.bind_name at name (old_imports.from_bound s name) d)

-- ---- what a member adds

abbrev pub constant_at : ℕ → Option ℕ → What → List ConstantAt
constant_at unit o (member.Constant name v) = record { unit = unit; class = o } ∷ []
constant_at unit o other = []

abbrev pub function_at : ℕ → Option ℕ → What → List FunctionAt
function_at unit o (member.Def name ps star b) = record { unit = unit; class = o } ∷ []
function_at unit o other = []

abbrev pub class_at : ℕ → Placed → Counts → What → List ClassAt
class_at unit p c (member.Class name base) = record { unit = unit; file = p.file; place = p.place; constant = c.constants; function = c.functions } ∷ []
class_at unit p c other = []

abbrev pub counts : Lists → Counts
counts l = record { functions = length l.functions; classes = length l.classes; constants = length l.constants }

abbrev more : ℕ → Placed → Option ℕ → What → Lists → Lists
more unit p o w l = record { functions = l.functions ++ function_at unit o w; constants = l.constants ++ constant_at unit o w; classes = l.classes ++ class_at unit p (counts l) w }

no_more : (l : Lists) → l ≡ record { functions = l.functions ++ []; constants = l.constants ++ []; classes = l.classes ++ [] }
no_more l = λ j. record { functions = sym (append-nil l.functions) j; constants = sym (append-nil l.constants) j; classes = sym (append-nil l.classes) j }

abbrev spot : ℕ → Placed → Option ℕ → Spot
spot unit p o = record { unit = unit; file = p.file; place = p.place; node = p.node; class = o }

what_lists : (names : Names) (w : What) (given : List ℕ) (unit : ℕ) (p : Placed) (o : Option ℕ) (d : Declared) → lists (old.add (spot unit p o) given (says names w) d) ≡ more unit p o w (lists d)
what_lists names (member.Import of) given unit p o d = imports_lists (spot unit p o) given (numbers names of) d ∙ no_more (lists d)
what_lists names (member.From path of) given unit p o d = taken_lists (spot unit p o) (old_imports.source_of given (numbers names path)) (numbers names of) d ∙ no_more (lists d)
what_lists names (member.Constant name v) given unit p o d =
    attribute_lists o (number names name) _ ∙ bind_lists o (spot unit p o) (number names name) (stand.Constant (length d.constants)) (old.new_constant (spot unit p o) d)
    ∙ (λ j. record { functions = sym (append-nil d.functions) j; constants = d.constants ++ record { unit = unit; class = o } ∷ []; classes = sym (append-nil d.classes) j })
what_lists names (member.Def name ps star b) given unit p o d =
    self_lists (spot unit p o) (map (parameter names) ps) (body_events names b) _ ∙ method_lists o (number names name) _ ∙ bind_lists o (spot unit p o) (number names name) (old.function_stand o (length d.functions)) (old.new_function (spot unit p o) d)
    ∙ (λ j. record { functions = d.functions ++ record { unit = unit; class = o } ∷ []; constants = sym (append-nil d.constants) j; classes = sym (append-nil d.classes) j })
what_lists names (member.Class name base) given unit p o d =
    bind_lists o (spot unit p o) (number names name) (stand.Class (length d.classes + 13)) (old.new_class (spot unit p o) d)
    ∙ (λ j. record { functions = sym (append-nil d.functions) j; constants = sym (append-nil d.constants) j; classes = d.classes ++ record { unit = unit; file = p.file; place = p.place; constant = length d.constants; function = length d.functions } ∷ [] })

-- ---- all members

abbrev pub class_of : Placed → Counts → Option ℕ
class_of p c = old.class_here p.inside c.classes

abbrev pub constants_at : ℕ → Counts → List Placed → List ConstantAt
constants_at unit c [] = []
constants_at unit c (p ∷ ps) = constant_at unit (class_of p c) p.what ++ constants_at (unit + 1) (count p.what c) ps

abbrev pub functions_at : ℕ → Counts → List Placed → List FunctionAt
functions_at unit c [] = []
functions_at unit c (p ∷ ps) = function_at unit (class_of p c) p.what ++ functions_at (unit + 1) (count p.what c) ps

abbrev pub classes_at : ℕ → Counts → List Placed → List ClassAt
classes_at unit c [] = []
classes_at unit c (p ∷ ps) = class_at unit p c p.what ++ classes_at (unit + 1) (count p.what c) ps

module _ (names rest modules : Names) (begins : names ≡ texts words ++ rest) (all : AllByRecursion (Has names) modules) where
  pub units_lists : (ps : List Placed) (unit : ℕ) (d : Declared) (c : Counts) → table.Counted names rest modules begins all d c
      → lists (old.declared_from (numbers names modules) unit (map (listed names) ps) d) ≡ record { functions = d.functions ++ functions_at unit c ps; constants = d.constants ++ constants_at unit c ps; classes = d.classes ++ classes_at unit c ps }
  units_lists [] unit d c k = no_more (lists d)
  units_lists (p ∷ ps) unit d c k =
      let d' : Declared = old.add_unit (numbers names modules) unit (listed names p) d in
      let one : lists d' ≡ record { functions = d.functions ++ function_at unit (class_of p c) p.what; constants = d.constants ++ constant_at unit (class_of p c) p.what; classes = d.classes ++ class_at unit p c p.what }
      = what_lists names p.what (numbers names modules) unit p (old.class_here p.inside (length d.classes)) d
      ∙ (λ j. record { functions = d.functions ++ function_at unit (class_of p (k j)) p.what; constants = d.constants ++ constant_at unit (class_of p (k j)) p.what; classes = d.classes ++ class_at unit p (k j) p.what }) in
      units_lists ps (unit + 1) d' (count p.what c) (table.what_counted names rest modules begins all p.what unit p d c k)
      ∙ (λ j. record { functions = (one j).functions ++ functions_at (unit + 1) (count p.what c) ps; constants = (one j).constants ++ constants_at (unit + 1) (count p.what c) ps; classes = (one j).classes ++ classes_at (unit + 1) (count p.what c) ps })
      ∙ (λ j. record {
        functions = append_assoc d.functions (function_at unit (class_of p c) p.what) (functions_at (unit + 1) (count p.what c) ps) j;
        constants = append_assoc d.constants (constant_at unit (class_of p c) p.what) (constants_at (unit + 1) (count p.what c) ps) j;
        classes = append_assoc d.classes (class_at unit p c p.what) (classes_at (unit + 1) (count p.what c) ps) j;
      })
