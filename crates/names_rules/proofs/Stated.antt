-- The classes of the code are those that members state.
use Rattle.std.proofs.Common.{◌≡◌, ℕ, ◌+◌, zero, suc, List, [], ◌∷◌, ◌++◌, append_assoc, append-nil, map, length, Option, Some, None, sym, ap, ◌∙◌, refl, subst}
use Rattle.std.specs.Prelude.{slice_get}
use Rattle.std.specs.List.{AllByRecursion}
use Rattle.rpy_nodes.specs.Listing as listing
use Rattle.rpy_nodes.specs.Names.{number}
use Rattle.rpy_nodes.specs.declared.event.Event.{Event}
use Rattle.rpy_nodes.specs.declared.listing.Named.{Named}
use Rattle.rpy_nodes.specs.declared.unit.Parameter.{Parameter}
use Rattle.rpy_nodes.specs.declared.unit.Unit.{Unit as Listed}
use Rattle.names_bound.specs.Base as old_base
use Rattle.names_bound.specs.Declare as old
use Rattle.names_bound.specs.Imports as old_imports
use Rattle.names_bound.specs.declared.declare.ClassAt.{ClassAt}
use Rattle.names_bound.specs.declared.declare.Declared.{Declared}
use Rattle.names_bound.specs.declared.declare.Spot.{Spot}
use Rattle.names_bound.specs.declared.imports.Source.{Source}
use Rattle.names_bound.specs.declared.stand.Stand.{Stand}
use Rattle.names_bound.specs.declared.stand.Stand.TheVariants as stand
use Rattle.names_bound.specs.declared.table.Bound.TheVariants as old_bound
use Rattle.names_rules.specs.Bases.{Stated, stated, classes}
use Rattle.names_rules.specs.Events.{Names}
use Rattle.names_rules.specs.Listed.{numbers, module_names, names_of, listed, says, parameter, body_events}
use Rattle.names_rules.specs.Locals.{Has, IsKnown}
use Rattle.names_rules.specs.Members as member
use Rattle.names_rules.specs.Members.{What, Placed, members}
use Rattle.names_rules.proofs.Bindings.{longer}
use Rattle.names_rules.proofs.Known.{members_known}
use Rattle.names_rules.proofs.Modules.{listing_is}

attribute_classes : (o : Option ℕ) (name : ℕ) (d : Declared) → (old.attribute_in o name d).classes ≡ d.classes
attribute_classes None name d = refl
attribute_classes (Some class) name d = refl

method_classes : (o : Option ℕ) (name : ℕ) (d : Declared) → (old.method_in o name d).classes ≡ d.classes
method_classes None name d = refl
method_classes (Some class) name d = refl

bind_classes : (o : Option ℕ) (at : Spot) (name : ℕ) (s : Stand) (d : Declared) → (old.bind_in o at name s d).classes ≡ d.classes
bind_classes None at name s d = refl
bind_classes (Some class) at name s d = refl

store_classes : (at : Spot) (o : Option ℕ) (d : Declared) → (old.store_of at o d).classes ≡ d.classes
store_classes at None d = refl
store_classes at (Some name) d = attribute_classes at.class name d

stores_classes : (at : Spot) (first : ℕ) (es : List Event) (last : Option ℕ) (d : Declared) → (old.stores_from at first last es d).classes ≡ d.classes
stores_classes at first [] last d = refl
stores_classes at first (e ∷ es) last d = stores_classes at first es (old.name_in e.act) (old.store_of at (old.stored first last e.act) d) ∙ store_classes at (old.stored first last e.act) d

self_classes : (at : Spot) (ps : List Parameter) (es : List Event) (d : Declared) → (old.declare_self at ps es d).classes ≡ d.classes
self_classes at [] es d = refl
self_classes at (p ∷ ps) es d = stores_classes at p.name es None d

imports_classes : (at : Spot) (given of : List ℕ) (d : Declared) → (old.add_imports at given of d).classes ≡ d.classes
imports_classes at given [] d = refl
imports_classes at given (name ∷ of) d = imports_classes at given of (old.bind_name at name (old_bound.Is (old_imports.import_stand given name)) d)

taken_classes : (at : Spot) (s : Source) (of : List ℕ) (d : Declared) → (old.add_taken at s of d).classes ≡ d.classes
taken_classes at s [] d = refl
taken_classes at s (name ∷ of) d = taken_classes at s of (old.bind_name at name (old_imports.from_bound s name) d)

pub unit_at : (before rest : List Listed) (u : Listed) → slice_get (before ++ u ∷ rest) (length before) ≡ Some u
unit_at [] rest u = refl
unit_at (x ∷ before) rest u = unit_at before rest u

module _ (names : Names) (units : List Listed) where
  -- a class of the code, and its statement
  pub record IsStated (at : ClassAt) (c : Stated) : Type 0 where
    pub file : at.file ≡ c.file
    pub place : at.place ≡ c.place
    pub node : old_base.node_of units at.unit ≡ c.node
    pub base : old_base.path_of units at.unit ≡ numbers names c.base

  abbrev pub AreStated : List ClassAt → List Stated → Type 0
  AreStated [] [] = Unit {0}
  AreStated [] (c ∷ cs) = ⊥
  AreStated (a ∷ ats) [] = ⊥
  AreStated (a ∷ ats) (c ∷ cs) = IsStated a c × AreStated ats cs

  one_more : (ats : List ClassAt) (cs : List Stated) (a : ClassAt) (c : Stated) → AreStated ats cs → IsStated a c → AreStated (ats ++ a ∷ []) (cs ++ c ∷ [])
  one_more [] [] a c h k = (k, tt)
  one_more [] (x ∷ cs) a c h k = absurd h
  one_more (x ∷ ats) [] a c h k = absurd h
  one_more (x ∷ ats) (y ∷ cs) a c h k = (h.0, one_more ats cs a c h.1 k)

  abbrev spot : ℕ → Placed → Option ℕ → Spot
  spot unit p o = record { unit = unit; file = p.file; place = p.place; node = p.node; class = o }

  same_classes : (ats bs : List ClassAt) (cs : List Stated) → bs ≡ ats → AreStated ats cs → AreStated bs (cs ++ [])
  same_classes ats bs cs e h = subst (λ (xs : List Stated). AreStated bs xs) (sym (append-nil cs)) (subst (λ (xs : List ClassAt). AreStated xs cs) (sym e) h)

  what_stated : (w : What) (given : List ℕ) (unit : ℕ) (p : Placed) (o : Option ℕ) (d : Declared) (cs : List Stated) → slice_get units unit ≡ Some (record { file = p.file; place = p.place; inside = p.inside; node = p.node; what = says names w }) → AreStated d.classes cs
      → AreStated (old.add (spot unit p o) given (says names w) d).classes (cs ++ stated p w)
  what_stated (member.Import of) given unit p o d cs e h = same_classes d.classes _ cs (imports_classes (spot unit p o) given (numbers names of) d) h
  what_stated (member.From path of) given unit p o d cs e h = same_classes d.classes _ cs (taken_classes (spot unit p o) (old_imports.source_of given (numbers names path)) (numbers names of) d) h
  what_stated (member.Constant name v) given unit p o d cs e h = same_classes d.classes _ cs (attribute_classes o (number names name) _ ∙ bind_classes o (spot unit p o) (number names name) (stand.Constant (length d.constants)) (old.new_constant (spot unit p o) d)) h
  what_stated (member.Def name params star body) given unit p o d cs e h = same_classes d.classes _ cs (self_classes (spot unit p o) (map (parameter names) params) (body_events names body) _ ∙ method_classes o (number names name) _ ∙ bind_classes o (spot unit p o) (number names name) (old.function_stand o (length d.functions)) (old.new_function (spot unit p o) d)) h
  what_stated (member.Class name base) given unit p o d cs e h =
      subst (λ (xs : List ClassAt). AreStated xs (cs ++ stated p (member.Class name base))) (sym (bind_classes o (spot unit p o) (number names name) (stand.Class (length d.classes + 13)) (old.new_class (spot unit p o) d)))
      (one_more d.classes cs _ _ h (record { file = refl; place = refl; node = ap old_base.node_at e; base = ap old_base.path_at e }))

  units_stated : (ps : List Placed) (given : List ℕ) (before : List Listed) (unit : ℕ) (d : Declared) (cs : List Stated) → unit ≡ length before → units ≡ before ++ map (listed names) ps → AreStated d.classes cs
      → AreStated (old.declared_from given unit (map (listed names) ps) d).classes (cs ++ classes ps)
  units_stated [] given before unit d cs n e h = same_classes d.classes _ cs refl h
  units_stated (p ∷ ps) given before unit d cs n e h =
      let here : slice_get units unit ≡ Some (listed names p) = (λ j. slice_get (e j) (n j)) ∙ unit_at before (map (listed names) ps) (listed names p) in
      subst (λ (xs : List Stated). AreStated (old.declared_from given unit (map (listed names) (p ∷ ps)) d).classes xs) (append_assoc cs (stated p p.what) (classes ps))
      (units_stated ps given (before ++ listed names p ∷ []) (unit + 1) (old.add_unit given unit (listed names p) d) (cs ++ stated p p.what)
      (ap (λ k. k + 1) n ∙ sym (longer before (listed names p)))
      (e ∙ sym (append_assoc before (listed names p ∷ []) (map (listed names) ps)))
      (what_stated p.what given unit p (old.class_here p.inside (length d.classes)) d cs here h))

-- ---- the names of their bases stand in the table

abbrev pub IsKnownBase : Names → Stated → Type 0
IsKnownBase names c = AllByRecursion (Has names) c.base

base_known : (names : Names) (w : What) (p : Placed) (more : List Stated) → AllByRecursion (Has names) (member.what_said w) → AllByRecursion (IsKnownBase names) more → AllByRecursion (IsKnownBase names) (stated p w ++ more)
base_known names (member.Class name base) p more h k = (h.1, k)
base_known names other p more h k = k

bases_known : (names : Names) (ps : List Placed) → AllByRecursion (IsKnown names) ps → AllByRecursion (IsKnownBase names) (classes ps)
bases_known names [] h = tt
bases_known names (p ∷ ps) h = base_known names p.what p (classes ps) h.0 (bases_known names ps h.1)

pub bases_stand : (ms : List Named) → AllByRecursion (IsKnownBase (names_of ms)) (classes (members ms))
bases_stand ms = bases_known (names_of ms) (members ms) (members_known ms)

pub classes_stated : (ms : List Named) → AreStated (names_of ms) (listing.listing ms).units (old.declared (listing.listing ms).modules (listing.listing ms).units).classes (classes (members ms))
classes_stated ms = subst (λ l. AreStated (names_of ms) l.units (old.declared l.modules l.units).classes (classes (members ms))) (sym (listing_is ms))
    (units_stated (names_of ms) (map (listed (names_of ms)) (members ms)) (members ms) (numbers (names_of ms) (module_names ms)) [] 0 old.start [] refl refl tt)
