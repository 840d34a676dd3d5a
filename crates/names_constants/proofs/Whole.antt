-- The constants that the code has are those of the members, and the values and faults of all of them are those of the rules.
use Rattle.std.proofs.Common.{◌≡◌, ℕ, ◌+◌, List, [], ◌∷◌, ◌++◌, append_assoc, append-nil, map, length, Option, Some, None, sym, ap, ◌∙◌, refl, subst}
use Rattle.std.specs.Prelude.{slice_get, nat_le, nat_lt, ◌&&◌}
use Rattle.std.specs.List.{AllByRecursion}
use Rattle.rpy_nodes.specs.Listing as listing
use Rattle.rpy_nodes.specs.Names.{number}
use Rattle.rpy_nodes.specs.declared.event.Event.{Event}
use Rattle.rpy_nodes.specs.declared.listing.Named.{Named}
use Rattle.rpy_nodes.specs.declared.unit.Listing.{Listing}
use Rattle.rpy_nodes.specs.declared.unit.Parameter.{Parameter}
use Rattle.names_bound.specs.Declare as old
use Rattle.names_bound.specs.Imports as old_imports
use Rattle.names_bound.specs.Scopes as scopes
use Rattle.names_bound.specs.declared.declare.ConstantAt.{ConstantAt}
use Rattle.names_bound.specs.declared.declare.Declared.{Declared}
use Rattle.names_bound.specs.declared.declare.FunctionAt.{FunctionAt}
use Rattle.names_bound.specs.declared.declare.Spot.{Spot}
use Rattle.names_bound.specs.declared.fault.Fault.{Fault}
use Rattle.names_bound.specs.declared.imports.Source.{Source}
use Rattle.names_bound.specs.declared.scopes.Scopes.{Scopes}
use Rattle.names_bound.specs.declared.stand.Stand.{Stand}
use Rattle.names_bound.specs.declared.stand.Stand.TheVariants as stand
use Rattle.names_bound.specs.declared.table.Bound.TheVariants as old_bound
use Rattle.names_found.specs.Finder as finder
use Rattle.names_found.specs.Units.{find_units}
use Rattle.names_found.specs.declared.finder.Finder.{Finder}
use Rattle.names_found.specs.declared.step.SiteAt.{SiteAt}
use Rattle.names_found.specs.declared.unit.Found.{Found}
use Rattle.names_rules.specs.Bindings.{Binding, Counts, none_before, count, bindings, class_bindings}
use Rattle.names_rules.specs.Events.{Names}
use Rattle.names_rules.specs.Least.{least}
use Rattle.names_rules.specs.Listed.{numbers, module_names, names_of, listed, says, parameter, body_events}
use Rattle.names_rules.specs.Locals.{Has}
use Rattle.names_rules.specs.Members as member
use Rattle.names_rules.specs.Members.{What, Placed, members}
use Rattle.names_rules.specs.Scopes as scope
use Rattle.names_rules.specs.Scopes.{FindsAlike}
use Rattle.names_rules.specs.Words.{words}
use Rattle.names_rules.proofs.Bindings as table
use Rattle.names_rules.proofs.Bindings.{longer}
use Rattle.names_rules.proofs.Imports.{modules_stand}
use Rattle.names_rules.proofs.Known.{members_known, members_locals}
use Rattle.names_rules.proofs.Modules.{listing_is}
use Rattle.names_rules.proofs.Scopes.{scopes_alike, members_alike}
use Rattle.names_rules.proofs.Words.{texts, table_begins}
use Rattle.names_value.specs.Constants as code
use Rattle.names_value.specs.declared.constants.Checked.{Checked}
use Rattle.names_value.specs.declared.constants.Values.{Values as Code}
use Rattle.names_constants.specs.Constants as rule
use Rattle.names_constants.specs.Constants.{Constant}
use Rattle.names_constants.specs.Stands.{is_maker}
use Rattle.names_constants.proofs.Checked.{added, all_added, unsettled_made}
use Rattle.names_constants.proofs.Order.{Values}
use Rattle.names_constants.proofs.Read.{IsFound, AreFound, FoundUnits, units_found}
use Rattle.names_constants.proofs.Rounds.{IsConstant, AreConstants, values_are, fixed}
use Rattle.names_constants.proofs.Stands.{makers_are}

-- ---- what leaves the functions and the constants as they are

abbrev pub Lists : Type 0
Lists = List FunctionAt × List ConstantAt

abbrev pub lists : Declared → Lists
lists d = (d.functions, d.constants)

attribute_lists : (o : Option ℕ) (name : ℕ) (d : Declared) → lists (old.attribute_in o name d) ≡ lists d
attribute_lists None name d = refl
attribute_lists (Some class) name d = refl

method_lists : (o : Option ℕ) (name : ℕ) (d : Declared) → lists (old.method_in o name d) ≡ lists d
method_lists None name d = refl
method_lists (Some class) name d = refl

bind_lists : (o : Option ℕ) (at : Spot) (name : ℕ) (s : Stand) (d : Declared) → lists (old.bind_in o at name s d) ≡ lists d
bind_lists None at name s d = refl
bind_lists (Some class) at name s d = refl

store_lists : (at : Spot) (o : Option ℕ) (d : Declared) → lists (old.store_of at o d) ≡ lists d
store_lists at None d = refl
store_lists at (Some name) d = attribute_lists at.class name d

stores_lists : (at : Spot) (first : ℕ) (es : List Event) (last : Option ℕ) (d : Declared) → lists (old.stores_from at first last es d) ≡ lists d
stores_lists at first [] last d = refl
stores_lists at first (e ∷ es) last d = stores_lists at first es (old.name_in e.act) (old.store_of at (old.stored first last e.act) d) ∙ store_lists at (old.stored first last e.act) d

self_lists : (at : Spot) (ps : List Parameter) (es : List Event) (d : Declared) → lists (old.declare_self at ps es d) ≡ lists d
self_lists at [] es d = refl
self_lists at (p ∷ ps) es d = stores_lists at p.name es None d

imports_lists : (at : Spot) (given of : List ℕ) (d : Declared) → lists (old.add_imports at given of d) ≡ lists d
imports_lists at given [] d = refl
imports_lists at given (name ∷ of) d = imports_lists at given of (old.bind_name at name (old_bound.Is (old_imports.import_stand given name)) d)

taken_lists : (at : Spot) (s : Source) (of : List ℕ) (d : Declared) → lists (old.add_taken at s of d) ≡ lists d
taken_lists at s [] d = refl
taken_lists at s (name ∷ of) d = taken_lists at s of (old.bind_name at name (old_imports.from_bound s name) d)

constant_lists : (at : Spot) (name : ℕ) (d : Declared) → lists (old.add_constant at name d) ≡ lists (old.new_constant at d)
constant_lists at name d = attribute_lists at.class name _ ∙ bind_lists at.class at name (stand.Constant (length d.constants)) (old.new_constant at d)

function_lists : (at : Spot) (name : ℕ) (ps : List Parameter) (es : List Event) (d : Declared) → lists (old.add_function at name ps es d) ≡ lists (old.new_function at d)
function_lists at name ps es d = self_lists at ps es _ ∙ method_lists at.class name _ ∙ bind_lists at.class at name (old.function_stand at.class (length d.functions)) (old.new_function at d)

class_lists : (at : Spot) (name : ℕ) (d : Declared) → lists (old.add_class at name d) ≡ lists d
class_lists at name d = bind_lists at.class at name (stand.Class (length d.classes + 13)) (old.new_class at d)

abbrev pub spot : ℕ → Placed → Option ℕ → Spot
spot unit p o = record { unit = unit; file = p.file; place = p.place; node = p.node; class = o }

-- what a member adds to both
abbrev pub lists_more : ℕ → Option ℕ → What → Lists → Lists
lists_more unit o (member.Constant name v) l = (l.0, l.1 ++ record { unit = unit; class = o } ∷ [])
lists_more unit o (member.Def name ps star b) l = (l.0 ++ record { unit = unit; class = o } ∷ [], l.1)
lists_more unit o other l = l

pub what_lists : (names : Names) (w : What) (given : List ℕ) (unit : ℕ) (p : Placed) (o : Option ℕ) (d : Declared) → lists (old.add (spot unit p o) given (says names w) d) ≡ lists_more unit o w (lists d)
what_lists names (member.Import of) given unit p o d = imports_lists (spot unit p o) given (numbers names of) d
what_lists names (member.From path of) given unit p o d = taken_lists (spot unit p o) (old_imports.source_of given (numbers names path)) (numbers names of) d
what_lists names (member.Constant name v) given unit p o d = constant_lists (spot unit p o) (number names name) d
what_lists names (member.Def name ps star b) given unit p o d = function_lists (spot unit p o) (number names name) (map (parameter names) ps) (body_events names b) d
what_lists names (member.Class name base) given unit p o d = class_lists (spot unit p o) (number names name) d

found_at : (before rest : List Found) (f : Found) → slice_get (before ++ f ∷ rest) (length before) ≡ Some f
found_at [] rest f = refl
found_at (x ∷ before) rest f = found_at before rest f

module _ (names : Names) (s : Scopes) (bs cs : List Binding)
    (globals : (file : ℕ) (name : List ℕ) → Has names name → FindsAlike names bs s file name)
    (dots : (of : Stand) (name : List ℕ) → Has names name → scopes.member s of (number names name) ≡ scope.member bs cs s.bases of name)
    (makers : (name : List ℕ) → (nat_le 37 (number names name) && nat_lt (number names name) 44) ≡ is_maker name)
    (rest modules : Names) (begins : names ≡ texts words ++ rest) (all : AllByRecursion (Has names) modules) (found : List Found) where
  abbrev Constants : List ConstantAt → List Constant → Type 0
  Constants = AreConstants bs cs s.bases names found

  one_more : (ats : List ConstantAt) (ks : List Constant) (a : ConstantAt) (k : Constant) → Constants ats ks → IsConstant bs cs s.bases names found a k → Constants (ats ++ a ∷ []) (ks ++ k ∷ [])
  one_more [] [] a k h i = (i, tt)
  one_more [] (x ∷ ks) a k h i = absurd h
  one_more (x ∷ ats) [] a k h i = absurd h
  one_more (x ∷ ats) (y ∷ ks) a k h i = (h.0, one_more ats ks a k h.1 i)

  still : (ats : List ConstantAt) (ks : List Constant) → Constants ats ks → Constants ats (ks ++ [])
  still ats ks h = subst (λ (xs : List Constant). Constants ats xs) (sym (append-nil ks)) h

  what_constants : (w : What) (unit : ℕ) (p : Placed) (o : Option ℕ) (l : Lists) (ks : List Constant) (f : Found) (sites : List SiteAt) → slice_get found unit ≡ Some f → IsFound names s bs cs globals dots makers f p w sites → Constants l.1 ks
      → Constants (lists_more unit o w l).1 (ks ++ rule.constant bs cs s.bases o p sites w)
  what_constants (member.Import of) unit p o l ks f sites at h c = still l.1 ks c
  what_constants (member.From path of) unit p o l ks f sites at h c = still l.1 ks c
  what_constants (member.Constant name v) unit p o l ks f sites at h c =
      one_more l.1 ks (record { unit = unit; class = o }) (record { file = p.file; place = p.place; class = o; value = v; sites = sites }) c
      (record { class = refl; reads = subst (λ (t : Option Found). Rattle.names_constants.proofs.Read.Reads names (code.steps_in t) (λ V. rule.valued bs cs s.bases V p.file p.place v sites)) (sym at) h.2 })
  what_constants (member.Def name ps star b) unit p o l ks f sites at h c = still l.1 ks c
  what_constants (member.Class name base) unit p o l ks f sites at h c = still l.1 ks c

  abbrev Counted : Declared → Counts → Type 0
  Counted d c = table.Counted names rest modules begins all d c

  abbrev class_of : Placed → Declared → Option ℕ
  class_of p d = old.class_here p.inside (length d.classes)

  units_constants : (ps : List Placed) (before fs : List Found) (unit : ℕ) (d : Declared) (ks : List Constant) (c : Counts) (sites : List SiteAt) → unit ≡ length before → found ≡ before ++ fs → AreFound names s bs cs globals dots makers fs ps sites → Counted d c → Constants d.constants ks
      → Constants (old.declared_from (numbers names modules) unit (map (listed names) ps) d).constants (ks ++ rule.constants_from bs cs s.bases c sites ps)
  units_constants [] before fs unit d ks c sites n e h k are = still d.constants ks are
  units_constants (p ∷ ps) before [] unit d ks c sites n e h k are = absurd h
  units_constants (p ∷ ps) before (f ∷ fs) unit d ks c sites n e h k are =
      let given : List ℕ = numbers names modules in
      let d' : Declared = old.add_unit given unit (listed names p) d in
      let at : slice_get found unit ≡ Some f = (λ j. slice_get (e j) (n j)) ∙ found_at before fs f in
      let here : List Constant = rule.constant bs cs s.bases (class_of p d) p sites p.what in
      let one : Constants d'.constants (ks ++ here) = subst (λ (l : Lists). Constants l.1 (ks ++ here)) (sym (what_lists names p.what given unit p (class_of p d) d)) (what_constants p.what unit p (class_of p d) (lists d) ks f sites at h.0 are) in
      subst (λ (xs : List Constant). Constants (old.declared_from given unit (map (listed names) (p ∷ ps)) d).constants xs) (append_assoc ks (rule.constant bs cs s.bases (old.class_here p.inside c.classes) p sites p.what) (rule.constants_from bs cs s.bases (count p.what c) (rule.after bs cs s.bases p sites) ps))
      (units_constants ps (before ++ f ∷ []) fs (unit + 1) d' (ks ++ rule.constant bs cs s.bases (old.class_here p.inside c.classes) p sites p.what) (count p.what c) (rule.after bs cs s.bases p sites)
      (ap (λ m. m + 1) n ∙ sym (longer before f)) (e ∙ sym (append_assoc before (f ∷ []) fs)) h.1
      (table.what_counted names rest modules begins all p.what unit p d c k)
      (subst (λ (x : Counts). Constants d'.constants (ks ++ rule.constant bs cs s.bases (old.class_here p.inside x.classes) p sites p.what)) k one))

-- ---- all modules

module _ (ms : List Named) (s : Scopes) (h : s.bindings ≡ (old.declared (listing.listing ms).modules (listing.listing ms).units).bindings) (k : s.members ≡ (old.declared (listing.listing ms).modules (listing.listing ms).units).members) (entry : SiteAt) (f : Option Fault) where
  abbrev bs : List Binding
  bs = bindings (module_names ms) (members ms)

  abbrev cs : List Binding
  cs = class_bindings (members ms)

  abbrev all_constants : List Constant
  all_constants = rule.constants bs cs s.bases (entry ∷ []) (members ms)

  abbrev final : Values
  final = rule.values bs cs s.bases all_constants

  abbrev begin : Finder
  begin = finder.add_fault f (finder.start entry)

  -- what is found of all members
  units : FoundUnits (names_of ms) s bs cs (scopes_alike ms s h) (members_alike ms s h k) (makers_are ms) [] (find_units s (map (listed (names_of ms)) (members ms)) begin) (members ms) (entry ∷ [])
  units = units_found (names_of ms) s bs cs (scopes_alike ms s h) (members_alike ms s h k) (makers_are ms) (members ms) [] begin (refl, refl) (members_known ms) (members_locals ms)

  abbrev pub found : List Found
  found = (find_units s (map (listed (names_of ms)) (members ms)) begin).0

  pub found_are : AreFound (names_of ms) s bs cs (scopes_alike ms s h) (members_alike ms s h k) (makers_are ms) found (members ms) (entry ∷ [])
  found_are = subst (λ (fs : List Found). AreFound (names_of ms) s bs cs (scopes_alike ms s h) (members_alike ms s h k) (makers_are ms) fs (members ms) (entry ∷ [])) (sym units.after) units.are

  abbrev pub constants_at : List ConstantAt
  constants_at = (old.declared (numbers (names_of ms) (module_names ms)) (map (listed (names_of ms)) (members ms))).constants

  -- the sites of all members
  pub sites_follow : (find_units s (listing.listing ms).units begin).1.sites ≡ rule.after_members bs cs s.bases (members ms) (entry ∷ [])
  sites_follow = ap (λ l. (find_units s l.units begin).1.sites) (listing_is ms) ∙ units.then

  constants_by : (begins : (rest : Names) × (names_of ms ≡ texts words ++ rest)) → AreConstants bs cs s.bases (names_of ms) found constants_at all_constants
  constants_by (rest, e) = units_constants (names_of ms) s bs cs (scopes_alike ms s h) (members_alike ms s h k) (makers_are ms) rest (module_names ms) e (modules_stand ms) found (members ms) [] found 0 old.start [] none_before (entry ∷ []) refl refl found_are refl tt

  pub constants_are : AreConstants bs cs s.bases (names_of ms) found constants_at all_constants
  constants_are = constants_by (table_begins ms)

  pub values_by : (code.constant_values (names_of ms) found constants_at).constants ≡ final
  values_by = values_are bs cs s.bases (names_of ms) found constants_at all_constants constants_are

  pub checked_by : code.bad_constants (names_of ms) final found constants_at ≡ added (rule.roots bs cs s.bases (entry ∷ []) (members ms)) (unsettled_made bs cs s.bases final all_constants ++ rule.function_made bs cs s.bases final (entry ∷ []) (members ms)) (rule.bad_constants bs cs s.bases (entry ∷ []) (members ms)) (record { roots = []; prebuilt = []; fault = None })
  checked_by = all_added (names_of ms) s bs cs (scopes_alike ms s h) (members_alike ms s h k) (makers_are ms) final found constants_at all_constants (members ms) (entry ∷ []) constants_are found_are (fixed bs cs s.bases all_constants)

  abbrev pub listed_found : Listing → List Found
  listed_found l = (find_units s l.units begin).0

  abbrev pub listed_values : Listing → Code
  listed_values l = code.constant_values l.names (listed_found l) (old.declared l.modules l.units).constants

  abbrev pub listed_checked : Listing → Checked
  listed_checked l = code.bad_constants l.names (listed_values l).constants (listed_found l) (old.declared l.modules l.units).constants

  -- the values of all constants
  pub values_follow : (listed_values (listing.listing ms)).constants ≡ final
  values_follow = ap (λ l. (listed_values l).constants) (listing_is ms) ∙ values_by

  pub checked_follow : listed_checked (listing.listing ms) ≡ added (rule.roots bs cs s.bases (entry ∷ []) (members ms)) (unsettled_made bs cs s.bases final all_constants ++ rule.function_made bs cs s.bases final (entry ∷ []) (members ms)) (rule.bad_constants bs cs s.bases (entry ∷ []) (members ms)) (record { roots = []; prebuilt = []; fault = None })
  checked_follow = ap listed_checked (listing_is ms) ∙ ap (λ V. code.bad_constants (names_of ms) V found constants_at) values_by ∙ checked_by

  pub faults_follow : (listed_checked (listing.listing ms)).fault ≡ least (rule.bad_constants bs cs s.bases (entry ∷ []) (members ms))
  faults_follow = ap (λ w. w.fault) checked_follow

  pub roots_follow : (listed_checked (listing.listing ms)).roots ≡ rule.roots bs cs s.bases (entry ∷ []) (members ms)
  roots_follow = ap (λ w. w.roots) checked_follow
