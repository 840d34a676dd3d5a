-- The bases of the code are those of the rules.
use Rattle.std.proofs.Common.{◌≡◌, ℕ, ◌+◌, ◌-◌, zero, suc, List, [], ◌∷◌, ◌++◌, append_assoc, append-nil, Bool, true, false, map, length, Option, Some, None, sym, ap, ◌∙◌, refl, cond}
use Rattle.std.specs.Prelude.{slice_get, nat_eq, nat_le, nat_lt, ◌&&◌, ◌||◌}
use Rattle.std.specs.List.{AllByRecursion, list_any}
use Rattle.rpy_nodes.specs.Listing as listing
use Rattle.rpy_nodes.specs.Names.{number}
use Rattle.rpy_nodes.specs.declared.listing.Named.{Named}
use Rattle.rpy_nodes.specs.declared.unit.Unit.{Unit as Listed}
use Rattle.names_bound.specs.Base as old
use Rattle.names_bound.specs.Declare as declare
use Rattle.names_bound.specs.Fault.{lesser, fault_if}
use Rattle.names_bound.specs.Imports as imports
use Rattle.names_bound.specs.Scopes as code
use Rattle.names_bound.specs.declared.base.Base.{Base}
use Rattle.names_bound.specs.declared.base.Base.TheVariants as base
use Rattle.names_bound.specs.declared.declare.ClassAt.{ClassAt}
use Rattle.names_bound.specs.declared.fault.Fault.{Fault}
use Rattle.names_bound.specs.declared.fault.FaultKind.TheVariants as fault
use Rattle.names_bound.specs.declared.scopes.Scopes.{Scopes}
use Rattle.names_bound.specs.declared.stand.Stand.{Stand}
use Rattle.names_bound.specs.declared.stand.Stand.TheVariants as stand
use Rattle.names_rules.specs.Bases as rule
use Rattle.names_rules.specs.Bases.{Stated, classes}
use Rattle.names_rules.specs.Bindings.{Binding, bindings, class_bindings}
use Rattle.names_rules.specs.Events.{Names}
use Rattle.names_rules.specs.Least.{least}
use Rattle.names_rules.specs.Listed.{numbers, module_names, names_of}
use Rattle.names_rules.specs.Locals.{Has}
use Rattle.names_rules.specs.Members.{members}
use Rattle.names_rules.specs.Missing.{is_unknown}
use Rattle.names_rules.specs.Scopes as scope
use Rattle.names_rules.specs.Scopes.{FindsAlike}
use Rattle.names_rules.proofs.Least.{least_if, lesser_more, lesser_nothing}
use Rattle.names_rules.proofs.Missing.{unknown_same}
use Rattle.names_rules.proofs.Scopes.{scopes_alike, members_alike}
use Rattle.names_rules.proofs.Stated.{IsStated, AreStated, IsKnownBase, bases_stand, classes_stated}

-- ---- rings

or_cond : (b x : Bool) → cond b true x ≡ (b || x)
or_cond true x = refl
or_cond false x = refl

back_by : (o : Option ℕ) (bases : List (Option ℕ)) (class n : ℕ) → ((k : ℕ) → old.back_from bases class n (code.base_in bases k) ≡ list_any (λ b. nat_eq b class) (rule.above bases n k)) → old.back_at (old.back_from bases class n) bases class o ≡ list_any (λ b. nat_eq b class) (rule.above_at (rule.above bases n) o)
back_by None bases class n h = refl
back_by (Some b) bases class n h = or_cond (nat_eq b class) (old.back_from bases class n (code.base_in bases b)) ∙ ap (λ x. nat_eq b class || x) (h b)

back_same : (n : ℕ) (bases : List (Option ℕ)) (class k : ℕ) → old.back_from bases class n (code.base_in bases k) ≡ list_any (λ b. nat_eq b class) (rule.above bases n k)
back_same zero bases class k = refl
back_same (suc n) bases class k = back_by (code.base_in bases k) bases class n (back_same n bases class)

leads_same : (bases : List (Option ℕ)) (class : ℕ) → old.leads_back bases class ≡ rule.leads_back bases class
leads_same bases class = back_same (length bases) bases class class

kept_same : (bases : List (Option ℕ)) (n : ℕ) → old.kept_from bases n ≡ rule.kept_to bases n
kept_same bases zero = refl
kept_same bases (suc n) = λ j. kept_same bases n j ++ cond (leads_same bases n j) None (code.base_in bases n) ∷ []

pub rings_same : (bases : List (Option ℕ)) → old.without_rings bases ≡ rule.without_rings bases
rings_same bases = kept_same bases (length bases)

-- ---- what the name of a base stands for

module _ (names : Names) (s : Scopes) (bs cs : List Binding)
    (globals : (file : ℕ) (name : List ℕ) → Has names name → FindsAlike names bs s file name)
    (dots : (of : Stand) (name : List ℕ) → Has names name → code.member s of (number names name) ≡ scope.member bs cs s.bases of name)
    (units : List Listed) where
  first_same : (at : ClassAt) (c : Stated) (name : List ℕ) → IsStated names units at c → Has names name → old.first_stand s at (number names name) ≡ rule.first bs cs s.bases c name
  first_same at c name h has =
      (λ j. old.bound_before (code.is_late s (h.file j) (h.place j) (number names name)) (code.global s (h.file j) (number names name)))
      ∙ (λ j. old.bound_before ((globals c.file name has).2 c.place j) ((globals c.file name has).1 j))
      ∙ ap (λ b. cond b stand.Unknown (cond (scope.is_late bs c.file c.place name) stand.Nothing (scope.global bs c.file name))) (unknown_same (scope.global bs c.file name))

  pub dot_same : (of : Stand) (name : List ℕ) → Has names name → old.further_stand s of (number names name) ≡ rule.after_dot bs cs s.bases of name
  dot_same stand.Unknown name has = refl
  dot_same of name has = dots of name has

  dots_same : (path : Names) (of : Stand) → AllByRecursion (Has names) path → old.further_from s of (numbers names path) ≡ rule.after_dots bs cs s.bases of path
  dots_same [] of has = refl
  dots_same (name ∷ path) of has = ap (λ x. old.further_from s x (numbers names path)) (dot_same of name has.0) ∙ dots_same path (rule.after_dot bs cs s.bases of name) has.1

  path_by : (path : Names) (at : ClassAt) (c : Stated) → IsStated names units at c → AllByRecursion (Has names) path → old.path_stand s at (numbers names path) ≡ rule.path bs cs s.bases c path
  path_by [] at c h has = refl
  path_by (name ∷ path) at c h has = ap (λ x. old.further_from s x (numbers names path)) (first_same at c name h has.0) ∙ dots_same path (rule.first bs cs s.bases c name) has.1

  path_same : (at : ClassAt) (c : Stated) → IsStated names units at c → IsKnownBase names c → old.path_stand s at (old.path_of units at.unit) ≡ rule.path bs cs s.bases c c.base
  path_same at c h has = ap (old.path_stand s at) h.base ∙ path_by c.base at c h has

  -- ---- classes that come later

  later_one : (at other : ClassAt) (c d : Stated) → IsStated names units at c → IsStated names units other d → old.later_at at (Some other) ≡ rule.later_than c (Some d)
  later_one at other c d h k = λ j. nat_eq (k.file j) (h.file j) && nat_le (h.place j) (k.place j)

  later_same : (k : ℕ) (ats : List ClassAt) (ds : List Stated) (at : ClassAt) (c : Stated) → IsStated names units at c → AreStated names units ats ds → old.later_at at (slice_get ats k) ≡ rule.later_than c (slice_get ds k)
  later_same k [] [] at c h all = refl
  later_same k [] (d ∷ ds) at c h all = absurd all
  later_same k (a ∷ ats) [] at c h all = absurd all
  later_same zero (a ∷ ats) (d ∷ ds) at c h all = later_one at a c d h all.0
  later_same (suc k) (a ∷ ats) (d ∷ ds) at c h all = later_same k ats ds at c h all.1

  judged_same : (of : Stand) (ats : List ClassAt) (ds : List Stated) (at : ClassAt) (c : Stated) → IsStated names units at c → AreStated names units ats ds → old.judged ats at of ≡ rule.judged ds c of
  judged_same stand.Object ats ds at c h all = refl
  judged_same stand.Missing ats ds at c h all = refl
  judged_same stand.Unknown ats ds at c h all = refl
  judged_same (stand.Class class) ats ds at c h all = ap (λ b. rule.earlier (cond (nat_lt class 13) false b) class) (later_same (class - 13) ats ds at c h all)
  judged_same other ats ds at c h all = refl

  base_same : (ats : List ClassAt) (ds : List Stated) (at : ClassAt) (c : Stated) → IsStated names units at c → IsKnownBase names c → AreStated names units ats ds → old.base_of s ats units at ≡ rule.base_of bs cs s.bases ds c
  base_same ats ds at c h has all = ap (old.judged ats at) (path_same at c h has) ∙ judged_same (rule.path bs cs s.bases c c.base) ats ds at c h all

  class_same : (b : Base) → old.class_in b ≡ rule.class_of b
  class_same (base.Class class) = refl
  class_same other = refl

  bases_same : (ats : List ClassAt) (ds : List Stated) (done : List (Option ℕ)) (every : List ClassAt) (all : List Stated) → AreStated names units every all → AreStated names units ats ds → AllByRecursion (IsKnownBase names) ds
      → old.bases_onto done s every units ats ≡ done ++ rule.bases_of bs cs s.bases all ds
  bases_same [] [] done every all h k has = sym (append-nil done)
  bases_same [] (d ∷ ds) done every all h k has = absurd k
  bases_same (a ∷ ats) [] done every all h k has = absurd k
  bases_same (a ∷ ats) (d ∷ ds) done every all h k has =
      bases_same ats ds (done ++ old.class_in (old.base_of s every units a) ∷ []) every all h k.1 has.1
      ∙ append_assoc done (old.class_in (old.base_of s every units a) ∷ []) (rule.bases_of bs cs s.bases all ds)
      ∙ ap (λ o. done ++ o ∷ rule.bases_of bs cs s.bases all ds) (ap old.class_in (base_same every all a d k.0 has.0 h) ∙ class_same (rule.base_of bs cs s.bases all d))

  -- ---- faults

  fault_same : (b : Base) (ring : Bool) (node : ℕ) → old.base_fault b ring node ≡ least (rule.fault_of b ring node)
  fault_same (base.Wrong kind) ring node = refl
  fault_same base.Free ring node = least_if ring node fault.BadBase
  fault_same (base.Class class) ring node = least_if ring node fault.BadBase

  faults_same : (ats : List ClassAt) (ds : List Stated) (f : Option Fault) (place : ℕ) (named : List (Option ℕ)) (every : List ClassAt) (all : List Stated) → AreStated names units every all → AreStated names units ats ds → AllByRecursion (IsKnownBase names) ds
      → old.faults_onto f place s named every units ats ≡ lesser f (least (rule.bad_bases_from place bs cs s.bases named all ds))
  faults_same [] [] f place named every all h k has = lesser_nothing f
  faults_same [] (d ∷ ds) f place named every all h k has = absurd k
  faults_same (a ∷ ats) [] f place named every all h k has = absurd k
  faults_same (a ∷ ats) (d ∷ ds) f place named every all h k has =
      faults_same ats ds (lesser f (old.base_fault (old.base_of s every units a) (old.leads_back named (13 + place)) (old.node_of units a.unit))) (place + 1) named every all h k.1 has.1
      ∙ lesser_more f _ (rule.fault_of (rule.base_of bs cs s.bases all d) (rule.leads_back named (13 + place)) d.node) (rule.bad_bases_from (place + 1) bs cs s.bases named all ds)
      (ap (lesser f) ((λ j. old.base_fault (base_same every all a d k.0 has.0 h j) (leads_same named (13 + place) j) (k.0.node j)) ∙ fault_same (rule.base_of bs cs s.bases all d) (rule.leads_back named (13 + place)) d.node))

abbrev Declares : List Named → Scopes → Type 0
Declares ms s = (s.bindings ≡ (declare.declared (listing.listing ms).modules (listing.listing ms).units).bindings) × (s.members ≡ (declare.declared (listing.listing ms).modules (listing.listing ms).units).members)

abbrev names_bound : List Named → List Binding
names_bound ms = bindings (module_names ms) (members ms)

pub named_are : (ms : List Named) (s : Scopes) → s.bindings ≡ (declare.declared (listing.listing ms).modules (listing.listing ms).units).bindings → s.members ≡ (declare.declared (listing.listing ms).modules (listing.listing ms).units).members
    → old.class_bases s (declare.declared (listing.listing ms).modules (listing.listing ms).units).classes (listing.listing ms).units ≡ rule.named (bindings (module_names ms) (members ms)) (class_bindings (members ms)) s.bases (classes (members ms))
named_are ms s h k = bases_same (names_of ms) s (names_bound ms) (class_bindings (members ms)) (scopes_alike ms s h) (members_alike ms s h k) (listing.listing ms).units
    (declare.declared (listing.listing ms).modules (listing.listing ms).units).classes (classes (members ms)) old.builtin_bases (declare.declared (listing.listing ms).modules (listing.listing ms).units).classes (classes (members ms)) (classes_stated ms) (classes_stated ms) (bases_stand ms)

pub bad_bases_are : (ms : List Named) (s : Scopes) (named : List (Option ℕ)) → s.bindings ≡ (declare.declared (listing.listing ms).modules (listing.listing ms).units).bindings → s.members ≡ (declare.declared (listing.listing ms).modules (listing.listing ms).units).members
    → old.base_faults s named (declare.declared (listing.listing ms).modules (listing.listing ms).units).classes (listing.listing ms).units ≡ least (rule.bad_bases (bindings (module_names ms) (members ms)) (class_bindings (members ms)) s.bases named (classes (members ms)))
bad_bases_are ms s named h k = faults_same (names_of ms) s (names_bound ms) (class_bindings (members ms)) (scopes_alike ms s h) (members_alike ms s h k) (listing.listing ms).units
    (declare.declared (listing.listing ms).modules (listing.listing ms).units).classes (classes (members ms)) None 0 named (declare.declared (listing.listing ms).modules (listing.listing ms).units).classes (classes (members ms)) (classes_stated ms) (classes_stated ms) (bases_stand ms)
