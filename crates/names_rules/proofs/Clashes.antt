-- The clashes that the code finds are those of the rules.
use Rattle.std.proofs.Common.{◌≡◌, ℕ, ◌+◌, zero, suc, List, [], ◌∷◌, ◌++◌, Bool, true, false, length, Option, Some, None, sym, ap, ◌∙◌, refl, cond}
use Rattle.std.specs.Prelude.{not, nat_eq, ◌&&◌, ◌||◌}
use Rattle.std.specs.List.{AllByRecursion, list_any}
use Rattle.std.specs.Str.{bytes_eq}
use Rattle.rpy_nodes.specs.Listing as listing
use Rattle.rpy_nodes.specs.Names.{number}
use Rattle.rpy_nodes.specs.declared.listing.Named.{Named}
use Rattle.rpy_nodes.specs.declared.unit.Unit.{Unit as Listed}
use Rattle.names_bound.specs.Base.{node_of}
use Rattle.names_bound.specs.Clash as old
use Rattle.names_bound.specs.Declare as declare
use Rattle.names_bound.specs.Fault.{lesser, fault_if}
use Rattle.names_bound.specs.Scopes.{base_in}
use Rattle.names_bound.specs.Table.{Entries, is_fresh}
use Rattle.names_bound.specs.declared.declare.ClassAt.{ClassAt}
use Rattle.names_bound.specs.declared.fault.Fault.{Fault}
use Rattle.names_bound.specs.declared.fault.FaultKind.TheVariants as fault
use Rattle.names_bound.specs.declared.table.Key.{Key}
use Rattle.names_rules.specs.Bases.{Stated, classes}
use Rattle.names_rules.specs.Clashes as rule
use Rattle.names_rules.specs.Clashes.{Declares, attributes, methods}
use Rattle.names_rules.specs.Events.{Names}
use Rattle.names_rules.specs.Least.{least, faults_if}
use Rattle.names_rules.specs.Listed.{names_of}
use Rattle.names_rules.specs.Locals.{Has}
use Rattle.names_rules.specs.Members.{members}
use Rattle.names_rules.proofs.Declares.{or_assoc, or_false, Test, test_key, test_in, fresh_any, Alike, IsNamed, attributes_named, methods_named, attributes_alike, methods_alike}
use Rattle.names_rules.proofs.Injective.{compared}
use Rattle.names_rules.proofs.Least.{least_if, lesser_more, lesser_nothing}
use Rattle.names_rules.proofs.Stated.{AreStated, classes_stated}

twice_not : (b : Bool) → not (not b) ≡ b
twice_not true = refl
twice_not false = refl

up_by : (b : Bool) (o : Option ℕ) (go : ℕ → Bool) (p : ℕ → Bool) (line : ℕ → List ℕ) → ((c : ℕ) → go c ≡ list_any p (line c)) → old.or_at_base go o b ≡ (b || list_any p (rule.line_at line o))
up_by true None go p line h = refl
up_by true (Some c) go p line h = refl
up_by false None go p line h = refl
up_by false (Some c) go p line h = h c

among_end : (done : List ℕ) (class c : ℕ) → old.is_among (done ++ class ∷ []) c ≡ (old.is_among done c || nat_eq class c)
among_end [] class c = one (nat_eq class c) where
  one : (b : Bool) → cond b true false ≡ b
  one true = refl
  one false = refl
among_end (x ∷ done) class c = ap (cond (nat_eq x c) true) (among_end done class c) ∙ past (nat_eq x c) (old.is_among done c) (nat_eq class c) where
  past : (a b d : Bool) → cond a true (b || d) ≡ (cond a true b || d)
  past true b d = refl
  past false b d = refl

clash_by : (b : Bool) (done : List ℕ) (class c : ℕ) → old.is_among (old.add_clash b class done) c ≡ (old.is_among done c || (nat_eq class c && b))
clash_by true done class c = among_end done class c ∙ ap (λ x. old.is_among done c || x) (sure (nat_eq class c)) where
  sure : (a : Bool) → a ≡ (a && true)
  sure true = refl
  sure false = refl
clash_by false done class c = sym (ap (λ x. old.is_among done c || x) (never (nat_eq class c)) ∙ or_false (old.is_among done c)) where
  never : (a : Bool) → (a && false) ≡ false
  never true = refl
  never false = refl

clashes_any : (ks : List Key) (es : Entries) (bases : List (Option ℕ)) (done : List ℕ) (c : ℕ)
    → old.is_among (old.add_clashes ks es bases done) c ≡ (old.is_among done c || list_any (test_key (λ s n. nat_eq s c && old.declares es bases s n)) ks)
clashes_any [] es bases done c = sym (or_false (old.is_among done c))
clashes_any (k ∷ ks) es bases done c =
    clashes_any ks es bases (old.add_clash (old.declares es bases k.scope k.name) k.scope done) c
    ∙ ap (λ b. b || list_any (test_key (λ s n. nat_eq s c && old.declares es bases s n)) ks) (clash_by (old.declares es bases k.scope k.name) done k.scope c)
    ∙ sym (or_assoc (old.is_among done c) (nat_eq k.scope c && old.declares es bases k.scope k.name) (list_any (test_key (λ s n. nat_eq s c && old.declares es bases s n)) ks))

module _ (names : Names) where
  has_pointwise : (ds : List Declares) (name : List ℕ) (class : ℕ) → Has names name → list_any (test_in names (λ s m. nat_eq class s && nat_eq (number names name) m)) ds ≡ rule.has ds name class
  has_pointwise [] name class h = refl
  has_pointwise (d ∷ ds) name class h = λ j. (nat_eq class d.class && compared names name d.name h j) || has_pointwise ds name class h j

  has_same : (es : Entries) (ds : List Declares) (name : List ℕ) (class : ℕ) → Alike names es ds → Has names name → not (is_fresh es class (number names name)) ≡ rule.has ds name class
  has_same es ds name class alike h = ap not (fresh_any es class (number names name)) ∙ twice_not _ ∙ alike (λ s m. nat_eq class s && nat_eq (number names name) m) ∙ has_pointwise ds name class h

  declares_same : (n : ℕ) (es : Entries) (ds : List Declares) (bases : List (Option ℕ)) (name : List ℕ) (class : ℕ) → Alike names es ds → Has names name
      → old.declares_from es bases (number names name) n class ≡ list_any (rule.has ds name) (rule.line_from bases n class)
  declares_same zero es ds bases name class alike h = refl
  declares_same (suc n) es ds bases name class alike h =
      ap (old.or_at_base (old.declares_from es bases (number names name) n) (base_in bases class)) (has_same es ds name class alike h)
      ∙ up_by (rule.has ds name class) (base_in bases class) (old.declares_from es bases (number names name) n) (rule.has ds name) (rule.line_from bases n) (λ c. declares_same n es ds bases name c alike h)

  also_pointwise : (these those : List Declares) (es : Entries) (bases : List (Option ℕ)) (c : ℕ) → Alike names es those → AllByRecursion (IsNamed names) these
      → list_any (test_in names (λ s n. nat_eq s c && old.declares es bases s n)) these ≡ rule.also these those bases c
  also_pointwise [] those es bases c alike all = refl
  also_pointwise (d ∷ these) those es bases c alike all = λ j. (nat_eq d.class c && declares_same (length bases) es those bases d.name d.class alike all.0 j) || also_pointwise these those es bases c alike all.1 j

  also_same : (these those : List Declares) (fs es : Entries) (bases : List (Option ℕ)) (c : ℕ) → Alike names fs these → Alike names es those → AllByRecursion (IsNamed names) these
      → list_any (test_key (λ s n. nat_eq s c && old.declares es bases s n)) (old.keys fs) ≡ rule.also these those bases c
  also_same these those fs es bases c first second all = first (λ s n. nat_eq s c && old.declares es bases s n) ∙ also_pointwise these those es bases c second all

  module _ (fs ms : Entries) (as_attributes as_methods : List Declares) (bases : List (Option ℕ)) (attributes_are : Alike names fs as_attributes) (methods_are : Alike names ms as_methods)
      (all : AllByRecursion (IsNamed names) as_attributes) (every : AllByRecursion (IsNamed names) as_methods) where
    among_same : (c : ℕ) → old.is_among (old.clashing fs ms bases) c ≡ rule.clashes as_attributes as_methods bases c
    among_same c =
        clashes_any (old.keys ms) fs bases (old.add_clashes (old.keys fs) ms bases []) c
        ∙ (λ j. clashes_any (old.keys fs) ms bases [] c j || also_same as_methods as_attributes ms fs bases c methods_are attributes_are every j)
        ∙ ap (λ b. b || rule.also as_methods as_attributes bases c) (also_same as_attributes as_methods fs ms bases c attributes_are methods_are all)

    inherits_same : (n class : ℕ) → old.inherits_from bases (old.clashing fs ms bases) n class ≡ list_any (rule.clashes as_attributes as_methods bases) (rule.line_from bases n class)
    inherits_same zero class = refl
    inherits_same (suc n) class =
        ap (old.or_at_base (old.inherits_from bases (old.clashing fs ms bases) n) (base_in bases class)) (among_same class)
        ∙ up_by (rule.clashes as_attributes as_methods bases class) (base_in bases class) (old.inherits_from bases (old.clashing fs ms bases) n) (rule.clashes as_attributes as_methods bases) (rule.line_from bases n) (inherits_same n)

    faults_same : (ats : List ClassAt) (cs : List Stated) (units : List Listed) (f : Option Fault) (place : ℕ) → AreStated names units ats cs
        → old.faults_onto f place bases (old.clashing fs ms bases) units ats ≡ lesser f (least (rule.clashing_from place as_attributes as_methods bases cs))
    faults_same [] [] units f place h = lesser_nothing f
    faults_same [] (c ∷ cs) units f place h = absurd h
    faults_same (a ∷ ats) [] units f place h = absurd h
    faults_same (a ∷ ats) (c ∷ cs) units f place h =
        faults_same ats cs units (lesser f (fault_if (old.inherits bases (old.clashing fs ms bases) (13 + place)) (node_of units a.unit) fault.Twice)) (place + 1) h.1
        ∙ lesser_more f _ (faults_if (rule.inherits as_attributes as_methods bases (13 + place)) c.node fault.Twice) (rule.clashing_from (place + 1) as_attributes as_methods bases cs)
        (ap (lesser f) ((λ j. fault_if (inherits_same (length bases) (13 + place) j) (h.0.node j) fault.Twice) ∙ least_if (rule.inherits as_attributes as_methods bases (13 + place)) c.node fault.Twice))

pub clashes_are : (ms : List Named) (bases : List (Option ℕ)) → old.clash_faults bases (old.clashing (declare.declared (listing.listing ms).modules (listing.listing ms).units).attributes (declare.declared (listing.listing ms).modules (listing.listing ms).units).methods bases) (declare.declared (listing.listing ms).modules (listing.listing ms).units).classes (listing.listing ms).units
    ≡ least (rule.clashing (attributes (members ms)) (methods (members ms)) bases (classes (members ms)))
clashes_are ms bases = faults_same (names_of ms) (declare.declared (listing.listing ms).modules (listing.listing ms).units).attributes (declare.declared (listing.listing ms).modules (listing.listing ms).units).methods (attributes (members ms)) (methods (members ms)) bases (attributes_alike ms) (methods_alike ms) (attributes_named ms) (methods_named ms)
    (declare.declared (listing.listing ms).modules (listing.listing ms).units).classes (classes (members ms)) (listing.listing ms).units None 0 (classes_stated ms)
