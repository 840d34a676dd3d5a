-- Names of modules are found by their numbers as by their texts.
use Rattle.std.proofs.Common.{◌≡◌, ℕ, codes, ◌+◌, zero, suc, List, [], ◌∷◌, ◌++◌, Bool, true, false, map, length, Option, Some, None, ap, ◌∙◌, refl, cond}
use Rattle.std.specs.Prelude.{nat_eq, ◌&&◌}
use Rattle.std.specs.List.{AllByRecursion}
use Rattle.std.specs.Str.{bytes_eq}
use Rattle.std.proofs.lemmas.List.{length-map}
use Rattle.rpy_nodes.specs.Listing as listing
use Rattle.rpy_nodes.specs.Names.{number}
use Rattle.rpy_nodes.specs.declared.listing.Named.{Named}
use Rattle.rpy_tree.specs.declared.program.Builtin.TheVariants as builtin
use Rattle.names_bound.specs.Declare as old
use Rattle.names_bound.specs.Known as bound
use Rattle.names_bound.specs.Scopes as code
use Rattle.names_bound.specs.Table.{look}
use Rattle.names_bound.specs.declared.imports.Source.{Source}
use Rattle.names_bound.specs.declared.imports.Source.TheVariants as source
use Rattle.names_bound.specs.declared.scopes.Scopes.{Scopes}
use Rattle.names_bound.specs.declared.stand.Stand.{Stand}
use Rattle.names_bound.specs.declared.stand.Stand.TheVariants as stand
use Rattle.names_rules.specs.Bindings as rule
use Rattle.names_rules.specs.Bindings.{class_bindings, Binding, Counts, none_before, count, binding, unless_inside, binds, bindings_from, bindings}
use Rattle.names_rules.specs.Bound.{bound_in, entries}
use Rattle.names_rules.specs.Events.{Names}
use Rattle.names_rules.specs.Imports.{Bound, Is, From, import_stand, source_of, taken}
use Rattle.names_rules.specs.Listed.{module_names, names_of}
use Rattle.names_rules.specs.Locals.{Has, IsKnown}
use Rattle.names_rules.specs.Members as member
use Rattle.names_rules.specs.Members.{What, Placed, members}
use Rattle.names_rules.specs.Scopes as scope
use Rattle.names_rules.specs.Scopes.{FindsAlike}
use Rattle.names_rules.specs.Words.{known, words}
use Rattle.names_rules.proofs.Bindings.{entry_of, look_entries, bindings_are}
use Rattle.names_rules.proofs.Known.{members_known, all_both}
use Rattle.names_rules.proofs.Locals.{all_rest}
use Rattle.names_rules.proofs.ClassBindings.{class_bindings_are}
use Rattle.names_rules.proofs.Imports.{word}
use Rattle.names_rules.proofs.Words.{known_is, table_begins, texts}

module _ (names : Names) where
  -- the name that is taken stands in the table
  abbrev Takes : Bound → Type 0
  Takes (Is s) = Unit {0}
  Takes (From file name) = Has names name

  abbrev IsTaken : Binding → Type 0
  IsTaken b = Takes b.bound

  abbrev Found : Option Binding → Type 0
  Found None = Unit {0}
  Found (Some b) = IsTaken b

  -- ---- every name that is taken stands there

  taken_has : (s : Source) (name : List ℕ) → Has names name → Takes (taken s name)
  taken_has (source.Module file) name has = has
  taken_has source.Arithmetic name has = tt
  taken_has source.Missing name has = tt

  imports_taken : (of modules : Names) (p : Placed) → AllByRecursion IsTaken (map (λ name. binding p name (Is (import_stand modules name))) of)
  imports_taken [] modules p = tt
  imports_taken (name ∷ of) modules p = (tt, imports_taken of modules p)

  froms_taken : (of path modules : Names) (p : Placed) → AllByRecursion (Has names) of → AllByRecursion IsTaken (map (λ name. binding p name (taken (source_of modules path) name)) of)
  froms_taken [] path modules p has = tt
  froms_taken (name ∷ of) path modules p has = (taken_has (source_of modules path) name has.0, froms_taken of path modules p has.1)

  unless_taken : (o : Option ℕ) (p : Placed) (name : List ℕ) (s : Stand) → AllByRecursion IsTaken (unless_inside o (binding p name (Is s)))
  unless_taken None p name s = (tt, tt)
  unless_taken (Some class) p name s = tt

  what_taken : (w : What) (modules : Names) (c : Counts) (p : Placed) → AllByRecursion (Has names) (member.what_said w) → AllByRecursion IsTaken (binds modules c p w)
  what_taken (member.Import of) modules c p has = imports_taken of modules p
  what_taken (member.From path of) modules c p has = froms_taken of path modules p (all_rest (Has names) path of has)
  what_taken (member.Constant name v) modules c p has = unless_taken (old.class_here p.inside c.classes) p name (stand.Constant c.constants)
  what_taken (member.Def name params star body) modules c p has = unless_taken (old.class_here p.inside c.classes) p name (stand.Function c.functions)
  what_taken (member.Class name base) modules c p has = unless_taken (old.class_here p.inside c.classes) p name (stand.Class (c.classes + 13))

  all_taken : (ps : List Placed) (modules : Names) (c : Counts) → AllByRecursion (IsKnown names) ps → AllByRecursion IsTaken (bindings_from modules c ps)
  all_taken [] modules c has = tt
  all_taken (p ∷ ps) modules c has = all_both IsTaken (binds modules c p p.what) (bindings_from modules (count p.what c) ps) (what_taken p.what modules c p has.0) (all_taken ps modules (count p.what c) has.1)

  add_taken : (o : Option Binding) (bs : List Binding) (b : Binding) → AllByRecursion IsTaken bs → IsTaken b → AllByRecursion IsTaken (rule.add_by o bs b)
  add_taken None bs b h k = all_both IsTaken bs (b ∷ []) h (k, tt)
  add_taken (Some x) bs b h k = h

  adds_taken : (more bs : List Binding) → AllByRecursion IsTaken bs → AllByRecursion IsTaken more → AllByRecursion IsTaken (rule.add_all bs more)
  adds_taken [] bs h k = h
  adds_taken (b ∷ more) bs h k = adds_taken more (rule.add bs b) (add_taken (rule.look bs b.scope b.name) bs b h k.0) k.1

  found_by : (t : Bool) (b : Binding) (o : Option Binding) → IsTaken b → Found o → Found (cond t (Some b) o)
  found_by true b o h k = h
  found_by false b o h k = k

  look_taken : (bs : List Binding) (file : ℕ) (name : List ℕ) → AllByRecursion IsTaken bs → Found (rule.look bs file name)
  look_taken [] file name h = tt
  look_taken (b ∷ bs) file name h = found_by (nat_eq file b.scope && bytes_eq name b.name) b (rule.look bs file name) h.0 (look_taken bs file name h.1)

  -- ---- following

  module _ (bs : List Binding) (all : AllByRecursion IsTaken bs) where
    bound_is : (b : Bound) (followed : Bool) (go : ℕ → ℕ → Stand) (gone : ℕ → List ℕ → Stand) → ((file : ℕ) (name : List ℕ) → Has names name → go file (number names name) ≡ gone file name) → Takes b
        → code.follow_bound go (bound_in names b) ≡ scope.follow_bound gone b
    bound_is (Is s) followed go gone h k = refl
    bound_is (From file name) followed go gone h k = h file name k

    binding_is : (o : Option Binding) (followed : Bool) (go : ℕ → ℕ → Stand) (gone : ℕ → List ℕ → Stand) → ((file : ℕ) (name : List ℕ) → Has names name → go file (number names name) ≡ gone file name) → Found o
        → code.follow_binding go followed (entry_of names o) ≡ scope.follow_binding gone followed o
    binding_is None true go gone h k = refl
    binding_is None false go gone h k = refl
    binding_is (Some b) followed go gone h k = bound_is b.bound followed go gone h k

    follow_is : (n : ℕ) (followed : Bool) (file : ℕ) (name : List ℕ) → Has names name → code.follow_from (entries names bs) n followed file (number names name) ≡ scope.follow_from bs n followed file name
    follow_is zero followed file name has = refl
    follow_is (suc n) followed file name has = ap (code.follow_binding (code.follow_from (entries names bs) n true) followed) (look_entries names bs file name has)
        ∙ binding_is (rule.look bs file name) followed (code.follow_from (entries names bs) n true) (scope.follow_from bs n true) (λ f m h. follow_is n true f m h) (look_taken bs file name all)

    whole_follow : (file : ℕ) (name : List ℕ) → Has names name → code.follow_from (entries names bs) (length (entries names bs)) false file (number names name) ≡ scope.follow bs file name
    whole_follow file name has = ap (λ k. code.follow_from (entries names bs) k false file (number names name)) (simp length-map) ∙ follow_is (length bs) false file name has

    global_by : (o : Option Binding) (s : Stand) (name : List ℕ) → bound.known (number names name) ≡ known name → code.global_by (entry_of names o) s (number names name) ≡ scope.global_by o s name
    global_by None s name k = k
    global_by (Some b) s name k = refl

    late_by : (o : Option Binding) (place : ℕ) → code.late_by place (entry_of names o) ≡ scope.late_by place o
    late_by None place = refl
    late_by (Some b) place = refl

    alike : (s : Scopes) → s.bindings ≡ entries names bs → (file : ℕ) (name : List ℕ) → Has names name → bound.known (number names name) ≡ known name → FindsAlike names bs s file name
    alike s e file name has k =
        let f : code.follow s file (number names name) ≡ scope.follow bs file name = ap (λ es. code.follow_from es (length es) false file (number names name)) e ∙ whole_follow file name has in
        let l : look s.bindings file (number names name) ≡ entry_of names (rule.look bs file name) = ap (λ es. look es file (number names name)) e ∙ look_entries names bs file name has in (
          f,
          (λ j. code.global_by (l j) (f j) (number names name)) ∙ global_by (rule.look bs file name) (scope.follow bs file name) name k,
          λ place. ap (code.late_by place) l ∙ late_by (rule.look bs file name) place,
        )

pub scopes_alike : (ms : List Named) (s : Scopes) → s.bindings ≡ (old.declared (listing.listing ms).modules (listing.listing ms).units).bindings → (file : ℕ) (name : List ℕ) → Has (names_of ms) name → FindsAlike (names_of ms) (bindings (module_names ms) (members ms)) s file name
scopes_alike ms s e file name has = alike (names_of ms) (bindings (module_names ms) (members ms)) (adds_taken (names_of ms) (bindings_from (module_names ms) none_before (members ms)) [] tt (all_taken (names_of ms) (members ms) (module_names ms) none_before (members_known ms))) s (e ∙ bindings_are ms) file name has (known_is ms name)

-- ---- after a dot

bound_stand_is_in : (names : Names) (b : Bound) → code.is_stand (bound_in names b) ≡ scope.bound_stand b
bound_stand_is_in names (Is s) = refl
bound_stand_is_in names (From file name) = refl

module _ (names rest : Names) (begins : names ≡ texts words ++ rest) (bs classes : List Binding) (s : Scopes) (members_are : s.members ≡ entries names classes) where
  stand_is : (o : Option Binding) → code.stand_in (entry_of names o) ≡ scope.stand_of o
  stand_is None = refl
  stand_is (Some b) = bound_stand_is_in names b.bound

  class_is : (n class : ℕ) (name : List ℕ) → Has names name → code.member_from (entries names classes) s.bases n class (number names name) ≡ scope.class_from classes s.bases n class name
  class_is zero class name has = refl
  class_is (suc n) class name has = λ j. code.or_at_base (λ c. class_is n c name has j) (code.base_in s.bases class) ((ap code.stand_in (look_entries names classes class name has) ∙ stand_is (rule.look classes class name)) j)

  member_is : (of : Stand) (name : List ℕ) → Has names name → ((file : ℕ) → code.follow s file (number names name) ≡ scope.follow bs file name) → code.member s of (number names name) ≡ scope.member bs classes s.bases of name
  member_is (stand.Module file) name has f = f file
  member_is (stand.Class class) name has f = ap (λ es. code.member_from es s.bases (length s.bases) class (number names name)) members_are ∙ class_is (length s.bases) class name has
  member_is stand.Os name has f = ap (λ b. cond b (stand.Builtin builtin.OsWrite) stand.Unknown) (word names rest begins (codes "write") 10 name refl refl)
  member_is stand.Sys name has f = ap (λ b. cond b stand.MaxInt stand.Unknown) (word names rest begins (codes "maxint") 11 name refl refl)
  member_is stand.Missing name has f = refl
  member_is stand.Unknown name has f = refl
  member_is other name has f = refl

members_by : (ms : List Named) (begins : (rest : Names) × (names_of ms ≡ texts words ++ rest)) (s : Scopes) → s.members ≡ (old.declared (listing.listing ms).modules (listing.listing ms).units).members → (of : Stand) (name : List ℕ) → Has (names_of ms) name → ((file : ℕ) → code.follow s file (number (names_of ms) name) ≡ scope.follow (bindings (module_names ms) (members ms)) file name)
    → code.member s of (number (names_of ms) name) ≡ scope.member (bindings (module_names ms) (members ms)) (class_bindings (members ms)) s.bases of name
members_by ms (rest, e) s m of name has f = member_is (names_of ms) rest e (bindings (module_names ms) (members ms)) (class_bindings (members ms)) s (m ∙ class_bindings_are ms) of name has f

pub members_alike : (ms : List Named) (s : Scopes) → s.bindings ≡ (old.declared (listing.listing ms).modules (listing.listing ms).units).bindings → s.members ≡ (old.declared (listing.listing ms).modules (listing.listing ms).units).members → (of : Stand) (name : List ℕ) → Has (names_of ms) name
    → code.member s of (number (names_of ms) name) ≡ scope.member (bindings (module_names ms) (members ms)) (class_bindings (members ms)) s.bases of name
members_alike ms s e m of name has = members_by ms (table_begins ms) s m of name has (λ file. (scopes_alike ms s e file name has).0)
