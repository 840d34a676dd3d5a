-- What imports bind by the numbers of names.
use Rattle.std.proofs.Common.{◌≡◌, ℕ, codes, ◌+◌, List, [], ◌∷◌, ◌++◌, Option, Some, None, sym, ap, ◌∙◌, refl, cond, subst}
use Rattle.std.specs.Prelude.{nat_eq, ◌&&◌}
use Rattle.std.specs.List.{AllByRecursion}
use Rattle.std.specs.Str.{bytes_eq}
use Rattle.rpy_nodes.specs.Names.{number}
use Rattle.rpy_nodes.specs.Listing as code
use Rattle.rpy_nodes.specs.declared.listing.Named.{Named}
use Rattle.names_bound.specs.Imports as old
use Rattle.names_bound.specs.declared.imports.Source.{Source}
use Rattle.names_bound.specs.declared.imports.Source.TheVariants as source
use Rattle.names_bound.specs.declared.stand.Stand.TheVariants as stand
use Rattle.names_bound.specs.declared.table.Bound.TheVariants as old_bound
use Rattle.names_rules.specs.Bound.{bound_in}
use Rattle.names_rules.specs.Events.{Names, see}
use Rattle.names_rules.specs.Imports.{Bound, Is, From, file_from, import_stand, source_of, arithmetic, taken}
use Rattle.names_rules.specs.Listed.{numbers, module_names, names_of}
use Rattle.names_rules.specs.Locals.{Has}
use Rattle.names_rules.specs.Members.{modules_said}
use Rattle.names_rules.specs.Words.{words}
use Rattle.names_rules.proofs.Injective.{compared, bool_same, eq_yes, yes_eq}
use Rattle.names_rules.proofs.Known.{all_seen, stays_seen}
use Rattle.names_rules.proofs.Words.{texts}

pub turned : (m n : ℕ) → nat_eq m n ≡ nat_eq n m
turned m n = bool_same (nat_eq m n) (nat_eq n m)
    (λ h. ap (λ k. nat_eq k m) (sym (eq_yes m n h)) ∙ yes_eq m)
    (λ h. ap (λ k. nat_eq k n) (sym (eq_yes n m h)) ∙ yes_eq n)

module _ (names rest : Names) (begins : names ≡ texts words ++ rest) where
  -- a word's number is its place in the list of words
  pub word : (w : List ℕ) (k : ℕ) (name : List ℕ) → number (texts words ++ rest) w ≡ k → Has (texts words ++ rest) w → nat_eq (number names name) k ≡ bytes_eq w name
  word w k name at has = ap (nat_eq (number names name)) (sym at ∙ ap (λ t. number t w) (sym begins)) ∙ turned (number names name) (number names w) ∙ compared names w name (subst (λ (t : Names). Has t w) (sym begins) has)

  files : (modules : Names) (file : ℕ) (name : List ℕ) → AllByRecursion (Has names) modules → old.file_from file (numbers names modules) (number names name) ≡ file_from file modules name
  files [] file name all = refl
  files (m ∷ ms) file name all = λ j. cond (compared names m name all.0 j) (Some file) (files ms (file + 1) name all.1 j)

  given_stand : (o : Option ℕ) → old.import_given o ≡ Rattle.names_rules.specs.Imports.module_or o
  given_stand None = refl
  given_stand (Some file) = refl

  given_source : (o : Option ℕ) → old.given o ≡ Rattle.names_rules.specs.Imports.source_or o
  given_source None = refl
  given_source (Some file) = refl

  pub import_is : (modules : Names) (name : List ℕ) → AllByRecursion (Has names) modules → old.import_stand (numbers names modules) (number names name) ≡ import_stand modules name
  import_is modules name all = λ j. cond (word (codes "os") 3 name refl refl j) stand.Os (cond (word (codes "sys") 4 name refl refl j) stand.Sys ((given_stand (old.file_of (numbers names modules) (number names name)) ∙ ap Rattle.names_rules.specs.Imports.module_or (files modules 0 name all)) j))

  pub source_is : (modules path : Names) → AllByRecursion (Has names) modules → old.source_of (numbers names modules) (numbers names path) ≡ source_of modules path
  source_is modules [] all = refl
  source_is modules (name ∷ []) all = given_source (old.file_of (numbers names modules) (number names name)) ∙ ap Rattle.names_rules.specs.Imports.source_or (files modules 0 name all)
  source_is modules (a ∷ b ∷ []) all = refl
  source_is modules (a ∷ b ∷ c ∷ []) all = λ j. cond ((word (codes "rpython") 5 a refl refl j && word (codes "rlib") 6 b refl refl j) && word (codes "rarithmetic") 7 c refl refl j) source.Arithmetic source.Missing
  source_is modules (a ∷ b ∷ c ∷ d ∷ path) all = refl

  pub arithmetic_is : (name : List ℕ) → old.arithmetic (number names name) ≡ arithmetic name
  arithmetic_is name = λ j. cond (word (codes "ovfcheck") 8 name refl refl j) (stand.Builtin Rattle.rpy_tree.specs.declared.program.Builtin.TheVariants.Ovfcheck) (cond (word (codes "intmask") 9 name refl refl j) (stand.Builtin Rattle.rpy_tree.specs.declared.program.Builtin.TheVariants.Intmask) stand.Missing)

  pub taken_is : (s : Source) (name : List ℕ) → old.from_bound s (number names name) ≡ bound_in names (taken s name)
  taken_is (source.Module file) name = refl
  taken_is source.Arithmetic name = ap old_bound.Is (arithmetic_is name)
  taken_is source.Missing name = refl

module_known_by : (ms : Names) (later : Names) (x : Names) → AllByRecursion (Has later) x → AllByRecursion (Has (see ms later)) x
module_known_by ms later [] h = tt
module_known_by ms later (x ∷ xs) h = (stays_seen ms later x h.0, module_known_by ms later xs h.1)

pub modules_stand : (ms : List Named) → AllByRecursion (Has (names_of ms)) (module_names ms)
modules_stand ms = module_known_by (modules_said ms) (see (module_names ms) code.known) (module_names ms) (all_seen (module_names ms) [] code.known)
