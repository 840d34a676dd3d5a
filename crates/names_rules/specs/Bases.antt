-- The bases of the classes of a program.
use Rattle.std.specs.Prelude.{ℕ, zero, suc, ◌+◌, ◌-◌, Bool, true, false, if◌then◌else◌, ◌==◌, ◌&&◌, nat_lt, nat_le, List, [], ◌∷◌, ◌++◌, length, map, slice_get, Option, Some, None}
use Rattle.std.specs.List.{list_any}
use Rattle.names_bound.specs.Scopes.{base_in}
use Rattle.names_bound.specs.declared.base.Base.{Base}
use Rattle.names_bound.specs.declared.base.Base.TheVariants as base
use Rattle.names_bound.specs.declared.fault.Fault.{Fault}
use Rattle.names_bound.specs.declared.fault.FaultKind.TheVariants as fault
use Rattle.names_bound.specs.declared.stand.Stand.{Stand}
use Rattle.names_bound.specs.declared.stand.Stand.TheVariants as stand
use Rattle.names_rules.specs.Bindings.{Binding}
use Rattle.names_rules.specs.Least.{faults_if}
use Rattle.names_rules.specs.Members.{What, Class, Placed}
use Rattle.names_rules.specs.Missing.{is_unknown}
use Rattle.names_rules.specs.Scopes.{global, is_late, member}

-- a class statement, with the dotted name of its base, none where it has none
pub record Stated : Type 0 where
  pub file : ℕ
  pub place : ℕ
  pub node : ℕ
  pub base : List (List ℕ)

abbrev pub stated : Placed → What → List Stated
stated p (Class name path) = record { file = p.file; place = p.place; node = p.node; base = path } ∷ []
stated p other = []

abbrev pub classes : List Placed → List Stated
classes [] = []
classes (p ∷ ps) = stated p p.what ++ classes ps

-- ---- what the name of a base stands for

-- a name that is bound only later stands for nothing yet
abbrev pub bound_before : Bool → Stand → Stand
bound_before late found = if is_unknown found then stand.Unknown else if late then stand.Nothing else found

abbrev pub later_than : Stated → Option Stated → Bool
later_than c None = false
later_than c (Some other) = other.file == c.file && nat_le c.place other.place

-- the class is stated in the same module, and not earlier; the builtin ones have the first 13 numbers
abbrev pub comes_later : List Stated → Stated → ℕ → Bool
comes_later all c class = if nat_lt class 13 then false else later_than c (slice_get all (class - 13))

abbrev pub earlier : Bool → ℕ → Base
earlier later class = if later then base.Wrong fault.BadBase else base.Class class

-- none where it is object; a class that is bound earlier; a name that an import lacks is told there
abbrev pub judged : List Stated → Stated → Stand → Base
judged all c stand.Object = base.Free
judged all c stand.Missing = base.Free
judged all c stand.Unknown = base.Wrong fault.Unknown
judged all c (stand.Class class) = earlier (comes_later all c class) class
judged all c other = base.Wrong fault.BadBase

abbrev pub class_of : Base → Option ℕ
class_of (base.Class class) = Some class
class_of other = None

-- where these are bound by the modules, these by the bodies of classes, and these are the bases of the classes
module _ (bs cs : List Binding) (bases : List (Option ℕ)) where
  abbrev pub first : Stated → List ℕ → Stand
  first c name = bound_before (is_late bs c.file c.place name) (global bs c.file name)

  abbrev pub after_dot : Stand → List ℕ → Stand
  after_dot stand.Unknown name = stand.Unknown
  after_dot of name = member bs cs bases of name

  abbrev pub after_dots : Stand → List (List ℕ) → Stand
  after_dots of [] = of
  after_dots of (name ∷ names) = after_dots (after_dot of name) names

  -- a class without a base stands as one below object
  abbrev pub path : Stated → List (List ℕ) → Stand
  path c [] = stand.Object
  path c (name ∷ names) = after_dots (first c name) names

  abbrev pub base_of : List Stated → Stated → Base
  base_of all c = judged all c (path c c.base)

  abbrev pub bases_of : List Stated → List Stated → List (Option ℕ)
  bases_of all of = map (λ c. class_of (base_of all c)) of

-- Exception; StandardError; ArithmeticError, above OverflowError and ZeroDivisionError; LookupError, above IndexError
-- and KeyError; ValueError, AttributeError, AssertionError; RuntimeError, above NotImplementedError
abbrev pub builtin_bases : List (Option ℕ)
builtin_bases = None ∷ Some 0 ∷ Some 1 ∷ Some 2 ∷ Some 2 ∷ Some 1 ∷ Some 5 ∷ Some 5 ∷ Some 1 ∷ Some 1 ∷ Some 1 ∷ Some 1 ∷ Some 11 ∷ []

-- the base that each class names
abbrev pub named : List Binding → List Binding → List (Option ℕ) → List Stated → List (Option ℕ)
named bs cs bases all = builtin_bases ++ bases_of bs cs bases all all

-- ---- bases that lead back

abbrev pub above_at : (ℕ → List ℕ) → Option ℕ → List ℕ
above_at go None = []
above_at go (Some b) = b ∷ go b

-- the base of a class, the base of that one, and so on for so many steps
abbrev pub above : List (Option ℕ) → ℕ → ℕ → List ℕ
above bases zero class = []
above bases (suc n) class = above_at (above bases n) (base_in bases class)

-- a class that is above itself; no way up is longer than there are classes
abbrev pub leads_back : List (Option ℕ) → ℕ → Bool
leads_back bases class = list_any (λ b. b == class) (above bases (length bases) class)

abbrev pub kept_to : List (Option ℕ) → ℕ → List (Option ℕ)
kept_to bases zero = []
kept_to bases (suc n) = kept_to bases n ++ (if leads_back bases n then None else base_in bases n) ∷ []

-- a class that leads back to itself counts as having no base
abbrev pub without_rings : List (Option ℕ) → List (Option ℕ)
without_rings bases = kept_to bases (length bases)

-- ---- faults

abbrev pub fault_of : Base → Bool → ℕ → List Fault
fault_of (base.Wrong kind) ring node = record { node = node; kind = kind } ∷ []
fault_of other ring node = faults_if ring node fault.BadBase

abbrev pub bad_bases_from : ℕ → List Binding → List Binding → List (Option ℕ) → List (Option ℕ) → List Stated → List Stated → List Fault
bad_bases_from class bs cs bases names all [] = []
bad_bases_from class bs cs bases names all (c ∷ rest) = fault_of (base_of bs cs bases all c) (leads_back names (13 + class)) c.node ++ bad_bases_from (class + 1) bs cs bases names all rest

-- the classes whose base is none, or leads back to them by the bases that classes name
abbrev pub bad_bases : List Binding → List Binding → List (Option ℕ) → List (Option ℕ) → List Stated → List Fault
bad_bases bs cs bases names all = bad_bases_from 0 bs cs bases names all all
