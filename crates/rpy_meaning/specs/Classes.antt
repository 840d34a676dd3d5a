-- Classes and their bases, and which failures a `try` covers.
use Rattle.std.specs.Prelude.{ℕ, zero, suc, ◌==◌, ◌||◌, Bool, true, false, List, [], ◌∷◌, length, slice_get, Option, Some, None, if◌then◌else◌}
use Rattle.std.specs.Str.{bytes_eq}
use Rattle.std.specs.List.{list_any, flat_map}
use Rattle.rpy_tree.specs.Value.{Value}
use Rattle.rpy_meaning.specs.declared.row.Covers.{Covers}
use Rattle.rpy_meaning.specs.Tree.{Class, Clauses, no_clauses, clause}

-- what a name stands for in a list of names
abbrev pub named : {A : Type 0} → List ℕ → List (List ℕ × A) → Option A
named name [] = None
named name (entry ∷ entries) = if bytes_eq entry.0 name then Some entry.1 else named name entries

-- the name stands for this from then on: it keeps its place, and a new one goes last
abbrev pub with_name : {A : Type 0} → List ℕ → A → List (List ℕ × A) → List (List ℕ × A)
with_name name a [] = (name, a) ∷ []
with_name name a (entry ∷ entries) = if bytes_eq entry.0 name then (name, a) ∷ entries else entry ∷ with_name name a entries

abbrev pub base_of : Option Class → Option ℕ
base_of None = None
base_of (Some class) = class.base

abbrev pub constants_of : Option Class → List (List ℕ × Value)
constants_of None = []
constants_of (Some class) = class.constants

abbrev pub methods_of : Option Class → List (List ℕ × ℕ)
methods_of None = []
methods_of (Some class) = class.methods

-- of constants that stand by classes, the nearest first: each name with its nearest value
abbrev pub nearest : List (List ℕ × Value) → List (List ℕ × Value)
nearest [] = []
nearest (entry ∷ entries) = with_name entry.0 entry.1 (nearest entries)

module _ (classes : List Class) where
  abbrev pub class_at : ℕ → Option Class
  class_at c = slice_get classes c

  -- a class, its base, the base of that, and so on: at most k classes
  abbrev pub line_of : ℕ → Option ℕ → List ℕ
  line_of zero class = []
  line_of (suc k) None = []
  line_of (suc k) (Some c) = c ∷ line_of k (base_of (class_at c))

  abbrev pub with_bases : ℕ → List ℕ
  with_bases c = line_of (length classes) (Some c)

  -- the first class is the second one or below it
  abbrev pub is_below : ℕ → ℕ → Bool
  is_below c d = list_any (λ e. e == d) (with_bases c)

  abbrev pub method_of : ℕ → List ℕ → Option ℕ
  method_of c name = named name (flat_map (λ d. methods_of (class_at d)) (with_bases c))

  -- what the attributes of a new instance are
  abbrev pub first_attributes : ℕ → List (List ℕ × Value)
  first_attributes c = nearest (flat_map (λ d. constants_of (class_at d)) (with_bases c))

  -- a clause takes the exceptions of its classes and of the classes below them; a bare one takes each
  abbrev pub takes : Option (List ℕ) → ℕ → Bool
  takes None c = true
  takes (Some ds) c = list_any (is_below c) ds

  abbrev pub some_takes : Clauses → ℕ → Bool
  some_takes no_clauses c = false
  some_takes (clause taken name body rest) c = takes taken c || some_takes rest c

  -- what is covered in the body of a `try` with these clauses
  abbrev pub covers_within : Clauses → Covers → Covers
  covers_within clauses c = record {
    index = c.index || some_takes clauses 6;
    zero = c.zero || some_takes clauses 4;
    number = c.number || some_takes clauses 8;
    attribute = c.attribute || some_takes clauses 9;
  }

-- at the start of a function nothing is covered
abbrev pub no_covers : Covers
no_covers = record { index = false; zero = false; number = false; attribute = false }
