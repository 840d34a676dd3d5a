-- Classes, each with its bases.
use Rattle.std.specs.Prelude.{ℕ, zero, suc, ◌==◌, Bool, true, false, if◌then◌else◌, List, [], ◌∷◌, ◌++◌, length, find, slice_get, Option, Some, None, codes}
use Rattle.std.specs.Str.{bytes_eq}
use Rattle.std.specs.List.{list_any}
use Rattle.rpy_tree.specs.declared.program.ClassInfo.{ClassInfo}
use Rattle.rpy_tree.specs.declared.program.Const.{Const}

abbrev pub base_in : Option ClassInfo → Option ℕ
base_in None = None
base_in (Some class) = class.base

abbrev pub base : List ClassInfo → ℕ → Option ℕ
base classes c = base_in (slice_get classes c)

-- the classes from a base on, if there is one
abbrev pub onward : (ℕ → List ℕ) → Option ℕ → List ℕ
onward line None = []
onward line (Some c) = line c

-- a class, its base, the base of that, and so on: at most n classes
abbrev pub line : List ClassInfo → ℕ → ℕ → List ℕ
line classes zero c = []
line classes (suc n) c = c ∷ onward (line classes n) (base classes c)

-- a class and its bases, the nearest first
abbrev pub above : List ClassInfo → ℕ → List ℕ
above classes c = line classes (length classes) c

-- d is c or a base of c
abbrev pub is_below : List ClassInfo → ℕ → ℕ → Bool
is_below classes c d = list_any (λ b. b == d) (above classes c)

-- the nearest class that is above both
abbrev pub common_base : List ClassInfo → ℕ → ℕ → Option ℕ
common_base classes c d = find (λ b. is_below classes d b) (above classes c)

abbrev pub either_of : {A : Type 0} → Option A → Option A → Option A
either_of (Some a) other = Some a
either_of None other = other

-- what the first of these classes has that has any
abbrev pub nearest : {A : Type 0} → (ℕ → Option A) → List ℕ → Option A
nearest has [] = None
nearest has (c ∷ cs) = either_of (has c) (nearest has cs)

abbrev pub higher : Bool → ℕ → Option ℕ → Option ℕ
higher passes c found = if passes then Some c else found

-- the last of these classes that passes, and else the one that was found before them
abbrev pub topmost : (ℕ → Bool) → Option ℕ → List ℕ → Option ℕ
topmost passes found [] = found
topmost passes found (c ∷ cs) = topmost passes (higher (passes c) c found) cs

-- what a name stands for
abbrev pub named : {A : Type 0} → List ℕ → List (List ℕ × A) → Option A
named name [] = None
named name (entry ∷ entries) = if bytes_eq entry.0 name then Some entry.1 else named name entries

abbrev pub methods_in : Option ClassInfo → List (List ℕ × ℕ)
methods_in None = []
methods_in (Some class) = class.methods

abbrev pub constants_in : Option ClassInfo → List (List ℕ × Const)
constants_in None = []
constants_in (Some class) = class.constants

abbrev pub own_method : List ClassInfo → List ℕ → ℕ → Option ℕ
own_method classes name c = named name (methods_in (slice_get classes c))

abbrev pub own_constant : List ClassInfo → List ℕ → ℕ → Option Const
own_constant classes name c = named name (constants_in (slice_get classes c))

-- the nearest method of a name among a class and its bases
abbrev pub method : List ClassInfo → ℕ → List ℕ → Option ℕ
method classes c name = nearest (own_method classes name) (above classes c)

-- what is called with a new instance
abbrev pub init : List ClassInfo → ℕ → Option ℕ
init classes c = method classes c (codes "__init__")

-- the nearest class-level constant of a name
abbrev pub constant : List ClassInfo → ℕ → List ℕ → Option Const
constant classes c name = nearest (own_constant classes name) (above classes c)
