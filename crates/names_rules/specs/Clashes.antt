-- Classes that have one name as a method and as an attribute, their bases counted.
use Rattle.std.specs.Prelude.{ℕ, zero, suc, ◌+◌, Bool, true, false, if◌then◌else◌, ◌==◌, ◌&&◌, ◌||◌, List, [], ◌∷◌, ◌++◌, length, map, Option, Some, None}
use Rattle.std.specs.List.{list_any}
use Rattle.std.specs.Str.{bytes_eq}
use Rattle.names_bound.specs.Declare.{class_here}
use Rattle.names_bound.specs.Scopes.{base_in}
use Rattle.names_bound.specs.declared.fault.Fault.{Fault}
use Rattle.names_bound.specs.declared.fault.FaultKind.TheVariants as fault
use Rattle.names_rules.specs.Bases.{Stated}
use Rattle.names_rules.specs.Bindings.{Counts, none_before, count}
use Rattle.names_rules.specs.Least.{faults_if}
use Rattle.names_rules.specs.Members.{What, Constant, Def, Placed}
use Rattle.names_rules.specs.Order.{Item, Items, Name, BindAttr, block}

pub record Declares : Type 0 where
  pub class : ℕ
  pub name : List ℕ

abbrev pub name_of : Item → Option (List ℕ)
name_of (Name name) = Some name
name_of item = None

-- a target `p.x`, where p is the first parameter: x is bound right after the name p
abbrev pub stored : List ℕ → Option (List ℕ) → Item → Option (List ℕ)
stored first (Some name) (BindAttr x) = if bytes_eq name first then Some x else None
stored first last item = None

abbrev pub in_front : Option (List ℕ) → List (List ℕ) → List (List ℕ)
in_front None xs = xs
in_front (Some x) xs = x ∷ xs

abbrev pub stores : List ℕ → Option (List ℕ) → Items → List (List ℕ)
stores first last [] = []
stores first last (i ∷ is) = in_front (stored first last i) (stores first (name_of i) is)

-- a constant of the body of a class, and what a method assigns to of its first parameter
abbrev pub attributes_of : What → List (List ℕ)
attributes_of (Constant name v) = name ∷ []
attributes_of (Def name (p ∷ ps) star body) = stores p.name None (block body.of)
attributes_of other = []

abbrev pub methods_of : What → List (List ℕ)
methods_of (Def name ps star body) = name ∷ []
methods_of other = []

abbrev pub in_class : Option ℕ → List (List ℕ) → List Declares
in_class None names = []
in_class (Some class) names = map (λ name. record { class = class; name = name }) names

abbrev pub declared_from : (What → List (List ℕ)) → Counts → List Placed → List Declares
declared_from of c [] = []
declared_from of c (p ∷ ps) = in_class (class_here p.inside c.classes) (of p.what) ++ declared_from of (count p.what c) ps

abbrev pub attributes : List Placed → List Declares
attributes ps = declared_from attributes_of none_before ps

abbrev pub methods : List Placed → List Declares
methods ps = declared_from methods_of none_before ps

-- ---- classes and their bases

abbrev pub line_at : (ℕ → List ℕ) → Option ℕ → List ℕ
line_at go None = []
line_at go (Some b) = go b

abbrev pub line_from : List (Option ℕ) → ℕ → ℕ → List ℕ
line_from bases zero class = []
line_from bases (suc n) class = class ∷ line_at (line_from bases n) (base_in bases class)

-- a class, its base, the base of that one, and so on
abbrev pub line : List (Option ℕ) → ℕ → List ℕ
line bases class = line_from bases (length bases) class

abbrev pub has : List Declares → List ℕ → ℕ → Bool
has ds name class = list_any (λ d. class == d.class && bytes_eq name d.name) ds

-- a class or a base of it declares the name
abbrev pub declares : List Declares → List (Option ℕ) → ℕ → List ℕ → Bool
declares ds bases class name = list_any (has ds name) (line bases class)

-- one of these of the class is declared as one of those, by the class or a base of it
abbrev pub also : List Declares → List Declares → List (Option ℕ) → ℕ → Bool
also these those bases class = list_any (λ d. d.class == class && declares those bases d.class d.name) these

abbrev pub clashes : List Declares → List Declares → List (Option ℕ) → ℕ → Bool
clashes as_attributes as_methods bases class = also as_attributes as_methods bases class || also as_methods as_attributes bases class

-- the class or a base of it clashes
abbrev pub inherits : List Declares → List Declares → List (Option ℕ) → ℕ → Bool
inherits as_attributes as_methods bases class = list_any (clashes as_attributes as_methods bases) (line bases class)

abbrev pub clashing_from : ℕ → List Declares → List Declares → List (Option ℕ) → List Stated → List Fault
clashing_from place as_attributes as_methods bases [] = []
clashing_from place as_attributes as_methods bases (c ∷ cs) =
    faults_if (inherits as_attributes as_methods bases (13 + place)) c.node fault.Twice ++ clashing_from (place + 1) as_attributes as_methods bases cs

abbrev pub clashing : List Declares → List Declares → List (Option ℕ) → List Stated → List Fault
clashing as_attributes as_methods bases cs = clashing_from 0 as_attributes as_methods bases cs
