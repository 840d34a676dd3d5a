-- Worked rows of classes and attributes, which compute.
use Rattle.std.proofs.Common.{◌≡◌, ℕ, List, [], ◌∷◌, Option, Some, None, true, false, refl}
use Rattle.rpy_tree.specs.declared.program.ClassInfo.{ClassInfo}
use Rattle.class_desc.specs.Line.{above, is_below, common_base, method}
use Rattle.class_desc.specs.Stores.{read, store, start}
use Rattle.class_desc.specs.Tables.{Tables, home}

abbrev class : Option ℕ → List (List ℕ × ℕ) → ClassInfo
class base methods = record { node = 0; file = 0; base = base; constants = []; methods = methods }

-- class 1 is below 0, and so is 3; class 2 is below 1; 4 has no base; classes 0 and 2 have a method 9
abbrev classes : List ClassInfo
classes =
    class None ((9 ∷ [], 5) ∷ [])
    ∷ class (Some 0) []
    ∷ class (Some 1) ((9 ∷ [], 6) ∷ [])
    ∷ class (Some 0) []
    ∷ class None []
    ∷ []

line_of_two : above classes 2 ≡ 2 ∷ 1 ∷ 0 ∷ []
line_of_two = refl

itself : is_below classes 2 2 ≡ true
itself = refl

up : is_below classes 2 0 ≡ true
up = refl

not_down : is_below classes 0 2 ≡ false
not_down = refl

common : common_base classes 2 3 ≡ Some 0
common = refl

nothing_common : common_base classes 2 4 ≡ None
nothing_common = refl

nearest_method : method classes 2 (9 ∷ []) ≡ Some 6
nearest_method = refl

inherited_method : method classes 1 (9 ∷ []) ≡ Some 5
inherited_method = refl

no_method : method classes 4 (9 ∷ []) ≡ None
no_method = refl

-- attribute 7 is declared by classes 1 and 2, attribute 8 by class 2
abbrev described : Tables
described = record { classes = classes; attributes = [] ∷ ((7 ∷ []) ∷ []) ∷ ((8 ∷ []) ∷ (7 ∷ []) ∷ []) ∷ [] }

topmost_home : home described 2 (7 ∷ []) ≡ Some 1
topmost_home = refl

own_home : home described 2 (8 ∷ []) ≡ Some 2
own_home = refl

no_home : home described 1 (8 ∷ []) ≡ None
no_home = refl

-- after the name of the first parameter a store counts, after another name it does not
stored_at_first : (store (7 ∷ []) (read (1 ∷ []) (1 ∷ []) (start []))).names ≡ (7 ∷ []) ∷ []
stored_at_first = refl

stored_elsewhere : (store (7 ∷ []) (read (1 ∷ []) (2 ∷ []) (start []))).names ≡ []
stored_elsewhere = refl
