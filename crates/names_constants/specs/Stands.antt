-- What a name, a target and a name after a dot stand for, and whether that is bound only later in the same module.
use Rattle.std.specs.Prelude.{ℕ, Bool, false, ◌==◌, ◌&&◌, ◌||◌, codes, List, [], ◌∷◌, position, Option, Some, None}
use Rattle.std.specs.List.{list_any}
use Rattle.std.specs.Str.{bytes_eq}
use Rattle.names_bound.specs.declared.stand.Stand.{Stand}
use Rattle.names_bound.specs.declared.stand.Stand.TheVariants as stand
use Rattle.names_found.specs.Part.{no_part}
use Rattle.names_found.specs.declared.part.Part.{Part}
use Rattle.names_rules.specs.Bindings.{Binding}
use Rattle.names_rules.specs.Scopes.{global, is_late, member}

-- the methods whose call makes a list
abbrev pub makers : List (List ℕ)
makers = codes "split" ∷ codes "keys" ∷ codes "values" ∷ codes "items" ∷ codes "iterkeys" ∷ codes "itervalues" ∷ codes "iteritems" ∷ []

abbrev pub is_maker : List ℕ → Bool
is_maker name = list_any (λ m. bytes_eq m name) makers

-- of a value that is neither a module nor a class
abbrev pub makes : Stand → List ℕ → Bool
makes stand.Nothing name = is_maker name
makes other name = false

abbrev pub part_of : Option ℕ → Stand → Bool → Part
part_of (Some local) s late = record { stand = stand.Local local; late = false; makes = false }
part_of None s late = record { stand = s; late = late; makes = false }

abbrev pub target_of : Option ℕ → Part
target_of (Some local) = record { stand = stand.Local local; late = false; makes = false }
target_of None = no_part

-- where these are bound by modules and by the bodies of classes, these are the bases of the classes, and a function has these
-- locals: at a place of a file
module _ (bs cs : List Binding) (bases : List (Option ℕ)) (file place : ℕ) (own : List (List ℕ)) where
  -- a name of this very module that is bound only later
  abbrev pub late_in : Stand → List ℕ → Bool
  late_in (stand.Module of) name = of == file && is_late bs file place name
  late_in other name = false

  -- a local, else a name of the module, else one that the language knows
  abbrev pub name_part : List ℕ → Part
  name_part name = part_of (position (bytes_eq name) own) (global bs file name) (is_late bs file place name)

  abbrev pub bound_part : List ℕ → Part
  bound_part name = target_of (position (bytes_eq name) own)

  -- what a name is after a dot, and late where what stands before the dot is
  abbrev pub attr_part : Part → List ℕ → Part
  attr_part of name = record { stand = member bs cs bases of.stand name; late = of.late || late_in of.stand name; makes = makes (member bs cs bases of.stand name) name }
