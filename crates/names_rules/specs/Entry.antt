-- The entry point of a program.
use Rattle.std.specs.Prelude.{ℕ, ◌+◌, Bool, true, false, not, if◌then◌else◌, ◌==◌, ◌&&◌, codes, List, [], ◌∷◌, Option, Some, None}
use Rattle.std.specs.Str.{bytes_eq}
use Rattle.names_rules.specs.Bindings.{Counts, none_before, count}
use Rattle.names_rules.specs.Members.{Formal, What, Def, Placed}

-- the number of a function, and the node of its parameter
pub record EntryPoint : Type 0 where
  pub function : ℕ
  pub parameter : ℕ

-- exactly one parameter, which has no star
abbrev pub plain : Bool → List Formal → Option ℕ
plain false (p ∷ []) = Some p.node
plain star params = None

abbrev pub parameter_of : What → Option ℕ
parameter_of (Def name params star body) = if bytes_eq (codes "entry_point") name then plain star params else None
parameter_of other = None

-- a function of the main module, which is the first, and of none of its classes
abbrev pub entry_at : Placed → Option ℕ
entry_at p = if p.file == 0 && not p.inside then parameter_of p.what else None

abbrev pub first_of : ℕ → Option ℕ → Option EntryPoint → Option EntryPoint
first_of function None rest = rest
first_of function (Some parameter) rest = Some (record { function = function; parameter = parameter })

abbrev pub entry_from : Counts → List Placed → Option EntryPoint
entry_from c [] = None
entry_from c (p ∷ ps) = first_of c.functions (entry_at p) (entry_from (count p.what c) ps)

abbrev pub entry : List Placed → Option EntryPoint
entry ps = entry_from none_before ps
