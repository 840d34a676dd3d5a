-- The faults of the names in expressions, in bodies, and of parameters.
use Rattle.std.specs.Prelude.{ℕ, ◌+◌, Bool, true, false, not, ◌==◌, ◌||◌, List, [], ◌∷◌, ◌++◌, position, Option, Some, None}
use Rattle.std.specs.List.{list_any}
use Rattle.std.specs.Str.{bytes_eq}
use Rattle.rpy_nodes.specs.Names.{with_name}
use Rattle.names_bound.specs.declared.fault.Fault.{Fault}
use Rattle.names_bound.specs.declared.fault.FaultKind.TheVariants as fault
use Rattle.names_bound.specs.declared.stand.Stand.{Stand}
use Rattle.names_bound.specs.declared.stand.Stand.TheVariants as stand
use Rattle.names_rules.specs.Bases.{after_dot}
use Rattle.names_rules.specs.Bindings.{Binding}
use Rattle.names_rules.specs.Clashes.{line}
use Rattle.names_rules.specs.Least.{faults_if}
use Rattle.names_rules.specs.Locals.{locals}
use Rattle.names_rules.specs.Members.{Value, Body, Formal, What, Constant, Def, Placed}
use Rattle.names_rules.specs.Missing.{is_unknown}
use Rattle.names_rules.specs.Numbering.{next}
use Rattle.names_rules.specs.Order.{Item, Items, Name, Attr, Bind, Caught, CaughtOf, CaughtEnd, Catch, expr, block}
use Rattle.names_rules.specs.Scopes.{global, member}
use Rattle.names_rules.specs.Words.{is_fixed}

abbrev pub local_or : Option ℕ → Stand → Stand
local_or None s = s
local_or (Some local) s = stand.Local local

-- Exception or a class below it; a name that an import lacks is told there
abbrev pub is_caught : List (Option ℕ) → Stand → Bool
is_caught bases stand.Missing = true
is_caught bases (stand.Class class) = list_any (λ c. c == 0) (line bases class)
is_caught bases other = false

-- what modules and the bodies of classes bind, and the bases of the classes
module _ (bs cs : List Binding) (bases : List (Option ℕ)) where
  -- in a file, where a function has these locals: a local, else a name of the module, else one that the language knows
  module _ (file : ℕ) (own : List (List ℕ)) where
    abbrev pub name_stand : List ℕ → Stand
    name_stand name = local_or (position (bytes_eq name) own) (global bs file name)

    -- what stands after an item, by what stood right before: a name, a name after a dot, or the class so far in the head of a clause
    abbrev pub stand_after : Stand → Item → Stand
    stand_after before (Name name) = name_stand name
    stand_after before (Attr name) = member bs cs bases before name
    stand_after before (Caught name) = name_stand name
    stand_after before (CaughtOf name) = after_dot bs cs bases before name
    stand_after before other = stand.Nothing

    -- a name that is none; a target that may not be bound; a class in the head of a clause that is none to catch
    abbrev pub fault_at : ℕ → Stand → Item → List Fault
    fault_at n before (Name name) = faults_if (is_unknown (name_stand name)) n fault.Unknown
    fault_at n before (Attr name) = faults_if (is_unknown (member bs cs bases before name)) n fault.Unknown
    fault_at n before (Bind name) = faults_if (is_fixed name) n fault.Twice
    fault_at n before (Catch name) = faults_if (is_fixed name) n fault.Twice
    fault_at n before CaughtEnd = faults_if (not (is_caught bases before)) n fault.Unknown
    fault_at n before other = []

    abbrev pub faults_from : Stand → ℕ → Items → List Fault
    faults_from before n [] = []
    faults_from before n (i ∷ is) = fault_at n before i ++ faults_from (stand_after before i) (next i n) is

    abbrev pub faults : ℕ → Items → List Fault
    faults n is = faults_from stand.Nothing n is

  -- no local stands outside the body of its function
  abbrev pub value_faults : ℕ → Value → List Fault
  value_faults file v = faults file [] v.first (expr v.of)

  abbrev pub default_faults : ℕ → Option Value → List Fault
  default_faults file None = []
  default_faults file (Some v) = value_faults file v

  -- a parameter has the name of none before it, nor that of None, True or False
  abbrev pub parameter_faults : ℕ → List (List ℕ) → List Formal → List Fault
  parameter_faults file before [] = []
  parameter_faults file before (p ∷ ps) =
      (faults_if (list_any (bytes_eq p.name) before || is_fixed p.name) p.node fault.Twice ++ default_faults file p.default)
      ++ parameter_faults file (with_name before p.name) ps

  abbrev pub what_faults : ℕ → What → List Fault
  what_faults file (Constant name v) = value_faults file v
  what_faults file (Def name params star body) = parameter_faults file [] params ++ faults file (locals params body.of) body.first (block body.of)
  what_faults file other = []

  abbrev pub used : List Placed → List Fault
  used [] = []
  used (p ∷ ps) = what_faults p.file p.what ++ used ps
