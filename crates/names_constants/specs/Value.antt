-- The value of a constant expression: what each kind of node has for a value, by those of its parts.
use Rattle.std.specs.Prelude.{ℕ, Bool, true, false, not, if◌then◌else◌, List, [], ◌∷◌, ◌++◌, length, map, Option, Some, None}
use Rattle.rpy_tree.specs.declared.program.Builtin.TheVariants as builtin
use Rattle.rpy_tree.specs.declared.program.Const.{Const}
use Rattle.rpy_tree.specs.declared.program.Const.TheVariants as const
use Rattle.names_bound.specs.declared.fault.Fault.{Fault}
use Rattle.names_bound.specs.declared.fault.FaultKind.TheVariants as fault
use Rattle.names_bound.specs.declared.stand.Stand.{Stand}
use Rattle.names_bound.specs.declared.stand.Stand.TheVariants as stand
use Rattle.names_found.specs.Part.{no_part}
use Rattle.names_found.specs.declared.part.Part.{Part}
use Rattle.names_found.specs.declared.step.SiteAt.{SiteAt}
use Rattle.names_rules.specs.Least.{faults_if}
use Rattle.names_rules.specs.Numbering.{next}
use Rattle.names_rules.specs.Order.{Item, Int, Str, Name, Attr, Unary, Binary, Call, Tuple, List_of, Dict, Slice, Comp, Bind, For, Multiply}
use Rattle.names_rules.specs.Sites.{operator, call, a_list, a_dict, two_lists}
use Rattle.names_value.specs.Machine.{Pairs, name_value, word_in, unary_value, binary_value, tuple_of, store, is_step, is_one, root_of, narrow}
use Rattle.names_value.specs.declared.machine.Prebuilt.{Prebuilt}
use Rattle.names_value.specs.declared.machine.Root.{Root}

-- a part: what it stands for, its node, and its value, if it has one
pub record Piece : Type 0 where
  pub part : Part
  pub node : ℕ
  pub value : Option Const

-- an argument that has to be constant: the step of a range, which is a word that is not zero, or the first of os.write, which is 1
pub record Argument : Type 0 where
  pub step : Bool
  pub node : ℕ
  pub value : Option Const

-- the next node, the sites so far, the lists and dicts that are made, and the arguments that have to be constant
pub record Kept : Type 0 where
  pub node : ℕ
  pub sites : List SiteAt
  pub made : List Prebuilt
  pub arguments : List Argument

abbrev pub from_node : ℕ → List SiteAt → Kept
from_node n sites = record { node = n; sites = sites; made = []; arguments = [] }

-- ---- displays have a value where all their parts have one

abbrev pub value_with : Option Const → Option (List Const) → Option (List Const)
value_with None vs = None
value_with (Some v) None = None
value_with (Some v) (Some vs) = Some (v ∷ vs)

abbrev pub values : List Piece → Option (List Const)
values [] = Some []
values (p ∷ ps) = value_with p.value (values ps)

-- the contents of a list have no keys
abbrev pub listed : Option (List Const) → Option Pairs
listed None = None
listed (Some vs) = Some (map (λ v. (const.None, v)) vs)

abbrev pub pair_with : Option Const → Option Const → Pairs → Option Pairs
pair_with None v pairs = None
pair_with (Some k) None pairs = None
pair_with (Some k) (Some v) pairs = Some (store pairs k v)

-- a key and its value, and so on: a key that is there keeps its place, another goes last
abbrev pub stored : Option Pairs → List Piece → Option Pairs
stored None ps = None
stored (Some pairs) [] = Some pairs
stored (Some pairs) (k ∷ []) = None
stored (Some pairs) (k ∷ v ∷ ps) = stored (pair_with k.value v.value pairs) ps

abbrev pub made_as : Const → Option Pairs → Option Const
made_as c None = None
made_as c (Some pairs) = Some c

abbrev pub made_at : ℕ → Option Pairs → List Prebuilt
made_at site None = []
made_at site (Some pairs) = record { site = site; pairs = pairs } ∷ []

-- ---- arguments that have to be constant

abbrev pub argument : Bool → Piece → Argument
argument step p = record { step = step; node = p.node; value = p.value }

-- the third of a range, and the first of os.write
abbrev pub of_called : Stand → List Piece → List Argument
of_called (stand.Builtin builtin.Range) (a ∷ b ∷ c ∷ []) = argument true c ∷ []
of_called (stand.Builtin builtin.Xrange) (a ∷ b ∷ c ∷ []) = argument true c ∷ []
of_called (stand.Builtin builtin.OsWrite) (a ∷ args) = argument false a ∷ []
of_called other args = []

abbrev pub is_allowed : Argument → Bool
is_allowed a = if a.step then is_step a.value else is_one a.value

abbrev pub argument_faults : List Argument → List Fault
argument_faults [] = []
argument_faults (a ∷ more) = faults_if (not (is_allowed a)) a.node fault.BadConstant ++ argument_faults more

abbrev pub one_root : Option Root → List Root
one_root None = []
one_root (Some r) = r ∷ []

-- the third argument of a range has its value where it ends
abbrev pub argument_roots : List Argument → List Root
argument_roots [] = []
argument_roots (a ∷ more) = (if a.step then one_root (root_of a.node a.value) else []) ++ argument_roots more

-- ---- what names stand for, where constants have these values; whether all values are read, or words alone

module _ (name_part bound_part : List ℕ → Part) (attr_part : Part → List ℕ → Part) (whole : Bool) (constants : List (Option Const)) where
  abbrev pub named : Part → Option Const
  named p = if whole then name_value constants p.stand p.late else word_in constants p.stand p.late

  abbrev pub if_whole : Option Const → Option Const
  if_whole c = if whole then c else None

  abbrev pub part : Item → List Piece → Part
  part (Name name) ps = name_part name
  part (Attr name) (a ∷ []) = attr_part a.part name
  part (Bind name) ps = bound_part name
  part i ps = no_part

  -- lists and dicts have the number of their site
  abbrev pub value : Item → ℕ → List Piece → Option Const
  value (Int v) site ps = Some (const.Word v)
  value (Str text) site ps = if_whole (Some (const.Str text))
  value (Name name) site ps = named (name_part name)
  value (Attr name) site (a ∷ []) = named (attr_part a.part name)
  value (Unary op) site (a ∷ []) = unary_value op a.value
  value (Binary op) site (a ∷ b ∷ []) = binary_value op a.value b.value
  value (Tuple count) site ps = if_whole (tuple_of (values ps))
  value (List_of count) site ps = if_whole (made_as (const.List (narrow site)) (listed (values ps)))
  value (Dict count) site ps = if_whole (made_as (const.Dict (narrow site)) (stored (Some []) ps))
  value i site ps = None

  abbrev pub made : Item → ℕ → List Piece → List Prebuilt
  made (List_of count) site ps = if whole then made_at site (listed (values ps)) else []
  made (Dict count) site ps = if whole then made_at site (stored (Some []) ps) else []
  made i site ps = []

  abbrev pub sites : Item → ℕ → List Piece → List SiteAt
  sites (Binary op) n ps = operator op n
  sites (Call count) n (f ∷ args) = call f.part n
  sites (Slice count) n ps = a_list n
  sites (List_of count) n ps = a_list n
  sites (Dict count) n ps = a_dict n
  sites (Comp count) n ps = two_lists n
  sites For n ps = a_list n
  sites Multiply n ps = a_list n
  sites i n ps = []

  abbrev pub arguments : Item → List Piece → List Argument
  arguments (Call count) (f ∷ args) = of_called f.part.stand args
  arguments i ps = []

  abbrev pub at_node : Item → List Piece → Kept → Piece × Kept
  at_node i ps k = (
    record { part = part i ps; node = k.node; value = value i (length k.sites) ps },
    record { node = next i k.node; sites = k.sites ++ sites i k.node ps; made = k.made ++ made i (length k.sites) ps; arguments = k.arguments ++ arguments i ps },
  )
