-- The parts of an expression that wait for what takes them, and the sites of an act.
use Rattle.std.specs.Prelude.{ℕ, zero, suc, ◌-◌, Bool, true, false, List, [], ◌∷◌, length, take, slice_get, Option, Some, None}
use Rattle.rpy_tree.specs.declared.syntax.BinOp.{BinOp}
use Rattle.rpy_tree.specs.declared.syntax.BinOp.TheVariants as binary
use Rattle.rpy_nodes.specs.declared.event.Act.{Act}
use Rattle.rpy_nodes.specs.declared.event.Act.TheVariants as act
use Rattle.names_bound.specs.declared.stand.Stand.TheVariants as stand
use Rattle.names_found.specs.declared.part.Part.{Part}

abbrev pub no_part : Part
no_part = record { stand = stand.Nothing; late = false; makes = false }

abbrev pub or_no_part : Option Part → Part
or_no_part None = no_part
or_no_part (Some p) = p

-- the part with so many after it
abbrev pub part_under : List Part → ℕ → Part
part_under parts after = or_no_part (slice_get parts (length parts - after - 1))

abbrev pub without_last : List Part → List Part
without_last parts = take (length parts - 1) parts

abbrev pub without : ℕ → List Part → List Part
without zero parts = parts
without (suc n) parts = without n (without_last parts)

-- how many parts an act takes, the first part of a call and the values of a dict display aside
abbrev pub taken : Act → ℕ
taken (act.Attr name) = 1
taken (act.Unary op) = 1
taken (act.BindAttr name) = 1
taken act.Elif = 1
taken (act.Binary op) = 2
taken act.For = 2
taken act.Multiply = 2
taken (act.Call count) = count
taken (act.Tuple count) = count
taken (act.List count) = count
taken (act.Dict count) = count
taken (act.Slice count) = count
taken (act.Comp count) = count
taken (act.Other count) = count
taken (act.Done count) = count
taken other = 0

abbrev pub taken_besides : Act → ℕ
taken_besides (act.Call count) = 1
taken_besides (act.Dict count) = count
taken_besides other = 0

-- an expression or a target
abbrev pub is_part : Act → Bool
is_part (act.Done count) = false
is_part act.For = false
is_part act.Multiply = false
is_part act.Elif = false
is_part (act.Caught name) = false
is_part (act.CaughtOf name) = false
is_part act.CaughtEnd = false
is_part (act.Catch name) = false
is_part act.Clause = false
is_part other = true

abbrev pub operator_sites : BinOp → ℕ
operator_sites binary.Add = 1
operator_sites binary.Mul = 1
operator_sites other = 0

-- the sites of an act that is no call: a comprehension has one for itself and one for its walk
abbrev pub sites_of : Act → ℕ
sites_of (act.List count) = 1
sites_of (act.Dict count) = 1
sites_of (act.Slice count) = 1
sites_of act.For = 1
sites_of act.Multiply = 1
sites_of (act.Comp count) = 2
sites_of (act.Binary op) = operator_sites op
sites_of other = 0

abbrev pub is_dict : Act → Bool
is_dict (act.Dict count) = true
is_dict other = false
