-- The events of the code for the items of a tree, where names have their numbers in a table.
use Rattle.std.specs.Prelude.{ℕ, ◌+◌, List, [], ◌∷◌, ◌++◌}
use Rattle.rpy_nodes.specs.Names.{number, with_name}
use Rattle.rpy_nodes.specs.declared.event.Act.{Act}
use Rattle.rpy_nodes.specs.declared.event.Act.TheVariants as act
use Rattle.rpy_nodes.specs.declared.event.Event.{Event}
use Rattle.rpy_nodes.specs.declared.walk.Walk.{Walk}
use Rattle.names_rules.specs.Order.{Item, Items, Int, Str, Name, Attr, Unary, Binary, Call, Tuple, List_of, Dict, Slice, Comp, Other, Bind, BindAttr, Done, For, Multiply, Clause_of, Elif, Caught, CaughtOf, CaughtEnd, Catch}
use Rattle.names_rules.specs.Numbering.{next, nodes, said}

abbrev pub Names : Type 0
Names = List (List ℕ)

abbrev pub act_of : Names → Item → Act
act_of names (Int v) = act.Int v
act_of names (Str text) = act.Str (number names text)
act_of names (Name name) = act.Name (number names name)
act_of names (Attr name) = act.Attr (number names name)
act_of names (Unary op) = act.Unary op
act_of names (Binary op) = act.Binary op
act_of names (Call count) = act.Call count
act_of names (Tuple count) = act.Tuple count
act_of names (List_of count) = act.List count
act_of names (Dict count) = act.Dict count
act_of names (Slice count) = act.Slice count
act_of names (Comp count) = act.Comp count
act_of names (Other count) = act.Other count
act_of names (Bind name) = act.Bind (number names name)
act_of names (BindAttr name) = act.BindAttr (number names name)
act_of names (Done count) = act.Done count
act_of names For = act.For
act_of names Multiply = act.Multiply
act_of names Clause_of = act.Clause
act_of names Elif = act.Elif
act_of names (Caught name) = act.Caught (number names name)
act_of names (CaughtOf name) = act.CaughtOf (number names name)
act_of names CaughtEnd = act.CaughtEnd
act_of names (Catch name) = act.Catch (number names name)

-- from a first number on
abbrev pub events : Names → ℕ → Items → List Event
events names n [] = []
events names n (i ∷ is) = record { node = n; act = act_of names i } ∷ events names (next i n) is

-- names are seen one after the other
abbrev pub see : List (List ℕ) → Names → Names
see [] names = names
see (name ∷ rest) names = see rest (with_name names name)

-- a walk over these items; a table that goes on from its own may give the numbers of names
abbrev pub over : Items → List (List ℕ) → Walk → Walk
over items later w = record { names = see (said items) w.names; next = w.next + nodes items; events = w.events ++ events (see later (see (said items) w.names)) w.next items }
