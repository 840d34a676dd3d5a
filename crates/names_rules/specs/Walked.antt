-- A walk that takes the items of a tree one by one.
use Rattle.std.specs.Prelude.{[], ◌∷◌}
use Rattle.rpy_nodes.specs.Walk.{push, note, push_name, note_name}
use Rattle.rpy_nodes.specs.declared.event.Act.TheVariants as act
use Rattle.rpy_nodes.specs.declared.walk.Walk.{Walk}
use Rattle.names_rules.specs.Order.{Item, Items, Int, Str, Name, Attr, Unary, Binary, Call, Tuple, List_of, Dict, Slice, Comp, Other, Bind, BindAttr, Done, For, Multiply, Clause_of, Elif, Caught, CaughtOf, CaughtEnd, Catch}

-- a node takes the next number; what is none stands at it
abbrev pub after_one : Item → Walk → Walk
after_one (Int v) w = push (act.Int v) w
after_one (Str text) w = push_name act.Str text w
after_one (Name name) w = push_name act.Name name w
after_one (Attr name) w = push_name act.Attr name w
after_one (Unary op) w = push (act.Unary op) w
after_one (Binary op) w = push (act.Binary op) w
after_one (Call count) w = push (act.Call count) w
after_one (Tuple count) w = push (act.Tuple count) w
after_one (List_of count) w = push (act.List count) w
after_one (Dict count) w = push (act.Dict count) w
after_one (Slice count) w = push (act.Slice count) w
after_one (Comp count) w = push (act.Comp count) w
after_one (Other count) w = push (act.Other count) w
after_one (Bind name) w = push_name act.Bind name w
after_one (BindAttr name) w = push_name act.BindAttr name w
after_one (Done count) w = push (act.Done count) w
after_one For w = push act.For w
after_one Multiply w = push act.Multiply w
after_one Clause_of w = push act.Clause w
after_one Elif w = note act.Elif w
after_one (Caught name) w = note_name act.Caught name w
after_one (CaughtOf name) w = note_name act.CaughtOf name w
after_one CaughtEnd w = note act.CaughtEnd w
after_one (Catch name) w = note_name act.Catch name w

abbrev pub after : Items → Walk → Walk
after [] w = w
after (i ∷ is) w = after is (after_one i w)
