-- The numbers of nodes: each node is numbered by the count of the nodes before it.
use Rattle.std.specs.Prelude.{ℕ, ◌+◌, Bool, true, false, if◌then◌else◌, List, [], ◌∷◌, ◌++◌}
use Rattle.names_rules.specs.Order.{Item, Items, Str, Name, Attr, Bind, BindAttr, Elif, Caught, CaughtOf, CaughtEnd, Catch}

-- the test of an `elif`, and what stands in the head of a clause, are no nodes of their own
abbrev pub is_node : Item → Bool
is_node Elif = false
is_node (Caught name) = false
is_node (CaughtOf name) = false
is_node CaughtEnd = false
is_node (Catch name) = false
is_node item = true

-- the number of what comes after an item
abbrev pub next : Item → ℕ → ℕ
next i n = if is_node i then n + 1 else n

abbrev pub count_one : Item → ℕ
count_one i = if is_node i then 1 else 0

-- how many nodes there are
abbrev pub nodes : Items → ℕ
nodes [] = 0
nodes (i ∷ is) = count_one i + nodes is

-- the name that an item says, and all of them in order
abbrev pub said_by : Item → List (List ℕ)
said_by (Str text) = text ∷ []
said_by (Name name) = name ∷ []
said_by (Attr name) = name ∷ []
said_by (Bind name) = name ∷ []
said_by (BindAttr name) = name ∷ []
said_by (Caught name) = name ∷ []
said_by (CaughtOf name) = name ∷ []
said_by (Catch name) = name ∷ []
said_by item = []

abbrev pub said : Items → List (List ℕ)
said [] = []
said (i ∷ is) = said_by i ++ said is
