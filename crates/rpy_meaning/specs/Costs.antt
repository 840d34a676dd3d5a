-- What the events of a run cost. A cost is paid before what it is for, and what fails or throws pays nothing. Other operations cost
-- nothing.
use Rattle.std.specs.Prelude.{ℕ, ◌+◌, ◌*◌}

-- the entry of a function, method or `__init__`; a turn of a loop, once the test is true or an item is there, before it is bound; an
-- instance of a class that is not builtin, before its constants are set
abbrev pub entry_cost : ℕ
entry_cost = 1

abbrev pub turn_cost : ℕ
turn_cost = 1

abbrev pub instance_cost : ℕ
instance_cost = 1

abbrev pub tuple_cost : ℕ
tuple_cost = 1

-- a list display, a list `+`, `*` or slice, with so many items
abbrev pub list_cost : ℕ → ℕ
list_cost k = 1 + k

-- a comprehension, before its subject is evaluated, and each item that it adds, once the item is evaluated
abbrev pub comprehension_cost : ℕ
comprehension_cost = 1

abbrev pub item_cost : ℕ
item_cost = 1

-- `append` and `insert`; `extend` and `+=` by so many items
abbrev pub append_cost : ℕ
append_cost = 1

abbrev pub extend_cost : ℕ → ℕ
extend_cost k = k

-- a dict display, before its first key, and each key that is not there when it is stored
abbrev pub dict_cost : ℕ
dict_cost = 1

abbrev pub key_cost : ℕ
key_cost = 1

-- a string `+`, `*` or slice, `join`, `strip`, and `str` of a word, with so many bytes
abbrev pub text_cost : ℕ → ℕ
text_cost k = 1 + k

-- `split` into k parts of n bytes together
abbrev pub split_cost : ℕ → ℕ → ℕ
split_cost k n = 1 + 2 * k + n

-- `keys()`, `values()` and a walk over a dict of k pairs; `items()`, which makes k tuples
abbrev pub keys_cost : ℕ → ℕ
keys_cost k = 1 + k

abbrev pub items_cost : ℕ → ℕ
items_cost k = 1 + 2 * k
