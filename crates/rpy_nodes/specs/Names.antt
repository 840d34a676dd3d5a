-- Names by number, in the order in which they are first seen.
use Rattle.std.specs.Prelude.{ℕ, List}
use Rattle.std.specs.Str.{bytes_eq}
use Rattle.std.specs.List.{position_or_len}
use Rattle.indexmap.specs.IndexSet.{insert_key}

-- the place of a name, which is the next one where the name is new
abbrev pub number : List (List ℕ) → List ℕ → ℕ
number names name = position_or_len (bytes_eq name) names

abbrev pub with_name : List (List ℕ) → List ℕ → List (List ℕ)
with_name names name = insert_key bytes_eq names name
