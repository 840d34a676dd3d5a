-- What the tables of a program hold.
use Rattle.std.specs.Prelude.{ℕ, suc, ◌+◌, ◌-◌, ◌==◌, nat_lt, List, [], ◌∷◌, ◌++◌, length, replicate, slice_get, slice_set, Option, Some, None, is_some, unwrap_or, if◌then◌else◌, codes}
use Rattle.std.specs.Str.{bytes_eq}
use Rattle.indexmap.specs.IndexSet.{insert_key}
use Rattle.rpy_tree.specs.declared.program.ClassInfo.{ClassInfo}
use Rattle.rpy_tree.specs.declared.program.ClauseInfo.{ClauseInfo}
use Rattle.rpy_tree.specs.declared.program.Site.{Site}

abbrev pub Table : Type 0
Table = List (Option ℕ)

-- a table with a place for the node
abbrev pub grown : ℕ → Table → Table
grown n table = table ++ replicate (n + 1 - length table) None

abbrev pub put : ℕ → ℕ → Table → Table
put n number table = slice_set (grown n table) n (Some number)

abbrev pub at_node : Table → ℕ → Option ℕ
at_node table n = unwrap_or (slice_get table n) None

abbrev pub put_first : ℕ → ℕ → Table → Table
put_first n number table = if is_some (at_node table n) then table else put n number table

abbrev pub larger : ℕ → ℕ → ℕ
larger a b = if nat_lt a b then b else a

abbrev pub put_largest : ℕ → ℕ → Table → Table
put_largest n number table = put n (larger (unwrap_or (at_node table n) 0) number) table

-- site 0 is the list of arguments
abbrev pub put_site : Site → ℕ → Table → Table
put_site s number table = if nat_lt 0 number then put_first s.node number table else table

abbrev pub put_walk : Site → ℕ → Table → Table
put_walk s number table = if nat_lt 0 number then put_largest s.node number table else table

-- those from a number on
abbrev pub put_sites : ℕ → List Site → Table → Table
put_sites number [] table = table
put_sites number (s ∷ sites) table = put_sites (number + 1) sites (put_site s number table)

abbrev pub put_walks : ℕ → List Site → Table → Table
put_walks number [] table = table
put_walks number (s ∷ sites) table = put_walks (number + 1) sites (put_walk s number table)

abbrev pub put_clauses : ℕ → List ClauseInfo → Table → Table
put_clauses place [] table = table
put_clauses place (c ∷ clauses) table = put_clauses (place + 1) clauses (put_first c.node place table)

-- ---- names

abbrev pub with_name : List (List ℕ) → List ℕ → List (List ℕ)
with_name names name = insert_key bytes_eq names name

unfoldable pub known_methods : List ℕ
known_methods =
    codes "join split find startswith endswith strip isdigit isalpha isspace append insert extend reverse pop get keys iterkeys values itervalues items iteritems "

-- each word ends at a space
abbrev pub words_onto : List ℕ → List ℕ → List (List ℕ) → List (List ℕ)
words_onto [] word names = names
words_onto (b ∷ bytes) word names = if b == 32 then words_onto bytes [] (with_name names word) else words_onto bytes (word ++ b ∷ []) names

abbrev pub methods_onto : List (List ℕ × ℕ) → List (List ℕ) → List (List ℕ)
methods_onto [] names = names
methods_onto (m ∷ methods) names = methods_onto methods (with_name names m.0)

abbrev pub classes_onto : List ClassInfo → List (List ℕ) → List (List ℕ)
classes_onto [] names = names
classes_onto (c ∷ classes) names = classes_onto classes (methods_onto c.methods names)
