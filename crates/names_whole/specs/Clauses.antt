-- The clauses of the functions of a program, each with the classes in its head and the local that it binds.
use Rattle.std.specs.Prelude.{ℕ, List, [], ◌∷◌, ◌++◌, position, Option, None}
use Rattle.std.specs.Str.{bytes_eq}
use Rattle.rpy_tree.specs.declared.program.ClauseInfo.{ClauseInfo}
use Rattle.rpy_nodes.specs.declared.listing.Named.{Named}
use Rattle.names_bound.specs.declared.stand.Stand.{Stand}
use Rattle.names_bound.specs.declared.stand.Stand.TheVariants as stand
use Rattle.names_rules.specs.Bindings.{Binding}
use Rattle.names_rules.specs.Locals.{locals}
use Rattle.names_rules.specs.Members.{What, Def, Placed, members}
use Rattle.names_rules.specs.Numbering.{next}
use Rattle.names_rules.specs.Order.{Item, Items, CaughtEnd, Catch, Clause_of, block}
use Rattle.names_rules.specs.Program.{module_bindings, body_bindings, bases}
use Rattle.names_rules.specs.Used.{stand_after}
use Rattle.names_value.specs.Machine.{narrow}
use Rattle.names_whole.specs.Functions.{as_number}

-- the clauses so far, and what the head of the next one has named and bound
pub record Heads : Type 0 where
  pub clauses : List ClauseInfo
  pub classes : List ℕ
  pub local : Option ℕ

abbrev pub no_heads : Heads
no_heads = record { clauses = []; classes = []; local = None }

abbrev pub class_of : Stand → List ℕ
class_of (stand.Class class) = narrow class ∷ []
class_of other = []

-- where these are bound by modules and by the bodies of classes, and these are the bases of the classes
module _ (bs cs : List Binding) (bases : List (Option ℕ)) where
  -- where a name of a class ends it is one of the head; what is bound is a local; at the node the clause has what its head says
  module _ (file : ℕ) (own : List (List ℕ)) where
    abbrev pub head_at : ℕ → Stand → Item → Heads → Heads
    head_at n before CaughtEnd h = record { clauses = h.clauses; classes = h.classes ++ class_of before; local = h.local }
    head_at n before (Catch name) h = record { clauses = h.clauses; classes = h.classes; local = as_number (position (bytes_eq name) own) }
    head_at n before Clause_of h = record { clauses = h.clauses ++ record { node = n; classes = h.classes; local = h.local } ∷ []; classes = []; local = None }
    head_at n before i h = h

    abbrev pub heads_from : Stand → ℕ → Items → Heads → Heads
    heads_from before n [] h = h
    heads_from before n (i ∷ is) h = heads_from (stand_after bs cs bases file own before i) (next i n) is (head_at n before i h)

  abbrev pub what_heads : ℕ → What → Heads → Heads
  what_heads file (Def name ps star b) h = heads_from file (locals ps b.of) stand.Nothing b.first (block b.of) h
  what_heads file other h = h

  abbrev pub members_heads : List Placed → Heads → Heads
  members_heads [] h = h
  members_heads (p ∷ ps) h = members_heads ps (what_heads p.file p.what h)

-- in the order of the bodies, and in each in that of the text
abbrev pub clauses : List Named → List ClauseInfo
clauses ms = (members_heads (module_bindings ms) (body_bindings ms) (bases ms) (members ms) no_heads).clauses
