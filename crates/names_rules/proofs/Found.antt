-- What the code finds has the sites of the rules.
use Rattle.std.proofs.Common.{◌≡◌, ℕ, List, [], ◌∷◌, ◌++◌, ap, ◌∙◌, refl}
use Rattle.rpy_tree.specs.declared.syntax.Expr.{Expr}
use Rattle.rpy_tree.specs.declared.syntax.Stmt.{Stmt}
use Rattle.names_bound.specs.declared.scopes.Scopes.{Scopes}
use Rattle.names_found.specs.Finder.{find_event, find_events}
use Rattle.names_found.specs.declared.finder.Finder.{Finder}
use Rattle.names_found.specs.declared.finder.Place.{Place}
use Rattle.names_rules.specs.Order as order
use Rattle.names_rules.specs.Order.{Item, Items, Int, Str, Name, Attr, Unary, Binary, Call, Tuple, List_of, Dict, Slice, Comp, Other, Bind, BindAttr, Done, For, Multiply, Clause_of, Elif, Caught, CaughtOf, CaughtEnd, Catch}
use Rattle.names_rules.specs.Numbering.{next}
use Rattle.names_rules.specs.Events.{Names, act_of, events}
use Rattle.names_rules.specs.Seen.{Sight, see_item, name_part, bound_part, attr_part}
use Rattle.names_rules.specs.Sites as rule
use Rattle.names_rules.proofs.Runs.{run}
use Rattle.names_rules.proofs.Sites.{expr_seen}
use Rattle.names_rules.proofs.StmtSites.{block_seen}

abbrev view : Finder → ℕ → Sight
view w n = record { next = n; parts = w.parts; sites = w.sites }

module _ (names : Names) (scopes : Scopes) (locals : List ℕ) (at : Place) where
  abbrev one : Item → Sight → Sight
  one = see_item names scopes locals at

  abbrev event_found : Item → ℕ → Finder → Finder
  event_found i n w = find_event scopes locals at (record { node = n; act = act_of names i }) w

  one_found : (i : Item) (n : ℕ) (w : Finder) → view (event_found i n w) (next i n) ≡ one i (view w n)
  one_found (Int v) n w = refl
  one_found (Str text) n w = refl
  one_found (Name name) n w = refl
  one_found (Attr name) n w = refl
  one_found (Unary op) n w = refl
  one_found (Binary op) n w = refl
  one_found (Call count) n w = refl
  one_found (Tuple count) n w = refl
  one_found (List_of count) n w = refl
  one_found (Dict count) n w = refl
  one_found (Slice count) n w = refl
  one_found (Comp count) n w = refl
  one_found (Other count) n w = refl
  one_found (Bind name) n w = refl
  one_found (BindAttr name) n w = refl
  one_found (Done count) n w = refl
  one_found For n w = refl
  one_found Multiply n w = refl
  one_found Clause_of n w = refl
  one_found Elif n w = refl
  one_found (Caught name) n w = refl
  one_found (CaughtOf name) n w = refl
  one_found CaughtEnd n w = refl
  one_found (Catch name) n w = refl

  items_found : (is : Items) (n : ℕ) (w : Finder) → (find_events scopes locals at (events names n is) w).sites ≡ (run Sight one is (view w n)).sites
  items_found [] n w = refl
  items_found (i ∷ is) n w = items_found is (next i n) (event_found i n w) ∙ ap (λ s. (run Sight one is s).sites) (one_found i n w)

  pub expr_found : (e : Expr) (n : ℕ) (w : Finder) → (find_events scopes locals at (events names n (order.expr e)) w).sites ≡ w.sites ++ (rule.expr (name_part names scopes locals at) (bound_part names scopes locals at) (attr_part names scopes locals at) e).sites n
  expr_found e n w = items_found (order.expr e) n w ∙ ap (λ s. s.sites) (expr_seen names scopes locals at e (view w n))

  pub block_found : (body : List Stmt) (n : ℕ) (w : Finder) → (find_events scopes locals at (events names n (order.block body)) w).sites ≡ w.sites ++ (rule.block (name_part names scopes locals at) (bound_part names scopes locals at) (attr_part names scopes locals at) body).sites n
  block_found body n w = items_found (order.block body) n w ∙ ap (λ s. s.sites) (block_seen names scopes locals at body (view w n))
