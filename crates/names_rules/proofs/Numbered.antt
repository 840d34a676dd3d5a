-- A walk over items numbers the nodes by the count of those before, and names by the table.
use Rattle.std.proofs.Common.{◌≡◌, ℕ, ◌+◌, List, [], ◌∷◌, ◌++◌, append_assoc, append-nil, sym, ap, ◌∙◌, refl, arith}
use Rattle.std.specs.Prelude.{Bool, true, false, cond}
use Rattle.rpy_nodes.specs.declared.event.Act.{Act}
use Rattle.rpy_nodes.specs.declared.event.Act.TheVariants as act
use Rattle.rpy_nodes.specs.declared.event.Event.{Event}
use Rattle.rpy_nodes.specs.declared.walk.Walk.{Walk}
use Rattle.names_rules.specs.Order.{Item, Items, Int, Str, Name, Attr, Unary, Binary, Call, Tuple, List_of, Dict, Slice, Comp, Other, Bind, BindAttr, Done, For, Multiply, Clause_of, Elif, Caught, CaughtOf, CaughtEnd, Catch}
use Rattle.names_rules.specs.Numbering.{is_node, next, count_one, nodes, said_by, said}
use Rattle.names_rules.specs.Events.{Names, act_of, events, see, over}
use Rattle.names_rules.specs.Walked.{after_one, after}
use Rattle.names_rules.proofs.Names.{number_stays, see_append}

abbrev One : Item → Names → Walk → Type 0
One i later w = after_one i w ≡ record { names = see (said_by i) w.names; next = next i w.next; events = w.events ++ record { node = w.next; act = act_of (see later (see (said_by i) w.names)) i } ∷ [] }

abbrev with_act : Names → ℕ → (ℕ → Act) → List ℕ → Walk → ℕ → Walk
with_act later up say name w n = record { names = see (name ∷ []) w.names; next = up; events = w.events ++ record { node = w.next; act = say n } ∷ [] }

named : (say : ℕ → Act) (name : List ℕ) (later : Names) (w : Walk) (up : ℕ) → with_act later up say name w (Rattle.rpy_nodes.specs.Names.number w.names name) ≡ with_act later up say name w (Rattle.rpy_nodes.specs.Names.number (see later (see (name ∷ []) w.names)) name)
named say name later w up = ap (with_act later up say name w) (sym (number_stays w.names name later))

one : (i : Item) (later : Names) (w : Walk) → One i later w
one (Int v) later w = refl
one (Str text) later w = named act.Str text later w (w.next + 1)
one (Name name) later w = named act.Name name later w (w.next + 1)
one (Attr name) later w = named act.Attr name later w (w.next + 1)
one (Unary op) later w = refl
one (Binary op) later w = refl
one (Call count) later w = refl
one (Tuple count) later w = refl
one (List_of count) later w = refl
one (Dict count) later w = refl
one (Slice count) later w = refl
one (Comp count) later w = refl
one (Other count) later w = refl
one (Bind name) later w = named act.Bind name later w (w.next + 1)
one (BindAttr name) later w = named act.BindAttr name later w (w.next + 1)
one (Done count) later w = refl
one For later w = refl
one Multiply later w = refl
one Clause_of later w = refl
one Elif later w = refl
one (Caught name) later w = named act.Caught name later w w.next
one (CaughtOf name) later w = named act.CaughtOf name later w w.next
one CaughtEnd later w = refl
one (Catch name) later w = named act.Catch name later w w.next

by_node : (b : Bool) (n : ℕ) → cond b (n + 1) n ≡ n + cond b 1 0
by_node true n = refl
by_node false n = omega arith

next_adds : (i : Item) (n : ℕ) → next i n ≡ n + count_one i
next_adds i n = by_node (is_node i) n

nothing_added : (n : ℕ) → n ≡ n + 0
nothing_added n = omega arith

all_added : (n up one rest : ℕ) → up ≡ n + one → up + rest ≡ n + (one + rest)
all_added n up one rest e = omega arith

module _ (i : Item) (is : Items) (later : Names) (w : Walk) where
  abbrev here : Names
  here = see (said_by i) w.names

  abbrev event : Names → Event
  event names = record { node = w.next; act = act_of names i }

  table : see later (see (said is) here) ≡ see later (see (said (i ∷ is)) w.names)
  table = ap (see later) (sym (see_append (said_by i) (said is) w.names))

  both : (w.events ++ event (see (said is ++ later) here) ∷ []) ++ events (see later (see (said is) here)) (next i w.next) is ≡ w.events ++ events (see later (see (said (i ∷ is)) w.names)) w.next (i ∷ is)
  both = append_assoc w.events (event (see (said is ++ later) here) ∷ []) (events (see later (see (said is) here)) (next i w.next) is)
      ∙ (λ j. w.events ++ (event ((see_append (said is) later here ∙ table) j) ∷ events (table j) (next i w.next) is))

  joined : over is later (record { names = here; next = next i w.next; events = w.events ++ event (see (said is ++ later) here) ∷ [] }) ≡ over (i ∷ is) later w
  joined = λ j. record {
    names = sym (see_append (said_by i) (said is) w.names) j;
    next = all_added w.next (next i w.next) (count_one i) (nodes is) (next_adds i w.next) j;
    events = both j;
  }

pub over_items : (is : Items) (later : Names) (w : Walk) → after is w ≡ over is later w
over_items [] later w = λ j. record { names = w.names; next = nothing_added w.next j; events = sym (append-nil w.events) j }
over_items (i ∷ is) later w = ap (after is) (one i (said is ++ later) w) ∙ over_items is later _ ∙ joined i is later w
