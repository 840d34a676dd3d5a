-- The machine over the steps of an expression does what is done item by item.
use Rattle.std.proofs.Common.{◌≡◌, ℕ, ◌+◌, ◌*◌, arith, length-append, List, [], ◌∷◌, ◌++◌, append_assoc, append-nil, length, Bool, true, false, cond, not, Option, Some, None, sym, ap, ◌∙◌, refl}
use Rattle.std.specs.Prelude.{slice_get, ◌-◌}
use Rattle.std.specs.List.{AllByRecursion}
use Rattle.rpy_tree.specs.declared.program.Const.{Const}
use Rattle.rpy_tree.specs.declared.program.Const.TheVariants as const
use Rattle.rpy_nodes.specs.Names.{number}
use Rattle.rpy_nodes.specs.declared.event.Act.TheVariants as act
use Rattle.names_bound.specs.Fault.{lesser, fault_if}
use Rattle.names_bound.specs.Scopes.{global, is_late}
use Rattle.names_bound.specs.declared.fault.FaultKind.TheVariants as fault
use Rattle.names_bound.specs.declared.scopes.Scopes.{Scopes}
use Rattle.names_bound.specs.declared.stand.Stand.{Stand}
use Rattle.names_found.specs.Finder as old
use Rattle.names_found.specs.Part.{part_under, is_dict}
use Rattle.names_found.specs.declared.finder.Finder.{Finder}
use Rattle.names_found.specs.declared.finder.Place.{Place}
use Rattle.names_found.specs.declared.part.Part.{Part}
use Rattle.names_found.specs.declared.step.Called.{Called}
use Rattle.names_found.specs.declared.step.Called.TheVariants as called
use Rattle.names_found.specs.declared.step.Step.{Step}
use Rattle.names_rules.specs.Events.{Names, act_of, events}
use Rattle.names_rules.specs.Least.{least, faults_if}
use Rattle.names_rules.specs.Locals.{Has}
use Rattle.names_rules.specs.Numbering.{said, said_by}
use Rattle.names_rules.specs.Order.{Item, Items, Int, Str, Name, Attr, Unary, Binary, Call, Tuple, List_of, Dict, Slice, Comp, Other, Bind, BindAttr, Done, For, Multiply, Clause_of, Elif, Caught, CaughtOf, CaughtEnd, Catch}
use Rattle.names_rules.proofs.Least.{least_both}
use Rattle.names_rules.proofs.Locals.{all_first, all_rest}
use Rattle.names_rules.proofs.Runs.{run}
use Rattle.names_value.specs.Machine as machine
use Rattle.names_value.specs.Machine.{Pairs, root_of, call_root, call_fault, step_root, with_root, name_value, word_in, list_contents, dict_contents, build, narrow, is_step, is_one}
use Rattle.names_value.specs.Constants.{last_node, node_in}
use Rattle.names_value.specs.Slots.{take_slots, without, without_last, last_slot}
use Rattle.names_value.specs.declared.machine.Machine.{Machine}
use Rattle.names_value.specs.declared.machine.Prebuilt.{Prebuilt}
use Rattle.names_value.specs.declared.machine.Root.{Root}
use Rattle.names_value.specs.declared.slots.Slot.{Slot}
use Rattle.names_constants.specs.Value.{Argument, argument_faults, argument_roots, one_root, is_allowed, made_as, made_at}
use Rattle.names_constants.proofs.Ends.{Pushes, IsEnd}
use Rattle.names_constants.proofs.Slots.{last_in}
use Rattle.names_constants.proofs.Sight as sight
use Rattle.names_constants.proofs.Sight.{Sight, called_arguments, argument_of, push_slot}

-- ---- arguments and their faults

pub faults_append : (xs ys : List Argument) → argument_faults (xs ++ ys) ≡ argument_faults xs ++ argument_faults ys
faults_append [] ys = refl
faults_append (a ∷ xs) ys = ap (λ fs. faults_if (not (is_allowed a)) a.node fault.BadConstant ++ fs) (faults_append xs ys) ∙ sym (append_assoc (faults_if (not (is_allowed a)) a.node fault.BadConstant) (argument_faults xs) (argument_faults ys))

pub roots_append : (xs ys : List Argument) → argument_roots (xs ++ ys) ≡ argument_roots xs ++ argument_roots ys
roots_append [] ys = refl
roots_append (a ∷ xs) ys = ap (λ rs. cond a.step (one_root (root_of a.node a.value)) [] ++ rs) (roots_append xs ys) ∙ sym (append_assoc (cond a.step (one_root (root_of a.node a.value)) []) (argument_roots xs) (argument_roots ys))

with_one : (o : Option Root) (rs : List Root) → with_root o rs ≡ rs ++ (one_root o ++ [])
with_one None rs = sym (append-nil rs)
with_one (Some r) rs = refl

step_roots : (o : Option Slot) (rs : List Root) → with_root (step_root o) rs ≡ rs ++ argument_roots (argument_of true o)
step_roots None rs = sym (append-nil rs)
step_roots (Some s) rs = with_one (root_of s.node s.value) rs

write_roots : (o : Option Slot) (rs : List Root) → rs ≡ rs ++ argument_roots (argument_of false o)
write_roots None rs = sym (append-nil rs)
write_roots (Some s) rs = sym (append-nil rs)

call_roots : (c : Called) (args : List Slot) (rs : List Root) → with_root (call_root c args) rs ≡ rs ++ argument_roots (called_arguments c args)
call_roots called.Range args rs = step_roots (slice_get args 0) rs
call_roots called.Write args rs = write_roots (slice_get args (length args - 1)) rs
call_roots called.Plain args rs = sym (append-nil rs)
call_roots called.Makes args rs = sym (append-nil rs)

one_fault : (b : Bool) (n : ℕ) → fault_if b n fault.BadConstant ≡ least (faults_if b n fault.BadConstant ++ [])
one_fault true n = refl
one_fault false n = refl

step_faults : (o : Option Slot) → machine.step_fault o ≡ least (argument_faults (argument_of true o))
step_faults None = refl
step_faults (Some s) = one_fault (not (is_step s.value)) s.node

write_faults : (o : Option Slot) → machine.write_fault o ≡ least (argument_faults (argument_of false o))
write_faults None = refl
write_faults (Some s) = one_fault (not (is_one s.value)) s.node

call_faults : (c : Called) (args : List Slot) → call_fault c args ≡ least (argument_faults (called_arguments c args))
call_faults called.Range args = step_faults (slice_get args 0)
call_faults called.Write args = write_faults (slice_get args (length args - 1))
call_faults called.Plain args = refl
call_faults called.Makes args = refl

name_called : (o : Option ℕ) (s : Stand) (late : Bool) → (old.local_or o s late).called ≡ called.Plain
name_called None s late = refl
name_called (Some local) s late = refl

bind_called : (o : Option ℕ) → (old.bind_seen o).called ≡ called.Plain
bind_called None = refl
bind_called (Some local) = refl

run_end : (names : Names) (V : List (Option Const)) (xs : List Step) (s : Step) (m : Machine) → machine.run names V (xs ++ s ∷ []) m ≡ machine.step names V s (machine.run names V xs m)
run_end names V [] s m = refl
run_end names V (x ∷ xs) s m = run_end names V xs s (machine.step names V x m)

words_end : (V : List (Option Const)) (xs : List Step) (s : Step) (m : Machine) → machine.run_words V (xs ++ s ∷ []) m ≡ machine.word_step V s (machine.run_words V xs m)
words_end V [] s m = refl
words_end V (x ∷ xs) s m = words_end V xs s (machine.word_step V x m)

-- the machine with this before what is made, and these roots before its own
module _ (first : List Prebuilt) (roots : List Root) where
  abbrev pub machine_by : List Slot → List Prebuilt → List Argument → Machine
  machine_by ss made arguments = record { slots = ss; prebuilt = first ++ made; roots = roots ++ argument_roots arguments; fault = least (argument_faults arguments) }

  abbrev pub machine_of : Sight → Machine
  machine_of s = machine_by s.slots s.kept.made s.kept.arguments

  -- nothing is made and no argument is seen
  quiet : (ss : List Slot) (made : List Prebuilt) (arguments : List Argument) → machine_by ss made arguments ≡ machine_by ss (made ++ []) (arguments ++ [])
  quiet ss made arguments = λ j. machine_by ss (sym (append-nil made) j) (sym (append-nil arguments) j)

  built : (n site : ℕ) (c : Const) (o : Option Pairs) (ss : List Slot) (made : List Prebuilt) (arguments : List Argument) → build n site c o (machine_by ss made arguments) ≡ machine_by (push_slot n (made_as c o) ss) (made ++ made_at site o) (arguments ++ [])
  built n site c None ss made arguments = quiet (push_slot n None ss) made arguments
  built n site c (Some pairs) ss made arguments = λ j. record {
    slots = push_slot n (Some c) ss;
    prebuilt = append_assoc first made (record { site = site; pairs = pairs } ∷ []) j;
    roots = roots ++ argument_roots (sym (append-nil arguments) j);
    fault = least (argument_faults (sym (append-nil arguments) j));
  }

  called_machine : (n : ℕ) (c : Called) (taken : List Slot × List Slot) (ss : List Slot) (made : List Prebuilt) (arguments : List Argument)
      → machine.call_with n c taken (machine_by ss made arguments) ≡ machine_by (push_slot n None (without 1 taken.1)) (made ++ []) (arguments ++ called_arguments c taken.0)
  called_machine n c taken ss made arguments = λ j. record {
    slots = push_slot n None (without 1 taken.1);
    prebuilt = first ++ sym (append-nil made) j;
    roots = root_path j;
    fault = fault_path j;
  } where
    root_path : with_root (call_root c taken.0) (roots ++ argument_roots arguments) ≡ roots ++ argument_roots (arguments ++ called_arguments c taken.0)
    root_path = call_roots c taken.0 (roots ++ argument_roots arguments) ∙ append_assoc roots (argument_roots arguments) (argument_roots (called_arguments c taken.0)) ∙ ap (λ rs. roots ++ rs) (sym (roots_append arguments (called_arguments c taken.0)))

    fault_path : lesser (least (argument_faults arguments)) (call_fault c taken.0) ≡ least (argument_faults (arguments ++ called_arguments c taken.0))
    fault_path = ap (lesser (least (argument_faults arguments))) (call_faults c taken.0) ∙ sym (least_both (argument_faults arguments) (argument_faults (called_arguments c taken.0))) ∙ ap least (sym (faults_append arguments (called_arguments c taken.0)))

  module _ (names : Names) (np bp : List ℕ → Part) (dotted : Part → List ℕ → Part) (V : List (Option Const)) (scopes : Scopes) (ls : List ℕ) (at : Place)
      (name_is : (name : List ℕ) → Has names name → (old.name_seen scopes ls at (number names name)).part ≡ np name)
      (bind_is : (name : List ℕ) → Has names name → (old.bind_seen (old.local_in ls at (number names name))).part ≡ bp name)
      (attr_is : (p : Part) (name : List ℕ) → Has names name → (old.attr_seen scopes at p (number names name)).part ≡ dotted p name)
      (text_is : (text : List ℕ) → Has names text → slice_get names (number names text) ≡ Some text) where
    -- what the code sees of an item
    abbrev seen : Stand → List Part → Item → Rattle.names_found.specs.declared.finder.Seen.Seen
    seen caught parts i = old.act_seen scopes ls at parts caught (act_of names i)

    abbrev step_at : Stand → Item → ℕ → ℕ → List Part → Step
    step_at caught i n site parts = old.step_of (record { node = n; act = act_of names i }) (seen caught parts i) site

    module _ (whole : Bool) where
      abbrev one : Item → Sight → Sight
      one = sight.one names np bp dotted whole V

      parts_same : (caught : Stand) (i : Item) (s : Sight) → AllByRecursion (Has names) (said_by i) → old.add_part (act_of names i) (seen caught s.parts i).part s.parts ≡ (one i s).parts
      parts_same caught (Name name) s has = ap (λ p. old.add_part (act.Name (number names name)) p s.parts) (name_is name has.0)
      parts_same caught (Attr name) s has = ap (λ p. old.add_part (act.Attr (number names name)) p s.parts) (attr_is (part_under s.parts 0) name has.0)
      parts_same caught (Bind name) s has = ap (λ p. old.add_part (act.Bind (number names name)) p s.parts) (bind_is name has.0)
      parts_same caught (Call count) s has = ap (λ p. old.add_part (act.Call count) p s.parts) (call_part (part_under s.parts count).stand (part_under s.parts count).makes count) where
        call_part : (x : Stand) (makes : Bool) (count : ℕ) → (old.called_by x makes count).part ≡ Rattle.names_found.specs.Part.no_part
        call_part (Rattle.names_bound.specs.declared.stand.Stand.TheVariants.Builtin b) makes count = refl
        call_part other true count = refl
        call_part other false count = refl
      parts_same caught i s has = refl

      sites_same : (caught : Stand) (i : Item) (s : Sight) → old.add_sites (old.site_count (act_of names i) (seen caught s.parts i).called) (record { node = s.kept.node; dict = is_dict (act_of names i) }) s.kept.sites ≡ (one i s).kept.sites
      sites_same caught (Name name) s = ap (λ c. old.add_sites (old.site_count (act.Name (number names name)) c) (record { node = s.kept.node; dict = false }) s.kept.sites) (name_called (old.local_in ls at (number names name)) (global scopes at.file (number names name)) (is_late scopes at.file at.place (number names name)))
      sites_same caught (Bind name) s = ap (λ c. old.add_sites (old.site_count (act.Bind (number names name)) c) (record { node = s.kept.node; dict = false }) s.kept.sites) (bind_called (old.local_in ls at (number names name)))
      sites_same caught (Catch name) s = ap (λ c. old.add_sites (old.site_count (act.Catch (number names name)) c) (record { node = s.kept.node; dict = false }) s.kept.sites) (bind_called (old.local_in ls at (number names name)))
      sites_same caught i s = refl

    abbrev after : Item → ℕ → Finder → Finder
    after i n w = old.find_event scopes ls at (record { node = n; act = act_of names i }) w

    abbrev caught_after : Item → Finder → Stand
    caught_after i w = old.act_caught scopes ls at w.caught (act_of names i)

    -- ---- whole expressions

    abbrev whole_one : Item → Sight → Sight
    whole_one = sight.one names np bp dotted true V

    still : (i : Item) (ss : List Slot) (s : Sight) → machine_by ss s.kept.made s.kept.arguments ≡ machine_by ss (s.kept.made ++ []) (s.kept.arguments ++ [])
    still i ss s = quiet ss s.kept.made s.kept.arguments

    whole_step : (caught : Stand) (i : Item) (s : Sight) → AllByRecursion (Has names) (said_by i) → machine.step names V (step_at caught i s.kept.node (length s.kept.sites) s.parts) (machine_of s) ≡ machine_of (whole_one i s)
    whole_step caught (Str text) s has = ap (λ o. machine.push s.kept.node (machine.text_of o) (machine_of s)) (text_is text has.0) ∙ still (Str text) (push_slot s.kept.node (Some (const.Str text)) s.slots) s
    whole_step caught (Name name) s has = ap (λ p. machine.push s.kept.node (name_value V p.stand p.late) (machine_of s)) (name_is name has.0) ∙ still (Name name) _ s
    whole_step caught (Attr name) s has = ap (λ p. machine.attr s.kept.node (name_value V p.stand p.late) (machine_of s)) (attr_is (part_under s.parts 0) name has.0) ∙ still (Attr name) _ s
    whole_step caught (List_of count) s has = built s.kept.node (length s.kept.sites) (const.List (narrow (length s.kept.sites))) (list_contents (take_slots count s.slots).0) (take_slots count s.slots).1 s.kept.made s.kept.arguments
    whole_step caught (Dict count) s has = built s.kept.node (length s.kept.sites) (const.Dict (narrow (length s.kept.sites))) (dict_contents (take_slots (count * 2) s.slots).0 count) (take_slots (count * 2) s.slots).1 s.kept.made s.kept.arguments
    whole_step caught (Call count) s has = called_machine s.kept.node (old.call_seen (part_under s.parts count) count).called (take_slots count s.slots) s.slots s.kept.made s.kept.arguments
    whole_step caught i s has = still i _ s

    -- the code after items, whatever stood before
    pub whole_items : (is : Items) (w : Finder) (m : Machine) (s : Sight) → AllByRecursion (Has names) (said is) → w.parts ≡ s.parts → w.sites ≡ s.kept.sites → machine.run names V w.steps m ≡ machine_of s
        → ((old.find_events scopes ls at (events names s.kept.node is) w).sites ≡ (run Sight whole_one is s).kept.sites) × (machine.run names V (old.find_events scopes ls at (events names s.kept.node is) w).steps m ≡ machine_of (run Sight whole_one is s))
    whole_items [] w m s has p q r = (q, r)
    whole_items (i ∷ is) w m s has p q r =
        let here : AllByRecursion (Has names) (said_by i) = all_first (Has names) (said_by i) (said is) has in
        whole_items is (after i s.kept.node w) m (whole_one i s) (all_rest (Has names) (said_by i) (said is) has)
        (ap (λ ps. old.add_part (act_of names i) (seen (caught_after i w) ps i).part ps) p ∙ parts_same true (caught_after i w) i s here)
        ((λ j. old.add_sites (old.site_count (act_of names i) (seen (caught_after i w) (p j) i).called) (record { node = s.kept.node; dict = is_dict (act_of names i) }) (q j)) ∙ sites_same true (caught_after i w) i s)
        (run_end names V w.steps (step_at (caught_after i w) i s.kept.node (length w.sites) w.parts) m
        ∙ (λ j. machine.step names V (step_at (caught_after i w) i s.kept.node (length (q j)) (p j)) (r j))
        ∙ whole_step (caught_after i w) i s here)

    -- ---- words alone, in bodies

    abbrev word_one : Item → Sight → Sight
    word_one = sight.one names np bp dotted false V

    word_step : (caught : Stand) (i : Item) (s : Sight) → AllByRecursion (Has names) (said_by i) → machine.word_step V (step_at caught i s.kept.node (length s.kept.sites) s.parts) (machine_of s) ≡ machine_of (word_one i s)
    word_step caught (Name name) s has = ap (λ p. machine.push s.kept.node (word_in V p.stand p.late) (machine_of s)) (name_is name has.0) ∙ still (Name name) _ s
    word_step caught (Attr name) s has = ap (λ p. machine.attr s.kept.node (word_in V p.stand p.late) (machine_of s)) (attr_is (part_under s.parts 0) name has.0) ∙ still (Attr name) _ s
    word_step caught (Call count) s has = called_machine s.kept.node (old.call_seen (part_under s.parts count) count).called (take_slots count s.slots) s.slots s.kept.made s.kept.arguments
    word_step caught i s has = still i _ s

    pub word_items : (is : Items) (w : Finder) (m : Machine) (s : Sight) → AllByRecursion (Has names) (said is) → w.parts ≡ s.parts → w.sites ≡ s.kept.sites → machine.run_words V w.steps m ≡ machine_of s
        → ((old.find_events scopes ls at (events names s.kept.node is) w).sites ≡ (run Sight word_one is s).kept.sites) × (machine.run_words V (old.find_events scopes ls at (events names s.kept.node is) w).steps m ≡ machine_of (run Sight word_one is s))
    word_items [] w m s has p q r = (q, r)
    word_items (i ∷ is) w m s has p q r =
        let here : AllByRecursion (Has names) (said_by i) = all_first (Has names) (said_by i) (said is) has in
        word_items is (after i s.kept.node w) m (word_one i s) (all_rest (Has names) (said_by i) (said is) has)
        (ap (λ ps. old.add_part (act_of names i) (seen (caught_after i w) ps i).part ps) p ∙ parts_same false (caught_after i w) i s here)
        ((λ j. old.add_sites (old.site_count (act_of names i) (seen (caught_after i w) (p j) i).called) (record { node = s.kept.node; dict = is_dict (act_of names i) }) (q j)) ∙ sites_same false (caught_after i w) i s)
        (words_end V w.steps (step_at (caught_after i w) i s.kept.node (length w.sites) w.parts) m
        ∙ (λ j. machine.word_step V (step_at (caught_after i w) i s.kept.node (length (q j)) (p j)) (r j))
        ∙ word_step (caught_after i w) i s here)

    -- ---- the last step has the node of what then waits

    last_step : (xs : List Step) (x : Step) → last_node (xs ++ x ∷ []) ≡ x.node
    last_step xs x = ap node_in (step_at_end xs x) where
      at_end : (xs : List Step) (x : Step) → slice_get (xs ++ x ∷ []) (length xs) ≡ Some x
      at_end [] x = refl
      at_end (y ∷ ys) x = at_end ys x

      step_at_end : (xs : List Step) (x : Step) → slice_get (xs ++ x ∷ []) (length (xs ++ x ∷ []) - 1) ≡ Some x
      step_at_end xs x = let e : length (xs ++ x ∷ []) - 1 ≡ length xs = omega (arith, length-append xs (x ∷ [])) in ap (slice_get (xs ++ x ∷ [])) e ∙ at_end xs x

    waits : (i : Item) → Pushes i → (s : Sight) → (last_slot (whole_one i s).slots).node ≡ s.kept.node
    waits (Int v) h s = ap (λ x. x.node) (last_in s.slots _)
    waits (Str text) h s = ap (λ x. x.node) (last_in s.slots _)
    waits (Name name) h s = ap (λ x. x.node) (last_in s.slots _)
    waits (Attr name) h s = ap (λ x. x.node) (last_in (without 1 s.slots) _)
    waits (Unary op) h s = ap (λ x. x.node) (last_in (without_last s.slots) _)
    waits (Binary op) h s = ap (λ x. x.node) (last_in (without_last (without_last s.slots)) _)
    waits (Call count) h s = ap (λ x. x.node) (last_in (without 1 (take_slots count s.slots).1) _)
    waits (Tuple count) h s = ap (λ x. x.node) (last_in (take_slots count s.slots).1 _)
    waits (List_of count) h s = ap (λ x. x.node) (last_in (take_slots count s.slots).1 _)
    waits (Dict count) h s = ap (λ x. x.node) (last_in (take_slots (count * 2) s.slots).1 _)
    waits (Slice count) h s = ap (λ x. x.node) (last_in (without 0 (without count s.slots)) _)
    waits (Comp count) h s = ap (λ x. x.node) (last_in (without 0 (without count s.slots)) _)
    waits (Other count) h s = ap (λ x. x.node) (last_in (without 0 (without count s.slots)) _)
    waits (Bind name) h s = ap (λ x. x.node) (last_in (without 0 (without 0 s.slots)) _)
    waits (BindAttr name) h s = ap (λ x. x.node) (last_in (without 0 (without 1 s.slots)) _)
    waits (Done count) h s = absurd h
    waits For h s = absurd h
    waits Multiply h s = absurd h
    waits Clause_of h s = absurd h
    waits Elif h s = absurd h
    waits (Caught name) h s = absurd h
    waits (CaughtOf name) h s = absurd h
    waits CaughtEnd h s = absurd h
    waits (Catch name) h s = absurd h

    pub last_item : (is : Items) → IsEnd is → (w : Finder) (s : Sight) → last_node (old.find_events scopes ls at (events names s.kept.node is) w).steps ≡ (last_slot (run Sight whole_one is s).slots).node
    last_item [] h w s = absurd h
    last_item (i ∷ []) h w s = last_step w.steps (step_at (caught_after i w) i s.kept.node (length w.sites) w.parts) ∙ sym (waits i h s)
    last_item (i ∷ j ∷ is) h w s = last_item (j ∷ is) h (after i s.kept.node w) (whole_one i s)
