-- The code, item by item: its parts, its slots, and what it keeps. A node takes its parts and waits for what takes it.
use Rattle.std.proofs.Common.{◌≡◌, ℕ, ◌+◌, ◌-◌, ◌*◌, zero, suc, List, [], ◌∷◌, ◌++◌, append_assoc, append-nil, length, map, Bool, true, false, cond, Option, Some, None, sym, ap, ◌∙◌, refl, arith}
use Rattle.std.specs.Prelude.{slice_get, nat_eq}
use Rattle.std.proofs.lemmas.Grind.{common_steps}
use Rattle.rpy_tree.specs.declared.program.Builtin.TheVariants as builtin
use Rattle.rpy_tree.specs.declared.program.Const.{Const}
use Rattle.rpy_tree.specs.declared.program.Const.TheVariants as const
use Rattle.rpy_tree.specs.declared.syntax.BinOp.{BinOp}
use Rattle.rpy_tree.specs.declared.syntax.UnOp.{UnOp}
use Rattle.rpy_tree.specs.declared.syntax.Expr.{Expr, map-Expr}
use Rattle.rpy_tree.specs.declared.syntax.Expr.TheFolds.{map-Target}
use Rattle.rpy_tree.specs.declared.syntax.Expr.TheOpen.{Expr-F, Target-F}
use Rattle.rpy_tree.specs.declared.syntax.Target.{Target}
use Rattle.rpy_nodes.specs.declared.event.Act.{Act}
use Rattle.rpy_nodes.specs.declared.event.Act.TheVariants as act
use Rattle.names_bound.specs.declared.stand.Stand.{Stand}
use Rattle.names_bound.specs.declared.stand.Stand.TheVariants as stand
use Rattle.names_found.specs.Finder.{add_part, add_sites, site_count, call_seen, called_by}
use Rattle.names_found.specs.Part as parts
use Rattle.names_found.specs.Part.{part_under, no_part, is_dict, is_part, taken, taken_besides}
use Rattle.names_found.specs.declared.part.Part.{Part}
use Rattle.names_found.specs.declared.step.Called.{Called}
use Rattle.names_found.specs.declared.step.Called.TheVariants as called
use Rattle.names_found.specs.declared.step.SiteAt.{SiteAt}
use Rattle.names_rules.specs.Order as order
use Rattle.names_rules.specs.Order.{Item}
use Rattle.names_rules.specs.Numbering.{next}
use Rattle.names_rules.specs.Events.{Names, act_of}
use Rattle.names_rules.specs.Parts.{both, expr_parts, target_parts, expr_item, target_item}
use Rattle.names_rules.specs.Sites as rule
use Rattle.names_rules.proofs.Fusion.{expr_fuses, target_fuses}
use Rattle.names_rules.proofs.Runs.{expr_parts_mapped, target_parts_mapped, expr_item_mapped, target_item_mapped, run, run_all, expr_moves, target_moves, run_expr, run_target}
use Rattle.names_rules.proofs.Sites.{call_sites, operator_sites}
use Rattle.names_rules.proofs.Stack as stack
use Rattle.names_value.specs.Machine.{unary_value, binary_value, tuple_of, list_contents, dict_contents}
use Rattle.names_value.specs.Slots.{last_slot, without_last, without, take_slots, values_of}
use Rattle.names_value.specs.declared.machine.Prebuilt.{Prebuilt}
use Rattle.names_value.specs.declared.slots.Slot.{Slot}
use Rattle.names_value.proofs.Lasts.{last_is}
use Rattle.names_constants.specs.Value.{Piece, Kept, Argument, of_called, values, listed, stored, made_as, made_at, named, value, made, sites, arguments, at_node}
use Rattle.names_constants.specs.Visit as visit
use Rattle.names_constants.proofs.Slots.{slot, slots, last_in, dropped, drops, without_sum, back, takes, values_are, items_are, IsPaired, pairs_back, paired_length}

pub record Sight : Type 0 where
  pub parts : List Part
  pub slots : List Slot
  pub kept : Kept

-- ---- arguments that the code sees

abbrev pub argument_of : Bool → Option Slot → List Argument
argument_of step None = []
argument_of step (Some s) = record { step = step; node = s.node; value = s.value } ∷ []

-- of arguments that were taken last one first
abbrev pub called_arguments : Called → List Slot → List Argument
called_arguments called.Range args = argument_of true (slice_get args 0)
called_arguments called.Write args = argument_of false (slice_get args (length args - 1))
called_arguments other args = []

abbrev pub push_slot : ℕ → Option Const → List Slot → List Slot
push_slot n v ss = ss ++ record { node = n; value = v } ∷ []

over_none : (n : ℕ) → nat_eq (suc n) 0 ≡ false
over_none n = grind (arith, common_steps)

over_three : (n : ℕ) → nat_eq (suc (suc (suc (suc n)))) 3 ≡ false
over_three n = grind (arith, common_steps)

parts_from_zero : (a : ℕ) → a ≡ 0 + a
parts_from_zero a = omega arith

parts_suc_out : (b a : ℕ) → suc (b + a) ≡ suc b + a
parts_suc_out b a = omega arith

parts_sum : (b a : ℕ) (zs : List Part) → parts.without a (parts.without b zs) ≡ parts.without (b + a) zs
parts_sum zero a zs = ap (λ k. parts.without k zs) (parts_from_zero a)
parts_sum (suc b) a zs = parts_sum b a (parts.without_last zs) ∙ ap (λ k. parts.without k zs) (parts_suc_out b a)

module _ (names : Names) (np bp : List ℕ → Part) (dotted : Part → List ℕ → Part) (whole : Bool) (constants : List (Option Const)) where
  abbrev pub part_at : Item → List Part → Part
  part_at (order.Name name) ps = np name
  part_at (order.Attr name) ps = dotted (part_under ps 0) name
  part_at (order.Bind name) ps = bp name
  part_at i ps = no_part

  abbrev pub called_at : Item → List Part → Called
  called_at (order.Call count) ps = (call_seen (part_under ps count) count).called
  called_at i ps = called.Plain

  abbrev pub reads : Part → Option Const
  reads p = named np bp dotted whole constants p

  abbrev pub other_slots : ℕ → Act → List Slot → List Slot
  other_slots n a ss = cond (is_part a) (push_slot n None (without (taken_besides a) (without (taken a) ss))) (without (taken_besides a) (without (taken a) ss))

  abbrev pub slots_at : Item → ℕ → ℕ → Part → List Slot → List Slot
  slots_at (order.Int v) n site p ss = push_slot n (Some (const.Word v)) ss
  slots_at (order.Str text) n site p ss = push_slot n (cond whole (Some (const.Str text)) None) ss
  slots_at (order.Name name) n site p ss = push_slot n (reads p) ss
  slots_at (order.Attr name) n site p ss = push_slot n (reads p) (without 1 ss)
  slots_at (order.Unary op) n site p ss = push_slot n (unary_value op (last_slot ss).value) (without_last ss)
  slots_at (order.Binary op) n site p ss = push_slot n (binary_value op (last_slot (without_last ss)).value (last_slot ss).value) (without_last (without_last ss))
  slots_at (order.Tuple count) n site p ss = cond whole (push_slot n (tuple_of (values_of (take_slots count ss).0)) (take_slots count ss).1) (other_slots n (act.Tuple count) ss)
  slots_at (order.List_of count) n site p ss = cond whole (push_slot n (made_as (const.List (Rattle.names_value.specs.Machine.narrow site)) (list_contents (take_slots count ss).0)) (take_slots count ss).1) (other_slots n (act.List count) ss)
  slots_at (order.Dict count) n site p ss = cond whole (push_slot n (made_as (const.Dict (Rattle.names_value.specs.Machine.narrow site)) (dict_contents (take_slots (count * 2) ss).0 count)) (take_slots (count * 2) ss).1) (other_slots n (act.Dict count) ss)
  slots_at (order.Call count) n site p ss = push_slot n None (without 1 (take_slots count ss).1)
  slots_at i n site p ss = other_slots n (act_of names i) ss

  abbrev pub made_by : Item → ℕ → List Slot → List Prebuilt
  made_by (order.List_of count) site ss = cond whole (made_at site (list_contents (take_slots count ss).0)) []
  made_by (order.Dict count) site ss = cond whole (made_at site (dict_contents (take_slots (count * 2) ss).0 count)) []
  made_by i site ss = []

  abbrev pub arguments_by : Item → Called → List Slot → List Argument
  arguments_by (order.Call count) c ss = called_arguments c (take_slots count ss).0
  arguments_by i c ss = []

  abbrev pub one : Item → Sight → Sight
  one i s = record {
    parts = add_part (act_of names i) (part_at i s.parts) s.parts;
    slots = slots_at i s.kept.node (length s.kept.sites) (part_at i s.parts) s.slots;
    kept = record {
      node = next i s.kept.node;
      sites = add_sites (site_count (act_of names i) (called_at i s.parts)) (record { node = s.kept.node; dict = is_dict (act_of names i) }) s.kept.sites;
      made = s.kept.made ++ made_by i (length s.kept.sites) s.slots;
      arguments = s.kept.arguments ++ arguments_by i (called_at i s.parts) s.slots;
    };
  }

  abbrev pub at : Item → List Piece → Kept → Piece × Kept
  at = at_node np bp dotted whole constants

  abbrev pub parts_of : List Piece → List Part
  parts_of ps = map (λ p. p.part) ps

  -- ---- parts and slots that are taken

  one_more : (n m : ℕ) → n ≡ m → suc n ≡ suc m
  one_more n m e = ap suc e

  as_parts : (ps : List Piece) → length ps ≡ length (parts_of ps)
  as_parts [] = refl
  as_parts (p ∷ ps) = one_more (length ps) (length (parts_of ps)) (as_parts ps)

  as_slots : (ps : List Piece) → length ps ≡ length (slots ps)
  as_slots [] = refl
  as_slots (p ∷ ps) = one_more (length ps) (length (slots ps)) (as_slots ps)

  pub no_parts_left : (Ps : List Part) (ps : List Piece) (count : ℕ) → count ≡ length ps → parts.without count (Ps ++ parts_of ps) ≡ Ps
  no_parts_left Ps ps count e = ap (λ k. parts.without k (Ps ++ parts_of ps)) (e ∙ as_parts ps) ∙ stack.drops (parts_of ps) Ps

  pub no_slots_left : (Qs : List Slot) (ps : List Piece) (count : ℕ) → count ≡ length ps → without count (Qs ++ slots ps) ≡ Qs
  no_slots_left Qs ps count e = ap (λ k. without k (Qs ++ slots ps)) (e ∙ as_slots ps) ∙ drops (slots ps) Qs

  some_parts : (Ps : List Part) (ps : List Piece) (q : Part) (count : ℕ) → count ≡ length ps → parts.without count (Ps ++ parts_of ps) ++ q ∷ [] ≡ Ps ++ q ∷ []
  some_parts Ps ps q count e = ap (λ zs. zs ++ q ∷ []) (no_parts_left Ps ps count e)

  some_slots : (Qs : List Slot) (ps : List Piece) (n : ℕ) (v : Option Const) (count : ℕ) → count ≡ length ps → push_slot n v (without count (Qs ++ slots ps)) ≡ push_slot n v Qs
  some_slots Qs ps n v count e = ap (push_slot n v) (no_slots_left Qs ps count e)

  taken_slots : (Qs : List Slot) (ps : List Piece) (count : ℕ) → count ≡ length ps → take_slots count (Qs ++ slots ps) ≡ (back (slots ps), Qs)
  taken_slots Qs ps count e = takes (slots ps) Qs count (e ∙ as_slots ps)

  tuple_slots : (w : Bool) (Qs : List Slot) (ps : List Piece) (n count : ℕ) → count ≡ length ps
      → cond w (push_slot n (tuple_of (values_of (take_slots count (Qs ++ slots ps)).0)) (take_slots count (Qs ++ slots ps)).1) (other_slots n (act.Tuple count) (Qs ++ slots ps)) ≡ push_slot n (cond w (tuple_of (values ps)) None) Qs
  tuple_slots true Qs ps n count e = ap (λ r. push_slot n (tuple_of (values_of r.0)) r.1) (taken_slots Qs ps count e) ∙ ap (λ v. push_slot n (tuple_of v) Qs) (values_are ps)
  tuple_slots false Qs ps n count e = some_slots Qs ps n None count e

  list_slots : (w : Bool) (c : Const) (Qs : List Slot) (ps : List Piece) (n count : ℕ) → count ≡ length ps
      → cond w (push_slot n (made_as c (list_contents (take_slots count (Qs ++ slots ps)).0)) (take_slots count (Qs ++ slots ps)).1) (other_slots n (act.List count) (Qs ++ slots ps)) ≡ push_slot n (cond w (made_as c (listed (values ps))) None) Qs
  list_slots true c Qs ps n count e = ap (λ r. push_slot n (made_as c (list_contents r.0)) r.1) (taken_slots Qs ps count e) ∙ ap (λ v. push_slot n (made_as c v) Qs) (items_are ps)
  list_slots false c Qs ps n count e = some_slots Qs ps n None count e

  list_made : (w : Bool) (site : ℕ) (Qs : List Slot) (ps : List Piece) (count : ℕ) → count ≡ length ps → cond w (made_at site (list_contents (take_slots count (Qs ++ slots ps)).0)) [] ≡ cond w (made_at site (listed (values ps))) []
  list_made true site Qs ps count e = ap (λ r. made_at site (list_contents r.0)) (taken_slots Qs ps count e) ∙ ap (made_at site) (items_are ps)
  list_made false site Qs ps count e = refl

  double : (n m : ℕ) → m ≡ n * 2 → n + n ≡ m
  double n m e = omega (arith, e)

  dict_slots : (w : Bool) (c : Const) (Qs : List Slot) (ps : List Piece) (n count : ℕ) → IsPaired count ps
      → cond w (push_slot n (made_as c (dict_contents (take_slots (count * 2) (Qs ++ slots ps)).0 count)) (take_slots (count * 2) (Qs ++ slots ps)).1) (other_slots n (act.Dict count) (Qs ++ slots ps)) ≡ push_slot n (cond w (made_as c (stored (Some []) ps)) None) Qs
  dict_slots true c Qs ps n count h = ap (λ r. push_slot n (made_as c (dict_contents r.0 count)) r.1) (taken_slots Qs ps (count * 2) (sym (paired_length count ps h))) ∙ ap (λ v. push_slot n (made_as c v) Qs) (pairs_back count ps (Some []) h)
  dict_slots false c Qs ps n count h = ap (push_slot n None) (without_sum count count (Qs ++ slots ps)) ∙ some_slots Qs ps n None (count + count) (double count (length ps) (paired_length count ps h))

  dict_parts : (Ps : List Part) (ps : List Piece) (q : Part) (count : ℕ) → IsPaired count ps → parts.without count (parts.without count (Ps ++ parts_of ps)) ++ q ∷ [] ≡ Ps ++ q ∷ []
  dict_parts Ps ps q count h = ap (λ zs. zs ++ q ∷ []) (parts_sum count count (Ps ++ parts_of ps)) ∙ some_parts Ps ps q (count + count) (double count (length ps) (paired_length count ps h))

  dict_made : (w : Bool) (site : ℕ) (Qs : List Slot) (ps : List Piece) (count : ℕ) → IsPaired count ps → cond w (made_at site (dict_contents (take_slots (count * 2) (Qs ++ slots ps)).0 count)) [] ≡ cond w (made_at site (stored (Some []) ps)) []
  dict_made true site Qs ps count h = ap (λ r. made_at site (dict_contents r.0 count)) (taken_slots Qs ps (count * 2) (sym (paired_length count ps h))) ∙ ap (made_at site) (pairs_back count ps (Some []) h)
  dict_made false site Qs ps count h = refl

  unary_slots : (Qs : List Slot) (a : Piece) (n : ℕ) (op : UnOp) → push_slot n (unary_value op (last_slot (Qs ++ slot a ∷ [])).value) (without_last (Qs ++ slot a ∷ [])) ≡ push_slot n (unary_value op a.value) Qs
  unary_slots Qs a n op = λ j. push_slot n (unary_value op (last_in Qs (slot a) j).value) (dropped Qs (slot a) j)

  binary_slots : (Qs : List Slot) (a b : Piece) (n : ℕ) (op : BinOp) → push_slot n (binary_value op (last_slot (without_last (Qs ++ slot a ∷ slot b ∷ []))).value (last_slot (Qs ++ slot a ∷ slot b ∷ [])).value) (without_last (without_last (Qs ++ slot a ∷ slot b ∷ []))) ≡ push_slot n (binary_value op a.value b.value) Qs
  binary_slots Qs a b n op = ap (λ zs. push_slot n (binary_value op (last_slot (without_last zs)).value (last_slot zs).value) (without_last (without_last zs))) (sym (append_assoc Qs (slot a ∷ []) (slot b ∷ [])))
      ∙ (λ j. push_slot n (binary_value op (last_slot (dropped (Qs ++ slot a ∷ []) (slot b) j)).value (last_in (Qs ++ slot a ∷ []) (slot b) j).value) (without_last (dropped (Qs ++ slot a ∷ []) (slot b) j)))
      ∙ (λ j. push_slot n (binary_value op (last_in Qs (slot a) j).value b.value) (dropped Qs (slot a) j))

  -- ---- calls

  called_slots : (Qs : List Slot) (f : Piece) (ps : List Piece) (count : ℕ) → count ≡ length ps → take_slots count (Qs ++ (slot f ∷ slots ps)) ≡ (back (slots ps), Qs ++ slot f ∷ [])
  called_slots Qs f ps count e = ap (take_slots count) (sym (append_assoc Qs (slot f ∷ []) (slots ps))) ∙ taken_slots (Qs ++ slot f ∷ []) ps count e

  call_slots : (Qs : List Slot) (f : Piece) (ps : List Piece) (n count : ℕ) → count ≡ length ps → push_slot n None (without 1 (take_slots count (Qs ++ (slot f ∷ slots ps))).1) ≡ push_slot n None Qs
  call_slots Qs f ps n count e = ap (λ r. push_slot n None (without 1 r.1)) (called_slots Qs f ps count e) ∙ ap (push_slot n None) (drops (slot f ∷ []) Qs)

  callee : (Ps : List Part) (f : Part) (ps : List Piece) (count : ℕ) → count ≡ length ps → part_under (Ps ++ (f ∷ parts_of ps)) count ≡ f
  callee Ps f ps count e = ap (part_under (Ps ++ (f ∷ parts_of ps))) (e ∙ as_parts ps) ∙ stack.under Ps (parts_of ps) f

  call_parts : (Ps : List Part) (f : Part) (ps : List Piece) (q : Part) (count : ℕ) → count ≡ length ps → parts.without 1 (parts.without count (Ps ++ (f ∷ parts_of ps))) ++ q ∷ [] ≡ Ps ++ q ∷ []
  call_parts Ps f ps q count e = ap (λ zs. parts.without 1 (parts.without count zs) ++ q ∷ []) (sym (append_assoc Ps (f ∷ []) (parts_of ps)))
      ∙ ap (λ zs. parts.without 1 zs ++ q ∷ []) (no_parts_left (Ps ++ f ∷ []) ps count e)
      ∙ ap (λ zs. zs ++ q ∷ []) (stack.drops (f ∷ []) Ps)

  arguments_are : (s : Stand) (makes : Bool) (ps : List Piece) → called_arguments (called_by s makes (length ps)).called (back (slots ps)) ≡ of_called s ps
  arguments_are (stand.Builtin builtin.Range) makes [] = refl
  arguments_are (stand.Builtin builtin.Range) makes (a ∷ []) = refl
  arguments_are (stand.Builtin builtin.Range) makes (a ∷ b ∷ []) = refl
  arguments_are (stand.Builtin builtin.Range) makes (a ∷ b ∷ c ∷ []) = refl
  arguments_are (stand.Builtin builtin.Range) makes (a ∷ b ∷ c ∷ d ∷ ps) = ap (λ t. called_arguments (cond t called.Range called.Plain) (back (slots (a ∷ b ∷ c ∷ d ∷ ps)))) (over_three (length ps))
  arguments_are (stand.Builtin builtin.Xrange) makes [] = refl
  arguments_are (stand.Builtin builtin.Xrange) makes (a ∷ []) = refl
  arguments_are (stand.Builtin builtin.Xrange) makes (a ∷ b ∷ []) = refl
  arguments_are (stand.Builtin builtin.Xrange) makes (a ∷ b ∷ c ∷ []) = refl
  arguments_are (stand.Builtin builtin.Xrange) makes (a ∷ b ∷ c ∷ d ∷ ps) = ap (λ t. called_arguments (cond t called.Range called.Plain) (back (slots (a ∷ b ∷ c ∷ d ∷ ps)))) (over_three (length ps))
  arguments_are (stand.Builtin builtin.OsWrite) makes [] = refl
  arguments_are (stand.Builtin builtin.OsWrite) makes (a ∷ ps) = ap (λ b. called_arguments (cond b called.Plain called.Write) (back (slots (a ∷ ps)))) (over_none (length ps)) ∙ ap (argument_of false) (last_is (back (slots ps)) (slot a))
  arguments_are (stand.Builtin other) makes ps = refl
  arguments_are other true ps = refl
  arguments_are other false ps = refl

  call_arguments : (Qs : List Slot) (f : Piece) (ps : List Piece) (count : ℕ) → count ≡ length ps → called_arguments (call_seen f.part count).called (take_slots count (Qs ++ (slot f ∷ slots ps))).0 ≡ of_called f.part.stand ps
  call_arguments Qs f ps count e = ap (λ r. called_arguments (call_seen f.part count).called r.0) (called_slots Qs f ps count e)
      ∙ ap (λ k. called_arguments (call_seen f.part k).called (back (slots ps))) e
      ∙ arguments_are f.part.stand f.part.makes ps

  -- ---- a node after its parts

  abbrev pub Visit : Type 0
  Visit = Kept → Piece × Kept

  abbrev pub visited : List Visit → Kept → List Piece × Kept
  visited vs k = visit.parts Piece Kept at vs k

  pub visited_length : (vs : List Visit) (k : Kept) → length vs ≡ length (visited vs k).0
  visited_length [] k = refl
  visited_length (v ∷ vs) k = one_more (length vs) (length (visited vs (v k).1).0) (visited_length vs (v k).1)

  visited_pairs : (vs : List (Visit × Visit)) (k : Kept) → IsPaired (length vs) (visited (both vs) k).0
  visited_pairs [] k = tt
  visited_pairs (p ∷ vs) k = visited_pairs vs (p.1 (p.0 k).1).1

  abbrev pub push : Visit → Sight → Sight
  push v s = record { parts = s.parts ++ (v s.kept).0.part ∷ []; slots = s.slots ++ slot (v s.kept).0 ∷ []; kept = (v s.kept).1 }

  abbrev pub pushed : List Visit → Sight → Sight
  pushed vs s = record { parts = s.parts ++ parts_of (visited vs s.kept).0; slots = s.slots ++ slots (visited vs s.kept).0; kept = (visited vs s.kept).1 }

  pub run_pushed : (vs : List Visit) (s : Sight) → run_all Sight one (map push vs) s ≡ pushed vs s
  run_pushed [] s = λ j. record { parts = sym (append-nil s.parts) j; slots = sym (append-nil s.slots) j; kept = s.kept }
  run_pushed (v ∷ vs) s = run_pushed vs (push v s) ∙ (λ j. record {
    parts = append_assoc s.parts ((v s.kept).0.part ∷ []) (parts_of (visited vs (v s.kept).1).0) j;
    slots = append_assoc s.slots (slot (v s.kept).0 ∷ []) (slots (visited vs (v s.kept).1).0) j;
    kept = (visited vs (v s.kept).1).1;
  })

  abbrev sites_by : Item → Called → Kept → List SiteAt
  sites_by i c k = add_sites (site_count (act_of names i) c) (record { node = k.node; dict = is_dict (act_of names i) }) k.sites

  close : (i : Item) (ps : List Piece) (Ps : List Part) (Qs : List Slot) (k : Kept)
      → add_part (act_of names i) (part_at i (Ps ++ parts_of ps)) (Ps ++ parts_of ps) ≡ Ps ++ (at i ps k).0.part ∷ []
      → slots_at i k.node (length k.sites) (part_at i (Ps ++ parts_of ps)) (Qs ++ slots ps) ≡ Qs ++ slot (at i ps k).0 ∷ []
      → sites_by i (called_at i (Ps ++ parts_of ps)) k ≡ k.sites ++ sites np bp dotted whole constants i k.node ps
      → made_by i (length k.sites) (Qs ++ slots ps) ≡ made np bp dotted whole constants i (length k.sites) ps
      → arguments_by i (called_at i (Ps ++ parts_of ps)) (Qs ++ slots ps) ≡ arguments np bp dotted whole constants i ps
      → one i (record { parts = Ps ++ parts_of ps; slots = Qs ++ slots ps; kept = k }) ≡ record { parts = Ps ++ (at i ps k).0.part ∷ []; slots = Qs ++ slot (at i ps k).0 ∷ []; kept = (at i ps k).1 }
  close i ps Ps Qs k p q s m a = λ j. record {
    parts = p j;
    slots = q j;
    kept = record { node = next i k.node; sites = s j; made = k.made ++ m j; arguments = k.arguments ++ a j };
  }

  no_sites : (ss : List SiteAt) → ss ≡ ss ++ []
  no_sites ss = sym (append-nil ss)

  abbrev ExprCloses : Expr-F Visit Visit → Sight → Type 0
  ExprCloses x s = one (expr_item x) (pushed (expr_parts x) s) ≡ push (visit.in_expr Piece Kept at x) s

  -- one with so many parts and no more
  plain : (count : ℕ) (vs : List Visit) (s : Sight) → count ≡ length (visited vs s.kept).0 → one (order.Other count) (pushed vs s) ≡ push (λ k. at (order.Other count) (visited vs k).0 (visited vs k).1) s
  plain count vs s e = close (order.Other count) (visited vs s.kept).0 s.parts s.slots (visited vs s.kept).1 (some_parts s.parts (visited vs s.kept).0 no_part count e) (some_slots s.slots (visited vs s.kept).0 _ None count e) (no_sites _) refl refl

  slice : (count : ℕ) (vs : List Visit) (s : Sight) → count ≡ length (visited vs s.kept).0 → one (order.Slice count) (pushed vs s) ≡ push (λ k. at (order.Slice count) (visited vs k).0 (visited vs k).1) s
  slice count vs s e = close (order.Slice count) (visited vs s.kept).0 s.parts s.slots (visited vs s.kept).1 (some_parts s.parts (visited vs s.kept).0 no_part count e) (some_slots s.slots (visited vs s.kept).0 _ None count e) refl refl refl

  comp : (count : ℕ) (vs : List Visit) (s : Sight) → count ≡ length (visited vs s.kept).0 → one (order.Comp count) (pushed vs s) ≡ push (λ k. at (order.Comp count) (visited vs k).0 (visited vs k).1) s
  comp count vs s e = close (order.Comp count) (visited vs s.kept).0 s.parts s.slots (visited vs s.kept).1 (some_parts s.parts (visited vs s.kept).0 no_part count e) (some_slots s.slots (visited vs s.kept).0 _ None count e) (append_assoc _ (rule.list_at _ ∷ []) (rule.list_at _ ∷ [])) refl refl

  attr : (name : List ℕ) (a : Visit) (s : Sight) → one (order.Attr name) (pushed (a ∷ []) s) ≡ push (λ k. at (order.Attr name) (visited (a ∷ []) k).0 (visited (a ∷ []) k).1) s
  attr name a s =
      let p : Piece = (a s.kept).0 in
      let top : part_under (s.parts ++ p.part ∷ []) 0 ≡ p.part = stack.under s.parts [] p.part in
      close (order.Attr name) (p ∷ []) s.parts s.slots (a s.kept).1
      (ap (λ b. parts.without 1 (s.parts ++ p.part ∷ []) ++ dotted b name ∷ []) top ∙ some_parts s.parts (p ∷ []) (dotted p.part name) 1 refl)
      (ap (λ b. push_slot (a s.kept).1.node (reads (dotted b name)) (without 1 (s.slots ++ slot p ∷ []))) top ∙ some_slots s.slots (p ∷ []) (a s.kept).1.node (reads (dotted p.part name)) 1 refl)
      (no_sites _) refl refl

  call : (f : Visit) (args : List Visit) (s : Sight) → one (order.Call (length args)) (pushed (f ∷ args) s) ≡ push (λ k. at (order.Call (length args)) (visited (f ∷ args) k).0 (visited (f ∷ args) k).1) s
  call f args s =
      let p : Piece = (f s.kept).0 in
      let ps : List Piece = (visited args (f s.kept).1).0 in
      let k : Kept = (visited args (f s.kept).1).1 in
      let same : length args ≡ length ps = visited_length args (f s.kept).1 in
      let below : part_under (s.parts ++ (p.part ∷ parts_of ps)) (length args) ≡ p.part = callee s.parts p.part ps (length args) same in
      close (order.Call (length args)) (p ∷ ps) s.parts s.slots k
      (call_parts s.parts p.part ps no_part (length args) same)
      (call_slots s.slots p ps k.node (length args) same)
      (ap (λ c. add_sites (site_count (act.Call (length args)) (call_seen c (length args)).called) (rule.list_at k.node) k.sites) below ∙ call_sites p.part.stand p.part.makes (length args) k.node k.sites)
      refl
      (ap (λ c. called_arguments (call_seen c (length args)).called (take_slots (length args) (s.slots ++ (slot p ∷ slots ps))).0) below ∙ call_arguments s.slots p ps (length args) same)

  expr_closes : (x : Expr-F Visit Visit) (s : Sight) → ExprCloses x s
  expr_closes (Expr-F.Int n v) s = close (order.Int v) [] s.parts s.slots s.kept (some_parts s.parts [] no_part 0 refl) (some_slots s.slots [] s.kept.node _ 0 refl) (no_sites _) refl refl
  expr_closes (Expr-F.Str n text) s = close (order.Str text) [] s.parts s.slots s.kept (some_parts s.parts [] no_part 0 refl) (some_slots s.slots [] s.kept.node _ 0 refl) (no_sites _) refl refl
  expr_closes (Expr-F.Expr::Name n name) s = close (order.Name name) [] s.parts s.slots s.kept (some_parts s.parts [] (np name) 0 refl) (some_slots s.slots [] s.kept.node _ 0 refl) (no_sites _) refl refl
  expr_closes (Expr-F.Unary n op a) s = close (order.Unary op) (visited (a ∷ []) s.kept).0 s.parts s.slots (visited (a ∷ []) s.kept).1 (some_parts s.parts (visited (a ∷ []) s.kept).0 no_part 1 refl) (unary_slots s.slots (a s.kept).0 (a s.kept).1.node op) (no_sites _) refl refl
  expr_closes (Expr-F.Binary n op a b) s = close (order.Binary op) (visited (a ∷ b ∷ []) s.kept).0 s.parts s.slots (visited (a ∷ b ∷ []) s.kept).1 (some_parts s.parts (visited (a ∷ b ∷ []) s.kept).0 no_part 2 refl) (binary_slots s.slots (a s.kept).0 (b (a s.kept).1).0 (b (a s.kept).1).1.node op) (operator_sites op _ _) refl refl
  expr_closes (Expr-F.Compare n op a b) s = plain 2 (a ∷ b ∷ []) s refl
  expr_closes (Expr-F.Logic n is_and a b) s = plain 2 (a ∷ b ∷ []) s refl
  expr_closes (Expr-F.Not n a) s = plain 1 (a ∷ []) s refl
  expr_closes (Expr-F.Call n f args) s = call f args s
  expr_closes (Expr-F.Expr::Attr n a name) s = attr name a s
  expr_closes (Expr-F.Index n a i) s = plain 2 (a ∷ i ∷ []) s refl
  expr_closes (Expr-F.Slice n a None None) s = slice 1 (a ∷ []) s refl
  expr_closes (Expr-F.Slice n a None (Some to)) s = slice 2 (a ∷ to ∷ []) s refl
  expr_closes (Expr-F.Slice n a (Some from) None) s = slice 2 (a ∷ from ∷ []) s refl
  expr_closes (Expr-F.Slice n a (Some from) (Some to)) s = slice 3 (a ∷ from ∷ to ∷ []) s refl
  expr_closes (Expr-F.Expr::Tuple n items) s = close (order.Tuple (length items)) (visited items s.kept).0 s.parts s.slots (visited items s.kept).1 (some_parts s.parts (visited items s.kept).0 no_part (length items) (visited_length items s.kept)) (tuple_slots whole s.slots (visited items s.kept).0 _ (length items) (visited_length items s.kept)) (no_sites _) refl refl
  expr_closes (Expr-F.List n items) s = close (order.List_of (length items)) (visited items s.kept).0 s.parts s.slots (visited items s.kept).1 (some_parts s.parts (visited items s.kept).0 no_part (length items) (visited_length items s.kept)) (list_slots whole _ s.slots (visited items s.kept).0 _ (length items) (visited_length items s.kept)) refl (list_made whole _ s.slots (visited items s.kept).0 (length items) (visited_length items s.kept)) refl
  expr_closes (Expr-F.Dict n pairs) s = close (order.Dict (length pairs)) (visited (both pairs) s.kept).0 s.parts s.slots (visited (both pairs) s.kept).1 (dict_parts s.parts (visited (both pairs) s.kept).0 no_part (length pairs) (visited_pairs pairs s.kept)) (dict_slots whole _ s.slots (visited (both pairs) s.kept).0 _ (length pairs) (visited_pairs pairs s.kept)) refl (dict_made whole _ s.slots (visited (both pairs) s.kept).0 (length pairs) (visited_pairs pairs s.kept)) refl
  expr_closes (Expr-F.Comp n item target over None) s = comp 3 (item ∷ target ∷ over ∷ []) s refl
  expr_closes (Expr-F.Comp n item target over (Some test)) s = comp 4 (item ∷ target ∷ over ∷ test ∷ []) s refl

  abbrev TargetCloses : Target-F Visit Visit → Sight → Type 0
  TargetCloses x s = one (target_item x) (pushed (target_parts x) s) ≡ push (visit.in_target Piece Kept at x) s

  target_closes : (x : Target-F Visit Visit) (s : Sight) → TargetCloses x s
  target_closes (Target-F.Target::Name n name) s = close (order.Bind name) [] s.parts s.slots s.kept (some_parts s.parts [] (bp name) 0 refl) (some_slots s.slots [] s.kept.node _ 0 refl) (no_sites _) refl refl
  target_closes (Target-F.Target::Attr n a name) s = close (order.BindAttr name) (visited (a ∷ []) s.kept).0 s.parts s.slots (visited (a ∷ []) s.kept).1 (some_parts s.parts (visited (a ∷ []) s.kept).0 no_part 1 refl) (some_slots s.slots (visited (a ∷ []) s.kept).0 _ None 1 refl) (no_sites _) refl refl
  target_closes (Target-F.Item n a i) s = plain 2 (a ∷ i ∷ []) s refl
  target_closes (Target-F.Target::Tuple n ts) s = plain (length ts) ts s (visited_length ts s.kept)

  abbrev pub Move : Type 0
  Move = Sight → Sight

  expr_layer : (x : Expr-F Visit Visit) (s : Sight) → push (visit.in_expr Piece Kept at x) s ≡ expr_moves Sight one (map-Expr Visit Visit Move Move push push x) s
  expr_layer x s = sym (expr_closes x s)
      ∙ ap (one (expr_item x)) (sym (run_pushed (expr_parts x) s) ∙ ap (λ ps. run_all Sight one ps s) (sym (expr_parts_mapped push x)))
      ∙ ap (λ i. one i (run_all Sight one (expr_parts (map-Expr Visit Visit Move Move push push x)) s)) (sym (expr_item_mapped push x))

  target_layer : (x : Target-F Visit Visit) (s : Sight) → push (visit.in_target Piece Kept at x) s ≡ target_moves Sight one (map-Target Visit Visit Move Move push push x) s
  target_layer x s = sym (target_closes x s)
      ∙ ap (one (target_item x)) (sym (run_pushed (target_parts x) s) ∙ ap (λ ps. run_all Sight one ps s) (sym (target_parts_mapped push x)))
      ∙ ap (λ i. one i (run_all Sight one (target_parts (map-Target Visit Visit Move Move push push x)) s)) (sym (target_item_mapped push x))

  expr_path : (e : Expr) → push (visit.expr Piece Kept at e) ≡ run Sight one (order.expr e)
  expr_path e = expr_fuses Visit Visit Move Move push push (visit.in_expr Piece Kept at) (visit.in_target Piece Kept at) (expr_moves Sight one) (target_moves Sight one) (λ x i s. expr_layer x s i) (λ x i s. target_layer x s i) e ∙ sym (run_expr Sight one e)

  target_path : (t : Target) → push (visit.target Piece Kept at t) ≡ run Sight one (order.target t)
  target_path t = target_fuses Visit Visit Move Move push push (visit.in_expr Piece Kept at) (visit.in_target Piece Kept at) (expr_moves Sight one) (target_moves Sight one) (λ x i s. expr_layer x s i) (λ x i s. target_layer x s i) t ∙ sym (run_target Sight one t)

  -- the items of an expression, one by one, give what the visit of it gives
  pub expr_seen : (e : Expr) (s : Sight) → run Sight one (order.expr e) s ≡ push (visit.expr Piece Kept at e) s
  expr_seen e s = sym (ap (λ f. f s) (expr_path e))

  pub target_seen : (t : Target) (s : Sight) → run Sight one (order.target t) s ≡ push (visit.target Piece Kept at t) s
  target_seen t s = sym (ap (λ f. f s) (target_path t))
