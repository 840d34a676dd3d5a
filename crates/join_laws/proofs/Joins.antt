-- The graph that joins strings: it pays for each, and the string before it, and then makes the whole.
use Rattle.std.proofs.Common.{◌≡◌, ◌<◌, ◌≤◌, ◌||◌, ℕ, zero, suc, ◌+◌, ◌-◌, ◌^◌, Bool, true, false, List, [], ◌∷◌, ◌++◌, length, map, Option, Some, None, Ok, pos, refl, sym, ap, ◌∙◌, subst, arith, append_assoc, length-append}
use Rattle.std.specs.Prelude.{slice_get, nat_lt, replicate}
use Rattle.std.proofs.lemmas.Bool.Decides.{nat_tests}
use Rattle.std.proofs.lemmas.List.{append-nil}
use Rattle.rpy_base.specs.declared.outcome.Outcome.TheVariants.{Running}
use Rattle.csub_tree.specs.State.{Value, Unset, Word, Byte, Flag, Ptr, Block, Core}
use Rattle.csub_tree.specs.Layout.{shape_at, shape_over}
use Rattle.csub_tree.specs.Operation.{binary_of, is_unset}
use Rattle.csub_tree.specs.Statement.{read}
use Rattle.csub_tree.specs.declared.tree.CBinary.TheVariants.{Gt}
use Rattle.csub_tree.specs.declared.tree.COperand.TheVariants.{Var}
use Rattle.ll_code.specs.State.{Frame, State, Calling, At, Ends}
use Rattle.ll_code.specs.Machine.{shapes_of, step}
use Rattle.ll_code.specs.declared.program.LlOp.{LlOp}
use Rattle.ll_code.specs.declared.program.LlOp.TheVariants as op
use Rattle.ll_code.specs.declared.program.LlExit.{LlExit}
use Rattle.ll_code.specs.declared.program.LlExit.TheVariants as exit
use Rattle.ll_code.specs.declared.program.LlProgram.{LlProgram}
use Rattle.ll_build.specs.Build.{word as word_operand, to, fork}
use Rattle.ll_build.specs.declared.needs.Helper.TheVariants.{StrOfChar}
use Rattle.ll_build.specs.declared.needs.Numbers.{Numbers}
use Rattle.ll_held.specs.Held.{times}
use Rattle.ll_held.specs.Roots.{core_of, roots}
use Rattle.ll_leads.specs.Path.{Leads}
use Rattle.ll_leads.proofs.Ways.{Comes, on, many, enter, gives, pays, lacks, call, rests}
use Rattle.ll_texts.specs.Texts.{IsText, found}
use Rattle.ll_texts.proofs.Numbers.{less_true, less_false, adds}
use Rattle.ll_texts.proofs.Reading.{is_set, gets_length, get_mid}
use Rattle.ll_texts.proofs.Writing.{part_block, text_stays}
use Rattle.rtyper_layout.specs.declared.layout.Layout.{Layout}
use Rattle.rtyper_layout.specs.Layout.{is_list}
use Rattle.rtyper_layout.specs.Types.{word}
use Rattle.rtyper_data.specs.declared.small.Listed.TheVariants.{Copy, Part}
use Rattle.rtyper_data.specs.declared.small.Small.TheVariants as small
use Rattle.rtyper_data.specs.declared.found.Found.{Found}
use Rattle.rtyper_data.specs.Finding.{helper_number, small_number}
use Rattle.list_shape.specs.Shapes.{item_of}
use Rattle.list_texts.specs.Splitting.{join_graph, join_types, join_start, join_asks, counted_block, counted_next, join_between, join_next, join_made, join_more, join_behind_first, join_separated, put_block, join_short}
use Rattle.list_laws.proofs.Copying.{more_than}
use Rattle.object_laws.specs.Done.{HasLayout}
use Rattle.object_laws.specs.Represents.{array_block, head_block}
use Rattle.object_laws.proofs.Blocks.{found_set, reads_field}
use Rattle.std.proofs.lemmas.List.{length-map}
use Rattle.list_laws.proofs.Copying.{copy_is, the_copy}
use Rattle.list_copy_laws.proofs.Fresh.{raw, raw_both, raw_long}
use Rattle.object_laws.proofs.Made.{found_more}
use Rattle.split_laws.proofs.Copied.{bytes_copied}
use Rattle.ll_leads.proofs.Ways.{makes}
use Rattle.join_laws.proofs.Texts.{costs_length}
use Rattle.ll_texts.specs.Texts.{text_block}
use Rattle.list_shape.specs.Shapes.{gives as gives_block}
use Rattle.list_texts.specs.Splitting.{join_shortened}
use Rattle.ll_texts.proofs.Writing.{writes_length}
use Rattle.ll_leads.specs.Memory.{forgotten}
use Rattle.csub_tree.specs.Layout.{Shape as StructShape}
use Rattle.split_laws.proofs.Parts.{new_of, value_of, nothing, nothing_set, part_comes}
use Rattle.ll_texts.specs.Texts.{AreBytes}
use Rattle.ll_texts.specs.Follows.{text_blocks}
use Rattle.ll_texts.proofs.Writing.{newest}
use Rattle.join_laws.proofs.Items.{IsItem}
use Rattle.join_laws.specs.Asked.{HasJoin, copying, with_letter}
use Rattle.join_laws.proofs.Graph.{Join_of, counts_rest, item_type, join_graph_is, puts_ops, puts_rest}
use Rattle.join_laws.proofs.Holding.{both, only_between, only_item, only_start}
use Rattle.join_laws.proofs.Items.{AreItems, Read, ItemAt, Others, item_at, over, reads_first, reads_second, rest_of, second_at, text_in}
use Rattle.join_laws.proofs.Texts.{cost_from, gap, joined_from}

items_few : (bytes : Bool) (blocks : List (Option Block)) (statics : List Block) (zs : List Value) (texts : List (List ℕ)) → AreItems bytes blocks statics zs texts → length texts ≡ length zs
items_few bytes blocks statics [] [] are = refl
items_few bytes blocks statics [] (t ∷ texts) are = absurd are
items_few bytes blocks statics (z ∷ zs) [] are = absurd are
items_few bytes blocks statics (z ∷ zs) (t ∷ texts) are = ap suc (items_few bytes blocks statics zs texts are.1)

-- the variables that are not given
start_vars : (layout : Layout) (n : ℕ) (made : Found) (bytes : Bool) → replicate (length (Join_of layout n made bytes).types - length (Join_of layout n made bytes).params) Unset ≡ Unset ∷ Unset ∷ Unset ∷ Unset ∷ Unset ∷ Unset ∷ Unset ∷ Unset ∷ Unset ∷ Unset ∷ Unset ∷ Unset ∷ rest_of bytes (Unset, Unset, Unset, Unset)
unfolding join_graph join_types
start_vars layout n made true = refl
start_vars layout n made false = refl

map_both : (xs ys : List ℕ) → map Byte (xs ++ ys) ≡ map Byte xs ++ map Byte ys
map_both [] ys = refl
map_both (x ∷ xs) ys = ap (λ l. Byte x ∷ l) (map_both xs ys)

module _ (p : LlProgram) (args : List (List ℕ)) (layout : Layout) (numbers : Numbers) (raised : ℕ → Value) (bytes : Bool) (n f : ℕ) (core : Core) (left : ℕ) (has : HasJoin p layout numbers raised core bytes n f) (structs : HasLayout p layout) (struct : is_list layout n ≡ true) (typed : item_of layout (word (n + 1)) ≡ item_type bytes)
    (x head array : Value) (between : List ℕ) (t : IsText core.blocks core.statics x between) (values spare : List Value) (texts : List (List ℕ)) (items : AreItems bytes core.blocks core.statics values texts)
    (head_is : found core.blocks core.statics head ≡ Some (head_block n (length texts) array)) (array_is : found core.blocks core.statics array ≡ Some (array_block n (values ++ spare))) (steps : left ≡ core.steps) (few_steps : left < 2 ^ 62) (few : length (values ++ spare) < 2 ^ 63) where
  abbrev k : ℕ
  k = length texts

  abbrev m : ℕ
  m = length between

  abbrev a : ℕ
  a = word (n + 1)

  abbrev whole : Block
  whole = array_block n (values ++ spare)

  abbrev first : ℕ
  first = (helper_number StrOfChar has.made).0

  abbrev copies : ℕ
  copies = (small_number (small.Listed (Copy 0 0)) (with_letter bytes has.made)).0

  abbrev second : ℕ
  second = (helper_number StrOfChar (copying bytes has.made)).0

  abbrev parts : ℕ
  parts = (small_number (small.Listed Part) (with_letter bytes (copying bytes has.made))).0

  graph : slice_get p.graphs f ≡ Some (Join_of layout n has.made bytes)
  graph = has.graph ∙ ap Some (join_graph_is layout n has.made bytes typed)

  arrays : shape_at (shapes_of p.structs) a ≡ shape_over a 1 None
  arrays = structs.arrays n struct

  k_few : k < 2 ^ 63
  k_few = (let q = items_few bytes core.blocks core.statics values texts items in let l = length-append values spare in omega (arith, few, q, l))

  x_set : is_unset x ≡ false
  x_set = is_set t

  array_set : is_unset array ≡ false
  array_set = found_set core.blocks core.statics array whole array_is

  head_set : is_unset head ≡ false
  head_set = found_set core.blocks core.statics head _ head_is

  module _ (waits : List Frame) where
    abbrev at : ℕ → ℕ → ℕ → ℕ → Others → ℕ → Core
    at block place i sum r now = over p args numbers core f a k m x array whole arrays refl bytes block place i sum Unset Unset r core.blocks now

    abbrev asking : ℕ → ℕ → Others → ℕ → State
    asking i sum r now = At join_asks.ops join_asks.exit waits (at 1 0 i sum r now)

    abbrev making : ℕ → Others → ℕ → State
    making sum r now = At join_made.ops join_made.exit waits (at 5 0 k sum r now)

    -- the steps do not suffice
    pub record Stopped (from : State) : Type 0 where
      pub last : State
      pub leads : Leads p args 0 from [] last
      pub ends : step p args last ≡ Ends Running (core_of last)
      pub blocks : (core_of last).blocks ≡ core.blocks
      pub holds : (b : ℕ) → 0 < times b (roots p last) → 0 < times b (both p core f k m x array waits)

    -- all is paid
    record Counted (from : State) (sum now : ℕ) : Type 0 where
      r : Others
      way : Leads p args 0 from [] (making sum r now)

    abbrev Goes : State → ℕ → ℕ → ℕ → Type 0
    Goes from sum now cost = (now < cost → Stopped from) × (cost ≤ now → Counted from (sum + cost) (now - cost))

    abbrev exits : LlExit
    exits = fork 7 3 counted_next 4 counted_next

    stops_later : {s u : State} → Leads p args 0 s [] u → Stopped u → Stopped s
    stops_later way d = record { last = d.last; leads = on way d.leads; ends = d.ends; blocks = d.blocks; holds = d.holds }

    module _ (pre : List (List ℕ)) (u : List ℕ) (rest : List (List ℕ)) (i sum now : ℕ) (r : Others) (are : texts ≡ pre ++ u ∷ rest) (i_is : i ≡ length pre) (fits : sum + now ≤ left) where
      abbrev len : ℕ
      len = length u

      lt : i < k
      lt = (let w = ap length are in let l = length-append pre (u ∷ rest) in omega (arith, w, l, i_is))

      here : slice_get texts i ≡ Some u
      here = ap (λ l. slice_get l i) are ∙ get_mid pre u rest i i_is

      item : ItemAt bytes core.blocks core.statics (values ++ spare) i u
      item = item_at bytes core.blocks core.statics values spare texts i u items here

      abbrev ready : Others
      ready = record r { v7 = Flag true }

      abbrev counting : List LlOp
      counting = op.GetField 12 0 (text_in bytes 14) 0 ∷ counts_rest

      reading : Read p args numbers core f a k m x array whole arrays refl bytes 14 first 2 i sum Unset Unset ready core.blocks now u counting exits waits
      reading = reads_first p args numbers core f a k m x array whole arrays refl 2 i sum Unset Unset ready core.blocks array_is now (omega (arith, fits, steps)) u counting exits waits bytes first has.first item

      abbrev r1 : Others
      r1 = record ready { rest = reading.rest; v12 = Word (pos len) }

      to_pay : Leads p args 0 (asking i sum r now) [] (At counts_rest exits waits (at 2 (reading.at + 1) i sum r1 now))
      unfolding join_graph join_types join_asks counted_block
      to_pay = on (gives (Flag true) (less_true i k lt)) (on (many 1 graph refl (simp (x_set, array_set))) (on reading.way (gets_length structs.plain.text (subst (λ y. IsText core.blocks core.statics y u) (sym (reading.is i sum Unset Unset ready)) reading.text))))

      lacking : now < len → Stopped (asking i sum r now)
      lacking h = record {
        last = At counts_rest exits waits (at 2 (reading.at + 1) i sum r1 now);
        leads = to_pay;
        ends = lacks p args _ exits waits (at 2 (reading.at + 1) i sum r1 now) (Var 12) len refl h;
        blocks = refl;
        holds = only_item p core f k m x array waits bytes i sum (reading.at + 1) now len (record ready { rest = reading.rest });
      }

      abbrev r2 : Bool → Others
      r2 c = record r1 { v11 = Word (pos (sum + len)); v7 = Flag c }

      paid_item : (c : Bool) → binary_of Gt (Word (pos i)) (Word (pos 0)) ≡ Ok (Flag c) → len ≤ now → Leads p args 0 (asking i sum r now) [] (At [] exits waits (at 2 (reading.at + 1 + 1 + 1 + 1) i sum (r2 c) (now - len)))
      paid_item c e h = on to_pay (on (pays len (now - len) refl (omega (arith, h))) (on (gives (Word (pos (sum + len))) (adds sum len (omega (arith, fits, h, few_steps)))) (gives (Flag c) e)))

      -- the next one
      next_at : (s now2 : ℕ) (q : Others) → Leads p args 0 (At join_next.ops join_next.exit waits (at 4 0 i s q now2)) [] (asking (i + 1) s (record q { v10 = Word (pos (i + 1)) }) now2)
      unfolding join_graph join_types join_asks join_next
      next_at s now2 q = on (gives (Word (pos (i + 1))) (adds i 1 (let l = lt in let w = k_few in omega (arith, l, w)))) (many 1 graph refl (simp (x_set, array_set)))

      chain : {s s2 : State} (sum now c cost : ℕ) → (now < c → Stopped s) → (c ≤ now → Leads p args 0 s [] s2) → (c ≤ now → Goes s2 (sum + c) (now - c) cost) → Goes s sum now (c + cost)
      chain {s = s} sum now c cost short way on_goes = (by (nat_lt now c) refl, enough)
        where
          by : (b : Bool) → nat_lt now c ≡ b → now < c + cost → Stopped s
          by true h less = short (grind (arith, nat_tests, h))
          by false h less = (let e : c ≤ now = grind (arith, nat_tests, h) in stops_later (way e) ((on_goes e).0 (omega (arith, less, e))))

          enough : c + cost ≤ now → Counted s (sum + (c + cost)) (now - (c + cost))
          enough h =
              let e : c ≤ now = omega (arith, h) in
              let it = (on_goes e).1 (omega (arith, h)) in
              let p1 : sum + c + cost ≡ sum + (c + cost) = omega arith in
              let p2 : now - c - cost ≡ now - (c + cost) = omega arith in
              subst (λ q. Counted s q (now - (c + cost))) p1 (subst (λ q. Counted s (sum + c + cost) q) p2 (record { r = it.r; way = on (way e) it.way }))

      abbrev Next : Type 0
      Next = (s now2 : ℕ) (q : Others) → s + now2 ≤ left → Goes (asking (i + 1) s q now2) s now2 (cost_from between (i + 1) rest)

      only_first : i ≡ 0 → Next → Goes (asking i sum r now) sum now (len + (0 + cost_from between (i + 1) rest))
      unfolding join_graph join_types counted_block join_next
      only_first e next =
          subst (λ q. Goes (asking i sum r now) sum now (len + q)) (let q : cost_from between (i + 1) rest ≡ 0 + cost_from between (i + 1) rest = omega arith in q)
          (chain sum now len (cost_from between (i + 1) rest) lacking (λ h. on (paid_item false (ap (λ q. binary_of Gt (Word (pos q)) (Word (pos 0))) e) h) (on (many 1 graph refl (simp (x_set, array_set))) (next_at (sum + len) (now - len) (r2 false))))
          (λ h. next (sum + len) (now - len) (record (r2 false) { v10 = Word (pos (i + 1)) }) (omega (arith, h, fits))))

      later_one : (j : ℕ) → i ≡ suc j → Next → Goes (asking i sum r now) sum now (len + (m + cost_from between (i + 1) rest))
      unfolding join_graph join_types counted_block join_between join_next
      later_one j e next =
          chain sum now len (m + cost_from between (i + 1) rest) lacking (λ h. on (paid_item true (ap (λ q. binary_of Gt (Word (pos q)) (Word (pos 0))) e ∙ more_than j) h) (many {t = separating} 1 graph refl (simp (x_set, array_set))))
          (λ h. chain (sum + len) (now - len) m (cost_from between (i + 1) rest)
          (λ less. record {
            last = separating;
            leads = rests;
            ends = lacks p args _ (exit.Goto (to 4 counted_next)) waits (at 3 0 i (sum + len) (r2 true) (now - len)) (Var 4) m refl less;
            blocks = refl;
            holds = only_between p core f k m x array waits bytes i (sum + len) 0 (now - len) (r2 true) (sum + len);
          })
          (λ enough. on (pays m (now - len - m) refl (omega (arith, enough))) (on (gives (Word (pos (sum + len + m))) (adds (sum + len) m (omega (arith, enough, h, fits, few_steps)))) (on (many 1 graph refl (simp (x_set, array_set))) (next_at (sum + len + m) (now - len - m) (record (r2 true) { v11 = Word (pos (sum + len + m)) })))))
          (λ enough. next (sum + len + m) (now - len - m) (record (r2 true) { v11 = Word (pos (sum + len + m)); v10 = Word (pos (i + 1)) }) (omega (arith, enough, h, fits))))
        where
          separating : State
          separating = At join_between.ops join_between.exit waits (at 3 0 i (sum + len) (r2 true) (now - len))

      turn : Next → Goes (asking i sum r now) sum now (cost_from between i (u ∷ rest))
      turn next = by i refl
        where
          by : (j : ℕ) → i ≡ j → Goes (asking i sum r now) sum now (len + (length (gap between j) + cost_from between (i + 1) rest))
          by zero e = only_first e next
          by (suc j) e = later_one j e next

    counts : (pre rest : List (List ℕ)) (i sum now : ℕ) (r : Others) → texts ≡ pre ++ rest → i ≡ length pre → sum + now ≤ left → Goes (asking i sum r now) sum now (cost_from between i rest)
    unfolding join_graph join_types join_asks join_made
    counts pre [] i sum now r are i_is fits = (λ h. absurd (omega (arith, h)), enough)
      where
        at_end : i ≡ k
        at_end = (let w = ap length are in let l = length-append pre [] in omega (arith, w, l, i_is))

        done : Leads p args 0 (asking i sum r now) [] (At join_made.ops join_made.exit waits (at 5 0 i sum (record r { v7 = Flag false }) now))
        done = on (gives (Flag false) (less_false i k (let q = at_end in omega (arith, q)))) (many 1 graph refl (simp (x_set, array_set)))

        enough : 0 ≤ now → Counted (asking i sum r now) (sum + 0) (now - 0)
        enough h =
            let a : sum ≡ sum + 0 = omega arith in
            let b : now ≡ now - 0 = omega arith in
            record { r = record r { v7 = Flag false }; way = subst (λ q. Leads p args 0 (asking i sum r now) [] (making q (record r { v7 = Flag false }) (now - 0))) a (subst (λ q. Leads p args 0 (asking i sum r now) [] (making sum (record r { v7 = Flag false }) q)) b (subst (λ q. Leads p args 0 (asking i sum r now) [] (At join_made.ops join_made.exit waits (at 5 0 q sum (record r { v7 = Flag false }) now))) at_end done)) }
    counts pre (u ∷ rest) i sum now r are i_is fits =
        turn pre u rest i sum now r are i_is fits (λ s now2 q fits2. counts (pre ++ u ∷ []) rest (i + 1) s now2 q (are ∙ sym (append_assoc pre (u ∷ []) rest)) (let l = length-append pre (u ∷ []) in omega (arith, l, i_is)) fits2)

    -- ---- the beginning

    abbrev total : ℕ
    total = cost_from between 0 texts

    abbrev begun_vars : List Value
    begun_vars = x ∷ head ∷ array ∷ Word (pos k) ∷ Word (pos m) ∷ Unset ∷ Unset ∷ Unset ∷ Unset ∷ Unset ∷ Unset ∷ Unset ∷ Unset ∷ Unset ∷ rest_of bytes (Unset, Unset, Unset, Unset)

    abbrev start_exit : LlExit
    start_exit = exit.Goto (to 1 (Var 0 ∷ Var 2 ∷ Var 3 ∷ Var 4 ∷ word_operand (pos 0) ∷ word_operand (pos 0) ∷ []))

    abbrev paying : ℕ → Core
    paying now = record core { function = f; block = 0; at = 3; vars = begun_vars; steps = now }

    begins : Leads p args 0 (Calling f (x ∷ head ∷ []) waits core) [] (At (op.Step (word_operand (pos 1)) ∷ []) start_exit waits (paying core.steps))
    unfolding join_graph join_types join_start
    begins =
        on (subst (λ l. Leads p args 0 (Calling f (x ∷ head ∷ []) waits core) [] (At (op.GetField 3 n 1 0 ∷ op.GetField 2 n 1 1 ∷ op.GetField 4 0 0 0 ∷ op.Step (word_operand (pos 1)) ∷ []) start_exit waits (record core { function = f; block = 0; at = 0; vars = x ∷ head ∷ l }))) (start_vars layout n has.made bytes) (enter graph refl))
        (on (reads_field 2 (head_block n k array) (Word (pos k)) (structs.heads n struct) head_is refl refl 0 refl)
        (on (reads_field 2 (head_block n k array) array (structs.heads n struct) head_is refl array_set 1 refl) (gets_length structs.plain.text t)))

    abbrev begun : Others
    begun = record { v1 = head; v7 = Unset; v10 = Unset; v11 = Unset; v12 = Unset; rest = (Unset, Unset, Unset, Unset) }

    paid_one : 1 ≤ left → Leads p args 0 (Calling f (x ∷ head ∷ []) waits core) [] (asking 0 0 begun (left - 1))
    unfolding join_graph join_types join_start join_asks
    paid_one h = on begins (on (pays 1 (left - 1) refl (omega (arith, steps, h))) (many 1 graph refl (simp (x_set, array_set))))

    all_counted : 1 ≤ left → Goes (asking 0 0 begun (left - 1)) 0 (left - 1) total
    all_counted h = counts [] texts 0 0 (left - 1) begun refl refl (omega arith)

    pub join_stops : left < 1 + total → Stopped (Calling f (x ∷ head ∷ []) waits core)
    join_stops less = by (nat_lt left 1) refl
      where
        by : (c : Bool) → nat_lt left 1 ≡ c → Stopped (Calling f (x ∷ head ∷ []) waits core)
        by true h = record {
          last = At (op.Step (word_operand (pos 1)) ∷ []) start_exit waits (paying core.steps);
          leads = begins;
          ends = lacks p args [] start_exit waits (paying core.steps) (word_operand (pos 1)) 1 refl (let q : left < 1 = grind (arith, nat_tests, h) in omega (arith, q, steps));
          blocks = refl;
          holds = only_start p core f k m x array waits bytes head 3 core.steps;
        }
        by false h = (let q : 1 ≤ left = grind (arith, nat_tests, h) in stops_later (paid_one q) ((all_counted q).0 (omega (arith, less, q))))

    -- ---- the whole is written

    abbrev result : Value
    result = Ptr (length core.blocks)

    abbrev fields : List Value
    fields = Word (pos total) ∷ []

    -- so much is written, and so many bytes are left
    abbrev written : List ℕ → ℕ → List (Option Block)
    written done n = core.blocks ++ Some (part_block fields (map Byte done ++ raw n)) ∷ []

    abbrev with_whole : ℕ → ℕ → ℕ → ℕ → Others → List (Option Block) → ℕ → Core
    with_whole block place i j r blocks now = over p args numbers core f a k m x array whole arrays refl bytes block place i total result (Word (pos j)) r blocks now

    abbrev putting : ℕ → ℕ → Others → List (Option Block) → ℕ → State
    putting i j r blocks now = At join_more.ops join_more.exit waits (with_whole 6 0 i j r blocks now)

    record Filled (from : State) (done : List ℕ) (now : ℕ) : Type 0 where
      i : ℕ
      j : ℕ
      r : Others
      way : Leads p args 0 from [] (At join_short.ops join_short.exit waits (with_whole 10 0 i j r (core.blocks ++ Some (part_block fields (map Byte done)) ∷ []) now))

    copy_graph_is : slice_get p.graphs copies ≡ Some (the_copy 0 (item_of layout 0))
    copy_graph_is = has.copies.graph ∙ ap Some (copy_is layout 0 has.copies.made)

    -- bytes of a string behind those that were written
    copies_all : (now : Core) (y : Value) (done u : List ℕ) (c : ℕ) → now.blocks ≡ written done (length u + c) → now.statics ≡ core.statics → IsText core.blocks core.statics y u → length done + length u < 2 ^ 63 → (frames : List Frame)
        → Comes p args (Calling copies (y ∷ Word (pos 0) ∷ result ∷ Word (pos (length done)) ∷ Word (pos (length u)) ∷ []) frames now) [] Unset frames (record now { blocks = written (done ++ u) c })
    copies_all now y done u c at statics text small frames =
        let done_long : length done ≡ length (map Byte done) = sym (length-map done Byte) in
        let split : map Byte done ++ raw (length u + c) ≡ map Byte done ++ (raw (length u) ++ raw c) = ap (λ l. map Byte done ++ l) (raw_both (length u) c) in
        let joined : map Byte done ++ (map Byte u ++ raw c) ≡ map Byte (done ++ u) ++ raw c = sym (append_assoc (map Byte done) (map Byte u) (raw c)) ∙ ap (λ l. l ++ raw c) (sym (map_both done u)) in
        subst (λ l. Comes p args (Calling copies (y ∷ Word (pos 0) ∷ result ∷ Word (pos (length done)) ∷ Word (pos (length u)) ∷ []) frames now) [] Unset frames (record now { blocks = core.blocks ++ Some (part_block fields l) ∷ [] })) joined
        (bytes_copied p args copies (item_of layout 0) copy_graph_is structs.plain.text frames now core.blocks y fields [] u [] (map Byte done) (raw (length u)) (raw c) 0 (length done) (length u)
        (at ∙ ap (λ l. core.blocks ++ Some (part_block fields l) ∷ []) split) (subst (λ l. IsText core.blocks now.statics y l) (sym (append-nil u)) (subst (λ s. IsText core.blocks s y u) (sym statics) text)) (raw_long (length u)) refl done_long refl (omega (arith, small)) small)

    module _ (pre : List (List ℕ)) (u : List ℕ) (rest : List (List ℕ)) (i now : ℕ) (r : Others) (done : List ℕ) (are : texts ≡ pre ++ u ∷ rest) (i_is : i ≡ length pre) (fits : length done + cost_from between i (u ∷ rest) ≡ total) (small : total < 2 ^ 62) (less : now ≤ core.steps) where
      abbrev u_len : ℕ
      u_len = length u

      abbrev others_cost : ℕ
      others_cost = cost_from between (i + 1) rest

      put_lt : i < k
      put_lt = (let w = ap length are in let l = length-append pre (u ∷ rest) in omega (arith, w, l, i_is))

      put_here : slice_get texts i ≡ Some u
      put_here = ap (λ l. slice_get l i) are ∙ get_mid pre u rest i i_is

      put_item : ItemAt bytes core.blocks core.statics (values ++ spare) i u
      put_item = item_at bytes core.blocks core.statics values spare texts i u items put_here

      abbrev put_exit : LlExit
      put_exit = exit.Goto (to 6 (Var 0 ∷ Var 2 ∷ Var 3 ∷ Var 4 ∷ Var 8 ∷ Var 10 ∷ Var 11 ∷ Var 6 ∷ []))

      abbrev tv : ℕ
      tv = text_in bytes (second_at bytes)

      abbrev putting_ops : List LlOp
      putting_ops = op.GetField 12 0 tv 0 ∷ puts_rest tv copies

      -- the item itself, behind so much
      put_one : (so_far : List ℕ) (q : Others) → length so_far + u_len < 2 ^ 63
          → (v : Others) × Leads p args 0 (At (puts_ops bytes second a copies) put_exit waits (with_whole 9 0 i (length so_far) q (written so_far (u_len + others_cost)) now)) [] (putting (i + 1) (length so_far + u_len) v (written (so_far ++ u) others_cost) now)
      unfolding join_graph join_types put_block join_more
      put_one so_far q room =
          let blocks : List (Option Block) = written so_far (u_len + others_cost) in
          let there : found blocks core.statics array ≡ Some whole = found_more core.blocks (Some (part_block fields (map Byte so_far ++ raw (u_len + others_cost))) ∷ []) core.statics array whole array_is in
          let it = reads_second p args numbers core f a k m x array whole arrays refl 9 i total result (Word (pos (length so_far))) q blocks there now less u putting_ops put_exit waits bytes second has.second put_item in
          let q1 : Others = record q { rest = it.rest; v12 = Word (pos u_len) } in
          let inner : Core = with_whole 9 (it.at + 1) i (length so_far) q1 blocks now in
          let y_is : read inner.vars tv ≡ it.y = it.is i total result (Word (pos (length so_far))) (record q { v12 = Word (pos u_len) }) in
          let y_set : is_unset it.y ≡ false = is_set it.text in
          let v : Others = record q1 { v11 = Word (pos (length so_far + u_len)); v10 = Word (pos (i + 1)) } in (
            v,
            on it.way
                (on (gets_length structs.plain.text (subst (λ y. IsText blocks core.statics y u) (sym (it.is i total result (Word (pos (length so_far))) q)) (text_stays (Some (part_block fields (map Byte so_far ++ raw (u_len + others_cost))) ∷ []) it.text)))
                (on (call {core = inner} (ap (λ y. is_unset y || false) y_is ∙ ap (λ b. b || false) y_set) (λ frames. subst (λ y. Comes p args (Calling copies (y ∷ Word (pos 0) ∷ result ∷ Word (pos (length so_far)) ∷ Word (pos u_len) ∷ []) frames inner) [] Unset frames (record inner { blocks = written (so_far ++ u) others_cost })) (sym y_is)
                (copies_all inner it.y so_far u others_cost refl refl it.text room frames)))
                (on (gives (Word (pos (length so_far + u_len))) (adds (length so_far) u_len room)) (on (gives (Word (pos (i + 1))) (adds i 1 (let l = put_lt in let w = k_few in omega (arith, l, w)))) (many 1 graph refl (simp (x_set, array_set))))))),
          )

      -- whether it is behind others
      asked : (c : Bool) → binary_of Gt (Word (pos i)) (Word (pos 0)) ≡ Ok (Flag c) → (blocks : List (Option Block)) → Leads p args 0 (putting i (length done) r blocks now) [] (At [] join_behind_first.exit waits (with_whole 7 1 i (length done) (record r { v7 = Flag c }) blocks now))
      unfolding join_graph join_types join_more join_behind_first
      asked c e blocks = on (gives (Flag true) (less_true i k put_lt)) (on (many 1 graph refl (simp (x_set, array_set))) (gives (Flag c) e))

      abbrev Rest : Type 0
      Rest = (v : Others) (so_far : List ℕ) → length so_far + others_cost ≡ total → Filled (putting (i + 1) (length so_far) v (written so_far others_cost) now) (so_far ++ joined_from between (i + 1) rest) now

      filled_later : {s u : State} {all : List ℕ} → Leads p args 0 s [] u → Filled u all now → Filled s all now
      filled_later way it = record { i = it.i; j = it.j; r = it.r; way = on way it.way }

      from_one : (so_far : List ℕ) (q : Others) → length so_far + (u_len + others_cost) ≡ total → Rest → Filled (At (puts_ops bytes second a copies) put_exit waits (with_whole 9 0 i (length so_far) q (written so_far (u_len + others_cost)) now)) ((so_far ++ u) ++ joined_from between (i + 1) rest) now
      from_one so_far q sum next =
          let it = put_one so_far q (omega (arith, sum, small)) in
          let l : length (so_far ++ u) ≡ length so_far + u_len = length-append so_far u in
          filled_later it.1 (subst (λ j. Filled (putting (i + 1) j it.0 (written (so_far ++ u) others_cost) now) ((so_far ++ u) ++ joined_from between (i + 1) rest) now) l (next it.0 (so_far ++ u) (omega (arith, l, sum))))

      put_first : i ≡ 0 → length done + (u_len + (0 + others_cost)) ≡ total → Rest → Filled (putting i (length done) r (written done (u_len + (0 + others_cost))) now) (done ++ ([] ++ (u ++ joined_from between (i + 1) rest))) now
      unfolding join_graph join_types join_behind_first put_block
      put_first e sum next =
          let q : u_len + others_cost ≡ u_len + (0 + others_cost) = omega arith in
          subst (λ c. Filled (putting i (length done) r (written done c) now) (done ++ (u ++ joined_from between (i + 1) rest)) now) q
          (subst (λ l. Filled (putting i (length done) r (written done (u_len + others_cost)) now) l now) (append_assoc done u (joined_from between (i + 1) rest))
          (filled_later (on (asked false (ap (λ q. binary_of Gt (Word (pos q)) (Word (pos 0))) e) (written done (u_len + others_cost))) (many 1 graph refl (simp (x_set, array_set)))) (from_one done (record r { v7 = Flag false }) (omega (arith, sum)) next)))

      put_later : (j : ℕ) → i ≡ suc j → length done + (u_len + (m + others_cost)) ≡ total → Rest → Filled (putting i (length done) r (written done (u_len + (m + others_cost))) now) (done ++ (between ++ (u ++ joined_from between (i + 1) rest))) now
      unfolding join_graph join_types join_behind_first join_separated put_block
      put_later j e sum next =
          let q : u_len + (m + others_cost) ≡ m + (u_len + others_cost) = omega arith in
          let blocks : List (Option Block) = written done (m + (u_len + others_cost)) in
          let v : Others = record r { v7 = Flag true } in
          let inner : Core = with_whole 8 0 i (length done) v blocks now in
          let w : Others = record v { v11 = Word (pos (length done + m)) } in
          let l : length (done ++ between) ≡ length done + m = length-append done between in
          subst (λ c. Filled (putting i (length done) r (written done c) now) (done ++ (between ++ (u ++ joined_from between (i + 1) rest))) now) (sym q)
          (subst (λ l. Filled (putting i (length done) r blocks now) l now) (append_assoc (done ++ between) u (joined_from between (i + 1) rest) ∙ append_assoc done between (u ++ joined_from between (i + 1) rest))
          (filled_later (on (asked true (ap (λ q. binary_of Gt (Word (pos q)) (Word (pos 0))) e ∙ more_than j) blocks) (on (many {t = At (join_separated copies).ops (join_separated copies).exit waits inner} 1 graph refl (simp (x_set, array_set)))
          (on (call {core = inner} (simp x_set) (λ frames. copies_all inner x done between (u_len + others_cost) refl refl t (omega (arith, sum, small)) frames))
          (on (gives (Word (pos (length done + m))) (adds (length done) m (omega (arith, sum, small)))) (many {t = At (puts_ops bytes second a copies) put_exit waits (with_whole 9 0 i (length done + m) w (written (done ++ between) (u_len + others_cost)) now)} 1 graph refl (simp (x_set, array_set)))))))
          (subst (λ j. Filled (At (puts_ops bytes second a copies) put_exit waits (with_whole 9 0 i j w (written (done ++ between) (u_len + others_cost)) now)) (((done ++ between) ++ u) ++ joined_from between (i + 1) rest) now) l
          (from_one (done ++ between) w (omega (arith, l, sum)) next))))

      put_turn : Rest → Filled (putting i (length done) r (written done (cost_from between i (u ∷ rest))) now) (done ++ joined_from between i (u ∷ rest)) now
      put_turn next = by i refl fits
        where
          by : (j : ℕ) → i ≡ j → length done + (u_len + (length (gap between j) + others_cost)) ≡ total → Filled (putting i (length done) r (written done (u_len + (length (gap between j) + others_cost))) now) (done ++ (gap between j ++ (u ++ joined_from between (i + 1) rest))) now
          by zero e sum = put_first e sum next
          by (suc j) e sum = put_later j e sum next

    fills : (pre rest : List (List ℕ)) (i now : ℕ) (r : Others) (done : List ℕ) → texts ≡ pre ++ rest → i ≡ length pre → length done + cost_from between i rest ≡ total → total < 2 ^ 62 → now ≤ core.steps → Filled (putting i (length done) r (written done (cost_from between i rest)) now) (done ++ joined_from between i rest) now
    unfolding join_graph join_types join_more join_short
    fills pre [] i now r done are i_is sum small less =
        let w = ap length are in
        let l = length-append pre [] in
        record {
          i = i;
          j = length done;
          r = record r { v7 = Flag false };
          way = subst (λ items. Leads p args 0 (putting i (length done) r (written done 0) now) [] (At join_short.ops join_short.exit waits (with_whole 10 0 i (length done) (record r { v7 = Flag false }) (core.blocks ++ Some (part_block fields items) ∷ []) now)))
              (append-nil (map Byte done) ∙ ap (map Byte) (sym (append-nil done))) (on (gives (Flag false) (less_false i k (omega (arith, w, l, i_is)))) (many 1 graph refl refl));
        }
    fills pre (u ∷ rest) i now r done are i_is sum small less =
        put_turn pre u rest i now r done are i_is sum small less (λ v so_far sum2. fills (pre ++ u ∷ []) rest (i + 1) now v so_far (are ∙ sym (append_assoc pre (u ∷ []) rest)) (let l = length-append pre (u ∷ []) in omega (arith, l, i_is)) sum2 small less)

    -- ---- all of it

    abbrev all : List ℕ
    all = joined_from between 0 texts

    abbrev now_left : ℕ
    now_left = left - (1 + total)

    fills_after : {s u : State} {done : List ℕ} {now : ℕ} → Leads p args 0 s [] u → Filled u done now → Filled s done now
    fills_after way it = record { i = it.i; j = it.j; r = it.r; way = on way it.way }

    makes_whole : (r : Others) → Leads p args 0 (making total r now_left) [] (putting 0 0 r (written [] total) now_left)
    unfolding join_graph join_types join_made join_more
    makes_whole r = on (makes total 1 refl (ap (λ (s : StructShape). s.size) structs.plain.text)) (on (writes_length core.blocks Unset (raw total) (pos total) structs.plain.text refl refl refl) (many 1 graph refl (simp (x_set, array_set))))

    filled : 1 + total ≤ left → Filled (Calling f (x ∷ head ∷ []) waits core) all now_left
    filled enough =
        let counted = (all_counted (omega (arith, enough))).1 (omega (arith, enough)) in
        let a : 0 + total ≡ total = omega arith in
        let b : left - 1 - total ≡ now_left = omega arith in
        let made : Leads p args 0 (Calling f (x ∷ head ∷ []) waits core) [] (making total counted.r now_left) =
        on (paid_one (omega (arith, enough))) (subst (λ q. Leads p args 0 (asking 0 0 begun (left - 1)) [] (making q counted.r now_left)) a (subst (λ q. Leads p args 0 (asking 0 0 begun (left - 1)) [] (making (0 + total) counted.r q)) b counted.way)) in
        fills_after (on made (makes_whole counted.r)) (fills [] texts 0 now_left counted.r [] refl refl (omega arith) (omega (arith, enough, few_steps)) (omega (arith, steps)))

  -- ---- what it gives

  abbrev pub joined : List ℕ
  joined = joined_from between 0 texts

  abbrev pub joined_cost : ℕ
  joined_cost = 1 + cost_from between 0 texts

  joined_long : length joined ≡ cost_from between 0 texts
  joined_long = costs_length between 0 texts

  abbrev new_blocks : List (Option Block)
  new_blocks = core.blocks ++ Some (text_block joined) ∷ []

  abbrev none : Value
  none = nothing p args layout numbers raised parts core has.parts structs.plain.text

  pub record Joined : Type 0 where
    pub y : Value
    pub text : IsText new_blocks core.statics y joined
    pub comes : (waits : List Frame) → Comes p args (Calling f (x ∷ head ∷ []) waits core) [] y waits (record core { blocks = new_blocks; steps = left - joined_cost })

  item_bytes : (bytes : Bool) (z : Value) (u : List ℕ) → IsItem bytes core.blocks core.statics z u → AreBytes u
  item_bytes false z u is = is.small
  item_bytes true z u is = subst AreBytes (sym is.2) (is.3, tt)

  bytes_append : (us vs : List ℕ) → AreBytes us → AreBytes vs → AreBytes (us ++ vs)
  bytes_append [] vs a b = b
  bytes_append (u ∷ us) vs a b = (a.0, bytes_append us vs a.1 b)

  gap_bytes : (i : ℕ) → AreBytes (gap between i)
  gap_bytes zero = tt
  gap_bytes (suc i) = t.small

  all_bytes : (i : ℕ) (zs : List Value) (us : List (List ℕ)) → AreItems bytes core.blocks core.statics zs us → AreBytes (joined_from between i us)
  all_bytes i [] [] are = tt
  all_bytes i [] (u ∷ us) are = absurd are
  all_bytes i (z ∷ zs) [] are = absurd are
  all_bytes i (z ∷ zs) (u ∷ us) are = bytes_append (gap between i) (u ++ joined_from between (i + 1) us) (gap_bytes i) (bytes_append u (joined_from between (i + 1) us) (item_bytes bytes z u are.0) (all_bytes (i + 1) zs us are.1))

  small_joined : AreBytes joined
  small_joined = all_bytes 0 values texts items

  module _ (enough : joined_cost ≤ left) where
    long_enough : length joined < 2 ^ 62
    long_enough = (let q = joined_long in omega (arith, q, enough, few_steps))

    whole_text : IsText new_blocks core.statics (Ptr (length core.blocks)) joined
    whole_text = record { is = newest core.blocks (Some (text_block joined)) None; short = (let q = long_enough in omega (arith, q)); small = small_joined }

    same_whole : part_block (Word (pos (cost_from between 0 texts)) ∷ []) (map Byte joined) ≡ text_block joined
    same_whole = ap (λ q. part_block (Word (pos q) ∷ []) (map Byte joined)) (sym joined_long)

    -- more than one byte: the whole itself
    as_whole : 2 ≤ length joined → Joined
    unfolding join_graph join_types join_short gives_block
    as_whole long = record {
      y = Ptr (length core.blocks);
      text = whole_text;
      comes = λ waits.
          let it = filled waits enough in
          record {
            end = with_whole waits 12 0 it.i it.j (record it.r { v7 = Flag false }) (core.blocks ++ Some (part_block (Word (pos (cost_from between 0 texts)) ∷ []) (map Byte joined)) ∷ []) (left - joined_cost);
            same = ap (λ b. forgotten (record core { blocks = core.blocks ++ Some b ∷ []; steps = left - joined_cost })) same_whole;
            leads = on it.way (on (gives (Flag false) (less_false (cost_from between 0 texts) 2 (let q = joined_long in omega (arith, q, long)))) (many 2 graph refl refl));
          };
    }

    -- none or one: a static
    as_part : (us : List ℕ) → joined ≡ us → length us < 2 → Joined
    unfolding join_graph join_types join_short join_shortened
    as_part us is short = record {
      y = value_of none 0 joined;
      text = by us is short;
      comes = λ waits.
          let it = filled waits enough in
          let b : Block = part_block (Word (pos (cost_from between 0 texts)) ∷ []) (map Byte joined) in
          let blocks : List (Option Block) = core.blocks ++ Some b ∷ [] in
          let inner : Core = with_whole waits 11 0 it.i it.j (record it.r { v7 = Flag true }) blocks (left - joined_cost) in
          let part = (λ (frames : List Frame). part_comes p args layout numbers raised parts core has.parts structs.plain.text frames inner refl (omega (arith, steps)) (Ptr (length core.blocks)) [] joined [] 0
          (subst (λ q. IsText (core.blocks ++ Some q ∷ []) core.statics (Ptr (length core.blocks)) (joined ++ [])) (sym same_whole) (subst (λ l. IsText new_blocks core.statics (Ptr (length core.blocks)) l) (sym (append-nil joined)) whole_text)) refl) in
          let comes_so : (frames : List Frame) → Comes p args (Calling parts (Ptr (length core.blocks) ∷ Word (pos 0) ∷ Word (pos (cost_from between 0 texts)) ∷ []) frames inner) [] (value_of none 0 joined) frames (record inner { blocks = new_blocks }) =
          (λ frames. subst (λ q. Comes p args (Calling parts (Ptr (length core.blocks) ∷ Word (pos 0) ∷ Word (pos q) ∷ []) frames inner) [] (value_of none 0 joined) frames (record inner { blocks = new_blocks })) joined_long
          (subst (λ v. Comes p args (Calling parts (Ptr (length core.blocks) ∷ Word (pos 0) ∷ Word (pos (length joined)) ∷ []) frames inner) [] v frames (record inner { blocks = new_blocks })) (values_same us is short)
          (subst (λ l. Comes p args (Calling parts (Ptr (length core.blocks) ∷ Word (pos 0) ∷ Word (pos (length joined)) ∷ []) frames inner) [] (value_of none (length blocks) joined) frames (record inner { blocks = l })) (blocks_same us is short) (part frames)))) in
          record {
            end = _;
            same = refl;
            leads = on it.way (on (gives (Flag true) (less_true (cost_from between 0 texts) 2 (let q = joined_long in let l = ap length is in omega (arith, q, l, short)))) (on (many {t = At (join_shortened parts).ops (join_shortened parts).exit waits inner} 1 graph refl refl) (on (call {core = inner} refl comes_so) (many 1 graph refl (ap (λ c. c || false) (set us is short))))));
          };
    }
      where
        by : (us : List ℕ) → joined ≡ us → length us < 2 → IsText new_blocks core.statics (value_of none 0 joined) joined
        by [] is short = subst (λ l. IsText new_blocks core.statics (value_of none 0 l) l) (sym is) (record { is = found_more [] new_blocks core.statics none (text_block []) has.parts.nothing; short = omega arith; small = tt })
        by (c ∷ []) is short = subst (λ l. IsText new_blocks core.statics (value_of none 0 l) l) (sym is) (let fine : AreBytes (c ∷ []) = subst AreBytes is small_joined in let s = has.parts.letter.statics refl in record { is = s.singles c fine.0; short = omega arith; small = fine })
        by (c ∷ d ∷ us) is short = absurd (omega (arith, short))

        values_same : (us : List ℕ) → joined ≡ us → length us < 2 → value_of none (length (core.blocks ++ Some (part_block (Word (pos (cost_from between 0 texts)) ∷ []) (map Byte joined)) ∷ [])) joined ≡ value_of none 0 joined
        values_same [] is short = ap (value_of none _) is ∙ sym (ap (value_of none 0) is)
        values_same (c ∷ []) is short = ap (value_of none _) is ∙ sym (ap (value_of none 0) is)
        values_same (c ∷ d ∷ us) is short = absurd (omega (arith, short))

        blocks_same : (us : List ℕ) → joined ≡ us → length us < 2 → (core.blocks ++ Some (part_block (Word (pos (cost_from between 0 texts)) ∷ []) (map Byte joined)) ∷ []) ++ text_blocks (new_of joined) ≡ new_blocks
        blocks_same [] is short = ap (λ l. (core.blocks ++ Some (part_block (Word (pos (cost_from between 0 texts)) ∷ []) (map Byte joined)) ∷ []) ++ text_blocks (new_of l)) is ∙ append-nil _ ∙ ap (λ b. core.blocks ++ Some b ∷ []) same_whole
        blocks_same (c ∷ []) is short = ap (λ l. (core.blocks ++ Some (part_block (Word (pos (cost_from between 0 texts)) ∷ []) (map Byte joined)) ∷ []) ++ text_blocks (new_of l)) is ∙ append-nil _ ∙ ap (λ b. core.blocks ++ Some b ∷ []) same_whole
        blocks_same (c ∷ d ∷ us) is short = absurd (omega (arith, short))

        set : (us : List ℕ) → joined ≡ us → length us < 2 → is_unset (value_of none 0 joined) ≡ false
        set [] is short = ap (λ l. is_unset (value_of none 0 l)) is ∙ nothing_set p args layout numbers raised parts core has.parts structs.plain.text
        set (c ∷ []) is short = ap (λ l. is_unset (value_of none 0 l)) is
        set (c ∷ d ∷ us) is short = absurd (omega (arith, short))

    pub join_gives : Joined
    join_gives = by (nat_lt (length joined) 2) refl
      where
        by : (c : Bool) → nat_lt (length joined) 2 ≡ c → Joined
        by true h = as_part joined refl (grind (arith, nat_tests, h))
        by false h = as_whole (grind (arith, nat_tests, h))
