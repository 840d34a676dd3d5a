-- `join` is done: what is written for it, over the graph.
use Rattle.std.proofs.Common.{◌≡◌, ◌<◌, ◌≤◌, ◌⊎◌, inl, inr, ◌||◌, ◌&&◌, not, ℕ, ◌+◌, ◌-◌, Bool, true, false, List, [], ◌∷◌, ◌++◌, length, Option, Some, None, refl, sym, ap, ◌∙◌, subst, arith, append_assoc, length-append}
use Rattle.std.specs.Prelude.{nat_lt, cond, codes, if◌then◌else◌, slice_get}
use Rattle.std.specs.List.{join_by}
use Rattle.list_copy_laws.proofs.Tests.{is_less, not_less}
use Rattle.std.proofs.lemmas.List.{append-nil, length-set}
use Rattle.ann_element.specs.declared.element.Element.{Element}
use Rattle.csub_tree.specs.State.{Value, Block, Core}
use Rattle.csub_tree.specs.Statement.{operand, operands, any_unset}
use Rattle.csub_tree.specs.Operation.{is_unset}
use Rattle.csub_tree.specs.declared.tree.COperand.TheVariants.{Var}
use Rattle.ll_code.specs.State.{Frame, State, Calling, At}
use Rattle.ll_code.specs.Machine.{waiting}
use Rattle.ll_code.specs.declared.program.LlType.TheVariants as type
use Rattle.ll_code.specs.declared.program.LlOp.{LlOp}
use Rattle.ll_code.specs.declared.program.LlOp.TheVariants as op
use Rattle.ll_code.specs.declared.program.LlExit.{LlExit}
use Rattle.ll_code.specs.declared.program.LlProgram.{LlProgram}
use Rattle.ll_build.specs.declared.needs.Numbers.{Numbers}
use Rattle.ll_held.specs.Held.{times}
use Rattle.ll_held.specs.Places.{IsPlaced}
use Rattle.ll_held.specs.Roots.{roots, slots, waiting_roots}
use Rattle.ll_held.proofs.Keeping.{in_first, in_parts, in_second}
use Rattle.ll_leads.specs.Memory.{forgotten}
use Rattle.ll_leads.specs.Path.{Leads}
use Rattle.ll_leads.proofs.Ways.{on}
use Rattle.ll_texts.specs.Stands.{Stands as LowStands, text, missing}
use Rattle.ll_texts.specs.Texts.{IsText, found, text_block}
use Rattle.ll_texts.proofs.Reading.{is_set}
use Rattle.rpy_tree.specs.Value.{Value as Meant, Text, Ref, Listed as ListedObject}
use Rattle.rpy_meaning.specs.Methods.{texts_of}
use Rattle.rpy_meaning.specs.declared.row.RowOp.{RowOp}
use Rattle.rpy_meaning.specs.declared.row.RowOp.TheVariants as row
use Rattle.rpy_meaning.specs.Operations.{op as meant_op}
use Rattle.rpy_meaning.specs.World.{World, Answer, Gives, Lacks, bad, if_some, new_text, on_list}
use Rattle.rtyper_layout.specs.declared.kind.Kind.{Kind}
use Rattle.rtyper_layout.specs.declared.kind.Kind.TheVariants as kind
use Rattle.rtyper_layout.specs.Kinds.{is_text, is_text_or_none, kind_seen}
use Rattle.rtyper_layout.specs.Layout.{is_list as is_list_struct}
use Rattle.rtyper_layout.specs.Types.{field_type, type_seen, word}
use Rattle.rtyper_data.specs.declared.small.Listed.TheVariants as listed
use Rattle.rtyper_data.specs.declared.small.Small.{Small}
use Rattle.rtyper_data.specs.declared.small.Small.TheVariants as small
use Rattle.rtyper_data.specs.Converting.{by_small, given, present}
use Rattle.rtyper_data.specs.Finding.{small_number}
use Rattle.rtyper_data.specs.Seen.{Around, Operand, Place, kind_of, Writing, writing}
use Rattle.rtyper_op.specs.Lowering.{lower_op, never_comes}
use Rattle.list_shape.specs.Shapes.{item_of, taking}
use Rattle.rtyper_list.specs.Lowering.{lower_list_op, lowered, method_of, method_of_two, joined, joins}
use Rattle.rtyper_list.specs.Methods.{join}
use Rattle.rtyper_list.specs.Operands.{give_listed, list_of, of_list, of_list_or_none, of_none, pointed, there}
use Rattle.lower_laws.specs.Asked.{HasAll, Make, all_asked}
use Rattle.lower_laws.specs.Texted.{Takes, asks_of, text_asks}
use Rattle.lower_laws.specs.Values.{AllBelow, is_plain, is_simple, Holds as LowHolds}
use Rattle.lower_laws.proofs.Chained.{Reached}
use Rattle.lower_laws.proofs.Doing.{after}
use Rattle.lower_laws.proofs.Items.{gives_same}
use Rattle.lower_laws.proofs.Single.{sets}
use Rattle.lower_laws.proofs.Texted.{Texted, Turned, texted}
use Rattle.lower_laws.proofs.Typing.{place_of_bytes, place_of_strings}
use Rattle.list_laws.specs.Lists.{IsList}
use Rattle.list_laws.proofs.Indexed.{asked_both}
use Rattle.list_laws.proofs.Lowered.{two_come}
use Rattle.list_laws.proofs.Walked.{two_behind}
use Rattle.object_laws.specs.Done.{AllAsked, Came, HasLayout}
use Rattle.object_laws.specs.Ghost.{Ghost, ListOf}
use Rattle.object_laws.specs.Known.{Known}
use Rattle.object_laws.specs.Represents.{ListAt, Represents, array_block, head_block}
use Rattle.object_laws.specs.Values as high
use Rattle.object_laws.specs.Values.{EachHolds, Given, Holds, Plain, Stands}
use Rattle.object_laws.proofs.Blocks.{found_set}
use Rattle.object_laws.proofs.Bridged.{Later, held_low, later}
use Rattle.object_laws.proofs.Calling.{back, calls_back}
use Rattle.object_laws.proofs.Held.{call_holds}
use Rattle.object_laws.proofs.Passing.{Passed, is_kept_at, is_set_at, operand_kept}
use Rattle.object_laws.proofs.Valued.{Absent, Listing, list_or_none}
use Rattle.csub_tree.specs.declared.stuck.StuckReason.TheVariants.{Unset as IsUnset}
use Rattle.ll_code.specs.State.{Goes, Sticks}
use Rattle.ll_leads.proofs.Ways.{one}
use Rattle.split_laws.proofs.Worded.{asked_first, asked_more}
use Rattle.join_laws.specs.Asked.{Has, HasJoin, are_bytes}
use Rattle.join_laws.specs.Joining.{FollowsOver, IsJoined, IsThere, LackedOver, Names, StringsAreJoined}
use Rattle.join_laws.proofs.Graph.{item_type}
use Rattle.join_laws.proofs.Items.{AreItems}
use Rattle.join_laws.proofs.Joins.{join_gives, join_stops, joined_cost}
use Rattle.join_laws.proofs.Listed.{items_are, join_moves, texts_long}
use Rattle.join_laws.proofs.Texts.{costs_length, joined_from, joined_is}

-- whether the items are bytes
abbrev bytes_of : Kind → Bool
bytes_of kind.Byte = true
bytes_of k = false

module _ (site : Option ℕ) (known : Known) (around : Around) (place : Place) (a b : Operand) (w : Writing) (n : ℕ) (item : Element) (is_word : is_text (kind_of a) ≡ true) (lists : kind_of b ≡ kind.List) (of : IsList around known b.element n item) (words : is_text (kind_seen (Some item)) ≡ true) (takes : Takes around place (type.Ptr 0)) where
  abbrev o : RowOp
  o = row.Method (codes "join") site

  text_or_none : (k : Kind) → is_text k ≡ true → is_text_or_none k ≡ true
  text_or_none kind.Byte h = refl
  text_or_none kind.Text h = refl
  text_or_none _ h = absurd (cc)

  text_there : (k : Kind) → is_text k ≡ true → of_none k ≡ false
  text_there kind.Byte h = refl
  text_there kind.Text h = refl
  text_there _ h = absurd (cc)

  text_comes : (k : Kind) → is_text k ≡ true → never_comes k ≡ false
  text_comes kind.Byte h = refl
  text_comes kind.Text h = refl
  text_comes _ h = absurd (cc)

  text_simple : (k : Kind) → is_text k ≡ true → is_simple k ≡ true
  text_simple kind.Byte h = refl
  text_simple kind.Text h = refl
  text_simple _ h = absurd (cc)

  text_plain : (k : Kind) → is_text k ≡ true → is_plain k ≡ true
  text_plain kind.Byte h = refl
  text_plain kind.Text h = refl
  text_plain _ h = absurd (cc)

  A : Texted around a w
  A = texted around a w (kind_of a) refl (text_or_none (kind_of a) is_word)

  abbrev graph : Small
  graph = small.Listed (listed.Join n)

  abbrev number : ℕ
  number = (small_number graph A.next.found).0

  abbrev m : ℕ
  m = length A.next.body.types

  abbrev calls : LlOp
  calls = op.Call (Some m) number (A.x ∷ b.x ∷ [])

  abbrev puts : LlOp
  puts = op.Set place.variable (Var m)

  -- ---- what is written

  is_join : joins a b ≡ true
  is_join = ap (λ k. of_list k && (is_text_or_none (kind_of a) && not (of_none (kind_of a)))) lists ∙ ap (λ c. c && not (of_none (kind_of a))) (text_or_none (kind_of a) is_word) ∙ ap not (text_there (kind_of a) is_word)

  b_there : (next : Writing) → there around b next ≡ (b.x, next)
  unfolding there
  b_there next = ap (λ k. present around b (of_list_or_none k) next) lists

  list_is : list_of around b ≡ n
  unfolding list_of
  list_is = ap pointed of.typed

  is_written : lower_list_op around o place (a ∷ b ∷ []) w ≡ writing (small_number graph A.next.found).1 (record { types = A.next.body.types ++ type.Ptr 0 ∷ []; ops = (A.next.body.ops ++ calls ∷ []) ++ puts ∷ [] })
  unfolding lowered method_of method_of_two joined join give_listed by_small
  is_written =
      two_come around o place a b w (text_comes (kind_of a) is_word) (ap never_comes lists)
      ∙ ap (λ c. if c then join around place a b w else lower_op around o place (a ∷ b ∷ []) w) is_join
      ∙ ap (λ made. taking made (λ x next. taking (there around b next) (λ y last. give_listed around place (listed.Join (list_of around b)) (type.Ptr 0) (x ∷ y ∷ []) last))) A.is
      ∙ ap (λ made. taking made (λ y last. give_listed around place (listed.Join (list_of around b)) (type.Ptr 0) (A.x ∷ y ∷ []) last)) (b_there A.next)
      ∙ ap (λ l. give_listed around place (listed.Join l) (type.Ptr 0) (A.x ∷ b.x ∷ []) A.next) list_is
      ∙ gives_same around place (Var m) (type.Ptr 0) (writing (small_number graph A.next.found).1 (record { types = A.next.body.types ++ type.Ptr 0 ∷ []; ops = A.next.body.ops ++ calls ∷ [] })) (λ h. absurd (cc)) takes.1

  new_long : length (A.new ++ type.Ptr 0 ∷ []) ≡ length A.new + 1
  new_long = length-append A.new (type.Ptr 0 ∷ [])

  m_is : m ≡ length w.body.types + length A.new
  m_is = ap length A.types ∙ length-append w.body.types A.new

  -- ---- the items

  abbrev bytes : Bool
  bytes = bytes_of (kind_seen (Some item))

  typed : type_seen around.layout (Some item) ≡ item_type bytes
  typed = by (kind_seen (Some item)) refl words
    where
      by : (k : Kind) → kind_seen (Some item) ≡ k → is_text k ≡ true → type_seen around.layout (Some item) ≡ item_type (bytes_of k)
      by kind.Byte h t = place_of_bytes around.layout (Some item) h
      by kind.Text h t = place_of_strings around.layout (Some item) h
      by _ h t = absurd (cc)

  field_same : (c : Bool) → field_type (item_type c) ≡ item_type c
  field_same true = refl
  field_same false = refl

  items_typed : item_of around.layout (word (n + 1)) ≡ item_type bytes
  items_typed = of.items ∙ ap field_type typed ∙ field_same bytes

  bytes_same : (c : Bool) → are_bytes (item_type c) ≡ c
  bytes_same true = refl
  bytes_same false = refl

  -- ---- what it does

  module _ (p : LlProgram) (numbers : Numbers) (raised : ℕ → Value) (arguments : List (List ℕ)) (rest : List LlOp) (e : LlExit) (frames : List Frame) (core : Core) (g : Ghost) (world : World)
      (structs : HasLayout p around.layout) (has : AllAsked (Has p around.layout numbers raised core) (asks_of a ++ Make graph ∷ []) w.found)
      (stands : Represents around.layout known g world.heap world.left core.blocks core.statics) (left : world.left ≡ core.steps)
      (room : length w.body.types + length (A.new ++ type.Ptr 0 ∷ []) ≤ length core.vars) (inside : place.variable < length w.body.types) (below : AllBelow (length w.body.types) (a ∷ b ∷ [])) where
    abbrev Here : State
    Here = At (A.ops ++ (calls ∷ puts ∷ rest)) e frames core

    abbrev head : Value
    head = operand core.vars b.x

    abbrev Done : List Meant → Type 0
    Done vs = FollowsOver head 1 known around place p arguments Here rest e frames core g raised 0 (length w.body.types) world (meant_op known.program w.found.covered o vs world)

    AsksSame : Kind → Type 0
    AsksSame k = AllAsked (Has p around.layout numbers raised core) (text_asks k) w.found → HasAll p around.layout numbers raised core (text_asks k) w.found

    asks_same : (k : Kind) → is_text k ≡ true → AsksSame k
    unfolding AsksSame
    asks_same kind.Byte h has = has
    asks_same kind.Text h has = has
    asks_same _ h has = absurd (cc)

    has_asks : HasAll p around.layout numbers raised core (asks_of a) w.found
    unfolding AsksSame asks_same
    has_asks = asks_same (kind_of a) is_word (asked_first (Has p around.layout numbers raised core) (asks_of a) (Make graph ∷ []) w.found has)

    has_graph : HasJoin p around.layout numbers raised core bytes n number
    has_graph =
        let it = (asked_more (Has p around.layout numbers raised core) (asks_of a) (Make graph ∷ []) w.found has).0 in
        subst (λ f. HasJoin p around.layout numbers raised core bytes n (small_number graph f).0) (sym A.asked)
        (subst (λ c. HasJoin p around.layout numbers raised core c n (small_number graph (all_asked (asks_of a) w.found)).0) (ap are_bytes items_typed ∙ bytes_same bytes) it)

    module _ (between : List ℕ) (i : ℕ) (texts : List (List ℕ)) (v : Meant) (turned : Turned p arguments Here (calls ∷ puts ∷ rest) e frames core (length w.body.types) A.x v) (x : Value) (x_is : operand turned.mid.vars A.x ≡ x) (t : IsText turned.mid.blocks turned.mid.statics x between)
        (struct : is_list_struct around.layout n ≡ true) (list : ListAt around.layout known g world.heap world.left core.blocks core.statics n i head) (texts_are : texts_of list.items ≡ Some texts) where
      abbrev mid : Core
      mid = turned.mid

      abbrev r : Reached p arguments Here (calls ∷ puts ∷ rest) e frames core mid (length w.body.types)
      r = turned.reached

      passed : Passed (length w.body.types) core mid
      passed = record { memory = r.memory; others = r.others; room = r.room; function = r.function; block = r.block }

      stands_mid : Represents around.layout known g world.heap world.left mid.blocks mid.statics
      stands_mid = subst (λ (c : Core). Represents around.layout known g world.heap world.left c.blocks c.statics) (sym r.memory) stands

      left_mid : world.left ≡ mid.steps
      left_mid = left ∙ sym (ap (λ (c : Core). c.steps) r.memory)

      has_mid : HasJoin p around.layout numbers raised mid bytes n number
      has_mid = join_moves p around.layout numbers raised core mid (ap (λ (c : Core). c.statics) r.memory) (ap (λ (c : Core). c.steps) r.memory) bytes n number has_graph

      found_mid : (y : Value) (block : Block) → found core.blocks core.statics y ≡ Some block → found mid.blocks mid.statics y ≡ Some block
      found_mid y block h = ap (λ (c : Core). found c.blocks c.statics y) r.memory ∙ h

      head_mid : found mid.blocks mid.statics head ≡ Some (head_block n (length texts) list.array)
      head_mid = found_mid head _ list.head_is ∙ ap (λ q. Some (head_block n q list.array)) (texts_long list.items texts texts_are)

      array_mid : found mid.blocks mid.statics list.array ≡ Some (array_block n (list.values ++ list.spare))
      array_mid = found_mid list.array _ list.array_is

      items : AreItems bytes mid.blocks mid.statics list.values texts
      items = items_are stands_mid item (text_plain (kind_seen (Some item)) words) bytes typed texts (subst (λ s. EachHolds around.layout known g s list.values list.items) of.item_is list.each) texts_are

      same : operands mid.vars (A.x ∷ b.x ∷ []) ≡ x ∷ head ∷ []
      same = ap (λ q. q ∷ operand mid.vars b.x ∷ []) x_is ∙ ap (λ q. x ∷ q ∷ []) (operand_kept passed b.x below.1.0)

      set : any_unset (x ∷ head ∷ []) ≡ false
      set = ap (λ q. q || (is_unset head || false)) (is_set t) ∙ ap (λ q. q || false) (found_set mid.blocks mid.statics head _ head_mid)

      abbrev frame : Frame
      frame = waiting mid (Some m) (puts ∷ rest) e

      enters : Leads p arguments 0 (At (calls ∷ puts ∷ rest) e frames mid) [] (Calling number (x ∷ head ∷ []) (frame ∷ frames) mid)
      enters = one (ap (λ vs. cond (any_unset vs) (Sticks IsUnset) (Goes (Calling number vs (frame ∷ frames) mid))) same ∙ ap (λ c. cond c (Sticks IsUnset) (Goes (Calling number (x ∷ head ∷ []) (frame ∷ frames) mid))) set) refl

      abbrev cost : ℕ
      cost = joined_cost p arguments around.layout numbers raised bytes n number mid world.left has_mid structs struct items_typed x head list.array between t list.values list.spare texts items head_mid array_mid left_mid stands.few list.long

      -- the steps do not suffice
      short : world.left < cost → LackedOver p arguments Here core head
      short less =
          let d = join_stops p arguments around.layout numbers raised bytes n number mid world.left has_mid structs struct items_typed x head list.array between t list.values list.spare texts items head_mid array_mid left_mid stands.few list.long (frame ∷ frames) less in
          record {
            last = d.last;
            leads = on r.leads (on enters d.leads);
            ends = d.ends;
            blocks = d.blocks ∙ ap (λ (c : Core). c.blocks) r.memory;
            holds = λ placed y h. by placed y (in_parts y (x ∷ []) (list.array ∷ (slots mid ++ waiting_roots p (frame ∷ frames))) (d.holds y h));
          }
        where
          call_root : IsPlaced p Here → (y : ℕ) → 0 < times y (roots p (Calling number (x ∷ head ∷ []) (frame ∷ frames) mid)) → 0 < times y (roots p Here)
          call_root placed y h = r.holds y (call_holds p (puts ∷ rest) e frames mid (Some m) number (A.x ∷ b.x ∷ []) (r.placed placed) y (subst (λ vs. 0 < times y (roots p (Calling number vs (frame ∷ frames) mid))) (sym same) h))

          named : (y : ℕ) (z : Value) → 0 < times y (z ∷ []) → list.array ≡ z → Names core head y
          named y z h q = (head_block n (length list.items) list.array, list.head_is, subst (λ l. 0 < times y (l ∷ [])) (sym q) h)

          tail : IsPlaced p Here → (y : ℕ) → (0 < times y (list.array ∷ [])) ⊎ (0 < times y (slots mid ++ waiting_roots p (frame ∷ frames))) → (0 < times y (roots p Here)) ⊎ Names core head y
          tail placed y (inl h) = inr (named y list.array h refl)
          tail placed y (inr h) = inl (call_root placed y (in_second y (x ∷ head ∷ []) (slots mid ++ waiting_roots p (frame ∷ frames)) h))

          by : IsPlaced p Here → (y : ℕ) → (0 < times y (x ∷ [])) ⊎ (0 < times y (list.array ∷ (slots mid ++ waiting_roots p (frame ∷ frames)))) → (0 < times y (roots p Here)) ⊎ Names core head y
          by placed y (inl h) = inl (call_root placed y (in_first y (x ∷ head ∷ []) (slots mid ++ waiting_roots p (frame ∷ frames)) (in_first y (x ∷ []) (head ∷ []) h)))
          by placed y (inr h) = tail placed y (in_parts y (list.array ∷ []) (slots mid ++ waiting_roots p (frame ∷ frames)) h)

      abbrev whole : List ℕ
      whole = joined_from between 0 texts

      -- they do
      long : cost ≤ world.left → Came 1 known around place p arguments Here rest e frames core g 0 (length w.body.types) world (Text whole) (record world { left = world.left - cost })
      long enough =
          let it = join_gives p arguments around.layout numbers raised bytes n number mid world.left has_mid structs struct items_typed x head list.array between t list.values list.spare texts items head_mid array_mid left_mid stands.few list.long enough in
          let blocks : List (Option Block) = mid.blocks ++ Some (text_block whole) ∷ [] in
          let fewer : ℕ = world.left - cost in
          let memory : Core = record mid { blocks = blocks; steps = fewer } in
          let behind : Core = back mid memory (Some m) it.y in
          let wide : length behind.vars ≡ length mid.vars = length-set mid.vars m it.y in
          let l : Later around.layout known g world.heap fewer blocks mid.statics = later stands_mid (omega arith) (text_block whole ∷ []) (omega arith) in
          let y_set = is_set it.text in
          let q = r.room in
          let under = m_is in
          let longer = new_long in
          let way : Leads p arguments 0 (At (calls ∷ puts ∷ rest) e frames mid) [] (At (puts ∷ rest) e frames behind) =
          calls_back {memory = memory} 0 same set (λ waits. (let c = it.comes waits in record { end = c.end; same = c.same; leads = c.leads })) in
          let way2 : Leads p arguments 0 (At (puts ∷ rest) e frames behind) [] (At rest e frames (after behind place.variable it.y)) = sets it.y (is_set_at mid m it.y (omega (arith, room, longer, under, q))) y_set in
          let stood : Stands l.ghost (type.Ptr 0) it.y (Text whole) = high.text it.y whole (record { is = l.stands.settled it.y (text_block whole) it.text.is refl; short = it.text.short; small = it.text.small }) in
          let held : Holds around.layout known l.ghost place.element it.y (Text whole) = Plain takes.0 (subst (λ ty. Stands l.ghost ty it.y (Text whole)) (sym takes.1) stood) in
          record {
            end = after behind place.variable it.y;
            text = [];
            leads = on r.leads (on way way2);
            ghost = l.ghost;
            grown = l.grown;
            stands = l.stands;
            holds = subst (λ y. Holds around.layout known l.ghost place.element y (Text whole)) (sym (is_set_at behind place.variable it.y (omega (arith, inside, room, q, wide)))) held;
            few = (let a = length-append mid.blocks (Some (text_block whole) ∷ []) in let b : length mid.blocks ≡ length core.blocks = ap (λ (c : Core). length c.blocks) r.memory in omega (arith, a, b));
            memory = ap (λ (c : Core). record c { blocks = blocks; steps = fewer }) r.memory ∙ ap (λ ss. forgotten (record core { blocks = blocks; statics = ss; steps = fewer })) (sym (ap (λ (c : Core). c.statics) r.memory));
            others = λ k below_k other. is_kept_at behind place.variable k it.y other ∙ is_kept_at mid m k it.y (λ z. absurd (omega (arith, below_k, under, z))) ∙ r.others k below_k;
            room = length-set behind.vars place.variable it.y ∙ wide ∙ r.room;
            function = r.function;
            block = r.block;
            out = sym (append-nil world.out);
          }

      abbrev Answers : Answer → Type 0
      Answers answer = FollowsOver head 1 known around place p arguments Here rest e frames core g raised 0 (length w.body.types) world answer

      abbrev after_cost : ℕ → Answer
      after_cost c = if nat_lt world.left c then Lacks else Gives (Text whole) (record world { left = world.left - c })

      paid : Answers (after_cost cost)
      paid = by (nat_lt world.left cost) refl
        where
          by : (c : Bool) → nat_lt world.left cost ≡ c → Answers (if c then Lacks else Gives (Text whole) (record world { left = world.left - cost }))
          by true h = short (is_less world.left cost h)
          by false h = long (not_less world.left cost h)

      meant : meant_op known.program w.found.covered o (Text between ∷ Ref i ∷ []) world ≡ after_cost cost
      meant =
          ap (λ o. on_list (λ vs. if_some bad (texts_of vs) (λ texts. new_text (join_by (λ t. t) between texts))) o world) list.object
          ∙ ap (λ o. if_some bad o (λ texts. new_text (join_by (λ t. t) between texts)) world) texts_are
          ∙ ap (λ l. new_text l world) (joined_is between texts)
          ∙ ap (λ c. after_cost (1 + c)) (costs_length between 0 texts)

      done_so : Done (Text between ∷ Ref i ∷ [])
      done_so = subst Answers (sym meant) paid

    -- the items are no strings: the operation is for no such values
    unfit : (between : List ℕ) (i : ℕ) (vs : List Meant) → slice_get world.heap i ≡ Some (ListedObject vs) → texts_of vs ≡ None → Done (Text between ∷ Ref i ∷ [])
    unfit between i vs object none =
        subst (λ answer. FollowsOver head 1 known around place p arguments Here rest e frames core g raised 0 (length w.body.types) world answer)
        (sym (ap (λ o. on_list (λ vs. if_some bad (texts_of vs) (λ texts. new_text (join_by (λ t. t) between texts))) o world) object ∙ ap (λ o. if_some bad o (λ texts. new_text (join_by (λ t. t) between texts)) world) none)) tt

    with_list : (v u : Meant) → LowHolds around.layout core.blocks core.statics a.element (operand core.vars a.x) v → IsThere (v ∷ u ∷ []) → Listing around.layout known g b.element head u → Done (v ∷ u ∷ [])
    with_list v u held good listing =
        subst (λ u. Done (v ∷ u ∷ [])) (sym listing.high) (told (operand turned.mid.vars A.x) v refl refl turned.stands)
      where
        turned : Turned p arguments Here (calls ∷ puts ∷ rest) e frames core (length w.body.types) A.x v
        turned = A.turns p numbers raised arguments (calls ∷ puts ∷ rest) e frames core v has_asks (omega (arith, room, new_long)) held

        struct : is_list_struct around.layout n ≡ true
        struct = subst (λ k. is_list_struct around.layout k ≡ true) (ap pointed (sym listing.typed ∙ of.typed)) listing.struct

        home : slice_get g.homes listing.i ≡ Some (record { sort = ListOf n; head = head })
        home = subst (λ k. slice_get g.homes listing.i ≡ Some (record { sort = ListOf k; head = head })) (ap pointed (sym listing.typed ∙ of.typed)) listing.home

        list : ListAt around.layout known g world.heap world.left core.blocks core.statics n listing.i head
        list = stands.lists n listing.i head home struct

        by_items : (between : List ℕ) (x : Value) → operand turned.mid.vars A.x ≡ x → IsText turned.mid.blocks turned.mid.statics x between → (o : Option (List (List ℕ))) → texts_of list.items ≡ o → Done (Text between ∷ Ref listing.i ∷ [])
        by_items between x is t None h = unfit between listing.i list.items list.object h
        by_items between x is t (Some texts) h = done_so between listing.i texts v turned x is t struct list h

        told : (x : Value) (s : Meant) → operand turned.mid.vars A.x ≡ x → v ≡ s → LowStands turned.mid.blocks turned.mid.statics (type.Ptr 0) x s → Done (v ∷ Ref listing.i ∷ [])
        told x s is e (text z between t) = subst (λ v. Done (v ∷ Ref listing.i ∷ [])) (sym e) (by_items between z is t (texts_of list.items) refl)
        told x s is e missing = absurd (subst (λ v. IsThere (v ∷ u ∷ [])) e good)

    follow : (us : List Meant) → Given known around g core (a ∷ b ∷ []) us → IsThere us
        → FollowsOver head 1 known around place p arguments (At ((A.ops ++ (calls ∷ puts ∷ [])) ++ rest) e frames core) rest e frames core g raised 0 (length w.body.types) world (meant_op known.program w.found.covered o us world)
    follow [] given good = absurd given
    follow (v ∷ []) given good = absurd given.1
    follow (v ∷ u ∷ []) given good =
        subst (λ l. FollowsOver head 1 known around place p arguments (At l e frames core) rest e frames core g raised 0 (length w.body.types) world (meant_op known.program w.found.covered o (v ∷ u ∷ []) world)) (sym (append_assoc A.ops (calls ∷ puts ∷ []) rest))
        (either (list_or_none of.is given.1.0))
      where
        either : Listing around.layout known g b.element head u ⊎ Absent b.element head u → Done (v ∷ u ∷ [])
        either (inl listing) = with_list v u (held_low stands (text_simple (kind_of a) is_word) given.0) good listing
        either (inr gone) = absurd (let q : kind.List ≡ kind.MaybeList = sym lists ∙ gone.may in cc)
    follow (v ∷ u ∷ s ∷ us) given good = absurd given.1.1

  join_done : IsJoined known around o w.found.covered (asks_of a ++ Make graph ∷ []) place a b w
  join_done = record {
    ops = A.ops ++ (calls ∷ puts ∷ []);
    new = A.new ++ type.Ptr 0 ∷ [];
    asked = ap (λ (r : Writing). r.found) is_written ∙ ap (λ f. (small_number graph f).1) A.asked ∙ sym (asked_both (asks_of a) (Make graph ∷ []) w.found);
    written = ap (λ (r : Writing). r.body.ops) is_written ∙ ap (λ l. (l ++ calls ∷ []) ++ puts ∷ []) A.written ∙ two_behind w.body.ops A.ops calls puts;
    types = ap (λ (r : Writing). r.body.types) is_written ∙ ap (λ l. l ++ type.Ptr 0 ∷ []) A.types ∙ append_assoc w.body.types A.new (type.Ptr 0 ∷ []);
    follows = λ p numbers raised arguments rest e frames core g world vs structs has stands left room inside below given good. follow p numbers raised arguments rest e frames core g world structs has stands left room inside below vs given good;
  }

pub strings_are_joined : StringsAreJoined
strings_are_joined site known around place a b w n item is_word lists of words takes = join_done site known around place a b w n item is_word lists of words takes
