-- `split` is done: what is written for it, over the graph.
use Rattle.std.proofs.Common.{◌≡◌, ◌<◌, ◌≤◌, ◌⊎◌, inl, inr, ◌||◌, ◌&&◌, not, ℕ, ◌+◌, ◌^◌, true, false, List, [], ◌∷◌, ◌++◌, length, map, Option, Some, None, refl, sym, ap, ◌∙◌, subst, arith, append_assoc, length-append}
use Rattle.std.specs.Prelude.{nat_eq, sum_by, codes, if◌then◌else◌}
use Rattle.std.proofs.lemmas.List.Elements.{All-nil}
use Rattle.ann_element.specs.declared.element.Element.{Element}
use Rattle.csub_tree.specs.State.{Value, Byte, Null, Core}
use Rattle.csub_tree.specs.Statement.{operand, operands, any_unset}
use Rattle.csub_tree.specs.declared.tree.COperand.TheVariants.{Var}
use Rattle.ll_code.specs.State.{Frame, State, At}
use Rattle.ll_code.specs.declared.program.LlType.TheVariants as type
use Rattle.ll_code.specs.declared.program.LlOp.{LlOp}
use Rattle.ll_code.specs.declared.program.LlOp.TheVariants as op
use Rattle.ll_code.specs.declared.program.LlExit.{LlExit}
use Rattle.ll_code.specs.declared.program.LlProgram.{LlProgram}
use Rattle.ll_build.specs.declared.needs.Numbers.{Numbers}
use Rattle.ll_texts.specs.Stands.{Stands as LowStands, text, missing}
use Rattle.ll_texts.proofs.Reading.{is_set}
use Rattle.rpy_tree.specs.Value.{Value as Meant, Text, Nothing}
use Rattle.rpy_meaning.specs.Costs.{split_cost}
use Rattle.rpy_meaning.specs.declared.row.RowOp.{RowOp}
use Rattle.rpy_meaning.specs.declared.row.RowOp.TheVariants as row
use Rattle.rpy_meaning.specs.Operations.{op as meant_op}
use Rattle.rpy_meaning.specs.World.{World}
use Rattle.rtyper_layout.specs.declared.kind.Kind.TheVariants as kind
use Rattle.rtyper_data.specs.declared.small.Listed.TheVariants as listed
use Rattle.rtyper_data.specs.declared.small.Small.{Small}
use Rattle.rtyper_data.specs.declared.small.Small.TheVariants as small
use Rattle.rtyper_data.specs.declared.found.Found.{Found}
use Rattle.rtyper_data.specs.Converting.{by_small}
use Rattle.rtyper_data.specs.Finding.{small_number}
use Rattle.rtyper_data.specs.Seen.{Around, Operand, Place, kind_of, type_of, Writing, writing}
use Rattle.rtyper_op.specs.Lowering.{lower_op, never_comes}
use Rattle.list_shape.specs.Shapes.{taking}
use Rattle.rtyper_list.specs.Lowering.{lower_list_op, lowered, method_of, method_of_two, of_byte, splits, split_by}
use Rattle.rtyper_list.specs.Methods.{split, split_to}
use Rattle.rtyper_list.specs.Operands.{give_listed, list_at, list_if, of_list, of_none}
use Rattle.lower_laws.specs.Asked.{Ask, Make, all_asked}
use Rattle.lower_laws.specs.Values.{AllBelow, is_simple, Holds as LowHolds}
use Rattle.lower_laws.proofs.Items.{gives_same}
use Rattle.lower_laws.proofs.Valued.{byte_held, text_held}
use Rattle.list_laws.proofs.Indexed.{asked_both}
use Rattle.list_laws.proofs.Lowered.{two_come}
use Rattle.list_laws.proofs.Walked.{two_behind}
use Rattle.object_laws.specs.Done.{AllAsked, Follows, HasLayout}
use Rattle.object_laws.specs.Ghost.{Ghost}
use Rattle.object_laws.specs.Known.{Known}
use Rattle.object_laws.specs.Represents.{Represents}
use Rattle.object_laws.specs.Values.{Given}
use Rattle.object_laws.proofs.Bridged.{held_low}
use Rattle.object_laws.proofs.Passing.{operand_kept}
use Rattle.list_copy_laws.specs.Joined.{Takes}
use Rattle.list_copy_laws.proofs.Ready.{from_there}
use Rattle.dict_find_laws.proofs.Many.{after_cost, many_given}
use Rattle.split_laws.specs.Asked.{Has, HasSplit}
use Rattle.split_laws.specs.Splitting.{AreTexts, CanSplit, IsSplit, StringsAreSplit, asks_by, can_be_split, parts_in}
use Rattle.split_laws.proofs.Given.{cost_is, split_made}
use Rattle.split_laws.proofs.Pieces.{pieces, pieces_are}
use Rattle.split_laws.proofs.Splits.{cost, split_lacks}
use Rattle.split_laws.proofs.Moving.{split_moves}
use Rattle.split_laws.proofs.Worded.{Word, Worded, asked_first, asked_more, word_for}

module _ (site : Option ℕ) (known : Known) (around : Around) (place : Place) (a b : Operand) (w : Writing) (n : ℕ) (item : Element) (kinds : can_be_split (kind_of a)) (is_byte : kind_of b ≡ kind.Byte) (takes : Takes around known place n item) (texts : AreTexts around.layout item) where
  abbrev o : RowOp
  o = row.Method (codes "split") site

  it : Word around a w
  it = word_for around a w kinds

  abbrev asks : List Ask
  asks = asks_by (kind_of a) (type_of around a) w.found.covered

  abbrev first : Found
  first = all_asked asks w.found

  abbrev graph : Small
  graph = small.Listed (listed.Split n)

  abbrev number : ℕ
  number = (small_number graph first).0

  abbrev m : ℕ
  m = length (w.body.types ++ it.new)

  abbrev calls : LlOp
  calls = op.Call (Some m) number (it.x ∷ b.x ∷ [])

  abbrev puts : LlOp
  puts = op.Set place.variable (Var m)

  -- ---- what is written

  a_comes : never_comes (kind_of a) ≡ false
  a_comes = by kinds
    where
      by : can_be_split (kind_of a) → never_comes (kind_of a) ≡ false
      by (inl h) = ap never_comes h
      by (inr (inl h)) = ap never_comes h
      by (inr (inr h)) = ap never_comes h

  no_list : of_list (kind_of a) ≡ false
  no_list = by kinds
    where
      by : can_be_split (kind_of a) → of_list (kind_of a) ≡ false
      by (inl h) = ap of_list h
      by (inr (inl h)) = ap of_list h
      by (inr (inr h)) = ap of_list h

  some_there : of_none (kind_of a) ≡ false
  some_there = by kinds
    where
      by : can_be_split (kind_of a) → of_none (kind_of a) ≡ false
      by (inl h) = ap of_none h
      by (inr (inl h)) = ap of_none h
      by (inr (inr h)) = ap of_none h

  simple : is_simple (kind_of a) ≡ true
  simple = by kinds
    where
      by : can_be_split (kind_of a) → is_simple (kind_of a) ≡ true
      by (inl h) = ap is_simple h
      by (inr (inl h)) = ap is_simple h
      by (inr (inr h)) = ap is_simple h

  is_split : splits a b ≡ true
  is_split = ap (λ c. c && (not (of_none (kind_of a)) && not (of_list (kind_of a)))) (ap of_byte is_byte) ∙ ap (λ c. not c && not (of_list (kind_of a))) some_there ∙ ap (λ c. not c) no_list

  place_is : list_at around place ≡ Some n
  unfolding list_at
  place_is = ap (list_if around.layout) takes.list.typed ∙ ap (λ c. if c then Some n else None) takes.struct

  is_written : lower_list_op around o place (a ∷ b ∷ []) w ≡ writing (small_number graph first).1 (record { types = (w.body.types ++ it.new) ++ type.Ptr n ∷ []; ops = ((w.body.ops ++ it.ops) ++ calls ∷ []) ++ puts ∷ [] })
  unfolding lowered method_of method_of_two split_by split give_listed by_small
  is_written =
      two_come around o place a b w a_comes (ap never_comes is_byte)
      ∙ ap (λ c. if c then split around place a b.x w else lower_op around o place (a ∷ b ∷ []) w) is_split
      ∙ ap (λ r. split_to around place a b.x r w) place_is
      ∙ ap (λ made. taking made (λ x next. give_listed around place (listed.Split n) (type.Ptr n) (x ∷ b.x ∷ []) next)) it.written
      ∙ gives_same around place (Var m) (type.Ptr n) (writing (small_number graph first).1 (record { types = (w.body.types ++ it.new) ++ type.Ptr n ∷ []; ops = (w.body.ops ++ it.ops) ++ calls ∷ [] })) (λ h. absurd (cc)) takes.list.typed

  new_long : length (it.new ++ type.Ptr n ∷ []) ≡ length it.new + 1
  new_long = length-append it.new (type.Ptr n ∷ [])

  m_is : m ≡ length w.body.types + length it.new
  m_is = length-append w.body.types it.new

  -- ---- what it does

  module _ (p : LlProgram) (numbers : Numbers) (raised : ℕ → Value) (arguments : List (List ℕ)) (rest : List LlOp) (e : LlExit) (frames : List Frame) (core : Core) (g : Ghost) (world : World)
      (structs : HasLayout p around.layout) (has : AllAsked (Has p around.layout numbers raised core) (asks ++ Make graph ∷ []) w.found)
      (stands : Represents around.layout known g world.heap world.left core.blocks core.statics) (left : world.left ≡ core.steps)
      (room : length w.body.types + length (it.new ++ type.Ptr n ∷ []) ≤ length core.vars) (inside : place.variable < length w.body.types) (below : AllBelow (length w.body.types) (a ∷ b ∷ [])) where
    abbrev Here : State
    Here = At (it.ops ++ (calls ∷ puts ∷ rest)) e frames core

    abbrev Done : List Meant → Type 0
    Done vs = Follows (2 + parts_in vs) known around place p arguments Here rest e frames core g raised (1 + parts_in vs) (length w.body.types) world (meant_op known.program w.found.covered o vs world)

    has_asks : AllAsked (Has p around.layout numbers raised core) asks w.found
    has_asks = asked_first (Has p around.layout numbers raised core) asks (Make graph ∷ []) w.found has

    has_graph : HasSplit p around.layout numbers raised core n number
    has_graph = (asked_more (Has p around.layout numbers raised core) asks (Make graph ∷ []) w.found has).0

    module _ (bytes : List ℕ) (c : ℕ) (held : LowHolds around.layout core.blocks core.statics a.element (operand core.vars a.x) (Text bytes)) (byte_is : operand core.vars b.x ≡ Byte c) (short : length bytes + 1 < 2 ^ 63) where
      way : Worded p arguments Here (calls ∷ puts ∷ rest) e frames core (length w.body.types) it.x bytes
      way = it.enters p numbers raised arguments (calls ∷ puts ∷ rest) e frames core bytes has_asks (omega (arith, room, new_long)) held

      abbrev mid : Core
      mid = way.went.mid

      abbrev parts : List (List ℕ)
      parts = pieces c [] bytes

      stands_mid : Represents around.layout known g world.heap world.left mid.blocks mid.statics
      stands_mid = subst (λ (c : Core). Represents around.layout known g world.heap world.left c.blocks c.statics) (sym way.went.passed.memory) stands

      left_mid : world.left ≡ mid.steps
      left_mid = left ∙ sym (ap (λ (c : Core). c.steps) way.went.passed.memory)

      has_mid : HasSplit p around.layout numbers raised mid n number
      has_mid = split_moves p around.layout numbers raised core mid (ap (λ (c : Core). c.statics) way.went.passed.memory) (ap (λ (c : Core). c.steps) way.went.passed.memory) n number has_graph

      same : operands mid.vars (it.x ∷ b.x ∷ []) ≡ way.value ∷ Byte c ∷ []
      same = ap (λ q. q ∷ operand mid.vars b.x ∷ []) way.went.is ∙ ap (λ q. way.value ∷ q ∷ []) (operand_kept way.went.passed b.x below.1.0 ∙ byte_is)

      set : any_unset (way.value ∷ Byte c ∷ []) ≡ false
      set = ap (λ q. q || false) (is_set way.stands)

      abbrev paid : ℕ
      paid = cost p arguments around.layout numbers raised n number mid world.left has_mid structs takes.struct way.value bytes c way.stands short left_mid

      by_cost : Follows (2 + length parts) known around place p arguments Here rest e frames core g raised (1 + length parts) (length w.body.types) world (after_cost world paid (map Text parts))
      by_cost =
          from_there (2 + length parts) known around place p arguments rest e frames core g raised (1 + length parts) (length w.body.types) world (omega arith) way.went (after_cost world paid (map Text parts))
          (many_given (2 + length parts) known around place n takes.list.is takes.list.typed takes.struct p raised arguments rest e frames mid g (1 + length parts) (length w.body.types) world number m (it.x ∷ b.x ∷ []) (way.value ∷ Byte c ∷ []) paid (map Text parts) (length parts + 1) same set
          (omega (arith, inside, m_is)) (let q = way.went.passed.room in omega (arith, room, new_long, m_is, q)) (omega (arith, m_is))
          (λ less waits. split_lacks p arguments around.layout numbers raised n number mid world.left has_mid structs takes.struct way.value bytes c way.stands short left_mid waits less)
          (λ enough. (omega arith, split_made p arguments around.layout numbers raised known n number mid g world.heap world.left has_mid structs takes.struct item takes.list.item_is texts stands_mid way.value bytes c way.stands short left_mid enough)))

      there : Done (Text bytes ∷ Text (c ∷ []) ∷ [])
      there =
          subst (λ ps. Follows (2 + length ps) known around place p arguments Here rest e frames core g raised (1 + length ps) (length w.body.types) world (after_cost world (split_cost (length ps) (sum_by length ps)) (map Text ps))) (sym (pieces_are c [] bytes (All-nil (λ y. nat_eq c y ≡ false))))
          (subst (λ q. Follows (2 + length parts) known around place p arguments Here rest e frames core g raised (1 + length parts) (length w.body.types) world (after_cost world q (map Text parts)))
          (cost_is p arguments around.layout numbers raised known n number mid g world.heap world.left has_mid structs takes.struct item takes.list.item_is texts stands_mid way.value bytes c way.stands short left_mid) by_cost)

    -- the first operand is a string, or `None`
    abbrev Told : Meant → Type 0
    Told v = ((bytes : List ℕ) × (v ≡ Text bytes)) ⊎ ((v ≡ Nothing) × (operand core.vars a.x ≡ Null))

    told : (v : Meant) → LowHolds around.layout core.blocks core.statics a.element (operand core.vars a.x) v → Told v
    told v held = by kinds
      where
        of : (y : Value) (u : Meant) → operand core.vars a.x ≡ y → v ≡ u → LowStands core.blocks core.statics (type.Ptr 0) y u → Told v
        of y u is same (text z all t) = inl (all, same)
        of y u is same missing = inr (same, is)

        by : can_be_split (kind_of a) → Told v
        by (inl h) = of (operand core.vars a.x) v refl refl (text_held (inl h) held)
        by (inr (inl h)) = (let x = byte_held h held in inl (x.number ∷ [], x.high))
        by (inr (inr h)) = of (operand core.vars a.x) v refl refl (text_held (inr h) held)

    -- `None` is met where it may be there
    may_miss : (u : Meant) → CanSplit (kind_of a) (Nothing ∷ u ∷ []) → kind_of a ≡ kind.MaybeText
    may_miss u good = by kinds
      where
        by : can_be_split (kind_of a) → kind_of a ≡ kind.MaybeText
        by (inl h) = absurd (subst (λ k. CanSplit k (Nothing ∷ u ∷ [])) h good)
        by (inr (inl h)) = absurd (subst (λ k. CanSplit k (Nothing ∷ u ∷ [])) h good)
        by (inr (inr h)) = h

    short_enough : (bytes : List ℕ) (u : Meant) → CanSplit (kind_of a) (Text bytes ∷ u ∷ []) → length bytes + 1 < 2 ^ 63
    short_enough bytes u good = good

    either : (v u : Meant) (c : ℕ) → LowHolds around.layout core.blocks core.statics a.element (operand core.vars a.x) v → operand core.vars b.x ≡ Byte c → u ≡ Text (c ∷ []) → CanSplit (kind_of a) (v ∷ u ∷ []) → Told v → Done (v ∷ u ∷ [])
    either v u c held low high good (inl (bytes, is)) =
        subst (λ v. Done (v ∷ u ∷ [])) (sym is) (subst (λ u. Done (Text bytes ∷ u ∷ [])) (sym high)
        (there bytes c (subst (λ v. LowHolds around.layout core.blocks core.statics a.element (operand core.vars a.x) v) is held) low (short_enough bytes u (subst (λ v. CanSplit (kind_of a) (v ∷ u ∷ [])) is good))))
    either v u c held low high good (inr (is, null)) =
        subst (λ v. Done (v ∷ u ∷ [])) (sym is)
        (it.misses 2 known place p numbers raised arguments (calls ∷ puts ∷ []) rest e frames core g 1 (length w.body.types) world has_asks (may_miss u (subst (λ v. CanSplit (kind_of a) (v ∷ u ∷ [])) is good)) null)

    follow : (us : List Meant) → Given known around g core (a ∷ b ∷ []) us → CanSplit (kind_of a) us
        → Follows (2 + parts_in us) known around place p arguments (At ((it.ops ++ (calls ∷ puts ∷ [])) ++ rest) e frames core) rest e frames core g raised (1 + parts_in us) (length w.body.types) world (meant_op known.program w.found.covered o us world)
    follow [] given good = absurd given
    follow (v ∷ []) given good = absurd given.1
    follow (v ∷ u ∷ []) given good =
        let held = held_low stands simple given.0 in
        let byte = byte_held is_byte (held_low stands (ap is_simple is_byte) given.1.0) in
        subst (λ l. Follows (2 + parts_in (v ∷ u ∷ [])) known around place p arguments (At l e frames core) rest e frames core g raised (1 + parts_in (v ∷ u ∷ [])) (length w.body.types) world (meant_op known.program w.found.covered o (v ∷ u ∷ []) world)) (sym (append_assoc it.ops (calls ∷ puts ∷ []) rest))
        (either v u byte.number held byte.low byte.high good (told v held))
    follow (v ∷ u ∷ s ∷ us) given good = absurd given.1.1

  split_done : IsSplit (CanSplit (kind_of a)) known around o w.found.covered (asks ++ Make graph ∷ []) place (a ∷ b ∷ []) w
  split_done = record {
    ops = it.ops ++ (calls ∷ puts ∷ []);
    new = it.new ++ type.Ptr n ∷ [];
    asked = ap (λ (r : Writing). r.found) is_written ∙ sym (asked_both asks (Make graph ∷ []) w.found);
    written = ap (λ (r : Writing). r.body.ops) is_written ∙ two_behind w.body.ops it.ops calls puts;
    types = ap (λ (r : Writing). r.body.types) is_written ∙ append_assoc w.body.types it.new (type.Ptr n ∷ []);
    follows = λ p numbers raised arguments rest e frames core g world vs structs has stands left room inside below given good. follow p numbers raised arguments rest e frames core g world structs has stands left room inside below vs given good;
  }

pub strings_are_split : StringsAreSplit
strings_are_split site known around place a b w n item kinds is_byte takes texts = split_done site known around place a b w n item kinds is_byte takes texts
