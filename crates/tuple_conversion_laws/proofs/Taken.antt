-- An item of a tuple is taken, and converted.
use Rattle.std.proofs.Common.{◌≡◌, ◌<◌, ◌≤◌, ℕ, zero, suc, ◌+◌, ◌-◌, ◌==◌, ℤ, negsuc, pos, Bool, true, false, List, [], ◌∷◌, ◌++◌, length, Option, Some, None, refl, sym, ap, ◌∙◌, subst, arith, append_assoc, length-append}
use Rattle.std.specs.Prelude.{slice_get, nat_lt, unwrap_or, if◌then◌else◌, option_and_then}
use Rattle.std.proofs.lemmas.Bool.Decides.{nat_tests}
use Rattle.std.proofs.lemmas.List.{append-nil}
use Rattle.ann_element.specs.declared.element.Element.{Element}
use Rattle.ann_element.specs.declared.element.Element.TheVariants as element
use Rattle.csub_tree.specs.State.{Value, Word, Block, Core}
use Rattle.csub_tree.specs.Layout.{shape_over}
use Rattle.csub_tree.specs.Operation.{is_unset}
use Rattle.csub_tree.specs.Statement.{read, operand}
use Rattle.csub_tree.specs.declared.tree.COperand.{COperand}
use Rattle.csub_tree.specs.declared.tree.COperand.TheVariants.{Var, Const}
use Rattle.ll_code.specs.State.{Frame, State, At}
use Rattle.ll_code.specs.declared.program.LlType.{LlType}
use Rattle.ll_code.specs.declared.program.LlType.TheVariants as type
use Rattle.ll_code.specs.declared.program.LlOp.{LlOp}
use Rattle.ll_code.specs.declared.program.LlOp.TheVariants as op
use Rattle.ll_code.specs.declared.program.LlExit.{LlExit}
use Rattle.ll_code.specs.declared.program.LlProgram.{LlProgram}
use Rattle.ll_leads.specs.Memory.{forgotten}
use Rattle.ll_leads.specs.Path.{Leads}
use Rattle.ll_leads.proofs.Joined.{leads_then, leads_more}
use Rattle.ll_build.specs.declared.needs.Numbers.{Numbers}
use Rattle.ll_texts.specs.Texts.{found}
use Rattle.ll_texts.proofs.Reading.{below_length}
use Rattle.rpy_meaning.specs.declared.row.Covers.{Covers}
use Rattle.rpy_meaning.specs.declared.row.RowOp.{RowOp}
use Rattle.rpy_meaning.specs.declared.row.RowOp.TheVariants as row
use Rattle.rpy_meaning.specs.Operations.{op as meant_op}
use Rattle.rpy_meaning.specs.Sequences.{item_at, tuple}
use Rattle.rpy_meaning.specs.World.{World, Op, Answer, Gives, Bad, bad, give as give_meant, if_some}
use Rattle.rpy_tree.specs.Value.{Value as Meant, Word as MeantWord}
use Rattle.rtyper_layout.specs.declared.kind.Kind.TheVariants as kind
use Rattle.rtyper_layout.specs.declared.layout.Layout.{Layout}
use Rattle.rtyper_layout.specs.Kinds.{kind_seen}
use Rattle.rtyper_layout.specs.Layout.{is_tuple}
use Rattle.rtyper_layout.specs.Types.{type_of as type_of_element, type_seen, shape, field_type}
use Rattle.rtyper_op.specs.Lowering.{lower_op, of_some, of_one, of_two, unpack_by, never_comes}
use Rattle.rtyper_op.specs.Placing.{index as data_index, index_by}
use Rattle.rtyper_data.specs.declared.body.Body.{Body}
use Rattle.rtyper_data.specs.declared.found.Found.{Found}
use Rattle.rtyper_data.specs.Converting.{give}
use Rattle.rtyper_data.specs.Numbers.{word}
use Rattle.rtyper_data.specs.Seen.{Around, Operand, Place, type_of, type_at, kind_of, with_op, fresh, Writing, writing}
use Rattle.rtyper_data.specs.Tuples.{fields_of, field_type_of, field_read, item_by, item_of, length_by, length_of, place_of, variable_of}
use Rattle.lower_laws.specs.Asked.{Ask, all_asked, Has as HasOther}
use Rattle.lower_laws.specs.Values.{IsBelow, AllBelow}
use Rattle.lower_laws.proofs.Coming.{one_comes, two_come}
use Rattle.lower_laws.proofs.Doing.{after}
use Rattle.lower_laws.proofs.Items.{items_are}
use Rattle.lower_laws.proofs.Stayed.{field_is}
use Rattle.lower_laws.proofs.Tupled.{tuple_block}
use Rattle.object_laws.specs.Done.{Any, Came, Follows, HasLayout, references}
use Rattle.object_laws.specs.Ghost.{Ghost}
use Rattle.object_laws.specs.Known.{Known}
use Rattle.object_laws.specs.Represents.{Represents}
use Rattle.object_laws.specs.Values.{Holds, AllHold, End, Next, Given}
use Rattle.object_laws.proofs.Blocks.{found_set, reads_field}
use Rattle.object_laws.proofs.Passing.{Passed, sets_more, is_set_at}
use Rattle.object_laws.proofs.Valued.{held_set, word_held}
use Rattle.object_laws.proofs.Variables.{InVariable, in_variable}
use Rattle.conversion_laws.specs.Asked.{Has as HasConversion, asks_for}
use Rattle.conversion_laws.specs.Converted.{tuples_in, items_in}
use Rattle.conversion_laws.specs.Going.{Goes, IsTuple}
use Rattle.conversion_laws.proofs.Valued.{TupleAt, tuple_held}
use Rattle.passing_laws.specs.Done.{Behind, IsDoneBehindWhere}
use Rattle.passing_laws.specs.Given.{Placed, IsGiven}
use Rattle.passing_laws.specs.Standing.{Stood}
use Rattle.passing_laws.proofs.Asking.{one_stood}
use Rattle.passing_laws.proofs.Behind.{at_once}
use Rattle.passing_laws.proofs.Giving.{results_are_given}
use Rattle.tuple_conversion_laws.specs.Tuples.{HasTuples, AreThere, references_given, IsIndex, ItemsAreUnpacked, ItemsAreRead}

-- ---- what is written

reads_there : (around : Around) (place : Place) (n i : ℕ) (t : LlType) (tuple : ℕ × Body) (w : Writing) → (t ≡ type.Void → ⊥) → field_read around place n i t tuple w ≡ give around place (Var (fresh t tuple.1).0) t (writing w.found (with_op (op.GetField (fresh t tuple.1).0 n tuple.0 i) (fresh t tuple.1).1))
reads_there around place n i type.Void tuple w there = absurd (there refl)
reads_there around place n i type.Signed tuple w there = refl
reads_there around place n i type.Char tuple w there = refl
reads_there around place n i type.Bool tuple w there = refl
reads_there around place n i type.Fn tuple w there = refl
reads_there around place n i (type.Ptr m) tuple w there = refl

shape_at_place : (layout : Layout) (parts : List Element) (i : ℕ) (part : Element) → slice_get parts i ≡ Some part → slice_get (shape layout parts) i ≡ Some (field_type (type_of_element layout part))
shape_at_place layout [] i part h = absurd (cc)
shape_at_place layout (e ∷ parts) zero part h = (let q : e ≡ part = cc in ap (λ e. Some (field_type (type_of_element layout e))) q)
shape_at_place layout (e ∷ parts) (suc i) part h = shape_at_place layout parts i part h

-- ---- the item

pub record Item (layout : Layout) (known : Known) (g : Ghost) (part : Element) (xs : List Value) (vs : List Meant) (i : ℕ) : Type 0 where
  pub value : Value
  pub meant : Meant
  pub low : read xs i ≡ value
  pub high : slice_get vs i ≡ Some meant
  pub held : Holds layout known g (Some part) value meant

item_held : {layout : Layout} {known : Known} {g : Ghost} {parts : List Element} {xs : List Value} {vs : List Meant} (i : ℕ) (part : Element) → AllHold layout known g parts xs vs → slice_get parts i ≡ Some part → Item layout known g part xs vs i
item_held i part End h = absurd (cc)
item_held {layout = layout} {known = known} {g = g} zero part (Next {part = e} {x = x} {v = v} held all) h = (let q : e ≡ part = cc in record { value = x; meant = v; low = refl; high = refl; held = subst (λ e. Holds layout known g (Some e) x v) q held })
item_held (suc i) part (Next held all) h = (let r = item_held i part all h in record { value = r.value; meant = r.meant; low = r.low; high = r.high; held = r.held })

vs_long : {layout : Layout} {known : Known} {g : Ghost} {parts : List Element} {xs : List Value} {vs : List Meant} → AllHold layout known g parts xs vs → length vs ≡ length parts
vs_long End = refl
vs_long (Next held all) = ap suc (vs_long all)

module _ (Good : World → List Meant → Type 0) (known : Known) (around : Around) (o : RowOp) (place : Place) (a : Operand) (others : List Operand) (w : Writing) (covers : Covers) (n : ℕ) (parts : List Element) (i : ℕ) (part : Element) (apart : is_tuple around.layout 0 ≡ false) (of : IsTuple around.layout a.element n parts) (at : slice_get parts i ≡ Some part) (there : AreThere around part) (go : Goes around.layout known (Some part) place.element)
    (means : (g : Ghost) (core : Core) (world : World) (v : Meant) (us : List Meant) → Given known around g core (a ∷ others) (v ∷ us) → Good world (v ∷ us) → (h : TupleAt around.layout known g n parts (operand core.vars a.x) v) → (it : Item around.layout known g part h.xs h.vs i) → (c : Bool) × (meant_op known.program covers o (v ∷ us) world ≡ (if c then Gives it.meant world else Bad)))
    (lowers : lower_op around o place (a ∷ others) w ≡ item_by around place a i (type_of around a) w) where
  var : InVariable (type.Ptr n) a.x w.body
  var = in_variable (type.Ptr n) a.x w.body

  abbrev t : LlType
  t = type_of_element around.layout part

  abbrev types1 : List LlType
  types1 = w.body.types ++ var.new

  abbrev m : ℕ
  m = length types1

  abbrev reads : LlOp
  reads = op.GetField m n var.x i

  abbrev last : Writing
  last = writing w.found (record { types = types1 ++ t ∷ []; ops = (w.body.ops ++ var.ops) ++ reads ∷ [] })

  giv : IsGiven known around place (Some part) (Var m) last
  giv = results_are_given known around place (Some part) (Var m) last apart go

  typed : field_type_of around n i ≡ t
  typed = ap (λ ts. unwrap_or (slice_get ts i) type.Void) of.fields ∙ ap (λ o. unwrap_or o type.Void) (shape_at_place around.layout parts i part at) ∙ field_is t there

  abbrev asks : List Ask
  asks = asks_for around.layout t (type_at around place)

  is_written : lower_op around o place (a ∷ others) w ≡ writing (all_asked asks w.found) (record { types = (types1 ++ t ∷ []) ++ giv.new; ops = ((w.body.ops ++ var.ops) ++ reads ∷ []) ++ giv.ops })
  is_written =
      lowers ∙ ap (λ s. item_by around place a i s w) of.typed
      ∙ ap (λ s. field_read around place n i s (variable_of a.x (type.Ptr n) w.body) w) typed
      ∙ ap (λ v. field_read around place n i t v w) var.written
      ∙ reads_there around place n i t (var.x, record { types = types1; ops = w.body.ops ++ var.ops }) w there
      ∙ giv.is

  m_is : m ≡ length w.body.types + length var.new
  m_is = length-append w.body.types var.new

  last_long : length last.body.types ≡ m + 1
  last_long = length-append types1 (t ∷ [])

  abbrev ops : List LlOp
  ops = var.ops ++ (reads ∷ giv.ops)

  abbrev new : List LlType
  new = var.new ++ (t ∷ giv.new)

  new_long : length new ≡ length var.new + suc (length giv.new)
  new_long = length-append var.new (t ∷ giv.new)

  module _ (p : LlProgram) (numbers : Numbers) (raised : ℕ → Value) (structs : HasLayout p around.layout) (stood : Stood around.layout known (HasTuples around.layout p numbers raised) asks w.found)
      (arguments : List (List ℕ)) (rest : List LlOp) (e : LlExit) (frames : List Frame) (core : Core) (g : Ghost) (world : World) (stands : Represents around.layout known g world.heap world.left core.blocks core.statics) (left : world.left ≡ core.steps)
      (room : length w.body.types + length new ≤ length core.vars) (inside : place.variable < length w.body.types) (below : AllBelow (length w.body.types) (a ∷ others)) where
    abbrev Done : List Meant → Answer → Type 0
    Done vs answer = Follows (tuples_in place.element) known around place p arguments (At (var.ops ++ (reads ∷ (giv.ops ++ rest))) e frames core) rest e frames core g raised (references_given place world vs) (length w.body.types) world answer

    gives_item : (vs : List Meant) (v : Meant) (h : TupleAt around.layout known g n parts (operand core.vars a.x) v) (it : Item around.layout known g part h.xs h.vs i) → Done vs (Gives it.meant world)
    gives_item vs v h it =
        let x : Value = operand core.vars a.x in
        let block : Block = tuple_block n h.xs in
        let is : found core.blocks core.statics x ≡ Some block = stands.stays x block h.is in
        let went = var.enters p arguments (reads ∷ (giv.ops ++ rest)) e frames core (omega (arith, room, new_long)) (found_set core.blocks core.statics x block is) in
        let mid : Core = went.mid in
        let room_then = went.passed.room in
        let end1 : Core = after mid m it.value in
        let there1 : found mid.blocks mid.statics (read mid.vars var.x) ≡ Some block = subst (λ y. found mid.blocks mid.statics y ≡ Some block) (sym went.is) (subst (λ (k : Core). found k.blocks k.statics x ≡ Some block) (sym went.passed.memory) is) in
        let reads_it : Leads p arguments 0 (At (reads ∷ (giv.ops ++ rest)) e frames mid) [] (At (giv.ops ++ rest) e frames end1) = reads_field (length (fields_of around n)) block it.value (structs.plain.tuples n of.struct) there1 refl (held_set stands it.held) i it.low in
        let passed : Passed (length w.body.types) core end1 = sets_more m it.value (omega (arith, m_is)) went.passed in
        let stands1 : Represents around.layout known g world.heap world.left end1.blocks end1.statics = subst (λ (k : Core). Represents around.layout known g world.heap world.left k.blocks k.statics) (sym passed.memory) stands in
        let enough : m < length mid.vars = omega (arith, room, new_long, m_is, room_then) in
        let room_last = passed.room in
        let placed : Placed known around place p arguments (At (giv.ops ++ rest) e frames end1) rest e frames end1 g world.heap world.left (length last.body.types) (items_in place.element) (tuples_in place.element) it.meant =
        giv.follows p numbers raised arguments rest e frames end1 g world.heap world.left it.meant structs (one_stood (λ p. HasOther p around.layout) around.layout p numbers raised known t (type_at around place) w.found stood) stands1 (left ∙ sym (ap (λ (k : Core). k.steps) passed.memory))
        (omega (arith, room, new_long, m_is, last_long, room_last)) (omega (arith, inside, room, room_last)) (omega (arith, last_long)) (subst (λ y. Holds around.layout known g (Some part) y it.meant) (sym (is_set_at mid m it.value enough)) it.held) in
        record {
          end = placed.end;
          text = [];
          leads = leads_more (0 + (0 + items_in place.element)) (references_given place world vs) (omega arith) (leads_then went.way (leads_then reads_it placed.leads));
          ghost = placed.ghost;
          grown = placed.grown;
          stands = placed.stands;
          holds = placed.holds;
          few = (let k = placed.few in let same : length end1.blocks ≡ length core.blocks = ap (λ (k : Core). length k.blocks) passed.memory in omega (arith, k, same));
          memory = placed.memory ∙ ap (λ (k : Core). record k { blocks = placed.end.blocks }) passed.memory
              ∙ ap (λ ss. forgotten (record core { blocks = placed.end.blocks; statics = ss })) (sym (ap (λ (k : Core). k.statics) placed.memory ∙ ap (λ (k : Core). k.statics) passed.memory))
              ∙ ap (λ l. forgotten (record core { blocks = placed.end.blocks; statics = placed.end.statics; steps = l })) (sym left);
          others = λ k lower other. placed.others k (omega (arith, lower, m_is, last_long)) other ∙ passed.others k lower;
          room = placed.room ∙ passed.room;
          function = placed.function ∙ passed.function;
          block = placed.block ∙ passed.block;
          out = sym (append-nil world.out);
        }

    either : (vs : List Meant) (c : Bool) (v : Meant) (h : TupleAt around.layout known g n parts (operand core.vars a.x) v) (it : Item around.layout known g part h.xs h.vs i) → Done vs (if c then Gives it.meant world else Bad)
    either vs true v h it = gives_item vs v h it
    either vs false v h it = tt

    follow : (vs : List Meant) → Given known around g core (a ∷ others) vs → Good world vs → Done vs (meant_op known.program covers o vs world)
    follow [] given good = absurd given
    follow (v ∷ us) given good =
        let h = tuple_held n parts of given.0 in
        let it = item_held i part h.all at in
        let so = means g core world v us given good h it in
        subst (Done (v ∷ us)) (sym so.1) (either (v ∷ us) so.0 v h it)

  pub item_done : IsDoneBehindWhere Good (HasTuples around.layout) (references_given place) (tuples_in place.element) 0 0 known around o covers asks (lower_op around o place (a ∷ others) w) place (a ∷ others) w
  item_done = record {
    ops = ops;
    new = new;
    asked = ap (λ (r : Writing). r.found) is_written;
    written = ap (λ (r : Writing). r.body.ops) is_written ∙ append_assoc (w.body.ops ++ var.ops) (reads ∷ []) giv.ops ∙ append_assoc w.body.ops var.ops (reads ∷ giv.ops);
    types = ap (λ (r : Writing). r.body.types) is_written ∙ append_assoc types1 (t ∷ []) giv.new ∙ append_assoc w.body.types var.new (t ∷ giv.new);
    follows = λ p numbers raised structs stood arguments rest e frames core g world vs stands left room inside below given good.
        at_once 0 0 stands (subst (λ os. Follows (tuples_in place.element) known around place p arguments (At os e frames core) rest e frames core g raised (references_given place world vs) (length w.body.types) world (meant_op known.program covers o vs world)) (sym (append_assoc var.ops (reads ∷ giv.ops) rest))
        (follow p numbers raised structs stood arguments rest e frames core g world stands left room inside below vs given good));
  }

-- ---- for a target

pub items_are_unpacked : ItemsAreUnpacked
unfolding of_some of_one
items_are_unpacked known around place a w covers n parts count i part apart of at there go = item_done Any known around (row.Unpack count i) place a [] w covers n parts i part apart of at there go means lowers
  where
    is_kind : kind_of a ≡ kind.Tuple
    is_kind = ap kind_seen of.is

    lowers : lower_op around (row.Unpack count i) place (a ∷ []) w ≡ item_by around place a i (type_of around a) w
    lowers = one_comes around (row.Unpack count i) place a w (ap never_comes is_kind) ∙ ap (λ k. unpack_by k around place a i w) is_kind

    means : (g : Ghost) (core : Core) (world : World) (v : Meant) (us : List Meant) → Given known around g core (a ∷ []) (v ∷ us) → Any world (v ∷ us) → (h : TupleAt around.layout known g n parts (operand core.vars a.x) v) → (it : Item around.layout known g part h.xs h.vs i) → (c : Bool) × (meant_op known.program covers (row.Unpack count i) (v ∷ us) world ≡ (if c then Gives it.meant world else Bad))
    means g core world v [] given good h it = (
      length h.vs == count,
      ap (λ v. meant_op known.program covers (row.Unpack count i) (v ∷ []) world) h.high ∙ ap (λ us. unpacked us world) (items_are h.vs) ∙ ap (λ found. chosen (length h.vs == count) found world) it.high ∙ either_way (length h.vs == count),
    )
      where
        chosen : Bool → Option Meant → Op
        chosen c found = if c then if_some bad found give_meant else bad

        unpacked : List Meant → Op
        unpacked us = chosen (length us == count) (slice_get us i)

        either_way : (c : Bool) → chosen c (Some it.meant) world ≡ (if c then Gives it.meant world else Bad)
        either_way true = refl
        either_way false = refl
    means g core world v (u ∷ us) given good h it = absurd given.1

-- ---- by an index that is known

shape_length : (layout : Layout) (parts : List Element) → length (shape layout parts) ≡ length parts
shape_length layout [] = refl
shape_length layout (part ∷ parts) = ap suc (shape_length layout parts)

long_as : (around : Around) (a : Operand) (n : ℕ) (parts : List Element) → IsTuple around.layout a.element n parts → length_of around a ≡ length parts
long_as around a n parts of = ap (length_by around) of.typed ∙ ap length of.fields ∙ shape_length around.layout parts

abbrev chosen_at : ℤ → List Meant → Op
chosen_at z vs = if_some bad (item_at z vs) give_meant

inside_so : (i n : ℕ) → i < n → nat_lt i n ≡ true
inside_so i n h = grind (arith, nat_tests, h)

item_chosen : (z : ℤ) (vs : List Meant) (v : Meant) (world : World) → slice_get vs (place_of z (length vs)) ≡ Some v → (c : Bool) × (chosen_at z vs world ≡ (if c then Gives v world else Bad))
item_chosen (pos i) vs v world h = (true, by (nat_lt i (length vs)) refl)
  where
    by : (c : Bool) → nat_lt i (length vs) ≡ c → if_some bad (option_and_then (slice_get vs) (if c then Some i else None)) give_meant world ≡ Gives v world
    by true e = ap (λ o. if_some bad o give_meant world) h
    by false e = absurd (let r : true ≡ false = sym (inside_so i (length vs) (below_length vs i v h)) ∙ e in cc)
item_chosen (negsuc i) vs v world h = by (nat_lt i (length vs)) refl
  where
    by : (c : Bool) → nat_lt i (length vs) ≡ c → (d : Bool) × (if_some bad (option_and_then (slice_get vs) (if c then Some (length vs - suc i) else None)) give_meant world ≡ (if d then Gives v world else Bad))
    by true e = (true, ap (λ o. if_some bad o give_meant world) h)
    by false e = (false, refl)

pub items_are_read : ItemsAreRead
unfolding of_some of_two data_index
items_are_read known around place a b w covers n parts z part apart of hb at there go = item_done (IsIndex z) known around (row.Index (Some z)) place a (b ∷ []) w covers n parts (place_of z (length parts)) part apart of at there go means lowers
  where
    is_kind : kind_of a ≡ kind.Tuple
    is_kind = ap kind_seen of.is

    lowers : lower_op around (row.Index (Some z)) place (a ∷ b ∷ []) w ≡ item_by around place a (place_of z (length parts)) (type_of around a) w
    lowers = two_come around (row.Index (Some z)) place a b w (ap never_comes is_kind) (ap never_comes hb) ∙ ap (λ k. index_by k (Some z) around place a b w) is_kind ∙ ap (λ l. item_of around place a (place_of z l) w) (long_as around a n parts of)

    means : (g : Ghost) (core : Core) (world : World) (v : Meant) (us : List Meant) → Given known around g core (a ∷ b ∷ []) (v ∷ us) → IsIndex z world (v ∷ us) → (h : TupleAt around.layout known g n parts (operand core.vars a.x) v) → (it : Item around.layout known g part h.xs h.vs (place_of z (length parts))) → (c : Bool) × (meant_op known.program covers (row.Index (Some z)) (v ∷ us) world ≡ (if c then Gives it.meant world else Bad))
    means g core world v [] given good h it = absurd given.1
    means g core world v (u ∷ []) given good h it =
        let long : length h.vs ≡ length parts = vs_long h.all in
        let c = item_chosen z h.vs it.meant world (ap (λ l. slice_get h.vs (place_of z l)) long ∙ it.high) in
        (c.0, ap (λ v. meant_op known.program covers (row.Index (Some z)) (v ∷ u ∷ []) world) h.high ∙ ap (λ u. meant_op known.program covers (row.Index (Some z)) (tuple h.vs ∷ u ∷ []) world) good ∙ ap (λ us. chosen_at z us world) (items_are h.vs) ∙ c.1)
    means g core world v (u ∷ s ∷ us) given good h it = absurd given.1.1
