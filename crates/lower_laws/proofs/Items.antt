-- An item of a tuple is a field of its block, and its length is known.
use Rattle.std.proofs.Common.{◌≡◌, ◌<◌, ◌≤◌, ℕ, zero, suc, ◌+◌, ◌-◌, ◌^◌, ◌==◌, Bool, true, false, List, [], ◌∷◌, ◌++◌, length, Option, Some, None, ℤ, pos, negsuc, refl, sym, ap, ◌∙◌, subst, arith, append_assoc, length-append}
use Rattle.std.specs.Prelude.{slice_get, cond, nat_lt, if◌then◌else◌, unwrap_or, option_and_then}
use Rattle.std.proofs.lemmas.Bool.Decides.{nat_tests}
use Rattle.std.proofs.lemmas.List.{append-nil, get_or-set_same, get_or-set_other, length-set}
use Rattle.ann_element.specs.declared.element.Element.{Element, out-Element, out-roll-Element}
use Rattle.ann_element.specs.declared.element.Element.TheOpen.{Element-F}
use Rattle.ann_element.specs.declared.element.Element.TheVariants as element
use Rattle.csub_tree.specs.State.{Value, Unset, Word, Block, Core, Onward, Stuck}
use Rattle.csub_tree.specs.Layout.{shape_at, place as place_in}
use Rattle.csub_tree.specs.Operation.{is_unset}
use Rattle.csub_tree.specs.Statement.{read, operand, on_block, set, get_field}
use Rattle.csub_tree.specs.declared.stuck.StuckReason.TheVariants.{Unset as IsUnset}
use Rattle.csub_tree.specs.declared.tree.COperand.{COperand}
use Rattle.csub_tree.specs.declared.tree.COperand.TheVariants.{Var, Const}
use Rattle.csub_tree.specs.declared.tree.CConst.{CConst}
use Rattle.rpy_tree.specs.Value.{Value as Meant, Word as MeantWord}
use Rattle.rpy_meaning.specs.declared.row.Covers.{Covers}
use Rattle.rpy_meaning.specs.declared.row.RowOp.{RowOp}
use Rattle.rpy_meaning.specs.declared.row.RowOp.TheVariants as row
use Rattle.rpy_meaning.specs.Operations.{op as meant_op}
use Rattle.rpy_meaning.specs.Sequences.{parts_of, item_at, items_of, tuple}
use Rattle.rpy_meaning.specs.Tree.{Program}
use Rattle.rpy_meaning.specs.World.{World, Op, Gives, Bad, bad, give, if_some}
use Rattle.ll_code.specs.State.{Frame, State, At}
use Rattle.ll_code.specs.Machine.{shapes_of}
use Rattle.ll_code.specs.declared.program.LlType.{LlType}
use Rattle.ll_code.specs.declared.program.LlType.TheVariants as type
use Rattle.ll_code.specs.declared.program.LlOp.{LlOp}
use Rattle.ll_code.specs.declared.program.LlOp.TheVariants as op
use Rattle.ll_code.specs.declared.program.LlExit.{LlExit}
use Rattle.ll_code.specs.declared.program.LlProgram.{LlProgram}
use Rattle.ll_leads.specs.Memory.{forgotten}
use Rattle.ll_leads.specs.Path.{Leads}
use Rattle.ll_leads.proofs.Joined.{leads_more}
use Rattle.ll_leads.proofs.Ways.{on, gets_field}
use Rattle.ll_texts.specs.Texts.{found}
use Rattle.ll_texts.specs.Stands.{Stands, word}
use Rattle.ll_texts.proofs.Numbers.{fits_count}
use Rattle.ll_texts.proofs.Reading.{below_length, found_at}
use Rattle.rtyper_layout.specs.declared.kind.Kind.TheVariants as kind
use Rattle.rtyper_layout.specs.declared.layout.Layout.{Layout}
use Rattle.rtyper_layout.specs.Kinds.{kind_seen}
use Rattle.rtyper_layout.specs.Types.{type_of as element_type, field_type, shape}
use Rattle.rtyper_data.specs.declared.body.Body.{Body}
use Rattle.rtyper_data.specs.Converting.{converted, give as gives_place, give_to, value_as}
use Rattle.rtyper_op.specs.Lowering.{lower_op, of_some, of_one, of_two, unpack_by, never_comes}
use Rattle.rtyper_data.specs.Seen.{Around, Operand, Place, type_of, type_at, kind_of, with_op, with_variable, fresh, Writing, writing}
use Rattle.rtyper_data.specs.Seen as seen
use Rattle.rtyper_data.specs.Numbers.{word as word_operand}
use Rattle.rtyper_op.specs.Placing.{index as data_index, index_by, len as data_len, len_by}
use Rattle.rtyper_data.specs.Tuples.{fields_of, field_type_of, field_read, item_by, item_of, length_by, length_of, place_of, variable_of}
use Rattle.ll_build.specs.declared.needs.Numbers.{Numbers}
use Rattle.lower_laws.specs.Asked.{HasAll}
use Rattle.lower_laws.specs.Done.{Any, Came, Follows, HasTuples, HasStructs, IsDone}
use Rattle.lower_laws.specs.Tuples.{Stays, IsTuple}
use Rattle.lower_laws.specs.Values.{is_plain, Holds, Plain, Alone, Items, AllHold, End, Next, Given, AllBelow}
use Rattle.lower_laws.proofs.Coming.{one_comes, two_come}
use Rattle.lower_laws.proofs.Doing.{after, same_type_is}
use Rattle.lower_laws.proofs.Single.{sets, gives_word}
use Rattle.lower_laws.proofs.Stayed.{field_is, stays_typed, stays_there, stays_held, held_set}
use Rattle.lower_laws.proofs.Typing.{place_of_words}
use Rattle.lower_laws.proofs.Valued.{word_held, word_holds}
use Rattle.lower_laws.proofs.Tupled.{tuple_block, reach_tuple, place_is_own}

-- ---- what is written

as_itself : (layout : Layout) (x : COperand) (t : LlType) (w : Writing) → value_as layout x t t w ≡ (x, w)
unfolding value_as
as_itself layout x t w = ap (λ b. if b then (x, w) else converted layout x t t w) (same_type_is t)

gives_itself : (around : Around) (place : Place) (x : COperand) (t : LlType) (w : Writing) → (t ≡ type.Void → ⊥) → give_to around place x t t w ≡ writing w.found (with_op (op.Set place.variable x) w.body)
gives_itself around place x type.Void w there = absurd (there refl)
gives_itself around place x type.Signed w there = ap (seen.set place.variable) (as_itself around.layout x type.Signed w)
gives_itself around place x type.Char w there = ap (seen.set place.variable) (as_itself around.layout x type.Char w)
gives_itself around place x type.Bool w there = ap (seen.set place.variable) (as_itself around.layout x type.Bool w)
gives_itself around place x type.Fn w there = ap (seen.set place.variable) (as_itself around.layout x type.Fn w)
gives_itself around place x (type.Ptr n) w there = ap (seen.set place.variable) (as_itself around.layout x (type.Ptr n) w)

-- the place takes a value of its own type, whatever it is
pub gives_same : (around : Around) (place : Place) (x : COperand) (t : LlType) (w : Writing) → (t ≡ type.Void → ⊥) → type_at around place ≡ t → gives_place around place x t w ≡ writing w.found (with_op (op.Set place.variable x) w.body)
unfolding gives_place
gives_same around place x t w there h = ap (λ u. give_to around place x t u w) h ∙ gives_itself around place x t w there

reads_there : (around : Around) (place : Place) (n i : ℕ) (t : LlType) (tuple : ℕ × Body) (w : Writing) → (t ≡ type.Void → ⊥) → field_read around place n i t tuple w ≡ gives_place around place (Var (fresh t tuple.1).0) t (writing w.found (with_op (op.GetField (fresh t tuple.1).0 n tuple.0 i) (fresh t tuple.1).1))
reads_there around place n i type.Void tuple w there = absurd (there refl)
reads_there around place n i type.Signed tuple w there = refl
reads_there around place n i type.Char tuple w there = refl
reads_there around place n i type.Bool tuple w there = refl
reads_there around place n i type.Fn tuple w there = refl
reads_there around place n i (type.Ptr m) tuple w there = refl

shape_at_place : (layout : Layout) (parts : List Element) (i : ℕ) (part : Element) → slice_get parts i ≡ Some part → slice_get (shape layout parts) i ≡ Some (field_type (element_type layout part))
shape_at_place layout [] i part h = absurd (cc)
shape_at_place layout (e ∷ parts) zero part h = (let q : e ≡ part = cc in ap (λ e. Some (field_type (element_type layout e))) q)
shape_at_place layout (e ∷ parts) (suc i) part h = shape_at_place layout parts i part h

-- ---- the items of a tuple that is held

abbrev parts_in : Element-F Element → List Element
parts_in (Element-F.Tuple parts) = parts
parts_in _ = []

abbrev parts_seen : Option Element → List Element
parts_seen None = []
parts_seen (Some e) = parts_in (out-Element e)

parts_are : (parts : List Element) → parts_seen (Some (element.Tuple parts)) ≡ parts
parts_are parts = ap (λ e. parts_in (out-Element e)) (sym (element.rolls-Tuple parts)) ∙ ap parts_in (out-roll-Element (Element-F.Tuple parts))

abbrev number_in : LlType → ℕ
number_in (type.Ptr n) = n
number_in _ = 0

pub record Item (layout : Layout) (blocks : List (Option Block)) (statics : List Block) (part : Element) (xs : List Value) (vs : List Meant) (i : ℕ) : Type 0 where
  pub value : Value
  pub meant : Meant
  pub low : read xs i ≡ value
  pub high : slice_get vs i ≡ Some meant
  pub held : Holds layout blocks statics (Some part) value meant

item_held : {layout : Layout} {blocks : List (Option Block)} {statics : List Block} {parts : List Element} {xs : List Value} {vs : List Meant} (i : ℕ) (part : Element) → AllHold layout blocks statics parts xs vs → slice_get parts i ≡ Some part → Item layout blocks statics part xs vs i
item_held i part End h = absurd (cc)
item_held {layout = layout} {blocks = blocks} {statics = statics} zero part (Next {part = e} {x = x} {v = v} held all) h = (let q : e ≡ part = cc in record { value = x; meant = v; low = refl; high = refl; held = subst (λ e. Holds layout blocks statics (Some e) x v) q held })
item_held (suc i) part (Next held all) h = (let r = item_held i part all h in record { value = r.value; meant = r.meant; low = r.low; high = r.high; held = r.held })

pub all_long : {layout : Layout} {blocks : List (Option Block)} {statics : List Block} {parts : List Element} {xs : List Value} {vs : List Meant} → AllHold layout blocks statics parts xs vs → length vs ≡ length parts
all_long End = refl
all_long (Next held all) = ap suc (all_long all)

-- the items of the value are these
pub items_are : (vs : List Meant) → items_of (parts_of vs) ≡ vs
items_are [] = refl
items_are (v ∷ vs) = ap (λ us. v ∷ us) (items_are vs)

-- the block of a tuple of which the items are known
pub record Held (layout : Layout) (blocks : List (Option Block)) (statics : List Block) (n : ℕ) (parts : List Element) (x : Value) (v : Meant) : Type 0 where
  pub fields : List Value
  pub items : List Meant
  pub high : v ≡ tuple items
  pub there : found blocks statics x ≡ Some (tuple_block n fields)
  pub set : is_unset x ≡ false
  pub all : AllHold layout blocks statics parts fields items

pub held_as : {around : Around} {blocks : List (Option Block)} {statics : List Block} {n : ℕ} {parts : List Element} {seen : Option Element} {x : Value} {v : Meant} → IsTuple around seen n parts → Holds around.layout blocks statics seen x v → Held around.layout blocks statics n parts x v
held_as {seen = seen} of (Plain p s) = (let q : false ≡ true = ap is_plain (sym (ap kind_seen of.is)) ∙ p in absurd (cc))
held_as of (Alone k e f) = (let q : kind.Tuple ≡ kind.Nothing = ap kind_seen (sym of.is) ∙ k in absurd (cc))
held_as {around = around} {blocks = blocks} {statics = statics} {n = n} {parts = parts} of (Items others m xs vs e f t is all) =
    let same : others ≡ parts = sym (parts_are others) ∙ ap parts_seen (sym e ∙ of.is) ∙ parts_are parts in
    let number : m ≡ n = ap number_in (sym t ∙ of.typed) in
    record {
      fields = xs;
      items = vs;
      high = f;
      there = is ∙ ap (λ m. Some (tuple_block m xs)) number;
      set = held_set (Items others m xs vs e f t is all);
      all = subst (λ l. AllHold around.layout blocks statics l xs vs) same all;
    }

-- ---- a field is read

module _ {p : LlProgram} {args : List (List ℕ)} {around : Around} {n : ℕ} {parts : List Element} {seen : Option Element} (of : IsTuple around seen n parts) (tuples : HasTuples p around.layout) where
  reads_field : {ops : List LlOp} {e : LlExit} {frames : List Frame} {core : Core} {m b i : ℕ} {part : Element} {x : Value} {v : Meant} → read core.vars b ≡ x → (h : Held around.layout core.blocks core.statics n parts x v) → (it : Item around.layout core.blocks core.statics part h.fields h.items i) → is_unset it.value ≡ false
      → Leads p args 0 (At (op.GetField m n b i ∷ ops) e frames core) [] (At ops e frames (after core m it.value))
  reads_field {core = core} {m = m} {b = b} {i = i} {x = x} at h it set_there =
      let k : ℕ = length (fields_of around n) in
      gets_field it.value
      (ap (λ y. get_field core (shapes_of p.structs) m n y i) at
      ∙ ap (on_block (λ block. set core m (read block.fields (place_in (shape_at (shapes_of p.structs) n) i)))) (reach_tuple p core x n k h.fields h.set (found_at core x ∙ h.there) (tuples n of.struct))
      ∙ ap (λ j. set core m (read h.fields j)) (place_is_own (shape_at (shapes_of p.structs) n) n k i (tuples n of.struct))
      ∙ ap (set core m) it.low
      ∙ ap (λ c. cond c (Stuck IsUnset) (Onward (after core m it.value))) set_there)

-- ---- the place takes it

module _ {around : Around} {place : Place} {p : LlProgram} {args : List (List ℕ)} {s : State} {rest : List LlOp} {e : LlExit} {frames : List Frame} {core : Core} {world : World} where
  -- variables are set, the place last
  pub set_last : (most below : ℕ) (middle : Core) (value : Value) (v : Meant) → world.left ≡ core.steps → forgotten middle ≡ forgotten core → length middle.vars ≡ length core.vars → middle.function ≡ core.function → middle.block ≡ core.block → ((k : ℕ) → k < below → read middle.vars k ≡ read core.vars k) → place.variable < length core.vars
      → Leads p args 0 s [] (At rest e frames (after middle place.variable value)) → Holds around.layout core.blocks core.statics place.element value v → Came around place p args s rest e frames core most below world v world
  set_last most below middle value v left memory long function block others there way held =
      let end : Core = after middle place.variable value in
      record {
        end = end;
        text = [];
        leads = leads_more 0 most (omega arith) way;
        made = [];
        few = omega arith;
        memory = memory ∙ ap (λ bs. forgotten (record core { blocks = bs })) (sym (append-nil core.blocks)) ∙ ap (λ n. forgotten (record core { blocks = core.blocks ++ []; steps = n })) (sym left);
        holds = subst (λ x. Holds around.layout end.blocks end.statics place.element x v) (sym (get_or-set_same middle.vars place.variable value Unset (omega (arith, there, long))))
            (subst (λ (c : Core). Holds around.layout c.blocks c.statics place.element value v) (sym memory) held);
        others = λ k under other. get_or-set_other middle.vars place.variable k value _ other ∙ others k under;
        room = length-set middle.vars place.variable value ∙ long;
        function = function;
        block = block;
        out = sym (append-nil world.out);
        heap = refl;
      }

-- ---- an item

module _ (around : Around) (o : RowOp) (place : Place) (a : Operand) (others : List Operand) (w : Writing) (covers : Covers) (n : ℕ) (parts : List Element) (i : ℕ) (part : Element)
    (of : IsTuple around a.element n parts) (at : slice_get parts i ≡ Some part) (stay : Stays around.layout (Some part) place.element) where
  abbrev kept : LlType
  kept = element_type around.layout part

  kept_there : kept ≡ type.Void → ⊥
  kept_there h = stays_there stay (sym (stays_typed stay) ∙ h)

  field_is_kept : field_type_of around n i ≡ kept
  field_is_kept = ap (λ o. unwrap_or o type.Void) (ap (λ ts. slice_get ts i) of.fields ∙ shape_at_place around.layout parts i part at) ∙ field_is kept kept_there

  -- of the variable that has the tuple
  abbrev read_from : ℕ × Body → Writing
  read_from tuple = writing w.found (with_op (op.Set place.variable (Var (fresh kept tuple.1).0)) (with_op (op.GetField (fresh kept tuple.1).0 n tuple.0 i) (fresh kept tuple.1).1))

  item_written : item_by around place a i (type_of around a) w ≡ read_from (variable_of a.x (type.Ptr n) w.body)
  item_written =
      ap (λ t. item_by around place a i t w) of.typed
      ∙ ap (λ t. field_read around place n i t (variable_of a.x (type.Ptr n) w.body) w) field_is_kept
      ∙ reads_there around place n i kept (variable_of a.x (type.Ptr n) w.body) w kept_there
      ∙ gives_same around place (Var (fresh kept (variable_of a.x (type.Ptr n) w.body).1).0) kept
      (writing w.found (with_op (op.GetField (fresh kept (variable_of a.x (type.Ptr n) w.body).1).0 n (variable_of a.x (type.Ptr n) w.body).0 i) (fresh kept (variable_of a.x (type.Ptr n) w.body).1).1)) kept_there (sym (stays_typed stay))

  -- the operation gives the item, or is for no such values
  abbrev Means : Type 0
  Means = (program : Program) (core : Core) (world : World) (v : Meant) (vs : List Meant) → Given around core (a ∷ others) (v ∷ vs) → (h : Held around.layout core.blocks core.statics n parts (operand core.vars a.x) v) → (it : Item around.layout core.blocks core.statics part h.fields h.items i)
      → (c : Bool) × (meant_op program covers o (v ∷ vs) world ≡ (if c then Gives it.meant world else Bad))

  module _ (means : Means) (l : lower_op around o place (a ∷ others) w ≡ item_by around place a i (type_of around a) w) where
    given_or_bad : {p : LlProgram} {arguments : List (List ℕ)} {s : State} {rest : List LlOp} {e : LlExit} {frames : List Frame} {core : Core} (raised : ℕ → Value) {most below : ℕ} {world : World} {v : Meant} (c : Bool) → Came around place p arguments s rest e frames core most below world v world
        → Follows around place p arguments s rest e frames core raised most below world (if c then Gives v world else Bad)
    given_or_bad raised true came = came
    given_or_bad raised false came = tt

    by_variable : (b : ℕ) → a.x ≡ Var b → IsDone around o covers [] place (a ∷ others) w
    unfolding variable_of
    by_variable b e = record {
      ops = op.GetField m n b i ∷ op.Set place.variable (Var m) ∷ [];
      new = kept ∷ [];
      asked = ap (λ (r : Writing). r.found) all;
      written = ap (λ (r : Writing). r.body.ops) all ∙ append_assoc w.body.ops (op.GetField m n b i ∷ []) (op.Set place.variable (Var m) ∷ []);
      types = ap (λ (r : Writing). r.body.types) all;
      follows = follow;
    }
      where
        m : ℕ
        m = length w.body.types

        all : lower_op around o place (a ∷ others) w ≡ read_from (b, w.body)
        all = l ∙ item_written ∙ ap (λ x. read_from (variable_of x (type.Ptr n) w.body)) e

        follow : (program : Program) (p : LlProgram) (numbers : Numbers) (raised : ℕ → Value) (arguments : List (List ℕ)) (rest : List LlOp) (e : LlExit) (frames : List Frame) (core : Core) (world : World) (vs : List Meant)
            → HasStructs p around.layout → HasAll p around.layout numbers raised core [] w.found → world.left ≡ core.steps → length w.body.types + 1 ≤ length core.vars → place.variable < length w.body.types → AllBelow (length w.body.types) (a ∷ others) → Given around core (a ∷ others) vs → Any vs
            → Follows around place p arguments (At (op.GetField m n b i ∷ op.Set place.variable (Var m) ∷ rest) e frames core) rest e frames core raised (length (a ∷ others)) (length w.body.types) world (meant_op program covers o vs world)
        follow program p numbers raised arguments rest e2 frames core world [] structs has left room inside below given good = absurd given
        follow program p numbers raised arguments rest e2 frames core world (v ∷ vs) structs has left room inside below given good =
            let x : Value = operand core.vars a.x in
            let h = held_as of given.0 in
            let it = item_held i part h.all at in
            let value_set = held_set it.held in
            let means_so = means program core world v vs given h it in
            let there : m < length core.vars = omega (arith, room) in
            let middle : Core = after core m it.value in
            subst (λ answer. Follows around place p arguments (At (op.GetField m n b i ∷ op.Set place.variable (Var m) ∷ rest) e2 frames core) rest e2 frames core raised (length (a ∷ others)) (length w.body.types) world answer) (sym means_so.1)
            (given_or_bad raised means_so.0 (set_last (length (a ∷ others)) (length w.body.types) middle it.value it.meant left refl (length-set core.vars m it.value) refl refl
            (λ k under. get_or-set_other core.vars m k it.value _ (λ same. absurd (omega (arith, under, same)))) (omega (arith, room, inside))
            (on (reads_field of structs.tuples (sym (ap (operand core.vars) e)) h it value_set) (sets it.value (get_or-set_same core.vars m it.value Unset there) value_set)) (stays_held stay it.held)))

    by_constant : (c : CConst) → a.x ≡ Const c → IsDone around o covers [] place (a ∷ others) w
    unfolding variable_of
    by_constant c e = record {
      ops = op.Set m (Const c) ∷ op.GetField k n m i ∷ op.Set place.variable (Var k) ∷ [];
      new = type.Ptr n ∷ kept ∷ [];
      asked = ap (λ (r : Writing). r.found) all;
      written = ap (λ (r : Writing). r.body.ops) all ∙ append_assoc (w.body.ops ++ op.Set m (Const c) ∷ []) (op.GetField k n m i ∷ []) (op.Set place.variable (Var k) ∷ []) ∙ append_assoc w.body.ops (op.Set m (Const c) ∷ []) (op.GetField k n m i ∷ op.Set place.variable (Var k) ∷ []);
      types = ap (λ (r : Writing). r.body.types) all ∙ append_assoc w.body.types (type.Ptr n ∷ []) (kept ∷ []);
      follows = follow;
    }
      where
        m : ℕ
        m = length w.body.types

        k : ℕ
        k = length (w.body.types ++ type.Ptr n ∷ [])

        k_is : k ≡ m + 1
        k_is = length-append w.body.types (type.Ptr n ∷ [])

        all : lower_op around o place (a ∷ others) w ≡ read_from (m, record { types = w.body.types ++ type.Ptr n ∷ []; ops = w.body.ops ++ op.Set m (Const c) ∷ [] })
        all = l ∙ item_written ∙ ap (λ x. read_from (variable_of x (type.Ptr n) w.body)) e

        follow : (program : Program) (p : LlProgram) (numbers : Numbers) (raised : ℕ → Value) (arguments : List (List ℕ)) (rest : List LlOp) (e : LlExit) (frames : List Frame) (core : Core) (world : World) (vs : List Meant)
            → HasStructs p around.layout → HasAll p around.layout numbers raised core [] w.found → world.left ≡ core.steps → length w.body.types + 2 ≤ length core.vars → place.variable < length w.body.types → AllBelow (length w.body.types) (a ∷ others) → Given around core (a ∷ others) vs → Any vs
            → Follows around place p arguments (At (op.Set m (Const c) ∷ op.GetField k n m i ∷ op.Set place.variable (Var k) ∷ rest) e frames core) rest e frames core raised (length (a ∷ others)) (length w.body.types) world (meant_op program covers o vs world)
        follow program p numbers raised arguments rest e2 frames core world [] structs has left room inside below given good = absurd given
        follow program p numbers raised arguments rest e2 frames core world (v ∷ vs) structs has left room inside below given good =
            let x : Value = operand core.vars a.x in
            let h = held_as of given.0 in
            let it = item_held i part h.all at in
            let value_set = held_set it.held in
            let means_so = means program core world v vs given h it in
            let here : m < length core.vars = omega (arith, room) in
            let first : Core = after core m x in
            let long : length first.vars ≡ length core.vars = length-set core.vars m x in
            let there : k < length first.vars = omega (arith, room, long, k_is) in
            let middle : Core = after first k it.value in
            subst (λ answer. Follows around place p arguments (At (op.Set m (Const c) ∷ op.GetField k n m i ∷ op.Set place.variable (Var k) ∷ rest) e2 frames core) rest e2 frames core raised (length (a ∷ others)) (length w.body.types) world answer) (sym means_so.1)
            (given_or_bad raised means_so.0 (set_last (length (a ∷ others)) (length w.body.types) middle it.value it.meant left refl (length-set first.vars k it.value ∙ long) refl refl
            (λ j under. get_or-set_other first.vars k j it.value _ (λ same. absurd (omega (arith, under, same, k_is))) ∙ get_or-set_other core.vars m j x _ (λ same. absurd (omega (arith, under, same)))) (omega (arith, room, inside))
            (on (sets x (sym (ap (operand core.vars) e)) h.set) (on (reads_field of structs.tuples {core = first} (get_or-set_same core.vars m x Unset here) h it value_set) (sets it.value (get_or-set_same first.vars k it.value Unset there) value_set))) (stays_held stay it.held)))

    by_operand : (x : COperand) → a.x ≡ x → IsDone around o covers [] place (a ∷ others) w
    by_operand (Var b) e = by_variable b e
    by_operand (Const c) e = by_constant c e

    pub item_done : IsDone around o covers [] place (a ∷ others) w
    item_done = by_operand a.x refl

-- ---- the operations

pub unpack_is_done : (around : Around) (place : Place) (a : Operand) (w : Writing) (covers : Covers) (n : ℕ) (parts : List Element) (count i : ℕ) (part : Element) → IsTuple around a.element n parts → slice_get parts i ≡ Some part → Stays around.layout (Some part) place.element → IsDone around (row.Unpack count i) covers [] place (a ∷ []) w
unfolding of_some of_one
unpack_is_done around place a w covers n parts count i part of at stay = item_done around (row.Unpack count i) place a [] w covers n parts i part of at stay means written
  where
    is_kind : kind_of a ≡ kind.Tuple
    is_kind = ap kind_seen of.is

    written : lower_op around (row.Unpack count i) place (a ∷ []) w ≡ item_by around place a i (type_of around a) w
    written = one_comes around (row.Unpack count i) place a w (ap never_comes is_kind) ∙ ap (λ k. unpack_by k around place a i w) is_kind

    means : (program : Program) (core : Core) (world : World) (v : Meant) (vs : List Meant) → Given around core (a ∷ []) (v ∷ vs) → (h : Held around.layout core.blocks core.statics n parts (operand core.vars a.x) v) → (it : Item around.layout core.blocks core.statics part h.fields h.items i)
        → (c : Bool) × (meant_op program covers (row.Unpack count i) (v ∷ vs) world ≡ (if c then Gives it.meant world else Bad))
    means program core world v [] given h it = (
      length h.items == count,
      ap (λ v. meant_op program covers (row.Unpack count i) (v ∷ []) world) h.high ∙ ap (λ us. unpacked us world) (items_are h.items) ∙ ap (λ found. chosen (length h.items == count) found world) it.high ∙ either (length h.items == count),
    )
      where
        chosen : Bool → Option Meant → Op
        chosen c found = if c then if_some bad found give else bad

        unpacked : List Meant → Op
        unpacked us = chosen (length us == count) (slice_get us i)

        either : (c : Bool) → chosen c (Some it.meant) world ≡ (if c then Gives it.meant world else Bad)
        either true = refl
        either false = refl
    means program core world v (u ∷ vs) given h it = absurd given.1

-- ---- an index that is known, and the length

shape_length : (layout : Layout) (parts : List Element) → length (shape layout parts) ≡ length parts
shape_length layout [] = refl
shape_length layout (part ∷ parts) = ap suc (shape_length layout parts)

long_as : (around : Around) (a : Operand) (n : ℕ) (parts : List Element) → IsTuple around a.element n parts → length_of around a ≡ length parts
long_as around a n parts of = ap (length_by around) of.typed ∙ ap length of.fields ∙ shape_length around.layout parts

-- the place that the index names is that of the item
abbrev chosen : ℤ → List Meant → Op
chosen z vs = if_some bad (item_at z vs) give

item_chosen : (z : ℤ) (vs : List Meant) (v : Meant) (world : World) → slice_get vs (place_of z (length vs)) ≡ Some v → (c : Bool) × (chosen z vs world ≡ (if c then Gives v world else Bad))
item_chosen (pos i) vs v world h = (true, by (nat_lt i (length vs)) refl)
  where
    by : (c : Bool) → nat_lt i (length vs) ≡ c → if_some bad (option_and_then (slice_get vs) (if c then Some i else None)) give world ≡ Gives v world
    by true e = ap (λ o. if_some bad o give world) h
    by false e = absurd (let l : i < length vs = below_length vs i v h in let q : nat_lt i (length vs) ≡ true = grind (arith, nat_tests, l) in let r : true ≡ false = sym q ∙ e in absurd (cc))
item_chosen (negsuc i) vs v world h = by (nat_lt i (length vs)) refl
  where
    by : (c : Bool) → nat_lt i (length vs) ≡ c → (d : Bool) × (if_some bad (option_and_then (slice_get vs) (if c then Some (length vs - suc i) else None)) give world ≡ (if d then Gives v world else Bad))
    by true e = (true, ap (λ o. if_some bad o give world) h)
    by false e = (false, refl)

number_is : {z y : ℤ} → Word z ≡ Word y → z ≡ y
number_is h = cc

pub index_is_done : (around : Around) (place : Place) (a b : Operand) (w : Writing) (covers : Covers) (n : ℕ) (parts : List Element) (z : ℤ) (part : Element) → IsTuple around a.element n parts → b.x ≡ word_operand z → kind_of b ≡ kind.Word → slice_get parts (place_of z (length parts)) ≡ Some part → Stays around.layout (Some part) place.element
    → IsDone around (row.Index (Some z)) covers [] place (a ∷ b ∷ []) w
unfolding of_some of_two data_index
index_is_done around place a b w covers n parts z part of bx hb at stay = item_done around (row.Index (Some z)) place a (b ∷ []) w covers n parts (place_of z (length parts)) part of at stay means written
  where
    is_kind : kind_of a ≡ kind.Tuple
    is_kind = ap kind_seen of.is

    written : lower_op around (row.Index (Some z)) place (a ∷ b ∷ []) w ≡ item_by around place a (place_of z (length parts)) (type_of around a) w
    written = two_come around (row.Index (Some z)) place a b w (ap never_comes is_kind) (ap never_comes hb) ∙ ap (λ k. index_by k (Some z) around place a b w) is_kind ∙ ap (λ l. item_of around place a (place_of z l) w) (long_as around a n parts of)

    means : (program : Program) (core : Core) (world : World) (v : Meant) (vs : List Meant) → Given around core (a ∷ b ∷ []) (v ∷ vs) → (h : Held around.layout core.blocks core.statics n parts (operand core.vars a.x) v) → (it : Item around.layout core.blocks core.statics part h.fields h.items (place_of z (length parts)))
        → (c : Bool) × (meant_op program covers (row.Index (Some z)) (v ∷ vs) world ≡ (if c then Gives it.meant world else Bad))
    means program core world v [] given h it = absurd given.1
    means program core world v (u ∷ []) given h it =
        let x = word_held hb given.1.0 in
        let same : z ≡ x.number = number_is (sym (ap (operand core.vars) bx) ∙ x.low) in
        let long : length h.items ≡ length parts = all_long h.all in
        let c = item_chosen z h.items it.meant world (ap (λ l. slice_get h.items (place_of z l)) long ∙ it.high) in
        (c.0, ap (λ v. meant_op program covers (row.Index (Some z)) (v ∷ u ∷ []) world) h.high ∙ ap (λ u. meant_op program covers (row.Index (Some z)) (tuple h.items ∷ u ∷ []) world) (x.high ∙ ap MeantWord (sym same)) ∙ ap (λ us. chosen z us world) (items_are h.items) ∙ c.1)
    means program core world v (u ∷ s ∷ vs) given h it = absurd given.1.1

pub len_is_done : (around : Around) (place : Place) (a : Operand) (w : Writing) (covers : Covers) (n : ℕ) (parts : List Element) → IsTuple around a.element n parts → length parts < 2 ^ 63 → kind_seen place.element ≡ kind.Word → IsDone around row.Len covers [] place (a ∷ []) w
unfolding of_some of_one data_len
len_is_done around place a w covers n parts of few words = record {
  ops = op.Set place.variable (word_operand (pos (length parts))) ∷ [];
  new = [];
  asked = ap (λ (r : Writing). r.found) l;
  written = ap (λ (r : Writing). r.body.ops) l;
  types = ap (λ (r : Writing). r.body.types) l ∙ sym (append-nil w.body.types);
  follows = λ program p numbers raised arguments rest e frames core world vs structs has left room inside below given good. follow program p raised arguments rest e frames core world vs left room inside given;
}
  where
    is_kind : kind_of a ≡ kind.Tuple
    is_kind = ap kind_seen of.is

    ht : type_at around place ≡ type.Signed
    ht = place_of_words around.layout place.element words

    l : lower_op around row.Len place (a ∷ []) w ≡ writing w.found (with_op (op.Set place.variable (word_operand (pos (length parts)))) w.body)
    l = one_comes around row.Len place a w (ap never_comes is_kind) ∙ ap (λ k. len_by k around place a w) is_kind ∙ ap (λ k. gives_place around place (word_operand (pos k)) type.Signed w) (long_as around a n parts of) ∙ gives_word around place (word_operand (pos (length parts))) w ht

    follow : (program : Program) (p : LlProgram) (raised : ℕ → Value) (arguments : List (List ℕ)) (rest : List LlOp) (e : LlExit) (frames : List Frame) (core : Core) (world : World) (vs : List Meant)
        → world.left ≡ core.steps → length w.body.types + 0 ≤ length core.vars → place.variable < length w.body.types → Given around core (a ∷ []) vs
        → Follows around place p arguments (At (op.Set place.variable (word_operand (pos (length parts))) ∷ rest) e frames core) rest e frames core raised 1 (length w.body.types) world (meant_op program covers row.Len vs world)
    follow program p raised arguments rest e frames core world [] left room inside given = absurd given
    follow program p raised arguments rest e frames core world (v ∷ []) left room inside given =
        let h = held_as of given.0 in
        let value : Value = Word (pos (length parts)) in
        let above : meant_op program covers row.Len (v ∷ []) world ≡ Gives (MeantWord (pos (length parts))) world = ap (λ v. meant_op program covers row.Len (v ∷ []) world) h.high ∙ ap (λ us. Gives (MeantWord (pos (length us))) world) (items_are h.items) ∙ ap (λ k. Gives (MeantWord (pos k)) world) (all_long h.all) in
        subst (λ answer. Follows around place p arguments (At (op.Set place.variable (word_operand (pos (length parts))) ∷ rest) e frames core) rest e frames core raised 1 (length w.body.types) world answer) (sym above)
        (set_last 1 (length w.body.types) core value (MeantWord (pos (length parts))) left refl refl refl refl (λ k under. refl) (omega (arith, room, inside)) (sets value refl refl)
        (word_holds words (subst (λ t. Stands core.blocks core.statics t value (MeantWord (pos (length parts)))) (sym ht) (word (pos (length parts)) (fits_count (length parts) few)))))
    follow program p raised arguments rest e frames core world (v ∷ u ∷ vs) left room inside given = absurd given.1
