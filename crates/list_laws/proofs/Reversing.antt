-- A list is turned around.
use Rattle.std.proofs.Common.{◌≡◌, ◌<◌, ◌≤◌, ℕ, ◌+◌, ◌^◌, ◌⊎◌, inl, inr, true, false, ◌||◌, List, [], ◌∷◌, ◌++◌, length, Option, Some, None, refl, sym, ap, ◌∙◌, subst, arith, append_assoc, length-append, pos}
use Rattle.std.specs.Prelude.{slice_get, slice_set, reverse, if◌then◌else◌, codes}
use Rattle.std.proofs.lemmas.List.{append-nil, length-set, length-reverse}
use Rattle.csub_tree.specs.State.{Value, Unset, Word, Flag, Block, Core}
use Rattle.csub_tree.specs.Statement.{operand, operands, any_unset}
use Rattle.csub_tree.specs.declared.tree.COperand.{COperand}
use Rattle.rpy_tree.specs.Value.{Value as Meant, Nothing, Ref, Listed, Heap}
use Rattle.rpy_meaning.specs.declared.row.RowOp.{RowOp}
use Rattle.rpy_meaning.specs.declared.row.RowOp.TheVariants as row
use Rattle.rpy_meaning.specs.Operations.{op as meant_op, object_method}
use Rattle.rpy_meaning.specs.World.{World, Answer, Gives}
use Rattle.ll_code.specs.State.{Frame, Calling, At}
use Rattle.ll_code.specs.declared.program.LlType.TheVariants as type
use Rattle.ll_code.specs.declared.program.LlOp.{LlOp}
use Rattle.ll_code.specs.declared.program.LlOp.TheVariants as op
use Rattle.ll_code.specs.declared.program.LlExit.{LlExit}
use Rattle.ll_code.specs.declared.program.LlProgram.{LlProgram}
use Rattle.ll_build.specs.declared.needs.Numbers.{Numbers}
use Rattle.ll_leads.specs.Path.{Leads}
use Rattle.ll_leads.proofs.Joined.{leads_then, leads_more}
use Rattle.ll_texts.specs.Texts.{found}
use Rattle.rtyper_layout.specs.declared.kind.Kind.TheVariants as kind
use Rattle.rtyper_layout.specs.declared.layout.Layout.{Layout}
use Rattle.rtyper_layout.specs.Kinds.{kind_seen}
use Rattle.rtyper_layout.specs.Layout.{is_list}
use Rattle.rtyper_layout.specs.Types.{word}
use Rattle.rtyper_data.specs.declared.found.Found.{Found}
use Rattle.rtyper_data.specs.declared.small.Small.{Small}
use Rattle.rtyper_data.specs.declared.small.Small.TheVariants as small
use Rattle.rtyper_data.specs.declared.small.Listed.TheVariants as listed
use Rattle.rtyper_data.specs.Converting.{default_operand, nothing_to}
use Rattle.rtyper_data.specs.Finding.{small_number}
use Rattle.rtyper_op.specs.Lowering.{lower_op}
use Rattle.rtyper_op.specs.Placing.{says_nothing}
use Rattle.rtyper_data.specs.Seen.{Around, Operand, Place, kind_of, type_of, Writing, writing}
use Rattle.list_shape.specs.Shapes.{taking}
use Rattle.rtyper_list.specs.Lowering.{lowered, method_of, method_of_list, lower_list_op}
use Rattle.rtyper_list.specs.Methods.{method, of_one, reverse as reverses}
use Rattle.rtyper_list.specs.Operands.{of_list, list_of, pointed, done_by}
use Rattle.lower_laws.specs.Asked.{Ask, Make, all_asked}
use Rattle.lower_laws.proofs.Doing.{after}
use Rattle.lower_laws.proofs.Single.{sets}
use Rattle.lower_laws.proofs.Typing.{place_of_none}
use Rattle.ann_element.specs.declared.element.Element.{Element}
use Rattle.list_laws.specs.Asked.{HasList, HasAll}
use Rattle.list_laws.specs.Lists.{there_asks}
use Rattle.list_laws.specs.Presence.{IsTold}
use Rattle.list_laws.specs.Turned.{ListsAreReversed}
use Rattle.list_laws.proofs.Appended.{each_more}
use Rattle.list_laws.proofs.Indexed.{asked_both, has_first, has_more}
use Rattle.list_laws.proofs.Lowered.{list_comes, one_comes}
use Rattle.list_laws.proofs.Roomed.{all_set}
use Rattle.list_laws.proofs.Taking.{no_block}
use Rattle.list_laws.proofs.There.{Met, met}
use Rattle.list_laws.proofs.Turning.{Turned, turned, reverse_first}
use Rattle.list_laws.proofs.Walked.{two_behind}
use Rattle.object_laws.specs.Known.{Known}
use Rattle.object_laws.specs.Done.{Follows, HasLayout, items_in, references}
use Rattle.object_laws.specs.Ghost.{Ghost, Use, Head, Array, use_of, ListOf}
use Rattle.object_laws.specs.Represents.{Represents, ListAt, HasRoom, head_block}
use Rattle.object_laws.specs.Values.{Given, Alone, EachHolds, Empty, More}
use Rattle.object_laws.proofs.Blocks.{found_set, found_there}
use Rattle.object_laws.proofs.Calling.{Returns, back, calls_back}
use Rattle.object_laws.proofs.Changing.{IsOf, list_changes, settled_wrote, get_set_here, uses_apart}
use Rattle.object_laws.proofs.Growing.{grown_none}
use Rattle.object_laws.proofs.Passing.{Passed, is_set_at, is_kept_at, behind}
use Rattle.object_laws.proofs.Valued.{Listing, Absent, list_or_none, each_long}

each_reversed : {layout : Layout} {known : Known} {g : Ghost} {seen : Option Element} {xs : List Value} {vs : List Meant} → EachHolds layout known g seen xs vs → EachHolds layout known g seen (reverse xs) (reverse vs)
each_reversed Empty = Empty
each_reversed {layout = layout} {known = known} {g = g} {seen = seen} (More {x = x} {xs = xs} {v = v} {vs = vs} held each) =
    subst (λ l. EachHolds layout known g seen l (reverse (v ∷ vs))) (sym (reverse_first x xs)) (subst (λ l. EachHolds layout known g seen (reverse xs ++ x ∷ []) l) (sym (reverse_first v vs)) (each_more x v (each_reversed each) held))

-- ---- what the call leaves

record Reversed (p : LlProgram) (args : List (List ℕ)) (layout : Layout) (known : Known) (g : Ghost) (heap : Heap) (left i : ℕ) (head : Value) (items : List Meant) (f : ℕ) (core : Core) : Type 0 where
  blocks : List (Option Block)
  statics : List Block
  stands : Represents layout known g (slice_set heap i (Listed (reverse items))) left blocks statics
  few : length blocks ≡ length core.blocks
  returns : (waits : List Frame) → Returns p args (length items) (Calling f (head ∷ []) waits core) Unset waits (record core { blocks = blocks; statics = statics })

module _ (p : LlProgram) (args : List (List ℕ)) (layout : Layout) (known : Known) (raised : ℕ → Value) (structs : HasLayout p layout) (n : ℕ) (struct : is_list layout n ≡ true) (f : ℕ) (has : HasList p layout raised (listed.Reverse n) f)
    (g : Ghost) (heap : Heap) (left : ℕ) (core : Core) (r : Represents layout known g heap left core.blocks core.statics) (i : ℕ) (head : Value) (home : slice_get g.homes i ≡ Some (record { sort = ListOf n; head = head })) (l : ListAt layout known g heap left core.blocks core.statics n i head) where
  abbrev a : ℕ
  a = word (n + 1)

  abbrev whole : List Value
  whole = l.values ++ l.spare

  abbrev fields : List Value
  fields = Word (pos (length whole)) ∷ []

  apart : head ≡ l.array → ⊥
  apart e = uses_apart g head l.array (Head i) (Array i) l.head_use l.array_use (λ q. absurd (cc)) e

  turning : Turned p args (length l.items) (λ waits. Calling f (head ∷ []) waits core) core l.array a fields [] l.values l.spare
  turning = turned p args layout n f (structs.arrays n struct) has.graph head l.array fields core (structs.heads n struct) (length l.items) l.head_is l.values l.spare (each_long l.each) l.array_is (all_set r l.each) l.long

  items_long : length (reverse l.items) ≡ length l.items
  items_long = length-reverse l.items

  same_long : length whole ≡ length (reverse l.values ++ l.spare)
  same_long = length-append l.values l.spare ∙ ap (λ m. m + length l.spare) (sym (length-reverse l.values)) ∙ sym (length-append (reverse l.values) l.spare)

  changed : ListAt layout known g (slice_set heap i (Listed (reverse l.items))) left turning.blocks turning.statics n i head
  changed = record {
    items = reverse l.items;
    object = get_set_here heap i (Listed (reverse l.items)) (Listed l.items) l.object;
    array = l.array;
    values = reverse l.values;
    spare = l.spare;
    head_use = l.head_use;
    array_use = l.array_use;
    head_is = turning.wrote.others head apart ∙ l.head_is ∙ ap (λ m. Some (head_block n m l.array)) (sym items_long);
    array_is = turning.wrote.there ∙ ap (λ m. Some (record { kind = a; fields = Word (pos m) ∷ []; items = reverse l.values ++ l.spare })) same_long;
    each = each_reversed l.each;
    empty = l.empty;
    long = subst (λ m. m < 2 ^ 63) same_long l.long;
    room = subst (λ m. HasRoom m left) (sym items_long) l.room;
  }

  reversed : Reversed p args layout known g heap left i head l.items f core
  reversed = record {
    blocks = turning.blocks;
    statics = turning.statics;
    stands = list_changes n i head (reverse l.items) r grown_none refl (omega arith) home (r.made ∙ sym turning.wrote.made) turning.wrote.fixed (λ x block h. h) others (settled_wrote layout g r.settled turning.wrote (structs.lists_apart n struct).1) changed;
    few = turning.wrote.made;
    returns = turning.returns;
  }
    where
      others : (x : Value) (u : Use) → use_of g x ≡ Some u → (IsOf i u → ⊥) → found turning.blocks turning.statics x ≡ found core.blocks core.statics x
      others x u h other = turning.wrote.others x (uses_apart g x l.array u (Array i) h l.array_use (λ q. other (subst (IsOf i) (sym q) refl)))

-- ---- the call, and `None` for the place

module _ (known : Known) (around : Around) (place : Place) (p : LlProgram) (raised : ℕ → Value) (arguments : List (List ℕ)) (rest : List LlOp) (e : LlExit) (frames : List Frame) (core : Core) (g : Ghost) (most below : ℕ) (world : World)
    (structs : HasLayout p around.layout) (n f : ℕ) (struct : is_list around.layout n ≡ true) (has : HasList p around.layout raised (listed.Reverse n) f)
    (stands : Represents around.layout known g world.heap world.left core.blocks core.statics) (left : world.left ≡ core.steps) (inside : place.variable < length core.vars) (nothing : kind_seen place.element ≡ kind.Nothing)
    (x : COperand) (head : Value) (i : ℕ) (x_is : operand core.vars x ≡ head) (home : slice_get g.homes i ≡ Some (record { sort = ListOf n; head = head })) where
  abbrev here : ListAt around.layout known g world.heap world.left core.blocks core.statics n i head
  here = stands.lists n i head home struct

  reverses_it : length here.items ≤ most
      → Follows 0 known around place p arguments (At (op.Call None f (x ∷ []) ∷ op.Set place.variable (default_operand type.Bool) ∷ rest) e frames core) rest e frames core g raised most below world (Gives Nothing (record world { heap = slice_set world.heap i (Listed (reverse here.items)) }))
  reverses_it many =
      let same : operands core.vars (x ∷ []) ≡ head ∷ [] = ap (λ u. u ∷ []) x_is in
      let set : any_unset (head ∷ []) ≡ false = ap (λ b. b || false) (found_set core.blocks core.statics head _ here.head_is) in
      let it = reversed p arguments around.layout known raised structs n struct f has g world.heap world.left core stands i head home here in
      let mid : Core = back core (record core { blocks = it.blocks; statics = it.statics }) None Unset in
      let way : Leads p arguments (length here.items) (At (op.Call None f (x ∷ []) ∷ op.Set place.variable (default_operand type.Bool) ∷ rest) e frames core) [] (At (op.Set place.variable (default_operand type.Bool) ∷ rest) e frames mid) = calls_back (length here.items) same set it.returns in
      let way2 : Leads p arguments 0 (At (op.Set place.variable (default_operand type.Bool) ∷ rest) e frames mid) [] (At rest e frames (after mid place.variable (Flag false))) = sets (Flag false) refl refl in
      record {
        end = after mid place.variable (Flag false);
        text = [];
        leads = leads_more (length here.items + 0) most (omega (arith, many)) (leads_then way way2);
        ghost = g;
        grown = grown_none;
        stands = it.stands;
        holds = Alone nothing (is_set_at mid place.variable (Flag false) inside) refl;
        few = (let q = it.few in omega (arith, q));
        memory = ap (λ s. record core { function = 0; block = 0; at = 0; vars = []; blocks = it.blocks; statics = it.statics; steps = s }) (sym left);
        others = λ j under other. is_kept_at mid place.variable j (Flag false) other;
        room = length-set core.vars place.variable (Flag false);
        function = refl;
        block = refl;
        out = sym (append-nil world.out);
      }

-- ---- the operation

module _ (site : Option ℕ) (known : Known) (around : Around) (place : Place) (a : Operand) (w : Writing) (n : ℕ) (lists : of_list (kind_of a) ≡ true) (typed : type_of around a ≡ type.Ptr n) (nothing : kind_seen place.element ≡ kind.Nothing) where
  abbrev o : RowOp
  o = row.Method (codes "reverse") site

  it : Met around a w
  it = met around a w lists

  abbrev turns_around : Small
  turns_around = small.Listed (listed.Reverse n)

  abbrev first : Found
  first = all_asked (there_asks around a w.found.covered) w.found

  abbrev asks : List Ask
  asks = there_asks around a w.found.covered ++ Make turns_around ∷ []

  abbrev number : ℕ
  number = (small_number turns_around first).0

  abbrev calls : LlOp
  calls = op.Call None number (it.x ∷ [])

  abbrev puts : LlOp
  puts = op.Set place.variable (default_operand type.Bool)

  list_is : list_of around a ≡ n
  unfolding list_of
  list_is = ap pointed typed

  abbrev reverse_from : ℕ → Writing
  reverse_from k = says_nothing around place (done_by (listed.Reverse k) (it.x ∷ []) (writing first (record { types = w.body.types ++ it.new; ops = w.body.ops ++ it.ops })))

  is_written : lower_list_op around o place (a ∷ []) w ≡ writing (small_number turns_around first).1 (record { types = w.body.types ++ it.new; ops = ((w.body.ops ++ it.ops) ++ calls ∷ []) ++ puts ∷ [] })
  unfolding lowered method_of method_of_list method of_one reverses done_by
  is_written =
      one_comes around o place a w (list_comes a lists)
      ∙ ap (λ c. if c then reverses around place a w else lower_op around o place (a ∷ []) w) lists
      ∙ ap (λ made. taking made (λ x next. says_nothing around place (done_by (listed.Reverse (list_of around a)) (x ∷ []) next))) it.written
      ∙ ap reverse_from list_is
      ∙ ap (λ t. writing (small_number turns_around first).1 (nothing_to place t (record { types = w.body.types ++ it.new; ops = (w.body.ops ++ it.ops) ++ calls ∷ [] }))) (place_of_none around.layout place.element nothing)

  module _ (p : LlProgram) (numbers : Numbers) (raised : ℕ → Value) (arguments : List (List ℕ)) (rest : List LlOp) (e : LlExit) (frames : List Frame) (core : Core) (g : Ghost) (world : World)
      (structs : HasLayout p around.layout) (has : HasAll p around.layout numbers raised core asks w.found)
      (stands : Represents around.layout known g world.heap world.left core.blocks core.statics) (left : world.left ≡ core.steps)
      (room : length w.body.types + length it.new ≤ length core.vars) (inside : place.variable < length w.body.types) where
    abbrev Done : ℕ → Answer → Type 0
    Done most answer = Follows 0 known around place p arguments (At (it.ops ++ (calls ∷ puts ∷ rest)) e frames core) rest e frames core g raised most (length w.body.types) world answer

    has_there : HasAll p around.layout numbers raised core (there_asks around a w.found.covered) w.found
    has_there = has_first p around numbers raised core (there_asks around a w.found.covered) (Make turns_around ∷ []) w.found has

    has_graph : HasList p around.layout raised (listed.Reverse n) number
    has_graph = (has_more p around numbers raised core (there_asks around a w.found.covered) (Make turns_around ∷ []) w.found has).0

    there : (v : Meant) → Listing around.layout known g a.element (operand core.vars a.x) v → Done (references world.heap (v ∷ [])) (meant_op known.program w.found.covered o (v ∷ []) world)
    there v found_list =
        subst (Done most) (sym above)
        (behind 0 known around place p arguments rest e frames core g raised most (length w.body.types) world went.2 went.1 (Gives Nothing (record world { heap = slice_set world.heap found_list.i (Listed (reverse mid_here.items)) })) tt
        (reverses_it known around place p raised arguments rest e frames mid g most (length w.body.types) world structs n number struct has_graph stands_mid left_mid (let q = went.2.room in omega (arith, room, inside, q)) nothing it.x x found_list.i went.3 home many))
      where
        most : ℕ
        most = references world.heap (v ∷ [])

        x : Value
        x = operand core.vars a.x

        number_is : found_list.n ≡ n
        number_is = ap pointed (sym found_list.typed ∙ typed)

        struct : is_list around.layout n ≡ true
        struct = subst (λ k. is_list around.layout k ≡ true) number_is found_list.struct

        home : slice_get g.homes found_list.i ≡ Some (record { sort = ListOf n; head = x })
        home = subst (λ k. slice_get g.homes found_list.i ≡ Some (record { sort = ListOf k; head = x })) number_is found_list.home

        l : ListAt around.layout known g world.heap world.left core.blocks core.statics n found_list.i x
        l = stands.lists n found_list.i x home struct

        went : (mid : Core) × Leads p arguments 0 (At (it.ops ++ (calls ∷ puts ∷ rest)) e frames core) [] (At (calls ∷ puts ∷ rest) e frames mid) × Passed (length w.body.types) core mid × (operand mid.vars it.x ≡ operand core.vars a.x)
        went = it.enters p numbers raised arguments (calls ∷ puts ∷ rest) e frames core has_there room (found_set core.blocks core.statics x _ l.head_is) (found_there core.blocks core.statics x _ l.head_is)

        mid : Core
        mid = went.0

        stands_mid : Represents around.layout known g world.heap world.left mid.blocks mid.statics
        stands_mid = subst (λ (c : Core). Represents around.layout known g world.heap world.left c.blocks c.statics) (sym went.2.memory) stands

        left_mid : world.left ≡ mid.steps
        left_mid = left ∙ sym (ap (λ (c : Core). c.steps) went.2.memory)

        mid_here : ListAt around.layout known g world.heap world.left mid.blocks mid.statics n found_list.i x
        mid_here = stands_mid.lists n found_list.i x home struct

        many : length mid_here.items ≤ most
        many = (let q : references world.heap (v ∷ []) ≡ references world.heap (Ref found_list.i ∷ []) = ap (λ v. references world.heap (v ∷ [])) found_list.high in let k : items_in (slice_get world.heap found_list.i) ≡ length mid_here.items = ap items_in mid_here.object in omega (arith, q, k))

        above : meant_op known.program w.found.covered o (v ∷ []) world ≡ Gives Nothing (record world { heap = slice_set world.heap found_list.i (Listed (reverse mid_here.items)) })
        above = ap (λ v. meant_op known.program w.found.covered o (v ∷ []) world) found_list.high ∙ ap (λ object. object_method known.program w.found.covered (codes "reverse") found_list.i [] object world) mid_here.object

    missing : (v : Meant) → Absent a.element (operand core.vars a.x) v → Done (references world.heap (v ∷ [])) (meant_op known.program w.found.covered o (v ∷ []) world)
    missing v gone = subst (Done (references world.heap (v ∷ []))) (sym (ap (λ v. meant_op known.program w.found.covered o (v ∷ []) world) gone.high))
        (no_block known around place p arguments (At (it.ops ++ (calls ∷ puts ∷ rest)) e frames core) rest e frames core g raised (references world.heap (v ∷ [])) (length w.body.types) world w.found.covered.attribute
        (it.misses known place p numbers raised arguments (calls ∷ puts ∷ []) rest e frames core g (references world.heap (v ∷ [])) world has_there gone.may gone.low))

    either : (v : Meant) → Listing around.layout known g a.element (operand core.vars a.x) v ⊎ Absent a.element (operand core.vars a.x) v → Done (references world.heap (v ∷ [])) (meant_op known.program w.found.covered o (v ∷ []) world)
    either v (inl is) = there v is
    either v (inr gone) = missing v gone

    follow : (vs : List Meant) → Given known around g core (a ∷ []) vs → Follows 0 known around place p arguments (At ((it.ops ++ (calls ∷ puts ∷ [])) ++ rest) e frames core) rest e frames core g raised (references world.heap vs) (length w.body.types) world (meant_op known.program w.found.covered o vs world)
    follow [] given = absurd given
    follow (v ∷ []) given = subst (λ l. Follows 0 known around place p arguments (At l e frames core) rest e frames core g raised (references world.heap (v ∷ [])) (length w.body.types) world (meant_op known.program w.found.covered o (v ∷ []) world)) (sym (append_assoc it.ops (calls ∷ puts ∷ []) rest)) (either v (list_or_none lists given.0))
    follow (v ∷ u ∷ vs) given = absurd given.1

  reverse_done : IsTold known around o w.found.covered asks place (a ∷ []) w
  reverse_done = record {
    ops = it.ops ++ (calls ∷ puts ∷ []);
    new = it.new;
    asked = ap (λ (r : Writing). r.found) is_written ∙ sym (asked_both (there_asks around a w.found.covered) (Make turns_around ∷ []) w.found);
    written = ap (λ (r : Writing). r.body.ops) is_written ∙ two_behind w.body.ops it.ops calls puts;
    types = ap (λ (r : Writing). r.body.types) is_written;
    follows = λ p numbers raised arguments rest e frames core g world vs structs has stands left room inside below given good. follow p numbers raised arguments rest e frames core g world structs has stands left room inside vs given;
  }

pub lists_are_reversed : ListsAreReversed
lists_are_reversed site known around place a w n lists typed nothing = reverse_done site known around place a w n lists typed nothing
