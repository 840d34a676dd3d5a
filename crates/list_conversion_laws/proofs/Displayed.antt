-- A list is made of items that are converted.
use Rattle.std.proofs.Common.{◌≡◌, ◌<◌, ◌≤◌, ℕ, suc, ◌+◌, ◌-◌, ◌^◌, Bool, true, false, List, [], ◌∷◌, ◌++◌, length, Option, Some, None, pos, refl, sym, ap, ◌∙◌, subst, arith, append_assoc, length-append}
use Rattle.std.specs.Prelude.{nat_lt, if◌then◌else◌, replicate}
use Rattle.std.proofs.lemmas.List.{append-nil, length-set}
use Rattle.ann_element.specs.declared.element.Element.{Element}
use Rattle.csub_tree.specs.State.{Value, Unset, Word, Ptr, Block, Core}
use Rattle.csub_tree.specs.Statement.{read}
use Rattle.csub_tree.specs.declared.tree.COperand.{COperand}
use Rattle.csub_tree.specs.declared.tree.COperand.TheVariants.{Var}
use Rattle.rpy_tree.specs.Value.{Value as Meant, Ref, Listed as ListedObject}
use Rattle.rpy_meaning.specs.declared.row.Covers.{Covers}
use Rattle.rpy_meaning.specs.declared.row.RowOp.TheVariants as row
use Rattle.rpy_meaning.specs.Operations.{op as meant_op}
use Rattle.rpy_meaning.specs.World.{World, Answer, Gives, Lacks}
use Rattle.ll_code.specs.State.{Frame, State, At}
use Rattle.ll_code.specs.declared.program.LlType.{LlType}
use Rattle.ll_code.specs.declared.program.LlType.TheVariants as type
use Rattle.ll_code.specs.declared.program.LlOp.{LlOp}
use Rattle.ll_code.specs.declared.program.LlOp.TheVariants as op
use Rattle.ll_code.specs.declared.program.LlExit.{LlExit}
use Rattle.ll_code.specs.declared.program.LlProgram.{LlProgram}
use Rattle.ll_leads.specs.Memory.{forgotten}
use Rattle.ll_leads.specs.Path.{Leads}
use Rattle.ll_leads.proofs.Joined.{leads_then, leads_more}
use Rattle.ll_leads.proofs.Ways.{rests, pays, lacks}
use Rattle.ll_texts.specs.Texts.{found}
use Rattle.ll_texts.proofs.Writing.{newest}
use Rattle.rtyper_layout.specs.Layout.{is_list}
use Rattle.rtyper_layout.specs.Types.{word, type_of as element_type}
use Rattle.rtyper_data.specs.declared.body.Body.{Body}
use Rattle.rtyper_data.specs.declared.small.Small.{Small}
use Rattle.rtyper_data.specs.declared.small.Small.TheVariants as small
use Rattle.rtyper_data.specs.declared.small.Listed.TheVariants as listed
use Rattle.rtyper_data.specs.Converting.{by_small}
use Rattle.rtyper_data.specs.Finding.{small_number}
use Rattle.rtyper_op.specs.Lowering.{lower_op, is_never}
use Rattle.rtyper_data.specs.Numbers.{word as word_operand}
use Rattle.rtyper_data.specs.Seen.{Around, Operand, Place, Writing, writing, push}
use Rattle.rtyper_data.specs.Tuples.{variable_of, with_first}
use Rattle.list_shape.specs.Shapes.{item_of, shape_of}
use Rattle.rtyper_list.specs.Displays.{display, display_to, display_of, made, filled, items_as, put_list}
use Rattle.rtyper_list.specs.Lowering.{lowered, lowered_unless, lower_list_op}
use Rattle.rtyper_list.specs.Operands.{list_at, list_if, array_in}
use Rattle.lower_laws.specs.Asked.{Make}
use Rattle.lower_laws.specs.Values.{AllBelow}
use Rattle.lower_laws.proofs.Doing.{after}
use Rattle.lower_laws.proofs.Single.{sets}
use Rattle.lower_laws.proofs.Stayed.{field_is}
use Rattle.object_laws.specs.Done.{Follows, HasLayout}
use Rattle.object_laws.specs.Ghost.{Ghost, ListOf}
use Rattle.object_laws.specs.Known.{Known}
use Rattle.object_laws.specs.Represents.{Represents, head_block, array_block}
use Rattle.object_laws.specs.Staying.{Stays}
use Rattle.object_laws.specs.Values.{Given, Holds, Listed, EachHolds}
use Rattle.object_laws.proofs.Blocks.{reads_field}
use Rattle.object_laws.proofs.Calling.{back, calls_back}
use Rattle.object_laws.proofs.Made.{get_first, with_list, list_grown, list_made}
use Rattle.object_laws.proofs.Passing.{Passed, is_set_at, is_kept_at}
use Rattle.object_laws.proofs.Valued.{stays_there}
use Rattle.list_laws.specs.Asked.{HasList}
use Rattle.list_laws.specs.Lists.{IsList, AllStay}
use Rattle.list_laws.proofs.Making.{made_list, raw_array}
use Rattle.csub_tree.specs.Statement.{operands}
use Rattle.ll_build.specs.declared.needs.Numbers.{Numbers}
use Rattle.rtyper_layout.specs.Layout.{is_tuple}
use Rattle.rtyper_data.specs.Converting.{given}
use Rattle.lower_laws.specs.Asked.{Ask, all_asked}
use Rattle.object_laws.specs.Done.{Came}
use Rattle.object_laws.specs.Values.{AllHold, End, Next}
use Rattle.conversion_laws.proofs.Moving.{has_first, has_second}
use Rattle.conversion_laws.proofs.Turns.{fewer_left}
use Rattle.list_laws.specs.Asked.{Has}
use Rattle.list_laws.proofs.Itemed.{too_few, are_enough, xs_of, values_of, values_long, each_of, all_set, count_is, many, set_ops, items_written, with_items, Filled, fills, Same, same_of, same_passed}
use Rattle.passing_laws.specs.Done.{IsDoneBehind}
use Rattle.passing_laws.specs.Passed.{Moved, ArePassed}
use Rattle.passing_laws.specs.Passing.{AllPass, each_given, pass_asks, tuples_of, items_of, AllUnder}
use Rattle.passing_laws.specs.Standing.{Stood}
use Rattle.passing_laws.proofs.Asking.{passes_stood}
use Rattle.passing_laws.proofs.Behind.{came_behind, at_once}
use Rattle.passing_laws.proofs.Operands.{operands_are_passed, asked_both, is_below_more}
use Rattle.list_conversion_laws.specs.Lists.{HasLists, each_item, references_made, ListsAreMade}

-- ---- items

-- what is converted, as operands of which this is known
abbrev as_items : Element → List COperand → List Operand
as_items item [] = []
as_items item (x ∷ xs) = record { x = x; element = Some item } ∷ as_items item xs

items_are : (item : Element) (xs : List COperand) → xs_of (as_items item xs) ≡ xs
unfolding xs_of
items_are item [] = refl
items_are item (x ∷ xs) = ap (λ ys. x ∷ ys) (items_are item xs)

all_settled : (known : Known) (around : Around) (item : Element) (xs : List COperand) → Stays around.layout known (Some item) (Some item) → AllStay around known (as_items item xs) item
all_settled known around item [] settled = tt
all_settled known around item (x ∷ xs) settled = (settled, all_settled known around item xs settled)

items_given : (known : Known) (around : Around) (item : Element) (ghost : Ghost) (core : Core) (args : List Operand) (xs : List COperand) (vs : List Meant) → AllHold around.layout known ghost (each_item args item) (operands core.vars xs) vs → Given known around ghost core (as_items item xs) vs
items_given known around item ghost core [] [] [] End = tt
items_given known around item ghost core [] [] (v ∷ vs) h = elim h [ ]
items_given known around item ghost core [] (x ∷ xs) vs h = elim h [ ]
items_given known around item ghost core (a ∷ args) [] vs h = elim h [ ]
items_given known around item ghost core (a ∷ args) (x ∷ xs) [] h = elim h [ ]
items_given known around item ghost core (a ∷ args) (x ∷ xs) (v ∷ vs) (Next held all) = (held, items_given known around item ghost core args xs vs all)

items_below : (item : Element) (m n : ℕ) (xs : List COperand) → m ≤ n → AllUnder m xs → AllBelow n (as_items item xs)
items_below item m n [] h under = tt
items_below item m n (x ∷ xs) h under = (is_below_more m n h x under.0, items_below item m n xs h under.1)

items_as_given : (around : Around) (item : Element) (t : LlType) (args : List Operand) (w : Writing) → t ≡ element_type around.layout item → items_as around t args w ≡ each_given around args (each_item args item) w
items_as_given around item t [] w h = refl
items_as_given around item t (a ∷ args) w h =
    let made : COperand × Writing = given around a (element_type around.layout item) w in
    ap (λ u. with_first (given around a u w) (λ next. items_as around t args next)) h ∙ ap (λ (r : List COperand × Writing). (made.0 ∷ r.0, r.1)) (items_as_given around item t args made.1 h)

items_long : (known : Known) (around : Around) (g : Ghost) (core : Core) (args : List Operand) (item : Element) (xs : List COperand) (vs : List Meant) → AllHold around.layout known g (each_item args item) (operands core.vars xs) vs → length (as_items item xs) ≡ length args
items_long known around g core [] item [] vs h = refl
items_long known around g core [] item (x ∷ xs) vs h = elim h [ ]
items_long known around g core (a ∷ args) item [] vs h = elim h [ ]
items_long known around g core (a ∷ args) item (x ∷ xs) [] h = elim h [ ]
items_long known around g core (a ∷ args) item (x ∷ xs) (v ∷ vs) (Next held all) = ap suc (items_long known around g core args item xs vs all)

-- ---- behind the conversions

module _ (known : Known) (around : Around) (place : Place) (mine : List Operand) (w : Writing) (n : ℕ) (item : Element) (of : IsList around known place.element n item) (struct : is_list around.layout n ≡ true) (stay : AllStay around known mine item) where
  abbrev count : ℕ
  count = length mine

  abbrev graph : Small
  graph = small.Listed (listed.Make n)

  abbrev number : ℕ
  number = (small_number graph w.found).0

  abbrev m1 : ℕ
  m1 = length w.body.types

  abbrev m2 : ℕ
  m2 = length (w.body.types ++ type.Ptr n ∷ [])

  abbrev makes : LlOp
  makes = op.Call (Some m1) number (word_operand (pos count) ∷ [])

  abbrev gets_array : LlOp
  gets_array = op.GetField m2 n m1 1

  abbrev fillings : List LlOp
  fillings = set_ops (word (n + 1)) m2 0 (xs_of mine)

  abbrev puts : LlOp
  puts = op.Set place.variable (Var m1)

  m2_is : m2 ≡ m1 + 1
  m2_is = length-append w.body.types (type.Ptr n ∷ [])

  module _ (p : LlProgram) (raised : ℕ → Value) (arguments : List (List ℕ)) (rest : List LlOp) (e : LlExit) (frames : List Frame) (core : Core) (g : Ghost) (world : World) (fewer : ℕ) (vs : List Meant)
      (structs : HasLayout p around.layout) (has : HasList p around.layout raised (listed.Make n) number)
      (stands : Represents around.layout known g world.heap fewer core.blocks core.statics) (left : fewer ≡ core.steps) (room : m1 + 2 ≤ length core.vars) (inside : place.variable < m1) (under : AllBelow m1 mine)
      (given : Given known around g core mine vs) (paid : count + 1 + fewer ≤ world.left) (bound : world.left < 2 ^ 62) where
    abbrev Here : State
    Here = At (makes ∷ gets_array ∷ (fillings ++ (puts ∷ rest))) e frames core

    abbrev bs : List (Option Block)
    bs = core.blocks

    abbrev bs1 : List (Option Block)
    bs1 = bs ++ Some (raw_array n count) ∷ []

    abbrev head : ℕ
    head = length bs1

    abbrev head_is_block : Block
    head_is_block = head_block n count (Ptr (length bs))

    abbrev core2 : Core
    core2 = back core (record core { blocks = bs1 ++ Some head_is_block ∷ [] }) (Some m1) (Ptr head)

    abbrev core3 : Core
    core3 = after core2 m2 (Ptr (length bs))

    abbrev values : List Value
    values = values_of core mine

    abbrev world2 : World
    world2 = record world { heap = world.heap ++ ListedObject vs ∷ []; left = fewer }

    blocks3 : core3.blocks ≡ with_items bs (word (n + 1)) count ([] ++ replicate count Unset) (Some head_is_block)
    blocks3 = append_assoc bs (Some (raw_array n count) ∷ []) (Some head_is_block ∷ [])

    long2 : length core2.vars ≡ length core.vars
    long2 = length-set core.vars m1 (Ptr head)

    passed3 : Passed m1 (record core { blocks = core3.blocks }) core3
    passed3 = record {
      memory = refl;
      others = λ k low. is_kept_at core2 m2 k (Ptr (length bs)) (λ q. omega (arith, low, q, m2_is)) ∙ is_kept_at core m1 k (Ptr head) (λ q. omega (arith, low, q));
      room = length-set core2.vars m2 (Ptr (length bs)) ∙ long2;
      function = refl;
      block = refl;
    }

    head_at : read core2.vars m1 ≡ Ptr head
    head_at = is_set_at core m1 (Ptr head) (omega (arith, room))

    same_given : Same core3 core mine
    same_given = same_of core3 (record core { blocks = core3.blocks }) core mine refl (same_passed core3 (record core { blocks = core3.blocks }) mine passed3 under)

    filled_all : Filled p arguments fillings (puts ∷ rest) e frames core3 bs (word (n + 1)) count ([] ++ values) (Some head_is_block) count
    filled_all = fills p arguments (puts ∷ rest) e frames bs n m2 count (Some head_is_block) (structs.arrays n struct) core mine core3 [] 0 refl (is_set_at core2 m2 (Ptr (length bs)) (omega (arith, room, m2_is, long2))) blocks3 same_given (all_set known around g (record world { left = fewer }) core core stands mine vs given)

    each : EachHolds around.layout known g (known.items n) values vs
    each = subst (λ seen. EachHolds around.layout known g seen values vs) (sym of.item_is) (each_of known around item g core mine vs stay given)

    counts : length vs ≡ count
    counts = count_is known around g core mine vs given

    values_are : length values ≡ count
    values_are = values_long core mine

    blocks_are : filled_all.end.blocks ≡ bs ++ Some (array_block n values) ∷ Some (head_block n (length vs) (Ptr (length bs))) ∷ []
    blocks_are = ap (λ (c : Core). c.blocks) filled_all.same
        ∙ ap (λ k. bs ++ Some (record { kind = word (n + 1); fields = Word (pos k) ∷ []; items = values }) ∷ Some head_is_block ∷ []) (sym values_are)
        ∙ ap (λ k. bs ++ Some (array_block n values) ∷ Some (head_block n k (Ptr (length bs))) ∷ []) (sym counts)

    statics_are : filled_all.end.statics ≡ core.statics
    statics_are = ap (λ (c : Core). c.statics) filled_all.same

    head_is : head ≡ length g.blocks + 1
    head_is = length-append bs (Some (raw_array n count) ∷ []) ∙ ap (λ k. k + 1) (sym stands.made)

    abbrev ghost : Ghost
    ghost = with_list g n (length world.heap)

    held : Holds around.layout known ghost place.element (Ptr head) (Ref (length world.heap))
    held = Listed n (length world.heap) of.is refl of.typed struct (get_first g.homes [] (record { sort = ListOf n; head = Ptr (length g.blocks + 1) }) (length world.heap) (sym stands.homes) ∙ ap (λ k. Some (record { sort = ListOf n; head = Ptr k })) (sym head_is))

    vars_are : filled_all.end.vars ≡ core3.vars
    vars_are = filled_all.vars

    end_at : read filled_all.end.vars m1 ≡ Ptr head
    end_at = ap (λ vars. read vars m1) vars_are ∙ is_kept_at core2 m2 m1 (Ptr (length bs)) (λ q. omega (arith, q, m2_is)) ∙ head_at

    long_end : length filled_all.end.vars ≡ length core.vars
    long_end = ap length vars_are ∙ passed3.room

    memory_is : forgotten filled_all.end ≡ forgotten (record core { blocks = filled_all.end.blocks; statics = filled_all.end.statics; steps = fewer })
    memory_is = filled_all.same
        ∙ ap (λ bs. forgotten (record core { blocks = bs })) (sym (ap (λ (c : Core). c.blocks) filled_all.same))
        ∙ ap (λ ss. forgotten (record core { blocks = filled_all.end.blocks; statics = ss })) (sym statics_are)
        ∙ ap (λ k. forgotten (record core { blocks = filled_all.end.blocks; statics = filled_all.end.statics; steps = k })) (sym left)

    calls : Leads p arguments 1 Here [] (At (gets_array ∷ (fillings ++ (puts ∷ rest))) e frames core2)
    calls = calls_back 1 refl refl (made_list p arguments around.layout n number count (structs.heads n struct) (structs.arrays n struct) has.graph core)

    gets : Leads p arguments 0 (At (gets_array ∷ (fillings ++ (puts ∷ rest))) e frames core2) [] (At (fillings ++ (puts ∷ rest)) e frames core3)
    gets = reads_field 2 head_is_block (Ptr (length bs)) (structs.heads n struct) (ap (found core2.blocks core2.statics) head_at ∙ newest bs1 (Some head_is_block) None) refl refl 1 refl

    pub made_behind : Came 2 known around place p arguments Here rest e frames core g (count + 1) m1 world (Ref (length world.heap)) world2
    made_behind = record {
      end = after filled_all.end place.variable (Ptr head);
      text = [];
      leads = leads_more (1 + (0 + (count + 0))) (count + 1) (omega arith) (leads_then calls (leads_then gets (leads_then filled_all.way (sets (Ptr head) end_at refl))));
      ghost = ghost;
      grown = list_grown g n (length world.heap);
      stands = subst (λ ss. Represents around.layout known ghost world2.heap fewer filled_all.end.blocks ss) (sym statics_are)
          (subst (λ bs. Represents around.layout known ghost world2.heap fewer bs core.statics) (sym blocks_are)
          (list_made stands n fewer values vs (omega arith) struct each (omega (arith, paid, bound, values_are)) (omega (arith, paid, bound, counts)) (structs.lists_apart n struct)));
      holds = subst (λ x. Holds around.layout known ghost place.element x (Ref (length world.heap))) (sym (is_set_at filled_all.end place.variable (Ptr head) (omega (arith, room, inside, long_end)))) held;
      few = (let l : length filled_all.end.blocks ≡ length bs + 2 = ap length blocks_are ∙ length-append bs (Some (array_block n values) ∷ Some (head_block n (length vs) (Ptr (length bs))) ∷ []) in omega (arith, l));
      memory = memory_is;
      others = λ k low other. is_kept_at filled_all.end place.variable k (Ptr head) other ∙ ap (λ vars. read vars k) vars_are ∙ passed3.others k low;
      room = length-set filled_all.end.vars place.variable (Ptr head) ∙ long_end;
      function = filled_all.function;
      block = filled_all.block;
      out = sym (append-nil world.out);
    }

-- ---- the display

module _ (site : ℕ) (known : Known) (around : Around) (place : Place) (args : List Operand) (w : Writing) (covers : Covers) (n : ℕ) (item : Element) (of : IsList around known place.element n item) (struct : is_list around.layout n ≡ true) (settled : Stays around.layout known (Some item) (Some item))
    (apart : is_tuple around.layout 0 ≡ false) (comes : is_never args ≡ false) (pass : AllPass around.layout known args (each_item args item)) where
  abbrev es : List Element
  es = each_item args item

  abbrev pays_all : LlOp
  pays_all = op.Step (word_operand (pos (length args + 1)))

  abbrev paid_for : Writing
  paid_for = push pays_all w

  them : ArePassed known around args es paid_for
  them = operands_are_passed known around args es paid_for apart pass

  abbrev asks : List Ask
  asks = pass_asks around.layout args es

  abbrev next : Writing
  next = writing (all_asked asks w.found) (record { types = w.body.types ++ them.new; ops = paid_for.body.ops ++ them.ops })

  abbrev mine : List Operand
  mine = as_items item them.xs

  abbrev its_number : ℕ
  its_number = (small_number (small.Listed (listed.Make n)) next.found).0

  abbrev n1 : ℕ
  n1 = length next.body.types

  abbrev n2 : ℕ
  n2 = length (next.body.types ++ type.Ptr n ∷ [])

  n1_is : n1 ≡ length w.body.types + length them.new
  n1_is = length-append w.body.types them.new

  list_there : list_at around place ≡ Some n
  unfolding list_at
  list_there = ap (list_if around.layout) of.typed ∙ ap (λ c. if c then Some n else None) struct

  kept_is : item_of around.layout (word (n + 1)) ≡ element_type around.layout item
  kept_is = of.items ∙ field_is (element_type around.layout item) (λ h. stays_there settled h)

  -- the call is of as many as there are operands
  abbrev calls_make : LlOp
  calls_make = op.Call (Some n1) its_number (word_operand (pos (length args)) ∷ [])

  abbrev gets_it : LlOp
  gets_it = op.GetField n2 n n1 1

  abbrev fillings_all : List LlOp
  fillings_all = set_ops (word (n + 1)) n2 0 them.xs

  abbrev puts_it : LlOp
  puts_it = op.Set place.variable (Var n1)

  abbrev begun_body : Body
  begun_body = record { types = (next.body.types ++ type.Ptr n ∷ []) ++ type.Ptr (word (n + 1)) ∷ []; ops = (next.body.ops ++ calls_make ∷ []) ++ gets_it ∷ [] }

  written : lower_list_op around (row.List site) place args w ≡ writing (small_number (small.Listed (listed.Make n)) next.found).1 (record { types = begun_body.types; ops = (begun_body.ops ++ fillings_all) ++ puts_it ∷ [] })
  unfolding lowered display display_of made by_small variable_of filled array_in
  written =
      ap (λ c. if c then lower_op around (row.List site) place args w else lowered_unless false around (row.List site) place args w) comes
      ∙ ap (λ r. display_to around place args r paid_for) list_there
      ∙ ap (λ (made_items : List COperand × Writing). put_list place (shape_of around.layout n) made_items.0 (made n (length args) made_items.1)) (items_as_given around item (item_of around.layout (word (n + 1))) args paid_for kept_is ∙ them.is)
      ∙ ap (λ (body : Body). writing (small_number (small.Listed (listed.Make n)) next.found).1 (record body { ops = body.ops ++ puts_it ∷ [] })) (items_written (word (n + 1)) n2 0 them.xs begun_body)

  abbrev new : List LlType
  new = them.new ++ (type.Ptr n ∷ type.Ptr (word (n + 1)) ∷ [])

  new_long : length new ≡ length them.new + 2
  new_long = length-append them.new (type.Ptr n ∷ type.Ptr (word (n + 1)) ∷ [])

  module _ (p : LlProgram) (numbers : Numbers) (raised : ℕ → Value) (structs : HasLayout p around.layout) (stood : Stood around.layout known (HasLists around.layout p numbers raised) (asks ++ Make (small.Listed (listed.Make n)) ∷ []) w.found)
      (arguments : List (List ℕ)) (rest : List LlOp) (e : LlExit) (frames : List Frame) (core : Core) (g : Ghost) (world : World) (vs : List Meant) (stands : Represents around.layout known g world.heap world.left core.blocks core.statics) (left : world.left ≡ core.steps)
      (room : length w.body.types + length new ≤ length core.vars) (inside : place.variable < length w.body.types) (below : AllBelow (length w.body.types) args) (given_args : Given known around g core args vs) where
    abbrev Behind_step : List LlOp
    Behind_step = them.ops ++ (calls_make ∷ gets_it ∷ (fillings_all ++ (puts_it ∷ rest)))

    abbrev Start : State
    Start = At (pays_all ∷ Behind_step) e frames core

    abbrev Done : Answer → Type 0
    Done answer = Follows (2 + tuples_of es) known around place p arguments Start rest e frames core g raised (references_made args item world vs) (length w.body.types) world answer

    abbrev cost : ℕ
    cost = length args + 1

    abbrev fewer : ℕ
    fewer = world.left - cost

    abbrev world_then : World
    world_then = record world { heap = world.heap ++ ListedObject vs ∷ []; left = fewer }

    abbrev stepped : Core
    stepped = record core { at = core.at + 1; steps = fewer }

    stood_asks : Stood around.layout known (HasLists around.layout p numbers raised) asks w.found
    stood_asks k h heap left s u = has_first (HasLists around.layout p numbers raised k) asks (Make (small.Listed (listed.Make n)) ∷ []) w.found (stood k h heap left s u)

    has_make : HasList p around.layout raised (listed.Make n) its_number
    has_make = (has_second (HasLists around.layout p numbers raised core) asks (Make (small.Listed (listed.Make n)) ∷ []) w.found (stood core g world.heap world.left stands left)).0

    lacking : world.left < cost → Done Lacks
    lacking short = record { last = Start; leads = rests; ends = lacks p arguments Behind_step e frames core (word_operand (pos cost)) cost refl (omega (arith, short, left)); blocks = refl; holds = λ placed b h. h }

    moved : cost ≤ world.left → Moved around.layout known p arguments (At Behind_step e frames stepped) (calls_make ∷ gets_it ∷ (fillings_all ++ (puts_it ∷ rest))) e frames stepped g world.heap fewer (length w.body.types) (items_of es) (tuples_of es) (λ ghost end. AllHold around.layout known ghost es (operands end.vars them.xs) vs)
    moved enough = them.follows p numbers raised arguments (calls_make ∷ gets_it ∷ (fillings_all ++ (puts_it ∷ rest))) e frames stepped g world.heap fewer vs structs (passes_stood (λ p. Has p around.layout) around.layout p numbers raised known args es w.found stood_asks) (fewer_left (omega arith) stands) refl (omega (arith, room, new_long)) below given_args

    gives_it : cost ≤ world.left → (m : Moved around.layout known p arguments (At Behind_step e frames stepped) (calls_make ∷ gets_it ∷ (fillings_all ++ (puts_it ∷ rest))) e frames stepped g world.heap fewer (length w.body.types) (items_of es) (tuples_of es) (λ ghost end. AllHold around.layout known ghost es (operands end.vars them.xs) vs)) → Done (Gives (Ref (length world.heap)) world_then)
    gives_it enough m =
        let room_then = m.room in
        let many_items : length mine ≡ length args = items_long known around m.ghost m.end args item them.xs vs m.fine in
        let same_ops : At (op.Call (Some n1) its_number (word_operand (pos (length mine)) ∷ []) ∷ gets_it ∷ (set_ops (word (n + 1)) n2 0 (xs_of mine) ++ (puts_it ∷ rest))) e frames m.end ≡ At (calls_make ∷ gets_it ∷ (fillings_all ++ (puts_it ∷ rest))) e frames m.end =
        ap (λ k. At (op.Call (Some n1) its_number (word_operand (pos k) ∷ []) ∷ gets_it ∷ (set_ops (word (n + 1)) n2 0 (xs_of mine) ++ (puts_it ∷ rest))) e frames m.end) many_items ∙ ap (λ xs. At (calls_make ∷ gets_it ∷ (set_ops (word (n + 1)) n2 0 xs ++ (puts_it ∷ rest))) e frames m.end) (items_are item them.xs) in
        let few = stands.few in
        let here : Came 2 known around place p arguments (At (calls_make ∷ gets_it ∷ (fillings_all ++ (puts_it ∷ rest))) e frames m.end) rest e frames m.end m.ghost (length mine + 1) n1 world (Ref (length world.heap)) world_then =
        subst (λ s. Came 2 known around place p arguments s rest e frames m.end m.ghost (length mine + 1) n1 world (Ref (length world.heap)) world_then) same_ops
        (made_behind known around place mine next n item of struct (all_settled known around item them.xs settled) p raised arguments rest e frames m.end m.ghost world fewer vs structs has_make m.stands (sym (ap (λ (k : Core). k.steps) m.memory)) (omega (arith, room, new_long, n1_is, room_then)) (omega (arith, inside, n1_is))
        (items_below item (length w.body.types + length them.new) n1 them.xs (omega (arith, n1_is)) (them.under below)) (items_given known around item m.ghost m.end args them.xs vs m.fine) (omega (arith, enough, many_items)) few) in
        let behind_step : Came (tuples_of es + 2) known around place p arguments (At Behind_step e frames stepped) rest e frames stepped g (items_of es + (length mine + 1)) (length w.body.types) world (Ref (length world.heap)) world_then = came_behind (omega (arith, n1_is)) m here in
        let many_written = many known around g world core args vs given_args in
        record {
          end = behind_step.end;
          text = behind_step.text;
          leads = leads_more (0 + (items_of es + (length mine + 1))) (references_made args item world vs) (omega (arith, many_items, many_written)) (leads_then (pays cost fewer refl (omega (arith, left, enough))) behind_step.leads);
          ghost = behind_step.ghost;
          grown = behind_step.grown;
          stands = behind_step.stands;
          holds = behind_step.holds;
          few = (let k = behind_step.few in omega (arith, k));
          memory = behind_step.memory;
          others = behind_step.others;
          room = behind_step.room;
          function = behind_step.function;
          block = behind_step.block;
          out = behind_step.out;
        }

    costs : (k : ℕ) → k ≡ length args → (if nat_lt world.left (1 + k) then Lacks else Gives (Ref (length world.heap)) (record world { heap = world.heap ++ ListedObject vs ∷ []; left = world.left - (1 + k) })) ≡ (if nat_lt world.left cost then Lacks else Gives (Ref (length world.heap)) world_then)
    costs k h = ap (λ c. if nat_lt world.left c then Lacks else Gives (Ref (length world.heap)) (record world { heap = world.heap ++ ListedObject vs ∷ []; left = world.left - c })) (let q : 1 + k ≡ cost = omega (arith, h) in q)

    displayed : Done (meant_op known.program covers (row.List site) vs world)
    displayed = subst Done (sym (costs (length vs) (count_is known around g core args vs given_args))) (by (nat_lt world.left cost) refl)
      where
        by : (c : Bool) → nat_lt world.left cost ≡ c → Done (if c then Lacks else Gives (Ref (length world.heap)) world_then)
        by true h = lacking (too_few world.left cost h)
        by false h = gives_it (are_enough world.left cost h) (moved (are_enough world.left cost h))

  abbrev ops : List LlOp
  ops = pays_all ∷ (them.ops ++ (calls_make ∷ gets_it ∷ (fillings_all ++ puts_it ∷ [])))

  all_ops : (xs os ss : List LlOp) (a b c d : LlOp) → (((((xs ++ a ∷ []) ++ os) ++ b ∷ []) ++ c ∷ []) ++ ss) ++ d ∷ [] ≡ xs ++ (a ∷ (os ++ (b ∷ c ∷ (ss ++ d ∷ []))))
  all_ops xs os ss a b c d = append_assoc ((((xs ++ a ∷ []) ++ os) ++ b ∷ []) ++ c ∷ []) ss (d ∷ []) ∙ append_assoc (((xs ++ a ∷ []) ++ os) ++ b ∷ []) (c ∷ []) (ss ++ d ∷ []) ∙ append_assoc ((xs ++ a ∷ []) ++ os) (b ∷ []) (c ∷ (ss ++ d ∷ []))
      ∙ append_assoc (xs ++ a ∷ []) os (b ∷ c ∷ (ss ++ d ∷ [])) ∙ append_assoc xs (a ∷ []) (os ++ (b ∷ c ∷ (ss ++ d ∷ [])))

  regroup : (rest : List LlOp) → ops ++ rest ≡ pays_all ∷ (them.ops ++ (calls_make ∷ gets_it ∷ (fillings_all ++ (puts_it ∷ rest))))
  regroup rest = ap (λ os. pays_all ∷ os) (append_assoc them.ops (calls_make ∷ gets_it ∷ (fillings_all ++ puts_it ∷ [])) rest ∙ ap (λ os. them.ops ++ (calls_make ∷ gets_it ∷ os)) (append_assoc fillings_all (puts_it ∷ []) rest))

  pub display_done : IsDoneBehind (HasLists around.layout) (references_made args item) (2 + tuples_of es) 0 0 known around (row.List site) covers (asks ++ Make (small.Listed (listed.Make n)) ∷ []) (lower_list_op around (row.List site) place args w) place args w
  display_done = record {
    ops = ops;
    new = new;
    asked = ap (λ (r : Writing). r.found) written ∙ sym (asked_both asks (Make (small.Listed (listed.Make n)) ∷ []) w.found);
    written = ap (λ (r : Writing). r.body.ops) written ∙ all_ops w.body.ops them.ops fillings_all pays_all calls_make gets_it puts_it;
    types = ap (λ (r : Writing). r.body.types) written ∙ append_assoc next.body.types (type.Ptr n ∷ []) (type.Ptr (word (n + 1)) ∷ []) ∙ append_assoc w.body.types them.new (type.Ptr n ∷ type.Ptr (word (n + 1)) ∷ []);
    follows = λ p numbers raised structs stood arguments rest e frames core g world vs stands left room inside below given good.
        at_once 0 0 stands (subst (λ os. Follows (2 + tuples_of es) known around place p arguments (At os e frames core) rest e frames core g raised (references_made args item world vs) (length w.body.types) world (meant_op known.program covers (row.List site) vs world)) (sym (regroup rest))
        (displayed p numbers raised structs stood arguments rest e frames core g world vs stands left room inside below given));
  }

pub lists_are_made : ListsAreMade
lists_are_made site known around place args w covers n item of struct settled apart comes pass = display_done site known around place args w covers n item of struct settled apart comes pass
