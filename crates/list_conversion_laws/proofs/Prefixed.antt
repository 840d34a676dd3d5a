-- A list that has to be there, and behind it an item that is converted, before the operation is done.
use Rattle.std.proofs.Common.{◌≡◌, ◌≤◌, ℕ, ◌+◌, Bool, true, false, List, [], ◌++◌, length, Some, refl, sym, ap, ◌∙◌, subst, arith, length-append}
use Rattle.ann_element.specs.declared.element.Element.{Element, fold-roll-Element}
use Rattle.ann_element.specs.declared.element.Element.TheOpen.{Element-F}
use Rattle.ann_element.specs.declared.element.Element.TheVariants as element
use Rattle.csub_tree.specs.State.{Value, Core}
use Rattle.csub_tree.specs.Statement.{operand}
use Rattle.csub_tree.specs.declared.tree.COperand.{COperand}
use Rattle.ll_code.specs.State.{Frame, State, At}
use Rattle.ll_code.specs.declared.program.LlType.{LlType}
use Rattle.ll_code.specs.declared.program.LlOp.{LlOp}
use Rattle.ll_code.specs.declared.program.LlExit.{LlExit}
use Rattle.ll_code.specs.declared.program.LlProgram.{LlProgram}
use Rattle.ll_leads.proofs.Joined.{leads_more}
use Rattle.ll_build.specs.declared.needs.Numbers.{Numbers}
use Rattle.rpy_tree.specs.Value.{Value as Meant, Heap}
use Rattle.rtyper_layout.specs.Types.{word, type_of as type_of_element, type_seen, type_step}
use Rattle.rtyper_data.specs.declared.found.Found.{Found}
use Rattle.rtyper_data.specs.Converting.{given}
use Rattle.rtyper_data.specs.Seen.{Around, Operand, kind_of, type_of, Writing, writing}
use Rattle.list_shape.specs.Shapes.{item_of}
use Rattle.rtyper_list.specs.Operands.{list_of, of_list_or_none, pointed, there}
use Rattle.lower_laws.specs.Asked.{Ask, all_asked}
use Rattle.lower_laws.specs.Values.{IsBelow}
use Rattle.lower_laws.proofs.Stayed.{field_is}
use Rattle.lower_laws.proofs.Tupled.{given_same}
use Rattle.object_laws.specs.Done.{AllAsked, HasLayout}
use Rattle.object_laws.specs.Ghost.{Ghost}
use Rattle.object_laws.specs.Known.{Known}
use Rattle.object_laws.specs.Represents.{Represents, ListAt}
use Rattle.object_laws.specs.Values.{Holds}
use Rattle.object_laws.proofs.Blocks.{found_set, found_there}
use Rattle.object_laws.proofs.Growing.{grown_none, holds_grows}
use Rattle.object_laws.proofs.Valued.{Listing, stays_there}
use Rattle.conversion_laws.specs.Asked.{Has as HasConversion, asks_for}
use Rattle.conversion_laws.specs.Converted.{IsConverted, tuples_in, items_in}
use Rattle.conversion_laws.proofs.Converting.{values_are_converted}
use Rattle.list_laws.specs.Asked.{Has}
use Rattle.list_laws.specs.Lists.{if_missing, there_asks}
use Rattle.list_copy_laws.proofs.Ready.{Went, Ready, ready}
use Rattle.passing_laws.specs.Passed.{Moved}
use Rattle.passing_laws.specs.Standing.{Stood}
use Rattle.passing_laws.proofs.Asking.{asks_cover, one_stood}
use Rattle.passing_laws.proofs.Operands.{made_is, is_below_more, kept_operand, came_moved, then_moved}
use Rattle.list_conversion_laws.specs.Lists.{HasLists, IsListOf, GoesIn}

-- a list of these sites has one struct, whether it may be missing or not
list_type : (around : Around) (site : ℕ) (r : Bool) → type_seen around.layout (Some (element.List site r)) ≡ type_seen around.layout (Some (element.List site false))
list_type around site r = list_typed_as r ∙ sym (list_typed_as false)
  where
    list_typed_as : (r : Bool) → type_seen around.layout (Some (element.List site r)) ≡ type_step around.layout (Element-F.List site r)
    list_typed_as r = ap (type_of_element around.layout) (sym (element.rolls-List site r)) ∙ fold-roll-Element LlType (type_step around.layout) (Element-F.List site r)

module _ (known : Known) (around : Around) (a b : Operand) (w : Writing) (site n : ℕ) (r : Bool) (item : Element) (of : IsListOf around known a.element site r n item) (into : GoesIn around known b item) where
  abbrev asks1 : List Ask
  asks1 = there_asks around a w.found.covered

  abbrev asks2 : List Ask
  asks2 = asks_for around.layout (type_of around b) (type_of_element around.layout item)

  pub it : Ready around a w
  it = ready around a w of.list.is

  abbrev first : Found
  first = all_asked asks1 w.found

  abbrev pub entered : Writing
  entered = writing first (record { types = w.body.types ++ it.new; ops = w.body.ops ++ it.ops })

  pub c : IsConverted (λ p. HasConversion p around.layout) known around.layout b.element (Some item) asks2 b.x entered
  c = values_are_converted known around.layout b.element (Some item) b.x entered into.apart into.goes

  abbrev pub y : COperand
  y = (given around b (type_of_element around.layout item) entered).0

  abbrev pub next : Writing
  next = writing (all_asked asks2 first) (record { types = entered.body.types ++ c.new; ops = entered.body.ops ++ c.ops })

  -- the list is there, and the item is one of its items
  abbrev pub list : Operand
  list = record { x = it.x; element = Some (element.List site false) }

  abbrev pub value : Operand
  value = record { x = y; element = Some item }

  pub covers_same : next.found.covered ≡ w.found.covered
  covers_same = asks_cover asks2 first ∙ asks_cover asks1 w.found

  abbrev pub kept_type : LlType
  kept_type = item_of around.layout (word (n + 1))

  pub kept_is : kept_type ≡ type_of_element around.layout item
  kept_is = of.list.items ∙ field_is (type_of_element around.layout item) (λ h. stays_there of.settled h)

  pub given_is : given around b kept_type entered ≡ (y, next)
  given_is = ap (λ t. given around b t entered) kept_is ∙ made_is (given around b (type_of_element around.layout item) entered) (all_asked asks2 first) (entered.body.types ++ c.new) (entered.body.ops ++ c.ops) c.asked c.types c.written

  pub given_then : given around value kept_type next ≡ (y, next)
  given_then = given_same around value kept_type next (sym kept_is)

  pub there_then : there around list next ≡ (it.x, next)
  unfolding there
  there_then = refl

  pub list_typed : type_of around list ≡ type_of around a
  list_typed = sym (list_type around site r) ∙ sym (ap (type_seen around.layout) of.is)

  pub list_is : list_of around a ≡ n
  unfolding list_of
  list_is = ap pointed of.list.typed

  pub list_is_then : list_of around list ≡ n
  unfolding list_of
  list_is_then = ap pointed (list_typed ∙ of.list.typed)

  -- ---- the run

  no_more : {p : LlProgram} {arguments : List (List ℕ)} {s : State} {rest : List LlOp} {e : LlExit} {frames : List Frame} {core : Core} {g : Ghost} {heap : Heap} {left below most count : ℕ} {Fine : Ghost → Core → Type 0} → Moved around.layout known p arguments s rest e frames core g heap left below (0 + most) (0 + count) Fine → Moved around.layout known p arguments s rest e frames core g heap left below most count Fine
  no_more {most = most} a = record { end = a.end; leads = leads_more (0 + most) most (omega arith) a.leads; ghost = a.ghost; grown = a.grown; stands = a.stands; fine = a.fine; few = (let f = a.few in omega (arith, f)); memory = a.memory; others = a.others; room = a.room; function = a.function; block = a.block }

  abbrev m : ℕ
  m = length w.body.types

  entered_long : length entered.body.types ≡ m + length it.new
  entered_long = length-append w.body.types it.new

  pub next_long : length next.body.types ≡ m + length it.new + length c.new
  next_long = length-append entered.body.types c.new ∙ ap (λ k. k + length c.new) entered_long

  pub y_under : IsBelow m b.x → IsBelow (length next.body.types) y
  y_under h = subst (λ k. IsBelow k y) (sym (length-append entered.body.types c.new)) (c.under (is_below_more m (length entered.body.types) (omega (arith, entered_long)) b.x h))

  abbrev Ready_with : Meant → Value → Ghost → Core → Type 0
  Ready_with u head ghost end = (operand end.vars it.x ≡ head) × Holds around.layout known ghost (Some item) (operand end.vars y) u

  module _ (p : LlProgram) (numbers : Numbers) (raised : ℕ → Value) (structs : HasLayout p around.layout) (stood1 : Stood around.layout known (HasLists around.layout p numbers raised) asks1 w.found) (stood2 : Stood around.layout known (HasLists around.layout p numbers raised) asks2 first)
      (arguments : List (List ℕ)) (more : List LlOp) (e : LlExit) (frames : List Frame) (core : Core) (g : Ghost) (heap : Heap) (left : ℕ) (stands : Represents around.layout known g heap left core.blocks core.statics) (steps : left ≡ core.steps)
      (room : m + length it.new + length c.new ≤ length core.vars) (below_a : IsBelow m a.x) (below_b : IsBelow m b.x) where
    pub had : AllAsked (Has p around.layout numbers raised core) asks1 w.found
    had = by (of_list_or_none (kind_of a)) (stood1 core g heap left stands steps)
      where
        by : (b : Bool) → AllAsked (HasLists around.layout p numbers raised core) (if_missing b (type_of around a) w.found.covered) w.found → AllAsked (Has p around.layout numbers raised core) (if_missing b (type_of around a) w.found.covered) w.found
        by true h = h
        by false h = h

    module _ (v u : Meant) (there_list : Listing around.layout known g a.element (operand core.vars a.x) v) (held : Holds around.layout known g b.element (operand core.vars b.x) u) where
      abbrev head : Value
      head = operand core.vars a.x

      l : ListAt around.layout known g heap left core.blocks core.statics there_list.n there_list.i head
      l = stands.lists there_list.n there_list.i head there_list.home there_list.struct

      went : Went p arguments (At (it.ops ++ (c.ops ++ more)) e frames core) (c.ops ++ more) e frames core m it.x head
      went = it.enters p numbers raised arguments (c.ops ++ more) e frames core core had (omega (arith, room)) (found_set core.blocks core.statics head _ l.head_is) (found_there core.blocks core.statics head _ l.head_is)

      one : Moved around.layout known p arguments (At (it.ops ++ (c.ops ++ more)) e frames core) (c.ops ++ more) e frames core g heap left m 0 0 (λ ghost end. operand end.vars it.x ≡ head)
      one = record {
        end = went.mid;
        leads = went.way;
        ghost = g;
        grown = grown_none;
        stands = subst (λ (k : Core). Represents around.layout known g heap left k.blocks k.statics) (sym went.passed.memory) stands;
        fine = went.is;
        few = (let same : length went.mid.blocks ≡ length core.blocks = ap (λ (k : Core). length k.blocks) went.passed.memory in omega (arith, same));
        memory = went.passed.memory ∙ sym (ap (λ bs. record core { function = 0; block = 0; at = 0; vars = []; blocks = bs }) (ap (λ (k : Core). k.blocks) went.passed.memory));
        others = went.passed.others;
        room = went.passed.room;
        function = went.passed.function;
        block = went.passed.block;
      }

      pub moved : Moved around.layout known p arguments (At (it.ops ++ (c.ops ++ more)) e frames core) more e frames core g heap left m (items_in (Some item)) (tuples_in (Some item)) (Ready_with u head)
      moved = by one
        where
          by : (one : Moved around.layout known p arguments (At (it.ops ++ (c.ops ++ more)) e frames core) (c.ops ++ more) e frames core g heap left m 0 0 (λ ghost end. operand end.vars it.x ≡ head))
              → Moved around.layout known p arguments (At (it.ops ++ (c.ops ++ more)) e frames core) more e frames core g heap left m (items_in (Some item)) (tuples_in (Some item)) (Ready_with u head)
          by one =
              let room_then = one.room in
              let two : Moved around.layout known p arguments (At (c.ops ++ more) e frames one.end) more e frames one.end one.ghost heap left (length entered.body.types) (items_in (Some item)) (tuples_in (Some item)) (λ ghost end. Holds around.layout known ghost (Some item) (operand end.vars y) u) =
              came_moved (c.follows p numbers raised arguments more e frames one.end one.ghost heap left u structs (one_stood (λ p. Has p around.layout) around.layout p numbers raised known (type_of around b) (type_of_element around.layout item) first stood2 one.end one.ghost heap left one.stands (steps ∙ sym (ap (λ (k : Core). k.steps) one.memory))) one.stands
              (steps ∙ sym (ap (λ (k : Core). k.steps) one.memory)) (omega (arith, room, room_then, entered_long)) (is_below_more m (length entered.body.types) (omega (arith, entered_long)) b.x below_b)
              (subst (λ x. Holds around.layout known one.ghost b.element x u) (sym (kept_operand m core one.end one.others b.x below_b)) (holds_grows one.grown held))) in
              no_more (then_moved (omega (arith, entered_long)) one two
              (kept_operand (length entered.body.types) one.end two.end two.others it.x (subst (λ k. IsBelow k it.x) (sym entered_long) (it.inside below_a)) ∙ one.fine, two.fine))
