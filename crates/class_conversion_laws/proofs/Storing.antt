-- An attribute of an instance is stored, once the value is converted.
use Rattle.std.proofs.Common.{◌≡◌, ◌<◌, ◌≤◌, ℕ, ◌+◌, ◌⊎◌, inl, inr, Bool, true, false, List, [], ◌∷◌, ◌++◌, length, Option, Some, refl, sym, ap, ◌∙◌, subst, arith, append_assoc, length-append}
use Rattle.std.specs.Prelude.{slice_get, slice_set, cond}
use Rattle.std.specs.Str.{bytes_eq}
use Rattle.std.proofs.lemmas.List.{append-nil, get_or-set_same, get_or-set_other, length-set}
use Rattle.std.proofs.lemmas.Slice.Eq.{bytes_eq-Decides}
use Rattle.csub_tree.specs.State.{Value, Unset, Flag, Block, Core}
use Rattle.csub_tree.specs.Operation.{is_unset}
use Rattle.csub_tree.specs.Statement.{read, operand}
use Rattle.csub_tree.specs.declared.tree.CConst.TheVariants as constant
use Rattle.csub_tree.specs.declared.tree.COperand.{COperand}
use Rattle.csub_tree.specs.declared.tree.COperand.TheVariants.{Var, Const}
use Rattle.rpy_tree.specs.Value.{Value as Meant, Nothing, Instance}
use Rattle.rpy_meaning.specs.declared.row.RowOp.TheVariants as row
use Rattle.rpy_meaning.specs.Classes.{named, with_name}
use Rattle.rpy_meaning.specs.Operations.{op as meant_op, set_attribute as set_meant}
use Rattle.rpy_meaning.specs.World.{World as MeantWorld, Answer, Gives}
use Rattle.ll_code.specs.State.{Frame, State, At}
use Rattle.ll_code.specs.declared.program.LlType.{LlType}
use Rattle.ll_code.specs.declared.program.LlType.TheVariants as type
use Rattle.ll_code.specs.declared.program.LlOp.{LlOp}
use Rattle.ll_code.specs.declared.program.LlOp.TheVariants as op
use Rattle.ll_code.specs.declared.program.LlExit.{LlExit}
use Rattle.ll_code.specs.declared.program.LlProgram.{LlProgram}
use Rattle.ll_build.specs.declared.needs.Numbers.{Numbers}
use Rattle.ll_held.specs.Held.{is_reference}
use Rattle.ll_leads.specs.Memory.{forgotten}
use Rattle.ll_leads.specs.Path.{reference_in}
use Rattle.ll_leads.proofs.Joined.{leads_then, leads_more}
use Rattle.ll_texts.specs.Texts.{found}
use Rattle.class_desc.specs.Line.{is_below}
use Rattle.rtyper_layout.specs.declared.classes.Laid.{Laid}
use Rattle.rtyper_layout.specs.Types.{type_of as element_type}
use Rattle.rtyper_data.specs.declared.body.Body.{Body}
use Rattle.rtyper_data.specs.declared.found.Found.{Found}
use Rattle.rtyper_data.specs.Converting.{present, given}
use Rattle.rtyper_data.specs.Seen.{Operand, Place, type_of, Writing, writing}
use Rattle.rtyper_class.specs.Attributes.{Standing as Stood, place_in, store, store_at, store_value, store_in}
use Rattle.rtyper_class.specs.Lowering.{lowered, of_some, of_two, set_attribute, set_attribute_of, instance_in, lower_class_op}
use Rattle.rtyper_class.specs.Seen.{World, laid}
use Rattle.lower_laws.specs.Asked.{Ask, all_asked}
use Rattle.lower_laws.specs.Values.{IsBelow, AllBelow}
use Rattle.lower_laws.proofs.Doing.{after}
use Rattle.lower_laws.proofs.Items.{gives_same}
use Rattle.lower_laws.proofs.Single.{sets}
use Rattle.lower_laws.proofs.Tupled.{given_same}
use Rattle.object_laws.specs.Done.{Came, Follows, HasLayout, AllAsked, references}
use Rattle.object_laws.specs.Ghost.{Ghost, InstanceOf, Use, Whole, use_of}
use Rattle.object_laws.specs.Known.{Known, Standing}
use Rattle.object_laws.specs.Represents.{Represents, InstanceAt, Shows, is_settled, value_field, set_field, value_at, set_at}
use Rattle.object_laws.specs.Values.{Holds, Given}
use Rattle.object_laws.proofs.Blocks.{found_set, found_there}
use Rattle.object_laws.proofs.Changing.{IsOf, get_set_here, instance_changes, settled_wrote, uses_apart}
use Rattle.object_laws.proofs.Growing.{grown_none}
use Rattle.object_laws.proofs.Parts.{writes_part}
use Rattle.object_laws.proofs.Passing.{Passed, both_passed, operand_kept, is_set_at, is_kept_at, behind}
use Rattle.object_laws.proofs.Valued.{Instancing, Gone, instance_or_none, missing_instance, stays_typed, stays_there, stays_comes, stays_held, held_set}
use Rattle.object_laws.proofs.Variables.{InVariable, in_variable}
use Rattle.object_laws.proofs.Writing.{Written, other_field}
use Rattle.class_laws.specs.Asked.{Has}
use Rattle.class_laws.specs.Classes.{IsOf as IsOfWorld, IsLaidOut, HasFields, standing_of}
use Rattle.class_laws.specs.Instances.{IsInstance, present_asks}
use Rattle.class_laws.proofs.Copied.{instance_comes}
use Rattle.class_laws.proofs.Fields.{Fielded, fielded}
use Rattle.class_laws.proofs.Lowered.{class_two}
use Rattle.class_laws.proofs.Presence.{Present, presence}
use Rattle.rpy_tree.specs.Value.{Heap}
use Rattle.csub_tree.specs.Operation.{compared}
use Rattle.ll_leads.proofs.Ways.{rests}
use Rattle.object_laws.specs.Ghost.{Ghost as Uses, Grown}
use Rattle.object_laws.proofs.Growing.{holds_grows, home_grows}
use Rattle.rtyper_layout.specs.Types.{type_seen}
use Rattle.rtyper_data.specs.Seen.{type_at}
use Rattle.rtyper_data.specs.Converting.{give}
use Rattle.conversion_laws.specs.Asked.{Has as HasConversion, asks_for}
use Rattle.conversion_laws.specs.Converted.{IsConverted, tuples_in, items_in}
use Rattle.conversion_laws.proofs.Converting.{values_are_converted}
use Rattle.conversion_laws.proofs.Moving.{grown_both, has_first, has_second}
use Rattle.class_laws.proofs.Storing.{first_stays, shows_all}
use Rattle.passing_laws.specs.Done.{Behind, IsDoneBehind}
use Rattle.passing_laws.specs.Given.{Placed, IsGiven}
use Rattle.passing_laws.specs.Passed.{Moved}
use Rattle.passing_laws.specs.Standing.{Stood as StoodFor}
use Rattle.passing_laws.proofs.Asking.{one_stood}
use Rattle.passing_laws.proofs.Giving.{results_are_given}
use Rattle.passing_laws.proofs.Behind.{passed_moved, came_behind, came_more, at_once}
use Rattle.passing_laws.proofs.Operands.{made_is, asked_both, is_below_more, kept_operand, came_moved, then_moved}
use Rattle.class_conversion_laws.specs.Attributes.{HasClasses, GoesBoth, storing_asks, references_stored, AttributesAreStored}

at_most : (b : Bool) → cond b 1 0 ≤ 1
at_most true = omega arith
at_most false = omega arith

at_most_one : (v : Value) → reference_in v ≤ 1
at_most_one v = at_most (is_reference v)

abbrev is_true : COperand
is_true = Const (constant.Bool true)

-- ---- an attribute

module _ (world : World) (known : Known) (of : IsOfWorld world known) (out : IsLaidOut world known) (place : Place) (name : List ℕ) (a b : Operand) (w : Writing) (class : ℕ) (r : Bool) (l : Laid) (s : Stood)
    (inst : IsInstance world a.element class r l) (placed : place_in world class name ≡ Some s) (both : GoesBoth world known b s place) where
  ent : Present world a r w
  ent = presence world a w r

  abbrev asks1 : List Ask
  asks1 = present_asks world a r w.found.covered

  abbrev t : LlType
  t = element_type world.around.layout s.element

  abbrev asks2 : List Ask
  asks2 = asks_for world.around.layout (type_of world.around b) t

  abbrev asks3 : List Ask
  asks3 = asks_for world.around.layout (type_of world.around b) (type_at world.around place)

  abbrev first : Found
  first = all_asked asks1 w.found

  abbrev body1 : Body
  body1 = record { types = w.body.types ++ ent.new; ops = w.body.ops ++ ent.ops }

  abbrev next1 : Writing
  next1 = writing first body1

  c : IsConverted (λ p. HasConversion p world.around.layout) known world.around.layout b.element (Some s.element) asks2 b.x next1
  c = values_are_converted known world.around.layout b.element (Some s.element) b.x next1 both.apart both.goes

  abbrev y : COperand
  y = (given world.around b t next1).0

  abbrev second : Found
  second = all_asked asks2 first

  abbrev body2 : Body
  body2 = record { types = body1.types ++ c.new; ops = body1.ops ++ c.ops }

  var : InVariable (type_of world.around a) ent.x body2
  var = in_variable (type_of world.around a) ent.x body2

  abbrev body3 : Body
  body3 = record { types = body2.types ++ var.new; ops = body2.ops ++ var.ops }

  abbrev sets_value : LlOp
  sets_value = op.SetField s.own var.x (value_field s.place) y

  abbrev sets_set : LlOp
  sets_set = op.SetField s.own var.x (set_field s.place) is_true

  abbrev last_body : Body
  last_body = record { types = body3.types; ops = (body3.ops ++ sets_value ∷ []) ++ sets_set ∷ [] }

  abbrev last : Writing
  last = writing second last_body

  giv : IsGiven known world.around place b.element b.x last
  giv = results_are_given known world.around place b.element b.x last both.apart both.gives

  is_written : lower_class_op world (row.StoreAttr name) place (a ∷ b ∷ []) w ≡ writing (all_asked asks3 second) (record { types = body3.types ++ giv.new; ops = last_body.ops ++ giv.ops })
  unfolding lowered of_some of_two set_attribute store
  is_written =
      class_two world (row.StoreAttr name) place a b w (instance_comes a class r inst.is) both.comes
      ∙ ap (λ e. set_attribute_of world place name a b (instance_in e) w) inst.is
      ∙ ap (λ at. store_at world place at a b (present world.around a r w)) placed
      ∙ ap (λ (made : COperand × Writing). store_value world place s a b made.0 (given world.around b t made.1)) ent.written
      ∙ ap (λ made. store_value world place s a b ent.x made) (made_is (given world.around b t next1) second (body1.types ++ c.new) (body1.ops ++ c.ops) c.asked c.types c.written)
      ∙ ap (λ v. store_in world place s b y second v) var.written
      ∙ giv.is

  -- ---- once it is in its variable

  module _ (p : LlProgram) (numbers : Numbers) (raised : ℕ → Value) (structs : HasLayout p world.around.layout) (stood3 : StoodFor world.around.layout known (HasClasses world p numbers raised) asks3 second)
      (arguments : List (List ℕ)) (rest : List LlOp) (e : LlExit) (frames : List Frame) (core : Core) (g : Ghost) (meant : MeantWorld)
      (stands : Represents world.around.layout known g meant.heap meant.left core.blocks core.statics) (left : meant.left ≡ core.steps)
      (inside : place.variable < length core.vars) (room : length last_body.types + length giv.new ≤ length core.vars) (x : Value) (at : read core.vars var.x ≡ x) (value : Value) (value_at_y : operand core.vars y ≡ value)
      (d i : ℕ) (home : slice_get g.homes i ≡ Some (record { sort = InstanceOf d; head = x })) (below : is_below world.classes.classes d class ≡ true) (v : Meant) (held : Holds world.around.layout known g (Some s.element) value v)
      (under : IsBelow (length last_body.types) b.x) (held_b : Holds world.around.layout known g b.element (operand core.vars b.x) v) where
    here : InstanceAt world.around.layout known g meant.heap core.blocks core.statics d i x
    here = stands.instances d i x home

    f : Fielded p world known here.laid name d (standing_of s)
    f = fielded p world known of out structs d class here.laid l name s below here.is_laid inst.laid_as placed

    abbrev then : List LlOp
    then = giv.ops ++ rest

    abbrev va : ℕ
    va = value_at world.around.layout (standing_of s)

    abbrev sa : ℕ
    sa = set_at world.around.layout (standing_of s)

    abbrev block : Block
    block = record { kind = here.laid.own; fields = here.fields; items = [] }

    abbrev block1 : Block
    block1 = other_field block va value

    abbrev block2 : Block
    block2 = other_field block1 sa (Flag true)

    value_set : is_unset value ≡ false
    value_set = held_set stands held

    w1 : Written p arguments (reference_in value) sets_value (sets_set ∷ then) e frames core x block1
    w1 = writes_part p arguments (sets_set ∷ then) e frames core s.own var.x (value_field s.place) va y block value f.begins f.value_is value_at_y value_set x at here.block_is

    w2 : Written p arguments 0 sets_set then e frames w1.end x block2
    w2 = writes_part p arguments then e frames w1.end s.own var.x (set_field s.place) sa is_true block1 (Flag true) f.begins f.set_is refl refl x (ap (λ vars. read vars var.x) w1.vars ∙ at) w1.wrote.there

    abbrev attributes2 : List (List ℕ × Meant)
    attributes2 = with_name name v here.attributes

    abbrev meant2 : MeantWorld
    meant2 = record meant { heap = slice_set meant.heap i (Instance d attributes2) }

    size_inside : sa < length here.fields
    size_inside = (let k = f.fields.inside in let z = here.size in omega (arith, k, z))

    apart_kind : is_settled world.around.layout here.laid.own ≡ false
    apart_kind = structs.classes_apart d here.laid here.is_laid

    represents : Represents world.around.layout known g meant2.heap meant.left w2.end.blocks w2.end.statics
    represents = instance_changes d i x attributes2 stands home (w2.wrote.made ∙ w1.wrote.made) (w2.wrote.fixed ∙ w1.wrote.fixed) others_stay
        (settled_wrote world.around.layout g (settled_wrote world.around.layout g stands.settled w1.wrote apart_kind) w2.wrote apart_kind) changed
      where
        others_stay : (y : Value) (u : Use) → use_of g y ≡ Some u → (IsOf i u → ⊥) → found w2.end.blocks w2.end.statics y ≡ found core.blocks core.statics y
        others_stay y u h apart =
            let other : y ≡ x → ⊥ = uses_apart g y x u (Whole i) h here.head_use (λ q. apart (subst (IsOf i) (sym q) refl)) in
            w2.wrote.others y other ∙ w1.wrote.others y other

        changed : InstanceAt world.around.layout known g meant2.heap w2.end.blocks w2.end.statics d i x
        changed = record {
          attributes = attributes2;
          object = get_set_here meant.heap i (Instance d attributes2) (Instance d here.attributes) here.object;
          laid = here.laid;
          is_laid = here.is_laid;
          fields = slice_set (slice_set here.fields va value) sa (Flag true);
          head_use = here.head_use;
          block_is = w2.wrote.there;
          size = length-set (slice_set here.fields va value) sa (Flag true) ∙ length-set here.fields va value ∙ here.size;
          vtable = first_stays world known out g d here.laid here.is_laid here.fields here.attributes name (standing_of s) value v f.is f.fields held size_inside ∙ here.vtable;
          shows = shows_all world known out g d here.laid here.is_laid here.fields here.attributes name (standing_of s) value v f.is f.fields held size_inside here.shows;
        }

    same_vars : w2.end.vars ≡ core.vars
    same_vars = w2.vars ∙ w1.vars

    memory2 : forgotten w2.end ≡ forgotten (record core { blocks = w2.end.blocks; statics = w2.end.statics })
    memory2 = w2.memory ∙ ap (λ (c : Core). record c { blocks = w2.end.blocks; statics = w2.end.statics }) w1.memory

    given_there : Placed known world.around place p arguments (At then e frames w2.end) rest e frames w2.end g meant2.heap meant.left (length last_body.types) (items_in place.element) (tuples_in place.element) v
    given_there = giv.follows p numbers raised arguments rest e frames w2.end g meant2.heap meant.left v structs (one_stood (Has world) world.around.layout p numbers raised known (type_of world.around b) (type_at world.around place) second stood3) represents
        (left ∙ sym (ap (λ (c : Core). c.steps) memory2)) (let q = ap length same_vars in omega (arith, room, q)) (let q = ap length same_vars in omega (arith, inside, q)) under (subst (λ vars. Holds world.around.layout known g b.element (operand vars b.x) v) (sym same_vars) held_b)

    came : Came (tuples_in place.element) known world.around place p arguments (At (sets_value ∷ sets_set ∷ then) e frames core) rest e frames core g (1 + items_in place.element) (length last_body.types) meant v meant2
    came = record {
      end = given_there.end;
      text = [];
      leads = leads_more (reference_in value + (0 + items_in place.element)) (1 + items_in place.element) (let k = at_most_one value in omega (arith, k)) (leads_then w1.way (leads_then w2.way given_there.leads));
      ghost = given_there.ghost;
      grown = given_there.grown;
      stands = given_there.stands;
      holds = given_there.holds;
      few = (let p = w1.wrote.made in let q = w2.wrote.made in let k = given_there.few in omega (arith, p, q, k));
      memory = given_there.memory ∙ ap (λ (c : Core). record c { blocks = given_there.end.blocks }) memory2
          ∙ ap (λ ss. forgotten (record core { blocks = given_there.end.blocks; statics = ss })) (sym (ap (λ (c : Core). c.statics) given_there.memory))
          ∙ ap (λ t. forgotten (record core { blocks = given_there.end.blocks; statics = given_there.end.statics; steps = t })) (sym left);
      others = λ j lower other. given_there.others j lower other ∙ ap (λ vars. read vars j) same_vars;
      room = given_there.room ∙ ap length same_vars;
      function = given_there.function ∙ w2.function ∙ w1.function;
      block = given_there.block ∙ w2.block_at ∙ w1.block_at;
      out = sym (append-nil meant.out);
    }

  -- ---- the whole

  abbrev m : ℕ
  m = length w.body.types

  long1 : length body1.types ≡ m + length ent.new
  long1 = length-append w.body.types ent.new

  long2 : length body2.types ≡ m + length ent.new + length c.new
  long2 = length-append body1.types c.new ∙ ap (λ k. k + length c.new) long1

  long3 : length last_body.types ≡ m + length ent.new + length c.new + length var.new
  long3 = length-append body2.types var.new ∙ ap (λ k. k + length var.new) long2

  abbrev ops : List LlOp
  ops = ent.ops ++ (c.ops ++ (var.ops ++ (sets_value ∷ sets_set ∷ giv.ops)))

  abbrev new : List LlType
  new = ent.new ++ (c.new ++ (var.new ++ giv.new))

  regroup1 : (rest : List LlOp) → (c.ops ++ (var.ops ++ (sets_value ∷ sets_set ∷ giv.ops))) ++ rest ≡ c.ops ++ (var.ops ++ (sets_value ∷ sets_set ∷ (giv.ops ++ rest)))
  regroup1 rest = append_assoc c.ops (var.ops ++ (sets_value ∷ sets_set ∷ giv.ops)) rest ∙ ap (λ os. c.ops ++ os) (append_assoc var.ops (sets_value ∷ sets_set ∷ giv.ops) rest)

  regroup : (rest : List LlOp) → ops ++ rest ≡ ent.ops ++ (c.ops ++ (var.ops ++ (sets_value ∷ sets_set ∷ (giv.ops ++ rest))))
  regroup rest = append_assoc ent.ops (c.ops ++ (var.ops ++ (sets_value ∷ sets_set ∷ giv.ops))) rest ∙ ap (λ os. ent.ops ++ os) (regroup1 rest)

  new_long : length new ≡ length ent.new + (length c.new + (length var.new + length giv.new))
  new_long = length-append ent.new (c.new ++ (var.new ++ giv.new)) ∙ ap (λ k. length ent.new + k) (length-append c.new (var.new ++ giv.new) ∙ ap (λ k. length c.new + k) (length-append var.new giv.new))

  module _ (p : LlProgram) (numbers : Numbers) (raised : ℕ → Value) (structs : HasLayout p world.around.layout) (stood : StoodFor world.around.layout known (HasClasses world p numbers raised) (storing_asks world a b r s place w) w.found)
      (arguments : List (List ℕ)) (rest : List LlOp) (e : LlExit) (frames : List Frame) (core : Core) (g : Ghost) (meant : MeantWorld) (stands : Represents world.around.layout known g meant.heap meant.left core.blocks core.statics) (left : meant.left ≡ core.steps)
      (room : m + length new ≤ length core.vars) (inside : place.variable < m) (under : AllBelow m (a ∷ b ∷ [])) where
    stood1 : StoodFor world.around.layout known (HasClasses world p numbers raised) asks1 w.found
    stood1 k h heap left s u = has_first (HasClasses world p numbers raised k) asks1 (asks2 ++ asks3) w.found (stood k h heap left s u)

    stood23 : StoodFor world.around.layout known (HasClasses world p numbers raised) (asks2 ++ asks3) first
    stood23 k h heap left s u = has_second (HasClasses world p numbers raised k) asks1 (asks2 ++ asks3) w.found (stood k h heap left s u)

    stood2 : StoodFor world.around.layout known (HasClasses world p numbers raised) asks2 first
    stood2 k h heap left s u = has_first (HasClasses world p numbers raised k) asks2 asks3 first (stood23 k h heap left s u)

    stood3 : StoodFor world.around.layout known (HasClasses world p numbers raised) asks3 second
    stood3 k h heap left s u = has_second (HasClasses world p numbers raised k) asks2 asks3 first (stood23 k h heap left s u)

    had : AllAsked (Has world p numbers raised core) asks1 w.found
    had = by r (stood1 core g meant.heap meant.left stands left)
      where
        by : (r : Bool) → AllAsked (HasClasses world p numbers raised core) (present_asks world a r w.found.covered) w.found → AllAsked (Has world p numbers raised core) (present_asks world a r w.found.covered) w.found
        by true h = h
        by false h = h

    abbrev tail : List LlOp
    tail = sets_value ∷ sets_set ∷ (giv.ops ++ rest)

    abbrev Start : State
    Start = At (ent.ops ++ (c.ops ++ (var.ops ++ tail))) e frames core

    abbrev Did : List Meant → Answer → Type 0
    Did vs answer = Follows (tuples_in (Some s.element) + tuples_in place.element) known world.around place p arguments Start rest e frames core g raised (references_stored s place meant vs) m meant answer

    module _ (v u : Meant) (held : Holds world.around.layout known g b.element (operand core.vars b.x) u) (it : Instancing known g class (operand core.vars a.x) v) where
      abbrev x : Value
      x = operand core.vars a.x

      x_set : is_unset x ≡ false
      x_set = found_set core.blocks core.statics x _ (stands.instances it.c it.i x it.home).block_is

      one : Moved world.around.layout known p arguments Start (c.ops ++ (var.ops ++ tail)) e frames core g meant.heap meant.left m 0 0 (λ ghost end. operand end.vars ent.x ≡ x)
      one =
          let went = ent.enters p numbers raised arguments (c.ops ++ (var.ops ++ tail)) e frames core had (omega (arith, room, new_long)) x_set (found_there core.blocks core.statics x _ (stands.instances it.c it.i x it.home).block_is) in
          passed_moved stands went.2 went.1 went.3

      two_from : (one : Moved world.around.layout known p arguments Start (c.ops ++ (var.ops ++ tail)) e frames core g meant.heap meant.left m 0 0 (λ ghost end. operand end.vars ent.x ≡ x))
          → Moved world.around.layout known p arguments Start (var.ops ++ tail) e frames core g meant.heap meant.left m (0 + items_in (Some s.element)) (0 + tuples_in (Some s.element)) (λ ghost end. (operand end.vars ent.x ≡ x) × Holds world.around.layout known ghost (Some s.element) (operand end.vars y) u)
      two_from one =
          let room_then = one.room in
          let two : Moved world.around.layout known p arguments (At (c.ops ++ (var.ops ++ tail)) e frames one.end) (var.ops ++ tail) e frames one.end one.ghost meant.heap meant.left (length body1.types) (items_in (Some s.element)) (tuples_in (Some s.element)) (λ ghost end. Holds world.around.layout known ghost (Some s.element) (operand end.vars y) u) =
          came_moved (c.follows p numbers raised arguments (var.ops ++ tail) e frames one.end one.ghost meant.heap meant.left u structs (one_stood (Has world) world.around.layout p numbers raised known (type_of world.around b) t first stood2 one.end one.ghost meant.heap meant.left one.stands (left ∙ sym (ap (λ (k : Core). k.steps) one.memory))) one.stands
          (left ∙ sym (ap (λ (k : Core). k.steps) one.memory)) (omega (arith, room, room_then, long1, new_long)) (is_below_more m (length body1.types) (omega (arith, long1)) b.x under.1.0)
          (subst (λ x. Holds world.around.layout known one.ghost b.element x u) (sym (kept_operand m core one.end one.others b.x under.1.0)) (holds_grows one.grown held))) in
          then_moved (omega (arith, long1)) one two (kept_operand (length body1.types) one.end two.end two.others ent.x (subst (λ k. IsBelow k ent.x) (sym long1) (ent.below under.0)) ∙ one.fine, two.fine)

      three_from : (two : Moved world.around.layout known p arguments Start (var.ops ++ tail) e frames core g meant.heap meant.left m (0 + items_in (Some s.element)) (0 + tuples_in (Some s.element)) (λ ghost end. (operand end.vars ent.x ≡ x) × Holds world.around.layout known ghost (Some s.element) (operand end.vars y) u))
          → Moved world.around.layout known p arguments Start tail e frames core g meant.heap meant.left m (0 + items_in (Some s.element) + 0) (0 + tuples_in (Some s.element) + 0) (λ ghost end. (read end.vars var.x ≡ x) × Holds world.around.layout known ghost (Some s.element) (operand end.vars y) u)
      three_from two =
          let room_then = two.room in
          let got = var.enters p arguments tail e frames two.end (omega (arith, room, room_then, long2, new_long)) (ap is_unset two.fine.0 ∙ x_set) in
          let three : Moved world.around.layout known p arguments (At (var.ops ++ tail) e frames two.end) tail e frames two.end two.ghost meant.heap meant.left (length body2.types) 0 0 (λ ghost end. read end.vars var.x ≡ operand two.end.vars ent.x) =
          passed_moved two.stands got.passed got.way got.is in
          then_moved (omega (arith, long2)) two three (three.fine ∙ two.fine.0, subst (λ z. Holds world.around.layout known three.ghost (Some s.element) z u) (sym (kept_operand (length body2.types) two.end three.end three.others y (subst (λ k. IsBelow k y) (sym (long2 ∙ ap (λ k. k + length c.new) (sym long1))) (c.under (is_below_more m (length body1.types) (omega (arith, long1)) b.x under.1.0))))) (holds_grows three.grown two.fine.1))

      is_there : Did (v ∷ u ∷ []) (meant_op known.program w.found.covered (row.StoreAttr name) (v ∷ u ∷ []) meant)
      is_there = by (three_from (two_from one))
        where
          by : (mv : Moved world.around.layout known p arguments Start tail e frames core g meant.heap meant.left m (0 + items_in (Some s.element) + 0) (0 + tuples_in (Some s.element) + 0) (λ ghost end. (read end.vars var.x ≡ x) × Holds world.around.layout known ghost (Some s.element) (operand end.vars y) u))
              → Did (v ∷ u ∷ []) (meant_op known.program w.found.covered (row.StoreAttr name) (v ∷ u ∷ []) meant)
          by mv =
              let room_then = mv.room in
              let below : is_below world.classes.classes it.c class ≡ true = sym (of.below it.c class) ∙ it.below in
              let steps : meant.left ≡ mv.end.steps = left ∙ sym (ap (λ (k : Core). k.steps) mv.memory) in
              let in_room : length last_body.types + length giv.new ≤ length mv.end.vars = omega (arith, room, new_long, long3, room_then) in
              let wide : place.variable < length mv.end.vars = omega (arith, inside, room, room_then) in
              let home : slice_get mv.ghost.homes it.i ≡ Some (record { sort = InstanceOf it.c; head = x }) = home_grows mv.grown it.i (record { sort = InstanceOf it.c; head = x }) it.home in
              let held_b : Holds world.around.layout known mv.ghost b.element (operand mv.end.vars b.x) u = subst (λ z. Holds world.around.layout known mv.ghost b.element z u) (sym (kept_operand m core mv.end mv.others b.x under.1.0)) (holds_grows mv.grown held) in
              let under_b : IsBelow (length last_body.types) b.x = is_below_more m (length last_body.types) (omega (arith, long3)) b.x under.1.0 in
              let ready : InstanceAt world.around.layout known mv.ghost meant.heap mv.end.blocks mv.end.statics it.c it.i x = here p numbers raised structs stood3 arguments rest e frames mv.end mv.ghost meant mv.stands steps wide in_room x mv.fine.0 (operand mv.end.vars y) refl it.c it.i home below u mv.fine.1 under_b held_b in
              let done = came_behind (omega (arith, long3)) mv (came p numbers raised structs stood3 arguments rest e frames mv.end mv.ghost meant mv.stands steps wide in_room x mv.fine.0 (operand mv.end.vars y) refl it.c it.i home below u mv.fine.1 under_b held_b) in
              let above : meant_op known.program w.found.covered (row.StoreAttr name) (v ∷ u ∷ []) meant ≡ set_meant known.program w.found.covered name it.i u (slice_get meant.heap it.i) meant = ap (λ v. meant_op known.program w.found.covered (row.StoreAttr name) (v ∷ u ∷ []) meant) it.high in
              subst (Did (v ∷ u ∷ [])) (sym (above ∙ ap (λ o. set_meant known.program w.found.covered name it.i u o meant) ready.object))
              (came_more (omega arith) (omega arith) done)

    missing : (v u : Meant) → r ≡ true → Gone (missing_instance true) a.element (operand core.vars a.x) v → Did (v ∷ u ∷ []) (meant_op known.program w.found.covered (row.StoreAttr name) (v ∷ u ∷ []) meant)
    missing v u may gone = subst (λ v. Did (v ∷ u ∷ []) (meant_op known.program w.found.covered (row.StoreAttr name) (v ∷ u ∷ []) meant)) (sym gone.high)
        (subst (λ os. Follows (tuples_in (Some s.element) + tuples_in place.element) known world.around place p arguments (At (ent.ops ++ os) e frames core) rest e frames core g raised (references_stored s place meant (Nothing ∷ u ∷ [])) m meant (meant_op known.program w.found.covered (row.StoreAttr name) (Nothing ∷ u ∷ []) meant)) (regroup1 rest)
        (ent.misses (tuples_in (Some s.element) + tuples_in place.element) known place p numbers raised arguments (c.ops ++ (var.ops ++ (sets_value ∷ sets_set ∷ giv.ops))) rest e frames core g (references_stored s place meant (Nothing ∷ u ∷ [])) meant had may gone.low))

    follow : (vs : List Meant) → Given known world.around g core (a ∷ b ∷ []) vs → Did vs (meant_op known.program w.found.covered (row.StoreAttr name) vs meant)
    follow [] given = absurd given
    follow (v ∷ []) given = absurd given.1
    follow (v ∷ u ∷ []) given = by (instance_or_none class r inst.is given.0)
      where
        by : Instancing known g class (operand core.vars a.x) v ⊎ ((r ≡ true) × Gone (missing_instance true) a.element (operand core.vars a.x) v) → Did (v ∷ u ∷ []) (meant_op known.program w.found.covered (row.StoreAttr name) (v ∷ u ∷ []) meant)
        by (inl it) = is_there v u given.1.0 it
        by (inr gone) = missing v u gone.0 gone.1
    follow (v ∷ u ∷ z ∷ vs) given = absurd given.1.1

  five_behind : {A : Type 0} (xs ys zs us vs : List A) → ((((xs ++ ys) ++ zs) ++ us) ++ vs) ≡ xs ++ (ys ++ (zs ++ (us ++ vs)))
  five_behind xs ys zs us vs = append_assoc ((xs ++ ys) ++ zs) us vs ∙ append_assoc (xs ++ ys) zs (us ++ vs) ∙ append_assoc xs ys (zs ++ (us ++ vs))

  pub store_done : IsDoneBehind (HasClasses world) (references_stored s place) (tuples_in (Some s.element) + tuples_in place.element) 0 0 known world.around (row.StoreAttr name) w.found.covered (storing_asks world a b r s place w) (lower_class_op world (row.StoreAttr name) place (a ∷ b ∷ []) w) place (a ∷ b ∷ []) w
  store_done = record {
    ops = ops;
    new = new;
    asked = ap (λ (r : Writing). r.found) is_written ∙ sym (asked_both asks1 (asks2 ++ asks3) w.found ∙ asked_both asks2 asks3 first);
    written = ap (λ (r : Writing). r.body.ops) is_written ∙ ap (λ os. os ++ giv.ops) (append_assoc body3.ops (sets_value ∷ []) (sets_set ∷ [])) ∙ append_assoc body3.ops (sets_value ∷ sets_set ∷ []) giv.ops ∙ five_behind w.body.ops ent.ops c.ops var.ops (sets_value ∷ sets_set ∷ giv.ops);
    types = ap (λ (r : Writing). r.body.types) is_written ∙ five_behind w.body.types ent.new c.new var.new giv.new;
    follows = λ p numbers raised structs stood arguments rest e frames core g meant vs stands left room inside below given good.
        at_once 0 0 stands
        (subst (λ os. Follows (tuples_in (Some s.element) + tuples_in place.element) known world.around place p arguments (At os e frames core) rest e frames core g raised (references_stored s place meant vs) m meant (meant_op known.program w.found.covered (row.StoreAttr name) vs meant)) (sym (regroup rest))
        (follow p numbers raised structs stood arguments rest e frames core g meant stands left room inside below vs given));
  }

pub attributes_are_stored : AttributesAreStored
attributes_are_stored world known of out place name a b w class r l s inst placed both = store_done world known of out place name a b w class r l s inst placed both
