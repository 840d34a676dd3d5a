-- A method is called through the vtable of an instance, with arguments and a result that are converted.
use Rattle.std.proofs.Common.{◌≡◌, ◌<◌, ◌≤◌, ◌⊎◌, inl, inr, ℕ, ◌+◌, ◌-◌, Bool, true, false, List, [], ◌∷◌, ◌++◌, length, Option, Some, None, refl, sym, ap, ◌∙◌, subst, arith, append_assoc, length-append}
use Rattle.std.specs.Prelude.{slice_get, if◌then◌else◌}
use Rattle.ann_element.specs.declared.element.Element.{Element}
use Rattle.ann_element.specs.declared.element.Element.TheVariants as element
use Rattle.csub_tree.specs.State.{Value, Fun, Block, Core}
use Rattle.csub_tree.specs.Layout.{shape_at, begins_with, place as place_of}
use Rattle.csub_tree.specs.Operation.{is_unset}
use Rattle.csub_tree.specs.Statement.{read, operand}
use Rattle.ll_code.specs.State.{Frame, At}
use Rattle.ll_code.specs.Machine.{shapes_of}
use Rattle.ll_code.specs.declared.program.LlType.{LlType}
use Rattle.ll_code.specs.declared.program.LlType.TheVariants as type
use Rattle.ll_code.specs.declared.program.LlOp.{LlOp}
use Rattle.ll_code.specs.declared.program.LlOp.TheVariants as op
use Rattle.ll_code.specs.declared.program.LlExit.{LlExit}
use Rattle.ll_code.specs.declared.program.LlProgram.{LlProgram}
use Rattle.ll_build.specs.declared.needs.Numbers.{Numbers}
use Rattle.ll_leads.specs.Memory.{forgotten}
use Rattle.ll_leads.specs.Path.{Leads}
use Rattle.ll_leads.proofs.Joined.{leads_then, leads_more}
use Rattle.ll_texts.specs.Texts.{found}
use Rattle.rpy_base.specs.declared.outcome.FailName.TheVariants as fail
use Rattle.rpy_meaning.specs.declared.row.RowOp.TheVariants as row
use Rattle.rpy_meaning.specs.Operations.{op as meant_op, enter, object_method}
use Rattle.rpy_meaning.specs.World.{World as MeantWorld, Answer, Enters, failure, bad, if_some}
use Rattle.rpy_tree.specs.Value.{Value as Meant, Ref}
use Rattle.rtyper_layout.specs.declared.classes.Laid.{Laid}
use Rattle.rtyper_layout.specs.Layout.{is_tuple}
use Rattle.rtyper_layout.specs.Types.{type_of as type_of_element, type_seen, root_of}
use Rattle.rtyper_op.specs.Lowering.{is_never}
use Rattle.rtyper_data.specs.declared.body.Body.{Body}
use Rattle.rtyper_data.specs.Converting.{present}
use Rattle.rtyper_data.specs.Seen.{Operand, Place, type_of, type_at, with_op, with_variable, fresh, Writing, writing}
use Rattle.rtyper_list.specs.Lowering.{lower_list_op}
use Rattle.rtyper_class.specs.declared.call.Reached.TheVariants as reached
use Rattle.rtyper_class.specs.Calls.{by_vtable, indirect, looked_in, looked_up, method, method_by, reached_by, receiver, through}
use Rattle.rtyper_class.specs.Lowering.{lowered, lower_class_op, instance_in, method_of as lower_method, method_on}
use Rattle.rtyper_class.specs.Seen.{World}
use Rattle.lower_laws.specs.Asked.{Ask, all_asked}
use Rattle.lower_laws.specs.Values.{AllBelow, IsBelow}
use Rattle.lower_laws.proofs.Doing.{after}
use Rattle.object_laws.specs.Done.{AllAsked, Follows, HasLayout, references}
use Rattle.object_laws.specs.Ghost.{Ghost}
use Rattle.object_laws.specs.Known.{Known, vtable_block}
use Rattle.object_laws.specs.Represents.{Represents, InstanceAt, shapes}
use Rattle.object_laws.specs.Values.{Holds, Made, Given}
use Rattle.object_laws.proofs.Blocks.{found_set, found_there}
use Rattle.object_laws.proofs.Parts.{reads_part}
use Rattle.object_laws.proofs.Passing.{Passed, Went, both_passed, is_set_at, operand_kept, sets_more}
use Rattle.object_laws.proofs.Valued.{Instancing, Gone, instance_or_none, instance_type, missing_instance}
use Rattle.object_laws.proofs.Variables.{InVariable, in_variable}
use Rattle.class_laws.specs.Asked.{Has as HasOther}
use Rattle.class_laws.specs.Classes.{IsOf, IsLaidOut}
use Rattle.class_laws.specs.Instances.{IsInstance, present_asks}
use Rattle.class_laws.proofs.Copied.{instance_comes}
use Rattle.class_laws.proofs.Fields.{begins_in, place_in_struct}
use Rattle.class_laws.proofs.Presence.{Present, presence}
use Rattle.class_laws.proofs.Telling.{zero_place}
use Rattle.call_laws.specs.Indirect.{slot_of}
use Rattle.object_laws.proofs.Growing.{grown_none}
use Rattle.conversion_laws.specs.Asked.{asks_for}
use Rattle.conversion_laws.specs.Going.{Goes as GoesTo}
use Rattle.conversion_laws.proofs.Moving.{has_first, has_second}
use Rattle.call_laws.specs.Calls.{there}
use Rattle.passing_laws.specs.Passing.{AllPass, pass_asks, tuples_of, items_of}
use Rattle.passing_laws.specs.Standing.{Stood}
use Rattle.passing_laws.proofs.Operands.{asked_both, all_below_more, is_below_more, given_kept}
use Rattle.call_conversion_laws.specs.Called.{Has, Called, FollowsOrCalls, IsCalledWhere}
use Rattle.call_conversion_laws.specs.Looked.{HasAtSlot, HasMethods, InVtable, MethodsAreLookedUp}
use Rattle.call_conversion_laws.specs.Several.{IsMeant}
use Rattle.call_conversion_laws.proofs.Arguments.{IsLike}
use Rattle.call_conversion_laws.proofs.Behind.{called_behind, first_like, present_had}
use Rattle.call_conversion_laws.proofs.Several.{same_rest, called_more}
use Rattle.call_conversion_laws.proofs.Through as through_value
use Rattle.call_conversion_laws.proofs.Through.{alike_itself, alike_asks}

-- a field at a place, in a struct whose first field is at the first place
top_place : (own first k : ℕ) → own ≡ 0 → first ≡ 0 → own + (k - first) ≡ k
top_place own first k o f = omega (arith, o, f)

four_behind : {A : Type 0} (xs ys zs us : List A) (a b : A) → (((((xs ++ ys) ++ zs) ++ a ∷ []) ++ b ∷ []) ++ us) ≡ xs ++ (ys ++ (zs ++ (a ∷ b ∷ us)))
four_behind xs ys zs us a b =
    append_assoc ((((xs ++ ys) ++ zs) ++ a ∷ [])) (b ∷ []) us
    ∙ append_assoc ((xs ++ ys) ++ zs) (a ∷ []) (b ∷ us)
    ∙ append_assoc (xs ++ ys) zs (a ∷ b ∷ us) ∙ append_assoc xs ys (zs ++ (a ∷ b ∷ us))

module _ (site : Option ℕ) (world : World) (known : Known) (of : IsOf world known) (out : IsLaidOut world known) (name : List ℕ) (like class : ℕ) (r : Bool) (l : Laid) (place : Place) (a : Operand) (args : List Operand) (w : Writing) (params : List Element) (result : Element) (blocks more : ℕ)
    (apart : is_tuple world.around.layout 0 ≡ false) (comes : is_never args ≡ false) (inside : place.variable < length w.body.types) (inst : IsInstance world a.element class r l) (reaches : reached_by world class name ≡ reached.Several like)
    (takes : slice_get world.around.params like ≡ Some params) (gives : slice_get world.around.results like ≡ Some result) (pass : AllPass world.around.layout known (there a class ∷ args) params) (goes : GoesTo world.around.layout known (Some result) place.element) where
  it : Present world a r w
  it = presence world a w r

  abbrev first : List Ask
  first = present_asks world a r w.found.covered

  abbrev all : List Operand
  all = receiver it.x a ∷ args

  -- of what class the instance is known to be
  abbrev mine : ℕ → List Operand
  mine c = record { x = it.x; element = Some (element.Instance c false) } ∷ args

  abbrev asked : Writing
  asked = writing (all_asked first w.found) (record { types = w.body.types ++ it.new; ops = w.body.ops ++ it.ops })

  at : InVariable (type_of world.around a) it.x asked.body
  at = in_variable (type_of world.around a) it.x asked.body

  abbrev body1 : Body
  body1 = record { types = asked.body.types ++ at.new; ops = asked.body.ops ++ at.ops }

  abbrev m : ℕ
  m = length body1.types

  abbrev n : ℕ
  n = length (body1.types ++ type.Fn ∷ [])

  abbrev slot : ℕ
  slot = slot_of world l name

  abbrev gets_vtable : LlOp
  gets_vtable = op.GetField n l.root at.x 0

  abbrev gets_method : LlOp
  gets_method = op.GetField m l.vtable n slot

  abbrev body2 : Body
  body2 = with_op gets_method (with_op gets_vtable (with_variable (type.Ptr l.vtable) (with_variable type.Fn body1)))

  abbrev behind : Writing
  behind = writing asked.found body2

  asked_long : length asked.body.types ≡ length w.body.types + length it.new
  asked_long = length-append w.body.types it.new

  m_is : m ≡ length w.body.types + length it.new + length at.new
  m_is = length-append asked.body.types at.new ∙ ap (λ k. k + length at.new) asked_long

  n_is : n ≡ m + 1
  n_is = length-append body1.types (type.Fn ∷ [])

  behind_long : length behind.body.types ≡ m + 2
  behind_long = length-append (body1.types ++ type.Fn ∷ []) (type.Ptr l.vtable ∷ []) ∙ ap (λ k. k + 1) n_is ∙ (let q : m + 1 + 1 ≡ m + 2 = omega arith in q)

  inside_then : place.variable < length behind.body.types
  inside_then = omega (arith, inside, behind_long, m_is)

  comes_too : (c : ℕ) → is_never (mine c) ≡ false
  comes_too c = ap (λ b. if b then true else is_never args) (instance_comes (record { x = it.x; element = Some (element.Instance c false) }) c false refl) ∙ comes

  a_typed : type_seen world.around.layout a.element ≡ type_seen world.around.layout (Some (element.Instance class false))
  a_typed = ap (type_seen world.around.layout) inst.is ∙ instance_type world.around.layout class r ∙ sym (instance_type world.around.layout class false)

  as_like : (c : ℕ) → type_seen world.around.layout a.element ≡ type_seen world.around.layout (Some (element.Instance c false)) → IsLike world.around (slice_get world.around.functions like) all 0 (mine c)
  as_like c h = first_like world.around (slice_get world.around.functions like) it.x a.element (Some (element.Instance c false)) args h

  abbrev call_ops : List LlOp
  call_ops = through_value.ops world known like m all (mine class) params params result result place behind apart (comes_too class) inside_then takes gives (alike_itself world.around.layout params) pass refl goes (as_like class a_typed)

  abbrev call_new : List LlType
  call_new = through_value.new world known like m all (mine class) params params result result place behind apart (comes_too class) inside_then takes gives (alike_itself world.around.layout params) pass refl goes (as_like class a_typed)

  mine_is : indirect world.around place m like all behind ≡ writing (all_asked (asks_for world.around.layout (type_of_element world.around.layout result) (type_at world.around place)) (all_asked (pass_asks world.around.layout (mine class) params) behind.found)) (record { types = behind.body.types ++ call_new; ops = behind.body.ops ++ call_ops })
  mine_is = through_value.through_is world known like m all (mine class) params params result result place behind apart (comes_too class) inside_then takes gives (alike_itself world.around.layout params) pass refl goes (as_like class a_typed)

  abbrev asks : List Ask
  asks = pass_asks world.around.layout (there a class ∷ args) params

  abbrev later : List Ask
  later = asks_for world.around.layout (type_of_element world.around.layout result) (type_at world.around place)

  is_looked_up : looked_up world class name at.x body1 ≡ (m, body2)
  unfolding looked_up
  is_looked_up = ap (λ o. looked_in world name at.x o (fresh type.Fn body1)) inst.laid_as

  is_written : lower_class_op world (row.Method name site) place (a ∷ args) w ≡ writing (all_asked later (all_asked asks behind.found)) (record { types = behind.body.types ++ call_new; ops = behind.body.ops ++ call_ops })
  unfolding lowered lower_method method
  is_written =
      ap (λ c. if (if c then true else is_never args) then lower_list_op world.around (row.Method name site) place (a ∷ args) w else lowered world (row.Method name site) place (a ∷ args) w) (instance_comes a class r inst.is)
      ∙ ap (λ c. if c then lower_list_op world.around (row.Method name site) place (a ∷ args) w else lowered world (row.Method name site) place (a ∷ args) w) comes
      ∙ ap (λ e. method_on world (row.Method name site) place name (a ∷ args) (instance_in e) w) inst.is
      ∙ ap (λ m. method_by world place name class a args m (present world.around a r w)) reaches
      ∙ ap (λ x. method_by world place name class a args (reached.Several like) x) it.written
      ∙ ap (λ v. by_vtable world place name class like all asked.found v) at.written
      ∙ ap (λ v. through world.around place like all asked.found v) is_looked_up
      ∙ mine_is

  abbrev ops : List LlOp
  ops = it.ops ++ (at.ops ++ (gets_vtable ∷ gets_method ∷ call_ops))

  abbrev new : List LlType
  new = it.new ++ (at.new ++ (type.Fn ∷ type.Ptr l.vtable ∷ call_new))

  new_long : length new ≡ length it.new + (length at.new + (2 + length call_new))
  new_long = length-append it.new (at.new ++ (type.Fn ∷ type.Ptr l.vtable ∷ call_new)) ∙ ap (λ k. length it.new + k) (length-append at.new (type.Fn ∷ type.Ptr l.vtable ∷ call_new)) ∙ (let q : length it.new + (length at.new + length (type.Fn ∷ type.Ptr l.vtable ∷ call_new)) ≡ length it.new + (length at.new + (2 + length call_new)) = omega arith in q)

  both_asked : all_asked (first ++ asks) w.found ≡ all_asked asks behind.found
  both_asked = asked_both first asks w.found

  both : (rest : List LlOp) → ops ++ rest ≡ it.ops ++ (at.ops ++ (gets_vtable ∷ gets_method ∷ (call_ops ++ rest)))
  both rest = append_assoc it.ops (at.ops ++ (gets_vtable ∷ gets_method ∷ call_ops)) rest ∙ ap (λ os. it.ops ++ os) (append_assoc at.ops (gets_vtable ∷ gets_method ∷ call_ops) rest)

  -- ---- the run

  module _ (p : LlProgram) (numbers : Numbers) (raised : ℕ → Value) (structs : HasLayout p world.around.layout) (stood : Stood world.around.layout known (Has world p numbers raised) (first ++ asks) w.found) (later_stood : Stood world.around.layout known (Has world p numbers raised) later (all_asked (first ++ asks) w.found))
      (arguments : List (List ℕ)) (rest : List LlOp) (e : LlExit) (frames : List Frame) (core : Core) (g : Ghost) (meant : MeantWorld) (most : ℕ) (stands : Represents world.around.layout known g meant.heap meant.left core.blocks core.statics) (left : meant.left ≡ core.steps)
      (room : length w.body.types + length new ≤ length core.vars) (under : AllBelow (length w.body.types) (a ∷ args)) where
    abbrev Behind : List LlOp
    Behind = gets_vtable ∷ gets_method ∷ (call_ops ++ rest)

    abbrev Did : Answer → Type 0
    Did answer = FollowsOrCalls blocks known world.around place p arguments (At (it.ops ++ (at.ops ++ Behind)) e frames core) rest e frames core g raised (more + most) (length w.body.types) meant answer

    has : AllAsked (HasOther world p numbers raised core) first w.found
    has = present_had world p numbers raised core a r w.found.covered w.found (has_first (Has world p numbers raised core) first asks w.found (stood core g meant.heap meant.left stands left))

    stood_then : Stood world.around.layout known (Has world p numbers raised) asks behind.found
    stood_then c h heap left s u = has_second (Has world p numbers raised c) first asks w.found (stood c h heap left s u)

    no_call : (c : Bool) → Follows blocks known world.around place p arguments (At (it.ops ++ (at.ops ++ Behind)) e frames core) rest e frames core g raised (more + most) (length w.body.types) meant (failure c 9 fail.Attribute meant) → Did (failure c 9 fail.Attribute meant)
    no_call true h = h
    no_call false h = h

    module _ (v : Meant) (vs : List Meant) (given : Given known world.around g core args vs) (one_of : Instancing known g class (operand core.vars a.x) v) (f : ℕ) (its : HasAtSlot p world known name like slot a args params result place blocks more one_of.c f) where
      abbrev h : IsMeant p world known like (there a one_of.c ∷ args) params result place blocks more f
      h = its.meant

      abbrev x : Value
      x = operand core.vars a.x

      here : InstanceAt world.around.layout known g meant.heap core.blocks core.statics one_of.c one_of.i x
      here = stands.instances one_of.c one_of.i x one_of.home

      abbrev block : Block
      block = record { kind = here.laid.own; fields = here.fields; items = [] }

      x_set : is_unset x ≡ false
      x_set = found_set core.blocks core.statics x block here.block_is

      went : (mid : Core) × Leads p arguments 0 (At (it.ops ++ (at.ops ++ Behind)) e frames core) [] (At (at.ops ++ Behind) e frames mid) × Passed (length w.body.types) core mid × (operand mid.vars it.x ≡ x)
      went = it.enters p numbers raised arguments (at.ops ++ Behind) e frames core has (omega (arith, room, new_long)) x_set (found_there core.blocks core.statics x block here.block_is)

      abbrev mid : Core
      mid = went.0

      holds : Went p arguments (At (at.ops ++ Behind) e frames mid) Behind e frames mid (length asked.body.types) at.x (operand mid.vars it.x)
      holds = at.enters p arguments Behind e frames mid (let q = (went.2).room in omega (arith, room, new_long, asked_long, q)) (ap is_unset went.3 ∙ x_set)

      abbrev core2 : Core
      core2 = holds.mid

      value : read core2.vars at.x ≡ x
      value = holds.is ∙ went.3

      passed2 : Passed (length w.body.types) core core2
      passed2 = both_passed (omega (arith, asked_long)) went.2 holds.passed

      abbrev vtable : Value
      vtable = (known.vtable one_of.c).at

      abbrev table : Block
      table = vtable_block here.laid.vtable (known.vtable one_of.c)

      table_is : found core.blocks core.statics vtable ≡ Some table
      table_is = stands.stays vtable table (stands.vtables one_of.c here.laid here.is_laid)

      same_memory : (y : Value) (b : Block) (c : Core) → forgotten c ≡ forgotten core → found core.blocks core.statics y ≡ Some b → found c.blocks c.statics y ≡ Some b
      same_memory y b c h is = subst (λ (c : Core). found c.blocks c.statics y ≡ Some b) (sym h) is

      vtable_set : is_unset vtable ≡ false
      vtable_set = found_set core.blocks core.statics vtable table table_is

      inherits : (here.laid.root ≡ l.root) × (here.laid.vtable ≡ l.vtable)
      inherits = (let i = out.inherits one_of.c class here.laid l (sym (of.below one_of.c class) ∙ one_of.below) here.is_laid inst.laid_as in (i.0, i.1))

      root_begins : begins_with (shapes_of p.structs) here.laid.own l.root ≡ true
      root_begins = subst (λ n. begins_with (shapes_of p.structs) here.laid.own n ≡ true) inherits.0 (begins_in p world here.laid.root here.laid.own structs (out.class one_of.c here.laid here.is_laid).1 (out.root one_of.c here.laid here.is_laid).1)

      root_first : place_of (shape_at (shapes_of p.structs) l.root) 0 ≡ 0
      root_first = place_in_struct p world l.root 0 structs (out.root class l inst.laid_as).0.struct ∙ zero_place world.around.layout l.root (out.root class l inst.laid_as).0

      table_begins : begins_with (shapes_of p.structs) here.laid.vtable l.vtable ≡ true
      table_begins = subst (λ n. begins_with (shapes_of p.structs) n l.vtable ≡ true) (sym inherits.1) (begins_in p world l.vtable l.vtable structs (out.vtable class l inst.laid_as).0.struct (out.vtable class l inst.laid_as).1)

      table_slot : place_of (shape_at (shapes_of p.structs) l.vtable) slot ≡ slot
      table_slot = place_in_struct p world l.vtable slot structs (out.vtable class l inst.laid_as).0.struct ∙ top_place (shape_at (shapes world.around.layout) l.vtable).own (shape_at (shapes world.around.layout) l.vtable).first slot (out.vtable class l inst.laid_as).0.own (out.vtable class l inst.laid_as).0.first

      abbrev core3 : Core
      core3 = after core2 n vtable

      abbrev core4 : Core
      core4 = after core3 m (Fun h.number)

      reads_vtable : Leads p arguments 0 (At Behind e frames core2) [] (At (gets_method ∷ (call_ops ++ rest)) e frames core3)
      reads_vtable = reads_part block vtable root_begins (ap (found core2.blocks core2.statics) value ∙ same_memory x block core2 passed2.memory here.block_is) vtable_set 0 0 root_first here.vtable

      enough : n < length core2.vars
      enough = (let q = passed2.room in omega (arith, room, new_long, m_is, n_is, q))

      reads_method : Leads p arguments 0 (At (gets_method ∷ (call_ops ++ rest)) e frames core3) [] (At (call_ops ++ rest) e frames core4)
      reads_method = reads_part table (Fun h.number) table_begins (ap (found core3.blocks core3.statics) (is_set_at core2 n vtable enough) ∙ same_memory vtable table core2 passed2.memory table_is) refl slot slot table_slot its.stands

      passed4 : Passed (length w.body.types) core core4
      passed4 = sets_more m (Fun h.number) (omega (arith, m_is)) (sets_more n vtable (omega (arith, m_is, n_is)) passed2)

      later4 : Passed (length asked.body.types) mid core4
      later4 = sets_more m (Fun h.number) (omega (arith, m_is, asked_long)) (sets_more n vtable (omega (arith, m_is, n_is, asked_long)) holds.passed)

      self_below : IsBelow (length asked.body.types) it.x
      self_below = subst (λ k. IsBelow k it.x) (sym asked_long) (it.below under.0)

      self_is : operand core4.vars it.x ≡ x
      self_is = operand_kept later4 it.x self_below ∙ went.3

      stands4 : Represents world.around.layout known g meant.heap meant.left core4.blocks core4.statics
      stands4 = subst (λ (c : Core). Represents world.around.layout known g meant.heap meant.left c.blocks c.statics) (sym passed4.memory) stands

      held : Holds world.around.layout known g (Some (element.Instance one_of.c false)) (operand core4.vars it.x) v
      held = subst (λ y. Holds world.around.layout known g (Some (element.Instance one_of.c false)) y v) (sym self_is) (Made one_of.c false one_of.c one_of.i refl one_of.high its.itself one_of.home)

      given4 : Given known world.around g core4 (mine one_of.c) (v ∷ vs)
      given4 = (held, given_kept known world.around (length w.body.types) core core4 grown_none passed4.others args vs under.1 given)

      method_is : read core4.vars m ≡ Fun h.number
      method_is = is_set_at core3 m (Fun h.number) (let q = (sets_more n vtable (omega (arith, m_is, n_is)) passed2).room in omega (arith, room, new_long, m_is, q))

      -- both classes have one topmost struct
      c_typed : type_seen world.around.layout (Some (element.Instance class false)) ≡ type_seen world.around.layout (Some (element.Instance one_of.c false))
      c_typed = instance_type world.around.layout class false ∙ ap root_of inst.laid_as ∙ ap type.Ptr (sym inherits.0) ∙ sym (ap root_of here.is_laid) ∙ sym (instance_type world.around.layout one_of.c false)

      like_c : IsLike world.around (slice_get world.around.functions like) all 0 (mine one_of.c)
      like_c = as_like one_of.c (a_typed ∙ c_typed)

      its_is : indirect world.around place m like all behind ≡ writing (all_asked (asks_for world.around.layout (type_of_element world.around.layout h.given) (type_at world.around place)) (all_asked (pass_asks world.around.layout (mine one_of.c) h.own) behind.found)) (record { types = behind.body.types ++ through_value.new world known like m all (mine one_of.c) params h.own result h.given place behind apart (comes_too one_of.c) inside_then takes gives h.alike h.pass h.same h.goes like_c; ops = behind.body.ops ++ through_value.ops world known like m all (mine one_of.c) params h.own result h.given place behind apart (comes_too one_of.c) inside_then takes gives h.alike h.pass h.same h.goes like_c })
      its_is = through_value.through_is world known like m all (mine one_of.c) params h.own result h.given place behind apart (comes_too one_of.c) inside_then takes gives h.alike h.pass h.same h.goes like_c

      abbrev its_ops : List LlOp
      its_ops = through_value.ops world known like m all (mine one_of.c) params h.own result h.given place behind apart (comes_too one_of.c) inside_then takes gives h.alike h.pass h.same h.goes like_c

      abbrev its_new : List LlType
      its_new = through_value.new world known like m all (mine one_of.c) params h.own result h.given place behind apart (comes_too one_of.c) inside_then takes gives h.alike h.pass h.same h.goes like_c

      same_ops : its_ops ≡ call_ops
      same_ops = same_rest behind.body.ops its_ops call_ops (ap (λ (r : Writing). r.body.ops) (sym its_is ∙ mine_is))

      long_new : length its_new ≡ length call_new
      long_new = ap length (same_rest behind.body.types its_new call_new (ap (λ (r : Writing). r.body.types) (sym its_is ∙ mine_is)))

      same_asks : asks ≡ pass_asks world.around.layout (mine one_of.c) h.own
      same_asks = first_asks params ∙ alike_asks world.around.layout (mine one_of.c) h.own params h.alike
        where
          first_asks : (ps : List Element) → pass_asks world.around.layout (there a class ∷ args) ps ≡ pass_asks world.around.layout (mine one_of.c) ps
          first_asks [] = refl
          first_asks (q ∷ ps) = ap (λ s. asks_for world.around.layout s (type_of_element world.around.layout q) ++ pass_asks world.around.layout args ps) c_typed

      above : meant_op known.program w.found.covered (row.Method name site) (v ∷ vs) meant ≡ Enters f (v ∷ vs) None meant
      above =
          ap (λ v. meant_op known.program w.found.covered (row.Method name site) (v ∷ vs) meant) one_of.high
          ∙ ap (λ o. object_method known.program w.found.covered name one_of.i vs o meant) here.object
          ∙ ap (λ o. if_some bad o (λ f. enter known.program w.found.covered f (Ref one_of.i ∷ vs)) meant) its.named
          ∙ ap (λ v. Enters f (v ∷ vs) None meant) (sym one_of.high)

      entering : Did (meant_op known.program w.found.covered (row.Method name site) (v ∷ vs) meant)
      entering =
          let room4 = passed4.room in
          let items = h.items in
          subst Did (sym above)
          (called_behind (omega (arith, behind_long, m_is)) passed4 (leads_more (0 + (0 + (0 + 0))) 0 (omega arith) (leads_then went.1 (leads_then holds.way (leads_then reads_vtable reads_method))))
          (called_more h.tuples (omega (arith, items))
          (subst (λ os. Called (tuples_of h.own) known world.around place p arguments (At (os ++ rest) e frames core4) rest e frames core4 g (items_of h.own + most) (length behind.body.types) meant f (v ∷ vs) None meant) same_ops
          (through_value.entered world known like m all (mine one_of.c) params h.own result h.given place behind apart (comes_too one_of.c) inside_then takes gives h.alike h.pass h.same h.goes like_c
          f h.number h.graph h.takes h.gives h.defaults p numbers raised structs h.signed
          (subst (λ asks. Stood world.around.layout known (Has world p numbers raised) asks behind.found) same_asks stood_then)
          (subst (λ t. Stood world.around.layout known (Has world p numbers raised) (asks_for world.around.layout t (type_at world.around place)) (all_asked (pass_asks world.around.layout (mine one_of.c) h.own) behind.found)) (sym h.same)
          (subst (λ found. Stood world.around.layout known (Has world p numbers raised) later found) (both_asked ∙ ap (λ asks. all_asked asks behind.found) same_asks) later_stood))
          arguments rest e frames core4 g meant (v ∷ vs) most stands4 (left ∙ sym (ap (λ (c : Core). c.steps) passed4.memory)) (omega (arith, room, new_long, behind_long, m_is, long_new, room4))
          (is_below_more (length asked.body.types) (length behind.body.types) (omega (arith, asked_long, behind_long, m_is)) it.x self_below, all_below_more (length w.body.types) (length behind.body.types) (omega (arith, behind_long, m_is)) args under.1) given4
          (omega (arith, behind_long)) method_is))))

    missing : (v : Meant) (vs : List Meant) → r ≡ true → Gone (missing_instance true) a.element (operand core.vars a.x) v → Did (meant_op known.program w.found.covered (row.Method name site) (v ∷ vs) meant)
    missing v vs may gone = subst (λ v. Did (meant_op known.program w.found.covered (row.Method name site) (v ∷ vs) meant)) (sym gone.high)
        (no_call w.found.covered.attribute (subst (λ os. Follows blocks known world.around place p arguments (At (it.ops ++ os) e frames core) rest e frames core g raised (more + most) (length w.body.types) meant (failure w.found.covered.attribute 9 fail.Attribute meant)) (append_assoc at.ops (gets_vtable ∷ gets_method ∷ call_ops) rest)
        (it.misses blocks known place p numbers raised arguments (at.ops ++ (gets_vtable ∷ gets_method ∷ call_ops)) rest e frames core g (more + most) meant has may gone.low)))

    follow : (vs : List Meant) → Given known world.around g core (a ∷ args) vs → HasMethods world known name like slot a args params result place blocks more p meant vs → Did (meant_op known.program w.found.covered (row.Method name site) vs meant)
    follow [] given good = absurd given
    follow (v ∷ vs) given good = by (instance_or_none class r inst.is given.0)
      where
        found_in : (one_of : Instancing known g class (operand core.vars a.x) v) → (f : ℕ) × HasAtSlot p world known name like slot a args params result place blocks more one_of.c f
        found_in one_of = subst (InVtable p world known name like slot a args params result place blocks more) (stands.instances one_of.c one_of.i (operand core.vars a.x) one_of.home).object (subst (λ v. HasMethods world known name like slot a args params result place blocks more p meant (v ∷ vs)) one_of.high good)

        by : Instancing known g class (operand core.vars a.x) v ⊎ ((r ≡ true) × Gone (missing_instance true) a.element (operand core.vars a.x) v) → Did (meant_op known.program w.found.covered (row.Method name site) (v ∷ vs) meant)
        by (inl one_of) = (let its = found_in one_of in entering v vs given.1 one_of its.0 its.1)
        by (inr (may, gone)) = missing v vs may gone

  looked_done : IsCalledWhere (HasMethods world known name like slot a args params result place blocks more) blocks more world known (row.Method name site) w.found.covered (first ++ asks) (λ found. found) later place (a ∷ args) w
  looked_done = record {
    ops = ops;
    new = new;
    asked = ap (λ (r : Writing). r.found) is_written ∙ ap (λ f. all_asked later f) (sym both_asked);
    written = ap (λ (r : Writing). r.body.ops) is_written ∙ four_behind w.body.ops it.ops at.ops call_ops gets_vtable gets_method;
    types = ap (λ (r : Writing). r.body.types) is_written ∙ four_behind w.body.types it.new at.new call_new type.Fn (type.Ptr l.vtable);
    follows = λ p numbers raised structs stood later_stood kept arguments rest e frames core g meant vs stands left room under given good.
        subst (λ os. FollowsOrCalls blocks known world.around place p arguments (At os e frames core) rest e frames core g raised (more + references meant.heap vs) (length w.body.types) meant (meant_op known.program w.found.covered (row.Method name site) vs meant)) (sym (both rest))
        (follow p numbers raised structs stood later_stood arguments rest e frames core g meant (references meant.heap vs) stands left room under vs given good);
  }

pub methods_are_looked_up : MethodsAreLookedUp
methods_are_looked_up site world known of out name like class r l place a args w params result blocks more apart comes inside inst reaches takes gives pass goes = looked_done site world known of out name like class r l place a args w params result blocks more apart comes inside inst reaches takes gives pass goes
