-- Methods of instances and function values are called, where it is known which function that is.
use Rattle.std.proofs.Common.{◌≡◌, ◌<◌, ◌≤◌, ◌⊎◌, inl, inr, ℕ, ◌+◌, ◌||◌, Bool, true, false, List, [], ◌∷◌, ◌++◌, length, Option, Some, None, refl, sym, ap, ◌∙◌, subst, arith, append_assoc, length-append}
use Rattle.std.specs.Prelude.{slice_get, if◌then◌else◌}
use Rattle.std.proofs.lemmas.Bool.Decides.{eqb_tells}
use Rattle.ann_element.specs.declared.element.Element.TheVariants as element
use Rattle.csub_tree.specs.State.{Value, Null, Core}
use Rattle.csub_tree.specs.Operation.{is_unset, compared}
use Rattle.csub_tree.specs.Statement.{operand}
use Rattle.csub_tree.specs.declared.tree.COperand.{COperand}
use Rattle.ll_code.specs.State.{Frame, At}
use Rattle.ll_code.specs.declared.program.LlType.{LlType}
use Rattle.ll_code.specs.declared.program.LlOp.{LlOp}
use Rattle.ll_code.specs.declared.program.LlExit.{LlExit}
use Rattle.ll_code.specs.declared.program.LlProgram.{LlProgram}
use Rattle.ll_build.specs.declared.needs.Numbers.{Numbers}
use Rattle.rpy_base.specs.declared.outcome.FailName.TheVariants as fail
use Rattle.rpy_meaning.specs.declared.row.RowOp.TheVariants as row
use Rattle.rpy_meaning.specs.Classes.{method_of}
use Rattle.rpy_meaning.specs.Operations.{op as meant_op, enter, object_method}
use Rattle.rpy_meaning.specs.World.{World as MeantWorld, Answer, Enters, failure, bad, if_some}
use Rattle.rpy_tree.specs.Value.{Value as Meant, Ref}
use Rattle.rtyper_layout.specs.declared.classes.Laid.{Laid}
use Rattle.rtyper_layout.specs.Layout.{is_tuple}
use Rattle.rtyper_layout.specs.Types.{type_of as type_of_element, type_seen}
use Rattle.rtyper_op.specs.Calls.{call}
use Rattle.rtyper_op.specs.Lowering.{is_never, never_comes}
use Rattle.rtyper_data.specs.declared.found.Found.{Found}
use Rattle.rtyper_data.specs.Converting.{present}
use Rattle.rtyper_data.specs.Seen.{Operand, Place, type_at, kind_of, Writing, writing}
use Rattle.rtyper_list.specs.Lowering.{lower_list_op}
use Rattle.rtyper_class.specs.declared.call.Reached.TheVariants as reached
use Rattle.rtyper_class.specs.Calls.{call_one_of, call_value, method, method_by, reached_by, receiver}
use Rattle.rtyper_class.specs.Lowering.{lowered, lower_class_op, instance_in, functions_in, method_of as lower_method, method_on, value_call, value_call_of}
use Rattle.rtyper_class.specs.Seen.{World}
use Rattle.lower_laws.specs.Asked.{Ask, all_asked}
use Rattle.lower_laws.specs.Values.{AllBelow}
use Rattle.object_laws.specs.Done.{Any, AllAsked, Follows, HasLayout, references}
use Rattle.object_laws.specs.Ghost.{Ghost}
use Rattle.object_laws.specs.Known.{Known}
use Rattle.object_laws.specs.Represents.{Represents}
use Rattle.object_laws.specs.Values.{Holds, Made, Given, is_one_of}
use Rattle.object_laws.proofs.Blocks.{found_set, found_there}
use Rattle.object_laws.proofs.Growing.{grown_none}
use Rattle.object_laws.proofs.Passing.{Passed}
use Rattle.object_laws.proofs.Valued.{Instancing, Gone, OfFunction, instance_or_none, function_or_none, instance_type, missing_instance, missing_function}
use Rattle.conversion_laws.specs.Asked.{asks_for}
use Rattle.conversion_laws.specs.Constants.{AreKept}
use Rattle.conversion_laws.proofs.Moving.{has_first, has_second}
use Rattle.class_laws.specs.Asked.{Has as HasOther}
use Rattle.class_laws.specs.Instances.{IsInstance, present_asks}
use Rattle.class_laws.proofs.Copied.{instance_comes}
use Rattle.class_laws.proofs.Presence.{Present, presence}
use Rattle.call_laws.specs.Calls.{there, InClass, HasMethod}
use Rattle.passing_laws.specs.Passing.{pass_asks, tuples_of, items_of}
use Rattle.passing_laws.specs.Standing.{Stood}
use Rattle.passing_laws.proofs.Operands.{asked_both, all_below_more, given_kept}
use Rattle.call_conversion_laws.specs.Called.{Has, FollowsOrCalls, IsCalledWhere}
use Rattle.call_conversion_laws.specs.Calls.{Takes, MethodsAreCalled, ValuesAreCalled}
use Rattle.call_conversion_laws.specs.Defaults.{stood_in}
use Rattle.call_conversion_laws.proofs.Arguments.{IsLike}
use Rattle.call_conversion_laws.proofs.Behind.{called_behind, first_like, present_had}
use Rattle.call_conversion_laws.proofs.Functions as functions

-- ---- methods

module _ (site : Option ℕ) (world : World) (known : Known) (name : List ℕ) (f class : ℕ) (r : Bool) (l : Laid) (place : Place) (a : Operand) (args : List Operand) (w : Writing)
    (apart : is_tuple world.around.layout 0 ≡ false) (comes : is_never args ≡ false) (inside : place.variable < length w.body.types) (inst : IsInstance world a.element class r l) (reaches : reached_by world class name ≡ reached.One f) (takes : Takes world known f (there a class ∷ args) place) where
  it : Present world a r w
  it = presence world a w r

  abbrev first : List Ask
  first = present_asks world a r w.found.covered

  abbrev behind : Writing
  behind = writing (all_asked first w.found) (record { types = w.body.types ++ it.new; ops = w.body.ops ++ it.ops })

  abbrev all : List Operand
  all = receiver it.x a ∷ args

  -- it is known that the instance is there
  abbrev mine : List Operand
  mine = record { x = it.x; element = Some (element.Instance class false) } ∷ args

  longer : length behind.body.types ≡ length w.body.types + length it.new
  longer = length-append w.body.types it.new

  inside_then : place.variable < length behind.body.types
  inside_then = omega (arith, inside, longer)

  comes_too : is_never mine ≡ false
  comes_too = ap (λ c. if c then true else is_never args) (instance_comes (record { x = it.x; element = Some (element.Instance class false) }) class false refl) ∙ comes

  like : IsLike world.around (slice_get world.around.functions f) all 0 mine
  like = first_like world.around (slice_get world.around.functions f) it.x a.element (Some (element.Instance class false)) args (ap (type_seen world.around.layout) inst.is ∙ instance_type world.around.layout class r ∙ sym (instance_type world.around.layout class false))

  abbrev ops : List LlOp
  ops = functions.ops world known f all mine takes.here takes.missing takes.result place behind apart comes_too inside_then takes.graph takes.takes takes.pass takes.default takes.defaults takes.gives takes.goes refl like

  abbrev new : List LlType
  new = functions.new world known f all mine takes.here takes.missing takes.result place behind apart comes_too inside_then takes.graph takes.takes takes.pass takes.default takes.defaults takes.gives takes.goes refl like

  abbrev asks : List Ask
  asks = pass_asks world.around.layout (there a class ∷ args) takes.here

  abbrev between : Found → Found
  between = stood_in world.around (slice_get world.around.functions f) (length (there a class ∷ args)) takes.missing

  abbrev later : List Ask
  later = asks_for world.around.layout (type_of_element world.around.layout takes.result) (type_at world.around place)

  -- the asks of the instance are by its type alone
  is_written : lower_class_op world (row.Method name site) place (a ∷ args) w ≡ writing (all_asked later (between (all_asked asks behind.found))) (record { types = behind.body.types ++ new; ops = behind.body.ops ++ ops })
  unfolding lowered lower_method method
  is_written =
      ap (λ c. if (if c then true else is_never args) then lower_list_op world.around (row.Method name site) place (a ∷ args) w else lowered world (row.Method name site) place (a ∷ args) w) (instance_comes a class r inst.is)
      ∙ ap (λ c. if c then lower_list_op world.around (row.Method name site) place (a ∷ args) w else lowered world (row.Method name site) place (a ∷ args) w) comes
      ∙ ap (λ e. method_on world (row.Method name site) place name (a ∷ args) (instance_in e) w) inst.is
      ∙ ap (λ m. method_by world place name class a args m (present world.around a r w)) reaches
      ∙ ap (λ (x : COperand × Writing). call world.around place f (receiver x.0 a ∷ args) x.1) it.written
      ∙ functions.call_is world known f all mine takes.here takes.missing takes.result place behind apart comes_too inside_then takes.graph takes.takes takes.pass takes.default takes.defaults takes.gives takes.goes refl like

  both_asked : all_asked (first ++ asks) w.found ≡ all_asked asks behind.found
  both_asked = asked_both first asks w.found

  new_long : length (it.new ++ new) ≡ length it.new + length new
  new_long = length-append it.new new

  all_ops : (rest : List LlOp) → (it.ops ++ ops) ++ rest ≡ it.ops ++ (ops ++ rest)
  all_ops rest = append_assoc it.ops ops rest

  module _ (p : LlProgram) (numbers : Numbers) (raised : ℕ → Value) (structs : HasLayout p world.around.layout) (stood : Stood world.around.layout known (Has world p numbers raised) (first ++ asks) w.found) (later_stood : Stood world.around.layout known (Has world p numbers raised) later (between (all_asked (first ++ asks) w.found)))
      (kept : AreKept p world.around.layout known (lower_class_op world (row.Method name site) place (a ∷ args) w).found)
      (arguments : List (List ℕ)) (rest : List LlOp) (e : LlExit) (frames : List Frame) (core : Core) (g : Ghost) (meant : MeantWorld) (most : ℕ) (stands : Represents world.around.layout known g meant.heap meant.left core.blocks core.statics) (left : meant.left ≡ core.steps)
      (room : length w.body.types + length (it.new ++ new) ≤ length core.vars) (under : AllBelow (length w.body.types) (a ∷ args)) where
    abbrev Did : Answer → Type 0
    Did answer = FollowsOrCalls (tuples_of takes.here) known world.around place p arguments (At (it.ops ++ (ops ++ rest)) e frames core) rest e frames core g raised (items_of takes.here + most) (length w.body.types) meant answer

    has : AllAsked (HasOther world p numbers raised core) first w.found
    has = present_had world p numbers raised core a r w.found.covered w.found (has_first (Has world p numbers raised core) first asks w.found (stood core g meant.heap meant.left stands left))

    stood_then : Stood world.around.layout known (Has world p numbers raised) asks behind.found
    stood_then c h heap left s u = has_second (Has world p numbers raised c) first asks w.found (stood c h heap left s u)

    no_call : (c : Bool) → Follows (tuples_of takes.here) known world.around place p arguments (At (it.ops ++ (ops ++ rest)) e frames core) rest e frames core g raised (items_of takes.here + most) (length w.body.types) meant (failure c 9 fail.Attribute meant) → Did (failure c 9 fail.Attribute meant)
    no_call true h = h
    no_call false h = h

    is_there : (v : Meant) (vs : List Meant) → Given known world.around g core args vs → HasMethod known name f meant (v ∷ vs) → Instancing known g class (operand core.vars a.x) v → Did (meant_op known.program w.found.covered (row.Method name site) (v ∷ vs) meant)
    is_there v vs given good at =
        let x : Value = operand core.vars a.x in
        let here = stands.instances at.c at.i x at.home in
        let went = it.enters p numbers raised arguments (ops ++ rest) e frames core has (omega (arith, room, new_long)) (found_set core.blocks core.statics x _ here.block_is) (found_there core.blocks core.statics x _ here.block_is) in
        let mid : Core = went.0 in
        let passed : Passed (length w.body.types) core mid = went.2 in
        let stands_mid : Represents world.around.layout known g meant.heap meant.left mid.blocks mid.statics = subst (λ (c : Core). Represents world.around.layout known g meant.heap meant.left c.blocks c.statics) (sym passed.memory) stands in
        let held : Holds world.around.layout known g (Some (element.Instance class false)) (operand mid.vars it.x) v = subst (λ y. Holds world.around.layout known g (Some (element.Instance class false)) y v) (sym went.3) (Made class false at.c at.i refl at.high at.below at.home) in
        let given_mid : Given known world.around g mid mine (v ∷ vs) = (held, given_kept known world.around (length w.body.types) core mid grown_none passed.others args vs under.1 given) in
        let has_method : InClass known name f (slice_get meant.heap at.i) = subst (λ v. HasMethod known name f meant (v ∷ vs)) at.high good in
        let named : method_of known.program.classes at.c name ≡ Some f = subst (InClass known name f) here.object has_method in
        let above : meant_op known.program w.found.covered (row.Method name site) (v ∷ vs) meant ≡ Enters f (v ∷ vs) None meant =
        ap (λ v. meant_op known.program w.found.covered (row.Method name site) (v ∷ vs) meant) at.high
        ∙ ap (λ o. object_method known.program w.found.covered name at.i vs o meant) here.object
        ∙ ap (λ o. if_some bad o (λ f. enter known.program w.found.covered f (Ref at.i ∷ vs)) meant) named
        ∙ ap (λ v. Enters f (v ∷ vs) None meant) (sym at.high) in
        let room_then = passed.room in
        subst Did (sym above)
        (called_behind (omega (arith, longer)) passed went.1
        (functions.entered world known f all mine takes.here takes.missing takes.result place behind apart comes_too inside_then takes.graph takes.takes takes.pass takes.default takes.defaults takes.gives takes.goes refl like
        p numbers raised structs stood_then (subst (λ found. Stood world.around.layout known (Has world p numbers raised) later (between found)) both_asked later_stood) (lower_class_op world (row.Method name site) place (a ∷ args) w).found (ap (λ (r : Writing). r.found) is_written) kept
        arguments rest e frames mid g meant (v ∷ vs) most stands_mid (left ∙ sym (ap (λ (c : Core). c.steps) passed.memory)) (omega (arith, room, new_long, longer, room_then))
        (subst (λ n. AllBelow n mine) (sym longer) (it.below under.0, all_below_more (length w.body.types) (length w.body.types + length it.new) (omega arith) args under.1)) given_mid))

    missing : (v : Meant) (vs : List Meant) → r ≡ true → Gone (missing_instance true) a.element (operand core.vars a.x) v → Did (meant_op known.program w.found.covered (row.Method name site) (v ∷ vs) meant)
    missing v vs may gone = subst (λ v. Did (meant_op known.program w.found.covered (row.Method name site) (v ∷ vs) meant)) (sym gone.high)
        (no_call w.found.covered.attribute (it.misses (tuples_of takes.here) known place p numbers raised arguments ops rest e frames core g (items_of takes.here + most) meant has may gone.low))

    follow : (vs : List Meant) → Given known world.around g core (a ∷ args) vs → HasMethod known name f meant vs → Did (meant_op known.program w.found.covered (row.Method name site) vs meant)
    follow [] given good = absurd given
    follow (v ∷ vs) given good = by (instance_or_none class r inst.is given.0)
      where
        by : Instancing known g class (operand core.vars a.x) v ⊎ ((r ≡ true) × Gone (missing_instance true) a.element (operand core.vars a.x) v) → Did (meant_op known.program w.found.covered (row.Method name site) (v ∷ vs) meant)
        by (inl at) = is_there v vs given.1 good at
        by (inr (may, gone)) = missing v vs may gone

  pub method_done : IsCalledWhere (λ p. HasMethod known name f) (tuples_of takes.here) (items_of takes.here) world known (row.Method name site) w.found.covered (first ++ asks) between later place (a ∷ args) w
  method_done = record {
    ops = it.ops ++ ops;
    new = it.new ++ new;
    asked = ap (λ (r : Writing). r.found) is_written ∙ ap (λ f. all_asked later (between f)) (sym both_asked);
    written = ap (λ (r : Writing). r.body.ops) is_written ∙ append_assoc w.body.ops it.ops ops;
    types = ap (λ (r : Writing). r.body.types) is_written ∙ append_assoc w.body.types it.new new;
    follows = λ p numbers raised structs stood later_stood kept arguments rest e frames core g meant vs stands left room under given good.
        subst (λ os. FollowsOrCalls (tuples_of takes.here) known world.around place p arguments (At os e frames core) rest e frames core g raised (items_of takes.here + references meant.heap vs) (length w.body.types) meant (meant_op known.program w.found.covered (row.Method name site) vs meant)) (sym (all_ops rest))
        (follow p numbers raised structs stood later_stood kept arguments rest e frames core g meant (references meant.heap vs) stands left room under vs given good);
  }

pub methods_are_called : MethodsAreCalled
methods_are_called site world known name f class r l place a args w apart comes inside inst reaches takes = method_done site world known name f class r l place a args w apart comes inside inst reaches takes

-- ---- function values

module _ (world : World) (known : Known) (f : ℕ) (r : Bool) (place : Place) (a : Operand) (args : List Operand) (w : Writing)
    (apart : is_tuple world.around.layout 0 ≡ false) (comes : is_never args ≡ false) (inside : place.variable < length w.body.types) (ha : a.element ≡ Some (element.Func (f ∷ []) r)) (takes : Takes world known f args place) where
  value_it : Present world a r w
  value_it = presence world a w r

  abbrev value_first : List Ask
  value_first = present_asks world a r w.found.covered

  abbrev value_behind : Writing
  value_behind = writing (all_asked value_first w.found) (record { types = w.body.types ++ value_it.new; ops = w.body.ops ++ value_it.ops })

  value_longer : length value_behind.body.types ≡ length w.body.types + length value_it.new
  value_longer = length-append w.body.types value_it.new

  value_inside : place.variable < length value_behind.body.types
  value_inside = omega (arith, inside, value_longer)

  abbrev value_ops : List LlOp
  value_ops = functions.its_ops world known f place args value_behind apart comes value_inside takes

  abbrev value_new : List LlType
  value_new = functions.its_new world known f place args value_behind apart comes value_inside takes

  abbrev value_asks : List Ask
  value_asks = pass_asks world.around.layout args takes.here

  abbrev value_between : Found → Found
  value_between = stood_in world.around (slice_get world.around.functions f) (length args) takes.missing

  abbrev value_later : List Ask
  value_later = asks_for world.around.layout (type_of_element world.around.layout takes.result) (type_at world.around place)

  value_comes : (r : Bool) → never_comes (kind_of (record { x = a.x; element = Some (element.Func (f ∷ []) r) })) ≡ false
  value_comes true = refl
  value_comes false = refl

  value_written : lower_class_op world row.CallValue place (a ∷ args) w ≡ writing (all_asked value_later (value_between (all_asked value_asks value_behind.found))) (record { types = value_behind.body.types ++ value_new; ops = value_behind.body.ops ++ value_ops })
  unfolding lowered value_call call_value
  value_written =
      ap (λ c. if (if c then true else is_never args) then lower_list_op world.around row.CallValue place (a ∷ args) w else lowered world row.CallValue place (a ∷ args) w) (ap (λ e. never_comes (kind_of (record { x = a.x; element = e }))) ha ∙ value_comes r)
      ∙ ap (λ c. if c then lower_list_op world.around row.CallValue place (a ∷ args) w else lowered world row.CallValue place (a ∷ args) w) comes
      ∙ ap (λ e. value_call_of world place a (functions_in e) args w) ha
      ∙ ap (λ x. call_one_of world.around place (f ∷ []) args x) value_it.written
      ∙ functions.is_call world known f place args value_behind apart comes value_inside takes

  value_both : all_asked (value_first ++ value_asks) w.found ≡ all_asked value_asks value_behind.found
  value_both = asked_both value_first value_asks w.found

  value_long : length (value_it.new ++ value_new) ≡ length value_it.new + length value_new
  value_long = length-append value_it.new value_new

  module _ (p : LlProgram) (numbers : Numbers) (raised : ℕ → Value) (structs : HasLayout p world.around.layout) (stood : Stood world.around.layout known (Has world p numbers raised) (value_first ++ value_asks) w.found) (later_stood : Stood world.around.layout known (Has world p numbers raised) value_later (value_between (all_asked (value_first ++ value_asks) w.found)))
      (kept : AreKept p world.around.layout known (lower_class_op world row.CallValue place (a ∷ args) w).found)
      (arguments : List (List ℕ)) (rest : List LlOp) (e : LlExit) (frames : List Frame) (core : Core) (g : Ghost) (meant : MeantWorld) (most : ℕ) (stands : Represents world.around.layout known g meant.heap meant.left core.blocks core.statics) (left : meant.left ≡ core.steps)
      (room : length w.body.types + length (value_it.new ++ value_new) ≤ length core.vars) (under : AllBelow (length w.body.types) (a ∷ args)) where
    abbrev Reached : Answer → Type 0
    Reached answer = FollowsOrCalls (tuples_of takes.here) known world.around place p arguments (At (value_it.ops ++ (value_ops ++ rest)) e frames core) rest e frames core g raised (items_of takes.here + most) (length w.body.types) meant answer

    value_has : AllAsked (HasOther world p numbers raised core) value_first w.found
    value_has = present_had world p numbers raised core a r w.found.covered w.found (has_first (Has world p numbers raised core) value_first value_asks w.found (stood core g meant.heap meant.left stands left))

    value_then : Stood world.around.layout known (Has world p numbers raised) value_asks value_behind.found
    value_then c h heap left s u = has_second (Has world p numbers raised c) value_first value_asks w.found (stood c h heap left s u)

    value_fails : (c : Bool) → Follows (tuples_of takes.here) known world.around place p arguments (At (value_it.ops ++ (value_ops ++ rest)) e frames core) rest e frames core g raised (items_of takes.here + most) (length w.body.types) meant (failure c 9 fail.Attribute meant) → Reached (failure c 9 fail.Attribute meant)
    value_fails true h = h
    value_fails false h = h

    only : (h : ℕ) → is_one_of (f ∷ []) h ≡ true → f ≡ h
    only h k = elim (eqb_tells f h) [ inl t ↦ t.1 | inr t ↦ absurd (let q : false ≡ true = sym (ap (λ b. b || false) t.0) ∙ k in cc) ]

    is_one : (v : Meant) (vs : List Meant) → Given known world.around g core args vs → OfFunction known (f ∷ []) (operand core.vars a.x) v → Reached (meant_op known.program w.found.covered row.CallValue (v ∷ vs) meant)
    is_one v vs given at =
        let went = value_it.enters p numbers raised arguments (value_ops ++ rest) e frames core value_has (omega (arith, room, value_long)) (ap is_unset at.low) (ap (λ x. compared x Null) at.low) in
        let mid : Core = went.0 in
        let passed : Passed (length w.body.types) core mid = went.2 in
        let stands_mid : Represents world.around.layout known g meant.heap meant.left mid.blocks mid.statics = subst (λ (c : Core). Represents world.around.layout known g meant.heap meant.left c.blocks c.statics) (sym passed.memory) stands in
        let given_mid : Given known world.around g mid args vs = given_kept known world.around (length w.body.types) core mid grown_none passed.others args vs under.1 given in
        let above : meant_op known.program w.found.covered row.CallValue (v ∷ vs) meant ≡ Enters f vs None meant =
        ap (λ v. meant_op known.program w.found.covered row.CallValue (v ∷ vs) meant) at.high ∙ ap (λ h. Enters h vs None meant) (sym (only at.f at.one)) in
        let room_then = passed.room in
        subst Reached (sym above)
        (called_behind (omega (arith, value_longer)) passed went.1
        (functions.its_entered world known f place args value_behind apart comes value_inside takes
        p numbers raised structs value_then (subst (λ found. Stood world.around.layout known (Has world p numbers raised) value_later (value_between found)) value_both later_stood) (lower_class_op world row.CallValue place (a ∷ args) w).found (ap (λ (r : Writing). r.found) value_written) kept
        arguments rest e frames mid g meant vs most stands_mid (left ∙ sym (ap (λ (c : Core). c.steps) passed.memory)) (omega (arith, room, value_long, value_longer, room_then))
        (all_below_more (length w.body.types) (length value_behind.body.types) (omega (arith, value_longer)) args under.1) given_mid))

    is_none : (v : Meant) (vs : List Meant) → r ≡ true → Gone (missing_function true) a.element (operand core.vars a.x) v → Reached (meant_op known.program w.found.covered row.CallValue (v ∷ vs) meant)
    is_none v vs may gone = subst (λ v. Reached (meant_op known.program w.found.covered row.CallValue (v ∷ vs) meant)) (sym gone.high)
        (value_fails w.found.covered.attribute (value_it.misses (tuples_of takes.here) known place p numbers raised arguments value_ops rest e frames core g (items_of takes.here + most) meant value_has may gone.low))

    value_follow : (vs : List Meant) → Given known world.around g core (a ∷ args) vs → Reached (meant_op known.program w.found.covered row.CallValue vs meant)
    value_follow [] given = absurd given
    value_follow (v ∷ vs) given = by (function_or_none (f ∷ []) r ha given.0)
      where
        by : OfFunction known (f ∷ []) (operand core.vars a.x) v ⊎ ((r ≡ true) × Gone (missing_function true) a.element (operand core.vars a.x) v) → Reached (meant_op known.program w.found.covered row.CallValue (v ∷ vs) meant)
        by (inl at) = is_one v vs given.1 at
        by (inr (may, gone)) = is_none v vs may gone

  pub value_done : IsCalledWhere (λ p. Any) (tuples_of takes.here) (items_of takes.here) world known row.CallValue w.found.covered (value_first ++ value_asks) value_between value_later place (a ∷ args) w
  value_done = record {
    ops = value_it.ops ++ value_ops;
    new = value_it.new ++ value_new;
    asked = ap (λ (r : Writing). r.found) value_written ∙ ap (λ f. all_asked value_later (value_between f)) (sym value_both);
    written = ap (λ (r : Writing). r.body.ops) value_written ∙ append_assoc w.body.ops value_it.ops value_ops;
    types = ap (λ (r : Writing). r.body.types) value_written ∙ append_assoc w.body.types value_it.new value_new;
    follows = λ p numbers raised structs stood later_stood kept arguments rest e frames core g meant vs stands left room under given good.
        subst (λ os. FollowsOrCalls (tuples_of takes.here) known world.around place p arguments (At os e frames core) rest e frames core g raised (items_of takes.here + references meant.heap vs) (length w.body.types) meant (meant_op known.program w.found.covered row.CallValue vs meant)) (sym (append_assoc value_it.ops value_ops rest))
        (value_follow p numbers raised structs stood later_stood kept arguments rest e frames core g meant (references meant.heap vs) stands left room under vs given);
  }

pub values_are_called : ValuesAreCalled
values_are_called world known f r place a args w apart comes inside ha takes = value_done world known f r place a args w apart comes inside ha takes
