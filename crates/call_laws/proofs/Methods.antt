-- Methods of instances and function values are called, where it is known which function that is.
use Rattle.std.proofs.Common.{◌≡◌, ◌<◌, ◌≤◌, ◌⊎◌, inl, inr, ℕ, ◌+◌, ◌||◌, Bool, true, false, List, [], ◌∷◌, ◌++◌, length, Option, Some, None, refl, sym, ap, ◌∙◌, subst, arith, append_assoc}
use Rattle.std.specs.Prelude.{slice_get, if◌then◌else◌}
use Rattle.std.proofs.lemmas.Bool.Decides.{eqb_tells}
use Rattle.ann_element.specs.declared.element.Element.{Element}
use Rattle.ann_element.specs.declared.element.Element.TheVariants as element
use Rattle.csub_tree.specs.State.{Value, Null, Core}
use Rattle.csub_tree.specs.Operation.{is_unset, compared}
use Rattle.csub_tree.specs.Statement.{operand, any_unset}
use Rattle.csub_tree.specs.declared.tree.COperand.{COperand}
use Rattle.ll_code.specs.State.{Frame, At}
use Rattle.ll_code.specs.declared.program.LlOp.{LlOp}
use Rattle.ll_code.specs.declared.program.LlOp.TheVariants as op
use Rattle.ll_code.specs.declared.program.LlExit.{LlExit}
use Rattle.ll_code.specs.declared.program.LlProgram.{LlProgram}
use Rattle.ll_build.specs.declared.needs.Numbers.{Numbers}
use Rattle.rpy_base.specs.declared.outcome.FailName.TheVariants as fail
use Rattle.rpy_meaning.specs.declared.row.RowOp.TheVariants as row
use Rattle.rpy_meaning.specs.Classes.{method_of}
use Rattle.rpy_meaning.specs.Operations.{op as meant_op, enter, object_method}
use Rattle.rpy_meaning.specs.World.{World as MeantWorld, Answer, Enters, failure, bad, if_some}
use Rattle.rpy_tree.specs.Value.{Value as Meant, Ref}
use Rattle.rtyper_layout.specs.declared.classes.Laid.{Laid}
use Rattle.rtyper_op.specs.Calls.{call, number_of}
use Rattle.rtyper_op.specs.Lowering.{is_never, never_comes}
use Rattle.rtyper_data.specs.Converting.{present}
use Rattle.rtyper_data.specs.Seen.{Operand, Place, type_of, kind_of, with_op, Writing, writing}
use Rattle.rtyper_list.specs.Lowering.{lower_list_op}
use Rattle.rtyper_class.specs.declared.call.Reached.TheVariants as reached
use Rattle.rtyper_class.specs.Calls.{call_one_of, call_value, method, method_by, reached_by, receiver}
use Rattle.rtyper_class.specs.Lowering.{lowered, lower_class_op, instance_in, functions_in, method_of as lower_method, method_on, value_call, value_call_of}
use Rattle.rtyper_class.specs.Seen.{World}
use Rattle.lower_laws.specs.Asked.{all_asked}
use Rattle.lower_laws.specs.Values.{AllBelow}
use Rattle.object_laws.specs.Done.{Any, AllAsked, Follows, references}
use Rattle.object_laws.specs.Ghost.{Ghost}
use Rattle.object_laws.specs.Known.{Known}
use Rattle.object_laws.specs.Represents.{Represents}
use Rattle.object_laws.specs.Staying.{Stays}
use Rattle.object_laws.specs.Values.{Holds, Made, AllHold, Next, Given, is_one_of}
use Rattle.object_laws.proofs.Blocks.{found_set, found_there}
use Rattle.object_laws.proofs.Passing.{Passed, operand_kept}
use Rattle.object_laws.proofs.Valued.{Instancing, Gone, OfFunction, instance_or_none, function_or_none, instance_type, missing_instance, missing_function, stays_typed, stays_there, stays_held, held_set}
use Rattle.class_laws.specs.Asked.{Has}
use Rattle.class_laws.specs.Instances.{IsInstance, present_asks}
use Rattle.class_laws.proofs.Copied.{instance_comes}
use Rattle.class_laws.proofs.Presence.{Present, presence}
use Rattle.call_laws.specs.Calls.{AllStay, Takes, there, InClass, HasMethod, MethodsAreCalled, ValuesAreCalled}
use Rattle.call_laws.specs.Done.{IsEnteredWhere}
use Rattle.call_laws.specs.Entered.{FollowsOrEnters}
use Rattle.call_laws.specs.Indirect.{AllTyped}
use Rattle.call_laws.proofs.Called.{call_is, entered, entered_behind}
use Rattle.call_laws.proofs.Passed.{xs_of, values_of, all_typed, all_come, all_passed, all_set}

-- operands from before are what they were
pub given_kept : (world : World) (known : Known) (g : Ghost) {below : ℕ} {core mid : Core} → Passed below core mid → (args : List Operand) (vs : List Meant) → AllBelow below args → Given known world.around g core args vs → Given known world.around g mid args vs
given_kept world known g passed [] [] under given = tt
given_kept world known g passed [] (v ∷ vs) under given = absurd given
given_kept world known g passed (a ∷ args) [] under given = absurd given
given_kept world known g passed (a ∷ args) (v ∷ vs) under given = (
  subst (λ x. Holds world.around.layout known g a.element x v) (sym (operand_kept passed a.x under.0)) given.0,
  given_kept world known g passed args vs under.1 given.1,
)

-- ---- methods

module _ (site : Option ℕ) (world : World) (known : Known) (name : List ℕ) (f class : ℕ) (r : Bool) (l : Laid) (place : Place) (a : Operand) (args : List Operand) (w : Writing)
    (inst : IsInstance world a.element class r l) (reaches : reached_by world class name ≡ reached.One f) (first : Element) (params : List Element) (result : Element) (graph : known.graph f ≡ Some (number_of world.around f)) (takes : slice_get world.around.params f ≡ Some (first ∷ params))
    (stay : AllStay world.around.layout known (there a class ∷ args) (first ∷ params)) (gives : slice_get world.around.results f ≡ Some result) (goes : Stays world.around.layout known (Some result) place.element) where
  it : Present world a r w
  it = presence world a w r

  abbrev self : Operand
  self = receiver it.x a

  abbrev all : List Operand
  all = self ∷ args

  abbrev behind : Writing
  behind = writing (all_asked (present_asks world a r w.found.covered) w.found) (record { types = w.body.types ++ it.new; ops = w.body.ops ++ it.ops })

  abbrev calls : LlOp
  calls = op.Call (Some place.variable) (number_of world.around f) (xs_of all)

  typed : AllTyped world.around all (first ∷ params)
  typed = (
    ap (λ e. type_of world.around (record { x = it.x; element = e })) inst.is ∙ instance_type world.around.layout class r ∙ sym (instance_type world.around.layout class false) ∙ stays_typed stay.0,
    stays_there stay.0,
    all_typed world.around known args params stay.1,
  )

  is_written : lower_class_op world (row.Method name site) place (a ∷ args) w ≡ writing behind.found (with_op calls behind.body)
  unfolding lowered lower_method method
  is_written =
      ap (λ c. if (if c then true else is_never args) then lower_list_op world.around (row.Method name site) place (a ∷ args) w else lowered world (row.Method name site) place (a ∷ args) w) (instance_comes a class r inst.is)
      ∙ ap (λ c. if c then lower_list_op world.around (row.Method name site) place (a ∷ args) w else lowered world (row.Method name site) place (a ∷ args) w) (all_come world.around.layout known args params stay.1)
      ∙ ap (λ e. method_on world (row.Method name site) place name (a ∷ args) (instance_in e) w) inst.is
      ∙ ap (λ m. method_by world place name class a args m (present world.around a r w)) reaches
      ∙ ap (λ (x : COperand × Writing). call world.around place f (receiver x.0 a ∷ args) x.1) it.written
      ∙ call_is world known f place all behind (first ∷ params) result graph takes typed gives goes

  module _ (p : LlProgram) (numbers : Numbers) (raised : ℕ → Value) (arguments : List (List ℕ)) (rest : List LlOp) (e : LlExit) (frames : List Frame) (core : Core) (g : Ghost) (meant : MeantWorld) (most : ℕ)
      (has : AllAsked (Has world p numbers raised core) (present_asks world a r w.found.covered) w.found)
      (stands : Represents world.around.layout known g meant.heap meant.left core.blocks core.statics) (left : meant.left ≡ core.steps)
      (room : length w.body.types + length it.new ≤ length core.vars) (inside : place.variable < length w.body.types) (under : AllBelow (length w.body.types) (a ∷ args)) where
    abbrev Did : Answer → Type 0
    Did answer = FollowsOrEnters 0 known world.around place p arguments (At (it.ops ++ (calls ∷ rest)) e frames core) rest e frames core g raised most (length w.body.types) meant answer

    -- what fails or throws enters nothing
    no_call : (c : Bool) → Follows 0 known world.around place p arguments (At (it.ops ++ (calls ∷ rest)) e frames core) rest e frames core g raised most (length w.body.types) meant (failure c 9 fail.Attribute meant) → Did (failure c 9 fail.Attribute meant)
    no_call true h = h
    no_call false h = h

    is_there : (v : Meant) (vs : List Meant) → Given known world.around g core args vs → HasMethod known name f meant (v ∷ vs) → Instancing known g class (operand core.vars a.x) v → Did (meant_op known.program w.found.covered (row.Method name site) (v ∷ vs) meant)
    is_there v vs given good at =
        let x : Value = operand core.vars a.x in
        let here = stands.instances at.c at.i x at.home in
        let went = it.enters p numbers raised arguments (calls ∷ rest) e frames core has room (found_set core.blocks core.statics x _ here.block_is) (found_there core.blocks core.statics x _ here.block_is) in
        let mid : Core = went.0 in
        let passed : Passed (length w.body.types) core mid = went.2 in
        let stands_mid : Represents world.around.layout known g meant.heap meant.left mid.blocks mid.statics = subst (λ (c : Core). Represents world.around.layout known g meant.heap meant.left c.blocks c.statics) (sym passed.memory) stands in
        let given_mid : Given known world.around g mid args vs = given_kept world known g passed args vs under.1 given in
        let held : Holds world.around.layout known g (Some (element.Instance class false)) (operand mid.vars it.x) v = subst (λ y. Holds world.around.layout known g (Some (element.Instance class false)) y v) (sym went.3) (Made class false at.c at.i refl at.high at.below at.home) in
        let values_passed : AllHold world.around.layout known g (first ∷ params) (values_of mid all) (v ∷ vs) = Next (stays_held stay.0 held) (all_passed world.around known g mid args params vs stay.1 given_mid) in
        let values_set : any_unset (values_of mid all) ≡ false = ap (λ c. c || any_unset (values_of mid args)) (held_set stands_mid held) ∙ all_set world.around known g mid stands_mid args vs given_mid in
        let has_method : InClass known name f (slice_get meant.heap at.i) = subst (λ v. HasMethod known name f meant (v ∷ vs)) at.high good in
        let named : method_of known.program.classes at.c name ≡ Some f = subst (InClass known name f) here.object has_method in
        let above : meant_op known.program w.found.covered (row.Method name site) (v ∷ vs) meant ≡ Enters f (v ∷ vs) None meant =
        ap (λ v. meant_op known.program w.found.covered (row.Method name site) (v ∷ vs) meant) at.high
        ∙ ap (λ o. object_method known.program w.found.covered name at.i vs o meant) here.object
        ∙ ap (λ o. if_some bad o (λ f. enter known.program w.found.covered f (Ref at.i ∷ vs)) meant) named
        ∙ ap (λ v. Enters f (v ∷ vs) None meant) (sym at.high) in
        subst Did (sym above)
        (entered_behind passed went.1
        (entered world known f place all behind (first ∷ params) result graph takes typed gives goes p arguments rest e frames mid g meant (v ∷ vs) most (length w.body.types) stands_mid (left ∙ sym (ap (λ (c : Core). c.steps) passed.memory))
        (let q = passed.room in omega (arith, inside, room, q)) values_passed values_set))

    missing : (v : Meant) (vs : List Meant) → r ≡ true → Gone (missing_instance true) a.element (operand core.vars a.x) v → Did (meant_op known.program w.found.covered (row.Method name site) (v ∷ vs) meant)
    missing v vs may gone = subst (λ v. Did (meant_op known.program w.found.covered (row.Method name site) (v ∷ vs) meant)) (sym gone.high)
        (no_call w.found.covered.attribute (it.misses 0 known place p numbers raised arguments (calls ∷ []) rest e frames core g most meant has may gone.low))

    follow : (vs : List Meant) → Given known world.around g core (a ∷ args) vs → HasMethod known name f meant vs → Did (meant_op known.program w.found.covered (row.Method name site) vs meant)
    follow [] given good = absurd given
    follow (v ∷ vs) given good = by (instance_or_none class r inst.is given.0)
      where
        by : Instancing known g class (operand core.vars a.x) v ⊎ ((r ≡ true) × Gone (missing_instance true) a.element (operand core.vars a.x) v) → Did (meant_op known.program w.found.covered (row.Method name site) (v ∷ vs) meant)
        by (inl at) = is_there v vs given.1 good at
        by (inr (may, gone)) = missing v vs may gone

  method_done : IsEnteredWhere (λ p. HasMethod known name f) 0 world known (row.Method name site) w.found.covered (present_asks world a r w.found.covered) place (a ∷ args) w
  method_done = record {
    ops = it.ops ++ calls ∷ [];
    new = it.new;
    asked = ap (λ (r : Writing). r.found) is_written;
    written = ap (λ (r : Writing). r.body.ops) is_written ∙ append_assoc w.body.ops it.ops (calls ∷ []);
    types = ap (λ (r : Writing). r.body.types) is_written;
    follows = λ p numbers raised arguments rest e frames core g meant vs structs has stands left room inside under given good.
        subst (λ os. FollowsOrEnters 0 known world.around place p arguments (At os e frames core) rest e frames core g raised (references meant.heap vs) (length w.body.types) meant (meant_op known.program w.found.covered (row.Method name site) vs meant)) (sym (append_assoc it.ops (calls ∷ []) rest))
        (follow p numbers raised arguments rest e frames core g meant (references meant.heap vs) has stands left room inside under vs given good);
  }

pub methods_are_called : MethodsAreCalled
methods_are_called site world known name f class r l place a args w inst reaches takes = by takes.params takes.takes takes.stay
  where
    by : (params : List Element) → slice_get world.around.params f ≡ Some params → AllStay world.around.layout known (there a class ∷ args) params
        → IsEnteredWhere (λ p. HasMethod known name f) 0 world known (row.Method name site) w.found.covered (present_asks world a r w.found.covered) place (a ∷ args) w
    by [] h stay = absurd stay
    by (first ∷ params) h stay = method_done site world known name f class r l place a args w inst reaches first params takes.result takes.graph h stay takes.gives takes.goes

-- ---- function values

module _ (world : World) (known : Known) (f : ℕ) (r : Bool) (place : Place) (a : Operand) (args : List Operand) (w : Writing) (ha : a.element ≡ Some (element.Func (f ∷ []) r)) (takes : Takes world known f args place) where
  value_it : Present world a r w
  value_it = presence world a w r

  abbrev value_behind : Writing
  value_behind = writing (all_asked (present_asks world a r w.found.covered) w.found) (record { types = w.body.types ++ value_it.new; ops = w.body.ops ++ value_it.ops })

  abbrev value_calls : LlOp
  value_calls = op.Call (Some place.variable) (number_of world.around f) (xs_of args)

  value_typed : AllTyped world.around args takes.params
  value_typed = all_typed world.around known args takes.params takes.stay

  comes : (r : Bool) → never_comes (kind_of (record { x = a.x; element = Some (element.Func (f ∷ []) r) })) ≡ false
  comes true = refl
  comes false = refl

  value_written : lower_class_op world row.CallValue place (a ∷ args) w ≡ writing value_behind.found (with_op value_calls value_behind.body)
  unfolding lowered value_call call_value
  value_written =
      ap (λ c. if (if c then true else is_never args) then lower_list_op world.around row.CallValue place (a ∷ args) w else lowered world row.CallValue place (a ∷ args) w) (ap (λ e. never_comes (kind_of (record { x = a.x; element = e }))) ha ∙ comes r)
      ∙ ap (λ c. if c then lower_list_op world.around row.CallValue place (a ∷ args) w else lowered world row.CallValue place (a ∷ args) w) (all_come world.around.layout known args takes.params takes.stay)
      ∙ ap (λ e. value_call_of world place a (functions_in e) args w) ha
      ∙ ap (λ x. call_one_of world.around place (f ∷ []) args x) value_it.written
      ∙ call_is world known f place args value_behind takes.params takes.result takes.graph takes.takes value_typed takes.gives takes.goes

  module _ (p : LlProgram) (numbers : Numbers) (raised : ℕ → Value) (arguments : List (List ℕ)) (rest : List LlOp) (e : LlExit) (frames : List Frame) (core : Core) (g : Ghost) (meant : MeantWorld) (most : ℕ)
      (has : AllAsked (Has world p numbers raised core) (present_asks world a r w.found.covered) w.found)
      (stands : Represents world.around.layout known g meant.heap meant.left core.blocks core.statics) (left : meant.left ≡ core.steps)
      (room : length w.body.types + length value_it.new ≤ length core.vars) (inside : place.variable < length w.body.types) (under : AllBelow (length w.body.types) (a ∷ args)) where
    abbrev Reached : Answer → Type 0
    Reached answer = FollowsOrEnters 0 known world.around place p arguments (At (value_it.ops ++ (value_calls ∷ rest)) e frames core) rest e frames core g raised most (length w.body.types) meant answer

    value_fails : (c : Bool) → Follows 0 known world.around place p arguments (At (value_it.ops ++ (value_calls ∷ rest)) e frames core) rest e frames core g raised most (length w.body.types) meant (failure c 9 fail.Attribute meant) → Reached (failure c 9 fail.Attribute meant)
    value_fails true h = h
    value_fails false h = h

    only : (h : ℕ) → is_one_of (f ∷ []) h ≡ true → f ≡ h
    only h k = elim (eqb_tells f h) [ inl t ↦ t.1 | inr t ↦ absurd (let q : false ≡ true = sym (ap (λ b. b || false) t.0) ∙ k in cc) ]

    is_one : (v : Meant) (vs : List Meant) → Given known world.around g core args vs → OfFunction known (f ∷ []) (operand core.vars a.x) v → Reached (meant_op known.program w.found.covered row.CallValue (v ∷ vs) meant)
    is_one v vs given at =
        let went = value_it.enters p numbers raised arguments (value_calls ∷ rest) e frames core has room (ap is_unset at.low) (ap (λ x. compared x Null) at.low) in
        let mid : Core = went.0 in
        let passed : Passed (length w.body.types) core mid = went.2 in
        let stands_mid : Represents world.around.layout known g meant.heap meant.left mid.blocks mid.statics = subst (λ (c : Core). Represents world.around.layout known g meant.heap meant.left c.blocks c.statics) (sym passed.memory) stands in
        let given_mid : Given known world.around g mid args vs = given_kept world known g passed args vs under.1 given in
        let above : meant_op known.program w.found.covered row.CallValue (v ∷ vs) meant ≡ Enters f vs None meant =
        ap (λ v. meant_op known.program w.found.covered row.CallValue (v ∷ vs) meant) at.high ∙ ap (λ h. Enters h vs None meant) (sym (only at.f at.one)) in
        subst Reached (sym above)
        (entered_behind passed went.1
        (entered world known f place args value_behind takes.params takes.result takes.graph takes.takes value_typed takes.gives takes.goes p arguments rest e frames mid g meant vs most (length w.body.types) stands_mid (left ∙ sym (ap (λ (c : Core). c.steps) passed.memory))
        (let q = passed.room in omega (arith, inside, room, q)) (all_passed world.around known g mid args takes.params vs takes.stay given_mid) (all_set world.around known g mid stands_mid args vs given_mid)))

    is_none : (v : Meant) (vs : List Meant) → r ≡ true → Gone (missing_function true) a.element (operand core.vars a.x) v → Reached (meant_op known.program w.found.covered row.CallValue (v ∷ vs) meant)
    is_none v vs may gone = subst (λ v. Reached (meant_op known.program w.found.covered row.CallValue (v ∷ vs) meant)) (sym gone.high)
        (value_fails w.found.covered.attribute (value_it.misses 0 known place p numbers raised arguments (value_calls ∷ []) rest e frames core g most meant has may gone.low))

    value_follow : (vs : List Meant) → Given known world.around g core (a ∷ args) vs → Reached (meant_op known.program w.found.covered row.CallValue vs meant)
    value_follow [] given = absurd given
    value_follow (v ∷ vs) given = by (function_or_none (f ∷ []) r ha given.0)
      where
        by : OfFunction known (f ∷ []) (operand core.vars a.x) v ⊎ ((r ≡ true) × Gone (missing_function true) a.element (operand core.vars a.x) v) → Reached (meant_op known.program w.found.covered row.CallValue (v ∷ vs) meant)
        by (inl at) = is_one v vs given.1 at
        by (inr (may, gone)) = is_none v vs may gone

  value_done : IsEnteredWhere (λ p. Any) 0 world known row.CallValue w.found.covered (present_asks world a r w.found.covered) place (a ∷ args) w
  value_done = record {
    ops = value_it.ops ++ value_calls ∷ [];
    new = value_it.new;
    asked = ap (λ (r : Writing). r.found) value_written;
    written = ap (λ (r : Writing). r.body.ops) value_written ∙ append_assoc w.body.ops value_it.ops (value_calls ∷ []);
    types = ap (λ (r : Writing). r.body.types) value_written;
    follows = λ p numbers raised arguments rest e frames core g meant vs structs has stands left room inside under given good.
        subst (λ os. FollowsOrEnters 0 known world.around place p arguments (At os e frames core) rest e frames core g raised (references meant.heap vs) (length w.body.types) meant (meant_op known.program w.found.covered row.CallValue vs meant)) (sym (append_assoc value_it.ops (value_calls ∷ []) rest))
        (value_follow p numbers raised arguments rest e frames core g meant (references meant.heap vs) has stands left room inside under vs given);
  }

pub values_are_called : ValuesAreCalled
values_are_called world known f r place a args w ha takes = value_done world known f r place a args w ha takes
