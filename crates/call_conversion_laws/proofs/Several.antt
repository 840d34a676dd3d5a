-- A value that may be one of several functions is called.
use Rattle.std.proofs.Common.{◌≡◌, ◌<◌, ◌≤◌, ◌⊎◌, inl, inr, ℕ, ◌+◌, Bool, true, false, List, [], ◌∷◌, ◌++◌, length, Option, Some, None, refl, sym, ap, ◌∙◌, subst, arith, append_assoc, length-append}
use Rattle.std.specs.Prelude.{slice_get, if◌then◌else◌}
use Rattle.ann_element.specs.declared.element.Element.{Element}
use Rattle.ann_element.specs.declared.element.Element.TheVariants as element
use Rattle.csub_tree.specs.State.{Value, Null, Core}
use Rattle.csub_tree.specs.Operation.{is_unset, compared}
use Rattle.csub_tree.specs.Statement.{operand}
use Rattle.ll_code.specs.State.{Frame, State, At}
use Rattle.ll_code.specs.declared.program.LlType.{LlType}
use Rattle.ll_code.specs.declared.program.LlOp.{LlOp}
use Rattle.ll_code.specs.declared.program.LlExit.{LlExit}
use Rattle.ll_code.specs.declared.program.LlProgram.{LlProgram}
use Rattle.ll_build.specs.declared.needs.Numbers.{Numbers}
use Rattle.rpy_base.specs.declared.outcome.FailName.TheVariants as fail
use Rattle.rpy_meaning.specs.declared.row.RowOp.TheVariants as row
use Rattle.rpy_meaning.specs.Operations.{op as meant_op}
use Rattle.rpy_meaning.specs.World.{World as MeantWorld, Answer, Enters, failure}
use Rattle.rpy_tree.specs.Value.{Value as Meant}
use Rattle.rtyper_layout.specs.Layout.{is_tuple}
use Rattle.rtyper_layout.specs.Types.{type_of as type_of_element}
use Rattle.rtyper_op.specs.Lowering.{is_never, never_comes}
use Rattle.rtyper_data.specs.Seen.{Around, Operand, Place, type_at, kind_of, Writing, writing}
use Rattle.rtyper_list.specs.Lowering.{lower_list_op}
use Rattle.rtyper_class.specs.Calls.{call_one_of, call_value}
use Rattle.rtyper_class.specs.Lowering.{lowered, lower_class_op, functions_in, value_call, value_call_of}
use Rattle.rtyper_class.specs.Seen.{World}
use Rattle.lower_laws.specs.Asked.{Ask, all_asked}
use Rattle.lower_laws.specs.Values.{IsBelow, AllBelow}
use Rattle.object_laws.specs.Done.{AllAsked, Follows, HasLayout, references}
use Rattle.object_laws.specs.Ghost.{Ghost}
use Rattle.object_laws.specs.Known.{Known}
use Rattle.object_laws.specs.Represents.{Represents}
use Rattle.object_laws.specs.Values.{Given, is_one_of}
use Rattle.object_laws.proofs.Growing.{grown_none}
use Rattle.object_laws.proofs.Passing.{Passed}
use Rattle.object_laws.proofs.Valued.{Gone, OfFunction, function_or_none, missing_function}
use Rattle.conversion_laws.specs.Asked.{asks_for}
use Rattle.conversion_laws.proofs.Moving.{has_first, has_second}
use Rattle.class_laws.specs.Asked.{Has as HasOther}
use Rattle.class_laws.specs.Instances.{present_asks}
use Rattle.class_laws.proofs.Presence.{Present, presence}
use Rattle.passing_laws.specs.Passing.{pass_asks, tuples_of, items_of}
use Rattle.passing_laws.specs.Standing.{Stood}
use Rattle.passing_laws.proofs.Operands.{asked_both, all_below_more, given_kept}
use Rattle.call_conversion_laws.specs.Called.{Has, Called, FollowsOrCalls, IsCalledWhere}
use Rattle.call_conversion_laws.specs.Several.{IsMeant, ValuesOfSeveralAreCalled}
use Rattle.call_conversion_laws.proofs.Arguments.{IsLike}
use Rattle.call_conversion_laws.proofs.Behind.{called_behind, present_had}
use Rattle.call_conversion_laws.proofs.Through as through_value
use Rattle.csub_tree.specs.State.{Fun}
use Rattle.csub_tree.specs.Statement.{read}
use Rattle.rtyper_class.specs.Calls.{through}
use Rattle.rtyper_op.specs.Calls.{argument_if}
use Rattle.ll_code.specs.declared.program.LlType.TheVariants as type
use Rattle.ll_leads.proofs.Joined.{leads_then, leads_more}
use Rattle.object_laws.proofs.Passing.{both_passed}
use Rattle.object_laws.proofs.Variables.{InVariable, in_variable}
use Rattle.conversion_laws.specs.Going.{Goes}
use Rattle.passing_laws.specs.Passing.{AllPass}
use Rattle.call_conversion_laws.proofs.Through.{alike_itself, alike_asks}

-- ---- lists

tail_of : {A : Type 0} → List A → List A
tail_of [] = []
tail_of (x ∷ xs) = xs

pub same_rest : {A : Type 0} (xs ys zs : List A) → xs ++ ys ≡ xs ++ zs → ys ≡ zs
unfolding tail_of
same_rest [] ys zs h = h
same_rest (x ∷ xs) ys zs h = same_rest xs ys zs (ap tail_of h)

pub called_more : {blocks count : ℕ} {known : Known} {around : Around} {place : Place} {p : LlProgram} {args : List (List ℕ)} {s : State} {rest : List LlOp} {e : LlExit} {frames : List Frame} {core : Core} {g : Ghost} {most also below : ℕ} {w : MeantWorld} {f : ℕ} {vs : List Meant} {instead : Option Meant} {w' : MeantWorld} → blocks ≤ count → most ≤ also
    → Called blocks known around place p args s rest e frames core g most below w f vs instead w' → Called count known around place p args s rest e frames core g also below w f vs instead w'
called_more {most = most} {also = also} h k c = record { number = c.number; graph = c.graph; params = c.params; takes = c.takes; xs = c.xs; frame = c.frame; end = c.end; leads = leads_more most also k c.leads; ghost = c.ghost; grown = c.grown; stands = c.stands; passed = c.passed; few = (let x = c.few in omega (arith, x, h)); memory = c.memory; out = c.out; waits = c.waits; back = c.back }

-- ---- the call

module _ (world : World) (known : Known) (f g2 : ℕ) (fs : List ℕ) (r : Bool) (place : Place) (a : Operand) (args : List Operand) (w : Writing) (params : List Element) (result : Element) (blocks more : ℕ)
    (apart : is_tuple world.around.layout 0 ≡ false) (comes : is_never args ≡ false) (inside : place.variable < length w.body.types) (ha : a.element ≡ Some (element.Func (f ∷ g2 ∷ fs) r))
    (takes : slice_get world.around.params f ≡ Some params) (gives : slice_get world.around.results f ≡ Some result) (pass : AllPass world.around.layout known args params) (goes : Goes world.around.layout known (Some result) place.element) where
  it : Present world a r w
  it = presence world a w r

  abbrev first : List Ask
  first = present_asks world a r w.found.covered

  abbrev asked : Writing
  asked = writing (all_asked first w.found) (record { types = w.body.types ++ it.new; ops = w.body.ops ++ it.ops })

  at : InVariable type.Fn it.x asked.body
  at = in_variable type.Fn it.x asked.body

  abbrev behind : Writing
  behind = writing asked.found (record { types = asked.body.types ++ at.new; ops = asked.body.ops ++ at.ops })

  asked_long : length asked.body.types ≡ length w.body.types + length it.new
  asked_long = length-append w.body.types it.new

  behind_long : length behind.body.types ≡ length w.body.types + length it.new + length at.new
  behind_long = length-append asked.body.types at.new ∙ ap (λ k. k + length at.new) asked_long

  inside_then : place.variable < length behind.body.types
  inside_then = omega (arith, inside, behind_long)

  like_itself : IsLike world.around (slice_get world.around.functions f) args 0 args
  like_itself k t w = ap (λ n. argument_if world.around (slice_get world.around.functions f) (0 + k) (slice_get args n) t w) (let z : 0 + k ≡ k = omega arith in z)

  abbrev call_ops : List LlOp
  call_ops = through_value.ops world known f at.x args args params params result result place behind apart comes inside_then takes gives (alike_itself world.around.layout params) pass refl goes like_itself

  abbrev call_new : List LlType
  call_new = through_value.new world known f at.x args args params params result result place behind apart comes inside_then takes gives (alike_itself world.around.layout params) pass refl goes like_itself

  abbrev asks : List Ask
  asks = pass_asks world.around.layout args params

  abbrev later : List Ask
  later = asks_for world.around.layout (type_of_element world.around.layout result) (type_at world.around place)

  value_comes : (r : Bool) → never_comes (kind_of (record { x = a.x; element = Some (element.Func (f ∷ g2 ∷ fs) r) })) ≡ false
  value_comes true = refl
  value_comes false = refl

  is_written : lower_class_op world row.CallValue place (a ∷ args) w ≡ writing (all_asked later (all_asked asks behind.found)) (record { types = behind.body.types ++ call_new; ops = behind.body.ops ++ call_ops })
  unfolding lowered value_call call_value
  is_written =
      ap (λ c. if (if c then true else is_never args) then lower_list_op world.around row.CallValue place (a ∷ args) w else lowered world row.CallValue place (a ∷ args) w) (ap (λ e. never_comes (kind_of (record { x = a.x; element = e }))) ha ∙ value_comes r)
      ∙ ap (λ c. if c then lower_list_op world.around row.CallValue place (a ∷ args) w else lowered world row.CallValue place (a ∷ args) w) comes
      ∙ ap (λ e. value_call_of world place a (functions_in e) args w) ha
      ∙ ap (λ x. call_one_of world.around place (f ∷ g2 ∷ fs) args x) it.written
      ∙ ap (λ v. through world.around place f args asked.found v) at.written
      ∙ through_value.through_is world known f at.x args args params params result result place behind apart comes inside_then takes gives (alike_itself world.around.layout params) pass refl goes like_itself

  abbrev ops : List LlOp
  ops = it.ops ++ (at.ops ++ call_ops)

  abbrev new : List LlType
  new = it.new ++ (at.new ++ call_new)

  new_long : length new ≡ length it.new + (length at.new + length call_new)
  new_long = length-append it.new (at.new ++ call_new) ∙ ap (λ k. length it.new + k) (length-append at.new call_new)

  both_asked : all_asked (first ++ asks) w.found ≡ all_asked asks behind.found
  both_asked = asked_both first asks w.found

  regroup : (rest : List LlOp) → ops ++ rest ≡ it.ops ++ (at.ops ++ (call_ops ++ rest))
  regroup rest = append_assoc it.ops (at.ops ++ call_ops) rest ∙ ap (λ os. it.ops ++ os) (append_assoc at.ops call_ops rest)

  module _ (p : LlProgram) (numbers : Numbers) (raised : ℕ → Value) (structs : HasLayout p world.around.layout) (stood : Stood world.around.layout known (Has world p numbers raised) (first ++ asks) w.found) (later_stood : Stood world.around.layout known (Has world p numbers raised) later (all_asked (first ++ asks) w.found))
      (arguments : List (List ℕ)) (rest : List LlOp) (e : LlExit) (frames : List Frame) (core : Core) (g : Ghost) (meant : MeantWorld) (most : ℕ) (stands : Represents world.around.layout known g meant.heap meant.left core.blocks core.statics) (left : meant.left ≡ core.steps)
      (room : length w.body.types + length new ≤ length core.vars) (under : AllBelow (length w.body.types) (a ∷ args)) (all_meant : (h : ℕ) → is_one_of (f ∷ g2 ∷ fs) h ≡ true → IsMeant p world known f args params result place blocks more h) where
    abbrev Start : List LlOp
    Start = it.ops ++ (at.ops ++ (call_ops ++ rest))

    abbrev Reached : Answer → Type 0
    Reached answer = FollowsOrCalls blocks known world.around place p arguments (At Start e frames core) rest e frames core g raised (more + most) (length w.body.types) meant answer

    has : AllAsked (HasOther world p numbers raised core) first w.found
    has = present_had world p numbers raised core a r w.found.covered w.found (has_first (Has world p numbers raised core) first asks w.found (stood core g meant.heap meant.left stands left))

    stood_then : Stood world.around.layout known (Has world p numbers raised) asks behind.found
    stood_then c h heap left s u = has_second (Has world p numbers raised c) first asks w.found (stood c h heap left s u)

    fails : (c : Bool) → Follows blocks known world.around place p arguments (At Start e frames core) rest e frames core g raised (more + most) (length w.body.types) meant (failure c 9 fail.Attribute meant) → Reached (failure c 9 fail.Attribute meant)
    fails true h = h
    fails false h = h

    is_one : (v : Meant) (vs : List Meant) → Given known world.around g core args vs → (one : OfFunction known (f ∷ g2 ∷ fs) (operand core.vars a.x) v) → Reached (meant_op known.program w.found.covered row.CallValue (v ∷ vs) meant)
    is_one v vs given one =
        let h : IsMeant p world known f args params result place blocks more one.f = all_meant one.f one.one in
        let went = it.enters p numbers raised arguments (at.ops ++ (call_ops ++ rest)) e frames core has (omega (arith, room, new_long)) (ap is_unset one.low) (ap (λ x. compared x Null) one.low) in
        let mid : Core = went.0 in
        let passed1 : Passed (length w.body.types) core mid = went.2 in
        let room1 = passed1.room in
        let got = at.enters p arguments (call_ops ++ rest) e frames mid (omega (arith, room, new_long, asked_long, room1)) (ap is_unset (went.3 ∙ one.low)) in
        let end : Core = got.mid in
        let passed : Passed (length w.body.types) core end = both_passed (omega (arith, asked_long)) passed1 got.passed in
        let stands_end : Represents world.around.layout known g meant.heap meant.left end.blocks end.statics = subst (λ (c : Core). Represents world.around.layout known g meant.heap meant.left c.blocks c.statics) (sym passed.memory) stands in
        let given_end : Given known world.around g end args vs = given_kept known world.around (length w.body.types) core end grown_none passed.others args vs under.1 given in
        let same_number : one.n ≡ h.number = (let q : Some one.n ≡ Some h.number = sym one.graph ∙ h.graph in cc) in
        let value_is : read end.vars at.x ≡ Fun h.number = got.is ∙ went.3 ∙ one.low ∙ ap Fun same_number in
        let its_is = through_value.through_is world known f at.x args args params h.own result h.given place behind apart comes inside_then takes gives h.alike h.pass h.same h.goes like_itself in
        let mine_is = through_value.through_is world known f at.x args args params params result result place behind apart comes inside_then takes gives (alike_itself world.around.layout params) pass refl goes like_itself in
        let its_ops : List LlOp = through_value.ops world known f at.x args args params h.own result h.given place behind apart comes inside_then takes gives h.alike h.pass h.same h.goes like_itself in
        let its_new : List LlType = through_value.new world known f at.x args args params h.own result h.given place behind apart comes inside_then takes gives h.alike h.pass h.same h.goes like_itself in
        let same_ops : its_ops ≡ call_ops = same_rest behind.body.ops its_ops call_ops (ap (λ (r : Writing). r.body.ops) (sym its_is ∙ mine_is)) in
        let same_new : its_new ≡ call_new = same_rest behind.body.types its_new call_new (ap (λ (r : Writing). r.body.types) (sym its_is ∙ mine_is)) in
        let long_new : length its_new ≡ length call_new = ap length same_new in
        let same_asks : pass_asks world.around.layout args params ≡ pass_asks world.around.layout args h.own = alike_asks world.around.layout args h.own params h.alike in
        let room2 = passed.room in
        let tuples = h.tuples in
        let items = h.items in
        let above : meant_op known.program w.found.covered row.CallValue (v ∷ vs) meant ≡ Enters one.f vs None meant = ap (λ v. meant_op known.program w.found.covered row.CallValue (v ∷ vs) meant) one.high in
        subst Reached (sym above)
        (called_behind (omega (arith, behind_long)) passed (leads_more (0 + 0) 0 (omega arith) (leads_then went.1 got.way))
        (called_more tuples (omega (arith, items))
        (subst (λ os. Called (tuples_of h.own) known world.around place p arguments (At (os ++ rest) e frames end) rest e frames end g (items_of h.own + most) (length behind.body.types) meant one.f vs None meant) same_ops
        (through_value.entered world known f at.x args args params h.own result h.given place behind apart comes inside_then takes gives h.alike h.pass h.same h.goes like_itself
        one.f h.number h.graph h.takes h.gives h.defaults p numbers raised structs h.signed
        (subst (λ asks. Stood world.around.layout known (Has world p numbers raised) asks behind.found) same_asks stood_then)
        (subst (λ t. Stood world.around.layout known (Has world p numbers raised) (asks_for world.around.layout t (type_at world.around place)) (all_asked (pass_asks world.around.layout args h.own) behind.found)) (sym h.same)
        (subst (λ found. Stood world.around.layout known (Has world p numbers raised) later found) (both_asked ∙ ap (λ asks. all_asked asks behind.found) same_asks) later_stood))
        arguments rest e frames end g meant vs most stands_end (left ∙ sym (ap (λ (c : Core). c.steps) passed.memory)) (omega (arith, room, new_long, behind_long, long_new, room2))
        (all_below_more (length w.body.types) (length behind.body.types) (omega (arith, behind_long)) args under.1) given_end
        (at_below under.0) value_is))))
      where
        at_below : IsBelow (length w.body.types) a.x → at.x < length behind.body.types
        at_below h = subst (λ k. at.x < k) (sym (length-append asked.body.types at.new)) (at.inside (subst (λ k. IsBelow k it.x) (sym asked_long) (it.below h)))

    is_none : (v : Meant) (vs : List Meant) → r ≡ true → Gone (missing_function true) a.element (operand core.vars a.x) v → Reached (meant_op known.program w.found.covered row.CallValue (v ∷ vs) meant)
    is_none v vs may gone = subst (λ v. Reached (meant_op known.program w.found.covered row.CallValue (v ∷ vs) meant)) (sym gone.high)
        (fails w.found.covered.attribute (subst (λ os. Follows blocks known world.around place p arguments (At (it.ops ++ os) e frames core) rest e frames core g raised (more + most) (length w.body.types) meant (failure w.found.covered.attribute 9 fail.Attribute meant)) (append_assoc at.ops call_ops rest)
        (it.misses blocks known place p numbers raised arguments (at.ops ++ call_ops) rest e frames core g (more + most) meant has may gone.low)))

    follow : (vs : List Meant) → Given known world.around g core (a ∷ args) vs → Reached (meant_op known.program w.found.covered row.CallValue vs meant)
    follow [] given = absurd given
    follow (v ∷ vs) given = by (function_or_none (f ∷ g2 ∷ fs) r ha given.0)
      where
        by : OfFunction known (f ∷ g2 ∷ fs) (operand core.vars a.x) v ⊎ ((r ≡ true) × Gone (missing_function true) a.element (operand core.vars a.x) v) → Reached (meant_op known.program w.found.covered row.CallValue (v ∷ vs) meant)
        by (inl one) = is_one v vs given.1 one
        by (inr (may, gone)) = is_none v vs may gone

  pub several_done : IsCalledWhere (λ p meant vs. (h : ℕ) → is_one_of (f ∷ g2 ∷ fs) h ≡ true → IsMeant p world known f args params result place blocks more h) blocks more world known row.CallValue w.found.covered (first ++ asks) (λ found. found) later place (a ∷ args) w
  several_done = record {
    ops = ops;
    new = new;
    asked = ap (λ (r : Writing). r.found) is_written ∙ ap (λ f. all_asked later f) (sym both_asked);
    written = ap (λ (r : Writing). r.body.ops) is_written ∙ append_assoc (w.body.ops ++ it.ops) at.ops call_ops ∙ append_assoc w.body.ops it.ops (at.ops ++ call_ops);
    types = ap (λ (r : Writing). r.body.types) is_written ∙ append_assoc (w.body.types ++ it.new) at.new call_new ∙ append_assoc w.body.types it.new (at.new ++ call_new);
    follows = λ p numbers raised structs stood later_stood kept arguments rest e frames core g meant vs stands left room under given good.
        subst (λ os. FollowsOrCalls blocks known world.around place p arguments (At os e frames core) rest e frames core g raised (more + references meant.heap vs) (length w.body.types) meant (meant_op known.program w.found.covered row.CallValue vs meant)) (sym (regroup rest))
        (follow p numbers raised structs stood later_stood arguments rest e frames core g meant (references meant.heap vs) stands left room under good vs given);
  }

pub values_of_several_are_called : ValuesOfSeveralAreCalled
values_of_several_are_called world known f g fs r place a args w params result blocks more apart comes inside ha takes gives pass goes = several_done world known f g fs r place a args w params result blocks more apart comes inside ha takes gives pass goes
