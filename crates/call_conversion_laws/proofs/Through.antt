-- A call through a value, with arguments and a result that are converted.
use Rattle.std.proofs.Common.{◌≡◌, ◌<◌, ◌≤◌, ℕ, suc, ◌+◌, ◌||◌, true, false, List, [], ◌∷◌, ◌++◌, length, map, Option, Some, None, refl, sym, ap, ◌∙◌, subst, arith, append_assoc, length-append}
use Rattle.std.specs.Prelude.{cond, slice_get, ◌&&◌, option_map}
use Rattle.std.proofs.lemmas.List.{append-nil}
use Rattle.ann_element.specs.declared.element.Element.{Element}
use Rattle.csub_tree.specs.State.{Value, Fun, Core}
use Rattle.csub_tree.specs.Operation.{is_unset}
use Rattle.csub_tree.specs.Statement.{read, operands, any_unset, fun_of, same_result, same_types}
use Rattle.csub_tree.specs.declared.stuck.StuckReason.TheVariants.{Unset as IsUnset, Signature}
use Rattle.csub_tree.specs.declared.tree.COperand.{COperand}
use Rattle.ll_code.specs.State.{Frame, Calling, At, Goes, Sticks}
use Rattle.ll_code.specs.Machine.{waiting, called_as, called_value, c_result, c_type, param_types}
use Rattle.ll_code.specs.declared.program.LlType.{LlType}
use Rattle.ll_code.specs.declared.program.LlType.TheVariants as type
use Rattle.ll_code.specs.declared.program.LlOp.{LlOp}
use Rattle.ll_code.specs.declared.program.LlOp.TheVariants as op
use Rattle.ll_code.specs.declared.program.LlExit.{LlExit}
use Rattle.ll_code.specs.declared.program.LlProgram.{LlProgram}
use Rattle.ll_leads.specs.Path.{Leads}
use Rattle.ll_leads.proofs.Ways.{one}
use Rattle.ll_build.specs.declared.needs.Numbers.{Numbers}
use Rattle.rpy_meaning.specs.Evaluation.{parameters}
use Rattle.rpy_meaning.specs.Operations.{constant as meant_of}
use Rattle.rpy_meaning.specs.Tree.{Function as MeantFunction}
use Rattle.rpy_meaning.specs.World.{World as MeantWorld}
use Rattle.rpy_tree.specs.Value.{Value as Meant}
use Rattle.rtyper_layout.specs.declared.layout.Layout.{Layout}
use Rattle.rtyper_layout.specs.Layout.{is_tuple}
use Rattle.rtyper_layout.specs.Types.{type_of as type_of_element, type_seen}
use Rattle.rtyper_op.specs.Calls.{arguments_from, arguments_for, arguments}
use Rattle.rtyper_op.specs.Lowering.{is_never}
use Rattle.rtyper_data.specs.Converting.{given}
use Rattle.rtyper_data.specs.Seen.{Around, Operand, Place, type_at, Writing, writing}
use Rattle.rtyper_data.specs.Tuples.{with_first}
use Rattle.rtyper_class.specs.Calls.{indirect, indirect_giving, param_types as types_like}
use Rattle.rtyper_class.specs.Seen.{World}
use Rattle.lower_laws.specs.Asked.{Ask, all_asked}
use Rattle.lower_laws.specs.Values.{AllBelow}
use Rattle.object_laws.specs.Done.{HasLayout}
use Rattle.object_laws.specs.Ghost.{Ghost}
use Rattle.object_laws.specs.Known.{Known}
use Rattle.object_laws.specs.Represents.{Represents}
use Rattle.object_laws.specs.Values.{AllHold, Given}
use Rattle.conversion_laws.specs.Asked.{asks_for}
use Rattle.conversion_laws.specs.Going.{Goes as GoesTo}
use Rattle.class_laws.specs.Asked.{Has as HasOther}
use Rattle.call_laws.specs.Indirect.{IsSigned}
use Rattle.passing_laws.specs.Passed.{Moved, ArePassed}
use Rattle.passing_laws.specs.Passing.{AllPass, each_given, pass_asks, tuples_of, items_of}
use Rattle.passing_laws.specs.Standing.{Stood}
use Rattle.passing_laws.proofs.Asking.{passes_stood, one_stood}
use Rattle.passing_laws.proofs.Operands.{operands_are_passed}
use Rattle.call_conversion_laws.specs.Called.{Has, Passed, Called}
use Rattle.call_conversion_laws.specs.Defaults.{HasDefaults, defaults_of}
use Rattle.call_conversion_laws.specs.Several.{AllAlike}
use Rattle.call_conversion_laws.proofs.Arguments.{IsLike, AllTo, all_to, given_arguments, pass_long, given_long, all_set}
use Rattle.call_conversion_laws.proofs.Functions.{calls_it}
use Rattle.call_conversion_laws.proofs.Resulting.{Lands, call_by, lands}
use Rattle.call_conversion_laws.proofs.Standing.{all_parameters}

-- ---- elements of the same types

alike_given : (around : Around) (args : List Operand) (es fs : List Element) (w : Writing) → AllAlike around.layout es fs → each_given around args fs w ≡ each_given around args es w
alike_given around [] es fs w alike = refl
alike_given around (a ∷ args) [] [] w alike = refl
alike_given around (a ∷ args) [] (f ∷ fs) w alike = absurd alike
alike_given around (a ∷ args) (e ∷ es) [] w alike = absurd alike
alike_given around (a ∷ args) (e ∷ es) (f ∷ fs) w alike =
    let made : COperand × Writing = given around a (type_of_element around.layout e) w in
    ap (λ t. with_first (given around a t w) (λ next. each_given around args fs next)) (sym alike.0) ∙ ap (λ (r : List COperand × Writing). (made.0 ∷ r.0, r.1)) (alike_given around args es fs made.1 alike.1)

alike_long : (layout : Layout) (es fs : List Element) → AllAlike layout es fs → length es ≡ length fs
alike_long layout [] [] alike = refl
alike_long layout [] (f ∷ fs) alike = absurd alike
alike_long layout (e ∷ es) [] alike = absurd alike
alike_long layout (e ∷ es) (f ∷ fs) alike = ap suc (alike_long layout es fs alike.1)

alike_to : (around : Around) (es fs : List Element) → AllAlike around.layout es fs → AllTo around es → AllTo around fs
alike_to around [] [] alike to = tt
alike_to around [] (f ∷ fs) alike to = absurd alike
alike_to around (e ∷ es) [] alike to = absurd alike
alike_to around (e ∷ es) (f ∷ fs) alike to = ((λ h. to.0 (alike.0 ∙ h)), alike_to around es fs alike.1 to.1)

pub alike_asks : (layout : Layout) (args : List Operand) (es fs : List Element) → AllAlike layout es fs → pass_asks layout args fs ≡ pass_asks layout args es
alike_asks layout [] es fs alike = refl
alike_asks layout (a ∷ args) [] [] alike = refl
alike_asks layout (a ∷ args) [] (f ∷ fs) alike = absurd alike
alike_asks layout (a ∷ args) (e ∷ es) [] alike = absurd alike
alike_asks layout (a ∷ args) (e ∷ es) (f ∷ fs) alike =
    ap (λ t. asks_for layout (type_seen layout a.element) t ++ pass_asks layout args fs) (sym alike.0) ∙ ap (λ asks. asks_for layout (type_seen layout a.element) (type_of_element layout e) ++ asks) (alike_asks layout args es fs alike.1)

pub alike_itself : (layout : Layout) (es : List Element) → AllAlike layout es es
alike_itself layout [] = tt
alike_itself layout (e ∷ es) = (refl, alike_itself layout es)

-- ---- what is written

through_is_by : (around : Around) (place : Place) (v : ℕ) (kinds : List LlType) (t : LlType) (xs : List COperand) (w : Writing) → indirect_giving around place v kinds t (xs, w) ≡ call_by around place (λ into. op.CallFn into t kinds v xs) t w
unfolding indirect_giving
through_is_by around place v kinds type.Void xs w = refl
through_is_by around place v kinds type.Signed xs w = refl
through_is_by around place v kinds type.Char xs w = refl
through_is_by around place v kinds type.Bool xs w = refl
through_is_by around place v kinds type.Fn xs w = refl
through_is_by around place v kinds (type.Ptr n) xs w = refl

module _ (world : World) (known : Known) (like v : ℕ) (all mine : List Operand) (params own : List Element) (result given : Element) (place : Place) (w : Writing) (apart : is_tuple world.around.layout 0 ≡ false) (comes : is_never mine ≡ false) (inside : place.variable < length w.body.types)
    (takes_like : slice_get world.around.params like ≡ Some params) (gives_like : slice_get world.around.results like ≡ Some result) (alike : AllAlike world.around.layout own params) (pass : AllPass world.around.layout known mine own)
    (same : type_of_element world.around.layout given ≡ type_of_element world.around.layout result) (goes : GoesTo world.around.layout known (Some given) place.element) (as_like : IsLike world.around (slice_get world.around.functions like) all 0 mine) where
  abbrev around : Around
  around = world.around

  abbrev t : LlType
  t = type_of_element around.layout result

  abbrev kinds : List LlType
  kinds = types_like around like

  pub them : ArePassed known around mine own w
  them = operands_are_passed known around mine own w apart pass

  abbrev asks : List Ask
  asks = pass_asks around.layout mine own

  abbrev next : Writing
  next = writing (all_asked asks w.found) (record { types = w.body.types ++ them.new; ops = w.body.ops ++ them.ops })

  abbrev calls : Option ℕ → LlOp
  calls into = op.CallFn into t kinds v them.xs

  types_long : length next.body.types ≡ length w.body.types + length them.new
  types_long = length-append w.body.types them.new

  pub it : Lands known around place given calls next
  it = lands known around place given calls next apart (omega (arith, inside, types_long)) goes

  abbrev later : List Ask
  later = asks_for around.layout (type_of_element around.layout given) (type_at around place)

  abbrev pub ops : List LlOp
  ops = them.ops ++ (calls it.into ∷ it.after)

  abbrev pub new : List LlType
  new = them.new ++ it.new

  own_long : length mine ≡ length params
  own_long = pass_long around.layout known mine own pass ∙ alike_long around.layout own params alike

  arguments_are : arguments around like all w ≡ (them.xs, next)
  unfolding arguments
  arguments_are =
      ap (λ o. arguments_for around o like all w) takes_like
      ∙ ap (λ ps. arguments_from around (slice_get around.functions like) all 0 ps ([], w)) (sym (append-nil params))
      ∙ given_arguments around (slice_get around.functions like) all [] 0 params mine [] w own_long as_like (alike_to around own params alike (all_to around known mine own comes pass))
      ∙ alike_given around mine own params w alike
      ∙ them.is

  pub through_is : indirect around place v like all w ≡ writing (all_asked later (all_asked asks w.found)) (record { types = w.body.types ++ new; ops = w.body.ops ++ ops })
  unfolding indirect
  through_is =
      ap (λ o. indirect_giving around place v kinds (type_seen around.layout o) (arguments around like all w)) gives_like
      ∙ ap (λ made. indirect_giving around place v kinds t made) arguments_are
      ∙ through_is_by around place v kinds t them.xs next
      ∙ ap (λ u. call_by around place calls u next) (sym same)
      ∙ it.is
      ∙ ap (λ ts. writing (all_asked later (all_asked asks w.found)) (record { types = ts; ops = (w.body.ops ++ them.ops) ++ (calls it.into ∷ it.after) })) (append_assoc w.body.types them.new it.new)
      ∙ ap (λ os. writing (all_asked later (all_asked asks w.found)) (record { types = w.body.types ++ new; ops = os })) (append_assoc w.body.ops them.ops (calls it.into ∷ it.after))

  new_long : length new ≡ length them.new + length it.new
  new_long = length-append them.new it.new

  -- ---- the run

  module _ (f number : ℕ) (graph : known.graph f ≡ Some number) (takes : slice_get around.params f ≡ Some own) (gives : slice_get around.results f ≡ Some given) (defaults : HasDefaults known f (slice_get around.functions f) own)
      (p : LlProgram) (numbers : Numbers) (raised : ℕ → Value) (structs : HasLayout p around.layout) (signed : IsSigned p around like number) (stood : Stood around.layout known (Has world p numbers raised) asks w.found) (later_stood : Stood around.layout known (Has world p numbers raised) later (all_asked asks w.found))
      (arguments : List (List ℕ)) (rest : List LlOp) (e : LlExit) (frames : List Frame) (core : Core) (g : Ghost) (meant : MeantWorld) (vs : List Meant) (most : ℕ) (stands : Represents around.layout known g meant.heap meant.left core.blocks core.statics) (left : meant.left ≡ core.steps)
      (room : length w.body.types + length new ≤ length core.vars) (below : AllBelow (length w.body.types) mine) (given_mine : Given known around g core mine vs) (v_inside : v < length w.body.types) (v_is : read core.vars v ≡ Fun number) where
    m : Moved around.layout known p arguments (At (them.ops ++ (calls it.into ∷ (it.after ++ rest))) e frames core) (calls it.into ∷ (it.after ++ rest)) e frames core g meant.heap meant.left (length w.body.types) (items_of own) (tuples_of own) (λ ghost end. AllHold around.layout known ghost own (operands end.vars them.xs) vs)
    m = them.follows p numbers raised arguments (calls it.into ∷ (it.after ++ rest)) e frames core g meant.heap meant.left vs structs (passes_stood (HasOther world) around.layout p numbers raised known mine own w.found stood) stands left (omega (arith, room, new_long)) below given_mine

    abbrev values : List Value
    values = operands m.end.vars them.xs

    abbrev frame : Frame
    frame = waiting m.end it.into (it.after ++ rest) e

    fits : (same_result (c_result signed.graph.result) (c_result t) && same_types (param_types signed.graph) (map c_type kinds)) ≡ true
    fits = subst (λ o. (same_result (c_result signed.graph.result) (c_result (type_seen around.layout o)) && same_types (param_types signed.graph) (map c_type kinds)) ≡ true) gives_like signed.fits

    enters : Leads p arguments 0 (At (calls it.into ∷ (it.after ++ rest)) e frames m.end) [] (Calling number values (frame ∷ frames) m.end)
    enters = one (
        ap (λ f. cond (is_unset f || any_unset values) (Sticks IsUnset) (called_value p (c_result t) (map c_type kinds) (fun_of f) values (frame ∷ frames) m.end)) (m.others v v_inside ∙ v_is)
        ∙ ap (λ b. cond b (Sticks IsUnset) (called_as (c_result t) (map c_type kinds) number values (frame ∷ frames) m.end (slice_get p.graphs number))) (all_set m.stands m.fine)
        ∙ ap (λ o. called_as (c_result t) (map c_type kinds) number values (frame ∷ frames) m.end o) signed.is
        ∙ ap (λ b. cond b (Goes (Calling number values (frame ∷ frames) m.end)) (Sticks Signature)) fits) refl

    passed : (function : MeantFunction) → slice_get known.program.functions f ≡ Some function → Passed known around function own vs m.ghost values
    passed meant is = record {
      all = vs;
      are = ap (λ ds. parameters ds vs) (defaults.same meant is) ∙ all_parameters (map (option_map (meant_of known.program.sites)) (defaults_of (slice_get around.functions f))) vs [] long (λ k u h. absurd (cc)) ∙ ap Some (append-nil vs);
      hold = m.fine;
    }
      where
        map_long : {A B : Type 0} (h : A → B) (xs : List A) → length (map h xs) ≡ length xs
        map_long h [] = refl
        map_long h (x ∷ xs) = ap suc (map_long h xs)

        long : length (map (option_map (meant_of known.program.sites)) (defaults_of (slice_get around.functions f))) ≡ length vs + 0
        long = map_long (option_map (meant_of known.program.sites)) (defaults_of (slice_get around.functions f)) ∙ defaults.long ∙ (let a = pass_long around.layout known mine own pass in let b = given_long known around g core mine vs given_mine in omega (arith, a, b))

    pub entered : Called (tuples_of own) known around place p arguments (At (ops ++ rest) e frames core) rest e frames core g (items_of own + most) (length w.body.types) meant f vs None meant
    entered = subst (λ os. Called (tuples_of own) known around place p arguments (At os e frames core) rest e frames core g (items_of own + most) (length w.body.types) meant f vs None meant) (sym (append_assoc them.ops (calls it.into ∷ it.after) rest))
        (calls_it known around f number place own given graph takes gives p numbers raised structs calls next it (one_stood (HasOther world) around.layout p numbers raised known (type_of_element around.layout given) (type_at around place) (all_asked asks w.found) later_stood)
        arguments rest e frames core g meant vs most (length w.body.types) (items_of own) (tuples_of own) (At (them.ops ++ (calls it.into ∷ (it.after ++ rest))) e frames core) left (omega (arith, types_long)) (omega (arith, room, new_long, types_long))
        _ m values enters passed)
