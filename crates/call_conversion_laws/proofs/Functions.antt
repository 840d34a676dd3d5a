-- A function is called by its name.
use Rattle.std.proofs.Common.{◌≡◌, ◌<◌, ◌≤◌, ℕ, ◌+◌, false, List, [], ◌∷◌, ◌++◌, length, Option, Some, None, refl, sym, ap, ◌∙◌, subst, arith, append_assoc, length-append}
use Rattle.std.specs.Prelude.{cond, slice_get}
use Rattle.ann_element.specs.declared.element.Element.{Element}
use Rattle.csub_tree.specs.State.{Value, Core}
use Rattle.csub_tree.specs.Statement.{operands, any_unset}
use Rattle.csub_tree.specs.declared.stuck.StuckReason.TheVariants.{Unset as IsUnset}
use Rattle.csub_tree.specs.declared.tree.COperand.{COperand}
use Rattle.ll_code.specs.State.{Frame, State, Calling, At, Goes, Sticks}
use Rattle.ll_code.specs.Machine.{waiting}
use Rattle.ll_code.specs.declared.program.LlType.{LlType}
use Rattle.ll_code.specs.declared.program.LlType.TheVariants as type
use Rattle.ll_code.specs.declared.program.LlOp.{LlOp}
use Rattle.ll_code.specs.declared.program.LlOp.TheVariants as op
use Rattle.ll_code.specs.declared.program.LlExit.{LlExit}
use Rattle.ll_code.specs.declared.program.LlProgram.{LlProgram}
use Rattle.ll_leads.specs.Memory.{forgotten}
use Rattle.ll_leads.specs.Path.{Leads}
use Rattle.ll_leads.proofs.Joined.{leads_more, leads_then}
use Rattle.ll_leads.proofs.Ways.{one}
use Rattle.ll_build.specs.declared.needs.Numbers.{Numbers}
use Rattle.rpy_meaning.specs.declared.row.Covers.{Covers}
use Rattle.rpy_meaning.specs.declared.row.RowOp.{RowOp}
use Rattle.rpy_meaning.specs.declared.row.RowOp.TheVariants as row
use Rattle.rpy_meaning.specs.Operations.{op as meant_op}
use Rattle.rpy_meaning.specs.Tree.{Function as MeantFunction}
use Rattle.rpy_meaning.specs.World.{World as MeantWorld, Enters}
use Rattle.rpy_tree.specs.Value.{Value as Meant}
use Rattle.rpy_resolved.specs.declared.tree.Function.{Function}
use Rattle.rtyper_layout.specs.Layout.{is_tuple}
use Rattle.rtyper_layout.specs.Types.{type_of as type_of_element, type_seen}
use Rattle.rtyper_op.specs.Calls.{argument_if, arguments_from, arguments_for, arguments, call, call_giving, number_of}
use Rattle.rtyper_op.specs.Lowering.{is_never}
use Rattle.rtyper_data.specs.declared.found.Found.{Found}
use Rattle.rtyper_data.specs.Seen.{Around, Operand, Place, type_at, Writing, writing}
use Rattle.rtyper_class.specs.Lowering.{lower_class_op}
use Rattle.rtyper_class.specs.Seen.{World}
use Rattle.lower_laws.specs.Asked.{Ask, all_asked}
use Rattle.lower_laws.specs.Values.{AllBelow}
use Rattle.object_laws.specs.Done.{HasLayout, references}
use Rattle.object_laws.specs.Ghost.{Ghost, Grown}
use Rattle.object_laws.specs.Known.{Known}
use Rattle.object_laws.specs.Represents.{Represents}
use Rattle.object_laws.specs.Values.{Holds, Given}
use Rattle.conversion_laws.specs.Asked.{asks_for, Has as HasConversion}
use Rattle.conversion_laws.specs.Constants.{AreKept}
use Rattle.conversion_laws.specs.Going.{Goes as GoesTo}
use Rattle.conversion_laws.proofs.Cells.{Begins, begins_same}
use Rattle.class_laws.specs.Asked.{Has as HasOther}
use Rattle.call_laws.proofs.Called.{class_lowers, list_lowers, op_lowers, of_class_lowers}
use Rattle.passing_laws.specs.Passed.{Moved}
use Rattle.passing_laws.specs.Passing.{AllPass, pass_asks, tuples_of, items_of}
use Rattle.passing_laws.specs.Standing.{Stood}
use Rattle.call_conversion_laws.specs.Called.{Has, Passed, Resumes, Called, FollowsOrCalls, IsCalled}
use Rattle.call_conversion_laws.specs.Calls.{Takes, FunctionsAreCalled}
use Rattle.call_conversion_laws.specs.Defaults.{AllDefault, HasDefaults, stood_in}
use Rattle.call_conversion_laws.proofs.Arguments.{Arguments, IsLike, arguments_pass}
use Rattle.call_conversion_laws.proofs.Resulting.{Lands, call_by, lands}
use Rattle.passing_laws.proofs.Asking.{asks_statics, passes_stood, one_stood}

-- a call is an operation that calls
call_is_by : (around : Around) (place : Place) (number : ℕ) (t : LlType) (xs : List COperand) (w : Writing) → call_giving around place number t (xs, w) ≡ call_by around place (λ into. op.Call into number xs) t w
unfolding call_giving
call_is_by around place number type.Void xs w = refl
call_is_by around place number type.Signed xs w = refl
call_is_by around place number type.Char xs w = refl
call_is_by around place number type.Bool xs w = refl
call_is_by around place number type.Fn xs w = refl
call_is_by around place number (type.Ptr n) xs w = refl

-- ---- what follows the operation that calls, behind what the arguments are converted by

module _ (known : Known) (around : Around) (f number : ℕ) (place : Place) (params : List Element) (result : Element) (graph : known.graph f ≡ Some number) (takes : slice_get around.params f ≡ Some params) (gives : slice_get around.results f ≡ Some result)
    (p : LlProgram) (numbers : Numbers) (raised : ℕ → Value) (structs : HasLayout p around.layout) (calls : Option ℕ → LlOp) (w : Writing) (it : Lands known around place result calls w)
    (later_stood : Stood around.layout known (HasConversion p around.layout numbers raised) (asks_for around.layout (type_of_element around.layout result) (type_at around place)) w.found) where
  abbrev into : Option ℕ
  into = it.into

  module _ (arguments : List (List ℕ)) (rest : List LlOp) (e : LlExit) (frames : List Frame) (core : Core) (g : Ghost) (meant : MeantWorld) (vs : List Meant) (most below more blocks : ℕ) (s : State) (left : meant.left ≡ core.steps) (under : below ≤ length w.body.types) (room : length w.body.types + length it.new ≤ length core.vars)
      (Fine : Ghost → Core → Type 0) (m : Moved around.layout known p arguments s (calls into ∷ (it.after ++ rest)) e frames core g meant.heap meant.left below more blocks Fine)
      (values : List Value) (enters : Leads p arguments 0 (At (calls into ∷ (it.after ++ rest)) e frames m.end) [] (Calling number values (waiting m.end into (it.after ++ rest) e ∷ frames) m.end))
      (passed : (function : MeantFunction) → slice_get known.program.functions f ≡ Some function → Passed known around function params vs m.ghost values) where
    abbrev frame : Frame
    frame = waiting m.end into (it.after ++ rest) e

    resumes : (later : Core) (g2 : Ghost) (x : Value) (v : Meant) (w2 : MeantWorld) → Grown m.ghost g2 → Represents around.layout known g2 w2.heap w2.left later.blocks later.statics → w2.left ≡ later.steps → Holds around.layout known g2 (slice_get around.results f) x v
        → Resumes known around place p arguments rest e frames core below frame later g2 x v w2
    resumes later g2 x v w2 grown stands steps held =
        let room_then = m.room in
        let r = it.back p numbers raised structs later_stood arguments rest e frames m.end later g2 x v w2 (omega (arith, room, room_then)) stands steps (subst (λ seen. Holds around.layout known g2 seen x v) gives held) in
        record {
          end = r.end;
          leads = r.leads;
          ghost = r.ghost;
          grown = r.grown;
          stands = r.stands;
          few = r.few;
          memory = r.memory;
          holds = r.holds;
          others = λ n h other. r.others n (omega (arith, h, under)) other ∙ m.others n h;
          room = r.room ∙ m.room;
          function = r.function ∙ m.function;
          block = r.block ∙ m.block;
        }

    pub calls_it : Called blocks known around place p arguments s rest e frames core g (more + most) below meant f vs None meant
    calls_it = record {
      number = number;
      graph = graph;
      params = params;
      takes = takes;
      xs = values;
      frame = frame;
      end = m.end;
      leads = leads_more (more + 0) (more + most) (omega arith) (leads_then m.leads enters);
      ghost = m.ghost;
      grown = m.grown;
      stands = m.stands;
      passed = passed;
      few = m.few;
      memory = m.memory ∙ ap (λ ss. forgotten (record core { blocks = m.end.blocks; statics = ss })) (sym (ap (λ (c : Core). c.statics) m.memory)) ∙ ap (λ n. forgotten (record core { blocks = m.end.blocks; statics = m.end.statics; steps = n })) (sym left);
      out = refl;
      waits = record { left = it.after; ops = refl; exit = refl; others = λ n h other. m.others n h; room = m.room; function = m.function; block = m.block };
      back = resumes;
    }

-- ---- the call

module _ (world : World) (known : Known) (f : ℕ) (all args : List Operand) (here missing : List Element) (result : Element) (place : Place) (w : Writing) (apart : is_tuple world.around.layout 0 ≡ false) (comes : is_never args ≡ false) (inside : place.variable < length w.body.types)
    (graph : known.graph f ≡ Some (number_of world.around f)) (takes : slice_get world.around.params f ≡ Some (here ++ missing)) (pass : AllPass world.around.layout known args here)
    (default : AllDefault world.around known (slice_get world.around.functions f) (length args) missing) (defaults : HasDefaults known f (slice_get world.around.functions f) (here ++ missing))
    (gives : slice_get world.around.results f ≡ Some result) (goes : GoesTo world.around.layout known (Some result) place.element)
    (same_long : length all ≡ length args) (like : IsLike world.around (slice_get world.around.functions f) all 0 args) where
  abbrev around : Around
  around = world.around

  abbrev function : Option Function
  function = slice_get around.functions f

  abbrev number : ℕ
  number = number_of around f

  pub them : Arguments known around f args here missing w (arguments_from around function all 0 (here ++ missing) ([], w))
  them = arguments_pass known around f all args here missing w apart comes pass default defaults same_long like

  abbrev pub asks : List Ask
  asks = pass_asks around.layout args here

  abbrev pub between : Found
  between = stood_in around function (length args) missing (all_asked asks w.found)

  abbrev next : Writing
  next = writing between (record { types = w.body.types ++ them.new; ops = w.body.ops ++ them.ops })

  abbrev calls : Option ℕ → LlOp
  calls into = op.Call into number them.xs

  types_long : length next.body.types ≡ length w.body.types + length them.new
  types_long = length-append w.body.types them.new

  pub it : Lands known around place result calls next
  it = lands known around place result calls next apart (omega (arith, inside, types_long)) goes

  abbrev pub later : List Ask
  later = asks_for around.layout (type_of_element around.layout result) (type_at around place)

  abbrev pub ops : List LlOp
  ops = them.ops ++ (calls it.into ∷ it.after)

  abbrev pub new : List LlType
  new = them.new ++ it.new

  pub call_is : call around place f all w ≡ writing (all_asked later between) (record { types = w.body.types ++ new; ops = w.body.ops ++ ops })
  unfolding arguments
  call_is =
      ap (λ o. call_giving around place number (type_seen around.layout o) (arguments around f all w)) gives
      ∙ ap (λ o. call_giving around place number (type_of_element around.layout result) (arguments_for around o f all w)) takes
      ∙ ap (λ made. call_giving around place number (type_of_element around.layout result) made) them.is
      ∙ call_is_by around place number (type_of_element around.layout result) them.xs next
      ∙ it.is
      ∙ ap (λ ts. writing (all_asked later between) (record { types = ts; ops = (w.body.ops ++ them.ops) ++ (calls it.into ∷ it.after) })) (append_assoc w.body.types them.new it.new)
      ∙ ap (λ os. writing (all_asked later between) (record { types = w.body.types ++ new; ops = os })) (append_assoc w.body.ops them.ops (calls it.into ∷ it.after))

  new_long : length new ≡ length them.new + length it.new
  new_long = length-append them.new it.new

  module _ (p : LlProgram) (numbers : Numbers) (raised : ℕ → Value) (structs : HasLayout p around.layout) (stood : Stood around.layout known (Has world p numbers raised) asks w.found) (later_stood : Stood around.layout known (Has world p numbers raised) later between) (last : Found) (last_is : last ≡ all_asked later between) (kept : AreKept p around.layout known last)
      (arguments : List (List ℕ)) (rest : List LlOp) (e : LlExit) (frames : List Frame) (core : Core) (g : Ghost) (meant : MeantWorld) (vs : List Meant) (most : ℕ) (stands : Represents around.layout known g meant.heap meant.left core.blocks core.statics) (left : meant.left ≡ core.steps)
      (room : length w.body.types + length new ≤ length core.vars) (below : AllBelow (length w.body.types) args) (given : Given known around g core args vs) where
    begins : Begins between.statics last.statics
    begins = subst (λ ss. Begins between.statics ss) (sym (ap (λ (f : Found). f.statics) last_is ∙ asks_statics later between)) (begins_same between.statics)

    m : Moved around.layout known p arguments (At (them.ops ++ (calls it.into ∷ (it.after ++ rest))) e frames core) (calls it.into ∷ (it.after ++ rest)) e frames core g meant.heap meant.left (length w.body.types) (items_of here) (tuples_of here)
        (λ ghost end. (any_unset (operands end.vars them.xs) ≡ false) × ((function : MeantFunction) → slice_get known.program.functions f ≡ Some function → Passed known around function (here ++ missing) vs ghost (operands end.vars them.xs)))
    m = them.follows p numbers raised last structs (passes_stood (HasOther world) around.layout p numbers raised known args here w.found stood) begins kept arguments (calls it.into ∷ (it.after ++ rest)) e frames core g meant.heap meant.left vs stands left (omega (arith, room, new_long)) below given

    abbrev values : List Value
    values = operands m.end.vars them.xs

    enters : Leads p arguments 0 (At (calls it.into ∷ (it.after ++ rest)) e frames m.end) [] (Calling number values (waiting m.end it.into (it.after ++ rest) e ∷ frames) m.end)
    enters = one (ap (λ b. cond b (Sticks IsUnset) (Goes (Calling number values (waiting m.end it.into (it.after ++ rest) e ∷ frames) m.end))) m.fine.0) refl

    pub entered : Called (tuples_of here) known around place p arguments (At (ops ++ rest) e frames core) rest e frames core g (items_of here + most) (length w.body.types) meant f vs None meant
    entered = subst (λ os. Called (tuples_of here) known around place p arguments (At os e frames core) rest e frames core g (items_of here + most) (length w.body.types) meant f vs None meant) (sym (append_assoc them.ops (calls it.into ∷ it.after) rest))
        (calls_it known around f number place (here ++ missing) result graph takes gives p numbers raised structs calls next it (one_stood (HasOther world) around.layout p numbers raised known (type_of_element around.layout result) (type_at around place) between later_stood)
        arguments rest e frames core g meant vs most (length w.body.types) (items_of here) (tuples_of here) (At (them.ops ++ (calls it.into ∷ (it.after ++ rest))) e frames core) left (omega (arith, types_long)) (omega (arith, room, new_long, types_long))
        _ m values enters m.fine.1)

-- ---- which operations

module _ (world : World) (known : Known) (f : ℕ) (place : Place) (args : List Operand) (w : Writing) (apart : is_tuple world.around.layout 0 ≡ false) (comes : is_never args ≡ false) (inside : place.variable < length w.body.types) (takes : Takes world known f args place) where
  pub like_itself : IsLike world.around (slice_get world.around.functions f) args 0 args
  like_itself k t w = ap (λ n. argument_if world.around (slice_get world.around.functions f) (0 + k) (slice_get args n) t w) (let z : 0 + k ≡ k = omega arith in z)

  abbrev pub its_ops : List LlOp
  its_ops = ops world known f args args takes.here takes.missing takes.result place w apart comes inside takes.graph takes.takes takes.pass takes.default takes.defaults takes.gives takes.goes refl like_itself

  abbrev pub its_new : List LlType
  its_new = new world known f args args takes.here takes.missing takes.result place w apart comes inside takes.graph takes.takes takes.pass takes.default takes.defaults takes.gives takes.goes refl like_itself

  abbrev pub its_between : Found
  its_between = stood_in world.around (slice_get world.around.functions f) (length args) takes.missing (all_asked (pass_asks world.around.layout args takes.here) w.found)

  abbrev pub its_later : List Ask
  its_later = asks_for world.around.layout (type_of_element world.around.layout takes.result) (type_at world.around place)

  pub is_call : call world.around place f args w ≡ writing (all_asked its_later its_between) (record { types = w.body.types ++ its_new; ops = w.body.ops ++ its_ops })
  is_call = call_is world known f args args takes.here takes.missing takes.result place w apart comes inside takes.graph takes.takes takes.pass takes.default takes.defaults takes.gives takes.goes refl like_itself

  module _ (p : LlProgram) (numbers : Numbers) (raised : ℕ → Value) (structs : HasLayout p world.around.layout) (stood : Stood world.around.layout known (Has world p numbers raised) (pass_asks world.around.layout args takes.here) w.found) (later_stood : Stood world.around.layout known (Has world p numbers raised) its_later its_between)
      (last : Found) (last_is : last ≡ all_asked its_later its_between) (kept : AreKept p world.around.layout known last) where
    pub its_entered : (arguments : List (List ℕ)) (rest : List LlOp) (e : LlExit) (frames : List Frame) (core : Core) (g : Ghost) (meant : MeantWorld) (vs : List Meant) (most : ℕ) → Represents world.around.layout known g meant.heap meant.left core.blocks core.statics → meant.left ≡ core.steps
        → length w.body.types + length its_new ≤ length core.vars → AllBelow (length w.body.types) args → Given known world.around g core args vs
        → Called (tuples_of takes.here) known world.around place p arguments (At (its_ops ++ rest) e frames core) rest e frames core g (items_of takes.here + most) (length w.body.types) meant f vs None meant
    its_entered = entered world known f args args takes.here takes.missing takes.result place w apart comes inside takes.graph takes.takes takes.pass takes.default takes.defaults takes.gives takes.goes refl like_itself p numbers raised structs stood later_stood last last_is kept

  pub call_done : (o : RowOp) (covers : Covers) → lower_class_op world o place args w ≡ call world.around place f args w → ((vs : List Meant) (meant : MeantWorld) → meant_op known.program covers o vs meant ≡ Enters f vs None meant)
      → IsCalled (tuples_of takes.here) (items_of takes.here) world known o covers (pass_asks world.around.layout args takes.here) (stood_in world.around (slice_get world.around.functions f) (length args) takes.missing) its_later place args w
  call_done o covers lowers means = record {
    ops = its_ops;
    new = its_new;
    asked = ap (λ (r : Writing). r.found) (lowers ∙ is_call);
    written = ap (λ (r : Writing). r.body.ops) (lowers ∙ is_call);
    types = ap (λ (r : Writing). r.body.types) (lowers ∙ is_call);
    follows = λ p numbers raised structs stood later_stood kept arguments rest e frames core g meant vs stands left room under given good.
        subst (λ answer. FollowsOrCalls (tuples_of takes.here) known world.around place p arguments (At (its_ops ++ rest) e frames core) rest e frames core g raised (items_of takes.here + references meant.heap vs) (length w.body.types) meant answer) (sym (means vs meant))
        (its_entered p numbers raised structs stood later_stood (lower_class_op world o place args w).found (ap (λ (r : Writing). r.found) (lowers ∙ is_call)) kept arguments rest e frames core g meant vs (references meant.heap vs) stands left room under given);
  }

pub calls_are_done : FunctionsAreCalled row.Call
calls_are_done world known f place args w covers apart comes inside takes =
    call_done world known f place args w apart comes inside takes (row.Call f) covers (class_lowers world f place args w comes ∙ list_lowers world.around f place args w comes ∙ op_lowers world.around f place args w comes) (λ vs meant. refl)

pub calls_of_classes_are_done : (class : ℕ) → FunctionsAreCalled (row.CallOf class)
calls_of_classes_are_done class world known f place args w covers apart comes inside takes =
    call_done world known f place args w apart comes inside takes (row.CallOf class f) covers (of_class_lowers world class f place args w comes) (λ vs meant. refl)
