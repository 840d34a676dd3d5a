-- A new instance is made, and its `__init__` is called.
use Rattle.std.proofs.Common.{◌≡◌, ◌≢◌, ◌<◌, ◌≤◌, ℕ, ◌+◌, ◌-◌, Bool, true, false, List, [], ◌∷◌, ◌++◌, length, Option, Some, refl, sym, ap, ◌∙◌, subst, arith, append_assoc, length-append}
use Rattle.std.specs.Prelude.{slice_get, slice_set, cond, nat_lt, if◌then◌else◌}
use Rattle.std.proofs.lemmas.List.{get_or-set_same, get_or-set_other, length-set}
use Rattle.std.proofs.lemmas.Bool.Decides.{nat_tests}
use Rattle.ann_element.specs.declared.element.Element.TheVariants as element
use Rattle.csub_tree.specs.State.{Value, Unset, Ptr, Core}
use Rattle.csub_tree.specs.Statement.{read, operand, operands, any_unset}
use Rattle.csub_tree.specs.declared.stuck.StuckReason.TheVariants.{Unset as IsUnset}
use Rattle.csub_tree.specs.declared.tree.COperand.{COperand}
use Rattle.csub_tree.specs.declared.tree.COperand.TheVariants.{Var, Const}
use Rattle.ll_code.specs.State.{Frame, State, Calling, At, Returning, Goes, Sticks}
use Rattle.ll_code.specs.Machine.{waiting, resumed}
use Rattle.ll_code.specs.declared.program.LlType.{LlType}
use Rattle.ll_code.specs.declared.program.LlType.TheVariants as type
use Rattle.ll_code.specs.declared.program.LlOp.{LlOp}
use Rattle.ll_code.specs.declared.program.LlOp.TheVariants as op
use Rattle.ll_code.specs.declared.program.LlExit.{LlExit}
use Rattle.ll_code.specs.declared.program.LlProgram.{LlProgram}
use Rattle.ll_leads.specs.Memory.{forgotten}
use Rattle.ll_leads.specs.Path.{Leads}
use Rattle.ll_leads.proofs.Joined.{leads_then, leads_more}
use Rattle.ll_leads.proofs.Ways.{on, one}
use Rattle.ll_build.specs.declared.needs.Numbers.{Numbers}
use Rattle.rpy_meaning.specs.Classes.{is_below, first_attributes}
use Rattle.rpy_meaning.specs.Tree.{Function as MeantFunction}
use Rattle.rpy_meaning.specs.declared.row.Covers.{Covers}
use Rattle.rpy_meaning.specs.declared.row.RowOp.TheVariants as row
use Rattle.rpy_meaning.specs.Operations.{op as meant_op, builtin_classes, new_instance, initialised}
use Rattle.rpy_meaning.specs.World.{World as MeantWorld, Answer, Gives, Lacks, Enters, paying as paying_op}
use Rattle.rpy_tree.specs.Value.{Value as Meant, Ref, Instance, Heap}
use Rattle.rpy_resolved.specs.declared.tree.Function.{Function}
use Rattle.rtyper_layout.specs.declared.classes.Laid.{Laid}
use Rattle.rtyper_layout.specs.Layout.{is_tuple}
use Rattle.rtyper_layout.specs.Types.{type_of as type_of_element, type_seen}
use Rattle.rtyper_op.specs.Calls.{argument_if, arguments_from, arguments_for, arguments, number_of}
use Rattle.rtyper_op.specs.Lowering.{is_never, never_comes}
use Rattle.rtyper_data.specs.declared.found.Found.{Found}
use Rattle.rtyper_data.specs.declared.small.Small.{Small}
use Rattle.rtyper_data.specs.declared.small.Small.TheVariants as small
use Rattle.rtyper_data.specs.Converting.{give}
use Rattle.rtyper_data.specs.Finding.{small_number, same_type}
use Rattle.rtyper_data.specs.Seen.{Operand, Place, type_at, kind_of, with_op, fresh, Writing, writing}
use Rattle.rtyper_list.specs.Lowering.{lower_list_op}
use Rattle.rtyper_class.specs.Calls.{call_init, init_if, init_with, new, new_by, new_of, new_into}
use Rattle.rtyper_class.specs.Instances.{builtin_instance}
use Rattle.rtyper_class.specs.Lowering.{lowered, lower_class_op}
use Rattle.rtyper_class.specs.Seen.{World, laid}
use Rattle.lower_laws.specs.Asked.{Ask, Make, all_asked}
use Rattle.lower_laws.specs.Values.{AllBelow}
use Rattle.lower_laws.proofs.Doing.{same_type_is}
use Rattle.object_laws.specs.Done.{HasLayout, references}
use Rattle.object_laws.specs.Ghost.{Ghost, Grown, InstanceOf}
use Rattle.object_laws.specs.Known.{Known}
use Rattle.object_laws.specs.Represents.{Represents}
use Rattle.object_laws.specs.Values.{Holds, Made, Given}
use Rattle.object_laws.proofs.Calling.{back}
use Rattle.object_laws.proofs.Growing.{grown_none, holds_grows}
use Rattle.object_laws.proofs.Held.{call_holds}
use Rattle.object_laws.proofs.Made.{get_first, with_instance, instance_grown, instance_made}
use Rattle.object_laws.proofs.Valued.{made_comes}
use Rattle.conversion_laws.specs.Constants.{AreKept}
use Rattle.conversion_laws.proofs.Cells.{Begins, begins_same}
use Rattle.conversion_laws.proofs.Moving.{grown_both}
use Rattle.class_laws.specs.Asked.{HasClass, Has as HasOther}
use Rattle.class_laws.specs.Classes.{IsOf, IsLaidOut}
use Rattle.class_laws.specs.Starting.{Starts}
use Rattle.class_laws.proofs.Making.{MadeBlock, new_lacks, new_returns}
use Rattle.call_laws.specs.Calls.{AreOthers, IsOther}
use Rattle.call_laws.proofs.Initialised.{init_gives, too_few, are_enough}
use Rattle.passing_laws.specs.Passed.{Moved}
use Rattle.passing_laws.specs.Passing.{pass_asks, tuples_of, items_of}
use Rattle.passing_laws.specs.Standing.{Stood}
use Rattle.passing_laws.proofs.Asking.{passes_stood}
use Rattle.call_conversion_laws.specs.Called.{Has, Passed, Resumes, FollowsOrCalls, IsCalled}
use Rattle.call_conversion_laws.specs.Defaults.{stood_in}
use Rattle.call_conversion_laws.specs.Initialised.{with_self, Initialises, InstancesAreInitialised}
use Rattle.call_conversion_laws.proofs.Arguments.{Arguments, IsLike, arguments_pass}

other_same : (place : Place) (x : COperand) → IsOther place x → (core : Core) (value : Value) (memory : Core) → operand (back core memory (Some place.variable) value).vars x ≡ operand core.vars x
other_same place (Var v) other core value memory = get_or-set_other core.vars place.variable v value Unset other
other_same place (Const c) other core value memory = refl

-- operands are what they were when the variable of the result is set
others_given : (world : World) (known : Known) (place : Place) (args : List Operand) (vs : List Meant) (g ghost : Ghost) (core memory : Core) (value : Value) → AreOthers place args → Grown g ghost → Given known world.around g core args vs → Given known world.around ghost (back core memory (Some place.variable) value) args vs
others_given world known place [] [] g ghost core memory value others grown given = tt
others_given world known place [] (v ∷ vs) g ghost core memory value others grown given = absurd given
others_given world known place (a ∷ args) [] g ghost core memory value others grown given = absurd given
others_given world known place (a ∷ args) (v ∷ vs) g ghost core memory value others grown given = (
  subst (λ x. Holds world.around.layout known ghost a.element x v) (sym (other_same place a.x others.0 core value memory)) (holds_grows grown given.0),
  others_given world known place args vs g ghost core memory value others.1 grown given.1,
)

module _ (world : World) (known : Known) (of : IsOf world known) (out : IsLaidOut world known) (place : Place) (args : List Operand) (w : Writing) (class d f : ℕ) (r : Bool) (l : Laid) (covers : Covers)
    (apart : is_tuple world.around.layout 0 ≡ false) (comes : is_never args ≡ false) (inside : place.variable < length w.body.types)
    (mine : builtin_classes ≤ class) (laid_as : laid world class ≡ Some l) (begin : Starts world known class) (hp : place.element ≡ Some (element.Instance d r)) (below : is_below known.program.classes class d ≡ true) (goes : type_at world.around place ≡ type.Ptr l.root)
    (it : Initialises world known class f args place) (others : AreOthers place args) where
  abbrev graph : Small
  graph = small.New class

  abbrev alloc : ℕ
  alloc = (small_number graph w.found).0

  abbrev number : ℕ
  number = number_of world.around f

  abbrev function : Option Function
  function = slice_get world.around.functions f

  abbrev makes : LlOp
  makes = op.Call (Some place.variable) alloc []

  abbrev all : List Operand
  all = with_self place args

  abbrev result : LlType
  result = type_of_element world.around.layout it.result

  abbrev made_by : Writing
  made_by = writing (small_number graph w.found).1 (with_op makes w.body)

  like_itself : IsLike world.around function all 0 all
  like_itself k t w = ap (λ n. argument_if world.around function (0 + k) (slice_get all n) t w) (let z : 0 + k ≡ k = omega arith in z)

  all_come : is_never all ≡ false
  all_come = ap (λ c. if c then true else is_never args) (ap (λ e. never_comes (kind_of (record { x = Var place.variable; element = e }))) hp ∙ made_comes d r) ∙ comes

  them : Arguments known world.around f all it.here it.missing made_by (arguments_from world.around function all 0 (it.here ++ it.missing) ([], made_by))
  them = arguments_pass known world.around f all all it.here it.missing made_by apart all_come it.pass it.default it.defaults refl like_itself

  abbrev asks : List Ask
  asks = pass_asks world.around.layout all it.here

  abbrev between : Found → Found
  between = stood_in world.around function (length all) it.missing

  abbrev next : Writing
  next = writing (between (all_asked asks made_by.found)) (record { types = w.body.types ++ them.new; ops = made_by.body.ops ++ them.ops })

  abbrev m : ℕ
  m = length next.body.types

  abbrev calls : LlOp
  calls = op.Call (Some m) number them.xs

  m_is : m ≡ length w.body.types + length them.new
  m_is = length-append w.body.types them.new

  no_builtin : nat_lt class builtin_classes ≡ false
  no_builtin = grind (arith, nat_tests, mine)

  init_is : call_init world.around place.variable place f args made_by ≡ writing next.found (with_op calls (fresh result next.body).1)
  unfolding call_init arguments
  init_is =
      ap (λ o. init_with number (type_seen world.around.layout o) (arguments world.around f all made_by)) it.gives
      ∙ ap (λ o. init_with number result (arguments_for world.around o f all made_by)) it.takes
      ∙ ap (λ xs. init_with number result xs) them.is
      ∙ ap (λ body. writing next.found body) (init_gives number result them.xs next.body it.some)

  is_written : lower_class_op world (row.New class) place args w ≡ writing next.found (with_op calls (fresh result next.body).1)
  unfolding lowered new
  is_written =
      ap (λ c. if c then lower_list_op world.around (row.New class) place args w else lowered world (row.New class) place args w) comes
      ∙ ap (λ o. new_by world place class args o w) laid_as
      ∙ ap (λ b. if b then give world.around place (builtin_instance world class) (type.Ptr l.root) w else new_of world place class args (type.Ptr l.root) w) no_builtin
      ∙ ap (λ t. new_into world place class args (small_number graph w.found) (if same_type t (type.Ptr l.root) then (place.variable, w.body) else fresh (type.Ptr l.root) w.body)) goes
      ∙ ap (λ b. new_into world place class args (small_number graph w.found) (if b then (place.variable, w.body) else fresh (type.Ptr l.root) w.body)) (same_type_is (type.Ptr l.root))
      ∙ ap (λ o. init_if world.around place.variable place o args made_by) it.has
      ∙ init_is

  new_long : length (them.new ++ result ∷ []) ≡ length them.new + 1
  new_long = length-append them.new (result ∷ [])

  -- ---- the run

  module _ (p : LlProgram) (numbers : Numbers) (raised : ℕ → Value) (structs : HasLayout p world.around.layout) (stood : Stood world.around.layout known (Has world p numbers raised) (Make graph ∷ asks) w.found) (kept : AreKept p world.around.layout known (lower_class_op world (row.New class) place args w).found)
      (arguments : List (List ℕ)) (rest : List LlOp) (e : LlExit) (frames : List Frame) (core : Core) (g : Ghost) (meant : MeantWorld) (vs : List Meant) (most : ℕ) (some_written : 1 ≤ most)
      (stands : Represents world.around.layout known g meant.heap meant.left core.blocks core.statics) (left : meant.left ≡ core.steps) (room : length w.body.types + length (them.new ++ result ∷ []) ≤ length core.vars) (under : AllBelow (length w.body.types) args) (given : Given known world.around g core args vs) where
    abbrev Behind : List LlOp
    Behind = them.ops ++ (calls ∷ rest)

    abbrev Here : State
    Here = At (makes ∷ Behind) e frames core

    abbrev frame : Frame
    frame = waiting core (Some place.variable) Behind e

    abbrev firsts : List (List ℕ × Meant)
    firsts = first_attributes known.program.classes class

    abbrev at : ℕ
    at = length meant.heap

    abbrev meant2 : MeantWorld
    meant2 = record meant { heap = meant.heap ++ Instance class firsts ∷ []; left = meant.left - 1 }

    abbrev Done : Answer → Type 0
    Done answer = FollowsOrCalls (1 + tuples_of it.here) known world.around place p arguments Here rest e frames core g raised (items_of it.here + most) (length w.body.types) meant answer

    has : HasClass p world raised graph alloc
    has = (stood core g meant.heap meant.left stands left).0

    stood_then : Stood world.around.layout known (Has world p numbers raised) asks made_by.found
    stood_then c h heap left s u = (stood c h heap left s u).1

    enters : Leads p arguments 0 Here [] (Calling alloc [] (frame ∷ frames) core)
    enters = one refl refl

    lacking : meant.left < 1 → Done Lacks
    lacking short =
        let lack = new_lacks world known of out class l laid_as begin p arguments raised alloc has structs g core meant.left left short (frame ∷ frames) in
        record { last = lack.last; leads = on enters lack.leads; ends = lack.ends; blocks = lack.blocks; holds = λ placed b h. call_holds p Behind e frames core (Some place.variable) alloc [] placed b (lack.holds b h) }

    module _ (enough : 1 ≤ meant.left) where
      made : MadeBlock world known class l p arguments alloc g core meant.left (frame ∷ frames)
      made = new_returns world known of out class l laid_as begin p arguments raised alloc has structs g core meant.left left enough (frame ∷ frames)

      abbrev head : Value
      head = Ptr (length core.blocks)

      abbrev memory : Core
      memory = record core { blocks = core.blocks ++ Some (record { kind = l.own; fields = made.fields; items = [] }) ∷ []; steps = meant.left - 1 }

      abbrev mid : Core
      mid = back core memory (Some place.variable) head

      abbrev ghost : Ghost
      ghost = with_instance g class at

      grown : Grown g ghost
      grown = instance_grown g class at

      leaves : Leads p arguments 0 (Returning head (frame ∷ frames) made.end) [] (At Behind e frames mid)
      leaves = subst (λ (c : Core). Leads p arguments 0 (Returning head (frame ∷ frames) made.end) [] (At Behind e frames (back core c (Some place.variable) head))) made.same (one refl refl)

      stands2 : Represents world.around.layout known ghost meant2.heap meant2.left mid.blocks mid.statics
      stands2 = instance_made stands class (meant.left - 1) l made.fields firsts (structs.classes_apart class l laid_as) (omega arith) laid_as made.size_is made.first made.shows

      mid_room : length mid.vars ≡ length core.vars
      mid_room = length-set core.vars place.variable head

      is_head : read mid.vars place.variable ≡ head
      is_head = get_or-set_same core.vars place.variable head Unset (omega (arith, inside, room))

      home : slice_get ghost.homes at ≡ Some (record { sort = InstanceOf class; head = head })
      home = get_first g.homes [] (record { sort = InstanceOf class; head = Ptr (length g.blocks) }) at (sym stands.homes) ∙ ap (λ k. Some (record { sort = InstanceOf class; head = Ptr k })) stands.made

      is_instance : Holds world.around.layout known ghost place.element head (Ref at)
      is_instance = Made d r class at hp refl below home

      given2 : Given known world.around ghost mid all (Ref at ∷ vs)
      given2 = (subst (λ x. Holds world.around.layout known ghost place.element x (Ref at)) (sym is_head) is_instance, others_given world known place args vs g ghost core memory head others grown given)

      begins : Begins next.found.statics (lower_class_op world (row.New class) place args w).found.statics
      begins = subst (λ ss. Begins next.found.statics ss) (sym (ap (λ (r : Writing). r.found.statics) is_written)) (begins_same next.found.statics)

      moved : Moved world.around.layout known p arguments (At Behind e frames mid) (calls ∷ rest) e frames mid ghost meant2.heap meant2.left (length made_by.body.types) (items_of it.here) (tuples_of it.here)
          (λ ghost end. (any_unset (operands end.vars them.xs) ≡ false) × ((function : MeantFunction) → slice_get known.program.functions f ≡ Some function → Passed known world.around function (it.here ++ it.missing) (Ref at ∷ vs) ghost (operands end.vars them.xs)))
      moved = them.follows p numbers raised (lower_class_op world (row.New class) place args w).found structs (passes_stood (HasOther world) world.around.layout p numbers raised known all it.here made_by.found stood_then) begins kept
          arguments (calls ∷ rest) e frames mid ghost meant2.heap meant2.left (Ref at ∷ vs) stands2 refl (omega (arith, room, new_long, mid_room)) (inside, under) given2

      abbrev end : Core
      end = moved.end

      abbrev values : List Value
      values = operands end.vars them.xs

      abbrev frame2 : Frame
      frame2 = waiting end (Some m) rest e

      goes_in : Leads p arguments 0 (At (calls ∷ rest) e frames end) [] (Calling number values (frame2 ∷ frames) end)
      goes_in = one (ap (λ b. cond b (Sticks IsUnset) (Goes (Calling number values (frame2 ∷ frames) end))) moved.fine.0) refl

      apart_from : place.variable ≢ m
      apart_from e = absurd (omega (arith, inside, e, m_is))

      resumes : (later : Core) (g2 : Ghost) (x : Value) (v : Meant) (w2 : MeantWorld) → Grown moved.ghost g2 → Represents world.around.layout known g2 w2.heap w2.left later.blocks later.statics → w2.left ≡ later.steps → Holds world.around.layout known g2 (slice_get world.around.results f) x v
          → Resumes known world.around place p arguments rest e frames core (length w.body.types) frame2 later g2 x (Ref at) w2
      resumes later g2 x v w2 more there steps held = record {
        end = record (resumed frame2 later) { vars = slice_set end.vars m x };
        leads = leads_more 0 _ (omega arith) (one refl refl);
        ghost = g2;
        grown = grown_none;
        stands = there;
        few = omega arith;
        memory = refl;
        holds = subst (λ y. Holds world.around.layout known g2 place.element y (Ref at)) (sym (get_or-set_other end.vars m place.variable x Unset apart_from ∙ moved.others place.variable inside ∙ is_head)) (holds_grows (grown_both moved.grown more) is_instance);
        others = λ n under other. get_or-set_other end.vars m n x Unset (λ e. absurd (omega (arith, under, e, m_is))) ∙ moved.others n under ∙ get_or-set_other core.vars place.variable n head Unset other;
        room = length-set end.vars m x ∙ moved.room ∙ length-set core.vars place.variable head;
        function = moved.function;
        block = moved.block;
      }

      entering : Done (Enters f (Ref at ∷ vs) (Some (Ref at)) meant2)
      entering = record {
        number = number;
        graph = it.graph;
        params = it.here ++ it.missing;
        takes = it.takes;
        xs = values;
        frame = frame2;
        end = end;
        leads = leads_more (0 + (1 + (0 + (items_of it.here + 0)))) (items_of it.here + most) (omega (arith, some_written)) (leads_then enters (leads_then made.way (leads_then leaves (leads_then moved.leads goes_in))));
        ghost = moved.ghost;
        grown = grown_both grown moved.grown;
        stands = moved.stands;
        passed = moved.fine.1;
        few = (let q = length-append core.blocks (Some (record { kind = l.own; fields = made.fields; items = [] }) ∷ []) in let few = moved.few in omega (arith, q, few));
        memory = moved.memory ∙ ap (λ ss. forgotten (record core { blocks = moved.end.blocks; statics = ss; steps = meant.left - 1 })) (sym (ap (λ (c : Core). c.statics) moved.memory));
        out = refl;
        waits = record { left = []; ops = refl; exit = refl; others = λ n under other. moved.others n under ∙ get_or-set_other core.vars place.variable n head Unset other; room = moved.room ∙ length-set core.vars place.variable head; function = moved.function; block = moved.block };
        back = resumes;
      }

    above : meant_op known.program covers (row.New class) vs meant ≡ (if nat_lt meant.left 1 then Lacks else Enters f (Ref at ∷ vs) (Some (Ref at)) meant2)
    above =
        ap (λ b. (if b then (λ (w : MeantWorld). Gives (Ref class) w) else paying_op 1 (new_instance known.program covers class vs)) meant) no_builtin
        ∙ ap (λ o. if nat_lt meant.left 1 then Lacks else initialised known.program covers o (Ref at) vs meant2) it.meant

    either : (c : Bool) → nat_lt meant.left 1 ≡ c → Done (if c then Lacks else Enters f (Ref at ∷ vs) (Some (Ref at)) meant2)
    either true h = lacking (too_few meant.left h)
    either false h = entering (are_enough meant.left h)

    follow : Done (meant_op known.program covers (row.New class) vs meant)
    follow = subst Done (sym above) (either (nat_lt meant.left 1) refl)

  one_at_least : (heap : Heap) (vs : List Meant) → 1 ≤ references heap vs
  one_at_least heap [] = omega arith
  one_at_least heap (v ∷ vs) = omega arith

  init_done : IsCalled (1 + tuples_of it.here) (items_of it.here) world known (row.New class) covers (Make graph ∷ asks) between [] place args w
  init_done = record {
    ops = makes ∷ (them.ops ++ calls ∷ []);
    new = them.new ++ result ∷ [];
    asked = ap (λ (r : Writing). r.found) is_written;
    written = ap (λ (r : Writing). r.body.ops) is_written ∙ append_assoc (w.body.ops ++ makes ∷ []) them.ops (calls ∷ []) ∙ append_assoc w.body.ops (makes ∷ []) (them.ops ++ calls ∷ []);
    types = ap (λ (r : Writing). r.body.types) is_written ∙ append_assoc w.body.types them.new (result ∷ []);
    follows = λ p numbers raised structs stood later_stood kept arguments rest e frames core g meant vs stands left room under given good.
        subst (λ os. FollowsOrCalls (1 + tuples_of it.here) known world.around place p arguments (At (makes ∷ os) e frames core) rest e frames core g raised (items_of it.here + references meant.heap vs) (length w.body.types) meant (meant_op known.program covers (row.New class) vs meant)) (sym (append_assoc them.ops (calls ∷ []) rest))
        (follow p numbers raised structs stood kept arguments rest e frames core g meant vs (references meant.heap vs) (one_at_least meant.heap vs) stands left room under given);
  }

pub instances_are_initialised : InstancesAreInitialised
instances_are_initialised world known of out place args w class d f r l covers apart comes inside mine laid_as begin hp below goes it others = init_done world known of out place args w class d f r l covers apart comes inside mine laid_as begin hp below goes it others
