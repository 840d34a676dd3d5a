-- A function is called by its name.
use Rattle.std.proofs.Common.{◌≡◌, ◌<◌, ℕ, ◌+◌, ◌==◌, Bool, true, false, List, [], ◌∷◌, length, Option, Some, None, refl, sym, ap, ◌∙◌, subst, arith}
use Rattle.std.specs.Prelude.{cond, slice_get, slice_set, unwrap_or, if◌then◌else◌}
use Rattle.std.proofs.lemmas.Bool.Decides.{nat_tests}
use Rattle.std.proofs.lemmas.List.{append-nil, get_or-set_same, get_or-set_other, length-set}
use Rattle.ann_element.specs.declared.element.Element.{Element}
use Rattle.csub_tree.specs.State.{Value, Unset, Core}
use Rattle.csub_tree.specs.Statement.{any_unset}
use Rattle.csub_tree.specs.declared.stuck.StuckReason.TheVariants.{Unset as IsUnset}
use Rattle.csub_tree.specs.declared.tree.COperand.{COperand}
use Rattle.csub_tree.specs.declared.tree.COperand.TheVariants.{Var}
use Rattle.ll_code.specs.State.{Frame, State, Calling, At, Goes, Sticks}
use Rattle.ll_code.specs.Machine.{waiting, resumed}
use Rattle.ll_code.specs.declared.program.LlType.{LlType}
use Rattle.ll_code.specs.declared.program.LlType.TheVariants as type
use Rattle.ll_code.specs.declared.program.LlOp.{LlOp}
use Rattle.ll_code.specs.declared.program.LlOp.TheVariants as op
use Rattle.ll_code.specs.declared.program.LlExit.{LlExit}
use Rattle.ll_code.specs.declared.program.LlProgram.{LlProgram}
use Rattle.ll_leads.specs.Memory.{forgotten}
use Rattle.ll_leads.specs.Path.{Leads}
use Rattle.ll_leads.proofs.Joined.{leads_more, leads_then}
use Rattle.ll_leads.proofs.Ways.{one}
use Rattle.rpy_meaning.specs.declared.row.Covers.{Covers}
use Rattle.rpy_meaning.specs.declared.row.RowOp.{RowOp}
use Rattle.rpy_meaning.specs.declared.row.RowOp.TheVariants as row
use Rattle.rpy_meaning.specs.Operations.{op as meant_op}
use Rattle.rpy_meaning.specs.World.{World as MeantWorld, Enters}
use Rattle.rpy_tree.specs.Value.{Value as Meant}
use Rattle.rtyper_layout.specs.Types.{type_of as type_of_element, type_seen}
use Rattle.rtyper_op.specs.Calls.{arguments, call, call_giving, number_of}
use Rattle.rtyper_op.specs.Lowering.{lower_op, is_never}
use Rattle.rtyper_op.specs.Placing.{says_nothing}
use Rattle.rtyper_data.specs.declared.body.Body.{Body}
use Rattle.rtyper_data.specs.declared.found.Found.{Found}
use Rattle.rtyper_data.specs.Converting.{give, landing, landed}
use Rattle.rtyper_data.specs.Finding.{same_type}
use Rattle.rtyper_data.specs.Seen.{Around, Operand, Place, type_at, with_op, fresh, Writing, writing}
use Rattle.rtyper_list.specs.Lowering.{lower_list_op, lowered as list_lowered, of_one as list_of_one, of_two as list_of_two, of_three as list_of_three, of_some as list_of_some, other as list_other, first_of_one, first_of_two, second_of_two, first_of_three}
use Rattle.rtyper_list.specs.Operands.{is_list}
use Rattle.rtyper_class.specs.Lowering.{lowered, lower_class_op, of_some, of_one, of_two, other}
use Rattle.rtyper_class.specs.Seen.{World}
use Rattle.lower_laws.proofs.Doing.{same_type_is}
use Rattle.object_laws.specs.Done.{references}
use Rattle.object_laws.specs.Ghost.{Ghost, Grown}
use Rattle.object_laws.specs.Known.{Known}
use Rattle.object_laws.specs.Represents.{Represents}
use Rattle.object_laws.specs.Staying.{Stays}
use Rattle.object_laws.specs.Values.{Holds, AllHold}
use Rattle.object_laws.proofs.Growing.{grown_none}
use Rattle.object_laws.proofs.Passing.{Passed}
use Rattle.object_laws.proofs.Valued.{stays_typed, stays_there, stays_held}
use Rattle.call_laws.specs.Calls.{Takes, FunctionsAreCalled}
use Rattle.call_laws.specs.Done.{IsEntered}
use Rattle.call_laws.specs.Entered.{Resumes, Entered, FollowsOrEnters}
use Rattle.call_laws.specs.Indirect.{AllTyped}
use Rattle.call_laws.proofs.Passed.{xs_of, values_of, all_typed, all_come, passed_as_they_are, all_passed, all_set}

-- ---- what is written

place_is : (n : ℕ) → (n == n) ≡ true
place_is n = grind (arith, nat_tests)

pub lands_place : (around : Around) (place : Place) (gives : LlType) (o : ℕ → LlOp) (found : Found) (body : Body) → type_at around place ≡ gives → landed around place gives o found (landing around place gives body) ≡ writing found (with_op (o place.variable) body)
lands_place around place gives o found body h =
    ap (λ t. landed around place gives o found (if same_type t gives then (place.variable, body) else fresh gives body)) h
    ∙ ap (λ b. landed around place gives o found (if b then (place.variable, body) else fresh gives body)) (same_type_is gives)
    ∙ ap (λ b. if b then writing found (with_op (o place.variable) body) else give around place (Var place.variable) gives (writing found (with_op (o place.variable) body))) (place_is place.variable)

-- a result that has a type goes to the place
call_gives : (around : Around) (place : Place) (number : ℕ) (t : LlType) (xs : List COperand) (w : Writing) → (t ≡ type.Void → ⊥) → type_at around place ≡ t → call_giving around place number t (xs, w) ≡ writing w.found (with_op (op.Call (Some place.variable) number xs) w.body)
unfolding call_giving
call_gives around place number type.Void xs w there typed = absurd (there refl)
call_gives around place number t xs w there typed = lands_place around place t (λ v. op.Call (Some v) number xs) w.found w.body typed

-- ---- what follows the call of a graph, by whichever operation

module _ (known : Known) (around : Around) (f number : ℕ) (place : Place) (params : List Element) (result : Element) (graph : known.graph f ≡ Some number) (takes : slice_get around.params f ≡ Some params)
    (gives : slice_get around.results f ≡ Some result) (goes : Stays around.layout known (Some result) place.element)
    (p : LlProgram) (arguments : List (List ℕ)) (rest : List LlOp) (e : LlExit) (frames : List Frame) (core : Core) (g : Ghost) (meant : MeantWorld) (vs : List Meant) (most below : ℕ)
    (stands : Represents around.layout known g meant.heap meant.left core.blocks core.statics) (left : meant.left ≡ core.steps) (inside : place.variable < length core.vars)
    (calls : LlOp) (values : List Value) (enters : Leads p arguments 0 (At (calls ∷ rest) e frames core) [] (Calling number values (waiting core (Some place.variable) rest e ∷ frames) core))
    (passed : AllHold around.layout known g params values vs) where
  abbrev frame : Frame
  frame = waiting core (Some place.variable) rest e

  resumes : (later : Core) (g2 : Ghost) (x : Value) (v : Meant) → Grown g g2 → Holds around.layout known g2 (slice_get around.results f) x v → Resumes known around place p arguments rest e frames core below frame later g2 x v
  resumes later g2 x v grown held = record {
    end = record (resumed frame later) { vars = slice_set core.vars place.variable x };
    leads = one refl refl;
    memory = refl;
    holds = subst (λ y. Holds around.layout known g2 place.element y v) (sym (get_or-set_same core.vars place.variable x Unset inside)) (stays_held goes (subst (λ seen. Holds around.layout known g2 seen x v) gives held));
    others = λ n under other. get_or-set_other core.vars place.variable n x Unset other;
    room = length-set core.vars place.variable x;
    function = refl;
    block = refl;
  }

  pub entered_by : Entered 0 known around place p arguments (At (calls ∷ rest) e frames core) rest e frames core g most below meant f vs None meant
  entered_by = record {
    number = number;
    graph = graph;
    params = params;
    takes = takes;
    xs = values;
    frame = frame;
    end = core;
    leads = leads_more 0 most (omega arith) enters;
    ghost = g;
    grown = grown_none;
    stands = stands;
    passed = passed;
    few = omega arith;
    memory = ap (λ n. forgotten (record core { steps = n })) (sym left);
    out = refl;
    waits = record { left = []; ops = refl; exit = refl; others = λ n under other. refl; room = refl; function = refl; block = refl };
    back = resumes;
  }

-- ---- the call

module _ (world : World) (known : Known) (f : ℕ) (place : Place) (args : List Operand) (w : Writing) (params : List Element) (result : Element) (graph : known.graph f ≡ Some (number_of world.around f)) (takes : slice_get world.around.params f ≡ Some params)
    (typed : AllTyped world.around args params) (gives : slice_get world.around.results f ≡ Some result) (goes : Stays world.around.layout known (Some result) place.element) where
  abbrev number : ℕ
  number = number_of world.around f

  abbrev pub calls : LlOp
  calls = op.Call (Some place.variable) number (xs_of args)

  pub call_is : call world.around place f args w ≡ writing w.found (with_op calls w.body)
  call_is =
      ap (λ o. call_giving world.around place number (type_seen world.around.layout o) (arguments world.around f args w)) gives
      ∙ ap (λ made. call_giving world.around place number (type_of_element world.around.layout result) made) (passed_as_they_are world.around f params args w takes typed)
      ∙ call_gives world.around place number (type_of_element world.around.layout result) (xs_of args) w (λ h. stays_there goes (sym (stays_typed goes) ∙ h)) (sym (stays_typed goes))

  module _ (p : LlProgram) (arguments : List (List ℕ)) (rest : List LlOp) (e : LlExit) (frames : List Frame) (core : Core) (g : Ghost) (meant : MeantWorld) (vs : List Meant) (most below : ℕ)
      (stands : Represents world.around.layout known g meant.heap meant.left core.blocks core.statics) (left : meant.left ≡ core.steps) (inside : place.variable < length core.vars)
      (passed : AllHold world.around.layout known g params (values_of core args) vs) (set : any_unset (values_of core args) ≡ false) where
    enters : Leads p arguments 0 (At (calls ∷ rest) e frames core) [] (Calling number (values_of core args) (waiting core (Some place.variable) rest e ∷ frames) core)
    enters = one (ap (λ b. cond b (Sticks IsUnset) (Goes (Calling number (values_of core args) (waiting core (Some place.variable) rest e ∷ frames) core))) set) refl

    pub entered : Entered 0 known world.around place p arguments (At (calls ∷ rest) e frames core) rest e frames core g most below meant f vs None meant
    entered = entered_by known world.around f number place params result graph takes gives goes p arguments rest e frames core g meant vs most below stands left inside calls (values_of core args) enters passed

-- ---- behind a way that changes variables alone

pub entered_behind : {known : Known} {around : Around} {place : Place} {p : LlProgram} {args : List (List ℕ)} {s t : State} {rest : List LlOp} {e : LlExit} {frames : List Frame} {core mid : Core} {g : Ghost} {most below : ℕ} {w : MeantWorld} {f : ℕ} {vs : List Meant} {instead : Option Meant} {w' : MeantWorld}
    → Passed below core mid → Leads p args 0 s [] t → Entered 0 known around place p args t rest e frames mid g most below w f vs instead w' → Entered 0 known around place p args s rest e frames core g most below w f vs instead w'
entered_behind {known = known} {around = around} {place = place} {p = p} {args = args} {rest = rest} {e = e} {frames = frames} {core = core} {mid = mid} {most = most} {below = below} {f = f} {instead = instead} {w' = w'} passed way c = record {
  number = c.number;
  graph = c.graph;
  params = c.params;
  takes = c.takes;
  xs = c.xs;
  frame = c.frame;
  end = c.end;
  leads = leads_more (0 + most) most (omega arith) (leads_then way c.leads);
  ghost = c.ghost;
  grown = c.grown;
  stands = c.stands;
  passed = c.passed;
  few = (let few = c.few in let same : length mid.blocks ≡ length core.blocks = ap (λ (c : Core). length c.blocks) passed.memory in omega (arith, few, same));
  memory = c.memory ∙ ap (λ (m : Core). record m { blocks = c.end.blocks; statics = c.end.statics; steps = w'.left }) passed.memory;
  out = c.out;
  waits = record {
    left = c.waits.left;
    ops = c.waits.ops;
    exit = c.waits.exit;
    others = λ n under other. c.waits.others n under other ∙ passed.others n under;
    room = c.waits.room ∙ passed.room;
    function = c.waits.function ∙ passed.function;
    block = c.waits.block ∙ passed.block;
  };
  back = back;
}
  where
    back : (later : Core) (g2 : Ghost) (x : Value) (v : Meant) → Grown c.ghost g2 → Holds around.layout known g2 (slice_get around.results f) x v → Resumes known around place p args rest e frames core below c.frame later g2 x (unwrap_or instead v)
    back later g2 x v more held =
        let r = c.back later g2 x v more held in
        record {
          end = r.end;
          leads = r.leads;
          memory = r.memory;
          holds = r.holds;
          others = λ n under other. r.others n under other ∙ passed.others n under;
          room = r.room ∙ passed.room;
          function = r.function ∙ passed.function;
          block = r.block ∙ passed.block;
        }

-- ---- a call of a function

module _ (world : World) (known : Known) (f : ℕ) (place : Place) (args : List Operand) (w : Writing) (it : Takes world known f args place) where
  typed : AllTyped world.around args it.params
  typed = all_typed world.around known args it.params it.stay

  abbrev makes : LlOp
  makes = op.Call (Some place.variable) (number_of world.around f) (xs_of args)

  is_call : call world.around place f args w ≡ writing w.found (with_op makes w.body)
  is_call = call_is world known f place args w it.params it.result it.graph it.takes typed it.gives it.goes

  pub call_done : (o : RowOp) (covers : Covers) → lower_class_op world o place args w ≡ call world.around place f args w → ((vs : List Meant) (meant : MeantWorld) → meant_op known.program covers o vs meant ≡ Enters f vs None meant) → IsEntered 0 world known o covers [] place args w
  call_done o covers lowers means = record {
    ops = makes ∷ [];
    new = [];
    asked = ap (λ (r : Writing). r.found) (lowers ∙ is_call);
    written = ap (λ (r : Writing). r.body.ops) (lowers ∙ is_call);
    types = ap (λ (r : Writing). r.body.types) (lowers ∙ is_call) ∙ sym (append-nil w.body.types);
    follows = λ p numbers raised arguments rest e frames core g meant vs structs has stands left room inside under given good.
        subst (λ answer. FollowsOrEnters 0 known world.around place p arguments (At (makes ∷ rest) e frames core) rest e frames core g raised (references meant.heap vs) (length w.body.types) meant answer) (sym (means vs meant))
        (entered world known f place args w it.params it.result it.graph it.takes typed it.gives it.goes p arguments rest e frames core g meant vs (references meant.heap vs) (length w.body.types) stands left (omega (arith, room, inside))
        (all_passed world.around known g core args it.params vs it.stay given) (all_set world.around known g core stands args vs given));
  }

-- ---- which operations

-- a call of a function is lowered as such, whatever its operands are
pub class_lowers : (world : World) (f : ℕ) (place : Place) (args : List Operand) (w : Writing) → is_never args ≡ false → lower_class_op world (row.Call f) place args w ≡ lower_list_op world.around (row.Call f) place args w
unfolding of_some of_one of_two other list_lowered lowered
class_lowers world f place args w comes = ap (λ c. if c then lower_list_op world.around (row.Call f) place args w else lowered world (row.Call f) place args w) comes ∙ by args
  where
    by : (args : List Operand) → lowered world (row.Call f) place args w ≡ lower_list_op world.around (row.Call f) place args w
    by [] = refl
    by (a ∷ []) = refl
    by (a ∷ b ∷ []) = refl
    by (a ∷ b ∷ c ∷ more) = refl

pub list_lowers : (around : Around) (f : ℕ) (place : Place) (args : List Operand) (w : Writing) → is_never args ≡ false → lower_list_op around (row.Call f) place args w ≡ lower_op around (row.Call f) place args w
unfolding list_lowered list_of_some list_of_one list_of_two list_of_three list_other first_of_one first_of_two second_of_two first_of_three
list_lowers around f place args w comes = ap (λ c. if c then lower_op around (row.Call f) place args w else list_lowered around (row.Call f) place args w) comes ∙ by args
  where
    either : (c : Bool) (x : Writing) → (if c then x else x) ≡ x
    either true x = refl
    either false x = refl

    by : (args : List Operand) → list_lowered around (row.Call f) place args w ≡ lower_op around (row.Call f) place args w
    by [] = refl
    by (a ∷ []) = either (is_list a) (lower_op around (row.Call f) place (a ∷ []) w)
    by (a ∷ b ∷ []) = either (is_list a) (lower_op around (row.Call f) place (a ∷ b ∷ []) w)
    by (a ∷ b ∷ c ∷ []) = either (is_list a) (lower_op around (row.Call f) place (a ∷ b ∷ c ∷ []) w)
    by (a ∷ b ∷ c ∷ d ∷ more) = refl

pub op_lowers : (around : Around) (f : ℕ) (place : Place) (args : List Operand) (w : Writing) → is_never args ≡ false → lower_op around (row.Call f) place args w ≡ call around place f args w
op_lowers around f place args w comes = ap (λ c. if c then says_nothing around place w else call around place f args w) comes

pub calls_are_done : FunctionsAreCalled row.Call
calls_are_done world known f place args w covers it =
    let comes : is_never args ≡ false = all_come world.around.layout known args it.params it.stay in
    call_done world known f place args w it (row.Call f) covers (class_lowers world f place args w comes ∙ list_lowers world.around f place args w comes ∙ op_lowers world.around f place args w comes) (λ vs meant. refl)

pub of_class_lowers : (world : World) (class f : ℕ) (place : Place) (args : List Operand) (w : Writing) → is_never args ≡ false → lower_class_op world (row.CallOf class f) place args w ≡ call world.around place f args w
unfolding lowered
of_class_lowers world class f place args w comes = ap (λ c. if c then lower_list_op world.around (row.CallOf class f) place args w else lowered world (row.CallOf class f) place args w) comes

pub calls_of_classes_are_done : (class : ℕ) → FunctionsAreCalled (row.CallOf class)
calls_of_classes_are_done class world known f place args w covers it =
    let comes : is_never args ≡ false = all_come world.around.layout known args it.params it.stay in
    call_done world known f place args w it (row.CallOf class f) covers (of_class_lowers world class f place args w comes) (λ vs meant. refl)
