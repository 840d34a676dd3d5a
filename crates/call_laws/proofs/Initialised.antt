-- A new instance is made, and its `__init__` is called.
use Rattle.std.proofs.Common.{◌≡◌, ◌≢◌, ◌<◌, ◌≤◌, ℕ, ◌+◌, ◌-◌, Bool, true, false, List, [], ◌∷◌, ◌++◌, length, Some, refl, sym, ap, ◌∙◌, subst, arith, append_assoc, length-append}
use Rattle.std.specs.Prelude.{slice_get, slice_set, cond, nat_lt, if◌then◌else◌}
use Rattle.std.proofs.lemmas.List.{get_or-set_same, get_or-set_other, length-set}
use Rattle.std.proofs.lemmas.Bool.Decides.{nat_tests}
use Rattle.ann_element.specs.declared.element.Element.TheVariants as element
use Rattle.csub_tree.specs.State.{Value, Unset, Ptr, Core}
use Rattle.csub_tree.specs.Statement.{read, operand}
use Rattle.csub_tree.specs.declared.stuck.StuckReason.TheVariants.{Unset as IsUnset}
use Rattle.csub_tree.specs.declared.tree.COperand.{COperand}
use Rattle.csub_tree.specs.declared.tree.COperand.TheVariants.{Var, Const}
use Rattle.ll_code.specs.State.{Frame, State, Calling, At, Returning, Goes, Sticks}
use Rattle.ll_code.specs.Machine.{waiting, resumed}
use Rattle.ll_code.specs.declared.program.LlType.{LlType}
use Rattle.ll_code.specs.declared.program.LlType.TheVariants as type
use Rattle.ll_code.specs.declared.program.LlOp.{LlOp}
use Rattle.ll_code.specs.declared.program.LlOp.TheVariants as op
use Rattle.ll_code.specs.declared.program.LlExit.{LlExit}
use Rattle.ll_code.specs.declared.program.LlProgram.{LlProgram}
use Rattle.ll_leads.specs.Path.{Leads}
use Rattle.ll_leads.proofs.Joined.{leads_then, leads_more}
use Rattle.ll_leads.proofs.Ways.{on, one}
use Rattle.rpy_meaning.specs.Classes.{is_below, first_attributes}
use Rattle.rpy_meaning.specs.declared.row.Covers.{Covers}
use Rattle.rpy_meaning.specs.declared.row.RowOp.TheVariants as row
use Rattle.rpy_meaning.specs.Operations.{op as meant_op, builtin_classes, new_instance, initialised}
use Rattle.rpy_meaning.specs.World.{World as MeantWorld, Answer, Gives, Lacks, Enters, paying as paying_op}
use Rattle.rpy_tree.specs.Value.{Value as Meant, Ref, Object, Instance}
use Rattle.rtyper_layout.specs.declared.classes.Laid.{Laid}
use Rattle.rtyper_layout.specs.Types.{type_of as type_of_element, type_seen}
use Rattle.rtyper_op.specs.Calls.{arguments, number_of}
use Rattle.rtyper_data.specs.declared.body.Body.{Body}
use Rattle.rtyper_data.specs.declared.small.Small.{Small}
use Rattle.rtyper_data.specs.declared.small.Small.TheVariants as small
use Rattle.rtyper_data.specs.Converting.{give}
use Rattle.rtyper_data.specs.Finding.{small_number, same_type}
use Rattle.rtyper_data.specs.Seen.{Operand, Place, type_at, with_op, fresh, Writing, writing}
use Rattle.rtyper_list.specs.Lowering.{lower_list_op}
use Rattle.rtyper_class.specs.Calls.{call_init, init_giving, init_if, init_with, new, new_by, new_of, new_into}
use Rattle.rtyper_class.specs.Instances.{builtin_instance}
use Rattle.rtyper_class.specs.Lowering.{lowered, lower_class_op}
use Rattle.rtyper_class.specs.Seen.{World, laid}
use Rattle.lower_laws.specs.Asked.{Make}
use Rattle.lower_laws.proofs.Doing.{same_type_is}
use Rattle.object_laws.specs.Done.{HasLayout, references}
use Rattle.object_laws.specs.Ghost.{Ghost, Grown, InstanceOf}
use Rattle.object_laws.specs.Known.{Known}
use Rattle.object_laws.specs.Represents.{Represents}
use Rattle.object_laws.specs.Values.{Holds, Made, Given}
use Rattle.object_laws.proofs.Calling.{back}
use Rattle.object_laws.proofs.Growing.{holds_grows}
use Rattle.object_laws.proofs.Held.{call_holds}
use Rattle.object_laws.proofs.Made.{get_first, with_instance, instance_grown, instance_made}
use Rattle.class_laws.specs.Asked.{HasClass}
use Rattle.class_laws.specs.Classes.{IsOf, IsLaidOut}
use Rattle.class_laws.specs.Starting.{Starts}
use Rattle.class_laws.proofs.Making.{MadeBlock, new_lacks, new_returns}
use Rattle.call_laws.specs.Calls.{AllStay, AreOthers, IsOther, Initialises, InstancesAreInitialised}
use Rattle.call_laws.specs.Done.{IsEntered}
use Rattle.call_laws.specs.Entered.{Resumes, FollowsOrEnters}
use Rattle.call_laws.proofs.Passed.{xs_of, values_of, all_typed, all_come, passed_as_they_are, all_passed, all_set}

-- ---- what is written

-- what it gives is dropped
pub init_gives : (number : ℕ) (t : LlType) (xs : List COperand) (body : Body) → (t ≡ type.Void → ⊥) → init_giving number t xs body ≡ with_op (op.Call (Some (fresh t body).0) number xs) (fresh t body).1
unfolding init_giving
init_gives number type.Void xs body there = absurd (there refl)
init_gives number t xs body there = refl

pub too_few : (n : ℕ) → nat_lt n 1 ≡ true → n < 1
too_few n h = grind (arith, nat_tests, h)

pub are_enough : (n : ℕ) → nat_lt n 1 ≡ false → 1 ≤ n
are_enough n h = grind (arith, nat_tests, h)

module _ (world : World) (known : Known) (of : IsOf world known) (out : IsLaidOut world known) (place : Place) (args : List Operand) (w : Writing) (class d f : ℕ) (r : Bool) (l : Laid) (covers : Covers)
    (mine : builtin_classes ≤ class) (laid_as : laid world class ≡ Some l) (begin : Starts world known class) (hp : place.element ≡ Some (element.Instance d r)) (below : is_below known.program.classes class d ≡ true) (goes : type_at world.around place ≡ type.Ptr l.root)
    (it : Initialises world known class f args place) (others : AreOthers place args) where
  abbrev graph : Small
  graph = small.New class

  abbrev alloc : ℕ
  alloc = (small_number graph w.found).0

  abbrev number : ℕ
  number = number_of world.around f

  abbrev makes : LlOp
  makes = op.Call (Some place.variable) alloc []

  abbrev self : Operand
  self = record { x = Var place.variable; element = place.element }

  abbrev m : ℕ
  m = length w.body.types

  abbrev result : LlType
  result = type_of_element world.around.layout it.result

  abbrev calls : LlOp
  calls = op.Call (Some m) number (xs_of (self ∷ args))

  abbrev made_by : Writing
  made_by = writing (small_number graph w.found).1 (with_op makes w.body)

  no_builtin : nat_lt class builtin_classes ≡ false
  no_builtin = grind (arith, nat_tests, mine)

  stay : AllStay world.around.layout known (self ∷ args) (it.first ∷ it.params)
  stay = (it.self, it.stay)

  init_is : call_init world.around place.variable place f args made_by ≡ writing made_by.found (with_op calls (fresh result made_by.body).1)
  unfolding call_init
  init_is =
      ap (λ o. init_with number (type_seen world.around.layout o) (arguments world.around f (self ∷ args) made_by)) it.gives
      ∙ ap (λ xs. init_with number result xs) (passed_as_they_are world.around f (it.first ∷ it.params) (self ∷ args) made_by it.takes (all_typed world.around known (self ∷ args) (it.first ∷ it.params) stay))
      ∙ ap (λ body. writing made_by.found body) (init_gives number result (xs_of (self ∷ args)) made_by.body it.some)

  is_written : lower_class_op world (row.New class) place args w ≡ writing made_by.found (with_op calls (fresh result made_by.body).1)
  unfolding lowered new
  is_written =
      ap (λ c. if c then lower_list_op world.around (row.New class) place args w else lowered world (row.New class) place args w) (all_come world.around.layout known args it.params it.stay)
      ∙ ap (λ o. new_by world place class args o w) laid_as
      ∙ ap (λ b. if b then give world.around place (builtin_instance world class) (type.Ptr l.root) w else new_of world place class args (type.Ptr l.root) w) no_builtin
      ∙ ap (λ t. new_into world place class args (small_number graph w.found) (if same_type t (type.Ptr l.root) then (place.variable, w.body) else fresh (type.Ptr l.root) w.body)) goes
      ∙ ap (λ b. new_into world place class args (small_number graph w.found) (if b then (place.variable, w.body) else fresh (type.Ptr l.root) w.body)) (same_type_is (type.Ptr l.root))
      ∙ ap (λ o. init_if world.around place.variable place o args made_by) it.has
      ∙ init_is

  -- ---- operands are what they were when the variable of the result is set

  other_same : (x : COperand) → IsOther place x → (core : Core) (value : Value) (memory : Core) → operand (back core memory (Some place.variable) value).vars x ≡ operand core.vars x
  other_same (Var v) other core value memory = get_or-set_other core.vars place.variable v value Unset other
  other_same (Const c) other core value memory = refl

  given_then : (args : List Operand) (vs : List Meant) (g ghost : Ghost) (core memory : Core) (value : Value) → AreOthers place args → Grown g ghost → Given known world.around g core args vs → Given known world.around ghost (back core memory (Some place.variable) value) args vs
  given_then [] [] g ghost core memory value others grown given = tt
  given_then [] (v ∷ vs) g ghost core memory value others grown given = absurd given
  given_then (a ∷ args) [] g ghost core memory value others grown given = absurd given
  given_then (a ∷ args) (v ∷ vs) g ghost core memory value others grown given = (
    subst (λ x. Holds world.around.layout known ghost a.element x v) (sym (other_same a.x others.0 core value memory)) (holds_grows grown given.0),
    given_then args vs g ghost core memory value others.1 grown given.1,
  )

  -- ---- the run

  module _ (p : LlProgram) (raised : ℕ → Value) (arguments : List (List ℕ)) (rest : List LlOp) (e : LlExit) (frames : List Frame) (core : Core) (g : Ghost) (meant : MeantWorld) (vs : List Meant) (most : ℕ) (some_written : 1 ≤ most)
      (structs : HasLayout p world.around.layout) (has : HasClass p world raised graph alloc)
      (stands : Represents world.around.layout known g meant.heap meant.left core.blocks core.statics) (left : meant.left ≡ core.steps) (inside : place.variable < m) (room : m + 1 ≤ length core.vars) (given : Given known world.around g core args vs) where
    abbrev Here : State
    Here = At (makes ∷ calls ∷ rest) e frames core

    abbrev frame : Frame
    frame = waiting core (Some place.variable) (calls ∷ rest) e

    abbrev firsts : List (List ℕ × Meant)
    firsts = first_attributes known.program.classes class

    abbrev at : ℕ
    at = length meant.heap

    abbrev meant2 : MeantWorld
    meant2 = record meant { heap = meant.heap ++ Instance class firsts ∷ []; left = meant.left - 1 }

    abbrev Done : Answer → Type 0
    Done answer = FollowsOrEnters 1 known world.around place p arguments Here rest e frames core g raised most m meant answer

    enters : Leads p arguments 0 Here [] (Calling alloc [] (frame ∷ frames) core)
    enters = one refl refl

    lacking : meant.left < 1 → Done Lacks
    lacking short =
        let lack = new_lacks world known of out class l laid_as begin p arguments raised alloc has structs g core meant.left left short (frame ∷ frames) in
        record { last = lack.last; leads = on enters lack.leads; ends = lack.ends; blocks = lack.blocks; holds = λ placed b h. call_holds p (calls ∷ rest) e frames core (Some place.variable) alloc [] placed b (lack.holds b h) }

    module _ (enough : 1 ≤ meant.left) where
      made : MadeBlock world known class l p arguments alloc g core meant.left (frame ∷ frames)
      made = new_returns world known of out class l laid_as begin p arguments raised alloc has structs g core meant.left left enough (frame ∷ frames)

      abbrev head : Value
      head = Ptr (length core.blocks)

      abbrev memory : Core
      memory = record core { blocks = core.blocks ++ Some (record { kind = l.own; fields = made.fields; items = [] }) ∷ []; steps = meant.left - 1 }

      abbrev mid : Core
      mid = back core memory (Some place.variable) head

      abbrev ghost : Ghost
      ghost = with_instance g class at

      grown : Grown g ghost
      grown = instance_grown g class at

      leaves : Leads p arguments 0 (Returning head (frame ∷ frames) made.end) [] (At (calls ∷ rest) e frames mid)
      leaves = subst (λ (c : Core). Leads p arguments 0 (Returning head (frame ∷ frames) made.end) [] (At (calls ∷ rest) e frames (back core c (Some place.variable) head))) made.same (one refl refl)

      stands2 : Represents world.around.layout known ghost meant2.heap meant2.left mid.blocks mid.statics
      stands2 = instance_made stands class (meant.left - 1) l made.fields firsts (structs.classes_apart class l laid_as) (omega arith) laid_as made.size_is made.first made.shows

      is_head : read mid.vars place.variable ≡ head
      is_head = get_or-set_same core.vars place.variable head Unset (omega (arith, inside, room))

      home : slice_get ghost.homes at ≡ Some (record { sort = InstanceOf class; head = head })
      home = get_first g.homes [] (record { sort = InstanceOf class; head = Ptr (length g.blocks) }) at (sym stands.homes) ∙ ap (λ k. Some (record { sort = InstanceOf class; head = Ptr k })) stands.made

      is_instance : Holds world.around.layout known ghost place.element head (Ref at)
      is_instance = Made d r class at hp refl below home

      given2 : Given known world.around ghost mid (self ∷ args) (Ref at ∷ vs)
      given2 = (subst (λ x. Holds world.around.layout known ghost place.element x (Ref at)) (sym is_head) is_instance, given_then args vs g ghost core memory head others grown given)

      abbrev values : List Value
      values = values_of mid (self ∷ args)

      abbrev frame2 : Frame
      frame2 = waiting mid (Some m) rest e

      goes_in : Leads p arguments 0 (At (calls ∷ rest) e frames mid) [] (Calling number values (frame2 ∷ frames) mid)
      goes_in = one (ap (λ b. cond b (Sticks IsUnset) (Goes (Calling number values (frame2 ∷ frames) mid))) (all_set world.around known ghost mid stands2 (self ∷ args) (Ref at ∷ vs) given2)) refl

      apart : place.variable ≢ m
      apart e = absurd (omega (arith, inside, e))

      resumes : (later : Core) (g2 : Ghost) (x : Value) (v : Meant) → Grown ghost g2 → Holds world.around.layout known g2 (slice_get world.around.results f) x v → Resumes known world.around place p arguments rest e frames core m frame2 later g2 x (Ref at)
      resumes later g2 x v more held = record {
        end = record (resumed frame2 later) { vars = slice_set mid.vars m x };
        leads = one refl refl;
        memory = refl;
        holds = subst (λ y. Holds world.around.layout known g2 place.element y (Ref at)) (sym (get_or-set_other mid.vars m place.variable x Unset apart ∙ is_head)) (holds_grows more is_instance);
        others = λ n under other. get_or-set_other mid.vars m n x Unset (λ e. absurd (omega (arith, under, e))) ∙ get_or-set_other core.vars place.variable n head Unset other;
        room = length-set mid.vars m x ∙ length-set core.vars place.variable head;
        function = refl;
        block = refl;
      }

      entering : Done (Enters f (Ref at ∷ vs) (Some (Ref at)) meant2)
      entering = record {
        number = number;
        graph = it.graph;
        params = it.first ∷ it.params;
        takes = it.takes;
        xs = values;
        frame = frame2;
        end = mid;
        leads = leads_more (0 + (1 + (0 + 0))) most (omega (arith, some_written)) (leads_then enters (leads_then made.way (leads_then leaves goes_in)));
        ghost = ghost;
        grown = grown;
        stands = stands2;
        passed = all_passed world.around known ghost mid (self ∷ args) (it.first ∷ it.params) (Ref at ∷ vs) stay given2;
        few = (let q = length-append core.blocks (Some (record { kind = l.own; fields = made.fields; items = [] }) ∷ []) in omega (arith, q));
        memory = refl;
        out = refl;
        waits = record { left = []; ops = refl; exit = refl; others = λ n under other. get_or-set_other core.vars place.variable n head Unset other; room = length-set core.vars place.variable head; function = refl; block = refl };
        back = resumes;
      }

    above : meant_op known.program covers (row.New class) vs meant ≡ (if nat_lt meant.left 1 then Lacks else Enters f (Ref at ∷ vs) (Some (Ref at)) meant2)
    above =
        ap (λ b. (if b then (λ (w : MeantWorld). Gives (Ref class) w) else paying_op 1 (new_instance known.program covers class vs)) meant) no_builtin
        ∙ ap (λ o. if nat_lt meant.left 1 then Lacks else initialised known.program covers o (Ref at) vs meant2) it.meant

    either : (c : Bool) → nat_lt meant.left 1 ≡ c → Done (if c then Lacks else Enters f (Ref at ∷ vs) (Some (Ref at)) meant2)
    either true h = lacking (too_few meant.left h)
    either false h = entering (are_enough meant.left h)

    follow : Done (meant_op known.program covers (row.New class) vs meant)
    follow = subst Done (sym above) (either (nat_lt meant.left 1) refl)

  one_at_least : (heap : List Object) (vs : List Meant) → 1 ≤ references heap vs
  one_at_least heap [] = omega arith
  one_at_least heap (v ∷ vs) = omega arith

  init_done : IsEntered 1 world known (row.New class) covers (Make graph ∷ []) place args w
  init_done = record {
    ops = makes ∷ calls ∷ [];
    new = result ∷ [];
    asked = ap (λ (r : Writing). r.found) is_written;
    written = ap (λ (r : Writing). r.body.ops) is_written ∙ append_assoc w.body.ops (makes ∷ []) (calls ∷ []);
    types = ap (λ (r : Writing). r.body.types) is_written;
    follows = λ p numbers raised arguments rest e frames core g meant vs structs has stands left room inside under given good.
        follow p raised arguments rest e frames core g meant vs (references meant.heap vs) (one_at_least meant.heap vs) structs has.0 stands left inside room given;
  }

pub instances_are_initialised : InstancesAreInitialised
instances_are_initialised world known of out place args w class d f r l covers mine laid_as begin hp below goes it others = init_done world known of out place args w class d f r l covers mine laid_as begin hp below goes it others
