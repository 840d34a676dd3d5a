-- Methods are looked up in the vtables of instances, and called.
use Rattle.std.proofs.Common.{◌≡◌, ◌≢◌, ◌<◌, ◌≤◌, ◌⊎◌, inl, inr, ℕ, ◌+◌, ◌-◌, ◌||◌, ◌&&◌, Bool, true, false, List, [], ◌∷◌, ◌++◌, length, map, Option, Some, None, refl, sym, ap, ◌∙◌, subst, arith, append_assoc, length-append}
use Rattle.std.specs.Prelude.{cond, slice_get, if◌then◌else◌}
use Rattle.ann_element.specs.declared.element.Element.{Element}
use Rattle.ann_element.specs.declared.element.Element.TheVariants as element
use Rattle.csub_tree.specs.State.{Value, Fun, Block, Core}
use Rattle.csub_tree.specs.Layout.{shape_at, begins_with, place as place_of}
use Rattle.csub_tree.specs.Operation.{is_unset}
use Rattle.csub_tree.specs.Statement.{read, operand, any_unset, fun_of, same_result, same_types}
use Rattle.csub_tree.specs.declared.stuck.StuckReason.TheVariants.{Unset as IsUnset, Signature}
use Rattle.csub_tree.specs.declared.tree.COperand.{COperand}
use Rattle.ll_code.specs.State.{Frame, Calling, At, Goes, Sticks}
use Rattle.ll_code.specs.Machine.{c_result, c_type, called_as, called_value, param_types, shapes_of, waiting}
use Rattle.ll_code.specs.declared.program.LlType.{LlType}
use Rattle.ll_code.specs.declared.program.LlType.TheVariants as type
use Rattle.ll_code.specs.declared.program.LlOp.{LlOp}
use Rattle.ll_code.specs.declared.program.LlOp.TheVariants as op
use Rattle.ll_code.specs.declared.program.LlExit.{LlExit}
use Rattle.ll_code.specs.declared.program.LlProgram.{LlProgram}
use Rattle.ll_build.specs.declared.needs.Numbers.{Numbers}
use Rattle.ll_leads.specs.Memory.{forgotten}
use Rattle.ll_leads.specs.Path.{Leads}
use Rattle.ll_leads.proofs.Joined.{leads_then}
use Rattle.ll_leads.proofs.Ways.{one}
use Rattle.ll_texts.specs.Texts.{found}
use Rattle.rpy_base.specs.declared.outcome.FailName.TheVariants as fail
use Rattle.rpy_meaning.specs.declared.row.RowOp.TheVariants as row
use Rattle.rpy_meaning.specs.Operations.{op as meant_op, enter, object_method}
use Rattle.rpy_meaning.specs.World.{World as MeantWorld, Answer, Enters, failure, bad, if_some}
use Rattle.rpy_tree.specs.Value.{Value as Meant, Ref}
use Rattle.rtyper_layout.specs.declared.classes.Laid.{Laid}
use Rattle.rtyper_layout.specs.Types.{type_seen}
use Rattle.rtyper_op.specs.Calls.{arguments}
use Rattle.rtyper_op.specs.Lowering.{is_never}
use Rattle.rtyper_data.specs.declared.body.Body.{Body}
use Rattle.rtyper_data.specs.Converting.{present}
use Rattle.rtyper_data.specs.Seen.{Around, Operand, Place, type_of, type_at, with_op, with_variable, fresh, Writing, writing}
use Rattle.rtyper_list.specs.Lowering.{lower_list_op}
use Rattle.rtyper_class.specs.declared.call.Reached.TheVariants as reached
use Rattle.rtyper_class.specs.Calls.{by_vtable, indirect, indirect_giving, looked_in, looked_up, method, method_by, param_types as types_like, reached_by, receiver, through}
use Rattle.rtyper_class.specs.Lowering.{lowered, lower_class_op, instance_in, method_of as lower_method, method_on}
use Rattle.rtyper_class.specs.Seen.{World}
use Rattle.lower_laws.specs.Asked.{all_asked}
use Rattle.lower_laws.specs.Values.{AllBelow, IsBelow}
use Rattle.lower_laws.proofs.Doing.{after}
use Rattle.object_laws.specs.Done.{AllAsked, Follows, HasLayout, references}
use Rattle.object_laws.specs.Ghost.{Ghost}
use Rattle.object_laws.specs.Known.{Known, vtable_block}
use Rattle.object_laws.specs.Represents.{Represents, InstanceAt, shapes}
use Rattle.object_laws.specs.Values.{Holds, Made, AllHold, Next, Given}
use Rattle.object_laws.proofs.Blocks.{found_set, found_there}
use Rattle.object_laws.proofs.Parts.{reads_part}
use Rattle.object_laws.proofs.Passing.{Passed, Went, both_passed, is_set_at, operand_kept, sets_more}
use Rattle.object_laws.proofs.Valued.{Instancing, Gone, instance_or_none, instance_type, missing_instance, stays_held, held_set}
use Rattle.object_laws.proofs.Variables.{InVariable, in_variable}
use Rattle.class_laws.specs.Asked.{Has}
use Rattle.class_laws.specs.Classes.{IsOf, IsLaidOut}
use Rattle.class_laws.specs.Instances.{IsInstance, present_asks}
use Rattle.class_laws.proofs.Copied.{instance_comes}
use Rattle.class_laws.proofs.Fields.{begins_in, place_in_struct}
use Rattle.class_laws.proofs.Presence.{Present, presence}
use Rattle.class_laws.proofs.Telling.{zero_place}
use Rattle.call_laws.specs.Calls.{AllStay, there}
use Rattle.call_laws.specs.Done.{IsEnteredWhere}
use Rattle.call_laws.specs.Entered.{FollowsOrEnters}
use Rattle.call_laws.specs.Indirect.{AllTyped, HasAtSlot, HasMethods, InVtable, IsSigned, MethodsAreLookedUp, slot_of}
use Rattle.call_laws.proofs.Called.{entered_behind, entered_by, lands_place}
use Rattle.call_laws.proofs.Methods.{given_kept}
use Rattle.call_laws.proofs.Passed.{xs_of, values_of, passed_as_they_are, all_passed, all_set}

-- a field at a place, in a struct whose first field is at the first place
top_place : (own first k : ℕ) → own ≡ 0 → first ≡ 0 → own + (k - first) ≡ k
top_place own first k o f = omega (arith, o, f)

three_behind : {A : Type 0} (xs ys zs : List A) (a b c : A) → ((((xs ++ ys) ++ zs) ++ a ∷ []) ++ b ∷ []) ++ c ∷ [] ≡ xs ++ (ys ++ (zs ++ (a ∷ b ∷ c ∷ [])))
three_behind xs ys zs a b c =
    append_assoc (((xs ++ ys) ++ zs) ++ a ∷ []) (b ∷ []) (c ∷ [])
    ∙ append_assoc ((xs ++ ys) ++ zs) (a ∷ []) (b ∷ c ∷ [])
    ∙ append_assoc (xs ++ ys) zs (a ∷ b ∷ c ∷ []) ∙ append_assoc xs ys (zs ++ (a ∷ b ∷ c ∷ []))

two_types : {A : Type 0} (xs ys zs : List A) (a b : A) → (((xs ++ ys) ++ zs) ++ a ∷ []) ++ b ∷ [] ≡ xs ++ (ys ++ (zs ++ (a ∷ b ∷ [])))
two_types xs ys zs a b = append_assoc ((xs ++ ys) ++ zs) (a ∷ []) (b ∷ []) ∙ append_assoc (xs ++ ys) zs (a ∷ b ∷ []) ∙ append_assoc xs ys (zs ++ (a ∷ b ∷ []))

-- a call through a value is written
call_through : (around : Around) (place : Place) (v : ℕ) (kinds : List LlType) (t : LlType) (xs : List COperand) (w : Writing) → (t ≡ type.Void → ⊥) → type_at around place ≡ t → indirect_giving around place v kinds t (xs, w) ≡ writing w.found (with_op (op.CallFn (Some place.variable) t kinds v xs) w.body)
unfolding indirect_giving
call_through around place v kinds type.Void xs w there typed = absurd (there refl)
call_through around place v kinds t xs w there typed = lands_place around place t (λ into. op.CallFn (Some into) t kinds v xs) w.found w.body typed

module _ (site : Option ℕ) (world : World) (known : Known) (of : IsOf world known) (out : IsLaidOut world known) (name : List ℕ) (like class : ℕ) (r : Bool) (l : Laid) (place : Place) (a : Operand) (args : List Operand) (w : Writing) (params : List Element)
    (inst : IsInstance world a.element class r l) (reaches : reached_by world class name ≡ reached.Several like) (takes : slice_get world.around.params like ≡ Some params) (typed : AllTyped world.around (there a class ∷ args) params)
    (gives : type_seen world.around.layout (slice_get world.around.results like) ≡ type_at world.around place) (some : type_at world.around place ≢ type.Void) (comes : is_never args ≡ false) where
  it : Present world a r w
  it = presence world a w r

  abbrev self : Operand
  self = receiver it.x a

  abbrev all : List Operand
  all = self ∷ args

  abbrev asked : Writing
  asked = writing (all_asked (present_asks world a r w.found.covered) w.found) (record { types = w.body.types ++ it.new; ops = w.body.ops ++ it.ops })

  at : InVariable (type_of world.around a) it.x asked.body
  at = in_variable (type_of world.around a) it.x asked.body

  abbrev body1 : Body
  body1 = record { types = asked.body.types ++ at.new; ops = asked.body.ops ++ at.ops }

  abbrev m : ℕ
  m = length body1.types

  abbrev n : ℕ
  n = length (body1.types ++ type.Fn ∷ [])

  abbrev slot : ℕ
  slot = slot_of world l name

  abbrev gets_vtable : LlOp
  gets_vtable = op.GetField n l.root at.x 0

  abbrev gets_method : LlOp
  gets_method = op.GetField m l.vtable n slot

  abbrev kinds : List LlType
  kinds = types_like world.around like

  abbrev calls : LlOp
  calls = op.CallFn (Some place.variable) (type_at world.around place) kinds m (xs_of all)

  abbrev body2 : Body
  body2 = with_op gets_method (with_op gets_vtable (with_variable (type.Ptr l.vtable) (with_variable type.Fn body1)))

  typed_all : AllTyped world.around all params
  typed_all = by params typed
    where
      by : (params : List Element) → AllTyped world.around (there a class ∷ args) params → AllTyped world.around all params
      by [] h = absurd h
      by (p ∷ ps) h = (
        ap (λ e. type_of world.around (record { x = it.x; element = e })) inst.is ∙ instance_type world.around.layout class r ∙ sym (instance_type world.around.layout class false) ∙ h.0,
        h.1,
        h.2,
      )

  is_looked_up : looked_up world class name at.x body1 ≡ (m, body2)
  unfolding looked_up
  is_looked_up = ap (λ o. looked_in world name at.x o (fresh type.Fn body1)) inst.laid_as

  is_through : indirect world.around place m like all (writing asked.found body2) ≡ writing asked.found (with_op calls body2)
  unfolding indirect
  is_through =
      ap (λ t. indirect_giving world.around place m kinds t (arguments world.around like all (writing asked.found body2))) gives
      ∙ ap (λ xs. indirect_giving world.around place m kinds (type_at world.around place) xs) (passed_as_they_are world.around like params all (writing asked.found body2) takes typed_all)
      ∙ call_through world.around place m kinds (type_at world.around place) (xs_of all) (writing asked.found body2) some refl

  is_written : lower_class_op world (row.Method name site) place (a ∷ args) w ≡ writing asked.found (with_op calls body2)
  unfolding lowered lower_method method
  is_written =
      ap (λ c. if (if c then true else is_never args) then lower_list_op world.around (row.Method name site) place (a ∷ args) w else lowered world (row.Method name site) place (a ∷ args) w) (instance_comes a class r inst.is)
      ∙ ap (λ c. if c then lower_list_op world.around (row.Method name site) place (a ∷ args) w else lowered world (row.Method name site) place (a ∷ args) w) comes
      ∙ ap (λ e. method_on world (row.Method name site) place name (a ∷ args) (instance_in e) w) inst.is
      ∙ ap (λ m. method_by world place name class a args m (present world.around a r w)) reaches
      ∙ ap (λ x. method_by world place name class a args (reached.Several like) x) it.written
      ∙ ap (λ v. by_vtable world place name class like all asked.found v) at.written
      ∙ ap (λ v. through world.around place like all asked.found v) is_looked_up
      ∙ is_through

  abbrev ops : List LlOp
  ops = it.ops ++ (at.ops ++ (gets_vtable ∷ gets_method ∷ calls ∷ []))

  abbrev new : List LlType
  new = it.new ++ (at.new ++ (type.Fn ∷ type.Ptr l.vtable ∷ []))

  -- ---- the run

  module _ (p : LlProgram) (numbers : Numbers) (raised : ℕ → Value) (arguments : List (List ℕ)) (rest : List LlOp) (e : LlExit) (frames : List Frame) (core : Core) (g : Ghost) (meant : MeantWorld) (most : ℕ)
      (structs : HasLayout p world.around.layout) (has : AllAsked (Has world p numbers raised core) (present_asks world a r w.found.covered) w.found)
      (stands : Represents world.around.layout known g meant.heap meant.left core.blocks core.statics) (left : meant.left ≡ core.steps)
      (room : length w.body.types + length new ≤ length core.vars) (inside : place.variable < length w.body.types) (under : AllBelow (length w.body.types) (a ∷ args)) where
    abbrev Behind : List LlOp
    Behind = gets_vtable ∷ gets_method ∷ calls ∷ rest

    abbrev Did : Answer → Type 0
    Did answer = FollowsOrEnters 0 known world.around place p arguments (At (it.ops ++ (at.ops ++ Behind)) e frames core) rest e frames core g raised most (length w.body.types) meant answer

    long : length new ≡ length it.new + (length at.new + 2)
    long = length-append it.new (at.new ++ (type.Fn ∷ type.Ptr l.vtable ∷ [])) ∙ ap (λ k. length it.new + k) (length-append at.new (type.Fn ∷ type.Ptr l.vtable ∷ []))

    types_long : length asked.body.types ≡ length w.body.types + length it.new
    types_long = length-append w.body.types it.new

    m_is : m ≡ length w.body.types + length it.new + length at.new
    m_is = length-append asked.body.types at.new ∙ ap (λ k. k + length at.new) types_long

    n_is : n ≡ m + 1
    n_is = length-append body1.types (type.Fn ∷ [])

    no_call : (c : Bool) → Follows 0 known world.around place p arguments (At (it.ops ++ (at.ops ++ Behind)) e frames core) rest e frames core g raised most (length w.body.types) meant (failure c 9 fail.Attribute meant) → Did (failure c 9 fail.Attribute meant)
    no_call true h = h
    no_call false h = h

    -- the value in the variable is that of a graph with the signature
    goes_in : (number : ℕ) (there : Core) → read there.vars m ≡ Fun number → any_unset (values_of there all) ≡ false → IsSigned p world.around like number
        → Leads p arguments 0 (At (calls ∷ rest) e frames there) [] (Calling number (values_of there all) (waiting there (Some place.variable) rest e ∷ frames) there)
    goes_in number there is set signed = one (
        ap (λ f. cond (is_unset f || any_unset (values_of there all)) (Sticks IsUnset) (called_value p (c_result (type_at world.around place)) (map c_type kinds) (fun_of f) (values_of there all) (waiting there (Some place.variable) rest e ∷ frames) there)) is
        ∙ ap (λ b. cond b (Sticks IsUnset) (called_as (c_result (type_at world.around place)) (map c_type kinds) number (values_of there all) (waiting there (Some place.variable) rest e ∷ frames) there (slice_get p.graphs number))) set
        ∙ ap (λ o. called_as (c_result (type_at world.around place)) (map c_type kinds) number (values_of there all) (waiting there (Some place.variable) rest e ∷ frames) there o) signed.is
        ∙ ap (λ b. cond b (Goes (Calling number (values_of there all) (waiting there (Some place.variable) rest e ∷ frames) there)) (Sticks Signature))
        (subst (λ t. (same_result (c_result signed.graph.result) (c_result t) && same_types (param_types signed.graph) (map c_type kinds)) ≡ true) gives signed.fits)) refl

    module _ (v : Meant) (vs : List Meant) (given : Given known world.around g core args vs) (one_of : Instancing known g class (operand core.vars a.x) v) (f : ℕ) (its : HasAtSlot p world known name like slot a args place one_of.c f) where
      abbrev x : Value
      x = operand core.vars a.x

      here : InstanceAt world.around.layout known g meant.heap core.blocks core.statics one_of.c one_of.i x
      here = stands.instances one_of.c one_of.i x one_of.home

      abbrev block : Block
      block = record { kind = here.laid.own; fields = here.fields; items = [] }

      x_set : is_unset x ≡ false
      x_set = found_set core.blocks core.statics x block here.block_is

      went : (mid : Core) × Leads p arguments 0 (At (it.ops ++ (at.ops ++ Behind)) e frames core) [] (At (at.ops ++ Behind) e frames mid) × Passed (length w.body.types) core mid × (operand mid.vars it.x ≡ x)
      went = it.enters p numbers raised arguments (at.ops ++ Behind) e frames core has (omega (arith, room, long)) x_set (found_there core.blocks core.statics x block here.block_is)

      abbrev mid : Core
      mid = went.0

      holds : Went p arguments (At (at.ops ++ Behind) e frames mid) Behind e frames mid (length asked.body.types) at.x (operand mid.vars it.x)
      holds = at.enters p arguments Behind e frames mid (let q = (went.2).room in omega (arith, room, long, types_long, q)) (ap is_unset went.3 ∙ x_set)

      abbrev core2 : Core
      core2 = holds.mid

      value : read core2.vars at.x ≡ x
      value = holds.is ∙ went.3

      passed2 : Passed (length w.body.types) core core2
      passed2 = both_passed (omega (arith, types_long)) went.2 holds.passed

      abbrev vtable : Value
      vtable = (known.vtable one_of.c).at

      abbrev table : Block
      table = vtable_block here.laid.vtable (known.vtable one_of.c)

      table_is : found core.blocks core.statics vtable ≡ Some table
      table_is = stands.stays vtable table (stands.vtables one_of.c here.laid here.is_laid)

      same_memory : (y : Value) (b : Block) (c : Core) → forgotten c ≡ forgotten core → found core.blocks core.statics y ≡ Some b → found c.blocks c.statics y ≡ Some b
      same_memory y b c h is = subst (λ (c : Core). found c.blocks c.statics y ≡ Some b) (sym h) is

      vtable_set : is_unset vtable ≡ false
      vtable_set = found_set core.blocks core.statics vtable table table_is

      inherits : (here.laid.root ≡ l.root) × (here.laid.vtable ≡ l.vtable)
      inherits = (let i = out.inherits one_of.c class here.laid l (sym (of.below one_of.c class) ∙ one_of.below) here.is_laid inst.laid_as in (i.0, i.1))

      root_begins : begins_with (shapes_of p.structs) here.laid.own l.root ≡ true
      root_begins = subst (λ n. begins_with (shapes_of p.structs) here.laid.own n ≡ true) inherits.0 (begins_in p world here.laid.root here.laid.own structs (out.class one_of.c here.laid here.is_laid).1 (out.root one_of.c here.laid here.is_laid).1)

      root_first : place_of (shape_at (shapes_of p.structs) l.root) 0 ≡ 0
      root_first = place_in_struct p world l.root 0 structs (out.root class l inst.laid_as).0.struct ∙ zero_place world.around.layout l.root (out.root class l inst.laid_as).0

      table_begins : begins_with (shapes_of p.structs) here.laid.vtable l.vtable ≡ true
      table_begins = subst (λ n. begins_with (shapes_of p.structs) n l.vtable ≡ true) (sym inherits.1) (begins_in p world l.vtable l.vtable structs (out.vtable class l inst.laid_as).0.struct (out.vtable class l inst.laid_as).1)

      table_slot : place_of (shape_at (shapes_of p.structs) l.vtable) slot ≡ slot
      table_slot = place_in_struct p world l.vtable slot structs (out.vtable class l inst.laid_as).0.struct ∙ top_place (shape_at (shapes world.around.layout) l.vtable).own (shape_at (shapes world.around.layout) l.vtable).first slot (out.vtable class l inst.laid_as).0.own (out.vtable class l inst.laid_as).0.first

      abbrev core3 : Core
      core3 = after core2 n vtable

      abbrev core4 : Core
      core4 = after core3 m (Fun its.number)

      reads_vtable : Leads p arguments 0 (At Behind e frames core2) [] (At (gets_method ∷ calls ∷ rest) e frames core3)
      reads_vtable = reads_part block vtable root_begins (ap (found core2.blocks core2.statics) value ∙ same_memory x block core2 passed2.memory here.block_is) vtable_set 0 0 root_first here.vtable

      enough : n < length core2.vars
      enough = (let q = passed2.room in omega (arith, room, long, m_is, n_is, q))

      reads_method : Leads p arguments 0 (At (gets_method ∷ calls ∷ rest) e frames core3) [] (At (calls ∷ rest) e frames core4)
      reads_method = reads_part table (Fun its.number) table_begins (ap (found core3.blocks core3.statics) (is_set_at core2 n vtable enough) ∙ same_memory vtable table core2 passed2.memory table_is) refl slot slot table_slot its.stands

      passed4 : Passed (length w.body.types) core core4
      passed4 = sets_more m (Fun its.number) (omega (arith, m_is)) (sets_more n vtable (omega (arith, m_is, n_is)) passed2)

      -- from where it was asked whether the instance is there
      later4 : Passed (length asked.body.types) mid core4
      later4 = sets_more m (Fun its.number) (omega (arith, m_is, types_long)) (sets_more n vtable (omega (arith, m_is, n_is, types_long)) holds.passed)

      self_below : IsBelow (length asked.body.types) it.x
      self_below = subst (λ k. IsBelow k it.x) (sym types_long) (it.below under.0)

      self_is : operand core4.vars it.x ≡ x
      self_is = operand_kept later4 it.x self_below ∙ went.3

      stands4 : Represents world.around.layout known g meant.heap meant.left core4.blocks core4.statics
      stands4 = subst (λ (c : Core). Represents world.around.layout known g meant.heap meant.left c.blocks c.statics) (sym passed4.memory) stands

      given4 : Given known world.around g core4 args vs
      given4 = given_kept world known g passed4 args vs under.1 given

      held : Holds world.around.layout known g (Some (element.Instance one_of.c false)) (operand core4.vars it.x) v
      held = subst (λ y. Holds world.around.layout known g (Some (element.Instance one_of.c false)) y v) (sym self_is) (Made one_of.c false one_of.c one_of.i refl one_of.high its.itself one_of.home)

      method_is : read core4.vars m ≡ Fun its.number
      method_is = is_set_at core3 m (Fun its.number) (let q = (sets_more n vtable (omega (arith, m_is, n_is)) passed2).room in omega (arith, room, long, m_is, q))

      values_passed : AllHold world.around.layout known g its.params (values_of core4 all) (v ∷ vs)
      values_passed = by its.params its.stay
        where
          by : (ps : List Element) → AllStay world.around.layout known (there a one_of.c ∷ args) ps → AllHold world.around.layout known g ps (values_of core4 all) (v ∷ vs)
          by [] h = absurd h
          by (first ∷ ps) h = Next (stays_held h.0 held) (all_passed world.around known g core4 args ps vs h.1 given4)

      values_set : any_unset (values_of core4 all) ≡ false
      values_set = ap (λ c. c || any_unset (values_of core4 args)) (held_set stands4 held) ∙ all_set world.around known g core4 stands4 args vs given4

      above : meant_op known.program w.found.covered (row.Method name site) (v ∷ vs) meant ≡ Enters f (v ∷ vs) None meant
      above =
          ap (λ v. meant_op known.program w.found.covered (row.Method name site) (v ∷ vs) meant) one_of.high
          ∙ ap (λ o. object_method known.program w.found.covered name one_of.i vs o meant) here.object
          ∙ ap (λ o. if_some bad o (λ f. enter known.program w.found.covered f (Ref one_of.i ∷ vs)) meant) its.named
          ∙ ap (λ v. Enters f (v ∷ vs) None meant) (sym one_of.high)

      entering : Did (meant_op known.program w.found.covered (row.Method name site) (v ∷ vs) meant)
      entering = subst Did (sym above)
          (entered_behind passed4 (leads_then went.1 (leads_then holds.way (leads_then reads_vtable reads_method)))
          (entered_by known world.around f its.number place its.params its.result its.graph its.takes its.gives its.goes p arguments rest e frames core4 g meant (v ∷ vs) most (length w.body.types) stands4 (left ∙ sym (ap (λ (c : Core). c.steps) passed4.memory))
          (let q = passed4.room in omega (arith, inside, room, q)) calls (values_of core4 all) (goes_in its.number core4 method_is values_set its.signed) values_passed))

    missing : (v : Meant) (vs : List Meant) → r ≡ true → Gone (missing_instance true) a.element (operand core.vars a.x) v → Did (meant_op known.program w.found.covered (row.Method name site) (v ∷ vs) meant)
    missing v vs may gone = subst (λ v. Did (meant_op known.program w.found.covered (row.Method name site) (v ∷ vs) meant)) (sym gone.high)
        (no_call w.found.covered.attribute (subst (λ os. Follows 0 known world.around place p arguments (At (it.ops ++ os) e frames core) rest e frames core g raised most (length w.body.types) meant (failure w.found.covered.attribute 9 fail.Attribute meant)) (append_assoc at.ops (gets_vtable ∷ gets_method ∷ calls ∷ []) rest)
        (it.misses 0 known place p numbers raised arguments (at.ops ++ (gets_vtable ∷ gets_method ∷ calls ∷ [])) rest e frames core g most meant has may gone.low)))

    follow : (vs : List Meant) → Given known world.around g core (a ∷ args) vs → HasMethods world known name like slot a args place p meant vs → Did (meant_op known.program w.found.covered (row.Method name site) vs meant)
    follow [] given good = absurd given
    follow (v ∷ vs) given good = by (instance_or_none class r inst.is given.0)
      where
        found_in : (one_of : Instancing known g class (operand core.vars a.x) v) → (f : ℕ) × HasAtSlot p world known name like slot a args place one_of.c f
        found_in one_of = subst (InVtable p world known name like slot a args place) (stands.instances one_of.c one_of.i (operand core.vars a.x) one_of.home).object (subst (λ v. HasMethods world known name like slot a args place p meant (v ∷ vs)) one_of.high good)

        by : Instancing known g class (operand core.vars a.x) v ⊎ ((r ≡ true) × Gone (missing_instance true) a.element (operand core.vars a.x) v) → Did (meant_op known.program w.found.covered (row.Method name site) (v ∷ vs) meant)
        by (inl one_of) = (let its = found_in one_of in entering v vs given.1 one_of its.0 its.1)
        by (inr (may, gone)) = missing v vs may gone

  both : (rest : List LlOp) → ops ++ rest ≡ it.ops ++ (at.ops ++ (gets_vtable ∷ gets_method ∷ calls ∷ rest))
  both rest = append_assoc it.ops (at.ops ++ (gets_vtable ∷ gets_method ∷ calls ∷ [])) rest ∙ ap (λ os. it.ops ++ os) (append_assoc at.ops (gets_vtable ∷ gets_method ∷ calls ∷ []) rest)

  looked_done : IsEnteredWhere (HasMethods world known name like slot a args place) 0 world known (row.Method name site) w.found.covered (present_asks world a r w.found.covered) place (a ∷ args) w
  looked_done = record {
    ops = ops;
    new = new;
    asked = ap (λ (r : Writing). r.found) is_written;
    written = ap (λ (r : Writing). r.body.ops) is_written ∙ three_behind w.body.ops it.ops at.ops gets_vtable gets_method calls;
    types = ap (λ (r : Writing). r.body.types) is_written ∙ two_types w.body.types it.new at.new type.Fn (type.Ptr l.vtable);
    follows = λ p numbers raised arguments rest e frames core g meant vs structs has stands left room inside under given good.
        subst (λ os. FollowsOrEnters 0 known world.around place p arguments (At os e frames core) rest e frames core g raised (references meant.heap vs) (length w.body.types) meant (meant_op known.program w.found.covered (row.Method name site) vs meant)) (sym (both rest))
        (follow p numbers raised arguments rest e frames core g meant (references meant.heap vs) structs has stands left room inside under vs given good);
  }

pub methods_are_looked_up : MethodsAreLookedUp
methods_are_looked_up site world known of out name like class r l place a args w params inst reaches takes typed gives some comes = looked_done site world known of out name like class r l place a args w params inst reaches takes typed gives some comes
