-- A new instance is made, and the one instance of a builtin exception class is given.
use Rattle.std.proofs.Common.{◌≡◌, ◌<◌, ◌≤◌, ℕ, zero, suc, ◌+◌, ◌-◌, ◌||◌, Bool, true, false, List, [], ◌∷◌, ◌++◌, length, Option, Some, None, pos, refl, sym, ap, ◌∙◌, subst, arith, length-append}
use Rattle.std.specs.Prelude.{slice_get, slice_set, cond, replicate, nat_lt, if◌then◌else◌, option_map, codes}
use Rattle.std.proofs.lemmas.List.{append-nil, get_or-set_same, get_or-set_other, length-set}
use Rattle.std.proofs.lemmas.Bool.Decides.{nat_tests}
use Rattle.ann_element.specs.declared.element.Element.TheVariants as element
use Rattle.csub_tree.specs.State.{Value, Unset, Ptr, Block, Core}
use Rattle.csub_tree.specs.Layout.{Shape, shape_at, constant}
use Rattle.csub_tree.specs.Operation.{is_unset}
use Rattle.csub_tree.specs.Statement.{read, operand}
use Rattle.csub_tree.specs.declared.stuck.StuckReason.TheVariants.{Unset as IsUnset}
use Rattle.csub_tree.specs.declared.tree.COperand.{COperand}
use Rattle.csub_tree.specs.declared.tree.COperand.TheVariants.{Const}
use Rattle.rpy_tree.specs.Value.{Value as Meant, Ref, Instance}
use Rattle.rpy_meaning.specs.declared.row.Covers.{Covers}
use Rattle.rpy_meaning.specs.declared.row.RowOp.TheVariants as row
use Rattle.rpy_meaning.specs.Classes.{is_below, method_of, named, first_attributes}
use Rattle.rpy_meaning.specs.Operations.{op as meant_op, builtin_classes, new_instance, initialised}
use Rattle.rpy_meaning.specs.World.{World as MeantWorld, Answer, Gives, Lacks, paying as paying_op}
use Rattle.class_desc.specs.Line.{init}
use Rattle.class_desc.specs.Tables.{initial}
use Rattle.ll_code.specs.State.{Frame, State, Calling, At, Returning, Goes, Sticks}
use Rattle.ll_code.specs.Machine.{shapes_of, waiting}
use Rattle.ll_code.specs.declared.program.LlType.TheVariants as type
use Rattle.ll_code.specs.declared.program.LlOp.{LlOp}
use Rattle.ll_code.specs.declared.program.LlOp.TheVariants as op
use Rattle.ll_code.specs.declared.program.LlExit.{LlExit}
use Rattle.ll_code.specs.declared.program.LlProgram.{LlProgram}
use Rattle.ll_leads.specs.Memory.{forgotten}
use Rattle.ll_leads.specs.Path.{Leads}
use Rattle.ll_leads.proofs.Joined.{leads_then, leads_more}
use Rattle.ll_leads.proofs.Ways.{on, one, tell, enter, pays, lacks}
use Rattle.ll_texts.specs.Follows.{Lacked}
use Rattle.ll_texts.specs.Texts.{found}
use Rattle.ll_texts.proofs.Writing.{newest, put_newest}
use Rattle.rtyper_layout.specs.declared.classes.Laid.{Laid}
use Rattle.rtyper_data.specs.declared.body.Body.{Body}
use Rattle.rtyper_data.specs.declared.small.Small.{Small}
use Rattle.rtyper_data.specs.declared.small.Small.TheVariants as small
use Rattle.rtyper_data.specs.Building.{block_with, graph_with, gives as gives_back}
use Rattle.rtyper_data.specs.Converting.{give}
use Rattle.rtyper_data.specs.Finding.{small_number, same_type}
use Rattle.rtyper_data.specs.Numbers.{word as word_operand}
use Rattle.rtyper_data.specs.Seen.{Place, type_at, with_op, fresh, Writing, writing}
use Rattle.rtyper_class.specs.Attributes.{Standing as Stood, place_in}
use Rattle.rtyper_class.specs.Calls.{new, new_by, new_of, new_into, init_if}
use Rattle.rtyper_class.specs.Instances.{made, instance_body, all_starts, starts_within, builtin_instance}
use Rattle.rtyper_class.specs.Lowering.{lowered, lower_class_op}
use Rattle.rtyper_class.specs.Seen.{World, laid}
use Rattle.rtyper_class.specs.Smalls.{new_by as graph_by}
use Rattle.rtyper_class.specs.Vtables.{vtable_at}
use Rattle.lower_laws.specs.Asked.{Make}
use Rattle.lower_laws.proofs.Doing.{same_type_is}
use Rattle.lower_laws.proofs.Items.{gives_same}
use Rattle.lower_laws.proofs.Single.{sets}
use Rattle.object_laws.specs.Done.{Follows, HasLayout, references}
use Rattle.object_laws.specs.Ghost.{Ghost, InstanceOf}
use Rattle.object_laws.specs.Known.{Known, Standing}
use Rattle.object_laws.specs.Represents.{Represents, Shows, shapes, value_at, set_at}
use Rattle.object_laws.specs.Values.{Made, Given}
use Rattle.object_laws.proofs.Calling.{back}
use Rattle.object_laws.proofs.Held.{call_holds}
use Rattle.object_laws.proofs.Made.{get_first, with_instance, instance_grown, instance_made}
use Rattle.object_laws.proofs.Parts.{writes_part}
use Rattle.object_laws.proofs.Passing.{none_passed, sets_last}
use Rattle.object_laws.proofs.Writing.{Written}
use Rattle.class_laws.specs.Asked.{HasClass}
use Rattle.class_laws.specs.Classes.{IsOf, IsLaidOut, standing_of}
use Rattle.class_laws.specs.Done.{IsDone}
use Rattle.class_laws.specs.Instances.{InstancesAreMade, BuiltinsAreGiven}
use Rattle.class_laws.specs.Starting.{Starts}
use Rattle.class_laws.proofs.Beginning.{Began, Ran, done_within, all_began, all_done}
use Rattle.class_laws.proofs.Fields.{begins_in, place_in_struct}
use Rattle.class_laws.proofs.Telling.{zero_place}

replicate_long : (n : ℕ) → length (replicate n Unset) ≡ n
replicate_long zero = refl
replicate_long (suc n) = ap suc (replicate_long n)

too_few : (n : ℕ) → nat_lt n 1 ≡ true → n < 1
too_few n h = grind (arith, nat_tests, h)

are_enough : (n : ℕ) → nat_lt n 1 ≡ false → 1 ≤ n
are_enough n h = grind (arith, nat_tests, h)

standing_is : (o : Option Stood) (s : Standing) → option_map standing_of o ≡ Some s → (st : Stood) × (o ≡ Some st)
standing_is None s h = absurd (cc)
standing_is (Some st) s h = (st, refl)

-- ---- the graph

-- what a call of it leaves
pub record MadeBlock (world : World) (known : Known) (class : ℕ) (l : Laid) (p : LlProgram) (arguments : List (List ℕ)) (f : ℕ) (g : Ghost) (core : Core) (left : ℕ) (waits : List Frame) : Type 0 where
  pub fields : List Value
  pub size_is : length fields ≡ (shape_at (shapes world.around.layout) l.own).size
  pub first : read fields 0 ≡ (known.vtable class).at
  pub shows : (name : List ℕ) (s : Standing) → known.attribute class name ≡ Some s → Shows world.around.layout known g s.element (named name (first_attributes known.program.classes class)) (read fields (value_at world.around.layout s)) (read fields (set_at world.around.layout s))
  pub end : Core
  pub same : forgotten end ≡ forgotten (record core { blocks = core.blocks ++ Some (record { kind = l.own; fields = fields; items = [] }) ∷ []; steps = left - 1 })
  pub way : Leads p arguments 1 (Calling f [] waits core) [] (Returning (Ptr (length core.blocks)) waits end)

module _ (world : World) (known : Known) (of : IsOf world known) (out : IsLaidOut world known) (class : ℕ) (l : Laid) (laid_as : laid world class ≡ Some l) (begin : Starts world known class)
    (p : LlProgram) (arguments : List (List ℕ)) (raised : ℕ → Value) (f : ℕ) (has : HasClass p world raised (small.New class) f) (structs : HasLayout p world.around.layout) (g : Ghost) (core : Core) (left : ℕ) (steps : left ≡ core.steps) where
  abbrev begins_as : Writing
  begins_as = writing has.made (made world l)

  abbrev count : ℕ
  count = length world.classes.classes

  abbrev before : List ℕ → Bool
  before = λ n. false

  abbrev all : List ℕ → Bool
  all = λ n. done_within world count class n || false

  began : Began world known out class l laid_as begin g begins_as (starts_within world (initial world.classes class) count class begins_as) before all
  began = all_began world known out class l laid_as begin g begins_as

  abbrev vtable : COperand
  vtable = Const (vtable_at world l)

  abbrev vtable_value : Value
  vtable_value = constant (vtable_at world l)

  abbrev pays_one : LlOp
  pays_one = op.Step (word_operand (pos 1))

  abbrev makes : LlOp
  makes = op.New 0 l.root l.own

  abbrev sets_vtable : LlOp
  sets_vtable = op.SetField l.root 0 0 vtable

  graph_is : slice_get p.graphs f ≡ Some (graph_with (codes "new") [] (type.Ptr l.root) (type.Ptr l.root ∷ []) (block_with [] (pays_one ∷ makes ∷ sets_vtable ∷ began.ops) (gives_back 0) ∷ []))
  unfolding instance_body all_starts
  graph_is = has.graph ∙ ap (λ o. Some (graph_by world class o has.made).0) laid_as ∙ ap (λ (b : Body). Some (graph_with (codes "new") [] (type.Ptr l.root) b.types (block_with [] b.ops (gives_back 0) ∷ []))) began.written

  -- the steps do not suffice
  pub new_lacks : left < 1 → (waits : List Frame) → Lacked p arguments (Calling f [] waits core) core
  new_lacks none waits = record {
    last = At (pays_one ∷ makes ∷ sets_vtable ∷ began.ops) (gives_back 0) waits (record core { function = f; block = 0; at = 0; vars = Unset ∷ [] });
    leads = enter graph_is refl;
    ends = lacks p arguments _ _ waits (record core { function = f; block = 0; at = 0; vars = Unset ∷ [] }) (word_operand (pos 1)) 1 refl (omega (arith, none, steps));
    blocks = refl;
    holds = λ b k. k;
  }

  -- they do

  abbrev n : ℕ
  n = length core.blocks

  abbrev size : ℕ
  size = (shape_at (shapes_of p.structs) l.own).size

  abbrev block_of : List Value → Block
  block_of fields = record { kind = l.own; fields = fields; items = [] }

  module _ (enough : 1 ≤ left) where
    abbrev fields0 : List Value
    fields0 = replicate size Unset

    abbrev fields1 : List Value
    fields1 = slice_set fields0 0 vtable_value

    same_size : size ≡ (shape_at (shapes world.around.layout) l.own).size
    same_size = ap (λ (s : Shape). s.size) (structs.shapes l.own (out.class class l laid_as).1)

    some_fields : 0 < size
    some_fields = (let a = (out.class class l laid_as).2 in omega (arith, a, same_size))

    module _ (waits : List Frame) where
      abbrev core1 : Core
      core1 = record core { function = f; block = 0; at = 1; vars = Unset ∷ []; steps = left - 1 }

      abbrev core2 : Core
      core2 = record core1 { at = 2; vars = Ptr n ∷ []; blocks = core.blocks ++ Some (block_of fields0) ∷ [] }

      making : Leads p arguments 0 (At (makes ∷ sets_vtable ∷ began.ops) (gives_back 0) waits core1) [] (At (sets_vtable ∷ began.ops) (gives_back 0) waits core2)
      making = tell refl refl

      is0 : found core2.blocks core2.statics (Ptr n) ≡ Some (block_of fields0)
      is0 = newest core.blocks (Some (block_of fields0)) None

      w0 : Written p arguments 1 sets_vtable began.ops (gives_back 0) waits core2 (Ptr n) (block_of fields1)
      w0 = writes_part p arguments began.ops (gives_back 0) waits core2 l.root 0 0 0 vtable (block_of fields0) vtable_value (begins_in p world l.root l.own structs (out.class class l laid_as).1 (out.root class l laid_as).1)
          (place_in_struct p world l.root 0 structs (out.root class l laid_as).0.struct ∙ zero_place world.around.layout l.root (out.root class l laid_as).0) refl refl (Ptr n) refl is0

      blocks1 : w0.end.blocks ≡ core.blocks ++ Some (block_of fields1) ∷ []
      blocks1 = w0.blocks ∙ put_newest core.blocks (Some (block_of fields0)) (Some (block_of fields1))

      size1 : length fields1 ≡ (shape_at (shapes world.around.layout) l.own).size
      size1 = length-set fields0 0 vtable_value ∙ replicate_long size ∙ same_size

      ran : Ran world known out class l laid_as begin g p arguments began.ops [] (gives_back 0) waits w0.end core.blocks fields1 all
      ran = began.runs p arguments [] (gives_back 0) waits w0.end core.blocks fields1 structs blocks1 (ap (λ vs. read vs 0) w0.vars) size1 (λ name s h d. absurd (cc))

      first1 : read fields1 0 ≡ (known.vtable class).at
      first1 = get_or-set_same fields0 0 vtable_value Unset (let r = replicate_long size in omega (arith, some_fields, r)) ∙ sym (of.vtable class l laid_as)

      shows_all : (name : List ℕ) (s : Standing) → known.attribute class name ≡ Some s → Shows world.around.layout known g s.element (named name (first_attributes known.program.classes class)) (read ran.fields2 (value_at world.around.layout s)) (read ran.fields2 (set_at world.around.layout s))
      shows_all name s h = (let st = standing_is (place_in world class name) s (sym (of.attribute class name) ∙ h) in ran.good name s h (all_done world known out class l laid_as begin g name st.0 st.1))

      vars_are : ran.end.vars ≡ Ptr n ∷ []
      vars_are = ran.vars ∙ w0.vars

      memory_is : forgotten ran.end ≡ forgotten (record core { blocks = core.blocks ++ Some (block_of ran.fields2) ∷ []; steps = left - 1 })
      memory_is = ran.same ∙ ap (λ (c : Core). record c { blocks = core.blocks ++ Some (block_of ran.fields2) ∷ [] }) w0.memory
          ∙ ap (λ ss. forgotten (record core { blocks = core.blocks ++ Some (block_of ran.fields2) ∷ []; statics = ss; steps = left - 1 })) w0.statics

      leaves : Leads p arguments 0 (At [] (gives_back 0) waits ran.end) [] (Returning (Ptr n) waits ran.end)
      leaves = one (ap (λ vs. cond (is_unset (read vs 0)) (Sticks IsUnset) (Goes (Returning (read vs 0) waits ran.end))) vars_are) refl

      whole : Leads p arguments 1 (Calling f [] waits core) [] (Returning (Ptr n) waits ran.end)
      whole = leads_more (0 + (0 + (0 + (1 + (0 + 0))))) 1 (omega arith)
          (leads_then (enter graph_is refl)
          (leads_then (pays 1 (left - 1) refl (omega (arith, enough, steps)))
          (leads_then making
          (leads_then w0.way
          (leads_then (subst (λ os. Leads p arguments 0 (At os (gives_back 0) waits w0.end) [] (At [] (gives_back 0) waits ran.end)) (append-nil began.ops) ran.way) leaves)))))

      pub new_returns : MadeBlock world known class l p arguments f g core left waits
      new_returns = record { fields = ran.fields2; size_is = ran.size ∙ size1; first = ran.first ∙ first1; shows = shows_all; end = ran.end; same = memory_is; way = whole }

-- ---- the operation

module _ (world : World) (known : Known) (of : IsOf world known) (out : IsLaidOut world known) (place : Place) (w : Writing) (class d : ℕ) (r : Bool) (l : Laid) (covers : Covers)
    (mine : builtin_classes ≤ class) (laid_as : laid world class ≡ Some l) (begin : Starts world known class) (alone : init world.classes.classes class ≡ None) (meant_alone : method_of known.program.classes class (codes "__init__") ≡ None) (hp : place.element ≡ Some (element.Instance d r)) (below : is_below known.program.classes class d ≡ true) (goes : type_at world.around place ≡ type.Ptr l.root) where
  abbrev graph : Small
  graph = small.New class

  abbrev number : ℕ
  number = (small_number graph w.found).0

  abbrev calls : LlOp
  calls = op.Call (Some place.variable) number []

  no_builtin : nat_lt class builtin_classes ≡ false
  no_builtin = grind (arith, nat_tests, mine)

  is_written : lower_class_op world (row.New class) place [] w ≡ writing (small_number graph w.found).1 (record { types = w.body.types; ops = w.body.ops ++ calls ∷ [] })
  unfolding lowered new
  is_written =
      ap (λ o. new_by world place class [] o w) laid_as
      ∙ ap (λ b. if b then give world.around place (builtin_instance world class) (type.Ptr l.root) w else new_of world place class [] (type.Ptr l.root) w) no_builtin
      ∙ ap (λ t. new_into world place class [] (small_number graph w.found) (if same_type t (type.Ptr l.root) then (place.variable, w.body) else fresh (type.Ptr l.root) w.body)) goes
      ∙ ap (λ b. new_into world place class [] (small_number graph w.found) (if b then (place.variable, w.body) else fresh (type.Ptr l.root) w.body)) (same_type_is (type.Ptr l.root))
      ∙ ap (λ o. init_if world.around place.variable place o [] (writing (small_number graph w.found).1 (with_op calls w.body))) alone

  module _ (p : LlProgram) (raised : ℕ → Value) (arguments : List (List ℕ)) (rest : List LlOp) (e : LlExit) (frames : List Frame) (core : Core) (g : Ghost) (meant : MeantWorld)
      (structs : HasLayout p world.around.layout) (has : HasClass p world raised graph number)
      (stands : Represents world.around.layout known g meant.heap meant.left core.blocks core.statics) (left : meant.left ≡ core.steps) (inside : place.variable < length core.vars) where
    abbrev Here : State
    Here = At (calls ∷ rest) e frames core

    abbrev frame : Frame
    frame = waiting core (Some place.variable) rest e

    abbrev firsts : List (List ℕ × Meant)
    firsts = first_attributes known.program.classes class

    abbrev meant2 : MeantWorld
    meant2 = record meant { heap = meant.heap ++ Instance class firsts ∷ []; left = meant.left - 1 }

    abbrev Done : Answer → Type 0
    Done answer = Follows 1 known world.around place p arguments Here rest e frames core g raised 1 (length w.body.types) meant answer

    enters : Leads p arguments 0 Here [] (Calling number [] (frame ∷ frames) core)
    enters = one refl refl

    lacking : meant.left < 1 → Done Lacks
    lacking short =
        let it = new_lacks world known of out class l laid_as begin p arguments raised number has structs g core meant.left left short (frame ∷ frames) in
        record { last = it.last; leads = on enters it.leads; ends = it.ends; blocks = it.blocks; holds = λ placed b h. call_holds p rest e frames core (Some place.variable) number [] placed b (it.holds b h) }

    abbrev newest_at : ℕ
    newest_at = length core.blocks

    paying : 1 ≤ meant.left → Done (Gives (Ref (length meant.heap)) meant2)
    paying enough = record {
      end = end;
      text = [];
      leads = leads_more (0 + (1 + 0)) 1 (omega arith) (leads_then enters (leads_then it.way leaves));
      ghost = with_instance g class (length meant.heap);
      grown = instance_grown g class (length meant.heap);
      stands = instance_made stands class (meant.left - 1) l it.fields firsts (structs.classes_apart class l laid_as) (omega arith) laid_as it.size_is it.first it.shows;
      holds = Made d r class (length meant.heap) hp refl below home;
      few = (let q = length-append core.blocks (Some (record { kind = l.own; fields = it.fields; items = [] }) ∷ []) in omega (arith, q));
      memory = refl;
      others = λ k under other. get_or-set_other core.vars place.variable k (Ptr newest_at) Unset other;
      room = length-set core.vars place.variable (Ptr newest_at);
      function = refl;
      block = refl;
      out = sym (append-nil meant.out);
    }
      where
        it : MadeBlock world known class l p arguments number g core meant.left (frame ∷ frames)
        it = new_returns world known of out class l laid_as begin p arguments raised number has structs g core meant.left left enough (frame ∷ frames)

        memory : Core
        memory = record core { blocks = core.blocks ++ Some (record { kind = l.own; fields = it.fields; items = [] }) ∷ []; steps = meant.left - 1 }

        end : Core
        end = back core memory (Some place.variable) (Ptr newest_at)

        leaves : Leads p arguments 0 (Returning (Ptr newest_at) (frame ∷ frames) it.end) [] (At rest e frames end)
        leaves = subst (λ (c : Core). Leads p arguments 0 (Returning (Ptr newest_at) (frame ∷ frames) it.end) [] (At rest e frames (back core c (Some place.variable) (Ptr newest_at)))) it.same (one refl refl)

        home : slice_get (with_instance g class (length meant.heap)).homes (length meant.heap) ≡ Some (record { sort = InstanceOf class; head = read end.vars place.variable })
        home = get_first g.homes [] (record { sort = InstanceOf class; head = Ptr (length g.blocks) }) (length meant.heap) (sym stands.homes)
            ∙ ap (λ k. Some (record { sort = InstanceOf class; head = Ptr k })) stands.made
            ∙ ap (λ x. Some (record { sort = InstanceOf class; head = x })) (sym (get_or-set_same core.vars place.variable (Ptr newest_at) Unset inside))

    above : meant_op known.program covers (row.New class) [] meant ≡ (if nat_lt meant.left 1 then Lacks else Gives (Ref (length meant.heap)) meant2)
    above = ap (λ b. (if b then (λ (w : MeantWorld). Gives (Ref class) w) else paying_op 1 (new_instance known.program covers class [])) meant) no_builtin ∙ ap (λ o. if nat_lt meant.left 1 then Lacks else initialised known.program covers o (Ref (length meant.heap)) [] meant2) meant_alone

    either : (c : Bool) → nat_lt meant.left 1 ≡ c → Done (if c then Lacks else Gives (Ref (length meant.heap)) meant2)
    either true h = lacking (too_few meant.left h)
    either false h = paying (are_enough meant.left h)

    follow : (vs : List Meant) → Given known world.around g core [] vs → Follows 1 known world.around place p arguments Here rest e frames core g raised (references meant.heap vs) (length w.body.types) meant (meant_op known.program covers (row.New class) vs meant)
    follow [] given = subst Done (sym above) (either (nat_lt meant.left 1) refl)
    follow (v ∷ vs) given = absurd given

  pub new_done : IsDone 1 world known (row.New class) covers (Make graph ∷ []) place [] w
  new_done = record {
    ops = calls ∷ [];
    new = [];
    asked = ap (λ (r : Writing). r.found) is_written;
    written = ap (λ (r : Writing). r.body.ops) is_written;
    types = ap (λ (r : Writing). r.body.types) is_written ∙ sym (append-nil w.body.types);
    follows = λ p numbers raised arguments rest e frames core g meant vs structs has stands left room inside under given good. follow p raised arguments rest e frames core g meant structs has.0 stands left (omega (arith, room, inside)) vs given;
  }

pub instances_are_made : InstancesAreMade
instances_are_made world known of out place w class d r l covers mine laid_as begin alone meant_alone hp below goes = new_done world known of out place w class d r l covers mine laid_as begin alone meant_alone hp below goes

-- ---- the one instance of a builtin exception class

value_is : (world : World) (known : Known) (class : ℕ) → IsOf world known → (core : Core) → operand core.vars (builtin_instance world class) ≡ known.exception class
unfolding builtin_instance
value_is world known class of core = sym (of.exception class)

is_given : (world : World) (place : Place) (w : Writing) (class : ℕ) (l : Laid) → nat_lt class builtin_classes ≡ true → laid world class ≡ Some l → type_at world.around place ≡ type.Ptr l.root → lower_class_op world (row.New class) place [] w ≡ writing w.found (with_op (op.Set place.variable (builtin_instance world class)) w.body)
unfolding lowered new
is_given world place w class l builtin laid_as goes =
    ap (λ o. new_by world place class [] o w) laid_as
    ∙ ap (λ b. if b then give world.around place (builtin_instance world class) (type.Ptr l.root) w else new_of world place class [] (type.Ptr l.root) w) builtin
    ∙ gives_same world.around place (builtin_instance world class) (type.Ptr l.root) w (λ h. absurd (cc)) goes

builtin_follows : (world : World) (known : Known) → IsOf world known → (place : Place) (class d : ℕ) (r : Bool) (l : Laid) (covers : Covers) → class < builtin_classes → nat_lt class builtin_classes ≡ true → laid world class ≡ Some l → place.element ≡ Some (element.Instance d r) → is_below known.program.classes class d ≡ true
    → (p : LlProgram) (raised : ℕ → Value) (arguments : List (List ℕ)) (rest : List LlOp) (e : LlExit) (frames : List Frame) (core : Core) (g : Ghost) (meant : MeantWorld) (most under : ℕ) → Represents world.around.layout known g meant.heap meant.left core.blocks core.statics → meant.left ≡ core.steps → place.variable < length core.vars
    → (vs : List Meant) → Given known world.around g core [] vs → Follows 0 known world.around place p arguments (At (op.Set place.variable (builtin_instance world class) ∷ rest) e frames core) rest e frames core g raised most under meant (meant_op known.program covers (row.New class) vs meant)
builtin_follows world known of place class d r l covers builtin is_builtin laid_as hp below p raised arguments rest e frames core g meant most under stands left inside [] given =
    subst (λ answer. Follows 0 known world.around place p arguments (At (op.Set place.variable (builtin_instance world class) ∷ rest) e frames core) rest e frames core g raised most under meant answer) (sym (ap (λ b. (if b then (λ (w : MeantWorld). Gives (Ref class) w) else paying_op 1 (new_instance known.program covers class [])) meant) is_builtin))
    (sets_last most under core (known.exception class) (Ref class) stands left none_passed inside
    (sets (known.exception class) (value_is world known class of core) (ap is_unset (of.exception class))) (Made d r class class hp refl below (stands.exceptions class l builtin laid_as)))
builtin_follows world known of place class d r l covers builtin is_builtin laid_as hp below p raised arguments rest e frames core g meant most under stands left inside (v ∷ vs) given = absurd given

pub builtins_are_given : BuiltinsAreGiven
builtins_are_given world known of place w class d r l covers builtin laid_as hp below goes =
    let is_builtin : nat_lt class builtin_classes ≡ true = grind (arith, nat_tests, builtin) in
    let written = is_given world place w class l is_builtin laid_as goes in
    record {
      ops = op.Set place.variable (builtin_instance world class) ∷ [];
      new = [];
      asked = ap (λ (r : Writing). r.found) written;
      written = ap (λ (r : Writing). r.body.ops) written;
      types = ap (λ (r : Writing). r.body.types) written ∙ sym (append-nil w.body.types);
      follows = λ p numbers raised arguments rest e frames core g meant vs structs has stands left room inside under given good.
          builtin_follows world known of place class d r l covers builtin is_builtin laid_as hp below p raised arguments rest e frames core g meant (references meant.heap vs) (length w.body.types) stands left (omega (arith, room, inside)) vs given;
    }
