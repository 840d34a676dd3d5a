-- An attribute of an instance is read.
use Rattle.std.proofs.Common.{◌≡◌, ◌<◌, ◌≤◌, ℕ, ◌+◌, ◌⊎◌, inl, inr, Bool, true, false, ◌||◌, List, [], ◌∷◌, ◌++◌, length, Option, Some, None, refl, sym, ap, ◌∙◌, subst, arith, append_assoc, length-append}
use Rattle.rpy_base.specs.declared.outcome.FailName.TheVariants as fail
use Rattle.csub_tree.specs.State.{Value, Flag, Block, Core}
use Rattle.csub_tree.specs.Operation.{is_unset}
use Rattle.csub_tree.specs.Statement.{read, operand, operands, any_unset}
use Rattle.csub_tree.specs.declared.tree.COperand.{COperand}
use Rattle.csub_tree.specs.declared.tree.COperand.TheVariants.{Var}
use Rattle.rpy_tree.specs.Value.{Value as Meant}
use Rattle.rpy_meaning.specs.declared.row.Covers.{Covers}
use Rattle.rpy_meaning.specs.declared.row.RowOp.TheVariants as row
use Rattle.rpy_meaning.specs.Classes.{named}
use Rattle.rpy_meaning.specs.Operations.{op as meant_op, read_attribute}
use Rattle.rpy_meaning.specs.World.{World as MeantWorld, Answer, attribute_error, failure, if_some, give}
use Rattle.ll_code.specs.State.{Frame, State, At}
use Rattle.ll_code.specs.declared.program.LlType.{LlType}
use Rattle.ll_code.specs.declared.program.LlType.TheVariants as type
use Rattle.ll_code.specs.declared.program.LlOp.{LlOp}
use Rattle.ll_code.specs.declared.program.LlOp.TheVariants as op
use Rattle.ll_code.specs.declared.program.LlExit.{LlExit}
use Rattle.ll_code.specs.declared.program.LlProgram.{LlProgram}
use Rattle.ll_build.specs.declared.needs.Numbers.{Numbers}
use Rattle.ll_leads.proofs.Ways.{on}
use Rattle.rtyper_layout.specs.declared.classes.Laid.{Laid}
use Rattle.rtyper_layout.specs.Types.{type_of as element_type}
use Rattle.rtyper_data.specs.declared.body.Body.{Body}
use Rattle.rtyper_data.specs.declared.found.Found.{Found}
use Rattle.rtyper_data.specs.declared.small.Small.{Small}
use Rattle.rtyper_data.specs.declared.small.Small.TheVariants as small
use Rattle.rtyper_data.specs.Converting.{by_small, present, give_made}
use Rattle.rtyper_data.specs.Finding.{small_number}
use Rattle.rtyper_data.specs.Seen.{Operand, Place, type_of, Writing, writing}
use Rattle.rtyper_class.specs.Attributes.{Standing as Stood, place_in, read as read_it, read_at, read_as}
use Rattle.rtyper_class.specs.Lowering.{lowered, of_some, of_one, attribute as attribute_lowered, attribute_of, instance_in, lower_class_op}
use Rattle.rtyper_class.specs.Seen.{World}
use Rattle.lower_laws.specs.Asked.{Ask, Make, all_asked}
use Rattle.lower_laws.proofs.Doing.{after}
use Rattle.lower_laws.proofs.Items.{gives_same}
use Rattle.lower_laws.proofs.Single.{sets}
use Rattle.list_laws.proofs.Indexed.{asked_both}
use Rattle.list_laws.proofs.Walked.{two_behind}
use Rattle.object_laws.specs.Done.{Follows, HasLayout, AllAsked, references}
use Rattle.object_laws.specs.Ghost.{Ghost}
use Rattle.object_laws.specs.Known.{Known}
use Rattle.object_laws.specs.Represents.{Represents, InstanceAt, Shows, value_at, set_at}
use Rattle.object_laws.specs.Staying.{Stays}
use Rattle.object_laws.specs.Values.{Given}
use Rattle.object_laws.proofs.Blocks.{found_set, found_there}
use Rattle.object_laws.proofs.Passing.{Pays, Passed, none_passed, sets_more, sets_last, is_set_at, behind, calls_at, throws_at, fails_at}
use Rattle.object_laws.proofs.Valued.{Instancing, Gone, instance_or_none, missing_instance, stays_typed, stays_there, stays_held, held_set}
use Rattle.class_laws.specs.Asked.{Has, HasClass}
use Rattle.class_laws.specs.Classes.{IsOf, IsLaidOut, standing_of}
use Rattle.class_laws.specs.Done.{IsDone}
use Rattle.class_laws.specs.Instances.{IsInstance, present_asks, AttributesAreRead}
use Rattle.class_laws.proofs.Copied.{instance_comes}
use Rattle.class_laws.proofs.Fields.{Fielded, fielded}
use Rattle.class_laws.proofs.Lowered.{class_one}
use Rattle.class_laws.proofs.Presence.{Present, presence, present_covers, first_asked, more_asked}
use Rattle.class_laws.proofs.Reading.{attribute_comes, attribute_flies, attribute_fails}

-- what may be set is read by a call
read_there : (world : World) (place : Place) (at : Stood) (t : LlType) (x : COperand × Writing) → (t ≡ type.Void → ⊥) → read_as world place at t x ≡ give_made world.around place t (by_small (small.Attribute at.own at.place x.1.found.covered.attribute) t (x.0 ∷ []) x.1)
read_there world place at type.Void x h = absurd (h refl)
read_there world place at type.Signed x h = refl
read_there world place at type.Char x h = refl
read_there world place at type.Bool x h = refl
read_there world place at type.Fn x h = refl
read_there world place at (type.Ptr n) x h = refl

module _ (world : World) (known : Known) (of : IsOf world known) (out : IsLaidOut world known) (place : Place) (name : List ℕ) (a : Operand) (w : Writing) (class : ℕ) (r : Bool) (l : Laid) (s : Stood)
    (inst : IsInstance world a.element class r l) (placed : place_in world class name ≡ Some s) (stay : Stays world.around.layout known (Some s.element) place.element) where
  ent : Present world a r w
  ent = presence world a w r

  abbrev first : Found
  first = all_asked (present_asks world a r w.found.covered) w.found

  abbrev raises : Bool
  raises = w.found.covered.attribute

  abbrev graph : Small
  graph = small.Attribute s.own s.place raises

  abbrev asks : List Ask
  asks = present_asks world a r w.found.covered ++ Make graph ∷ []

  abbrev number : ℕ
  number = (small_number graph first).0

  abbrev t : LlType
  t = element_type world.around.layout s.element

  abbrev m : ℕ
  m = length (w.body.types ++ ent.new)

  abbrev calls : LlOp
  calls = op.Call (Some m) number (ent.x ∷ [])

  abbrev puts : LlOp
  puts = op.Set place.variable (Var m)

  there : t ≡ type.Void → ⊥
  there h = stays_there stay (sym (stays_typed stay) ∙ h)

  covered : first.covered.attribute ≡ raises
  covered = ap (λ (c : Covers). c.attribute) (present_covers (type_of world.around a) r w.found)

  abbrev entered : Writing
  entered = writing first (record { types = w.body.types ++ ent.new; ops = w.body.ops ++ ent.ops })

  abbrev last_body : Body
  last_body = record { types = (w.body.types ++ ent.new) ++ t ∷ []; ops = (w.body.ops ++ ent.ops) ++ calls ∷ [] }

  abbrev found_last : Found
  found_last = (small_number graph first).1

  is_written : lower_class_op world (row.Attr name) place (a ∷ []) w ≡ writing found_last (record last_body { ops = last_body.ops ++ puts ∷ [] })
  unfolding lowered of_some of_one attribute_lowered read_it by_small
  is_written =
      class_one world (row.Attr name) place a w (instance_comes a class r inst.is)
      ∙ ap (λ e. attribute_of world place name a (instance_in e) w) inst.is
      ∙ ap (λ at. read_at world place at (present world.around a r w)) placed
      ∙ ap (λ made. read_as world place s t made) ent.written
      ∙ read_there world place s t (ent.x, entered) there
      ∙ ap (λ c. give_made world.around place t (by_small (small.Attribute s.own s.place c) t (ent.x ∷ []) entered)) covered
      ∙ gives_same world.around place (Var m) t (writing found_last last_body) there (sym (stays_typed stay))

  -- ---- once it is there

  module _ (p : LlProgram) (raised : ℕ → Value) (arguments : List (List ℕ)) (rest : List LlOp) (e : LlExit) (frames : List Frame) (core : Core) (g : Ghost) (most : ℕ) (meant : MeantWorld)
      (structs : HasLayout p world.around.layout) (has : HasClass p world raised graph number)
      (stands : Represents world.around.layout known g meant.heap meant.left core.blocks core.statics) (left : meant.left ≡ core.steps)
      (room : m + 1 ≤ length core.vars) (inside : place.variable < length w.body.types) (x : Value) (at : operand core.vars ent.x ≡ x)
      (c i : ℕ) (here : InstanceAt world.around.layout known g meant.heap core.blocks core.statics c i x) (f : Fielded p world known here.laid name c (standing_of s)) where
    abbrev Here : State
    Here = At (calls ∷ puts ∷ rest) e frames core

    abbrev Done : Answer → Type 0
    Done answer = Follows 0 known world.around place p arguments Here rest e frames core g raised most (length w.body.types) meant answer

    abbrev block : Block
    block = record { kind = here.laid.own; fields = here.fields; items = [] }

    abbrev value : Value
    value = read here.fields (value_at world.around.layout (standing_of s))

    abbrev flag : Value
    flag = read here.fields (set_at world.around.layout (standing_of s))

    x_set : is_unset x ≡ false
    x_set = found_set core.blocks core.statics x block here.block_is

    same : operands core.vars (ent.x ∷ []) ≡ x ∷ []
    same = ap (λ y. y ∷ []) at

    set : any_unset (x ∷ []) ≡ false
    set = ap (λ b. b || false) x_set

    m_is : m ≡ length w.body.types + length ent.new
    m_is = length-append w.body.types ent.new

    is_not : (c : Bool) → HasClass p world raised (small.Attribute s.own s.place c) number → flag ≡ Flag false → Done (failure c 9 fail.Attribute meant)
    is_not true h unset = throws_at same set (puts ∷ []) rest (attribute_flies p world arguments raised s.own s.place number core x block (value_at world.around.layout (standing_of s)) (set_at world.around.layout (standing_of s)) f.begins f.value_is f.set_is x_set here.block_is h unset)
    is_not false h unset = fails_at same set (puts ∷ rest) (attribute_fails p world arguments raised s.own s.place number core x block (value_at world.around.layout (standing_of s)) (set_at world.around.layout (standing_of s)) f.begins f.value_is f.set_is x_set here.block_is h unset)

    by : (o : Option Meant) → Shows world.around.layout known g s.element o value flag → Done (if_some (attribute_error w.found.covered) o give meant)
    by None shows = is_not raises has shows.0
    by (Some v) shows =
        let value_set : is_unset value ≡ false = held_set stands shows.1 in
        sets_last most (length w.body.types) (after core m value) value v stands left (sets_more m value (omega (arith, m_is)) none_passed) (omega (arith, inside, m_is, room))
        (on (calls_at same set (attribute_comes p world arguments raised s.own s.place number core x block (value_at world.around.layout (standing_of s)) (set_at world.around.layout (standing_of s)) f.begins f.value_is f.set_is x_set here.block_is raises has value value_set refl shows.0))
        (sets value (is_set_at core m value (omega (arith, room))) value_set))
        (stays_held stay shows.1)

    reads : Done (if_some (attribute_error w.found.covered) (named name here.attributes) give meant)
    reads = by (named name here.attributes) (here.shows name (standing_of s) f.is)

  pays_reading : (o : Option Meant) (meant : MeantWorld) → Pays (if_some (attribute_error w.found.covered) o give meant)
  pays_reading (Some v) meant = tt
  pays_reading None meant = by raises
    where
      by : (c : Bool) → Pays (failure c 9 fail.Attribute meant)
      by true = tt
      by false = tt

  -- ---- the whole

  module _ (p : LlProgram) (numbers : Numbers) (raised : ℕ → Value) (arguments : List (List ℕ)) (rest : List LlOp) (e : LlExit) (frames : List Frame) (core : Core) (g : Ghost) (meant : MeantWorld)
      (structs : HasLayout p world.around.layout) (has : AllAsked (Has world p numbers raised core) asks w.found)
      (stands : Represents world.around.layout known g meant.heap meant.left core.blocks core.statics) (left : meant.left ≡ core.steps)
      (room : length w.body.types + length (ent.new ++ t ∷ []) ≤ length core.vars) (inside : place.variable < length w.body.types) where
    abbrev Start : State
    Start = At (ent.ops ++ (calls ∷ puts ∷ rest)) e frames core

    abbrev Did : ℕ → Answer → Type 0
    Did most answer = Follows 0 known world.around place p arguments Start rest e frames core g raised most (length w.body.types) meant answer

    has_first : AllAsked (Has world p numbers raised core) (present_asks world a r w.found.covered) w.found
    has_first = first_asked (Has world p numbers raised core) (present_asks world a r w.found.covered) (Make graph ∷ []) w.found has

    has_graph : HasClass p world raised graph number
    has_graph = (more_asked (Has world p numbers raised core) (present_asks world a r w.found.covered) (Make graph ∷ []) w.found has).0

    long : length (ent.new ++ t ∷ []) ≡ length ent.new + 1
    long = length-append ent.new (t ∷ [])

    long_types : m ≡ length w.body.types + length ent.new
    long_types = length-append w.body.types ent.new

    is_there : (most : ℕ) (v : Meant) → Instancing known g class (operand core.vars a.x) v → Did most (meant_op known.program w.found.covered (row.Attr name) (v ∷ []) meant)
    is_there most v it =
        let x : Value = operand core.vars a.x in
        let old = stands.instances it.c it.i x it.home in
        let went = ent.enters p numbers raised arguments (calls ∷ puts ∷ rest) e frames core has_first (omega (arith, room, long)) (found_set core.blocks core.statics x _ old.block_is) (found_there core.blocks core.statics x _ old.block_is) in
        let mid : Core = went.0 in
        let passed : Passed (length w.body.types) core mid = went.2 in
        let stands_mid : Represents world.around.layout known g meant.heap meant.left mid.blocks mid.statics = subst (λ (c : Core). Represents world.around.layout known g meant.heap meant.left c.blocks c.statics) (sym passed.memory) stands in
        let here : InstanceAt world.around.layout known g meant.heap mid.blocks mid.statics it.c it.i x = stands_mid.instances it.c it.i x it.home in
        let f : Fielded p world known here.laid name it.c (standing_of s) = fielded p world known of out structs it.c class here.laid l name s (sym (of.below it.c class) ∙ it.below) here.is_laid inst.laid_as placed in
        let above : meant_op known.program w.found.covered (row.Attr name) (v ∷ []) meant ≡ if_some (attribute_error w.found.covered) (named name here.attributes) give meant =
        ap (λ v. meant_op known.program w.found.covered (row.Attr name) (v ∷ []) meant) it.high ∙ ap (λ o. read_attribute known.program w.found.covered name o meant) here.object in
        let wide : m + 1 ≤ length mid.vars = (let q = passed.room in omega (arith, room, long, long_types, q)) in
        subst (Did most) (sym above)
        (behind 0 known world.around place p arguments rest e frames core g raised most (length w.body.types) meant passed went.1 (if_some (attribute_error w.found.covered) (named name here.attributes) give meant) (pays_reading (named name here.attributes) meant)
        (reads p raised arguments rest e frames mid g most meant structs has_graph stands_mid (left ∙ sym (ap (λ (c : Core). c.steps) passed.memory)) wide inside x went.3 it.c it.i here f))

    missing : (most : ℕ) (v : Meant) → r ≡ true → Gone (missing_instance true) a.element (operand core.vars a.x) v → Did most (meant_op known.program w.found.covered (row.Attr name) (v ∷ []) meant)
    missing most v may gone = subst (λ v. Did most (meant_op known.program w.found.covered (row.Attr name) (v ∷ []) meant)) (sym gone.high)
        (ent.misses 0 known place p numbers raised arguments (calls ∷ puts ∷ []) rest e frames core g most meant has_first may gone.low)

    either : (most : ℕ) (v : Meant) → Instancing known g class (operand core.vars a.x) v ⊎ ((r ≡ true) × Gone (missing_instance true) a.element (operand core.vars a.x) v) → Did most (meant_op known.program w.found.covered (row.Attr name) (v ∷ []) meant)
    either most v (inl it) = is_there most v it
    either most v (inr gone) = missing most v gone.0 gone.1

    follow : (vs : List Meant) → Given known world.around g core (a ∷ []) vs → Follows 0 known world.around place p arguments (At ((ent.ops ++ (calls ∷ puts ∷ [])) ++ rest) e frames core) rest e frames core g raised (references meant.heap vs) (length w.body.types) meant (meant_op known.program w.found.covered (row.Attr name) vs meant)
    follow [] given = absurd given
    follow (v ∷ []) given = subst (λ l. Follows 0 known world.around place p arguments (At l e frames core) rest e frames core g raised (references meant.heap (v ∷ [])) (length w.body.types) meant (meant_op known.program w.found.covered (row.Attr name) (v ∷ []) meant)) (sym (append_assoc ent.ops (calls ∷ puts ∷ []) rest))
        (either (references meant.heap (v ∷ [])) v (instance_or_none class r inst.is given.0))
    follow (v ∷ u ∷ vs) given = absurd given.1

  pub attribute_done : IsDone 0 world known (row.Attr name) w.found.covered asks place (a ∷ []) w
  attribute_done = record {
    ops = ent.ops ++ (calls ∷ puts ∷ []);
    new = ent.new ++ t ∷ [];
    asked = ap (λ (r : Writing). r.found) is_written ∙ sym (asked_both (present_asks world a r w.found.covered) (Make graph ∷ []) w.found);
    written = ap (λ (r : Writing). r.body.ops) is_written ∙ two_behind w.body.ops ent.ops calls puts;
    types = ap (λ (r : Writing). r.body.types) is_written ∙ append_assoc w.body.types ent.new (t ∷ []);
    follows = λ p numbers raised arguments rest e frames core g meant vs structs has stands left room inside below given good. follow p numbers raised arguments rest e frames core g meant structs has stands left room inside vs given;
  }

pub attributes_are_read : AttributesAreRead
attributes_are_read world known of out place name a w class r l s inst placed stay = attribute_done world known of out place name a w class r l s inst placed stay
