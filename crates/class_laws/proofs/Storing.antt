-- An attribute of an instance is stored.
use Rattle.std.proofs.Common.{◌≡◌, ◌<◌, ◌≤◌, ℕ, ◌+◌, ◌⊎◌, inl, inr, Bool, true, false, List, [], ◌∷◌, ◌++◌, length, Option, Some, refl, sym, ap, ◌∙◌, subst, arith, append_assoc, length-append}
use Rattle.std.specs.Prelude.{slice_get, slice_set, cond}
use Rattle.std.specs.Str.{bytes_eq}
use Rattle.std.proofs.lemmas.List.{append-nil, get_or-set_same, get_or-set_other, length-set}
use Rattle.std.proofs.lemmas.Slice.Eq.{bytes_eq-Decides}
use Rattle.csub_tree.specs.State.{Value, Unset, Flag, Block, Core}
use Rattle.csub_tree.specs.Operation.{is_unset}
use Rattle.csub_tree.specs.Statement.{read, operand}
use Rattle.csub_tree.specs.declared.tree.CConst.TheVariants as constant
use Rattle.csub_tree.specs.declared.tree.COperand.{COperand}
use Rattle.csub_tree.specs.declared.tree.COperand.TheVariants.{Var, Const}
use Rattle.rpy_tree.specs.Value.{Value as Meant, Nothing, Instance}
use Rattle.rpy_meaning.specs.declared.row.RowOp.TheVariants as row
use Rattle.rpy_meaning.specs.Classes.{named, with_name}
use Rattle.rpy_meaning.specs.Operations.{op as meant_op, set_attribute as set_meant}
use Rattle.rpy_meaning.specs.World.{World as MeantWorld, Answer, Gives}
use Rattle.ll_code.specs.State.{Frame, State, At}
use Rattle.ll_code.specs.declared.program.LlType.{LlType}
use Rattle.ll_code.specs.declared.program.LlType.TheVariants as type
use Rattle.ll_code.specs.declared.program.LlOp.{LlOp}
use Rattle.ll_code.specs.declared.program.LlOp.TheVariants as op
use Rattle.ll_code.specs.declared.program.LlExit.{LlExit}
use Rattle.ll_code.specs.declared.program.LlProgram.{LlProgram}
use Rattle.ll_build.specs.declared.needs.Numbers.{Numbers}
use Rattle.ll_held.specs.Held.{is_reference}
use Rattle.ll_leads.specs.Memory.{forgotten}
use Rattle.ll_leads.specs.Path.{reference_in}
use Rattle.ll_leads.proofs.Joined.{leads_then, leads_more}
use Rattle.ll_texts.specs.Texts.{found}
use Rattle.class_desc.specs.Line.{is_below}
use Rattle.rtyper_layout.specs.declared.classes.Laid.{Laid}
use Rattle.rtyper_layout.specs.Types.{type_of as element_type}
use Rattle.rtyper_data.specs.declared.body.Body.{Body}
use Rattle.rtyper_data.specs.declared.found.Found.{Found}
use Rattle.rtyper_data.specs.Converting.{present, given}
use Rattle.rtyper_data.specs.Seen.{Operand, Place, type_of, Writing, writing}
use Rattle.rtyper_class.specs.Attributes.{Standing as Stood, place_in, store, store_at, store_value, store_in}
use Rattle.rtyper_class.specs.Lowering.{lowered, of_some, of_two, set_attribute, set_attribute_of, instance_in, lower_class_op}
use Rattle.rtyper_class.specs.Seen.{World, laid}
use Rattle.lower_laws.specs.Asked.{Ask, all_asked}
use Rattle.lower_laws.specs.Values.{IsBelow, AllBelow}
use Rattle.lower_laws.proofs.Doing.{after}
use Rattle.lower_laws.proofs.Items.{gives_same}
use Rattle.lower_laws.proofs.Single.{sets}
use Rattle.lower_laws.proofs.Tupled.{given_same}
use Rattle.object_laws.specs.Done.{Follows, HasLayout, AllAsked, references}
use Rattle.object_laws.specs.Ghost.{Ghost, InstanceOf, Use, Whole, use_of}
use Rattle.object_laws.specs.Known.{Known, Standing}
use Rattle.object_laws.specs.Represents.{Represents, InstanceAt, Shows, is_settled, value_field, set_field, value_at, set_at}
use Rattle.object_laws.specs.Staying.{Stays}
use Rattle.object_laws.specs.Values.{Holds, Given}
use Rattle.object_laws.proofs.Blocks.{found_set, found_there}
use Rattle.object_laws.proofs.Changing.{IsOf, get_set_here, instance_changes, settled_wrote, uses_apart}
use Rattle.object_laws.proofs.Growing.{grown_none}
use Rattle.object_laws.proofs.Parts.{writes_part}
use Rattle.object_laws.proofs.Passing.{Passed, both_passed, operand_kept, is_set_at, is_kept_at, behind}
use Rattle.object_laws.proofs.Valued.{Instancing, Gone, instance_or_none, missing_instance, stays_typed, stays_there, stays_comes, stays_held, held_set}
use Rattle.object_laws.proofs.Variables.{InVariable, in_variable}
use Rattle.object_laws.proofs.Writing.{Written, other_field}
use Rattle.class_laws.specs.Asked.{Has}
use Rattle.class_laws.specs.Classes.{IsOf as IsOfWorld, IsLaidOut, HasFields, standing_of}
use Rattle.class_laws.specs.Done.{IsDone}
use Rattle.class_laws.specs.Instances.{IsInstance, present_asks, AttributesAreStored}
use Rattle.class_laws.proofs.Copied.{instance_comes}
use Rattle.class_laws.proofs.Fields.{Fielded, fielded}
use Rattle.class_laws.proofs.Lowered.{class_two}
use Rattle.class_laws.proofs.Naming.{named_same, named_other}
use Rattle.class_laws.proofs.Presence.{Present, presence}

at_most : (b : Bool) → cond b 1 0 ≤ 1
at_most true = omega arith
at_most false = omega arith

at_most_one : (v : Value) → reference_in v ≤ 1
at_most_one v = at_most (is_reference v)

abbrev is_true : COperand
is_true = Const (constant.Bool true)

same_standing : {s t : Standing} → Some s ≡ Some t → s ≡ t
same_standing h = cc

-- ---- the fields that are written

module _ (world : World) (known : Known) (out : IsLaidOut world known) (g : Ghost) (c : ℕ) (l : Laid) (laid_as : laid world c ≡ Some l) (fields : List Value) (attributes : List (List ℕ × Meant)) (name : List ℕ) (s : Standing) (value : Value) (v : Meant)
    (is : known.attribute c name ≡ Some s) (has : HasFields world.around.layout l s) (held : Holds world.around.layout known g (Some s.element) value v) (inside : set_at world.around.layout s < length fields) where
  abbrev at_value : ℕ
  at_value = value_at world.around.layout s

  abbrev at_set : ℕ
  at_set = set_at world.around.layout s

  abbrev fields1 : List Value
  fields1 = slice_set fields at_value value

  abbrev fields2 : List Value
  fields2 = slice_set fields1 at_set (Flag true)

  next : at_set ≡ at_value + 1
  next = has.next

  long_fields : length fields1 ≡ length fields
  long_fields = length-set fields at_value value

  value_there : read fields2 at_value ≡ value
  value_there = get_or-set_other fields1 at_set at_value (Flag true) Unset (λ e. omega (arith, next, e)) ∙ get_or-set_same fields at_value value Unset (omega (arith, next, inside))

  set_there : read fields2 at_set ≡ Flag true
  set_there = get_or-set_same fields1 at_set (Flag true) Unset (omega (arith, inside, long_fields))

  others : (k : ℕ) → (k ≡ at_value → ⊥) → (k ≡ at_set → ⊥) → read fields2 k ≡ read fields k
  others k not_value not_set = get_or-set_other fields1 at_set k (Flag true) Unset not_set ∙ get_or-set_other fields at_value k value Unset not_value

  pub first_stays : read fields2 0 ≡ read fields 0
  first_stays = (let f = has.first in others 0 (λ e. omega (arith, f, e)) (λ e. omega (arith, f, next, e)))

  abbrev ShowsAt : List Value → Option Meant → Standing → Type 0
  ShowsAt fs o t = Shows world.around.layout known g t.element o (read fs (value_at world.around.layout t)) (read fs (set_at world.around.layout t))

  shows_it : ShowsAt fields2 (Some v) s
  shows_it = (set_there, subst (λ x. Holds world.around.layout known g (Some s.element) x v) (sym value_there) held)

  pub shows_all : ((other : List ℕ) (t : Standing) → known.attribute c other ≡ Some t → ShowsAt fields (named other attributes) t) → (other : List ℕ) (t : Standing) → known.attribute c other ≡ Some t → ShowsAt fields2 (named other (with_name name v attributes)) t
  shows_all shows other t h = by (bytes_eq name other) refl
    where
      far : (set_at world.around.layout s < value_at world.around.layout t) ⊎ (set_at world.around.layout t < value_at world.around.layout s) → HasFields world.around.layout l t → ShowsAt fields2 (named other attributes) t
      far apart has_t =
          let next_t : set_at world.around.layout t ≡ value_at world.around.layout t + 1 = has_t.next in
          subst (λ y. Shows world.around.layout known g t.element (named other attributes) (read fields2 (value_at world.around.layout t)) y) (sym (others (set_at world.around.layout t) (λ e. off1 apart next_t e) (λ e. off2 apart next_t e)))
          (subst (λ x. Shows world.around.layout known g t.element (named other attributes) x (read fields (set_at world.around.layout t))) (sym (others (value_at world.around.layout t) (λ e. off3 apart next_t e) (λ e. off4 apart next_t e))) (shows other t h))
        where
          off1 : (at_set < value_at world.around.layout t) ⊎ (set_at world.around.layout t < at_value) → set_at world.around.layout t ≡ value_at world.around.layout t + 1 → set_at world.around.layout t ≡ at_value → ⊥
          off1 (inl k) n e = omega (arith, k, n, e, next)
          off1 (inr k) n e = omega (arith, k, e)

          off2 : (at_set < value_at world.around.layout t) ⊎ (set_at world.around.layout t < at_value) → set_at world.around.layout t ≡ value_at world.around.layout t + 1 → set_at world.around.layout t ≡ at_set → ⊥
          off2 (inl k) n e = omega (arith, k, n, e)
          off2 (inr k) n e = omega (arith, k, e, next)

          off3 : (at_set < value_at world.around.layout t) ⊎ (set_at world.around.layout t < at_value) → set_at world.around.layout t ≡ value_at world.around.layout t + 1 → value_at world.around.layout t ≡ at_value → ⊥
          off3 (inl k) n e = omega (arith, k, e, next)
          off3 (inr k) n e = omega (arith, k, n, e)

          off4 : (at_set < value_at world.around.layout t) ⊎ (set_at world.around.layout t < at_value) → set_at world.around.layout t ≡ value_at world.around.layout t + 1 → value_at world.around.layout t ≡ at_set → ⊥
          off4 (inl k) n e = omega (arith, k, e)
          off4 (inr k) n e = omega (arith, k, n, e, next)

      by : (b : Bool) → bytes_eq name other ≡ b → ShowsAt fields2 (named other (with_name name v attributes)) t
      by true e =
          let q : name ≡ other = (bytes_eq-Decides name other).0 e in
          let same : s ≡ t = same_standing (sym is ∙ ap (known.attribute c) q ∙ h) in
          subst (λ o. ShowsAt fields2 o t) (sym (ap (λ n. named n (with_name name v attributes)) (sym q) ∙ named_same name v attributes))
          (subst (ShowsAt fields2 (Some v)) same shows_it)
      by false e =
          subst (λ o. ShowsAt fields2 o t) (sym (named_other name other v attributes e))
          (far (out.apart c l name other s t laid_as is h (λ q. (let k : false ≡ true = sym e ∙ (bytes_eq-Decides name other).1 q in absurd (cc)))) (out.fields c l other t laid_as h))

-- ---- an attribute

module _ (world : World) (known : Known) (of : IsOfWorld world known) (out : IsLaidOut world known) (place : Place) (name : List ℕ) (a b : Operand) (w : Writing) (class : ℕ) (r : Bool) (l : Laid) (s : Stood)
    (inst : IsInstance world a.element class r l) (placed : place_in world class name ≡ Some s) (stay : Stays world.around.layout known b.element (Some s.element)) (gives : Stays world.around.layout known b.element place.element) where
  ent : Present world a r w
  ent = presence world a w r

  abbrev asks : List Ask
  asks = present_asks world a r w.found.covered

  abbrev first : Found
  first = all_asked asks w.found

  abbrev t : LlType
  t = element_type world.around.layout s.element

  abbrev body1 : Body
  body1 = record { types = w.body.types ++ ent.new; ops = w.body.ops ++ ent.ops }

  var : InVariable (type_of world.around a) ent.x body1
  var = in_variable (type_of world.around a) ent.x body1

  abbrev body2 : Body
  body2 = record { types = body1.types ++ var.new; ops = body1.ops ++ var.ops }

  abbrev sets_value : LlOp
  sets_value = op.SetField s.own var.x (value_field s.place) b.x

  abbrev sets_set : LlOp
  sets_set = op.SetField s.own var.x (set_field s.place) is_true

  abbrev puts : LlOp
  puts = op.Set place.variable b.x

  b_there : type_of world.around b ≡ type.Void → ⊥
  b_there h = stays_there stay (sym (stays_typed stay) ∙ h)

  abbrev last_body : Body
  last_body = record { types = body2.types; ops = (body2.ops ++ sets_value ∷ []) ++ sets_set ∷ [] }

  is_written : lower_class_op world (row.StoreAttr name) place (a ∷ b ∷ []) w ≡ writing first (record last_body { ops = last_body.ops ++ puts ∷ [] })
  unfolding lowered of_some of_two set_attribute store
  is_written =
      class_two world (row.StoreAttr name) place a b w (instance_comes a class r inst.is) (stays_comes stay)
      ∙ ap (λ e. set_attribute_of world place name a b (instance_in e) w) inst.is
      ∙ ap (λ at. store_at world place at a b (present world.around a r w)) placed
      ∙ ap (λ (made : COperand × Writing). store_value world place s a b made.0 (given world.around b t made.1)) ent.written
      ∙ ap (λ made. store_value world place s a b ent.x made) (given_same world.around b t (writing first body1) (stays_typed stay))
      ∙ ap (λ v. store_in world place s b b.x first v) var.written
      ∙ gives_same world.around place b.x (type_of world.around b) (writing first last_body) b_there (sym (stays_typed gives))

  -- ---- once it is in its variable

  module _ (p : LlProgram) (raised : ℕ → Value) (arguments : List (List ℕ)) (rest : List LlOp) (e : LlExit) (frames : List Frame) (core : Core) (g : Ghost) (most : ℕ) (one : 1 ≤ most) (meant : MeantWorld)
      (structs : HasLayout p world.around.layout)
      (stands : Represents world.around.layout known g meant.heap meant.left core.blocks core.statics) (left : meant.left ≡ core.steps)
      (inside : place.variable < length core.vars) (x : Value) (at : read core.vars var.x ≡ x) (value : Value) (value_at_b : operand core.vars b.x ≡ value)
      (c i : ℕ) (home : slice_get g.homes i ≡ Some (record { sort = InstanceOf c; head = x })) (below : is_below world.classes.classes c class ≡ true) (v : Meant) (held : Holds world.around.layout known g b.element value v) where
    here : InstanceAt world.around.layout known g meant.heap core.blocks core.statics c i x
    here = stands.instances c i x home

    f : Fielded p world known here.laid name c (standing_of s)
    f = fielded p world known of out structs c class here.laid l name s below here.is_laid inst.laid_as placed

    abbrev Here : State
    Here = At (sets_value ∷ sets_set ∷ puts ∷ rest) e frames core

    abbrev va : ℕ
    va = value_at world.around.layout (standing_of s)

    abbrev sa : ℕ
    sa = set_at world.around.layout (standing_of s)

    abbrev block : Block
    block = record { kind = here.laid.own; fields = here.fields; items = [] }

    abbrev block1 : Block
    block1 = other_field block va value

    abbrev block2 : Block
    block2 = other_field block1 sa (Flag true)

    value_set : is_unset value ≡ false
    value_set = held_set stands held

    w1 : Written p arguments (reference_in value) sets_value (sets_set ∷ puts ∷ rest) e frames core x block1
    w1 = writes_part p arguments (sets_set ∷ puts ∷ rest) e frames core s.own var.x (value_field s.place) va b.x block value f.begins f.value_is value_at_b value_set x at here.block_is

    w2 : Written p arguments 0 sets_set (puts ∷ rest) e frames w1.end x block2
    w2 = writes_part p arguments (puts ∷ rest) e frames w1.end s.own var.x (set_field s.place) sa is_true block1 (Flag true) f.begins f.set_is refl refl x (ap (λ vars. read vars var.x) w1.vars ∙ at) w1.wrote.there

    abbrev attributes2 : List (List ℕ × Meant)
    attributes2 = with_name name v here.attributes

    abbrev meant2 : MeantWorld
    meant2 = record meant { heap = slice_set meant.heap i (Instance c attributes2) }

    size_inside : sa < length here.fields
    size_inside = (let k = f.fields.inside in let z = here.size in omega (arith, k, z))

    apart_kind : is_settled world.around.layout here.laid.own ≡ false
    apart_kind = structs.classes_apart c here.laid here.is_laid

    represents : Represents world.around.layout known g meant2.heap meant.left w2.end.blocks w2.end.statics
    represents = instance_changes c i x attributes2 stands home (w2.wrote.made ∙ w1.wrote.made) (w2.wrote.fixed ∙ w1.wrote.fixed) others_stay
        (settled_wrote world.around.layout g (settled_wrote world.around.layout g stands.settled w1.wrote apart_kind) w2.wrote apart_kind) changed
      where
        others_stay : (y : Value) (u : Use) → use_of g y ≡ Some u → (IsOf i u → ⊥) → found w2.end.blocks w2.end.statics y ≡ found core.blocks core.statics y
        others_stay y u h apart =
            let other : y ≡ x → ⊥ = uses_apart g y x u (Whole i) h here.head_use (λ q. apart (subst (IsOf i) (sym q) refl)) in
            w2.wrote.others y other ∙ w1.wrote.others y other

        changed : InstanceAt world.around.layout known g meant2.heap w2.end.blocks w2.end.statics c i x
        changed = record {
          attributes = attributes2;
          object = get_set_here meant.heap i (Instance c attributes2) (Instance c here.attributes) here.object;
          laid = here.laid;
          is_laid = here.is_laid;
          fields = slice_set (slice_set here.fields va value) sa (Flag true);
          head_use = here.head_use;
          block_is = w2.wrote.there;
          size = length-set (slice_set here.fields va value) sa (Flag true) ∙ length-set here.fields va value ∙ here.size;
          vtable = first_stays world known out g c here.laid here.is_laid here.fields here.attributes name (standing_of s) value v f.is f.fields (stays_held stay held) size_inside ∙ here.vtable;
          shows = shows_all world known out g c here.laid here.is_laid here.fields here.attributes name (standing_of s) value v f.is f.fields (stays_held stay held) size_inside here.shows;
        }

    same_vars : w2.end.vars ≡ core.vars
    same_vars = w2.vars ∙ w1.vars

    stores : Follows 0 known world.around place p arguments Here rest e frames core g raised most (length w.body.types) meant (Gives v meant2)
    stores = record {
      end = after w2.end place.variable value;
      text = [];
      leads = leads_more (reference_in value + (0 + 0)) most (let k = at_most_one value in omega (arith, one, k))
          (leads_then w1.way (leads_then w2.way (sets value (ap (λ vars. operand vars b.x) same_vars ∙ value_at_b) value_set)));
      ghost = g;
      grown = grown_none;
      stands = represents;
      holds = subst (λ x. Holds world.around.layout known g place.element x v) (sym (is_set_at w2.end place.variable value (let q = ap length same_vars in omega (arith, inside, q)))) (stays_held gives held);
      few = (let p = w1.wrote.made in let q = w2.wrote.made in omega (arith, p, q));
      memory = w2.memory ∙ ap (λ (c : Core). record c { blocks = w2.end.blocks; statics = w2.end.statics }) w1.memory
          ∙ ap (λ t. forgotten (record core { blocks = w2.end.blocks; statics = w2.end.statics; steps = t })) (sym left);
      others = λ j lower other. is_kept_at w2.end place.variable j value other ∙ ap (λ vars. read vars j) same_vars;
      room = length-set w2.end.vars place.variable value ∙ ap length same_vars;
      function = w2.function ∙ w1.function;
      block = w2.block_at ∙ w1.block_at;
      out = sym (append-nil meant.out);
    }

  -- ---- the whole

  module _ (p : LlProgram) (numbers : Numbers) (raised : ℕ → Value) (arguments : List (List ℕ)) (rest : List LlOp) (e : LlExit) (frames : List Frame) (core : Core) (g : Ghost) (meant : MeantWorld)
      (structs : HasLayout p world.around.layout) (has : AllAsked (Has world p numbers raised core) asks w.found)
      (stands : Represents world.around.layout known g meant.heap meant.left core.blocks core.statics) (left : meant.left ≡ core.steps)
      (room : length w.body.types + length (ent.new ++ var.new) ≤ length core.vars) (inside : place.variable < length w.body.types) (under : AllBelow (length w.body.types) (a ∷ b ∷ [])) where
    abbrev tail : List LlOp
    tail = sets_value ∷ sets_set ∷ puts ∷ []

    abbrev Start : State
    Start = At (ent.ops ++ (var.ops ++ (tail ++ rest))) e frames core

    abbrev Did : ℕ → Answer → Type 0
    Did most answer = Follows 0 known world.around place p arguments Start rest e frames core g raised most (length w.body.types) meant answer

    long : length (ent.new ++ var.new) ≡ length ent.new + length var.new
    long = length-append ent.new var.new

    long1 : length body1.types ≡ length w.body.types + length ent.new
    long1 = length-append w.body.types ent.new

    more_below : (x : COperand) → IsBelow (length w.body.types) x → IsBelow (length body1.types) x
    more_below (Var v) h = omega (arith, h, long1)
    more_below (Const c) h = tt

    is_there : (most : ℕ) → 1 ≤ most → (v u : Meant) → Holds world.around.layout known g b.element (operand core.vars b.x) u → Instancing known g class (operand core.vars a.x) v → Did most (meant_op known.program w.found.covered (row.StoreAttr name) (v ∷ u ∷ []) meant)
    is_there most one v u held it =
        let x : Value = operand core.vars a.x in
        let old = stands.instances it.c it.i x it.home in
        let x_set : is_unset x ≡ false = found_set core.blocks core.statics x _ old.block_is in
        let went = ent.enters p numbers raised arguments (var.ops ++ (tail ++ rest)) e frames core has (omega (arith, room, long)) x_set (found_there core.blocks core.statics x _ old.block_is) in
        let mid : Core = went.0 in
        let passed : Passed (length w.body.types) core mid = went.2 in
        let got = var.enters p arguments (tail ++ rest) e frames mid (let q = passed.room in omega (arith, room, long, long1, q)) (ap is_unset went.3 ∙ x_set) in
        let end : Core = got.mid in
        let all : Passed (length w.body.types) core end = both_passed (omega (arith, long1)) passed got.passed in
        let stands_end : Represents world.around.layout known g meant.heap meant.left end.blocks end.statics = subst (λ (c : Core). Represents world.around.layout known g meant.heap meant.left c.blocks c.statics) (sym all.memory) stands in
        let above : meant_op known.program w.found.covered (row.StoreAttr name) (v ∷ u ∷ []) meant ≡ set_meant known.program w.found.covered name it.i u (slice_get meant.heap it.i) meant = ap (λ v. meant_op known.program w.found.covered (row.StoreAttr name) (v ∷ u ∷ []) meant) it.high in
        let wide : place.variable < length end.vars = (let q = all.room in omega (arith, inside, room, q)) in
        let below : is_below world.classes.classes it.c class ≡ true = sym (of.below it.c class) ∙ it.below in
        let ready = here p raised arguments rest e frames end g most one meant structs stands_end (left ∙ sym (ap (λ (c : Core). c.steps) all.memory)) wide x (got.is ∙ went.3) (operand core.vars b.x) (operand_kept all b.x under.1.0) it.c it.i it.home below u held in
        subst (Did most) (sym (above ∙ ap (λ o. set_meant known.program w.found.covered name it.i u o meant) ready.object))
        (behind 0 known world.around place p arguments rest e frames core g raised most (length w.body.types) meant all (leads_more (0 + 0) 0 (omega arith) (leads_then went.1 got.way)) (Gives u (record meant { heap = slice_set meant.heap it.i (Instance it.c (with_name name u ready.attributes)) })) tt
        (stores p raised arguments rest e frames end g most one meant structs stands_end (left ∙ sym (ap (λ (c : Core). c.steps) all.memory)) wide x (got.is ∙ went.3) (operand core.vars b.x) (operand_kept all b.x under.1.0) it.c it.i it.home below u held))

    missing : (most : ℕ) (v u : Meant) → r ≡ true → Gone (missing_instance true) a.element (operand core.vars a.x) v → Did most (meant_op known.program w.found.covered (row.StoreAttr name) (v ∷ u ∷ []) meant)
    missing most v u may gone = subst (λ v. Did most (meant_op known.program w.found.covered (row.StoreAttr name) (v ∷ u ∷ []) meant)) (sym gone.high)
        (subst (λ l. Follows 0 known world.around place p arguments (At (ent.ops ++ l) e frames core) rest e frames core g raised most (length w.body.types) meant (meant_op known.program w.found.covered (row.StoreAttr name) (Nothing ∷ u ∷ []) meant)) (append_assoc var.ops tail rest)
        (ent.misses 0 known place p numbers raised arguments (var.ops ++ tail) rest e frames core g most meant has may gone.low))

    either : (most : ℕ) → 1 ≤ most → (v u : Meant) → Holds world.around.layout known g b.element (operand core.vars b.x) u → Instancing known g class (operand core.vars a.x) v ⊎ ((r ≡ true) × Gone (missing_instance true) a.element (operand core.vars a.x) v) → Did most (meant_op known.program w.found.covered (row.StoreAttr name) (v ∷ u ∷ []) meant)
    either most one v u held (inl it) = is_there most one v u held it
    either most one v u held (inr gone) = missing most v u gone.0 gone.1

    regroup : (ent.ops ++ (var.ops ++ tail)) ++ rest ≡ ent.ops ++ (var.ops ++ (tail ++ rest))
    regroup = append_assoc ent.ops (var.ops ++ tail) rest ∙ ap (λ l. ent.ops ++ l) (append_assoc var.ops tail rest)

    follow : (vs : List Meant) → Given known world.around g core (a ∷ b ∷ []) vs → Follows 0 known world.around place p arguments (At ((ent.ops ++ (var.ops ++ tail)) ++ rest) e frames core) rest e frames core g raised (references meant.heap vs) (length w.body.types) meant (meant_op known.program w.found.covered (row.StoreAttr name) vs meant)
    follow [] given = absurd given
    follow (v ∷ []) given = absurd given.1
    follow (v ∷ u ∷ []) given = subst (λ l. Follows 0 known world.around place p arguments (At l e frames core) rest e frames core g raised (references meant.heap (v ∷ u ∷ [])) (length w.body.types) meant (meant_op known.program w.found.covered (row.StoreAttr name) (v ∷ u ∷ []) meant)) (sym regroup)
        (either (references meant.heap (v ∷ u ∷ [])) (omega arith) v u given.1.0 (instance_or_none class r inst.is given.0))
    follow (v ∷ u ∷ z ∷ vs) given = absurd given.1.1

  five_behind : {A : Type 0} (xs ys zs us : List A) → ((xs ++ ys) ++ zs) ++ us ≡ xs ++ (ys ++ (zs ++ us))
  five_behind xs ys zs us = append_assoc (xs ++ ys) zs us ∙ append_assoc xs ys (zs ++ us)

  three_last : {A : Type 0} (xs : List A) (a b c : A) → ((xs ++ a ∷ []) ++ b ∷ []) ++ c ∷ [] ≡ xs ++ a ∷ b ∷ c ∷ []
  three_last xs a b c = append_assoc (xs ++ a ∷ []) (b ∷ []) (c ∷ []) ∙ append_assoc xs (a ∷ []) (b ∷ c ∷ [])

  pub store_done : IsDone 0 world known (row.StoreAttr name) w.found.covered asks place (a ∷ b ∷ []) w
  store_done = record {
    ops = ent.ops ++ (var.ops ++ (sets_value ∷ sets_set ∷ puts ∷ []));
    new = ent.new ++ var.new;
    asked = ap (λ (r : Writing). r.found) is_written;
    written = ap (λ (r : Writing). r.body.ops) is_written ∙ three_last body2.ops sets_value sets_set puts ∙ five_behind w.body.ops ent.ops var.ops (sets_value ∷ sets_set ∷ puts ∷ []);
    types = ap (λ (r : Writing). r.body.types) is_written ∙ append_assoc w.body.types ent.new var.new;
    follows = λ p numbers raised arguments rest e frames core g meant vs structs has stands left room inside below given good. follow p numbers raised arguments rest e frames core g meant structs has stands left room inside below vs given;
  }

pub attributes_are_stored : AttributesAreStored
attributes_are_stored world known of out place name a b w class r l s inst placed stay gives = store_done world known of out place name a b w class r l s inst placed stay gives
