-- Whether an instance is one of a class.
use Rattle.std.proofs.Common.{◌≡◌, ◌<◌, ◌≤◌, ◌↔◌, ℕ, ◌+◌, ◌-◌, ◌⊎◌, inl, inr, Bool, true, false, ◌||◌, ◌&&◌, List, [], ◌∷◌, ◌++◌, length, Some, Ok, pos, refl, sym, ap, ◌∙◌, subst, arith, append_assoc}
use Rattle.std.specs.Prelude.{int_le, int_lt, not, IsTrue}
use Rattle.std.specs.Int.{w64, int_bit_and}
use Rattle.std.specs.Ordering.{int_eq}
use Rattle.std.proofs.lemmas.Bool.Decides.{nat_tests}
use Rattle.csub_tree.specs.State.{Value, Word, Flag, Null, Block, Core}
use Rattle.csub_tree.specs.Layout.{shape_at, begins_with, place as place_of}
use Rattle.csub_tree.specs.Operation.{is_unset, word_of_flag}
use Rattle.csub_tree.specs.Statement.{read, operand}
use Rattle.csub_tree.specs.declared.tree.COperand.TheVariants.{Var}
use Rattle.rpy_tree.specs.Value.{Value as Meant, Flag as MeantFlag}
use Rattle.rpy_meaning.specs.declared.row.Covers.{Covers}
use Rattle.rpy_meaning.specs.declared.row.RowOp.TheVariants as row
use Rattle.rpy_meaning.specs.Operations.{op as meant_op, is_instance_object}
use Rattle.rpy_meaning.specs.World.{World as MeantWorld, Answer, Gives}
use Rattle.class_desc.specs.Line.{is_below}
use Rattle.class_desc.specs.Range.{range}
use Rattle.ll_code.specs.State.{Frame, Calling, At}
use Rattle.ll_code.specs.Machine.{shapes_of}
use Rattle.ll_code.specs.declared.program.LlType.TheVariants as type
use Rattle.ll_code.specs.declared.program.LlOp.{LlOp}
use Rattle.ll_code.specs.declared.program.LlOp.TheVariants as op
use Rattle.ll_code.specs.declared.program.LlExit.{LlExit}
use Rattle.ll_code.specs.declared.program.LlProgram.{LlProgram}
use Rattle.ll_build.specs.declared.needs.Numbers.{Numbers}
use Rattle.ll_leads.proofs.Ways.{Comes, on, many, enter, gives, turns}
use Rattle.ll_texts.specs.Texts.{found}
use Rattle.rtyper_layout.specs.declared.classes.Laid.{Laid}
use Rattle.rtyper_layout.specs.declared.kind.Kind.TheVariants as kind
use Rattle.rtyper_layout.specs.declared.layout.Layout.{Layout}
use Rattle.rtyper_layout.specs.Kinds.{kind_seen}
use Rattle.rtyper_data.specs.declared.small.Small.{Small}
use Rattle.rtyper_data.specs.declared.small.Small.TheVariants as small
use Rattle.rtyper_data.specs.Converting.{by_small}
use Rattle.rtyper_data.specs.Finding.{small_number}
use Rattle.rtyper_data.specs.Seen.{Operand, Place, type_at, Writing, writing}
use Rattle.rtyper_class.specs.Instances.{is_instance as is_instance_graph}
use Rattle.rtyper_class.specs.Lowering.{lowered, of_some, of_one, is_instance, is_instance_by, is_instance_on, instance_in, lower_class_op}
use Rattle.rtyper_class.specs.Seen.{World}
use Rattle.lower_laws.specs.Asked.{Make}
use Rattle.lower_laws.specs.Values.{is_plain}
use Rattle.lower_laws.proofs.Doing.{after}
use Rattle.lower_laws.proofs.Single.{sets, gives_flag}
use Rattle.lower_laws.proofs.Typing.{place_of_flags}
use Rattle.object_laws.specs.Done.{Follows, HasLayout}
use Rattle.object_laws.specs.Ghost.{Ghost}
use Rattle.object_laws.specs.Known.{Known, vtable_block}
use Rattle.object_laws.specs.Represents.{Represents, InstanceAt, shapes}
use Rattle.object_laws.specs.Values.{Plain, Stands, flag, Given}
use Rattle.object_laws.proofs.Blocks.{found_set, found_there}
use Rattle.object_laws.proofs.Parts.{reads_part}
use Rattle.object_laws.proofs.Passing.{none_passed, sets_more, sets_last, is_set_at, calls_at}
use Rattle.object_laws.proofs.Valued.{Instancing, Gone, instance_or_none, missing_instance}
use Rattle.class_laws.specs.Asked.{HasClass}
use Rattle.class_laws.specs.Classes.{IsOf, IsLaidOut, IsTop}
use Rattle.class_laws.specs.Done.{IsDone}
use Rattle.class_laws.specs.Instances.{IsInstance, InstancesAreTold}
use Rattle.class_laws.proofs.Copied.{instance_comes}
use Rattle.class_laws.proofs.Fields.{begins_in, place_in_struct}
use Rattle.class_laws.proofs.Lowered.{class_one}

-- ---- numbers in a range

both_bits : (a b : Bool) → int_bit_and w64 (word_of_flag a) (word_of_flag b) ≡ word_of_flag (a && b)
both_bits true true = refl
both_bits true false = refl
both_bits false true = refl
both_bits false false = refl

is_bit : (b : Bool) → not (int_eq (word_of_flag b) (pos 0)) ≡ b
is_bit true = refl
is_bit false = refl

at_most : (m n : ℕ) → m ≤ n → int_le (pos m) (pos n) ≡ true
at_most m n h = grind (arith, nat_tests, h)

is_at_most : (m n : ℕ) → int_le (pos m) (pos n) ≡ true → m ≤ n
is_at_most m n h = grind (arith, nat_tests, h)

less : (m n : ℕ) → m < n → int_lt (pos m) (pos n) ≡ true
less m n h = grind (arith, nat_tests, h)

is_less : (m n : ℕ) → int_lt (pos m) (pos n) ≡ true → m < n
is_less m n h = grind (arith, nat_tests, h)

abbrev pub in_range : ℕ → ℕ → ℕ → Bool
in_range low n high = int_le (pos low) (pos n) && int_lt (pos n) (pos high)

pub told : (b : Bool) (low n high : ℕ) → (IsTrue b ↔ ((low ≤ n) × (n < high))) → b ≡ in_range low n high
told true low n high h = (let k = h.0 refl in sym (ap (λ c. c && int_lt (pos n) (pos high)) (at_most low n k.0) ∙ less n high k.1))
told false low n high h = by (int_le (pos low) (pos n)) (int_lt (pos n) (pos high)) refl refl
  where
    by : (a b : Bool) → int_le (pos low) (pos n) ≡ a → int_lt (pos n) (pos high) ≡ b → false ≡ a && b
    by true true e f = h.1 (is_at_most low n e, is_less n high f)
    by true false e f = refl
    by false b e f = refl

-- ---- the graph

pub zero_place : (layout : Layout) (n : ℕ) → IsTop layout n → place_of (shape_at (shapes layout) n) 0 ≡ 0
zero_place layout n top = ap (λ own. own + (0 - (shape_at (shapes layout) n).first)) top.own ∙ (let e : 0 + (0 - (shape_at (shapes layout) n).first) ≡ 0 = omega arith in e)

module _ (p : LlProgram) (world : World) (arguments : List (List ℕ)) (raised : ℕ → Value) (root vtable low high f : ℕ) (has : HasClass p world raised (small.IsInstance root vtable low high) f) (core : Core) where
  pub none_comes : (waits : List Frame) → Comes p arguments (Calling f (Null ∷ []) waits core) [] (Flag false) waits core
  unfolding is_instance_graph
  none_comes waits = record {
    end = _;
    same = refl;
    leads = on (enter has.graph refl) (on (gives (Flag true) refl) (many 2 has.graph refl refl));
  }

  pub told_comes : (x y : Value) (block table : Block) (n : ℕ) → begins_with (shapes_of p.structs) block.kind root ≡ true → begins_with (shapes_of p.structs) table.kind vtable ≡ true
      → place_of (shape_at (shapes_of p.structs) root) 0 ≡ 0 → place_of (shape_at (shapes_of p.structs) vtable) 0 ≡ 0 → found core.blocks core.statics x ≡ Some block → found core.blocks core.statics y ≡ Some table
      → read block.fields 0 ≡ y → read table.fields 0 ≡ Word (pos n) → (waits : List Frame) → Comes p arguments (Calling f (x ∷ []) waits core) [] (Flag (in_range low n high)) waits core
  unfolding is_instance_graph
  told_comes x y block table n begins table_begins at table_at is table_is vtable_is number_is waits =
      let a : Bool = int_le (pos low) (pos n) in
      let b : Bool = int_lt (pos n) (pos high) in
      record {
        end = _;
        same = refl;
        leads = on (enter has.graph refl)
            (on (gives (Flag false) (found_there core.blocks core.statics x block is))
            (on (many 1 has.graph refl (ap (λ b. b || false) (found_set core.blocks core.statics x block is)))
            (on (reads_part block y begins is (found_set core.blocks core.statics y table table_is) 0 0 at vtable_is)
            (on (reads_part table (Word (pos n)) table_begins table_is refl 0 0 table_at number_is)
            (on (gives (Flag a) refl)
            (on (turns (Word (word_of_flag a)) refl)
            (on (gives (Flag b) refl)
            (on (turns (Word (word_of_flag b)) refl)
            (on (gives (Word (word_of_flag (a && b))) (ap (λ z. Ok (Word z)) (both_bits a b)))
            (on (gives (Flag (a && b)) (ap (λ c. Ok (Flag c)) (is_bit (a && b))))
            (many 1 has.graph refl refl)))))))))));
      }

-- ---- the operation

module _ (world : World) (known : Known) (of_world : IsOf world known) (out : IsLaidOut world known) (place : Place) (a : Operand) (w : Writing) (of class : ℕ) (r : Bool) (l : Laid) (covers : Covers)
    (inst : IsInstance world a.element class r l) (inside_of : of < length world.classes.classes) (flags : kind_seen place.element ≡ kind.Flag) where
  abbrev low : ℕ
  low = (range world.classes.classes of).0

  abbrev high : ℕ
  high = (range world.classes.classes of).1

  abbrev graph : Small
  graph = small.IsInstance l.root l.vtable low high

  abbrev number : ℕ
  number = (small_number graph w.found).0

  abbrev m : ℕ
  m = length w.body.types

  abbrev calls : LlOp
  calls = op.Call (Some m) number (a.x ∷ [])

  abbrev puts : LlOp
  puts = op.Set place.variable (Var m)

  ht : type_at world.around place ≡ type.Bool
  ht = place_of_flags world.around.layout place.element flags

  is_written : lower_class_op world (row.IsInstance of) place (a ∷ []) w ≡ writing (small_number graph w.found).1 (record { types = w.body.types ++ type.Bool ∷ []; ops = (w.body.ops ++ calls ∷ []) ++ puts ∷ [] })
  unfolding lowered of_some of_one is_instance by_small
  is_written =
      class_one world (row.IsInstance of) place a w (instance_comes a class r inst.is)
      ∙ ap (λ e. is_instance_on world (row.IsInstance of) place of a (instance_in e) w) inst.is
      ∙ ap (λ l. is_instance_by world place (range world.classes.classes of) a l w) inst.laid_as
      ∙ gives_flag world.around place (Var m) (writing (small_number graph w.found).1 (record { types = w.body.types ++ type.Bool ∷ []; ops = w.body.ops ++ calls ∷ [] })) ht

  module _ (p : LlProgram) (raised : ℕ → Value) (arguments : List (List ℕ)) (rest : List LlOp) (e : LlExit) (frames : List Frame) (core : Core) (g : Ghost) (most : ℕ) (meant : MeantWorld)
      (structs : HasLayout p world.around.layout) (has : HasClass p world raised graph number)
      (stands : Represents world.around.layout known g meant.heap meant.left core.blocks core.statics) (left : meant.left ≡ core.steps)
      (room : m + 1 ≤ length core.vars) (inside : place.variable < m) where
    abbrev Done : Answer → Type 0
    Done answer = Follows 0 known world.around place p arguments (At (calls ∷ puts ∷ rest) e frames core) rest e frames core g raised most m meant answer

    gives_it : (x : Value) (b : Bool) → operand core.vars a.x ≡ x → is_unset x ≡ false → ((waits : List Frame) → Comes p arguments (Calling number (x ∷ []) waits core) [] (Flag b) waits core) → Done (Gives (MeantFlag b) meant)
    gives_it x b at set comes = sets_last most m (after core m (Flag b)) (Flag b) (MeantFlag b) stands left (sets_more m (Flag b) (omega arith) none_passed) (omega (arith, inside, room))
        (on (calls_at (ap (λ y. y ∷ []) at) (ap (λ c. c || false) set) comes) (sets (Flag b) (is_set_at core m (Flag b) (omega (arith, room))) refl))
        (Plain (ap is_plain flags) (subst (λ t. Stands g t (Flag b) (MeantFlag b)) (sym ht) (flag b)))

    is_there : (v : Meant) → Instancing known g class (operand core.vars a.x) v → Done (meant_op known.program covers (row.IsInstance of) (v ∷ []) meant)
    is_there v it =
        let x : Value = operand core.vars a.x in
        let here : InstanceAt world.around.layout known g meant.heap core.blocks core.statics it.c it.i x = stands.instances it.c it.i x it.home in
        let k : Laid = here.laid in
        let below : is_below world.classes.classes it.c class ≡ true = sym (of_world.below it.c class) ∙ it.below in
        let same = out.inherits it.c class k l below here.is_laid inst.laid_as in
        let top = out.root class l inst.laid_as in
        let table_top = out.vtable class l inst.laid_as in
        let root_in : begins_with (shapes world.around.layout) k.own l.root ≡ true = subst (λ n. begins_with (shapes world.around.layout) k.own n ≡ true) same.0 (out.root it.c k here.is_laid).1 in
        let table : Block = vtable_block k.vtable (known.vtable it.c) in
        let table_is : found core.blocks core.statics (known.vtable it.c).at ≡ Some table = stands.stays (known.vtable it.c).at table (stands.vtables it.c k here.is_laid) in
        let table_in : begins_with (shapes world.around.layout) k.vtable l.vtable ≡ true = subst (λ n. begins_with (shapes world.around.layout) n l.vtable ≡ true) (sym same.1) table_top.1 in
        let bound : k.vtable < length world.around.layout.structs = subst (λ n. n < length world.around.layout.structs) (sym same.1) table_top.0.struct in
        let n : ℕ = (range world.classes.classes it.c).0 in
        let tells : is_below world.classes.classes it.c of ≡ in_range low n high = told (is_below world.classes.classes it.c of) low n high (of_world.exact it.c of (out.class it.c k here.is_laid).0 inside_of) in
        let above : meant_op known.program covers (row.IsInstance of) (v ∷ []) meant ≡ Gives (MeantFlag (in_range low n high)) meant =
        ap (λ v. meant_op known.program covers (row.IsInstance of) (v ∷ []) meant) it.high ∙ ap (λ o. is_instance_object known.program covers of o meant) here.object ∙ ap (λ b. Gives (MeantFlag b) meant) (of_world.below it.c of ∙ tells) in
        subst Done (sym above) (gives_it x (in_range low n high) refl (found_set core.blocks core.statics x _ here.block_is)
        (told_comes p world arguments raised l.root l.vtable low high number has core x (known.vtable it.c).at (record { kind = k.own; fields = here.fields; items = [] }) table n
        (begins_in p world l.root k.own structs (out.class it.c k here.is_laid).1 root_in) (begins_in p world l.vtable k.vtable structs bound table_in)
        (place_in_struct p world l.root 0 structs top.0.struct ∙ zero_place world.around.layout l.root top.0) (place_in_struct p world l.vtable 0 structs table_top.0.struct ∙ zero_place world.around.layout l.vtable table_top.0)
        here.block_is table_is here.vtable (ap (λ n. Word (pos n)) (of_world.number it.c))))

    either : (v : Meant) → Instancing known g class (operand core.vars a.x) v ⊎ ((r ≡ true) × Gone (missing_instance true) a.element (operand core.vars a.x) v) → Done (meant_op known.program covers (row.IsInstance of) (v ∷ []) meant)
    either v (inl it) = is_there v it
    either v (inr gone) = subst (λ v. Done (meant_op known.program covers (row.IsInstance of) (v ∷ []) meant)) (sym gone.1.high) (gives_it Null false gone.1.low refl (none_comes p world arguments raised l.root l.vtable low high number has core))

  follow : (p : LlProgram) (numbers : Numbers) (raised : ℕ → Value) (arguments : List (List ℕ)) (rest : List LlOp) (e : LlExit) (frames : List Frame) (core : Core) (g : Ghost) (meant : MeantWorld) (most : ℕ) → HasLayout p world.around.layout → HasClass p world raised graph number
      → Represents world.around.layout known g meant.heap meant.left core.blocks core.statics → meant.left ≡ core.steps → m + 1 ≤ length core.vars → place.variable < m → (vs : List Meant) → Given known world.around g core (a ∷ []) vs
      → Follows 0 known world.around place p arguments (At (calls ∷ puts ∷ rest) e frames core) rest e frames core g raised most m meant (meant_op known.program covers (row.IsInstance of) vs meant)
  follow p numbers raised arguments rest e frames core g meant most structs has stands left room inside [] given = absurd given
  follow p numbers raised arguments rest e frames core g meant most structs has stands left room inside (v ∷ []) given = either p raised arguments rest e frames core g most meant structs has stands left room inside v (instance_or_none class r inst.is given.0)
  follow p numbers raised arguments rest e frames core g meant most structs has stands left room inside (v ∷ u ∷ vs) given = absurd given.1

  pub told_done : IsDone 0 world known (row.IsInstance of) covers (Make graph ∷ []) place (a ∷ []) w
  told_done = record {
    ops = calls ∷ puts ∷ [];
    new = type.Bool ∷ [];
    asked = ap (λ (r : Writing). r.found) is_written;
    written = ap (λ (r : Writing). r.body.ops) is_written ∙ append_assoc w.body.ops (calls ∷ []) (puts ∷ []);
    types = ap (λ (r : Writing). r.body.types) is_written;
    follows = λ p numbers raised arguments rest e frames core g meant vs structs has stands left room inside below given good. follow p numbers raised arguments rest e frames core g meant _ structs has.0 stands left room inside vs given;
  }

pub instances_are_told : InstancesAreTold
instances_are_told world known of_world out place a w of class r l covers inst inside flags = told_done world known of_world out place a w of class r l covers inst inside flags
