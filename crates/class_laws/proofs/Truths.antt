-- Whether an instance counts as true.
use Rattle.std.proofs.Common.{◌≡◌, ◌<◌, ◌≤◌, ℕ, ◌+◌, ◌⊎◌, inl, inr, Bool, true, false, List, [], ◌∷◌, ◌++◌, length, Some, Ok, refl, sym, ap, ◌∙◌, subst, arith, append_assoc, length-append}
use Rattle.std.specs.Prelude.{not}
use Rattle.std.proofs.lemmas.List.{append-nil}
use Rattle.ann_element.specs.declared.element.Element.TheVariants as element
use Rattle.csub_tree.specs.State.{Value, Flag, Null, Core}
use Rattle.csub_tree.specs.Operation.{compared, unary_of}
use Rattle.csub_tree.specs.Statement.{operand}
use Rattle.csub_tree.specs.declared.tree.CBinary.TheVariants as binary
use Rattle.csub_tree.specs.declared.tree.CUnary.TheVariants as unary
use Rattle.csub_tree.specs.declared.tree.COperand.TheVariants.{Var}
use Rattle.rpy_tree.specs.Value.{Value as Meant, Flag as MeantFlag}
use Rattle.rpy_meaning.specs.declared.row.Covers.{Covers}
use Rattle.rpy_meaning.specs.declared.row.RowOp.{RowOp}
use Rattle.rpy_meaning.specs.declared.row.RowOp.TheVariants as row
use Rattle.rpy_meaning.specs.Compare.{object_truth}
use Rattle.rpy_meaning.specs.Operations.{op as meant_op, opposite, truth_in}
use Rattle.rpy_meaning.specs.World.{World as MeantWorld, Gives, flag_if_any}
use Rattle.ll_code.specs.State.{Frame, At}
use Rattle.ll_code.specs.declared.program.LlType.TheVariants as type
use Rattle.ll_code.specs.declared.program.LlOp.{LlOp}
use Rattle.ll_code.specs.declared.program.LlOp.TheVariants as op
use Rattle.ll_code.specs.declared.program.LlExit.{LlExit}
use Rattle.ll_code.specs.declared.program.LlProgram.{LlProgram}
use Rattle.ll_leads.proofs.Ways.{on, gives, turns}
use Rattle.rtyper_layout.specs.declared.kind.Kind.TheVariants as kind
use Rattle.rtyper_layout.specs.Kinds.{kind_seen}
use Rattle.rtyper_data.specs.Comparing.{null, flag as flag_operand, opposite_if}
use Rattle.rtyper_op.specs.Lowering.{of_some, of_one}
use Rattle.rtyper_data.specs.Numbers.{give_unary}
use Rattle.rtyper_data.specs.Seen.{Operand, Place, type_at, Writing, writing}
use Rattle.rtyper_op.specs.Texts.{truth_of, truth_by, tested_to}
use Rattle.rtyper_list.specs.Lowering.{lowered as list_lowered, of_some as list_of_some, first_of_one}
use Rattle.rtyper_class.specs.Lowering.{lowered as class_lowered, of_some as class_of_some, of_one as class_of_one, lower_class_op}
use Rattle.rtyper_class.specs.Seen.{World}
use Rattle.lower_laws.proofs.Coming.{one_comes}
use Rattle.lower_laws.proofs.Doing.{after, sets_place}
use Rattle.lower_laws.proofs.Single.{sets, gives_flag}
use Rattle.lower_laws.proofs.Typing.{place_of_flags}
use Rattle.object_laws.specs.Done.{Follows, references}
use Rattle.object_laws.specs.Ghost.{Ghost}
use Rattle.object_laws.specs.Known.{Known}
use Rattle.object_laws.specs.Represents.{Represents}
use Rattle.object_laws.specs.Values.{Given}
use Rattle.object_laws.proofs.Blocks.{found_there}
use Rattle.object_laws.proofs.Passing.{none_passed, sets_more, is_set_at}
use Rattle.object_laws.proofs.Valued.{Instancing, Gone, instance_or_none, missing_instance}
use Rattle.class_laws.specs.Done.{IsDone}
use Rattle.class_laws.specs.Instances.{IsTruth}
use Rattle.class_laws.proofs.Comparing.{gives_flags, kind_is}
use Rattle.class_laws.proofs.Copied.{instance_comes}
use Rattle.class_laws.proofs.Lowered.{one_plain}

-- what an instance tells, or one that may be missing
record Tells (known : Known) (world : World) (a : Operand) (core : Core) (g : Ghost) (meant : MeantWorld) (v : Meant) : Type 0 where
  truth : Bool
  low : compared (operand core.vars a.x) Null ≡ Ok (Flag (not truth))
  high : truth_in meant v ≡ Some truth

module _ (world : World) (known : Known) (place : Place) (a : Operand) (w : Writing) (c : ℕ) (covers : Covers) (flags : kind_seen place.element ≡ kind.Flag) where
  abbrev m : ℕ
  m = length w.body.types

  abbrev m2 : ℕ
  m2 = length (w.body.types ++ type.Bool ∷ [])

  ht : type_at world.around place ≡ type.Bool
  ht = place_of_flags world.around.layout place.element flags

  m2_is : m2 ≡ m + 1
  m2_is = length-append w.body.types (type.Bool ∷ [])

  tells : (r : Bool) → a.element ≡ Some (element.Instance c r) → (core : Core) (g : Ghost) (meant : MeantWorld) (v : Meant) → Represents world.around.layout known g meant.heap meant.left core.blocks core.statics
      → Instancing known g c (operand core.vars a.x) v ⊎ ((r ≡ true) × Gone (missing_instance true) a.element (operand core.vars a.x) v) → Tells known world a core g meant v
  tells r ha core g meant v stands (inl it) =
      let here = stands.instances it.c it.i (operand core.vars a.x) it.home in
      record { truth = true; low = found_there core.blocks core.statics (operand core.vars a.x) _ here.block_is; high = ap (truth_in meant) it.high ∙ ap object_truth here.object }
  tells r ha core g meant v stands (inr gone) = record { truth = false; low = ap (λ x. compared x Null) gone.1.low; high = ap (truth_in meant) gone.1.high }

  true_only : (r : Bool) → r ≡ false → (core : Core) (g : Ghost) (meant : MeantWorld) (v : Meant) → Represents world.around.layout known g meant.heap meant.left core.blocks core.statics
      → Instancing known g c (operand core.vars a.x) v ⊎ ((r ≡ true) × Gone (missing_instance true) a.element (operand core.vars a.x) v) → truth_in meant v ≡ Some true
  true_only r never core g meant v stands (inl it) = ap (truth_in meant) it.high ∙ ap object_truth (stands.instances it.c it.i (operand core.vars a.x) it.home).object
  true_only r never core g meant v stands (inr gone) = absurd (let q : false ≡ true = sym never ∙ gone.0 in cc)

  -- ---- one that is there

  module _ (ha : a.element ≡ Some (element.Instance c false)) where
    there_written : lower_class_op world row.Truth place (a ∷ []) w ≡ writing w.found (record { types = w.body.types; ops = w.body.ops ++ op.Set place.variable (flag_operand true) ∷ [] })
    unfolding class_lowered class_of_some class_of_one list_lowered list_of_some first_of_one of_some of_one truth_of
    there_written = one_plain world row.Truth place a w (instance_comes a c false ha) refl refl refl refl ∙ one_comes world.around row.Truth place a w (instance_comes a c false ha)
        ∙ ap (λ k. tested_to world.around place false (truth_by k world.around a w).0 (truth_by k world.around a w).1) (kind_is a c false ha) ∙ gives_flag world.around place (flag_operand true) w ht

    there_not_written : lower_class_op world row.Not place (a ∷ []) w ≡ writing w.found (record { types = w.body.types; ops = w.body.ops ++ op.Set place.variable (flag_operand false) ∷ [] })
    unfolding class_lowered class_of_some class_of_one list_lowered list_of_some first_of_one of_some of_one truth_of
    there_not_written = one_plain world row.Not place a w (instance_comes a c false ha) refl refl refl refl ∙ one_comes world.around row.Not place a w (instance_comes a c false ha)
        ∙ ap (λ k. tested_to world.around place true (truth_by k world.around a w).0 (truth_by k world.around a w).1) (kind_is a c false ha) ∙ gives_flag world.around place (flag_operand false) w ht

    module _ (o : RowOp) (t : Bool) (written : lower_class_op world o place (a ∷ []) w ≡ writing w.found (record { types = w.body.types; ops = w.body.ops ++ op.Set place.variable (flag_operand t) ∷ [] }))
        (means : (v : Meant) (meant : MeantWorld) → truth_in meant v ≡ Some true → meant_op known.program covers o (v ∷ []) meant ≡ Gives (MeantFlag t) meant) where
      there_follow : (p : LlProgram) (raised : ℕ → Value) (arguments : List (List ℕ)) (rest : List LlOp) (e : LlExit) (frames : List Frame) (core : Core) (g : Ghost) (meant : MeantWorld) (most : ℕ) → Represents world.around.layout known g meant.heap meant.left core.blocks core.statics → meant.left ≡ core.steps
          → m + 0 ≤ length core.vars → place.variable < m → (vs : List Meant) → Given known world.around g core (a ∷ []) vs
          → Follows 0 known world.around place p arguments (At (op.Set place.variable (flag_operand t) ∷ rest) e frames core) rest e frames core g raised most m meant (meant_op known.program covers o vs meant)
      there_follow p raised arguments rest e frames core g meant most stands left room inside [] given = absurd given
      there_follow p raised arguments rest e frames core g meant most stands left room inside (v ∷ []) given =
          subst (λ answer. Follows 0 known world.around place p arguments (At (op.Set place.variable (flag_operand t) ∷ rest) e frames core) rest e frames core g raised most m meant answer) (sym (means v meant (true_only false refl core g meant v stands (instance_or_none c false ha given.0))))
          (gives_flags world raised flags most m core t stands left none_passed (omega (arith, inside, room)) (sets (Flag t) refl refl))
      there_follow p raised arguments rest e frames core g meant most stands left room inside (v ∷ u ∷ vs) given = absurd given.1

      there_done : IsDone 0 world known o covers [] place (a ∷ []) w
      there_done = record {
        ops = op.Set place.variable (flag_operand t) ∷ [];
        new = [];
        asked = ap (λ (r : Writing). r.found) written;
        written = ap (λ (r : Writing). r.body.ops) written;
        types = ap (λ (r : Writing). r.body.types) written ∙ sym (append-nil w.body.types);
        follows = λ p numbers raised arguments rest e frames core g meant vs structs has stands left room inside below given good. there_follow p raised arguments rest e frames core g meant (references meant.heap vs) stands left room inside vs given;
      }

  -- ---- one that may be missing

  module _ (ha : a.element ≡ Some (element.Instance c true)) where
    abbrev asks_it : LlOp
    asks_it = op.Binary m binary.Peq a.x null

    abbrev turns_it : LlOp
    turns_it = op.Unary m2 unary.Not (Var m)

    abbrev turned : Writing
    turned = writing w.found (record { types = (w.body.types ++ type.Bool ∷ []) ++ type.Bool ∷ []; ops = (w.body.ops ++ asks_it ∷ []) ++ turns_it ∷ [] })

    truth_written : lower_class_op world row.Truth place (a ∷ []) w ≡ writing w.found (record { types = (w.body.types ++ type.Bool ∷ []) ++ type.Bool ∷ []; ops = ((w.body.ops ++ asks_it ∷ []) ++ turns_it ∷ []) ++ op.Set place.variable (Var m2) ∷ [] })
    unfolding class_lowered class_of_some class_of_one list_lowered list_of_some first_of_one of_some of_one truth_of opposite_if
    truth_written = one_plain world row.Truth place a w (instance_comes a c true ha) refl refl refl refl ∙ one_comes world.around row.Truth place a w (instance_comes a c true ha)
        ∙ ap (λ k. tested_to world.around place false (truth_by k world.around a w).0 (truth_by k world.around a w).1) (kind_is a c true ha) ∙ gives_flag world.around place (Var m2) turned ht

    not_written : lower_class_op world row.Not place (a ∷ []) w ≡ writing w.found (record { types = (w.body.types ++ type.Bool ∷ []) ++ type.Bool ∷ []; ops = ((w.body.ops ++ asks_it ∷ []) ++ turns_it ∷ []) ++ op.Unary place.variable unary.Not (Var m2) ∷ [] })
    unfolding class_lowered class_of_some class_of_one list_lowered list_of_some first_of_one of_some of_one truth_of opposite_if give_unary
    not_written = one_plain world row.Not place a w (instance_comes a c true ha) refl refl refl refl ∙ one_comes world.around row.Not place a w (instance_comes a c true ha)
        ∙ ap (λ k. tested_to world.around place true (truth_by k world.around a w).0 (truth_by k world.around a w).1) (kind_is a c true ha) ∙ sets_place world.around place type.Bool (λ v. op.Unary v unary.Not (Var m2)) turned ht

    module _ (p : LlProgram) (raised : ℕ → Value) (arguments : List (List ℕ)) (rest : List LlOp) (e : LlExit) (frames : List Frame) (core : Core) (g : Ghost) (meant : MeantWorld) (most : ℕ)
        (stands : Represents world.around.layout known g meant.heap meant.left core.blocks core.statics) (left : meant.left ≡ core.steps) (room : m + 2 ≤ length core.vars) (inside : place.variable < m) where
      turned_twice : (t : Bool) → not (not t) ≡ t
      turned_twice true = refl
      turned_twice false = refl

      truth_one : (v : Meant) → Tells known world a core g meant v → Follows 0 known world.around place p arguments (At (asks_it ∷ turns_it ∷ op.Set place.variable (Var m2) ∷ rest) e frames core) rest e frames core g raised most m meant (meant_op known.program covers row.Truth (v ∷ []) meant)
      truth_one v it =
          let core1 : Core = after core m (Flag (not it.truth)) in
          let passed = sets_more m (Flag (not it.truth)) (omega arith) (none_passed {below = m} {core = core}) in
          subst (λ answer. Follows 0 known world.around place p arguments (At (asks_it ∷ turns_it ∷ op.Set place.variable (Var m2) ∷ rest) e frames core) rest e frames core g raised most m meant answer) (sym (ap (λ o. flag_if_any o meant) it.high))
          (gives_flags world raised flags most m (after core1 m2 (Flag it.truth)) it.truth stands left (sets_more m2 (Flag it.truth) (omega (arith, m2_is)) passed) (omega (arith, inside, room))
          (on (gives (Flag (not it.truth)) it.low)
          (on (turns (Flag it.truth) (ap (unary_of unary.Not) (is_set_at core m (Flag (not it.truth)) (omega (arith, room))) ∙ ap (λ b. Ok (Flag b)) (turned_twice it.truth)))
          (sets (Flag it.truth) (is_set_at core1 m2 (Flag it.truth) (let q = passed.room in omega (arith, room, m2_is, q))) refl))))

      not_one : (v : Meant) → Tells known world a core g meant v → Follows 0 known world.around place p arguments (At (asks_it ∷ turns_it ∷ op.Unary place.variable unary.Not (Var m2) ∷ rest) e frames core) rest e frames core g raised most m meant (meant_op known.program covers row.Not (v ∷ []) meant)
      not_one v it =
          let core1 : Core = after core m (Flag (not it.truth)) in
          let passed = sets_more m (Flag (not it.truth)) (omega arith) (none_passed {below = m} {core = core}) in
          subst (λ answer. Follows 0 known world.around place p arguments (At (asks_it ∷ turns_it ∷ op.Unary place.variable unary.Not (Var m2) ∷ rest) e frames core) rest e frames core g raised most m meant answer) (sym (ap (λ o. flag_if_any (opposite o) meant) it.high))
          (gives_flags world raised flags most m (after core1 m2 (Flag it.truth)) (not it.truth) stands left (sets_more m2 (Flag it.truth) (omega (arith, m2_is)) passed) (omega (arith, inside, room))
          (on (gives (Flag (not it.truth)) it.low)
          (on (turns (Flag it.truth) (ap (unary_of unary.Not) (is_set_at core m (Flag (not it.truth)) (omega (arith, room))) ∙ ap (λ b. Ok (Flag b)) (turned_twice it.truth)))
          (turns (Flag (not it.truth)) (ap (unary_of unary.Not) (is_set_at core1 m2 (Flag it.truth) (let q = passed.room in omega (arith, room, m2_is, q))))))))

      truth_follow : (vs : List Meant) → Given known world.around g core (a ∷ []) vs → Follows 0 known world.around place p arguments (At (asks_it ∷ turns_it ∷ op.Set place.variable (Var m2) ∷ rest) e frames core) rest e frames core g raised most m meant (meant_op known.program covers row.Truth vs meant)
      truth_follow [] given = absurd given
      truth_follow (v ∷ []) given = truth_one v (tells true ha core g meant v stands (instance_or_none c true ha given.0))
      truth_follow (v ∷ u ∷ vs) given = absurd given.1

      not_follow : (vs : List Meant) → Given known world.around g core (a ∷ []) vs → Follows 0 known world.around place p arguments (At (asks_it ∷ turns_it ∷ op.Unary place.variable unary.Not (Var m2) ∷ rest) e frames core) rest e frames core g raised most m meant (meant_op known.program covers row.Not vs meant)
      not_follow [] given = absurd given
      not_follow (v ∷ []) given = not_one v (tells true ha core g meant v stands (instance_or_none c true ha given.0))
      not_follow (v ∷ u ∷ vs) given = absurd given.1

    truth_done : IsDone 0 world known row.Truth covers [] place (a ∷ []) w
    truth_done = record {
      ops = asks_it ∷ turns_it ∷ op.Set place.variable (Var m2) ∷ [];
      new = type.Bool ∷ type.Bool ∷ [];
      asked = ap (λ (r : Writing). r.found) truth_written;
      written = ap (λ (r : Writing). r.body.ops) truth_written ∙ append_assoc (w.body.ops ++ asks_it ∷ []) (turns_it ∷ []) (op.Set place.variable (Var m2) ∷ []) ∙ append_assoc w.body.ops (asks_it ∷ []) (turns_it ∷ op.Set place.variable (Var m2) ∷ []);
      types = ap (λ (r : Writing). r.body.types) truth_written ∙ append_assoc w.body.types (type.Bool ∷ []) (type.Bool ∷ []);
      follows = λ p numbers raised arguments rest e frames core g meant vs structs has stands left room inside below given good. truth_follow p raised arguments rest e frames core g meant (references meant.heap vs) stands left room inside vs given;
    }

    not_done : IsDone 0 world known row.Not covers [] place (a ∷ []) w
    not_done = record {
      ops = asks_it ∷ turns_it ∷ op.Unary place.variable unary.Not (Var m2) ∷ [];
      new = type.Bool ∷ type.Bool ∷ [];
      asked = ap (λ (r : Writing). r.found) not_written;
      written = ap (λ (r : Writing). r.body.ops) not_written ∙ append_assoc (w.body.ops ++ asks_it ∷ []) (turns_it ∷ []) (op.Unary place.variable unary.Not (Var m2) ∷ []) ∙ append_assoc w.body.ops (asks_it ∷ []) (turns_it ∷ op.Unary place.variable unary.Not (Var m2) ∷ []);
      types = ap (λ (r : Writing). r.body.types) not_written ∙ append_assoc w.body.types (type.Bool ∷ []) (type.Bool ∷ []);
      follows = λ p numbers raised arguments rest e frames core g meant vs structs has stands left room inside below given good. not_follow p raised arguments rest e frames core g meant (references meant.heap vs) stands left room inside vs given;
    }

pub truth_is_done : IsTruth row.Truth
truth_is_done world known place a w c true covers ha flags = truth_done world known place a w c covers flags ha
truth_is_done world known place a w c false covers ha flags = there_done world known place a w c covers flags ha row.Truth true (there_written world known place a w c covers flags ha) (λ v meant h. ap (λ o. flag_if_any o meant) h)

pub untruth_is_done : IsTruth row.Not
untruth_is_done world known place a w c true covers ha flags = not_done world known place a w c covers flags ha
untruth_is_done world known place a w c false covers ha flags = there_done world known place a w c covers flags ha row.Not false (there_not_written world known place a w c covers flags ha) (λ v meant h. ap (λ o. flag_if_any (opposite o) meant) h)
