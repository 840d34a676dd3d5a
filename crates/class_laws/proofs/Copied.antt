-- Operations that give their operand as it is, and narrowings of instances.
use Rattle.std.proofs.Common.{◌≡◌, ◌≢◌, ◌<◌, ◌≤◌, ◌⊎◌, inl, inr, ℕ, ◌+◌, Bool, true, false, List, [], ◌∷◌, length, Option, Some, refl, sym, ap, ◌∙◌, subst, arith}
use Rattle.std.specs.Prelude.{slice_get}
use Rattle.std.proofs.lemmas.List.{append-nil}
use Rattle.ann_element.specs.declared.element.Element.TheVariants as element
use Rattle.csub_tree.specs.State.{Value, Flag as FlagValue, Core}
use Rattle.csub_tree.specs.Statement.{operand}
use Rattle.csub_tree.specs.declared.tree.CConst.TheVariants as constant
use Rattle.csub_tree.specs.declared.tree.COperand.{COperand}
use Rattle.csub_tree.specs.declared.tree.COperand.TheVariants.{Const}
use Rattle.rpy_tree.specs.Value.{Value as Meant, Nothing, Object, Instance}
use Rattle.rpy_meaning.specs.Classes.{is_below}
use Rattle.rpy_meaning.specs.declared.row.Covers.{Covers}
use Rattle.rpy_meaning.specs.declared.row.RowOp.{RowOp}
use Rattle.rpy_meaning.specs.declared.row.RowOp.TheVariants as row
use Rattle.rpy_meaning.specs.Operations.{op as meant_op}
use Rattle.rpy_meaning.specs.World.{World as MeantWorld, Gives}
use Rattle.ll_code.specs.State.{Frame, At}
use Rattle.ll_code.specs.declared.program.LlType.{LlType}
use Rattle.ll_code.specs.declared.program.LlType.TheVariants as type
use Rattle.ll_code.specs.declared.program.LlOp.{LlOp}
use Rattle.ll_code.specs.declared.program.LlOp.TheVariants as op
use Rattle.ll_code.specs.declared.program.LlExit.{LlExit}
use Rattle.ll_code.specs.declared.program.LlProgram.{LlProgram}
use Rattle.rtyper_layout.specs.declared.kind.Kind.TheVariants as kind
use Rattle.rtyper_layout.specs.Kinds.{kind_seen}
use Rattle.rtyper_data.specs.Converting.{give, give_to, value_as}
use Rattle.rtyper_op.specs.Lowering.{never_comes, of_some, of_one, same}
use Rattle.rtyper_data.specs.Seen.{Operand, Place, type_of, type_at, kind_of, with_op, Writing, writing}
use Rattle.rtyper_list.specs.Lowering.{lowered as list_lowered, of_some as list_of_some, first_of_one}
use Rattle.rtyper_class.specs.Lowering.{lowered as class_lowered, of_some as class_of_some, of_one as class_of_one, lower_class_op}
use Rattle.rtyper_class.specs.Seen.{World}
use Rattle.lower_laws.proofs.Coming.{Comes, one_comes}
use Rattle.lower_laws.proofs.Items.{gives_same}
use Rattle.lower_laws.proofs.Single.{sets}
use Rattle.lower_laws.proofs.Typing.{place_of_none}
use Rattle.object_laws.specs.Done.{Any, Follows}
use Rattle.object_laws.specs.Ghost.{Ghost}
use Rattle.object_laws.specs.Known.{Known}
use Rattle.object_laws.specs.Represents.{Represents}
use Rattle.object_laws.specs.Values.{Holds, Given, Made, Alone}
use Rattle.object_laws.proofs.Passing.{none_passed, sets_last}
use Rattle.object_laws.proofs.Valued.{Instancing, Gone, instance_or_none, instance_type, missing_instance, made_comes, stays_typed, stays_there, stays_comes, stays_held, held_set}
use Rattle.class_laws.specs.Done.{IsDoneWhere}
use Rattle.class_laws.specs.Instances.{IsCopied, IsThere, IsNarrowed, IsNothing, IsEmptied, IsOfClass, AreOfClass, IsLowered}
use Rattle.class_laws.proofs.Lowered.{one_plain}

-- ---- the operand is set

module _ (Good : MeantWorld → List Meant → Type 0) (world : World) (known : Known) (o : RowOp) (place : Place) (a : Operand) (w : Writing) (covers : Covers) (there : type_of world.around a ≡ type.Void → ⊥) (typed : type_at world.around place ≡ type_of world.around a)
    (l : lower_class_op world o place (a ∷ []) w ≡ same world.around place a w)
    (means : (v : Meant) (meant : MeantWorld) → meant_op known.program covers o (v ∷ []) meant ≡ Gives v meant)
    (holds : (g : Ghost) (x : Value) (v : Meant) (meant : MeantWorld) (core : Core) → Represents world.around.layout known g meant.heap meant.left core.blocks core.statics → Good meant (v ∷ []) → Holds world.around.layout known g a.element x v → Holds world.around.layout known g place.element x v) where
  is_written : lower_class_op world o place (a ∷ []) w ≡ writing w.found (with_op (op.Set place.variable a.x) w.body)
  is_written = l ∙ gives_same world.around place a.x (type_of world.around a) w there typed

  follow : (p : LlProgram) (raised : ℕ → Value) (arguments : List (List ℕ)) (rest : List LlOp) (e : LlExit) (frames : List Frame) (core : Core) (g : Ghost) (meant : MeantWorld) (most : ℕ) → Represents world.around.layout known g meant.heap meant.left core.blocks core.statics → meant.left ≡ core.steps
      → length w.body.types + 0 ≤ length core.vars → place.variable < length w.body.types → (vs : List Meant) → Given known world.around g core (a ∷ []) vs → Good meant vs
      → Follows 0 known world.around place p arguments (At (op.Set place.variable a.x ∷ rest) e frames core) rest e frames core g raised most (length w.body.types) meant (meant_op known.program covers o vs meant)
  follow p raised arguments rest e frames core g meant most stands left room inside [] given good = absurd given
  follow p raised arguments rest e frames core g meant most stands left room inside (v ∷ []) given good =
      subst (λ answer. Follows 0 known world.around place p arguments (At (op.Set place.variable a.x ∷ rest) e frames core) rest e frames core g raised most (length w.body.types) meant answer) (sym (means v meant))
      (sets_last most (length w.body.types) core (operand core.vars a.x) v stands left none_passed (omega (arith, inside, room)) (sets (operand core.vars a.x) refl (held_set stands given.0)) (holds g (operand core.vars a.x) v meant core stands good given.0))
  follow p raised arguments rest e frames core g meant most stands left room inside (v ∷ u ∷ vs) given good = absurd given.1

  set_done : IsDoneWhere Good 0 world known o covers [] place (a ∷ []) w
  set_done = record {
    ops = op.Set place.variable a.x ∷ [];
    new = [];
    asked = ap (λ (r : Writing). r.found) is_written;
    written = ap (λ (r : Writing). r.body.ops) is_written;
    types = ap (λ (r : Writing). r.body.types) is_written ∙ sym (append-nil w.body.types);
    follows = λ p numbers raised arguments rest e frames core g meant vs structs has stands left room inside below given good. follow p raised arguments rest e frames core g meant _ stands left room inside vs given good;
  }

-- ---- copies

copy_lowered : (world : World) (place : Place) (a : Operand) (w : Writing) → Comes a → lower_class_op world row.Copy place (a ∷ []) w ≡ same world.around place a w
unfolding class_lowered class_of_some class_of_one list_lowered list_of_some first_of_one of_some of_one
copy_lowered world place a w h = one_plain world row.Copy place a w h refl refl refl refl ∙ one_comes world.around row.Copy place a w h

drop_lowered : (world : World) (place : Place) (a : Operand) (w : Writing) → Comes a → lower_class_op world row.DropNone place (a ∷ []) w ≡ same world.around place a w
unfolding class_lowered class_of_some class_of_one list_lowered list_of_some first_of_one of_some of_one
drop_lowered world place a w h = one_plain world row.DropNone place a w h refl refl refl refl ∙ one_comes world.around row.DropNone place a w h

lower_lowered : (d : ℕ) (world : World) (place : Place) (a : Operand) (w : Writing) → Comes a → lower_class_op world (row.Lower d) place (a ∷ []) w ≡ same world.around place a w
unfolding class_lowered class_of_some class_of_one list_lowered list_of_some first_of_one of_some of_one
lower_lowered d world place a w h = one_plain world (row.Lower d) place a w h refl refl refl refl ∙ one_comes world.around (row.Lower d) place a w h

pub copies_are_done : IsCopied row.Copy
copies_are_done world known place a w covers stay = set_done Any world known row.Copy place a w covers (λ h. stays_there stay (sym (stays_typed stay) ∙ h)) (sym (stays_typed stay)) (copy_lowered world place a w (stays_comes stay)) (λ v meant. refl) (λ g x v meant core stands good held. stays_held stay held)

-- ---- narrowings

pub instance_comes : (a : Operand) (c : ℕ) (r : Bool) → a.element ≡ Some (element.Instance c r) → Comes a
instance_comes a c r h = ap (λ e. never_comes (kind_of (record { x = a.x; element = e }))) h ∙ made_comes c r

ptr_there : (n : ℕ) (t : LlType) → t ≡ type.Ptr n → t ≡ type.Void → ⊥
ptr_there n t h k = absurd (let q : type.Ptr n ≡ type.Void = sym h ∙ k in cc)

pub narrowings_are_done : IsNarrowed
narrowings_are_done world known place a w c n r s covers ha hp typed =
    set_done IsThere world known row.DropNone place a w covers (ptr_there n (type_of world.around a) typed)
    (ap (λ e. type_of world.around (record { x = a.x; element = e })) hp ∙ instance_type world.around.layout c s ∙ sym (ap (λ e. type_of world.around (record { x = a.x; element = e })) ha ∙ instance_type world.around.layout c r))
    (drop_lowered world place a w (instance_comes a c r ha)) (λ v meant. refl) (λ g x v meant core stands good held. by g x v good (instance_or_none c r ha held))
  where
    by : (g : Ghost) (x : Value) (v : Meant) → v ≢ Nothing → Instancing known g c x v ⊎ ((r ≡ true) × Gone (missing_instance true) a.element x v) → Holds world.around.layout known g place.element x v
    by g x v there (inl it) = Made c s it.c it.i hp it.high it.below it.home
    by g x v there (inr gone) = absurd (there gone.1.high)

pub lowerings_are_done : (d : ℕ) → IsLowered d
lowerings_are_done d world known place a w c n r s covers ha hp typed goes =
    set_done (AreOfClass known d) world known (row.Lower d) place a w covers (ptr_there n (type_of world.around a) typed) (goes ∙ sym typed) (lower_lowered d world place a w (instance_comes a c r ha)) (λ v meant. refl)
    (λ g x v meant core stands good held. by g x v meant core stands good (instance_or_none c r ha held))
  where
    below : (k : ℕ) (attributes : List (List ℕ × Meant)) (o : Option Object) → o ≡ Some (Instance k attributes) → IsOfClass known d o → is_below known.program.classes k d ≡ true
    below k attributes o e h = subst (IsOfClass known d) e h

    by : (g : Ghost) (x : Value) (v : Meant) (meant : MeantWorld) (core : Core) → Represents world.around.layout known g meant.heap meant.left core.blocks core.statics → AreOfClass known d meant (v ∷ []) → Instancing known g c x v ⊎ ((r ≡ true) × Gone (missing_instance true) a.element x v) → Holds world.around.layout known g place.element x v
    by g x v meant core stands good (inl it) =
        let at = stands.instances it.c it.i x it.home in
        Made d s it.c it.i hp it.high (below it.c at.attributes (slice_get meant.heap it.i) at.object (subst (λ v. AreOfClass known d meant (v ∷ [])) it.high good)) it.home
    by g x v meant core stands good (inr gone) = absurd (subst (λ v. AreOfClass known d meant (v ∷ [])) gone.1.high good)

-- ---- what is `None`

gives_none : (world : World) (place : Place) (x : COperand) (t : LlType) (n : ℕ) (w : Writing) → type_at world.around place ≡ type.Bool → t ≡ type.Ptr n → give world.around place x t w ≡ writing w.found (with_op (op.Set place.variable (Const (constant.Bool false))) w.body)
unfolding give value_as
gives_none world place x t n w ht h = ap (λ t. give world.around place x t w) h ∙ ap (λ u. give_to world.around place x (type.Ptr n) u w) ht

only_lowered : (world : World) (place : Place) (a : Operand) (w : Writing) → Comes a → lower_class_op world row.OnlyNone place (a ∷ []) w ≡ same world.around place a w
unfolding class_lowered class_of_some class_of_one list_lowered list_of_some first_of_one of_some of_one
only_lowered world place a w h = one_plain world row.OnlyNone place a w h refl refl refl refl ∙ one_comes world.around row.OnlyNone place a w h

false_lowered : (world : World) (place : Place) (a : Operand) (w : Writing) → Comes a → lower_class_op world row.FalseNone place (a ∷ []) w ≡ same world.around place a w
unfolding class_lowered class_of_some class_of_one list_lowered list_of_some first_of_one of_some of_one
false_lowered world place a w h = one_plain world row.FalseNone place a w h refl refl refl refl ∙ one_comes world.around row.FalseNone place a w h

module _ (world : World) (known : Known) (o : RowOp) (place : Place) (a : Operand) (w : Writing) (covers : Covers) (n : ℕ) (nothing : kind_seen place.element ≡ kind.Nothing) (typed : type_of world.around a ≡ type.Ptr n)
    (l : lower_class_op world o place (a ∷ []) w ≡ same world.around place a w) (means : (v : Meant) (meant : MeantWorld) → meant_op known.program covers o (v ∷ []) meant ≡ Gives v meant) where
  abbrev falsehood : COperand
  falsehood = Const (constant.Bool false)

  none_written : lower_class_op world o place (a ∷ []) w ≡ writing w.found (with_op (op.Set place.variable falsehood) w.body)
  none_written = l ∙ gives_none world place a.x (type_of world.around a) n w (place_of_none world.around.layout place.element nothing) typed

  none_follow : (p : LlProgram) (raised : ℕ → Value) (arguments : List (List ℕ)) (rest : List LlOp) (e : LlExit) (frames : List Frame) (core : Core) (g : Ghost) (meant : MeantWorld) (most : ℕ) → Represents world.around.layout known g meant.heap meant.left core.blocks core.statics → meant.left ≡ core.steps
      → length w.body.types + 0 ≤ length core.vars → place.variable < length w.body.types → (vs : List Meant) → Given known world.around g core (a ∷ []) vs → IsNothing meant vs
      → Follows 0 known world.around place p arguments (At (op.Set place.variable falsehood ∷ rest) e frames core) rest e frames core g raised most (length w.body.types) meant (meant_op known.program covers o vs meant)
  none_follow p raised arguments rest e frames core g meant most stands left room inside [] given good = absurd given
  none_follow p raised arguments rest e frames core g meant most stands left room inside (v ∷ []) given good =
      subst (λ answer. Follows 0 known world.around place p arguments (At (op.Set place.variable falsehood ∷ rest) e frames core) rest e frames core g raised most (length w.body.types) meant answer) (sym (means v meant))
      (sets_last most (length w.body.types) core (FlagValue false) v stands left none_passed (omega (arith, inside, room)) (sets (FlagValue false) refl refl) (Alone nothing refl good))
  none_follow p raised arguments rest e frames core g meant most stands left room inside (v ∷ u ∷ vs) given good = absurd given.1

  none_done : IsDoneWhere IsNothing 0 world known o covers [] place (a ∷ []) w
  none_done = record {
    ops = op.Set place.variable falsehood ∷ [];
    new = [];
    asked = ap (λ (r : Writing). r.found) none_written;
    written = ap (λ (r : Writing). r.body.ops) none_written;
    types = ap (λ (r : Writing). r.body.types) none_written ∙ sym (append-nil w.body.types);
    follows = λ p numbers raised arguments rest e frames core g meant vs structs has stands left room inside below given good. none_follow p raised arguments rest e frames core g meant _ stands left room inside vs given good;
  }

pub only_none_is_done : IsEmptied row.OnlyNone
only_none_is_done world known place a w c n r covers ha nothing typed = none_done world known row.OnlyNone place a w covers n nothing typed (only_lowered world place a w (instance_comes a c r ha)) (λ v meant. refl)

pub false_none_is_done : IsEmptied row.FalseNone
false_none_is_done world known place a w c n r covers ha nothing typed = none_done world known row.FalseNone place a w covers n nothing typed (false_lowered world place a w (instance_comes a c r ha)) (λ v meant. refl)
