-- Narrowings of lists.
use Rattle.std.proofs.Common.{◌≡◌, ◌≢◌, ◌<◌, ◌≤◌, ◌⊎◌, inl, inr, ℕ, ◌+◌, false, List, [], ◌∷◌, length, refl, sym, ap, ◌∙◌, subst, arith}
use Rattle.std.proofs.lemmas.List.{append-nil}
use Rattle.csub_tree.specs.State.{Value, Flag as FlagValue, Core}
use Rattle.csub_tree.specs.Operation.{is_unset}
use Rattle.csub_tree.specs.Statement.{operand}
use Rattle.csub_tree.specs.declared.tree.CConst.TheVariants as constant
use Rattle.csub_tree.specs.declared.tree.COperand.{COperand}
use Rattle.csub_tree.specs.declared.tree.COperand.TheVariants.{Const}
use Rattle.rpy_tree.specs.Value.{Value as Meant, Nothing}
use Rattle.rpy_meaning.specs.declared.row.Covers.{Covers}
use Rattle.rpy_meaning.specs.declared.row.RowOp.{RowOp}
use Rattle.rpy_meaning.specs.declared.row.RowOp.TheVariants as row
use Rattle.rpy_meaning.specs.Operations.{op as meant_op}
use Rattle.rpy_meaning.specs.World.{World, Gives}
use Rattle.ll_code.specs.State.{Frame, At}
use Rattle.ll_code.specs.declared.program.LlType.{LlType}
use Rattle.ll_code.specs.declared.program.LlType.TheVariants as type
use Rattle.ll_code.specs.declared.program.LlOp.{LlOp}
use Rattle.ll_code.specs.declared.program.LlOp.TheVariants as op
use Rattle.ll_code.specs.declared.program.LlExit.{LlExit}
use Rattle.ll_code.specs.declared.program.LlProgram.{LlProgram}
use Rattle.rtyper_data.specs.Converting.{give, give_to, value_as}
use Rattle.rtyper_data.specs.Seen.{Around, Operand, Place, type_of, type_at, with_op, Writing, writing}
use Rattle.rtyper_op.specs.Lowering.{of_some, of_one, same}
use Rattle.rtyper_list.specs.Lowering.{lowered as list_lowered, of_some as list_of_some, first_of_one, lower_list_op}
use Rattle.lower_laws.proofs.Coming.{Comes, one_comes}
use Rattle.lower_laws.proofs.Items.{gives_same}
use Rattle.lower_laws.proofs.Single.{sets}
use Rattle.lower_laws.proofs.Typing.{place_of_none}
use Rattle.list_laws.specs.Presence.{IsToldWhere, IsThere, IsMissing, ListsAreThere, ListsAreMissing}
use Rattle.list_laws.proofs.Lowered.{list_comes}
use Rattle.list_laws.proofs.Told.{one_plain}
use Rattle.object_laws.specs.Done.{Follows, references}
use Rattle.object_laws.specs.Ghost.{Ghost}
use Rattle.object_laws.specs.Known.{Known}
use Rattle.object_laws.specs.Represents.{Represents}
use Rattle.object_laws.specs.Values.{Holds, Given, Listed, Alone}
use Rattle.object_laws.proofs.Passing.{none_passed, sets_last}
use Rattle.object_laws.proofs.Valued.{Listing, Absent, list_or_none, held_set}

drop_lowered : (around : Around) (place : Place) (a : Operand) (w : Writing) → Comes a → lower_list_op around row.DropNone place (a ∷ []) w ≡ same around place a w
unfolding list_lowered list_of_some first_of_one of_some of_one
drop_lowered around place a w h = one_plain around row.DropNone place a w h refl refl refl ∙ one_comes around row.DropNone place a w h

only_lowered : (around : Around) (place : Place) (a : Operand) (w : Writing) → Comes a → lower_list_op around row.OnlyNone place (a ∷ []) w ≡ same around place a w
unfolding list_lowered list_of_some first_of_one of_some of_one
only_lowered around place a w h = one_plain around row.OnlyNone place a w h refl refl refl ∙ one_comes around row.OnlyNone place a w h

false_lowered : (around : Around) (place : Place) (a : Operand) (w : Writing) → Comes a → lower_list_op around row.FalseNone place (a ∷ []) w ≡ same around place a w
unfolding list_lowered list_of_some first_of_one of_some of_one
false_lowered around place a w h = one_plain around row.FalseNone place a w h refl refl refl ∙ one_comes around row.FalseNone place a w h

-- ---- what is set, where that is the operand, as one of these values

module _ (Good : World → List Meant → Type 0) (known : Known) (around : Around) (o : RowOp) (place : Place) (a : Operand) (w : Writing) (covers : Covers) (x : COperand)
    (is_written : lower_list_op around o place (a ∷ []) w ≡ writing w.found (with_op (op.Set place.variable x) w.body))
    (means : (v : Meant) (world : World) → meant_op known.program covers o (v ∷ []) world ≡ Gives v world)
    (value : Core → Value) (value_is : (core : Core) → operand core.vars x ≡ value core)
    (set : (g : Ghost) (v : Meant) (world : World) (core : Core) → Represents around.layout known g world.heap world.left core.blocks core.statics → Holds around.layout known g a.element (operand core.vars a.x) v → is_unset (value core) ≡ false)
    (holds : (g : Ghost) (v : Meant) (world : World) (core : Core) → Good world (v ∷ []) → Holds around.layout known g a.element (operand core.vars a.x) v → Holds around.layout known g place.element (value core) v) where
  follow : (p : LlProgram) (raised : ℕ → Value) (arguments : List (List ℕ)) (rest : List LlOp) (e : LlExit) (frames : List Frame) (core : Core) (g : Ghost) (world : World) (most : ℕ) → Represents around.layout known g world.heap world.left core.blocks core.statics → world.left ≡ core.steps
      → length w.body.types + 0 ≤ length core.vars → place.variable < length w.body.types → (vs : List Meant) → Given known around g core (a ∷ []) vs → Good world vs
      → Follows 0 known around place p arguments (At (op.Set place.variable x ∷ rest) e frames core) rest e frames core g raised most (length w.body.types) world (meant_op known.program covers o vs world)
  follow p raised arguments rest e frames core g world most stands left room inside [] given good = absurd given
  follow p raised arguments rest e frames core g world most stands left room inside (v ∷ []) given good =
      subst (λ answer. Follows 0 known around place p arguments (At (op.Set place.variable x ∷ rest) e frames core) rest e frames core g raised most (length w.body.types) world answer) (sym (means v world))
      (sets_last most (length w.body.types) core (value core) v stands left none_passed (omega (arith, inside, room)) (sets (value core) (value_is core) (set g v world core stands given.0)) (holds g v world core good given.0))
  follow p raised arguments rest e frames core g world most stands left room inside (v ∷ u ∷ vs) given good = absurd given.1

  set_done : IsToldWhere Good known around o covers [] place (a ∷ []) w
  set_done = record {
    ops = op.Set place.variable x ∷ [];
    new = [];
    asked = ap (λ (r : Writing). r.found) is_written;
    written = ap (λ (r : Writing). r.body.ops) is_written;
    types = ap (λ (r : Writing). r.body.types) is_written ∙ sym (append-nil w.body.types);
    follows = λ p numbers raised arguments rest e frames core g world vs structs has stands left room inside below given good. follow p raised arguments rest e frames core g world (references world.heap vs) stands left room inside vs given good;
  }

-- ---- a list that is there

pub there_is_done : ListsAreThere
there_is_done known around place a w covers n lists takes typed goes =
    set_done IsThere known around row.DropNone place a w covers a.x
    (drop_lowered around place a w (list_comes a lists) ∙ gives_same around place a.x (type_of around a) w (λ h. (let q : type.Ptr n ≡ type.Void = sym typed ∙ h in absurd (cc))) (goes ∙ sym typed))
    (λ v world. refl) (λ core. operand core.vars a.x) (λ core. refl) (λ g v world core stands held. held_set stands held) (λ g v world core good held. by g v core good (list_or_none lists held))
  where
    by : (g : Ghost) (v : Meant) (core : Core) → v ≢ Nothing → Listing around.layout known g a.element (operand core.vars a.x) v ⊎ Absent a.element (operand core.vars a.x) v → Holds around.layout known g place.element (operand core.vars a.x) v
    by g v core there (inl it) = Listed it.n it.i takes it.high (goes ∙ sym typed ∙ it.typed) it.struct it.home
    by g v core there (inr gone) = absurd (there gone.high)

-- ---- one that is `None`

gives_none : (around : Around) (place : Place) (x : COperand) (t : LlType) (n : ℕ) (w : Writing) → type_at around place ≡ type.Bool → t ≡ type.Ptr n → give around place x t w ≡ writing w.found (with_op (op.Set place.variable (Const (constant.Bool false))) w.body)
unfolding give value_as
gives_none around place x t n w ht h = ap (λ t. give around place x t w) h ∙ ap (λ u. give_to around place x (type.Ptr n) u w) ht

missing_done : (o : RowOp) → ((around : Around) (place : Place) (a : Operand) (w : Writing) → Comes a → lower_list_op around o place (a ∷ []) w ≡ same around place a w) → ((known : Known) (covers : Covers) (v : Meant) (world : World) → meant_op known.program covers o (v ∷ []) world ≡ Gives v world) → ListsAreMissing o
missing_done o l means known around place a w covers n lists nothing typed =
    set_done IsMissing known around o place a w covers (Const (constant.Bool false))
    (l around place a w (list_comes a lists) ∙ gives_none around place a.x (type_of around a) n w (place_of_none around.layout place.element nothing) typed)
    (means known covers) (λ core. FlagValue false) (λ core. refl) (λ g v world core stands held. refl) (λ g v world core good held. Alone nothing refl good)

pub only_none_is_done : ListsAreMissing row.OnlyNone
only_none_is_done = missing_done row.OnlyNone only_lowered (λ known covers v world. refl)

pub false_none_is_done : ListsAreMissing row.FalseNone
false_none_is_done = missing_done row.FalseNone false_lowered (λ known covers v world. refl)
