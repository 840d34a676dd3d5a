-- What needs another value than `None` fails, or raises.
use Rattle.std.proofs.Common.{◌≡◌, ℕ, Bool, true, false, List, [], ◌∷◌, ◌++◌, length, None, refl, sym, ap, ◌∙◌, subst, append-nil, append_assoc}
use Rattle.csub_tree.specs.State.{Value, Core}
use Rattle.ll_code.specs.Machine.{waiting}
use Rattle.ll_code.specs.State.{Frame, Calling, At}
use Rattle.ll_code.specs.declared.program.LlExit.{LlExit}
use Rattle.ll_code.specs.declared.program.LlOp.{LlOp}
use Rattle.ll_code.specs.declared.program.LlOp.TheVariants as op
use Rattle.ll_code.specs.declared.program.LlProgram.{LlProgram}
use Rattle.ll_code.specs.declared.program.LlType.{LlType}
use Rattle.ll_code.specs.declared.program.LlType.TheVariants as type
use Rattle.ll_leads.proofs.Ways.{enter, on, one}
use Rattle.ll_texts.specs.Follows.{FailedAs}
use Rattle.ll_texts.proofs.Following.{failed}
use Rattle.rpy_base.specs.declared.outcome.FailName.TheVariants as fail
use Rattle.rpy_meaning.specs.declared.row.RowOp.{RowOp}
use Rattle.rpy_meaning.specs.Operations.{op as meant_op}
use Rattle.rpy_meaning.specs.World.{World as MeantWorld, attribute_error, failure as meant_failure}
use Rattle.rpy_tree.specs.Value.{Value as Meant}
use Rattle.rtyper_class.specs.Lowering.{lower_class_op}
use Rattle.rtyper_class.specs.Seen.{World}
use Rattle.rtyper_data.specs.Converting.{default_operand, nothing_to}
use Rattle.rtyper_data.specs.Finding.{small_number}
use Rattle.rtyper_data.specs.Graphs.{failing}
use Rattle.rtyper_data.specs.Seen.{Operand, Place, Writing, type_at, writing}
use Rattle.rtyper_data.specs.declared.body.Body.{Body}
use Rattle.rtyper_data.specs.declared.small.Small.TheVariants as small
use Rattle.rtyper_layout.specs.declared.layout.Layout.{Layout}
use Rattle.rtyper_op.specs.Lowering.{failure}
use Rattle.lower_laws.specs.Asked.{HasSmall, Make}
use Rattle.lower_laws.proofs.Small.{Flies, flies_on, flown, same_memory}
use Rattle.object_laws.specs.Done.{Follows, references}
use Rattle.object_laws.specs.Ghost.{Ghost}
use Rattle.object_laws.specs.Known.{Known}
use Rattle.object_laws.specs.Values.{Given}
use Rattle.class_laws.specs.Done.{IsDone}

module _ (p : LlProgram) (layout : Layout) (arguments : List (List ℕ)) (raised : ℕ → Value) (f : ℕ) (core : Core) where
  fails_flies : HasSmall p layout raised (small.Fail true) f → (waits : List Frame) → Flies p arguments (Calling f [] waits core) (raised 9) waits core
  unfolding failing
  fails_flies h waits = same_memory refl (flies_on (enter h.graph refl) (flown h.raises.0))

  fails_fails : HasSmall p layout raised (small.Fail false) f → (waits : List Frame) → FailedAs p arguments (Calling f [] waits core) fail.Attribute
  unfolding failing
  fails_fails h waits = failed (enter h.graph refl) refl

-- what is written where nothing is given
abbrev pub set_nothing : Place → LlType → List LlOp
set_nothing place type.Void = []
set_nothing place t = op.Set place.variable (default_operand t) ∷ []

pub nothing_is : (place : Place) (t : LlType) (body : Body) → nothing_to place t body ≡ record body { ops = body.ops ++ set_nothing place t }
nothing_is place type.Void body = ap (λ (ops : List LlOp). record body { ops = ops }) (sym (append-nil body.ops))
nothing_is place type.Signed body = refl
nothing_is place type.Bool body = refl
nothing_is place type.Char body = refl
nothing_is place type.Fn body = refl
nothing_is place (type.Ptr n) body = refl

-- an operation that is lowered to a failure, of operands of which it fails, or raises, whatever memory holds
module _ (world : World) (known : Known) (o : RowOp) (place : Place) (args : List Operand) (w : Writing) (is : lower_class_op world o place args w ≡ failure world.around place w)
    (means : (core : Core) (g : Ghost) (vs : List Meant) (meant : MeantWorld) → Given known world.around g core args vs → meant_op known.program w.found.covered o vs meant ≡ attribute_error w.found.covered meant) where
  abbrev c : Bool
  c = w.found.covered.attribute

  abbrev number : ℕ
  number = (small_number (small.Fail c) w.found).0

  abbrev calls : LlOp
  calls = op.Call None number []

  abbrev later : List LlOp
  later = set_nothing place (type_at world.around place)

  abbrev written_as : Writing
  written_as = writing (small_number (small.Fail c) w.found).1 (record { types = w.body.types; ops = (w.body.ops ++ calls ∷ []) ++ later })

  is_written : lower_class_op world o place args w ≡ written_as
  unfolding failure
  is_written = is ∙ ap (writing (small_number (small.Fail c) w.found).1) (nothing_is place (type_at world.around place) (record { types = w.body.types; ops = w.body.ops ++ calls ∷ [] }))

  module _ (p : LlProgram) (raised : ℕ → Value) (arguments : List (List ℕ)) (rest : List LlOp) (e : LlExit) (frames : List Frame) (core : Core) (g : Ghost) (meant : MeantWorld) (most : ℕ) where
    by : (b : Bool) → HasSmall p world.around.layout raised (small.Fail b) number → Follows 0 known world.around place p arguments (At ((calls ∷ later) ++ rest) e frames core) rest e frames core g raised most (length w.body.types) meant (meant_failure b 9 fail.Attribute meant)
    by true h =
        let it = fails_flies p world.around.layout arguments raised number core h (waiting core None (later ++ rest) e ∷ frames) in
        record { frame = waiting core None (later ++ rest) e; end = it.end; leads = on (one refl refl) it.leads; memory = it.same; left = later; ops = refl; exit = refl; others = λ k under. refl; room = refl; function = refl; block = refl; same = refl }
    by false h = let it = fails_fails p world.around.layout arguments raised number core h (waiting core None (later ++ rest) e ∷ frames) in record { last = it.last; leads = on (one refl refl) it.leads; ends = it.ends }

  pub failure_done : IsDone 0 world known o w.found.covered (Make (small.Fail w.found.covered.attribute) ∷ []) place args w
  failure_done = record {
    ops = calls ∷ later;
    new = [];
    asked = ap (λ (r : Writing). r.found) is_written;
    written = ap (λ (r : Writing). r.body.ops) is_written ∙ append_assoc w.body.ops (calls ∷ []) later;
    types = ap (λ (r : Writing). r.body.types) is_written ∙ sym (append-nil w.body.types);
    follows = λ p numbers raised arguments rest e frames core g meant vs structs has stands left room inside below given good.
        subst (Follows 0 known world.around place p arguments (At ((calls ∷ later) ++ rest) e frames core) rest e frames core g raised (references meant.heap vs) (length w.body.types) meant) (sym (means core g vs meant given))
        (by p raised arguments rest e frames core g meant (references meant.heap vs) c has.0);
  }
