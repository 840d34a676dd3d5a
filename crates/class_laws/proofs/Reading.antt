-- The graph that reads an attribute of an instance.
use Rattle.std.proofs.Common.{◌≡◌, ℕ, Bool, true, false, ◌||◌, List, [], ◌∷◌, Some, refl, ap}
use Rattle.csub_tree.specs.State.{Value, Flag, Block, Core}
use Rattle.csub_tree.specs.Layout.{shape_at, begins_with, place}
use Rattle.csub_tree.specs.Operation.{is_unset}
use Rattle.csub_tree.specs.Statement.{read}
use Rattle.ll_code.specs.State.{Frame, Calling}
use Rattle.ll_code.specs.Machine.{shapes_of}
use Rattle.ll_code.specs.declared.program.LlProgram.{LlProgram}
use Rattle.ll_leads.proofs.Ways.{Comes, on, many, enter}
use Rattle.ll_texts.specs.Follows.{FailedAs}
use Rattle.ll_texts.specs.Texts.{found}
use Rattle.ll_texts.proofs.Following.{failed}
use Rattle.rpy_base.specs.declared.outcome.FailName.TheVariants as fail
use Rattle.rtyper_data.specs.declared.small.Small.TheVariants as small
use Rattle.rtyper_data.specs.Graphs.{failing}
use Rattle.rtyper_class.specs.Instances.{attribute}
use Rattle.rtyper_class.specs.Seen.{World}
use Rattle.lower_laws.proofs.Small.{Flies, flown, flies_on, same_memory}
use Rattle.object_laws.specs.Represents.{value_field, set_field}
use Rattle.object_laws.proofs.Parts.{reads_part}
use Rattle.class_laws.specs.Asked.{HasClass}

module _ (p : LlProgram) (world : World) (arguments : List (List ℕ)) (raised : ℕ → Value) (own at f : ℕ) (core : Core) (x : Value) (block : Block) (value_at set_at : ℕ)
    (begins : begins_with (shapes_of p.structs) block.kind own ≡ true) (value_is : place (shape_at (shapes_of p.structs) own) (value_field at) ≡ value_at) (set_is : place (shape_at (shapes_of p.structs) own) (set_field at) ≡ set_at)
    (x_set : is_unset x ≡ false) (is : found core.blocks core.statics x ≡ Some block) where
  -- it is set
  pub attribute_comes : (raises : Bool) → HasClass p world raised (small.Attribute own at raises) f → (value : Value) → is_unset value ≡ false → read block.fields value_at ≡ value → read block.fields set_at ≡ Flag true
      → (waits : List Frame) → Comes p arguments (Calling f (x ∷ []) waits core) [] value waits core
  unfolding attribute
  attribute_comes raises has value value_set there set waits = record {
    end = _;
    same = refl;
    leads = on (enter has.graph refl)
        (on (reads_part block (Flag true) begins is refl (set_field at) set_at set_is set)
        (on (many 1 has.graph refl (ap (λ b. b || false) x_set))
        (on (reads_part block value begins is value_set (value_field at) value_at value_is there)
        (many 1 has.graph refl (ap (λ b. b || false) value_set)))));
  }

  -- it is not
  pub attribute_flies : HasClass p world raised (small.Attribute own at true) f → read block.fields set_at ≡ Flag false → (waits : List Frame) → Flies p arguments (Calling f (x ∷ []) waits core) (raised 9) waits core
  unfolding attribute failing
  attribute_flies has unset waits = same_memory refl (flies_on (on (enter has.graph refl) (on (reads_part block (Flag false) begins is refl (set_field at) set_at set_is unset) (many 1 has.graph refl refl))) (flown has.raises.0))

  pub attribute_fails : HasClass p world raised (small.Attribute own at false) f → read block.fields set_at ≡ Flag false → (waits : List Frame) → FailedAs p arguments (Calling f (x ∷ []) waits core) fail.Attribute
  unfolding attribute failing
  attribute_fails has unset waits = failed (on (enter has.graph refl) (on (reads_part block (Flag false) begins is refl (set_field at) set_at set_is unset) (many 1 has.graph refl refl))) refl
