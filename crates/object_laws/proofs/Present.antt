-- The graph that gives a value which is not `None`, and fails, or raises, where it is.
use Rattle.std.proofs.Common.{◌≡◌, ℕ, Bool, true, false, ◌||◌, List, [], ◌∷◌, Ok, refl, ap}
use Rattle.std.specs.Prelude.{if◌then◌else◌}
use Rattle.rpy_base.specs.declared.outcome.FailName.TheVariants as fail
use Rattle.csub_tree.specs.State.{Value, Flag, Null, Core}
use Rattle.csub_tree.specs.Operation.{is_unset, compared, binary_of}
use Rattle.csub_tree.specs.declared.tree.CBinary.TheVariants as binary
use Rattle.ll_code.specs.State.{Frame, Calling}
use Rattle.ll_code.specs.declared.program.LlType.{LlType}
use Rattle.ll_code.specs.declared.program.LlType.TheVariants as type
use Rattle.ll_code.specs.declared.program.LlProgram.{LlProgram}
use Rattle.ll_leads.proofs.Ways.{Comes, on, many, enter, gives}
use Rattle.ll_texts.specs.Follows.{FailedAs}
use Rattle.ll_texts.proofs.Following.{failed}
use Rattle.rtyper_layout.specs.declared.layout.Layout.{Layout}
use Rattle.rtyper_data.specs.declared.small.Small.TheVariants as small
use Rattle.rtyper_data.specs.Finding.{same_type}
use Rattle.rtyper_data.specs.Graphs.{failing}
use Rattle.lower_laws.specs.Asked.{HasSmall}
use Rattle.lower_laws.proofs.Small.{Flies, flown, flies_on, same_memory}

-- both operators that ask do the same
asked : (c : Bool) (x : Value) (t : Bool) → compared x Null ≡ Ok (Flag t) → binary_of (if c then binary.Feq else binary.Peq) x Null ≡ Ok (Flag t)
asked true x t h = h
asked false x t h = h

module _ (p : LlProgram) (layout : Layout) (arguments : List (List ℕ)) (raised : ℕ → Value) (t : LlType) (f : ℕ) (core : Core) where
  pub present_comes : (raises : Bool) → HasSmall p layout raised (small.Present t raises) f → (x : Value) → is_unset x ≡ false → compared x Null ≡ Ok (Flag false) → (waits : List Frame) → Comes p arguments (Calling f (x ∷ []) waits core) [] x waits core
  present_comes raises h x u there waits = record {
    end = _;
    same = refl;
    leads = on (enter h.graph refl) (on (gives (Flag false) (asked (same_type t type.Fn) x false there)) (many 2 h.graph refl (ap (λ b. b || (b || false)) u)));
  }

  pub present_flies : HasSmall p layout raised (small.Present t true) f → (waits : List Frame) → Flies p arguments (Calling f (Null ∷ []) waits core) (raised 9) waits core
  unfolding failing
  present_flies h waits = same_memory refl (flies_on (on (enter h.graph refl) (on (gives (Flag true) (asked (same_type t type.Fn) Null true refl)) (many 1 h.graph refl refl))) (flown h.raises.0))

  pub present_fails : HasSmall p layout raised (small.Present t false) f → (waits : List Frame) → FailedAs p arguments (Calling f (Null ∷ []) waits core) fail.Attribute
  unfolding failing
  present_fails h waits = failed (on (enter h.graph refl) (on (gives (Flag true) (asked (same_type t type.Fn) Null true refl)) (many 1 h.graph refl refl))) refl
