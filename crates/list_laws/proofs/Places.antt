-- The graph that gives the place which an index names, and fails, or raises, where that is outside.
use Rattle.std.proofs.Common.{◌≡◌, ◌<◌, ◌≤◌, ℕ, suc, ◌-◌, ◌^◌, Bool, true, false, List, [], ◌∷◌, Option, Some, None, Ok, ℤ, pos, negsuc, ◌+ℤ◌, refl, ap, ◌∙◌, arith}
use Rattle.std.proofs.lemmas.Bool.Decides.{nat_tests}
use Rattle.std.proofs.lemmas.Int.{int_wrap_fits, ints}
use Rattle.std.specs.Int.{w64}
use Rattle.std.specs.Prelude.{nat_lt, if◌then◌else◌}
use Rattle.rpy_base.specs.Word.{Fits, wrap}
use Rattle.rpy_base.specs.declared.outcome.FailName.TheVariants as fail
use Rattle.rpy_meaning.specs.Sequences.{place as meant_place}
use Rattle.csub_tree.specs.State.{Value, Word, Flag, Core}
use Rattle.csub_tree.specs.Operation.{binary_of}
use Rattle.csub_tree.specs.declared.tree.CBinary.TheVariants.{Add}
use Rattle.ll_code.specs.State.{Frame, Calling}
use Rattle.ll_code.specs.declared.program.LlProgram.{LlProgram}
use Rattle.ll_leads.proofs.Ways.{Comes, on, many, enter, gives}
use Rattle.ll_texts.specs.Follows.{FailedAs}
use Rattle.ll_texts.proofs.Following.{failed}
use Rattle.ll_texts.proofs.Numbers.{fits_count, less_true, less_false}
use Rattle.rtyper_layout.specs.declared.layout.Layout.{Layout}
use Rattle.rtyper_data.specs.declared.small.Listed.TheVariants as listed
use Rattle.rtyper_data.specs.Graphs.{failing}
use Rattle.list_shape.specs.Shapes.{gives as gives_block}
use Rattle.list_loops.specs.Loops.{place, place_tests, place_start, place_from_end, place_low, place_high, place_types}
use Rattle.lower_laws.proofs.Small.{Flies, flown, flies_on, same_memory}
use Rattle.list_laws.specs.Asked.{HasList}
use Rattle.object_laws.specs.Represents.{head_block}
use Rattle.object_laws.proofs.Blocks.{reads_field}
use Rattle.list_laws.proofs.Lengths.{HeadShape, HeadFound}

-- from the end, inside and outside
turned : (i n : ℕ) → Fits (negsuc i) → n < 2 ^ 63 → i < n → binary_of Add (Word (negsuc i)) (Word (pos n)) ≡ Ok (Word (pos (n - suc i)))
turned i n f s l = ap (λ z. Ok (Word z)) ((let e : negsuc i +ℤ pos n ≡ pos (n - suc i) = omega (arith, ints) in ap wrap e) ∙ int_wrap_fits w64 (pos (n - suc i)) (fits_count (n - suc i) (omega (arith, s))))

left_of : (i n : ℕ) → Fits (negsuc i) → n < 2 ^ 63 → n ≤ i → binary_of Add (Word (negsuc i)) (Word (pos n)) ≡ Ok (Word (negsuc (i - n)))
left_of i n f s l = ap (λ z. Ok (Word z)) ((let e : negsuc i +ℤ pos n ≡ negsuc (i - n) = omega (arith, ints) in ap wrap e) ∙ int_wrap_fits w64 (negsuc (i - n)) (omega (arith, ints)))

module _ (p : LlProgram) (layout : Layout) (arguments : List (List ℕ)) (raised : ℕ → Value) (n f : ℕ) (core : Core) (x array : Value) (count : ℕ) (shape : HeadShape p n) (is : HeadFound core x n count array) (few : count < 2 ^ 63) where
  -- what comes of a place, where there is one
  abbrev pub PlaceGoes : Bool → ℤ → Option ℕ → Type 0
  PlaceGoes raises z (Some k) = (waits : List Frame) → Comes p arguments (Calling f (x ∷ Word z ∷ []) waits core) [] (Word (pos k)) waits core
  PlaceGoes true z None = (waits : List Frame) → Flies p arguments (Calling f (x ∷ Word z ∷ []) waits core) (raised 6) waits core
  PlaceGoes false z None = (waits : List Frame) → FailedAs p arguments (Calling f (x ∷ Word z ∷ []) waits core) fail.Index

  within : (raises : Bool) (i : ℕ) → HasList p layout raised (listed.Place n raises) f → i < count → PlaceGoes raises (pos i) (Some i)
  unfolding place place_tests place_start place_from_end place_low place_high place_types gives_block
  within raises i h inside waits = record {
    end = _;
    same = refl;
    leads = on (enter h.graph refl) (on (reads_field 2 (head_block n count array) (Word (pos count)) shape is refl refl 0 refl)
        (on (gives (Flag false) (less_false i 0 (omega arith))) (on (many 1 h.graph refl refl) (on (gives (Flag false) (less_false i 0 (omega arith))) (on (many 1 h.graph refl refl)
        (on (gives (Flag true) (less_true i count inside)) (many 2 h.graph refl refl)))))));
  }

  beyond : (raises : Bool) (i : ℕ) → HasList p layout raised (listed.Place n raises) f → count ≤ i → PlaceGoes raises (pos i) None
  unfolding place place_tests place_start place_from_end place_low place_high place_types gives_block failing
  beyond true i h outside = λ waits. same_memory refl (flies_on
      (on (enter h.graph refl) (on (reads_field 2 (head_block n count array) (Word (pos count)) shape is refl refl 0 refl)
      (on (gives (Flag false) (less_false i 0 (omega arith))) (on (many 1 h.graph refl refl) (on (gives (Flag false) (less_false i 0 (omega arith))) (on (many 1 h.graph refl refl)
      (on (gives (Flag false) (less_false i count outside)) (many 1 h.graph refl refl)))))))) (flown h.raises.0))
  beyond false i h outside = λ waits. failed
      (on (enter h.graph refl) (on (reads_field 2 (head_block n count array) (Word (pos count)) shape is refl refl 0 refl)
      (on (gives (Flag false) (less_false i 0 (omega arith))) (on (many 1 h.graph refl refl) (on (gives (Flag false) (less_false i 0 (omega arith))) (on (many 1 h.graph refl refl)
      (on (gives (Flag false) (less_false i count outside)) (many 1 h.graph refl refl)))))))) refl

  from_end : (raises : Bool) (i : ℕ) → HasList p layout raised (listed.Place n raises) f → Fits (negsuc i) → i < count → PlaceGoes raises (negsuc i) (Some (count - suc i))
  unfolding place place_tests place_start place_from_end place_low place_high place_types gives_block
  from_end raises i h fits inside waits = record {
    end = _;
    same = refl;
    leads = on (enter h.graph refl) (on (reads_field 2 (head_block n count array) (Word (pos count)) shape is refl refl 0 refl)
        (on (many 2 h.graph refl refl) (on (gives (Word (pos (count - suc i))) (turned i count fits few inside)) (on (many 1 h.graph refl refl)
        (on (gives (Flag false) (less_false (count - suc i) 0 (omega arith))) (on (many 1 h.graph refl refl)
        (on (gives (Flag true) (less_true (count - suc i) count (omega (arith, inside)))) (many 2 h.graph refl refl))))))));
  }

  before_start : (raises : Bool) (i : ℕ) → HasList p layout raised (listed.Place n raises) f → Fits (negsuc i) → count ≤ i → PlaceGoes raises (negsuc i) None
  unfolding place place_tests place_start place_from_end place_low place_high place_types gives_block failing
  before_start true i h fits outside = λ waits. same_memory refl (flies_on
      (on (enter h.graph refl) (on (reads_field 2 (head_block n count array) (Word (pos count)) shape is refl refl 0 refl)
      (on (many 2 h.graph refl refl) (on (gives (Word (negsuc (i - count))) (left_of i count fits few outside)) (many 3 h.graph refl refl))))) (flown h.raises.0))
  before_start false i h fits outside = λ waits. failed
      (on (enter h.graph refl) (on (reads_field 2 (head_block n count array) (Word (pos count)) shape is refl refl 0 refl)
      (on (many 2 h.graph refl refl) (on (gives (Word (negsuc (i - count))) (left_of i count fits few outside)) (many 3 h.graph refl refl))))) refl

  pub place_is : (raises : Bool) (z : ℤ) → HasList p layout raised (listed.Place n raises) f → Fits z → PlaceGoes raises z (meant_place z count)
  place_is raises (pos i) h fits = by (nat_lt i count) refl
    where
      by : (c : Bool) → nat_lt i count ≡ c → PlaceGoes raises (pos i) (if c then Some i else None)
      by true e = within raises i h (grind (arith, nat_tests, e))
      by false e = beyond raises i h (grind (arith, nat_tests, e))
  place_is raises (negsuc i) h fits = by (nat_lt i count) refl
    where
      by : (c : Bool) → nat_lt i count ≡ c → PlaceGoes raises (negsuc i) (if c then Some (count - suc i) else None)
      by true e = from_end raises i h fits (grind (arith, nat_tests, e))
      by false e = before_start raises i h fits (grind (arith, nat_tests, e))
