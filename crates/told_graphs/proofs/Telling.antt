-- Which graphs are told not to raise.
use Rattle.std.proofs.Common.{◌≡◌, ◌<◌, ◌≤◌, ◌^◌, ℕ, zero, suc, ◌+◌, ◌-◌, ◌==◌, not, Bool, true, false, List, [], ◌∷◌, ◌++◌, length, slice_get, Option, Some, None, refl, sym, ap, subst, ◌∙◌, arith}
use Rattle.std.specs.Prelude.{if◌then◌else◌, nat_lt}
use Rattle.std.proofs.lemmas.Option.{slice_get_within}
use Rattle.ll_code.specs.declared.program.LlGraph.{LlGraph}
use Rattle.ll_build.specs.declared.needs.Helper.{Helper}
use Rattle.ll_build.specs.declared.needs.Need.{Need}
use Rattle.rpy_meaning.specs.declared.row.Covers.{Covers}
use Rattle.rpy_meaning.specs.contracts.row.CoversPartialEq.TheImpl.{eq-value as equal_covers}
use Rattle.rtyper_layout.specs.Types.{word}
use Rattle.rtyper_data.specs.declared.found.Found.{Found}
use Rattle.rtyper_data.specs.declared.small.Small.{Small}
use Rattle.rtyper_data.specs.Finding.{failures_of, helper_number, need_from, needed, nothing, small_number}
use Rattle.rtyper_class.specs.Seen.{World}
use Rattle.rtyper_program.specs.Cuts.{graph_raises, numbered_raises, one_raises, small_raises}
use Rattle.rtyper_program.specs.Program.{small_of}
use Rattle.rtyper_program.specs.Raises.{is_covered}
use Rattle.growth_laws.specs.Growing.{Grows}
use Rattle.growth_laws.proofs.Data.{then_grows}
use Rattle.growth_laws.proofs.Fronts.{last_one, stays}
use Rattle.growth_laws.proofs.Growing.{helpers_grow, smalls_grow}
use Rattle.program_asks.proofs.Helpers.{need_at}
use Rattle.program_asks.proofs.Passes.{number_at}
use Rattle.catch_laws.specs.Exits.{quiet_by}
use Rattle.told_graphs.proofs.Keeping.{Telling}
use Rattle.told_graphs.proofs.Standing.{Standing}

pub not_less : (m n : ℕ) → nat_lt m n ≡ false → n ≤ m
not_less m n e = grind arith

pub is_no_less : (m n : ℕ) → n ≤ m → nat_lt m n ≡ false
is_no_less m n h = grind arith

pub less_is : (m n : ℕ) → m < n → nat_lt m n ≡ true
less_is m n h = grind arith

pub less_so : (m n : ℕ) → nat_lt m n ≡ true → m < n
less_so m n e = grind arith

same_covers : (a b : Covers) → equal_covers.it a b ≡ true → a ≡ b
same_covers a b h = grind (arith, h)

uncovered : (c : Covers) → is_covered c ≡ false → c ≡ nothing
uncovered c h = same_covers c nothing (flipped (equal_covers.it c nothing) h)
  where
    flipped : (b : Bool) → not b ≡ false → b ≡ true
    flipped true e = refl
    flipped false e = absurd (cc)

-- ---- what is told, and why

-- it is a helper without failures that are covered, or a small graph that raises nothing
pub data Why (found : Found) (n : ℕ) : Type 0 where
  AsHelper : slice_get found.caught n ≡ Some nothing → Why found n
  AsSmall : (k : ℕ) (s : Small) → n ≡ found.first_small + k → slice_get found.caught n ≡ None → slice_get found.smalls k ≡ Some s → small_raises s ≡ false → Why found n

pub record Reason (found : Found) (n : ℕ) : Type 0 where
  pub numbers : (found.first_small == 0) ≡ false
  pub why : Why found n

opposite : (b : Bool) → not b ≡ true → b ≡ false
opposite true e = absurd (cc)
opposite false e = refl

small_why : (found : Found) (n : ℕ) (o : Option Small) → nat_lt n found.first_small ≡ false → slice_get found.caught n ≡ None → slice_get found.smalls (n - found.first_small) ≡ o → one_raises o ≡ false → Why found n
small_why found n None h c e q = absurd (cc)
small_why found n (Some s) h c e q = (let le : found.first_small ≤ n = not_less n found.first_small h in AsSmall (n - found.first_small) s (omega (arith, le)) c e q)

behind_why : (found : Found) (n : ℕ) (b : Bool) → nat_lt n found.first_small ≡ b → slice_get found.caught n ≡ None → (if b then true else one_raises (slice_get found.smalls (n - found.first_small))) ≡ false → Why found n
behind_why found n true h c q = absurd (cc)
behind_why found n false h c q = small_why found n (slice_get found.smalls (n - found.first_small)) h c refl q

numbered_why : (found : Found) (n : ℕ) (o : Option Covers) → slice_get found.caught n ≡ o → numbered_raises found n o ≡ false → Why found n
numbered_why found n (Some c) e q = AsHelper (e ∙ ap (λ x. Some x) (uncovered c q))
numbered_why found n None e q = behind_why found n (nat_lt n found.first_small) refl e q

told_by : (found : Found) (n : ℕ) (b : Bool) → (found.first_small == 0) ≡ b → (if b then true else numbered_raises found n (slice_get found.caught n)) ≡ false → Reason found n
told_by found n true e q = absurd (cc)
told_by found n false e q = record { numbers = e; why = numbered_why found n (slice_get found.caught n) refl q }

pub reason : (found : Found) (n : ℕ) → quiet_by found n ≡ true → Reason found n
unfolding graph_raises
reason found n h = told_by found n (found.first_small == 0) refl (opposite (graph_raises found n) h)

-- ---- and the other way round

quiet_if : (found : Found) (n : ℕ) → (found.first_small == 0) ≡ false → numbered_raises found n (slice_get found.caught n) ≡ false → quiet_by found n ≡ true
unfolding graph_raises
quiet_if found n e q = ap (λ b. not (if b then true else numbered_raises found n (slice_get found.caught n))) e ∙ ap not q

pub quiet_helper : (found : Found) (n : ℕ) → (found.first_small == 0) ≡ false → slice_get found.caught n ≡ Some nothing → quiet_by found n ≡ true
quiet_helper found n e h = quiet_if found n e (ap (numbered_raises found n) h)

pub quiet_small : (found : Found) (k : ℕ) (s : Small) → (found.first_small == 0) ≡ false → slice_get found.caught (found.first_small + k) ≡ None → slice_get found.smalls k ≡ Some s → small_raises s ≡ false
    → quiet_by found (found.first_small + k) ≡ true
quiet_small found k s e c there h =
    let n : ℕ = found.first_small + k in
    let less : nat_lt n found.first_small ≡ false = is_no_less (found.first_small + k) found.first_small (omega arith) in
    let place : found.first_small + k - found.first_small ≡ k = omega arith in
    quiet_if found n e
    (ap (numbered_raises found n) c ∙ (ap (λ b. if b then true else one_raises (slice_get found.smalls (n - found.first_small))) less ∙ (ap (λ i. one_raises (slice_get found.smalls i)) place ∙ (ap one_raises there ∙ h))))

pub none_there : {A : Type 0} (xs : List A) (n : ℕ) → length xs ≤ n → slice_get xs n ≡ None
none_there [] n h = refl
none_there (x ∷ xs) zero h = absurd (omega (arith, h))
none_there (x ∷ xs) (suc n) h = none_there xs n (omega (arith, h))

-- ---- what is asked for to the end

caught_by : (h : Helper) (c : Covers) (found : Found) (o : Option ℕ) → need_from 0 found.needs found.caught h c ≡ o → length found.needs ≡ length found.caught → slice_get (needed h c found o).1.caught (needed h c found o).0 ≡ Some c
caught_by h c found (Some n) e same = (need_at 0 found.needs found.caught h c n e).5
caught_by h c found None e same = ap (slice_get (found.caught ++ c ∷ [])) same ∙ last_one found.caught c

-- beside the number of a helper stands what it raises
helper_caught : (h : Helper) (found : Found) → length found.needs ≡ length found.caught → slice_get (helper_number h found).1.caught (helper_number h found).0 ≡ Some (failures_of h found.covered)
unfolding helper_number
helper_caught h found same = caught_by h (failures_of h found.covered) found (need_from 0 found.needs found.caught h (failures_of h found.covered)) refl same

module _ (graphs : List LlGraph) (world : World) (helped : List LlGraph) (needs : List Need) (last : Found) (it : Standing graphs world helped needs last) (some : length needs ≤ length helped) where
  pub none_caught : (n : ℕ) → length helped ≤ n → slice_get last.caught n ≡ None
  none_caught n h = (let c : length last.caught ≡ length needs = it.counted in none_there last.caught n (omega (arith, c, some, h)))

  module _ (quiet : ℕ → Bool) (numbers : (last.first_small == 0) ≡ false) (enough : (n : ℕ) → quiet_by last n ≡ true → quiet n ≡ true) where
    pub helper_told : (h : Helper) (found : Found) → failures_of h found.covered ≡ nothing → Grows (helper_number h found).1 last → quiet (helper_number h found).0 ≡ true
    helper_told h found e late =
        let before : Grows found last = then_grows (helpers_grow h found) late in
        let t : length last.needs + length found.caught ≡ length found.needs + length last.caught = before.together in
        let a : length last.needs ≡ length needs = it.all_needs in
        let b : length last.caught ≡ length needs = it.counted in
        enough (helper_number h found).0 (quiet_helper last (helper_number h found).0 numbers
        (stays (helper_number h found).1.caught last.caught (helper_number h found).0 (failures_of h found.covered) late.caught (helper_caught h found (omega (arith, t, a, b))) ∙ ap (λ c. Some c) e))

    fits : (k : ℕ) → k < 2 ^ 64 → word k ≡ k
    fits k h = omega (arith, h)

    pub small_told : (s : Small) (found : Found) → small_raises s ≡ false → Grows (small_number s found).1 last → quiet (small_number s found).0 ≡ true
    small_told s found e late =
        let at = number_at s found in
        let there : slice_get last.smalls at.0 ≡ Some at.2.met = stays (small_number s found).1.smalls last.smalls at.0 at.2.met late.smalls at.2.there in
        let stood = it.small at.0 at.2.met there in
        let below : last.first_small + at.0 < length graphs = slice_get_within graphs (last.first_small + at.0) (small_of world at.2.met stood.made).0 stood.graph in
        let few : length graphs < 2 ^ 64 = it.few in
        let behind : length helped ≤ last.first_small = it.behind in
        let first : last.first_small ≡ found.first_small = late.first ∙ (smalls_grow s found).first in
        let n : last.first_small + at.0 ≡ (small_number s found).0 = sym (at.1 ∙ (ap (λ i. word (i + at.0)) (sym first) ∙ fits (last.first_small + at.0) (omega (arith, below, few)))) in
        enough (small_number s found).0 (subst (λ i. quiet_by last i ≡ true) n
        (quiet_small last at.0 at.2.met numbers (none_caught (last.first_small + at.0) (omega (arith, behind))) there (subst (λ x. small_raises x ≡ false) (sym at.2.is) e)))

    abbrev pub telling : Telling
    telling = record { quiet = quiet; last = last; helpers = helper_told; smalls = small_told }

  -- what is told at some moment is told in the end
  pub quiet_later : (found : Found) → Grows found last → (n : ℕ) → quiet_by found n ≡ true → quiet_by last n ≡ true
  quiet_later found late n h = by (reason found n h).why
    where
      numbers : (last.first_small == 0) ≡ false
      numbers = ap (λ i. i == 0) late.first ∙ (reason found n h).numbers

      by : Why found n → quiet_by last n ≡ true
      by (AsHelper e) = quiet_helper last n numbers (stays found.caught last.caught n nothing late.caught e)
      by (AsSmall k s e c there q) =
          let first : last.first_small ≡ found.first_small = late.first in
          let behind : length helped ≤ last.first_small = it.behind in
          subst (λ i. quiet_by last i ≡ true) (let m : n ≡ found.first_small + k = e in let z : last.first_small + k ≡ n = omega (arith, m, first) in z)
          (quiet_small last k s numbers (none_caught (last.first_small + k) (omega (arith, behind))) (stays found.smalls last.smalls k s late.smalls there) q)
