-- Looking in a right index.
use Rattle.std.proofs.Common.{◌≡◌, ◌≢◌, ℕ, zero, suc, ◌<◌, Bool, true, false, List, length, slice_get, Option, Some, None, refl, sym, ap, ◌∙◌, subst, arith}
use Rattle.dict_laws.specs.Index.{next, IsEmpty, Holds, StandsFrom, here, behind, Looks, missed, met, passed, IsFound, FindsKeys, IsRight}
use Rattle.dict_laws.proofs.Words.{Reaches, same, step, reached, an_empty, get_below, is_below, next_below}

module _ (words : List ℕ) (has : ℕ → Bool) where
  -- it ends at an empty word that comes behind
  ends : (at to : ℕ) → Reaches (length words) at to → IsEmpty words to → at < length words → (found : Option ℕ) × Looks words has at found
  ends _ _ (same at) e lt = (None, missed at e)
  ends _ _ (step at to r) e lt =
      let w = get_below words at lt in
      by w.0 w.1 (ends (next (length words) at) to r e (next_below (length words) at lt))
    where
      by_test : (entry : ℕ) → Holds words at entry → ((found : Option ℕ) × Looks words has (next (length words) at) found) → (b : Bool) → has entry ≡ b → (found : Option ℕ) × Looks words has at found
      by_test entry h rest true t = (Some entry, met at entry h t)
      by_test entry h rest false t = (rest.0, passed at entry rest.0 h t rest.1)

      by : (w : ℕ) → slice_get words at ≡ Some w → ((found : Option ℕ) × Looks words has (next (length words) at) found) → (found : Option ℕ) × Looks words has at found
      by zero h rest = (None, missed at h)
      by (suc entry) h rest = by_test entry h rest (has entry) refl

  -- what is found has the key
  pub found_has : (at : ℕ) (found : Option ℕ) (count : ℕ) → ((place entry : ℕ) → Holds words place entry → entry < count) → Looks words has at found → (entry : ℕ) → found ≡ Some entry → (entry < count) × (has entry ≡ true)
  found_has _ _ count known (missed at e) entry q = absurd (cc)
  found_has _ _ count known (met at other h t) entry q = let p : other ≡ entry = cc in (subst (λ x. x < count) p (known at other h), ap has (sym p) ∙ t)
  found_has _ _ count known (passed at other found h t rest) entry q = found_has (next (length words) at) found count known rest entry q

  -- an entry that stands there and has the key is not missed
  pub not_missed : (at : ℕ) (found : Option ℕ) (entry : ℕ) → Looks words has at found → StandsFrom words entry at → has entry ≡ true → found ≢ None
  not_missed _ _ entry (missed at e) (here _ h) t q = cc
  not_missed _ _ entry (missed at e) (behind _ other h s) t q = cc
  not_missed _ _ entry (met at other h k) s t q = cc
  not_missed _ _ entry (passed at other found h k rest) (here _ g) t q = let p : other ≡ entry = cc in let z : true ≡ false = sym t ∙ (ap has (sym p) ∙ k) in cc
  not_missed _ _ entry (passed at other found h k rest) (behind _ more g s) t q = not_missed (next (length words) at) found entry rest s t q

pub looking_ends : (words starts : List ℕ) (has : ℕ → Bool) (start : ℕ) → IsRight words starts → length starts < length words → start < length words → (found : Option ℕ) × Looks words has start found
looking_ends words starts has start right room lt =
    let e = an_empty words (omega (arith, right.free, room)) in
    ends words has start e.0 (reached (length words) start e.0 lt (is_below words e.0 0 e.1)) e.1 lt

pub finds_keys : FindsKeys
finds_keys words starts has start right room lt leads =
    (looking_ends words starts has start right room lt, λ found l. by found l)
  where
    no_other : (b : Bool) (entry : ℕ) → has entry ≡ b → (has entry ≡ true → ⊥) → has entry ≡ false
    no_other true entry t f = absurd (f t)
    no_other false entry t f = t

    by : (found : Option ℕ) → Looks words has start found → IsFound (length starts) has found
    by None l = λ entry less. no_other (has entry) entry refl (λ t. not_missed words has start None entry l (right.stands entry start (leads entry less t)) t refl)
    by (Some entry) l = found_has words has start (Some entry) (length starts) right.known l entry refl
