-- The index that is written for a dict is right.
use Rattle.std.proofs.Common.{◌≡◌, ◌<◌, ◌≤◌, inl, inr, ℕ, zero, suc, ◌+◌, ◌*◌, ◌^◌, Bool, true, false, List, ◌∷◌, ◌++◌, length, map, replicate, slice_get, slice_set, Some, ℤ, pos, refl, sym, ap, ◌∙◌, subst, arith, append_assoc, []}
use Rattle.std.specs.Prelude.{◌-◌, ◌-ℤ◌, nat_le, nat_lt, if◌then◌else◌}
use Rattle.std.specs.Int.{w64, int_bit_and}
use Rattle.std.specs.Ordering.{int_eq}
use Rattle.std.proofs.lemmas.Bool.{ltb-false, leb-true, leb-false}
use Rattle.std.proofs.lemmas.Bool.Decides.{eqb_tells}
use Rattle.std.proofs.lemmas.Int.{int_wrap_fits}
use Rattle.std.proofs.lemmas.List.{append-nil}
use Rattle.rpy_base.specs.Word.{wrap}
use Rattle.rtyper_layout.specs.Types.{word}
use Rattle.rtyper_op.specs.Mapped.{size_from, size_of, place_of_hash, number_or_zero, is_empty, round, enter_from, enter}
use Rattle.dict_laws.specs.Index.{next, IsEmpty, IsRight, Enters, put, went, done}
use Rattle.dict_laws.specs.Masks.{IsLength, place_of}
use Rattle.dict_laws.proofs.Entering.{entered as entered_as, enters_keys, makes_indices}
use Rattle.dict_laws.proofs.Masked.{masks_lead, two_more}
use Rattle.dict_laws.proofs.Words.{an_empty, get_below, is_below, length_set, length_snoc, next_below, size_is}
use Rattle.object_laws.specs.Dicts.{IsIndex}
use Rattle.layout_laws.proofs.Places.{no_some, same_some}

-- ---- the length

-- a power of two
record IsPower (least size : ℕ) : Type 0 where
  bits : ℕ
  one : 1 ≤ bits
  few : bits < 63
  is : size ≡ 2 ^ bits
  enough : least ≤ size

power_from : (turns bits least : ℕ) → 1 ≤ bits → bits + turns ≡ 63 → 1 ≤ turns → least ≤ 2 ^ 62 → IsPower least (size_from turns (2 ^ bits) least)
unfolding size_from
power_from zero bits least one all some few = absurd (omega (arith, some))
power_from (suc turns) bits least one all some few =
    by (power_from turns (suc bits) least) (nat_le least (2 ^ bits)) refl
  where
    low : bits ≤ 62
    low = omega (arith, all)

    by : (1 ≤ suc bits → suc bits + turns ≡ 63 → 1 ≤ turns → least ≤ 2 ^ 62 → IsPower least (size_from turns (2 ^ suc bits) least)) → (b : Bool) → nat_le least (2 ^ bits) ≡ b → IsPower least (if b then 2 ^ bits else size_from turns (word (2 ^ bits * 2)) least)
    by rest true e = record { bits = bits; one = one; few = omega (arith, low); is = refl; enough = leb-true least (2 ^ bits) e }
    by rest false e =
        let more : 2 ^ bits < least = leb-false least (2 ^ bits) e in
        let fewer : bits < 62 = elim (eqb_tells bits 62) [ inl t ↦ absurd (let q : 2 ^ bits ≡ 2 ^ 62 = ap (λ k. 2 ^ k) t.1 in omega (arith, q, more, few)) | inr t ↦ omega (arith, low, t.1) ] in
        let double : 2 ^ bits * 2 ≡ 2 ^ suc bits = omega (arith) in
        let small : 2 ^ suc bits ≤ 2 ^ 62 = two_more (suc bits) 62 (omega (arith, fewer)) in
        let same : word (2 ^ bits * 2) ≡ 2 ^ suc bits = (let z : word (2 ^ bits * 2) ≡ 2 ^ bits * 2 = omega (arith, double, small) in z ∙ double) in
        subst (λ k. IsPower least (size_from turns k least)) (sym same) (rest (omega (arith)) (omega (arith, all)) (omega (arith, all, fewer)) few)

pub index_long : (count : ℕ) → count < 2 ^ 61 → IsLength count (size_of count)
unfolding size_of
index_long count few =
    let least : word (count * 2) ≡ count * 2 = omega (arith, few) in
    let p = power_from 62 1 (word (count * 2)) (omega arith) refl (omega arith) (omega (arith, least, few)) in
    let two : 2 ≤ 2 ^ p.bits = two_more 1 p.bits p.one in
    let is = p.is in
    let enough = p.enough in
    record { bits = p.bits; few = p.few; is = is; longer = omega (arith, two, is, enough, least) }

-- ---- where a hash leads

small_difference : (n : ℕ) → 1 ≤ n → pos n -ℤ pos 1 ≡ pos (n - 1)
small_difference n one = grind (arith, one)

small_wrap : (n : ℕ) → n < 2 ^ 63 → wrap (pos n) ≡ pos n
small_wrap n lt = int_wrap_fits w64 (pos n) (grind (arith, lt))

pub place_is : (hash : ℤ) (size bits : ℕ) → size ≡ 2 ^ bits → bits < 63 → place_of_hash hash size ≡ place_of bits hash
unfolding place_of_hash
place_is hash size bits is few =
    let small : 2 ^ bits ≤ 2 ^ 62 = two_more bits 62 (omega (arith, few)) in
    let one : 1 ≤ 2 ^ bits = two_more 0 bits (omega arith) in
    by (nat_lt size (2 ^ 63)) refl (omega (arith, small, is)) (small_difference size (omega (arith, one, is)) ∙ ap (λ k. pos (k - 1)) is) (small_wrap (2 ^ bits - 1) (omega (arith, small)))
  where
    by : (b : Bool) → nat_lt size (2 ^ 63) ≡ b → size < 2 ^ 63 → pos size -ℤ pos 1 ≡ pos (2 ^ bits - 1) → wrap (pos (2 ^ bits - 1)) ≡ pos (2 ^ bits - 1) → (if b then number_or_zero (int_bit_and w64 hash (wrap (pos size -ℤ pos 1))) else 0) ≡ place_of bits hash
    by true e lt d w = ap (λ z. number_or_zero (int_bit_and w64 hash (wrap z))) d ∙ ap (λ z. number_or_zero (int_bit_and w64 hash z)) w ∙ ap number_or_zero ((masks_lead bits few).0 hash).0
    by false e lt d w = absurd (omega (arith, lt, ltb-false size (2 ^ 63) e))

-- ---- one entry

abbrev pub as_words : List ℕ → List ℤ
as_words words = map pos words

words_long : (words : List ℕ) → length (as_words words) ≡ length words
words_long [] = refl
words_long (w ∷ words) = ap suc (words_long words)

words_at : (words : List ℕ) (i w : ℕ) → slice_get words i ≡ Some w → slice_get (as_words words) i ≡ Some (pos w)
words_at [] i w h = absurd (no_some h)
words_at (x ∷ words) zero w h = ap (λ k. Some (pos k)) (same_some h)
words_at (x ∷ words) (suc i) w h = words_at words i w h

words_set : (words : List ℕ) (i w : ℕ) → slice_set (as_words words) i (pos w) ≡ as_words (slice_set words i w)
words_set [] i w = refl
words_set (x ∷ words) zero w = refl
words_set (x ∷ words) (suc i) w = ap (λ xs. pos x ∷ xs) (words_set words i w)

-- so many places on
abbrev steps : ℕ → ℕ → ℕ → ℕ
steps size zero at = at
steps size (suc k) at = steps size k (next size at)

next_on : (size at : ℕ) → at + 1 < size → next size at ≡ at + 1
next_on size at lt = elim (eqb_tells (at + 1) size) [ inl t ↦ absurd (omega (arith, lt, t.1)) | inr t ↦ ap (λ b. if b then 0 else at + 1) t.0 ]

next_end : (size at : ℕ) → at + 1 ≡ size → next size at ≡ 0
next_end size at e = elim (eqb_tells (at + 1) size) [ inl t ↦ ap (λ b. if b then 0 else at + 1) t.0 | inr t ↦ absurd (t.1 e) ]

steps_on : (size k at : ℕ) → at + k < size → steps size k at ≡ at + k
steps_on size zero at lt = omega arith
steps_on size (suc k) at lt = ap (steps size k) (next_on size at (omega (arith, lt))) ∙ steps_on size k (at + 1) (omega (arith, lt)) ∙ omega arith

steps_both : (size j k at : ℕ) → steps size (j + k) at ≡ steps size k (steps size j at)
steps_both size zero k at = ap (λ n. steps size n at) (let z : 0 + k ≡ k = omega arith in z)
steps_both size (suc j) k at = ap (λ n. steps size n at) (let z : suc j + k ≡ suc (j + k) = omega arith in z) ∙ steps_both size j k (next size at)

record Away (size at to : ℕ) : Type 0 where
  far : ℕ
  less : far < size
  is : steps size far at ≡ to

away : (size at to : ℕ) → at < size → to < size → Away size at to
away size at to lt less = by (nat_le at to) refl
  where
    by : (b : Bool) → nat_le at to ≡ b → Away size at to
    by true e = (let le = leb-true at to e in record { far = to - at; less = omega (arith, less); is = steps_on size (to - at) at (omega (arith, le, less)) ∙ omega (arith, le) })
    by false e =
        let gt = leb-false at to e in
        let first : ℕ = size - at - 1 in
        let last : steps size first at ≡ size - 1 = steps_on size first at (omega (arith, lt)) ∙ omega (arith, lt) in
        let round : steps size (first + 1) at ≡ 0 = steps_both size first 1 at ∙ ap (next size) last ∙ next_end size (size - 1) (omega (arith, lt)) in
        record {
          far = first + 1 + to;
          less = omega (arith, lt, gt);
          is = steps_both size (first + 1) to at ∙ ap (steps size to) round ∙ steps_on size to 0 (omega (arith, less)) ∙ omega arith;
        }

round_is : (size at place : ℕ) → place < size → at ≡ place → round at size ≡ place
round_is size at place lt e = by (nat_le size at) refl
  where
    by : (b : Bool) → nat_le size at ≡ b → (if b then 0 else at) ≡ place
    by true h = absurd (omega (arith, lt, e, leb-true size at h))
    by false h = e

round_next : (size place : ℕ) → place < size → round (place + 1) size ≡ next size place
round_next size place lt = elim (eqb_tells (place + 1) size) [
  | inl t ↦ (let z = t.1 in at_end (nat_le size (place + 1)) refl z) ∙ sym (ap (λ b. if b then 0 else place + 1) t.0)
  | inr t ↦ (let z = t.1 in before_end (nat_le size (place + 1)) refl z) ∙ sym (ap (λ b. if b then 0 else place + 1) t.0)
]
  where
    at_end : (b : Bool) → nat_le size (place + 1) ≡ b → place + 1 ≡ size → (if b then 0 else place + 1) ≡ 0
    at_end true h e = refl
    at_end false h e = absurd (omega (arith, e, leb-false size (place + 1) h))

    before_end : (b : Bool) → nat_le size (place + 1) ≡ b → (place + 1 ≡ size → ⊥) → (if b then 0 else place + 1) ≡ place + 1
    before_end true h ne = absurd (ne (let z = leb-true size (place + 1) h in omega (arith, lt, z)))
    before_end false h ne = refl

no_zero : (n : ℕ) → int_eq (pos (suc n)) (pos 0) ≡ false
no_zero n = by (int_eq (pos (suc n)) (pos 0)) refl
  where
    by : (t : Bool) → int_eq (pos (suc n)) (pos 0) ≡ t → t ≡ false
    by true h = absurd (let q : pos (suc n) ≡ pos 0 = grind (arith, h) in cc)
    by false h = refl

-- an entry comes into the first empty word
record Entering (words : List ℕ) (entry at : ℕ) (after : List ℤ) : Type 0 where
  new : List ℕ
  is : after ≡ as_words new
  enters : Enters words entry at new

enter_comes : (words : List ℕ) (entry k turns at place : ℕ) → k < turns → place < length words → length words < 2 ^ 63 → round at (length words) ≡ place → IsEmpty words (steps (length words) k place)
    → Entering words entry place (enter_from turns at (pos (suc entry)) (as_words words))
enter_comes words entry k zero at place lt within small here empty = absurd (omega (arith, lt))
enter_comes words entry k (suc turns) at place lt within small here empty = by (get_below words place within).0 (get_below words place within).1 k lt empty (λ j less e. enter_comes words entry j turns (word (place + 1)) (next (length words) place) less (next_below (length words) place within) small
    (ap (λ n. round n (length words)) (let z : word (place + 1) ≡ place + 1 = omega (arith, within, small) in z) ∙ round_next (length words) place within) e)
  where
    rounded : round at (length (as_words words)) ≡ place
    rounded = ap (round at) (words_long words) ∙ here

    after : ℤ → List ℤ
    after w = enter_from turns (word (round at (length (as_words words)) + 1)) w (as_words words)

    by : (w : ℕ) → slice_get words place ≡ Some w → (k : ℕ) → k < suc turns → IsEmpty words (steps (length words) k place)
        → ((j : ℕ) → j < turns → IsEmpty words (steps (length words) j (next (length words) place)) → Entering words entry (next (length words) place) (enter_from turns (word (place + 1)) (pos (suc entry)) (as_words words)))
        → Entering words entry place (if is_empty (slice_get (as_words words) (round at (length (as_words words)))) then slice_set (as_words words) (round at (length (as_words words))) (pos (suc entry)) else enter_from turns (word (round at (length (as_words words)) + 1)) (pos (suc entry)) (as_words words))
    by zero h k lt empty rest = record {
      new = slice_set words place (suc entry);
      is = ap (λ n. if is_empty (slice_get (as_words words) n) then slice_set (as_words words) n (pos (suc entry)) else enter_from turns (word (n + 1)) (pos (suc entry)) (as_words words)) rounded
          ∙ ap (λ o. if is_empty o then slice_set (as_words words) place (pos (suc entry)) else enter_from turns (word (place + 1)) (pos (suc entry)) (as_words words)) (words_at words place 0 h) ∙ words_set words place (suc entry);
      enters = put place h;
    }
    by (suc other) h zero lt empty rest = absurd (let q : Some (suc other) ≡ Some 0 = sym h ∙ empty in cc)
    by (suc other) h (suc k) lt empty rest =
        let it = rest k (omega (arith, lt)) empty in
        record {
          new = it.new;
          is = ap (λ n. if is_empty (slice_get (as_words words) n) then slice_set (as_words words) n (pos (suc entry)) else enter_from turns (word (n + 1)) (pos (suc entry)) (as_words words)) rounded
              ∙ ap (λ o. if is_empty o then slice_set (as_words words) place (pos (suc entry)) else enter_from turns (word (place + 1)) (pos (suc entry)) (as_words words)) (words_at words place (suc other) h)
              ∙ ap (λ b. if b then slice_set (as_words words) place (pos (suc entry)) else enter_from turns (word (place + 1)) (pos (suc entry)) (as_words words)) (no_zero other) ∙ it.is;
          enters = went place other it.new h it.enters;
        }

-- ---- all entries

size_kept : (words : List ℕ) (entry at : ℕ) (new : List ℕ) → Enters words entry at new → length new ≡ length words
size_kept words entry at new h = (let r = entered_as words entry at new h in ap length r.is ∙ length_set words r.place (suc entry))

-- what is entered from the place where a hash leads
pub entered : (words before : List ℕ) (hash : ℤ) (bits : ℕ) → IsRight words before → length words ≡ 2 ^ bits → bits < 63 → length before < length words
    → (new : List ℕ) × (enter hash (pos (suc (length before))) (as_words words) ≡ as_words new) × IsRight new (before ++ place_of bits hash ∷ []) × (length new ≡ length words)
unfolding enter
entered words before hash bits right size few room =
    let start : ℕ = place_of bits hash in
    let place : place_of_hash hash (length (as_words words)) ≡ start = ap (place_of_hash hash) (words_long words) ∙ place_is hash (length words) bits size few in
    let below : start < length words = (let z = ((masks_lead bits few).0 hash).1 in omega (arith, z, size)) in
    let small : 2 ^ bits ≤ 2 ^ 62 = two_more bits 62 (omega (arith, few)) in
    let free = right.free in
    let e = an_empty words (omega (arith, free, room)) in
    let far = away (length words) start e.0 below (is_below words e.0 0 e.1) in
    let it = enter_comes words (length before) far.far (length words) start start far.less below (omega (arith, small, size)) (round_is (length words) start start below refl) (ap (slice_get words) far.is ∙ e.1) in
    let from : ℕ → ℕ → List ℤ = λ n k. enter_from n k (pos (suc (length before))) (as_words words) in
    let is : from (length (as_words words)) (place_of_hash hash (length (as_words words))) ≡ as_words it.new =
    ap (λ n. from n (place_of_hash hash (length (as_words words)))) (words_long words) ∙ ap (from (length words)) place ∙ it.is in
    let done = enters_keys words before start right room below in
    (it.new, is, done.1 it.new it.enters, size_kept words (length before) start it.new it.enters)

-- the words of an index, with the hashes of the entries from a number on
abbrev pub Hashes : Type 0
Hashes = List ℤ

abbrev pub enter_hashes : Hashes → ℕ → List ℤ → List ℤ
enter_hashes [] n words = words
enter_hashes (h ∷ hashes) n words = enter_hashes hashes (n + 1) (enter h (pos n) words)

all_entered : (words before : List ℕ) (hashes : Hashes) (bits n : ℕ) → IsRight words before → length words ≡ 2 ^ bits → bits < 63 → length before + length hashes < length words → n ≡ suc (length before)
    → (new : List ℕ) × (enter_hashes hashes n (as_words words) ≡ as_words new) × IsRight new (before ++ map (place_of bits) hashes) × (length new ≡ length words)
all_entered words before [] bits n right size few room at = (words, refl, subst (λ xs. IsRight words xs) (sym (append-nil before)) right, refl)
all_entered words before (h ∷ hashes) bits n right size few room at =
    let one = entered words before h bits right size few (omega (arith, room)) in
    let long : length (before ++ place_of bits h ∷ []) ≡ suc (length before) = length_snoc before (place_of bits h) in
    let same_size : length one.0 ≡ length words = one.3 in
    let rest = all_entered one.0 (before ++ place_of bits h ∷ []) hashes bits (n + 1) one.2 (same_size ∙ size) few (omega (arith, room, long, same_size)) (omega (arith, at, long)) in (
      rest.0,
      ap (λ k. enter_hashes hashes (n + 1) (enter h (pos k) (as_words words))) at ∙ ap (enter_hashes hashes (n + 1)) one.1 ∙ rest.1,
      subst (λ xs. IsRight rest.0 xs) (append_assoc before (place_of bits h ∷ []) (map (place_of bits) hashes)) rest.2,
      rest.3 ∙ same_size,
    )

zeros : (size : ℕ) → as_words (replicate size 0) ≡ replicate size (pos 0)
zeros zero = refl
zeros (suc size) = ap (λ xs. pos 0 ∷ xs) (zeros size)

-- the index of so many hashes
pub index_right : (hashes : List ℤ) → length hashes < 2 ^ 61 → (index : List ℕ) × (enter_hashes hashes 1 (replicate (size_of (length hashes)) (pos 0)) ≡ as_words index) × IsIndex hashes (length hashes) index
index_right hashes few =
    let long = index_long (length hashes) few in
    let size : ℕ = size_of (length hashes) in
    let longer = long.longer in
    let start : IsRight (replicate size 0) [] = (makes_indices size [] tt (omega (arith, longer))).1 (replicate size 0) (done (replicate size 0) 0) in
    let is = size_is size in
    let all = all_entered (replicate size 0) [] hashes long.bits 1 start (is ∙ long.is) long.few (omega (arith, longer, is)) refl in
    let size_same : length all.0 ≡ size = all.3 ∙ is in
    (all.0, ap (enter_hashes hashes 1) (sym (zeros size)) ∙ all.1, record { long = record { bits = long.bits; few = long.few; is = size_same ∙ long.is; longer = omega (arith, longer, size_same) }; right = all.2 })
