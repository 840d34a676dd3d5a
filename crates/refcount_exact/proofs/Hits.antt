-- References that are counted are cells that hold the block, and each such cell where it stands at a place that is counted.
use Rattle.std.proofs.Common.{◌≡◌, ◌⊎◌, inl, inr, ⊎_elim, ◌<◌, ◌≤◌, ℕ, zero, suc, ◌+◌, Bool, true, false, ◌==◌, List, [], ◌∷◌, Option, Some, None, refl, sym, ap, ◌∙◌, arith}
use Rattle.std.specs.Prelude.{slice_set, cond}
use Rattle.csub_tree.specs.State.{Value, Unset, Word, Byte, Flag, Fun, Null, Ptr, Static}
use Rattle.csub_tree.specs.Statement.{read}
use Rattle.ll_held.specs.Held.{times, is_block}
use Rattle.ll_held.specs.Roots.{kept}
use Rattle.ll_held.proofs.Keeping.{same_number, at_head}
use Rattle.ll_laws.proofs.Values.{is_same}
use Rattle.refcount_laws.specs.Graphs.{Reference}
use Rattle.refcount_laws.specs.Ghost.{one, hit, occurs, field_references, Apart}
use Rattle.refcount_laws.specs.Owned.{hits_by}
use Rattle.refcount_laws.proofs.Cells.{set_other}

one_is : (m n : ℕ) → 0 < one m n → m ≡ n
one_is zero zero h = refl
one_is zero (suc n) h = absurd (omega (arith, h))
one_is (suc m) zero h = absurd (omega (arith, h))
one_is (suc m) (suc n) h = ap suc (one_is m n h)

one_self : (n : ℕ) → one n n ≡ 1
one_self zero = refl
one_self (suc n) = one_self n

abbrev pub one_if : Bool → ℕ
one_if true = 1
one_if false = 0

one_same : (m n : ℕ) → one m n ≡ one_if (m == n)
one_same m n = by (m == n) refl
  where
    zero_or : (k : ℕ) → one m n ≡ k → (m == n) ≡ false → one m n ≡ 0
    zero_or zero e f = e
    zero_or (suc k) e f = let g : m ≡ n = one_is m n (omega (arith, e)) in absurd (let h : true ≡ false = sym (same_number n) ∙ ap (λ m. m == n) (sym g) ∙ f in cc)

    by : (y : Bool) → (m == n) ≡ y → one m n ≡ one_if y
    by true e = let g : m ≡ n = is_same m n e in ap (one m) (sym g) ∙ one_self m
    by false e = zero_or (one m n) refl e

times_first : (b : ℕ) (v : Value) (vs : List Value) → times b (v ∷ vs) ≡ one_if (is_block b v) + times b vs
times_first b v vs = by (is_block b v)
  where
    by : (y : Bool) → cond y (suc (times b vs)) (times b vs) ≡ one_if y + times b vs
    by true = omega arith
    by false = omega arith

pub hit_block : (b : ℕ) (v : Value) → hit (Ptr b) v ≡ one_if (is_block b v)
hit_block b (Ptr n) = one_same n b
hit_block b Unset = refl
hit_block b (Word z) = refl
hit_block b (Byte z) = refl
hit_block b (Flag z) = refl
hit_block b (Fun z) = refl
hit_block b Null = refl
hit_block b (Static z) = refl

pub hit_times : (b : ℕ) (v : Value) (vs : List Value) → times b (v ∷ vs) ≡ hit (Ptr b) v + times b vs
hit_times b v vs = omega (arith, times_first b v vs, hit_block b v)

pub occurs_times : (b : ℕ) (vs : List Value) → occurs (Ptr b) vs ≡ times b vs
occurs_times b [] = refl
occurs_times b (v ∷ vs) = omega (arith, occurs_times b vs, hit_times b v vs)

pub by_less : (o : Option ℕ) (b : ℕ) (v : Value) → hits_by o v (Ptr b) ≤ times b (v ∷ [])
by_less None b v = omega arith
by_less (Some n) b v = omega (arith, hit_times b v [])

pub kept_less : (b : ℕ) (f : ℕ → Bool) (n : ℕ) (vars : List Value) → times b (kept f n vars) ≤ times b vars
kept_less b f n [] = omega arith
kept_less b f n (x ∷ vars) = by (f n) (kept_less b f (suc n) vars)
  where
    by : (y : Bool) → times b (kept f (suc n) vars) ≤ times b vars → times b (cond y (x ∷ kept f (suc n) vars) (kept f (suc n) vars)) ≤ times b (x ∷ vars)
    by true h = omega (arith, h, times_first b x (kept f (suc n) vars), times_first b x vars)
    by false h = omega (arith, h, times_first b x vars)

-- ---- a block that stands among values stands at a place

pub times_place : (b : ℕ) (vs : List Value) → 0 < times b vs → (j : ℕ) × (read vs j ≡ Ptr b)
times_place b [] h = absurd (omega (arith, h))
times_place b (v ∷ vs) h = ⊎_elim (λ e. (0, e)) (λ h. (let w : (j : ℕ) × (read vs j ≡ Ptr b) = times_place b vs h in (suc w.0, w.1))) (at_head b v vs h)

pub no_place : (b : ℕ) (vs : List Value) → ((j : ℕ) → read vs j ≡ Ptr b → ⊥) → times b vs ≡ 0
no_place b vs none = by (times b vs) refl
  where
    by : (n : ℕ) → times b vs ≡ n → n ≡ 0
    by zero e = refl
    by (suc n) e = let w : (j : ℕ) × (read vs j ≡ Ptr b) = times_place b vs (omega (arith, e)) in absurd (none w.0 w.1)

-- ---- the places that are counted

abbrev pub Distinct : List Reference → Type 0
Distinct [] = Unit {0}
Distinct (r ∷ held) = Apart r held × Distinct held

abbrev pub HasPlace : ℕ → List Reference → Type 0
HasPlace at [] = ⊥
HasPlace at (r ∷ held) = (r.at ≡ at) ⊎ HasPlace at held

same_fields : (held : List Reference) (fields : List Value) (r : Reference) (w : Value) → Apart r held → field_references held (slice_set fields r.at w) ≡ field_references held fields
same_fields [] fields r w h = refl
same_fields (k ∷ held) fields r w h =
    ap (λ v. v ∷ field_references held (slice_set fields r.at w)) (set_other fields r.at k.at w Unset (λ e. h.0 (sym e))) ∙ ap (λ l. read fields k.at ∷ l) (same_fields held fields r w h.1)

one_less : (b : ℕ) (fields : List Value) (k : ℕ) → read fields k ≡ Ptr b → times b fields ≡ suc (times b (slice_set fields k Null))
one_less b [] k e = absurd (cc)
one_less b (x ∷ fields) zero e = omega (arith, times_first b x fields, ap (λ v. one_if (is_block b v)) e, ap one_if (same_number b))
one_less b (x ∷ fields) (suc k) e = omega (arith, times_first b x fields, times_first b x (slice_set fields k Null), one_less b fields k e)

-- what stands in the fields but there
set_place : (b : ℕ) (fields : List Value) (k j : ℕ) → read (slice_set fields k Null) j ≡ Ptr b → (read fields j ≡ Ptr b) × (k ≡ j → ⊥)
set_place b [] k j e = absurd (cc)
set_place b (x ∷ fields) zero zero e = absurd (cc)
set_place b (x ∷ fields) zero (suc j) e = (e, λ f. absurd (omega (arith, f)))
set_place b (x ∷ fields) (suc k) zero e = (e, λ f. absurd (omega (arith, f)))
set_place b (x ∷ fields) (suc k) (suc j) e = let w : (read fields j ≡ Ptr b) × (k ≡ j → ⊥) = set_place b fields k j e in (w.0, λ f. w.1 (omega (arith, f)))

pub fields_exact : (b : ℕ) (held : List Reference) (fields : List Value) → Distinct held → ((j : ℕ) → read fields j ≡ Ptr b → HasPlace j held) → occurs (Ptr b) (field_references held fields) ≡ times b fields
fields_exact b [] fields d has = sym (no_place b fields (λ j e. has j e))
fields_exact b (h ∷ held) fields (a, d) has = by (is_block b (read fields h.at)) refl (λ fields has. fields_exact b held fields d has)
  where
    behind : (j : ℕ) → (h.at ≡ j → ⊥) → HasPlace j (h ∷ held) → HasPlace j held
    behind j ne (inl e) = absurd (ne e)
    behind j ne (inr w) = w

    by : (y : Bool) → is_block b (read fields h.at) ≡ y → ((fields : List Value) → ((j : ℕ) → read fields j ≡ Ptr b → HasPlace j held) → occurs (Ptr b) (field_references held fields) ≡ times b fields)
        → hit (Ptr b) (read fields h.at) + occurs (Ptr b) (field_references held fields) ≡ times b fields
    by true e go =
        let is : read fields h.at ≡ Ptr b = Rattle.ll_held.proofs.Keeping.block_is b (read fields h.at) e in
        let rest : occurs (Ptr b) (field_references held (slice_set fields h.at Null)) ≡ times b (slice_set fields h.at Null) =
        go (slice_set fields h.at Null) (λ j f. (let w : (read fields j ≡ Ptr b) × (h.at ≡ j → ⊥) = set_place b fields h.at j f in behind j w.1 (has j w.0))) in
        let same : occurs (Ptr b) (field_references held (slice_set fields h.at Null)) ≡ occurs (Ptr b) (field_references held fields) = ap (occurs (Ptr b)) (same_fields held fields h Null a) in
        omega (arith, rest, same, one_less b fields h.at is, hit_block b (read fields h.at), ap one_if e)
    by false e go =
        let rest : occurs (Ptr b) (field_references held fields) ≡ times b fields = go fields (λ j f. behind j (λ g. differ j f g) (has j f)) in
        omega (arith, rest, hit_block b (read fields h.at), ap one_if e)
      where
        differ : (j : ℕ) → read fields j ≡ Ptr b → h.at ≡ j → ⊥
        differ j f g = let x : true ≡ false = sym (same_number b) ∙ ap (is_block b) (sym f ∙ ap (read fields) (sym g)) ∙ e in cc
