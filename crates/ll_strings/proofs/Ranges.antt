-- Rests, and the next numbers of ranges.
use Rattle.std.proofs.Common.{◌≡◌, ◌<◌, ◌≤◌, ℕ, zero, suc, ◌+◌, ◌-◌, ◌*◌, ◌/◌, ◌%◌, ◌^◌, Bool, true, false, [], ◌∷◌, Option, Ok, ℤ, pos, negsuc, ◌+ℤ◌, ◌-ℤ◌, refl, sym, ap, ◌∙◌, subst, arith}
use Rattle.std.proofs.lemmas.Bool.Decides.{nat_tests}
use Rattle.std.proofs.lemmas.Int.{int_wrap_fits, SFits-int_wrap, ints}
use Rattle.std.specs.Int.{w64}
use Rattle.std.specs.Ordering.{int_eq}
use Rattle.std.specs.Prelude.{neg_ℤ, not, int_lt, if◌then◌else◌}
use Rattle.rpy_base.specs.Word.{Fits, wrap, floor_rest}
use Rattle.rpy_tree.specs.Value.{Word as MeantWord}
use Rattle.rpy_tree.specs.declared.syntax.BinOp.TheVariants as bin
use Rattle.rpy_meaning.specs.declared.row.RowOp.TheVariants as row
use Rattle.rpy_meaning.specs.Arithmetic.{word as number}
use Rattle.rpy_meaning.specs.Classes.{no_covers}
use Rattle.rpy_meaning.specs.World.{give, bad, division_error}
use Rattle.csub_tree.specs.State.{Word, Flag}
use Rattle.csub_tree.specs.Operation.{Answer, nonzero, fits}
use Rattle.ll_code.specs.State.{Calling}
use Rattle.ll_code.specs.declared.program.LlType.TheVariants as type
use Rattle.ll_leads.proofs.Ways.{on, many, enter, gives}
use Rattle.ll_texts.specs.Stands.{word}
use Rattle.ll_texts.specs.Follows.{Follows, Gave}
use Rattle.ll_texts.proofs.Following.{gave, failed}
use Rattle.ll_texts.proofs.Numbers.{fits_count}
use Rattle.ll_build.specs.declared.needs.Helper.TheVariants as helper
use Rattle.ll_strings.specs.Laws.{IsTwo, DoesThree, rising, falling}

-- ---- rests

rest_is : (a P r : ℕ) → P + r ≡ a → pos a -ℤ pos P ≡ pos r
rest_is a P r e = omega (arith, ints, e)

rest_above : (a P s : ℕ) → P ≡ suc a + s → negsuc a -ℤ neg_ℤ (pos P) ≡ pos s
rest_above a P s e = omega (arith, ints, e)

rest_below : (a P s : ℕ) → P ≡ suc a + s → pos (suc a) -ℤ pos P ≡ neg_ℤ (pos s)
rest_below a P s e = omega (arith, ints, e)

rest_both : (a P s : ℕ) → P + s ≡ suc a → negsuc a -ℤ neg_ℤ (pos P) ≡ neg_ℤ (pos s)
rest_both a P s e = omega (arith, ints, e)

rest_none : (P : ℕ) → P ≡ 0 → pos 0 -ℤ neg_ℤ (pos P) ≡ pos 0
rest_none P e = omega (arith, ints, e)

fits_below : (k : ℕ) → k < 2 ^ 63 → Fits (neg_ℤ (pos k))
fits_below k h = omega (arith, ints)

product_more : (m n : ℕ) → m * suc n ≡ m + m * n
product_more m n = grind arith

product_none : (m : ℕ) → m * 0 ≡ 0
product_none m = grind arith

rest_fits : (a b : ℤ) → Fits b → int_eq b (pos 0) ≡ false → Fits (floor_rest a b)
rest_fits (pos a) (pos zero) f e = absurd (cc)
rest_fits (negsuc a) (pos zero) f e = absurd (cc)
rest_fits (pos a) (pos (suc b)) f e =
    let q : suc b * (a / suc b) + a % suc b ≡ a = omega arith in
    let r : a % suc b < suc b = omega arith in
    let s : suc b < 2 ^ 63 = omega (arith, f.sfits) in
    subst Fits (sym (rest_is a (suc b * (a / suc b)) (a % suc b) q)) (fits_count (a % suc b) (omega (arith, r, s)))
rest_fits (negsuc a) (pos (suc b)) f e =
    let q : suc b * (a / suc b) + a % suc b ≡ a = omega arith in
    let r : a % suc b < suc b = omega arith in
    let s : suc b < 2 ^ 63 = omega (arith, f.sfits) in
    let m : suc b * suc (a / suc b) ≡ suc b + suc b * (a / suc b) = product_more (suc b) (a / suc b) in
    subst Fits (sym (rest_above a (suc b * suc (a / suc b)) (b - a % suc b) (omega (arith, q, r, m)))) (fits_count (b - a % suc b) (omega (arith, s)))
rest_fits (pos zero) (negsuc b) f e = subst Fits (sym (rest_none (suc b * 0) (product_none (suc b)))) (fits_count 0 (omega arith))
rest_fits (pos (suc a)) (negsuc b) f e =
    let q : suc b * (a / suc b) + a % suc b ≡ a = omega arith in
    let r : a % suc b < suc b = omega arith in
    let s : b < 2 ^ 63 = omega (arith, f.sfits) in
    let m : suc b * suc (a / suc b) ≡ suc b + suc b * (a / suc b) = product_more (suc b) (a / suc b) in
    subst Fits (sym (rest_below a (suc b * suc (a / suc b)) (b - a % suc b) (omega (arith, q, r, m)))) (fits_below (b - a % suc b) (omega (arith, s)))
rest_fits (negsuc a) (negsuc b) f e =
    let q : suc b * (suc a / suc b) + suc a % suc b ≡ suc a = omega arith in
    let r : suc a % suc b < suc b = omega arith in
    let s : b < 2 ^ 63 = omega (arith, f.sfits) in
    subst Fits (sym (rest_both a (suc b * (suc a / suc b)) (suc a % suc b) q)) (fits_below (suc a % suc b) (omega (arith, r, s)))

not_zero : (b : ℤ) (answer : Answer) → int_eq b (pos 0) ≡ false → nonzero answer b ≡ answer
not_zero (pos zero) answer e = absurd (cc)
not_zero (pos (suc n)) answer e = refl
not_zero (negsuc n) answer e = refl

pub mod_is : (site : Option ℕ) → IsTwo helper.WordMod type.Signed type.Signed type.Signed (row.Binary bin.Mod site)
mod_is site program p args numbers f frames core w h left x y v u (word a fa) (word b fb) = by (int_eq b (pos 0)) refl
  where
    by : (t : Bool) → int_eq b (pos 0) ≡ t → Follows p args (Calling f (Word a ∷ Word b ∷ []) frames core) frames core type.Signed w ((if t then division_error no_covers else number (floor_rest a b)) w)
    by true e = failed (on (enter h.graph refl) (on (gives (Flag true) (ap (λ t. Ok (Flag t)) e)) (many 1 h.graph refl refl))) refl
    by false e = gave left (on (enter h.graph refl) (on (gives (Flag false) (ap (λ t. Ok (Flag t)) e)) (on (many 1 h.graph refl refl)
        (on (gives (Word (wrap (floor_rest a b))) (not_zero b (Ok (Word (floor_rest a b))) e ∙ ap (λ z. Ok (Word z)) (sym (int_wrap_fits w64 (floor_rest a b) (rest_fits a b fb e))))) (many 1 h.graph refl refl))))) refl (word _ (SFits-int_wrap w64 (floor_rest a b)))

-- ---- ranges

fitting : (z : ℤ) → fits z ≡ true → Fits z
fitting (pos n) e = fits_count n (grind (arith, nat_tests, e))
fitting (negsuc n) e = (let h : n < 2 ^ 63 = grind (arith, nat_tests, e) in below n h)
  where
    below : (n : ℕ) → n < 2 ^ 63 → Fits (negsuc n)
    below n h = omega (arith, ints)

past_up : (i step end : ℤ) → Fits i → Fits end → int_lt (pos 0) step ≡ true → fits (i +ℤ step) ≡ false → int_lt (i +ℤ step) end ≡ false
past_up i step end fi fe up over = one (i +ℤ step) refl over
  where
    one : (z : ℤ) → i +ℤ step ≡ z → fits z ≡ false → int_lt z end ≡ false
    one (pos n) e k = (let big : 2 ^ 63 ≤ n = grind (arith, nat_tests, k) in by_end end fe n big)
      where
        by_end : (end : ℤ) → Fits end → (n : ℕ) → 2 ^ 63 ≤ n → int_lt (pos n) end ≡ false
        by_end (pos m) f n big = (let s : m < 2 ^ 63 = omega (arith, f.sfits) in grind (arith, nat_tests, s, big))
        by_end (negsuc m) f n big = refl
    one (negsuc n) e k = absurd (let big : 2 ^ 63 ≤ n = grind (arith, nat_tests, k) in impossible i step n fi up e big)
      where
        impossible : (i step : ℤ) (n : ℕ) → Fits i → int_lt (pos 0) step ≡ true → i +ℤ step ≡ negsuc n → 2 ^ 63 ≤ n → ⊥
        impossible i step n f up e big = omega (arith, ints)

past_down : (i step end : ℤ) → Fits i → Fits end → int_lt step (pos 0) ≡ true → fits (i +ℤ step) ≡ false → int_lt end (i +ℤ step) ≡ false
past_down i step end fi fe down over = one (i +ℤ step) refl over
  where
    one : (z : ℤ) → i +ℤ step ≡ z → fits z ≡ false → int_lt end z ≡ false
    one (negsuc n) e k = (let big : 2 ^ 63 ≤ n = grind (arith, nat_tests, k) in by_end end fe n big)
      where
        by_end : (end : ℤ) → Fits end → (n : ℕ) → 2 ^ 63 ≤ n → int_lt end (negsuc n) ≡ false
        by_end (negsuc m) f n big = (let s : m < 2 ^ 63 = omega (arith, f.sfits) in grind (arith, nat_tests, s, big))
        by_end (pos m) f n big = refl
    one (pos n) e k = absurd (let big : 2 ^ 63 ≤ n = grind (arith, nat_tests, k) in impossible i step n fi down e big)
      where
        impossible : (i step : ℤ) (n : ℕ) → Fits i → int_lt step (pos 0) ≡ true → i +ℤ step ≡ pos n → 2 ^ 63 ≤ n → ⊥
        impossible i step n f down e big = omega (arith, ints)

pub rising_is : DoesThree helper.RangeUp type.Signed type.Signed type.Signed type.Signed rising
rising_is program p args numbers f frames core w h left x y z v u s (word end fe) (word i fi) (word step fs) = by_step (int_lt (pos 0) step) refl
  where
    answer : Bool → Type 0
    answer c = Gave p args (Calling f (Word end ∷ Word i ∷ Word step ∷ []) frames core) frames core type.Signed w (MeantWord (if c then i +ℤ step else end)) w

    reached : int_lt (pos 0) step ≡ true → (c d : Bool) → fits (i +ℤ step) ≡ c → int_lt (i +ℤ step) end ≡ d → answer d
    reached up false d e l = subst (λ c. Gave p args (Calling f (Word end ∷ Word i ∷ Word step ∷ []) frames core) frames core type.Signed w (MeantWord (if c then i +ℤ step else end)) w) (sym (past_up i step end fi fe up e) ∙ l)
        (gave left (on (enter h.graph refl) (on (many 1 h.graph refl refl) (on (gives (Flag true) (ap (λ t. Ok (Flag (not t))) e)) (many 2 h.graph refl refl)))) refl (word end fe))
    reached up true true e l = gave left (on (enter h.graph refl) (on (gives (Word (i +ℤ step)) (ap (λ z. Ok (Word z)) (int_wrap_fits w64 (i +ℤ step) (fitting (i +ℤ step) e)))) (on (gives (Flag false) (ap (λ t. Ok (Flag (not t))) e)) (on (many 1 h.graph refl refl)
        (on (gives (Flag true) (ap (λ t. Ok (Flag t)) l)) (many 2 h.graph refl refl)))))) refl (word (i +ℤ step) (fitting (i +ℤ step) e))
    reached up true false e l = gave left (on (enter h.graph refl) (on (gives (Word (i +ℤ step)) (ap (λ z. Ok (Word z)) (int_wrap_fits w64 (i +ℤ step) (fitting (i +ℤ step) e)))) (on (gives (Flag false) (ap (λ t. Ok (Flag (not t))) e)) (on (many 1 h.graph refl refl)
        (on (gives (Flag false) (ap (λ t. Ok (Flag t)) l)) (many 2 h.graph refl refl)))))) refl (word end fe)

    by_step : (c : Bool) → int_lt (pos 0) step ≡ c → Follows p args (Calling f (Word end ∷ Word i ∷ Word step ∷ []) frames core) frames core type.Signed w ((if c then give (MeantWord (if (if int_lt (pos 0) step then int_lt (i +ℤ step) end else int_lt end (i +ℤ step)) then i +ℤ step else end)) else bad) w)
    by_step false e = tt
    by_step true e = subst (λ c. Gave p args (Calling f (Word end ∷ Word i ∷ Word step ∷ []) frames core) frames core type.Signed w (MeantWord (if (if c then int_lt (i +ℤ step) end else int_lt end (i +ℤ step)) then i +ℤ step else end)) w) (sym e)
        (reached e (fits (i +ℤ step)) (int_lt (i +ℤ step) end) refl refl)

pub falling_is : DoesThree helper.RangeDown type.Signed type.Signed type.Signed type.Signed falling
falling_is program p args numbers f frames core w h left x y z v u s (word end fe) (word i fi) (word step fs) = by_step (int_lt step (pos 0)) refl
  where
    reached : int_lt step (pos 0) ≡ true → (c d : Bool) → fits (i +ℤ step) ≡ c → int_lt end (i +ℤ step) ≡ d → Gave p args (Calling f (Word end ∷ Word i ∷ Word step ∷ []) frames core) frames core type.Signed w (MeantWord (if d then i +ℤ step else end)) w
    reached down false d e l = subst (λ c. Gave p args (Calling f (Word end ∷ Word i ∷ Word step ∷ []) frames core) frames core type.Signed w (MeantWord (if c then i +ℤ step else end)) w) (sym (past_down i step end fi fe down e) ∙ l)
        (gave left (on (enter h.graph refl) (on (many 1 h.graph refl refl) (on (gives (Flag true) (ap (λ t. Ok (Flag (not t))) e)) (many 2 h.graph refl refl)))) refl (word end fe))
    reached down true true e l = gave left (on (enter h.graph refl) (on (gives (Word (i +ℤ step)) (ap (λ z. Ok (Word z)) (int_wrap_fits w64 (i +ℤ step) (fitting (i +ℤ step) e)))) (on (gives (Flag false) (ap (λ t. Ok (Flag (not t))) e)) (on (many 1 h.graph refl refl)
        (on (gives (Flag true) (ap (λ t. Ok (Flag t)) l)) (many 2 h.graph refl refl)))))) refl (word (i +ℤ step) (fitting (i +ℤ step) e))
    reached down true false e l = gave left (on (enter h.graph refl) (on (gives (Word (i +ℤ step)) (ap (λ z. Ok (Word z)) (int_wrap_fits w64 (i +ℤ step) (fitting (i +ℤ step) e)))) (on (gives (Flag false) (ap (λ t. Ok (Flag (not t))) e)) (on (many 1 h.graph refl refl)
        (on (gives (Flag false) (ap (λ t. Ok (Flag t)) l)) (many 2 h.graph refl refl)))))) refl (word end fe)

    not_up : int_lt step (pos 0) ≡ true → int_lt (pos 0) step ≡ false
    not_up e = falls step e
      where
        falls : (step : ℤ) → int_lt step (pos 0) ≡ true → int_lt (pos 0) step ≡ false
        falls (pos n) e = absurd (let h : n < 0 = grind (arith, nat_tests, e) in omega (arith, h))
        falls (negsuc n) e = refl

    by_step : (c : Bool) → int_lt step (pos 0) ≡ c → Follows p args (Calling f (Word end ∷ Word i ∷ Word step ∷ []) frames core) frames core type.Signed w ((if c then give (MeantWord (if (if int_lt (pos 0) step then int_lt (i +ℤ step) end else int_lt end (i +ℤ step)) then i +ℤ step else end)) else bad) w)
    by_step false e = tt
    by_step true e = subst (λ c. Gave p args (Calling f (Word end ∷ Word i ∷ Word step ∷ []) frames core) frames core type.Signed w (MeantWord (if (if c then int_lt (i +ℤ step) end else int_lt end (i +ℤ step)) then i +ℤ step else end)) w) (sym (not_up e))
        (reached e (fits (i +ℤ step)) (int_lt end (i +ℤ step)) refl refl)
