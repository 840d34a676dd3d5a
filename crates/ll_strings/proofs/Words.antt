-- Operations on words and bytes.
use Rattle.std.proofs.Common.{◌≡◌, ℕ, zero, suc, Bool, true, false, ◌&&◌, [], ◌∷◌, Option, Ok, Err, ℤ, pos, negsuc, refl, sym, ap, ◌∙◌, subst, arith}
use Rattle.std.proofs.lemmas.Bool.Decides.{nat_tests}
use Rattle.std.proofs.lemmas.Int.{SFits-int_wrap}
use Rattle.std.specs.Int.{w64}
use Rattle.std.specs.Ordering.{int_eq}
use Rattle.std.specs.Prelude.{cond, not, nat_lt, nat_le, int_lt, int_le, if◌then◌else◌, codes}
use Rattle.rpy_base.specs.Word.{wrap, floor_quotient, times_power}
use Rattle.rpy_tree.specs.Value.{Word as MeantWord, Flag as MeantFlag}
use Rattle.rpy_tree.specs.declared.syntax.BinOp.TheVariants as bin
use Rattle.rpy_meaning.specs.declared.row.RowOp.TheVariants as row
use Rattle.rpy_meaning.specs.Arithmetic.{word as number}
use Rattle.rpy_meaning.specs.Classes.{no_covers}
use Rattle.rpy_meaning.specs.Methods.{is_digit as digit}
use Rattle.rpy_meaning.specs.Sequences.{byte as meant_byte}
use Rattle.rpy_meaning.specs.World.{give, division_error, value_error}
use Rattle.csub_tree.specs.State.{Word, Byte, Flag}
use Rattle.csub_tree.specs.Operation.{Answer, nonzero}
use Rattle.csub_tree.specs.declared.stuck.StuckReason.TheVariants.{Word as BadWord}
use Rattle.ll_code.specs.State.{Calling}
use Rattle.ll_code.specs.declared.program.LlType.TheVariants as type
use Rattle.ll_leads.proofs.Ways.{on, many, enter, gives, turns}
use Rattle.ll_texts.specs.Stands.{Stands, word, flag, byte}
use Rattle.ll_texts.specs.Follows.{Follows, Gave}
use Rattle.ll_texts.proofs.Following.{gave, failed}
use Rattle.ll_texts.proofs.Numbers.{less_false}
use Rattle.ll_build.specs.declared.needs.Helper.TheVariants as helper
use Rattle.ll_strings.specs.Laws.{Is, IsTwo}

-- ---- tests

pub below_zero : (n : ℕ) → int_lt (negsuc n) (pos 0) ≡ true
below_zero n = refl

not_zero : (b : ℤ) (answer : Answer) → int_eq b (pos 0) ≡ false → nonzero answer b ≡ answer
not_zero (pos zero) answer e = absurd (cc)
not_zero (pos (suc n)) answer e = refl
not_zero (negsuc n) answer e = refl

le_not : (a b : ℤ) → int_le a b ≡ not (int_lt b a)
le_not (pos a) (pos b) = one (nat_lt b a) refl
  where
    one : (c : Bool) → nat_lt b a ≡ c → nat_le a b ≡ not c
    one true e = grind (arith, nat_tests, e)
    one false e = grind (arith, nat_tests, e)
le_not (pos a) (negsuc b) = refl
le_not (negsuc a) (pos b) = refl
le_not (negsuc a) (negsuc b) = one (nat_lt a b) refl
  where
    one : (c : Bool) → nat_lt a b ≡ c → nat_le b a ≡ not c
    one true e = grind (arith, nat_tests, e)
    one false e = grind (arith, nat_tests, e)

-- ---- quotients

pub div_is : (site : Option ℕ) → IsTwo helper.WordDiv type.Signed type.Signed type.Signed (row.Binary bin.Div site)
div_is site program p args numbers f frames core w h left x y v u (word a fa) (word b fb) = by (int_eq b (pos 0)) refl
  where
    by : (t : Bool) → int_eq b (pos 0) ≡ t → Follows p args (Calling f (Word a ∷ Word b ∷ []) frames core) frames core type.Signed w ((if t then division_error no_covers else number (floor_quotient a b)) w)
    by true e = failed (on (enter h.graph refl) (on (gives (Flag true) (ap (λ t. Ok (Flag t)) e)) (many 1 h.graph refl refl))) refl
    by false e = gave left (on (enter h.graph refl) (on (gives (Flag false) (ap (λ t. Ok (Flag t)) e)) (on (many 1 h.graph refl refl) (on (gives (Word (wrap (floor_quotient a b))) (not_zero b _ e)) (many 1 h.graph refl refl))))) refl (word _ (SFits-int_wrap w64 (floor_quotient a b)))

pub floor_div_is : (site : Option ℕ) → IsTwo helper.WordDiv type.Signed type.Signed type.Signed (row.Binary bin.FloorDiv site)
floor_div_is site program p args numbers f frames core w h left x y v u s t = div_is site program p args numbers f frames core w h left x y v u s t

-- ---- bytes of numbers

pub chr_is : Is helper.WordChr type.Signed type.Char row.Chr
chr_is program p args numbers f frames core w h left x v (word (pos n) fits) = by (nat_lt n 256) refl
  where
    by : (t : Bool) → nat_lt n 256 ≡ t → Follows p args (Calling f (Word (pos n) ∷ []) frames core) frames core type.Char w ((if t then give (meant_byte n) else value_error no_covers) w)
    by true e = gave left (on (enter h.graph refl) (on (gives (Flag false) (less_false n 0 (omega arith))) (on (many 1 h.graph refl refl) (on (gives (Flag true) (ap (λ t. Ok (Flag t)) e)) (on (many 1 h.graph refl refl) (on (turns (Byte n) (ap (λ t. cond t (Ok (Byte n)) (Err BadWord)) e)) (many 1 h.graph refl refl))))))) refl (byte n (grind (arith, nat_tests, e)))
    by false e = failed (on (enter h.graph refl) (on (gives (Flag false) (less_false n 0 (omega arith))) (on (many 1 h.graph refl refl) (on (gives (Flag false) (ap (λ t. Ok (Flag t)) e)) (many 1 h.graph refl refl))))) refl
chr_is program p args numbers f frames core w h left x v (word (negsuc n) fits) = failed (on (enter h.graph refl) (many 2 h.graph refl refl)) refl

-- ---- the smaller and the greater

pub min_is : IsTwo helper.WordMin type.Signed type.Signed type.Signed row.Min
min_is program p args numbers f frames core w h left x y v u (word a fa) (word b fb) = by (int_lt b a) refl
  where
    by : (t : Bool) → int_lt b a ≡ t → Follows p args (Calling f (Word a ∷ Word b ∷ []) frames core) frames core type.Signed w (give (MeantWord (if t then b else a)) w)
    by true e = gave left (on (enter h.graph refl) (on (gives (Flag false) (ap (λ t. Ok (Flag t)) (le_not a b ∙ ap not e))) (many 2 h.graph refl refl))) refl (word b fb)
    by false e = gave left (on (enter h.graph refl) (on (gives (Flag true) (ap (λ t. Ok (Flag t)) (le_not a b ∙ ap not e))) (many 2 h.graph refl refl))) refl (word a fa)

pub max_is : IsTwo helper.WordMax type.Signed type.Signed type.Signed row.Max
max_is program p args numbers f frames core w h left x y v u (word a fa) (word b fb) = by (int_lt a b) refl
  where
    by : (t : Bool) → int_lt a b ≡ t → Follows p args (Calling f (Word a ∷ Word b ∷ []) frames core) frames core type.Signed w (give (MeantWord (if t then b else a)) w)
    by true e = gave left (on (enter h.graph refl) (on (gives (Flag false) (ap (λ t. Ok (Flag t)) (le_not b a ∙ ap not e))) (many 2 h.graph refl refl))) refl (word b fb)
    by false e = gave left (on (enter h.graph refl) (on (gives (Flag true) (ap (λ t. Ok (Flag t)) (le_not b a ∙ ap not e))) (many 2 h.graph refl refl))) refl (word a fa)

-- ---- shifts

pub shl_is : (site : Option ℕ) → IsTwo helper.WordShl type.Signed type.Signed type.Signed (row.Binary bin.Shl site)
shl_is site program p args numbers f frames core w h left x y v u (word a fa) (word (pos k) fb) = subst (λ t. Follows p args (Calling f (Word a ∷ Word (pos k) ∷ []) frames core) frames core type.Signed w ((if t && nat_lt k 64 then number (times_power a k) else value_error no_covers) w)) (sym low) (by (nat_lt k 64) refl)
  where
    low : int_le (pos 0) (pos k) ≡ true
    low = grind (arith, nat_tests)

    by : (t : Bool) → nat_lt k 64 ≡ t → Follows p args (Calling f (Word a ∷ Word (pos k) ∷ []) frames core) frames core type.Signed w ((if true && t then number (times_power a k) else value_error no_covers) w)
    by true e = gave left (on (enter h.graph refl) (on (gives (Flag false) (less_false k 0 (omega arith))) (on (many 1 h.graph refl refl) (on (gives (Flag true) (ap (λ t. Ok (Flag t)) e)) (on (many 1 h.graph refl refl) (on (gives (Word (wrap (times_power a k))) (ap (λ t. cond t (Ok (Word (wrap (times_power a k)))) (Err BadWord)) e)) (many 1 h.graph refl refl))))))) refl (word _ (SFits-int_wrap w64 (times_power a k)))
    by false e = failed (on (enter h.graph refl) (on (gives (Flag false) (less_false k 0 (omega arith))) (on (many 1 h.graph refl refl) (on (gives (Flag false) (ap (λ t. Ok (Flag t)) e)) (many 1 h.graph refl refl))))) refl
shl_is site program p args numbers f frames core w h left x y v u (word a fa) (word (negsuc k) fb) = failed (on (enter h.graph refl) (many 2 h.graph refl refl)) refl

-- ---- kinds of bytes

pub digit_is : (site : Option ℕ) → Is helper.IsDigit type.Char type.Bool (row.Method (codes "isdigit") site)
digit_is site program p args numbers f frames core w h left x v (byte b small) = by (nat_lt b 48) refl
  where
    upper : nat_lt b 58 ≡ nat_le b 57
    upper = one (nat_lt b 58) refl
      where
        one : (c : Bool) → nat_lt b 58 ≡ c → c ≡ nat_le b 57
        one true e = grind (arith, nat_tests, e)
        one false e = grind (arith, nat_tests, e)

    by : (t : Bool) → nat_lt b 48 ≡ t → Gave p args (Calling f (Byte b ∷ []) frames core) frames core type.Bool w (MeantFlag (digit b)) w
    by true e = gave left (on (enter h.graph refl) (on (many 1 h.graph refl refl) (on (gives (Flag true) (ap (λ t. Ok (Flag t)) e)) (many 2 h.graph refl refl)))) refl
        (subst (λ d. Stands core.blocks core.statics type.Bool (Flag false) (MeantFlag d)) (sym (ap (λ c. c && nat_le b 57) (let l : nat_le 48 b ≡ false = grind (arith, nat_tests, e) in l))) (flag false))
    by false e = gave left (on (enter h.graph refl) (on (many 1 h.graph refl refl) (on (gives (Flag false) (ap (λ t. Ok (Flag t)) e)) (many 3 h.graph refl refl)))) refl
        (subst (λ d. Stands core.blocks core.statics type.Bool (Flag (nat_lt b 58)) (MeantFlag d)) (upper ∙ sym (ap (λ c. c && nat_le b 57) (let l : nat_le 48 b ≡ true = grind (arith, nat_tests, e) in l))) (flag (nat_lt b 58)))
