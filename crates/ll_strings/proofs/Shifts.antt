-- Shifts to the right.
use Rattle.std.proofs.Common.{◌≡◌, ◌<◌, ◌≤◌, ℕ, ◌/◌, ◌^◌, Bool, true, false, ◌&&◌, [], ◌∷◌, Option, Ok, Err, ℤ, pos, negsuc, refl, sym, ap, ◌∙◌, subst, arith}
use Rattle.std.proofs.Math.Nat.{div-le_self}
use Rattle.std.proofs.lemmas.Bool.Decides.{nat_tests}
use Rattle.std.proofs.lemmas.Int.{int_wrap_fits, SFits-int_wrap, ints}
use Rattle.std.specs.Int.{w64}
use Rattle.std.specs.Prelude.{cond, nat_lt, int_le, if◌then◌else◌}
use Rattle.rpy_base.specs.Word.{Fits, wrap, floor_quotient}
use Rattle.rpy_tree.specs.declared.syntax.BinOp.TheVariants as bin
use Rattle.rpy_meaning.specs.declared.row.RowOp.TheVariants as row
use Rattle.rpy_meaning.specs.Arithmetic.{word as number}
use Rattle.rpy_meaning.specs.Classes.{no_covers}
use Rattle.rpy_meaning.specs.World.{value_error}
use Rattle.csub_tree.specs.State.{Word, Flag}
use Rattle.csub_tree.specs.declared.stuck.StuckReason.TheVariants.{Word as BadWord}
use Rattle.ll_code.specs.State.{Calling}
use Rattle.ll_code.specs.declared.program.LlType.TheVariants as type
use Rattle.ll_leads.proofs.Ways.{on, many, enter, gives}
use Rattle.ll_texts.specs.Stands.{word}
use Rattle.ll_texts.specs.Follows.{Follows}
use Rattle.ll_texts.proofs.Following.{gave, failed}
use Rattle.ll_texts.proofs.Numbers.{less_false, fits_count}
use Rattle.ll_build.specs.declared.needs.Helper.TheVariants as helper
use Rattle.ll_strings.specs.Laws.{IsTwo}

-- a shift to the right is a word
pub shifted_fits : (a : ℤ) (k : ℕ) → Fits a → Fits (floor_quotient a (pos (2 ^ k)))
shifted_fits (pos a) k f = fits_count (a / 2 ^ k) (omega (arith, f.sfits, div-le_self a (2 ^ k)))
shifted_fits (negsuc a) k f = (let d : a / 2 ^ k ≤ a = div-le_self a (2 ^ k) in let s : a < 2 ^ 63 = omega (arith, f.sfits) in below (a / 2 ^ k) (omega (arith, d, s)))
  where
    below : (n : ℕ) → n < 2 ^ 63 → Fits (negsuc n)
    below n h = omega (arith, ints)

pub shr_is : (site : Option ℕ) → IsTwo helper.WordShr type.Signed type.Signed type.Signed (row.Binary bin.Shr site)
shr_is site program p args numbers f frames core w h left x y v u (word a fa) (word (pos k) fb) = subst (λ t. Follows p args (Calling f (Word a ∷ Word (pos k) ∷ []) frames core) frames core type.Signed w ((if t && nat_lt k 64 then number (floor_quotient a (pos (2 ^ k))) else value_error no_covers) w)) (sym low) (by (nat_lt k 64) refl)
  where
    low : int_le (pos 0) (pos k) ≡ true
    low = grind (arith, nat_tests)

    same : wrap (floor_quotient a (pos (2 ^ k))) ≡ floor_quotient a (pos (2 ^ k))
    same = int_wrap_fits w64 (floor_quotient a (pos (2 ^ k))) (shifted_fits a k fa)

    by : (t : Bool) → nat_lt k 64 ≡ t → Follows p args (Calling f (Word a ∷ Word (pos k) ∷ []) frames core) frames core type.Signed w ((if true && t then number (floor_quotient a (pos (2 ^ k))) else value_error no_covers) w)
    by true e = gave left (on (enter h.graph refl) (on (gives (Flag false) (less_false k 0 (omega arith))) (on (many 1 h.graph refl refl) (on (gives (Flag true) (ap (λ t. Ok (Flag t)) e)) (on (many 1 h.graph refl refl)
        (on (gives (Word (wrap (floor_quotient a (pos (2 ^ k))))) (ap (λ t. cond t (Ok (Word (floor_quotient a (pos (2 ^ k))))) (Err BadWord)) e ∙ ap (λ z. Ok (Word z)) (sym same))) (many 1 h.graph refl refl))))))) refl (word _ (SFits-int_wrap w64 (floor_quotient a (pos (2 ^ k)))))
    by false e = failed (on (enter h.graph refl) (on (gives (Flag false) (less_false k 0 (omega arith))) (on (many 1 h.graph refl refl) (on (gives (Flag false) (ap (λ t. Ok (Flag t)) e)) (many 1 h.graph refl refl))))) refl
shr_is site program p args numbers f frames core w h left x y v u (word a fa) (word (negsuc k) fb) = failed (on (enter h.graph refl) (many 2 h.graph refl refl)) refl
