-- The order of strings.
use Rattle.std.proofs.Common.{◌≡◌, ◌<◌, ℕ, ◌+◌, ◌^◌, Bool, true, false, ◌&&◌, ◌||◌, List, [], ◌∷◌, ◌++◌, length, Some, Ok, pos, refl, sym, ap, subst, arith, append_assoc, length-append}
use Rattle.std.proofs.lemmas.Bool.Decides.{nat_tests}
use Rattle.std.specs.Prelude.{slice_get, nat_lt, nat_eq}
use Rattle.rpy_tree.specs.declared.syntax.CmpOp.TheVariants as cmp
use Rattle.rpy_meaning.specs.declared.row.RowOp.TheVariants as row
use Rattle.rpy_meaning.specs.Compare.{text_less}
use Rattle.csub_tree.specs.State.{Value, Unset, Word, Byte, Flag, Core}
use Rattle.ll_code.specs.State.{Frame, Calling, At}
use Rattle.ll_code.specs.declared.program.LlType.TheVariants as type
use Rattle.ll_code.specs.declared.program.LlProgram.{LlProgram}
use Rattle.ll_leads.proofs.Ways.{Comes, on, many, enter, gives, call}
use Rattle.ll_texts.specs.Texts.{IsText, HasText}
use Rattle.ll_texts.specs.Stands.{flag, text, missing}
use Rattle.ll_texts.proofs.Reading.{is_set, gets_length, gets_byte, get_mid}
use Rattle.ll_texts.proofs.Numbers.{less_true, less_false, adds}
use Rattle.ll_texts.proofs.Following.{gave}
use Rattle.ll_helpers.specs.Loops.{less_bytes, less_bytes_second}
use Rattle.ll_build.specs.declared.needs.Helper.TheVariants as helper
use Rattle.ll_build.specs.declared.needs.Shared.TheVariants as shared
use Rattle.ll_strings.specs.Laws.{IsTwo}
use Rattle.ll_strings.proofs.Equal.{same_numbers}

or_nothing : (c : Bool) → (c || false) ≡ c
or_nothing true = refl
or_nothing false = refl

nothing_less : (xs : List ℕ) → text_less xs [] ≡ false
nothing_less [] = refl
nothing_less (n ∷ xs) = refl

module _ (p : LlProgram) (args : List (List ℕ)) (less : ℕ) (of : slice_get p.graphs less ≡ Some less_bytes) (texts : HasText p) (frames : List Frame) (core : Core) (x y : Value) where
  abbrev stands_at : ℕ → ℕ → ℕ → Value → Value → Value → Value → Value → Core
  stands_at i m n a b c d e = record core { function = less; block = 1; at = 0; vars = x ∷ Word (pos m) ∷ y ∷ Word (pos n) ∷ Word (pos i) ∷ a ∷ b ∷ c ∷ d ∷ e ∷ [] }

  ordered : (pre xs pre2 ys : List ℕ) (i m n : ℕ) (a b c d e : Value) → IsText core.blocks core.statics x (pre ++ xs) → IsText core.blocks core.statics y (pre2 ++ ys) → i ≡ length pre → i ≡ length pre2 → m ≡ i + length xs → n ≡ i + length ys → m < 2 ^ 63 → n < 2 ^ 63
      → Comes p args (At less_bytes_second.ops less_bytes_second.exit frames (stands_at i m n a b c d e)) [] (Flag (text_less xs ys)) frames core
  ordered pre xs pre2 [] i m n a b c d e t u ei ej em en mb nb = subst (λ r. Comes p args (At less_bytes_second.ops less_bytes_second.exit frames (stands_at i m n a b c d e)) [] (Flag r) frames core) (sym (nothing_less xs)) (record {
    end = _;
    same = refl;
    leads = on (gives (Flag false) (less_false i n (omega (arith, en)))) (many 2 of refl refl);
  })
  ordered pre [] pre2 (l ∷ ys) i m n a b c d e t u ei ej em en mb nb = record {
    end = _;
    same = refl;
    leads = on (gives (Flag true) (less_true i n (omega (arith, en)))) (on (many 1 of refl (simp (is_set t, is_set u))) (on (gives (Flag false) (less_false i m (omega (arith, em)))) (many 2 of refl refl)));
  }
  ordered pre (k ∷ xs) pre2 (l ∷ ys) i m n a b c d e t u ei ej em en mb nb =
      by (nat_eq k l) refl (ordered (pre ++ k ∷ []) xs (pre2 ++ l ∷ []) ys (i + 1) m n (Flag true) (Byte k) (Byte l) (Word (pos k)) (Word (pos l))
      (subst (IsText core.blocks core.statics x) (sym (append_assoc pre (k ∷ []) xs)) t) (subst (IsText core.blocks core.statics y) (sym (append_assoc pre2 (l ∷ []) ys)) u)
      (omega (arith, ei, length-append pre (k ∷ []))) (omega (arith, ej, length-append pre2 (l ∷ []))) (omega (arith, em)) (omega (arith, en)) mb nb)
    where
      by : (q : Bool) → nat_eq k l ≡ q → Comes p args (At less_bytes_second.ops less_bytes_second.exit frames (stands_at (i + 1) m n (Flag true) (Byte k) (Byte l) (Word (pos k)) (Word (pos l)))) [] (Flag (text_less xs ys)) frames core
          → Comes p args (At less_bytes_second.ops less_bytes_second.exit frames (stands_at i m n a b c d e)) [] (Flag (nat_lt k l || (q && text_less xs ys))) frames core
      by true q ih = (let no : nat_lt k l ≡ false = grind (arith, nat_tests, q) in
          subst (λ r. Comes p args (At less_bytes_second.ops less_bytes_second.exit frames (stands_at i m n a b c d e)) [] (Flag (r || text_less xs ys)) frames core) (sym no) (record {
            end = ih.end;
            same = ih.same;
            leads =
                on (gives (Flag true) (less_true i n (omega (arith, en)))) (on (many 1 of refl (simp (is_set t, is_set u))) (on (gives (Flag true) (less_true i m (omega (arith, em)))) (on (many 1 of refl (simp (is_set t, is_set u)))
                (on (gets_byte i k texts t refl (get_mid pre k xs i ei)) (on (gets_byte i l texts u refl (get_mid pre2 l ys i ej)) (on (many 2 of refl refl)
                (on (gives (Flag true) (ap (λ t. Ok (Flag t)) (same_numbers k l true q))) (on (gives (Word (pos (i + 1))) (adds i 1 (omega (arith, em, mb)))) (on (many 1 of refl (simp (is_set t, is_set u)))
                ih.leads)))))))));
          }))
      by false q ih = subst (λ r. Comes p args (At less_bytes_second.ops less_bytes_second.exit frames (stands_at i m n a b c d e)) [] (Flag r) frames core) (sym (or_nothing (nat_lt k l))) (record {
        end = _;
        same = refl;
        leads =
            on (gives (Flag true) (less_true i n (omega (arith, en)))) (on (many 1 of refl (simp (is_set t, is_set u))) (on (gives (Flag true) (less_true i m (omega (arith, em)))) (on (many 1 of refl (simp (is_set t, is_set u)))
            (on (gets_byte i k texts t refl (get_mid pre k xs i ei)) (on (gets_byte i l texts u refl (get_mid pre2 l ys i ej)) (on (many 2 of refl refl)
            (on (gives (Flag false) (ap (λ t. Ok (Flag t)) (same_numbers k l false q))) (on (gives (Word (pos (i + 1))) (adds i 1 (omega (arith, em, mb)))) (many 3 of refl refl)))))))));
      })

  pub orders : (a b : List ℕ) → IsText core.blocks core.statics x a → IsText core.blocks core.statics y b
      → Comes p args (Calling less (x ∷ Word (pos (length a)) ∷ y ∷ Word (pos (length b)) ∷ []) frames core) [] (Flag (text_less a b)) frames core
  orders a b t u = (let c = ordered [] a [] b 0 (length a) (length b) Unset Unset Unset Unset Unset t u refl refl (omega arith) (omega arith) t.short u.short in
      record { end = c.end; same = c.same; leads = on (enter of refl) (on (many 1 of refl (simp (is_set t, is_set u))) c.leads) })

pub less_is : IsTwo helper.StrLess (type.Ptr 0) (type.Ptr 0) type.Bool (row.Compare cmp.Lt)
less_is program p args numbers f frames core w h left x y v u (text x2 a t) (text y2 b s) =
    gave left (on (enter h.graph refl) (on (gets_length h.text t) (on (gets_length h.text s)
    (on (call (simp (is_set t, is_set s)) (λ waits. orders p args numbers.less_bytes (h.shared shared.LessBytes refl) h.text waits _ x y a b t s)) (many 1 h.graph refl refl))))) refl (flag (text_less a b))
less_is program p args numbers f frames core w h left x y v u (text x2 a t) missing = tt
less_is program p args numbers f frames core w h left x y v u missing (text y2 b s) = tt
less_is program p args numbers f frames core w h left x y v u missing missing = tt
