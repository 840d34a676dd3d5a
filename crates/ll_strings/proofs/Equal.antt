-- Stretches of bytes are compared.
use Rattle.std.proofs.Common.{◌≡◌, ◌<◌, ℕ, suc, ◌+◌, ◌^◌, Bool, true, false, ◌&&◌, List, [], ◌∷◌, ◌++◌, length, Some, Ok, pos, refl, sym, ap, ◌∙◌, subst, arith, append_assoc, length-append}
use Rattle.std.proofs.lemmas.Bool.Decides.{nat_tests}
use Rattle.std.proofs.lemmas.List.{append-nil}
use Rattle.std.specs.Ordering.{int_eq}
use Rattle.std.specs.Prelude.{slice_get, nat_eq}
use Rattle.std.specs.Str.{bytes_eq}
use Rattle.rpy_tree.specs.Value.{Flag as MeantFlag}
use Rattle.rpy_tree.specs.declared.syntax.CmpOp.TheVariants as cmp
use Rattle.rpy_meaning.specs.declared.row.RowOp.TheVariants as row
use Rattle.csub_tree.specs.State.{Value, Unset, Word, Byte, Flag, Core}
use Rattle.ll_code.specs.State.{Frame, Calling, At}
use Rattle.ll_code.specs.declared.program.LlType.TheVariants as type
use Rattle.ll_code.specs.declared.program.LlOp.TheVariants as op
use Rattle.ll_code.specs.declared.program.LlProgram.{LlProgram}
use Rattle.csub_tree.specs.declared.tree.CBinary.TheVariants.{Eq}
use Rattle.csub_tree.specs.declared.tree.COperand.TheVariants.{Var}
use Rattle.ll_build.specs.Build.{fork}
use Rattle.ll_leads.specs.Path.{Leads}
use Rattle.ll_leads.proofs.Ways.{Comes, on, many, enter, gives, call}
use Rattle.ll_texts.specs.Texts.{IsText, HasText}
use Rattle.ll_texts.specs.Stands.{Stands, flag, text, missing}
use Rattle.ll_texts.specs.Follows.{Gave}
use Rattle.ll_texts.proofs.Reading.{is_set, is_there, gets_length, gets_byte, get_mid}
use Rattle.ll_texts.proofs.Numbers.{less_true, less_false, adds, subs}
use Rattle.ll_texts.proofs.Following.{gave}
use Rattle.ll_helpers.specs.Loops.{alike_bytes, alike_bytes_test}
use Rattle.ll_build.specs.declared.needs.Helper.TheVariants as helper
use Rattle.ll_build.specs.declared.needs.Shared.TheVariants as shared
use Rattle.ll_strings.specs.Laws.{IsTwo}

pub same_numbers : (n m : ℕ) (c : Bool) → nat_eq n m ≡ c → int_eq (pos n) (pos m) ≡ c
same_numbers n m true e = grind (arith, nat_tests, e)
same_numbers n m false e = grind (arith, nat_tests, e)

module _ (p : LlProgram) (args : List (List ℕ)) (alike : ℕ) (of : slice_get p.graphs alike ≡ Some alike_bytes) (texts : HasText p) (frames : List Frame) (core : Core) (x y : Value) where
  pub compared : (pre xs post pre2 ys post2 : List ℕ) (i j k : ℕ) (a b c d e : Value)
      → IsText core.blocks core.statics x (pre ++ (xs ++ post)) → IsText core.blocks core.statics y (pre2 ++ (ys ++ post2)) → length ys ≡ length xs → i ≡ length pre → j ≡ length pre2 → k ≡ length xs → i + k < 2 ^ 63 → j + k < 2 ^ 63
      → Comes p args (At alike_bytes_test.ops alike_bytes_test.exit frames (record core { function = alike; block = 0; at = 0; vars = x ∷ Word (pos i) ∷ y ∷ Word (pos j) ∷ Word (pos k) ∷ a ∷ b ∷ c ∷ d ∷ e ∷ [] }))
      [] (Flag (bytes_eq xs ys)) frames core
  compared pre [] post pre2 (m ∷ ys) post2 i j k a b c d e t u len ei ej ek ib jb = absurd (omega (arith, len))
  compared pre (n ∷ xs) post pre2 [] post2 i j k a b c d e t u len ei ej ek ib jb = absurd (omega (arith, len))
  compared pre [] post pre2 [] post2 i j k a b c d e t u len ei ej ek ib jb = record {
    end = _;
    same = refl;
    leads = on (gives (Flag false) (less_false 0 k (omega (arith, ek)))) (many 2 of refl refl);
  }
  compared pre (n ∷ xs) post pre2 (m ∷ ys) post2 i j k a b c d e t u len ei ej ek ib jb = by (nat_eq n m) refl (compared (pre ++ n ∷ []) xs post (pre2 ++ m ∷ []) ys post2 (i + 1) (j + 1) (length xs) (Flag true) (Byte n) (Byte m) (Word (pos n)) (Word (pos m))
      (subst (IsText core.blocks core.statics x) (sym (append_assoc pre (n ∷ []) (xs ++ post))) t) (subst (IsText core.blocks core.statics y) (sym (append_assoc pre2 (m ∷ []) (ys ++ post2))) u)
      (omega (arith, len)) (omega (arith, ei, length-append pre (n ∷ []))) (omega (arith, ej, length-append pre2 (m ∷ []))) refl (omega (arith, ek, ib)) (omega (arith, ek, jb)))
    where
      by : (q : Bool) → nat_eq n m ≡ q → Comes p args (At alike_bytes_test.ops alike_bytes_test.exit frames (record core { function = alike; block = 0; at = 0; vars = x ∷ Word (pos (i + 1)) ∷ y ∷ Word (pos (j + 1)) ∷ Word (pos (length xs)) ∷ Flag true ∷ Byte n ∷ Byte m ∷ Word (pos n) ∷ Word (pos m) ∷ [] })) [] (Flag (bytes_eq xs ys)) frames core
          → Comes p args (At alike_bytes_test.ops alike_bytes_test.exit frames (record core { function = alike; block = 0; at = 0; vars = x ∷ Word (pos i) ∷ y ∷ Word (pos j) ∷ Word (pos k) ∷ a ∷ b ∷ c ∷ d ∷ e ∷ [] })) [] (Flag (q && bytes_eq xs ys)) frames core
      by true q ih = record {
        end = ih.end;
        same = ih.same;
        leads =
            on (gives (Flag true) (less_true 0 k (omega (arith, ek)))) (on (many 1 of refl (simp (is_set t, is_set u)))
            (on (gets_byte i n texts t refl (get_mid pre n (xs ++ post) i ei)) (on (gets_byte j m texts u refl (get_mid pre2 m (ys ++ post2) j ej)) (on (many 2 of refl refl)
            (on (gives (Flag true) (let z : int_eq (pos n) (pos m) ≡ true = same_numbers n m true q in ap (λ t. Ok (Flag t)) z))
            (on (gives (Word (pos (i + 1))) (adds i 1 (omega (arith, ek, ib)))) (on (gives (Word (pos (j + 1))) (adds j 1 (omega (arith, ek, jb))))
            (on (gives (Word (pos (length xs))) (subs k 1 (length xs) (omega (arith, ek)) (omega (arith, ib)))) (on (many 1 of refl (simp (is_set t, is_set u)))
            ih.leads)))))))));
      }
      by false q ih = record {
        end = _;
        same = refl;
        leads =
            on (gives (Flag true) (less_true 0 k (omega (arith, ek)))) (on (many 1 of refl (simp (is_set t, is_set u)))
            (on (gets_byte i n texts t refl (get_mid pre n (xs ++ post) i ei)) (on (gets_byte j m texts u refl (get_mid pre2 m (ys ++ post2) j ej)) (on (many 2 of refl refl)
            (on (gives (Flag false) (let z : int_eq (pos n) (pos m) ≡ false = same_numbers n m false q in ap (λ t. Ok (Flag t)) z))
            (on (gives (Word (pos (i + 1))) (adds i 1 (omega (arith, ek, ib)))) (on (gives (Word (pos (j + 1))) (adds j 1 (omega (arith, ek, jb))))
            (on (gives (Word (pos (length xs))) (subs k 1 (length xs) (omega (arith, ek)) (omega (arith, ib)))) (many 2 of refl refl)))))))));
      }

  -- the call of the loop
  pub compares : (pre xs post pre2 ys post2 : List ℕ) (i j k : ℕ)
      → IsText core.blocks core.statics x (pre ++ (xs ++ post)) → IsText core.blocks core.statics y (pre2 ++ (ys ++ post2)) → length ys ≡ length xs → i ≡ length pre → j ≡ length pre2 → k ≡ length xs → i + k < 2 ^ 63 → j + k < 2 ^ 63
      → Comes p args (Calling alike (x ∷ Word (pos i) ∷ y ∷ Word (pos j) ∷ Word (pos k) ∷ []) frames core) [] (Flag (bytes_eq xs ys)) frames core
  compares pre xs post pre2 ys post2 i j k t u len ei ej ek ib jb =
      let c = compared pre xs post pre2 ys post2 i j k Unset Unset Unset Unset Unset t u len ei ej ek ib jb in
      record { end = c.end; same = c.same; leads = on (enter of refl) c.leads }

-- two lists of other lengths are not equal
pub other_length : (a b : List ℕ) → (length a ≡ length b → ⊥) → bytes_eq a b ≡ false
other_length [] [] h = absurd (h refl)
other_length [] (m ∷ b) h = refl
other_length (n ∷ a) [] h = refl
other_length (n ∷ a) (m ∷ b) h = ap (λ c. nat_eq n m && c) (other_length a b (λ e. h (ap suc e))) ∙ one (nat_eq n m)
  where
    one : (c : Bool) → (c && false) ≡ false
    one true = refl
    one false = refl

pub equal_is : IsTwo helper.StrEqual (type.Ptr 0) (type.Ptr 0) type.Bool (row.Compare cmp.Eq)
equal_is program p args numbers f frames core w h left x y v u missing missing = gave left (on (enter h.graph refl) (many 4 h.graph refl refl)) refl (flag true)
equal_is program p args numbers f frames core w h left x y v u missing (text y2 b s) = gave left (on (enter h.graph refl) (on (many 2 h.graph refl (simp (is_set s))) (on (gives (Flag false) (is_there s)) (many 1 h.graph refl refl)))) refl (flag false)
equal_is program p args numbers f frames core w h left x y v u (text x2 a t) missing = gave left (on (enter h.graph refl) (on (gives (Flag false) (is_there t)) (on (many 1 h.graph refl (simp (is_set t))) (many 3 h.graph refl refl)))) refl (flag false)
equal_is program p args numbers f frames core w h left x y v u (text x2 a t) (text y2 b s) = by (nat_eq (length a) (length b)) refl
  where
    to_lengths : Leads p args 0 (Calling f (x ∷ y ∷ []) frames core) [] (At (◌∷◌ (op.Binary 2 Eq (Var 3) (Var 4)) []) (fork 2 4 (Var 0 ∷ Var 1 ∷ Var 3 ∷ []) 5 []) frames (record core { function = f; block = 3; at = 2; vars = x ∷ y ∷ Flag false ∷ Word (pos (length a)) ∷ Word (pos (length b)) ∷ [] }))
    to_lengths = on (enter h.graph refl) (on (gives (Flag false) (is_there t)) (on (many 1 h.graph refl (simp (is_set t, is_set s))) (on (gives (Flag false) (is_there s)) (on (many 1 h.graph refl (simp (is_set t, is_set s))) (on (gets_length h.text t) (gets_length h.text s))))))

    by : (c : Bool) → nat_eq (length a) (length b) ≡ c → Gave p args (Calling f (x ∷ y ∷ []) frames core) frames core type.Bool w (MeantFlag (bytes_eq a b)) w
    by true e =
        let len : length a ≡ length b = grind (arith, nat_tests, e) in
        gave left (on to_lengths (on (gives (Flag true) (ap (λ t. Ok (Flag t)) (same_numbers (length a) (length b) true e))) (on (many 1 h.graph refl (simp (is_set t, is_set s)))
        (on (call (simp (is_set t, is_set s)) (λ waits. compares p args numbers.alike_bytes (h.shared shared.AlikeBytes refl) h.text waits _ x y [] a [] [] b [] 0 0 (length a)
        (subst (IsText core.blocks core.statics x) (sym (append-nil a)) t) (subst (IsText core.blocks core.statics y) (sym (append-nil b)) s) (sym len) refl refl refl (omega (arith, t.short)) (omega (arith, t.short))))
        (many 1 h.graph refl refl))))) refl (flag (bytes_eq a b))
    by false e = gave left (on to_lengths (on (gives (Flag false) (ap (λ t. Ok (Flag t)) (same_numbers (length a) (length b) false e))) (many 2 h.graph refl refl))) refl
        (subst (λ c. Stands core.blocks core.statics type.Bool (Flag false) (MeantFlag c)) (sym (other_length a b (λ q. (let z : nat_eq (length a) (length b) ≡ true = grind (arith, nat_tests, q) in let y : true ≡ false = sym z ∙ e in cc)))) (flag false))
