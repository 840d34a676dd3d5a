-- Strings without blanks at their ends.
use Rattle.std.proofs.Common.{◌≡◌, ◌<◌, ℕ, suc, ◌+◌, ◌^◌, Bool, true, false, List, [], ◌∷◌, ◌++◌, length, Option, Some, pos, refl, sym, ap, ◌∙◌, subst, arith, append_assoc, length-append}
use Rattle.std.proofs.lemmas.List.{append-nil, reverse-append, reverse-reverse, length-reverse}
use Rattle.std.specs.Prelude.{slice_get, cond, reverse, codes}
use Rattle.rpy_base.specs.Number.{blank, without_leading_blanks, trimmed}
use Rattle.rpy_meaning.specs.declared.row.RowOp.TheVariants as row
use Rattle.rpy_meaning.specs.World.{new_text}
use Rattle.csub_tree.specs.State.{Value, Unset, Word, Byte, Flag, Core}
use Rattle.ll_code.specs.State.{Frame, Calling, At}
use Rattle.ll_code.specs.declared.program.LlType.TheVariants as type
use Rattle.ll_code.specs.declared.program.LlProgram.{LlProgram}
use Rattle.ll_leads.proofs.Ways.{Comes, on, many, enter, gives, call}
use Rattle.ll_texts.specs.Texts.{IsText, HasText}
use Rattle.ll_texts.specs.Stands.{text, missing}
use Rattle.ll_texts.proofs.Reading.{is_set, is_there, gets_length, gets_byte, get_mid}
use Rattle.ll_texts.proofs.Numbers.{less_true, less_false, adds, subs}
use Rattle.ll_texts.proofs.Following.{failed}
use Rattle.ll_helpers.specs.Loops.{skip_forwards, skip_forwards_test, skip_backwards, skip_backwards_test}
use Rattle.ll_helpers.specs.Words.{is_space}
use Rattle.ll_build.specs.declared.needs.Helper.TheVariants as helper
use Rattle.ll_build.specs.declared.needs.Shared.TheVariants as shared
use Rattle.ll_strings.specs.Laws.{Is}
use Rattle.ll_strings.proofs.Bytes.{tells_blank}
use Rattle.ll_strings.proofs.Parts.{part_at}
use Rattle.ll_strings.proofs.Results.{hands}

-- ---- blanks

-- how many bytes stand before the first that is no blank
abbrev leading : List ℕ → ℕ
leading [] = 0
leading (b ∷ bytes) = cond (blank b) (suc (leading bytes)) 0

-- a string is its first blanks and the rest
record Led (bytes : List ℕ) : Type 0 where
  pub blanks : List ℕ
  pub is : blanks ++ without_leading_blanks bytes ≡ bytes
  pub count : length blanks ≡ leading bytes

led : (bytes : List ℕ) → Led bytes
led [] = record { blanks = []; is = refl; count = refl }
led (b ∷ bytes) = one (blank b) refl (led bytes)
  where
    one : (c : Bool) → blank b ≡ c → Led bytes → Led (b ∷ bytes)
    one true e l = record {
      blanks = b ∷ l.blanks;
      is = ap (λ c. b ∷ (l.blanks ++ cond c (without_leading_blanks bytes) (b ∷ bytes))) e ∙ ap (λ l. b ∷ l) l.is;
      count = ap suc l.count ∙ ap (λ c. cond c (suc (leading bytes)) 0) (sym e);
    }
    one false e l = record {
      blanks = [];
      is = ap (λ c. cond c (without_leading_blanks bytes) (b ∷ bytes)) e;
      count = ap (λ c. cond c (suc (leading bytes)) 0) (sym e);
    }

module _ (p : LlProgram) (args : List (List ℕ)) (space : ℕ) (space_of : slice_get p.graphs space ≡ Some is_space) (texts : HasText p) where
  -- ---- from the beginning

  module _ (forwards : ℕ) (of : slice_get p.graphs forwards ≡ Some (skip_forwards space)) (frames : List Frame) (core : Core) (x : Value) where
    abbrev Skips : ℕ → ℕ → Value → Value → ℕ → Type 0
    Skips n i a b r = Comes p args (At skip_forwards_test.ops skip_forwards_test.exit frames (record core { function = forwards; block = 1; at = 0; vars = x ∷ Word (pos n) ∷ Word (pos i) ∷ a ∷ b ∷ [] })) [] (Word (pos r)) frames core

    skips : (pre xs : List ℕ) (n i : ℕ) (a b : Value) → IsText core.blocks core.statics x (pre ++ xs) → i ≡ length pre → n ≡ i + length xs → n < 2 ^ 63 → Skips n i a b (i + leading xs)
    skips pre [] n i a b t ei en nb = (let e : i ≡ i + 0 = omega arith in subst (Skips n i a b) e (record { end = _; same = refl; leads = on (gives (Flag false) (less_false i n (omega (arith, en)))) (many 2 of refl refl) }))
    skips pre (k ∷ xs) n i a b t ei en nb = by (blank k) refl (skips (pre ++ k ∷ []) xs n (i + 1) (Flag true) (Byte k) (subst (IsText core.blocks core.statics x) (sym (append_assoc pre (k ∷ []) xs)) t) (omega (arith, ei, length-append pre (k ∷ []))) (omega (arith, en)) nb)
      where
        by : (c : Bool) → blank k ≡ c → Skips n (i + 1) (Flag true) (Byte k) (i + 1 + leading xs) → Skips n i a b (i + cond c (suc (leading xs)) 0)
        by true e ih = (let q : i + 1 + leading xs ≡ i + suc (leading xs) = omega arith in subst (Skips n i a b) q (record {
          end = ih.end;
          same = ih.same;
          leads = on (gives (Flag true) (less_true i n (omega (arith, en)))) (on (many 1 of refl (simp (is_set t))) (on (gets_byte i k texts t refl (get_mid pre k xs i ei))
              (on (call refl (λ waits. tells_blank p args space space_of waits _ k true e)) (on (many 1 of refl (simp (is_set t)))
              (on (gives (Word (pos (i + 1))) (adds i 1 (omega (arith, en, nb)))) (on (many 1 of refl (simp (is_set t))) ih.leads))))));
        }))
        by false e ih = (let q : i ≡ i + 0 = omega arith in subst (Skips n i a b) q (record {
          end = _;
          same = refl;
          leads = on (gives (Flag true) (less_true i n (omega (arith, en)))) (on (many 1 of refl (simp (is_set t))) (on (gets_byte i k texts t refl (get_mid pre k xs i ei))
              (on (call refl (λ waits. tells_blank p args space space_of waits _ k false e)) (many 2 of refl refl))));
        }))

    pub skips_first : (bytes : List ℕ) → IsText core.blocks core.statics x bytes → Comes p args (Calling forwards (x ∷ []) frames core) [] (Word (pos (leading bytes))) frames core
    skips_first bytes t =
        let c = skips [] bytes (length bytes) 0 Unset Unset t refl (omega arith) t.short in
        let e : 0 + leading bytes ≡ leading bytes = omega arith in
        subst (λ r. Comes p args (Calling forwards (x ∷ []) frames core) [] (Word (pos r)) frames core) e
        (record { end = c.end; same = c.same; leads = on (enter of refl) (on (gets_length texts t) (on (many 1 of refl (simp (is_set t))) c.leads)) })

  -- ---- from the end

  module _ (backwards : ℕ) (of : slice_get p.graphs backwards ≡ Some (skip_backwards space)) (frames : List Frame) (core : Core) (x : Value) (pre : List ℕ) where
    abbrev Backs : ℕ → Value → Value → Value → ℕ → Type 0
    Backs e a b c r = Comes p args (At skip_backwards_test.ops skip_backwards_test.exit frames (record core { function = backwards; block = 1; at = 0; vars = x ∷ Word (pos (length pre)) ∷ Word (pos e) ∷ a ∷ b ∷ c ∷ [] })) [] (Word (pos r)) frames core

    -- the bytes between, the last one first
    backs : (r post : List ℕ) (e : ℕ) (a b c : Value) → IsText core.blocks core.statics x (pre ++ (reverse r ++ post)) → e ≡ length pre + length r → e < 2 ^ 63 → Backs e a b c (length pre + length (without_leading_blanks r))
    backs [] post e a b c t ee small = (let q : e ≡ length pre + 0 = omega (arith, ee) in subst (Backs e a b c) q (record { end = _; same = refl; leads = on (gives (Flag false) (less_false (length pre) e (omega (arith, ee)))) (many 2 of refl refl) }))
    backs (k ∷ r) post e a b c t ee small =
        let turned : reverse (k ∷ r) ≡ reverse r ++ k ∷ [] = reverse-append (k ∷ []) r in
        let moved : pre ++ (reverse (k ∷ r) ++ post) ≡ pre ++ (reverse r ++ (k ∷ post)) = ap (λ l. pre ++ (l ++ post)) turned ∙ ap (λ l. pre ++ l) (append_assoc (reverse r) (k ∷ []) post) in
        let t2 : IsText core.blocks core.statics x (pre ++ (reverse r ++ (k ∷ post))) = subst (IsText core.blocks core.statics x) moved t in
        by (blank k) refl t2 (backs r (k ∷ post) (length pre + length r) (Word (pos (length pre + length r))) (Flag true) (Byte k) t2 refl (omega (arith, ee, small)))
      where
        at_last : slice_get (pre ++ (reverse r ++ (k ∷ post))) (length pre + length r) ≡ Some k
        at_last = ap (λ l. slice_get l (length pre + length r)) (sym (append_assoc pre (reverse r) (k ∷ post))) ∙ get_mid (pre ++ reverse r) k post (length pre + length r) (sym (length-append pre (reverse r) ∙ ap (λ n. length pre + n) (length-reverse r)))

        by : (q : Bool) → blank k ≡ q → IsText core.blocks core.statics x (pre ++ (reverse r ++ (k ∷ post))) → Backs (length pre + length r) (Word (pos (length pre + length r))) (Flag true) (Byte k) (length pre + length (without_leading_blanks r)) → Backs e a b c (length pre + length (cond q (without_leading_blanks r) (k ∷ r)))
        by true q t2 ih = record {
          end = ih.end;
          same = ih.same;
          leads = on (gives (Flag true) (less_true (length pre) e (omega (arith, ee)))) (on (many 1 of refl (simp (is_set t2))) (on (gives (Word (pos (length pre + length r))) (subs e 1 (length pre + length r) (omega (arith, ee)) small))
              (on (gets_byte (length pre + length r) k texts t2 refl at_last) (on (call refl (λ waits. tells_blank p args space space_of waits _ k true q)) (on (many 1 of refl (simp (is_set t2))) ih.leads)))));
        }
        by false q t2 ih = (let z : e ≡ length pre + length (k ∷ r) = ee in subst (Backs e a b c) z (record {
          end = _;
          same = refl;
          leads = on (gives (Flag true) (less_true (length pre) e (omega (arith, ee)))) (on (many 1 of refl (simp (is_set t2))) (on (gives (Word (pos (length pre + length r))) (subs e 1 (length pre + length r) (omega (arith, ee)) small))
              (on (gets_byte (length pre + length r) k texts t2 refl at_last) (on (call refl (λ waits. tells_blank p args space space_of waits _ k false q)) (many 2 of refl refl)))));
        }))

    pub skips_last : (r : List ℕ) → IsText core.blocks core.statics x (pre ++ reverse r) → Comes p args (Calling backwards (x ∷ Word (pos (length pre)) ∷ []) frames core) [] (Word (pos (length pre + length (without_leading_blanks r)))) frames core
    skips_last r t =
        let whole : length (pre ++ reverse r) ≡ length pre + length r = length-append pre (reverse r) ∙ ap (λ n. length pre + n) (length-reverse r) in
        let t2 : IsText core.blocks core.statics x (pre ++ (reverse r ++ [])) = subst (λ l. IsText core.blocks core.statics x (pre ++ l)) (sym (append-nil (reverse r))) t in
        let c = backs r [] (length (pre ++ reverse r)) Unset Unset Unset t2 whole t.short in
        record { end = c.end; same = c.same; leads = on (enter of refl) (on (gets_length texts t) (on (many 1 of refl (simp (is_set t))) c.leads)) }

    pub skips_from : (r : List ℕ) (from : ℕ) → length pre ≡ from → IsText core.blocks core.statics x (pre ++ reverse r) → Comes p args (Calling backwards (x ∷ Word (pos from) ∷ []) frames core) [] (Word (pos (from + length (without_leading_blanks r)))) frames core
    skips_from r from e t = subst (λ k. Comes p args (Calling backwards (x ∷ Word (pos k) ∷ []) frames core) [] (Word (pos (k + length (without_leading_blanks r)))) frames core) e (skips_last r t)

-- ---- both

pub strip_is : (site : Option ℕ) → Is helper.StrStrip (type.Ptr 0) (type.Ptr 0) (row.Method (codes "strip") site)
strip_is site program p args numbers f frames core w h left x v missing = failed (on (enter h.graph refl) (many 2 h.graph refl refl)) refl
strip_is site program p args numbers f frames core w h left x v (text x2 a t) =
    let first = led a in
    let rest : List ℕ = without_leading_blanks a in
    let r : List ℕ = reverse rest in
    let second = led r in
    let inner : List ℕ = without_leading_blanks r in
    let i : ℕ = leading a in
    let n : ℕ = length inner in
    let t2 : IsText core.blocks core.statics x (first.blanks ++ reverse r) = subst (IsText core.blocks core.statics x) (sym (ap (λ l. first.blanks ++ l) (reverse-reverse rest) ∙ first.is)) t in
    let split : reverse inner ++ reverse second.blanks ≡ rest = sym (reverse-append second.blanks inner) ∙ ap reverse second.is ∙ reverse-reverse rest in
    let t3 : IsText core.blocks core.statics x (first.blanks ++ (reverse inner ++ reverse second.blanks)) = subst (IsText core.blocks core.statics x) (sym (ap (λ l. first.blanks ++ l) split ∙ first.is)) t in
    let whole : length (first.blanks ++ (reverse inner ++ reverse second.blanks)) ≡ length first.blanks + (length (reverse inner) + length (reverse second.blanks)) = length-append first.blanks (reverse inner ++ reverse second.blanks) ∙ ap (λ k. length first.blanks + k) (length-append (reverse inner) (reverse second.blanks)) in
    let short : length (first.blanks ++ (reverse inner ++ reverse second.blanks)) < 2 ^ 63 = t3.short in
    let same : length (reverse inner) ≡ n = length-reverse inner in
    let next : Core = record core { function = f; block = 2; at = 3; vars = x ∷ Flag false ∷ Word (pos i) ∷ Word (pos (i + n)) ∷ Word (pos n) ∷ Unset ∷ [] } in
    hands w (new_text (trimmed a) w)
    (on (enter h.graph refl) (on (gives (Flag false) (is_there t)) (on (many 1 h.graph refl (simp (is_set t)))
    (on (call (simp (is_set t)) (λ waits. skips_first p args numbers.is_space (h.shared shared.IsSpace refl) h.text numbers.skip_forwards (h.shared shared.SkipForwards refl) waits _ x a t))
    (on (call (simp (is_set t)) (λ waits. skips_from p args numbers.is_space (h.shared shared.IsSpace refl) h.text numbers.skip_backwards (h.shared shared.SkipBackwards refl) waits _ x first.blanks r i first.count t2))
    (gives (Word (pos n)) (subs (i + n) i n refl (omega (arith, whole, short, same, first.count)))))))))
    refl (simp (is_set t)) (λ b k. k) (λ b k. k) (λ v. refl)
    (λ waits. part_at p args numbers.string_part numbers.table numbers.copy_bytes (h.shared shared.StringPart refl) (h.shared shared.CopyBytes refl) h.text waits next w x first.blanks (reverse inner) (reverse second.blanks) i n (sym first.count) (sym same) left (h.statics refl) t3)
