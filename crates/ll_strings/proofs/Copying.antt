-- Bytes are copied into the newest block.
use Rattle.std.proofs.Common.{◌≡◌, ◌<◌, ℕ, ◌+◌, ◌^◌, true, false, List, [], ◌∷◌, ◌++◌, length, map, Option, Some, pos, refl, sym, ap, ◌∙◌, subst, arith, append_assoc, length-append}
use Rattle.std.specs.Prelude.{slice_get}
use Rattle.csub_tree.specs.State.{Value, Unset, Word, Byte, Flag, Ptr, Block, Core}
use Rattle.ll_code.specs.State.{Frame, Calling, At, Returning}
use Rattle.ll_code.specs.declared.program.LlProgram.{LlProgram}
use Rattle.ll_leads.specs.Path.{Leads}
use Rattle.ll_leads.proofs.Ways.{Comes, on, many, enter, gives}
use Rattle.ll_texts.specs.Texts.{IsText, HasText}
use Rattle.ll_texts.proofs.Reading.{is_set, gets_byte, get_mid}
use Rattle.ll_texts.proofs.Writing.{part_block, text_stays, writes_byte}
use Rattle.ll_texts.proofs.Numbers.{less_true, less_false, adds, subs}
use Rattle.ll_helpers.specs.Loops.{copy_bytes, copy_bytes_test}

module _ (p : LlProgram) (args : List (List ℕ)) (copy : ℕ) (of : slice_get p.graphs copy ≡ Some copy_bytes) (texts : HasText p) where
  module _ (core : Core) (frames : List Frame) (bs : List (Option Block)) (x : Value) (fields : List Value) where
    abbrev holds : List Value → List (Option Block)
    holds items = bs ++ Some (part_block fields items) ∷ []

    pub copied : (pre xs post : List ℕ) (before olds behind : List Value) (i j k : ℕ) (a b : Value)
        → IsText bs core.statics x (pre ++ (xs ++ post)) → length olds ≡ length xs → i ≡ length pre → j ≡ length before → k ≡ length xs → i + k < 2 ^ 63 → j + k < 2 ^ 63
        → Comes p args (At copy_bytes_test.ops copy_bytes_test.exit frames (record core { function = copy; block = 0; at = 0; vars = x ∷ Word (pos i) ∷ Ptr (length bs) ∷ Word (pos j) ∷ Word (pos k) ∷ a ∷ b ∷ []; blocks = holds (before ++ (olds ++ behind)) }))
        [] Unset frames (record core { blocks = holds (before ++ (map Byte xs ++ behind)) })
    copied pre [] post before (y ∷ olds) behind i j k a b t len ei ej ek ib jb = absurd (omega (arith, len))
    copied pre (c ∷ xs) post before [] behind i j k a b t len ei ej ek ib jb = absurd (omega (arith, len))
    copied pre [] post before [] behind i j k a b t len ei ej ek ib jb = record {
      end = _;
      same = refl;
      leads = on (gives (Flag false) (less_false 0 k (omega (arith, ek)))) (many 2 of refl refl);
    }
    copied pre (c ∷ xs) post before (y ∷ olds) behind i j k a b t len ei ej ek ib jb =
        let n : ℕ = length xs in
        let after : List (Option Block) = holds ((before ++ Byte c ∷ []) ++ (olds ++ behind)) in
        let next : before ++ Byte c ∷ (olds ++ behind) ≡ (before ++ Byte c ∷ []) ++ (olds ++ behind) = sym (append_assoc before (Byte c ∷ []) (olds ++ behind)) in
        let t2 : IsText bs core.statics x ((pre ++ c ∷ []) ++ (xs ++ post)) = subst (IsText bs core.statics x) (sym (append_assoc pre (c ∷ []) (xs ++ post))) t in
        let ih = copied (pre ++ c ∷ []) xs post (before ++ Byte c ∷ []) olds behind (i + 1) (j + 1) n (Flag true) (Byte c) t2 (omega (arith, len)) (omega (arith, ei, length-append pre (c ∷ []))) (omega (arith, ej, length-append before (Byte c ∷ []))) refl (omega (arith, ek, ib)) (omega (arith, ek, jb)) in
        record {
          end = ih.end;
          same = ih.same ∙ ap (λ l. record core { function = 0; block = 0; at = 0; vars = []; blocks = holds l }) (append_assoc before (Byte c ∷ []) (map Byte xs ++ behind));
          leads =
              on (gives (Flag true) (less_true 0 k (omega (arith, ek))))
              (on (many 1 of refl (simp (is_set t)))
              (on (gets_byte i c texts (text_stays (Some (part_block fields (before ++ (y ∷ (olds ++ behind)))) ∷ []) t) refl (get_mid pre c (xs ++ post) i ei))
              (on (writes_byte bs fields before (olds ++ behind) y j c after texts refl refl refl ej refl (ap holds next))
              (on (gives (Word (pos (i + 1))) (adds i 1 (omega (arith, ek, ib))))
              (on (gives (Word (pos (j + 1))) (adds j 1 (omega (arith, ek, jb))))
              (on (gives (Word (pos n)) (subs k 1 n (omega (arith, ek)) (omega (arith, ib))))
              (on (many 1 of refl (simp (is_set t)))
              ih.leads)))))));
        }

  -- the call of the loop
  pub copies : (frames : List Frame) (core : Core) (bs : List (Option Block)) (x : Value) (fields : List Value) (pre xs post : List ℕ) (before olds behind : List Value) (i j k : ℕ)
      → core.blocks ≡ bs ++ Some (part_block fields (before ++ (olds ++ behind))) ∷ []
      → IsText bs core.statics x (pre ++ (xs ++ post)) → length olds ≡ length xs → i ≡ length pre → j ≡ length before → k ≡ length xs → i + k < 2 ^ 63 → j + k < 2 ^ 63
      → Comes p args (Calling copy (x ∷ Word (pos i) ∷ Ptr (length bs) ∷ Word (pos j) ∷ Word (pos k) ∷ []) frames core) [] Unset frames (record core { blocks = bs ++ Some (part_block fields (before ++ (map Byte xs ++ behind))) ∷ [] })
  copies frames core bs x fields pre xs post before olds behind i j k at t len ei ej ek ib jb =
      let c = copied core frames bs x fields pre xs post before olds behind i j k Unset Unset t len ei ej ek ib jb in
      record {
        end = c.end;
        same = c.same;
        leads = on (enter of refl) (subst (λ l. Leads p args 0 (At copy_bytes_test.ops copy_bytes_test.exit frames (record core { function = copy; block = 0; at = 0; vars = x ∷ Word (pos i) ∷ Ptr (length bs) ∷ Word (pos j) ∷ Word (pos k) ∷ Unset ∷ Unset ∷ []; blocks = l })) [] (Returning Unset frames c.end)) (sym at) c.leads);
      }
