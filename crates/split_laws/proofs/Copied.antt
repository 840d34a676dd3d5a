-- Bytes are copied into the newest string, by the graph that copies items of arrays.
use Rattle.std.proofs.Common.{◌≡◌, ◌<◌, ℕ, zero, suc, ◌+◌, ◌^◌, true, false, List, [], ◌∷◌, ◌++◌, length, map, Option, Some, pos, refl, sym, ap, ◌∙◌, subst, arith, append_assoc, length-append}
use Rattle.std.specs.Prelude.{slice_get}
use Rattle.csub_tree.specs.State.{Value, Unset, Word, Byte, Flag, Ptr, Block, Core}
use Rattle.ll_code.specs.State.{Frame, Calling, At, Returning}
use Rattle.ll_code.specs.declared.program.LlType.{LlType}
use Rattle.ll_code.specs.declared.program.LlProgram.{LlProgram}
use Rattle.ll_leads.specs.Path.{Leads}
use Rattle.ll_leads.proofs.Ways.{Comes, on, many, enter, gives}
use Rattle.ll_texts.specs.Texts.{IsText, HasText}
use Rattle.ll_texts.proofs.Reading.{is_set, gets_byte, get_mid}
use Rattle.ll_texts.proofs.Writing.{part_block, text_stays, writes_byte}
use Rattle.ll_texts.proofs.Numbers.{adds, subs}
use Rattle.list_loops.specs.Loops.{copy_graph, copy_start, copy_asks, copy_turn, copy_types}
use Rattle.list_laws.proofs.Copying.{more_than, the_copy}

module _ (p : LlProgram) (args : List (List ℕ)) (copy : ℕ) (ty : LlType) (of : slice_get p.graphs copy ≡ Some (the_copy 0 ty)) (texts : HasText p) where
  module _ (core : Core) (frames : List Frame) (bs : List (Option Block)) (x : Value) (fields : List Value) where
    abbrev holds : List Value → List (Option Block)
    holds items = bs ++ Some (part_block fields items) ∷ []

    copied : (pre xs post : List ℕ) (before olds behind : List Value) (i j k : ℕ) (a b c d e : Value)
        → IsText bs core.statics x (pre ++ (xs ++ post)) → length olds ≡ length xs → i ≡ length pre → j ≡ length before → k ≡ length xs → i + k < 2 ^ 63 → j + k < 2 ^ 63
        → Comes p args (At copy_asks.ops copy_asks.exit frames (record core { function = copy; block = 1; at = 0; vars = x ∷ Word (pos i) ∷ Ptr (length bs) ∷ Word (pos j) ∷ Word (pos k) ∷ a ∷ b ∷ c ∷ d ∷ e ∷ []; blocks = holds (before ++ (olds ++ behind)) }))
        [] Unset frames (record core { blocks = holds (before ++ (map Byte xs ++ behind)) })
    unfolding copy_graph copy_start copy_asks copy_turn copy_types
    copied pre [] post before (y ∷ olds) behind i j k a b c d e t len ei ej ek ib jb = absurd (omega (arith, len))
    copied pre (z ∷ xs) post before [] behind i j k a b c d e t len ei ej ek ib jb = absurd (omega (arith, len))
    copied pre [] post before [] behind i j zero a b c d e t len ei ej ek ib jb = record {
      end = _;
      same = refl;
      leads = on (gives (Flag false) refl) (many 2 of refl refl);
    }
    copied pre [] post before [] behind i j (suc k) a b c d e t len ei ej ek ib jb = absurd (omega (arith, ek))
    copied pre (z ∷ xs) post before (y ∷ olds) behind i j zero a b c d e t len ei ej ek ib jb = absurd (omega (arith, ek))
    copied pre (z ∷ xs) post before (y ∷ olds) behind i j (suc n) a b c d e t len ei ej ek ib jb =
        let after : List (Option Block) = holds ((before ++ Byte z ∷ []) ++ (olds ++ behind)) in
        let next : before ++ Byte z ∷ (olds ++ behind) ≡ (before ++ Byte z ∷ []) ++ (olds ++ behind) = sym (append_assoc before (Byte z ∷ []) (olds ++ behind)) in
        let t2 : IsText bs core.statics x ((pre ++ z ∷ []) ++ (xs ++ post)) = subst (IsText bs core.statics x) (sym (append_assoc pre (z ∷ []) (xs ++ post))) t in
        let lp = length-append pre (z ∷ []) in
        let lb = length-append before (Byte z ∷ []) in
        let ih = copied (pre ++ z ∷ []) xs post (before ++ Byte z ∷ []) olds behind (i + 1) (j + 1) n (Flag true) (Word (pos (i + 1))) (Word (pos (j + 1))) (Word (pos n)) (Byte z) t2 (omega (arith, len)) (omega (arith, ei, lp)) (omega (arith, ej, lb)) (omega (arith, ek)) (omega (arith, ek, ib)) (omega (arith, ek, jb)) in
        record {
          end = ih.end;
          same = ih.same ∙ ap (λ l. record core { function = 0; block = 0; at = 0; vars = []; blocks = holds l }) (append_assoc before (Byte z ∷ []) (map Byte xs ++ behind));
          leads =
              on (gives (Flag true) (more_than n))
              (on (many 1 of refl (simp (is_set t)))
              (on (gets_byte i z texts (text_stays (Some (part_block fields (before ++ (y ∷ (olds ++ behind)))) ∷ []) t) refl (get_mid pre z (xs ++ post) i ei))
              (on (writes_byte bs fields before (olds ++ behind) y j z after texts refl refl refl ej refl (ap holds next))
              (on (gives (Word (pos (i + 1))) (adds i 1 (omega (arith, ek, ib))))
              (on (gives (Word (pos (j + 1))) (adds j 1 (omega (arith, ek, jb))))
              (on (gives (Word (pos n)) (subs (suc n) 1 n (omega arith) (omega (arith, ib))))
              (on (many 1 of refl (simp (is_set t)))
              ih.leads)))))));
        }

  -- the call of the loop
  pub bytes_copied : (frames : List Frame) (core : Core) (bs : List (Option Block)) (x : Value) (fields : List Value) (pre xs post : List ℕ) (before olds behind : List Value) (i j k : ℕ)
      → core.blocks ≡ bs ++ Some (part_block fields (before ++ (olds ++ behind))) ∷ []
      → IsText bs core.statics x (pre ++ (xs ++ post)) → length olds ≡ length xs → i ≡ length pre → j ≡ length before → k ≡ length xs → i + k < 2 ^ 63 → j + k < 2 ^ 63
      → Comes p args (Calling copy (x ∷ Word (pos i) ∷ Ptr (length bs) ∷ Word (pos j) ∷ Word (pos k) ∷ []) frames core) [] Unset frames (record core { blocks = bs ++ Some (part_block fields (before ++ (map Byte xs ++ behind))) ∷ [] })
  unfolding copy_graph copy_start copy_asks copy_turn copy_types
  bytes_copied frames core bs x fields pre xs post before olds behind i j k at t len ei ej ek ib jb =
      let c = copied core frames bs x fields pre xs post before olds behind i j k Unset Unset Unset Unset Unset t len ei ej ek ib jb in
      record {
        end = c.end;
        same = c.same;
        leads = on (enter of refl) (on (many 1 of refl (simp (is_set t))) (subst (λ l. Leads p args 0 (At copy_asks.ops copy_asks.exit frames (record core { function = copy; block = 1; at = 0; vars = x ∷ Word (pos i) ∷ Ptr (length bs) ∷ Word (pos j) ∷ Word (pos k) ∷ Unset ∷ Unset ∷ Unset ∷ Unset ∷ Unset ∷ []; blocks = l })) [] (Returning Unset frames c.end)) (sym at) c.leads));
      }
