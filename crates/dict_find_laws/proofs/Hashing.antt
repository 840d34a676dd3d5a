-- The graphs that hash words and strings.
use Rattle.std.proofs.Common.{◌≡◌, ◌<◌, ℕ, ◌+◌, ◌^◌, ℤ, pos, true, false, List, [], ◌∷◌, ◌++◌, length, Some, refl, sym, ap, ◌∙◌, subst, arith, append_assoc, length-append}
use Rattle.std.specs.Prelude.{slice_get}
use Rattle.std.specs.Int.{w64, int_bit_xor}
use Rattle.csub_tree.specs.State.{Value, Unset, Word, Byte, Flag, Core}
use Rattle.ll_code.specs.State.{Frame, Calling, At}
use Rattle.ll_code.specs.declared.program.LlType.TheVariants as type
use Rattle.ll_code.specs.declared.program.LlProgram.{LlProgram}
use Rattle.ll_leads.proofs.Ways.{Comes, on, many, enter, gives, call}
use Rattle.ll_texts.specs.Texts.{IsText, HasText}
use Rattle.ll_texts.proofs.Reading.{is_set, gets_length, gets_byte, get_mid}
use Rattle.ll_texts.proofs.Numbers.{less_true, less_false, adds}
use Rattle.rtyper_op.specs.Mapped.{mixed, with_item, with_bytes, hash_of_text}
use Rattle.rtyper_dict.specs.Hashing.{of_word, word_mixed, text_graph, text_blocks, text_types, text_start, text_asks, text_turn, text_mixed}

-- ---- words

pub word_hashed : (p : LlProgram) (args : List (List ℕ)) (f : ℕ) → slice_get p.graphs f ≡ Some of_word → (z : ℤ) (core : Core) (waits : List Frame) → Comes p args (Calling f (Word z ∷ []) waits core) [] (Word (mixed z)) waits core
unfolding of_word word_mixed mixed
word_hashed p args f graph z core waits = record { end = _; same = refl; leads = on (enter graph refl) (many 4 graph refl refl) }

-- ---- strings

pub hash_of_string : (bytes : List ℕ) → hash_of_text bytes (type.Ptr 0) ≡ mixed (with_bytes (pos 0) bytes)
unfolding hash_of_text
hash_of_string [] = refl
hash_of_string (b ∷ []) = refl
hash_of_string (b ∷ c ∷ bytes) = refl

module _ (p : LlProgram) (args : List (List ℕ)) (f mixes : ℕ) (graph : slice_get p.graphs f ≡ Some (text_graph mixes)) (words : slice_get p.graphs mixes ≡ Some of_word) (texts : HasText p) (waits : List Frame) (core : Core) (x : Value) where
  -- the bytes from a place on
  hashes : (pre bytes : List ℕ) (h : ℤ) (i n : ℕ) (a b c d e k : Value) → IsText core.blocks core.statics x (pre ++ bytes) → i ≡ length pre → n ≡ length (pre ++ bytes) → n < 2 ^ 63
      → Comes p args (At text_asks.ops text_asks.exit waits (record core { function = f; block = 1; at = 0; vars = x ∷ Word h ∷ Word (pos i) ∷ Word (pos n) ∷ a ∷ b ∷ c ∷ d ∷ e ∷ k ∷ [] })) [] (Word (mixed (with_bytes h bytes))) waits core
  unfolding text_graph text_blocks text_types text_start text_asks text_turn text_mixed with_item
  hashes pre [] h i n a b c d e k t ei en small = record {
    end = _;
    same = refl;
    leads =
        on (gives (Flag false) (less_false i n (let q = length-append pre [] in omega (arith, ei, en, q)))) (on (many 1 graph refl refl)
        (on (call refl (λ waits. word_hashed p args mixes words h _ waits)) (many 1 graph refl refl)));
  }
  hashes pre (byte ∷ bytes) h i n a b c d e k t ei en small =
      let long = length-append pre (byte ∷ bytes) in
      let more = length-append pre (byte ∷ []) in
      let set = is_set t in
      let it = hashes (pre ++ byte ∷ []) bytes (with_item h (pos byte)) (i + 1) n (Flag true) (Byte byte) (Word (pos byte)) (Word (int_bit_xor w64 h (pos byte))) (Word (with_item h (pos byte))) (Word (pos (i + 1)))
      (subst (IsText core.blocks core.statics x) (sym (append_assoc pre (byte ∷ []) bytes)) t) (omega (arith, ei, more)) (en ∙ ap length (sym (append_assoc pre (byte ∷ []) bytes))) small in
      record {
        end = it.end;
        same = it.same;
        leads =
            on (gives (Flag true) (less_true i n (omega (arith, ei, en, long)))) (on (many 1 graph refl (simp set))
            (on (gets_byte i byte texts t refl (get_mid pre byte bytes i ei)) (on (many 3 graph refl refl)
            (on (gives (Word (pos (i + 1))) (adds i 1 (omega (arith, ei, en, long, small)))) (on (many 1 graph refl (simp set)) it.leads)))));
      }

  pub text_hashed : (bytes : List ℕ) → IsText core.blocks core.statics x bytes → Comes p args (Calling f (x ∷ []) waits core) [] (Word (mixed (with_bytes (pos 0) bytes))) waits core
  unfolding text_graph text_blocks text_types text_start text_asks text_turn text_mixed
  text_hashed bytes t =
      let it = hashes [] bytes (pos 0) 0 (length bytes) Unset Unset Unset Unset Unset Unset t refl refl t.short in
      record { end = it.end; same = it.same; leads = on (enter graph refl) (on (gets_length texts t) (on (many 1 graph refl (simp (is_set t))) it.leads)) }
