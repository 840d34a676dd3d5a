-- The string of a part of a string.
use Rattle.std.proofs.Common.{◌≡◌, ◌<◌, ℕ, zero, suc, ◌+◌, ◌^◌, true, false, List, [], ◌∷◌, ◌++◌, length, map, Some, pos, refl, sym, ap, ◌∙◌, subst, arith, length-append}
use Rattle.std.proofs.Math.ListN.{length-replicate}
use Rattle.std.proofs.lemmas.Bool.Decides.{nat_tests}
use Rattle.std.proofs.lemmas.List.{append-nil}
use Rattle.std.specs.Prelude.{slice_get, slice_set, cond, nat_lt, replicate}
use Rattle.rpy_tree.specs.Value.{Text}
use Rattle.rpy_meaning.specs.World.{World, new_text, give}
use Rattle.csub_tree.specs.State.{Value, Unset, Word, Byte, Flag, Static, Block, Core, Stuck}
use Rattle.csub_tree.specs.Layout.{Shape}
use Rattle.csub_tree.specs.Statement.{read, operand, set, item, get_item, on_block}
use Rattle.csub_tree.specs.declared.stuck.StuckReason.TheVariants.{Outside}
use Rattle.csub_tree.specs.declared.tree.COperand.{COperand}
use Rattle.ll_code.specs.State.{Frame, Calling, At}
use Rattle.ll_code.specs.Machine.{shapes_of}
use Rattle.ll_code.specs.declared.program.LlType.TheVariants as type
use Rattle.ll_code.specs.declared.program.LlOp.{LlOp}
use Rattle.ll_code.specs.declared.program.LlOp.TheVariants as op
use Rattle.ll_code.specs.declared.program.LlExit.{LlExit}
use Rattle.ll_code.specs.declared.program.LlProgram.{LlProgram}
use Rattle.ll_leads.specs.Path.{Leads}
use Rattle.ll_leads.specs.Memory.{forgotten}
use Rattle.ll_leads.proofs.Ways.{on, many, enter, gives, pays, makes, call, gets_item}
use Rattle.ll_texts.specs.Texts.{IsText, AreBytes, HasText, HasStatics}
use Rattle.ll_texts.specs.Stands.{text}
use Rattle.ll_texts.specs.Follows.{Follows, Gave, Lacked}
use Rattle.ll_texts.proofs.Reading.{is_set, reach, gets_byte, get_mid}
use Rattle.ll_texts.proofs.Writing.{part_block, writes_length}
use Rattle.ll_texts.proofs.Numbers.{less_true, less_false}
use Rattle.ll_helpers.specs.Loops.{copy_bytes}
use Rattle.ll_helpers.specs.StringsMake.{string_part}
use Rattle.ll_strings.proofs.Copying.{copies}
use Rattle.ll_strings.proofs.Results.{by_paying, gave_left, gave_new, stops}

-- ---- bytes

pub bytes_first : (xs ys : List ℕ) → AreBytes (xs ++ ys) → AreBytes xs
bytes_first [] ys h = tt
bytes_first (x ∷ xs) ys (h, hs) = (h, bytes_first xs ys hs)

pub bytes_second : (xs ys : List ℕ) → AreBytes (xs ++ ys) → AreBytes ys
bytes_second [] ys h = h
bytes_second (x ∷ xs) ys (h, hs) = bytes_second xs ys hs

pub bytes_both : (xs ys : List ℕ) → AreBytes xs → AreBytes ys → AreBytes (xs ++ ys)
bytes_both [] ys h k = k
bytes_both (x ∷ xs) ys (h, hs) k = (h, bytes_both xs ys hs k)

-- a byte's string, in the table
module _ {p : LlProgram} {args : List (List ℕ)} {ops : List LlOp} {e : LlExit} {frames : List Frame} {core : Core} where
  pub gets_single : {a b : ℕ} {i : COperand} (table byte : ℕ) → HasStatics p table core.statics → read core.vars b ≡ Static 257 → operand core.vars i ≡ Word (pos byte) → byte < 256
      → Leads p args 0 (At (op.GetItem a table b i ∷ ops) e frames core) [] (At ops e frames (record core { at = core.at + 1; vars = slice_set core.vars a (Static (byte + 1)) }))
  gets_single {a = a} {i = i} table byte h t j small =
      let block : Block = record { kind = table; fields = Word (pos 256) ∷ []; items = h.strings } in
      let inside : nat_lt byte (length h.strings) ≡ true = (let l : length h.strings ≡ 256 = h.count in grind (arith, nat_tests, l, small)) in
      gets_item (Static (byte + 1))
      (ap (λ v. get_item core (shapes_of p.structs) a table v (operand core.vars i)) t
      ∙ ap (λ v. get_item core (shapes_of p.structs) a table (Static 257) v) j
      ∙ ap (on_block (λ block. item core a block.items (pos byte))) (reach p core (Static 257) table block refl h.listed refl h.shape)
      ∙ ap (λ c. cond c (set core a (read h.strings byte)) (Stuck Outside)) inside
      ∙ ap (set core a) (h.each byte small))

module _ (p : LlProgram) (args : List (List ℕ)) (part table copy : ℕ) (of : slice_get p.graphs part ≡ Some (string_part table copy)) (copy_of : slice_get p.graphs copy ≡ Some copy_bytes) (texts : HasText p) where
  module _ (frames : List Frame) (core : Core) (x : Value) (pre xs post : List ℕ) (t : IsText core.blocks core.statics x (pre ++ (xs ++ post))) where
    part_lacks : (n : ℕ) → core.steps ≡ n → n < 1 + length xs → Lacked p args (Calling part (x ∷ Word (pos (length pre)) ∷ Word (pos (length xs)) ∷ []) frames core) core
    part_lacks zero e h = stops 1 (enter of refl) refl (omega (arith, e)) refl (λ b k. k)
    part_lacks (suc n) e h = stops (length xs) (on (enter of refl) (pays 1 n refl (omega (arith, e)))) refl (omega (arith, h)) refl (λ b k. k)

  module _ (frames : List Frame) (core : Core) (x : Value) (left : ℕ) (statics : HasStatics p table core.statics) (w : World) where
    -- what is made once all is paid
    part_paid : (pre xs post : List ℕ) → IsText core.blocks core.statics x (pre ++ (xs ++ post)) → core.steps ≡ (1 + length xs) + left
        → Gave p args (Calling part (x ∷ Word (pos (length pre)) ∷ Word (pos (length xs)) ∷ []) frames core) frames core (type.Ptr 0) w (Text xs) (record w { left = left })
    part_paid pre [] post t e =
        gave_left left
        (on (enter of refl) (on (pays 1 left refl (omega (arith, e))) (on (pays 0 left refl (omega arith)) (on (gives (Flag true) (less_true 0 2 (omega arith))) (on (many 1 of refl (simp (is_set t))) (on (gives (Flag true) (less_true 0 1 (omega arith))) (many 2 of refl refl)))))))
        refl (text (Static 0) [] (record { is = statics.empty; short = omega arith; small = tt }))
    part_paid pre (c ∷ []) post t e =
        let small : c < 256 = (bytes_second pre (c ∷ post) t.small).0 in
        gave_left left
        (on (enter of refl) (on (pays 1 (1 + left) refl (omega (arith, e))) (on (pays 1 left refl refl) (on (gives (Flag true) (less_true 1 2 (omega arith))) (on (many 1 of refl (simp (is_set t)))
        (on (gives (Flag false) (less_false 1 1 (omega arith))) (on (many 1 of refl (simp (is_set t)))
        (on (gets_byte (length pre) c texts t refl (get_mid pre c post (length pre) refl)) (on (many 2 of refl refl)
        (on (gets_single table c statics refl refl small) (many 1 of refl refl)))))))))))
        refl (text (Static (c + 1)) (c ∷ []) (record { is = statics.singles c small; short = omega arith; small = (small, tt) }))
    part_paid pre (c ∷ d ∷ xs) post t e =
        let all : List ℕ = c ∷ d ∷ xs in
        let k : ℕ = length all in
        let whole : length (pre ++ (all ++ post)) ≡ length pre + (k + length post) = length-append pre (all ++ post) ∙ ap (λ n. length pre + n) (length-append all post) in
        let short : length (pre ++ (all ++ post)) < 2 ^ 63 = t.short in
        gave_new left all
        (on (enter of refl) (on (pays 1 (k + left) refl (omega (arith, e))) (on (pays k left refl refl) (on (gives (Flag false) (less_false k 2 (omega arith))) (on (many 1 of refl (simp (is_set t)))
        (on (makes k 1 refl (ap (λ (s : Shape). s.size) texts))
        (on (writes_length core.blocks Unset (replicate k Unset) (pos k) texts refl refl refl)
        (on (call (simp (is_set t)) (λ waits. copies p args copy copy_of texts waits _ core.blocks x (Word (pos k) ∷ []) pre all post [] (replicate k Unset) [] (length pre) 0 k
        (ap (λ l. core.blocks ++ Some (part_block (Word (pos k) ∷ []) l) ∷ []) (sym (append-nil (replicate k Unset)))) t (length-replicate k Unset) refl refl refl (omega (arith, whole, short)) (omega (arith, whole, short))))
        (many 1 of refl refl)))))))))
        (ap (λ l. forgotten (record core { blocks = core.blocks ++ Some (part_block (Word (pos k) ∷ []) l) ∷ []; steps = left })) (append-nil (map Byte all)))
        (omega (arith, whole, short)) (bytes_first all post (bytes_second pre (all ++ post) t.small))

  -- it costs a step and one for each byte
  pub part_is : (frames : List Frame) (core : Core) (w : World) (x : Value) (pre xs post : List ℕ) → w.left ≡ core.steps → HasStatics p table core.statics → IsText core.blocks core.statics x (pre ++ (xs ++ post))
      → Follows p args (Calling part (x ∷ Word (pos (length pre)) ∷ Word (pos (length xs)) ∷ []) frames core) frames core (type.Ptr 0) w (new_text xs w)
  part_is frames core w x pre xs post left statics t =
      by_paying frames (type.Ptr 0) w (1 + length xs) (give (Text xs)) (λ h. part_lacks frames core x pre xs post t core.steps refl (omega (arith, h, left)))
      (λ n e. part_paid frames core x n statics w pre xs post t (sym left ∙ e))

  -- the same, by numbers
  pub part_at : (frames : List Frame) (core : Core) (w : World) (x : Value) (pre xs post : List ℕ) (i k : ℕ) → i ≡ length pre → k ≡ length xs → w.left ≡ core.steps → HasStatics p table core.statics → IsText core.blocks core.statics x (pre ++ (xs ++ post))
      → Follows p args (Calling part (x ∷ Word (pos i) ∷ Word (pos k) ∷ []) frames core) frames core (type.Ptr 0) w (new_text xs w)
  part_at frames core w x pre xs post i k ei ek left statics t =
      subst (λ n. Follows p args (Calling part (x ∷ Word (pos n) ∷ Word (pos k) ∷ []) frames core) frames core (type.Ptr 0) w (new_text xs w)) (sym ei)
      (subst (λ n. Follows p args (Calling part (x ∷ Word (pos (length pre)) ∷ Word (pos n) ∷ []) frames core) frames core (type.Ptr 0) w (new_text xs w)) (sym ek)
      (part_is frames core w x pre xs post left statics t))
