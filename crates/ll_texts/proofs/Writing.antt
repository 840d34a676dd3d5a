-- Strings are written, into the newest block.
use Rattle.std.proofs.Common.{◌≡◌, ◌<◌, ℕ, zero, suc, ◌+◌, true, List, [], ◌∷◌, ◌++◌, length, Option, Some, None, ℤ, pos, refl, ap, ◌∙◌, arith}
use Rattle.std.proofs.lemmas.Bool.Decides.{nat_tests}
use Rattle.std.specs.Prelude.{slice_set, slice_index_or, cond, nat_lt}
use Rattle.csub_tree.specs.State.{Value, Word, Byte, Ptr, Static, Block, Core, Onward, Stuck}
use Rattle.csub_tree.specs.Layout.{Shape, shape_at, place}
use Rattle.csub_tree.specs.Statement.{read, operand, on_block, stored, set_field, set_item, put_item}
use Rattle.csub_tree.specs.declared.stuck.StuckReason.TheVariants.{Outside}
use Rattle.csub_tree.specs.declared.tree.COperand.{COperand}
use Rattle.ll_code.specs.State.{Frame, At}
use Rattle.ll_code.specs.Machine.{shapes_of}
use Rattle.ll_code.specs.declared.program.LlOp.{LlOp}
use Rattle.ll_code.specs.declared.program.LlOp.TheVariants as op
use Rattle.ll_code.specs.declared.program.LlExit.{LlExit}
use Rattle.ll_code.specs.declared.program.LlProgram.{LlProgram}
use Rattle.ll_held.specs.Held.{is_reference}
use Rattle.ll_leads.specs.Path.{Leads}
use Rattle.ll_leads.proofs.Ways.{sets_field, sets_item}
use Rattle.ll_texts.specs.Texts.{text_block, found, IsText, HasText}
use Rattle.ll_texts.proofs.Reading.{reach, below_length, get_mid}

-- ---- places

module _ {A : Type 0} where
  pub newest : (bs : List A) (b d : A) → slice_index_or (bs ++ b ∷ []) (length bs) d ≡ b
  newest [] b d = refl
  newest (c ∷ bs) b d = newest bs b d

  pub put_newest : (bs : List A) (b c : A) → slice_set (bs ++ b ∷ []) (length bs) c ≡ bs ++ c ∷ []
  put_newest [] b c = refl
  put_newest (x ∷ bs) b c = ap (λ l. x ∷ l) (put_newest bs b c)

  pub put_mid : (pre : List A) (x : A) (post : List A) (k : ℕ) (y : A) → k ≡ length pre → slice_set (pre ++ x ∷ post) k y ≡ pre ++ y ∷ post
  put_mid [] x post zero y e = refl
  put_mid [] x post (suc k) y e = absurd (omega (arith, e))
  put_mid (z ∷ pre) x post zero y e = absurd (omega (arith, e))
  put_mid (z ∷ pre) x post (suc k) y e = ap (λ l. z ∷ l) (put_mid pre x post k y (omega (arith, e)))

index_more : (bs more : List (Option Block)) (n : ℕ) (b : Block) → slice_index_or bs n None ≡ Some b → slice_index_or (bs ++ more) n None ≡ Some b
index_more [] more n b e = absurd (cc)
index_more (c ∷ bs) more zero b e = e
index_more (c ∷ bs) more (suc n) b e = index_more bs more n b e

found_more : (bs more : List (Option Block)) (statics : List Block) (x : Value) (b : Block) → found bs statics x ≡ Some b → found (bs ++ more) statics x ≡ Some b
found_more bs more statics (Ptr n) b e = index_more bs more n b e
found_more bs more statics (Static g) b e = e
found_more bs more statics other b e = absurd (cc)

-- blocks that are made later change no string
pub text_stays : {bs : List (Option Block)} {statics : List Block} {x : Value} {bytes : List ℕ} (more : List (Option Block)) → IsText bs statics x bytes → IsText (bs ++ more) statics x bytes
text_stays {bs = bs} {statics = statics} {x = x} {bytes = bytes} more t = record { is = found_more bs more statics x (text_block bytes) t.is; short = t.short; small = t.small }

-- ---- a block that is being written

abbrev pub part_block : List Value → List Value → Block
part_block fields items = record { kind = 0; fields = fields; items = items }

module _ {p : LlProgram} {args : List (List ℕ)} {ops : List LlOp} {e : LlExit} {frames : List Frame} {core : Core} where
  -- its length
  pub writes_length : {b : ℕ} {x : COperand} (bs : List (Option Block)) (old : Value) (items : List Value) (z : ℤ) → HasText p → core.blocks ≡ bs ++ Some (part_block (old ∷ []) items) ∷ [] → read core.vars b ≡ Ptr (length bs) → operand core.vars x ≡ Word z
      → Leads p args 0 (At (op.SetField 0 b 0 x ∷ ops) e frames core) [] (At ops e frames (record core { at = core.at + 1; blocks = bs ++ Some (part_block (Word z ∷ []) items) ∷ [] }))
  writes_length {b = b} {x = x} bs old items z h at to is =
      let block : Block = part_block (old ∷ []) items in
      sets_field (bs ++ Some (part_block (Word z ∷ []) items) ∷ []) (ap is_reference is)
      (ap (λ v. set_field core (shapes_of p.structs) 0 v 0 (operand core.vars x)) to
      ∙ ap (λ v. set_field core (shapes_of p.structs) 0 (Ptr (length bs)) 0 v) is
      ∙ ap (on_block (λ block. stored core (Ptr (length bs)) (record block { fields = slice_set block.fields (place (shape_at (shapes_of p.structs) 0) 0) (Word z) })))
      (reach p core (Ptr (length bs)) 0 block refl (ap (λ l. slice_index_or l (length bs) None) at ∙ newest bs (Some block) None) refl h)
      ∙ ap (λ (s : Shape). stored core (Ptr (length bs)) (part_block (slice_set (old ∷ []) (place s 0) (Word z)) items)) h
      ∙ ap (λ l. Onward (record core { at = core.at + 1; blocks = l })) (ap (λ l. slice_set l (length bs) (Some (part_block (Word z ∷ []) items))) at ∙ put_newest bs (Some block) (Some (part_block (Word z ∷ []) items))))

  -- a byte
  pub writes_byte : {b : ℕ} {i x : COperand} (bs : List (Option Block)) (fields pre post : List Value) (old : Value) (k byte : ℕ) (after : List (Option Block)) → HasText p → core.blocks ≡ bs ++ Some (part_block fields (pre ++ old ∷ post)) ∷ [] → read core.vars b ≡ Ptr (length bs) → operand core.vars i ≡ Word (pos k) → k ≡ length pre → operand core.vars x ≡ Byte byte
      → bs ++ Some (part_block fields (pre ++ Byte byte ∷ post)) ∷ [] ≡ after
      → Leads p args 0 (At (op.SetItem 0 b i x ∷ ops) e frames core) [] (At ops e frames (record core { at = core.at + 1; blocks = after }))
  writes_byte {b = b} {i = i} {x = x} bs fields pre post old k byte after h at to place is what so =
      let items : List Value = pre ++ old ∷ post in
      let block : Block = part_block fields items in
      let inside : nat_lt k (length items) ≡ true = (let m : k < length items = below_length items k old (get_mid pre old post k is) in grind (arith, nat_tests, m)) in
      sets_item after (ap is_reference what)
      (ap (λ v. set_item core (shapes_of p.structs) 0 v (operand core.vars i) (operand core.vars x)) to
      ∙ ap (λ v. set_item core (shapes_of p.structs) 0 (Ptr (length bs)) v (operand core.vars x)) place
      ∙ ap (λ v. set_item core (shapes_of p.structs) 0 (Ptr (length bs)) (Word (pos k)) v) what
      ∙ ap (on_block (λ block. put_item core (Ptr (length bs)) block (pos k) (Byte byte)))
      (reach p core (Ptr (length bs)) 0 block refl (ap (λ l. slice_index_or l (length bs) None) at ∙ newest bs (Some block) None) refl h)
      ∙ ap (λ c. cond c (stored core (Ptr (length bs)) (part_block fields (slice_set items k (Byte byte)))) (Stuck Outside)) inside
      ∙ ap (λ l. Onward (record core { at = core.at + 1; blocks = l }))
      (ap (λ l. slice_set l (length bs) (Some (part_block fields (slice_set items k (Byte byte))))) at ∙ put_newest bs (Some block) (Some (part_block fields (slice_set items k (Byte byte))))
      ∙ ap (λ l. bs ++ Some (part_block fields l) ∷ []) (put_mid pre old post k (Byte byte) is) ∙ so))
