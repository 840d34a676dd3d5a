-- Strings are read.
use Rattle.std.proofs.Common.{◌≡◌, ◌<◌, ℕ, zero, suc, ◌+◌, ◌==◌, true, false, List, [], ◌∷◌, ◌++◌, length, map, Option, Some, Ok, Err, pos, refl, ap, ◌∙◌, arith}
use Rattle.std.proofs.lemmas.List.{length-map}
use Rattle.std.proofs.lemmas.Bool.Decides.{nat_tests}
use Rattle.std.specs.Prelude.{slice_get, slice_set, cond, nat_lt}
use Rattle.csub_tree.specs.State.{Value, Unset, Word, Byte, Flag, Fun, Null, Ptr, Static, Block, Core, Stuck}
use Rattle.csub_tree.specs.Layout.{Shape, shape_at, begins_with, is_among, place}
use Rattle.csub_tree.specs.Operation.{is_unset, compared}
use Rattle.csub_tree.specs.Statement.{read, operand, block_at, as_struct, reached, on_block, set, item, get_item}
use Rattle.csub_tree.specs.declared.stuck.StuckReason.TheVariants.{Outside, Kind, Unset as IsUnset}
use Rattle.csub_tree.specs.declared.tree.COperand.{COperand}
use Rattle.ll_code.specs.State.{Frame, At}
use Rattle.ll_code.specs.Machine.{shapes_of}
use Rattle.ll_code.specs.declared.program.LlOp.{LlOp}
use Rattle.ll_code.specs.declared.program.LlOp.TheVariants as op
use Rattle.ll_code.specs.declared.program.LlExit.{LlExit}
use Rattle.ll_code.specs.declared.program.LlProgram.{LlProgram}
use Rattle.ll_leads.specs.Path.{Leads}
use Rattle.ll_leads.proofs.Ways.{gets_field, gets_item}
use Rattle.ll_texts.specs.Texts.{counted_shape, text_block, found, IsText, HasText}

-- ---- a pointer to a string

module _ (blocks : List (Option Block)) (statics : List Block) where
  there : (x : Value) (bytes : List ℕ) → found blocks statics x ≡ Some (text_block bytes) → is_unset x ≡ false
  there Unset bytes e = absurd (cc)
  there other bytes e = refl

  apart : (x : Value) (bytes : List ℕ) → found blocks statics x ≡ Some (text_block bytes) → compared x Null ≡ Ok (Flag false)
  apart Unset bytes e = absurd (cc)
  apart (Word z) bytes e = absurd (cc)
  apart (Byte b) bytes e = absurd (cc)
  apart (Flag b) bytes e = absurd (cc)
  apart (Fun f) bytes e = absurd (cc)
  apart Null bytes e = absurd (cc)
  apart (Ptr n) bytes e = refl
  apart (Static g) bytes e = refl

module _ {blocks : List (Option Block)} {statics : List Block} where
  -- it is set, and not NULL
  pub is_set : {x : Value} {bytes : List ℕ} → IsText blocks statics x bytes → is_unset x ≡ false
  is_set {x = x} {bytes = bytes} t = there blocks statics x bytes t.is

  pub is_there : {x : Value} {bytes : List ℕ} → IsText blocks statics x bytes → compared x Null ≡ Ok (Flag false)
  is_there {x = x} {bytes = bytes} t = apart blocks statics x bytes t.is

pub found_at : (core : Core) (x : Value) → block_at core x ≡ found core.blocks core.statics x
found_at core (Ptr n) = refl
found_at core (Static g) = refl
found_at core Unset = refl
found_at core (Word z) = refl
found_at core (Byte b) = refl
found_at core (Flag b) = refl
found_at core (Fun f) = refl
found_at core Null = refl

begins_itself : (n : ℕ) (shapes : List Shape) → shape_at shapes n ≡ counted_shape n → begins_with shapes n n ≡ true
begins_itself n shapes h = ap (λ (s : Shape). is_among n s.bases) h ∙ ap (λ b. cond b true false) (let e : (n == n) ≡ true = grind (arith, nat_tests) in e)

-- the block of a struct that has a count
pub reach : (p : LlProgram) (core : Core) (x : Value) (n : ℕ) (block : Block) → is_unset x ≡ false → block_at core x ≡ Some block → block.kind ≡ n → shape_at (shapes_of p.structs) n ≡ counted_shape n → reached core (shapes_of p.structs) n x ≡ Ok block
reach p core x n block u is kind shape =
    ap (λ b. cond b (Err IsUnset) (as_struct (shapes_of p.structs) n (block_at core x))) u ∙ ap (as_struct (shapes_of p.structs) n) is
    ∙ ap (λ b. cond b (Ok block) (Err Kind)) (ap (λ m. begins_with (shapes_of p.structs) m n) kind ∙ begins_itself n (shapes_of p.structs) shape)

pub reach_text : (p : LlProgram) (core : Core) (x : Value) (bytes : List ℕ) → HasText p → IsText core.blocks core.statics x bytes → reached core (shapes_of p.structs) 0 x ≡ Ok (text_block bytes)
reach_text p core x bytes h t = reach p core x 0 (text_block bytes) (is_set t) (found_at core x ∙ t.is) refl h

-- ---- items

pub byte_read : (bytes : List ℕ) (k b : ℕ) → slice_get bytes k ≡ Some b → read (map Byte bytes) k ≡ Byte b
byte_read [] k b e = absurd (cc)
byte_read (c ∷ bytes) zero b e = (let q : c ≡ b = cc in ap Byte q)
byte_read (c ∷ bytes) (suc k) b e = byte_read bytes k b e

pub below_length : {A : Type 0} (xs : List A) (k : ℕ) (x : A) → slice_get xs k ≡ Some x → k < length xs
below_length [] k x e = absurd (cc)
below_length (y ∷ xs) zero x e = omega arith
below_length (y ∷ xs) (suc k) x e = omega (arith, below_length xs k x e)

pub get_mid : {A : Type 0} (pre : List A) (x : A) (post : List A) (k : ℕ) → k ≡ length pre → slice_get (pre ++ x ∷ post) k ≡ Some x
get_mid [] x post zero e = refl
get_mid [] x post (suc k) e = absurd (omega (arith, e))
get_mid (y ∷ pre) x post zero e = absurd (omega (arith, e))
get_mid (y ∷ pre) x post (suc k) e = get_mid pre x post k (omega (arith, e))

module _ {p : LlProgram} {args : List (List ℕ)} {ops : List LlOp} {e : LlExit} {frames : List Frame} {core : Core} where
  -- its length
  pub gets_length : {a b : ℕ} {bytes : List ℕ} → HasText p → IsText core.blocks core.statics (read core.vars b) bytes
      → Leads p args 0 (At (op.GetField a 0 b 0 ∷ ops) e frames core) [] (At ops e frames (record core { at = core.at + 1; vars = slice_set core.vars a (Word (pos (length bytes))) }))
  gets_length {a = a} {b = b} {bytes = bytes} h t = gets_field (Word (pos (length bytes)))
      (ap (on_block (λ block. set core a (read block.fields (place (shape_at (shapes_of p.structs) 0) 0)))) (reach_text p core (read core.vars b) bytes h t)
      ∙ ap (λ (s : Shape). set core a (read (Word (pos (length bytes)) ∷ []) (place s 0))) h)

  -- a byte at a place that is there
  pub gets_byte : {a b : ℕ} {i : COperand} {bytes : List ℕ} (k byte : ℕ) → HasText p → IsText core.blocks core.statics (read core.vars b) bytes → operand core.vars i ≡ Word (pos k) → slice_get bytes k ≡ Some byte
      → Leads p args 0 (At (op.GetItem a 0 b i ∷ ops) e frames core) [] (At ops e frames (record core { at = core.at + 1; vars = slice_set core.vars a (Byte byte) }))
  gets_byte {a = a} {b = b} {bytes = bytes} k byte h t j g =
      let items : List Value = map Byte bytes in
      let inside : nat_lt k (length items) ≡ true = (let l : length items ≡ length bytes = length-map bytes Byte in let m : k < length bytes = below_length bytes k byte g in grind (arith, nat_tests, l, m)) in
      gets_item (Byte byte)
      (ap (λ v. get_item core (shapes_of p.structs) a 0 (read core.vars b) v) j
      ∙ ap (on_block (λ block. item core a block.items (pos k))) (reach_text p core (read core.vars b) bytes h t)
      ∙ ap (λ c. cond c (set core a (read items k)) (Stuck Outside)) inside
      ∙ ap (set core a) (byte_read bytes k byte g))
