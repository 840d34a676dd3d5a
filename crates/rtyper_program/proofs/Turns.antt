-- What is taken from the end.
use Rattle.std.proofs.Common.{◌≡◌, ℕ, ◌-◌, ◌==◌, true, false, length, List, [], ◌∷◌, ◌++◌, reverse, refl, sym, ap, ◌∙◌, append_assoc}
use Rattle.std.proofs.lemmas.List.{reverse-append}
use Rattle.ll_code.specs.declared.program.LlOp.{LlOp}
use Rattle.ll_code.specs.declared.program.LlLink.{LlLink}
use Rattle.flow_graph.specs.declared.graph.Link.{Link}
use Rattle.rtyper_data.specs.declared.body.Body.{Body}
use Rattle.rtyper_data.specs.declared.found.Found.{Found}
use Rattle.rtyper_program.specs.declared.cuts.Pieces.{Pieces}
use Rattle.rtyper_program.specs.declared.extra.Extra.{Extra}
use Rattle.rtyper_program.specs.declared.links.Caught.{Caught}
use Rattle.rtyper_program.specs.Cuts.{cut_before, cut_into, ends, piece, pieces, pieces_from, with_piece}
use Rattle.rtyper_program.specs.Handlers.{Work, handler, handlers}
use Rattle.rtyper_program.specs.Seen.{Lowered}

-- the last one of what is left stands first in the other order
pub last_first : {A : Type 0} (made left : List A) (x : A) → (made ++ x ∷ []) ++ reverse left ≡ made ++ reverse (left ++ x ∷ [])
last_first made left x = append_assoc made (x ∷ []) (reverse left) ∙ ap (λ l. made ++ l) (sym (reverse-append left (x ∷ [])))

-- the test of the last handler is made first
pub last_hand : (l : Lowered) (caught : Caught) (before : List (ℕ × Link)) (hand : ℕ × Link) (next : LlLink × Work)
    → handlers l caught (before ++ hand ∷ []) next ≡ handlers l caught before (handler l caught hand next)
last_hand l caught [] hand next = refl
last_hand l caught (h ∷ before) hand next = ap (handler l caught h) (last_hand l caught before hand next)

pub next_piece : (found : Found) (least : ℕ) (left : List LlOp) (o : LlOp) (p : Pieces)
    → pieces_from found least (reverse (left ++ o ∷ [])) p ≡ pieces_from found (least - 1) (reverse left) (with_piece o (ends found least o) p)
next_piece found least left o p = ap (λ ops. pieces_from found least ops p) (reverse-append left (o ∷ []))

-- the block of the last piece is made first
block_last : (v : ℕ) (by : LlLink) (before : List (List LlOp)) (ops : List LlOp) (next : LlLink × Extra)
    → pieces v by (before ++ ops ∷ []) next ≡ pieces v by before (piece v by ops next)
block_last v by [] ops next = refl
block_last v by (p ∷ before) ops next = ap (piece v by p) (block_last v by before ops next)

pub last_piece : (v : ℕ) (by : LlLink) (before : List (List LlOp)) (ops : List LlOp) (next : LlLink × Extra) (body : Body) → (length before == 0) ≡ false
    → cut_into v by (before ++ ops ∷ []) next body ≡ cut_into v by before (piece v by ops next) body
last_piece v by [] ops next body h = absurd (let f : true ≡ false = h in cc)
last_piece v by (first ∷ before) ops next body h = ap (λ n. cut_before v by first n body) (block_last v by before ops next)

pub only_piece : (v : ℕ) (by : LlLink) (ops : List LlOp) (next : LlLink × Extra) (body : Body)
    → cut_into v by ([] ++ ops ∷ []) next body ≡ cut_before v by ops next body
only_piece v by ops next body = refl
