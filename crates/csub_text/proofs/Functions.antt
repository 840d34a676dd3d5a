-- Functions are read as they are spelled.
use Rattle.std.proofs.Common.{◌≡◌, ℕ, zero, suc, ◌+◌, ◌<◌, ◌≤◌, ◌&&◌, Bool, true, false, cond, List, [], ◌∷◌, ◌++◌, Option, Some, refl, ap, ◌∙◌, arith, sym, subst, append_assoc, length, length-append, codes, take}
use Rattle.std.specs.List.{flat_map}
use Rattle.std.specs.Fmt.{decimal}
use Rattle.csub_tree.specs.declared.tree.CType.{CType}
use Rattle.csub_tree.specs.declared.tree.CFunction.{CFunction}
use Rattle.csub_tree.specs.declared.tree.CStmt.{CStmt}
use Rattle.csub_tree.specs.Checked.{is_name_byte, is_name}
use Rattle.csub_tree.specs.Spelling as spell
use Rattle.csub_text.specs.Written.{All, IsType, IsTypeIfAny, IsStatement, IsClosed, IsBlock, IsSomeBlocks, IsFunction}
use Rattle.csub_text.specs.Read.{Got, begins}
use Rattle.csub_text.specs.ReadFile as of
use Rattle.csub_text.specs.ReadFile.{parts_while, some_while, parameter, head, statements, name_len, function_name, name_line, heading, local_line, local_lines, block, blocks, insides, function}
use Rattle.csub_text.proofs.Numbers.{ends, stripped_own}
use Rattle.csub_text.proofs.Statements.{statement_own, two, three}
use Rattle.csub_text.proofs.Declarations.{Counted, all_own, some_own, longer, parameter_own, head_own, parts_fit, ends_parts}

-- ---- blocks

pub statement_line_own : (s : CStmt) (r : List ℕ) → IsStatement s → of.statement_line (spell.statement_line s ++ r) ≡ Some (s, r)
statement_line_own s r ok =
    ap of.statement_line (three (codes "    ") (spell.statement_text s) (codes "\n") r) ∙ rw (statement_own s (codes "\n" ++ r) ok) refl

statements_own : (f : ℕ) (ss : List CStmt) (r : List ℕ) → length ss ≤ f → All IsStatement ss → IsClosed ss → statements f (flat_map spell.statement_line ss ++ r) ≡ Some (ss, r)
unfolding statements
statements_own f [] r few all closed = absurd closed
statements_own zero (s ∷ ss) r few all closed = absurd (omega arith)
statements_own (suc f) (s ∷ []) r few all closed =
    ap (statements (suc f)) (two (spell.statement_line s) [] r) ∙ rw (statement_line_own s r all.0, closed) refl
statements_own (suc f) (s ∷ t ∷ ss) r few all closed =
    ap (statements (suc f)) (two (spell.statement_line s) (flat_map spell.statement_line (t ∷ ss)) r)
    ∙ rw (statement_line_own s (flat_map spell.statement_line (t ∷ ss) ++ r) all.0, closed.0, statements_own f (t ∷ ss) r (omega arith) all.1 closed.1) refl

statements_fit : (ss : List CStmt) (r : List ℕ) → length ss ≤ length (flat_map spell.statement_line ss ++ r)
statements_fit [] r = omega arith
statements_fit (s ∷ ss) r =
    let e : (spell.statement_line s ++ flat_map spell.statement_line ss) ++ r ≡ spell.statement_line s ++ (flat_map spell.statement_line ss ++ r) = two (spell.statement_line s) (flat_map spell.statement_line ss) r in
    let more = longer (spell.statement_text s) (flat_map spell.statement_line ss ++ r) in
    let before : length ss ≤ length (flat_map spell.statement_line ss ++ r) = statements_fit ss r in
    subst (λ i. suc (length ss) ≤ length i) (sym e) (omega arith)

block_pieces : (b n c l s r : List ℕ) → (((b ++ n) ++ c ++ l) ++ s) ++ r ≡ b ++ (n ++ (c ++ (l ++ (s ++ r))))
block_pieces b n c l s r = simp append_assoc

block_own : (k : ℕ) (ss : List CStmt) (r : List ℕ) → IsBlock ss → block k (spell.block_text k ss ++ r) ≡ Some (ss, r)
unfolding block
block_own k ss r ok =
    ap (block k) (block_pieces (codes "b") (decimal k) (codes ":") (codes "\n") (flat_map spell.statement_line ss) r)
    ∙ rw (
      stripped_own (decimal k) (codes ":\n" ++ (flat_map spell.statement_line ss ++ r)),
      statements_own (length (flat_map spell.statement_line ss ++ r)) ss r (statements_fit ss r) ok.0 ok.1,
    ) refl

longer_block : (k : ℕ) (ss : List CStmt) (r : List ℕ) → suc (length r) ≤ length (spell.block_text k ss ++ r)
longer_block k ss r =
    let e : length (spell.block_text k ss ++ r) ≡ length (spell.block_text k ss) + length r = length-append (spell.block_text k ss) r in
    omega (arith, e)

blocks_counted : Counted (begins (codes "b")) spell.block_text block IsBlock
blocks_counted = record {
  one = λ k ss r ok e. block_own k ss r ok;
  sees = λ k ss r ok e. refl;
  open_end = λ k ss r. refl;
  some = λ k ss r. longer_block k ss r;
}

-- one or more parts, of which the first is read whatever the test says
pub first_own : {A : Type 0} (test : List ℕ → Bool) (text : ℕ → A → List ℕ) (read : ℕ → List ℕ → Got A) (ok : A → Type 0) → Counted test text read ok
    → (f : ℕ) (x : A) (xs : List A) (r : List ℕ) → length xs < f → All ok (x ∷ xs) → ends r ≡ true → test r ≡ false → some_while test read (suc f) 0 true (spell.numbered text 0 (x ∷ xs) ++ r) ≡ Some (x ∷ xs, r)
unfolding some_while
first_own test text read ok h f x xs r few all e done =
    ap (some_while test read (suc f) 0 true) (two (text 0 x) (spell.numbered text 1 xs) r)
    ∙ rw (h.one 0 x (spell.numbered text 1 xs ++ r) all.0 (ends_parts test text read ok h 1 xs r e), some_own test text read ok h f 1 false xs r few all.1 e done refl) refl

-- the same with as many turns as there are bytes
pub whole_own : {A : Type 0} (test : List ℕ → Bool) (text : ℕ → A → List ℕ) (read : ℕ → List ℕ → Got A) (ok : A → Type 0) → Counted test text read ok
    → (n : ℕ) (x : A) (xs : List A) (r : List ℕ) → n ≡ length (spell.numbered text 0 (x ∷ xs) ++ r) → suc (suc (length xs)) ≤ length (spell.numbered text 0 (x ∷ xs) ++ r) → All ok (x ∷ xs) → ends r ≡ true → test r ≡ false
    → some_while test read n 0 true (spell.numbered text 0 (x ∷ xs) ++ r) ≡ Some (x ∷ xs, r)
whole_own test text read ok h zero x xs r is few all e done = absurd (omega arith)
whole_own test text read ok h (suc f) x xs r is few all e done = first_own test text read ok h f x xs r (omega arith) all e done

blocks_own : (bs : List (List CStmt)) (r : List ℕ) → IsSomeBlocks bs → blocks (spell.numbered spell.block_text 0 bs ++ (codes "}\n" ++ r)) ≡ Some (bs, codes "}\n" ++ r)
unfolding blocks
blocks_own [] r ok = absurd ok
blocks_own (b ∷ bs) r ok =
    let few : length (b ∷ bs) + length (codes "}\n" ++ r) ≤ length (spell.numbered spell.block_text 0 (b ∷ bs) ++ (codes "}\n" ++ r)) = parts_fit (begins (codes "b")) spell.block_text block IsBlock blocks_counted 0 (b ∷ bs) (codes "}\n" ++ r) in
    whole_own (begins (codes "b")) spell.block_text block IsBlock blocks_counted (length (spell.numbered spell.block_text 0 (b ∷ bs) ++ (codes "}\n" ++ r))) b bs (codes "}\n" ++ r) refl (omega arith) ok refl refl

-- ---- names

name_start_at : (d m : Bool) (b n : ℕ) (bs t : List ℕ) → (d && m) ≡ true → (m ≡ true → take n t ≡ bs) → take (cond d (suc n) 0) (b ∷ t) ≡ b ∷ bs
name_start_at true m b n bs t e h = ap (λ u. b ∷ u) (h e)
name_start_at false m b n bs t e h = cc

name_start_own : (bs r : List ℕ) → is_name bs ≡ true → take (name_len (bs ++ (codes " */\n" ++ r))) (bs ++ (codes " */\n" ++ r)) ≡ bs
unfolding name_len
name_start_own [] r e = refl
name_start_own (b ∷ bs) r e = name_start_at (is_name_byte b) (is_name bs) b (name_len (bs ++ (codes " */\n" ++ r))) bs (bs ++ (codes " */\n" ++ r)) e (λ h. name_start_own bs r h)

name_pieces : (s b e l r : List ℕ) → ((s ++ b ++ e) ++ l) ++ r ≡ s ++ (b ++ (e ++ (l ++ r)))
name_pieces s b e l r = simp append_assoc

pub name_line_own : (bs r : List ℕ) → is_name bs ≡ true → name_line (spell.line (codes "/* " ++ bs ++ codes " */") ++ r) ≡ Some (bs, r)
unfolding name_line function_name
name_line_own bs r e =
    ap name_line (name_pieces (codes "/* ") bs (codes " */") (codes "\n") r)
    ∙ rw (name_start_own bs r e, stripped_own bs (codes " */\n" ++ r)) refl

-- ---- functions

local_pieces : (i p s l r : List ℕ) → (i ++ (p ++ s) ++ l) ++ r ≡ i ++ (p ++ (s ++ (l ++ r)))
local_pieces i p s l r = simp append_assoc

pub local_own : (k : ℕ) (t : CType) (r : List ℕ) → IsType t → local_line k (spell.local_line k t ++ r) ≡ Some (t, r)
unfolding local_line
local_own k t r ok =
    ap (local_line k) (local_pieces (codes "    ") (spell.parameter k t) (codes ";") (codes "\n") r) ∙ rw (parameter_own k t (codes ";\n" ++ r) ok) refl

locals_counted : Counted (begins (codes "    ")) spell.local_line local_line IsType
locals_counted = record {
  one = λ k t r ok e. local_own k t r ok;
  sees = λ k t r ok e. refl;
  open_end = λ k t r. refl;
  some = λ k t r. longer (spell.parameter k t ++ codes ";") r;
}

-- what begins with a block
no_local : (bs : List (List CStmt)) (r : List ℕ) → begins (codes "    ") (spell.numbered spell.block_text 0 bs ++ (codes "}\n" ++ r)) ≡ false
no_local [] r = refl
no_local (b ∷ bs) r = refl

ends_blocks : (bs : List (List CStmt)) (r : List ℕ) → ends (spell.numbered spell.block_text 0 bs ++ (codes "}\n" ++ r)) ≡ true
ends_blocks [] r = refl
ends_blocks (b ∷ bs) r = refl

locals_own : (k : ℕ) (ts : List CType) (bs : List (List CStmt)) (r : List ℕ) → All IsType ts
    → local_lines k (spell.numbered spell.local_line k ts ++ (spell.numbered spell.block_text 0 bs ++ (codes "}\n" ++ r))) ≡ Some (ts, spell.numbered spell.block_text 0 bs ++ (codes "}\n" ++ r))
unfolding local_lines
locals_own k ts bs r all =
    all_own (begins (codes "    ")) spell.local_line local_line IsType locals_counted k ts (spell.numbered spell.block_text 0 bs ++ (codes "}\n" ++ r)) all (ends_blocks bs r) (no_local bs r)

heading_pieces : (n h l b r : List ℕ) → (n ++ (h ++ l) ++ b) ++ r ≡ n ++ (h ++ (l ++ (b ++ r)))
heading_pieces n h l b r = simp append_assoc

heading_own : (n : ℕ) (called : List ℕ) (result : Option CType) (params : List CType) (r : List ℕ) → is_name called ≡ true → IsTypeIfAny result → All IsType params
    → heading n ((spell.line (codes "/* " ++ called ++ codes " */") ++ spell.line (spell.head n result params) ++ spell.line (codes "{")) ++ r) ≡ Some ((called, result, params), r)
unfolding heading
heading_own n called result params r ok_n ok_r all =
    ap (heading n) (heading_pieces (spell.line (codes "/* " ++ called ++ codes " */")) (spell.head n result params) (codes "\n") (spell.line (codes "{")) r)
    ∙ rw (name_line_own called (spell.head n result params ++ (codes "\n{\n" ++ r)) ok_n, head_own n result params (codes "\n{\n" ++ r) ok_r all) refl

function_pieces : (s l b e r : List ℕ) → (s ++ (l ++ b) ++ e) ++ r ≡ s ++ (l ++ (b ++ (e ++ r)))
function_pieces s l b e r = simp append_assoc

pub function_own : (n : ℕ) (f : CFunction) (r : List ℕ) → IsFunction f → function n (spell.function_text n f ++ r) ≡ Some (f, r)
unfolding function insides
function_own n f r ok =
    ap (function n) (function_pieces (spell.function_start n f) (spell.numbered spell.local_line (length f.params) f.locals) (spell.numbered spell.block_text 0 f.blocks) (codes "}\n") r)
    ∙ rw (
      heading_own n f.name f.result f.params (spell.numbered spell.local_line (length f.params) f.locals ++ (spell.numbered spell.block_text 0 f.blocks ++ (codes "}\n" ++ r))) ok.0 ok.1 ok.2,
      locals_own (length f.params) f.locals f.blocks r ok.3,
      blocks_own f.blocks r ok.4,
    ) refl
