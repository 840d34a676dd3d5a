-- The static strings of a program that begins with them.
use Rattle.std.proofs.Common.{◌≡◌, ◌<◌, ◌≤◌, ℕ, zero, suc, ◌+◌, Bool, true, false, List, [], ◌∷◌, ◌++◌, length, map, take, drop, Some, None, pos, refl, sym, ap, ◌∙◌, subst, arith, append_assoc, length-append}
use Rattle.std.proofs.lemmas.Bool.Decides.{nat_tests}
use Rattle.std.proofs.lemmas.List.{append-nil}
use Rattle.std.specs.Prelude.{slice_get, slice_index_or, nat_lt, codes}
use Rattle.csub_tree.specs.State.{Value, Unset, Word, Byte, Static, Block}
use Rattle.csub_tree.specs.Layout.{Shape, shape_at, constant, joined, cell_step, cell_constants, static_block}
use Rattle.csub_tree.specs.declared.tree.CConst.{CConst}
use Rattle.csub_tree.specs.declared.tree.CConst.TheVariants as const
use Rattle.csub_tree.specs.declared.tree.CCell.{CCell}
use Rattle.csub_tree.specs.declared.tree.CCell.TheVariants.{Const, Braces, rolls-Const, rolls-Braces}
use Rattle.csub_tree.specs.declared.tree.CCell.TheOpen.{CCell-F}
use Rattle.csub_tree.specs.declared.tree.CCell.TheFolds.{fold-roll-CCell}
use Rattle.csub_tree.specs.declared.tree.CStatic.{CStatic}
use Rattle.ll_code.specs.Machine.{shapes_of, start}
use Rattle.ll_code.specs.declared.program.LlStruct.{LlStruct}
use Rattle.ll_held.specs.Roots.{core_of}
use Rattle.ll_helpers.specs.Helpers.{table_struct}
use Rattle.ll_strings.proofs.Structs.{table_shape, text_shape}
use Rattle.ll_code.specs.declared.program.LlProgram.{LlProgram}
use Rattle.ll_texts.specs.Texts.{counted_shape, text_block, HasText, HasStatics}
use Rattle.ll_helpers.specs.Statics.{counted, byte_cell, text, singles, entries, table_static, texts}
use Rattle.ll_strings.proofs.Lookup.{get_more, get_behind}

-- ---- constants

const_is : (c : CConst) → cell_constants (Const c) ≡ c ∷ []
const_is c = ap cell_constants (sym (rolls-Const c)) ∙ fold-roll-CCell (List CConst) cell_step (CCell-F.Const c)

braces_are : (cells : List CCell) → cell_constants (Braces cells) ≡ joined (map cell_constants cells)
braces_are cells = ap cell_constants (sym (rolls-Braces cells)) ∙ fold-roll-CCell (List CConst) cell_step (CCell-F.Braces cells)

joined_append : (xs ys : List (List CConst)) → joined (xs ++ ys) ≡ joined xs ++ joined ys
joined_append [] ys = refl
joined_append (x ∷ xs) ys = ap (λ l. x ++ l) (joined_append xs ys) ∙ sym (append_assoc x (joined xs) (joined ys))

map_append : {A B : Type 0} (f : A → B) (xs ys : List A) → map f (xs ++ ys) ≡ map f xs ++ map f ys
map_append f [] ys = refl
map_append f (x ∷ xs) ys = ap (λ l. f x ∷ l) (map_append f xs ys)

bytes_are : (bytes : List ℕ) → map constant (joined (map cell_constants (map byte_cell bytes))) ≡ map Byte bytes
bytes_are [] = refl
bytes_are (b ∷ bytes) = ap (λ l. map constant (l ++ joined (map cell_constants (map byte_cell bytes)))) (const_is (const.Char b)) ∙ ap (λ l. Byte b ∷ l) (bytes_are bytes)

-- the table's entries, in order
pointers : ℕ → List Value
pointers zero = []
pointers (suc n) = pointers n ++ Static (n + 1) ∷ []

entries_are : (n : ℕ) → map constant (joined (map cell_constants (entries n))) ≡ pointers n
unfolding entries pointers
entries_are zero = refl
entries_are (suc n) =
    ap (λ l. map constant (joined l)) (map_append cell_constants (entries n) (Const (const.Static 0 (n + 1)) ∷ []))
    ∙ ap (map constant) (joined_append (map cell_constants (entries n)) (cell_constants (Const (const.Static 0 (n + 1))) ∷ []))
    ∙ ap (λ l. map constant (joined (map cell_constants (entries n)) ++ (l ++ []))) (const_is (const.Static 0 (n + 1)))
    ∙ map_append constant (joined (map cell_constants (entries n))) (const.Static 0 (n + 1) ∷ [])
    ∙ ap (λ l. l ++ Static (n + 1) ∷ []) (entries_are n)

pointer_count : (n : ℕ) → length (pointers n) ≡ n
unfolding pointers
pointer_count zero = refl
pointer_count (suc n) = length-append (pointers n) (Static (n + 1) ∷ []) ∙ (let e : length (pointers n) ≡ n = pointer_count n in omega (arith, e))

index_first : (xs more : List Value) (k : ℕ) → k < length xs → slice_index_or (xs ++ more) k Unset ≡ slice_index_or xs k Unset
index_first [] more k h = absurd (omega arith)
index_first (x ∷ xs) more zero h = refl
index_first (x ∷ xs) more (suc k) h = index_first xs more k (omega arith)

index_last : (xs : List Value) (x : Value) → slice_index_or (xs ++ x ∷ []) (length xs) Unset ≡ x
index_last [] x = refl
index_last (y ∷ xs) x = index_last xs x

pointer_at : (n b : ℕ) → b < n → slice_index_or (pointers n) b Unset ≡ Static (b + 1)
unfolding pointers
pointer_at zero b h = absurd (omega arith)
pointer_at (suc n) b h = one (nat_lt b n) refl (pointer_at n b)
  where
    one : (c : Bool) → nat_lt b n ≡ c → (b < n → slice_index_or (pointers n) b Unset ≡ Static (b + 1)) → slice_index_or (pointers n ++ Static (n + 1) ∷ []) b Unset ≡ Static (b + 1)
    one true e go = (let l : b < n = grind (arith, nat_tests, e) in let c : length (pointers n) ≡ n = pointer_count n in index_first (pointers n) (Static (n + 1) ∷ []) b (omega (arith, l, c)) ∙ go l)
    one false e go = (let q : n ≡ b = (let l : n ≤ b = grind (arith, nat_tests, e) in omega (arith, l, h)) in
        ap (λ k. slice_index_or (pointers n ++ Static (n + 1) ∷ []) k Unset) (sym (pointer_count n ∙ q)) ∙ index_last (pointers n) (Static (n + 1)) ∙ ap (λ k. Static (k + 1)) q)

-- ---- blocks

abbrev block : ℕ → List Value → List Value → Block
block kind fields items = record { kind = kind; fields = fields; items = items }

counted_is : (shapes : List Shape) (kind count : ℕ) (cells : List CCell) → shape_at shapes kind ≡ counted_shape kind → static_block shapes (counted kind (pos count) cells) ≡ record { kind = kind; fields = Word (pos count) ∷ []; items = map constant (joined (map cell_constants cells)) }
counted_is shapes kind count cells h =
    ap (λ l. block kind (take (shape_at shapes kind).size (map constant l)) (drop (shape_at shapes kind).size (map constant l))) values
    ∙ ap (λ (s : Shape). block kind (take s.size (Word (pos count) ∷ map constant (joined (map cell_constants cells)))) (drop s.size (Word (pos count) ∷ map constant (joined (map cell_constants cells))))) h
  where
    values : joined (map cell_constants (Const (const.Word (pos count)) ∷ Braces cells ∷ [])) ≡ const.Word (pos count) ∷ joined (map cell_constants cells)
    values = ap (λ l. l ++ (cell_constants (Braces cells) ++ [])) (const_is (const.Word (pos count))) ∙ ap (λ l. const.Word (pos count) ∷ l) (append-nil (cell_constants (Braces cells)) ∙ braces_are cells)

text_is : (shapes : List Shape) (bytes : List ℕ) → shape_at shapes 0 ≡ counted_shape 0 → static_block shapes (text bytes) ≡ text_block bytes
text_is shapes bytes h = counted_is shapes 0 (length bytes) (map byte_cell bytes) h ∙ ap (λ l. block 0 (Word (pos (length bytes)) ∷ []) l) (bytes_are bytes)

-- ---- places

get_map : {A B : Type 0} (f : A → B) (xs : List A) (i : ℕ) (x : A) → slice_get xs i ≡ Some x → slice_get (map f xs) i ≡ Some (f x)
get_map f [] i x e = absurd (cc)
get_map f (y ∷ xs) zero x e = (let q : y ≡ x = cc in ap (λ z. Some (f z)) q)
get_map f (y ∷ xs) (suc i) x e = get_map f xs i x e

get_after : {A : Type 0} (pre post : List A) (k n : ℕ) → n ≡ length pre + k → slice_get (pre ++ post) n ≡ slice_get post k
get_after [] post k n e = (let q : n ≡ k = omega (arith, e) in ap (slice_get post) q)
get_after (x ∷ pre) post k zero e = absurd (omega (arith, e))
get_after (x ∷ pre) post k (suc n) e = get_after pre post k n (omega (arith, e))

single_count : (n : ℕ) → length (singles n) ≡ n
unfolding singles
single_count zero = refl
single_count (suc n) = length-append (singles n) (text (n ∷ []) ∷ []) ∙ (let e : length (singles n) ≡ n = single_count n in omega (arith, e))

single_at : (n b : ℕ) → b < n → slice_get (singles n) b ≡ Some (text (b ∷ []))
unfolding singles
single_at zero b h = absurd (omega arith)
single_at (suc n) b h = one (nat_lt b n) refl (single_at n b)
  where
    one : (c : Bool) → nat_lt b n ≡ c → (b < n → slice_get (singles n) b ≡ Some (text (b ∷ []))) → slice_get (singles n ++ text (n ∷ []) ∷ []) b ≡ Some (text (b ∷ []))
    one true e go = get_more (singles n) (text (n ∷ []) ∷ []) b (text (b ∷ [])) (go (grind (arith, nat_tests, e)))
    one false e go = (let q : n ≡ b = (let l : n ≤ b = grind (arith, nat_tests, e) in omega (arith, l, h)) in
        ap (slice_get (singles n ++ text (n ∷ []) ∷ [])) (sym (single_count n ∙ q)) ∙ get_behind (singles n) (text (n ∷ [])) [] ∙ ap (λ k. Some (text (k ∷ []))) q)

module _ (p : LlProgram) (table : ℕ) (more : List CStatic) (begins : p.statics ≡ texts table ++ more) (h : HasText p) (shape : shape_at (shapes_of p.structs) table ≡ counted_shape table) where
  -- a static of the program, as a block
  placed : (i : ℕ) (static : CStatic) (block : Block) → slice_get (texts table ++ more) i ≡ Some static → static_block (shapes_of p.structs) static ≡ block → slice_get (map (static_block (shapes_of p.structs)) p.statics) i ≡ Some block
  placed i static block e is = ap (λ l. slice_get (map (static_block (shapes_of p.structs)) l) i) begins ∙ get_map (static_block (shapes_of p.structs)) (texts table ++ more) i static e ∙ ap Some is

  abbrev last_three : List CStatic
  last_three = table_static table ∷ text (codes "True") ∷ text (codes "False") ∷ []

  behind_singles : (k n : ℕ) (static : CStatic) → n ≡ 257 + k → slice_get last_three k ≡ Some static → slice_get (texts table ++ more) n ≡ Some static
  behind_singles k zero static e at = absurd (omega (arith, e))
  behind_singles k (suc n) static e at = get_more (texts table) more (suc n) static (get_after (singles 256) last_three k n (let c : length (singles 256) ≡ 256 = single_count 256 in omega (arith, e, c)) ∙ at)

  single_text : (b : ℕ) → b < 256 → slice_get (texts table ++ more) (b + 1) ≡ Some (text (b ∷ []))
  single_text b small = (let q : suc b ≡ b + 1 = omega arith in subst (λ n. slice_get (texts table ++ more) n ≡ Some (text (b ∷ []))) q (get_more (texts table) more (suc b) (text (b ∷ [])) (get_more (singles 256) last_three b (text (b ∷ [])) (single_at 256 b small))))

  pub texts_stand : HasStatics p table (map (static_block (shapes_of p.structs)) p.statics)
  unfolding pointers
  texts_stand = record {
    shape = shape;
    empty = placed 0 (text []) (text_block []) refl (text_is (shapes_of p.structs) [] h);
    singles = λ b small. placed (b + 1) (text (b ∷ [])) (text_block (b ∷ [])) (single_text b small) (text_is (shapes_of p.structs) (b ∷ []) h);
    strings = pointers 256;
    listed = placed 257 (table_static table) _ (behind_singles 0 257 (table_static table) refl refl) (counted_is (shapes_of p.structs) table 256 (entries 256) shape ∙ ap (λ l. block table (Word (pos 256) ∷ []) l) (entries_are 256));
    count = pointer_count 256;
    each = λ b small. pointer_at 256 b small;
    yes = placed 258 (text (codes "True")) (text_block (codes "True")) (behind_singles 1 258 (text (codes "True")) refl refl) (text_is (shapes_of p.structs) (codes "True") h);
    no = placed 259 (text (codes "False")) (text_block (codes "False")) (behind_singles 2 259 (text (codes "False")) refl refl) (text_is (shapes_of p.structs) (codes "False") h);
  }

-- at the start of a run
pub start_stands : (p : LlProgram) (structs others : List LlStruct) (more : List CStatic) → p.structs ≡ structs ++ table_struct ∷ others → p.statics ≡ texts (length structs) ++ more → HasText p → (steps : ℕ) → HasStatics p (length structs) (core_of (start p steps)).statics
start_stands p structs others more is begins h steps = texts_stand p (length structs) more begins h (ap (λ l. shape_at (shapes_of l) (length structs)) is ∙ table_shape structs others)

pub text_stands : (p : LlProgram) (struct : LlStruct) (others : List LlStruct) → p.structs ≡ struct ∷ others → struct.base ≡ None → length struct.fields ≡ 1 → HasText p
text_stands p struct others is base fields = ap (λ l. shape_at (shapes_of l) 0) is ∙ text_shape struct others base fields
