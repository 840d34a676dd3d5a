-- Declarations that are read can be written.
use Rattle.std.proofs.Common.{◌≡◌, ℕ, pos, negsuc, nat_lt, subst, zero, suc, ◌+◌, ◌^◌, ◌<◌, ◌||◌, Bool, true, false, cond, List, [], ◌∷◌, ◌++◌, Option, Some, None, refl, ap, ◌∙◌, arith, sym, length, codes, take, map}
use Rattle.std.specs.Fmt.{decimal}
use Rattle.std.proofs.lemmas.Grind.{common_steps}
use Rattle.csub_tree.specs.declared.tree.CFile.{CFile}
use Rattle.csub_tree.specs.declared.tree.CConst.{CConst}
use Rattle.csub_tree.specs.declared.tree.CConst.TheVariants as const
use Rattle.csub_tree.specs.declared.tree.CCell.{CCell, roll-CCell, out-CCell}
use Rattle.csub_tree.specs.declared.tree.CCell.TheOpen.{CCell-F}
use Rattle.csub_tree.specs.declared.tree.CCell.TheFolds.{fold-roll-CCell}
use Rattle.csub_tree.specs.declared.tree.CCell.TheVariants as cell
use Rattle.csub_tree.specs.declared.tree.CCell.TheVariants.{rolls-Const, rolls-Braces}
use Rattle.csub_tree.specs.declared.tree.CCell.TheViews.{roll-out-CCell}
use Rattle.csub_tree.specs.declared.tree.CStmt.{CStmt}
use Rattle.csub_tree.specs.Checked.{ends_block, is_name_byte, is_name}
use Rattle.csub_tree.specs.Spelling.{first_field}
use Rattle.csub_text.specs.Written.{All, IsNumberIfAny, IsType, IsTypeIfAny, IsConstant, IsStatement, IsClosed, IsBlock, IsSomeBlocks, IsStruct, IsFunction, IsCell, cell_fits, cell_step, constant_fits, all_true, IsStatic, IsPrototype, IsSome, IsWritten}
use Rattle.csub_text.specs.Read.{Got, stripped, begins, mapped}
use Rattle.csub_text.specs.ReadFile as of
use Rattle.csub_text.specs.ReadFile.{parts_while, some_while, base_line, field_line, field_lines, items_line, struct_text, parameter, more_parameter, parameters, head, prototype, statements, name_len, function_name, name_line, Heading, heading, local_line, local_lines, block, blocks, insides, function, Open, begin, follow, last_of, turns, whole_list, cells, static_text, structs, prototypes, statics, functions, declarations, file, whole}
use Rattle.csub_text.proofs.Cells.{braces_fit}
use Rattle.csub_text.proofs.Valid.{Gives, none, some, gives_then, gives_after, gives_cond, gives_literal, gives_mapped, gives_ended, name_valid, before_name_valid, result_before_name_valid, constant_valid, statement_valid}

-- ---- parts

while_valid : {A : Type 0} {P : A → Type 0} (test : List ℕ → Bool) (read : ℕ → List ℕ → Got A) → ((k : ℕ) (i : List ℕ) → Gives P (read k i)) → (f k : ℕ) (i : List ℕ) → Gives (All P) (parts_while test read f k i)
unfolding parts_while
while_valid test read h zero k i = some [] i tt
while_valid test read h (suc f) k i =
    gives_cond (test i) (gives_then (h k i) (λ x j p. gives_mapped (λ xs. x ∷ xs) (while_valid test read h f (k + 1) j) (λ xs ps. (p, ps)))) (some [] i tt)

more_valid : {A : Type 0} {P : A → Type 0} (test : List ℕ → Bool) (read : ℕ → List ℕ → Got A) → ((k : ℕ) (i : List ℕ) → Gives P (read k i)) → (f k : ℕ) (first : Bool) (i : List ℕ) → Gives (All P) (some_while test read f k first i)
unfolding some_while
more_valid test read h zero k first i = none
more_valid test read h (suc f) k first i =
    gives_cond (first || test i) (gives_then (h k i) (λ x j p. gives_mapped (λ xs. x ∷ xs) (more_valid test read h f (k + 1) false j) (λ xs ps. (p, ps)))) (some [] i tt)

some_valid : {A : Type 0} {P : A → Type 0} (test : List ℕ → Bool) (read : ℕ → List ℕ → Got A) → ((k : ℕ) (i : List ℕ) → Gives P (read k i)) → (f k : ℕ) (i : List ℕ) → Gives (λ xs. All P xs × IsSome xs) (some_while test read f k true i)
unfolding some_while
some_valid test read h zero k i = none
some_valid test read h (suc f) k i = gives_then (h k i) (λ x j p. gives_mapped (λ xs. x ∷ xs) (more_valid test read h f (k + 1) false j) (λ xs ps. ((p, ps), tt)))

gives_weaker : {A : Type 0} {Q P : A → Type 0} {p : Got A} → Gives Q p → ((x : A) → Q x → P x) → Gives P p
gives_weaker none more = none
gives_weaker (some x j q) more = some x j (more x q)

-- ---- structs and heads

pub base_line_valid : (i : List ℕ) → Gives IsNumberIfAny (base_line i)
unfolding base_line
base_line_valid i = gives_cond (of.sees_base_line i) (gives_mapped Some (gives_ended (codes " a0;\n") (name_valid (codes "    struct s") i)) (λ n h. h)) (some None i tt)

pub field_line_valid : (k : ℕ) (i : List ℕ) → Gives IsType (field_line k i)
unfolding field_line
field_line_valid k i = gives_after (stripped (codes "    ") i) (λ j. gives_then (before_name_valid j) (λ t l h. gives_after (stripped (codes "a" ++ decimal k) l) (λ m. gives_literal (codes ";\n") t m h)))

field_lines_valid : (k : ℕ) (i : List ℕ) → Gives (All IsType) (field_lines k i)
unfolding field_lines
field_lines_valid k i = while_valid of.sees_field_line field_line field_line_valid (length i) k i

pub items_line_valid : (i : List ℕ) → Gives IsTypeIfAny (items_line i)
unfolding items_line
items_line_valid i = gives_cond (begins (codes "    ") i) (gives_after (stripped (codes "    ") i) (λ j. gives_mapped Some (gives_ended (codes "items[];\n") (before_name_valid j)) (λ t h. h))) (some None i tt)

pub struct_valid : (n : ℕ) (i : List ℕ) → Gives IsStruct (struct_text n i)
unfolding struct_text
struct_valid n i =
    gives_after (stripped (codes "struct s" ++ decimal n) i) (λ j. gives_after (stripped (codes " {\n") j) (λ k.
    gives_then (base_line_valid k) (λ base l a. gives_then (field_lines_valid (first_field base) l) (λ fields m b. gives_then (items_line_valid m) (λ items o c.
    gives_literal (codes "};\n") (record { base = base; fields = fields; items = items }) o (a, b, c))))))

parameter_valid : (k : ℕ) (i : List ℕ) → Gives IsType (parameter k i)
unfolding parameter
parameter_valid k i = gives_then (before_name_valid i) (λ t j h. gives_after (stripped (codes "v" ++ decimal k) j) (λ l. some t l h))

more_parameter_valid : (k : ℕ) (i : List ℕ) → Gives IsType (more_parameter k i)
unfolding more_parameter
more_parameter_valid k i = gives_after (stripped (codes ", ") i) (λ j. parameter_valid k j)

parameters_valid : (i : List ℕ) → Gives (All IsType) (parameters i)
unfolding parameters
parameters_valid i =
    gives_cond (begins (codes "void") i) (gives_literal (codes "void") [] i tt)
    (gives_then (parameter_valid 0 i) (λ t j h. gives_mapped (λ ts. t ∷ ts) (while_valid (begins (codes ", ")) more_parameter more_parameter_valid (length j) 1 j) (λ ts hs. (h, hs))))

pub head_valid : (n : ℕ) (i : List ℕ) → Gives IsPrototype (head n i)
unfolding head
head_valid n i =
    gives_after (stripped (codes "static ") i) (λ j. gives_then (result_before_name_valid j) (λ result k h. gives_after (stripped (codes "f" ++ decimal n) k) (λ l.
    gives_after (stripped (codes "(") l) (λ m. gives_mapped (λ params. record { result = result; params = params }) (gives_ended (codes ")") (parameters_valid m)) (λ params g. (h, g))))))

pub prototype_valid : (n : ℕ) (i : List ℕ) → Gives IsPrototype (prototype n i)
unfolding prototype
prototype_valid n i = gives_ended (codes ";\n") (head_valid n i)

-- ---- functions

closed_more : (s : CStmt) (ss : List CStmt) → ends_block s ≡ false → IsClosed ss → IsClosed (s ∷ ss)
closed_more s [] goes closed = absurd closed
closed_more s (t ∷ ss) goes closed = (goes, closed)

pub statement_line_valid : (i : List ℕ) → Gives IsStatement (of.statement_line i)
statement_line_valid i = gives_after (stripped (codes "    ") i) (λ j. gives_ended (codes "\n") (statement_valid j))

further : (d : Bool) (s : CStmt) (j : List ℕ) (more : Got (List CStmt)) → IsStatement s → ends_block s ≡ d → Gives IsBlock more → Gives IsBlock (cond d (Some (s ∷ [], j)) (mapped (λ ss. s ∷ ss) more))
further true s j more h e g = some (s ∷ []) j ((h, tt), e)
further false s j more h e g = gives_mapped (λ ss. s ∷ ss) g (λ ss p. ((h, p.0), closed_more s ss e p.1))

statements_valid : (f : ℕ) (i : List ℕ) → Gives IsBlock (statements f i)
unfolding statements
statements_valid zero i = none
statements_valid (suc f) i = gives_then (statement_line_valid i) (λ s j h. further (ends_block s) s j (statements f j) h refl (statements_valid f j))

block_valid : (k : ℕ) (i : List ℕ) → Gives IsBlock (block k i)
unfolding block
block_valid k i = gives_after (stripped (codes "b" ++ decimal k) i) (λ j. gives_after (stripped (codes ":\n") j) (λ l. statements_valid (length l) l))

some_blocks : (bs : List (List CStmt)) → All IsBlock bs × IsSome bs → IsSomeBlocks bs
some_blocks [] h = absurd h.1
some_blocks (b ∷ bs) h = h.0

blocks_valid : (i : List ℕ) → Gives IsSomeBlocks (blocks i)
unfolding blocks
blocks_valid i = gives_weaker (some_valid (begins (codes "b")) block block_valid (length i) 0 i) some_blocks

name_at : (d : Bool) (b n : ℕ) (bs : List ℕ) → is_name_byte b ≡ d → (is_name (take n bs) ≡ true) → is_name (take (cond d (suc n) 0) (b ∷ bs)) ≡ true
name_at true b n bs e h = rw (e, h) refl
name_at false b n bs e h = refl

is_name_of : (i : List ℕ) → is_name (take (name_len i) i) ≡ true
unfolding name_len
is_name_of [] = refl
is_name_of (b ∷ bs) = name_at (is_name_byte b) b (name_len bs) bs refl (is_name_of bs)

pub name_line_valid : (i : List ℕ) → Gives (λ called. is_name called ≡ true) (name_line i)
unfolding name_line function_name
name_line_valid i = gives_after (stripped (codes "/* ") i) (λ j. gives_ended (codes " */\n") (gives_literal (take (name_len j) j) (take (name_len j) j) j (is_name_of j)))

heading_valid : (n : ℕ) (i : List ℕ) → Gives (λ h. (is_name h.0 ≡ true) × IsTypeIfAny h.1 × All IsType h.2) (heading n i)
unfolding heading
heading_valid n i =
    gives_then (name_line_valid i) (λ called j a. gives_then (head_valid n j) (λ p k b. gives_after (stripped (codes "\n") k) (λ l. gives_literal (codes "{\n") (called, p.result, p.params) l (a, b.0, b.1))))

pub local_line_valid : (k : ℕ) (i : List ℕ) → Gives IsType (local_line k i)
unfolding local_line
local_line_valid k i = gives_after (stripped (codes "    ") i) (λ j. gives_ended (codes ";\n") (parameter_valid k j))

local_lines_valid : (k : ℕ) (i : List ℕ) → Gives (All IsType) (local_lines k i)
unfolding local_lines
local_lines_valid k i = while_valid (begins (codes "    ")) local_line local_line_valid (length i) k i

insides_valid : (k : ℕ) (i : List ℕ) → Gives (λ b. All IsType b.0 × IsSomeBlocks b.1) (insides k i)
unfolding insides
insides_valid k i = gives_then (local_lines_valid k i) (λ locals j a. gives_mapped (λ found. (locals, found)) (blocks_valid j) (λ found b. (a, b)))

function_valid : (n : ℕ) (i : List ℕ) → Gives IsFunction (function n i)
unfolding function
function_valid n i =
    gives_then (heading_valid n i) (λ h j a. gives_then (insides_valid (length h.2) j) (λ b l c.
    gives_literal (codes "}\n") (record { name = h.0; result = h.1; params = h.2; locals = b.0; blocks = b.1 }) l (a.0, a.1, a.2, c.0, c.1)))

-- ---- cells

fits_above : (n m : ℕ) → n < m → nat_lt n m ≡ true
fits_above n m h = grind (arith, common_steps)

is_fits : (c : CConst) → IsConstant c → constant_fits c ≡ true
is_fits (const.Word (pos n)) ok = fits_above n (2 ^ 63) ok
is_fits (const.Word (negsuc n)) ok = fits_above n (2 ^ 63) ok
is_fits (const.Char n) ok = fits_above n 256 ok
is_fits (const.Bool b) ok = refl
is_fits const.Null ok = refl
is_fits (const.Static s g) ok = rw (fits_above s (2 ^ 64) ok.0, fits_above g (2 ^ 64) ok.1) refl
is_fits (const.Fun f) ok = fits_above f (2 ^ 64) ok

const_cell : (c : CConst) → IsConstant c → IsCell (cell.Const c)
const_cell c ok = ap cell_fits (sym (rolls-Const c)) ∙ fold-roll-CCell Bool cell_step (CCell-F.Const c) ∙ is_fits c ok

fits_all : (cs : List CCell) → All IsCell cs → all_true (map cell_fits cs) ≡ true
fits_all [] all = refl
fits_all (c ∷ cs) all = rw (all.0, fits_all cs all.1) refl

braces_cell : (cs : List CCell) → All IsCell cs → IsCell (cell.Braces cs)
braces_cell cs all = ap cell_fits (sym (rolls-Braces cs)) ∙ fold-roll-CCell Bool cell_step (CCell-F.Braces cs) ∙ fits_all cs all

parts_of : (x : CCell-F CCell) (cs : List CCell) → IsCell (roll-CCell x) → of.list_in x ≡ Some cs → All IsCell cs
parts_of (CCell-F.Const c) cs ok e = absurd (cc)
parts_of (CCell-F.Braces ds) cs ok e = let same : ds ≡ cs = cc in subst (All IsCell) same (braces_fit ds ok)

list_parts : (c : CCell) (cs : List CCell) → IsCell c → whole_list c ≡ Some cs → All IsCell cs
list_parts c cs ok e = parts_of (out-CCell c) cs (subst IsCell (sym (roll-out-CCell c)) ok) e

abbrev IsCellIfAny : Option CCell → Type 0
IsCellIfAny None = Unit {0}
IsCellIfAny (Some c) = IsCell c

abbrev AreOpen : Open → Type 0
AreOpen lists = All (All IsCell) lists

all_snoc : {A : Type 0} (P : A → Type 0) (xs : List A) (x : A) → All P xs → P x → All P (xs ++ x ∷ [])
all_snoc P [] x all p = (p, tt)
all_snoc P (y ∷ ys) x all p = (all.0, all_snoc P ys x all.1 p)

begin_valid : (lists : Open) (i : List ℕ) → AreOpen lists → Gives (λ s. AreOpen s.0 × IsCellIfAny s.1) (begin lists i)
unfolding begin
begin_valid lists i h =
    gives_cond (begins (codes "{ }") i) (gives_literal (codes "{ }") (lists, Some (cell.Braces [])) i (h, braces_cell [] tt))
    (gives_cond (begins (codes "{") i) (gives_literal (codes "{ ") (lists ++ [] ∷ [], None) i (all_snoc (All IsCell) lists [] h tt, tt))
    (gives_mapped (λ c. (lists, Some (cell.Const c))) (constant_valid i) (λ c k. (h, const_cell c k))))

follow_valid : (outer : Open) (found : List CCell) (c : CCell) (i : List ℕ) → AreOpen outer → All IsCell found → IsCell c → Gives (λ s. AreOpen s.0 × IsCellIfAny s.1) (follow outer found c i)
unfolding follow
follow_valid outer found c i h all k =
    gives_cond (begins (codes ", ") i) (gives_literal (codes ", ") (outer ++ (found ++ c ∷ []) ∷ [], None) i (all_snoc (All IsCell) outer (found ++ c ∷ []) h (all_snoc IsCell found c all k), tt))
    (gives_literal (codes " }") (outer, Some (cell.Braces (found ++ c ∷ []))) i (h, braces_cell (found ++ c ∷ []) (all_snoc IsCell found c all k)))

abbrev Last : {A : Type 0} → (A → Type 0) → Option (List A × A) → Type 0
Last P None = Unit {0}
Last P (Some p) = All P p.0 × P p.1

with_last_ok : {A : Type 0} (P : A → Type 0) (x : A) (o : Option (List A × A)) → P x → Last P o → Last P (of.with_last x o)
with_last_ok P x None p l = (tt, p)
with_last_ok P x (Some q) p l = ((p, l.0), l.1)

last_ok : {A : Type 0} (P : A → Type 0) (xs : List A) → All P xs → Last P (last_of xs)
unfolding last_of
last_ok P [] all = tt
last_ok P (x ∷ xs) all = with_last_ok P x (last_of xs) all.0 (last_ok P xs all.1)

rest_valid : (w : Option (List CCell)) (c : CCell) (i : List ℕ) → whole_list c ≡ w → IsCell c → Gives (All IsCell) (of.with_rest i w)
rest_valid None c i e ok = none
rest_valid (Some cs) c i e ok = some cs i (list_parts c cs ok e)

after_cell_valid : (go : Open → Option CCell → List ℕ → Got (List CCell)) (o : Option (Open × List CCell)) (c : CCell) (i : List ℕ) → Last (All IsCell) o → IsCell c
    → ((lists : Open) (pending : Option CCell) (j : List ℕ) → AreOpen lists → IsCellIfAny pending → Gives (All IsCell) (go lists pending j)) → Gives (All IsCell) (of.after_cell go o c i)
after_cell_valid go None c i l ok h = rest_valid (whole_list c) c i refl ok
after_cell_valid go (Some p) c i l ok h = gives_then (follow_valid p.0 p.1 c i l.0 l.1 ok) (λ s j k. h s.0 s.1 j k.0 k.1)

turns_valid : (f : ℕ) (lists : Open) (pending : Option CCell) (i : List ℕ) → AreOpen lists → IsCellIfAny pending → Gives (All IsCell) (turns f lists pending i)
unfolding turns
turns_valid zero lists pending i h k = none
turns_valid (suc f) lists None i h k = gives_then (begin_valid lists i h) (λ s j p. turns_valid f s.0 s.1 j p.0 p.1)
turns_valid (suc f) lists (Some c) i h k = after_cell_valid (turns f) (last_of lists) c i (last_ok (All IsCell) lists h) k (λ l q j a b. turns_valid f l q j a b)

cells_valid : (i : List ℕ) → Gives (All IsCell) (cells i)
unfolding cells
cells_valid i = turns_valid (length i) [] None i tt tt

pub static_valid : (n : ℕ) (i : List ℕ) → Gives IsStatic (static_text n i)
unfolding static_text
static_valid n i =
    gives_then (name_valid (codes "static struct s") i) (λ kind j a. gives_after (stripped (codes " g" ++ decimal n) j) (λ k. gives_after (stripped (codes " = ") k) (λ l.
    gives_mapped (λ found. record { kind = kind; cells = found }) (gives_ended (codes ";\n") (cells_valid l)) (λ found b. (a, b)))))

-- ---- files

structs_valid : (i : List ℕ) → Gives (All IsStruct) (structs i)
unfolding structs
structs_valid i = while_valid (begins (codes "struct ")) struct_text struct_valid (length i) 0 i

prototypes_valid : (i : List ℕ) → Gives (All IsPrototype) (prototypes i)
unfolding prototypes
prototypes_valid i = while_valid of.sees_prototype prototype prototype_valid (length i) 0 i

statics_valid : (i : List ℕ) → Gives (All IsStatic) (statics i)
unfolding statics
statics_valid i = while_valid (begins (codes "static ")) static_text static_valid (length i) 0 i

functions_valid : (i : List ℕ) → Gives (λ fs. All IsFunction fs × IsSome fs) (functions i)
unfolding functions
functions_valid i = some_valid of.sees_more function function_valid (length i) 0 i

declarations_valid : (i : List ℕ) → Gives IsWritten (declarations i)
unfolding declarations
declarations_valid i =
    gives_then (structs_valid i) (λ a j h. gives_then (prototypes_valid j) (λ b k g. gives_then (statics_valid k) (λ c l p.
    gives_mapped (λ d. record { structs = a; prototypes = b; statics = c; functions = d }) (functions_valid l) (λ d q. (h, g, p, q.0, q.1)))))

file_valid : (i : List ℕ) → Gives IsWritten (file i)
unfolding file
file_valid i = gives_after (stripped (codes "/* C-sub 1 */\n") i) (λ j. gives_after (stripped (codes "#include \"rpy_prim.h\"\n") j) (λ k. declarations_valid k))

at_end_valid : (p : Got CFile) (c : CFile) → Gives IsWritten p → of.at_end p ≡ Some c → IsWritten c
at_end_valid None c none e = absurd (cc)
at_end_valid (Some q) c (some d [] w) e = let same : d ≡ c = cc in subst IsWritten same w
at_end_valid (Some q) c (some d (b ∷ bs) w) e = absurd (cc)

pub whole_written : (i : List ℕ) (c : CFile) → whole i ≡ Some c → IsWritten c
unfolding whole
whole_written i c e = at_end_valid (file i) c (file_valid i) e
