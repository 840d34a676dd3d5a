-- How declarations are read, from the front of bytes.
use Rattle.std.specs.Prelude.{ℕ, zero, suc, ◌+◌, ◌++◌, ◌&&◌, ◌||◌, not, Bool, true, false, cond, List, [], ◌∷◌, Option, Some, None, is_some, codes, length, take}
use Rattle.std.specs.Fmt.{decimal}
use Rattle.csub_tree.specs.declared.tree.CFile.{CFile}
use Rattle.csub_tree.specs.declared.tree.CStruct.{CStruct}
use Rattle.csub_tree.specs.declared.tree.CType.{CType}
use Rattle.csub_tree.specs.declared.tree.CPrototype.{CPrototype}
use Rattle.csub_tree.specs.declared.tree.CStatic.{CStatic}
use Rattle.csub_tree.specs.declared.tree.CCell.{CCell, out-CCell}
use Rattle.csub_tree.specs.declared.tree.CCell.TheOpen.{CCell-F}
use Rattle.csub_tree.specs.declared.tree.CCell.TheVariants as cell
use Rattle.csub_tree.specs.declared.tree.CFunction.{CFunction}
use Rattle.csub_tree.specs.declared.tree.CStmt.{CStmt}
use Rattle.csub_tree.specs.Checked.{ends_block, is_name_byte}
use Rattle.csub_tree.specs.Spelling.{first_field}
use Rattle.csub_text.specs.Read.{Got, and_then, after, stripped, begins, literal, name, ended, mapped, before_name, result_before_name, constant}
use Rattle.csub_text.specs.ReadStatement.{statement}

-- a name with this number
abbrev pub numbered_name : {B : Type 0} → List ℕ → ℕ → List ℕ → (List ℕ → Got B) → Got B
numbered_name letter n i f = after (stripped (letter ++ decimal n) i) f

-- parts while a test holds, counted from k, at most this many
unfoldable pub parts_while : {A : Type 0} → (List ℕ → Bool) → (ℕ → List ℕ → Got A) → ℕ → ℕ → List ℕ → Got (List A)
parts_while test read zero k i = Some ([], i)
parts_while test read (suc f) k i = cond (test i) (and_then (read k i) (λ x j. mapped (λ xs. x ∷ xs) (parts_while test read f (k + 1) j))) (Some ([], i))

-- the same, where the first is read whatever the test says, and there are not too many
unfoldable pub some_while : {A : Type 0} → (List ℕ → Bool) → (ℕ → List ℕ → Got A) → ℕ → ℕ → Bool → List ℕ → Got (List A)
some_while test read zero k more i = None
some_while test read (suc f) k first i = cond (first || test i) (and_then (read k i) (λ x j. mapped (λ xs. x ∷ xs) (some_while test read f (k + 1) false j))) (Some ([], i))

-- ---- structs

abbrev pub sees_base_line : List ℕ → Bool
sees_base_line i = is_some (and_then (name (codes "    struct s") i) (λ m j. literal (codes " a0;\n") m j))

unfoldable pub base_line : List ℕ → Got (Option ℕ)
base_line i = cond (sees_base_line i) (mapped Some (ended (name (codes "    struct s") i) (codes " a0;\n"))) (Some (None, i))

abbrev pub sees_field_line : List ℕ → Bool
sees_field_line i = is_some (after (stripped (codes "    ") i) (λ j. and_then (before_name j) (λ t k. literal (codes "a") t k)))

unfoldable pub field_line : ℕ → List ℕ → Got CType
field_line k i = after (stripped (codes "    ") i) (λ j. and_then (before_name j) (λ t l. numbered_name (codes "a") k l (literal (codes ";\n") t)))

unfoldable pub field_lines : ℕ → List ℕ → Got (List CType)
field_lines first i = parts_while sees_field_line field_line (length i) first i

unfoldable pub items_line : List ℕ → Got (Option CType)
items_line i = cond (begins (codes "    ") i) (after (stripped (codes "    ") i) (λ j. mapped Some (ended (before_name j) (codes "items[];\n")))) (Some (None, i))

unfoldable pub struct_text : ℕ → List ℕ → Got CStruct
struct_text n i =
    numbered_name (codes "struct s") n i (λ j. after (stripped (codes " {\n") j) (λ k.
    and_then (base_line k) (λ base l. and_then (field_lines (first_field base) l) (λ fields m. and_then (items_line m) (λ items o.
    literal (codes "};\n") (record { base = base; fields = fields; items = items }) o)))))

-- ---- heads of functions

unfoldable pub parameter : ℕ → List ℕ → Got CType
parameter k i = and_then (before_name i) (λ t j. numbered_name (codes "v") k j (λ l. Some (t, l)))

unfoldable pub more_parameter : ℕ → List ℕ → Got CType
more_parameter k i = after (stripped (codes ", ") i) (parameter k)

unfoldable pub parameters : List ℕ → Got (List CType)
parameters i = cond (begins (codes "void") i) (literal (codes "void") [] i) (and_then (parameter 0 i) (λ t j. mapped (λ ts. t ∷ ts) (parts_while (begins (codes ", ")) more_parameter (length j) 1 j)))

unfoldable pub head : ℕ → List ℕ → Got CPrototype
head n i =
    after (stripped (codes "static ") i) (λ j. and_then (result_before_name j) (λ result k. numbered_name (codes "f") n k (λ l.
    after (stripped (codes "(") l) (λ m. mapped (λ params. record { result = result; params = params }) (ended (parameters m) (codes ")"))))))

unfoldable pub prototype : ℕ → List ℕ → Got CPrototype
prototype n i = ended (head n i) (codes ";\n")

-- ---- functions

abbrev pub statement_line : List ℕ → Got CStmt
statement_line i = after (stripped (codes "    ") i) (λ j. ended (statement j) (codes "\n"))

-- statements up to the first that ends a block
unfoldable pub statements : ℕ → List ℕ → Got (List CStmt)
statements zero i = None
statements (suc f) i = and_then (statement_line i) (λ s j. cond (ends_block s) (Some (s ∷ [], j)) (mapped (λ ss. s ∷ ss) (statements f j)))

-- how many letters, digits, `_` and `.` stand at the front
unfoldable pub name_len : List ℕ → ℕ
name_len [] = 0
name_len (b ∷ bs) = cond (is_name_byte b) (suc (name_len bs)) 0

unfoldable pub function_name : List ℕ → Got (List ℕ)
function_name i = literal (take (name_len i) i) (take (name_len i) i) i

unfoldable pub name_line : List ℕ → Got (List ℕ)
name_line i = after (stripped (codes "/* ") i) (λ j. ended (function_name j) (codes " */\n"))

-- what the first three lines of a function say
abbrev pub Heading : Type 0
Heading = List ℕ × Option CType × List CType

unfoldable pub heading : ℕ → List ℕ → Got Heading
heading n i =
    and_then (name_line i) (λ called j. and_then (head n j) (λ p k. after (stripped (codes "\n") k) (λ l. literal (codes "{\n") (called, p.result, p.params) l)))

unfoldable pub local_line : ℕ → List ℕ → Got CType
local_line k i = after (stripped (codes "    ") i) (λ j. ended (parameter k j) (codes ";\n"))

unfoldable pub local_lines : ℕ → List ℕ → Got (List CType)
local_lines first i = parts_while (begins (codes "    ")) local_line (length i) first i

unfoldable pub block : ℕ → List ℕ → Got (List CStmt)
block k i = numbered_name (codes "b") k i (λ j. after (stripped (codes ":\n") j) (λ l. statements (length l) l))

unfoldable pub blocks : List ℕ → Got (List (List CStmt))
blocks i = some_while (begins (codes "b")) block (length i) 0 true i

-- the locals and the blocks
unfoldable pub insides : ℕ → List ℕ → Got (List CType × List (List CStmt))
insides first i = and_then (local_lines first i) (λ locals j. mapped (λ found. (locals, found)) (blocks j))

unfoldable pub function : ℕ → List ℕ → Got CFunction
function n i =
    and_then (heading n i) (λ h j. and_then (insides (length h.2) j) (λ b l.
    literal (codes "}\n") (record { name = h.0; result = h.1; params = h.2; locals = b.0; blocks = b.1 }) l))

-- ---- statics

-- the lists that are open, the outermost first
abbrev pub Open : Type 0
Open = List (List CCell)

-- where a cell may begin: the open lists then, and the cell that was read, if it is whole
unfoldable pub begin : Open → List ℕ → Got (Open × Option CCell)
begin lists i =
    cond (begins (codes "{ }") i) (literal (codes "{ }") (lists, Some (cell.Braces [])) i)
    (cond (begins (codes "{") i) (literal (codes "{ ") (lists ++ [] ∷ [], None) i)
    (mapped (λ c. (lists, Some (cell.Const c))) (constant i)))

-- after a cell of a list
unfoldable pub follow : Open → List CCell → CCell → List ℕ → Got (Open × Option CCell)
follow outer cells c i =
    cond (begins (codes ", ") i) (literal (codes ", ") (outer ++ (cells ++ c ∷ []) ∷ [], None) i)
    (literal (codes " }") (outer, Some (cell.Braces (cells ++ c ∷ []))) i)

-- all but the last, and the last
abbrev pub with_last : {A : Type 0} → A → Option (List A × A) → Option (List A × A)
with_last x None = Some ([], x)
with_last x (Some p) = Some (x ∷ p.0, p.1)

unfoldable pub last_of : {A : Type 0} → List A → Option (List A × A)
last_of [] = None
last_of (x ∷ xs) = with_last x (last_of xs)

-- the outermost cell has to be a list
abbrev pub list_in : CCell-F CCell → Option (List CCell)
list_in (CCell-F.Const c) = None
list_in (CCell-F.Braces cells) = Some cells

abbrev pub whole_list : CCell → Option (List CCell)
whole_list c = list_in (out-CCell c)

abbrev pub with_rest : {A : Type 0} → List ℕ → Option A → Got A
with_rest i None = None
with_rest i (Some x) = Some (x, i)

abbrev pub after_cell : (Open → Option CCell → List ℕ → Got (List CCell)) → Option (Open × List CCell) → CCell → List ℕ → Got (List CCell)
after_cell go None c i = with_rest i (whole_list c)
after_cell go (Some p) c i = and_then (follow p.0 p.1 c i) (λ s j. go s.0 s.1 j)

-- cells, in at most this many turns
unfoldable pub turns : ℕ → Open → Option CCell → List ℕ → Got (List CCell)
turns zero lists pending i = None
turns (suc f) lists None i = and_then (begin lists i) (λ s j. turns f s.0 s.1 j)
turns (suc f) lists (Some c) i = after_cell (turns f) (last_of lists) c i

unfoldable pub cells : List ℕ → Got (List CCell)
cells i = turns (length i) [] None i

unfoldable pub static_text : ℕ → List ℕ → Got CStatic
static_text n i =
    and_then (name (codes "static struct s") i) (λ kind j. numbered_name (codes " g") n j (λ k. after (stripped (codes " = ") k) (λ l.
    mapped (λ found. record { kind = kind; cells = found }) (ended (cells l) (codes ";\n")))))

-- ---- files

abbrev pub sees_static : List ℕ → Bool
sees_static i = is_some (and_then (name (codes "static struct s") i) (λ m j. literal (codes " g") m j))

abbrev pub sees_prototype : List ℕ → Bool
sees_prototype i = begins (codes "static ") i && not (sees_static i)

abbrev pub sees_more : List ℕ → Bool
sees_more [] = false
sees_more (b ∷ bs) = true

unfoldable pub structs : List ℕ → Got (List CStruct)
structs i = parts_while (begins (codes "struct ")) struct_text (length i) 0 i

unfoldable pub prototypes : List ℕ → Got (List CPrototype)
prototypes i = parts_while sees_prototype prototype (length i) 0 i

unfoldable pub statics : List ℕ → Got (List CStatic)
statics i = parts_while (begins (codes "static ")) static_text (length i) 0 i

unfoldable pub functions : List ℕ → Got (List CFunction)
functions i = some_while sees_more function (length i) 0 true i

unfoldable pub declarations : List ℕ → Got CFile
declarations i =
    and_then (structs i) (λ a j. and_then (prototypes j) (λ b k. and_then (statics k) (λ c l. mapped (λ d. record { structs = a; prototypes = b; statics = c; functions = d }) (functions l))))

unfoldable pub file : List ℕ → Got CFile
file i = after (stripped (codes "/* C-sub 1 */\n") i) (λ j. after (stripped (codes "#include \"rpy_prim.h\"\n") j) declarations)

abbrev pub at_end : Got CFile → Option CFile
at_end None = None
at_end (Some (c, [])) = Some c
at_end (Some (c, b ∷ bs)) = None

-- the file that a text spells
unfoldable pub whole : List ℕ → Option CFile
whole i = at_end (file i)
