-- The spelling of a C file. Every line ends with a newline, and an inner line has four spaces before it.
use Rattle.std.specs.Prelude.{ℕ, ℤ, pos, negsuc, ◌+◌, ◌++◌, ◌==◌, cond, List, [], ◌∷◌, Option, Some, None, codes, length, map}
use Rattle.std.specs.List.{flat_map}
use Rattle.std.specs.Fmt.{decimal, signed_decimal}
use Rattle.csub_tree.specs.declared.tree.CFile.{CFile}
use Rattle.csub_tree.specs.declared.tree.CStruct.{CStruct}
use Rattle.csub_tree.specs.declared.tree.CType.{CType}
use Rattle.csub_tree.specs.declared.tree.CType.TheVariants as type
use Rattle.csub_tree.specs.declared.tree.CPrototype.{CPrototype}
use Rattle.csub_tree.specs.declared.tree.CStatic.{CStatic}
use Rattle.csub_tree.specs.declared.tree.CCell.{CCell, fold-CCell}
use Rattle.csub_tree.specs.declared.tree.CCell.TheOpen.{CCell-F}
use Rattle.csub_tree.specs.declared.tree.CConst.{CConst}
use Rattle.csub_tree.specs.declared.tree.CConst.TheVariants as constant
use Rattle.csub_tree.specs.declared.tree.COperand.{COperand}
use Rattle.csub_tree.specs.declared.tree.COperand.TheVariants as operand
use Rattle.csub_tree.specs.declared.tree.CFunction.{CFunction}
use Rattle.csub_tree.specs.declared.tree.CUnary.{CUnary}
use Rattle.csub_tree.specs.declared.tree.CUnary.TheVariants as unary
use Rattle.csub_tree.specs.declared.tree.CBinary.{CBinary}
use Rattle.csub_tree.specs.declared.tree.CBinary.TheVariants as binary
use Rattle.csub_tree.specs.declared.tree.CStmt.{CStmt}
use Rattle.csub_tree.specs.declared.tree.CStmt.TheVariants as stmt

-- a name is a letter and a number: s3, f0, g1, v2, a0, b4
abbrev pub struct_name : ℕ → List ℕ
struct_name n = codes "s" ++ decimal n

abbrev pub function_name : ℕ → List ℕ
function_name n = codes "f" ++ decimal n

abbrev pub static_name : ℕ → List ℕ
static_name n = codes "g" ++ decimal n

abbrev pub variable_name : ℕ → List ℕ
variable_name n = codes "v" ++ decimal n

abbrev pub field_name : ℕ → List ℕ
field_name n = codes "a" ++ decimal n

abbrev pub block_name : ℕ → List ℕ
block_name n = codes "b" ++ decimal n

-- the parts of a list with a comma and a space between
abbrev pub more : {A : Type 0} → (A → List ℕ) → A → List ℕ
more f x = codes ", " ++ f x

abbrev pub listed : {A : Type 0} → (A → List ℕ) → List A → List ℕ
listed f [] = []
listed f (x ∷ xs) = f x ++ flat_map (more f) xs

-- the same, and `void` where there is none
abbrev pub listed_or_void : {A : Type 0} → (A → List ℕ) → List A → List ℕ
listed_or_void f [] = codes "void"
listed_or_void f (x ∷ xs) = f x ++ flat_map (more f) xs

-- each part after the other, with its number, counted from k
abbrev pub numbered : {A : Type 0} → (ℕ → A → List ℕ) → ℕ → List A → List ℕ
numbered f k [] = []
numbered f k (x ∷ xs) = f k x ++ numbered f (k + 1) xs

-- a type before a name: `Signed v0`, `struct s1 *v0`
abbrev pub before_name : CType → List ℕ
before_name type.Signed = codes "Signed "
before_name type.Char = codes "Char "
before_name type.Bool = codes "Bool "
before_name type.Fn = codes "Fn "
before_name (type.Ptr n) = codes "struct " ++ struct_name n ++ codes " *"

abbrev pub result_before_name : Option CType → List ℕ
result_before_name None = codes "void "
result_before_name (Some t) = before_name t

-- a type by itself, as in a cast: `Signed`, `struct s1 *`
abbrev pub type_alone : CType → List ℕ
type_alone type.Signed = codes "Signed"
type_alone type.Char = codes "Char"
type_alone type.Bool = codes "Bool"
type_alone type.Fn = codes "Fn"
type_alone (type.Ptr n) = codes "struct " ++ struct_name n ++ codes " *"

abbrev pub result_alone : Option CType → List ℕ
result_alone None = codes "void"
result_alone (Some t) = type_alone t

-- a word: its decimal and L, but for the smallest
abbrev pub word : ℤ → List ℕ
word (pos n) = signed_decimal (pos n) ++ codes "L"
word (negsuc n) = cond (n == 9223372036854775807) (codes "RPY_MIN") (signed_decimal (negsuc n) ++ codes "L")

abbrev pub cast : ℕ → List ℕ
cast n = codes "(struct " ++ struct_name n ++ codes " *)"

abbrev pub constant_text : CConst → List ℕ
constant_text (constant.Word z) = word z
constant_text (constant.Char n) = codes "(Char)" ++ decimal n
constant_text (constant.Bool b) = cond b (codes "RPY_TRUE") (codes "RPY_FALSE")
constant_text constant.Null = codes "NULL"
constant_text (constant.Static s g) = cast s ++ codes "&" ++ static_name g
constant_text (constant.Fun f) = codes "(Fn)" ++ function_name f

abbrev pub operand_text : COperand → List ℕ
operand_text (operand.Var v) = variable_name v
operand_text (operand.Const c) = constant_text c

-- the cells of a static: constants, and braces within braces
abbrev pub cells_text : List (List ℕ) → List ℕ
cells_text [] = codes "{ }"
cells_text (x ∷ xs) = codes "{ " ++ listed (λ text. text) (x ∷ xs) ++ codes " }"

abbrev pub cell_step : CCell-F (List ℕ) → List ℕ
cell_step (CCell-F.Const c) = constant_text c
cell_step (CCell-F.Braces cells) = cells_text cells

abbrev pub cell_text : CCell → List ℕ
cell_text = fold-CCell (List ℕ) cell_step

abbrev pub unary_name : CUnary → List ℕ
unary_name unary.Neg = codes "RPY_NEG"
unary_name unary.Inv = codes "RPY_INV"
unary_name unary.Not = codes "RPY_NOT"
unary_name unary.C2S = codes "RPY_C2S"
unary_name unary.S2C = codes "RPY_S2C"
unary_name unary.B2S = codes "RPY_B2S"

abbrev pub binary_name : CBinary → List ℕ
binary_name binary.Add = codes "RPY_ADD"
binary_name binary.Sub = codes "RPY_SUB"
binary_name binary.Mul = codes "RPY_MUL"
binary_name binary.Div = codes "RPY_DIV"
binary_name binary.Mod = codes "RPY_MOD"
binary_name binary.Shl = codes "RPY_SHL"
binary_name binary.Shr = codes "RPY_SHR"
binary_name binary.And = codes "RPY_AND"
binary_name binary.Or = codes "RPY_OR"
binary_name binary.Xor = codes "RPY_XOR"
binary_name binary.AddOvf = codes "RPY_ADD_OVF"
binary_name binary.SubOvf = codes "RPY_SUB_OVF"
binary_name binary.MulOvf = codes "RPY_MUL_OVF"
binary_name binary.ShlOvf = codes "RPY_SHL_OVF"
binary_name binary.Eq = codes "RPY_EQ"
binary_name binary.Ne = codes "RPY_NE"
binary_name binary.Lt = codes "RPY_LT"
binary_name binary.Le = codes "RPY_LE"
binary_name binary.Gt = codes "RPY_GT"
binary_name binary.Ge = codes "RPY_GE"
binary_name binary.Beq = codes "RPY_BEQ"
binary_name binary.Peq = codes "RPY_PEQ"
binary_name binary.Feq = codes "RPY_FEQ"

-- `v0 = `
abbrev pub target : ℕ → List ℕ
target v = variable_name v ++ codes " = "

abbrev pub target_if_any : Option ℕ → List ℕ
target_if_any None = []
target_if_any (Some v) = target v

-- a block that is looked into: `((struct s1 *)v0)->`
abbrev pub looked_into : ℕ → ℕ → List ℕ
looked_into s v = codes "(" ++ cast s ++ variable_name v ++ codes ")->"

abbrev pub item_of : ℕ → ℕ → COperand → List ℕ
item_of s v i = looked_into s v ++ codes "items[" ++ operand_text i ++ codes "]"

-- the operands of a call, in brackets
abbrev pub arguments : List COperand → List ℕ
arguments xs = codes "(" ++ listed operand_text xs ++ codes ")"

-- a call of what a variable holds: `((R (*)(T, T))v0)`
abbrev pub callee : Option CType → List CType → ℕ → List ℕ
callee result types v = codes "((" ++ result_alone result ++ codes " (*)(" ++ listed_or_void type_alone types ++ codes "))" ++ variable_name v ++ codes ")"

abbrev pub return_text : Option COperand → List ℕ
return_text None = codes "return;"
return_text (Some x) = codes "return " ++ operand_text x ++ codes ";"

abbrev pub statement_text : CStmt → List ℕ
statement_text (stmt.Set a x) = target a ++ operand_text x ++ codes ";"
statement_text (stmt.Unary a op x) = target a ++ unary_name op ++ codes "(" ++ operand_text x ++ codes ");"
statement_text (stmt.Binary a op x y) = target a ++ binary_name op ++ codes "(" ++ operand_text x ++ codes ", " ++ operand_text y ++ codes ");"
statement_text (stmt.GetField a s b k) = target a ++ looked_into s b ++ field_name k ++ codes ";"
statement_text (stmt.SetField s b k x) = looked_into s b ++ field_name k ++ codes " = " ++ operand_text x ++ codes ";"
statement_text (stmt.GetItem a s b i) = target a ++ item_of s b i ++ codes ";"
statement_text (stmt.SetItem s b i x) = item_of s b i ++ codes " = " ++ operand_text x ++ codes ";"
statement_text (stmt.New a m s) = target a ++ cast m ++ codes "RPY_NEW(struct " ++ struct_name s ++ codes ");"
statement_text (stmt.NewArray a m s x) = target a ++ cast m ++ codes "RPY_NEWARRAY(struct " ++ struct_name s ++ codes ", " ++ operand_text x ++ codes ");"
statement_text (stmt.Free a) = codes "RPY_FREE(" ++ variable_name a ++ codes ");"
statement_text (stmt.Step x) = codes "RPY_STEP(" ++ operand_text x ++ codes ");"
statement_text (stmt.Call a f xs) = target_if_any a ++ function_name f ++ arguments xs ++ codes ";"
statement_text (stmt.CallFn a result types b xs) = target_if_any a ++ callee result types b ++ arguments xs ++ codes ";"
statement_text (stmt.ExcType a s) = target a ++ cast s ++ codes "RPY_EXC_TYPE();"
statement_text (stmt.ExcValue a s) = target a ++ cast s ++ codes "RPY_EXC_VALUE();"
statement_text (stmt.ExcSet a b) = codes "RPY_EXC_SET(" ++ variable_name a ++ codes ", " ++ variable_name b ++ codes ");"
statement_text stmt.ExcClear = codes "RPY_EXC_CLEAR();"
statement_text (stmt.Argc a) = target a ++ codes "RPY_ARGC();"
statement_text (stmt.ArgLen a x) = target a ++ codes "RPY_ARGLEN(" ++ operand_text x ++ codes ");"
statement_text (stmt.Arg a x y) = target a ++ codes "RPY_ARG(" ++ operand_text x ++ codes ", " ++ operand_text y ++ codes ");"
statement_text (stmt.Put x) = codes "RPY_PUT(" ++ operand_text x ++ codes ");"
statement_text (stmt.Goto b) = codes "goto " ++ block_name b ++ codes ";"
statement_text (stmt.If a b c) = codes "if (" ++ variable_name a ++ codes ") goto " ++ block_name b ++ codes "; else goto " ++ block_name c ++ codes ";"
statement_text (stmt.Return x) = return_text x
statement_text (stmt.Fail n) = codes "RPY_FAIL(" ++ decimal n ++ codes ");"
statement_text (stmt.Raised a) = codes "RPY_RAISED(" ++ variable_name a ++ codes ");"

-- a line by itself, and an inner line
abbrev pub line : List ℕ → List ℕ
line text = text ++ codes "\n"

abbrev pub inner_line : List ℕ → List ℕ
inner_line text = codes "    " ++ text ++ codes "\n"

-- a struct: its inline base is field 0, and the others are then counted from 1
abbrev pub base_line : Option ℕ → List ℕ
base_line None = []
base_line (Some m) = inner_line (codes "struct " ++ struct_name m ++ codes " a0;")

abbrev pub first_field : Option ℕ → ℕ
first_field None = 0
first_field (Some m) = 1

abbrev pub field_line : ℕ → CType → List ℕ
field_line k t = inner_line (before_name t ++ field_name k ++ codes ";")

abbrev pub items_line : Option CType → List ℕ
items_line None = []
items_line (Some t) = inner_line (before_name t ++ codes "items[];")

abbrev pub struct_text : ℕ → CStruct → List ℕ
struct_text n s = line (codes "struct " ++ struct_name n ++ codes " {") ++ base_line s.base ++ numbered field_line (first_field s.base) s.fields ++ items_line s.items ++ line (codes "};")

-- the head of a function: `static R fN(T v0, T v1)`
abbrev pub parameter : ℕ → CType → List ℕ
parameter k t = before_name t ++ variable_name k

abbrev pub more_parameter : ℕ → CType → List ℕ
more_parameter k t = codes ", " ++ parameter k t

abbrev pub parameters : List CType → List ℕ
parameters [] = codes "void"
parameters (t ∷ ts) = parameter 0 t ++ numbered more_parameter 1 ts

abbrev pub head : ℕ → Option CType → List CType → List ℕ
head n result params = codes "static " ++ result_before_name result ++ function_name n ++ codes "(" ++ parameters params ++ codes ")"

abbrev pub prototype_text : ℕ → CPrototype → List ℕ
prototype_text n p = line (head n p.result p.params ++ codes ";")

abbrev pub static_text : ℕ → CStatic → List ℕ
static_text n g = codes "static struct s" ++ (decimal g.kind ++ codes " g" ++ decimal n ++ codes " = ") ++ (cells_text (map cell_text g.cells) ++ codes ";\n")

abbrev pub local_line : ℕ → CType → List ℕ
local_line k t = inner_line (parameter k t ++ codes ";")

abbrev pub statement_line : CStmt → List ℕ
statement_line s = inner_line (statement_text s)

abbrev pub block_text : ℕ → List CStmt → List ℕ
block_text k stmts = line (block_name k ++ codes ":") ++ flat_map statement_line stmts

abbrev pub function_start : ℕ → CFunction → List ℕ
function_start n f = line (codes "/* " ++ f.name ++ codes " */") ++ line (head n f.result f.params) ++ line (codes "{")

abbrev pub function_body : CFunction → List ℕ
function_body f = numbered local_line (length f.params) f.locals ++ numbered block_text 0 f.blocks

abbrev pub function_text : ℕ → CFunction → List ℕ
function_text n f = function_start n f ++ function_body f ++ line (codes "}")

abbrev pub file_head : List ℕ
file_head = codes "/* C-sub 1 */\n#include \"rpy_prim.h\"\n"

abbrev pub file_text : CFile → List ℕ
file_text c = file_head ++ numbered struct_text 0 c.structs ++ numbered prototype_text 0 c.prototypes ++ numbered static_text 0 c.statics ++ numbered function_text 0 c.functions
