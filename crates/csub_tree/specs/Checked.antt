-- The rules that a C file keeps, declaration by declaration: structs, prototypes, statics and functions, in the order of the text.
use Rattle.std.specs.Prelude.{◌≡◌, ℕ, zero, suc, ◌+◌, ◌==◌, ◌||◌, ◌&&◌, not, nat_lt, nat_le, Bool, true, false, List, [], ◌∷◌, ◌++◌, length, map, slice_get, Option, Some, None, is_some, is_none, if◌then◌else◌, Result, Ok, Err}
use Rattle.csub_tree.specs.Statement.{same_type, same_types, same_result}
use Rattle.csub_tree.specs.declared.tree.CFile.{CFile}
use Rattle.csub_tree.specs.declared.tree.CStruct.{CStruct}
use Rattle.csub_tree.specs.declared.tree.CType.{CType}
use Rattle.csub_tree.specs.declared.tree.CType.TheVariants as type
use Rattle.csub_tree.specs.declared.tree.CPrototype.{CPrototype}
use Rattle.csub_tree.specs.declared.tree.CStatic.{CStatic}
use Rattle.csub_tree.specs.declared.tree.CCell.{CCell, fold-CCell}
use Rattle.csub_tree.specs.declared.tree.CCell.TheOpen.{CCell-F}
use Rattle.csub_tree.specs.declared.tree.CConst.{CConst}
use Rattle.csub_tree.specs.declared.tree.CConst.TheVariants as constant
use Rattle.csub_tree.specs.declared.tree.COperand.{COperand}
use Rattle.csub_tree.specs.declared.tree.COperand.TheVariants.{Var, Const}
use Rattle.csub_tree.specs.declared.tree.CFunction.{CFunction}
use Rattle.csub_tree.specs.declared.tree.CUnary.{CUnary}
use Rattle.csub_tree.specs.declared.tree.CUnary.TheVariants as unary
use Rattle.csub_tree.specs.declared.tree.CBinary.{CBinary}
use Rattle.csub_tree.specs.declared.tree.CBinary.TheVariants as binary
use Rattle.csub_tree.specs.declared.tree.CStmt.{CStmt}
use Rattle.csub_tree.specs.declared.tree.CStmt.TheVariants as stmt

-- ---- types and structs

abbrev pub is_type : List CStruct → CType → Bool
is_type structs (type.Ptr n) = nat_lt n (length structs)
is_type structs other = true

abbrev pub are_types : List CStruct → List CType → Bool
are_types structs [] = true
are_types structs (t ∷ ts) = is_type structs t && are_types structs ts

abbrev pub is_type_if_any : List CStruct → Option CType → Bool
is_type_if_any structs None = true
is_type_if_any structs (Some t) = is_type structs t

abbrev pub base_of : Option CStruct → Option ℕ
base_of None = None
base_of (Some s) = s.base

abbrev pub items_of : Option CStruct → Option CType
items_of None = None
items_of (Some s) = s.items

abbrev pub if_any : (ℕ → Bool) → Option ℕ → Bool
if_any test None = false
if_any test (Some n) = test n

-- struct n is m or begins with m; a base has a smaller number, so as many looks as n suffice
unfoldable pub begins_within : List CStruct → ℕ → ℕ → ℕ → Bool
begins_within structs zero n m = n == m
begins_within structs (suc k) n m = (n == m) || if_any (λ b. begins_within structs k b m) (base_of (slice_get structs n))

abbrev pub begins : List CStruct → ℕ → ℕ → Bool
begins structs n m = nat_lt n (length structs) && begins_within structs n n m

-- an inline base is an earlier struct without items
abbrev pub is_base : List CStruct → ℕ → Option ℕ → Bool
is_base structs n None = true
is_base structs n (Some m) = nat_lt m n && is_none (items_of (slice_get structs m))

abbrev pub struct_ok : List CStruct → ℕ → CStruct → Bool
struct_ok structs n s = is_base structs n s.base && are_types structs s.fields && is_type_if_any structs s.items

-- the type of field k: with a base, field 0 is the base and has none
abbrev pub own_field : CStruct → Option ℕ → ℕ → Option CType
own_field s None k = slice_get s.fields k
own_field s (Some m) zero = None
own_field s (Some m) (suc k) = slice_get s.fields k

abbrev pub field_of : Option CStruct → ℕ → Option CType
field_of None k = None
field_of (Some s) k = own_field s s.base k

-- ---- constants and operands

abbrev pub kind_of : Option CStatic → Option ℕ
kind_of None = None
kind_of (Some g) = Some g.kind

abbrev pub is_cast : List CStruct → Option ℕ → ℕ → Bool
is_cast structs None s = false
is_cast structs (Some kind) s = begins structs kind s

-- a constant is of a type; a static may be named where its number is below this one
abbrev pub is_of : CFile → ℕ → CType → CConst → Bool
is_of file below type.Signed (constant.Word z) = true
is_of file below type.Char (constant.Char b) = true
is_of file below type.Bool (constant.Bool b) = true
is_of file below type.Fn constant.Null = true
is_of file below type.Fn (constant.Fun f) = nat_lt f (length file.prototypes)
is_of file below (type.Ptr n) constant.Null = true
is_of file below (type.Ptr n) (constant.Static s g) = n == s && nat_lt g below && is_cast file.structs (kind_of (slice_get file.statics g)) s
is_of file below t other = false

-- of a type, where any static may be named
abbrev pub is_of_any : CFile → CType → CConst → Bool
is_of_any file t c = is_of file (length file.statics) t c

-- the variables of a function
abbrev pub variables : CFunction → List CType
variables f = f.params ++ f.locals

abbrev pub has_type : CType → Option CType → Bool
has_type t None = false
has_type t (Some u) = same_type t u

abbrev pub takes : CFile → List CType → CType → COperand → Bool
takes file vars t (Var v) = has_type t (slice_get vars v)
takes file vars t (Const c) = is_of_any file t c

abbrev pub all_taken : CFile → List CType → List CType → List COperand → Bool
all_taken file vars [] [] = true
all_taken file vars (t ∷ ts) (x ∷ xs) = takes file vars t x && all_taken file vars ts xs
all_taken file vars ts xs = false

-- the variable is a pointer
abbrev pub points : Option CType → Bool
points (Some (type.Ptr n)) = true
points other = false

-- an operand that could be compared as a pointer: its struct, or NULL, which has none; nothing where it is no pointer
abbrev pub pointer_type : Option CType → Option (Option ℕ)
pointer_type (Some (type.Ptr n)) = Some (Some n)
pointer_type other = None

abbrev pub pointed : CFile → List CType → COperand → Option (Option ℕ)
pointed file vars (Var v) = pointer_type (slice_get vars v)
pointed file vars (Const constant.Null) = Some None
pointed file vars (Const (constant.Static s g)) = if is_of_any file (type.Ptr s) (constant.Static s g) then Some (Some s) else None
pointed file vars other = None

abbrev pub same_pointers : Option (Option ℕ) → Option (Option ℕ) → Bool
same_pointers (Some (Some n)) (Some (Some m)) = n == m
same_pointers (Some x) (Some y) = true
same_pointers x y = false

-- ---- statements

abbrev pub unary_takes : CUnary → CType
unary_takes unary.Neg = type.Signed
unary_takes unary.Inv = type.Signed
unary_takes unary.Not = type.Bool
unary_takes unary.C2S = type.Char
unary_takes unary.S2C = type.Signed
unary_takes unary.B2S = type.Bool

abbrev pub unary_gives : CUnary → CType
unary_gives unary.Not = type.Bool
unary_gives unary.S2C = type.Char
unary_gives other = type.Signed

abbrev pub gives_bool : CBinary → Bool
gives_bool binary.AddOvf = true
gives_bool binary.SubOvf = true
gives_bool binary.MulOvf = true
gives_bool binary.ShlOvf = true
gives_bool binary.Eq = true
gives_bool binary.Ne = true
gives_bool binary.Lt = true
gives_bool binary.Le = true
gives_bool binary.Gt = true
gives_bool binary.Ge = true
gives_bool binary.Beq = true
gives_bool binary.Peq = true
gives_bool binary.Feq = true
gives_bool other = false

abbrev pub binary_gives : CBinary → CType
binary_gives op = if gives_bool op then type.Bool else type.Signed

abbrev pub both_taken : CFile → List CType → CBinary → COperand → COperand → Bool
both_taken file vars binary.Beq x y = takes file vars type.Bool x && takes file vars type.Bool y
both_taken file vars binary.Peq x y = same_pointers (pointed file vars x) (pointed file vars y)
both_taken file vars binary.Feq x y = takes file vars type.Fn x && takes file vars type.Fn y
both_taken file vars op x y = takes file vars type.Signed x && takes file vars type.Signed y

-- a variable of the type that is given, if one is
abbrev pub has_given : List CType → ℕ → Option CType → Bool
has_given vars a None = false
has_given vars a (Some t) = has_type t (slice_get vars a)

-- what a call gives may be dropped
abbrev pub result_ok : List CType → Option ℕ → Option CType → Bool
result_ok vars None result = true
result_ok vars (Some a) result = has_given vars a result

abbrev pub call_ok : CFile → List CType → Option ℕ → Option CPrototype → List COperand → Bool
call_ok file vars into None xs = false
call_ok file vars into (Some p) xs = result_ok vars into p.result && all_taken file vars p.params xs

-- a type that is given takes the operand
abbrev pub given_takes : CFile → List CType → Option CType → COperand → Bool
given_takes file vars None x = false
given_takes file vars (Some t) x = takes file vars t x

abbrev pub return_ok : CFile → List CType → Option CType → Option COperand → Bool
return_ok file vars None None = true
return_ok file vars (Some t) (Some x) = takes file vars t x
return_ok file vars result x = false

abbrev pub is_char : Option CType → Bool
is_char (Some type.Char) = true
is_char other = false

abbrev pub names_chars : List CStruct → Option CType → Bool
names_chars structs (Some (type.Ptr n)) = is_char (items_of (slice_get structs n))
names_chars structs other = false

abbrev pub ends_block : CStmt → Bool
ends_block (stmt.Goto b) = true
ends_block (stmt.If a b c) = true
ends_block (stmt.Return x) = true
ends_block (stmt.Fail n) = true
ends_block (stmt.Raised a) = true
ends_block other = false

module _ (file : CFile) (vars : List CType) (result : Option CType) (blocks : ℕ) where
  abbrev pub statement_ok : CStmt → Bool
  statement_ok (stmt.Set a x) = given_takes file vars (slice_get vars a) x
  statement_ok (stmt.Unary a op x) = has_type (unary_gives op) (slice_get vars a) && takes file vars (unary_takes op) x
  statement_ok (stmt.Binary a op x y) = has_type (binary_gives op) (slice_get vars a) && both_taken file vars op x y
  statement_ok (stmt.GetField a s b k) = points (slice_get vars b) && has_given vars a (field_of (slice_get file.structs s) k)
  statement_ok (stmt.SetField s b k x) = points (slice_get vars b) && given_takes file vars (field_of (slice_get file.structs s) k) x
  statement_ok (stmt.GetItem a s b i) = points (slice_get vars b) && takes file vars type.Signed i && has_given vars a (items_of (slice_get file.structs s))
  statement_ok (stmt.SetItem s b i x) = points (slice_get vars b) && takes file vars type.Signed i && given_takes file vars (items_of (slice_get file.structs s)) x
  statement_ok (stmt.New a m s) = has_type (type.Ptr m) (slice_get vars a) && begins file.structs s m && is_none (items_of (slice_get file.structs s))
  statement_ok (stmt.NewArray a m s x) = has_type (type.Ptr m) (slice_get vars a) && begins file.structs s m && is_some (items_of (slice_get file.structs s)) && takes file vars type.Signed x
  statement_ok (stmt.Free a) = points (slice_get vars a)
  statement_ok (stmt.Step x) = takes file vars type.Signed x
  statement_ok (stmt.Call into f xs) = call_ok file vars into (slice_get file.prototypes f) xs
  statement_ok (stmt.CallFn into given params b xs) =
      has_type type.Fn (slice_get vars b) && is_type_if_any file.structs given && are_types file.structs params && result_ok vars into given && all_taken file vars params xs
  statement_ok (stmt.ExcType a s) = nat_lt s (length file.structs) && has_type (type.Ptr s) (slice_get vars a)
  statement_ok (stmt.ExcValue a s) = nat_lt s (length file.structs) && has_type (type.Ptr s) (slice_get vars a)
  statement_ok (stmt.ExcSet a b) = points (slice_get vars a) && points (slice_get vars b)
  statement_ok stmt.ExcClear = true
  statement_ok (stmt.Argc a) = has_type type.Signed (slice_get vars a)
  statement_ok (stmt.ArgLen a x) = has_type type.Signed (slice_get vars a) && takes file vars type.Signed x
  statement_ok (stmt.Arg a x y) = has_type type.Signed (slice_get vars a) && takes file vars type.Signed x && takes file vars type.Signed y
  statement_ok (stmt.Put x) = takes file vars type.Signed x
  statement_ok (stmt.Goto b) = nat_lt b blocks
  statement_ok (stmt.If a b c) = has_type type.Bool (slice_get vars a) && nat_lt b blocks && nat_lt c blocks
  statement_ok (stmt.Return x) = return_ok file vars result x
  statement_ok (stmt.Fail n) = nat_le 1 n && nat_le n 5
  statement_ok (stmt.Raised a) = names_chars file.structs (slice_get vars a)

  abbrev pub is_end : CStmt → Bool
  is_end s = ends_block s

  -- the last statement of a block, and no other, ends it
  abbrev pub block_ok : List CStmt → Bool
  block_ok [] = false
  block_ok (s ∷ []) = is_end s && statement_ok s
  block_ok (s ∷ t ∷ ss) = not (is_end s) && statement_ok s && block_ok (t ∷ ss)

  abbrev pub blocks_ok : List (List CStmt) → Bool
  blocks_ok [] = true
  blocks_ok (b ∷ bs) = block_ok b && blocks_ok bs

-- a statement of a function
abbrev pub keeps : CFile → CFunction → CStmt → Bool
keeps file f s = statement_ok file (variables f) f.result (length f.blocks) s

-- a block of a function
abbrev pub keeps_block : CFile → CFunction → List CStmt → Bool
keeps_block file f ss = block_ok file (variables f) f.result (length f.blocks) ss

abbrev pub keeps_blocks : CFile → CFunction → List (List CStmt) → Bool
keeps_blocks file f bs = blocks_ok file (variables f) f.result (length f.blocks) bs

-- ---- functions and prototypes

abbrev pub is_name_byte : ℕ → Bool
is_name_byte b = (nat_le 97 b && nat_le b 122) || (nat_le 65 b && nat_le b 90) || (nat_le 48 b && nat_le b 57) || b == 95 || b == 46

abbrev pub is_name : List ℕ → Bool
is_name [] = true
is_name (b ∷ bs) = is_name_byte b && is_name bs

abbrev pub is_declared : CFunction → Option CPrototype → Bool
is_declared f None = false
is_declared f (Some p) = same_result f.result p.result && same_types f.params p.params

-- the last function takes nothing and gives a Signed
abbrev pub begins_run : CFunction → Bool
begins_run f = same_types f.params [] && same_result f.result (Some type.Signed)

-- another function follows, or the run may begin here
abbrev pub may_stand : CFile → ℕ → CFunction → Bool
may_stand file n f = begins_run f || nat_lt (n + 1) (length file.functions)

abbrev pub function_ok : CFile → ℕ → CFunction → Bool
function_ok file n f =
    is_name f.name && is_declared f (slice_get file.prototypes n) && are_types file.structs (variables f) && is_type_if_any file.structs f.result
    && may_stand file n f && nat_lt 0 (length f.blocks) && keeps_blocks file f f.blocks

abbrev pub prototype_ok : CFile → ℕ → CPrototype → Bool
prototype_ok file n p = nat_lt n (length file.functions) && are_types file.structs p.params && is_type_if_any file.structs p.result

-- ---- statics

-- the cells of a static as plain data
mutual
  pub data Cell : Type 0 where
    Plain : CConst → Cell
    Braced : Cells → Cell

  pub data Cells : Type 0 where
    end : Cells
    then_cell : Cell → Cells → Cells

abbrev pub cells_of : List Cell → Cells
cells_of [] = end
cells_of (c ∷ cs) = then_cell c (cells_of cs)

abbrev pub cell_step : CCell-F Cell → Cell
cell_step (CCell-F.Const c) = Plain c
cell_step (CCell-F.Braces cells) = Braced (cells_of cells)

abbrev pub plain_cell : CCell → Cell
plain_cell = fold-CCell Cell cell_step

abbrev pub plain_cells : List CCell → Cells
plain_cells cells = cells_of (map plain_cell cells)

abbrev pub is_plain : CFile → ℕ → CType → Cell → Bool
is_plain file n t (Plain c) = is_of file n t c
is_plain file n t (Braced cells) = false

abbrev pub all_plain : CFile → ℕ → CType → Cells → Bool
all_plain file n t end = true
all_plain file n t (then_cell c cells) = is_plain file n t c && all_plain file n t cells

-- the items, in braces, where the struct has items
abbrev pub items_ok : CFile → ℕ → Option CType → Cells → Bool
items_ok file n None end = true
items_ok file n (Some t) (then_cell (Braced cells) end) = all_plain file n t cells
items_ok file n items cells = false

-- a constant for each field, and then the items
abbrev pub fields_ok : CFile → ℕ → List CType → Option CType → Cells → Bool
fields_ok file n [] items cells = items_ok file n items cells
fields_ok file n (t ∷ ts) items end = false
fields_ok file n (t ∷ ts) items (then_cell c cells) = is_plain file n t c && fields_ok file n ts items cells

-- the cells of an inline base come first, in braces
abbrev pub based_ok : CFile → ℕ → (ℕ → Cells → Bool) → CStruct → Option ℕ → Cells → Bool
based_ok file n base_ok s None cells = fields_ok file n s.fields s.items cells
based_ok file n base_ok s (Some m) (then_cell (Braced base) cells) = base_ok m base && fields_ok file n s.fields s.items cells
based_ok file n base_ok s (Some m) other = false

abbrev pub shaped_ok : CFile → ℕ → (ℕ → Cells → Bool) → Option CStruct → Cells → Bool
shaped_ok file n base_ok None cells = false
shaped_ok file n base_ok (Some s) cells = based_ok file n base_ok s s.base cells

unfoldable pub cells_within : CFile → ℕ → ℕ → ℕ → Cells → Bool
cells_within file n zero kind cells = false
cells_within file n (suc k) kind cells = shaped_ok file n (cells_within file n k) (slice_get file.structs kind) cells

-- a static names earlier statics alone
abbrev pub static_ok : CFile → ℕ → CStatic → Bool
static_ok file n g = cells_within file n (suc g.kind) g.kind (plain_cells g.cells)

-- ---- the file

-- the first of these that breaks a rule, as a count of those before it
abbrev pub first_bad : {A : Type 0} → (ℕ → A → Bool) → ℕ → List A → Option ℕ
first_bad ok n [] = None
first_bad ok n (x ∷ xs) = if ok n x then first_bad ok (n + 1) xs else Some n

abbrev pub or_else : ℕ → Option ℕ → Option ℕ → Option ℕ
or_else before (Some n) rest = Some (before + n)
or_else before None rest = rest

abbrev pub no_functions : ℕ → List CFunction → Option ℕ
no_functions before [] = Some (before + 1)
no_functions before (f ∷ fs) = None

-- the number of the first declaration that breaks a rule, counted from 1; a file without functions breaks one after its last
abbrev pub first_unchecked : CFile → Option ℕ
first_unchecked file =
    or_else 1 (first_bad (struct_ok file.structs) 0 file.structs)
    (or_else (1 + length file.structs) (first_bad (prototype_ok file) 0 file.prototypes)
    (or_else (1 + length file.structs + length file.prototypes) (first_bad (static_ok file) 0 file.statics)
    (or_else (1 + length file.structs + length file.prototypes + length file.statics) (first_bad (function_ok file) 0 file.functions)
    (no_functions (length file.structs + length file.prototypes + length file.statics) file.functions))))

-- nothing, where every declaration keeps the rules, and otherwise the number of the first that does not
abbrev pub Answers : Result Unit ℕ → Option ℕ → Type 0
Answers (Ok done) first = first ≡ None
Answers (Err number) first = first ≡ Some number

-- every declaration keeps the rules
abbrev pub IsChecked : CFile → Type 0
IsChecked file = first_unchecked file ≡ None
