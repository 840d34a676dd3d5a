-- When a low-level program is well typed: its variables, operands, links, structs, statics, numbers and names keep the rules of C files.
use Rattle.std.specs.Prelude.{◌≡◌, ℕ, zero, suc, ◌+◌, ◌==◌, ◌||◌, ◌&&◌, not, nat_lt, nat_le, Bool, true, false, List, [], ◌∷◌, length, map, slice_get, Option, Some, None, is_some, is_none, if◌then◌else◌}
use Rattle.csub_tree.specs.Checked.{Cell, Cells, Plain, Braced, end, then_cell, plain_cells, kind_of, gives_bool, is_name, if_any}
use Rattle.csub_tree.specs.declared.tree.CCell.{CCell}
use Rattle.csub_tree.specs.declared.tree.CStatic.{CStatic}
use Rattle.csub_tree.specs.declared.tree.CConst.{CConst}
use Rattle.csub_tree.specs.declared.tree.CConst.TheVariants as constant
use Rattle.csub_tree.specs.declared.tree.COperand.{COperand}
use Rattle.csub_tree.specs.declared.tree.COperand.TheVariants.{Var, Const}
use Rattle.csub_tree.specs.declared.tree.CUnary.{CUnary}
use Rattle.csub_tree.specs.declared.tree.CUnary.TheVariants as unary
use Rattle.csub_tree.specs.declared.tree.CBinary.{CBinary}
use Rattle.csub_tree.specs.declared.tree.CBinary.TheVariants as binary
use Rattle.ll_code.specs.declared.program.LlStage.{LlStage}
use Rattle.ll_code.specs.declared.program.LlStage.TheVariants as stage
use Rattle.ll_code.specs.declared.program.LlType.{LlType}
use Rattle.ll_code.specs.declared.program.LlType.TheVariants as type
use Rattle.ll_code.specs.declared.program.LlStruct.{LlStruct}
use Rattle.ll_code.specs.declared.program.LlLink.{LlLink}
use Rattle.ll_code.specs.declared.program.LlOp.{LlOp}
use Rattle.ll_code.specs.declared.program.LlOp.TheVariants as op
use Rattle.ll_code.specs.declared.program.LlExit.{LlExit}
use Rattle.ll_code.specs.declared.program.LlExit.TheVariants as exit
use Rattle.ll_code.specs.declared.program.LlBlock.{LlBlock}
use Rattle.ll_code.specs.declared.program.LlGraph.{LlGraph}
use Rattle.ll_code.specs.declared.program.LlProgram.{LlProgram}

-- ---- types and structs

abbrev pub is_type : List LlStruct → LlType → Bool
is_type structs (type.Ptr n) = nat_lt n (length structs)
is_type structs type.Void = false
is_type structs other = true

abbrev pub are_types : List LlStruct → List LlType → Bool
are_types structs [] = true
are_types structs (t ∷ ts) = is_type structs t && are_types structs ts

-- a variable that is never there may have no type
abbrev pub is_kind : List LlStruct → LlType → Bool
is_kind structs type.Void = true
is_kind structs t = is_type structs t

abbrev pub are_kinds : List LlStruct → List LlType → Bool
are_kinds structs [] = true
are_kinds structs (t ∷ ts) = is_kind structs t && are_kinds structs ts

-- nothing is of type Void
abbrev pub same_type : LlType → LlType → Bool
same_type type.Signed type.Signed = true
same_type type.Char type.Char = true
same_type type.Bool type.Bool = true
same_type type.Fn type.Fn = true
same_type (type.Ptr m) (type.Ptr n) = m == n
same_type s t = false

abbrev pub is_type_if_any : List LlStruct → Option LlType → Bool
is_type_if_any structs None = true
is_type_if_any structs (Some t) = is_type structs t

abbrev pub base_of : Option LlStruct → Option ℕ
base_of None = None
base_of (Some s) = s.base

abbrev pub items_of : Option LlStruct → Option LlType
items_of None = None
items_of (Some s) = s.items

-- struct n is m or begins with m; a base has a smaller number, so as many looks as n suffice
unfoldable pub begins_within : List LlStruct → ℕ → ℕ → ℕ → Bool
begins_within structs zero n m = n == m
begins_within structs (suc k) n m = (n == m) || if_any (λ b. begins_within structs k b m) (base_of (slice_get structs n))

abbrev pub begins : List LlStruct → ℕ → ℕ → Bool
begins structs n m = nat_lt n (length structs) && begins_within structs n n m

-- an inline base is an earlier struct without items
abbrev pub is_base : List LlStruct → ℕ → Option ℕ → Bool
is_base structs n None = true
is_base structs n (Some m) = nat_lt m n && is_none (items_of (slice_get structs m))

abbrev pub struct_ok : List LlStruct → ℕ → LlStruct → Bool
struct_ok structs n s = is_base structs n s.base && are_types structs s.fields && is_type_if_any structs s.items

-- the type of field k: with a base, field 0 is the base and has none
abbrev pub own_field : LlStruct → Option ℕ → ℕ → Option LlType
own_field s None k = slice_get s.fields k
own_field s (Some m) zero = None
own_field s (Some m) (suc k) = slice_get s.fields k

abbrev pub field_of : Option LlStruct → ℕ → Option LlType
field_of None k = None
field_of (Some s) k = own_field s s.base k

abbrev pub is_type_given : List LlStruct → Option LlType → Bool
is_type_given structs None = false
is_type_given structs (Some t) = is_type structs t

abbrev pub is_void : LlType → Bool
is_void type.Void = true
is_void other = false

abbrev pub is_signed : LlType → Bool
is_signed type.Signed = true
is_signed other = false

abbrev pub takes_nothing : List ℕ → Bool
takes_nothing [] = true
takes_nothing (v ∷ vs) = false

-- ---- constants and operands

abbrev pub is_cast : List LlStruct → Option ℕ → ℕ → Bool
is_cast structs None s = false
is_cast structs (Some kind) s = begins structs kind s

-- a constant is of a type; a static may be named where its number is below this one
abbrev pub is_of : LlProgram → ℕ → LlType → CConst → Bool
is_of program below type.Signed (constant.Word z) = true
is_of program below type.Char (constant.Char b) = true
is_of program below type.Bool (constant.Bool b) = true
is_of program below type.Fn constant.Null = true
is_of program below type.Fn (constant.Fun f) = nat_lt f (length program.graphs)
is_of program below (type.Ptr n) constant.Null = true
is_of program below (type.Ptr n) (constant.Static s g) = n == s && nat_lt g below && is_cast program.structs (kind_of (slice_get program.statics g)) s
is_of program below t other = false

-- of a type, where any static may be named
abbrev pub is_of_any : LlProgram → LlType → CConst → Bool
is_of_any program t c = is_of program (length program.statics) t c

abbrev pub has_type : LlType → Option LlType → Bool
has_type t None = false
has_type t (Some u) = same_type t u

abbrev pub takes : LlProgram → List LlType → LlType → COperand → Bool
takes program vars t (Var v) = has_type t (slice_get vars v)
takes program vars t (Const c) = is_of_any program t c

abbrev pub all_taken : LlProgram → List LlType → List LlType → List COperand → Bool
all_taken program vars [] [] = true
all_taken program vars (t ∷ ts) (x ∷ xs) = takes program vars t x && all_taken program vars ts xs
all_taken program vars ts xs = false

-- the variable is a pointer
abbrev pub points : Option LlType → Bool
points (Some (type.Ptr n)) = true
points other = false

-- an operand that could be compared as a pointer: its struct, or NULL, which has none; nothing where it is no pointer
abbrev pub pointer_type : Option LlType → Option (Option ℕ)
pointer_type (Some (type.Ptr n)) = Some (Some n)
pointer_type other = None

abbrev pub pointed : LlProgram → List LlType → COperand → Option (Option ℕ)
pointed program vars (Var v) = pointer_type (slice_get vars v)
pointed program vars (Const constant.Null) = Some None
pointed program vars (Const (constant.Static s g)) = if is_of_any program (type.Ptr s) (constant.Static s g) then Some (Some s) else None
pointed program vars other = None

abbrev pub same_pointers : Option (Option ℕ) → Option (Option ℕ) → Bool
same_pointers (Some (Some n)) (Some (Some m)) = n == m
same_pointers (Some x) (Some y) = true
same_pointers x y = false

-- ---- operations

abbrev pub unary_takes : CUnary → LlType
unary_takes unary.Neg = type.Signed
unary_takes unary.Inv = type.Signed
unary_takes unary.Not = type.Bool
unary_takes unary.C2S = type.Char
unary_takes unary.S2C = type.Signed
unary_takes unary.B2S = type.Bool

abbrev pub unary_gives : CUnary → LlType
unary_gives unary.Not = type.Bool
unary_gives unary.S2C = type.Char
unary_gives other = type.Signed

abbrev pub binary_gives : CBinary → LlType
binary_gives o = if gives_bool o then type.Bool else type.Signed

abbrev pub both_taken : LlProgram → List LlType → CBinary → COperand → COperand → Bool
both_taken program vars binary.Beq x y = takes program vars type.Bool x && takes program vars type.Bool y
both_taken program vars binary.Peq x y = same_pointers (pointed program vars x) (pointed program vars y)
both_taken program vars binary.Feq x y = takes program vars type.Fn x && takes program vars type.Fn y
both_taken program vars o x y = takes program vars type.Signed x && takes program vars type.Signed y

-- a variable of the type that is given, if one is
abbrev pub has_given : List LlType → ℕ → Option LlType → Bool
has_given vars a None = false
has_given vars a (Some t) = has_type t (slice_get vars a)

-- a type that is given takes the operand
abbrev pub given_takes : LlProgram → List LlType → Option LlType → COperand → Bool
given_takes program vars None x = false
given_takes program vars (Some t) x = takes program vars t x

-- what a call gives may be dropped
abbrev pub result_ok : List LlType → Option ℕ → LlType → Bool
result_ok vars None result = true
result_ok vars (Some a) result = has_type result (slice_get vars a)

-- each operand is taken by the variable of other, the graph or block that it is given to
abbrev pub all_given : LlProgram → List LlType → List LlType → List ℕ → List COperand → Bool
all_given program vars others [] [] = true
all_given program vars others (v ∷ vs) (x ∷ xs) = given_takes program vars (slice_get others v) x && all_given program vars others vs xs
all_given program vars others vs xs = false

abbrev pub call_ok : LlProgram → List LlType → Option ℕ → Option LlGraph → List COperand → Bool
call_ok program vars into None xs = false
call_ok program vars into (Some g) xs = result_ok vars into g.result && all_given program vars g.types g.params xs

abbrev pub is_counted : LlStage → Bool
is_counted stage.Counted = true
is_counted other = false

abbrev pub is_raw : LlStage → Bool
is_raw stage.Raw = true
is_raw other = false

abbrev pub operation_ok : LlProgram → List LlType → LlOp → Bool
operation_ok program vars (op.Set a x) = given_takes program vars (slice_get vars a) x
operation_ok program vars (op.Unary a o x) = has_type (unary_gives o) (slice_get vars a) && takes program vars (unary_takes o) x
operation_ok program vars (op.Binary a o x y) = has_type (binary_gives o) (slice_get vars a) && both_taken program vars o x y
operation_ok program vars (op.GetField a s b k) = points (slice_get vars b) && has_given vars a (field_of (slice_get program.structs s) k)
operation_ok program vars (op.SetField s b k x) = points (slice_get vars b) && given_takes program vars (field_of (slice_get program.structs s) k) x
operation_ok program vars (op.GetItem a s b i) = points (slice_get vars b) && takes program vars type.Signed i && has_given vars a (items_of (slice_get program.structs s))
operation_ok program vars (op.SetItem s b i x) = points (slice_get vars b) && takes program vars type.Signed i && given_takes program vars (items_of (slice_get program.structs s)) x
operation_ok program vars (op.New a m s) = has_type (type.Ptr m) (slice_get vars a) && begins program.structs s m && is_none (items_of (slice_get program.structs s))
operation_ok program vars (op.NewArray a m s x) =
    has_type (type.Ptr m) (slice_get vars a) && begins program.structs s m && is_some (items_of (slice_get program.structs s)) && takes program vars type.Signed x
operation_ok program vars (op.Free a) = is_counted program.stage && points (slice_get vars a)
operation_ok program vars (op.Step x) = takes program vars type.Signed x
operation_ok program vars (op.Call into f xs) = call_ok program vars into (slice_get program.graphs f) xs
operation_ok program vars (op.CallFn into given params b xs) =
    has_type type.Fn (slice_get vars b) && is_kind program.structs given && are_types program.structs params && result_ok vars into given && all_taken program vars params xs
operation_ok program vars (op.ExcType a s) = nat_lt s (length program.structs) && has_type (type.Ptr s) (slice_get vars a)
operation_ok program vars (op.ExcValue a s) = nat_lt s (length program.structs) && has_type (type.Ptr s) (slice_get vars a)
operation_ok program vars (op.ExcSet a b) = points (slice_get vars a) && points (slice_get vars b)
operation_ok program vars op.ExcClear = true
operation_ok program vars (op.Argc a) = has_type type.Signed (slice_get vars a)
operation_ok program vars (op.ArgLen a x) = has_type type.Signed (slice_get vars a) && takes program vars type.Signed x
operation_ok program vars (op.Arg a x y) = has_type type.Signed (slice_get vars a) && takes program vars type.Signed x && takes program vars type.Signed y
operation_ok program vars (op.Put x) = takes program vars type.Signed x
operation_ok program vars (op.Raise a) = is_raw program.stage && points (slice_get vars a)

abbrev pub operations_ok : LlProgram → List LlType → List LlOp → Bool
operations_ok program vars [] = true
operations_ok program vars (o ∷ os) = operation_ok program vars o && operations_ok program vars os

-- ---- links and exits

-- the block that a link goes to takes its operands
abbrev pub enters : LlProgram → List LlType → Option LlBlock → List COperand → Bool
enters program vars None xs = false
enters program vars (Some b) xs = all_given program vars vars b.inputs xs

abbrev pub link_ok : LlProgram → LlGraph → LlLink → Bool
link_ok program g l = enters program g.types (slice_get g.blocks l.to) l.args

abbrev pub link_if_any_ok : LlProgram → LlGraph → Option LlLink → Bool
link_if_any_ok program g None = true
link_if_any_ok program g (Some l) = link_ok program g l

abbrev pub return_ok : LlProgram → LlGraph → Option COperand → Bool
return_ok program g None = is_void g.result
return_ok program g (Some x) = takes program g.types g.result x

abbrev pub is_char : Option LlType → Bool
is_char (Some type.Char) = true
is_char other = false

abbrev pub names_chars : List LlStruct → Option LlType → Bool
names_chars structs (Some (type.Ptr n)) = is_char (items_of (slice_get structs n))
names_chars structs other = false

abbrev pub exit_ok : LlProgram → LlGraph → LlExit → Bool
exit_ok program g (exit.Goto l) = link_ok program g l
exit_ok program g (exit.If a there elsewhere) = has_type type.Bool (slice_get g.types a) && link_ok program g there && link_ok program g elsewhere
exit_ok program g (exit.OnRaise a by without) = is_raw program.stage && points (slice_get g.types a) && link_if_any_ok program g by && link_ok program g without
exit_ok program g (exit.Return x) = return_ok program g x
exit_ok program g (exit.Raise a) = is_raw program.stage && points (slice_get g.types a)
exit_ok program g (exit.Fail n) = nat_le 1 n && nat_le n 5
exit_ok program g (exit.Raised a) = names_chars program.structs (slice_get g.types a)

-- ---- graphs

abbrev pub block_ok : LlProgram → LlGraph → LlBlock → Bool
block_ok program g b = operations_ok program g.types b.ops && exit_ok program g b.exit

abbrev pub blocks_ok : LlProgram → LlGraph → List LlBlock → Bool
blocks_ok program g [] = true
blocks_ok program g (b ∷ bs) = block_ok program g b && blocks_ok program g bs

-- the parameters are the first variables, and each has a type
abbrev pub params_ok : LlProgram → List LlType → ℕ → List ℕ → Bool
params_ok program vars n [] = true
params_ok program vars n (v ∷ vs) = (v == n) && is_type_given program.structs (slice_get vars v) && params_ok program vars (n + 1) vs

abbrev pub graph_ok : LlProgram → LlGraph → Bool
graph_ok program g =
    is_name g.name && are_kinds program.structs g.types && is_kind program.structs g.result && params_ok program g.types 0 g.params && nat_lt 0 (length g.blocks)
    && blocks_ok program g g.blocks

abbrev pub graphs_ok : LlProgram → List LlGraph → Bool
graphs_ok program [] = true
graphs_ok program (g ∷ gs) = graph_ok program g && graphs_ok program gs

-- ---- statics

abbrev pub is_plain : LlProgram → ℕ → LlType → Cell → Bool
is_plain program n t (Plain c) = is_of program n t c
is_plain program n t (Braced cells) = false

abbrev pub all_plain : LlProgram → ℕ → LlType → Cells → Bool
all_plain program n t end = true
all_plain program n t (then_cell c cells) = is_plain program n t c && all_plain program n t cells

-- the items, in braces, where the struct has items
abbrev pub items_ok : LlProgram → ℕ → Option LlType → Cells → Bool
items_ok program n None end = true
items_ok program n (Some t) (then_cell (Braced cells) end) = all_plain program n t cells
items_ok program n items cells = false

-- a constant for each field, and then the items
abbrev pub fields_ok : LlProgram → ℕ → List LlType → Option LlType → Cells → Bool
fields_ok program n [] items cells = items_ok program n items cells
fields_ok program n (t ∷ ts) items end = false
fields_ok program n (t ∷ ts) items (then_cell c cells) = is_plain program n t c && fields_ok program n ts items cells

-- the cells of an inline base come first, in braces
abbrev pub based_ok : LlProgram → ℕ → (ℕ → Cells → Bool) → LlStruct → Option ℕ → Cells → Bool
based_ok program n base_ok s None cells = fields_ok program n s.fields s.items cells
based_ok program n base_ok s (Some m) (then_cell (Braced base) cells) = base_ok m base && fields_ok program n s.fields s.items cells
based_ok program n base_ok s (Some m) other = false

abbrev pub shaped_ok : LlProgram → ℕ → (ℕ → Cells → Bool) → Option LlStruct → Cells → Bool
shaped_ok program n base_ok None cells = false
shaped_ok program n base_ok (Some s) cells = based_ok program n base_ok s s.base cells

unfoldable pub cells_within : LlProgram → ℕ → ℕ → ℕ → Cells → Bool
cells_within program n zero kind cells = false
cells_within program n (suc k) kind cells = shaped_ok program n (cells_within program n k) (slice_get program.structs kind) cells

-- a static names earlier statics alone
abbrev pub static_ok : LlProgram → ℕ → CStatic → Bool
static_ok program n g = cells_within program n (suc g.kind) g.kind (plain_cells g.cells)

abbrev pub statics_ok : LlProgram → ℕ → List CStatic → Bool
statics_ok program n [] = true
statics_ok program n (g ∷ gs) = static_ok program n g && statics_ok program (n + 1) gs

abbrev pub structs_ok : List LlStruct → ℕ → List LlStruct → Bool
structs_ok structs n [] = true
structs_ok structs n (s ∷ ss) = struct_ok structs n s && structs_ok structs (n + 1) ss

-- ---- the program

abbrev pub begins_run : Option LlGraph → Bool
begins_run None = false
begins_run (Some g) = takes_nothing g.params && is_signed g.result

abbrev pub well_typed : LlProgram → Bool
well_typed program =
    structs_ok program.structs 0 program.structs && statics_ok program 0 program.statics && graphs_ok program program.graphs && begins_run (slice_get program.graphs program.entry)

abbrev pub IsWellTyped : LlProgram → Type 0
IsWellTyped program = well_typed program ≡ true
