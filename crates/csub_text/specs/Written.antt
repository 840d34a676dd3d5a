-- Files that have a spelling: their numbers, words and names are such that a text can hold them, there is a function, and each
-- function has blocks, each of which ends at its last statement alone.
use Rattle.std.specs.Prelude.{◌≡◌, ℕ, ℤ, pos, negsuc, ◌^◌, ◌<◌, ◌≤◌, ◌&&◌, nat_lt, Bool, true, false, List, [], ◌∷◌, Option, Some, None}
use Rattle.csub_tree.specs.declared.tree.CFile.{CFile}
use Rattle.csub_tree.specs.declared.tree.CStruct.{CStruct}
use Rattle.csub_tree.specs.declared.tree.CType.{CType}
use Rattle.csub_tree.specs.declared.tree.CType.TheVariants as type
use Rattle.csub_tree.specs.declared.tree.CConst.{CConst}
use Rattle.csub_tree.specs.declared.tree.CConst.TheVariants as const
use Rattle.csub_tree.specs.declared.tree.COperand.{COperand}
use Rattle.csub_tree.specs.declared.tree.COperand.TheVariants as oper
use Rattle.csub_tree.specs.declared.tree.CPrototype.{CPrototype}
use Rattle.csub_tree.specs.declared.tree.CStatic.{CStatic}
use Rattle.csub_tree.specs.declared.tree.CCell.{CCell, fold-CCell}
use Rattle.csub_tree.specs.declared.tree.CCell.TheOpen.{CCell-F}
use Rattle.csub_tree.specs.declared.tree.CFunction.{CFunction}
use Rattle.csub_tree.specs.declared.tree.CStmt.{CStmt}
use Rattle.csub_tree.specs.declared.tree.CStmt.TheVariants as stmt
use Rattle.csub_tree.specs.Checked.{ends_block, is_name}

abbrev pub All : {A : Type 0} → (A → Type 0) → List A → Type 0
All P [] = Unit {0}
All P (x ∷ xs) = P x × All P xs

-- a number in a name
abbrev pub IsNumber : ℕ → Type 0
IsNumber n = n < 2 ^ 64

abbrev pub IsNumberIfAny : Option ℕ → Type 0
IsNumberIfAny None = Unit {0}
IsNumberIfAny (Some n) = n < 2 ^ 64

abbrev pub IsType : CType → Type 0
IsType (type.Ptr n) = n < 2 ^ 64
IsType other = Unit {0}

abbrev pub IsTypeIfAny : Option CType → Type 0
IsTypeIfAny None = Unit {0}
IsTypeIfAny (Some t) = IsType t

-- a word of 64 bits
abbrev pub IsWord : ℤ → Type 0
IsWord (pos n) = n < 2 ^ 63
IsWord (negsuc n) = n < 2 ^ 63

abbrev pub IsConstant : CConst → Type 0
IsConstant (const.Word z) = IsWord z
IsConstant (const.Char n) = n < 256
IsConstant (const.Bool b) = Unit {0}
IsConstant const.Null = Unit {0}
IsConstant (const.Static s g) = (s < 2 ^ 64) × (g < 2 ^ 64)
IsConstant (const.Fun f) = f < 2 ^ 64

abbrev pub IsOperand : COperand → Type 0
IsOperand (oper.Var v) = v < 2 ^ 64
IsOperand (oper.Const c) = IsConstant c

abbrev pub IsOperandIfAny : Option COperand → Type 0
IsOperandIfAny None = Unit {0}
IsOperandIfAny (Some x) = IsOperand x

abbrev pub IsStatement : CStmt → Type 0
IsStatement (stmt.Set a x) = (a < 2 ^ 64) × IsOperand x
IsStatement (stmt.Unary a op x) = (a < 2 ^ 64) × IsOperand x
IsStatement (stmt.Binary a op x y) = (a < 2 ^ 64) × IsOperand x × IsOperand y
IsStatement (stmt.GetField a s b k) = (a < 2 ^ 64) × (s < 2 ^ 64) × (b < 2 ^ 64) × (k < 2 ^ 64)
IsStatement (stmt.SetField s b k x) = (s < 2 ^ 64) × (b < 2 ^ 64) × (k < 2 ^ 64) × IsOperand x
IsStatement (stmt.GetItem a s b i) = (a < 2 ^ 64) × (s < 2 ^ 64) × (b < 2 ^ 64) × IsOperand i
IsStatement (stmt.SetItem s b i x) = (s < 2 ^ 64) × (b < 2 ^ 64) × IsOperand i × IsOperand x
IsStatement (stmt.New a m s) = (a < 2 ^ 64) × (m < 2 ^ 64) × (s < 2 ^ 64)
IsStatement (stmt.NewArray a m s x) = (a < 2 ^ 64) × (m < 2 ^ 64) × (s < 2 ^ 64) × IsOperand x
IsStatement (stmt.Free a) = a < 2 ^ 64
IsStatement (stmt.Step x) = IsOperand x
IsStatement (stmt.Call a f xs) = IsNumberIfAny a × (f < 2 ^ 64) × All IsOperand xs
IsStatement (stmt.CallFn a result types b xs) = IsNumberIfAny a × IsTypeIfAny result × All IsType types × (b < 2 ^ 64) × All IsOperand xs
IsStatement (stmt.ExcType a s) = (a < 2 ^ 64) × (s < 2 ^ 64)
IsStatement (stmt.ExcValue a s) = (a < 2 ^ 64) × (s < 2 ^ 64)
IsStatement (stmt.ExcSet a b) = (a < 2 ^ 64) × (b < 2 ^ 64)
IsStatement stmt.ExcClear = Unit {0}
IsStatement (stmt.Argc a) = a < 2 ^ 64
IsStatement (stmt.ArgLen a x) = (a < 2 ^ 64) × IsOperand x
IsStatement (stmt.Arg a x y) = (a < 2 ^ 64) × IsOperand x × IsOperand y
IsStatement (stmt.Put x) = IsOperand x
IsStatement (stmt.Goto b) = b < 2 ^ 64
IsStatement (stmt.If a b c) = (a < 2 ^ 64) × (b < 2 ^ 64) × (c < 2 ^ 64)
IsStatement (stmt.Return x) = IsOperandIfAny x
IsStatement (stmt.Fail n) = (1 ≤ n) × (n ≤ 5)
IsStatement (stmt.Raised a) = a < 2 ^ 64

-- the last statement of a block, and no other, ends it
abbrev pub IsClosed : List CStmt → Type 0
IsClosed [] = ⊥
IsClosed (s ∷ []) = ends_block s ≡ true
IsClosed (s ∷ t ∷ ss) = (ends_block s ≡ false) × IsClosed (t ∷ ss)

abbrev pub IsBlock : List CStmt → Type 0
IsBlock ss = All IsStatement ss × IsClosed ss

abbrev pub IsSomeBlocks : List (List CStmt) → Type 0
IsSomeBlocks [] = ⊥
IsSomeBlocks (b ∷ bs) = All IsBlock (b ∷ bs)

abbrev pub IsStruct : CStruct → Type 0
IsStruct s = IsNumberIfAny s.base × All IsType s.fields × IsTypeIfAny s.items

abbrev pub IsFunction : CFunction → Type 0
IsFunction f = (is_name f.name ≡ true) × IsTypeIfAny f.result × All IsType f.params × All IsType f.locals × IsSomeBlocks f.blocks

abbrev pub constant_fits : CConst → Bool
constant_fits (const.Word (pos n)) = nat_lt n (2 ^ 63)
constant_fits (const.Word (negsuc n)) = nat_lt n (2 ^ 63)
constant_fits (const.Char n) = nat_lt n 256
constant_fits (const.Bool b) = true
constant_fits const.Null = true
constant_fits (const.Static s g) = nat_lt s (2 ^ 64) && nat_lt g (2 ^ 64)
constant_fits (const.Fun f) = nat_lt f (2 ^ 64)

abbrev pub all_true : List Bool → Bool
all_true [] = true
all_true (b ∷ bs) = b && all_true bs

abbrev pub cell_step : CCell-F Bool → Bool
cell_step (CCell-F.Const c) = constant_fits c
cell_step (CCell-F.Braces cells) = all_true cells

-- the constants of a cell fit
abbrev pub cell_fits : CCell → Bool
cell_fits = fold-CCell Bool cell_step

abbrev pub IsCell : CCell → Type 0
IsCell c = cell_fits c ≡ true

abbrev pub IsStatic : CStatic → Type 0
IsStatic g = (g.kind < 2 ^ 64) × All IsCell g.cells

abbrev pub IsPrototype : CPrototype → Type 0
IsPrototype p = IsTypeIfAny p.result × All IsType p.params

abbrev pub IsSome : {A : Type 0} → List A → Type 0
IsSome [] = ⊥
IsSome (x ∷ xs) = Unit {0}

abbrev pub IsWritten : CFile → Type 0
IsWritten file = All IsStruct file.structs × All IsPrototype file.prototypes × All IsStatic file.statics × All IsFunction file.functions × IsSome file.functions
