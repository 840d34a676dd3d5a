-- A value as the definition of the machine sees it.
use Rattle.std.specs.Prelude.{List, slice_index_or, Result, Ok, Err}
use Rattle.csub_tree.specs.State.{Value, Unset, Word, Byte, Flag, Fun, Null, Ptr, Static}
use Rattle.csub_tree.specs.declared.stuck.StuckReason.{StuckReason}
use Rattle.csub_tree.specs.declared.tree.CConst.{CConst}
use Rattle.csub_tree.specs.declared.tree.CConst.TheVariants.{Word as CWord, Char as CChar, Bool as CBool, Null as CNull, Static as CStaticOf, Fun as CFun}
use Rattle.csub_tree.specs.declared.tree.COperand.{COperand}
use Rattle.csub_tree.specs.declared.tree.COperand.TheVariants.{Var, Const}
use Rattle.llinterp_run.specs.declared.val.Val.{Val}
use Rattle.llinterp_run.specs.declared.val.Val.TheVariants.{Unset as RawUnset, Word as RawWord, Byte as RawByte, Flag as RawFlag, Fun as RawFun, Null as RawNull, Ptr as RawPtr, Static as RawStatic}

abbrev pub erase : Val → Value
erase RawUnset = Unset
erase (RawWord n) = Word n
erase (RawByte b) = Byte b
erase (RawFlag b) = Flag b
erase (RawFun f) = Fun f
erase RawNull = Null
erase (RawPtr b) = Ptr b
erase (RawStatic g) = Static g

abbrev pub erase_answer : Result Val StuckReason → Result Value StuckReason
erase_answer (Ok v) = Ok (erase v)
erase_answer (Err reason) = Err reason

abbrev pub raw_constant : CConst → Val
raw_constant (CWord n) = RawWord n
raw_constant (CChar b) = RawByte b
raw_constant (CBool b) = RawFlag b
raw_constant CNull = RawNull
raw_constant (CStaticOf n g) = RawStatic g
raw_constant (CFun f) = RawFun f

abbrev pub raw_operand : List Val → COperand → Val
raw_operand vars (Var a) = slice_index_or vars a RawUnset
raw_operand vars (Const c) = raw_constant c
