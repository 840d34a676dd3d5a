-- Operations and exits with other names for their variables.
use Rattle.std.specs.Prelude.{ℕ, ◌==◌, cond, List, [], ◌∷◌, map, slice_get, Option, Some, None, option_map}
use Rattle.csub_tree.specs.declared.tree.COperand.{COperand}
use Rattle.csub_tree.specs.declared.tree.COperand.TheVariants.{Var, Const}
use Rattle.ll_code.specs.declared.program.LlLink.{LlLink}
use Rattle.ll_code.specs.declared.program.LlOp.{LlOp}
use Rattle.ll_code.specs.declared.program.LlOp.TheVariants as op
use Rattle.ll_code.specs.declared.program.LlExit.{LlExit}
use Rattle.ll_code.specs.declared.program.LlExit.TheVariants as exit
use Rattle.ll_joined.specs.declared.names.Names.{Names}
use Rattle.ll_joined.specs.declared.names.Names.TheVariants.{Pairs, Places, Values}

-- ---- names

-- where a variable is the first of a pair, it is named as the second; or by what stands at its place, a variable or an operand
pub data Naming : Type 0 where
  ByPairs : (pairs : List (ℕ × ℕ)) → Naming
  ByPlaces : (places : List ℕ) → Naming
  ByValues : (values : List COperand) → Naming

abbrev pub naming : Names → Naming
naming (Pairs pairs) = ByPairs pairs.now
naming (Places places) = ByPlaces places.now
naming (Values values) = ByValues values.now

abbrev pub by_pairs : List (ℕ × ℕ) → ℕ → ℕ
by_pairs [] v = v
by_pairs (pair ∷ pairs) v = cond (pair.0 == v) pair.1 (by_pairs pairs v)

abbrev pub or_own : ℕ → Option ℕ → ℕ
or_own v None = v
or_own v (Some place) = place

-- a constant is no name
abbrev pub variable_or : ℕ → Option COperand → ℕ
variable_or v (Some (Var w)) = w
variable_or v other = v

abbrev pub value_or : ℕ → Option COperand → COperand
value_or v None = Var v
value_or v (Some x) = x

abbrev pub name_of : Naming → ℕ → ℕ
name_of (ByPairs pairs) v = by_pairs pairs v
name_of (ByPlaces places) v = or_own v (slice_get places v)
name_of (ByValues values) v = variable_or v (slice_get values v)

abbrev pub value_of : Naming → ℕ → COperand
value_of (ByPairs pairs) v = Var (by_pairs pairs v)
value_of (ByPlaces places) v = Var (or_own v (slice_get places v))
value_of (ByValues values) v = value_or v (slice_get values v)

abbrev pub operand_by : Naming → COperand → COperand
operand_by names (Var v) = value_of names v
operand_by names (Const c) = Const c

-- ---- operations

-- one that calls nothing and reads or makes a block of memory, or else `ExcClear`
abbrev pub of_memory : Naming → LlOp → LlOp
of_memory names (op.GetField a n b k) = op.GetField (name_of names a) n (name_of names b) k
of_memory names (op.SetField n b k x) = op.SetField n (name_of names b) k (operand_by names x)
of_memory names (op.GetItem a n b i) = op.GetItem (name_of names a) n (name_of names b) (operand_by names i)
of_memory names (op.SetItem n b i x) = op.SetItem n (name_of names b) (operand_by names i) (operand_by names x)
of_memory names (op.New a m n) = op.New (name_of names a) m n
of_memory names (op.NewArray a m n x) = op.NewArray (name_of names a) m n (operand_by names x)
of_memory names (op.Free a) = op.Free (name_of names a)
of_memory names other = op.ExcClear

-- one that calls nothing
abbrev pub of_values : Naming → LlOp → LlOp
of_values names (op.Set a x) = op.Set (name_of names a) (operand_by names x)
of_values names (op.Unary a o x) = op.Unary (name_of names a) o (operand_by names x)
of_values names (op.Binary a o x y) = op.Binary (name_of names a) o (operand_by names x) (operand_by names y)
of_values names (op.Step x) = op.Step (operand_by names x)
of_values names (op.ExcType a n) = op.ExcType (name_of names a) n
of_values names (op.ExcValue a n) = op.ExcValue (name_of names a) n
of_values names (op.ExcSet a b) = op.ExcSet (name_of names a) (name_of names b)
of_values names (op.Argc a) = op.Argc (name_of names a)
of_values names (op.ArgLen a x) = op.ArgLen (name_of names a) (operand_by names x)
of_values names (op.Arg a x y) = op.Arg (name_of names a) (operand_by names x) (operand_by names y)
of_values names (op.Put x) = op.Put (operand_by names x)
of_values names (op.Raise a) = op.Raise (name_of names a)
of_values names other = of_memory names other

abbrev pub named : Naming → LlOp → LlOp
named names (op.Call into g xs) = op.Call (option_map (name_of names) into) g (map (operand_by names) xs)
named names (op.CallFn into result params b xs) = op.CallFn (option_map (name_of names) into) result params (name_of names b) (map (operand_by names) xs)
named names other = of_values names other

-- ---- exits

-- the block has the number that stands at the place of its own, if one does
abbrev pub number_of : List ℕ → ℕ → ℕ
number_of numbers to = or_own to (slice_get numbers to)

abbrev pub link_by : Naming → List ℕ → LlLink → LlLink
link_by names numbers link = record { to = number_of numbers link.to; args = map (operand_by names) link.args }

abbrev pub exit_by : Naming → List ℕ → LlExit → LlExit
exit_by names numbers (exit.Goto link) = exit.Goto (link_by names numbers link)
exit_by names numbers (exit.If a there elsewhere) = exit.If (name_of names a) (link_by names numbers there) (link_by names numbers elsewhere)
exit_by names numbers (exit.OnRaise a by without) = exit.OnRaise (name_of names a) (option_map (link_by names numbers) by) (link_by names numbers without)
exit_by names numbers (exit.Return x) = exit.Return (option_map (operand_by names) x)
exit_by names numbers (exit.Raise a) = exit.Raise (name_of names a)
exit_by names numbers (exit.Fail why) = exit.Fail why
exit_by names numbers (exit.Raised a) = exit.Raised (name_of names a)
