-- The text of graphs: for each function its name and its blocks, for each block its inputs, its operations and its exit.
use Rattle.std.specs.Prelude.{ℕ, ◌+◌, List, [], ◌∷◌, ◌++◌, Option, Some, None, slice_get, unwrap_or, codes}
use Rattle.std.specs.List.{flat_map}
use Rattle.std.specs.Fmt.{decimal}
use Rattle.rpy_tree.specs.declared.syntax.UnOp.{UnOp}
use Rattle.rpy_tree.specs.declared.syntax.UnOp.TheVariants.{Neg, Pos, Invert}
use Rattle.rpy_tree.specs.declared.syntax.BinOp.{BinOp}
use Rattle.rpy_tree.specs.declared.syntax.BinOp.TheVariants.{Add, Sub, Mul, Div, FloorDiv, Mod, Shl, Shr, BitAnd, BitOr, BitXor}
use Rattle.rpy_tree.specs.declared.syntax.CmpOp.{CmpOp}
use Rattle.rpy_tree.specs.declared.syntax.CmpOp.TheVariants.{Lt, Le, Gt, Ge, Eq, Ne, Within, NotWithin, Is, IsNot}
use Rattle.rpy_meaning.specs.declared.row.RowOp.{RowOp}
use Rattle.rpy_meaning.specs.declared.row.RowOp.TheVariants as row
use Rattle.flow_graph.specs.declared.graph.Block.{Block}
use Rattle.flow_graph.specs.declared.graph.Exit.{Exit}
use Rattle.flow_graph.specs.declared.graph.Exit.TheVariants as exit
use Rattle.flow_graph.specs.declared.graph.Graph.{Graph}
use Rattle.flow_graph.specs.declared.graph.Graphs.{Graphs}
use Rattle.flow_graph.specs.declared.graph.Link.{Link}
use Rattle.flow_graph.specs.declared.graph.Op.{Op}

abbrev pub variable : ℕ → List ℕ
variable v = codes "v" ++ decimal v

abbrev pub further : ℕ → List ℕ
further v = codes " " ++ variable v

-- variables with a space between
abbrev pub variables : List ℕ → List ℕ
variables [] = []
variables (v ∷ vs) = variable v ++ flat_map further vs

-- a block and the variables for its inputs
abbrev pub place : ℕ → List ℕ → List ℕ
place block vs = decimal block ++ codes "(" ++ variables vs ++ codes ")"

abbrev pub link : Link → List ℕ
link l = place l.to l.args

-- ---- the words for operations: the name of each, or that of its operator

abbrev pub unary_word : UnOp → List ℕ
unary_word Neg = codes "neg"
unary_word Pos = codes "pos"
unary_word Invert = codes "invert"

abbrev pub binary_word : BinOp → List ℕ
binary_word Add = codes "add"
binary_word Sub = codes "sub"
binary_word Mul = codes "mul"
binary_word Div = codes "div"
binary_word FloorDiv = codes "floordiv"
binary_word Mod = codes "mod"
binary_word Shl = codes "shl"
binary_word Shr = codes "shr"
binary_word BitAnd = codes "bitand"
binary_word BitOr = codes "bitor"
binary_word BitXor = codes "bitxor"

abbrev pub checked_word : BinOp → List ℕ
checked_word op = codes "checked" ++ binary_word op

abbrev pub compare_word : CmpOp → List ℕ
compare_word Lt = codes "lt"
compare_word Le = codes "le"
compare_word Gt = codes "gt"
compare_word Ge = codes "ge"
compare_word Eq = codes "eq"
compare_word Ne = codes "ne"
compare_word Within = codes "within"
compare_word NotWithin = codes "notwithin"
compare_word Is = codes "is"
compare_word IsNot = codes "isnot"

abbrev pub word : RowOp → List ℕ
word (row.Word z) = codes "word"
word (row.Str text) = codes "str"
word (row.Bool b) = codes "bool"
word row.None = codes "none"
word (row.Constant a) = codes "constant"
word row.Copy = codes "copy"
word (row.Unary op) = unary_word op
word (row.Binary op site) = binary_word op
word row.AddTo = codes "addto"
word row.CheckedNeg = codes "checkedneg"
word (row.Checked op) = checked_word op
word (row.Compare op) = compare_word op
word row.Not = codes "not"
word row.Truth = codes "truth"
word row.Intmask = codes "intmask"
word row.Min = codes "min"
word row.Max = codes "max"
word row.Len = codes "len"
word row.Ord = codes "ord"
word row.Chr = codes "chr"
word row.ToStr = codes "tostr"
word row.ToInt = codes "toint"
word row.Write = codes "write"
word (row.IsInstance c) = codes "isinstance"
word (row.Index literal) = codes "index"
word row.StoreIndex = codes "storeindex"
word row.DeleteIndex = codes "deleteindex"
word (row.Attr name) = codes "attr"
word (row.StoreAttr name) = codes "storeattr"
word (row.Slice site low high) = codes "slice"
word (row.AllButLast site) = codes "allbutlast"
word row.Tuple = codes "tuple"
word (row.List site) = codes "list"
word (row.Dict site) = codes "dict"
word (row.Comprehension site) = codes "comprehension"
word row.AddItem = codes "additem"
word (row.Call f) = codes "call"
word (row.CallOf c f) = codes "callof"
word row.CallValue = codes "callvalue"
word (row.New c) = codes "new"
word (row.Method name site) = codes "method"
word row.Raise = codes "raise"
word row.Print = codes "print"
word (row.Walk site) = codes "walk"
word (row.HasItem step) = codes "hasitem"
word (row.Item step) = codes "item"
word (row.Advance step) = codes "advance"
word row.Turn = codes "turn"
word (row.Unpack count place) = codes "unpack"
word row.DropNone = codes "dropnone"
word row.OnlyNone = codes "onlynone"
word row.FalseNone = codes "falsenone"
word (row.Lower c) = codes "lower"
word row.NonNegative = codes "nonnegative"

-- ---- blocks

abbrev pub operation : Op → List ℕ
operation op = codes "  " ++ variable op.result ++ codes " = " ++ word op.op ++ flat_map further op.args ++ codes "\n"

-- the name with this number
abbrev pub name_at : List (List ℕ) → ℕ → List ℕ
name_at names n = unwrap_or (slice_get names n) []

-- each part after the other, with its number, counted from k
abbrev pub numbered : {A : Type 0} → (ℕ → A → List ℕ) → ℕ → List A → List ℕ
numbered f k [] = []
numbered f k (x ∷ xs) = f k x ++ numbered f (k + 1) xs

abbrev pub any : Option Link → List ℕ
any None = []
any (Some l) = codes "  on any " ++ link l ++ codes "\n"

module _ (classes : List (List ℕ)) where
  abbrev pub caught : ℕ × Link → List ℕ
  caught c = codes "  on " ++ name_at classes c.0 ++ codes " " ++ link c.1 ++ codes "\n"

  abbrev pub exit_text : Exit → List ℕ
  exit_text (exit.Goto l) = codes "  goto " ++ link l ++ codes "\n"
  exit_text (exit.If v a b) = codes "  if " ++ variable v ++ codes " " ++ link a ++ codes " else " ++ link b ++ codes "\n"
  exit_text (exit.OnRaise v all other norm) =
      codes "  caught " ++ variable v ++ codes "\n" ++ flat_map caught all ++ any other ++ codes "  else " ++ link norm ++ codes "\n"
  exit_text (exit.Return v) = codes "  return " ++ variable v ++ codes "\n"
  exit_text (exit.Raise v) = codes "  raise " ++ variable v ++ codes "\n"

  abbrev pub block_text : ℕ → Block → List ℕ
  block_text n b = codes "block " ++ place n b.inputs ++ codes "\n" ++ flat_map operation b.ops ++ exit_text b.exit

module _ (functions classes : List (List ℕ)) where
  abbrev pub graph_text : Graph → List ℕ
  graph_text g = codes "graph " ++ name_at functions g.function ++ codes "\n" ++ numbered (block_text classes) 0 g.blocks

  abbrev pub graphs_text : Graphs → List ℕ
  graphs_text gs = flat_map graph_text gs.graphs
