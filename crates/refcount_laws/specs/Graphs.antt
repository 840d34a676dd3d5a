-- The graphs that count the references to the blocks of a program, and that release a block.
use Rattle.std.specs.Prelude.{◌≡◌, ℕ, zero, suc, pos, List, [], ◌∷◌, ◌++◌, length, map, slice_get, Option, Some, None, Bool, true}
use Rattle.csub_tree.specs.Layout.{shape_at, begins_with, place}
use Rattle.csub_tree.specs.declared.tree.CBinary.TheVariants.{Add, Sub, Eq, Lt, Peq}
use Rattle.csub_tree.specs.declared.tree.CConst.TheVariants as const
use Rattle.csub_tree.specs.declared.tree.COperand.{COperand}
use Rattle.csub_tree.specs.declared.tree.COperand.TheVariants.{Var, Const}
use Rattle.ll_code.specs.declared.program.LlType.{LlType}
use Rattle.ll_code.specs.declared.program.LlType.TheVariants as type
use Rattle.ll_code.specs.declared.program.LlLink.{LlLink}
use Rattle.ll_code.specs.declared.program.LlOp.{LlOp}
use Rattle.ll_code.specs.declared.program.LlOp.TheVariants as op
use Rattle.ll_code.specs.declared.program.LlExit.TheVariants as exit
use Rattle.ll_code.specs.declared.program.LlBlock.{LlBlock}
use Rattle.ll_code.specs.declared.program.LlGraph.{LlGraph}
use Rattle.ll_code.specs.declared.program.LlProgram.{LlProgram}
use Rattle.ll_code.specs.Machine.{shapes_of}

-- ---- what is counted

-- a field that is a reference: the struct that has it and its number there, its place behind the count and the release, and the struct
-- that it leads to
pub record Reference : Type 0 where
  pub owner : ℕ
  pub number : ℕ
  pub at : ℕ
  pub to : ℕ

-- of each struct: whether its blocks are counted, and its root; the fields that are references, and what the items lead to; the field
-- that has the number of the items, and its place; and the graphs that release a block, count a reference and drop one
pub record Counts : Type 0 where
  pub counted : ℕ → Bool
  pub root : ℕ → ℕ
  pub held : ℕ → List Reference
  pub items : ℕ → Option ℕ
  pub number : ℕ → ℕ
  pub number_at : ℕ → ℕ
  pub release : ℕ → ℕ
  pub up : ℕ → ℕ
  pub down : ℕ → ℕ

-- ---- parts of graphs

abbrev pub link : ℕ → List COperand → LlLink
link to args = record { to = to; args = args }

abbrev pub word : ℕ → COperand
word n = Const (const.Word (pos n))

abbrev pub null : COperand
null = Const const.Null

-- so many variables from this one on
abbrev pub variables : ℕ → ℕ → List ℕ
variables v zero = []
variables v (suc n) = v ∷ variables (suc v) n

abbrev pub given : ℕ → ℕ → List COperand
given v n = map Var (variables v n)

-- where variable 0 is NULL the graph ends
abbrev pub unless_null : LlBlock
unless_null = record { inputs = 0 ∷ []; ops = op.Binary 1 Peq (Var 0) null ∷ []; exit = exit.If 1 (link 2 []) (link 1 (Var 0 ∷ [])) }

abbrev pub over : LlBlock
over = record { inputs = []; ops = []; exit = exit.Return None }

-- ---- one reference more, and one less

abbrev pub up_types : ℕ → List LlType
up_types n = type.Ptr n ∷ type.Bool ∷ type.Signed ∷ []

abbrev pub more : ℕ → LlBlock
more n = record {
  inputs = 0 ∷ [];
  ops = op.GetField 2 n 0 0 ∷ op.Binary 2 Add (Var 2) (word 1) ∷ op.SetField n 0 0 (Var 2) ∷ [];
  exit = exit.Return None;
}

abbrev pub up_blocks : ℕ → List LlBlock
up_blocks n = unless_null ∷ more n ∷ over ∷ []

abbrev pub down_types : ℕ → List LlType
down_types n = type.Ptr n ∷ type.Bool ∷ type.Signed ∷ type.Bool ∷ type.Fn ∷ []

abbrev pub less : ℕ → LlBlock
less n = record {
  inputs = 0 ∷ [];
  ops = op.GetField 2 n 0 0 ∷ op.Binary 2 Sub (Var 2) (word 1) ∷ op.SetField n 0 0 (Var 2) ∷ op.Binary 3 Eq (Var 2) (word 0) ∷ [];
  exit = exit.If 3 (link 3 (Var 0 ∷ [])) (link 2 []);
}

abbrev pub released : ℕ → LlBlock
released n = record { inputs = 0 ∷ []; ops = op.GetField 4 n 0 1 ∷ op.CallFn None type.Void (type.Ptr n ∷ []) 4 (Var 0 ∷ []) ∷ []; exit = exit.Return None }

abbrev pub down_blocks : ℕ → List LlBlock
down_blocks n = unless_null ∷ less n ∷ over ∷ released n ∷ []

-- ---- release

-- the fields are read into variables from this one on
abbrev pub gets : List Reference → ℕ → List LlOp
gets [] v = []
gets (h ∷ held) v = op.GetField v h.owner 0 h.number ∷ gets held (suc v)

-- and dropped
abbrev pub drops : Counts → List Reference → ℕ → List LlOp
drops c [] v = []
drops c (h ∷ held) v = op.Call None (c.down h.to) (Var v ∷ []) ∷ drops c held (suc v)

abbrev pub held_types : List Reference → List LlType
held_types [] = []
held_types (h ∷ held) = type.Ptr h.to ∷ held_types held

-- the block is freed, and then what it held is dropped
abbrev pub freed : Counts → ℕ → LlBlock
freed c n = record { inputs = variables 0 (suc (length (c.held n))); ops = op.Free 0 ∷ drops c (c.held n) 1; exit = exit.Return None }

abbrev pub plain_blocks : Counts → ℕ → List LlBlock
plain_blocks c n = record { inputs = 0 ∷ []; ops = gets (c.held n) 1 ++ op.Free 0 ∷ drops c (c.held n) 1; exit = exit.Return None } ∷ []

-- behind the block and its fields stand the number of items, the place of an item, whether one is left, and the item

abbrev pub loop_types : ℕ → List LlType
loop_types m = type.Signed ∷ type.Signed ∷ type.Bool ∷ type.Ptr m ∷ []

abbrev pub first : Counts → ℕ → ℕ → LlBlock
first c n k = record {
  inputs = 0 ∷ [];
  ops = gets (c.held n) 1 ++ op.GetField (suc k) n 0 (c.number n) ∷ [];
  exit = exit.Goto (link 1 (given 0 (suc (suc k)) ++ word 0 ∷ []));
}

abbrev pub test : ℕ → LlBlock
test k = record {
  inputs = variables 0 (suc (suc (suc k)));
  ops = op.Binary (suc (suc (suc k))) Lt (Var (suc (suc k))) (Var (suc k)) ∷ [];
  exit = exit.If (suc (suc (suc k))) (link 2 (given 0 (suc (suc k)) ++ Var (suc (suc k)) ∷ [])) (link 3 (given 0 (suc k)));
}

abbrev pub one_item : Counts → ℕ → ℕ → ℕ → LlBlock
one_item c n m k = record {
  inputs = variables 0 (suc (suc (suc k)));
  ops =
      op.GetItem (suc (suc (suc (suc k)))) n 0 (Var (suc (suc k)))
      ∷ op.Call None (c.down m) (Var (suc (suc (suc (suc k)))) ∷ [])
      ∷ op.Binary (suc (suc k)) Add (Var (suc (suc k))) (word 1)
      ∷ [];
  exit = exit.Goto (link 1 (given 0 (suc (suc k)) ++ Var (suc (suc k)) ∷ []));
}

abbrev pub item_blocks : Counts → ℕ → ℕ → List LlBlock
item_blocks c n m = first c n (length (c.held n)) ∷ test (length (c.held n)) ∷ one_item c n m (length (c.held n)) ∷ freed c n ∷ []

abbrev pub blocks_for : Counts → ℕ → Option ℕ → List LlBlock
blocks_for c n None = plain_blocks c n
blocks_for c n (Some m) = item_blocks c n m

abbrev pub types_for : Option ℕ → List LlType
types_for None = []
types_for (Some m) = loop_types m

abbrev pub release_types : Counts → ℕ → List LlType
release_types c n = type.Ptr (c.root n) ∷ (held_types (c.held n) ++ types_for (c.items n))

abbrev pub release_blocks : Counts → ℕ → List LlBlock
release_blocks c n = blocks_for c n (c.items n)

-- ---- writes

-- a field that is a reference is set: the new value is counted, and the old one dropped
abbrev pub put_block : Counts → Reference → LlBlock
put_block c h = record {
  inputs = 0 ∷ 1 ∷ [];
  ops = op.Call None (c.up h.to) (Var 1 ∷ []) ∷ op.GetField 2 h.owner 0 h.number ∷ op.SetField h.owner 0 h.number (Var 1) ∷ op.Call None (c.down h.to) (Var 2 ∷ []) ∷ [];
  exit = exit.Return None;
}

abbrev pub put_types : Counts → Reference → List LlType
put_types c h = type.Ptr (c.root h.owner) ∷ type.Ptr h.to ∷ type.Ptr h.to ∷ []

-- an item of struct n is set, whose items lead to m
abbrev pub put_item_block : Counts → ℕ → ℕ → LlBlock
put_item_block c n m = record {
  inputs = 0 ∷ 1 ∷ 2 ∷ [];
  ops = op.Call None (c.up m) (Var 2 ∷ []) ∷ op.GetItem 3 n 0 (Var 1) ∷ op.SetItem n 0 (Var 1) (Var 2) ∷ op.Call None (c.down m) (Var 3 ∷ []) ∷ [];
  exit = exit.Return None;
}

abbrev pub put_item_types : Counts → ℕ → ℕ → List LlType
put_item_types c n m = type.Ptr (c.root n) ∷ type.Signed ∷ type.Ptr m ∷ type.Ptr m ∷ []

-- ---- a program that has them

-- a graph of one parameter, which gives nothing, stands there
pub record Stands (q : LlProgram) (f : ℕ) (types : List LlType) (blocks : List LlBlock) : Type 0 where
  pub graph : LlGraph
  pub there : slice_get q.graphs f ≡ Some graph
  pub params : graph.params ≡ 0 ∷ []
  pub result : graph.result ≡ type.Void
  pub typed : graph.types ≡ types
  pub laid : graph.blocks ≡ blocks

-- the same, with these parameters
pub record StandsWith (q : LlProgram) (f : ℕ) (params : List ℕ) (types : List LlType) (blocks : List LlBlock) : Type 0 where
  pub graph : LlGraph
  pub there : slice_get q.graphs f ≡ Some graph
  pub taken : graph.params ≡ params
  pub result : graph.result ≡ type.Void
  pub typed : graph.types ≡ types
  pub laid : graph.blocks ≡ blocks

-- references lead to roots that are counted
abbrev pub IsRoot : Counts → ℕ → Type 0
IsRoot c n = (c.counted n ≡ true) × (c.root n ≡ n)

-- a field of blocks of this struct, at its place
pub record IsField (q : LlProgram) (c : Counts) (n : ℕ) (h : Reference) : Type 0 where
  pub of : begins_with (shapes_of q.structs) n h.owner ≡ true
  pub place : place (shape_at (shapes_of q.structs) h.owner) h.number ≡ suc (suc h.at)
  pub to : IsRoot c h.to

abbrev pub AllFields : LlProgram → Counts → ℕ → List Reference → Type 0
AllFields q c n [] = Unit {0}
AllFields q c n (h ∷ held) = IsField q c n h × AllFields q c n held

-- the items lead to a root, and their number stands in a field of the struct
pub record AreItems (q : LlProgram) (c : Counts) (n m : ℕ) : Type 0 where
  pub of : begins_with (shapes_of q.structs) n n ≡ true
  pub place : place (shape_at (shapes_of q.structs) n) (c.number n) ≡ suc (suc (c.number_at n))
  pub to : IsRoot c m

-- a program with the graphs of all structs that are counted
pub record Counting (q : LlProgram) (c : Counts) : Type 0 where
  pub release : (n : ℕ) → c.counted n ≡ true → Stands q (c.release n) (release_types c n) (release_blocks c n)
  pub up : (n : ℕ) → IsRoot c n → Stands q (c.up n) (up_types n) (up_blocks n)
  pub down : (n : ℕ) → IsRoot c n → Stands q (c.down n) (down_types n) (down_blocks n)
  pub root : (kind n : ℕ) → IsRoot c n → begins_with (shapes_of q.structs) kind n ≡ true → (c.counted kind ≡ true) × (c.root kind ≡ n)
  -- the count and the release stand first
  pub first : (n k : ℕ) → IsRoot c n → place (shape_at (shapes_of q.structs) n) k ≡ k
  pub held : (n : ℕ) → c.counted n ≡ true → AllFields q c n (c.held n)
  pub items : (n m : ℕ) → c.counted n ≡ true → c.items n ≡ Some m → AreItems q c n m
