-- What appended blocks say of every graph that they end up in, whatever program it is of.
use Rattle.std.specs.Prelude.{◌≡◌, ℕ, ℤ, ◌+◌, ◌<◌, ◌≤◌, ◌⊎◌, Bool, true, false, cond, List, [], ◌∷◌, ◌++◌, length, slice_get, map, option_map, if◌then◌else◌, Option, Some, None}
use Rattle.rpy_meaning.specs.declared.row.RowOp.{RowOp}
use Rattle.rpy_meaning.specs.declared.row.RowOp.TheVariants as row
use Rattle.rpy_tree.specs.declared.program.Program.{Program}
use Rattle.rpy_resolved.specs.Count.{function_count}
use Rattle.rpy_resolved.specs.declared.tree.Clause.{Clause}
use Rattle.rpy_resolved.specs.declared.tree.Expr.{Expr}
use Rattle.rpy_resolved.specs.declared.tree.Resolved.{Resolved}
use Rattle.rpy_resolved.specs.declared.tree.Stmt.{Stmt}
use Rattle.rpy_resolved.specs.declared.tree.Subject.{Subject}
use Rattle.rpy_resolved.specs.declared.tree.Target.{Target}
use Rattle.resolved_laws.specs.Meant.{meant_by}
use Rattle.resolved_laws.specs.Uncopied.{uncopied}
use Rattle.resolver_laws.specs.Listing.{HasNoInnerClasses}
use Rattle.resolver_laws.specs.Made.{IsMadeOf}
use Rattle.flow_graph.specs.declared.graph.Block.{Block}
use Rattle.flow_graph.specs.declared.graph.Graph.{Graph}
use Rattle.flow_graph.specs.declared.graph.Graphs.{Graphs}
use Rattle.flow_graph.specs.Owners.{HaveOwnVariables}
use Rattle.flow_meaning.specs.Machine.{block_in}
use Rattle.flow_stands.specs.Places.{Aim, Hand, Scope, Ways, Jump, Shape, Go, Fork, Does, onto, first, first_and, stored, numbered}
use Rattle.flow_stands.specs.Stands as stands
use Rattle.flow_stands.specs.Stands.{Branch}
use Rattle.rpy_resolved.specs.declared.tree.Function.{Function}
use Rattle.resolved_meaning.specs.Trees.{program_of}
use Rattle.flow_trees.specs.Tree as tree
use Rattle.flow_space.specs.Trees.{functions_of, function_of, expr_of, exprs_of, pairs_of, subject_of, target_of, targets_of, condition_of, stmt_of, block_of, clauses_of}
use Rattle.flow_trees.specs.Marks as marks
use Rattle.flow_trees.specs.Marks.{Path}
use Rattle.flow_trees.specs.Tells.{Telling}
use Rattle.flow_trees.specs.Ops.{Property, OfBlocks, IsOp, InShape, Helps, Meets, InExpr, InExprs, InPairs, InSubject, InCondition, InTarget, InTargets, InPath, InStmt, InBlock, InClauses, InFunction}
use Rattle.flow_space.specs.declared.code.Aim as code_aim
use Rattle.flow_space.specs.declared.code.Hand as code_hand
use Rattle.flow_space.specs.declared.code.Jump as code_jump
use Rattle.flow_space.specs.declared.code.Scope as code_scope
use Rattle.flow_space.specs.declared.expression.Branch as code_branch
use Rattle.flow_space.specs.declared.source.Source.{Source}
use Rattle.flow_space.specs.declared.source.TupleItem.{TupleItem}
use Rattle.flow_space.specs.declared.narrow.Kind.{Kind}
use Rattle.flow_space.specs.declared.narrow.Kind.TheVariants as kind
use Rattle.flow_space.specs.declared.narrow.Narrowing.{Narrowing}
use Rattle.flow_space.specs.declared.narrow.Side.{Side}
use Rattle.flow_space.specs.declared.narrow.Side.TheVariants as side
use Rattle.flow_space.specs.declared.statement.Ways as code_ways

-- from the block with a number on, the graph of function f has these blocks
abbrev pub Agrees : Graphs → ℕ → ℕ → List Block → Type 0
Agrees gs f from blocks = (b : ℕ) → from ≤ b → b < length blocks → block_in (slice_get gs.graphs f) b ≡ slice_get blocks b

-- what is said of the graph of a function, of a program and all its graphs, and of its blocks from a number up to another; and of each
-- operation
pub record At : Type 1 where
  pub stands : Resolved → Graphs → ℕ → ℕ → ℕ → Type 0
  pub ops : Resolved → Property

-- blocks were added, P stands in whatever graph has them at these numbers, and they have no other operations than those of P
pub record Part (old new : List Block) (P : At) : Type 0 where
  pub grows : (more : List Block) × (new ≡ old ++ more)
  pub stands : (r : Resolved) (gs : Graphs) (f : ℕ) → Agrees gs f (length old) new → P.stands r gs f (length old) (length new)
  pub only : (r : Resolved) → OfBlocks (P.ops r) grows.0

-- a block was added that is written later, and `head` is its number
pub record Headed (old new : List Block) (m head count : ℕ) : Type 0 where
  pub at : head ≡ length old
  pub count_is : count ≡ m
  pub grows : (b : Block) × (new ≡ old ++ b ∷ [])

-- the block with the number `head` has m inputs from `base` on, and is not aimed yet
abbrev pub IsHead : List Block → ℕ → ℕ → ℕ → Type 0
IsHead blocks head base m = slice_get blocks head ≡ Some (numbered base m 0 false (Go (first 0 0)))

-- ---- the code's records, as those of the definitions

abbrev pub aim_of : code_aim.Aim → Aim
aim_of a = record { to = a.to; keep = a.keep }

abbrev pub hand_of : code_hand.Hand → Hand
hand_of h = record { class = h.class; local = h.local; aim = aim_of h.aim }

abbrev pub hands_of : List code_hand.Hand → List Hand
hands_of hands = map hand_of hands

abbrev pub jump_of : code_jump.Jump → Jump
jump_of j = record { to = j.to; places = j.places }

abbrev pub scope_of : code_scope.Scope → Scope
scope_of s = record { hands = hands_of s.hands; default = aim_of s.default; covers = s.covers; tried = s.tried }

abbrev pub branch_of : code_branch.Branch → Branch
branch_of b = record { to = b.to; value = b.value }

abbrev pub ways_of : code_ways.Ways → Ways
ways_of t = record { norm = t.norm; brk = aim_of t.brk; cont = aim_of t.cont; ret = aim_of t.ret }

-- ---- what targets take

abbrev pub path_of : List TupleItem → Path
path_of path = map (λ item. record { node = item.node; count = item.count; place = item.place }) path

-- where it stands once it is taken behind m variables, and how many are there then
abbrev pub taken_place : List TupleItem → ℕ → ℕ → ℕ
taken_place [] at m = at
taken_place (item ∷ path) at m = m

abbrev pub taken_count : List TupleItem → ℕ → ℕ
taken_count [] m = m
taken_count (item ∷ path) m = m + 1

-- the last item goes on, or not
abbrev pub last_jump : Bool → ℕ → ℕ → ℕ → Jump
last_jump kept q m item = cond kept (first_and q m item) (first q m)

-- ---- narrowings

abbrev pub narrowing_op : Kind → RowOp
narrowing_op kind.DropNone = row.DropNone
narrowing_op kind.OnlyNone = row.OnlyNone
narrowing_op kind.FalseNone = row.FalseNone
narrowing_op (kind.Lower c) = row.Lower c
narrowing_op (kind.NonNegative side) = row.NonNegative

-- the place of a side of a comparison among its operands
abbrev pub place_of : Side → ℕ
place_of side.Left = 0
place_of side.Right = 1

abbrev pub beside_of : Kind → Option ℕ
beside_of (kind.NonNegative side) = Some (place_of side)
beside_of other = None

abbrev pub telling_of : Narrowing → Telling
telling_of narrowing = record { local = narrowing.local; op = narrowing_op narrowing.kind; beside = beside_of narrowing.kind }

abbrev pub told_of : Option Narrowing → Option Telling
told_of narrowing = option_map telling_of narrowing

-- of a local beside an operand that has bound it or not
abbrev pub told_beside : ℕ → Side → Bool → Option Telling
told_beside i side bound = if bound then None else Some (record { local = i; op = row.NonNegative; beside = Some (place_of side) })

abbrev pub local_in : tree.Expr → Option ℕ
local_in (tree.Local node i) = Some i
local_in other = None

-- the local, and the place of a side where one is needed, which stands before the value or is the value
abbrev pub AreArgs : Kind → List ℕ → ℕ → ℕ → ℕ → Type 0
AreArgs (kind.NonNegative side) args i m value = (args ≡ i ∷ (m + place_of side) ∷ []) × (m + place_of side < value + 1)
AreArgs other args i m value = args ≡ i ∷ []

-- ---- what stands

-- of a block without an operation, and of one whose operation has the node and the mark
abbrev pub ShapeAt : ℕ → ℕ → Shape → At
ShapeAt b m shape = record {
  stands = λ r gs f lo hi. marks.Is (program_of r) gs f 0 b m shape lo hi;
  ops = λ r x g w. ⊥;
}

abbrev pub MarkedAt : ℕ → ℕ → ℕ → Bool → Shape → At
MarkedAt b m node value shape = record {
  stands = λ r gs f lo hi. marks.Marked (program_of r) gs f 0 b m node value shape lo hi;
  ops = λ r x g w. InShape x g w node value shape;
}

module _ (sc : code_scope.Scope) where
  abbrev pub ActsAt : ℕ → ℕ → Bool → RowOp → List ℕ → ℕ → Jump → At
  ActsAt b node value o args m norm = record {
    stands = λ r gs f lo hi. marks.Acts (program_of r) gs f sc.locals (scope_of sc) b node value o args m norm lo hi;
    ops = λ r x g w. IsOp x g w node value o;
  }

  abbrev pub MeetsAt : ℕ → ℕ → ℕ → ℕ → At
  MeetsAt node b m q = record {
    stands = λ r gs f lo hi. marks.Meets (program_of r) gs f sc.locals (scope_of sc) node b m q lo hi;
    ops = λ r x g w. IsOp x g w node true row.Copy;
  }

  abbrev pub ExprAt : Expr → ℕ → ℕ → ℕ → At
  ExprAt e b m q = record {
    stands = λ r gs f lo hi. marks.HasExpr (program_of r) gs f sc.locals (scope_of sc) (expr_of r.sites e) b m q lo hi;
    ops = λ r x g w. InExpr x g w (expr_of r.sites e);
  }

  abbrev pub ExprsAt : List Expr → ℕ → ℕ → ℕ → At
  ExprsAt es b m q = record {
    stands = λ r gs f lo hi. marks.HasExprs (program_of r) gs f sc.locals (scope_of sc) (exprs_of r.sites es) b m q lo hi;
    ops = λ r x g w. InExprs x g w (exprs_of r.sites es);
  }

  abbrev pub ApplyAt : ℕ → Bool → RowOp → List Expr → ℕ → ℕ → ℕ → At
  ApplyAt node value o es b m q = record {
    stands = λ r gs f lo hi. marks.HasExpr (program_of r) gs f sc.locals (scope_of sc) (tree.Apply node value o (exprs_of r.sites es)) b m q lo hi;
    ops = λ r x g w. InExpr x g w (tree.Apply node value o (exprs_of r.sites es));
  }

  -- operands and what is done with them
  abbrev pub AppliedAt : ℕ → Bool → RowOp → List Expr → ℕ → ℕ → ℕ → At
  AppliedAt node value o es b m q = record {
    stands = λ r gs f lo hi. marks.AppliedAt (program_of r) gs f sc.locals (scope_of sc) node value o (length es) (marks.HasExprs (program_of r) gs f sc.locals (scope_of sc) (exprs_of r.sites es)) b m q lo hi;
    ops = λ r x g w. IsOp x g w node value o ⊎ InExprs x g w (exprs_of r.sites es);
  }

  -- `not` of a test as a value
  abbrev pub NotAt : ℕ → Expr → ℕ → ℕ → ℕ → At
  NotAt node a b m q = record {
    stands = λ r gs f lo hi. marks.NotAt (program_of r) gs f sc.locals (scope_of sc) node (marks.HasTest (program_of r) gs f sc.locals (scope_of sc) node (expr_of r.sites a)) b m q lo hi;
    ops = λ r x g w. Meets x g w node ⊎ InExpr x g w (expr_of r.sites a);
  }

  -- `and` where the flag is true, else `or`
  abbrev pub LogicAt : ℕ → Bool → Expr → Expr → ℕ → ℕ → ℕ → At
  LogicAt node is_and a e b m q = record {
    stands = λ r gs f lo hi. marks.HasExpr (program_of r) gs f sc.locals (scope_of sc) (cond is_and (tree.And node (expr_of r.sites a) (expr_of r.sites e)) (tree.Or node (expr_of r.sites a) (expr_of r.sites e))) b m q lo hi;
    ops = λ r x g w. Meets x g w node ⊎ InExpr x g w (expr_of r.sites a) ⊎ InExpr x g w (expr_of r.sites e);
  }

  abbrev pub DisplayAt : ℕ → ℕ → List (Expr × Expr) → ℕ → ℕ → ℕ → At
  DisplayAt node site pairs b m q = record {
    stands = λ r gs f lo hi. marks.HasExpr (program_of r) gs f sc.locals (scope_of sc) (tree.Display node site (pairs_of r.sites pairs)) b m q lo hi;
    ops = λ r x g w. InExpr x g w (tree.Display node site (pairs_of r.sites pairs));
  }

  abbrev pub ComprehensionAt : ℕ → ℕ → Expr → Target → Subject → Option Expr → ℕ → ℕ → ℕ → At
  ComprehensionAt node site item target subject condition b m q = record {
    stands = λ r gs f lo hi. marks.HasExpr (program_of r) gs f sc.locals (scope_of sc)
        (tree.Comprehension node site (expr_of r.sites item) (target_of r.sites target) (subject_of r.sites subject) (condition_of r.sites condition)) b m q lo hi;
    ops = λ r x g w. InExpr x g w (tree.Comprehension node site (expr_of r.sites item) (target_of r.sites target) (subject_of r.sites subject) (condition_of r.sites condition));
  }

  abbrev pub TestAt : ℕ → Expr → ℕ → ℕ → ℕ → ℕ → At
  TestAt node e b m so other_way = record {
    stands = λ r gs f lo hi. marks.HasTest (program_of r) gs f sc.locals (scope_of sc) node (expr_of r.sites e) b m so other_way lo hi;
    ops = λ r x g w. Helps x g w node ⊎ InExpr x g w (expr_of r.sites e);
  }

  -- a block in which a local is narrowed, and the way to it
  abbrev pub NarrowedAt : ℕ → Narrowing → ℕ → ℕ → ℕ → Jump → At
  NarrowedAt node narrowing m value to jump = record {
    stands = λ r gs f lo hi. marks.WayOn (program_of r) gs f sc.locals (scope_of sc) node (Some (telling_of narrowing)) m value false to jump lo hi;
    ops = λ r x g w. Helps x g w node;
  }

  abbrev pub WayAt : ℕ → Expr → Bool → ℕ → ℕ → Branch → Jump → At
  WayAt node e truth m value branch jump = record {
    stands = λ r gs f lo hi. marks.Way (program_of r) gs f sc.locals (scope_of sc) node (expr_of r.sites e) truth m value branch jump lo hi;
    ops = λ r x g w. Helps x g w node;
  }

  abbrev pub TruthAt : ℕ → Expr → ℕ → ℕ → ℕ → Branch → Branch → At
  TruthAt node e b m value so other_way = record {
    stands = λ r gs f lo hi. marks.Truth (program_of r) gs f sc.locals (scope_of sc) node (expr_of r.sites e) b m value so other_way lo hi;
    ops = λ r x g w. Helps x g w node;
  }

  -- an expression and the truth of its value
  abbrev pub WholeAt : ℕ → Expr → ℕ → ℕ → Branch → Branch → At
  WholeAt node e b m so other_way = record {
    stands = λ r gs f lo hi. (k l : ℕ)
        × marks.Truth (program_of r) gs f sc.locals (scope_of sc) node (expr_of r.sites e) k m m so other_way lo l
        × marks.HasExpr (program_of r) gs f sc.locals (scope_of sc) (expr_of r.sites e) b m k l hi;
    ops = λ r x g w. Helps x g w node ⊎ InExpr x g w (expr_of r.sites e);
  }

  abbrev pub AsksAt : ℕ → Expr → ℕ → ℕ → Branch → Branch → At
  AsksAt node e b m so other_way = record {
    stands = λ r gs f lo hi. marks.Asks (program_of r) gs f sc.locals (scope_of sc) node (expr_of r.sites e)
        (marks.HasExpr (program_of r) gs f sc.locals (scope_of sc) (expr_of r.sites e))
        (marks.HasSides (program_of r) gs f sc.locals (scope_of sc) (expr_of r.sites e)) b m so other_way lo hi;
    ops = λ r x g w. Helps x g w node ⊎ InExpr x g w (expr_of r.sites e);
  }

  -- the operands of a comparison and its result
  abbrev pub SidesAt : ℕ → Bool → RowOp → List Expr → ℕ → ℕ → ℕ → At
  SidesAt node value o es b m q = record {
    stands = λ r gs f lo hi. marks.HasSides (program_of r) gs f sc.locals (scope_of sc) (tree.Apply node value o (exprs_of r.sites es)) b m (length es) q lo hi;
    ops = λ r x g w. IsOp x g w node value o ⊎ InExprs x g w (exprs_of r.sites es);
  }

  abbrev pub PairsAt : ℕ → List (Expr × Expr) → ℕ → ℕ → ℕ → At
  PairsAt node pairs b m q = record {
    stands = λ r gs f lo hi. marks.HasPairs (program_of r) gs f sc.locals (scope_of sc) node (pairs_of r.sites pairs) b m q lo hi;
    ops = λ r x g w. Helps x g w node ⊎ InPairs x g w (pairs_of r.sites pairs);
  }

  -- a pair is stored to the dict at m
  abbrev pub PairAt : ℕ → Expr × Expr → ℕ → ℕ → ℕ → At
  PairAt node pair b m next = record {
    stands = λ r gs f lo hi. (k l l1 l2 : ℕ)
        × marks.Acts (program_of r) gs f sc.locals (scope_of sc) l node false row.StoreIndex (m ∷ (m + 1) ∷ (m + 2) ∷ []) (m + 3) (first next (m + 1)) lo l1
        × marks.HasExpr (program_of r) gs f sc.locals (scope_of sc) (expr_of r.sites pair.1) k (m + 1 + 1) l l1 l2
        × marks.HasExpr (program_of r) gs f sc.locals (scope_of sc) (expr_of r.sites pair.0) b (m + 1) k l2 hi;
    ops = λ r x g w. Helps x g w node ⊎ InExpr x g w (expr_of r.sites pair.0) ⊎ InExpr x g w (expr_of r.sites pair.1);
  }

  -- a turn of a walk, from the question for an item on
  abbrev pub TurnAt : ℕ → Option ℤ → ℕ → ℕ → ℕ → Jump → ℕ → At
  TurnAt node step over all turn after begin = record {
    stands = λ r gs f lo hi. (fork paid item l1 l2 l3 : ℕ)
        × marks.Acts (program_of r) gs f sc.locals (scope_of sc) item node false (row.Item step) (over ∷ (over + 1) ∷ []) all (first_and turn all all) lo l1
        × marks.Acts (program_of r) gs f sc.locals (scope_of sc) paid node false row.Turn [] all (first item all) l1 l2
        × marks.Is (program_of r) gs f sc.locals fork (all + 1) (Fork all (first paid all) after) l2 l3
        × marks.Acts (program_of r) gs f sc.locals (scope_of sc) begin node false (row.HasItem step) (over ∷ (over + 1) ∷ []) all (first_and fork all all) l3 hi;
    ops = λ r x g w. Helps x g w node;
  }

  abbrev pub GatherAt : ℕ → Expr → Option Expr → ℕ → ℕ → ℕ → ℕ → At
  GatherAt node item condition list m advance b = record {
    stands = λ r gs f lo hi. marks.GatherAt (program_of r) gs f sc.locals (scope_of sc) node
        (marks.HasExpr (program_of r) gs f sc.locals (scope_of sc) (expr_of r.sites item))
        (marks.HasCondition (program_of r) gs f sc.locals (scope_of sc) node (condition_of r.sites condition)) list b m advance lo hi;
    ops = λ r x g w. Helps x g w node ⊎ InExpr x g w (expr_of r.sites item) ⊎ InCondition x g w (condition_of r.sites condition);
  }

  abbrev pub SubjectAt : ℕ → Subject → ℕ → ℕ → ℕ → At
  SubjectAt node subject b m q = record {
    stands = λ r gs f lo hi. marks.HasSubject (program_of r) gs f sc.locals (scope_of sc) node (subject_of r.sites subject) b m q lo hi;
    ops = λ r x g w. Helps x g w node ⊎ InSubject x g w (subject_of r.sites subject);
  }

  -- along a path, from the tuple at a place of `all` variables on
  abbrev pub UnpacksAt : Bool → List TupleItem → ℕ → ℕ → ℕ → ℕ → ℕ → At
  UnpacksAt kept path at m all q b = record {
    stands = λ r gs f lo hi. marks.Unpacks (program_of r) gs f sc.locals (scope_of sc) (λ w. last_jump kept q m w) m (path_of path) at all b lo hi;
    ops = λ r x g w. InPath x g w (path_of path);
  }

  abbrev pub ThereAt : Source → ℕ → ℕ → ℕ → At
  ThereAt source b m q = record {
    stands = λ r gs f lo hi. marks.There (program_of r) gs f sc.locals (scope_of sc) (path_of source.path) source.at b m q lo hi;
    ops = λ r x g w. InPath x g w (path_of source.path);
  }

  abbrev pub TakenAt : Source → ℕ → ℕ → ℕ → At
  TakenAt source b m q = record {
    stands = λ r gs f lo hi. marks.Taken (program_of r) gs f sc.locals (scope_of sc) (path_of source.path) source.at b m q (taken_place source.path source.at m) (taken_count source.path m) lo hi;
    ops = λ r x g w. InPath x g w (path_of source.path);
  }

  abbrev pub BindAt : Target → ℕ → ℕ → ℕ → ℕ → ℕ → At
  BindAt target value m keep b q = record {
    stands = λ r gs f lo hi. marks.HasBind (program_of r) gs f sc.locals (scope_of sc) (target_of r.sites target) [] value m keep b q lo hi;
    ops = λ r x g w. InTarget x g w (target_of r.sites target);
  }

  abbrev pub TakeAt : Target → Source → ℕ → ℕ → ℕ → ℕ → At
  TakeAt target source m keep b q = record {
    stands = λ r gs f lo hi. marks.HasBind (program_of r) gs f sc.locals (scope_of sc) (target_of r.sites target) (path_of source.path) source.at m keep b q lo hi;
    ops = λ r x g w. InPath x g w (path_of source.path) ⊎ InTarget x g w (target_of r.sites target);
  }

  -- it is taken, and a local takes it
  abbrev pub NamedAt : ℕ → ℕ → Source → ℕ → ℕ → ℕ → ℕ → At
  NamedAt node local source m keep b q = record {
    stands = λ r gs f lo hi. (k l : ℕ)
        × (ActsAt k node true row.Copy (taken_place source.path source.at m ∷ []) (taken_count source.path m) (stored q keep local (taken_count source.path m))).stands r gs f lo l
        × (TakenAt source b m k).stands r gs f l hi;
    ops = λ r x g w. IsOp x g w node true row.Copy ⊎ InPath x g w (path_of source.path);
  }

  -- or an operation stores it
  abbrev pub StoredAt : ℕ → RowOp → List ℕ → Source → ℕ → ℕ → ℕ → ℕ → At
  StoredAt node o args source m keep b q = record {
    stands = λ r gs f lo hi. (k l : ℕ) × (ActsAt k node true o args (taken_count source.path m) (first q keep)).stands r gs f lo l × (TakenAt source b m k).stands r gs f l hi;
    ops = λ r x g w. IsOp x g w node true o ⊎ InPath x g w (path_of source.path);
  }

  abbrev pub ItemAt : ℕ → Expr → Expr → Source → ℕ → ℕ → ℕ → ℕ → At
  ItemAt node a i source m keep b q = record {
    stands = λ r gs f lo hi. marks.HasBind (program_of r) gs f sc.locals (scope_of sc) (tree.Item node (expr_of r.sites a) (expr_of r.sites i)) (path_of source.path) source.at m keep b q lo hi;
    ops = λ r x g w. InPath x g w (path_of source.path) ⊎ InTarget x g w (tree.Item node (expr_of r.sites a) (expr_of r.sites i));
  }

  abbrev pub PartsAt : ℕ → List Target → Source → ℕ → ℕ → ℕ → ℕ → At
  PartsAt node parts source m keep b q = record {
    stands = λ r gs f lo hi. marks.HasBind (program_of r) gs f sc.locals (scope_of sc) (tree.Parts node (targets_of r.sites parts)) (path_of source.path) source.at m keep b q lo hi;
    ops = λ r x g w. InPath x g w (path_of source.path) ⊎ InTarget x g w (tree.Parts node (targets_of r.sites parts));
  }

  -- the tuple is taken and copied
  abbrev pub TupleAt : ℕ → Source → ℕ → ℕ → ℕ → At
  TupleAt node source m b q = record {
    stands = λ r gs f lo hi. (k l : ℕ)
        × (ActsAt k node true row.Copy (taken_place source.path source.at m ∷ []) (taken_count source.path m) (first q m)).stands r gs f lo l
        × (TakenAt source b m k).stands r gs f l hi;
    ops = λ r x g w. IsOp x g w node true row.Copy ⊎ InPath x g w (path_of source.path);
  }

  abbrev pub ItemsAt : ℕ → List Target → ℕ → ℕ → Source → ℕ → ℕ → ℕ → At
  ItemsAt node parts count place source m b q = record {
    stands = λ r gs f lo hi. marks.HasItems (program_of r) gs f sc.locals (scope_of sc) node (targets_of r.sites parts) count place (path_of source.path) source.at b m q lo hi;
    ops = λ r x g w. Helps x g w node ⊎ InPath x g w (path_of source.path) ⊎ InTargets x g w (targets_of r.sites parts);
  }

  -- ---- statements

  abbrev pub MarkAt : ℕ → ℕ → ℕ → ℕ → At
  MarkAt node b m q = record {
    stands = λ r gs f lo hi. marks.Mark (program_of r) gs f sc.locals (scope_of sc) node b m q lo hi;
    ops = λ r x g w. Helps x g w node;
  }

  -- a value goes back
  abbrev pub BackAt : ℕ → ℕ → ℕ → Aim → At
  BackAt node b m ret = record {
    stands = λ r gs f lo hi. marks.GivesBack (program_of r) gs f sc.locals (scope_of sc) node b m ret lo hi;
    ops = λ r x g w. Helps x g w node;
  }

  -- by a copy that is seen where values return
  abbrev pub SeenAt : ℕ → ℕ → ℕ → Aim → At
  SeenAt node b m ret = record {
    stands = λ r gs f lo hi. marks.Marked (program_of r) gs f sc.locals b (m + 1) node false (Does row.Copy (m ∷ []) sc.covers [] (first_and stands.return_block 0 m) (first_and ret.to ret.keep m)) lo hi;
    ops = λ r x g w. Helps x g w node;
  }

  abbrev pub ReturnAt : ℕ → Expr → ℕ → ℕ → code_ways.Ways → At
  ReturnAt node e b m t = record {
    stands = λ r gs f lo hi. marks.HasStmt (program_of r) gs f sc.locals (scope_of sc) (tree.Return node (expr_of r.sites e)) b m (ways_of t) lo hi;
    ops = λ r x g w. InStmt x g w (tree.Return node (expr_of r.sites e));
  }

  abbrev pub DoAt : Expr → ℕ → ℕ → ℕ → At
  DoAt e b m q = record {
    stands = λ r gs f lo hi. (k l : ℕ) × marks.Is (program_of r) gs f sc.locals k (m + 1) (Go (first q m)) lo l × marks.HasExpr (program_of r) gs f sc.locals (scope_of sc) (expr_of r.sites e) b m k l hi;
    ops = λ r x g w. InExpr x g w (expr_of r.sites e);
  }

  abbrev pub AssignAt : List Target → Expr → ℕ → ℕ → ℕ → At
  AssignAt ts e b m q = record {
    stands = λ r gs f lo hi. (k l : ℕ) × marks.HasTargets (program_of r) gs f sc.locals (scope_of sc) (targets_of r.sites ts) k m q lo l × marks.HasExpr (program_of r) gs f sc.locals (scope_of sc) (expr_of r.sites e) b m k l hi;
    ops = λ r x g w. InTargets x g w (targets_of r.sites ts) ⊎ InExpr x g w (expr_of r.sites e);
  }

  abbrev pub SimpleAt : Stmt → ℕ → ℕ → code_ways.Ways → At
  SimpleAt s b m t = record {
    stands = λ r gs f lo hi. marks.HasStmt (program_of r) gs f sc.locals (scope_of sc) (stmt_of r.sites s) b m (ways_of t) lo hi;
    ops = λ r x g w. InStmt x g w (stmt_of r.sites s);
  }

  abbrev pub BindsAt : List Target → ℕ → ℕ → ℕ → At
  BindsAt ts b m q = record {
    stands = λ r gs f lo hi. marks.HasTargets (program_of r) gs f sc.locals (scope_of sc) (targets_of r.sites ts) b m q lo hi;
    ops = λ r x g w. InTargets x g w (targets_of r.sites ts);
  }

  -- the operation on the old value and the right side
  abbrev pub NewAt : ℕ → RowOp → ℕ → ℕ → ℕ → At
  NewAt node o b m q = record {
    stands = λ r gs f lo hi. marks.NewAt (program_of r) gs f sc.locals (scope_of sc) node o b m q lo hi;
    ops = λ r x g w. Helps x g w node;
  }

  abbrev pub AugmentNameAt : ℕ → ℕ → ℕ → RowOp → Expr → ℕ → ℕ → ℕ → At
  AugmentNameAt node at i o e b m q = record {
    stands = λ r gs f lo hi. marks.HasAugment (program_of r) gs f sc.locals (scope_of sc) node (tree.Name at i) o (expr_of r.sites e) b m q lo hi;
    ops = λ r x g w. InStmt x g w (tree.Augment node (tree.Name at i) o (expr_of r.sites e));
  }

  abbrev pub AugmentAttrAt : ℕ → ℕ → Expr → List ℕ → RowOp → Expr → ℕ → ℕ → ℕ → At
  AugmentAttrAt node at a name o e b m q = record {
    stands = λ r gs f lo hi. marks.HasAugment (program_of r) gs f sc.locals (scope_of sc) node (tree.Attribute at (expr_of r.sites a) name) o (expr_of r.sites e) b m q lo hi;
    ops = λ r x g w. InStmt x g w (tree.Augment node (tree.Attribute at (expr_of r.sites a) name) o (expr_of r.sites e));
  }

  abbrev pub AugmentItemAt : ℕ → ℕ → Expr → Expr → RowOp → Expr → ℕ → ℕ → ℕ → At
  AugmentItemAt node at a i o e b m q = record {
    stands = λ r gs f lo hi. marks.HasAugment (program_of r) gs f sc.locals (scope_of sc) node (tree.Item at (expr_of r.sites a) (expr_of r.sites i)) o (expr_of r.sites e) b m q lo hi;
    ops = λ r x g w. InStmt x g w (tree.Augment node (tree.Item at (expr_of r.sites a) (expr_of r.sites i)) o (expr_of r.sites e));
  }

  abbrev pub AugmentAt : ℕ → Target → RowOp → Expr → ℕ → ℕ → ℕ → At
  AugmentAt node t o e b m q = record {
    stands = λ r gs f lo hi. marks.HasAugment (program_of r) gs f sc.locals (scope_of sc) node (target_of r.sites t) o (expr_of r.sites e) b m q lo hi;
    ops = λ r x g w. InStmt x g w (tree.Augment node (target_of r.sites t) o (expr_of r.sites e));
  }

  -- a statement, a block and clauses, of a program
  module _ (program : Resolved) where
    abbrev pub StmtAt : Stmt → ℕ → ℕ → code_ways.Ways → At
    StmtAt s b m t = record {
      stands = λ r gs f lo hi. r ≡ program → marks.HasStmt (program_of r) gs f sc.locals (scope_of sc) (stmt_of r.sites s) b m (ways_of t) lo hi;
      ops = λ r x g w. InStmt x g w (stmt_of r.sites s);
    }

    abbrev pub BlockAt : List Stmt → ℕ → ℕ → code_ways.Ways → At
    BlockAt ss b m t = record {
      stands = λ r gs f lo hi. r ≡ program → marks.HasBlock (program_of r) gs f sc.locals (scope_of sc) (block_of r.sites ss) b m (ways_of t) lo hi;
      ops = λ r x g w. InBlock x g w (block_of r.sites ss);
    }

    abbrev pub IfAt : ℕ → Expr → List Stmt → List Stmt → ℕ → ℕ → code_ways.Ways → At
    IfAt node e so other b m t = record {
      stands = λ r gs f lo hi. r ≡ program → marks.HasStmt (program_of r) gs f sc.locals (scope_of sc) (tree.If node (expr_of r.sites e) (block_of r.sites so) (block_of r.sites other)) b m (ways_of t) lo hi;
      ops = λ r x g w. InStmt x g w (tree.If node (expr_of r.sites e) (block_of r.sites so) (block_of r.sites other));
    }

    abbrev pub WhileAt : ℕ → Expr → List Stmt → ℕ → ℕ → code_ways.Ways → At
    WhileAt node e ss b m t = record {
      stands = λ r gs f lo hi. r ≡ program → marks.HasStmt (program_of r) gs f sc.locals (scope_of sc) (tree.While node (expr_of r.sites e) (block_of r.sites ss)) b m (ways_of t) lo hi;
      ops = λ r x g w. InStmt x g w (tree.While node (expr_of r.sites e) (block_of r.sites ss));
    }

    abbrev pub ForAt : ℕ → Target → Subject → List Stmt → ℕ → ℕ → code_ways.Ways → At
    ForAt node target subject ss b m t = record {
      stands = λ r gs f lo hi. r ≡ program
          → marks.HasStmt (program_of r) gs f sc.locals (scope_of sc) (tree.For node (target_of r.sites target) (subject_of r.sites subject) (block_of r.sites ss)) b m (ways_of t) lo hi;
      ops = λ r x g w. InStmt x g w (tree.For node (target_of r.sites target) (subject_of r.sites subject) (block_of r.sites ss));
    }

    abbrev pub TryAt : List Stmt → List Clause → List Stmt → ℕ → ℕ → code_ways.Ways → At
    TryAt ss cs other b m t = record {
      stands = λ r gs f lo hi. r ≡ program
          → (node : ℕ)
          → marks.HasStmt (program_of r) gs f sc.locals (scope_of sc) (tree.Try node (block_of r.sites ss) (clauses_of r.sites cs) (block_of r.sites other)) b m (ways_of t) lo hi;
      ops = λ r x g w. InBlock x g w (block_of r.sites ss) ⊎ InClauses x g w (clauses_of r.sites cs) ⊎ InBlock x g w (block_of r.sites other);
    }

    abbrev pub FinallyAt : ℕ → List Stmt → List Stmt → ℕ → ℕ → code_ways.Ways → At
    FinallyAt node ss last b m t = record {
      stands = λ r gs f lo hi. r ≡ program → marks.HasStmt (program_of r) gs f sc.locals (scope_of sc) (tree.Finally node (block_of r.sites ss) (block_of r.sites last)) b m (ways_of t) lo hi;
      ops = λ r x g w. InStmt x g w (tree.Finally node (block_of r.sites ss) (block_of r.sites last));
    }

    -- these hands and this way for other exceptions are those of the clauses, and of what stands around
    abbrev pub ClausesAt : List Clause → ℕ → code_ways.Ways → List Hand → Aim → At
    ClausesAt cs m t hands default = record {
      stands = λ r gs f lo hi. r ≡ program → marks.HasClauses (program_of r) gs f sc.locals (scope_of sc) (clauses_of r.sites cs) m (ways_of t) hands default lo hi;
      ops = λ r x g w. InClauses x g w (clauses_of r.sites cs);
    }

    -- the last part of a `finally`, and then on by a jump
    abbrev pub LeftAt : List Stmt → ℕ → ℕ → Jump → code_ways.Ways → At
    LeftAt last b m jump t = record {
      stands = λ r gs f lo hi. r ≡ program
          → (out l : ℕ)
          × marks.Is (program_of r) gs f sc.locals out m (Go jump) lo l
          × marks.HasBlock (program_of r) gs f sc.locals (scope_of sc) (block_of r.sites last) b m (onto (ways_of t) out) l hi;
      ops = λ r x g w. InBlock x g w (block_of r.sites last);
    }

    -- the last part with an exception held at m, which is raised again
    abbrev pub RaisedAt : ℕ → List Stmt → ℕ → ℕ → code_ways.Ways → At
    RaisedAt node last b m t = record {
      stands = λ r gs f lo hi. r ≡ program
          → (out l : ℕ)
          × marks.Acts (program_of r) gs f sc.locals (scope_of sc) out node false row.Raise (m ∷ []) (m + 1) (first stands.never_block 0) lo l
          × marks.HasBlock (program_of r) gs f sc.locals (scope_of sc) (block_of r.sites last) b (m + 1) (onto (ways_of t) out) l hi;
      ops = λ r x g w. Helps x g w node ⊎ InBlock x g w (block_of r.sites last);
    }

-- ---- graphs

-- the variables of a graph are counted from 0 on: the first one that its first block takes is 0
abbrev pub BeginsAtNought : Graph → Type 0
BeginsAtNought graph = (b : Block) (v : ℕ) → slice_get graph.blocks 0 ≡ Some b → slice_get b.inputs 0 ≡ Some v → v ≡ 0

-- a graph is that of a function of the program, whichever number it has, has no other operations than those of its tree, and has each
-- variable in one block, from 0 on
pub record GraphAt (program : Resolved) (function : Function) (graph : Graph) : Type 0 where
  pub stands : (gs : Graphs) (f : ℕ) → slice_get gs.graphs f ≡ Some graph → marks.HasFunction (program_of program) gs f (function_of program.sites function)
  pub only : OfBlocks (λ x g w. InFunction x g w (function_of program.sites function)) graph.blocks
  pub own : HaveOwnVariables graph.blocks
  pub nought : BeginsAtNought graph

-- each graph is that of the function with its number
abbrev pub GraphsAt : Resolved → List Function → List Graph → Type 0
GraphsAt program functions graphs = (i : ℕ) (function : Function) (graph : Graph) → slice_get functions i ≡ Some function → slice_get graphs i ≡ Some graph → GraphAt program function graph

-- the graphs of a program are those of its functions, with their nodes, have no other operations, and have each variable in one block, from
-- 0 on
pub record NodesAt (program : Resolved) (gs : Graphs) : Type 0 where
  pub stand : marks.Stand (program_of program) gs (functions_of program)
  pub only : (f : ℕ) (graph : Graph) → slice_get gs.graphs f ≡ Some graph
      → (function : Function) × (slice_get program.functions f ≡ Some function) × OfBlocks (λ x g w. InFunction x g w (function_of program.sites function)) graph.blocks
  pub own : (f : ℕ) (graph : Graph) → slice_get gs.graphs f ≡ Some graph → HaveOwnVariables graph.blocks
  pub nought : (f : ℕ) (graph : Graph) → slice_get gs.graphs f ≡ Some graph → BeginsAtNought graph

-- without nodes
abbrev pub FlowAt : Resolved → Graphs → Type 0
FlowAt program gs = stands.Stand (program_of program) gs

-- they are those of a program with bound names that has as many functions. Without the copies of checked operations it is the program that
-- the meaning makes of the modules, where no class stands within a class and each function of the modules is one of the program's; its functions
-- are made of those of the modules, one by one
pub record StandFor (p : Program) (gs : Graphs) : Type 0 where
  pub resolved : Resolved
  pub count : length resolved.functions ≡ function_count p.modules
  pub meant : HasNoInnerClasses p.modules → function_count p.modules ≤ length p.functions → uncopied (program_of resolved) ≡ meant_by p
  pub made : IsMadeOf p resolved
  pub nodes : NodesAt resolved gs
  pub stand : FlowAt resolved gs
