-- A part of a program with nodes stands at a place of its function's graph, as in `flow_stands`, and each operation has the node, and the
-- mark that it gives the value of its node, which belong to it. What has no operation of its own stands as it does there. The blocks of a
-- part are those from one number up to another, and its parts share them out: what comes after a part stands before it.
use Rattle.std.specs.Prelude.{◌≡◌, ℕ, ℤ, suc, pos, ◌+◌, ◌<◌, ◌≤◌, ◌⊎◌, Bool, true, false, List, [], ◌∷◌, ◌++◌, length, slice_get, Option, Some, None}
use Rattle.rpy_tree.specs.declared.program.Const.{Const}
use Rattle.rpy_tree.specs.Value.{Value}
use Rattle.rpy_meaning.specs.declared.row.RowOp.{RowOp}
use Rattle.rpy_meaning.specs.declared.row.RowOp.TheVariants as row
use Rattle.rpy_meaning.specs.Tree as tree
use Rattle.rpy_meaning.specs.Classes.{covers_within}
use Rattle.rpy_meaning.specs.Operations.{constant}
use Rattle.rpy_meaning.specs.Meaning.{target_count}
use Rattle.flow_graph.specs.declared.graph.Block.{Block as Code}
use Rattle.flow_graph.specs.declared.graph.Graph.{Graph}
use Rattle.flow_graph.specs.declared.graph.Graphs.{Graphs}
use Rattle.flow_meaning.specs.Machine.{block_in}
use Rattle.flow_stands.specs.Places.{range, Aim, Hand, Scope, Ways, onto, Jump, first, first_and, stored, on_to, hand_jumps, Shape, Go, Fork, Does, Plain, GiveBack, GiveUp, numbered}
use Rattle.flow_stands.specs.Stands as stands
use Rattle.flow_stands.specs.Stands.{head_block, return_block, raise_block, never_block, end_block, count, onward, step_of, hands_of, Branch, plainly, with_value, LocalIn, no_try, outside}
use Rattle.flow_trees.specs.Tree.{Expr, Local, Constant, Apply, And, Or, Display, Comprehension, Exprs, none, more, Pairs, no_pairs, pair, Subject, Over, UpTo, FromTo, Condition, Always, Where, Target, Name, Attribute, Item, Parts, Targets, no_targets, more_targets, Stmt, Pass, Break, Continue, Return, Do, Assign, Augment, If, While, For, Try, Finally, Block, done, line, Clauses, no_clauses, clause, Function, node_of, plain, plain_exprs, plain_subject, plain_targets, plain_clauses}
use Rattle.flow_trees.specs.Tells.{Telling, tells, asks_beside, negates, by_ways}

-- an item of a tuple that is taken apart by the target with the node: of how many it is, and which one
pub record Step : Type 0 where
  pub node : ℕ
  pub count : ℕ
  pub place : ℕ

abbrev pub Path : Type 0
Path = List Step

-- of a block, so many variables and the block that is gone on to; from which number, and up to which
abbrev pub Place : Type 1
Place = ℕ → ℕ → ℕ → ℕ → ℕ → Type 0

-- of a block, so many variables, and the blocks that are gone on to by its truth
abbrev pub Choice : Type 1
Choice = ℕ → ℕ → ℕ → ℕ → ℕ → ℕ → Type 0

-- the one block from a number on
abbrev pub Alone : ℕ → ℕ → ℕ → Type 0
Alone b lo hi = (lo ≡ b) × (hi ≡ b + 1)

-- the operands of a narrowing: the local, and what stands beside it, one of the operands of the comparison, which are there from m on
abbrev pub beside_place : Option ℕ → ℕ → List ℕ
beside_place None m = []
beside_place (Some place) m = (m + place) ∷ []

abbrev pub operands : Telling → ℕ → List ℕ
operands t m = t.local ∷ beside_place t.beside m

-- The program and all its graphs. The part is one of function f, which has n locals.
module _ (p : tree.Program) (gs : Graphs) (f n : ℕ) where
  -- block b has this shape, with m inputs, and its operation this node and this mark
  abbrev pub Marked : ℕ → ℕ → ℕ → Bool → Shape → ℕ → ℕ → Type 0
  Marked b m node value shape lo hi = ((base : ℕ) × (block_in (slice_get gs.graphs f) b ≡ Some (numbered base m node value shape))) × Alone b lo hi

  -- a block without an operation
  abbrev pub Is : ℕ → ℕ → Shape → ℕ → ℕ → Type 0
  Is b m shape lo hi = stands.Is p gs f n b m shape × Alone b lo hi

  -- block b does an operation with m inputs, and goes on
  abbrev pub Acts : Scope → ℕ → ℕ → Bool → RowOp → List ℕ → ℕ → Jump → ℕ → ℕ → Type 0
  Acts sc b node value o args m norm lo hi = Marked b m node value (Does o args sc.covers (hand_jumps m sc.hands) (first_and sc.default.to sc.default.keep m) norm) lo hi

  abbrev pub Meets : Scope → ℕ → Place
  Meets sc node b m q lo hi = Acts sc b node true row.Copy (m ∷ []) (m + 1) (first_and q m (m + 1)) lo hi

  -- nothing is put
  abbrev pub Straight : ℕ → ℕ → ℕ → ℕ → Type 0
  Straight b q lo hi = (b ≡ q) × (lo ≡ hi)

  -- ---- tests: the node is that of what asks

  -- what stands beside the local is one of the places from m on up to that of the value
  abbrev pub IsBefore : Option ℕ → ℕ → ℕ → Type 0
  IsBefore None m value = Unit {0}
  IsBefore (Some place) m value = m + place < value + 1

  -- to a block with the value that was tested, or without; then what the test tells of a local counts there
  abbrev pub WayOn : Scope → ℕ → Option Telling → ℕ → ℕ → Bool → ℕ → Jump → ℕ → ℕ → Type 0
  WayOn sc node told m value true to jump lo hi = (jump ≡ first_and to m value) × (lo ≡ hi)
  WayOn sc node None m value false to jump lo hi = (jump ≡ first to m) × (lo ≡ hi)
  WayOn sc node (Some t) m value false to jump lo hi =
      (b : ℕ)
      × (t.local < n) × IsBefore t.beside m value
      × Acts sc b node false t.op (operands t m) (value + 1) (stored to m t.local (value + 1)) lo hi
      × (jump ≡ first b (value + 1))

  abbrev pub Way : Scope → ℕ → Expr → Bool → ℕ → ℕ → Branch → Jump → ℕ → ℕ → Type 0
  Way sc node e truth m value branch jump lo hi = WayOn sc node (tells e truth) m value branch.value branch.to jump lo hi

  abbrev pub Truth : Scope → ℕ → Expr → ℕ → ℕ → ℕ → Branch → Branch → ℕ → ℕ → Type 0
  Truth sc node e b m value so other_way lo hi =
      (fork : ℕ) × (to_so to_other : Jump) × (l1 l2 l3 : ℕ)
      × Way sc node e true m value so to_so lo l1
      × Way sc node e false m value other_way to_other l1 l2
      × Is fork (value + 1 + 1) (Fork (value + 1) to_so to_other) l2 l3
      × Acts sc b node false row.Truth (value ∷ []) (value + 1) (first_and fork (value + 1) (value + 1)) l3 hi

  -- an expression whose truth is asked: it alone, where nothing stands beside a local, or the operands of its operation, which stay
  abbrev pub Asks : Scope → ℕ → Expr → Place → Choice → ℕ → ℕ → Branch → Branch → ℕ → ℕ → Type 0
  Asks sc node e E Sides b m so other_way lo hi =
      ((k l : ℕ) × (asks_beside e ≡ false) × Truth sc node e k m m so other_way lo l × E b m k l hi)
      ⊎ ((k c l : ℕ) × Truth sc node e k m (m + c) so other_way lo l × Sides b m c k l hi)

  -- ---- items of tuples

  abbrev pub Unpacks : Scope → (ℕ → Jump) → ℕ → Path → ℕ → ℕ → ℕ → ℕ → ℕ → Type 0
  Unpacks sc last m [] at w b lo hi = ⊥
  Unpacks sc last m (part ∷ []) at w b lo hi = Acts sc b part.node false (row.Unpack part.count part.place) (at ∷ []) w (last w) lo hi
  Unpacks sc last m (part ∷ next ∷ path) at w b lo hi =
      (k l : ℕ)
      × Unpacks sc last m (next ∷ path) m (m + 1) k lo l
      × Acts sc b part.node false (row.Unpack part.count part.place) (at ∷ []) w (first_and k m w) l hi

  abbrev pub There : Scope → Path → ℕ → Place
  There sc [] at b m q lo hi = Straight b q lo hi
  There sc (part ∷ path) at b m q lo hi = Unpacks sc (λ w. first q m) m (part ∷ path) at m b lo hi

  abbrev pub Taken : Scope → Path → ℕ → ℕ → ℕ → ℕ → ℕ → ℕ → ℕ → ℕ → Type 0
  Taken sc [] at b m q v w lo hi = (v ≡ at) × (w ≡ m) × Straight b q lo hi
  Taken sc (part ∷ path) at b m q v w lo hi = (v ≡ m) × (w ≡ m + 1) × Unpacks sc (first_and q m) m (part ∷ path) at m b lo hi

  -- ---- expressions, by the places of their parts

  abbrev pub LocalAt : Scope → ℕ → ℕ → Place
  LocalAt sc node i b m q lo hi = (i < n) × Acts sc b node true row.Copy (i ∷ []) m (first_and q m m) lo hi

  abbrev pub ConstantAt : Scope → ℕ → Const → Value → Place
  ConstantAt sc node c v b m q lo hi = (constant p.sites c ≡ v) × Acts sc b node true (row.Constant c) [] m (first_and q m m) lo hi

  abbrev pub AppliedAt : Scope → ℕ → Bool → RowOp → ℕ → Place → Place
  AppliedAt sc node value o c Es b m q lo hi = (k l : ℕ) × Acts sc k node value o (range m c) (m + c) (onward o q m (m + c)) lo l × Es b m k l hi

  -- the meeting gives the value of `not`, not the two answers
  abbrev pub NotAt : Scope → ℕ → Choice → Place
  NotAt sc node Test b m q lo hi =
      (meet so other_way l1 l2 l3 : ℕ)
      × Meets sc node meet m q lo l1
      × Acts sc other_way node false (row.Bool true) [] m (first_and meet m m) l1 l2
      × Acts sc so node false (row.Bool false) [] m (first_and meet m m) l2 l3
      × Test b m so other_way l3 hi

  abbrev pub ApplyAt : Scope → ℕ → Bool → RowOp → Bool → ℕ → Place → Choice → Place
  ApplyAt sc node value o ways c Es Test b m q lo hi = ((ways ≡ false) × AppliedAt sc node value o c Es b m q lo hi) ⊎ ((ways ≡ true) × (o ≡ row.Not) × NotAt sc node Test b m q lo hi)

  abbrev pub SidesAt : Scope → ℕ → Bool → RowOp → ℕ → Place → Choice
  SidesAt sc node value o k Es b m c q lo hi =
      (c ≡ k)
      × ((l mid : ℕ) × stands.IsComparison o × Acts sc l node value o (range m c) (m + c) (first_and q (m + c) (m + c)) lo mid × Es b m l mid hi)

  abbrev pub AndAt : Scope → ℕ → (ℕ → ℕ → Branch → Branch → ℕ → ℕ → Type 0) → Place → Place
  AndAt sc node Left Right b m q lo hi =
      (meet right l1 l2 : ℕ) × Meets sc node meet m q lo l1 × Right right m meet l1 l2 × Left b m (plainly right) (with_value meet) l2 hi

  abbrev pub OrAt : Scope → ℕ → (ℕ → ℕ → Branch → Branch → ℕ → ℕ → Type 0) → Place → Place
  OrAt sc node Left Right b m q lo hi =
      (meet right l1 l2 : ℕ) × Meets sc node meet m q lo l1 × Right right m meet l1 l2 × Left b m (with_value meet) (plainly right) l2 hi

  abbrev pub DisplayAt : Scope → ℕ → ℕ → Place → Place
  DisplayAt sc node site Stores b m q lo hi =
      (k l l1 l2 : ℕ) × Meets sc node l m q lo l1 × Stores k m l l1 l2 × Acts sc b node false (row.Dict site) [] m (first_and k m m) l2 hi

  -- ---- walks: the head of the turns, and the next place

  abbrev pub HeadAt : ℕ → ℕ → ℕ → ℕ → ℕ → Type 0
  HeadAt over head begin lo hi = Is head (over + 2) (Go (first begin (over + 2))) lo hi

  abbrev pub AdvanceAt : Scope → ℕ → Option ℤ → ℕ → ℕ → ℕ → ℕ → ℕ → Type 0
  AdvanceAt sc node step over head advance lo hi = Acts sc advance node false (row.Advance step) (over ∷ (over + 1) ∷ []) (over + 2) (first_and head (over + 1) (over + 2)) lo hi

  -- whether there is an item: a step is paid for it, and it is taken
  abbrev pub TurnAt : Scope → ℕ → Option ℤ → ℕ → ℕ → Jump → ℕ → ℕ → ℕ → Type 0
  TurnAt sc node step over turn after begin lo hi =
      (fork paid item l1 l2 l3 : ℕ)
      × Acts sc item node false (row.Item step) (over ∷ (over + 1) ∷ []) (over + 2) (first_and turn (over + 2) (over + 2)) lo l1
      × Acts sc paid node false row.Turn [] (over + 2) (first item (over + 2)) l1 l2
      × Is fork (over + 2 + 1) (Fork (over + 2) (first paid (over + 2)) after) l2 l3
      × Acts sc begin node false (row.HasItem step) (over ∷ (over + 1) ∷ []) (over + 2) (first_and fork (over + 2) (over + 2)) l3 hi

  -- ---- comprehensions

  abbrev pub GatherAt : Scope → ℕ → Place → Choice → ℕ → ℕ → ℕ → ℕ → ℕ → ℕ → Type 0
  GatherAt sc node E Test list b m advance lo hi =
      (begin add l1 l2 : ℕ)
      × Acts sc add node false row.AddItem (list ∷ m ∷ []) (m + 1) (first advance m) lo l1
      × E begin m add l1 l2
      × Test b m begin advance l2 hi

  abbrev pub ComprehensionAt : Scope → ℕ → ℕ → Option ℤ → Place → (ℕ → ℕ → ℕ → ℕ → ℕ → ℕ → ℕ → Type 0) → Choice → Place → Place
  ComprehensionAt sc node site step Begin Bind Test E b m q lo hi =
      (k head begin advance bound turn whole l1 l2 l3 l4 l5 l6 l7 : ℕ)
      × HeadAt (m + 1) head begin lo l1
      × AdvanceAt sc node step (m + 1) head advance l1 l2
      × GatherAt sc node E Test m bound (m + 1 + 2) advance l2 l3
      × Bind (m + 1 + 2) (m + 1 + 2 + 1) (m + 1 + 2) turn bound l3 l4
      × Meets sc node whole m q l4 l5
      × TurnAt sc node step (m + 1) turn (first whole (m + 1)) begin l5 l6
      × Begin k (m + 1) head l6 l7
      × Acts sc b node false (row.Comprehension site) [] m (first_and k m m) l7 hi

  abbrev mutual
    -- e stands at block b with m variables, and goes on to q
    pub HasExpr : Scope → Expr → Place
    HasExpr sc (Local node i) b m q lo hi = LocalAt sc node i b m q lo hi
    HasExpr sc (Constant node c v) b m q lo hi = ConstantAt sc node c v b m q lo hi
    HasExpr sc (Apply node value o es) b m q lo hi = ApplyAt sc node value o (by_ways o es) (count (plain_exprs es)) (HasExprs sc es) (HasNegated sc node es) b m q lo hi
    HasExpr sc (And node a e) b m q lo hi = AndAt sc node (Asks sc node a (HasExpr sc a) (HasSides sc a)) (HasExpr sc e) b m q lo hi
    HasExpr sc (Or node a e) b m q lo hi = OrAt sc node (Asks sc node a (HasExpr sc a) (HasSides sc a)) (HasExpr sc e) b m q lo hi
    HasExpr sc (Display node site pairs) b m q lo hi = DisplayAt sc node site (HasPairs sc node pairs) b m q lo hi
    HasExpr sc (Comprehension node site item target subject condition) b m q lo hi =
        ComprehensionAt sc node site (step_of (plain_subject subject)) (HasSubject sc node subject) (HasBind sc target []) (HasCondition sc node condition) (HasExpr sc item) b m q lo hi

    pub HasExprs : Scope → Exprs → Place
    HasExprs sc none b m q lo hi = Straight b q lo hi
    HasExprs sc (more e es) b m q lo hi = (k l : ℕ) × HasExprs sc es k (m + 1) q lo l × HasExpr sc e b m k l hi

    pub HasSides : Scope → Expr → Choice
    HasSides sc (Apply node value o es) b m c q lo hi = SidesAt sc node value o (count (plain_exprs es)) (HasExprs sc es) b m c q lo hi
    HasSides sc other b m c q lo hi = ⊥

    -- a test for what has the node
    pub HasTest : Scope → ℕ → Expr → Choice
    HasTest sc node (And inner a e) b m so other_way lo hi = (k l : ℕ) × HasTest sc inner e k m so other_way lo l × HasTest sc inner a b m k other_way l hi
    HasTest sc node (Or inner a e) b m so other_way lo hi = (k l : ℕ) × HasTest sc inner e k m so other_way lo l × HasTest sc inner a b m so k l hi
    HasTest sc node (Apply inner value o es) b m so other_way lo hi =
        ((negates o es ≡ false)
        × Asks sc node (Apply inner value o es) (ApplyAt sc inner value o (by_ways o es) (count (plain_exprs es)) (HasExprs sc es) (HasNegated sc inner es))
        (SidesAt sc inner value o (count (plain_exprs es)) (HasExprs sc es)) b m (plainly so) (plainly other_way) lo hi)
        ⊎ ((negates o es ≡ true) × (o ≡ row.Not) × HasNegated sc inner es b m other_way so lo hi)
    HasTest sc node (Local inner i) b m so other_way lo hi = Asks sc node (Local inner i) (LocalAt sc inner i) (λ b m c q lo hi. ⊥) b m (plainly so) (plainly other_way) lo hi
    HasTest sc node (Constant inner c v) b m so other_way lo hi = Asks sc node (Constant inner c v) (ConstantAt sc inner c v) (λ b m c q lo hi. ⊥) b m (plainly so) (plainly other_way) lo hi
    HasTest sc node (Display inner site pairs) b m so other_way lo hi =
        Asks sc node (Display inner site pairs) (DisplayAt sc inner site (HasPairs sc inner pairs)) (λ b m c q lo hi. ⊥) b m (plainly so) (plainly other_way) lo hi
    HasTest sc node (Comprehension inner site item target subject condition) b m so other_way lo hi =
        Asks sc node (Comprehension inner site item target subject condition)
        (ComprehensionAt sc inner site (step_of (plain_subject subject)) (HasSubject sc inner subject) (HasBind sc target []) (HasCondition sc inner condition) (HasExpr sc item))
        (λ b m c q lo hi. ⊥) b m (plainly so) (plainly other_way) lo hi

    pub HasNegated : Scope → ℕ → Exprs → Choice
    HasNegated sc node none b m so other_way lo hi = ⊥
    HasNegated sc node (more a none) b m so other_way lo hi = HasTest sc node a b m so other_way lo hi
    HasNegated sc node (more a (more e es)) b m so other_way lo hi = ⊥

    -- the stores have the node of the display
    pub HasPairs : Scope → ℕ → Pairs → Place
    HasPairs sc node no_pairs b m q lo hi = Straight b q lo hi
    HasPairs sc node (pair key e rest) b m q lo hi =
        (k l next l1 l2 l3 : ℕ)
        × HasPairs sc node rest next m q lo l1
        × Acts sc l node false row.StoreIndex (m ∷ (m + 1) ∷ (m + 2) ∷ []) (m + 3) (first next (m + 1)) l1 l2
        × HasExpr sc e k (m + 1 + 1) l l2 l3
        × HasExpr sc key b (m + 1) k l3 hi

    -- the walk has the node of the loop or comprehension
    pub HasSubject : Scope → ℕ → Subject → Place
    HasSubject sc node (Over site e) b m q lo hi =
        (k zero_at l1 l2 : ℕ)
        × Acts sc zero_at node false (row.Word (pos 0)) [] (m + 1) (first_and q (m + 1) (m + 1)) lo l1
        × Acts sc k node false (row.Walk site) (m ∷ []) (m + 1) (first_and zero_at m (m + 1)) l1 l2
        × HasExpr sc e b m k l2 hi
    HasSubject sc node (UpTo e) b m q lo hi =
        (zero_at l1 : ℕ)
        × Acts sc zero_at node false (row.Word (pos 0)) [] (m + 1) (first_and q (m + 1) (m + 1)) lo l1
        × HasExpr sc e b m zero_at l1 hi
    HasSubject sc node (FromTo a e step) b m q lo hi =
        (k l l1 l2 : ℕ)
        × Is l (m + 2) (Go (record { to = q; places = (range 0 m ++ (m + 1) ∷ []) ++ m ∷ [] })) lo l1
        × HasExpr sc e k (m + 1) l l1 l2
        × HasExpr sc a b m k l2 hi

    pub HasCondition : Scope → ℕ → Condition → Choice
    HasCondition sc node Always b m so other_way lo hi = Straight b so lo hi
    HasCondition sc node (Where e) b m so other_way lo hi = HasTest sc node e b m so other_way lo hi

    -- the operation that stores gives the value of the target
    pub HasBind : Scope → Target → Path → ℕ → ℕ → ℕ → ℕ → ℕ → ℕ → ℕ → Type 0
    HasBind sc (Name node i) path at m keep b q lo hi =
        (k v w l1 : ℕ) × (i < n)
        × Acts sc k node true row.Copy (v ∷ []) w (stored q keep i w) lo l1
        × Taken sc path at b m k v w l1 hi
    HasBind sc (Attribute node e name) path at m keep b q lo hi =
        (k l r v w l1 l2 l3 : ℕ)
        × Acts sc r node true (row.StoreAttr name) (m ∷ v ∷ []) w (first q keep) lo l1
        × Taken sc path at l (m + 1) r v w l1 l2
        × HasExpr sc e k m l l2 l3
        × There sc path at b m k l3 hi
    HasBind sc (Item node a i) path at m keep b q lo hi =
        (k l o r v w l1 l2 l3 l4 : ℕ)
        × Acts sc r node true row.StoreIndex (m ∷ (m + 1) ∷ v ∷ []) w (first q keep) lo l1
        × Taken sc path at o (m + 2) r v w l1 l2
        × HasExpr sc i l (m + 1) o l2 l3
        × HasExpr sc a k m l l3 l4
        × There sc path at b m k l4 hi
    HasBind sc (Parts node parts) path at m keep b q lo hi =
        (k l r v w l1 l2 l3 : ℕ)
        × Is r m (Go (first q keep)) lo l1
        × HasItems sc node parts (target_count (plain_targets parts)) 0 path at l m r l1 l2
        × Acts sc k node true row.Copy (v ∷ []) w (first l m) l2 l3
        × Taken sc path at b m k v w l3 hi

    -- the items are taken by the target with the node
    pub HasItems : Scope → ℕ → Targets → ℕ → ℕ → Path → ℕ → Place
    HasItems sc node no_targets c i path at b m q lo hi = Straight b q lo hi
    HasItems sc node (more_targets t ts) c i path at b m q lo hi =
        (k l : ℕ)
        × HasItems sc node ts c (suc i) path at k m q lo l
        × HasBind sc t (path ++ record { node = node; count = c; place = i } ∷ []) at m m b k l hi

  -- ---- statements

  -- between two statements, with the node of the one
  abbrev pub MarkIf : Bool → Scope → ℕ → Place
  MarkIf true sc node b m q lo hi = Acts sc b node false row.None [] m (first q m) lo hi
  MarkIf false sc node b m q lo hi = Straight b q lo hi

  abbrev pub Mark : Scope → ℕ → Place
  Mark sc node b m q lo hi = MarkIf sc.tried sc node b m q lo hi

  abbrev pub HasTargets : Scope → Targets → Place
  HasTargets sc no_targets b m q lo hi = Is b (m + 1) (Go (first q m)) lo hi
  HasTargets sc (more_targets t no_targets) b m q lo hi = HasBind sc t [] m (m + 1) m b q lo hi
  HasTargets sc (more_targets t (more_targets u ts)) b m q lo hi =
      (k l : ℕ) × HasTargets sc (more_targets u ts) k m q lo l × HasBind sc t [] m (m + 1) (m + 1) b k l hi

  -- the operation has the node of the statement
  abbrev pub NewAt : Scope → ℕ → RowOp → Place
  NewAt sc node o b m q lo hi = Acts sc b node false o (m ∷ (m + 1) ∷ []) (m + 2) (first_and q m (m + 2)) lo hi

  -- reading and storing have the node of the target, of which the store gives the value
  abbrev pub HasAugment : Scope → ℕ → Target → RowOp → Expr → Place
  HasAugment sc node (Name at i) o e b m q lo hi =
      (right new store l1 l2 l3 : ℕ) × (i < n)
      × Acts sc store at true row.Copy (m ∷ []) (m + 1) (stored q m i (m + 1)) lo l1
      × NewAt sc node o new m store l1 l2
      × HasExpr sc e right (m + 1) new l2 l3
      × Acts sc b at false row.Copy (i ∷ []) m (first_and right m m) l3 hi
  HasAugment sc node (Attribute at a name) o e b m q lo hi =
      (read right new store l1 l2 l3 l4 : ℕ)
      × Acts sc store at true (row.StoreAttr name) (m ∷ (m + 1) ∷ []) (m + 2) (first q m) lo l1
      × NewAt sc node o new (m + 1) store l1 l2
      × HasExpr sc e right (m + 1 + 1) new l2 l3
      × Acts sc read at false (row.Attr name) (m ∷ []) (m + 1) (first_and right (m + 1) (m + 1)) l3 l4
      × HasExpr sc a b m read l4 hi
  HasAugment sc node (Item at a i) o e b m q lo hi =
      (place read right new store l1 l2 l3 l4 l5 : ℕ)
      × Acts sc store at true row.StoreIndex (m ∷ (m + 1) ∷ (m + 2) ∷ []) (m + 3) (first q m) lo l1
      × NewAt sc node o new (m + 2) store l1 l2
      × HasExpr sc e right (m + 2 + 1) new l2 l3
      × Acts sc read at false (row.Index None) (m ∷ (m + 1) ∷ []) (m + 2) (first_and right (m + 2) (m + 2)) l3 l4
      × HasExpr sc i place (m + 1) read l4 l5
      × HasExpr sc a b m place l5 hi
  HasAugment sc node (Parts at parts) o e b m q lo hi = Acts sc b at true row.Copy [] m (first q m) lo hi

  -- A value goes back, the last of m + 1 variables. Where a `finally` stands on the way, what is returned is seen in the block that returns,
  -- too: a copy, which raises nothing, has its way there by exception.
  abbrev pub GivesBack : Scope → ℕ → ℕ → ℕ → Aim → ℕ → ℕ → Type 0
  GivesBack sc node k m ret lo hi =
      ((ret.to ≡ return_block) × Is k (m + 1) (Go (first_and ret.to ret.keep m)) lo hi)
      ⊎ Marked k (m + 1) node false (Does row.Copy (m ∷ []) sc.covers [] (first_and return_block 0 m) (first_and ret.to ret.keep m)) lo hi

  abbrev pub WhileAt : Scope → ℕ → Choice → (ℕ → ℕ → Ways → ℕ → ℕ → Type 0) → ℕ → ℕ → Ways → ℕ → ℕ → Type 0
  WhileAt sc node Test Body b m t lo hi =
      (asked turn begin l1 l2 l3 : ℕ)
      × Is b m (Go (first asked m)) lo l1
      × Body begin m (stands.within p gs f n t (record { to = b; keep = m }) (record { to = t.norm; keep = m })) l1 l2
      × Acts sc turn node false row.Turn [] m (first begin m) l2 l3
      × Test asked m turn t.norm l3 hi

  abbrev pub ForAt : Scope → ℕ → Option ℤ → Place → (ℕ → ℕ → ℕ → ℕ → ℕ → ℕ → ℕ → Type 0) → (ℕ → ℕ → Ways → ℕ → ℕ → Type 0) → ℕ → ℕ → Ways → ℕ → ℕ → Type 0
  ForAt sc node step Begin Bind Body b m t lo hi =
      (head asked advance begin turn l1 l2 l3 l4 l5 : ℕ)
      × HeadAt m head asked lo l1
      × AdvanceAt sc node step m head advance l1 l2
      × Body begin (m + 2) (stands.within p gs f n t (record { to = advance; keep = m + 2 }) (record { to = t.norm; keep = m })) l2 l3
      × Bind (m + 2) (m + 2 + 1) (m + 2) turn begin l3 l4
      × TurnAt sc node step m turn (first t.norm m) asked l4 l5
      × Begin b m head l5 hi

  abbrev mutual
    -- s stands at block b with m variables, and goes on to t
    pub HasStmt : Scope → Stmt → ℕ → ℕ → Ways → ℕ → ℕ → Type 0
    HasStmt sc (Pass node) b m t lo hi = Straight b t.norm lo hi
    HasStmt sc (Break node) b m t lo hi = Is b m (Go (on_to t.brk)) lo hi
    HasStmt sc (Continue node) b m t lo hi = Is b m (Go (on_to t.cont)) lo hi
    HasStmt sc (Return node e) b m t lo hi = (k l : ℕ) × GivesBack sc node k m t.ret lo l × HasExpr sc e b m k l hi
    HasStmt sc (Do node e) b m t lo hi = (k l : ℕ) × Is k (m + 1) (Go (first t.norm m)) lo l × HasExpr sc e b m k l hi
    HasStmt sc (Assign node ts e) b m t lo hi = (k l : ℕ) × HasTargets sc ts k m t.norm lo l × HasExpr sc e b m k l hi
    HasStmt sc (Augment node target o e) b m t lo hi = HasAugment sc node target o e b m t.norm lo hi
    HasStmt sc (If node e so other_way) b m t lo hi =
        (k l l1 l2 : ℕ) × HasBlock sc other_way l m t lo l1 × HasBlock sc so k m t l1 l2 × HasTest sc node e b m k l l2 hi
    HasStmt sc (While node e body) b m t lo hi = WhileAt sc node (HasTest sc node e) (HasBlock sc body) b m t lo hi
    HasStmt sc (For node target subject body) b m t lo hi =
        ForAt sc node (step_of (plain_subject subject)) (HasSubject sc node subject) (HasBind sc target []) (HasBlock sc body) b m t lo hi
    HasStmt sc (Try node body clauses other) b m t lo hi =
        (after l1 l2 : ℕ) × (hands : List Hand) × (default : Aim)
        × HasBlock sc other after m t lo l1
        × HasClauses sc clauses m t hands default l1 l2
        × HasBlock (record { hands = hands; default = default; covers = covers_within p.classes (plain_clauses clauses) sc.covers; tried = true }) body b m (onto t after) l2 hi
    HasStmt sc (Finally node body last) b m t lo hi =
        (norm brk cont ret exc to_brk to_cont to_ret to_exc l1 l2 l3 l4 l5 l6 l7 l8 l9 : ℕ)
        × HasBlock sc last norm m t lo l1
        × Is to_brk m (Go (on_to t.brk)) l1 l2
        × HasBlock sc last brk m (onto t to_brk) l2 l3
        × Is to_cont m (Go (on_to t.cont)) l3 l4
        × HasBlock sc last cont m (onto t to_cont) l4 l5
        × Is to_ret (m + 1) (Go (first_and t.ret.to t.ret.keep m)) l5 l6
        × HasBlock sc last ret (m + 1) (onto t to_ret) l6 l7
        × Acts sc to_exc node false row.Raise (m ∷ []) (m + 1) (first never_block 0) l7 l8
        × HasBlock sc last exc (m + 1) (onto t to_exc) l8 l9
        × HasBlock (record { hands = []; default = record { to = exc; keep = m }; covers = sc.covers; tried = true }) body b m
        (record { norm = norm; brk = record { to = brk; keep = m }; cont = record { to = cont; keep = m }; ret = record { to = ret; keep = m } }) l9 hi

    pub HasBlock : Scope → Block → ℕ → ℕ → Ways → ℕ → ℕ → Type 0
    HasBlock sc done b m t lo hi = Straight b t.norm lo hi
    HasBlock sc (line s rest) b m t lo hi =
        (begin after next l1 l2 l3 : ℕ)
        × HasBlock sc rest next m t lo l1
        × Mark sc (node_of s) after m next l1 l2
        × HasStmt sc s begin m (onto t after) l2 l3
        × Mark sc (node_of s) b m begin l3 hi

    -- the clauses give these hands, with those around, and this way for other exceptions
    pub HasClauses : Scope → Clauses → ℕ → Ways → List Hand → Aim → ℕ → ℕ → Type 0
    HasClauses sc no_clauses m t hands default lo hi = (hands ≡ sc.hands) × (default ≡ sc.default) × (lo ≡ hi)
    HasClauses sc (clause None local body rest) m t hands default lo hi =
        (begin drop l1 : ℕ)
        × (local ≡ None) × (hands ≡ [])
        × (default ≡ record { to = drop; keep = m })
        × HasBlock sc body begin m t lo l1
        × Is drop (m + 1) (Go (first begin m)) l1 hi
    HasClauses sc (clause (Some classes) local body rest) m t hands default lo hi =
        (begin l1 : ℕ) × (others : List Hand)
        × LocalIn n local
        × (hands ≡ hands_of local (record { to = begin; keep = m }) classes others)
        × HasBlock sc body begin m t lo l1
        × HasClauses sc rest m t others default l1 hi

-- ---- functions

abbrev pub blocks_of : Option Graph → List Code
blocks_of None = []
blocks_of (Some graph) = graph.blocks

module _ (p : tree.Program) (gs : Graphs) where
  -- the five first blocks, and those of the body, which are all others; the `None` at the end has the node of the function
  abbrev pub HasFunction : ℕ → Function → Type 0
  HasFunction f function =
      (begin : ℕ)
      × (length function.defaults ≤ function.locals)
      × stands.Is p gs f function.locals head_block function.locals (Go (first begin function.locals))
      × stands.Is p gs f function.locals return_block 1 GiveBack
      × stands.Is p gs f function.locals raise_block 1 GiveUp
      × stands.Is p gs f function.locals never_block 0 (Go (first never_block 0))
      × Marked p gs f function.locals end_block function.locals function.node false (Plain row.None (first_and return_block 0 function.locals)) 4 5
      × HasBlock p gs f function.locals no_try function.body begin function.locals (outside function.locals) 5 (length (blocks_of (slice_get gs.graphs f)))

  abbrev pub IfFunction : ℕ → Option Function → Type 0
  IfFunction f None = Unit {0}
  IfFunction f (Some function) = HasFunction f function

  -- each of the functions stands in the graph with its number
  abbrev pub Stand : List Function → Type 0
  Stand functions = (f : ℕ) → IfFunction f (slice_get functions f)
