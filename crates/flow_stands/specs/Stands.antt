-- A part of a program stands at a place of its function's graph: from this block on, with so many variables, the graph does what the part
-- says, and goes on to the blocks that are named. The first variables are the function's locals; what enclosing parts hold stands behind
-- them. A part's value is one variable more.
use Rattle.std.specs.Prelude.{◌≡◌, ℕ, ℤ, suc, pos, ◌+◌, ◌<◌, ◌≤◌, ◌⊎◌, Bool, true, false, cond, List, [], ◌∷◌, ◌++◌, length, slice_get, Option, Some, None}
use Rattle.rpy_tree.specs.declared.program.Const.{Const}
use Rattle.rpy_tree.specs.Value.{Value}
use Rattle.rpy_meaning.specs.declared.row.Covers.{Covers}
use Rattle.rpy_meaning.specs.declared.row.RowOp.{RowOp}
use Rattle.rpy_meaning.specs.declared.row.RowOp.TheVariants as row
use Rattle.rpy_meaning.specs.Tree.{Expr, Local, Constant, Apply, And, Or, Display, Comprehension, Exprs, none, more, Pairs, no_pairs, pair, Subject, Over, UpTo, FromTo, Condition, Always, Where, Target, Name, Attribute, Item, Parts, Targets, no_targets, more_targets, Stmt, Pass, Break, Continue, Return, Do, Assign, Augment, If, While, For, Try, Finally, Block, done, line, Clauses, no_clauses, clause, Function, Program}
use Rattle.rpy_meaning.specs.World.{World, Gives}
use Rattle.rpy_meaning.specs.Classes.{covers_within, no_covers}
use Rattle.rpy_meaning.specs.Operations.{op, constant}
use Rattle.rpy_meaning.specs.Moments.{is_slight}
use Rattle.rpy_meaning.specs.Meaning.{target_count}
use Rattle.flow_graph.specs.declared.graph.Graphs.{Graphs}
use Rattle.flow_meaning.specs.Machine.{block_in}
use Rattle.flow_stands.specs.Places.{range, Aim, Hand, Scope, Ways, onto, Jump, first, first_and, stored, on_to, hand_jumps, Shape, Go, Fork, Does, Plain, GiveBack, GiveUp, numbered}

-- ---- the blocks with which each graph begins: its head, the one that returns, the one that leaves by an exception, one that goes on to
-- itself, and the end of the body

abbrev pub head_block : ℕ
head_block = 0

abbrev pub return_block : ℕ
return_block = 1

abbrev pub raise_block : ℕ
raise_block = 2

abbrev pub never_block : ℕ
never_block = 3

abbrev pub end_block : ℕ
end_block = 4

-- ---- parts of trees

abbrev pub count : Exprs → ℕ
count none = 0
count (more e es) = suc (count es)

-- nothing follows what raises
abbrev pub onward : RowOp → ℕ → ℕ → ℕ → Jump
onward row.Raise to keep last = first never_block 0
onward o to keep last = first_and to keep last

abbrev pub IsComparison : RowOp → Type 0
IsComparison (row.Compare f) = Unit {0}
IsComparison other = ⊥

abbrev pub is_local : Expr → ℕ → Type 0
is_local (Local j) i = j ≡ i
is_local other i = ⊥

abbrev pub some_is_local : Exprs → ℕ → Type 0
some_is_local none i = ⊥
some_is_local (more e es) i = is_local e i ⊎ some_is_local es i

-- the local, or an operation that has it as an operand
abbrev pub Reads : Expr → ℕ → Type 0
Reads (Local j) i = j ≡ i
Reads (Apply o es) i = some_is_local es i
Reads other i = ⊥

-- a way into a tuple: of how many items it is and which one is meant, and so on for the tuples within
abbrev pub Path : Type 0
Path = List (ℕ × ℕ)

abbrev pub step_of : Subject → Option ℤ
step_of (Over site e) = None
step_of (UpTo e) = Some (pos 1)
step_of (FromTo a b step) = Some step

-- a hand for each class of a clause, before others
abbrev pub hands_of : Option ℕ → Aim → List ℕ → List Hand → List Hand
hands_of local aim [] hands = hands
hands_of local aim (class ∷ classes) hands = record { class = class; local = local; aim = aim } ∷ hands_of local aim classes hands

-- where a test leads: to a block with the first variables, perhaps with the value that was tested
pub record Branch : Type 0 where
  pub to : ℕ
  pub value : Bool

abbrev pub plainly : ℕ → Branch
plainly k = record { to = k; value = false }

abbrev pub with_value : ℕ → Branch
with_value k = record { to = k; value = true }

abbrev pub branch_jump : Branch → ℕ → ℕ → Jump
branch_jump branch m value = cond branch.value (first_and branch.to m value) (first branch.to m)

abbrev pub LocalIn : ℕ → Option ℕ → Type 0
LocalIn n None = Unit {0}
LocalIn n (Some i) = i < n

abbrev pub Place : Type 1
Place = ℕ → ℕ → ℕ → Type 0

-- The program and all its graphs. The part is one of function f, which has n locals.
module _ (p : Program) (gs : Graphs) (f n : ℕ) where
  -- block b has this shape, with m inputs, whatever its first variable is and whatever node its operation has
  abbrev pub Is : ℕ → ℕ → Shape → Type 0
  Is b m shape = (base node : ℕ) × (value : Bool) × (block_in (slice_get gs.graphs f) b ≡ Some (numbered base m node value shape))

  -- block b does an operation with m inputs, and goes on
  abbrev pub Acts : Scope → ℕ → RowOp → List ℕ → ℕ → Jump → Type 0
  Acts sc b o args m norm = Is b m (Does o args sc.covers (hand_jumps m sc.hands) (first_and sc.default.to sc.default.keep m) norm)

  -- the same variables, the last one in a place before it
  abbrev pub Meets : Scope → Place
  Meets sc b m q = Acts sc b row.Copy (m ∷ []) (m + 1) (first_and q m (m + 1))

  -- ---- tests

  -- In the branch a local is what an operation gives of it, which is the same: one that hands a value on. Where it has two operands the
  -- second is one of those of a comparison, which stand before the value.
  abbrev pub Narrows : Covers → RowOp → ℕ → List ℕ → ℕ → ℕ → Type 0
  Narrows c o i args m value =
      (is_slight o ≡ true)
      × (((args ≡ i ∷ []) × ((x : Value) (w : World) → op p c o (x ∷ []) w ≡ Gives x w))
      ⊎ ((side : ℕ) × (args ≡ i ∷ side ∷ []) × (m ≤ side) × (side < value + 1) × ((x y : Value) (w : World) → op p c o (x ∷ y ∷ []) w ≡ Gives x w)))

  abbrev pub Way : Scope → Expr → ℕ → ℕ → Branch → Jump → Type 0
  Way sc e m value branch jump =
      (jump ≡ branch_jump branch m value)
      ⊎ ((b i : ℕ) × (o : RowOp) × (args : List ℕ)
      × (branch.value ≡ false) × (i < n) × Reads e i × Narrows sc.covers o i args m value
      × Acts sc b o args (value + 1) (stored branch.to m i (value + 1))
      × (jump ≡ first b (value + 1)))

  -- the truth of the value at a place, the last one, and the ways on
  abbrev pub Truth : Scope → Expr → ℕ → ℕ → ℕ → Branch → Branch → Type 0
  Truth sc e b m value so other_way =
      (fork : ℕ) × (to_so to_other : Jump)
      × Acts sc b row.Truth (value ∷ []) (value + 1) (first_and fork (value + 1) (value + 1))
      × Is fork (value + 1 + 1) (Fork (value + 1) to_so to_other)
      × Way sc e m value so to_so × Way sc e m value other_way to_other

  -- an expression whose truth is asked, with the places of its parts: it alone, or the operands of its operation, which stay
  abbrev pub Asks : Scope → Expr → Place → (ℕ → ℕ → ℕ → ℕ → Type 0) → ℕ → ℕ → Branch → Branch → Type 0
  Asks sc e E Sides b m so other_way =
      ((k : ℕ) × E b m k × Truth sc e k m m so other_way)
      ⊎ ((k c : ℕ) × Sides b m c k × Truth sc e k m (m + c) so other_way)

  -- ---- items of tuples

  -- the tuple at a place of w variables is unpacked along a path, each item behind the first m variables, and the last goes on as said
  abbrev pub Unpacks : Scope → (ℕ → Jump) → ℕ → Path → ℕ → ℕ → ℕ → Type 0
  Unpacks sc last m [] at w b = ⊥
  Unpacks sc last m (part ∷ []) at w b = Acts sc b (row.Unpack part.0 part.1) (at ∷ []) w (last w)
  Unpacks sc last m (part ∷ next ∷ path) at w b =
      (k : ℕ) × Acts sc b (row.Unpack part.0 part.1) (at ∷ []) w (first_and k m w) × Unpacks sc last m (next ∷ path) m (m + 1) k

  -- the tuple at a place has an item at the path
  abbrev pub There : Scope → Path → ℕ → Place
  There sc [] at b m q = b ≡ q
  There sc (part ∷ path) at b m q = Unpacks sc (λ w. first q m) m (part ∷ path) at m b

  -- the item at the path stands at place v of w variables: it is the variable itself, or one more
  abbrev pub Taken : Scope → Path → ℕ → ℕ → ℕ → ℕ → ℕ → ℕ → Type 0
  Taken sc [] at b m q v w = (b ≡ q) × (v ≡ at) × (w ≡ m)
  Taken sc (part ∷ path) at b m q v w = Unpacks sc (first_and q m) m (part ∷ path) at m b × (v ≡ m) × (w ≡ m + 1)

  -- ---- expressions, by the places of their parts

  abbrev pub LocalAt : Scope → ℕ → Place
  LocalAt sc i b m q = (i < n) × Acts sc b row.Copy (i ∷ []) m (first_and q m m)

  abbrev pub ConstantAt : Scope → Value → Place
  ConstantAt sc v b m q = (a : Const) × (constant p.sites a ≡ v) × Acts sc b (row.Constant a) [] m (first_and q m m)

  -- the operands, and then the operation
  abbrev pub AppliedAt : Scope → RowOp → ℕ → Place → Place
  AppliedAt sc o c Es b m q = (k : ℕ) × Es b m k × Acts sc k o (range m c) (m + c) (onward o q m (m + c))

  -- `not` of a test whose ways lead to the two answers
  abbrev pub NotAt : Scope → (ℕ → ℕ → ℕ → ℕ → Type 0) → Place
  NotAt sc Test b m q =
      (meet so other_way : ℕ)
      × Meets sc meet m q
      × Acts sc other_way (row.Bool true) [] m (first_and meet m m)
      × Acts sc so (row.Bool false) [] m (first_and meet m m)
      × Test b m so other_way

  abbrev pub ApplyAt : Scope → RowOp → ℕ → Place → (ℕ → ℕ → ℕ → ℕ → Type 0) → Place
  ApplyAt sc o c Es Test b m q = AppliedAt sc o c Es b m q ⊎ ((o ≡ row.Not) × NotAt sc Test b m q)

  -- the operands of a comparison with its result behind them
  abbrev pub SidesAt : Scope → RowOp → ℕ → Place → ℕ → ℕ → ℕ → ℕ → Type 0
  SidesAt sc o k Es b m c q = (c ≡ k) × ((l : ℕ) × Es b m l × Acts sc l o (range m c) (m + c) (first_and q (m + c) (m + c)) × IsComparison o)

  abbrev pub AndAt : Scope → (ℕ → ℕ → Branch → Branch → Type 0) → Place → Place
  AndAt sc Left Right b m q = (meet right : ℕ) × Meets sc meet m q × Right right m meet × Left b m (plainly right) (with_value meet)

  abbrev pub OrAt : Scope → (ℕ → ℕ → Branch → Branch → Type 0) → Place → Place
  OrAt sc Left Right b m q = (meet right : ℕ) × Meets sc meet m q × Right right m meet × Left b m (with_value meet) (plainly right)

  -- an empty dict, the stores to it, and then its value
  abbrev pub DisplayAt : Scope → ℕ → Place → Place
  DisplayAt sc site Stores b m q = (k l : ℕ) × Acts sc b (row.Dict site) [] m (first_and k m m) × Stores k m l × Meets sc l m q

  -- the turns of a walk whose value and place stand at `over`: where an item is there a step is paid, and the item is one variable more
  abbrev pub TurnsAt : Scope → Option ℤ → ℕ → ℕ → ℕ → Jump → ℕ → Type 0
  TurnsAt sc step over head turn after advance =
      (begin fork paid item : ℕ)
      × Is head (over + 2) (Go (first begin (over + 2)))
      × Acts sc begin (row.HasItem step) (over ∷ (over + 1) ∷ []) (over + 2) (first_and fork (over + 2) (over + 2))
      × Is fork (over + 2 + 1) (Fork (over + 2) (first paid (over + 2)) after)
      × Acts sc paid row.Turn [] (over + 2) (first item (over + 2))
      × Acts sc item (row.Item step) (over ∷ (over + 1) ∷ []) (over + 2) (first_and turn (over + 2) (over + 2))
      × Acts sc advance (row.Advance step) (over ∷ (over + 1) ∷ []) (over + 2) (first_and head (over + 1) (over + 2))

  -- what a comprehension does with an item: perhaps a test, then what it adds to the list at a place
  abbrev pub GatherAt : Scope → Place → (ℕ → ℕ → ℕ → ℕ → Type 0) → ℕ → ℕ → ℕ → ℕ → Type 0
  GatherAt sc E Test list b m advance =
      (begin add : ℕ)
      × Test b m begin advance
      × E begin m add
      × Acts sc add row.AddItem (list ∷ m ∷ []) (m + 1) (first advance m)

  -- the turns of a comprehension whose list stands at m
  abbrev pub GathersAt : Scope → Option ℤ → Place → (ℕ → ℕ → ℕ → ℕ → ℕ → Type 0) → (ℕ → ℕ → ℕ → ℕ → Type 0) → ℕ → ℕ → ℕ → Type 0
  GathersAt sc step E Bind Test head m whole =
      (turn bound advance : ℕ)
      × TurnsAt sc step (m + 1) head turn (first whole (m + 1)) advance
      × Bind (m + 1 + 2) (m + 1 + 2 + 1) (m + 1 + 2) turn bound
      × GatherAt sc E Test m bound (m + 1 + 2) advance

  abbrev pub ComprehensionAt : Scope → ℕ → Place → (ℕ → ℕ → ℕ → Type 0) → Place
  ComprehensionAt sc site Begin Gathers b m q =
      (k head whole : ℕ)
      × Acts sc b (row.Comprehension site) [] m (first_and k m m)
      × Begin k (m + 1) head
      × Gathers head m whole
      × Meets sc whole m q

  abbrev mutual
    -- e stands at block b with m variables, and goes on to q
    pub HasExpr : Scope → Expr → Place
    HasExpr sc (Local i) b m q = LocalAt sc i b m q
    HasExpr sc (Constant v) b m q = ConstantAt sc v b m q
    HasExpr sc (Apply o es) b m q = ApplyAt sc o (count es) (HasExprs sc es) (HasNegated sc es) b m q
    HasExpr sc (And a e) b m q = AndAt sc (Asks sc a (HasExpr sc a) (HasSides sc a)) (HasExpr sc e) b m q
    HasExpr sc (Or a e) b m q = OrAt sc (Asks sc a (HasExpr sc a) (HasSides sc a)) (HasExpr sc e) b m q
    HasExpr sc (Display site pairs) b m q = DisplayAt sc site (HasPairs sc pairs) b m q
    HasExpr sc (Comprehension site item target subject condition) b m q =
        ComprehensionAt sc site (HasSubject sc subject) (GathersAt sc (step_of subject) (HasExpr sc item) (HasBind sc target []) (HasCondition sc condition)) b m q

    -- the operands, each one variable more
    pub HasExprs : Scope → Exprs → Place
    HasExprs sc none b m q = b ≡ q
    HasExprs sc (more e es) b m q = (k : ℕ) × HasExpr sc e b m k × HasExprs sc es k (m + 1) q

    pub HasSides : Scope → Expr → ℕ → ℕ → ℕ → ℕ → Type 0
    HasSides sc (Apply o es) b m c q = SidesAt sc o (count es) (HasExprs sc es) b m c q
    HasSides sc other b m c q = ⊥

    -- a test that goes on to `so` or `other_way`, with the same variables
    pub HasTest : Scope → Expr → ℕ → ℕ → ℕ → ℕ → Type 0
    HasTest sc (And a e) b m so other_way = (k : ℕ) × HasTest sc a b m k other_way × HasTest sc e k m so other_way
    HasTest sc (Or a e) b m so other_way = (k : ℕ) × HasTest sc a b m so k × HasTest sc e k m so other_way
    HasTest sc (Apply o es) b m so other_way =
        Asks sc (Apply o es) (ApplyAt sc o (count es) (HasExprs sc es) (HasNegated sc es)) (SidesAt sc o (count es) (HasExprs sc es)) b m (plainly so) (plainly other_way)
        ⊎ ((o ≡ row.Not) × HasNegated sc es b m other_way so)
    HasTest sc (Local i) b m so other_way = Asks sc (Local i) (LocalAt sc i) (λ b m c q. ⊥) b m (plainly so) (plainly other_way)
    HasTest sc (Constant v) b m so other_way = Asks sc (Constant v) (ConstantAt sc v) (λ b m c q. ⊥) b m (plainly so) (plainly other_way)
    HasTest sc (Display site pairs) b m so other_way =
        Asks sc (Display site pairs) (DisplayAt sc site (HasPairs sc pairs)) (λ b m c q. ⊥) b m (plainly so) (plainly other_way)
    HasTest sc (Comprehension site item target subject condition) b m so other_way =
        Asks sc (Comprehension site item target subject condition)
        (ComprehensionAt sc site (HasSubject sc subject) (GathersAt sc (step_of subject) (HasExpr sc item) (HasBind sc target []) (HasCondition sc condition)))
        (λ b m c q. ⊥) b m (plainly so) (plainly other_way)

    -- the one operand of `not`, as a test
    pub HasNegated : Scope → Exprs → ℕ → ℕ → ℕ → ℕ → Type 0
    HasNegated sc none b m so other_way = ⊥
    HasNegated sc (more a none) b m so other_way = HasTest sc a b m so other_way
    HasNegated sc (more a (more e es)) b m so other_way = ⊥

    -- the stores of pairs to the dict at m
    pub HasPairs : Scope → Pairs → Place
    HasPairs sc no_pairs b m q = b ≡ q
    HasPairs sc (pair key e rest) b m q =
        (k l next : ℕ)
        × HasExpr sc key b (m + 1) k
        × HasExpr sc e k (m + 1 + 1) l
        × Acts sc l row.StoreIndex (m ∷ (m + 1) ∷ (m + 2) ∷ []) (m + 3) (first next (m + 1))
        × HasPairs sc rest next m q

    -- what is walked, as two variables more: the value and the place, or the end of a range and its first number
    pub HasSubject : Scope → Subject → Place
    HasSubject sc (Over site e) b m q =
        (k zero_at : ℕ)
        × HasExpr sc e b m k
        × Acts sc k (row.Walk site) (m ∷ []) (m + 1) (first_and zero_at m (m + 1))
        × Acts sc zero_at (row.Word (pos 0)) [] (m + 1) (first_and q (m + 1) (m + 1))
    HasSubject sc (UpTo e) b m q =
        (zero_at : ℕ) × HasExpr sc e b m zero_at × Acts sc zero_at (row.Word (pos 0)) [] (m + 1) (first_and q (m + 1) (m + 1))
    HasSubject sc (FromTo a e step) b m q =
        (k l : ℕ) × HasExpr sc a b m k × HasExpr sc e k (m + 1) l × Is l (m + 2) (Go (record { to = q; places = (range 0 m ++ (m + 1) ∷ []) ++ m ∷ [] }))

    pub HasCondition : Scope → Condition → ℕ → ℕ → ℕ → ℕ → Type 0
    HasCondition sc Always b m so other_way = b ≡ so
    HasCondition sc (Where e) b m so other_way = HasTest sc e b m so other_way

    -- The target takes the value at a place, or the item of it at a path, where m variables are there, and goes on with the first ones.
    -- Whether the item is there is asked first; it is taken when the parts of the target are evaluated, so that it is not held before.
    pub HasBind : Scope → Target → Path → ℕ → ℕ → ℕ → ℕ → ℕ → Type 0
    HasBind sc (Name i) path at m keep b q = (k v w : ℕ) × (i < n) × Taken sc path at b m k v w × Acts sc k row.Copy (v ∷ []) w (stored q keep i w)
    HasBind sc (Attribute e name) path at m keep b q =
        (k l r v w : ℕ)
        × There sc path at b m k
        × HasExpr sc e k m l
        × Taken sc path at l (m + 1) r v w
        × Acts sc r (row.StoreAttr name) (m ∷ v ∷ []) w (first q keep)
    HasBind sc (Item a i) path at m keep b q =
        (k l o r v w : ℕ)
        × There sc path at b m k
        × HasExpr sc a k m l
        × HasExpr sc i l (m + 1) o
        × Taken sc path at o (m + 2) r v w
        × Acts sc r row.StoreIndex (m ∷ (m + 1) ∷ v ∷ []) w (first q keep)
    HasBind sc (Parts parts) path at m keep b q =
        (k l r v w : ℕ)
        × Taken sc path at b m k v w
        × Acts sc k row.Copy (v ∷ []) w (first l m)
        × HasItems sc parts (target_count parts) 0 path at l m r
        × Is r m (Go (first q keep))

    -- the targets from a place on take the items of the tuple at a path
    pub HasItems : Scope → Targets → ℕ → ℕ → Path → ℕ → Place
    HasItems sc no_targets c i path at b m q = b ≡ q
    HasItems sc (more_targets t ts) c i path at b m q =
        (k : ℕ) × HasBind sc t (path ++ (c, i) ∷ []) at m m b k × HasItems sc ts c (suc i) path at k m q

  -- ---- statements

  -- in the body of a `try`, between any two statements, an operation that cannot raise
  abbrev pub MarkIf : Bool → Scope → ℕ → ℕ → ℕ → Type 0
  MarkIf true sc b m q = Acts sc b row.None [] m (first q m)
  MarkIf false sc b m q = b ≡ q

  abbrev pub Mark : Scope → Place
  Mark sc b m q = MarkIf sc.tried sc b m q

  -- the targets take the value at m, which goes on as long as one is left
  abbrev pub HasTargets : Scope → Targets → Place
  HasTargets sc no_targets b m q = Is b (m + 1) (Go (first q m))
  HasTargets sc (more_targets t no_targets) b m q = HasBind sc t [] m (m + 1) m b q
  HasTargets sc (more_targets t (more_targets u ts)) b m q = (k : ℕ) × HasBind sc t [] m (m + 1) (m + 1) b k × HasTargets sc (more_targets u ts) k m q

  -- the operation on the old value and the right side, the last two of m + 2 variables
  abbrev pub NewAt : Scope → RowOp → Place
  NewAt sc o b m q = Acts sc b o (m ∷ (m + 1) ∷ []) (m + 2) (first_and q m (m + 2))

  abbrev pub HasAugment : Scope → Target → RowOp → Expr → Place
  HasAugment sc (Name i) o e b m q =
      (i < n)
      × ((right new store : ℕ)
      × Acts sc b row.Copy (i ∷ []) m (first_and right m m)
      × HasExpr sc e right (m + 1) new
      × NewAt sc o new m store
      × Acts sc store row.Copy (m ∷ []) (m + 1) (stored q m i (m + 1)))
  HasAugment sc (Attribute a name) o e b m q =
      (read right new store : ℕ)
      × HasExpr sc a b m read
      × Acts sc read (row.Attr name) (m ∷ []) (m + 1) (first_and right (m + 1) (m + 1))
      × HasExpr sc e right (m + 1 + 1) new
      × NewAt sc o new (m + 1) store
      × Acts sc store (row.StoreAttr name) (m ∷ (m + 1) ∷ []) (m + 2) (first q m)
  HasAugment sc (Item a i) o e b m q =
      (place read right new store : ℕ)
      × HasExpr sc a b m place
      × HasExpr sc i place (m + 1) read
      × Acts sc read (row.Index None) (m ∷ (m + 1) ∷ []) (m + 2) (first_and right (m + 2) (m + 2))
      × HasExpr sc e right (m + 2 + 1) new
      × NewAt sc o new (m + 2) store
      × Acts sc store row.StoreIndex (m ∷ (m + 1) ∷ (m + 2) ∷ []) (m + 3) (first q m)
  HasAugment sc (Parts parts) o e b m q = Acts sc b row.Copy [] m (first q m)

  -- in the body of a loop
  abbrev pub within : Ways → Aim → Aim → Ways
  within t next after = record { norm = next.to; brk = after; cont = next; ret = t.ret }

  -- the turns of a `while`, from its head on
  abbrev pub WhileAt : Scope → (ℕ → ℕ → ℕ → ℕ → Type 0) → (ℕ → ℕ → Ways → Type 0) → ℕ → ℕ → Ways → Type 0
  WhileAt sc Test Body b m t =
      (asked turn begin : ℕ)
      × Is b m (Go (first asked m))
      × Test asked m turn t.norm
      × Acts sc turn row.Turn [] m (first begin m)
      × Body begin m (within t (record { to = b; keep = m }) (record { to = t.norm; keep = m }))

  -- the turns of a `for` whose walk stands at m, from their head on
  abbrev pub ForAt : Scope → Option ℤ → (ℕ → ℕ → ℕ → ℕ → ℕ → Type 0) → (ℕ → ℕ → Ways → Type 0) → ℕ → ℕ → Ways → Type 0
  ForAt sc step Bind Body head m t =
      (turn begin advance : ℕ)
      × TurnsAt sc step m head turn (first t.norm m) advance
      × Bind (m + 2) (m + 2 + 1) (m + 2) turn begin
      × Body begin (m + 2) (within t (record { to = advance; keep = m + 2 }) (record { to = t.norm; keep = m }))

  -- A value goes back, the last of m + 1 variables; or by a copy, which raises nothing, so that its way by exception to the block that
  -- returns is never gone.
  abbrev pub GivesBack : Scope → ℕ → ℕ → Aim → Type 0
  GivesBack sc k m ret =
      Is k (m + 1) (Go (first_and ret.to ret.keep m))
      ⊎ Is k (m + 1) (Does row.Copy (m ∷ []) sc.covers [] (first_and return_block 0 m) (first_and ret.to ret.keep m))

  abbrev mutual
    -- s stands at block b with m variables, and goes on to t
    pub HasStmt : Scope → Stmt → ℕ → ℕ → Ways → Type 0
    HasStmt sc Pass b m t = b ≡ t.norm
    HasStmt sc Break b m t = Is b m (Go (on_to t.brk))
    HasStmt sc Continue b m t = Is b m (Go (on_to t.cont))
    HasStmt sc (Return e) b m t = (k : ℕ) × HasExpr sc e b m k × GivesBack sc k m t.ret
    HasStmt sc (Do e) b m t = (k : ℕ) × HasExpr sc e b m k × Is k (m + 1) (Go (first t.norm m))
    HasStmt sc (Assign ts e) b m t = (k : ℕ) × HasExpr sc e b m k × HasTargets sc ts k m t.norm
    HasStmt sc (Augment target o e) b m t = HasAugment sc target o e b m t.norm
    HasStmt sc (If e so other_way) b m t = (k l : ℕ) × HasTest sc e b m k l × HasBlock sc so k m t × HasBlock sc other_way l m t
    HasStmt sc (While e body) b m t = WhileAt sc (HasTest sc e) (HasBlock sc body) b m t
    HasStmt sc (For target subject body) b m t =
        (head : ℕ) × HasSubject sc subject b m head × ForAt sc (step_of subject) (HasBind sc target []) (HasBlock sc body) head m t
    HasStmt sc (Try body clauses other) b m t =
        (after : ℕ) × (hands : List Hand) × (default : Aim)
        × HasBlock sc other after m t
        × HasClauses sc clauses m t hands default
        × HasBlock (record { hands = hands; default = default; covers = covers_within p.classes clauses sc.covers; tried = true }) body b m (onto t after)
    HasStmt sc (Finally body last) b m t =
        (norm brk cont ret exc to_brk to_cont to_ret to_exc : ℕ)
        × HasBlock sc last norm m t
        × HasBlock sc last brk m (onto t to_brk)
        × Is to_brk m (Go (on_to t.brk))
        × HasBlock sc last cont m (onto t to_cont)
        × Is to_cont m (Go (on_to t.cont))
        × HasBlock sc last ret (m + 1) (onto t to_ret)
        × Is to_ret (m + 1) (Go (first_and t.ret.to t.ret.keep m))
        × HasBlock sc last exc (m + 1) (onto t to_exc)
        × Acts sc to_exc row.Raise (m ∷ []) (m + 1) (first never_block 0)
        × HasBlock (record { hands = []; default = record { to = exc; keep = m }; covers = sc.covers; tried = true }) body b m
        (record { norm = norm; brk = record { to = brk; keep = m }; cont = record { to = cont; keep = m }; ret = record { to = ret; keep = m } })

    pub HasBlock : Scope → Block → ℕ → ℕ → Ways → Type 0
    HasBlock sc done b m t = b ≡ t.norm
    HasBlock sc (line s rest) b m t =
        (begin after next : ℕ) × Mark sc b m begin × HasStmt sc s begin m (onto t after) × Mark sc after m next × HasBlock sc rest next m t

    -- the clauses give these hands, with those around, and this way for other exceptions
    pub HasClauses : Scope → Clauses → ℕ → Ways → List Hand → Aim → Type 0
    HasClauses sc no_clauses m t hands default = (hands ≡ sc.hands) × (default ≡ sc.default)
    HasClauses sc (clause None local body rest) m t hands default =
        (begin drop : ℕ)
        × (local ≡ None) × (hands ≡ [])
        × HasBlock sc body begin m t
        × Is drop (m + 1) (Go (first begin m))
        × (default ≡ record { to = drop; keep = m })
    HasClauses sc (clause (Some classes) local body rest) m t hands default =
        (begin : ℕ) × (others : List Hand)
        × LocalIn n local
        × HasBlock sc body begin m t
        × (hands ≡ hands_of local (record { to = begin; keep = m }) classes others)
        × HasClauses sc rest m t others default

-- ---- functions

abbrev pub outside : ℕ → Ways
outside n =
    record { norm = end_block; brk = record { to = end_block; keep = n }; cont = record { to = end_block; keep = n }; ret = record { to = return_block; keep = 0 } }

abbrev pub no_try : Scope
no_try = record { hands = []; default = record { to = raise_block; keep = 0 }; covers = no_covers; tried = false }

module _ (p : Program) (gs : Graphs) where
  -- a function stands in its graph: the five first blocks, and its body, whose end gives `None`
  abbrev pub HasFunction : ℕ → Function → Type 0
  HasFunction f function =
      (begin : ℕ)
      × (length function.defaults ≤ function.locals)
      × Is p gs f function.locals head_block function.locals (Go (first begin function.locals))
      × Is p gs f function.locals return_block 1 GiveBack
      × Is p gs f function.locals raise_block 1 GiveUp
      × Is p gs f function.locals never_block 0 (Go (first never_block 0))
      × Is p gs f function.locals end_block function.locals (Plain row.None (first_and return_block 0 function.locals))
      × HasBlock p gs f function.locals no_try function.body begin function.locals (outside function.locals)

  abbrev pub IfFunction : ℕ → Option Function → Type 0
  IfFunction f None = Unit {0}
  IfFunction f (Some function) = HasFunction f function

  -- each function stands in the graph with its number
  abbrev pub Stand : Type 0
  Stand = (f : ℕ) → IfFunction f (slice_get p.functions f)
