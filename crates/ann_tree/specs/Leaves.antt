-- What an annotation must be for the statements that are reached: in the environment before it a statement leads on to the points of its exits.
use Rattle.std.specs.Prelude.{◌≡◌, ℕ, false, List, [], ◌∷◌, ◌++◌, Option, Some, None}
use Rattle.rpy_tree.specs.Value.{Object}
use Rattle.rpy_meaning.specs.declared.row.RowOp.{RowOp}
use Rattle.rpy_meaning.specs.declared.row.RowOp.TheVariants as row
use Rattle.ann_lattice.specs.Shape.{Shape}
use Rattle.ann_lattice.specs.Assign.{Up, Holds}
use Rattle.ann_rules.specs.Program.{Whole}
use Rattle.flow_trees.specs.Tree.{Expr, Target, Name, Attribute, Item, Parts, Targets, no_targets, more_targets, Stmt, Pass, Break, Continue, Return, Do, Assign, Augment, If, While, For, Try, Finally, Block, done, line, Clauses, no_clauses, clause}
use Rattle.ann_tree.specs.Annotation.{Annotation, Environment, Point, Goal, Towards, LeavesFor, bind, At, Exits, within, Handler, handlers}
use Rattle.ann_tree.specs.Gives as part
use Rattle.ann_tree.specs.Gives.{step_of}

-- the part's function is f, and has n locals
module _ (p : Whole) (sites : List (Option Object)) (a : Annotation) (f n : ℕ) where
  abbrev pub LeadsTo : Environment → Point → Type 0
  LeadsTo e q = part.LeadsTo p sites a n e q

  abbrev pub GoesTo : Environment → Goal → Type 0
  GoesTo e q = LeavesFor p.tables.classes a.parts.same n e q

  abbrev pub SeenBy : List Handler → Environment → Type 0
  SeenBy hs e = part.SeenBy p sites a n hs e

  abbrev pub Gives : List Handler → Expr → Environment → Shape → Point → Type 0
  Gives hs l e x q = part.Gives p sites a n hs l e x q

  abbrev pub Acts : List Handler → ℕ → RowOp → List Shape → Environment → Shape → Point → Type 0
  Acts hs node o xs e x q = part.Acts p sites a n hs node false o xs e x q

  -- the result is above what is returned
  abbrev pub Returns : Shape → Type 0
  Returns x = Holds p.tables.classes a.parts (Up (p.places.result f) (x ∷ []))

  -- each target takes the value, from left to right
  abbrev pub BindsEach : List Handler → Targets → Environment → Shape → Point → Type 0
  BindsEach hs no_targets e x q = LeadsTo e q
  BindsEach hs (more_targets t ts) e x q = (behind : Point) × part.Binds p sites a n hs t e x behind × At behind (λ g. BindsEach hs ts g x q)

  -- what stands at the target is read, and then the right side; the result is stored
  abbrev pub Augments : List Handler → ℕ → Target → RowOp → Expr → Environment → Point → Type 0
  Augments hs node (Name at i) o r e q =
      (old y new : Shape) × (read second made : Point)
      × part.Marks p sites a n at i e
      × Acts hs at row.Copy (e.element i ∷ []) e old read
      × At read (λ g. Gives hs r g y second)
      × At second (λ g. Acts hs node o (old ∷ y ∷ []) g new made)
      × At made (λ g. part.Stores p sites a n hs at row.Copy (new ∷ []) g (bind g i (a.element at)) q)
  Augments hs node (Attribute at l name) o r e q =
      (x old y new : Shape) × (first read second made : Point)
      × Gives hs l e x first
      × At first (λ g. Acts hs at (row.Attr name) (x ∷ []) g old read)
      × At read (λ g. Gives hs r g y second)
      × At second (λ g. Acts hs node o (old ∷ y ∷ []) g new made)
      × At made (λ g. part.Stores p sites a n hs at (row.StoreAttr name) (x ∷ new ∷ []) g g q)
  Augments hs node (Item at l i) o r e q =
      (x z old y new : Shape) × (first place read second made : Point)
      × Gives hs l e x first
      × At first (λ g. Gives hs i g z place)
      × At place (λ g. Acts hs at (row.Index None) (x ∷ z ∷ []) g old read)
      × At read (λ g. Gives hs r g y second)
      × At second (λ g. Acts hs node o (old ∷ y ∷ []) g new made)
      × At made (λ g. part.Stores p sites a n hs at row.StoreIndex (x ∷ z ∷ new ∷ []) g g q)
  Augments hs node (Parts at parts) o r e q = part.Stores p sites a n hs at row.Copy [] e e q

  abbrev mutual
    -- in environment e the statement leads on to t
    pub Leaves : List Handler → Stmt → Environment → Exits → Type 0
    Leaves hs (Pass node) e t = LeadsTo e t.next
    Leaves hs (Break node) e t = GoesTo e t.broken
    Leaves hs (Continue node) e t = GoesTo e t.continued
    Leaves hs (Return node l) e t = (x : Shape) × (behind : Point) × Gives hs l e x behind × At behind (λ g. Returns x × GoesTo g t.returned)
    Leaves hs (Do node l) e t = (x : Shape) × Gives hs l e x t.next
    Leaves hs (Assign node ts l) e t = (x : Shape) × (behind : Point) × Gives hs l e x behind × At behind (λ g. BindsEach hs ts g x t.next)
    Leaves hs (Augment node target o l) e t = Augments hs node target o l e t.next
    Leaves hs (If node l so other) e t =
        (yes_way no_way : Point)
        × part.Test p sites a n hs node l e yes_way no_way
        × At yes_way (λ g. LeavesAll hs so g t)
        × At no_way (λ g. LeavesAll hs other g t)
    -- the head is above what comes from before and from each turn
    Leaves hs (While node l body) e t =
        (head begin : Point)
        × LeadsTo e head
        × At head (λ h. part.Test p sites a n hs node l h begin t.next)
        × At begin (λ g. SeenBy hs g × LeavesAll hs body g (within t head t.next))
    Leaves hs (For node target subject body) e t =
        (over place : Shape) × (head begin next : Point)
        × part.Begins p sites a n hs node subject e over place head
        × part.Walks p sites a n hs node (step_of subject) (part.Binds p sites a n hs target) over place head begin next t.next
        × At begin (λ g. LeavesAll hs body g (within t next t.next))
    -- the clauses take the exceptions of the body, and so do the handlers around, but nothing goes past a bare clause
    Leaves hs (Try node body clauses other) e t =
        (all : List Handler) × (after : Point)
        × Handles hs clauses all t
        × LeavesAll all body e (record t { next = after })
        × At after (λ g. LeavesAll hs other g t)
    -- the last part takes every exception of the body, and raises it again; it is passed once for each kind of exit, and behind the pass its
    -- exit is left for
    Leaves hs (Finally node body last) e t =
        (next broken continued returned raised : Point)
        × LeavesAll (record { point = raised; bound = None } ∷ []) body e (record { next = next; broken = Towards broken; continued = Towards continued; returned = Towards returned })
        × At next (λ g. LeavesAll hs last g t)
        × At broken (λ g. (behind : Point) × LeavesAll hs last g (record t { next = behind }) × At behind (λ h. GoesTo h t.broken))
        × At continued (λ g. (behind : Point) × LeavesAll hs last g (record t { next = behind }) × At behind (λ h. GoesTo h t.continued))
        × At returned (λ g. (behind : Point) × LeavesAll hs last g (record t { next = behind }) × At behind (λ h. GoesTo h t.returned))
        × At raised (λ g. (behind : Point) × LeavesAll hs last g (record t { next = behind }) × At behind (λ h. SeenBy hs h))

    -- handlers are above the environments before and after each statement
    pub LeavesAll : List Handler → Block → Environment → Exits → Type 0
    LeavesAll hs done e t = LeadsTo e t.next
    LeavesAll hs (line s rest) e t =
        (after : Point)
        × SeenBy hs e
        × Leaves hs s e (record t { next = after })
        × At after (λ g. SeenBy hs g × LeavesAll hs rest g t)

    -- the clauses give these handlers, with those around
    pub Handles : List Handler → Clauses → List Handler → Exits → Type 0
    Handles hs no_clauses all t = all ≡ hs
    Handles hs (clause None local body rest) all t =
        (begin : Point) × (all ≡ record { point = begin; bound = None } ∷ []) × At begin (λ g. LeavesAll hs body g t)
    Handles hs (clause (Some classes) local body rest) all t =
        (begin : Point) × (others : List Handler)
        × (all ≡ handlers begin local classes ++ others)
        × At begin (λ g. LeavesAll hs body g t)
        × Handles hs rest others t
