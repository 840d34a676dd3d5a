-- What a program means, by recursion on the steps left and, within a step, on the tree.
use Rattle.std.specs.Prelude.{ℕ, zero, suc, ◌-◌, ℤ, pos, Bool, true, List, [], ◌∷◌, ◌++◌, length, map, replicate, filter_map, slice_get, Option, Some, None, if◌then◌else◌}
use Rattle.rpy_base.specs.declared.outcome.Outcome.{Outcome}
use Rattle.rpy_base.specs.declared.outcome.Outcome.TheVariants as outcome
use Rattle.rpy_tree.specs.Value.{Value, Word, Text, Ref, Object, Listed, Instance, Heap}
use Rattle.rpy_meaning.specs.declared.row.Covers.{Covers}
use Rattle.rpy_meaning.specs.declared.row.RowOp.{RowOp}
use Rattle.rpy_meaning.specs.declared.row.RowOp.TheVariants as row
use Rattle.rpy_meaning.specs.Costs.{entry_cost}
use Rattle.rpy_meaning.specs.Tree.{Expr, Local, Constant, Apply, And, Or, Display, Comprehension, Exprs, none, more, Pairs, no_pairs, pair, Subject, Over, UpTo, FromTo, Condition, Always, Where, Target, Name, Attribute, Item, Parts, Targets, no_targets, more_targets, Stmt, Pass, Break, Continue, Return, Do, Assign, Augment, If, While, For, Try, Finally, Block, done, line, Clauses, no_clauses, clause, Function, Class, Program}
use Rattle.rpy_meaning.specs.World.{World, Answer, Gives, Throws, Fails, Lacks, Enters, Bad}
use Rattle.rpy_meaning.specs.Classes.{takes, covers_within, no_covers}
use Rattle.rpy_meaning.specs.Operations.{op, builtin_classes}
use Rattle.rpy_meaning.specs.Evaluation.{State, Ending, Done, Raised, Failed, Running, Wrong, Eval, ◌>>=◌, ◌>>◌, pure, raised, wrong, holding, pay, local, set_local, set_local_if_any, is_so, Flow, Next, Broken, Continued, Returned, next_or, after_turn, finally, leaving, parameters}

-- a walk under way: its step where it is over a range, what is walked, and the place
pub record Walking : Type 0 where
  pub step : Option ℤ
  pub over : Value
  pub at : Value

abbrev pub walk_holds : Walking → List Value
walk_holds walking = walking.over ∷ walking.at ∷ []

-- what is asked of the meaning with a step less: the body of a function, and the rest of a loop or of a comprehension, which adds to a list
pub data Task : Type 0 where
  Body : Block → Task
  Loop : Covers → Expr → Block → Task
  Turns : Covers → Target → Block → Walking → Task
  Gather : Covers → Expr → Target → Condition → Value → Walking → Task

abbrev pub Sem : Type 0
Sem = Task → Eval Flow

-- the moments of a run: before an operation, behind one that gave a value, and at the entry of a call
pub data Moment : Type 0 where
  Before : RowOp → Moment
  Behind : RowOp → Moment
  Entry : Moment

-- what is done at each moment, while these values are held
abbrev pub Watch : Type 0
Watch = Moment → List Value → Eval (Unit {0})

abbrev pub unwatched : Watch
unwatched at held = pure tt

abbrev pub target_count : Targets → ℕ
target_count no_targets = 0
target_count (more_targets t ts) = suc (target_count ts)

abbrev pub class_of : Option Object → ℕ
class_of (Some (Instance class attributes)) = class
class_of other = 0

-- the class of an exception
abbrev pub class_in : World → ℕ → ℕ
class_in w exception = class_of (slice_get w.heap exception)

module _ (p : Program) (watch : Watch) (prev : Sem) where
  -- ---- calls and operations

  abbrev pub frame : Function → List Value → List (Option Value)
  frame function vs = map Some vs ++ replicate (function.locals - length vs) None

  abbrev pub entered : Function → List Value → Option Value → Option (List Value) → Eval Value
  entered function args instead None = wrong
  entered function args instead (Some vs) = do
    watch Entry args
    pay entry_cost args
    λ s. leaving s.locals args instead (prev (Body function.body) (record s { locals = frame function vs }))

  abbrev pub called : Option Function → List Value → Option Value → Eval Value
  called None args instead = wrong
  called (Some function) args instead =
      if function.takes_more then wrong else entered function args instead (parameters function.defaults args)

  abbrev pub answered : Answer → List Value → Eval Value
  answered (Gives v w) held = λ s. Done v (record s { world = w })
  answered (Throws r w) held = λ s. Raised r (record s { world = w })
  answered (Fails name) held = λ s. Failed name s
  answered Lacks held = λ s. Running held s
  answered (Enters f args instead w) held = λ s. called (slice_get p.functions f) args instead (record s { world = w })
  answered Bad held = wrong

  -- an operation, while these values are held, of which some stay behind it
  abbrev pub operate_holding : List Value → List Value → Covers → RowOp → List Value → Eval Value
  operate_holding stays held c o vs = do
    watch (Before o) held
    v ← (λ s. answered (op p c o vs s.world) held s)
    watch (Behind o) (v ∷ stays)
    pure v

  abbrev pub operate : List Value → Covers → RowOp → List Value → Eval Value
  operate held c o vs = operate_holding [] held c o vs

  -- an operation holds its operands
  abbrev pub perform : Covers → RowOp → List Value → Eval Value
  perform c o vs = operate vs c o vs

  -- ---- walks

  abbrev pub on_walk : (Option ℤ → RowOp) → Walking → Eval Value
  on_walk o walking = operate_holding (walk_holds walking) (walk_holds walking) no_covers (o walking.step) (walk_holds walking)

  -- a turn for the next item, and then the rest of the walk
  abbrev pub turn : (Value → Eval Flow) → (Walking → Eval Flow) → Walking → Eval Flow
  turn each rest walking = do
    holding (walk_holds walking) (perform no_covers row.Turn [])
    v ← on_walk row.Item walking
    flow ← holding (walk_holds walking) (each v)
    after_turn flow (do
      next ← on_walk row.Advance walking
      rest (record walking { at = next }))

  abbrev pub turns : (Value → Eval Flow) → (Walking → Eval Flow) → Walking → Eval Flow
  turns each rest walking = do
    there ← on_walk row.HasItem walking >>= is_so
    if there then turn each rest walking else pure Next

  -- what a comprehension does with an item, which it holds until it is bound
  abbrev pub gather : (Value → Eval (Unit {0})) → Eval Bool → Eval Value → Covers → Value → Value → Eval Flow
  gather bind condition item c list v = do
    holding (v ∷ []) (bind v)
    wanted ← condition
    if wanted
        then (do x ← item; operate (x ∷ []) c row.AddItem (list ∷ x ∷ []); pure Next)
        else pure Next

  -- ---- expressions

  abbrev mutual
    pub value : Covers → Expr → Eval Value
    value c (Local i) = local i
    value c (Constant v) = pure v
    value c (Apply o es) = values c es >>= perform c o
    value c (And a b) = do
      x ← value c a
      go ← is_so x
      if go then value c b else pure x
    value c (Or a b) = do
      x ← value c a
      stop ← is_so x
      if stop then pure x else value c b
    value c (Display site pairs) = do
      dict ← perform c (row.Dict site) []
      holding (dict ∷ []) (store_pairs c dict pairs)
      pure dict
    value c (Comprehension site item target subject condition) = do
      list ← perform c (row.Comprehension site) []
      walking ← holding (list ∷ []) (begin c subject)
      holding (list ∷ []) (turns (gather (take c target []) (keeps c condition) (value c item) c list) (λ rest. prev (Gather c item target condition list rest)) walking)
      pure list

    -- from left to right, each held while the next are evaluated
    pub values : Covers → Exprs → Eval (List Value)
    values c none = pure []
    values c (more e es) = do
      v ← value c e
      vs ← holding (v ∷ []) (values c es)
      pure (v ∷ vs)

    -- each key before its value
    pub store_pairs : Covers → Value → Pairs → Eval (Unit {0})
    store_pairs c dict no_pairs = pure tt
    store_pairs c dict (pair k e rest) = do
      key ← value c k
      v ← holding (key ∷ []) (value c e)
      operate (key ∷ v ∷ []) c row.StoreIndex (dict ∷ key ∷ v ∷ [])
      store_pairs c dict rest

    -- a range begins at its start, and else at 0
    pub begin : Covers → Subject → Eval Walking
    begin c (Over site e) = do
      x ← value c e
      over ← perform c (row.Walk site) (x ∷ [])
      pure (record { step = None; over = over; at = Word (pos 0) })
    begin c (UpTo e) = do
      end ← value c e
      pure (record { step = Some (pos 1); over = end; at = Word (pos 0) })
    begin c (FromTo a b step) = do
      start ← value c a
      end ← holding (start ∷ []) (value c b)
      pure (record { step = Some step; over = end; at = start })

    pub keeps : Covers → Condition → Eval Bool
    keeps c Always = pure true
    keeps c (Where e) = value c e >>= is_so

    -- A target takes a value, which its assignment or loop holds. In a tuple they hold the whole: its item is one of the store's own, which
    -- the store holds besides.
    pub take : Covers → Target → List Value → Value → Eval (Unit {0})
    take c (Name i) own v = set_local i v
    take c (Attribute e name) own v = do
      x ← value c e
      operate (x ∷ own) c (row.StoreAttr name) (x ∷ v ∷ [])
      pure tt
    take c (Item a i) own v = do
      x ← value c a
      y ← holding (x ∷ []) (value c i)
      operate (x ∷ y ∷ own) c row.StoreIndex (x ∷ y ∷ v ∷ [])
      pure tt
    take c (Parts parts) own v = take_parts c (target_count parts) 0 parts v

    -- the targets from a place on take the items of a tuple
    pub take_parts : Covers → ℕ → ℕ → Targets → Value → Eval (Unit {0})
    take_parts c n i no_targets v = pure tt
    take_parts c n i (more_targets t ts) v = do
      x ← operate [] c (row.Unpack n i) (v ∷ [])
      take c t (x ∷ []) x
      take_parts c n (suc i) ts v

  abbrev pub bind : Covers → Target → Value → Eval (Unit {0})
  bind c t v = take c t [] v

  -- ---- assignments

  abbrev pub assign : Covers → Targets → Value → Eval (Unit {0})
  assign c no_targets v = pure tt
  assign c (more_targets t ts) v = bind c t v >> assign c ts v

  -- the parts of the target are evaluated once; then the old value is read, then the right side is evaluated
  abbrev pub augment : Covers → Target → RowOp → Expr → Eval (Unit {0})
  augment c (Name i) o e = do
    old ← local i
    v ← holding (old ∷ []) (value c e)
    new ← perform c o (old ∷ v ∷ [])
    set_local i new
  augment c (Attribute a name) o e = do
    x ← value c a
    old ← operate_holding (x ∷ []) (x ∷ []) c (row.Attr name) (x ∷ [])
    v ← holding (x ∷ old ∷ []) (value c e)
    new ← holding (x ∷ []) (perform c o (old ∷ v ∷ []))
    perform c (row.StoreAttr name) (x ∷ new ∷ [])
    pure tt
  augment c (Item a i) o e = do
    x ← value c a
    y ← holding (x ∷ []) (value c i)
    old ← operate_holding (x ∷ y ∷ []) (x ∷ y ∷ []) c (row.Index None) (x ∷ y ∷ [])
    v ← holding (x ∷ y ∷ old ∷ []) (value c e)
    new ← holding (x ∷ y ∷ []) (perform c o (old ∷ v ∷ []))
    perform c row.StoreIndex (x ∷ y ∷ new ∷ [])
    pure tt
  augment c (Parts parts) o e = wrong

  -- ---- statements

  -- a turn while the test is true, and then the rest of the loop
  abbrev pub loop : Eval Bool → Eval Flow → Eval Flow → Eval Flow
  loop test body rest = do
    go ← test
    if go
        then (do perform no_covers row.Turn []; flow ← body; after_turn flow rest)
        else pure Next

  -- each item is held until it is bound
  abbrev pub each_item : (Value → Eval (Unit {0})) → Eval Flow → Value → Eval Flow
  each_item bind body v = holding (v ∷ []) (bind v) >> body

  -- what follows the body of a `try`
  abbrev pub tried : Ending Flow → Eval Flow → (ℕ → Eval Flow) → Ending Flow
  tried (Done Next s) other handle = other s
  tried (Done flow s) other handle = Done flow s
  tried (Raised r s) other handle = handle r s
  tried (Failed name s) other handle = Failed name s
  tried (Running held s) other handle = Running held s
  tried Wrong other handle = Wrong

  abbrev mutual
    pub statement : Covers → Stmt → Eval Flow
    statement c Pass = pure Next
    statement c Break = pure Broken
    statement c Continue = pure Continued
    statement c (Return e) = do
      v ← value c e
      pure (Returned v)
    statement c (Do e) = value c e >> pure Next
    statement c (Assign ts e) = do
      v ← value c e
      holding (v ∷ []) (assign c ts v)
      pure Next
    statement c (Augment target o e) = augment c target o e >> pure Next
    statement c (If e a b) = do
      go ← value c e >>= is_so
      if go then block c a else block c b
    statement c (While e body) = loop (value c e >>= is_so) (block c body) (prev (Loop c e body))
    statement c (For target subject body) = do
      walking ← begin c subject
      turns (each_item (bind c target) (block c body)) (λ rest. prev (Turns c target body rest)) walking
    statement c (Try body clauses other) = λ s.
        tried (block (covers_within p.classes clauses c) body s) (block c other) (handle c clauses)
    statement c (Finally body last) = λ s. finally (block c last) (block c body s)

    -- one after the other
    pub block : Covers → Block → Eval Flow
    block c done = pure Next
    block c (line s rest) = statement c s >>= (λ flow. next_or flow (block c rest))

    -- the first clause that takes the exception
    pub handle : Covers → Clauses → ℕ → Eval Flow
    handle c no_clauses r = raised r
    handle c (clause classes name body rest) r = λ s.
        (if takes p.classes classes (class_in s.world r) then set_local_if_any name (Ref r) >> block c body else handle c rest r) s

  abbrev pub task : Task → Eval Flow
  task (Body b) = block no_covers b
  task (Loop c e body) = loop (value c e >>= is_so) (block c body) (prev (Loop c e body))
  task (Turns c target body walking) =
      turns (each_item (bind c target) (block c body)) (λ rest. prev (Turns c target body rest)) walking
  task (Gather c item target condition list walking) =
      turns (gather (bind c target) (keeps c condition) (value c item) c list) (λ rest. prev (Gather c item target condition list rest)) walking

-- with at most so many steps left; with none, nothing is asked of the level below
abbrev pub within : Program → Watch → ℕ → Sem
within p watch zero = task p watch (λ asked. wrong)
within p watch (suc n) = task p watch (within p watch n)

-- ---- a run

-- how a run ends, with what it holds where it runs on, and the world; no outcome where it is wrong
pub record Run : Type 0 where
  pub outcome : Option Outcome
  pub held : List Value
  pub world : World

abbrev pub over : Option Outcome → List Value → State → Run
over outcome held s = record { outcome = outcome; held = held; world = s.world }

abbrev pub returned : Value → Option Outcome
returned (Word z) = Some (outcome.Returned z)
returned other = None

abbrev pub name_of : Option Class → Option Outcome
name_of None = None
name_of (Some class) = Some (outcome.Raised class.name)

abbrev pub ended : Program → Ending Value → Run
ended p (Done v s) = over (returned v) [] s
ended p (Raised r s) = over (name_of (slice_get p.classes (class_in s.world r))) [] s
ended p (Failed name s) = over (Some (outcome.Failed name)) [] s
ended p (Running held s) = over (Some outcome.Running) held s
ended p Wrong = record { outcome = None; held = []; world = record { heap = []; out = []; left = 0 } }

-- the objects that are there from the start: the instances of the builtin exception classes, and the lists and dicts of modules
abbrev pub exceptions_from : ℕ → ℕ → Heap
exceptions_from c zero = []
exceptions_from c (suc n) = Instance c [] ∷ exceptions_from (suc c) n

abbrev pub prebuilt : Program → Heap
prebuilt p = exceptions_from 0 builtin_classes ++ filter_map (λ object. object) p.sites

-- with the list of arguments
abbrev pub start : Program → List (List ℕ) → ℕ → ℕ → State
start p args n moments = record {
  locals = [];
  world = record { heap = prebuilt p ++ Listed (map Text args) ∷ []; out = []; left = n };
  moments = moments;
}

-- the call of the entry point in at most n steps
abbrev pub run : Program → Watch → List (List ℕ) → ℕ → ℕ → Run
run p watch args n moments =
    ended p (called p watch (within p watch n) (slice_get p.functions p.entry) (Ref (length (prebuilt p)) ∷ []) None (start p args n moments))

-- the meaning of a program, with arguments and a bound on steps
abbrev pub mean : Program → List (List ℕ) → ℕ → Run
mean p args n = run p unwatched args n 0
