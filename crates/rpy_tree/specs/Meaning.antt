-- What a program does: Python 2's meaning, by recursion on the steps left and, within a step, on the tree. An operation on words gives
-- the true result, wrapped.
use Rattle.std.specs.Prelude.{ℕ, zero, suc, ◌-◌, nat_lt, Bool, true, false, ℤ, ◌+ℤ◌, ◌-ℤ◌, ◌*ℤ◌, List, [], ◌∷◌, ◌++◌, length, map, replicate, slice_get, slice_set, Option, Some, None, if◌then◌else◌, codes}
use Rattle.std.specs.Fmt.{signed_decimal}
use Rattle.rpy_base.specs.Word.{wrap}
use Rattle.rpy_base.specs.declared.outcome.Outcome.{Outcome}
use Rattle.rpy_base.specs.declared.outcome.Outcome.TheVariants as outcome
use Rattle.rpy_base.specs.declared.outcome.FailName.{FailName}
use Rattle.rpy_tree.specs.Pure.{Expr, Int, Local, Binary, Exprs, none, more, Target, Name, Stmt, Assign, Print, Return, Block, done, line, Function, Program}
use Rattle.rpy_tree.specs.Value.{Value, Word, Flag, Text, Nothing, Tuple, Fun, Ref, Object, Listed, Heap, State}
use Rattle.rpy_tree.specs.declared.syntax.BinOp.{BinOp}
use Rattle.rpy_tree.specs.declared.syntax.BinOp.TheVariants.{Add, Sub, Mul, Div, FloorDiv, Mod, Shl, Shr, BitAnd, BitOr, BitXor}

-- ---- how an evaluation ends

-- with a value; with an exception of a class; with a failure; with the steps spent, and these values held; or in no way that Python has
pub data Ending (A : Type 0) : Type 0 where
  Done : A → State → Ending A
  Raised : ℕ → State → Ending A
  Failed : FailName → State → Ending A
  Running : List Value → State → Ending A
  Wrong : Ending A

abbrev pub Eval : Type 0 → Type 0
Eval A = State → Ending A

abbrev pub then_go : {A B : Type 0} → Ending A → (A → Eval B) → Ending B
then_go (Done a s) f = f a s
then_go (Raised c s) f = Raised c s
then_go (Failed n s) f = Failed n s
then_go (Running roots s) f = Running roots s
then_go Wrong f = Wrong

infixl 10 ◌>>=◌
abbrev pub ◌>>=◌ : {A B : Type 0} → Eval A → (A → Eval B) → Eval B
m >>= f = λ s. then_go (m s) f

infixl 10 ◌>>◌
abbrev pub ◌>>◌ : {A B : Type 0} → Eval A → Eval B → Eval B
m >> n = m >>= (λ _. n)

abbrev pub pure : {A : Type 0} → A → Eval A
pure a = λ s. Done a s

abbrev pub wrong : {A : Type 0} → Eval A
wrong = λ s. Wrong

-- a part that holds these values while it is evaluated: where the steps are spent inside, they are held too
abbrev pub add_roots : {A : Type 0} → List Value → Ending A → Ending A
add_roots vs (Running roots s) = Running (roots ++ vs) s
add_roots vs (Done a s) = Done a s
add_roots vs (Raised c s) = Raised c s
add_roots vs (Failed n s) = Failed n s
add_roots vs Wrong = Wrong

abbrev pub holding : {A : Type 0} → List Value → Eval A → Eval A
holding vs m = λ s. add_roots vs (m s)

-- pays so many steps before what they are for, or stops with these values held
abbrev pub pay : ℕ → List Value → Eval (Unit {0})
pay cost roots = λ s. if nat_lt s.left cost then Running roots s else Done tt (record s { left = s.left - cost })

-- ---- operations

abbrev pub word : ℤ → Eval Value
word z = pure (Word (wrap z))

abbrev pub binary : BinOp → Value → Value → Eval Value
binary Add (Word a) (Word b) = word (a +ℤ b)
binary Sub (Word a) (Word b) = word (a -ℤ b)
binary Mul (Word a) (Word b) = word (a *ℤ b)
binary op x y = wrong

-- a local that is bound
abbrev pub bound : Option (Option Value) → Eval Value
bound (Some (Some v)) = pure v
bound unbound = wrong

abbrev pub local : ℕ → Eval Value
local i = λ s. bound (slice_get s.locals i) s

abbrev pub set_local : ℕ → Value → Eval (Unit {0})
set_local i v = λ s. Done tt (record s { locals = slice_set s.locals i (Some v) })

abbrev pub put : List ℕ → Eval (Unit {0})
put text = λ s. Done tt (record s { out = s.out ++ text })

-- how a value prints
abbrev pub printed : Value → Option (List ℕ)
printed (Word z) = Some (signed_decimal z)
printed (Flag true) = Some (codes "True")
printed (Flag false) = Some (codes "False")
printed (Text text) = Some text
printed other = None

-- the texts with a space between, and a newline
abbrev pub spaced : Option (List ℕ) → Option (List ℕ) → Option (List ℕ)
spaced None rest = None
spaced (Some text) None = None
spaced (Some text) (Some rest) = Some (text ++ codes " " ++ rest)

abbrev pub ended : Option (List ℕ) → Option (List ℕ)
ended None = None
ended (Some text) = Some (text ++ codes "\n")

abbrev pub print_line : List Value → Option (List ℕ)
print_line [] = Some (codes "\n")
print_line (v ∷ []) = ended (printed v)
print_line (v ∷ w ∷ vs) = spaced (printed v) (print_line (w ∷ vs))

abbrev pub put_if_any : Option (List ℕ) → Eval (Unit {0})
put_if_any (Some text) = put text
put_if_any None = wrong

-- ---- expressions

abbrev mutual
  pub value : Expr → Eval Value
  value (Int z) = pure (Word z)
  value (Local i) = local i
  value (Binary op a b) = do
    x ← value a
    y ← holding (x ∷ []) (value b)
    binary op x y

  pub values : Exprs → Eval (List Value)
  values none = pure []
  values (more e es) = do
    v ← value e
    vs ← holding (v ∷ []) (values es)
    pure (v ∷ vs)

-- ---- statements

-- what follows a statement
pub data Flow : Type 0 where
  Next : Flow
  Returned : Value → Flow

abbrev pub next_or : Flow → Eval Flow → Eval Flow
next_or Next rest = rest
next_or (Returned v) rest = pure (Returned v)

abbrev pub bind : Target → Value → Eval (Unit {0})
bind (Name i) v = set_local i v

abbrev mutual
  pub statement : Stmt → Eval Flow
  statement (Assign target e) = do
    v ← value e
    bind target v
    pure Next
  statement (Print es) = do
    vs ← values es
    put_if_any (print_line vs)
    pure Next
  statement (Return e) = do
    v ← value e
    pure (Returned v)

  pub block : Block → Eval Flow
  block done = pure Next
  block (line s rest) = statement s >>= (λ flow. next_or flow (block rest))

-- ---- calls

-- the values of the locals that are bound
abbrev pub values_of : List (Option Value) → List Value
values_of [] = []
values_of (None ∷ locals) = values_of locals
values_of (Some v ∷ locals) = v ∷ values_of locals

-- a body holds the locals of its call
abbrev pub with_locals : {A : Type 0} → Ending A → Ending A
with_locals (Running roots s) = Running (roots ++ values_of s.locals) s
with_locals (Done a s) = Done a s
with_locals (Raised c s) = Raised c s
with_locals (Failed n s) = Failed n s
with_locals Wrong = Wrong

-- a function whose end is reached gives None
abbrev pub result_of : Flow → Value
result_of Next = Nothing
result_of (Returned v) = v

abbrev pub entered : List Value → ℕ → Eval (Unit {0})
entered args locals = λ s. Done tt (record s { locals = map Some args ++ replicate (locals - length args) None })

-- a call pays a step at its entry
abbrev pub call : Option Function → List Value → Eval Value
call None args = wrong
call (Some function) args = do
  pay 1 args
  entered args function.locals
  flow ← (λ s. with_locals (block function.body s))
  pure (result_of flow)

-- ---- a run

-- how a run ends, with what it printed, the values held and the objects; no outcome where it is wrong
pub record Meant : Type 0 where
  pub outcome : Option Outcome
  pub output : List ℕ
  pub roots : List Value
  pub heap : Heap

abbrev pub returned : Value → State → Meant
returned (Word z) s = record { outcome = Some (outcome.Returned z); output = s.out; roots = []; heap = s.heap }
returned other s = record { outcome = None; output = s.out; roots = []; heap = s.heap }

abbrev pub raised : Option (List ℕ) → State → Meant
raised None s = record { outcome = None; output = s.out; roots = []; heap = s.heap }
raised (Some name) s = record { outcome = Some (outcome.Raised name); output = s.out; roots = []; heap = s.heap }

abbrev pub meant_by : List (List ℕ) → Ending Value → Meant
meant_by classes (Done v s) = returned v s
meant_by classes (Raised c s) = raised (slice_get classes c) s
meant_by classes (Failed name s) = record { outcome = Some (outcome.Failed name); output = s.out; roots = []; heap = s.heap }
meant_by classes (Running roots s) = record { outcome = Some outcome.Running; output = s.out; roots = roots; heap = s.heap }
meant_by classes Wrong = record { outcome = None; output = []; roots = []; heap = [] }

-- the list of arguments is object 0
abbrev pub start : List (List ℕ) → ℕ → State
start args steps = record { locals = []; heap = Listed (map Text args) ∷ []; out = []; left = steps }

-- the meaning of a program, with arguments and a bound on steps
abbrev pub mean : Program → List (List ℕ) → ℕ → Meant
mean program args steps = meant_by program.classes (call (slice_get program.functions program.entry) (Ref 0 ∷ []) (start args steps))
