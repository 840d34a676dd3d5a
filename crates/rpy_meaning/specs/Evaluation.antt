-- Evaluations: what they begin with, how they end, and how one follows another.
use Rattle.std.specs.Prelude.{ℕ, ◌-◌, nat_lt, Bool, List, [], ◌∷◌, ◌++◌, slice_get, slice_set, Option, Some, None, unwrap_or, if◌then◌else◌}
use Rattle.rpy_base.specs.declared.outcome.FailName.{FailName}
use Rattle.rpy_tree.specs.Value.{Value, Nothing, Ref}
use Rattle.rpy_meaning.specs.World.{World}
use Rattle.rpy_meaning.specs.Operations.{truth_in}

-- The locals of the call under way, and the world. `moments` is for whoever watches a run, and else means nothing.
pub record State : Type 0 where
  pub locals : List (Option Value)
  pub world : World
  pub moments : ℕ

-- An evaluation ends with a result, by an exception, by a failure, running on, where its steps are spent while these values are held, or in
-- no way that Python has.
pub data Ending (A : Type 0) : Type 0 where
  Done : A → State → Ending A
  Raised : (exception : ℕ) → State → Ending A
  Failed : FailName → State → Ending A
  Running : (held : List Value) → State → Ending A
  Wrong : Ending A

abbrev pub Eval : Type 0 → Type 0
Eval A = State → Ending A

abbrev pub then_go : {A B : Type 0} → Ending A → (A → Eval B) → Ending B
then_go (Done a s) f = f a s
then_go (Raised r s) f = Raised r s
then_go (Failed name s) f = Failed name s
then_go (Running held s) f = Running held s
then_go Wrong f = Wrong

infixl 10 ◌>>=◌
abbrev pub ◌>>=◌ : {A B : Type 0} → Eval A → (A → Eval B) → Eval B
m >>= f = λ s. then_go (m s) f

infixl 10 ◌>>◌
abbrev pub ◌>>◌ : {A B : Type 0} → Eval A → Eval B → Eval B
m >> n = m >>= (λ _. n)

abbrev pub pure : {A : Type 0} → A → Eval A
pure a = λ s. Done a s

abbrev pub raised : {A : Type 0} → ℕ → Eval A
raised r = λ s. Raised r s

abbrev pub wrong : {A : Type 0} → Eval A
wrong = λ s. Wrong

-- a part that holds these values while it is evaluated
abbrev pub add_held : {A : Type 0} → List Value → Ending A → Ending A
add_held vs (Running held s) = Running (held ++ vs) s
add_held vs (Done a s) = Done a s
add_held vs (Raised r s) = Raised r s
add_held vs (Failed name s) = Failed name s
add_held vs Wrong = Wrong

abbrev pub holding : {A : Type 0} → List Value → Eval A → Eval A
holding vs m = λ s. add_held vs (m s)

-- pays before what is paid for, while these values are held
abbrev pub pay : ℕ → List Value → Eval (Unit {0})
pay cost held = λ s.
    if nat_lt s.world.left cost then Running held s
    else Done tt (record s { world = record s.world { left = s.world.left - cost } })

-- ---- locals

-- a local that is bound
abbrev pub bound : Option (Option Value) → Eval Value
bound (Some (Some v)) = pure v
bound unbound = wrong

abbrev pub local : ℕ → Eval Value
local i = λ s. bound (slice_get s.locals i) s

abbrev pub set_local : ℕ → Value → Eval (Unit {0})
set_local i v = λ s. Done tt (record s { locals = slice_set s.locals i (Some v) })

abbrev pub set_local_if_any : Option ℕ → Value → Eval (Unit {0})
set_local_if_any None v = pure tt
set_local_if_any (Some i) v = set_local i v

-- ---- tests

abbrev pub known : Option Bool → Eval Bool
known None = wrong
known (Some b) = pure b

abbrev pub is_so : Value → Eval Bool
is_so v = λ s. known (truth_in s.world v) s

-- ---- what follows a statement

pub data Flow : Type 0 where
  Next : Flow
  Broken : Flow
  Continued : Flow
  Returned : Value → Flow

-- the next statement, where there is nothing else
abbrev pub next_or : Flow → Eval Flow → Eval Flow
next_or Next rest = rest
next_or flow rest = pure flow

-- the rest of a loop, after the body's turn
abbrev pub after_turn : Flow → Eval Flow → Eval Flow
after_turn Next rest = rest
after_turn Continued rest = rest
after_turn Broken rest = pure Next
after_turn (Returned v) rest = pure (Returned v)

-- what is held while a `finally` body runs
abbrev pub pending : Flow → List Value
pending (Returned v) = v ∷ []
pending flow = []

-- the last part, and then what was pending, unless the last part ends otherwise; where the run is over it does not begin
abbrev pub finally : Eval Flow → Ending Flow → Ending Flow
finally last (Done flow s) = (holding (pending flow) last >>= (λ f. next_or f (pure flow))) s
finally last (Raised r s) = (holding (Ref r ∷ []) last >>= (λ f. next_or f (raised r))) s
finally last (Failed name s) = Failed name s
finally last (Running held s) = Running held s
finally last Wrong = Wrong

-- ---- calls

-- a function whose end is reached gives `None`
abbrev pub result_of : Flow → Value
result_of (Returned v) = v
result_of flow = Nothing

-- the values of the locals that are bound
abbrev pub values_of : List (Option Value) → List Value
values_of [] = []
values_of (None ∷ locals) = values_of locals
values_of (Some v ∷ locals) = v ∷ values_of locals

-- A call gives the result of its body, or another value instead. While the body runs it holds the arguments and the callee's locals; at
-- its end the caller's locals stand again.
abbrev pub leaving : List (Option Value) → List Value → Option Value → Ending Flow → Ending Value
leaving locals args instead (Done flow s) = Done (unwrap_or instead (result_of flow)) (record s { locals = locals })
leaving locals args instead (Raised r s) = Raised r (record s { locals = locals })
leaving locals args instead (Failed name s) = Failed name (record s { locals = locals })
leaving locals args instead (Running held s) = Running (held ++ values_of s.locals ++ args) (record s { locals = locals })
leaving locals args instead Wrong = Wrong

-- the values of the parameters: the arguments, and the defaults of the others
abbrev pub with_value : Value → Option (List Value) → Option (List Value)
with_value v None = None
with_value v (Some vs) = Some (v ∷ vs)

abbrev pub parameters : List (Option Value) → List Value → Option (List Value)
parameters [] [] = Some []
parameters [] (v ∷ args) = None
parameters (default ∷ defaults) (v ∷ args) = with_value v (parameters defaults args)
parameters (None ∷ defaults) [] = None
parameters (Some v ∷ defaults) [] = with_value v (parameters defaults [])
