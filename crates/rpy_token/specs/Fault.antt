-- What reading gives, and the first fault.
use Rattle.std.specs.Prelude.{◌≡◌, ℕ, ◌-◌, length, Option, Some, None, Result, Ok, Err}
use Rattle.rpy_token.specs.declared.fault.TokenFault.{TokenFault}
use Rattle.rpy_token.specs.declared.fault.TokenFault.TheVariants as fault
use Rattle.rpy_token.specs.Bytes.{Bytes}

abbrev pub Outcome : Type 0 → Type 0
Outcome A = Result A TokenFault

infixl 10 ◌>>=◌
abbrev pub ◌>>=◌ : {A B : Type 0} → Outcome A → (A → Outcome B) → Outcome B
(Ok x) >>= f = f x
(Err e) >>= f = Err e

-- the place at which the rest of a source of this size begins
abbrev pub place : ℕ → Bytes → ℕ
place size rest = size - length rest

-- ---- what a function that reads ensures: the outcome, unless memory fails

abbrev pub Fails : {A : Type 0} → TokenFault → Outcome A → Type 0
Fails fault.NoMem outcome = Unit {0}
Fails (fault.BadByte at) outcome = outcome ≡ Err (fault.BadByte at)
Fails (fault.BadIndent at) outcome = outcome ≡ Err (fault.BadIndent at)
Fails (fault.OpenString at) outcome = outcome ≡ Err (fault.OpenString at)
Fails (fault.BadNumber at) outcome = outcome ≡ Err (fault.BadNumber at)
Fails (fault.Limit kind at) outcome = outcome ≡ Err (fault.Limit kind at)

-- seen by view
abbrev pub Gives : {X A : Type 0} → (X → A) → Result X TokenFault → Outcome A → Type 0
Gives view (Ok x) outcome = outcome ≡ Ok (view x)
Gives view (Err e) outcome = Fails e outcome

-- an option, seen by view
abbrev pub Same : {X A : Type 0} → (X → A) → Option X → Option A → Type 0
Same view None o = o ≡ None
Same view (Some x) o = o ≡ Some (view x)

-- what a function that changes a value ensures: its value at the return, unless memory fails
abbrev pub Moves : {X A : Type 0} → Outcome A → Result X TokenFault → A → Type 0
Moves outcome (Ok x) new = outcome ≡ Ok new
Moves outcome (Err e) new = Fails e outcome

-- what is there, seen by view
abbrev pub seen : {X A : Type 0} → (X → A) → Option X → Option A
seen view None = None
seen view (Some x) = Some (view x)
