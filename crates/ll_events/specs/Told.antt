-- What events tell of memory: which blocks were made, and which of them are gone.
use Rattle.std.specs.Prelude.{◌≡◌, ◌<◌, ◌≤◌, ℕ, ℤ, suc, ◌+◌, ◌==◌, cond, List, [], ◌∷◌, ◌++◌, length, slice_get, slice_set, slice_index_or, Option, Some, None}
use Rattle.csub_tree.specs.State.{Word, Block, Event, Made, Freed}
use Rattle.csub_tree.specs.Meaning.{made_in, gone_in}
use Rattle.ll_code.specs.State.{State, At, Returning}
use Rattle.ll_code.specs.declared.program.LlOp.TheVariants as op
use Rattle.ll_code.specs.declared.program.LlExit.TheVariants as exit
use Rattle.ll_code.specs.Machine.{start}
use Rattle.ll_code.specs.Meaning.{Meant, Unfinished, run, within}
use Rattle.ll_code.specs.declared.program.LlProgram.{LlProgram}

-- how often the number stands among these
abbrev pub often : ℕ → List ℕ → ℕ
often b [] = 0
often b (c ∷ cs) = cond (b == c) (suc (often b cs)) (often b cs)

-- ---- memory as events tell it: of each block that is there its struct and its count of cells

abbrev pub Marks : Type 0
Marks = List (Option (ℕ × ℕ))

abbrev pub mark : Option Block → Option (ℕ × ℕ)
mark None = None
mark (Some block) = Some (block.kind, length block.fields + length block.items)

abbrev pub told : Marks → List Event → Marks
told marks [] = marks
told marks (Made number kind cells ∷ events) = told (marks ++ Some (kind, cells) ∷ []) events
told marks (Freed number ∷ events) = told (slice_set marks number None) events

abbrev pub IsThere : Marks → ℕ → Type 0
IsThere marks b = (m : ℕ × ℕ) × (slice_index_or marks b None ≡ Some m)

-- a block that is made has the next number, and one that goes was there
abbrev pub InOrder : Marks → List Event → Type 0
InOrder marks [] = Unit {0}
InOrder marks (Made number kind cells ∷ events) = (number ≡ length marks) × InOrder (marks ++ Some (kind, cells) ∷ []) events
InOrder marks (Freed number ∷ events) = IsThere marks number × InOrder (slice_set marks number None) events

-- ---- memory, the blocks that were made, and the numbers of those gone

-- there are as many blocks as were made, each with its number; a block that is there is as it was made, and is not among those gone; one
-- that is gone stands there once, and one that was not made never
pub record TellOf (blocks : List (Option Block)) (made : List (ℕ × ℕ × ℕ)) (gone : List ℕ) : Type 0 where
  pub count : length made ≡ length blocks
  pub numbers : (b : ℕ) (entry : ℕ × ℕ × ℕ) → slice_get made b ≡ Some entry → entry.0 ≡ b
  pub like : (b : ℕ) (block : Block) → slice_index_or blocks b None ≡ Some block → slice_get made b ≡ Some (b, block.kind, length block.fields + length block.items)
  pub there : (b : ℕ) (block : Block) → slice_index_or blocks b None ≡ Some block → often b gone ≡ 0
  pub once : (b : ℕ) → b < length blocks → slice_index_or blocks b None ≡ None → often b gone ≡ 1
  pub never : (b : ℕ) → length blocks ≤ b → often b gone ≡ 0

-- ---- endings

-- the run comes to this state, and its next step ends it with this meaning
pub record EndsAt (p : LlProgram) (args : List (List ℕ)) (steps : ℕ) (s : State) (m : Meant) : Type 0 where
  pub taken : ℕ
  pub text : List ℕ
  pub events : List Event
  pub comes : run p args taken (start p steps) [] [] ≡ Unfinished s text events
  pub ends : within p args steps (suc taken) ≡ Some m

-- a run ends where the first graph gives a word, at a payment, at a failure, and where an exception leaves the program
abbrev pub EndsHere : State → Type 0
EndsHere (At (op.Step x ∷ ops) exit frames core) = Unit {0}
EndsHere (At [] (exit.Fail number) frames core) = Unit {0}
EndsHere (At [] (exit.Raised a) frames core) = Unit {0}
EndsHere (Returning value [] core) = Unit {0}
EndsHere other = ⊥

-- the first graph gives this word
abbrev pub IsLast : ℤ → State → Type 0
IsLast n (Returning value [] core) = value ≡ Word n
IsLast n other = ⊥

-- nothing is taken back of what was told: more is made, and more goes
pub record AddsTo (events : List Event) (m : Meant) : Type 0 where
  pub made : List (ℕ × ℕ × ℕ)
  pub gone : List ℕ
  pub more_made : m.made ≡ made_in events ++ made
  pub more_gone : m.gone ≡ gone_in events ++ gone
