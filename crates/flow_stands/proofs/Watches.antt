-- What watches a run, as far as the machine follows it: at a moment it does nothing but count, or stops the run there.
use Rattle.std.proofs.Common.{◌≡◌, ℕ, zero, suc, ◌⊎◌, inl, inr, Bool, true, false, List, refl, ap}
use Rattle.std.specs.Prelude.{not, if◌then◌else◌}
use Rattle.rpy_tree.specs.Value.{Value}
use Rattle.rpy_meaning.specs.Evaluation.{State, Done, Running, Eval, pure}
use Rattle.rpy_meaning.specs.Meaning.{Moment, Watch, unwatched}
use Rattle.rpy_meaning.specs.Moments.{is_passed_over, stopped_at, stopping}

-- how many moments are left before and behind a place, where moments are counted, and the place is one
abbrev pub Counts : Bool → Bool → ℕ → ℕ → Type 0
Counts false moment m k = m ≡ k
Counts true false m k = m ≡ k
Counts true true m k = m ≡ suc k

pub counts_none : (stops : Bool) (m : ℕ) → Counts stops false m m
counts_none false m = refl
counts_none true m = refl

-- it goes on, with so many moments left
abbrev pub Passed : Bool → Watch → Moment → List Value → State → Type 0
Passed stops watch at held s = (k : ℕ) × Counts stops (not (is_passed_over at)) s.moments k × (watch at held s ≡ Done tt (record s { moments = k }))

-- it is stopped, at the last one
abbrev pub Halted : Bool → Watch → Moment → List Value → State → Type 0
Halted stops watch at held s = (stops ≡ true) × (is_passed_over at ≡ false) × (s.moments ≡ 0) × (watch at held s ≡ Running held s)

pub record Watching : Type 0 where
  pub watch : Watch
  -- whether it may stop a run
  pub stops : Bool
  pub either : (at : Moment) (held : List Value) (s : State) → Passed stops watch at held s ⊎ Halted stops watch at held s
  pub quiet : (at : Moment) → is_passed_over at ≡ true → (held : List Value) (s : State) → watch at held s ≡ Done tt s

abbrev pub never : Watching
never = record {
  watch = unwatched;
  stops = false;
  either = λ at held s. inl (s.moments, refl, refl);
  quiet = λ at over held s. refl;
}

abbrev pub where_not : Bool → List Value → Eval (Unit {0})
where_not over held = if over then pure tt else (λ s. stopped_at s.moments held s)

pub at_number : (m : ℕ) (held : List Value) (s : State) → s.moments ≡ m
    → ((k : ℕ) × Counts true true s.moments k × (stopped_at s.moments held s ≡ Done tt (record s { moments = k }))) ⊎ ((true ≡ true) × (false ≡ false) × (s.moments ≡ 0) × (stopped_at s.moments held s ≡ Running held s))
at_number zero held s e = inr (refl, refl, e, ap (λ j. stopped_at j held s) e)
at_number (suc m) held s e = inl (m, e, ap (λ j. stopped_at j held s) e)

pub at_moment : (over : Bool) (held : List Value) (s : State)
    → ((k : ℕ) × Counts true (not over) s.moments k × (where_not over held s ≡ Done tt (record s { moments = k })))
    ⊎ ((true ≡ true) × (over ≡ false) × (s.moments ≡ 0) × (where_not over held s ≡ Running held s))
at_moment true held s = inl (s.moments, refl, refl)
at_moment false held s = at_number s.moments held s refl

abbrev pub by_number : Watching
by_number = record {
  watch = stopping;
  stops = true;
  either = λ at held s. at_moment (is_passed_over at) held s;
  quiet = λ at over held s. ap (λ b. where_not b held s) over;
}
