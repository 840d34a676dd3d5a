-- Where the program ends, the state of the counted program that stands for that one ends too, with its next step.
use Rattle.std.proofs.Common.{◌≡◌, ℕ, ℤ, pos, negsuc, Bool, true, false, List, [], ◌∷◌, Option, Some, None, Result, Ok, Err, sym, ap, subst, ◌-◌, ◌+◌}
use Rattle.std.specs.Prelude.{slice_get, nat_le, cond}
use Rattle.rpy_base.specs.declared.outcome.Outcome.{Outcome}
use Rattle.rpy_base.specs.declared.outcome.Outcome.TheVariants.{Running}
use Rattle.csub_tree.specs.Layout.{Shape}
use Rattle.csub_tree.specs.Operation.{word_of}
use Rattle.csub_tree.specs.State.{Value, Block, Core, Onward, Over}
use Rattle.csub_tree.specs.Statement.{read, operand, on, pay_steps, fail, fail_name_of, raised, raised_as, reached, on_block, bytes_of}
use Rattle.csub_tree.specs.declared.stuck.StuckReason.{StuckReason}
use Rattle.csub_tree.specs.declared.tree.CType.{CType}
use Rattle.csub_tree.specs.declared.tree.CType.TheVariants as c
use Rattle.ll_code.specs.Machine.{step, goes_on, shapes_of, type_in}
use Rattle.ll_code.specs.State.{Frame, State, At, Returning, Next, Goes, Puts, Tells, Ends, Sticks}
use Rattle.ll_code.specs.declared.program.LlOp.TheVariants as op
use Rattle.ll_code.specs.declared.program.LlExit.TheVariants as exit
use Rattle.ll_code.specs.declared.program.LlProgram.{LlProgram}
use Rattle.refcount_transform.specs.Counted.{counted}
use Rattle.refcount_laws.specs.Ghost.{Ghost, memory}
use Rattle.refcount_laws.specs.Runs.{here as here_}
use Rattle.refcount_laws.specs.Whole.{Call, AllWait, BothReturning, StandsFor}
use Rattle.ll_events.specs.Told.{EndsHere}
use Rattle.ll_events.proofs.Telling.{Halts}

-- Halts does not look at the program
abbrev Stops : Next → Type 0
Stops (Ends outcome core) = Unit {0}
Stops (Sticks reason) = Unit {0}
Stops other = ⊥

stops_halts : (q : LlProgram) (args : List (List ℕ)) (next : Next) → Stops next → Halts q args next
stops_halts q args (Ends outcome core) h = tt
stops_halts q args (Sticks reason) h = tt
stops_halts q args (Goes s) h = absurd h
stops_halts q args (Puts byte s) h = absurd h
stops_halts q args (Tells event s) h = absurd h

ended_stops : (core : Core) (o : Option ℤ) (go : Core → State) → Stops (goes_on go (on (λ n. Over (Rattle.rpy_base.specs.declared.outcome.Outcome.TheVariants.Returned n) (record core { vars = [] })) o))
ended_stops core None go = tt
ended_stops core (Some n) go = tt

failed_stops : (core : Core) (o : Option _) (go : Core → State) → Stops (goes_on go (fail core o))
failed_stops core None go = tt
failed_stops core (Some name) go = tt

raised_stops : (core : Core) (shapes : List Shape) (go : Core → State) (t : Option CType) (value : Value) → Stops (goes_on go (raised core shapes t value))
raised_stops core shapes go (Some (c.Ptr m)) value = by (reached core shapes m value)
  where
    named : (o : Option (List ℕ)) → Stops (goes_on go (raised_as core o))
    named None = tt
    named (Some name) = tt

    by : (r : Result Block StuckReason) → Stops (goes_on go (on_block (λ block. raised_as core (bytes_of block.items)) r))
    by (Ok block) = named (bytes_of block.items)
    by (Err reason) = tt
raised_stops core shapes go None value = tt
raised_stops core shapes go (Some c.Signed) value = tt
raised_stops core shapes go (Some c.Char) value = tt
raised_stops core shapes go (Some c.Bool) value = tt
raised_stops core shapes go (Some c.Fn) value = tt

-- a payment that is too much here is too much where as many steps are left
paid_stops : (core other : Core) (go more : Core → State) (o : Option ℤ) (outcome : Outcome) (end : Core) → other.steps ≡ core.steps → goes_on go (on (pay_steps core) o) ≡ Ends outcome end → Stops (goes_on more (on (pay_steps other) o))
paid_stops core other go more None outcome end same e = tt
paid_stops core other go more (Some (negsuc z)) outcome end same e = tt
paid_stops core other go more (Some (pos z)) outcome end same e = by (nat_le z core.steps) (ap (nat_le z) same) e
  where
    by : (b : Bool) → nat_le z other.steps ≡ b → goes_on go (cond b (Onward (record core { at = core.at + 1; steps = core.steps - z })) (Over Running core)) ≡ Ends outcome end
        → Stops (goes_on more (cond (nat_le z other.steps) (Onward (record other { at = other.at + 1; steps = other.steps - z })) (Over Running other)))
    by true f e = absurd (cc)
    by false f e = subst (λ b. Stops (goes_on more (cond b (Onward (record other { at = other.at + 1; steps = other.steps - z })) (Over Running other)))) (sym f) tt

module _ (p : LlProgram) (args : List (List ℕ)) where
  abbrev pub q : LlProgram
  q = counted p

  here : (t u : State) → t ≡ u → Stops (step q args u) → Halts q args (step q args t)
  here t u e h = stops_halts q args (step q args t) (subst (λ s. Stops (step q args s)) (sym e) h)

  on_return : (t : State) (value : Value) (core : Core) → t ≡ Returning value [] core → Halts q args (step q args t)
  on_return t value core e = here t (Returning value [] core) e (ended_stops core (word_of value) (Returning value []))

  on_fail : (t : State) (number : ℕ) (frames : List Frame) (core : Core) → t ≡ At [] (exit.Fail number) frames core → Halts q args (step q args t)
  on_fail t number frames core e = here t (At [] (exit.Fail number) frames core) e (failed_stops core (fail_name_of number) (At [] (exit.Fail number) frames))

  on_raised : (t : State) (a : ℕ) (frames : List Frame) (core : Core) → t ≡ At [] (exit.Raised a) frames core → Halts q args (step q args t)
  on_raised t a frames core e = here t (At [] (exit.Raised a) frames core) e (raised_stops core (shapes_of q.structs) (At [] (exit.Raised a) frames) (type_in (slice_get q.graphs core.function) a) (read core.vars a))

  pub stands_halts : (s t : State) (calls : List Call) (others : List Frame) (g : Ghost) (h : List (Option Block)) → StandsFor p calls others s t g h → EndsHere s → (outcome : Outcome) (end : Core) → step p args s ≡ Ends outcome end → Halts q args (step q args t)
  stands_halts (At (op.Step x ∷ ops) e frames core) t calls others g h both w outcome end f =
      here t _ both.is (paid_stops core _ (At ops e frames) _ (word_of (operand core.vars x)) outcome end both.stands.steps f)
  stands_halts (At [] (exit.Fail number) frames core) t calls others g h both w outcome end f = on_fail t number others (here_ both.qcore core.function core.block both.at core.vars h (memory g)) both.is
  stands_halts (At [] (exit.Raised a) frames core) t calls others g h both w outcome end f = on_raised t a others (here_ both.qcore core.function core.block both.at core.vars h (memory g)) both.is
  stands_halts (Returning value [] core) t calls others g h both w outcome end f = by calls others both both.waits
    where
      by : (calls : List Call) (others : List Frame) → BothReturning p calls others value [] core t g h → AllWait p calls [] others → Halts q args (step q args t)
      by [] [] both w = on_return t value (record both.qcore { blocks = h; statics = memory g }) both.is
      by [] (other ∷ others) both w = absurd w
      by (call ∷ calls) others both w = absurd w
  stands_halts other t calls others g h both w outcome end f = absurd (w)
