-- What the passes make is the file of a program that passed the tests.
use Rattle.std.proofs.Common.{◌≡◌, Ok, Err, refl, sym, ap, ◌∙◌, subst}
use Rattle.std.specs.Prelude.{Result, IfOk}
use Rattle.csub_tree.specs.declared.tree.CFile.{CFile}
use Rattle.ll_code.specs.Typed.{IsWellTyped}
use Rattle.ll_code.specs.declared.program.LlStage.TheVariants as stage
use Rattle.ll_code.specs.declared.program.LlProgram.{LlProgram}
use Rattle.exc_transform.specs.Pieces.{explicit}
use Rattle.genc_lower.specs.Lower.{lowered}
use Rattle.refcount_transform.specs.Counted.{counted}
use Rattle.refcount_checks.specs.Passes.{Passes}
use Rattle.refcount_ready.specs.Programs.{CanBeCounted}
use Rattle.ll_compiled.specs.Compiled.{compiled, CanBeCompiled}
use Rattle.ll_compiled.proofs.Whole.{keeps_rules}
use Rattle.exc_laws.proofs.WellTyped.{explicit_typed}
use Rattle.exc_counted.specs.Along.{HasFile}
use Rattle.exc_counted.proofs.Composed.{same_runs}
use Rattle.ll_file.specs.File.{CanRaise, IsFile}

can_be : (p : LlProgram) → p.stage ≡ stage.Explicit → IsWellTyped p → Passes p → CanBeCompiled p
can_be p is_explicit typed passed = record {
  explicit = is_explicit;
  counts = record { typed = typed; agrees = passed.agrees; leads = passed.leads; numbers = passed.numbers; inputs = passed.closed; countable = passed.countable };
}

-- its explicit program is well typed as it is
has_file : (p : LlProgram) → CanRaise p → (made : LlProgram) → made ≡ explicit p → made.stage ≡ stage.Explicit → Passes made → HasFile p
has_file p can made is explicit_is passed = record {
  typed = can.typed;
  raw = can.raw;
  raisable = can.raisable;
  can = can_be (explicit p) (ap (λ q. q.stage) (sym is) ∙ explicit_is) (explicit_typed p can.typed can.raw) (subst Passes is passed);
}

is_file : (p : LlProgram) → HasFile p → IsFile p (compiled (explicit p))
is_file p has = record { has = has; is = refl; checked = keeps_rules (explicit p) has.can; runs = λ args steps well. same_runs p has args steps well }

pub file_made : {E : Type 0} (p made given : LlProgram) (r : Result CFile E) → CanRaise p → made ≡ explicit p → made.stage ≡ stage.Explicit → Passes made → given ≡ counted made → IfOk r (λ file. file ≡ lowered given) → IfOk r (IsFile p)
file_made p made given (Err e) can is explicit_is passed counts h = tt
file_made p made given (Ok file) can is explicit_is passed counts h = subst (IsFile p) (sym (h ∙ ap lowered counts ∙ ap (λ q. lowered (counted q)) is)) (is_file p (has_file p can made is explicit_is passed))
