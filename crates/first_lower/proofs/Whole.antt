-- The C file of a body does what its program does.
use Rattle.std.proofs.Common.{◌≡◌, ℕ, zero, suc, ◌+◌, ◌-◌, ◌*◌, ◌<◌, ◌≤◌, Bool, true, false, cond, List, [], ◌∷◌, ◌++◌, length, drop, Option, Some, None, refl, sym, ap, subst, ◌∙◌, arith}
use Rattle.std.specs.Prelude.{ℤ, pos, nat_le, replicate}
use Rattle.std.proofs.lemmas.Bool.Decides.{nat_tests}
use Rattle.std.proofs.lemmas.List.{length-replicate}
use Rattle.rpy_base.specs.declared.outcome.Outcome.{Outcome}
use Rattle.rpy_base.specs.declared.outcome.Outcome.TheVariants.{Returned, Running}
use Rattle.csub_tree.specs.declared.tree.CFile.{CFile}
use Rattle.csub_tree.specs.declared.tree.CType.TheVariants.{Signed}
use Rattle.csub_tree.specs.declared.tree.CStmt.TheVariants as stmt
use Rattle.csub_tree.specs.State.{Value, Unset, Word, Core, Onward, Over}
use Rattle.csub_tree.specs.Machine.{step, start}
use Rattle.csub_tree.specs.Statement.{back_with}
use Rattle.csub_tree.specs.Meaning.{Ended, Came, run, meant_by, CMeans}
use Rattle.rpy_first.specs.declared.body.Body.{Body}
use Rattle.rpy_first.specs.Program.{is_bound, program_of}
use Rattle.first_lower.specs.Lower.{Code, lines_code, lowered}
use Rattle.first_lower.specs.Built.{Meets}
use Rattle.first_lower.proofs.Abstract.{lines_out, lines_result, AreWords, Shows}
use Rattle.first_lower.proofs.Printing.{frame}
use Rattle.first_lower.proofs.Goes.{Goes, stays, then_goes, goes_on, ends}
use Rattle.first_lower.proofs.MeanSide.{mean_is}
use Rattle.first_lower.proofs.MachineSide.{at, looks, lines_go, Went}

no_words : AreWords []
no_words i lt = absurd (omega arith)

shows_nothing : (vars : List Value) → Shows Word Unset [] vars
shows_nothing vars i lt = absurd (omega arith)

-- what an ended run that made no block means
ended_means : (file : CFile) (args : List (List ℕ)) (steps : ℕ) (outcome : Outcome) (core : Core) (text : List ℕ)
    → (k : ℕ) × (run file args k (start file steps) [] [] ≡ Ended (Came outcome) core text [])
    → CMeans file args steps (record { ending = Came outcome; output = text; paid = steps - core.steps; made = []; gone = [] })
ended_means file args steps outcome core text r = (r.0, ap (meant_by steps) r.1)

module _ (args : List (List ℕ)) (name : List ℕ) (body : Body) (bound : is_bound body ≡ true) where
  abbrev code : Code
  code = lines_code body.lines body.result body.locals

  abbrev file : CFile
  file = lowered name body

  abbrev result : ℤ
  result = lines_result [] body.lines body.result

  -- no step to pay
  spent : Meets (program_of body) file args 0
  spent = record {
    meant = record { ending = Came Running; output = []; paid = 0 - 0; made = []; gone = [] };
    outcome = Running;
    expected = Running;
    means = ended_means file args 0 Running (start file 0) [] (ends file args (start file 0) (start file 0) (start file 0) [] [] Running (stays file args (start file 0) []) refl);
    ends = refl;
    expects = refl;
    same = (refl, refl);
    tight = omega arith;
  }

  abbrev variables : List Value
  variables = replicate (length (replicate code.free Signed)) Unset

  many : length variables ≡ code.free
  many = length-replicate (length (replicate code.free Signed)) Unset ∙ length-replicate code.free Signed

  module _ (n : ℕ) where
    abbrev begun : Core
    begun = start file (suc n)

    abbrev paid : Core
    paid = record begun { steps = suc n - 1 }

    pays : Goes file args begun [] (at args name code paid 1 variables) []
    pays =
        let e : nat_le 1 (suc n) ≡ true = grind (arith, nat_tests) in
        goes_on file args begun (at args name code paid 1 variables) []
        (ap (λ b. cond b (Onward (at args name code paid 1 variables)) (Over Running begun)) e)

    went : Went args name code paid body.lines body.result [] body.locals 1 variables [] (stmt.Return (Some code.value) ∷ [])
    went = lines_go args name code paid body.lines body.result [] body.locals body.locals 1 variables [] (stmt.Return (Some code.value) ∷ [])
        bound (omega arith) no_words (shows_nothing variables) (omega (arith, many)) refl

    returns : step file args (at args name code paid went.place went.now) ≡ Over (Returned result) (frame paid 2 0 went.place [] [])
    returns = looks args name code paid went.place (stmt.Return (Some code.value)) [] went.now went.left
        ∙ ap (back_with (at args name code paid went.place went.now)) went.value

    ended : (k : ℕ) × (run file args k begun [] [] ≡ Ended (Came (Returned result)) (frame paid 2 0 went.place [] []) (lines_out [] body.lines) [])
    ended = ends file args begun (at args name code paid went.place went.now) (frame paid 2 0 went.place [] []) [] (lines_out [] body.lines) (Returned result)
        (then_goes file args _ _ _ _ _ _ pays went.goes) returns

    returned : Meets (program_of body) file args (suc n)
    returned =
        let m = mean_is body args n bound in
        record {
          meant = record { ending = Came (Returned result); output = lines_out [] body.lines; paid = suc n - (suc n - 1); made = []; gone = [] };
          outcome = Returned result;
          expected = Returned result;
          means = ended_means file args (suc n) (Returned result) (frame paid 2 0 went.place [] []) (lines_out [] body.lines) ended;
          ends = refl;
          expects = ap (λ r. r.outcome) m.1;
          same = (refl, sym (ap (λ r. r.output) m.1));
          tight = omega arith;
        }

  pub meets_always : (steps : ℕ) → Meets (program_of body) file args steps
  meets_always zero = spent
  meets_always (suc n) = returned n
