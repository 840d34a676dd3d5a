-- Arguments of the program are read.
use Rattle.std.proofs.Common.{◌≡◌, ℕ, ◌+◌, List, [], ◌∷◌, length, Some, pos, refl, ap, ◌∙◌}
use Rattle.std.specs.Prelude.{slice_get, slice_set, option_map}
use Rattle.csub_tree.specs.State.{Word, Core}
use Rattle.csub_tree.specs.Statement.{operand, in_range, arg_len, arg, byte_in}
use Rattle.csub_tree.specs.declared.tree.COperand.{COperand}
use Rattle.ll_code.specs.State.{Frame, At}
use Rattle.ll_code.specs.Machine.{goes_on}
use Rattle.ll_code.specs.declared.program.LlOp.{LlOp}
use Rattle.ll_code.specs.declared.program.LlOp.TheVariants as op
use Rattle.ll_code.specs.declared.program.LlExit.{LlExit}
use Rattle.ll_code.specs.declared.program.LlProgram.{LlProgram}
use Rattle.ll_leads.specs.Path.{Leads}
use Rattle.ll_leads.proofs.Ways.{one}

module _ {p : LlProgram} {args : List (List ℕ)} {ops : List LlOp} {e : LlExit} {frames : List Frame} {core : Core} {a : ℕ} where
  -- how many bytes one has
  pub gets_count : {x : COperand} (j : ℕ) (text : List ℕ) → operand core.vars x ≡ Word (pos j) → slice_get args j ≡ Some text
      → Leads p args 0 (At (op.ArgLen a x ∷ ops) e frames core) [] (At ops e frames (record core { at = core.at + 1; vars = slice_set core.vars a (Word (pos (length text))) }))
  gets_count j text at here = one (ap (λ v. goes_on (At ops e frames) (arg_len core args a v)) at ∙ ap (λ o. goes_on (At ops e frames) (in_range core a (option_map length o))) here) refl

  -- one of its bytes
  pub gets_one : {x y : COperand} (j i b : ℕ) (text : List ℕ) → operand core.vars x ≡ Word (pos j) → operand core.vars y ≡ Word (pos i) → slice_get args j ≡ Some text → slice_get text i ≡ Some b
      → Leads p args 0 (At (op.Arg a x y ∷ ops) e frames core) [] (At ops e frames (record core { at = core.at + 1; vars = slice_set core.vars a (Word (pos b)) }))
  gets_one {y = y} j i b text at place here byte =
      one (ap (λ v. goes_on (At ops e frames) (arg core args a v (operand core.vars y))) at
      ∙ ap (λ v. goes_on (At ops e frames) (arg core args a (Word (pos j)) v)) place
      ∙ ap (λ o. goes_on (At ops e frames) (in_range core a (byte_in o (pos i)))) here
      ∙ ap (λ o. goes_on (At ops e frames) (in_range core a o)) byte) refl
