-- What is held where a payment lacks steps: the string between, and the array.
use Rattle.std.proofs.Common.{◌<◌, ℕ, Bool, true, false, List, [], ◌∷◌, ◌++◌, pos}
use Rattle.csub_tree.specs.State.{Value, Unset, Word, Core}
use Rattle.csub_tree.specs.declared.tree.CBinary.TheVariants.{Add}
use Rattle.csub_tree.specs.declared.tree.COperand.TheVariants.{Var}
use Rattle.ll_code.specs.State.{Frame, At}
use Rattle.ll_code.specs.declared.program.LlOp.TheVariants as op
use Rattle.ll_code.specs.declared.program.LlExit.TheVariants as exit
use Rattle.ll_code.specs.declared.program.LlProgram.{LlProgram}
use Rattle.ll_build.specs.Build.{word as word_operand, to, fork}
use Rattle.ll_held.specs.Held.{times}
use Rattle.ll_held.specs.Roots.{roots, slots, waiting_roots}
use Rattle.list_texts.specs.Splitting.{counted_next}
use Rattle.join_laws.proofs.Graph.{counts_rest}
use Rattle.join_laws.proofs.Items.{Four, Others, rest_of}

module _ (p : LlProgram) (core : Core) (f k m : ℕ) (x array : Value) (waits : List Frame) where
  abbrev pub both : List Value
  both = x ∷ array ∷ (slots core ++ waiting_roots p waits)

  abbrev pub at_vars : Bool → ℕ → ℕ → Value → Value → Others → List Value
  at_vars bytes i sum w8 w9 r = x ∷ r.v1 ∷ array ∷ Word (pos k) ∷ Word (pos m) ∷ Word (pos i) ∷ Word (pos sum) ∷ r.v7 ∷ w8 ∷ w9 ∷ r.v10 ∷ r.v11 ∷ r.v12 ∷ Unset ∷ rest_of bytes r.rest

  pub only_item : (bytes : Bool) (i sum place now len : ℕ) (r : Others) (b : ℕ) → 0 < times b (roots p (At counts_rest (fork 7 3 counted_next 4 counted_next) waits (record core { function = f; block = 2; at = place; vars = at_vars bytes i sum Unset Unset (record r { v12 = Word (pos len) }); steps = now }))) → 0 < times b both
  only_item true i sum place now len r b h = h
  only_item false i sum place now len r b h = h

  pub only_between : (bytes : Bool) (i sum place now : ℕ) (r : Others) (s : ℕ) (b : ℕ) → 0 < times b (roots p (At (op.Step (Var 4) ∷ op.Binary 11 Add (Var 6) (Var 4) ∷ []) (exit.Goto (to 4 counted_next)) waits (record core { function = f; block = 3; at = place; vars = at_vars bytes i sum Unset Unset (record r { v11 = Word (pos s) }); steps = now }))) → 0 < times b both
  only_between true i sum place now r s b h = h
  only_between false i sum place now r s b h = h

  abbrev pub none_set : Four
  none_set = (Unset, Unset, Unset, Unset)

  pub only_start : (bytes : Bool) (head : Value) (place now : ℕ) (b : ℕ) → 0 < times b (roots p (At (op.Step (word_operand (pos 1)) ∷ []) (exit.Goto (to 1 (Var 0 ∷ Var 2 ∷ Var 3 ∷ Var 4 ∷ word_operand (pos 0) ∷ word_operand (pos 0) ∷ []))) waits
      (record core { function = f; block = 0; at = place; vars = x ∷ head ∷ array ∷ Word (pos k) ∷ Word (pos m) ∷ Unset ∷ Unset ∷ Unset ∷ Unset ∷ Unset ∷ Unset ∷ Unset ∷ Unset ∷ Unset ∷ rest_of bytes none_set; steps = now }))) → 0 < times b both
  only_start true head place now b h = h
  only_start false head place now b h = h
