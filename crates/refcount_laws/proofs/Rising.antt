-- The graph that counts one reference more.
use Rattle.std.proofs.Common.{◌≡◌, ◌<◌, ◌^◌, ℕ, suc, ◌+◌, true, false, List, [], ◌∷◌, Option, Some, None, Ok, refl, ap, ◌∙◌}
use Rattle.std.specs.Prelude.{slice_set, pos}
use Rattle.csub_tree.specs.State.{Value, Unset, Word, Flag, Null, Block, Core, Onward}
use Rattle.csub_tree.specs.Layout.{begins_with, place}
use Rattle.csub_tree.specs.Operation.{is_unset, binary_of}
use Rattle.csub_tree.specs.Statement.{read, operand, block_at, stored}
use Rattle.csub_tree.specs.declared.tree.CBinary.TheVariants.{Add, Peq}
use Rattle.csub_tree.specs.declared.tree.COperand.{COperand}
use Rattle.csub_tree.specs.declared.tree.COperand.TheVariants.{Var}
use Rattle.ll_code.specs.State.{Frame, State, At}
use Rattle.ll_code.specs.Machine.{goes_on, shapes_of}
use Rattle.ll_code.specs.declared.program.LlOp.{LlOp}
use Rattle.ll_code.specs.declared.program.LlOp.TheVariants as op
use Rattle.ll_code.specs.declared.program.LlExit.{LlExit}
use Rattle.ll_code.specs.declared.program.LlExit.TheVariants as exit
use Rattle.ll_code.specs.declared.program.LlProgram.{LlProgram}
use Rattle.refcount_laws.specs.Graphs.{Counts, Counting, Stands, IsRoot, link, word, null, unless_null, over, more, up_types, up_blocks}
use Rattle.refcount_laws.specs.Runs.{Leads, here}
use Rattle.refcount_laws.proofs.Steps.{leads_on, get_step, put_step, any_set, binary_step, call_step, return_step, yes_step, no_step, wait}
use Rattle.refcount_laws.proofs.Variables.{more_word}

module _ (q : LlProgram) (args : List (List ℕ)) (c : Counts) (counting : Counting q c) (core : Core) (f b : ℕ) (ex : LlExit) (frames : List Frame) (n : ℕ) (root : IsRoot c n) (x : COperand) (at : ℕ) (ops : List LlOp) (vars : List Value) where
  abbrev waiting_ : Frame
  waiting_ = wait q args core f b ex frames at vars ops

  abbrev calls : List (Option Block) → List Block → State
  calls h s = At (op.Call None (c.up n) (x ∷ []) ∷ ops) ex frames (here core f b at vars h s)

  abbrev back : List (Option Block) → List Block → State
  back h s = At ops ex frames (here core f b (at + 1) vars h s)

  abbrev within : List LlOp → LlExit → ℕ → ℕ → List Value → List (Option Block) → List Block → State
  within os e to place vs h s = At os e (waiting_ ∷ frames) (here core (c.up n) to place vs h s)

  stands : Stands q (c.up n) (up_types n) (up_blocks n)
  stands = counting.up n root

  -- NULL is left alone
  pub null_up : (h : List (Option Block)) (s : List Block) → operand vars x ≡ Null → Leads q args (calls h s) (back h s)
  null_up h s e =
      let first : List Value = Null ∷ Unset ∷ Unset ∷ [] in
      let tested : List Value = Null ∷ Flag true ∷ Unset ∷ [] in
      leads_on q args {t = within unless_null.ops unless_null.exit 0 0 first h s} (call_step q args core f b ex frames (c.up n) at x ops vars h s Null (up_types n) (up_blocks n) unless_null e refl stands refl)
      (leads_on q args {t = within [] unless_null.exit 0 1 tested h s} (binary_step q args core (c.up n) 0 unless_null.exit (waiting_ ∷ frames) 1 0 Peq (Var 0) null [] first h s (Flag true) refl)
      (leads_on q args {t = within [] (exit.Return None) 2 0 tested h s}
      (yes_step q args core (c.up n) 0 (waiting_ ∷ frames) 1 1 (link 2 []) (link 1 (Var 0 ∷ [])) tested tested h s (up_types n) (up_blocks n) over refl stands refl refl refl)
      (return_step q args core f b ex frames (c.up n) 2 at 0 ops vars tested h s)))

  -- the count rises
  pub count_rises : (h h' : List (Option Block)) (s s' : List Block) (p : Value) (m kind : ℕ) (second : Value) (fields items : List Value) → operand vars x ≡ p → is_unset p ≡ false → binary_of Peq p Null ≡ Ok (Flag false)
      → begins_with (shapes_of q.structs) kind n ≡ true → suc m < 2 ^ 63
      → ((b at : ℕ) (vars : List Value) → block_at (here core (c.up n) b at vars h s) p ≡ Some (record { kind = kind; fields = Word (pos m) ∷ second ∷ fields; items = items }))
      → ((b at : ℕ) (vars : List Value) → stored (here core (c.up n) b at vars h s) p (record { kind = kind; fields = Word (pos (suc m)) ∷ second ∷ fields; items = items }) ≡ Onward (here core (c.up n) b (at + 1) vars h' s'))
      → Leads q args (calls h s) (back h' s')
  count_rises h h' s s' p m kind second fields items e set not_null of small found kept =
      let first : List Value = p ∷ Unset ∷ Unset ∷ [] in
      let tested : List Value = p ∷ Flag false ∷ Unset ∷ [] in
      let got : List Value = p ∷ Flag false ∷ Word (pos m) ∷ [] in
      let after : List Value = p ∷ Flag false ∷ Word (pos (suc m)) ∷ [] in
      let block : Block = record { kind = kind; fields = Word (pos m) ∷ second ∷ fields; items = items } in
      let third : List LlOp = op.SetField n 0 0 (Var 2) ∷ [] in
      let second_ops : List LlOp = op.Binary 2 Add (Var 2) (word 1) ∷ third in
      leads_on q args {t = within unless_null.ops unless_null.exit 0 0 first h s} (call_step q args core f b ex frames (c.up n) at x ops vars h s p (up_types n) (up_blocks n) unless_null e set stands refl)
      (leads_on q args {t = within [] unless_null.exit 0 1 tested h s} (binary_step q args core (c.up n) 0 unless_null.exit (waiting_ ∷ frames) 1 0 Peq (Var 0) null [] first h s (Flag false) not_null)
      (leads_on q args {t = within (more n).ops (more n).exit 1 0 tested h s}
      (no_step q args core (c.up n) 0 (waiting_ ∷ frames) 1 1 (link 2 []) (link 1 (Var 0 ∷ [])) tested tested h s (up_types n) (up_blocks n) (more n) refl stands refl (any_set q args p set) refl)
      (leads_on q args {t = within second_ops (more n).exit 1 1 got h s}
      (get_step q args core (c.up n) 1 (more n).exit (waiting_ ∷ frames) 2 n 0 0 0 second_ops tested h s p (Word (pos m)) block refl set (found 1 0 tested) of (ap (read block.fields) (counting.first n 0 root)) refl)
      (leads_on q args {t = within third (more n).exit 1 2 after h s} (binary_step q args core (c.up n) 1 (more n).exit (waiting_ ∷ frames) 2 1 Add (Var 2) (word 1) third got h s (Word (pos (suc m))) (more_word m small))
      (leads_on q args {t = within [] (exit.Return None) 1 3 after h' s'}
      (put_step q args core (c.up n) 1 (more n).exit (waiting_ ∷ frames) n 0 0 2 (Var 2) [] after h s p (Word (pos (suc m))) block (within [] (exit.Return None) 1 3 after h' s') refl set refl refl (found 1 2 after) of
      (ap (λ k. goes_on (At [] (more n).exit (waiting_ ∷ frames)) (stored (here core (c.up n) 1 2 after h s) p (record block { fields = slice_set block.fields k (Word (pos (suc m))) }))) (counting.first n 0 root)
      ∙ ap (goes_on (At [] (more n).exit (waiting_ ∷ frames))) (kept 1 2 after)))
      (return_step q args core f b ex frames (c.up n) 1 at 3 ops vars after h' s'))))))
