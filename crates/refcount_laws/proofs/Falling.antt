-- The graph that drops a reference, up to where the count is tested.
use Rattle.std.proofs.Common.{◌≡◌, ◌<◌, ◌^◌, ℕ, suc, ◌+◌, true, false, List, [], ◌∷◌, Option, Some, None, Ok, refl, ap, ◌∙◌}
use Rattle.std.specs.Prelude.{slice_set, pos}
use Rattle.csub_tree.specs.State.{Value, Unset, Word, Flag, Null, Block, Core, Onward}
use Rattle.csub_tree.specs.Layout.{begins_with, place}
use Rattle.csub_tree.specs.Operation.{is_unset, binary_of}
use Rattle.csub_tree.specs.Statement.{read, operand, block_at, stored}
use Rattle.csub_tree.specs.declared.tree.CBinary.TheVariants.{Sub, Eq, Peq}
use Rattle.csub_tree.specs.declared.tree.COperand.{COperand}
use Rattle.csub_tree.specs.declared.tree.COperand.TheVariants.{Var}
use Rattle.ll_code.specs.State.{Frame, State, At}
use Rattle.ll_code.specs.Machine.{goes_on, shapes_of}
use Rattle.ll_code.specs.declared.program.LlOp.{LlOp}
use Rattle.ll_code.specs.declared.program.LlOp.TheVariants as op
use Rattle.ll_code.specs.declared.program.LlExit.{LlExit}
use Rattle.ll_code.specs.declared.program.LlExit.TheVariants as exit
use Rattle.ll_code.specs.declared.program.LlProgram.{LlProgram}
use Rattle.refcount_laws.specs.Graphs.{Counts, Counting, Stands, IsRoot, link, word, null, unless_null, over, less, released, down_types, down_blocks}
use Rattle.refcount_laws.specs.Runs.{Leads, here}
use Rattle.refcount_laws.proofs.Steps.{leads_on, get_step, put_step, any_set, binary_step, call_step, return_step, yes_step, no_step, wait}
use Rattle.refcount_laws.proofs.Variables.{less_word, some_left, none_left}

module _ (q : LlProgram) (args : List (List ℕ)) (c : Counts) (counting : Counting q c) (core : Core) (f b : ℕ) (ex : LlExit) (frames : List Frame) (n : ℕ) (root : IsRoot c n) (x : COperand) (at : ℕ) (ops : List LlOp) (vars : List Value) where
  abbrev pub waiting_ : Frame
  waiting_ = wait q args core f b ex frames at vars ops

  abbrev calls : List (Option Block) → List Block → State
  calls h s = At (op.Call None (c.down n) (x ∷ []) ∷ ops) ex frames (here core f b at vars h s)

  abbrev back : List (Option Block) → List Block → State
  back h s = At ops ex frames (here core f b (at + 1) vars h s)

  abbrev pub within : List LlOp → LlExit → ℕ → ℕ → List Value → List (Option Block) → List Block → State
  within os e to place vs h s = At os e (waiting_ ∷ frames) (here core (c.down n) to place vs h s)

  stands : Stands q (c.down n) (down_types n) (down_blocks n)
  stands = counting.down n root

  -- NULL is left alone
  pub null_down : (h : List (Option Block)) (s : List Block) → operand vars x ≡ Null → Leads q args (calls h s) (back h s)
  null_down h s e =
      let first : List Value = Null ∷ Unset ∷ Unset ∷ Unset ∷ Unset ∷ [] in
      let tested : List Value = Null ∷ Flag true ∷ Unset ∷ Unset ∷ Unset ∷ [] in
      leads_on q args {t = within unless_null.ops unless_null.exit 0 0 first h s} (call_step q args core f b ex frames (c.down n) at x ops vars h s Null (down_types n) (down_blocks n) unless_null e refl stands refl)
      (leads_on q args {t = within [] unless_null.exit 0 1 tested h s} (binary_step q args core (c.down n) 0 unless_null.exit (waiting_ ∷ frames) 1 0 Peq (Var 0) null [] first h s (Flag true) refl)
      (leads_on q args {t = within [] (exit.Return None) 2 0 tested h s}
      (yes_step q args core (c.down n) 0 (waiting_ ∷ frames) 1 1 (link 2 []) (link 1 (Var 0 ∷ [])) tested tested h s (down_types n) (down_blocks n) over refl stands refl refl refl)
      (return_step q args core f b ex frames (c.down n) 2 at 0 ops vars tested h s)))

  abbrev after : Value → ℕ → List Value
  after p m = p ∷ Flag false ∷ Word (pos m) ∷ Unset ∷ Unset ∷ []

  abbrev pub falls_to : Value → ℕ → List (Option Block) → List Block → State
  falls_to p m h s = within (op.Binary 3 Eq (Var 2) (word 0) ∷ []) (less n).exit 1 3 (after p m) h s

  -- the count falls
  pub count_falls : (h h' : List (Option Block)) (s s' : List Block) (p : Value) (m kind : ℕ) (second : Value) (fields items : List Value) → operand vars x ≡ p → is_unset p ≡ false → binary_of Peq p Null ≡ Ok (Flag false)
      → begins_with (shapes_of q.structs) kind n ≡ true → suc m < 2 ^ 63
      → ((b at : ℕ) (vars : List Value) → block_at (here core (c.down n) b at vars h s) p ≡ Some (record { kind = kind; fields = Word (pos (suc m)) ∷ second ∷ fields; items = items }))
      → ((b at : ℕ) (vars : List Value) → stored (here core (c.down n) b at vars h s) p (record { kind = kind; fields = Word (pos m) ∷ second ∷ fields; items = items }) ≡ Onward (here core (c.down n) b (at + 1) vars h' s'))
      → Leads q args (calls h s) (falls_to p m h' s')
  count_falls h h' s s' p m kind second fields items e set not_null of small found kept =
      let first : List Value = p ∷ Unset ∷ Unset ∷ Unset ∷ Unset ∷ [] in
      let tested : List Value = p ∷ Flag false ∷ Unset ∷ Unset ∷ Unset ∷ [] in
      let got : List Value = p ∷ Flag false ∷ Word (pos (suc m)) ∷ Unset ∷ Unset ∷ [] in
      let block : Block = record { kind = kind; fields = Word (pos (suc m)) ∷ second ∷ fields; items = items } in
      let third : List LlOp = op.SetField n 0 0 (Var 2) ∷ op.Binary 3 Eq (Var 2) (word 0) ∷ [] in
      let second_ops : List LlOp = op.Binary 2 Sub (Var 2) (word 1) ∷ third in
      leads_on q args {t = within unless_null.ops unless_null.exit 0 0 first h s} (call_step q args core f b ex frames (c.down n) at x ops vars h s p (down_types n) (down_blocks n) unless_null e set stands refl)
      (leads_on q args {t = within [] unless_null.exit 0 1 tested h s} (binary_step q args core (c.down n) 0 unless_null.exit (waiting_ ∷ frames) 1 0 Peq (Var 0) null [] first h s (Flag false) not_null)
      (leads_on q args {t = within (less n).ops (less n).exit 1 0 tested h s}
      (no_step q args core (c.down n) 0 (waiting_ ∷ frames) 1 1 (link 2 []) (link 1 (Var 0 ∷ [])) tested tested h s (down_types n) (down_blocks n) (less n) refl stands refl (any_set q args p set) refl)
      (leads_on q args {t = within second_ops (less n).exit 1 1 got h s}
      (get_step q args core (c.down n) 1 (less n).exit (waiting_ ∷ frames) 2 n 0 0 0 second_ops tested h s p (Word (pos (suc m))) block refl set (found 1 0 tested) of (ap (read block.fields) (counting.first n 0 root)) refl)
      (leads_on q args {t = within third (less n).exit 1 2 (after p m) h s} (binary_step q args core (c.down n) 1 (less n).exit (waiting_ ∷ frames) 2 1 Sub (Var 2) (word 1) third got h s (Word (pos m)) (less_word m small))
      (put_step q args core (c.down n) 1 (less n).exit (waiting_ ∷ frames) n 0 0 2 (Var 2) (op.Binary 3 Eq (Var 2) (word 0) ∷ []) (after p m) h s p (Word (pos m)) block (falls_to p m h' s') refl set refl refl (found 1 2 (after p m)) of
      (ap (λ k. goes_on (At (op.Binary 3 Eq (Var 2) (word 0) ∷ []) (less n).exit (waiting_ ∷ frames)) (stored (here core (c.down n) 1 2 (after p m) h s) p (record block { fields = slice_set block.fields k (Word (pos m)) }))) (counting.first n 0 root)
      ∙ ap (goes_on (At (op.Binary 3 Eq (Var 2) (word 0) ∷ []) (less n).exit (waiting_ ∷ frames))) (kept 1 2 (after p m))))))))

  -- some references are left
  pub some_remain : (h : List (Option Block)) (s : List Block) (p : Value) (m : ℕ) → Leads q args (falls_to p (suc m) h s) (back h s)
  some_remain h s p m =
      let seen : List Value = p ∷ Flag false ∷ Word (pos (suc m)) ∷ Flag false ∷ Unset ∷ [] in
      leads_on q args {t = within [] (less n).exit 1 4 seen h s} (binary_step q args core (c.down n) 1 (less n).exit (waiting_ ∷ frames) 3 3 Eq (Var 2) (word 0) [] (after p (suc m)) h s (Flag false) (some_left m))
      (leads_on q args {t = within [] (exit.Return None) 2 0 seen h s}
      (no_step q args core (c.down n) 1 (waiting_ ∷ frames) 4 3 (link 3 (Var 0 ∷ [])) (link 2 []) seen seen h s (down_types n) (down_blocks n) over refl stands refl refl refl)
      (return_step q args core f b ex frames (c.down n) 2 at 0 ops vars seen h s))

  abbrev pub seen_none : Value → List Value
  seen_none p = p ∷ Flag false ∷ Word (pos 0) ∷ Flag true ∷ Unset ∷ []

  pub none_remain : (h : List (Option Block)) (s : List Block) (p : Value) → is_unset p ≡ false → Leads q args (falls_to p 0 h s) (within (released n).ops (released n).exit 3 0 (seen_none p) h s)
  none_remain h s p set =
      leads_on q args {t = within [] (less n).exit 1 4 (seen_none p) h s} (binary_step q args core (c.down n) 1 (less n).exit (waiting_ ∷ frames) 3 3 Eq (Var 2) (word 0) [] (after p 0) h s (Flag true) none_left)
      (yes_step q args core (c.down n) 1 (waiting_ ∷ frames) 4 3 (link 3 (Var 0 ∷ [])) (link 2 []) (seen_none p) (seen_none p) h s (down_types n) (down_blocks n) (released n) refl stands refl (any_set q args p set) refl)
