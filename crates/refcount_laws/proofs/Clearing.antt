-- The items of a new array of references are NULL before anything else is done with it.
use Rattle.std.proofs.Common.{◌≡◌, ◌<◌, ℕ, zero, suc, ◌+◌, Bool, true, false, List, [], ◌∷◌, ◌^◌, length, Option, Some, None, refl, ap, ◌∙◌, subst, arith}
use Rattle.std.specs.Prelude.{slice_get, slice_set}
use Rattle.csub_tree.specs.State.{Value, Unset, Word, Flag, Null, Ptr, Block, Core}
use Rattle.csub_tree.specs.Layout.{begins_with}
use Rattle.csub_tree.specs.Statement.{read, operand}
use Rattle.csub_tree.specs.declared.tree.COperand.{COperand}
use Rattle.csub_tree.specs.declared.tree.COperand.TheVariants.{Var}
use Rattle.ll_code.specs.State.{Frame, State, At, Goes}
use Rattle.ll_code.specs.Machine.{shapes_of}
use Rattle.ll_code.specs.declared.program.LlOp.{LlOp}
use Rattle.ll_code.specs.declared.program.LlOp.TheVariants as op
use Rattle.ll_code.specs.declared.program.LlExit.{LlExit}
use Rattle.ll_code.specs.declared.program.LlType.{LlType}
use Rattle.ll_code.specs.declared.program.LlProgram.{LlProgram}
use Rattle.refcount_laws.specs.Runs.{Leads, here}
use Rattle.refcount_laws.proofs.Cells.{set_here, set_length}
use Rattle.refcount_laws.proofs.Steps.{leads_on, goes}
use Rattle.std.specs.Prelude.{pos, cond}
use Rattle.csub_tree.specs.declared.stuck.StuckReason.TheVariants.{Unset as IsUnset}
use Rattle.csub_tree.specs.declared.tree.CBinary.TheVariants as binary
use Rattle.ll_code.specs.declared.program.LlType.TheVariants as type
use Rattle.refcount_laws.specs.Ghost.{one}
use Rattle.refcount_laws.proofs.Ghosts.{there}
use Rattle.refcount_laws.specs.Graphs.{StandsWith}
use Rattle.refcount_laws.proofs.Ghosts.{inside}
use Rattle.refcount_laws.proofs.Storing.{store_step}
use Rattle.refcount_transform.specs.Plan.{root}
use Rattle.refcount_laws.proofs.Touching.{set_twice}
use Rattle.refcount_transform.specs.Made as made
use Rattle.csub_tree.specs.declared.tree.CBinary.TheVariants as binary
use Rattle.ll_code.specs.Machine.{jump, begins, branch, block_in as block_of, set_all}
use Rattle.csub_tree.specs.Operation.{flag_of}
use Rattle.csub_tree.specs.Statement.{operands, any_unset}
use Rattle.ll_code.specs.State.{Sticks}
use Rattle.ll_code.specs.declared.program.LlLink.{LlLink}
use Rattle.ll_code.specs.declared.program.LlBlock.{LlBlock}
use Rattle.ll_code.specs.declared.program.LlExit.TheVariants as exit
use Rattle.refcount_transform.specs.Made.{clear_start, clear_test, clear_one, ended, link_to}
use Rattle.refcount_laws.proofs.Steps.{binary_step, return_step, wait}
use Rattle.refcount_laws.proofs.Variables.{is_below, not_below, more_word}
use Rattle.refcount_laws.proofs.Writing.{call_all_step}

-- the items from one place on, so many, are NULL
abbrev pub filled : ℕ → ℕ → List Value → List Value
filled zero i items = items
filled (suc j) i items = filled j (suc i) (slice_set items i Null)

-- the blocks of the graph
abbrev pub clear_blocks : ℕ → List LlBlock
clear_blocks n = clear_start ∷ clear_test ∷ clear_one n ∷ ended ∷ []

abbrev pub clear_types : ℕ → List LlType
clear_types root = type.Ptr root ∷ type.Signed ∷ type.Signed ∷ type.Bool ∷ []

module _ (q : LlProgram) (args : List (List ℕ)) (core : Core) (f : ℕ) (frames : List Frame) (params : List ℕ) (types : List LlType) (blocks : List LlBlock) (stands : StandsWith q f params types blocks) where
  jump_with : (b at : ℕ) (link : LlLink) (vars : List Value) (h : List (Option Block)) (s : List Block) (block : LlBlock) → slice_get blocks link.to ≡ Some block → any_unset (operands vars link.args) ≡ false
      → jump q frames (here core f b at vars h s) link ≡ Goes (At block.ops block.exit frames (here core f link.to 0 (set_all vars block.inputs (operands vars link.args)) h s))
  jump_with b at link vars h s block one set =
      ap (λ u. cond u (Sticks IsUnset) (begins frames (here core f b at vars h s) link.to (operands vars link.args) (block_of (slice_get q.graphs f) link.to))) set
      ∙ ap (λ g. begins frames (here core f b at vars h s) link.to (operands vars link.args) (block_of g link.to)) stands.there
      ∙ ap (λ l. begins frames (here core f b at vars h s) link.to (operands vars link.args) (slice_get l link.to)) stands.laid
      ∙ ap (begins frames (here core f b at vars h s) link.to (operands vars link.args)) one

  goto_with : (b at : ℕ) (link : LlLink) (vars : List Value) (h : List (Option Block)) (s : List Block) (block : LlBlock) → slice_get blocks link.to ≡ Some block → any_unset (operands vars link.args) ≡ false
      → Leads q args (At [] (exit.Goto link) frames (here core f b at vars h s)) (At block.ops block.exit frames (here core f link.to 0 (set_all vars block.inputs (operands vars link.args)) h s))
  goto_with b at link vars h s block one set =
      goes q args (At [] (exit.Goto link) frames (here core f b at vars h s)) (At block.ops block.exit frames (here core f link.to 0 (set_all vars block.inputs (operands vars link.args)) h s)) (jump_with b at link vars h s block one set)

  if_with : (b at a : ℕ) (y : Bool) (there elsewhere : LlLink) (vars : List Value) (h : List (Option Block)) (s : List Block) (block : LlBlock) → read vars a ≡ Flag y → slice_get blocks (cond y there elsewhere).to ≡ Some block → any_unset (operands vars (cond y there elsewhere).args) ≡ false
      → Leads q args (At [] (exit.If a there elsewhere) frames (here core f b at vars h s)) (At block.ops block.exit frames (here core f (cond y there elsewhere).to 0 (set_all vars block.inputs (operands vars (cond y there elsewhere).args)) h s))
  if_with b at a y there elsewhere vars h s block test one set =
      goes q args (At [] (exit.If a there elsewhere) frames (here core f b at vars h s)) (At block.ops block.exit frames (here core f (cond y there elsewhere).to 0 (set_all vars block.inputs (operands vars (cond y there elsewhere).args)) h s))
      (ap (λ v. branch q frames (here core f b at vars h s) there elsewhere (flag_of v)) test ∙ by y block one set)
    where
      by : (y : Bool) (block : LlBlock) → slice_get blocks (cond y there elsewhere).to ≡ Some block → any_unset (operands vars (cond y there elsewhere).args) ≡ false
          → branch q frames (here core f b at vars h s) there elsewhere (Some y) ≡ Goes (At block.ops block.exit frames (here core f (cond y there elsewhere).to 0 (set_all vars block.inputs (operands vars (cond y there elsewhere).args)) h s))
      by true block one set = jump_with b at there vars h s block one set
      by false block one set = jump_with b at elsewhere vars h s block one set

module _ (q : LlProgram) (args : List (List ℕ)) (core : Core) (f n root : ℕ) (frames : List Frame) (stands : StandsWith q f (0 ∷ 1 ∷ []) (clear_types root) (clear_blocks n)) (a kind : ℕ) (fields : List Value) (of : begins_with (shapes_of q.structs) kind n ≡ true) (k : ℕ)
    (small : k < 2 ^ 63) (s : List Block) (h : List (Option Block)) (inside : a < length h) where
  abbrev with_items : List Value → List (Option Block)
  with_items items = slice_set h a (Some (record { kind = kind; fields = fields; items = items }))

  abbrev vars_at : ℕ → Value → List Value
  vars_at i y = Ptr a ∷ Word (pos k) ∷ Word (pos i) ∷ y ∷ []

  abbrev at_test : ℕ → Value → List Value → State
  at_test i y items = At clear_test.ops clear_test.exit frames (here core f 1 0 (vars_at i y) (with_items items) s)

  abbrev all_args : List COperand
  all_args = Var 0 ∷ Var 1 ∷ Var 2 ∷ []

  -- the items from one place on
  loop_run : (j i : ℕ) (y : Value) (items : List Value) → i + j ≡ k → length items ≡ k → Leads q args (at_test i y items) (At ended.ops ended.exit frames (here core f 3 0 (vars_at k (Flag false)) (with_items (filled j i items)) s))
  loop_run zero i y items e long =
      let same : i ≡ k = omega (arith, e) in
      leads_on q args {t = At [] clear_test.exit frames (here core f 1 1 (vars_at i (Flag false)) (with_items items) s)}
      (binary_step q args core f 1 clear_test.exit frames 3 0 binary.Lt (Var 2) (Var 1) [] (vars_at i y) (with_items items) s (Flag false) (not_below i k (omega (arith, e))))
      (subst (λ m. Leads q args (At [] clear_test.exit frames (here core f 1 1 (vars_at i (Flag false)) (with_items items) s)) (At ended.ops ended.exit frames (here core f 3 0 (vars_at m (Flag false)) (with_items items) s))) same
      (if_with q args core f frames (0 ∷ 1 ∷ []) (clear_types root) (clear_blocks n) stands 1 1 3 false (link_to 2 all_args) (link_to 3 []) (vars_at i (Flag false)) (with_items items) s ended refl refl refl))
  loop_run (suc j) i y items e long =
      let items2 : List Value = slice_set items i Null in
      let last : List LlOp = op.Binary 2 binary.Add (Var 2) (made.word 1) ∷ [] in
      let block : Block = record { kind = kind; fields = fields; items = items } in
      let behind : State = At last (clear_one n).exit frames (here core f 2 1 (vars_at i (Flag true)) (with_items items2) s) in
      leads_on q args {t = At [] clear_test.exit frames (here core f 1 1 (vars_at i (Flag true)) (with_items items) s)}
      (binary_step q args core f 1 clear_test.exit frames 3 0 binary.Lt (Var 2) (Var 1) [] (vars_at i y) (with_items items) s (Flag true) (is_below i k (omega (arith, e))))
      (leads_on q args {t = At (clear_one n).ops (clear_one n).exit frames (here core f 2 0 (vars_at i (Flag true)) (with_items items) s)}
      (if_with q args core f frames (0 ∷ 1 ∷ []) (clear_types root) (clear_blocks n) stands 1 1 3 true (link_to 2 all_args) (link_to 3 []) (vars_at i (Flag true)) (with_items items) s (clear_one n) refl refl refl)
      (leads_on q args {t = behind}
      (store_step q args core f 2 (clear_one n).exit frames n 0 0 i (Var 2) made.null last (vars_at i (Flag true)) (with_items items) s (Ptr a) Null block behind refl refl refl (omega (arith, e, long)) refl refl
      (set_here h a (Some block) None inside) of
      (ap (λ l. Goes (At last (clear_one n).exit frames (here core f 2 1 (vars_at i (Flag true)) l s))) (set_twice h a (Some block) (Some (record { kind = kind; fields = fields; items = items2 })))))
      (leads_on q args {t = At [] (clear_one n).exit frames (here core f 2 2 (vars_at (suc i) (Flag true)) (with_items items2) s)}
      (binary_step q args core f 2 (clear_one n).exit frames 2 1 binary.Add (Var 2) (made.word 1) [] (vars_at i (Flag true)) (with_items items2) s (Word (pos (suc i))) (more_word i (omega (arith, e, small))))
      (leads_on q args
      (goto_with q args core f frames (0 ∷ 1 ∷ []) (clear_types root) (clear_blocks n) stands 2 2 (link_to 1 all_args) (vars_at (suc i) (Flag true)) (with_items items2) s clear_test refl refl)
      (loop_run j (suc i) (Flag true) items2 (omega (arith, e)) (set_length items i Null ∙ long))))))

-- the whole call
pub clear_run : (q : LlProgram) (args : List (List ℕ)) (core : Core) (f b : ℕ) (ex : LlExit) (frames : List Frame) (clear n root a kind k at : ℕ) (fields items : List Value) (x y : COperand) (ops : List LlOp) (vars : List Value) (h : List (Option Block)) (s : List Block)
    → StandsWith q clear (0 ∷ 1 ∷ []) (clear_types root) (clear_blocks n) → begins_with (shapes_of q.structs) kind n ≡ true → k < 2 ^ 63 → length items ≡ k → a < length h → operand vars x ≡ Ptr a → operand vars y ≡ Word (pos k)
    → Leads q args (At (op.Call None clear (x ∷ y ∷ []) ∷ ops) ex frames (here core f b at vars (slice_set h a (Some (record { kind = kind; fields = fields; items = items }))) s))
    (At ops ex frames (here core f b (at + 1) vars (slice_set h a (Some (record { kind = kind; fields = fields; items = filled k 0 items }))) s))
clear_run q args core f b ex frames clear n root a kind k at fields items x y ops vars h s stands of small long inside is_x is_y =
    let waiter : Frame = wait q args core f b ex frames at vars ops in
    let start : List (Option Block) = slice_set h a (Some (record { kind = kind; fields = fields; items = items })) in
    let first : List Value = Ptr a ∷ Word (pos k) ∷ Unset ∷ Unset ∷ [] in
    leads_on q args {t = At clear_start.ops clear_start.exit (waiter ∷ frames) (here core clear 0 0 first start s)}
    (call_all_step q args core f b ex frames clear at (x ∷ y ∷ []) ops vars (Ptr a ∷ Word (pos k) ∷ []) start s (0 ∷ 1 ∷ []) (clear_types root) (clear_blocks n) clear_start (ap (λ v. v ∷ operand vars y ∷ []) is_x ∙ ap (λ v. Ptr a ∷ v ∷ []) is_y) refl stands refl)
    (leads_on q args
    (goto_with q args core clear (waiter ∷ frames) (0 ∷ 1 ∷ []) (clear_types root) (clear_blocks n) stands 0 0 (link_to 1 (Var 0 ∷ Var 1 ∷ made.word 0 ∷ [])) first start s clear_test refl refl)
    (leads_on q args
    (loop_run q args core clear n root (waiter ∷ frames) stands a kind fields of k small s h inside k 0 Unset items (let z : 0 + k ≡ k = omega arith in z) long)
    (return_step q args core f b ex frames clear 3 at 0 ops vars (Ptr a ∷ Word (pos k) ∷ Word (pos k) ∷ Flag false ∷ []) (slice_set h a (Some (record { kind = kind; fields = fields; items = filled k 0 items }))) s)))
