-- Behind the operation that makes an array, its variable leads to a block with as many items as was said.
use Rattle.std.proofs.Common.{◌≡◌, ◌≢◌, ℕ, zero, suc, ◌<◌, ℤ, pos, negsuc, Bool, true, false, ◌&&◌, ◌||◌, List, [], ◌∷◌, ◌++◌, length, replicate, Option, Some, None, refl, sym, ap, ◌∙◌, arith}
use Rattle.std.specs.Prelude.{slice_get, slice_index_or, not, is_some}
use Rattle.csub_tree.specs.State.{Value, Unset, Word, Ptr, Block, Core, After, Onward, Puts as PutsByte, Told, Over, Stuck}
use Rattle.csub_tree.specs.Layout.{shape_at}
use Rattle.csub_tree.specs.Operation.{word_of}
use Rattle.csub_tree.specs.Statement as st
use Rattle.csub_tree.specs.Statement.{read, operand}
use Rattle.csub_tree.specs.declared.tree.COperand.{COperand}
use Rattle.csub_tree.specs.declared.tree.COperand.TheVariants.{Var, Const}
use Rattle.ll_code.specs.Machine.{does, shapes_of}
use Rattle.ll_code.specs.Typed.{takes, has_type, begins, items_of, operation_ok}
use Rattle.ll_code.specs.declared.program.LlType.{LlType}
use Rattle.ll_code.specs.declared.program.LlType.TheVariants as type
use Rattle.ll_code.specs.declared.program.LlOp.{LlOp}
use Rattle.ll_code.specs.declared.program.LlOp.TheVariants as op
use Rattle.ll_code.specs.declared.program.LlProgram.{LlProgram}
use Rattle.ll_laws.proofs.Cells.{new_at}
use Rattle.ll_laws.proofs.Heap.{length_unset}
use Rattle.ll_laws.proofs.Values.{and_left, and_right, is_same, has_type_is}
use Rattle.refcount_transform.specs.Plan.{plan_of}
use Rattle.refcount_laws.proofs.Cells.{set_here, set_other}
use Rattle.refcount_checks.specs.Countable.{is_number, fills, number_follows, numbers_follow}
use Rattle.refcount_ready.proofs.Keeps.{NumberNext}

abbrev pub Filled : LlOp → Core → Type 0
Filled (op.NewArray a m n (Var w)) core = (b : ℕ) (block : Block) → read core.vars a ≡ Ptr b → slice_index_or core.blocks b None ≡ Some block → read core.vars w ≡ Word (pos (length block.items))
Filled other core = Unit {0}

abbrev pub AfterFilled : LlOp → After → Type 0
AfterFilled o (Onward core) = Filled o core
AfterFilled o (PutsByte byte core) = Filled o core
AfterFilled o (Told event core) = Filled o core
AfterFilled o (Over outcome core) = Unit {0}
AfterFilled o (Stuck reason) = Unit {0}

any_after : (o : LlOp) → ((core : Core) → Filled o core) → (after : After) → AfterFilled o after
any_after o h (Onward core) = h core
any_after o h (PutsByte byte core) = h core
any_after o h (Told event core) = h core
any_after o h (Over outcome core) = tt
any_after o h (Stuck reason) = tt

type_within : (types : List LlType) (a : ℕ) (t : LlType) → slice_get types a ≡ Some t → a < length types
type_within [] a t e = absurd (cc)
type_within (x ∷ types) zero t e = omega arith
type_within (x ∷ types) (suc a) t e = omega (arith, type_within types a t e)

is_word : (v : Value) (z : ℤ) → word_of v ≡ Some z → v ≡ Word z
is_word (Word y) z e = let f : y ≡ z = cc in ap Word f
is_word other z e = absurd (cc)

module _ (p : LlProgram) (args : List (List ℕ)) (types : List LlType) (core : Core) (long : length core.vars ≡ length types) where
  array_filled : (a m n w : ℕ) → operation_ok p types (op.NewArray a m n (Var w)) ≡ true → AfterFilled (op.NewArray a m n (Var w)) (st.new_array core (shapes_of p.structs) a n (read core.vars w))
  array_filled a m n w h = by (word_of (read core.vars w)) refl
    where
      at_a : slice_get types a ≡ Some (type.Ptr m)
      at_a = has_type_is (type.Ptr m) (slice_get types a) (and_left _ _ (and_left _ _ (and_left _ _ h)))

      apart : a ≢ w
      apart e = absurd (let z : Some (type.Ptr m) ≡ Some type.Signed = sym at_a ∙ ap (slice_get types) e ∙ has_type_is type.Signed (slice_get types w) (and_right ((has_type (type.Ptr m) (slice_get types a) && begins p.structs n m) && is_some (items_of (slice_get p.structs n))) (takes p types type.Signed (Var w)) h) in cc)

      items : (z : ℤ) → word_of (read core.vars w) ≡ Some z → AfterFilled (op.NewArray a m n (Var w)) (st.new_items core (shapes_of p.structs) a n z)
      items (pos k) e = λ b block is there.
          let made : Block = record { kind = n; fields = replicate (shape_at (shapes_of p.structs) n).size Unset; items = replicate k Unset } in
          let l : a < length core.vars = (let l : a < length types = type_within types a (type.Ptr m) at_a in omega (arith, l, long)) in
          let f : length core.blocks ≡ b = (let z : Ptr (length core.blocks) ≡ Ptr b = sym (set_here core.vars a (Ptr (length core.blocks)) Unset l) ∙ is in cc) in
          let g : made ≡ block = (let z : Some made ≡ Some block = sym (new_at core.blocks (Some made) None) ∙ ap (λ b. slice_index_or (core.blocks ++ Some made ∷ []) b None) f ∙ there in cc) in
          set_other core.vars a w (Ptr (length core.blocks)) Unset apart ∙ is_word (read core.vars w) (pos k) e ∙ ap (λ n. Word (pos n)) (sym (length_unset k)) ∙ ap (λ b. Word (pos (length b.items))) g
      items (negsuc k) e = tt

      by : (o : Option ℤ) → word_of (read core.vars w) ≡ o → AfterFilled (op.NewArray a m n (Var w)) (st.on (st.new_items core (shapes_of p.structs) a n) o)
      by None e = tt
      by (Some z) e = items z e

  pub does_filled : (o : LlOp) → operation_ok p types o ≡ true → AfterFilled o (does p args core o)
  does_filled (op.NewArray a m n (Var w)) h = array_filled a m n w h
  does_filled (op.NewArray a m n (Const c)) h = any_after (op.NewArray a m n (Const c)) (λ core. tt) (does p args core (op.NewArray a m n (Const c)))
  does_filled other h = any_after other (λ core. tt) (does p args core other)

either_number : (a b : Bool) → a ≡ true → (not a || b) ≡ true → b ≡ true
either_number true b e h = h
either_number false b e h = absurd (cc)

-- where the next operation sets a number, this one made the array
filled_by : (p : LlProgram) (o : LlOp) (n v : ℕ) (x : COperand) (core : Core) → fills (Some o) n v x ≡ true → Filled o core → (b : ℕ) (block : Block) → read core.vars v ≡ Ptr b → slice_index_or core.blocks b None ≡ Some block → operand core.vars x ≡ Word (pos (length block.items))
filled_by p (op.NewArray a m k (Var w)) n v (Var u) core h filled b block e there =
    let f : a ≡ v = is_same a v (and_left _ _ (and_left _ _ h)) in let g : w ≡ u = is_same w u (and_right _ _ h) in
    ap (read core.vars) (sym g) ∙ filled b block (ap (read core.vars) f ∙ e) there
filled_by p (op.NewArray a m k (Var w)) n v (Const c) core h filled b block e there = absurd (cc)
filled_by p (op.NewArray a m k (Const c)) n v x core h filled b block e there = absurd (cc)
filled_by p other n v x core h filled b block e there = absurd (cc)

pub number_next : (p : LlProgram) (o : LlOp) (ops : List LlOp) (core : Core) → numbers_follow (plan_of p) (Some o) ops ≡ true → Filled o core → NumberNext p core ops
number_next p o [] core h filled = tt
number_next p o (op.SetField n v k x ∷ ops) core h filled = λ is. filled_by p o n v x core (either_number (is_number (plan_of p) n k) (fills (Some o) n v x) is (and_left (number_follows (plan_of p) (Some o) (op.SetField n v k x)) (numbers_follow (plan_of p) (Some (op.SetField n v k x)) ops) h)) filled
number_next p o (other ∷ ops) core h filled = tt

-- at the head of a block, nothing sets a number
pub number_first : (p : LlProgram) (ops : List LlOp) (core : Core) → numbers_follow (plan_of p) None ops ≡ true → NumberNext p core ops
number_first p [] core h = tt
number_first p (op.SetField n v k x ∷ ops) core h = λ is. absurd (let z : false ≡ true = either_number (is_number (plan_of p) n k) (fills None n v x) is (and_left (number_follows (plan_of p) None (op.SetField n v k x)) (numbers_follow (plan_of p) (Some (op.SetField n v k x)) ops) h) in cc)
number_first p (other ∷ ops) core h = tt
