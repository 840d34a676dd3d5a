-- Plain statements in words of the erased state.
use Rattle.std.proofs.Common.{◌≡◌, ℕ, ◌+◌, get_or, Option, Some, None, true, false, cond, Ok, Err, Result, sym, ap, ◌∙◌, subst}
use Rattle.std.specs.Prelude.{List, ℤ, option_map, slice_set, slice_get}
use Rattle.csub_tree.specs.State.{Value, Unset, Word, Byte, Flag, Fun, Null, Ptr, Static, Block, Core, Onward, Stuck}
use Rattle.csub_tree.specs.Layout.{Shape, shape_at, place, begins_with}
use Rattle.csub_tree.specs.Operation.{is_unset, word_of, binary_of}
use Rattle.csub_tree.specs.Statement.{read, answered, set as set_var, binary, as_struct, reached, on_block, stored, get_field, set_field}
use Rattle.csub_tree.specs.declared.stuck.StuckReason.{StuckReason}
use Rattle.csub_tree.specs.declared.stuck.StuckReason.TheVariants.{Kind, Unset as IsUnset}
use Rattle.csub_tree.specs.Machine.{step, does, does_at, stmt_at, stmt_in, block_in}
use Rattle.csub_tree.specs.declared.tree.CBinary.{CBinary}
use Rattle.csub_tree.specs.declared.tree.CFile.{CFile}
use Rattle.csub_tree.specs.declared.tree.CFunction.{CFunction}
use Rattle.csub_tree.specs.declared.tree.CStmt.{CStmt}
use Rattle.csub_runner.specs.declared.plain.Went.{Went}
use Rattle.csub_runner.specs.Heap.{with_field}
use Rattle.csub_runner.specs.Core.{Plainly}
use Rattle.csub_runner.proofs.Stands.{same_some}

-- a value that is a word
word_is : (v : Value) (n : ℤ) → word_of v ≡ Some n → v ≡ Word n
word_is (Word m) n e = ap Word (same_some e)
word_is Unset n e = absurd (cc)
word_is (Byte b) n e = absurd (cc)
word_is (Flag b) n e = absurd (cc)
word_is (Fun f) n e = absurd (cc)
word_is Null n e = absurd (cc)
word_is (Ptr m) n e = absurd (cc)
word_is (Static g) n e = absurd (cc)

pub binary_goes : (old new : Core) (a : ℕ) (op : CBinary) (x y : Value) (p q : ℤ) (went : Went) → word_of x ≡ Some p → word_of y ≡ Some q
    → Plainly (answered old a (binary_of op (Word p) (Word q))) went old new → Plainly (binary old a op x y) went old new
binary_goes old new a op x y p q went e f h =
    subst (λ v. Plainly (binary old a op v y) went old new) (sym (word_is x p e))
    (subst (λ v. Plainly (binary old a op (Word p) v) went old new) (sym (word_is y q f)) h)

-- a pointer to a block of this very struct
module _ (core : Core) (shapes : List Shape) (kind n : ℕ) (pointer : Value) (block : Block) (is : pointer ≡ Ptr n) (there : get_or core.blocks n None ≡ Some block) (same : block.kind ≡ kind)
    (itself : begins_with shapes kind kind ≡ true) where
  reached_own : ◌≡◌ {A = Result Block StuckReason} (reached core shapes kind pointer) (Ok block)
  reached_own = ap (reached core shapes kind) is ∙ ap (as_struct shapes kind) there ∙ ap (λ k. cond (begins_with shapes k kind) (Ok block) (Err Kind)) same ∙ ap (λ t. cond t (Ok block) (Err Kind)) itself

  pub get_goes : (new : Core) (a k : ℕ) (v : Value) (went : Went) → v ≡ read block.fields (place (shape_at shapes kind) k) → Plainly (set_var core a v) went core new
      → Plainly (get_field core shapes a kind pointer k) went core new
  get_goes new a k v went e h =
      subst (λ r. Plainly (on_block (λ b. set_var core a (read b.fields (place (shape_at shapes kind) k))) r) went core new) (sym reached_own)
      (subst (λ x. Plainly (set_var core a x) went core new) e h)

  pub set_goes : (k at : ℕ) (value : Value) (blocks : List (Option Block)) → is_unset value ≡ false → at ≡ place (shape_at shapes kind) k
      → blocks ≡ slice_set core.blocks n (option_map (with_field at value) (get_or core.blocks n None)) → set_field core shapes kind pointer k value ≡ Onward (record core { at = core.at + 1; blocks = blocks })
  set_goes k at value blocks isnt place_is e =
      ap (λ t. cond t (Stuck IsUnset) (on_block (λ b. stored core pointer (with_field (place (shape_at shapes kind) k) value b)) (reached core shapes kind pointer))) isnt
      ∙ ap (on_block (λ b. stored core pointer (with_field (place (shape_at shapes kind) k) value b))) reached_own
      ∙ ap (λ p. stored core p (with_field (place (shape_at shapes kind) k) value block)) is
      ∙ ap (λ bs. Onward (record core { at = core.at + 1; blocks = bs }))
      (ap (λ j. slice_set core.blocks n (Some (with_field j value block))) (sym place_is)
      ∙ ap (λ o. slice_set core.blocks n (option_map (with_field at value) o)) (sym there) ∙ sym e)

-- the statement at the machine's place
pub step_there : (file : CFile) (args : List (List ℕ)) (core new : Core) (stmt : CStmt) → Some stmt ≡ stmt_at file.functions core → does file args core stmt ≡ Onward new → step file args core ≡ Onward new
step_there file args core new stmt found e = ap (does_at file args core) (sym found) ∙ e

pub same_block : (functions : List CFunction) (old new : Core) (at : ℕ) → new.function ≡ old.function → new.block ≡ old.block
    → stmt_in (block_in (slice_get functions old.function) old.block) at ≡ stmt_in (block_in (slice_get functions new.function) new.block) at
same_block functions old new at f b =
    ap (λ n. stmt_in (block_in (slice_get functions n) old.block) at) (sym f) ∙ ap (λ n. stmt_in (block_in (slice_get functions new.function) n) at) (sym b)
