-- Fields and items through a pointer.
use Rattle.std.proofs.Common.{◌≡◌, ℕ, zero, suc, ◌+◌, min, List, [], ◌∷◌, length, get_or, set, refl, sym, ap, ◌∙◌, Some, None, Ok, Err, subst, Bool, true, false, cond, pos, negsuc}
use Rattle.std.specs.Prelude.{Option, Result, slice_get, ℤ, nat_lt}
use Rattle.std.proofs.lemmas.List.{length-map}
use Rattle.csub_tree.specs.State.{Value, Block, Core, Stuck}
use Rattle.csub_tree.specs.Operation.{is_unset, word_of}
use Rattle.csub_tree.specs.Layout.{Shape, shape_at, place, begins_with}
use Rattle.csub_tree.specs.Statement.{read, block_at, as_struct, reached, on_block, on, stored, set as set_var, get_field, get_item, item, set_field, set_item, put_item}
use Rattle.csub_tree.specs.declared.stuck.StuckReason.{StuckReason}
use Rattle.csub_tree.specs.declared.stuck.StuckReason.TheVariants.{Kind, Outside, Unset as IsUnset}
use Rattle.csub_runner.specs.Erased.{erase, erase_all}
use Rattle.csub_runner.specs.Heap.{at_static, with_field, with_item, index_at}
use Rattle.csub_runner.specs.Core.{IsStep}
use Rattle.csub_runner.specs.declared.machine.Next.{Next}
use Rattle.csub_runner.specs.declared.machine.Next.TheVariants.{Goes}
use Rattle.csub_runner.specs.declared.val.Val.{Val}
use Rattle.csub_runner.specs.declared.val.Val.TheVariants.{Unset as RawUnset, Static as RawStatic}
use Rattle.csub_runner.proofs.Blocks.{read_erased}
use Rattle.csub_runner.proofs.Shapes.{get_min, set_min}
use Rattle.csub_runner.proofs.Stands.{same_some}

at_static_is : (f : Block → Block) (statics : List Block) (g : ℕ) (block : Block) → slice_get statics g ≡ Some block → at_static f g statics ≡ set statics g (f block)
at_static_is f [] g block e = refl
at_static_is f (s ∷ statics) zero block e = ap (λ b. f b ∷ statics) (same_some e)
at_static_is f (s ∷ statics) (suc g) block e = ap (λ bs. s ∷ bs) (at_static_is f statics g block e)

pub static_step : (core new : Core) (g : ℕ) (f : Block → Block) (v : Val) (statics : List Block) → v ≡ RawStatic g → statics ≡ at_static f g core.statics
    → new ≡ record core { at = core.at + 1; statics = statics } → (block : Block) → block_at core (erase v) ≡ Some block → IsStep core (stored core (erase v) (f block)) Goes new
static_step core new g f v statics e is now block found =
    subst (λ u. block_at core (erase u) ≡ Some block → IsStep core (stored core (erase u) (f block)) Goes new) (sym e)
    (λ there. (refl, now ∙ ap (λ ss. record core { at = core.at + 1; statics = ss }) (is ∙ at_static_is f core.statics g block there))) found

module _ (core : Core) (shapes : List Shape) (kind : ℕ) (pointer : Value) (block : Block) where
  kind_by : (b : Block) (t : Bool) → ◌≡◌ {A = Result Block StuckReason} (cond t (Ok b) (Err Kind)) (Ok block) → ◌≡◌ {A = Option Block} (Some b) (Some block)
  kind_by b true e = cc
  kind_by b false e = absurd (cc)

  reached_by : (t : Bool) (o : Option Block) → ◌≡◌ {A = Result Block StuckReason} (cond t (Err IsUnset) (as_struct shapes kind o)) (Ok block) → o ≡ Some block
  reached_by true o e = absurd (cc)
  reached_by false None e = absurd (cc)
  reached_by false (Some b) e = kind_by b (begins_with shapes b.kind kind) e

  pub reached_block : reached core shapes kind pointer ≡ Ok block → block_at core pointer ≡ Some block
  reached_block e = reached_by (is_unset pointer) (block_at core pointer) e

  module _ (found : Ok block ≡ reached core shapes kind pointer) (next : Next) (new : Core) where
    pub get_field_is : (a k : ℕ) (v : Val) → erase v ≡ read block.fields (place (shape_at shapes kind) k) → IsStep core (set_var core a (erase v)) next new
        → IsStep core (get_field core shapes a kind pointer k) next new
    get_field_is a k v is step =
        subst (λ r. IsStep core (on_block (λ b. set_var core a (read b.fields (place (shape_at shapes kind) k))) r) next new) found
        (subst (λ x. IsStep core (set_var core a x) next new) is step)

    pub set_field_is : (k at : ℕ) (value : Value) (t : Bool) → t ≡ is_unset value → t ≡ false → at ≡ min (place (shape_at shapes kind) k) (length block.fields)
        → ((b : Block) → block_at core pointer ≡ Some b → IsStep core (stored core pointer (with_field at value b)) next new) → IsStep core (set_field core shapes kind pointer k value) next new
    set_field_is k at value t unset isnt is step =
        subst (λ u. IsStep core (cond u (Stuck IsUnset) (on_block (λ b. stored core pointer (record b { fields = set b.fields (place (shape_at shapes kind) k) value })) (reached core shapes kind pointer))) next new) (sym isnt ∙ unset)
        (subst (λ r. IsStep core (on_block (λ b. stored core pointer (record b { fields = set b.fields (place (shape_at shapes kind) k) value })) r) next new) found
        (subst (λ vs. IsStep core (stored core pointer (record block { fields = vs })) next new) (ap (λ j. set block.fields j value) is ∙ set_min block.fields (place (shape_at shapes kind) k) value)
        (step block (reached_block (sym found)))))

    get_by : (a : ℕ) (v : Val) (i at : ℕ) (t : Bool) → cond t (Some i) None ≡ Some at → erase v ≡ read block.items at → IsStep core (set_var core a (erase v)) next new
        → IsStep core (cond t (set_var core a (read block.items i)) (Stuck Outside)) next new
    get_by a v i at true e is step = subst (λ x. IsStep core (set_var core a x) next new) (is ∙ ap (read block.items) (sym (same_some e))) step
    get_by a v i at false e is step = absurd (cc)

    get_at : (a : ℕ) (v : Val) (i : ℤ) (at : ℕ) → index_at i (length block.items) ≡ Some at → erase v ≡ read block.items at → IsStep core (set_var core a (erase v)) next new
        → IsStep core (item core a block.items i) next new
    get_at a v (pos i) at e is step = get_by a v i at (nat_lt i (length block.items)) e is step
    get_at a v (negsuc i) at e is step = absurd (cc)

    pub get_item_is : (index : Value) (a : ℕ) (v : Val) (i : ℤ) (at : ℕ) → Some i ≡ word_of index → index_at i (length block.items) ≡ Some at → erase v ≡ read block.items at
        → IsStep core (set_var core a (erase v)) next new → IsStep core (get_item core shapes a kind pointer index) next new
    get_item_is index a v i at word e is step =
        subst (λ o. IsStep core (on (λ j. on_block (λ b. item core a b.items j) (reached core shapes kind pointer)) o) next new) word
        (subst (λ r. IsStep core (on_block (λ b. item core a b.items i) r) next new) found
        (get_at a v i at e is step))

    put_by : (i at : ℕ) (value : Value) (t : Bool) → cond t (Some i) None ≡ Some at → IsStep core (stored core pointer (with_item at value block)) next new
        → IsStep core (cond t (stored core pointer (with_item i value block)) (Stuck Outside)) next new
    put_by i at value true e step = subst (λ j. IsStep core (stored core pointer (with_item j value block)) next new) (sym (same_some e)) step
    put_by i at value false e step = absurd (cc)

    put_at : (i : ℤ) (at : ℕ) (value : Value) → index_at i (length block.items) ≡ Some at → ((b : Block) → block_at core pointer ≡ Some b → IsStep core (stored core pointer (with_item at value b)) next new)
        → IsStep core (put_item core pointer block i value) next new
    put_at (pos i) at value e step = put_by i at value (nat_lt i (length block.items)) e (step block (reached_block (sym found)))
    put_at (negsuc i) at value e step = absurd (cc)

    pub set_item_is : (index : Value) (i : ℤ) (at : ℕ) (value : Value) (t : Bool) → t ≡ is_unset value → t ≡ false → Some i ≡ word_of index → index_at i (length block.items) ≡ Some at
        → ((b : Block) → block_at core pointer ≡ Some b → IsStep core (stored core pointer (with_item at value b)) next new) → IsStep core (set_item core shapes kind pointer index value) next new
    set_item_is index i at value t unset isnt word e step =
        subst (λ u. IsStep core (cond u (Stuck IsUnset) (on (λ j. on_block (λ b. put_item core pointer b j value) (reached core shapes kind pointer)) (word_of index))) next new) (sym isnt ∙ unset)
        (subst (λ o. IsStep core (on (λ j. on_block (λ b. put_item core pointer b j value) (reached core shapes kind pointer)) o) next new) word
        (subst (λ r. IsStep core (on_block (λ b. put_item core pointer b i value) r) next new) found
        (put_at i at value e step)))

pub field_read : (xs : List Val) (p : ℕ) → erase (get_or xs (min p (length xs)) RawUnset) ≡ read (erase_all xs) p
field_read xs p = ap erase (get_min xs p RawUnset) ∙ read_erased xs p

pub erased_length : (xs : List Val) → length (erase_all xs) ≡ length xs
erased_length xs = length-map xs erase
