-- An item at a place that is there is read: the array first, and the item of that.
use Rattle.std.proofs.Common.{◌≡◌, ◌<◌, ℕ, ◌+◌, true, false, List, [], ◌∷◌, ◌++◌, length, Option, Some, pos, refl, sym, ◌∙◌, subst, arith}
use Rattle.std.specs.Prelude.{slice_get}
use Rattle.std.proofs.lemmas.List.{length-set}
use Rattle.ann_element.specs.declared.element.Element.{Element}
use Rattle.csub_tree.specs.State.{Value, Word, Core}
use Rattle.csub_tree.specs.Operation.{is_unset}
use Rattle.csub_tree.specs.Statement.{read, operand}
use Rattle.csub_tree.specs.declared.tree.COperand.{COperand}
use Rattle.csub_tree.specs.declared.tree.COperand.TheVariants.{Var, Const}
use Rattle.rpy_tree.specs.Value.{Value as Meant, Heap}
use Rattle.ll_code.specs.State.{Frame, At}
use Rattle.ll_code.specs.declared.program.LlOp.{LlOp}
use Rattle.ll_code.specs.declared.program.LlOp.TheVariants as op
use Rattle.ll_code.specs.declared.program.LlExit.{LlExit}
use Rattle.ll_code.specs.declared.program.LlProgram.{LlProgram}
use Rattle.ll_leads.specs.Path.{Leads}
use Rattle.ll_leads.proofs.Ways.{on}
use Rattle.ll_texts.specs.Texts.{found}
use Rattle.rtyper_layout.specs.declared.layout.Layout.{Layout}
use Rattle.rtyper_layout.specs.Layout.{is_list}
use Rattle.rtyper_layout.specs.Types.{word}
use Rattle.lower_laws.specs.Values.{IsBelow}
use Rattle.lower_laws.proofs.Doing.{after}
use Rattle.object_laws.specs.Known.{Known}
use Rattle.object_laws.specs.Done.{HasLayout}
use Rattle.object_laws.specs.Ghost.{Ghost}
use Rattle.object_laws.specs.Represents.{Represents, ListAt, head_block, array_block}
use Rattle.object_laws.specs.Values.{Holds}
use Rattle.object_laws.proofs.Blocks.{found_set, reads_field, reads_item}
use Rattle.object_laws.proofs.Passing.{is_set_at, is_kept_at}
use Rattle.object_laws.proofs.Valued.{each_at, held_set}

-- of an operand, where another variable is set
other_kept : (core : Core) (m : ℕ) (value : Value) (x : COperand) → IsBelow m x → operand (after core m value).vars x ≡ operand core.vars x
other_kept core m value (Var v) h = is_kept_at core m v value (λ q. omega (arith, h, q))
other_kept core m value (Const c) h = refl

-- what the ways to an item have
pub record Fetched (p : LlProgram) (arguments : List (List ℕ)) (layout : Layout) (known : Known) (seen : Option Element) (g : Ghost) (n x m k : ℕ) (at : COperand) (array : Value) (v : Meant) (rest : List LlOp) (e : LlExit) (frames : List Frame) (core : Core) : Type 0 where
  pub value : Value
  pub set : is_unset value ≡ false
  pub held : Holds layout known g seen value v
  pub way : Leads p arguments 0 (At (op.GetField m n x 1 ∷ op.GetItem k (word (n + 1)) m at ∷ rest) e frames core) [] (At rest e frames (after (after core m array) k value))
  pub is : read (after (after core m array) k value).vars k ≡ value

module _ {p : LlProgram} {arguments : List (List ℕ)} {layout : Layout} {known : Known} {g : Ghost} {heap : Heap} {left n i : ℕ} {head : Value} {rest : List LlOp} {e : LlExit} {frames : List Frame} {core : Core}
    (structs : HasLayout p layout) (struct : is_list layout n ≡ true) (stands : Represents layout known g heap left core.blocks core.statics) (here : ListAt layout known g heap left core.blocks core.statics n i head) where
  pub fetched : (x m k : ℕ) (at : COperand) (place : ℕ) (v : Meant) → read core.vars x ≡ head → operand core.vars at ≡ Word (pos place) → IsBelow m at → m < k → k < length core.vars → slice_get here.items place ≡ Some v
      → Fetched p arguments layout known (known.items n) g n x m k at here.array v rest e frames core
  fetched x m k at place v head_at place_at before order wide there =
      let it = each_at here.spare place v here.each there in
      let value_set : is_unset it.value ≡ false = held_set stands it.held in
      let core1 : Core = after core m here.array in
      let long : length core1.vars ≡ length core.vars = length-set core.vars m here.array in
      let array_at : read core1.vars m ≡ here.array = is_set_at core m here.array (omega (arith, order, wide)) in
      let way1 : Leads p arguments 0 (At (op.GetField m n x 1 ∷ op.GetItem k (word (n + 1)) m at ∷ rest) e frames core) [] (At (op.GetItem k (word (n + 1)) m at ∷ rest) e frames core1) =
      reads_field 2 (head_block n (length here.items) here.array) here.array (structs.heads n struct) (subst (λ y. found core.blocks core.statics y ≡ Some (head_block n (length here.items) here.array)) (sym head_at) here.head_is) refl
      (found_set core.blocks core.statics here.array _ here.array_is) 1 refl in
      let way2 : Leads p arguments 0 (At (op.GetItem k (word (n + 1)) m at ∷ rest) e frames core1) [] (At rest e frames (after core1 k it.value)) =
      reads_item 1 (array_block n (here.values ++ here.spare)) it.value (structs.arrays n struct) (subst (λ y. found core.blocks core.statics y ≡ Some (array_block n (here.values ++ here.spare))) (sym array_at) here.array_is) refl value_set
      place (other_kept core m here.array at before ∙ place_at) it.inside it.low in
      record {
        value = it.value;
        set = value_set;
        held = it.held;
        way = on way1 way2;
        is = is_set_at core1 k it.value (omega (arith, wide, long));
      }
