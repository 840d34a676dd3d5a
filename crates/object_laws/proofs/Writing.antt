-- An item of a block is written.
use Rattle.std.proofs.Common.{◌≡◌, ◌<◌, ◌≤◌, ℕ, ◌+◌, Bool, true, false, List, [], ◌∷◌, length, Some, None, pos, refl, ap, ◌∙◌, arith}
use Rattle.std.specs.Prelude.{slice_set, cond, nat_lt}
use Rattle.std.proofs.lemmas.Bool.Decides.{nat_tests}
use Rattle.csub_tree.specs.State.{Value, Word, Ptr, Static, Block, Core, Stuck}
use Rattle.csub_tree.specs.Layout.{shape_at, shape_over, place}
use Rattle.csub_tree.specs.Operation.{is_unset, word_of}
use Rattle.csub_tree.specs.Statement.{read, operand, on, on_block, reached, put_item, set_item, set_field, stored as stores}
use Rattle.csub_tree.specs.declared.stuck.StuckReason.TheVariants.{Outside, Unset as IsUnset}
use Rattle.csub_tree.specs.declared.tree.COperand.{COperand}
use Rattle.ll_code.specs.State.{Frame, At, Goes}
use Rattle.ll_code.specs.Machine.{step, goes_on, shapes_of}
use Rattle.ll_code.specs.declared.program.LlOp.{LlOp}
use Rattle.ll_code.specs.declared.program.LlOp.TheVariants as op
use Rattle.ll_code.specs.declared.program.LlExit.{LlExit}
use Rattle.ll_code.specs.declared.program.LlProgram.{LlProgram}
use Rattle.ll_held.specs.Held.{is_reference}
use Rattle.ll_leads.specs.Memory.{forgotten}
use Rattle.ll_leads.specs.Path.{Leads, Stay, Go, reference_in}
use Rattle.ll_texts.specs.Texts.{found}
use Rattle.lower_laws.proofs.Tupled.{place_is_own}
use Rattle.object_laws.proofs.Blocks.{reach_own}
use Rattle.object_laws.proofs.Changing.{Wrote, put_block, put_static, wrote_block, wrote_static}

-- the block is another, and nothing else
pub record Written (p : LlProgram) (args : List (List ℕ)) (most : ℕ) (o : LlOp) (ops : List LlOp) (e : LlExit) (frames : List Frame) (core : Core) (at : Value) (block : Block) : Type 0 where
  pub end : Core
  pub way : Leads p args most (At (o ∷ ops) e frames core) [] (At ops e frames end)
  pub wrote : Wrote core.blocks core.statics at block end.blocks end.statics
  pub blocks : end.blocks ≡ put_block at block core.blocks
  pub statics : end.statics ≡ put_static at block core.statics
  pub memory : forgotten end ≡ forgotten (record core { blocks = end.blocks; statics = end.statics })
  pub vars : end.vars ≡ core.vars
  pub function : end.function ≡ core.function
  pub block_at : end.block ≡ core.block

abbrev pub with_item : Block → ℕ → Value → Block
with_item block j value = record block { items = slice_set block.items j value }

at_most_one : (b : Bool) → cond b 1 0 ≤ 1
at_most_one true = omega arith
at_most_one false = omega arith

module _ (p : LlProgram) (args : List (List ℕ)) (ops : List LlOp) (e : LlExit) (frames : List Frame) (core : Core) (n b : ℕ) (i x : COperand) (k : ℕ) (block : Block) (j : ℕ) (value : Value)
    (shape : shape_at (shapes_of p.structs) n ≡ shape_over n k None) (kind : block.kind ≡ n) (place_is : operand core.vars i ≡ Word (pos j)) (inside : j < length block.items) (value_is : operand core.vars x ≡ value) (value_set : is_unset value ≡ false) where
  -- what it comes to where it stays in the block
  does : (y : Value) → read core.vars b ≡ y → found core.blocks core.statics y ≡ Some block → step p args (At (op.SetItem n b i x ∷ ops) e frames core) ≡ goes_on (At ops e frames) (stores core y (with_item block j value))
  does y at is =
      let inside_so : nat_lt j (length block.items) ≡ true = grind (arith, nat_tests, inside) in
      ap (λ y. goes_on (At ops e frames) (set_item core (shapes_of p.structs) n y (operand core.vars i) (operand core.vars x))) at
      ∙ ap (λ v. goes_on (At ops e frames) (set_item core (shapes_of p.structs) n y (operand core.vars i) v)) value_is
      ∙ ap (λ v. goes_on (At ops e frames) (set_item core (shapes_of p.structs) n y v value)) place_is
      ∙ ap (λ c. goes_on (At ops e frames) (cond c (Stuck IsUnset) (on (λ i. on_block (λ block. put_item core y block i value) (reached core (shapes_of p.structs) n y)) (word_of (Word (pos j)))))) value_set
      ∙ ap (λ r. goes_on (At ops e frames) (on_block (λ block. put_item core y block (pos j) value) r)) (reach_own p core y n k block shape is kind)
      ∙ ap (λ c. goes_on (At ops e frames) (cond c (stores core y (with_item block j value)) (Stuck Outside))) inside_so

  few : (end : Core) → step p args (At (op.SetItem n b i x ∷ ops) e frames core) ≡ Goes (At ops e frames end) → Leads p args 1 (At (op.SetItem n b i x ∷ ops) e frames core) [] (At ops e frames end)
  few end goes = (let h = at_most_one (is_reference (operand core.vars x)) in record { path = Go goes (Stay (At ops e frames end)); few = omega (arith, h) })

  pub writes_item : (y : Value) → read core.vars b ≡ y → found core.blocks core.statics y ≡ Some block → Written p args 1 (op.SetItem n b i x) ops e frames core y (with_item block j value)
  writes_item (Ptr m) at is = record {
    end = record core { at = core.at + 1; blocks = slice_set core.blocks m (Some (with_item block j value)) };
    way = few (record core { at = core.at + 1; blocks = slice_set core.blocks m (Some (with_item block j value)) }) (does (Ptr m) at is);
    wrote = wrote_block core.blocks core.statics m block (with_item block j value) is;
    blocks = refl;
    statics = refl;
    memory = refl;
    vars = refl;
    function = refl;
    block_at = refl;
  }
  writes_item (Static s) at is = record {
    end = record core { at = core.at + 1; statics = slice_set core.statics s (with_item block j value) };
    way = few (record core { at = core.at + 1; statics = slice_set core.statics s (with_item block j value) }) (does (Static s) at is);
    wrote = wrote_static core.blocks core.statics s block (with_item block j value) is;
    blocks = refl;
    statics = refl;
    memory = refl;
    vars = refl;
    function = refl;
    block_at = refl;
  }
  writes_item _ at is = absurd (cc)

-- ---- a field

abbrev pub other_field : Block → ℕ → Value → Block
other_field block j value = record block { fields = slice_set block.fields j value }

module _ (p : LlProgram) (args : List (List ℕ)) (ops : List LlOp) (e : LlExit) (frames : List Frame) (core : Core) (n b i : ℕ) (x : COperand) (k : ℕ) (block : Block) (value : Value)
    (shape : shape_at (shapes_of p.structs) n ≡ shape_over n k None) (kind : block.kind ≡ n) (value_is : operand core.vars x ≡ value) (value_set : is_unset value ≡ false) where
  field_does : (y : Value) → read core.vars b ≡ y → found core.blocks core.statics y ≡ Some block → step p args (At (op.SetField n b i x ∷ ops) e frames core) ≡ goes_on (At ops e frames) (stores core y (other_field block i value))
  field_does y at is =
      ap (λ y. goes_on (At ops e frames) (set_field core (shapes_of p.structs) n y i (operand core.vars x))) at
      ∙ ap (λ v. goes_on (At ops e frames) (set_field core (shapes_of p.structs) n y i v)) value_is
      ∙ ap (λ c. goes_on (At ops e frames) (cond c (Stuck IsUnset) (on_block (λ block. stores core y (record block { fields = slice_set block.fields (place (shape_at (shapes_of p.structs) n) i) value })) (reached core (shapes_of p.structs) n y)))) value_set
      ∙ ap (λ r. goes_on (At ops e frames) (on_block (λ block. stores core y (record block { fields = slice_set block.fields (place (shape_at (shapes_of p.structs) n) i) value })) r)) (reach_own p core y n k block shape is kind)
      ∙ ap (λ j. goes_on (At ops e frames) (stores core y (other_field block j value))) (place_is_own (shape_at (shapes_of p.structs) n) n k i shape)

  field_few : (end : Core) → step p args (At (op.SetField n b i x ∷ ops) e frames core) ≡ Goes (At ops e frames end) → Leads p args (reference_in value) (At (op.SetField n b i x ∷ ops) e frames core) [] (At ops e frames end)
  field_few end goes = (let h : reference_in (operand core.vars x) ≡ reference_in value = ap reference_in value_is in record { path = Go goes (Stay (At ops e frames end)); few = omega (arith, h) })

  pub writes_field : (y : Value) → read core.vars b ≡ y → found core.blocks core.statics y ≡ Some block → Written p args (reference_in value) (op.SetField n b i x) ops e frames core y (other_field block i value)
  writes_field (Ptr m) at is = record {
    end = record core { at = core.at + 1; blocks = slice_set core.blocks m (Some (other_field block i value)) };
    way = field_few (record core { at = core.at + 1; blocks = slice_set core.blocks m (Some (other_field block i value)) }) (field_does (Ptr m) at is);
    wrote = wrote_block core.blocks core.statics m block (other_field block i value) is;
    blocks = refl;
    statics = refl;
    memory = refl;
    vars = refl;
    function = refl;
    block_at = refl;
  }
  writes_field (Static s) at is = record {
    end = record core { at = core.at + 1; statics = slice_set core.statics s (other_field block i value) };
    way = field_few (record core { at = core.at + 1; statics = slice_set core.statics s (other_field block i value) }) (field_does (Static s) at is);
    wrote = wrote_static core.blocks core.statics s block (other_field block i value) is;
    blocks = refl;
    statics = refl;
    memory = refl;
    vars = refl;
    function = refl;
    block_at = refl;
  }
  writes_field _ at is = absurd (cc)
