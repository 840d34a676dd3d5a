-- Fields of blocks whose structs may begin with others.
use Rattle.std.proofs.Common.{◌≡◌, ℕ, ◌+◌, true, false, List, [], ◌∷◌, Some, Ok, Err, refl, ap, ◌∙◌, arith}
use Rattle.std.specs.Prelude.{slice_set, cond}
use Rattle.csub_tree.specs.State.{Value, Ptr, Static, Block, Core, Onward, Stuck}
use Rattle.csub_tree.specs.Layout.{shape_at, begins_with, place}
use Rattle.csub_tree.specs.Operation.{is_unset}
use Rattle.csub_tree.specs.Statement.{read, operand, block_at, as_struct, reached, on_block, set, set_field, stored as stores}
use Rattle.csub_tree.specs.declared.stuck.StuckReason.TheVariants.{Kind, Unset as IsUnset}
use Rattle.csub_tree.specs.declared.tree.COperand.{COperand}
use Rattle.ll_code.specs.State.{Frame, At, Goes}
use Rattle.ll_code.specs.Machine.{step, goes_on, shapes_of}
use Rattle.ll_code.specs.declared.program.LlOp.{LlOp}
use Rattle.ll_code.specs.declared.program.LlOp.TheVariants as op
use Rattle.ll_code.specs.declared.program.LlExit.{LlExit}
use Rattle.ll_code.specs.declared.program.LlProgram.{LlProgram}
use Rattle.ll_leads.specs.Path.{Leads, Stay, Go, reference_in}
use Rattle.ll_leads.proofs.Ways.{gets_field}
use Rattle.ll_texts.specs.Texts.{found}
use Rattle.ll_texts.proofs.Reading.{found_at}
use Rattle.lower_laws.proofs.Doing.{after}
use Rattle.object_laws.proofs.Blocks.{found_set}
use Rattle.object_laws.proofs.Changing.{wrote_block, wrote_static}
use Rattle.object_laws.proofs.Writing.{Written, other_field}

-- the block, seen as one of a struct that it begins with
pub reach_as : (p : LlProgram) (core : Core) (x : Value) (n : ℕ) (block : Block) → begins_with (shapes_of p.structs) block.kind n ≡ true → found core.blocks core.statics x ≡ Some block → reached core (shapes_of p.structs) n x ≡ Ok block
reach_as p core x n block begins is =
    ap (λ b. cond b (Err IsUnset) (as_struct (shapes_of p.structs) n (block_at core x))) (found_set core.blocks core.statics x block is)
    ∙ ap (as_struct (shapes_of p.structs) n) (found_at core x ∙ is)
    ∙ ap (λ b. cond b (Ok block) (Err Kind)) begins

-- ---- reading

module _ {p : LlProgram} {args : List (List ℕ)} {ops : List LlOp} {e : LlExit} {frames : List Frame} {core : Core} {a n b : ℕ} (block : Block) (value : Value)
    (begins : begins_with (shapes_of p.structs) block.kind n ≡ true) (is : found core.blocks core.statics (read core.vars b) ≡ Some block) (value_set : is_unset value ≡ false) where
  pub reads_part : (i j : ℕ) → place (shape_at (shapes_of p.structs) n) i ≡ j → read block.fields j ≡ value → Leads p args 0 (At (op.GetField a n b i ∷ ops) e frames core) [] (At ops e frames (after core a value))
  reads_part i j at there = gets_field value
      (ap (on_block (λ block. set core a (read block.fields (place (shape_at (shapes_of p.structs) n) i)))) (reach_as p core (read core.vars b) n block begins is)
      ∙ ap (λ j. set core a (read block.fields j)) at
      ∙ ap (set core a) there
      ∙ ap (λ c. cond c (Stuck IsUnset) (Onward (after core a value))) value_set)

-- ---- writing

module _ (p : LlProgram) (args : List (List ℕ)) (ops : List LlOp) (e : LlExit) (frames : List Frame) (core : Core) (n b i j : ℕ) (x : COperand) (block : Block) (value : Value)
    (begins : begins_with (shapes_of p.structs) block.kind n ≡ true) (at : place (shape_at (shapes_of p.structs) n) i ≡ j) (value_is : operand core.vars x ≡ value) (value_set : is_unset value ≡ false) where
  does : (y : Value) → read core.vars b ≡ y → found core.blocks core.statics y ≡ Some block → step p args (At (op.SetField n b i x ∷ ops) e frames core) ≡ goes_on (At ops e frames) (stores core y (other_field block j value))
  does y there is =
      ap (λ y. goes_on (At ops e frames) (set_field core (shapes_of p.structs) n y i (operand core.vars x))) there
      ∙ ap (λ v. goes_on (At ops e frames) (set_field core (shapes_of p.structs) n y i v)) value_is
      ∙ ap (λ c. goes_on (At ops e frames) (cond c (Stuck IsUnset) (on_block (λ block. stores core y (record block { fields = slice_set block.fields (place (shape_at (shapes_of p.structs) n) i) value })) (reached core (shapes_of p.structs) n y)))) value_set
      ∙ ap (λ r. goes_on (At ops e frames) (on_block (λ block. stores core y (record block { fields = slice_set block.fields (place (shape_at (shapes_of p.structs) n) i) value })) r)) (reach_as p core y n block begins is)
      ∙ ap (λ j. goes_on (At ops e frames) (stores core y (other_field block j value))) at

  few : (end : Core) → step p args (At (op.SetField n b i x ∷ ops) e frames core) ≡ Goes (At ops e frames end) → Leads p args (reference_in value) (At (op.SetField n b i x ∷ ops) e frames core) [] (At ops e frames end)
  few end goes = (let h : reference_in (operand core.vars x) ≡ reference_in value = ap reference_in value_is in record { path = Go goes (Stay (At ops e frames end)); few = omega (arith, h) })

  pub writes_part : (y : Value) → read core.vars b ≡ y → found core.blocks core.statics y ≡ Some block → Written p args (reference_in value) (op.SetField n b i x) ops e frames core y (other_field block j value)
  writes_part (Ptr m) there is = record {
    end = record core { at = core.at + 1; blocks = slice_set core.blocks m (Some (other_field block j value)) };
    way = few (record core { at = core.at + 1; blocks = slice_set core.blocks m (Some (other_field block j value)) }) (does (Ptr m) there is);
    wrote = wrote_block core.blocks core.statics m block (other_field block j value) is;
    blocks = refl;
    statics = refl;
    memory = refl;
    vars = refl;
    function = refl;
    block_at = refl;
  }
  writes_part (Static s) there is = record {
    end = record core { at = core.at + 1; statics = slice_set core.statics s (other_field block j value) };
    way = few (record core { at = core.at + 1; statics = slice_set core.statics s (other_field block j value) }) (does (Static s) there is);
    wrote = wrote_static core.blocks core.statics s block (other_field block j value) is;
    blocks = refl;
    statics = refl;
    memory = refl;
    vars = refl;
    function = refl;
    block_at = refl;
  }
  writes_part _ there is = absurd (cc)
