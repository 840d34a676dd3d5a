-- An item of a block is written, and how many references that writes.
use Rattle.std.proofs.Common.{◌≡◌, ◌<◌, ◌≤◌, ℕ, zero, suc, ◌+◌, true, false, List, [], ◌∷◌, length, Option, Some, None, pos, refl, sym, ap, ◌∙◌, arith}
use Rattle.std.specs.Prelude.{cond, nat_lt, slice_get, slice_set, slice_index_or}
use Rattle.std.proofs.lemmas.Bool.Decides.{nat_tests}
use Rattle.csub_tree.specs.State.{Value, Word, Ptr, Static, Block, Core, Stuck}
use Rattle.csub_tree.specs.Layout.{shape_at, shape_over, place}
use Rattle.csub_tree.specs.Operation.{is_unset, word_of}
use Rattle.csub_tree.specs.Statement.{read, operand, on, on_block, reached, put_item, set_item, set_field, stored as stores}
use Rattle.csub_tree.specs.declared.stuck.StuckReason.TheVariants.{Outside, Unset as IsUnset}
use Rattle.csub_tree.specs.declared.tree.COperand.{COperand}
use Rattle.ll_code.specs.State.{Frame, At, Goes}
use Rattle.ll_code.specs.Machine.{step, goes_on, shapes_of}
use Rattle.ll_code.specs.declared.program.LlOp.{LlOp}
use Rattle.ll_code.specs.declared.program.LlOp.TheVariants as op
use Rattle.ll_code.specs.declared.program.LlExit.{LlExit}
use Rattle.ll_code.specs.declared.program.LlProgram.{LlProgram}
use Rattle.ll_leads.specs.Memory.{forgotten}
use Rattle.ll_leads.specs.Path.{Leads, Stay, Go, reference_in}
use Rattle.ll_texts.specs.Texts.{found}
use Rattle.object_laws.proofs.Blocks.{reach_own}
use Rattle.object_laws.proofs.Changing.{put_block, put_static}
use Rattle.lower_laws.proofs.Tupled.{place_is_own}
use Rattle.object_laws.proofs.Writing.{with_item, other_field}

pub at_most_one : (y : Value) → reference_in y ≤ 1
at_most_one (Ptr n) = omega arith
at_most_one (Static n) = omega arith
at_most_one _ = omega arith

-- the core in which a pointer names this block
abbrev pub put : Core → Value → Block → Core
put core y block = record core { blocks = put_block y block core.blocks; statics = put_static y block core.statics }

abbrev pub array_of : ℕ → List Value → List Value → Block
array_of a fields items = record { kind = a; fields = fields; items = items }

module _ (p : LlProgram) (args : List (List ℕ)) (ops : List LlOp) (e : LlExit) (frames : List Frame) (core : Core) (n b : ℕ) (i x : COperand) (k : ℕ) (block : Block) (j : ℕ) (value : Value)
    (shape : shape_at (shapes_of p.structs) n ≡ shape_over n k None) (kind : block.kind ≡ n) (place_is : operand core.vars i ≡ Word (pos j)) (inside : j < length block.items) (value_is : operand core.vars x ≡ value) (value_set : is_unset value ≡ false) where
  abbrev pub then : Value → Core
  then y = record core { at = core.at + 1; blocks = put_block y (with_item block j value) core.blocks; statics = put_static y (with_item block j value) core.statics }

  does : (y : Value) → read core.vars b ≡ y → found core.blocks core.statics y ≡ Some block → step p args (At (op.SetItem n b i x ∷ ops) e frames core) ≡ goes_on (At ops e frames) (stores core y (with_item block j value))
  does y at is =
      let inside_so : nat_lt j (length block.items) ≡ true = grind (arith, nat_tests, inside) in
      ap (λ y. goes_on (At ops e frames) (set_item core (shapes_of p.structs) n y (operand core.vars i) (operand core.vars x))) at
      ∙ ap (λ v. goes_on (At ops e frames) (set_item core (shapes_of p.structs) n y (operand core.vars i) v)) value_is
      ∙ ap (λ v. goes_on (At ops e frames) (set_item core (shapes_of p.structs) n y v value)) place_is
      ∙ ap (λ c. goes_on (At ops e frames) (cond c (Stuck IsUnset) (on (λ i. on_block (λ block. put_item core y block i value) (reached core (shapes_of p.structs) n y)) (word_of (Word (pos j)))))) value_set
      ∙ ap (λ r. goes_on (At ops e frames) (on_block (λ block. put_item core y block (pos j) value) r)) (reach_own p core y n k block shape is kind)
      ∙ ap (λ c. goes_on (At ops e frames) (cond c (stores core y (with_item block j value)) (Stuck Outside))) inside_so

  goes_there : (y : Value) → found core.blocks core.statics y ≡ Some block → goes_on (At ops e frames) (stores core y (with_item block j value)) ≡ Goes (At ops e frames (then y))
  goes_there (Ptr m) is = refl
  goes_there (Static s) is = refl
  goes_there _ is = absurd (cc)

  pub puts_item : (y : Value) → read core.vars b ≡ y → found core.blocks core.statics y ≡ Some block → Leads p args (reference_in value) (At (op.SetItem n b i x ∷ ops) e frames core) [] (At ops e frames (then y))
  puts_item y at is = (let h : reference_in (operand core.vars x) ≡ reference_in value = ap reference_in value_is in record { path = Go (does y at is ∙ goes_there y is) (Stay (At ops e frames (then y))); few = omega (arith, h) })

-- ---- a field

module _ (p : LlProgram) (args : List (List ℕ)) (ops : List LlOp) (e : LlExit) (frames : List Frame) (core : Core) (n b i : ℕ) (x : COperand) (k : ℕ) (block : Block) (value : Value)
    (shape : shape_at (shapes_of p.structs) n ≡ shape_over n k None) (kind : block.kind ≡ n) (value_is : operand core.vars x ≡ value) (value_set : is_unset value ≡ false) where
  abbrev pub field_then : Value → Core
  field_then y = record core { at = core.at + 1; blocks = put_block y (other_field block i value) core.blocks; statics = put_static y (other_field block i value) core.statics }

  field_does : (y : Value) → read core.vars b ≡ y → found core.blocks core.statics y ≡ Some block → step p args (At (op.SetField n b i x ∷ ops) e frames core) ≡ goes_on (At ops e frames) (stores core y (other_field block i value))
  field_does y at is =
      ap (λ y. goes_on (At ops e frames) (set_field core (shapes_of p.structs) n y i (operand core.vars x))) at
      ∙ ap (λ v. goes_on (At ops e frames) (set_field core (shapes_of p.structs) n y i v)) value_is
      ∙ ap (λ c. goes_on (At ops e frames) (cond c (Stuck IsUnset) (on_block (λ block. stores core y (record block { fields = slice_set block.fields (place (shape_at (shapes_of p.structs) n) i) value })) (reached core (shapes_of p.structs) n y)))) value_set
      ∙ ap (λ r. goes_on (At ops e frames) (on_block (λ block. stores core y (record block { fields = slice_set block.fields (place (shape_at (shapes_of p.structs) n) i) value })) r)) (reach_own p core y n k block shape is kind)
      ∙ ap (λ j. goes_on (At ops e frames) (stores core y (other_field block j value))) (place_is_own (shape_at (shapes_of p.structs) n) n k i shape)

  field_goes : (y : Value) → found core.blocks core.statics y ≡ Some block → goes_on (At ops e frames) (stores core y (other_field block i value)) ≡ Goes (At ops e frames (field_then y))
  field_goes (Ptr m) is = refl
  field_goes (Static s) is = refl
  field_goes _ is = absurd (cc)

  pub puts_field : (y : Value) → read core.vars b ≡ y → found core.blocks core.statics y ≡ Some block → Leads p args (reference_in value) (At (op.SetField n b i x ∷ ops) e frames core) [] (At ops e frames (field_then y))
  puts_field y at is = (let h : reference_in (operand core.vars x) ≡ reference_in value = ap reference_in value_is in record { path = Go (field_does y at is ∙ field_goes y is) (Stay (At ops e frames (field_then y))); few = omega (arith, h) })

-- ---- what is written twice

set_twice : {A : Type 0} (xs : List A) (n : ℕ) (x y : A) → slice_set (slice_set xs n x) n y ≡ slice_set xs n y
set_twice [] n x y = refl
set_twice (z ∷ xs) zero x y = refl
set_twice (z ∷ xs) (suc n) x y = ap (λ l. z ∷ l) (set_twice xs n x y)

set_there : (bs : List (Option Block)) (n : ℕ) (b : Block) → slice_index_or bs n None ≡ Some b → slice_set bs n (Some b) ≡ bs
set_there [] n b h = refl
set_there (x ∷ bs) zero b h = ap (λ y. y ∷ bs) (sym h)
set_there (x ∷ bs) (suc n) b h = ap (λ l. x ∷ l) (set_there bs n b h)

set_same : (bs : List Block) (n : ℕ) (b : Block) → slice_get bs n ≡ Some b → slice_set bs n b ≡ bs
set_same [] n b h = refl
set_same (x ∷ bs) zero b h = (let q : x ≡ b = cc in ap (λ y. y ∷ bs) (sym q))
set_same (x ∷ bs) (suc n) b h = ap (λ l. x ∷ l) (set_same bs n b h)

pub put_blocks_twice : (y : Value) (b c : Block) (bs : List (Option Block)) → put_block y c (put_block y b bs) ≡ put_block y c bs
put_blocks_twice (Ptr n) b c bs = set_twice bs n (Some b) (Some c)
put_blocks_twice _ b c bs = refl

pub put_statics_twice : (y : Value) (b c : Block) (ss : List Block) → put_static y c (put_static y b ss) ≡ put_static y c ss
put_statics_twice (Static s) b c ss = set_twice ss s b c
put_statics_twice _ b c ss = refl

pub put_block_there : (y : Value) (b : Block) (bs : List (Option Block)) (ss : List Block) → found bs ss y ≡ Some b → put_block y b bs ≡ bs
put_block_there (Ptr n) b bs ss h = set_there bs n b h
put_block_there _ b bs ss h = refl

pub put_static_there : (y : Value) (b : Block) (bs : List (Option Block)) (ss : List Block) → found bs ss y ≡ Some b → put_static y b ss ≡ ss
put_static_there (Static s) b bs ss h = set_same ss s b h
put_static_there _ b bs ss h = refl

pub put_twice : (core : Core) (y : Value) (b c : Block) → forgotten (put (put core y b) y c) ≡ forgotten (put core y c)
put_twice core y b c = ap (λ bs. forgotten (record core { blocks = bs; statics = put_static y c (put_static y b core.statics) })) (put_blocks_twice y b c core.blocks) ∙ ap (λ ss. forgotten (record core { blocks = put_block y c core.blocks; statics = ss })) (put_statics_twice y b c core.statics)

pub put_there : (core : Core) (y : Value) (b : Block) → found core.blocks core.statics y ≡ Some b → forgotten (put core y b) ≡ forgotten core
put_there core y b h = ap (λ bs. forgotten (record core { blocks = bs; statics = put_static y b core.statics })) (put_block_there y b core.blocks core.statics h) ∙ ap (λ ss. forgotten (record core { statics = ss })) (put_static_there y b core.blocks core.statics h)
