-- The graph that makes a list of so many items, which are still to be set.
use Rattle.std.proofs.Common.{◌≡◌, ℕ, ◌+◌, false, List, [], ◌∷◌, ◌++◌, length, Option, Some, None, pos, refl, ap, ◌∙◌, arith}
use Rattle.std.specs.Prelude.{slice_get, slice_set, slice_index_or, cond, replicate}
use Rattle.csub_tree.specs.State.{Value, Unset, Word, Ptr, Block, Core, Made, Onward, Stuck}
use Rattle.csub_tree.specs.Layout.{Shape, shape_at, shape_over, place}
use Rattle.csub_tree.specs.Operation.{is_unset}
use Rattle.csub_tree.specs.Statement.{read, operand, on_block, reached, set_field, stored as stores}
use Rattle.csub_tree.specs.declared.stuck.StuckReason.TheVariants.{Unset as IsUnset}
use Rattle.csub_tree.specs.declared.tree.COperand.{COperand}
use Rattle.ll_code.specs.State.{Frame, Calling, At, Goes, Tells}
use Rattle.ll_code.specs.Machine.{step, goes_on, shapes_of}
use Rattle.ll_code.specs.declared.program.LlOp.{LlOp}
use Rattle.ll_code.specs.declared.program.LlOp.TheVariants as op
use Rattle.ll_code.specs.declared.program.LlExit.{LlExit}
use Rattle.ll_code.specs.declared.program.LlProgram.{LlProgram}
use Rattle.ll_leads.specs.Path.{Leads, Stay, Go, reference_in}
use Rattle.ll_leads.proofs.Joined.{leads_then, leads_more}
use Rattle.ll_leads.proofs.Ways.{tell, many, enter, makes}
use Rattle.ll_texts.proofs.Writing.{newest, put_newest}
use Rattle.rtyper_layout.specs.declared.layout.Layout.{Layout}
use Rattle.rtyper_layout.specs.Types.{word}
use Rattle.list_shape.specs.Shapes.{shape_of}
use Rattle.list_loops.specs.Making.{make, make_given}
use Rattle.lower_laws.proofs.Tupled.{place_is_own}
use Rattle.object_laws.specs.Represents.{head_block}
use Rattle.object_laws.proofs.Blocks.{reach_own}
use Rattle.object_laws.proofs.Calling.{Returns}

-- ---- the newest block

abbrev pub with_field : Block → ℕ → Value → Block
with_field block i v = record block { fields = slice_set block.fields i v }

module _ {p : LlProgram} {args : List (List ℕ)} {ops : List LlOp} {e : LlExit} {frames : List Frame} {core : Core} where
  -- a field of it is set
  pub writes_newest : {n b i : ℕ} {x : COperand} (k : ℕ) (bs : List (Option Block)) (block : Block) (v : Value) → shape_at (shapes_of p.structs) n ≡ shape_over n k None → block.kind ≡ n → core.blocks ≡ bs ++ Some block ∷ [] → read core.vars b ≡ Ptr (length bs)
      → operand core.vars x ≡ v → is_unset v ≡ false → Leads p args (reference_in v) (At (op.SetField n b i x ∷ ops) e frames core) [] (At ops e frames (record core { at = core.at + 1; blocks = bs ++ Some (with_field block i v) ∷ [] }))
  writes_newest {n = n} {b = b} {i = i} {x = x} k bs block v shape kind is at value set =
      let does : set_field core (shapes_of p.structs) n (read core.vars b) i (operand core.vars x) ≡ Onward (record core { at = core.at + 1; blocks = bs ++ Some (with_field block i v) ∷ [] }) =
      ap (λ y. set_field core (shapes_of p.structs) n y i (operand core.vars x)) at
      ∙ ap (λ y. set_field core (shapes_of p.structs) n (Ptr (length bs)) i y) value
      ∙ ap (λ c. cond c (Stuck IsUnset) (on_block (λ block. stores core (Ptr (length bs)) (record block { fields = slice_set block.fields (place (shape_at (shapes_of p.structs) n) i) v })) (reached core (shapes_of p.structs) n (Ptr (length bs))))) set
      ∙ ap (on_block (λ block. stores core (Ptr (length bs)) (record block { fields = slice_set block.fields (place (shape_at (shapes_of p.structs) n) i) v })))
      (reach_own p core (Ptr (length bs)) n k block shape (ap (λ l. slice_index_or l (length bs) None) is ∙ newest bs (Some block) None) kind)
      ∙ ap (λ j. stores core (Ptr (length bs)) (with_field block j v)) (place_is_own (shape_at (shapes_of p.structs) n) n k i shape)
      ∙ ap (λ l. Onward (record core { at = core.at + 1; blocks = l })) (ap (λ l. slice_set l (length bs) (Some (with_field block i v))) is ∙ put_newest bs (Some block) (Some (with_field block i v))) in
      let goes : step p args (At (op.SetField n b i x ∷ ops) e frames core) ≡ Goes (At ops e frames (record core { at = core.at + 1; blocks = bs ++ Some (with_field block i v) ∷ [] })) = ap (goes_on (At ops e frames)) does in
      let same : reference_in (operand core.vars x) ≡ reference_in v = ap reference_in value in
      record { path = Go goes (Stay (At ops e frames (record core { at = core.at + 1; blocks = bs ++ Some (with_field block i v) ∷ [] }))); few = omega (arith, same) }

  -- one without items is made
  pub makes_plain : {a c n : ℕ} (k : ℕ) → shape_at (shapes_of p.structs) n ≡ shape_over n k None → Leads p args 0 (At (op.New a c n ∷ ops) e frames core) [] (At ops e frames (record core {
    at = core.at + 1;
    vars = slice_set core.vars a (Ptr (length core.blocks));
    blocks = core.blocks ++ Some (record { kind = n; fields = replicate k Unset; items = [] }) ∷ [];
  }))
  makes_plain {a = a} {n = n} k h = tell (ap (λ (s : Shape). Tells (Made (length core.blocks) n (s.size + 0)) (At ops e frames (record core {
    at = core.at + 1;
    vars = slice_set core.vars a (Ptr (length core.blocks));
    blocks = core.blocks ++ Some (record { kind = n; fields = replicate s.size Unset; items = [] }) ∷ [];
  }))) h) refl

-- ---- the graph

-- an array whose items are not set
abbrev pub raw_array : ℕ → ℕ → Block
raw_array n k = record { kind = word (n + 1); fields = Word (pos k) ∷ []; items = replicate k Unset }

module _ (p : LlProgram) (args : List (List ℕ)) (layout : Layout) (n f k : ℕ) (heads : shape_at (shapes_of p.structs) n ≡ shape_over n 2 None) (arrays : shape_at (shapes_of p.structs) (word (n + 1)) ≡ shape_over (word (n + 1)) 1 None)
    (graph : slice_get p.graphs f ≡ Some (make (shape_of layout n))) (core : Core) (waits : List Frame) where
  abbrev bs : List (Option Block)
  bs = core.blocks

  abbrev bs2 : List (Option Block)
  bs2 = bs ++ Some (raw_array n k) ∷ []

  abbrev number : ℕ
  number = length bs2

  -- the array, and the head behind it
  pub made_list : Returns p args 1 (Calling f (Word (pos k) ∷ []) waits core) (Ptr number) waits (record core { blocks = bs2 ++ Some (head_block n k (Ptr (length bs))) ∷ [] })
  unfolding make make_given
  made_list = record {
    end = _;
    same = refl;
    leads = leads_more (0 + (0 + (0 + (0 + (0 + (1 + 0)))))) 1 (omega arith)
        (leads_then (enter graph refl)
        (leads_then (makes k 1 refl (ap (λ (s : Shape). s.size) arrays))
        (leads_then (writes_newest 1 bs (record { kind = word (n + 1); fields = Unset ∷ []; items = replicate k Unset }) (Word (pos k)) arrays refl refl refl refl refl)
        (leads_then (makes_plain 2 heads)
        (leads_then (writes_newest 2 bs2 (record { kind = n; fields = Unset ∷ Unset ∷ []; items = [] }) (Word (pos k)) heads refl refl refl refl refl)
        (leads_then (writes_newest 2 bs2 (record { kind = n; fields = Word (pos k) ∷ Unset ∷ []; items = [] }) (Ptr (length bs)) heads refl refl refl refl refl)
        (many 1 graph refl refl)))))));
  }
