-- The graph that lets the items of an array hold nothing, from a place on.
use Rattle.std.proofs.Common.{◌≡◌, ◌<◌, ℕ, suc, ◌+◌, ◌^◌, ◌||◌, true, false, List, [], ◌∷◌, ◌++◌, length, Some, None, pos, refl, sym, ap, ◌∙◌, arith, append_assoc, length-append}
use Rattle.std.specs.Prelude.{slice_get, slice_set, replicate}
use Rattle.csub_tree.specs.State.{Value, Unset, Word, Flag, Core}
use Rattle.csub_tree.specs.Layout.{shape_at, shape_over}
use Rattle.csub_tree.specs.Operation.{is_unset}
use Rattle.csub_tree.specs.Statement.{operand}
use Rattle.csub_tree.specs.declared.tree.COperand.TheVariants.{Var}
use Rattle.ll_code.specs.State.{Frame, State, Calling, At}
use Rattle.ll_code.specs.Machine.{shapes_of}
use Rattle.ll_code.specs.declared.program.LlType.{LlType}
use Rattle.ll_code.specs.declared.program.LlType.TheVariants as type
use Rattle.ll_code.specs.declared.program.LlProgram.{LlProgram}
use Rattle.ll_held.specs.Held.{is_reference}
use Rattle.ll_leads.specs.Memory.{forgotten}
use Rattle.ll_leads.specs.Path.{reference_in}
use Rattle.ll_leads.proofs.Joined.{leads_then, leads_more}
use Rattle.ll_leads.proofs.Ways.{many, enter, gives}
use Rattle.ll_texts.specs.Texts.{found}
use Rattle.ll_texts.proofs.Numbers.{adds, less_true, less_false}
use Rattle.ll_texts.proofs.Writing.{put_mid}
use Rattle.rtyper_data.specs.Converting.{default_operand}
use Rattle.rtyper_dict.specs.Indexing.{fill, fill_starts, fill_asks, fill_turn, fill_blocks}
use Rattle.object_laws.proofs.Blocks.{found_set, reads_field}
use Rattle.object_laws.proofs.Calling.{Returns}
use Rattle.object_laws.proofs.Changing.{wrote_at}
use Rattle.dict_change_laws.proofs.Putting.{put, array_of, puts_item, put_twice, put_there}

-- ---- a default

abbrev pub default_of : LlType → Value
default_of t = operand [] (default_operand t)

pub default_set : (t : LlType) → is_unset (default_of t) ≡ false
default_set type.Signed = refl
default_set type.Void = refl
default_set type.Char = refl
default_set type.Bool = refl
default_set type.Fn = refl
default_set (type.Ptr n) = refl

pub default_empty : (t : LlType) → is_reference (default_of t) ≡ false
default_empty type.Signed = refl
default_empty type.Void = refl
default_empty type.Char = refl
default_empty type.Bool = refl
default_empty type.Fn = refl
default_empty (type.Ptr n) = refl

pub default_counts : (t : LlType) → reference_in (default_of t) ≡ 0
default_counts type.Signed = refl
default_counts type.Void = refl
default_counts type.Char = refl
default_counts type.Bool = refl
default_counts type.Fn = refl
default_counts (type.Ptr n) = refl

-- ---- the loop

module _ (p : LlProgram) (args : List (List ℕ)) (a f : ℕ) (t : LlType) (shape : shape_at (shapes_of p.structs) a ≡ shape_over a 1 None) (graph : slice_get p.graphs f ≡ Some (fill a t)) (target : Value) (n : ℕ) (small : n < 2 ^ 63) where
  abbrev fields : List Value
  fields = Word (pos n) ∷ []

  abbrev asks : Core → ℕ → Value → Value → List Frame → State
  asks core i t3 t4 waits = At fill_asks.ops fill_asks.exit waits (record core { function = f; block = 1; at = 0; vars = target ∷ Word (pos i) ∷ Word (pos n) ∷ t3 ∷ t4 ∷ [] })

  abbrev filled : Core → List Value → Core
  filled core items = put core target (array_of a fields items)

  Fills : Core → List Value → List Value → ℕ → Value → Value → Type 0
  Fills core pre xs i t3 t4 = (waits : List Frame) → Returns p args 0 (asks core i t3 t4 waits) Unset waits (filled core (pre ++ replicate (length xs) (default_of t)))

  module _ (core : Core) (x : Value) (xs pre : List Value) (i : ℕ) (at : i ≡ length pre) (long : n ≡ length (pre ++ x ∷ xs)) (is : found core.blocks core.statics target ≡ Some (array_of a fields (pre ++ x ∷ xs))) where
    abbrev next_core : Core
    next_core = put core target (array_of a fields (slice_set (pre ++ x ∷ xs) i (default_of t)))

    items_are : slice_set (pre ++ x ∷ xs) i (default_of t) ≡ (pre ++ default_of t ∷ []) ++ xs
    items_are = put_mid pre x xs i (default_of t) at ∙ sym (append_assoc pre (default_of t ∷ []) xs)

    next_is : found next_core.blocks next_core.statics target ≡ Some (array_of a fields ((pre ++ default_of t ∷ []) ++ xs))
    next_is = (wrote_at core.blocks core.statics target (array_of a fields (pre ++ x ∷ xs)) (array_of a fields (slice_set (pre ++ x ∷ xs) i (default_of t))) is).there ∙ ap (λ l. Some (array_of a fields l)) items_are

    same_end : forgotten (filled next_core ((pre ++ default_of t ∷ []) ++ replicate (length xs) (default_of t))) ≡ forgotten (filled core (pre ++ replicate (length (x ∷ xs)) (default_of t)))
    same_end = put_twice core target (array_of a fields (slice_set (pre ++ x ∷ xs) i (default_of t))) (array_of a fields ((pre ++ default_of t ∷ []) ++ replicate (length xs) (default_of t))) ∙ ap (λ l. forgotten (filled core l)) (append_assoc pre (default_of t ∷ []) (replicate (length xs) (default_of t)))

    turns : (t3 t4 : Value) → Fills next_core (pre ++ default_of t ∷ []) xs (i + 1) (Flag true) (Word (pos (i + 1))) → Fills core pre (x ∷ xs) i t3 t4
    unfolding Fills fill fill_starts fill_asks fill_turn fill_blocks
    turns t3 t4 next waits =
        let q : length (pre ++ x ∷ xs) ≡ length pre + suc (length xs) = length-append pre (x ∷ xs) in
        let below : i < n = omega (arith, at, long, q) in
        let count = default_counts t in
        record {
          end = (next waits).end;
          same = (next waits).same ∙ same_end;
          leads = leads_more (0 + (0 + (reference_in (default_of t) + (0 + (0 + 0))))) 0 (omega (arith, count))
              (leads_then (gives (Flag true) (less_true i n below))
              (leads_then (many 1 graph refl (ap (λ b. b || false) (found_set core.blocks core.statics target _ is)))
              (leads_then (puts_item p args _ _ waits _ a 0 (Var 1) (default_operand t) 1 (array_of a fields (pre ++ x ∷ xs)) i (default_of t) shape refl refl (omega (arith, below, long)) refl (default_set t) target refl is)
              (leads_then (gives (Word (pos (i + 1))) (adds i 1 (omega (arith, below, small))))
              (leads_then (many 1 graph refl (ap (λ b. b || false) (found_set core.blocks core.statics target _ is))) (next waits).leads)))));
        }

  loops : (core : Core) (xs pre : List Value) (i : ℕ) (t3 t4 : Value) → i ≡ length pre → n ≡ length (pre ++ xs) → found core.blocks core.statics target ≡ Some (array_of a fields (pre ++ xs)) → Fills core pre xs i t3 t4
  unfolding Fills fill fill_starts fill_asks fill_turn fill_blocks
  loops core [] pre i t3 t4 at long is waits = (let q : length (pre ++ []) ≡ length pre + 0 = length-append pre [] in record {
    end = _;
    same = sym (put_there core target (array_of a fields (pre ++ [])) is);
    leads = leads_more (0 + 0) 0 (omega arith) (leads_then (gives (Flag false) (less_false i n (omega (arith, at, long, q)))) (many 2 graph refl refl));
  })
  loops core (x ∷ xs) pre i t3 t4 at long is waits =
      let q : length (pre ++ x ∷ xs) ≡ length pre + suc (length xs) = length-append pre (x ∷ xs) in
      let r : length ((pre ++ default_of t ∷ []) ++ xs) ≡ length (pre ++ default_of t ∷ []) + length xs = length-append (pre ++ default_of t ∷ []) xs in
      let s : length (pre ++ default_of t ∷ []) ≡ length pre + 1 = length-append pre (default_of t ∷ []) in
      turns core x xs pre i at long is t3 t4
      (loops (next_core core x xs pre i at long is) xs (pre ++ default_of t ∷ []) (i + 1) (Flag true) (Word (pos (i + 1))) (omega (arith, at, s)) (omega (arith, long, q, r, s)) (next_is core x xs pre i at long is)) waits

  -- what stands from a place on is the default
  pub fills : (core : Core) (pre xs : List Value) → n ≡ length (pre ++ xs) → found core.blocks core.statics target ≡ Some (array_of a fields (pre ++ xs))
      → (waits : List Frame) → Returns p args 0 (Calling f (target ∷ Word (pos (length pre)) ∷ []) waits core) Unset waits (filled core (pre ++ replicate (length xs) (default_of t)))
  unfolding Fills fill fill_starts fill_asks fill_turn fill_blocks
  fills core pre xs long is waits =
      let it = loops core xs pre (length pre) Unset Unset refl long is waits in
      record {
        end = it.end;
        same = it.same;
        leads = leads_more (0 + (0 + (0 + 0))) 0 (omega arith)
            (leads_then (enter graph refl)
            (leads_then (reads_field 1 (array_of a fields (pre ++ xs)) (Word (pos n)) shape is refl refl 0 refl)
            (leads_then (many 1 graph refl (ap (λ b. b || false) (found_set core.blocks core.statics target _ is))) it.leads)));
      }
