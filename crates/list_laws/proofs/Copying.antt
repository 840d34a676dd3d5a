-- The loop that copies items of an array into the newest block.
use Rattle.std.proofs.Common.{◌≡◌, ◌<◌, ◌≤◌, ℕ, zero, suc, ◌+◌, ◌^◌, ◌||◌, Bool, true, false, List, [], ◌∷◌, ◌++◌, length, Option, Some, None, Ok, pos, refl, sym, ap, ◌∙◌, subst, arith, append_assoc, length-append}
use Rattle.std.specs.Prelude.{slice_get, slice_set, slice_index_or, cond, replicate, nat_lt, int_lt, if◌then◌else◌}
use Rattle.std.proofs.lemmas.Bool.Decides.{nat_tests}
use Rattle.csub_tree.specs.State.{Value, Unset, Word, Flag, Ptr, Block, Core, Onward, Stuck}
use Rattle.csub_tree.specs.Layout.{shape_at, shape_over}
use Rattle.csub_tree.specs.Operation.{is_unset, binary_of, word_of}
use Rattle.csub_tree.specs.Statement.{read, operand, on, on_block, reached, put_item, set_item, stored as stores}
use Rattle.csub_tree.specs.declared.stuck.StuckReason.TheVariants.{Outside, Unset as IsUnset}
use Rattle.csub_tree.specs.declared.tree.CBinary.TheVariants.{Gt}
use Rattle.csub_tree.specs.declared.tree.COperand.{COperand}
use Rattle.ll_code.specs.State.{Frame, State, Calling, At, Returning, Goes}
use Rattle.ll_code.specs.Machine.{step, goes_on, shapes_of}
use Rattle.ll_code.specs.declared.program.LlType.{LlType}
use Rattle.ll_code.specs.declared.program.LlOp.{LlOp}
use Rattle.ll_code.specs.declared.program.LlOp.TheVariants as op
use Rattle.ll_code.specs.declared.program.LlExit.{LlExit}
use Rattle.ll_code.specs.declared.program.LlGraph.{LlGraph}
use Rattle.ll_code.specs.declared.program.LlProgram.{LlProgram}
use Rattle.ll_leads.specs.Memory.{forgotten}
use Rattle.ll_leads.specs.Path.{Leads, Stay, Go, reference_in}
use Rattle.ll_leads.proofs.Joined.{leads_then, leads_more}
use Rattle.ll_leads.proofs.Ways.{many, enter, gives}
use Rattle.ll_texts.specs.Texts.{found}
use Rattle.ll_texts.proofs.Numbers.{adds, subs}
use Rattle.ll_texts.proofs.Reading.{below_length, get_mid}
use Rattle.ll_texts.proofs.Writing.{newest, put_newest, put_mid}
use Rattle.rtyper_layout.specs.declared.layout.Layout.{Layout}
use Rattle.rtyper_data.specs.declared.found.Found.{Found}
use Rattle.rtyper_data.specs.Converting.{value_as, converted}
use Rattle.rtyper_data.specs.Numbers.{word as word_operand}
use Rattle.rtyper_data.specs.Seen.{Writing, writing}
use Rattle.csub_tree.specs.declared.tree.COperand.TheVariants.{Var}
use Rattle.csub_tree.specs.declared.tree.CBinary.TheVariants as binary
use Rattle.list_shape.specs.Shapes.{item_of}
use Rattle.list_loops.specs.Loops.{copy_types, copy_set, copied, copy_start, copy_asks, copy_turn, copy_graph, copy_items}
use Rattle.lower_laws.proofs.Doing.{same_type_is}
use Rattle.object_laws.proofs.Blocks.{found_set, reach_own, reads_item}
use Rattle.object_laws.proofs.Calling.{Returns}
use Rattle.object_laws.proofs.Made.{found_more}

-- ---- the graph, where both arrays have one type

abbrev pub turn_ops : ℕ → List LlOp
turn_ops a = op.GetItem 9 a 0 (Var 1) ∷ op.SetItem a 2 (Var 3) (Var 9) ∷ op.Binary 6 binary.Add (Var 1) (word_operand (pos 1)) ∷ op.Binary 7 binary.Add (Var 3) (word_operand (pos 1)) ∷ op.Binary 8 binary.Sub (Var 4) (word_operand (pos 1)) ∷ []

abbrev pub the_copy : ℕ → LlType → LlGraph
the_copy a t = copy_graph (record { types = copy_types a a ++ t ∷ []; ops = turn_ops a })

pub copy_is : (layout : Layout) (a : ℕ) (found : Found) → (copy_items layout a a found).0 ≡ the_copy a (item_of layout a)
unfolding copy_items copied copy_types value_as
copy_is layout a found = ap (λ (c : Bool). copy_graph (copy_set a (if c then (Var 9, last) else converted layout (Var 9) (item_of layout a) (item_of layout a) last)).body) (same_type_is (item_of layout a))
  where
    last : Writing
    last = writing found (record { types = copy_types a a ++ item_of layout a ∷ []; ops = op.GetItem 9 a 0 (Var 1) ∷ [] })

-- ---- an item of the newest block

abbrev pub array_with : ℕ → List Value → List Value → Block
array_with a fields items = record { kind = a; fields = fields; items = items }

module _ {p : LlProgram} {args : List (List ℕ)} {ops : List LlOp} {e : LlExit} {frames : List Frame} {core : Core} {n b : ℕ} {i x : COperand} where
  pub writes_newest_item : (k : ℕ) (bs : List (Option Block)) (fields pre post : List Value) (old v : Value) → shape_at (shapes_of p.structs) n ≡ shape_over n k None → core.blocks ≡ bs ++ Some (array_with n fields (pre ++ old ∷ post)) ∷ [] → read core.vars b ≡ Ptr (length bs) → operand core.vars i ≡ Word (pos (length pre))
      → operand core.vars x ≡ v → is_unset v ≡ false → Leads p args 1 (At (op.SetItem n b i x ∷ ops) e frames core) [] (At ops e frames (record core { at = core.at + 1; blocks = bs ++ Some (array_with n fields (pre ++ v ∷ post)) ∷ [] }))
  writes_newest_item k bs fields pre post old v shape is at place_is value set =
      let items : List Value = pre ++ old ∷ post in
      let block : Block = array_with n fields items in
      let inside : nat_lt (length pre) (length items) ≡ true = (let m : length pre < length items = below_length items (length pre) old (get_mid pre old post (length pre) refl) in grind (arith, nat_tests, m)) in
      let does : set_item core (shapes_of p.structs) n (read core.vars b) (operand core.vars i) (operand core.vars x) ≡ Onward (record core { at = core.at + 1; blocks = bs ++ Some (array_with n fields (pre ++ v ∷ post)) ∷ [] }) =
      ap (λ y. set_item core (shapes_of p.structs) n y (operand core.vars i) (operand core.vars x)) at
      ∙ ap (λ y. set_item core (shapes_of p.structs) n (Ptr (length bs)) (operand core.vars i) y) value
      ∙ ap (λ y. set_item core (shapes_of p.structs) n (Ptr (length bs)) y v) place_is
      ∙ ap (λ c. cond c (Stuck IsUnset) (on (λ i. on_block (λ block. put_item core (Ptr (length bs)) block i v) (reached core (shapes_of p.structs) n (Ptr (length bs)))) (word_of (Word (pos (length pre)))))) set
      ∙ ap (on_block (λ block. put_item core (Ptr (length bs)) block (pos (length pre)) v)) (reach_own p core (Ptr (length bs)) n k block shape (ap (λ l. slice_index_or l (length bs) None) is ∙ newest bs (Some block) None) refl)
      ∙ ap (λ c. cond c (stores core (Ptr (length bs)) (array_with n fields (slice_set items (length pre) v))) (Stuck Outside)) inside
      ∙ ap (λ l. stores core (Ptr (length bs)) (array_with n fields l)) (put_mid pre old post (length pre) v refl)
      ∙ ap (λ l. Onward (record core { at = core.at + 1; blocks = l })) (ap (λ l. slice_set l (length bs) (Some (array_with n fields (pre ++ v ∷ post)))) is ∙ put_newest bs (Some block) (Some (array_with n fields (pre ++ v ∷ post)))) in
      let goes : step p args (At (op.SetItem n b i x ∷ ops) e frames core) ≡ Goes (At ops e frames (record core { at = core.at + 1; blocks = bs ++ Some (array_with n fields (pre ++ v ∷ post)) ∷ [] })) = ap (goes_on (At ops e frames)) does in
      let few = at_most_one (operand core.vars x) in
      record { path = Go goes (Stay (At ops e frames (record core { at = core.at + 1; blocks = bs ++ Some (array_with n fields (pre ++ v ∷ post)) ∷ [] }))); few = omega (arith, few) }
    where
      at_most_one : (y : Value) → reference_in y ≤ 1
      at_most_one (Ptr m) = omega arith
      at_most_one _ = omega arith

pub read_mid : (pre : List Value) (x : Value) (post : List Value) (i : ℕ) → i ≡ length pre → read (pre ++ x ∷ post) i ≡ x
read_mid [] x post zero e = refl
read_mid [] x post (suc i) e = absurd (omega (arith, e))
read_mid (y ∷ pre) x post zero e = absurd (omega (arith, e))
read_mid (y ∷ pre) x post (suc i) e = read_mid pre x post i (omega (arith, e))

-- ---- the loop

-- each is set
abbrev pub AllSet : List Value → Type 0
AllSet [] = Unit {0}
AllSet (x ∷ xs) = (is_unset x ≡ false) × AllSet xs

pub more_than : (n : ℕ) → binary_of Gt (Word (pos (suc n))) (Word (pos 0)) ≡ Ok (Flag true)
more_than n = let e : int_lt (pos 0) (pos (suc n)) ≡ true = grind (arith, nat_tests) in ap (λ b. Ok (Flag b)) e

abbrev raw : List Value → List Value
raw xs = replicate (length xs) Unset

module _ (p : LlProgram) (args : List (List ℕ)) (a f : ℕ) (t : LlType) (shape : shape_at (shapes_of p.structs) a ≡ shape_over a 1 None) (graph : slice_get p.graphs f ≡ Some (the_copy a t)) (waits : List Frame) (bs : List (Option Block)) (source : Value) (old : Block) (kind : old.kind ≡ a) (fields : List Value) where
  abbrev asks : (core : Core) → List (Option Block) → ℕ → ℕ → ℕ → List Value → State
  asks core blocks i j k rest = At copy_asks.ops copy_asks.exit waits (record core { function = f; block = 1; at = 0; vars = source ∷ Word (pos i) ∷ Ptr (length bs) ∷ Word (pos j) ∷ Word (pos k) ∷ rest; blocks = blocks })

  -- what is left to copy is copied
  abbrev Loops : Core → List Value → List Value → List Value → List Value → List Value → ℕ → ℕ → List Value → Type 0
  Loops core xs pre post pre2 post2 i j rest = Returns p args (length xs) (asks core (bs ++ Some (array_with a fields (pre2 ++ (raw xs ++ post2))) ∷ []) i j (length xs) rest) Unset waits (record core { blocks = bs ++ Some (array_with a fields (pre2 ++ (xs ++ post2))) ∷ [] })

  -- one item, and the others
  turns : (core : Core) (x : Value) (xs pre post pre2 post2 : List Value) (i j : ℕ) (t5 t6 t7 t8 t9 : Value) → i ≡ length pre → j ≡ length pre2 → found bs core.statics source ≡ Some old → old.items ≡ pre ++ (x ∷ xs ++ post) → is_unset x ≡ false → length old.items < 2 ^ 63 → length (pre2 ++ x ∷ xs) < 2 ^ 63
      → Loops core xs (pre ++ x ∷ []) post (pre2 ++ x ∷ []) post2 (i + 1) (j + 1) (Flag true ∷ Word (pos (i + 1)) ∷ Word (pos (j + 1)) ∷ Word (pos (length xs)) ∷ x ∷ []) → Loops core (x ∷ xs) pre post pre2 post2 i j (t5 ∷ t6 ∷ t7 ∷ t8 ∷ t9 ∷ [])
  unfolding copy_graph copy_start copy_asks copy_turn copy_types
  turns core x xs pre post pre2 post2 i j t5 t6 t7 t8 t9 ei ej is items set small small2 next = record {
    end = next.end;
    same = next.same ∙ ap (λ l. forgotten (record core { blocks = bs ++ Some (array_with a fields l) ∷ [] })) (append_assoc pre2 (x ∷ []) (xs ++ post2));
    leads = leads_more (0 + (0 + (0 + (1 + (0 + (0 + (0 + (0 + length xs)))))))) (suc (length xs)) (omega arith)
        (leads_then (gives (Flag true) (more_than (length xs)))
        (leads_then (many 1 graph refl (ap (λ b. b || false) (found_set bs core.statics source old is)))
        (leads_then (reads_item 1 old x shape (found_more bs _ core.statics source old is) kind set i refl inside there)
        (leads_then (writes_newest_item 1 bs fields pre2 (raw xs ++ post2) Unset x shape refl refl (ap (λ k. Word (pos k)) ej) refl set)
        (leads_then (gives (Word (pos (i + 1))) (adds i 1 (omega (arith, small, long, ei))))
        (leads_then (gives (Word (pos (j + 1))) (adds j 1 (omega (arith, small2, long2, ej))))
        (leads_then (gives (Word (pos (length xs))) (subs (suc (length xs)) 1 (length xs) (omega arith) (omega (arith, small2, long2))))
        (leads_then (many 1 graph refl (ap (λ b. b || false) (found_set bs core.statics source old is)))
        (subst (λ l. Leads p args (length xs) (asks core (bs ++ Some (array_with a fields l) ∷ []) (i + 1) (j + 1) (length xs) (Flag true ∷ Word (pos (i + 1)) ∷ Word (pos (j + 1)) ∷ Word (pos (length xs)) ∷ x ∷ [])) [] (Returning Unset waits next.end)) (append_assoc pre2 (x ∷ []) (raw xs ++ post2)) next.leads)))))))));
  }
    where
      long : length old.items ≡ length pre + suc (length xs + length post)
      long = ap length items ∙ length-append pre (x ∷ xs ++ post) ∙ ap (λ l. length pre + suc l) (length-append xs post)

      long2 : length (pre2 ++ x ∷ xs) ≡ length pre2 + suc (length xs)
      long2 = length-append pre2 (x ∷ xs)

      inside : i < length old.items
      inside = omega (arith, long, ei)

      there : read old.items i ≡ x
      there = ap (λ l. read l i) items ∙ read_mid pre x (xs ++ post) i ei

  pub loops : (core : Core) (xs pre post pre2 post2 : List Value) (i j : ℕ) (t5 t6 t7 t8 t9 : Value) → i ≡ length pre → j ≡ length pre2 → found bs core.statics source ≡ Some old → old.items ≡ pre ++ (xs ++ post) → AllSet xs → length old.items < 2 ^ 63 → length (pre2 ++ xs) < 2 ^ 63
      → Loops core xs pre post pre2 post2 i j (t5 ∷ t6 ∷ t7 ∷ t8 ∷ t9 ∷ [])
  unfolding copy_graph copy_start copy_asks copy_turn copy_types
  loops core [] pre post pre2 post2 i j t5 t6 t7 t8 t9 ei ej is items set small small2 = record {
    end = _;
    same = refl;
    leads = leads_more (0 + 0) 0 (omega arith) (leads_then (gives (Flag false) refl) (many 2 graph refl refl));
  }
  loops core (x ∷ xs) pre post pre2 post2 i j t5 t6 t7 t8 t9 ei ej is items set small small2 =
      turns core x xs pre post pre2 post2 i j t5 t6 t7 t8 t9 ei ej is items set.0 small small2
      (loops core xs (pre ++ x ∷ []) post (pre2 ++ x ∷ []) post2 (i + 1) (j + 1) (Flag true) (Word (pos (i + 1))) (Word (pos (j + 1))) (Word (pos (length xs))) x
      (ap (λ k. k + 1) ei ∙ sym (length-append pre (x ∷ []))) (ap (λ k. k + 1) ej ∙ sym (length-append pre2 (x ∷ []))) is (items ∙ sym (append_assoc pre (x ∷ []) (xs ++ post))) set.1 small
      (subst (λ l. length l < 2 ^ 63) (sym (append_assoc pre2 (x ∷ []) xs)) small2))

  -- the first so many items of the one are those of the other
  pub copies : (core : Core) (xs post post2 : List Value) → core.blocks ≡ bs ++ Some (array_with a fields (raw xs ++ post2)) ∷ [] → found bs core.statics source ≡ Some old → old.items ≡ xs ++ post → AllSet xs → length old.items < 2 ^ 63
      → Returns p args (length xs) (Calling f (source ∷ Word (pos 0) ∷ Ptr (length bs) ∷ Word (pos 0) ∷ Word (pos (length xs)) ∷ []) waits core) Unset waits (record core { blocks = bs ++ Some (array_with a fields (xs ++ post2)) ∷ [] })
  unfolding copy_graph copy_start copy_asks copy_turn copy_types
  copies core xs post post2 at is items set small =
      let short : length xs < 2 ^ 63 = (let l : length old.items ≡ length xs + length post = ap length items ∙ length-append xs post in omega (arith, l, small)) in
      let it = loops core xs [] post [] post2 0 0 Unset Unset Unset Unset Unset refl refl is items set small short in
      record {
        end = it.end;
        same = it.same;
        leads = leads_more (0 + (0 + length xs)) (length xs) (omega arith)
            (leads_then (enter graph refl)
            (leads_then (many 1 graph refl (ap (λ b. b || false) (found_set bs core.statics source old is)))
            (subst (λ l. Leads p args (length xs) (asks core l 0 0 (length xs) (Unset ∷ Unset ∷ Unset ∷ Unset ∷ Unset ∷ [])) [] (Returning Unset waits it.end)) (sym at) it.leads)));
      }
