-- The loop that copies items of an array one place down in the same array.
use Rattle.std.proofs.Common.{◌≡◌, ◌<◌, ◌≤◌, ℕ, suc, ◌+◌, ◌^◌, ◌||◌, Bool, true, false, List, [], ◌∷◌, ◌++◌, length, Option, Some, None, pos, refl, sym, ap, ◌∙◌, subst, arith, append_assoc, length-append}
use Rattle.std.specs.Prelude.{cond, nat_lt, slice_get}
use Rattle.std.proofs.lemmas.Bool.Decides.{nat_tests}
use Rattle.csub_tree.specs.State.{Value, Unset, Word, Flag, Ptr, Static, Block, Core, Stuck}
use Rattle.csub_tree.specs.Layout.{shape_at, shape_over}
use Rattle.csub_tree.specs.Operation.{is_unset, word_of}
use Rattle.csub_tree.specs.Statement.{read, operand, on, on_block, reached, put_item, set_item, stored as stores}
use Rattle.csub_tree.specs.declared.stuck.StuckReason.TheVariants.{Outside, Unset as IsUnset}
use Rattle.csub_tree.specs.declared.tree.COperand.{COperand}
use Rattle.csub_tree.specs.declared.tree.COperand.TheVariants.{Var}
use Rattle.ll_code.specs.State.{Frame, State, Calling, At, Goes}
use Rattle.ll_code.specs.Machine.{step, goes_on, shapes_of}
use Rattle.ll_code.specs.declared.program.LlType.{LlType}
use Rattle.ll_code.specs.declared.program.LlOp.{LlOp}
use Rattle.ll_code.specs.declared.program.LlOp.TheVariants as op
use Rattle.ll_code.specs.declared.program.LlExit.{LlExit}
use Rattle.ll_code.specs.declared.program.LlProgram.{LlProgram}
use Rattle.ll_held.specs.Held.{is_reference}
use Rattle.ll_leads.specs.Path.{Leads, Stay, Go}
use Rattle.ll_leads.proofs.Joined.{leads_then, leads_more}
use Rattle.ll_leads.proofs.Ways.{many, enter, gives}
use Rattle.ll_texts.specs.Texts.{found}
use Rattle.ll_texts.proofs.Numbers.{adds, subs}
use Rattle.ll_texts.proofs.Writing.{put_mid}
use Rattle.list_loops.specs.Loops.{copy_types, copy_start, copy_asks, copy_turn, copy_graph}
use Rattle.list_laws.proofs.Copying.{AllSet, array_with, the_copy, read_mid, more_than}
use Rattle.object_laws.proofs.Blocks.{found_set, reach_own, reads_item}
use Rattle.object_laws.proofs.Calling.{Returns}
use Rattle.object_laws.proofs.Changing.{Wrote, put_block, put_static, wrote_at}
use Rattle.object_laws.proofs.Writing.{with_item}

-- ---- an item of a block is written, and what is there then

at_most_one : (b : Bool) → cond b 1 0 ≤ 1
at_most_one true = omega arith
at_most_one false = omega arith

module _ (p : LlProgram) (args : List (List ℕ)) (ops : List LlOp) (e : LlExit) (frames : List Frame) (core : Core) (n b : ℕ) (i x : COperand) (k : ℕ) (block : Block) (j : ℕ) (value : Value)
    (shape : shape_at (shapes_of p.structs) n ≡ shape_over n k None) (kind : block.kind ≡ n) (place_is : operand core.vars i ≡ Word (pos j)) (inside : j < length block.items) (value_is : operand core.vars x ≡ value) (value_set : is_unset value ≡ false) where
  abbrev pub then : Value → Core
  then y = record core { at = core.at + 1; blocks = put_block y (with_item block j value) core.blocks; statics = put_static y (with_item block j value) core.statics }

  does : (y : Value) → read core.vars b ≡ y → found core.blocks core.statics y ≡ Some block → step p args (At (op.SetItem n b i x ∷ ops) e frames core) ≡ goes_on (At ops e frames) (stores core y (with_item block j value))
  does y at is =
      let inside_so : nat_lt j (length block.items) ≡ true = grind (arith, nat_tests, inside) in
      ap (λ y. goes_on (At ops e frames) (set_item core (shapes_of p.structs) n y (operand core.vars i) (operand core.vars x))) at
      ∙ ap (λ v. goes_on (At ops e frames) (set_item core (shapes_of p.structs) n y (operand core.vars i) v)) value_is
      ∙ ap (λ v. goes_on (At ops e frames) (set_item core (shapes_of p.structs) n y v value)) place_is
      ∙ ap (λ c. goes_on (At ops e frames) (cond c (Stuck IsUnset) (on (λ i. on_block (λ block. put_item core y block i value) (reached core (shapes_of p.structs) n y)) (word_of (Word (pos j)))))) value_set
      ∙ ap (λ r. goes_on (At ops e frames) (on_block (λ block. put_item core y block (pos j) value) r)) (reach_own p core y n k block shape is kind)
      ∙ ap (λ c. goes_on (At ops e frames) (cond c (stores core y (with_item block j value)) (Stuck Outside))) inside_so

  goes_there : (y : Value) → found core.blocks core.statics y ≡ Some block → goes_on (At ops e frames) (stores core y (with_item block j value)) ≡ Goes (At ops e frames (then y))
  goes_there (Ptr m) is = refl
  goes_there (Static s) is = refl
  goes_there _ is = absurd (cc)

  pub puts_item : (y : Value) → read core.vars b ≡ y → found core.blocks core.statics y ≡ Some block → Leads p args 1 (At (op.SetItem n b i x ∷ ops) e frames core) [] (At ops e frames (then y))
  puts_item y at is = (let h = at_most_one (is_reference (operand core.vars x)) in record { path = Go (does y at is ∙ goes_there y is) (Stay (At ops e frames (then y))); few = omega (arith, h) })

-- ---- the loop

-- the block is another, and the call comes back
pub record Moved (p : LlProgram) (args : List (List ℕ)) (most : ℕ) (s : List Frame → State) (core : Core) (target : Value) (a : ℕ) (fields pre xs post : List Value) : Type 0 where
  pub last : Value
  pub blocks : List (Option Block)
  pub statics : List Block
  pub wrote : Wrote core.blocks core.statics target (array_with a fields (pre ++ (xs ++ last ∷ post))) blocks statics
  pub returns : (waits : List Frame) → Returns p args most (s waits) Unset waits (record core { blocks = blocks; statics = statics })

pub both_wrote : {bs bs1 bs2 : List (Option Block)} {ss ss1 ss2 : List Block} {at : Value} {b1 b2 : Block} → Wrote bs ss at b1 bs1 ss1 → Wrote bs1 ss1 at b2 bs2 ss2 → Wrote bs ss at b2 bs2 ss2
both_wrote w1 w2 = record { there = w2.there; others = λ x h. w2.others x h ∙ w1.others x h; made = w2.made ∙ w1.made; fixed = w2.fixed ∙ w1.fixed }

module _ (p : LlProgram) (args : List (List ℕ)) (a f : ℕ) (t : LlType) (shape : shape_at (shapes_of p.structs) a ≡ shape_over a 1 None) (graph : slice_get p.graphs f ≡ Some (the_copy a t)) (target : Value) (fields : List Value) where
  abbrev asks : Core → ℕ → ℕ → ℕ → List Value → List Frame → State
  asks core i j k rest waits = At copy_asks.ops copy_asks.exit waits (record core { function = f; block = 1; at = 0; vars = target ∷ Word (pos i) ∷ target ∷ Word (pos j) ∷ Word (pos k) ∷ rest })

  -- a place that may be written, and the items behind it
  Holding : Core → List Value → Value → List Value → List Value → Type 0
  Holding core pre gap xs post = found core.blocks core.statics target ≡ Some (array_with a fields (pre ++ gap ∷ (xs ++ post)))

  Moves : Core → List Value → List Value → List Value → ℕ → ℕ → List Value → Type 0
  Moves core xs pre post i j rest = Moved p args (length xs) (asks core i j (length xs) rest) core target a fields pre xs post

  abbrev array2 : List Value → Value → Value → List Value → List Value → Block
  array2 pre gap x xs post = with_item (array_with a fields (pre ++ gap ∷ (x ∷ xs ++ post))) (length pre) x

  abbrev next_core : Core → List Value → Value → Value → List Value → List Value → Core
  next_core core pre gap x xs post = record core { blocks = put_block target (array2 pre gap x xs post) core.blocks; statics = put_static target (array2 pre gap x xs post) core.statics }

  array2_is : (pre : List Value) (gap x : Value) (xs post : List Value) → array2 pre gap x xs post ≡ array_with a fields ((pre ++ x ∷ []) ++ x ∷ (xs ++ post))
  array2_is pre gap x xs post = ap (array_with a fields) (put_mid pre gap (x ∷ xs ++ post) (length pre) x refl ∙ sym (append_assoc pre (x ∷ []) (x ∷ xs ++ post)))

  turns : (core : Core) (x : Value) (xs pre : List Value) (gap : Value) (post : List Value) (i j : ℕ) (t5 t6 t7 t8 t9 : Value) → i ≡ length pre + 1 → j ≡ length pre → Holding core pre gap (x ∷ xs) post → is_unset x ≡ false → length (pre ++ gap ∷ (x ∷ xs ++ post)) < 2 ^ 63
      → Moves (next_core core pre gap x xs post) xs (pre ++ x ∷ []) post (i + 1) (j + 1) (Flag true ∷ Word (pos (i + 1)) ∷ Word (pos (j + 1)) ∷ Word (pos (length xs)) ∷ x ∷ []) → Moves core (x ∷ xs) pre post i j (t5 ∷ t6 ∷ t7 ∷ t8 ∷ t9 ∷ [])
  unfolding Holding Moves copy_graph copy_start copy_asks copy_turn copy_types
  turns core x xs pre gap post i j t5 t6 t7 t8 t9 ei ej is set small next = record {
    last = next.last;
    blocks = next.blocks;
    statics = next.statics;
    wrote = subst (λ items. Wrote core.blocks core.statics target (array_with a fields items) next.blocks next.statics) (append_assoc pre (x ∷ []) (xs ++ next.last ∷ post))
        (both_wrote (wrote_at core.blocks core.statics target (array_with a fields (pre ++ gap ∷ (x ∷ xs ++ post))) (array2 pre gap x xs post) is) next.wrote);
    returns = λ waits. record {
      end = (next.returns waits).end;
      same = (next.returns waits).same;
      leads = leads_more (0 + (0 + (0 + (1 + (0 + (0 + (0 + (0 + length xs)))))))) (suc (length xs)) (omega arith)
          (leads_then (gives (Flag true) (more_than (length xs)))
          (leads_then (many 1 graph refl target_set)
          (leads_then (reads_item 1 whole x shape is refl set i refl inside there)
          (leads_then (puts_item p args _ _ waits _ a 2 (Var 3) (Var 9) 1 whole (length pre) x shape refl (ap (λ k. Word (pos k)) ej) inside2 refl set target refl is)
          (leads_then (gives (Word (pos (i + 1))) (adds i 1 (omega (arith, small, long, ei))))
          (leads_then (gives (Word (pos (j + 1))) (adds j 1 (omega (arith, small, long, ej))))
          (leads_then (gives (Word (pos (length xs))) (subs (suc (length xs)) 1 (length xs) (omega arith) (omega (arith, small, long))))
          (leads_then (many 1 graph refl target_set) (next.returns waits).leads))))))));
    };
  }
    where
      whole : Block
      whole = array_with a fields (pre ++ gap ∷ (x ∷ xs ++ post))

      long : length (pre ++ gap ∷ (x ∷ xs ++ post)) ≡ length pre + suc (suc (length xs + length post))
      long = length-append pre (gap ∷ (x ∷ xs ++ post)) ∙ ap (λ l. length pre + suc (suc l)) (length-append xs post)

      inside : i < length (pre ++ gap ∷ (x ∷ xs ++ post))
      inside = omega (arith, long, ei)

      inside2 : length pre < length (pre ++ gap ∷ (x ∷ xs ++ post))
      inside2 = omega (arith, long)

      there : read (pre ++ gap ∷ (x ∷ xs ++ post)) i ≡ x
      there = ap (λ l. read l i) (sym (append_assoc pre (gap ∷ []) (x ∷ xs ++ post))) ∙ read_mid (pre ++ gap ∷ []) x (xs ++ post) i (ei ∙ sym (length-append pre (gap ∷ [])))

      target_set : is_unset target || (is_unset target || false) ≡ false
      target_set = ap (λ b. b || (b || false)) (found_set core.blocks core.statics target _ is)

  moves : (core : Core) (xs pre : List Value) (gap : Value) (post : List Value) (i j : ℕ) (t5 t6 t7 t8 t9 : Value) → i ≡ length pre + 1 → j ≡ length pre → Holding core pre gap xs post → AllSet xs → length (pre ++ gap ∷ (xs ++ post)) < 2 ^ 63 → Moves core xs pre post i j (t5 ∷ t6 ∷ t7 ∷ t8 ∷ t9 ∷ [])
  unfolding Holding Moves copy_graph copy_start copy_asks copy_turn copy_types
  moves core [] pre gap post i j t5 t6 t7 t8 t9 ei ej is set small = record {
    last = gap;
    blocks = core.blocks;
    statics = core.statics;
    wrote = record { there = is; others = λ x h. refl; made = refl; fixed = refl };
    returns = λ waits. record { end = _; same = refl; leads = leads_more (0 + 0) 0 (omega arith) (leads_then (gives (Flag false) refl) (many 2 graph refl refl)) };
  }
  moves core (x ∷ xs) pre gap post i j t5 t6 t7 t8 t9 ei ej is set small =
      turns core x xs pre gap post i j t5 t6 t7 t8 t9 ei ej is set.0 small
      (moves (next_core core pre gap x xs post) xs (pre ++ x ∷ []) x post (i + 1) (j + 1) (Flag true) (Word (pos (i + 1))) (Word (pos (j + 1))) (Word (pos (length xs))) x
      (ap (λ k. k + 1) (ei ∙ sym (length-append pre (x ∷ [])))) (ap (λ k. k + 1) ej ∙ sym (length-append pre (x ∷ [])))
      ((wrote_at core.blocks core.statics target (array_with a fields (pre ++ gap ∷ (x ∷ xs ++ post))) (array2 pre gap x xs post) is).there ∙ ap Some (array2_is pre gap x xs post)) set.1
      (let l : length ((pre ++ x ∷ []) ++ x ∷ (xs ++ post)) ≡ length (pre ++ gap ∷ (x ∷ xs ++ post)) = length-append (pre ++ x ∷ []) (x ∷ (xs ++ post)) ∙ ap (λ k. k + suc (length (xs ++ post))) (length-append pre (x ∷ [])) ∙ (let q : length pre + 1 + suc (length (xs ++ post)) ≡ length pre + suc (suc (length (xs ++ post))) = omega arith in q) ∙ sym (length-append pre (gap ∷ (x ∷ xs ++ post))) in omega (arith, l, small)))

  -- the items behind a place are each one place lower
  pub moved : (core : Core) (xs pre : List Value) (gap : Value) (post : List Value) → found core.blocks core.statics target ≡ Some (array_with a fields (pre ++ gap ∷ (xs ++ post))) → AllSet xs → length (pre ++ gap ∷ (xs ++ post)) < 2 ^ 63
      → Moved p args (length xs) (λ waits. Calling f (target ∷ Word (pos (length pre + 1)) ∷ target ∷ Word (pos (length pre)) ∷ Word (pos (length xs)) ∷ []) waits core) core target a fields pre xs post
  unfolding Holding Moves copy_graph copy_start copy_asks copy_turn copy_types
  moved core xs pre gap post is set small =
      let it = moves core xs pre gap post (length pre + 1) (length pre) Unset Unset Unset Unset Unset refl refl is set small in
      record {
        last = it.last;
        blocks = it.blocks;
        statics = it.statics;
        wrote = it.wrote;
        returns = λ waits. record {
          end = (it.returns waits).end;
          same = (it.returns waits).same;
          leads = leads_more (0 + (0 + length xs)) (length xs) (omega arith)
              (leads_then (enter graph refl)
              (leads_then (many 1 graph refl (ap (λ b. b || (b || false)) (found_set core.blocks core.statics target _ is))) (it.returns waits).leads));
        };
      }
