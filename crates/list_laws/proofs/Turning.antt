-- The loop that turns the items of an array around.
use Rattle.std.proofs.Common.{◌≡◌, ◌<◌, ◌≤◌, ℕ, zero, suc, ◌+◌, ◌^◌, ◌||◌, true, false, List, [], ◌∷◌, ◌++◌, length, Option, Some, None, Ok, pos, negsuc, ◌-ℤ◌, refl, sym, ap, ◌∙◌, subst, arith, append_assoc, length-append}
use Rattle.std.specs.Prelude.{slice_get, slice_set, reverse}
use Rattle.std.proofs.lemmas.Int.{int_wrap_fits, ints}
use Rattle.std.proofs.lemmas.List.{reverse-append}
use Rattle.std.specs.Int.{w64}
use Rattle.rpy_base.specs.Word.{wrap}
use Rattle.csub_tree.specs.State.{Value, Unset, Word, Flag, Block, Core}
use Rattle.csub_tree.specs.Layout.{shape_at, shape_over}
use Rattle.csub_tree.specs.Operation.{is_unset, binary_of}
use Rattle.csub_tree.specs.Statement.{read}
use Rattle.csub_tree.specs.declared.tree.CBinary.TheVariants.{Sub}
use Rattle.csub_tree.specs.declared.tree.COperand.TheVariants.{Var}
use Rattle.ll_code.specs.State.{Frame, State, Calling, At}
use Rattle.ll_code.specs.Machine.{shapes_of}
use Rattle.ll_code.specs.declared.program.LlProgram.{LlProgram}
use Rattle.ll_leads.proofs.Joined.{leads_then, leads_more}
use Rattle.ll_leads.proofs.Ways.{many, enter, gives}
use Rattle.ll_texts.specs.Texts.{found}
use Rattle.ll_texts.proofs.Numbers.{adds, subs, less_true, less_false}
use Rattle.ll_texts.proofs.Writing.{put_mid}
use Rattle.rtyper_layout.specs.declared.layout.Layout.{Layout}
use Rattle.rtyper_layout.specs.Types.{word}
use Rattle.list_shape.specs.Shapes.{shape_of}
use Rattle.list_loops.specs.Loops.{reverse as reverses, reverse_start, reverse_asks, reverse_turn}
use Rattle.list_laws.proofs.Copying.{AllSet, array_with, read_mid}
use Rattle.list_laws.proofs.Lengths.{HeadShape, HeadFound}
use Rattle.list_laws.proofs.Moving.{both_wrote, puts_item}
use Rattle.object_laws.specs.Represents.{head_block}
use Rattle.object_laws.proofs.Blocks.{found_set, reads_field, reads_item}
use Rattle.object_laws.proofs.Calling.{Returns}
use Rattle.object_laws.proofs.Changing.{Wrote, put_block, put_static, wrote_at}
use Rattle.object_laws.proofs.Writing.{with_item}

-- ---- a list by its two ends

data Ends : List Value → Type 0 where
  none : Ends []
  one : (x : Value) → Ends (x ∷ [])
  both : (x y : Value) (m : List Value) → Ends m → Ends (x ∷ (m ++ y ∷ []))

record Last (x : Value) (xs : List Value) : Type 0 where
  before : List Value
  last : Value
  is : x ∷ xs ≡ before ++ last ∷ []
  long : length before ≡ length xs

last_of : (x : Value) (xs : List Value) → Last x xs
last_of x [] = record { before = []; last = x; is = refl; long = refl }
last_of x (y ∷ ys) = (let s = last_of y ys in record { before = x ∷ s.before; last = s.last; is = ap (λ l. x ∷ l) s.is; long = ap suc s.long })

ends : (k : ℕ) (xs : List Value) → length xs ≤ k → Ends xs
ends k [] h = none
ends zero (x ∷ xs) h = absurd (omega (arith, h))
ends (suc k) (x ∷ []) h = one x
ends (suc k) (x ∷ y ∷ ys) h = (let s = last_of y ys in let l = s.long in subst (λ l. Ends (x ∷ l)) (sym s.is) (both x s.last s.before (ends k s.before (omega (arith, h, l)))))

pub reverse_first : {A : Type 0} (x : A) (xs : List A) → reverse (x ∷ xs) ≡ reverse xs ++ x ∷ []
reverse_first x xs = reverse-append (x ∷ []) xs

reverse_both : (x y : Value) (m : List Value) → reverse (x ∷ (m ++ y ∷ [])) ≡ y ∷ (reverse m ++ x ∷ [])
reverse_both x y m = reverse_first x (m ++ y ∷ []) ∙ ap (λ l. l ++ x ∷ []) (reverse-append m (y ∷ []))

first_set : (xs ys : List Value) → AllSet (xs ++ ys) → AllSet xs
first_set [] ys h = tt
first_set (x ∷ xs) ys h = (h.0, first_set xs ys h.1)

last_set : (xs : List Value) (y : Value) → AllSet (xs ++ y ∷ []) → is_unset y ≡ false
last_set [] y h = h.0
last_set (x ∷ xs) y h = last_set xs y h.1

minus_one : binary_of Sub (Word (pos 0)) (Word (pos 1)) ≡ Ok (Word (negsuc 0))
minus_one = ap (λ z. Ok (Word z)) ((let e : pos 0 -ℤ pos 1 ≡ negsuc 0 = omega (arith, ints) in ap wrap e) ∙ int_wrap_fits w64 (negsuc 0) (omega (arith, ints)))

-- ---- the loop

-- the items in the middle are turned around, and the call comes back
pub record Turned (p : LlProgram) (args : List (List ℕ)) (most : ℕ) (s : List Frame → State) (core : Core) (target : Value) (a : ℕ) (fields pre mid post : List Value) : Type 0 where
  pub blocks : List (Option Block)
  pub statics : List Block
  pub wrote : Wrote core.blocks core.statics target (array_with a fields (pre ++ (reverse mid ++ post))) blocks statics
  pub returns : (waits : List Frame) → Returns p args most (s waits) Unset waits (record core { blocks = blocks; statics = statics })

module _ (p : LlProgram) (args : List (List ℕ)) (layout : Layout) (n f : ℕ) (shape : shape_at (shapes_of p.structs) (word (n + 1)) ≡ shape_over (word (n + 1)) 1 None) (graph : slice_get p.graphs f ≡ Some (reverses (shape_of layout n))) (head target : Value) (fields : List Value) where
  abbrev a : ℕ
  a = word (n + 1)

  abbrev asks : Core → Value → Value → List Value → List Frame → State
  asks core i j rest waits = At reverse_asks.ops reverse_asks.exit waits (record core { function = f; block = 1; at = 0; vars = head ∷ target ∷ i ∷ j ∷ rest })

  abbrev Holding : Core → List Value → List Value → List Value → Type 0
  Holding core pre mid post = found core.blocks core.statics target ≡ Some (array_with a fields (pre ++ (mid ++ post)))

  abbrev Turns : Core → List Value → List Value → List Value → ℕ → ℕ → List Value → Type 0
  Turns core pre mid post i j rest = Turned p args (length mid) (asks core (Word (pos i)) (Word (pos j)) rest) core target a fields pre mid post

  -- two items are exchanged
  module _ (core : Core) (x y : Value) (m pre post : List Value) (i j : ℕ) (ei : i ≡ length pre) (ej : suc j ≡ length pre + suc (length (m ++ y ∷ []))) (is : Holding core pre (x ∷ (m ++ y ∷ [])) post) (set : AllSet (x ∷ (m ++ y ∷ []))) (small : length (pre ++ (x ∷ (m ++ y ∷ []) ++ post)) < 2 ^ 63) where
    abbrev whole : Block
    whole = array_with a fields (pre ++ (x ∷ (m ++ y ∷ []) ++ post))

    abbrev whole1 : Block
    whole1 = with_item whole i y

    abbrev whole2 : Block
    whole2 = with_item whole1 j x

    abbrev next_core : Core
    next_core = record core { blocks = put_block target whole2 (put_block target whole1 core.blocks); statics = put_static target whole2 (put_static target whole1 core.statics) }

    apart : (z : Value) → pre ++ (z ∷ (m ++ y ∷ []) ++ post) ≡ (pre ++ z ∷ m) ++ y ∷ post
    apart z = ap (λ l. pre ++ z ∷ l) (append_assoc m (y ∷ []) post) ∙ sym (append_assoc pre (z ∷ m) (y ∷ post))

    j_is : j ≡ length pre + suc (length m)
    j_is = (let l : length (m ++ y ∷ []) ≡ length m + 1 = length-append m (y ∷ []) in omega (arith, l, ej))

    j_at : (z : Value) → j ≡ length (pre ++ z ∷ m)
    j_at z = j_is ∙ sym (length-append pre (z ∷ m))

    items1 : slice_set (pre ++ (x ∷ (m ++ y ∷ []) ++ post)) i y ≡ pre ++ (y ∷ (m ++ y ∷ []) ++ post)
    items1 = put_mid pre x ((m ++ y ∷ []) ++ post) i y ei

    items2 : slice_set (slice_set (pre ++ (x ∷ (m ++ y ∷ []) ++ post)) i y) j x ≡ (pre ++ y ∷ []) ++ (m ++ x ∷ post)
    items2 = ap (λ l. slice_set l j x) (items1 ∙ apart y) ∙ put_mid (pre ++ y ∷ m) y post j x (j_at y) ∙ append_assoc pre (y ∷ m) (x ∷ post) ∙ sym (append_assoc pre (y ∷ []) (m ++ x ∷ post))

    wrote1 : Wrote core.blocks core.statics target whole1 (put_block target whole1 core.blocks) (put_static target whole1 core.statics)
    wrote1 = wrote_at core.blocks core.statics target whole whole1 is

    wrote2 : Wrote (put_block target whole1 core.blocks) (put_static target whole1 core.statics) target whole2 next_core.blocks next_core.statics
    wrote2 = wrote_at (put_block target whole1 core.blocks) (put_static target whole1 core.statics) target whole1 whole2 wrote1.there

    whole_long : length (pre ++ (x ∷ (m ++ y ∷ []) ++ post)) ≡ length pre + suc (length m + suc (length post))
    whole_long = length-append pre (x ∷ (m ++ y ∷ []) ++ post) ∙ ap (λ l. length pre + suc l) (ap length (append_assoc m (y ∷ []) post) ∙ length-append m (y ∷ post))

    whole1_long : length (slice_set (pre ++ (x ∷ (m ++ y ∷ []) ++ post)) i y) ≡ length pre + suc (length m + suc (length post))
    whole1_long = ap length items1 ∙ length-append pre (y ∷ (m ++ y ∷ []) ++ post) ∙ ap (λ l. length pre + suc l) (ap length (append_assoc m (y ∷ []) post) ∙ length-append m (y ∷ post))

    there_y : read (pre ++ (x ∷ (m ++ y ∷ []) ++ post)) j ≡ y
    there_y = ap (λ l. read l j) (apart x) ∙ read_mid (pre ++ x ∷ m) y post j (j_at x)

    set_y : is_unset y ≡ false
    set_y = last_set m y set.1

    target_set : is_unset target || false ≡ false
    target_set = ap (λ b. b || false) (found_set core.blocks core.statics target _ is)

    next_holds : Holding next_core (pre ++ y ∷ []) m (x ∷ post)
    next_holds = wrote2.there ∙ ap (λ l. Some (array_with a fields l)) items2

    next_small : length ((pre ++ y ∷ []) ++ (m ++ x ∷ post)) < 2 ^ 63
    next_small = (let l : length ((pre ++ y ∷ []) ++ (m ++ x ∷ post)) ≡ length (pre ++ y ∷ []) + length (m ++ x ∷ post) = length-append (pre ++ y ∷ []) (m ++ x ∷ post) in let k : length (pre ++ y ∷ []) ≡ length pre + 1 = length-append pre (y ∷ []) in let q : length (m ++ x ∷ post) ≡ length m + suc (length post) = length-append m (x ∷ post) in omega (arith, l, k, q, small, whole_long))

    turned_are : (pre ++ y ∷ []) ++ (reverse m ++ x ∷ post) ≡ pre ++ (reverse (x ∷ (m ++ y ∷ [])) ++ post)
    turned_are = append_assoc pre (y ∷ []) (reverse m ++ x ∷ post) ∙ ap (λ l. pre ++ y ∷ l) (sym (append_assoc (reverse m) (x ∷ []) post)) ∙ ap (λ l. pre ++ (l ++ post)) (sym (reverse_both x y m))

    turn : (t4 t5 t6 t7 t8 : Value) → Turns next_core (pre ++ y ∷ []) m (x ∷ post) (i + 1) (length pre + length m) (Flag true ∷ x ∷ y ∷ Word (pos (i + 1)) ∷ Word (pos (length pre + length m)) ∷ []) → Turns core pre (x ∷ (m ++ y ∷ [])) post i j (t4 ∷ t5 ∷ t6 ∷ t7 ∷ t8 ∷ [])
    unfolding reverses reverse_start reverse_asks reverse_turn
    turn t4 t5 t6 t7 t8 next = record {
      blocks = next.blocks;
      statics = next.statics;
      wrote = subst (λ items. Wrote core.blocks core.statics target (array_with a fields items) next.blocks next.statics) turned_are (both_wrote wrote1 (both_wrote wrote2 next.wrote));
      returns = λ waits. record {
        end = (next.returns waits).end;
        same = (next.returns waits).same;
        leads = leads_more (0 + (0 + (0 + (0 + (1 + (1 + (0 + (0 + (0 + length m))))))))) (suc (length (m ++ y ∷ []))) (let l : length (m ++ y ∷ []) ≡ length m + 1 = length-append m (y ∷ []) in omega (arith, l))
            (leads_then (gives (Flag true) (less_true i j (omega (arith, ei, j_is))))
            (leads_then (many 1 graph refl target_set)
            (leads_then (reads_item 1 whole x shape is refl set.0 i refl (omega (arith, ei, whole_long)) (read_mid pre x ((m ++ y ∷ []) ++ post) i ei))
            (leads_then (reads_item 1 whole y shape is refl set_y j refl (omega (arith, j_is, whole_long)) there_y)
            (leads_then (puts_item p args _ _ waits _ a 1 (Var 2) (Var 6) 1 whole i y shape refl refl (omega (arith, ei, whole_long)) refl set_y target refl is)
            (leads_then (puts_item p args _ _ waits _ a 1 (Var 3) (Var 5) 1 whole1 j x shape refl refl (omega (arith, j_is, whole1_long)) refl set.0 target refl wrote1.there)
            (leads_then (gives (Word (pos (i + 1))) (adds i 1 (omega (arith, small, whole_long, ei))))
            (leads_then (gives (Word (pos (length pre + length m))) (subs j 1 (length pre + length m) (omega (arith, j_is)) (omega (arith, small, whole_long, j_is))))
            (leads_then (many 1 graph refl target_set) (next.returns waits).leads)))))))));
      };
    }

  turns : (core : Core) (pre mid post : List Value) → Ends mid → (i j : ℕ) (t4 t5 t6 t7 t8 : Value) → i ≡ length pre → suc j ≡ length pre + length mid → Holding core pre mid post → AllSet mid → length (pre ++ (mid ++ post)) < 2 ^ 63 → Turns core pre mid post i j (t4 ∷ t5 ∷ t6 ∷ t7 ∷ t8 ∷ [])
  unfolding reverses reverse_start reverse_asks reverse_turn
  turns core pre [] post none i j t4 t5 t6 t7 t8 ei ej is set small = record {
    blocks = core.blocks;
    statics = core.statics;
    wrote = record { there = is; others = λ x h. refl; made = refl; fixed = refl };
    returns = λ waits. record { end = _; same = refl; leads = leads_more (0 + 0) 0 (omega arith) (leads_then (gives (Flag false) (less_false i j (omega (arith, ei, ej)))) (many 2 graph refl refl)) };
  }
  turns core pre _ post (one x) i j t4 t5 t6 t7 t8 ei ej is set small = record {
    blocks = core.blocks;
    statics = core.statics;
    wrote = record { there = is; others = λ x h. refl; made = refl; fixed = refl };
    returns = λ waits. record { end = _; same = refl; leads = leads_more (0 + 0) 1 (omega arith) (leads_then (gives (Flag false) (less_false i j (omega (arith, ei, ej)))) (many 2 graph refl refl)) };
  }
  turns core pre _ post (both x y m e) i j t4 t5 t6 t7 t8 ei ej is set small =
      turn core x y m pre post i j ei ej is set small t4 t5 t6 t7 t8
      (turns (next_core core x y m pre post i j ei ej is set small) (pre ++ y ∷ []) m (x ∷ post) e (i + 1) (length pre + length m) (Flag true) x y (Word (pos (i + 1))) (Word (pos (length pre + length m)))
      (ap (λ k. k + 1) ei ∙ sym (length-append pre (y ∷ []))) (let l : length (pre ++ y ∷ []) ≡ length pre + 1 = length-append pre (y ∷ []) in omega (arith, l))
      (next_holds core x y m pre post i j ei ej is set small) (first_set m (y ∷ []) set.1) (next_small core x y m pre post i j ei ej is set small))

  -- the whole call, of a list of so many items
  module _ (core : Core) (head_shape : HeadShape p n) (count : ℕ) (is_head : HeadFound core head n count target) where
    pub turned : (mid post : List Value) → length mid ≡ count → found core.blocks core.statics target ≡ Some (array_with a fields (mid ++ post)) → AllSet mid → length (mid ++ post) < 2 ^ 63 → Turned p args count (λ waits. Calling f (head ∷ []) waits core) core target a fields [] mid post
    unfolding reverses reverse_start reverse_asks reverse_turn
    turned [] post e is set small = record {
      blocks = core.blocks;
      statics = core.statics;
      wrote = record { there = is; others = λ x h. refl; made = refl; fixed = refl };
      returns = λ waits. record {
        end = _;
        same = refl;
        leads = leads_more (0 + (0 + (0 + (0 + (0 + (0 + 0)))))) count (omega arith)
            (leads_then (enter graph refl)
            (leads_then (reads_field 2 (head_block n count target) (Word (pos count)) head_shape is_head refl refl 0 refl)
            (leads_then (gives (Word (negsuc 0)) (ap (λ c. binary_of Sub (Word (pos c)) (Word (pos 1))) (sym e) ∙ minus_one))
            (leads_then (reads_field 2 (head_block n count target) target head_shape is_head refl (found_set core.blocks core.statics target _ is) 1 refl)
            (leads_then (many 1 graph refl (ap (λ b. b || false) (found_set core.blocks core.statics target _ is)))
            (leads_then (gives (Flag false) refl) (many 2 graph refl refl)))))));
      };
    }
    turned (x ∷ xs) post e is set small =
        let it = turns core [] (x ∷ xs) post (ends (length (x ∷ xs)) (x ∷ xs) (omega arith)) 0 (length xs) Unset Unset Unset (Word (pos count)) Unset refl (omega arith) is set small in
        record {
          blocks = it.blocks;
          statics = it.statics;
          wrote = it.wrote;
          returns = λ waits. record {
            end = (it.returns waits).end;
            same = (it.returns waits).same;
            leads = leads_more (0 + (0 + (0 + (0 + (0 + suc (length xs)))))) count (omega (arith, e))
                (leads_then (enter graph refl)
                (leads_then (reads_field 2 (head_block n count target) (Word (pos count)) head_shape is_head refl refl 0 refl)
                (leads_then (gives (Word (pos (length xs))) (subs count 1 (length xs) (omega (arith, e)) (let l : length (x ∷ xs ++ post) ≡ suc (length xs) + length post = length-append (x ∷ xs) post in omega (arith, e, l, small))))
                (leads_then (reads_field 2 (head_block n count target) target head_shape is_head refl (found_set core.blocks core.statics target _ is) 1 refl)
                (leads_then (many 1 graph refl (ap (λ b. b || false) (found_set core.blocks core.statics target _ is))) (it.returns waits).leads)))));
          };
        }
