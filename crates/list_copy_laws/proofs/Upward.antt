-- The loop that moves items of an array one place up in the same array, the last one first.
use Rattle.std.proofs.Common.{◌≡◌, ◌<◌, ℕ, suc, ◌+◌, ◌^◌, ◌||◌, false, true, List, [], ◌∷◌, ◌++◌, length, Option, Some, None, pos, refl, sym, ap, ◌∙◌, subst, arith, append_assoc, length-append}
use Rattle.std.specs.Prelude.{slice_get, slice_set}
use Rattle.std.proofs.lemmas.List.{append-nil}
use Rattle.csub_tree.specs.State.{Value, Unset, Word, Flag, Block, Core}
use Rattle.csub_tree.specs.Layout.{shape_at, shape_over}
use Rattle.csub_tree.specs.Operation.{is_unset, binary_of}
use Rattle.csub_tree.specs.Statement.{read}
use Rattle.csub_tree.specs.declared.tree.CBinary.TheVariants.{Gt}
use Rattle.csub_tree.specs.declared.tree.COperand.TheVariants.{Var}
use Rattle.ll_code.specs.State.{Frame, State, Calling, At}
use Rattle.ll_code.specs.Machine.{shapes_of}
use Rattle.ll_code.specs.declared.program.LlProgram.{LlProgram}
use Rattle.ll_leads.proofs.Joined.{leads_then, leads_more}
use Rattle.ll_leads.proofs.Ways.{many, enter, gives}
use Rattle.ll_texts.specs.Texts.{found}
use Rattle.ll_texts.proofs.Numbers.{adds, subs}
use Rattle.ll_texts.proofs.Writing.{put_mid}
use Rattle.rtyper_layout.specs.declared.layout.Layout.{Layout}
use Rattle.list_loops.specs.Loops.{move_up, up_start, up_asks, up_turn}
use Rattle.list_laws.proofs.Copying.{AllSet, array_with, read_mid, more_than}
use Rattle.list_laws.proofs.Moving.{both_wrote, puts_item}
use Rattle.object_laws.proofs.Blocks.{found_set, reads_item}
use Rattle.object_laws.proofs.Calling.{Returns}
use Rattle.object_laws.proofs.Changing.{Wrote, put_block, put_static, wrote_at}
use Rattle.object_laws.proofs.Writing.{with_item}

-- ---- a list by its last item

data Ended : List Value → Type 0 where
  none : Ended []
  last : (ys : List Value) (y : Value) → Ended ys → Ended (ys ++ y ∷ [])

more_ended : (xs ys : List Value) → Ended xs → Ended (xs ++ ys)
more_ended xs [] h = subst Ended (sym (append-nil xs)) h
more_ended xs (y ∷ ys) h = subst Ended (append_assoc xs (y ∷ []) ys) (more_ended (xs ++ y ∷ []) ys (last xs y h))

ended : (xs : List Value) → Ended xs
ended xs = more_ended [] xs none

first_set : (xs ys : List Value) → AllSet (xs ++ ys) → AllSet xs
first_set [] ys h = tt
first_set (x ∷ xs) ys h = (h.0, first_set xs ys h.1)

last_set : (xs : List Value) (y : Value) → AllSet (xs ++ y ∷ []) → is_unset y ≡ false
last_set [] y h = h.0
last_set (x ∷ xs) y h = last_set xs y h.1

-- ---- the loop

-- the items stand one place up, the place before them has some value, and the call comes back
pub record Raised (p : LlProgram) (args : List (List ℕ)) (most : ℕ) (s : List Frame → State) (core : Core) (target : Value) (a : ℕ) (fields pre xs post : List Value) : Type 0 where
  pub first : Value
  pub blocks : List (Option Block)
  pub statics : List Block
  pub wrote : Wrote core.blocks core.statics target (array_with a fields (pre ++ first ∷ (xs ++ post))) blocks statics
  pub returns : (waits : List Frame) → Returns p args most (s waits) Unset waits (record core { blocks = blocks; statics = statics })

module _ (p : LlProgram) (args : List (List ℕ)) (layout : Layout) (a f : ℕ) (shape : shape_at (shapes_of p.structs) a ≡ shape_over a 1 None) (graph : slice_get p.graphs f ≡ Some (move_up layout a)) (target : Value) (fields : List Value) where
  abbrev asks : Core → ℕ → ℕ → List Value → List Frame → State
  asks core i k rest waits = At up_asks.ops up_asks.exit waits (record core { function = f; block = 1; at = 0; vars = target ∷ Word (pos i) ∷ Word (pos k) ∷ rest })

  -- the items behind a place, and one place that may be written
  Holding : Core → List Value → List Value → Value → List Value → Type 0
  Holding core pre xs gap post = found core.blocks core.statics target ≡ Some (array_with a fields (pre ++ (xs ++ gap ∷ post)))

  Raises : Core → List Value → List Value → List Value → ℕ → ℕ → List Value → Type 0
  Raises core pre xs post i k rest = Raised p args (length xs) (asks core i k rest) core target a fields pre xs post

  -- the last item
  module _ (core : Core) (ys : List Value) (y : Value) (pre : List Value) (gap : Value) (post : List Value) (i k : ℕ) (ei : i ≡ length pre) (ek : k ≡ suc (length ys)) (is : found core.blocks core.statics target ≡ Some (array_with a fields (pre ++ ((ys ++ y ∷ []) ++ gap ∷ post)))) (set : is_unset y ≡ false)
      (small : length (pre ++ ((ys ++ y ∷ []) ++ gap ∷ post)) < 2 ^ 63) where
    abbrev items : List Value
    items = pre ++ ((ys ++ y ∷ []) ++ gap ∷ post)

    abbrev whole : Block
    whole = array_with a fields items

    abbrev from : ℕ
    from = i + length ys

    abbrev whole2 : Block
    whole2 = with_item whole (from + 1) y

    abbrev next_core : Core
    next_core = record core { blocks = put_block target whole2 core.blocks; statics = put_static target whole2 core.statics }

    wrote : Wrote core.blocks core.statics target whole2 next_core.blocks next_core.statics
    wrote = wrote_at core.blocks core.statics target whole whole2 is

    at_last : items ≡ (pre ++ ys) ++ y ∷ (gap ∷ post)
    at_last = ap (λ l. pre ++ l) (append_assoc ys (y ∷ []) (gap ∷ post)) ∙ sym (append_assoc pre ys (y ∷ gap ∷ post))

    at_gap : items ≡ (pre ++ (ys ++ y ∷ [])) ++ gap ∷ post
    at_gap = sym (append_assoc pre (ys ++ y ∷ []) (gap ∷ post))

    from_is : from ≡ length (pre ++ ys)
    from_is = ap (λ m. m + length ys) ei ∙ sym (length-append pre ys)

    gap_is : from + 1 ≡ length (pre ++ (ys ++ y ∷ []))
    gap_is = (let m : length (pre ++ (ys ++ y ∷ [])) ≡ length pre + length (ys ++ y ∷ []) = length-append pre (ys ++ y ∷ []) in let q : length (ys ++ y ∷ []) ≡ length ys + 1 = length-append ys (y ∷ []) in omega (arith, m, q, ei))

    long : length items ≡ length pre + (length ys + suc (suc (length post)))
    long = ap length at_last ∙ length-append (pre ++ ys) (y ∷ gap ∷ post) ∙ ap (λ m. m + suc (suc (length post))) (length-append pre ys) ∙ (let q : length pre + length ys + suc (suc (length post)) ≡ length pre + (length ys + suc (suc (length post))) = omega arith in q)

    items2 : slice_set items (from + 1) y ≡ pre ++ (ys ++ y ∷ (y ∷ post))
    items2 = ap (λ l. slice_set l (from + 1) y) at_gap ∙ put_mid (pre ++ (ys ++ y ∷ [])) gap post (from + 1) y gap_is ∙ append_assoc pre (ys ++ y ∷ []) (y ∷ post) ∙ ap (λ l. pre ++ l) (append_assoc ys (y ∷ []) (y ∷ post))

    target_set : is_unset target || false ≡ false
    target_set = ap (λ b. b || false) (found_set core.blocks core.statics target _ is)

    next_holds : Holding next_core pre ys y (y ∷ post)
    unfolding Holding
    next_holds = wrote.there ∙ ap (λ l. Some (array_with a fields l)) items2

    next_small : length (pre ++ (ys ++ y ∷ (y ∷ post))) < 2 ^ 63
    next_small = (let m : length (pre ++ (ys ++ y ∷ (y ∷ post))) ≡ length pre + length (ys ++ y ∷ (y ∷ post)) = length-append pre (ys ++ y ∷ (y ∷ post)) in let q : length (ys ++ y ∷ (y ∷ post)) ≡ length ys + suc (suc (length post)) = length-append ys (y ∷ y ∷ post) in omega (arith, m, q, long, small))

    turn : (t3 t4 t5 t6 t7 : Value) → Raises next_core pre ys (y ∷ post) i (length ys) (Flag true ∷ Word (pos (length ys)) ∷ Word (pos from) ∷ y ∷ Word (pos (from + 1)) ∷ []) → Raises core pre (ys ++ y ∷ []) post i k (t3 ∷ t4 ∷ t5 ∷ t6 ∷ t7 ∷ [])
    unfolding Raises move_up up_start up_asks up_turn
    turn t3 t4 t5 t6 t7 next = record {
      first = next.first;
      blocks = next.blocks;
      statics = next.statics;
      wrote = subst (λ l. Wrote core.blocks core.statics target (array_with a fields (pre ++ next.first ∷ l)) next.blocks next.statics) (sym (append_assoc ys (y ∷ []) post)) (both_wrote wrote next.wrote);
      returns = λ waits. record {
        end = (next.returns waits).end;
        same = (next.returns waits).same;
        leads = leads_more (0 + (0 + (0 + (0 + (0 + (0 + (1 + (0 + length ys)))))))) (length (ys ++ y ∷ [])) (let q : length (ys ++ y ∷ []) ≡ length ys + 1 = length-append ys (y ∷ []) in omega (arith, q))
            (leads_then (gives (Flag true) (ap (λ m. binary_of Gt (Word (pos m)) (Word (pos 0))) ek ∙ more_than (length ys)))
            (leads_then (many 1 graph refl target_set)
            (leads_then (gives (Word (pos (length ys))) (subs k 1 (length ys) (omega (arith, ek)) (omega (arith, small, long, ek))))
            (leads_then (gives (Word (pos from)) (adds i (length ys) (omega (arith, small, long, ei))))
            (leads_then (reads_item 1 whole y shape is refl set from refl (omega (arith, long, ei)) (ap (λ l. read l from) at_last ∙ read_mid (pre ++ ys) y (gap ∷ post) from from_is))
            (leads_then (gives (Word (pos (from + 1))) (adds from 1 (omega (arith, small, long, ei))))
            (leads_then (puts_item p args _ _ waits _ a 0 (Var 7) (Var 6) 1 whole (from + 1) y shape refl refl (omega (arith, long, ei)) refl set target refl is)
            (leads_then (many 1 graph refl target_set) (next.returns waits).leads))))))));
      };
    }

  raises : (core : Core) (pre xs : List Value) → Ended xs → (gap : Value) (post : List Value) (i k : ℕ) (t3 t4 t5 t6 t7 : Value) → i ≡ length pre → k ≡ length xs → Holding core pre xs gap post → AllSet xs → length (pre ++ (xs ++ gap ∷ post)) < 2 ^ 63 → Raises core pre xs post i k (t3 ∷ t4 ∷ t5 ∷ t6 ∷ t7 ∷ [])
  unfolding Holding Raises move_up up_start up_asks up_turn
  raises core pre [] none gap post i k t3 t4 t5 t6 t7 ei ek is set small = record {
    first = gap;
    blocks = core.blocks;
    statics = core.statics;
    wrote = record { there = is; others = λ x h. refl; made = refl; fixed = refl };
    returns = λ waits. record { end = _; same = refl; leads = leads_more (0 + 0) 0 (omega arith) (leads_then (gives (Flag false) (ap (λ m. binary_of Gt (Word (pos m)) (Word (pos 0))) ek)) (many 2 graph refl refl)) };
  }
  raises core pre _ (last ys y e) gap post i k t3 t4 t5 t6 t7 ei ek is set small =
      let ek2 : k ≡ suc (length ys) = (let q : length (ys ++ y ∷ []) ≡ length ys + 1 = length-append ys (y ∷ []) in omega (arith, q, ek)) in
      turn core ys y pre gap post i k ei ek2 is (last_set ys y set) small t3 t4 t5 t6 t7
      (raises (next_core core ys y pre gap post i k ei ek2 is (last_set ys y set) small) pre ys e y (y ∷ post) i (length ys) (Flag true) (Word (pos (length ys))) (Word (pos (i + length ys))) y (Word (pos (i + length ys + 1)))
      ei refl (next_holds core ys y pre gap post i k ei ek2 is (last_set ys y set) small) (first_set ys (y ∷ []) set) (next_small core ys y pre gap post i k ei ek2 is (last_set ys y set) small))

  -- the items behind a place are each one place higher
  pub raised : (core : Core) (pre xs : List Value) (gap : Value) (post : List Value) → found core.blocks core.statics target ≡ Some (array_with a fields (pre ++ (xs ++ gap ∷ post))) → AllSet xs → length (pre ++ (xs ++ gap ∷ post)) < 2 ^ 63
      → Raised p args (length xs) (λ waits. Calling f (target ∷ Word (pos (length pre)) ∷ Word (pos (length xs)) ∷ []) waits core) core target a fields pre xs post
  unfolding Holding Raises move_up up_start up_asks up_turn
  raised core pre xs gap post is set small =
      let it = raises core pre xs (ended xs) gap post (length pre) (length xs) Unset Unset Unset Unset Unset refl refl is set small in
      record {
        first = it.first;
        blocks = it.blocks;
        statics = it.statics;
        wrote = it.wrote;
        returns = λ waits. record {
          end = (it.returns waits).end;
          same = (it.returns waits).same;
          leads = leads_more (0 + (0 + length xs)) (length xs) (omega arith)
              (leads_then (enter graph refl)
              (leads_then (many 1 graph refl (ap (λ b. b || false) (found_set core.blocks core.statics target _ is))) (it.returns waits).leads));
        };
      }
