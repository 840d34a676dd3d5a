-- The graph that makes a list of the items of another, so many times, at its cost.
use Rattle.std.proofs.Common.{◌≡◌, ◌<◌, ◌≤◌, ℕ, zero, suc, ◌+◌, ◌-◌, ◌*◌, ◌^◌, ◌||◌, Bool, true, false, List, [], ◌∷◌, ◌++◌, length, Option, Some, Ok, ℤ, pos, negsuc, refl, sym, ap, ◌∙◌, subst, arith, append_assoc, length-append}
use Rattle.std.specs.Prelude.{nat_lt, not}
use Rattle.std.specs.List.{repeat}
use Rattle.ann_element.specs.declared.element.Element.{Element}
use Rattle.csub_tree.specs.State.{Value, Unset, Word, Flag, Ptr, Block, Core}
use Rattle.csub_tree.specs.Operation.{is_unset, binary_of}
use Rattle.csub_tree.specs.declared.tree.CBinary.TheVariants as binary
use Rattle.csub_tree.specs.declared.tree.COperand.TheVariants.{Var}
use Rattle.ll_code.specs.State.{Frame, Calling, Returning, At}
use Rattle.ll_code.specs.declared.program.LlOp.{LlOp}
use Rattle.ll_code.specs.declared.program.LlOp.TheVariants as op
use Rattle.ll_code.specs.declared.program.LlExit.{LlExit}
use Rattle.ll_code.specs.declared.program.LlExit.TheVariants as exit
use Rattle.ll_code.specs.declared.program.LlProgram.{LlProgram}
use Rattle.ll_held.proofs.Keeping.{in_second}
use Rattle.ll_held.specs.Roots.{slots, waiting_roots}
use Rattle.ll_leads.specs.Memory.{forgotten}
use Rattle.ll_leads.specs.Path.{Leads}
use Rattle.ll_leads.proofs.Joined.{leads_then, leads_more}
use Rattle.ll_leads.proofs.Ways.{on, many, enter, gives, pays, lacks}
use Rattle.ll_build.specs.Build.{word as word_operand}
use Rattle.ll_texts.specs.Follows.{Lacked}
use Rattle.ll_texts.proofs.Numbers.{adds, less_true, less_false, wrap_count}
use Rattle.rpy_tree.specs.Value.{Value as Meant, Heap}
use Rattle.rpy_meaning.specs.Sequences.{count as times_of}
use Rattle.rtyper_layout.specs.declared.layout.Layout.{Layout}
use Rattle.rtyper_layout.specs.Layout.{is_list}
use Rattle.rtyper_layout.specs.Types.{word}
use Rattle.rtyper_data.specs.declared.small.Listed.TheVariants.{Make, Copy}
use Rattle.rtyper_data.specs.declared.small.Small.TheVariants as small
use Rattle.rtyper_data.specs.Finding.{small_number}
use Rattle.list_shape.specs.Shapes.{item_of, shape_of, gives as gives_block}
use Rattle.list_loops.specs.Making.{repeat as repeats, repeat_graph, repeat_makes, repeat_copies, repeat_start, repeat_asks, repeat_beyond, repeat_paid, repeat_turn, repeat_more, repeat_types, too_much}
use Rattle.list_laws.specs.Asked.{HasRepeat}
use Rattle.list_laws.proofs.Making.{made_list}
use Rattle.list_laws.proofs.Roomed.{all_set}
use Rattle.object_laws.specs.Known.{Known}
use Rattle.object_laws.specs.Done.{HasLayout}
use Rattle.object_laws.specs.Ghost.{Ghost, Array}
use Rattle.object_laws.specs.Represents.{Represents, ListAt, HasRoom, head_block, array_block}
use Rattle.object_laws.specs.Values.{EachHolds, Empty}
use Rattle.object_laws.proofs.Blocks.{found_set, reads_field}
use Rattle.object_laws.proofs.Calling.{Returns, calls_back}
use Rattle.object_laws.proofs.Valued.{each_long}
use Rattle.list_copy_laws.proofs.Between.{copy_is}
use Rattle.list_copy_laws.proofs.Extending.{each_both}
use Rattle.list_copy_laws.proofs.Fresh.{raw, raw_long, raw_both, two_more, head_of, head_found, old_found, fills, MadeList, made_so}
use Rattle.list_copy_laws.proofs.Tests.{is_less, not_less, less_is, not_less_is}

-- ---- products

overflows : (m n : ℕ) (c : Bool) → nat_lt (m * n) (2 ^ 63) ≡ c → binary_of binary.MulOvf (Word (pos m)) (Word (pos n)) ≡ Ok (Flag (not c))
overflows m n c e = ap (λ b. Ok (Flag (not b))) e

product_is : (m n : ℕ) → m * n < 2 ^ 63 → binary_of binary.Mul (Word (pos m)) (Word (pos n)) ≡ Ok (Word (pos (m * n)))
product_is m n h = ap (λ z. Ok (Word z)) (wrap_count (m * n) h)

once_more : (m n : ℕ) → m * suc n ≡ m + m * n
once_more m n = grind arith

no_times : (m : ℕ) → m * 0 ≡ 0
no_times m = grind arith

none_so_often : (n : ℕ) → 0 * n ≡ 0
none_so_often n = grind arith

pub repeat_long : {A : Type 0} (n : ℕ) (xs : List A) → length (repeat n xs) ≡ length xs * n
repeat_long zero xs = sym (no_times (length xs))
repeat_long (suc n) xs = length-append xs (repeat n xs) ∙ ap (λ k. length xs + k) (repeat_long n xs) ∙ sym (once_more (length xs) n)

each_repeated : {layout : Layout} {known : Known} {g : Ghost} {seen : Option Element} {xs : List Value} {vs : List Meant} (n : ℕ) → EachHolds layout known g seen xs vs → EachHolds layout known g seen (repeat n xs) (repeat n vs)
each_repeated zero each = Empty
each_repeated (suc n) each = each_both each (each_repeated n each)

nothing_repeated : (n : ℕ) (xs : List Value) → length xs ≡ 0 → repeat n xs ≡ []
nothing_repeated zero xs h = refl
nothing_repeated (suc n) [] h = nothing_repeated n [] refl
nothing_repeated (suc n) (x ∷ xs) h = absurd (omega (arith, h))

module _ (p : LlProgram) (args : List (List ℕ)) (layout : Layout) (known : Known) (raised : ℕ → Value) (structs : HasLayout p layout) (l n : ℕ) (struct : is_list layout l ≡ true) (struct2 : is_list layout n ≡ true) (f : ℕ) (has : HasRepeat p layout raised l n f)
    (typed : item_of layout (word (l + 1)) ≡ item_of layout (word (n + 1))) (each_as : (xs : List Value) (vs : List Meant) (g : Ghost) → EachHolds layout known g (known.items l) xs vs → EachHolds layout known g (known.items n) xs vs)
    (g : Ghost) (heap : Heap) (left : ℕ) (core : Core) (r : Represents layout known g heap left core.blocks core.statics) (steps : left ≡ core.steps)
    (i : ℕ) (head : Value) (s : ListAt layout known g heap left core.blocks core.statics l i head) (z : ℤ) where
  abbrev a : ℕ
  a = word (n + 1)

  abbrev makes : ℕ
  makes = (small_number (small.Listed (Make n)) has.made).0

  abbrev copies : ℕ
  copies = (small_number (small.Listed (Copy (word (l + 1)) a)) (small_number (small.Listed (Make n)) has.made).1).0

  abbrev count : ℕ
  count = length s.items

  abbrev t : ℕ
  t = times_of z

  abbrev k : ℕ
  k = count * t

  head_set : is_unset head ≡ false
  head_set = found_set core.blocks core.statics head _ s.head_is

  passes : is_unset head || false ≡ false
  passes = ap (λ b. b || false) head_set

  abbrev vars : Value → Value → Value → Value → Value → Value → Value → List Value
  vars v3 v4 v5 v6 v7 v8 v9 = head ∷ Word (pos t) ∷ Word (pos count) ∷ v3 ∷ v4 ∷ v5 ∷ v6 ∷ v7 ∷ v8 ∷ v9 ∷ []

  -- ---- how many times

  abbrev asking : Value → Core
  asking flag = record core { function = f; block = 1; at = 0; vars = vars flag Unset Unset Unset Unset Unset Unset }

  abbrev Comes : ℤ → ℕ → Value → Type 0
  Comes z t flag = (waits : List Frame) → Leads p args 0 (Calling f (head ∷ Word z ∷ []) waits core) [] (At repeat_asks.ops repeat_asks.exit waits (record (asking flag) { vars = head ∷ Word (pos t) ∷ Word (pos count) ∷ flag ∷ Unset ∷ Unset ∷ Unset ∷ Unset ∷ Unset ∷ Unset ∷ [] }))

  starts : (z : ℤ) → (flag : Value) × Comes z (times_of z) flag
  unfolding repeats repeat_graph repeat_makes repeat_copies repeat_start repeat_asks repeat_types
  starts (pos t) = (Flag false, λ waits. on (enter has.graph refl) (on (reads_field 2 (head_block l count s.array) (Word (pos count)) (structs.heads l struct) s.head_is refl refl 0 refl) (on (gives (Flag false) (less_false t 0 (omega arith))) (many 1 has.graph refl passes))))
  starts (negsuc t) = (Flag true, λ waits. on (enter has.graph refl) (on (reads_field 2 (head_block l count s.array) (Word (pos count)) (structs.heads l struct) s.head_is refl refl 0 refl) (on (gives (Flag true) refl) (many 1 has.graph refl passes))))

  flag : Value
  flag = (starts z).0

  comes : Comes z t flag
  unfolding flag
  comes = (starts z).1

  -- ---- the new length is no word

  beyond : 2 ^ 63 ≤ k → (waits : List Frame) → Lacked p args (Calling f (head ∷ Word z ∷ []) waits core) core
  unfolding repeats repeat_graph repeat_makes repeat_copies repeat_start repeat_asks repeat_beyond repeat_paid repeat_types
  beyond h waits = record {
    last = At repeat_beyond.ops repeat_beyond.exit waits (record core { function = f; block = 2; at = 0; vars = vars (Flag true) Unset Unset Unset Unset Unset Unset });
    leads = on (comes waits) (on (gives (Flag true) (overflows count t false (not_less_is k (2 ^ 63) h))) (many 1 has.graph refl refl));
    ends = lacks p args [] (exit.Fail 5) waits (record core { function = f; block = 2; at = 0; vars = vars (Flag true) Unset Unset Unset Unset Unset Unset }) (word_operand too_much) 4611686018427387904 refl (let q = r.few in omega (arith, q, steps));
    blocks = refl;
    holds = λ b h. in_second b (head ∷ Word z ∷ []) (slots core ++ waiting_roots p waits) h;
  }

  -- ---- it is one

  module _ (small : k < 2 ^ 63) where
    abbrev sized_vars : List Value
    sized_vars = vars (Flag false) (Word (pos k)) Unset Unset Unset Unset Unset

    abbrev at_step : ℕ → ℕ → Core
    at_step at left = record core { function = f; block = 3; at = at; vars = sized_vars; steps = left }

    abbrev copying : List LlOp
    copying = op.Call (Some 5) makes (Var 4 ∷ []) ∷ op.GetField 6 n 5 1 ∷ op.GetField 7 l 0 1 ∷ []

    abbrev goes_on : LlExit
    goes_on = (repeat_paid makes (shape_of layout l) (shape_of layout n)).exit

    sized : (waits : List Frame) → Leads p args 0 (Calling f (head ∷ Word z ∷ []) waits core) [] (At (op.Step (word_operand (pos 1)) ∷ op.Step (Var 4) ∷ copying) goes_on waits (record (at_step 1 left) { steps = core.steps }))
    unfolding repeats repeat_graph repeat_makes repeat_copies repeat_start repeat_asks repeat_beyond repeat_paid repeat_types
    sized waits = on (comes waits) (on (gives (Flag false) (overflows count t true (less_is k (2 ^ 63) small))) (on (many 1 has.graph refl passes) (gives (Word (pos k)) (product_is count t small))))

    lacks_one : left < 1 → (waits : List Frame) → Lacked p args (Calling f (head ∷ Word z ∷ []) waits core) core
    unfolding repeats repeat_graph repeat_makes repeat_copies repeat_start repeat_asks repeat_beyond repeat_paid repeat_turn repeat_more repeat_types gives_block
    lacks_one short waits = record {
      last = At (op.Step (word_operand (pos 1)) ∷ op.Step (Var 4) ∷ copying) goes_on waits (record (at_step 1 left) { steps = core.steps });
      leads = sized waits;
      ends = lacks p args (op.Step (Var 4) ∷ copying) goes_on waits (record (at_step 1 left) { steps = core.steps }) (word_operand (pos 1)) 1 refl (omega (arith, short, steps));
      blocks = refl;
      holds = λ b h. h;
    }

    lacks_two : 1 ≤ left → left < 1 + k → (waits : List Frame) → Lacked p args (Calling f (head ∷ Word z ∷ []) waits core) core
    unfolding repeats repeat_graph repeat_makes repeat_copies repeat_start repeat_asks repeat_beyond repeat_paid repeat_turn repeat_more repeat_types gives_block
    lacks_two enough short waits = record {
      last = At (op.Step (Var 4) ∷ copying) goes_on waits (at_step 2 (left - 1));
      leads = on (sized waits) (pays 1 (left - 1) refl (omega (arith, enough, steps)));
      ends = lacks p args copying goes_on waits (at_step 2 (left - 1)) (Var 4) k refl (omega (arith, short, enough));
      blocks = refl;
      holds = λ b h. h;
    }

    -- ---- the list

    module _ (enough : 1 + k ≤ left) where
      abbrev paid : ℕ
      paid = left - (1 + k)

      abbrev bs : List (Option Block)
      bs = core.blocks

      abbrev array : Value
      array = Ptr (length bs)

      abbrev new_head : Value
      new_head = head_of bs n k (raw k)

      array_set : is_unset s.array ≡ false
      array_set = found_set bs core.statics s.array _ s.array_is

      array_passes : is_unset s.array || false ≡ false
      array_passes = ap (λ b. b || false) array_set

      values_long : length s.values ≡ count
      values_long = each_long s.each

      abbrev turning : ℕ → Value → Value → List Value → Core
      turning at v3 v9 items = record core { function = f; block = 5; at = 0; vars = vars v3 (Word (pos k)) new_head array s.array (Word (pos at)) v9; blocks = two_more bs n k items; steps = paid }

      abbrev copy_core : ℕ → Value → List Value → Core
      copy_core at v9 items = record core { function = f; block = 4; at = 0; vars = vars (Flag true) (Word (pos k)) new_head array s.array (Word (pos at)) v9; blocks = two_more bs n k items; steps = paid }

      filling : (v9 : Value) (pre : List Value) (rest : ℕ) → length pre + (count + rest) ≡ k
          → (waits : List Frame) → Returns p args (length s.values) (Calling copies (s.array ∷ Word (pos 0) ∷ array ∷ Word (pos (length pre)) ∷ Word (pos (length s.values)) ∷ []) waits (copy_core (length pre) v9 (pre ++ (raw count ++ raw rest)))) Unset waits (record (copy_core (length pre) v9 (pre ++ (raw count ++ raw rest))) { blocks = two_more bs n k (pre ++ (s.values ++ raw rest)) })
      filling v9 pre rest full = fills p args (word (l + 1)) n copies (item_of layout (word (l + 1))) (structs.arrays l struct) (structs.arrays n struct2) (has.copies.graph ∙ ap Some (copy_is layout (word (l + 1)) a has.copies.made typed)) g bs r.made s.array (Array i) s.array_use (array_block l (s.values ++ s.spare)) refl s.long k small
          (copy_core (length pre) v9 (pre ++ (raw count ++ raw rest))) s.values (raw count) [] s.spare pre (raw rest) refl s.array_is refl (all_set r s.each) (raw_long count ∙ sym values_long)
          (length-append pre (raw count ++ raw rest) ∙ ap (λ q. length pre + q) (length-append (raw count) (raw rest) ∙ ap (λ q. q + length (raw rest)) (raw_long count) ∙ ap (λ q. count + q) (raw_long rest)) ∙ full)

      abbrev Loops : ℕ → ℕ → Value → Value → List Value → Type 0
      Loops m rest v3 v9 pre = (waits : List Frame) → Returns p args rest (At repeat_more.ops repeat_more.exit waits (turning (length pre) v3 v9 (pre ++ raw rest))) new_head waits (record core { blocks = two_more bs n k (pre ++ repeat m s.values); steps = paid })

      done : (pre : List Value) (v3 v9 : Value) → length pre ≡ k → Loops 0 0 v3 v9 pre
      unfolding repeats repeat_graph repeat_makes repeat_copies repeat_turn repeat_more repeat_types gives_block
      done pre v3 v9 full waits = record {
        end = _;
        same = refl;
        leads = leads_more (0 + 0) 0 (omega arith) (leads_then (gives (Flag false) (less_false (length pre) k (omega (arith, full)))) (many 2 has.graph refl refl));
      }

      turn : (m rest : ℕ) (pre : List Value) (v3 v9 : Value) → 0 < count → length pre + (count + rest) ≡ k → Loops m rest (Flag true) (Word (pos (length pre + count))) (pre ++ s.values) → Loops (suc m) (count + rest) v3 v9 pre
      unfolding repeats repeat_graph repeat_makes repeat_copies repeat_turn repeat_more repeat_types gives_block
      turn m rest pre v3 v9 some full next waits = record {
        end = (next waits).end;
        same = (next waits).same ∙ ap (λ l. forgotten (record core { blocks = two_more bs n k l; steps = paid })) (append_assoc pre s.values (repeat m s.values));
        leads = subst (λ l. Leads p args (count + rest) (At repeat_more.ops repeat_more.exit waits (turning (length pre) v3 v9 (pre ++ l))) [] (Returning new_head waits (next waits).end)) (sym (raw_both count rest))
            (leads_more (0 + (0 + (length s.values + (0 + (0 + rest))))) (count + rest) (omega (arith, values_long))
            (leads_then (gives (Flag true) (less_true (length pre) k (omega (arith, some, full))))
            (leads_then (many 1 has.graph refl array_passes)
            (leads_then (calls_back {core = copy_core (length pre) v9 (pre ++ (raw count ++ raw rest))} (length s.values) (ap (λ q. s.array ∷ Word (pos 0) ∷ array ∷ Word (pos (length pre)) ∷ Word (pos q) ∷ []) (sym values_long)) array_passes (filling v9 pre rest full))
            (leads_then (gives (Word (pos (length pre + count))) (adds (length pre) count (omega (arith, full, small))))
            (leads_then (many 1 has.graph refl array_passes) next_so))))));
      }
        where
          at_is : length (pre ++ s.values) ≡ length pre + count
          at_is = length-append pre s.values ∙ ap (λ q. length pre + q) values_long

          next_so : Leads p args rest (At repeat_more.ops repeat_more.exit waits (turning (length pre + count) (Flag true) (Word (pos (length pre + count))) (pre ++ (s.values ++ raw rest)))) [] (Returning new_head waits (next waits).end)
          next_so = subst (λ at. Leads p args rest (At repeat_more.ops repeat_more.exit waits (turning at (Flag true) (Word (pos (length pre + count))) (pre ++ (s.values ++ raw rest)))) [] (Returning new_head waits (next waits).end)) at_is
              (subst (λ l. Leads p args rest (At repeat_more.ops repeat_more.exit waits (turning (length (pre ++ s.values)) (Flag true) (Word (pos (length pre + count))) l)) [] (Returning new_head waits (next waits).end)) (append_assoc pre s.values (raw rest)) (next waits).leads)

      loops : (m : ℕ) (pre : List Value) (v3 v9 : Value) → 0 < count → length pre + count * m ≡ k → Loops m (count * m) v3 v9 pre
      loops zero pre v3 v9 some full = subst (λ rest. Loops 0 rest v3 v9 pre) (sym (no_times count)) (done pre v3 v9 (let q = no_times count in omega (arith, full, q)))
      loops (suc m) pre v3 v9 some full =
          let q : count * suc m ≡ count + count * m = once_more count m in
          let full_so : length pre + (count + count * m) ≡ k = ap (λ c. length pre + c) (sym q) ∙ full in
          let next_full : length (pre ++ s.values) + count * m ≡ k = (let w : length (pre ++ s.values) ≡ length pre + length s.values = length-append pre s.values in let u : length (pre ++ s.values) + count * m ≡ length pre + (count + count * m) = omega (arith, w, values_long) in u ∙ full_so) in
          subst (λ rest. Loops (suc m) rest v3 v9 pre) (sym q) (turn m (count * m) pre v3 v9 some full_so (loops m (pre ++ s.values) (Flag true) (Word (pos (length pre + count))) some next_full))

      -- whether there are items or not
      all_turns : (v3 v9 : Value) → (waits : List Frame) → Returns p args k (At repeat_more.ops repeat_more.exit waits (turning 0 v3 v9 (raw k))) new_head waits (record core { blocks = two_more bs n k (repeat t s.values); steps = paid })
      all_turns v3 v9 = by count refl
        where
          by : (c : ℕ) → count ≡ c → (waits : List Frame) → Returns p args k (At repeat_more.ops repeat_more.exit waits (turning 0 v3 v9 (raw k))) new_head waits (record core { blocks = two_more bs n k (repeat t s.values); steps = paid })
          by zero h = (let none : k ≡ 0 = ap (λ c. c * t) h ∙ none_so_often t in let nothing : repeat t s.values ≡ [] = nothing_repeated t s.values (values_long ∙ h) in
              subst (λ l. (waits : List Frame) → Returns p args k (At repeat_more.ops repeat_more.exit waits (turning 0 v3 v9 (raw k))) new_head waits (record core { blocks = two_more bs n k l; steps = paid })) (sym nothing)
              (subst (λ q. (waits : List Frame) → Returns p args q (At repeat_more.ops repeat_more.exit waits (turning 0 v3 v9 (raw q))) new_head waits (record core { blocks = two_more bs n k []; steps = paid })) (sym none) (done [] v3 v9 (sym none))))
          by (suc c) h = loops t [] v3 v9 (omega (arith, h)) (let q : 0 + k ≡ k = omega arith in q)

      comes_back : (waits : List Frame) → Returns p args (k + 1) (Calling f (head ∷ Word z ∷ []) waits core) new_head waits (record core { blocks = two_more bs n k (repeat t s.values); steps = paid })
      unfolding repeats repeat_graph repeat_makes repeat_copies repeat_start repeat_asks repeat_beyond repeat_paid repeat_turn repeat_more repeat_types gives_block
      comes_back waits = record {
        end = (all_turns (Flag false) Unset waits).end;
        same = (all_turns (Flag false) Unset waits).same;
        leads = leads_more (0 + (0 + (0 + (1 + (0 + (0 + (0 + k))))))) (k + 1) (omega arith)
            (leads_then (sized waits)
            (leads_then (pays 1 (left - 1) refl (omega (arith, enough, steps)))
            (leads_then (pays k paid refl (omega (arith, enough)))
            (leads_then (calls_back {core = at_step 3 paid} 1 refl refl (λ waits. made_list p args layout n makes k (structs.heads n struct2) (structs.arrays n struct2) has.makes.graph (at_step 3 paid) waits))
            (leads_then (reads_field 2 (head_block n k array) array (structs.heads n struct2) (head_found bs n k (raw k) core.statics) refl refl 1 refl)
            (leads_then (reads_field 2 (head_block l count s.array) s.array (structs.heads l struct) (old_found bs n k (raw k) core.statics head (head_block l count s.array) s.head_is) refl array_set 1 refl)
            (leads_then (many 1 has.graph refl array_passes) (all_turns (Flag false) Unset waits).leads)))))));
      }

      repeated_so : MadeList p args layout known g heap (left - (1 + length (repeat t s.items))) n (repeat t s.items) (length (repeat t s.items) + 1) (λ waits. Calling f (head ∷ Word z ∷ []) waits core) core
      repeated_so = subst (λ q. MadeList p args layout known g heap (left - (1 + q)) n (repeat t s.items) (q + 1) (λ waits. Calling f (head ∷ Word z ∷ []) waits core) core) (sym items_long)
          (made_so p args layout known g heap left paid n (repeat t s.items) (k + 1) (λ waits. Calling f (head ∷ Word z ∷ []) waits core) core (repeat t s.values) (raw k) k r (omega arith) struct2
          (each_as (repeat t s.values) (repeat t s.items) g (each_repeated t s.each)) (sym items_long) (subst (λ q. q < 2 ^ 63) (sym values_so) small)
          (subst (λ q. HasRoom q paid) (sym items_long) (let q = r.few in omega (arith, q, enough))) (structs.lists_apart n struct2) comes_back)
        where
          items_long : length (repeat t s.items) ≡ k
          items_long = repeat_long t s.items

          values_so : length (repeat t s.values) ≡ k
          values_so = repeat_long t s.values ∙ ap (λ c. c * t) values_long

  pub repeated : 1 + length (repeat t s.items) ≤ left → MadeList p args layout known g heap (left - (1 + length (repeat t s.items))) n (repeat t s.items) (length (repeat t s.items) + 1) (λ waits. Calling f (head ∷ Word z ∷ []) waits core) core
  repeated enough = (let q : length (repeat t s.items) ≡ k = repeat_long t s.items in let few = r.few in repeated_so (omega (arith, enough, q, few)) (omega (arith, enough, q)))

  pub repeat_lacks : left < 1 + length (repeat t s.items) → (waits : List Frame) → Lacked p args (Calling f (head ∷ Word z ∷ []) waits core) core
  repeat_lacks short waits = by (nat_lt k (2 ^ 63)) refl (nat_lt left 1) refl
    where
      long : length (repeat t s.items) ≡ k
      long = repeat_long t s.items

      by : (c : Bool) → nat_lt k (2 ^ 63) ≡ c → (d : Bool) → nat_lt left 1 ≡ d → Lacked p args (Calling f (head ∷ Word z ∷ []) waits core) core
      by false h d e = beyond (not_less k (2 ^ 63) h) waits
      by true h true e = lacks_one (is_less k (2 ^ 63) h) (is_less left 1 e) waits
      by true h false e = lacks_two (is_less k (2 ^ 63) h) (not_less left 1 e) (omega (arith, short, long)) waits
