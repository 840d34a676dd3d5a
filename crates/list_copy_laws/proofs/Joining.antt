-- The graph that makes a list of the items of two, at its cost.
use Rattle.std.proofs.Common.{◌≡◌, ◌<◌, ◌≤◌, ℕ, ◌+◌, ◌-◌, ◌^◌, ◌||◌, Bool, true, false, List, [], ◌∷◌, ◌++◌, length, Option, Some, None, pos, refl, sym, ap, ◌∙◌, subst, arith, length-append}
use Rattle.std.specs.Prelude.{nat_lt}
use Rattle.std.proofs.lemmas.List.{append-nil}
use Rattle.csub_tree.specs.State.{Value, Unset, Word, Ptr, Block, Core}
use Rattle.csub_tree.specs.Operation.{is_unset}
use Rattle.csub_tree.specs.declared.tree.CBinary.TheVariants as binary
use Rattle.csub_tree.specs.declared.tree.COperand.TheVariants.{Var}
use Rattle.ll_code.specs.State.{Frame, Calling, At}
use Rattle.ll_code.specs.declared.program.LlOp.{LlOp}
use Rattle.ll_code.specs.declared.program.LlOp.TheVariants as op
use Rattle.ll_code.specs.declared.program.LlExit.TheVariants as exit
use Rattle.ll_code.specs.declared.program.LlProgram.{LlProgram}
use Rattle.ll_leads.specs.Path.{Leads}
use Rattle.ll_leads.proofs.Joined.{leads_then, leads_more}
use Rattle.ll_leads.proofs.Ways.{on, many, enter, gives, pays, lacks}
use Rattle.ll_build.specs.Build.{word as word_operand}
use Rattle.ll_texts.specs.Follows.{Lacked}
use Rattle.ll_texts.proofs.Numbers.{adds}
use Rattle.rpy_tree.specs.Value.{Value as Meant, Heap}
use Rattle.rtyper_layout.specs.declared.layout.Layout.{Layout}
use Rattle.rtyper_layout.specs.Layout.{is_list}
use Rattle.rtyper_layout.specs.Types.{word}
use Rattle.rtyper_data.specs.declared.small.Listed.TheVariants.{Make, Copy}
use Rattle.rtyper_data.specs.declared.small.Small.TheVariants as small
use Rattle.rtyper_data.specs.Finding.{small_number}
use Rattle.list_shape.specs.Shapes.{item_of}
use Rattle.list_loops.specs.Making.{concat, concat_graph, concat_given, concat_types}
use Rattle.list_laws.specs.Asked.{HasConcat}
use Rattle.list_laws.proofs.Making.{made_list}
use Rattle.list_laws.proofs.Roomed.{all_set}
use Rattle.object_laws.specs.Known.{Known}
use Rattle.object_laws.specs.Done.{HasLayout}
use Rattle.object_laws.specs.Ghost.{Ghost, Array}
use Rattle.object_laws.specs.Represents.{Represents, ListAt, HasRoom, head_block, array_block}
use Rattle.object_laws.specs.Values.{EachHolds}
use Rattle.object_laws.proofs.Blocks.{found_set, reads_field}
use Rattle.object_laws.proofs.Calling.{Returns, calls_back}
use Rattle.object_laws.proofs.Valued.{each_long}
use Rattle.list_copy_laws.proofs.Between.{copy_is}
use Rattle.list_copy_laws.proofs.Extending.{each_both}
use Rattle.list_copy_laws.proofs.Fresh.{raw, raw_long, raw_both, two_more, head_of, head_found, old_found, fills, MadeList, made_so}
use Rattle.list_copy_laws.proofs.Tests.{is_less, not_less}

module _ (p : LlProgram) (args : List (List ℕ)) (layout : Layout) (known : Known) (raised : ℕ → Value) (structs : HasLayout p layout) (l m n : ℕ) (struct : is_list layout l ≡ true) (struct2 : is_list layout m ≡ true) (struct3 : is_list layout n ≡ true) (f : ℕ) (has : HasConcat p layout raised l m n f)
    (typed : item_of layout (word (l + 1)) ≡ item_of layout (word (n + 1))) (typed2 : item_of layout (word (m + 1)) ≡ item_of layout (word (n + 1)))
    (each_as : (xs : List Value) (vs : List Meant) (g : Ghost) → EachHolds layout known g (known.items l) xs vs → EachHolds layout known g (known.items n) xs vs) (each_as2 : (xs : List Value) (vs : List Meant) (g : Ghost) → EachHolds layout known g (known.items m) xs vs → EachHolds layout known g (known.items n) xs vs)
    (g : Ghost) (heap : Heap) (left : ℕ) (core : Core) (r : Represents layout known g heap left core.blocks core.statics) (steps : left ≡ core.steps)
    (i : ℕ) (head : Value) (s : ListAt layout known g heap left core.blocks core.statics l i head) (j : ℕ) (head2 : Value) (t : ListAt layout known g heap left core.blocks core.statics m j head2) where
  abbrev a : ℕ
  a = word (n + 1)

  abbrev makes : ℕ
  makes = (small_number (small.Listed (Make n)) has.made).0

  abbrev copies : ℕ
  copies = (small_number (small.Listed (Copy (word (l + 1)) a)) (small_number (small.Listed (Make n)) has.made).1).0

  abbrev copies2 : ℕ
  copies2 = (small_number (small.Listed (Copy (word (m + 1)) a)) (small_number (small.Listed (Copy (word (l + 1)) a)) (small_number (small.Listed (Make n)) has.made).1).1).0

  abbrev ca : ℕ
  ca = length s.items

  abbrev cb : ℕ
  cb = length t.items

  abbrev k : ℕ
  k = ca + cb

  abbrev vars : Value → Value → Value → Value → Value → List Value
  vars v4 v5 v6 v7 v8 = head ∷ head2 ∷ Word (pos ca) ∷ Word (pos cb) ∷ v4 ∷ v5 ∷ v6 ∷ v7 ∷ v8 ∷ []

  abbrev at_step : ℕ → ℕ → Core
  at_step at left = record core { function = f; block = 0; at = at; vars = vars Unset Unset Unset Unset Unset; steps = left }

  abbrev copying : List LlOp
  copying = op.Binary 4 binary.Add (Var 2) (Var 3) ∷ op.Call (Some 5) makes (Var 4 ∷ []) ∷ op.GetField 6 n 5 1 ∷ op.GetField 7 l 0 1 ∷ op.Call None copies (Var 7 ∷ word_operand (pos 0) ∷ Var 6 ∷ word_operand (pos 0) ∷ Var 2 ∷ [])
      ∷ op.GetField 8 m 1 1 ∷ op.Call None copies2 (Var 8 ∷ word_operand (pos 0) ∷ Var 6 ∷ Var 2 ∷ Var 3 ∷ []) ∷ []

  abbrev pays_all : List LlOp
  pays_all = op.Step (word_operand (pos 1)) ∷ op.Step (Var 2) ∷ op.Step (Var 3) ∷ copying

  reads : (waits : List Frame) → Leads p args 0 (Calling f (head ∷ head2 ∷ []) waits core) [] (At pays_all (exit.Return (Some (Var 5))) waits (record (at_step 2 left) { steps = core.steps }))
  unfolding concat concat_graph concat_given concat_types
  reads waits = on (enter has.graph refl)
      (on (reads_field 2 (head_block l ca s.array) (Word (pos ca)) (structs.heads l struct) s.head_is refl refl 0 refl)
      (reads_field 2 (head_block m cb t.array) (Word (pos cb)) (structs.heads m struct2) t.head_is refl refl 0 refl))

  -- ---- the steps do not suffice: for the list, for the first items, or for the second

  lacks_one : left < 1 → (waits : List Frame) → Lacked p args (Calling f (head ∷ head2 ∷ []) waits core) core
  lacks_one short waits = record {
    last = At pays_all (exit.Return (Some (Var 5))) waits (record (at_step 2 left) { steps = core.steps });
    leads = reads waits;
    ends = lacks p args (op.Step (Var 2) ∷ op.Step (Var 3) ∷ copying) (exit.Return (Some (Var 5))) waits (record (at_step 2 left) { steps = core.steps }) (word_operand (pos 1)) 1 refl (omega (arith, short, steps));
    blocks = refl;
    holds = λ b h. h;
  }

  lacks_two : 1 ≤ left → left < 1 + ca → (waits : List Frame) → Lacked p args (Calling f (head ∷ head2 ∷ []) waits core) core
  lacks_two enough short waits = record {
    last = At (op.Step (Var 2) ∷ op.Step (Var 3) ∷ copying) (exit.Return (Some (Var 5))) waits (at_step 3 (left - 1));
    leads = on (reads waits) (pays 1 (left - 1) refl (omega (arith, enough, steps)));
    ends = lacks p args (op.Step (Var 3) ∷ copying) (exit.Return (Some (Var 5))) waits (at_step 3 (left - 1)) (Var 2) ca refl (omega (arith, short, enough));
    blocks = refl;
    holds = λ b h. h;
  }

  lacks_three : 1 + ca ≤ left → left < 1 + k → (waits : List Frame) → Lacked p args (Calling f (head ∷ head2 ∷ []) waits core) core
  lacks_three enough short waits = record {
    last = At (op.Step (Var 3) ∷ copying) (exit.Return (Some (Var 5))) waits (at_step 4 (left - 1 - ca));
    leads = on (reads waits) (on (pays 1 (left - 1) refl (omega (arith, enough, steps))) (pays ca (left - 1 - ca) refl (omega (arith, enough))));
    ends = lacks p args copying (exit.Return (Some (Var 5))) waits (at_step 4 (left - 1 - ca)) (Var 3) cb refl (omega (arith, short, enough));
    blocks = refl;
    holds = λ b h. h;
  }

  -- ---- they do

  module _ (enough : 1 + k ≤ left) where
    abbrev paid : ℕ
    paid = left - (1 + k)

    pays_it : (waits : List Frame) → Leads p args 0 (Calling f (head ∷ head2 ∷ []) waits core) [] (At copying (exit.Return (Some (Var 5))) waits (at_step 5 paid))
    pays_it waits = on (reads waits) (on (pays 1 (left - 1) refl (omega (arith, enough, steps))) (on (pays ca (left - 1 - ca) refl (omega (arith, enough))) (pays cb paid refl (omega (arith, enough)))))

    abbrev bs : List (Option Block)
    bs = core.blocks

    abbrev array : Value
    array = Ptr (length bs)

    abbrev new_head : Value
    new_head = head_of bs n k (raw k)

    few_items : k < 2 ^ 62
    few_items = (let q = r.few in omega (arith, q, enough))

    -- made, and then with the items of the first, and of both
    abbrev made_core : Core
    made_core = record core { function = f; block = 0; at = 9; vars = vars (Word (pos k)) new_head array s.array Unset; blocks = two_more bs n k (raw k); steps = paid }

    abbrev half_core : Core
    half_core = record core { function = f; block = 0; at = 11; vars = vars (Word (pos k)) new_head array s.array t.array; blocks = two_more bs n k (s.values ++ raw cb); steps = paid }

    values_long : length s.values ≡ ca
    values_long = each_long s.each

    values2_long : length t.values ≡ cb
    values2_long = each_long t.each

    fills_first : (waits : List Frame) → Returns p args (length s.values) (Calling copies (s.array ∷ Word (pos 0) ∷ array ∷ Word (pos 0) ∷ Word (pos (length s.values)) ∷ []) waits made_core) Unset waits (record made_core { blocks = two_more bs n k (s.values ++ raw cb) })
    fills_first = fills p args (word (l + 1)) n copies (item_of layout (word (l + 1))) (structs.arrays l struct) (structs.arrays n struct3) (has.first.graph ∙ ap Some (copy_is layout (word (l + 1)) a has.first.made typed)) g bs r.made s.array (Array i) s.array_use (array_block l (s.values ++ s.spare)) refl s.long k (omega (arith, few_items))
        made_core s.values (raw ca) [] s.spare [] (raw cb) (ap (two_more bs n k) (raw_both ca cb)) s.array_is refl (all_set r s.each) (raw_long ca ∙ sym values_long)
        (sym (ap length (raw_both ca cb)) ∙ raw_long k)

    fills_second : (waits : List Frame) → Returns p args (length t.values) (Calling copies2 (t.array ∷ Word (pos 0) ∷ array ∷ Word (pos (length s.values)) ∷ Word (pos (length t.values)) ∷ []) waits half_core) Unset waits (record half_core { blocks = two_more bs n k (s.values ++ (t.values ++ [])) })
    fills_second = fills p args (word (m + 1)) n copies2 (item_of layout (word (m + 1))) (structs.arrays m struct2) (structs.arrays n struct3) (has.second.graph ∙ ap Some (copy_is layout (word (m + 1)) a has.second.made typed2)) g bs r.made t.array (Array j) t.array_use (array_block m (t.values ++ t.spare)) refl t.long k (omega (arith, few_items))
        half_core t.values (raw cb) [] t.spare s.values [] (ap (λ l. two_more bs n k (s.values ++ l)) (sym (append-nil (raw cb)))) t.array_is refl (all_set r t.each) (raw_long cb ∙ sym values2_long)
        (length-append s.values (raw cb ++ []) ∙ ap (λ q. length s.values + q) (ap length (append-nil (raw cb)) ∙ raw_long cb) ∙ ap (λ q. q + cb) values_long)

    array_set : is_unset s.array ≡ false
    array_set = found_set bs core.statics s.array _ s.array_is

    array2_set : is_unset t.array ≡ false
    array2_set = found_set bs core.statics t.array _ t.array_is

    comes_back : (waits : List Frame) → Returns p args (k + 1) (Calling f (head ∷ head2 ∷ []) waits core) new_head waits (record core { blocks = two_more bs n k (s.values ++ t.values); steps = paid })
    unfolding concat concat_graph concat_given concat_types
    comes_back waits = record {
      end = _;
      same = refl;
      leads = leads_more (0 + (0 + (1 + (0 + (0 + (length s.values + (0 + (length t.values + 0)))))))) (k + 1) (omega (arith, values_long, values2_long))
          (leads_then (pays_it waits)
          (leads_then (gives (Word (pos k)) (adds ca cb (omega (arith, few_items))))
          (leads_then (calls_back {core = record (at_step 6 paid) { vars = vars (Word (pos k)) Unset Unset Unset Unset }} 1 refl refl (λ waits. made_list p args layout n makes k (structs.heads n struct3) (structs.arrays n struct3) has.makes.graph (record (at_step 6 paid) { vars = vars (Word (pos k)) Unset Unset Unset Unset }) waits))
          (leads_then (reads_field 2 (head_block n k array) array (structs.heads n struct3) (head_found bs n k (raw k) core.statics) refl refl 1 refl)
          (leads_then (reads_field 2 (head_block l ca s.array) s.array (structs.heads l struct) (old_found bs n k (raw k) core.statics head (head_block l ca s.array) s.head_is) refl array_set 1 refl)
          (leads_then (calls_back {core = made_core} (length s.values) (ap (λ q. s.array ∷ Word (pos 0) ∷ array ∷ Word (pos 0) ∷ Word (pos q) ∷ []) (sym values_long)) (ap (λ b. b || false) array_set) fills_first)
          (leads_then (reads_field 2 (head_block m cb t.array) t.array (structs.heads m struct2) (old_found bs n k (s.values ++ raw cb) core.statics head2 (head_block m cb t.array) t.head_is) refl array2_set 1 refl)
          (leads_then (calls_back {core = half_core} (length t.values) (ap (λ q. t.array ∷ Word (pos 0) ∷ array ∷ Word (pos q) ∷ Word (pos cb) ∷ []) (sym values_long) ∙ ap (λ q. t.array ∷ Word (pos 0) ∷ array ∷ Word (pos (length s.values)) ∷ Word (pos q) ∷ []) (sym values2_long)) (ap (λ b. b || false) array2_set) second_so)
          (many 1 has.graph refl refl)))))))));
    }
      where
        second_so : (waits : List Frame) → Returns p args (length t.values) (Calling copies2 (t.array ∷ Word (pos 0) ∷ array ∷ Word (pos (length s.values)) ∷ Word (pos (length t.values)) ∷ []) waits half_core) Unset waits (record half_core { blocks = two_more bs n k (s.values ++ t.values) })
        second_so = subst (λ l. (waits : List Frame) → Returns p args (length t.values) (Calling copies2 (t.array ∷ Word (pos 0) ∷ array ∷ Word (pos (length s.values)) ∷ Word (pos (length t.values)) ∷ []) waits half_core) Unset waits (record half_core { blocks = two_more bs n k (s.values ++ l) })) (append-nil t.values) fills_second

    pub joined : MadeList p args layout known g heap (left - (1 + length (s.items ++ t.items))) n (s.items ++ t.items) (k + 1) (λ waits. Calling f (head ∷ head2 ∷ []) waits core) core
    joined = subst (λ q. MadeList p args layout known g heap (left - (1 + q)) n (s.items ++ t.items) (k + 1) (λ waits. Calling f (head ∷ head2 ∷ []) waits core) core) (sym items_long)
        (made_so p args layout known g heap left paid n (s.items ++ t.items) (k + 1) (λ waits. Calling f (head ∷ head2 ∷ []) waits core) core (s.values ++ t.values) (raw k) k r (omega arith) struct3
        (each_both (each_as s.values s.items g s.each) (each_as2 t.values t.items g t.each)) (sym items_long) (let q : length (s.values ++ t.values) ≡ length s.values + length t.values = length-append s.values t.values in omega (arith, q, values_long, values2_long, few_items))
        (subst (λ q. HasRoom q paid) (sym items_long) (let q = r.few in omega (arith, q, enough))) (structs.lists_apart n struct3) comes_back)
      where
        items_long : length (s.items ++ t.items) ≡ k
        items_long = length-append s.items t.items

  pub join_lacks : left < 1 + length (s.items ++ t.items) → (waits : List Frame) → Lacked p args (Calling f (head ∷ head2 ∷ []) waits core) core
  join_lacks short waits = by (nat_lt left 1) refl (nat_lt left (1 + ca)) refl
    where
      items_long : length (s.items ++ t.items) ≡ k
      items_long = length-append s.items t.items

      by : (c : Bool) → nat_lt left 1 ≡ c → (d : Bool) → nat_lt left (1 + ca) ≡ d → Lacked p args (Calling f (head ∷ head2 ∷ []) waits core) core
      by true h d e = lacks_one (is_less left 1 h) waits
      by false h true e = lacks_two (not_less left 1 h) (is_less left (1 + ca) e) waits
      by false h false e = lacks_three (not_less left (1 + ca) e) (omega (arith, short, items_long)) waits
