-- The graph that makes the index anew: its words become empty, and all entries are entered.
use Rattle.std.proofs.Common.{◌≡◌, ◌<◌, ◌≤◌, ℕ, zero, suc, ◌+◌, ◌^◌, ◌||◌, true, false, List, [], ◌∷◌, ◌++◌, length, map, Option, Some, None, ℤ, pos, refl, sym, ap, ◌∙◌, subst, arith, length-append}
use Rattle.std.specs.Prelude.{slice_get, slice_set, if◌then◌else◌, replicate}
use Rattle.csub_tree.specs.State.{Value, Unset, Word, Flag, Block, Core}
use Rattle.csub_tree.specs.Layout.{shape_at, shape_over}
use Rattle.csub_tree.specs.Operation.{is_unset}
use Rattle.csub_tree.specs.declared.tree.COperand.TheVariants.{Var}
use Rattle.ll_code.specs.State.{Frame, Calling, At}
use Rattle.ll_code.specs.Machine.{shapes_of}
use Rattle.ll_code.specs.declared.program.LlProgram.{LlProgram}
use Rattle.ll_build.specs.Build.{word}
use Rattle.ll_leads.proofs.Joined.{leads_then, leads_more}
use Rattle.ll_leads.proofs.Ways.{many, enter, gives}
use Rattle.ll_texts.specs.Texts.{found}
use Rattle.ll_texts.proofs.Numbers.{adds, subs, less_true, less_false}
use Rattle.ll_texts.proofs.Writing.{put_mid}
use Rattle.rtyper_dict.specs.declared.parts.DictShape.{DictShape}
use Rattle.rtyper_dict.specs.Indexing.{enter_graph, index_graph, index_blocks, index_types, index_starts, index_asks, index_empties, index_enters}
use Rattle.dict_laws.specs.Index.{EntersAll}
use Rattle.dict_laws.specs.Masks.{MasksLead, place_of}
use Rattle.object_laws.specs.Dicts.{dict_block, index_values}
use Rattle.object_laws.proofs.Blocks.{found_set, reads_field}
use Rattle.object_laws.proofs.Calling.{Returns, calls_back}
use Rattle.object_laws.proofs.Changing.{wrote_at, put_block, put_static}
use Rattle.dict_change_laws.proofs.Hashed.{AllHashed}
use Rattle.dict_change_laws.proofs.Entering.{enters_from, index_long}
use Rattle.dict_change_laws.proofs.Putting.{put, array_of, puts_item, put_twice}

abbrev pub zeros : ℕ → List ℕ
zeros n = replicate n 0

pub zeros_long : (n : ℕ) → length (zeros n) ≡ n
zeros_long zero = refl
zeros_long (suc n) = ap suc (zeros_long n)

zeros_more : (n : ℕ) (l : List Value) → index_values (zeros n) ++ Word (pos 0) ∷ l ≡ index_values (zeros (suc n)) ++ l
zeros_more zero l = refl
zeros_more (suc n) l = ap (λ l. Word (pos 0) ∷ l) (zeros_more n l)

module _ (p : LlProgram) (args : List (List ℕ)) (d : DictShape) (f h : ℕ) (head_shape : shape_at (shapes_of p.structs) d.dict ≡ shape_over d.dict 4 None) (first_shape : shape_at (shapes_of p.structs) d.first ≡ shape_over d.first 1 None) (second_shape : shape_at (shapes_of p.structs) d.second ≡ shape_over d.second 1 None) (graph : slice_get p.graphs f ≡ Some (enter_graph h d)) (masks : MasksLead)
    (Fine : List (Option Block) → List Block → Type 0) (head one two : Value) (count places bits : ℕ) (few : bits < 63) (keys values : List Value) (small : 2 ^ bits + length keys < 2 ^ 63) (below : count ≤ length keys) (fields1 : List Value) (total : ℕ)
    (fine : (core : Core) (old new : List Value) → found core.blocks core.statics two ≡ Some (array_of d.second (Word (pos total) ∷ []) old) → Fine core.blocks core.statics → Fine (put_block two (array_of d.second (Word (pos total) ∷ []) new) core.blocks) (put_static two (array_of d.second (Word (pos total) ∷ []) new) core.statics))
    (first_set : is_unset (if d.keys_last then Word (pos 0) else one) ≡ false) (apart : one ≡ two → ⊥) (head_apart : head ≡ two → ⊥) (count_fits : count < 2 ^ 63) (total_is : total ≡ 2 ^ bits + places) (total_fits : total < 2 ^ 63) (some : 0 < 2 ^ bits)
    (i : ℕ) (graph2 : slice_get p.graphs i ≡ Some (index_graph f d)) (xs : List Value) (zs : List ℤ) (all : AllHashed p args Fine h xs zs) (post : List Value) (are : keys ≡ xs ++ post) (counts : count ≡ length xs) (new : List ℕ) (enters : EntersAll (zeros (2 ^ bits)) 0 (map (place_of bits) zs) new) where
  abbrev size : ℕ
  size = 2 ^ bits

  abbrev others : List Value
  others = if d.keys_last then keys else values

  abbrev the_items : List Value → Block
  the_items items = array_of d.second (Word (pos total) ∷ []) items

  abbrev end_of : Core → Core
  end_of core = put core two (the_items (index_values new ++ others))

  record Memory (core : Core) (items : List Value) : Type 0 where
    ok : Fine core.blocks core.statics
    head_is : found core.blocks core.statics head ≡ Some (dict_block d.dict count places one two)
    first_is : found core.blocks core.statics one ≡ Some (array_of d.first fields1 (if d.keys_last then values else keys))
    second_is : found core.blocks core.statics two ≡ Some (the_items items)

  memory_put : (core : Core) (old items : List Value) → Memory core old → Memory (put core two (the_items items)) items
  memory_put core old items m = (let wrote = wrote_at core.blocks core.statics two (the_items old) (the_items items) m.second_is in record { ok = fine core old items m.second_is m.ok; head_is = wrote.others head head_apart ∙ m.head_is; first_is = wrote.others one apart ∙ m.first_is; second_is = wrote.there })

  Clears : Core → ℕ → Type 0
  Clears core n = (t6 t7 : Value) (waits : List Frame) → Returns p args 0 (At index_asks.ops index_asks.exit waits (record core { function = i; block = 1; at = 0; vars = head ∷ two ∷ Word (pos total) ∷ Word (pos places) ∷ Word (pos size) ∷ Word (pos n) ∷ t6 ∷ t7 ∷ [] })) Unset waits (end_of core)

  -- all words are empty
  entered : (core : Core) (n : ℕ) → n ≡ size → Memory core (index_values (zeros n) ++ others) → Clears core n
  unfolding Clears index_graph index_blocks index_types index_starts index_asks index_empties index_enters
  entered core n at m t6 t7 waits =
      let head_set : is_unset head ≡ false = found_set core.blocks core.statics head _ m.head_is in
      let now : Core = record core { function = i; block = 3; at = 0; vars = head ∷ two ∷ Word (pos total) ∷ Word (pos places) ∷ Word (pos size) ∷ Word (pos n) ∷ Flag false ∷ t7 ∷ [] } in
      record {
        end = _;
        same = refl;
        leads = leads_more (0 + (0 + (0 + 0))) 0 (omega arith)
            (leads_then (gives (Flag false) (less_false n size (omega (arith, at))))
            (leads_then (many 1 graph2 refl (ap (λ b. b || false) head_set))
            (leads_then (calls_back {core = now} 0 refl (ap (λ b. b || (false || false)) head_set)
            (enters_from p args d f h head_shape first_shape second_shape graph masks Fine head one two count places bits few keys values small below fields1 total fine first_set apart count_fits xs zs all now (zeros size) [] post new enters (zeros_long size) are (omega (arith, counts)) total_is total_fits some m.ok m.head_is m.first_is (subst (λ k. found core.blocks core.statics two ≡ Some (the_items (index_values (zeros k) ++ others))) at m.second_is)))
            (many 1 graph2 refl refl))));
      }

  clears : (old : List Value) (core : Core) (n : ℕ) → n + length old ≡ size → Memory core (index_values (zeros n) ++ (old ++ others)) → Clears core n
  unfolding Clears index_graph index_blocks index_types index_starts index_asks index_empties index_enters
  clears [] core n long m t6 t7 waits = entered core n (omega (arith, long)) m t6 t7 waits
  clears (x ∷ old) core n long m t6 t7 waits =
      let head_set : is_unset head ≡ false = found_set core.blocks core.statics head _ m.head_is in
      let two_set : is_unset two ≡ false = found_set core.blocks core.statics two _ m.second_is in
      let all_set = ap (λ b. b || (is_unset two || (false || (false || false)))) head_set ∙ ap (λ b. b || (false || (false || false))) two_set in
      let items : List Value = index_values (zeros n) ++ (x ∷ old ++ others) in
      let items2 : List Value = slice_set items n (Word (pos 0)) in
      let core2 : Core = put core two (the_items items2) in
      let zeros_are : length (index_values (zeros n)) ≡ n = index_long (zeros n) ∙ zeros_long n in
      let items_are : items2 ≡ index_values (zeros (suc n)) ++ (old ++ others) = put_mid (index_values (zeros n)) x (old ++ others) n (Word (pos 0)) (sym zeros_are) ∙ zeros_more n (old ++ others) in
      let suc_is : suc n ≡ n + 1 = omega arith in
      let wide : size < 2 ^ 63 = omega (arith, small) in
      let it = clears old core2 (n + 1) (omega (arith, long)) (subst (Memory core2) (items_are ∙ ap (λ k. index_values (zeros k) ++ (old ++ others)) suc_is) (memory_put core items items2 m)) (Flag true) (Word (pos (n + 1))) waits in
      let within : n < length items = (let l = length-append (index_values (zeros n)) (x ∷ old ++ others) in omega (arith, l, zeros_are)) in
      record {
        end = it.end;
        same = it.same ∙ put_twice core two (the_items items2) (the_items (index_values new ++ others));
        leads = leads_more (0 + (0 + (0 + (0 + (0 + 0))))) 0 (omega arith)
            (leads_then (gives (Flag true) (less_true n size (omega (arith, long))))
            (leads_then (many 1 graph2 refl all_set)
            (leads_then (puts_item p args _ _ waits _ d.second 1 (Var 5) (word (pos 0)) 1 (the_items items) n (Word (pos 0)) second_shape refl refl within refl refl two refl m.second_is)
            (leads_then (gives (Word (pos (n + 1))) (adds n 1 (omega (arith, long, wide))))
            (leads_then (many 1 graph2 refl all_set) it.leads)))));
      }

  -- the call
  pub indexes : (old : List Value) (core : Core) → length old ≡ size → Fine core.blocks core.statics → found core.blocks core.statics head ≡ Some (dict_block d.dict count places one two) → found core.blocks core.statics one ≡ Some (array_of d.first fields1 (if d.keys_last then values else keys)) → found core.blocks core.statics two ≡ Some (the_items (old ++ others))
      → (waits : List Frame) → Returns p args 0 (Calling i (head ∷ []) waits core) Unset waits (end_of core)
  unfolding Clears index_graph index_blocks index_types index_starts index_asks index_empties index_enters
  indexes old core long ok head_is first_is second_is waits =
      let head_set : is_unset head ≡ false = found_set core.blocks core.statics head _ head_is in
      let two_set : is_unset two ≡ false = found_set core.blocks core.statics two _ second_is in
      let it = clears old core 0 (omega (arith, long)) (record { ok = ok; head_is = head_is; first_is = first_is; second_is = second_is }) Unset Unset waits in
      record {
        end = it.end;
        same = it.same;
        leads = leads_more (0 + (0 + (0 + (0 + (0 + (0 + 0)))))) 0 (omega arith)
            (leads_then (enter graph2 refl)
            (leads_then (reads_field 4 (dict_block d.dict count places one two) two head_shape head_is refl two_set 3 refl)
            (leads_then (reads_field 1 (the_items (old ++ others)) (Word (pos total)) second_shape second_is refl refl 0 refl)
            (leads_then (reads_field 4 (dict_block d.dict count places one two) (Word (pos places)) head_shape head_is refl refl 1 refl)
            (leads_then (gives (Word (pos size)) (subs total places size (omega (arith, total_is)) total_fits))
            (leads_then (many 1 graph2 refl (ap (λ b. b || (is_unset two || (false || (false || false)))) head_set ∙ ap (λ b. b || (false || (false || false))) two_set)) it.leads))))));
      }
