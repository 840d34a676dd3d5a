-- The graph that enters entries into the index.
use Rattle.std.proofs.Common.{◌≡◌, ◌<◌, ◌≤◌, ℕ, zero, suc, ◌+◌, ◌-◌, ◌^◌, ◌||◌, Bool, true, false, List, [], ◌∷◌, ◌++◌, length, map, Option, Some, None, Ok, ℤ, pos, refl, sym, ap, ◌∙◌, subst, arith, append_assoc, length-append}
use Rattle.std.specs.Prelude.{slice_get, slice_set, if◌then◌else◌}
use Rattle.std.specs.Ordering.{int_eq}
use Rattle.std.proofs.lemmas.Bool.Decides.{nat_tests}
use Rattle.csub_tree.specs.State.{Value, Unset, Word, Flag, Block, Core}
use Rattle.csub_tree.specs.Layout.{shape_at, shape_over}
use Rattle.csub_tree.specs.Operation.{is_unset, binary_of}
use Rattle.csub_tree.specs.Statement.{read}
use Rattle.csub_tree.specs.declared.tree.CBinary.TheVariants as binary
use Rattle.csub_tree.specs.declared.tree.COperand.TheVariants.{Var}
use Rattle.ll_code.specs.State.{Frame, State, Calling, At, Returning}
use Rattle.ll_code.specs.Machine.{shapes_of}
use Rattle.ll_code.specs.declared.program.LlOp.{LlOp}
use Rattle.ll_code.specs.declared.program.LlOp.TheVariants as op
use Rattle.ll_code.specs.declared.program.LlExit.{LlExit}
use Rattle.ll_code.specs.declared.program.LlProgram.{LlProgram}
use Rattle.ll_leads.specs.Memory.{forgotten}
use Rattle.ll_leads.specs.Path.{Leads}
use Rattle.ll_leads.proofs.Joined.{leads_then, leads_more}
use Rattle.ll_leads.proofs.Ways.{many, one as one_step, call, enter, gives}
use Rattle.ll_texts.specs.Texts.{found}
use Rattle.ll_texts.proofs.Numbers.{adds, subs, less_true, less_false, same_true}
use Rattle.ll_texts.proofs.Reading.{below_length}
use Rattle.ll_build.specs.Build.{word}
use Rattle.rtyper_dict.specs.declared.parts.DictShape.{DictShape}
use Rattle.rtyper_dict.specs.Indexing.{enter_graph, enter_blocks, enter_starts, enter_asks, enter_hashes, enter_probes, enter_puts, enter_next, enter_types}
use Rattle.dict_laws.specs.Index.{next, Holds, IsEmpty, Enters, put as puts_in, went, EntersAll, done as all_entered, more}
use Rattle.dict_laws.specs.Masks.{MasksLead, place_of}
use Rattle.object_laws.specs.Dicts.{dict_block, index_values}
use Rattle.object_laws.proofs.Blocks.{found_set, reads_field, reads_item}
use Rattle.list_laws.proofs.Copying.{read_mid}
use Rattle.object_laws.proofs.Calling.{Returns}
use Rattle.object_laws.proofs.Changing.{wrote_at, put_block, put_static}
use Rattle.dict_change_laws.proofs.Hashed.{HashIs, AllHashed, None as NoneHashed, More as MoreHashed}
use Rattle.dict_change_laws.proofs.Putting.{put, array_of, puts_item, put_twice, put_there}

-- ---- words of the index

pub set_index : (ws : List ℕ) (rest : List Value) (at n : ℕ) → at < length ws → slice_set (index_values ws ++ rest) at (Word (pos n)) ≡ index_values (slice_set ws at n) ++ rest
set_index [] rest at n h = absurd (omega (arith, h))
set_index (w ∷ ws) rest zero n h = refl
set_index (w ∷ ws) rest (suc at) n h = ap (λ l. Word (pos w) ∷ l) (set_index ws rest at n (omega (arith, h)))

pub read_index : (ws : List ℕ) (rest : List Value) (at n : ℕ) → slice_get ws at ≡ Some n → read (index_values ws ++ rest) at ≡ Word (pos n)
read_index [] rest at n h = absurd (cc)
read_index (w ∷ ws) rest zero n h = (let q : w ≡ n = cc in ap (λ n. Word (pos n)) q)
read_index (w ∷ ws) rest (suc at) n h = read_index ws rest at n h

pub read_behind : (ws : List ℕ) (rest : List Value) (i : ℕ) → read (index_values ws ++ rest) (length ws + i) ≡ read rest i
read_behind [] rest i = ap (read rest) (let q : 0 + i ≡ i = omega arith in q)
read_behind (w ∷ ws) rest i = ap (read (index_values (w ∷ ws) ++ rest)) (let q : suc (length ws) + i ≡ suc (length ws + i) = omega arith in q) ∙ read_behind ws rest i

pub index_long : (ws : List ℕ) → length (index_values ws) ≡ length ws
index_long [] = refl
index_long (w ∷ ws) = ap suc (index_long ws)

pub words_long : (ws : List ℕ) (rest : List Value) → length (index_values ws ++ rest) ≡ length ws + length rest
words_long ws rest = length-append (index_values ws) rest ∙ ap (λ n. n + length rest) (index_long ws)

set_long : (ws : List ℕ) (i n : ℕ) → length (slice_set ws i n) ≡ length ws
set_long [] i n = refl
set_long (w ∷ ws) zero n = refl
set_long (w ∷ ws) (suc i) n = ap suc (set_long ws i n)

-- entering changes no length
pub same_long : (ws : List ℕ) (i at : ℕ) (new : List ℕ) → Enters ws i at new → length new ≡ length ws
same_long ws i at _ (puts_in _ empty) = set_long ws at (suc i)
same_long ws i at new (went _ other _ holds rest) = same_long ws i (next (length ws) at) new rest

pub all_long : (ws : List ℕ) (i : ℕ) (starts new : List ℕ) → EntersAll ws i starts new → length new ≡ length ws
all_long ws i _ _ (all_entered _ _) = refl
all_long ws i _ new (more _ _ start starts mid _ enters rest) = all_long mid (suc i) starts new rest ∙ same_long ws i start mid enters

not_zero : (n : ℕ) → binary_of binary.Eq (Word (pos (suc n))) (Word (pos 0)) ≡ Ok (Flag false)
not_zero n = let e : int_eq (pos (suc n)) (pos 0) ≡ false = grind (arith, nat_tests) in ap (λ b. Ok (Flag b)) e

same_some : {A : Type 0} {a b : A} → Some a ≡ Some b → a ≡ b
same_some h = cc

-- ---- the key of an entry

module _ (p : LlProgram) (args : List (List ℕ)) (ops : List LlOp) (e : LlExit) (waits : List Frame) (d : DictShape) (f block : ℕ) (first_shape : shape_at (shapes_of p.structs) d.first ≡ shape_over d.first 1 None) (second_shape : shape_at (shapes_of p.structs) d.second ≡ shape_over d.second 1 None) (core : Core)
    (one two : Value) (fields1 fields2 : List Value) (ws : List ℕ) (n : ℕ) (long : length ws ≡ n) (i : ℕ) (key : Value) (set : is_unset key ≡ false) (small : n + i < 2 ^ 63) (v0 v3 v4 v6 v7 v9 t10 t11 t12 t13 t14 t15 t16 : Value) where
  abbrev reads_at : Bool → ℕ → Value → Value → List LlOp → State
  reads_at c at x10 x11 ops = At ops e waits (record core { function = f; block = block; at = at; vars = v0 ∷ Word (pos i) ∷ two ∷ v3 ∷ v4 ∷ Word (pos n) ∷ v6 ∷ v7 ∷ (if c then Word (pos 0) else one) ∷ v9 ∷ x10 ∷ x11 ∷ t12 ∷ t13 ∷ t14 ∷ t15 ∷ t16 ∷ [] })

  pub reads_key : (c : Bool) (keys values : List Value) → i < length keys → read keys i ≡ key → found core.blocks core.statics one ≡ Some (array_of d.first fields1 (if c then values else keys)) → found core.blocks core.statics two ≡ Some (array_of d.second fields2 (index_values ws ++ (if c then keys else values)))
      → Leads p args 0 (reads_at c 0 t10 t11 ((if c then op.Binary 10 binary.Add (Var 5) (Var 1) else op.Set 10 (Var 1)) ∷ (if c then op.GetItem 11 d.second 2 (Var 10) else op.GetItem 11 d.first 8 (Var 10)) ∷ ops)) [] (reads_at c 2 (Word (pos (if c then n + i else i))) key ops)
  reads_key true keys values inside there first_is second_is = leads_more (0 + 0) 0 (omega arith)
      (leads_then (gives (Word (pos (n + i))) (adds n i small))
      (reads_item 1 (array_of d.second fields2 (index_values ws ++ keys)) key second_shape second_is refl set (n + i) refl (let l = words_long ws keys in omega (arith, l, inside, long)) (ap (λ n. read (index_values ws ++ keys) (n + i)) (sym long) ∙ read_behind ws keys i ∙ there)))
  reads_key false keys values inside there first_is second_is = leads_more (0 + 0) 0 (omega arith)
      (leads_then (one_step refl refl)
      (reads_item 1 (array_of d.first fields1 keys) key first_shape first_is refl set i refl inside there))

-- ---- what stands for the first array

module _ (p : LlProgram) (args : List (List ℕ)) (e : LlExit) (waits : List Frame) (d : DictShape) (head_shape : shape_at (shapes_of p.structs) d.dict ≡ shape_over d.dict 4 None) (core : Core) (head one two : Value) (count places : ℕ) (set : is_unset one ≡ false) (v1 v2 v3 v4 v5 v6 v7 t8 t9 t10 t11 t12 t13 t14 t15 t16 : Value) where
  abbrev first_at : ℕ → Value → List LlOp → State
  first_at at x8 ops = At ops e waits (record core { at = at; vars = head ∷ v1 ∷ v2 ∷ v3 ∷ v4 ∷ v5 ∷ v6 ∷ v7 ∷ x8 ∷ t9 ∷ t10 ∷ t11 ∷ t12 ∷ t13 ∷ t14 ∷ t15 ∷ t16 ∷ [] })

  first_reads : (at : ℕ) (c : Bool) → found core.blocks core.statics head ≡ Some (dict_block d.dict count places one two) → Leads p args 0 (first_at at t8 ((if c then op.Set 8 (word (pos 0)) else op.GetField 8 d.dict 0 2) ∷ [])) [] (first_at (at + 1) (if c then Word (pos 0) else one) [])
  first_reads at true is = one_step refl refl
  first_reads at false is = reads_field 4 (dict_block d.dict count places one two) one head_shape is refl set 2 refl

-- ---- the loop

module _ (p : LlProgram) (args : List (List ℕ)) (d : DictShape) (f h : ℕ) (head_shape : shape_at (shapes_of p.structs) d.dict ≡ shape_over d.dict 4 None) (first_shape : shape_at (shapes_of p.structs) d.first ≡ shape_over d.first 1 None) (second_shape : shape_at (shapes_of p.structs) d.second ≡ shape_over d.second 1 None) (graph : slice_get p.graphs f ≡ Some (enter_graph h d)) (masks : MasksLead)
    (Fine : List (Option Block) → List Block → Type 0) (head one two : Value) (count places bits : ℕ) (few : bits < 63) (keys values : List Value) (small : 2 ^ bits + length keys < 2 ^ 63) (below : count ≤ length keys) (fields1 : List Value) (total : ℕ)
    (fine : (core : Core) (old new : List Value) → found core.blocks core.statics two ≡ Some (array_of d.second (Word (pos total) ∷ []) old) → Fine core.blocks core.statics → Fine (put_block two (array_of d.second (Word (pos total) ∷ []) new) core.blocks) (put_static two (array_of d.second (Word (pos total) ∷ []) new) core.statics)) where
  abbrev size : ℕ
  size = 2 ^ bits

  abbrev rest_of : List Value
  rest_of = if d.keys_last then keys else values

  abbrev firsts : List Value
  firsts = if d.keys_last then values else keys

  abbrev the_words : List ℕ → Block
  the_words ws = array_of d.second (Word (pos total) ∷ []) (index_values ws ++ rest_of)

  abbrev with_words : Core → List ℕ → Core
  with_words core ws = put core two (the_words ws)

  abbrev vars : ℕ → Value → Value → Value → Value → Value → Value → Value → Value → List Value
  vars i t9 t10 t11 t12 t13 t14 t15 t16 = head ∷ Word (pos i) ∷ two ∷ Word (pos total) ∷ Word (pos places) ∷ Word (pos size) ∷ Word (pos (size - 1)) ∷ Word (pos count) ∷ (if d.keys_last then Word (pos 0) else one) ∷ t9 ∷ t10 ∷ t11 ∷ t12 ∷ t13 ∷ t14 ∷ t15 ∷ t16 ∷ []

  -- at the next entry, and at a word
  Turns : Core → ℕ → Core → Type 0
  Turns core i end = (t9 t10 t11 t12 t13 t14 t15 t16 : Value) (waits : List Frame) → Returns p args 0 (At enter_asks.ops enter_asks.exit waits (record core { function = f; block = 1; at = 0; vars = vars i t9 t10 t11 t12 t13 t14 t15 t16 })) Unset waits end

  Probes : Core → ℕ → ℕ → Core → Type 0
  Probes core i at end = (t9 t10 t11 t12 t14 t15 t16 : Value) (waits : List Frame) → Returns p args 0 (At (enter_probes d).ops (enter_probes d).exit waits (record core { function = f; block = 3; at = 0; vars = vars i t9 t10 t11 t12 (Word (pos at)) t14 t15 t16 })) Unset waits end

  Words : Core → List ℕ → Type 0
  Words core ws = found core.blocks core.statics two ≡ Some (the_words ws)

  module _ (core end : Core) (ws : List ℕ) (i at : ℕ) (long : length ws ≡ size) (is : Words core ws) where
    inside : (w : ℕ) → slice_get ws at ≡ Some w → at < length (index_values ws ++ rest_of)
    inside w h = (let b = below_length ws at w h in let l = words_long ws rest_of in omega (arith, b, l))

    two_set : is_unset two ≡ false
    unfolding Words
    two_set = found_set core.blocks core.statics two _ is

    puts : i + 1 < 2 ^ 63 → (v8_set : is_unset (if d.keys_last then Word (pos 0) else one) ≡ false) → IsEmpty ws at → Turns (with_words core (slice_set ws at (suc i))) (i + 1) end → Probes core i at end
    unfolding Turns Probes Words enter_graph enter_blocks enter_starts enter_asks enter_hashes enter_probes enter_puts enter_next enter_types
    puts fits v8_set empty next t9 t10 t11 t12 t14 t15 t16 waits =
        let it = next (Flag true) t10 t11 t12 (Word (pos at)) (Word (pos 0)) (Word (pos (i + 1))) t16 waits in
        let all_set = ap (λ b. b || (false || (false || (false || (is_unset (if d.keys_last then Word (pos 0) else one) || (false || false)))))) two_set ∙ ap (λ b. b || (false || false)) v8_set in
        let suc_is : i + 1 ≡ suc i = omega arith in
        record {
          end = it.end;
          same = it.same;
          leads = leads_more (0 + (0 + (0 + (0 + (0 + (0 + 0)))))) 0 (omega arith)
              (leads_then (reads_item 1 (the_words ws) (Word (pos 0)) second_shape is refl refl at refl (inside 0 empty) (read_index ws rest_of at 0 empty))
              (leads_then (gives (Flag true) (same_true 0 0 refl))
              (leads_then (many 1 graph refl all_set)
              (leads_then (gives (Word (pos (i + 1))) (adds i 1 fits))
              (leads_then (puts_item p args _ _ waits _ d.second 2 (Var 13) (Var 15) 1 (the_words ws) at (Word (pos (i + 1))) second_shape refl refl (inside 0 empty) refl refl two refl is)
              (leads_then (many 1 graph refl (ap (λ b. b || (false || (false || (false || (is_unset (if d.keys_last then Word (pos 0) else one) || false))))) two_set ∙ ap (λ b. b || false) v8_set))
              (subst (λ l. Leads p args 0 (At enter_asks.ops enter_asks.exit waits (record (put core two (array_of d.second (Word (pos total) ∷ []) l)) { function = f; block = 1; at = 0; vars = vars (i + 1) (Flag true) t10 t11 t12 (Word (pos at)) (Word (pos 0)) (Word (pos (i + 1))) t16 })) [] (Returning Unset waits it.end))
              (sym (set_index ws rest_of at (i + 1) (below_length ws at 0 empty) ∙ ap (λ n. index_values (slice_set ws at n) ++ rest_of) suc_is)) it.leads)))))));
        }

    passes : (v8_set : is_unset (if d.keys_last then Word (pos 0) else one) ≡ false) (other : ℕ) → Holds ws at other → Probes core i (next (length ws) at) end → Probes core i at end
    unfolding Probes Words enter_graph enter_blocks enter_starts enter_asks enter_hashes enter_probes enter_puts enter_next enter_types
    passes v8_set other holds next_is t9 t10 t11 t12 t14 t15 t16 waits =
        let it = next_is (Flag false) t10 t11 t12 (Word (pos (suc other))) (Word (pos (at + 1))) (Word (pos (next size at))) waits in
        let all_set = ap (λ b. b || (false || (false || (false || (is_unset (if d.keys_last then Word (pos 0) else one) || (false || false)))))) two_set ∙ ap (λ b. b || (false || false)) v8_set in
        let before : at < size = (let b = below_length ws at (suc other) holds in omega (arith, b, long)) in
        let wide : size < 2 ^ 63 = omega (arith, small) in
        record {
          end = it.end;
          same = it.same;
          leads = leads_more (0 + (0 + (0 + (0 + (0 + (0 + 0)))))) 0 (omega arith)
              (leads_then (reads_item 1 (the_words ws) (Word (pos (suc other))) second_shape is refl refl at refl (inside (suc other) holds) (read_index ws rest_of at (suc other) holds))
              (leads_then (gives (Flag false) (not_zero other))
              (leads_then (many 1 graph refl all_set)
              (leads_then (gives (Word (pos (at + 1))) (adds at 1 (omega (arith, before, wide))))
              (leads_then (gives (Word (pos (next size at))) (ap (λ z. Ok (Word z)) ((masks bits few).1 at before)))
              (leads_then (many 1 graph refl all_set)
              (subst (λ s. Leads p args 0 (At (enter_probes d).ops (enter_probes d).exit waits (record core { function = f; block = 3; at = 0; vars = vars i (Flag false) t10 t11 t12 (Word (pos (next s at))) (Word (pos (suc other))) (Word (pos (at + 1))) (Word (pos (next size at))) })) [] (Returning Unset waits it.end)) long it.leads)))))));
        }

  -- the entry comes into the first empty word
  probes : (ws : List ℕ) (i at : ℕ) (new : List ℕ) → Enters ws i at new → (core end : Core) → length ws ≡ size → Words core ws → i + 1 < 2 ^ 63 → is_unset (if d.keys_last then Word (pos 0) else one) ≡ false → Turns (with_words core new) (i + 1) end → Probes core i at end
  probes ws i at _ (puts_in _ empty) core end long is fits set go = puts core end ws i at long is fits set empty go
  probes ws i at new (went _ other _ holds rest) core end long is fits set go = passes core end ws i at long is set other holds (probes ws i (next (length ws) at) new rest core end long is fits set go)

  -- ---- an entry

  module _ (core end : Core) (ws : List ℕ) (i : ℕ) (x : Value) (z : ℤ) (long : length ws ≡ size) (is : Words core ws) (first_is : found core.blocks core.statics one ≡ Some (array_of d.first fields1 firsts)) where
    hashes : i < count → read keys i ≡ x → is_unset x ≡ false → HashIs p args Fine h x z → Fine core.blocks core.statics → is_unset (if d.keys_last then Word (pos 0) else one) ≡ false → Probes core i (place_of bits z) end → Turns core i end
    unfolding Turns Probes Words enter_graph enter_blocks enter_starts enter_asks enter_hashes enter_probes enter_puts enter_next enter_types
    hashes under there set hash_is ok v8_set go t9 t10 t11 t12 t13 t14 t15 t16 waits =
        let place : ℕ = if d.keys_last then size + i else i in
        let it = go (Flag true) (Word (pos place)) x (Word z) t14 t15 t16 waits in
        let two_set : is_unset two ≡ false = found_set core.blocks core.statics two _ is in
        let some_set = ap (λ b. b || (false || (false || (false || (is_unset (if d.keys_last then Word (pos 0) else one) || false))))) two_set ∙ ap (λ b. b || false) v8_set in
        let all_set = ap (λ b. b || (false || (false || (false || (is_unset (if d.keys_last then Word (pos 0) else one) || (false || false)))))) two_set ∙ ap (λ b. b || (false || false)) v8_set in
        record {
          end = it.end;
          same = it.same;
          leads = leads_more (0 + (0 + (0 + (0 + (0 + (0 + 0)))))) 0 (omega arith)
              (leads_then (gives (Flag true) (less_true i count under))
              (leads_then (many 1 graph refl some_set)
              (leads_then (reads_key p args _ _ waits d f 2 first_shape second_shape core one two fields1 (Word (pos total) ∷ []) ws size long i x set (omega (arith, under, below, small)) _ _ _ _ _ _ _ _ _ _ _ _ _ d.keys_last keys values (omega (arith, under, below)) there first_is is)
              (leads_then (call (ap (λ b. b || false) set) (λ waits. hash_is _ waits ok))
              (leads_then (gives (Word (pos (place_of bits z))) (ap (λ z. Ok (Word z)) ((masks bits few).0 z).0))
              (leads_then (many 1 graph refl all_set) it.leads))))));
        }

  -- ---- all entries

  module _ (first_set : is_unset (if d.keys_last then Word (pos 0) else one) ≡ false) (apart : one ≡ two → ⊥) (count_fits : count < 2 ^ 63) where
    none_left : (core : Core) (ws : List ℕ) (i : ℕ) → i ≡ count → Words core ws → Turns core i (with_words core ws)
    unfolding Turns Words enter_graph enter_blocks enter_starts enter_asks enter_hashes enter_probes enter_puts enter_next enter_types
    none_left core ws i at is t9 t10 t11 t12 t13 t14 t15 t16 waits = record {
      end = _;
      same = sym (put_there core two (the_words ws) is);
      leads = leads_more (0 + 0) 0 (omega arith) (leads_then (gives (Flag false) (less_false i count (omega (arith, at)))) (many 2 graph refl refl));
    }

    ends_same : (core end end2 : Core) (i : ℕ) → forgotten end ≡ forgotten end2 → Turns core i end → Turns core i end2
    unfolding Turns
    ends_same core end end2 i same go t9 t10 t11 t12 t13 t14 t15 t16 waits = (let it = go t9 t10 t11 t12 t13 t14 t15 t16 waits in record { end = it.end; same = it.same ∙ same; leads = it.leads })

    all_enter : (xs : List Value) (zs : List ℤ) → AllHashed p args Fine h xs zs → (core : Core) (ws : List ℕ) (i : ℕ) (pre post : List Value) (new : List ℕ) → EntersAll ws i (map (place_of bits) zs) new → length ws ≡ size → keys ≡ pre ++ (xs ++ post) → i ≡ length pre → count ≡ i + length xs
        → Fine core.blocks core.statics → found core.blocks core.statics one ≡ Some (array_of d.first fields1 firsts) → Words core ws → Turns core i (with_words core new)
    unfolding Words
    all_enter _ _ NoneHashed core ws i pre post _ (all_entered _ _) long are at counts ok first_is is = none_left core ws i (omega (arith, counts)) is
    all_enter _ _ (MoreHashed {x = x} {xs = xs} {z = z} {zs = zs} hash_is x_set all) core ws i pre post new (more _ _ _ _ mid _ enters rest) long are at counts ok first_is is =
        let long2 : length mid ≡ size = same_long ws i (place_of bits z) mid enters ∙ long in
        let wrote = wrote_at core.blocks core.statics two (the_words ws) (the_words mid) is in
        let suc_is : suc i ≡ i + 1 = omega arith in
        let under : i < count = omega (arith, counts) in
        hashes core (with_words core new) ws i x z long is first_is under (ap (λ l. read l i) are ∙ read_mid pre x (xs ++ post) i at) x_set hash_is ok first_set
        (probes ws i (place_of bits z) mid enters core (with_words core new) long is (omega (arith, under, count_fits)) first_set
        (ends_same (with_words core mid) (with_words (with_words core mid) new) (with_words core new) (i + 1) (put_twice core two (the_words mid) (the_words new))
        (all_enter xs zs all (with_words core mid) mid (i + 1) (pre ++ x ∷ []) post new (subst (λ k. EntersAll mid k (map (place_of bits) zs) new) suc_is rest) long2 (are ∙ sym (append_assoc pre (x ∷ []) (xs ++ post)))
        (ap (λ k. k + 1) at ∙ sym (length-append pre (x ∷ []))) (omega (arith, counts)) (fine core (index_values ws ++ rest_of) (index_values mid ++ rest_of) is ok) (wrote.others one apart ∙ first_is) wrote.there)))

    -- the call, from an entry on
    pub enters_from : (xs : List Value) (zs : List ℤ) → AllHashed p args Fine h xs zs → (core : Core) (ws : List ℕ) (pre post : List Value) (new : List ℕ) → EntersAll ws (length pre) (map (place_of bits) zs) new → length ws ≡ size → keys ≡ pre ++ (xs ++ post) → count ≡ length pre + length xs
        → total ≡ size + places → total < 2 ^ 63 → 0 < size → Fine core.blocks core.statics → found core.blocks core.statics head ≡ Some (dict_block d.dict count places one two) → found core.blocks core.statics one ≡ Some (array_of d.first fields1 firsts) → found core.blocks core.statics two ≡ Some (the_words ws)
        → (waits : List Frame) → Returns p args 0 (Calling f (head ∷ Word (pos (length pre)) ∷ []) waits core) Unset waits (with_words core new)
    unfolding Turns Words enter_graph enter_blocks enter_starts enter_asks enter_hashes enter_probes enter_puts enter_next enter_types
    enters_from xs zs all core ws pre post new enters long are counts total_is total_fits some ok head_is first_is is waits =
        let one_set : is_unset one ≡ false = found_set core.blocks core.statics one _ first_is in
        let two_set : is_unset two ≡ false = found_set core.blocks core.statics two _ is in
        let it = all_enter xs zs all core ws (length pre) pre post new enters long are refl counts ok first_is is Unset Unset Unset Unset Unset Unset Unset Unset waits in
        let wide : size < 2 ^ 63 = omega (arith, small) in
        let mask_is : size ≡ 1 + (size - 1) = omega (arith, some) in
        record {
          end = it.end;
          same = it.same;
          leads = leads_more (0 + (0 + (0 + (0 + (0 + (0 + (0 + (0 + (0 + 0))))))))) 0 (omega arith)
              (leads_then (enter graph refl)
              (leads_then (reads_field 4 (dict_block d.dict count places one two) two head_shape head_is refl two_set 3 refl)
              (leads_then (reads_field 1 (the_words ws) (Word (pos total)) second_shape is refl refl 0 refl)
              (leads_then (reads_field 4 (dict_block d.dict count places one two) (Word (pos places)) head_shape head_is refl refl 1 refl)
              (leads_then (gives (Word (pos size)) (subs total places size (omega (arith, total_is)) total_fits))
              (leads_then (gives (Word (pos (size - 1))) (subs size 1 (size - 1) mask_is wide))
              (leads_then (reads_field 4 (dict_block d.dict count places one two) (Word (pos count)) head_shape head_is refl refl 0 refl)
              (leads_then (first_reads p args _ waits d head_shape (record core { function = f; block = 0 }) head one two count places one_set _ _ _ _ _ _ _ _ _ _ _ _ _ _ _ _ _ d.keys_last head_is)
              (leads_then (many 1 graph refl (ap (λ b. b || (false || (false || (false || (is_unset (if d.keys_last then Word (pos 0) else one) || false))))) two_set ∙ ap (λ b. b || false) first_set)) it.leads)))))))));
        }
