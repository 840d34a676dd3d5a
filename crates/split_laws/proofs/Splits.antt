-- The graph that splits a string: it counts the parts, pays, makes a list, and takes the parts.
use Rattle.std.proofs.Common.{◌≡◌, ◌<◌, ◌≤◌, ℕ, suc, ◌+◌, ◌-◌, ◌^◌, ◌-ℤ◌, Bool, true, false, List, [], ◌∷◌, ◌++◌, length, Option, Some, None, Ok, pos, refl, sym, ap, ◌∙◌, subst, arith, append_assoc, length-append}
use Rattle.std.specs.Prelude.{slice_get, nat_eq, cond}
use Rattle.std.proofs.lemmas.List.{append-nil}
use Rattle.std.proofs.lemmas.Bool.Decides.{nat_tests}
use Rattle.std.specs.Prelude.{nat_lt, ℤ, negsuc}
use Rattle.rpy_base.specs.Word.{wrap}
use borrow.Author.Differences.{ints}
use Rattle.ll_held.specs.Held.{is_block, times}
use Rattle.ll_texts.specs.Texts.{text_block}
use Rattle.csub_tree.specs.State.{Value, Unset, Word, Byte, Flag, Ptr, Block, Core}
use Rattle.csub_tree.specs.Layout.{shape_at, shape_over}
use Rattle.csub_tree.specs.Operation.{binary_of, is_unset}
use Rattle.csub_tree.specs.declared.tree.CBinary.TheVariants.{Add, Sub}
use Rattle.csub_tree.specs.declared.tree.COperand.TheVariants.{Var}
use Rattle.ll_code.specs.State.{Frame, State, Calling, At, Returning}
use Rattle.ll_code.specs.Machine.{shapes_of}
use Rattle.ll_code.specs.declared.program.LlOp.{LlOp}
use Rattle.ll_code.specs.declared.program.LlOp.TheVariants as op
use Rattle.ll_code.specs.declared.program.LlExit.{LlExit}
use Rattle.ll_code.specs.declared.program.LlProgram.{LlProgram}
use Rattle.ll_build.specs.Build.{word as word_operand}
use Rattle.ll_build.specs.declared.needs.Numbers.{Numbers}
use Rattle.ll_leads.specs.Memory.{forgotten}
use Rattle.ll_leads.specs.Path.{Leads}
use Rattle.ll_leads.proofs.Joined.{leads_then, leads_more}
use Rattle.ll_leads.proofs.Ways.{on, many, enter, gives, turns, call}
use Rattle.ll_texts.specs.Follows.{Lacked, text_blocks}
use Rattle.ll_texts.specs.Texts.{IsText}
use Rattle.ll_texts.proofs.Holding.{holds_at}
use Rattle.ll_texts.proofs.Numbers.{less_true, less_false, adds, subs, wrap_count}
use Rattle.std.proofs.lemmas.Int.{int_wrap_fits}
use Rattle.std.specs.Int.{w64}
use Rattle.ll_texts.proofs.Reading.{is_set, gets_byte, gets_length, get_mid}
use Rattle.ll_texts.proofs.Writing.{text_stays}
use Rattle.rtyper_layout.specs.declared.layout.Layout.{Layout}
use Rattle.rtyper_layout.specs.Layout.{is_list}
use Rattle.rtyper_layout.specs.Types.{word}
use Rattle.rtyper_data.specs.declared.small.Listed.TheVariants.{Make as MakeList, Part}
use Rattle.rtyper_data.specs.declared.small.Small.TheVariants as small
use Rattle.rtyper_data.specs.Finding.{small_number}
use Rattle.list_shape.specs.Shapes.{shape_of}
use Rattle.list_texts.specs.Splitting.{split, split_graph, split_types, split_start, split_asks, split_counted, split_paid, split_more, split_tested, split_part, split_next, split_last}
use Rattle.list_laws.proofs.Copying.{array_with}
use Rattle.list_laws.proofs.Making.{raw_array, made_list}
use Rattle.list_copy_laws.proofs.Fresh.{raw}
use Rattle.object_laws.specs.Done.{HasLayout}
use Rattle.object_laws.specs.Represents.{head_block}
use Rattle.object_laws.proofs.Blocks.{reads_field}
use Rattle.object_laws.proofs.Calling.{Returns, calls_back}
use Rattle.dict_find_laws.proofs.Brought.{block_behind}
use Rattle.dict_find_laws.proofs.Pairing.{writes_between}
use Rattle.split_laws.specs.Asked.{HasSplit}
use Rattle.split_laws.proofs.Parts.{new_of, value_of, nothing, nothing_set, part_comes}
use Rattle.split_laws.proofs.Paying.{AreCosts, Cost, all_costs, all_paid, before, not_paid}
use Rattle.split_laws.proofs.Pieces.{compared_so, occurs, occurs_few, pieces, pieces_counted}

-- ---- the strings of parts

abbrev pub long_parts : List (List ℕ) → List (List ℕ)
long_parts [] = []
long_parts (t ∷ parts) = new_of t ++ long_parts parts

abbrev pub values_from : Value → ℕ → List (List ℕ) → List Value
values_from none next [] = []
values_from none next (t ∷ parts) = value_of none next t ∷ values_from none (next + length (new_of t)) parts

pub values_long : (none : Value) (next : ℕ) (parts : List (List ℕ)) → length (values_from none next parts) ≡ length parts
values_long none next [] = refl
values_long none next (t ∷ parts) = ap suc (values_long none (next + length (new_of t)) parts)

pub blocks_both : (xs ys : List (List ℕ)) → text_blocks (xs ++ ys) ≡ text_blocks xs ++ text_blocks ys
blocks_both [] ys = refl
blocks_both (x ∷ xs) ys = ap (λ l. Some (text_block x) ∷ l) (blocks_both xs ys)

value_set : (none : Value) (next : ℕ) (t : List ℕ) → is_unset none ≡ false → is_unset (value_of none next t) ≡ false
value_set none next [] h = h
value_set none next (b ∷ []) h = refl
value_set none next (b ∷ c ∷ t) h = refl

blocks_long : (texts : List (List ℕ)) → length (text_blocks texts) ≡ length texts
blocks_long [] = refl
blocks_long (t ∷ texts) = ap suc (blocks_long texts)

-- one less than the number of parts, which may be one more than the bytes
abbrev Rest : ℕ → ℕ → Type 0
Rest len c = (z : ℤ) × (binary_of Sub (Word (pos len)) (Word (pos (c + 1))) ≡ Ok (Word z)) × (binary_of Add (Word z) (Word (pos 1)) ≡ Ok (Word (pos (len - c))))

rest_is : (len c : ℕ) → c ≤ len → len + 1 < 2 ^ 63 → Rest len c
rest_is len c h small = by (nat_lt c len) refl
  where
    by : (t : Bool) → nat_lt c len ≡ t → (z : ℤ) × (binary_of Sub (Word (pos len)) (Word (pos (c + 1))) ≡ Ok (Word z)) × (binary_of Add (Word z) (Word (pos 1)) ≡ Ok (Word (pos (len - c))))
    by true e =
        let less : c < len = grind (arith, nat_tests, e) in
        let q : len - (c + 1) + 1 ≡ len - c = omega (arith, less) in
        (pos (len - (c + 1)), subs len (c + 1) (len - (c + 1)) (omega (arith, less)) (omega (arith, small)), adds (len - (c + 1)) 1 (omega (arith, small, less)) ∙ ap (λ m. Ok (Word (pos m))) q)
    by false e =
        let same : len ≡ c = (let l : len ≤ c = grind (arith, nat_tests, e) in omega (arith, l, h)) in
        let z : pos len -ℤ pos (c + 1) ≡ negsuc 0 = omega (arith, ints, same) in
        let q : 0 ≡ len - c = omega (arith, same) in
        (negsuc 0, ap (λ z. Ok (Word (wrap z))) z ∙ ap (λ z. Ok (Word z)) (int_wrap_fits w64 (negsuc 0) (omega (arith, ints))), ap (λ z. Ok (Word z)) (wrap_count 0 (omega arith)) ∙ ap (λ m. Ok (Word (pos m))) q)

module _ (p : LlProgram) (args : List (List ℕ)) (layout : Layout) (numbers : Numbers) (raised : ℕ → Value) (n f : ℕ) (core : Core) (left : ℕ) (has : HasSplit p layout numbers raised core n f) (structs : HasLayout p layout) (struct : is_list layout n ≡ true)
    (x : Value) (text : List ℕ) (b : ℕ) (t : IsText core.blocks core.statics x text) (short : length text + 1 < 2 ^ 63) (steps : left ≡ core.steps) where
  abbrev makes_list : ℕ
  makes_list = (small_number (small.Listed (MakeList n)) has.made).0

  abbrev takes_part : ℕ
  takes_part = (small_number (small.Listed Part) (small_number (small.Listed (MakeList n)) has.made).1).0

  abbrev len : ℕ
  len = length text

  abbrev pub parts : List (List ℕ)
  parts = pieces b [] text

  abbrev k : ℕ
  k = length parts

  abbrev pub cost : ℕ
  cost = 1 + (k + (k + (len - occurs b text + 0)))

  abbrev none : Value
  none = nothing p args layout numbers raised takes_part core has.parts structs.plain.text

  graph : slice_get p.graphs f ≡ Some (split_graph makes_list takes_part (shape_of layout n))
  unfolding split
  graph = has.graph

  k_is : k ≡ occurs b text + 1
  k_is = pieces_counted b [] text

  x_set : is_unset x ≡ false
  x_set = is_set t

  module _ (waits : List Frame) where
    -- ---- the parts are counted

    abbrev counting : ℕ → ℕ → Value → Value → Value → Value → List Value
    counting i c v6 v11 v12 v13 = x ∷ Byte b ∷ Word (pos b) ∷ Word (pos len) ∷ Word (pos i) ∷ Word (pos c) ∷ v6 ∷ Unset ∷ Unset ∷ Unset ∷ Unset ∷ v11 ∷ v12 ∷ v13 ∷ Unset ∷ Unset ∷ []

    abbrev counts : ℕ → ℕ → Value → Value → Value → Value → State
    counts i c v6 v11 v12 v13 = At split_asks.ops split_asks.exit waits (record core { function = f; block = 1; at = 0; vars = counting i c v6 v11 v12 v13 })

    record Counted (from : State) (c : ℕ) : Type 0 where
      v6 : Bool
      v11 : Value
      v12 : Value
      v13 : Value
      plain11 : (m : ℕ) → is_block m v11 ≡ false
      plain13 : (m : ℕ) → is_block m v13 ≡ false
      way : Leads p args 0 from [] (At (split_paid makes_list (shape_of layout n)).ops (split_paid makes_list (shape_of layout n)).exit waits (record core { function = f; block = 3; at = 0; vars = counting len c (Flag v6) v11 v12 v13 }))

    counted : (pre rest : List ℕ) (i c : ℕ) (v6 v11 v12 v13 : Value) → text ≡ pre ++ rest → i ≡ length pre → c + length rest < 2 ^ 63 → ((m : ℕ) → is_block m v11 ≡ false) → ((m : ℕ) → is_block m v13 ≡ false) → Counted (counts i c v6 v11 v12 v13) (c + occurs b rest)
    unfolding split_graph split_types split_asks split_counted split_paid
    counted pre [] i c v6 v11 v12 v13 are at few plain11 plain13 =
        let whole = ap length are in
        let total = length-append pre [] in
        let i_is : i ≡ len = omega (arith, whole, total, at) in
        let c_is : c ≡ c + 0 = omega arith in
        record {
          v6 = false;
          v11 = v11;
          v12 = v12;
          v13 = v13;
          plain11 = plain11;
          plain13 = plain13;
          way = on (gives (Flag false) (less_false i len (omega (arith, i_is))))
              (subst (λ m. Leads p args 0 (At [] split_asks.exit waits (record core { function = f; block = 1; at = 1; vars = counting i c (Flag false) v11 v12 v13 })) [] (At (split_paid makes_list (shape_of layout n)).ops (split_paid makes_list (shape_of layout n)).exit waits (record core { function = f; block = 3; at = 0; vars = counting m (c + 0) (Flag false) v11 v12 v13 }))) i_is
              (subst (λ m. Leads p args 0 (At [] split_asks.exit waits (record core { function = f; block = 1; at = 1; vars = counting i c (Flag false) v11 v12 v13 })) [] (At (split_paid makes_list (shape_of layout n)).ops (split_paid makes_list (shape_of layout n)).exit waits (record core { function = f; block = 3; at = 0; vars = counting i m (Flag false) v11 v12 v13 }))) c_is
              (many 1 graph refl (simp x_set))));
        }
    counted pre (y ∷ rest) i c v6 v11 v12 v13 are at few plain11 plain13 =
        let whole = ap length are in
        let total = length-append pre (y ∷ rest) in
        let longer = length-append pre (y ∷ []) in
        one_more (nat_eq b y) refl (λ d v6 v12 v13 less plain. counted (pre ++ y ∷ []) rest (i + 1) d v6 (Byte y) v12 v13 (are ∙ sym (append_assoc pre (y ∷ []) rest)) (omega (arith, at, longer)) less (λ m. refl) plain)
      where
        here : slice_get text i ≡ Some y
        here = ap (λ l. slice_get l i) are ∙ get_mid pre y rest i at

        lt : i < len
        lt = (let whole = ap length are in let total = length-append pre (y ∷ rest) in omega (arith, whole, total, at))

        one_more : (same : Bool) → nat_eq b y ≡ same → ((d : ℕ) (v6 v12 v13 : Value) → d + length rest < 2 ^ 63 → ((m : ℕ) → is_block m v13 ≡ false) → Counted (counts (i + 1) d v6 (Byte y) v12 v13) (d + occurs b rest)) → Counted (counts i c v6 v11 v12 v13) (c + (cond same 1 0 + occurs b rest))
        one_more true e next =
            let it = next (c + 1) (Flag true) (Word (pos (c + 1))) (Word (pos (i + 1))) (omega (arith, few)) (λ m. refl) in
            let q : c + 1 + occurs b rest ≡ c + (1 + occurs b rest) = omega arith in
            subst (λ m. Counted (counts i c v6 v11 v12 v13) m) q (record {
              v6 = it.v6;
              v11 = it.v11;
              v12 = it.v12;
              v13 = it.v13;
              plain11 = it.plain11;
              plain13 = it.plain13;
              way = on (gives (Flag true) (less_true i len lt)) (on (many 1 graph refl (simp x_set)) (on (gets_byte i y structs.plain.text t refl here) (on (turns (Word (pos y)) refl) (on (gives (Flag true) (compared_so y b true e))
                  (on (turns (Word (pos 1)) refl) (on (gives (Word (pos (c + 1))) (adds c 1 (omega (arith, few)))) (on (gives (Word (pos (i + 1))) (adds i 1 (omega (arith, lt, short)))) (on (many 1 graph refl (simp x_set)) it.way))))))));
            })
        one_more false e next =
            let it = next (c + 0) (Flag false) (Word (pos (c + 0))) (Word (pos (i + 1))) (omega (arith, few)) (λ m. refl) in
            let q : c + 0 + occurs b rest ≡ c + (0 + occurs b rest) = omega arith in
            subst (λ m. Counted (counts i c v6 v11 v12 v13) m) q (record {
              v6 = it.v6;
              v11 = it.v11;
              v12 = it.v12;
              v13 = it.v13;
              plain11 = it.plain11;
              plain13 = it.plain13;
              way = on (gives (Flag true) (less_true i len lt)) (on (many 1 graph refl (simp x_set)) (on (gets_byte i y structs.plain.text t refl here) (on (turns (Word (pos y)) refl) (on (gives (Flag false) (compared_so y b false e))
                  (on (turns (Word (pos 0)) refl) (on (gives (Word (pos (c + 0))) (adds c 0 (omega (arith, few)))) (on (gives (Word (pos (i + 1))) (adds i 1 (omega (arith, lt, short)))) (on (many 1 graph refl (simp x_set)) it.way))))))));
            })

    begins : Counted (Calling f (x ∷ Byte b ∷ []) waits core) (1 + occurs b text)
    unfolding split_graph split_types split_start split_asks
    begins =
        let it = counted [] text 0 1 Unset Unset Unset Unset refl refl (omega (arith, short)) (λ m. refl) (λ m. refl) in
        record {
          v6 = it.v6;
          v11 = it.v11;
          v12 = it.v12;
          v13 = it.v13;
          plain11 = it.plain11;
          plain13 = it.plain13;
          way = on (enter graph refl) (on (turns (Word (pos b)) refl) (on (gets_length structs.plain.text t) (on (many 1 graph refl (simp x_set)) it.way)));
        }

    -- ---- all is paid

    abbrev m : ℕ
    m = len - occurs b text

    -- behind the count, with the bytes of all parts
    abbrev paying : Counted (Calling f (x ∷ Byte b ∷ []) waits core) (1 + occurs b text) → Value → Value → List Value
    paying it list array = x ∷ Byte b ∷ Word (pos b) ∷ Word (pos len) ∷ Word (pos len) ∷ Word (pos k) ∷ Flag it.v6 ∷ list ∷ array ∷ Unset ∷ Unset ∷ it.v11 ∷ Word (pos m) ∷ it.v13 ∷ Unset ∷ Unset ∷ []

    abbrev ready : Core
    ready = record core { function = f; block = 3; at = 2; vars = paying begins Unset Unset }

    abbrev makes_it : List LlOp
    makes_it = op.Call (Some 7) makes_list (Var 5 ∷ []) ∷ op.GetField 8 n 7 1 ∷ []

    abbrev costs : List Cost
    costs = (word_operand (pos 1), 1) ∷ (Var 5, k) ∷ (Var 5, k) ∷ (Var 12, m) ∷ []

    reckons : Leads p args 0 (Calling f (x ∷ Byte b ∷ []) waits core) [] (At (before costs makes_it) (split_paid makes_list (shape_of layout n)).exit waits ready)
    unfolding split_graph split_paid
    reckons =
        let it = begins in
        let q : 1 + occurs b text ≡ k = (let h = k_is in omega (arith, h)) in
        let r = rest_is len (occurs b text) (occurs_few b text) short in
        let e : 1 + occurs b text ≡ occurs b text + 1 = omega arith in
        on it.way
        (subst (λ c. Leads p args 0 (At (split_paid makes_list (shape_of layout n)).ops (split_paid makes_list (shape_of layout n)).exit waits (record core { function = f; block = 3; at = 0; vars = counting len (1 + occurs b text) (Flag it.v6) it.v11 it.v12 it.v13 })) [] (At (before costs makes_it) (split_paid makes_list (shape_of layout n)).exit waits (record core { function = f; block = 3; at = 2; vars = x ∷ Byte b ∷ Word (pos b) ∷ Word (pos len) ∷ Word (pos len) ∷ Word (pos c) ∷ Flag it.v6 ∷ Unset ∷ Unset ∷ Unset ∷ Unset ∷ it.v11 ∷ Word (pos m) ∷ it.v13 ∷ Unset ∷ Unset ∷ [] }))) q
        (on (gives (Word r.0) (ap (λ c. binary_of Sub (Word (pos len)) (Word (pos c))) e ∙ r.1)) (gives (Word (pos m)) r.2)))

    are_costs : AreCosts ready.vars costs
    are_costs = (refl, (refl, (refl, (refl, tt))))

    only_text : (y : ℕ) → 0 < times y ready.vars → 0 < times y (x ∷ Byte b ∷ [])
    only_text y h = (let e : times y (begins.v11 ∷ begins.v13 ∷ []) ≡ 0 = ap (λ c. cond c (suc (cond (is_block y begins.v13) 1 0)) (cond (is_block y begins.v13) 1 0)) (begins.plain11 y) ∙ ap (λ c. cond c 1 0) (begins.plain13 y) in subst (λ z. 0 < cond (is_block y x) (suc z) z) e h)

    pub split_lacks : left < cost → Lacked p args (Calling f (x ∷ Byte b ∷ []) waits core) core
    split_lacks less =
        let it = not_paid p args makes_it (split_paid makes_list (shape_of layout n)).exit waits costs ready are_costs (omega (arith, less, steps)) in
        record {
          last = At it.rest (split_paid makes_list (shape_of layout n)).exit waits (record ready { at = it.at; steps = it.steps });
          leads = on reckons it.leads;
          ends = it.ends;
          blocks = refl;
          holds = holds_at p f (x ∷ Byte b ∷ []) waits core it.rest (split_paid makes_list (shape_of layout n)).exit (record ready { at = it.at; steps = it.steps }) refl only_text;
        }

    -- ---- the list is made

    abbrev bs : List (Option Block)
    bs = core.blocks

    abbrev array : Value
    array = Ptr (length bs)

    abbrev list : Value
    list = Ptr (length bs + 1)

    abbrev mem : List Value → List (Option Block) → List (Option Block)
    mem items ts = bs ++ Some (array_with (word (n + 1)) (Word (pos k) ∷ []) items) ∷ Some (head_block n k array) ∷ ts

    arrays : shape_at (shapes_of p.structs) (word (n + 1)) ≡ shape_over (word (n + 1)) 1 None
    arrays = structs.arrays n struct

    abbrev paid : ℕ
    paid = left - cost

    abbrev makes_core : Core
    makes_core = record ready { at = 6; steps = paid }

    made_here : (waits : List Frame) → Returns p args 1 (Calling makes_list (Word (pos k) ∷ []) waits makes_core) list waits (record makes_core { blocks = mem (raw k) [] })
    made_here waits =
        let it = made_list p args layout n makes_list k (structs.heads n struct) arrays has.makes.graph makes_core waits in
        let q = length-append bs (Some (raw_array n k) ∷ []) in
        record {
          end = it.end;
          same = it.same ∙ ap (λ bs. forgotten (record makes_core { blocks = bs })) (append_assoc bs (Some (raw_array n k) ∷ []) (Some (head_block n k array) ∷ []));
          leads = subst (λ n. Leads p args 1 (Calling makes_list (Word (pos k) ∷ []) waits makes_core) [] (Returning (Ptr n) waits it.end)) q it.leads;
        }

    -- what stands in the other variables
    record Others : Type 0 where
      v5 : Value
      v6 : Value
      v11 : Value
      v12 : Value
      v13 : Value
      v14 : Value

    abbrev vars : ℕ → ℕ → ℕ → Others → List Value
    vars i begin j r = x ∷ Byte b ∷ Word (pos b) ∷ Word (pos len) ∷ Word (pos i) ∷ r.v5 ∷ r.v6 ∷ list ∷ array ∷ Word (pos begin) ∷ Word (pos j) ∷ r.v11 ∷ r.v12 ∷ r.v13 ∷ r.v14 ∷ Unset ∷ []

    abbrev over : ℕ → ℕ → ℕ → ℕ → ℕ → Others → List (Option Block) → Core
    over block at i begin j r blocks = record core { function = f; block = block; at = at; vars = vars i begin j r; blocks = blocks; steps = paid }

    abbrev asking : ℕ → ℕ → ℕ → Others → List Value → List (Option Block) → State
    asking i begin j r items ts = At split_more.ops split_more.exit waits (over 4 0 i begin j r (mem items ts))

    abbrev first : Others
    first = record { v5 = Word (pos k); v6 = Flag begins.v6; v11 = begins.v11; v12 = Word (pos m); v13 = begins.v13; v14 = Unset }

    starts : cost ≤ left → Leads p args 1 (Calling f (x ∷ Byte b ∷ []) waits core) [] (asking 0 0 0 first (raw k) [])
    unfolding split_graph split_paid split_more
    starts enough =
        let sum : core.steps ≡ all_costs costs + paid = omega (arith, enough, steps) in
        leads_more (0 + (1 + 0)) 1 (omega arith)
        (leads_then (on reckons (all_paid p args makes_it (split_paid makes_list (shape_of layout n)).exit waits costs ready paid are_costs sum))
        (leads_then (calls_back {core = makes_core} 1 refl refl made_here)
        (on (reads_field 2 (head_block n k array) array (structs.heads n struct) (block_behind bs _ (length bs + 1) 1 refl) refl refl 1 refl) (many 1 graph refl (simp x_set)))))

    -- ---- the parts are taken

    abbrev next_block : List (Option Block) → ℕ
    next_block ts = length bs + 2 + length ts

    long_mem : (items : List Value) (ts : List (Option Block)) → length (mem items ts) ≡ next_block ts
    long_mem items ts = (let q = length-append bs (Some (array_with (word (n + 1)) (Word (pos k) ∷ []) items) ∷ Some (head_block n k array) ∷ ts) in omega (arith, q))

    -- a part is put into the list
    abbrev taking : ℕ → ℕ → ℕ → ℕ → Others → List Value → List (Option Block) → List LlOp → LlExit → State
    taking block i begin j r items ts ops e = At (op.Call (Some 14) takes_part (Var 0 ∷ Var 9 ∷ Var 12 ∷ []) ∷ op.SetItem (word (n + 1)) 8 (Var 10) (Var 14) ∷ ops) e waits (over block 1 i begin j r (mem items ts))

    puts : (block i begin j : ℕ) (r : Others) (pre cur post : List ℕ) (done spare : List Value) (old : Value) (ts : List (Option Block)) (ops : List LlOp) (e : LlExit) → text ≡ pre ++ (cur ++ post) → begin ≡ length pre → length done ≡ j → paid ≤ core.steps
        → Leads p args 1 (taking block i begin j (record r { v12 = Word (pos (length cur)) }) (done ++ old ∷ spare) ts ops e) []
        (At ops e waits (over block 3 i begin j (record r { v12 = Word (pos (length cur)); v14 = value_of none (next_block ts) cur }) (mem (done ++ value_of none (next_block ts) cur ∷ spare) (ts ++ text_blocks (new_of cur)))))
    puts block i begin j r pre cur post done spare old ts ops e are at done_long less =
        let items : List Value = done ++ old ∷ spare in
        let r1 : Others = record r { v12 = Word (pos (length cur)) } in
        let now : Core = over block 1 i begin j r1 (mem items ts) in
        let t_now : IsText now.blocks now.statics x (pre ++ (cur ++ post)) = text_stays (Some (array_with (word (n + 1)) (Word (pos k) ∷ []) items) ∷ Some (head_block n k array) ∷ ts) (subst (IsText core.blocks core.statics x) are t) in
        let value : Value = value_of none (length (mem items ts)) cur in
        let same : value ≡ value_of none (next_block ts) cur = ap (λ q. value_of none q cur) (long_mem items ts) in
        let grown : mem items ts ++ text_blocks (new_of cur) ≡ mem items (ts ++ text_blocks (new_of cur)) = append_assoc bs (Some (array_with (word (n + 1)) (Word (pos k) ∷ []) items) ∷ Some (head_block n k array) ∷ ts) (text_blocks (new_of cur)) in
        subst (λ v. Leads p args 1 (taking block i begin j r1 items ts ops e) [] (At ops e waits (over block 3 i begin j (record r1 { v14 = v }) (mem (done ++ v ∷ spare) (ts ++ text_blocks (new_of cur)))))) same
        (leads_more (0 + 1) 1 (omega arith)
        (leads_then (call {core = now} (simp x_set) (λ waits. part_comes p args layout numbers raised takes_part core has.parts structs.plain.text waits now refl less x pre cur post begin t_now at))
        (writes_between 1 bs (Some (head_block n k array) ∷ (ts ++ text_blocks (new_of cur))) (Word (pos k) ∷ []) done spare old value arrays grown refl (ap (λ n. Word (pos n)) (sym done_long)) refl (value_set none (length (mem items ts)) cur (nothing_set p args layout numbers raised takes_part core has.parts structs.plain.text)))))

    -- what is left to do
    abbrev Takes : ℕ → ℕ → ℕ → List ℕ → List ℕ → List Value → List (Option Block) → Others → Type 0
    Takes i begin j cur rest done ts r =
        Returns p args (length (pieces b cur rest)) (asking i begin j r (done ++ raw (length (pieces b cur rest))) ts) list waits
        (record core { blocks = mem (done ++ values_from none (next_block ts) (pieces b cur rest)) (ts ++ text_blocks (long_parts (pieces b cur rest))); steps = paid })

    -- where one is put and others follow
    gathered : (done : List Value) (ts : List (Option Block)) (cur : List ℕ) (more : List (List ℕ))
        → mem ((done ++ value_of none (next_block ts) cur ∷ []) ++ values_from none (next_block (ts ++ text_blocks (new_of cur))) more) ((ts ++ text_blocks (new_of cur)) ++ text_blocks (long_parts more))
        ≡ mem (done ++ values_from none (next_block ts) (cur ∷ more)) (ts ++ text_blocks (long_parts (cur ∷ more)))
    gathered done ts cur more =
        let e : next_block (ts ++ text_blocks (new_of cur)) ≡ next_block ts + length (new_of cur) = (let a = length-append ts (text_blocks (new_of cur)) in let l = blocks_long (new_of cur) in omega (arith, a, l)) in
        ap (λ q. mem ((done ++ value_of none (next_block ts) cur ∷ []) ++ values_from none q more) ((ts ++ text_blocks (new_of cur)) ++ text_blocks (long_parts more))) e
        ∙ ap (λ l. mem l ((ts ++ text_blocks (new_of cur)) ++ text_blocks (long_parts more))) (append_assoc done (value_of none (next_block ts) cur ∷ []) (values_from none (next_block ts + length (new_of cur)) more))
        ∙ ap (mem (done ++ values_from none (next_block ts) (cur ∷ more))) (append_assoc ts (text_blocks (new_of cur)) (text_blocks (long_parts more)) ∙ ap (λ l. ts ++ l) (sym (blocks_both (new_of cur) (long_parts more))))

    fits_place : (pre cur rest : List ℕ) (i : ℕ) → text ≡ pre ++ (cur ++ rest) → i ≡ length pre + length cur → i + length rest ≡ len
    fits_place pre cur rest i are at = (let whole = ap length are in let a = length-append pre (cur ++ rest) in let c = length-append cur rest in omega (arith, whole, a, c, at))

    last_part : (pre cur : List ℕ) (i begin j : ℕ) (r : Others) (done : List Value) (ts : List (Option Block)) → text ≡ pre ++ (cur ++ []) → i ≡ length pre + length cur → begin ≡ length pre → length done ≡ j → paid ≤ core.steps → Takes i begin j cur [] done ts r
    unfolding split_graph split_more split_last
    last_part pre cur i begin j r done ts are at at_begin done_long less =
        let place = fits_place pre cur [] i are at in
        let i_is : i ≡ len = omega (arith, place) in
        let value : Value = value_of none (next_block ts) cur in
        let r1 : Others = record r { v6 = Flag false } in
        record {
          end = over 8 3 i begin j (record r1 { v12 = Word (pos (length cur)); v14 = value }) (mem (done ++ value ∷ []) (ts ++ text_blocks (new_of cur)));
          same = ap (λ l. forgotten (record core { blocks = l; steps = paid })) (ap (λ l. mem (done ++ value ∷ []) (ts ++ text_blocks l)) (sym (append-nil (new_of cur))));
          leads = leads_more (0 + (1 + 0)) 1 (omega arith)
              (leads_then (on (gives (Flag false) (less_false i len (omega (arith, i_is)))) (on (many 1 graph refl (simp x_set)) (gives (Word (pos (length cur))) (subs len begin (length cur) (omega (arith, place, at, at_begin)) (omega (arith, short))))))
              (leads_then (puts 8 i begin j r1 pre cur [] done [] Unset ts [] split_last_exit are at_begin done_long less) (many 1 graph refl refl)));
        }
      where
        split_last_exit : LlExit
        split_last_exit = (split_last takes_part (shape_of layout n)).exit

    same_turn : {most : ℕ} {s : State} (i i2 begin begin2 j j2 : ℕ) (r : Others) (items items2 : List Value) (ts : List (Option Block)) → i ≡ i2 → begin ≡ begin2 → j ≡ j2 → items ≡ items2 → Leads p args most (asking i2 begin2 j2 r items2 ts) [] s → Leads p args most (asking i begin j r items ts) [] s
    same_turn {most = most} {s = s} i i2 begin begin2 j j2 r items items2 ts a c d e way =
        subst (λ i. Leads p args most (asking i begin j r items ts) [] s) (sym a)
        (subst (λ begin. Leads p args most (asking i2 begin j r items ts) [] s) (sym c)
        (subst (λ j. Leads p args most (asking i2 begin2 j r items ts) [] s) (sym d) (subst (λ items. Leads p args most (asking i2 begin2 j2 r items ts) [] s) (sym e) way)))

    module _ (pre cur : List ℕ) (y : ℕ) (rest : List ℕ) (i begin j : ℕ) (r : Others) (done : List Value) (ts : List (Option Block)) (are : text ≡ pre ++ (cur ++ y ∷ rest)) (at : i ≡ length pre + length cur) (at_begin : begin ≡ length pre) (done_long : length done ≡ j) (few : j ≤ begin) (less : paid ≤ core.steps) where
      place : i + suc (length rest) ≡ len
      place = fits_place pre cur (y ∷ rest) i are at

      here : slice_get text i ≡ Some y
      here = ap (λ l. slice_get l i) (are ∙ sym (append_assoc pre cur (y ∷ rest))) ∙ get_mid (pre ++ cur) y rest i (let q = length-append pre cur in omega (arith, q, at))

      tested : (items : List Value) (same : Bool) → nat_eq b y ≡ same → Leads p args 0 (asking i begin j r items ts) [] (At [] split_tested.exit waits (over 5 3 i begin j (record r { v6 = Flag same; v11 = Byte y; v12 = Word (pos y) }) (mem items ts)))
      unfolding split_graph split_more split_tested
      tested items same e =
          on (gives (Flag true) (less_true i len (let q = place in omega (arith, q)))) (on (many 1 graph refl (simp x_set))
          (on (gets_byte i y structs.plain.text (text_stays (Some (array_with (word (n + 1)) (Word (pos k) ∷ []) items) ∷ Some (head_block n k array) ∷ ts) t) refl here) (on (turns (Word (pos y)) refl) (gives (Flag same) (compared_so y b same e)))))

      goes_on : nat_eq b y ≡ false → ((r : Others) → Takes (i + 1) begin j (cur ++ y ∷ []) rest done ts r) → Returns p args (length (pieces b (cur ++ y ∷ []) rest)) (asking i begin j r (done ++ raw (length (pieces b (cur ++ y ∷ []) rest))) ts) list waits
          (record core { blocks = mem (done ++ values_from none (next_block ts) (pieces b (cur ++ y ∷ []) rest)) (ts ++ text_blocks (long_parts (pieces b (cur ++ y ∷ []) rest))); steps = paid })
      unfolding split_graph split_more split_tested split_next
      goes_on e next =
          let ends = next (record r { v6 = Flag false; v11 = Byte y; v12 = Word (pos (i + 1)) }) in
          record {
            end = ends.end;
            same = ends.same;
            leads = on_any (on (tested (done ++ raw (length (pieces b (cur ++ y ∷ []) rest))) false e) (on (many 1 graph refl (simp x_set)) (on (gives (Word (pos (i + 1))) (adds i 1 (let q = place in omega (arith, q, short)))) (many 1 graph refl (simp x_set))))) ends.leads;
          }
        where
          on_any : {most : ℕ} {s u v : State} → Leads p args 0 s [] u → Leads p args most u [] v → Leads p args most s [] v
          on_any {most = most} a c = leads_more (0 + most) most (omega arith) (leads_then a c)

      ends_one : nat_eq b y ≡ true → ((r : Others) → Takes (i + 1) (i + 1) (j + 1) [] rest (done ++ value_of none (next_block ts) cur ∷ []) (ts ++ text_blocks (new_of cur)) r)
          → Returns p args (length (cur ∷ pieces b [] rest)) (asking i begin j r (done ++ raw (length (cur ∷ pieces b [] rest))) ts) list waits
          (record core { blocks = mem (done ++ values_from none (next_block ts) (cur ∷ pieces b [] rest)) (ts ++ text_blocks (long_parts (cur ∷ pieces b [] rest))); steps = paid })
      unfolding split_graph split_more split_tested split_part
      ends_one e next =
          let more : List (List ℕ) = pieces b [] rest in
          let value : Value = value_of none (next_block ts) cur in
          let r1 : Others = record r { v6 = Flag true; v11 = Byte y } in
          let r2 : Others = record r1 { v12 = Word (pos (i + 1)); v13 = Word (pos (j + 1)); v14 = value } in
          let ends = next r2 in
          let items : List Value = done ++ value ∷ raw (length more) in
          let ts2 : List (Option Block) = ts ++ text_blocks (new_of cur) in
          record {
            end = ends.end;
            same = ends.same ∙ ap (λ l. forgotten (record core { blocks = l; steps = paid })) (gathered done ts cur more);
            leads = leads_more (0 + (1 + (0 + length more))) (length (cur ∷ more)) (omega arith)
                (leads_then (on (tested (done ++ raw (length (cur ∷ more))) true e) (on (many 1 graph refl (simp x_set)) (gives (Word (pos (length cur))) (subs i begin (length cur) (omega (arith, at, at_begin)) (let q = place in omega (arith, q, short))))))
                (leads_then (puts 6 i begin j r1 pre cur (y ∷ rest) done (raw (length more)) Unset ts (op.Binary 12 Add (Var 4) (word_operand (pos 1)) ∷ op.Binary 13 Add (Var 10) (word_operand (pos 1)) ∷ []) (split_part takes_part (shape_of layout n)).exit are at_begin done_long less)
                (leads_then {t = asking (i + 1) (i + 1) (j + 1) r2 items ts2} (on (gives (Word (pos (i + 1))) (adds i 1 (let q = place in omega (arith, q, short)))) (on (gives (Word (pos (j + 1))) (adds j 1 (let q = place in omega (arith, q, short, few, at, at_begin)))) (many {t = asking (i + 1) (i + 1) (j + 1) r2 items ts2} 1 graph refl (simp x_set))))
                (same_turn (i + 1) (i + 1) (i + 1) (i + 1) (j + 1) (j + 1) r2 items ((done ++ value ∷ []) ++ raw (length more)) ts2 refl refl refl (sym (append_assoc done (value ∷ []) (raw (length more)))) ends.leads))));
          }

    takes : (pre cur rest : List ℕ) (i begin j : ℕ) (r : Others) (done : List Value) (ts : List (Option Block)) → text ≡ pre ++ (cur ++ rest) → i ≡ length pre + length cur → begin ≡ length pre → length done ≡ j → j ≤ begin → paid ≤ core.steps → Takes i begin j cur rest done ts r
    takes pre cur [] i begin j r done ts are at at_begin done_long few less = last_part pre cur i begin j r done ts are at at_begin done_long less
    takes pre cur (y ∷ rest) i begin j r done ts are at at_begin done_long few less =
        by (nat_eq b y) refl
        (λ r. takes pre (cur ++ y ∷ []) rest (i + 1) begin j r done ts (are ∙ ap (λ l. pre ++ l) (sym (append_assoc cur (y ∷ []) rest))) (let q = length-append cur (y ∷ []) in omega (arith, at, q)) at_begin done_long few less)
        (λ r. takes (pre ++ (cur ++ y ∷ [])) [] rest (i + 1) (i + 1) (j + 1) r (done ++ value_of none (next_block ts) cur ∷ []) (ts ++ text_blocks (new_of cur))
        (are ∙ ap (λ l. pre ++ l) (sym (append_assoc cur (y ∷ []) rest)) ∙ sym (append_assoc pre (cur ++ y ∷ []) rest))
        (let q = length-append pre (cur ++ y ∷ []) in let c = length-append cur (y ∷ []) in omega (arith, at, q, c)) (let q = length-append pre (cur ++ y ∷ []) in let c = length-append cur (y ∷ []) in omega (arith, at, q, c))
        (let q = length-append done (value_of none (next_block ts) cur ∷ []) in omega (arith, done_long, q)) (omega (arith, few, at, at_begin)) less)
      where
        by : (same : Bool) → nat_eq b y ≡ same → ((r : Others) → Takes (i + 1) begin j (cur ++ y ∷ []) rest done ts r) → ((r : Others) → Takes (i + 1) (i + 1) (j + 1) [] rest (done ++ value_of none (next_block ts) cur ∷ []) (ts ++ text_blocks (new_of cur)) r)
            → Returns p args (length (cond same (cur ∷ pieces b [] rest) (pieces b (cur ++ y ∷ []) rest))) (asking i begin j r (done ++ raw (length (cond same (cur ∷ pieces b [] rest) (pieces b (cur ++ y ∷ []) rest)))) ts) list waits
            (record core { blocks = mem (done ++ values_from none (next_block ts) (cond same (cur ∷ pieces b [] rest) (pieces b (cur ++ y ∷ []) rest))) (ts ++ text_blocks (long_parts (cond same (cur ∷ pieces b [] rest) (pieces b (cur ++ y ∷ []) rest)))); steps = paid })
        by true e over_it part_done = ends_one pre cur y rest i begin j r done ts are at at_begin done_long few less e part_done
        by false e over_it part_done = goes_on pre cur y rest i begin j r done ts are at at_begin done_long few less e over_it

    pub split_gives : cost ≤ left → Returns p args (k + 1) (Calling f (x ∷ Byte b ∷ []) waits core) list waits (record core { blocks = mem (values_from none (length bs + 2 + 0) parts) (text_blocks (long_parts parts)); steps = paid })
    split_gives enough =
        let it = takes [] [] text 0 0 0 first [] [] refl refl refl refl (omega arith) (omega (arith, steps)) in
        record { end = it.end; same = it.same; leads = leads_more (1 + k) (k + 1) (omega arith) (leads_then (starts enough) it.leads) }
