-- Whether two tuples are equal: the graph that compares them item by item.
use Rattle.std.proofs.Common.{◌≡◌, ◌<◌, ◌≤◌, ℕ, zero, suc, ◌+◌, ◌-◌, ◌==◌, Bool, true, false, ◌&&◌, ◌||◌, List, [], ◌∷◌, ◌++◌, length, Option, Some, None, Ok, pos, refl, sym, ap, ◌∙◌, subst, arith, append_assoc, length-append}
use Rattle.std.specs.Prelude.{slice_get, replicate, if◌then◌else◌}
use Rattle.std.proofs.lemmas.Bool.Decides.{nat_tests}
use Rattle.std.proofs.lemmas.List.{length-replicate, length-set}
use Rattle.ann_element.specs.declared.element.Element.{Element}
use Rattle.csub_tree.specs.State.{Value, Unset, Word, Flag, Block, Core}
use Rattle.csub_tree.specs.Operation.{is_unset, word_of_flag, unary_of, binary_of}
use Rattle.csub_tree.specs.Statement.{read, operand}
use Rattle.csub_tree.specs.declared.tree.CBinary.TheVariants as binary
use Rattle.csub_tree.specs.declared.tree.CUnary.TheVariants as unary
use Rattle.csub_tree.specs.declared.tree.COperand.{COperand}
use Rattle.csub_tree.specs.declared.tree.COperand.TheVariants.{Var}
use Rattle.ll_code.specs.State.{Frame, State, Calling, At, Returning, Goes}
use Rattle.ll_code.specs.Machine.{given}
use Rattle.ll_code.specs.declared.program.LlType.{LlType}
use Rattle.ll_code.specs.declared.program.LlType.TheVariants as type
use Rattle.ll_code.specs.declared.program.LlOp.{LlOp}
use Rattle.ll_code.specs.declared.program.LlOp.TheVariants as op
use Rattle.ll_code.specs.declared.program.LlExit.{LlExit}
use Rattle.ll_code.specs.declared.program.LlExit.TheVariants as exit
use Rattle.ll_code.specs.declared.program.LlProgram.{LlProgram}
use Rattle.ll_leads.specs.Path.{Leads}
use Rattle.ll_leads.proofs.Ways.{Comes, on, rests, one, enter, gives, turns}
use Rattle.ll_build.specs.declared.needs.Helper.TheVariants as helper
use Rattle.ll_build.specs.declared.needs.Numbers.{Numbers}
use Rattle.ll_texts.specs.Texts.{found}
use Rattle.rpy_tree.specs.Value.{Value as Meant, Heap}
use Rattle.rpy_meaning.specs.Compare.{equal, all_equal, both}
use Rattle.rpy_meaning.specs.Sequences.{parts_of, tuple}
use Rattle.rtyper_layout.specs.declared.layout.Layout.{Layout}
use Rattle.rtyper_layout.specs.Kinds.{kind_seen}
use Rattle.rtyper_layout.specs.Layout.{is_tuple}
use Rattle.rtyper_layout.specs.Types.{type_of, type_seen, shape, field_type}
use Rattle.rtyper_data.specs.declared.found.Found.{Found}
use Rattle.rtyper_data.specs.declared.small.Small.TheVariants as small
use Rattle.rtyper_data.specs.Finding.{small_number}
use Rattle.rtyper_data.specs.Graphs.{fields_at, field_at, shared_fields}
use Rattle.rtyper_data.specs.Numbers.{word}
use Rattle.rtyper_data.specs.Comparing.{zero_word}
use Rattle.rtyper_data.specs.Seen.{Writing}
use Rattle.lower_laws.specs.Asked.{Help, Make}
use Rattle.lower_laws.specs.Values.{is_simple, IsBelow}
use Rattle.lower_laws.proofs.Doing.{after}
use Rattle.lower_laws.proofs.Stayed.{field_is, simple_there, simple_typed}
use Rattle.lower_laws.proofs.Tupled.{tuple_block}
use Rattle.object_laws.specs.Done.{HasLayout, AllAsked}
use Rattle.object_laws.specs.Ghost.{Ghost, Stays, use_of}
use Rattle.object_laws.specs.Known.{Known}
use Rattle.object_laws.specs.Represents.{Represents}
use Rattle.object_laws.specs.Values as high
use Rattle.object_laws.specs.Values.{Holds, AllHold}
use Rattle.object_laws.proofs.Blocks.{found_set, reads_field}
use Rattle.object_laws.proofs.Passing.{Passed, none_passed, sets_more, both_passed, operand_kept, is_set_at, is_kept_at, calls_at}
use Rattle.object_laws.proofs.Valued.{held_set}
use Rattle.conversion_laws.specs.Asked.{HasTo, equal_asks, fields_equal_asks, equality_asks}
use Rattle.conversion_laws.specs.Compared.{Compares, AllCompare, Simple, Items, End, Next}
use Rattle.conversion_laws.specs.Going.{IsTuple}
use Rattle.conversion_laws.proofs.Casting.{read_mid}
use Rattle.conversion_laws.proofs.Converting.{field_there}
use Rattle.conversion_laws.proofs.Moving.{all_kept, has_first, has_second}
use Rattle.conversion_laws.proofs.Rows.{shared_is}
use Rattle.conversion_laws.proofs.Rounds.{all_at, all_long, all_ops, answer_at, graph_is, last, last_from, last_ops, new_from, new_types, ops_from, round, round_asked, round_long, round_ops, rounds_long, same_at, second, second_long, start, the_graph, word_at, word_long, x_at, y_at}
use Rattle.conversion_laws.proofs.Telling.{Low, Told, simple_low, told, told_one}
use Rattle.conversion_laws.proofs.Testing.{Test, Apart, Texts, Tuples, test_of, new_of, operand_of, ops_of, under}
use Rattle.conversion_laws.proofs.Valued.{TupleAt, tuple_held}

-- ---- truth values as words

flag_word : (c : Bool) → unary_of unary.B2S (Flag c) ≡ Ok (Word (word_of_flag c))
flag_word true = refl
flag_word false = refl

and_is : (a b : Bool) → binary_of binary.And (Word (word_of_flag a)) (Word (word_of_flag b)) ≡ Ok (Word (word_of_flag (a && b)))
and_is true true = refl
and_is true false = refl
and_is false true = refl
and_is false false = refl

holds_is : (a : Bool) → binary_of binary.Ne (Word (word_of_flag a)) (Word (pos 0)) ≡ Ok (Flag a)
holds_is true = refl
holds_is false = refl

-- both are told, and both hold
pub record BothTold (a b : Option Bool) (c : Bool) : Type 0 where
  pub one : Bool
  pub two : Bool
  pub first : a ≡ Some one
  pub second : b ≡ Some two
  pub all : (one && two) ≡ c

both_told : (a b : Option Bool) (c : Bool) → both a b ≡ Some c → BothTold a b c
both_told (Some x) (Some y) c h = record { one = x; two = y; first = refl; second = refl; all = (let q : (x && y) ≡ c = cc in q) }
both_told (Some x) None c h = absurd (cc)
both_told None b c h = absurd (cc)

and_assoc : (a b c : Bool) → ((a && b) && c) ≡ (a && (b && c))
and_assoc true b c = refl
and_assoc false b c = refl

-- ---- what comparing means

abbrev pub EqualMeans : Layout → Known → ℕ → Option Element → Option Element → LlType → LlType → Type 0
EqualMeans layout known k a b s t =
    (x y : COperand) (w : Writing) (p : LlProgram) (numbers : Numbers) (raised : ℕ → Value) (arguments : List (List ℕ)) (rest : List LlOp) (e : LlExit) (frames : List Frame) (core : Core) (g : Ghost) (heap : Heap) (left : ℕ) (u v : Meant) (c : Bool)
    → HasLayout p layout → AllAsked (HasTo p layout numbers raised core k) (equal_asks layout s t) w.found → Represents layout known g heap left core.blocks core.statics
    → length w.body.types + length (new_of (test_of layout s t)) ≤ length core.vars → IsBelow (length w.body.types) x → IsBelow (length w.body.types) y → Holds layout known g a (operand core.vars x) u → Holds layout known g b (operand core.vars y) v → equal u v ≡ Some c
    → Told p arguments (At (ops_of (test_of layout s t) x y w ++ rest) e frames core) rest e frames core (length w.body.types) (operand_of (test_of layout s t) w) c

-- whether all are equal, with what was found before
pub record Summed (p : LlProgram) (args : List (List ℕ)) (s : State) (rest : List LlOp) (e : LlExit) (frames : List Frame) (core : Core) (below : ℕ) (y : COperand) (c : Bool) : Type 0 where
  pub mid : Core
  pub way : Leads p args 0 s [] (At rest e frames mid)
  pub passed : Passed below core mid
  pub is : operand mid.vars y ≡ Word (word_of_flag c)

abbrev pub ItemsMean : Layout → Known → ℕ → ℕ → ℕ → List LlType → ℕ → List LlType → List Element → List Element → Type 0
ItemsMean layout known k m n those i ss parts others =
    (all : COperand) (w : Writing) (before befores xs ys : List Value) (us vs : List Meant) (x y : Value) (found_so c : Bool) (p : LlProgram) (numbers : Numbers) (raised : ℕ → Value) (arguments : List (List ℕ)) (rest : List LlOp) (e : LlExit) (frames : List Frame) (core : Core) (g : Ghost) (heap : Heap) (left : ℕ)
    → HasLayout p layout → is_tuple layout m ≡ true → is_tuple layout n ≡ true → AllAsked (HasTo p layout numbers raised core k) (fields_equal_asks layout those i ss) w.found → Represents layout known g heap left core.blocks core.statics
    → length w.body.types + length (new_from layout m n those i ss) ≤ length core.vars → 1 < length w.body.types → IsBelow (length w.body.types) all → operand core.vars all ≡ Word (word_of_flag found_so)
    → read core.vars 0 ≡ x → read core.vars 1 ≡ y → use_of g x ≡ Some (Stays (tuple_block m (before ++ xs))) → use_of g y ≡ Some (Stays (tuple_block n (befores ++ ys))) → i ≡ length before → i ≡ length befores
    → AllHold layout known g parts xs us → AllHold layout known g others ys vs → all_equal (parts_of us) (parts_of vs) ≡ Some c
    → Summed p arguments (At (ops_from layout m n those i ss all w ++ rest) e frames core) rest e frames core (length w.body.types) (last_from layout m n those i ss all w) (found_so && c)

and_true : (a : Bool) → a ≡ (a && true)
and_true true = refl
and_true false = refl

-- one round, and the others
module _ (layout : Layout) (known : Known) (k m n : ℕ) (those : List LlType) (i : ℕ) (part other : Element) (parts others : List Element) (s : LlType) (ss : List LlType) (all : COperand) (w : Writing) (before befores xs ys : List Value) (a b : Value) (u v : Meant) (us vs : List Meant) (x y : Value) (so c one two : Bool)
    (p : LlProgram) (numbers : Numbers) (raised : ℕ → Value) (arguments : List (List ℕ)) (rest : List LlOp) (e : LlExit) (frames : List Frame) (core : Core) (g : Ghost) (heap : Heap) (left : ℕ) where
  abbrev t : LlType
  t = field_at those i

  abbrev M : ℕ
  M = length w.body.types

  abbrev N : ℕ
  N = length (w.body.types ++ s ∷ [])

  abbrev w2 : Writing
  w2 = second layout m n those i s w

  abbrev w3 : Writing
  w3 = round layout m n those i s all w

  abbrev W : ℕ
  W = word_at layout m n those i s w

  abbrev A : ℕ
  A = all_at layout m n those i s w

  abbrev test : Test
  test = test_of layout s t

  abbrev later_ops : List LlOp
  later_ops = ops_from layout m n those (i + 1) ss (Var A) w3 ++ rest

  abbrev ends : List LlOp
  ends = op.Unary W unary.B2S (same_at layout m n those i s w) ∷ op.Binary A binary.And all (Var W) ∷ later_ops

  abbrev tests : List LlOp
  tests = ops_of test (x_at layout m n those w) (y_at layout m n those s w) w2

  abbrev both_read : Core
  both_read = after (after core M a) N b

  abbrev OneTold : Type 0
  OneTold = Told p arguments (At (tests ++ ends) e frames both_read) ends e frames both_read (length w2.body.types) (operand_of test w2) one

  -- the core behind a round
  abbrev behind : Core → Core
  behind mid = after (after mid W (Word (word_of_flag one))) A (Word (word_of_flag (so && one)))

  abbrev AllSummed : Type 0
  AllSummed = Summed p arguments (At (ops_from layout m n those i (s ∷ ss) all w ++ rest) e frames core) rest e frames core M (last_from layout m n those i (s ∷ ss) all w) (so && c)

  read_passed : Passed M core both_read
  read_passed = (let nl : N ≡ M + 1 = length-append w.body.types (s ∷ []) in sets_more N b (omega (arith, nl)) (sets_more M a (omega arith) none_passed))

  told_passed : (T : OneTold) → Passed M core T.mid
  told_passed T = (let sl : length w2.body.types ≡ M + 2 = second_long layout m n those i s w in both_passed (omega (arith, sl)) read_passed T.passed)

  behind_passed : (T : OneTold) → Passed M core (behind T.mid)
  behind_passed T =
      let sl : length w2.body.types ≡ M + 2 = second_long layout m n those i s w in
      let wl : W ≡ length w2.body.types + length (new_of (test_of layout s t)) = word_long layout m n those i s w in
      let al : A ≡ W + 1 = all_long layout m n those i s w in
      sets_more A (Word (word_of_flag (so && one))) (omega (arith, al, wl, sl)) (sets_more W (Word (word_of_flag one)) (omega (arith, wl, sl)) (told_passed T))

  -- the word that says whether all were equal so far
  summed_way : M + length (new_from layout m n those i (s ∷ ss)) ≤ length core.vars → IsBelow M all → operand core.vars all ≡ Word (word_of_flag so) → (T : OneTold) → Leads p arguments 0 (At ends e frames T.mid) [] (At later_ops e frames (behind T.mid))
  summed_way room under_all is T =
      let sl : length w2.body.types ≡ M + 2 = second_long layout m n those i s w in
      let wl : W ≡ length w2.body.types + length (new_of (test_of layout s t)) = word_long layout m n those i s w in
      let al : A ≡ W + 1 = all_long layout m n those i s w in
      let rl : length w3.body.types ≡ A + 1 = round_long layout m n those i s all w in
      let ll : M + length (new_from layout m n those i (s ∷ ss)) ≡ length w3.body.types + length (new_from layout m n those (i + 1) ss) = rounds_long layout m n those i s ss all w in
      let mid4 : Core = after T.mid W (Word (word_of_flag one)) in
      let passed4 : Passed M core mid4 = sets_more W (Word (word_of_flag one)) (omega (arith, wl, sl)) (told_passed T) in
      let long3 : length T.mid.vars ≡ length core.vars = (told_passed T).room in
      let word4 : operand mid4.vars (Var W) ≡ Word (word_of_flag one) = is_set_at T.mid W (Word (word_of_flag one)) (omega (arith, room, ll, rl, al, long3)) in
      let all4 : operand mid4.vars all ≡ Word (word_of_flag so) = operand_kept passed4 all under_all ∙ is in
      on (turns (Word (word_of_flag one)) (ap (unary_of unary.B2S) T.is ∙ flag_word one))
      (gives (Word (word_of_flag (so && one))) (ap (λ z. binary_of binary.And z (operand mid4.vars (Var W))) all4 ∙ ap (binary_of binary.And (Word (word_of_flag so))) word4 ∙ and_is so one))

  round_done : (one && two) ≡ c → Leads p arguments 0 (At (op.GetField M m 0 i ∷ op.GetField N n 1 i ∷ (tests ++ ends)) e frames core) [] (At (tests ++ ends) e frames both_read) → (T : OneTold) → Leads p arguments 0 (At ends e frames T.mid) [] (At later_ops e frames (behind T.mid))
      → Summed p arguments (At later_ops e frames (behind T.mid)) rest e frames (behind T.mid) (length w3.body.types) (last_from layout m n those (i + 1) ss (Var A) w3) ((so && one) && two) → AllSummed
  round_done both_are way T way5 R =
      let sl : length w2.body.types ≡ M + 2 = second_long layout m n those i s w in
      let wl : W ≡ length w2.body.types + length (new_of (test_of layout s t)) = word_long layout m n those i s w in
      let al : A ≡ W + 1 = all_long layout m n those i s w in
      let rl : length w3.body.types ≡ A + 1 = round_long layout m n those i s all w in
      let ops_are : (round_ops layout m n those i s all w ++ ops_from layout m n those (i + 1) ss (Var A) w3) ++ rest ≡ op.GetField M m 0 i ∷ op.GetField N n 1 i ∷ (tests ++ ends) =
      ap (λ l. op.GetField M m 0 i ∷ op.GetField N n 1 i ∷ l) (append_assoc (tests ++ last_ops layout m n those i s all w) (ops_from layout m n those (i + 1) ss (Var A) w3) rest ∙ append_assoc tests (last_ops layout m n those i s all w) later_ops) in
      record {
        mid = R.mid;
        way = subst (λ ops. Leads p arguments 0 (At ops e frames core) [] (At rest e frames R.mid)) (sym ops_are) (on way (on T.way (on way5 R.way)));
        passed = both_passed (omega (arith, rl, al, wl, sl)) (behind_passed T) R.passed;
        is = R.is ∙ ap (λ c. Word (word_of_flag c)) (and_assoc so one two ∙ ap (λ c. so && c) both_are);
      }

  others_done : ItemsMean layout known k m n those (i + 1) ss parts others → HasLayout p layout → is_tuple layout m ≡ true → is_tuple layout n ≡ true → AllAsked (HasTo p layout numbers raised core k) (fields_equal_asks layout those i (s ∷ ss)) w.found → Represents layout known g heap left core.blocks core.statics
      → M + length (new_from layout m n those i (s ∷ ss)) ≤ length core.vars → 1 < M → IsBelow M all → operand core.vars all ≡ Word (word_of_flag so)
      → read core.vars 0 ≡ x → read core.vars 1 ≡ y → use_of g x ≡ Some (Stays (tuple_block m (before ++ a ∷ xs))) → use_of g y ≡ Some (Stays (tuple_block n (befores ++ b ∷ ys))) → i ≡ length before → i ≡ length befores
      → AllHold layout known g parts xs us → AllHold layout known g others ys vs → all_equal (parts_of us) (parts_of vs) ≡ Some two → (one && two) ≡ c
      → Leads p arguments 0 (At (op.GetField M m 0 i ∷ op.GetField N n 1 i ∷ (tests ++ ends)) e frames core) [] (At (tests ++ ends) e frames both_read) → OneTold → AllSummed
  others_done later has tm tn asked r room twice under_all is ax ay ux uy jx jy all_a all_b h both_are way T =
      let sl : length w2.body.types ≡ M + 2 = second_long layout m n those i s w in
      let wl : W ≡ length w2.body.types + length (new_of (test_of layout s t)) = word_long layout m n those i s w in
      let al : A ≡ W + 1 = all_long layout m n those i s w in
      let rl : length w3.body.types ≡ A + 1 = round_long layout m n those i s all w in
      let ll : M + length (new_from layout m n those i (s ∷ ss)) ≡ length w3.body.types + length (new_from layout m n those (i + 1) ss) = rounds_long layout m n those i s ss all w in
      let passed5 : Passed M core (behind T.mid) = behind_passed T in
      let long5 : length (behind T.mid).vars ≡ length core.vars = passed5.room in
      let long4 : length (after T.mid W (Word (word_of_flag one))).vars ≡ length T.mid.vars = length-set T.mid.vars W (Word (word_of_flag one)) in
      let long3 : length T.mid.vars ≡ length core.vars = (told_passed T).room in
      let statics5 : (behind T.mid).statics ≡ core.statics = ap (λ (c : Core). c.statics) passed5.memory in
      let steps5 : (behind T.mid).steps ≡ core.steps = ap (λ (c : Core). c.steps) passed5.memory in
      let longer : length (before ++ a ∷ []) ≡ length before + 1 = length-append before (a ∷ []) in
      let longers : length (befores ++ b ∷ []) ≡ length befores + 1 = length-append befores (b ∷ []) in
      round_done both_are way T (summed_way room under_all is T)
      (later (Var A) w3 (before ++ a ∷ []) (befores ++ b ∷ []) xs ys us vs x y (so && one) two p numbers raised arguments rest e frames (behind T.mid) g heap left has tm tn
      (all_kept p layout numbers raised core (behind T.mid) statics5 steps5 k (fields_equal_asks layout those (i + 1) ss) w3.found
      (subst (λ made. AllAsked (HasTo p layout numbers raised core k) (fields_equal_asks layout those (i + 1) ss) made) (sym (round_asked layout m n those i s all w)) (has_second (HasTo p layout numbers raised core k) (equal_asks layout s t) (fields_equal_asks layout those (i + 1) ss) w.found asked)))
      (subst (λ (c : Core). Represents layout known g heap left c.blocks c.statics) (sym passed5.memory) r) (omega (arith, room, ll, long5)) (omega (arith, twice, rl, al, wl, sl)) (omega (arith, rl))
      (is_set_at (after T.mid W (Word (word_of_flag one))) A (Word (word_of_flag (so && one))) (omega (arith, room, ll, rl, long4, long3)))
      (passed5.others 0 (omega (arith, twice)) ∙ ax) (passed5.others 1 twice ∙ ay)
      (subst (λ fields. use_of g x ≡ Some (Stays (tuple_block m fields))) (sym (append_assoc before (a ∷ []) xs)) ux)
      (subst (λ fields. use_of g y ≡ Some (Stays (tuple_block n fields))) (sym (append_assoc befores (b ∷ []) ys)) uy)
      (omega (arith, jx, longer)) (omega (arith, jy, longers)) all_a all_b h)

module _ (layout : Layout) (known : Known) (k m n : ℕ) (those : List LlType) (i : ℕ) where
  no_items : ItemsMean layout known k m n those i [] [] []
  no_items all w before befores xs ys us vs x y so c p numbers raised arguments rest e frames core g heap left has tm tn asked r room two under is ax ay ux uy jx jy high.End high.End h =
      let q : true ≡ c = cc in
      record { mid = core; way = rests; passed = none_passed; is = is ∙ ap (λ c. Word (word_of_flag c)) (and_true so ∙ ap (λ c. so && c) q) }

  next_item : (part other : Element) (parts others : List Element) (s : LlType) (ss : List LlType) → EqualMeans layout known k (Some part) (Some other) s (field_at those i) → ItemsMean layout known k m n those (i + 1) ss parts others
      → ItemsMean layout known k m n those i (s ∷ ss) (part ∷ parts) (other ∷ others)
  next_item part other parts others s ss one_equal later all w before befores _ _ _ _ x y so c p numbers raised arguments rest e frames core g heap left has tm tn asked r room two under_all is ax ay ux uy jx jy
      (high.Next {x = a} {xs = xs} {v = u} {vs = us} held_a all_a) (high.Next {x = b} {xs = ys} {v = v} {vs = vs} held_b all_b) h =
      let told_both : BothTold (equal u v) (all_equal (parts_of us) (parts_of vs)) c = both_told (equal u v) (all_equal (parts_of us) (parts_of vs)) c h in
      let type_b : LlType = field_at those i in
      let at_a : ℕ = length w.body.types in
      let at_b : ℕ = length (w.body.types ++ s ∷ []) in
      let read_w : Writing = second layout m n those i s w in
      let nl : at_b ≡ at_a + 1 = length-append w.body.types (s ∷ []) in
      let sl : length read_w.body.types ≡ at_a + 2 = second_long layout m n those i s w in
      let wl : word_at layout m n those i s w ≡ length read_w.body.types + length (new_of (test_of layout s type_b)) = word_long layout m n those i s w in
      let al : all_at layout m n those i s w ≡ word_at layout m n those i s w + 1 = all_long layout m n those i s w in
      let rl : length (round layout m n those i s all w).body.types ≡ all_at layout m n those i s w + 1 = round_long layout m n those i s all w in
      let ll : at_a + length (new_from layout m n those i (s ∷ ss)) ≡ length (round layout m n those i s all w).body.types + length (new_from layout m n those (i + 1) ss) = rounds_long layout m n those i s ss all w in
      let block_x : Block = tuple_block m (before ++ a ∷ xs) in
      let block_y : Block = tuple_block n (befores ++ b ∷ ys) in
      let mid1 : Core = after core at_a a in
      let mid2 : Core = after mid1 at_b b in
      let is_x : found core.blocks core.statics (read core.vars 0) ≡ Some block_x = ap (found core.blocks core.statics) ax ∙ r.stays x block_x ux in
      let ay1 : read mid1.vars 1 ≡ y = is_kept_at core at_a 1 a (λ same. absurd (omega (arith, two, same))) ∙ ay in
      let is_y : found mid1.blocks mid1.statics (read mid1.vars 1) ≡ Some block_y = ap (found core.blocks core.statics) ay1 ∙ r.stays y block_y uy in
      let long1 : length mid1.vars ≡ length core.vars = length-set core.vars at_a a in
      let long2 : length mid2.vars ≡ length mid1.vars = length-set mid1.vars at_b b in
      let at_x : operand mid2.vars (x_at layout m n those w) ≡ a = is_kept_at mid1 at_b at_a b (λ same. absurd (omega (arith, nl, same))) ∙ is_set_at core at_a a (omega (arith, room, ll, rl, al, wl, sl)) in
      let at_y : operand mid2.vars (y_at layout m n those s w) ≡ b = is_set_at mid1 at_b b (omega (arith, room, ll, rl, al, wl, sl, nl, long1)) in
      others_done layout known k m n those i part other parts others s ss all w before befores xs ys a b u v us vs x y so c told_both.one told_both.two p numbers raised arguments rest e frames core g heap left later has tm tn asked r room two under_all is ax ay ux uy jx jy all_a all_b told_both.second told_both.all
      (on (reads_field (length (fields_at layout m)) block_x a (has.plain.tuples m tm) is_x refl (held_set r held_a) i (read_mid before a xs i jx))
      (reads_field (length (fields_at layout n)) block_y b (has.plain.tuples n tn) is_y refl (held_set r held_b) i (read_mid befores b ys i jy)))
      (one_equal (x_at layout m n those w) (y_at layout m n those s w) read_w p numbers raised arguments _ e frames mid2 g heap left u v told_both.one has
      (all_kept p layout numbers raised core mid2 refl refl k (equal_asks layout s type_b) w.found (has_first (HasTo p layout numbers raised core k) (equal_asks layout s type_b) (fields_equal_asks layout those (i + 1) ss) w.found asked))
      r (omega (arith, room, ll, rl, al, wl, sl, long1, long2)) (omega (arith, sl)) (omega (arith, sl, nl)) (subst (λ z. Holds layout known g (Some part) z u) (sym at_x) held_a) (subst (λ z. Holds layout known g (Some other) z v) (sym at_y) held_b) told_both.first)

-- ---- the graph

module _ (layout : Layout) (known : Known) (k m n : ℕ) (parts others : List Element) (from to : Option Element) (a : IsTuple layout from m parts) (b : IsTuple layout to n others) (each : ItemsMean layout known k m n (fields_at layout n) 0 (shared_fields layout m n) parts others) where
  -- the call of the graph
  tuples_come : (asked_of : Found) (X Y : Value) (p : LlProgram) (numbers : Numbers) (raised : ℕ → Value) (arguments : List (List ℕ)) (core : Core) (g : Ghost) (heap : Heap) (left : ℕ) (u v : Meant) (c : Bool)
      → HasLayout p layout → AllAsked (HasTo p layout numbers raised core (suc k)) (Make (small.Equal m n) ∷ []) asked_of → Represents layout known g heap left core.blocks core.statics
      → Holds layout known g from X u → Holds layout known g to Y v → equal u v ≡ Some c
      → (waits : List Frame) → Comes p arguments (Calling (small_number (small.Equal m n) asked_of).0 (X ∷ Y ∷ []) waits core) [] (Flag c) waits core
  tuples_come asked_of X Y p numbers raised arguments core g heap left u v c has asked r held_x held_y h waits =
      let ix : TupleAt layout known g m parts X u = tuple_held m parts a held_x in
      let iy : TupleAt layout known g n others Y v = tuple_held n others b held_y in
      let f : ℕ = (small_number (small.Equal m n) asked_of).0 in
      let made : Found = asked.0.made in
      let graph : slice_get p.graphs f ≡ Some (the_graph layout m n made) = asked.0.graph ∙ ap Some (graph_is layout m n made) in
      let at : ℕ = answer_at layout m n made in
      let more : List LlType = new_types layout m n made ++ type.Bool ∷ [] in
      let more_long : length more ≡ length (new_types layout m n made) + 1 = length-append (new_types layout m n made) (type.Bool ∷ []) in
      let filled_long : length (replicate (length more) Unset) ≡ length more = length-replicate (length more) Unset in
      let leaves : LlExit = exit.Return (Some (Var at)) in
      let core1 : Core = record core { function = f; block = 0; at = 0; vars = X ∷ Y ∷ replicate (length more) Unset } in
      let count : length (the_graph layout m n made).types - 2 ≡ length more = omega arith in
      let behind : List LlOp = op.Binary at binary.Ne (last layout m n made) zero_word ∷ [] in
      let meant : all_equal (parts_of ix.vs) (parts_of iy.vs) ≡ Some c = sym (ap (λ u. equal u v) ix.high ∙ ap (equal (tuple ix.vs)) iy.high) ∙ h in
      let enters : Leads p arguments 0 (Calling f (X ∷ Y ∷ []) waits core) [] (At (all_ops layout m n made) leaves waits core1) =
      subst (λ k. Leads p arguments 0 (Calling f (X ∷ Y ∷ []) waits core) [] (At (all_ops layout m n made) leaves waits (record core { function = f; block = 0; at = 0; vars = (X ∷ Y ∷ []) ++ replicate k Unset }))) count (enter graph refl) in
      let R : Summed p arguments (At (all_ops layout m n made) leaves waits core1) behind leaves waits core1 2 (last layout m n made) (true && c) =
      each (word (pos 1)) (start layout m n made) [] [] ix.xs iy.xs ix.vs iy.vs X Y true c p numbers raised arguments behind leaves waits core1 g heap left has a.struct b.struct
      (all_kept p layout numbers raised core core1 refl refl k (equality_asks layout m n) made asked.0.parts) r (omega (arith, more_long, filled_long)) (omega arith) tt refl refl refl ix.is iy.is refl refl ix.all iy.all meant in
      let long : length R.mid.vars ≡ length core1.vars = R.passed.room in
      let mid : Core = after R.mid at (Flag c) in
      let tests : Leads p arguments 0 (At behind leaves waits R.mid) [] (At [] leaves waits mid) = gives (Flag c) (ap (λ z. binary_of binary.Ne z (Word (pos 0))) R.is ∙ holds_is c) in
      let there : read mid.vars at ≡ Flag c = is_set_at R.mid at (Flag c) (omega (arith, long, more_long, filled_long)) in
      let returns : Leads p arguments 0 (At [] leaves waits mid) [] (Returning (Flag c) waits mid) = one (ap (λ y. given y (λ value. Goes (Returning value waits mid))) there) refl in
      record { end = mid; same = R.passed.memory; leads = on enters (on R.way (on tests returns)) }

  tuples_told : (x y : COperand) (w : Writing) (p : LlProgram) (numbers : Numbers) (raised : ℕ → Value) (arguments : List (List ℕ)) (rest : List LlOp) (e : LlExit) (frames : List Frame) (core : Core) (g : Ghost) (heap : Heap) (left : ℕ) (u v : Meant) (c : Bool)
      → HasLayout p layout → AllAsked (HasTo p layout numbers raised core (suc k)) (Make (small.Equal m n) ∷ []) w.found → Represents layout known g heap left core.blocks core.statics → length w.body.types + 1 ≤ length core.vars
      → Holds layout known g from (operand core.vars x) u → Holds layout known g to (operand core.vars y) v → equal u v ≡ Some c
      → Told p arguments (At (ops_of (Tuples m n) x y w ++ rest) e frames core) rest e frames core (length w.body.types) (operand_of (Tuples m n) w) c
  tuples_told x y w p numbers raised arguments rest e frames core g heap left u v c has asked r room held_x held_y h =
      let X : Value = operand core.vars x in
      let Y : Value = operand core.vars y in
      let ix : TupleAt layout known g m parts X u = tuple_held m parts a held_x in
      let iy : TupleAt layout known g n others Y v = tuple_held n others b held_y in
      let block_x : Block = tuple_block m ix.xs in
      let block_y : Block = tuple_block n iy.xs in
      let set_x : is_unset X ≡ false = found_set core.blocks core.statics X block_x (r.stays X block_x ix.is) in
      let set_y : is_unset Y ≡ false = found_set core.blocks core.statics Y block_y (r.stays Y block_y iy.is) in
      told_one (length w.body.types) c (omega (arith, room)) (calls_at refl (ap (λ c. c || (is_unset Y || false)) set_x ∙ ap (λ c. c || false) set_y)
      (λ waits. tuples_come w.found X Y p numbers raised arguments core g heap left u v c has asked r held_x held_y h waits))

-- ---- all values

field_simple : (layout : Layout) (e : Element) → is_simple (kind_seen (Some e)) ≡ true → field_type (type_of layout e) ≡ type_of layout e
field_simple layout e h = field_is (type_of layout e) (λ k. simple_there (kind_seen (Some e)) h (sym (simple_typed layout (Some e) (kind_seen (Some e)) h refl) ∙ k))

field_tuple : (layout : Layout) (e : Element) (n : ℕ) (parts : List Element) → IsTuple layout (Some e) n parts → field_type (type_of layout e) ≡ type_of layout e
field_tuple layout e n parts of = field_is (type_of layout e) (λ k. (let q : type.Ptr n ≡ type.Void = sym of.typed ∙ k in absurd (cc)))

module _ {layout : Layout} where
  fields_typed : {part other : Element} → Compares layout (Some part) (Some other) → (field_type (type_of layout part) ≡ type_of layout part) × (field_type (type_of layout other) ≡ type_of layout other)
  fields_typed {part = part} {other = other} (Simple i j) = (field_simple layout part i, field_simple layout other j)
  fields_typed {part = part} {other = other} (Items m n parts others a b all) = (field_tuple layout part m parts a, field_tuple layout other n others b)

-- how deep the tuples are
abbrev mutual
  pub levels : {layout : Layout} {a b : Option Element} → Compares layout a b → ℕ
  levels (Simple i j) = 1
  levels (Items m n parts others a b all) = suc (all_levels all)

  pub all_levels : {layout : Layout} {parts others : List Element} → AllCompare layout parts others → ℕ
  all_levels End = 0
  all_levels (Next one all) = levels one + all_levels all

-- tuples that are compared have as many items
all_as_long : {layout : Layout} {parts others : List Element} → AllCompare layout parts others → length (shape layout parts) ≡ length (shape layout others)
all_as_long End = refl
all_as_long (Next one all) = ap suc (all_as_long all)

all_shared : {layout : Layout} {from to : Option Element} {m n : ℕ} {parts others : List Element} → IsTuple layout from m parts → IsTuple layout to n others → AllCompare layout parts others → shared_fields layout m n ≡ shape layout parts
all_shared {layout = layout} {m = m} {n = n} i j all = shared_is layout m n (ap length i.fields ∙ all_as_long all ∙ sym (ap length j.fields)) ∙ i.fields

some_levels : {layout : Layout} {a b : Option Element} (one : Compares layout a b) → 1 ≤ levels one
some_levels (Simple i j) = omega arith
some_levels (Items m n parts others a b all) = omega arith

no_zero : (layout : Layout) (m n : ℕ) (c : Bool) → (m == 0) ≡ c → is_tuple layout 0 ≡ false → is_tuple layout m ≡ true → ((m == 0) && (n == 0)) ≡ false
no_zero layout m n true h apart i = (let q : m ≡ 0 = grind (arith, nat_tests, h) in let r : false ≡ true = sym apart ∙ ap (is_tuple layout) (sym q) ∙ i in absurd (cc))
no_zero layout m n false h apart i = ap (λ c. c && (n == 0)) h

module _ (layout : Layout) (apart : is_tuple layout 0 ≡ false) where
  pub tuples_tested : (m n : ℕ) → is_tuple layout m ≡ true → is_tuple layout n ≡ true → test_of layout (type.Ptr m) (type.Ptr n) ≡ Tuples m n
  tuples_tested m n i j =
      ap (λ c. if c then Texts else if is_tuple layout m && is_tuple layout n then Tuples m n else Apart) (no_zero layout m n (m == 0) refl apart i)
      ∙ ap (λ c. if c && is_tuple layout n then Tuples m n else Apart) i ∙ ap (λ c. if c then Tuples m n else Apart) j

  tuples_asked : (m n : ℕ) → is_tuple layout m ≡ true → is_tuple layout n ≡ true → equal_asks layout (type.Ptr m) (type.Ptr n) ≡ Make (small.Equal m n) ∷ []
  tuples_asked m n i j =
      ap (λ c. if c then Help helper.StrEqual ∷ [] else if is_tuple layout m && is_tuple layout n then Make (small.Equal m n) ∷ [] else []) (no_zero layout m n (m == 0) refl apart i)
      ∙ ap (λ c. if c && is_tuple layout n then Make (small.Equal m n) ∷ [] else []) i ∙ ap (λ c. if c then Make (small.Equal m n) ∷ [] else []) j

module _ (layout : Layout) (known : Known) (apart : is_tuple layout 0 ≡ false) where
  mutual
    pub compares_told : {a b : Option Element} {s t : LlType} (one : Compares layout a b) (k : ℕ) → levels one ≤ suc k → type_seen layout a ≡ s → type_seen layout b ≡ t → EqualMeans layout known (suc k) a b s t
    compares_told {a = a} {b = b} (Simple i j) k enough es et x y w p numbers raised arguments rest e frames core g heap left u v c has asked r room under_x under_y held_x held_y h =
        told k x y w p numbers raised arguments rest e frames core g heap left r under_x under_y c
        (subst (λ s. Low g s (operand core.vars x) u) es (simple_low i held_x)) (subst (λ t. Low g t (operand core.vars y) v) et (simple_low j held_y)) refl refl h asked room
    compares_told {a = a} {b = b} {s = s} {t = t} (Items m n parts others i j all) k enough es et x y w p numbers raised arguments rest e frames core g heap left u v c has asked r room under_x under_y held_x held_y h =
        let s_is : s ≡ type.Ptr m = sym es ∙ i.typed in
        let t_is : t ≡ type.Ptr n = sym et ∙ j.typed in
        let test_is : test_of layout s t ≡ Tuples m n = ap (λ s. test_of layout s t) s_is ∙ ap (test_of layout (type.Ptr m)) t_is ∙ tuples_tested layout apart m n i.struct j.struct in
        let asks_are : equal_asks layout s t ≡ Make (small.Equal m n) ∷ [] = ap (λ s. equal_asks layout s t) s_is ∙ ap (equal_asks layout (type.Ptr m)) t_is ∙ tuples_asked layout apart m n i.struct j.struct in
        subst (λ test. Told p arguments (At (ops_of test x y w ++ rest) e frames core) rest e frames core (length w.body.types) (operand_of test w) c) (sym test_is)
        (tuples_told layout known k m n parts others a b i j
        (subst (λ ss. ItemsMean layout known k m n (fields_at layout n) 0 ss parts others) (sym (all_shared i j all)) (items_told all k (omega (arith, enough)) m n (fields_at layout n) 0 [] j.fields refl))
        x y w p numbers raised arguments rest e frames core g heap left u v c has (subst (λ asks. AllAsked (HasTo p layout numbers raised core (suc k)) asks w.found) asks_are asked) r
        (subst (λ test. length w.body.types + length (new_of test) ≤ length core.vars) test_is room) held_x held_y h)

    items_told : {parts others : List Element} (all : AllCompare layout parts others) (k : ℕ) → all_levels all ≤ k → (m n : ℕ) (those : List LlType) (i : ℕ) (pre : List LlType) → those ≡ pre ++ shape layout others → i ≡ length pre → ItemsMean layout known k m n those i (shape layout parts) parts others
    items_told End k enough m n those i pre h j = no_items layout known k m n those i
    items_told (Next {part = part} {other = other} {parts = parts} {others = others} one all) zero enough m n those i pre h j = (let some = some_levels one in absurd (omega (arith, some, enough)))
    items_told (Next {part = part} {other = other} {parts = parts} {others = others} one all) (suc k) enough m n those i pre h j =
        let s : LlType = field_type (type_of layout part) in
        let t : LlType = field_type (type_of layout other) in
        let there : field_at those i ≡ t = field_there pre t (shape layout others) those i h j in
        let long : length (pre ++ t ∷ []) ≡ length pre + 1 = length-append pre (t ∷ []) in
        let f = fields_typed one in
        next_item layout known (suc k) m n those i part other parts others s (shape layout parts)
        (compares_told one k (omega (arith, enough)) (sym f.0) (sym f.1 ∙ sym there))
        (items_told all (suc k) (omega (arith, enough)) m n those (i + 1) (pre ++ t ∷ []) (h ∙ sym (append_assoc pre (t ∷ []) (shape layout others))) (omega (arith, j, long)))

  -- a call of the graph that compares two tuples
  pub tuples_are_told : {from to : Option Element} (m n : ℕ) (parts others : List Element) (i : IsTuple layout from m parts) (j : IsTuple layout to n others) (all : AllCompare layout parts others) (asked_of : Found) (X Y : Value) (p : LlProgram) (numbers : Numbers) (raised : ℕ → Value) (arguments : List (List ℕ)) (core : Core) (g : Ghost) (heap : Heap) (left : ℕ) (u v : Meant) (c : Bool)
      → HasLayout p layout → HasTo p layout numbers raised core (suc (all_levels all)) (Make (small.Equal m n)) asked_of → Represents layout known g heap left core.blocks core.statics → Holds layout known g from X u → Holds layout known g to Y v → equal u v ≡ Some c
      → (waits : List Frame) → Comes p arguments (Calling (small_number (small.Equal m n) asked_of).0 (X ∷ Y ∷ []) waits core) [] (Flag c) waits core
  tuples_are_told {from = from} {to = to} m n parts others i j all asked_of X Y p numbers raised arguments core g heap left u v c has asked r held_x held_y h waits =
      tuples_come layout known (all_levels all) m n parts others from to i j
      (subst (λ ss. ItemsMean layout known (all_levels all) m n (fields_at layout n) 0 ss parts others) (sym (all_shared i j all)) (items_told all (all_levels all) (omega arith) m n (fields_at layout n) 0 [] j.fields refl))
      asked_of X Y p numbers raised arguments core g heap left u v c has (asked, tt) r held_x held_y h waits
