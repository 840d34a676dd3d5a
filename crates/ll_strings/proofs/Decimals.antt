-- The decimals of words.
use Rattle.std.proofs.Common.{◌≡◌, ◌<◌, ◌≤◌, ℕ, zero, suc, ◌+◌, ◌/◌, ◌%◌, ◌^◌, Bool, true, false, List, [], ◌∷◌, ◌++◌, length, map, drop, Option, Some, Ok, Err, pos, negsuc, refl, sym, ap, ◌∙◌, subst, arith, append_assoc, length-append}
use Rattle.std.proofs.Math.ListN.{length-replicate, replicate-append-replicate}
use Rattle.std.proofs.lemmas.Bool.Decides.{nat_tests}
use Rattle.std.proofs.lemmas.Fmt.{decimal_digit, decimal_step, decimal_nonempty, length-decimal-le}
use Rattle.std.proofs.lemmas.List.{append-nil}
use Rattle.std.specs.Fmt.{decimal}
use Rattle.std.specs.Prelude.{slice_get, cond, nat_lt, nat_eq, replicate}
use Rattle.rpy_tree.specs.Value.{Text}
use Rattle.rpy_meaning.specs.declared.row.RowOp.TheVariants as row
use Rattle.rpy_meaning.specs.World.{World, new_text, give}
use Rattle.csub_tree.specs.State.{Value, Unset, Word, Byte, Flag, Ptr, Static, Block, Core}
use Rattle.csub_tree.specs.Layout.{Shape}
use Rattle.csub_tree.specs.declared.stuck.StuckReason.TheVariants.{Word as BadWord}
use Rattle.ll_code.specs.State.{Frame, Calling, At, Returning}
use Rattle.ll_code.specs.declared.program.LlType.TheVariants as type
use Rattle.csub_tree.specs.declared.tree.CBinary.TheVariants.{Lt}
use Rattle.csub_tree.specs.declared.tree.COperand.TheVariants.{Var}
use Rattle.ll_code.specs.declared.program.LlOp.TheVariants as op
use Rattle.ll_code.specs.declared.program.LlProgram.{LlProgram}
use Rattle.ll_leads.specs.Path.{Leads}
use Rattle.ll_leads.specs.Memory.{forgotten}
use Rattle.ll_leads.proofs.Ways.{Comes, on, many, enter, gives, turns, pays, makes, call}
use Rattle.ll_texts.specs.Texts.{AreBytes, HasText}
use Rattle.ll_texts.specs.Stands.{word, text}
use Rattle.ll_texts.specs.Follows.{Follows, Gave}
use Rattle.ll_texts.proofs.Writing.{part_block, writes_length, writes_byte}
use Rattle.ll_texts.proofs.Numbers.{less_true, less_false, adds, subs}
use Rattle.ll_helpers.specs.Loops.{count_digits, count_digits_test, write_digits, write_digits_test}
use Rattle.ll_build.specs.declared.needs.Helper.TheVariants as helper
use Rattle.ll_build.specs.declared.needs.Shared.TheVariants as shared
use Rattle.ll_build.specs.Build.{word as constant}
use Rattle.ll_helpers.specs.StringsMake.{str_of_word_positive, str_of_word_negative}
use Rattle.ll_build.specs.declared.needs.Numbers.{Numbers}
use Rattle.ll_strings.specs.Laws.{HasHelper, Is}
use Rattle.ll_strings.proofs.Adding.{bytes_append}
use Rattle.ll_strings.proofs.Parts.{bytes_both, gets_single}
use Rattle.ll_strings.proofs.Printing.{tens_of, digit_of, tens_below, digit_below, shown}
use Rattle.ll_strings.proofs.Results.{by_paying, gave_left, gave_new, stops}

-- ---- digits

-- the digits of a number, of zero none
abbrev tens : ℕ → List ℕ
tens n = cond (nat_eq n 0) [] (decimal n)

tens_some : (n : ℕ) → 0 < n → tens n ≡ decimal n
tens_some n h = (let e : nat_eq n 0 ≡ false = grind (arith, nat_tests, h) in ap (λ c. cond c [] (decimal n)) e)

tens_none : (n : ℕ) → n ≡ 0 → tens n ≡ []
tens_none n h = (let e : nat_eq n 0 ≡ true = grind (arith, nat_tests, h) in ap (λ c. cond c [] (decimal n)) e)

-- all digits but the last, and the last
split : (n : ℕ) → n < 2 ^ 64 → decimal n ≡ tens (n / 10) ++ (48 + n % 10) ∷ []
split n h = one (nat_lt n 10) refl
  where
    one : (c : Bool) → nat_lt n 10 ≡ c → decimal n ≡ tens (n / 10) ++ (48 + n % 10) ∷ []
    one true e = (let few : n < 10 = grind (arith, nat_tests, e) in let z : n / 10 ≡ 0 = omega (arith, few) in let k : 48 + n ≡ 48 + n % 10 = omega (arith, few) in
        decimal_digit n few ∙ ap (λ d. d ∷ []) k ∙ ap (λ l. l ++ (48 + n % 10) ∷ []) (sym (tens_none (n / 10) z)))
    one false e = (let more : 10 ≤ n = grind (arith, nat_tests, e) in decimal_step n more (omega (arith, h)) ∙ ap (λ l. l ++ (48 + n % 10) ∷ []) (sym (tens_some (n / 10) (omega (arith, more)))))

tens_more : (n : ℕ) → 0 < n → n < 2 ^ 63 → tens n ≡ tens (n / 10) ++ (48 + n % 10) ∷ []
tens_more n h small = tens_some n h ∙ split n (omega (arith, small))

few_digits : (n : ℕ) → n < 2 ^ 63 → length (tens n) ≤ 19
few_digits n h = one (nat_eq n 0)
  where
    one : (c : Bool) → length (cond c [] (decimal n)) ≤ 19
    one true = omega arith
    one false = length-decimal-le 19 n (omega arith) (omega (arith, h)) (omega (arith, h))

digits_small : (fuel n : ℕ) → n ≤ fuel → n < 2 ^ 63 → AreBytes (tens n)
digits_small fuel zero le h = tt
digits_small zero (suc n) le h = absurd (omega arith)
digits_small (suc fuel) (suc n) le h = subst AreBytes (sym (tens_more (suc n) (omega arith) h)) (bytes_both (tens (suc n / 10)) ((48 + suc n % 10) ∷ []) (digits_small fuel (suc n / 10) (omega arith) (omega arith)) (omega arith, tt))

-- ---- how many there are

module _ (p : LlProgram) (args : List (List ℕ)) (count : ℕ) (of : slice_get p.graphs count ≡ Some count_digits) (frames : List Frame) (core : Core) where
  abbrev Counts : ℕ → ℕ → Value → ℕ → Type 0
  Counts n c a r = Comes p args (At count_digits_test.ops count_digits_test.exit frames (record core { function = count; block = 1; at = 0; vars = Word (pos n) ∷ Word (pos c) ∷ a ∷ [] })) [] (Word (pos r)) frames core

  counted : (fuel n c : ℕ) (a : Value) → n ≤ fuel → n < 2 ^ 63 → c + length (tens n) < 2 ^ 63 → Counts n c a (c + length (tens n))
  counted fuel zero c a le h room = (let e : c ≡ c + 0 = omega arith in subst (Counts 0 c a) e (record { end = _; same = refl; leads = on (gives (Flag false) (less_false 0 0 (omega arith))) (many 2 of refl refl) }))
  counted zero (suc n) c a le h room = absurd (omega arith)
  counted (suc fuel) (suc n) c a le h room =
      let m : ℕ = suc n / 10 in
      let l : length (tens (suc n)) ≡ length (tens m) + 1 = ap length (tens_more (suc n) (omega arith) h) ∙ length-append (tens m) ((48 + suc n % 10) ∷ []) in
      let e : c + 1 + length (tens m) ≡ c + length (tens (suc n)) = omega (arith, l) in
      let ih = counted fuel m (c + 1) (Flag true) (omega arith) (omega arith) (omega (arith, l, room)) in
      subst (Counts (suc n) c a) e (record {
        end = ih.end;
        same = ih.same;
        leads = on (gives (Flag true) (less_true 0 (suc n) (omega arith))) (on (many 1 of refl refl) (on (gives (Word (pos m)) (tens_of (suc n) h)) (on (gives (Word (pos (c + 1))) (adds c 1 (omega (arith, l, room)))) (on (many 1 of refl refl) ih.leads))));
      })

  pub counts : (n : ℕ) → n < 2 ^ 63 → Comes p args (Calling count (Word (pos n) ∷ []) frames core) [] (Word (pos (length (tens n)))) frames core
  counts n h =
      let c = counted n n 0 Unset (omega arith) h (omega (arith, few_digits n h)) in
      let e : 0 + length (tens n) ≡ length (tens n) = omega arith in
      subst (λ r. Comes p args (Calling count (Word (pos n) ∷ []) frames core) [] (Word (pos r)) frames core) e (record { end = c.end; same = c.same; leads = on (enter of refl) (on (many 1 of refl refl) c.leads) })

-- ---- into the newest block

module _ (p : LlProgram) (args : List (List ℕ)) (write : ℕ) (of : slice_get p.graphs write ≡ Some write_digits) (texts : HasText p) (frames : List Frame) (core : Core) (bs : List (Option Block)) (fields : List Value) where
  abbrev now_holds : List Value → List (Option Block)
  now_holds items = bs ++ Some (part_block fields items) ∷ []

  written : (fuel n e : ℕ) (pre post : List Value) (a b c : Value) → n ≤ fuel → n < 2 ^ 63 → e ≡ length pre + length (tens n) → e < 2 ^ 63
      → Comes p args (At write_digits_test.ops write_digits_test.exit frames (record core { function = write; block = 0; at = 0; vars = Ptr (length bs) ∷ Word (pos e) ∷ Word (pos n) ∷ a ∷ b ∷ c ∷ []; blocks = now_holds (pre ++ (replicate (length (tens n)) Unset ++ post)) }))
      [] Unset frames (record core { blocks = now_holds (pre ++ (map Byte (tens n) ++ post)) })
  written fuel zero e pre post a b c le h ee room = record { end = _; same = refl; leads = on (gives (Flag false) (less_false 0 0 (omega arith))) (many 2 of refl refl) }
  written zero (suc n) e pre post a b c le h ee room = absurd (omega arith)
  written (suc fuel) (suc n) e pre post a b c le h ee room =
      let m : ℕ = suc n / 10 in
      let d : ℕ = 48 + suc n % 10 in
      let l : ℕ = length (tens m) in
      let place : ℕ = length pre + l in
      let more : tens (suc n) ≡ tens m ++ d ∷ [] = tens_more (suc n) (omega arith) h in
      let count : length (tens (suc n)) ≡ l + 1 = ap length more ∙ length-append (tens m) (d ∷ []) in
      let before : List Value = pre ++ replicate l Unset in
      let start : now_holds (pre ++ (replicate (length (tens (suc n))) Unset ++ post)) ≡ now_holds (before ++ Unset ∷ post) =
      ap (λ k. now_holds (pre ++ (replicate k Unset ++ post))) count ∙ ap (λ r. now_holds (pre ++ (r ++ post))) (sym (replicate-append-replicate l 1 Unset)) ∙ ap (λ r. now_holds (pre ++ r)) (append_assoc (replicate l Unset) (Unset ∷ []) post) ∙ ap now_holds (sym (append_assoc pre (replicate l Unset) (Unset ∷ post))) in
      let at_place : place ≡ length before = sym (length-append pre (replicate l Unset) ∙ ap (λ k. length pre + k) (length-replicate l Unset)) in
      let after : now_holds (before ++ Byte d ∷ post) ≡ now_holds (pre ++ (replicate l Unset ++ (Byte d ∷ post))) = ap now_holds (append_assoc pre (replicate l Unset) (Byte d ∷ post)) in
      let whole : pre ++ (map Byte (tens m) ++ (Byte d ∷ post)) ≡ pre ++ (map Byte (tens (suc n)) ++ post) =
      ap (λ r. pre ++ r) (sym (append_assoc (map Byte (tens m)) (Byte d ∷ []) post) ∙ ap (λ r. r ++ post) (sym (bytes_append (tens m) (d ∷ [])) ∙ ap (map Byte) (sym more))) in
      let ih = written fuel m place pre (Byte d ∷ post) (Flag true) (Word (pos d)) (Byte d) (omega arith) (omega arith) refl (omega (arith, ee, count, room)) in
      record {
        end = ih.end;
        same = ih.same ∙ ap (λ r. record core { function = 0; block = 0; at = 0; vars = []; blocks = now_holds r }) whole;
        leads = on (gives (Flag true) (less_true 0 (suc n) (omega arith))) (on (many 1 of refl refl) (on (gives (Word (pos (suc n % 10))) (digit_of (suc n))) (on (gives (Word (pos d)) (shown (suc n % 10) (omega arith)))
            (on (turns (Byte d) (let f : nat_lt d 256 ≡ true = grind (arith, nat_tests) in ap (λ t. cond t (Ok (Byte d)) (Err BadWord)) f))
            (on (gives (Word (pos place)) (subs e 1 place (omega (arith, ee, count)) room))
            (on (writes_byte bs fields before post Unset place d (now_holds (pre ++ (replicate l Unset ++ (Byte d ∷ post)))) texts start refl refl at_place refl after)
            (on (gives (Word (pos m)) (tens_of (suc n) h)) (on (many 1 of refl refl) ih.leads))))))));
      }

  pub writes : (n e : ℕ) (pre post : List Value) → n < 2 ^ 63 → e ≡ length pre + length (tens n) → e < 2 ^ 63 → core.blocks ≡ now_holds (pre ++ (replicate (length (tens n)) Unset ++ post))
      → Comes p args (Calling write (Ptr (length bs) ∷ Word (pos e) ∷ Word (pos n) ∷ []) frames core) [] Unset frames (record core { blocks = now_holds (pre ++ (map Byte (tens n) ++ post)) })
  writes n e pre post h ee room at =
      let c = written n n e pre post Unset Unset Unset (omega arith) h ee room in
      record {
        end = c.end;
        same = c.same;
        leads = on (enter of refl) (subst (λ l. Leads p args 0 (At write_digits_test.ops write_digits_test.exit frames (record core { function = write; block = 0; at = 0; vars = Ptr (length bs) ∷ Word (pos e) ∷ Word (pos n) ∷ Unset ∷ Unset ∷ Unset ∷ []; blocks = l })) [] (Returning Unset frames c.end)) (sym at) c.leads);
      }

-- ---- the operation

ap_less : {a b : List ℕ} → a ≡ b → 0 < length b → 0 < length a
ap_less {a = a} {b = b} e h = subst (λ l. 0 < length l) (sym e) h

module _ (p : LlProgram) (args : List (List ℕ)) (numbers : Numbers) (f : ℕ) (frames : List Frame) (core : Core) (w : World) (h : HasHelper p numbers helper.StrOfWord f core) (left : w.left ≡ core.steps) where
  module _ (n : ℕ) (small : n < 2 ^ 63) where
    whole_count : length (decimal n) ≡ length (tens (n / 10)) + 1
    whole_count = ap length (split n (omega (arith, small))) ∙ length-append (tens (n / 10)) ((48 + n % 10) ∷ [])

    to_cost : Leads p args 0 (Calling f (Word (pos n) ∷ []) frames core) [] (At (op.Step (Var 5) ∷ op.Binary 1 Lt (Var 4) (constant (pos 2)) ∷ []) (str_of_word_positive numbers.count_digits).exit frames (record core {
      function = f;
      block = 2;
      at = 4;
      vars = Word (pos n) ∷ Flag false ∷ Word (pos (n / 10)) ∷ Word (pos (length (tens (n / 10)))) ∷ Word (pos (length (tens (n / 10)) + 1)) ∷ Word (pos (length (tens (n / 10)) + 2)) ∷ Unset ∷ Unset ∷ Unset ∷ Unset ∷ Unset ∷ [];
    }))
    to_cost =
        let few : length (tens (n / 10)) ≤ 19 = few_digits (n / 10) (omega arith) in
        on (enter h.graph refl) (on (gives (Flag false) (less_false n 0 (omega arith))) (on (many 1 h.graph refl refl) (on (gives (Word (pos (n / 10))) (tens_of n small))
        (on (call refl (λ waits. counts p args numbers.count_digits (h.shared shared.CountDigits refl) waits _ (n / 10) (omega (arith, small))))
        (on (gives (Word (pos (length (tens (n / 10)) + 1))) (adds (length (tens (n / 10))) 1 (omega (arith, few)))) (gives (Word (pos (length (tens (n / 10)) + 2))) (adds (length (tens (n / 10))) 2 (omega (arith, few)))))))))

    single : (left : ℕ) → n < 10 → core.steps ≡ (length (tens (n / 10)) + 2) + left → Gave p args (Calling f (Word (pos n) ∷ []) frames core) frames core (type.Ptr 0) w (Text (decimal n)) (record w { left = left })
    single left few e =
        let none : length (tens (n / 10)) ≡ 0 = (let z : n / 10 ≡ 0 = omega (arith, few) in ap length (tens_none (n / 10) z)) in
        let one : (n + 48) ∷ [] ≡ decimal n = (let k : n + 48 ≡ 48 + n = omega arith in ap (λ d. d ∷ []) k ∙ sym (decimal_digit n few)) in
        let statics = h.statics refl in
        subst (λ l. Gave p args (Calling f (Word (pos n) ∷ []) frames core) frames core (type.Ptr 0) w (Text l) (record w { left = left })) one
        (gave_left left
        (on to_cost (on (pays (length (tens (n / 10)) + 2) left refl e) (on (gives (Flag true) (less_true (length (tens (n / 10)) + 1) 2 (omega (arith, none)))) (on (many 1 h.graph refl refl)
        (on (gives (Word (pos (n + 48))) (adds n 48 (omega (arith, few)))) (on (many 1 h.graph refl refl) (on (gets_single numbers.table (n + 48) statics refl refl (omega (arith, few))) (many 1 h.graph refl refl))))))))
        refl (text (Static (n + 48 + 1)) ((n + 48) ∷ []) (record { is = statics.singles (n + 48) (omega (arith, few)); short = omega arith; small = (omega (arith, few), tt) })))

    several : (left : ℕ) → 10 ≤ n → core.steps ≡ (length (tens (n / 10)) + 2) + left → Gave p args (Calling f (Word (pos n) ∷ []) frames core) frames core (type.Ptr 0) w (Text (decimal n)) (record w { left = left })
    several left more e =
        let l : ℕ = length (tens (n / 10)) in
        let few : l ≤ 19 = few_digits (n / 10) (omega arith) in
        let some : 0 < l = ap_less (tens_some (n / 10) (omega (arith, more))) (decimal_nonempty (n / 10) (omega (arith, small))) in
        let bs : List (Option Block) = core.blocks in
        let fields : List Value = Word (pos (l + 1)) ∷ [] in
        let all : tens n ≡ decimal n = tens_some n (omega (arith, more)) in
        let count : length (tens n) ≡ l + 1 = ap length all ∙ whole_count in
        let start : bs ++ Some (part_block fields (replicate (l + 1) Unset)) ∷ [] ≡ bs ++ Some (part_block fields ([] ++ (replicate (length (tens n)) Unset ++ []))) ∷ [] =
        ap (λ k. bs ++ Some (part_block fields (replicate k Unset)) ∷ []) (sym count) ∙ ap (λ r. bs ++ Some (part_block fields r) ∷ []) (sym (append-nil (replicate (length (tens n)) Unset))) in
        gave_new left (decimal n)
        (on to_cost (on (pays (l + 2) left refl e) (on (gives (Flag false) (less_false (l + 1) 2 (omega (arith, some)))) (on (many 1 h.graph refl refl)
        (on (makes (l + 1) 1 refl (ap (λ (s : Shape). s.size) h.text)) (on (writes_length bs Unset (replicate (l + 1) Unset) (pos (l + 1)) h.text refl refl refl)
        (on (call refl (λ waits. writes p args numbers.write_digits (h.shared shared.WriteDigits refl) h.text waits _ bs fields n (l + 1) [] [] small (omega (arith, count)) (omega (arith, few)) start))
        (many 1 h.graph refl refl))))))))
        (ap (λ r. forgotten (record core { blocks = bs ++ Some (part_block fields r) ∷ []; steps = left })) (append-nil (map Byte (tens n)) ∙ ap (map Byte) all)
        ∙ ap (λ k. forgotten (record core { blocks = bs ++ Some (part_block (Word (pos k) ∷ []) (map Byte (decimal n))) ∷ []; steps = left })) (sym whole_count))
        (omega (arith, whole_count, few)) (subst AreBytes all (digits_small n n (omega arith) small))

    positive : Follows p args (Calling f (Word (pos n) ∷ []) frames core) frames core (type.Ptr 0) w (new_text (decimal n) w)
    positive = by_paying frames (type.Ptr 0) w (1 + length (decimal n)) (give (Text (decimal n)))
        (λ k. stops (length (tens (n / 10)) + 2) to_cost refl (omega (arith, k, left, whole_count)) refl (λ b k. k))
        (λ m e. sized m (omega (arith, e, left, whole_count)) (nat_lt n 10) refl)
      where
        sized : (m : ℕ) → core.steps ≡ (length (tens (n / 10)) + 2) + m → (c : Bool) → nat_lt n 10 ≡ c → Gave p args (Calling f (Word (pos n) ∷ []) frames core) frames core (type.Ptr 0) w (Text (decimal n)) (record w { left = m })
        sized m e true q = single m (grind (arith, nat_tests, q)) e
        sized m e false q = several m (grind (arith, nat_tests, q)) e

  module _ (m : ℕ) (small : m < 2 ^ 63) where
    signed_count : length (decimal (suc m)) ≡ length (tens (suc m / 10)) + 1
    signed_count = ap length (split (suc m) (omega (arith, small))) ∙ length-append (tens (suc m / 10)) ((48 + suc m % 10) ∷ [])

    to_signed_cost : Leads p args 0 (Calling f (Word (negsuc m) ∷ []) frames core) [] (At (drop 5 (str_of_word_negative numbers.count_digits numbers.write_digits).ops) (str_of_word_negative numbers.count_digits numbers.write_digits).exit frames (record core {
      function = f;
      block = 1;
      at = 5;
      vars = Word (negsuc m) ∷ Flag true ∷ Word (pos (suc m / 10)) ∷ Word (pos (length (tens (suc m / 10)))) ∷ Word (pos (length (tens (suc m / 10)) + 2)) ∷ Word (pos (length (tens (suc m / 10)) + 3)) ∷ Unset ∷ Unset ∷ Unset ∷ Unset ∷ Word (pos (length (tens (suc m / 10)) + 1)) ∷ [];
    }))
    to_signed_cost =
        let l : ℕ = length (tens (suc m / 10)) in
        let few : l ≤ 19 = few_digits (suc m / 10) (omega arith) in
        on (enter h.graph refl) (on (many 2 h.graph refl refl) (on (gives (Word (pos (suc m / 10))) (tens_below m small))
        (on (call refl (λ waits. counts p args numbers.count_digits (h.shared shared.CountDigits refl) waits _ (suc m / 10) (omega (arith, small))))
        (on (gives (Word (pos (l + 1))) (adds l 1 (omega (arith, few)))) (on (gives (Word (pos (l + 2))) (adds l 2 (omega (arith, few)))) (gives (Word (pos (l + 3))) (adds l 3 (omega (arith, few)))))))))

    signed_paid : (left : ℕ) → core.steps ≡ (length (tens (suc m / 10)) + 3) + left → Gave p args (Calling f (Word (negsuc m) ∷ []) frames core) frames core (type.Ptr 0) w (Text (45 ∷ decimal (suc m))) (record w { left = left })
    signed_paid left e =
        let q : ℕ = suc m / 10 in
        let l : ℕ = length (tens q) in
        let d : ℕ = 48 + suc m % 10 in
        let few : l ≤ 19 = few_digits q (omega arith) in
        let bs : List (Option Block) = core.blocks in
        let fields : List Value = Word (pos (l + 2)) ∷ [] in
        let two : l + 2 ≡ suc (l + 1) = omega arith in
        let start : bs ++ Some (part_block fields (replicate (l + 2) Unset)) ∷ [] ≡ bs ++ Some (part_block fields ([] ++ Unset ∷ replicate (l + 1) Unset)) ∷ [] = ap (λ k. bs ++ Some (part_block fields (replicate k Unset)) ∷ []) two in
        let signed : bs ++ Some (part_block fields ([] ++ Byte 45 ∷ replicate (l + 1) Unset)) ∷ [] ≡ bs ++ Some (part_block fields ((Byte 45 ∷ replicate l Unset) ++ Unset ∷ [])) ∷ [] = ap (λ r. bs ++ Some (part_block fields (Byte 45 ∷ r)) ∷ []) (sym (replicate-append-replicate l 1 Unset)) in
        let place : l + 1 ≡ length (Byte 45 ∷ replicate l Unset) = (let k : length (replicate l Unset) ≡ l = length-replicate l Unset in omega (arith, k)) in
        let all : tens q ++ d ∷ [] ≡ decimal (suc m) = sym (split (suc m) (omega (arith, small))) in
        let items : Byte 45 ∷ (map Byte (tens q) ++ Byte d ∷ []) ≡ map Byte (45 ∷ decimal (suc m)) = ap (λ r. Byte 45 ∷ r) (sym (bytes_append (tens q) (d ∷ [])) ∙ ap (map Byte) all) in
        let count : l + 2 ≡ length (45 ∷ decimal (suc m)) = (let k : length (decimal (suc m)) ≡ l + 1 = signed_count in omega (arith, k)) in
        gave_new left (45 ∷ decimal (suc m))
        (on to_signed_cost (on (pays (l + 3) left refl e) (on (makes (l + 2) 1 refl (ap (λ (s : Shape). s.size) h.text)) (on (writes_length bs Unset (replicate (l + 2) Unset) (pos (l + 2)) h.text refl refl refl)
        (on (writes_byte bs fields [] (replicate (l + 1) Unset) Unset 0 45 (bs ++ Some (part_block fields ((Byte 45 ∷ replicate l Unset) ++ Unset ∷ [])) ∷ []) h.text start refl refl refl refl signed)
        (on (many 1 h.graph refl refl) (on (gives (Word (pos d)) (digit_below m)) (on (turns (Byte d) (let g : nat_lt d 256 ≡ true = grind (arith, nat_tests) in ap (λ t. cond t (Ok (Byte d)) (Err BadWord)) g))
        (on (writes_byte bs fields (Byte 45 ∷ replicate l Unset) [] Unset (l + 1) d (bs ++ Some (part_block fields ((Byte 45 ∷ []) ++ (replicate l Unset ++ (Byte d ∷ [])))) ∷ []) h.text refl refl refl place refl refl)
        (on (call refl (λ waits. writes p args numbers.write_digits (h.shared shared.WriteDigits refl) h.text waits _ bs fields q (l + 1) (Byte 45 ∷ []) (Byte d ∷ []) (omega (arith, small)) (omega arith) (omega (arith, few)) refl))
        (many 1 h.graph refl refl)))))))))))
        (ap (λ r. forgotten (record core { blocks = bs ++ Some (part_block fields r) ∷ []; steps = left })) items
        ∙ ap (λ k. forgotten (record core { blocks = bs ++ Some (part_block (Word (pos k) ∷ []) (map Byte (45 ∷ decimal (suc m)))) ∷ []; steps = left })) count)
        (omega (arith, signed_count, few)) (omega arith, subst AreBytes all (bytes_both (tens q) (d ∷ []) (digits_small q q (omega arith) (omega (arith, small))) (omega arith, tt)))

    negative : Follows p args (Calling f (Word (negsuc m) ∷ []) frames core) frames core (type.Ptr 0) w (new_text (45 ∷ decimal (suc m)) w)
    negative = by_paying frames (type.Ptr 0) w (1 + length (45 ∷ decimal (suc m))) (give (Text (45 ∷ decimal (suc m))))
        (λ k. stops (length (tens (suc m / 10)) + 3) to_signed_cost refl (omega (arith, k, left, signed_count)) refl (λ b k. k))
        (λ n e. signed_paid n (omega (arith, e, left, signed_count)))

pub of_word_is : Is helper.StrOfWord type.Signed (type.Ptr 0) row.ToStr
of_word_is program p args numbers f frames core w h left x v (word (pos n) fits) = positive p args numbers f frames core w h left n (omega (arith, fits.sfits))
of_word_is program p args numbers f frames core w h left x v (word (negsuc m) fits) = negative p args numbers f frames core w h left m (omega (arith, fits.sfits))
