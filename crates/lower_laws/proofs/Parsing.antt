-- The graph of `int` of a string reads its number.
use Rattle.std.proofs.Common.{◌≡◌, ◌<◌, ◌≤◌, ℕ, zero, suc, ◌+◌, ◌-◌, ◌*◌, ◌^◌, ◌==◌, Bool, true, false, List, [], ◌∷◌, ◌++◌, length, Option, Some, None, Ok, ℤ, pos, negsuc, ◌-ℤ◌, ◌*ℤ◌, refl, sym, ap, ◌∙◌, subst, arith, append_assoc, length-append}
use Rattle.std.specs.Prelude.{slice_get, reverse, cond, not, nat_le, neg_ℤ, ◌&&◌, ◌||◌, if◌then◌else◌}
use Rattle.std.specs.Int.{w64}
use Rattle.std.specs.Ordering.{int_eq}
use Rattle.std.proofs.lemmas.Bool.Decides.{nat_tests}
use Rattle.std.proofs.lemmas.Int.{int_wrap_fits, ints}
use Rattle.std.proofs.lemmas.List.{append-nil, length-reverse, reverse-append, reverse-reverse}
use Rattle.rpy_base.specs.Number.{blank, without_leading_blanks, trimmed}
use Rattle.rpy_base.specs.Word.{Fits, wrap}
use Rattle.csub_tree.specs.State.{Value, Unset, Word, Byte, Flag, Core}
use Rattle.csub_tree.specs.Operation.{binary_of, is_unset, word_of_flag, fits as low_fits}
use Rattle.csub_tree.specs.Statement.{any_unset}
use Rattle.csub_tree.specs.declared.tree.CBinary.TheVariants as binary
use Rattle.rpy_meaning.specs.Methods.{is_digit}
use Rattle.ll_code.specs.State.{Frame, State, Calling, At}
use Rattle.ll_code.specs.declared.program.LlOp.TheVariants as op
use Rattle.ll_code.specs.declared.program.LlExit.TheVariants as exit
use Rattle.ll_code.specs.declared.program.LlBlock.{LlBlock}
use Rattle.ll_code.specs.declared.program.LlProgram.{LlProgram}
use Rattle.ll_leads.specs.Path.{Leads}
use Rattle.ll_leads.proofs.Ways.{Comes, on, many, enter, gives, turns}
use Rattle.ll_texts.specs.Texts.{IsText, HasText}
use Rattle.ll_texts.proofs.Numbers.{adds, subs}
use Rattle.ll_texts.proofs.Reading.{is_set, gets_length, gets_byte, get_mid}
use Rattle.ll_strings.proofs.Equal.{same_numbers}
use Rattle.rtyper_data.specs.declared.found.Found.{Found}
use Rattle.rtyper_data.specs.declared.small.Small.TheVariants as small
use Rattle.rtyper_data.specs.Finding.{small_number}
use Rattle.rtyper_data.specs.Graphs.{failing}
use Rattle.rtyper_data.specs.IntOfText.{byte_at, asked, between, at_end, blank_back, minus, plus, any_digit, more, digit, taken, done, given, int_graph}
use Rattle.rtyper_data.specs.IntOfText.{blank as blank_ops}
use Rattle.lower_laws.specs.Asked.{Raises}
use Rattle.lower_laws.proofs.Fitting.{so_fits, least}
use Rattle.lower_laws.proofs.Reading.{closed, next_sum, reads, reads_some, reads_signed}
use Rattle.lower_laws.proofs.Small.{Flies, flown, flies_on, same_memory}

-- ---- tests as words

and_is : (a b : Bool) → binary_of binary.And (Word (word_of_flag a)) (Word (word_of_flag b)) ≡ Ok (Word (word_of_flag (a && b)))
and_is true true = refl
and_is true false = refl
and_is false true = refl
and_is false false = refl

or_is : (a b : Bool) → binary_of binary.Or (Word (word_of_flag a)) (Word (word_of_flag b)) ≡ Ok (Word (word_of_flag (a || b)))
or_is true true = refl
or_is true false = refl
or_is false true = refl
or_is false false = refl

holds_is : (a : Bool) → binary_of binary.Ne (Word (word_of_flag a)) (Word (pos 0)) ≡ Ok (Flag a)
holds_is true = refl
holds_is false = refl

blank_is : (k : ℕ) → ((nat_le 9 k && nat_le k 13) || int_eq (pos k) (pos 32)) ≡ blank k
blank_is k = ap (λ c. (nat_le 9 k && nat_le k 13) || c) (same_numbers k 32 (k == 32) refl) ∙ swap (nat_le 9 k && nat_le k 13) (k == 32)
  where
    swap : (a b : Bool) → (a || b) ≡ (b || a)
    swap true true = refl
    swap true false = refl
    swap false true = refl
    swap false false = refl

-- ---- sums below zero

tenfold_is : (m : ℕ) → neg_ℤ (pos m) *ℤ pos 10 ≡ neg_ℤ (pos (m * 10))
tenfold_is zero = refl
tenfold_is (suc n) = omega (arith, ints)

less_is : (a d : ℕ) → neg_ℤ (pos a) -ℤ pos d ≡ neg_ℤ (pos (a + d))
less_is a d = omega (arith, ints)

below_fits : (m : ℕ) → m ≤ 9223372036854775808 → Fits (neg_ℤ (pos m))
below_fits m h = omega (arith, ints, h)

below_not : (m : ℕ) → 9223372036854775808 < m → low_fits (neg_ℤ (pos m)) ≡ false
below_not zero h = absurd (omega (arith, h))
below_not (suc n) h = (let l : 9223372036854775808 ≤ n = omega (arith, h) in grind (arith, nat_tests, l))

least_is : (m : ℕ) → int_eq (neg_ℤ (pos m)) least ≡ (m == 9223372036854775808)
least_is zero = refl
least_is (suc n) = by (suc n == 9223372036854775808) refl
  where
    by : (c : Bool) → (suc n == 9223372036854775808) ≡ c → int_eq (negsuc n) least ≡ c
    by true e = grind (arith, nat_tests, e)
    by false e = grind (arith, nat_tests, e)

-- ---- where it leads

module _ (p : LlProgram) (args : List (List ℕ)) (f : ℕ) (made : Found) (of : slice_get p.graphs f ≡ Some (int_graph made).0) (x8 : Value) (raises : Raises p (small_number (small.Raise 8) made).0 x8) (texts : HasText p) (waits : List Frame) (core : Core) (x : Value) where
  unfoldable pub Result : Option ℤ → State → Type 0
  Result (Some z) s = Comes p args s [] (Word z) waits core
  Result None s = Flies p args s x8 waits core

  leads_on : {s t : State} → Leads p args 0 s [] t → (r : Option ℤ) → Result r t → Result r s
  unfolding Result
  leads_on l (Some z) c = record { end = c.end; same = c.same; leads = on l c.leads }
  leads_on l None c = flies_on l c

  abbrev V : Value → Value → Value → Value → Value → Value → Value → Value → Value → Value → Value → List Value
  V n i c k t s b e g h l = x ∷ n ∷ i ∷ c ∷ k ∷ t ∷ s ∷ b ∷ e ∷ g ∷ h ∷ l ∷ []

  abbrev In : LlBlock → ℕ → List Value → State
  In block k vars = At block.ops block.exit waits (record core { function = f; block = k; at = 0; vars = vars })

  abbrev Raising : List Value → State
  Raising vars = At (op.Call None (small_number (small.Raise 8) made).0 [] ∷ []) (exit.Fail 3) waits (record core { function = f; block = 13; at = 0; vars = vars })

  no_number : (vars : List Value) → Result None (Raising vars)
  unfolding Result
  no_number vars = same_memory refl (flown raises)

  -- ---- the end

  gives_back : (z : ℤ) (n i c k t b e g h l : Value) → Result (Some z) (In given 12 (V n i c k t (Word z) b e g h l))
  unfolding Result failing
  gives_back z n i c k t b e g h l = record { end = _; same = refl; leads = many 1 of refl refl }

  finishes : (b : Bool) (m : ℕ) → m ≤ 9223372036854775808 → (n i c k t e g h l : Value) → Result (closed b m) (In done 10 (V n i c k t (Word (neg_ℤ (pos m))) (Word (word_of_flag b)) e g h l))
  unfolding failing
  finishes true m small n i c k t e g h l = leads_on (many 2 of refl refl) (Some (neg_ℤ (pos m))) (gives_back (neg_ℤ (pos m)) n i c k (Flag true) (Word (pos 1)) e g h l)
  finishes false m small n i c k t e g h l = by (m == 9223372036854775808) refl
    where
      same : (m == 9223372036854775808) ≡ false → wrap (neg_ℤ (neg_ℤ (pos m))) ≡ pos m
      same e = (let s : m < 9223372036854775808 = grind (arith, nat_tests, e, small) in let d : neg_ℤ (neg_ℤ (pos m)) ≡ pos m = omega (arith, ints) in ap wrap d ∙ int_wrap_fits w64 (pos m) (counted m s))
        where
          counted : (m : ℕ) → m < 9223372036854775808 → Fits (pos m)
          counted m s = omega (arith, ints)

      by : (q : Bool) → (m == 9223372036854775808) ≡ q → Result (if q then None else Some (pos m)) (In done 10 (V n i c k t (Word (neg_ℤ (pos m))) (Word (pos 0)) e g h l))
      by true q = leads_on (on (many 2 of refl refl) (on (gives (Flag true) (ap (λ c. Ok (Flag c)) (least_is m ∙ q))) (on (turns (Word (wrap (neg_ℤ (neg_ℤ (pos m))))) refl) (many 1 of refl refl)))) None (no_number (V n i c k (Flag true) (Word (wrap (neg_ℤ (neg_ℤ (pos m))))) (Word (pos 0)) e g h l))
      by false q = leads_on (on (many 2 of refl refl) (on (gives (Flag false) (ap (λ c. Ok (Flag c)) (least_is m ∙ q))) (on (turns (Word (pos m)) (ap (λ z. Ok (Word z)) (same q))) (many 1 of refl refl)))) (Some (pos m)) (gives_back (pos m) n i c k (Flag false) (Word (pos 0)) e g h l)

  -- ---- digits

  abbrev limit : ℕ
  limit = 9223372036854775808

  ten_overflows : (m : ℕ) (c : Bool) → low_fits (neg_ℤ (pos (m * 10))) ≡ c → binary_of binary.MulOvf (Word (neg_ℤ (pos m))) (Word (pos 10)) ≡ Ok (Flag (not c))
  ten_overflows m c e = ap (λ z. Ok (Flag (not (low_fits z)))) (tenfold_is m) ∙ ap (λ c. Ok (Flag (not c))) e

  ten_is : (m : ℕ) → m * 10 ≤ limit → binary_of binary.Mul (Word (neg_ℤ (pos m))) (Word (pos 10)) ≡ Ok (Word (neg_ℤ (pos (m * 10))))
  ten_is m h = ap (λ z. Ok (Word (wrap z))) (tenfold_is m) ∙ ap (λ z. Ok (Word z)) (int_wrap_fits w64 (neg_ℤ (pos (m * 10))) (below_fits (m * 10) h))

  -- the digit is taken
  takes : (m k i : ℕ) → next_sum m k ≤ limit → 48 ≤ k → k < 2 ^ 63 → i + 1 < 2 ^ 63 → (n c t b e g h l : Value) → any_unset (x ∷ n ∷ b ∷ []) ≡ false → (r : Option ℤ)
      → Result r (In more 7 (V n (Word (pos (i + 1))) c (Word (pos (k - 48))) (Flag false) (Word (neg_ℤ (pos (next_sum m k)))) b (Word (pos (i + 1))) (Word (pos 0)) (Word (pos 0)) (Word (neg_ℤ (pos (m * 10))))))
      → Result r (In taken 9 (V n (Word (pos i)) c (Word (pos k)) t (Word (neg_ℤ (pos m))) b e g h l))
  unfolding asked failing
  takes m k i small low short room n c t b e g h l set r rest =
      let ten : m * 10 ≤ limit = omega (arith, small) in
      leads_on
      (on (gives (Flag false) (ten_overflows m true (so_fits (neg_ℤ (pos (m * 10))) (below_fits (m * 10) ten)))) (on (turns (Word (pos 0)) refl) (on (gives (Word (neg_ℤ (pos (m * 10)))) (ten_is m ten))
      (on (gives (Word (pos (k - 48))) (subs k 48 (k - 48) (omega (arith, low)) short))
      (on (gives (Flag false) (ap (λ z. Ok (Flag (not (low_fits z)))) (less_is (m * 10) (k - 48)) ∙ ap (λ c. Ok (Flag (not c))) (so_fits (neg_ℤ (pos (next_sum m k))) (below_fits (next_sum m k) small)))) (on (turns (Word (pos 0)) refl)
      (on (gives (Word (neg_ℤ (pos (next_sum m k)))) (ap (λ z. Ok (Word (wrap z))) (less_is (m * 10) (k - 48)) ∙ ap (λ z. Ok (Word z)) (int_wrap_fits w64 (neg_ℤ (pos (next_sum m k))) (below_fits (next_sum m k) small))))
      (on (gives (Word (pos 0)) (or_is false false)) (on (gives (Flag false) (holds_is false)) (on (gives (Word (pos (i + 1))) (adds i 1 room)) (many 1 of refl (simp set)))))))))))) r rest

  -- it is too much
  refuses : (m k i : ℕ) → limit < next_sum m k → 48 ≤ k → k < 2 ^ 63 → i + 1 < 2 ^ 63 → (n c t b e g h l : Value) → Result None (In taken 9 (V n (Word (pos i)) c (Word (pos k)) t (Word (neg_ℤ (pos m))) b e g h l))
  unfolding asked failing
  refuses m k i large low short room n c t b e g h l = by (nat_le (m * 10) limit) refl
    where
      d : ℕ
      d = k - 48

      by : (q : Bool) → nat_le (m * 10) limit ≡ q → Result None (In taken 9 (V n (Word (pos i)) c (Word (pos k)) t (Word (neg_ℤ (pos m))) b e g h l))
      by true q =
          let ten : m * 10 ≤ limit = grind (arith, nat_tests, q) in
          leads_on
          (on (gives (Flag false) (ten_overflows m true (so_fits (neg_ℤ (pos (m * 10))) (below_fits (m * 10) ten)))) (on (turns (Word (pos 0)) refl) (on (gives (Word (neg_ℤ (pos (m * 10)))) (ten_is m ten))
          (on (gives (Word (pos (k - 48))) (subs k 48 (k - 48) (omega (arith, low)) short))
          (on (gives (Flag true) (ap (λ z. Ok (Flag (not (low_fits z)))) (less_is (m * 10) (k - 48)) ∙ ap (λ c. Ok (Flag (not c))) (below_not (next_sum m k) large))) (on (turns (Word (pos 1)) refl)
          (on (gives (Word (wrap (neg_ℤ (pos (m * 10)) -ℤ pos (k - 48)))) refl)
          (on (gives (Word (pos 1)) (or_is false true)) (on (gives (Flag true) (holds_is true)) (on (gives (Word (pos (i + 1))) (adds i 1 room)) (many 1 of refl refl))))))))))) None (no_number _)
      by false q =
          let more_ten : limit < m * 10 = grind (arith, nat_tests, q) in
          let z : ℤ = wrap (neg_ℤ (pos m) *ℤ pos 10) in
          let s : Bool = not (low_fits (z -ℤ pos (k - 48))) in
          leads_on
          (on (gives (Flag true) (ten_overflows m false (below_not (m * 10) more_ten))) (on (turns (Word (pos 1)) refl) (on (gives (Word z) refl)
          (on (gives (Word (pos (k - 48))) (subs k 48 (k - 48) (omega (arith, low)) short))
          (on (gives (Flag s) refl) (on (turns (Word (word_of_flag s)) refl)
          (on (gives (Word (wrap (z -ℤ pos (k - 48)))) refl)
          (on (gives (Word (pos 1)) (or_is true s)) (on (gives (Flag true) (holds_is true)) (on (gives (Word (pos (i + 1))) (adds i 1 room)) (many 1 of refl refl))))))))))) None (no_number _)

  -- whether the byte is a digit, and then what follows
  digit_tested : (pre post : List ℕ) (k i m : ℕ) (n c kk t b e g h l : Value) → IsText core.blocks core.statics x (pre ++ k ∷ post) → i ≡ length pre → any_unset (x ∷ n ∷ b ∷ []) ≡ false → (r : Option ℤ)
      → (is_digit k ≡ true → Result r (In taken 9 (V n (Word (pos i)) (Byte k) (Word (pos k)) (Flag true) (Word (neg_ℤ (pos m))) b e (Word (pos 1)) (Word (word_of_flag (nat_le k 57))) l))) → (is_digit k ≡ false → r ≡ None)
      → Result r (In digit 8 (V n (Word (pos i)) c kk t (Word (neg_ℤ (pos m))) b e g h l))
  unfolding byte_at between asked failing
  digit_tested pre post k i m n c kk t b e g h l text at set r there elsewhere = by (is_digit k) refl
    where
      by : (q : Bool) → is_digit k ≡ q → Result r (In digit 8 (V n (Word (pos i)) c kk t (Word (neg_ℤ (pos m))) b e g h l))
      by true q = leads_on
          (on (gets_byte i k texts text refl (get_mid pre k post i at)) (on (turns (Word (pos k)) refl) (on (gives (Flag (nat_le 48 k)) refl) (on (turns (Word (word_of_flag (nat_le 48 k))) refl) (on (gives (Flag (nat_le k 57)) refl) (on (turns (Word (word_of_flag (nat_le k 57))) refl)
          (on (gives (Word (pos 1)) (and_is (nat_le 48 k) (nat_le k 57) ∙ ap (λ q. Ok (Word (word_of_flag q))) q)) (on (gives (Flag true) (holds_is true)) (many 1 of refl (simp set)))))))))) r (there q)
      by false q = subst (λ r. Result r (In digit 8 (V n (Word (pos i)) c kk t (Word (neg_ℤ (pos m))) b e g h l))) (sym (elsewhere q)) (leads_on
          (on (gets_byte i k texts text refl (get_mid pre k post i at)) (on (turns (Word (pos k)) refl) (on (gives (Flag (nat_le 48 k)) refl) (on (turns (Word (word_of_flag (nat_le 48 k))) refl) (on (gives (Flag (nat_le k 57)) refl) (on (turns (Word (word_of_flag (nat_le k 57))) refl)
          (on (gives (Word (pos 0)) (and_is (nat_le 48 k) (nat_le k 57) ∙ ap (λ q. Ok (Word (word_of_flag q))) q)) (on (gives (Flag false) (holds_is false)) (many 1 of refl refl))))))))) None (no_number _))

  reaches : (i n : ℕ) (c : Bool) → nat_le n i ≡ c → binary_of binary.Ge (Word (pos i)) (Word (pos n)) ≡ Ok (Flag c)
  reaches i n c h = ap (λ c. Ok (Flag c)) h

  is_kept : (y z : Value) {bytes : List ℕ} → IsText core.blocks core.statics x bytes → is_unset y ≡ false → is_unset z ≡ false → any_unset (x ∷ y ∷ z ∷ []) ≡ false
  is_kept y z text hy hz = ap (λ c. c || (is_unset y || (is_unset z || false))) (is_set text) ∙ ap (λ c. c || (is_unset z || false)) hy ∙ ap (λ c. c || false) hz

  shifted : (pre : List ℕ) (d : ℕ) (rest : List ℕ) → IsText core.blocks core.statics x (pre ++ d ∷ rest) → IsText core.blocks core.statics x ((pre ++ d ∷ []) ++ rest)
  shifted pre d rest text = subst (IsText core.blocks core.statics x) (sym (append_assoc pre (d ∷ []) rest)) text

  digits_read : (ds pre post : List ℕ) (b : Bool) (m i n : ℕ) (c k t e g h l : Value) → IsText core.blocks core.statics x (pre ++ (ds ++ post)) → i ≡ length pre → n ≡ i + length ds → n < 2 ^ 63 → m ≤ limit
      → Result (reads b m ds) (In more 7 (V (Word (pos n)) (Word (pos i)) c k t (Word (neg_ℤ (pos m))) (Word (word_of_flag b)) e g h l))
  unfolding failing
  digits_read [] pre post b m i n c k t e g h l text at end room small =
      leads_on (on (gives (Flag true) (reaches i n true (let z : n ≤ i = omega (arith, end) in grind (arith, nat_tests, z)))) (many 1 of refl refl)) (closed b m) (finishes b m small (Word (pos n)) (Word (pos i)) c k (Flag true) e g h l)
  digits_read (d ∷ ds) pre post b m i n c k t e g h l text at end room small =
      leads_on (on (gives (Flag false) (reaches i n false (let z : i < n = omega (arith, end) in grind (arith, nat_tests, z)))) (many 1 of refl (simp kept))) (reads b m (d ∷ ds))
      (digit_tested pre (ds ++ post) d i m (Word (pos n)) c k (Flag false) (Word (word_of_flag b)) e g h l text at kept (reads b m (d ∷ ds)) (λ q. next q (nat_le (next_sum m d) limit) refl
      (λ fits. digits_read ds (pre ++ d ∷ []) post b (next_sum m d) (i + 1) n (Byte d) (Word (pos (d - 48))) (Flag false) (Word (pos (i + 1))) (Word (pos 0)) (Word (pos 0)) (Word (neg_ℤ (pos (m * 10)))) (shifted pre d (ds ++ post) text) (let long : length (pre ++ d ∷ []) ≡ length pre + 1 = length-append pre (d ∷ []) in omega (arith, at, long)) (omega (arith, end)) room fits)) (λ q. ap (λ c. if c then (if nat_le (next_sum m d) limit then reads b (next_sum m d) ds else None) else None) q))
    where
      kept : any_unset (x ∷ Word (pos n) ∷ Word (word_of_flag b) ∷ []) ≡ false
      kept = is_kept (Word (pos n)) (Word (word_of_flag b)) text refl refl

      Next : ℕ → ℕ → Value → Value → Value → Value → Value → Value → Value → Type 0
      Next m2 i2 c2 k2 t2 e2 g2 h2 l2 = Result (reads b m2 ds) (In more 7 (V (Word (pos n)) (Word (pos i2)) c2 k2 t2 (Word (neg_ℤ (pos m2))) (Word (word_of_flag b)) e2 g2 h2 l2))

      next : is_digit d ≡ true → (q : Bool) → nat_le (next_sum m d) limit ≡ q → (next_sum m d ≤ limit → Next (next_sum m d) (i + 1) (Byte d) (Word (pos (d - 48))) (Flag false) (Word (pos (i + 1))) (Word (pos 0)) (Word (pos 0)) (Word (neg_ℤ (pos (m * 10)))))
          → Result (reads b m (d ∷ ds)) (In taken 9 (V (Word (pos n)) (Word (pos i)) (Byte d) (Word (pos d)) (Flag true) (Word (neg_ℤ (pos m))) (Word (word_of_flag b)) e (Word (pos 1)) (Word (word_of_flag (nat_le d 57))) l))
      next dig true q go =
          let low : 48 ≤ d = grind (arith, nat_tests, dig) in
          let high : d ≤ 57 = grind (arith, nat_tests, dig) in
          let fits : next_sum m d ≤ limit = grind (arith, nat_tests, q) in
          let same : reads b m (d ∷ ds) ≡ reads b (next_sum m d) ds = ap (λ c. if c then (if nat_le (next_sum m d) limit then reads b (next_sum m d) ds else None) else None) dig ∙ ap (λ c. if c then reads b (next_sum m d) ds else None) q in
          subst (λ r. Result r (In taken 9 (V (Word (pos n)) (Word (pos i)) (Byte d) (Word (pos d)) (Flag true) (Word (neg_ℤ (pos m))) (Word (word_of_flag b)) e (Word (pos 1)) (Word (word_of_flag (nat_le d 57))) l))) (sym same)
          (takes m d i fits low (omega (arith, high)) (omega (arith, end, room)) (Word (pos n)) (Byte d) (Flag true) (Word (word_of_flag b)) e (Word (pos 1)) (Word (word_of_flag (nat_le d 57))) l kept (reads b (next_sum m d) ds) (go fits))
      next dig false q go =
          let low : 48 ≤ d = grind (arith, nat_tests, dig) in
          let high : d ≤ 57 = grind (arith, nat_tests, dig) in
          let large : limit < next_sum m d = grind (arith, nat_tests, q) in
          let same : reads b m (d ∷ ds) ≡ None = ap (λ c. if c then (if nat_le (next_sum m d) limit then reads b (next_sum m d) ds else None) else None) dig ∙ ap (λ c. if c then reads b (next_sum m d) ds else None) q in
          subst (λ r. Result r (In taken 9 (V (Word (pos n)) (Word (pos i)) (Byte d) (Word (pos d)) (Flag true) (Word (neg_ℤ (pos m))) (Word (word_of_flag b)) e (Word (pos 1)) (Word (word_of_flag (nat_le d 57))) l))) (sym same)
          (refuses m d i large low (omega (arith, high)) (omega (arith, end, room)) (Word (pos n)) (Byte d) (Flag true) (Word (word_of_flag b)) e (Word (pos 1)) (Word (word_of_flag (nat_le d 57))) l)

  some_read : (ds pre post : List ℕ) (b : Bool) (i n : ℕ) (c k t s e g h l : Value) → IsText core.blocks core.statics x (pre ++ (ds ++ post)) → i ≡ length pre → n ≡ i + length ds → n < 2 ^ 63
      → Result (reads_some b ds) (In any_digit 6 (V (Word (pos n)) (Word (pos i)) c k t s (Word (word_of_flag b)) e g h l))
  unfolding failing
  some_read [] pre post b i n c k t s e g h l text at end room = leads_on (on (gives (Flag true) (reaches i n true (let z : n ≤ i = omega (arith, end) in grind (arith, nat_tests, z)))) (many 1 of refl refl)) None (no_number _)
  some_read (d ∷ ds) pre post b i n c k t s e g h l text at end room =
      leads_on (on (gives (Flag false) (reaches i n false (let z : i < n = omega (arith, end) in grind (arith, nat_tests, z)))) (many 1 of refl (simp (is_kept (Word (pos n)) (Word (word_of_flag b)) text refl refl)))) (reads b 0 (d ∷ ds))
      (digits_read (d ∷ ds) pre post b 0 i n c k (Flag false) e g h l text at end room (omega arith))

  -- ---- the sign

  sign_read : (d : ℕ) (ds pre post : List ℕ) (i n : ℕ) (c k t s b e g h l : Value) → IsText core.blocks core.statics x (pre ++ (d ∷ ds ++ post)) → i ≡ length pre → n ≡ i + length (d ∷ ds) → n < 2 ^ 63
      → Result (reads_signed (d ∷ ds)) (In minus 4 (V (Word (pos n)) (Word (pos i)) c k t s b e g h l))
  unfolding byte_at failing
  sign_read d ds pre post i n c k t s b e g h l text at end room = by (d == 45) refl
    where
      long : length (pre ++ d ∷ []) ≡ length pre + 1
      long = length-append pre (d ∷ [])

      text2 : IsText core.blocks core.statics x ((pre ++ d ∷ []) ++ (ds ++ post))
      text2 = shifted pre d (ds ++ post) text

      signless : (q : Bool) → (d == 43) ≡ q → Result (if q then reads_some false ds else reads_some false (d ∷ ds)) (In plus 5 (V (Word (pos n)) (Word (pos i)) (Byte d) (Word (pos d)) (Flag false) s b (Word (pos (i + 1))) g h l))
      signless true q = leads_on (on (gives (Flag true) (ap (λ t. Ok (Flag t)) (same_numbers d 43 true q))) (many 1 of refl (simp (is_set text)))) (reads_some false ds)
          (some_read ds (pre ++ d ∷ []) post false (i + 1) n (Byte d) (Word (pos d)) (Flag true) s (Word (pos (i + 1))) g h l text2 (omega (arith, at, long)) (omega (arith, end)) room)
      signless false q = leads_on (on (gives (Flag false) (ap (λ t. Ok (Flag t)) (same_numbers d 43 false q))) (many 1 of refl (simp (is_set text)))) (reads_some false (d ∷ ds))
          (some_read (d ∷ ds) pre post false i n (Byte d) (Word (pos d)) (Flag false) s (Word (pos (i + 1))) g h l text at end room)

      by : (q : Bool) → (d == 45) ≡ q → Result (if q then reads_some true ds else (if d == 43 then reads_some false ds else reads_some false (d ∷ ds))) (In minus 4 (V (Word (pos n)) (Word (pos i)) c k t s b e g h l))
      by true q = leads_on
          (on (gets_byte i d texts text refl (get_mid pre d (ds ++ post) i at)) (on (turns (Word (pos d)) refl) (on (gives (Word (pos (i + 1))) (adds i 1 (omega (arith, end, room)))) (on (gives (Flag true) (ap (λ t. Ok (Flag t)) (same_numbers d 45 true q))) (many 1 of refl (simp (is_set text))))))) (reads_some true ds)
          (some_read ds (pre ++ d ∷ []) post true (i + 1) n (Byte d) (Word (pos d)) (Flag true) s (Word (pos (i + 1))) g h l text2 (omega (arith, at, long)) (omega (arith, end)) room)
      by false q = leads_on
          (on (gets_byte i d texts text refl (get_mid pre d (ds ++ post) i at)) (on (turns (Word (pos d)) refl) (on (gives (Word (pos (i + 1))) (adds i 1 (omega (arith, end, room)))) (on (gives (Flag false) (ap (λ t. Ok (Flag t)) (same_numbers d 45 false q))) (many 1 of refl (simp (is_set text))))))) (if d == 43 then reads_some false ds else reads_some false (d ∷ ds))
          (signless (d == 43) refl)

  -- ---- blanks at the end

  some_left : (r : List ℕ) (k : ℕ) → blank k ≡ false → without_leading_blanks (r ++ k ∷ []) ≡ [] → ⊥
  some_left [] k h e = (let q : k ∷ [] ≡ [] = sym (ap (λ c. cond c [] (k ∷ [])) h) ∙ e in absurd (cc))
  some_left (j ∷ r) k h e = by (some_left r k h) (blank j) refl
    where
      by : (without_leading_blanks (r ++ k ∷ []) ≡ [] → ⊥) → (c : Bool) → blank j ≡ c → ⊥
      by go true q = (let z : without_leading_blanks (r ++ k ∷ []) ≡ [] = sym (ap (λ c. cond c (without_leading_blanks (r ++ k ∷ [])) (j ∷ r ++ k ∷ [])) q) ∙ e in go z)
      by go false q = (let z : j ∷ r ++ k ∷ [] ≡ [] = sym (ap (λ c. cond c (without_leading_blanks (r ++ k ∷ [])) (j ∷ r ++ k ∷ [])) q) ∙ e in absurd (cc))

  abbrev Back : Value → Value → Value → Value → Value → Value → Value → Value → Value → Value → Value → State
  Back n i c k t s b e g h l = In blank_back 3 (V n i c k t s b e g h l)

  -- the bytes between, the last one first, of which one is not blank
  back_read : (r pre post : List ℕ) (i n : ℕ) (c k t s b e g h l : Value) → IsText core.blocks core.statics x (pre ++ (reverse r ++ post)) → i ≡ length pre → n ≡ i + length r → n < 2 ^ 63 → (without_leading_blanks r ≡ [] → ⊥)
      → Result (reads_signed (reverse (without_leading_blanks r))) (Back (Word (pos n)) (Word (pos i)) c k t s b e g h l)
  unfolding byte_at between asked blank_ops failing
  back_read [] pre post i n c k t s b e g h l text at end room left = absurd (left refl)
  back_read (d ∷ r) pre post i n c k t s b e g h l text at end room left = by (blank d) refl (λ z. back_read r pre (d ∷ post) i (i + length r) (Byte d) (Word (pos d)) (Flag true) s b (Word (pos (i + length r))) (Word (pos 1)) (Word (word_of_flag (int_eq (pos d) (pos 32)))) l text2 at refl (omega (arith, end, room)) z)
    where
      turned : reverse (d ∷ r) ≡ reverse r ++ d ∷ []
      turned = reverse-append (d ∷ []) r

      text2 : IsText core.blocks core.statics x (pre ++ (reverse r ++ (d ∷ post)))
      text2 = subst (IsText core.blocks core.statics x) (ap (λ l. pre ++ (l ++ post)) turned ∙ ap (λ l. pre ++ l) (append_assoc (reverse r) (d ∷ []) post)) text

      at_last : slice_get (pre ++ (reverse r ++ (d ∷ post))) (i + length r) ≡ Some d
      at_last = ap (λ l. slice_get l (i + length r)) (sym (append_assoc pre (reverse r) (d ∷ post))) ∙ get_mid (pre ++ reverse r) d post (i + length r) (let z : length (pre ++ reverse r) ≡ length pre + length (reverse r) = length-append pre (reverse r) in let y : length (reverse r) ≡ length r = length-reverse r in omega (arith, z, y, at))

      by : (q : Bool) → blank d ≡ q → ((without_leading_blanks r ≡ [] → ⊥) → Result (reads_signed (reverse (without_leading_blanks r))) (Back (Word (pos (i + length r))) (Word (pos i)) (Byte d) (Word (pos d)) (Flag true) s b (Word (pos (i + length r))) (Word (pos 1)) (Word (word_of_flag (int_eq (pos d) (pos 32)))) l))
          → Result (reads_signed (reverse (cond (blank d) (without_leading_blanks r) (d ∷ r)))) (Back (Word (pos n)) (Word (pos i)) c k t s b e g h l)
      by true q go =
          let w : cond (blank d) (without_leading_blanks r) (d ∷ r) ≡ without_leading_blanks r = ap (λ c. cond c (without_leading_blanks r) (d ∷ r)) q in
          subst (λ l2. Result (reads_signed (reverse l2)) (Back (Word (pos n)) (Word (pos i)) c k t s b e g h l)) (sym w)
          (leads_on (on (gives (Word (pos (i + length r))) (subs n 1 (i + length r) (omega (arith, end)) room)) (on (gets_byte (i + length r) d texts text2 refl at_last) (on (turns (Word (pos d)) refl)
          (on (gives (Flag (nat_le 9 d)) refl) (on (turns (Word (word_of_flag (nat_le 9 d))) refl) (on (gives (Flag (nat_le d 13)) refl) (on (turns (Word (word_of_flag (nat_le d 13))) refl) (on (gives (Word (word_of_flag (nat_le 9 d && nat_le d 13))) (and_is (nat_le 9 d) (nat_le d 13)))
          (on (gives (Flag (int_eq (pos d) (pos 32))) refl) (on (turns (Word (word_of_flag (int_eq (pos d) (pos 32)))) refl) (on (gives (Word (pos 1)) (or_is (nat_le 9 d && nat_le d 13) (int_eq (pos d) (pos 32)) ∙ ap (λ c. Ok (Word (word_of_flag c))) (blank_is d ∙ q)))
          (on (gives (Flag true) (holds_is true)) (many 1 of refl (simp (is_set text))))))))))))))) (reads_signed (reverse (without_leading_blanks r))) (go (λ z. left (w ∙ z))))
      by false q go =
          let w : cond (blank d) (without_leading_blanks r) (d ∷ r) ≡ d ∷ r = ap (λ c. cond c (without_leading_blanks r) (d ∷ r)) q in
          subst (λ l2. Result (reads_signed (reverse l2)) (Back (Word (pos n)) (Word (pos i)) c k t s b e g h l)) (sym w)
          (leads_on (on (gives (Word (pos (i + length r))) (subs n 1 (i + length r) (omega (arith, end)) room)) (on (gets_byte (i + length r) d texts text2 refl at_last) (on (turns (Word (pos d)) refl)
          (on (gives (Flag (nat_le 9 d)) refl) (on (turns (Word (word_of_flag (nat_le 9 d))) refl) (on (gives (Flag (nat_le d 13)) refl) (on (turns (Word (word_of_flag (nat_le d 13))) refl) (on (gives (Word (word_of_flag (nat_le 9 d && nat_le d 13))) (and_is (nat_le 9 d) (nat_le d 13)))
          (on (gives (Flag (int_eq (pos d) (pos 32))) refl) (on (turns (Word (word_of_flag (int_eq (pos d) (pos 32)))) refl) (on (gives (Word (pos 0)) (or_is (nat_le 9 d && nat_le d 13) (int_eq (pos d) (pos 32)) ∙ ap (λ c. Ok (Word (word_of_flag c))) (blank_is d ∙ q)))
          (on (gives (Flag false) (holds_is false)) (many 1 of refl (simp (is_set text))))))))))))))) (reads_signed (reverse (d ∷ r))) (whole (reverse (d ∷ r)) refl))
        where
          whole : (xs : List ℕ) → reverse (d ∷ r) ≡ xs → Result (reads_signed xs) (In minus 4 (V (Word (pos n)) (Word (pos i)) (Byte d) (Word (pos d)) (Flag false) s b (Word (pos (i + length r))) (Word (pos 0)) (Word (word_of_flag (int_eq (pos d) (pos 32)))) l))
          whole [] same = absurd (let z : length (reverse (d ∷ r)) ≡ suc (length r) = length-reverse (d ∷ r) in let y : length (reverse (d ∷ r)) ≡ 0 = ap length same in omega (arith, z, y))
          whole (j ∷ xs) same = sign_read j xs pre post i n (Byte d) (Word (pos d)) (Flag false) s b (Word (pos (i + length r))) (Word (pos 0)) (Word (word_of_flag (int_eq (pos d) (pos 32)))) l (subst (λ l2. IsText core.blocks core.statics x (pre ++ (l2 ++ post))) same text) at
              (let z : length (reverse (d ∷ r)) ≡ suc (length r) = length-reverse (d ∷ r) in let y : length (reverse (d ∷ r)) ≡ length (j ∷ xs) = ap length same in omega (arith, end, z, y)) room

  -- ---- blanks at the beginning

  abbrev Front : Value → Value → Value → Value → Value → Value → Value → Value → Value → Value → Value → State
  Front n i c k t s b e g h l = In (at_end 13 2) 1 (V n i c k t s b e g h l)

  front_read : (xs pre : List ℕ) (i n : ℕ) (c k t s b e g h l : Value) → IsText core.blocks core.statics x (pre ++ xs) → i ≡ length pre → n ≡ i + length xs → n < 2 ^ 63 → Result (reads_signed (trimmed xs)) (Front (Word (pos n)) (Word (pos i)) c k t s b e g h l)
  unfolding byte_at between asked blank_ops failing
  front_read [] pre i n c k t s b e g h l text at end room = leads_on (on (gives (Flag true) (reaches i n true (let z : n ≤ i = omega (arith, end) in grind (arith, nat_tests, z)))) (many 1 of refl refl)) None (no_number _)
  front_read (d ∷ xs) pre i n c k t s b e g h l text at end room = by (blank d) refl
      (front_read xs (pre ++ d ∷ []) (i + 1) n (Byte d) (Word (pos d)) (Flag true) s b (Word (pos (i + 1))) (Word (pos 1)) (Word (word_of_flag (int_eq (pos d) (pos 32)))) l (shifted pre d xs text) (let long : length (pre ++ d ∷ []) ≡ length pre + 1 = length-append pre (d ∷ []) in omega (arith, at, long)) (omega (arith, end)) room)
    where
      inside : binary_of binary.Ge (Word (pos i)) (Word (pos n)) ≡ Ok (Flag false)
      inside = reaches i n false (let z : i < n = omega (arith, end) in grind (arith, nat_tests, z))

      by : (q : Bool) → blank d ≡ q → Result (reads_signed (trimmed xs)) (Front (Word (pos n)) (Word (pos (i + 1))) (Byte d) (Word (pos d)) (Flag true) s b (Word (pos (i + 1))) (Word (pos 1)) (Word (word_of_flag (int_eq (pos d) (pos 32)))) l)
          → Result (reads_signed (reverse (without_leading_blanks (reverse (cond (blank d) (without_leading_blanks xs) (d ∷ xs)))))) (Front (Word (pos n)) (Word (pos i)) c k t s b e g h l)
      by true q go = subst (λ c2. Result (reads_signed (reverse (without_leading_blanks (reverse (cond c2 (without_leading_blanks xs) (d ∷ xs)))))) (Front (Word (pos n)) (Word (pos i)) c k t s b e g h l)) (sym q)
          (leads_on (on (gives (Flag false) inside) (on (many 1 of refl (simp (is_set text))) (on (gets_byte i d texts text refl (get_mid pre d xs i at)) (on (turns (Word (pos d)) refl)
          (on (gives (Flag (nat_le 9 d)) refl) (on (turns (Word (word_of_flag (nat_le 9 d))) refl) (on (gives (Flag (nat_le d 13)) refl) (on (turns (Word (word_of_flag (nat_le d 13))) refl) (on (gives (Word (word_of_flag (nat_le 9 d && nat_le d 13))) (and_is (nat_le 9 d) (nat_le d 13)))
          (on (gives (Flag (int_eq (pos d) (pos 32))) refl) (on (turns (Word (word_of_flag (int_eq (pos d) (pos 32)))) refl) (on (gives (Word (pos 1)) (or_is (nat_le 9 d && nat_le d 13) (int_eq (pos d) (pos 32)) ∙ ap (λ c. Ok (Word (word_of_flag c))) (blank_is d ∙ q)))
          (on (gives (Flag true) (holds_is true)) (on (gives (Word (pos (i + 1))) (adds i 1 (omega (arith, end, room)))) (many 1 of refl (simp (is_set text))))))))))))))))) (reads_signed (trimmed xs)) go)
      by false q go = subst (λ c2. Result (reads_signed (reverse (without_leading_blanks (reverse (cond c2 (without_leading_blanks xs) (d ∷ xs)))))) (Front (Word (pos n)) (Word (pos i)) c k t s b e g h l)) (sym q)
          (leads_on (on (gives (Flag false) inside) (on (many 1 of refl (simp (is_set text))) (on (gets_byte i d texts text refl (get_mid pre d xs i at)) (on (turns (Word (pos d)) refl)
          (on (gives (Flag (nat_le 9 d)) refl) (on (turns (Word (word_of_flag (nat_le 9 d))) refl) (on (gives (Flag (nat_le d 13)) refl) (on (turns (Word (word_of_flag (nat_le d 13))) refl) (on (gives (Word (word_of_flag (nat_le 9 d && nat_le d 13))) (and_is (nat_le 9 d) (nat_le d 13)))
          (on (gives (Flag (int_eq (pos d) (pos 32))) refl) (on (turns (Word (word_of_flag (int_eq (pos d) (pos 32)))) refl) (on (gives (Word (pos 0)) (or_is (nat_le 9 d && nat_le d 13) (int_eq (pos d) (pos 32)) ∙ ap (λ c. Ok (Word (word_of_flag c))) (blank_is d ∙ q)))
          (on (gives (Flag false) (holds_is false)) (on (gives (Word (pos (i + 1))) (adds i 1 (omega (arith, end, room)))) (many 1 of refl (simp (is_set text))))))))))))))))) (reads_signed (reverse (without_leading_blanks (reverse (d ∷ xs)))))
          (back_read (reverse (d ∷ xs)) pre [] i n (Byte d) (Word (pos d)) (Flag false) s b (Word (pos (i + 1))) (Word (pos 0)) (Word (word_of_flag (int_eq (pos d) (pos 32)))) l
          (subst (λ l2. IsText core.blocks core.statics x (pre ++ l2)) (sym (append-nil (reverse (reverse (d ∷ xs))) ∙ reverse-reverse (d ∷ xs))) text) at (let z : length (reverse (d ∷ xs)) ≡ suc (length xs) = length-reverse (d ∷ xs) in omega (arith, end, z)) room
          (λ z. some_left (reverse xs) d q (ap without_leading_blanks (sym (reverse-append (d ∷ []) xs)) ∙ z))))

  -- ---- the whole

  pub text_read : (bytes : List ℕ) → IsText core.blocks core.statics x bytes → Result (reads_signed (trimmed bytes)) (Calling f (x ∷ []) waits core)
  unfolding failing
  text_read bytes text = leads_on (on (enter of refl) (on (gets_length texts text) (many 1 of refl (simp (is_set text))))) (reads_signed (trimmed bytes))
      (front_read bytes [] 0 (length bytes) Unset Unset Unset Unset Unset Unset Unset Unset Unset text refl (omega arith) text.short)
