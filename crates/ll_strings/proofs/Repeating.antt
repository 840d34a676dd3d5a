-- A string so many times.
use Rattle.std.proofs.Common.{◌≡◌, ◌<◌, ◌≤◌, ℕ, zero, suc, ◌+◌, ◌*◌, ◌^◌, Bool, true, false, List, [], ◌∷◌, ◌++◌, length, map, Option, Some, Ok, ℤ, pos, negsuc, ◌*ℤ◌, refl, sym, ap, ◌∙◌, subst, arith, append_assoc, length-append}
use Rattle.std.proofs.Math.ListN.{length-replicate, replicate-append-replicate}
use Rattle.std.proofs.lemmas.Bool.Decides.{nat_tests}
use Rattle.std.proofs.lemmas.List.{append-nil, length-map}
use Rattle.std.specs.List.{repeat}
use Rattle.std.specs.Prelude.{slice_get, nat_lt, not, replicate, int_lt}
use Rattle.rpy_tree.specs.Value.{Text}
use Rattle.rpy_tree.specs.declared.syntax.BinOp.TheVariants as bin
use Rattle.rpy_meaning.specs.declared.row.RowOp.TheVariants as row
use Rattle.rpy_meaning.specs.Sequences.{count}
use Rattle.rpy_meaning.specs.World.{paying, new_text, give}
use Rattle.csub_tree.specs.State.{Value, Unset, Word, Byte, Flag, Ptr, Block, Core}
use Rattle.csub_tree.specs.Layout.{Shape}
use Rattle.csub_tree.specs.Operation.{binary_of}
use Rattle.csub_tree.specs.declared.tree.CBinary.TheVariants.{Mul, MulOvf}
use Rattle.ll_code.specs.State.{Frame, Calling, At, Returning}
use Rattle.ll_code.specs.declared.program.LlType.TheVariants as type
use Rattle.ll_code.specs.declared.program.LlProgram.{LlProgram}
use Rattle.ll_leads.specs.Path.{Leads}
use Rattle.ll_leads.specs.Memory.{forgotten}
use Rattle.ll_leads.proofs.Ways.{Comes, on, many, enter, gives, pays, makes, call}
use Rattle.ll_texts.specs.Texts.{IsText, AreBytes, HasText}
use Rattle.ll_texts.specs.Stands.{word, text, missing}
use Rattle.ll_texts.specs.Follows.{Follows, Gave, Lacked}
use Rattle.ll_texts.proofs.Reading.{is_set, is_there, gets_length}
use Rattle.ll_texts.proofs.Writing.{part_block, writes_length}
use Rattle.ll_texts.proofs.Numbers.{less_true, less_false, adds, wrap_count}
use Rattle.ll_texts.proofs.Following.{failed}
use Rattle.ll_helpers.specs.Loops.{copy_bytes, repeat_bytes, repeat_bytes_test}
use Rattle.ll_helpers.specs.StringsMake.{str_mul_pays, str_mul_makes, str_mul_lengths}
use Rattle.ll_build.specs.declared.needs.Helper.TheVariants as helper
use Rattle.ll_build.specs.declared.needs.Shared.TheVariants as shared
use Rattle.ll_strings.specs.Laws.{IsTwo}
use Rattle.ll_strings.proofs.Adding.{bytes_append}
use Rattle.ll_strings.proofs.Copying.{copies}
use Rattle.ll_strings.proofs.Parts.{part_at, bytes_both}
use Rattle.ll_strings.proofs.Results.{by_paying, gave_new, stops, hands}

-- ---- repeated bytes

pub length_repeat : (n : ℕ) (a : List ℕ) → length (repeat n a) ≡ length a * n
length_repeat zero a = omega arith
length_repeat (suc n) a = length-append a (repeat n a) ∙ (let ih : length (repeat n a) ≡ length a * n = length_repeat n a in let e : length a * suc n ≡ length a + length a * n = mul_more (length a) n in omega (arith, ih, e))
  where
    mul_more : (m n : ℕ) → m * suc n ≡ m + m * n
    mul_more m n = grind arith

bytes_repeat : (n : ℕ) (a : List ℕ) → AreBytes a → AreBytes (repeat n a)
bytes_repeat zero a h = tt
bytes_repeat (suc n) a h = bytes_both a (repeat n a) h (bytes_repeat n a h)

repeat_nothing : (n : ℕ) → repeat {A = ℕ} n [] ≡ []
repeat_nothing zero = refl
repeat_nothing (suc n) = repeat_nothing n

-- ---- the loop

module _ (p : LlProgram) (args : List (List ℕ)) (again copy : ℕ) (of : slice_get p.graphs again ≡ Some (repeat_bytes copy)) (copy_of : slice_get p.graphs copy ≡ Some copy_bytes) (texts : HasText p) (frames : List Frame) (core : Core) (bs : List (Option Block)) (x : Value) (a : List ℕ) (t : IsText bs core.statics x a) (fields : List Value) (long : 0 < length a) where
  abbrev filled : List Value → List (Option Block)
  filled items = bs ++ Some (part_block fields items) ∷ []

  repeats : (k : ℕ) (before : List Value) (i rest n : ℕ) (c : Value) → i ≡ length before → rest ≡ length a * k → n ≡ i + rest → n < 2 ^ 63
      → Comes p args (At repeat_bytes_test.ops repeat_bytes_test.exit frames (record core { function = again; block = 1; at = 0; vars = x ∷ Ptr (length bs) ∷ Word (pos (length a)) ∷ Word (pos n) ∷ Word (pos i) ∷ c ∷ []; blocks = filled (before ++ replicate rest Unset) }))
      [] Unset frames (record core { blocks = filled (before ++ map Byte (repeat k a)) })
  repeats zero before i rest n c ei er en nb =
      let none : rest ≡ 0 = omega (arith, er) in
      record {
        end = _;
        same = ap (λ r. record core { function = 0; block = 0; at = 0; vars = []; blocks = filled (before ++ replicate r Unset) }) none;
        leads = on (gives (Flag false) (less_false i n (omega (arith, en, none)))) (many 2 of refl refl);
      }
  repeats (suc k) before i rest n c ei er en nb =
      let la : ℕ = length a in
      let r : ℕ = la * k in
      let two : rest ≡ la + r = (let e : la * suc k ≡ la + la * k = grind arith in omega (arith, er, e)) in
      let next : List Value = before ++ map Byte a in
      let ih = repeats k next (i + la) r n (Flag true) (omega (arith, ei, length-append before (map Byte a), length-map a Byte)) refl (omega (arith, en, two)) nb in
      let start : filled (before ++ replicate rest Unset) ≡ filled (before ++ (replicate la Unset ++ replicate r Unset)) = ap (λ m. filled (before ++ replicate m Unset)) two ∙ ap (λ l. filled (before ++ l)) (sym (replicate-append-replicate la r Unset)) in
      let after : filled (before ++ (map Byte a ++ replicate r Unset)) ≡ filled (next ++ replicate r Unset) = ap filled (sym (append_assoc before (map Byte a) (replicate r Unset))) in
      let whole : next ++ map Byte (repeat k a) ≡ before ++ map Byte (repeat (suc k) a) = append_assoc before (map Byte a) (map Byte (repeat k a)) ∙ ap (λ l. before ++ l) (sym (bytes_append a (repeat k a))) in
      record {
        end = ih.end;
        same = ih.same ∙ ap (λ l. record core { function = 0; block = 0; at = 0; vars = []; blocks = filled l }) whole;
        leads = on (gives (Flag true) (less_true i n (omega (arith, en, two, long)))) (on (many 1 of refl (simp (is_set t)))
            (on (call (simp (is_set t)) (λ waits. copies p args copy copy_of texts waits _ bs x fields [] a [] before (replicate la Unset) (replicate r Unset) 0 i la start (subst (IsText bs core.statics x) (sym (append-nil a)) t) (length-replicate la Unset) refl ei refl (omega (arith, t.short)) (omega (arith, en, two, nb))))
            (on (gives (Word (pos (i + la))) (adds i la (omega (arith, en, two, nb)))) (on (many 1 of refl (simp (is_set t)))
            (subst (λ l. Leads p args 0 (At repeat_bytes_test.ops repeat_bytes_test.exit frames (record core { function = again; block = 1; at = 0; vars = x ∷ Ptr (length bs) ∷ Word (pos la) ∷ Word (pos n) ∷ Word (pos (i + la)) ∷ Flag true ∷ []; blocks = l })) [] (Returning Unset frames ih.end)) (sym after) ih.leads)))));
      }

  pub repeats_all : (k n : ℕ) → n ≡ length a * k → n < 2 ^ 63 → core.blocks ≡ filled (replicate n Unset)
      → Comes p args (Calling again (x ∷ Ptr (length bs) ∷ Word (pos (length a)) ∷ Word (pos n) ∷ []) frames core) [] Unset frames (record core { blocks = filled (map Byte (repeat k a)) })
  repeats_all k n en nb at =
      let c = repeats k [] 0 n n Unset refl en (omega arith) nb in
      record {
        end = c.end;
        same = c.same;
        leads = on (enter of refl) (on (many 1 of refl (simp (is_set t))) (subst (λ l. Leads p args 0 (At repeat_bytes_test.ops repeat_bytes_test.exit frames (record core { function = again; block = 1; at = 0; vars = x ∷ Ptr (length bs) ∷ Word (pos (length a)) ∷ Word (pos n) ∷ Word (pos 0) ∷ Unset ∷ []; blocks = l })) [] (Returning Unset frames c.end)) (sym at) c.leads));
      }

-- ---- the operation

times_is : (m n : ℕ) → pos m *ℤ pos n ≡ pos (m * n)
times_is m n = refl

overflows : (m n : ℕ) (c : Bool) → nat_lt (m * n) (2 ^ 63) ≡ c → binary_of MulOvf (Word (pos m)) (Word (pos n)) ≡ Ok (Flag (not c))
overflows m n c e = ap (λ b. Ok (Flag (not b))) e

product_is : (m n : ℕ) → m * n < 2 ^ 63 → binary_of Mul (Word (pos m)) (Word (pos n)) ≡ Ok (Word (pos (m * n)))
product_is m n h = ap (λ z. Ok (Word z)) (wrap_count (m * n) h)

has_bytes : (a : List ℕ) (m : ℕ) → 2 ≤ length a * suc m → 0 < length a
has_bytes [] m h = absurd (omega (arith, h))
has_bytes (c ∷ a) m h = omega arith

-- no byte or one is a part of the string
record Front (n : ℕ) (a : List ℕ) : Type 0 where
  pub post : List ℕ
  pub is : repeat n a ++ post ≡ a

front : (m : ℕ) (a : List ℕ) → length a * suc m < 2 → Front (suc m) a
front m [] h = record { post = []; is = ap (λ l. l ++ []) (repeat_nothing (suc m)) }
front zero (c ∷ []) h = record { post = []; is = refl }
front (suc m) (c ∷ []) h = absurd (omega (arith, h))
front m (c ∷ d ∷ a) h = absurd (let e : length (c ∷ d ∷ a) * suc m ≡ length (c ∷ d ∷ a) + length (c ∷ d ∷ a) * m = grind arith in omega (arith, h, e))

pub mul_is : (site : Option ℕ) → IsTwo helper.StrMul (type.Ptr 0) type.Signed (type.Ptr 0) (row.Binary bin.Mul site)
mul_is site program p args numbers f frames core w h left x y v u missing (word n fn) = failed (on (enter h.graph refl) (many 2 h.graph refl refl)) refl
mul_is site program p args numbers f frames core w h left x y v u (text x2 a t) (word n fn) = by n
  where
    none_at_all : (n : ℤ) → int_lt n (pos 1) ≡ true → Follows p args (Calling f (x ∷ Word n ∷ []) frames core) frames core (type.Ptr 0) w (paying (1 + length a * 0) (give (Text [])) w)
    none_at_all n few =
        let next : Core = record core { function = f; block = 3; at = 0; vars = x ∷ Word n ∷ Flag true ∷ Word (pos (length a)) ∷ Unset ∷ Unset ∷ [] } in
        subst (λ c. Follows p args (Calling f (x ∷ Word n ∷ []) frames core) frames core (type.Ptr 0) w (paying (1 + c) (give (Text [])) w)) (let e : 0 ≡ length a * 0 = omega arith in e)
        (hands w (new_text [] w)
        (on (enter h.graph refl) (on (gives (Flag false) (is_there t)) (on (many 1 h.graph refl (simp (is_set t))) (on (gets_length h.text t) (on (gives (Flag true) (ap (λ c. Ok (Flag c)) few)) (many 1 h.graph refl (simp (is_set t))))))))
        refl (simp (is_set t)) (λ n k. k) (λ n k. k) (λ v. refl)
        (λ waits. part_at p args numbers.string_part numbers.table numbers.copy_bytes (h.shared shared.StringPart refl) (h.shared shared.CopyBytes refl) h.text waits next w x [] [] a 0 0 refl refl left (h.statics refl) t))

    to_lengths : (m : ℕ) → Leads p args 0 (Calling f (x ∷ Word (pos (suc m)) ∷ []) frames core) [] (At str_mul_lengths.ops str_mul_lengths.exit frames (record core { function = f; block = 4; at = 0; vars = x ∷ Word (pos (suc m)) ∷ Flag false ∷ Word (pos (length a)) ∷ Unset ∷ Unset ∷ [] }))
    to_lengths m = on (enter h.graph refl) (on (gives (Flag false) (is_there t)) (on (many 1 h.graph refl (simp (is_set t))) (on (gets_length h.text t) (on (gives (Flag false) (less_false (suc m) 1 (omega arith))) (many 1 h.graph refl (simp (is_set t)))))))

    to_size : (m : ℕ) (c : Bool) → length a * suc m < 2 ^ 63 → nat_lt (length a * suc m) 2 ≡ c → Leads p args 0 (Calling f (x ∷ Word (pos (suc m)) ∷ []) frames core) [] (At [] str_mul_pays.exit frames (record core { function = f; block = 6; at = 2; vars = x ∷ Word (pos (suc m)) ∷ Flag c ∷ Word (pos (length a)) ∷ Word (pos (length a * suc m)) ∷ Unset ∷ [] }))
    to_size m c small e = on (to_lengths m) (on (gives (Flag false) (overflows (length a) (suc m) true (grind (arith, nat_tests, small)))) (on (many 1 h.graph refl (simp (is_set t)))
        (on (gives (Word (pos (length a * suc m))) (product_is (length a) (suc m) small)) (gives (Flag c) (ap (λ t. Ok (Flag t)) e)))))

    short : (m : ℕ) → length a * suc m < 2 ^ 63 → nat_lt (length a * suc m) 2 ≡ true → Follows p args (Calling f (x ∷ Word (pos (suc m)) ∷ []) frames core) frames core (type.Ptr 0) w (paying (1 + length a * suc m) (give (Text (repeat (suc m) a))) w)
    short m small e =
        let fr = front m a (grind (arith, nat_tests, e)) in
        let next : Core = record core { function = f; block = 7; at = 0; vars = x ∷ Word (pos (suc m)) ∷ Flag true ∷ Word (pos (length a)) ∷ Word (pos (length a * suc m)) ∷ Unset ∷ [] } in
        subst (λ c. Follows p args (Calling f (x ∷ Word (pos (suc m)) ∷ []) frames core) frames core (type.Ptr 0) w (paying (1 + c) (give (Text (repeat (suc m) a))) w)) (length_repeat (suc m) a)
        (hands w (new_text (repeat (suc m) a) w)
        (on (to_size m true small e) (many 1 h.graph refl (simp (is_set t))))
        refl (simp (is_set t)) (λ n k. k) (λ n k. k) (λ v. refl)
        (λ waits. part_at p args numbers.string_part numbers.table numbers.copy_bytes (h.shared shared.StringPart refl) (h.shared shared.CopyBytes refl) h.text waits next w x [] (repeat (suc m) a) fr.post 0 (length a * suc m) refl (sym (length_repeat (suc m) a)) left (h.statics refl)
        (subst (IsText core.blocks core.statics x) (sym fr.is) t)))

    to_makes : (m : ℕ) → length a * suc m < 2 ^ 63 → nat_lt (length a * suc m) 2 ≡ false → Leads p args 0 (Calling f (x ∷ Word (pos (suc m)) ∷ []) frames core) [] (At (str_mul_makes numbers.repeat_bytes).ops (str_mul_makes numbers.repeat_bytes).exit frames (record core { function = f; block = 8; at = 0; vars = x ∷ Word (pos (suc m)) ∷ Flag false ∷ Word (pos (length a)) ∷ Word (pos (length a * suc m)) ∷ Unset ∷ [] }))
    to_makes m small e = on (to_size m false small e) (many 1 h.graph refl (simp (is_set t)))

    makes_lacks : (m : ℕ) → length a * suc m < 2 ^ 63 → nat_lt (length a * suc m) 2 ≡ false → (n : ℕ) → core.steps ≡ n → n < 1 + length a * suc m → Lacked p args (Calling f (x ∷ Word (pos (suc m)) ∷ []) frames core) core
    makes_lacks m small e zero q k = stops 1 (to_makes m small e) refl (omega (arith, q)) refl (λ b k. k)
    makes_lacks m small e (suc n) q k = stops (length a * suc m) (on (to_makes m small e) (pays 1 n refl (omega (arith, q)))) refl (omega (arith, k)) refl (λ b k. k)

    makes_paid : (m : ℕ) → length a * suc m < 2 ^ 63 → nat_lt (length a * suc m) 2 ≡ false → (n : ℕ) → core.steps ≡ 1 + length a * suc m + n → Gave p args (Calling f (x ∷ Word (pos (suc m)) ∷ []) frames core) frames core (type.Ptr 0) w (Text (repeat (suc m) a)) (record w { left = n })
    makes_paid m small e n q =
        let k : ℕ = length a * suc m in
        let big : 2 ≤ k = grind (arith, nat_tests, e) in
        let bs : List (Option Block) = core.blocks in
        let long : 0 < length a = has_bytes a m big in
        gave_new n (repeat (suc m) a)
        (on (to_makes m small e) (on (pays 1 (k + n) refl (omega (arith, q))) (on (pays k n refl refl)
        (on (makes k 1 refl (ap (λ (s : Shape). s.size) h.text)) (on (writes_length bs Unset (replicate k Unset) (pos k) h.text refl refl refl)
        (on (call (simp (is_set t)) (λ waits. repeats_all p args numbers.repeat_bytes numbers.copy_bytes (h.shared shared.RepeatBytes refl) (h.shared shared.CopyBytes refl) h.text waits _ bs x a t (Word (pos k) ∷ []) long (suc m) k refl small refl))
        (many 1 h.graph refl refl)))))))
        (ap (λ i. forgotten (record core { blocks = bs ++ Some (part_block (Word (pos i) ∷ []) (map Byte (repeat (suc m) a))) ∷ []; steps = n })) (sym (length_repeat (suc m) a)))
        (omega (arith, length_repeat (suc m) a, small)) (bytes_repeat (suc m) a t.small)

    some : (m : ℕ) (c : Bool) → nat_lt (length a * suc m) (2 ^ 63) ≡ c → Follows p args (Calling f (x ∷ Word (pos (suc m)) ∷ []) frames core) frames core (type.Ptr 0) w (paying (1 + length a * suc m) (give (Text (repeat (suc m) a))) w)
    some m false e =
        let big : 2 ^ 63 ≤ length a * suc m = grind (arith, nat_tests, e) in
        by_paying frames (type.Ptr 0) w (1 + length a * suc m) (give (Text (repeat (suc m) a)))
        (λ k. stops 4611686018427387904 (on (to_lengths m) (on (gives (Flag true) (overflows (length a) (suc m) false e)) (many 1 h.graph refl refl))) refl (omega (arith, h.small)) refl (λ b k. k))
        (λ n k. absurd (omega (arith, k, left, h.small, big)))
    some m true e = sized (nat_lt (length a * suc m) 2) refl
      where
        small : length a * suc m < 2 ^ 63
        small = grind (arith, nat_tests, e)

        sized : (c : Bool) → nat_lt (length a * suc m) 2 ≡ c → Follows p args (Calling f (x ∷ Word (pos (suc m)) ∷ []) frames core) frames core (type.Ptr 0) w (paying (1 + length a * suc m) (give (Text (repeat (suc m) a))) w)
        sized true q = short m small q
        sized false q = by_paying frames (type.Ptr 0) w (1 + length a * suc m) (give (Text (repeat (suc m) a))) (λ k. makes_lacks m small q core.steps refl (omega (arith, k, left))) (λ n k. makes_paid m small q n (omega (arith, k, left)))

    by : (n : ℤ) → Follows p args (Calling f (x ∷ Word n ∷ []) frames core) frames core (type.Ptr 0) w (paying (1 + length a * count n) (give (Text (repeat (count n) a))) w)
    by (negsuc m) = none_at_all (negsuc m) refl
    by (pos zero) = none_at_all (pos 0) refl
    by (pos (suc m)) = some m (nat_lt (length a * suc m) (2 ^ 63)) refl
