-- The functions that print, as the machine runs them.
use Rattle.std.proofs.Common.{◌≡◌, ℕ, zero, suc, ◌+◌, ◌-◌, ◌*◌, ◌/◌, ◌%◌, ◌^◌, ◌<◌, ◌≤◌, ◌⊎◌, Bool, true, false, cond, List, [], ◌∷◌, ◌++◌, length, take, Option, Some, None, refl, sym, ap, ◌∙◌, arith, append_assoc, inl, inr}
use Rattle.std.specs.Prelude.{ℤ, pos, negsuc, neg_ℤ, ◌+ℤ◌, ◌-ℤ◌, int_lt, nat_lt, slice_get}
use Rattle.std.proofs.lemmas.Bool.{cases_lt}
use Rattle.std.proofs.lemmas.Bool.Decides.{nat_tests}
use Rattle.std.proofs.Math.Nat.{pow-suc}
use Rattle.std.proofs.Math.Seq.{take-append_seam, get_or-append_seam}
use Rattle.std.proofs.lemmas.List.{length-append}
use Rattle.std.specs.Ordering.{int_eq}
use Rattle.std.specs.Fmt.{signed_decimal}
use Rattle.rpy_base.specs.Word.{wrap, floor_quotient, floor_rest}
use Rattle.csub_tree.specs.State.{Value, Unset, Word, Flag, Caller, Core, Onward, Puts, Stuck}
use Rattle.csub_tree.specs.declared.stuck.StuckReason.TheVariants.{Word as BadWord}
use Rattle.csub_tree.specs.Machine.{step}
use Rattle.csub_tree.specs.Statement.{last_of, back_to}
use Rattle.csub_tree.specs.declared.tree.CFile.{CFile}
use Rattle.first_lower.specs.Lower.{Code, file_of}
use Rattle.first_lower.proofs.Goes.{Goes, then_goes, goes_on, puts, to_text}
use Rattle.first_lower.proofs.Digits.{digits_of, one_digit, more_digits, all_digits}
use Rattle.first_lower.proofs.Quotients.{wrap_pos, rest_pos, rest_neg, minus_neg}

-- a number that a word holds
abbrev pub IsWord : ℤ → Type 0
IsWord (pos n) = n < 2 ^ 63
IsWord (negsuc n) = n < 2 ^ 63

-- a state in which this function runs at this place, with these variables and callers
abbrev pub frame : Core → ℕ → ℕ → ℕ → List Value → List Caller → Core
frame c f b i vars callers = record c { function = f; block = b; at = i; vars = vars; callers = callers }

-- a caller that wants no result
abbrev pub waiting : ℕ → ℕ → ℕ → List Value → Caller
waiting f b i vars = record { function = f; block = b; at = i; vars = vars; into = None }

get_seam : {A : Type 0} (xs : List A) (y : A) → slice_get (xs ++ y ∷ []) (length xs) ≡ Some y
get_seam [] y = refl
get_seam (x ∷ xs) y = get_seam xs y

before_last : (cs : List Caller) (k : Caller) → length (cs ++ k ∷ []) - 1 ≡ length cs
before_last cs k = omega (arith, length-append cs (k ∷ []))

pub last_is : (cs : List Caller) (k : Caller) → last_of (cs ++ k ∷ []) ≡ Some k
last_is cs k = ap (slice_get (cs ++ k ∷ [])) (before_last cs k) ∙ get_seam cs k

pub rest_is : (cs : List Caller) (k : Caller) → take (length (cs ++ k ∷ []) - 1) (cs ++ k ∷ []) ≡ cs
rest_is cs k = ap (λ n. take n (cs ++ k ∷ [])) (before_last cs k) ∙ take-append_seam cs (k ∷ [])

module _ (args : List (List ℕ)) (name : List ℕ) (code : Code) where
  abbrev pub file : CFile
  file = file_of name code

  module _ (c : Core) where
    -- back to the caller, which wants no result
    backed : (g d j f b i : ℕ) (own vars : List Value) (cs : List Caller)
        → back_to (frame c g d j own (cs ++ waiting f b i vars ∷ [])) Unset (last_of (cs ++ waiting f b i vars ∷ [])) ≡ Onward (frame c f b i vars cs)
    backed g d j f b i own vars cs =
        ap (back_to (frame c g d j own (cs ++ waiting f b i vars ∷ [])) Unset) (last_is cs (waiting f b i vars))
        ∙ ap (λ rest. Onward (frame c f b i vars rest)) (rest_is cs (waiting f b i vars))

    module _ (f b i : ℕ) (vars : List Value) (cs : List Caller) where
      abbrev callers : List Caller
      callers = cs ++ waiting f b i vars ∷ []

      -- a byte that is put, and the return
      put_last : (g d : ℕ) (own : List Value) (s : List ℕ) (digit : ℕ)
          → step file args (frame c g d 2 own callers) ≡ Puts digit (frame c g d 3 own callers)
          → step file args (frame c g d 3 own callers) ≡ back_to (frame c g d 3 own callers) Unset (last_of callers)
          → Goes file args (frame c g d 2 own callers) s (frame c f b i vars cs) (s ++ digit ∷ [])
      put_last g d own s digit p q =
          then_goes file args _ _ _ _ _ _ (puts file args _ _ s digit p) (goes_on file args _ _ _ (q ∙ backed g d 3 f b i own vars cs))

      small_byte : (n : ℕ) → nat_lt (48 + n % 10) 256 ≡ true
      small_byte n = grind (arith, nat_tests)

      -- the last digit of a word that is not below zero
      abbrev with_value : ℕ → Value → ℤ → List Value
      with_value n x z = Word (pos n) ∷ x ∷ Word z ∷ []

      put_digit : (n : ℕ) (x : Value) (s : List ℕ)
          → Goes file args (frame c 0 2 2 (with_value n x (pos (48 + n % 10))) callers) s (frame c f b i vars cs) (s ++ (48 + n % 10) ∷ [])
      put_digit n x s = put_last 0 2 _ s (48 + n % 10)
          (ap (λ t. cond t (Puts (48 + n % 10) (frame c 0 2 3 (with_value n x (pos (48 + n % 10))) callers)) (Stuck BadWord)) (small_byte n)) refl

      last_digit : (n : ℕ) (x y : Value) (s : List ℕ)
          → Goes file args (frame c 0 2 0 (Word (pos n) ∷ x ∷ y ∷ []) callers) s (frame c f b i vars cs) (s ++ (48 + n % 10) ∷ [])
      last_digit n x y s =
          let rest : step file args (frame c 0 2 0 (Word (pos n) ∷ x ∷ y ∷ []) callers) ≡ Onward (frame c 0 2 1 (with_value n x (pos (n % 10))) callers)
          = ap (λ z. Onward (frame c 0 2 1 (with_value n x z) callers)) (rest_pos n) in
          let sum : wrap (pos (n % 10) +ℤ pos 48) ≡ pos (48 + n % 10)
          = (let e : n % 10 + 48 ≡ 48 + n % 10 = omega arith in ap (λ m. wrap (pos m)) e) ∙ wrap_pos (48 + n % 10) (omega arith) in
          let digit : step file args (frame c 0 2 1 (with_value n x (pos (n % 10))) callers) ≡ Onward (frame c 0 2 2 (with_value n x (pos (48 + n % 10))) callers)
          = ap (λ z. Onward (frame c 0 2 2 (with_value n x z) callers)) sum in
          then_goes file args _ _ _ _ _ _ (goes_on file args _ _ s rest)
          (then_goes file args _ _ _ _ _ _ (goes_on file args _ _ s digit) (put_digit n x s))

      -- the first block goes on to the last one, or to that for the digits before
      abbrev first_at : ℕ → ℕ → ℕ → Bool → Core
      first_at n d j t = frame c 0 d j (Word (pos n) ∷ Flag t ∷ Unset ∷ []) callers

      chosen : (n : ℕ) (t : Bool) (s : List ℕ) → int_lt (pos n) (pos 10) ≡ t
          → Goes file args (frame c 0 0 0 (Word (pos n) ∷ Unset ∷ Unset ∷ []) callers) s (first_at n (cond t 2 1) 0 t) s
      chosen n t s e =
          then_goes file args _ _ _ _ _ _ (goes_on file args _ (first_at n 0 1 t) s (ap (λ t. Onward (first_at n 0 1 t)) e))
          (goes_on file args (first_at n 0 1 t) (first_at n (cond t 2 1) 0 t) s refl)

      few : (n : ℕ) (s : List ℕ) → n < 10
          → Goes file args (frame c 0 0 0 (Word (pos n) ∷ Unset ∷ Unset ∷ []) callers) s (frame c f b i vars cs) (s ++ (48 + n % 10) ∷ [])
      few n s small =
          let e : int_lt (pos n) (pos 10) ≡ true = grind (arith, nat_tests) in
          then_goes file args _ _ _ _ _ _ (chosen n true s e) (last_digit n (Flag true) Unset s)

      -- the call for the digits before the last
      abbrev calling : ℕ → List Value
      calling n = Word (pos n) ∷ Flag false ∷ Word (pos (n / 10)) ∷ []

      into_digits : (n : ℕ) (s : List ℕ) → 10 ≤ n → n < 2 ^ 63
          → Goes file args (frame c 0 0 0 (Word (pos n) ∷ Unset ∷ Unset ∷ []) callers) s
          (frame c 0 0 0 (Word (pos (n / 10)) ∷ Unset ∷ Unset ∷ []) (callers ++ waiting 0 1 2 (calling n) ∷ [])) s
      into_digits n s large small =
          let e : int_lt (pos n) (pos 10) ≡ false = grind (arith, nat_tests) in
          let q : step file args (first_at n 1 0 false) ≡ Onward (frame c 0 1 1 (calling n) callers)
          = ap (λ z. Onward (frame c 0 1 1 (Word (pos n) ∷ Flag false ∷ Word z ∷ []) callers)) (wrap_pos (n / 10) (omega arith)) in
          then_goes file args _ _ _ _ _ _ (chosen n false s e)
          (then_goes file args _ _ _ _ _ _ (goes_on file args _ _ s q) (goes_on file args _ _ s refl))

      after_digits : (n : ℕ) (s : List ℕ)
          → Goes file args (frame c 0 1 2 (calling n) callers) s (frame c f b i vars cs) (s ++ (48 + n % 10) ∷ [])
      after_digits n s = then_goes file args _ _ _ _ _ _ (goes_on file args _ _ s refl) (last_digit n (Flag false) (Word (pos (n / 10))) s)

    fewer : (m n : ℕ) → n < 10 ^ suc (suc m) → n / 10 < 10 ^ suc m
    fewer m n small = omega (arith, small, pow-suc 10 (suc m))

    -- the digits of a word that is not below zero
    pub digits_go : (m n : ℕ) (f b i : ℕ) (vars : List Value) (cs : List Caller) (s : List ℕ) → n < 10 ^ suc m → n < 2 ^ 63
        → Goes file args (frame c 0 0 0 (Word (pos n) ∷ Unset ∷ Unset ∷ []) (cs ++ waiting f b i vars ∷ [])) s (frame c f b i vars cs) (s ++ digits_of (suc m) n)
    digits_go zero n f b i vars cs s fits small =
        to_text file args _ _ _ _ _ (ap (λ t. s ++ t) (sym (one_digit 0 n fits))) (few f b i vars cs n s fits)
    digits_go (suc m) n f b i vars cs s fits small = elim (cases_lt n 10) [
      | inl one ↦ to_text file args _ _ _ _ _ (ap (λ t. s ++ t) (sym (one_digit (suc m) n one))) (few f b i vars cs n s one)
      | inr large ↦
          to_text file args _ _ _ _ _ (append_assoc s (digits_of (suc m) (n / 10)) ((48 + n % 10) ∷ []) ∙ ap (λ t. s ++ t) (sym (more_digits (suc m) n large)))
          (then_goes file args _ _ _ _ _ _ (into_digits f b i vars cs n s large small)
          (then_goes file args _ _ _ _ _ _
          (digits_go m (n / 10) 0 1 2 (calling f b i vars cs n) (callers f b i vars cs) s (fewer m n fits) (omega arith))
          (after_digits f b i vars cs n (s ++ digits_of (suc m) (n / 10)))))
    ]

    module _ (f b i : ℕ) (vars : List Value) (cs : List Caller) where
      -- ---- a word that is not below zero

      abbrev word_at : ℤ → ℕ → ℕ → Bool → Core
      word_at z d j t = frame c 1 d j (Word z ∷ Flag t ∷ Unset ∷ []) (callers f b i vars cs)

      sign_chosen : (z : ℤ) (t : Bool) (s : List ℕ) → int_lt z (pos 0) ≡ t
          → Goes file args (frame c 1 0 0 (Word z ∷ Unset ∷ Unset ∷ []) (callers f b i vars cs)) s (word_at z (cond t 1 4) 0 t) s
      sign_chosen z t s e =
          then_goes file args _ _ _ _ _ _ (goes_on file args _ (word_at z 0 1 t) s (ap (λ t. Onward (word_at z 0 1 t)) e))
          (goes_on file args (word_at z 0 1 t) (word_at z (cond t 1 4) 0 t) s refl)

      not_below : (n : ℕ) (s : List ℕ) → n < 2 ^ 63
          → Goes file args (frame c 1 0 0 (Word (pos n) ∷ Unset ∷ Unset ∷ []) (callers f b i vars cs)) s (frame c f b i vars cs) (s ++ signed_decimal (pos n))
      not_below n s small =
          let e : int_lt (pos n) (pos 0) ≡ false = grind (arith, nat_tests) in
          then_goes file args _ _ _ _ _ _ (sign_chosen (pos n) false s e)
          (then_goes file args _ _ _ _ _ _ (goes_on file args (word_at (pos n) 4 0 false) _ s refl)
          (then_goes file args _ _ _ _ _ _
          (to_text file args _ _ _ _ _ (ap (λ t. s ++ t) (sym (all_digits n)))
          (digits_go 63 n 1 4 1 (Word (pos n) ∷ Flag false ∷ Unset ∷ []) (callers f b i vars cs) s (omega arith) small))
          (goes_on file args (word_at (pos n) 4 1 false) _ _ (backed 1 4 1 f b i (Word (pos n) ∷ Flag false ∷ Unset ∷ []) vars cs))))

      -- ---- a word below zero

      abbrev minus_at : ℕ → ℕ → ℕ → Value → Value → Core
      minus_at m d j t x = frame c 1 d j (Word (negsuc m) ∷ t ∷ x ∷ []) (callers f b i vars cs)

      put_last_of : (m : ℕ) (t : Value) (s : List ℕ)
          → Goes file args (minus_at m 3 2 t (Word (pos (48 + suc m % 10)))) s (frame c f b i vars cs) (s ++ (48 + suc m % 10) ∷ [])
      put_last_of m t s = put_last f b i vars cs 1 3 _ s (48 + suc m % 10)
          (ap (λ u. cond u (Puts (48 + suc m % 10) (minus_at m 3 3 t (Word (pos (48 + suc m % 10))))) (Stuck BadWord)) (small_byte f b i vars cs (suc m))) refl

      last_of_minus : (m : ℕ) (t x : Value) (s : List ℕ)
          → Goes file args (minus_at m 3 0 t x) s (frame c f b i vars cs) (s ++ (48 + suc m % 10) ∷ [])
      last_of_minus m t x s =
          let rest : step file args (minus_at m 3 0 t x) ≡ Onward (minus_at m 3 1 t (Word (neg_ℤ (pos (suc m % 10)))))
          = ap (λ z. Onward (minus_at m 3 1 t (Word z))) (rest_neg m) in
          let digit : step file args (minus_at m 3 1 t (Word (neg_ℤ (pos (suc m % 10))))) ≡ Onward (minus_at m 3 2 t (Word (pos (48 + suc m % 10))))
          = ap (λ z. Onward (minus_at m 3 2 t (Word z))) (ap wrap (minus_neg (suc m % 10)) ∙ wrap_pos (48 + suc m % 10) (omega arith)) in
          then_goes file args _ _ _ _ _ _ (goes_on file args _ _ s rest)
          (then_goes file args _ _ _ _ _ _ (goes_on file args _ _ s digit) (put_last_of m t s))

      -- the sign, and where it goes on
      minus_put : (m : ℕ) (t : Bool) (s : List ℕ) → m < 2 ^ 63 → int_eq (pos (suc m / 10)) (pos 0) ≡ t
          → Goes file args (frame c 1 0 0 (Word (negsuc m) ∷ Unset ∷ Unset ∷ []) (callers f b i vars cs)) s
          (minus_at m (cond t 3 2) 0 (Flag t) (Word (pos (suc m / 10)))) (s ++ 45 ∷ [])
      minus_put m t s small e =
          let q : step file args (minus_at m 1 1 (Flag true) Unset) ≡ Onward (minus_at m 1 2 (Flag true) (Word (pos (suc m / 10))))
          = ap (λ z. Onward (minus_at m 1 2 (Flag true) (Word z))) (wrap_pos (suc m / 10) (omega arith)) in
          then_goes file args _ _ _ _ _ _ (sign_chosen (negsuc m) true s refl)
          (then_goes file args _ _ _ _ _ _ (puts file args (word_at (negsuc m) 1 0 true) (minus_at m 1 1 (Flag true) Unset) s 45 refl)
          (then_goes file args _ _ _ _ _ _ (goes_on file args _ _ _ q)
          (then_goes file args _ _ _ _ _ _
          (goes_on file args _ (minus_at m 1 3 (Flag t) (Word (pos (suc m / 10)))) _ (ap (λ u. Onward (minus_at m 1 3 (Flag u) (Word (pos (suc m / 10))))) e))
          (goes_on file args (minus_at m 1 3 (Flag t) (Word (pos (suc m / 10)))) (minus_at m (cond t 3 2) 0 (Flag t) (Word (pos (suc m / 10)))) _ refl))))

      signed_text : (s ds : List ℕ) (g : ℕ) → (s ++ 45 ∷ []) ++ ds ++ g ∷ [] ≡ s ++ (45 ∷ (ds ++ g ∷ []))
      signed_text s ds g = append_assoc (s ++ 45 ∷ []) ds (g ∷ []) ∙ append_assoc s (45 ∷ []) (ds ++ g ∷ [])

      below : (m : ℕ) (s : List ℕ) → m < 2 ^ 63
          → Goes file args (frame c 1 0 0 (Word (negsuc m) ∷ Unset ∷ Unset ∷ []) (callers f b i vars cs)) s (frame c f b i vars cs) (s ++ signed_decimal (negsuc m))
      below m s small = elim (cases_lt (suc m) 10) [
        | inl one ↦
            let z : suc m / 10 ≡ 0 = omega arith in
            let e : int_eq (pos (suc m / 10)) (pos 0) ≡ true = ap (λ q. int_eq (pos q) (pos 0)) z in
            to_text file args _ _ _ _ _
            (append_assoc s (45 ∷ []) ((48 + suc m % 10) ∷ []) ∙ ap (λ t. s ++ (45 ∷ t)) (sym (one_digit 63 (suc m) one) ∙ sym (all_digits (suc m))))
            (then_goes file args _ _ _ _ _ _ (minus_put m true s small e) (last_of_minus m (Flag true) _ (s ++ 45 ∷ [])))
        | inr large ↦
            let some : 0 < suc m / 10 = omega arith in
            let e : int_eq (pos (suc m / 10)) (pos 0) ≡ false = grind (arith, nat_tests) in
            to_text file args _ _ _ _ _
            (signed_text s (digits_of 63 (suc m / 10)) (48 + suc m % 10) ∙ ap (λ t. s ++ (45 ∷ t)) (sym (more_digits 63 (suc m) large) ∙ sym (all_digits (suc m))))
            (then_goes file args _ _ _ _ _ _ (minus_put m false s small e)
            (then_goes file args _ _ _ _ _ _ (goes_on file args (minus_at m 2 0 (Flag false) (Word (pos (suc m / 10)))) _ _ refl)
            (then_goes file args _ _ _ _ _ _
            (digits_go 62 (suc m / 10) 1 2 1 (Word (negsuc m) ∷ Flag false ∷ Word (pos (suc m / 10)) ∷ []) (callers f b i vars cs) (s ++ 45 ∷ []) (omega arith) (omega arith))
            (then_goes file args _ _ _ _ _ _ (goes_on file args (minus_at m 2 1 (Flag false) (Word (pos (suc m / 10)))) _ _ refl)
            (last_of_minus m (Flag false) _ ((s ++ 45 ∷ []) ++ digits_of 63 (suc m / 10)))))))
      ]

      -- a word is printed
      pub word_goes : (z : ℤ) (s : List ℕ) → IsWord z
          → Goes file args (frame c 1 0 0 (Word z ∷ Unset ∷ Unset ∷ []) (callers f b i vars cs)) s (frame c f b i vars cs) (s ++ signed_decimal z)
      word_goes (pos n) s word = not_below n s word
      word_goes (negsuc m) s word = below m s word
