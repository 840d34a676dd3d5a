-- The parts of a string, as a walk over its bytes finds them.
use Rattle.std.proofs.Common.{◌≡◌, ◌≤◌, ℕ, suc, ◌+◌, Bool, true, false, List, [], ◌∷◌, ◌++◌, length, All, Ok, pos, refl, sym, ap, ◌∙◌, arith, int_eq, append_assoc, length-append}
use Rattle.std.specs.Prelude.{nat_eq, cond, sum_by}
use Rattle.std.specs.List.{slice_split}
use Rattle.std.proofs.lemmas.Bool.Decides.{nat_tests}
use Rattle.std.proofs.lemmas.List.{append-nil}
use Rattle.std.proofs.lemmas.List.Elements.{All-nil, All-cons, All-append}
use Rattle.std.proofs.lemmas.List.Splits.{slice_split_none, slice_split_at}
use Rattle.std.proofs.lemmas.List.Sums.{sum_by-cons}
use Rattle.csub_tree.specs.State.{Word, Flag}
use Rattle.csub_tree.specs.Operation.{binary_of}
use Rattle.csub_tree.specs.declared.tree.CBinary.TheVariants.{Eq}

-- what was walked of a part, and what is left of the string
abbrev pub pieces : ℕ → List ℕ → List ℕ → List (List ℕ)
pieces b cur [] = cur ∷ []
pieces b cur (c ∷ rest) = cond (nat_eq b c) (cur ∷ pieces b [] rest) (pieces b (cur ++ c ∷ []) rest)

-- how often the byte is there
abbrev pub occurs : ℕ → List ℕ → ℕ
occurs b [] = 0
occurs b (c ∷ rest) = cond (nat_eq b c) 1 0 + occurs b rest

abbrev pub Lacks : ℕ → List ℕ → Type 0
Lacks b cur = All (λ c. nat_eq b c ≡ false) cur

pub compared_so : (c b : ℕ) (t : Bool) → nat_eq b c ≡ t → binary_of Eq (Word (pos c)) (Word (pos b)) ≡ Ok (Flag t)
compared_so c b true h = let e : int_eq (pos c) (pos b) ≡ true = grind (arith, nat_tests, h) in ap (λ t. Ok (Flag t)) e
compared_so c b false h = let e : int_eq (pos c) (pos b) ≡ false = grind (arith, nat_tests, h) in ap (λ t. Ok (Flag t)) e

pub lacks_more : (b c : ℕ) (cur : List ℕ) → nat_eq b c ≡ false → Lacks b cur → Lacks b (cur ++ c ∷ [])
lacks_more b c cur h lacks = All-append (λ c. nat_eq b c ≡ false) cur (c ∷ []) lacks (All-cons (λ c. nat_eq b c ≡ false) c [] h (All-nil (λ c. nat_eq b c ≡ false)))

pub pieces_are : (b : ℕ) (cur rest : List ℕ) → Lacks b cur → slice_split (nat_eq b) (cur ++ rest) ≡ pieces b cur rest
pieces_are b cur [] lacks = ap (slice_split (nat_eq b)) (append-nil cur) ∙ slice_split_none (nat_eq b) cur lacks
pieces_are b cur (c ∷ rest) lacks = by (pieces_are b [] rest (All-nil (λ c. nat_eq b c ≡ false))) (pieces_are b (cur ++ c ∷ []) rest) (nat_eq b c) refl
  where
    by : slice_split (nat_eq b) rest ≡ pieces b [] rest → (Lacks b (cur ++ c ∷ []) → slice_split (nat_eq b) ((cur ++ c ∷ []) ++ rest) ≡ pieces b (cur ++ c ∷ []) rest) → (t : Bool) → nat_eq b c ≡ t → slice_split (nat_eq b) (cur ++ c ∷ rest) ≡ cond t (cur ∷ pieces b [] rest) (pieces b (cur ++ c ∷ []) rest)
    by here on true h = slice_split_at (nat_eq b) cur c rest lacks h ∙ ap (λ l. cur ∷ l) here
    by here on false h = ap (slice_split (nat_eq b)) (sym (append_assoc cur (c ∷ []) rest)) ∙ on (lacks_more b c cur h lacks)

pub pieces_counted : (b : ℕ) (cur rest : List ℕ) → length (pieces b cur rest) ≡ occurs b rest + 1
pieces_counted b cur [] = refl
pieces_counted b cur (c ∷ rest) = by (pieces_counted b [] rest) (pieces_counted b (cur ++ c ∷ []) rest) (nat_eq b c)
  where
    by : length (pieces b [] rest) ≡ occurs b rest + 1 → length (pieces b (cur ++ c ∷ []) rest) ≡ occurs b rest + 1 → (t : Bool) → length (cond t (cur ∷ pieces b [] rest) (pieces b (cur ++ c ∷ []) rest)) ≡ cond t 1 0 + occurs b rest + 1
    by h k true = omega (arith, h)
    by h k false = omega (arith, k)

pub pieces_long : (b : ℕ) (cur rest : List ℕ) → sum_by length (pieces b cur rest) + occurs b rest ≡ length cur + length rest
pieces_long b cur [] = (let h : sum_by length (cur ∷ []) ≡ length cur + 0 = sum_by-cons length cur [] in omega (arith, h))
pieces_long b cur (c ∷ rest) = by (pieces_long b [] rest) (pieces_long b (cur ++ c ∷ []) rest) (nat_eq b c)
  where
    by : sum_by length (pieces b [] rest) + occurs b rest ≡ 0 + length rest → sum_by length (pieces b (cur ++ c ∷ []) rest) + occurs b rest ≡ length (cur ++ c ∷ []) + length rest
        → (t : Bool) → sum_by length (cond t (cur ∷ pieces b [] rest) (pieces b (cur ++ c ∷ []) rest)) + (cond t 1 0 + occurs b rest) ≡ length cur + suc (length rest)
    by h k true = (let l : sum_by length (cur ∷ pieces b [] rest) ≡ length cur + sum_by length (pieces b [] rest) = sum_by-cons length cur (pieces b [] rest) in omega (arith, h, l))
    by h k false = (let l : length (cur ++ c ∷ []) ≡ length cur + 1 = length-append cur (c ∷ []) in omega (arith, k, l))

pub occurs_few : (b : ℕ) (rest : List ℕ) → occurs b rest ≤ length rest
occurs_few b [] = omega arith
occurs_few b (c ∷ rest) = by (occurs_few b rest) (nat_eq b c)
  where
    by : occurs b rest ≤ length rest → (t : Bool) → cond t 1 0 + occurs b rest ≤ suc (length rest)
    by h true = omega (arith, h)
    by h false = omega (arith, h)
