-- Steps of the walks that check a file.
use Rattle.std.proofs.Common.{◌≡◌, ◌≢◌, ℕ, zero, suc, ◌+◌, ◌-◌, ◌<◌, ◌≤◌, Bool, true, false, ◌&&◌, ◌||◌, ◌==◌, List, [], ◌∷◌, ◌++◌, length, drop, get_or, drop-cons, add-one, Option, Some, None, refl, sym, ap, ◌∙◌, arith}
use Rattle.std.specs.Prelude.{slice_get}
use Rattle.csub_tree.specs.declared.tree.CFile.{CFile}
use Rattle.csub_tree.specs.declared.tree.CType.{CType}
use Rattle.csub_tree.specs.declared.tree.CStruct.{CStruct}
use Rattle.csub_tree.specs.declared.tree.COperand.{COperand}
use Rattle.csub_tree.specs.Statement.{same_type, same_types}
use Rattle.csub_tree.specs.Checked.{is_type, are_types, base_of, begins_within, if_any, takes, all_taken}

pub false_end : (a : Bool) → (a && false) ≡ false
false_end true = refl
false_end false = refl

and_assoc : (a b c : Bool) → ((a && b) && c) ≡ (a && (b && c))
and_assoc true b c = refl
and_assoc false b c = refl

pub types_differ : (ss ts : List CType) → length ss ≢ length ts → same_types ss ts ≡ false
types_differ [] [] differ = absurd (differ refl)
types_differ [] (t ∷ ts) differ = refl
types_differ (s ∷ ss) [] differ = refl
types_differ (s ∷ ss) (t ∷ ts) differ = ap (λ b. same_type s t && b) (types_differ ss ts (λ e. differ (ap suc e))) ∙ false_end (same_type s t)

pub taken_differ : (file : CFile) (vars ts : List CType) (xs : List COperand) → length ts ≢ length xs → all_taken file vars ts xs ≡ false
taken_differ file vars [] [] differ = absurd (differ refl)
taken_differ file vars [] (x ∷ xs) differ = refl
taken_differ file vars (t ∷ ts) [] differ = refl
taken_differ file vars (t ∷ ts) (x ∷ xs) differ =
    ap (λ b. takes file vars t x && b) (taken_differ file vars ts xs (λ e. differ (ap suc e))) ∙ false_end (takes file vars t x)

pub types_of_both : (structs : List CStruct) (ss ts : List CType) → (are_types structs ss && are_types structs ts) ≡ are_types structs (ss ++ ts)
types_of_both structs [] ts = refl
types_of_both structs (s ∷ ss) ts = and_assoc (is_type structs s) (are_types structs ss) (are_types structs ts) ∙ ap (λ b. is_type structs s && b) (types_of_both structs ss ts)

pub from_place : {A : Type 0} (xs : List A) (i : ℕ) (d : A) → i < length xs → drop i xs ≡ get_or xs i d ∷ drop (i + 1) xs
from_place xs i d lt = drop-cons xs i d lt ∙ ap (λ j. get_or xs i d ∷ drop j xs) (sym (add-one i))

pub taken_step : (file : CFile) (vars ts : List CType) (xs : List COperand) (i : ℕ) (d : CType) (e : COperand) → i < length ts → length ts ≡ length xs
    → all_taken file vars (drop i ts) (drop i xs) ≡ (takes file vars (get_or ts i d) (get_or xs i e) && all_taken file vars (drop (i + 1) ts) (drop (i + 1) xs))
taken_step file vars ts xs i d e lt same =
    ap (λ ts. all_taken file vars ts (drop i xs)) (from_place ts i d lt) ∙ ap (all_taken file vars (get_or ts i d ∷ drop (i + 1) ts)) (from_place xs i e (omega (arith, lt, same)))

-- ---- the chain of bases

equals : (n m : ℕ) → n ≡ m → (n == m) ≡ true
equals n m e = grind arith

differs : (n m : ℕ) → n ≢ m → (n == m) ≡ false
differs n m ne = grind arith

pub begins_here : (structs : List CStruct) (k n m : ℕ) → n ≡ m → begins_within structs k n m ≡ true
unfolding begins_within
begins_here structs zero n m e = equals n m e
begins_here structs (suc k) n m e = ap (λ x. x || if_any (λ b. begins_within structs k b m) (base_of (slice_get structs n))) (equals n m e)

begins_on : (structs : List CStruct) (k n m : ℕ) (b : Option ℕ) → n ≢ m → base_of (slice_get structs n) ≡ b
    → begins_within structs (suc k) n m ≡ if_any (λ b. begins_within structs k b m) b
unfolding begins_within
begins_on structs k n m b ne base =
    ap (λ x. x || if_any (λ b. begins_within structs k b m) (base_of (slice_get structs n))) (differs n m ne) ∙ ap (if_any (λ b. begins_within structs k b m)) base

-- where i of n looks are done
pub begins_next : (structs : List CStruct) (n i at m b : ℕ) → i < n → at ≢ m → base_of (slice_get structs at) ≡ Some b
    → begins_within structs (n - i) at m ≡ begins_within structs (n - (i + 1)) b m
begins_next structs n i at m b lt ne base =
    let e : n - i ≡ suc (n - (i + 1)) = omega arith in ap (λ k. begins_within structs k at m) e ∙ begins_on structs (n - (i + 1)) at m (Some b) ne base

pub begins_last : (structs : List CStruct) (n i at m : ℕ) → i < n → at ≢ m → base_of (slice_get structs at) ≡ None → begins_within structs (n - i) at m ≡ false
begins_last structs n i at m lt ne base =
    let e : n - i ≡ suc (n - (i + 1)) = omega arith in ap (λ k. begins_within structs k at m) e ∙ begins_on structs (n - (i + 1)) at m None ne base

pub begins_end : (structs : List CStruct) (n i at m : ℕ) → n ≤ i → begins_within structs (n - i) at m ≡ (at == m)
unfolding begins_within
begins_end structs n i at m le = let e : n - i ≡ 0 = omega arith in ap (λ k. begins_within structs k at m) e
