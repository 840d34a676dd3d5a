-- Steps of the walks that check a program.
use Rattle.std.proofs.Common.{◌≡◌, ◌≢◌, ℕ, zero, suc, ◌+◌, ◌-◌, ◌<◌, ◌≤◌, Bool, true, false, ◌&&◌, ◌||◌, ◌==◌, List, [], ◌∷◌, ◌++◌, length, drop, get_or, drop-cons, add-one, Option, Some, None, refl, sym, ap, ◌∙◌, arith}
use Rattle.std.specs.Prelude.{slice_get}
use Rattle.ll_code.specs.declared.program.LlProgram.{LlProgram}
use Rattle.ll_code.specs.declared.program.LlType.{LlType}
use Rattle.ll_code.specs.declared.program.LlStruct.{LlStruct}
use Rattle.csub_tree.specs.declared.tree.COperand.{COperand}
use Rattle.csub_tree.specs.Checked.{if_any}
use Rattle.ll_code.specs.Typed.{base_of, begins_within, takes, all_taken, given_takes, all_given}

pub false_end : (a : Bool) → (a && false) ≡ false
false_end true = refl
false_end false = refl

pub taken_differ : (program : LlProgram) (vars ts : List LlType) (xs : List COperand) → length ts ≢ length xs → all_taken program vars ts xs ≡ false
taken_differ program vars [] [] differ = absurd (differ refl)
taken_differ program vars [] (x ∷ xs) differ = refl
taken_differ program vars (t ∷ ts) [] differ = refl
taken_differ program vars (t ∷ ts) (x ∷ xs) differ =
    ap (λ b. takes program vars t x && b) (taken_differ program vars ts xs (λ e. differ (ap suc e))) ∙ false_end (takes program vars t x)

pub from_place : {A : Type 0} (xs : List A) (i : ℕ) (d : A) → i < length xs → drop i xs ≡ get_or xs i d ∷ drop (i + 1) xs
from_place xs i d lt = drop-cons xs i d lt ∙ ap (λ j. get_or xs i d ∷ drop j xs) (sym (add-one i))

pub taken_step : (program : LlProgram) (vars ts : List LlType) (xs : List COperand) (i : ℕ) (d : LlType) (e : COperand) → i < length ts → length ts ≡ length xs
    → all_taken program vars (drop i ts) (drop i xs) ≡ (takes program vars (get_or ts i d) (get_or xs i e) && all_taken program vars (drop (i + 1) ts) (drop (i + 1) xs))
taken_step program vars ts xs i d e lt same =
    ap (λ ts. all_taken program vars ts (drop i xs)) (from_place ts i d lt) ∙ ap (all_taken program vars (get_or ts i d ∷ drop (i + 1) ts)) (from_place xs i e (omega (arith, lt, same)))

pub given_differ : (program : LlProgram) (vars others : List LlType) (vs : List ℕ) (xs : List COperand) → length vs ≢ length xs → all_given program vars others vs xs ≡ false
given_differ program vars others [] [] differ = absurd (differ refl)
given_differ program vars others [] (x ∷ xs) differ = refl
given_differ program vars others (v ∷ vs) [] differ = refl
given_differ program vars others (v ∷ vs) (x ∷ xs) differ =
    ap (λ b. given_takes program vars (slice_get others v) x && b) (given_differ program vars others vs xs (λ e. differ (ap suc e))) ∙ false_end (given_takes program vars (slice_get others v) x)

pub given_step : (program : LlProgram) (vars others : List LlType) (vs : List ℕ) (xs : List COperand) (i : ℕ) (d : ℕ) (e : COperand) → i < length vs → length vs ≡ length xs
    → all_given program vars others (drop i vs) (drop i xs)
    ≡ (given_takes program vars (slice_get others (get_or vs i d)) (get_or xs i e) && all_given program vars others (drop (i + 1) vs) (drop (i + 1) xs))
given_step program vars others vs xs i d e lt same =
    ap (λ vs. all_given program vars others vs (drop i xs)) (from_place vs i d lt)
    ∙ ap (all_given program vars others (get_or vs i d ∷ drop (i + 1) vs)) (from_place xs i e (omega (arith, lt, same)))

-- ---- the chain of bases

equals : (n m : ℕ) → n ≡ m → (n == m) ≡ true
equals n m e = grind arith

differs : (n m : ℕ) → n ≢ m → (n == m) ≡ false
differs n m ne = grind arith

pub begins_here : (structs : List LlStruct) (k n m : ℕ) → n ≡ m → begins_within structs k n m ≡ true
unfolding begins_within
begins_here structs zero n m e = equals n m e
begins_here structs (suc k) n m e = ap (λ x. x || if_any (λ b. begins_within structs k b m) (base_of (slice_get structs n))) (equals n m e)

begins_on : (structs : List LlStruct) (k n m : ℕ) (b : Option ℕ) → n ≢ m → base_of (slice_get structs n) ≡ b
    → begins_within structs (suc k) n m ≡ if_any (λ b. begins_within structs k b m) b
unfolding begins_within
begins_on structs k n m b ne base =
    ap (λ x. x || if_any (λ b. begins_within structs k b m) (base_of (slice_get structs n))) (differs n m ne) ∙ ap (if_any (λ b. begins_within structs k b m)) base

-- where i of n looks are done
pub begins_next : (structs : List LlStruct) (n i at m b : ℕ) → i < n → at ≢ m → base_of (slice_get structs at) ≡ Some b
    → begins_within structs (n - i) at m ≡ begins_within structs (n - (i + 1)) b m
begins_next structs n i at m b lt ne base =
    let e : n - i ≡ suc (n - (i + 1)) = omega arith in ap (λ k. begins_within structs k at m) e ∙ begins_on structs (n - (i + 1)) at m (Some b) ne base

pub begins_last : (structs : List LlStruct) (n i at m : ℕ) → i < n → at ≢ m → base_of (slice_get structs at) ≡ None → begins_within structs (n - i) at m ≡ false
begins_last structs n i at m lt ne base =
    let e : n - i ≡ suc (n - (i + 1)) = omega arith in ap (λ k. begins_within structs k at m) e ∙ begins_on structs (n - (i + 1)) at m None ne base

pub begins_end : (structs : List LlStruct) (n i at m : ℕ) → n ≤ i → begins_within structs (n - i) at m ≡ (at == m)
unfolding begins_within
begins_end structs n i at m le = let e : n - i ≡ 0 = omega arith in ap (λ k. begins_within structs k at m) e
