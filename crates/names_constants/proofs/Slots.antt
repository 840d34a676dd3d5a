-- Slots that wait are taken by the node after them, last one first; what a display has is what its parts have in order.
use Rattle.std.proofs.Common.{◌≡◌, ℕ, ◌+◌, ◌-◌, ◌*◌, zero, suc, List, [], ◌∷◌, ◌++◌, append_assoc, append-nil, length, length-append, map, Option, Some, None, sym, ap, ◌∙◌, refl, arith}
use Rattle.rpy_tree.specs.declared.program.Const.{Const}
use Rattle.rpy_tree.specs.declared.program.Const.TheVariants as const
use Rattle.names_value.specs.Machine.{Pairs, items_onto, with_item, pairs_onto, with_pair}
use Rattle.names_value.specs.Slots.{last_slot, without_last, without, or_no_slot, taken_onto, take_slots, values_onto, values_of, with_value}
use Rattle.names_value.specs.declared.slots.Slot.{Slot}
use Rattle.names_value.proofs.Lasts.{last_taken, last_is}
use Rattle.names_constants.specs.Value.{Piece, values, value_with, listed, stored, pair_with}

abbrev pub slot : Piece → Slot
slot p = record { node = p.node; value = p.value }

abbrev pub slots : List Piece → List Slot
slots ps = map slot ps

pub last_in : (xs : List Slot) (x : Slot) → last_slot (xs ++ x ∷ []) ≡ x
last_in xs x = ap or_no_slot (last_is xs x)

pub dropped : (xs : List Slot) (x : Slot) → without_last (xs ++ x ∷ []) ≡ xs
dropped xs x = last_taken xs x

-- ---- dropped

without_out : (k : ℕ) (zs : List Slot) → without (suc k) zs ≡ without_last (without k zs)
without_out zero zs = refl
without_out (suc k) zs = without_out k (without_last zs)

pub drops : (ys xs : List Slot) → without (length ys) (xs ++ ys) ≡ xs
drops [] xs = append-nil xs
drops (y ∷ ys) xs = without_out (length ys) (xs ++ y ∷ ys)
    ∙ ap (λ zs. without_last (without (length ys) zs)) (sym (append_assoc xs (y ∷ []) ys))
    ∙ ap without_last (drops ys (xs ++ y ∷ []))
    ∙ dropped xs y

from_zero : (a : ℕ) → a ≡ 0 + a
from_zero a = omega arith

suc_out : (b a : ℕ) → suc (b + a) ≡ suc b + a
suc_out b a = omega arith

pub without_sum : (b a : ℕ) (zs : List Slot) → without a (without b zs) ≡ without (b + a) zs
without_sum zero a zs = ap (λ k. without k zs) (from_zero a)
without_sum (suc b) a zs = without_sum b a (without_last zs) ∙ ap (λ k. without k zs) (suc_out b a)

-- ---- taken, last one first

abbrev pub back : List Slot → List Slot
back [] = []
back (x ∷ xs) = back xs ++ x ∷ []

taken_out : (n : ℕ) (done zs : List Slot) → taken_onto (suc n) done zs ≡ ((taken_onto n done zs).0 ++ last_slot (taken_onto n done zs).1 ∷ [], without_last (taken_onto n done zs).1)
taken_out zero done zs = refl
taken_out (suc n) done zs = taken_out n (done ++ last_slot zs ∷ []) (without_last zs)

one_more : (r : List Slot × List Slot) (done xs ys : List Slot) (y : Slot) → r ≡ (done ++ back ys, xs ++ y ∷ []) → ◌≡◌ {A = List Slot × List Slot} (r.0 ++ last_slot r.1 ∷ [], without_last r.1) (done ++ back (y ∷ ys), xs)
one_more r done xs ys y e = ap {B = List Slot × List Slot} (λ t. (t.0 ++ last_slot t.1 ∷ [], without_last t.1)) e
    ∙ (λ j. ((done ++ back ys) ++ last_in xs y j ∷ [], dropped xs y j))
    ∙ (λ j. (append_assoc done (back ys) (y ∷ []) j, xs))

takes_onto : (ys done xs : List Slot) → taken_onto (length ys) done (xs ++ ys) ≡ (done ++ back ys, xs)
takes_onto [] done xs = λ j. (sym (append-nil done) j, append-nil xs j)
takes_onto (y ∷ ys) done xs = taken_out (length ys) done (xs ++ y ∷ ys)
    ∙ one_more (taken_onto (length ys) done (xs ++ y ∷ ys)) done xs ys y (ap (taken_onto (length ys) done) (sym (append_assoc xs (y ∷ []) ys)) ∙ takes_onto ys done (xs ++ y ∷ []))

pub takes : (ys xs : List Slot) (n : ℕ) → n ≡ length ys → take_slots n (xs ++ ys) ≡ (back ys, xs)
takes ys xs n e = ap (λ k. take_slots k (xs ++ ys)) e ∙ takes_onto ys [] xs

one_longer : (xs : List Slot) (x : Slot) (n : ℕ) → length xs ≡ n → length (xs ++ x ∷ []) ≡ suc n
one_longer xs x n e = omega (arith, length-append xs (x ∷ []), e)

pub back_length : (ps : List Piece) → length (back (slots ps)) ≡ length ps
back_length [] = refl
back_length (p ∷ ps) = one_longer (back (slots ps)) (slot p) (length ps) (back_length ps)

-- ---- values in order

abbrev onto : {A : Type 0} → Option (List A) → Option (List A) → Option (List A)
onto None o = None
onto (Some done) None = None
onto (Some done) (Some vs) = Some (done ++ vs)

onto_nothing : {A : Type 0} (o : Option (List A)) → onto (Some []) o ≡ o
onto_nothing None = refl
onto_nothing (Some vs) = refl

onto_end : {A : Type 0} (o : Option (List A)) → o ≡ onto o (Some [])
onto_end None = refl
onto_end (Some vs) = ap Some (sym (append-nil vs))

onto_value : (done : Option (List Const)) (v : Option Const) (vs : Option (List Const)) → onto (with_value done v) vs ≡ onto done (value_with v vs)
onto_value None v vs = refl
onto_value (Some done) None vs = refl
onto_value (Some done) (Some v) None = refl
onto_value (Some done) (Some v) (Some vs) = ap Some (append_assoc done (v ∷ []) vs)

values_back : (ps : List Piece) (done : Option (List Const)) → values_onto (length ps) (back (slots ps)) done ≡ onto done (values ps)
values_back [] done = onto_end done
values_back (p ∷ ps) done =
    (λ j. values_onto (length ps) (dropped (back (slots ps)) (slot p) j) (with_value done (last_in (back (slots ps)) (slot p) j).value))
    ∙ values_back ps (with_value done p.value)
    ∙ onto_value done p.value (values ps)

pub values_are : (ps : List Piece) → values_of (back (slots ps)) ≡ values ps
values_are ps = ap (λ n. values_onto n (back (slots ps)) (Some [])) (back_length ps) ∙ values_back ps (Some []) ∙ onto_nothing (values ps)

onto_item : (done : Option Pairs) (v : Option Const) (vs : Option (List Const)) → onto (with_item done v) (listed vs) ≡ onto done (listed (value_with v vs))
onto_item None v vs = refl
onto_item (Some done) None vs = refl
onto_item (Some done) (Some v) None = refl
onto_item (Some done) (Some v) (Some vs) = ap Some (append_assoc done ((const.None, v) ∷ []) (map (λ v. (const.None, v)) vs))

items_back : (ps : List Piece) (done : Option Pairs) → items_onto (length ps) (back (slots ps)) done ≡ onto done (listed (values ps))
items_back [] done = onto_end done
items_back (p ∷ ps) done =
    (λ j. items_onto (length ps) (dropped (back (slots ps)) (slot p) j) (with_item done (last_in (back (slots ps)) (slot p) j).value))
    ∙ items_back ps (with_item done p.value)
    ∙ onto_item done p.value (values ps)

pub items_are : (ps : List Piece) → items_onto (length (back (slots ps))) (back (slots ps)) (Some []) ≡ listed (values ps)
items_are ps = ap (λ n. items_onto n (back (slots ps)) (Some [])) (back_length ps) ∙ items_back ps (Some []) ∙ onto_nothing (listed (values ps))

-- ---- a key and a value, and so on

-- so many pairs
abbrev pub IsPaired : ℕ → List Piece → Type 0
IsPaired zero [] = Unit {0}
IsPaired zero (p ∷ ps) = ⊥
IsPaired (suc n) [] = ⊥
IsPaired (suc n) (p ∷ []) = ⊥
IsPaired (suc n) (p ∷ q ∷ ps) = IsPaired n ps

by_values : (done : Pairs) (a b : Option Const) (ps : List Piece) → stored (with_pair (Some done) a b) ps ≡ stored (pair_with a b done) ps
by_values done None None ps = refl
by_values done None (Some b) ps = refl
by_values done (Some a) None ps = refl
by_values done (Some a) (Some b) ps = refl

with_is : (done : Option Pairs) (p q : Piece) (ps : List Piece) → stored (with_pair done p.value q.value) ps ≡ stored done (p ∷ q ∷ ps)
with_is None p q ps = refl
with_is (Some done) p q ps = by_values done p.value q.value ps

stored_end : (done : Option Pairs) → done ≡ stored done []
stored_end None = refl
stored_end (Some pairs) = refl

two_dropped : (xs : List Slot) (x y : Slot) → without_last (without_last ((xs ++ x ∷ []) ++ y ∷ [])) ≡ xs
two_dropped xs x y = ap without_last (dropped (xs ++ x ∷ []) y) ∙ dropped xs x

pub pairs_back : (n : ℕ) (ps : List Piece) (so_far : Option Pairs) → IsPaired n ps → pairs_onto n (back (slots ps)) so_far ≡ stored so_far ps
pairs_back zero [] so_far h = stored_end so_far
pairs_back zero (p ∷ ps) so_far h = absurd h
pairs_back (suc n) [] so_far h = absurd h
pairs_back (suc n) (p ∷ []) so_far h = absurd h
pairs_back (suc n) (p ∷ q ∷ ps) so_far h =
    (λ j. pairs_onto n (two_dropped (back (slots ps)) (slot q) (slot p) j) (with_pair so_far (last_in (back (slots ps) ++ slot q ∷ []) (slot p) j).value (last_of j).value))
    ∙ pairs_back n ps (with_pair so_far p.value q.value) h
    ∙ with_is so_far p q ps where
      last_of : last_slot (without_last ((back (slots ps) ++ slot q ∷ []) ++ slot p ∷ [])) ≡ slot q
      last_of = ap last_slot (dropped (back (slots ps) ++ slot q ∷ []) (slot p)) ∙ last_in (back (slots ps)) (slot q)

two_more : (n m : ℕ) → m ≡ n * 2 → suc (suc m) ≡ suc n * 2
two_more n m e = omega (arith, e)

pub paired_length : (n : ℕ) (ps : List Piece) → IsPaired n ps → length ps ≡ n * 2
paired_length zero [] h = refl
paired_length zero (p ∷ ps) h = absurd h
paired_length (suc n) [] h = absurd h
paired_length (suc n) (p ∷ []) h = absurd h
paired_length (suc n) (p ∷ q ∷ ps) h = two_more n (length ps) (paired_length n ps h)
