-- How long lists and dicts are after an operation.
use Rattle.std.proofs.Common.{ℕ, zero, suc, ◌+◌, ◌*◌, ◌≤◌, List, [], ◌∷◌, ◌++◌, Bool, true, false, arith, length}
use Rattle.std.specs.Prelude.{map, reverse, slice_set, remove, insert, take, drop, ◌||◌, if◌then◌else◌}
use Rattle.std.specs.List.{repeat}
use Rattle.std.proofs.lemmas.List.{length-take, length-set, length-map, length-reverse}
use Rattle.std.proofs.Math.Nat.{le_refl, mul-suc}
use Rattle.std.proofs.Math.ListN.{length-append, length-drop}
use Rattle.rpy_tree.specs.Value.{Value}
use Rattle.rpy_meaning.specs.Compare.{is_equal}
use Rattle.rpy_meaning.specs.Sequences.{has_key, with_key, without_key}

pub remove_size : (vs : List Value) (k : ℕ) → length (remove vs k) ≤ length vs
remove_size vs k = rw (length-append (take k vs) (drop (suc k) vs), length-take k vs, length-drop (suc k) vs) (grind arith)

pub insert_size : (vs : List Value) (k : ℕ) (v : Value) → length (insert vs k v) ≤ 1 + length vs
insert_size vs k v = rw (length-append (take k vs) (v ∷ drop k vs), length-take k vs, length-drop k vs) (grind arith)

pub with_key_size : (key v : Value) (pairs : List (Value × Value)) → length (with_key key v pairs) ≤ (if has_key key pairs then 0 else 1) + length pairs
with_key_size key v [] = omega arith
with_key_size key v (p ∷ pairs) = step (is_equal p.0 key) (has_key key pairs) (with_key_size key v pairs)
  where
    step : (a b : Bool) → length (with_key key v pairs) ≤ (if b then 0 else 1) + length pairs
        → length (if a then (p.0, v) ∷ pairs else p ∷ with_key key v pairs) ≤ (if a || b then 0 else 1) + length (p ∷ pairs)
    step true b le = omega arith
    step false true le = omega (arith, le)
    step false false le = omega (arith, le)

pub without_key_size : (key : Value) (pairs : List (Value × Value)) → length (without_key key pairs) ≤ length pairs
without_key_size key [] = omega arith
without_key_size key (p ∷ pairs) = step (is_equal p.0 key) (without_key_size key pairs)
  where
    step : (a : Bool) → length (without_key key pairs) ≤ length pairs → length (if a then pairs else p ∷ without_key key pairs) ≤ length (p ∷ pairs)
    step true le = omega arith
    step false le = omega (arith, le)

pub set_size : (vs : List Value) (k : ℕ) (v : Value) → length (slice_set vs k v) ≤ length vs
set_size vs k v = rw (length-set vs k v) (le_refl (length vs))

pub reverse_size : (vs : List Value) → length (reverse vs) ≤ length vs
reverse_size vs = rw (length-reverse vs) (le_refl (length vs))

pub extend_size : (vs us : List Value) → length (vs ++ us) ≤ length us + length vs
extend_size vs us = rw (length-append vs us) (omega arith)

pub append_size : (vs : List Value) (v : Value) → length (vs ++ v ∷ []) ≤ 1 + length vs
append_size vs v = rw (length-append vs (v ∷ [])) (omega arith)

pub map_size : {A : Type 0} (f : A → Value) (xs : List A) (k : ℕ) → length xs ≤ k → length (map f xs) ≤ k
map_size f xs k le = rw (length-map xs f) le

pub repeat_size : (n : ℕ) (vs : List Value) → length (repeat n vs) ≤ length vs * n
repeat_size zero vs = omega arith
repeat_size (suc n) vs =
    let x = repeat_size n vs in
    let y = mul-suc (length vs) n in
    rw (length-append vs (repeat n vs)) (omega (arith, x, y))
