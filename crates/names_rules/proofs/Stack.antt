-- Parts that wait are taken by the node after them.
use Rattle.std.proofs.Common.{◌≡◌, ℕ, ◌-◌, zero, suc, List, [], ◌∷◌, ◌++◌, Some, append_assoc, append-nil, length, length-append, sym, ap, ◌∙◌, refl, arith}
use Rattle.std.specs.Prelude.{slice_get}
use Rattle.names_found.specs.Part.{without, without_last, part_under, or_no_part}
use Rattle.names_found.specs.declared.part.Part.{Part}
use Rattle.names_found.proofs.Parts.{last_taken}

without_out : (k : ℕ) (zs : List Part) → without (suc k) zs ≡ without_last (without k zs)
without_out zero zs = refl
without_out (suc k) zs = without_out k (without_last zs)

pub drops : (ys xs : List Part) → without (length ys) (xs ++ ys) ≡ xs
drops [] xs = append-nil xs
drops (y ∷ ys) xs = without_out (length ys) (xs ++ y ∷ ys)
    ∙ ap (λ zs. without_last (without (length ys) zs)) (sym (append_assoc xs (y ∷ []) ys))
    ∙ ap without_last (drops ys (xs ++ y ∷ []))
    ∙ last_taken xs y

at_end : (xs ys : List Part) (x : Part) → slice_get (xs ++ x ∷ ys) (length xs) ≡ Some x
at_end [] ys x = refl
at_end (z ∷ zs) ys x = at_end zs ys x

pub under : (xs ys : List Part) (x : Part) → part_under (xs ++ x ∷ ys) (length ys) ≡ x
under xs ys x = let e : length (xs ++ x ∷ ys) - length ys - 1 ≡ length xs = omega (arith, length-append xs (x ∷ ys)) in
    ap (λ n. or_no_part (slice_get (xs ++ x ∷ ys) n)) e ∙ ap or_no_part (at_end xs ys x)
