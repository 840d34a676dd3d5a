-- A walk over a list that does f to one element after the other, seen through a function of the elements.
use Rattle.std.proofs.Common.{◌≡◌, ℕ, zero, suc, ◌+◌, ◌<◌, List, [], ◌∷◌, length, map, get_or, set, refl, sym, ap, ◌∙◌, arith, add-one, subst}
use Rattle.std.specs.List.{All}
use Rattle.std.proofs.lemmas.List.{map-set, length-map}
use Rattle.std.proofs.Math.ListN.{get_or-map}
use Rattle.std.proofs.Math.Seq.{map-set_same}
use Rattle.rpy_base.specs.Watching.{first_told}

length_told : {X : Type 0} (f : X → X) (xs : List X) (i : ℕ) → length (first_told i f xs) ≡ length xs
length_told f [] zero = refl
length_told f [] (suc i) = refl
length_told f (x ∷ xs) zero = refl
length_told f (x ∷ xs) (suc i) = ap suc (length_told f xs i)

-- the next one has not been told
told_at : {X : Type 0} (f : X → X) (xs : List X) (i : ℕ) (d : X) → get_or (first_told i f xs) i d ≡ get_or xs i d
told_at f [] zero d = refl
told_at f [] (suc i) d = refl
told_at f (x ∷ xs) zero d = refl
told_at f (x ∷ xs) (suc i) d = told_at f xs i d

told_more : {X : Type 0} (f : X → X) (xs : List X) (i : ℕ) (d : X) → i < length xs → set (first_told i f xs) i (f (get_or xs i d)) ≡ first_told (suc i) f xs
told_more f [] i d h = absurd (omega arith)
told_more f (x ∷ xs) zero d h = refl
told_more f (x ∷ xs) (suc i) d h = ap (λ ys. f x ∷ ys) (told_more f xs i d (omega arith))

-- all of them have been told
pub told_all : {X : Type 0} (f : X → X) (xs : List X) (i : ℕ) → i ≡ length xs → first_told i f xs ≡ map f xs
told_all f [] i e = rw e refl
told_all f (x ∷ xs) zero e = absurd (omega arith)
told_all f (x ∷ xs) (suc i) e = ap (λ ys. f x ∷ ys) (told_all f xs i (omega arith))

module _ {X S : Type 0} (seen : X → S) (f : S → S) (old now : List X) (i : ℕ) (x : X) (told : map seen now ≡ first_told i f (map seen old)) (at : x ≡ get_or now i x) where
  here : get_or (map seen old) i (seen x) ≡ seen x
  here = sym (told_at f (map seen old) i (seen x)) ∙ ap (λ ys. get_or ys i (seen x)) (sym told) ∙ get_or-map seen now i x ∙ ap seen (sym at)

  pub same_length : length old ≡ length now
  same_length = sym (length-map old seen) ∙ sym (length_told f (map seen old) i) ∙ ap length (sym told) ∙ length-map now seen

  pub told_ready : (P : S → Type 0) → i < length now → All P (map seen old) → P (seen x)
  told_ready P inside all = subst P here (all i (seen x) (omega (arith, same_length, length-map old seen)))

  pub told_next : (y : X) → i < length now → seen y ≡ f (seen x) → map seen (set now i y) ≡ first_told (i + 1) f (map seen old)
  told_next y inside e =
      map-set seen now i y
      ∙ ap (λ ys. set ys i (seen y)) told
      ∙ ap (set (first_told i f (map seen old)) i) (e ∙ ap f (sym here))
      ∙ told_more f (map seen old) i (seen x) (omega (arith, same_length, length-map old seen))
      ∙ ap (λ n. first_told n f (map seen old)) (sym (add-one i))

  pub told_stays : (y : X) → seen y ≡ seen x → map seen (set now i y) ≡ first_told i f (map seen old)
  told_stays y e = map-set_same seen now i y x (e ∙ ap seen at) ∙ told
