-- The last of a list is taken.
use Rattle.names_found.specs.Part.{without, without_last}
use Rattle.names_found.specs.Finder.{add_sites}
use Rattle.names_found.specs.declared.part.Part.{Part}
use Rattle.names_found.specs.declared.step.SiteAt.{SiteAt}
use Rattle.std.proofs.Common.{◌≡◌, ◌+◌, ◌<◌, suc, ℕ, List, [], ◌∷◌, ◌++◌, ◌-◌, length, take, arith, refl, ap}
use Rattle.std.proofs.lemmas.Grind.{common_steps}

pub last_taken : {A : Type 0} (xs : List A) (x : A) → take (length (xs ++ x ∷ []) - 1) (xs ++ x ∷ []) ≡ xs
last_taken xs x = grind (arith, common_steps)

-- one more turn
pub without_turn : (n i : ℕ) (parts : List Part) → i < n → without (n - i) parts ≡ without (n - (i + 1)) (without_last parts)
without_turn n i parts lt = let e : n - i ≡ suc (n - (i + 1)) = omega arith in rw e refl

pub sites_turn : (n i : ℕ) (site : SiteAt) (sites : List SiteAt) → i < n → add_sites (n - i) site sites ≡ add_sites (n - (i + 1)) site (sites ++ site ∷ [])
sites_turn n i site sites lt = let e : n - i ≡ suc (n - (i + 1)) = omega arith in rw e refl
