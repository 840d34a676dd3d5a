-- Classes of sites: a list gives each site the least site of its class.
use Rattle.std.specs.Prelude.{◌≡◌, ℕ, suc, zero, length, ◌++◌, Bool, true, false, List, [], ◌∷◌, slice_get, unwrap_or, map, nat_eq, nat_le}

abbrev pub either : {A : Type 0} → Bool → A → A → A
either true a b = a
either false a b = b

abbrev pub or : Bool → Bool → Bool
or true b = true
or false b = b

-- the least site of a site's class
abbrev pub leader : List ℕ → ℕ → ℕ
leader same s = unwrap_or (slice_get same s) 0

-- two sites of one class
abbrev pub Same : List ℕ → ℕ → ℕ → Type 0
Same same s u = leader same s ≡ leader same u

-- the numbers below n
abbrev pub below : ℕ → List ℕ
below zero = []
below (suc n) = below n ++ n ∷ []

-- each site alone
abbrev pub alone : {A : Type 0} → List A → List ℕ
alone sites = below (length sites)

abbrev pub least : ℕ → ℕ → ℕ
least p q = either (nat_le p q) p q

-- the leader u of a class, where the classes of p and q become one
abbrev pub collapse : ℕ → ℕ → ℕ → ℕ
collapse p q u = either (or (nat_eq u p) (nat_eq u q)) (least p q) u

-- the classes of two sites become one
abbrev pub unite : List ℕ → ℕ → ℕ → List ℕ
unite same s u = map (collapse (leader same s) (leader same u)) same
