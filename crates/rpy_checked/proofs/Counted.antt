-- How many nodes modules have.
use Rattle.std.proofs.Common.{◌≡◌, ℕ, ◌<◌, ◌≤◌, true, ltb, List, length, take, take_all, subst, arith}
use Rattle.std.proofs.lemmas.Bool.Decides.{nat_tests}
use Rattle.rpy_tree.specs.Places.{node_count}
use Rattle.rpy_tree.specs.declared.syntax.Module.{Module}

less : (n m : ℕ) → n < m → true ≡ ltb n m
less n m h = grind (arith, nat_tests)

pub few : (modules : List Module) (count i : ℕ) → length modules ≤ i → count ≡ node_count (take i modules) → count < 4294967296 → true ≡ ltb (node_count modules) 4294967296
few modules count i all is small =
    less (node_count modules) 4294967296 (subst (λ (ms : List Module). node_count ms < 4294967296) (take_all i modules all) (subst (λ n. n < 4294967296) is small))
