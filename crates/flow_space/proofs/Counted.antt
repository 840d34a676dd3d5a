-- One more graph at the end.
use Rattle.std.proofs.Common.{◌≡◌, ℕ, ◌+◌, List, [], ◌∷◌, ◌++◌, length, sym, subst, arith}
use Rattle.flow_graph.specs.Whole.{CountFrom}
use Rattle.flow_graph.specs.declared.graph.Graph.{Graph}

counted_next : (k : ℕ) (gs : List Graph) (g : Graph) → CountFrom k gs → g.function ≡ k + length gs → CountFrom k (gs ++ g ∷ [])
counted_next k [] g counted is = (omega (arith, is), tt)
counted_next k (h ∷ gs) g counted is = (counted.0, counted_next (k + 1) gs g counted.1 (omega (arith, is)))

longer : (gs : List Graph) (g : Graph) → length (gs ++ g ∷ []) ≡ length gs + 1
longer [] g = omega arith
longer (h ∷ gs) g = omega (arith, longer gs g)

pub counted : (gs all : List Graph) (g : Graph) (n : ℕ) → CountFrom 0 gs → length gs ≡ n → g.function ≡ length gs → all ≡ gs ++ g ∷ [] → CountFrom 0 all × (length all ≡ n + 1)
counted gs all g n counts many is all_is =
    subst (λ x. CountFrom 0 x × (length x ≡ n + 1)) (sym all_is) (counted_next 0 gs g counts (omega (arith, is)), omega (arith, longer gs g, many))
