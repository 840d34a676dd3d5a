-- Blocks that have their own variables, when one more is put, and when a head goes on.
use Rattle.std.proofs.Common.{◌≡◌, ℕ, zero, suc, ◌+◌, ◌<◌, ◌≤◌, List, [], ◌∷◌, ◌++◌, length, ◌⊎◌, inl, inr, Some, Contains, refl, sym, ap, ◌∙◌, subst, arith}
use Rattle.std.specs.Prelude.{slice_get, slice_set}
use Rattle.std.proofs.lemmas.List.Elements.{Contains-append_cases}
use Rattle.flow_graph.specs.declared.graph.Block.{Block}
use Rattle.flow_graph.specs.Owners.{results, variables_of, HaveOwnVariables}
use Rattle.flow_stands.specs.Places.{range, shift}
use Rattle.flow_space.specs.Owned.{LieBelow}
use Rattle.flow_space.proofs.Graphs.{get_last}

shifted : (base a k v : ℕ) → Contains (shift base (range a k)) v → (base + a ≤ v) × (v < base + a + k)
shifted base a zero v h = absurd (omega (arith, h.1))
shifted base a (suc k) v (zero, lt, e) = (omega (arith, e), omega (arith, e))
shifted base a (suc k) v (suc i, lt, e) = let h = shifted base (a + 1) k v (i, omega (arith, lt), e) in (omega (arith, h.0), omega (arith, h.1))

-- where the inputs and the results of a block lie
within : (base m k v : ℕ) (block : Block) → block.inputs ≡ shift base (range 0 m) → results block.ops ≡ shift base (range m k) → Contains (variables_of block) v → (base ≤ v) × (v < base + m + k)
within base m k v block is_inputs are_results h = by (Contains-append_cases block.inputs (results block.ops) v h)
  where
    by : Contains block.inputs v ⊎ Contains (results block.ops) v → (base ≤ v) × (v < base + m + k)
    by (inl h) = let s = shifted base 0 m v (subst (λ l. Contains l v) is_inputs h) in (omega (arith, s.0), omega (arith, s.1))
    by (inr h) = let s = shifted base m k v (subst (λ l. Contains l v) are_results h) in (omega (arith, s.0), omega (arith, s.1))

-- ---- a block with the next variables

module _ (blocks : List Block) (block : Block) (base m k : ℕ) (below : LieBelow base blocks) (is_inputs : block.inputs ≡ shift base (range 0 m)) (are_results : results block.ops ≡ shift base (range m k)) where
  pub own_push : HaveOwnVariables blocks → HaveOwnVariables (blocks ++ block ∷ [])
  own_push own i j v b c at_b at_c in_b in_c = by (get_last blocks block b i at_b) (get_last blocks block c j at_c)
    where
      new : (x : Block) → block ≡ x → Contains (variables_of x) v → base ≤ v
      new x is h = (within base m k v block is_inputs are_results (subst (λ y. Contains (variables_of y) v) (sym is) h)).0

      by : (i < length blocks × (slice_get blocks i ≡ Some b)) ⊎ ((i ≡ length blocks) × (block ≡ b)) → (j < length blocks × (slice_get blocks j ≡ Some c)) ⊎ ((j ≡ length blocks) × (block ≡ c)) → i ≡ j
      by (inl x) (inl y) = own i j v b c x.1 y.1 in_b in_c
      by (inl x) (inr y) = let lt = below i v b x.1 in_b in let le = new c y.1 in_c in absurd (omega (arith, lt, le))
      by (inr x) (inl y) = let lt = below j v c y.1 in_c in let le = new b x.1 in_b in absurd (omega (arith, lt, le))
      by (inr x) (inr y) = x.0 ∙ sym y.0

  pub below_push : (next : ℕ) → next ≡ base + m + k → LieBelow next (blocks ++ block ∷ [])
  below_push next is_next i v b at_b in_b = by (get_last blocks block b i at_b)
    where
      by : (i < length blocks × (slice_get blocks i ≡ Some b)) ⊎ ((i ≡ length blocks) × (block ≡ b)) → v < next
      by (inl x) = let lt = below i v b x.1 in_b in omega (arith, lt, is_next)
      by (inr x) = let lt = (within base m k v block is_inputs are_results (subst (λ y. Contains (variables_of y) v) (sym x.1) in_b)).1 in omega (arith, lt, is_next)

-- ---- a block in place of one with the same variables

same_at : (blocks : List Block) (k i : ℕ) (old new b : Block) → slice_get blocks k ≡ Some old → variables_of old ≡ variables_of new → slice_get (slice_set blocks k new) i ≡ Some b → (x : Block) × (slice_get blocks i ≡ Some x) × (variables_of b ≡ variables_of x)
same_at [] k i old new b at same e = absurd (cc at)
same_at (x ∷ blocks) zero zero old new b at same e =
    let is_old : x ≡ old = cc in
    let is_new : new ≡ b = cc in
    (x, refl, sym (ap variables_of is_old ∙ same ∙ ap variables_of is_new))
same_at (x ∷ blocks) zero (suc i) old new b at same e = (b, e, refl)
same_at (x ∷ blocks) (suc k) zero old new b at same e = (b, e, refl)
same_at (x ∷ blocks) (suc k) (suc i) old new b at same e = same_at blocks k i old new b at same e

module _ (blocks : List Block) (k : ℕ) (old new : Block) (at : slice_get blocks k ≡ Some old) (same : variables_of old ≡ variables_of new) where
  pub own_set : HaveOwnVariables blocks → HaveOwnVariables (slice_set blocks k new)
  own_set own i j v b c at_b at_c in_b in_c =
      let x = same_at blocks k i old new b at same at_b in
      let y = same_at blocks k j old new c at same at_c in
      own i j v x.0 y.0 x.1 y.1 (subst (λ l. Contains l v) x.2 in_b) (subst (λ l. Contains l v) y.2 in_c)

  pub below_set : (next : ℕ) → LieBelow next blocks → LieBelow next (slice_set blocks k new)
  below_set next below i v b at_b in_b =
      let x = same_at blocks k i old new b at same at_b in
      below i v x.0 x.1 (subst (λ l. Contains l v) x.2 in_b)
