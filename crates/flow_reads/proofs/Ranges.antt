-- Ranges of blocks each of which reads its own variables alone.
use Rattle.std.proofs.Common.{◌≡◌, ℕ, ◌<◌, ◌≤◌, inl, inr, Bool, Option, Some, None, sym, ◌∙◌, subst, arith}
use Rattle.std.specs.Prelude.{slice_get}
use Rattle.std.proofs.lemmas.Bool.{cases_lt}
use Rattle.flow_graph.specs.declared.graph.Block.{Block as Code}
use Rattle.flow_graph.specs.declared.graph.Graphs.{Graphs}
use Rattle.flow_meaning.specs.Machine.{block_in}
use Rattle.flow_stands.specs.Places.{Shape, numbered}
use Rattle.flow_trees.specs.Marks.{Alone}
use Rattle.flow_reads.specs.Reads.{ReadsOwn}
use Rattle.flow_reads.proofs.Shapes.{Fits, reads_own}

abbrev IfRead : Option Code → Type 0
IfRead None = Unit {0}
IfRead (Some code) = ReadsOwn code

module _ (gs : Graphs) (f : ℕ) where
  pub record AllOwn (lo hi : ℕ) : Type 0 where
    pub rise : lo ≤ hi
    pub own : (b : ℕ) → lo ≤ b → b < hi → (code : Code) → block_in (slice_get gs.graphs f) b ≡ Some code → ReadsOwn code

  pub join : {lo mid hi : ℕ} → AllOwn lo mid → AllOwn mid hi → AllOwn lo hi
  join {lo} {mid} {hi} x y = record {
    rise = omega (arith, x.rise, y.rise);
    own = λ b l r code is. elim (cases_lt b mid) [ inl lt ↦ x.own b l lt code is | inr le ↦ y.own b le r code is ];
  }

  pub nothing : {lo hi : ℕ} → lo ≡ hi → AllOwn lo hi
  nothing e = record { rise = omega (arith, e); own = λ b l r code is. absurd (omega (arith, e, l, r)) }

  pub one : {lo hi : ℕ} (b base m node : ℕ) (value : Bool) (shape : Shape) → Fits m shape → block_in (slice_get gs.graphs f) b ≡ Some (numbered base m node value shape) → Alone b lo hi → AllOwn lo hi
  one b base m node value shape fits stands alone = record {
    rise = omega (arith, alone.0, alone.1);
    own = λ i l r code is.
        let here : i ≡ b = omega (arith, alone.0, alone.1, l, r) in
        let there = subst (λ (j : ℕ). block_in (slice_get gs.graphs f) j ≡ Some code) here is in
        subst IfRead (sym stands ∙ there) (reads_own base m node value shape fits);
  }
