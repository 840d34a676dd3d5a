-- Lists and dicts that are constants: what is made, and the rounds.
use Rattle.std.proofs.Common.{◌≡◌, ◌<◌, ℕ, suc, ◌+◌, ◌-◌, ◌==◌, Bool, List, length, map, sym, ap, ◌∙◌, arith}
use Rattle.std.specs.Prelude.{min, if◌then◌else◌}
use Rattle.rpy_tree.specs.declared.program.Const.{Const, fold-roll-Const}
use Rattle.rpy_tree.specs.declared.program.Const.TheVariants as const
use Rattle.rpy_tree.specs.declared.program.Const.TheOpen.{Const-F}
use Rattle.rpy_tree.specs.declared.program.Site.{Site}
use Rattle.rtyper_data.specs.declared.found.Found.{Found}
use Rattle.rtyper_op.specs.Prebuilt.{are_true, is_ready, ready_step, round, rounds, site_made, sites_from}
use Rattle.rtyper_data.specs.Seen.{Around}

pub tuple_is : (found : Found) (parts : List Const) → is_ready found (const.Tuple parts) ≡ are_true (map (is_ready found) parts)
tuple_is found parts = ap (is_ready found) (sym (const.rolls-Tuple parts)) ∙ fold-roll-Const Bool (ready_step found) (Const-F.Tuple parts)

module _ (around : Around) (sites : List Site) (same : List ℕ) where
  pub next_site : (n turn site : ℕ) (found : Found) → turn < n → sites_from around sites same (n - turn) site found ≡ sites_from around sites same (n - (turn + 1)) (min (site + 1) 4294967295) (site_made around sites same site found)
  next_site n turn site found h = let k : n - turn ≡ suc (n - (turn + 1)) = omega (arith, h) in ap (λ k. sites_from around sites same k site found) k

  pub next_round : (n turn : ℕ) (found : Found) → turn < n
      → rounds around sites same (n - turn) found ≡ (if length (round around sites same found).prebuilt == length found.prebuilt then round around sites same found else rounds around sites same (n - (turn + 1)) (round around sites same found))
  next_round n turn found h = let k : n - turn ≡ suc (n - (turn + 1)) = omega (arith, h) in ap (λ k. rounds around sites same k found) k
