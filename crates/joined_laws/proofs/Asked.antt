-- The programs, run.
use Rattle.std.proofs.Common.{◌≡◌, ℕ, zero, suc, Bool, true, false, [], ◌∷◌, ◌||◌, ◌&&◌, not, ◌==◌, Some, refl, sym, ap, ◌∙◌, subst}
use Rattle.std.specs.Prelude.{slice_get}
use Rattle.ll_code.specs.declared.program.LlGraph.{LlGraph}
use Rattle.ll_code.specs.declared.program.LlBlock.{LlBlock}
use Rattle.ll_code.specs.Machine.{shapes_from}
use Rattle.ll_code.specs.Meaning.{run, within}
use Rattle.ll_live.specs.Live.{live, among}
use Rattle.ll_held.specs.Quiet.{ReadsInputs}
use Rattle.ll_joined.specs.Joined.{joined, joined_graph, way_from}
use Rattle.ll_code.specs.declared.program.LlType.TheVariants.{Signed}
use Rattle.joined_laws.specs.Asks.{Changes, graph, first_block, second_block, reads_another, sets_a_parameter, takes_twice, passes_unset, returns, stuck, ends}

another_before : within reads_another [] 0 9 ≡ Some (ends (returns 5))
unfolding run shapes_from
another_before = refl

another_after : within (joined reads_another) [] 0 9 ≡ Some (ends stuck)
unfolding run shapes_from way_from joined_graph
another_after = refl

pub another : Changes reads_another (returns 5) stuck
another = record { typed = refl; raw = refl; means = (9, another_before); joined_means = (9, another_after); differ = λ e. absurd (cc) }

parameter_before : within sets_a_parameter [] 0 9 ≡ Some (ends (returns 3))
unfolding run shapes_from
parameter_before = refl

parameter_after : within (joined sets_a_parameter) [] 0 9 ≡ Some (ends (returns 5))
unfolding run shapes_from way_from joined_graph
parameter_after = refl

pub parameter : Changes sets_a_parameter (returns 3) (returns 5)
parameter = record { typed = refl; raw = refl; means = (9, parameter_before); joined_means = (9, parameter_after); differ = λ e. absurd (cc) }

twice_before : within takes_twice [] 0 9 ≡ Some (ends (returns 6))
unfolding run shapes_from
twice_before = refl

twice_after : within (joined takes_twice) [] 0 9 ≡ Some (ends (returns 5))
unfolding run shapes_from way_from joined_graph
twice_after = refl

pub twice : Changes takes_twice (returns 6) (returns 5)
twice = record { typed = refl; raw = refl; means = (9, twice_before); joined_means = (9, twice_after); differ = λ e. absurd (cc) }

unset_before : within passes_unset [] 0 9 ≡ Some (ends stuck)
unfolding run shapes_from
unset_before = refl

unset_after : within (joined passes_unset) [] 0 9 ≡ Some (ends (returns 7))
unfolding run shapes_from way_from joined_graph
unset_after = refl

pub unset : Changes passes_unset stuck (returns 7)
unset = record { typed = refl; raw = refl; means = (9, unset_before); joined_means = (9, unset_after); differ = λ e. absurd (cc) }

-- ---- what its blocks read

abbrev only : LlGraph
only = graph 97 [] (Signed ∷ Signed ∷ Signed ∷ []) (first_block ∷ second_block ∷ [])

first_reads : (v : ℕ) → live first_block.ops first_block.exit v ≡ true → among v first_block.inputs ≡ true
first_reads v h = one (0 == v) (1 == v) h
  where
    one : (a b : Bool) → (false || (not a && (false || (not b && ((a || (b || false)) || false))))) ≡ true → false ≡ true
    one true b h = h
    one false true h = h
    one false false h = h

second_reads : (v : ℕ) → live second_block.ops second_block.exit v ≡ true → among v second_block.inputs ≡ true
second_reads v h = one (2 == v) h
  where
    one : (b : Bool) → ((b || false) || false) ≡ true → (b || (b || false)) ≡ true
    one true h = refl
    one false h = h

inside : (n : ℕ) (block : LlBlock) → slice_get only.blocks n ≡ Some block → (v : ℕ) → live block.ops block.exit v ≡ true → among v block.inputs ≡ true
inside zero block f v h = let b : first_block ≡ block = cc in subst (λ b. among v b.inputs ≡ true) b (first_reads v (subst (λ b. live b.ops b.exit v ≡ true) (sym b) h))
inside (suc zero) block f v h = let b : second_block ≡ block = cc in subst (λ b. among v b.inputs ≡ true) b (second_reads v (subst (λ b. live b.ops b.exit v ≡ true) (sym b) h))
inside (suc (suc n)) block f v h = absurd (cc)

pub twice_closed : ReadsInputs takes_twice
twice_closed zero graph e n block f v h = let g : only ≡ graph = cc in inside n block (ap (λ g. slice_get g.blocks n) g ∙ f) v h
twice_closed (suc g) graph e n block f v h = absurd (cc)
