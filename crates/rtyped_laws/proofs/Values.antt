-- Small graphs of values stand at their numbers, and what they raise is raised.
use Rattle.std.proofs.Common.{◌≡◌, ◌<◌, ◌^◌, ℕ, Bool, [], ◌∷◌, true, false, length, subst, refl}
use Rattle.csub_tree.specs.declared.tree.CBinary.{CBinary}
use Rattle.csub_tree.specs.declared.tree.CBinary.TheVariants as binary
use Rattle.ll_code.specs.declared.program.LlType.{LlType}
use Rattle.ll_build.specs.declared.needs.Numbers.{Numbers}
use Rattle.ll_code.specs.declared.program.LlProgram.{LlProgram}
use Rattle.rtyper_data.specs.declared.found.Found.{Found}
use Rattle.rtyper_data.specs.declared.small.Small.{Small}
use Rattle.rtyper_data.specs.declared.small.Small.TheVariants as small
use Rattle.rtyper_data.specs.Finding.{small_number}
use Rattle.rtyper_data.specs.CheckedGraphs.{checked_graph}
use Rattle.rtyper_data.specs.Graphs.{failing, failure, present}
use Rattle.rtyper_data.specs.IntOfText.{int_graph}
use Rattle.rtyper_class.specs.Seen.{World}
use Rattle.rtyper_program.specs.Seen.{Known}
use Rattle.lower_laws.specs.Asked.{HasSmall, checked_raises, if_raised}
use Rattle.growth_laws.specs.Growing.{Grows}
use Rattle.program_asks.specs.Standing.{HasAsked, Stands}
use Rattle.rtyped_laws.specs.Having.{ValuesHaveTheirs, of_values, raised_in}
use Rattle.rtyped_laws.proofs.Raised.{all_raise, all_raised}

fails_as : (raises : Bool) (made : Found) → (failure raises made).1 ≡ all_raised (if_raised raises 9) made
unfolding failing
fails_as true made = refl
fails_as false made = refl

present_as : (t : LlType) (raises : Bool) (made : Found) → (present t raises made).1 ≡ all_raised (if_raised raises 9) made
unfolding failing
present_as t true made = refl
present_as t false made = refl

int_as : (made : Found) → (int_graph made).1 ≡ all_raised (8 ∷ []) made
unfolding failing
int_as made = refl

checked_as : (o : CBinary) (raises : Bool) (made : Found) → (checked_graph o raises made).1 ≡ all_raised (checked_raises o raises) made
unfolding failing
checked_as binary.Add raises made = refl
checked_as binary.Sub raises made = refl
checked_as binary.Mul raises made = refl
checked_as binary.Shl true made = refl
checked_as binary.Shl false made = refl
checked_as binary.Mod true made = refl
checked_as binary.Mod false made = refl
checked_as other true made = refl
checked_as other false made = refl

module _ (p : LlProgram) (known : Known) (world : World) (numbers : Numbers) (first last : Found) (has : HasAsked p known world numbers first last) (few : length p.graphs < 2 ^ 64) where
  stands_so : (s : Small) → of_values s ≡ true → (n : ℕ) → Stands p.graphs world last n s → HasSmall p world.around.layout (raised_in world) s n
  stands_so (small.Cast i j) h n s = record { made = s.made; graph = s.graph; raises = tt }
  stands_so (small.Equal i j) h n s = record { made = s.made; graph = s.graph; raises = tt }
  stands_so (small.Fail raises) h n s = record { made = s.made; graph = s.graph; raises = all_raise p known world numbers first last has few (if_raised raises 9) s.made (subst (λ f. Grows f last) (fails_as raises s.made) s.grows) }
  stands_so (small.Present t raises) h n s = record { made = s.made; graph = s.graph; raises = all_raise p known world numbers first last has few (if_raised raises 9) s.made (subst (λ f. Grows f last) (present_as t raises s.made) s.grows) }
  stands_so (small.Checked o raises) h n s = record { made = s.made; graph = s.graph; raises = all_raise p known world numbers first last has few (checked_raises o raises) s.made (subst (λ f. Grows f last) (checked_as o raises s.made) s.grows) }
  stands_so small.CheckedNeg h n s = record { made = s.made; graph = s.graph; raises = all_raise p known world numbers first last has few (3 ∷ []) s.made s.grows }
  stands_so small.IntOfText h n s = record { made = s.made; graph = s.graph; raises = all_raise p known world numbers first last has few (8 ∷ []) s.made (subst (λ f. Grows f last) (int_as s.made) s.grows) }
  stands_so other h n s = absurd (let f : false ≡ true = h in cc)

pub values_have_theirs : ValuesHaveTheirs
values_have_theirs p known world numbers first last has few s h found late = stands_so p known world numbers first last has few s h (small_number s found).0 (has.smalls few s found late)
