-- Helpers stand at their numbers, and raise those of their failures that are covered.
use Rattle.std.proofs.Common.{◌≡◌, ◌<◌, ◌^◌, ℕ, List, [], ◌∷◌, Option, Some, None, length, subst, refl, sym, ◌∙◌}
use Rattle.ll_build.specs.declared.needs.Helper.{Helper}
use Rattle.ll_build.specs.declared.needs.Numbers.{Numbers}
use Rattle.ll_code.specs.declared.program.LlBlock.{LlBlock}
use Rattle.ll_code.specs.declared.program.LlProgram.{LlProgram}
use Rattle.ll_helpers.specs.Helpers.{graph_for}
use Rattle.rpy_meaning.specs.declared.row.Covers.{Covers}
use Rattle.rtyper_data.specs.declared.found.Found.{Found}
use Rattle.rtyper_data.specs.Finding.{failures_of, helper_number}
use Rattle.rtyper_raising.specs.Raising.{failing_with, raised_in as classes_in, raising_block, raising_blocks, with_class}
use Rattle.rtyper_class.specs.Seen.{World}
use Rattle.rtyper_program.specs.Seen.{Known}
use Rattle.lower_laws.specs.Asked.{HasRaising}
use Rattle.growth_laws.specs.Growing.{Grows}
use Rattle.program_asks.specs.Standing.{HasAsked, HelperStands}
use Rattle.rtyped_laws.specs.Having.{HelpersHaveTheirs, raised_in}
use Rattle.rtyped_laws.proofs.Raised.{all_raise, all_raised}

block_as : (b : LlBlock) (o : Option ℕ) (classes : List ℕ) (made : Found) → all_raised (with_class o classes) made ≡ all_raised classes (raising_block b o made).1
block_as b None classes made = refl
block_as b (Some class) classes made = refl

blocks_as : (c : Covers) (bs : List LlBlock) (made : Found) → all_raised (classes_in c bs) made ≡ (raising_blocks c bs made).1
blocks_as c [] made = refl
blocks_as c (b ∷ bs) made = block_as b (failing_with b.exit c) (classes_in c bs) made ∙ blocks_as c bs (raising_block b (failing_with b.exit c) made).1

module _ (p : LlProgram) (known : Known) (world : World) (numbers : Numbers) (first last : Found) (has : HasAsked p known world numbers first last) (few : length p.graphs < 2 ^ 64) where
  stands_so : (h : Helper) (covers : Covers) (n : ℕ) → HelperStands p.graphs numbers last n h covers → HasRaising p numbers (raised_in world) h covers n
  stands_so h covers n s = record {
    made = s.made;
    graph = s.graph;
    raises = all_raise p known world numbers first last has few (classes_in covers (graph_for numbers h).blocks) s.made
        (subst (λ f. Grows f last) (sym (blocks_as covers (graph_for numbers h).blocks s.made)) s.grows);
  }

pub helpers_have_theirs : HelpersHaveTheirs
helpers_have_theirs p known world numbers first last has few h found early late =
    stands_so p known world numbers first last has few h (failures_of h found.covered) (helper_number h found).0 (has.helpers h found early late)
