-- What is asked for in parts, and what is known of keys.
use Rattle.std.proofs.Common.{◌≡◌, ℕ, List, [], ◌∷◌, ◌++◌, ◌∙◌, append_assoc}
use Rattle.csub_tree.specs.State.{Value, Core}
use Rattle.ll_code.specs.declared.program.LlProgram.{LlProgram}
use Rattle.ll_build.specs.declared.needs.Numbers.{Numbers}
use Rattle.rtyper_data.specs.declared.found.Found.{Found}
use Rattle.rtyper_data.specs.Seen.{Around}
use Rattle.lower_laws.specs.Asked.{Ask, all_asked, number_of}
use Rattle.dict_find_laws.specs.Asked.{HasAll}

module _ (p : LlProgram) (around : Around) (numbers : Numbers) (raised : ℕ → Value) (core : Core) where
  pub has_first : (asks more : List Ask) (found : Found) → HasAll p around.layout numbers raised core (asks ++ more) found → HasAll p around.layout numbers raised core asks found
  has_first [] more found h = tt
  has_first (a ∷ asks) more found h = (h.0, has_first asks more (number_of a found).1 h.1)

  pub has_more : (asks more : List Ask) (found : Found) → HasAll p around.layout numbers raised core (asks ++ more) found → HasAll p around.layout numbers raised core more (all_asked asks found)
  has_more [] more found h = h
  has_more (a ∷ asks) more found h = has_more asks more (number_of a found).1 h.1

-- three lists and more, one behind the other
pub five_parts : {A : Type 0} (xs ys zs : List A) (a b : A) (more : List A) → ((((xs ++ ys) ++ zs) ++ a ∷ []) ++ b ∷ []) ++ more ≡ xs ++ (ys ++ (zs ++ (a ∷ b ∷ more)))
five_parts xs ys zs a b more =
    append_assoc (((xs ++ ys) ++ zs) ++ a ∷ []) (b ∷ []) more ∙ append_assoc ((xs ++ ys) ++ zs) (a ∷ []) (b ∷ more) ∙ append_assoc (xs ++ ys) zs (a ∷ b ∷ more) ∙ append_assoc xs ys (zs ++ (a ∷ b ∷ more))
