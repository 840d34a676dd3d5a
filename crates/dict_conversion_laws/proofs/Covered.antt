-- Which failures are covered stays, whatever is asked for.
use Rattle.std.proofs.Common.{◌≡◌, ℕ, List, [], ◌∷◌, Option, Some, None, refl, ◌∙◌}
use Rattle.ll_build.specs.declared.needs.Helper.{Helper}
use Rattle.rtyper_data.specs.declared.found.Found.{Found}
use Rattle.rtyper_data.specs.Finding.{failures_of, helper_number, need_from, needed}
use Rattle.lower_laws.specs.Asked.{Ask, Help, Raise, Make, all_asked, number_of}
use Rattle.list_laws.proofs.Indexed.{number_covers}

helper_covers : (h : Helper) (found : Found) → (helper_number h found).1.covered ≡ found.covered
unfolding helper_number
helper_covers h found = by (need_from 0 found.needs found.caught h (failures_of h found.covered))
  where
    by : (o : Option ℕ) → (needed h (failures_of h found.covered) found o).1.covered ≡ found.covered
    by (Some n) = refl
    by None = refl

ask_covers : (a : Ask) (found : Found) → (number_of a found).1.covered ≡ found.covered
ask_covers (Help h) found = helper_covers h found
ask_covers (Raise h) found = helper_covers h found
ask_covers (Make s) found = number_covers s found

pub asks_cover : (asks : List Ask) (found : Found) → (all_asked asks found).covered ≡ found.covered
asks_cover [] found = refl
asks_cover (a ∷ asks) found = asks_cover asks (number_of a found).1 ∙ ask_covers a found
