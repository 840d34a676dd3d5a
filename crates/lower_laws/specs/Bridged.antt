-- Laws of the first forms are laws of the last one.
use Rattle.std.specs.Prelude.{◌≡◌, Bool, true, ◌&&◌, List, [], ◌∷◌}
use Rattle.rpy_meaning.specs.declared.row.Covers.{Covers}
use Rattle.rpy_meaning.specs.declared.row.RowOp.{RowOp}
use Rattle.rpy_meaning.specs.Classes.{no_covers}
use Rattle.ll_build.specs.declared.needs.Helper.{Helper}
use Rattle.rtyper_layout.specs.Kinds.{kind_seen}
use Rattle.rtyper_data.specs.Seen.{Around, Operand, Place, Writing}
use Rattle.lower_laws.specs.Asked.{Help}
use Rattle.lower_laws.specs.Done.{IsDone}
use Rattle.lower_laws.specs.Follows.{IsFollowed}
use Rattle.lower_laws.specs.Helped.{IsHelped}
use Rattle.lower_laws.specs.Values.{is_plain}

abbrev pub are_plain : List Operand → Bool
are_plain [] = true
are_plain (a ∷ args) = is_plain (kind_seen a.element) && are_plain args

-- what the machine does itself is done, whatever is covered
abbrev pub FollowedIsDone : Type 0
FollowedIsDone = (around : Around) (o : RowOp) (place : Place) (args : List Operand) (w : Writing) → IsFollowed around o place args w → is_plain (kind_seen place.element) ≡ true → are_plain args ≡ true → (covers : Covers) → IsDone around o covers [] place args w

-- and so is what a helper does
abbrev pub HelpedIsDone : Type 0
HelpedIsDone = (around : Around) (o : RowOp) (h : Helper) (place : Place) (args : List Operand) (w : Writing) → IsHelped around o h place args w → is_plain (kind_seen place.element) ≡ true → are_plain args ≡ true → IsDone around o no_covers (Help h ∷ []) place args w
