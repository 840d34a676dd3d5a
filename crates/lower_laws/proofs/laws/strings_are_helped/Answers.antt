use Rattle.lower_laws.proofs.Strings.{len_is_helped, index_is_helped, walk_is_helped, has_item_is_helped, item_is_helped, add_is_helped, mul_is_helped, but_last_is_helped}
use Rattle.lower_laws.proofs.Sliced.{slice_is_helped, up_to_is_helped, from_is_helped, whole_is_helped}
use Rattle.lower_laws.proofs.Others.{write_is_helped}
use Rattle.lower_laws.proofs.laws.strings_are_helped.Goals as goal

pub returns-clause-len : goal.returns-clause-len
returns-clause-len c = len_is_helped

pub returns-clause-index : goal.returns-clause-index
returns-clause-index c = index_is_helped

pub returns-clause-walk : goal.returns-clause-walk
returns-clause-walk c = walk_is_helped

pub returns-clause-has_item : goal.returns-clause-has_item
returns-clause-has_item c = has_item_is_helped

pub returns-clause-item : goal.returns-clause-item
returns-clause-item c = item_is_helped

pub returns-clause-add : goal.returns-clause-add
returns-clause-add c = add_is_helped

pub returns-clause-mul : goal.returns-clause-mul
returns-clause-mul c = mul_is_helped

pub returns-clause-but_last : goal.returns-clause-but_last
returns-clause-but_last c = but_last_is_helped

pub returns-clause-slice : goal.returns-clause-slice
returns-clause-slice c = slice_is_helped

pub returns-clause-up_to : goal.returns-clause-up_to
returns-clause-up_to c = up_to_is_helped

pub returns-clause-from : goal.returns-clause-from
returns-clause-from c = from_is_helped

pub returns-clause-whole : goal.returns-clause-whole
returns-clause-whole c = whole_is_helped

pub returns-clause-write : goal.returns-clause-write
returns-clause-write c = write_is_helped
