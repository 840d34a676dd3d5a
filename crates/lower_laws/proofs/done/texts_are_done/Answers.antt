use Rattle.lower_laws.proofs.Strung.{len_is_strung, but_last_is_strung, add_is_strung, mul_is_strung, index_is_strung, has_item_is_strung, item_is_strung, strip_is_strung, starts_is_strung, ends_is_strung, find_is_strung}
use Rattle.lower_laws.proofs.done.texts_are_done.Goals as goal

pub returns-clause-len : goal.returns-clause-len
returns-clause-len c = len_is_strung

pub returns-clause-but_last : goal.returns-clause-but_last
returns-clause-but_last c = but_last_is_strung

pub returns-clause-add : goal.returns-clause-add
returns-clause-add c = add_is_strung

pub returns-clause-mul : goal.returns-clause-mul
returns-clause-mul c = mul_is_strung

pub returns-clause-index : goal.returns-clause-index
returns-clause-index c = index_is_strung

pub returns-clause-has_item : goal.returns-clause-has_item
returns-clause-has_item c = has_item_is_strung

pub returns-clause-item : goal.returns-clause-item
returns-clause-item c = item_is_strung

pub returns-clause-strip : goal.returns-clause-strip
returns-clause-strip c = strip_is_strung

pub returns-clause-starts : goal.returns-clause-starts
returns-clause-starts c = starts_is_strung

pub returns-clause-ends : goal.returns-clause-ends
returns-clause-ends c = ends_is_strung

pub returns-clause-find : goal.returns-clause-find
returns-clause-find c = find_is_strung
