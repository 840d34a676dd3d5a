use Rattle.std.proofs.Common.{refl}
use Rattle.flow_space.proofs.Narrows.{names_none, names_word, names_bool, names_text, names_function, names_tuple, names_list, names_dict}
use Rattle.flow_space.proofs.narrow.is_nothing.Goals as goal

pub returns-in-None : goal.returns-in-None
returns-in-None c = λ sites node whole. rw (c.in-None.is, names_none) refl

pub returns-in-Word : goal.returns-in-Word
returns-in-Word c = λ sites node whole. rw (c.in-Word.is, names_word) refl

pub returns-in-Bool : goal.returns-in-Bool
returns-in-Bool c = λ sites node whole. rw (c.in-Bool.is, names_bool) refl

pub returns-in-Str : goal.returns-in-Str
returns-in-Str c = λ sites node whole. rw (c.in-Str.is, names_text) refl

pub returns-in-Function : goal.returns-in-Function
returns-in-Function c = λ sites node whole. rw (c.in-Function.is, names_function) refl

pub returns-in-Tuple : goal.returns-in-Tuple
returns-in-Tuple c = λ sites node whole. rw (c.in-Tuple.is, names_tuple) refl

pub returns-in-List : goal.returns-in-List
returns-in-List c = λ sites node whole. rw (c.in-List.is, names_list) refl

pub returns-in-Dict : goal.returns-in-Dict
returns-in-Dict c = λ sites node whole. rw (c.in-Dict.is, names_dict) refl
