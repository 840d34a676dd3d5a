use Rattle.rtyped_texts.proofs.Having.{empty_strings_stand, joins_have_theirs, splits_have_theirs}
use Rattle.rtyped_texts.proofs.laws.texts_have_theirs.Goals as goal

pub returns-clause-splits : goal.returns-clause-splits
returns-clause-splits c = splits_have_theirs

pub returns-clause-joins : goal.returns-clause-joins
returns-clause-joins c = joins_have_theirs

pub returns-clause-empty : goal.returns-clause-empty
returns-clause-empty c = empty_strings_stand
