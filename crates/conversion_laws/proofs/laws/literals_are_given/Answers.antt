use Rattle.conversion_laws.proofs.Given.{flags_are_given, none_is_given, strings_are_given, words_are_given}
use Rattle.conversion_laws.proofs.laws.literals_are_given.Goals as goal

pub returns-clause-words : goal.returns-clause-words
returns-clause-words c = words_are_given

pub returns-clause-flags : goal.returns-clause-flags
returns-clause-flags c = flags_are_given

pub returns-clause-strings : goal.returns-clause-strings
returns-clause-strings c = strings_are_given

pub returns-clause-none : goal.returns-clause-none
returns-clause-none c = none_is_given
