use Rattle.value_rows.proofs.Literals.{words, flags, strings, nones, constants_given}
use Rattle.value_rows.proofs.laws.literals_are_written.Goals as goal

pub returns-clause-words : goal.returns-clause-words
returns-clause-words c = words

pub returns-clause-flags : goal.returns-clause-flags
returns-clause-flags c = flags

pub returns-clause-strings : goal.returns-clause-strings
returns-clause-strings c = strings

pub returns-clause-nones : goal.returns-clause-nones
returns-clause-nones c = nones

pub returns-clause-constants : goal.returns-clause-constants
returns-clause-constants c = constants_given
