use Rattle.compared_rows.proofs.Telling.{numbers_written, bytes_written, strings_written}
use Rattle.compared_rows.proofs.laws.conversions_are_written.Goals as goal

pub returns-clause-numbers : goal.returns-clause-numbers
returns-clause-numbers c = numbers_written

pub returns-clause-bytes : goal.returns-clause-bytes
returns-clause-bytes c = bytes_written

pub returns-clause-strings : goal.returns-clause-strings
returns-clause-strings c = strings_written
