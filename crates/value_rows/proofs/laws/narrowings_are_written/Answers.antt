use Rattle.value_rows.proofs.Missing.{nothings, falses}
use Rattle.value_rows.proofs.Narrowed.{drops}
use Rattle.value_rows.proofs.laws.narrowings_are_written.Goals as goal

pub returns-clause-there : goal.returns-clause-there
returns-clause-there c = drops

pub returns-clause-missing : goal.returns-clause-missing
returns-clause-missing c = nothings

pub returns-clause-untrue : goal.returns-clause-untrue
returns-clause-untrue c = falses
