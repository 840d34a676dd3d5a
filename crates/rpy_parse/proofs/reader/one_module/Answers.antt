use Rattle.rpy_parse.proofs.Exact.{one_module}
use Rattle.rpy_parse.proofs.Answered.{none_of_dead}
use Rattle.rpy_parse.proofs.reader.one_module.Goals as goal

pub returns : goal.returns
returns c = record { one = one_module; none = none_of_dead }
