use Rattle.list_laws.proofs.Walked.{walks_go_on, walks_give}
use Rattle.list_laws.proofs.Walking.{walks_begin}
use Rattle.list_laws.proofs.laws.walks_are_done.Goals as goal

pub returns-clause-begin : goal.returns-clause-begin
returns-clause-begin c = walks_begin

pub returns-clause-on : goal.returns-clause-on
returns-clause-on c = walks_go_on

pub returns-clause-item : goal.returns-clause-item
returns-clause-item c = walks_give
