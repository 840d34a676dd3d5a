use Rattle.flow_trees.proofs.Told.{told_of_what_is_read}
use Rattle.flow_trees.proofs.laws.tests_tell_of_what_they_read.Goals as goal

pub returns : goal.returns
returns c = λ e way t h. told_of_what_is_read e way t h
