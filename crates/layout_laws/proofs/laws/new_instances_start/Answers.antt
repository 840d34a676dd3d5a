use Rattle.layout_laws.proofs.Instances.{instances_start}
use Rattle.layout_laws.proofs.Starting.{bases_are_laid, attributes_are_known}
use Rattle.layout_laws.proofs.laws.new_instances_start.Goals as goal

pub returns-clause-bases : goal.returns-clause-bases
returns-clause-bases c = bases_are_laid

pub returns-clause-attributes : goal.returns-clause-attributes
returns-clause-attributes c = attributes_are_known

pub returns-clause-whole : goal.returns-clause-whole
returns-clause-whole c = instances_start
