use Rattle.growth_laws.proofs.ClassGraphs.{class_graph_grows}
use Rattle.growth_laws.proofs.DictGraphs.{dict_graph_grows}
use Rattle.growth_laws.proofs.laws.graphs_only_ask.Goals as goal

pub returns-clause-dicts : goal.returns-clause-dicts
returns-clause-dicts c = dict_graph_grows

pub returns-clause-classes : goal.returns-clause-classes
returns-clause-classes c = class_graph_grows
