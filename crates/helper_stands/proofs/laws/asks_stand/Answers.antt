use Rattle.helper_stands.proofs.Asks.{class_asks_stand, dict_asks_stand, list_asks_stand, text_asks_stand}
use Rattle.helper_stands.proofs.laws.asks_stand.Goals as goal

pub returns-clause-texts : goal.returns-clause-texts
returns-clause-texts c = text_asks_stand

pub returns-clause-lists : goal.returns-clause-lists
returns-clause-lists c = list_asks_stand

pub returns-clause-classes : goal.returns-clause-classes
returns-clause-classes c = class_asks_stand

pub returns-clause-dicts : goal.returns-clause-dicts
returns-clause-dicts c = dict_asks_stand
