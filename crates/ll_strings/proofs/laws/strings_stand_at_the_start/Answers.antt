use Rattle.ll_strings.proofs.Texts.{start_stands, text_stands}
use Rattle.ll_strings.proofs.laws.strings_stand_at_the_start.Goals as goal

pub returns-clause-statics : goal.returns-clause-statics
returns-clause-statics c = start_stands

pub returns-clause-text : goal.returns-clause-text
returns-clause-text c = text_stands
