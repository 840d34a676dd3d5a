use Rattle.layout_laws.proofs.Classes.{layouts_lay_out_classes}
use Rattle.layout_laws.proofs.laws.layouts_lay_out_classes.Goals as goal

pub returns : goal.returns
returns c = layouts_lay_out_classes
