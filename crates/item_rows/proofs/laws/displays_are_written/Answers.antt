use Rattle.item_rows.proofs.Displays.{displays_are_written}
use Rattle.item_rows.proofs.laws.displays_are_written.Goals as goal

pub returns : goal.returns
returns c = displays_are_written
