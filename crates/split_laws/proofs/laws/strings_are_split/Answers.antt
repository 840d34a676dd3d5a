use Rattle.split_laws.proofs.Splitting.{strings_are_split}
use Rattle.split_laws.proofs.laws.strings_are_split.Goals as goal

pub returns : goal.returns
returns c = strings_are_split
