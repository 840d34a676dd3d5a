use Rattle.lower_laws.proofs.Printed.{print_is_done}
use Rattle.lower_laws.proofs.done.prints_are_done.Goals as goal

pub returns : goal.returns
returns c = print_is_done
