use Rattle.covered_text_laws.proofs.Operations.{ends_done, find_done, starts_done, strip_done}
use Rattle.covered_text_laws.proofs.laws.covered_methods_are_done.Goals as goal

pub returns-clause-strip : goal.returns-clause-strip
returns-clause-strip c = strip_done

pub returns-clause-starts : goal.returns-clause-starts
returns-clause-starts c = starts_done

pub returns-clause-ends : goal.returns-clause-ends
returns-clause-ends c = ends_done

pub returns-clause-find : goal.returns-clause-find
returns-clause-find c = find_done
