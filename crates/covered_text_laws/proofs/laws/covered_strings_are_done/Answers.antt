use Rattle.covered_text_laws.proofs.Operations.{chr_done, from_done, slice_done, up_to_done, walk_done, whole_done}
use Rattle.covered_text_laws.proofs.laws.covered_strings_are_done.Goals as goal

pub returns-clause-walk : goal.returns-clause-walk
returns-clause-walk c = walk_done

pub returns-clause-slice : goal.returns-clause-slice
returns-clause-slice c = slice_done

pub returns-clause-up_to : goal.returns-clause-up_to
returns-clause-up_to c = up_to_done

pub returns-clause-from : goal.returns-clause-from
returns-clause-from c = from_done

pub returns-clause-whole : goal.returns-clause-whole
returns-clause-whole c = whole_done

pub returns-clause-chr : goal.returns-clause-chr
returns-clause-chr c = chr_done
