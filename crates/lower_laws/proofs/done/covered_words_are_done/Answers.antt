use Rattle.lower_laws.proofs.Raised.{div_is_raised, floor_is_raised, mod_is_raised, shl_is_raised, shr_is_raised}
use Rattle.lower_laws.proofs.done.covered_words_are_done.Goals as goal

pub returns-clause-div : goal.returns-clause-div
returns-clause-div c = div_is_raised

pub returns-clause-floor_div : goal.returns-clause-floor_div
returns-clause-floor_div c = floor_is_raised

pub returns-clause-rest : goal.returns-clause-rest
returns-clause-rest c = mod_is_raised

pub returns-clause-shl : goal.returns-clause-shl
returns-clause-shl c = shl_is_raised

pub returns-clause-shr : goal.returns-clause-shr
returns-clause-shr c = shr_is_raised
