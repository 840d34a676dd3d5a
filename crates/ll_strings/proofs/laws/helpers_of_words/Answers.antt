use Rattle.ll_strings.proofs.Words.{div_is, floor_div_is, shl_is, min_is, max_is}
use Rattle.ll_strings.proofs.Ranges.{mod_is, rising_is, falling_is}
use Rattle.ll_strings.proofs.Shifts.{shr_is}
use Rattle.ll_strings.proofs.laws.helpers_of_words.Goals as goal

pub returns-clause-div : goal.returns-clause-div
returns-clause-div c = div_is

pub returns-clause-floor_div : goal.returns-clause-floor_div
returns-clause-floor_div c = floor_div_is

pub returns-clause-rest : goal.returns-clause-rest
returns-clause-rest c = mod_is

pub returns-clause-shl : goal.returns-clause-shl
returns-clause-shl c = shl_is

pub returns-clause-shr : goal.returns-clause-shr
returns-clause-shr c = shr_is

pub returns-clause-least : goal.returns-clause-least
returns-clause-least c = min_is

pub returns-clause-greatest : goal.returns-clause-greatest
returns-clause-greatest c = max_is

pub returns-clause-rising : goal.returns-clause-rising
returns-clause-rising c = rising_is

pub returns-clause-falling : goal.returns-clause-falling
returns-clause-falling c = falling_is
