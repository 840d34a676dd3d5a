use Rattle.lower_laws.proofs.Numbers.{div_is_helped, floor_div_is_helped, rest_is_helped, shl_is_helped, shr_is_helped, least_is_helped, greatest_is_helped, chr_is_helped, word_text_is_helped, flag_text_is_helped}
use Rattle.lower_laws.proofs.Others.{rising_is_helped, falling_is_helped}
use Rattle.lower_laws.proofs.laws.numbers_are_helped.Goals as goal

pub returns-clause-div : goal.returns-clause-div
returns-clause-div c = div_is_helped

pub returns-clause-floor_div : goal.returns-clause-floor_div
returns-clause-floor_div c = floor_div_is_helped

pub returns-clause-rest : goal.returns-clause-rest
returns-clause-rest c = rest_is_helped

pub returns-clause-shl : goal.returns-clause-shl
returns-clause-shl c = shl_is_helped

pub returns-clause-shr : goal.returns-clause-shr
returns-clause-shr c = shr_is_helped

pub returns-clause-least : goal.returns-clause-least
returns-clause-least c = least_is_helped

pub returns-clause-greatest : goal.returns-clause-greatest
returns-clause-greatest c = greatest_is_helped

pub returns-clause-chr : goal.returns-clause-chr
returns-clause-chr c = chr_is_helped

pub returns-clause-word_text : goal.returns-clause-word_text
returns-clause-word_text c = word_text_is_helped

pub returns-clause-flag_text : goal.returns-clause-flag_text
returns-clause-flag_text c = flag_text_is_helped

pub returns-clause-rising : goal.returns-clause-rising
returns-clause-rising c = rising_is_helped

pub returns-clause-falling : goal.returns-clause-falling
returns-clause-falling c = falling_is_helped
