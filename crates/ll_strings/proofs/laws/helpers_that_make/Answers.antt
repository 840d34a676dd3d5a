use Rattle.ll_strings.proofs.Adding.{add_is}
use Rattle.ll_strings.proofs.Slices.{but_last_is, slice_is, up_to_is, from_is, all_is}
use Rattle.ll_strings.proofs.Repeating.{mul_is}
use Rattle.ll_strings.proofs.Stripping.{strip_is}
use Rattle.ll_strings.proofs.Decimals.{of_word_is}
use Rattle.ll_strings.proofs.laws.helpers_that_make.Goals as goal

pub returns-clause-add : goal.returns-clause-add
returns-clause-add c = add_is

pub returns-clause-but_last : goal.returns-clause-but_last
returns-clause-but_last c = but_last_is

pub returns-clause-slice : goal.returns-clause-slice
returns-clause-slice c = slice_is

pub returns-clause-up_to : goal.returns-clause-up_to
returns-clause-up_to c = up_to_is

pub returns-clause-from : goal.returns-clause-from
returns-clause-from c = from_is

pub returns-clause-whole : goal.returns-clause-whole
returns-clause-whole c = all_is

pub returns-clause-mul : goal.returns-clause-mul
returns-clause-mul c = mul_is

pub returns-clause-strip : goal.returns-clause-strip
returns-clause-strip c = strip_is

pub returns-clause-of_word : goal.returns-clause-of_word
returns-clause-of_word c = of_word_is
