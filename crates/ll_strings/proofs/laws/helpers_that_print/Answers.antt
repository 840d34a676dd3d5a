use Rattle.ll_strings.proofs.Putting.{print_str_is, print_bool_is, write_is}
use Rattle.ll_strings.proofs.Printing.{print_word_is}
use Rattle.ll_strings.proofs.laws.helpers_that_print.Goals as goal

pub returns-clause-text : goal.returns-clause-text
returns-clause-text c = print_str_is

pub returns-clause-flag : goal.returns-clause-flag
returns-clause-flag c = print_bool_is

pub returns-clause-write : goal.returns-clause-write
returns-clause-write c = write_is

pub returns-clause-word : goal.returns-clause-word
returns-clause-word c = print_word_is
