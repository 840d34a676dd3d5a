use Rattle.ll_strings.proofs.Words.{chr_is, digit_is}
use Rattle.ll_strings.proofs.Letters.{alpha_is}
use Rattle.ll_strings.proofs.Asking.{of_char_is, of_bool_is}
use Rattle.ll_strings.proofs.Bytes.{space_is}
use Rattle.ll_strings.proofs.laws.helpers_of_bytes.Goals as goal

pub returns-clause-chr : goal.returns-clause-chr
returns-clause-chr c = chr_is

pub returns-clause-digit : goal.returns-clause-digit
returns-clause-digit c = digit_is

pub returns-clause-alpha : goal.returns-clause-alpha
returns-clause-alpha c = alpha_is

pub returns-clause-of_char : goal.returns-clause-of_char
returns-clause-of_char c = of_char_is

pub returns-clause-of_bool : goal.returns-clause-of_bool
returns-clause-of_bool c = of_bool_is

pub returns-clause-space : goal.returns-clause-space
returns-clause-space c = space_is
