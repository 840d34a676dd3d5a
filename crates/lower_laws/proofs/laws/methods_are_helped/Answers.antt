use Rattle.lower_laws.proofs.Methods.{digit_is_helped, alpha_is_helped, space_is_helped, strip_is_helped, starts_is_helped, ends_is_helped, find_is_helped}
use Rattle.lower_laws.proofs.laws.methods_are_helped.Goals as goal

pub returns-clause-digit : goal.returns-clause-digit
returns-clause-digit c = digit_is_helped

pub returns-clause-alpha : goal.returns-clause-alpha
returns-clause-alpha c = alpha_is_helped

pub returns-clause-space : goal.returns-clause-space
returns-clause-space c = space_is_helped

pub returns-clause-strip : goal.returns-clause-strip
returns-clause-strip c = strip_is_helped

pub returns-clause-starts : goal.returns-clause-starts
returns-clause-starts c = starts_is_helped

pub returns-clause-ends : goal.returns-clause-ends
returns-clause-ends c = ends_is_helped

pub returns-clause-find : goal.returns-clause-find
returns-clause-find c = find_is_helped
