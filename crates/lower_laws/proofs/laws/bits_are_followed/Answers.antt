use Rattle.lower_laws.proofs.Bits.{bit_and_is_followed, bit_or_is_followed, bit_xor_is_followed, bit_not_is_followed}
use Rattle.lower_laws.proofs.laws.bits_are_followed.Goals as goal

pub returns-clause-and : goal.returns-clause-and
returns-clause-and c = bit_and_is_followed

pub returns-clause-or : goal.returns-clause-or
returns-clause-or c = bit_or_is_followed

pub returns-clause-xor : goal.returns-clause-xor
returns-clause-xor c = bit_xor_is_followed

pub returns-clause-not : goal.returns-clause-not
returns-clause-not c = bit_not_is_followed
