use Rattle.lower_laws.proofs.Checked.{sum_is_done, difference_is_done, product_is_done, quotient_is_done, floor_is_done, rest_is_done, shift_is_done, neg_is_done}
use Rattle.lower_laws.proofs.done.checked_words_are_done.Goals as goal

pub returns-clause-sum : goal.returns-clause-sum
returns-clause-sum c = sum_is_done

pub returns-clause-difference : goal.returns-clause-difference
returns-clause-difference c = difference_is_done

pub returns-clause-product : goal.returns-clause-product
returns-clause-product c = product_is_done

pub returns-clause-div : goal.returns-clause-div
returns-clause-div c = quotient_is_done

pub returns-clause-floor_div : goal.returns-clause-floor_div
returns-clause-floor_div c = floor_is_done

pub returns-clause-rest : goal.returns-clause-rest
returns-clause-rest c = rest_is_done

pub returns-clause-shl : goal.returns-clause-shl
returns-clause-shl c = shift_is_done

pub returns-clause-opposite : goal.returns-clause-opposite
returns-clause-opposite c = neg_is_done
