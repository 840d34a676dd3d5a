use Rattle.lower_laws.proofs.Words.{sum_is_followed, added_is_followed, difference_is_followed, product_is_followed}
use Rattle.lower_laws.proofs.Single.{opposite_is_followed, masked_is_followed, number_is_followed, copy_is_followed}
use Rattle.lower_laws.proofs.Bits.{plus_is_followed}
use Rattle.lower_laws.proofs.Truths.{word_truth_is_followed, word_untrue_is_followed, ord_is_followed}
use Rattle.lower_laws.proofs.laws.words_are_followed.Goals as goal

pub returns-clause-sum : goal.returns-clause-sum
returns-clause-sum c = sum_is_followed

pub returns-clause-added : goal.returns-clause-added
returns-clause-added c = added_is_followed

pub returns-clause-difference : goal.returns-clause-difference
returns-clause-difference c = difference_is_followed

pub returns-clause-product : goal.returns-clause-product
returns-clause-product c = product_is_followed

pub returns-clause-opposite : goal.returns-clause-opposite
returns-clause-opposite c = opposite_is_followed

pub returns-clause-plus : goal.returns-clause-plus
returns-clause-plus c = plus_is_followed

pub returns-clause-masked : goal.returns-clause-masked
returns-clause-masked c = masked_is_followed

pub returns-clause-number : goal.returns-clause-number
returns-clause-number c = number_is_followed

pub returns-clause-copy : goal.returns-clause-copy
returns-clause-copy c = copy_is_followed

pub returns-clause-truth : goal.returns-clause-truth
returns-clause-truth c = word_truth_is_followed

pub returns-clause-untrue : goal.returns-clause-untrue
returns-clause-untrue c = word_untrue_is_followed

pub returns-clause-ord : goal.returns-clause-ord
returns-clause-ord c = ord_is_followed
