use Rattle.value_rows.proofs.Numbers.{smallest, largest}
use Rattle.value_rows.proofs.Words.{differences, quotients, floors, rests, left_shifts, right_shifts, conjunctions, disjunctions, exclusions}
use Rattle.value_rows.proofs.laws.word_operations_are_written.Goals as goal

pub returns-clause-differences : goal.returns-clause-differences
returns-clause-differences c = differences

pub returns-clause-quotients : goal.returns-clause-quotients
returns-clause-quotients c = quotients

pub returns-clause-floors : goal.returns-clause-floors
returns-clause-floors c = floors

pub returns-clause-rests : goal.returns-clause-rests
returns-clause-rests c = rests

pub returns-clause-left_shifts : goal.returns-clause-left_shifts
returns-clause-left_shifts c = left_shifts

pub returns-clause-right_shifts : goal.returns-clause-right_shifts
returns-clause-right_shifts c = right_shifts

pub returns-clause-conjunctions : goal.returns-clause-conjunctions
returns-clause-conjunctions c = conjunctions

pub returns-clause-disjunctions : goal.returns-clause-disjunctions
returns-clause-disjunctions c = disjunctions

pub returns-clause-exclusions : goal.returns-clause-exclusions
returns-clause-exclusions c = exclusions

pub returns-clause-smallest : goal.returns-clause-smallest
returns-clause-smallest c = smallest

pub returns-clause-largest : goal.returns-clause-largest
returns-clause-largest c = largest
