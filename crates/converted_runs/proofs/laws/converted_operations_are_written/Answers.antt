use Rattle.object_laws.specs.Done.{Any}
use Rattle.call_laws.specs.Calls.{HasMethod}
use Rattle.split_laws.specs.Splitting.{CanSplit}
use Rattle.converted_runs.specs.Writing.{of_classes, of_lists, of_tuples}
use Rattle.converted_runs.proofs.Writing.{behind_operations_are_written, called_operations_are_written, dict_operations_are_written, joined_operations_are_written, split_operations_are_written}
use Rattle.converted_runs.proofs.laws.converted_operations_are_written.Goals as goal

pub returns-clause-tuples : goal.returns-clause-tuples
returns-clause-tuples c = behind_operations_are_written of_tuples Any

pub returns-clause-lists : goal.returns-clause-lists
returns-clause-lists c = behind_operations_are_written of_lists Any

pub returns-clause-classes : goal.returns-clause-classes
returns-clause-classes c = behind_operations_are_written of_classes Any

pub returns-clause-called : goal.returns-clause-called
returns-clause-called c = called_operations_are_written (λ p. Any)

pub returns-clause-methods : goal.returns-clause-methods
returns-clause-methods c known name f = called_operations_are_written (λ p. HasMethod known name f)

pub returns-clause-dicts : goal.returns-clause-dicts
returns-clause-dicts c = dict_operations_are_written Any

pub returns-clause-split : goal.returns-clause-split
returns-clause-split c k = split_operations_are_written (CanSplit k)

pub returns-clause-joined : goal.returns-clause-joined
returns-clause-joined c = joined_operations_are_written
