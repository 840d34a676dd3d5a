use Rattle.rtyped_runs.specs.Laws.{of_classes, of_conversions, of_dicts, of_lists, of_lookups, of_values}
use Rattle.covered_runs.specs.Writing.{of_texts}
use Rattle.covered_runs.proofs.Writing.{operations_are_written_while}
use Rattle.covered_runs.proofs.laws.operations_are_written_while.Goals as goal

pub returns-clause-texts : goal.returns-clause-texts
returns-clause-texts c = operations_are_written_while of_texts

pub returns-clause-values : goal.returns-clause-values
returns-clause-values c = operations_are_written_while of_values

pub returns-clause-lists : goal.returns-clause-lists
returns-clause-lists c = operations_are_written_while of_lists

pub returns-clause-dicts : goal.returns-clause-dicts
returns-clause-dicts c = operations_are_written_while of_dicts

pub returns-clause-lookups : goal.returns-clause-lookups
returns-clause-lookups c = operations_are_written_while of_lookups

pub returns-clause-conversions : goal.returns-clause-conversions
returns-clause-conversions c = operations_are_written_while of_conversions

pub returns-clause-classes : goal.returns-clause-classes
returns-clause-classes c = operations_are_written_while of_classes
