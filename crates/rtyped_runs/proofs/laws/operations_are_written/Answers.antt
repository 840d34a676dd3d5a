use Rattle.class_laws.specs.Instances as classes
use Rattle.list_laws.specs.Presence as lists
use Rattle.dict_change_laws.specs.Changed.{CanStore, KeysAreThere}
use Rattle.dict_find_laws.specs.Lookups.{FirstIsThere, SecondIsThere}
use Rattle.rtyped_runs.specs.Laws.{of_changes, of_classes, of_conversions, of_dicts, of_lists, of_lookups, of_values}
use Rattle.rtyped_runs.proofs.Operations.{classed_operations_are_written, methods_are_written, methods_are_written_by_vtables, told_operations_are_written, given_operations_are_written, keyed_operations_are_written, copied_operations_are_written, listed_operations_are_written, done_operations_are_written, entered_operations_are_written, raised_operations_are_written}
use Rattle.rtyped_runs.proofs.laws.operations_are_written.Goals as goal

pub returns-clause-values : goal.returns-clause-values
returns-clause-values c = done_operations_are_written of_values

pub returns-clause-lists : goal.returns-clause-lists
returns-clause-lists c = done_operations_are_written of_lists

pub returns-clause-dicts : goal.returns-clause-dicts
returns-clause-dicts c = done_operations_are_written of_dicts

pub returns-clause-classes : goal.returns-clause-classes
returns-clause-classes c = done_operations_are_written of_classes

pub returns-clause-entered : goal.returns-clause-entered
returns-clause-entered c = entered_operations_are_written

pub returns-clause-raised : goal.returns-clause-raised
returns-clause-raised c = raised_operations_are_written

pub returns-clause-lookups : goal.returns-clause-lookups
returns-clause-lookups c = done_operations_are_written of_lookups

pub returns-clause-copied : goal.returns-clause-copied
returns-clause-copied c = copied_operations_are_written

pub returns-clause-listed : goal.returns-clause-listed
returns-clause-listed c = listed_operations_are_written

pub returns-clause-first_keys : goal.returns-clause-first_keys
returns-clause-first_keys c = keyed_operations_are_written of_lookups FirstIsThere

pub returns-clause-second_keys : goal.returns-clause-second_keys
returns-clause-second_keys c = keyed_operations_are_written of_lookups SecondIsThere

pub returns-clause-stores : goal.returns-clause-stores
returns-clause-stores c = keyed_operations_are_written of_changes CanStore

pub returns-clause-deletions : goal.returns-clause-deletions
returns-clause-deletions c = keyed_operations_are_written of_changes KeysAreThere

pub returns-clause-conversions : goal.returns-clause-conversions
returns-clause-conversions c = done_operations_are_written of_conversions

pub returns-clause-given : goal.returns-clause-given
returns-clause-given c = given_operations_are_written

pub returns-clause-lists_there : goal.returns-clause-lists_there
returns-clause-lists_there c = told_operations_are_written of_lists lists.IsThere

pub returns-clause-lists_missing : goal.returns-clause-lists_missing
returns-clause-lists_missing c = told_operations_are_written of_lists lists.IsMissing

pub returns-clause-instances_there : goal.returns-clause-instances_there
returns-clause-instances_there c = told_operations_are_written of_classes classes.IsThere

pub returns-clause-instances_missing : goal.returns-clause-instances_missing
returns-clause-instances_missing c = told_operations_are_written of_classes classes.IsNothing

pub returns-clause-classed : goal.returns-clause-classed
returns-clause-classed c = classed_operations_are_written

pub returns-clause-methods : goal.returns-clause-methods
returns-clause-methods c = methods_are_written

pub returns-clause-by_vtables : goal.returns-clause-by_vtables
returns-clause-by_vtables c = methods_are_written_by_vtables
