-- In programs that are made of flow graphs the list of arguments is given.
use Rattle.std.specs.Prelude.{filter_map, None}
use Rattle.rtyper_data.specs.declared.small.Listed.TheVariants.{Make}
use Rattle.rtyper_data.specs.declared.small.Small.TheVariants as small
use Rattle.list_texts.specs.Arguments.{arguments}
use Rattle.rtyped_laws.specs.Programs.{layout_for}
use Rattle.rtyped_laws.proofs.Programs.{asked_is_had, layouts_are_had_by_programs, memory_begins_in_programs}
use Rattle.entry_laws.specs.Programs.{seen_in, setting_in}
use Rattle.argument_laws.specs.Programs.{ProgramsAreGivenArguments, ProgramsHaveArguments, ProgramsRunWithArguments}
use Rattle.entry_laws.proofs.Programs.{entries_stand, programs_run}
use Rattle.argument_laws.proofs.Starting.{arguments_are_given}

pub programs_have_arguments : ProgramsHaveArguments
unfolding arguments
programs_have_arguments known classes p r few stands =
    record {
      makes = _;
      graph = stands.list.graph;
      list = ((asked_is_had known classes (layout_for known classes) p r).smalls few (small.Listed (Make (layout_for known classes).first_list)) stands.list.made stands.list.grows).graph;
    }

pub programs_are_given_arguments : ProgramsAreGivenArguments
programs_are_given_arguments known classes p r meant items keys static graphs arguments steps is stands few builtin statics takes given less =
    arguments_are_given (setting_in known classes p r (seen_in known classes p r meant items keys static (λ s. None)) graphs arguments) (layout_for known classes).first_list stands.arguments steps
    (layouts_are_had_by_programs known classes p r is.structs) (programs_have_arguments known classes p r is.graphs stands) takes given
    (record { ghost = _; stands = memory_begins_in_programs known classes p r meant items keys static (filter_map (λ object. object) meant.sites) steps is.numbered is.structs few builtin statics less })

pub programs_run_with_arguments : ProgramsRunWithArguments
programs_run_with_arguments known classes p r meant items keys static graphs arguments steps is calls few builtin statics takes given less done good k end ran =
    let stands = entries_stand known classes (layout_for known classes) p r is.graphs in
    programs_run known classes p r meant items keys static (λ s. None) graphs arguments steps is stands calls done
    (programs_are_given_arguments known classes p r meant items keys static graphs arguments steps is stands few builtin statics takes given less) good k end ran
