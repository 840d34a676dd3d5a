-- Whole runs from the start.
use Rattle.rtyped_laws.specs.Programs.{layout_for}
use Rattle.rtyped_laws.proofs.Programs.{layouts_are_had_by_programs}
use Rattle.entry_laws.specs.Programs.{setting_in}
use Rattle.entry_laws.proofs.Programs.{entries_stand, programs_run}
use Rattle.argument_laws.proofs.Programs.{programs_have_arguments}
use Rattle.argument_laws.proofs.Starting.{arguments_are_given}
use Rattle.program_asks.specs.Standing.{world_in}
use Rattle.start_laws.specs.Begins.{built_in, seen_at}
use Rattle.start_laws.specs.Knowing.{home_of, items_of, keys_of, static_of}
use Rattle.start_laws.proofs.Programs.{memory_begins_with_sites}
use Rattle.start_runs.specs.Programs.{ProgramsAreGivenArguments, ProgramsRunFromTheStart}

pub programs_are_given_arguments : ProgramsAreGivenArguments
programs_are_given_arguments known classes p r meant graphs arguments steps is stands can =
    let begins = memory_begins_with_sites known classes p r meant steps is.numbered is.structs can.statics can.builtin can.sites can.constants can.few in
    arguments_are_given (setting_in known classes p r (seen_at known classes p r meant) graphs arguments) (layout_for known classes).first_list stands.arguments steps
    (layouts_are_had_by_programs known classes p r is.structs) (programs_have_arguments known classes p r is.graphs stands) can.takes can.given (record { ghost = begins.ghost; stands = begins.stands })

pub programs_run_from_the_start : ProgramsRunFromTheStart
programs_run_from_the_start known classes p r meant graphs arguments steps is calls can done good k end ran =
    let stands = entries_stand known classes (layout_for known classes) p r is.graphs in
    programs_run known classes p r meant (items_of (layout_for known classes) known.annotation) (keys_of (layout_for known classes) known.annotation) (static_of p (layout_for known classes)) (home_of (world_in known classes (layout_for known classes) p r).around known.program.sites known.annotation.same (built_in known classes p r).prebuilt) graphs arguments steps is stands calls done
    (programs_are_given_arguments known classes p r meant graphs arguments steps is stands can) good k end ran
