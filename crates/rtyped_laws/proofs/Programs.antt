-- What programs that are made of flow graphs have.
use Rattle.std.proofs.Common.{refl}
use Rattle.rtyper_program.specs.Raises.{raises}
use Rattle.layout_laws.proofs.Beginning.{memory_begins}
use Rattle.layout_laws.proofs.Classes.{layouts_lay_out_classes}
use Rattle.layout_laws.proofs.Numbers.{layouts_are_had}
use Rattle.layout_laws.proofs.Vtables.{vtables_stand}
use Rattle.program_asks.specs.Standing.{ProgramsHaveAsked, world_in, HasStatics as Stood}
use Rattle.program_asks.proofs.Programs.{programs_have_asked}
use Rattle.program_asks.proofs.WritingBlocks.{programs_only_ask}
use Rattle.rtyped_laws.specs.Programs.{ClassesAreLaidByPrograms, LayoutsAreHadByPrograms, MemoryBeginsInPrograms, StaticsAreHadByPrograms, VtablesAreHadByPrograms, WorldsAreOfPrograms, layout_for}

pub asked_is_had : ProgramsHaveAsked
asked_is_had known classes layout p r = programs_have_asked known classes layout p r (programs_only_ask known (world_in known classes layout p r))

pub worlds_are_of_programs : WorldsAreOfPrograms
worlds_are_of_programs known classes p r = record { layout = refl; attributes = refl }

pub statics_are_had : StaticsAreHadByPrograms
statics_are_had known classes layout p r few =
    let s : Stood known (world_in known classes layout p r) p = (asked_is_had known classes layout p r).statics in
    record { more = s.more; structs = s.structs; before = s.before; rest = s.rest; statics = s.statics; first = s.first; next = s.next; few = few }

pub layouts_are_had_by_programs : LayoutsAreHadByPrograms
layouts_are_had_by_programs known classes p r few =
    let s : Stood known (world_in known classes (layout_for known classes) p r) p = (asked_is_had known classes (layout_for known classes) p r).statics in
    layouts_are_had known.program classes.classes known.annotation (raises known) p s.more s.structs few

pub classes_are_laid : ClassesAreLaidByPrograms
classes_are_laid known classes p r seen numbered knows =
    layouts_lay_out_classes known.program known.annotation (raises known) (world_in known classes (layout_for known classes) p r) seen (worlds_are_of_programs known classes p r) numbered knows

pub vtables_are_had : VtablesAreHadByPrograms
vtables_are_had known classes p r numbered few =
    vtables_stand known.program known.annotation (raises known) (world_in known classes (layout_for known classes) p r) known.annotation.reached p
    (worlds_are_of_programs known classes p r) numbered (statics_are_had known classes (layout_for known classes) p r few)

pub memory_begins_in_programs : MemoryBeginsInPrograms
memory_begins_in_programs known classes p r meant items keys static others left numbered small few builtin statics less =
    memory_begins known.program known.annotation (raises known) (world_in known classes (layout_for known classes) p r) known.annotation.reached p meant items keys static others left
    (worlds_are_of_programs known classes p r) numbered small (statics_are_had known classes (layout_for known classes) p r few) builtin statics less
