-- What writes a program only asks for more.
use Rattle.rtyper_class.specs.Seen.{World}
use Rattle.rtyper_program.specs.Seen.{Known}
use Rattle.program_asks.specs.Standing.{OnlyAsks}

abbrev pub ProgramsOnlyAsk : Type 0
ProgramsOnlyAsk = (known : Known) (world : World) → OnlyAsks known world
