-- Memory represents the objects that are there at the start of a run: builtin exceptions, and the lists and dicts of modules.
use Rattle.std.specs.Prelude.{◌<◌, ◌^◌, ℕ, List, length, slice_get, Option, []}
use Rattle.ll_code.specs.declared.program.LlProgram.{LlProgram}
use Rattle.rpy_meaning.specs.Meaning.{prebuilt}
use Rattle.rpy_meaning.specs.Tree.{Program}
use Rattle.rpy_tree.specs.Value.{Object}
use Rattle.rpy_tree.specs.declared.program.Site.{Site}
use Rattle.class_desc.specs.Tables.{Tables}
use Rattle.rtyper_data.specs.declared.found.Found.{Found}
use Rattle.rtyper_data.specs.Seen.{Around}
use Rattle.rtyper_op.specs.Prebuilt as lowered
use Rattle.rtyper_program.specs.Program.{IsLaid}
use Rattle.rtyper_program.specs.Seen.{Known}
use Rattle.layout_laws.specs.Beginning.{AreBuiltin}
use Rattle.layout_laws.specs.Knowing.{known_of}
use Rattle.layout_laws.specs.Layouts.{IsNumbered}
use Rattle.layout_laws.specs.Statics.{statics_of}
use Rattle.object_laws.specs.Ghost.{Ghost}
use Rattle.object_laws.specs.Known.{Known as Seen}
use Rattle.object_laws.specs.Represents.{Represents}
use Rattle.program_asks.specs.Standing.{first_in, world_in}
use Rattle.rtyped_laws.specs.Programs.{layout_for}
use Rattle.sound_runs.specs.Start.{SiteAt}
use Rattle.start_laws.specs.Constants.{AreConstants}
use Rattle.start_laws.specs.Knowing.{home_of, items_of, keys_of, static_of}

-- the sites of the meaning are those of the program
abbrev pub AreSites : List Site → List (Option Object) → Type 0
AreSites sites meant = (s : ℕ) → SiteAt meant (slice_get sites s) (slice_get meant s)

-- static memory represents the first objects
pub record Begins (p : LlProgram) (around : Around) (known : Seen) (steps : ℕ) : Type 0 where
  pub ghost : Ghost
  pub stands : Represents around.layout known ghost (prebuilt known.program) steps [] (statics_of p)

-- what is asked for once the lists and dicts of modules are made
abbrev pub built_in : (known : Known) (classes : Tables) (p : LlProgram) → IsLaid known classes p → Found
built_in known classes p r = lowered.prebuilt (world_in known classes (layout_for known classes) p r).around known.program.sites known.annotation.same (first_in known classes (layout_for known classes) p r)

-- what is known of a program that is made of flow graphs
abbrev pub seen_at : (known : Known) (classes : Tables) (p : LlProgram) → IsLaid known classes p → Program → Seen
seen_at known classes p r meant =
    known_of (world_in known classes (layout_for known classes) p r) known.program known.annotation.reached meant
    (items_of (layout_for known classes) known.annotation) (keys_of (layout_for known classes) known.annotation) (static_of p (layout_for known classes))
    (home_of (world_in known classes (layout_for known classes) p r).around known.program.sites known.annotation.same (built_in known classes p r).prebuilt)

-- At the start of a run of every program, with so many steps, its memory represents what its meaning begins with.
abbrev pub MemoryBeginsWithSites : Type 0
MemoryBeginsWithSites = (known : Known) (classes : Tables) (p : LlProgram) (r : IsLaid known classes p) (meant : Program) (steps : ℕ)
    → IsNumbered (world_in known classes (layout_for known classes) p r) → length (layout_for known classes).structs < 2 ^ 64 → length p.statics < 2 ^ 64
    → AreBuiltin (world_in known classes (layout_for known classes) p r) → AreSites known.program.sites meant.sites
    → AreConstants (world_in known classes (layout_for known classes) p r).around (seen_at known classes p r meant) known.program.sites known.annotation.same steps → steps < 2 ^ 62
    → Begins p (world_in known classes (layout_for known classes) p r).around (seen_at known classes p r meant) steps
