-- Helpers stand at their numbers in every program that is made of flow graphs, with the graphs that they call.
use Rattle.std.specs.Prelude.{◌≡◌, ◌<◌, ◌^◌, ℕ, true, length, slice_get, Some}
use Rattle.csub_tree.specs.State.{Value, Block, Core}
use Rattle.class_desc.specs.Tables.{Tables}
use Rattle.ll_build.specs.Needs.{uses, uses_texts}
use Rattle.ll_build.specs.declared.needs.Helper.{Helper}
use Rattle.ll_build.specs.declared.needs.Numbers.{Numbers}
use Rattle.ll_build.specs.declared.needs.Shared.{Shared}
use Rattle.ll_code.specs.declared.program.LlProgram.{LlProgram}
use Rattle.ll_helpers.specs.Helpers.{shared_graph}
use Rattle.ll_strings.specs.Laws.{HasHelper, number_in}
use Rattle.rpy_meaning.specs.declared.row.Covers.{Covers}
use Rattle.rpy_tree.specs.Value.{Heap}
use Rattle.rtyper_data.specs.declared.found.Found.{Found}
use Rattle.rtyper_data.specs.Finding.{failures_of, helper_number, nothing}
use Rattle.rtyper_layout.specs.declared.layout.Layout.{Layout}
use Rattle.rtyper_program.specs.Program.{IsLaid, IsSettled}
use Rattle.rtyper_program.specs.Seen.{Known}
use Rattle.lower_laws.specs.Asked.{HasRaising}
use Rattle.object_laws.specs.Ghost.{Ghost}
use Rattle.object_laws.specs.Known.{Known as Seen}
use Rattle.object_laws.specs.Represents.{Represents}
use Rattle.layout_laws.specs.Statics.{statics_of}
use Rattle.growth_laws.specs.Growing.{Grows}
use Rattle.program_asks.specs.Standing.{first_in, last_in, numbers_in, world_in}
use Rattle.rtyped_laws.specs.Having.{raised_in}
use Rattle.rtyped_laws.specs.Programs.{layout_for}
use Rattle.raise_laws.specs.Helpers.{HasRaisingHelper}

-- the helper has this number, and raises those of its failures that are covered; and the graphs that it uses have theirs
pub record StandsWhole (p : LlProgram) (numbers : Numbers) (raised : ℕ → Value) (h : Helper) (covers : Covers) (f : ℕ) : Type 0 where
  pub raising : HasRaising p numbers raised h covers f
  pub shared : (g : Shared) → uses g h ≡ true → slice_get p.graphs (number_in numbers g) ≡ Some (shared_graph numbers g)

-- whenever it is asked for
abbrev pub HelpersStandWhole : Type 0
HelpersStandWhole = (known : Known) (classes : Tables) (layout : Layout) (p : LlProgram) (r : IsSettled known classes layout p) → length p.graphs < 2 ^ 64
    → (h : Helper) (found : Found) → Grows (first_in known classes layout p r) found → Grows (helper_number h found).1 (last_in known classes layout p r)
    → StandsWhole p (numbers_in known classes layout p r) (raised_in (world_in known classes layout p r)) h (failures_of h found.covered) (helper_number h found).0

-- ---- over memory

-- the static strings, where there are some, are known to stay
abbrev pub KnowsTexts : LlProgram → Seen → Type 0
KnowsTexts p seen = (s : ℕ) (block : Block) → s < 260 → slice_get (statics_of p) s ≡ Some block → seen.static s ≡ Some block

-- Of a program with its layout, whose static strings are known to stay: over all memory that represents a heap a helper that is asked for stands,
-- and raises those of its failures that are covered.
abbrev pub RaisingHelpersStand : Type 0
RaisingHelpersStand = (known : Known) (classes : Tables) (p : LlProgram) (r : IsLaid known classes p) (seen : Seen) → length p.graphs < 2 ^ 64 → length (layout_for known classes).structs < 2 ^ 64
    → (uses_texts r.needs ≡ true → KnowsTexts p seen)
    → (h : Helper) (found : Found) → Grows (first_in known classes (layout_for known classes) p r) found → Grows (helper_number h found).1 (last_in known classes (layout_for known classes) p r)
    → (g : Ghost) (heap : Heap) (core : Core) → Represents (layout_for known classes) seen g heap core.steps core.blocks core.statics
    → HasRaisingHelper p (numbers_in known classes (layout_for known classes) p r) (raised_in (world_in known classes (layout_for known classes) p r)) h (failures_of h found.covered) (helper_number h found).0 core

-- where none is covered, it fails
abbrev pub PlainHelpersStand : Type 0
PlainHelpersStand = (known : Known) (classes : Tables) (p : LlProgram) (r : IsLaid known classes p) (seen : Seen) → length p.graphs < 2 ^ 64 → length (layout_for known classes).structs < 2 ^ 64
    → (uses_texts r.needs ≡ true → KnowsTexts p seen)
    → (h : Helper) (found : Found) → failures_of h found.covered ≡ nothing → Grows (first_in known classes (layout_for known classes) p r) found → Grows (helper_number h found).1 (last_in known classes (layout_for known classes) p r)
    → (g : Ghost) (heap : Heap) (core : Core) → Represents (layout_for known classes) seen g heap core.steps core.blocks core.statics
    → HasHelper p (numbers_in known classes (layout_for known classes) p r) h (helper_number h found).0 core
