-- Constants that are lists and dicts of modules, alone or in a tuple, give their values: the static of each is where its object is.
use Rattle.std.specs.Prelude.{◌≡◌, ℕ, Bool, true, List, Some, slice_get}
use Rattle.class_desc.specs.Tables.{Tables}
use Rattle.csub_tree.specs.State.{Static}
use Rattle.ll_code.specs.declared.program.LlProgram.{LlProgram}
use Rattle.rpy_meaning.specs.declared.row.Covers.{Covers}
use Rattle.rpy_meaning.specs.declared.row.RowOp.TheVariants as row
use Rattle.rpy_meaning.specs.Tree.{Program}
use Rattle.rpy_tree.specs.declared.program.Const.{Const}
use Rattle.rpy_tree.specs.declared.program.Site.{Site}
use Rattle.rtyper_data.specs.declared.found.Found.{Found}
use Rattle.rtyper_data.specs.Finding.{prebuilt_at}
use Rattle.rtyper_data.specs.Seen.{Around, Place, Writing}
use Rattle.rtyper_op.specs.Prebuilt.{is_ready}
use Rattle.rtyper_program.specs.Program.{IsLaid}
use Rattle.rtyper_program.specs.Seen.{Known}
use Rattle.program_asks.specs.Standing.{world_in}
use Rattle.rtyped_laws.specs.Programs.{layout_for}
use Rattle.growth_laws.specs.Growing.{Grows}
use Rattle.conversion_laws.specs.Constants.{IsGiven}
use Rattle.object_laws.specs.Known.{Known as Seen}
use Rattle.start_laws.specs.Constants.{IsConstant, IsSite}
use Rattle.start_laws.specs.Knowing.{sort_of}
use Rattle.start_laws.specs.Begins.{built_in, seen_at}
use Rattle.start_laws.specs.Made.{AreNested, IsContents, sites_in}

-- a list or dict that is made by this moment is known to stand at its static
abbrev pub KnowsSites : Around → Seen → List Site → List ℕ → Found → Type 0
KnowsSites around known sites same found = (dict : Bool) (site n number : ℕ) → IsSite around known sites same dict site n → prebuilt_at found.prebuilt site ≡ Some number → known.site site ≡ Some (record { sort = sort_of dict n; head = Static number })

-- A constant whose lists and dicts are made by some moment is given from then on, as one without them is.
abbrev pub ConstantsAreGivenWithSites : Type 0
ConstantsAreGivenWithSites = (known : Seen) (around : Around) (sites : List Site) (same : List ℕ) (place : Place) (found : Found) (w : Writing) (covers : Covers) (c : Const) → KnowsSites around known sites same found → Grows found w.found
    → IsConstant around known sites same place.element c → is_ready found c ≡ true → IsGiven known around (row.Constant c) covers place w

-- In a program that is made of flow graphs the lists and dicts of modules stand where they are known to, and a constant is given at each moment
-- behind the one at which these were made, where they nest and those in the constant have structs.
abbrev pub ProgramsKnowSites : Type 0
ProgramsKnowSites = (known : Known) (classes : Tables) (p : LlProgram) (r : IsLaid known classes p) (meant : Program)
    → KnowsSites (world_in known classes (layout_for known classes) p r).around (seen_at known classes p r meant) known.program.sites known.annotation.same (built_in known classes p r)

abbrev pub ConstantsOfProgramsAreGiven : Type 0
ConstantsOfProgramsAreGiven = (known : Known) (classes : Tables) (p : LlProgram) (r : IsLaid known classes p) (meant : Program) (depth : ℕ → ℕ) (place : Place) (w : Writing) (covers : Covers) (c : Const)
    → AreNested (world_in known classes (layout_for known classes) p r).around known.program.sites known.annotation.same depth → Grows (built_in known classes p r) w.found
    → IsConstant (world_in known classes (layout_for known classes) p r).around (seen_at known classes p r meant) known.program.sites known.annotation.same place.element c
    → ((i site : ℕ) → slice_get (sites_in c) i ≡ Some site → (pairs : List (Const × Const)) × IsContents (world_in known classes (layout_for known classes) p r).around known.program.sites known.annotation.same site pairs)
    → IsGiven (seen_at known classes p r meant) (world_in known classes (layout_for known classes) p r).around (row.Constant c) covers place w
