-- What is asked for: helpers, small graphs and statics, each once and by its number.
use Rattle.std.specs.Prelude.{ℕ, ◌+◌, ◌==◌, ◌&&◌, Bool, true, false, if◌then◌else◌, List, [], ◌∷◌, ◌++◌, length, map, slice_get, Option, Some, None}
use Rattle.csub_tree.specs.declared.tree.CCell.{CCell, fold-CCell, out-CCell}
use Rattle.csub_tree.specs.declared.tree.CCell.TheOpen.{CCell-F}
use Rattle.csub_tree.specs.declared.tree.CConst.{CConst}
use Rattle.csub_tree.specs.declared.tree.CConst.TheVariants as constant
use Rattle.csub_tree.specs.declared.tree.CStatic.{CStatic}
use Rattle.csub_tree.specs.contracts.tree.CConstPartialEq.TheImpl.{eq-value as equal_constants}
use Rattle.ll_code.specs.declared.program.LlType.{LlType}
use Rattle.ll_code.specs.declared.program.LlType.TheVariants as type
use Rattle.ll_code.specs.contracts.program.LlTypePartialEq.TheImpl.{eq-value as equal_types}
use Rattle.ll_build.specs.declared.needs.Helper.{Helper}
use Rattle.ll_build.specs.declared.needs.Helper.TheVariants as helper
use Rattle.ll_build.specs.declared.needs.Need.{Need}
use Rattle.ll_build.specs.contracts.needs.HelperPartialEq.TheImpl.{eq-value as equal_helpers}
use Rattle.rpy_meaning.specs.declared.row.Covers.{Covers}
use Rattle.rpy_meaning.specs.contracts.row.CoversPartialEq.TheImpl.{eq-value as equal_covers}
use Rattle.rtyper_layout.specs.Types.{word}
use Rattle.rtyper_data.specs.declared.found.Found.{Found}
use Rattle.rtyper_data.specs.declared.small.Small.{Small}
use Rattle.rtyper_data.specs.contracts.small.SmallPartialEq.TheImpl.{eq-value as equal_smalls}

-- ---- equality, as the types have it

abbrev pub same_type : LlType → LlType → Bool
same_type s t = equal_types.it s t

abbrev pub same_constant : CConst → CConst → Bool
same_constant a b = equal_constants.it a b

abbrev pub same_small : Small → Small → Bool
same_small a b = equal_smalls.it a b

-- ---- helpers

abbrev pub nothing : Covers
nothing = record { index = false; zero = false; number = false; attribute = false }

-- which failures a helper has, of those that an operation may have
abbrev pub failures_of : Helper → Covers → Covers
failures_of helper.WordDiv c = record nothing { zero = c.zero }
failures_of helper.WordMod c = record nothing { zero = c.zero }
failures_of helper.WordShl c = record nothing { number = c.number }
failures_of helper.WordShr c = record nothing { number = c.number }
failures_of helper.WordChr c = record nothing { number = c.number }
failures_of helper.StrIndex c = record nothing { index = c.index; attribute = c.attribute }
failures_of helper.StrAdd c = record nothing { attribute = c.attribute }
failures_of helper.StrMul c = record nothing { attribute = c.attribute }
failures_of helper.StrSlice c = record nothing { attribute = c.attribute }
failures_of helper.StrButLast c = record nothing { attribute = c.attribute }
failures_of helper.StrLen c = record nothing { attribute = c.attribute }
failures_of helper.StrContains c = record nothing { attribute = c.attribute }
failures_of helper.StrFind c = record nothing { attribute = c.attribute }
failures_of helper.StrStartsWith c = record nothing { attribute = c.attribute }
failures_of helper.StrEndsWith c = record nothing { attribute = c.attribute }
failures_of helper.StrStrip c = record nothing { attribute = c.attribute }
failures_of helper.StrWalk c = record nothing { attribute = c.attribute }
failures_of other c = nothing

unfoldable pub is_need : Need → Option Covers → Helper → Covers → Bool
is_need need None h covered = false
is_need need (Some c) h covered = equal_helpers.it need.helper h && equal_covers.it c covered

-- the place of the need of a helper with these failures, counted from a number
abbrev pub need_from : ℕ → List Need → List Covers → Helper → Covers → Option ℕ
need_from n [] caught h covered = None
need_from n (need ∷ needs) caught h covered = if is_need need (slice_get caught n) h covered then Some n else need_from (n + 1) needs caught h covered

-- another need, where there is none yet
abbrev pub needed : Helper → Covers → Found → Option ℕ → ℕ × Found
needed h covered found (Some n) = (n, found)
needed h covered found None = (length found.needs, record found { caught = found.caught ++ covered ∷ []; needs = found.needs ++ record { helper = h; item = type.Void; key = type.Void } ∷ [] })

unfoldable pub helper_number : Helper → Found → ℕ × Found
helper_number h found = needed h (failures_of h found.covered) found (need_from 0 found.needs found.caught h (failures_of h found.covered))

-- ---- small graphs

abbrev pub small_from : ℕ → List Small → Small → Option ℕ
small_from n [] small = None
small_from n (s ∷ smalls) small = if same_small s small then Some n else small_from (n + 1) smalls small

abbrev pub asked : Small → Found → Option ℕ → ℕ × Found
asked small found (Some n) = (word (found.first_small + n), found)
asked small found None = (word (found.first_small + length found.smalls), record found { smalls = found.smalls ++ small ∷ [] })

unfoldable pub small_number : Small → Found → ℕ × Found
small_number small found = asked small found (small_from 0 found.smalls small)

-- ---- statics

-- each tells of another cell whether it is the same
abbrev pub same_all : List (CCell → Bool) → List CCell → Bool
same_all [] [] = true
same_all (f ∷ fs) (c ∷ cs) = f c && same_all fs cs
same_all fs cs = false

abbrev pub is_constant : CConst → CCell-F CCell → Bool
is_constant a (CCell-F.Const b) = same_constant a b
is_constant a (CCell-F.Braces cs) = false

abbrev pub are_braces : List (CCell → Bool) → CCell-F CCell → Bool
are_braces fs (CCell-F.Const b) = false
are_braces fs (CCell-F.Braces cs) = same_all fs cs

abbrev pub same_step : CCell-F (CCell → Bool) → CCell → Bool
same_step (CCell-F.Const a) c = is_constant a (out-CCell c)
same_step (CCell-F.Braces fs) c = are_braces fs (out-CCell c)

abbrev pub same_cell : CCell → CCell → Bool
same_cell = fold-CCell (CCell → Bool) same_step

abbrev pub same_cells : List CCell → List CCell → Bool
same_cells xs ys = same_all (map same_cell xs) ys

abbrev pub static_from : ℕ → List CStatic → ℕ → List CCell → Option ℕ
static_from n [] kind cells = None
static_from n (s ∷ statics) kind cells = if s.kind == kind && same_cells s.cells cells then Some n else static_from (n + 1) statics kind cells

abbrev pub placed : ℕ → List CCell → Found → Option ℕ → CConst × Found
placed kind cells found (Some n) = (constant.Static kind n, found)
placed kind cells found None = (constant.Static kind (length found.statics), record found { statics = found.statics ++ record { kind = kind; cells = cells } ∷ [] })

-- the constant that is a static of this struct with these cells
unfoldable pub static_of : ℕ → List CCell → Found → CConst × Found
static_of kind cells found = placed kind cells found (static_from 0 found.statics kind cells)

-- the static of the list or dict of a site
abbrev pub prebuilt_at : List (ℕ × ℕ) → ℕ → Option ℕ
prebuilt_at [] site = None
prebuilt_at (p ∷ ps) site = if p.0 == site then Some p.1 else prebuilt_at ps site
