-- Names of classes, and the structs of `Exception`.
use Rattle.std.proofs.Common.{◌≡◌, ℕ, zero, suc, List, [], ◌∷◌, Some, refl, sym, ap, ◌∙◌}
use Rattle.std.specs.Prelude.{map, slice_get}
use Rattle.csub_tree.specs.State.{Byte}
use Rattle.csub_tree.specs.declared.tree.CConst.TheVariants as constant
use Rattle.rtyper_op.specs.Constants.{char_cell}
use Rattle.rpy_meaning.specs.Tree.{Class}
use Rattle.rpy_resolved.specs.declared.tree.Class as resolved
use Rattle.rpy_tree.specs.declared.program.Site.{Site}
use Rattle.resolved_meaning.specs.Programs.{class_of}
use Rattle.resolved_meaning.specs.Trees.{program_of}
use Rattle.rtyper_class.specs.Vtables.{name_in}
use Rattle.layout_laws.specs.Knowing.{values}
use Rattle.layout_laws.proofs.Cells.{value_first}
use Rattle.layout_laws.proofs.Chains.{chain}
use Rattle.layout_laws.proofs.Classes.{of_world}
use Rattle.layout_laws.proofs.Lines.{is_under}
use Rattle.entry_laws.specs.Classes.{ExceptionsAreLaid, NamesAreWritten, ProgramsHaveTheirNames}

named : (bytes : List ℕ) → values (map char_cell bytes) ≡ map Byte bytes
named [] = refl
named (b ∷ bytes) = value_first (constant.Char b) (map char_cell bytes) ∙ ap (λ xs. Byte b ∷ xs) (named bytes)

pub names_are_written : NamesAreWritten
names_are_written world program reached meant items keys static site are class l c is_laid is = ap (λ bytes. values (map char_cell bytes)) (are class c is) ∙ named c.name

pub exceptions_are_laid : ExceptionsAreLaid
exceptions_are_laid program annotation raises world known is counted of class l is_laid below =
    let it = chain world.classes.classes world.attributes world.around.layout (of_world program annotation raises world is counted) 0 class l (is_under world.classes.classes class 0 (sym (of.below class 0) ∙ below)) is_laid in
    (it.m, it.is)

names_kept : (sites : List Site) (classes : List resolved.Class) (i : ℕ) (c : Class) → slice_get (map (class_of sites) classes) i ≡ Some c → name_in (slice_get classes i) ≡ c.name
names_kept sites [] i c e = absurd (cc)
names_kept sites (x ∷ classes) zero c e = (let same : class_of sites x ≡ c = cc in ap (λ (d : Class). d.name) same)
names_kept sites (x ∷ classes) (suc i) c e = names_kept sites classes i c e

pub programs_have_their_names : ProgramsHaveTheirNames
unfolding program_of
programs_have_their_names program i c e = names_kept program.sites program.classes i c e
