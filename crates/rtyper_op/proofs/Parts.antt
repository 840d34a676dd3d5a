-- The constant that a tuple is.
use Rattle.std.proofs.Common.{◌≡◌, List, map, sym, ap, ◌∙◌}
use Rattle.csub_tree.specs.declared.tree.CConst.{CConst}
use Rattle.ll_code.specs.declared.program.LlType.{LlType}
use Rattle.rpy_tree.specs.declared.program.Const.{Const, fold-roll-Const}
use Rattle.rpy_tree.specs.declared.program.Const.TheVariants as const
use Rattle.rpy_tree.specs.declared.program.Const.TheOpen.{Const-F}
use Rattle.rtyper_data.specs.declared.found.Found.{Found}
use Rattle.rtyper_op.specs.Constants.{tuple, constant_step, constant_of}
use Rattle.rtyper_data.specs.Seen.{Around}

pub tuple_is : (around : Around) (parts : List Const) (to : LlType) (found : Found) → constant_of around (const.Tuple parts) to found ≡ tuple around (map (constant_of around) parts) to found
tuple_is around parts to found =
    ap (λ c. constant_of around c to found) (sym (const.rolls-Tuple parts))
    ∙ ap (λ f. f to found) (fold-roll-Const (LlType → Found → CConst × Found) (constant_step around) (Const-F.Tuple parts))
