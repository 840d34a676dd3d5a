-- The structs of layouts keep the rules of low-level programs.
use Rattle.std.specs.Prelude.{◌≡◌, ◌<◌, ◌≤◌, ◌^◌, Bool, true, List, length}
use Rattle.ann_element.specs.declared.annotation.Annotation.{Annotation}
use Rattle.ll_code.specs.Typed.{structs_ok}
use Rattle.rpy_resolved.specs.declared.tree.Resolved.{Resolved}
use Rattle.rpy_tree.specs.declared.program.ClassInfo.{ClassInfo}
use Rattle.class_desc.specs.Range.{IsForest}
use Rattle.rtyper_layout.specs.Layout.{layout_of}

-- bases are earlier structs, and types refer to structs that are there
abbrev pub StructsAreTyped : Type 0
StructsAreTyped = (program : Resolved) (infos : List ClassInfo) (annotation : Annotation) (raises : Bool) → IsForest infos → length infos ≤ 2 ^ 32 → length (layout_of program infos annotation raises).structs < 2 ^ 64
    → structs_ok (layout_of program infos annotation raises).structs 0 (layout_of program infos annotation raises).structs ≡ true
