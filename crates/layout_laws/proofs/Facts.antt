-- What the structs of classes are, however the layout came about.
use Rattle.std.proofs.Common.{◌≡◌, ◌<◌, ℕ, ◌+◌, List, length, Some, None}
use Rattle.std.specs.Prelude.{◌*◌, ◌-◌, slice_get}
use Rattle.csub_tree.specs.Layout.{shape_at, shape_over}
use Rattle.rpy_tree.specs.declared.program.ClassInfo.{ClassInfo}
use Rattle.ann_element.specs.declared.element.Element.{Element}
use Rattle.class_desc.specs.Line.{base}
use Rattle.rtyper_layout.specs.declared.classes.Laid.{Laid}
use Rattle.rtyper_layout.specs.declared.layout.Layout.{Layout}
use Rattle.rtyper_layout.specs.Types.{laid_in}
use Rattle.object_laws.specs.Represents.{shapes}
use Rattle.layout_laws.proofs.Attributes.{declared}

module _ (infos : List ClassInfo) (attributes : List (ℕ × List ℕ × Element)) (layout : Layout) where
  -- it begins with its vtable where it has no base, and else with the struct of its base; then come its own attributes
  pub data Sort (c : ℕ) (l : Laid) : Type 0 where
    OnTop : base infos c ≡ None → l.root ≡ l.own → shape_at (shapes layout) l.own ≡ shape_over l.own (1 + 2 * declared c attributes) None → Sort c l
    OnBase : (b : ℕ) (m : Laid) → base infos c ≡ Some b → laid_in layout.classes b ≡ Some m → l.root ≡ m.root → l.vtable ≡ m.vtable
        → shape_at (shapes layout) l.own ≡ shape_over l.own (2 * declared c attributes) (Some (shape_at (shapes layout) m.own)) → Sort c l

  pub record HasVtable (l : Laid) : Type 0 where
    pub inside : l.vtable < length layout.structs
    pub names : List (List ℕ)
    pub named : slice_get layout.methods (l.vtable - 1) ≡ Some names
    pub shape : shape_at (shapes layout) l.vtable ≡ shape_over l.vtable (1 + length names) None

  pub record Facts : Type 0 where
    pub within : (c : ℕ) (l : Laid) → laid_in layout.classes c ≡ Some l → c < length infos
    pub inside : (c : ℕ) (l : Laid) → laid_in layout.classes c ≡ Some l → l.own < length layout.structs
    pub sort : (c : ℕ) (l : Laid) → laid_in layout.classes c ≡ Some l → Sort c l
    pub vtable : (c : ℕ) (l : Laid) → laid_in layout.classes c ≡ Some l → HasVtable l
    pub behind : ℕ
    pub own : (c : ℕ) (l : Laid) → laid_in layout.classes c ≡ Some l → l.own ≡ behind + l.place
    pub order : (c : ℕ) (l : Laid) → laid_in layout.classes c ≡ Some l → slice_get layout.order l.place ≡ Some c
