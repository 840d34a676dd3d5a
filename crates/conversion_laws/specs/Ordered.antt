-- Values of an element are, once they are converted, values of each that is above it.
use Rattle.std.specs.Prelude.{◌≡◌, ℕ, Bool, true, List, [], ◌∷◌, Some}
use Rattle.ann_element.specs.Sites.{leader}
use Rattle.ann_element.specs.declared.element.Element.{Element}
use Rattle.ann_element.specs.declared.element.Element.TheVariants as element
use Rattle.ann_lattice.specs.Order.{Below}
use Rattle.ann_lattice.specs.Shape.{shape}
use Rattle.class_desc.specs.Line.{is_below}
use Rattle.ll_code.specs.declared.program.LlType.TheVariants as type
use Rattle.lower_laws.specs.Values.{is_simple}
use Rattle.rpy_tree.specs.declared.program.ClassInfo.{ClassInfo}
use Rattle.rtyper_layout.specs.declared.kind.Kind.TheVariants as kind
use Rattle.rtyper_layout.specs.declared.classes.Laid.{Laid}
use Rattle.rtyper_layout.specs.declared.layout.Layout.{Layout}
use Rattle.rtyper_layout.specs.Kinds.{kind_of}
use Rattle.rtyper_layout.specs.Types.{type_of, laid_in}
use Rattle.object_laws.specs.Known.{Known}
use Rattle.object_laws.specs.Staying.{IsWithin}
use Rattle.conversion_laws.specs.Going.{Goes, IsTuple}

-- Each part of the element, at any depth, has its struct in the layout, and the sites of lists and dicts are written by the least one of
-- their class. A conflict has none.
module _ (layout : Layout) (same : List ℕ) where
  mutual
    pub data IsLaid : Element → Type 0 where
      Nowhere : {e : Element} → kind_of e ≡ kind.Never → IsLaid e
      Simple : {e : Element} → is_simple (kind_of e) ≡ true → IsLaid e
      Listed : (n site : ℕ) (r : Bool) → leader same site ≡ site → type_of layout (element.List site r) ≡ type.Ptr n → IsLaid (element.List site r)
      Mapped : (n site : ℕ) (r : Bool) → leader same site ≡ site → type_of layout (element.Dict site r) ≡ type.Ptr n → IsLaid (element.Dict site r)
      Instanced : (class : ℕ) (r : Bool) (l : Laid) → laid_in layout.classes class ≡ Some l → IsLaid (element.Instance class r)
      Called : (functions : List ℕ) (r : Bool) → IsLaid (element.Func functions r)
      Items : (n : ℕ) (parts : List Element) → IsTuple layout (Some (element.Tuple parts)) n parts → AllLaid parts → IsLaid (element.Tuple parts)

    pub data AllLaid : List Element → Type 0 where
      End : AllLaid []
      Next : {part : Element} {parts : List Element} → IsLaid part → AllLaid parts → AllLaid (part ∷ parts)

-- What is of a class is of each that is above it, and both have one topmost struct.
pub record AreFamilies (classes : List ClassInfo) (layout : Layout) (known : Known) : Type 0 where
  pub within : (c d : ℕ) → is_below classes c d ≡ true → IsWithin known c d
  pub root : (c d : ℕ) (l m : Laid) → is_below classes c d ≡ true → laid_in layout.classes c ≡ Some l → laid_in layout.classes d ≡ Some m → l.root ≡ m.root

abbrev pub ElementsGoUp : Type 0
ElementsGoUp = (classes : List ClassInfo) (same : List ℕ) (layout : Layout) (known : Known) (a b : Element) → AreFamilies classes layout known → IsLaid layout same a → IsLaid layout same b → Below classes same (shape a) (shape b) → Goes layout known (Some a) (Some b)
