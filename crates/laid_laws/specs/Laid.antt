-- The elements of an annotation have their structs in its layout.
use Rattle.std.specs.Prelude.{◌≡◌, ◌<◌, ◌^◌, ℕ, Bool, true, List, [], ◌∷◌, length, slice_get, Some}
use Rattle.ann_element.specs.declared.annotation.Annotation.{Annotation}
use Rattle.ann_element.specs.declared.element.Element.{Element}
use Rattle.ann_element.specs.declared.element.Element.TheVariants as element
use Rattle.ann_element.specs.Sites.{leader}
use Rattle.rpy_tree.specs.declared.program.ClassInfo.{ClassInfo}
use Rattle.rpy_resolved.specs.declared.tree.Resolved.{Resolved}
use Rattle.rtyper_layout.specs.declared.classes.Laid.{Laid}
use Rattle.rtyper_layout.specs.declared.layout.Layout.{Layout}
use Rattle.rtyper_layout.specs.declared.kind.Kind.TheVariants as kind
use Rattle.rtyper_layout.specs.Kinds.{kind_of}
use Rattle.rtyper_layout.specs.Layout.{layout_of}
use Rattle.lower_laws.specs.Values.{is_simple}
use Rattle.rtyper_layout.specs.Types.{laid_in}
use Rattle.conversion_laws.specs.Ordered.{IsLaid}

-- ---- where elements stand

abbrev pub InRow : List Element → Element → Type 0
InRow row e = (i : ℕ) × (slice_get row i ≡ Some e)

abbrev pub InRows : List (List Element) → Element → Type 0
InRows rows e = (i : ℕ) × ((row : List Element) × ((slice_get rows i ≡ Some row) × InRow row e))

abbrev pub InAttributes : List (ℕ × List ℕ × Element) → Element → Type 0
InAttributes attributes e = (i : ℕ) × ((home : ℕ) × ((name : List ℕ) × (slice_get attributes i ≡ Some (home, name, e))))

-- the element of a parameter, a result, a variable, an attribute, or of items or keys
pub data StandsIn (a : Annotation) (e : Element) : Type 0 where
  Param : InRows a.params e → StandsIn a e
  Result : InRow a.results e → StandsIn a e
  Variable : InRows a.vars e → StandsIn a e
  Attribute : InAttributes a.attributes e → StandsIn a e
  Item : InRow a.items e → StandsIn a e
  Key : InRow a.keys e → StandsIn a e

-- ---- what is asked of them

-- the sites of lists and dicts in it are written by the least one of their class, and its classes have structs
mutual
  pub data IsPlanned (layout : Layout) (same : List ℕ) : Element → Type 0 where
    Listed : (site : ℕ) (r : Bool) → leader same site ≡ site → IsPlanned layout same (element.List site r)
    Mapped : (site : ℕ) (r : Bool) → leader same site ≡ site → IsPlanned layout same (element.Dict site r)
    Instanced : (class : ℕ) (r : Bool) (l : Laid) → laid_in layout.classes class ≡ Some l → IsPlanned layout same (element.Instance class r)
    Items : (parts : List Element) → AllPlanned layout same parts → IsPlanned layout same (element.Tuple parts)
    Nowhere : {e : Element} → kind_of e ≡ kind.Never → IsPlanned layout same e
    Simple : {e : Element} → is_simple (kind_of e) ≡ true → IsPlanned layout same e
    Called : (functions : List ℕ) (r : Bool) → IsPlanned layout same (element.Func functions r)

  pub data AllPlanned (layout : Layout) (same : List ℕ) : List Element → Type 0 where
    End : AllPlanned layout same []
    Next : {e : Element} {es : List Element} → IsPlanned layout same e → AllPlanned layout same es → AllPlanned layout same (e ∷ es)

-- Then each has its structs.
abbrev pub ElementsAreLaid : Type 0
ElementsAreLaid = (program : Resolved) (infos : List ClassInfo) (a : Annotation) (raises : Bool) → length (layout_of program infos a raises).structs < 2 ^ 64
    → (e : Element) → StandsIn a e → IsPlanned (layout_of program infos a raises) a.same e → IsLaid (layout_of program infos a raises) a.same e
