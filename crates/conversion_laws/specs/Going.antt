-- Elements of which values of the one are values of the other, once they are converted.
use Rattle.std.specs.Prelude.{◌≡◌, ℕ, Bool, true, false, List, [], ◌∷◌, Option, Some}
use Rattle.ann_element.specs.declared.element.Element.{Element}
use Rattle.ann_element.specs.declared.element.Element.TheVariants as element
use Rattle.csub_tree.specs.declared.tree.CConst.TheVariants as constant
use Rattle.ll_code.specs.declared.program.LlType.TheVariants as type
use Rattle.rtyper_layout.specs.declared.kind.Kind.{Kind}
use Rattle.rtyper_layout.specs.declared.kind.Kind.TheVariants as kind
use Rattle.rtyper_layout.specs.declared.layout.Layout.{Layout}
use Rattle.rtyper_layout.specs.Kinds.{kind_seen}
use Rattle.rtyper_layout.specs.Layout.{is_tuple}
use Rattle.rtyper_layout.specs.Types.{type_seen, shape}
use Rattle.rtyper_data.specs.Converting.{default_constant}
use Rattle.rtyper_data.specs.Graphs.{fields_at}
use Rattle.object_laws.specs.Known.{Known}
use Rattle.object_laws.specs.Staying.{Stays}
use Rattle.object_laws.specs.Values.{may_be_missing}

-- what may be `None`, which is NULL: a string, an object or a function
abbrev pub takes_none : Kind → Bool
takes_none kind.MaybeText = true
takes_none k = may_be_missing k

-- a string, which may be missing
abbrev pub takes_text : Kind → Bool
takes_text kind.Text = true
takes_text kind.MaybeText = true
takes_text k = false

-- a tuple of these items, which has this struct in the layout
pub record IsTuple (layout : Layout) (seen : Option Element) (n : ℕ) (parts : List Element) : Type 0 where
  pub is : seen ≡ Some (element.Tuple parts)
  pub typed : type_seen layout seen ≡ type.Ptr n
  pub struct : is_tuple layout n ≡ true
  pub fields : fields_at layout n ≡ shape layout parts

module _ (layout : Layout) (known : Known) where
  mutual
    -- A value of the one is one of the other: there is none of the first; it stays what it is; it is `None`, and the other may be; it is
    -- a byte, and the other a string; or it is a tuple, and each of its items is one of those of the other.
    pub data Goes : Option Element → Option Element → Type 0 where
      Never : {from to : Option Element} → kind_seen from ≡ kind.Never → Goes from to
      Staying : {from to : Option Element} → Stays layout known from to → Goes from to
      Missing : {from to : Option Element} → kind_seen from ≡ kind.Nothing → takes_none (kind_seen to) ≡ true → default_constant (type_seen layout to) ≡ constant.Null → Goes from to
      Texted : {from to : Option Element} → kind_seen from ≡ kind.Byte → takes_text (kind_seen to) ≡ true → Goes from to
      Items : {from to : Option Element} (m n : ℕ) (parts others : List Element) → IsTuple layout from m parts → IsTuple layout to n others → AllGo parts others → Goes from to

    -- one for each
    pub data AllGo : List Element → List Element → Type 0 where
      End : AllGo [] []
      Next : {part other : Element} {parts others : List Element} → Goes (Some part) (Some other) → AllGo parts others → AllGo (part ∷ parts) (other ∷ others)
