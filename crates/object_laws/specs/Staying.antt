-- Values that stay what they are, where something else is known of them.
use Rattle.std.specs.Prelude.{◌≡◌, ℕ, Bool, true, List, Option, Some}
use Rattle.ann_element.specs.declared.element.Element.{Element}
use Rattle.ann_element.specs.declared.element.Element.TheVariants as element
use Rattle.ll_code.specs.declared.program.LlType.TheVariants as type
use Rattle.rpy_meaning.specs.Classes.{is_below}
use Rattle.rtyper_layout.specs.declared.kind.Kind.TheVariants as kind
use Rattle.rtyper_layout.specs.declared.layout.Layout.{Layout}
use Rattle.rtyper_layout.specs.Kinds.{kind_seen}
use Rattle.rtyper_layout.specs.Types.{type_seen}
use Rattle.rtyper_list.specs.Operands.{of_list}
use Rattle.lower_laws.specs.Tuples.{Stays as StaysPlain}
use Rattle.object_laws.specs.Known.{Known}
use Rattle.object_laws.specs.Values.{is_one_of, of_dict}

-- what is of the one class is of the other
abbrev pub IsWithin : Known → ℕ → ℕ → Type 0
IsWithin known a b = (c : ℕ) → is_below known.program.classes c a ≡ true → is_below known.program.classes c b ≡ true

-- what is one of these is one of those
abbrev pub AreAmong : List ℕ → List ℕ → Type 0
AreAmong fs gs = (f : ℕ) → is_one_of fs f ≡ true → is_one_of gs f ≡ true

-- A value that is known as the one is the other as it is: what it is without objects; a list or a dict of one class of sites; an instance,
-- where what is of the one class is of the other; and a function, where what is one of the first is one of the others. Each may be missing
-- in the other where it may be in the one.
pub data Stays (layout : Layout) (known : Known) (from to : Option Element) : Type 0 where
  Plainly : StaysPlain layout from to → Stays layout known from to
  AsList : (n : ℕ) → type_seen layout from ≡ type.Ptr n → type_seen layout to ≡ type.Ptr n → kind_seen from ≡ kind.List → of_list (kind_seen to) ≡ true → Stays layout known from to
  AsMaybe : (n : ℕ) → type_seen layout from ≡ type.Ptr n → type_seen layout to ≡ type.Ptr n → kind_seen from ≡ kind.MaybeList → kind_seen to ≡ kind.MaybeList → Stays layout known from to
  AsDict : (n : ℕ) → type_seen layout from ≡ type.Ptr n → type_seen layout to ≡ type.Ptr n → kind_seen from ≡ kind.Dict → of_dict (kind_seen to) ≡ true → Stays layout known from to
  AsMaybeDict : (n : ℕ) → type_seen layout from ≡ type.Ptr n → type_seen layout to ≡ type.Ptr n → kind_seen from ≡ kind.MaybeDict → kind_seen to ≡ kind.MaybeDict → Stays layout known from to
  AsInstance : (n a b : ℕ) (r s : Bool) → type_seen layout from ≡ type.Ptr n → type_seen layout to ≡ type.Ptr n → from ≡ Some (element.Instance a r) → to ≡ Some (element.Instance b s) → (r ≡ true → s ≡ true) → IsWithin known a b → Stays layout known from to
  AsFunction : (fs gs : List ℕ) (r s : Bool) → from ≡ Some (element.Func fs r) → to ≡ Some (element.Func gs s) → (r ≡ true → s ≡ true) → AreAmong fs gs → Stays layout known from to
