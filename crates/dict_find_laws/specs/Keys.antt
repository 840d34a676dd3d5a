-- What may be a key of a dict: words, truth values, bytes and strings, and tuples of such, at any depth.
use Rattle.std.specs.Prelude.{◌≡◌, ℕ, true, false, List, [], ◌∷◌, Option, Some}
use Rattle.ann_element.specs.declared.element.Element.{Element}
use Rattle.rpy_tree.specs.Value.{Value as Meant, Values, none, more, Nothing, Tuple}
use Rattle.rtyper_layout.specs.declared.layout.Layout.{Layout}
use Rattle.rtyper_layout.specs.Kinds.{kind_seen}
use Rattle.rtyper_layout.specs.Layout.{is_tuple}
use Rattle.lower_laws.specs.Values.{is_plain}
use Rattle.conversion_laws.specs.Going.{IsTuple}

module _ (layout : Layout) where
  mutual
    -- values of which this is known are keys: words, truth values, bytes and strings, which may be missing, or tuples whose items are; the
    -- struct of strings is no tuple
    pub data AreKeys : Option Element → Type 0 where
      Plain : {seen : Option Element} → is_plain (kind_seen seen) ≡ true → AreKeys seen
      Items : {seen : Option Element} (n : ℕ) (parts : List Element) → is_tuple layout 0 ≡ false → IsTuple layout seen n parts → AllAreKeys parts → AreKeys seen

    -- each of them
    pub data AllAreKeys : List Element → Type 0 where
      End : AllAreKeys []
      Next : {part : Element} {parts : List Element} → AreKeys (Some part) → AllAreKeys parts → AllAreKeys (part ∷ parts)

-- it is not `None`, and no part of it is, which have no hash
abbrev mutual
  pub IsThere : Meant → Type 0
  IsThere Nothing = ⊥
  IsThere (Tuple vs) = AllAreThere vs
  IsThere other = Unit {0}

  pub AllAreThere : Values → Type 0
  AllAreThere none = Unit {0}
  AllAreThere (more v vs) = IsThere v × AllAreThere vs
