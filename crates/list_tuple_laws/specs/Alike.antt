-- Elements of which any two values are equal or not.
use Rattle.std.specs.Prelude.{◌≡◌, ℕ, true, List, [], ◌∷◌, Option, Some}
use Rattle.ann_element.specs.declared.element.Element.{Element}
use Rattle.rtyper_layout.specs.declared.kind.Kind.TheVariants as kind
use Rattle.rtyper_layout.specs.declared.layout.Layout.{Layout}
use Rattle.rtyper_layout.specs.Kinds.{is_text_or_none, kind_seen}
use Rattle.conversion_laws.specs.Going.{IsTuple}

module _ (layout : Layout) where
  mutual
    -- both are words, both truth values, both bytes, strings or `None`, or both are tuples of as many items, which are so
    pub data AreAlike : Option Element → Option Element → Type 0 where
      Words : {a b : Option Element} → kind_seen a ≡ kind.Word → kind_seen b ≡ kind.Word → AreAlike a b
      Flags : {a b : Option Element} → kind_seen a ≡ kind.Flag → kind_seen b ≡ kind.Flag → AreAlike a b
      Texts : {a b : Option Element} → is_text_or_none (kind_seen a) ≡ true → is_text_or_none (kind_seen b) ≡ true → AreAlike a b
      Items : {a b : Option Element} (m n : ℕ) (parts others : List Element) → IsTuple layout a m parts → IsTuple layout b n others → AllAlike parts others → AreAlike a b

    -- one for each
    pub data AllAlike : List Element → List Element → Type 0 where
      End : AllAlike [] []
      Next : {part other : Element} {parts others : List Element} → AreAlike (Some part) (Some other) → AllAlike parts others → AllAlike (part ∷ parts) (other ∷ others)
