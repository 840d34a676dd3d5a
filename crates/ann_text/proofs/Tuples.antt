-- The text of a tuple.
use Rattle.std.proofs.Common.{◌≡◌, ℕ, List, [], ◌∷◌, ◌++◌, codes, sym, ap, ◌∙◌, refl, map}
use Rattle.std.specs.List.{flat_map}
use Rattle.std.proofs.lemmas.List.Folds.{flat_map-map}
use Rattle.rpy_resolved.specs.declared.label.Labels.{Labels}
use Rattle.ann_element.specs.declared.element.Element.{Element, fold-roll-Element}
use Rattle.ann_element.specs.declared.element.Element.TheVariants as e
use Rattle.ann_element.specs.declared.element.Element.TheOpen.{Element-F}
use Rattle.ann_text.specs.ElementText.{commas, next_text, element_step, element, elements}

commas_are : (labels : Labels) (same : List ℕ) (parts : List Element) → commas (map (element labels same) parts) ≡ elements labels same parts
commas_are labels same [] = refl
commas_are labels same (p ∷ ps) = ap (λ text. element labels same p ++ text) (flat_map-map next_text (element labels same) ps)

pub tuple_is : (labels : Labels) (same : List ℕ) (parts : List Element) → element labels same (e.Tuple parts) ≡ codes "tuple(" ++ elements labels same parts ++ codes ")"
tuple_is labels same parts =
    ap (element labels same) (sym (e.rolls-Tuple parts)) ∙ fold-roll-Element (List ℕ) (element_step labels same) (Element-F.Tuple parts)
    ∙ ap (λ text. codes "tuple(" ++ text ++ codes ")") (commas_are labels same parts)
