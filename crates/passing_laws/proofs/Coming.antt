-- What goes to an element may be there, and so the element has a type.
use Rattle.std.proofs.Common.{◌≡◌, suc, true, false, Bool, List, [], ◌∷◌, length, refl, sym, ap, ◌∙◌}
use Rattle.std.specs.Prelude.{if◌then◌else◌}
use Rattle.ann_element.specs.declared.element.Element.{Element}
use Rattle.ll_code.specs.declared.program.LlType.TheVariants as type
use Rattle.rtyper_layout.specs.declared.kind.Kind.TheVariants as kind
use Rattle.rtyper_layout.specs.declared.layout.Layout.{Layout}
use Rattle.rtyper_layout.specs.Kinds.{kind_seen}
use Rattle.rtyper_layout.specs.Types.{type_of as type_of_element}
use Rattle.rtyper_op.specs.Lowering.{is_never, never_comes}
use Rattle.rtyper_data.specs.Seen.{Operand, kind_of}
use Rattle.object_laws.specs.Known.{Known}
use Rattle.conversion_laws.proofs.Valued.{to_typed}
use Rattle.passing_laws.specs.Passing.{AllPass}

pub coming : (a : Operand) → never_comes (kind_of a) ≡ false → kind_seen a.element ≡ kind.Never → ⊥
coming a comes h = (let q : true ≡ false = sym (ap never_comes h) ∙ comes in absurd (cc))

pub first_comes : (a : Operand) (args : List Operand) → is_never (a ∷ args) ≡ false → never_comes (kind_of a) ≡ false
first_comes a args h = by (never_comes (kind_of a)) refl
  where
    by : (b : Bool) → never_comes (kind_of a) ≡ b → never_comes (kind_of a) ≡ false
    by true e = absurd (let q : true ≡ false = sym (ap (λ c. if c then true else is_never args) e) ∙ h in cc)
    by false e = e

pub others_come : (a : Operand) (args : List Operand) → is_never (a ∷ args) ≡ false → is_never args ≡ false
others_come a args h = sym (ap (λ c. if c then true else is_never args) (first_comes a args h)) ∙ h

-- each has a type
abbrev pub AllTo : Layout → List Element → Type 0
AllTo layout [] = Unit {0}
AllTo layout (e ∷ es) = (type_of_element layout e ≡ type.Void → ⊥) × AllTo layout es

pub all_to : (layout : Layout) (known : Known) (args : List Operand) (es : List Element) → is_never args ≡ false → AllPass layout known args es → AllTo layout es
all_to layout known [] [] comes pass = tt
all_to layout known [] (e ∷ es) comes pass = absurd pass
all_to layout known (a ∷ args) [] comes pass = absurd pass
all_to layout known (a ∷ args) (e ∷ es) comes pass = (to_typed pass.0 (coming a (first_comes a args comes)), all_to layout known args es (others_come a args comes) pass.1)

pub pass_long : (layout : Layout) (known : Known) (args : List Operand) (es : List Element) → AllPass layout known args es → length args ≡ length es
pass_long layout known [] [] pass = refl
pass_long layout known [] (e ∷ es) pass = absurd pass
pass_long layout known (a ∷ args) [] pass = absurd pass
pass_long layout known (a ∷ args) (e ∷ es) pass = ap suc (pass_long layout known args es pass.1)
