-- What is known to be `None` is.
use Rattle.std.proofs.Common.{◌≡◌, ℕ, List, Bool, true, false, Option, Some, sym, ap, ◌∙◌}
use Rattle.ann_element.specs.declared.element.Element.{Element}
use Rattle.ann_element.specs.declared.element.Element.TheVariants as element
use Rattle.csub_tree.specs.State.{Value}
use Rattle.rpy_tree.specs.Value.{Value as Meant, Nothing}
use Rattle.rtyper_layout.specs.declared.kind.Kind.TheVariants as kind
use Rattle.rtyper_layout.specs.declared.layout.Layout.{Layout}
use Rattle.rtyper_layout.specs.Kinds.{kind_seen}
use Rattle.rtyper_list.specs.Operands.{of_list}
use Rattle.lower_laws.specs.Values.{is_plain}
use Rattle.object_laws.specs.Ghost.{Ghost}
use Rattle.object_laws.specs.Known.{Known}
use Rattle.object_laws.specs.Values.{Holds, Plain, Alone, Items, Listed, Mapped, Made, Function, Missing, of_dict}

no_instance : (seen : Option Element) (c : ℕ) (r : Bool) → seen ≡ Some (element.Instance c r) → kind_seen seen ≡ kind.Nothing → ⊥
no_instance seen c true e h = (let q : kind.MaybeInstance ≡ kind.Nothing = sym (ap kind_seen e) ∙ h in absurd (cc))
no_instance seen c false e h = (let q : kind.Instance ≡ kind.Nothing = sym (ap kind_seen e) ∙ h in absurd (cc))

no_function : (seen : Option Element) (fs : List ℕ) (r : Bool) → seen ≡ Some (element.Func fs r) → kind_seen seen ≡ kind.Nothing → ⊥
no_function seen fs true e h = (let q : kind.MaybeFunction ≡ kind.Nothing = sym (ap kind_seen e) ∙ h in absurd (cc))
no_function seen fs false e h = (let q : kind.Function ≡ kind.Nothing = sym (ap kind_seen e) ∙ h in absurd (cc))

pub nothing_held : {layout : Layout} {known : Known} {g : Ghost} {seen : Option Element} {x : Value} {v : Meant} → kind_seen seen ≡ kind.Nothing → Holds layout known g seen x v → v ≡ Nothing
nothing_held h (Plain p s) = (let q : false ≡ true = ap is_plain (sym h) ∙ p in absurd (cc))
nothing_held h (Alone k e f) = f
nothing_held h (Items parts n xs vs e f t is all) = (let q : kind.Tuple ≡ kind.Nothing = sym (ap kind_seen e) ∙ h in absurd (cc))
nothing_held h (Listed n i k f t s home) = (let q : false ≡ true = ap of_list (sym h) ∙ k in absurd (cc))
nothing_held h (Mapped n i m k f t s home) = (let q : false ≡ true = ap of_dict (sym h) ∙ k in absurd (cc))
nothing_held {seen = seen} h (Made c r d i e f b home) = absurd (no_instance seen c r e h)
nothing_held {seen = seen} h (Function fs r f n e k b l y) = absurd (no_function seen fs r e h)
nothing_held h (Missing k e f) = f
