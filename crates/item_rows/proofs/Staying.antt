-- Elements that stay what they are, and those that may come.
use Rattle.std.proofs.Common.{◌≡◌, ℕ, true, false, List, Some, refl, sym, ap, ◌∙◌}
use Rattle.ann_element.specs.declared.element.Element.{Element}
use Rattle.ann_lattice.specs.Kind.{is_nothing}
use Rattle.ann_lattice.specs.Order as order
use Rattle.ann_lattice.specs.Order.{Below}
use Rattle.ann_lattice.specs.Shape.{One, Any, OrNone, Shape, Nothing, NoneOnly, Truth, Num, Str, Tup, Lst, Dct, Inst, Fun, Clash, shape}
use Rattle.rpy_tree.specs.declared.program.ClassInfo.{ClassInfo}
use Rattle.rtyper_layout.specs.declared.kind.Kind.TheVariants as kind
use Rattle.rtyper_layout.specs.declared.layout.Layout.{Layout}
use Rattle.rtyper_layout.specs.Kinds.{kind_of}
use Rattle.rtyper_layout.specs.Types.{root_of}
use Rattle.rtyper_op.specs.Lowering.{never_comes}
use Rattle.lower_laws.specs.Tuples as plain
use Rattle.object_laws.specs.Known.{Known}
use Rattle.object_laws.specs.Staying.{Stays, Plainly, AsList, AsMaybe, AsDict, AsMaybeDict, AsInstance, AsFunction}
use Rattle.object_laws.proofs.Valued.{instance_type}
use Rattle.conversion_laws.specs.Ordered.{IsLaid, Nowhere, Simple, Listed, Mapped, Instanced, Called, Items}
use Rattle.list_rows.proofs.Shapes.{kind_in, kind_is, no}

-- what has something is not said to come never
some_kind : (x : Shape) → is_nothing x ≡ false → never_comes (kind_in x) ≡ false
some_kind Nothing h = no (sym h)
some_kind NoneOnly h = refl
some_kind (Truth b) h = refl
some_kind (Num b) h = refl
some_kind (Str One) h = refl
some_kind (Str Any) h = refl
some_kind (Str OrNone) h = refl
some_kind (Tup xs) h = refl
some_kind (Lst s true) h = refl
some_kind (Lst s false) h = refl
some_kind (Dct s true) h = refl
some_kind (Dct s false) h = refl
some_kind (Inst c true) h = refl
some_kind (Inst c false) h = refl
some_kind (Fun fs true) h = refl
some_kind (Fun fs false) h = refl
some_kind (Clash o p) h = refl

pub comes : (e : Element) → is_nothing (shape e) ≡ false → never_comes (kind_of e) ≡ false
comes e h = ap never_comes (kind_is e) ∙ some_kind (shape e) h

-- nothing is above something but what is something
pub still_some : (k : List ClassInfo) (s : List ℕ) (x z : Shape) → Below k s x z → is_nothing x ≡ false → is_nothing z ≡ false
still_some k s _ _ (order.least z) h = no (sym h)
still_some k s _ _ order.none h = refl
still_some k s _ _ order.none_str h = refl
still_some k s _ _ (order.none_list u) h = refl
still_some k s _ _ (order.none_dict u) h = refl
still_some k s _ _ (order.none_inst c) h = refl
still_some k s _ _ (order.none_fun fs) h = refl
still_some k s _ _ (order.truth a b less) h = refl
still_some k s _ _ (order.num a b less) h = refl
still_some k s _ _ (order.str a b less) h = refl
still_some k s _ _ (order.tuple xs ys each) h = refl
still_some k s _ _ (order.list a b c d e f) h = refl
still_some k s _ _ (order.dict a b c d e f) h = refl
still_some k s _ _ (order.inst a b c d e f) h = refl
still_some k s _ _ (order.fun a b c d e f) h = refl
still_some k s _ _ (order.clash x o p a b) h = refl

never_kind : (e : Element) → never_comes (kind_of e) ≡ false → kind_of e ≡ kind.Never → ⊥
never_kind e h k = no (sym h ∙ ap never_comes k)

-- what is laid out, and may come, stays what it is
pub stays_itself : (layout : Layout) (known : Known) (same : List ℕ) (e : Element) → IsLaid layout same e → never_comes (kind_of e) ≡ false → Stays layout known (Some e) (Some e)
stays_itself layout known same e (Nowhere k) h = absurd (never_kind e h k)
stays_itself layout known same e (Simple simple) h = Plainly (plain.Same (kind_of e) simple refl refl)
stays_itself layout known same _ (Listed n site true led typed) h = AsMaybe n typed typed refl refl
stays_itself layout known same _ (Listed n site false led typed) h = AsList n typed typed refl refl
stays_itself layout known same _ (Mapped n site true led typed) h = AsMaybeDict n typed typed refl refl
stays_itself layout known same _ (Mapped n site false led typed) h = AsDict n typed typed refl refl
stays_itself layout known same _ (Instanced class r l at) h =
    let typed = instance_type layout class r ∙ ap root_of at in
    AsInstance l.root class class r r typed typed refl refl (λ k. k) (λ c k. k)
stays_itself layout known same _ (Called fs r) h = AsFunction fs fs r r refl refl (λ k. k) (λ f k. k)
stays_itself layout known same _ (Items n parts of all) h = Plainly (plain.Whole n refl refl of.typed)
