-- What is known of a value that is not `None`.
use Rattle.std.proofs.Common.{◌≡◌, ◌≢◌, ◌⊎◌, inl, inr, ℕ, true, false, List, Some, refl, sym, ap, ◌∙◌, subst}
use Rattle.ann_element.specs.declared.element.Element.{Element}
use Rattle.ann_element.specs.declared.element.Element.TheVariants as element
use Rattle.ann_lattice.specs.Row.{drop_none}
use Rattle.ann_lattice.specs.Shape.{One, Any, OrNone, Shape, Nothing, NoneOnly, Truth, Num, Str, Tup, Lst, Dct, Inst, Fun, Clash, shape}
use Rattle.csub_tree.specs.State.{Value}
use Rattle.lower_laws.specs.Values.{is_plain}
use Rattle.lower_laws.proofs.Typing.{place_of_strings, place_of_texts}
use Rattle.object_laws.specs.Ghost.{Ghost}
use Rattle.object_laws.specs.Known.{Known}
use Rattle.object_laws.specs.Values.{Holds, Plain, Listed, Mapped, Made, Function}
use Rattle.object_laws.specs.Values as values
use Rattle.object_laws.proofs.Valued.{Absent, Dicting, Gone, Instancing, Listing, OfFunction, dict_or_none, function_or_none, function_type, instance_or_none, instance_type, list_or_none, plain_stands}
use Rattle.conversion_laws.specs.Ordered.{IsLaid, Simple, Instanced, Called}
use Rattle.conversion_laws.specs.Ordered as laid
use Rattle.rpy_tree.specs.Value.{Value as Meant, Nothing as MeantNothing}
use Rattle.rtyper_layout.specs.declared.kind.Kind.TheVariants as kind
use Rattle.rtyper_layout.specs.declared.layout.Layout.{Layout}
use Rattle.rtyper_layout.specs.Types.{type_of}
use Rattle.value_rows.proofs.Laid.{class_laid, dict_laid, dict_shape, dicts_alike, lists_alike, function_laid, function_shape, instance_shape, list_laid, list_shape, string_shape}
use Rattle.value_rows.proofs.Shaped.{kind_at}

module _ (layout : Layout) (same : List ℕ) (known : Known) where
  -- an element of the same type, of which a value is where it is not `None`
  pub record Dropped (x : Element) : Type 0 where
    pub from : Element
    pub shaped : shape from ≡ drop_none (shape x)
    pub typed : type_of layout from ≡ type_of layout x
    pub laid : IsLaid layout same from
    pub holds : (g : Ghost) (y : Value) (v : Meant) → v ≢ MeantNothing → Holds layout known g (Some x) y v → Holds layout known g (Some from) y v

  as_it_is : (x : Element) (s : Shape) → IsLaid layout same x → shape x ≡ s → drop_none s ≡ s → Dropped x
  as_it_is x s l e d = record { from = x; shaped = e ∙ sym d ∙ ap drop_none (sym e); typed = refl; laid = l; holds = λ g y v there held. held }

  string_dropped : (x : Element) → shape x ≡ Str OrNone → Dropped x
  string_dropped x e =
      let k = kind_at x (Str OrNone) e in
      let typed : type_of layout element.Str ≡ type_of layout x = place_of_strings layout (Some element.Str) refl ∙ sym (place_of_texts layout (Some x) k) in
      record {
        from = element.Str;
        shaped = string_shape ∙ ap drop_none (sym e);
        typed = typed;
        laid = Simple refl;
        holds = λ g y v there held. Plain refl (subst (λ u. values.Stands g u y v) (sym typed) (plain_stands (ap is_plain k) held));
      }

  list_dropped : (x : Element) (s : ℕ) → IsLaid layout same x → shape x ≡ Lst s true → Dropped x
  list_dropped x s l e =
      let h = list_laid layout same s true l e in
      let typed : type_of layout (element.List s false) ≡ type_of layout (element.List s true) = lists_alike layout s false true in
      subst Dropped (sym h.is) (record {
        from = element.List s false;
        shaped = list_shape s false ∙ ap drop_none (sym (list_shape s true));
        typed = typed;
        laid = laid.Listed h.n s false h.led (typed ∙ h.typed);
        holds = λ g y v there held. by g y v there typed (list_or_none refl held);
      })
    where
      by : (g : Ghost) (y : Value) (v : Meant) → v ≢ MeantNothing → type_of layout (element.List s false) ≡ type_of layout (element.List s true) → Listing layout known g (Some (element.List s true)) y v ⊎ Absent (Some (element.List s true)) y v → Holds layout known g (Some (element.List s false)) y v
      by g y v there typed (inl it) = Listed it.n it.i refl it.high (typed ∙ it.typed) it.struct it.home
      by g y v there typed (inr gone) = absurd (there gone.high)

  dict_dropped : (x : Element) (s : ℕ) → IsLaid layout same x → shape x ≡ Dct s true → Dropped x
  dict_dropped x s l e =
      let h = dict_laid layout same s true l e in
      let typed : type_of layout (element.Dict s false) ≡ type_of layout (element.Dict s true) = dicts_alike layout s false true in
      subst Dropped (sym h.is) (record {
        from = element.Dict s false;
        shaped = dict_shape s false ∙ ap drop_none (sym (dict_shape s true));
        typed = typed;
        laid = laid.Mapped h.n s false h.led (typed ∙ h.typed);
        holds = λ g y v there held. by g y v there typed (dict_or_none refl held);
      })
    where
      by : (g : Ghost) (y : Value) (v : Meant) → v ≢ MeantNothing → type_of layout (element.Dict s false) ≡ type_of layout (element.Dict s true) → Dicting layout known g (Some (element.Dict s true)) y v ⊎ Gone kind.MaybeDict (Some (element.Dict s true)) y v → Holds layout known g (Some (element.Dict s false)) y v
      by g y v there typed (inl it) = Mapped it.n it.i it.m refl it.high (typed ∙ it.typed) it.struct it.home
      by g y v there typed (inr gone) = absurd (there gone.high)

  instance_dropped : (x : Element) (c : ℕ) → IsLaid layout same x → shape x ≡ Inst c true → Dropped x
  instance_dropped x c l e =
      let h = class_laid layout same c true l e in
      subst Dropped (sym h.is) (record {
        from = element.Instance c false;
        shaped = instance_shape c false ∙ ap drop_none (sym (instance_shape c true));
        typed = instance_type layout c false ∙ sym (instance_type layout c true);
        laid = Instanced c false h.laid h.at;
        holds = λ g y v there held. by g y v there (instance_or_none c true refl held);
      })
    where
      by : (g : Ghost) (y : Value) (v : Meant) → v ≢ MeantNothing → Instancing known g c y v ⊎ ((true ≡ true) × Gone kind.MaybeInstance (Some (element.Instance c true)) y v) → Holds layout known g (Some (element.Instance c false)) y v
      by g y v there (inl it) = Made c false it.c it.i refl it.high it.below it.home
      by g y v there (inr gone) = absurd (there gone.1.high)

  function_dropped : (x : Element) (fs : List ℕ) → IsLaid layout same x → shape x ≡ Fun fs true → Dropped x
  function_dropped x fs l e =
      let h : x ≡ element.Func fs true = function_laid layout same fs true l e in
      subst Dropped (sym h) (record {
        from = element.Func fs false;
        shaped = function_shape fs false ∙ ap drop_none (sym (function_shape fs true));
        typed = function_type layout fs false ∙ sym (function_type layout fs true);
        laid = Called fs false;
        holds = λ g y v there held. by g y v there (function_or_none fs true refl held);
      })
    where
      by : (g : Ghost) (y : Value) (v : Meant) → v ≢ MeantNothing → OfFunction known fs y v ⊎ ((true ≡ true) × Gone kind.MaybeFunction (Some (element.Func fs true)) y v) → Holds layout known g (Some (element.Func fs false)) y v
      by g y v there (inl it) = Function fs false it.f it.n refl it.high it.one it.graph it.low
      by g y v there (inr gone) = absurd (there gone.1.high)

  pub dropped : (x : Element) (s : Shape) → IsLaid layout same x → shape x ≡ s → (s ≡ NoneOnly → ⊥) → Dropped x
  dropped x Nothing l e some = as_it_is x Nothing l e refl
  dropped x NoneOnly l e some = absurd (some refl)
  dropped x (Truth b) l e some = as_it_is x (Truth b) l e refl
  dropped x (Num b) l e some = as_it_is x (Num b) l e refl
  dropped x (Str One) l e some = as_it_is x (Str One) l e refl
  dropped x (Str Any) l e some = as_it_is x (Str Any) l e refl
  dropped x (Str OrNone) l e some = string_dropped x e
  dropped x (Tup xs) l e some = as_it_is x (Tup xs) l e refl
  dropped x (Lst s true) l e some = list_dropped x s l e
  dropped x (Lst s false) l e some = as_it_is x (Lst s false) l e refl
  dropped x (Dct s true) l e some = dict_dropped x s l e
  dropped x (Dct s false) l e some = as_it_is x (Dct s false) l e refl
  dropped x (Inst c true) l e some = instance_dropped x c l e
  dropped x (Inst c false) l e some = as_it_is x (Inst c false) l e refl
  dropped x (Fun fs true) l e some = function_dropped x fs l e
  dropped x (Fun fs false) l e some = as_it_is x (Fun fs false) l e refl
  dropped x (Clash o p) l e some = as_it_is x (Clash o p) l e refl
