-- The classes are laid out.
use Rattle.std.proofs.Common.{◌≡◌, ◌<◌, ◌⊎◌, inl, inr, ℕ, ◌+◌, Bool, true, List, [], length, Option, Some, None, refl, sym, ap, ◌∙◌, subst, arith}
use Rattle.std.specs.Prelude.{◌^◌, ◌*◌, ◌-◌, option_map}
use Rattle.std.proofs.lemmas.Bool.{cases_order}
use Rattle.ann_element.specs.declared.annotation.Annotation.{Annotation}
use Rattle.ann_element.specs.declared.element.Element.{Element}
use Rattle.csub_tree.specs.Layout.{Shape, shape_at, shape_over, is_among, begins_with}
use Rattle.rpy_resolved.specs.declared.tree.Resolved.{Resolved}
use Rattle.class_desc.specs.Line.{base, is_below}
use Rattle.class_desc.specs.Tables.{home as home_of}
use Rattle.rtyper_layout.specs.declared.classes.Laid.{Laid}
use Rattle.rtyper_layout.specs.declared.layout.Layout.{Layout}
use Rattle.rtyper_layout.specs.Families.{attribute_place}
use Rattle.rtyper_layout.specs.Layout.{layout_of}
use Rattle.rtyper_class.specs.Attributes.{standing, standing_in, standing_at, place_in}
use Rattle.rtyper_class.specs.Seen.{World, laid}
use Rattle.object_laws.specs.Known.{Known, Standing}
use Rattle.object_laws.specs.Represents.{shapes, value_at, set_at}
use Rattle.class_laws.specs.Classes.{IsLaidOut, HasFields, IsTop, standing_of}
use Rattle.layout_laws.specs.Layouts.{IsWorldOf, IsNumbered, KnowsAttributes, LayoutsLayOutClasses}
use Rattle.layout_laws.proofs.Attributes.{declared, few_declared, place_within, places_apart}
use Rattle.layout_laws.proofs.Chains.{among_first, chain, topmost_of, Fields, fields_of}
use Rattle.layout_laws.proofs.Facts.{Facts, Sort, OnTop, OnBase}
use Rattle.layout_laws.proofs.Lines.{Under, Here, Up, is_under, comparable, home_under, home_below}
use Rattle.layout_laws.proofs.Places.{same_some, no_some}
use Rattle.layout_laws.proofs.Structs.{facts}

module _ (world : World) (known : Known) (counted : IsNumbered world) (knows : KnowsAttributes world known) (of : Facts world.classes.classes world.attributes world.around.layout) where
  abbrev layout : Layout
  layout = world.around.layout

  -- an attribute of a class: where it is declared, and its place there
  pub record Stands (c : ℕ) (name : List ℕ) (s : Standing) : Type 0 where
    pub home : ℕ
    pub at_home : home_of world.classes c name ≡ Some home
    pub m : Laid
    pub is_laid : laid world home ≡ Some m
    pub at : ℕ × Element
    pub placed : attribute_place world.attributes home name ≡ Some at
    pub is : record { own = m.own; place = at.0; element = at.1 } ≡ s

  stands_in : (c h : ℕ) (name : List ℕ) (s : Standing) (m : Laid) → home_of world.classes c name ≡ Some h → laid world h ≡ Some m → (o : Option (ℕ × Element)) → attribute_place world.attributes h name ≡ o
      → option_map standing_of (standing m.own o) ≡ Some s → Stands c name s
  stands_in c h name s m at_home is_laid None placed e = absurd (no_some e)
  stands_in c h name s m at_home is_laid (Some at) placed e = record { home = h; at_home = at_home; m = m; is_laid = is_laid; at = at; placed = placed; is = same_some e }

  stands_home : (c h : ℕ) (name : List ℕ) (s : Standing) → home_of world.classes c name ≡ Some h → (o : Option Laid) → laid world h ≡ o → option_map standing_of (standing_in world h name o) ≡ Some s → Stands c name s
  stands_home c h name s at_home None is_laid e = absurd (no_some e)
  stands_home c h name s at_home (Some m) is_laid e = stands_in c h name s m at_home is_laid (attribute_place world.attributes h name) refl e

  stands_at : (c : ℕ) (name : List ℕ) (s : Standing) → (o : Option ℕ) → home_of world.classes c name ≡ o → option_map standing_of (standing_at world name o) ≡ Some s → Stands c name s
  stands_at c name s None at_home e = absurd (no_some e)
  stands_at c name s (Some h) at_home e = stands_home c h name s at_home (laid world h) refl e

  pub stands : (c : ℕ) (name : List ℕ) (s : Standing) → known.attribute c name ≡ Some s → Stands c name s
  unfolding place_in
  stands c name s h = stands_at c name s (home_of world.classes c name) refl (sym (knows c name) ∙ h)

  -- ---- the fields of an attribute

  pub record Spot (c : ℕ) (name : List ℕ) (s : Standing) : Type 0 where
    pub it : Stands c name s
    pub fields : Fields world.classes.classes world.attributes layout of counted.forest it.home it.m
    pub within : it.at.0 < declared it.home world.attributes
    pub value : value_at layout s ≡ fields.start + 2 * it.at.0
    pub set : set_at layout s ≡ fields.start + 2 * it.at.0 + 1

  pub spot : (c : ℕ) (name : List ℕ) (s : Standing) → known.attribute c name ≡ Some s → Spot c name s
  spot c name s h =
      let it = stands c name s h in
      let fields = fields_of world.classes.classes world.attributes layout of counted.forest it.home it.m it.is_laid in
      let within : it.at.0 < 0 + declared it.home world.attributes = (place_within world.attributes 0 it.home name it.at it.placed).1 in
      let small : it.at.0 < 2 ^ 63 - 1 = (let z = few_declared it.home world.attributes in omega (arith, within, z, counted.attributes)) in
      record {
        it = it;
        fields = fields;
        within = omega (arith, within);
        value = ap (value_at layout) (sym it.is) ∙ fields.value it.at.0 small;
        set = ap (set_at layout) (sym it.is) ∙ fields.set it.at.0 small;
      }

  pub above : (c : ℕ) (name : List ℕ) (s : Standing) (p : Spot c name s) → Under world.classes.classes p.it.home c
  above c name s p = home_under world.classes counted.forest c p.it.home name p.it.at_home

  has_fields : (c : ℕ) (l : Laid) (name : List ℕ) (s : Standing) → laid world c ≡ Some l → known.attribute c name ≡ Some s → HasFields layout l s
  has_fields c l name s h k =
      let p = spot c name s k in
      let up = chain world.classes.classes world.attributes layout of p.it.home c l (above c name s p) h in
      let same : up.m ≡ p.it.m = same_some (sym up.is ∙ p.it.is_laid) in
      let own : p.it.m.own ≡ s.own = ap (λ (s : Standing). s.own) p.it.is in
      let size : (shape_at (shapes layout) up.m.own).size ≡ (shape_at (shapes layout) p.it.m.own).size = ap (λ (x : Laid). (shape_at (shapes layout) x.own).size) same in
      record {
        begins = ap (begins_with (shapes layout) l.own) (sym (ap (λ (x : Laid). x.own) same ∙ own)) ∙ up.begins;
        declared = subst (λ n. n < length layout.structs) own (of.inside p.it.home p.it.m p.it.is_laid);
        first = omega (arith, p.value, p.fields.some);
        next = omega (arith, p.value, p.set);
        inside = omega (arith, p.set, p.within, p.fields.end, size, up.size);
      }

  Apart : Standing → Standing → Type 0
  Apart s t = (set_at layout s < value_at layout t) ⊎ (set_at layout t < value_at layout s)

  -- the first is declared above the second
  upper : (c : ℕ) (a b : List ℕ) (s t : Standing) (p : Spot c a s) (q : Spot c b t) (e : ℕ) → base world.classes.classes q.it.home ≡ Some e → Under world.classes.classes p.it.home e → set_at layout s < value_at layout t
  upper c a b s t p q e is u = by (of.sort q.it.home q.it.m q.it.is_laid)
    where
      on : (m : Laid) → laid world e ≡ Some m → set_at layout s < value_at layout t
      on m h =
          let up = chain world.classes.classes world.attributes layout of p.it.home e m u h in
          let size : (shape_at (shapes layout) up.m.own).size ≡ (shape_at (shapes layout) p.it.m.own).size = ap (λ (x : Laid). (shape_at (shapes layout) x.own).size) (same_some (sym up.is ∙ p.it.is_laid)) in
          omega (arith, p.set, p.within, p.fields.end, size, up.size, q.fields.behind e m is h, q.value)

      by : Sort world.classes.classes world.attributes layout q.it.home q.it.m → set_at layout s < value_at layout t
      by (OnTop none root shape) = absurd (no_some (sym none ∙ is))
      by (OnBase d m base at root vtable shape) = on m (ap (laid world) (same_some (sym is ∙ base)) ∙ at)

  -- both are declared by one class
  beside : (c : ℕ) (a b : List ℕ) (s t : Standing) (p : Spot c a s) (q : Spot c b t) → (a ≡ b → ⊥) → q.it.home ≡ p.it.home → Apart s t
  unfolding Apart
  beside c a b s t p q differ same =
      let laid_same : q.it.m ≡ p.it.m = same_some (sym q.it.is_laid ∙ ap (laid world) same ∙ p.it.is_laid) in
      let ends : p.fields.start + 2 * declared p.it.home world.attributes ≡ q.fields.start + 2 * declared q.it.home world.attributes =
      sym p.fields.end ∙ ap (λ (x : Laid). (shape_at (shapes layout) x.own).size) (sym laid_same) ∙ q.fields.end in
      let many : declared q.it.home world.attributes ≡ declared p.it.home world.attributes = ap (λ h. declared h world.attributes) same in
      let placed : attribute_place world.attributes p.it.home b ≡ Some q.it.at = ap (λ h. attribute_place world.attributes h b) (sym same) ∙ q.it.placed in
      elim (cases_order p.it.at.0 q.it.at.0) [
        | inl e ↦ absurd (places_apart world.attributes 0 p.it.home a b p.it.at q.it.at differ p.it.placed placed e)
        | inr (inl lt) ↦ inl (omega (arith, lt, p.set, q.value, ends, many))
        | inr (inr gt) ↦ inr (omega (arith, gt, p.value, q.set, ends, many))
      ]

  are_apart : (c : ℕ) (a b : List ℕ) (s t : Standing) → known.attribute c a ≡ Some s → known.attribute c b ≡ Some t → (a ≡ b → ⊥) → Apart s t
  unfolding Apart
  are_apart c a b s t h k differ = by (spot c a s h) (spot c b t k)
    where
      by : Spot c a s → Spot c b t → Apart s t
      by p q = on (comparable world.classes.classes counted.forest p.it.home q.it.home c (above c a s p) (above c b t q))
        where
          below : (d : ℕ) → d ≡ q.it.home → Under world.classes.classes p.it.home d → Apart s t
          below _ e (Here d is) = beside c a b s t p q differ (sym e ∙ is)
          below _ e (Up d f is u) = inl (upper c a b s t p q f (ap (base world.classes.classes) (sym e) ∙ is) u)

          beyond : (d : ℕ) → d ≡ p.it.home → Under world.classes.classes q.it.home d → Apart s t
          beyond _ e (Here d is) = beside c a b s t p q differ (sym is ∙ e)
          beyond _ e (Up d f is u) = inr (upper c b a t s q p f (ap (base world.classes.classes) (sym e) ∙ is) u)

          on : Under world.classes.classes p.it.home q.it.home ⊎ Under world.classes.classes q.it.home p.it.home → Apart s t
          on (inl u) = below q.it.home refl u
          on (inr u) = beyond p.it.home refl u

  -- ---- what is above

  tops : (c : ℕ) (l : Laid) → laid world c ≡ Some l → IsTop layout l.root × (begins_with (shapes layout) l.own l.root ≡ true)
  tops c l h =
      let top = topmost_of world.classes.classes world.attributes layout of counted.forest c l h in
      let is : shape_at (shapes layout) l.root ≡ shape_over top.m.own (1 + 2 * declared top.class world.attributes) None = ap (shape_at (shapes layout)) top.root ∙ top.shape_is in (
        record {
          struct = subst (λ n. n < length layout.structs) (sym top.root) (of.inside top.class top.m top.is);
          own = ap (λ (s : Shape). s.own) is;
          first = ap (λ (s : Shape). s.first) is;
          some = (let z : (shape_at (shapes layout) l.root).size ≡ 1 + 2 * declared top.class world.attributes = ap (λ (s : Shape). s.size) is in omega (arith, z));
        },
        ap (begins_with (shapes layout) l.own) top.root ∙ top.begins,
      )

  vtables : (c : ℕ) (l : Laid) → laid world c ≡ Some l → IsTop layout l.vtable × (begins_with (shapes layout) l.vtable l.vtable ≡ true)
  vtables c l h =
      let v = of.vtable c l h in (
        record {
          struct = v.inside;
          own = ap (λ (s : Shape). s.own) v.shape;
          first = ap (λ (s : Shape). s.first) v.shape;
          some = (let z : (shape_at (shapes layout) l.vtable).size ≡ 1 + length v.names = ap (λ (s : Shape). s.size) v.shape in omega (arith, z));
        },
        ap (λ (s : Shape). is_among l.vtable s.bases) v.shape ∙ among_first world.classes.classes world.attributes layout of l.vtable [],
      )

  has_attribute : (c d : ℕ) → Under world.classes.classes d c → (name : List ℕ) (s : Standing) → known.attribute d name ≡ Some s → known.attribute c name ≡ Some s
  unfolding place_in
  has_attribute c d u name s h =
      let it = stands d name s h in
      let below : home_of world.classes c name ≡ Some it.home = home_below world.classes counted.forest d c it.home name u it.at_home in
      knows c name ∙ ap (λ o. option_map standing_of (standing_at world name o)) (below ∙ sym it.at_home) ∙ sym (knows d name) ∙ h

  inherited : (c d : ℕ) (l m : Laid) → is_below world.classes.classes c d ≡ true → laid world c ≡ Some l → laid world d ≡ Some m
      → (l.root ≡ m.root) × (l.vtable ≡ m.vtable) × ((name : List ℕ) (s : Standing) → known.attribute d name ≡ Some s → known.attribute c name ≡ Some s)
  inherited c d l m below h k =
      let u = is_under world.classes.classes c d below in
      let up = chain world.classes.classes world.attributes layout of d c l u h in
      let same : up.m ≡ m = same_some (sym up.is ∙ k) in
      (up.root ∙ ap (λ (x : Laid). x.root) same, up.vtable ∙ ap (λ (x : Laid). x.vtable) same, has_attribute c d u)

  laid_out : IsLaidOut world known
  unfolding Apart
  laid_out = record {
    class = λ c l h. (of.within c l h, of.inside c l h, (topmost_of world.classes.classes world.attributes layout of counted.forest c l h).size);
    root = tops;
    vtable = vtables;
    fields = has_fields;
    apart = λ c l a b s t h p q differ. are_apart c a b s t p q differ;
    inherits = inherited;
  }

-- the facts of the layout of a program are those of its world
pub of_world : (program : Resolved) (annotation : Annotation) (raises : Bool) (world : World) → IsWorldOf program annotation raises world → IsNumbered world → Facts world.classes.classes world.attributes world.around.layout
of_world program annotation raises world is counted =
    subst (λ (l : Layout). Facts world.classes.classes world.attributes l) (sym is.layout)
    (subst (λ (attributes : List (ℕ × List ℕ × Element)). Facts world.classes.classes attributes (layout_of program world.classes.classes annotation raises)) (sym is.attributes)
    (facts program world.classes.classes annotation raises counted.forest counted.classes))

pub layouts_lay_out_classes : LayoutsLayOutClasses
layouts_lay_out_classes program annotation raises world known is counted knows = laid_out world known counted knows (of_world program annotation raises world is counted)
