-- An element that is written with the least site of each class is as a layout asks.
use Rattle.std.proofs.Common.{◌≡◌, ℕ, Bool, true, false, List, [], ◌∷◌, map, Option, refl, sym, ap, ◌∙◌, subst}
use Rattle.std.specs.Prelude.{◌&&◌, not}
use Rattle.ann_element.specs.Sites.{leader}
use Rattle.ann_element.specs.declared.element.Element.{Element, fold-roll-Element, ind-Element, roll-Element, map-Element}
use Rattle.ann_element.specs.declared.element.Element.TheVariants as element
use Rattle.ann_element.specs.declared.element.Element.TheOpen.{Element-F}
use Rattle.ann_lattice.specs.Join.{is_clash, no_clash}
use Rattle.ann_lattice.specs.Laws.{named, all_named, is_sound, are_sound}
use Rattle.ann_lattice.specs.Shape.{Shape, Nothing, NoneOnly, Truth, Num, Str, Tup, Lst, Dct, Inst, Fun, Clash, Shapes, end, more, shape, shapes_of, shape_step}
use Rattle.rtyper_layout.specs.declared.layout.Layout.{Layout}
use Rattle.laid_laws.specs.Laid.{IsPlanned, AllPlanned, Listed, Mapped, Instanced, Items, Nowhere, Simple, Called, End, Next}
use Rattle.planned_laws.specs.Planned.{HasStructs, AllHaveStructs}

-- ---- what is written with leaders

list_named : (t : List ℕ) (x : Shape) (s : ℕ) (n : Bool) → Lst s n ≡ named t x → (u : ℕ) × (s ≡ leader t u)
list_named t (Lst u m) s n h = (u, cc)
list_named t Nothing s n h = absurd (cc)
list_named t NoneOnly s n h = absurd (cc)
list_named t (Truth b) s n h = absurd (cc)
list_named t (Num b) s n h = absurd (cc)
list_named t (Str w) s n h = absurd (cc)
list_named t (Tup xs) s n h = absurd (cc)
list_named t (Dct u m) s n h = absurd (cc)
list_named t (Inst c m) s n h = absurd (cc)
list_named t (Fun fs m) s n h = absurd (cc)
list_named t (Clash o p) s n h = absurd (cc)

dict_named : (t : List ℕ) (x : Shape) (s : ℕ) (n : Bool) → Dct s n ≡ named t x → (u : ℕ) × (s ≡ leader t u)
dict_named t (Dct u m) s n h = (u, cc)
dict_named t Nothing s n h = absurd (cc)
dict_named t NoneOnly s n h = absurd (cc)
dict_named t (Truth b) s n h = absurd (cc)
dict_named t (Num b) s n h = absurd (cc)
dict_named t (Str w) s n h = absurd (cc)
dict_named t (Tup xs) s n h = absurd (cc)
dict_named t (Lst u m) s n h = absurd (cc)
dict_named t (Inst c m) s n h = absurd (cc)
dict_named t (Fun fs m) s n h = absurd (cc)
dict_named t (Clash o p) s n h = absurd (cc)

tuple_named : (t : List ℕ) (x : Shape) (ys : Shapes) → Tup ys ≡ named t x → (xs : Shapes) × (ys ≡ all_named t xs)
tuple_named t (Tup xs) ys h = (xs, cc)
tuple_named t Nothing ys h = absurd (cc)
tuple_named t NoneOnly ys h = absurd (cc)
tuple_named t (Truth b) ys h = absurd (cc)
tuple_named t (Num b) ys h = absurd (cc)
tuple_named t (Str w) ys h = absurd (cc)
tuple_named t (Lst u m) ys h = absurd (cc)
tuple_named t (Dct u m) ys h = absurd (cc)
tuple_named t (Inst c m) ys h = absurd (cc)
tuple_named t (Fun fs m) ys h = absurd (cc)
tuple_named t (Clash o p) ys h = absurd (cc)

both_on : (b c : Bool) → (b && c) ≡ true → (b ≡ true) × (c ≡ true)
both_on true c h = (refl, h)
both_on false c h = absurd (cc)

off : (b : Bool) → not b ≡ true → b ≡ false
off false h = refl
off true h = absurd (cc)

-- ---- elements

module _ (layout : Layout) (t : List ℕ) (leads : (s : ℕ) → leader t (leader t s) ≡ leader t s) where
  led : (s : ℕ) → ((u : ℕ) × (s ≡ leader t u)) → leader t s ≡ s
  led s h = ap (leader t) h.1 ∙ leads h.0 ∙ sym h.1

  -- it is as the layout asks, where its shape is written with leaders, it is in no conflict, and its classes have structs
  abbrev Fine : Element → Type 0
  Fine e = (x : Shape) → shape e ≡ named t x → is_clash (shape e) ≡ false → is_sound (shape e) ≡ true → HasStructs layout (shape e) → IsPlanned layout t e

  shape_is : (x : Element-F Element) (s : Shape) → shape_step (map-Element Element Shape shape x) ≡ s → shape (roll-Element x) ≡ s
  shape_is x s h = fold-roll-Element Shape shape_step x ∙ h

  all_fine : (ys : List ((e : Element) × Fine e)) (xs : Shapes) → shapes_of (map shape (map (λ p. p.0) ys)) ≡ all_named t xs
      → no_clash (shapes_of (map shape (map (λ p. p.0) ys))) ≡ true → are_sound (shapes_of (map shape (map (λ p. p.0) ys))) ≡ true
      → AllHaveStructs layout (shapes_of (map shape (map (λ p. p.0) ys))) → AllPlanned layout t (map (λ p. p.0) ys)
  all_fine [] xs h c s l = End
  all_fine (y ∷ ys) end h c s l = absurd (cc)
  all_fine (y ∷ ys) (more x xs) h c s l =
      let cs = both_on (not (is_clash (shape y.0))) (no_clash (shapes_of (map shape (map (λ p. p.0) ys)))) c in
      let ss = both_on (is_sound (shape y.0)) (are_sound (shapes_of (map shape (map (λ p. p.0) ys)))) s in
      Next (y.1 x (first_part h) (off (is_clash (shape y.0)) cs.0) ss.0 l.0) (all_fine ys xs (rest_part h) cs.1 ss.1 l.1)
    where
      first_part : {a b : Shape} {us vs : Shapes} → more a us ≡ more b vs → a ≡ b
      first_part e = cc

      rest_part : {a b : Shape} {us vs : Shapes} → more a us ≡ more b vs → us ≡ vs
      rest_part e = cc

  tuple_fine : (ys : List ((e : Element) × Fine e)) → Fine (roll-Element (Element-F.Tuple (map (λ p. p.0) ys)))
  tuple_fine ys x h c s l = subst (IsPlanned layout t) (sym (element.rolls-Tuple (map (λ p. p.0) ys))) (Items (map (λ p. p.0) ys) (all_fine ys parts.0 parts.1 (both_on _ _ sound).0 (both_on _ _ sound).1 structs))
    where
      is : shape (roll-Element (Element-F.Tuple (map (λ p. p.0) ys))) ≡ Tup (shapes_of (map shape (map (λ p. p.0) ys)))
      is = fold-roll-Element Shape shape_step (Element-F.Tuple (map (λ p. p.0) ys))

      parts : (xs : Shapes) × (shapes_of (map shape (map (λ p. p.0) ys)) ≡ all_named t xs)
      parts = tuple_named t x (shapes_of (map shape (map (λ p. p.0) ys))) (sym is ∙ h)

      sound : (no_clash (shapes_of (map shape (map (λ p. p.0) ys))) && are_sound (shapes_of (map shape (map (λ p. p.0) ys)))) ≡ true
      sound = ap is_sound (sym is) ∙ s

      structs : AllHaveStructs layout (shapes_of (map shape (map (λ p. p.0) ys)))
      structs = subst (HasStructs layout) is l

  list_fine : (site : ℕ) (n : Bool) → Fine (roll-Element (Element-F.List site n))
  list_fine site n x h c s l = subst (IsPlanned layout t) (sym (element.rolls-List site n)) (Listed site n (led site (list_named t x site n (sym (fold-roll-Element Shape shape_step (Element-F.List site n)) ∙ h))))

  dict_fine : (site : ℕ) (n : Bool) → Fine (roll-Element (Element-F.Dict site n))
  dict_fine site n x h c s l = subst (IsPlanned layout t) (sym (element.rolls-Dict site n)) (Mapped site n (led site (dict_named t x site n (sym (fold-roll-Element Shape shape_step (Element-F.Dict site n)) ∙ h))))

  class_fine : (class : ℕ) (n : Bool) → Fine (roll-Element (Element-F.Instance class n))
  class_fine class n x h c s l =
      let laid = subst (HasStructs layout) (fold-roll-Element Shape shape_step (Element-F.Instance class n)) l in
      subst (IsPlanned layout t) (sym (element.rolls-Instance class n)) (Instanced class n laid.0 laid.1)

  conflict_fine : (lists dicts : Option ℕ) → Fine (roll-Element (Element-F.Conflict lists dicts))
  conflict_fine lists dicts x h c s l = absurd (let e : true ≡ false = ap is_clash (sym (fold-roll-Element Shape shape_step (Element-F.Conflict lists dicts))) ∙ c in cc)

  simple_fine : (x : Element-F Element) (e : Element) → roll-Element x ≡ e → IsPlanned layout t e → Fine (roll-Element x)
  simple_fine x e is h y g c s l = subst (IsPlanned layout t) (sym is) h

  pub is_fine : (e : Element) → Fine e
  is_fine = ind-Element Fine (λ x y is. (elim y as (λ z. map-Element _ Element (λ e. e.0) z ≡ x → Fine (roll-Element x)) [
    | Element-F.Tuple ys ↦ λ e. subst (λ z. Fine (roll-Element z)) e (tuple_fine ys)
    | Element-F.Unreached ↦ λ e. subst (λ z. Fine (roll-Element z)) e (simple_fine Element-F.Unreached element.Unreached element.rolls-Unreached (Nowhere {e = element.Unreached} refl))
    | Element-F.NoneOnly ↦ λ e. subst (λ z. Fine (roll-Element z)) e (simple_fine Element-F.NoneOnly element.NoneOnly element.rolls-NoneOnly (Simple {e = element.NoneOnly} refl))
    | Element-F.KnownTrue ↦ λ e. subst (λ z. Fine (roll-Element z)) e (simple_fine Element-F.KnownTrue element.KnownTrue element.rolls-KnownTrue (Simple {e = element.KnownTrue} refl))
    | Element-F.KnownFalse ↦ λ e. subst (λ z. Fine (roll-Element z)) e (simple_fine Element-F.KnownFalse element.KnownFalse element.rolls-KnownFalse (Simple {e = element.KnownFalse} refl))
    | Element-F.Bool ↦ λ e. subst (λ z. Fine (roll-Element z)) e (simple_fine Element-F.Bool element.Bool element.rolls-Bool (Simple {e = element.Bool} refl))
    | Element-F.IntPos ↦ λ e. subst (λ z. Fine (roll-Element z)) e (simple_fine Element-F.IntPos element.IntPos element.rolls-IntPos (Simple {e = element.IntPos} refl))
    | Element-F.Int ↦ λ e. subst (λ z. Fine (roll-Element z)) e (simple_fine Element-F.Int element.Int element.rolls-Int (Simple {e = element.Int} refl))
    | Element-F.Char ↦ λ e. subst (λ z. Fine (roll-Element z)) e (simple_fine Element-F.Char element.Char element.rolls-Char (Simple {e = element.Char} refl))
    | Element-F.Str ↦ λ e. subst (λ z. Fine (roll-Element z)) e (simple_fine Element-F.Str element.Str element.rolls-Str (Simple {e = element.Str} refl))
    | Element-F.StrOrNone ↦ λ e. subst (λ z. Fine (roll-Element z)) e (simple_fine Element-F.StrOrNone element.StrOrNone element.rolls-StrOrNone (Simple {e = element.StrOrNone} refl))
    | Element-F.List site none ↦ λ e. subst (λ z. Fine (roll-Element z)) e (list_fine site none)
    | Element-F.Dict site none ↦ λ e. subst (λ z. Fine (roll-Element z)) e (dict_fine site none)
    | Element-F.Instance class none ↦ λ e. subst (λ z. Fine (roll-Element z)) e (class_fine class none)
    | Element-F.Func functions none ↦ λ e. subst (λ z. Fine (roll-Element z)) e (simple_fine (Element-F.Func functions none) (element.Func functions none) (element.rolls-Func functions none) (Called functions none))
    | Element-F.Conflict lists dicts ↦ λ e. subst (λ z. Fine (roll-Element z)) e (conflict_fine lists dicts)
  ]) is)
