-- Each tuple in an element of an annotation has its shape in the layout.
use Rattle.std.proofs.Common.{◌≡◌, ℕ, zero, suc, ◌+◌, Bool, true, false, ◌==◌, ◌&&◌, List, [], ◌∷◌, ◌++◌, Option, Some, None, refl, sym, ap, ◌∙◌, subst, arith}
use Rattle.std.proofs.lemmas.Bool.Decides.{nat_tests}
use Rattle.std.proofs.lemmas.List.{append-nil, append_assoc}
use Rattle.std.specs.Prelude.{slice_get, is_some, if◌then◌else◌}
use Rattle.ann_element.specs.declared.annotation.Annotation.{Annotation}
use Rattle.ann_element.specs.declared.element.Element.{Element}
use Rattle.ann_element.specs.declared.element.Element.TheVariants as element
use Rattle.ll_code.specs.declared.program.LlType.{LlType}
use Rattle.ll_code.specs.declared.program.LlType.TheVariants as type
use Rattle.ll_code.specs.Typed.{same_type}
use Rattle.rtyper_layout.specs.declared.layout.Layout.{Layout}
use Rattle.rtyper_layout.specs.Sites.{tuples_of, with_shape, with_shapes, shapes_in, shapes_in_rows, shapes_in_attributes, all_shapes}
use Rattle.rtyper_layout.specs.Types.{are_same, shape_from, pointer_to, type_of, shape, field_type}
use Rattle.rtyper_layout.proofs.Tuples.{tuple_is}
use Rattle.rtyper_layout.proofs.Within.{shapes_of_tuple}
use Rattle.layout_laws.proofs.Places.{same_some, no_some}
use Rattle.laid_laws.specs.Laid.{InRow, StandsIn, Param, Result, Variable, Attribute, Item, Key}

-- ---- equal shapes

-- no field is of no type
same_itself : (t : LlType) → same_type (field_type t) (field_type t) ≡ true
same_itself type.Signed = refl
same_itself type.Void = refl
same_itself type.Char = refl
same_itself type.Bool = refl
same_itself type.Fn = refl
same_itself (type.Ptr n) = (let same : (n == n) ≡ true = grind (arith, nat_tests) in same)

shapes_themselves : (l : Layout) (es : List Element) → are_same (shape l es) (shape l es) ≡ true
shapes_themselves l [] = refl
shapes_themselves l (e ∷ es) = ap (λ b. b && are_same (shape l es) (shape l es)) (same_itself (type_of l e)) ∙ shapes_themselves l es

types_same : (t u : LlType) → same_type t u ≡ true → t ≡ u
types_same type.Signed type.Signed h = refl
types_same type.Signed type.Void h = absurd (cc)
types_same type.Signed type.Char h = absurd (cc)
types_same type.Signed type.Bool h = absurd (cc)
types_same type.Signed type.Fn h = absurd (cc)
types_same type.Signed (type.Ptr n) h = absurd (cc)
types_same type.Void type.Signed h = absurd (cc)
types_same type.Void type.Void h = absurd (cc)
types_same type.Void type.Char h = absurd (cc)
types_same type.Void type.Bool h = absurd (cc)
types_same type.Void type.Fn h = absurd (cc)
types_same type.Void (type.Ptr n) h = absurd (cc)
types_same type.Char type.Signed h = absurd (cc)
types_same type.Char type.Void h = absurd (cc)
types_same type.Char type.Char h = refl
types_same type.Char type.Bool h = absurd (cc)
types_same type.Char type.Fn h = absurd (cc)
types_same type.Char (type.Ptr n) h = absurd (cc)
types_same type.Bool type.Signed h = absurd (cc)
types_same type.Bool type.Void h = absurd (cc)
types_same type.Bool type.Char h = absurd (cc)
types_same type.Bool type.Bool h = refl
types_same type.Bool type.Fn h = absurd (cc)
types_same type.Bool (type.Ptr n) h = absurd (cc)
types_same type.Fn type.Signed h = absurd (cc)
types_same type.Fn type.Void h = absurd (cc)
types_same type.Fn type.Char h = absurd (cc)
types_same type.Fn type.Bool h = absurd (cc)
types_same type.Fn type.Fn h = refl
types_same type.Fn (type.Ptr n) h = absurd (cc)
types_same (type.Ptr m) type.Signed h = absurd (cc)
types_same (type.Ptr m) type.Void h = absurd (cc)
types_same (type.Ptr m) type.Char h = absurd (cc)
types_same (type.Ptr m) type.Bool h = absurd (cc)
types_same (type.Ptr m) type.Fn h = absurd (cc)
types_same (type.Ptr m) (type.Ptr n) h = ap type.Ptr (let k : (m == n) ≡ true = h in grind (arith, nat_tests, k))

pub same_shapes : (ts us : List LlType) → are_same ts us ≡ true → ts ≡ us
same_shapes [] [] h = refl
same_shapes [] (u ∷ us) h = absurd (cc)
same_shapes (t ∷ ts) [] h = absurd (cc)
same_shapes (t ∷ ts) (u ∷ us) h = ap (λ x. x ∷ ts) (types_same t u (first (same_type t u) (are_same ts us) h)) ∙ ap (λ xs. u ∷ xs) (same_shapes ts us (second (same_type t u) (are_same ts us) h))
  where
    first : (b c : Bool) → (b && c) ≡ true → b ≡ true
    first true c h = refl
    first false c h = h

    second : (b c : Bool) → (b && c) ≡ true → c ≡ true
    second true c h = h
    second false c h = absurd (cc)

found_more : (n : ℕ) (xs ys : List (List LlType)) (t : List LlType) (k : ℕ) → shape_from n xs t ≡ Some k → shape_from n (xs ++ ys) t ≡ Some k
found_more n [] ys t k h = absurd (no_some h)
found_more n (s ∷ xs) ys t k h = by (λ e. found_more (n + 1) xs ys t k e) (are_same t s) h
  where
    by : (shape_from (n + 1) xs t ≡ Some k → shape_from (n + 1) (xs ++ ys) t ≡ Some k) → (b : Bool) → (if b then Some n else shape_from (n + 1) xs t) ≡ Some k → (if b then Some n else shape_from (n + 1) (xs ++ ys) t) ≡ Some k
    by go true e = e
    by go false e = go e

found_last : (n : ℕ) (xs : List (List LlType)) (t : List LlType) → are_same t t ≡ true → (k : ℕ) × (shape_from n (xs ++ t ∷ []) t ≡ Some k)
found_last n [] t itself = (n, ap (λ b. if b then Some n else None) itself)
found_last n (s ∷ xs) t itself = by (found_last (n + 1) xs t itself) (are_same t s)
  where
    by : ((k : ℕ) × (shape_from (n + 1) (xs ++ t ∷ []) t ≡ Some k)) → (b : Bool) → (k : ℕ) × ((if b then Some n else shape_from (n + 1) (xs ++ t ∷ []) t) ≡ Some k)
    by it true = (n, refl)
    by it false = it

-- what is found is the shape
pub shape_found : (n : ℕ) (xs : List (List LlType)) (t : List LlType) (k : ℕ) → shape_from n xs t ≡ Some k → (i : ℕ) × ((k ≡ n + i) × (slice_get xs i ≡ Some t))
shape_found n [] t k h = absurd (no_some h)
shape_found n (s ∷ xs) t k h = by (λ e. shape_found (n + 1) xs t k e) (are_same t s) refl h
  where
    by : (shape_from (n + 1) xs t ≡ Some k → (i : ℕ) × ((k ≡ n + 1 + i) × (slice_get xs i ≡ Some t))) → (b : Bool) → are_same t s ≡ b → (if b then Some n else shape_from (n + 1) xs t) ≡ Some k → (i : ℕ) × ((k ≡ n + i) × (slice_get (s ∷ xs) i ≡ Some t))
    by go true same e = (0, ((let q : n ≡ k = same_some e in omega (arith, q)), ap Some (sym (same_shapes t s same))))
    by go false same e = let it = go e in (suc it.0, (omega (arith, it.1.0), it.1.1))

-- ---- more shapes

-- what types rest on, beside shapes
abbrev pub view : Layout → Layout
view l = record l { shapes = []; structs = []; mappings = [] }

-- the same for types, with some shapes more
pub record Extends (l m : Layout) : Type 0 where
  pub more : List (List LlType)
  pub same : view m ≡ view l
  pub is : m.shapes ≡ l.shapes ++ more

no_more : (l : Layout) → Extends l l
no_more l = record { more = []; same = refl; is = sym (append-nil l.shapes) }

then_more : {a b c : Layout} → Extends a b → Extends b c → Extends a c
then_more {a = a} x y = record {
  more = x.more ++ y.more;
  same = y.same ∙ x.same;
  is = y.is ∙ ap (λ ss. ss ++ y.more) x.is ∙ append_assoc a.shapes x.more y.more;
}

one_more : (l : Layout) (parts : List Element) → Extends l (with_shape l parts)
one_more l parts = by (is_some (shape_from 0 l.shapes (shape l parts)))
  where
    by : (b : Bool) → Extends l (if b then l else record l { shapes = l.shapes ++ shape l parts ∷ [] })
    by true = no_more l
    by false = record { more = shape l parts ∷ []; same = refl; is = refl }

all_more : (l : Layout) (all : List (List Element)) → Extends l (with_shapes l all)
all_more l [] = no_more l
all_more l (parts ∷ more) = then_more (one_more l parts) (all_more (with_shape l parts) more)

row_more : (l : Layout) (es : List Element) → Extends l (shapes_in l es)
row_more l [] = no_more l
row_more l (e ∷ es) = then_more (all_more l (tuples_of e)) (row_more (with_shapes l (tuples_of e)) es)

rows_more : (l : Layout) (rows : List (List Element)) → Extends l (shapes_in_rows l rows)
rows_more l [] = no_more l
rows_more l (row ∷ rows) = then_more (row_more l row) (rows_more (shapes_in l row) rows)

attributes_more : (l : Layout) (attributes : List (ℕ × List ℕ × Element)) → Extends l (shapes_in_attributes l attributes)
attributes_more l [] = no_more l
attributes_more l (a ∷ more) = then_more (all_more l (tuples_of a.2)) (attributes_more (with_shapes l (tuples_of a.2)) more)

-- ---- what has its shapes

-- the type of the element rests on no shape
abbrev pub IsAlone : Element → Type 0
IsAlone e = (l m : Layout) → view l ≡ view m → type_of l e ≡ type_of m e

mutual
  -- each tuple in it, at any depth, has its shape, and of all else something is known
  pub data Shaped (Leaf : Element → Type 0) (l : Layout) : Element → Type 0 where
    Tupled : (parts : List Element) (k : ℕ) → AllShaped Leaf l parts → shape_from 0 l.shapes (shape l parts) ≡ Some k → Shaped Leaf l (element.Tuple parts)
    Alone : {e : Element} → IsAlone e → Leaf e → Shaped Leaf l e

  pub data AllShaped (Leaf : Element → Type 0) (l : Layout) : List Element → Type 0 where
    End : AllShaped Leaf l []
    Next : {e : Element} {es : List Element} → Shaped Leaf l e → AllShaped Leaf l es → AllShaped Leaf l (e ∷ es)

module _ (Leaf : Element → Type 0) (l m : Layout) (x : Extends l m) where
  bare_is : view m ≡ view l
  bare_is = x.same

  found_stays : (ts : List LlType) (k : ℕ) → shape_from 0 l.shapes ts ≡ Some k → shape_from 0 m.shapes ts ≡ Some k
  found_stays ts k there = ap (λ ss. shape_from 0 ss ts) x.is ∙ found_more 0 l.shapes x.more ts k there

  mutual
    type_stays : {e : Element} → Shaped Leaf l e → type_of m e ≡ type_of l e
    type_stays (Alone alone leaf) = alone m l bare_is
    type_stays (Tupled parts k each there) =
        tuple_is m parts ∙ ap (λ ts. pointer_to m.first_tuple 1 (shape_from 0 m.shapes ts)) (shapes_stay each)
        ∙ ap (λ (b : Layout). pointer_to b.first_tuple 1 (shape_from 0 m.shapes (shape l parts))) bare_is
        ∙ ap (pointer_to l.first_tuple 1) (found_stays (shape l parts) k there ∙ sym there) ∙ sym (tuple_is l parts)

    shapes_stay : {es : List Element} → AllShaped Leaf l es → shape m es ≡ shape l es
    shapes_stay End = refl
    shapes_stay (Next {e = e} {es = es} it more) = ap (λ t. field_type t ∷ shape m es) (type_stays it) ∙ ap (λ ts. field_type (type_of l e) ∷ ts) (shapes_stay more)

  mutual
    pub shaped_stays : {e : Element} → Shaped Leaf l e → Shaped Leaf m e
    shaped_stays (Alone alone leaf) = Alone alone leaf
    shaped_stays (Tupled parts k each there) = Tupled parts k (all_stay each) (ap (shape_from 0 m.shapes) (shapes_stay each) ∙ found_stays (shape l parts) k there)

    all_stay : {es : List Element} → AllShaped Leaf l es → AllShaped Leaf m es
    all_stay End = End
    all_stay (Next it more) = Next (shaped_stays it) (all_stay more)

-- ---- each element gets its shapes

mutual
  -- each tuple is one whose parts are so, and the types of all else rest on no shape
  pub data Built (Leaf : Element → Type 0) : Element → Type 0 where
    Made : (parts : List Element) → AllBuilt Leaf parts → Built Leaf (element.Tuple parts)
    Plain : {e : Element} → IsAlone e → Leaf e → Built Leaf e

  pub data AllBuilt (Leaf : Element → Type 0) : List Element → Type 0 where
    None_left : AllBuilt Leaf []
    One : {e : Element} {es : List Element} → Built Leaf e → AllBuilt Leaf es → AllBuilt Leaf (e ∷ es)

module _ (Leaf : Element → Type 0) where
  -- a tuple whose parts have theirs
  tuple_gets : (l : Layout) (parts : List Element) → AllShaped Leaf l parts → Shaped Leaf (with_shape l parts) (element.Tuple parts)
  tuple_gets l parts each = by (shape_from 0 l.shapes (shape l parts)) refl
    where
      appended : Layout
      appended = record l { shapes = l.shapes ++ shape l parts ∷ [] }

      longer : Extends l appended
      longer = record { more = shape l parts ∷ []; same = refl; is = refl }

      by : (o : Option ℕ) → shape_from 0 l.shapes (shape l parts) ≡ o → Shaped Leaf (if is_some o then l else appended) (element.Tuple parts)
      by (Some k) e = Tupled parts k each e
      by None e = let it = found_last 0 l.shapes (shape l parts) (shapes_themselves l parts) in Tupled parts it.0 (all_stay Leaf l appended longer each) (ap (shape_from 0 appended.shapes) (shapes_stay Leaf l appended longer each) ∙ it.1)

  mutual
    gets : {e : Element} (l : Layout) → Built Leaf e → Shaped Leaf (with_shapes l (tuples_of e)) e
    gets l (Plain alone leaf) = Alone alone leaf
    gets l (Made parts each) = subst (λ (m : Layout). Shaped Leaf m (element.Tuple parts)) (sym (shapes_of_tuple l parts)) (tuple_gets (shapes_in l parts) parts (all_get l each))

    all_get : {es : List Element} (l : Layout) → AllBuilt Leaf es → AllShaped Leaf (shapes_in l es) es
    all_get l None_left = End
    all_get l (One {e = e} {es = es} it more) = Next (shaped_stays Leaf (with_shapes l (tuples_of e)) (shapes_in l (e ∷ es)) (row_more (with_shapes l (tuples_of e)) es) (gets l it)) (all_get (with_shapes l (tuples_of e)) more)

  -- ---- where it stands

  module _ (e : Element) (built : Built Leaf e) where
    row_gets : (l : Layout) (es : List Element) (i : ℕ) → slice_get es i ≡ Some e → Shaped Leaf (shapes_in l es) e
    row_gets l [] i h = absurd (no_some h)
    row_gets l (y ∷ es) zero h =
        shaped_stays Leaf (with_shapes l (tuples_of y)) (shapes_in l (y ∷ es)) (row_more (with_shapes l (tuples_of y)) es) (subst (λ z. Shaped Leaf (with_shapes l (tuples_of z)) e) (sym (same_some h)) (gets l built))
    row_gets l (y ∷ es) (suc i) h = row_gets (with_shapes l (tuples_of y)) es i h

    rows_get : (l : Layout) (rows : List (List Element)) (i : ℕ) (row : List Element) → slice_get rows i ≡ Some row → InRow row e → Shaped Leaf (shapes_in_rows l rows) e
    rows_get l [] i row h it = absurd (no_some h)
    rows_get l (y ∷ rows) zero row h it = shaped_stays Leaf (shapes_in l y) (shapes_in_rows l (y ∷ rows)) (rows_more (shapes_in l y) rows) (row_gets l y it.0 (ap (λ r. slice_get r it.0) (same_some h) ∙ it.1))
    rows_get l (y ∷ rows) (suc i) row h it = rows_get (shapes_in l y) rows i row h it

    attributes_get : (l : Layout) (attributes : List (ℕ × List ℕ × Element)) (i home : ℕ) (name : List ℕ) → slice_get attributes i ≡ Some (home, name, e) → Shaped Leaf (shapes_in_attributes l attributes) e
    attributes_get l [] i home name h = absurd (no_some h)
    attributes_get l (y ∷ more) zero home name h =
        shaped_stays Leaf (with_shapes l (tuples_of y.2)) (shapes_in_attributes l (y ∷ more)) (attributes_more (with_shapes l (tuples_of y.2)) more)
        (subst (λ (z : ℕ × List ℕ × Element). Shaped Leaf (with_shapes l (tuples_of z.2)) e) (sym (same_some h)) (gets l built))
    attributes_get l (y ∷ more) (suc i) home name h = attributes_get (with_shapes l (tuples_of y.2)) more i home name h

  pub shapes_stand : (l : Layout) (a : Annotation) (e : Element) → Built Leaf e → StandsIn a e → Shaped Leaf (all_shapes l a) e
  shapes_stand l a e built it = by it
    where
      one : Layout
      one = shapes_in_rows l a.params

      two : Layout
      two = shapes_in one a.results

      three : Layout
      three = shapes_in_rows two a.vars

      four : Layout
      four = shapes_in_attributes three a.attributes

      five : Layout
      five = shapes_in four a.items

      from_five : Shaped Leaf five e → Shaped Leaf (all_shapes l a) e
      from_five h = shaped_stays Leaf five (all_shapes l a) (row_more five a.keys) h

      from_four : Shaped Leaf four e → Shaped Leaf (all_shapes l a) e
      from_four h = from_five (shaped_stays Leaf four five (row_more four a.items) h)

      from_three : Shaped Leaf three e → Shaped Leaf (all_shapes l a) e
      from_three h = from_four (shaped_stays Leaf three four (attributes_more three a.attributes) h)

      from_two : Shaped Leaf two e → Shaped Leaf (all_shapes l a) e
      from_two h = from_three (shaped_stays Leaf two three (rows_more two a.vars) h)

      from_one : Shaped Leaf one e → Shaped Leaf (all_shapes l a) e
      from_one h = from_two (shaped_stays Leaf one two (row_more one a.results) h)

      by : StandsIn a e → Shaped Leaf (all_shapes l a) e
      by (Param p) = from_one (rows_get e built l a.params p.0 p.1.0 p.1.1.0 p.1.1.1)
      by (Result p) = from_two (row_gets e built one a.results p.0 p.1)
      by (Variable p) = from_three (rows_get e built two a.vars p.0 p.1.0 p.1.1.0 p.1.1.1)
      by (Attribute p) = from_four (attributes_get e built three a.attributes p.0 p.1.0 p.1.1.0 p.1.1.1)
      by (Item p) = from_five (row_gets e built four a.items p.0 p.1)
      by (Key p) = row_gets e built five a.keys p.0 p.1
