-- The types of elements refer to structs that are there.
use Rattle.std.proofs.Common.{◌≡◌, ◌<◌, ◌≤◌, ℕ, suc, ◌+◌, Bool, true, false, ◌==◌, ◌&&◌, List, [], ◌∷◌, ◌++◌, length, map, Option, Some, None, refl, sym, ap, ◌∙◌, subst, arith, length-append}
use Rattle.std.specs.Prelude.{nat_lt, is_some, if◌then◌else◌}
use Rattle.std.proofs.lemmas.Bool.{ltb-false}
use Rattle.ann_element.specs.declared.element.Element.{Element, fold-roll-Element, out-Element, roll-out-Element, map-Element}
use Rattle.ann_element.specs.declared.element.Element.TheOpen.{Element-F}
use Rattle.ll_code.specs.Typed.{is_type, are_types}
use Rattle.ll_code.specs.declared.program.LlStruct.{LlStruct}
use Rattle.ll_code.specs.declared.program.LlType.{LlType}
use Rattle.ll_code.specs.declared.program.LlType.TheVariants as type
use Rattle.rtyper_layout.specs.declared.classes.Laid.{Laid}
use Rattle.rtyper_layout.specs.declared.layout.Layout.{Layout}
use Rattle.rtyper_layout.specs.Dicts.{type_in}
use Rattle.rtyper_layout.specs.Families.{attribute_fields, own_fields}
use Rattle.rtyper_layout.specs.Sites.{tuples_of, with_shape, with_shapes, shapes_in, shapes_in_rows, shapes_in_attributes}
use Rattle.rtyper_layout.specs.Types.{struct_at, field_type, are_same, site_from, shape_from, pointer_to, root_of, laid_in, type_step, type_of, shape}
use Rattle.layout_laws.proofs.Places.{same_some, no_some}
use Rattle.layout_laws.proofs.Structs.{bare}

pub both_true : (b c : Bool) → b ≡ true → c ≡ true → (b && c) ≡ true
both_true true c e f = f
both_true false c e f = e

pub is_less : (m n : ℕ) → m < n → nat_lt m n ≡ true
is_less m n lt = by (nat_lt m n) refl
  where
    by : (b : Bool) → nat_lt m n ≡ b → b ≡ true
    by true e = refl
    by false e = absurd (omega (arith, lt, ltb-false m n e))

site_within : (n : ℕ) (sites : List ℕ) (site k : ℕ) → site_from n sites site ≡ Some k → k < n + length sites
site_within n [] site k h = absurd (no_some h)
site_within n (s ∷ sites) site k h = by (λ e. site_within (n + 1) sites site k e) (s == site) h
  where
    by : (site_from (n + 1) sites site ≡ Some k → k < n + 1 + length sites) → (b : Bool) → (if b then Some n else site_from (n + 1) sites site) ≡ Some k → k < n + suc (length sites)
    by go true e = (let same : n ≡ k = same_some e in omega (arith, same))
    by go false e = omega (arith, go e)

shape_within : (n : ℕ) (shapes : List (List LlType)) (types : List LlType) (k : ℕ) → shape_from n shapes types ≡ Some k → k < n + length shapes
shape_within n [] types k h = absurd (no_some h)
shape_within n (s ∷ shapes) types k h = by (λ e. shape_within (n + 1) shapes types k e) (are_same types s) h
  where
    by : (shape_from (n + 1) shapes types ≡ Some k → k < n + 1 + length shapes) → (b : Bool) → (if b then Some n else shape_from (n + 1) shapes types) ≡ Some k → k < n + suc (length shapes)
    by go true e = (let same : n ≡ k = same_some e in omega (arith, same))
    by go false e = omega (arith, go e)

module _ (structs : List LlStruct) where
  abbrev pub Good : LlType → Type 0
  Good t = is_type structs t ≡ true

  -- the numbers that a layout gives are those of structs
  pub record Bounds (l : Layout) : Type 0 where
    pub some : 0 < length structs
    pub lists : (k : ℕ) → k < length l.lists → struct_at l.first_list 2 k < length structs
    pub dicts : (k : ℕ) → k < length l.dicts → struct_at l.first_dict 3 k < length structs
    pub tuples : (k : ℕ) → k < length l.shapes → struct_at l.first_tuple 1 k < length structs
    pub roots : (c : ℕ) (m : Laid) → laid_in l.classes c ≡ Some m → m.root < length structs

  pointer_good : (first each : ℕ) (o : Option ℕ) → ((k : ℕ) → o ≡ Some k → struct_at first each k < length structs) → Good (field_type (pointer_to first each o))
  pointer_good first each None h = refl
  pointer_good first each (Some k) h = is_less (struct_at first each k) (length structs) (h k refl)

  root_good : (o : Option Laid) → ((m : Laid) → o ≡ Some m → m.root < length structs) → Good (field_type (root_of o))
  root_good None h = refl
  root_good (Some m) h = is_less m.root (length structs) (h m refl)

  step_good : (l : Layout) → Bounds l → (x : Element-F LlType) → Good (field_type (type_step l x))
  step_good l b Element-F.Unreached = refl
  step_good l b Element-F.NoneOnly = refl
  step_good l b Element-F.KnownTrue = refl
  step_good l b Element-F.KnownFalse = refl
  step_good l b Element-F.Bool = refl
  step_good l b Element-F.IntPos = refl
  step_good l b Element-F.Int = refl
  step_good l b Element-F.Char = refl
  step_good l b Element-F.Str = is_less 0 (length structs) b.some
  step_good l b Element-F.StrOrNone = is_less 0 (length structs) b.some
  step_good l b (Element-F.Tuple types) =
      pointer_good l.first_tuple 1 (shape_from 0 l.shapes (map field_type types)) (λ k h. b.tuples k (let z = shape_within 0 l.shapes (map field_type types) k h in omega (arith, z)))
  step_good l b (Element-F.List site none) = pointer_good l.first_list 2 (site_from 0 l.lists site) (λ k h. b.lists k (let z = site_within 0 l.lists site k h in omega (arith, z)))
  step_good l b (Element-F.Dict site none) = pointer_good l.first_dict 3 (site_from 0 l.dicts site) (λ k h. b.dicts k (let z = site_within 0 l.dicts site k h in omega (arith, z)))
  step_good l b (Element-F.Instance class none) = root_good (laid_in l.classes class) (λ m h. b.roots class m h)
  step_good l b (Element-F.Func functions none) = refl
  step_good l b (Element-F.Conflict lists dicts) = refl

  pub type_good : (l : Layout) → Bounds l → (e : Element) → Good (field_type (type_of l e))
  type_good l b e =
      subst (λ t. Good (field_type t)) (sym (ap (type_of l) (sym (roll-out-Element e)) ∙ fold-roll-Element LlType (type_step l) (out-Element e)))
      (step_good l b (map-Element Element LlType (type_of l) (out-Element e)))

  pub in_good : (l : Layout) → Bounds l → (o : Option Element) → Good (type_in l o)
  in_good l b None = refl
  in_good l b (Some e) = type_good l b e

  pub types_both : (ts us : List LlType) → are_types structs ts ≡ true → are_types structs us ≡ true → are_types structs (ts ++ us) ≡ true
  types_both [] us h k = k
  types_both (t ∷ ts) us h k = by (is_type structs t) (λ e. types_both ts us e k) h
    where
      by : (b : Bool) → (are_types structs ts ≡ true → are_types structs (ts ++ us) ≡ true) → (b && are_types structs ts) ≡ true → (b && are_types structs (ts ++ us)) ≡ true
      by true go e = go e
      by false go e = e

  pub fields_good : (l : Layout) → Bounds l → (home : ℕ) (attributes : List (ℕ × List ℕ × Element)) → are_types structs (own_fields l home attributes) ≡ true
  fields_good l b home [] = refl
  fields_good l b home (a ∷ more) = types_both (attribute_fields l home a) (own_fields l home more) (by (a.0 == home)) (fields_good l b home more)
    where
      by : (c : Bool) → are_types structs (if c then field_type (type_of l a.2) ∷ type.Bool ∷ [] else []) ≡ true
      by true = both_true (is_type structs (field_type (type_of l a.2))) true (type_good l b a.2) refl
      by false = refl

  shape_good : (l : Layout) → Bounds l → (parts : List Element) → are_types structs (shape l parts) ≡ true
  shape_good l b [] = refl
  shape_good l b (e ∷ es) = both_true (is_type structs (field_type (type_of l e))) (are_types structs (shape l es)) (type_good l b e) (shape_good l b es)

  -- ---- shapes of tuples, one after the other

  abbrev pub AllGood : List (List LlType) → Type 0
  AllGood [] = Unit {0}
  AllGood (s ∷ ss) = (are_types structs s ≡ true) × AllGood ss

  good_last : (ss : List (List LlType)) (s : List LlType) → AllGood ss → are_types structs s ≡ true → AllGood (ss ++ s ∷ [])
  good_last [] s all h = (h, tt)
  good_last (t ∷ ss) s all h = (all.0, good_last ss s all.1 h)

  grows_one : (l : Layout) (parts : List Element) → length l.shapes ≤ length (with_shape l parts).shapes
  grows_one l parts = by (is_some (shape_from 0 l.shapes (shape l parts)))
    where
      by : (b : Bool) → length l.shapes ≤ length (if b then l else record l { shapes = l.shapes ++ shape l parts ∷ [] }).shapes
      by true = omega arith
      by false = omega (arith, length-append l.shapes (shape l parts ∷ []))

  grows : (l : Layout) (xs : List (List Element)) → length l.shapes ≤ length (with_shapes l xs).shapes
  grows l [] = omega arith
  grows l (x ∷ xs) = omega (arith, grows_one l x, grows (with_shape l x) xs)

  module _ (plain : Layout) (most : ℕ) (bounds : (l : Layout) → bare l ≡ bare plain → length l.shapes ≤ most → Bounds l) where
    pub good_all : (xs : List (List Element)) (l : Layout) → bare l ≡ bare plain → AllGood l.shapes → length (with_shapes l xs).shapes ≤ most → AllGood (with_shapes l xs).shapes
    good_all [] l same all few = all
    good_all (x ∷ xs) l same all few = by (λ l same all few. good_all xs l same all few) (is_some (shape_from 0 l.shapes (shape l x))) few
      where
        short : length l.shapes ≤ most
        short = omega (arith, grows l (x ∷ xs), few)

        by : ((l : Layout) → bare l ≡ bare plain → AllGood l.shapes → length (with_shapes l xs).shapes ≤ most → AllGood (with_shapes l xs).shapes) → (b : Bool)
            → length (with_shapes (if b then l else record l { shapes = l.shapes ++ shape l x ∷ [] }) xs).shapes ≤ most → AllGood (with_shapes (if b then l else record l { shapes = l.shapes ++ shape l x ∷ [] }) xs).shapes
        by go true few = go l same all few
        by go false few = go (record l { shapes = l.shapes ++ shape l x ∷ [] }) same (good_last l.shapes (shape l x) all (shape_good l (bounds l same short) x)) few

-- ---- all tuples of an annotation as one list

pub more_shapes : (l : Layout) (xs ys : List (List Element)) → with_shapes l (xs ++ ys) ≡ with_shapes (with_shapes l xs) ys
more_shapes l [] ys = refl
more_shapes l (x ∷ xs) ys = more_shapes (with_shape l x) xs ys

abbrev pub tuples_in : List Element → List (List Element)
tuples_in [] = []
tuples_in (e ∷ es) = tuples_of e ++ tuples_in es

abbrev pub tuples_rows : List (List Element) → List (List Element)
tuples_rows [] = []
tuples_rows (row ∷ rows) = tuples_in row ++ tuples_rows rows

abbrev pub tuples_attributes : List (ℕ × List ℕ × Element) → List (List Element)
tuples_attributes [] = []
tuples_attributes (a ∷ more) = tuples_of a.2 ++ tuples_attributes more

pub in_flat : (l : Layout) (es : List Element) → shapes_in l es ≡ with_shapes l (tuples_in es)
in_flat l [] = refl
in_flat l (e ∷ es) = in_flat (with_shapes l (tuples_of e)) es ∙ sym (more_shapes l (tuples_of e) (tuples_in es))

pub rows_flat : (l : Layout) (rows : List (List Element)) → shapes_in_rows l rows ≡ with_shapes l (tuples_rows rows)
rows_flat l [] = refl
rows_flat l (row ∷ rows) = rows_flat (shapes_in l row) rows ∙ ap (λ k. with_shapes k (tuples_rows rows)) (in_flat l row) ∙ sym (more_shapes l (tuples_in row) (tuples_rows rows))

pub attributes_flat : (l : Layout) (attributes : List (ℕ × List ℕ × Element)) → shapes_in_attributes l attributes ≡ with_shapes l (tuples_attributes attributes)
attributes_flat l [] = refl
attributes_flat l (a ∷ more) = attributes_flat (with_shapes l (tuples_of a.2)) more ∙ sym (more_shapes l (tuples_of a.2) (tuples_attributes more))
