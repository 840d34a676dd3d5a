-- Where the structs of classes stand among those of a layout.
use Rattle.std.proofs.Common.{◌≡◌, ◌<◌, ◌≤◌, ℕ, zero, suc, ◌+◌, ◌-◌, Bool, true, false, List, [], ◌∷◌, ◌++◌, length, Option, Some, None, refl, sym, ap, ◌∙◌, subst, arith}
use Rattle.std.specs.Prelude.{◌^◌, ◌*◌, slice_get, is_some, replicate, if◌then◌else◌}
use Rattle.ann_element.specs.declared.annotation.Annotation.{Annotation}
use Rattle.ann_element.specs.declared.element.Element.{Element}
use Rattle.csub_tree.specs.Layout.{shape_at, shape_over, base_of}
use Rattle.ll_code.specs.Machine.{shapes_of}
use Rattle.ll_code.specs.declared.program.LlStruct.{LlStruct}
use Rattle.ll_code.specs.declared.program.LlType.{LlType}
use Rattle.ll_code.specs.declared.program.LlType.TheVariants as type
use Rattle.rpy_resolved.specs.declared.tree.Class.{Class}
use Rattle.rpy_resolved.specs.declared.tree.Resolved.{Resolved}
use Rattle.rpy_tree.specs.declared.program.ClassInfo.{ClassInfo}
use Rattle.class_desc.specs.Line.{base}
use Rattle.class_desc.specs.Range.{IsForest}
use Rattle.rtyper_layout.specs.declared.classes.Laid.{Laid}
use Rattle.rtyper_layout.specs.declared.layout.Layout.{Layout}
use Rattle.rtyper_layout.specs.Families.{names_if_top, own_struct, families, order, one_more, tops, laid_classes, own_fields, struct_above, first_fields, class_struct, class_structs, all_names, vtable_struct}
use Rattle.rtyper_layout.specs.Layout.{with_classes, with_sites, with_mappings, layout_of, texts, vtable_structs, all_lists, all_dicts, all_tuples, before_lists, vtables}
use Rattle.rtyper_layout.specs.Sites.{tuples_of, with_shape, with_shapes, shapes_in, shapes_in_rows, shapes_in_attributes, all_shapes}
use Rattle.rtyper_layout.specs.Types.{word, laid_in, shape, shape_from}
use Rattle.layout_laws.proofs.Attributes.{declared, length_fields}
use Rattle.layout_laws.proofs.Facts.{Facts, Sort, OnTop, OnBase, HasVtable}
use Rattle.layout_laws.proofs.Laying.{Lying, Above, lies}
use Rattle.layout_laws.proofs.Order.{Ordered, ordered, few_ordered}
use Rattle.layout_laws.proofs.Places.{same_some, no_some, get_left, get_right, get_within, laid_within}
use Rattle.layout_laws.proofs.Shapes.{shape_is}

pub word_same : (n : ℕ) → n < 2 ^ 64 → word n ≡ n
word_same n lt = omega (arith, lt)

-- ---- shapes of tuples are all that is new

abbrev pub bare : Layout → Layout
bare layout = record layout { shapes = [] }

bare_shape : (layout : Layout) (parts : List Element) → bare (with_shape layout parts) ≡ bare layout
bare_shape layout parts = by (is_some (shape_from 0 layout.shapes (shape layout parts)))
  where
    by : (b : Bool) → bare (if b then layout else record layout { shapes = layout.shapes ++ shape layout parts ∷ [] }) ≡ bare layout
    by true = refl
    by false = refl

bare_shapes : (layout : Layout) (all : List (List Element)) → bare (with_shapes layout all) ≡ bare layout
bare_shapes layout [] = refl
bare_shapes layout (parts ∷ more) = bare_shapes (with_shape layout parts) more ∙ bare_shape layout parts

bare_in : (layout : Layout) (es : List Element) → bare (shapes_in layout es) ≡ bare layout
bare_in layout [] = refl
bare_in layout (e ∷ es) = bare_in (with_shapes layout (tuples_of e)) es ∙ bare_shapes layout (tuples_of e)

bare_rows : (layout : Layout) (rows : List (List Element)) → bare (shapes_in_rows layout rows) ≡ bare layout
bare_rows layout [] = refl
bare_rows layout (row ∷ rows) = bare_rows (shapes_in layout row) rows ∙ bare_in layout row

bare_attributes : (layout : Layout) (attributes : List (ℕ × List ℕ × Element)) → bare (shapes_in_attributes layout attributes) ≡ bare layout
bare_attributes layout [] = refl
bare_attributes layout (a ∷ more) = bare_attributes (with_shapes layout (tuples_of a.2)) more ∙ bare_shapes layout (tuples_of a.2)

pub bare_all : (l : Layout) (a : Annotation) → bare (all_shapes l a) ≡ bare l
bare_all l a =
    let one = shapes_in_rows l a.params in
    let two = shapes_in one a.results in
    let three = shapes_in_rows two a.vars in
    let four = shapes_in_attributes three a.attributes in
    let five = shapes_in four a.items in
    bare_in five a.keys ∙ bare_in four a.items ∙ bare_attributes three a.attributes ∙ bare_rows two a.vars ∙ bare_in one a.results ∙ bare_rows l a.params

-- ---- structs of vtables and classes

pub length_vtables : (ms : List (List (List ℕ))) → length (vtable_structs ms) ≡ length ms
length_vtables [] = refl
length_vtables (m ∷ ms) = ap suc (length_vtables ms)

get_vtable : (ms : List (List (List ℕ))) (i : ℕ) → i < length ms → (names : List (List ℕ)) × (slice_get ms i ≡ Some names) × (slice_get (vtable_structs ms) i ≡ Some (vtable_struct (length names)))
get_vtable [] i lt = absurd (omega (arith, lt))
get_vtable (m ∷ ms) zero lt = (m, refl, refl)
get_vtable (m ∷ ms) (suc i) lt = get_vtable ms i (omega (arith, lt))

length_methods : (fields : ℕ) (t : LlType) → length (replicate fields t) ≡ fields
length_methods zero t = refl
length_methods (suc n) t = ap suc (length_methods n t)

module _ (infos : List ClassInfo) where
  names_one : (classes : List Class) (order : List ℕ) (c : ℕ) (cs : List ℕ) (o : Option ℕ) → length (names_if_top infos classes order c o ++ all_names infos classes order cs) ≡ one_more o (length (all_names infos classes order cs))
  names_one classes order c cs None = omega arith
  names_one classes order c cs (Some b) = refl

  pub length_names : (classes : List Class) (order cs : List ℕ) → length (all_names infos classes order cs) ≡ tops infos cs
  length_names classes order [] = refl
  length_names classes order (c ∷ cs) = names_one classes order c cs (base infos c) ∙ ap (one_more (base infos c)) (length_names classes order cs)

  tops_one : (o : Option ℕ) (k m : ℕ) → k ≤ m → one_more o k ≤ suc m
  tops_one None k m le = omega (arith, le)
  tops_one (Some b) k m le = omega (arith, le)

  pub tops_few : (cs : List ℕ) → tops infos cs ≤ length cs
  tops_few [] = omega arith
  tops_few (c ∷ cs) = tops_one (base infos c) (tops infos cs) (length cs) (tops_few cs)

  pub length_classes : (layout : Layout) (attributes : List (ℕ × List ℕ × Element)) (cs : List ℕ) → length (class_structs layout infos attributes cs) ≡ length cs
  length_classes layout attributes [] = refl
  length_classes layout attributes (c ∷ cs) = ap suc (length_classes layout attributes cs)

  get_class : (layout : Layout) (attributes : List (ℕ × List ℕ × Element)) (cs : List ℕ) (j c : ℕ) → slice_get cs j ≡ Some c → slice_get (class_structs layout infos attributes cs) j ≡ Some (class_struct layout infos attributes c)
  get_class layout attributes [] j c h = absurd (no_some h)
  get_class layout attributes (d ∷ cs) zero c h = ap (λ x. Some (class_struct layout infos attributes x)) (same_some h)
  get_class layout attributes (d ∷ cs) (suc j) c h = get_class layout attributes cs j c h

-- ---- a layout

module _ (program : Resolved) (infos : List ClassInfo) (a : Annotation) (raises : Bool) where
  abbrev pub started : Layout
  started = with_sites a (with_classes program infos a.made raises)

  abbrev pub mapped : Layout
  mapped = with_mappings a (all_shapes started a)

  abbrev pub layout : Layout
  layout = layout_of program infos a raises

  abbrev pub inorder : List ℕ
  inorder = order infos a.made raises

  pub bare_mapped : bare (all_shapes started a) ≡ bare started
  bare_mapped = bare_all started a

  pub classes_are : layout.classes ≡ laid_classes infos inorder
  classes_are = ap (λ (l : Layout). l.classes) bare_mapped

  pub order_is : layout.order ≡ inorder
  order_is = ap (λ (l : Layout). l.order) bare_mapped

  pub methods_are : layout.methods ≡ vtables infos program inorder
  methods_are = ap (λ (l : Layout). l.methods) bare_mapped

  pub count_methods : length layout.methods ≡ tops infos inorder
  count_methods = ap length methods_are ∙ length_names infos program.classes inorder inorder

  abbrev pub vtables_now : List LlStruct
  vtables_now = vtable_structs layout.methods

  abbrev pub classes_now : List LlStruct
  classes_now = class_structs mapped infos a.attributes layout.order

  abbrev pub behind : List LlStruct
  behind = all_lists mapped a (length (before_lists mapped infos a)) mapped.lists ++ (all_dicts mapped.mappings ++ all_tuples mapped.shapes)

  pub structs_are : layout.structs ≡ texts ∷ (vtables_now ++ classes_now) ++ behind
  structs_are = refl

  pub count_vtables : length vtables_now ≡ tops infos inorder
  count_vtables = length_vtables layout.methods ∙ count_methods

  at_vtable : (k : ℕ) → 0 < k → k ≤ tops infos inorder → (names : List (List ℕ)) × (slice_get layout.methods (k - 1) ≡ Some names) × (slice_get layout.structs k ≡ Some (vtable_struct (length names)))
  at_vtable zero low high = absurd (omega (arith, low))
  at_vtable (suc i) low high =
      let found = get_vtable layout.methods i (omega (arith, high, count_methods)) in (
        found.0,
        ap (slice_get layout.methods) (let z : suc i - 1 ≡ i = omega arith in z) ∙ found.1,
        get_left (vtables_now ++ classes_now) behind i (vtable_struct (length found.0)) (get_left vtables_now classes_now i (vtable_struct (length found.0)) found.2),
      )

  at_class : (n j c : ℕ) → slice_get inorder j ≡ Some c → n ≡ tops infos inorder + 1 + j → slice_get layout.structs n ≡ Some (class_struct mapped infos a.attributes c)
  at_class zero j c h e = absurd (omega (arith, e))
  at_class (suc n) j c h e =
      get_left (vtables_now ++ classes_now) behind n (class_struct mapped infos a.attributes c)
      (get_right vtables_now classes_now n j (omega (arith, e, count_vtables))
      ∙ get_class infos mapped a.attributes layout.order j c (ap (λ xs. slice_get xs j) order_is ∙ h))

  module _ (tree : IsForest infos) (small : length infos ≤ 2 ^ 32) where
    abbrev first : ℕ
    first = word (tops infos inorder + 1)

    pub in_order : Ordered infos [] inorder
    in_order = ordered infos tree small (families infos a.made raises)

    few : length inorder ≤ length infos + 1
    few = few_ordered infos tree small (families infos a.made raises)

    pub lying : Lying infos first inorder layout.classes
    lying = subst (Lying infos first inorder) (sym classes_are) (lies infos first inorder in_order)

    pub own_is : (c : ℕ) (l : Laid) → laid_in layout.classes c ≡ Some l → l.own ≡ tops infos inorder + 1 + l.place
    own_is c l h =
        let fits = lying.each c l h in
        let within : l.place < length inorder = get_within inorder l.place c fits.at in
        let low : first ≡ tops infos inorder + 1 = word_same (tops infos inorder + 1) (omega (arith, tops_few infos inorder, few, small)) in
        fits.own ∙ ap (λ n. word (n + l.place)) low ∙ word_same (tops infos inorder + 1 + l.place) (omega (arith, tops_few infos inorder, few, small, within))

    pub struct_is : (c : ℕ) (l : Laid) → laid_in layout.classes c ≡ Some l → slice_get layout.structs l.own ≡ Some (class_struct mapped infos a.attributes c)
    struct_is c l h = at_class l.own l.place c (lying.each c l h).at (own_is c l h)

    -- ---- what class it is of

    abbrev the_class : ℕ → LlStruct
    the_class c = class_struct mapped infos a.attributes c

    count_top : (c : ℕ) → base infos c ≡ None → length (the_class c).fields ≡ 1 + 2 * declared c a.attributes
    count_top c e =
        ap (λ o. length (first_fields mapped c (struct_above mapped o) ++ own_fields mapped c a.attributes)) e
        ∙ (let z = length_fields mapped c a.attributes in omega (arith, z))

    count_under : (c b : ℕ) (m : Laid) → base infos c ≡ Some b → laid_in mapped.classes b ≡ Some m → length (the_class c).fields ≡ 2 * declared c a.attributes
    count_under c b m e h =
        ap (λ o. length (first_fields mapped c (struct_above mapped o) ++ own_fields mapped c a.attributes)) e
        ∙ ap (λ o. length (first_fields mapped c (own_struct o) ++ own_fields mapped c a.attributes)) h
        ∙ length_fields mapped c a.attributes

    sort_of : (c : ℕ) (l : Laid) → laid_in layout.classes c ≡ Some l → (o : Option ℕ) → base infos c ≡ o → Above layout.classes l o → Sort infos a.attributes layout c l
    sort_of c l h None e above =
        let base_is : (the_class c).base ≡ None = ap (struct_above mapped) e in
        let shape : shape_at (shapes_of layout.structs) l.own ≡ shape_over l.own (length (the_class c).fields) (base_of (shapes_of layout.structs) (the_class c).base) =
        shape_is layout.structs l.own (the_class c) (struct_is c l h) (λ m is. absurd (no_some (sym base_is ∙ is))) in
        OnTop e above (shape ∙ ap (λ o. shape_over l.own (length (the_class c).fields) (base_of (shapes_of layout.structs) o)) base_is ∙ ap (λ n. shape_over l.own n None) (count_top c e))
    sort_of c l h (Some b) e above =
        let base_is : (the_class c).base ≡ Some above.m.own = ap (struct_above mapped) e ∙ ap own_struct above.is in
        let lower : above.m.own < l.own = omega (arith, own_is c l h, own_is b above.m above.is, above.place) in
        let shape : shape_at (shapes_of layout.structs) l.own ≡ shape_over l.own (length (the_class c).fields) (base_of (shapes_of layout.structs) (the_class c).base) =
        shape_is layout.structs l.own (the_class c) (struct_is c l h) (λ m is. subst (λ x. x < l.own) (same_some (sym base_is ∙ is)) lower) in
        OnBase b above.m e above.is above.root above.vtable
        (shape ∙ ap (λ o. shape_over l.own (length (the_class c).fields) (base_of (shapes_of layout.structs) o)) base_is
        ∙ ap (λ n. shape_over l.own n (Some (shape_at (shapes_of layout.structs) above.m.own))) (count_under c b above.m e above.is))

    vtable_of_class : (c : ℕ) (l : Laid) → laid_in layout.classes c ≡ Some l → HasVtable infos a.attributes layout l
    vtable_of_class c l h =
        let fits = lying.each c l h in
        let found = at_vtable l.vtable fits.low fits.high in
        let shape : shape_at (shapes_of layout.structs) l.vtable ≡ shape_over l.vtable (suc (length (replicate (length found.0) type.Fn))) None =
        shape_is layout.structs l.vtable (vtable_struct (length found.0)) found.2 (λ m is. absurd (no_some is)) in
        record {
          inside = get_within layout.structs l.vtable (vtable_struct (length found.0)) found.2;
          names = found.0;
          named = found.1;
          shape = shape ∙ ap (λ n. shape_over l.vtable (suc n) None) (length_methods (length found.0) type.Fn) ∙ ap (λ n. shape_over l.vtable n None) (let z : suc (length found.0) ≡ 1 + length found.0 = omega arith in z);
        }

    pub facts : Facts infos a.attributes layout
    facts = record {
      within = λ c l h. (let z = laid_within layout.classes c l h in omega (arith, z, lying.long));
      inside = λ c l h. get_within layout.structs l.own (the_class c) (struct_is c l h);
      sort = λ c l h. sort_of c l h (base infos c) refl (lying.each c l h).above;
      vtable = vtable_of_class;
      behind = tops infos inorder + 1;
      own = own_is;
      order = λ c l h. ap (λ xs. slice_get xs l.place) order_is ∙ (lying.each c l h).at;
    }
