-- Whether values are equal.
use Rattle.std.proofs.Common.{◌≡◌, ◌⊎◌, inl, inr, ℕ, Bool, true, false, List, [], ◌∷◌, Option, Some, None, refl, sym, ap, ◌∙◌, subst}
use Rattle.std.specs.Prelude.{◌&&◌, ◌||◌}
use Rattle.ann_element.specs.declared.element.Element.{Element, fold-roll-Element}
use Rattle.ann_element.specs.declared.element.Element.TheOpen.{Element-F}
use Rattle.ann_element.specs.declared.element.Element.TheVariants as element
use Rattle.ann_lattice.specs.Kind.{given, is_bool, is_int, is_nothing, is_text, misfit}
use Rattle.ann_lattice.specs.Row.{both_int, has_equality, have_equality, of_none, of_one, of_three, of_two, plain_equal}
use Rattle.ann_lattice.specs.Shape.{One, Any as AnyWidth, OrNone, Shape, Nothing, NoneOnly, Truth, Num, Str, Tup, Lst, Dct, Inst, Fun, Clash, Shapes, end, more, shape, shapes, shape_step}
use Rattle.class_desc.specs.Tables.{Tables}
use Rattle.conversion_laws.specs.Asked.{equal_asks}
use Rattle.conversion_laws.specs.Compared.{AllCompare, Compares, ValuesAreCompared}
use Rattle.conversion_laws.specs.Compared as compared
use Rattle.conversion_laws.specs.Going.{IsTuple}
use Rattle.conversion_laws.specs.Ordered.{AllLaid, IsLaid, End, Next}
use Rattle.conversion_laws.specs.Ordered as laid
use Rattle.conversion_laws.proofs.Deciding.{equal_is_done, unequal_is_done}
use Rattle.flow_graph.specs.declared.graph.Graph.{Graph}
use Rattle.flow_graph.specs.declared.graph.Op.{Op}
use Rattle.lower_laws.specs.Values.{is_simple}
use Rattle.rpy_meaning.specs.Operations.{compare}
use Rattle.rpy_meaning.specs.declared.row.RowOp.TheVariants as row
use Rattle.rpy_tree.specs.declared.syntax.CmpOp.{CmpOp}
use Rattle.rpy_tree.specs.declared.syntax.CmpOp.TheVariants as cmp
use Rattle.rtyper_class.specs.Lowering.{lowered as class_lowered, of_some as class_of_some, of_two as class_of_two}
use Rattle.rtyper_class.specs.Seen.{World}
use Rattle.rtyper_data.specs.Seen.{Operand, Place, kind_of, type_of as type_of_operand, Writing}
use Rattle.rtyper_layout.specs.declared.kind.Kind.{Kind}
use Rattle.rtyper_layout.specs.declared.kind.Kind.TheVariants as kind
use Rattle.rtyper_layout.specs.declared.layout.Layout.{Layout}
use Rattle.rtyper_layout.specs.Kinds.{kind_of as kind_of_element, kind_seen}
use Rattle.rtyper_list.specs.Lowering.{lowered as list_lowered, of_some as list_of_some, second_of_two}
use Rattle.rtyper_list.specs.Operands.{is_list, of_list}
use Rattle.rtyper_op.specs.Lowering.{lower_op, never_comes}
use Rattle.rtyper_program.specs.Blocks.{lowered}
use Rattle.rtyper_program.specs.Raises.{is_covered}
use Rattle.rtyper_program.specs.Seen.{operand_of, place_of}
use Rattle.rtyped_runs.specs.Laws.{before, of_conversions}
use Rattle.typed_rows.specs.Programs.{Typed, IsTyped, layout, same, world}
use Rattle.typed_rows.specs.Rows.{IsOp, IsWritten, RowIsWrittenWhere, lowered_in}
use Rattle.value_rows.proofs.Conversions.{conversions_stand, equal_of}
use Rattle.value_rows.proofs.Copies.{comes}
use Rattle.value_rows.proofs.Laid.{dict_shape, function_shape, instance_shape, list_shape}
use Rattle.value_rows.proofs.Lowering.{two_unlisted}
use Rattle.value_rows.proofs.Operands.{Above, IsOperand, IsPlain, TwoAreWritten, misfits, rows_of_two, with_args}
use Rattle.value_rows.proofs.Premises.{Few, is_written}
use Rattle.value_rows.proofs.Shaped.{flag_kind, kind_at, kind_in, no, truth_above}
use Rattle.value_rows.proofs.Throwing.{compare_fine, two_fine}
use Rattle.value_rows.proofs.Words.{and_left, and_right, kind_given}
use Rattle.compared_rows.specs.Comparing.{AreWhole, are_whole, is_whole}

-- ---- tuples that have their structs

abbrev items_in : Shape → Shapes
items_in (Tup xs) = xs
items_in s = end

abbrev first_in : Shapes → Shape
first_in end = Nothing
first_in (more x xs) = x

abbrev others_in : Shapes → Shapes
others_in end = end
others_in (more x xs) = xs

tuple_shape : (parts : List Element) → shape (element.Tuple parts) ≡ Tup (shapes parts)
tuple_shape parts = ap shape (sym (element.rolls-Tuple parts)) ∙ fold-roll-Element Shape shape_step (Element-F.Tuple parts)

module _ (l : Layout) (t : List ℕ) where
  record OfTuple (e : Element) (xs : Shapes) : Type 0 where
    n : ℕ
    parts : List Element
    of : IsTuple l (Some e) n parts
    all : AllLaid l t parts
    shaped : shapes parts ≡ xs

  no_tuple : (k : Kind) → k ≡ kind.Tuple → is_simple k ≡ true → ⊥
  no_tuple k e h = (let f : false ≡ true = sym (ap is_simple e) ∙ h in cc)

  tuple_laid : {e : Element} (xs : Shapes) → IsLaid l t e → shape e ≡ Tup xs → OfTuple e xs
  tuple_laid {e = e} xs (laid.Nowhere k) h = absurd (let f : kind.Never ≡ kind.Tuple = sym k ∙ kind_at e (Tup xs) h in cc)
  tuple_laid {e = e} xs (laid.Simple k) h = absurd (no_tuple (kind_of_element e) (kind_at e (Tup xs) h) k)
  tuple_laid xs (laid.Items n parts of all) h = (let k : Tup (shapes parts) ≡ Tup xs = sym (tuple_shape parts) ∙ h in record { n = n; parts = parts; of = of; all = all; shaped = ap items_in k })
  tuple_laid xs (laid.Called fs q) h = (let k : Fun fs q ≡ Tup xs = sym (function_shape fs q) ∙ h in absurd (cc))
  tuple_laid xs (laid.Instanced d q m at) h = (let k : Inst d q ≡ Tup xs = sym (instance_shape d q) ∙ h in absurd (cc))
  tuple_laid xs (laid.Mapped n site q led typed) h = (let k : Dct site q ≡ Tup xs = sym (dict_shape site q) ∙ h in absurd (cc))
  tuple_laid xs (laid.Listed n site q led typed) h = (let k : Lst site q ≡ Tup xs = sym (list_shape site q) ∙ h in absurd (cc))

-- ---- simple values

either : (a b : Bool) → (a || b) ≡ true → (a ≡ true) ⊎ (b ≡ true)
either true b e = inl refl
either false b e = inr e

simple_int : (s : Shape) → is_int s ≡ true → is_simple (kind_in s) ≡ true
simple_int (Num b) e = refl
simple_int s e = absurd (no e)

simple_bool : (s : Shape) → is_bool s ≡ true → is_simple (kind_in s) ≡ true
simple_bool (Truth b) e = refl
simple_bool s e = absurd (no e)

simple_text : (s : Shape) → is_text s ≡ true → is_simple (kind_in s) ≡ true
simple_text NoneOnly e = refl
simple_text (Str One) e = refl
simple_text (Str AnyWidth) e = refl
simple_text (Str OrNone) e = refl
simple_text s e = absurd (no e)

whole_some : (s : Shape) → is_nothing s ≡ true → is_whole s ≡ true → ⊥
whole_some Nothing e h = no h
whole_some s e h = no e

plain_simple : (s u : Shape) → plain_equal s u ≡ true → is_whole s ≡ true → is_whole u ≡ true → (is_simple (kind_in s) ≡ true) × (is_simple (kind_in u) ≡ true)
plain_simple s u e hs hu = last (either (both_int s u || (is_bool s && is_bool u) || (is_text s && is_text u) || is_nothing s) (is_nothing u) e)
  where
    ints : ((both_int s u ≡ true) ⊎ ((is_bool s && is_bool u) ≡ true)) → (is_simple (kind_in s) ≡ true) × (is_simple (kind_in u) ≡ true)
    ints (inl h) = (simple_int s (and_left (is_int s) (is_int u) h), simple_int u (and_right (is_int s) (is_int u) h))
    ints (inr h) = (simple_bool s (and_left (is_bool s) (is_bool u) h), simple_bool u (and_right (is_bool s) (is_bool u) h))

    texts : (((both_int s u || (is_bool s && is_bool u)) ≡ true) ⊎ ((is_text s && is_text u) ≡ true)) → (is_simple (kind_in s) ≡ true) × (is_simple (kind_in u) ≡ true)
    texts (inl h) = ints (either (both_int s u) (is_bool s && is_bool u) h)
    texts (inr h) = (simple_text s (and_left (is_text s) (is_text u) h), simple_text u (and_right (is_text s) (is_text u) h))

    first : (((both_int s u || (is_bool s && is_bool u) || (is_text s && is_text u)) ≡ true) ⊎ (is_nothing s ≡ true)) → (is_simple (kind_in s) ≡ true) × (is_simple (kind_in u) ≡ true)
    first (inl h) = texts (either (both_int s u || (is_bool s && is_bool u)) (is_text s && is_text u) h)
    first (inr h) = absurd (whole_some s h hs)

    last : (((both_int s u || (is_bool s && is_bool u) || (is_text s && is_text u) || is_nothing s) ≡ true) ⊎ (is_nothing u ≡ true)) → (is_simple (kind_in s) ≡ true) × (is_simple (kind_in u) ≡ true)
    last (inl h) = first (either (both_int s u || (is_bool s && is_bool u) || (is_text s && is_text u)) (is_nothing s) h)
    last (inr h) = absurd (whole_some u h hu)

-- ---- what is compared

module _ (l : Layout) (t : List ℕ) where
  simple_compare : (s u : Shape) (x y : Element) → shape x ≡ s → shape y ≡ u → plain_equal s u ≡ true → is_whole s ≡ true → is_whole u ≡ true → Compares l (Some x) (Some y)
  simple_compare s u x y ex ey e hs hu = let p = plain_simple s u e hs hu in compared.Simple (ap is_simple (kind_at x s ex) ∙ p.0) (ap is_simple (kind_at y u ey) ∙ p.1)

  mutual
    compares : (s u : Shape) (x y : Element) → IsLaid l t x → IsLaid l t y → shape x ≡ s → shape y ≡ u → has_equality s u ≡ true → is_whole s ≡ true → is_whole u ≡ true → Compares l (Some x) (Some y)
    compares (Tup xs) (Tup ys) x y lx ly ex ey e hs hu =
        let h = tuple_laid l t xs lx ex in
        let k = tuple_laid l t ys ly ey in
        compared.Items h.n k.n h.parts k.parts h.of k.of (all_compare xs ys h.parts k.parts h.all k.all h.shaped k.shaped e hs hu)
    compares (Tup xs) u x y lx ly ex ey e hs hu = absurd (whole_some u e hu)
    compares Nothing u x y lx ly ex ey e hs hu = absurd (no hs)
    compares NoneOnly u x y lx ly ex ey e hs hu = simple_compare NoneOnly u x y ex ey e hs hu
    compares (Truth b) u x y lx ly ex ey e hs hu = simple_compare (Truth b) u x y ex ey e hs hu
    compares (Num b) u x y lx ly ex ey e hs hu = simple_compare (Num b) u x y ex ey e hs hu
    compares (Str b) u x y lx ly ex ey e hs hu = simple_compare (Str b) u x y ex ey e hs hu
    compares (Lst c b) u x y lx ly ex ey e hs hu = simple_compare (Lst c b) u x y ex ey e hs hu
    compares (Dct c b) u x y lx ly ex ey e hs hu = simple_compare (Dct c b) u x y ex ey e hs hu
    compares (Inst c b) u x y lx ly ex ey e hs hu = simple_compare (Inst c b) u x y ex ey e hs hu
    compares (Fun c b) u x y lx ly ex ey e hs hu = simple_compare (Fun c b) u x y ex ey e hs hu
    compares (Clash c b) u x y lx ly ex ey e hs hu = simple_compare (Clash c b) u x y ex ey e hs hu

    all_compare : (xs ys : Shapes) (ps qs : List Element) → AllLaid l t ps → AllLaid l t qs → shapes ps ≡ xs → shapes qs ≡ ys → have_equality xs ys ≡ true → are_whole xs ≡ true → are_whole ys ≡ true → AllCompare l ps qs
    all_compare end end [] [] lp lq ep eq e hs hu = compared.End
    all_compare end end (p ∷ ps) qs lp lq ep eq e hs hu = absurd (let f : more (shape p) (shapes ps) ≡ end = ep in cc)
    all_compare end end [] (q ∷ qs) lp lq ep eq e hs hu = absurd (let f : more (shape q) (shapes qs) ≡ end = eq in cc)
    all_compare end (more y ys) ps qs lp lq ep eq e hs hu = absurd (no e)
    all_compare (more x xs) end ps qs lp lq ep eq e hs hu = absurd (no e)
    all_compare (more x xs) (more y ys) [] qs lp lq ep eq e hs hu = absurd (let f : end ≡ more x xs = ep in cc)
    all_compare (more x xs) (more y ys) (p ∷ ps) [] lp lq ep eq e hs hu = absurd (let f : end ≡ more y ys = eq in cc)
    all_compare (more x xs) (more y ys) (p ∷ ps) (q ∷ qs) (Next lp lps) (Next lq lqs) ep eq e hs hu =
        compared.Next
        (compares x y p q lp lq (ap first_in ep) (ap first_in eq) (and_left (has_equality x y) (have_equality xs ys) e) (and_left (is_whole x) (are_whole xs) hs) (and_left (is_whole y) (are_whole ys) hu))
        (all_compare xs ys ps qs lps lqs (ap others_in ep) (ap others_in eq) (and_right (has_equality x y) (have_equality xs ys) e) (and_right (is_whole x) (are_whole xs) hs) (and_right (is_whole y) (are_whole ys) hu))

  simple_unlisted : (k : Kind) → is_simple k ≡ true → of_list k ≡ false
  simple_unlisted kind.List h = absurd (no h)
  simple_unlisted kind.MaybeList h = absurd (no h)
  simple_unlisted k h = refl

  first_unlisted : (a b : Option Element) → Compares l a b → of_list (kind_seen a) ≡ false
  first_unlisted a b (compared.Simple one two) = simple_unlisted (kind_seen a) one
  first_unlisted a b (compared.Items m n parts others one two all) = ap (λ e. of_list (kind_seen e)) one.is

-- ---- rows

record IsEquality (o : CmpOp) : Type 0 where
  plain : IsPlain (row.Compare o)
  zero : of_none (row.Compare o) ≡ misfit
  one : (tables : Tables) (x : Shape) → of_one tables (row.Compare o) x Nothing ≡ misfit
  three : (x y z : Shape) → of_three (row.Compare o) x y z ≡ misfit
  two : (tables : Tables) (x y : Shape) → of_two tables (row.Compare o) x y Nothing ≡ given (has_equality x y) (Truth None)
  lowers : (world : World) (place : Place) (a b : Operand) (w : Writing) → never_comes (kind_of a) ≡ false → never_comes (kind_of b) ≡ false → is_list a ≡ false → lowered world (row.Compare o) place (a ∷ b ∷ []) w ≡ lower_op world.around (row.Compare o) place (a ∷ b ∷ []) w
  law : ValuesAreCompared o

module _ (o : CmpOp) (it : IsEquality o) where
  few : (t : Typed) (n : ℕ) (graph : Graph) (q : Op) (a b : ℕ) → Few t n graph (with_args (row.Compare o) (a ∷ b ∷ []) q)
  few t n graph q a b g core vs w given = two_fine (is_covered q.covered) (compare q.covered o) (compare_fine (is_covered q.covered) q.covered (λ e. e) o) vs w

  equal_by : (t : Typed) → IsTyped t → (n : ℕ) (graph : Graph) (q : Op) (a b : ℕ) (x y : Element) (is : IsOp t n (with_args (row.Compare o) (a ∷ b ∷ []) q)) → IsOperand t n a x → IsOperand t n b y → (c : Bool) → has_equality (shape x) (shape y) ≡ c → Above t n (row.Compare o) (with_args (row.Compare o) (a ∷ b ∷ []) q) is (given c (Truth None))
      → AreWhole t n (with_args (row.Compare o) (a ∷ b ∷ []) q) → IsWritten t n graph (with_args (row.Compare o) (a ∷ b ∷ []) q)
  equal_by t typed n graph q a b x y is first second true e met told w early late room =
      let r : Op = with_args (row.Compare o) (a ∷ b ∷ []) q in
      let c : Compares (layout t) (Some x) (Some y) = compares (layout t) (same t) (shape x) (shape y) x y first.laid second.laid refl refl e (told 0 a x refl first.is) (told 1 b y refl second.is) in
      let d : Compares (layout t) (operand_of (lowered_in t n graph) a).element (operand_of (lowered_in t n graph) b).element = subst (λ u. Compares (layout t) u (operand_of (lowered_in t n graph) b).element) (sym first.is) (subst (λ u. Compares (layout t) (Some x) u) (sym second.is) c) in
      is_written of_conversions t typed n graph r is (few t n graph q a b) w late room 0 (equal_asks (layout t) (type_of_operand (world t).around (operand_of (lowered_in t n graph) a)) (type_of_operand (world t).around (operand_of (lowered_in t n graph) b)))
      (λ late core g heap memory. conversions_stand t typed _ (before r w).found (equal_of (layout t) (type_of_operand (world t).around (operand_of (lowered_in t n graph) a)) (type_of_operand (world t).around (operand_of (lowered_in t n graph) b))) late core g heap core.steps memory refl)
      (lower_op (world t).around (row.Compare o) (place_of (lowered_in t n graph) q.result) (operand_of (lowered_in t n graph) a ∷ operand_of (lowered_in t n graph) b ∷ []) (before r w))
      (it.lowers (world t) (place_of (lowered_in t n graph) q.result) (operand_of (lowered_in t n graph) a) (operand_of (lowered_in t n graph) b) (before r w) (comes t n graph a x first) (comes t n graph b y second) (first_unlisted (layout t) (same t) _ _ d))
      (it.law t.seen (world t).around (place_of (lowered_in t n graph) q.result) (operand_of (lowered_in t n graph) a) (operand_of (lowered_in t n graph) b) (before r w) q.covered typed.small.no_tuple d
      (kind_given t n graph r is kind.Flag (flag_kind is.result (truth_above t.whole.tables.classes t.assigned.same None (shape is.result) met is.fits.free))))
  equal_by t typed n graph q a b x y is first second false e met told w early late room = absurd (misfits t n (row.Compare o) (with_args (row.Compare o) (a ∷ b ∷ []) q) is misfit refl met)

  equality_row : RowIsWrittenWhere AreWhole (row.Compare o)
  equality_row = rows_of_two AreWhole (row.Compare o) it.plain it.zero it.one it.three written
    where
      written : TwoAreWritten AreWhole (row.Compare o)
      written t typed n graph q a b x y is first second met told =
          equal_by t typed n graph q a b x y is first second (has_equality (shape x) (shape y)) refl (subst (λ s. Above t n (row.Compare o) (with_args (row.Compare o) (a ∷ b ∷ []) q) is s) (it.two t.whole.tables (shape x) (shape y)) met) told

lowers_equal : (world : World) (place : Place) (a b : Operand) (w : Writing) → never_comes (kind_of a) ≡ false → never_comes (kind_of b) ≡ false → is_list a ≡ false → lowered world (row.Compare cmp.Eq) place (a ∷ b ∷ []) w ≡ lower_op world.around (row.Compare cmp.Eq) place (a ∷ b ∷ []) w
unfolding class_lowered class_of_some class_of_two list_lowered list_of_some second_of_two
lowers_equal world place a b w ca cb plain = two_unlisted world (row.Compare cmp.Eq) place a b w ca cb plain refl refl refl refl refl

lowers_unequal : (world : World) (place : Place) (a b : Operand) (w : Writing) → never_comes (kind_of a) ≡ false → never_comes (kind_of b) ≡ false → is_list a ≡ false → lowered world (row.Compare cmp.Ne) place (a ∷ b ∷ []) w ≡ lower_op world.around (row.Compare cmp.Ne) place (a ∷ b ∷ []) w
unfolding class_lowered class_of_some class_of_two list_lowered list_of_some second_of_two
lowers_unequal world place a b w ca cb plain = two_unlisted world (row.Compare cmp.Ne) place a b w ca cb plain refl refl refl refl refl

pub equal : RowIsWrittenWhere AreWhole (row.Compare cmp.Eq)
equal = equality_row cmp.Eq (record { plain = record { asks = λ p a g node xs. refl; fits = λ tables xs. refl }; zero = refl; one = λ tables x. refl; three = λ x y z. refl; two = λ tables x y. refl; lowers = lowers_equal; law = equal_is_done })

pub unequal : RowIsWrittenWhere AreWhole (row.Compare cmp.Ne)
unequal = equality_row cmp.Ne (record { plain = record { asks = λ p a g node xs. refl; fits = λ tables xs. refl }; zero = refl; one = λ tables x. refl; three = λ x y z. refl; two = λ tables x y. refl; lowers = lowers_unequal; law = unequal_is_done })
