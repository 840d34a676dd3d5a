-- What is known of operands that are lists.
use Rattle.std.proofs.Common.{◌≡◌, ◌⊎◌, inl, inr, ℕ, Bool, true, false, List, ◌∷◌, Some, refl, sym, ap, ◌∙◌, subst}
use Rattle.std.specs.Prelude.{slice_get}
use Rattle.csub_tree.specs.State.{Value, Core}
use Rattle.ann_element.specs.Sites.{leader}
use Rattle.ann_element.specs.declared.element.Element.{Element}
use Rattle.ann_element.specs.declared.element.Element.TheVariants as element
use Rattle.ann_lattice.specs.Assign.{at}
use Rattle.ann_lattice.specs.Join.{is_clash}
use Rattle.ann_lattice.specs.Kind.{is_int}
use Rattle.ann_lattice.specs.Shape.{Lst, Num, Shape, shape}
use Rattle.ann_rules.specs.Asks.{items_of}
use Rattle.flow_graph.specs.declared.graph.Op.{Op}
use Rattle.ll_code.specs.declared.program.LlType.TheVariants as type
use Rattle.rpy_tree.specs.Value.{Value as Meant, Heap}
use Rattle.rtyper_layout.specs.declared.kind.Kind.{Kind}
use Rattle.rtyper_layout.specs.declared.kind.Kind.TheVariants as kind
use Rattle.rtyper_layout.specs.Kinds.{kind_of, kind_seen}
use Rattle.rtyper_layout.specs.Types.{type_of, type_seen}
use Rattle.rtyper_list.specs.Operands.{of_list, of_none}
use Rattle.rtyper_program.specs.Seen.{element_at}
use Rattle.object_laws.specs.Ghost.{Ghost}
use Rattle.object_laws.specs.Represents.{Represents}
use Rattle.object_laws.specs.Values.{Holds}
use Rattle.object_laws.proofs.Valued.{Absent, Listing, list_or_none}
use Rattle.conversion_laws.specs.Ordered.{IsLaid}
use Rattle.list_laws.specs.Lists.{IsList}
use Rattle.typed_rows.specs.Programs.{HasItems, IsTyped, Typed, layout, same, world}
use Rattle.typed_rows.specs.Rows.{FirstIs, IsOp, SecondIs, kind_at}
use Rattle.list_rows.specs.Told.{IsItemOf, of_list_there, of_word}
use Rattle.list_rows.proofs.Fitting.{above_lists}
use Rattle.list_rows.proofs.Operands.{Above, Operand}
use Rattle.list_rows.proofs.Shapes.{OfList, kind_in, kind_is, list_type, lists_are, no, of_lists, site_in}
use Rattle.list_rows.proofs.Throwing.{IsListed}

pub there_list : (k : Kind) → of_list_there k ≡ true → of_list k ≡ true
there_list kind.List h = refl
there_list _ h = no h

pub is_there : (k : Kind) → of_list_there k ≡ true → k ≡ kind.List
is_there kind.List h = refl
is_there _ h = no h

-- a variable that is a list of these sites, of the struct and the items of these
pub record IsOfLists (t : Typed) (n v : ℕ) (e : Element) : Type 0 where
  pub of : OfList (layout t) (same t) e
  pub has : HasItems t of.site of.n
  pub kind : of_list (kind_seen (element_at t.known.annotation n v)) ≡ true
  pub typed : type_seen (layout t) (element_at t.known.annotation n v) ≡ type.Ptr of.n
  pub list : IsList (world t).around t.seen (element_at t.known.annotation n v) of.n has.item
  pub items : items_of t.whole t.assigned of.site ≡ shape has.item

module _ (t : Typed) (n : ℕ) where
  pub first_known : (of : Kind → Bool) (v u : ℕ) (a : Operand t n u) → Some u ≡ Some v → of (kind_at t n v) ≡ true → of (kind_of a.e) ≡ true
  first_known of v u a is told = ap (λ e. of (kind_seen e)) (sym a.seen) ∙ ap (λ w. of (kind_at t n w)) same_some ∙ told
    where
      same_some : u ≡ v
      same_some = cc

  -- an operand that is an integer
  pub word_is : (v : ℕ) (a : Operand t n v) → is_int (shape a.e) ≡ true → kind_seen (element_at t.known.annotation n v) ≡ kind.Word
  word_is v a int = ap kind_seen a.seen ∙ kind_is a.e ∙ by (shape a.e) int
    where
      by : (x : Shape) → is_int x ≡ true → kind_in x ≡ kind.Word
      by (Num b) h = refl
      by _ h = no h

  -- what is told to be a word
  pub told_word : (v : ℕ) (a : Operand t n v) → of_word (kind_of a.e) ≡ true → kind_seen (element_at t.known.annotation n v) ≡ kind.Word
  told_word v a told = ap kind_seen a.seen ∙ by (kind_of a.e) told
    where
      by : (k : Kind) → of_word k ≡ true → k ≡ kind.Word
      by kind.Word h = refl
      by _ h = no h

  -- what is told to be nothing but `None`
  pub nothing_is : (v : ℕ) → of_none (kind_at t n v) ≡ true → kind_seen (element_at t.known.annotation n v) ≡ kind.Nothing
  nothing_is v told = by (kind_at t n v) told
    where
      by : (k : Kind) → of_none k ≡ true → k ≡ kind.Nothing
      by kind.Nothing h = refl
      by _ h = no h

  pub is_item_of : (v : ℕ) (a : Operand t n v) (list : IsOfLists t n v a.e) → IsItemOf t n v list.has.item
  is_item_of v a list = record { site = list.of.site; or_none = list.of.r; list = a.seen ∙ ap (λ e. Some e) list.of.is; stands = list.has.stands }

  -- the second operand
  pub second_told : (of : Kind → Bool) (o : Op) (v u : ℕ) (vs : List ℕ) (b : Operand t n u) → o.args ≡ v ∷ u ∷ vs → SecondIs of t n o → of (kind_of b.e) ≡ true
  second_told of o v u vs b are told = first_known of told.0 u b (ap (λ (args : List ℕ). slice_get args 1) (sym are) ∙ told.1) told.2

  -- the first operand of an operation, which is told to be of a kind
  pub first_told : (of : Kind → Bool) (o : Op) (v : ℕ) (vs : List ℕ) (a : Operand t n v) → o.args ≡ v ∷ vs → FirstIs of t n o → of (kind_of a.e) ≡ true
  first_told of o v vs a are told = first_known of told.0 v a (ap (λ (args : List ℕ). slice_get args 0) (sym are) ∙ told.1) told.2

module _ (t : Typed) (typed : IsTyped t) (n : ℕ) where
  -- what stands at the items of a site of lists
  pub items_at : (site m : ℕ) (h : HasItems t site m) → leader (same t) site ≡ site → items_of t.whole t.assigned site ≡ shape h.item
  items_at site m h led =
      ap (λ (s : List ℕ). at t.assigned (t.whole.places.item (leader s site))) typed.sees.same_is
      ∙ ap (λ (s : ℕ). at t.assigned (t.whole.places.item s)) led
      ∙ typed.sees.items site h.item h.stands

  seen_of_lists : (v : ℕ) (e : Element) → element_at t.known.annotation n v ≡ Some e → IsLaid (layout t) (same t) e → of_list (kind_of e) ≡ true → IsOfLists t n v e
  seen_of_lists v e seen laid list =
      let of = of_lists (layout t) (same t) e laid list in
      let has = typed.structs.lists of.site of.n of.r of.typed in
      let kind : of_list (kind_seen (element_at t.known.annotation n v)) ≡ true = ap (λ e. of_list (kind_seen e)) seen ∙ list in
      let is_typed : type_seen (layout t) (element_at t.known.annotation n v) ≡ type.Ptr of.n = ap (type_seen (layout t)) (seen ∙ ap (λ e. Some e) of.is) ∙ of.typed in
      record {
        of = of;
        has = has;
        kind = kind;
        typed = is_typed;
        list = record { is = kind; typed = is_typed; item_is = has.known_as; items = has.typed };
        items = items_at of.site of.n has of.led;
      }

  pub lists_are_of : (v : ℕ) (a : Operand t n v) → of_list (kind_of a.e) ≡ true → IsOfLists t n v a.e
  lists_are_of v a list = seen_of_lists v a.e a.seen a.laid list

  -- its value is a list, or missing
  pub listed : (g : Ghost) (heap : Heap) (left : ℕ) (core : Core) (v : ℕ) (x : Value) (value : Meant) → Represents (layout t) t.seen g heap left core.blocks core.statics → of_list (kind_seen (element_at t.known.annotation n v)) ≡ true
      → Holds (layout t) t.seen g (element_at t.known.annotation n v) x value → IsListed heap value
  listed g heap left core v x value memory kind held = by (list_or_none kind held)
    where
      by : Listing (layout t) t.seen g (element_at t.known.annotation n v) x value ⊎ Absent (element_at t.known.annotation n v) x value → IsListed heap value
      by (inl it) = (let at = memory.lists it.n it.i x it.home it.struct in inr (it.i, (at.items, (it.high, at.object))))
      by (inr gone) = inl gone.high

  -- what is above a list of these sites is one of the same struct
  pub record IsSameList (o : Op) (m : ℕ) : Type 0 where
    pub kind : of_list (kind_seen (element_at t.known.annotation n o.result)) ≡ true
    pub struct : type_seen (layout t) (element_at t.known.annotation n o.result) ≡ type.Ptr m

  pub same_list : (o : Op) (is : IsOp t n o) (v : ℕ) (e : Element) (list : IsOfLists t n v e) (site : ℕ) (r : Bool) → site ≡ list.of.site → Above t (Lst site r) (shape is.result) → is_clash (shape is.result) ≡ false → IsSameList o list.of.n
  same_list o is v e list site r same_site above free =
      let up = above_lists t.whole.tables.classes t.assigned.same site r (shape is.result) above free in
      let kind : of_list (kind_of is.result) ≡ true = lists_are is.result up.own up.or_none up.is in
      let of = of_lists (layout t) (same t) is.result is.result_laid kind in
      let same_shape : Lst of.site of.r ≡ Lst up.own up.or_none = sym of.shape_is ∙ up.is in
      let one : of.site ≡ up.own = ap site_in same_shape in
      let led : leader (same t) up.own ≡ up.own = subst (λ s. leader (same t) s ≡ s) one of.led in
      let in_one : leader (same t) site ≡ leader (same t) up.own = subst (λ (s : List ℕ). leader s site ≡ leader s up.own) typed.sees.same_is up.one in
      let sites : of.site ≡ list.of.site = one ∙ sym led ∙ sym in_one ∙ ap (leader (same t)) same_site ∙ list.of.led in
      record {
        kind = ap (λ e. of_list (kind_seen e)) is.result_is ∙ kind;
        struct = ap (type_seen (layout t)) (is.result_is ∙ ap (λ e. Some e) of.is) ∙ ap (λ s. type_of (layout t) (element.List s of.r)) sites ∙ list_type (layout t) list.of.site of.r list.of.r ∙ list.of.typed;
      }

  -- a result that is above a list
  pub result_of_lists : (o : Op) (is : IsOp t n o) (site : ℕ) (r : Bool) → Above t (Lst site r) (shape is.result) → is_clash (shape is.result) ≡ false → IsOfLists t n o.result is.result
  result_of_lists o is site r above free =
      let up = above_lists t.whole.tables.classes t.assigned.same site r (shape is.result) above free in
      seen_of_lists o.result is.result is.result_is is.result_laid (lists_are is.result up.own up.or_none up.is)

  pub result_item : (o : Op) (is : IsOp t n o) (list : IsOfLists t n o.result is.result) → IsItemOf t n o.result list.has.item
  result_item o is list = record { site = list.of.site; or_none = list.of.r; list = is.result_is ∙ ap (λ e. Some e) list.of.is; stands = list.has.stands }

  -- it stands at the least site of the class of this one
  pub result_site : (o : Op) (is : IsOp t n o) (list : IsOfLists t n o.result is.result) (site : ℕ) (r : Bool) → Above t (Lst site r) (shape is.result) → is_clash (shape is.result) ≡ false → items_of t.whole t.assigned site ≡ shape list.has.item
  result_site o is list site r above free =
      let up = above_lists t.whole.tables.classes t.assigned.same site r (shape is.result) above free in
      let same_shape : Lst list.of.site list.of.r ≡ Lst up.own up.or_none = sym list.of.shape_is ∙ up.is in
      let one : up.own ≡ list.of.site = sym (ap site_in same_shape) in
      ap (λ (s : ℕ). at t.assigned (t.whole.places.item s)) (up.one ∙ ap (leader t.assigned.same) one) ∙ list.items
