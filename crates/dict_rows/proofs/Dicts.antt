-- What is known of operands that are dicts.
use Rattle.std.proofs.Common.{◌≡◌, ◌⊎◌, inl, inr, ℕ, Bool, true, false, List, [], ◌∷◌, map, Some, refl, sym, ap, ◌∙◌}
use Rattle.std.specs.Prelude.{slice_get}
use Rattle.csub_tree.specs.State.{Value, Core}
use Rattle.ann_element.specs.Sites.{leader}
use Rattle.ann_element.specs.declared.element.Element.{Element, fold-roll-Element}
use Rattle.ann_element.specs.declared.element.Element.TheOpen.{Element-F}
use Rattle.ann_element.specs.declared.element.Element.TheVariants as element
use Rattle.ann_lattice.specs.Join.{is_clash}
use Rattle.ann_lattice.specs.Order as order
use Rattle.ann_lattice.specs.Order.{Below}
use Rattle.ann_lattice.specs.Kind.{is_nothing}
use Rattle.ann_lattice.specs.Shape.{One, Any, OrNone, Shape, Nothing as Unreached, NoneOnly, Truth, Num, Str, Tup, Lst, Dct, Inst, Fun, Clash, shape, shape_step}
use Rattle.rpy_meaning.specs.World.{Op as Does, World}
use Rattle.rtyper_op.specs.Lowering.{never_comes}
use Rattle.list_rows.proofs.Throwing.{Only, Quiet}
use Rattle.ll_code.specs.declared.program.LlType.TheVariants as type
use Rattle.lower_laws.specs.Values.{is_simple}
use Rattle.rpy_tree.specs.Value.{Value as Meant, Ref, Nothing, Heap, Mapped}
use Rattle.rpy_tree.specs.declared.program.ClassInfo.{ClassInfo}
use Rattle.rtyper_layout.specs.declared.kind.Kind.{Kind}
use Rattle.rtyper_layout.specs.declared.kind.Kind.TheVariants as kind
use Rattle.rtyper_layout.specs.declared.layout.Layout.{Layout}
use Rattle.rtyper_layout.specs.Kinds.{kind_of, kind_seen}
use Rattle.rtyper_layout.specs.Types.{type_of, type_seen}
use Rattle.rtyper_program.specs.Seen.{element_at, operand_of}
use Rattle.conversion_laws.specs.Ordered.{IsLaid, Nowhere, Simple, Listed, Mapped as MappedLaid, Instanced, Called, Items}
use Rattle.dict_op_laws.specs.Dicts.{IsDictOf}
use Rattle.flow_graph.specs.declared.graph.Graph.{Graph}
use Rattle.flow_graph.specs.declared.graph.Op.{Op}
use Rattle.object_laws.specs.Ghost.{Ghost}
use Rattle.object_laws.specs.Represents.{Represents}
use Rattle.object_laws.specs.Values.{Given, Holds, of_dict}
use Rattle.object_laws.proofs.Valued.{Dicting, Gone, dict_or_none}
use Rattle.typed_rows.specs.Programs.{HasEntries, IsTyped, Typed, layout, same, world}
use Rattle.typed_rows.specs.Rows.{IsOp, kind_at, lowered_in}
use Rattle.list_rows.proofs.Operands.{Above, Operand}
use Rattle.list_rows.proofs.Shapes.{kind_in, kind_is, no}
use Rattle.dict_rows.specs.Rows.{HasPairOf}

pub dict_shape : (s : ℕ) (r : Bool) → shape (element.Dict s r) ≡ Dct s r
dict_shape s r = ap shape (sym (element.rolls-Dict s r)) ∙ fold-roll-Element Shape shape_step (Element-F.Dict s r)

no_simple : (k : Kind) → is_simple k ≡ true → of_dict k ≡ true → ⊥
no_simple kind.Dict simple dict = absurd (let q : false ≡ true = simple in cc)
no_simple kind.MaybeDict simple dict = absurd (let q : false ≡ true = simple in cc)
no_simple _ simple dict = absurd (let q : false ≡ true = dict in cc)

-- it is a dict of these sites, which has its struct
pub record OfDict (layout : Layout) (same : List ℕ) (e : Element) : Type 0 where
  pub site : ℕ
  pub r : Bool
  pub n : ℕ
  pub is : e ≡ element.Dict site r
  pub led : leader same site ≡ site
  pub typed : type_of layout (element.Dict site r) ≡ type.Ptr n
  pub shape_is : shape e ≡ Dct site r

module _ (layout : Layout) (same : List ℕ) where
  pub of_dicts : (e : Element) → IsLaid layout same e → of_dict (kind_of e) ≡ true → OfDict layout same e
  of_dicts e (Nowhere k) dict = no (ap of_dict (sym k) ∙ dict)
  of_dicts e (Simple simple) dict = absurd (no_simple (kind_of e) simple dict)
  of_dicts _ (MappedLaid n site r led typed) dict = record { site = site; r = r; n = n; is = refl; led = led; typed = typed; shape_is = dict_shape site r }
  of_dicts _ (Listed n site true led typed) dict = no dict
  of_dicts _ (Listed n site false led typed) dict = no dict
  of_dicts _ (Instanced class true l at) dict = no dict
  of_dicts _ (Instanced class false l at) dict = no dict
  of_dicts _ (Called fs true) dict = no dict
  of_dicts _ (Called fs false) dict = no dict
  of_dicts _ (Items n parts of all) dict = no dict

-- what is a dict by its shape is one by its kind
pub dicts_are : (e : Element) (s : ℕ) (r : Bool) → shape e ≡ Dct s r → of_dict (kind_of e) ≡ true
dicts_are e s true h = ap of_dict (kind_is e ∙ ap kind_in h)
dicts_are e s false h = ap of_dict (kind_is e ∙ ap kind_in h)

-- what is above a dict is one
pub above_dicts : (k : List ClassInfo) (t : List ℕ) (site : ℕ) (r : Bool) (z : Shape) → Below k t (Dct site r) z → is_clash z ≡ false → (own : ℕ) × ((or_none : Bool) × (z ≡ Dct own or_none))
above_dicts k t site r _ (order.dict s u a b one wider) free = (u, (b, refl))
above_dicts k t site r _ (order.clash x o p h j) free = no (sym free)

-- a variable that is a dict of these sites, of the struct, the keys and the values of these
pub record IsOfDicts (t : Typed) (n v : ℕ) (graph : Graph) (e : Element) : Type 0 where
  pub of : OfDict (layout t) (same t) e
  pub has : HasEntries t of.site of.n
  pub kind : of_dict (kind_seen (element_at t.known.annotation n v)) ≡ true
  pub typed : type_seen (layout t) (element_at t.known.annotation n v) ≡ type.Ptr of.n
  pub dict : IsDictOf (world t).around (operand_of (lowered_in t n graph) v) of.n has.mapping

module _ (t : Typed) (typed : IsTyped t) (n : ℕ) (graph : Graph) where
  seen_of_dicts : (v : ℕ) (e : Element) → element_at t.known.annotation n v ≡ Some e → IsLaid (layout t) (same t) e → of_dict (kind_of e) ≡ true → IsOfDicts t n v graph e
  seen_of_dicts v e seen laid dict =
      let of = of_dicts (layout t) (same t) e laid dict in
      let has = typed.structs.dicts of.site of.n of.r of.typed in
      let kind : of_dict (kind_seen (element_at t.known.annotation n v)) ≡ true = ap (λ e. of_dict (kind_seen e)) seen ∙ dict in
      let is_typed : type_seen (layout t) (element_at t.known.annotation n v) ≡ type.Ptr of.n = ap (type_seen (layout t)) (seen ∙ ap (λ e. Some e) of.is) ∙ of.typed in
      record { of = of; has = has; kind = kind; typed = is_typed; dict = record { dicts = kind; typed = is_typed; mapping = has.is } }

  pub dicts_are_of : (v : ℕ) (a : Operand t n v) → of_dict (kind_of a.e) ≡ true → IsOfDicts t n v graph a.e
  dicts_are_of v a dict = seen_of_dicts v a.e a.seen a.laid dict

  pub result_of_dicts : (o : Op) (is : IsOp t n o) (site : ℕ) (r : Bool) → Above t (Dct site r) (shape is.result) → is_clash (shape is.result) ≡ false → IsOfDicts t n o.result graph is.result
  result_of_dicts o is site r above free =
      let up = above_dicts t.whole.tables.classes t.assigned.same site r (shape is.result) above free in
      seen_of_dicts o.result is.result is.result_is is.result_laid (dicts_are is.result up.0 up.1.0 up.1.1)

  pub has_pair_of : (v : ℕ) (a : Operand t n v) (dict : IsOfDicts t n v graph a.e) → HasPairOf t n v dict.has.key dict.has.value
  has_pair_of v a dict = record { site = dict.of.site; or_none = dict.of.r; dict = a.seen ∙ ap (λ e. Some e) dict.of.is; key_stands = dict.has.key_stands; value_stands = dict.has.value_stands }

-- the value is a dict, or missing
abbrev pub IsMapped : Heap → Meant → Type 0
IsMapped heap v = (v ≡ Nothing) ⊎ ((i : ℕ) × ((pairs : List (Meant × Meant)) × ((v ≡ Ref i) × (slice_get heap i ≡ Some (Mapped pairs)))))

module _ (t : Typed) (typed : IsTyped t) (n : ℕ) where
  pub mapped : (g : Ghost) (heap : Heap) (left : ℕ) (core : Core) (v : ℕ) (x : Value) (value : Meant) → Represents (layout t) t.seen g heap left core.blocks core.statics → of_dict (kind_at t n v) ≡ true
      → Holds (layout t) t.seen g (element_at t.known.annotation n v) x value → IsMapped heap value
  mapped g heap left core v x value memory is_dict held = by (dict_or_none is_dict held)
    where
      by : Dicting (layout t) t.seen g (element_at t.known.annotation n v) x value ⊎ Gone kind.MaybeDict (element_at t.known.annotation n v) x value → IsMapped heap value
      by (inl it) = (let at = memory.dicts it.n it.i x it.m it.home it.struct in inr (it.i, (at.pairs, (it.high, at.object))))
      by (inr gone) = inl gone.high

  -- values of two or three variables, the first of which is a dict
  module _ (graph : Graph) (v : ℕ) (raises : Bool) (f : List Meant → Does) (is_dict : of_dict (kind_at t n v) ≡ true) where
    abbrev pub OnlyThrows : List ℕ → Type 0
    OnlyThrows us = (g : Ghost) (core : Core) (meant : World) (xs : List Meant) → Represents (layout t) t.seen g meant.heap meant.left core.blocks core.statics → Given t.seen (world t).around g core (map (operand_of (lowered_in t n graph)) (v ∷ us)) xs → Only raises (f xs meant)

    pub of_two_mapped : (u : ℕ) → ((heap : Heap) (x i : Meant) → IsMapped heap x → Quiet raises heap (f (x ∷ i ∷ []))) → OnlyThrows (u ∷ [])
    of_two_mapped u quiet g core meant (x ∷ i ∷ []) memory given = quiet meant.heap x i (mapped g meant.heap meant.left core v _ x memory is_dict given.0) meant refl
    of_two_mapped u quiet g core meant [] memory given = absurd given
    of_two_mapped u quiet g core meant (x ∷ []) memory given = absurd given.1
    of_two_mapped u quiet g core meant (x ∷ i ∷ y ∷ xs) memory given = absurd given.1.1

    pub of_three_mapped : (u r : ℕ) → ((heap : Heap) (x i y : Meant) → IsMapped heap x → Quiet raises heap (f (x ∷ i ∷ y ∷ []))) → OnlyThrows (u ∷ r ∷ [])
    of_three_mapped u r quiet g core meant (x ∷ i ∷ y ∷ []) memory given = quiet meant.heap x i y (mapped g meant.heap meant.left core v _ x memory is_dict given.0) meant refl
    of_three_mapped u r quiet g core meant [] memory given = absurd given
    of_three_mapped u r quiet g core meant (x ∷ []) memory given = absurd given.1
    of_three_mapped u r quiet g core meant (x ∷ i ∷ []) memory given = absurd given.1.1
    of_three_mapped u r quiet g core meant (x ∷ i ∷ y ∷ z ∷ xs) memory given = absurd given.1.1.1

-- ---- what may come

some_kind : (x : Shape) → is_nothing x ≡ false → never_comes (kind_in x) ≡ false
some_kind Unreached h = no (sym h)
some_kind NoneOnly h = refl
some_kind (Truth b) h = refl
some_kind (Num b) h = refl
some_kind (Str One) h = refl
some_kind (Str Any) h = refl
some_kind (Str OrNone) h = refl
some_kind (Tup xs) h = refl
some_kind (Lst s true) h = refl
some_kind (Lst s false) h = refl
some_kind (Dct s true) h = refl
some_kind (Dct s false) h = refl
some_kind (Inst c true) h = refl
some_kind (Inst c false) h = refl
some_kind (Fun fs true) h = refl
some_kind (Fun fs false) h = refl
some_kind (Clash o p) h = refl

pub comes : (e : Element) → is_nothing (shape e) ≡ false → never_comes (kind_of e) ≡ false
comes e h = ap never_comes (kind_is e) ∙ some_kind (shape e) h
