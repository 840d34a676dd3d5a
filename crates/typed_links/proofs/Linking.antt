-- What links pass on is converted.
use Rattle.std.proofs.Common.{◌≡◌, ◌≢◌, ℕ, ◌+◌, Bool, true, false, List, [], ◌∷◌, Option, Some, None, refl, sym, ap, ◌∙◌, subst}
use Rattle.std.specs.Prelude.{slice_get, if◌then◌else◌}
use Rattle.ann_element.specs.declared.element.Element.{Element}
use Rattle.ann_lattice.specs.Join.{is_clash}
use Rattle.ann_lattice.specs.Order.{Below}
use Rattle.ann_lattice.specs.Shape.{shape}
use Rattle.csub_tree.specs.declared.tree.COperand.{COperand}
use Rattle.csub_tree.specs.declared.tree.COperand.TheVariants.{Var}
use Rattle.flow_graph.specs.declared.graph.Graph.{Graph}
use Rattle.ll_code.specs.declared.program.LlType.{LlType}
use Rattle.ll_code.specs.declared.program.LlType.TheVariants as type
use Rattle.rtyper_layout.specs.declared.kind.Kind.{Kind}
use Rattle.rtyper_layout.specs.declared.kind.Kind.TheVariants as kind
use Rattle.rtyper_layout.specs.Kinds.{kind_seen}
use Rattle.rtyper_layout.specs.Types.{type_seen}
use Rattle.rtyper_data.specs.declared.found.Found.{Found}
use Rattle.rtyper_data.specs.Converting.{value_as}
use Rattle.rtyper_data.specs.Finding.{same_type}
use Rattle.rtyper_data.specs.Seen.{Writing}
use Rattle.rtyper_program.specs.Links.{arguments, passed, with_argument, with_passed}
use Rattle.rtyper_program.specs.Seen.{Lowered, element_at, element_in, type_at}
use Rattle.growth_laws.specs.Growing.{Grows}
use Rattle.growth_laws.proofs.Data.{then_grows}
use Rattle.program_asks.proofs.WritingLinks.{argument_grows, arguments_grow}
use Rattle.laid_laws.specs.Laid.{StandsIn, Variable, InRows}
use Rattle.lower_laws.specs.Asked.{all_asked}
use Rattle.conversion_laws.specs.Asked.{asks_for}
use Rattle.conversion_laws.specs.Going.{Goes}
use Rattle.conversion_laws.specs.Ordered.{IsLaid}
use Rattle.conversion_laws.proofs.Turning.{asks_are, turn, value_is}
use Rattle.conversion_laws.proofs.Valued.{to_typed}
use Rattle.sound_rows.proofs.Tools.{above_clash}
use Rattle.run_laws.specs.Points.{Setting, is_conflict}
use Rattle.block_laws.specs.Links.{AllConvert, Converts, OneConverts, Stood}
use Rattle.block_laws.proofs.Converting.{elements_are_converted}
use Rattle.block_laws.proofs.Passing.{is_void}
use Rattle.typed_rows.specs.Programs.{Typed, IsTyped, first, last, layout, numbers, same, setting}
use Rattle.typed_rows.specs.Rows.{lowered_in}
use Rattle.typed_rows.proofs.Going.{elements_pass}
use Rattle.typed_programs.proofs.Cells.{no_some}
use Rattle.typed_programs.proofs.Spots.{conflict_seen}
use Rattle.typed_links.proofs.Shaping.{never_typed}
use Rattle.typed_links.specs.Links.{AllAreBelow, ConversionsStand, IsBelow, LinksAreConverted, OneIsBelow}

is_false : (b : Bool) → (b ≡ true → ⊥) → b ≡ false
is_false true h = absurd (h refl)
is_false false h = refl

-- ---- conversions

module _ (t : Typed) (typed : IsTyped t) (stand : ConversionsStand t) where
  -- what is of an element is converted to one above it, which is in no conflict
  pub lower_free : (from to : Element) → Below t.classes.classes (same t) (shape from) (shape to) → is_conflict (Some to) ≡ false → is_conflict (Some from) ≡ false
  lower_free from to below free = conflict_seen from ∙ is_false (is_clash (shape from)) (λ h. above_clash t.classes.classes (same t) (shape from) (shape to) below h (sym (conflict_seen to) ∙ free))

  pub goes_up : (from to : Element) → StandsIn t.known.annotation from → StandsIn t.known.annotation to → Below t.classes.classes (same t) (shape from) (shape to) → is_conflict (Some to) ≡ false → Goes (layout t) t.seen (Some from) (Some to)
  goes_up from to one two below free = elements_pass t typed from to (typed.parts.laid from one (lower_free from to below free)) (typed.parts.laid to two free) below

  pub no_type : (from to : Option Element) → Goes (layout t) t.seen from to → type_seen (layout t) to ≡ type.Void → type_seen (layout t) from ≡ type.Void
  no_type from to goes h = by (kind_seen from) refl
    where
      other : (kind_seen from ≡ kind.Never → ⊥) → type_seen (layout t) from ≡ type.Void
      other there = absurd (to_typed goes there h)

      by : (k : Kind) → kind_seen from ≡ k → type_seen (layout t) from ≡ type.Void
      by kind.Never q = never_typed (layout t) from q
      by kind.Word q = other (λ z. cc)
      by kind.Flag q = other (λ z. cc)
      by kind.Byte q = other (λ z. cc)
      by kind.Text q = other (λ z. cc)
      by kind.MaybeText q = other (λ z. cc)
      by kind.Nothing q = other (λ z. cc)
      by kind.Tuple q = other (λ z. cc)
      by kind.Instance q = other (λ z. cc)
      by kind.MaybeInstance q = other (λ z. cc)
      by kind.Function q = other (λ z. cc)
      by kind.MaybeFunction q = other (λ z. cc)
      by kind.List q = other (λ z. cc)
      by kind.MaybeList q = other (λ z. cc)
      by kind.Dict q = other (λ z. cc)
      by kind.MaybeDict q = other (λ z. cc)
      by kind.Other q = other (λ z. cc)

  pub converts_up : (from to : Option Element) (x : COperand) (w : Writing) → Goes (layout t) t.seen from to → Grows (first t) w.found → Grows (value_as (layout t) x (type_seen (layout t) from) (type_seen (layout t) to) w).1.found (last t)
      → Converts (setting t) (numbers t) from to x w
  converts_up from to x w goes begun ends =
      let asked : (value_as (layout t) x (type_seen (layout t) from) (type_seen (layout t) to) w).1.found ≡ all_asked (asks_for (layout t) (type_seen (layout t) from) (type_seen (layout t) to)) w.found =
      ap (λ (r : COperand × Writing). r.1.found) (value_is (turn (layout t) (type_seen (layout t) from) (type_seen (layout t) to)) x w) ∙ asks_are (turn (layout t) (type_seen (layout t) from) (type_seen (layout t) to)) w in
      elements_are_converted (setting t) (numbers t) from to x w typed.small.no_tuple goes (stand (type_seen (layout t) from) (type_seen (layout t) to) w begun (subst (λ f. Grows f (last t)) asked ends))

module _ (t : Typed) (typed : IsTyped t) (stand : ConversionsStand t) (n : ℕ) (graph : Graph) where
  abbrev l : Lowered
  l = lowered_in t n graph

  abbrev s : Setting
  s = setting t

  pub stands_in : (v : ℕ) (e : Element) → element_at t.known.annotation n v ≡ Some e → StandsIn t.known.annotation e
  stands_in v e h = Variable (by (slice_get t.known.annotation.vars n) refl h)
    where
      by : (row : Option (List Element)) → slice_get t.known.annotation.vars n ≡ row → element_in row v ≡ Some e → InRows t.known.annotation.vars e
      by None q k = absurd (no_some k)
      by (Some row) q k = (n, (row, (q, (v, k))))

  module _ (a v : ℕ) (w : Writing) (it : IsBelow t n a v) (free : is_conflict (element_at t.known.annotation n v) ≡ false) where
    to_free : is_conflict (Some it.to) ≡ false
    to_free = sym (ap is_conflict it.to_is) ∙ free

    from_free : is_conflict (element_at t.known.annotation n a) ≡ false
    from_free = ap is_conflict it.from_is ∙ lower_free t typed stand it.from it.to it.below to_free

    goes : Goes (layout t) t.seen (element_at t.known.annotation n a) (element_at t.known.annotation n v)
    goes = subst (λ e. Goes (layout t) t.seen e (element_at t.known.annotation n v)) (sym it.from_is) (subst (λ e. Goes (layout t) t.seen (Some it.from) e) (sym it.to_is) (goes_up t typed stand it.from it.to (stands_in a it.from it.from_is) (stands_in v it.to it.to_is) it.below to_free))

  one_converts : (o : Option ℕ) (v : ℕ) (xs : List COperand) (w : Writing) → OneIsBelow t n o v → Grows (first t) w.found → Grows (with_argument l None o (type_at l v) (xs, w)).1.found (last t) → OneConverts s (numbers t) l o v w
  one_converts None v xs w it begun ends = tt
  one_converts (Some a) v xs w it begun ends = λ free. (
    from_free a v w it free,
    no_type t typed stand (element_at t.known.annotation n a) (element_at t.known.annotation n v) (goes a v w it free),
    λ there. converts_up t typed stand (element_at t.known.annotation n a) (element_at t.known.annotation n v) (Var a) w (goes a v w it free) begun (asked_for there),
  )
    where
      asked_for : (type_at l v ≡ type.Void → ⊥) → Grows (value_as (layout t) (Var a) (type_at l a) (type_at l v) w).1.found (last t)
      asked_for there = subst (λ (b : Bool). Grows (if b then (xs, w) else with_passed xs (passed l None (Some a) (type_at l v) w)).1.found (last t)) (is_false (same_type (type_at l v) type.Void) (λ h. there (is_void (type_at l v) h))) ends

  all_convert : (args : List ℕ) (i : ℕ) (inputs : List ℕ) (made : List COperand × Writing) → AllAreBelow t n args i inputs → Grows (first t) made.1.found → Grows (arguments l None args i inputs made).1.found (last t) → AllConvert s (numbers t) l args i inputs made
  all_convert args i [] made it begun ends = tt
  all_convert args i (v ∷ inputs) made it begun ends =
      let next : List COperand × Writing = with_argument l None (slice_get args i) (type_at l v) made in (
        one_converts (slice_get args i) v made.0 made.1 it.0 begun (then_grows (arguments_grow l None args (i + 1) inputs next) ends),
        all_convert args (i + 1) inputs next it.1 (then_grows begun (argument_grows l None (slice_get args i) (type_at l v) made)) ends,
      )

pub links_are_converted : LinksAreConverted
links_are_converted t typed stand n graph args inputs w it begun ends = all_convert t typed stand n graph args 0 inputs ([], w) it begun ends
