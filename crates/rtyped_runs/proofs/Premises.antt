-- Variables have types, and graphs their numbers.
use Rattle.std.proofs.Common.{◌≡◌, ◌≢◌, ◌<◌, ℕ, zero, suc, Bool, true, false, List, [], ◌∷◌, length, Option, Some, None, refl, sym, ap, ◌∙◌, subst, arith}
use Rattle.std.specs.Prelude.{slice_get, unwrap_or}
use Rattle.ann_element.specs.declared.element.Element.{Element}
use Rattle.ann_element.specs.declared.element.Element.TheVariants as element
use Rattle.ann_element.specs.declared.annotation.Annotation.{Annotation}
use Rattle.csub_tree.specs.State.{Value}
use Rattle.flow_graph.specs.declared.graph.Graph.{Graph}
use Rattle.ll_code.specs.declared.program.LlType.TheVariants as type
use Rattle.rpy_tree.specs.Value.{Value as Meant}
use Rattle.rtyper_layout.specs.declared.kind.Kind.{Kind}
use Rattle.rtyper_layout.specs.declared.kind.Kind.TheVariants as kind
use Rattle.rtyper_layout.specs.declared.layout.Layout.{Layout}
use Rattle.rtyper_layout.specs.Kinds.{kind_of, kind_seen}
use Rattle.rtyper_layout.specs.Types.{type_of, type_seen, root_of}
use Rattle.rtyper_list.specs.Operands.{of_list}
use Rattle.rtyper_program.specs.Graphs.{elements_in, types_of}
use Rattle.rtyper_program.specs.Program.{numbers_from, next_number}
use Rattle.rtyper_program.specs.Seen.{element_in, element_at}
use Rattle.layout_laws.specs.Knowing.{graph_if}
use Rattle.lower_laws.proofs.Typing.{place_of_none, place_of_words, place_of_flags, place_of_bytes, place_of_strings, place_of_texts}
use Rattle.lower_laws.specs.Values.{is_plain, is_simple}
use Rattle.conversion_laws.specs.Ordered.{IsLaid, Nowhere, Simple, Listed as ListLaid, Mapped as DictLaid, Instanced, Called, Items as TupleLaid}
use Rattle.object_laws.proofs.Valued.{function_type, instance_type}
use Rattle.object_laws.specs.Ghost.{Ghost}
use Rattle.object_laws.specs.Known.{Known}
use Rattle.object_laws.specs.Values.{Holds, Plain, Alone, Items, Listed, Mapped, Made, Function, Missing, may_be_missing, of_dict}
use Rattle.ll_helpers.specs.Helpers.{helpers}
use Rattle.program_asks.specs.Standing.{world_in}
use Rattle.rtyped_laws.specs.Programs.{layout_for}
use Rattle.run_laws.specs.Points.{is_conflict, of_conflict}
use Rattle.rtyped_runs.specs.Premises.{VariablesHaveTypes, GraphsAreKnown}

-- ---- types

plain_never : (k : Kind) → is_plain k ≡ true → k ≢ kind.Never
plain_never k h e = absurd (let q : is_plain kind.Never ≡ true = subst (λ k. is_plain k ≡ true) e h in cc)

module _ (layout : Layout) (known : Known) (g : Ghost) where
  -- what is held is somewhere
  is_there : (seen : Option Element) (x : Value) (v : Meant) → Holds layout known g seen x v → kind_seen seen ≢ kind.Never
  is_there seen x v (Plain h s) e = plain_never (kind_seen seen) h e
  is_there seen x v (Alone k a b) e = absurd (cc)
  is_there seen x v (Items parts n xs vs s a t u hs) e = absurd (let q : kind_seen (Some (element.Tuple parts)) ≡ kind.Never = ap kind_seen (sym s) ∙ e in cc)
  is_there seen x v (Listed n i l a t s h) e = absurd (let q : of_list kind.Never ≡ true = ap of_list (sym e) ∙ l in cc)
  is_there seen x v (Mapped n i m l a t s h) e = absurd (let q : of_dict kind.Never ≡ true = ap of_dict (sym e) ∙ l in cc)
  is_there seen x v (Made class r c i s a b h) e = no r (ap kind_seen (sym s) ∙ e)
    where
      no : (r : Bool) → kind_seen (Some (element.Instance class r)) ≡ kind.Never → ⊥
      no true q = absurd (cc)
      no false q = absurd (cc)
  is_there seen x v (Function functions r f n s a b c d) e = no r (ap kind_seen (sym s) ∙ e)
    where
      no : (r : Bool) → kind_seen (Some (element.Func functions r)) ≡ kind.Never → ⊥
      no true q = absurd (cc)
      no false q = absurd (cc)
  is_there seen x v (Missing m a b) e = absurd (let q : may_be_missing kind.Never ≡ true = ap may_be_missing (sym e) ∙ m in cc)

conflict_kind : (e : Element) → of_conflict e ≡ true → kind_of e ≡ kind.Other
conflict_kind (element.Conflict lists dicts) h = refl
conflict_kind other h = absurd (cc)

module _ (layout : Layout) (known : Known) (g : Ghost) where
  -- what is held is in no conflict
  no_other : (seen : Option Element) (x : Value) (v : Meant) → Holds layout known g seen x v → kind_seen seen ≢ kind.Other
  no_other seen x v (Plain h s) e = absurd (let q : is_plain kind.Other ≡ true = ap is_plain (sym e) ∙ h in cc)
  no_other seen x v (Alone k a b) e = absurd (cc)
  no_other seen x v (Items parts n xs vs s a t u hs) e = absurd (let q : kind_seen (Some (element.Tuple parts)) ≡ kind.Other = ap kind_seen (sym s) ∙ e in cc)
  no_other seen x v (Listed n i l a t s h) e = absurd (let q : of_list kind.Other ≡ true = ap of_list (sym e) ∙ l in cc)
  no_other seen x v (Mapped n i m l a t s h) e = absurd (let q : of_dict kind.Other ≡ true = ap of_dict (sym e) ∙ l in cc)
  no_other seen x v (Made class r c i s a b h) e = no r (ap kind_seen (sym s) ∙ e)
    where
      no : (r : Bool) → kind_seen (Some (element.Instance class r)) ≡ kind.Other → ⊥
      no true q = absurd (cc)
      no false q = absurd (cc)
  no_other seen x v (Function functions r f n s a b c d) e = no r (ap kind_seen (sym s) ∙ e)
    where
      no : (r : Bool) → kind_seen (Some (element.Func functions r)) ≡ kind.Other → ⊥
      no true q = absurd (cc)
      no false q = absurd (cc)
  no_other seen x v (Missing m a b) e = absurd (let q : may_be_missing kind.Other ≡ true = ap may_be_missing (sym e) ∙ m in cc)

  pub holds_free : (seen : Option Element) (x : Value) (v : Meant) → Holds layout known g seen x v → is_conflict seen ≡ false
  holds_free None x v held = refl
  holds_free (Some e) x v held = by (of_conflict e) refl
    where
      by : (b : Bool) → of_conflict e ≡ b → b ≡ false
      by true q = absurd (no_other (Some e) x v held (conflict_kind e q))
      by false q = refl

simple_typed : (layout : Layout) (seen : Option Element) → is_simple (kind_seen seen) ≡ true → type_seen layout seen ≢ type.Void
simple_typed layout seen h q = by (kind_seen seen) refl h
  where
    by : (k : Kind) → kind_seen seen ≡ k → is_simple k ≡ true → ⊥
    by kind.Nothing e h = absurd (let t : type.Bool ≡ type.Void = sym (place_of_none layout seen e) ∙ q in cc)
    by kind.Word e h = absurd (let t : type.Signed ≡ type.Void = sym (place_of_words layout seen e) ∙ q in cc)
    by kind.Flag e h = absurd (let t : type.Bool ≡ type.Void = sym (place_of_flags layout seen e) ∙ q in cc)
    by kind.Byte e h = absurd (let t : type.Char ≡ type.Void = sym (place_of_bytes layout seen e) ∙ q in cc)
    by kind.Text e h = absurd (let t : type.Ptr 0 ≡ type.Void = sym (place_of_strings layout seen e) ∙ q in cc)
    by kind.MaybeText e h = absurd (let t : type.Ptr 0 ≡ type.Void = sym (place_of_texts layout seen e) ∙ q in cc)
    by kind.Tuple e h = absurd (cc)
    by kind.Instance e h = absurd (cc)
    by kind.MaybeInstance e h = absurd (cc)
    by kind.Function e h = absurd (cc)
    by kind.MaybeFunction e h = absurd (cc)
    by kind.List e h = absurd (cc)
    by kind.MaybeList e h = absurd (cc)
    by kind.Dict e h = absurd (cc)
    by kind.MaybeDict e h = absurd (cc)
    by kind.Never e h = absurd (cc)
    by kind.Other e h = absurd (cc)

laid_typed : (layout : Layout) (same : List ℕ) (e : Element) → IsLaid layout same e → kind_of e ≢ kind.Never → type_of layout e ≢ type.Void
laid_typed layout same e (Nowhere k) here q = here k
laid_typed layout same e (Simple h) here q = simple_typed layout (Some e) h q
laid_typed layout same e (ListLaid n site r l t) here q = absurd (let k : type.Ptr n ≡ type.Void = sym t ∙ q in cc)
laid_typed layout same e (DictLaid n site r l t) here q = absurd (let k : type.Ptr n ≡ type.Void = sym t ∙ q in cc)
laid_typed layout same e (Instanced class r l is) here q = absurd (let k : root_of (Some l) ≡ type.Void = ap root_of (sym is) ∙ sym (instance_type layout class r) ∙ q in cc)
laid_typed layout same e (Called functions r) here q = absurd (let k : type.Fn ≡ type.Void = sym (function_type layout functions r) ∙ q in cc)
laid_typed layout same e (TupleLaid n parts is all) here q = absurd (let k : type.Ptr n ≡ type.Void = sym is.typed ∙ q in cc)

-- what has a type is a variable of the graph
under_of : (layout : Layout) (elements : List Element) (v : ℕ) → type_seen layout (slice_get elements v) ≢ type.Void → v < length (types_of layout elements)
under_of layout [] v h = absurd (h refl)
under_of layout (e ∷ elements) zero h = omega arith
under_of layout (e ∷ elements) (suc v) h = let r = under_of layout elements v h in omega (arith, r)

under : (layout : Layout) (o : Option (List Element)) (v : ℕ) → type_seen layout (element_in o v) ≢ type.Void → v < length (types_of layout (elements_in o))
under layout None v h = absurd (h refl)
under layout (Some elements) v h = under_of layout elements v h

pub variables_have_types : VariablesHaveTypes
variables_have_types l same known graphs p arguments laid = record {
  typed = λ g v x value holds. at v (element_at l.known.annotation l.number v) refl (holds_free l.world.around.layout known g (element_at l.known.annotation l.number v) x value holds) (is_there l.world.around.layout known g (element_at l.known.annotation l.number v) x value holds);
  under = λ v h. under l.world.around.layout (slice_get l.known.annotation.vars l.number) v h;
}
  where
    at : (v : ℕ) (o : Option Element) → element_at l.known.annotation l.number v ≡ o → is_conflict o ≡ false → kind_seen o ≢ kind.Never → type_seen l.world.around.layout o ≢ type.Void
    at v None e free here = absurd (here refl)
    at v (Some e) is free here = laid_typed l.world.around.layout same e (laid v e is free) here

-- ---- numbers

reached_so : (o : Option Bool) → unwrap_or o false ≡ true → o ≡ Some true
reached_so None h = absurd (cc)
reached_so (Some b) h = ap (λ b. Some b) h

known_if : (o : Option Bool) (n : Option ℕ) (number : ℕ) → graph_if o n ≡ Some number → (o ≡ Some true) × (n ≡ Some number)
known_if None n number h = absurd (cc)
known_if (Some true) n number h = (refl, h)
known_if (Some false) n number h = absurd (cc)

-- as many numbers as graphs
numbered : (a : Annotation) (n : ℕ) (graphs : List Graph) (f number : ℕ) → slice_get (numbers_from a n graphs) f ≡ Some number → (graph : Graph) × (slice_get graphs f ≡ Some graph)
numbered a n [] f number h = absurd (cc)
numbered a n (graph ∷ graphs) zero number h = (graph, refl)
numbered a n (graph ∷ graphs) (suc f) number h = numbered a (next_number a n graph) graphs f number h

pub graphs_are_known : GraphsAreKnown
graphs_are_known known classes p r program meant items keys static site own = record {
  numbers = λ n graph at reached.
      let is : slice_get known.annotation.reached n ≡ Some true = ap (slice_get known.annotation.reached) (sym (own n graph at)) ∙ reached_so (slice_get known.annotation.reached graph.function) reached in
      ap (λ o. graph_if o (slice_get (world_in known classes (layout_for known classes) p r).around.numbers n)) is;
  only = λ f number h.
      let both = known_if (slice_get known.annotation.reached f) (slice_get (world_in known classes (layout_for known classes) p r).around.numbers f) number h in
      let graph = numbered known.annotation (length (helpers (layout_for known classes).structs r.needs).graphs) known.graphs f number both.1 in
      (graph.0, (graph.1, ap (λ n. unwrap_or (slice_get known.annotation.reached n) false) (own f graph.0 graph.1) ∙ ap (λ o. unwrap_or o false) both.0));
}
