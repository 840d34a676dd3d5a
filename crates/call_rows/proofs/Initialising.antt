-- New instances whose `__init__` is called.
use Rattle.std.proofs.Common.{◌≡◌, ◌≤◌, ◌==◌, ◌||◌, ℕ, ◌+◌, Bool, true, false, List, [], ◌∷◌, ◌++◌, length, map, Some, refl, sym, ap, ◌∙◌, subst, arith, codes}
use Rattle.std.proofs.lemmas.Bool.Decides.{nat_tests}
use Rattle.std.specs.Prelude.{is_some, slice_get, unwrap_or}
use Rattle.ann_element.specs.declared.element.Element.{Element}
use Rattle.ann_element.specs.declared.element.Element.TheVariants as element
use Rattle.ann_lattice.specs.Shape.{Shape, Inst, shape}
use Rattle.ann_rules.specs.Asks.{defaults, from_each, initial_needs, reach, start_with}
use Rattle.class_desc.specs.Line as line
use Rattle.class_desc.specs.Tables.{Tables, initial}
use Rattle.conversion_laws.specs.Ordered.{Next}
use Rattle.flow_graph.specs.declared.graph.Graph.{Graph}
use Rattle.flow_graph.specs.declared.graph.Op.{Op}
use Rattle.ll_code.specs.declared.program.LlType.TheVariants as type
use Rattle.ll_live.specs.Live.{among}
use Rattle.rpy_meaning.specs.Classes.{is_below as is_below_meant}
use Rattle.rpy_meaning.specs.declared.row.RowOp.TheVariants as row
use Rattle.rpy_meaning.specs.Operations.{op as meant_op}
use Rattle.rtyper_data.specs.Seen.{Operand, Place, Writing, type_at}
use Rattle.rtyper_data.specs.declared.small.Small.TheVariants as small
use Rattle.rtyper_layout.specs.Types.{root_of, type_seen}
use Rattle.rtyper_program.specs.Blocks.{op_of}
use Rattle.rtyper_program.specs.Graphs.{variables}
use Rattle.rtyper_program.specs.Seen.{Lowered, is_reached, operand_of, place_of}
use Rattle.lower_laws.specs.Asked.{Make}
use Rattle.object_laws.proofs.Valued.{instance_type}
use Rattle.call_laws.specs.Calls.{AreOthers}
use Rattle.call_conversion_laws.specs.Defaults.{AllDefault}
use Rattle.call_conversion_laws.specs.Initialised.{Initialises, with_self}
use Rattle.call_conversion_laws.proofs.Initialised.{instances_are_initialised as initialised_of}
use Rattle.growth_laws.specs.Growing.{Grows}
use Rattle.passing_laws.specs.Passing.{items_of, pass_asks, tuples_of}
use Rattle.rtyped_runs.specs.Laws.{ThrowsObjects, args_of, before}
use Rattle.rtyped_runs.specs.Parts.{OpIsWritten}
use Rattle.sound_rows.proofs.Classes.{same_method}
use Rattle.sound_rows.proofs.Containers.{met_append}
use Rattle.sound_rows.specs.Sound.{AllMet, Fits}
use Rattle.typed_rows.specs.Programs.{Typed, IsTyped, first, last, layout, setting, world}
use Rattle.typed_rows.specs.Rows.{IsOp, lowered_in}
use Rattle.class_rows.proofs.Common.{all_come}
use Rattle.ann_lattice.specs.Order.{Below, Sub}
use Rattle.ann_lattice.specs.Row.{takes_arguments}
use Rattle.class_rows.proofs.Fitting.{given_so, plain}
use Rattle.class_rows.proofs.Making.{AboveInstance, above_instance, new_throws}
use Rattle.class_rows.proofs.Shapes.{instance_shape}
use Rattle.call_rows.specs.Calls.{InstancesAreInitialised, IsInitialised}
use Rattle.call_rows.proofs.Arguments.{Split, arguments_pass, map_long, params_are}
use Rattle.call_rows.proofs.Written.{called_so, passing_always}

abbrev class_in : Shape → ℕ
class_in (Inst c r) = c
class_in other = 0

-- no operand is the result
others_so : (t : Typed) (n : ℕ) (graph : Graph) (v : ℕ) (vs : List ℕ) → among v vs ≡ false → AreOthers (place_of (lowered_in t n graph) v) (map (operand_of (lowered_in t n graph)) vs)
others_so t n graph v [] h = tt
others_so t n graph v (u ∷ vs) h = (λ e. apart (u == v) refl e h, others_so t n graph v vs (behind (u == v) (among v vs) h))
  where
    behind : (a b : Bool) → (a || b) ≡ false → b ≡ false
    behind false b e = e
    behind true b e = absurd (cc)

    apart : (c : Bool) → (u == v) ≡ c → u ≡ v → (c || among v vs) ≡ false → ⊥
    apart true q e k = absurd (cc)
    apart false q e k = (let itself : (u == v) ≡ true = grind (arith, nat_tests, e) in let no : false ≡ true = sym q ∙ itself in cc)

module _ (class : ℕ) (t : Typed) (typed : IsTyped t) (n : ℕ) (graph : Graph) (o : Op) (row_is : o.op ≡ row.New class) (is : IsOp t n o) (told : IsInitialised class t n o) (w : Writing) (early : Grows (first t) w.found) (late : Grows (op_of (lowered_in t n graph) o w).found (last t)) (enough : length (variables t.known (world t) n) ≤ length w.body.types) where
  abbrev l : Lowered
  l = lowered_in t n graph

  abbrev place : Place
  place = place_of l o.result

  abbrev args : List Operand
  args = args_of l o

  abbrev f : ℕ
  f = told.init

  abbrev xs : List Shape
  xs = map shape is.elements

  fits : Fits t.whole t.assigned n (row.New class) o.node xs (shape is.result)
  fits = subst (λ r. Fits t.whole t.assigned n r o.node xs (shape is.result)) row_is is.fits

  -- the result is the new instance
  result_at : is.result ≡ element.Instance class false
  result_at = (let q : Some is.result ≡ Some (element.Instance class false) = sym is.result_is ∙ told.result in cc)

  self_shape : shape is.result ≡ Inst class false
  self_shape = ap shape result_at ∙ instance_shape class false

  init_is : line.init t.whole.tables.classes class ≡ Some f
  init_is = ap (λ (tables : Tables). line.init tables.classes class) typed.sees.classes_are ∙ told.has

  met : AllMet t.whole.tables.classes t.assigned (reach t.whole f (map shape (is.result ∷ is.elements)))
  met = subst (λ x. AllMet t.whole.tables.classes t.assigned (reach t.whole f (x ∷ xs))) (sym self_shape)
      (subst (λ i. AllMet t.whole.tables.classes t.assigned (start_with t.whole class i xs)) init_is
      (met_append t.whole.tables.classes t.assigned (from_each (initial_needs t.whole) (initial t.whole.tables class)) (start_with t.whole class (line.init t.whole.tables.classes class) xs) fits.met.1).1)

  reached : is_reached t.known.annotation f ≡ true
  reached = sym (typed.sees.reached f) ∙ met.0

  params : (es : List Element) × ((slice_get t.known.annotation.params f ≡ Some es) × (length es ≡ length (defaults t.whole f)))
  params = typed.parts.params f reached

  split : Split t typed f n graph (o.result ∷ o.args) params.0
  split = arguments_pass t typed f n graph 0 (defaults t.whole f) (o.result ∷ o.args) (is.result ∷ is.elements) params.0 (is.result_is, is.are) (Next is.result_laid is.laid) met.1 params.1.1 told.takes.few (params_are t typed f params.0 params.1.0)

  row_of : slice_get t.known.annotation.params f ≡ Some (split.here ++ split.missing)
  row_of = params.1.0 ∙ ap Some (sym split.are)

  result : (e : Element) × (slice_get t.known.annotation.results f ≡ Some e)
  result = typed.parts.results f reached

  it : Initialises (world t) t.seen class f args place
  it = record {
    has = told.has;
    meant = same_method t.whole t.seen.program typed.classes.sees class (codes "__init__") ∙ init_is;
    graph = typed.functions.graphs f reached;
    here = split.here;
    missing = split.missing;
    takes = row_of;
    pass = split.pass;
    default = subst (λ k. AllDefault (world t).around t.seen (slice_get (world t).around.functions f) k split.missing) (sym (map_long (operand_of l) (o.result ∷ o.args))) (told.takes.default split.here split.missing row_of split.long);
    defaults = typed.functions.defaults f (split.here ++ split.missing) reached row_of;
    result = result.0;
    gives = result.1;
    some = told.some result.0 result.1;
  }

  below : is_below_meant t.seen.program.classes class class ≡ true
  below = typed.classes.is_of.below class class ∙ subst (λ (tables : Tables). Sub tables.classes class class) typed.sees.classes_are (subst (Sub t.whole.tables.classes class) (ap class_in (sym above.is ∙ self_shape)) above.below)
    where
      under : Below t.whole.tables.classes t.assigned.same (Inst class false) (shape is.result)
      under = (given_so t.whole t.assigned n o.node (row.New class) xs (shape is.result) fits (is_some (line.init t.whole.tables.classes class) || takes_arguments t.whole.tables.classes class xs) (Inst class false) (plain t.whole t.assigned n o.node (row.New class) xs (shape is.result) fits is.some).0).1

      above : AboveInstance t.whole.tables.classes class (shape is.result)
      above = above_instance t.whole.tables.classes t.assigned.same class false (shape is.result) under is.fits.free

  typed_as : type_at (world t).around place ≡ type.Ptr told.structs.root
  typed_as = ap (type_seen (layout t)) told.result ∙ instance_type (layout t) class false ∙ ap root_of told.laid_as

  made_so : unwrap_or (slice_get t.known.annotation.made class) false ≡ true
  made_so = sym (typed.sees.made class) ∙ fits.met.0

  throws : ThrowsObjects (setting t) l o
  throws g core meant after vs x stands given e = absurd (new_throws t.seen.program o.covered class vs meant after x (ap (λ p. meant_op t.seen.program o.covered p vs meant) (sym row_is) ∙ e))

  written : OpIsWritten (setting t) l o w
  written =
      called_so (row.New class) t typed n graph o row_is is args refl refl w early late enough throws told.takes.stay (1 + tuples_of it.here) (items_of it.here)
      (Make (small.New class) ∷ pass_asks (layout t) (with_self place args) it.here) [] (slice_get (world t).around.functions f) (length (with_self place args)) it.missing
      (tt, passing_always t (with_self place args) it.here) tt
      (initialised_of (world t) t.seen typed.classes.is_of typed.classes.out place args (before o w) class class f false told.structs o.covered typed.small.no_tuple (all_come t n graph o.args is.elements is.are is.some) (let low = is.result_under in omega (arith, low, enough))
      told.more told.laid_as (typed.classes.starts class told.more made_so) told.result below typed_as it (others_so t n graph o.result o.args told.fresh))

pub instances_are_initialised : InstancesAreInitialised
instances_are_initialised class t typed n graph o row_is is told w early late enough = written class t typed n graph o row_is is told w early late enough
