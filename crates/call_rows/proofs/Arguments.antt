-- Arguments go to their parameters.
use Rattle.std.proofs.Common.{◌≡◌, ◌≤◌, ℕ, suc, ◌+◌, true, List, [], ◌∷◌, ◌++◌, length, map, Option, Some, None, refl, sym, ap, ◌∙◌, subst, arith}
use Rattle.std.specs.Prelude.{slice_get}
use Rattle.ann_element.specs.declared.element.Element.{Element}
use Rattle.ann_lattice.specs.Assign.{at}
use Rattle.ann_lattice.specs.Order.{Below}
use Rattle.ann_lattice.specs.Shape.{Shape, shape}
use Rattle.ann_rules.specs.Asks.{arguments, defaults, reach}
use Rattle.call_conversion_laws.specs.Calls.{Takes}
use Rattle.call_conversion_laws.specs.Defaults.{AllDefault}
use Rattle.call_rows.specs.Calls as calls
use Rattle.conversion_laws.specs.Going.{Goes}
use Rattle.conversion_laws.specs.Ordered.{AllLaid, IsLaid, Next}
use Rattle.flow_graph.specs.declared.graph.Graph.{Graph}
use Rattle.laid_laws.specs.Laid.{Param, Result}
use Rattle.passing_laws.specs.Passing.{AllPass}
use Rattle.rpy_tree.specs.declared.program.Const.{Const}
use Rattle.rtyper_program.specs.Seen.{element_at, is_reached, operand_of, place_of}
use Rattle.sound_rows.specs.Sound.{AllMet}
use Rattle.typed_rows.specs.Programs.{Typed, IsTyped, layout, same, world}
use Rattle.typed_rows.specs.Rows.{AreElements, lowered_in}
use Rattle.typed_rows.proofs.Going.{elements_pass}
use Rattle.class_rows.proofs.Common.{below_so}

-- ---- parameters

module _ (t : Typed) (typed : IsTyped t) (f : ℕ) where
  -- the parameters from a number on are of what the rules say, and have their structs
  abbrev pub ParamsAre : ℕ → List Element → Type 0
  ParamsAre i [] = Unit {0}
  ParamsAre i (e ∷ es) = ((at t.assigned (t.whole.places.param f i) ≡ shape e) × IsLaid (layout t) (same t) e) × ParamsAre (suc i) es

  params_from : (whole : List Element) → slice_get t.known.annotation.params f ≡ Some whole → (i : ℕ) (es : List Element) → ((j : ℕ) (e : Element) → slice_get es j ≡ Some e → slice_get whole (i + j) ≡ Some e) → ParamsAre i es
  params_from whole row i [] there = tt
  params_from whole row i (e ∷ es) there =
      let here : slice_get whole i ≡ Some e = subst (λ m. slice_get whole m ≡ Some e) (let q : i + 0 ≡ i = omega arith in q) (there 0 e refl) in (
        (typed.sees.params f i whole e row here, typed.parts.laid e (Param (f, (whole, (row, (i, here))))) (typed.parts.free_params f i whole e row here)),
        params_from whole row (suc i) es (λ j d q. subst (λ m. slice_get whole m ≡ Some d) (let k : i + suc j ≡ suc i + j = omega arith in k) (there (suc j) d q)),
      )

  pub params_are : (es : List Element) → slice_get t.known.annotation.params f ≡ Some es → ParamsAre 0 es
  params_are es row = params_from es row 0 es (λ j e q. subst (λ m. slice_get es m ≡ Some e) (let k : j ≡ 0 + j = omega arith in k) q)

  -- the parameters of the arguments, and those behind them
  pub record Split (n : ℕ) (graph : Graph) (vs : List ℕ) (es : List Element) : Type 0 where
    pub here : List Element
    pub missing : List Element
    pub are : here ++ missing ≡ es
    pub long : length here ≡ length vs
    pub pass : AllPass (layout t) t.seen (map (operand_of (lowered_in t n graph)) vs) here

  -- what is asked of a parameter by its argument
  argument_met : (i : ℕ) (d : Option Const) (ds : List (Option Const)) (x : Shape) (xs : List Shape) → AllMet t.whole.tables.classes t.assigned (arguments t.whole f i (d ∷ ds) (x ∷ xs))
      → Below t.whole.tables.classes t.assigned.same x (at t.assigned (t.whole.places.param f i)) × AllMet t.whole.tables.classes t.assigned (arguments t.whole f (suc i) ds xs)
  argument_met i (Some c) ds x xs met = (met.0.0, met.1)
  argument_met i None ds x xs met = (met.0.0, met.1)

  pub arguments_pass : (n : ℕ) (graph : Graph) (i : ℕ) (ds : List (Option Const)) (vs : List ℕ) (cs es : List Element) → AreElements t n vs cs → AllLaid (layout t) (same t) cs → AllMet t.whole.tables.classes t.assigned (arguments t.whole f i ds (map shape cs))
      → length es ≡ length ds → length vs ≤ length ds → ParamsAre i es → Split n graph vs es
  arguments_pass n graph i ds [] cs es are laid met long few params = record { here = []; missing = es; are = refl; long = refl; pass = tt }
  arguments_pass n graph i ds (v ∷ vs) [] es are laid met long few params = absurd are
  arguments_pass n graph i [] (v ∷ vs) (c ∷ cs) es are laid met long few params = absurd (omega (arith, few))
  arguments_pass n graph i (d ∷ ds) (v ∷ vs) (c ∷ cs) [] are laid met long few params = absurd (omega (arith, long))
  arguments_pass n graph i (d ∷ ds) (v ∷ vs) (c ∷ cs) (e ∷ es) are (Next one others) met long few params =
      let m = argument_met i d ds (shape c) (map shape cs) met in
      let r = arguments_pass n graph (suc i) ds vs cs es are.1 others m.1 (omega (arith, long)) (omega (arith, few)) params.1 in
      let under : Below t.classes.classes (same t) (shape c) (shape e) = subst (Below t.classes.classes (same t) (shape c)) params.0.0 (below_so t typed (shape c) (at t.assigned (t.whole.places.param f i)) m.0) in
      record {
        here = e ∷ r.here;
        missing = r.missing;
        are = ap (λ es. e ∷ es) r.are;
        long = ap suc r.long;
        pass = (subst (λ s. Goes (layout t) t.seen s (Some e)) (sym are.0) (elements_pass t typed c e one params.0.1 under), r.pass);
      }

-- ---- what is called

pub map_long : {A B : Type 0} (g : A → B) (xs : List A) → length (map g xs) ≡ length xs
map_long g [] = refl
map_long g (x ∷ xs) = ap suc (map_long g xs)

-- the arguments, the further parameters and the result go to their places, where the function is reached with these arguments
pub takes_so : (t : Typed) (typed : IsTyped t) (f n : ℕ) (graph : Graph) (vs : List ℕ) (cs : List Element) → AreElements t n vs cs → AllLaid (layout t) (same t) cs → calls.Takes t f (length vs) → AllMet t.whole.tables.classes t.assigned (reach t.whole f (map shape cs))
    → (v : ℕ) (e : Element) → element_at t.known.annotation n v ≡ Some e → IsLaid (layout t) (same t) e → Below t.whole.tables.classes t.assigned.same (at t.assigned (t.whole.places.result f)) (shape e)
    → Takes (world t) t.seen f (map (operand_of (lowered_in t n graph)) vs) (place_of (lowered_in t n graph) v)
takes_so t typed f n graph vs cs are laid told met v e at_v laid_e under =
    let reached : is_reached t.known.annotation f ≡ true = sym (typed.sees.reached f) ∙ met.0 in
    let params = typed.parts.params f reached in
    let result = typed.parts.results f reached in
    let split = arguments_pass t typed f n graph 0 (defaults t.whole f) vs cs params.0 are laid met.1 params.1.1 told.few (params_are t typed f params.0 params.1.0) in
    let row_is : slice_get t.known.annotation.params f ≡ Some (split.here ++ split.missing) = params.1.0 ∙ ap Some (sym split.are) in
    record {
      graph = typed.functions.graphs f reached;
      here = split.here;
      missing = split.missing;
      takes = row_is;
      pass = split.pass;
      default = subst (λ k. AllDefault (world t).around t.seen (slice_get (world t).around.functions f) k split.missing) (sym (map_long (operand_of (lowered_in t n graph)) vs)) (told.default split.here split.missing row_is split.long);
      defaults = typed.functions.defaults f (split.here ++ split.missing) reached row_is;
      result = result.0;
      gives = result.1;
      goes = subst (Goes (layout t) t.seen (Some result.0)) (sym at_v) (elements_pass t typed result.0 e (typed.parts.laid result.0 (Result (f, result.1)) (typed.parts.free_results f result.0 result.1)) laid_e
          (subst (λ x. Below t.classes.classes (same t) x (shape e)) (typed.sees.results f result.0 result.1) (below_so t typed (at t.assigned (t.whole.places.result f)) (shape e) under)));
    }
