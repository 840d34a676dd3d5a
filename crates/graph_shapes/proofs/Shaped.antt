-- Good blocks have the shapes that are told.
use Rattle.std.proofs.Common.{◌≡◌, ℕ, zero, suc, ◌+◌, ◌<◌, ◌≤◌, inl, inr, Bool, true, false, List, [], ◌∷◌, ◌++◌, Option, Some, refl, sym, ap, ◌∙◌, subst, arith}
use Rattle.std.specs.Prelude.{◌==◌, ◌||◌, slice_get}
use Rattle.std.proofs.lemmas.Bool.{cases_lt, eq-eqb, ne_eqb}
use Rattle.ll_live.specs.Live.{among}
use Rattle.ll_live.proofs.Appended.{among_append}
use Rattle.flow_graph.specs.declared.graph.Block.{Block as Code}
use Rattle.flow_graph.specs.declared.graph.Graph.{Graph}
use Rattle.flow_graph.specs.declared.graph.Graphs.{Graphs}
use Rattle.flow_meaning.specs.Machine.{block_in}
use Rattle.flow_stands.specs.Places.{range, Jump, Shape, Go, Fork, Does, Plain, GiveBack, GiveUp, shift, link, links, numbered}
use Rattle.flow_reads.proofs.Below.{Below}
use Rattle.block_laws.specs.Links.{AreDistinct, AllAmong}
use Rattle.graph_shapes.specs.Shapes.{AreFrom, Joins, AllJoin, HasShape, BlocksHaveShapes}
use Rattle.graph_shapes.proofs.Parts as parts
use Rattle.graph_shapes.proofs.Functions.{block_good}

or_right : (b c : Bool) → c ≡ true → (b || c) ≡ true
or_right true c e = refl
or_right false c e = e

or_left : (b c : Bool) → b ≡ true → (b || c) ≡ true
or_left b c e = ap (λ d. d || c) e

-- ---- the numbers from one on

is_in : (base a k place : ℕ) → a ≤ place → place < a + k → among (base + place) (shift base (range a k)) ≡ true
is_in base a zero place ge lt = absurd (omega (arith, ge, lt))
is_in base a (suc k) place ge lt = elim (cases_lt a place) [
  | inl less ↦ or_right ((base + a) == (base + place)) (among (base + place) (shift base (range (a + 1) k))) (is_in base (a + 1) k place (omega (arith, less)) (omega (arith, lt)))
  | inr le ↦ or_left ((base + a) == (base + place)) (among (base + place) (shift base (range (a + 1) k))) (eq-eqb (base + a) (base + place) (omega (arith, ge, le)))
]

not_in : (base a k place : ℕ) → (place < a) → among (base + place) (shift base (range a k)) ≡ false
not_in base a zero place lt = refl
not_in base a (suc k) place lt =
    ap (λ c. c || among (base + place) (shift base (range (a + 1) k))) (ne_eqb (base + a) (base + place) (λ e. omega (arith, lt, e))) ∙ not_in base (a + 1) k place (omega (arith, lt))

pub not_behind : (base a k place : ℕ) → a + k ≤ place → among (base + place) (shift base (range a k)) ≡ false
not_behind base a zero place le = refl
not_behind base a (suc k) place le =
    ap (λ c. c || among (base + place) (shift base (range (a + 1) k))) (ne_eqb (base + a) (base + place) (λ e. omega (arith, le, e))) ∙ not_behind base (a + 1) k place (omega (arith, le))

distinct : (base a k : ℕ) → AreDistinct (shift base (range a k))
distinct base a zero = tt
distinct base a (suc k) = (not_in base (a + 1) k a (omega arith), distinct base (a + 1) k)

pub are_from : (base a k : ℕ) → AreFrom (base + a) (shift base (range a k))
are_from base a zero = tt
are_from base a (suc k) = let e : base + (a + 1) ≡ (base + a) + 1 = omega arith in (refl, subst (λ i. AreFrom i (shift base (range (a + 1) k))) e (are_from base (a + 1) k))

-- ---- what has been set

module _ (base m : ℕ) where
  in_inputs : (place : ℕ) → place < m → among (base + place) (shift base (range 0 m)) ≡ true
  in_inputs place lt = is_in base 0 m place (omega arith) (omega (arith, lt))

  in_with : (place : ℕ) → place < m + 1 → among (base + place) (shift base (range 0 m) ++ (base + m) ∷ []) ≡ true
  in_with place lt = among_append (base + place) (shift base (range 0 m)) ((base + m) ∷ []) ∙ elim (cases_lt place m) [
    | inl less ↦ or_left (among (base + place) (shift base (range 0 m))) (among (base + place) ((base + m) ∷ [])) (in_inputs place less)
    | inr le ↦ or_right (among (base + place) (shift base (range 0 m))) (among (base + place) ((base + m) ∷ [])) (or_left ((base + m) == (base + place)) false (eq-eqb (base + m) (base + place) (omega (arith, lt, le))))
  ]

  new : among (base + m) (shift base (range 0 m)) ≡ false
  new = not_behind base 0 m m (omega arith)

all_among : (base u : ℕ) (names : List ℕ) → ((place : ℕ) → place < u → among (base + place) names ≡ true) → (places : List ℕ) → Below u places → AllAmong (shift base places) names
all_among base u names there [] below = tt
all_among base u names there (place ∷ places) below = (there place below.0, all_among base u names there places below.1)

module _ (gs : Graphs) (f : ℕ) (graph : Graph) (is : slice_get gs.graphs f ≡ Some graph) where
  pub joins : (base u : ℕ) (names : List ℕ) → ((place : ℕ) → place < u → among (base + place) names ≡ true) → (jump : Jump) → parts.Way gs f u jump → Joins graph.blocks names (link base jump)
  joins base u names there jump way =
      let t = way.1 in
      record {
        later = λ e. let lt = t.0 in omega (arith, lt, e);
        block = t.1.0;
        is = sym (ap (λ (g : Option Graph). block_in g jump.to) is) ∙ t.1.1;
        counted = parts.shift_count base jump.places ∙ sym t.1.2;
        own = all_among base u names there jump.places way.0;
      }

  all_join : (base u : ℕ) (names : List ℕ) → ((place : ℕ) → place < u → among (base + place) names ≡ true) → (hands : List (ℕ × Jump)) → parts.HandsFit gs f u hands → AllJoin graph.blocks names (links base hands)
  all_join base u names there [] fit = tt
  all_join base u names there (hand ∷ hands) fit = (joins base u names there hand.1 fit.0, all_join base u names there hands fit.1)

  shaped : (base m node : ℕ) (value : Bool) (shape : Shape) → parts.Fits gs f m shape → HasShape graph.blocks (numbered base m node value shape)
  shaped base m node value (Go jump) fits = record {
    base = base + 0;
    inputs = are_from base 0 m;
    apart = distinct base 0 m;
    few = omega arith;
    ops = tt;
    exit = joins base m (shift base (range 0 m)) (in_inputs base m) jump fits;
  }
  shaped base m node value (Fork test so other_way) fits = record {
    base = base + 0;
    inputs = are_from base 0 m;
    apart = distinct base 0 m;
    few = omega arith;
    ops = tt;
    exit = (in_inputs base m test fits.0, joins base m (shift base (range 0 m)) (in_inputs base m) so fits.1, joins base m (shift base (range 0 m)) (in_inputs base m) other_way fits.2);
  }
  shaped base m node value (Does o args covers hands default norm) fits = record {
    base = base + 0;
    inputs = are_from base 0 m;
    apart = distinct base 0 m;
    few = omega arith;
    ops = (all_among base m (shift base (range 0 m)) (in_inputs base m) args fits.0, new base m, tt);
    exit = (
      new base m,
      all_join base (m + 1) (shift base (range 0 m) ++ (base + m) ∷ []) (in_with base m) hands fits.1,
      joins base (m + 1) (shift base (range 0 m) ++ (base + m) ∷ []) (in_with base m) default fits.2.1,
      joins base (m + 1) (shift base (range 0 m) ++ (base + m) ∷ []) (in_with base m) norm fits.3,
    );
  }
  shaped base m node value (Plain o jump) fits = record {
    base = base + 0;
    inputs = are_from base 0 m;
    apart = distinct base 0 m;
    few = omega arith;
    ops = (tt, new base m, tt);
    exit = joins base (m + 1) (shift base (range 0 m) ++ (base + m) ∷ []) (in_with base m) jump fits;
  }
  shaped base m node value GiveBack fits = record {
    base = base + 0;
    inputs = are_from base 0 m;
    apart = distinct base 0 m;
    few = omega arith;
    ops = tt;
    exit = in_inputs base m 0 (omega (arith, fits));
  }
  shaped base m node value GiveUp fits = record {
    base = base + 0;
    inputs = are_from base 0 m;
    apart = distinct base 0 m;
    few = omega arith;
    ops = tt;
    exit = in_inputs base m 0 (omega (arith, fits));
  }

  pub good_shaped : (code : Code) → parts.Good gs f code → HasShape graph.blocks code
  good_shaped code good = subst (λ (c : Code). HasShape graph.blocks c) (sym good.is) (shaped good.base good.count good.node good.value good.shape good.fits)

pub blocks_have_shapes : BlocksHaveShapes
blocks_have_shapes r gs nodes f graph is n b there = good_shaped gs f graph is b (block_good r gs nodes f graph is n b there)
