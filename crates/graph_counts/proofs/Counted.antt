-- The variables of a graph and the parameters of a function have elements.
use Rattle.std.proofs.Common.{◌≡◌, ℕ, ◌+◌, ◌<◌, inl, inr, Bool, List, [], ◌∷◌, length, Some, refl, sym, ap, ◌∙◌, subst, arith}
use Rattle.std.specs.Prelude.{slice_get, option_map}
use Rattle.std.proofs.lemmas.Bool.{cases_lt}
use Rattle.std.proofs.lemmas.List.{length-map}
use Rattle.std.proofs.lemmas.Option.{slice_get-map}
use Rattle.resolved_meaning.specs.Programs.{value_in}
use Rattle.resolved_meaning.specs.Trees as bare
use Rattle.resolved_meaning.specs.Trees.{program_of}
use Rattle.flow_graph.specs.declared.graph.Block.{Block}
use Rattle.flow_graph.specs.declared.graph.Graph.{Graph}
use Rattle.flow_graph.specs.declared.graph.Graphs.{Graphs}
use Rattle.flow_stands.specs.Places.{range, Jump, Shape, Go, Fork, Does, Plain, GiveBack, GiveUp, shift, links, numbered}
use Rattle.flow_space.specs.Trees.{function_of, functions_of}
use Rattle.flow_reads.proofs.Below.{Below, first_below}
use Rattle.ann_element.specs.declared.element.Element.{Element}
use Rattle.ann_needs.specs.View.{callee_of}
use Rattle.ann_layout.specs.Callees.{callees}
use Rattle.ann_layout.specs.Layout.{variable_count, param_count}
use Rattle.ann_filled.proofs.Owning.{input_place, result_place, is_there, below_blocks}
use Rattle.ann_sound.proofs.Callees.{map_inside, callee_of_function}
use Rattle.rtyper_layout.specs.Types.{type_of}
use Rattle.rtyper_program.specs.Graphs.{elements_in, variables}
use Rattle.block_laws.specs.Links.{AllUnder}
use Rattle.graph_shapes.proofs.Parts as parts
use Rattle.graph_shapes.proofs.Functions.{block_good}
use Rattle.graph_counts.specs.Counts.{LinksUnder, StandsUnder, VariablesAreThere, BlocksAreApart, ParametersAreThere}
use Rattle.graph_counts.proofs.Rows.{count_of_row}

-- ---- places and variables

module _ (base u count : ℕ) (under : (place : ℕ) → place < u → base + place < count) where
  all_under : (places : List ℕ) → Below u places → AllUnder count (shift base places)
  all_under [] below = tt
  all_under (place ∷ places) below = (under place below.0, all_under places below.1)

module _ (gs : Graphs) (f : ℕ) where
  links_under : (base u count : ℕ) → ((place : ℕ) → place < u → base + place < count) → (hands : List (ℕ × Jump)) → parts.HandsFit gs f u hands → LinksUnder count (links base hands)
  links_under base u count under [] fit = tt
  links_under base u count under (hand ∷ hands) fit = (all_under base u count under hand.1.places fit.0.0, links_under base u count under hands fit.1)

  module _ (graph : Graph) (b : ℕ) where
    Stands : Block → Type 0
    Stands code = slice_get graph.blocks b ≡ Some code

    input_under : (base m node : ℕ) (value : Bool) (shape : Shape) → slice_get graph.blocks b ≡ Some (numbered base m node value shape) → (place : ℕ) → place < m → base + place < variable_count graph
    input_under base m node value shape is place lt =
        below_blocks (base + place) graph.blocks 0 b (numbered base m node value shape) is (is_there (base + place) _ place (input_place base m node value shape place lt))

    both_under : (base m node : ℕ) (value : Bool) (shape : Shape) → slice_get graph.blocks b ≡ Some (numbered base m node value shape) → base + m < variable_count graph → (place : ℕ) → place < m + 1 → base + place < variable_count graph
    both_under base m node value shape is last place lt = elim (cases_lt place m) [ inl less ↦ input_under base m node value shape is place less | inr le ↦ omega (arith, last, lt, le) ]

    shape_under : (base m node : ℕ) (value : Bool) (shape : Shape) → parts.Fits gs f m shape → slice_get graph.blocks b ≡ Some (numbered base m node value shape) → StandsUnder (variable_count graph) (numbered base m node value shape)
    shape_under base m node value (Go jump) fits is =
        let own = input_under base m node value (Go jump) is in
        record { inputs = all_under base m (variable_count graph) own (range 0 m) (first_below m m (omega arith)); ops = tt; exit = all_under base m (variable_count graph) own jump.places fits.0 }
    shape_under base m node value (Fork test so other_way) fits is =
        let own = input_under base m node value (Fork test so other_way) is in
        record {
          inputs = all_under base m (variable_count graph) own (range 0 m) (first_below m m (omega arith));
          ops = tt;
          exit = (own test fits.0, all_under base m (variable_count graph) own so.places fits.1.0, all_under base m (variable_count graph) own other_way.places fits.2.0);
        }
    shape_under base m node value (Does o args covers hands default norm) fits is =
        let form = Does o args covers hands default norm in
        let own = input_under base m node value form is in
        let last : base + m < variable_count graph = below_blocks (base + m) graph.blocks 0 b (numbered base m node value form) is (is_there (base + m) _ m (result_place base m node value form refl)) in
        let all = both_under base m node value form is last in
        record {
          inputs = all_under base m (variable_count graph) own (range 0 m) (first_below m m (omega arith));
          ops = (last, all_under base m (variable_count graph) own args fits.0, tt);
          exit = (last, links_under base (m + 1) (variable_count graph) all hands fits.1, all_under base (m + 1) (variable_count graph) all default.places fits.2.1.0, all_under base (m + 1) (variable_count graph) all norm.places fits.3.0);
        }
    shape_under base m node value (Plain o jump) fits is =
        let form = Plain o jump in
        let own = input_under base m node value form is in
        let last : base + m < variable_count graph = below_blocks (base + m) graph.blocks 0 b (numbered base m node value form) is (is_there (base + m) _ m (result_place base m node value form refl)) in
        let all = both_under base m node value form is last in
        record {
          inputs = all_under base m (variable_count graph) own (range 0 m) (first_below m m (omega arith));
          ops = (last, tt, tt);
          exit = all_under base (m + 1) (variable_count graph) all jump.places fits.0;
        }
    shape_under base m node value GiveBack fits is =
        let own = input_under base m node value GiveBack is in
        record { inputs = all_under base m (variable_count graph) own (range 0 m) (first_below m m (omega arith)); ops = tt; exit = own 0 (omega (arith, fits)) }
    shape_under base m node value GiveUp fits is =
        let own = input_under base m node value GiveUp is in
        record { inputs = all_under base m (variable_count graph) own (range 0 m) (first_below m m (omega arith)); ops = tt; exit = own 0 (omega (arith, fits)) }

    good_under : (code : Block) → parts.Good gs f code → slice_get graph.blocks b ≡ Some code → StandsUnder (variable_count graph) code
    good_under code good is = subst (λ (c : Block). StandsUnder (variable_count graph) c) (sym good.is) (shape_under good.base good.count good.node good.value good.shape good.fits (is ∙ ap Some good.is))

-- ---- annotations

pub variables_are_there : VariablesAreThere
variables_are_there p gs t r known world nodes read f graph is =
    let vars : known.annotation.vars ≡ _ = read.vars in
    let found = count_of_row variable_count gs.graphs _ read.cell f graph is in
    let elements : slice_get known.annotation.vars f ≡ Some found.0 = ap (λ (rows : List (List Element)). slice_get rows f) vars ∙ found.1 in
    let count : length (variables known world f) ≡ variable_count graph = length-map (elements_in (slice_get known.annotation.vars f)) (type_of world.around.layout) ∙ (ap (λ o. length (elements_in o)) elements ∙ found.2) in
    (count, λ n b there. subst (λ (i : ℕ). StandsUnder i b) (sym count) (good_under gs f graph n b (block_good r gs nodes f graph is n b there) there))

pub blocks_are_apart : BlocksAreApart
blocks_are_apart r gs nodes f graph is = nodes.own f graph is

pub parameters_are_there : ParametersAreThere
unfolding program_of
parameters_are_there p gs t r n made read f function params is there =
    let one = map_inside (bare.function_of r.sites) r.functions f function is in
    let tree : slice_get (functions_of r) f ≡ Some (function_of r.sites one.0) = slice_get-map (function_of r.sites) r.functions f ∙ ap (option_map (function_of r.sites)) one.1 in
    let c = callee_of_function p r made gs t f (function_of r.sites one.0) tree in
    let d = map_inside callee_of (callees p) f c.0 c.1 in
    let rows : n.params ≡ _ = read.params in
    let found = count_of_row param_count (callees p) 0 read.cell f d.0 d.1 in
    let same : Some params ≡ Some found.0 = sym there ∙ (ap (λ (rows : List (List Element)). slice_get rows f) rows ∙ found.1) in
    let is_params : params ≡ found.0 = cc in
    let defaults : length function.defaults ≡ length one.0.defaults = ap (λ (g : _). length g.defaults) (sym one.2) ∙ length-map one.0.defaults (option_map (value_in r.sites)) in
    let callee : length d.0.defaults ≡ length one.0.defaults = ap (λ (g : _). length g.defaults) d.2 ∙ (c.2 ∙ length-map one.0.defaults (option_map (value_in r.sites))) in
    defaults ∙ (sym callee ∙ (sym found.2 ∙ ap length (sym is_params)))
