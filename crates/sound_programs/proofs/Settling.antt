-- What the checks of a program settled is as the laws of runs ask.
use Rattle.std.proofs.Common.{◌≡◌, ◌<◌, ◌≤◌, ℕ, zero, suc, ◌+◌, Bool, true, false, List, [], ◌∷◌, length, map, Some, refl, sym, ap, ◌∙◌, subst, ◌⊎◌, inl, inr, arith}
use Rattle.std.specs.Prelude.{slice_get, option_map, ◌||◌}
use Rattle.std.proofs.lemmas.List.{length-replicate, get_or_past}
use Rattle.std.proofs.lemmas.Option.{slice_get-map}
use Rattle.rpy_tree.specs.declared.program.Program.{Program}
use Rattle.rpy_meaning.specs.Tree as meaning
use Rattle.rpy_resolved.specs.declared.tree.Function as code
use Rattle.rpy_resolved.specs.declared.tree.Resolved.{Resolved}
use Rattle.resolved_meaning.specs.Programs.{sites_of}
use Rattle.resolved_meaning.specs.Trees.{program_of, function_of}
use Rattle.resolved_laws.specs.Meant.{meant_by}
use Rattle.resolved_laws.specs.Uncopied.{uncopied, uncopied_function}
use Rattle.flow_graph.specs.declared.graph.Block.{Block}
use Rattle.flow_graph.specs.declared.graph.Graph.{Graph}
use Rattle.flow_graph.specs.declared.graph.Graphs.{Graphs}
use Rattle.flow_space.specs.Trees as trees
use Rattle.class_desc.specs.Tables.{tables}
use Rattle.ann_element.specs.declared.annotation.Annotation.{Annotation}
use Rattle.ann_lattice.specs.Assign.{Assignment, at, mark}
use Rattle.ann_lattice.specs.Kind.{is_int, is_nothing}
use Rattle.ann_lattice.specs.Shape.{Shape, Nothing, NoneOnly, Truth, Num, Str, Tup, Lst, Dct, Inst, Fun, Clash}
use Rattle.ann_rules.specs.Program.{Callee}
use Rattle.ann_needs.specs.View.{nowhere, place, assignment}
use Rattle.ann_layout.specs.Callees.{callees}
use Rattle.ann_layout.specs.Layout.{plan, planned, numbers}
use Rattle.ann_places.specs.Spots.{spots, start as begin_at}
use Rattle.ann_places.proofs.Spotting.{is_placed}
use Rattle.ann_sound.proofs.Callees.{callee_of_function}
use Rattle.rtyper_core.specs.Typing.{node_of}
use Rattle.rtyper_core.specs.declared.fault.FaultKind.TheVariants as kind
use Rattle.typing_laws.specs.Faults.{is_integer}
use Rattle.check_laws.specs.Trees.{HasTrees, ShowsNoFault}
use Rattle.rpy_checked.specs.Settles.{HasTypes}
use Rattle.graph_shapes.proofs.Beginning.{graphs_are_own, functions_begin}
use Rattle.graph_shapes.proofs.Shaped.{blocks_have_shapes}
use Rattle.sound_runs.specs.Graphs.{IsFunction, IsSettled, RestFits}
use Rattle.sound_runs.specs.Start.{Begins}
use Rattle.sound_runs.proofs.Meeting.{closed_is_met}
use Rattle.sound_runs.proofs.Starting.{programs_are_never_wrong}
use Rattle.sound_programs.specs.Whole.{whole_of, ReadsAreBound, IsWhole}
use Rattle.sound_programs.specs.Never.{TypesAreSettled, ProgramsWithTypesAreNeverWrong}
use Rattle.sound_programs.proofs.Counting.{functions_many}
use Rattle.sound_programs.proofs.Fitting.{AreFree, graph_free, rest_fits}
use Rattle.sound_programs.proofs.Seeing.{classes_seen, sites_seen}

-- ---- lists

there_within : {A : Type 0} (xs : List A) (n : ℕ) → n < length xs → (x : A) × (slice_get xs n ≡ Some x)
there_within [] n lt = absurd (omega (arith, lt))
there_within (x ∷ xs) zero lt = (x, refl)
there_within (x ∷ xs) (suc n) lt = there_within xs n (omega (arith, lt))

length_numbers : (n count : ℕ) → length (numbers n count) ≡ count
length_numbers n zero = refl
length_numbers n (suc count) = ap suc (length_numbers (suc n) count)

place_past : (row : List ℕ) (f : ℕ) → length row ≤ f → place row f ≡ nowhere
place_past [] f le = refl
place_past (x ∷ row) zero le = absurd (omega (arith, le))
place_past (x ∷ row) (suc f) le = place_past row f (omega (arith, le))

-- ---- results

int_or_none : (x : Shape) → is_integer x ≡ true → (is_int x || is_nothing x) ≡ true
int_or_none Nothing h = refl
int_or_none (Num b) h = refl
int_or_none NoneOnly h = absurd cc
int_or_none (Truth b) h = absurd cc
int_or_none (Str w) h = absurd cc
int_or_none (Tup xs) h = absurd cc
int_or_none (Lst s n) h = absurd cc
int_or_none (Dct s n) h = absurd cc
int_or_none (Inst c n) h = absurd cc
int_or_none (Fun fs n) h = absurd cc
int_or_none (Clash o q) h = absurd cc

on_or_off : (b : Bool) → (b ≡ false → ⊥) → b ≡ true
on_or_off true h = refl
on_or_off false h = absurd (h refl)

from_none : (g : ℕ) → 0 + g ≡ g
from_none g = omega arith

less_or_not : (f n : ℕ) → (f < n) ⊎ (n ≤ f)
less_or_not f n = grind arith

module _ (p : Program) (gs : Graphs) (n : Annotation) (types : HasTypes p gs n) (w : IsWhole p gs (assignment types.state)) where
  abbrev a : Assignment
  a = assignment types.state

  abbrev r : Resolved
  r = types.stand.resolved

  meant : uncopied (program_of r) ≡ meant_by p
  meant = types.stand.meant w.flat w.functions

  sites_are : (meant_by p).sites ≡ sites_of p.sites
  unfolding program_of
  sites_are = ap (λ (q : meaning.Program). q.sites) (sym meant) ∙ ap sites_of types.stand.made.sites

  -- ---- functions

  marks_few : length a.marks ≤ nowhere
  marks_few = let m : length a.marks ≡ (planned p gs (tables p)).marks = (types.settled.fits w.tree w.site).marks ∙ length_marks in let s = types.small.marks in omega (arith, m, s)
    where
      length_marks : length (begin_at (planned p gs (tables p))).marks ≡ (planned p gs (tables p)).marks
      length_marks = length-replicate (planned p gs (tables p)).marks false

  unmarked : (m : ℕ) → m ≡ nowhere → mark a m ≡ true → ⊥
  unmarked m e h = let le = marks_few in let off : mark a m ≡ false = get_or_past a.marks m false (omega (arith, e, le)) in (let x : false ≡ true = sym off ∙ h in cc)

  reached_within : (f : ℕ) → mark a ((whole_of p gs).places.reached f) ≡ true → f < length (callees p)
  reached_within f h = by (less_or_not f (length (callees p)))
    where
      by : (f < length (callees p)) ⊎ (length (callees p) ≤ f) → f < length (callees p)
      by (inl lt) = lt
      by (inr le) = absurd (unmarked ((whole_of p gs).places.reached f) (place_past (numbers 0 (length (callees p))) f (omega (arith, le, length_numbers 0 (length (callees p))))) h)

  function_seen : (f : ℕ) (function : code.Function) → slice_get r.functions f ≡ Some function → slice_get (meant_by p).functions f ≡ Some (uncopied_function (function_of r.sites function))
  unfolding program_of
  function_seen f function is =
      ap (λ (q : meaning.Program). slice_get q.functions f) (sym meant) ∙ slice_get-map uncopied_function (map (function_of r.sites) r.functions) f
      ∙ ap (option_map uncopied_function) (slice_get-map (function_of r.sites) r.functions f ∙ ap (option_map (function_of r.sites)) is)

  function_there : (f : ℕ) → mark a ((whole_of p gs).places.reached f) ≡ true → IsFunction (whole_of p gs) a (meant_by p) f
  function_there f h = record {
    callee = c.0;
    there = c.1;
    function = uncopied_function (function_of r.sites found.0);
    seen = seen;
    star = sym c.3;
    defaults = w.meant f c.0 (uncopied_function (function_of r.sites found.0)) c.1 seen;
    graph = own.0;
    own = own.1;
    number = graphs_are_own gs types.covers.0 f own.0 own.1;
    first = first.0;
    begins = first.1;
  }
    where
      within : f < length (callees p)
      within = reached_within f h

      found : (function : code.Function) × (slice_get r.functions f ≡ Some function)
      found = there_within r.functions f (let e = functions_many p r types.stand.made in omega (arith, within, e))

      seen : slice_get (meant_by p).functions f ≡ Some (uncopied_function (function_of r.sites found.0))
      seen = function_seen f found.0 found.1

      tree : slice_get (trees.functions_of r) f ≡ Some (trees.function_of r.sites found.0)
      tree = slice_get-map (trees.function_of r.sites) r.functions f ∙ ap (option_map (trees.function_of r.sites)) found.1

      c : (c : Callee) × (slice_get (whole_of p gs).callees f ≡ Some c) × (length c.defaults ≡ length (trees.function_of r.sites found.0).defaults) × (c.star ≡ (trees.function_of r.sites found.0).takes_more)
      c = callee_of_function p r types.stand.made gs (tables p) f (trees.function_of r.sites found.0) tree

      own : (graph : Graph) × (slice_get gs.graphs f ≡ Some graph)
      own = there_within gs.graphs f (let e = functions_many p r types.stand.made in let k = types.covers.1 in let m = types.stand.count in omega (arith, within, e, k, m))

      first : (b : Block) × (slice_get own.0.blocks 0 ≡ Some b)
      first = let it = functions_begin r gs types.stand.nodes f own.0 own.1 in (it.2.0, it.2.1)

  -- ---- blocks

  blocks_fit : ReadsAreBound (whole_of p gs) a → (g k : ℕ) (graph : Graph) (b : Block) → slice_get gs.graphs g ≡ Some graph → slice_get graph.blocks k ≡ Some b
      → mark a ((whole_of p gs).places.block g k) ≡ true → RestFits (whole_of p gs) a g graph b.inputs b.ops b.exit
  blocks_fit bound g k graph b is there h =
      let shape = blocks_have_shapes r gs types.stand.nodes g graph is k b there in
      let reads = bound g k graph b is there h in
      rest_fits (whole_of p gs) a g graph b.inputs b.ops b.exit shape.few shape.ops shape.exit reads.0 reads.1
      (subst (λ m. AreFree (whole_of p gs) a m b.ops) (from_none g) (graph_free (whole_of p gs) a (spots (plan p gs (tables p))) _ types.settled.closed.free 0 gs.graphs (is_placed p gs (tables p)).results g graph is k b there))

  -- ---- the whole

  settled : ShowsNoFault p gs types.state → ReadsAreBound (whole_of p gs) a → IsSettled (whole_of p gs) a (meant_by p) gs
  settled faultless bound = record {
    sees = record {
      tree = w.tree;
      count = w.classes;
      classes = classes_seen p sites_are w.classes;
      exceptions = w.exceptions;
      plain = w.plain;
      constants = w.constants;
      defaults = w.defaults_there;
    };
    graphs = refl;
    entry = refl;
    result = int_or_none (at a ((whole_of p gs).places.result p.entry)) (on_or_off (is_integer (at a ((whole_of p gs).places.result p.entry))) (λ off. faultless (node_of p.functions p.entry) kind.EntryResult (refl, off)));
    met = closed_is_met (whole_of p gs) a types.settled.closed.closed w.there;
    functions = function_there;
    blocks = blocks_fit bound;
  }

  begins : Begins (whole_of p gs) (meant_by p)
  begins = record { sites = sites_seen p sites_are w.contents; keys = w.keys; takes = w.takes }

module _ (faultless : (p : Program) (gs : Graphs) (n : Annotation) (types : HasTypes p gs n) → HasTrees p gs → ShowsNoFault p gs types.state) where
  no_fault : (p : Program) (gs : Graphs) (n : Annotation) (types : HasTypes p gs n) → IsWhole p gs (assignment types.state) → ShowsNoFault p gs types.state
  no_fault p gs n types w = faultless p gs n types (record { classes = w.tree; sites = w.site; nodes = w.nodes; cells = types.small.cells; marks = types.small.marks })

  pub types_are_settled : TypesAreSettled
  types_are_settled p gs n types w bound = (settled p gs n types w (no_fault p gs n types w) bound, begins p gs n types w)

  pub never_wrong : ProgramsWithTypesAreNeverWrong
  never_wrong p gs n types w bound args steps k told =
      programs_are_never_wrong (whole_of p gs) (assignment types.state) (meant_by p) gs (settled p gs n types w (no_fault p gs n types w) bound) (begins p gs n types w) args steps k told
