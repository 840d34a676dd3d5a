-- Blocks that catch nothing are done.
use Rattle.std.proofs.Common.{◌≡◌, ◌≤◌, ◌<◌, ◌⊎◌, inl, inr, ℕ, Bool, true, false, List, [], ◌∷◌, ◌++◌, length, map, Option, Some, None, refl, sym, ap, ◌∙◌, subst, arith}
use Rattle.std.specs.Prelude.{slice_get, ◌||◌, if◌then◌else◌}
use Rattle.ann_element.specs.declared.element.Element.{Element}
use Rattle.ann_lattice.specs.Join.{is_clash}
use Rattle.ann_lattice.specs.Kind.{is_nothing, some_nothing}
use Rattle.ann_lattice.specs.Shape.{Shape, shape}
use Rattle.ann_rules.specs.Rules.{value}
use Rattle.csub_tree.specs.State.{Core}
use Rattle.flow_graph.specs.declared.graph.Block.{Block}
use Rattle.flow_graph.specs.declared.graph.Graph.{Graph}
use Rattle.flow_graph.specs.declared.graph.Op.{Op}
use Rattle.rpy_tree.specs.Value.{Value as Meant}
use Rattle.graph_counts.specs.Counts.{OpsUnder, StandsUnder}
use Rattle.graph_parts.specs.Done as parts
use Rattle.graph_parts.proofs.Done.{operations_are_done}
use Rattle.rtyper_layout.specs.declared.kind.Kind.{Kind}
use Rattle.rtyper_layout.specs.declared.kind.Kind.TheVariants as kind
use Rattle.rtyper_layout.specs.Kinds.{kind_seen}
use Rattle.rtyper_op.specs.Lowering.{is_never, never_comes}
use Rattle.rtyper_data.specs.Seen.{Writing}
use Rattle.rtyper_program.specs.Graphs.{variables}
use Rattle.rtyper_program.specs.Raises.{exit_catches}
use Rattle.rtyper_program.specs.Seen.{Lowered, element_at, is_block_reached, operand_of}
use Rattle.rtyper_program.specs.Blocks.{op_of}
use Rattle.growth_laws.specs.Growing.{Grows}
use Rattle.object_laws.specs.Ghost.{Ghost}
use Rattle.object_laws.specs.Values.{Given}
use Rattle.conversion_laws.proofs.Valued.{never_held}
use Rattle.run_laws.specs.Points.{Setting, is_conflict}
use Rattle.block_laws.specs.Links.{AllUnder}
use Rattle.block_laws.specs.Operations.{AreFree, AreRead, HasNever, operands_of}
use Rattle.reading_laws.proofs.Graphs.{read_so}
use Rattle.rtyped_runs.specs.Parts.{BlockIsDone, OpIsWritten}
use Rattle.typed_rows.specs.Programs.{Typed, IsTyped, first, last, numbers, setting, world}
use Rattle.typed_rows.specs.Rows.{AllFree, AreElements, IsOp, lowered_in}
use Rattle.typed_programs.specs.Operations.{HasNothing}
use Rattle.typed_programs.proofs.Spots.{conflict_seen}
use Rattle.typed_links.specs.Links.{ConversionsStand}
use Rattle.typed_links.specs.Exits.{ExitFits, IsChecked, TestsStand}
use Rattle.typed_links.proofs.Exiting.{element_of, exits_done}
use Rattle.typed_links.proofs.Shaping.{never_there, nothing_free}
use Rattle.typed_blocks.specs.Blocks.{BlocksAreDone, OperationsAreWritten, OperationsHaveTypes}

yes : (b : Bool) → b ≡ true → b ≡ false → ⊥
yes true h k = cc
yes false h k = cc

-- ---- operands

module _ (t : Typed) (typed : IsTyped t) (checked : IsChecked t) (stand : ConversionsStand t) (g : ℕ) (graph : Graph) (of : slice_get t.graphs.graphs g ≡ Some graph) where
  abbrev l : Lowered
  l = lowered_in t g graph

  abbrev s : Setting
  s = setting t

  abbrev count : ℕ
  count = length (variables t.known (world t) g)

  -- a variable of which there is nothing is in no conflict, and never has a value
  nothing_kind : (v : ℕ) → v < count → is_nothing (value t.whole t.assigned g v) ≡ true → (kind_seen (element_at t.known.annotation g v) ≡ kind.Never) × (is_conflict (element_at t.known.annotation g v) ≡ false)
  nothing_kind v lt h =
      let e = element_of t typed checked stand g graph of v lt in
      let none : is_nothing (shape e.0) ≡ true = ap is_nothing (sym (typed.sees.variables g v e.0 e.1)) ∙ h in
      (ap kind_seen e.1 ∙ never_there e.0 none, ap is_conflict e.1 ∙ conflict_seen e.0 ∙ nothing_free (shape e.0) none)

  has_never : (vs : List ℕ) → AllUnder count vs → some_nothing (map (value t.whole t.assigned g) vs) ≡ true → HasNever s g vs
  has_never [] under h = absurd (cc)
  has_never (v ∷ vs) under h = by (λ k. has_never vs under.1 k) (is_nothing (value t.whole t.assigned g v)) refl h
    where
      by : (some_nothing (map (value t.whole t.assigned g) vs) ≡ true → HasNever s g vs) → (c : Bool) → is_nothing (value t.whole t.assigned g v) ≡ c → (c || some_nothing (map (value t.whole t.assigned g) vs)) ≡ true → HasNever s g (v ∷ vs)
      by go true e k = let n = nothing_kind v under.0 e in inl (n.1, λ gh x u held. never_held n.0 held)
      by go false e k = inr (go k)

  never_in : (vs : List ℕ) → AllUnder count vs → some_nothing (map (value t.whole t.assigned g) vs) ≡ true → is_never (map (operand_of l) vs) ≡ true
  never_in [] under h = absurd (cc)
  never_in (v ∷ vs) under h = by (λ k. never_in vs under.1 k) (is_nothing (value t.whole t.assigned g v)) refl h
    where
      tail : (c : Bool) → is_never (map (operand_of l) vs) ≡ true → (if c then true else is_never (map (operand_of l) vs)) ≡ true
      tail true k = refl
      tail false k = k

      by : (some_nothing (map (value t.whole t.assigned g) vs) ≡ true → is_never (map (operand_of l) vs) ≡ true) → (c : Bool) → is_nothing (value t.whole t.assigned g v) ≡ c → (c || some_nothing (map (value t.whole t.assigned g) vs)) ≡ true → is_never (map (operand_of l) (v ∷ vs)) ≡ true
      by go true e k = ap (λ k. if never_comes k then true else is_never (map (operand_of l) vs)) (nothing_kind v under.0 e).0
      by go false e k = tail (never_comes (kind_seen (element_at t.known.annotation g v))) (go k)

  none_given : (vs : List ℕ) → HasNever s g vs → (core : Core) (gh : Ghost) (us : List Meant) → Given s.known s.around gh core (operands_of s g vs) us → ⊥
  none_given [] h core gh us given = h
  none_given (v ∷ vs) (inl n) core gh [] given = given
  none_given (v ∷ vs) (inl n) core gh (u ∷ us) given = n.1 gh _ u given.0
  none_given (v ∷ vs) (inr h) core gh [] given = given
  none_given (v ∷ vs) (inr h) core gh (u ∷ us) given = none_given vs h core gh us given.1

  all_free : (vs : List ℕ) (es : List Element) → AreElements t g vs es → AllFree es → AreFree s g vs
  all_free [] es are free = tt
  all_free (v ∷ vs) [] are free = absurd are
  all_free (v ∷ vs) (e ∷ es) are free = (ap is_conflict are.0 ∙ free.0, all_free vs es are.1 free.1)

  -- ---- an operation that is never come to with values does anything

  written_anyhow : (o : Op) (w : Writing) → AllUnder count o.args → HasNothing t g o → OpIsWritten s l o w
  written_anyhow o w under nothing =
      let it = read_so l o.args o w (λ v h. h) (λ some. absurd (yes (is_never (map (operand_of l) o.args)) (never_in o.args under nothing) some)) in
      record {
        ops = it.ops;
        new = it.new;
        written = it.written;
        types = it.types;
        is = λ rest e frames core gh world vs stands left room given good. absurd (none_given o.args (has_never o.args under nothing) core gh vs given);
      }

  args_under : (ops : List Op) (o : Op) → slice_get ops 0 ≡ Some o → OpsUnder count ops → AllUnder count o.args
  args_under [] o h under = absurd (cc)
  args_under (x ∷ ops) o h under = let same : x ≡ o = cc in subst (λ (y : Op). AllUnder count y.args) same under.1

  module _ (m : ℕ) (b : Block) (there : slice_get graph.blocks m ≡ Some b) (reached : is_block_reached t.known.annotation g m ≡ true) (number : graph.function ≡ g) (tests : TestsStand t) (fits : ExitFits t g graph b.exit) (rows : OperationsAreWritten t) (have : OperationsHaveTypes t) (catches : exit_catches graph b.exit ≡ false) where
    under : StandsUnder count b
    under = checked.under g m graph b of there

    read : (o : Op) → slice_get b.ops 0 ≡ Some o → AreRead s g o.args
    read o h = by (have g m graph b o of there reached h)
      where
        by : HasNothing t g o ⊎ IsOp t g o → AreRead s g o.args
        by (inl nothing) = inr (has_never o.args (args_under b.ops o h under.ops) nothing)
        by (inr is) = inl (all_free o.args is.elements is.are is.free)

    written : (o : Op) (w : Writing) → slice_get b.ops 0 ≡ Some o → Grows (first t) w.found → Grows (op_of l o w).found (last t) → count ≤ length w.body.types → OpIsWritten s l o w
    written o w h begun ends le = by (have g m graph b o of there reached h)
      where
        by : HasNothing t g o ⊎ IsOp t g o → OpIsWritten s l o w
        by (inl nothing) = written_anyhow o w (args_under b.ops o h under.ops) nothing
        by (inr is) = rows g graph o is w begun ends le

    pub block_done : BlockIsDone s (numbers t) l (first t) (last t) b
    block_done = record {
      ops = operations_are_done t.known.program s l (first t) (last t) (record { nodes = checked.nodes; graph = of }) m b there catches read written;
      catches = catches;
      exit = exits_done t typed checked stand g graph of m b there reached number tests fits;
    }

pub blocks_are_done : BlocksAreDone
blocks_are_done t typed checked stand tests rows have g m graph b of there reached number fits catches = block_done t typed checked stand g graph of m b there reached number tests fits rows have catches
