-- Where all parts hold, the assignment is closed.
use Rattle.std.proofs.Common.{◌≡◌, ◌<◌, ℕ, zero, suc, Bool, true, false, List, [], ◌∷◌, ◌++◌, get_or, length, map, Option, Some, None, Result, Ok, Err, IfOk, refl, sym, ap, ◌∙◌, subst}
use Rattle.std.specs.Prelude.{◌&&◌, ◌||◌, not, if◌then◌else◌}
use Rattle.rpy_tree.specs.declared.program.ClassInfo.{ClassInfo}
use Rattle.rpy_tree.specs.declared.program.Site.{Site}
use Rattle.flow_graph.specs.declared.graph.Link.{Link}
use Rattle.flow_graph.specs.declared.graph.Exit.{Exit}
use Rattle.flow_graph.specs.declared.graph.Exit.TheVariants as exit
use Rattle.flow_graph.specs.declared.graph.Op.{Op}
use Rattle.flow_graph.specs.declared.graph.Block.{Block}
use Rattle.flow_graph.specs.declared.graph.Graph.{Graph}
use Rattle.ann_lattice.specs.Shape.{Shape, Inst}
use Rattle.ann_lattice.specs.Order.{is_below}
use Rattle.ann_lattice.specs.Assign.{Assignment, at, mark, Need, Up, Set, Holds, Closed}
use Rattle.ann_lattice.proofs.Tested.{is_tested}
use Rattle.ann_laws.proofs.Pairs.{no, and_left, and_right}
use Rattle.ann_rules.specs.Program.{Whole}
use Rattle.ann_rules.specs.Asks.{when, from_each}
use Rattle.ann_rules.specs.Rules as rule
use Rattle.ann_rules.specs.Hold.{AllHold}
use Rattle.ann_rules.proofs.Facts.{hold_append, hold_left, hold_right}
use Rattle.ann_closed.specs.Met.{holds, all_hold}
use Rattle.ann_closed.proofs.Closing.{one_holds}
use Rattle.ann_needs.specs.View.{callee_of}
use Rattle.ann_needs.specs.declared.plan.Callee.{Callee}
use Rattle.ann_holding.specs.Links as unmet
use Rattle.ann_holding.specs.Holds as spec

module _ (p : Whole) (a : Assignment) where
  abbrev k : List ClassInfo
  k = p.tables.classes

  all_of : (ns : List Need) → all_hold k a ns ≡ true → AllHold k a ns
  all_of [] e = tt
  all_of (n ∷ ns) e = (one_holds k a n (and_left (holds k a n) (all_hold k a ns) e), all_of ns (and_right (holds k a n) (all_hold k a ns) e))

  if_when : (c : Bool) (ns : List Need) → (c ≡ true → AllHold k a ns) → AllHold k a (when c ns)
  if_when true ns f = f refl
  if_when false ns f = tt

  -- a test that is not so, or what it leads to
  or_else : (c d : Bool) → (not c || d) ≡ true → c ≡ true → d ≡ true
  or_else true d e f = e
  or_else false d e f = absurd (no f)

  -- ---- links

  module _ (g : ℕ) where
    is_there : (c : Option ℕ) (v input : ℕ) → unmet.is_passed p a g c v input ≡ true → AllHold k a (rule.passed p a g c v input)
    is_there (Some c) v input e = (λ lt. ((is_tested k a.same).yes (Inst c false) (at a (p.places.variable g input)) e, tt), tt)
    is_there None v input e =
        let under : is_below k a.same (at a (p.places.variable g v)) (at a (p.places.variable g input)) ≡ true =
        and_left (is_below k a.same (at a (p.places.variable g v)) (at a (p.places.variable g input))) (not (rule.may_be_unbound p a g v) || rule.may_be_unbound p a g input) e in
        let loose : (not (rule.may_be_unbound p a g v) || rule.may_be_unbound p a g input) ≡ true =
        and_right (is_below k a.same (at a (p.places.variable g v)) (at a (p.places.variable g input))) (not (rule.may_be_unbound p a g v) || rule.may_be_unbound p a g input) e in (
          λ lt. ((is_tested k a.same).yes (at a (p.places.variable g v)) (at a (p.places.variable g input)) under, tt),
          if_when (rule.may_be_unbound p a g v) (Set (p.places.loose g input) ∷ [])
              (λ f. ((λ lt. or_else (rule.may_be_unbound p a g v) (rule.may_be_unbound p a g input) loose f), tt)),
        )

    pass_by : (c : Option ℕ) (v input : ℕ) (b : Bool) → unmet.is_passed p a g c v input ≡ b → AllHold k a (if b then [] else rule.passed p a g c v input) → AllHold k a (rule.passed p a g c v input)
    pass_by c v input true e h = is_there c v input e
    pass_by c v input false e h = h

    pass_hold : (c : Option (ℕ × ℕ)) (inputs vs : List ℕ) → AllHold k a (unmet.pass_all p a g c inputs vs) → AllHold k a (rule.pass_all p a g c inputs vs)
    pass_hold c [] vs h = tt
    pass_hold c (input ∷ inputs) [] h = tt
    pass_hold c (input ∷ inputs) (v ∷ vs) h =
        hold_append k a (rule.passed p a g (rule.caught_as c v) v input) (rule.pass_all p a g c inputs vs)
        (pass_by (rule.caught_as c v) v input (unmet.is_passed p a g (rule.caught_as c v) v input) refl
        (hold_left k a (unmet.passed p a g (rule.caught_as c v) v input) (unmet.pass_all p a g c inputs vs) h))
        (pass_hold c inputs vs (hold_right k a (unmet.passed p a g (rule.caught_as c v) v input) (unmet.pass_all p a g c inputs vs) h))

    module _ (graph : Graph) where
      link_hold : (c : Option (ℕ × ℕ)) (l : Link) → AllHold k a (unmet.link p a g graph c l) → AllHold k a (rule.link_needs p a g graph c l)
      link_hold c l h = (h.0, pass_hold c (rule.inputs_of (rule.block_at graph.blocks l.to)) l.args h.1)

      caught_hold : (v : ℕ) (ls : List (ℕ × Link)) → AllHold k a (unmet.caught_links p a g graph v ls)
          → AllHold k a (from_each (λ (l : ℕ × Link). rule.link_needs p a g graph (Some (v, l.0)) l.1) ls)
      caught_hold v [] h = tt
      caught_hold v (l ∷ ls) h =
          hold_append k a (rule.link_needs p a g graph (Some (v, l.0)) l.1) (from_each (λ (l : ℕ × Link). rule.link_needs p a g graph (Some (v, l.0)) l.1) ls)
          (link_hold (Some (v, l.0)) l.1 (hold_left k a (unmet.link p a g graph (Some (v, l.0)) l.1) (unmet.caught_links p a g graph v ls) h))
          (caught_hold v ls (hold_right k a (unmet.link p a g graph (Some (v, l.0)) l.1) (unmet.caught_links p a g graph v ls) h))

      other_hold : (v : ℕ) (o : Option Link) → AllHold k a (unmet.other_link p a g graph v o) → AllHold k a (rule.other_link p a g graph v o)
      other_hold v None h = tt
      other_hold v (Some l) h = link_hold (Some (v, 0)) l h

      exceptions_are : (e : Exit) → AllHold k a (unmet.exceptions p a g graph e) → AllHold k a (rule.exception_needs p a g graph e)
      exceptions_are (exit.OnRaise v ls other norm) h =
          hold_append k a (from_each (λ (l : ℕ × Link). rule.link_needs p a g graph (Some (v, l.0)) l.1) ls) (rule.other_link p a g graph v other)
          (caught_hold v ls (hold_left k a (unmet.caught_links p a g graph v ls) (unmet.other_link p a g graph v other) h))
          (other_hold v other (hold_right k a (unmet.caught_links p a g graph v ls) (unmet.other_link p a g graph v other) h))
      exceptions_are (exit.Goto l) h = tt
      exceptions_are (exit.If v one two) h = tt
      exceptions_are (exit.Return v) h = tt
      exceptions_are (exit.Raise v) h = tt

      way_hold : (c : Bool) (l : Link) → AllHold k a (unmet.way p a g graph c l) → AllHold k a (when c (rule.link_needs p a g graph None l))
      way_hold true l h = link_hold None l h
      way_hold false l h = tt

      exits_are : (e : Exit) → AllHold k a (unmet.exits p a g graph e) → AllHold k a (rule.exit_needs p a g graph e)
      exits_are (exit.Goto l) h = link_hold None l h
      exits_are (exit.If v one two) h =
          hold_append k a (when (rule.goes true (rule.value p a g v)) (rule.link_needs p a g graph None one)) (when (rule.goes false (rule.value p a g v)) (rule.link_needs p a g graph None two))
          (way_hold (rule.goes true (rule.value p a g v)) one
          (hold_left k a (unmet.way p a g graph (rule.goes true (rule.value p a g v)) one) (unmet.way p a g graph (rule.goes false (rule.value p a g v)) two) h))
          (way_hold (rule.goes false (rule.value p a g v)) two
          (hold_right k a (unmet.way p a g graph (rule.goes true (rule.value p a g v)) one) (unmet.way p a g graph (rule.goes false (rule.value p a g v)) two) h))
      exits_are (exit.OnRaise v ls other norm) h = link_hold None norm h
      exits_are (exit.Return v) h = h
      exits_are (exit.Raise v) h = tt

      -- ---- blocks

      ops_are : (os : List Op) (e : Exit) → spec.ops_hold p a g graph os e ≡ true → AllHold k a (rule.ops_needs p a g graph os e)
      ops_are [] e h = exits_are e (all_of (unmet.exits p a g graph e) h)
      ops_are (o ∷ os) e h =
          hold_append k a (rule.op_needs p a g o) (when (rule.goes_on p a g o) (rule.ops_needs p a g graph os e))
          (all_of (rule.op_needs p a g o) (and_left (spec.op_holds p a g o) (not (rule.goes_on p a g o) || spec.ops_hold p a g graph os e) h))
          (if_when (rule.goes_on p a g o) (rule.ops_needs p a g graph os e)
          (λ f. ops_are os e (or_else (rule.goes_on p a g o) (spec.ops_hold p a g graph os e) (and_right (spec.op_holds p a g o) (not (rule.goes_on p a g o) || spec.ops_hold p a g graph os e) h) f)))

      block_is : (b : Block) → spec.block_holds p a g graph b ≡ true → AllHold k a (rule.block_needs p a g graph b)
      block_is b h =
          hold_append k a (rule.exception_needs p a g graph b.exit) (rule.ops_needs p a g graph b.ops b.exit)
          (exceptions_are b.exit (all_of (unmet.exceptions p a g graph b.exit) (and_left (spec.exceptions_hold p a g graph b.exit) (spec.ops_hold p a g graph b.ops b.exit) h)))
          (ops_are b.ops b.exit (and_right (spec.exceptions_hold p a g graph b.exit) (spec.ops_hold p a g graph b.ops b.exit) h))

      blocks_are : (n : ℕ) (bs : List Block) → spec.blocks_hold p a g graph n bs ≡ true → AllHold k a (rule.blocks_needs p a g graph n bs)
      blocks_are n [] h = tt
      blocks_are n (b ∷ bs) h =
          hold_append k a (when (mark a (p.places.block g n)) (rule.block_needs p a g graph b)) (rule.blocks_needs p a g graph (suc n) bs)
          (if_when (mark a (p.places.block g n)) (rule.block_needs p a g graph b)
          (λ f. block_is b (or_else (mark a (p.places.block g n)) (spec.block_holds p a g graph b) (and_left (spec.reached_holds p a g graph n b) (spec.blocks_hold p a g graph (suc n) bs) h) f)))
          (blocks_are (suc n) bs (and_right (spec.reached_holds p a g graph n b) (spec.blocks_hold p a g graph (suc n) bs) h))

      graph_is : spec.graph_holds p a g graph ≡ true → AllHold k a (rule.graph_needs p a g graph)
      graph_is h =
          hold_append k a (rule.blocks_needs p a g graph zero graph.blocks) (rule.tie_ops p a g graph (rule.all_ops p a g graph graph.blocks))
          (blocks_are zero graph.blocks (and_left (spec.blocks_hold p a g graph zero graph.blocks) (spec.ties_hold p a g graph) h))
          (all_of (rule.tie_ops p a g graph (rule.all_ops p a g graph graph.blocks)) (and_right (spec.blocks_hold p a g graph zero graph.blocks) (spec.ties_hold p a g graph) h))

  -- ---- the whole

  graphs_are : (g : ℕ) (gs : List Graph) → spec.graphs_hold p a g gs ≡ true → AllHold k a (rule.numbered p a (rule.graph_needs p a) g gs)
  graphs_are g [] h = tt
  graphs_are g (graph ∷ gs) h =
      hold_append k a (rule.graph_needs p a g graph) (rule.numbered p a (rule.graph_needs p a) (suc g) gs)
      (graph_is g graph (and_left (spec.graph_holds p a g graph) (spec.graphs_hold p a (suc g) gs) h)) (graphs_are (suc g) gs (and_right (spec.graph_holds p a g graph) (spec.graphs_hold p a (suc g) gs) h))

  starts_are : (f : ℕ) (cs : List Callee) → spec.starts_hold p a f cs ≡ true → AllHold k a (rule.numbered p a (rule.start_needs p a) f (map callee_of cs))
  starts_are f [] h = tt
  starts_are f (c ∷ cs) h =
      hold_append k a (rule.start_needs p a f (callee_of c)) (rule.numbered p a (rule.start_needs p a) (suc f) (map callee_of cs))
      (all_of (rule.start_needs p a f (callee_of c)) (and_left (spec.start_holds p a f c) (spec.starts_hold p a (suc f) cs) h))
      (starts_are (suc f) cs (and_right (spec.start_holds p a f c) (spec.starts_hold p a (suc f) cs) h))

  sites_are : (s : ℕ) (ss : List Site) → spec.sites_hold p a s ss ≡ true → AllHold k a (rule.numbered p a (rule.site_needs p a) s ss)
  sites_are s [] h = tt
  sites_are s (site ∷ ss) h =
      hold_append k a (rule.site_needs p a s site) (rule.numbered p a (rule.site_needs p a) (suc s) ss)
      (all_of (rule.site_needs p a s site) (and_left (spec.site_holds p a s site) (spec.sites_hold p a (suc s) ss) h))
      (sites_are (suc s) ss (and_right (spec.site_holds p a s site) (spec.sites_hold p a (suc s) ss) h))

  hold_at : (ns : List Need) (r : ℕ) → AllHold k a ns → Holds k a (get_or ns r rule.no_need)
  hold_at [] zero h = λ lt. tt
  hold_at [] (suc r) h = λ lt. tt
  hold_at (n ∷ ns) zero h = h.0
  hold_at (n ∷ ns) (suc r) h = hold_at ns r h.1

  abbrev after_starts : List Need
  after_starts = rule.numbered p a (rule.graph_needs p a) zero p.graphs ++ rule.numbered p a (rule.site_needs p a) zero p.sites

  abbrev after_entry : List Need
  after_entry = rule.numbered p a (rule.start_needs p a) zero p.callees ++ after_starts

  abbrev entry : Bool
  entry = spec.entry_holds p a

  abbrev others : Bool
  others = spec.graphs_hold p a zero p.graphs && spec.sites_hold p a zero p.sites

  pub closed_by : (cs : List Callee) → p.callees ≡ map callee_of cs → spec.holds p a cs ≡ true → Closed k (rule.rules p) a
  closed_by cs e h r = hold_at (rule.needs p a) r
      (hold_append k a (rule.entry_needs p a) after_entry (all_of (rule.entry_needs p a) (and_left entry (spec.starts_hold p a zero cs && others) h))
      (hold_append k a (rule.numbered p a (rule.start_needs p a) zero p.callees) after_starts
      (subst (λ ds. AllHold k a (rule.numbered p a (rule.start_needs p a) zero ds)) (sym e) (starts_are zero cs (and_left (spec.starts_hold p a zero cs) others (and_right entry (spec.starts_hold p a zero cs && others) h))))
      (hold_append k a (rule.numbered p a (rule.graph_needs p a) zero p.graphs) (rule.numbered p a (rule.site_needs p a) zero p.sites)
      (graphs_are zero p.graphs (and_left (spec.graphs_hold p a zero p.graphs) (spec.sites_hold p a zero p.sites) (and_right (spec.starts_hold p a zero cs) others (and_right entry (spec.starts_hold p a zero cs && others) h))))
      (sites_are zero p.sites (and_right (spec.graphs_hold p a zero p.graphs) (spec.sites_hold p a zero p.sites) (and_right (spec.starts_hold p a zero cs) others (and_right entry (spec.starts_hold p a zero cs && others) h)))))))

pub closed_if : {E : Type 0} → (p : Whole) (a : Assignment) (cs : List Callee) (r : Result Bool E) → p.callees ≡ map callee_of cs → IfOk r (λ b. b ≡ spec.holds p a cs)
    → IfOk r (λ b. b ≡ true → Closed p.tables.classes (rule.rules p) a)
closed_if p a cs (Ok b) e h = λ f. closed_by p a cs e (sym h ∙ f)
closed_if p a cs (Err x) e h = h
