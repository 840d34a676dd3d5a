-- What the graphs of a program ask is well-formed.
use Rattle.std.proofs.Common.{ℕ, zero, suc, Bool, true, false, List, [], ◌∷◌, ◌++◌, length, map, Option, Some, None, refl}
use Rattle.std.specs.Prelude.{◌&&◌, not, nat_lt, nat_le, if◌then◌else◌, slice_get}
use Rattle.rpy_tree.specs.declared.program.Const.{Const}
use Rattle.rpy_tree.specs.declared.program.Site.{Site}
use Rattle.rpy_meaning.specs.declared.row.RowOp.{RowOp}
use Rattle.flow_graph.specs.declared.graph.Link.{Link}
use Rattle.flow_graph.specs.declared.graph.Exit.{Exit}
use Rattle.flow_graph.specs.declared.graph.Exit.TheVariants as exit
use Rattle.flow_graph.specs.declared.graph.Op.{Op}
use Rattle.flow_graph.specs.declared.graph.Block.{Block}
use Rattle.flow_graph.specs.declared.graph.Graph.{Graph}
use Rattle.ann_element.specs.Sites.{leader}
use Rattle.ann_lattice.specs.Shape.{Any, Shape, Nothing, Str, Lst}
use Rattle.ann_lattice.specs.Assign.{Assignment, at, mark, Need, Up, Set}
use Rattle.ann_lattice.specs.Kind.{misfit, some_nothing, some_clash}
use Rattle.ann_lattice.specs.Row.{pieces, constant}
use Rattle.ann_rules.specs.Program.{Callee, Whole}
use Rattle.ann_rules.specs.Asks as asking
use Rattle.ann_rules.specs.Asks.{when, from_each, loads, parts, asks}
use Rattle.ann_rules.specs.Rules as rule
use Rattle.ann_formed.specs.Formed.{AllFormed, AreFormedNeeds, AreFormedCells}
use Rattle.ann_formed.proofs.Rowing.{flat, constant_formed, pieces_formed}
use Rattle.ann_formed.proofs.Asking.{append_well, when_well, each_well, loads_well, to_items_well, to_keys_well, tie_well, asks_well, parts_formed}

append_formed : (xs ys : List Shape) → AllFormed xs → AllFormed ys → AllFormed (xs ++ ys)
append_formed [] ys g h = h
append_formed (x ∷ xs) ys g h = (g.0, append_formed xs ys g.1 h)

module _ (p : Whole) (w : Assignment) (formed : AreFormedCells p w) where
  module _ (g : ℕ) where
    -- ---- operations

    values_formed : (vs : List ℕ) → AllFormed (map (rule.value p w g) vs)
    values_formed [] = tt
    values_formed (v ∷ vs) = (formed.cells (p.places.variable g v), values_formed vs)

    pieces_for_formed : (o : RowOp) (xs qs : List Shape) → AllFormed xs → AllFormed qs → AllFormed (rule.pieces_for p w g o xs qs)
    pieces_for_formed o xs [] h j = tt
    pieces_for_formed o xs (q ∷ qs) h j = append_formed (pieces p.tables o xs q) (rule.pieces_for p w g o xs qs) (pieces_formed p.tables o xs q h j.0) (pieces_for_formed o xs qs h j.1)

    asked_by : (b : Bool) (ys : List Shape) → AllFormed ys → AllFormed (if b then misfit ∷ [] else ys)
    asked_by true ys h = (flat refl refl, tt)
    asked_by false ys h = h

    pub asked_formed : (o : RowOp) (xs : List Shape) (node : ℕ) → AllFormed xs → AllFormed (rule.asked p w g o xs node)
    asked_formed o xs node h =
        asked_by (rule.is_unfit p w g o xs node) (rule.pieces_for p w g o xs (Nothing ∷ parts p w o xs))
        (pieces_for_formed o xs (Nothing ∷ parts p w o xs) h (flat refl refl, parts_formed p w formed o xs))

    loose_well : (o : Op) → AreFormedNeeds (rule.loose_needs p w g o)
    loose_well o =
        let reads : Bool = rule.is_copy o.op && rule.first_loose p w g o.args in
        let tests : Bool = rule.is_narrowing o.op && rule.first_loose p w g o.args in
        append_well (when reads (Set (p.places.unbound o.node) ∷ [])) (when tests (Set (p.places.loose g o.result) ∷ []))
        (when_well reads (Set (p.places.unbound o.node) ∷ []) (tt, tt)) (when_well tests (Set (p.places.loose g o.result) ∷ []) (tt, tt))

    reached_well : (o : Op) (xs : List Shape) → AllFormed xs → AreFormedNeeds (rule.reached_needs p w g o xs)
    reached_well o xs h = (asked_formed o.op xs o.node h, when_well (not (some_clash (rule.asked p w g o.op xs o.node))) (asks p w o.op xs) (asks_well p w formed o.op xs h))

    op_well : (o : Op) → AreFormedNeeds (rule.op_needs p w g o)
    op_well o =
        let xs : List Shape = map (rule.value p w g) o.args in
        append_well (rule.loose_needs p w g o) (when (not (some_nothing xs)) (rule.reached_needs p w g o xs)) (loose_well o)
        (when_well (not (some_nothing xs)) (rule.reached_needs p w g o xs) (reached_well o xs (values_formed o.args)))

    -- ---- links

    passed_well : (c : Option ℕ) (v input : ℕ) → AreFormedNeeds (rule.passed p w g c v input)
    passed_well (Some c) v input = ((flat refl refl, tt), tt)
    passed_well None v input = ((formed.cells (p.places.variable g v), tt), when_well (rule.may_be_unbound p w g v) (Set (p.places.loose g input) ∷ []) (tt, tt))

    pass_all_well : (caught : Option (ℕ × ℕ)) (inputs vs : List ℕ) → AreFormedNeeds (rule.pass_all p w g caught inputs vs)
    pass_all_well caught [] vs = tt
    pass_all_well caught (input ∷ inputs) [] = tt
    pass_all_well caught (input ∷ inputs) (v ∷ vs) =
        append_well (rule.passed p w g (rule.caught_as caught v) v input) (rule.pass_all p w g caught inputs vs) (passed_well (rule.caught_as caught v) v input) (pass_all_well caught inputs vs)

    module _ (graph : Graph) where
      link_well : (caught : Option (ℕ × ℕ)) (l : Link) → AreFormedNeeds (rule.link_needs p w g graph caught l)
      link_well caught l = (tt, pass_all_well caught (rule.inputs_of (rule.block_at graph.blocks l.to)) l.args)

      -- ---- exits

      other_well : (v : ℕ) (l : Option Link) → AreFormedNeeds (rule.other_link p w g graph v l)
      other_well v None = tt
      other_well v (Some l) = link_well (Some (v, 0)) l

      exception_well : (e : Exit) → AreFormedNeeds (rule.exception_needs p w g graph e)
      exception_well (exit.OnRaise v links other norm) =
          append_well (from_each (λ l. rule.link_needs p w g graph (Some (v, l.0)) l.1) links) (rule.other_link p w g graph v other)
          (each_well (λ l. rule.link_needs p w g graph (Some (v, l.0)) l.1) (λ l. link_well (Some (v, l.0)) l.1) links) (other_well v other)
      exception_well e = tt

      exit_well : (e : Exit) → AreFormedNeeds (rule.exit_needs p w g graph e)
      exit_well (exit.Goto l) = link_well None l
      exit_well (exit.If v one two) =
          let x : Shape = rule.value p w g v in
          append_well (when (rule.goes true x) (rule.link_needs p w g graph None one)) (when (rule.goes false x) (rule.link_needs p w g graph None two))
          (when_well (rule.goes true x) (rule.link_needs p w g graph None one) (link_well None one)) (when_well (rule.goes false x) (rule.link_needs p w g graph None two) (link_well None two))
      exit_well (exit.OnRaise v links other norm) = link_well None norm
      exit_well (exit.Return v) = ((formed.cells (p.places.variable g v), tt), tt)
      exit_well (exit.Raise v) = tt

      ops_well : (os : List Op) (e : Exit) → AreFormedNeeds (rule.ops_needs p w g graph os e)
      ops_well [] e = exit_well e
      ops_well (o ∷ os) e =
          append_well (rule.op_needs p w g o) (when (rule.goes_on p w g o) (rule.ops_needs p w g graph os e)) (op_well o)
          (when_well (rule.goes_on p w g o) (rule.ops_needs p w g graph os e) (ops_well os e))

      block_well : (b : Block) → AreFormedNeeds (rule.block_needs p w g graph b)
      block_well b = append_well (rule.exception_needs p w g graph b.exit) (rule.ops_needs p w g graph b.ops b.exit) (exception_well b.exit) (ops_well b.ops b.exit)

      blocks_well : (n : ℕ) (bs : List Block) → AreFormedNeeds (rule.blocks_needs p w g graph n bs)
      blocks_well n [] = tt
      blocks_well n (b ∷ bs) =
          let there : Bool = mark w (p.places.block g n) in
          append_well (when there (rule.block_needs p w g graph b)) (rule.blocks_needs p w g graph (suc n) bs) (when_well there (rule.block_needs p w g graph b) (block_well b)) (blocks_well (suc n) bs)

      -- ---- the results of one node

      tie_with_well : (o q : Op) → AreFormedNeeds (rule.tie_with p w g graph o q)
      tie_with_well o q =
          let ties : List Need = asking.tie p w (p.places.variable g o.result) (p.places.variable g q.result) in
          when_well (o.value && rule.is_value_of p w g graph o.node q) ties (tie_well p w formed (p.places.variable g o.result) (p.places.variable g q.result))

      tie_ops_well : (os : List Op) → AreFormedNeeds (rule.tie_ops p w g graph os)
      tie_ops_well os = each_well (λ o. from_each (rule.tie_with p w g graph o) os) (λ o. each_well (rule.tie_with p w g graph o) (tie_with_well o) os) os

      graph_well : AreFormedNeeds (rule.graph_needs p w g graph)
      graph_well =
          append_well (rule.blocks_needs p w g graph zero graph.blocks) (rule.tie_ops p w g graph (rule.all_ops p w g graph graph.blocks))
          (blocks_well zero graph.blocks) (tie_ops_well (rule.all_ops p w g graph graph.blocks))

  -- ---- functions

  input_well : (f count locals i : ℕ) (vs : List ℕ) → AreFormedNeeds (rule.input_needs p w f count locals i vs)
  input_well f count locals i [] = tt
  input_well f count locals i (v ∷ vs) =
      let param : List Need = Up (p.places.variable f v) (at w (p.places.param f i) ∷ []) ∷ [] in
      let loose : List Need = Set (p.places.loose f v) ∷ [] in
      let others : List Need = rule.input_needs p w f count locals (suc i) vs in
      append_well (when (nat_lt i count) param) (when (nat_le locals i) loose ++ others)
      (when_well (nat_lt i count) param ((formed.cells (p.places.param f i), tt), tt))
      (append_well (when (nat_le locals i) loose) others (when_well (nat_le locals i) loose (tt, tt)) (input_well f count locals (suc i) vs))

  start_well : (f : ℕ) (c : Callee) → AreFormedNeeds (rule.start_needs p w f c)
  start_well f c =
      let inputs : List ℕ = rule.first_inputs p w (slice_get p.graphs f) in
      when_well (mark w (p.places.reached f)) (Set (p.places.block f zero) ∷ rule.input_needs p w f (length c.defaults) (rule.locals_of p w c) zero inputs)
      (tt, input_well f (length c.defaults) (rule.locals_of p w c) zero inputs)

  entry_well : AreFormedNeeds (rule.entry_needs p w)
  entry_well =
      append_well (asking.to_items p w zero (Str Any)) (Up (p.places.param p.entry zero) (Lst zero false ∷ []) ∷ Set (p.places.reached p.entry) ∷ [])
      (to_items_well p w formed zero (Str Any) (flat refl refl)) ((flat refl refl, tt), (tt, tt))

  -- ---- sites

  pair_well : (s : ℕ) (dict : Bool) (c : Const × Const) → AreFormedNeeds (rule.pair_needs p w s dict c)
  pair_well s dict c =
      append_well (when dict (loads p c.0 ++ asking.to_keys p w s (constant c.0))) (loads p c.1 ++ asking.to_items p w s (constant c.1))
      (when_well dict (loads p c.0 ++ asking.to_keys p w s (constant c.0))
      (append_well (loads p c.0) (asking.to_keys p w s (constant c.0)) (loads_well p c.0) (to_keys_well p w formed s (constant c.0) (constant_formed c.0))))
      (append_well (loads p c.1) (asking.to_items p w s (constant c.1)) (loads_well p c.1) (to_items_well p w formed s (constant c.1) (constant_formed c.1)))

  contents_well : (s : ℕ) (dict : Bool) (cs : Option (List (Const × Const))) → AreFormedNeeds (rule.contents p w s dict cs)
  contents_well s dict None = tt
  contents_well s dict (Some cs) = each_well (rule.pair_needs p w s dict) (pair_well s dict) cs

  site_well : (s : ℕ) (site : Site) → AreFormedNeeds (rule.site_needs p w s site)
  site_well s site =
      let item_tie : List Need = asking.tie p w (p.places.item s) (p.places.item (leader w.same s)) in
      let key_tie : List Need = asking.tie p w (p.places.key s) (p.places.key (leader w.same s)) in
      let loaded : Bool = mark w (p.places.loaded s) in
      append_well item_tie (key_tie ++ when loaded (rule.contents p w s site.dict site.prebuilt)) (tie_well p w formed (p.places.item s) (p.places.item (leader w.same s)))
      (append_well key_tie (when loaded (rule.contents p w s site.dict site.prebuilt)) (tie_well p w formed (p.places.key s) (p.places.key (leader w.same s)))
      (when_well loaded (rule.contents p w s site.dict site.prebuilt) (contents_well s site.dict site.prebuilt)))

  -- ---- all of them

  numbered_well : {A : Type 0} → (f : ℕ → A → List Need) → ((n : ℕ) (x : A) → AreFormedNeeds (f n x)) → (n : ℕ) (xs : List A) → AreFormedNeeds (rule.numbered p w f n xs)
  numbered_well f h n [] = tt
  numbered_well f h n (x ∷ xs) = append_well (f n x) (rule.numbered p w f (suc n) xs) (h n x) (numbered_well f h (suc n) xs)

  pub needs_well : AreFormedNeeds (rule.needs p w)
  needs_well =
      let starts : List Need = rule.numbered p w (rule.start_needs p w) zero p.callees in
      let graphs : List Need = rule.numbered p w (rule.graph_needs p w) zero p.graphs in
      let sites : List Need = rule.numbered p w (rule.site_needs p w) zero p.sites in
      append_well (rule.entry_needs p w) (starts ++ (graphs ++ sites)) entry_well
      (append_well starts (graphs ++ sites) (numbered_well (rule.start_needs p w) start_well zero p.callees)
      (append_well graphs sites (numbered_well (rule.graph_needs p w) graph_well zero p.graphs) (numbered_well (rule.site_needs p w) site_well zero p.sites)))
