-- What the graphs of a program ask puts elements of keys into cells of keys.
use Rattle.std.proofs.Common.{◌≡◌, ℕ, zero, suc, Bool, true, false, List, [], ◌∷◌, ◌++◌, length, map, Option, Some, None}
use Rattle.std.specs.Prelude.{◌&&◌, not, nat_lt, nat_le, slice_get}
use Rattle.rpy_tree.specs.declared.program.Const.{Const}
use Rattle.rpy_tree.specs.declared.program.Site.{Site}
use Rattle.flow_graph.specs.declared.graph.Link.{Link}
use Rattle.flow_graph.specs.declared.graph.Exit.{Exit}
use Rattle.flow_graph.specs.declared.graph.Exit.TheVariants as exit
use Rattle.flow_graph.specs.declared.graph.Op.{Op}
use Rattle.flow_graph.specs.declared.graph.Block.{Block}
use Rattle.flow_graph.specs.declared.graph.Graph.{Graph}
use Rattle.ann_element.specs.Sites.{leader}
use Rattle.ann_lattice.specs.Shape.{Any, Shape, Str, Lst}
use Rattle.ann_lattice.specs.Assign.{Assignment, at, mark, Need, Up, Set}
use Rattle.ann_lattice.specs.Kind.{some_nothing, some_clash}
use Rattle.ann_lattice.specs.Row.{constant}
use Rattle.ann_rules.specs.Program.{Callee, Whole}
use Rattle.ann_rules.specs.Asks as asking
use Rattle.ann_rules.specs.Asks.{when, from_each, loads, asks}
use Rattle.ann_rules.specs.Rules as rule
use Rattle.key_laws.proofs.Joining.{is_keyish}
use Rattle.key_laws.proofs.Apart.{AreApart}
use Rattle.key_laws.proofs.Asking.{AreFine, append_fine, when_fine, each_fine, loads_fine, to_items_fine, to_keys_fine, tie_fine, asks_fine}

module _ (Key : ℕ → Type 0) (p : Whole) (apart : AreApart p Key) (w : Assignment) where
  abbrev Fine : List Need → Type 0
  Fine ns = AreFine Key ns

  module _ (g : ℕ) where
    -- ---- operations

    loose_fine : (o : Op) → Fine (rule.loose_needs p w g o)
    loose_fine o =
        let reads : Bool = rule.is_copy o.op && rule.first_loose p w g o.args in
        let tests : Bool = rule.is_narrowing o.op && rule.first_loose p w g o.args in
        append_fine Key (when reads (Set (p.places.unbound o.node) ∷ [])) (when tests (Set (p.places.loose g o.result) ∷ []))
        (when_fine Key reads (Set (p.places.unbound o.node) ∷ []) (tt, tt)) (when_fine Key tests (Set (p.places.loose g o.result) ∷ []) (tt, tt))

    reached_fine : (o : Op) (xs : List Shape) → Fine (rule.reached_needs p w g o xs)
    reached_fine o xs = (λ k. absurd (apart.variable g o.result k), when_fine Key (not (some_clash (rule.asked p w g o.op xs o.node))) (asks p w o.op xs) (asks_fine Key p apart w o.op xs))

    op_fine : (o : Op) → Fine (rule.op_needs p w g o)
    op_fine o =
        let xs : List Shape = map (rule.value p w g) o.args in
        append_fine Key (rule.loose_needs p w g o) (when (not (some_nothing xs)) (rule.reached_needs p w g o xs)) (loose_fine o)
        (when_fine Key (not (some_nothing xs)) (rule.reached_needs p w g o xs) (reached_fine o xs))

    -- ---- links

    passed_fine : (c : Option ℕ) (v input : ℕ) → Fine (rule.passed p w g c v input)
    passed_fine (Some c) v input = (λ k. absurd (apart.variable g input k), tt)
    passed_fine None v input = (λ k. absurd (apart.variable g input k), when_fine Key (rule.may_be_unbound p w g v) (Set (p.places.loose g input) ∷ []) (tt, tt))

    pass_all_fine : (caught : Option (ℕ × ℕ)) (inputs vs : List ℕ) → Fine (rule.pass_all p w g caught inputs vs)
    pass_all_fine caught [] vs = tt
    pass_all_fine caught (input ∷ inputs) [] = tt
    pass_all_fine caught (input ∷ inputs) (v ∷ vs) =
        append_fine Key (rule.passed p w g (rule.caught_as caught v) v input) (rule.pass_all p w g caught inputs vs) (passed_fine (rule.caught_as caught v) v input) (pass_all_fine caught inputs vs)

    module _ (graph : Graph) where
      link_fine : (caught : Option (ℕ × ℕ)) (l : Link) → Fine (rule.link_needs p w g graph caught l)
      link_fine caught l = (tt, pass_all_fine caught (rule.inputs_of (rule.block_at graph.blocks l.to)) l.args)

      -- ---- exits

      other_fine : (v : ℕ) (l : Option Link) → Fine (rule.other_link p w g graph v l)
      other_fine v None = tt
      other_fine v (Some l) = link_fine (Some (v, 0)) l

      exception_fine : (e : Exit) → Fine (rule.exception_needs p w g graph e)
      exception_fine (exit.OnRaise v links other norm) =
          append_fine Key (from_each (λ l. rule.link_needs p w g graph (Some (v, l.0)) l.1) links) (rule.other_link p w g graph v other)
          (each_fine Key (λ l. rule.link_needs p w g graph (Some (v, l.0)) l.1) (λ l. link_fine (Some (v, l.0)) l.1) links) (other_fine v other)
      exception_fine e = tt

      exit_fine : (e : Exit) → Fine (rule.exit_needs p w g graph e)
      exit_fine (exit.Goto l) = link_fine None l
      exit_fine (exit.If v one two) =
          let x : Shape = rule.value p w g v in
          append_fine Key (when (rule.goes true x) (rule.link_needs p w g graph None one)) (when (rule.goes false x) (rule.link_needs p w g graph None two))
          (when_fine Key (rule.goes true x) (rule.link_needs p w g graph None one) (link_fine None one)) (when_fine Key (rule.goes false x) (rule.link_needs p w g graph None two) (link_fine None two))
      exit_fine (exit.OnRaise v links other norm) = link_fine None norm
      exit_fine (exit.Return v) = (λ k. absurd (apart.result graph.function k), tt)
      exit_fine (exit.Raise v) = tt

      ops_fine : (os : List Op) (e : Exit) → Fine (rule.ops_needs p w g graph os e)
      ops_fine [] e = exit_fine e
      ops_fine (o ∷ os) e =
          append_fine Key (rule.op_needs p w g o) (when (rule.goes_on p w g o) (rule.ops_needs p w g graph os e)) (op_fine o)
          (when_fine Key (rule.goes_on p w g o) (rule.ops_needs p w g graph os e) (ops_fine os e))

      block_fine : (b : Block) → Fine (rule.block_needs p w g graph b)
      block_fine b = append_fine Key (rule.exception_needs p w g graph b.exit) (rule.ops_needs p w g graph b.ops b.exit) (exception_fine b.exit) (ops_fine b.ops b.exit)

      blocks_fine : (n : ℕ) (bs : List Block) → Fine (rule.blocks_needs p w g graph n bs)
      blocks_fine n [] = tt
      blocks_fine n (b ∷ bs) =
          let there : Bool = mark w (p.places.block g n) in
          append_fine Key (when there (rule.block_needs p w g graph b)) (rule.blocks_needs p w g graph (suc n) bs) (when_fine Key there (rule.block_needs p w g graph b) (block_fine b)) (blocks_fine (suc n) bs)

      -- ---- the results of one node

      tie_with_fine : (o q : Op) → Fine (rule.tie_with p w g graph o q)
      tie_with_fine o q =
          let ties : List Need = asking.tie p w (p.places.variable g o.result) (p.places.variable g q.result) in
          when_fine Key (o.value && rule.is_value_of p w g graph o.node q) ties
          (tie_fine Key p apart w (p.places.variable g o.result) (p.places.variable g q.result) (apart.variable g o.result) (apart.variable g q.result))

      tie_ops_fine : (os : List Op) → Fine (rule.tie_ops p w g graph os)
      tie_ops_fine os = each_fine Key (λ o. from_each (rule.tie_with p w g graph o) os) (λ o. each_fine Key (rule.tie_with p w g graph o) (tie_with_fine o) os) os

      graph_fine : Fine (rule.graph_needs p w g graph)
      graph_fine =
          append_fine Key (rule.blocks_needs p w g graph zero graph.blocks) (rule.tie_ops p w g graph (rule.all_ops p w g graph graph.blocks))
          (blocks_fine zero graph.blocks) (tie_ops_fine (rule.all_ops p w g graph graph.blocks))

  -- ---- functions

  input_fine : (f count locals i : ℕ) (vs : List ℕ) → Fine (rule.input_needs p w f count locals i vs)
  input_fine f count locals i [] = tt
  input_fine f count locals i (v ∷ vs) =
      let param : List Need = Up (p.places.variable f v) (at w (p.places.param f i) ∷ []) ∷ [] in
      let loose : List Need = Set (p.places.loose f v) ∷ [] in
      let others : List Need = rule.input_needs p w f count locals (suc i) vs in
      append_fine Key (when (nat_lt i count) param) (when (nat_le locals i) loose ++ others)
      (when_fine Key (nat_lt i count) param (λ k. absurd (apart.variable f v k), tt))
      (append_fine Key (when (nat_le locals i) loose) others (when_fine Key (nat_le locals i) loose (tt, tt)) (input_fine f count locals (suc i) vs))

  start_fine : (f : ℕ) (c : Callee) → Fine (rule.start_needs p w f c)
  start_fine f c =
      let inputs : List ℕ = rule.first_inputs p w (slice_get p.graphs f) in
      when_fine Key (mark w (p.places.reached f)) (Set (p.places.block f zero) ∷ rule.input_needs p w f (length c.defaults) (rule.locals_of p w c) zero inputs)
      (tt, input_fine f (length c.defaults) (rule.locals_of p w c) zero inputs)

  entry_fine : Fine (rule.entry_needs p w)
  entry_fine =
      append_fine Key (asking.to_items p w zero (Str Any)) (Up (p.places.param p.entry zero) (Lst zero false ∷ []) ∷ Set (p.places.reached p.entry) ∷ [])
      (to_items_fine Key p apart w zero (Str Any)) (λ k. absurd (apart.param p.entry zero k), (tt, tt))

  -- ---- sites

  pair_fine : (s : ℕ) (dict : Bool) (c : Const × Const) → Fine (rule.pair_needs p w s dict c)
  pair_fine s dict c =
      append_fine Key (when dict (loads p c.0 ++ asking.to_keys p w s (constant c.0))) (loads p c.1 ++ asking.to_items p w s (constant c.1))
      (when_fine Key dict (loads p c.0 ++ asking.to_keys p w s (constant c.0))
      (append_fine Key (loads p c.0) (asking.to_keys p w s (constant c.0)) (loads_fine Key p apart c.0) (to_keys_fine Key p apart w s (constant c.0))))
      (append_fine Key (loads p c.1) (asking.to_items p w s (constant c.1)) (loads_fine Key p apart c.1) (to_items_fine Key p apart w s (constant c.1)))

  contents_fine : (s : ℕ) (dict : Bool) (cs : Option (List (Const × Const))) → Fine (rule.contents p w s dict cs)
  contents_fine s dict None = tt
  contents_fine s dict (Some cs) = each_fine Key (rule.pair_needs p w s dict) (pair_fine s dict) cs

  module _ (keys : (s : ℕ) → is_keyish (at w (p.places.key s)) ≡ true) where
    site_fine : (s : ℕ) (site : Site) → Fine (rule.site_needs p w s site)
    site_fine s site =
        let item_tie : List Need = asking.tie p w (p.places.item s) (p.places.item (leader w.same s)) in
        let key_tie : List Need = asking.tie p w (p.places.key s) (p.places.key (leader w.same s)) in
        let loaded : Bool = mark w (p.places.loaded s) in
        append_fine Key item_tie (key_tie ++ when loaded (rule.contents p w s site.dict site.prebuilt))
        (tie_fine Key p apart w (p.places.item s) (p.places.item (leader w.same s)) (apart.item s) (apart.item (leader w.same s)))
        (append_fine Key key_tie (when loaded (rule.contents p w s site.dict site.prebuilt)) (λ k. (keys (leader w.same s), tt), (λ k. (keys s, tt), tt))
        (when_fine Key loaded (rule.contents p w s site.dict site.prebuilt) (contents_fine s site.dict site.prebuilt)))

    -- ---- all of them

    numbered_fine : {A : Type 0} → (f : ℕ → A → List Need) → ((n : ℕ) (x : A) → Fine (f n x)) → (n : ℕ) (xs : List A) → Fine (rule.numbered p w f n xs)
    numbered_fine f h n [] = tt
    numbered_fine f h n (x ∷ xs) = append_fine Key (f n x) (rule.numbered p w f (suc n) xs) (h n x) (numbered_fine f h (suc n) xs)

    pub needs_fine : Fine (rule.needs p w)
    needs_fine =
        let starts : List Need = rule.numbered p w (rule.start_needs p w) zero p.callees in
        let graphs : List Need = rule.numbered p w (rule.graph_needs p w) zero p.graphs in
        let sites : List Need = rule.numbered p w (rule.site_needs p w) zero p.sites in
        append_fine Key (rule.entry_needs p w) (starts ++ (graphs ++ sites)) entry_fine
        (append_fine Key starts (graphs ++ sites) (numbered_fine (rule.start_needs p w) start_fine zero p.callees)
        (append_fine Key graphs sites (numbered_fine (rule.graph_needs p w) graph_fine zero p.graphs) (numbered_fine (rule.site_needs p w) site_fine zero p.sites)))
