-- All that a program's graphs ask: the whole.
use Rattle.std.proofs.Common.{◌≡◌, ◌+◌, ◌<◌, ◌≤◌, ℕ, zero, suc, Bool, true, false, List, [], ◌∷◌, ◌++◌, length, get_or, Option, Some, None, refl, sym, ap, ◌∙◌, arith, subst}
use Rattle.std.specs.Prelude.{◌&&◌, ◌||◌, not, if◌then◌else◌, slice_get, nat_lt, nat_le}
use Rattle.rpy_tree.specs.declared.program.Const.{Const}
use Rattle.rpy_tree.specs.declared.program.Site.{Site}
use Rattle.rpy_tree.specs.declared.program.ClassInfo.{ClassInfo}
use Rattle.flow_graph.specs.declared.graph.Op.{Op}
use Rattle.flow_graph.specs.declared.graph.Block.{Block}
use Rattle.flow_graph.specs.declared.graph.Graph.{Graph}
use Rattle.ann_element.specs.Sites.{leader}
use Rattle.ann_lattice.specs.Shape.{Shape, Str, Any, Lst}
use Rattle.ann_lattice.specs.Order.{Below}
use Rattle.ann_lattice.specs.Join.{is_clash}
use Rattle.ann_lattice.specs.Laws.{IsTree}
use Rattle.ann_lattice.specs.Assign.{Assignment, Grown, IsLeast, at, mark, Less, Need, Up, Set, Under, Holds, Rules, Closed, Free, Fits, IsTable, Monotone}
use Rattle.ann_lattice.specs.Row.{constant}
use Rattle.ann_lattice.proofs.Ordered.{below_self, below_on}
use Rattle.ann_lattice.proofs.Grows.{grown_is_least}
use Rattle.ann_laws.specs.Rows.{HasClasses}
use Rattle.ann_rules.specs.Program.{Whole, Callee}
use Rattle.ann_rules.specs.Asks.{when, from_each, to_items, to_keys, tie, loads, items_of, keys_of}
use Rattle.ann_rules.specs.Rules as rule
use Rattle.ann_rules.specs.Hold.{AllHold, OpSpots, BlockSpots, GraphSpots, IsPlaced}
use Rattle.ann_rules.proofs.Facts.{hold_append, hold_left, hold_right, hold_both, hold_each, hold_when, Level, Facts, up_down, tie_down, to_items_down, to_keys_down}
use Rattle.ann_rules.proofs.Flows.{OpsFree, BlocksFree, graph_down}

module _ (p : Whole) (a b : Assignment) (f : Facts p a b) where
  abbrev k : List ClassInfo
  k = p.tables.classes

  abbrev u : List ℕ
  u = b.same

  -- ---- functions and the entry point

  inputs_down : (g count locals i : ℕ) (vs : List ℕ) → AllHold k b (rule.input_needs p b g count locals i vs) → AllHold k b (rule.input_needs p a g count locals i vs)
  inputs_down g count locals i [] h = tt
  inputs_down g count locals i (v ∷ vs) h =
      hold_both k b
      (when (nat_lt i count) (Up (p.places.variable g v) (at a (p.places.param g i) ∷ []) ∷ []))
      (when (nat_le locals i) (Set (p.places.loose g v) ∷ []) ++ rule.input_needs p a g count locals (suc i) vs)
      (when (nat_lt i count) (Up (p.places.variable g v) (at b (p.places.param g i) ∷ []) ∷ []))
      (when (nat_le locals i) (Set (p.places.loose g v) ∷ []) ++ rule.input_needs p b g count locals (suc i) vs)
      (hold_when k b (nat_lt i count) (nat_lt i count) (Up (p.places.variable g v) (at a (p.places.param g i) ∷ []) ∷ []) (Up (p.places.variable g v) (at b (p.places.param g i) ∷ []) ∷ [])
      (λ e. e) (λ j. (up_down p a b f (p.places.variable g v) (at a (p.places.param g i)) (at b (p.places.param g i)) (f.less.cells (p.places.param g i)) j.0, tt)))
      (hold_both k b (when (nat_le locals i) (Set (p.places.loose g v) ∷ [])) (rule.input_needs p a g count locals (suc i) vs)
      (when (nat_le locals i) (Set (p.places.loose g v) ∷ [])) (rule.input_needs p b g count locals (suc i) vs) (λ j. j) (inputs_down g count locals (suc i) vs)) h

  start_down : (g : ℕ) (c : Callee) → AllHold k b (rule.start_needs p b g c) → AllHold k b (rule.start_needs p a g c)
  start_down g c h =
      hold_when k b (mark a (p.places.reached g)) (mark b (p.places.reached g))
      (Set (p.places.block g zero) ∷ rule.input_needs p a g (length c.defaults) (rule.locals_of p a c) zero (rule.first_inputs p a (slice_get p.graphs g)))
      (Set (p.places.block g zero) ∷ rule.input_needs p b g (length c.defaults) (rule.locals_of p b c) zero (rule.first_inputs p b (slice_get p.graphs g)))
      (f.less.marks (p.places.reached g))
      (λ j. (j.0, inputs_down g (length c.defaults) (rule.locals_of p a c) zero (rule.first_inputs p a (slice_get p.graphs g)) j.1)) h

  entry_down : AllHold k b (rule.entry_needs p b) → AllHold k b (rule.entry_needs p a)
  entry_down h =
      hold_both k b (to_items p a zero (Str Any)) (Up (p.places.param p.entry zero) (Lst zero false ∷ []) ∷ Set (p.places.reached p.entry) ∷ [])
      (to_items p b zero (Str Any)) (Up (p.places.param p.entry zero) (Lst zero false ∷ []) ∷ Set (p.places.reached p.entry) ∷ [])
      (to_items_down p a b f zero zero (Str Any) (Str Any) refl (below_self k f.classes.tree u (Str Any))) (λ j. j) h

  -- ---- sites

  pair_down : (s : ℕ) (d : Bool) (c : Const × Const) → AllHold k b (rule.pair_needs p b s d c) → AllHold k b (rule.pair_needs p a s d c)
  pair_down s d c h =
      hold_both k b (when d (loads p c.0 ++ to_keys p a s (constant c.0))) (loads p c.1 ++ to_items p a s (constant c.1))
      (when d (loads p c.0 ++ to_keys p b s (constant c.0))) (loads p c.1 ++ to_items p b s (constant c.1))
      (hold_when k b d d (loads p c.0 ++ to_keys p a s (constant c.0)) (loads p c.0 ++ to_keys p b s (constant c.0)) (λ e. e)
      (hold_both k b (loads p c.0) (to_keys p a s (constant c.0)) (loads p c.0) (to_keys p b s (constant c.0)) (λ j. j)
      (to_keys_down p a b f s s (constant c.0) (constant c.0) refl (below_self k f.classes.tree u (constant c.0)))))
      (hold_both k b (loads p c.1) (to_items p a s (constant c.1)) (loads p c.1) (to_items p b s (constant c.1)) (λ j. j)
      (to_items_down p a b f s s (constant c.1) (constant c.1) refl (below_self k f.classes.tree u (constant c.1)))) h

  contents_down : (s : ℕ) (d : Bool) (o : Option (List (Const × Const))) → AllHold k b (rule.contents p b s d o) → AllHold k b (rule.contents p a s d o)
  contents_down s d None h = tt
  contents_down s d (Some cs) h = hold_each k b (rule.pair_needs p a s d) (rule.pair_needs p b s d) (pair_down s d) cs h

  -- a site and its least one in the smaller assignment hold the same in the larger one
  same_items : (s : ℕ) → s < length p.sites → AllHold k b (tie p a (p.places.item s) (p.places.item (leader a.same s)))
  same_items s lt =
      let l : leader u (leader a.same s) ≡ leader u s = f.less.same.by (leader a.same s) s (f.leads s) in
      let one = f.items s lt in
      let two = f.items (leader a.same s) (f.within s) in
      let c : ℕ = p.places.item s in
      let d : ℕ = p.places.item (leader a.same s) in
      let there : Below k u (at b c) (at b d) =
      below_on k f.classes.tree u (at b c) (at b (p.places.item (leader u s))) one.there (at b d)
      (subst (λ m. Below k u (at b (p.places.item m)) (at b d)) l two.back) in
      let back : Below k u (at b d) (at b c) =
      below_on k f.classes.tree u (at b d) (at b (p.places.item (leader u s)))
      (subst (λ m. Below k u (at b d) (at b (p.places.item m))) l two.there) (at b c) one.back in (
        λ m. (below_on k f.classes.tree u (at a d) (at b d) (f.less.cells d) (at b c) back, tt),
        (λ m. (below_on k f.classes.tree u (at a c) (at b c) (f.less.cells c) (at b d) there, tt), tt),
      )

  same_keys : (s : ℕ) → s < length p.sites → AllHold k b (tie p a (p.places.key s) (p.places.key (leader a.same s)))
  same_keys s lt =
      let l : leader u (leader a.same s) ≡ leader u s = f.less.same.by (leader a.same s) s (f.leads s) in
      let one = f.keys s lt in
      let two = f.keys (leader a.same s) (f.within s) in
      let c : ℕ = p.places.key s in
      let d : ℕ = p.places.key (leader a.same s) in
      let there : Below k u (at b c) (at b d) =
      below_on k f.classes.tree u (at b c) (at b (p.places.key (leader u s))) one.there (at b d)
      (subst (λ m. Below k u (at b (p.places.key m)) (at b d)) l two.back) in
      let back : Below k u (at b d) (at b c) =
      below_on k f.classes.tree u (at b d) (at b (p.places.key (leader u s)))
      (subst (λ m. Below k u (at b d) (at b (p.places.key m))) l two.there) (at b c) one.back in (
        λ m. (below_on k f.classes.tree u (at a d) (at b d) (f.less.cells d) (at b c) back, tt),
        (λ m. (below_on k f.classes.tree u (at a c) (at b c) (f.less.cells c) (at b d) there, tt), tt),
      )

  site_down : (s : ℕ) → s < length p.sites → (site : Site) → AllHold k b (rule.site_needs p b s site) → AllHold k b (rule.site_needs p a s site)
  site_down s lt site h =
      hold_both k b (tie p a (p.places.item s) (p.places.item (leader a.same s)))
      (tie p a (p.places.key s) (p.places.key (leader a.same s)) ++ when (mark a (p.places.loaded s)) (rule.contents p a s site.dict site.prebuilt))
      (tie p b (p.places.item s) (p.places.item (leader b.same s)))
      (tie p b (p.places.key s) (p.places.key (leader b.same s)) ++ when (mark b (p.places.loaded s)) (rule.contents p b s site.dict site.prebuilt))
      (λ j. same_items s lt)
      (hold_both k b (tie p a (p.places.key s) (p.places.key (leader a.same s))) (when (mark a (p.places.loaded s)) (rule.contents p a s site.dict site.prebuilt))
      (tie p b (p.places.key s) (p.places.key (leader b.same s))) (when (mark b (p.places.loaded s)) (rule.contents p b s site.dict site.prebuilt))
      (λ j. same_keys s lt)
      (hold_when k b (mark a (p.places.loaded s)) (mark b (p.places.loaded s)) (rule.contents p a s site.dict site.prebuilt) (rule.contents p b s site.dict site.prebuilt)
      (f.less.marks (p.places.loaded s)) (contents_down s site.dict site.prebuilt))) h

  -- ---- one after the other

  numbered_down : {A : Type 0} → (na nb : ℕ → A → List Need) → (n : ℕ) (xs : List A) → ((i : ℕ) (x : A) → i < n + length xs → AllHold k b (nb i x) → AllHold k b (na i x))
      → AllHold k b (rule.numbered p b nb n xs) → AllHold k b (rule.numbered p a na n xs)
  numbered_down na nb n [] down h = tt
  numbered_down na nb n (x ∷ xs) down h =
      hold_both k b (na n x) (rule.numbered p a na (suc n) xs) (nb n x) (rule.numbered p b nb (suc n) xs)
      (down n x (omega arith)) (numbered_down na nb (suc n) xs (λ i y lt. down i y (omega (arith, lt)))) h

  abbrev GraphsFree : ℕ → List Graph → Type 0
  GraphsFree n [] = Unit {0}
  GraphsFree n (g ∷ gs) = BlocksFree p a b f n g g.blocks × GraphsFree (suc n) gs

  graphs_down : (n : ℕ) (gs : List Graph) → GraphsFree n gs → AllHold k b (rule.numbered p b (rule.graph_needs p b) n gs) → AllHold k b (rule.numbered p a (rule.graph_needs p a) n gs)
  graphs_down n [] i h = tt
  graphs_down n (g ∷ gs) i h =
      hold_both k b (rule.graph_needs p a n g) (rule.numbered p a (rule.graph_needs p a) (suc n) gs) (rule.graph_needs p b n g) (rule.numbered p b (rule.graph_needs p b) (suc n) gs)
      (graph_down p a b f n g i.0) (graphs_down (suc n) gs i.1) h

  pub needs_down : GraphsFree zero p.graphs → AllHold k b (rule.needs p b) → AllHold k b (rule.needs p a)
  needs_down i h =
      hold_both k b (rule.entry_needs p a)
      (rule.numbered p a (rule.start_needs p a) zero p.callees ++ (rule.numbered p a (rule.graph_needs p a) zero p.graphs ++ rule.numbered p a (rule.site_needs p a) zero p.sites))
      (rule.entry_needs p b)
      (rule.numbered p b (rule.start_needs p b) zero p.callees ++ (rule.numbered p b (rule.graph_needs p b) zero p.graphs ++ rule.numbered p b (rule.site_needs p b) zero p.sites))
      entry_down
      (hold_both k b (rule.numbered p a (rule.start_needs p a) zero p.callees)
      (rule.numbered p a (rule.graph_needs p a) zero p.graphs ++ rule.numbered p a (rule.site_needs p a) zero p.sites)
      (rule.numbered p b (rule.start_needs p b) zero p.callees)
      (rule.numbered p b (rule.graph_needs p b) zero p.graphs ++ rule.numbered p b (rule.site_needs p b) zero p.sites)
      (numbered_down (rule.start_needs p a) (rule.start_needs p b) zero p.callees (λ n c lt. start_down n c))
      (hold_both k b (rule.numbered p a (rule.graph_needs p a) zero p.graphs) (rule.numbered p a (rule.site_needs p a) zero p.sites)
      (rule.numbered p b (rule.graph_needs p b) zero p.graphs) (rule.numbered p b (rule.site_needs p b) zero p.sites)
      (graphs_down zero p.graphs i)
      (numbered_down (rule.site_needs p a) (rule.site_needs p b) zero p.sites (λ n s lt. let l : n < length p.sites = omega (arith, lt) in site_down n l s)))) h

-- ---- rules by their numbers

module _ (k : List ClassInfo) (b : Assignment) where
  hold_at : (ns : List Need) (r : ℕ) → AllHold k b ns → Holds k b (get_or ns r rule.no_need)
  hold_at [] zero h = λ lt. tt
  hold_at [] (suc r) h = λ lt. tt
  hold_at (n ∷ ns) zero h = h.0
  hold_at (n ∷ ns) (suc r) h = hold_at ns r h.1

  hold_all : (ns : List Need) → ((r : ℕ) → Holds k b (get_or ns r rule.no_need)) → AllHold k b ns
  hold_all [] h = tt
  hold_all (n ∷ ns) h = (h zero, hold_all ns (λ r. h (suc r)))

  -- what is asked of each site
  site_at : (p : Whole) (n s : ℕ) (sites : List Site) → s < length sites → AllHold k b (rule.numbered p b (rule.site_needs p b) n sites)
      → AllHold k b (tie p b (p.places.item (n + s)) (p.places.item (leader b.same (n + s))) ++ tie p b (p.places.key (n + s)) (p.places.key (leader b.same (n + s))))
  site_at p n s [] lt h = absurd (omega (arith, lt))
  site_at p n zero (site ∷ sites) lt h = first_site p n site sites h
    where
      first_site : (p : Whole) (n : ℕ) (site : Site) (sites : List Site) → AllHold k b (rule.numbered p b (rule.site_needs p b) n (site ∷ sites))
          → AllHold k b (tie p b (p.places.item (n + zero)) (p.places.item (leader b.same (n + zero))) ++ tie p b (p.places.key (n + zero)) (p.places.key (leader b.same (n + zero))))
      first_site p n site sites h =
          let e : n + zero ≡ n = omega arith in
          let all = hold_left k b (rule.site_needs p b n site) (rule.numbered p b (rule.site_needs p b) (suc n) sites) h in
          let items = hold_left k b (tie p b (p.places.item n) (p.places.item (leader b.same n)))
          (tie p b (p.places.key n) (p.places.key (leader b.same n)) ++ when (mark b (p.places.loaded n)) (rule.contents p b n site.dict site.prebuilt)) all in
          let more = hold_right k b (tie p b (p.places.item n) (p.places.item (leader b.same n)))
          (tie p b (p.places.key n) (p.places.key (leader b.same n)) ++ when (mark b (p.places.loaded n)) (rule.contents p b n site.dict site.prebuilt)) all in
          let keys = hold_left k b (tie p b (p.places.key n) (p.places.key (leader b.same n))) (when (mark b (p.places.loaded n)) (rule.contents p b n site.dict site.prebuilt)) more in
          subst (λ m. AllHold k b (tie p b (p.places.item m) (p.places.item (leader b.same m)) ++ tie p b (p.places.key m) (p.places.key (leader b.same m)))) (sym e)
          (hold_append k b (tie p b (p.places.item n) (p.places.item (leader b.same n))) (tie p b (p.places.key n) (p.places.key (leader b.same n))) items keys)
  site_at p n (suc s) (site ∷ sites) lt h =
      let e : suc n + s ≡ n + suc s = omega arith in
      subst (λ m. AllHold k b (tie p b (p.places.item m) (p.places.item (leader b.same m)) ++ tie p b (p.places.key m) (p.places.key (leader b.same m)))) e
      (site_at p (suc n) s sites (omega (arith, lt)) (hold_right k b (rule.site_needs p b n site) (rule.numbered p b (rule.site_needs p b) (suc n) sites) h))

module _ (p : Whole) (classes : HasClasses p.tables) (spots : ℕ → Bool) (start : Assignment) (placed : IsPlaced p spots start) where
  abbrev c : List ClassInfo
  c = p.tables.classes

  module _ (a b : Assignment) (ta : IsTable (length start.same) a.same) (less : Less c a b) (fits : Fits c start b) (closed : AllHold c b (rule.needs p b)) (free : Free spots b) where
    sites_hold : AllHold c b (rule.numbered p b (rule.site_needs p b) zero p.sites)
    sites_hold =
        hold_right c b (rule.numbered p b (rule.graph_needs p b) zero p.graphs) (rule.numbered p b (rule.site_needs p b) zero p.sites)
        (hold_right c b (rule.numbered p b (rule.start_needs p b) zero p.callees)
        (rule.numbered p b (rule.graph_needs p b) zero p.graphs ++ rule.numbered p b (rule.site_needs p b) zero p.sites)
        (hold_right c b (rule.entry_needs p b)
        (rule.numbered p b (rule.start_needs p b) zero p.callees ++ (rule.numbered p b (rule.graph_needs p b) zero p.graphs ++ rule.numbered p b (rule.site_needs p b) zero p.sites)) closed))

    inside : (s : ℕ) → leader b.same s < length p.sites
    inside s = let l : leader b.same s < length start.same = fits.table.sites s in omega (arith, l, placed.sites)

    item_in : (s : ℕ) → s < length p.sites → p.places.item s < length b.cells
    item_in s lt = let l : p.places.item s < length start.cells = placed.items s lt in omega (arith, l, fits.cells)

    key_in : (s : ℕ) → s < length p.sites → p.places.key s < length b.cells
    key_in s lt = let l : p.places.key s < length start.cells = placed.keys s lt in omega (arith, l, fits.cells)

    tied : (s : ℕ) → s < length p.sites
        → AllHold c b (tie p b (p.places.item s) (p.places.item (leader b.same s)) ++ tie p b (p.places.key s) (p.places.key (leader b.same s)))
    tied s lt =
        let e : zero + s ≡ s = omega arith in
        subst (λ m. AllHold c b (tie p b (p.places.item m) (p.places.item (leader b.same m)) ++ tie p b (p.places.key m) (p.places.key (leader b.same m)))) e
        (site_at c b p zero s p.sites lt sites_hold)

    facts : Facts p a b
    facts = record {
      classes = classes;
      less = less;
      formed = fits.formed;
      leads = ta.leads;
      within = λ s. let l : leader a.same s < length start.same = ta.sites s in omega (arith, l, placed.sites);
      within_too = inside;
      items = λ s lt. let h = hold_left c b (tie p b (p.places.item s) (p.places.item (leader b.same s))) (tie p b (p.places.key s) (p.places.key (leader b.same s))) (tied s lt) in
          record { there = (h.1.0 (item_in (leader b.same s) (inside s))).0; back = (h.0 (item_in s lt)).0 };
      keys = λ s lt. let h = hold_right c b (tie p b (p.places.item s) (p.places.item (leader b.same s))) (tie p b (p.places.key s) (p.places.key (leader b.same s))) (tied s lt) in
          record { there = (h.1.0 (key_in (leader b.same s) (inside s))).0; back = (h.0 (key_in s lt)).0 };
      item_there = item_in;
      key_there = key_in;
      item_free = λ s. free (p.places.item s) (placed.item_spots s);
      key_free = λ s. free (p.places.key s) (placed.key_spots s);
    }

    ops_free : (g : ℕ) (os : List Op) → OpSpots p spots (length start.cells) g os → OpsFree p a b facts g os
    ops_free g [] h = tt
    ops_free g (o ∷ os) h =
        let l : p.places.variable g o.result < length start.cells = h.0.1 in
        ((free (p.places.variable g o.result) h.0.0, omega (arith, l, fits.cells)), ops_free g os h.1)

    blocks_free : (g : ℕ) (graph : Graph) (bs : List Block) → BlockSpots p spots (length start.cells) g bs → BlocksFree p a b facts g graph bs
    blocks_free g graph [] h = tt
    blocks_free g graph (x ∷ bs) h = (ops_free g x.ops h.0, blocks_free g graph bs h.1)

    graphs_free : (g : ℕ) (gs : List Graph) → GraphSpots p spots (length start.cells) g gs → GraphsFree p a b facts g gs
    graphs_free g [] h = tt
    graphs_free g (graph ∷ gs) h = (blocks_free g graph graph.blocks h.0, graphs_free (suc g) gs h.1)

    all_down : AllHold c b (rule.needs p a)
    all_down = needs_down p a b facts (graphs_free zero p.graphs placed.results) closed

  pub rules_monotone : Monotone c (rule.rules p) spots start
  rules_monotone r a b ta less fits closed free =
      hold_at c b (rule.needs p a) r (all_down a b ta less fits (hold_all c b (rule.needs p b) closed) free)

  pub grown_by_rules : IsTable (length start.same) start.same → (a : Assignment) → Grown c (rule.rules p) start a → IsLeast c (rule.rules p) spots start a
  grown_by_rules t a g = grown_is_least c classes.tree (rule.rules p) spots start t rules_monotone a g
