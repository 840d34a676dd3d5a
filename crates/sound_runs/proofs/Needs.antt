-- Needs of a program's parts, among all of them.
use Rattle.std.proofs.Common.{◌≡◌, ℕ, zero, suc, ◌+◌, Bool, true, false, List, [], ◌∷◌, ◌++◌, Some, ap, sym, subst, ◌∙◌, arith}
use Rattle.std.specs.Prelude.{slice_get}
use Rattle.rpy_tree.specs.declared.program.ClassInfo.{ClassInfo}
use Rattle.rpy_tree.specs.declared.program.Site.{Site}
use Rattle.flow_graph.specs.declared.graph.Block.{Block}
use Rattle.flow_graph.specs.declared.graph.Graph.{Graph}
use Rattle.ann_lattice.specs.Assign.{Assignment, mark, Need}
use Rattle.ann_rules.specs.Program.{Callee, Whole}
use Rattle.ann_rules.specs.Asks.{when}
use Rattle.ann_rules.specs.Rules.{needs, entry_needs, numbered, start_needs, graph_needs, site_needs, block_needs, blocks_needs, exception_needs, ops_needs, tie_ops, all_ops}
use Rattle.sound_rows.specs.Sound.{AllMet}
use Rattle.sound_rows.proofs.Containers.{met_append}
use Rattle.sound_rows.proofs.Tools.{no}

pub met_when : (k : List ClassInfo) (a : Assignment) (b : Bool) (ns : List Need) → b ≡ true → AllMet k a (when b ns) → AllMet k a ns
met_when k a true ns e h = h
met_when k a false ns e h = absurd (no e)

module _ (p : Whole) (a : Assignment) (met : AllMet p.tables.classes a (needs p a)) where
  abbrev Met : List Need → Type 0
  Met ns = AllMet p.tables.classes a ns

  split : (ms ns : List Need) → Met (ms ++ ns) → Met ms × Met ns
  split ms ns h = met_append p.tables.classes a ms ns h

  some_same : {A : Type 0} (x y : A) → Some x ≡ Some y → x ≡ y
  some_same x y e = cc

  -- the needs of the part with a number
  numbered_at : {A : Type 0} (f : ℕ → A → List Need) (n k : ℕ) (xs : List A) (x : A) → Met (numbered p a f n xs) → slice_get xs k ≡ Some x → Met (f (k + n) x)
  numbered_at f n k [] x h e = cc
  numbered_at f n zero (y ∷ ys) x h e =
      let same : n ≡ 0 + n = omega arith in
      subst (λ m. Met (f m x)) same (subst (λ z. Met (f n z)) (some_same y x e) (split (f n y) (numbered p a f (suc n) ys) h).0)
  numbered_at f n (suc k) (y ∷ ys) x h e =
      let same : k + suc n ≡ suc k + n = omega arith in
      subst (λ m. Met (f m x)) same (numbered_at f (suc n) k ys x (split (f n y) (numbered p a f (suc n) ys) h).1 e)

  starts : Met (numbered p a (start_needs p a) 0 p.callees)
  starts = (split (numbered p a (start_needs p a) 0 p.callees) (numbered p a (graph_needs p a) 0 p.graphs ++ numbered p a (site_needs p a) 0 p.sites)
      (split (entry_needs p a) (numbered p a (start_needs p a) 0 p.callees ++ (numbered p a (graph_needs p a) 0 p.graphs ++ numbered p a (site_needs p a) 0 p.sites)) met).1).0

  graphs : Met (numbered p a (graph_needs p a) 0 p.graphs)
  graphs =
      (split (numbered p a (graph_needs p a) 0 p.graphs) (numbered p a (site_needs p a) 0 p.sites)
      (split (numbered p a (start_needs p a) 0 p.callees) (numbered p a (graph_needs p a) 0 p.graphs ++ numbered p a (site_needs p a) 0 p.sites)
      (split (entry_needs p a) (numbered p a (start_needs p a) 0 p.callees ++ (numbered p a (graph_needs p a) 0 p.graphs ++ numbered p a (site_needs p a) 0 p.sites)) met).1).1).0

  pub sites : Met (numbered p a (site_needs p a) 0 p.sites)
  sites =
      (split (numbered p a (graph_needs p a) 0 p.graphs) (numbered p a (site_needs p a) 0 p.sites)
      (split (numbered p a (start_needs p a) 0 p.callees) (numbered p a (graph_needs p a) 0 p.graphs ++ numbered p a (site_needs p a) 0 p.sites)
      (split (entry_needs p a) (numbered p a (start_needs p a) 0 p.callees ++ (numbered p a (graph_needs p a) 0 p.graphs ++ numbered p a (site_needs p a) 0 p.sites)) met).1).1).1

  pub entry : Met (entry_needs p a)
  entry = (split (entry_needs p a) (numbered p a (start_needs p a) 0 p.callees ++ (numbered p a (graph_needs p a) 0 p.graphs ++ numbered p a (site_needs p a) 0 p.sites)) met).0

  plus_zero : (n : ℕ) → n + 0 ≡ n
  plus_zero n = omega arith

  -- a function that is reached
  pub start_met : (f : ℕ) (c : Callee) → slice_get p.callees f ≡ Some c → Met (start_needs p a f c)
  start_met f c e = subst (λ n. Met (start_needs p a n c)) (plus_zero f) (numbered_at (start_needs p a) 0 f p.callees c starts e)

  pub site_met : (s : ℕ) (site : Site) → slice_get p.sites s ≡ Some site → Met (site_needs p a s site)
  site_met s site e = subst (λ n. Met (site_needs p a n site)) (plus_zero s) (numbered_at (site_needs p a) 0 s p.sites site sites e)

  block_from : (g : ℕ) (graph : Graph) (n k : ℕ) (blocks : List Block) (b : Block) → Met (blocks_needs p a g graph n blocks) → slice_get blocks k ≡ Some b → mark a (p.places.block g (k + n)) ≡ true
      → Met (block_needs p a g graph b)
  block_from g graph n k [] b h e m = cc
  block_from g graph n zero (c ∷ blocks) b h e m =
      let same : 0 + n ≡ n = omega arith in
      subst (λ x. Met (block_needs p a g graph x)) (some_same c b e)
      (met_when p.tables.classes a (mark a (p.places.block g n)) (block_needs p a g graph c) (sym (ap (λ x. mark a (p.places.block g x)) same) ∙ m)
      (split (when (mark a (p.places.block g n)) (block_needs p a g graph c)) (blocks_needs p a g graph (suc n) blocks) h).0)
  block_from g graph n (suc k) (c ∷ blocks) b h e m =
      let same : suc k + n ≡ k + suc n = omega arith in
      block_from g graph (suc n) k blocks b (split (when (mark a (p.places.block g n)) (block_needs p a g graph c)) (blocks_needs p a g graph (suc n) blocks) h).1 e
      (sym (ap (λ x. mark a (p.places.block g x)) same) ∙ m)

  -- a block that is reached
  pub block_met : (g n : ℕ) (graph : Graph) (b : Block) → slice_get p.graphs g ≡ Some graph → slice_get graph.blocks n ≡ Some b → mark a (p.places.block g n) ≡ true
      → Met (exception_needs p a g graph b.exit) × Met (ops_needs p a g graph b.ops b.exit)
  block_met g n graph b e f m =
      let whole = subst (λ x. Met (graph_needs p a x graph)) (plus_zero g) (numbered_at (graph_needs p a) 0 g p.graphs graph graphs e) in
      let blocks = (split (blocks_needs p a g graph 0 graph.blocks) (tie_ops p a g graph (all_ops p a g graph graph.blocks)) whole).0 in
      split (exception_needs p a g graph b.exit) (ops_needs p a g graph b.ops b.exit)
      (block_from g graph 0 n graph.blocks b blocks f (ap (λ x. mark a (p.places.block g x)) (plus_zero n) ∙ m))
