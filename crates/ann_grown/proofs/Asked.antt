-- Parts of all that the graphs ask.
use Rattle.std.proofs.Common.{◌≡◌, ◌+◌, ℕ, zero, suc, Bool, true, false, List, [], ◌∷◌, ◌++◌, Some, refl, sym, ap, ◌∙◌, subst, inl, inr, arith}
use Rattle.std.specs.Prelude.{slice_get, is_some, unwrap_or}
use Rattle.std.specs.List.{flat_map}
use Rattle.rpy_tree.specs.declared.program.Site.{Site}
use Rattle.flow_graph.specs.declared.graph.Op.{Op}
use Rattle.flow_graph.specs.declared.graph.Block.{Block}
use Rattle.flow_graph.specs.declared.graph.Graph.{Graph}
use Rattle.ann_lattice.specs.Assign.{Assignment, mark, Need}
use Rattle.ann_laws.proofs.Pairs.{no}
use Rattle.ann_rules.specs.Program.{Whole, Callee}
use Rattle.ann_rules.specs.Asks.{when, from_each}
use Rattle.ann_rules.specs.Rules as rule
use Rattle.ann_grown.specs.Partial.{AreOf}

from_zero : (n : ℕ) → 0 + n ≡ n
from_zero n = omega arith

some_same : {A : Type 0} → (x y : A) → Some x ≡ Some y → x ≡ y
some_same x y e = ap (λ o. unwrap_or o x) e

-- ---- lists

pub of_none : (ns : List Need) → AreOf [] ns
of_none ns n h = absurd h

pub of_self : (ns : List Need) → AreOf ns ns
of_self ns n h = h

pub of_on : (ms ns os : List Need) → AreOf ms ns → AreOf ns os → AreOf ms os
of_on ms ns os f g n h = g n (f n h)

pub of_left : (ms ns : List Need) → AreOf ms (ms ++ ns)
of_left [] ns n h = absurd h
of_left (m ∷ ms) ns n (inl e) = inl e
of_left (m ∷ ms) ns n (inr h) = inr (of_left ms ns n h)

pub of_right : (ms ns : List Need) → AreOf ns (ms ++ ns)
of_right [] ns n h = h
of_right (m ∷ ms) ns n h = inr (of_right ms ns n h)

pub of_when : (c : Bool) (ns : List Need) → c ≡ true → AreOf ns (when c ns)
of_when true ns e n h = h
of_when false ns e n h = absurd (no e)

-- what is asked only where this holds
pub when_of : (c : Bool) (ms ns : List Need) → (c ≡ true → AreOf ms ns) → AreOf (when c ms) ns
when_of true ms ns f n h = f refl n h
when_of false ms ns f n h = absurd h

pub of_item : {A : Type 0} → (f : A → List Need) (xs : List A) (i : ℕ) (x : A) → slice_get xs i ≡ Some x → AreOf (f x) (from_each f xs)
of_item f [] i x e = absurd (no (ap is_some e))
of_item f (y ∷ xs) zero x e = subst (λ z. AreOf (f z) (f y ++ from_each f xs)) (some_same y x e) (of_left (f y) (from_each f xs))
of_item f (y ∷ xs) (suc i) x e = of_on (f x) (from_each f xs) (f y ++ from_each f xs) (of_item f xs i x e) (of_right (f y) (from_each f xs))

module _ (p : Whole) (a : Assignment) where
  of_numbered : {A : Type 0} → (f : ℕ → A → List Need) (n i : ℕ) (xs : List A) (x : A) → slice_get xs i ≡ Some x → AreOf (f (n + i) x) (rule.numbered p a f n xs)
  of_numbered f n i [] x e = absurd (no (ap is_some e))
  of_numbered f n zero (y ∷ xs) x e =
      subst (λ z. AreOf (f (n + zero) z) (f n y ++ rule.numbered p a f (suc n) xs)) (some_same y x e)
      (subst (λ m. AreOf (f m y) (f n y ++ rule.numbered p a f (suc n) xs)) (plus_zero n) (of_left (f n y) (rule.numbered p a f (suc n) xs)))
    where
      plus_zero : (n : ℕ) → n ≡ n + zero
      plus_zero n = omega arith
  of_numbered f n (suc i) (y ∷ xs) x e =
      subst (λ m. AreOf (f m x) (f n y ++ rule.numbered p a f (suc n) xs)) (plus_suc n i)
      (of_on (f (suc n + i) x) (rule.numbered p a f (suc n) xs) (f n y ++ rule.numbered p a f (suc n) xs) (of_numbered f (suc n) i xs x e) (of_right (f n y) (rule.numbered p a f (suc n) xs)))
    where
      plus_suc : (n i : ℕ) → suc n + i ≡ n + suc i
      plus_suc n i = omega arith

  -- ---- functions, sites and graphs

  abbrev sites : List Need
  sites = rule.numbered p a (rule.site_needs p a) zero p.sites

  abbrev after_starts : List Need
  after_starts = rule.numbered p a (rule.graph_needs p a) zero p.graphs ++ sites

  abbrev after_entry : List Need
  after_entry = rule.numbered p a (rule.start_needs p a) zero p.callees ++ after_starts

  pub of_entry : AreOf (rule.entry_needs p a) (rule.needs p a)
  of_entry = of_left (rule.entry_needs p a) after_entry

  behind_entry : (ns : List Need) → AreOf ns after_entry → AreOf ns (rule.needs p a)
  behind_entry ns h = of_on ns after_entry (rule.needs p a) h (of_right (rule.entry_needs p a) after_entry)

  pub of_start : (f : ℕ) (c : Callee) → slice_get p.callees f ≡ Some c → AreOf (rule.start_needs p a f c) (rule.needs p a)
  of_start f c e =
      behind_entry (rule.start_needs p a f c)
      (of_on (rule.start_needs p a f c) (rule.numbered p a (rule.start_needs p a) zero p.callees) after_entry
      (subst (λ m. AreOf (rule.start_needs p a m c) (rule.numbered p a (rule.start_needs p a) zero p.callees)) (from_zero f)
      (of_numbered (rule.start_needs p a) zero f p.callees c e))
      (of_left (rule.numbered p a (rule.start_needs p a) zero p.callees) after_starts))

  behind_starts : (ns : List Need) → AreOf ns after_starts → AreOf ns (rule.needs p a)
  behind_starts ns h = behind_entry ns (of_on ns after_starts after_entry h (of_right (rule.numbered p a (rule.start_needs p a) zero p.callees) after_starts))

  pub of_site : (s : ℕ) (site : Site) → slice_get p.sites s ≡ Some site → AreOf (rule.site_needs p a s site) (rule.needs p a)
  of_site s site e =
      behind_starts (rule.site_needs p a s site)
      (of_on (rule.site_needs p a s site) sites after_starts
      (subst (λ m. AreOf (rule.site_needs p a m site) sites) (from_zero s) (of_numbered (rule.site_needs p a) zero s p.sites site e))
      (of_right (rule.numbered p a (rule.graph_needs p a) zero p.graphs) sites))

  module _ (g : ℕ) (graph : Graph) (e : slice_get p.graphs g ≡ Some graph) where
    of_graph : AreOf (rule.graph_needs p a g graph) (rule.needs p a)
    of_graph =
        behind_starts (rule.graph_needs p a g graph)
        (of_on (rule.graph_needs p a g graph) (rule.numbered p a (rule.graph_needs p a) zero p.graphs) after_starts
        (subst (λ m. AreOf (rule.graph_needs p a m graph) (rule.numbered p a (rule.graph_needs p a) zero p.graphs)) (from_zero g)
        (of_numbered (rule.graph_needs p a) zero g p.graphs graph e))
        (of_left (rule.numbered p a (rule.graph_needs p a) zero p.graphs) sites))

    -- ---- the results of one node

    abbrev ops : List Op
    ops = rule.all_ops p a g graph graph.blocks

    abbrev ties : List Need
    ties = rule.tie_ops p a g graph ops

    pub of_ties : AreOf ties (rule.needs p a)
    of_ties = of_on ties (rule.graph_needs p a g graph) (rule.needs p a) (of_right (rule.blocks_needs p a g graph zero graph.blocks) ties) of_graph

    -- an operation of a block is one of the graph
    op_append : (xs ys : List Op) (j : ℕ) (o : Op) → slice_get xs j ≡ Some o → (f : Op → List Need) → AreOf (f o) (from_each f (xs ++ ys))
    op_append xs ys j o e f = of_on (f o) (from_each f xs) (from_each f (xs ++ ys)) (of_item f xs j o e) (each_left f xs ys)
      where
        each_left : (f : Op → List Need) (xs ys : List Op) → AreOf (from_each f xs) (from_each f (xs ++ ys))
        each_left f [] ys n h = absurd h
        each_left f (x ∷ xs) ys n h = both (f x) (from_each f xs) (from_each f (xs ++ ys)) (each_left f xs ys) n h
          where
            both : (ls ms ns : List Need) → AreOf ms ns → AreOf (ls ++ ms) (ls ++ ns)
            both [] ms ns i n h = i n h
            both (l ∷ ls) ms ns i n (inl e) = inl e
            both (l ∷ ls) ms ns i n (inr h) = inr (both ls ms ns i n h)

    op_behind : (xs ys : List Op) (f : Op → List Need) → AreOf (from_each f ys) (from_each f (xs ++ ys))
    op_behind [] ys f = of_self (from_each f ys)
    op_behind (x ∷ xs) ys f =
        of_on (from_each f ys) (from_each f (xs ++ ys)) (f x ++ from_each f (xs ++ ys)) (op_behind xs ys f) (of_right (f x) (from_each f (xs ++ ys)))

    each_op : (bs : List Block) (i : ℕ) (b : Block) → slice_get bs i ≡ Some b → (j : ℕ) (o : Op) → slice_get b.ops j ≡ Some o → (f : Op → List Need)
        → AreOf (f o) (from_each f (flat_map (λ c. c.ops) bs))
    each_op [] i b e j o h f = absurd (no (ap is_some e))
    each_op (c ∷ bs) zero b e j o h f =
        op_append c.ops (flat_map (λ c. c.ops) bs) j o (subst (λ d. slice_get d.ops j ≡ Some o) (sym (some_same c b e)) h) f
    each_op (c ∷ bs) (suc i) b e j o h f =
        of_on (f o) (from_each f (flat_map (λ c. c.ops) bs)) (from_each f (c.ops ++ flat_map (λ c. c.ops) bs)) (each_op bs i b e j o h f)
        (op_behind c.ops (flat_map (λ c. c.ops) bs) f)

    pub of_tie : (i : ℕ) (b : Block) → slice_get graph.blocks i ≡ Some b → (j : ℕ) (o : Op) → slice_get b.ops j ≡ Some o
        → (k : ℕ) (c : Block) → slice_get graph.blocks k ≡ Some c → (l : ℕ) (q : Op) → slice_get c.ops l ≡ Some q → AreOf (rule.tie_with p a g graph o q) (rule.needs p a)
    of_tie i b e j o h k c d l q m =
        of_on (rule.tie_with p a g graph o q) ties (rule.needs p a)
        (of_on (rule.tie_with p a g graph o q) (from_each (rule.tie_with p a g graph o) ops) ties
        (each_op graph.blocks k c d l q m (rule.tie_with p a g graph o)) (each_op graph.blocks i b e j o h (λ o. from_each (rule.tie_with p a g graph o) ops)))
        of_ties

    -- ---- a block that is reached

    of_at : (n i : ℕ) (bs : List Block) (c : Block) → slice_get bs i ≡ Some c → mark a (p.places.block g (n + i)) ≡ true
        → AreOf (rule.block_needs p a g graph c) (rule.blocks_needs p a g graph n bs)
    of_at n i [] c f m = absurd (no (ap is_some f))
    of_at n zero (d ∷ bs) c f m =
        subst (λ z. AreOf (rule.block_needs p a g graph z) (when (mark a (p.places.block g n)) (rule.block_needs p a g graph d) ++ rule.blocks_needs p a g graph (suc n) bs)) (some_same d c f)
        (of_on (rule.block_needs p a g graph d) (when (mark a (p.places.block g n)) (rule.block_needs p a g graph d))
        (when (mark a (p.places.block g n)) (rule.block_needs p a g graph d) ++ rule.blocks_needs p a g graph (suc n) bs)
        (of_when (mark a (p.places.block g n)) (rule.block_needs p a g graph d) (ap (λ j. mark a (p.places.block g j)) (plus_zero n) ∙ m))
        (of_left (when (mark a (p.places.block g n)) (rule.block_needs p a g graph d)) (rule.blocks_needs p a g graph (suc n) bs)))
      where
        plus_zero : (n : ℕ) → n ≡ n + zero
        plus_zero n = omega arith
    of_at n (suc i) (d ∷ bs) c f m =
        of_on (rule.block_needs p a g graph c) (rule.blocks_needs p a g graph (suc n) bs)
        (when (mark a (p.places.block g n)) (rule.block_needs p a g graph d) ++ rule.blocks_needs p a g graph (suc n) bs)
        (of_at (suc n) i bs c f (ap (λ j. mark a (p.places.block g j)) (plus_suc n i) ∙ m))
        (of_right (when (mark a (p.places.block g n)) (rule.block_needs p a g graph d)) (rule.blocks_needs p a g graph (suc n) bs))
      where
        plus_suc : (n i : ℕ) → suc n + i ≡ n + suc i
        plus_suc n i = omega arith

    pub of_block : (n : ℕ) (c : Block) → slice_get graph.blocks n ≡ Some c → mark a (p.places.block g n) ≡ true → AreOf (rule.block_needs p a g graph c) (rule.needs p a)
    of_block n c f m =
        of_on (rule.block_needs p a g graph c) (rule.blocks_needs p a g graph zero graph.blocks) (rule.needs p a)
        (of_at zero n graph.blocks c f (ap (λ j. mark a (p.places.block g j)) (from_zero n) ∙ m))
        (of_on (rule.blocks_needs p a g graph zero graph.blocks) (rule.graph_needs p a g graph) (rule.needs p a) (of_left (rule.blocks_needs p a g graph zero graph.blocks) ties) of_graph)
