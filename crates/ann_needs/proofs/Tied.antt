-- The operations whose results are values, by their nodes and results alone.
use Rattle.std.proofs.Common.{◌≡◌, ℕ, ◌==◌, ◌&&◌, Bool, true, false, if◌then◌else◌, List, [], ◌∷◌, ◌++◌, refl, ap, sym, ◌∙◌}
use Rattle.std.specs.List.{flat_map}
use Rattle.flow_graph.specs.declared.graph.Op.{Op}
use Rattle.flow_graph.specs.declared.graph.Block.{Block}
use Rattle.flow_graph.specs.declared.graph.Graph.{Graph}
use Rattle.ann_lattice.specs.Assign.{Assignment, Need}
use Rattle.ann_rules.specs.Program.{Whole}
use Rattle.ann_rules.specs.Asks as rule
use Rattle.ann_rules.specs.Rules as rules
use Rattle.ann_needs.specs.View.{valued, all_valued, tie_two, tie_with, tie_each, graph_ties}

-- a list with one more where this holds
abbrev more_if : Bool → ℕ × ℕ → List (ℕ × ℕ) → List (ℕ × ℕ)
more_if b x xs = if b then x ∷ xs else xs

more_append : (b : Bool) (x : ℕ × ℕ) (xs ys zs : List (ℕ × ℕ)) → zs ≡ xs ++ ys → more_if b x zs ≡ more_if b x xs ++ ys
more_append true x xs ys zs e = ap (λ r. x ∷ r) e
more_append false x xs ys zs e = e

valued_append : (os qs : List Op) → valued (os ++ qs) ≡ valued os ++ valued qs
valued_append [] qs = refl
valued_append (o ∷ os) qs = more_append o.value (o.node, o.result) (valued os) (valued qs) (valued (os ++ qs)) (valued_append os qs)

pub all_of : (bs : List Block) → valued (flat_map (λ b. b.ops) bs) ≡ all_valued bs
all_of [] = refl
all_of (b ∷ bs) = valued_append b.ops (flat_map (λ b. b.ops) bs) ∙ ap (λ r. valued b.ops ++ r) (all_of bs)

module _ (p : Whole) (a : Assignment) (g : ℕ) (graph : Graph) where
  abbrev tied_if : Bool → Bool → ℕ → Op → Op → List Need
  tied_if b c n o q = rule.when (b && (c && (q.node == n))) (rule.tie p a (p.places.variable g o.result) (p.places.variable g q.result))

  with_one : (c : Bool) (o q : Op) (rest : List Need) (qs : List (ℕ × ℕ)) → rest ≡ tie_with p a g (o.node, o.result) qs
      → tied_if true c o.node o q ++ rest ≡ tie_with p a g (o.node, o.result) (more_if c (q.node, q.result) qs)
  with_one true o q rest qs e = ap (λ r. rule.when (q.node == o.node) (rule.tie p a (p.places.variable g o.result) (p.places.variable g q.result)) ++ r) e
  with_one false o q rest qs e = e

  with_all : (b : Bool) (o : Op) (qs : List Op) → o.value ≡ b → rule.from_each (rules.tie_with p a g graph o) qs ≡ (if b then tie_with p a g (o.node, o.result) (valued qs) else [])
  with_all true o [] e = refl
  with_all true o (q ∷ qs) e =
      ap (λ b. tied_if b q.value o.node o q ++ rule.from_each (rules.tie_with p a g graph o) qs) e
      ∙ with_one q.value o q (rule.from_each (rules.tie_with p a g graph o) qs) (valued qs) (with_all true o qs e)
  with_all false o [] e = refl
  with_all false o (q ∷ qs) e = ap (λ b. tied_if b q.value o.node o q ++ rule.from_each (rules.tie_with p a g graph o) qs) e ∙ with_all false o qs e

  one_more : (b : Bool) (x : ℕ × ℕ) (first rest : List Need) (xs ys : List (ℕ × ℕ)) → first ≡ (if b then tie_with p a g x ys else []) → rest ≡ tie_each p a g xs ys
      → first ++ rest ≡ tie_each p a g (more_if b x xs) ys
  one_more true x first rest xs ys e f = ap (λ r. r ++ rest) e ∙ ap (λ r. tie_with p a g x ys ++ r) f
  one_more false x first rest xs ys e f = ap (λ r. r ++ rest) e ∙ f

  each : (os qs : List Op) → rule.from_each (λ o. rule.from_each (rules.tie_with p a g graph o) qs) os ≡ tie_each p a g (valued os) (valued qs)
  each [] qs = refl
  each (o ∷ os) qs = one_more o.value (o.node, o.result) (rule.from_each (rules.tie_with p a g graph o) qs) (rule.from_each (λ o. rule.from_each (rules.tie_with p a g graph o) qs) os) (valued os) (valued qs) (with_all o.value o qs refl) (each os qs)

  pub ties : tie_each p a g (all_valued graph.blocks) (all_valued graph.blocks) ≡ graph_ties p a g graph
  ties = ap (λ vs. tie_each p a g vs vs) (sym (all_of graph.blocks)) ∙ sym (each (flat_map (λ b. b.ops) graph.blocks) (flat_map (λ b. b.ops) graph.blocks))
