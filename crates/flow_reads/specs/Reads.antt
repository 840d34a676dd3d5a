-- Blocks that read their own variables alone.
use Rattle.std.specs.Prelude.{◌≡◌, ◌⊎◌, ℕ, List, [], ◌∷◌, ◌++◌, map, Option, Some, None}
use Rattle.flow_graph.specs.declared.graph.Block.{Block}
use Rattle.flow_graph.specs.declared.graph.Exit.{Exit}
use Rattle.flow_graph.specs.declared.graph.Exit.TheVariants as exit
use Rattle.flow_graph.specs.declared.graph.Link.{Link}
use Rattle.flow_graph.specs.declared.graph.Op.{Op}

-- the results of operations
abbrev pub results : List Op → List ℕ
results ops = map (λ op. op.result) ops

abbrev pub variables_of : Block → List ℕ
variables_of b = b.inputs ++ results b.ops

-- one of them
abbrev pub In : List ℕ → ℕ → Type 0
In [] u = ⊥
In (v ∷ vs) u = (v ≡ u) ⊎ In vs u

-- of these variables
module _ (vs : List ℕ) where
  -- each is one of them
  abbrev pub AreOf : List ℕ → Type 0
  AreOf [] = Unit {0}
  AreOf (u ∷ us) = In vs u × AreOf us

  abbrev pub OpsRead : List Op → Type 0
  OpsRead [] = Unit {0}
  OpsRead (o ∷ os) = AreOf o.args × OpsRead os

  abbrev pub LinksRead : List (ℕ × Link) → Type 0
  LinksRead [] = Unit {0}
  LinksRead (l ∷ links) = AreOf l.1.args × LinksRead links

  abbrev pub OtherReads : Option Link → Type 0
  OtherReads None = Unit {0}
  OtherReads (Some l) = AreOf l.args

  abbrev pub ExitReads : Exit → Type 0
  ExitReads (exit.Goto l) = AreOf l.args
  ExitReads (exit.If v l r) = In vs v × AreOf l.args × AreOf r.args
  ExitReads (exit.OnRaise v links other norm) = LinksRead links × OtherReads other × AreOf norm.args
  ExitReads (exit.Return v) = In vs v
  ExitReads (exit.Raise v) = In vs v

-- the operands of its operations, what is tested, returned or raised, and what its links pass on are variables of the block
abbrev pub ReadsOwn : Block → Type 0
ReadsOwn b = OpsRead (variables_of b) b.ops × ExitReads (variables_of b) b.exit
