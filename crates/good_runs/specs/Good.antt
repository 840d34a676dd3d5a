-- The runs of programs that have types are good: what the laws of the lowering ask of them besides.
use Rattle.std.specs.Prelude.{◌-◌, ◌^◌, ℕ, Bool, true, false, List, slice_get, unwrap_or, Option, Some, None}
use Rattle.rpy_tree.specs.declared.program.Program.{Program}
use Rattle.rpy_meaning.specs.Laws.{HasRoom}
use Rattle.resolved_laws.specs.Meant.{meant_by}
use Rattle.flow_graph.specs.declared.graph.Graphs.{Graphs}
use Rattle.flow_graph.specs.declared.graph.Op.{Op}
use Rattle.flow_meaning.specs.Machine.{world_of}
use Rattle.flow_meaning.specs.Meaning.{start}
use Rattle.flow_runs.specs.Runs.{AreGood}
use Rattle.run_laws.specs.Points.{container_of}
use Rattle.ann_element.specs.declared.annotation.Annotation.{Annotation}
use Rattle.ann_lattice.specs.Assign.{Assignment}
use Rattle.ann_lattice.specs.Shape.{Shape, Dct, Truth}
use Rattle.ann_rules.specs.Program.{Whole}
use Rattle.ann_rules.specs.Rules.{value}
use Rattle.ann_needs.specs.View.{assignment}
use Rattle.rpy_checked.specs.Settles.{HasTypes}
use Rattle.sound_programs.specs.Whole.{whole_of, ReadsAreBound, IsWhole}
use Rattle.sound_programs.specs.Told.{RunsAreAsMade}

-- the annotation says that the class is made
abbrev pub made_in : Annotation → ℕ → Bool
made_in n c = unwrap_or (slice_get n.made c) false

abbrev pub is_dict : Shape → Bool
is_dict (Dct s n) = true
is_dict other = false

abbrev pub truth_in : Shape → Option Bool
truth_in (Truth known) = known
truth_in other = None

module _ (w : Whole) (a : Assignment) where
  -- the operand in the place of a list or dict is known to be a dict, or `None`
  abbrev pub is_dict_at : ℕ → Option ℕ → Bool
  is_dict_at g None = false
  is_dict_at g (Some v) = is_dict (value w a g v)

  abbrev pub is_keyed : ℕ → Op → Bool
  is_keyed g o = is_dict_at g (container_of o.op o.args)

  -- the truth of a variable, where it is always the same
  abbrev pub truth_known : ℕ → ℕ → Option Bool
  truth_known g v = truth_in (value w a g v)

-- Of a program that has types each run is good from its start on, whose lists and dicts have room for its steps.
abbrev pub RunsAreGood : Type 0
RunsAreGood = (p : Program) (gs : Graphs) (n : Annotation) (types : HasTypes p gs n) → IsWhole p gs (assignment types.state) → ReadsAreBound (whole_of p gs) (assignment types.state)
    → (args : List (List ℕ)) (steps : ℕ) → RunsAreAsMade p gs (start (meant_by p) args steps)
    → HasRoom (2 ^ 62 - 1) (world_of (start (meant_by p) args steps)) → AreGood (meant_by p) gs (made_in n) (is_keyed (whole_of p gs) (assignment types.state)) (truth_known (whole_of p gs) (assignment types.state)) (start (meant_by p) args steps)
