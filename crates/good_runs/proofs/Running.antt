-- Runs of programs that have types are good.
use Rattle.std.proofs.Common.{◌≡◌, ◌≤◌, ◌-◌, ◌^◌, ℕ, Bool, true, false, List, [], ◌∷◌, map, length, Option, Some, None, refl, sym, ap, ◌∙◌, subst, arith}
use Rattle.std.specs.Prelude.{slice_get, unwrap_or, ◌==◌, ◌&&◌}
use Rattle.std.proofs.lemmas.Bool.{eqb-true}
use Rattle.rpy_tree.specs.declared.program.Program.{Program}
use Rattle.rpy_tree.specs.Value.{Value}
use Rattle.rpy_meaning.specs.Tree as meaning
use Rattle.rpy_meaning.specs.Laws.{HasRoom}
use Rattle.rpy_meaning.specs.Operations.{truth_in as meant_truth}
use Rattle.rpy_meaning.specs.World.{World}
use Rattle.rpy_meaning.specs.declared.row.RowOp.{RowOp}
use Rattle.rpy_meaning.specs.declared.row.RowOp.TheVariants as row
use Rattle.resolved_laws.specs.Meant.{meant_by}
use Rattle.flow_graph.specs.declared.graph.Exit.{Exit}
use Rattle.flow_graph.specs.declared.graph.Exit.TheVariants as exit
use Rattle.flow_graph.specs.declared.graph.Graphs.{Graphs}
use Rattle.flow_graph.specs.declared.graph.Op.{Op}
use Rattle.flow_meaning.specs.Machine.{Bound, Frame, At, truth_of as truth_at, values_of, world_of}
use Rattle.flow_meaning.specs.Meaning.{start}
use Rattle.flow_runs.specs.Good as good
use Rattle.flow_runs.specs.Good.{InstanceIsBelow, IsOfClass, IsGood}
use Rattle.flow_runs.specs.Rooms.{RoomIsKept}
use Rattle.flow_runs.specs.Runs.{OperationsAreGood}
use Rattle.graph_told.specs.Told as told
use Rattle.graph_plain.specs.Made.{ProgramsTellTheTruth}
use Rattle.class_desc.specs.Tables.{tables}
use Rattle.ann_element.specs.declared.annotation.Annotation.{Annotation}
use Rattle.ann_lattice.specs.Assign.{Assignment, mark}
use Rattle.ann_rules.specs.Program.{Whole}
use Rattle.ann_rules.specs.Rules.{value, op_needs, ops_needs, goes_on}
use Rattle.ann_rules.specs.Asks.{when}
use Rattle.ann_needs.specs.View.{nowhere, assignment}
use Rattle.ann_layout.specs.Layout.{plan, planned}
use Rattle.rpy_checked.specs.Settles.{HasTypes}
use Rattle.typing_laws.proofs.Cells.{mark_seen}
use Rattle.ann_lattice.specs.Shape as shape
use Rattle.ann_lattice.specs.Shape.{Shape}
use Rattle.sound_values.specs.Values.{Sort}
use Rattle.sound_values.specs.Values as values
use Rattle.sound_values.specs.Heaps.{IsOf}
use Rattle.sound_rows.proofs.Whole.{all_reached}
use Rattle.sound_runs.specs.Graphs.{IsSettled}
use Rattle.sound_runs.specs.States.{Stands}
use Rattle.sound_runs.proofs.Env.{operands, read_is}
use Rattle.sound_runs.proofs.Steps.{bare, fits_of, split}
use Rattle.sound_programs.specs.Whole.{whole_of, IsWhole, ReadsAreBound}
use Rattle.sound_programs.specs.Never.{TypesAreSettled}
use Rattle.sound_programs.specs.Told.{RunsAreAsMade, RunsAreSound}
use Rattle.key_laws.specs.Keys.{KeysAreKeys, ProgramsHaveKeys}
use Rattle.good_runs.specs.Good.{made_in, is_keyed, truth_in, truth_known, RunsAreGood}
use Rattle.good_runs.proofs.Keys.{key_of_operation}
use Rattle.good_runs.proofs.Heaps.{all_whole, all_made}

-- ---- narrowings

class_told : (q : meaning.Program) (c : ℕ) (w : World) (x : Value) → told.IsOf q c w x → IsOfClass q c w x
class_told q c w x h = subst (λ v. IsOfClass q c w v) (sym h.is) (subst (λ o. InstanceIsBelow q c o) (sym h.there) h.below)

told_good : (q : meaning.Program) (o : RowOp) (w : World) (vs : List Value) → told.IsTold q o w vs → good.IsTold q o w vs
told_good q row.DropNone w vs h = subst (λ us. good.IsTold q row.DropNone w us) (sym h.1) h.2
told_good q row.OnlyNone w vs h = subst (λ us. good.IsTold q row.OnlyNone w us) (sym h) refl
told_good q row.FalseNone w vs h = subst (λ us. good.IsTold q row.FalseNone w us) (sym h.1) h.2
told_good q (row.Lower c) w vs h = subst (λ us. good.IsTold q (row.Lower c) w us) (sym h.1) (class_told q c w h.0 h.2)
told_good q o w vs h = tt

some_same : {A : Type 0} {x y : A} → Some x ≡ Some y → x ≡ y
some_same h = cc

both_equal : (a b c d : ℕ) → ((a == b) && (c == d)) ≡ true → (a ≡ b) × (c ≡ d)
both_equal a b c d h = by (a == b) refl h
  where
    by : (x : Bool) → (a == b) ≡ x → (x && (c == d)) ≡ true → (a ≡ b) × (c ≡ d)
    by true e f = (eqb-true a b e, eqb-true c d f)
    by false e f = absurd (let g : false ≡ true = f in cc)

-- ---- a sound state before an operation

module _ (p : Whole) (a : Assignment) (q : meaning.Program) (gs : Graphs) (settled : IsSettled p a q gs) (keys : KeysAreKeys p a) where
  key_good : (sorts : List Sort) (f : ℕ) (o : Op) (ops : List Op) (e : Exit) (env : List Bound) (instead : Option Value) (frames : List Frame) (world : World) (vs : List Value)
      → Stands p a q sorts (At f (o ∷ ops) e env instead frames world) → values_of env o.args ≡ Some vs → is_keyed p a f o ≡ true → good.KeyIsWhole o.op vs
  key_good sorts f o ops e env instead frames world vs h is keyed =
      let r = h.1.1 in
      let found = operands p a q sorts f env o.args r.vars r.rest.0.0 in
      let ms = split p a q gs settled (op_needs p a f o) (when (goes_on p a f o) (ops_needs p a f r.graph ops e)) r.met in
      let fits = fits_of p a q gs settled sorts f o found.values world h.0 found.are r.rest.0.1 ms.0 in
      let reached = all_reached (bare p a q gs settled sorts world h.0) (map (value p a f) o.args) found.values found.are in
      subst (λ us. good.KeyIsWhole o.op us) (some_same (sym found.there ∙ is)) (key_of_operation p a f keys sorts o.node (value p a f o.result) o.op o.args found.values keyed reached found.are fits)

-- ---- a sound state before a test

flag_told : (p : Whole) (a : Assignment) (sorts : List Sort) (world : World) (t : Shape) (x : Value) (b : Bool) → truth_in t ≡ Some b → IsOf p a sorts t x → meant_truth world x ≡ Some b
flag_told p a sorts world (shape.Truth (Some true)) x b k (values.flag known true less) = k
flag_told p a sorts world (shape.Truth (Some true)) x b k (values.flag known false less) = absurd less
flag_told p a sorts world (shape.Truth (Some false)) x b k (values.flag known true less) = absurd less
flag_told p a sorts world (shape.Truth (Some false)) x b k (values.flag known false less) = k
flag_told p a sorts world (shape.Truth None) x b k h = absurd (cc)
flag_told p a sorts world shape.Nothing x b k h = absurd (cc)
flag_told p a sorts world shape.NoneOnly x b k h = absurd (cc)
flag_told p a sorts world (shape.Num n) x b k h = absurd (cc)
flag_told p a sorts world (shape.Str w) x b k h = absurd (cc)
flag_told p a sorts world (shape.Tup xs) x b k h = absurd (cc)
flag_told p a sorts world (shape.Lst s n) x b k h = absurd (cc)
flag_told p a sorts world (shape.Dct s n) x b k h = absurd (cc)
flag_told p a sorts world (shape.Inst c n) x b k h = absurd (cc)
flag_told p a sorts world (shape.Fun fs n) x b k h = absurd (cc)
flag_told p a sorts world (shape.Clash o d) x b k h = absurd (cc)

test_told : (p : Whole) (a : Assignment) (q : meaning.Program) (sorts : List Sort) (f : ℕ) (e : Exit) (env : List Bound) (instead : Option Value) (frames : List Frame) (world : World) → Stands p a q sorts (At f [] e env instead frames world) → good.TestIsTold (truth_known p a f) e env world
test_told p a q sorts f (exit.If v one two) env instead frames world h = λ b known.
    let r = h.1.1 in
    let it = read_is p a q sorts f env v r.vars r.rest.0.0 in
    ap (truth_at world) it.there ∙ flag_told p a sorts world (value p a f v) it.bound b known it.is
test_told p a q sorts f (exit.Goto link) env instead frames world h = tt
test_told p a q sorts f (exit.OnRaise v links other norm) env instead frames world h = tt
test_told p a q sorts f (exit.Return v) env instead frames world h = tt
test_told p a q sorts f (exit.Raise v) env instead frames world h = tt

module _ (have : ProgramsHaveKeys) (room : RoomIsKept) (truth : ProgramsTellTheTruth) (settled : TypesAreSettled) (sound : RunsAreSound) where
  made_marks : (p : Program) (gs : Graphs) (n : Annotation) (types : HasTypes p gs n) → IsWhole p gs (assignment types.state) → (c : ℕ) → mark (assignment types.state) ((whole_of p gs).places.made c) ≡ true → made_in n c ≡ true
  made_marks p gs n types w c h =
      ap (λ (m : Annotation). unwrap_or (slice_get m.made c) false) types.settled.read.0
      ∙ mark_seen types.state few_cells few_marks (plan p gs (tables p)).places.made c ∙ h
    where
      parts : (length types.state.cells ≡ (planned p gs (tables p)).cells) × (length types.state.marks ≡ (planned p gs (tables p)).marks)
      parts = both_equal (length types.state.cells) (planned p gs (tables p)).cells (length types.state.marks) (planned p gs (tables p)).marks types.settled.closed.complete

      few_cells : length types.state.cells ≤ nowhere
      few_cells = let s = types.small.cells in let e = parts.0 in omega (arith, s, e)

      few_marks : length types.state.marks ≤ nowhere
      few_marks = let s = types.small.marks in let e = parts.1 in omega (arith, s, e)

  operations_are_good : (p : Program) (gs : Graphs) (n : Annotation) (types : HasTypes p gs n) → IsWhole p gs (assignment types.state) → ReadsAreBound (whole_of p gs) (assignment types.state) → (args : List (List ℕ)) (steps : ℕ) → RunsAreAsMade p gs (start (meant_by p) args steps)
      → HasRoom (2 ^ 62 - 1) (world_of (start (meant_by p) args steps)) → OperationsAreGood (meant_by p) gs (made_in n) (is_keyed (whole_of p gs) (assignment types.state)) (start (meant_by p) args steps)
  operations_are_good p gs n types w bound args steps made begins f o ops e env instead frames world vs reaches is =
      let a = assignment types.state in
      let keys = have p gs n types in
      let at = sound p gs n types w bound args steps made (At f (o ∷ ops) e env instead frames world) reaches in
      record {
        room = room (meant_by p) gs (2 ^ 62 - 1) (start (meant_by p) args steps) (At f (o ∷ ops) e env instead frames world) reaches begins;
        keys = all_whole (whole_of p gs) a keys (made_in n) (made_marks p gs n types w) at.0 at.0 world.heap at.1.0.objects;
        key = key_good (whole_of p gs) a (meant_by p) gs (settled p gs n types w bound).0 keys at.0 f o ops e env instead frames world vs at.1 is;
        instances = all_made (whole_of p gs) a keys (made_in n) (made_marks p gs n types w) at.0 at.0 world.heap at.1.0.objects;
        told = told_good (meant_by p) o.op world vs (truth p gs types.stand w.flat w.functions args steps f o ops e env instead frames world reaches vs is);
      }

  pub runs_are_good : RunsAreGood
  runs_are_good p gs n types w bound args steps made begins = record {
    operations = operations_are_good p gs n types w bound args steps made begins;
    tests = λ f e env instead frames world reaches. (let at = sound p gs n types w bound args steps made (At f [] e env instead frames world) reaches in test_told (whole_of p gs) (assignment types.state) (meant_by p) at.0 f e env instead frames world at.1);
  }
