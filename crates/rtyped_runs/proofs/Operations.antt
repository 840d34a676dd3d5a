-- Operations of blocks, by their laws.
use Rattle.std.proofs.Common.{◌≡◌, ◌<◌, inl, inr, ℕ, ◌+◌, List, [], ◌∷◌, ◌++◌, length, map, sym, ap, ◌∙◌, subst, arith}
use Rattle.std.proofs.lemmas.List.{append-nil}
use Rattle.csub_tree.specs.State.{Core}
use Rattle.ll_code.specs.State.{Frame, State, At}
use Rattle.ll_code.specs.declared.program.LlOp.{LlOp}
use Rattle.ll_code.specs.declared.program.LlExit.{LlExit}
use Rattle.ll_code.specs.declared.program.LlProgram.{LlProgram}
use Rattle.ll_build.specs.declared.needs.Numbers.{Numbers}
use Rattle.flow_graph.specs.declared.graph.Graphs.{Graphs}
use Rattle.flow_graph.specs.declared.graph.Op.{Op}
use Rattle.rpy_tree.specs.Value.{Value as Meant}
use Rattle.rpy_meaning.specs.Operations.{op, builtin_classes}
use Rattle.rpy_meaning.specs.declared.row.RowOp.{RowOp}
use Rattle.rpy_meaning.specs.declared.row.RowOp.TheVariants as row
use Rattle.rpy_meaning.specs.World.{World as MeantWorld, Answer, Gives, Throws, Fails, Lacks, Enters, Bad}
use Rattle.rtyper_layout.specs.declared.dicts.Mapping.{Mapping}
use Rattle.rtyper_data.specs.Seen.{Writing}
use Rattle.rtyper_op.specs.Lowering.{lower_op}
use Rattle.rtyper_class.specs.Lowering.{lower_class_op}
use Rattle.rtyper_program.specs.Blocks.{lowered, op_of}
use Rattle.rtyper_program.specs.Seen.{Lowered, operand_of, place_of}
use Rattle.lower_laws.specs.Asked.{Ask}
use Rattle.object_laws.specs.Done.{Any, HasLayout, IsDoneWhere, references}
use Rattle.object_laws.specs.Ghost.{Ghost}
use Rattle.object_laws.specs.Known.{Known as Seen}
use Rattle.object_laws.specs.Represents.{Represents}
use Rattle.object_laws.specs.Values.{Given}
use Rattle.dict_find_laws.specs.Pairs.{first_pairs}
use Rattle.call_laws.specs.Raised as asked
use Rattle.call_laws.specs.Calls.{HasMethod}
use Rattle.call_laws.specs.Done.{IsEnteredWhere}
use Rattle.call_laws.specs.Indirect.{HasMethods}
use Rattle.class_laws.specs.Instances.{AreOfClass}
use Rattle.run_laws.specs.Points.{Setting, IsException}
use Rattle.block_laws.specs.Links.{setting}
use Rattle.block_laws.specs.Operations.{Acts, operands_of}
use Rattle.rtyped_runs.proofs.Acting.{acts_so, fails_so, follows_so, raises_so, throws_so}
use Rattle.rtyped_runs.specs.Laws.{HasParameters, ClassedOperationsAreWritten, MethodsAreWritten, MethodsAreWrittenByVtables, ToldOperationsAreWritten, of_classes, GivenOperationsAreWritten, AreAlways, KeyedOperationsAreWritten, ExceptionsAreLaid, CopiedOperationsAreWritten, ListedOperationsAreWritten, RaisedOperationsAreWritten, DoneOperationsAreWritten, EnteredOperationsAreWritten, IsInside, Standing, StandsSo, ThrowsObjects, args_of, before}
use Rattle.rtyped_runs.specs.Parts.{OpIsWritten}

module _ (Has : Standing) (Good : MeantWorld → List Meant → Type 0) where
  where_written : (l : Lowered) (known : Seen) (graphs : Graphs) (p : LlProgram) (arguments : List (List ℕ)) (numbers : Numbers) (blocks : ℕ) (o : Op) (asks : List Ask) (w : Writing)
      → HasLayout p l.world.around.layout → IsInside l o w → ThrowsObjects (setting l known graphs p arguments) l o → AreAlways (setting l known graphs p arguments) l o Good
      → StandsSo (setting l known graphs p arguments) (Has l.world p numbers known.exception) asks (before o w).found
      → IsDoneWhere Good (Has l.world) blocks known l.world.around o.op o.covered asks (lowered l.world o.op (place_of l o.result) (args_of l o) (before o w)) (place_of l o.result) (args_of l o) (before o w)
      → OpIsWritten (setting l known graphs p arguments) l o w
  unfolding op_of
  where_written l known graphs p arguments numbers blocks o asks w has inside throws always stands law = record {
    ops = law.ops;
    new = law.new;
    written = law.written;
    types = law.types;
    is = λ rest e frames core g world vs memory left room given good.
        follows_so (setting l known graphs p arguments) l.number o (length w.body.types) (At (law.ops ++ rest) e frames core) rest e frames core g world memory left blocks (references world.heap vs) (op known.program o.covered o.op vs world) (λ r w' h. throws g core world w' vs r memory given h)
        (law.follows p numbers known.exception arguments rest e frames core g world vs has (stands core g world.heap world.left memory left) memory left room inside.result inside.operands given (always g core world vs memory given good));
  }

pub done_operations_are_written : (Has : Standing) → DoneOperationsAreWritten Has
done_operations_are_written Has l known graphs p arguments numbers blocks o asks w has inside throws stands law = where_written Has Any l known graphs p arguments numbers blocks o asks w has inside throws (λ g core w vs memory given good. tt) stands law

pub keyed_operations_are_written : (Has : Standing) (Good : Mapping → MeantWorld → List Meant → Type 0) → KeyedOperationsAreWritten Has Good
keyed_operations_are_written Has Good m l known graphs p arguments numbers blocks o asks w has inside throws always stands law = where_written Has (Good m) l known graphs p arguments numbers blocks o asks w has inside throws always stands law

pub told_operations_are_written : (Has : Standing) (Good : MeantWorld → List Meant → Type 0) → ToldOperationsAreWritten Has Good
told_operations_are_written Has Good l known graphs p arguments numbers blocks o asks w has inside throws always stands law = where_written Has Good l known graphs p arguments numbers blocks o asks w has inside throws always stands law

pub classed_operations_are_written : ClassedOperationsAreWritten
classed_operations_are_written d l known graphs p arguments numbers blocks o asks w has inside throws always stands law =
    where_written of_classes (AreOfClass known d) l known graphs p arguments numbers blocks o asks w has inside throws always stands law

pub copied_operations_are_written : CopiedOperationsAreWritten
unfolding op_of
copied_operations_are_written l known graphs p arguments numbers most o asks w has inside throws stands is law = record {
  ops = law.ops;
  new = law.new;
  written = ap (λ (made : Writing). made.body.ops) is ∙ law.written;
  types = ap (λ (made : Writing). made.body.types) is ∙ law.types;
  is = λ rest e frames core g world vs memory left room given good.
      follows_so (setting l known graphs p arguments) l.number o (length w.body.types) (At (law.ops ++ rest) e frames core) rest e frames core g world memory left 2 (most world vs) (op known.program o.covered o.op vs world) (λ r w' h. throws g core world w' vs r memory given h)
      (law.follows p numbers known.exception arguments rest e frames core g world vs has (stands core g world.heap world.left memory left) memory left room inside.result inside.operands given);
}

pub listed_operations_are_written : ListedOperationsAreWritten
unfolding op_of
listed_operations_are_written l known graphs p arguments numbers o asks w has inside throws stands is law = record {
  ops = law.ops;
  new = law.new;
  written = ap (λ (made : Writing). made.body.ops) is ∙ law.written;
  types = ap (λ (made : Writing). made.body.types) is ∙ law.types;
  is = λ rest e frames core g world vs memory left room given good.
      follows_so (setting l known graphs p arguments) l.number o (length w.body.types) (At (law.ops ++ rest) e frames core) rest e frames core g world memory left (2 + first_pairs world.heap vs) (references world.heap vs) (op known.program o.covered o.op vs world) (λ r w' h. throws g core world w' vs r memory given h)
      (law.follows p numbers known.exception arguments rest e frames core g world vs has (stands core g world.heap world.left memory left) memory left room inside.result inside.operands given);
}

-- by a law of calls that speaks of some worlds and values
module _ (Good : LlProgram → MeantWorld → List Meant → Type 0) where
  entered_where : (l : Lowered) (known : Seen) (graphs : Graphs) (p : LlProgram) (arguments : List (List ℕ)) (numbers : Numbers) (blocks : ℕ) (o : Op) (asks : List Ask) (w : Writing)
      → HasLayout p l.world.around.layout → IsInside l o w → HasParameters (setting l known graphs p arguments) → ThrowsObjects (setting l known graphs p arguments) l o → AreAlways (setting l known graphs p arguments) l o (Good p)
      → StandsSo (setting l known graphs p arguments) (of_classes l.world p numbers known.exception) asks (before o w).found
      → lowered l.world o.op (place_of l o.result) (args_of l o) (before o w) ≡ lower_class_op l.world o.op (place_of l o.result) (args_of l o) (before o w)
      → IsEnteredWhere Good blocks l.world known o.op o.covered asks (place_of l o.result) (args_of l o) (before o w)
      → OpIsWritten (setting l known graphs p arguments) l o w
  unfolding op_of
  entered_where l known graphs p arguments numbers blocks o asks w has inside params_fit throws always stands is law = record {
    ops = law.ops;
    new = law.new;
    written = ap (λ (made : Writing). made.body.ops) is ∙ law.written;
    types = ap (λ (made : Writing). made.body.types) is ∙ law.types;
    is = λ rest e frames core g world vs memory left room given good.
        acts_so (setting l known graphs p arguments) l.number o (length w.body.types) (At (law.ops ++ rest) e frames core) rest e frames core g world memory left params_fit blocks (references world.heap vs) (op known.program o.covered o.op vs world) (λ r w' h. throws g core world w' vs r memory given h)
        (law.follows p numbers known.exception arguments rest e frames core g world vs has (stands core g world.heap world.left memory left) memory left room inside.result inside.operands given (always g core world vs memory given good));
  }

pub entered_operations_are_written : EnteredOperationsAreWritten
entered_operations_are_written l known graphs p arguments numbers blocks o asks w has inside params_fit throws stands is law =
    entered_where (λ p. Any) l known graphs p arguments numbers blocks o asks w has inside params_fit throws (λ g core w vs memory given good. tt) stands is law

pub methods_are_written : MethodsAreWritten
methods_are_written name f l known graphs p arguments numbers blocks o asks w has inside params_fit throws always stands is law =
    entered_where (λ p. HasMethod known name f) l known graphs p arguments numbers blocks o asks w has inside params_fit throws always stands is law

pub methods_are_written_by_vtables : MethodsAreWrittenByVtables
methods_are_written_by_vtables name like slot a args place l known graphs p arguments numbers blocks o asks w has inside params_fit throws always stands is law =
    entered_where (HasMethods l.world known name like slot a args place) l known graphs p arguments numbers blocks o asks w has inside params_fit throws always stands is law

-- builtin exceptions are objects
builtin : (s : Setting) (g : Ghost) (core : Core) (w : MeantWorld) → ExceptionsAreLaid s → Represents s.around.layout s.known g w.heap w.left core.blocks core.statics → (r : ℕ) → r < builtin_classes → IsException s g r (s.known.exception r)
builtin s g core w laid memory r few = let l = laid r few in record { class = r; home = memory.exceptions r l.1.0 few l.1.1; above = l.0 }

module _ (s : Setting) (f : ℕ) (o : Op) (below : ℕ) (from : State) (rest : List LlOp) (e : LlExit) (frames : List Frame) (core : Core) (g : Ghost) (w : MeantWorld) (memory : Represents s.around.layout s.known g w.heap w.left core.blocks core.statics) (left : w.left ≡ core.steps)
    (there : (r : ℕ) → r < builtin_classes → IsException s g r (s.known.exception r)) where
  raises_too : (answer : Answer) → asked.Raises s.known.program.classes s.low s.arguments from rest e frames core g s.known.exception below w answer → Acts s f o below from rest e frames core g w answer
  raises_too (Gives v w') it = absurd it
  raises_too (Throws r w') (inl it) = inr (raises_so s f o below from rest e frames core g w memory left r w' it)
  raises_too (Throws r w') (inr (few, it)) = inl (throws_so s f o below from rest e frames core g w memory left r w' (there r few) it)
  raises_too (Fails name) it = fails_so s f o below from rest e frames core g w memory left name it
  raises_too Lacks it = absurd it
  raises_too (Enters callee vs instead w') it = absurd it
  raises_too Bad it = tt

pub raised_operations_are_written : RaisedOperationsAreWritten
unfolding op_of
raised_operations_are_written l known graphs p arguments numbers o a asks w has laid is_raise one inside stands is law =
    let s : Setting = setting l known graphs p arguments in
    let made : lowered l.world o.op (place_of l o.result) (args_of l o) (before o w) ≡ lower_class_op l.world row.Raise (place_of l o.result) (operand_of l a ∷ []) (before o w) =
    ap (λ (x : RowOp). lowered l.world x (place_of l o.result) (args_of l o) (before o w)) is_raise ∙ ap (λ vs. lowered l.world row.Raise (place_of l o.result) (map (operand_of l) vs) (before o w)) one ∙ is in
    record {
      ops = law.ops;
      new = law.new;
      written = ap (λ (made : Writing). made.body.ops) made ∙ law.written;
      types = ap (λ (made : Writing). made.body.types) made ∙ law.types;
      is = λ rest e frames core g world vs memory left room given good.
          subst (λ (x : RowOp). Acts s l.number o (length w.body.types) (At (law.ops ++ rest) e frames core) rest e frames core g world (op known.program o.covered x vs world)) (sym is_raise)
          (raises_too s l.number o (length w.body.types) (At (law.ops ++ rest) e frames core) rest e frames core g world memory left (builtin s g core world laid memory) (op known.program o.covered row.Raise vs world)
          (law.follows p numbers known.exception arguments rest e frames core g world vs has (stands core g world.heap world.left memory left) memory room (inside, tt)
          (subst (λ args. Given s.known s.around g core (operands_of s l.number args) vs) one given)));
    }

pub given_operations_are_written : GivenOperationsAreWritten
unfolding op_of
given_operations_are_written l known graphs p arguments o w has none inside throws kept is law =
    let made : lowered l.world o.op (place_of l o.result) (args_of l o) (before o w) ≡ lower_op l.world.around o.op (place_of l o.result) [] (before o w) =
    ap (λ vs. lowered l.world o.op (place_of l o.result) (map (operand_of l) vs) (before o w)) none ∙ is in
    record {
      ops = law.ops;
      new = [];
      written = ap (λ (made : Writing). made.body.ops) made ∙ law.written;
      types = ap (λ (made : Writing). made.body.types) made ∙ law.types ∙ sym (append-nil w.body.types);
      is = λ rest e frames core g world vs memory left room given good. by rest e frames core g world vs memory left (omega (arith, room, inside)) (subst (λ args. Given known l.world.around g core (operands_of (setting l known graphs p arguments) l.number args) vs) none given);
    }
  where
    by : (rest : List LlOp) (e : LlExit) (frames : List Frame) (core : Core) (g : Ghost) (world : MeantWorld) (vs : List Meant) → Represents l.world.around.layout known g world.heap world.left core.blocks core.statics → world.left ≡ core.steps → o.result < length core.vars → Given known l.world.around g core [] vs
        → Acts (setting l known graphs p arguments) l.number o (length w.body.types) (At (law.ops ++ rest) e frames core) rest e frames core g world (op known.program o.covered o.op vs world)
    by rest e frames core g world [] memory left room given =
        let nothing_given : Given known l.world.around g core (args_of l o) [] = subst (λ vs. Given known l.world.around g core (map (operand_of l) vs) []) (sym none) tt in
        follows_so (setting l known graphs p arguments) l.number o (length w.body.types) (At (law.ops ++ rest) e frames core) rest e frames core g world memory left 0 (references world.heap []) (op known.program o.covered o.op [] world) (λ r w' h. throws g core world w' [] r memory nothing_given h)
        (law.follows p known.exception arguments rest e frames core g world has kept memory left room)
    by rest e frames core g world (v ∷ vs) memory left room given = absurd given
