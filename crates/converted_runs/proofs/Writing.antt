-- Operations of blocks, by laws of operations whose operands are converted.
use Rattle.std.proofs.Common.{◌≡◌, ℕ, ◌+◌, List, [], ◌∷◌, ◌++◌, length, map, sym, ap, ◌∙◌, subst}
use Rattle.csub_tree.specs.State.{Value, Core}
use Rattle.csub_tree.specs.Statement.{operand}
use Rattle.ll_code.specs.State.{Frame, State, At}
use Rattle.ll_code.specs.declared.program.LlOp.{LlOp}
use Rattle.ll_code.specs.declared.program.LlExit.{LlExit}
use Rattle.ll_code.specs.declared.program.LlProgram.{LlProgram}
use Rattle.rpy_tree.specs.Value.{Value as Meant}
use Rattle.rtyper_class.specs.Seen.{World}
use Rattle.passing_laws.specs.Standing.{HasOne}
use Rattle.rpy_meaning.specs.Operations.{op}
use Rattle.rpy_meaning.specs.World.{World as MeantWorld, Answer, Gives, Throws, Fails, Lacks, Enters, Bad}
use Rattle.flow_graph.specs.declared.graph.Op.{Op}
use Rattle.rtyper_data.specs.Seen.{Writing}
use Rattle.rtyper_list.specs.Lowering.{lower_list_op}
use Rattle.rtyper_program.specs.Blocks.{lowered, op_of}
use Rattle.rtyper_program.specs.Seen.{operand_of, place_of}
use Rattle.lower_laws.specs.Values.{AllBelow}
use Rattle.object_laws.specs.Done.{references}
use Rattle.object_laws.specs.Ghost.{Ghost}
use Rattle.object_laws.specs.Represents.{Represents}
use Rattle.object_laws.specs.Values.{Given}
use Rattle.join_laws.specs.Joining as join
use Rattle.split_laws.specs.Splitting.{parts_in}
use Rattle.run_laws.specs.Points.{Setting, IsException}
use Rattle.block_laws.specs.Links.{setting}
use Rattle.block_laws.specs.Operations.{Acts, place_of as place_in}
use Rattle.rtyped_runs.specs.Laws.{args_of, before}
use Rattle.rtyped_runs.proofs.Acting.{follows_so}
use Rattle.converted_runs.specs.Writing.{BehindOperationsAreWritten, CalledOperationsAreWritten, DictOperationsAreWritten, JoinedOperationsAreWritten, SplitOperationsAreWritten}
use Rattle.converted_runs.proofs.Acting.{acts_behind, acts_called, acts_dict, exception_grows}

pub behind_operations_are_written : (Has : World → HasOne) (Good : MeantWorld → List Meant → Type 0) → BehindOperationsAreWritten Has Good
unfolding op_of
behind_operations_are_written Has Good l known graphs p arguments numbers most blocks more count o asks w has inside throws always stands law = record {
  ops = law.ops;
  new = law.new;
  written = law.written;
  types = law.types;
  is = λ rest e frames core g world vs memory left room given good.
      let s : Setting = setting l known graphs p arguments in
      let below = length w.body.types in
      let answer = op known.program o.covered o.op vs world in
      let b = law.follows p numbers known.exception has stands arguments rest e frames core g world vs memory left room inside.result inside.operands given (always g core world vs memory given good) in
      acts_behind s l.number o below (At (law.ops ++ rest) e frames core) b.at rest e frames core b.mid g b.ghost (record { most = more; leads = b.leads }) b.grown b.others b.room b.function world answer
      (follows_so s l.number o below b.at rest e frames b.mid b.ghost world b.stands (left ∙ sym (ap (λ (k : Core). k.steps) b.memory)) blocks (most world vs) answer (λ r w' h. exception_grows b.grown (throws g core world w' vs r memory given h)) b.then);
}

pub called_operations_are_written : (Good : LlProgram → MeantWorld → List Meant → Type 0) → CalledOperationsAreWritten Good
unfolding op_of
called_operations_are_written Good l known graphs p arguments numbers blocks more o asks later constants w has inside throws always stands after kept is law = record {
  ops = law.ops;
  new = law.new;
  written = ap (λ (made : Writing). made.body.ops) is ∙ law.written;
  types = ap (λ (made : Writing). made.body.types) is ∙ law.types;
  is = λ rest e frames core g world vs memory left room given good.
      acts_called (setting l known graphs p arguments) l.number o (length w.body.types) (At (law.ops ++ rest) e frames core) rest e frames core g world memory left blocks (more + references world.heap vs) (op known.program o.covered o.op vs world) (λ r w' h. throws g core world w' vs r memory given h)
      (law.follows p numbers known.exception has stands after kept arguments rest e frames core g world vs memory left room inside.operands given (always g core world vs memory given good));
}

pub dict_operations_are_written : (Good : MeantWorld → List Meant → Type 0) → DictOperationsAreWritten Good
unfolding op_of
dict_operations_are_written Good l known graphs p arguments numbers blocks more o asks w has inside throws always stands law = record {
  ops = law.ops;
  new = law.new;
  written = law.written;
  types = law.types;
  is = λ rest e frames core g world vs memory left room given good.
      acts_dict (setting l known graphs p arguments) l.number o (length w.body.types) (At (law.ops ++ rest) e frames core) rest e frames core g world memory left blocks (references world.heap vs + more) (op known.program o.covered o.op vs world) (λ r w' h. throws g core world w' vs r memory given h)
      (law.follows p numbers known.exception arguments rest e frames core g world vs has (stands core g world.heap world.left memory left) memory left room inside.result inside.operands given (always g core world vs memory given good));
}

pub split_operations_are_written : (Good : List Meant → Type 0) → SplitOperationsAreWritten Good
unfolding op_of
split_operations_are_written Good l known graphs p arguments numbers o asks w has inside throws always stands is law = record {
  ops = law.ops;
  new = law.new;
  written = ap (λ (made : Writing). made.body.ops) is ∙ law.written;
  types = ap (λ (made : Writing). made.body.types) is ∙ law.types;
  is = λ rest e frames core g world vs memory left room given good.
      follows_so (setting l known graphs p arguments) l.number o (length w.body.types) (At (law.ops ++ rest) e frames core) rest e frames core g world memory left (2 + parts_in vs) (1 + parts_in vs) (op known.program o.covered o.op vs world) (λ r w' h. throws g core world w' vs r memory given h)
      (law.follows p numbers known.exception arguments rest e frames core g world vs has (stands core g world.heap world.left memory left) memory left room inside.result inside.operands given (always g core world vs memory given good));
}

-- ---- strings that are joined

module _ (s : Setting) (f : ℕ) (o : Op) (below : ℕ) (from : State) (rest : List LlOp) (e : LlExit) (frames : List Frame) (core : Core) (g : Ghost) (w : MeantWorld) (memory : Represents s.around.layout s.known g w.heap w.left core.blocks core.statics) (left : w.left ≡ core.steps) (list : Value) where
  joins_so : (blocks most : ℕ) (answer : Answer) → ((r : ℕ) (w' : MeantWorld) → answer ≡ Throws r w' → IsException s g r (s.known.exception r)) → join.FollowsOver list blocks s.known s.around (place_in s f o.result) s.low s.arguments from rest e frames core g s.known.exception most below w answer → Acts s f o below from rest e frames core g w answer
  joins_so blocks most (Gives v w') there it = follows_so s f o below from rest e frames core g w memory left blocks most (Gives v w') there it
  joins_so blocks most (Throws r w') there it = follows_so s f o below from rest e frames core g w memory left blocks most (Throws r w') there it
  joins_so blocks most (Fails name) there it = follows_so s f o below from rest e frames core g w memory left blocks most (Fails name) there it
  joins_so blocks most Lacks there d = record { last = d.last; way = record { most = 0; leads = d.leads }; ends = d.ends; ghost = g; statics = core.statics; stands = subst (λ bs. Represents s.around.layout s.known g w.heap w.left bs core.statics) (sym d.blocks) memory }
  joins_so blocks most (Enters callee values instead w') there it = follows_so s f o below from rest e frames core g w memory left blocks most (Enters callee values instead w') there it
  joins_so blocks most Bad there it = tt

pub joined_operations_are_written : JoinedOperationsAreWritten
unfolding op_of
joined_operations_are_written l known graphs p arguments numbers o a b asks w has inside throws always two stands is law =
    let s : Setting = setting l known graphs p arguments in
    let made : lowered l.world o.op (place_of l o.result) (args_of l o) (before o w) ≡ lower_list_op l.world.around o.op (place_of l o.result) (operand_of l a ∷ operand_of l b ∷ []) (before o w) =
    ap (λ vs. lowered l.world o.op (place_of l o.result) (map (operand_of l) vs) (before o w)) two ∙ is in
    record {
      ops = law.ops;
      new = law.new;
      written = ap (λ (made : Writing). made.body.ops) made ∙ law.written;
      types = ap (λ (made : Writing). made.body.types) made ∙ law.types;
      is = λ rest e frames core g world vs memory left room given good.
          joins_so s l.number o (length w.body.types) (At (law.ops ++ rest) e frames core) rest e frames core g world memory left (operand core.vars (operand_of l b).x) 1 0 (op known.program o.covered o.op vs world) (λ r w' h. throws g core world w' vs r memory given h)
          (law.follows p numbers known.exception arguments rest e frames core g world vs has (stands core g world.heap world.left memory left) memory left room inside.result (subst (λ args. AllBelow (length w.body.types) (map (operand_of l) args)) two inside.operands)
          (subst (λ args. Given known l.world.around g core (map (operand_of l) args) vs) two given) (always g core world vs memory given good));
    }
