-- A block whose parts are done.
use Rattle.std.proofs.Common.{◌≡◌, ◌≤◌, ◌⊎◌, inl, inr, ℕ, ◌+◌, true, false, List, [], ◌∷◌, ◌++◌, length, Some, None, refl, sym, ap, ◌∙◌, subst, arith, append_assoc}
use Rattle.std.specs.Prelude.{slice_get, if◌then◌else◌}
use Rattle.std.proofs.lemmas.List.{append-nil, length-append}
use Rattle.ll_code.specs.declared.program.LlType.{LlType}
use Rattle.ll_code.specs.declared.program.LlType.TheVariants as type
use Rattle.ll_code.specs.declared.program.LlOp.{LlOp}
use Rattle.ll_code.specs.declared.program.LlExit.{LlExit}
use Rattle.ll_code.specs.declared.program.LlBlock.{LlBlock}
use Rattle.ll_code.specs.declared.program.LlProgram.{LlProgram}
use Rattle.ll_build.specs.declared.needs.Numbers.{Numbers}
use Rattle.flow_graph.specs.declared.graph.Block.{Block}
use Rattle.flow_graph.specs.declared.graph.Exit.{Exit}
use Rattle.flow_graph.specs.declared.graph.Exit.TheVariants as exit
use Rattle.flow_graph.specs.declared.graph.Graphs.{Graphs}
use Rattle.flow_graph.specs.declared.graph.Link.{Link}
use Rattle.flow_graph.specs.declared.graph.Op.{Op}
use Rattle.rtyper_op.specs.declared.text.Test.{Test}
use Rattle.rtyper_op.specs.declared.text.Test.TheVariants.{Known as IsKnown, By}
use Rattle.rtyper_data.specs.declared.found.Found.{Found}
use Rattle.rtyper_data.specs.Seen.{Writing}
use Rattle.rtyper_program.specs.Blocks.{block_of, ended, exit_of, before, op_of, ops_from, ops_of, raise_as}
use Rattle.rtyper_program.specs.Cuts.{on_raise}
use Rattle.rtyper_program.specs.Graphs.{variables}
use Rattle.rtyper_program.specs.Handlers.{Work, work}
use Rattle.rtyper_program.specs.Links.{branch, by_test, give_as, give_back, goto, link_of, truth_test, typed}
use Rattle.rtyper_program.specs.Raises.{exit_catches}
use Rattle.rtyper_program.specs.Seen.{Lowered, operand_of, type_at}
use Rattle.growth_laws.specs.Growing.{Grows}
use Rattle.growth_laws.proofs.Data.{then_grows}
use Rattle.growth_laws.proofs.Growing.{same_found}
use Rattle.program_asks.proofs.WritingBlocks.{op_grows, ops_grow}
use Rattle.program_asks.proofs.WritingLinks.{branch_grows, give_back_grows, link_grows}
use Rattle.object_laws.specs.Done.{HasLayout}
use Rattle.object_laws.specs.Known.{Known as Seen}
use Rattle.run_laws.specs.Points.{Setting}
use Rattle.run_laws.specs.Does.{Does}
use Rattle.block_laws.specs.Operations.{CatchesNothing, HasTypes, NeverGives}
use Rattle.block_laws.specs.Links.{setting, Ends, HasBlocks}
use Rattle.block_laws.proofs.Branching.{branches_are_taken}
use Rattle.block_laws.proofs.Exiting.{exceptions_leave, results_are_given}
use Rattle.block_laws.proofs.Operating.{operations_are_followed}
use Rattle.block_laws.proofs.Passing.{links_are_passed}
use Rattle.rtyped_runs.specs.Parts.{BlockIsDone, ExitIsDone, ExitsAreDone, OpIsDone, OpsAreDone, StopsAt, exit_plain, names_behind}
use Rattle.block_laws.proofs.Adding.{Adds, branch_adds, give_back_adds, link_adds, same_adds}

-- ---- what is asked for only grows

module _ (l : Lowered) where
  pub exit_grows : (e : Exit) (w : Writing) → Grows w.found (exit_plain l e w).1.found
  exit_grows (exit.Goto link) w = link_grows l None link w
  exit_grows (exit.If v there elsewhere) w = branch_grows l v there elsewhere w
  exit_grows (exit.OnRaise v hands by without) w = link_grows l None without w
  exit_grows (exit.Return v) w = give_back_grows l v w
  exit_grows (exit.Raise v) w = same_found w.found

  -- an exit that catches nothing is written alone
  exit_is_plain : (e : Exit) (least : ℕ) (w : Work) → exit_catches l.graph e ≡ false → exit_of l e least w ≡ before w.extra (exit_plain l e w.writing)
  unfolding exit_of
  exit_is_plain (exit.Goto link) least w h = refl
  exit_is_plain (exit.If v there elsewhere) least w h = refl
  exit_is_plain (exit.OnRaise v hands by without) least w h = ap (λ b. if b then on_raise l v hands by without least w else before w.extra (goto (link_of l None without w.writing))) h
  exit_is_plain (exit.Return v) least w h = refl
  exit_is_plain (exit.Raise v) least w h = refl

  -- ---- what is written catches nothing

  module _ (s : Setting) where
    test_catches : (there elsewhere : Link) (test : Test) (w : Writing) → CatchesNothing s (by_test l there elsewhere test w).0
    test_catches there elsewhere (IsKnown true) w = λ x frames core. refl
    test_catches there elsewhere (IsKnown false) w = λ x frames core. refl
    test_catches there elsewhere (By x) w = λ y frames core. refl

    gives_catch : (v : ℕ) (t : LlType) (w : Writing) → CatchesNothing s (give_as l v t w).0
    gives_catch v type.Signed w = λ x frames core. refl
    gives_catch v type.Void w = λ x frames core. refl
    gives_catch v type.Char w = λ x frames core. refl
    gives_catch v type.Bool w = λ x frames core. refl
    gives_catch v type.Fn w = λ x frames core. refl
    gives_catch v (type.Ptr n) w = λ x frames core. refl

    raises_catch : (v : ℕ) (t : LlType) → CatchesNothing s (raise_as v t)
    raises_catch v type.Signed = λ x frames core. refl
    raises_catch v type.Void = λ x frames core. refl
    raises_catch v type.Char = λ x frames core. refl
    raises_catch v type.Bool = λ x frames core. refl
    raises_catch v type.Fn = λ x frames core. refl
    raises_catch v (type.Ptr n) = λ x frames core. refl

    plain_catches : (e : Exit) (w : Writing) → CatchesNothing s (exit_plain l e w).0
    unfolding branch give_back
    plain_catches (exit.Goto link) w = λ x frames core. refl
    plain_catches (exit.If v there elsewhere) w = test_catches there elsewhere (truth_test l.world.around (operand_of l v) w).0 (truth_test l.world.around (operand_of l v) w).1
    plain_catches (exit.OnRaise v hands by without) w = λ x frames core. refl
    plain_catches (exit.Return v) w = gives_catch v l.result w
    plain_catches (exit.Raise v) w = raises_catch v (type_at l v)

-- ---- a block

module _ (l : Lowered) (seen : Seen) (graphs : Graphs) (p : LlProgram) (arguments : List (List ℕ)) (numbers : Numbers) (first last : Found) (has : HasLayout p l.world.around.layout)
    (types : HasTypes (setting l seen graphs p arguments) l.number (length (variables l.known l.world l.number))) where
  abbrev pub s : Setting
  s = setting l seen graphs p arguments

  abbrev pub below : ℕ
  below = length (variables l.known l.world l.number)

  types_more : (n : ℕ) → below ≤ n → HasTypes s l.number n
  types_more n h = record { typed = types.typed; under = λ v there. (let k = types.under v there in omega (arith, k, h)) }

  -- what the operations of a block are written as, before what stands behind them
  record OpsWritten (names : List ℕ) (ops : List Op) (e : Exit) (w after : Writing) : Type 0 where
    all : List LlOp
    new : List LlType
    written : after.body.ops ≡ w.body.ops ++ all
    added : after.body.types ≡ w.body.types ++ new
    does : (rest : List LlOp) (ends : LlExit) → length w.body.types + length new ≤ s.size l.number → CatchesNothing s ends → StopsAt s l.number ops ⊎ Does s l.number (names_behind names ops) [] e rest ends → Does s l.number names ops e (all ++ rest) ends

  stays_behind : (names : List ℕ) (e : Exit) (rest : List LlOp) (ends : LlExit) → StopsAt s l.number [] ⊎ Does s l.number names [] e rest ends → Does s l.number names [] e rest ends
  stays_behind names e rest ends (inl stops) = absurd stops
  stays_behind names e rest ends (inr does) = does

  no_ops : (names : List ℕ) (e : Exit) (w : Writing) → OpsWritten names [] e w w
  no_ops names e w = record { all = []; new = []; written = sym (append-nil w.body.ops); added = sym (append-nil w.body.types); does = λ rest ends enters catches behind. stays_behind names e rest ends behind }

  one_op : (names : List ℕ) (o : Op) (ops : List Op) (e : Exit) (w after : Writing) → below ≤ length w.body.types → OpIsDone s l names o ops e w → OpsWritten (names ++ o.result ∷ []) ops e (op_of l o w) after → OpsWritten names (o ∷ ops) e w after
  one_op names o ops e w after enough done it =
      let count : length (op_of l o w).body.types ≡ length w.body.types + length done.does.new = ap (λ (ts : List LlType). length ts) done.does.types ∙ length-append w.body.types done.does.new in
      let more : length (done.does.new ++ it.new) ≡ length done.does.new + length it.new = length-append done.does.new it.new in
      record {
        all = done.does.ops ++ it.all;
        new = done.does.new ++ it.new;
        written = it.written ∙ ap (λ (l : List LlOp). l ++ it.all) done.does.written ∙ append_assoc w.body.ops done.does.ops it.all;
        added = it.added ∙ ap (λ (l : List LlType). l ++ it.new) done.does.types ∙ append_assoc w.body.types done.does.new it.new;
        does = λ rest ends enters catches behind.
            subst (λ (l2 : List LlOp). Does s l.number names (o ∷ ops) e l2 ends) (sym (append_assoc done.does.ops it.all rest))
            (operations_are_followed s l.number names o ops e (length w.body.types) (length done.does.new) done.does.ops (it.all ++ rest) ends (types_more (length w.body.types) enough) done.does.is done.are_read (omega (arith, enters, more)) done.fresh done.uncaught catches
            (in_turn rest ends (omega (arith, enters, more, count)) catches behind));
      }
    where
      in_turn : (rest : List LlOp) (ends : LlExit) → length (op_of l o w).body.types + length it.new ≤ s.size l.number → CatchesNothing s ends → StopsAt s l.number (o ∷ ops) ⊎ Does s l.number (names_behind names (o ∷ ops)) [] e rest ends
          → NeverGives s l.number o ⊎ Does s l.number (names ++ o.result ∷ []) ops e (it.all ++ rest) ends
      in_turn rest ends enters catches (inl (inl stops)) = inl stops
      in_turn rest ends enters catches (inl (inr stops)) = inr (it.does rest ends enters catches (inl stops))
      in_turn rest ends enters catches (inr does) = inr (it.does rest ends enters catches (inr does))

  op_longer : (names : List ℕ) (o : Op) (ops : List Op) (e : Exit) (w : Writing) → OpIsDone s l names o ops e w → length w.body.types ≤ length (op_of l o w).body.types
  op_longer names o ops e w done = (let count : length (op_of l o w).body.types ≡ length w.body.types + length done.does.new = ap (λ (ts : List LlType). length ts) done.does.types ∙ length-append w.body.types done.does.new in omega (arith, count))

  ops_written : (names : List ℕ) (ops : List Op) (e : Exit) (least : ℕ) (w : Writing) → OpsAreDone s l first last names ops e → Grows first w.found → Grows (ops_from l ops (least, w)).1.found last → below ≤ length w.body.types → OpsWritten names ops e w (ops_from l ops (least, w)).1
  ops_written names [] e least w done early late enough = no_ops names e w
  ops_written names (o ∷ ops) e least w done early late enough =
      let this = done.0 w early (then_grows (ops_grow l ops (length w.body.ops, op_of l o w)) late) enough in
      one_op names o ops e w (ops_from l ops (length w.body.ops, op_of l o w)).1 enough this
      (ops_written (names ++ o.result ∷ []) ops e (length w.body.ops) (op_of l o w) done.1 (then_grows early (op_grows l o w)) late (let k = op_longer names o ops e w this in omega (arith, k, enough)))

  module _ (graph : slice_get graphs.graphs l.number ≡ Some l.graph) (blocks : HasBlocks s l) where
    exit_ends : (names : List ℕ) (e : Exit) (w : Writing) → below ≤ length w.body.types → ExitIsDone s numbers l names e w → Ends s l names e w (exit_plain l e w)
    exit_ends names (exit.Goto link) w enough it = links_are_passed l seen graphs p arguments numbers below names link w has types enough graph blocks it
    exit_ends names (exit.If v there elsewhere) w enough it = branches_are_taken l seen graphs p arguments numbers below names v there elsewhere w has types enough graph blocks it.0 it.1 it.2
    exit_ends names (exit.OnRaise v hands by without) w enough it =
        let link = links_are_passed l seen graphs p arguments numbers below names without w has types enough graph blocks it in
        record { ops = link.ops; new = link.new; written = link.written; types = link.types; does = link.does }
    exit_ends names (exit.Return v) w enough it = results_are_given l seen graphs p arguments numbers below names v w has types it
    exit_ends names (exit.Raise v) w enough it = exceptions_leave l seen graphs p arguments below names v it.class w types it.is it.exceptions

    -- what a block is written as, behind what was there
    pub record BlockWritten (b : Block) (w : Work) : Type 0 where
      pub ops : List LlOp
      pub new : List LlType
      pub end : LlExit
      pub is : (block_of l b w).0 ≡ record { inputs = typed l b.inputs; ops = w.writing.body.ops ++ ops; exit = end }
      pub added : (block_of l b w).1.writing.body.types ≡ w.writing.body.types ++ new
      pub reset : (block_of l b w).1.writing.body.ops ≡ []
      pub does : length w.writing.body.types + length new ≤ s.size l.number → Does s l.number b.inputs b.ops b.exit ops end

    -- the operations and the exit of a block
    abbrev inner : Block → Work → Writing
    inner b w = (ops_of l b.ops w.writing).1

    block_is : (b : Block) (w : Work) → exit_catches l.graph b.exit ≡ false → block_of l b w ≡ ended (typed l b.inputs) (before w.extra (exit_plain l b.exit (inner b w)))
    unfolding block_of
    block_is b w h = ap (ended (typed l b.inputs)) (exit_is_plain l b.exit (ops_of l b.ops w.writing).0 (work (inner b w) w.extra) h)

    -- what is written for the exit of a block, to which no run may come
    record Closed (b : Block) (w : Work) : Type 0 where
      ops : List LlOp
      new : List LlType
      written : (exit_plain l b.exit (inner b w)).1.body.ops ≡ (inner b w).body.ops ++ ops
      added : (exit_plain l b.exit (inner b w)).1.body.types ≡ (inner b w).body.types ++ new
      does : length (inner b w).body.types + length new ≤ s.size l.number → StopsAt s l.number b.ops ⊎ Does s l.number (names_behind b.inputs b.ops) [] b.exit ops (exit_plain l b.exit (inner b w)).0

    -- whatever the exit is, it only adds
    exit_adds : (e : Exit) (w : Writing) → Adds w (exit_plain l e w).1
    exit_adds (exit.Goto link) w = link_adds l None link w
    exit_adds (exit.If v there elsewhere) w = branch_adds l v there elsewhere w
    exit_adds (exit.OnRaise v hands by without) w = link_adds l None without w
    exit_adds (exit.Return v) w = give_back_adds l v w
    exit_adds (exit.Raise v) w = same_adds w

    module _ (b : Block) (w : Work) (done : BlockIsDone s numbers l first last b) (early : Grows first w.writing.found) (late : Grows (block_of l b w).1.writing.found last) (enough : below ≤ length w.writing.body.types) where
      late_exit : Grows (exit_plain l b.exit (inner b w)).1.found last
      late_exit = subst (λ (made : LlBlock × Work). Grows made.1.writing.found last) (block_is b w done.catches) late

      late_ops : Grows (inner b w).found last
      late_ops = then_grows (exit_grows l b.exit (inner b w)) late_exit

      opened : OpsWritten b.inputs b.ops b.exit w.writing (inner b w)
      opened = ops_written b.inputs b.ops b.exit (length w.writing.body.ops) w.writing done.ops early late_ops enough

      opened_count : length (inner b w).body.types ≡ length w.writing.body.types + length opened.new
      opened_count = ap (λ (ts : List LlType). length ts) opened.added ∙ length-append w.writing.body.types opened.new

      enough_inner : below ≤ length (inner b w).body.types
      enough_inner = omega (arith, enough, opened_count)

      closed : Closed b w
      closed = closes done.exit
        where
          closes : StopsAt s l.number b.ops ⊎ ExitsAreDone s numbers l first last (names_behind b.inputs b.ops) b.exit → Closed b w
          closes (inl stops) = let it = exit_adds b.exit (inner b w) in record { ops = it.ops; new = it.new; written = it.written; added = it.types; does = λ enters. inl stops }
          closes (inr it) =
              let ends = exit_ends (names_behind b.inputs b.ops) b.exit (inner b w) enough_inner (it (inner b w) (then_grows early (ops_grow l b.ops (length w.writing.body.ops, w.writing))) late_exit enough_inner) in
              record { ops = ends.ops; new = ends.new; written = ends.written; added = ends.types; does = λ enters. inr (ends.does enters) }

      all_count : length (opened.new ++ closed.new) ≡ length opened.new + length closed.new
      all_count = length-append opened.new closed.new

      pub block_written : BlockWritten b w
      block_written = record {
        ops = opened.all ++ closed.ops;
        new = opened.new ++ closed.new;
        end = (exit_plain l b.exit (inner b w)).0;
        is = ap (λ (made : LlBlock × Work). made.0) (block_is b w done.catches)
            ∙ ap (λ (ops : List LlOp). record { inputs = typed l b.inputs; ops = ops; exit = (exit_plain l b.exit (inner b w)).0 }) (closed.written ∙ ap (λ (ops : List LlOp). ops ++ closed.ops) opened.written ∙ append_assoc w.writing.body.ops opened.all closed.ops);
        added = ap (λ (made : LlBlock × Work). made.1.writing.body.types) (block_is b w done.catches) ∙ closed.added ∙ ap (λ (ts : List LlType). ts ++ closed.new) opened.added ∙ append_assoc w.writing.body.types opened.new closed.new;
        reset = ap (λ (made : LlBlock × Work). made.1.writing.body.ops) (block_is b w done.catches);
        does = λ enters. opened.does closed.ops (exit_plain l b.exit (inner b w)).0 (omega (arith, enters, all_count)) (plain_catches l s b.exit (inner b w)) (closed.does (omega (arith, enters, all_count, opened_count)));
      }
