-- What is written for an exit that catches.
use Rattle.csub_tree.specs.State.{Core}
use Rattle.ll_code.specs.State.{Frame, State, At}
use Rattle.ll_code.specs.declared.program.LlExit.TheVariants as made
use Rattle.ll_leads.specs.Path.{Path}
use Rattle.rpy_tree.specs.Value.{Value as Meant}
use Rattle.rpy_meaning.specs.Operations.{op as meant_op}
use Rattle.rpy_meaning.specs.World.{World, Answer, Gives, Throws, Fails, Lacks, Enters, Bad}
use Rattle.flow_graph.specs.declared.graph.Exit.{Exit}
use Rattle.flow_meaning.specs.Machine.{Bound, values_of}
use Rattle.flow_runs.specs.Good.{IsGood}
use Rattle.object_laws.specs.Ghost.{Ghost}
use Rattle.run_laws.specs.Points.{IsAt, is_keyed}
use Rattle.run_laws.specs.Does.{Follows as FollowsSo}
use Rattle.block_laws.specs.Operations.{Acts, AreRead, NeverGives}
use Rattle.block_laws.proofs.Adding.{link_adds}
use Rattle.block_laws.specs.Links.{Ends}
use Rattle.block_laws.proofs.Escaping.{exceptions_escape}
use Rattle.block_laws.proofs.Operating.{operations_are_followed}
use Rattle.block_laws.proofs.Variables.{none_given, operands_given}
use Rattle.throw_laws.specs.Pieces.{AreQuiet, nowhere}
use Rattle.throw_laws.specs.Quiet.{IsLoud}
use Rattle.throw_laws.proofs.Calm.{quiet_operations_never_throw}
use Rattle.catch_laws.specs.Caught.{GoesOn, IsTold}
use Rattle.std.proofs.Common.{◌≡◌, ◌<◌, ◌≤◌, ◌⊎◌, inl, inr, ℕ, ◌+◌, Bool, true, false, List, [], ◌∷◌, ◌++◌, length, Option, Some, None, refl, sym, ap, ◌∙◌, subst, arith, append_assoc}
use Rattle.std.specs.Prelude.{slice_get, if◌then◌else◌}
use Rattle.std.proofs.lemmas.List.{append-nil, length-append}
use Rattle.ll_code.specs.declared.program.LlType.{LlType}
use Rattle.ll_code.specs.declared.program.LlType.TheVariants as type
use Rattle.ll_code.specs.declared.program.LlOp.{LlOp}
use Rattle.ll_code.specs.declared.program.LlExit.{LlExit}
use Rattle.ll_code.specs.declared.program.LlLink.{LlLink}
use Rattle.ll_code.specs.declared.program.LlProgram.{LlProgram}
use Rattle.ll_build.specs.declared.needs.Numbers.{Numbers}
use Rattle.ll_live.specs.Live.{among}
use Rattle.flow_graph.specs.declared.graph.Exit.TheVariants as exit
use Rattle.flow_graph.specs.declared.graph.Graphs.{Graphs}
use Rattle.flow_graph.specs.declared.graph.Link.{Link}
use Rattle.flow_graph.specs.declared.graph.Op.{Op}
use Rattle.rtyper_layout.specs.Types.{root_of}
use Rattle.rtyper_data.specs.Seen.{Writing}
use Rattle.rtyper_class.specs.Seen.{laid}
use Rattle.rtyper_program.specs.declared.extra.Extra.{Extra}
use Rattle.rtyper_program.specs.declared.links.Caught.{Caught}
use Rattle.ll_code.specs.declared.program.LlGraph.{LlGraph}
use Rattle.run_laws.specs.Does.{Does}
use Rattle.rtyper_program.specs.Cuts.{Cut, any_raises, cut, goes_on, on_raise, raised_before}
use Rattle.rtyper_program.specs.Handlers.{Work, work, any_other, handler, handlers, land, landing, leave, taken, tested}
use Rattle.rtyper_program.specs.Links.{goto, link_of}
use Rattle.rtyper_program.specs.Seen.{Lowered}
use Rattle.object_laws.specs.Done.{HasLayout}
use Rattle.object_laws.specs.Known.{Known}
use Rattle.run_laws.specs.Points.{Setting}
use Rattle.block_laws.specs.Operations.{HasTypes}
use Rattle.block_laws.specs.Links.{setting, HasBlocks}
use Rattle.block_laws.proofs.Passing as block
use Rattle.catch_laws.specs.Exits.{AreWaysDone, DoesSo, ExitsCatch, IsAround, IsWrittenSo, excepting, passed_on, quiet_by, the_caught}
use Rattle.catch_laws.specs.Handlers.{AnyIsDone, HandsAreDone, HasClasses, IsLanding, IsPlaced, IsTaken, emptied}
use Rattle.catch_laws.proofs.Cutting.{IsCutInto, cut_is, none_raise, raises_behind}
use Rattle.catch_laws.proofs.Following.{caught_operations_are_followed}
use Rattle.catch_laws.proofs.Handling.{any_longer, handlers_found, hands_longer, land_adds, new_types}

-- ---- what is written for handlers, beside their blocks

-- no operation stands behind what was there, but there are more variables
record OnlyAdds (w : Work) (made : LlLink × Work) : Type 0 where
  new : List LlType
  same : made.1.writing.body.ops ≡ w.writing.body.ops
  types : made.1.writing.body.types ≡ w.writing.body.types ++ new

module _ (l : Lowered) (known : Known) (graphs : Graphs) (p : LlProgram) (arguments : List (List ℕ)) (numbers : Numbers) (below : ℕ) (has : HasLayout p l.world.around.layout) (types : HasTypes (setting l known graphs p arguments) l.number below)
    (names : List ℕ) (caught : Caught) (beyond : below ≤ caught.exception) (new : among caught.variable names ≡ false) (graph_is : slice_get graphs.graphs l.number ≡ Some l.graph) (blocks : HasBlocks (setting l known graphs p arguments) l) (classes : HasClasses l known) where
  abbrev s : Setting
  s = setting l known graphs p arguments

  abbrev exc : ℕ
  exc = caught.exception

  land_only : (class : ℕ) (link : Link) (w : Work) (enough : exc < length w.writing.body.types) → IsLanding s numbers l caught class names link (emptied w.writing) → OnlyAdds w (land l link caught w)
  unfolding land landing
  land_only class link w enough it = record {
    new = new_types l known graphs p arguments numbers below has types names caught beyond new graph_is blocks classes class link w enough it;
    same = refl;
    types = land_adds l known graphs p arguments numbers below has types names caught beyond new graph_is blocks classes class link w enough it;
  }

  none_only : (link : LlLink) (e : Extra) (w : Work) → OnlyAdds w (link, work w.writing e)
  none_only link e w = record { new = []; same = refl; types = sym (append-nil w.writing.body.types) }

  any_only : (any : Option Link) (w : Work) → exc < length w.writing.body.types → AnyIsDone s numbers l caught names any w → OnlyAdds w (any_other l caught any w)
  any_only None w enough done = none_only (leave exc w.extra).0 (leave exc w.extra).1 w
  any_only (Some link) w enough done = land_only 0 link w enough done

  hands_only : (hands : List (ℕ × Link)) (w : Work) (next : LlLink × Work) → exc < length next.1.writing.body.types → HandsAreDone s numbers l caught names hands next → OnlyAdds w next → OnlyAdds w (handlers l caught hands next)
  unfolding handler tested
  hands_only [] w next enough done it = it
  hands_only (hand ∷ hands) w next enough done it =
      on (hands_only hands w next enough done.0 it) (land_only hand.0 hand.1 (handlers l caught hands next).1 (hands_longer l known graphs p arguments numbers below has types names caught beyond new graph_is blocks classes hands next enough done.0) done.1.landing)
    where
      on : OnlyAdds w (handlers l caught hands next) → OnlyAdds (handlers l caught hands next).1 (land l hand.1 caught (handlers l caught hands next).1) → OnlyAdds w (handler l caught hand (handlers l caught hands next))
      on a b = record {
        new = a.new ++ (b.new ++ type.Bool ∷ []);
        same = b.same ∙ a.same;
        types = ap (λ (ts : List LlType). ts ++ type.Bool ∷ []) (b.types ∙ ap (λ (ts : List LlType). ts ++ b.new) a.types ∙ append_assoc w.writing.body.types a.new b.new) ∙ append_assoc w.writing.body.types (a.new ++ b.new) (type.Bool ∷ []) ∙ ap (λ (ts : List LlType). w.writing.body.types ++ ts) (append_assoc a.new b.new (type.Bool ∷ []));
      }

  taken_only : (hands : List (ℕ × Link)) (any : Option Link) (w : Work) → exc < length w.writing.body.types → AnyIsDone s numbers l caught names any w → HandsAreDone s numbers l caught names hands (any_other l caught any w) → OnlyAdds w (taken l caught hands any w)
  unfolding taken
  taken_only hands any w enough any_done hands_done =
      hands_only hands w (any_other l caught any w) (any_longer l known graphs p arguments numbers below has types names caught beyond new graph_is blocks classes any w enough any_done) hands_done (any_only any w enough any_done)

-- ---- the exit

module _ (l : Lowered) (known : Known) (graphs : Graphs) (p : LlProgram) (arguments : List (List ℕ)) (numbers : Numbers) (below start new : ℕ) (names : List ℕ) (o : Op) (v : ℕ) (hands : List (ℕ × Link)) (any : Option Link) (without : Link) (front written : List LlOp) (w : Writing) (e : Extra)
    (around : IsAround l known graphs p arguments below) (enough : below ≤ start) (op_is : IsWrittenSo (setting l known graphs p arguments) l names o front written start new w) (ways : AreWaysDone (setting l known graphs p arguments) numbers l names o v hands any without w e (length front) written) where
  abbrev seen : Setting
  seen = setting l known graphs p arguments

  abbrev on_way : Writing
  on_way = passed_on seen numbers l names o v hands any without w e

  abbrev start_work : Work
  start_work = excepting seen numbers l names o v hands any without w e

  abbrev caught_so : Caught
  caught_so = the_caught seen numbers l names o v hands any without w e

  abbrev last : LlLink
  last = (link_of l None without w).0

  abbrev all : List LlOp
  all = written ++ ways.conversions

  enough_here : below ≤ length w.body.types
  enough_here = (let k = op_is.types in omega (arith, k, enough))

  -- what is written for the link, where the operation gives a value or not
  record LinkWritten : Type 0 where
    ops : List LlOp
    more : List LlType
    is : on_way.body.ops ≡ w.body.ops ++ ops
    types : on_way.body.types ≡ w.body.types ++ more
    does : NeverGives seen l.number o ⊎ (length w.body.types + length more ≤ seen.size l.number → Does seen l.number (names ++ o.result ∷ []) [] (exit.Goto without) ops (made.Goto last))

  link_written : LinkWritten
  link_written = by ways.way
    where
      by : GoesOn seen numbers l names o without w → LinkWritten
      by (inl link) =
          let it : Ends seen l (names ++ o.result ∷ []) (exit.Goto without) w (goto (link_of l None without w)) = block.links_are_passed l known graphs p arguments numbers below (names ++ o.result ∷ []) without w around.layout around.types enough_here around.graph around.blocks link in
          record { ops = it.ops; more = it.new; is = it.written; types = it.types; does = inr it.does }
      by (inr gives) =
          let it = link_adds l None without w in
          record { ops = it.ops; more = it.new; is = it.written; types = it.types; does = inl gives }

  abbrev way_new : List LlType
  way_new = link_written.more

  way_types : on_way.body.types ≡ w.body.types ++ way_new
  way_types = link_written.types

  way_long : length w.body.types ≤ length on_way.body.types
  way_long = (let k : length on_way.body.types ≡ length w.body.types + length way_new = ap (λ (ts : List LlType). length ts) way_types ∙ length-append w.body.types way_new in omega (arith, k))

  beyond : below ≤ caught_so.exception
  beyond = omega (arith, enough_here, way_long)

  inside : caught_so.exception < length start_work.writing.body.types
  inside = (let k : length (on_way.body.types ++ root_of (laid l.world 0) ∷ []) ≡ length on_way.body.types + 1 = length-append on_way.body.types (root_of (laid l.world 0) ∷ []) in omega (arith, k))

  abbrev takes : LlLink × Work
  takes = taken l caught_so hands any start_work

  cancel : (xs a b : List LlOp) → xs ++ a ≡ xs ++ b → a ≡ b
  cancel [] a b h = h
  cancel (x ∷ xs) a b h = cancel xs a b (cc)

  module _ (h : any_raises w.found (length front) w.body.ops ≡ true) where
    takes_only : OnlyAdds start_work takes
    takes_only = taken_only l known graphs p arguments numbers below around.layout around.types names caught_so beyond ways.new around.graph around.blocks around.classes hands any start_work inside (ways.any_done h) (ways.hands_done h)

    ops_are : takes.1.writing.body.ops ≡ front ++ all
    ops_are = takes_only.same ∙ ways.are ∙ ap (λ (ops : List LlOp). ops ++ ways.conversions) op_is.ops ∙ append_assoc front written ways.conversions

    abbrev into : Cut
    into = cut caught_so.exception takes.0 last (length front) takes.1.writing.found takes.1.writing.body takes.1.extra

    cut_in : (graph : LlGraph) → IsCutInto takes.1.writing.found caught_so.exception takes.0 last graph front all takes.1.writing.body takes.1.extra into
    cut_in graph = cut_is takes.1.writing.found caught_so.exception takes.0 last graph front all takes.1.writing.body takes.1.extra ops_are

    no_graph : LlGraph
    no_graph = record { name = []; params = []; result = type.Void; types = []; blocks = [] }

    raised : DoesSo seen l names o (exit.OnRaise v hands any without) front w (raised_before l v hands any (length front) e (link_of l None without w))
    raised = record {
      left = (cut_in no_graph).left;
      new = way_new ++ (root_of (laid l.world 0) ∷ takes_only.new);
      written = (cut_in no_graph).ops_are;
      types = (cut_in no_graph).types_are ∙ takes_only.types ∙ ap (λ (ts : List LlType). (ts ++ root_of (laid l.world 0) ∷ []) ++ takes_only.new) way_types
          ∙ append_assoc (w.body.types ++ way_new) (root_of (laid l.world 0) ∷ []) takes_only.new ∙ append_assoc w.body.types way_new (root_of (laid l.world 0) ∷ takes_only.new);
      does = λ placed before told.
          let it = cut_in placed.graph in
          let same : it.left ≡ (cut_in no_graph).left = cancel front it.left (cut_in no_graph).left (sym it.ops_are ∙ (cut_in no_graph).ops_are) in
          let room_of : length into.body.types ≡ length takes.1.writing.body.types = ap (λ (ts : List LlType). length ts) it.types_are in
          let room = placed.room in
          let count : length takes.1.writing.body.types ≡ length (on_way.body.types ++ root_of (laid l.world 0) ∷ []) + length takes_only.new = ap (λ (ts : List LlType). length ts) takes_only.types ∙ length-append (on_way.body.types ++ root_of (laid l.world 0) ∷ []) takes_only.new in
          let one : length (on_way.body.types ++ root_of (laid l.world 0) ∷ []) ≡ length on_way.body.types + 1 = length-append on_way.body.types (root_of (laid l.world 0) ∷ []) in
          let placed_takes : IsPlaced seen l takes.1 = record { number = placed.number; is = placed.is; graph = placed.graph; stands = placed.stands; extra = it.before placed.extra; room = omega (arith, room, room_of) } in
          let found : IsTaken seen l names caught_so hands any takes.0 = handlers_found l known graphs p arguments numbers below around.layout around.types names caught_so beyond ways.new around.graph around.blocks around.classes hands any start_work inside (ways.any_done h) (ways.hands_done h) placed_takes in
          subst (λ (ops : List LlOp). Does seen l.number names (o ∷ []) (exit.OnRaise v hands any without) ops into.exit) same
          (caught_operations_are_followed l known graphs p arguments numbers (quiet_by takes.1.writing.found) below start new names o caught_so hands any without w written ways.conversions takes.0 it.left into.exit
          around.layout around.types around.graph around.blocks told enough op_is.types op_is.is op_is.are_read op_is.fresh op_is.inside ways.own ways.way ways.are (omega (arith, room, room_of, count, one)) beyond (omega (arith, room, room_of, count, one)) found
          (record { number = placed.number; is = placed.is; graph = placed.graph; stands = placed.stands; cut = it.cut placed.extra; fits = ways.fits (let long = way_long in omega (arith, room, room_of, count, one, long)) (omega (arith, room, room_of, count, one)) }));
    }

  -- ---- where none may raise

  abbrev plain : Exit
  plain = exit.OnRaise v [] None without

  abbrev ends : LlExit
  ends = made.Goto last

  types_more : HasTypes seen l.number start
  types_more = record { typed = around.types.typed; under = λ u there. (let k = around.types.under u there in omega (arith, k, enough)) }

  link_ops : ways.conversions ≡ link_written.ops
  link_ops = cancel w.body.ops ways.conversions link_written.ops (sym ways.are ∙ link_written.is)

  link_long : length on_way.body.types ≡ length w.body.types + length link_written.more
  link_long = ap (λ (ts : List LlType). length ts) link_written.types ∙ length-append w.body.types link_written.more

  behind_it : length on_way.body.types ≤ seen.size l.number → NeverGives seen l.number o ⊎ Does seen l.number (names ++ o.result ∷ []) [] plain ways.conversions ends
  behind_it room = by link_written.does
    where
      by : NeverGives seen l.number o ⊎ (length w.body.types + length link_written.more ≤ seen.size l.number → Does seen l.number (names ++ o.result ∷ []) [] (exit.Goto without) link_written.ops (made.Goto last)) → NeverGives seen l.number o ⊎ Does seen l.number (names ++ o.result ∷ []) [] plain ways.conversions ends
      by (inl never) = inl never
      by (inr does) = inr (subst (λ (ops : List LlOp). Does seen l.number (names ++ o.result ∷ []) [] (exit.Goto without) ops ends) (sym link_ops) (does (let m = link_long in omega (arith, room, m))))

  -- as if nothing were caught
  plain_does : length on_way.body.types ≤ seen.size l.number → Does seen l.number names (o ∷ []) plain all ends
  plain_does room = operations_are_followed seen l.number names o [] plain start new written ways.conversions ends types_more op_is.is op_is.are_read (let k = op_is.types in let m = link_long in omega (arith, room, k, m)) op_is.fresh
      (exceptions_escape seen l.number names [] plain tt) (λ x frames core. refl) (behind_it room)

  module _ (placed : IsPlaced seen l (record { writing = on_way; extra = e })) (told : IsTold seen (quiet_by w.found)) (calm : AreQuiet (quiet_by w.found) written)
      (frames : List Frame) (core : Core) (g : Ghost) (env : List Bound) (world : World) (at : IsAt seen g l.number names env world core) where
    abbrev stop : LlExit
    stop = nowhere placed.graph

    abbrev alone : State
    alone = At (written ++ []) stop [] core

    silent : {text : List ℕ} (u : State) → Path p arguments alone text u → IsLoud (quiet_by w.found) placed.graph u → ⊥
    silent {text = text} u path loud = quiet_operations_never_throw p arguments (quiet_by w.found) placed.number placed.graph written core text u (record { is = placed.stands; silent = told.silent }) (let a = at.runs in let b = placed.is in cc) calm
        (subst (λ (ops : List LlOp). Path p arguments (At ops stop [] core) text u) (append-nil written) path) loud

    abbrev Follows : Exit → Answer → Type 0
    Follows e2 answer = FollowsSo seen (Does seen l.number (names ++ o.result ∷ []) [] e2) l.number names env o [] e2 world g frames (At all ends frames core) answer

    abbrev Alone : Answer → Type 0
    Alone answer = Acts seen l.number o start alone [] stop [] core g world answer

    same : (answer : Answer) → Follows plain answer → Alone answer → Follows (exit.OnRaise v hands any without) answer
    same (Gives x w2) it how = it
    same (Throws r w2) it (inl how) = absurd (silent _ how.way.leads.path tt)
    same (Throws r w2) it (inr how) = absurd (silent _ how.way.leads.path tt)
    same (Fails name) it how = it
    same Lacks it how = it
    same (Enters callee values instead w2) it how = absurd (silent _ how.way.leads.path (λ q. absurd (let z : true ≡ false = sym q ∙ told.loud callee how.number how.is in cc)))
    same Bad it how = it

    quietly : length on_way.body.types ≤ seen.size l.number → (vs : List Meant) → values_of env o.args ≡ Some vs → IsGood known.program seen.made (is_keyed seen l.number o) o.op world vs → Follows (exit.OnRaise v hands any without) (meant_op known.program o.covered o.op vs world)
    quietly room vs args good = by op_is.are_read
      where
        by : AreRead seen l.number o.args → Follows (exit.OnRaise v hands any without) (meant_op known.program o.covered o.op vs world)
        by (inl free) = same (meant_op known.program o.covered o.op vs world) (plain_does room frames core g env world vs at args good)
            (op_is.is [] stop [] core g world vs at.stands at.left (let r = at.room in let k = op_is.types in let m = link_long in omega (arith, r, room, k, m)) (operands_given seen l.number g env core at.variables o.args vs free args) good)
        by (inr gives) = absurd (none_given seen l.number g env core at.variables o.args vs gives args)

  goes_by : any_raises w.found (length front) w.body.ops ≡ false → DoesSo seen l names o (exit.OnRaise v hands any without) front w (goes_on l v hands any e (goto (link_of l None without w)))
  goes_by h = record {
    left = all;
    new = way_new;
    written = ways.are ∙ ap (λ (ops : List LlOp). ops ++ ways.conversions) op_is.ops ∙ append_assoc front written ways.conversions;
    types = way_types;
    does = λ placed told after frames core g env world vs at args good.
        quietly placed told (none_raise w.found caught_so.exception takes.0 last placed.graph written (sym (raises_behind w.found caught_so.exception takes.0 last placed.graph front written) ∙ sym (ap (any_raises w.found (length front)) op_is.ops) ∙ h))
        frames core g env world at placed.room vs args good;
  }

  pub exit_catches : DoesSo seen l names o (exit.OnRaise v hands any without) front w (on_raise l v hands any without (length front) (work w e))
  unfolding on_raise
  exit_catches = by (any_raises w.found (length front) w.body.ops) refl
    where
      by : (b : Bool) → any_raises w.found (length front) w.body.ops ≡ b
          → DoesSo seen l names o (exit.OnRaise v hands any without) front w (if b then raised_before l v hands any (length front) e (link_of l None without w) else goes_on l v hands any e (goto (link_of l None without w)))
      by true h = raised h
      by false h = goes_by h

pub exits_catch : ExitsCatch
exits_catch l known graphs p arguments numbers below start new names o v hands any without front written w e around enough op_is ways = exit_catches l known graphs p arguments numbers below start new names o v hands any without front written w e around enough op_is ways
