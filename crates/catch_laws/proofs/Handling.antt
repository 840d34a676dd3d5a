-- The classes of handlers are tested in turn.
use Rattle.std.proofs.Common.{◌≡◌, ◌<◌, ◌≤◌, ℕ, zero, suc, ◌+◌, ◌==◌, ◌||◌, Bool, true, false, List, [], ◌∷◌, ◌++◌, length, Option, Some, None, refl, sym, ap, ◌∙◌, subst, arith}
use Rattle.std.specs.Prelude.{slice_get, slice_set, cond, if◌then◌else◌}
use Rattle.std.proofs.lemmas.Bool.Decides.{nat_tests}
use Rattle.std.proofs.lemmas.List.{get_or-set_same, get_or-set_other, length-append, length-set}
use Rattle.csub_tree.specs.State.{Unset, Flag, Core}
use Rattle.csub_tree.specs.Operation.{is_unset, flag_of}
use Rattle.csub_tree.specs.Statement.{read}
use Rattle.csub_tree.specs.declared.stuck.StuckReason.TheVariants.{Unset as IsUnset}
use Rattle.csub_tree.specs.declared.tree.COperand.{COperand}
use Rattle.csub_tree.specs.declared.tree.COperand.TheVariants.{Var}
use Rattle.ll_code.specs.State.{Frame, State, At, Throwing, Goes, Sticks}
use Rattle.ll_code.specs.Machine.{branch, jump, step}
use Rattle.ll_code.specs.declared.program.LlType.{LlType}
use Rattle.ll_code.specs.declared.program.LlType.TheVariants as type
use Rattle.ll_code.specs.declared.program.LlOp.{LlOp}
use Rattle.ll_code.specs.declared.program.LlExit.{LlExit}
use Rattle.ll_code.specs.declared.program.LlExit.TheVariants as made
use Rattle.ll_code.specs.declared.program.LlLink.{LlLink}
use Rattle.ll_code.specs.declared.program.LlBlock.{LlBlock}
use Rattle.ll_code.specs.declared.program.LlGraph.{LlGraph}
use Rattle.ll_code.specs.declared.program.LlProgram.{LlProgram}
use Rattle.ll_build.specs.declared.needs.Numbers.{Numbers}
use Rattle.ll_leads.specs.Path.{Leads}
use Rattle.ll_leads.proofs.Ways.{one, call}
use Rattle.ll_live.specs.Live.{among, variables_of, variables_in}
use Rattle.ll_live.proofs.Appended.{among_append}
use Rattle.rpy_tree.specs.Value.{Value as Meant, Ref}
use Rattle.rpy_meaning.specs.Classes.{is_below}
use Rattle.rpy_meaning.specs.World.{World}
use Rattle.flow_graph.specs.declared.graph.Block.{Block}
use Rattle.flow_graph.specs.declared.graph.Graphs.{Graphs}
use Rattle.flow_graph.specs.declared.graph.Link.{Link}
use Rattle.flow_meaning.specs.Machine.{Bound, bind, block_in, look, catching}
use Rattle.rtyper_data.specs.Building.{block_with}
use Rattle.rtyper_data.specs.Finding.{same_type, small_number}
use Rattle.rtyper_data.specs.Seen.{Writing}
use Rattle.rtyper_program.specs.declared.extra.Extra.{Extra}
use Rattle.rtyper_program.specs.declared.links.Caught.{Caught}
use Rattle.rtyper_program.specs.Handlers.{Work, added, any_other, handler, handlers, land, landing, leave, taken, tested, test_block, test_of}
use Rattle.rtyper_program.specs.Links.{arguments, inputs_at, link_of, typed}
use Rattle.rtyper_program.specs.Live.{live}
use Rattle.rtyper_program.specs.Seen.{Lowered, type_at}
use Rattle.object_laws.specs.Done.{HasLayout}
use Rattle.object_laws.specs.Ghost.{Ghost, InstanceOf}
use Rattle.object_laws.specs.Known.{Known}
use Rattle.object_laws.specs.Values.{Made}
use Rattle.object_laws.proofs.Blocks.{found_set}
use Rattle.object_laws.proofs.Growing.{grown_none}
use Rattle.object_laws.proofs.Valued.{held_set}
use Rattle.class_laws.specs.Asked.{HasClass}
use Rattle.run_laws.specs.Points.{Setting, IsAt, Way}
use Rattle.run_laws.specs.Does.{Jumps}
use Rattle.run_laws.proofs.Steps.{way_then}
use Rattle.block_laws.specs.Operations.{HasTypes}
use Rattle.block_laws.specs.Links.{setting, AllAmong, HasBlocks}
use Rattle.block_laws.proofs.Passing as block
use Rattle.block_laws.proofs.Passing.{equal, is_void, no_void, unequal}
use Rattle.block_laws.proofs.Variables.{stand_kept, typed_free}
use Rattle.throw_laws.specs.Pieces.{AllIn, AreSet, elsewhere}
use Rattle.throw_laws.proofs.Catching.{goes_by}
use Rattle.catch_laws.specs.Handlers.{AnyIsDone, AreInGraph, HandIsDone, HandlersAreFound, HandsAreDone, HasClasses, IsCaughtAt, IsLanding, IsPlaced, IsTaken, Lands, LandsAt, Reaches, emptied}
use Rattle.catch_laws.proofs.Landing as landing_at
use Rattle.throw_laws.specs.Ready.{through, ReadIn}
use Rattle.catch_laws.proofs.Reading.{AreAmong, live_in, new_in, none_in, one_in, here_in, left_in, right_in, own_variables, passes_in}
use Rattle.catch_laws.proofs.Telling.{exception_told}

-- ---- blocks that were made

in_front : (xs : List LlBlock) (b : LlBlock) (i : ℕ) (c : LlBlock) → slice_get xs i ≡ Some c → slice_get (xs ++ b ∷ []) i ≡ Some c
in_front [] b i c h = absurd (cc)
in_front (x ∷ xs) b zero c h = h
in_front (x ∷ xs) b (suc i) c h = in_front xs b i c h

at_last : (xs : List LlBlock) (b : LlBlock) → slice_get (xs ++ b ∷ []) (length xs) ≡ Some b
at_last [] b = refl
at_last (x ∷ xs) b = at_last xs b

pub before_added : (graph : LlGraph) (b : LlBlock) (e : Extra) → AreInGraph graph (added b e).1 → AreInGraph graph e
before_added graph b e h i c k = h i c (in_front e.blocks b i c k)

pub added_there : (graph : LlGraph) (b : LlBlock) (e : Extra) → AreInGraph graph (added b e).1 → slice_get graph.blocks (added b e).0.to ≡ Some b
added_there graph b e h = h (length e.blocks) b (at_last e.blocks b)

-- ---- variables with a type

module _ (l : Lowered) where
  pub typed_in : (vs : List ℕ) (u : ℕ) → among u (typed l vs) ≡ true → (among u vs ≡ true) × (type_at l u ≡ type.Void → ⊥)
  typed_in [] u h = absurd (cc)
  typed_in (v ∷ vs) u h = by (λ k. typed_in vs u k) (same_type (type_at l v) type.Void) refl h
    where
      Result : Type 0
      Result = ((v == u) || among u vs ≡ true) × (type_at l u ≡ type.Void → ⊥)

      behind : (among u vs ≡ true) × (type_at l u ≡ type.Void → ⊥) → ((v == u) || among u vs ≡ true) × (type_at l u ≡ type.Void → ⊥)
      behind k = (right_in u (v ∷ []) vs k.0, k.1)

      on : (same_type (type_at l v) type.Void ≡ false) → (among u (typed l vs) ≡ true → (among u vs ≡ true) × (type_at l u ≡ type.Void → ⊥)) → (c : Bool) → (v == u) ≡ c → (c || among u (typed l vs)) ≡ true → ((v == u) || among u vs ≡ true) × (type_at l u ≡ type.Void → ⊥)
      on t go true e k = (ap (λ b. b || among u vs) e, let q : v ≡ u = grind (arith, nat_tests, e) in subst (λ (n : ℕ). type_at l n ≡ type.Void → ⊥) q (no_void (type_at l v) t))
      on t go false e k = behind (go k)

      by : (among u (typed l vs) ≡ true → (among u vs ≡ true) × (type_at l u ≡ type.Void → ⊥)) → (b : Bool) → same_type (type_at l v) type.Void ≡ b → among u (if b then typed l vs else v ∷ typed l vs) ≡ true → ((v == u) || among u vs ≡ true) × (type_at l u ≡ type.Void → ⊥)
      by go true t k = behind (go k)
      by go false t k = on t go (v == u) refl k

  pub typed_has : (vs : List ℕ) (u : ℕ) → among u vs ≡ true → (type_at l u ≡ type.Void → ⊥) → among u (typed l vs) ≡ true
  typed_has [] u h there = absurd (cc)
  typed_has (v ∷ vs) u h there = by (λ k. typed_has vs u k there) (same_type (type_at l v) type.Void) refl (v == u) refl h
    where
      by : (among u vs ≡ true → among u (typed l vs) ≡ true) → (b : Bool) → same_type (type_at l v) type.Void ≡ b → (c : Bool) → (v == u) ≡ c → (c || among u vs) ≡ true → among u (if b then typed l vs else v ∷ typed l vs) ≡ true
      by go true t true e k = absurd (there (let q : v ≡ u = grind (arith, nat_tests, e) in subst (λ (n : ℕ). type_at l n ≡ type.Void) q (is_void (type_at l v) t)))
      by go true t false e k = go k
      by go false t true e k = ap (λ b. b || among u (typed l vs)) e
      by go false t false e k = right_in u (v ∷ []) (typed l vs) (go k)

-- what comes of an exception, after a way
module _ (s : Setting) (f v : ℕ) where
  pub lands_after : (chosen : Option Link) (r : ℕ) (env : List Bound) (world : World) (g : Ghost) (frames : List Frame) (from mid : State) → Way s from [] mid → Lands s f v chosen r env world g frames mid → Lands s f v chosen r env world g frames from
  lands_after None r env world g frames from mid way it = record { x = it.x; end = it.end; way = way_then s way it.way; ghost = it.ghost; grown = it.grown; is = it.is; stands = it.stands; left = it.left }
  lands_after (Some link) r env world g frames from mid way it = let k = it.begins in record { block = it.block; is = it.is; begins = record { low = k.low; block = k.block; end = k.end; way = way_then s way k.way; ghost = k.ghost; grown = k.grown; at = k.at } }

module _ (l : Lowered) (known : Known) (graphs : Graphs) (p : LlProgram) (arguments : List (List ℕ)) (numbers : Numbers) (below : ℕ) (has : HasLayout p l.world.around.layout) (types : HasTypes (setting l known graphs p arguments) l.number below) (names : List ℕ) where
  -- what has been set in a block is set
  pub names_set : {g : Ghost} {env : List Bound} {world : World} {core : Core} → IsAt (setting l known graphs p arguments) g l.number names env world core → AreSet (typed l names) core.vars
  names_set {g = g} {env = env} {core = core} at u h = by (look env u) refl
    where
      inside : (among u names ≡ true) × (type_at l u ≡ type.Void → ⊥)
      inside = typed_in l names u h

      by : (o : Option Meant) → look env u ≡ o → is_unset (read core.vars u) ≡ false
      by (Some x) e = held_set at.stands (at.variables.bound u x e (typed_free l.world.around.layout ((setting l known graphs p arguments).element l.number u) inside.1))
      by None e = block.blank_set l known graphs p arguments numbers below has types at.stands inside.1 (at.variables.blank u (ap (among u) at.named ∙ inside.0) e)

-- ---- the handlers of a block

module _ (l : Lowered) (known : Known) (graphs : Graphs) (p : LlProgram) (arguments : List (List ℕ)) (numbers : Numbers) (below : ℕ) (has : HasLayout p l.world.around.layout) (types : HasTypes (setting l known graphs p arguments) l.number below)
    (names : List ℕ) (caught : Caught) (beyond : below ≤ caught.exception) (new : among caught.variable names ≡ false) (graph_is : slice_get graphs.graphs l.number ≡ Some l.graph) (blocks : HasBlocks (setting l known graphs p arguments) l) (classes : HasClasses l known) where
  abbrev pub s : Setting
  s = setting l known graphs p arguments

  abbrev v : ℕ
  v = caught.variable

  abbrev exc : ℕ
  exc = caught.exception

  abbrev pub passable : List ℕ
  passable = exc ∷ typed l names

  abbrev IsCaught : Ghost → List Bound → World → Core → ℕ → ℕ → Type 0
  IsCaught = IsCaughtAt s l.number names exc

  -- what has been set in the block is set, and so is the exception
  exception_set : {g : Ghost} {env : List Bound} {world : World} {core : Core} {r class : ℕ} → IsCaught g env world core r class → is_unset (read core.vars exc) ≡ false
  exception_set {core = core} {r = r} {class = class} c = found_set core.blocks core.statics (read core.vars exc) _ (c.at.stands.instances class r (read core.vars exc) c.home).block_is

  all_set : {g : Ghost} {env : List Bound} {world : World} {core : Core} {r class : ℕ} → IsCaught g env world core r class → AreSet passable core.vars
  all_set {core = core} c u h = by (exc == u) refl h
    where
      by : (b : Bool) → (exc == u) ≡ b → (b || among u (typed l names)) ≡ true → is_unset (read core.vars u) ≡ false
      by true e k = subst (λ (n : ℕ). is_unset (read core.vars n) ≡ false) (sym (equal exc u e)) (exception_set c)
      by false e k = names_set l known graphs p arguments numbers below has types names c.at u k

  -- a block that was made is next, with the variables as they are
  made_next : (frames : List Frame) (core : Core) (graph : LlGraph) (number : ℕ) (b : LlBlock) (e : Extra) → s.known.graph l.number ≡ Some number → slice_get p.graphs number ≡ Some graph → s.known.graph l.number ≡ Some core.function → AreInGraph graph (added b e).1 → AreSet b.inputs core.vars
      → jump p frames core (added b e).0 ≡ Goes (At b.ops b.exit frames (elsewhere (added b e).0.to 0 core))
  made_next frames core graph number b e is stands runs inside set =
      let same : core.function ≡ number = (let a = runs in cc) in
      goes_by p frames number graph stands core (added b e).0 b same (added_there graph b e inside) refl set

  own_link : (b : LlBlock) (e : Extra) → AllIn b.inputs passable → AllIn (variables_in (added b e).0.args) passable
  own_link b e h = subst (λ (vs : List ℕ). AllIn vs passable) (sym (own_variables b.inputs)) h

  lands_so : {env : List Bound} {world : World} {g : Ghost} {frames : List Frame} {from : State} (link : Link) (b : Block) → slice_get l.graph.blocks link.to ≡ Some b → Jumps s l.number link env world g frames from → LandsAt s l.number link env world g frames from
  lands_so link b is jumps = let there : block_in (slice_get graphs.graphs l.number) link.to ≡ Some b = ap (λ o. block_in o link.to) graph_is ∙ is in record { block = b; is = there; begins = jumps b there }

  -- ---- out of the graph

  leaves_taken : (e : Extra) (w : Writing) → IsPlaced s l (record { writing = w; extra = (leave exc e).1 }) → IsTaken s l names caught [] None (leave exc e).0
  leaves_taken e w placed = record {
    own = own_link (block_with (exc ∷ []) [] (made.Raise exc)) e (one_in exc passable (here_in exc (typed l names)));
    leads = λ frames core g env world r class c.
        let b : LlBlock = block_with (exc ∷ []) [] (made.Raise exc) in
        let next : Core = elsewhere (added b e).0.to 0 core in
        record {
          state = At [] (made.Raise exc) frames next;
          goes = made_next frames core placed.graph placed.number b e placed.is placed.stands c.at.runs placed.extra (λ u h. all_set c u (one_in exc passable (here_in exc (typed l names)) u h));
          lands = record {
            x = read core.vars exc;
            end = next;
            way = record { most = 0; leads = one (ap (λ b. cond b (Sticks IsUnset) (Goes (Throwing (read core.vars exc) frames next))) (exception_set c)) refl };
            ghost = g;
            grown = grown_none;
            is = record { class = class; home = c.home; above = c.above };
            stands = c.at.stands;
            left = c.at.left;
          };
        };
  }

  -- ---- to a handler

  module _ (class : ℕ) (link : Link) (w : Work) (enough : exc < length w.writing.body.types) (it : IsLanding s numbers l caught class names link (emptied w.writing)) where
    abbrev linked : LlLink × Writing
    linked = link_of l (Some caught) link (emptied w.writing)

    abbrev lands_block : LlBlock
    lands_block = block_with (live linked.1.body.ops [] linked.0.args) linked.1.body.ops (made.Goto linked.0)

    pub longer_below : below ≤ length w.writing.body.types
    longer_below = omega (arith, beyond, enough)

    at_among : (args : List ℕ) (a : ℕ) → AllAmong args (names ++ v ∷ []) → among a args ≡ true → among a (names ++ v ∷ []) ≡ true
    at_among [] a own h = absurd (cc)
    at_among (b ∷ args) a own h = by (λ k. at_among args a own.1 k) (b == a) refl h
      where
        by : (among a args ≡ true → among a (names ++ v ∷ []) ≡ true) → (c : Bool) → (b == a) ≡ c → (c || among a args) ≡ true → among a (names ++ v ∷ []) ≡ true
        by go true e k = let q : b ≡ a = sym (equal b a e) in subst (λ (n : ℕ). among n (names ++ v ∷ []) ≡ true) q own.0
        by go false e k = go k

    not_new : (a : ℕ) → (v == a) ≡ false → among a (names ++ v ∷ []) ≡ true → among a names ≡ true
    not_new a e h = on (among a names) refl
      where
        last : among a (v ∷ []) ≡ false
        last = ap (λ b. b || false) e

        on : (b : Bool) → among a names ≡ b → among a names ≡ true
        on true f = f
        on false f = absurd (let q : false ≡ true = sym (among_append a names (v ∷ []) ∙ ap (λ b. b || among a (v ∷ [])) f ∙ last) ∙ h in cc)

    sources : AreAmong l (Some caught) link.args passable
    sources a h there = by (v == a) refl there
      where
        read : Bool → COperand × LlType
        read b = if b then (Var exc, caught.kind) else (Var a, type_at l a)

        by : (b : Bool) → (v == a) ≡ b → ((read b).1 ≡ type.Void → ⊥) → AllIn (variables_of (read b).0) passable
        by true e t = one_in exc passable (here_in exc (typed l names))
        by false e t = one_in a passable (right_in a (exc ∷ []) (typed l names) (typed_has l names a (not_new a e (at_among link.args a it.own h)) t))

    block_reads : AllIn lands_block.inputs passable
    unfolding link_of
    block_reads =
        let passes = passes_in l (Some caught) link.args 0 (inputs_at l link.to) [] (emptied w.writing) in
        let fine = passes.fine passable sources in
        live_in linked.1.body.ops [] linked.0.args passable (subst (λ (ops : List LlOp). ReadIn ops passable) (sym passes.written) fine.0)
        (subst (λ (ops : List LlOp). AllIn (variables_in linked.0.args) (through ops passable)) (sym passes.written) (subst (λ (xs : List COperand). AllIn (variables_in xs) (through passes.ops passable)) (sym passes.given) fine.1)) (none_in passable)

    abbrev pub new_types : List LlType
    new_types = (landing_at.passes l known graphs p arguments numbers below has types caught class it.kind names link (emptied w.writing) longer_below enough graph_is blocks it).new

    pub land_adds : (land l link caught w).1.writing.body.types ≡ w.writing.body.types ++ new_types
    unfolding land landing
    land_adds = landing_at.landing_adds l known graphs p arguments numbers below has types caught class it.kind names link (emptied w.writing) longer_below enough graph_is blocks it

    pub land_extra : (land l link caught w).1.extra ≡ (added lands_block w.extra).1
    unfolding land landing
    land_extra = refl

    pub land_link : (land l link caught w).0 ≡ (added lands_block w.extra).0
    unfolding land landing
    land_link = refl

    -- an exception of the class, or of one below it
    pub land_leads : IsPlaced s l (land l link caught w).1 → (frames : List Frame) (core : Core) (g : Ghost) (env : List Bound) (world : World) (r c : ℕ) → IsCaught g env world core r c → is_below known.program.classes c class ≡ true
        → Reaches s l.number v (Some link) r env world g frames core (land l link caught w).0
    land_leads placed frames core g env world r c it_is under =
        let passes = landing_at.passes l known graphs p arguments numbers below has types caught class it.kind names link (emptied w.writing) longer_below enough graph_is blocks it in
        let e : LlExit = made.Goto linked.0 in
        let next : Core = elsewhere (added lands_block w.extra).0.to 0 core in
        let inside : AreInGraph placed.graph (added lands_block w.extra).1 = subst (AreInGraph placed.graph) land_extra placed.extra in
        let written : linked.1.body.ops ≡ passes.ops = landing_at.landing_written l known graphs p arguments numbers below has types caught class it.kind names link (emptied w.writing) longer_below enough graph_is blocks it in
        let count : length (land l link caught w).1.writing.body.types ≡ length w.writing.body.types + length passes.new = ap (λ (ts : List LlType). length ts) land_adds ∙ length-append w.writing.body.types passes.new in
        let room = placed.room in
        let home = it_is.home in
        let instance = it_is.at.stands.instances c r (read core.vars exc) home in
        subst (λ (by : LlLink). Reaches s l.number v (Some link) r env world g frames core by) (sym land_link) (record {
          state = At linked.1.body.ops e frames next;
          goes = made_next frames core placed.graph placed.number lands_block w.extra placed.is placed.stands it_is.at.runs inside (λ u h. all_set it_is u (block_reads u h));
          lands = subst (λ (ops : List LlOp). LandsAt s l.number link (env ++ bind v (Some (Ref r)) ∷ []) world g frames (At ops e frames next)) (sym written)
              (lands_so link it.block it.is (landing_at.landing_does l known graphs p arguments numbers below has types caught class it.kind names link (emptied w.writing) longer_below enough graph_is blocks it (omega (arith, room, count)) frames next g env world r it_is.at.stands it_is.at.left
              (record { stand = it_is.at.variables; new = ap (among v) it_is.at.named ∙ new; holds = Made class false c r refl refl under home }) it_is.at.named it_is.at.runs it_is.at.room));
        })

  -- ---- by a test

  -- the class of the exception is tested
  module _ (hand : ℕ) (link : Link) (hands : List (ℕ × Link)) (any : Option Link) (there elsewhere_to : LlLink) (w : Work) (enough : exc < length w.writing.body.types) (inside : hand < length l.world.classes.classes)
      (test : HasClass p l.world known.exception (test_of l.world hand) (small_number (test_of l.world hand) w.writing.found).0) where
    abbrev t : ℕ
    t = length w.writing.body.types

    abbrev number : ℕ
    number = (small_number (test_of l.world hand) w.writing.found).0

    abbrev tests : LlBlock
    tests = test_block exc there elsewhere_to number t

    pub tested_adds : (tested l exc hand there elsewhere_to w).1.writing.body.types ≡ w.writing.body.types ++ type.Bool ∷ []
    unfolding tested
    tested_adds = refl

    pub tested_extra : (tested l exc hand there elsewhere_to w).1.extra ≡ (added tests w.extra).1
    unfolding tested
    tested_extra = refl

    pub tested_link : (tested l exc hand there elsewhere_to w).0 ≡ (added tests w.extra).0
    unfolding tested
    tested_link = refl

    module _ (placed : IsPlaced s l (tested l exc hand there elsewhere_to w).1) (there_own : AllIn (variables_in there.args) passable) (other : IsTaken s l names caught hands any elsewhere_to)
        (there_leads : (frames : List Frame) (core : Core) (g : Ghost) (env : List Bound) (world : World) (r c : ℕ) → IsCaught g env world core r c → is_below known.program.classes c hand ≡ true → Reaches s l.number v (Some link) r env world g frames core there) where
      tests_read : AllIn tests.inputs passable
      tests_read = new_in (variables_in elsewhere_to.args) (exc ∷ []) _ passable (λ u h. left_in u passable (exc ∷ []) (other.own u h)) (new_in (variables_in there.args) (exc ∷ []) (exc ∷ []) passable (λ u h. left_in u passable (exc ∷ []) (there_own u h)) (one_in exc passable (here_in exc (typed l names))))

      count : length (tested l exc hand there elsewhere_to w).1.writing.body.types ≡ t + 1
      count = ap (λ (ts : List LlType). length ts) tested_adds ∙ length-append w.writing.body.types (type.Bool ∷ [])

      leads : (frames : List Frame) (core : Core) (g : Ghost) (env : List Bound) (world : World) (r c : ℕ) → IsCaught g env world core r c → Reaches s l.number v (catching known.program c ((hand, link) ∷ hands) any) r env world g frames core (added tests w.extra).0
      leads frames core g env world r c it = record {
        state = first;
        goes = made_next frames core placed.graph placed.number tests w.extra placed.is placed.stands it.at.runs (subst (AreInGraph placed.graph) tested_extra placed.extra) (λ u h. all_set it u (tests_read u h));
        lands = lands_after s l.number v (catching known.program c ((hand, link) ∷ hands) any) r env world g frames first (At [] (made.If t there elsewhere_to) frames then_at) (record { most = 0; leads = asked }) (by answer refl);
      }
        where
          next : Core
          next = elsewhere (added tests w.extra).0.to 0 core

          answer : Bool
          answer = is_below known.program.classes c hand

          first : State
          first = At tests.ops tests.exit frames next

          then_at : Core
          then_at = record next { at = next.at + 1; vars = slice_set core.vars t (Flag answer) }

          fits : t < length core.vars
          fits = (let a = placed.room in let b = it.at.room in let d = count in omega (arith, a, b, d))

          asked : Leads p arguments 0 first [] (At [] (made.If t there elsewhere_to) frames then_at)
          asked = call (ap (λ b. b || false) (exception_set it))
              (exception_told l.world known p arguments classes.root hand number c r (read core.vars exc) next g world.heap world.left classes.of_world classes.out classes.is_laid has inside test it.at.stands it.home it.above)

          others : (k : ℕ) → k < t → read then_at.vars k ≡ read core.vars k
          others k h = get_or-set_other core.vars t k (Flag answer) Unset (λ q. absurd (omega (arith, h, q)))

          again : IsCaught g env world then_at r c
          again = record {
            at = record {
              named = it.at.named;
              stands = it.at.stands;
              left = it.at.left;
              variables = stand_kept s l.number below types grown_none it.at.variables (λ k h. others k (omega (arith, h, beyond, enough)));
              runs = it.at.runs;
              room = length-set core.vars t (Flag answer) ∙ it.at.room;
            };
            home = it.home ∙ ap (λ x. Some (record { sort = InstanceOf c; head = x })) (sym (others exc enough));
            above = it.above;
          }

          told : read then_at.vars t ≡ Flag answer
          told = get_or-set_same core.vars t (Flag answer) Unset fits

          goes_by_answer : step p arguments (At [] (made.If t there elsewhere_to) frames then_at) ≡ cond answer (jump p frames then_at there) (jump p frames then_at elsewhere_to)
          goes_by_answer = ap (λ x. branch p frames then_at there elsewhere_to (flag_of x)) told

          reached : (chosen : Option Link) (by : LlLink) → step p arguments (At [] (made.If t there elsewhere_to) frames then_at) ≡ jump p frames then_at by → Reaches s l.number v chosen r env world g frames then_at by → Lands s l.number v chosen r env world g frames (At [] (made.If t there elsewhere_to) frames then_at)
          reached chosen by h k = lands_after s l.number v chosen r env world g frames (At [] (made.If t there elsewhere_to) frames then_at) k.state (record { most = 0; leads = one (h ∙ k.goes) refl }) k.lands

          by : (b : Bool) → is_below known.program.classes c hand ≡ b → Lands s l.number v (catching known.program c ((hand, link) ∷ hands) any) r env world g frames (At [] (made.If t there elsewhere_to) frames then_at)
          by true e = subst (λ (o : Option Link). Lands s l.number v o r env world g frames (At [] (made.If t there elsewhere_to) frames then_at)) (sym (ap (λ b. cond b (Some link) (catching known.program c hands any)) e))
              (reached (Some link) there (goes_by_answer ∙ ap (λ b. cond b (jump p frames then_at there) (jump p frames then_at elsewhere_to)) e) (there_leads frames then_at g env world r c again e))
          by false e = subst (λ (o : Option Link). Lands s l.number v o r env world g frames (At [] (made.If t there elsewhere_to) frames then_at)) (sym (ap (λ b. cond b (Some link) (catching known.program c hands any)) e))
              (reached (catching known.program c hands any) elsewhere_to (goes_by_answer ∙ ap (λ b. cond b (jump p frames then_at there) (jump p frames then_at elsewhere_to)) e) (other.leads frames then_at g env world r c again))

      pub tested_taken : IsTaken s l names caught ((hand, link) ∷ hands) any (tested l exc hand there elsewhere_to w).0
      tested_taken = subst (λ (by : LlLink). IsTaken s l names caught ((hand, link) ∷ hands) any by) (sym tested_link) (record { own = own_link tests w.extra tests_read; leads = leads })

    -- what was placed behind is placed before
    tested_placed : IsPlaced s l (tested l exc hand there elsewhere_to w).1 → IsPlaced s l w
    tested_placed placed = record {
      number = placed.number;
      is = placed.is;
      graph = placed.graph;
      stands = placed.stands;
      extra = before_added placed.graph tests w.extra (subst (AreInGraph placed.graph) tested_extra placed.extra);
      room = (let a = placed.room in let count : length (tested l exc hand there elsewhere_to w).1.writing.body.types ≡ t + 1 = ap (λ (ts : List LlType). length ts) tested_adds ∙ length-append w.writing.body.types (type.Bool ∷ []) in omega (arith, a, count));
    }

  land_placed : (class : ℕ) (link : Link) (w : Work) → exc < length w.writing.body.types → IsLanding s numbers l caught class names link (emptied w.writing) → IsPlaced s l (land l link caught w).1 → IsPlaced s l w
  land_placed class link w enough it placed = record {
    number = placed.number;
    is = placed.is;
    graph = placed.graph;
    stands = placed.stands;
    extra = before_added placed.graph (lands_block class link w enough it) w.extra (subst (AreInGraph placed.graph) (land_extra class link w enough it) placed.extra);
    room = (let a = placed.room in let count : length (land l link caught w).1.writing.body.types ≡ length w.writing.body.types + length (new_types class link w enough it) = ap (λ (ts : List LlType). length ts) (land_adds class link w enough it) ∙ length-append w.writing.body.types (new_types class link w enough it) in omega (arith, a, count));
  }

  land_longer : (class : ℕ) (link : Link) (w : Work) (enough : exc < length w.writing.body.types) → IsLanding s numbers l caught class names link (emptied w.writing) → exc < length (land l link caught w).1.writing.body.types
  land_longer class link w enough it = (let count : length (land l link caught w).1.writing.body.types ≡ length w.writing.body.types + length (new_types class link w enough it) = ap (λ (ts : List LlType). length ts) (land_adds class link w enough it) ∙ length-append w.writing.body.types (new_types class link w enough it) in omega (arith, enough, count))

  -- ---- all of them

  pub any_longer : (any : Option Link) (w : Work) → exc < length w.writing.body.types → AnyIsDone s numbers l caught names any w → exc < length (any_other l caught any w).1.writing.body.types
  any_longer None w enough done = enough
  any_longer (Some link) w enough done = land_longer 0 link w enough done

  any_taken : (any : Option Link) (w : Work) → exc < length w.writing.body.types → AnyIsDone s numbers l caught names any w → IsPlaced s l (any_other l caught any w).1 → IsTaken s l names caught [] any (any_other l caught any w).0
  any_taken None w enough done placed = leaves_taken w.extra w.writing placed
  any_taken (Some link) w enough done placed = record {
    own = subst (λ (by : LlLink). AllIn (variables_in by.args) passable) (sym (land_link 0 link w enough done)) (own_link (lands_block 0 link w enough done) w.extra (block_reads 0 link w enough done));
    leads = λ frames core g env world r c it. land_leads 0 link w enough done placed frames core g env world r c it it.above;
  }

  pub hands_longer : (hands : List (ℕ × Link)) (next : LlLink × Work) → exc < length next.1.writing.body.types → HandsAreDone s numbers l caught names hands next → exc < length (handlers l caught hands next).1.writing.body.types
  unfolding handler tested
  hands_longer [] next enough done = enough
  hands_longer (hand ∷ hands) next enough done = by (hands_longer hands next enough done.0) done.1
    where
      by : exc < length (handlers l caught hands next).1.writing.body.types → HandIsDone s numbers l caught names hand (handlers l caught hands next).1 → exc < length (handler l caught hand (handlers l caught hands next)).1.writing.body.types
      by m it =
          let there = land l hand.1 caught (handlers l caught hands next).1 in
          let a : exc < length there.1.writing.body.types = land_longer hand.0 hand.1 (handlers l caught hands next).1 m it.landing in
          let count : length (there.1.writing.body.types ++ type.Bool ∷ []) ≡ length there.1.writing.body.types + 1 = length-append there.1.writing.body.types (type.Bool ∷ []) in
          omega (arith, a, count)

  hands_taken : (hands : List (ℕ × Link)) (any : Option Link) (next : LlLink × Work) → exc < length next.1.writing.body.types → HandsAreDone s numbers l caught names hands next → (IsPlaced s l next.1 → IsTaken s l names caught [] any next.0)
      → IsPlaced s l (handlers l caught hands next).1 → IsTaken s l names caught hands any (handlers l caught hands next).0
  unfolding handler
  hands_taken [] any next enough done last placed = last placed
  hands_taken (hand ∷ hands) any next enough done last placed = by (λ q. hands_taken hands any next enough done.0 last q) (hands_longer hands next enough done.0) done.1 placed
    where
      by : (IsPlaced s l (handlers l caught hands next).1 → IsTaken s l names caught hands any (handlers l caught hands next).0) → exc < length (handlers l caught hands next).1.writing.body.types → HandIsDone s numbers l caught names hand (handlers l caught hands next).1
          → IsPlaced s l (handler l caught hand (handlers l caught hands next)).1 → IsTaken s l names caught (hand ∷ hands) any (handler l caught hand (handlers l caught hands next)).0
      by go m it placed =
          let rest = handlers l caught hands next in
          let there = land l hand.1 caught rest.1 in
          let more : exc < length there.1.writing.body.types = land_longer hand.0 hand.1 rest.1 m it.landing in
          let placed_there : IsPlaced s l there.1 = tested_placed hand.0 hand.1 hands any there.0 rest.0 there.1 more it.class it.test placed in
          let placed_rest : IsPlaced s l rest.1 = land_placed hand.0 hand.1 rest.1 m it.landing placed_there in
          tested_taken hand.0 hand.1 hands any there.0 rest.0 there.1 more it.class it.test placed
          (subst (λ (by : LlLink). AllIn (variables_in by.args) passable) (sym (land_link hand.0 hand.1 rest.1 m it.landing)) (own_link (lands_block hand.0 hand.1 rest.1 m it.landing) rest.1.extra (block_reads hand.0 hand.1 rest.1 m it.landing)))
          (go placed_rest) (land_leads hand.0 hand.1 rest.1 m it.landing placed_there)

  pub handlers_found : (hands : List (ℕ × Link)) (any : Option Link) (w : Work) → exc < length w.writing.body.types → AnyIsDone s numbers l caught names any w → HandsAreDone s numbers l caught names hands (any_other l caught any w) → IsPlaced s l (taken l caught hands any w).1
      → IsTaken s l names caught hands any (taken l caught hands any w).0
  unfolding taken
  handlers_found hands any w enough any_done hands_done placed = hands_taken hands any (any_other l caught any w) (any_longer any w enough any_done) hands_done (any_taken any w enough any_done) placed

pub handlers_are_found : HandlersAreFound
handlers_are_found l known graphs p arguments numbers below names caught hands any w has types beyond enough new graph blocks classes any_done hands_done placed =
    handlers_found l known graphs p arguments numbers below has types names caught beyond new graph blocks classes hands any w enough any_done hands_done placed
