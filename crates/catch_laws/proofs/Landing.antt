-- What the links of handlers pass on, the exception among it.
use Rattle.std.proofs.Common.{◌≡◌, ◌<◌, ◌≤◌, ℕ, ◌+◌, ◌==◌, Bool, true, false, List, [], ◌∷◌, ◌++◌, length, Option, Some, refl, sym, ap, ◌∙◌, subst, arith, append_assoc}
use Rattle.std.specs.Prelude.{slice_get, cond, if◌then◌else◌}
use Rattle.std.proofs.lemmas.List.{append-nil, length-append}
use Rattle.ann_element.specs.declared.element.Element.{Element}
use Rattle.ann_element.specs.declared.element.Element.TheVariants as element
use Rattle.csub_tree.specs.State.{Value, Core}
use Rattle.csub_tree.specs.Statement.{read, operand, operands}
use Rattle.csub_tree.specs.declared.stuck.StuckReason.TheVariants.{Unset as IsUnset}
use Rattle.csub_tree.specs.declared.tree.COperand.{COperand}
use Rattle.csub_tree.specs.declared.tree.COperand.TheVariants.{Var}
use Rattle.ll_code.specs.State.{Frame, State, At, Goes, Sticks}
use Rattle.ll_code.specs.Machine.{jump, begins, block_in as block_there, set_all}
use Rattle.ll_code.specs.declared.program.LlType.{LlType}
use Rattle.ll_code.specs.declared.program.LlType.TheVariants as type
use Rattle.ll_code.specs.declared.program.LlOp.{LlOp}
use Rattle.ll_code.specs.declared.program.LlExit.{LlExit}
use Rattle.ll_code.specs.declared.program.LlExit.TheVariants as made
use Rattle.ll_code.specs.declared.program.LlLink.{LlLink}
use Rattle.ll_code.specs.declared.program.LlBlock.{LlBlock}
use Rattle.ll_code.specs.declared.program.LlProgram.{LlProgram}
use Rattle.ll_build.specs.declared.needs.Numbers.{Numbers}
use Rattle.ll_leads.proofs.Ways.{one}
use Rattle.ll_live.specs.Live.{among}
use Rattle.rpy_tree.specs.Value.{Value as Meant, Heap, Ref}
use Rattle.rpy_meaning.specs.World.{World}
use Rattle.flow_graph.specs.declared.graph.Block.{Block}
use Rattle.flow_graph.specs.declared.graph.Graphs.{Graphs}
use Rattle.flow_graph.specs.declared.graph.Link.{Link}
use Rattle.flow_meaning.specs.Machine.{Bound, bind, look, passed as passed_on, block_in}
use Rattle.rtyper_layout.specs.Types.{type_seen}
use Rattle.rtyper_data.specs.Converting.{default_operand, value_as}
use Rattle.rtyper_data.specs.Finding.{same_type}
use Rattle.rtyper_data.specs.Seen.{Writing}
use Rattle.rtyper_program.specs.declared.links.Caught.{Caught}
use Rattle.rtyper_program.specs.Links.{arguments as arguments_of, inputs_at, inputs_in, link_of, passed, passed_as, typed, with_argument, with_passed}
use Rattle.rtyper_program.specs.Seen.{Lowered, type_at}
use Rattle.lower_laws.specs.Values.{IsBelow}
use Rattle.object_laws.specs.Done.{HasLayout}
use Rattle.object_laws.specs.Ghost.{Ghost, Grown}
use Rattle.object_laws.specs.Known.{Known}
use Rattle.object_laws.specs.Represents.{Represents}
use Rattle.object_laws.specs.Values.{Holds}
use Rattle.object_laws.proofs.Growing.{grown_none, holds_grows}
use Rattle.run_laws.specs.Points.{Setting, is_conflict, names_of, Stand, Way}
use Rattle.run_laws.specs.Does.{Begins, Jumps}
use Rattle.run_laws.proofs.Steps.{grown_both, way_then, stays}
use Rattle.block_laws.specs.Operations.{HasTypes}
use Rattle.block_laws.specs.Links.{setting, AllAmong, AllUnder, HasBlock, HasBlocks, Converts}
use Rattle.block_laws.proofs.Variables.{stand_kept, typed_free, look_new, look_old, among_old, names_more}
use Rattle.block_laws.proofs.Passing as block
use Rattle.block_laws.proofs.Passing.{no_void, is_void, equal, unequal, tail}
use Rattle.catch_laws.specs.Handlers.{OneCatches, OneIsCaught, AllAreCaught, IsLanding}

module _ (l : Lowered) (known : Known) (graphs : Graphs) (p : LlProgram) (arguments : List (List ℕ)) (numbers : Numbers) (below : ℕ) (has : HasLayout p l.world.around.layout) (types : HasTypes (setting l known graphs p arguments) l.number below)
    (caught : Caught) (class : ℕ) (kind : type_seen l.world.around.layout (Some (element.Instance class false)) ≡ caught.kind) where
  abbrev pub s : Setting
  s = setting l known graphs p arguments

  abbrev pub v : ℕ
  v = caught.variable

  abbrev pub exc : ℕ
  exc = caught.exception

  abbrev pub with_exception : List Bound → ℕ → List Bound
  with_exception env r = env ++ bind v (Some (Ref r)) ∷ []

  -- the variables of the block, and the exception in a variable of its own
  pub record Stands (g : Ghost) (env : List Bound) (r : ℕ) (vars : List Value) : Type 0 where
    pub stand : Stand s g l.number env vars
    pub new : among v (names_of env) ≡ false
    pub holds : Holds l.world.around.layout known g (Some (element.Instance class false)) (read vars exc) (Ref r)

  abbrev pub Moved : ℕ → List LlOp → LlExit → List Frame → Core → Ghost → Heap → ℕ → (Ghost → List Value → Type 0) → State → Type 0
  Moved = block.Moved l known graphs p arguments numbers below has types

  abbrev pub Fits : Ghost → Option Element → Option Meant → Value → Type 0
  Fits = block.Fits l known graphs p arguments numbers below has types

  abbrev pub Fit : Ghost → List Bound → List Value → List ℕ → List ℕ → List COperand → Type 0
  Fit = block.Fit l known graphs p arguments numbers below has types

  abbrev pub source : List Bound → List ℕ → Option Meant
  source = block.source l known graphs p arguments numbers below has types

  abbrev pub AllBelow : ℕ → List COperand → Type 0
  AllBelow = block.AllBelow l known graphs p arguments numbers below has types

  stands_kept : {g new : Ghost} {env : List Bound} {r : ℕ} {vars vars2 : List Value} (n : ℕ) → Grown g new → below ≤ n → exc < n → ((k : ℕ) → k < n → read vars2 k ≡ read vars k) → Stands g env r vars → Stands new env r vars2
  stands_kept {new = new} {r = r} n grown enough inside others it = record {
    stand = stand_kept s l.number below types grown it.stand (λ k h. others k (omega (arith, h, enough)));
    new = it.new;
    holds = subst (λ (x : Value). Holds l.world.around.layout known new (Some (element.Instance class false)) x (Ref r)) (sym (others exc inside)) (holds_grows grown it.holds);
  }

  -- ---- one argument

  record One (u : ℕ) (rest : List ℕ) (w : Writing) (result : COperand × Writing) : Type 0 where
    ops : List LlOp
    new : List LlType
    written : result.1.body.ops ≡ w.body.ops ++ ops
    added : result.1.body.types ≡ w.body.types ++ new
    under : IsBelow (length w.body.types + length new) result.0
    follows : (next : List LlOp) (e : LlExit) (frames : List Frame) (core : Core) (g : Ghost) (env : List Bound) (r : ℕ) (heap : Heap) (left : ℕ) → Represents l.world.around.layout known g heap left core.blocks core.statics → left ≡ core.steps
        → length w.body.types + length new ≤ length core.vars → Stands g env r core.vars → AllAmong rest (names_of (with_exception env r))
        → Moved (length w.body.types) next e frames core g heap left (λ ghost vars. Fits ghost (s.element l.number u) (source (with_exception env r) rest) (operand vars result.0)) (At (ops ++ next) e frames core)

  default_goes : (u : ℕ) (w : Writing) → One u [] w (default_operand (type_at l u), w)
  default_goes u w =
      let it = block.one_default l known graphs p arguments numbers below has types u w in
      record { ops = it.ops; new = it.new; written = it.written; added = it.added; under = it.under; follows = λ next e frames core g env r heap left stands same fits stand own. it.follows next e frames core g env heap left stands same fits stand.stand tt }

  -- the exception
  exception_goes : (u a : ℕ) (others : List ℕ) (w : Writing) → exc < length w.body.types → v ≡ a → Converts s numbers (Some (element.Instance class false)) (s.element l.number u) (Var exc) w
      → One u (a ∷ others) w (value_as l.world.around.layout (Var exc) (type_seen l.world.around.layout (Some (element.Instance class false))) (type_at l u) w)
  exception_goes u a others w inside is c =
      let it = c.is in
      record {
        ops = it.ops;
        new = it.new;
        written = it.written;
        added = it.types;
        under = it.under inside;
        follows = λ next e frames core g env r heap left stands same fits stand own.
            let seen : look (with_exception env r) a ≡ Some (Ref r) = ap (look (with_exception env r)) (sym is) ∙ look_new env v (Some (Ref r)) stand.new in
            subst (λ (o : Option Meant). Moved (length w.body.types) next e frames core g heap left (λ ghost vars. Fits ghost (s.element l.number u) o (operand vars (value_as l.world.around.layout (Var exc) (type_seen l.world.around.layout (Some (element.Instance class false))) (type_at l u) w).0)) (At (it.ops ++ next) e frames core)) (sym seen)
            (block.fine_fits l known graphs p arguments numbers below has types _ (block.moved l known graphs p arguments numbers below has types (λ ghost y. Holds l.world.around.layout known ghost (s.element l.number u) y (Ref r)) same
            (it.follows p numbers known.exception arguments next e frames core g heap left (Ref r) has (c.stood core g heap left stands same) stands same fits inside stand.holds)));
      }

  -- another variable
  variable_goes : (u a : ℕ) (others : List ℕ) (w : Writing) → a < length w.body.types → is_conflict (s.element l.number a) ≡ false → (a ≡ v → ⊥) → Converts s numbers (s.element l.number a) (s.element l.number u) (Var a) w → One u (a ∷ others) w (value_as l.world.around.layout (Var a) (type_at l a) (type_at l u) w)
  variable_goes u a others w inside free other c =
      let it = block.one_converted l known graphs p arguments numbers below has types u a [] w inside free c in
      record {
        ops = it.ops;
        new = it.new;
        written = it.written;
        added = it.added;
        under = it.under;
        follows = λ next e frames core g env r heap left stands same fits stand own.
            subst (λ (o : Option Meant). Moved (length w.body.types) next e frames core g heap left (λ ghost vars. Fits ghost (s.element l.number u) o (operand vars (value_as l.world.around.layout (Var a) (type_at l a) (type_at l u) w).0)) (At (it.ops ++ next) e frames core)) (sym (look_old env v a (Some (Ref r)) other))
            (it.follows next e frames core g env heap left stands same fits stand.stand (among_old env (bind v (Some (Ref r))) a other own.0, tt));
      }

  -- ---- all of them

  pub record Pass (inputs rest : List ℕ) (xs : List COperand) (w : Writing) (result : List COperand × Writing) : Type 0 where
    pub ys : List COperand
    pub ops : List LlOp
    pub new : List LlType
    pub given : result.0 ≡ xs ++ ys
    pub written : result.1.body.ops ≡ w.body.ops ++ ops
    pub added : result.1.body.types ≡ w.body.types ++ new
    pub under : AllBelow (length w.body.types + length new) ys
    pub follows : (next : List LlOp) (e : LlExit) (frames : List Frame) (core : Core) (g : Ghost) (env : List Bound) (r : ℕ) (heap : Heap) (left : ℕ) → Represents l.world.around.layout known g heap left core.blocks core.statics → left ≡ core.steps
        → length w.body.types + length new ≤ length core.vars → Stands g env r core.vars → AllAmong rest (names_of (with_exception env r))
        → Moved (length w.body.types) next e frames core g heap left (λ ghost vars. Fit ghost (with_exception env r) vars inputs rest ys) (At (ops ++ next) e frames core)

  none_goes : (rest : List ℕ) (xs : List COperand) (w : Writing) → Pass [] rest xs w (xs, w)
  none_goes rest xs w = record {
    ys = [];
    ops = [];
    new = [];
    given = sym (append-nil xs);
    written = sym (append-nil w.body.ops);
    added = sym (append-nil w.body.types);
    under = tt;
    follows = λ next e frames core g env r heap left stands same fits stand own. record {
      end = core;
      way = stays s;
      ghost = g;
      grown = grown_none;
      stands = stands;
      same = same;
      fine = block.None_left rest;
      others = λ k h. refl;
      room = refl;
      function = refl;
    };
  }

  -- the first of them has no type, and is not the exception, where the input is in no conflict
  abbrev HasNone : ℕ → List ℕ → Type 0
  HasNone u [] = Unit {0}
  HasNone u (a ∷ others) = is_conflict (s.element l.number u) ≡ false → (is_conflict (s.element l.number a) ≡ false) × (type_at l a ≡ type.Void) × (a ≡ v → ⊥)

  nothing_there : {g : Ghost} {env : List Bound} {r : ℕ} {vars : List Value} (u : ℕ) (rest : List ℕ) → HasNone u rest → Stands g env r vars → (x : Meant) → source (with_exception env r) rest ≡ Some x → is_conflict (s.element l.number u) ≡ false → ⊥
  nothing_there u [] none stand x h free = absurd (cc)
  nothing_there {g = g} {env = env} {r = r} {vars = vars} u (a ∷ others) none stand x h free = let it = none free in types.typed g a (read vars a) x (stand.stand.bound a x (sym (look_old env v a (Some (Ref r)) it.2) ∙ h) it.0) it.1

  skips : (u : ℕ) (inputs rest : List ℕ) (xs : List COperand) (w : Writing) (result : List COperand × Writing) → type_at l u ≡ type.Void → HasNone u rest → Pass inputs (tail rest) xs w result → Pass (u ∷ inputs) rest xs w result
  skips u inputs rest xs w result void none it = record {
    ys = it.ys;
    ops = it.ops;
    new = it.new;
    given = it.given;
    written = it.written;
    added = it.added;
    under = it.under;
    follows = λ next e frames core g env r heap left stands same fits stand own.
        let m = it.follows next e frames core g env r heap left stands same fits stand (block.own_rest l known graphs p arguments numbers below has types rest (names_of (with_exception env r)) own) in
        record { end = m.end; way = m.way; ghost = m.ghost; grown = m.grown; stands = m.stands; same = m.same; fine = block.Skip u inputs rest it.ys void (nothing_there u rest none stand) m.fine; others = m.others; room = m.room; function = m.function };
  }

  module _ (u : ℕ) (inputs rest : List ℕ) (xs : List COperand) (w : Writing) (one_made : COperand × Writing) (result : List COperand × Writing) (there : type_at l u ≡ type.Void → ⊥) (enough : below ≤ length w.body.types) (inside : exc < length w.body.types)
      (first : One u rest w one_made) (it : Pass inputs (tail rest) (xs ++ one_made.0 ∷ []) one_made.1 result) where
    longer : length one_made.1.body.types ≡ length w.body.types + length first.new
    longer = ap (λ (ts : List LlType). length ts) first.added ∙ length-append w.body.types first.new

    all_new : length (first.new ++ it.new) ≡ length first.new + length it.new
    all_new = length-append first.new it.new

    then_follows : (next : List LlOp) (e : LlExit) (frames : List Frame) (core : Core) (g : Ghost) (env : List Bound) (r : ℕ) (heap : Heap) (left : ℕ) → Represents l.world.around.layout known g heap left core.blocks core.statics → left ≡ core.steps
        → length w.body.types + length (first.new ++ it.new) ≤ length core.vars → Stands g env r core.vars → AllAmong rest (names_of (with_exception env r))
        → Moved (length w.body.types) next e frames core g heap left (λ ghost vars. Fit ghost (with_exception env r) vars (u ∷ inputs) rest (one_made.0 ∷ it.ys)) (At ((first.ops ++ it.ops) ++ next) e frames core)
    then_follows next e frames core g env r heap left stands same fits stand own =
        let a = first.follows (it.ops ++ next) e frames core g env r heap left stands same (omega (arith, fits, all_new)) stand own in
        let room = a.room in
        let b = it.follows next e frames a.end a.ghost env r heap left a.stands a.same (omega (arith, fits, all_new, longer, room)) (stands_kept (length w.body.types) a.grown enough inside a.others stand)
        (block.own_rest l known graphs p arguments numbers below has types rest (names_of (with_exception env r)) own) in
        let up : (k : ℕ) → k < length w.body.types + length first.new → read b.end.vars k ≡ read a.end.vars k = λ k h. b.others k (omega (arith, h, longer)) in
        record {
          end = b.end;
          way = subst (λ (ops : List LlOp). Way s (At ops e frames core) [] (At next e frames b.end)) (sym (append_assoc first.ops it.ops next)) (way_then s a.way b.way);
          ghost = b.ghost;
          grown = grown_both a.grown b.grown;
          stands = b.stands;
          same = b.same;
          fine = block.Take u inputs rest one_made.0 it.ys there
              (subst (λ (value : Value). Fits b.ghost (s.element l.number u) (source (with_exception env r) rest) value) (sym (block.kept_operand l known graphs p arguments numbers below has types (length w.body.types + length first.new) a.end.vars b.end.vars up one_made.0 first.under))
              (block.fits_grow l known graphs p arguments numbers below has types (s.element l.number u) (source (with_exception env r) rest) (operand a.end.vars one_made.0) b.grown a.fine))
              b.fine;
          others = λ k h. b.others k (omega (arith, h, longer)) ∙ a.others k h;
          room = b.room ∙ a.room;
          function = b.function ∙ a.function;
        }

    takes : Pass (u ∷ inputs) rest xs w result
    takes = record {
      ys = one_made.0 ∷ it.ys;
      ops = first.ops ++ it.ops;
      new = first.new ++ it.new;
      given = it.given ∙ append_assoc xs (one_made.0 ∷ []) it.ys;
      written = it.written ∙ ap (λ (ops : List LlOp). ops ++ it.ops) first.written ∙ append_assoc w.body.ops first.ops it.ops;
      added = it.added ∙ ap (λ (ts : List LlType). ts ++ it.new) first.added ∙ append_assoc w.body.types first.new it.new;
      under = (block.below_more l known graphs p arguments numbers below has types _ _ (omega (arith, all_new)) one_made.0 first.under, block.under_more l known graphs p arguments numbers below has types _ _ it.ys (omega (arith, all_new, longer)) it.under);
      follows = then_follows;
    }

  -- by what stands at the place
  one_goes : (u : ℕ) (rest : List ℕ) (w : Writing) → (type_at l u ≡ type.Void → ⊥) → exc < length w.body.types → AllUnder (length w.body.types) rest → OneIsCaught s numbers l caught class (slice_get rest 0) u w → One u rest w (passed l (Some caught) (slice_get rest 0) (type_at l u) w)
  one_goes u [] w there room inside goes = default_goes u w
  one_goes u (a ∷ others) w there room inside goes = by (v == a) refl goes
    where
      free : is_conflict (s.element l.number u) ≡ false
      free = typed_free l.world.around.layout (s.element l.number u) there

      by : (b : Bool) → (v == a) ≡ b → OneCatches s numbers l caught class b a u w → One u (a ∷ others) w (passed_as l (if b then (Var exc, caught.kind) else (Var a, type_at l a)) (type_at l u) w)
      by true h c = subst (λ (t : LlType). One u (a ∷ others) w (value_as l.world.around.layout (Var exc) t (type_at l u) w)) kind (exception_goes u a others w room (sym (equal v a h)) (c free).1)
      by false h c = let it = c free in variable_goes u a others w inside.0 it.0 (unequal v a h) (it.2 there)

  none_of : (u : ℕ) (w : Writing) (rest : List ℕ) → type_at l u ≡ type.Void → OneIsCaught s numbers l caught class (slice_get rest 0) u w → HasNone u rest
  none_of u w [] void goes = tt
  none_of u w (a ∷ others) void goes = by (v == a) refl goes
    where
      by : (b : Bool) → (v == a) ≡ b → OneCatches s numbers l caught class b a u w → HasNone u (a ∷ others)
      by true h c = λ free. absurd ((c free).0 void)
      by false h c = λ free. let it = c free in (it.0, it.1 void, unequal v a h)

  longer_one : (u : ℕ) (rest : List ℕ) (w : Writing) (result : COperand × Writing) → One u rest w result → length w.body.types ≤ length result.1.body.types
  longer_one u rest w result it = let e : length result.1.body.types ≡ length w.body.types + length it.new = ap (λ (ts : List LlType). length ts) it.added ∙ length-append w.body.types it.new in omega (arith, e)

  pub passing : (args inputs rest : List ℕ) (n : ℕ) (xs : List COperand) (w : Writing) → ((k : ℕ) → slice_get args (n + k) ≡ slice_get rest k) → below ≤ length w.body.types → exc < length w.body.types → AllUnder (length w.body.types) rest → AllAreCaught s numbers l caught class args n inputs (xs, w)
      → Pass inputs rest xs w (arguments_of l (Some caught) args n inputs (xs, w))
  passing args [] rest n xs w at enough room inside goes = none_goes rest xs w
  passing args (u ∷ inputs) rest n xs w at enough room inside goes = by (λ others m ys w2. passing args inputs others m ys w2) (same_type (type_at l u) type.Void) refl
    where
      here : slice_get args n ≡ slice_get rest 0
      here = ap (slice_get args) (let z : n ≡ n + 0 = omega arith in z) ∙ at 0

      is : (b : Bool) → same_type (type_at l u) type.Void ≡ b → with_argument l (Some caught) (slice_get args n) (type_at l u) (xs, w) ≡ (if b then (xs, w) else with_passed xs (passed l (Some caught) (slice_get rest 0) (type_at l u) w))
      is b h = ap (λ c. if c then (xs, w) else with_passed xs (passed l (Some caught) (slice_get args n) (type_at l u) w)) h
          ∙ ap (λ o. if b then (xs, w) else with_passed xs (passed l (Some caught) o (type_at l u) w)) here

      next_at : (k : ℕ) → slice_get args (n + 1 + k) ≡ slice_get (tail rest) k
      next_at = block.rest_at l known graphs p arguments numbers below has types args rest n at

      by : ((others : List ℕ) (m : ℕ) (ys : List COperand) (w2 : Writing) → ((k : ℕ) → slice_get args (m + k) ≡ slice_get others k) → below ≤ length w2.body.types → exc < length w2.body.types → AllUnder (length w2.body.types) others → AllAreCaught s numbers l caught class args m inputs (ys, w2) → Pass inputs others ys w2 (arguments_of l (Some caught) args m inputs (ys, w2)))
          → (b : Bool) → same_type (type_at l u) type.Void ≡ b → Pass (u ∷ inputs) rest xs w (arguments_of l (Some caught) args (n + 1) inputs (with_argument l (Some caught) (slice_get args n) (type_at l u) (xs, w)))
      by go true h = subst (λ (made : List COperand × Writing). Pass (u ∷ inputs) rest xs w (arguments_of l (Some caught) args (n + 1) inputs made)) (sym (is true h))
          (skips u inputs rest xs w (arguments_of l (Some caught) args (n + 1) inputs (xs, w)) (is_void (type_at l u) h) (none_of u w rest (is_void (type_at l u) h) (subst (λ (o : Option ℕ). OneIsCaught s numbers l caught class o u w) here goes.0))
          (go (tail rest) (n + 1) xs w next_at enough room (block.inside_rest l known graphs p arguments numbers below has types (length w.body.types) rest inside) (subst (λ (made : List COperand × Writing). AllAreCaught s numbers l caught class args (n + 1) inputs made) (is true h) goes.1)))
      by go false h =
          let there = no_void (type_at l u) h in
          let first : One u rest w (passed l (Some caught) (slice_get rest 0) (type_at l u) w) = one_goes u rest w there room inside (subst (λ (o : Option ℕ). OneIsCaught s numbers l caught class o u w) here goes.0) in
          let more : length w.body.types ≤ length (passed l (Some caught) (slice_get rest 0) (type_at l u) w).1.body.types = longer_one u rest w (passed l (Some caught) (slice_get rest 0) (type_at l u) w) first in
          subst (λ (made : List COperand × Writing). Pass (u ∷ inputs) rest xs w (arguments_of l (Some caught) args (n + 1) inputs made)) (sym (is false h))
          (takes u inputs rest xs w (passed l (Some caught) (slice_get rest 0) (type_at l u) w) (arguments_of l (Some caught) args (n + 1) inputs (with_passed xs (passed l (Some caught) (slice_get rest 0) (type_at l u) w))) there enough room first
          (go (tail rest) (n + 1) (xs ++ (passed l (Some caught) (slice_get rest 0) (type_at l u) w).0 ∷ []) (passed l (Some caught) (slice_get rest 0) (type_at l u) w).1 next_at (omega (arith, enough, more)) (omega (arith, room, more))
          (block.inside_more l known graphs p arguments numbers below has types _ _ (tail rest) more (block.inside_rest l known graphs p arguments numbers below has types (length w.body.types) rest inside))
          (subst (λ (made : List COperand × Writing). AllAreCaught s numbers l caught class args (n + 1) inputs made) (is false h) goes.1)))

  -- ---- the link

  module _ (names : List ℕ) (link : Link) (w : Writing) (enough : below ≤ length w.body.types) (room_for : exc < length w.body.types) (graph : slice_get graphs.graphs l.number ≡ Some l.graph) (blocks : HasBlocks s l) (it : IsLanding s numbers l caught class names link w) where
    abbrev pub passes : Pass it.block.inputs link.args [] w (arguments_of l (Some caught) link.args 0 it.block.inputs ([], w))
    passes = passing link.args it.block.inputs link.args 0 [] w (λ k. ap (slice_get link.args) (let z : 0 + k ≡ k = omega arith in z)) enough room_for it.inside it.converts

    inputs_are : inputs_at l link.to ≡ it.block.inputs
    inputs_are = ap (λ b. if b then inputs_in (slice_get l.graph.blocks link.to) else []) it.reached ∙ ap inputs_in it.is

    pub link_is : link_of l (Some caught) link w ≡ (record { to = link.to; args = passes.ys }, (arguments_of l (Some caught) link.args 0 it.block.inputs ([], w)).1)
    unfolding link_of
    link_is = ap (λ inputs. (record { to = link.to; args = (arguments_of l (Some caught) link.args 0 inputs ([], w)).0 }, (arguments_of l (Some caught) link.args 0 inputs ([], w)).1)) inputs_are
        ∙ ap (λ xs. (record { to = link.to; args = xs }, (arguments_of l (Some caught) link.args 0 it.block.inputs ([], w)).1)) passes.given

    abbrev has_block : HasBlock s l link.to it.block
    has_block = blocks link.to it.block it.is it.reached it.later

    module _ (frames : List Frame) (env : List Bound) (world : World) (mid : Core) (ghost : Ghost) (fine : Fit ghost env mid.vars it.block.inputs link.args passes.ys) (stands : Represents l.world.around.layout known ghost world.heap world.left mid.blocks mid.statics)
        (same : world.left ≡ mid.steps) (room : length mid.vars ≡ s.size l.number) (enters : length w.body.types + length passes.new ≤ s.size l.number) (runs : s.known.graph l.number ≡ Some mid.function) where
      abbrev values : List Value
      values = operands mid.vars passes.ys

      abbrev there : LlBlock
      there = has_block.low

      abbrev arrived : Core
      arrived = record mid { block = link.to; at = 0; vars = set_all mid.vars (typed l it.block.inputs) values }

      link_jumps : jump p frames mid (record { to = link.to; args = passes.ys }) ≡ Goes (At there.ops there.exit frames arrived)
      link_jumps =
          let number : mid.function ≡ has_block.at.number = (let a = runs in let b = has_block.at.is in cc) in
          ap (λ b. cond b (Sticks IsUnset) (begins frames mid link.to values (block_there (slice_get p.graphs mid.function) link.to))) (block.all_set l known graphs p arguments numbers below has types stands (block.fit_all l known graphs p arguments numbers below has types fine))
          ∙ ap (begins frames mid link.to values) (ap (λ n. block_there (slice_get p.graphs n) link.to) number ∙ ap (λ o. block_there o link.to) has_block.at.stands ∙ has_block.at.block)
          ∙ ap (λ inputs. Goes (At there.ops there.exit frames (record mid { block = link.to; at = 0; vars = set_all mid.vars inputs values }))) has_block.inputs

      goes_on : {g : Ghost} {from : State} → Grown g ghost → Way s from [] (At there.ops there.exit frames arrived) → Jumps s l.number link env world g frames from
      goes_on {g = g} {from = from} grown way b e =
          let is : Some it.block ≡ Some b = sym it.is ∙ sym (ap (λ o. block_in o link.to) graph) ∙ e in
          let q : it.block ≡ b = cc in
          subst (λ (c : Block). Begins s l.number link.to c (passed_on env c.inputs link.args) world g frames from) q (record {
            low = there;
            block = has_block.at;
            end = arrived;
            way = way;
            ghost = ghost;
            grown = grown;
            at = record {
              named = block.passed_named l known graphs p arguments numbers below has types env it.block.inputs link.args;
              stands = stands;
              left = same;
              variables = block.stand_passed l known graphs p arguments numbers below has types ghost env it.block.inputs link.args arrived.vars
                  (block.arrive l known graphs p arguments numbers below has types mid.vars (block.fit_all l known graphs p arguments numbers below has types fine) it.apart (omega (arith, room, enters, enough)));
              runs = runs;
              room = block.set_length l known graphs p arguments numbers below has types mid.vars (typed l it.block.inputs) values ∙ room;
            };
          })

    -- what is written for the link goes on at its block
    pub landing_does : length w.body.types + length passes.new ≤ s.size l.number → (frames : List Frame) (core : Core) (g : Ghost) (env : List Bound) (world : World) (r : ℕ) → Represents l.world.around.layout known g world.heap world.left core.blocks core.statics → world.left ≡ core.steps
        → Stands g env r core.vars → names_of env ≡ names → s.known.graph l.number ≡ Some core.function → length core.vars ≡ s.size l.number
        → Jumps s l.number link (with_exception env r) world g frames (At passes.ops (made.Goto (link_of l (Some caught) link w).0) frames core)
    landing_does enters frames core g env world r stands same stand named runs room =
        let own : AllAmong link.args (names_of (with_exception env r)) = subst (λ (ns : List ℕ). AllAmong link.args ns) (sym (names_more env (bind v (Some (Ref r))) ∙ ap (λ ns. ns ++ v ∷ []) named)) it.own in
        let e : LlExit = made.Goto (link_of l (Some caught) link w).0 in
        let m = passes.follows [] e frames core g env r world.heap world.left stands same (omega (arith, room, enters)) stand own in
        let runs_there = runs ∙ ap Some (sym m.function) in
        let room_there = m.room ∙ room in
        let next = arrived frames (with_exception env r) world m.end m.ghost m.fine m.stands m.same room_there enters runs_there in
        let jumps : jump p frames m.end (link_of l (Some caught) link w).0 ≡ Goes (At has_block.low.ops has_block.low.exit frames next) = ap (λ (k : LlLink × Writing). jump p frames m.end k.0) link_is ∙ link_jumps frames (with_exception env r) world m.end m.ghost m.fine m.stands m.same room_there enters runs_there in
        let way : Way s (At passes.ops e frames core) [] (At has_block.low.ops has_block.low.exit frames next) =
        subst (λ (ops : List LlOp). Way s (At ops e frames core) [] (At has_block.low.ops has_block.low.exit frames next)) (append-nil passes.ops) (way_then s m.way (record { most = 0; leads = one jumps refl })) in
        goes_on frames (with_exception env r) world m.end m.ghost m.fine m.stands m.same room_there enters runs_there m.grown way

    pub landing_written : (link_of l (Some caught) link w).1.body.ops ≡ w.body.ops ++ passes.ops
    landing_written = ap (λ (k : LlLink × Writing). k.1.body.ops) link_is ∙ passes.written

    pub landing_adds : (link_of l (Some caught) link w).1.body.types ≡ w.body.types ++ passes.new
    landing_adds = ap (λ (k : LlLink × Writing). k.1.body.types) link_is ∙ passes.added
