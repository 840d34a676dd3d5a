-- What links pass on.
use Rattle.std.proofs.Common.{◌≡◌, ◌<◌, ◌≤◌, ℕ, suc, ◌+◌, ◌==◌, ◌||◌, Bool, true, false, List, [], ◌∷◌, ◌++◌, length, Option, Some, None, pos, refl, sym, ap, ◌∙◌, subst, arith, append_assoc}
use Rattle.std.specs.Prelude.{slice_get, slice_set, cond, if◌then◌else◌}
use Rattle.std.proofs.lemmas.Bool.Decides.{nat_tests}
use Rattle.std.proofs.lemmas.List.{append-nil, get_or-set_same, get_or-set_other, length-append, length-set}
use Rattle.ann_element.specs.declared.element.Element.{Element}
use Rattle.rpy_base.specs.Word.{Fits as FitsIn}
use Rattle.csub_tree.specs.State.{Value, Unset, Block as Memory, Core}
use Rattle.csub_tree.specs.Operation.{is_unset}
use Rattle.csub_tree.specs.Statement.{read, operand, operands, any_unset}
use Rattle.csub_tree.specs.declared.stuck.StuckReason.TheVariants.{Unset as IsUnset}
use Rattle.csub_tree.specs.declared.tree.COperand.{COperand}
use Rattle.csub_tree.specs.declared.tree.COperand.TheVariants.{Var, Const}
use Rattle.ll_code.specs.State.{Frame, State, At, Goes, Sticks}
use Rattle.ll_code.specs.Machine.{jump, begins, block_in as block_there, set_all}
use Rattle.ll_code.specs.declared.program.LlType.{LlType}
use Rattle.ll_code.specs.declared.program.LlType.TheVariants as type
use Rattle.ll_code.specs.declared.program.LlOp.{LlOp}
use Rattle.ll_code.specs.declared.program.LlExit.{LlExit}
use Rattle.ll_code.specs.declared.program.LlExit.TheVariants as made
use Rattle.ll_code.specs.declared.program.LlLink.{LlLink}
use Rattle.ll_code.specs.declared.program.LlBlock.{LlBlock}
use Rattle.ll_code.specs.declared.program.LlProgram.{LlProgram}
use Rattle.ll_build.specs.declared.needs.Numbers.{Numbers}
use Rattle.ll_leads.proofs.Ways.{one}
use Rattle.ll_live.specs.Live.{among}
use Rattle.rpy_tree.specs.Value.{Value as Meant, Heap}
use Rattle.rpy_meaning.specs.World.{World}
use Rattle.flow_graph.specs.declared.graph.Block.{Block}
use Rattle.flow_graph.specs.declared.graph.Graphs.{Graphs}
use Rattle.flow_graph.specs.declared.graph.Exit.TheVariants as exit
use Rattle.flow_graph.specs.declared.graph.Link.{Link}
use Rattle.flow_meaning.specs.Machine.{Bound, bind, look, passed as passed_on, block_in}
use Rattle.rtyper_layout.specs.Types.{type_seen}
use Rattle.rtyper_data.specs.Converting.{default_operand, value_as}
use Rattle.rtyper_data.specs.Finding.{same_type}
use Rattle.rtyper_data.specs.Seen.{Writing}
use Rattle.rtyper_program.specs.Links.{arguments as arguments_of, goto, inputs_at, inputs_in, link_of, passed, typed, with_argument, with_passed}
use Rattle.rtyper_program.specs.Seen.{Lowered, type_at}
use Rattle.lower_laws.specs.Values.{IsBelow}
use Rattle.object_laws.specs.Done.{HasLayout}
use Rattle.object_laws.specs.Ghost.{Ghost, Grown}
use Rattle.object_laws.specs.Known.{Known}
use Rattle.object_laws.specs.Represents.{Represents}
use Rattle.object_laws.specs.Values.{Holds}
use Rattle.object_laws.proofs.Growing.{grown_none, holds_grows}
use Rattle.object_laws.proofs.Valued.{held_set}
use Rattle.object_laws.proofs.Blocks.{found_set}
use Rattle.conversion_laws.specs.Converted.{Blank, never, word, flag, byte, null, function, text, Came}
use Rattle.run_laws.specs.Points.{Setting, is_conflict, names_of, Stand, IsAt, Way}
use Rattle.run_laws.specs.Does.{Does, Begins, Jumps}
use Rattle.run_laws.proofs.Steps.{grown_both, way_then, stays}
use Rattle.block_laws.specs.Operations.{HasTypes}
use Rattle.block_laws.specs.Links.{setting, AreDistinct, AllAmong, AllUnder, HasBlock, HasBlocks, Converts, OneConverts, AllConvert, IsLink, Ends, LinksArePassed}
use Rattle.block_laws.proofs.Variables.{stand_kept, blank_grows, typed_free}

-- ---- types

pub no_void : (t : LlType) → same_type t type.Void ≡ false → t ≡ type.Void → ⊥
no_void t h e = let q : same_type type.Void type.Void ≡ false = sym (ap (λ u. same_type u type.Void) e) ∙ h in absurd (cc)

pub equal : (u v : ℕ) → (u == v) ≡ true → v ≡ u
equal u v h = grind (arith, nat_tests, h)

pub unequal : (u v : ℕ) → (u == v) ≡ false → v ≡ u → ⊥
unequal u v h k = absurd (grind (arith, nat_tests, h, k))

pub is_void : (t : LlType) → same_type t type.Void ≡ true → t ≡ type.Void
is_void type.Signed h = absurd (cc)
is_void type.Void h = refl
is_void type.Char h = absurd (cc)
is_void type.Bool h = absurd (cc)
is_void type.Fn h = absurd (cc)
is_void (type.Ptr n) h = absurd (cc)

zero_fits : FitsIn (pos 0)
zero_fits = omega arith

-- the default of a type stands for nothing
pub default_blank : (g : Ghost) (t : LlType) (vars : List Value) → Blank g t (operand vars (default_operand t))
default_blank g type.Signed vars = word _ zero_fits
default_blank g type.Void vars = never _
default_blank g type.Char vars = byte 0 (omega arith)
default_blank g type.Bool vars = flag false
default_blank g type.Fn vars = function
default_blank g (type.Ptr n) vars = null n

abbrev pub tail : List ℕ → List ℕ
tail [] = []
tail (a ∷ others) = others

module _ (l : Lowered) (known : Known) (graphs : Graphs) (p : LlProgram) (arguments : List (List ℕ)) (numbers : Numbers) (below : ℕ) (has : HasLayout p l.world.around.layout) (types : HasTypes (setting l known graphs p arguments) l.number below) where
  abbrev pub s : Setting
  s = setting l known graphs p arguments

  -- ---- what arrives

  -- a value, where there is no conflict, or what stands for nothing
  abbrev pub Fits : Ghost → Option Element → Option Meant → Value → Type 0
  Fits g seen (Some x) value = is_conflict seen ≡ false → Holds l.world.around.layout known g seen value x
  Fits g seen None value = Blank g (type_seen l.world.around.layout seen) value

  pub fits_grow : {g new : Ghost} (seen : Option Element) (o : Option Meant) (value : Value) → Grown g new → Fits g seen o value → Fits new seen o value
  fits_grow seen (Some x) value grown it = λ free. holds_grows grown (it free)
  fits_grow seen None value grown it = blank_grows grown it

  abbrev pub source : List Bound → List ℕ → Option Meant
  source env [] = None
  source env (a ∷ others) = look env a

  -- for each input that has a type an operand, which has what its place of the link has
  pub data Fit (g : Ghost) (env : List Bound) (vars : List Value) : List ℕ → List ℕ → List COperand → Type 0 where
    None_left : (rest : List ℕ) → Fit g env vars [] rest []
    Skip : (v : ℕ) (inputs rest : List ℕ) (ys : List COperand) → type_at l v ≡ type.Void → ((x : Meant) → source env rest ≡ Some x → is_conflict (s.element l.number v) ≡ false → ⊥) → Fit g env vars inputs (tail rest) ys → Fit g env vars (v ∷ inputs) rest ys
    Take : (v : ℕ) (inputs rest : List ℕ) (y : COperand) (ys : List COperand) → (type_at l v ≡ type.Void → ⊥) → Fits g (s.element l.number v) (source env rest) (operand vars y) → Fit g env vars inputs (tail rest) ys
        → Fit g env vars (v ∷ inputs) rest (y ∷ ys)

  -- ---- conversions

  abbrev pub AllBelow : ℕ → List COperand → Type 0
  AllBelow n [] = Unit {0}
  AllBelow n (y ∷ ys) = IsBelow n y × AllBelow n ys

  -- behind the operations of the conversions what comes next is next
  pub record Moved (n : ℕ) (next : List LlOp) (e : LlExit) (frames : List Frame) (core : Core) (g : Ghost) (heap : Heap) (left : ℕ) (Fine : Ghost → List Value → Type 0) (from : State) : Type 0 where
    pub end : Core
    pub way : Way s from [] (At next e frames end)
    pub ghost : Ghost
    pub grown : Grown g ghost
    pub stands : Represents l.world.around.layout known ghost heap left end.blocks end.statics
    pub same : left ≡ end.steps
    pub fine : Fine ghost end.vars
    pub others : (k : ℕ) → k < n → read end.vars k ≡ read core.vars k
    pub room : length end.vars ≡ length core.vars
    pub function : end.function ≡ core.function

  pub record Pass (inputs rest : List ℕ) (xs : List COperand) (w : Writing) (result : List COperand × Writing) : Type 0 where
    pub ys : List COperand
    pub ops : List LlOp
    pub new : List LlType
    pub given : result.0 ≡ xs ++ ys
    pub written : result.1.body.ops ≡ w.body.ops ++ ops
    pub added : result.1.body.types ≡ w.body.types ++ new
    pub under : AllBelow (length w.body.types + length new) ys
    pub follows : (next : List LlOp) (e : LlExit) (frames : List Frame) (core : Core) (g : Ghost) (env : List Bound) (heap : Heap) (left : ℕ) → Represents l.world.around.layout known g heap left core.blocks core.statics → left ≡ core.steps
        → length w.body.types + length new ≤ length core.vars → Stand s g l.number env core.vars → AllAmong rest (names_of env)
        → Moved (length w.body.types) next e frames core g heap left (λ ghost vars. Fit ghost env vars inputs rest ys) (At (ops ++ next) e frames core)

  pub kept_operand : (n : ℕ) (vars vars2 : List Value) → ((k : ℕ) → k < n → read vars2 k ≡ read vars k) → (x : COperand) → IsBelow n x → operand vars2 x ≡ operand vars x
  kept_operand n vars vars2 others (Var v) h = others v h
  kept_operand n vars vars2 others (Const c) h = refl

  pub below_more : (m n : ℕ) → m ≤ n → (x : COperand) → IsBelow m x → IsBelow n x
  below_more m n h (Var v) k = omega (arith, h, k)
  below_more m n h (Const c) k = tt

  -- one argument
  pub record One (v : ℕ) (rest : List ℕ) (w : Writing) (result : COperand × Writing) : Type 0 where
    pub ops : List LlOp
    pub new : List LlType
    pub written : result.1.body.ops ≡ w.body.ops ++ ops
    pub added : result.1.body.types ≡ w.body.types ++ new
    pub under : IsBelow (length w.body.types + length new) result.0
    pub follows : (next : List LlOp) (e : LlExit) (frames : List Frame) (core : Core) (g : Ghost) (env : List Bound) (heap : Heap) (left : ℕ) → Represents l.world.around.layout known g heap left core.blocks core.statics → left ≡ core.steps
        → length w.body.types + length new ≤ length core.vars → Stand s g l.number env core.vars → AllAmong rest (names_of env)
        → Moved (length w.body.types) next e frames core g heap left (λ ghost vars. Fits ghost (s.element l.number v) (source env rest) (operand vars result.0)) (At (ops ++ next) e frames core)

  -- nothing stands at the place: the default of the type
  pub one_default : (v : ℕ) (w : Writing) → One v [] w (default_operand (type_at l v), w)
  one_default v w = record {
    ops = [];
    new = [];
    written = sym (append-nil w.body.ops);
    added = sym (append-nil w.body.types);
    under = default_under (type_at l v);
    follows = λ next e frames core g env heap left stands same fits stand own. record {
      end = core;
      way = stays s;
      ghost = g;
      grown = grown_none;
      stands = stands;
      same = same;
      fine = default_blank g (type_at l v) core.vars;
      others = λ k h. refl;
      room = refl;
      function = refl;
    };
  }
    where
      default_under : (t : LlType) → IsBelow (length w.body.types + 0) (default_operand t)
      default_under type.Signed = tt
      default_under type.Void = tt
      default_under type.Char = tt
      default_under type.Bool = tt
      default_under type.Fn = tt
      default_under (type.Ptr n) = tt

  pub moved : {n : ℕ} {next : List LlOp} {e : LlExit} {frames : List Frame} {core : Core} {g : Ghost} {heap : Heap} {left : ℕ} {to : Option Element} {x : COperand} {from : State} (Fine : Ghost → Value → Type 0) → left ≡ core.steps
      → Came l.world.around.layout known Fine p arguments from next e frames core g heap left n to x → Moved n next e frames core g heap left (λ ghost vars. Fine ghost (operand vars x)) from
  moved Fine same c = record {
    end = c.end;
    way = record { most = _; leads = c.leads };
    ghost = c.ghost;
    grown = c.grown;
    stands = c.stands;
    same = same ∙ sym (ap (λ (k : Core). k.steps) c.memory);
    fine = c.fine;
    others = c.others;
    room = c.room;
    function = c.function;
  }

  -- what is held fits
  pub fine_fits : {n : ℕ} {next : List LlOp} {e : LlExit} {frames : List Frame} {core : Core} {g : Ghost} {heap : Heap} {left : ℕ} {from : State} {seen : Option Element} {x : Meant} (y : COperand)
      → Moved n next e frames core g heap left (λ ghost vars. Holds l.world.around.layout known ghost seen (operand vars y) x) from → Moved n next e frames core g heap left (λ ghost vars. Fits ghost seen (Some x) (operand vars y)) from
  fine_fits y m = record { end = m.end; way = m.way; ghost = m.ghost; grown = m.grown; stands = m.stands; same = m.same; fine = λ free. m.fine; others = m.others; room = m.room; function = m.function }

  pub one_converted : (v a : ℕ) (others : List ℕ) (w : Writing) → a < length w.body.types → is_conflict (s.element l.number a) ≡ false → Converts s numbers (s.element l.number a) (s.element l.number v) (Var a) w → One v (a ∷ others) w (value_as l.world.around.layout (Var a) (type_at l a) (type_at l v) w)
  one_converted v a others w inside free c =
      let it = c.is in
      record {
        ops = it.ops;
        new = it.new;
        written = it.written;
        added = it.types;
        under = it.under inside;
        follows = λ next e frames core g env heap left stands same fits stand own. by it.ops next e frames core g env heap left stands same fits stand own (look env a) refl;
      }
    where
      by : (ops next : List LlOp) (e : LlExit) (frames : List Frame) (core : Core) (g : Ghost) (env : List Bound) (heap : Heap) (left : ℕ) → Represents l.world.around.layout known g heap left core.blocks core.statics → left ≡ core.steps
          → length w.body.types + length c.is.new ≤ length core.vars → Stand s g l.number env core.vars → AllAmong (a ∷ others) (names_of env) → (o : Option Meant) → look env a ≡ o
          → Moved (length w.body.types) next e frames core g heap left (λ ghost vars. Fits ghost (s.element l.number v) (look env a) (operand vars (value_as l.world.around.layout (Var a) (type_at l a) (type_at l v) w).0)) (At (c.is.ops ++ next) e frames core)
      by ops next e frames core g env heap left stands same fits stand own (Some x) h =
          subst (λ (o : Option Meant). Moved (length w.body.types) next e frames core g heap left (λ ghost vars. Fits ghost (s.element l.number v) o (operand vars (value_as l.world.around.layout (Var a) (type_at l a) (type_at l v) w).0)) (At (c.is.ops ++ next) e frames core)) (sym h)
          (fine_fits _ (moved (λ ghost y. Holds l.world.around.layout known ghost (s.element l.number v) y x) same
          (c.is.follows p numbers known.exception arguments next e frames core g heap left x has (c.stood core g heap left stands same) stands same fits inside (stand.bound a x h free))))
      by ops next e frames core g env heap left stands same fits stand own None h =
          subst (λ (o : Option Meant). Moved (length w.body.types) next e frames core g heap left (λ ghost vars. Fits ghost (s.element l.number v) o (operand vars (value_as l.world.around.layout (Var a) (type_at l a) (type_at l v) w).0)) (At (c.is.ops ++ next) e frames core)) (sym h)
          (moved (λ ghost y. Blank ghost (type_at l v) y) same
          (c.is.blank p numbers known.exception arguments next e frames core g heap left has (c.stood core g heap left stands same) stands same fits inside (stand.blank a own.0 h)))

  -- ---- all of them

  pub fit_kept : {g new : Ghost} {env : List Bound} {vars vars2 : List Value} {inputs rest : List ℕ} {ys : List COperand} (n : ℕ) → Grown g new → ((k : ℕ) → k < n → read vars2 k ≡ read vars k) → AllBelow n ys → Fit g env vars inputs rest ys → Fit new env vars2 inputs rest ys
  fit_kept n grown others under (None_left rest) = None_left rest
  fit_kept n grown others under (Skip v inputs rest ys void empty more) = Skip v inputs rest ys void empty (fit_kept n grown others under more)
  fit_kept {new = new} {env = env} {vars = vars} {vars2 = vars2} n grown others under (Take v inputs rest y ys there it more) =
      Take v inputs rest y ys there (subst (λ (value : Value). Fits new (s.element l.number v) (source env rest) value) (sym (kept_operand n vars vars2 others y under.0)) (fits_grow (s.element l.number v) (source env rest) (operand vars y) grown it))
      (fit_kept n grown others under.1 more)

  none_passes : (rest : List ℕ) (xs : List COperand) (w : Writing) → Pass [] rest xs w (xs, w)
  none_passes rest xs w = record {
    ys = [];
    ops = [];
    new = [];
    given = sym (append-nil xs);
    written = sym (append-nil w.body.ops);
    added = sym (append-nil w.body.types);
    under = tt;
    follows = λ next e frames core g env heap left stands same fits stand own. record {
      end = core;
      way = stays s;
      ghost = g;
      grown = grown_none;
      stands = stands;
      same = same;
      fine = None_left rest;
      others = λ k h. refl;
      room = refl;
      function = refl;
    };
  }

  pub own_rest : (rest names : List ℕ) → AllAmong rest names → AllAmong (tail rest) names
  own_rest [] names own = tt
  own_rest (a ∷ others) names own = own.1

  pub under_more : (m n : ℕ) (ys : List COperand) → m ≤ n → AllBelow m ys → AllBelow n ys
  under_more m n [] h u = tt
  under_more m n (y ∷ ys) h u = (below_more m n h y u.0, under_more m n ys h u.1)

  -- the first of them has no type, where the input is in no conflict
  abbrev pub HasNone : ℕ → List ℕ → Type 0
  HasNone v [] = Unit {0}
  HasNone v (a ∷ others) = is_conflict (s.element l.number v) ≡ false → (is_conflict (s.element l.number a) ≡ false) × (type_at l a ≡ type.Void)

  pub nothing_there : {g : Ghost} {env : List Bound} {vars : List Value} (v : ℕ) (rest : List ℕ) → HasNone v rest → Stand s g l.number env vars → (x : Meant) → source env rest ≡ Some x → is_conflict (s.element l.number v) ≡ false → ⊥
  nothing_there v [] none stand x h free = absurd (cc)
  nothing_there {g = g} {vars = vars} v (a ∷ others) none stand x h free = types.typed g a (read vars a) x (stand.bound a x h (none free).0) (none free).1

  skips : (v : ℕ) (inputs rest : List ℕ) (xs : List COperand) (w : Writing) (result : List COperand × Writing) → type_at l v ≡ type.Void → HasNone v rest → Pass inputs (tail rest) xs w result → Pass (v ∷ inputs) rest xs w result
  skips v inputs rest xs w result void none it = record {
    ys = it.ys;
    ops = it.ops;
    new = it.new;
    given = it.given;
    written = it.written;
    added = it.added;
    under = it.under;
    follows = λ next e frames core g env heap left stands same fits stand own.
        let m = it.follows next e frames core g env heap left stands same fits stand (own_rest rest (names_of env) own) in
        record { end = m.end; way = m.way; ghost = m.ghost; grown = m.grown; stands = m.stands; same = m.same; fine = Skip v inputs rest it.ys void (nothing_there v rest none stand) m.fine; others = m.others; room = m.room; function = m.function };
  }

  module _ (v : ℕ) (inputs rest : List ℕ) (xs : List COperand) (w : Writing) (one_made : COperand × Writing) (result : List COperand × Writing) (there : type_at l v ≡ type.Void → ⊥) (enough : below ≤ length w.body.types)
      (first : One v rest w one_made) (it : Pass inputs (tail rest) (xs ++ one_made.0 ∷ []) one_made.1 result) where
    longer : length one_made.1.body.types ≡ length w.body.types + length first.new
    longer = ap (λ (ts : List LlType). length ts) first.added ∙ length-append w.body.types first.new

    all_new : length (first.new ++ it.new) ≡ length first.new + length it.new
    all_new = length-append first.new it.new

    then_follows : (next : List LlOp) (e : LlExit) (frames : List Frame) (core : Core) (g : Ghost) (env : List Bound) (heap : Heap) (left : ℕ) → Represents l.world.around.layout known g heap left core.blocks core.statics → left ≡ core.steps
        → length w.body.types + length (first.new ++ it.new) ≤ length core.vars → Stand s g l.number env core.vars → AllAmong rest (names_of env)
        → Moved (length w.body.types) next e frames core g heap left (λ ghost vars. Fit ghost env vars (v ∷ inputs) rest (one_made.0 ∷ it.ys)) (At ((first.ops ++ it.ops) ++ next) e frames core)
    then_follows next e frames core g env heap left stands same fits stand own =
        let a = first.follows (it.ops ++ next) e frames core g env heap left stands same (omega (arith, fits, all_new)) stand own in
        let kept : (k : ℕ) → k < below → read a.end.vars k ≡ read core.vars k = λ k h. a.others k (omega (arith, h, enough)) in
        let room = a.room in
        let b = it.follows next e frames a.end a.ghost env heap left a.stands a.same (omega (arith, fits, all_new, longer, room)) (stand_kept s l.number below types a.grown stand kept) (own_rest rest (names_of env) own) in
        let up : (k : ℕ) → k < length w.body.types + length first.new → read b.end.vars k ≡ read a.end.vars k = λ k h. b.others k (omega (arith, h, longer)) in
        record {
          end = b.end;
          way = subst (λ (ops : List LlOp). Way s (At ops e frames core) [] (At next e frames b.end)) (sym (append_assoc first.ops it.ops next)) (way_then s a.way b.way);
          ghost = b.ghost;
          grown = grown_both a.grown b.grown;
          stands = b.stands;
          same = b.same;
          fine = Take v inputs rest one_made.0 it.ys there
              (subst (λ (value : Value). Fits b.ghost (s.element l.number v) (source env rest) value) (sym (kept_operand (length w.body.types + length first.new) a.end.vars b.end.vars up one_made.0 first.under)) (fits_grow (s.element l.number v) (source env rest) (operand a.end.vars one_made.0) b.grown a.fine))
              b.fine;
          others = λ k h. b.others k (omega (arith, h, longer)) ∙ a.others k h;
          room = b.room ∙ a.room;
          function = b.function ∙ a.function;
        }

    takes : Pass (v ∷ inputs) rest xs w result
    takes = record {
      ys = one_made.0 ∷ it.ys;
      ops = first.ops ++ it.ops;
      new = first.new ++ it.new;
      given = it.given ∙ append_assoc xs (one_made.0 ∷ []) it.ys;
      written = it.written ∙ ap (λ (ops : List LlOp). ops ++ it.ops) first.written ∙ append_assoc w.body.ops first.ops it.ops;
      added = it.added ∙ ap (λ (ts : List LlType). ts ++ it.new) first.added ∙ append_assoc w.body.types first.new it.new;
      under = (below_more _ _ (omega (arith, all_new)) one_made.0 first.under, under_more _ _ it.ys (omega (arith, all_new, longer)) it.under);
      follows = then_follows;
    }

  pub inside_rest : (n : ℕ) (rest : List ℕ) → AllUnder n rest → AllUnder n (tail rest)
  inside_rest n [] u = tt
  inside_rest n (a ∷ others) u = u.1

  pub inside_more : (m n : ℕ) (rest : List ℕ) → m ≤ n → AllUnder m rest → AllUnder n rest
  inside_more m n [] h u = tt
  inside_more m n (a ∷ others) h u = (let k = u.0 in omega (arith, k, h), inside_more m n others h u.1)

  one_passes : (v : ℕ) (rest : List ℕ) (w : Writing) → (type_at l v ≡ type.Void → ⊥) → AllUnder (length w.body.types) rest → OneConverts s numbers l (slice_get rest 0) v w → One v rest w (passed l None (slice_get rest 0) (type_at l v) w)
  one_passes v [] w there inside converts = one_default v w
  one_passes v (a ∷ others) w there inside converts = let c = converts (typed_free l.world.around.layout (s.element l.number v) there) in one_converted v a others w inside.0 c.0 (c.2 there)

  longer_one : (v : ℕ) (rest : List ℕ) (w : Writing) (result : COperand × Writing) → One v rest w result → length w.body.types ≤ length result.1.body.types
  longer_one v rest w result it = let e : length result.1.body.types ≡ length w.body.types + length it.new = ap (λ (ts : List LlType). length ts) it.added ∙ length-append w.body.types it.new in omega (arith, e)

  none_of : (v : ℕ) (w : Writing) (rest : List ℕ) → type_at l v ≡ type.Void → OneConverts s numbers l (slice_get rest 0) v w → HasNone v rest
  none_of v w [] void converts = tt
  none_of v w (a ∷ others) void converts = λ free. let c = converts free in (c.0, c.1 void)

  pub rest_at : (args rest : List ℕ) (n : ℕ) → ((k : ℕ) → slice_get args (n + k) ≡ slice_get rest k) → (k : ℕ) → slice_get args (n + 1 + k) ≡ slice_get (tail rest) k
  rest_at args [] n h k = ap (slice_get args) (let z : n + 1 + k ≡ n + suc k = omega arith in z) ∙ h (suc k)
  rest_at args (a ∷ others) n h k = ap (slice_get args) (let z : n + 1 + k ≡ n + suc k = omega arith in z) ∙ h (suc k)

  pub passing : (args inputs rest : List ℕ) (n : ℕ) (xs : List COperand) (w : Writing) → ((k : ℕ) → slice_get args (n + k) ≡ slice_get rest k) → below ≤ length w.body.types → AllUnder (length w.body.types) rest → AllConvert s numbers l args n inputs (xs, w)
      → Pass inputs rest xs w (arguments_of l None args n inputs (xs, w))
  passing args [] rest n xs w at enough inside converts = none_passes rest xs w
  passing args (v ∷ inputs) rest n xs w at enough inside converts = by (λ others m ys u. passing args inputs others m ys u) (same_type (type_at l v) type.Void) refl
    where
      here : slice_get args n ≡ slice_get rest 0
      here = ap (slice_get args) (let z : n ≡ n + 0 = omega arith in z) ∙ at 0

      is : (b : Bool) → same_type (type_at l v) type.Void ≡ b → with_argument l None (slice_get args n) (type_at l v) (xs, w) ≡ (if b then (xs, w) else with_passed xs (passed l None (slice_get rest 0) (type_at l v) w))
      is b h = ap (λ c. if c then (xs, w) else with_passed xs (passed l None (slice_get args n) (type_at l v) w)) h
          ∙ ap (λ o. if b then (xs, w) else with_passed xs (passed l None o (type_at l v) w)) here

      by : ((others : List ℕ) (m : ℕ) (ys : List COperand) (u : Writing) → ((k : ℕ) → slice_get args (m + k) ≡ slice_get others k) → below ≤ length u.body.types → AllUnder (length u.body.types) others → AllConvert s numbers l args m inputs (ys, u) → Pass inputs others ys u (arguments_of l None args m inputs (ys, u)))
          → (b : Bool) → same_type (type_at l v) type.Void ≡ b → Pass (v ∷ inputs) rest xs w (arguments_of l None args (n + 1) inputs (with_argument l None (slice_get args n) (type_at l v) (xs, w)))
      by go true h = subst (λ (made : List COperand × Writing). Pass (v ∷ inputs) rest xs w (arguments_of l None args (n + 1) inputs made)) (sym (is true h))
          (skips v inputs rest xs w (arguments_of l None args (n + 1) inputs (xs, w)) (is_void (type_at l v) h) (none_of v w rest (is_void (type_at l v) h) (subst (λ (o : Option ℕ). OneConverts s numbers l o v w) here converts.0))
          (go (tail rest) (n + 1) xs w (rest_at args rest n at) enough (inside_rest (length w.body.types) rest inside) (subst (λ (made : List COperand × Writing). AllConvert s numbers l args (n + 1) inputs made) (is true h) converts.1)))
      by go false h =
          let there = no_void (type_at l v) h in
          let first : One v rest w (passed l None (slice_get rest 0) (type_at l v) w) = one_passes v rest w there inside (subst (λ (o : Option ℕ). OneConverts s numbers l o v w) here converts.0) in
          let more : length w.body.types ≤ length (passed l None (slice_get rest 0) (type_at l v) w).1.body.types = longer_one v rest w (passed l None (slice_get rest 0) (type_at l v) w) first in
          subst (λ (made : List COperand × Writing). Pass (v ∷ inputs) rest xs w (arguments_of l None args (n + 1) inputs made)) (sym (is false h))
          (takes v inputs rest xs w (passed l None (slice_get rest 0) (type_at l v) w) (arguments_of l None args (n + 1) inputs (with_passed xs (passed l None (slice_get rest 0) (type_at l v) w))) there enough first
          (go (tail rest) (n + 1) (xs ++ (passed l None (slice_get rest 0) (type_at l v) w).0 ∷ []) (passed l None (slice_get rest 0) (type_at l v) w).1 (rest_at args rest n at) (omega (arith, enough, more)) (inside_more _ _ (tail rest) more (inside_rest (length w.body.types) rest inside))
          (subst (λ (made : List COperand × Writing). AllConvert s numbers l args (n + 1) inputs made) (is false h) converts.1)))

  -- ---- the inputs

  pub set_other : (vars : List Value) (vs : List ℕ) (xs : List Value) (v : ℕ) → among v vs ≡ false → read (set_all vars vs xs) v ≡ read vars v
  set_other vars [] xs v h = refl
  set_other vars (u ∷ vs) [] v h = refl
  set_other vars (u ∷ vs) (x ∷ xs) v h =
      set_other (slice_set vars u x) vs xs v (second (u == v) (among v vs) h) ∙ get_or-set_other vars u v x Unset (unequal u v (first (u == v) (among v vs) h))
    where
      first : (b c : Bool) → (b || c) ≡ false → b ≡ false
      first true c h = h
      first false c h = refl

      second : (b c : Bool) → (b || c) ≡ false → c ≡ false
      second true c h = absurd (cc)
      second false c h = h

  pub set_length : (vars : List Value) (vs : List ℕ) (xs : List Value) → length (set_all vars vs xs) ≡ length vars
  set_length vars [] xs = refl
  set_length vars (u ∷ vs) [] = refl
  set_length vars (u ∷ vs) (x ∷ xs) = set_length (slice_set vars u x) vs xs ∙ length-set vars u x

  typed_among : (inputs : List ℕ) (v : ℕ) → among v inputs ≡ false → among v (typed l inputs) ≡ false
  typed_among [] v h = refl
  typed_among (u ∷ inputs) v h = by (typed_among inputs v (second (u == v) (among v inputs) h)) (same_type (type_at l u) type.Void)
    where
      second : (b c : Bool) → (b || c) ≡ false → c ≡ false
      second true c h = absurd (cc)
      second false c h = h

      first : (b c : Bool) → (b || c) ≡ false → b ≡ false
      first true c h = h
      first false c h = refl

      by : among v (typed l inputs) ≡ false → (b : Bool) → among v (if b then typed l inputs else u ∷ typed l inputs) ≡ false
      by go true = go
      by go false = ap (λ b. b || among v (typed l inputs)) (first (u == v) (among v inputs) h) ∙ go

  -- what the inputs take, one for each that has a type
  pub data FitAll (g : Ghost) (env : List Bound) : List ℕ → List ℕ → List Value → Type 0 where
    NoMore : (rest : List ℕ) → FitAll g env [] rest []
    Without : (v : ℕ) (inputs rest : List ℕ) (xs : List Value) → type_at l v ≡ type.Void → ((x : Meant) → source env rest ≡ Some x → is_conflict (s.element l.number v) ≡ false → ⊥) → FitAll g env inputs (tail rest) xs → FitAll g env (v ∷ inputs) rest xs
    With : (v : ℕ) (inputs rest : List ℕ) (x : Value) (xs : List Value) → (type_at l v ≡ type.Void → ⊥) → Fits g (s.element l.number v) (source env rest) x → FitAll g env inputs (tail rest) xs → FitAll g env (v ∷ inputs) rest (x ∷ xs)

  pub fit_all : {g : Ghost} {env : List Bound} {vars : List Value} {inputs rest : List ℕ} {ys : List COperand} → Fit g env vars inputs rest ys → FitAll g env inputs rest (operands vars ys)
  fit_all (None_left rest) = NoMore rest
  fit_all {vars = vars} (Skip v inputs rest ys void empty more) = Without v inputs rest (operands vars ys) void empty (fit_all more)
  fit_all {vars = vars} (Take v inputs rest y ys there it more) = With v inputs rest (operand vars y) (operands vars ys) there it (fit_all more)

  pub blank_set : {g : Ghost} {heap : Heap} {left : ℕ} {blocks : List (Option Memory)} {statics : List Memory} {t : LlType} {x : Value} → Represents l.world.around.layout known g heap left blocks statics → (t ≡ type.Void → ⊥) → Blank g t x → is_unset x ≡ false
  blank_set stands there (never x) = absurd (there refl)
  blank_set stands there (word z h) = refl
  blank_set stands there (flag b) = refl
  blank_set stands there (byte b h) = refl
  blank_set stands there (null n) = refl
  blank_set stands there function = refl
  blank_set stands there (text x bytes is) = found_set _ _ x _ (stands.stays x _ is.is)

  pub fits_set : {g : Ghost} {heap : Heap} {left : ℕ} {blocks : List (Option Memory)} {statics : List Memory} (v : ℕ) (o : Option Meant) (x : Value) → Represents l.world.around.layout known g heap left blocks statics → (type_at l v ≡ type.Void → ⊥) → Fits g (s.element l.number v) o x → is_unset x ≡ false
  fits_set v (Some value) x stands there it = held_set stands (it (typed_free l.world.around.layout (s.element l.number v) there))
  fits_set v None x stands there it = blank_set stands there it

  pub all_set : {g : Ghost} {heap : Heap} {left : ℕ} {blocks : List (Option Memory)} {statics : List Memory} {env : List Bound} {inputs rest : List ℕ} {xs : List Value} → Represents l.world.around.layout known g heap left blocks statics → FitAll g env inputs rest xs → any_unset xs ≡ false
  all_set stands (NoMore rest) = refl
  all_set stands (Without v inputs rest xs void empty more) = all_set stands more
  all_set {env = env} stands (With v inputs rest x xs there it more) = ap (λ b. b || any_unset xs) (fits_set v (source env rest) x stands there it) ∙ all_set stands more

  passed_is : (env : List Bound) (v : ℕ) (inputs rest : List ℕ) → passed_on env (v ∷ inputs) rest ≡ bind v (source env rest) ∷ passed_on env inputs (tail rest)
  passed_is env v inputs [] = refl
  passed_is env v inputs (a ∷ others) = refl

  pub passed_named : (env : List Bound) (inputs rest : List ℕ) → names_of (passed_on env inputs rest) ≡ inputs
  passed_named env [] rest = refl
  passed_named env (v ∷ inputs) [] = ap (λ ns. v ∷ ns) (passed_named env inputs [])
  passed_named env (v ∷ inputs) (a ∷ others) = ap (λ ns. v ∷ ns) (passed_named env inputs others)

  -- an input has what fits for it
  abbrev pub Arrives : Ghost → List Bound → List ℕ → List ℕ → List Value → Type 0
  Arrives g env inputs rest vars = (v : ℕ) → among v inputs ≡ true → Fits g (s.element l.number v) (look (passed_on env inputs rest) v) (read vars v)

  typed_void : (v : ℕ) (inputs : List ℕ) → type_at l v ≡ type.Void → typed l (v ∷ inputs) ≡ typed l inputs
  typed_void v inputs h = ap (λ b. if b then typed l inputs else v ∷ typed l inputs) (ap (λ t. same_type t type.Void) h)

  typed_there : (v : ℕ) (inputs : List ℕ) → (type_at l v ≡ type.Void → ⊥) → typed l (v ∷ inputs) ≡ v ∷ typed l inputs
  typed_there v inputs there = by (same_type (type_at l v) type.Void) refl
    where
      by : (b : Bool) → same_type (type_at l v) type.Void ≡ b → (if same_type (type_at l v) type.Void then typed l inputs else v ∷ typed l inputs) ≡ v ∷ typed l inputs
      by true h = absurd (there (is_void (type_at l v) h))
      by false h = ap (λ b. if b then typed l inputs else v ∷ typed l inputs) h

  pub arrive : {g : Ghost} {env : List Bound} {inputs rest : List ℕ} {xs : List Value} (vars : List Value) → FitAll g env inputs rest xs → AreDistinct inputs → below ≤ length vars → Arrives g env inputs rest (set_all vars (typed l inputs) xs)
  arrive vars (NoMore rest) apart enough u h = absurd (cc)
  arrive {g = g} {env = env} vars (Without v inputs rest xs void empty more) apart enough u h = by (λ k. arrive vars more apart.1 enough u k) (v == u) refl h
    where
      nothing : (o : Option Meant) → source env rest ≡ o → Fits g (s.element l.number v) o (read (set_all vars (typed l inputs) xs) u)
      nothing None e = subst (λ t. Blank g t (read (set_all vars (typed l inputs) xs) u)) (sym void) (never (read (set_all vars (typed l inputs) xs) u))
      nothing (Some x) e = λ free. absurd (empty x e free)

      by : (among u inputs ≡ true → Fits g (s.element l.number u) (look (passed_on env inputs (tail rest)) u) (read (set_all vars (typed l inputs) xs) u)) → (b : Bool) → (v == u) ≡ b → (b || among u inputs) ≡ true
          → Fits g (s.element l.number u) (look (passed_on env (v ∷ inputs) rest) u) (read (set_all vars (typed l (v ∷ inputs)) xs) u)
      by go b e k =
          subst (λ (vs : List ℕ). Fits g (s.element l.number u) (look (passed_on env (v ∷ inputs) rest) u) (read (set_all vars vs xs) u)) (sym (typed_void v inputs void))
          (subst (λ (env2 : List Bound). Fits g (s.element l.number u) (look env2 u) (read (set_all vars (typed l inputs) xs) u)) (sym (passed_is env v inputs rest))
          (subst (λ (c : Bool). Fits g (s.element l.number u) (cond c (source env rest) (look (passed_on env inputs (tail rest)) u)) (read (set_all vars (typed l inputs) xs) u)) (sym e) (on b e k)))
        where
          on : (b : Bool) → (v == u) ≡ b → (b || among u inputs) ≡ true → Fits g (s.element l.number u) (cond b (source env rest) (look (passed_on env inputs (tail rest)) u)) (read (set_all vars (typed l inputs) xs) u)
          on true f k = subst (λ (n : ℕ). Fits g (s.element l.number n) (source env rest) (read (set_all vars (typed l inputs) xs) u)) (sym (equal v u f)) (nothing (source env rest) refl)
          on false f k = go k
  arrive {g = g} {env = env} vars (With v inputs rest x xs there it more) apart enough u h = by (λ k. arrive (slice_set vars v x) more apart.1 (let same : length (slice_set vars v x) ≡ length vars = length-set vars v x in omega (arith, enough, same)) u k) (v == u) refl h
    where
      first : read (set_all (slice_set vars v x) (typed l inputs) xs) v ≡ x
      first = set_other (slice_set vars v x) (typed l inputs) xs v (typed_among inputs v apart.0) ∙ get_or-set_same vars v x Unset (let low : v < below = types.under v there in omega (arith, low, enough))

      by : (among u inputs ≡ true → Fits g (s.element l.number u) (look (passed_on env inputs (tail rest)) u) (read (set_all (slice_set vars v x) (typed l inputs) xs) u)) → (b : Bool) → (v == u) ≡ b → (b || among u inputs) ≡ true
          → Fits g (s.element l.number u) (look (passed_on env (v ∷ inputs) rest) u) (read (set_all vars (typed l (v ∷ inputs)) (x ∷ xs)) u)
      by go b e k =
          subst (λ (vs : List ℕ). Fits g (s.element l.number u) (look (passed_on env (v ∷ inputs) rest) u) (read (set_all vars vs (x ∷ xs)) u)) (sym (typed_there v inputs there))
          (subst (λ (env2 : List Bound). Fits g (s.element l.number u) (look env2 u) (read (set_all (slice_set vars v x) (typed l inputs) xs) u)) (sym (passed_is env v inputs rest))
          (subst (λ (c : Bool). Fits g (s.element l.number u) (cond c (source env rest) (look (passed_on env inputs (tail rest)) u)) (read (set_all (slice_set vars v x) (typed l inputs) xs) u)) (sym e) (on b e k)))
        where
          on : (b : Bool) → (v == u) ≡ b → (b || among u inputs) ≡ true → Fits g (s.element l.number u) (cond b (source env rest) (look (passed_on env inputs (tail rest)) u)) (read (set_all (slice_set vars v x) (typed l inputs) xs) u)
          on true f k = subst (λ (n : ℕ). Fits g (s.element l.number n) (source env rest) (read (set_all (slice_set vars v x) (typed l inputs) xs) n)) (sym (equal v u f)) (subst (λ (value : Value). Fits g (s.element l.number v) (source env rest) value) (sym first) it)
          on false f k = go k

  look_in : (env : List Bound) (v : ℕ) (x : Meant) → look env v ≡ Some x → among v (names_of env) ≡ true
  look_in [] v x h = absurd (cc)
  look_in (b ∷ env) v x h = by (λ k. look_in env v x k) (b.variable == v) h
    where
      by : (look env v ≡ Some x → among v (names_of env) ≡ true) → (c : Bool) → cond c b.value (look env v) ≡ Some x → (c || among v (names_of env)) ≡ true
      by go true k = refl
      by go false k = go k

  pub stand_passed : (g : Ghost) (env : List Bound) (inputs rest : List ℕ) (vars : List Value) → Arrives g env inputs rest vars → Stand s g l.number (passed_on env inputs rest) vars
  stand_passed g env inputs rest vars arrives = record {
    bound = λ v x h. subst (λ (o : Option Meant). Fits g (s.element l.number v) o (read vars v)) h (arrives v (ap (among v) (sym (passed_named env inputs rest)) ∙ look_in (passed_on env inputs rest) v x h));
    blank = λ v a h. subst (λ (o : Option Meant). Fits g (s.element l.number v) o (read vars v)) h (arrives v (ap (among v) (sym (passed_named env inputs rest)) ∙ a));
  }

  -- ---- the link

  module _ (names : List ℕ) (link : Link) (w : Writing) (enough : below ≤ length w.body.types) (graph : slice_get graphs.graphs l.number ≡ Some l.graph) (blocks : HasBlocks s l) (it : IsLink s numbers l names link w) where
    abbrev pub has_block : HasBlock s l link.to it.block
    has_block = blocks link.to it.block it.is it.reached it.later

    abbrev pub passes : Pass it.block.inputs link.args [] w (arguments_of l None link.args 0 it.block.inputs ([], w))
    passes = passing link.args it.block.inputs link.args 0 [] w (λ k. ap (slice_get link.args) (let z : 0 + k ≡ k = omega arith in z)) enough it.inside it.converts

    pub inputs_are : inputs_at l link.to ≡ it.block.inputs
    inputs_are = ap (λ b. if b then inputs_in (slice_get l.graph.blocks link.to) else []) it.reached ∙ ap inputs_in it.is

    pub link_is : link_of l None link w ≡ (record { to = link.to; args = passes.ys }, (arguments_of l None link.args 0 it.block.inputs ([], w)).1)
    unfolding link_of
    link_is = ap (λ inputs. (record { to = link.to; args = (arguments_of l None link.args 0 inputs ([], w)).0 }, (arguments_of l None link.args 0 inputs ([], w)).1)) inputs_are
        ∙ ap (λ xs. (record { to = link.to; args = xs }, (arguments_of l None link.args 0 it.block.inputs ([], w)).1)) passes.given

    -- where what is passed on stands, the block that the link leads to is next
    module _ (frames : List Frame) (env : List Bound) (world : World) (mid : Core) (ghost : Ghost) (fine : Fit ghost env mid.vars it.block.inputs link.args passes.ys) (stands : Represents l.world.around.layout known ghost world.heap world.left mid.blocks mid.statics)
        (same : world.left ≡ mid.steps) (room : length mid.vars ≡ s.size l.number) (enters : length w.body.types + length passes.new ≤ s.size l.number) (runs : s.known.graph l.number ≡ Some mid.function) where
      abbrev pub values : List Value
      values = operands mid.vars passes.ys

      fits : FitAll ghost env it.block.inputs link.args values
      fits = fit_all fine

      abbrev pub there : LlBlock
      there = has_block.low

      block_is : block_there (slice_get p.graphs mid.function) link.to ≡ Some there
      block_is =
          let number : mid.function ≡ has_block.at.number = (let a = runs in let b = has_block.at.is in cc) in
          ap (λ n. block_there (slice_get p.graphs n) link.to) number ∙ ap (λ o. block_there o link.to) has_block.at.stands ∙ has_block.at.block

      abbrev pub arrived : Core
      arrived = record mid { block = link.to; at = 0; vars = set_all mid.vars (typed l it.block.inputs) values }

      link_jumps : jump p frames mid (record { to = link.to; args = passes.ys }) ≡ Goes (At there.ops there.exit frames arrived)
      link_jumps = ap (λ b. cond b (Sticks IsUnset) (begins frames mid link.to values (block_there (slice_get p.graphs mid.function) link.to))) (all_set stands fits)
          ∙ ap (begins frames mid link.to values) block_is
          ∙ ap (λ inputs. Goes (At there.ops there.exit frames (record mid { block = link.to; at = 0; vars = set_all mid.vars inputs values }))) has_block.inputs

      pub jumps : jump p frames mid (link_of l None link w).0 ≡ Goes (At there.ops there.exit frames arrived)
      jumps = ap (λ (k : LlLink × Writing). jump p frames mid k.0) link_is ∙ link_jumps

      pub begins_at : {g : Ghost} {from : State} → Grown g ghost → Way s from [] (At there.ops there.exit frames arrived) → Begins s l.number link.to it.block (passed_on env it.block.inputs link.args) world g frames from
      begins_at grown way = record {
        low = there;
        block = has_block.at;
        end = arrived;
        way = way;
        ghost = ghost;
        grown = grown;
        at = record {
          named = passed_named env it.block.inputs link.args;
          stands = stands;
          left = same;
          variables = stand_passed ghost env it.block.inputs link.args arrived.vars (arrive mid.vars fits it.apart (omega (arith, room, enters, enough)));
          runs = runs;
          room = set_length mid.vars (typed l it.block.inputs) values ∙ room;
        };
      }

      pub goes_on : {g : Ghost} {from : State} → Grown g ghost → Way s from [] (At there.ops there.exit frames arrived) → Jumps s l.number link env world g frames from
      goes_on {g = g} {from = from} grown way b e =
          let is : Some it.block ≡ Some b = sym it.is ∙ sym (ap (λ o. block_in o link.to) graph) ∙ e in
          let q : it.block ≡ b = cc in
          subst (λ (c : Block). Begins s l.number link.to c (passed_on env c.inputs link.args) world g frames from) q (begins_at grown way)

    pub own : {g : Ghost} {env : List Bound} {world : World} {core : Core} → IsAt s g l.number names env world core → AllAmong link.args (names_of env)
    own at = subst (λ (ns : List ℕ). AllAmong link.args ns) (sym at.named) it.own

    link_does : length w.body.types + length passes.new ≤ s.size l.number → Does s l.number names [] (exit.Goto link) passes.ops (made.Goto (link_of l None link w).0)
    link_does enters frames core g env world at told =
        let m = passes.follows [] (made.Goto (link_of l None link w).0) frames core g env world.heap world.left at.stands at.left (let r = at.room in omega (arith, r, enters)) at.variables (own at) in
        let runs = at.runs ∙ ap Some (sym m.function) in
        let room = m.room ∙ at.room in
        let way : Way s (At passes.ops (made.Goto (link_of l None link w).0) frames core) [] (At (there frames env world m.end m.ghost m.fine m.stands m.same room enters runs).ops (there frames env world m.end m.ghost m.fine m.stands m.same room enters runs).exit frames (arrived frames env world m.end m.ghost m.fine m.stands m.same room enters runs)) =
        subst (λ (ops : List LlOp). Way s (At ops (made.Goto (link_of l None link w).0) frames core) [] (At (there frames env world m.end m.ghost m.fine m.stands m.same room enters runs).ops (there frames env world m.end m.ghost m.fine m.stands m.same room enters runs).exit frames (arrived frames env world m.end m.ghost m.fine m.stands m.same room enters runs))) (append-nil passes.ops)
        (way_then s m.way (record { most = 0; leads = one (jumps frames env world m.end m.ghost m.fine m.stands m.same room enters runs) refl })) in
        goes_on frames env world m.end m.ghost m.fine m.stands m.same room enters runs m.grown way

    pub link_passes : Ends s l names (exit.Goto link) w (goto (link_of l None link w))
    link_passes = record {
      ops = passes.ops;
      new = passes.new;
      written = ap (λ (k : LlLink × Writing). k.1.body.ops) link_is ∙ passes.written;
      types = ap (λ (k : LlLink × Writing). k.1.body.types) link_is ∙ passes.added;
      does = link_does;
    }

pub links_are_passed : LinksArePassed
links_are_passed l known graphs p arguments numbers below names link w has types enough graph blocks it = link_passes l known graphs p arguments numbers below has types names link w enough graph blocks it
