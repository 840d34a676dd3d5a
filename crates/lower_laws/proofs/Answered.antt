-- Truth values that are known, or that one test gives, and their opposites.
use Rattle.std.proofs.Common.{◌≡◌, ◌<◌, ℕ, ◌+◌, Bool, List, [], ◌∷◌, ◌++◌, length, Ok, refl, sym, ap, ◌∙◌, subst, arith}
use Rattle.std.specs.Prelude.{not, slice_set}
use Rattle.std.proofs.lemmas.List.{append-nil, get_or-set_same, length-append, length-set}
use Rattle.csub_tree.specs.State.{Value, Flag, Unset, Core}
use Rattle.csub_tree.specs.Operation.{binary_of, unary_of}
use Rattle.csub_tree.specs.Statement.{read, operand}
use Rattle.csub_tree.specs.declared.tree.CBinary.{CBinary}
use Rattle.csub_tree.specs.declared.tree.CUnary.TheVariants as unary
use Rattle.csub_tree.specs.declared.tree.COperand.{COperand}
use Rattle.csub_tree.specs.declared.tree.COperand.TheVariants.{Var}
use Rattle.rpy_tree.specs.Value.{Value as Meant, Flag as MeantFlag}
use Rattle.rpy_meaning.specs.declared.row.Covers.{Covers}
use Rattle.rpy_meaning.specs.declared.row.RowOp.{RowOp}
use Rattle.rpy_meaning.specs.Operations.{op as meant_op}
use Rattle.rpy_meaning.specs.Tree.{Program}
use Rattle.rpy_meaning.specs.World.{World, Gives}
use Rattle.ll_code.specs.State.{Frame, State, At}
use Rattle.ll_code.specs.declared.program.LlType.TheVariants as type
use Rattle.ll_code.specs.declared.program.LlOp.{LlOp}
use Rattle.ll_code.specs.declared.program.LlOp.TheVariants as op
use Rattle.ll_code.specs.declared.program.LlExit.{LlExit}
use Rattle.ll_code.specs.declared.program.LlProgram.{LlProgram}
use Rattle.ll_leads.specs.Memory.{forgotten}
use Rattle.ll_leads.proofs.Joined.{leads_more}
use Rattle.ll_leads.proofs.Ways.{on, gives, turns}
use Rattle.ll_texts.specs.Stands.{Stands, flag}
use Rattle.rtyper_layout.specs.declared.kind.Kind.TheVariants as kind
use Rattle.rtyper_layout.specs.Kinds.{kind_seen}
use Rattle.rtyper_data.specs.Comparing.{flag as flag_operand}
use Rattle.rtyper_op.specs.Lowering.{lower_op}
use Rattle.rtyper_data.specs.Seen.{Around, Operand, Place, type_at, with_op, Writing, writing}
use Rattle.lower_laws.specs.Done.{Came, Follows, IsDone}
use Rattle.lower_laws.specs.Follows.{Did}
use Rattle.lower_laws.specs.Values.{Holds, Given}
use Rattle.lower_laws.proofs.Doing.{did}
use Rattle.lower_laws.proofs.Flags.{three_more}
use Rattle.lower_laws.proofs.Inline.{did_three, two_types}
use Rattle.lower_laws.proofs.Ordered.{did_both, two_more}
use Rattle.lower_laws.proofs.Single.{sets}
use Rattle.lower_laws.proofs.Typing.{place_of_flags}
use Rattle.lower_laws.proofs.Valued.{flag_holds}

-- what was done, without a block or a step, is done
pub came : {around : Around} {place : Place} {p : LlProgram} {args : List (List ℕ)} {s : State} {rest : List LlOp} {e : LlExit} {frames : List Frame} {core : Core} {below : ℕ} {w : World} {v : Meant} (most : ℕ) → w.left ≡ core.steps
    → (d : Did p args s rest e frames core (type_at around place) place.variable below w v w) → ((x : Value) → Stands d.end.blocks d.end.statics (type_at around place) x v → Holds around.layout d.end.blocks d.end.statics place.element x v)
    → Came around place p args s rest e frames core most below w v w
came {place = place} {core = core} {w = w} most left d holds = record {
  end = d.end;
  text = [];
  leads = leads_more 0 most (omega arith) d.leads;
  made = [];
  few = omega arith;
  memory = d.memory ∙ ap (λ bs. forgotten (record core { blocks = bs })) (sym (append-nil core.blocks)) ∙ ap (λ n. forgotten (record core { blocks = core.blocks ++ []; steps = n })) (sym left);
  holds = holds (read d.end.vars place.variable) d.stands;
  others = d.others;
  room = d.room;
  function = d.function;
  block = d.block;
  out = sym (append-nil w.out);
  heap = refl;
}

module _ (around : Around) (place : Place) (args : List Operand) (w : Writing) (o : RowOp) (covers : Covers) (flags : kind_seen place.element ≡ kind.Flag) where
  ht : type_at around place ≡ type.Bool
  ht = place_of_flags around.layout place.element flags

  -- a truth value is set, and nothing else
  gave_flag : {p : LlProgram} {arguments : List (List ℕ)} {s : State} {rest : List LlOp} {e : LlExit} {frames : List Frame} {core : Core} {below : ℕ} {world : World} (t : Bool) → world.left ≡ core.steps → Did p arguments s rest e frames core type.Bool place.variable below world (MeantFlag t) world
      → Came around place p arguments s rest e frames core (length args) below world (MeantFlag t) world
  gave_flag {p = p} {arguments = arguments} {s = s} {rest = rest} {e = e} {frames = frames} {core = core} {below = below} {world = world} t left d =
      came (length args) left (subst (λ k. Did p arguments s rest e frames core k place.variable below world (MeantFlag t) world) (sym ht) d) (λ x st. flag_holds flags st)

  -- ---- what is known

  abbrev pub Known : Bool → Type 0
  Known t = (program : Program) (core : Core) (world : World) (vs : List Meant) → Given around core args vs → meant_op program covers o vs world ≡ Gives (MeantFlag t) world

  pub known_done : (t : Bool) → lower_op around o place args w ≡ writing w.found (with_op (op.Set place.variable (flag_operand t)) w.body) → Known t → IsDone around o covers [] place args w
  known_done t l means = record {
    ops = op.Set place.variable (flag_operand t) ∷ [];
    new = [];
    asked = ap (λ (r : Writing). r.found) l;
    written = ap (λ (r : Writing). r.body.ops) l;
    types = ap (λ (r : Writing). r.body.types) l ∙ sym (append-nil w.body.types);
    follows = λ program p numbers raised arguments rest e frames core world vs structs has left room inside below given good.
        subst (λ answer. Follows around place p arguments (At (op.Set place.variable (flag_operand t) ∷ rest) e frames core) rest e frames core raised (length args) (length w.body.types) world answer) (sym (means program core world vs given))
        (gave_flag t left (did place.variable (Flag t) (omega (arith, room, inside)) (sets (Flag t) refl refl) (flag t)));
  }

  -- the opposite of what is known
  abbrev pub Turned : COperand → Writing
  Turned x = writing w.found (record { types = w.body.types ++ type.Bool ∷ []; ops = (w.body.ops ++ op.Unary (length w.body.types) unary.Not x ∷ []) ++ op.Set place.variable (Var (length w.body.types)) ∷ [] })

  pub unknown_done : (t : Bool) → lower_op around o place args w ≡ Turned (flag_operand t) → Known (not t) → IsDone around o covers [] place args w
  unknown_done t l means = record {
    ops = op.Unary (length w.body.types) unary.Not (flag_operand t) ∷ op.Set place.variable (Var (length w.body.types)) ∷ [];
    new = type.Bool ∷ [];
    asked = ap (λ (r : Writing). r.found) l;
    written = ap (λ (r : Writing). r.body.ops) l ∙ two_more w.body.ops (op.Unary (length w.body.types) unary.Not (flag_operand t)) (op.Set place.variable (Var (length w.body.types)));
    types = ap (λ (r : Writing). r.body.types) l;
    follows = λ program p numbers raised arguments rest e frames core world vs structs has left room inside below given good.
        let n : ℕ = length w.body.types in
        subst (λ answer. Follows around place p arguments (At (op.Unary n unary.Not (flag_operand t) ∷ op.Set place.variable (Var n) ∷ rest) e frames core) rest e frames core raised (length args) n world answer) (sym (means program core world vs given))
        (gave_flag (not t) left (did_both place.variable n (not t) (not t) (omega (arith, room)) inside
        (on (turns (Flag (not t)) refl) (sets (Flag (not t)) (get_or-set_same core.vars n (Flag (not t)) Unset (omega (arith, room))) refl))));
  }

  -- ---- what is tested

  -- the test gives this, and so does the operation, or its opposite
  pub record Tested (c : CBinary) (x y : COperand) (f : Bool → Bool) (core : Core) (vs : List Meant) : Type 0 where
    pub truth : Bool
    pub low : binary_of c (operand core.vars x) (operand core.vars y) ≡ Ok (Flag truth)
    pub high : (program : Program) (world : World) → meant_op program covers o vs world ≡ Gives (MeantFlag (f truth)) world

  abbrev pub AllTested : CBinary → COperand → COperand → (Bool → Bool) → Type 0
  AllTested c x y f = (core : Core) (vs : List Meant) → Given around core args vs → Tested c x y f core vs

  pub tested_done : (c : CBinary) (x y : COperand)
      → lower_op around o place args w ≡ writing w.found (record { types = w.body.types ++ type.Bool ∷ []; ops = (w.body.ops ++ op.Binary (length w.body.types) c x y ∷ []) ++ op.Set place.variable (Var (length w.body.types)) ∷ [] })
      → AllTested c x y (λ t. t) → IsDone around o covers [] place args w
  tested_done c x y l means = record {
    ops = op.Binary (length w.body.types) c x y ∷ op.Set place.variable (Var (length w.body.types)) ∷ [];
    new = type.Bool ∷ [];
    asked = ap (λ (r : Writing). r.found) l;
    written = ap (λ (r : Writing). r.body.ops) l ∙ two_more w.body.ops (op.Binary (length w.body.types) c x y) (op.Set place.variable (Var (length w.body.types)));
    types = ap (λ (r : Writing). r.body.types) l;
    follows = λ program p numbers raised arguments rest e frames core world vs structs has left room inside below given good.
        let n : ℕ = length w.body.types in
        let m = means core vs given in
        subst (λ answer. Follows around place p arguments (At (op.Binary n c x y ∷ op.Set place.variable (Var n) ∷ rest) e frames core) rest e frames core raised (length args) n world answer) (sym (m.high program world))
        (gave_flag m.truth left (did_both place.variable n m.truth m.truth (omega (arith, room)) inside
        (on (gives (Flag m.truth) m.low) (sets (Flag m.truth) (get_or-set_same core.vars n (Flag m.truth) Unset (omega (arith, room))) refl))));
  }

  abbrev pub second : ℕ
  second = length (w.body.types ++ type.Bool ∷ [])

  pub untested_done : (c : CBinary) (x y : COperand)
      → lower_op around o place args w ≡ writing w.found (record { types = (w.body.types ++ type.Bool ∷ []) ++ type.Bool ∷ []; ops = ((w.body.ops ++ op.Binary (length w.body.types) c x y ∷ []) ++ op.Unary second unary.Not (Var (length w.body.types)) ∷ []) ++ op.Set place.variable (Var second) ∷ [] })
      → AllTested c x y not → IsDone around o covers [] place args w
  untested_done c x y l means = record {
    ops = op.Binary (length w.body.types) c x y ∷ op.Unary second unary.Not (Var (length w.body.types)) ∷ op.Set place.variable (Var second) ∷ [];
    new = type.Bool ∷ type.Bool ∷ [];
    asked = ap (λ (r : Writing). r.found) l;
    written = ap (λ (r : Writing). r.body.ops) l ∙ three_more w.body.ops (op.Binary (length w.body.types) c x y) (op.Unary second unary.Not (Var (length w.body.types))) (op.Set place.variable (Var second));
    types = ap (λ (r : Writing). r.body.types) l ∙ two_types w.body.types type.Bool type.Bool;
    follows = λ program p numbers raised arguments rest e frames core world vs structs has left room inside below given good.
        let n : ℕ = length w.body.types in
        let k : second ≡ n + 1 = length-append w.body.types (type.Bool ∷ []) in
        let m = means core vs given in
        let t : Bool = m.truth in
        let here : n < length core.vars = omega (arith, room) in
        let more : second < length core.vars = omega (arith, room, k) in
        let long : length (slice_set core.vars n (Flag t)) ≡ length core.vars = length-set core.vars n (Flag t) in
        subst (λ answer. Follows around place p arguments (At (op.Binary n c x y ∷ op.Unary second unary.Not (Var n) ∷ op.Set place.variable (Var second) ∷ rest) e frames core) rest e frames core raised (length args) n world answer) (sym (m.high program world))
        (gave_flag (not t) left (did_three place.variable n second t here more (omega (arith, k)) inside
        (on (gives (Flag t) m.low) (on (turns (Flag (not t)) (ap (unary_of unary.Not) (get_or-set_same core.vars n (Flag t) Unset here)))
        (sets (Flag (not t)) (get_or-set_same (slice_set core.vars n (Flag t)) second (Flag (not t)) Unset (omega (arith, long, more))) refl)))));
  }
