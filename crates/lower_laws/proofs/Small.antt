-- A call of a small graph whose result is a word does what the small graph does: it gives a word, raises or fails.
use Rattle.std.proofs.Common.{◌≡◌, ◌<◌, ◌≤◌, ℕ, ◌+◌, false, List, [], ◌∷◌, ◌++◌, length, Some, None, refl, sym, ap, ◌∙◌, subst, arith, append_assoc}
use Rattle.std.specs.Prelude.{cond}
use Rattle.std.proofs.lemmas.List.{get_or-set_same, get_or-set_other, length-set}
use Rattle.csub_tree.specs.State.{Value, Unset, Core}
use Rattle.csub_tree.specs.Statement.{operands, any_unset}
use Rattle.csub_tree.specs.Operation.{is_unset}
use Rattle.csub_tree.specs.declared.stuck.StuckReason.TheVariants.{Unset as IsUnset}
use Rattle.csub_tree.specs.declared.tree.COperand.{COperand}
use Rattle.csub_tree.specs.declared.tree.COperand.TheVariants.{Var}
use Rattle.rpy_tree.specs.Value.{Value as Meant, Word as MeantWord}
use Rattle.rpy_meaning.specs.declared.row.Covers.{Covers}
use Rattle.rpy_meaning.specs.declared.row.RowOp.{RowOp}
use Rattle.rpy_meaning.specs.Operations.{op as meant_op}
use Rattle.rpy_meaning.specs.Tree.{Program}
use Rattle.rpy_meaning.specs.World.{World, Answer, Gives, Throws, Fails, Lacks, Enters, Bad}
use Rattle.ll_code.specs.State.{Frame, State, Calling, At, Throwing, Goes, Sticks}
use Rattle.ll_code.specs.Machine.{waiting}
use Rattle.ll_code.specs.declared.program.LlType.TheVariants as type
use Rattle.ll_code.specs.declared.program.LlOp.{LlOp}
use Rattle.ll_code.specs.declared.program.LlOp.TheVariants as op
use Rattle.ll_code.specs.declared.program.LlExit.{LlExit}
use Rattle.ll_code.specs.declared.program.LlExit.TheVariants as exit
use Rattle.ll_code.specs.declared.program.LlProgram.{LlProgram}
use Rattle.ll_leads.specs.Memory.{forgotten}
use Rattle.ll_leads.specs.Path.{Leads}
use Rattle.ll_leads.proofs.Ways.{Comes, on, one, enter, call}
use Rattle.ll_texts.specs.Stands.{Stands}
use Rattle.ll_texts.specs.Follows.{FailedAs}
use Rattle.rtyper_layout.specs.declared.kind.Kind.TheVariants as kind
use Rattle.rtyper_layout.specs.Kinds.{kind_seen}
use Rattle.rtyper_data.specs.declared.small.Small.{Small}
use Rattle.rtyper_data.specs.Converting.{by_small, give_made}
use Rattle.rtyper_data.specs.Finding.{small_number}
use Rattle.rtyper_op.specs.Lowering.{lower_op}
use Rattle.rtyper_data.specs.Seen.{Around, Operand, Place, type_at, Writing, writing}
use Rattle.lower_laws.specs.Asked.{Make, Raises, HasSmall}
use Rattle.lower_laws.specs.Done.{Came, Follows, IsDone}
use Rattle.lower_laws.specs.Values.{Holds, Given}
use Rattle.lower_laws.proofs.Doing.{after, word_is}
use Rattle.lower_laws.proofs.Items.{set_last}
use Rattle.lower_laws.proofs.Single.{sets, gives_word}
use Rattle.lower_laws.proofs.Typing.{place_of_words}
use Rattle.lower_laws.proofs.Valued.{word_holds}

-- ---- what such a call comes to

-- an exception leaves the call, and memory is as it was
pub record Flies (p : LlProgram) (args : List (List ℕ)) (s : State) (x : Value) (frames : List Frame) (memory : Core) : Type 0 where
  pub end : Core
  pub same : forgotten end ≡ forgotten memory
  pub leads : Leads p args 0 s [] (Throwing x frames end)

pub record SmallGave (p : LlProgram) (args : List (List ℕ)) (f : ℕ) (values : List Value) (core : Core) (w : World) (v : Meant) (w' : World) : Type 0 where
  pub value : Value
  pub stands : Stands core.blocks core.statics type.Signed value v
  pub comes : (waits : List Frame) → Comes p args (Calling f values waits core) [] value waits core
  pub same : w' ≡ w

pub record SmallThrew (p : LlProgram) (args : List (List ℕ)) (f : ℕ) (values : List Value) (core : Core) (x : Value) (w w' : World) : Type 0 where
  pub flies : (waits : List Frame) → Flies p args (Calling f values waits core) x waits core
  pub same : w' ≡ w

abbrev pub SmallFollows : LlProgram → List (List ℕ) → ℕ → List Value → Core → (ℕ → Value) → World → Answer → Type 0
SmallFollows p args f values core raised w (Gives v w') = SmallGave p args f values core w v w'
SmallFollows p args f values core raised w (Throws exception w') = SmallThrew p args f values core (raised exception) w w'
SmallFollows p args f values core raised w (Fails name) = (waits : List Frame) → FailedAs p args (Calling f values waits core) name
SmallFollows p args f values core raised w Lacks = ⊥
SmallFollows p args f values core raised w (Enters function values2 instead w') = ⊥
SmallFollows p args f values core raised w Bad = Unit {0}

-- a block that raises does
pub flown : {p : LlProgram} {args : List (List ℕ)} {g k : ℕ} {x : Value} {frames : List Frame} {core : Core} → Raises p g x → Flies p args (At (op.Call None g [] ∷ []) (exit.Fail k) frames core) x frames core
flown {p = p} {args = args} {g = g} {k = k} {x = x} {frames = frames} {core = core} r = record {
  end = record core { at = core.at + 1 };
  same = refl;
  leads = subst (λ x. Leads p args 0 (At (op.Call None g [] ∷ []) (exit.Fail k) frames core) [] (Throwing x frames (record core { at = core.at + 1 }))) (sym r.value)
      (on (one refl refl) (on (enter r.graph refl) (on (one refl refl) (on (one refl refl) (one refl refl)))));
}

pub flies_on : {p : LlProgram} {args : List (List ℕ)} {s t : State} {x : Value} {frames : List Frame} {core : Core} → Leads p args 0 s [] t → Flies p args t x frames core → Flies p args s x frames core
flies_on l f = record { end = f.end; same = f.same; leads = on l f.leads }

pub same_memory : {p : LlProgram} {args : List (List ℕ)} {s : State} {x : Value} {frames : List Frame} {core other : Core} → forgotten core ≡ forgotten other → Flies p args s x frames core → Flies p args s x frames other
same_memory e f = record { end = f.end; same = f.same ∙ e; leads = f.leads }

-- ---- the call

-- it has a variable of its own, and the place takes what that has
module _ (around : Around) (place : Place) (m f below most : ℕ) (xs : List COperand) (words : kind_seen place.element ≡ kind.Word) (p : LlProgram) (raised : ℕ → Value) (arguments : List (List ℕ)) (rest : List LlOp) (e : LlExit) (frames : List Frame) (core : Core) (world : World)
    (left : world.left ≡ core.steps) (room : m + 1 ≤ length core.vars) (fresh : below ≤ m) (inside : place.variable < length core.vars) (u : any_unset (operands core.vars xs) ≡ false) where
  abbrev Behind : List LlOp
  Behind = op.Set place.variable (Var m) ∷ rest

  abbrev Here : State
  Here = At (op.Call (Some m) f xs ∷ Behind) e frames core

  abbrev frame : Frame
  frame = waiting core (Some m) Behind e

  abbrev There : State
  There = Calling f (operands core.vars xs) (frame ∷ frames) core

  ht : type_at around place ≡ type.Signed
  ht = place_of_words around.layout place.element words

  enters : Leads p arguments 0 Here [] There
  enters = one (ap (λ b. cond b (Sticks IsUnset) (Goes There)) u) refl

  pub followed : (answer : Answer) → SmallFollows p arguments f (operands core.vars xs) core raised world answer → Follows around place p arguments Here rest e frames core raised most below world answer
  followed (Gives v w') g =
      let x = word_is refl g.stands in
      let there : m < length core.vars = omega (arith, room) in
      let middle : Core = after core m g.value in
      let way : Leads p arguments 0 Here [] (At Behind e frames middle) = call u g.comes in
      subst (λ w2. Came around place p arguments Here rest e frames core most below world v w2) (sym g.same)
      (set_last most below middle g.value v left refl (length-set core.vars m g.value) refl refl (λ k under. get_or-set_other core.vars m k g.value _ (λ same. absurd (omega (arith, under, fresh, same)))) inside
      (on way (sets g.value (get_or-set_same core.vars m g.value Unset there) (ap is_unset x.low)))
      (subst (λ v. Holds around.layout core.blocks core.statics place.element g.value v) (sym x.high) (word_holds words (subst (λ t. Stands core.blocks core.statics t g.value (MeantWord x.number)) (sym ht) (subst (λ v. Stands core.blocks core.statics type.Signed g.value v) x.high g.stands)))))
  followed (Throws exception w') g =
      let fl = g.flies (frame ∷ frames) in
      record {
        frame = frame;
        end = fl.end;
        leads = on enters fl.leads;
        memory = fl.same;
        left = op.Set place.variable (Var m) ∷ [];
        ops = refl;
        exit = refl;
        others = λ k under. refl;
        room = refl;
        function = refl;
        block = refl;
        same = g.same;
      }
  followed (Fails name) g = let d = g (frame ∷ frames) in record { last = d.last; leads = on enters d.leads; ends = d.ends }
  followed Lacks g = absurd g
  followed (Enters function values instead w') g = absurd g
  followed Bad g = tt

-- the place takes the result at once
module _ (around : Around) (place : Place) (f below most : ℕ) (xs : List COperand) (words : kind_seen place.element ≡ kind.Word) (p : LlProgram) (raised : ℕ → Value) (arguments : List (List ℕ)) (rest : List LlOp) (e : LlExit) (frames : List Frame) (core : Core) (world : World)
    (left : world.left ≡ core.steps) (inside : place.variable < length core.vars) (u : any_unset (operands core.vars xs) ≡ false) where
  abbrev Straight : State
  Straight = At (op.Call (Some place.variable) f xs ∷ rest) e frames core

  abbrev waits_here : Frame
  waits_here = waiting core (Some place.variable) rest e

  calls : Leads p arguments 0 Straight [] (Calling f (operands core.vars xs) (waits_here ∷ frames) core)
  calls = one (ap (λ b. cond b (Sticks IsUnset) (Goes (Calling f (operands core.vars xs) (waits_here ∷ frames) core))) u) refl

  pub straight : (answer : Answer) → SmallFollows p arguments f (operands core.vars xs) core raised world answer → Follows around place p arguments Straight rest e frames core raised most below world answer
  straight (Gives v w') g =
      let x = word_is refl g.stands in
      let way : Leads p arguments 0 Straight [] (At rest e frames (after core place.variable g.value)) = call u g.comes in
      subst (λ w2. Came around place p arguments Straight rest e frames core most below world v w2) (sym g.same)
      (set_last most below core g.value v left refl refl refl refl (λ k under. refl) inside way
      (subst (λ v. Holds around.layout core.blocks core.statics place.element g.value v) (sym x.high) (word_holds words (subst (λ t. Stands core.blocks core.statics t g.value (MeantWord x.number)) (sym (place_of_words around.layout place.element words)) (subst (λ v. Stands core.blocks core.statics type.Signed g.value v) x.high g.stands)))))
  straight (Throws exception w') g =
      let fl = g.flies (waits_here ∷ frames) in
      record { frame = waits_here; end = fl.end; leads = on calls fl.leads; memory = fl.same; left = []; ops = refl; exit = refl; others = λ k under. refl; room = refl; function = refl; block = refl; same = g.same }
  straight (Fails name) g = let d = g (waits_here ∷ frames) in record { last = d.last; leads = on calls d.leads; ends = d.ends }
  straight Lacks g = absurd g
  straight (Enters function values instead w') g = absurd g
  straight Bad g = tt

-- what is written for it
pub small_written : (around : Around) (place : Place) (s : Small) (xs : List COperand) (w : Writing) → kind_seen place.element ≡ kind.Word
    → give_made around place type.Signed (by_small s type.Signed xs w) ≡ writing (small_number s w.found).1 (record { types = w.body.types ++ type.Signed ∷ []; ops = (w.body.ops ++ op.Call (Some (length w.body.types)) (small_number s w.found).0 xs ∷ []) ++ op.Set place.variable (Var (length w.body.types)) ∷ [] })
unfolding by_small
small_written around place s xs w words = gives_word around place (Var (length w.body.types)) (writing (small_number s w.found).1 (record { types = w.body.types ++ type.Signed ∷ []; ops = w.body.ops ++ op.Call (Some (length w.body.types)) (small_number s w.found).0 xs ∷ [] })) (place_of_words around.layout place.element words)

module _ (around : Around) (o : RowOp) (covers : Covers) (s : Small) (place : Place) (args : List Operand) (w : Writing) (xs : List COperand) (words : kind_seen place.element ≡ kind.Word)
    (l : lower_op around o place args w ≡ give_made around place type.Signed (by_small s type.Signed xs w))
    (is_set : (core : Core) (vs : List Meant) → Given around core args vs → any_unset (operands core.vars xs) ≡ false)
    (does : (program : Program) (p : LlProgram) (raised : ℕ → Value) (arguments : List (List ℕ)) (f : ℕ) (core : Core) (world : World) (vs : List Meant) → HasSmall p around.layout raised s f → Given around core args vs → SmallFollows p arguments f (operands core.vars xs) core raised world (meant_op program covers o vs world)) where
  abbrev made_at : ℕ
  made_at = length w.body.types

  abbrev graph : ℕ
  graph = (small_number s w.found).0

  pub small_done : IsDone around o covers (Make s ∷ []) place args w
  small_done = record {
    ops = op.Call (Some made_at) graph xs ∷ op.Set place.variable (Var made_at) ∷ [];
    new = type.Signed ∷ [];
    asked = ap (λ (r : Writing). r.found) (l ∙ small_written around place s xs w words);
    written = ap (λ (r : Writing). r.body.ops) (l ∙ small_written around place s xs w words) ∙ append_assoc w.body.ops (op.Call (Some made_at) graph xs ∷ []) (op.Set place.variable (Var made_at) ∷ []);
    types = ap (λ (r : Writing). r.body.types) (l ∙ small_written around place s xs w words);
    follows = λ program p numbers raised arguments rest e frames core world vs structs has left room inside below given good.
        followed around place made_at graph (length w.body.types) (length args) xs words p raised arguments rest e frames core world left room (omega arith) (omega (arith, room, inside)) (is_set core vs given) (meant_op program covers o vs world) (does program p raised arguments graph core world vs has.0 given);
  }
