-- Operands are converted one after the other.
use Rattle.std.proofs.Common.{◌≡◌, ◌<◌, ◌≤◌, ℕ, ◌+◌, false, List, [], ◌∷◌, ◌++◌, length, Option, Some, refl, sym, ap, ◌∙◌, subst, arith, append_assoc, length-append}
use Rattle.std.proofs.lemmas.List.{append-nil}
use Rattle.ann_element.specs.declared.element.Element.{Element}
use Rattle.csub_tree.specs.State.{Value, Core}
use Rattle.csub_tree.specs.Statement.{read, operand, operands}
use Rattle.csub_tree.specs.declared.tree.COperand.{COperand}
use Rattle.csub_tree.specs.declared.tree.COperand.TheVariants.{Var, Const}
use Rattle.ll_code.specs.State.{Frame, State, At}
use Rattle.ll_code.specs.declared.program.LlType.{LlType}
use Rattle.ll_code.specs.declared.program.LlOp.{LlOp}
use Rattle.ll_code.specs.declared.program.LlExit.{LlExit}
use Rattle.ll_code.specs.declared.program.LlProgram.{LlProgram}
use Rattle.ll_leads.proofs.Joined.{leads_then}
use Rattle.ll_leads.proofs.Ways.{rests}
use Rattle.ll_build.specs.declared.needs.Numbers.{Numbers}
use Rattle.rpy_tree.specs.Value.{Value as Meant, Heap}
use Rattle.rtyper_layout.specs.declared.layout.Layout.{Layout}
use Rattle.rtyper_layout.specs.Layout.{is_tuple}
use Rattle.rtyper_layout.specs.Types.{type_of as type_of_element, type_seen}
use Rattle.rtyper_data.specs.declared.found.Found.{Found}
use Rattle.rtyper_data.specs.Converting.{given}
use Rattle.rtyper_data.specs.Seen.{Around, Operand, Writing, writing}
use Rattle.rtyper_data.specs.Tuples.{with_first}
use Rattle.lower_laws.specs.Asked.{Ask, all_asked, number_of}
use Rattle.lower_laws.specs.Values.{IsBelow, AllBelow}
use Rattle.object_laws.specs.Done.{HasLayout}
use Rattle.object_laws.specs.Ghost.{Ghost, Grown}
use Rattle.object_laws.specs.Known.{Known}
use Rattle.object_laws.specs.Represents.{Represents}
use Rattle.object_laws.specs.Values.{Holds, AllHold, End, Next, Given}
use Rattle.object_laws.proofs.Growing.{grown_none, holds_grows}
use Rattle.conversion_laws.specs.Asked.{Has, asks_for}
use Rattle.conversion_laws.specs.Converted.{Came, IsConverted, tuples_in, items_in}
use Rattle.conversion_laws.specs.Going.{Goes}
use Rattle.conversion_laws.proofs.Converting.{values_are_converted}
use Rattle.conversion_laws.proofs.Moving.{grown_both, has_first, has_second}
use Rattle.passing_laws.specs.Passed.{Moved, ArePassed, OperandsArePassed}
use Rattle.passing_laws.specs.Passing.{each_given, pass_asks, tuples_of, items_of, AllUnder}
use Rattle.passing_laws.specs.Standing.{Stood}

-- ---- what is written

pub made_is : {A : Type 0} (r : A × Writing) (found : Found) (types : List LlType) (ops : List LlOp) → r.1.found ≡ found → r.1.body.types ≡ types → r.1.body.ops ≡ ops → r ≡ (r.0, writing found (record { types = types; ops = ops }))
made_is r found types ops a b c =
    ap (λ f. (r.0, writing f (record { types = r.1.body.types; ops = r.1.body.ops }))) a
    ∙ ap (λ ts. (r.0, writing found (record { types = ts; ops = r.1.body.ops }))) b
    ∙ ap (λ os. (r.0, writing found (record { types = types; ops = os }))) c

pub asked_both : (xs ys : List Ask) (found : Found) → all_asked (xs ++ ys) found ≡ all_asked ys (all_asked xs found)
asked_both [] ys found = refl
asked_both (a ∷ xs) ys found = asked_both xs ys (number_of a found).1

-- ---- operands from before

pub is_below_more : (m n : ℕ) → m ≤ n → (x : COperand) → IsBelow m x → IsBelow n x
is_below_more m n h (Var v) k = omega (arith, h, k)
is_below_more m n h (Const c) k = tt

pub all_below_more : (m n : ℕ) → m ≤ n → (args : List Operand) → AllBelow m args → AllBelow n args
all_below_more m n h [] u = tt
all_below_more m n h (a ∷ args) u = (is_below_more m n h a.x u.0, all_below_more m n h args u.1)

pub kept_operand : (below : ℕ) (core end : Core) → ((k : ℕ) → k < below → read end.vars k ≡ read core.vars k) → (x : COperand) → IsBelow below x → operand end.vars x ≡ operand core.vars x
kept_operand below core end others (Var v) h = others v h
kept_operand below core end others (Const c) h = refl

-- operands are what they were, where none of the variables that they read is changed
pub given_kept : (known : Known) (around : Around) {g ghost : Ghost} (below : ℕ) (core end : Core) → Grown g ghost → ((k : ℕ) → k < below → read end.vars k ≡ read core.vars k) → (args : List Operand) (vs : List Meant) → AllBelow below args → Given known around g core args vs → Given known around ghost end args vs
given_kept known around below core end grown others [] [] under given = tt
given_kept known around below core end grown others [] (v ∷ vs) under given = absurd given
given_kept known around below core end grown others (a ∷ args) [] under given = absurd given
given_kept known around {ghost = ghost} below core end grown others (a ∷ args) (v ∷ vs) under given = (
  subst (λ x. Holds around.layout known ghost a.element x v) (sym (kept_operand below core end others a.x under.0)) (holds_grows grown given.0),
  given_kept known around below core end grown others args vs under.1 given.1,
)

-- ---- ways

module _ {layout : Layout} {known : Known} {p : LlProgram} {arguments : List (List ℕ)} {e : LlExit} {frames : List Frame} {heap : Heap} {left : ℕ} where
  pub here : {rest : List LlOp} {core : Core} {g : Ghost} {below : ℕ} {Fine : Ghost → Core → Type 0} → Represents layout known g heap left core.blocks core.statics → Fine g core → Moved layout known p arguments (At rest e frames core) rest e frames core g heap left below 0 0 Fine
  here {core = core} {g = g} r fine = record { end = core; leads = rests; ghost = g; grown = grown_none; stands = r; fine = fine; few = omega arith; memory = refl; others = λ n under. refl; room = refl; function = refl; block = refl }

  pub came_moved : {s : State} {rest : List LlOp} {core : Core} {g : Ghost} {below : ℕ} {Fine : Ghost → Value → Type 0} {seen : Option Element} {x : COperand} → (it : Came layout known Fine p arguments s rest e frames core g heap left below seen x) → Moved layout known p arguments s rest e frames core g heap left below (items_in seen) (tuples_in seen) (λ ghost end. Fine ghost (operand end.vars x))
  came_moved it = record { end = it.end; leads = it.leads; ghost = it.ghost; grown = it.grown; stands = it.stands; fine = it.fine; few = it.few; memory = it.memory; others = it.others; room = it.room; function = it.function; block = it.block }

  pub then_moved : {s : State} {next rest : List LlOp} {core : Core} {g : Ghost} {below above most also count too : ℕ} {Fine Good Best : Ghost → Core → Type 0} → below ≤ above → (a : Moved layout known p arguments s next e frames core g heap left below most count Fine)
      → (b : Moved layout known p arguments (At next e frames a.end) rest e frames a.end a.ghost heap left above also too Good) → Best b.ghost b.end → Moved layout known p arguments s rest e frames core g heap left below (most + also) (count + too) Best
  then_moved h a b best = record {
    end = b.end;
    leads = leads_then a.leads b.leads;
    ghost = b.ghost;
    grown = grown_both a.grown b.grown;
    stands = b.stands;
    fine = best;
    few = (let x = a.few in let y = b.few in omega (arith, x, y));
    memory = b.memory ∙ ap (λ (c : Core). record c { blocks = b.end.blocks }) a.memory;
    others = λ n under. b.others n (omega (arith, under, h)) ∙ a.others n under;
    room = b.room ∙ a.room;
    function = b.function ∙ a.function;
    block = b.block ∙ a.block;
  }

  pub fine_moved : {s : State} {rest : List LlOp} {core : Core} {g : Ghost} {below most count : ℕ} {Fine Good : Ghost → Core → Type 0} → (a : Moved layout known p arguments s rest e frames core g heap left below most count Fine) → Good a.ghost a.end → Moved layout known p arguments s rest e frames core g heap left below most count Good
  fine_moved a good = record { end = a.end; leads = a.leads; ghost = a.ghost; grown = a.grown; stands = a.stands; fine = good; few = a.few; memory = a.memory; others = a.others; room = a.room; function = a.function; block = a.block }

-- ---- all of them

module _ (known : Known) (around : Around) (a : Operand) (args : List Operand) (to : Element) (es : List Element) (w : Writing) (go : Goes around.layout known a.element (Some to)) (apart : is_tuple around.layout 0 ≡ false) where
  abbrev asks : List Ask
  asks = asks_for around.layout (type_seen around.layout a.element) (type_of_element around.layout to)

  pub first : IsConverted (λ p. Has p around.layout) known around.layout a.element (Some to) asks a.x w
  first = values_are_converted known around.layout a.element (Some to) a.x w apart go

  abbrev y : COperand
  y = (given around a (type_of_element around.layout to) w).0

  abbrev next : Writing
  next = writing (all_asked asks w.found) (record { types = w.body.types ++ first.new; ops = w.body.ops ++ first.ops })

  module _ (it : ArePassed known around args es next) where
    abbrev ops : List LlOp
    ops = first.ops ++ it.ops

    abbrev new : List LlType
    new = first.new ++ it.new

    abbrev m : ℕ
    m = length w.body.types

    longer : length new ≡ length first.new + length it.new
    longer = length-append first.new it.new

    types_long : length next.body.types ≡ m + length first.new
    types_long = length-append w.body.types first.new

    written : each_given around (a ∷ args) (to ∷ es) w ≡ (y ∷ it.xs, writing (all_asked (pass_asks around.layout (a ∷ args) (to ∷ es)) w.found) (record { types = w.body.types ++ new; ops = w.body.ops ++ ops }))
    written =
        ap (λ (made : COperand × Writing). with_first made (λ next. each_given around args es next)) (made_is (given around a (type_of_element around.layout to) w) (all_asked asks w.found) (w.body.types ++ first.new) (w.body.ops ++ first.ops) first.asked first.types first.written)
        ∙ ap (λ (made : List COperand × Writing). (y ∷ made.0, made.1)) it.is
        ∙ ap (λ f. (y ∷ it.xs, writing f (record { types = (w.body.types ++ first.new) ++ it.new; ops = (w.body.ops ++ first.ops) ++ it.ops }))) (sym (asked_both asks (pass_asks around.layout args es) w.found))
        ∙ ap (λ ts. (y ∷ it.xs, writing (all_asked (pass_asks around.layout (a ∷ args) (to ∷ es)) w.found) (record { types = ts; ops = (w.body.ops ++ first.ops) ++ it.ops }))) (append_assoc w.body.types first.new it.new)
        ∙ ap (λ os. (y ∷ it.xs, writing (all_asked (pass_asks around.layout (a ∷ args) (to ∷ es)) w.found) (record { types = w.body.types ++ new; ops = os }))) (append_assoc w.body.ops first.ops it.ops)

    module _ (p : LlProgram) (numbers : Numbers) (raised : ℕ → Value) (arguments : List (List ℕ)) (rest : List LlOp) (e : LlExit) (frames : List Frame) (core : Core) (g : Ghost) (heap : Heap) (left : ℕ) (structs : HasLayout p around.layout)
        (stood : Stood around.layout known (Has p around.layout numbers raised) (pass_asks around.layout (a ∷ args) (to ∷ es)) w.found) (stands : Represents around.layout known g heap left core.blocks core.statics) (steps : left ≡ core.steps) (room : m + length new ≤ length core.vars) where
      abbrev Ends : List Meant → Type 0
      Ends vs = Moved around.layout known p arguments (At ((first.ops ++ it.ops) ++ rest) e frames core) rest e frames core g heap left m (items_of (to ∷ es)) (tuples_of (to ∷ es)) (λ ghost end. AllHold around.layout known ghost (to ∷ es) (operands end.vars (y ∷ it.xs)) vs)

      stood_first : Stood around.layout known (Has p around.layout numbers raised) asks w.found
      stood_first c h heap left r u = has_first (Has p around.layout numbers raised c) asks (pass_asks around.layout args es) w.found (stood c h heap left r u)

      stood_next : Stood around.layout known (Has p around.layout numbers raised) (pass_asks around.layout args es) next.found
      stood_next c h heap left r u = has_second (Has p around.layout numbers raised c) asks (pass_asks around.layout args es) w.found (stood c h heap left r u)

      follow : (vs : List Meant) → AllBelow m (a ∷ args) → Given known around g core (a ∷ args) vs → Ends vs
      follow [] below given = absurd given
      follow (v ∷ vs) below given =
          let one : Moved around.layout known p arguments (At (first.ops ++ (it.ops ++ rest)) e frames core) (it.ops ++ rest) e frames core g heap left m (items_in (Some to)) (tuples_in (Some to)) (λ ghost end. Holds around.layout known ghost (Some to) (operand end.vars y) v) =
          came_moved (first.follows p numbers raised arguments (it.ops ++ rest) e frames core g heap left v structs (stood_first core g heap left stands steps) stands steps (omega (arith, room, longer)) below.0 given.0) in
          let room_then = one.room in
          let others : Moved around.layout known p arguments (At (it.ops ++ rest) e frames one.end) rest e frames one.end one.ghost heap left (length next.body.types) (items_of es) (tuples_of es) (λ ghost end. AllHold around.layout known ghost es (operands end.vars it.xs) vs) =
          it.follows p numbers raised arguments rest e frames one.end one.ghost heap left vs structs stood_next one.stands (steps ∙ sym (ap (λ (k : Core). k.steps) one.memory)) (omega (arith, room, longer, types_long, room_then))
          (all_below_more m (length next.body.types) (omega (arith, types_long)) args below.1) (given_kept known around m core one.end one.grown one.others args vs below.1 given.1) in
          subst (λ os. Moved around.layout known p arguments (At os e frames core) rest e frames core g heap left m (items_of (to ∷ es)) (tuples_of (to ∷ es)) (λ ghost end. AllHold around.layout known ghost (to ∷ es) (operands end.vars (y ∷ it.xs)) (v ∷ vs))) (sym (append_assoc first.ops it.ops rest))
          (then_moved (omega (arith, types_long)) one others
          (Next (subst (λ x. Holds around.layout known others.ghost (Some to) x v) (sym (kept_operand (length next.body.types) one.end others.end others.others y (subst (λ n. IsBelow n y) (sym types_long) (first.under below.0)))) (holds_grows others.grown one.fine)) others.fine))

    pub more_passed : ArePassed known around (a ∷ args) (to ∷ es) w
    more_passed = record {
      xs = y ∷ it.xs;
      ops = ops;
      new = new;
      is = written;
      under = λ below. (is_below_more (m + length first.new) (m + length new) (omega (arith, longer)) y (first.under below.0), subst (λ n. AllUnder n it.xs) (omega (arith, longer, types_long)) (it.under (all_below_more m (length next.body.types) (omega (arith, types_long)) args below.1)));
      follows = λ p numbers raised arguments rest e frames core g heap left vs structs stood stands steps room below given. follow p numbers raised arguments rest e frames core g heap left structs stood stands steps room vs below given;
    }

none_passed : {known : Known} (around : Around) {m : ℕ} {p : LlProgram} {arguments : List (List ℕ)} {rest : List LlOp} {e : LlExit} {frames : List Frame} {core : Core} {g : Ghost} {heap : Heap} {left : ℕ} (vs : List Meant) → Represents around.layout known g heap left core.blocks core.statics → Given known around g core [] vs
    → Moved around.layout known p arguments (At rest e frames core) rest e frames core g heap left m 0 0 (λ ghost end. AllHold around.layout known ghost [] [] vs)
none_passed around [] stands there = here stands End
none_passed around (v ∷ vs) stands there = absurd there

pub operands_are_passed : OperandsArePassed
operands_are_passed known around [] [] w apart pass = record {
  xs = [];
  ops = [];
  new = [];
  is = ap (λ ts. ([], writing w.found (record { types = ts; ops = w.body.ops }))) (sym (append-nil w.body.types)) ∙ ap (λ os. ([], writing w.found (record { types = w.body.types ++ []; ops = os }))) (sym (append-nil w.body.ops));
  under = λ below. tt;
  follows = λ p numbers raised arguments rest e frames core g heap left vs structs stood stands steps room below given. none_passed around vs stands given;
}
operands_are_passed known around [] (e ∷ es) w apart pass = absurd pass
operands_are_passed known around (a ∷ args) [] w apart pass = absurd pass
operands_are_passed known around (a ∷ args) (to ∷ es) w apart pass = more_passed known around a args to es w pass.0 apart (operands_are_passed known around args es (next known around a args to es w pass.0 apart) apart pass.1)
