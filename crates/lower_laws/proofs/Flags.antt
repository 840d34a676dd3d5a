-- Truth values that a helper gives: they have variables of their own, and the place takes them, or their opposites.
use Rattle.std.proofs.Common.{◌≡◌, ◌<◌, ◌≤◌, ℕ, ◌+◌, Bool, true, List, [], ◌∷◌, ◌++◌, length, Option, Some, None, refl, sym, ap, ◌∙◌, subst, arith}
use Rattle.std.specs.Prelude.{not, option_map}
use Rattle.std.proofs.lemmas.List.{get_or-set_same, get_or-set_other, length-append, length-set}
use Rattle.csub_tree.specs.State.{Flag, Core}
use Rattle.csub_tree.specs.Operation.{unary_of}
use Rattle.csub_tree.specs.declared.tree.CUnary.TheVariants as unary
use Rattle.csub_tree.specs.declared.tree.COperand.{COperand}
use Rattle.csub_tree.specs.declared.tree.COperand.TheVariants.{Var}
use Rattle.rpy_tree.specs.Value.{Value as Meant, Flag as MeantFlag}
use Rattle.rpy_meaning.specs.declared.row.RowOp.{RowOp}
use Rattle.rpy_meaning.specs.Classes.{no_covers}
use Rattle.rpy_meaning.specs.Operations.{op as meant_op}
use Rattle.rpy_meaning.specs.Tree.{Program}
use Rattle.rpy_meaning.specs.World.{World, Answer, Gives, Throws, Fails, Lacks, Enters, Bad, flag_if_any}
use Rattle.ll_code.specs.State.{Frame, State, At}
use Rattle.ll_code.specs.declared.program.LlType.TheVariants as type
use Rattle.ll_code.specs.declared.program.LlOp.{LlOp}
use Rattle.ll_code.specs.declared.program.LlOp.TheVariants as op
use Rattle.ll_code.specs.declared.program.LlExit.{LlExit}
use Rattle.ll_code.specs.declared.program.LlProgram.{LlProgram}
use Rattle.ll_build.specs.declared.needs.Helper.{Helper}
use Rattle.ll_build.specs.declared.needs.Numbers.{Numbers}
use Rattle.ll_leads.specs.Path.{Leads}
use Rattle.ll_leads.proofs.Ways.{then, turns}
use Rattle.ll_texts.specs.Stands.{Stands, flag}
use Rattle.ll_strings.specs.Laws.{HasHelper}
use Rattle.rtyper_data.specs.Comparing.{opposite_if, opposite_of}
use Rattle.rtyper_data.specs.Converting.{helped as asks, give_made}
use Rattle.rtyper_data.specs.Finding.{helper_number}
use Rattle.rtyper_op.specs.Lowering.{lower_op}
use Rattle.rtyper_data.specs.Numbers.{give_unary}
use Rattle.rtyper_data.specs.Seen.{Around, Operand, Place, type_at, Writing, writing}
use Rattle.lower_laws.specs.Follows.{AllStand}
use Rattle.lower_laws.specs.Helped.{Called, Follows, IsHelped}
use Rattle.lower_laws.proofs.Calls.{called}
use Rattle.lower_laws.proofs.Doing.{after, flag_is, sets_place}
use Rattle.lower_laws.proofs.Helps.{Does}
use Rattle.lower_laws.proofs.Ordered.{two_more}
use Rattle.lower_laws.proofs.Single.{sets, gives_flag}

-- the answer is the opposite truth value
abbrev pub reversed : Answer → Answer
reversed (Gives (MeantFlag b) w) = Gives (MeantFlag (not b)) w
reversed other = other

pub opposite_is_reversed : (t : Option Bool) (w : World) → flag_if_any (option_map not t) w ≡ reversed (flag_if_any t w)
opposite_is_reversed None w = refl
opposite_is_reversed (Some b) w = refl

-- ---- one more operation behind a call that gave a truth value

module _ (p : LlProgram) (args : List (List ℕ)) (s : State) (rest : List LlOp) (e : LlExit) (frames : List Frame) (core : Core) (below : ℕ) (w : World) (n m : ℕ) (fresh : below ≤ n) (room : m < length core.vars) where
  more : {o : LlOp} {v : Meant} {w' : World} (c : Called p args s (o ∷ rest) e frames core type.Bool n below w v w') (b : Bool) → Leads p args 0 (At (o ∷ rest) e frames c.end) [] (At rest e frames (after c.end m (Flag b))) → Called p args s rest e frames core type.Bool m below w (MeantFlag b) w'
  more c b l = record {
    end = after c.end m (Flag b);
    text = c.text;
    leads = then c.leads l;
    texts = c.texts;
    few = c.few;
    memory = c.memory;
    stands = subst (λ x. Stands c.end.blocks c.end.statics type.Bool x (MeantFlag b)) (sym (get_or-set_same c.end.vars m (Flag b) _ (let r : length c.end.vars ≡ length core.vars = c.room in omega (arith, r, room)))) (flag b);
    others = λ k under other. get_or-set_other c.end.vars m k (Flag b) _ other ∙ c.others k under (λ same. absurd (omega (arith, under, fresh, same)));
    room = length-set c.end.vars m (Flag b) ∙ c.room;
    function = c.function;
    block = c.block;
    out = c.out;
    heap = c.heap;
  }

  -- it is set where it goes
  pub set_behind : (answer : Answer) → Follows p args s (op.Set m (Var n) ∷ rest) e frames core type.Bool n below w answer → Follows p args s rest e frames core type.Bool m below w answer
  set_behind (Gives v w') c =
      let x = flag_is refl c.stands in
      subst (λ v. Called p args s rest e frames core type.Bool m below w v w') (sym x.high) (more c x.truth (sets (Flag x.truth) x.low refl))
  set_behind (Throws exception w') c = c
  set_behind (Fails name) c = c
  set_behind Lacks c = c
  set_behind (Enters function values instead w') c = c
  set_behind Bad c = tt

  -- its opposite is
  pub not_behind : (answer : Answer) → Follows p args s (op.Unary m unary.Not (Var n) ∷ rest) e frames core type.Bool n below w answer → Follows p args s rest e frames core type.Bool m below w (reversed answer)
  not_behind (Gives v w') c =
      let x = flag_is refl c.stands in
      subst (λ v. Follows p args s rest e frames core type.Bool m below w (reversed (Gives v w'))) (sym x.high) (more c (not x.truth) (turns (Flag (not x.truth)) (ap (unary_of unary.Not) x.low)))
  not_behind (Throws exception w') c = c
  not_behind (Fails name) c = c
  not_behind Lacks c = c
  not_behind (Enters function values instead w') c = c
  not_behind Bad c = tt

-- ---- what is written

module _ (around : Around) (place : Place) (h : Helper) (xs : List COperand) (w : Writing) where
  -- the variable of the helper's result, and that of its opposite
  abbrev first : ℕ
  first = length w.body.types

  abbrev second : ℕ
  second = length (w.body.types ++ type.Bool ∷ [])

  second_is : second ≡ first + 1
  second_is = length-append w.body.types (type.Bool ∷ [])

  abbrev call : LlOp
  call = op.Call (Some first) (helper_number h w.found).0 xs

  abbrev Straight : Writing
  Straight = writing (helper_number h w.found).1 (record { types = w.body.types ++ type.Bool ∷ []; ops = (w.body.ops ++ call ∷ []) ++ op.Set place.variable (Var first) ∷ [] })

  abbrev Turned : Writing
  Turned = writing (helper_number h w.found).1 (record { types = (w.body.types ++ type.Bool ∷ []) ++ type.Bool ∷ []; ops = ((w.body.ops ++ call ∷ []) ++ op.Unary second unary.Not (Var first) ∷ []) ++ op.Set place.variable (Var second) ∷ [] })

  abbrev TurnedHere : Writing
  TurnedHere = writing (helper_number h w.found).1 (record { types = w.body.types ++ type.Bool ∷ []; ops = (w.body.ops ++ call ∷ []) ++ op.Unary place.variable unary.Not (Var first) ∷ [] })

  pub straight_is : type_at around place ≡ type.Bool → give_made around place type.Bool (asks h type.Bool xs w) ≡ Straight
  unfolding asks
  straight_is ht = gives_flag around place (Var first) (writing (helper_number h w.found).1 (record { types = w.body.types ++ type.Bool ∷ []; ops = w.body.ops ++ call ∷ [] })) ht

  pub turned_is : type_at around place ≡ type.Bool → give_made around place type.Bool (opposite_of true (asks h type.Bool xs w)) ≡ Turned
  unfolding asks opposite_if
  turned_is ht = gives_flag around place (Var second) (writing (helper_number h w.found).1 (record { types = (w.body.types ++ type.Bool ∷ []) ++ type.Bool ∷ []; ops = (w.body.ops ++ call ∷ []) ++ op.Unary second unary.Not (Var first) ∷ [] })) ht

  pub turned_here_is : type_at around place ≡ type.Bool → give_unary around place unary.Not type.Bool (asks h type.Bool xs w).0 (asks h type.Bool xs w).1 ≡ TurnedHere
  unfolding asks give_unary
  turned_here_is ht = sets_place around place type.Bool (λ v. op.Unary v unary.Not (Var first)) (writing (helper_number h w.found).1 (record { types = w.body.types ++ type.Bool ∷ []; ops = w.body.ops ++ call ∷ [] })) ht

pub three_more : {A : Type 0} (xs : List A) (x y z : A) → ((xs ++ x ∷ []) ++ y ∷ []) ++ z ∷ [] ≡ xs ++ x ∷ y ∷ z ∷ []
three_more [] x y z = refl
three_more (a ∷ xs) x y z = ap (λ ys. a ∷ ys) (three_more xs x y z)

-- ---- followed

-- what the helper's call leads to, by a variable of its own
asked_for : {around : Around} {h : Helper} {args : List Operand} {xs : List COperand} {via : RowOp} → Does around via h type.Bool args xs → (place : Place) (w : Writing) (program : Program) (p : LlProgram) (numbers : Numbers) (arguments : List (List ℕ)) (rest : List LlOp) (e : LlExit) (frames : List Frame) (core : Core) (world : World) (vs : List Meant)
    → HasHelper p numbers h (helper_number h w.found).0 core → world.left ≡ core.steps → length w.body.types < length core.vars → AllStand around core args vs
    → Follows p arguments (At (call around place h xs w ∷ rest) e frames core) rest e frames core type.Bool (length w.body.types) (length w.body.types) world (meant_op program no_covers via vs world)
asked_for {h = h} {xs = xs} {via = via} d place w program p numbers arguments rest e frames core world vs has left room st =
    called p arguments rest e frames core (length w.body.types) (helper_number h w.found).0 xs type.Bool (length w.body.types) world (meant_op program no_covers via vs world) room (d.set core vs st)
    (λ waits. d.does program p numbers arguments (helper_number h w.found).0 waits core world vs has left st)

module _ {around : Around} {o : RowOp} {h : Helper} {place : Place} {args : List Operand} {w : Writing} {xs : List COperand} where
  pub straight : Does around o h type.Bool args xs → lower_op around o place args w ≡ Straight around place h xs w → type_at around place ≡ type.Bool → IsHelped around o h place args w
  straight d l ht = record {
    ops = call around place h xs w ∷ op.Set place.variable (Var (length w.body.types)) ∷ [];
    new = type.Bool ∷ [];
    asked = ap (λ (r : Writing). r.found) l;
    written = ap (λ (r : Writing). r.body.ops) l ∙ two_more w.body.ops (call around place h xs w) (op.Set place.variable (Var (length w.body.types)));
    types = ap (λ (r : Writing). r.body.types) l;
    follows = λ program p numbers arguments rest e frames core world vs has left room inside st.
        subst (λ t. Follows p arguments (At (call around place h xs w ∷ op.Set place.variable (Var (length w.body.types)) ∷ rest) e frames core) rest e frames core t place.variable (length w.body.types) world (meant_op program no_covers o vs world)) (sym ht)
        (set_behind p arguments (At (call around place h xs w ∷ op.Set place.variable (Var (length w.body.types)) ∷ rest) e frames core) rest e frames core (length w.body.types) world (length w.body.types) place.variable (omega arith) (omega (arith, room, inside)) (meant_op program no_covers o vs world)
        (asked_for d place w program p numbers arguments (op.Set place.variable (Var (length w.body.types)) ∷ rest) e frames core world vs has left (omega (arith, room)) st));
  }

  -- the opposite of what the helper gives
  module _ {via : RowOp} (d : Does around via h type.Bool args xs) (r : (program : Program) (core : Core) (world : World) (vs : List Meant) → AllStand around core args vs → meant_op program no_covers o vs world ≡ reversed (meant_op program no_covers via vs world)) where
    pub turned : lower_op around o place args w ≡ Turned around place h xs w → type_at around place ≡ type.Bool → IsHelped around o h place args w
    turned l ht = record {
      ops = call around place h xs w ∷ op.Unary (second around place h xs w) unary.Not (Var (length w.body.types)) ∷ op.Set place.variable (Var (second around place h xs w)) ∷ [];
      new = type.Bool ∷ type.Bool ∷ [];
      asked = ap (λ (r : Writing). r.found) l;
      written = ap (λ (r : Writing). r.body.ops) l ∙ three_more w.body.ops (call around place h xs w) (op.Unary (second around place h xs w) unary.Not (Var (length w.body.types))) (op.Set place.variable (Var (second around place h xs w)));
      types = ap (λ (r : Writing). r.body.types) l ∙ two_more w.body.types type.Bool type.Bool;
      follows = λ program p numbers arguments rest e frames core world vs has left room inside st.
          let k : second around place h xs w ≡ length w.body.types + 1 = second_is around place h xs w in
          subst (λ t. Follows p arguments (At (call around place h xs w ∷ op.Unary (second around place h xs w) unary.Not (Var (length w.body.types)) ∷ op.Set place.variable (Var (second around place h xs w)) ∷ rest) e frames core) rest e frames core t place.variable (length w.body.types) world (meant_op program no_covers o vs world)) (sym ht)
          (subst (λ answer. Follows p arguments (At (call around place h xs w ∷ op.Unary (second around place h xs w) unary.Not (Var (length w.body.types)) ∷ op.Set place.variable (Var (second around place h xs w)) ∷ rest) e frames core) rest e frames core type.Bool place.variable (length w.body.types) world answer) (sym (r program core world vs st))
          (set_behind p arguments (At (call around place h xs w ∷ op.Unary (second around place h xs w) unary.Not (Var (length w.body.types)) ∷ op.Set place.variable (Var (second around place h xs w)) ∷ rest) e frames core) rest e frames core (length w.body.types) world (second around place h xs w) place.variable (omega (arith, k)) (omega (arith, room, inside)) (reversed (meant_op program no_covers via vs world))
          (not_behind p arguments (At (call around place h xs w ∷ op.Unary (second around place h xs w) unary.Not (Var (length w.body.types)) ∷ op.Set place.variable (Var (second around place h xs w)) ∷ rest) e frames core) (op.Set place.variable (Var (second around place h xs w)) ∷ rest) e frames core (length w.body.types) world (length w.body.types) (second around place h xs w) (omega arith) (omega (arith, room, k)) (meant_op program no_covers via vs world)
          (asked_for d place w program p numbers arguments (op.Unary (second around place h xs w) unary.Not (Var (length w.body.types)) ∷ op.Set place.variable (Var (second around place h xs w)) ∷ rest) e frames core world vs has left (omega (arith, room)) st))));
    }

    pub turned_here : lower_op around o place args w ≡ TurnedHere around place h xs w → type_at around place ≡ type.Bool → IsHelped around o h place args w
    turned_here l ht = record {
      ops = call around place h xs w ∷ op.Unary place.variable unary.Not (Var (length w.body.types)) ∷ [];
      new = type.Bool ∷ [];
      asked = ap (λ (r : Writing). r.found) l;
      written = ap (λ (r : Writing). r.body.ops) l ∙ two_more w.body.ops (call around place h xs w) (op.Unary place.variable unary.Not (Var (length w.body.types)));
      types = ap (λ (r : Writing). r.body.types) l;
      follows = λ program p numbers arguments rest e frames core world vs has left room inside st.
          subst (λ t. Follows p arguments (At (call around place h xs w ∷ op.Unary place.variable unary.Not (Var (length w.body.types)) ∷ rest) e frames core) rest e frames core t place.variable (length w.body.types) world (meant_op program no_covers o vs world)) (sym ht)
          (subst (λ answer. Follows p arguments (At (call around place h xs w ∷ op.Unary place.variable unary.Not (Var (length w.body.types)) ∷ rest) e frames core) rest e frames core type.Bool place.variable (length w.body.types) world answer) (sym (r program core world vs st))
          (not_behind p arguments (At (call around place h xs w ∷ op.Unary place.variable unary.Not (Var (length w.body.types)) ∷ rest) e frames core) rest e frames core (length w.body.types) world (length w.body.types) place.variable (omega arith) (omega (arith, room, inside)) (meant_op program no_covers via vs world)
          (asked_for d place w program p numbers arguments (op.Unary place.variable unary.Not (Var (length w.body.types)) ∷ rest) e frames core world vs has left (omega (arith, room)) st)));
    }
