-- Operations on one, two or three operands that are lowered to one call of a helper.
use Rattle.std.proofs.Common.{◌≡◌, ◌<◌, ◌≤◌, ℕ, ◌+◌, false, List, [], ◌∷◌, length, Option, Some, refl, sym, ap, ◌∙◌, subst, arith}
use Rattle.std.specs.Prelude.{◌||◌, if◌then◌else◌}
use Rattle.std.proofs.lemmas.List.{append-nil}
use Rattle.csub_tree.specs.State.{Value, Block, Core}
use Rattle.csub_tree.specs.Operation.{is_unset}
use Rattle.csub_tree.specs.Statement.{operand, operands, any_unset}
use Rattle.csub_tree.specs.declared.tree.COperand.{COperand}
use Rattle.csub_tree.specs.declared.tree.COperand.TheVariants.{Var}
use Rattle.rpy_tree.specs.Value.{Value as Meant}
use Rattle.rpy_meaning.specs.declared.row.RowOp.{RowOp}
use Rattle.rpy_meaning.specs.Classes.{no_covers}
use Rattle.rpy_meaning.specs.Operations.{op as meant_op}
use Rattle.rpy_meaning.specs.Tree.{Program}
use Rattle.rpy_meaning.specs.World.{World}
use Rattle.ll_code.specs.State.{Frame, Calling, At}
use Rattle.ll_code.specs.declared.program.LlType.{LlType}
use Rattle.ll_code.specs.declared.program.LlType.TheVariants as type
use Rattle.ll_code.specs.declared.program.LlOp.{LlOp}
use Rattle.ll_code.specs.declared.program.LlOp.TheVariants as op
use Rattle.ll_code.specs.declared.program.LlExit.{LlExit}
use Rattle.ll_code.specs.declared.program.LlProgram.{LlProgram}
use Rattle.ll_build.specs.declared.needs.Helper.{Helper}
use Rattle.ll_build.specs.declared.needs.Numbers.{Numbers}
use Rattle.ll_texts.specs.Stands.{Stands, word, flag, byte, text, missing, nothing}
use Rattle.ll_texts.specs.Follows.{Follows as HelperFollows}
use Rattle.ll_texts.proofs.Reading.{is_set}
use Rattle.ll_strings.specs.Laws.{HasHelper, Is, IsTwo}
use Rattle.rtyper_data.specs.declared.body.Body.{Body}
use Rattle.rtyper_data.specs.declared.found.Found.{Found}
use Rattle.rtyper_data.specs.Converting.{landing, landed, give, give_helped, value_as}
use Rattle.rtyper_data.specs.Finding.{same_type, helper_number}
use Rattle.rtyper_op.specs.Lowering.{lower_op}
use Rattle.rtyper_data.specs.Seen.{Around, Operand, Place, type_of, type_at, with_op, fresh, Writing, writing}
use Rattle.rtyper_op.specs.Texts.{of_text, of_texts, of_text_and_word, text_type}
use Rattle.lower_laws.specs.Follows.{AllStand}
use Rattle.lower_laws.specs.Helped.{Follows, IsHelped}
use Rattle.lower_laws.proofs.Calls.{called}
use Rattle.lower_laws.proofs.Doing.{same_type_is, place_is}

-- ---- operands

-- what stands for a value is set
pub stands_set : {blocks : List (Option Block)} {statics : List Block} {t : LlType} {x : Value} {v : Meant} → (t ≡ type.Void → ⊥) → Stands blocks statics t x v → is_unset x ≡ false
stands_set n (word z f) = refl
stands_set n (flag b) = refl
stands_set n (byte b l) = refl
stands_set n (text x bytes t) = is_set t
stands_set n missing = refl
stands_set n nothing = absurd (n refl)

-- ---- where the result goes

lands_place : (around : Around) (place : Place) (gives : LlType) (o : ℕ → LlOp) (found : Found) (body : Body) → type_at around place ≡ gives → landed around place gives o found (landing around place gives body) ≡ writing found (with_op (o place.variable) body)
lands_place around place gives o found body h =
    ap (λ t. landed around place gives o found (if same_type t gives then (place.variable, body) else fresh gives body)) h
    ∙ ap (λ b. landed around place gives o found (if b then (place.variable, body) else fresh gives body)) (same_type_is gives)
    ∙ ap (λ b. if b then writing found (with_op (o place.variable) body) else give around place (Var place.variable) gives (writing found (with_op (o place.variable) body))) (place_is place.variable)

pub gives_helped : (around : Around) (place : Place) (h : Helper) (gives : LlType) (xs : List COperand) (w : Writing) → type_at around place ≡ gives
    → give_helped around place h gives xs w ≡ writing (helper_number h w.found).1 (with_op (op.Call (Some place.variable) (helper_number h w.found).0 xs) w.body)
unfolding give_helped
gives_helped around place h gives xs w ht = lands_place around place gives (λ v. op.Call (Some v) (helper_number h w.found).0 xs) (helper_number h w.found).1 w.body ht

-- ---- one call

-- the operands are set, and the helper, wherever it stands, is the operation
pub record Does (around : Around) (o : RowOp) (h : Helper) (gives : LlType) (args : List Operand) (xs : List COperand) : Type 0 where
  pub set : (core : Core) (vs : List Meant) → AllStand around core args vs → any_unset (operands core.vars xs) ≡ false
  pub does : (program : Program) (p : LlProgram) (numbers : Numbers) (arguments : List (List ℕ)) (f : ℕ) (waits : List Frame) (core : Core) (world : World) (vs : List Meant)
      → HasHelper p numbers h f core → world.left ≡ core.steps → AllStand around core args vs
      → HelperFollows p arguments (Calling f (operands core.vars xs) waits core) waits core gives world (meant_op program no_covers o vs world)

pub helped : {around : Around} {o : RowOp} {h : Helper} {place : Place} {args : List Operand} {w : Writing} {gives : LlType} {xs : List COperand} → Does around o h gives args xs
    → lower_op around o place args w ≡ give_helped around place h gives xs w → type_at around place ≡ gives → IsHelped around o h place args w
helped {around = around} {o = o} {h = h} {place = place} {args = args} {w = w} {gives = gives} {xs = xs} d l ht = record {
  ops = one ∷ [];
  new = [];
  asked = ap (λ (r : Writing). r.found) as_call;
  written = ap (λ (r : Writing). r.body.ops) as_call;
  types = ap (λ (r : Writing). r.body.types) as_call ∙ sym (append-nil w.body.types);
  follows = follow;
}
  where
    one : LlOp
    one = op.Call (Some place.variable) (helper_number h w.found).0 xs

    as_call : lower_op around o place args w ≡ writing (helper_number h w.found).1 (with_op one w.body)
    as_call = l ∙ gives_helped around place h gives xs w ht

    follow : (program : Program) (p : LlProgram) (numbers : Numbers) (arguments : List (List ℕ)) (rest : List LlOp) (e : LlExit) (frames : List Frame) (core : Core) (world : World) (vs : List Meant)
        → HasHelper p numbers h (helper_number h w.found).0 core → world.left ≡ core.steps → length w.body.types + 0 ≤ length core.vars → place.variable < length w.body.types → AllStand around core args vs
        → Follows p arguments (At (one ∷ rest) e frames core) rest e frames core (type_at around place) place.variable (length w.body.types) world (meant_op program no_covers o vs world)
    follow program p numbers arguments rest e frames core world vs has left room inside st =
        subst (λ t. Follows p arguments (At (one ∷ rest) e frames core) rest e frames core t place.variable (length w.body.types) world (meant_op program no_covers o vs world)) (sym ht)
        (called p arguments rest e frames core place.variable (helper_number h w.found).0 xs gives (length w.body.types) world (meant_op program no_covers o vs world) (omega (arith, room, inside)) (d.set core vs st)
        (λ waits. d.does program p numbers arguments (helper_number h w.found).0 waits core world vs has left st))

-- ---- by the number of operands

pub does_one : {around : Around} {o : RowOp} {h : Helper} {takes gives : LlType} {a : Operand} → (takes ≡ type.Void → ⊥) → Is h takes gives o → type_of around a ≡ takes → Does around o h gives (a ∷ []) (a.x ∷ [])
does_one {around = around} {o = o} {h = h} {takes = takes} {gives = gives} {a = a} n law ta = record { set = set; does = does }
  where
    set : (core : Core) (vs : List Meant) → AllStand around core (a ∷ []) vs → any_unset (operands core.vars (a.x ∷ [])) ≡ false
    set core [] st = absurd st
    set core (v ∷ []) st = ap (λ b. b || false) (stands_set n (subst (λ t. Stands core.blocks core.statics t (operand core.vars a.x) v) ta st.0))
    set core (v ∷ u ∷ vs) st = absurd st.1

    does : (program : Program) (p : LlProgram) (numbers : Numbers) (arguments : List (List ℕ)) (f : ℕ) (waits : List Frame) (core : Core) (world : World) (vs : List Meant)
        → HasHelper p numbers h f core → world.left ≡ core.steps → AllStand around core (a ∷ []) vs
        → HelperFollows p arguments (Calling f (operands core.vars (a.x ∷ [])) waits core) waits core gives world (meant_op program no_covers o vs world)
    does program p numbers arguments f waits core world [] has left st = absurd st
    does program p numbers arguments f waits core world (v ∷ []) has left st =
        law program p arguments numbers f waits core world has left (operand core.vars a.x) v (subst (λ t. Stands core.blocks core.statics t (operand core.vars a.x) v) ta st.0)
    does program p numbers arguments f waits core world (v ∷ u ∷ vs) has left st = absurd st.1

pub does_two : {around : Around} {o : RowOp} {h : Helper} {takes also gives : LlType} {a b : Operand} → (takes ≡ type.Void → ⊥) → (also ≡ type.Void → ⊥) → IsTwo h takes also gives o → type_of around a ≡ takes → type_of around b ≡ also
    → Does around o h gives (a ∷ b ∷ []) (a.x ∷ b.x ∷ [])
does_two {around = around} {o = o} {h = h} {takes = takes} {also = also} {gives = gives} {a = a} {b = b} n m law ta tb = record { set = set; does = does }
  where
    first : (core : Core) (v : Meant) → Stands core.blocks core.statics (type_of around a) (operand core.vars a.x) v → Stands core.blocks core.statics takes (operand core.vars a.x) v
    first core v st = subst (λ t. Stands core.blocks core.statics t (operand core.vars a.x) v) ta st

    second : (core : Core) (v : Meant) → Stands core.blocks core.statics (type_of around b) (operand core.vars b.x) v → Stands core.blocks core.statics also (operand core.vars b.x) v
    second core v st = subst (λ t. Stands core.blocks core.statics t (operand core.vars b.x) v) tb st

    set : (core : Core) (vs : List Meant) → AllStand around core (a ∷ b ∷ []) vs → any_unset (operands core.vars (a.x ∷ b.x ∷ [])) ≡ false
    set core [] st = absurd st
    set core (v ∷ []) st = absurd st.1
    set core (v ∷ u ∷ []) st = ap (λ c. c || (is_unset (operand core.vars b.x) || false)) (stands_set n (first core v st.0)) ∙ ap (λ c. c || false) (stands_set m (second core u st.1.0))
    set core (v ∷ u ∷ s ∷ vs) st = absurd st.1.1

    does : (program : Program) (p : LlProgram) (numbers : Numbers) (arguments : List (List ℕ)) (f : ℕ) (waits : List Frame) (core : Core) (world : World) (vs : List Meant)
        → HasHelper p numbers h f core → world.left ≡ core.steps → AllStand around core (a ∷ b ∷ []) vs
        → HelperFollows p arguments (Calling f (operands core.vars (a.x ∷ b.x ∷ [])) waits core) waits core gives world (meant_op program no_covers o vs world)
    does program p numbers arguments f waits core world [] has left st = absurd st
    does program p numbers arguments f waits core world (v ∷ []) has left st = absurd st.1
    does program p numbers arguments f waits core world (v ∷ u ∷ []) has left st =
        law program p arguments numbers f waits core world has left (operand core.vars a.x) (operand core.vars b.x) v u (first core v st.0) (second core u st.1.0)
    does program p numbers arguments f waits core world (v ∷ u ∷ s ∷ vs) has left st = absurd st.1.1

-- ---- operands of strings, which are the values that the helper takes

pub of_text_is : (around : Around) (place : Place) (h : Helper) (gives : LlType) (a : Operand) (w : Writing) → type_of around a ≡ type.Ptr 0 → of_text around place h gives a w ≡ give_helped around place h gives (a.x ∷ []) w
unfolding of_text value_as
of_text_is around place h gives a w ta = ap (λ t. give_helped around place h gives ((value_as around.layout a.x t text_type w).0 ∷ []) (value_as around.layout a.x t text_type w).1) ta

pub of_texts_is : (around : Around) (place : Place) (h : Helper) (gives : LlType) (a b : Operand) (w : Writing) → type_of around a ≡ type.Ptr 0 → type_of around b ≡ type.Ptr 0 → of_texts around place h gives a b w ≡ give_helped around place h gives (a.x ∷ b.x ∷ []) w
unfolding of_texts value_as
of_texts_is around place h gives a b w ta tb =
    ap (λ t. give_helped around place h gives ((value_as around.layout a.x t text_type w).0 ∷ (value_as around.layout b.x (type_of around b) text_type (value_as around.layout a.x t text_type w).1).0 ∷ []) (value_as around.layout b.x (type_of around b) text_type (value_as around.layout a.x t text_type w).1).1) ta
    ∙ ap (λ t. give_helped around place h gives (a.x ∷ (value_as around.layout b.x t text_type w).0 ∷ []) (value_as around.layout b.x t text_type w).1) tb

pub of_text_and_word_is : (around : Around) (place : Place) (h : Helper) (gives : LlType) (a b : Operand) (w : Writing) → type_of around a ≡ type.Ptr 0 → of_text_and_word around place h gives a b w ≡ give_helped around place h gives (a.x ∷ b.x ∷ []) w
unfolding of_text_and_word value_as
of_text_and_word_is around place h gives a b w ta = ap (λ t. give_helped around place h gives ((value_as around.layout a.x t text_type w).0 ∷ b.x ∷ []) (value_as around.layout a.x t text_type w).1) ta
