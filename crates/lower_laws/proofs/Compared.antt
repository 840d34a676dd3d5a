-- Comparisons of strings, whether one is a part of another, and the truth of one.
use Rattle.std.proofs.Common.{◌≡◌, ℕ, ◌⊎◌, inl, inr, true, false, List, [], ◌∷◌, Option, refl, sym, ap, ◌∙◌, subst}
use Rattle.std.specs.Prelude.{◌||◌}
use Rattle.rpy_tree.specs.declared.syntax.CmpOp.{CmpOp}
use Rattle.rpy_tree.specs.declared.syntax.CmpOp.TheVariants as compared
use Rattle.rpy_tree.specs.Value.{Value as Meant, Text, Nothing}
use Rattle.rpy_meaning.specs.declared.row.RowOp.TheVariants as row
use Rattle.rpy_meaning.specs.Classes.{no_covers}
use Rattle.rpy_meaning.specs.Compare.{equal as meant_equal, less as meant_less}
use Rattle.rpy_meaning.specs.Operations.{op as meant_op, truth_in}
use Rattle.rpy_meaning.specs.Tree.{Program}
use Rattle.rpy_meaning.specs.World.{World}
use Rattle.csub_tree.specs.State.{Value, Block, Core}
use Rattle.csub_tree.specs.Operation.{is_unset}
use Rattle.csub_tree.specs.Statement.{operand, operands, any_unset}
use Rattle.ll_code.specs.State.{Frame, Calling}
use Rattle.ll_code.specs.declared.program.LlType.{LlType}
use Rattle.ll_code.specs.declared.program.LlType.TheVariants as type
use Rattle.ll_code.specs.declared.program.LlProgram.{LlProgram}
use Rattle.ll_build.specs.declared.needs.Helper.TheVariants as helper
use Rattle.ll_build.specs.declared.needs.Numbers.{Numbers}
use Rattle.ll_texts.specs.Stands.{Stands, text, missing}
use Rattle.ll_texts.specs.Follows.{Follows as HelperFollows}
use Rattle.ll_strings.specs.Laws.{HasHelper}
use Rattle.ll_strings.proofs.Asking.{truth_is}
use Rattle.ll_strings.proofs.Equal.{equal_is}
use Rattle.ll_strings.proofs.Finding.{contains_is}
use Rattle.ll_strings.proofs.Ordered.{less_is}
use Rattle.csub_tree.specs.declared.tree.COperand.{COperand}
use Rattle.rtyper_layout.specs.declared.kind.Kind.TheVariants as kind
use Rattle.rtyper_data.specs.Comparing.{compare, equal, opposite_if, opposite_of, ordered, ordered_by, texts_less_by, within, within_by}
use Rattle.rtyper_data.specs.Converting.{give_made, helped as asks, value_as}
use Rattle.rtyper_op.specs.Lowering.{of_some, of_one, of_two}
use Rattle.rtyper_data.specs.Seen.{Around, Operand, Place, type_of, kind_of, Writing}
use Rattle.rtyper_op.specs.Texts.{truth_of, truth_by, tested_to}
use Rattle.lower_laws.specs.Follows.{AllStand}
use Rattle.lower_laws.specs.Helped.{IsString, IsText, OnOne, OnTwo}
use Rattle.lower_laws.proofs.Coming.{one_comes, two_come, string_comes, text_comes, of_text_kind}
use Rattle.lower_laws.proofs.Flags.{reversed, opposite_is_reversed, straight, straight_is, turned, turned_is, turned_here, turned_here_is}
use Rattle.lower_laws.proofs.Helps.{Does, does_one, does_two, stands_set}

-- ---- opposites

unequal_is : (program : Program) (w : World) (vs : List Meant) → meant_op program no_covers (row.Compare compared.Ne) vs w ≡ reversed (meant_op program no_covers (row.Compare compared.Eq) vs w)
unequal_is program w [] = refl
unequal_is program w (v ∷ []) = refl
unequal_is program w (v ∷ u ∷ []) = opposite_is_reversed (meant_equal v u) w
unequal_is program w (v ∷ u ∷ s ∷ vs) = refl

at_most_is : (program : Program) (w : World) (vs : List Meant) → meant_op program no_covers (row.Compare compared.Le) vs w ≡ reversed (meant_op program no_covers (row.Compare compared.Gt) vs w)
at_most_is program w [] = refl
at_most_is program w (v ∷ []) = refl
at_most_is program w (v ∷ u ∷ []) = opposite_is_reversed (meant_less u v) w
at_most_is program w (v ∷ u ∷ s ∷ vs) = refl

at_least_is : (program : Program) (w : World) (vs : List Meant) → meant_op program no_covers (row.Compare compared.Ge) vs w ≡ reversed (meant_op program no_covers (row.Compare compared.Lt) vs w)
at_least_is program w [] = refl
at_least_is program w (v ∷ []) = refl
at_least_is program w (v ∷ u ∷ []) = opposite_is_reversed (meant_less v u) w
at_least_is program w (v ∷ u ∷ s ∷ vs) = refl

untrue_is : (program : Program) (w : World) (vs : List Meant) → meant_op program no_covers row.Not vs w ≡ reversed (meant_op program no_covers row.Truth vs w)
untrue_is program w [] = refl
untrue_is program w (v ∷ []) = opposite_is_reversed (truth_in w v) w
untrue_is program w (v ∷ u ∷ vs) = refl

-- ---- equality

equal_does : (around : Around) (a b : Operand) → IsText around a → IsText around b → Does around (row.Compare compared.Eq) helper.StrEqual type.Bool (a ∷ b ∷ []) (a.x ∷ b.x ∷ [])
equal_does around a b ha hb = does_two (λ e. absurd (cc)) (λ e. absurd (cc)) equal_is ha.type hb.type

pub equal_is_helped : OnTwo IsText IsText helper.StrEqual (row.Compare compared.Eq) type.Bool
unfolding of_some of_two compare equal opposite_if
equal_is_helped around place a b w ha hb ht =
    straight (equal_does around a b ha hb)
    (two_come around (row.Compare compared.Eq) place a b w (text_comes ha) (text_comes hb)
    ∙ ap (λ t. give_made around place type.Bool (opposite_of false (equal around.layout a.x t b.x (type_of around b) w))) ha.type
    ∙ ap (λ t. give_made around place type.Bool (opposite_of false (equal around.layout a.x (type.Ptr 0) b.x t w))) hb.type
    ∙ straight_is around place helper.StrEqual (a.x ∷ b.x ∷ []) w ht) ht

pub unequal_is_helped : OnTwo IsText IsText helper.StrEqual (row.Compare compared.Ne) type.Bool
unfolding of_some of_two compare equal
unequal_is_helped around place a b w ha hb ht =
    turned (equal_does around a b ha hb) (λ program core world vs st. unequal_is program world vs)
    (two_come around (row.Compare compared.Ne) place a b w (text_comes ha) (text_comes hb)
    ∙ ap (λ t. give_made around place type.Bool (opposite_of true (equal around.layout a.x t b.x (type_of around b) w))) ha.type
    ∙ ap (λ t. give_made around place type.Bool (opposite_of true (equal around.layout a.x (type.Ptr 0) b.x t w))) hb.type
    ∙ turned_is around place helper.StrEqual (a.x ∷ b.x ∷ []) w ht) ht

-- ---- order

less_does : (around : Around) (a b : Operand) → IsString around a → IsString around b → Does around (row.Compare compared.Lt) helper.StrLess type.Bool (a ∷ b ∷ []) (a.x ∷ b.x ∷ [])
less_does around a b ha hb = does_two (λ e. absurd (cc)) (λ e. absurd (cc)) less_is ha.type hb.type

-- the other way round
greater_does : (around : Around) (a b : Operand) → IsString around a → IsString around b → Does around (row.Compare compared.Gt) helper.StrLess type.Bool (a ∷ b ∷ []) (b.x ∷ a.x ∷ [])
greater_does around a b ha hb = record { set = set; does = does }
  where
    as_text : (core : Core) (x : COperand) (v : Meant) (t : LlType) → t ≡ type.Ptr 0 → Stands core.blocks core.statics t (operand core.vars x) v → Stands core.blocks core.statics (type.Ptr 0) (operand core.vars x) v
    as_text core x v t e st = subst (λ t. Stands core.blocks core.statics t (operand core.vars x) v) e st

    is_there : (core : Core) (x : COperand) (v : Meant) → Stands core.blocks core.statics (type.Ptr 0) (operand core.vars x) v → is_unset (operand core.vars x) ≡ false
    is_there core x v st = stands_set (λ e. absurd (cc)) st

    set : (core : Core) (vs : List Meant) → AllStand around core (a ∷ b ∷ []) vs → any_unset (operands core.vars (b.x ∷ a.x ∷ [])) ≡ false
    set core [] st = absurd st
    set core (v ∷ []) st = absurd st.1
    set core (v ∷ u ∷ []) st =
        ap (λ c. c || (is_unset (operand core.vars a.x) || false)) (is_there core b.x u (as_text core b.x u (type_of around b) hb.type st.1.0))
        ∙ ap (λ c. c || false) (is_there core a.x v (as_text core a.x v (type_of around a) ha.type st.0))
    set core (v ∷ u ∷ s ∷ vs) st = absurd st.1.1

    does : (program : Program) (p : LlProgram) (numbers : Numbers) (arguments : List (List ℕ)) (f : ℕ) (waits : List Frame) (core : Core) (world : World) (vs : List Meant)
        → HasHelper p numbers helper.StrLess f core → world.left ≡ core.steps → AllStand around core (a ∷ b ∷ []) vs
        → HelperFollows p arguments (Calling f (operands core.vars (b.x ∷ a.x ∷ [])) waits core) waits core type.Bool world (meant_op program no_covers (row.Compare compared.Gt) vs world)
    does program p numbers arguments f waits core world [] has left st = absurd st
    does program p numbers arguments f waits core world (v ∷ []) has left st = absurd st.1
    does program p numbers arguments f waits core world (v ∷ u ∷ []) has left st =
        less_is program p arguments numbers f waits core world has left (operand core.vars b.x) (operand core.vars a.x) u v (as_text core b.x u (type_of around b) hb.type st.1.0) (as_text core a.x v (type_of around a) ha.type st.0)
    does program p numbers arguments f waits core world (v ∷ u ∷ s ∷ vs) has left st = absurd st.1.1

order_is : (around : Around) (place : Place) (o : CmpOp) (a b : Operand) (w : Writing) → IsString around a → IsString around b → give_made around place type.Bool (ordered around o a b w) ≡ give_made around place type.Bool (texts_less_by o a.x (b.x, w))
unfolding ordered value_as
order_is around place o a b w ha hb =
    ap (λ k. give_made around place type.Bool (ordered_by k (kind_of b) around o a b w)) ha.kind
    ∙ ap (λ k. give_made around place type.Bool (ordered_by kind.Text k around o a b w)) hb.kind
    ∙ ap (λ t. give_made around place type.Bool (texts_less_by o (value_as around.layout a.x t (type.Ptr 0) w).0 (value_as around.layout b.x (type_of around b) (type.Ptr 0) (value_as around.layout a.x t (type.Ptr 0) w).1))) ha.type
    ∙ ap (λ t. give_made around place type.Bool (texts_less_by o a.x (value_as around.layout b.x t (type.Ptr 0) w))) hb.type

pub less_is_helped : OnTwo IsString IsString helper.StrLess (row.Compare compared.Lt) type.Bool
unfolding of_some of_two compare opposite_if
less_is_helped around place a b w ha hb ht =
    straight (less_does around a b ha hb)
    (two_come around (row.Compare compared.Lt) place a b w (string_comes ha) (string_comes hb) ∙ order_is around place compared.Lt a b w ha hb ∙ straight_is around place helper.StrLess (a.x ∷ b.x ∷ []) w ht) ht

pub greater_is_helped : OnTwo IsString IsString helper.StrLess (row.Compare compared.Gt) type.Bool
unfolding of_some of_two compare opposite_if
greater_is_helped around place a b w ha hb ht =
    straight (greater_does around a b ha hb)
    (two_come around (row.Compare compared.Gt) place a b w (string_comes ha) (string_comes hb) ∙ order_is around place compared.Gt a b w ha hb ∙ straight_is around place helper.StrLess (b.x ∷ a.x ∷ []) w ht) ht

pub at_most_is_helped : OnTwo IsString IsString helper.StrLess (row.Compare compared.Le) type.Bool
unfolding of_some of_two compare
at_most_is_helped around place a b w ha hb ht =
    turned (greater_does around a b ha hb) (λ program core world vs st. at_most_is program world vs)
    (two_come around (row.Compare compared.Le) place a b w (string_comes ha) (string_comes hb) ∙ order_is around place compared.Le a b w ha hb ∙ turned_is around place helper.StrLess (b.x ∷ a.x ∷ []) w ht) ht

pub at_least_is_helped : OnTwo IsString IsString helper.StrLess (row.Compare compared.Ge) type.Bool
unfolding of_some of_two compare
at_least_is_helped around place a b w ha hb ht =
    turned (less_does around a b ha hb) (λ program core world vs st. at_least_is program world vs)
    (two_come around (row.Compare compared.Ge) place a b w (string_comes ha) (string_comes hb) ∙ order_is around place compared.Ge a b w ha hb ∙ turned_is around place helper.StrLess (a.x ∷ b.x ∷ []) w ht) ht

-- ---- parts

within_does : (around : Around) (a b : Operand) → IsString around a → IsText around b → Does around (row.Compare compared.Within) helper.StrContains type.Bool (a ∷ b ∷ []) (a.x ∷ b.x ∷ [])
within_does around a b ha hb = does_two (λ e. absurd (cc)) (λ e. absurd (cc)) contains_is ha.type hb.type

-- a string or nothing
pub text_or_none : {blocks : List (Option Block)} {statics : List Block} {t : LlType} {x : Value} {v : Meant} → t ≡ type.Ptr 0 → Stands blocks statics t x v → ((bytes : List ℕ) × (v ≡ Text bytes)) ⊎ (v ≡ Nothing)
text_or_none {blocks = blocks} {statics = statics} {x = x} {v = v} e st = one x v (subst (λ t. Stands blocks statics t x v) e st)
  where
    one : (x : Value) (v : Meant) → Stands blocks statics (type.Ptr 0) x v → ((bytes : List ℕ) × (v ≡ Text bytes)) ⊎ (v ≡ Nothing)
    one y u (text x bytes t) = inl (bytes, refl)
    one y u missing = inr refl

outside_is : (program : Program) (around : Around) (a b : Operand) (core : Core) (w : World) (vs : List Meant) → IsString around a → IsText around b → AllStand around core (a ∷ b ∷ []) vs
    → meant_op program no_covers (row.Compare compared.NotWithin) vs w ≡ reversed (meant_op program no_covers (row.Compare compared.Within) vs w)
outside_is program around a b core w [] ha hb st = absurd st
outside_is program around a b core w (v ∷ []) ha hb st = absurd st.1
outside_is program around a b core w (v ∷ u ∷ []) ha hb st = one (text_or_none ha.type st.0) (text_or_none hb.type st.1.0)
  where
    same : (v u : Meant) → Type 0
    same v u = meant_op program no_covers (row.Compare compared.NotWithin) (v ∷ u ∷ []) w ≡ reversed (meant_op program no_covers (row.Compare compared.Within) (v ∷ u ∷ []) w)

    one : ((bytes : List ℕ) × (v ≡ Text bytes)) ⊎ (v ≡ Nothing) → ((bytes : List ℕ) × (u ≡ Text bytes)) ⊎ (u ≡ Nothing) → same v u
    one (inl (part, e)) (inl (bytes, f)) = subst (λ v. same v u) (sym e) (subst (λ u. same (Text part) u) (sym f) refl)
    one (inl (part, e)) (inr f) = subst (λ v. same v u) (sym e) (subst (λ u. same (Text part) u) (sym f) refl)
    one (inr e) (inl (bytes, f)) = subst (λ v. same v u) (sym e) (subst (λ u. same Nothing u) (sym f) refl)
    one (inr e) (inr f) = subst (λ v. same v u) (sym e) (subst (λ u. same Nothing u) (sym f) refl)
outside_is program around a b core w (v ∷ u ∷ s ∷ vs) ha hb st = absurd st.1.1

pub within_is_helped : OnTwo IsString IsText helper.StrContains (row.Compare compared.Within) type.Bool
unfolding of_some of_two compare opposite_if within value_as
within_is_helped around place a b w ha hb ht =
    straight (within_does around a b ha hb)
    (two_come around (row.Compare compared.Within) place a b w (string_comes ha) (text_comes hb)
    ∙ ap (λ k. give_made around place type.Bool (opposite_of false (within_by k (kind_of b) around a b w))) ha.kind
    ∙ of_text_kind (λ k. give_made around place type.Bool (opposite_of false (within_by kind.Text k around a b w))) hb.kind refl refl
    ∙ ap (λ t. give_made around place type.Bool (opposite_of false (asks helper.StrContains type.Bool ((value_as around.layout a.x t (type.Ptr 0) w).0 ∷ (value_as around.layout b.x (type_of around b) (type.Ptr 0) (value_as around.layout a.x t (type.Ptr 0) w).1).0 ∷ []) (value_as around.layout b.x (type_of around b) (type.Ptr 0) (value_as around.layout a.x t (type.Ptr 0) w).1).1))) ha.type
    ∙ ap (λ t. give_made around place type.Bool (opposite_of false (asks helper.StrContains type.Bool (a.x ∷ (value_as around.layout b.x t (type.Ptr 0) w).0 ∷ []) (value_as around.layout b.x t (type.Ptr 0) w).1))) hb.type
    ∙ straight_is around place helper.StrContains (a.x ∷ b.x ∷ []) w ht) ht

pub outside_is_helped : OnTwo IsString IsText helper.StrContains (row.Compare compared.NotWithin) type.Bool
unfolding of_some of_two compare within value_as
outside_is_helped around place a b w ha hb ht =
    turned (within_does around a b ha hb) (λ program core world vs st. outside_is program around a b core world vs ha hb st)
    (two_come around (row.Compare compared.NotWithin) place a b w (string_comes ha) (text_comes hb)
    ∙ ap (λ k. give_made around place type.Bool (opposite_of true (within_by k (kind_of b) around a b w))) ha.kind
    ∙ of_text_kind (λ k. give_made around place type.Bool (opposite_of true (within_by kind.Text k around a b w))) hb.kind refl refl
    ∙ ap (λ t. give_made around place type.Bool (opposite_of true (asks helper.StrContains type.Bool ((value_as around.layout a.x t (type.Ptr 0) w).0 ∷ (value_as around.layout b.x (type_of around b) (type.Ptr 0) (value_as around.layout a.x t (type.Ptr 0) w).1).0 ∷ []) (value_as around.layout b.x (type_of around b) (type.Ptr 0) (value_as around.layout a.x t (type.Ptr 0) w).1).1))) ha.type
    ∙ ap (λ t. give_made around place type.Bool (opposite_of true (asks helper.StrContains type.Bool (a.x ∷ (value_as around.layout b.x t (type.Ptr 0) w).0 ∷ []) (value_as around.layout b.x t (type.Ptr 0) w).1))) hb.type
    ∙ turned_is around place helper.StrContains (a.x ∷ b.x ∷ []) w ht) ht

-- ---- truth

truth_does : (around : Around) (a : Operand) → IsText around a → Does around row.Truth helper.StrTruth type.Bool (a ∷ []) (a.x ∷ [])
truth_does around a ha = does_one (λ e. absurd (cc)) truth_is ha.type

pub truth_is_helped : OnOne IsText helper.StrTruth row.Truth type.Bool
unfolding of_some of_one truth_of
truth_is_helped around place a w ha ht =
    straight (truth_does around a ha)
    (one_comes around row.Truth place a w (text_comes ha) ∙ of_text_kind (λ k. tested_to around place false (truth_by k around a w).0 (truth_by k around a w).1) ha.kind refl refl ∙ straight_is around place helper.StrTruth (a.x ∷ []) w ht) ht

pub untrue_is_helped : OnOne IsText helper.StrTruth row.Not type.Bool
unfolding of_some of_one truth_of
untrue_is_helped around place a w ha ht =
    turned_here (truth_does around a ha) (λ program core world vs st. untrue_is program world vs)
    (one_comes around row.Not place a w (text_comes ha) ∙ of_text_kind (λ k. tested_to around place true (truth_by k around a w).0 (truth_by k around a w).1) ha.kind refl refl ∙ turned_here_is around place helper.StrTruth (a.x ∷ []) w ht) ht
