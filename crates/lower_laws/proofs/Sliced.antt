-- Slices of strings, which one helper does: a bound that is absent is the start, or the end of any string.
use Rattle.std.proofs.Common.{◌≡◌, ℕ, true, false, List, [], ◌∷◌, pos, refl, ap, ◌∙◌, subst}
use Rattle.std.specs.Prelude.{◌||◌, if◌then◌else◌}
use Rattle.csub_tree.specs.State.{Core}
use Rattle.csub_tree.specs.Operation.{is_unset}
use Rattle.csub_tree.specs.Statement.{operand, operands, any_unset}
use Rattle.csub_tree.specs.declared.tree.COperand.{COperand}
use Rattle.rpy_tree.specs.Value.{Value as Meant}
use Rattle.rpy_meaning.specs.declared.row.RowOp.{RowOp}
use Rattle.rpy_meaning.specs.declared.row.RowOp.TheVariants as row
use Rattle.rpy_meaning.specs.Classes.{no_covers}
use Rattle.rpy_meaning.specs.Operations.{op as meant_op}
use Rattle.rpy_meaning.specs.Tree.{Program}
use Rattle.rpy_meaning.specs.World.{World}
use Rattle.ll_code.specs.State.{Frame, Calling}
use Rattle.ll_code.specs.declared.program.LlType.TheVariants as type
use Rattle.ll_code.specs.declared.program.LlProgram.{LlProgram}
use Rattle.ll_build.specs.declared.needs.Helper.TheVariants as helper
use Rattle.ll_build.specs.declared.needs.Numbers.{Numbers}
use Rattle.ll_texts.specs.Stands.{Stands}
use Rattle.ll_texts.specs.Follows.{Follows as HelperFollows}
use Rattle.ll_strings.specs.Laws.{HasHelper}
use Rattle.ll_strings.proofs.Slices.{slice_is, up_to_is, from_is, all_is}
use Rattle.rtyper_layout.specs.Kinds.{is_text_or_none}
use Rattle.rtyper_data.specs.Converting.{give_helped, value_as}
use Rattle.rtyper_data.specs.Numbers.{word}
use Rattle.rtyper_data.specs.Seen.{Around, Operand, Place, type_of, kind_of, Writing}
use Rattle.rtyper_op.specs.Texts.{text_type}
use Rattle.lower_laws.specs.Follows.{AllStand, IsWord}
use Rattle.lower_laws.specs.Helped.{IsText, OnOne, OnTwo, OnThree}
use Rattle.lower_laws.proofs.Coming.{one_comes, two_come, three_come, word_comes, text_comes, of_text_kind}
use Rattle.lower_laws.proofs.Helps.{Does, helped, stands_set}

-- the greatest word, which is the end of any string
abbrev last : COperand
last = word (pos 9223372036854775807)

abbrev first : COperand
first = word (pos 0)

-- a slice of a string calls the helper
calls : (around : Around) (place : Place) (a : Operand) (x y : COperand) (w : Writing) → IsText around a
    → (if is_text_or_none (kind_of a) then give_helped around place helper.StrSlice text_type ((value_as around.layout a.x (type_of around a) text_type w).0 ∷ x ∷ y ∷ []) (value_as around.layout a.x (type_of around a) text_type w).1 else w)
    ≡ give_helped around place helper.StrSlice text_type (a.x ∷ x ∷ y ∷ []) w
unfolding value_as
calls around place a x y w ha =
    of_text_kind (λ k. if is_text_or_none k then give_helped around place helper.StrSlice text_type ((value_as around.layout a.x (type_of around a) text_type w).0 ∷ x ∷ y ∷ []) (value_as around.layout a.x (type_of around a) text_type w).1 else w) ha.kind refl refl
    ∙ ap (λ t. give_helped around place helper.StrSlice text_type ((value_as around.layout a.x t text_type w).0 ∷ x ∷ y ∷ []) (value_as around.layout a.x t text_type w).1) ha.type

-- ---- the operands

as_text : {around : Around} {a : Operand} → IsText around a → (core : Core) (v : Meant) → Stands core.blocks core.statics (type_of around a) (operand core.vars a.x) v → Stands core.blocks core.statics (type.Ptr 0) (operand core.vars a.x) v
as_text {a = a} h core v st = subst (λ t. Stands core.blocks core.statics t (operand core.vars a.x) v) h.type st

as_word : {around : Around} {a : Operand} → IsWord around a → (core : Core) (v : Meant) → Stands core.blocks core.statics (type_of around a) (operand core.vars a.x) v → Stands core.blocks core.statics type.Signed (operand core.vars a.x) v
as_word {a = a} h core v st = subst (λ t. Stands core.blocks core.statics t (operand core.vars a.x) v) h.type st

text_set : {around : Around} {a : Operand} → IsText around a → (core : Core) (v : Meant) → Stands core.blocks core.statics (type_of around a) (operand core.vars a.x) v → is_unset (operand core.vars a.x) ≡ false
text_set h core v st = stands_set (λ e. absurd (cc)) (as_text h core v st)

word_set : {around : Around} {a : Operand} → IsWord around a → (core : Core) (v : Meant) → Stands core.blocks core.statics (type_of around a) (operand core.vars a.x) v → is_unset (operand core.vars a.x) ≡ false
word_set h core v st = stands_set (λ e. absurd (cc)) (as_word h core v st)

-- ---- both bounds

both_does : (site : ℕ) (around : Around) (a b c : Operand) → IsText around a → IsWord around b → IsWord around c → Does around (row.Slice site true true) helper.StrSlice (type.Ptr 0) (a ∷ b ∷ c ∷ []) (a.x ∷ b.x ∷ c.x ∷ [])
both_does site around a b c ha hb hc = record { set = set; does = does }
  where
    set : (core : Core) (vs : List Meant) → AllStand around core (a ∷ b ∷ c ∷ []) vs → any_unset (operands core.vars (a.x ∷ b.x ∷ c.x ∷ [])) ≡ false
    set core [] st = absurd st
    set core (v ∷ []) st = absurd st.1
    set core (v ∷ u ∷ []) st = absurd st.1.1
    set core (v ∷ u ∷ s ∷ []) st =
        ap (λ k. k || (is_unset (operand core.vars b.x) || (is_unset (operand core.vars c.x) || false))) (text_set ha core v st.0)
        ∙ ap (λ k. k || (is_unset (operand core.vars c.x) || false)) (word_set hb core u st.1.0)
        ∙ ap (λ k. k || false) (word_set hc core s st.1.1.0)
    set core (v ∷ u ∷ s ∷ r ∷ vs) st = absurd st.1.1.1

    does : (program : Program) (p : LlProgram) (numbers : Numbers) (arguments : List (List ℕ)) (f : ℕ) (waits : List Frame) (core : Core) (world : World) (vs : List Meant)
        → HasHelper p numbers helper.StrSlice f core → world.left ≡ core.steps → AllStand around core (a ∷ b ∷ c ∷ []) vs
        → HelperFollows p arguments (Calling f (operands core.vars (a.x ∷ b.x ∷ c.x ∷ [])) waits core) waits core (type.Ptr 0) world (meant_op program no_covers (row.Slice site true true) vs world)
    does program p numbers arguments f waits core world [] has left st = absurd st
    does program p numbers arguments f waits core world (v ∷ []) has left st = absurd st.1
    does program p numbers arguments f waits core world (v ∷ u ∷ []) has left st = absurd st.1.1
    does program p numbers arguments f waits core world (v ∷ u ∷ s ∷ []) has left st =
        slice_is site program p arguments numbers f waits core world has left (operand core.vars a.x) (operand core.vars b.x) (operand core.vars c.x) v u s (as_text ha core v st.0) (as_word hb core u st.1.0) (as_word hc core s st.1.1.0)
    does program p numbers arguments f waits core world (v ∷ u ∷ s ∷ r ∷ vs) has left st = absurd st.1.1.1

pub slice_is_helped : (site : ℕ) → OnThree IsText IsWord IsWord helper.StrSlice (row.Slice site true true) (type.Ptr 0)
slice_is_helped site around place a b c w ha hb hc ht =
    helped (both_does site around a b c ha hb hc) (three_come around (row.Slice site true true) place a b c w (text_comes ha) (word_comes hb) (word_comes hc) ∙ calls around place a b.x c.x w ha) ht

-- ---- one bound

-- of two operands, by what the helper takes
one_bound : {o : RowOp} (around : Around) (a b : Operand) (xs : List COperand) → IsText around a → IsWord around b
    → ((core : Core) (v u : Meant) → is_unset (operand core.vars a.x) ≡ false → is_unset (operand core.vars b.x) ≡ false → any_unset (operands core.vars xs) ≡ false)
    → ((program : Program) (p : LlProgram) (numbers : Numbers) (arguments : List (List ℕ)) (f : ℕ) (waits : List Frame) (core : Core) (world : World) (v u : Meant) → HasHelper p numbers helper.StrSlice f core → world.left ≡ core.steps
    → Stands core.blocks core.statics (type.Ptr 0) (operand core.vars a.x) v → Stands core.blocks core.statics type.Signed (operand core.vars b.x) u
    → HelperFollows p arguments (Calling f (operands core.vars xs) waits core) waits core (type.Ptr 0) world (meant_op program no_covers o (v ∷ u ∷ []) world)) → Does around o helper.StrSlice (type.Ptr 0) (a ∷ b ∷ []) xs
one_bound {o = o} around a b xs ha hb are_set law = record { set = set; does = does }
  where
    set : (core : Core) (vs : List Meant) → AllStand around core (a ∷ b ∷ []) vs → any_unset (operands core.vars xs) ≡ false
    set core [] st = absurd st
    set core (v ∷ []) st = absurd st.1
    set core (v ∷ u ∷ []) st = are_set core v u (text_set ha core v st.0) (word_set hb core u st.1.0)
    set core (v ∷ u ∷ s ∷ vs) st = absurd st.1.1

    does : (program : Program) (p : LlProgram) (numbers : Numbers) (arguments : List (List ℕ)) (f : ℕ) (waits : List Frame) (core : Core) (world : World) (vs : List Meant)
        → HasHelper p numbers helper.StrSlice f core → world.left ≡ core.steps → AllStand around core (a ∷ b ∷ []) vs
        → HelperFollows p arguments (Calling f (operands core.vars xs) waits core) waits core (type.Ptr 0) world (meant_op program no_covers o vs world)
    does program p numbers arguments f waits core world [] has left st = absurd st
    does program p numbers arguments f waits core world (v ∷ []) has left st = absurd st.1
    does program p numbers arguments f waits core world (v ∷ u ∷ []) has left st = law program p numbers arguments f waits core world v u has left (as_text ha core v st.0) (as_word hb core u st.1.0)
    does program p numbers arguments f waits core world (v ∷ u ∷ s ∷ vs) has left st = absurd st.1.1

pub up_to_is_helped : (site : ℕ) → OnTwo IsText IsWord helper.StrSlice (row.Slice site false true) (type.Ptr 0)
up_to_is_helped site around place a b w ha hb ht =
    helped (one_bound around a b (a.x ∷ first ∷ b.x ∷ []) ha hb (λ core v u sa sb. ap (λ k. k || (is_unset (operand core.vars b.x) || false)) sa ∙ ap (λ k. k || false) sb)
    (λ program p numbers arguments f waits core world v u has left sv su. up_to_is site program p arguments numbers f waits core world has left (operand core.vars a.x) (operand core.vars b.x) v u sv su))
    (two_come around (row.Slice site false true) place a b w (text_comes ha) (word_comes hb) ∙ calls around place a first b.x w ha) ht

pub from_is_helped : (site : ℕ) → OnTwo IsText IsWord helper.StrSlice (row.Slice site true false) (type.Ptr 0)
from_is_helped site around place a b w ha hb ht =
    helped (one_bound around a b (a.x ∷ b.x ∷ last ∷ []) ha hb (λ core v u sa sb. ap (λ k. k || (is_unset (operand core.vars b.x) || false)) sa ∙ ap (λ k. k || false) sb)
    (λ program p numbers arguments f waits core world v u has left sv su. from_is site program p arguments numbers f waits core world has left (operand core.vars a.x) (operand core.vars b.x) v u sv su))
    (two_come around (row.Slice site true false) place a b w (text_comes ha) (word_comes hb) ∙ calls around place a b.x last w ha) ht

-- ---- no bound

whole_does : (site : ℕ) (around : Around) (a : Operand) → IsText around a → Does around (row.Slice site false false) helper.StrSlice (type.Ptr 0) (a ∷ []) (a.x ∷ first ∷ last ∷ [])
whole_does site around a ha = record { set = set; does = does }
  where
    set : (core : Core) (vs : List Meant) → AllStand around core (a ∷ []) vs → any_unset (operands core.vars (a.x ∷ first ∷ last ∷ [])) ≡ false
    set core [] st = absurd st
    set core (v ∷ []) st = ap (λ k. k || false) (text_set ha core v st.0)
    set core (v ∷ u ∷ vs) st = absurd st.1

    does : (program : Program) (p : LlProgram) (numbers : Numbers) (arguments : List (List ℕ)) (f : ℕ) (waits : List Frame) (core : Core) (world : World) (vs : List Meant)
        → HasHelper p numbers helper.StrSlice f core → world.left ≡ core.steps → AllStand around core (a ∷ []) vs
        → HelperFollows p arguments (Calling f (operands core.vars (a.x ∷ first ∷ last ∷ [])) waits core) waits core (type.Ptr 0) world (meant_op program no_covers (row.Slice site false false) vs world)
    does program p numbers arguments f waits core world [] has left st = absurd st
    does program p numbers arguments f waits core world (v ∷ []) has left st = all_is site program p arguments numbers f waits core world has left (operand core.vars a.x) v (as_text ha core v st.0)
    does program p numbers arguments f waits core world (v ∷ u ∷ vs) has left st = absurd st.1

pub whole_is_helped : (site : ℕ) → OnOne IsText helper.StrSlice (row.Slice site false false) (type.Ptr 0)
whole_is_helped site around place a w ha ht =
    helped (whole_does site around a ha) (one_comes around (row.Slice site false false) place a w (text_comes ha) ∙ calls around place a first last w ha) ht
