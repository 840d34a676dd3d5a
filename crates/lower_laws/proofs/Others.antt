-- `os.write` to the standard output, and the next number of a range whose step is not one.
use Rattle.std.proofs.Common.{◌≡◌, ℕ, ◌⊎◌, inl, inr, Bool, true, false, List, [], ◌∷◌, length, Some, ℤ, pos, negsuc, refl, sym, ap, ◌∙◌, subst, arith}
use Rattle.std.specs.Prelude.{◌||◌, if◌then◌else◌, int_lt}
use Rattle.std.proofs.lemmas.Bool.Decides.{nat_tests}
use Rattle.std.specs.Ordering.{int_eq}
use Rattle.rpy_base.specs.Word.{Fits}
use Rattle.csub_tree.specs.State.{Core, Word}
use Rattle.csub_tree.specs.Operation.{is_unset}
use Rattle.csub_tree.specs.Statement.{operand, operands, any_unset}
use Rattle.csub_tree.specs.declared.tree.CBinary.TheVariants as binary
use Rattle.rpy_tree.specs.Value.{Value as Meant, Word as MeantWord, Text, Nothing}
use Rattle.rpy_meaning.specs.declared.row.RowOp.TheVariants as row
use Rattle.rpy_meaning.specs.Classes.{no_covers}
use Rattle.rpy_meaning.specs.Operations.{op as meant_op}
use Rattle.rpy_meaning.specs.Tree.{Program}
use Rattle.rpy_meaning.specs.World.{World, Answer, bad, write}
use Rattle.ll_code.specs.State.{Frame, Calling}
use Rattle.ll_code.specs.declared.program.LlType.TheVariants as type
use Rattle.ll_code.specs.declared.program.LlProgram.{LlProgram}
use Rattle.ll_build.specs.declared.needs.Helper.{Helper}
use Rattle.ll_build.specs.declared.needs.Helper.TheVariants as helper
use Rattle.ll_build.specs.declared.needs.Numbers.{Numbers}
use Rattle.ll_texts.specs.Stands.{Stands, word}
use Rattle.ll_texts.specs.Follows.{Follows as HelperFollows}
use Rattle.ll_strings.specs.Laws.{HasHelper, DoesThree, rising, falling}
use Rattle.ll_strings.proofs.Putting.{write_is}
use Rattle.ll_strings.proofs.Ranges.{rising_is, falling_is}
use Rattle.rtyper_layout.specs.Kinds.{is_text}
use Rattle.rtyper_data.specs.Converting.{give_helped, give_nothing}
use Rattle.rtyper_op.specs.Lowering.{of_some, of_two}
use Rattle.rtyper_data.specs.Numbers.{word as word_operand, give_binary, range_advance, rises}
use Rattle.rtyper_op.specs.Placing.{advance}
use Rattle.rtyper_data.specs.Seen.{Around, Operand, Place, type_of, Writing, writing}
use Rattle.rtyper_op.specs.Texts.{of_text}
use Rattle.lower_laws.specs.Follows.{AllStand, IsWord}
use Rattle.lower_laws.specs.Helped.{IsLong, IsString, OnTwo}
use Rattle.lower_laws.proofs.Coming.{two_come, word_comes, string_comes}
use Rattle.lower_laws.proofs.Compared.{text_or_none}
use Rattle.lower_laws.proofs.Doing.{word_is}
use Rattle.lower_laws.proofs.Helps.{Does, helped, of_text_is, stands_set}

-- ---- `os.write`

write_does : (around : Around) (a b : Operand) → IsWord around a → IsString around b → Does around row.Write helper.StrWrite type.Signed (a ∷ b ∷ []) (b.x ∷ [])
write_does around a b ha hb = record { set = set; does = does }
  where
    as_text : (core : Core) (u : Meant) → Stands core.blocks core.statics (type_of around b) (operand core.vars b.x) u → Stands core.blocks core.statics (type.Ptr 0) (operand core.vars b.x) u
    as_text core u st = subst (λ t. Stands core.blocks core.statics t (operand core.vars b.x) u) hb.type st

    set : (core : Core) (vs : List Meant) → AllStand around core (a ∷ b ∷ []) vs → any_unset (operands core.vars (b.x ∷ [])) ≡ false
    set core [] st = absurd st
    set core (v ∷ []) st = absurd st.1
    set core (v ∷ u ∷ []) st = ap (λ k. k || false) (stands_set (λ e. absurd (cc)) (as_text core u st.1.0))
    set core (v ∷ u ∷ s ∷ vs) st = absurd st.1.1

    does : (program : Program) (p : LlProgram) (numbers : Numbers) (arguments : List (List ℕ)) (f : ℕ) (waits : List Frame) (core : Core) (world : World) (vs : List Meant)
        → HasHelper p numbers helper.StrWrite f core → world.left ≡ core.steps → AllStand around core (a ∷ b ∷ []) vs
        → HelperFollows p arguments (Calling f (operands core.vars (b.x ∷ [])) waits core) waits core type.Signed world (meant_op program no_covers row.Write vs world)
    does program p numbers arguments f waits core world [] has left st = absurd st
    does program p numbers arguments f waits core world (v ∷ []) has left st = absurd st.1
    does program p numbers arguments f waits core world (v ∷ u ∷ []) has left st =
        let x = word_is ha.type st.0 in
        subst (λ v. Done (meant_op program no_covers row.Write (v ∷ u ∷ []) world)) (sym x.high) (by_text (text_or_none hb.type st.1.0) x.number)
      where
        Done : Answer → Type 0
        Done answer = HelperFollows p arguments (Calling f (operands core.vars (b.x ∷ [])) waits core) waits core type.Signed world answer

        to_output : Done (meant_op program no_covers row.Write (MeantWord (pos 1) ∷ u ∷ []) world)
        to_output = write_is program p arguments numbers f waits core world has left (operand core.vars b.x) u (as_text core u st.1.0)

        chosen : (bytes : List ℕ) → u ≡ Text bytes → (c : Bool) → Done ((if c then write bytes (MeantWord (pos (length bytes))) else bad) world)
        chosen bytes e true = subst (λ u. Done (meant_op program no_covers row.Write (MeantWord (pos 1) ∷ u ∷ []) world)) e to_output
        chosen bytes e false = tt

        by_text : ((bytes : List ℕ) × (u ≡ Text bytes)) ⊎ (u ≡ Nothing) → (z : ℤ) → Done (meant_op program no_covers row.Write (MeantWord z ∷ u ∷ []) world)
        by_text (inl (bytes, e)) z = subst (λ u. Done (meant_op program no_covers row.Write (MeantWord z ∷ u ∷ []) world)) (sym e) (chosen bytes e (int_eq z (pos 1)))
        by_text (inr e) z = subst (λ u. Done (meant_op program no_covers row.Write (MeantWord z ∷ u ∷ []) world)) (sym e) tt
    does program p numbers arguments f waits core world (v ∷ u ∷ s ∷ vs) has left st = absurd st.1.1

pub write_is_helped : OnTwo IsWord IsString helper.StrWrite row.Write type.Signed
unfolding of_some of_two
write_is_helped around place a b w ha hb ht =
    helped (write_does around a b ha hb)
    (two_come around row.Write place a b w (word_comes ha) (string_comes hb)
    ∙ ap (λ k. if is_text k then of_text around place helper.StrWrite type.Signed b w else writing w.found (give_nothing around place w.body)) hb.kind
    ∙ of_text_is around place helper.StrWrite type.Signed b w hb.type) ht

-- ---- the next number of a range

-- of an end and a number, by a step that the helper takes too
advance_does : (around : Around) (a b : Operand) (step : ℤ) (h : Helper) (does : Program → Meant → Meant → Meant → World → Answer) → Fits step → DoesThree h type.Signed type.Signed type.Signed type.Signed does
    → ((program : Program) (v u : Meant) (w : World) → does program v u (MeantWord step) w ≡ meant_op program no_covers (row.Advance (Some step)) (v ∷ u ∷ []) w)
    → IsWord around a → IsWord around b → Does around (row.Advance (Some step)) h type.Signed (a ∷ b ∷ []) (a.x ∷ b.x ∷ word_operand step ∷ [])
advance_does around a b step h does fits law same ha hb = record { set = set; does = done }
  where
    as_word : (core : Core) (c : Operand) (v : Meant) → type_of around c ≡ type.Signed → Stands core.blocks core.statics (type_of around c) (operand core.vars c.x) v → Stands core.blocks core.statics type.Signed (operand core.vars c.x) v
    as_word core c v e st = subst (λ t. Stands core.blocks core.statics t (operand core.vars c.x) v) e st

    is_set : (core : Core) (c : Operand) (v : Meant) → type_of around c ≡ type.Signed → Stands core.blocks core.statics (type_of around c) (operand core.vars c.x) v → is_unset (operand core.vars c.x) ≡ false
    is_set core c v e st = stands_set (λ e. absurd (cc)) (as_word core c v e st)

    set : (core : Core) (vs : List Meant) → AllStand around core (a ∷ b ∷ []) vs → any_unset (operands core.vars (a.x ∷ b.x ∷ word_operand step ∷ [])) ≡ false
    set core [] st = absurd st
    set core (v ∷ []) st = absurd st.1
    set core (v ∷ u ∷ []) st = ap (λ k. k || (is_unset (operand core.vars b.x) || false)) (is_set core a v ha.type st.0) ∙ ap (λ k. k || false) (is_set core b u hb.type st.1.0)
    set core (v ∷ u ∷ s ∷ vs) st = absurd st.1.1

    done : (program : Program) (p : LlProgram) (numbers : Numbers) (arguments : List (List ℕ)) (f : ℕ) (waits : List Frame) (core : Core) (world : World) (vs : List Meant)
        → HasHelper p numbers h f core → world.left ≡ core.steps → AllStand around core (a ∷ b ∷ []) vs
        → HelperFollows p arguments (Calling f (operands core.vars (a.x ∷ b.x ∷ word_operand step ∷ [])) waits core) waits core type.Signed world (meant_op program no_covers (row.Advance (Some step)) vs world)
    done program p numbers arguments f waits core world [] has left st = absurd st
    done program p numbers arguments f waits core world (v ∷ []) has left st = absurd st.1
    done program p numbers arguments f waits core world (v ∷ u ∷ []) has left st =
        subst (λ answer. HelperFollows p arguments (Calling f (operands core.vars (a.x ∷ b.x ∷ word_operand step ∷ [])) waits core) waits core type.Signed world answer) (same program v u world)
        (law program p arguments numbers f waits core world has left (operand core.vars a.x) (operand core.vars b.x) (Word step) v u (MeantWord step) (as_word core a v ha.type st.0) (as_word core b u hb.type st.1.0) (word step fits))
    done program p numbers arguments f waits core world (v ∷ u ∷ s ∷ vs) has left st = absurd st.1.1

calls : (around : Around) (place : Place) (step : ℤ) (a b : Operand) (w : Writing) (rising : Bool) → IsLong step → rises step ≡ rising
    → advance around place (Some step) a b w ≡ give_helped around place (if rising then helper.RangeUp else helper.RangeDown) type.Signed (a.x ∷ b.x ∷ word_operand step ∷ []) w
unfolding advance range_advance
calls around place step a b w rising long r =
    ap (λ c. if c then give_binary around place binary.Add type.Signed b.x (word_operand step) w else give_helped around place (if rises step then helper.RangeUp else helper.RangeDown) type.Signed (a.x ∷ b.x ∷ word_operand step ∷ []) w) long
    ∙ ap (λ c. give_helped around place (if c then helper.RangeUp else helper.RangeDown) type.Signed (a.x ∷ b.x ∷ word_operand step ∷ []) w) r

pub rising_is_helped : (step : ℤ) → Fits step → IsLong step → rises step ≡ true → OnTwo IsWord IsWord helper.RangeUp (row.Advance (Some step)) type.Signed
unfolding of_some of_two
rising_is_helped step fits long r around place a b w ha hb ht =
    helped (advance_does around a b step helper.RangeUp rising fits rising_is (λ program v u w. ap (λ c. (if c then meant_op program no_covers (row.Advance (Some step)) (v ∷ u ∷ []) else bad) w) r) ha hb)
    (two_come around (row.Advance (Some step)) place a b w (word_comes ha) (word_comes hb) ∙ calls around place step a b w true long r) ht

falls : (step : ℤ) → int_lt step (pos 0) ≡ true → rises step ≡ false
falls (pos n) h = grind (arith, nat_tests, h)
falls (negsuc n) h = refl

pub falling_is_helped : (step : ℤ) → Fits step → IsLong step → int_lt step (pos 0) ≡ true → OnTwo IsWord IsWord helper.RangeDown (row.Advance (Some step)) type.Signed
unfolding of_some of_two
falling_is_helped step fits long r around place a b w ha hb ht =
    helped (advance_does around a b step helper.RangeDown falling fits falling_is (λ program v u w. ap (λ c. (if c then meant_op program no_covers (row.Advance (Some step)) (v ∷ u ∷ []) else bad) w) r) ha hb)
    (two_come around (row.Advance (Some step)) place a b w (word_comes ha) (word_comes hb) ∙ calls around place step a b w false long (falls step r)) ht
