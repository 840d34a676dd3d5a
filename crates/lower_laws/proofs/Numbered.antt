-- `int` of a string, or of a byte.
use Rattle.std.proofs.Common.{◌≡◌, ◌<◌, ◌≤◌, ℕ, ◌+◌, true, false, List, [], ◌∷◌, ◌++◌, length, Option, Some, None, ℤ, refl, sym, ap, ◌∙◌, subst, arith, append_assoc, length-append}
use Rattle.std.specs.Prelude.{◌||◌}
use Rattle.rpy_base.specs.Number.{trimmed}
use Rattle.rpy_base.specs.Word.{Fits}
use Rattle.csub_tree.specs.State.{Value, Word, Core}
use Rattle.csub_tree.specs.Statement.{operand}
use Rattle.csub_tree.specs.declared.tree.COperand.{COperand}
use Rattle.csub_tree.specs.declared.tree.COperand.TheVariants.{Var}
use Rattle.rpy_tree.specs.Value.{Value as Meant}
use Rattle.rpy_meaning.specs.declared.row.RowOp.TheVariants as row
use Rattle.rpy_meaning.specs.Methods.{number}
use Rattle.rpy_meaning.specs.Operations.{op as meant_op}
use Rattle.rpy_meaning.specs.Tree.{Program}
use Rattle.rpy_meaning.specs.World.{World}
use Rattle.ll_code.specs.State.{Frame, Calling, At}
use Rattle.ll_code.specs.declared.program.LlType.TheVariants as type
use Rattle.ll_code.specs.declared.program.LlOp.{LlOp}
use Rattle.ll_code.specs.declared.program.LlOp.TheVariants as op
use Rattle.ll_code.specs.declared.program.LlExit.{LlExit}
use Rattle.ll_code.specs.declared.program.LlProgram.{LlProgram}
use Rattle.ll_build.specs.declared.needs.Numbers.{Numbers}
use Rattle.ll_texts.specs.Texts.{HasText, IsText}
use Rattle.ll_texts.specs.Stands.{Stands, word, text, missing}
use Rattle.rtyper_layout.specs.declared.kind.Kind.{Kind}
use Rattle.rtyper_layout.specs.declared.kind.Kind.TheVariants as kind
use Rattle.rtyper_layout.specs.declared.layout.Layout.{Layout}
use Rattle.rtyper_layout.specs.Kinds.{is_text}
use Rattle.rtyper_data.specs.declared.small.Small.TheVariants as small
use Rattle.rtyper_data.specs.Converting.{given}
use Rattle.rtyper_data.specs.Finding.{small_number}
use Rattle.rtyper_op.specs.Lowering.{lower_op, of_some, of_one, conversion}
use Rattle.rtyper_data.specs.Numbers.{int_of_text, to_int, to_int_by}
use Rattle.rtyper_data.specs.Seen.{Around, Operand, Place, kind_of, Writing, writing}
use Rattle.lower_laws.specs.Asked.{Make, HasAll, HasSmall}
use Rattle.lower_laws.specs.Done.{Follows, HasStructs}
use Rattle.lower_laws.specs.Texted.{asks_of, IsNumbered}
use Rattle.lower_laws.specs.Values.{Given}
use Rattle.lower_laws.proofs.Chained.{done_behind}
use Rattle.lower_laws.proofs.Coming.{one_comes}
use Rattle.lower_laws.proofs.Helps.{stands_set}
use Rattle.lower_laws.proofs.Kept.{has_first, has_second, asked_append}
use Rattle.lower_laws.proofs.Parsing.{Result, text_read}
use Rattle.lower_laws.proofs.Reading.{reads_signed, numbered, number_is, word_read}
use Rattle.lower_laws.proofs.Small.{SmallFollows, small_written, followed}
use Rattle.lower_laws.proofs.Strung.{text_is}
use Rattle.lower_laws.proofs.Texted.{Texted, texted, text_comes}

-- ---- the small graph

-- what it reads is what the text is the number of
int_does : (p : LlProgram) (layout : Layout) (raised : ℕ → Value) (arguments : List (List ℕ)) (f : ℕ) (core : Core) (world : World) (x : Value) (bytes : List ℕ) → HasText p → HasSmall p layout raised small.IntOfText f → IsText core.blocks core.statics x bytes
    → SmallFollows p arguments f (x ∷ []) core raised world (number (trimmed bytes) world)
unfolding Result
int_does p layout raised arguments f core world x bytes texts has t =
    subst (λ answer. SmallFollows p arguments f (x ∷ []) core raised world answer) (sym (number_is (trimmed bytes) world))
    (by (reads_signed (trimmed bytes)) (word_read (trimmed bytes)) (λ waits. text_read p arguments f has.made has.graph (raised 8) has.raises.0 texts waits core x bytes t))
  where
    by : (r : Option ℤ) → ((z : ℤ) → r ≡ Some z → Fits z) → ((waits : List Frame) → Result p arguments f has.made has.graph (raised 8) has.raises.0 texts waits core x r (Calling f (x ∷ []) waits core)) → SmallFollows p arguments f (x ∷ []) core raised world (numbered r world)
    by (Some z) fits go = record { value = Word z; stands = word z (fits z refl); comes = go; same = refl }
    by None fits go = record { flies = go; same = refl }

-- ---- what is written

int_written : (around : Around) (place : Place) (a : Operand) (w : Writing) (k : Kind) → is_text k ≡ true → to_int_by k around place a w ≡ int_of_text around place (given around a (type.Ptr 0) w)
int_written around place a w kind.Byte h = refl
int_written around place a w kind.Text h = refl
int_written around place a w _ h = absurd (cc)

pub int_is_done : IsNumbered
unfolding of_some of_one conversion to_int
int_is_done around place a w covers ka words = record {
  ops = A.ops ++ (telling ∷ setting ∷ []);
  new = A.new ++ type.Signed ∷ [];
  asked = ap (λ (r : Writing). r.found) l ∙ ap (λ f. (small_number small.IntOfText f).1) A.asked ∙ sym (asked_append (asks_of a) (Make small.IntOfText ∷ []) w.found);
  written = ap (λ (r : Writing). r.body.ops) l ∙ append_assoc A.next.body.ops (telling ∷ []) (setting ∷ []) ∙ ap (λ os. os ++ (telling ∷ setting ∷ [])) A.written ∙ append_assoc w.body.ops A.ops (telling ∷ setting ∷ []);
  types = ap (λ (r : Writing). r.body.types) l ∙ ap (λ ts. ts ++ type.Signed ∷ []) A.types ∙ append_assoc w.body.types A.new (type.Signed ∷ []);
  follows = λ program p numbers raised arguments rest e frames core world vs structs has left room inside below given good.
      subst (λ os. Follows around place p arguments (At os e frames core) rest e frames core raised 1 (length w.body.types) world (meant_op program covers row.ToInt vs world)) (sym (append_assoc A.ops (telling ∷ setting ∷ []) rest))
      (follow program p numbers raised arguments rest e frames core world vs structs has left room inside given);
}
  where
    A : Texted around a w
    A = texted around a w (kind_of a) refl (text_is (kind_of a) ka)

    m : ℕ
    m = length A.next.body.types

    telling : LlOp
    telling = op.Call (Some m) (small_number small.IntOfText A.next.found).0 (A.x ∷ [])

    setting : LlOp
    setting = op.Set place.variable (Var m)

    l : lower_op around row.ToInt place (a ∷ []) w ≡ writing (small_number small.IntOfText A.next.found).1 (record { types = A.next.body.types ++ type.Signed ∷ []; ops = (A.next.body.ops ++ telling ∷ []) ++ setting ∷ [] })
    l = one_comes around row.ToInt place a w (text_comes (kind_of a) (text_is (kind_of a) ka)) ∙ int_written around place a w (kind_of a) ka ∙ ap (λ (x : COperand × Writing). int_of_text around place x) A.is ∙ small_written around place small.IntOfText (A.x ∷ []) A.next words

    follow : (program : Program) (p : LlProgram) (numbers : Numbers) (raised : ℕ → Value) (arguments : List (List ℕ)) (rest : List LlOp) (e : LlExit) (frames : List Frame) (core : Core) (world : World) (vs : List Meant)
        → HasStructs p around.layout → HasAll p around.layout numbers raised core (asks_of a ++ Make small.IntOfText ∷ []) w.found → world.left ≡ core.steps → length w.body.types + length (A.new ++ type.Signed ∷ []) ≤ length core.vars → place.variable < length w.body.types → Given around core (a ∷ []) vs
        → Follows around place p arguments (At (A.ops ++ (telling ∷ setting ∷ rest)) e frames core) rest e frames core raised 1 (length w.body.types) world (meant_op program covers row.ToInt vs world)
    follow program p numbers raised arguments rest e frames core world [] structs has left room inside given = absurd given
    follow program p numbers raised arguments rest e frames core world (v ∷ u ∷ vs) structs has left room inside given = absurd given.1
    follow program p numbers raised arguments rest e frames core world (v ∷ []) structs has left room inside given =
        let many : length (A.new ++ type.Signed ∷ []) ≡ length A.new + 1 = length-append A.new (type.Signed ∷ []) in
        let wide : m ≡ length w.body.types + length A.new = ap length A.types ∙ length-append w.body.types A.new in
        let r = A.turns p numbers raised arguments (telling ∷ setting ∷ rest) e frames core v (has_first p around.layout numbers raised core (asks_of a) (Make small.IntOfText ∷ []) w.found has) (omega (arith, room, many)) given.0 in
        let long : length r.mid.vars ≡ length core.vars = r.reached.room in
        let f : ℕ = (small_number small.IntOfText A.next.found).0 in
        let own : HasSmall p around.layout raised small.IntOfText f = subst (λ k. HasSmall p around.layout raised small.IntOfText (small_number small.IntOfText k).0) (sym A.asked) (has_second p around.layout numbers raised core (asks_of a) (Make small.IntOfText ∷ []) w.found has).0 in
        let steps : world.left ≡ r.mid.steps = left ∙ ap (λ (m : Core). m.steps) (sym r.reached.memory) in
        done_behind around place p arguments (At (A.ops ++ (telling ∷ setting ∷ rest)) e frames core) (telling ∷ setting ∷ rest) rest e frames core r.mid raised 1 (length w.body.types) world r.reached (meant_op program covers row.ToInt (v ∷ []) world)
        (followed around place m f (length w.body.types) 1 (A.x ∷ []) words p raised arguments rest e frames r.mid world steps (omega (arith, room, many, wide, long)) (omega (arith, wide)) (omega (arith, room, inside, long)) (ap (λ c. c || false) (stands_set (λ e. absurd (cc)) r.stands)) (meant_op program covers row.ToInt (v ∷ []) world)
        (one r.mid f (operand r.mid.vars A.x) v r.stands structs.text own))
      where
        one : (mid : Core) (f : ℕ) (x : Value) (v : Meant) → Stands mid.blocks mid.statics (type.Ptr 0) x v → HasText p → HasSmall p around.layout raised small.IntOfText f → SmallFollows p arguments f (x ∷ []) mid raised world (meant_op program covers row.ToInt (v ∷ []) world)
        one mid f x v (text y bytes t) texts own = int_does p around.layout raised arguments f mid world x bytes texts own t
        one mid f x v missing texts own = tt
