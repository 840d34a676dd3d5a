-- Slices of strings and bytes call one helper, which takes both bounds.
use Rattle.csub_tree.specs.Operation.{is_unset}
use Rattle.csub_tree.specs.State.{Core, Value}
use Rattle.csub_tree.specs.Statement.{operand, operands, any_unset}
use Rattle.csub_tree.specs.declared.tree.COperand.{COperand}
use Rattle.ll_build.specs.declared.needs.Helper.TheVariants as helper
use Rattle.ll_build.specs.declared.needs.Numbers.{Numbers}
use Rattle.ll_code.specs.State.{Frame, Calling, At}
use Rattle.ll_code.specs.declared.program.LlExit.{LlExit}
use Rattle.ll_code.specs.declared.program.LlOp.TheVariants as op
use Rattle.ll_code.specs.declared.program.LlOp.{LlOp}
use Rattle.ll_code.specs.declared.program.LlProgram.{LlProgram}
use Rattle.ll_code.specs.declared.program.LlType.TheVariants as type
use Rattle.ll_strings.proofs.Slices.{slice_is, up_to_is, from_is, all_is}
use Rattle.ll_strings.specs.Laws.{HasHelper}
use Rattle.ll_texts.specs.Follows.{Follows as HelperFollows}
use Rattle.ll_texts.specs.Stands.{Stands}
use Rattle.lower_laws.proofs.Calls.{called}
use Rattle.lower_laws.proofs.Chained.{chained}
use Rattle.lower_laws.proofs.Coming.{one_comes, two_come, three_come}
use Rattle.lower_laws.proofs.Helps.{gives_helped, stands_set}
use Rattle.lower_laws.proofs.Kept.{helper_kept, given_kept, asked_append, has_first, has_second}
use Rattle.lower_laws.proofs.Typing.{place_of_words}
use Rattle.lower_laws.proofs.Valued.{plain_stands}
use Rattle.lower_laws.specs.Asked.{Help, HasAll}
use Rattle.lower_laws.specs.Done.{Follows, IsDone}
use Rattle.lower_laws.specs.Texted.{asks_of, Takes}
use Rattle.lower_laws.specs.Values.{is_plain, Holds, Given, AllBelow}
use Rattle.rpy_meaning.specs.Classes.{no_covers}
use Rattle.rpy_meaning.specs.Operations.{op as meant_op}
use Rattle.rpy_meaning.specs.Tree.{Program}
use Rattle.rpy_meaning.specs.World.{World}
use Rattle.rpy_meaning.specs.declared.row.RowOp.TheVariants as row
use Rattle.rpy_meaning.specs.declared.row.RowOp.{RowOp}
use Rattle.rpy_tree.specs.Value.{Value as Meant}
use Rattle.rtyper_data.specs.Converting.{give_helped, given}
use Rattle.rtyper_data.specs.Finding.{helper_number}
use Rattle.rtyper_data.specs.Numbers.{word}
use Rattle.rtyper_data.specs.Seen.{Around, Operand, Place, kind_of, Writing, with_op, writing}
use Rattle.rtyper_layout.specs.Kinds.{is_text_or_none}
use Rattle.rtyper_layout.specs.declared.kind.Kind.TheVariants as kind
use Rattle.rtyper_op.specs.Lowering.{lower_op, never_comes}
use Rattle.rtyper_op.specs.Texts.{text_type}
use Rattle.std.proofs.Common.{◌≡◌, ℕ, true, false, List, [], ◌∷◌, pos, refl, ap, ◌∙◌, subst, ◌<◌, ◌≤◌, ◌+◌, Bool, ◌++◌, length, Some, sym, arith, append_assoc}
use Rattle.std.specs.Prelude.{◌||◌, if◌then◌else◌}
use Rattle.lower_laws.proofs.Texted.{Texted, texted, takes_held, text_comes}
use Rattle.slice_laws.specs.Slices.{SlicesAreDone}

-- the greatest word, which is the end of any string
abbrev last : COperand
last = word (pos 9223372036854775807)

abbrev first : COperand
first = word (pos 0)

module _ (around : Around) (site : ℕ) (low high : Bool) (place : Place) (a : Operand) (bounds : List Operand) (l u : COperand) (w : Writing) (takes : Takes around place (type.Ptr 0)) (ka : is_text_or_none (kind_of a) ≡ true) where
  abbrev o : RowOp
  o = row.Slice site low high

  abbrev A : Texted around a w
  A = texted around a w (kind_of a) refl ka

  abbrev calls : LlOp
  calls = op.Call (Some place.variable) (helper_number helper.StrSlice A.next.found).0 (A.x ∷ l ∷ u ∷ [])

  -- what is written is a call with these bounds
  abbrev IsWritten : Type 0
  IsWritten = lower_op around o place (a ∷ bounds) w ≡ (if is_text_or_none (kind_of a) then give_helped around place helper.StrSlice text_type ((given around a text_type w).0 ∷ l ∷ u ∷ []) (given around a text_type w).1 else w)

  -- the helper does what the slice does, once the string is there
  abbrev Law : Type 0
  Law = (program : Program) (p : LlProgram) (arguments : List (List ℕ)) (numbers : Numbers) (f : ℕ) (waits : List Frame) (mid : Core) (world : World) (v : Meant) (vs : List Meant) → HasHelper p numbers helper.StrSlice f mid → world.left ≡ mid.steps
      → Stands mid.blocks mid.statics (type.Ptr 0) (operand mid.vars A.x) v → Given around mid bounds vs
      → (any_unset (operands mid.vars (A.x ∷ l ∷ u ∷ [])) ≡ false) × HelperFollows p arguments (Calling f (operands mid.vars (A.x ∷ l ∷ u ∷ [])) waits mid) waits mid (type.Ptr 0) world (meant_op program no_covers o (v ∷ vs) world)

  module _ (is : IsWritten) (law : Law) where
    written : lower_op around o place (a ∷ bounds) w ≡ writing (helper_number helper.StrSlice A.next.found).1 (with_op calls A.next.body)
    written = is ∙ ap (λ c. if c then give_helped around place helper.StrSlice text_type ((given around a text_type w).0 ∷ l ∷ u ∷ []) (given around a text_type w).1 else w) ka
        ∙ ap (λ (x : COperand × Writing). give_helped around place helper.StrSlice text_type (x.0 ∷ l ∷ u ∷ []) x.1) A.is ∙ gives_helped around place helper.StrSlice text_type (A.x ∷ l ∷ u ∷ []) A.next takes.1

    slice_done : IsDone around o no_covers (asks_of a ++ Help helper.StrSlice ∷ []) place (a ∷ bounds) w
    slice_done = record {
      ops = A.ops ++ calls ∷ [];
      new = A.new;
      asked = ap (λ (r : Writing). r.found) written ∙ ap (λ f. (helper_number helper.StrSlice f).1) A.asked ∙ sym (asked_append (asks_of a) (Help helper.StrSlice ∷ []) w.found);
      written = ap (λ (r : Writing). r.body.ops) written ∙ ap (λ os. os ++ calls ∷ []) A.written ∙ append_assoc w.body.ops A.ops (calls ∷ []);
      types = ap (λ (r : Writing). r.body.types) written ∙ A.types;
      follows = λ program p numbers raised arguments rest e frames core world vs structs has left room inside below given good.
          subst (λ os. Follows around place p arguments (At os e frames core) rest e frames core raised (length (a ∷ bounds)) (length w.body.types) world (meant_op program no_covers o vs world)) (sym (append_assoc A.ops (calls ∷ []) rest))
          (follow program p numbers raised arguments rest e frames core world vs has left room inside below given);
    }
      where
        follow : (program : Program) (p : LlProgram) (numbers : Numbers) (raised : ℕ → Value) (arguments : List (List ℕ)) (rest : List LlOp) (e : LlExit) (frames : List Frame) (core : Core) (world : World) (vs : List Meant)
            → HasAll p around.layout numbers raised core (asks_of a ++ Help helper.StrSlice ∷ []) w.found → world.left ≡ core.steps → length w.body.types + length A.new ≤ length core.vars → place.variable < length w.body.types → AllBelow (length w.body.types) (a ∷ bounds) → Given around core (a ∷ bounds) vs
            → Follows around place p arguments (At (A.ops ++ (calls ∷ rest)) e frames core) rest e frames core raised (length (a ∷ bounds)) (length w.body.types) world (meant_op program no_covers o vs world)
        follow program p numbers raised arguments rest e frames core world [] has left room inside below given = absurd given
        follow program p numbers raised arguments rest e frames core world (v ∷ vs) has left room inside below given =
            let r = A.turns p numbers raised arguments (calls ∷ rest) e frames core v (has_first p around.layout numbers raised core (asks_of a) (Help helper.StrSlice ∷ []) w.found has) room given.0 in
            let long : length r.mid.vars ≡ length core.vars = r.reached.room in
            let f : ℕ = (helper_number helper.StrSlice A.next.found).0 in
            let own : HasHelper p numbers helper.StrSlice f r.mid = helper_kept core r.mid r.reached.memory (subst (λ k. HasHelper p numbers helper.StrSlice (helper_number helper.StrSlice k).0 core) (sym A.asked) (has_second p around.layout numbers raised core (asks_of a) (Help helper.StrSlice ∷ []) w.found has).0) in
            let steps : world.left ≡ r.mid.steps = left ∙ ap (λ (m : Core). m.steps) (sym r.reached.memory) in
            let held : Given around r.mid bounds vs = given_kept core r.mid r.reached.memory (length w.body.types) r.reached.others around bounds vs below.1 given.1 in
            let does = (λ (waits : List Frame). law program p arguments numbers f waits r.mid world v vs own steps r.stands held) in
            chained around place p arguments (At (A.ops ++ (calls ∷ rest)) e frames core) (calls ∷ rest) rest e frames core r.mid raised (length (a ∷ bounds)) (length w.body.types) world (type.Ptr 0) r.reached (takes_held around place (type.Ptr 0) takes) (meant_op program no_covers o (v ∷ vs) world)
            (called p arguments rest e frames r.mid place.variable f (A.x ∷ l ∷ u ∷ []) (type.Ptr 0) (length w.body.types) world (meant_op program no_covers o (v ∷ vs) world) (omega (arith, long, room, inside)) (does []).0 (λ waits. (does waits).1))

-- ---- bounds

-- a word among operands
word_there : (around : Around) (b : Operand) → kind_of b ≡ kind.Word → (core : Core) (u : Meant) → Holds around.layout core.blocks core.statics b.element (operand core.vars b.x) u → Stands core.blocks core.statics type.Signed (operand core.vars b.x) u
word_there around b h core u held = subst (λ s. Stands core.blocks core.statics s (operand core.vars b.x) u) (place_of_words around.layout b.element h) (plain_stands (ap is_plain h) held)

word_comes_so : (b : Operand) → kind_of b ≡ kind.Word → never_comes (kind_of b) ≡ false
word_comes_so b h = ap never_comes h

by_bounds : SlicesAreDone
by_bounds site false false around place a [] w ka kb takes =
    slice_done around site false false place a [] first last w takes ka (one_comes around (row.Slice site false false) place a w (text_comes (kind_of a) ka))
    (λ program p arguments numbers f waits mid world v vs has left st given_so. whole program p arguments numbers f waits mid world v vs has left st given_so)
  where
    whole : Law around site false false place a [] first last w takes ka
    whole program p arguments numbers f waits mid world v [] has left st given_so = (ap (λ c. c || false) (stands_set (λ e. absurd (cc)) st), all_is site program p arguments numbers f waits mid world has left (operand mid.vars (texted around a w (kind_of a) refl ka).x) v st)
    whole program p arguments numbers f waits mid world v (u ∷ vs) has left st given_so = absurd given_so
by_bounds site true false around place a (b ∷ []) w ka kb takes =
    slice_done around site true false place a (b ∷ []) b.x last w takes ka (two_come around (row.Slice site true false) place a b w (text_comes (kind_of a) ka) (word_comes_so b kb)) from
  where
    from : Law around site true false place a (b ∷ []) b.x last w takes ka
    from program p arguments numbers f waits mid world v [] has left st given_so = absurd given_so
    from program p arguments numbers f waits mid world v (u ∷ []) has left st given_so =
        let y = word_there around b kb mid u given_so.0 in
        (ap (λ k. k || (is_unset (operand mid.vars b.x) || false)) (stands_set (λ e. absurd (cc)) st) ∙ ap (λ k. k || false) (stands_set (λ e. absurd (cc)) y), from_is site program p arguments numbers f waits mid world has left (operand mid.vars (texted around a w (kind_of a) refl ka).x) (operand mid.vars b.x) v u st y)
    from program p arguments numbers f waits mid world v (u ∷ s ∷ vs) has left st given_so = absurd given_so.1
by_bounds site false true around place a (b ∷ []) w ka kb takes =
    slice_done around site false true place a (b ∷ []) first b.x w takes ka (two_come around (row.Slice site false true) place a b w (text_comes (kind_of a) ka) (word_comes_so b kb)) up_to
  where
    up_to : Law around site false true place a (b ∷ []) first b.x w takes ka
    up_to program p arguments numbers f waits mid world v [] has left st given_so = absurd given_so
    up_to program p arguments numbers f waits mid world v (u ∷ []) has left st given_so =
        let y = word_there around b kb mid u given_so.0 in
        (ap (λ k. k || (is_unset (operand mid.vars b.x) || false)) (stands_set (λ e. absurd (cc)) st) ∙ ap (λ k. k || false) (stands_set (λ e. absurd (cc)) y), up_to_is site program p arguments numbers f waits mid world has left (operand mid.vars (texted around a w (kind_of a) refl ka).x) (operand mid.vars b.x) v u st y)
    up_to program p arguments numbers f waits mid world v (u ∷ s ∷ vs) has left st given_so = absurd given_so.1
by_bounds site true true around place a (b ∷ c ∷ []) w ka kb takes =
    slice_done around site true true place a (b ∷ c ∷ []) b.x c.x w takes ka (three_come around (row.Slice site true true) place a b c w (text_comes (kind_of a) ka) (word_comes_so b kb.0) (word_comes_so c kb.1)) both
  where
    both : Law around site true true place a (b ∷ c ∷ []) b.x c.x w takes ka
    both program p arguments numbers f waits mid world v [] has left st given_so = absurd given_so
    both program p arguments numbers f waits mid world v (u ∷ []) has left st given_so = absurd given_so.1
    both program p arguments numbers f waits mid world v (u ∷ s ∷ []) has left st given_so =
        let y = word_there around b kb.0 mid u given_so.0 in
        let z = word_there around c kb.1 mid s given_so.1.0 in (
          ap (λ k. k || (is_unset (operand mid.vars b.x) || (is_unset (operand mid.vars c.x) || false))) (stands_set (λ e. absurd (cc)) st) ∙ ap (λ k. k || (is_unset (operand mid.vars c.x) || false)) (stands_set (λ e. absurd (cc)) y) ∙ ap (λ k. k || false) (stands_set (λ e. absurd (cc)) z),
          slice_is site program p arguments numbers f waits mid world has left (operand mid.vars (texted around a w (kind_of a) refl ka).x) (operand mid.vars b.x) (operand mid.vars c.x) v u s st y z,
        )
    both program p arguments numbers f waits mid world v (u ∷ s ∷ r ∷ vs) has left st given_so = absurd given_so.1.1
by_bounds site false false around place a (b ∷ bounds) w ka kb takes = absurd kb
by_bounds site true false around place a [] w ka kb takes = absurd kb
by_bounds site true false around place a (b ∷ c ∷ bounds) w ka kb takes = absurd kb
by_bounds site false true around place a [] w ka kb takes = absurd kb
by_bounds site false true around place a (b ∷ c ∷ bounds) w ka kb takes = absurd kb
by_bounds site true true around place a [] w ka kb takes = absurd kb
by_bounds site true true around place a (b ∷ []) w ka kb takes = absurd kb
by_bounds site true true around place a (b ∷ c ∷ d ∷ bounds) w ka kb takes = absurd kb

pub slices_are_done : SlicesAreDone
slices_are_done = by_bounds
