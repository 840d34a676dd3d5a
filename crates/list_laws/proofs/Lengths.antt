-- The length of a list is read.
use Rattle.std.proofs.Common.{◌≡◌, ◌<◌, ◌≤◌, ℕ, ◌+◌, ◌^◌, ◌⊎◌, inl, inr, true, List, [], ◌∷◌, ◌++◌, length, Some, None, pos, refl, sym, ap, ◌∙◌, subst, arith, append_assoc, length-append}
use Rattle.csub_tree.specs.State.{Value, Word, Core}
use Rattle.csub_tree.specs.Layout.{shape_at, shape_over}
use Rattle.csub_tree.specs.Statement.{read, operand}
use Rattle.csub_tree.specs.declared.tree.COperand.TheVariants.{Var}
use Rattle.rpy_tree.specs.Value.{Value as Meant, Word as MeantWord}
use Rattle.rpy_meaning.specs.declared.row.RowOp.TheVariants as row
use Rattle.rpy_meaning.specs.Operations.{op as meant_op}
use Rattle.rpy_meaning.specs.Tree.{Program}
use Rattle.rpy_meaning.specs.World.{World, Gives}
use Rattle.rpy_meaning.specs.Methods.{object_length}
use Rattle.ll_code.specs.State.{Frame, State, At}
use Rattle.ll_code.specs.Machine.{shapes_of}
use Rattle.ll_code.specs.declared.program.LlType.TheVariants as type
use Rattle.ll_code.specs.declared.program.LlOp.{LlOp}
use Rattle.ll_code.specs.declared.program.LlOp.TheVariants as op
use Rattle.ll_code.specs.declared.program.LlExit.{LlExit}
use Rattle.ll_code.specs.declared.program.LlProgram.{LlProgram}
use Rattle.ll_build.specs.declared.needs.Numbers.{Numbers}
use Rattle.ll_leads.specs.Path.{Leads}
use Rattle.ll_leads.proofs.Ways.{on}
use Rattle.ll_texts.specs.Texts.{found}
use Rattle.ll_texts.proofs.Numbers.{fits_count}
use Rattle.rtyper_layout.specs.declared.kind.Kind.TheVariants as kind
use Rattle.rtyper_layout.specs.Kinds.{kind_seen}
use Rattle.rtyper_data.specs.Seen.{Around, Operand, Place, kind_of, type_at, Writing, writing}
use Rattle.list_shape.specs.Shapes.{taking}
use Rattle.rtyper_list.specs.Items.{shape_in, len, length_in, give_length}
use Rattle.rtyper_list.specs.Lowering.{lowered, of_some, first_of_one, lower_list_op}
use Rattle.rtyper_list.specs.Operands.{of_list, list_of, pointed}
use Rattle.lower_laws.specs.Asked.{all_asked}
use Rattle.lower_laws.specs.Values.{is_plain}
use Rattle.lower_laws.proofs.Doing.{after}
use Rattle.lower_laws.proofs.Single.{sets, gives_word}
use Rattle.lower_laws.proofs.Typing.{place_of_words}
use Rattle.list_laws.specs.Done.{IsDone}
use Rattle.list_laws.specs.Asked.{HasAll}
use Rattle.object_laws.specs.Known.{Known}
use Rattle.object_laws.specs.Done.{Follows, HasLayout, references}
use Rattle.object_laws.specs.Ghost.{Ghost}
use Rattle.list_laws.specs.Lists.{there_asks, LengthsAreRead}
use Rattle.object_laws.specs.Represents.{Represents, head_block}
use Rattle.object_laws.specs.Values.{Given, Plain, word, Holds, Stands}
use Rattle.object_laws.proofs.Blocks.{found_set, found_there, reads_field}
use Rattle.list_laws.proofs.Lowered.{list_comes, one_comes, first_is_list}
use Rattle.object_laws.proofs.Passing.{sets_more, sets_last, is_set_at}
use Rattle.list_laws.proofs.There.{Entered, entered}
use Rattle.object_laws.proofs.Valued.{Listing, Absent, list_or_none, each_long}

-- a count that fits
pub count_fits : (xs ys : List Value) (vs : List Meant) → length (xs ++ ys) < 2 ^ 63 → length xs ≡ length vs → length vs < 2 ^ 63
count_fits xs ys vs long same = (let l : length (xs ++ ys) ≡ length xs + length ys = length-append xs ys in omega (arith, long, same, l))

abbrev pub HeadShape : LlProgram → ℕ → Type 0
HeadShape p k = shape_at (shapes_of p.structs) k ≡ shape_over k 2 None

abbrev pub HeadFound : Core → Value → ℕ → ℕ → Value → Type 0
HeadFound core x n count array = found core.blocks core.statics x ≡ Some (head_block n count array)

module _ (known : Known) (around : Around) (place : Place) (a : Operand) (w : Writing) (lists : of_list (kind_of a) ≡ true) (words : kind_seen place.element ≡ kind.Word) where
  ent : Entered around a w
  ent = entered around a w lists

  abbrev n : ℕ
  n = list_of around a

  abbrev m : ℕ
  m = length (w.body.types ++ ent.new)

  abbrev reads : LlOp
  reads = op.GetField m n ent.x 0

  abbrev puts : LlOp
  puts = op.Set place.variable (Var m)

  ht : type_at around place ≡ type.Signed
  ht = place_of_words around.layout place.element words

  is_written : lower_list_op around row.Len place (a ∷ []) w
      ≡ writing (all_asked (there_asks around a w.found.covered) w.found) (record { types = (w.body.types ++ ent.new) ++ type.Signed ∷ []; ops = ((w.body.ops ++ ent.ops) ++ reads ∷ []) ++ puts ∷ [] })
  unfolding lowered of_some first_of_one len
  is_written =
      one_comes around row.Len place a w (list_comes a lists)
      ∙ first_is_list around row.Len place a w lists
      ∙ ap (λ made. taking made (λ x next. give_length around place next.found (length_in (shape_in around a) (x, next.body)))) ent.written
      ∙ gives_word around place (Var m) (writing (all_asked (there_asks around a w.found.covered) w.found) (record { types = (w.body.types ++ ent.new) ++ type.Signed ∷ []; ops = (w.body.ops ++ ent.ops) ++ reads ∷ [] })) ht

  module _ (program : Program) (p : LlProgram) (numbers : Numbers) (raised : ℕ → Value) (arguments : List (List ℕ)) (rest : List LlOp) (e : LlExit) (frames : List Frame) (core : Core) (g : Ghost) (world : World)
      (structs : HasLayout p around.layout) (has : HasAll p around.layout numbers raised core (there_asks around a w.found.covered) w.found)
      (stands : Represents around.layout known g world.heap world.left core.blocks core.statics) (left : world.left ≡ core.steps)
      (room : length w.body.types + length (ent.new ++ type.Signed ∷ []) ≤ length core.vars) (inside : place.variable < length w.body.types) where
    abbrev Here : State
    Here = At (ent.ops ++ (reads ∷ puts ∷ rest)) e frames core

    long : length (ent.new ++ type.Signed ∷ []) ≡ length ent.new + 1
    long = length-append ent.new (type.Signed ∷ [])

    m_is : m ≡ length w.body.types + length ent.new
    m_is = length-append w.body.types ent.new

    there : (most : ℕ) (v : Meant) → Listing around.layout known g a.element (operand core.vars a.x) v → Follows 2 known around place p arguments Here rest e frames core g raised most (length w.body.types) world (meant_op program w.found.covered row.Len (v ∷ []) world)
    unfolding list_of
    there most v it =
        let x : Value = operand core.vars a.x in
        let l = stands.lists it.n it.i x it.home it.struct in
        let count : ℕ = length l.items in
        let above : meant_op program w.found.covered row.Len (v ∷ []) world ≡ Gives (MeantWord (pos count)) world = ap (λ v. meant_op program w.found.covered row.Len (v ∷ []) world) it.high ∙ ap (λ o. object_length o world) l.object in
        let number : it.n ≡ n = ap pointed (sym it.typed) in
        let went = ent.enters p numbers raised arguments (reads ∷ puts ∷ rest) e frames core has (omega (arith, room, long)) (found_set core.blocks core.statics x _ l.head_is) (found_there core.blocks core.statics x _ l.head_is) in
        let mid : Core = went.mid in
        let wide : m < length mid.vars = (let r = went.passed.room in omega (arith, room, long, m_is, r)) in
        let shape = subst (λ k. HeadShape p k) number (structs.heads it.n it.struct) in
        let block_there = subst (λ (c : Core). HeadFound c (read mid.vars ent.x) it.n count l.array) (sym went.passed.memory) (subst (λ y. HeadFound core y it.n count l.array) (sym went.is) l.head_is) in
        let reads_it : Leads p arguments 0 (At (reads ∷ puts ∷ rest) e frames mid) [] (At (puts ∷ rest) e frames (after mid m (Word (pos count)))) =
        reads_field 2 (head_block it.n count l.array) (Word (pos count)) shape block_there number refl 0 refl in
        let middle : Core = after mid m (Word (pos count)) in
        let holds : Holds around.layout known g place.element (Word (pos count)) (MeantWord (pos count)) = Plain (ap is_plain words) (subst (λ t. Stands g t (Word (pos count)) (MeantWord (pos count))) (sym ht) (word (pos count) (fits_count count (count_fits l.values l.spare l.items l.long (each_long l.each))))) in
        subst (λ answer. Follows 2 known around place p arguments Here rest e frames core g raised most (length w.body.types) world answer) (sym above)
        (sets_last most (length w.body.types) middle (Word (pos count)) (MeantWord (pos count)) stands left (sets_more m (Word (pos count)) (omega (arith, m_is)) went.passed) (omega (arith, room, inside))
        (on went.way (on reads_it (sets (Word (pos count)) (is_set_at mid m (Word (pos count)) wide) refl))) holds)

    missing : (most : ℕ) (v : Meant) → Absent a.element (operand core.vars a.x) v → Follows 2 known around place p arguments Here rest e frames core g raised most (length w.body.types) world (meant_op program w.found.covered row.Len (v ∷ []) world)
    missing most v gone =
        subst (λ v. Follows 2 known around place p arguments Here rest e frames core g raised most (length w.body.types) world (meant_op program w.found.covered row.Len (v ∷ []) world)) (sym gone.high)
        (ent.misses known place p numbers raised arguments (reads ∷ puts ∷ []) rest e frames core g most world has gone.may gone.low)

    either : (most : ℕ) (v : Meant) → Listing around.layout known g a.element (operand core.vars a.x) v ⊎ Absent a.element (operand core.vars a.x) v → Follows 2 known around place p arguments Here rest e frames core g raised most (length w.body.types) world (meant_op program w.found.covered row.Len (v ∷ []) world)
    either most v (inl it) = there most v it
    either most v (inr gone) = missing most v gone

    follow : (vs : List Meant) → Given known around g core (a ∷ []) vs → Follows 2 known around place p arguments (At ((ent.ops ++ (reads ∷ puts ∷ [])) ++ rest) e frames core) rest e frames core g raised (references world.heap vs) (length w.body.types) world (meant_op program w.found.covered row.Len vs world)
    follow [] given = absurd given
    follow (v ∷ []) given = subst (λ l. Follows 2 known around place p arguments (At l e frames core) rest e frames core g raised (references world.heap (v ∷ [])) (length w.body.types) world (meant_op program w.found.covered row.Len (v ∷ []) world)) (sym (append_assoc ent.ops (reads ∷ puts ∷ []) rest)) (either (references world.heap (v ∷ [])) v (list_or_none lists given.0))
    follow (v ∷ u ∷ vs) given = absurd given.1

  pub length_done : IsDone known around row.Len w.found.covered (there_asks around a w.found.covered) place (a ∷ []) w
  length_done = record {
    ops = ent.ops ++ (reads ∷ puts ∷ []);
    new = ent.new ++ type.Signed ∷ [];
    asked = ap (λ (r : Writing). r.found) is_written;
    written = ap (λ (r : Writing). r.body.ops) is_written ∙ append_assoc (w.body.ops ++ ent.ops) (reads ∷ []) (puts ∷ []) ∙ append_assoc w.body.ops ent.ops (reads ∷ puts ∷ []);
    types = ap (λ (r : Writing). r.body.types) is_written ∙ append_assoc w.body.types ent.new (type.Signed ∷ []);
    follows = λ p numbers raised arguments rest e frames core g world vs structs has stands left room inside below given good. follow known.program p numbers raised arguments rest e frames core g world structs has stands left room inside vs given;
  }

pub lengths_are_read : LengthsAreRead
lengths_are_read known around place a w lists words = length_done known around place a w lists words
