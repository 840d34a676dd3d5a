-- The number of entries of a dict is read.
use Rattle.std.proofs.Common.{◌≡◌, ◌<◌, ◌≤◌, ℕ, ◌+◌, ◌^◌, ◌⊎◌, inl, inr, List, [], ◌∷◌, ◌++◌, length, Option, Some, pos, refl, sym, ap, ◌∙◌, subst, arith, append_assoc, length-append}
use Rattle.std.specs.Prelude.{slice_get}
use Rattle.std.proofs.lemmas.List.{length-map}
use Rattle.csub_tree.specs.State.{Value, Word, Block, Core}
use Rattle.csub_tree.specs.Statement.{read, operand}
use Rattle.csub_tree.specs.declared.tree.COperand.TheVariants.{Var}
use Rattle.rpy_tree.specs.Value.{Value as Meant, Word as MeantWord}
use Rattle.rpy_meaning.specs.declared.row.RowOp.TheVariants as row
use Rattle.rpy_meaning.specs.Operations.{op as meant_op}
use Rattle.rpy_meaning.specs.Tree.{Program}
use Rattle.rpy_meaning.specs.World.{World, Gives}
use Rattle.rpy_meaning.specs.Methods.{object_length}
use Rattle.ll_code.specs.State.{Frame, State, At}
use Rattle.ll_code.specs.declared.program.LlType.TheVariants as type
use Rattle.ll_code.specs.declared.program.LlOp.{LlOp}
use Rattle.ll_code.specs.declared.program.LlOp.TheVariants as op
use Rattle.ll_code.specs.declared.program.LlExit.{LlExit}
use Rattle.ll_code.specs.declared.program.LlProgram.{LlProgram}
use Rattle.ll_build.specs.declared.needs.Numbers.{Numbers}
use Rattle.ll_leads.specs.Path.{Leads}
use Rattle.ll_leads.proofs.Ways.{on}
use Rattle.ll_texts.specs.Texts.{found}
use Rattle.ll_texts.proofs.Numbers.{fits_count}
use Rattle.rtyper_layout.specs.declared.kind.Kind.{Kind}
use Rattle.rtyper_layout.specs.declared.kind.Kind.TheVariants as kind
use Rattle.rtyper_layout.specs.declared.layout.Layout.{Layout}
use Rattle.rtyper_layout.specs.Kinds.{kind_seen}
use Rattle.rtyper_data.specs.Seen.{Around, Operand, Place, kind_of, type_at, Writing, writing}
use Rattle.rtyper_layout.specs.declared.dicts.Mapping.{Mapping}
use Rattle.rtyper_data.specs.Comparing.{alone}
use Rattle.rtyper_data.specs.Converting.{give_made}
use Rattle.rtyper_dict.specs.Lowering.{counted, len, lower_dict_op, of_dict as of_dict_op, of_dict_or, of_first, of_one}
use Rattle.rtyper_dict.specs.Operands.{dict_of, dict_pointed, of_dict, pointed, shape_in}
use Rattle.rtyper_dict.specs.Parts.{shape_of}
use Rattle.lower_laws.specs.Asked.{all_asked}
use Rattle.lower_laws.specs.Values.{is_plain}
use Rattle.lower_laws.proofs.Doing.{after}
use Rattle.lower_laws.proofs.Single.{sets, gives_word}
use Rattle.lower_laws.proofs.Typing.{place_of_words}
use Rattle.dict_op_laws.specs.Asked.{HasAll}
use Rattle.dict_op_laws.specs.Dicts.{there_asks, DictsHaveLengths, IsDictOf, IsDone}
use Rattle.object_laws.specs.Known.{Known}
use Rattle.object_laws.specs.Done.{Follows, HasLayout, references}
use Rattle.object_laws.specs.Ghost.{Ghost, DictOf}
use Rattle.object_laws.specs.Dicts.{dict_block, keys_of, Arrays, Lacks}
use Rattle.object_laws.specs.Represents.{Represents}
use Rattle.object_laws.specs.Values.{Given, Plain, word, Holds, Stands, of_dict as held_of_dict}
use Rattle.object_laws.proofs.Blocks.{found_set, found_there, reads_field}
use Rattle.object_laws.proofs.Passing.{sets_more, sets_last, is_set_at}
use Rattle.dict_op_laws.proofs.There.{Entered, entered}
use Rattle.object_laws.proofs.Valued.{Dicting, Gone, dict_or_none, each_long}

abbrev pub HeadFound : Core → Value → ℕ → ℕ → ℕ → Value → Value → Type 0
HeadFound core x k count places one two = found core.blocks core.statics x ≡ Some (dict_block k count places one two)

-- a count that fits
count_fits : (layout : Layout) (known : Known) (g : Ghost) (blocks : List (Option Block)) (statics : List Block) (m : Mapping) (i : ℕ) (pairs : List (Meant × Meant)) (places : ℕ) (one two : Value) → places < 2 ^ 62
    → Lacks layout known g blocks statics m i pairs places one two ⊎ Arrays layout known g blocks statics m i pairs places one two → length pairs < 2 ^ 63
count_fits layout known g blocks statics m i pairs places one two few (inl none) = (let e : length pairs ≡ 0 = ap length none.empty in omega (arith, e))
count_fits layout known g blocks statics m i pairs places one two few (inr there) = (let e : length there.keys ≡ length (keys_of pairs) = each_long there.each_key in let f : length (keys_of pairs) ≡ length pairs = length-map pairs (λ (q : Meant × Meant). q.0) in let h = there.key_places in omega (arith, e, f, h, few))

pub same_kind : (k : Kind) → of_dict k ≡ held_of_dict k
same_kind kind.Dict = refl
same_kind kind.MaybeDict = refl
same_kind _ = refl

module _ (known : Known) (around : Around) (place : Place) (a : Operand) (w : Writing) (n : ℕ) (d : Mapping) (is : IsDictOf around a n d) (words : kind_seen place.element ≡ kind.Word) where
  ent : Entered around (type.Ptr d.dict) a w
  ent = entered around (type.Ptr d.dict) a w is.dicts

  abbrev m : ℕ
  m = length (w.body.types ++ ent.new)

  abbrev reads : LlOp
  reads = op.GetField m d.dict ent.x 0

  abbrev puts : LlOp
  puts = op.Set place.variable (Var m)

  ht : type_at around place ≡ type.Signed
  ht = place_of_words around.layout place.element words

  shape_is : dict_of around a ≡ Some (shape_of d)
  unfolding dict_of
  shape_is = ap (dict_pointed around.layout) is.typed ∙ ap shape_in is.mapping

  is_written : lower_dict_op around row.Len place (a ∷ []) w
      ≡ writing (all_asked (there_asks around a w.found.covered) w.found) (record { types = (w.body.types ++ ent.new) ++ type.Signed ∷ []; ops = ((w.body.ops ++ ent.ops) ++ reads ∷ []) ++ puts ∷ [] })
  unfolding lower_dict_op of_first of_dict_op of_one len shape_of
  is_written =
      ap (λ o. of_dict_or around row.Len place o (a ∷ []) w) shape_is
      ∙ ap (λ (made : ℕ × Writing). give_made around place type.Signed (alone made.1.found (counted (shape_of d) (made.0, made.1.body)))) ent.written
      ∙ gives_word around place (Var m) (writing (all_asked (there_asks around a w.found.covered) w.found) (record { types = (w.body.types ++ ent.new) ++ type.Signed ∷ []; ops = (w.body.ops ++ ent.ops) ++ reads ∷ [] })) ht

  module _ (program : Program) (p : LlProgram) (numbers : Numbers) (raised : ℕ → Value) (arguments : List (List ℕ)) (rest : List LlOp) (e : LlExit) (frames : List Frame) (core : Core) (g : Ghost) (world : World)
      (structs : HasLayout p around.layout) (has : HasAll p around.layout numbers raised core (there_asks around a w.found.covered) w.found)
      (stands : Represents around.layout known g world.heap world.left core.blocks core.statics) (left : world.left ≡ core.steps)
      (room : length w.body.types + length (ent.new ++ type.Signed ∷ []) ≤ length core.vars) (inside : place.variable < length w.body.types) where
    abbrev Here : State
    Here = At (ent.ops ++ (reads ∷ puts ∷ rest)) e frames core

    long : length (ent.new ++ type.Signed ∷ []) ≡ length ent.new + 1
    long = length-append ent.new (type.Signed ∷ [])

    m_is : m ≡ length w.body.types + length ent.new
    m_is = length-append w.body.types ent.new

    there : (most : ℕ) (v : Meant) → Dicting around.layout known g a.element (operand core.vars a.x) v → Follows 0 known around place p arguments Here rest e frames core g raised most (length w.body.types) world (meant_op program w.found.covered row.Len (v ∷ []) world)
    there most v it =
        let x : Value = operand core.vars a.x in
        let number : it.n ≡ n = ap pointed (sym it.typed ∙ is.typed) in
        let l = stands.dicts n it.i x d (subst (λ k. slice_get g.homes it.i ≡ Some (record { sort = DictOf k; head = x })) number it.home) is.mapping in
        let count : ℕ = length l.pairs in
        let above : meant_op program w.found.covered row.Len (v ∷ []) world ≡ Gives (MeantWord (pos count)) world = ap (λ v. meant_op program w.found.covered row.Len (v ∷ []) world) it.high ∙ ap (λ o. object_length o world) l.object in
        let went = ent.enters p numbers raised arguments (reads ∷ puts ∷ rest) e frames core has (omega (arith, room, long)) (found_set core.blocks core.statics x _ l.head_is) (found_there core.blocks core.statics x _ l.head_is) in
        let mid : Core = went.mid in
        let wide : m < length mid.vars = (let r = went.passed.room in omega (arith, room, long, m_is, r)) in
        let block_there = subst (λ (c : Core). HeadFound c (read mid.vars ent.x) d.dict count l.places l.one l.two) (sym went.passed.memory) (subst (λ y. HeadFound core y d.dict count l.places l.one l.two) (sym went.is) l.head_is) in
        let reads_it : Leads p arguments 0 (At (reads ∷ puts ∷ rest) e frames mid) [] (At (puts ∷ rest) e frames (after mid m (Word (pos count)))) =
        reads_field 4 (dict_block d.dict count l.places l.one l.two) (Word (pos count)) (structs.dicts n d is.mapping).head block_there refl refl 0 refl in
        let middle : Core = after mid m (Word (pos count)) in
        let holds : Holds around.layout known g place.element (Word (pos count)) (MeantWord (pos count)) = Plain (ap is_plain words) (subst (λ t. Stands g t (Word (pos count)) (MeantWord (pos count))) (sym ht) (word (pos count) (fits_count count (count_fits around.layout known g core.blocks core.statics d it.i l.pairs l.places l.one l.two l.few l.arrays)))) in
        subst (λ answer. Follows 0 known around place p arguments Here rest e frames core g raised most (length w.body.types) world answer) (sym above)
        (sets_last most (length w.body.types) middle (Word (pos count)) (MeantWord (pos count)) stands left (sets_more m (Word (pos count)) (omega (arith, m_is)) went.passed) (omega (arith, room, inside))
        (on went.way (on reads_it (sets (Word (pos count)) (is_set_at mid m (Word (pos count)) wide) refl))) holds)

    missing : (most : ℕ) (v : Meant) → Gone kind.MaybeDict a.element (operand core.vars a.x) v → Follows 0 known around place p arguments Here rest e frames core g raised most (length w.body.types) world (meant_op program w.found.covered row.Len (v ∷ []) world)
    missing most v gone =
        subst (λ v. Follows 0 known around place p arguments Here rest e frames core g raised most (length w.body.types) world (meant_op program w.found.covered row.Len (v ∷ []) world)) (sym gone.high)
        (ent.misses known place p numbers raised arguments (reads ∷ puts ∷ []) rest e frames core g most world has gone.may gone.low)

    either : (most : ℕ) (v : Meant) → Dicting around.layout known g a.element (operand core.vars a.x) v ⊎ Gone kind.MaybeDict a.element (operand core.vars a.x) v → Follows 0 known around place p arguments Here rest e frames core g raised most (length w.body.types) world (meant_op program w.found.covered row.Len (v ∷ []) world)
    either most v (inl it) = there most v it
    either most v (inr gone) = missing most v gone

    follow : (vs : List Meant) → Given known around g core (a ∷ []) vs → Follows 0 known around place p arguments (At ((ent.ops ++ (reads ∷ puts ∷ [])) ++ rest) e frames core) rest e frames core g raised (references world.heap vs) (length w.body.types) world (meant_op program w.found.covered row.Len vs world)
    follow [] given = absurd given
    follow (v ∷ []) given = subst (λ l. Follows 0 known around place p arguments (At l e frames core) rest e frames core g raised (references world.heap (v ∷ [])) (length w.body.types) world (meant_op program w.found.covered row.Len (v ∷ []) world)) (sym (append_assoc ent.ops (reads ∷ puts ∷ []) rest)) (either (references world.heap (v ∷ [])) v (dict_or_none (sym (same_kind (kind_of a)) ∙ is.dicts) given.0))
    follow (v ∷ u ∷ vs) given = absurd given.1

  length_done : IsDone 0 known around row.Len w.found.covered (there_asks around a w.found.covered) place (a ∷ []) w
  length_done = record {
    ops = ent.ops ++ (reads ∷ puts ∷ []);
    new = ent.new ++ type.Signed ∷ [];
    asked = ap (λ (r : Writing). r.found) is_written;
    written = ap (λ (r : Writing). r.body.ops) is_written ∙ append_assoc (w.body.ops ++ ent.ops) (reads ∷ []) (puts ∷ []) ∙ append_assoc w.body.ops ent.ops (reads ∷ puts ∷ []);
    types = ap (λ (r : Writing). r.body.types) is_written ∙ append_assoc w.body.types ent.new (type.Signed ∷ []);
    follows = λ p numbers raised arguments rest e frames core g world vs structs has stands left room inside below given good. follow known.program p numbers raised arguments rest e frames core g world structs has stands left room inside vs given;
  }

pub dicts_have_lengths : DictsHaveLengths
dicts_have_lengths known around place a w n m is words = length_done known around place a w n m is words
