-- The truth of values, and its opposite.
use Rattle.std.proofs.Common.{◌≡◌, ◌⊎◌, inl, inr, ℕ, not, Bool, true, false, List, [], ◌∷◌, Option, Some, None, refl, sym, ap, ◌∙◌, subst}
use Rattle.std.specs.Prelude.{◌&&◌, if◌then◌else◌}
use Rattle.ann_element.specs.declared.element.Element.{Element}
use Rattle.ann_element.specs.declared.element.Element.TheVariants as element
use Rattle.ann_lattice.specs.Kind.{is_nothing, misfit}
use Rattle.ann_lattice.specs.Row.{negated, of_none, of_one, of_three, of_two, truth_of}
use Rattle.ann_lattice.specs.Shape.{One, Any as AnyWidth, OrNone, Shape, Nothing, NoneOnly, Truth, Num, Str, Tup, Lst, Dct, Inst, Fun, Clash, shape}
use Rattle.class_desc.specs.Tables.{Tables}
use Rattle.class_laws.specs.Instances.{IsTruth}
use Rattle.class_laws.proofs.Lowered.{class_one}
use Rattle.class_laws.proofs.Truths as class_truths
use Rattle.csub_tree.specs.State.{Core}
use Rattle.csub_tree.specs.declared.tree.COperand.TheVariants.{Var}
use Rattle.csub_tree.specs.Statement.{operand as value_of}
use Rattle.dict_op_laws.specs.Dicts.{DictsCountAsTrue}
use Rattle.dict_op_laws.proofs.Truths as dict_truths
use Rattle.flow_graph.specs.declared.graph.Graph.{Graph}
use Rattle.flow_graph.specs.declared.graph.Op.{Op}
use Rattle.list_laws.specs.Presence.{ListsCountAsTrue}
use Rattle.list_laws.proofs.Truths as list_truths
use Rattle.ll_build.specs.declared.needs.Helper.TheVariants as helper
use Rattle.ll_code.specs.declared.program.LlType.TheVariants as type
use Rattle.lower_laws.specs.Asked.{Ask, Help, Make}
use Rattle.lower_laws.specs.Done.{IsDone as IsPlainlyDone}
use Rattle.lower_laws.specs.Follows.{OnFlag, OnWord}
use Rattle.lower_laws.specs.Helped.{IsText}
use Rattle.lower_laws.specs.Values.{is_plain}
use Rattle.lower_laws.proofs.Bridged.{followed_is_done, helped_is_done}
use Rattle.lower_laws.proofs.Coming.{Comes, one_comes}
use Rattle.lower_laws.proofs.Compared.{truth_is_helped, untrue_is_helped}
use Rattle.lower_laws.proofs.Single.{gives_flag, not_is_followed, truth_is_followed}
use Rattle.lower_laws.proofs.Truths.{word_truth_is_followed, word_untrue_is_followed}
use Rattle.lower_laws.proofs.Typing.{is_flag, is_text, is_word, place_of_bytes, place_of_flags}
use Rattle.object_laws.specs.Ghost.{Ghost}
use Rattle.object_laws.specs.Values.{Holds, Plain, Stands, of_dict}
use Rattle.object_laws.specs.Values as values
use Rattle.object_laws.proofs.Nothings.{nothing_held}
use Rattle.object_laws.proofs.Valued.{OfFunction, Gone, function_or_none, plain_stands}
use Rattle.rpy_meaning.specs.Operations.{is_not_true, is_true, op as meant_op, opposite, truth_in}
use Rattle.rpy_meaning.specs.World.{World as MeantWorld, Gives, flag_if_any}
use Rattle.rpy_meaning.specs.declared.row.Covers.{Covers}
use Rattle.rpy_meaning.specs.declared.row.RowOp.{RowOp}
use Rattle.rpy_meaning.specs.declared.row.RowOp.TheVariants as row
use Rattle.rpy_tree.specs.Value.{Value as Meant, Flag as MeantFlag}
use Rattle.rtyper_class.specs.Lowering.{lowered as class_lowered, lower_class_op, of_some as class_of_some, of_one as class_of_one}
use Rattle.rtyper_class.specs.Seen.{World}
use Rattle.rtyper_data.specs.declared.small.Keyed.TheVariants as keyed
use Rattle.rtyper_data.specs.declared.small.Listed.TheVariants as listed
use Rattle.rtyper_data.specs.declared.small.Small.TheVariants as small
use Rattle.rtyper_data.specs.Comparing.{flag}
use Rattle.rtyper_data.specs.Seen.{Around, Operand, Place, kind_of, Writing}
use Rattle.rtyper_layout.specs.declared.kind.Kind.{Kind}
use Rattle.rtyper_layout.specs.declared.kind.Kind.TheVariants as kind
use Rattle.rtyper_layout.specs.Kinds.{kind_of as kind_of_element, kind_seen}
use Rattle.rtyper_layout.specs.Types.{type_of}
use Rattle.rtyper_list.specs.Lowering.{lowered as list_lowered, lower_list_op, of_some as list_of_some}
use Rattle.rtyper_list.specs.Operands.{is_list, of_list}
use Rattle.rtyper_op.specs.Lowering.{lower_op, never_comes, of_one as op_of_one, of_some}
use Rattle.rtyper_op.specs.Texts.{tested_to, truth_by, truth_of as truth_written}
use Rattle.rtyper_op.specs.declared.text.Test.{Test}
use Rattle.rtyper_op.specs.declared.text.Test.TheVariants.{Known}
use Rattle.ll_code.specs.declared.program.LlType.{LlType}
use Rattle.csub_tree.specs.State.{Value}
use Rattle.rtyper_program.specs.Blocks.{lowered}
use Rattle.rtyper_program.specs.Raises.{is_covered}
use Rattle.rtyper_program.specs.Seen.{operand_of, place_of}
use Rattle.rtyped_runs.specs.Laws.{before, of_classes, of_dicts, of_lists}
use Rattle.typed_rows.specs.Programs.{Typed, IsTyped, layout, same, world}
use Rattle.typed_rows.specs.Rows.{FirstIs, IsOp, IsWritten, RowIsWrittenWhere, lowered_in}
use Rattle.value_rows.proofs.Asking.{grows_to}
use Rattle.value_rows.proofs.Copies.{comes, first_is, held_by, typed_by}
use Rattle.value_rows.proofs.Laid.{class_laid, dict_laid, function_laid, list_laid}
use Rattle.value_rows.proofs.Lowering.{no_dict, one_unlisted}
use Rattle.value_rows.proofs.Operands.{Above, IsOperand, IsPlain, OneIsWritten, misfits, rows_of_one, with_args}
use Rattle.value_rows.proofs.Placing.{Whenever, set_is_written}
use Rattle.value_rows.proofs.Premises.{Few, dicts_stand, helps_stand, is_written, lists_stand, nothing_stands}
use Rattle.value_rows.proofs.Shaped.{flag_kind, kind_at, kind_in, no, truth_above}
use Rattle.value_rows.proofs.Single.{IsOneRow, one_written, plain_one, unlisted}
use Rattle.value_rows.proofs.Throwing.{flags_fine, one_fine}
use Rattle.value_rows.proofs.Words.{kind_given, kind_there}
use Rattle.compared_rows.specs.Comparing.{has_truth}

plain_text : {around : Around} {a : Operand} → IsText around a → (is_plain (kind_of a) && true) ≡ true
plain_text {a = a} h = by (kind_of a) h.kind
  where
    by : (k : Kind) → (k ≡ kind.Text) ⊎ (k ≡ kind.MaybeText) → (is_plain k && true) ≡ true
    by k (inl e) = ap (λ k. is_plain k && true) e
    by k (inr e) = ap (λ k. is_plain k && true) e

-- the truth of a value, or its opposite: how it is lowered, and its laws
record IsTest (r : RowOp) (reversed : Bool) : Type 0 where
  plain : IsPlain r
  zero : of_none r ≡ misfit
  two : (tables : Tables) (x y : Shape) → of_two tables r x y Nothing ≡ misfit
  three : (x y z : Shape) → of_three r x y z ≡ misfit
  one : (tables : Tables) (x : Shape) → of_one tables r x Nothing ≡ (if reversed then negated (truth_of x) else truth_of x)
  lowers : (world : World) (place : Place) (a : Operand) (w : Writing) → Comes a → is_list a ≡ false → lowered world r place (a ∷ []) w ≡ lower_op world.around r place (a ∷ []) w
  as_list : (world : World) (place : Place) (a : Operand) (w : Writing) → Comes a → lowered world r place (a ∷ []) w ≡ lower_list_op world.around r place (a ∷ []) w
  as_class : (world : World) (place : Place) (a : Operand) (w : Writing) → lowered world r place (a ∷ []) w ≡ lower_class_op world r place (a ∷ []) w
  tests : (around : Around) (place : Place) (a : Operand) (w : Writing) → Comes a → lower_op around r place (a ∷ []) w ≡ tested_to around place reversed (truth_by (kind_of a) around a w).0 (truth_by (kind_of a) around a w).1
  means : (t : Typed) (c : Covers) (v : Meant) (w : MeantWorld) (b : Bool) → truth_in w v ≡ Some b → meant_op t.seen.program c r (v ∷ []) w ≡ Gives (MeantFlag (if reversed then not b else b)) w
  fine : (t : Typed) (n : ℕ) (graph : Graph) (o : Op) (a : ℕ) → Few t n graph (with_args r (a ∷ []) o)
  words : OnWord r type.Bool
  flags : OnFlag r type.Bool
  texts : (around : Around) (place : Place) (a : Operand) (w : Writing) → IsText around a → kind_seen place.element ≡ kind.Flag → IsPlainlyDone around r w.found.covered (Help helper.StrTruth ∷ []) place (a ∷ []) w
  lists : ListsCountAsTrue r
  dicts : DictsCountAsTrue r
  instances : IsTruth r

module _ (r : RowOp) (reversed : Bool) (it : IsTest r reversed) where
  -- the kinds that laws of values tell of
  word_row : IsOneRow kind.Word kind.Flag r (λ c. [])
  word_row = record {
    law = λ around place a w ka kc. followed_is_done around r place (a ∷ []) w (it.words around place a w (is_word around a ka) (place_of_flags around.layout place.element kc)) (ap is_plain kc) (plain_one a kind.Word refl ka) w.found.covered;
    lowers = λ world place a w ka. it.lowers world place a w (ap never_comes ka) (ap of_list ka);
    stand = λ c. nothing_stands;
    few = λ t n graph o a ka. it.fine t n graph o a;
    simple = (refl, refl);
  }

  flag_row : IsOneRow kind.Flag kind.Flag r (λ c. [])
  flag_row = record {
    law = λ around place a w ka kc. followed_is_done around r place (a ∷ []) w (it.flags around place a w (is_flag around a ka) (place_of_flags around.layout place.element kc)) (ap is_plain kc) (plain_one a kind.Flag refl ka) w.found.covered;
    lowers = λ world place a w ka. it.lowers world place a w (ap never_comes ka) (ap of_list ka);
    stand = λ c. nothing_stands;
    few = λ t n graph o a ka. it.fine t n graph o a;
    simple = (refl, refl);
  }

  text_row : IsOneRow kind.Text kind.Flag r (λ c. Help helper.StrTruth ∷ [])
  text_row = record {
    law = λ around place a w ka kc. it.texts around place a w (is_text around a (inl ka)) kc;
    lowers = λ world place a w ka. it.lowers world place a w (ap never_comes ka) (ap of_list ka);
    stand = λ c. helps_stand helper.StrTruth (λ c. refl);
    few = λ t n graph o a ka. it.fine t n graph o a;
    simple = (refl, refl);
  }

  maybe_row : IsOneRow kind.MaybeText kind.Flag r (λ c. Help helper.StrTruth ∷ [])
  maybe_row = record {
    law = λ around place a w ka kc. it.texts around place a w (is_text around a (inr ka)) kc;
    lowers = λ world place a w ka. it.lowers world place a w (ap never_comes ka) (ap of_list ka);
    stand = λ c. helps_stand helper.StrTruth (λ c. refl);
    few = λ t n graph o a ka. it.fine t n graph o a;
    simple = (refl, refl);
  }

  module _ (t : Typed) (typed : IsTyped t) (n : ℕ) (graph : Graph) (q : Op) (a : ℕ) (x : Element) (is : IsOp t n (with_args r (a ∷ []) q)) (operand : IsOperand t n a x) where
    abbrev testing : Op
    testing = with_args r (a ∷ []) q

    abbrev held : Operand
    held = operand_of (lowered_in t n graph) a

    abbrev at : Place
    at = place_of (lowered_in t n graph) q.result

    -- what always has this truth
    known_written : (k : Kind) (b : Bool) → kind_of_element x ≡ k → of_list k ≡ false → ((around : Around) (a : Operand) (w : Writing) → truth_by k around a w ≡ (Known b, w)) → kind_of_element is.result ≡ kind.Flag
        → Whenever t n graph testing (λ g core w vs. (v : Meant) → vs ≡ v ∷ [] → truth_in w v ≡ Some b) → IsWritten t n graph testing
    known_written k b kx unlisted known kz told w early late room =
        let ka = kind_there t n graph a x k operand kx in
        let kc = kind_given t n graph testing is kind.Flag kz in
        set_is_written t typed n graph testing is w room (flag (if reversed then not b else b))
        (it.lowers (world t) at held (before testing w) (comes t n graph a x operand) (ap of_list ka ∙ unlisted) ∙ it.tests (world t).around at held (before testing w) (comes t n graph a x operand)
        ∙ ap (λ k. tested_to (world t).around at reversed (truth_by k (world t).around held (before testing w)).0 (truth_by k (world t).around held (before testing w)).1) ka
        ∙ ap (λ (m : Test × Writing). tested_to (world t).around at reversed m.0 m.1) (known (world t).around held (before testing w))
        ∙ gives_flag (world t).around at (flag (if reversed then not b else b)) (before testing w) (place_of_flags (layout t) at.element kc))
        (gives kc)
      where
        gives : kind_seen at.element ≡ kind.Flag → Whenever t n graph testing (λ g core w vs. (v : Meant) × (meant_op t.seen.program q.covered r vs w ≡ Gives v w) × Holds (layout t) t.seen g at.element (value_of core.vars (flag (if reversed then not b else b))) v)
        gives kc g core w [] memory given good = absurd given
        gives kc g core w (v ∷ []) memory given good =
            (MeantFlag (if reversed then not b else b), it.means t q.covered v w b (told g core w (v ∷ []) memory given good v refl), Plain (ap is_plain kc) (subst (λ u. Stands g u (value_of core.vars (flag (if reversed then not b else b))) (MeantFlag (if reversed then not b else b))) (sym (place_of_flags (layout t) at.element kc)) (values.flag (if reversed then not b else b))))
        gives kc g core w (v ∷ u ∷ vs) memory given good = absurd given.1

    -- one value, of which this holds
    one_value : (So : MeantWorld → Meant → Type 0) → ((g : Ghost) (core : Core) (w : MeantWorld) (v : Meant) → Holds (layout t) t.seen g (Some x) (value_of core.vars (Var a)) v → So w v) → Whenever t n graph testing (λ g core w vs. (v : Meant) → vs ≡ v ∷ [] → So w v)
    one_value So so g core w [] memory given good v e = absurd given
    one_value So so g core w (u ∷ []) memory given good v e = (let k : u ∷ [] ≡ v ∷ [] = e in let m : u ≡ v = cc in subst (So w) m (so g core w u (held_by t n graph g core a x u operand given.0)))
    one_value So so g core w (u ∷ s ∷ vs) memory given good v e = absurd given.1

    -- what the truth of a shape is
    truths : (s : Shape) → (s ≡ Nothing → ⊥) → ((b : Option Bool) × (truth_of s ≡ Truth b)) ⊎ (truth_of s ≡ misfit)
    truths Nothing some = absurd (some refl)
    truths NoneOnly some = inl (Some false, refl)
    truths (Truth b) some = inl (b, refl)
    truths (Num b) some = inl (None, refl)
    truths (Str b) some = inl (None, refl)
    truths (Tup xs) some = inr refl
    truths (Lst s o) some = inl (None, refl)
    truths (Dct s o) some = inl (None, refl)
    truths (Inst c true) some = inl (None, refl)
    truths (Inst c false) some = inl (Some true, refl)
    truths (Fun fs true) some = inl (None, refl)
    truths (Fun fs false) some = inl (Some true, refl)
    truths (Clash o p) some = inr refl

    result_flag : (b : Option Bool) → Above t n r testing is (Truth b) → kind_of_element is.result ≡ kind.Flag
    result_flag b met = flag_kind is.result (truth_above t.whole.tables.classes t.assigned.same b (shape is.result) met is.fits.free)

    list_written : (s : ℕ) (o : Bool) → shape x ≡ Lst s o → kind_of_element is.result ≡ kind.Flag → IsWritten t n graph testing
    list_written s o e kz w early late room =
        let h = list_laid (layout t) (same t) s o operand.laid e in
        let is_listed : of_list (kind_of held) ≡ true = ap (λ e. of_list (kind_seen e)) operand.is ∙ ap of_list (kind_at x (Lst s o) e) ∙ list_kind o in
        let asks : List Ask = Make (small.Listed (listed.Truth h.n)) ∷ [] in
        is_written of_lists t typed n graph testing is (it.fine t n graph q a) w late room 0 asks (λ l. lists_stand t typed asks (before testing w).found (grows_to q.covered early) l (tt, tt))
        (lower_list_op (world t).around r at (held ∷ []) (before testing w)) (it.as_list (world t) at held (before testing w) (comes t n graph a x operand))
        (it.lists t.seen (world t).around at held (before testing w) q.covered h.n is_listed (typed_by t n graph a x operand ∙ ap (type_of (layout t)) h.is ∙ h.typed) (kind_given t n graph testing is kind.Flag kz))
      where
        list_kind : (o : Bool) → of_list (kind_in (Lst s o)) ≡ true
        list_kind true = refl
        list_kind false = refl

    dict_written : (s : ℕ) (o : Bool) → shape x ≡ Dct s o → kind_of_element is.result ≡ kind.Flag → IsWritten t n graph testing
    dict_written s o e kz w early late room =
        let h = dict_laid (layout t) (same t) s o operand.laid e in
        let d = typed.structs.dicts s h.n o h.typed in
        let mapped : of_dict (kind_of held) ≡ true = ap (λ e. of_dict (kind_seen e)) operand.is ∙ ap of_dict (kind_at x (Dct s o) e) ∙ dict_kind o in
        let asks : List Ask = Make (small.Keyed (keyed.Truth h.n)) ∷ [] in
        is_written of_dicts t typed n graph testing is (it.fine t n graph q a) w late room 0 asks (λ l. dicts_stand t typed asks (before testing w).found (grows_to q.covered early) l (tt, tt))
        (lower_list_op (world t).around r at (held ∷ []) (before testing w)) (it.as_list (world t) at held (before testing w) (comes t n graph a x operand))
        (it.dicts t.seen (world t).around at held (before testing w) q.covered h.n d.mapping (record { dicts = mapped; typed = typed_by t n graph a x operand ∙ ap (type_of (layout t)) h.is ∙ h.typed; mapping = d.is }) (kind_given t n graph testing is kind.Flag kz))
      where
        dict_kind : (o : Bool) → of_dict (kind_in (Dct s o)) ≡ true
        dict_kind true = refl
        dict_kind false = refl

    instance_written : (c : ℕ) (o : Bool) → shape x ≡ Inst c o → kind_of_element is.result ≡ kind.Flag → IsWritten t n graph testing
    instance_written c o e kz w early late room =
        let h = class_laid (layout t) (same t) c o operand.laid e in
        is_written of_classes t typed n graph testing is (it.fine t n graph q a) w late room 0 [] (λ l core g heap memory. tt)
        (lower_class_op (world t) r at (held ∷ []) (before testing w)) (it.as_class (world t) at held (before testing w))
        (it.instances (world t) t.seen at held (before testing w) c o q.covered (operand.is ∙ ap (λ e. Some e) h.is) (kind_given t n graph testing is kind.Flag kz))

    function_true : (fs : List ℕ) → shape x ≡ Fun fs false → (g : Ghost) (core : Core) (w : MeantWorld) (v : Meant) → Holds (layout t) t.seen g (Some x) (value_of core.vars (Var a)) v → truth_in w v ≡ Some true
    function_true fs e g core w v held =
        let h : x ≡ element.Func fs false = function_laid (layout t) (same t) fs false operand.laid e in
        by (function_or_none fs false (ap (λ e. Some e) h) held)
      where
        by : OfFunction t.seen fs (value_of core.vars (Var a)) v ⊎ ((false ≡ true) × Gone kind.MaybeFunction (Some x) (value_of core.vars (Var a)) v) → truth_in w v ≡ Some true
        by (inl f) = ap (truth_in w) f.high
        by (inr gone) = absurd (no gone.0)

    byte_true : shape x ≡ Str One → (g : Ghost) (core : Core) (w : MeantWorld) (v : Meant) → Holds (layout t) t.seen g (Some x) (value_of core.vars (Var a)) v → truth_in w v ≡ Some true
    byte_true e g core w v held =
        let k = kind_at x (Str One) e in
        by (subst (λ u. Stands g u (value_of core.vars (Var a)) v) (place_of_bytes (layout t) (Some x) k) (plain_stands (ap is_plain k) held)) refl
      where
        by : {u : LlType} {y : Value} {v : Meant} → Stands g u y v → u ≡ type.Char → truth_in w v ≡ Some true
        by (values.byte b f) h = refl
        by (values.word z f) h = absurd (cc)
        by (values.flag b) h = absurd (cc)
        by (values.text y bytes f) h = absurd (cc)
        by values.missing h = absurd (cc)

    test_by : (s : Shape) (start : shape x ≡ s) → Above t n r testing is (if reversed then negated (truth_of s) else truth_of s) → FirstIs has_truth t n testing → IsWritten t n graph testing
    test_by s start met told = by s start (result s start met)
      where
        misfit_so : (c : Bool) → Above t n r testing is (if c then negated misfit else misfit) → ⊥
        misfit_so true met = misfits t n r testing is misfit refl met
        misfit_so false met = misfits t n r testing is misfit refl met

        flagged_so : (c : Bool) (b : Option Bool) → Above t n r testing is (if c then negated (Truth b) else Truth b) → kind_of_element is.result ≡ kind.Flag
        flagged_so true None met = result_flag None met
        flagged_so true (Some true) met = result_flag (Some false) met
        flagged_so true (Some false) met = result_flag (Some true) met
        flagged_so false b met = result_flag b met

        flagged : (c : Bool) (u : Shape) → ((b : Option Bool) × (u ≡ Truth b)) ⊎ (u ≡ misfit) → Above t n r testing is (if c then negated u else u) → kind_of_element is.result ≡ kind.Flag
        flagged c u (inl b) met = flagged_so c b.0 (subst (λ u. Above t n r testing is (if c then negated u else u)) b.1 met)
        flagged c u (inr m) met = absurd (misfit_so c (subst (λ u. Above t n r testing is (if c then negated u else u)) m met))

        result : (s : Shape) → shape x ≡ s → Above t n r testing is (if reversed then negated (truth_of s) else truth_of s) → kind_of_element is.result ≡ kind.Flag
        result s e met = flagged reversed (truth_of s) (truths s (λ h. (let f : true ≡ false = sym (ap is_nothing (e ∙ h)) ∙ operand.some in cc))) met

        by : (s : Shape) → shape x ≡ s → kind_of_element is.result ≡ kind.Flag → IsWritten t n graph testing
        by Nothing e kz = absurd (let f : true ≡ false = sym (ap is_nothing e) ∙ operand.some in cc)
        by NoneOnly e kz = known_written kind.Nothing false (kind_at x NoneOnly e) refl (λ around a w. refl) kz (one_value (λ w v. truth_in w v ≡ Some false) (λ g core w v held. ap (truth_in w) (nothing_held (kind_at x NoneOnly e) held)))
        by (Truth b) e kz = one_written kind.Flag kind.Flag r (λ c. []) flag_row t typed n graph q a x is operand (kind_at x (Truth b) e) kz
        by (Num b) e kz = one_written kind.Word kind.Flag r (λ c. []) word_row t typed n graph q a x is operand (kind_at x (Num b) e) kz
        by (Str One) e kz = known_written kind.Byte true (kind_at x (Str One) e) refl (λ around a w. refl) kz (one_value (λ w v. truth_in w v ≡ Some true) (byte_true e))
        by (Str AnyWidth) e kz = one_written kind.Text kind.Flag r _ text_row t typed n graph q a x is operand (kind_at x (Str AnyWidth) e) kz
        by (Str OrNone) e kz = one_written kind.MaybeText kind.Flag r _ maybe_row t typed n graph q a x is operand (kind_at x (Str OrNone) e) kz
        by (Tup xs) e kz = absurd (misfit_so reversed (subst (λ u. Above t n r testing is (if reversed then negated (truth_of u) else truth_of u)) (sym start ∙ e) met))
        by (Lst s o) e kz = list_written s o e kz
        by (Dct s o) e kz = dict_written s o e kz
        by (Inst c o) e kz = instance_written c o e kz
        by (Fun fs false) e kz = known_written kind.Function true (kind_at x (Fun fs false) e) refl (λ around a w. refl) kz (one_value (λ w v. truth_in w v ≡ Some true) (function_true fs e))
        by (Fun fs true) e kz = absurd (let f : false ≡ true = sym (ap (λ s. has_truth (kind_in s)) e) ∙ first_is has_truth t n r q a [] x operand told in cc)
        by (Clash o p) e kz = absurd (misfit_so reversed (subst (λ u. Above t n r testing is (if reversed then negated (truth_of u) else truth_of u)) (sym start ∙ e) met))

  test_row : RowIsWrittenWhere (FirstIs has_truth) r
  test_row = rows_of_one (FirstIs has_truth) r it.plain it.zero it.two it.three written
    where
      written : OneIsWritten (FirstIs has_truth) r
      written t typed n graph q a x is operand met told = test_by t typed n graph q a x is operand (shape x) refl (subst (λ s. Above t n r (with_args r (a ∷ []) q) is s) (it.one t.whole.tables (shape x)) met) told

-- ---- the truth

truth_lowers : (world : World) (place : Place) (a : Operand) (w : Writing) → Comes a → is_list a ≡ false → lowered world row.Truth place (a ∷ []) w ≡ lower_op world.around row.Truth place (a ∷ []) w
unfolding class_lowered class_of_some class_of_one list_lowered list_of_some
truth_lowers world place a w h plain = one_unlisted world row.Truth place a w h plain refl refl refl refl

truth_as_class : (world : World) (place : Place) (a : Operand) (w : Writing) → lowered world row.Truth place (a ∷ []) w ≡ lower_class_op world row.Truth place (a ∷ []) w
truth_as_class world place a w = no_dict world row.Truth place (a ∷ []) w refl

truth_as_list : (world : World) (place : Place) (a : Operand) (w : Writing) → Comes a → lowered world row.Truth place (a ∷ []) w ≡ lower_list_op world.around row.Truth place (a ∷ []) w
unfolding class_lowered class_of_some class_of_one
truth_as_list world place a w h = no_dict world row.Truth place (a ∷ []) w refl ∙ class_one world row.Truth place a w h

truth_tests : (around : Around) (place : Place) (a : Operand) (w : Writing) → Comes a → lower_op around row.Truth place (a ∷ []) w ≡ tested_to around place false (truth_by (kind_of a) around a w).0 (truth_by (kind_of a) around a w).1
unfolding of_some op_of_one truth_written
truth_tests around place a w h = one_comes around row.Truth place a w h

pub truths_written : RowIsWrittenWhere (FirstIs has_truth) row.Truth
truths_written = test_row row.Truth false (record {
  plain = record { asks = λ p a g node xs. refl; fits = λ tables xs. refl };
  zero = refl;
  two = λ tables x y. refl;
  three = λ x y z. refl;
  one = λ tables x. refl;
  lowers = truth_lowers;
  as_list = truth_as_list;
  as_class = truth_as_class;
  tests = truth_tests;
  means = λ t c v w b e. ap (λ o. flag_if_any o w) e;
  fine = λ t n graph o a g core vs w given. one_fine (is_covered o.covered) is_true (λ x w. flags_fine (is_covered o.covered) (truth_in w x) w) vs w;
  words = word_truth_is_followed;
  flags = truth_is_followed;
  texts = λ around place a w ta kc. (let d = helped_is_done around row.Truth helper.StrTruth place (a ∷ []) w (truth_is_helped around place a w ta (place_of_flags around.layout place.element kc)) (ap is_plain kc) (plain_text ta) in record { ops = d.ops; new = d.new; asked = d.asked; written = d.written; types = d.types; follows = d.follows });
  lists = list_truths.truth_is_done;
  dicts = dict_truths.truth_is_done;
  instances = class_truths.truth_is_done;
})

-- ---- its opposite

not_lowers : (world : World) (place : Place) (a : Operand) (w : Writing) → Comes a → is_list a ≡ false → lowered world row.Not place (a ∷ []) w ≡ lower_op world.around row.Not place (a ∷ []) w
unfolding class_lowered class_of_some class_of_one list_lowered list_of_some
not_lowers world place a w h plain = one_unlisted world row.Not place a w h plain refl refl refl refl

not_as_class : (world : World) (place : Place) (a : Operand) (w : Writing) → lowered world row.Not place (a ∷ []) w ≡ lower_class_op world row.Not place (a ∷ []) w
not_as_class world place a w = no_dict world row.Not place (a ∷ []) w refl

not_as_list : (world : World) (place : Place) (a : Operand) (w : Writing) → Comes a → lowered world row.Not place (a ∷ []) w ≡ lower_list_op world.around row.Not place (a ∷ []) w
unfolding class_lowered class_of_some class_of_one
not_as_list world place a w h = no_dict world row.Not place (a ∷ []) w refl ∙ class_one world row.Not place a w h

not_tests : (around : Around) (place : Place) (a : Operand) (w : Writing) → Comes a → lower_op around row.Not place (a ∷ []) w ≡ tested_to around place true (truth_by (kind_of a) around a w).0 (truth_by (kind_of a) around a w).1
unfolding of_some op_of_one truth_written
not_tests around place a w h = one_comes around row.Not place a w h

pub opposites_written : RowIsWrittenWhere (FirstIs has_truth) row.Not
opposites_written = test_row row.Not true (record {
  plain = record { asks = λ p a g node xs. refl; fits = λ tables xs. refl };
  zero = refl;
  two = λ tables x y. refl;
  three = λ x y z. refl;
  one = λ tables x. refl;
  lowers = not_lowers;
  as_list = not_as_list;
  as_class = not_as_class;
  tests = not_tests;
  means = λ t c v w b e. ap (λ o. flag_if_any (opposite o) w) e;
  fine = λ t n graph o a g core vs w given. one_fine (is_covered o.covered) is_not_true (λ x w. flags_fine (is_covered o.covered) (opposite (truth_in w x)) w) vs w;
  words = word_untrue_is_followed;
  flags = not_is_followed;
  texts = λ around place a w ta kc. (let d = helped_is_done around row.Not helper.StrTruth place (a ∷ []) w (untrue_is_helped around place a w ta (place_of_flags around.layout place.element kc)) (ap is_plain kc) (plain_text ta) in record { ops = d.ops; new = d.new; asked = d.asked; written = d.written; types = d.types; follows = d.follows });
  lists = list_truths.untruth_is_done;
  dicts = dict_truths.untruth_is_done;
  instances = class_truths.untruth_is_done;
})
