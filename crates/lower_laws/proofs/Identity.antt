-- Whether a value is `None`.
use Rattle.std.proofs.Common.{◌≡◌, inl, inr, ℕ, Bool, true, false, List, [], ◌∷◌, ◌++◌, length, Option, Some, Ok, refl, ap, ◌∙◌}
use Rattle.std.specs.Prelude.{not}
use Rattle.csub_tree.specs.State.{Value, Null, Ptr, Static, Flag, Block, Core}
use Rattle.csub_tree.specs.Operation.{binary_of}
use Rattle.csub_tree.specs.Statement.{operand}
use Rattle.csub_tree.specs.declared.tree.CBinary.TheVariants as binary
use Rattle.csub_tree.specs.declared.tree.CUnary.TheVariants as unary
use Rattle.csub_tree.specs.declared.tree.COperand.{COperand}
use Rattle.csub_tree.specs.declared.tree.COperand.TheVariants.{Var}
use Rattle.rpy_tree.specs.declared.syntax.CmpOp.TheVariants as compared
use Rattle.rpy_tree.specs.Value.{Value as Meant, Flag as MeantFlag, Nothing}
use Rattle.rpy_meaning.specs.declared.row.Covers.{Covers}
use Rattle.rpy_meaning.specs.declared.row.RowOp.TheVariants as row
use Rattle.rpy_meaning.specs.Compare.{identical as meant_identical}
use Rattle.rpy_meaning.specs.Operations.{op as meant_op, opposite}
use Rattle.rpy_meaning.specs.Tree.{Program}
use Rattle.rpy_meaning.specs.World.{World, Gives, flag_if_any}
use Rattle.ll_code.specs.declared.program.LlType.TheVariants as type
use Rattle.ll_code.specs.declared.program.LlOp.TheVariants as op
use Rattle.ll_texts.specs.Stands.{Stands, text, missing}
use Rattle.ll_texts.proofs.Reading.{is_there}
use Rattle.rtyper_layout.specs.declared.kind.Kind.{Kind}
use Rattle.rtyper_layout.specs.declared.kind.Kind.TheVariants as kind
use Rattle.rtyper_layout.specs.Kinds.{kind_seen}
use Rattle.rtyper_data.specs.declared.body.Body.{Body}
use Rattle.rtyper_data.specs.Comparing.{alone, beside_none_of, compare, flag as flag_operand, identical, identical_by, is_null, null, opposite_if, opposite_of}
use Rattle.rtyper_data.specs.Converting.{give_made}
use Rattle.rtyper_op.specs.Lowering.{lower_op, never_comes, of_some, of_two}
use Rattle.rtyper_data.specs.Seen.{Around, Operand, Place, type_at, kind_of, Writing, writing}
use Rattle.lower_laws.specs.Done.{IsDone}
use Rattle.lower_laws.specs.Identity.{BesideNone, TupleBesideNone}
use Rattle.lower_laws.specs.Tuples.{IsTuple}
use Rattle.lower_laws.proofs.Items.{held_as}
use Rattle.lower_laws.proofs.Tupled.{tuple_block}
use Rattle.ann_element.specs.declared.element.Element.{Element}
use Rattle.ll_texts.specs.Texts.{found}
use Rattle.lower_laws.specs.Values.{Holds, Given, is_simple}
use Rattle.lower_laws.proofs.Answered.{known_done, unknown_done, tested_done, untested_done}
use Rattle.lower_laws.proofs.Coming.{two_come}
use Rattle.lower_laws.proofs.Single.{gives_flag}
use Rattle.lower_laws.proofs.Typing.{place_of_words, place_of_flags, place_of_bytes, place_of_strings, place_of_texts}
use Rattle.lower_laws.proofs.Valued.{none_held, word_held, flag_held, byte_held, text_held}

-- ---- what the value is

-- whether a value beside `None` is the same, on either side
record Beside (v : Meant) (t : Bool) : Type 0 where
  first : meant_identical Nothing v ≡ Some t
  last : meant_identical v Nothing ≡ Some t

-- a word, a truth value or a byte, which is never `None`
record Never (around : Around) (c : Operand) : Type 0 where
  comes : never_comes (kind_of c) ≡ false
  first : (b : Operand) (body : Body) → identical_by kind.Nothing (kind_of c) around b c body ≡ (flag_operand false, body)
  last : (b : Operand) (body : Body) → identical_by (kind_of c) kind.Nothing around c b body ≡ (flag_operand false, body)
  value : (core : Core) (v : Meant) → Holds around.layout core.blocks core.statics c.element (operand core.vars c.x) v → Beside v false

-- a string, or `None`
record Perhaps (around : Around) (c : Operand) : Type 0 where
  comes : never_comes (kind_of c) ≡ false
  first : (b : Operand) (body : Body) → identical_by kind.Nothing (kind_of c) around b c body ≡ is_null c.x body
  last : (b : Operand) (body : Body) → identical_by (kind_of c) kind.Nothing around c b body ≡ is_null c.x body
  value : (core : Core) (v : Meant) → Holds around.layout core.blocks core.statics c.element (operand core.vars c.x) v → (t : Bool) × (binary_of binary.Peq (operand core.vars c.x) Null ≡ Ok (Flag t)) × Beside v t

word_never : (around : Around) (c : Operand) → kind_of c ≡ kind.Word → Never around c
word_never around c h = record {
  comes = ap never_comes h;
  first = λ b body. ap (λ k. identical_by kind.Nothing k around b c body) h ∙ ap (λ t. beside_none_of t c.x body) (place_of_words around.layout c.element h);
  last = λ b body. ap (λ k. identical_by k kind.Nothing around c b body) h ∙ ap (λ t. beside_none_of t c.x body) (place_of_words around.layout c.element h);
  value = λ core v held. let x = word_held h held in record { first = ap (meant_identical Nothing) x.high; last = ap (λ v. meant_identical v Nothing) x.high };
}

flag_never : (around : Around) (c : Operand) → kind_of c ≡ kind.Flag → Never around c
flag_never around c h = record {
  comes = ap never_comes h;
  first = λ b body. ap (λ k. identical_by kind.Nothing k around b c body) h ∙ ap (λ t. beside_none_of t c.x body) (place_of_flags around.layout c.element h);
  last = λ b body. ap (λ k. identical_by k kind.Nothing around c b body) h ∙ ap (λ t. beside_none_of t c.x body) (place_of_flags around.layout c.element h);
  value = λ core v held. let x = flag_held h held in record { first = ap (meant_identical Nothing) x.high; last = ap (λ v. meant_identical v Nothing) x.high };
}

byte_never : (around : Around) (c : Operand) → kind_of c ≡ kind.Byte → Never around c
byte_never around c h = record {
  comes = ap never_comes h;
  first = λ b body. ap (λ k. identical_by kind.Nothing k around b c body) h ∙ ap (λ t. beside_none_of t c.x body) (place_of_bytes around.layout c.element h);
  last = λ b body. ap (λ k. identical_by k kind.Nothing around c b body) h ∙ ap (λ t. beside_none_of t c.x body) (place_of_bytes around.layout c.element h);
  value = λ core v held. let x = byte_held h held in record { first = ap (meant_identical Nothing) x.high; last = ap (λ v. meant_identical v Nothing) x.high };
}

null_or_not : {blocks : List (Option Block)} {statics : List Block} (x : Value) (v : Meant) → Stands blocks statics (type.Ptr 0) x v → (t : Bool) × (binary_of binary.Peq x Null ≡ Ok (Flag t)) × Beside v t
null_or_not x v (text y bytes s) = (false, is_there s, record { first = refl; last = refl })
null_or_not x v missing = (true, refl, record { first = refl; last = refl })

string_perhaps : (around : Around) (c : Operand) → kind_of c ≡ kind.Text → Perhaps around c
string_perhaps around c h = record {
  comes = ap never_comes h;
  first = λ b body. ap (λ k. identical_by kind.Nothing k around b c body) h ∙ ap (λ t. beside_none_of t c.x body) (place_of_strings around.layout c.element h);
  last = λ b body. ap (λ k. identical_by k kind.Nothing around c b body) h ∙ ap (λ t. beside_none_of t c.x body) (place_of_strings around.layout c.element h);
  value = λ core v held. null_or_not (operand core.vars c.x) v (text_held (inl h) held);
}

text_perhaps : (around : Around) (c : Operand) → kind_of c ≡ kind.MaybeText → Perhaps around c
text_perhaps around c h = record {
  comes = ap never_comes h;
  first = λ b body. ap (λ k. identical_by kind.Nothing k around b c body) h ∙ ap (λ t. beside_none_of t c.x body) (place_of_texts around.layout c.element h);
  last = λ b body. ap (λ k. identical_by k kind.Nothing around c b body) h ∙ ap (λ t. beside_none_of t c.x body) (place_of_texts around.layout c.element h);
  value = λ core v held. null_or_not (operand core.vars c.x) v (text_held (inr h) held);
}

-- the block of a tuple is not NULL
not_null : (blocks : List (Option Block)) (statics : List Block) (x : Value) (b : Block) → found blocks statics x ≡ Some b → binary_of binary.Peq x Null ≡ Ok (Flag false)
not_null blocks statics (Ptr n) b e = refl
not_null blocks statics (Static g) b e = refl
not_null blocks statics _ b e = absurd (cc)

tuple_perhaps : (around : Around) (c : Operand) (n : ℕ) (parts : List Element) → IsTuple around c.element n parts → Perhaps around c
tuple_perhaps around c n parts of = record {
  comes = ap never_comes (ap kind_seen of.is);
  first = λ b body. ap (λ k. identical_by kind.Nothing k around b c body) (ap kind_seen of.is) ∙ ap (λ t. beside_none_of t c.x body) of.typed;
  last = λ b body. ap (λ k. identical_by k kind.Nothing around c b body) (ap kind_seen of.is) ∙ ap (λ t. beside_none_of t c.x body) of.typed;
  value = λ core v held. let h = held_as of held in (false, not_null core.blocks core.statics (operand core.vars c.x) (tuple_block n h.fields) h.there, record { first = ap (meant_identical Nothing) h.high; last = ap (λ v. meant_identical v Nothing) h.high });
}

-- ---- what it means

said : (program : Program) (covers : Covers) (world : World) (u v : Meant) (t : Bool) → meant_identical u v ≡ Some t → meant_op program covers (row.Compare compared.Is) (u ∷ v ∷ []) world ≡ Gives (MeantFlag t) world
said program covers world u v t h = ap (λ i. flag_if_any i world) h

unsaid : (program : Program) (covers : Covers) (world : World) (u v : Meant) (t : Bool) → meant_identical u v ≡ Some t → meant_op program covers (row.Compare compared.IsNot) (u ∷ v ∷ []) world ≡ Gives (MeantFlag (not t)) world
unsaid program covers world u v t h = ap (λ i. flag_if_any (opposite i) world) h

-- ---- what is written

module _ (around : Around) (place : Place) (a b : Operand) (w : Writing) (flags : kind_seen place.element ≡ kind.Flag) (ha : never_comes (kind_of a) ≡ false) (hb : never_comes (kind_of b) ≡ false) where
  ht : type_at around place ≡ type.Bool
  ht = place_of_flags around.layout place.element flags

  -- where the writer gives this
  module _ (x : COperand) (body : Body) (i : identical_by (kind_of a) (kind_of b) around a b w.body ≡ (x, body)) where
    is_written : lower_op around (row.Compare compared.Is) place (a ∷ b ∷ []) w ≡ writing w.found (record body { ops = body.ops ++ op.Set place.variable x ∷ [] })
    unfolding of_some of_two compare identical opposite_if
    is_written = two_come around (row.Compare compared.Is) place a b w ha hb ∙ ap (λ made. give_made around place type.Bool (opposite_of false (alone w.found made))) i ∙ gives_flag around place x (writing w.found body) ht

    is_not_written : lower_op around (row.Compare compared.IsNot) place (a ∷ b ∷ []) w ≡ writing w.found (record { types = body.types ++ type.Bool ∷ []; ops = (body.ops ++ op.Unary (length body.types) unary.Not x ∷ []) ++ op.Set place.variable (Var (length body.types)) ∷ [] })
    unfolding of_some of_two compare identical opposite_if
    is_not_written = two_come around (row.Compare compared.IsNot) place a b w ha hb ∙ ap (λ made. give_made around place type.Bool (opposite_of true (alone w.found made))) i
        ∙ gives_flag around place (Var (length body.types)) (writing w.found (record { types = body.types ++ type.Bool ∷ []; ops = body.ops ++ op.Unary (length body.types) unary.Not x ∷ [] })) ht

-- ---- `None` and another

none_comes : (a : Operand) → kind_of a ≡ kind.Nothing → never_comes (kind_of a) ≡ false
none_comes a h = ap never_comes h

module _ (around : Around) (place : Place) (a b : Operand) (w : Writing) (covers : Covers) (flags : kind_seen place.element ≡ kind.Flag) (ha : kind_of a ≡ kind.Nothing) where
  -- beside what is never `None`
  module _ (n : Never around b) where
    written_first_known : identical_by (kind_of a) (kind_of b) around a b w.body ≡ (flag_operand false, w.body)
    written_first_known = ap (λ k. identical_by k (kind_of b) around a b w.body) ha ∙ n.first a w.body

    none_first_known : (core : Core) (vs : List Meant) → Given around core (a ∷ b ∷ []) vs → (program : Program) (world : World) → (meant_op program covers (row.Compare compared.Is) vs world ≡ Gives (MeantFlag false) world) × (meant_op program covers (row.Compare compared.IsNot) vs world ≡ Gives (MeantFlag true) world)
    none_first_known core [] given program world = absurd given
    none_first_known core (u ∷ []) given program world = absurd given.1
    none_first_known core (u ∷ v ∷ []) given program world =
        let s = n.value core v given.1.0 in
        let i : meant_identical u v ≡ Some false = ap (λ u. meant_identical u v) (none_held ha given.0).1 ∙ s.first in
        (said program covers world u v false i, unsaid program covers world u v false i)
    none_first_known core (u ∷ v ∷ z ∷ vs) given program world = absurd given.1.1

    is_first_known : IsDone around (row.Compare compared.Is) covers [] place (a ∷ b ∷ []) w
    is_first_known = known_done around place (a ∷ b ∷ []) w (row.Compare compared.Is) covers flags false (is_written around place a b w flags (none_comes a ha) n.comes (flag_operand false) w.body written_first_known) (λ program core world vs given. (none_first_known core vs given program world).0)

    is_not_first_known : IsDone around (row.Compare compared.IsNot) covers [] place (a ∷ b ∷ []) w
    is_not_first_known = unknown_done around place (a ∷ b ∷ []) w (row.Compare compared.IsNot) covers flags false (is_not_written around place a b w flags (none_comes a ha) n.comes (flag_operand false) w.body written_first_known) (λ program core world vs given. (none_first_known core vs given program world).1)

  -- beside what may be `None`
  module _ (n : Perhaps around b) where
    written_first_tested : identical_by (kind_of a) (kind_of b) around a b w.body ≡ is_null b.x w.body
    written_first_tested = ap (λ k. identical_by k (kind_of b) around a b w.body) ha ∙ n.first a w.body

    none_first_tested : (core : Core) (vs : List Meant) → Given around core (a ∷ b ∷ []) vs → (t : Bool) × (binary_of binary.Peq (operand core.vars b.x) Null ≡ Ok (Flag t)) × ((program : Program) (world : World) → (meant_op program covers (row.Compare compared.Is) vs world ≡ Gives (MeantFlag t) world) × (meant_op program covers (row.Compare compared.IsNot) vs world ≡ Gives (MeantFlag (not t)) world))
    none_first_tested core [] given = absurd given
    none_first_tested core (u ∷ []) given = absurd given.1
    none_first_tested core (u ∷ v ∷ []) given =
        let s = n.value core v given.1.0 in
        let i : meant_identical u v ≡ Some s.0 = ap (λ u. meant_identical u v) (none_held ha given.0).1 ∙ s.2.first in
        (s.0, s.1, λ program world. (said program covers world u v s.0 i, unsaid program covers world u v s.0 i))
    none_first_tested core (u ∷ v ∷ z ∷ vs) given = absurd given.1.1

    is_first_tested : IsDone around (row.Compare compared.Is) covers [] place (a ∷ b ∷ []) w
    is_first_tested = tested_done around place (a ∷ b ∷ []) w (row.Compare compared.Is) covers flags binary.Peq b.x null (is_written around place a b w flags (none_comes a ha) n.comes (is_null b.x w.body).0 (is_null b.x w.body).1 written_first_tested)
        (λ core vs given. let s = none_first_tested core vs given in record { truth = s.0; low = s.1; high = λ program world. (s.2 program world).0 })

    is_not_first_tested : IsDone around (row.Compare compared.IsNot) covers [] place (a ∷ b ∷ []) w
    is_not_first_tested = untested_done around place (a ∷ b ∷ []) w (row.Compare compared.IsNot) covers flags binary.Peq b.x null (is_not_written around place a b w flags (none_comes a ha) n.comes (is_null b.x w.body).0 (is_null b.x w.body).1 written_first_tested)
        (λ core vs given. let s = none_first_tested core vs given in record { truth = s.0; low = s.1; high = λ program world. (s.2 program world).1 })

module _ (around : Around) (place : Place) (a b : Operand) (w : Writing) (covers : Covers) (flags : kind_seen place.element ≡ kind.Flag) (hb : kind_of b ≡ kind.Nothing) where
  -- beside what is never `None`
  module _ (n : Never around a) where
    written_last_known : identical_by (kind_of a) (kind_of b) around a b w.body ≡ (flag_operand false, w.body)
    written_last_known = ap (λ k. identical_by (kind_of a) k around a b w.body) hb ∙ n.last b w.body

    none_last_known : (core : Core) (vs : List Meant) → Given around core (a ∷ b ∷ []) vs → (program : Program) (world : World) → (meant_op program covers (row.Compare compared.Is) vs world ≡ Gives (MeantFlag false) world) × (meant_op program covers (row.Compare compared.IsNot) vs world ≡ Gives (MeantFlag true) world)
    none_last_known core [] given program world = absurd given
    none_last_known core (u ∷ []) given program world = absurd given.1
    none_last_known core (u ∷ v ∷ []) given program world =
        let s = n.value core u given.0 in
        let i : meant_identical u v ≡ Some false = ap (λ v. meant_identical u v) (none_held hb given.1.0).1 ∙ s.last in
        (said program covers world u v false i, unsaid program covers world u v false i)
    none_last_known core (u ∷ v ∷ z ∷ vs) given program world = absurd given.1.1

    is_last_known : IsDone around (row.Compare compared.Is) covers [] place (a ∷ b ∷ []) w
    is_last_known = known_done around place (a ∷ b ∷ []) w (row.Compare compared.Is) covers flags false (is_written around place a b w flags n.comes (none_comes b hb) (flag_operand false) w.body written_last_known) (λ program core world vs given. (none_last_known core vs given program world).0)

    is_not_last_known : IsDone around (row.Compare compared.IsNot) covers [] place (a ∷ b ∷ []) w
    is_not_last_known = unknown_done around place (a ∷ b ∷ []) w (row.Compare compared.IsNot) covers flags false (is_not_written around place a b w flags n.comes (none_comes b hb) (flag_operand false) w.body written_last_known) (λ program core world vs given. (none_last_known core vs given program world).1)

  -- beside what may be `None`
  module _ (n : Perhaps around a) where
    written_last_tested : identical_by (kind_of a) (kind_of b) around a b w.body ≡ is_null a.x w.body
    written_last_tested = ap (λ k. identical_by (kind_of a) k around a b w.body) hb ∙ n.last b w.body

    none_last_tested : (core : Core) (vs : List Meant) → Given around core (a ∷ b ∷ []) vs → (t : Bool) × (binary_of binary.Peq (operand core.vars a.x) Null ≡ Ok (Flag t)) × ((program : Program) (world : World) → (meant_op program covers (row.Compare compared.Is) vs world ≡ Gives (MeantFlag t) world) × (meant_op program covers (row.Compare compared.IsNot) vs world ≡ Gives (MeantFlag (not t)) world))
    none_last_tested core [] given = absurd given
    none_last_tested core (u ∷ []) given = absurd given.1
    none_last_tested core (u ∷ v ∷ []) given =
        let s = n.value core u given.0 in
        let i : meant_identical u v ≡ Some s.0 = ap (λ v. meant_identical u v) (none_held hb given.1.0).1 ∙ s.2.last in
        (s.0, s.1, λ program world. (said program covers world u v s.0 i, unsaid program covers world u v s.0 i))
    none_last_tested core (u ∷ v ∷ z ∷ vs) given = absurd given.1.1

    is_last_tested : IsDone around (row.Compare compared.Is) covers [] place (a ∷ b ∷ []) w
    is_last_tested = tested_done around place (a ∷ b ∷ []) w (row.Compare compared.Is) covers flags binary.Peq a.x null (is_written around place a b w flags n.comes (none_comes b hb) (is_null a.x w.body).0 (is_null a.x w.body).1 written_last_tested)
        (λ core vs given. let s = none_last_tested core vs given in record { truth = s.0; low = s.1; high = λ program world. (s.2 program world).0 })

    is_not_last_tested : IsDone around (row.Compare compared.IsNot) covers [] place (a ∷ b ∷ []) w
    is_not_last_tested = untested_done around place (a ∷ b ∷ []) w (row.Compare compared.IsNot) covers flags binary.Peq a.x null (is_not_written around place a b w flags n.comes (none_comes b hb) (is_null a.x w.body).0 (is_null a.x w.body).1 written_last_tested)
        (λ core vs given. let s = none_last_tested core vs given in record { truth = s.0; low = s.1; high = λ program world. (s.2 program world).1 })

-- ---- `None` beside itself

module _ (around : Around) (place : Place) (a b : Operand) (w : Writing) (covers : Covers) (flags : kind_seen place.element ≡ kind.Flag) (ha : kind_of a ≡ kind.Nothing) (hb : kind_of b ≡ kind.Nothing) where
  written_both : identical_by (kind_of a) (kind_of b) around a b w.body ≡ (flag_operand true, w.body)
  written_both = ap (λ k. identical_by k (kind_of b) around a b w.body) ha ∙ ap (λ k. identical_by kind.Nothing k around a b w.body) hb

  both_none : (core : Core) (vs : List Meant) → Given around core (a ∷ b ∷ []) vs → (program : Program) (world : World) → (meant_op program covers (row.Compare compared.Is) vs world ≡ Gives (MeantFlag true) world) × (meant_op program covers (row.Compare compared.IsNot) vs world ≡ Gives (MeantFlag false) world)
  both_none core [] given program world = absurd given
  both_none core (u ∷ []) given program world = absurd given.1
  both_none core (u ∷ v ∷ []) given program world =
      let i : meant_identical u v ≡ Some true = ap (λ u. meant_identical u v) (none_held ha given.0).1 ∙ ap (meant_identical Nothing) (none_held hb given.1.0).1 in
      (said program covers world u v true i, unsaid program covers world u v true i)
  both_none core (u ∷ v ∷ z ∷ vs) given program world = absurd given.1.1

  is_both : IsDone around (row.Compare compared.Is) covers [] place (a ∷ b ∷ []) w
  is_both = known_done around place (a ∷ b ∷ []) w (row.Compare compared.Is) covers flags true (is_written around place a b w flags (none_comes a ha) (none_comes b hb) (flag_operand true) w.body written_both) (λ program core world vs given. (both_none core vs given program world).0)

  is_not_both : IsDone around (row.Compare compared.IsNot) covers [] place (a ∷ b ∷ []) w
  is_not_both = unknown_done around place (a ∷ b ∷ []) w (row.Compare compared.IsNot) covers flags true (is_not_written around place a b w flags (none_comes a ha) (none_comes b hb) (flag_operand true) w.body written_both) (λ program core world vs given. (both_none core vs given program world).1)

-- ---- by what stands beside it

module _ (around : Around) (place : Place) (a b : Operand) (w : Writing) (covers : Covers) (flags : kind_seen place.element ≡ kind.Flag) where
  is_first : kind_of a ≡ kind.Nothing → (k : Kind) → kind_of b ≡ k → is_simple k ≡ true → IsDone around (row.Compare compared.Is) covers [] place (a ∷ b ∷ []) w
  is_first ha kind.Word h simple = is_first_known around place a b w covers flags ha (word_never around b h)
  is_first ha kind.Flag h simple = is_first_known around place a b w covers flags ha (flag_never around b h)
  is_first ha kind.Byte h simple = is_first_known around place a b w covers flags ha (byte_never around b h)
  is_first ha kind.Text h simple = is_first_tested around place a b w covers flags ha (string_perhaps around b h)
  is_first ha kind.MaybeText h simple = is_first_tested around place a b w covers flags ha (text_perhaps around b h)
  is_first ha kind.Nothing h simple = is_both around place a b w covers flags ha h
  is_first ha _ h simple = absurd (cc)

  is_last : kind_of b ≡ kind.Nothing → (k : Kind) → kind_of a ≡ k → is_simple k ≡ true → IsDone around (row.Compare compared.Is) covers [] place (a ∷ b ∷ []) w
  is_last hb kind.Word h simple = is_last_known around place a b w covers flags hb (word_never around a h)
  is_last hb kind.Flag h simple = is_last_known around place a b w covers flags hb (flag_never around a h)
  is_last hb kind.Byte h simple = is_last_known around place a b w covers flags hb (byte_never around a h)
  is_last hb kind.Text h simple = is_last_tested around place a b w covers flags hb (string_perhaps around a h)
  is_last hb kind.MaybeText h simple = is_last_tested around place a b w covers flags hb (text_perhaps around a h)
  is_last hb kind.Nothing h simple = is_both around place a b w covers flags h hb
  is_last hb _ h simple = absurd (cc)

  is_not_first : kind_of a ≡ kind.Nothing → (k : Kind) → kind_of b ≡ k → is_simple k ≡ true → IsDone around (row.Compare compared.IsNot) covers [] place (a ∷ b ∷ []) w
  is_not_first ha kind.Word h simple = is_not_first_known around place a b w covers flags ha (word_never around b h)
  is_not_first ha kind.Flag h simple = is_not_first_known around place a b w covers flags ha (flag_never around b h)
  is_not_first ha kind.Byte h simple = is_not_first_known around place a b w covers flags ha (byte_never around b h)
  is_not_first ha kind.Text h simple = is_not_first_tested around place a b w covers flags ha (string_perhaps around b h)
  is_not_first ha kind.MaybeText h simple = is_not_first_tested around place a b w covers flags ha (text_perhaps around b h)
  is_not_first ha kind.Nothing h simple = is_not_both around place a b w covers flags ha h
  is_not_first ha _ h simple = absurd (cc)

  is_not_last : kind_of b ≡ kind.Nothing → (k : Kind) → kind_of a ≡ k → is_simple k ≡ true → IsDone around (row.Compare compared.IsNot) covers [] place (a ∷ b ∷ []) w
  is_not_last hb kind.Word h simple = is_not_last_known around place a b w covers flags hb (word_never around a h)
  is_not_last hb kind.Flag h simple = is_not_last_known around place a b w covers flags hb (flag_never around a h)
  is_not_last hb kind.Byte h simple = is_not_last_known around place a b w covers flags hb (byte_never around a h)
  is_not_last hb kind.Text h simple = is_not_last_tested around place a b w covers flags hb (string_perhaps around a h)
  is_not_last hb kind.MaybeText h simple = is_not_last_tested around place a b w covers flags hb (text_perhaps around a h)
  is_not_last hb kind.Nothing h simple = is_not_both around place a b w covers flags h hb
  is_not_last hb _ h simple = absurd (cc)

pub is_done : BesideNone compared.Is
is_done around place a b w covers flags (inl (ha, hb)) = is_first around place a b w covers flags ha (kind_of b) refl hb
is_done around place a b w covers flags (inr (ha, hb)) = is_last around place a b w covers flags hb (kind_of a) refl ha

pub is_not_done : BesideNone compared.IsNot
is_not_done around place a b w covers flags (inl (ha, hb)) = is_not_first around place a b w covers flags ha (kind_of b) refl hb
is_not_done around place a b w covers flags (inr (ha, hb)) = is_not_last around place a b w covers flags hb (kind_of a) refl ha

pub tuple_is_done : TupleBesideNone compared.Is
tuple_is_done around place a b w covers n parts flags (inl (ha, hb)) = is_first_tested around place a b w covers flags ha (tuple_perhaps around b n parts hb)
tuple_is_done around place a b w covers n parts flags (inr (ha, hb)) = is_last_tested around place a b w covers flags hb (tuple_perhaps around a n parts ha)

pub tuple_is_not_done : TupleBesideNone compared.IsNot
tuple_is_not_done around place a b w covers n parts flags (inl (ha, hb)) = is_not_first_tested around place a b w covers flags ha (tuple_perhaps around b n parts hb)
tuple_is_not_done around place a b w covers n parts flags (inr (ha, hb)) = is_not_last_tested around place a b w covers flags hb (tuple_perhaps around a n parts ha)
