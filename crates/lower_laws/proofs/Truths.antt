-- The truth of a word, and its opposite; and the number of a byte.
use Rattle.std.proofs.Common.{◌≡◌, ◌<◌, ◌≤◌, ℕ, ◌+◌, Bool, true, false, List, [], ◌∷◌, ◌++◌, length, Option, Ok, ℤ, pos, refl, sym, ap, ◌∙◌, subst, arith}
use Rattle.std.specs.Prelude.{not}
use Rattle.std.specs.Ordering.{int_eq}
use Rattle.std.proofs.lemmas.Int.{ints}
use Rattle.std.proofs.lemmas.List.{get_or-set_same}
use Rattle.rpy_base.specs.Word.{Fits}
use Rattle.csub_tree.specs.State.{Value, Word, Flag, Byte, Unset, Block, Core}
use Rattle.csub_tree.specs.Operation.{binary_of, unary_of}
use Rattle.csub_tree.specs.Statement.{operand}
use Rattle.csub_tree.specs.declared.tree.CBinary.TheVariants as binary
use Rattle.csub_tree.specs.declared.tree.CUnary.TheVariants as unary
use Rattle.csub_tree.specs.declared.tree.COperand.TheVariants.{Var}
use Rattle.rpy_tree.specs.Value.{Value as Meant, Word as MeantWord, Flag as MeantFlag, Text}
use Rattle.rpy_meaning.specs.declared.row.Covers.{Covers}
use Rattle.rpy_meaning.specs.declared.row.RowOp.TheVariants as row
use Rattle.rpy_meaning.specs.Operations.{op as meant_op}
use Rattle.rpy_meaning.specs.Tree.{Program}
use Rattle.rpy_meaning.specs.World.{World, Gives}
use Rattle.ll_code.specs.State.{Frame, At}
use Rattle.ll_code.specs.declared.program.LlType.{LlType}
use Rattle.ll_code.specs.declared.program.LlType.TheVariants as type
use Rattle.ll_code.specs.declared.program.LlOp.{LlOp}
use Rattle.ll_code.specs.declared.program.LlOp.TheVariants as op
use Rattle.ll_code.specs.declared.program.LlExit.{LlExit}
use Rattle.ll_code.specs.declared.program.LlProgram.{LlProgram}
use Rattle.ll_leads.proofs.Ways.{on, gives, turns}
use Rattle.ll_texts.specs.Stands.{Stands, byte, word}
use Rattle.rtyper_layout.specs.declared.kind.Kind.TheVariants as kind
use Rattle.rtyper_op.specs.Lowering.{lower_op, lowered, of_some, of_one, conversion, conversion_by}
use Rattle.rtyper_data.specs.Numbers.{give_unary, word as word_operand}
use Rattle.rtyper_data.specs.Seen.{Operand, type_at, with_op, Writing, writing}
use Rattle.rtyper_op.specs.Texts.{truth_of, truth_by, tested_to}
use Rattle.lower_laws.specs.Follows.{AllStand, Did, Follows, OnByte, OnWord}
use Rattle.lower_laws.proofs.Doing.{did, followed, sets_place, word_is}
use Rattle.lower_laws.proofs.Ordered.{did_both, two_more}
use Rattle.lower_laws.proofs.Single.{sets, gives_flag}
use Rattle.lower_laws.proofs.Words.{one_lowered}

-- ---- the truth of a word

-- whether it is zero, into a variable, and what is done with that
abbrev tested : LlOp → Operand → ℕ → List LlOp
tested last a n = op.Binary n binary.Ne a.x (word_operand (pos 0)) ∷ last ∷ []

abbrev tested_written : LlOp → Operand → Writing → Writing
tested_written last a w = writing w.found (record { types = w.body.types ++ type.Bool ∷ []; ops = (w.body.ops ++ op.Binary (length w.body.types) binary.Ne a.x (word_operand (pos 0)) ∷ []) ++ last ∷ [] })

pub word_truth_is_followed : OnWord row.Truth type.Bool
unfolding of_some of_one truth_of
word_truth_is_followed around place a w ha ht = record {
  ops = tested (op.Set place.variable (Var (length w.body.types))) a (length w.body.types);
  new = type.Bool ∷ [];
  asked = ap (λ (r : Writing). r.found) l;
  written = ap (λ (r : Writing). r.body.ops) l ∙ two_more w.body.ops (op.Binary (length w.body.types) binary.Ne a.x (word_operand (pos 0))) (op.Set place.variable (Var (length w.body.types)));
  types = ap (λ (r : Writing). r.body.types) l;
  follows = follow;
}
  where
    last : LlOp
    last = op.Set place.variable (Var (length w.body.types))

    l : lower_op around row.Truth place (a ∷ []) w ≡ tested_written (op.Set place.variable (Var (length w.body.types))) a w
    l = one_lowered around row.Truth place a w kind.Word ha.kind refl ∙ ap (λ k. tested_to around place false (truth_by k around a w).0 (truth_by k around a w).1) ha.kind
        ∙ gives_flag around place (Var (length w.body.types)) (writing w.found (record { types = w.body.types ++ type.Bool ∷ []; ops = w.body.ops ++ op.Binary (length w.body.types) binary.Ne a.x (word_operand (pos 0)) ∷ [] })) ht

    follow : (program : Program) (covers : Covers) (p : LlProgram) (arguments : List (List ℕ)) (rest : List LlOp) (e : LlExit) (frames : List Frame) (core : Core) (world : World) (vs : List Meant) → length w.body.types + 1 ≤ length core.vars → place.variable < length w.body.types → AllStand around core (a ∷ []) vs
        → Follows p arguments (At (tested last a (length w.body.types) ++ rest) e frames core) rest e frames core (type_at around place) place.variable (length w.body.types) world (meant_op program covers row.Truth vs world)
    follow program covers p arguments rest e frames core world [] r i st = absurd st
    follow program covers p arguments rest e frames core world (v ∷ []) r i st =
        let x = word_is ha.type st.0 in
        let n : ℕ = length w.body.types in
        let t : Bool = not (int_eq x.number (pos 0)) in
        let room : n < length core.vars = omega (arith, r) in
        let below : binary_of binary.Ne (operand core.vars a.x) (Word (pos 0)) ≡ Ok (Flag t) = ap (λ s. binary_of binary.Ne s (Word (pos 0))) x.low in
        let above : meant_op program covers row.Truth (v ∷ []) world ≡ Gives (MeantFlag t) world = ap (λ s. meant_op program covers row.Truth (s ∷ []) world) x.high in
        subst (λ answer. Follows p arguments (At (tested last a n ++ rest) e frames core) rest e frames core (type_at around place) place.variable n world answer) (sym above)
        (subst (λ k. Did p arguments (At (tested last a n ++ rest) e frames core) rest e frames core k place.variable n world (MeantFlag t) world) (sym ht)
        (did_both place.variable n t t room i (on (gives (Flag t) below) (sets (Flag t) (get_or-set_same core.vars n (Flag t) Unset room) refl))))
    follow program covers p arguments rest e frames core world (v ∷ u ∷ vs) r i st = absurd st.1

pub word_untrue_is_followed : OnWord row.Not type.Bool
unfolding of_some of_one truth_of give_unary
word_untrue_is_followed around place a w ha ht = record {
  ops = tested (op.Unary place.variable unary.Not (Var (length w.body.types))) a (length w.body.types);
  new = type.Bool ∷ [];
  asked = ap (λ (r : Writing). r.found) l;
  written = ap (λ (r : Writing). r.body.ops) l ∙ two_more w.body.ops (op.Binary (length w.body.types) binary.Ne a.x (word_operand (pos 0))) (op.Unary place.variable unary.Not (Var (length w.body.types)));
  types = ap (λ (r : Writing). r.body.types) l;
  follows = follow;
}
  where
    last : LlOp
    last = op.Unary place.variable unary.Not (Var (length w.body.types))

    l : lower_op around row.Not place (a ∷ []) w ≡ tested_written (op.Unary place.variable unary.Not (Var (length w.body.types))) a w
    l = one_lowered around row.Not place a w kind.Word ha.kind refl ∙ ap (λ k. tested_to around place true (truth_by k around a w).0 (truth_by k around a w).1) ha.kind
        ∙ sets_place around place type.Bool (λ v. op.Unary v unary.Not (Var (length w.body.types))) (writing w.found (record { types = w.body.types ++ type.Bool ∷ []; ops = w.body.ops ++ op.Binary (length w.body.types) binary.Ne a.x (word_operand (pos 0)) ∷ [] })) ht

    follow : (program : Program) (covers : Covers) (p : LlProgram) (arguments : List (List ℕ)) (rest : List LlOp) (e : LlExit) (frames : List Frame) (core : Core) (world : World) (vs : List Meant) → length w.body.types + 1 ≤ length core.vars → place.variable < length w.body.types → AllStand around core (a ∷ []) vs
        → Follows p arguments (At (tested last a (length w.body.types) ++ rest) e frames core) rest e frames core (type_at around place) place.variable (length w.body.types) world (meant_op program covers row.Not vs world)
    follow program covers p arguments rest e frames core world [] r i st = absurd st
    follow program covers p arguments rest e frames core world (v ∷ []) r i st =
        let x = word_is ha.type st.0 in
        let n : ℕ = length w.body.types in
        let t : Bool = not (int_eq x.number (pos 0)) in
        let room : n < length core.vars = omega (arith, r) in
        let below : binary_of binary.Ne (operand core.vars a.x) (Word (pos 0)) ≡ Ok (Flag t) = ap (λ s. binary_of binary.Ne s (Word (pos 0))) x.low in
        let above : meant_op program covers row.Not (v ∷ []) world ≡ Gives (MeantFlag (not t)) world = ap (λ s. meant_op program covers row.Not (s ∷ []) world) x.high in
        subst (λ answer. Follows p arguments (At (tested last a n ++ rest) e frames core) rest e frames core (type_at around place) place.variable n world answer) (sym above)
        (subst (λ k. Did p arguments (At (tested last a n ++ rest) e frames core) rest e frames core k place.variable n world (MeantFlag (not t)) world) (sym ht)
        (did_both place.variable n t (not t) room i (on (gives (Flag t) below) (turns (Flag (not t)) (ap (unary_of unary.Not) (get_or-set_same core.vars n (Flag t) Unset room))))))
    follow program covers p arguments rest e frames core world (v ∷ u ∷ vs) r i st = absurd st.1

-- ---- the number of a byte

pub record ByteIs (x : Value) (v : Meant) : Type 0 where
  pub number : ℕ
  pub low : x ≡ Byte number
  pub high : v ≡ Text (number ∷ [])
  pub small : number < 256

of_byte : {blocks : List (Option Block)} {statics : List Block} (x : Value) (v : Meant) → Stands blocks statics type.Char x v → ByteIs x v
of_byte x v (byte b h) = record { number = b; low = refl; high = refl; small = h }

pub byte_is : {blocks : List (Option Block)} {statics : List Block} {t : LlType} {x : Value} {v : Meant} → t ≡ type.Char → Stands blocks statics t x v → ByteIs x v
byte_is {blocks = blocks} {statics = statics} {x = x} {v = v} h st = of_byte x v (subst (λ t. Stands blocks statics t x v) h st)

pub byte_fits : (b : ℕ) → b < 256 → Fits (pos b)
byte_fits b h = omega (arith, ints, h)

pub ord_is_followed : OnByte row.Ord type.Signed
unfolding of_some of_one conversion give_unary
ord_is_followed around place a w ha ht = followed (op.Unary place.variable unary.C2S a.x) (one_lowered around row.Ord place a w kind.Byte ha.kind refl ∙ l) follow
  where
    l : lowered around place row.Ord (a ∷ []) w ≡ writing w.found (with_op (op.Unary place.variable unary.C2S a.x) w.body)
    l = ap (λ k. conversion_by row.Ord k around place a w) ha.kind ∙ sets_place around place type.Signed (λ v. op.Unary v unary.C2S a.x) w ht

    follow : (program : Program) (covers : Covers) (p : LlProgram) (arguments : List (List ℕ)) (rest : List LlOp) (e : LlExit) (frames : List Frame) (core : Core) (world : World) (vs : List Meant) → place.variable < length core.vars → AllStand around core (a ∷ []) vs
        → Follows p arguments (At (op.Unary place.variable unary.C2S a.x ∷ rest) e frames core) rest e frames core (type_at around place) place.variable (length w.body.types) world (meant_op program covers row.Ord vs world)
    follow program covers p arguments rest e frames core world [] r st = absurd st
    follow program covers p arguments rest e frames core world (v ∷ []) r st =
        let x = byte_is ha.type st.0 in
        let z : ℤ = pos x.number in
        let above : meant_op program covers row.Ord (v ∷ []) world ≡ Gives (MeantWord z) world = ap (λ s. meant_op program covers row.Ord (s ∷ []) world) x.high in
        subst (λ answer. Follows p arguments (At (op.Unary place.variable unary.C2S a.x ∷ rest) e frames core) rest e frames core (type_at around place) place.variable (length w.body.types) world answer) (sym above)
        (did place.variable (Word z) r (turns (Word z) (ap (unary_of unary.C2S) x.low)) (subst (λ t. Stands core.blocks core.statics t (Word z) (MeantWord z)) (sym ht) (word z (byte_fits x.number x.small))))
    follow program covers p arguments rest e frames core world (v ∷ u ∷ vs) r st = absurd st.1
