-- Operations on words, bytes and truth values that take one to three operations, and whose result is a truth value or a word.
use Rattle.std.proofs.Common.{◌≡◌, ◌<◌, ◌≤◌, ℕ, ◌+◌, Bool, true, false, List, [], ◌∷◌, ◌++◌, length, Some, Ok, ℤ, refl, sym, ap, ◌∙◌, subst, arith}
use Rattle.std.specs.Prelude.{not, slice_set, int_lt, if◌then◌else◌}
use Rattle.std.specs.Ordering.{int_eq}
use Rattle.std.proofs.lemmas.Int.{ints}
use Rattle.std.proofs.lemmas.List.{get_or-set_same, get_or-set_other, length-append, length-set}
use Rattle.rpy_base.specs.Word.{Fits}
use Rattle.csub_tree.specs.State.{Value, Word, Flag, Unset, Core}
use Rattle.csub_tree.specs.Operation.{binary_of, unary_of, word_of_flag}
use Rattle.csub_tree.specs.Statement.{operand}
use Rattle.csub_tree.specs.declared.tree.CBinary.{CBinary}
use Rattle.csub_tree.specs.declared.tree.CBinary.TheVariants as binary
use Rattle.csub_tree.specs.declared.tree.CUnary.TheVariants as unary
use Rattle.csub_tree.specs.declared.tree.COperand.TheVariants.{Var}
use Rattle.rpy_tree.specs.declared.syntax.CmpOp.TheVariants as compared
use Rattle.rpy_tree.specs.Value.{Value as Meant, Word as MeantWord, Flag as MeantFlag}
use Rattle.rpy_meaning.specs.declared.row.Covers.{Covers}
use Rattle.rpy_meaning.specs.declared.row.RowOp.TheVariants as row
use Rattle.rpy_meaning.specs.Operations.{op as meant_op}
use Rattle.rpy_meaning.specs.Tree.{Program}
use Rattle.rpy_meaning.specs.World.{World, Gives}
use Rattle.ll_code.specs.State.{Frame, State, At}
use Rattle.ll_code.specs.declared.program.LlType.TheVariants as type
use Rattle.ll_code.specs.declared.program.LlOp.{LlOp}
use Rattle.ll_code.specs.declared.program.LlOp.TheVariants as op
use Rattle.ll_code.specs.declared.program.LlExit.{LlExit}
use Rattle.ll_code.specs.declared.program.LlProgram.{LlProgram}
use Rattle.ll_leads.specs.Path.{Leads}
use Rattle.ll_leads.proofs.Ways.{on, gives, turns}
use Rattle.ll_texts.specs.Stands.{Stands, flag, word}
use Rattle.rtyper_layout.specs.declared.kind.Kind.TheVariants as kind
use Rattle.rtyper_data.specs.Comparing.{compare, equal, opposite_if, opposite_of}
use Rattle.rtyper_data.specs.Converting.{give_made}
use Rattle.rtyper_op.specs.Lowering.{lower_op, lowered, of_some, of_one, of_two, conversion}
use Rattle.rtyper_data.specs.Numbers.{give_unary, give_binary, range_has, rises, to_int, to_int_by}
use Rattle.rtyper_op.specs.Placing.{has_item}
use Rattle.rtyper_data.specs.Seen.{Operand, Place, type_of, type_at, with_op, Writing, writing}
use Rattle.lower_laws.specs.Follows.{AllStand, Did, Follows, OnFlag, OnWords}
use Rattle.lower_laws.proofs.Doing.{after, did, followed, sets_place, word_is, flag_is}
use Rattle.lower_laws.proofs.Flags.{three_more}
use Rattle.lower_laws.proofs.Single.{sets, gives_flag}
use Rattle.lower_laws.proofs.Words.{two_lowered, one_lowered}

-- ---- whether two words differ

-- equal, into a variable; its opposite, into another; and that into the place
abbrev three : Place → Operand → Operand → ℕ → ℕ → List LlOp
three place a b n m = op.Binary n binary.Eq a.x b.x ∷ op.Unary m unary.Not (Var n) ∷ op.Set place.variable (Var m) ∷ []

abbrev second : Writing → ℕ
second w = length (w.body.types ++ type.Bool ∷ [])

abbrev three_written : Place → Operand → Operand → Writing → Writing
three_written place a b w = writing w.found (record {
  types = (w.body.types ++ type.Bool ∷ []) ++ type.Bool ∷ [];
  ops = ((w.body.ops ++ op.Binary (length w.body.types) binary.Eq a.x b.x ∷ []) ++ op.Unary (second w) unary.Not (Var (length w.body.types)) ∷ []) ++ op.Set place.variable (Var (second w)) ∷ [];
})

pub two_types : {A : Type 0} (xs : List A) (x y : A) → (xs ++ x ∷ []) ++ y ∷ [] ≡ xs ++ x ∷ y ∷ []
two_types [] x y = refl
two_types (z ∷ xs) x y = ap (λ ys. z ∷ ys) (two_types xs x y)

-- all are set, and nothing else
pub did_three : {p : LlProgram} {args : List (List ℕ)} {s : State} {rest : List LlOp} {e : LlExit} {frames : List Frame} {core : Core} {w : World} (into n m : ℕ) (b : Bool) → n < length core.vars → m < length core.vars → n < m → into < n
    → Leads p args 0 s [] (At rest e frames (after (after (after core n (Flag b)) m (Flag (not b))) into (Flag (not b)))) → Did p args s rest e frames core type.Bool into n w (MeantFlag (not b)) w
did_three {core = core} into n m b r k i j l =
    let x : List Value = slice_set core.vars n (Flag b) in
    let y : List Value = slice_set x m (Flag (not b)) in
    let long : length y ≡ length core.vars = length-set x m (Flag (not b)) ∙ length-set core.vars n (Flag b) in
    record {
      end = after (after (after core n (Flag b)) m (Flag (not b))) into (Flag (not b));
      leads = l;
      memory = refl;
      stands = subst (λ v. Stands core.blocks core.statics type.Bool v (MeantFlag (not b))) (sym (get_or-set_same y into (Flag (not b)) _ (omega (arith, long, r, j)))) (flag (not b));
      others = λ v below other. get_or-set_other y into v (Flag (not b)) _ other ∙ get_or-set_other x m v (Flag (not b)) _ (λ same. absurd (omega (arith, below, i, same))) ∙ get_or-set_other core.vars n v (Flag b) _ (λ same. absurd (omega (arith, below, same)));
      room = length-set y into (Flag (not b)) ∙ long;
      function = refl;
      block = refl;
      same = refl;
    }

pub unequal_is_followed : OnWords (row.Compare compared.Ne) type.Bool
unfolding of_some of_two compare equal opposite_if
unequal_is_followed around place a b w ha hb ht = record {
  ops = three place a b (length w.body.types) (second w);
  new = type.Bool ∷ type.Bool ∷ [];
  asked = ap (λ (r : Writing). r.found) l;
  written = ap (λ (r : Writing). r.body.ops) l ∙ three_more w.body.ops (op.Binary (length w.body.types) binary.Eq a.x b.x) (op.Unary (second w) unary.Not (Var (length w.body.types))) (op.Set place.variable (Var (second w)));
  types = ap (λ (r : Writing). r.body.types) l ∙ two_types w.body.types type.Bool type.Bool;
  follows = follow;
}
  where
    l : lower_op around (row.Compare compared.Ne) place (a ∷ b ∷ []) w ≡ three_written place a b w
    l = two_lowered around (row.Compare compared.Ne) place a b w ha hb
        ∙ ap (λ t. give_made around place type.Bool (opposite_of true (equal around.layout a.x t b.x (type_of around b) w))) ha.type
        ∙ ap (λ t. give_made around place type.Bool (opposite_of true (equal around.layout a.x type.Signed b.x t w))) hb.type
        ∙ gives_flag around place (Var (second w)) (writing w.found (record { types = (w.body.types ++ type.Bool ∷ []) ++ type.Bool ∷ []; ops = (w.body.ops ++ op.Binary (length w.body.types) binary.Eq a.x b.x ∷ []) ++ op.Unary (second w) unary.Not (Var (length w.body.types)) ∷ [] })) ht

    follow : (program : Program) (covers : Covers) (p : LlProgram) (arguments : List (List ℕ)) (rest : List LlOp) (e : LlExit) (frames : List Frame) (core : Core) (world : World) (vs : List Meant) → length w.body.types + 2 ≤ length core.vars → place.variable < length w.body.types → AllStand around core (a ∷ b ∷ []) vs
        → Follows p arguments (At (three place a b (length w.body.types) (second w) ++ rest) e frames core) rest e frames core (type_at around place) place.variable (length w.body.types) world (meant_op program covers (row.Compare compared.Ne) vs world)
    follow program covers p arguments rest e frames core world [] r i st = absurd st
    follow program covers p arguments rest e frames core world (v ∷ []) r i st = absurd st.1
    follow program covers p arguments rest e frames core world (v ∷ u ∷ []) r i st =
        let x = word_is ha.type st.0 in
        let y = word_is hb.type st.1.0 in
        let n : ℕ = length w.body.types in
        let m : ℕ = second w in
        let t : Bool = int_eq x.number y.number in
        let k : m ≡ n + 1 = length-append w.body.types (type.Bool ∷ []) in
        let room : n < length core.vars = omega (arith, r) in
        let more : m < length core.vars = omega (arith, r, k) in
        let long : length (slice_set core.vars n (Flag t)) ≡ length core.vars = length-set core.vars n (Flag t) in
        let below : binary_of binary.Eq (operand core.vars a.x) (operand core.vars b.x) ≡ Ok (Flag t) = ap (λ s. binary_of binary.Eq s (operand core.vars b.x)) x.low ∙ ap (binary_of binary.Eq (Word x.number)) y.low in
        let above : meant_op program covers (row.Compare compared.Ne) (v ∷ u ∷ []) world ≡ Gives (MeantFlag (not t)) world = ap (λ s. meant_op program covers (row.Compare compared.Ne) (s ∷ u ∷ []) world) x.high ∙ ap (λ s. meant_op program covers (row.Compare compared.Ne) (MeantWord x.number ∷ s ∷ []) world) y.high in
        subst (λ answer. Follows p arguments (At (three place a b n m ++ rest) e frames core) rest e frames core (type_at around place) place.variable n world answer) (sym above)
        (subst (λ k. Did p arguments (At (three place a b n m ++ rest) e frames core) rest e frames core k place.variable n world (MeantFlag (not t)) world) (sym ht)
        (did_three place.variable n m t room more (omega (arith, k)) i
        (on (gives (Flag t) below) (on (turns (Flag (not t)) (ap (unary_of unary.Not) (get_or-set_same core.vars n (Flag t) Unset room)))
        (sets (Flag (not t)) (get_or-set_same (slice_set core.vars n (Flag t)) m (Flag (not t)) Unset (omega (arith, long, more))) refl)))))
    follow program covers p arguments rest e frames core world (v ∷ u ∷ z ∷ vs) r i st = absurd st.1.1

-- ---- whether the end of a range is not reached

pub range_has_is_followed : (step : ℤ) → OnWords (row.HasItem (Some step)) type.Bool
unfolding of_some of_two has_item range_has give_binary
range_has_is_followed step around place a b w ha hb ht = followed (op.Binary place.variable o a.x b.x) l follow
  where
    o : CBinary
    o = if rises step then binary.Gt else binary.Lt

    l : lower_op around (row.HasItem (Some step)) place (a ∷ b ∷ []) w ≡ writing w.found (with_op (op.Binary place.variable o a.x b.x) w.body)
    l = two_lowered around (row.HasItem (Some step)) place a b w ha hb ∙ sets_place around place type.Bool (λ v. op.Binary v o a.x b.x) w ht

    tested : (c : Bool) (end next : ℤ) → binary_of (if c then binary.Gt else binary.Lt) (Word end) (Word next) ≡ Ok (Flag (if c then int_lt next end else int_lt end next))
    tested true end next = refl
    tested false end next = refl

    follow : (program : Program) (covers : Covers) (p : LlProgram) (arguments : List (List ℕ)) (rest : List LlOp) (e : LlExit) (frames : List Frame) (core : Core) (world : World) (vs : List Meant) → place.variable < length core.vars → AllStand around core (a ∷ b ∷ []) vs
        → Follows p arguments (At (op.Binary place.variable o a.x b.x ∷ rest) e frames core) rest e frames core (type_at around place) place.variable (length w.body.types) world (meant_op program covers (row.HasItem (Some step)) vs world)
    follow program covers p arguments rest e frames core world [] r st = absurd st
    follow program covers p arguments rest e frames core world (v ∷ []) r st = absurd st.1
    follow program covers p arguments rest e frames core world (v ∷ u ∷ []) r st =
        let x = word_is ha.type st.0 in
        let y = word_is hb.type st.1.0 in
        let t : Bool = if rises step then int_lt y.number x.number else int_lt x.number y.number in
        let below : binary_of o (operand core.vars a.x) (operand core.vars b.x) ≡ Ok (Flag t) = ap (λ s. binary_of o s (operand core.vars b.x)) x.low ∙ ap (binary_of o (Word x.number)) y.low ∙ tested (rises step) x.number y.number in
        let above : meant_op program covers (row.HasItem (Some step)) (v ∷ u ∷ []) world ≡ Gives (MeantFlag t) world = ap (λ s. meant_op program covers (row.HasItem (Some step)) (s ∷ u ∷ []) world) x.high ∙ ap (λ s. meant_op program covers (row.HasItem (Some step)) (MeantWord x.number ∷ s ∷ []) world) y.high in
        subst (λ answer. Follows p arguments (At (op.Binary place.variable o a.x b.x ∷ rest) e frames core) rest e frames core (type_at around place) place.variable (length w.body.types) world answer) (sym above)
        (did place.variable (Flag t) r (gives (Flag t) below) (subst (λ k. Stands core.blocks core.statics k (Flag t) (MeantFlag t)) (sym ht) (flag t)))
    follow program covers p arguments rest e frames core world (v ∷ u ∷ z ∷ vs) r st = absurd st.1.1

-- ---- the number of a truth value

number_fits : (b : Bool) → Fits (word_of_flag b)
number_fits true = omega (arith, ints)
number_fits false = omega (arith, ints)

number_of : (program : Program) (covers : Covers) (b : Bool) (w : World) → meant_op program covers row.ToInt (MeantFlag b ∷ []) w ≡ Gives (MeantWord (word_of_flag b)) w
number_of program covers true w = refl
number_of program covers false w = refl

pub flag_number_is_followed : OnFlag row.ToInt type.Signed
unfolding of_some of_one conversion to_int give_unary
flag_number_is_followed around place a w ha ht = followed (op.Unary place.variable unary.B2S a.x) (one_lowered around row.ToInt place a w kind.Flag ha.kind refl ∙ l) follow
  where
    l : lowered around place row.ToInt (a ∷ []) w ≡ writing w.found (with_op (op.Unary place.variable unary.B2S a.x) w.body)
    l = ap (λ k. to_int_by k around place a w) ha.kind ∙ sets_place around place type.Signed (λ v. op.Unary v unary.B2S a.x) w ht

    follow : (program : Program) (covers : Covers) (p : LlProgram) (arguments : List (List ℕ)) (rest : List LlOp) (e : LlExit) (frames : List Frame) (core : Core) (world : World) (vs : List Meant) → place.variable < length core.vars → AllStand around core (a ∷ []) vs
        → Follows p arguments (At (op.Unary place.variable unary.B2S a.x ∷ rest) e frames core) rest e frames core (type_at around place) place.variable (length w.body.types) world (meant_op program covers row.ToInt vs world)
    follow program covers p arguments rest e frames core world [] r st = absurd st
    follow program covers p arguments rest e frames core world (v ∷ []) r st =
        let x = flag_is ha.type st.0 in
        let z : ℤ = word_of_flag x.truth in
        let above : meant_op program covers row.ToInt (v ∷ []) world ≡ Gives (MeantWord z) world = ap (λ s. meant_op program covers row.ToInt (s ∷ []) world) x.high ∙ number_of program covers x.truth world in
        subst (λ answer. Follows p arguments (At (op.Unary place.variable unary.B2S a.x ∷ rest) e frames core) rest e frames core (type_at around place) place.variable (length w.body.types) world answer) (sym above)
        (did place.variable (Word z) r (turns (Word z) (ap (unary_of unary.B2S) x.low)) (subst (λ t. Stands core.blocks core.statics t (Word z) (MeantWord z)) (sym ht) (word z (number_fits x.truth))))
    follow program covers p arguments rest e frames core world (v ∷ u ∷ vs) r st = absurd st.1
