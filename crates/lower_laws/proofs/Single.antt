-- Operations on one word or truth value, and what stays as it is.
use Rattle.std.proofs.Common.{◌≡◌, ◌<◌, ℕ, Bool, true, false, List, [], ◌∷◌, length, Ok, ℤ, neg_ℤ, refl, sym, ap, ◌∙◌, subst}
use Rattle.std.specs.Prelude.{not, cond}
use Rattle.std.specs.Int.{w64}
use Rattle.std.proofs.lemmas.Int.{SFits-int_wrap}
use Rattle.rpy_base.specs.Word.{Fits, wrap}
use Rattle.csub_tree.specs.State.{Value, Word, Flag, Core}
use Rattle.csub_tree.specs.Operation.{unary_of, is_unset}
use Rattle.csub_tree.specs.Statement.{operand, set, assigned}
use Rattle.csub_tree.specs.State.{Stuck}
use Rattle.csub_tree.specs.declared.stuck.StuckReason.TheVariants.{Unset as IsUnset}
use Rattle.csub_tree.specs.declared.tree.CUnary.{CUnary}
use Rattle.csub_tree.specs.declared.tree.CUnary.TheVariants as unary
use Rattle.csub_tree.specs.declared.tree.COperand.{COperand}
use Rattle.rpy_tree.specs.declared.syntax.UnOp.TheVariants as un
use Rattle.rpy_tree.specs.Value.{Value as Meant, Word as MeantWord, Flag as MeantFlag}
use Rattle.rpy_meaning.specs.declared.row.Covers.{Covers}
use Rattle.rpy_meaning.specs.declared.row.RowOp.{RowOp}
use Rattle.rpy_meaning.specs.declared.row.RowOp.TheVariants as row
use Rattle.rpy_meaning.specs.Operations.{op as meant_op}
use Rattle.rpy_meaning.specs.Tree.{Program}
use Rattle.rpy_meaning.specs.World.{World, Gives}
use Rattle.ll_code.specs.State.{Frame, At}
use Rattle.ll_code.specs.Machine.{goes_on}
use Rattle.ll_code.specs.declared.program.LlType.TheVariants as type
use Rattle.ll_code.specs.declared.program.LlOp.{LlOp}
use Rattle.ll_code.specs.declared.program.LlOp.TheVariants as op
use Rattle.ll_code.specs.declared.program.LlExit.{LlExit}
use Rattle.ll_code.specs.declared.program.LlProgram.{LlProgram}
use Rattle.ll_leads.specs.Path.{Leads}
use Rattle.ll_leads.proofs.Ways.{one, turns}
use Rattle.ll_texts.specs.Stands.{Stands, word, flag}
use Rattle.rtyper_layout.specs.declared.kind.Kind.TheVariants as kind
use Rattle.rtyper_data.specs.Converting.{give, give_to, value_as}
use Rattle.rtyper_op.specs.Lowering.{lowered, of_some, of_one, conversion, conversion_by}
use Rattle.rtyper_data.specs.Numbers.{give_unary, unary_of as lowered_unary, to_int, to_int_by}
use Rattle.rtyper_data.specs.Seen.{Around, Operand, Place, type_at, with_op, Writing, writing}
use Rattle.rtyper_op.specs.Texts.{truth_of, truth_by, tested_to}
use Rattle.lower_laws.specs.Follows.{AllStand, Follows, IsWord, IsFlag, OnWord, OnFlag}
use Rattle.lower_laws.proofs.Doing.{after, did, sets_place, followed, word_is, flag_is}
use Rattle.lower_laws.proofs.Words.{one_lowered}

-- ---- a value that stays

-- the place takes a value of its own type
pub gives_word : (around : Around) (place : Place) (x : COperand) (w : Writing) → type_at around place ≡ type.Signed → give around place x type.Signed w ≡ writing w.found (with_op (op.Set place.variable x) w.body)
unfolding give value_as
gives_word around place x w h = ap (λ t. give_to around place x type.Signed t w) h

pub gives_flag : (around : Around) (place : Place) (x : COperand) (w : Writing) → type_at around place ≡ type.Bool → give around place x type.Bool w ≡ writing w.found (with_op (op.Set place.variable x) w.body)
unfolding give value_as
gives_flag around place x w h = ap (λ t. give_to around place x type.Bool t w) h

pub sets : {p : LlProgram} {args : List (List ℕ)} {ops : List LlOp} {e : LlExit} {frames : List Frame} {core : Core} {a : ℕ} {x : COperand} (value : Value) → operand core.vars x ≡ value → is_unset value ≡ false
    → Leads p args 0 (At (op.Set a x ∷ ops) e frames core) [] (At ops e frames (after core a value))
sets {ops = ops} {e = e} {frames = frames} {core = core} {a = a} value h u =
    one (ap (λ v. goes_on (At ops e frames) (set core a v)) h ∙ ap (λ b. goes_on (At ops e frames) (cond b (Stuck IsUnset) (assigned core a value))) u) refl

-- ---- on a word

pub word_stays : {o : RowOp} → ((program : Program) (covers : Covers) (a : ℤ) (w : World) → Fits a → meant_op program covers o (MeantWord a ∷ []) w ≡ Gives (MeantWord a) w)
    → ((around : Around) (place : Place) (a : Operand) (w : Writing) → IsWord around a → type_at around place ≡ type.Signed → lowered around place o (a ∷ []) w ≡ writing w.found (with_op (op.Set place.variable a.x) w.body)) → OnWord o type.Signed
word_stays {o = o} high l around place a w ha ht = followed (op.Set place.variable a.x) (one_lowered around o place a w kind.Word ha.kind refl ∙ l around place a w ha ht) follow
  where
    follow : (program : Program) (covers : Covers) (p : LlProgram) (arguments : List (List ℕ)) (rest : List LlOp) (e : LlExit) (frames : List Frame) (core : Core) (world : World) (vs : List Meant) → place.variable < length core.vars → AllStand around core (a ∷ []) vs
        → Follows p arguments (At (op.Set place.variable a.x ∷ rest) e frames core) rest e frames core (type_at around place) place.variable (length w.body.types) world (meant_op program covers o vs world)
    follow program covers p arguments rest e frames core world [] r st = absurd st
    follow program covers p arguments rest e frames core world (v ∷ []) r st =
        let x = word_is ha.type st.0 in
        let above : meant_op program covers o (v ∷ []) world ≡ Gives (MeantWord x.number) world = ap (λ s. meant_op program covers o (s ∷ []) world) x.high ∙ high program covers x.number world x.fits in
        subst (λ answer. Follows p arguments (At (op.Set place.variable a.x ∷ rest) e frames core) rest e frames core (type_at around place) place.variable (length w.body.types) world answer) (sym above)
        (did place.variable (Word x.number) r (sets (Word x.number) x.low refl) (subst (λ t. Stands core.blocks core.statics t (Word x.number) (MeantWord x.number)) (sym ht) (word x.number x.fits)))
    follow program covers p arguments rest e frames core world (v ∷ u ∷ vs) r st = absurd st.1

pub masked_is_followed : OnWord row.Intmask type.Signed
unfolding of_some of_one conversion
masked_is_followed = word_stays (λ program covers a w f. refl) l
  where
    l : (around : Around) (place : Place) (a : Operand) (w : Writing) → IsWord around a → type_at around place ≡ type.Signed → lowered around place row.Intmask (a ∷ []) w ≡ writing w.found (with_op (op.Set place.variable a.x) w.body)
    l around place a w ha ht = ap (λ k. conversion_by row.Intmask k around place a w) ha.kind ∙ gives_word around place a.x w ht

pub number_is_followed : OnWord row.ToInt type.Signed
unfolding of_some of_one conversion to_int
number_is_followed = word_stays (λ program covers a w f. refl) l
  where
    l : (around : Around) (place : Place) (a : Operand) (w : Writing) → IsWord around a → type_at around place ≡ type.Signed → lowered around place row.ToInt (a ∷ []) w ≡ writing w.found (with_op (op.Set place.variable a.x) w.body)
    l around place a w ha ht = ap (λ k. to_int_by k around place a w) ha.kind ∙ gives_word around place a.x w ht

pub copy_is_followed : OnWord row.Copy type.Signed
unfolding of_some of_one
copy_is_followed = word_stays (λ program covers a w f. refl) l
  where
    l : (around : Around) (place : Place) (a : Operand) (w : Writing) → IsWord around a → type_at around place ≡ type.Signed → lowered around place row.Copy (a ∷ []) w ≡ writing w.found (with_op (op.Set place.variable a.x) w.body)
    l around place a w ha ht = ap (λ t. give around place a.x t w) ha.type ∙ gives_word around place a.x w ht

-- one operation on a word, whose result is wrapped
pub turned : {o : RowOp} (c : CUnary) (result : ℤ → ℤ) → ((a : ℤ) → Fits a → unary_of c (Word a) ≡ Ok (Word (wrap (result a))))
    → ((program : Program) (covers : Covers) (a : ℤ) (w : World) → meant_op program covers o (MeantWord a ∷ []) w ≡ Gives (MeantWord (wrap (result a))) w)
    → ((around : Around) (place : Place) (a : Operand) (w : Writing) → IsWord around a → type_at around place ≡ type.Signed → lowered around place o (a ∷ []) w ≡ writing w.found (with_op (op.Unary place.variable c a.x) w.body)) → OnWord o type.Signed
turned {o = o} c result low high l around place a w ha ht = followed (op.Unary place.variable c a.x) (one_lowered around o place a w kind.Word ha.kind refl ∙ l around place a w ha ht) follow
  where
    follow : (program : Program) (covers : Covers) (p : LlProgram) (arguments : List (List ℕ)) (rest : List LlOp) (e : LlExit) (frames : List Frame) (core : Core) (world : World) (vs : List Meant) → place.variable < length core.vars → AllStand around core (a ∷ []) vs
        → Follows p arguments (At (op.Unary place.variable c a.x ∷ rest) e frames core) rest e frames core (type_at around place) place.variable (length w.body.types) world (meant_op program covers o vs world)
    follow program covers p arguments rest e frames core world [] r st = absurd st
    follow program covers p arguments rest e frames core world (v ∷ []) r st =
        let x = word_is ha.type st.0 in
        let z : ℤ = wrap (result x.number) in
        let above : meant_op program covers o (v ∷ []) world ≡ Gives (MeantWord z) world = ap (λ s. meant_op program covers o (s ∷ []) world) x.high ∙ high program covers x.number world in
        subst (λ answer. Follows p arguments (At (op.Unary place.variable c a.x ∷ rest) e frames core) rest e frames core (type_at around place) place.variable (length w.body.types) world answer) (sym above)
        (did place.variable (Word z) r (turns (Word z) (ap (unary_of c) x.low ∙ low x.number x.fits)) (subst (λ t. Stands core.blocks core.statics t (Word z) (MeantWord z)) (sym ht) (word z (SFits-int_wrap w64 (result x.number)))))
    follow program covers p arguments rest e frames core world (v ∷ u ∷ vs) r st = absurd st.1

pub opposite_is_followed : OnWord (row.Unary un.Neg) type.Signed
unfolding of_some of_one conversion lowered_unary give_unary
opposite_is_followed = turned {o = row.Unary un.Neg} unary.Neg neg_ℤ (λ a f. refl) (λ program covers a w. refl) l
  where
    l : (around : Around) (place : Place) (a : Operand) (w : Writing) → IsWord around a → type_at around place ≡ type.Signed → lowered around place (row.Unary un.Neg) (a ∷ []) w ≡ writing w.found (with_op (op.Unary place.variable unary.Neg a.x) w.body)
    l around place a w ha ht = ap (λ k. conversion_by (row.Unary un.Neg) k around place a w) ha.kind ∙ sets_place around place type.Signed (λ v. op.Unary v unary.Neg a.x) w ht

-- ---- on a truth value

flag_stays : {o : RowOp} → ((program : Program) (covers : Covers) (b : Bool) (w : World) → meant_op program covers o (MeantFlag b ∷ []) w ≡ Gives (MeantFlag b) w)
    → ((around : Around) (place : Place) (a : Operand) (w : Writing) → IsFlag around a → type_at around place ≡ type.Bool → lowered around place o (a ∷ []) w ≡ writing w.found (with_op (op.Set place.variable a.x) w.body)) → OnFlag o type.Bool
flag_stays {o = o} high l around place a w ha ht = followed (op.Set place.variable a.x) (one_lowered around o place a w kind.Flag ha.kind refl ∙ l around place a w ha ht) follow
  where
    follow : (program : Program) (covers : Covers) (p : LlProgram) (arguments : List (List ℕ)) (rest : List LlOp) (e : LlExit) (frames : List Frame) (core : Core) (world : World) (vs : List Meant) → place.variable < length core.vars → AllStand around core (a ∷ []) vs
        → Follows p arguments (At (op.Set place.variable a.x ∷ rest) e frames core) rest e frames core (type_at around place) place.variable (length w.body.types) world (meant_op program covers o vs world)
    follow program covers p arguments rest e frames core world [] r st = absurd st
    follow program covers p arguments rest e frames core world (v ∷ []) r st =
        let x = flag_is ha.type st.0 in
        let above : meant_op program covers o (v ∷ []) world ≡ Gives (MeantFlag x.truth) world = ap (λ s. meant_op program covers o (s ∷ []) world) x.high ∙ high program covers x.truth world in
        subst (λ answer. Follows p arguments (At (op.Set place.variable a.x ∷ rest) e frames core) rest e frames core (type_at around place) place.variable (length w.body.types) world answer) (sym above)
        (did place.variable (Flag x.truth) r (sets (Flag x.truth) x.low refl) (subst (λ t. Stands core.blocks core.statics t (Flag x.truth) (MeantFlag x.truth)) (sym ht) (flag x.truth)))
    follow program covers p arguments rest e frames core world (v ∷ u ∷ vs) r st = absurd st.1

pub truth_is_followed : OnFlag row.Truth type.Bool
unfolding of_some of_one truth_of
truth_is_followed = flag_stays (λ program covers b w. refl) l
  where
    l : (around : Around) (place : Place) (a : Operand) (w : Writing) → IsFlag around a → type_at around place ≡ type.Bool → lowered around place row.Truth (a ∷ []) w ≡ writing w.found (with_op (op.Set place.variable a.x) w.body)
    l around place a w ha ht = ap (λ k. tested_to around place false (truth_by k around a w).0 (truth_by k around a w).1) ha.kind ∙ gives_flag around place a.x w ht

pub flag_copy_is_followed : OnFlag row.Copy type.Bool
unfolding of_some of_one
flag_copy_is_followed = flag_stays (λ program covers b w. refl) l
  where
    l : (around : Around) (place : Place) (a : Operand) (w : Writing) → IsFlag around a → type_at around place ≡ type.Bool → lowered around place row.Copy (a ∷ []) w ≡ writing w.found (with_op (op.Set place.variable a.x) w.body)
    l around place a w ha ht = ap (λ t. give around place a.x t w) ha.type ∙ gives_flag around place a.x w ht

pub not_is_followed : OnFlag row.Not type.Bool
unfolding of_some of_one truth_of give_unary
not_is_followed around place a w ha ht = followed (op.Unary place.variable unary.Not a.x) (one_lowered around row.Not place a w kind.Flag ha.kind refl ∙ l) follow
  where
    l : lowered around place row.Not (a ∷ []) w ≡ writing w.found (with_op (op.Unary place.variable unary.Not a.x) w.body)
    l = ap (λ k. tested_to around place true (truth_by k around a w).0 (truth_by k around a w).1) ha.kind ∙ sets_place around place type.Bool (λ v. op.Unary v unary.Not a.x) w ht

    follow : (program : Program) (covers : Covers) (p : LlProgram) (arguments : List (List ℕ)) (rest : List LlOp) (e : LlExit) (frames : List Frame) (core : Core) (world : World) (vs : List Meant) → place.variable < length core.vars → AllStand around core (a ∷ []) vs
        → Follows p arguments (At (op.Unary place.variable unary.Not a.x ∷ rest) e frames core) rest e frames core (type_at around place) place.variable (length w.body.types) world (meant_op program covers row.Not vs world)
    follow program covers p arguments rest e frames core world [] r st = absurd st
    follow program covers p arguments rest e frames core world (v ∷ []) r st =
        let x = flag_is ha.type st.0 in
        let b : Bool = not x.truth in
        let above : meant_op program covers row.Not (v ∷ []) world ≡ Gives (MeantFlag b) world = ap (λ s. meant_op program covers row.Not (s ∷ []) world) x.high in
        subst (λ answer. Follows p arguments (At (op.Unary place.variable unary.Not a.x ∷ rest) e frames core) rest e frames core (type_at around place) place.variable (length w.body.types) world answer) (sym above)
        (did place.variable (Flag b) r (turns (Flag b) (ap (unary_of unary.Not) x.low)) (subst (λ t. Stands core.blocks core.statics t (Flag b) (MeantFlag b)) (sym ht) (flag b)))
    follow program covers p arguments rest e frames core world (v ∷ u ∷ vs) r st = absurd st.1
