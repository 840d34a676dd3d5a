-- Operations on words.
use Rattle.std.proofs.Common.{◌≡◌, ◌<◌, ℕ, ◌+◌, true, false, List, [], ◌∷◌, length, Option, Ok, ℤ, ◌+ℤ◌, ◌-ℤ◌, ◌*ℤ◌, refl, sym, ap, ◌∙◌, subst}
use Rattle.std.specs.Prelude.{if◌then◌else◌}
use Rattle.std.specs.Int.{w64}
use Rattle.std.proofs.lemmas.Int.{SFits-int_wrap}
use Rattle.rpy_base.specs.Word.{Fits, wrap}
use Rattle.csub_tree.specs.State.{Word, Core}
use Rattle.csub_tree.specs.Operation.{binary_of}
use Rattle.csub_tree.specs.Statement.{operand}
use Rattle.csub_tree.specs.declared.tree.CBinary.{CBinary}
use Rattle.csub_tree.specs.declared.tree.CBinary.TheVariants as binary
use Rattle.rpy_tree.specs.declared.syntax.BinOp.TheVariants as bin
use Rattle.rpy_tree.specs.Value.{Value as Meant, Word as MeantWord}
use Rattle.rpy_meaning.specs.declared.row.Covers.{Covers}
use Rattle.rpy_meaning.specs.declared.row.RowOp.{RowOp}
use Rattle.rpy_meaning.specs.declared.row.RowOp.TheVariants as row
use Rattle.rpy_meaning.specs.Operations.{op as meant_op}
use Rattle.rpy_meaning.specs.Tree.{Program}
use Rattle.rpy_meaning.specs.World.{World, Gives}
use Rattle.ll_code.specs.State.{Frame, At}
use Rattle.ll_code.specs.declared.program.LlType.TheVariants as type
use Rattle.ll_code.specs.declared.program.LlOp.{LlOp}
use Rattle.ll_code.specs.declared.program.LlOp.TheVariants as op
use Rattle.ll_code.specs.declared.program.LlExit.{LlExit}
use Rattle.ll_code.specs.declared.program.LlProgram.{LlProgram}
use Rattle.ll_leads.proofs.Ways.{gives}
use Rattle.ll_texts.specs.Stands.{Stands, word}
use Rattle.rtyper_layout.specs.declared.kind.Kind.{Kind}
use Rattle.rtyper_layout.specs.declared.kind.Kind.TheVariants as kind
use Rattle.rtyper_op.specs.Lowering.{lower_op, lowered, never_comes, is_never, of_some, of_two, binary_to, if_words}
use Rattle.rtyper_data.specs.Numbers.{give_binary, binary_of as lowered_binary}
use Rattle.rtyper_op.specs.Placing.{says_nothing, sum, sum_by, product, product_by}
use Rattle.rtyper_data.specs.Seen.{Around, Operand, Place, type_at, kind_of, with_op, Writing, writing}
use Rattle.lower_laws.specs.Follows.{AllStand, Follows, IsWord, OnWords}
use Rattle.lower_laws.proofs.Doing.{did, sets_place, followed, word_is}

-- operands of two words come
two_come : {around : Around} {a b : Operand} → IsWord around a → IsWord around b → is_never (a ∷ b ∷ []) ≡ false
two_come {b = b} ha hb = ap (λ k. if never_comes k then true else is_never (b ∷ [])) ha.kind ∙ ap (λ k. if never_comes k then true else false) hb.kind

pub two_lowered : (around : Around) (o : RowOp) (place : Place) (a b : Operand) (w : Writing) → IsWord around a → IsWord around b → lower_op around o place (a ∷ b ∷ []) w ≡ lowered around place o (a ∷ b ∷ []) w
two_lowered around o place a b w ha hb = ap (λ c. if c then says_nothing around place w else lowered around place o (a ∷ b ∷ []) w) (two_come ha hb)

pub one_lowered : (around : Around) (o : RowOp) (place : Place) (a : Operand) (w : Writing) (k : Kind) → kind_of a ≡ k → never_comes k ≡ false → lower_op around o place (a ∷ []) w ≡ lowered around place o (a ∷ []) w
one_lowered around o place a w k ha hk = ap (λ k. if (if never_comes k then true else false) then says_nothing around place w else lowered around place o (a ∷ []) w) ha
    ∙ ap (λ c. if (if c then true else false) then says_nothing around place w else lowered around place o (a ∷ []) w) hk

-- ---- operations of two words

-- what is done with two words, where that is a word
pub record Made (o : RowOp) (c : CBinary) : Type 0 where
  pub result : ℤ → ℤ → ℤ
  pub low : (a b : ℤ) → Fits a → Fits b → binary_of c (Word a) (Word b) ≡ Ok (Word (result a b))
  pub high : (program : Program) (covers : Covers) (a b : ℤ) (w : World) → meant_op program covers o (MeantWord a ∷ MeantWord b ∷ []) w ≡ Gives (MeantWord (result a b)) w
  pub fits : (a b : ℤ) → Fits a → Fits b → Fits (result a b)

pub two_words : {o : RowOp} {c : CBinary} → Made o c → ((around : Around) (place : Place) (a b : Operand) (w : Writing) → IsWord around a → IsWord around b → type_at around place ≡ type.Signed → lowered around place o (a ∷ b ∷ []) w ≡ writing w.found (with_op (op.Binary place.variable c a.x b.x) w.body)) → OnWords o type.Signed
two_words {o = o} {c = c} m l around place a b w ha hb ht = followed (op.Binary place.variable c a.x b.x) (two_lowered around o place a b w ha hb ∙ l around place a b w ha hb ht) follow
  where
    follow : (program : Program) (covers : Covers) (p : LlProgram) (arguments : List (List ℕ)) (rest : List LlOp) (e : LlExit) (frames : List Frame) (core : Core) (world : World) (vs : List Meant) → place.variable < length core.vars → AllStand around core (a ∷ b ∷ []) vs
        → Follows p arguments (At (op.Binary place.variable c a.x b.x ∷ rest) e frames core) rest e frames core (type_at around place) place.variable (length w.body.types) world (meant_op program covers o vs world)
    follow program covers p arguments rest e frames core world [] r st = absurd st
    follow program covers p arguments rest e frames core world (v ∷ []) r st = absurd st.1
    follow program covers p arguments rest e frames core world (v ∷ u ∷ []) r st =
        let x = word_is ha.type st.0 in
        let y = word_is hb.type st.1.0 in
        let z : ℤ = m.result x.number y.number in
        let below : binary_of c (operand core.vars a.x) (operand core.vars b.x) ≡ Ok (Word z) = ap (λ s. binary_of c s (operand core.vars b.x)) x.low ∙ ap (binary_of c (Word x.number)) y.low ∙ m.low x.number y.number x.fits y.fits in
        let above : meant_op program covers o (v ∷ u ∷ []) world ≡ Gives (MeantWord z) world = ap (λ s. meant_op program covers o (s ∷ u ∷ []) world) x.high ∙ ap (λ s. meant_op program covers o (MeantWord x.number ∷ s ∷ []) world) y.high ∙ m.high program covers x.number y.number world in
        subst (λ answer. Follows p arguments (At (op.Binary place.variable c a.x b.x ∷ rest) e frames core) rest e frames core (type_at around place) place.variable (length w.body.types) world answer) (sym above)
        (did place.variable (Word z) r (gives (Word z) below) (subst (λ t. Stands core.blocks core.statics t (Word z) (MeantWord z)) (sym ht) (word z (m.fits x.number y.number x.fits y.fits))))
    follow program covers p arguments rest e frames core world (v ∷ u ∷ t ∷ vs) r st = absurd st.1.1

sum_is : (around : Around) (place : Place) (a b : Operand) (w : Writing) → IsWord around a → IsWord around b → type_at around place ≡ type.Signed → sum around place a b w ≡ writing w.found (with_op (op.Binary place.variable binary.Add a.x b.x) w.body)
unfolding sum give_binary
sum_is around place a b w ha hb ht = ap (λ k. sum_by k (kind_of b) around place a b w) ha.kind ∙ ap (λ k. sum_by kind.Word k around place a b w) hb.kind ∙ sets_place around place type.Signed (λ v. op.Binary v binary.Add a.x b.x) w ht

sums : (o : RowOp) → ((program : Program) (covers : Covers) (a b : ℤ) (w : World) → meant_op program covers o (MeantWord a ∷ MeantWord b ∷ []) w ≡ Gives (MeantWord (wrap (a +ℤ b))) w) → Made o binary.Add
sums o h = record { result = λ a b. wrap (a +ℤ b); low = λ a b fa fb. refl; high = h; fits = λ a b fa fb. SFits-int_wrap w64 (a +ℤ b) }

pub sum_is_followed : (site : Option ℕ) → OnWords (row.Binary bin.Add site) type.Signed
unfolding of_some of_two binary_to
sum_is_followed site = two_words (sums (row.Binary bin.Add site) (λ program covers a b w. refl)) (λ around place a b w ha hb ht. as_sum around place a b w ∙ sum_is around place a b w ha hb ht)
  where
    as_sum : (around : Around) (place : Place) (a b : Operand) (w : Writing) → lowered around place (row.Binary bin.Add site) (a ∷ b ∷ []) w ≡ sum around place a b w
    as_sum around place a b w = refl

pub added_is_followed : OnWords row.AddTo type.Signed
unfolding of_some of_two
added_is_followed = two_words (sums row.AddTo (λ program covers a b w. refl)) (λ around place a b w ha hb ht. as_sum around place a b w ∙ sum_is around place a b w ha hb ht)
  where
    as_sum : (around : Around) (place : Place) (a b : Operand) (w : Writing) → lowered around place row.AddTo (a ∷ b ∷ []) w ≡ sum around place a b w
    as_sum around place a b w = refl

pub product_is_followed : (site : Option ℕ) → OnWords (row.Binary bin.Mul site) type.Signed
unfolding of_some of_two binary_to product give_binary
product_is_followed site = two_words (record { result = λ a b. wrap (a *ℤ b); low = λ a b fa fb. refl; high = λ program covers a b w. refl; fits = λ a b fa fb. SFits-int_wrap w64 (a *ℤ b) }) as_product
  where
    as_product : (around : Around) (place : Place) (a b : Operand) (w : Writing) → IsWord around a → IsWord around b → type_at around place ≡ type.Signed → lowered around place (row.Binary bin.Mul site) (a ∷ b ∷ []) w ≡ writing w.found (with_op (op.Binary place.variable binary.Mul a.x b.x) w.body)
    as_product around place a b w ha hb ht = ap (λ k. product_by k around place a b w) ha.kind ∙ sets_place around place type.Signed (λ v. op.Binary v binary.Mul a.x b.x) w ht

pub difference_is_followed : (site : Option ℕ) → OnWords (row.Binary bin.Sub site) type.Signed
unfolding of_some of_two binary_to lowered_binary give_binary
difference_is_followed site = two_words (record { result = λ a b. wrap (a -ℤ b); low = λ a b fa fb. refl; high = λ program covers a b w. refl; fits = λ a b fa fb. SFits-int_wrap w64 (a -ℤ b) }) as_difference
  where
    as_difference : (around : Around) (place : Place) (a b : Operand) (w : Writing) → IsWord around a → IsWord around b → type_at around place ≡ type.Signed → lowered around place (row.Binary bin.Sub site) (a ∷ b ∷ []) w ≡ writing w.found (with_op (op.Binary place.variable binary.Sub a.x b.x) w.body)
    as_difference around place a b w ha hb ht = ap (λ k. if_words k (kind_of b) (lowered_binary around place bin.Sub a.x b.x w) w) ha.kind ∙ ap (λ k. if_words kind.Word k (lowered_binary around place bin.Sub a.x b.x w) w) hb.kind
        ∙ sets_place around place type.Signed (λ v. op.Binary v binary.Sub a.x b.x) w ht
