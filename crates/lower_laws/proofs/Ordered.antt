-- Comparisons of two words: the truth value has a variable of its own, and the place takes it.
use Rattle.std.proofs.Common.{◌≡◌, ◌<◌, ◌≤◌, ℕ, ◌+◌, Bool, true, false, List, [], ◌∷◌, ◌++◌, length, Ok, ℤ, pos, negsuc, refl, sym, ap, ◌∙◌, subst, arith}
use Rattle.std.specs.Prelude.{not, slice_set, int_lt, int_le, nat_lt, nat_le}
use Rattle.std.proofs.lemmas.Bool.Decides.{nat_tests}
use Rattle.std.specs.Ordering.{int_eq}
use Rattle.std.proofs.lemmas.List.{get_or-set_same, get_or-set_other, length-set}
use Rattle.csub_tree.specs.State.{Word, Flag, Unset, Core}
use Rattle.csub_tree.specs.Operation.{binary_of}
use Rattle.csub_tree.specs.Statement.{operand}
use Rattle.csub_tree.specs.declared.tree.CBinary.{CBinary}
use Rattle.csub_tree.specs.declared.tree.CBinary.TheVariants as binary
use Rattle.csub_tree.specs.declared.tree.COperand.TheVariants.{Var}
use Rattle.rpy_tree.specs.declared.syntax.CmpOp.{CmpOp}
use Rattle.rpy_tree.specs.declared.syntax.CmpOp.TheVariants as compared
use Rattle.rpy_tree.specs.Value.{Value as Meant, Word as MeantWord, Flag as MeantFlag}
use Rattle.rpy_meaning.specs.declared.row.Covers.{Covers}
use Rattle.rpy_meaning.specs.declared.row.RowOp.TheVariants as row
use Rattle.rpy_meaning.specs.Operations.{op as meant_op}
use Rattle.rpy_meaning.specs.Tree.{Program}
use Rattle.rpy_meaning.specs.World.{World, Gives}
use Rattle.ll_code.specs.State.{Frame, State, At}
use Rattle.ll_code.specs.declared.program.LlType.TheVariants as type
use Rattle.ll_code.specs.declared.program.LlOp.{LlOp}
use Rattle.ll_code.specs.declared.program.LlOp.TheVariants as op
use Rattle.ll_code.specs.declared.program.LlExit.{LlExit}
use Rattle.ll_code.specs.declared.program.LlProgram.{LlProgram}
use Rattle.ll_leads.specs.Path.{Leads}
use Rattle.ll_leads.proofs.Ways.{on, gives}
use Rattle.ll_texts.specs.Stands.{Stands, flag}
use Rattle.rtyper_layout.specs.declared.kind.Kind.TheVariants as kind
use Rattle.rtyper_data.specs.Comparing.{compare, ordered, ordered_by, equal, opposite_if, opposite_of}
use Rattle.rtyper_data.specs.Converting.{give, give_to, value_as}
use Rattle.rtyper_op.specs.Lowering.{lower_op, lowered, of_some, of_two}
use Rattle.rtyper_data.specs.Seen.{Around, Operand, Place, type_of, type_at, kind_of, with_op, fresh, Writing, writing}
use Rattle.lower_laws.specs.Follows.{AllStand, Did, Follows, IsWord, OnWords}
use Rattle.lower_laws.proofs.Doing.{after, word_is}
use Rattle.lower_laws.proofs.Single.{sets}
use Rattle.lower_laws.proofs.Words.{two_lowered}

-- what is done with two words, where that is a truth value
record Told (o : CmpOp) (c : CBinary) : Type 0 where
  result : ℤ → ℤ → Bool
  low : (a b : ℤ) → binary_of c (Word a) (Word b) ≡ Ok (Flag (result a b))
  high : (program : Program) (covers : Covers) (a b : ℤ) (w : World) → meant_op program covers (row.Compare o) (MeantWord a ∷ MeantWord b ∷ []) w ≡ Gives (MeantFlag (result a b)) w

-- the comparison into a new variable, and that into the place
abbrev both : CBinary → Place → Operand → Operand → ℕ → List LlOp
both c place a b n = op.Binary n c a.x b.x ∷ op.Set place.variable (Var n) ∷ []

abbrev written_so : CBinary → Place → Operand → Operand → Writing → Writing
written_so c place a b w = writing w.found (record { types = w.body.types ++ type.Bool ∷ []; ops = (w.body.ops ++ op.Binary (length w.body.types) c a.x b.x ∷ []) ++ op.Set place.variable (Var (length w.body.types)) ∷ [] })

pub two_more : {A : Type 0} (xs : List A) (x y : A) → (xs ++ x ∷ []) ++ y ∷ [] ≡ xs ++ x ∷ y ∷ []
two_more [] x y = refl
two_more (z ∷ xs) x y = ap (λ ys. z ∷ ys) (two_more xs x y)

-- both are set, and nothing else
pub did_both : {p : LlProgram} {args : List (List ℕ)} {s : State} {rest : List LlOp} {e : LlExit} {frames : List Frame} {core : Core} {w : World} (into n : ℕ) (b c : Bool) → n < length core.vars → into < n
    → Leads p args 0 s [] (At rest e frames (after (after core n (Flag b)) into (Flag c))) → Did p args s rest e frames core type.Bool into n w (MeantFlag c) w
did_both {core = core} into n b c r i l = record {
  end = after (after core n (Flag b)) into (Flag c);
  leads = l;
  memory = refl;
  stands = subst (λ x. Stands core.blocks core.statics type.Bool x (MeantFlag c)) (sym (get_or-set_same (slice_set core.vars n (Flag b)) into (Flag c) _ (let e : length (slice_set core.vars n (Flag b)) ≡ length core.vars = length-set core.vars n (Flag b) in omega (arith, e, r, i)))) (flag c);
  others = λ m below other. get_or-set_other (slice_set core.vars n (Flag b)) into m (Flag c) _ other ∙ get_or-set_other core.vars n m (Flag b) _ (λ same. absurd (omega (arith, below, same)));
  room = length-set (slice_set core.vars n (Flag b)) into (Flag c) ∙ length-set core.vars n (Flag b);
  function = refl;
  block = refl;
  same = refl;
}

told : {o : CmpOp} {c : CBinary} → Told o c → ((around : Around) (place : Place) (a b : Operand) (w : Writing) → IsWord around a → IsWord around b → type_at around place ≡ type.Bool → lowered around place (row.Compare o) (a ∷ b ∷ []) w ≡ written_so c place a b w) → OnWords (row.Compare o) type.Bool
told {o = o} {c = c} m l around place a b w ha hb ht = record {
  ops = both c place a b (length w.body.types);
  new = type.Bool ∷ [];
  asked = ap (λ (r : Writing). r.found) h;
  written = ap (λ (r : Writing). r.body.ops) h ∙ two_more w.body.ops (op.Binary (length w.body.types) c a.x b.x) (op.Set place.variable (Var (length w.body.types)));
  types = ap (λ (r : Writing). r.body.types) h;
  follows = follow;
}
  where
    h : lower_op around (row.Compare o) place (a ∷ b ∷ []) w ≡ written_so c place a b w
    h = two_lowered around (row.Compare o) place a b w ha hb ∙ l around place a b w ha hb ht

    follow : (program : Program) (covers : Covers) (p : LlProgram) (arguments : List (List ℕ)) (rest : List LlOp) (e : LlExit) (frames : List Frame) (core : Core) (world : World) (vs : List Meant) → length w.body.types + 1 ≤ length core.vars → place.variable < length w.body.types → AllStand around core (a ∷ b ∷ []) vs
        → Follows p arguments (At (both c place a b (length w.body.types) ++ rest) e frames core) rest e frames core (type_at around place) place.variable (length w.body.types) world (meant_op program covers (row.Compare o) vs world)
    follow program covers p arguments rest e frames core world [] r i st = absurd st
    follow program covers p arguments rest e frames core world (v ∷ []) r i st = absurd st.1
    follow program covers p arguments rest e frames core world (v ∷ u ∷ []) r i st =
        let x = word_is ha.type st.0 in
        let y = word_is hb.type st.1.0 in
        let n : ℕ = length w.body.types in
        let t : Bool = m.result x.number y.number in
        let room : n < length core.vars = omega (arith, r) in
        let below : binary_of c (operand core.vars a.x) (operand core.vars b.x) ≡ Ok (Flag t) = ap (λ s. binary_of c s (operand core.vars b.x)) x.low ∙ ap (binary_of c (Word x.number)) y.low ∙ m.low x.number y.number in
        let above : meant_op program covers (row.Compare o) (v ∷ u ∷ []) world ≡ Gives (MeantFlag t) world = ap (λ s. meant_op program covers (row.Compare o) (s ∷ u ∷ []) world) x.high ∙ ap (λ s. meant_op program covers (row.Compare o) (MeantWord x.number ∷ s ∷ []) world) y.high ∙ m.high program covers x.number y.number world in
        subst (λ answer. Follows p arguments (At (both c place a b n ++ rest) e frames core) rest e frames core (type_at around place) place.variable n world answer) (sym above)
        (subst (λ k. Did p arguments (At (both c place a b n ++ rest) e frames core) rest e frames core k place.variable n world (MeantFlag t) world) (sym ht)
        (did_both place.variable n t t room i (on (gives (Flag t) below) (sets (Flag t) (get_or-set_same core.vars n (Flag t) Unset room) refl))))
    follow program covers p arguments rest e frames core world (v ∷ u ∷ z ∷ vs) r i st = absurd st.1.1

-- ---- which comparison it is

given_so : (around : Around) (place : Place) (c : CBinary) (a b : Operand) (w : Writing) → type_at around place ≡ type.Bool
    → give around place (Var (length w.body.types)) type.Bool (writing w.found (with_op (op.Binary (length w.body.types) c a.x b.x) (fresh type.Bool w.body).1)) ≡ written_so c place a b w
unfolding give value_as
given_so around place c a b w ht = ap (λ t. give_to around place (Var (length w.body.types)) type.Bool t (writing w.found (with_op (op.Binary (length w.body.types) c a.x b.x) (fresh type.Bool w.body).1))) ht

order_so : (around : Around) (place : Place) (o : CmpOp) (a b : Operand) (w : Writing) → IsWord around a → IsWord around b → ordered around o a b w ≡ ordered_by kind.Word kind.Word around o a b w
unfolding ordered
order_so around place o a b w ha hb = ap (λ k. ordered_by k (kind_of b) around o a b w) ha.kind ∙ ap (λ k. ordered_by kind.Word k around o a b w) hb.kind

pub less_is_followed : OnWords (row.Compare compared.Lt) type.Bool
unfolding of_some of_two compare
less_is_followed = told {c = binary.Lt} (record { result = int_lt; low = λ a b. refl; high = λ program covers a b w. refl })
    (λ around place a b w ha hb ht. ap (λ made. give around place made.0 type.Bool made.1) (order_so around place compared.Lt a b w ha hb) ∙ given_so around place binary.Lt a b w ht)

pub greater_is_followed : OnWords (row.Compare compared.Gt) type.Bool
unfolding of_some of_two compare
greater_is_followed = told {c = binary.Gt} (record { result = λ a b. int_lt b a; low = λ a b. refl; high = λ program covers a b w. refl })
    (λ around place a b w ha hb ht. ap (λ made. give around place made.0 type.Bool made.1) (order_so around place compared.Gt a b w ha hb) ∙ given_so around place binary.Gt a b w ht)

-- the first is at most the second where the second is not less
le_not : (a b : ℤ) → int_le a b ≡ not (int_lt b a)
le_not (pos a) (pos b) = one (nat_lt b a) refl
  where
    one : (c : Bool) → nat_lt b a ≡ c → nat_le a b ≡ not c
    one true e = grind (arith, nat_tests, e)
    one false e = grind (arith, nat_tests, e)
le_not (pos a) (negsuc b) = refl
le_not (negsuc a) (pos b) = refl
le_not (negsuc a) (negsuc b) = one (nat_lt a b) refl
  where
    one : (c : Bool) → nat_lt a b ≡ c → nat_le b a ≡ not c
    one true e = grind (arith, nat_tests, e)
    one false e = grind (arith, nat_tests, e)

pub at_most_is_followed : OnWords (row.Compare compared.Le) type.Bool
unfolding of_some of_two compare
at_most_is_followed = told {c = binary.Le} (record { result = λ a b. not (int_lt b a); low = λ a b. ap (λ t. Ok (Flag t)) (le_not a b); high = λ program covers a b w. refl })
    (λ around place a b w ha hb ht. ap (λ made. give around place made.0 type.Bool made.1) (order_so around place compared.Le a b w ha hb) ∙ given_so around place binary.Le a b w ht)

pub at_least_is_followed : OnWords (row.Compare compared.Ge) type.Bool
unfolding of_some of_two compare
at_least_is_followed = told {c = binary.Ge} (record { result = λ a b. not (int_lt a b); low = λ a b. ap (λ t. Ok (Flag t)) (le_not b a); high = λ program covers a b w. refl })
    (λ around place a b w ha hb ht. ap (λ made. give around place made.0 type.Bool made.1) (order_so around place compared.Ge a b w ha hb) ∙ given_so around place binary.Ge a b w ht)

pub equal_is_followed : OnWords (row.Compare compared.Eq) type.Bool
unfolding of_some of_two compare equal opposite_if
equal_is_followed = told {c = binary.Eq} (record { result = int_eq; low = λ a b. refl; high = λ program covers a b w. refl })
    (λ around place a b w ha hb ht. ap (λ t. give around place (opposite_of false (equal around.layout a.x t b.x (type_of around b) w)).0 type.Bool (opposite_of false (equal around.layout a.x t b.x (type_of around b) w)).1) ha.type
    ∙ ap (λ t. give around place (opposite_of false (equal around.layout a.x type.Signed b.x t w)).0 type.Bool (opposite_of false (equal around.layout a.x type.Signed b.x t w)).1) hb.type
    ∙ given_so around place binary.Eq a b w ht)
