-- Operations that give an operand as it is, and the next numbers of ranges by one.
use Rattle.std.proofs.Common.{◌≡◌, ◌<◌, ◌≤◌, ℕ, ◌+◌, ◌^◌, Bool, true, false, List, [], ◌∷◌, length, Some, Ok, ℤ, pos, negsuc, ◌+ℤ◌, refl, sym, ap, ◌∙◌, subst, arith}
use Rattle.std.specs.Prelude.{int_lt, if◌then◌else◌}
use Rattle.std.specs.Int.{w64}
use Rattle.std.proofs.lemmas.Bool.Decides.{nat_tests}
use Rattle.std.proofs.lemmas.Int.{int_wrap_fits, ints}
use Rattle.std.proofs.lemmas.List.{append-nil}
use Rattle.rpy_base.specs.Word.{Fits}
use Rattle.csub_tree.specs.State.{Value, Word, Core}
use Rattle.csub_tree.specs.Operation.{binary_of}
use Rattle.csub_tree.specs.Statement.{operand}
use Rattle.csub_tree.specs.declared.tree.CBinary.TheVariants as binary
use Rattle.rpy_tree.specs.Value.{Value as Meant, Word as MeantWord}
use Rattle.rpy_meaning.specs.declared.row.Covers.{Covers}
use Rattle.rpy_meaning.specs.declared.row.RowOp.{RowOp}
use Rattle.rpy_meaning.specs.declared.row.RowOp.TheVariants as row
use Rattle.rpy_meaning.specs.Operations.{op as meant_op}
use Rattle.rpy_meaning.specs.Tree.{Program}
use Rattle.rpy_meaning.specs.Walks.{is_before, next_number}
use Rattle.rpy_meaning.specs.World.{World, Gives}
use Rattle.ll_code.specs.State.{Frame, At}
use Rattle.ll_code.specs.declared.program.LlType.TheVariants as type
use Rattle.ll_code.specs.declared.program.LlOp.{LlOp}
use Rattle.ll_code.specs.declared.program.LlOp.TheVariants as op
use Rattle.ll_code.specs.declared.program.LlExit.{LlExit}
use Rattle.ll_code.specs.declared.program.LlProgram.{LlProgram}
use Rattle.ll_leads.proofs.Ways.{gives}
use Rattle.ll_texts.specs.Stands.{Stands, word}
use Rattle.rtyper_layout.specs.declared.kind.Kind.TheVariants as kind
use Rattle.rtyper_layout.specs.Kinds.{kind_seen}
use Rattle.rtyper_op.specs.Lowering.{lower_op, never_comes, of_some, of_one, of_two, same}
use Rattle.rtyper_data.specs.Numbers.{word as word_operand, give_binary, range_advance}
use Rattle.rtyper_op.specs.Placing.{advance, walk_item}
use Rattle.rtyper_data.specs.Seen.{Around, Operand, Place, type_of, type_at, kind_of, with_op, Writing, writing}
use Rattle.lower_laws.specs.Copied.{IsCopied, IsReached, Before, IsNext}
use Rattle.lower_laws.specs.Done.{Follows, IsDone}
use Rattle.lower_laws.specs.Tuples.{Stays, Same}
use Rattle.lower_laws.specs.Values.{Holds, Given}
use Rattle.lower_laws.proofs.Coming.{one_comes, two_come}
use Rattle.lower_laws.proofs.Doing.{sets_place}
use Rattle.lower_laws.proofs.Items.{gives_same, set_last}
use Rattle.lower_laws.proofs.Single.{sets, gives_word}
use Rattle.lower_laws.proofs.Stayed.{stays_typed, stays_there, stays_comes, stays_held, held_set}
use Rattle.lower_laws.proofs.Typing.{place_of_words}
use Rattle.lower_laws.proofs.Valued.{word_held, word_holds}

-- ---- one operand of any number is set

module _ (around : Around) (o : RowOp) (place : Place) (args : List Operand) (w : Writing) (covers : Covers) (c : Operand) (stay : Stays around.layout c.element place.element) where
  -- the operation gives the value of this operand
  abbrev GivesIt : Type 0
  GivesIt = (program : Program) (core : Core) (world : World) (vs : List Meant) → Given around core args vs → (v : Meant) × Holds around.layout core.blocks core.statics c.element (operand core.vars c.x) v × (meant_op program covers o vs world ≡ Gives v world)

  pub set_done : lower_op around o place args w ≡ writing w.found (with_op (op.Set place.variable c.x) w.body) → GivesIt → IsDone around o covers [] place args w
  set_done l means = record {
    ops = op.Set place.variable c.x ∷ [];
    new = [];
    asked = ap (λ (r : Writing). r.found) l;
    written = ap (λ (r : Writing). r.body.ops) l;
    types = ap (λ (r : Writing). r.body.types) l ∙ sym (append-nil w.body.types);
    follows = λ program p numbers raised arguments rest e frames core world vs structs has left room inside below given good.
        let m = means program core world vs given in
        subst (λ answer. Follows around place p arguments (At (op.Set place.variable c.x ∷ rest) e frames core) rest e frames core raised (length args) (length w.body.types) world answer) (sym m.2)
        (set_last (length args) (length w.body.types) core (operand core.vars c.x) m.0 left refl refl refl refl (λ k under. refl) (omega (arith, room, inside)) (sets (operand core.vars c.x) refl (held_set m.1)) (stays_held stay m.1));
  }

  -- the place takes it
  pub is_same : same around place c w ≡ writing w.found (with_op (op.Set place.variable c.x) w.body)
  is_same = gives_same around place c.x (type_of around c) w (λ h. stays_there stay (sym (stays_typed stay) ∙ h)) (sym (stays_typed stay))

-- ---- copies

copied : (o : RowOp) → ((around : Around) (place : Place) (a : Operand) (w : Writing) → never_comes (kind_of a) ≡ false → lower_op around o place (a ∷ []) w ≡ same around place a w) → ((program : Program) (covers : Covers) (v : Meant) (world : World) → meant_op program covers o (v ∷ []) world ≡ Gives v world) → IsCopied o
copied o l means around place a w covers stay = set_done around o place (a ∷ []) w covers a stay (l around place a w (stays_comes stay) ∙ is_same around o place (a ∷ []) w covers a stay) gives_it
  where
    gives_it : (program : Program) (core : Core) (world : World) (vs : List Meant) → Given around core (a ∷ []) vs → (v : Meant) × Holds around.layout core.blocks core.statics a.element (operand core.vars a.x) v × (meant_op program covers o vs world ≡ Gives v world)
    gives_it program core world [] given = absurd given
    gives_it program core world (v ∷ []) given = (v, given.0, means program covers v world)
    gives_it program core world (v ∷ u ∷ vs) given = absurd given.1

pub copy_is_done : IsCopied row.Copy
unfolding of_some of_one
copy_is_done = copied row.Copy (λ around place a w h. one_comes around row.Copy place a w h) (λ program covers v world. refl)

pub drop_is_done : IsCopied row.DropNone
unfolding of_some of_one
drop_is_done = copied row.DropNone (λ around place a w h. one_comes around row.DropNone place a w h) (λ program covers v world. refl)

pub only_is_done : IsCopied row.OnlyNone
unfolding of_some of_one
only_is_done = copied row.OnlyNone (λ around place a w h. one_comes around row.OnlyNone place a w h) (λ program covers v world. refl)

pub false_is_done : IsCopied row.FalseNone
unfolding of_some of_one
false_is_done = copied row.FalseNone (λ around place a w h. one_comes around row.FalseNone place a w h) (λ program covers v world. refl)

-- ---- ranges

words_stay : (around : Around) (b : Operand) (place : Place) → kind_of b ≡ kind.Word → kind_seen place.element ≡ kind.Word → Stays around.layout b.element place.element
words_stay around b place h k = Same kind.Word refl h k

pub reached_is_done : (step : ℤ) → IsReached step
unfolding of_some of_two walk_item
reached_is_done step around place a b w covers ha hb words = set_done around (row.Item (Some step)) place (a ∷ b ∷ []) w covers b (words_stay around b place hb words)
    (two_come around (row.Item (Some step)) place a b w (ap never_comes ha) (ap never_comes hb) ∙ gives_word around place b.x w (place_of_words around.layout place.element words)) gives_it
  where
    gives_it : (program : Program) (core : Core) (world : World) (vs : List Meant) → Given around core (a ∷ b ∷ []) vs → (v : Meant) × Holds around.layout core.blocks core.statics b.element (operand core.vars b.x) v × (meant_op program covers (row.Item (Some step)) vs world ≡ Gives v world)
    gives_it program core world [] given = absurd given
    gives_it program core world (v ∷ []) given = absurd given.1
    gives_it program core world (v ∷ u ∷ []) given = (u, given.1.0, refl)
    gives_it program core world (v ∷ u ∷ z ∷ vs) given = absurd given.1.1

-- the number behind one that is before the end
behind_up : (end i : ℤ) → int_lt i end ≡ true → next_number (pos 1) end i ≡ i +ℤ pos 1
behind_up end i h = by (int_lt (i +ℤ pos 1) end) refl
  where
    by : (c : Bool) → int_lt (i +ℤ pos 1) end ≡ c → (if c then i +ℤ pos 1 else end) ≡ i +ℤ pos 1
    by true e = refl
    by false e = grind (arith, ints, nat_tests, h, e)

behind_down : (end i : ℤ) → int_lt end i ≡ true → next_number (negsuc 0) end i ≡ i +ℤ negsuc 0
behind_down end i h = by (int_lt end (i +ℤ negsuc 0)) refl
  where
    by : (c : Bool) → int_lt end (i +ℤ negsuc 0) ≡ c → (if c then i +ℤ negsuc 0 else end) ≡ i +ℤ negsuc 0
    by true e = refl
    by false e = grind (arith, ints, nat_tests, h, e)

fits_up : (end i : ℤ) → Fits end → Fits i → int_lt i end ≡ true → Fits (i +ℤ pos 1)
fits_up (pos n) (pos m) fe fi h = (let l : m < n = grind (arith, nat_tests, h) in count (m + 1) (omega (arith, l, fe.sfits)))
  where
    count : (k : ℕ) → k < 2 ^ 63 → Fits (pos k)
    count k s = omega (arith, ints)
fits_up (negsuc n) (pos m) fe fi h = absurd (cc)
fits_up end (negsuc m) fe fi h = below m (omega (arith, fi.sfits))
  where
    below : (m : ℕ) → m < 2 ^ 63 → Fits (negsuc m +ℤ pos 1)
    below m s = omega (arith, ints)

fits_down : (end i : ℤ) → Fits end → Fits i → int_lt end i ≡ true → Fits (i +ℤ negsuc 0)
fits_down (negsuc n) (negsuc m) fe fi h = (let l : m < n = grind (arith, nat_tests, h) in count m n l (omega (arith, fe.sfits)))
  where
    count : (k n : ℕ) → k < n → n < 2 ^ 63 → Fits (negsuc k +ℤ negsuc 0)
    count k n l s = omega (arith, ints)
fits_down (pos n) (negsuc m) fe fi h = absurd (cc)
fits_down end (pos m) fe fi h = above m (omega (arith, fi.sfits))
  where
    above : (m : ℕ) → m < 2 ^ 63 → Fits (pos m +ℤ negsuc 0)
    above m s = omega (arith, ints)

-- by one, or by its opposite
next_done : (step : ℤ) → ((around : Around) (place : Place) (a b : Operand) (w : Writing) → type_at around place ≡ type.Signed → advance around place (Some step) a b w ≡ writing w.found (with_op (op.Binary place.variable binary.Add b.x (word_operand step)) w.body))
    → ((end i : ℤ) → Fits end → Fits i → is_before step end i ≡ true → (next_number step end i ≡ i +ℤ step) × Fits (i +ℤ step)) → IsNext step
unfolding of_some of_two
next_done step written means around place a b w covers ha hb words = record {
  ops = op.Binary place.variable binary.Add b.x (word_operand step) ∷ [];
  new = [];
  asked = ap (λ (r : Writing). r.found) l;
  written = ap (λ (r : Writing). r.body.ops) l;
  types = ap (λ (r : Writing). r.body.types) l ∙ sym (append-nil w.body.types);
  follows = λ program p numbers raised arguments rest e frames core world vs structs has left room inside below given good. follow program p raised arguments rest e frames core world vs left room inside given good;
}
  where
    ht : type_at around place ≡ type.Signed
    ht = place_of_words around.layout place.element words

    l : lower_op around (row.Advance (Some step)) place (a ∷ b ∷ []) w ≡ writing w.found (with_op (op.Binary place.variable binary.Add b.x (word_operand step)) w.body)
    l = two_come around (row.Advance (Some step)) place a b w (ap never_comes ha) (ap never_comes hb) ∙ written around place a b w ht

    follow : (program : Program) (p : LlProgram) (raised : ℕ → Value) (arguments : List (List ℕ)) (rest : List LlOp) (e : LlExit) (frames : List Frame) (core : Core) (world : World) (vs : List Meant)
        → world.left ≡ core.steps → length w.body.types + 0 ≤ length core.vars → place.variable < length w.body.types → Given around core (a ∷ b ∷ []) vs → Before step vs
        → Follows around place p arguments (At (op.Binary place.variable binary.Add b.x (word_operand step) ∷ rest) e frames core) rest e frames core raised 2 (length w.body.types) world (meant_op program covers (row.Advance (Some step)) vs world)
    follow program p raised arguments rest e frames core world [] left room inside given good = absurd given
    follow program p raised arguments rest e frames core world (v ∷ []) left room inside given good = absurd given.1
    follow program p raised arguments rest e frames core world (v ∷ u ∷ []) left room inside given good =
        let x = word_held ha given.0 in
        let y = word_held hb given.1.0 in
        let before : is_before step x.number y.number ≡ true = subst (λ u. Before step (MeantWord x.number ∷ u ∷ [])) y.high (subst (λ v. Before step (v ∷ u ∷ [])) x.high good) in
        let m = means x.number y.number x.fits y.fits before in
        let z : ℤ = y.number +ℤ step in
        let above : meant_op program covers (row.Advance (Some step)) (v ∷ u ∷ []) world ≡ Gives (MeantWord z) world = ap (λ v. meant_op program covers (row.Advance (Some step)) (v ∷ u ∷ []) world) x.high ∙ ap (λ u. meant_op program covers (row.Advance (Some step)) (MeantWord x.number ∷ u ∷ []) world) y.high ∙ ap (λ n. Gives (MeantWord n) world) m.0 in
        let low : binary_of binary.Add (operand core.vars b.x) (Word step) ≡ Ok (Word z) = ap (λ s. binary_of binary.Add s (Word step)) y.low ∙ ap (λ n. Ok (Word n)) (int_wrap_fits w64 z m.1) in
        subst (λ answer. Follows around place p arguments (At (op.Binary place.variable binary.Add b.x (word_operand step) ∷ rest) e frames core) rest e frames core raised 2 (length w.body.types) world answer) (sym above)
        (set_last 2 (length w.body.types) core (Word z) (MeantWord z) left refl refl refl refl (λ k under. refl) (omega (arith, room, inside)) (gives (Word z) low)
        (word_holds words (subst (λ t. Stands core.blocks core.statics t (Word z) (MeantWord z)) (sym ht) (word z m.1))))
    follow program p raised arguments rest e frames core world (v ∷ u ∷ s ∷ vs) left room inside given good = absurd given.1.1

pub up_is_done : IsNext (pos 1)
unfolding advance range_advance give_binary
up_is_done = next_done (pos 1) (λ around place a b w ht. sets_place around place type.Signed (λ v. op.Binary v binary.Add b.x (word_operand (pos 1))) w ht) (λ end i fe fi h. (behind_up end i h, fits_up end i fe fi h))

pub down_is_done : IsNext (negsuc 0)
unfolding advance range_advance give_binary
down_is_done = next_done (negsuc 0) (λ around place a b w ht. sets_place around place type.Signed (λ v. op.Binary v binary.Add b.x (word_operand (negsuc 0))) w ht) (λ end i fe fi h. (behind_down end i h, fits_down end i fe fi h))
