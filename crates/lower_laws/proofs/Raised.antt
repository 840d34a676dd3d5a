-- Helpers on words that raise their failures, where those are covered.
use Rattle.std.proofs.Common.{◌≡◌, ◌<◌, ◌≤◌, ℕ, zero, suc, ◌+◌, ◌^◌, Bool, true, false, List, [], ◌∷◌, ◌++◌, length, Option, Some, Ok, Err, ℤ, pos, negsuc, refl, sym, ap, ◌∙◌, subst, arith}
use Rattle.std.specs.Prelude.{cond, nat_lt, int_le, ◌&&◌, ◌||◌, if◌then◌else◌}
use Rattle.std.specs.Int.{w64}
use Rattle.std.specs.Ordering.{int_eq}
use Rattle.std.proofs.lemmas.Bool.Decides.{nat_tests}
use Rattle.std.proofs.lemmas.Int.{int_wrap_fits, SFits-int_wrap}
use Rattle.std.proofs.lemmas.List.{append-nil}
use Rattle.rpy_base.specs.Word.{Fits, wrap, floor_quotient, floor_rest, times_power}
use Rattle.rpy_base.specs.declared.outcome.FailName.TheVariants as fail
use Rattle.csub_tree.specs.State.{Value, Word, Flag, Core}
use Rattle.csub_tree.specs.Operation.{binary_of, is_unset}
use Rattle.csub_tree.specs.Statement.{operand, operands, any_unset}
use Rattle.csub_tree.specs.declared.stuck.StuckReason.TheVariants.{Word as BadWord}
use Rattle.csub_tree.specs.declared.tree.CBinary.TheVariants as binary
use Rattle.rpy_tree.specs.declared.syntax.BinOp.TheVariants as bin
use Rattle.rpy_tree.specs.Value.{Value as Meant, Word as MeantWord}
use Rattle.rpy_meaning.specs.declared.row.Covers.{Covers}
use Rattle.rpy_meaning.specs.declared.row.RowOp.{RowOp}
use Rattle.rpy_meaning.specs.declared.row.RowOp.TheVariants as row
use Rattle.rpy_meaning.specs.Arithmetic.{word as number}
use Rattle.rpy_meaning.specs.Operations.{op as meant_op}
use Rattle.rpy_meaning.specs.Tree.{Program}
use Rattle.rpy_meaning.specs.World.{World, Answer, Op, Gives, failure}
use Rattle.ll_code.specs.State.{Frame, Calling}
use Rattle.ll_code.specs.declared.program.LlType.TheVariants as type
use Rattle.ll_code.specs.declared.program.LlOp.TheVariants as op
use Rattle.ll_code.specs.declared.program.LlProgram.{LlProgram}
use Rattle.ll_build.specs.declared.needs.Helper.{Helper}
use Rattle.ll_build.specs.declared.needs.Helper.TheVariants as helper
use Rattle.ll_build.specs.declared.needs.Numbers.{Numbers}
use Rattle.ll_leads.proofs.Ways.{Comes, on, many, enter, gives}
use Rattle.ll_texts.specs.Stands.{word}
use Rattle.ll_strings.proofs.Shifts.{shifted_fits}
use Rattle.ll_texts.proofs.Following.{failed}
use Rattle.ll_texts.proofs.Numbers.{less_false}
use Rattle.rtyper_layout.specs.declared.kind.Kind.TheVariants as kind
use Rattle.rtyper_layout.specs.Kinds.{kind_seen}
use Rattle.rtyper_data.specs.Converting.{give_helped}
use Rattle.rtyper_data.specs.Finding.{nothing, failures_of, helper_number}
use Rattle.rtyper_op.specs.Lowering.{lower_op, never_comes, of_some, of_two, binary_to, if_words}
use Rattle.rtyper_data.specs.Numbers.{binary_of as lowered_binary}
use Rattle.rtyper_data.specs.Seen.{Around, Operand, Place, kind_of, with_op, Writing, writing}
use Rattle.lower_laws.specs.Asked.{HasRaising}
use Rattle.lower_laws.specs.Raised.{IsRaised}
use Rattle.lower_laws.specs.Values.{Given}
use Rattle.lower_laws.proofs.Coming.{two_come}
use Rattle.lower_laws.proofs.Fitting.{not_zero, rest_fits}
use Rattle.lower_laws.proofs.Helps.{gives_helped}
use Rattle.lower_laws.proofs.Small.{SmallFollows, flown, flies_on, same_memory, straight}
use Rattle.lower_laws.proofs.Stayed.{held_set}
use Rattle.lower_laws.proofs.Typing.{place_of_words}
use Rattle.lower_laws.proofs.Valued.{word_held}

-- ---- the helpers

module _ (p : LlProgram) (numbers : Numbers) (arguments : List (List ℕ)) (f : ℕ) (core : Core) (raised : ℕ → Value) (world : World) (a b : ℤ) where
  abbrev Done : Answer → Type 0
  Done answer = SmallFollows p arguments f (Word a ∷ Word b ∷ []) core raised world answer

  gave : (z : ℤ) → Fits z → ((waits : List Frame) → Comes p arguments (Calling f (Word a ∷ Word b ∷ []) waits core) [] (Word z) waits core) → Done (Gives (MeantWord z) world)
  gave z fits comes = record { value = Word z; stands = word z fits; comes = comes; same = refl }

  abbrev divides : Bool → Covers
  divides c = record nothing { zero = c }

  abbrev counts : Bool → Covers
  counts c = record nothing { number = c }

  -- a divisor that is zero
  div_zero : (c : Bool) → HasRaising p numbers raised helper.WordDiv (divides c) f → int_eq b (pos 0) ≡ true → Done (failure c 4 fail.ZeroDivision world)
  div_zero true h e = record { flies = λ waits. same_memory refl (flies_on (on (enter h.graph refl) (on (gives (Flag true) (ap (λ t. Ok (Flag t)) e)) (many 1 h.graph refl refl))) (flown h.raises.0)); same = refl }
  div_zero false h e = λ waits. failed (on (enter h.graph refl) (on (gives (Flag true) (ap (λ t. Ok (Flag t)) e)) (many 1 h.graph refl refl))) refl

  mod_zero : (c : Bool) → HasRaising p numbers raised helper.WordMod (divides c) f → int_eq b (pos 0) ≡ true → Done (failure c 4 fail.ZeroDivision world)
  mod_zero true h e = record { flies = λ waits. same_memory refl (flies_on (on (enter h.graph refl) (on (gives (Flag true) (ap (λ t. Ok (Flag t)) e)) (many 1 h.graph refl refl))) (flown h.raises.0)); same = refl }
  mod_zero false h e = λ waits. failed (on (enter h.graph refl) (on (gives (Flag true) (ap (λ t. Ok (Flag t)) e)) (many 1 h.graph refl refl))) refl

  div_by : (c : Bool) → HasRaising p numbers raised helper.WordDiv (divides c) f → int_eq b (pos 0) ≡ false → Done (Gives (MeantWord (wrap (floor_quotient a b))) world)
  div_by true h e = gave (wrap (floor_quotient a b)) (SFits-int_wrap w64 (floor_quotient a b)) (λ waits. record { end = _; same = refl; leads = on (enter h.graph refl) (on (gives (Flag false) (ap (λ t. Ok (Flag t)) e)) (on (many 1 h.graph refl refl) (on (gives (Word (wrap (floor_quotient a b))) (not_zero b _ e)) (many 1 h.graph refl refl)))) })
  div_by false h e = gave (wrap (floor_quotient a b)) (SFits-int_wrap w64 (floor_quotient a b)) (λ waits. record { end = _; same = refl; leads = on (enter h.graph refl) (on (gives (Flag false) (ap (λ t. Ok (Flag t)) e)) (on (many 1 h.graph refl refl) (on (gives (Word (wrap (floor_quotient a b))) (not_zero b _ e)) (many 1 h.graph refl refl)))) })

  rest_low : Fits b → int_eq b (pos 0) ≡ false → binary_of binary.Mod (Word a) (Word b) ≡ Ok (Word (wrap (floor_rest a b)))
  rest_low fb e = not_zero b (Ok (Word (floor_rest a b))) e ∙ ap (λ z. Ok (Word z)) (sym (int_wrap_fits w64 (floor_rest a b) (rest_fits a b fb e)))

  mod_by : (c : Bool) → HasRaising p numbers raised helper.WordMod (divides c) f → Fits b → int_eq b (pos 0) ≡ false → Done (Gives (MeantWord (wrap (floor_rest a b))) world)
  mod_by true h fb e = gave (wrap (floor_rest a b)) (SFits-int_wrap w64 (floor_rest a b)) (λ waits. record { end = _; same = refl; leads = on (enter h.graph refl) (on (gives (Flag false) (ap (λ t. Ok (Flag t)) e)) (on (many 1 h.graph refl refl) (on (gives (Word (wrap (floor_rest a b))) (rest_low fb e)) (many 1 h.graph refl refl)))) })
  mod_by false h fb e = gave (wrap (floor_rest a b)) (SFits-int_wrap w64 (floor_rest a b)) (λ waits. record { end = _; same = refl; leads = on (enter h.graph refl) (on (gives (Flag false) (ap (λ t. Ok (Flag t)) e)) (on (many 1 h.graph refl refl) (on (gives (Word (wrap (floor_rest a b))) (rest_low fb e)) (many 1 h.graph refl refl)))) })

  -- a count that is no count of places
  shl_below : (c : Bool) → HasRaising p numbers raised helper.WordShl (counts c) f → binary_of binary.Lt (Word b) (Word (pos 0)) ≡ Ok (Flag true) → Done (failure c 8 fail.Value world)
  shl_below true h e = record { flies = λ waits. same_memory refl (flies_on (on (enter h.graph refl) (on (gives (Flag true) e) (many 1 h.graph refl refl))) (flown h.raises.0)); same = refl }
  shl_below false h e = λ waits. failed (on (enter h.graph refl) (on (gives (Flag true) e) (many 1 h.graph refl refl))) refl

  shl_above : (c : Bool) → HasRaising p numbers raised helper.WordShl (counts c) f → binary_of binary.Lt (Word b) (Word (pos 0)) ≡ Ok (Flag false) → binary_of binary.Lt (Word b) (Word (pos 64)) ≡ Ok (Flag false) → Done (failure c 8 fail.Value world)
  shl_above true h e g = record { flies = λ waits. same_memory refl (flies_on (on (enter h.graph refl) (on (gives (Flag false) e) (on (many 1 h.graph refl refl) (on (gives (Flag false) g) (many 1 h.graph refl refl))))) (flown h.raises.0)); same = refl }
  shl_above false h e g = λ waits. failed (on (enter h.graph refl) (on (gives (Flag false) e) (on (many 1 h.graph refl refl) (on (gives (Flag false) g) (many 1 h.graph refl refl))))) refl

  shl_by : (c : Bool) (z : ℤ) → HasRaising p numbers raised helper.WordShl (counts c) f → binary_of binary.Lt (Word b) (Word (pos 0)) ≡ Ok (Flag false) → binary_of binary.Lt (Word b) (Word (pos 64)) ≡ Ok (Flag true) → binary_of binary.Shl (Word a) (Word b) ≡ Ok (Word (wrap z)) → Done (Gives (MeantWord (wrap z)) world)
  shl_by true z h e g low = gave (wrap z) (SFits-int_wrap w64 z) (λ waits. record { end = _; same = refl; leads = on (enter h.graph refl) (on (gives (Flag false) e) (on (many 1 h.graph refl refl) (on (gives (Flag true) g) (on (many 1 h.graph refl refl) (on (gives (Word (wrap z)) low) (many 1 h.graph refl refl)))))) })
  shl_by false z h e g low = gave (wrap z) (SFits-int_wrap w64 z) (λ waits. record { end = _; same = refl; leads = on (enter h.graph refl) (on (gives (Flag false) e) (on (many 1 h.graph refl refl) (on (gives (Flag true) g) (on (many 1 h.graph refl refl) (on (gives (Word (wrap z)) low) (many 1 h.graph refl refl)))))) })

  shr_below : (c : Bool) → HasRaising p numbers raised helper.WordShr (counts c) f → binary_of binary.Lt (Word b) (Word (pos 0)) ≡ Ok (Flag true) → Done (failure c 8 fail.Value world)
  shr_below true h e = record { flies = λ waits. same_memory refl (flies_on (on (enter h.graph refl) (on (gives (Flag true) e) (many 1 h.graph refl refl))) (flown h.raises.0)); same = refl }
  shr_below false h e = λ waits. failed (on (enter h.graph refl) (on (gives (Flag true) e) (many 1 h.graph refl refl))) refl

  shr_above : (c : Bool) → HasRaising p numbers raised helper.WordShr (counts c) f → binary_of binary.Lt (Word b) (Word (pos 0)) ≡ Ok (Flag false) → binary_of binary.Lt (Word b) (Word (pos 64)) ≡ Ok (Flag false) → Done (failure c 8 fail.Value world)
  shr_above true h e g = record { flies = λ waits. same_memory refl (flies_on (on (enter h.graph refl) (on (gives (Flag false) e) (on (many 1 h.graph refl refl) (on (gives (Flag false) g) (many 1 h.graph refl refl))))) (flown h.raises.0)); same = refl }
  shr_above false h e g = λ waits. failed (on (enter h.graph refl) (on (gives (Flag false) e) (on (many 1 h.graph refl refl) (on (gives (Flag false) g) (many 1 h.graph refl refl))))) refl

  shr_by : (c : Bool) (z : ℤ) → HasRaising p numbers raised helper.WordShr (counts c) f → binary_of binary.Lt (Word b) (Word (pos 0)) ≡ Ok (Flag false) → binary_of binary.Lt (Word b) (Word (pos 64)) ≡ Ok (Flag true) → binary_of binary.Shr (Word a) (Word b) ≡ Ok (Word (wrap z)) → Done (Gives (MeantWord (wrap z)) world)
  shr_by true z h e g low = gave (wrap z) (SFits-int_wrap w64 z) (λ waits. record { end = _; same = refl; leads = on (enter h.graph refl) (on (gives (Flag false) e) (on (many 1 h.graph refl refl) (on (gives (Flag true) g) (on (many 1 h.graph refl refl) (on (gives (Word (wrap z)) low) (many 1 h.graph refl refl)))))) })
  shr_by false z h e g low = gave (wrap z) (SFits-int_wrap w64 z) (λ waits. record { end = _; same = refl; leads = on (enter h.graph refl) (on (gives (Flag false) e) (on (many 1 h.graph refl refl) (on (gives (Flag true) g) (on (many 1 h.graph refl refl) (on (gives (Word (wrap z)) low) (many 1 h.graph refl refl)))))) })

-- ---- the operations

-- what the helper does with two words
abbrev Computes : Helper → RowOp → Type 0
Computes h o = (program : Program) (p : LlProgram) (numbers : Numbers) (arguments : List (List ℕ)) (f : ℕ) (core : Core) (raised : ℕ → Value) (world : World) (covers : Covers) (a b : ℤ) → Fits a → Fits b → HasRaising p numbers raised h (failures_of h covers) f
    → SmallFollows p arguments f (Word a ∷ Word b ∷ []) core raised world (meant_op program covers o (MeantWord a ∷ MeantWord b ∷ []) world)

computed : (h : Helper) (o : RowOp) → ((around : Around) (place : Place) (a b : Operand) (w : Writing) → kind_of a ≡ kind.Word → kind_of b ≡ kind.Word → lower_op around o place (a ∷ b ∷ []) w ≡ give_helped around place h type.Signed (a.x ∷ b.x ∷ []) w) → Computes h o → IsRaised h o
computed h o lowers computes around place a b w ha hb words = record {
  ops = op.Call (Some place.variable) (helper_number h w.found).0 (a.x ∷ b.x ∷ []) ∷ [];
  new = [];
  asked = ap (λ (r : Writing). r.found) l;
  written = ap (λ (r : Writing). r.body.ops) l;
  types = ap (λ (r : Writing). r.body.types) l ∙ sym (append-nil w.body.types);
  follows = λ program p numbers raised arguments rest e frames core world vs structs has left room inside below given good.
      straight around place (helper_number h w.found).0 (length w.body.types) 2 (a.x ∷ b.x ∷ []) words p raised arguments rest e frames core world left (omega (arith, room, inside)) (set core vs given) (meant_op program w.found.covered o vs world) (does program p numbers raised arguments core world vs has.0 given);
}
  where
    l : lower_op around o place (a ∷ b ∷ []) w ≡ writing (helper_number h w.found).1 (with_op (op.Call (Some place.variable) (helper_number h w.found).0 (a.x ∷ b.x ∷ [])) w.body)
    l = lowers around place a b w ha hb ∙ gives_helped around place h type.Signed (a.x ∷ b.x ∷ []) w (place_of_words around.layout place.element words)

    set : (core : Core) (vs : List Meant) → Given around core (a ∷ b ∷ []) vs → any_unset (operands core.vars (a.x ∷ b.x ∷ [])) ≡ false
    set core [] given = absurd given
    set core (u ∷ []) given = absurd given.1
    set core (u ∷ v ∷ []) given = ap (λ c. c || (is_unset (operand core.vars b.x) || false)) (held_set given.0) ∙ ap (λ c. c || false) (held_set given.1.0)
    set core (u ∷ v ∷ z ∷ vs) given = absurd given.1.1

    does : (program : Program) (p : LlProgram) (numbers : Numbers) (raised : ℕ → Value) (arguments : List (List ℕ)) (core : Core) (world : World) (vs : List Meant) → HasRaising p numbers raised h (failures_of h w.found.covered) (helper_number h w.found).0 → Given around core (a ∷ b ∷ []) vs
        → SmallFollows p arguments (helper_number h w.found).0 (operands core.vars (a.x ∷ b.x ∷ [])) core raised world (meant_op program w.found.covered o vs world)
    does program p numbers raised arguments core world [] has given = absurd given
    does program p numbers raised arguments core world (u ∷ []) has given = absurd given.1
    does program p numbers raised arguments core world (u ∷ v ∷ []) has given =
        let x = word_held ha given.0 in
        let y = word_held hb given.1.0 in
        let f : ℕ = (helper_number h w.found).0 in
        let done = computes program p numbers arguments f core raised world w.found.covered x.number y.number x.fits y.fits has in
        let below : Word x.number ∷ Word y.number ∷ [] ≡ operands core.vars (a.x ∷ b.x ∷ []) = sym (ap (λ s. s ∷ operand core.vars b.x ∷ []) x.low ∙ ap (λ s. Word x.number ∷ s ∷ []) y.low) in
        let above : meant_op program w.found.covered o (MeantWord x.number ∷ MeantWord y.number ∷ []) world ≡ meant_op program w.found.covered o (u ∷ v ∷ []) world = sym (ap (λ s. meant_op program w.found.covered o (s ∷ v ∷ []) world) x.high ∙ ap (λ s. meant_op program w.found.covered o (MeantWord x.number ∷ s ∷ []) world) y.high) in
        subst (λ answer. SmallFollows p arguments f (operands core.vars (a.x ∷ b.x ∷ [])) core raised world answer) above
        (subst (λ values. SmallFollows p arguments f values core raised world (meant_op program w.found.covered o (MeantWord x.number ∷ MeantWord y.number ∷ []) world)) below done)
    does program p numbers raised arguments core world (u ∷ v ∷ z ∷ vs) has given = absurd given.1.1

-- ---- quotients and rests

abbrev divided_by : Bool → Op → Bool → Op
divided_by c go t = if t then failure c 4 fail.ZeroDivision else go

div_computes : (site : Option ℕ) → Computes helper.WordDiv (row.Binary bin.Div site)
div_computes site program p numbers arguments f core raised world covers a b fa fb has = by (int_eq b (pos 0)) refl
  where
    by : (t : Bool) → int_eq b (pos 0) ≡ t → Done p numbers arguments f core raised world a b (divided_by covers.zero (number (floor_quotient a b)) t world)
    by true e = div_zero p numbers arguments f core raised world a b covers.zero has e
    by false e = div_by p numbers arguments f core raised world a b covers.zero has e

pub div_is_raised : (site : Option ℕ) → IsRaised helper.WordDiv (row.Binary bin.Div site)
unfolding of_some of_two binary_to lowered_binary
div_is_raised site = computed helper.WordDiv (row.Binary bin.Div site) (λ around place a b w ha hb. two_come around (row.Binary bin.Div site) place a b w (ap never_comes ha) (ap never_comes hb) ∙ ap (λ k. if_words k (kind_of b) (lowered_binary around place bin.Div a.x b.x w) w) ha ∙ ap (λ k. if_words kind.Word k (lowered_binary around place bin.Div a.x b.x w) w) hb) (div_computes site)

pub floor_is_raised : (site : Option ℕ) → IsRaised helper.WordDiv (row.Binary bin.FloorDiv site)
unfolding of_some of_two binary_to lowered_binary
floor_is_raised site = computed helper.WordDiv (row.Binary bin.FloorDiv site) (λ around place a b w ha hb. two_come around (row.Binary bin.FloorDiv site) place a b w (ap never_comes ha) (ap never_comes hb) ∙ ap (λ k. if_words k (kind_of b) (lowered_binary around place bin.FloorDiv a.x b.x w) w) ha ∙ ap (λ k. if_words kind.Word k (lowered_binary around place bin.FloorDiv a.x b.x w) w) hb)
    (λ program p numbers arguments f core raised world covers a b fa fb has. div_computes site program p numbers arguments f core raised world covers a b fa fb has)

mod_computes : (site : Option ℕ) → Computes helper.WordMod (row.Binary bin.Mod site)
mod_computes site program p numbers arguments f core raised world covers a b fa fb has = by (int_eq b (pos 0)) refl
  where
    by : (t : Bool) → int_eq b (pos 0) ≡ t → Done p numbers arguments f core raised world a b (divided_by covers.zero (number (floor_rest a b)) t world)
    by true e = mod_zero p numbers arguments f core raised world a b covers.zero has e
    by false e = mod_by p numbers arguments f core raised world a b covers.zero has fb e

pub mod_is_raised : (site : Option ℕ) → IsRaised helper.WordMod (row.Binary bin.Mod site)
unfolding of_some of_two binary_to lowered_binary
mod_is_raised site = computed helper.WordMod (row.Binary bin.Mod site) (λ around place a b w ha hb. two_come around (row.Binary bin.Mod site) place a b w (ap never_comes ha) (ap never_comes hb) ∙ ap (λ k. if_words k (kind_of b) (lowered_binary around place bin.Mod a.x b.x w) w) ha ∙ ap (λ k. if_words kind.Word k (lowered_binary around place bin.Mod a.x b.x w) w) hb) (mod_computes site)

-- ---- shifts to the left

abbrev shifted_by : Bool → Op → Bool → Op
shifted_by c go t = if t then go else failure c 8 fail.Value

shl_computes : (site : Option ℕ) → Computes helper.WordShl (row.Binary bin.Shl site)
shl_computes site program p numbers arguments f core raised world covers a (negsuc k) fa fb has = shl_below p numbers arguments f core raised world a (negsuc k) covers.number has refl
shl_computes site program p numbers arguments f core raised world covers a (pos k) fa fb has = subst (λ t. Done p numbers arguments f core raised world a (pos k) (shifted_by covers.number (number (times_power a k)) (t && nat_lt k 64) world)) (sym low) (by (nat_lt k 64) refl)
  where
    low : int_le (pos 0) (pos k) ≡ true
    low = grind (arith, nat_tests)

    by : (t : Bool) → nat_lt k 64 ≡ t → Done p numbers arguments f core raised world a (pos k) (shifted_by covers.number (number (times_power a k)) (true && t) world)
    by true e = shl_by p numbers arguments f core raised world a (pos k) covers.number (times_power a k) has (less_false k 0 (omega arith)) (ap (λ t. Ok (Flag t)) e) (ap (λ t. cond t (Ok (Word (wrap (times_power a k)))) (Err BadWord)) e)
    by false e = shl_above p numbers arguments f core raised world a (pos k) covers.number has (less_false k 0 (omega arith)) (ap (λ t. Ok (Flag t)) e)

pub shl_is_raised : (site : Option ℕ) → IsRaised helper.WordShl (row.Binary bin.Shl site)
unfolding of_some of_two binary_to lowered_binary
shl_is_raised site = computed helper.WordShl (row.Binary bin.Shl site) (λ around place a b w ha hb. two_come around (row.Binary bin.Shl site) place a b w (ap never_comes ha) (ap never_comes hb) ∙ ap (λ k. if_words k (kind_of b) (lowered_binary around place bin.Shl a.x b.x w) w) ha ∙ ap (λ k. if_words kind.Word k (lowered_binary around place bin.Shl a.x b.x w) w) hb) (shl_computes site)

-- ---- shifts to the right

shr_computes : (site : Option ℕ) → Computes helper.WordShr (row.Binary bin.Shr site)
shr_computes site program p numbers arguments f core raised world covers a (negsuc k) fa fb has = shr_below p numbers arguments f core raised world a (negsuc k) covers.number has refl
shr_computes site program p numbers arguments f core raised world covers a (pos k) fa fb has = subst (λ t. Done p numbers arguments f core raised world a (pos k) (shifted_by covers.number (number (floor_quotient a (pos (2 ^ k)))) (t && nat_lt k 64) world)) (sym low) (by (nat_lt k 64) refl)
  where
    low : int_le (pos 0) (pos k) ≡ true
    low = grind (arith, nat_tests)

    same : wrap (floor_quotient a (pos (2 ^ k))) ≡ floor_quotient a (pos (2 ^ k))
    same = int_wrap_fits w64 (floor_quotient a (pos (2 ^ k))) (shifted_fits a k fa)

    by : (t : Bool) → nat_lt k 64 ≡ t → Done p numbers arguments f core raised world a (pos k) (shifted_by covers.number (number (floor_quotient a (pos (2 ^ k)))) (true && t) world)
    by true e = shr_by p numbers arguments f core raised world a (pos k) covers.number (floor_quotient a (pos (2 ^ k))) has (less_false k 0 (omega arith)) (ap (λ t. Ok (Flag t)) e) (ap (λ t. cond t (Ok (Word (floor_quotient a (pos (2 ^ k))))) (Err BadWord)) e ∙ ap (λ z. Ok (Word z)) (sym same))
    by false e = shr_above p numbers arguments f core raised world a (pos k) covers.number has (less_false k 0 (omega arith)) (ap (λ t. Ok (Flag t)) e)

pub shr_is_raised : (site : Option ℕ) → IsRaised helper.WordShr (row.Binary bin.Shr site)
unfolding of_some of_two binary_to lowered_binary
shr_is_raised site = computed helper.WordShr (row.Binary bin.Shr site) (λ around place a b w ha hb. two_come around (row.Binary bin.Shr site) place a b w (ap never_comes ha) (ap never_comes hb) ∙ ap (λ k. if_words k (kind_of b) (lowered_binary around place bin.Shr a.x b.x w) w) ha ∙ ap (λ k. if_words kind.Word k (lowered_binary around place bin.Shr a.x b.x w) w) hb) (shr_computes site)
