-- Operations on words whose results have to fit: a result that does not is raised.
use Rattle.std.proofs.Common.{◌≡◌, ℕ, Bool, true, false, List, [], ◌∷◌, Some, Ok, Err, ℤ, pos, negsuc, ◌+ℤ◌, ◌-ℤ◌, ◌*ℤ◌, refl, sym, ap, ◌∙◌, subst, arith}
use Rattle.std.specs.Prelude.{slice_get, cond, not, nat_lt, int_le, neg_ℤ, ◌&&◌, ◌||◌, if◌then◌else◌}
use Rattle.std.specs.Int.{w64}
use Rattle.std.specs.Ordering.{int_eq}
use Rattle.std.proofs.lemmas.Bool.Decides.{nat_tests, Decides-int_eq}
use Rattle.std.proofs.lemmas.Int.{int_wrap_fits}
use Rattle.rpy_base.specs.Word.{Fits, wrap, floor_quotient, floor_rest, times_power}
use Rattle.rpy_base.specs.declared.outcome.FailName.TheVariants as fail
use Rattle.csub_tree.specs.State.{Value, Word, Flag, Core}
use Rattle.csub_tree.specs.Operation.{binary_of, is_unset, fits as low_fits}
use Rattle.csub_tree.specs.Statement.{operand, operands, any_unset}
use Rattle.csub_tree.specs.declared.stuck.StuckReason.TheVariants.{Word as BadWord}
use Rattle.csub_tree.specs.declared.tree.CBinary.{CBinary}
use Rattle.csub_tree.specs.declared.tree.CBinary.TheVariants as binary
use Rattle.rpy_tree.specs.declared.syntax.BinOp.{BinOp}
use Rattle.rpy_tree.specs.declared.syntax.BinOp.TheVariants as bin
use Rattle.rpy_tree.specs.Value.{Value as Meant, Word as MeantWord}
use Rattle.rpy_meaning.specs.declared.row.Covers.{Covers}
use Rattle.rpy_meaning.specs.declared.row.RowOp.TheVariants as row
use Rattle.rpy_meaning.specs.Arithmetic.{word_that_fits, checked as meant_checked, checked_neg}
use Rattle.rpy_meaning.specs.Operations.{op as meant_op}
use Rattle.rpy_meaning.specs.Tree.{Program}
use Rattle.rpy_meaning.specs.World.{World, Answer, Op, Gives, failure}
use Rattle.ll_code.specs.State.{Frame, Calling}
use Rattle.ll_code.specs.declared.program.LlProgram.{LlProgram}
use Rattle.ll_leads.proofs.Ways.{Comes, on, many, enter, gives, turns}
use Rattle.ll_texts.specs.Stands.{word}
use Rattle.ll_texts.proofs.Following.{failed}
use Rattle.ll_texts.proofs.Numbers.{less_false}
use Rattle.rtyper_layout.specs.declared.layout.Layout.{Layout}
use Rattle.rtyper_data.specs.declared.found.Found.{Found}
use Rattle.rtyper_data.specs.declared.small.Small.TheVariants as small
use Rattle.rtyper_data.specs.CheckedGraphs.{checked_with, of_sum}
use Rattle.rtyper_data.specs.Finding.{small_number}
use Rattle.rtyper_data.specs.Graphs.{failing}
use Rattle.rtyper_op.specs.Lowering.{checked, checked_small, conversion, conversion_by, never_comes, of_some, of_one, of_two}
use Rattle.lower_laws.specs.Asked.{Raises, HasSmall}
use Rattle.lower_laws.specs.Checked.{IsChecked, NegIsChecked}
use Rattle.lower_laws.specs.Values.{Given}
use Rattle.lower_laws.proofs.Coming.{one_comes, two_come}
use Rattle.lower_laws.proofs.Fitting.{that_fits, fits_so, so_fits, quotient_fits, rest_fits, opposite_fits, not_zero, least}
use Rattle.lower_laws.proofs.Stayed.{held_set}
use Rattle.lower_laws.proofs.Small.{SmallFollows, flown, flies_on, same_memory, small_done}
use Rattle.lower_laws.proofs.Valued.{word_held}

-- ---- sums, differences and products

module _ (p : LlProgram) (arguments : List (List ℕ)) (f : ℕ) (made : Found) (core : Core) (raised : ℕ → Value) (world : World) (a b : ℤ) where
  abbrev Done : Answer → Type 0
  Done answer = SmallFollows p arguments f (Word a ∷ Word b ∷ []) core raised world answer

  abbrev overflows : ℕ
  overflows = (small_number (small.Raise 3) made).0

  gave_word : (z : ℤ) → Fits z → ((waits : List Frame) → Comes p arguments (Calling f (Word a ∷ Word b ∷ []) waits core) [] (Word z) waits core) → Done (Gives (MeantWord z) world)
  gave_word z fits comes = record { value = Word z; stands = word z fits; comes = comes; same = refl }

  sum_does : (o ov : CBinary) (z : ℤ) → slice_get p.graphs f ≡ Some (checked_with (of_sum o ov made)).0 → Raises p overflows (raised 3) → binary_of o (Word a) (Word b) ≡ Ok (Word (wrap z)) → binary_of ov (Word a) (Word b) ≡ Ok (Flag (not (low_fits z))) → Done (word_that_fits z world)
  sum_does o ov z graph raises low tests = by (low_fits z) refl
    where
      by : (c : Bool) → low_fits z ≡ c → Done (word_that_fits z world)
      by true e = subst Done (sym (that_fits z world true e)) (gave_word z (fits_so z e) (λ waits. record {
        end = _;
        same = refl;
        leads = on (enter graph refl) (on (gives (Flag false) (tests ∙ ap (λ c. Ok (Flag (not c))) e)) (on (many 1 graph refl refl) (on (gives (Word z) (low ∙ ap (λ z. Ok (Word z)) (int_wrap_fits w64 z (fits_so z e)))) (many 1 graph refl refl))));
      }))
      by false e = subst Done (sym (that_fits z world false e)) (record {
        flies = λ waits. same_memory refl (flies_on (on (enter graph refl) (on (gives (Flag true) (tests ∙ ap (λ c. Ok (Flag (not c))) e)) (many 2 graph refl refl))) (flown raises));
        same = refl;
      })

-- ---- where there is no result

module _ (p : LlProgram) (layout : Layout) (arguments : List (List ℕ)) (f : ℕ) (core : Core) (raised : ℕ → Value) (world : World) (a b : ℤ) where
  abbrev Ends : Answer → Type 0
  Ends answer = SmallFollows p arguments f (Word a ∷ Word b ∷ []) core raised world answer

  -- a count below zero
  shl_below : (raises : Bool) → HasSmall p layout raised (small.Checked binary.Shl raises) f → binary_of binary.Lt (Word b) (Word (pos 0)) ≡ Ok (Flag true) → Ends (failure raises 8 fail.Value world)
  unfolding failing
  shl_below true h e = record { flies = λ waits. same_memory refl (flies_on (on (enter h.graph refl) (on (gives (Flag true) e) (many 2 h.graph refl refl))) (flown h.raises.1.0)); same = refl }
  shl_below false h e = λ waits. failed (on (enter h.graph refl) (on (gives (Flag true) e) (many 2 h.graph refl refl))) refl

  -- one above 63
  shl_above : (raises : Bool) → HasSmall p layout raised (small.Checked binary.Shl raises) f → binary_of binary.Lt (Word b) (Word (pos 0)) ≡ Ok (Flag false) → binary_of binary.Lt (Word b) (Word (pos 64)) ≡ Ok (Flag false) → Ends (failure raises 8 fail.Value world)
  unfolding failing
  shl_above true h e g = record { flies = λ waits. same_memory refl (flies_on (on (enter h.graph refl) (on (gives (Flag false) e) (on (many 1 h.graph refl refl) (on (gives (Flag false) g) (many 2 h.graph refl refl))))) (flown h.raises.1.0)); same = refl }
  shl_above false h e g = λ waits. failed (on (enter h.graph refl) (on (gives (Flag false) e) (on (many 1 h.graph refl refl) (on (gives (Flag false) g) (many 2 h.graph refl refl))))) refl

  -- a divisor that is zero
  div_zero : (raises : Bool) → HasSmall p layout raised (small.Checked binary.Div raises) f → binary_of binary.Eq (Word b) (Word (pos 0)) ≡ Ok (Flag true) → Ends (failure raises 4 fail.ZeroDivision world)
  unfolding failing
  div_zero true h e = record { flies = λ waits. same_memory refl (flies_on (on (enter h.graph refl) (on (gives (Flag true) e) (many 2 h.graph refl refl))) (flown h.raises.1.0)); same = refl }
  div_zero false h e = λ waits. failed (on (enter h.graph refl) (on (gives (Flag true) e) (many 2 h.graph refl refl))) refl

  mod_zero : (raises : Bool) → HasSmall p layout raised (small.Checked binary.Mod raises) f → binary_of binary.Eq (Word b) (Word (pos 0)) ≡ Ok (Flag true) → Ends (failure raises 4 fail.ZeroDivision world)
  unfolding failing
  mod_zero true h e = record { flies = λ waits. same_memory refl (flies_on (on (enter h.graph refl) (on (gives (Flag true) e) (many 2 h.graph refl refl))) (flown h.raises.0)); same = refl }
  mod_zero false h e = λ waits. failed (on (enter h.graph refl) (on (gives (Flag true) e) (many 2 h.graph refl refl))) refl

  -- ---- shifts

  abbrev shifted_by : Bool → Op → Bool → Op
  shifted_by raises go c = if c then go else failure raises 8 fail.Value

  fitting : (z : ℤ) → Fits z → ((waits : List Frame) → Comes p arguments (Calling f (Word a ∷ Word b ∷ []) waits core) [] (Word z) waits core) → Ends (word_that_fits z world)
  fitting z fits comes = subst Ends (sym (that_fits z world true (so_fits z fits))) (record { value = Word z; stands = word z fits; comes = comes; same = refl })

  shl_by : (raises : Bool) (k : ℕ) → b ≡ pos k → HasSmall p layout raised (small.Checked binary.Shl raises) f → nat_lt k 64 ≡ true → Ends (word_that_fits (times_power a k) world)
  unfolding failing
  shl_by raises k eb h e = by (low_fits (times_power a k)) refl
    where
      here : binary_of binary.Lt (Word b) (Word (pos 0)) ≡ Ok (Flag false)
      here = ap (λ b. binary_of binary.Lt (Word b) (Word (pos 0))) eb ∙ less_false k 0 (omega arith)

      below : binary_of binary.Lt (Word b) (Word (pos 64)) ≡ Ok (Flag true)
      below = ap (λ b. binary_of binary.Lt (Word b) (Word (pos 64))) eb ∙ ap (λ t. Ok (Flag t)) e

      tested : binary_of binary.ShlOvf (Word a) (Word b) ≡ Ok (Flag (not (low_fits (times_power a k))))
      tested = ap (λ b. binary_of binary.ShlOvf (Word a) (Word b)) eb ∙ ap (λ t. cond t (Ok (Flag (not (low_fits (times_power a k))))) (Err BadWord)) e

      shifted : binary_of binary.Shl (Word a) (Word b) ≡ Ok (Word (wrap (times_power a k)))
      shifted = ap (λ b. binary_of binary.Shl (Word a) (Word b)) eb ∙ ap (λ t. cond t (Ok (Word (wrap (times_power a k)))) (Err BadWord)) e

      by : (c : Bool) → low_fits (times_power a k) ≡ c → Ends (word_that_fits (times_power a k) world)
      by true c = fitting (times_power a k) (fits_so (times_power a k) c) (λ waits. record {
        end = _;
        same = refl;
        leads =
            on (enter h.graph refl) (on (gives (Flag false) here) (on (many 1 h.graph refl refl) (on (gives (Flag true) below) (on (many 1 h.graph refl refl)
            (on (gives (Flag false) (tested ∙ ap (λ c. Ok (Flag (not c))) c)) (on (many 1 h.graph refl refl) (on (gives (Word (times_power a k)) (shifted ∙ ap (λ z. Ok (Word z)) (int_wrap_fits w64 (times_power a k) (fits_so (times_power a k) c)))) (many 1 h.graph refl refl))))))));
      })
      by false c = subst Ends (sym (that_fits (times_power a k) world false c)) (record {
        flies = λ waits. same_memory refl (flies_on (on (enter h.graph refl) (on (gives (Flag false) here) (on (many 1 h.graph refl refl) (on (gives (Flag true) below) (on (many 1 h.graph refl refl)
            (on (gives (Flag true) (tested ∙ ap (λ c. Ok (Flag (not c))) c)) (many 2 h.graph refl refl))))))) (flown h.raises.0));
        same = refl;
      })

  -- ---- quotients

  quotient_by : (raises : Bool) → HasSmall p layout raised (small.Checked binary.Div raises) f → Fits a → Fits b → int_eq b (pos 0) ≡ false → Ends (word_that_fits (floor_quotient a b) world)
  unfolding failing
  quotient_by raises h fa fb z = by (int_eq b (negsuc 0)) refl
    where
      there : binary_of binary.Eq (Word b) (Word (pos 0)) ≡ Ok (Flag false)
      there = ap (λ t. Ok (Flag t)) z

      divided : Fits (floor_quotient a b) → binary_of binary.Div (Word a) (Word b) ≡ Ok (Word (floor_quotient a b))
      divided fits = not_zero b (Ok (Word (wrap (floor_quotient a b)))) z ∙ ap (λ z. Ok (Word z)) (int_wrap_fits w64 (floor_quotient a b) fits)

      last : (c : Bool) → int_eq b (negsuc 0) ≡ true → int_eq a least ≡ c → Ends (word_that_fits (floor_quotient a b) world)
      last false m e =
          let fits : Fits (floor_quotient a b) = quotient_fits a b fa fb z (λ other. e) in
          fitting (floor_quotient a b) fits (λ waits. record {
            end = _;
            same = refl;
            leads =
                on (enter h.graph refl) (on (gives (Flag false) there) (on (many 1 h.graph refl refl) (on (gives (Flag true) (ap (λ t. Ok (Flag t)) m)) (on (many 1 h.graph refl refl)
                (on (gives (Flag false) (ap (λ t. Ok (Flag t)) e)) (on (many 1 h.graph refl refl) (on (gives (Word (floor_quotient a b)) (divided fits)) (many 1 h.graph refl refl))))))));
          })
      last true m e =
          let least_is : a ≡ least = (Decides-int_eq a least).0 e in
          let one_is : b ≡ negsuc 0 = (Decides-int_eq b (negsuc 0)).0 m in
          let none : low_fits (floor_quotient a b) ≡ false = ap (λ a. low_fits (floor_quotient a b)) least_is ∙ ap (λ b. low_fits (floor_quotient least b)) one_is in
          subst Ends (sym (that_fits (floor_quotient a b) world false none)) (record {
            flies = λ waits. same_memory refl (flies_on (on (enter h.graph refl) (on (gives (Flag false) there) (on (many 1 h.graph refl refl) (on (gives (Flag true) (ap (λ t. Ok (Flag t)) m)) (on (many 1 h.graph refl refl)
                (on (gives (Flag true) (ap (λ t. Ok (Flag t)) e)) (many 2 h.graph refl refl))))))) (flown h.raises.0));
            same = refl;
          })

      by : (c : Bool) → int_eq b (negsuc 0) ≡ c → Ends (word_that_fits (floor_quotient a b) world)
      by true m = last (int_eq a least) m refl
      by false m =
          let fits : Fits (floor_quotient a b) = quotient_fits a b fa fb z (λ other. (let q : true ≡ false = sym other ∙ m in absurd (cc))) in
          fitting (floor_quotient a b) fits (λ waits. record {
            end = _;
            same = refl;
            leads =
                on (enter h.graph refl) (on (gives (Flag false) there) (on (many 1 h.graph refl refl) (on (gives (Flag false) (ap (λ t. Ok (Flag t)) m)) (on (many 1 h.graph refl refl)
                (on (gives (Word (floor_quotient a b)) (divided fits)) (many 1 h.graph refl refl))))));
          })

  -- ---- rests

  rest_by : (raises : Bool) → HasSmall p layout raised (small.Checked binary.Mod raises) f → Fits b → int_eq b (pos 0) ≡ false → Ends (word_that_fits (floor_rest a b) world)
  unfolding failing
  rest_by raises h fb z = fitting (floor_rest a b) (rest_fits a b fb z) (λ waits. record {
    end = _;
    same = refl;
    leads = on (enter h.graph refl) (on (gives (Flag false) (ap (λ t. Ok (Flag t)) z)) (on (many 1 h.graph refl refl) (on (gives (Word (floor_rest a b)) (not_zero b (Ok (Word (floor_rest a b))) z)) (many 1 h.graph refl refl))));
  })

-- ---- the operations

-- what the small graph does with two words
abbrev Computes : BinOp → Type 0
Computes o = (p : LlProgram) (layout : Layout) (arguments : List (List ℕ)) (f : ℕ) (core : Core) (raised : ℕ → Value) (world : World) (covers : Covers) (a b : ℤ) → Fits a → Fits b → HasSmall p layout raised (checked_small o covers) f
    → SmallFollows p arguments f (Word a ∷ Word b ∷ []) core raised world (meant_checked covers o (MeantWord a) (MeantWord b) world)

computed : (o : BinOp) → Computes o → IsChecked o
unfolding of_some of_two checked
computed o computes around place a b w ha hb words = small_done around (row.Checked o) w.found.covered (checked_small o w.found.covered) place (a ∷ b ∷ []) w (a.x ∷ b.x ∷ []) words
    (two_come around (row.Checked o) place a b w (ap never_comes ha) (ap never_comes hb)) set does
  where
    set : (core : Core) (vs : List Meant) → Given around core (a ∷ b ∷ []) vs → any_unset (operands core.vars (a.x ∷ b.x ∷ [])) ≡ false
    set core [] given = absurd given
    set core (u ∷ []) given = absurd given.1
    set core (u ∷ v ∷ []) given = ap (λ c. c || (is_unset (operand core.vars b.x) || false)) (held_set given.0) ∙ ap (λ c. c || false) (held_set given.1.0)
    set core (u ∷ v ∷ z ∷ vs) given = absurd given.1.1

    does : (program : Program) (p : LlProgram) (raised : ℕ → Value) (arguments : List (List ℕ)) (f : ℕ) (core : Core) (world : World) (vs : List Meant) → HasSmall p around.layout raised (checked_small o w.found.covered) f → Given around core (a ∷ b ∷ []) vs
        → SmallFollows p arguments f (operands core.vars (a.x ∷ b.x ∷ [])) core raised world (meant_op program w.found.covered (row.Checked o) vs world)
    does program p raised arguments f core world [] has given = absurd given
    does program p raised arguments f core world (u ∷ []) has given = absurd given.1
    does program p raised arguments f core world (u ∷ v ∷ []) has given =
        let x = word_held ha given.0 in
        let y = word_held hb given.1.0 in
        let done = computes p around.layout arguments f core raised world w.found.covered x.number y.number x.fits y.fits has in
        let below : Word x.number ∷ Word y.number ∷ [] ≡ operands core.vars (a.x ∷ b.x ∷ []) = sym (ap (λ s. s ∷ operand core.vars b.x ∷ []) x.low ∙ ap (λ s. Word x.number ∷ s ∷ []) y.low) in
        let above : meant_checked w.found.covered o (MeantWord x.number) (MeantWord y.number) world ≡ meant_checked w.found.covered o u v world = sym (ap (λ s. meant_checked w.found.covered o s v world) x.high ∙ ap (λ s. meant_checked w.found.covered o (MeantWord x.number) s world) y.high) in
        subst (λ answer. SmallFollows p arguments f (operands core.vars (a.x ∷ b.x ∷ [])) core raised world answer) above
        (subst (λ values. SmallFollows p arguments f values core raised world (meant_checked w.found.covered o (MeantWord x.number) (MeantWord y.number) world)) below done)
    does program p raised arguments f core world (u ∷ v ∷ z ∷ vs) has given = absurd given.1.1

pub sum_is_done : IsChecked bin.Add
sum_is_done = computed bin.Add (λ p layout arguments f core raised world covers a b fa fb has. sum_does p arguments f has.made core raised world a b binary.Add binary.AddOvf (a +ℤ b) has.graph has.raises.0 refl refl)

pub difference_is_done : IsChecked bin.Sub
difference_is_done = computed bin.Sub (λ p layout arguments f core raised world covers a b fa fb has. sum_does p arguments f has.made core raised world a b binary.Sub binary.SubOvf (a -ℤ b) has.graph has.raises.0 refl refl)

pub product_is_done : IsChecked bin.Mul
product_is_done = computed bin.Mul (λ p layout arguments f core raised world covers a b fa fb has. sum_does p arguments f has.made core raised world a b binary.Mul binary.MulOvf (a *ℤ b) has.graph has.raises.0 refl refl)

-- a divisor is zero or not
abbrev divided_by : Bool → Op → Bool → Op
divided_by raises go c = if c then failure raises 4 fail.ZeroDivision else go

quotient_computes : Computes bin.Div
quotient_computes p layout arguments f core raised world covers a b fa fb has = by (int_eq b (pos 0)) refl
  where
    by : (c : Bool) → int_eq b (pos 0) ≡ c → Ends p layout arguments f core raised world a b (divided_by covers.zero (word_that_fits (floor_quotient a b)) c world)
    by true e = div_zero p layout arguments f core raised world a b covers.zero has (ap (λ t. Ok (Flag t)) e)
    by false e = quotient_by p layout arguments f core raised world a b covers.zero has fa fb e

pub quotient_is_done : IsChecked bin.Div
quotient_is_done = computed bin.Div quotient_computes

pub floor_is_done : IsChecked bin.FloorDiv
floor_is_done = computed bin.FloorDiv (λ p layout arguments f core raised world covers a b fa fb has. quotient_computes p layout arguments f core raised world covers a b fa fb has)

rest_computes : Computes bin.Mod
rest_computes p layout arguments f core raised world covers a b fa fb has = by (int_eq b (pos 0)) refl
  where
    by : (c : Bool) → int_eq b (pos 0) ≡ c → Ends p layout arguments f core raised world a b (divided_by covers.zero (word_that_fits (floor_rest a b)) c world)
    by true e = mod_zero p layout arguments f core raised world a b covers.zero has (ap (λ t. Ok (Flag t)) e)
    by false e = rest_by p layout arguments f core raised world a b covers.zero has fb e

pub rest_is_done : IsChecked bin.Mod
rest_is_done = computed bin.Mod rest_computes

shift_computes : Computes bin.Shl
shift_computes p layout arguments f core raised world covers a (negsuc k) fa fb has = shl_below p layout arguments f core raised world a (negsuc k) covers.number has refl
shift_computes p layout arguments f core raised world covers a (pos k) fa fb has = subst (λ t. Ends p layout arguments f core raised world a (pos k) (shifted_by p layout arguments f core raised world a (pos k) covers.number (word_that_fits (times_power a k)) (t && nat_lt k 64) world)) (sym low) (by (nat_lt k 64) refl)
  where
    low : int_le (pos 0) (pos k) ≡ true
    low = grind (arith, nat_tests)

    by : (c : Bool) → nat_lt k 64 ≡ c → Ends p layout arguments f core raised world a (pos k) (shifted_by p layout arguments f core raised world a (pos k) covers.number (word_that_fits (times_power a k)) (true && c) world)
    by true e = shl_by p layout arguments f core raised world a (pos k) covers.number k refl has e
    by false e = shl_above p layout arguments f core raised world a (pos k) covers.number has (less_false k 0 (omega arith)) (ap (λ t. Ok (Flag t)) e)

pub shift_is_done : IsChecked bin.Shl
shift_is_done = computed bin.Shl shift_computes

-- ---- the opposite

neg_computes : (p : LlProgram) (layout : Layout) (arguments : List (List ℕ)) (f : ℕ) (core : Core) (raised : ℕ → Value) (world : World) (a : ℤ) → Fits a → HasSmall p layout raised small.CheckedNeg f → SmallFollows p arguments f (Word a ∷ []) core raised world (word_that_fits (neg_ℤ a) world)
neg_computes p layout arguments f core raised world a fa has = by (int_eq a least) refl
  where
    Opposite : Answer → Type 0
    Opposite answer = SmallFollows p arguments f (Word a ∷ []) core raised world answer

    by : (c : Bool) → int_eq a least ≡ c → Opposite (word_that_fits (neg_ℤ a) world)
    by true e =
        let none : low_fits (neg_ℤ a) ≡ false = ap (λ a. low_fits (neg_ℤ a)) ((Decides-int_eq a least).0 e) in
        subst Opposite (sym (that_fits (neg_ℤ a) world false none)) (record {
          flies = λ waits. same_memory refl (flies_on (on (enter has.graph refl) (on (gives (Flag true) (ap (λ t. Ok (Flag t)) e)) (many 1 has.graph refl refl))) (flown has.raises.0));
          same = refl;
        })
    by false e =
        let fits : Fits (neg_ℤ a) = opposite_fits a fa e in
        subst Opposite (sym (that_fits (neg_ℤ a) world true (so_fits (neg_ℤ a) fits))) (record {
          value = Word (neg_ℤ a);
          stands = word (neg_ℤ a) fits;
          comes = λ waits. record {
            end = _;
            same = refl;
            leads = on (enter has.graph refl) (on (gives (Flag false) (ap (λ t. Ok (Flag t)) e)) (on (many 1 has.graph refl refl) (on (turns (Word (neg_ℤ a)) (ap (λ z. Ok (Word z)) (int_wrap_fits w64 (neg_ℤ a) fits))) (many 1 has.graph refl refl))));
          };
          same = refl;
        })

pub neg_is_done : NegIsChecked
unfolding of_some of_one conversion
neg_is_done around place a w ha words = small_done around row.CheckedNeg w.found.covered small.CheckedNeg place (a ∷ []) w (a.x ∷ []) words
    (one_comes around row.CheckedNeg place a w (ap never_comes ha) ∙ ap (λ k. conversion_by row.CheckedNeg k around place a w) ha) set does
  where
    set : (core : Core) (vs : List Meant) → Given around core (a ∷ []) vs → any_unset (operands core.vars (a.x ∷ [])) ≡ false
    set core [] given = absurd given
    set core (u ∷ []) given = ap (λ c. c || false) (held_set given.0)
    set core (u ∷ v ∷ vs) given = absurd given.1

    does : (program : Program) (p : LlProgram) (raised : ℕ → Value) (arguments : List (List ℕ)) (f : ℕ) (core : Core) (world : World) (vs : List Meant) → HasSmall p around.layout raised small.CheckedNeg f → Given around core (a ∷ []) vs
        → SmallFollows p arguments f (operands core.vars (a.x ∷ [])) core raised world (meant_op program w.found.covered row.CheckedNeg vs world)
    does program p raised arguments f core world [] has given = absurd given
    does program p raised arguments f core world (u ∷ []) has given =
        let x = word_held ha given.0 in
        subst (λ v. SmallFollows p arguments f (operands core.vars (a.x ∷ [])) core raised world (checked_neg v world)) (sym x.high)
        (subst (λ s. SmallFollows p arguments f (s ∷ []) core raised world (word_that_fits (neg_ℤ x.number) world)) (sym x.low) (neg_computes p around.layout arguments f core raised world x.number x.fits has))
    does program p raised arguments f core world (u ∷ v ∷ vs) has given = absurd given.1
