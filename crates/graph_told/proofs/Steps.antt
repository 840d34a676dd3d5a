-- Blocks that pass on what is known of places.
use Rattle.std.proofs.Common.{◌≡◌, ◌⊎◌, ℕ, ◌+◌, ◌<◌, ◌≤◌, inl, inr, Bool, true, false, List, [], ◌∷◌, ◌++◌, Option, Some, None, sym, ap, ◌∙◌, subst, arith}
use Rattle.std.specs.Prelude.{slice_set}
use Rattle.std.proofs.lemmas.Bool.{cases_lt, false≢true}
use Rattle.rpy_tree.specs.Value.{Value}
use Rattle.rpy_meaning.specs.declared.row.Covers.{Covers}
use Rattle.rpy_meaning.specs.declared.row.RowOp.{RowOp}
use Rattle.rpy_meaning.specs.declared.row.RowOp.TheVariants as row
use Rattle.rpy_meaning.specs.Operations.{op as answer}
use Rattle.rpy_meaning.specs.Tree as meaning
use Rattle.rpy_meaning.specs.World.{World, Gives, Enters}
use Rattle.flow_graph.specs.declared.graph.Graphs.{Graphs}
use Rattle.flow_meaning.specs.Machine.{truth_of}
use Rattle.flow_stands.specs.Places.{range, stored, Aim, Hand, Scope, Jump, Go, Does, hand_jumps, first, first_and, stored_if_any}
use Rattle.flow_stands.specs.Stands.{onward, return_block, never_block}
use Rattle.flow_trees.specs.Tree.{Expr}
use Rattle.flow_trees.specs.Tells.{Telling, tells}
use Rattle.flow_trees.specs.Marks as marks
use Rattle.flow_trees.specs.Marks.{operands, beside_place}
use Rattle.flow_trees.proofs.Kept.{HandsOn, keeps_what_is_told}
use Rattle.flow_reads.proofs.Below.{Below}
use Rattle.graph_told.specs.Plain.{narrows}
use Rattle.graph_told.specs.Told.{IsTold}
use Rattle.graph_told.proofs.Facts as facts
use Rattle.graph_told.proofs.Facts.{At, Fact, Facts, pick, with_value, values_at, Accepts, Free, AllFree, Operates}
use Rattle.graph_told.proofs.Moves.{pick_first, pick_and, stored_other, stored_here, with_other, with_here, values_below, one_value, two_values}

-- what is known of places
abbrev pub Held : Type 1
Held = At → Type 0

abbrev pub Any : Held
Any at = Unit {0}

abbrev pub HandsFree : Facts → List Hand → Type 0
HandsFree J [] = Unit {0}
HandsFree J (hand ∷ hands) = Free J hand.aim.to × HandsFree J hands

if_any_free : (J : Facts) (aim : Aim) (local : Option ℕ) (m : ℕ) → Free J aim.to → Free J (stored_if_any aim local m).to
if_any_free J aim None m free = free
if_any_free J aim (Some i) m free = free

hands_free : (J : Facts) (m : ℕ) (hands : List Hand) → HandsFree J hands → AllFree J (hand_jumps m hands)
hands_free J m [] free = tt
hands_free J m (hand ∷ hands) free = (if_any_free J hand.aim hand.local m free.0, hands_free J m hands free.1)

-- where exceptions go, and what returns, may be entered always
abbrev pub Out : Scope → Facts → Type 0
Out sc J = HandsFree J sc.hands × Free J sc.default.to × Free J never_block × Free J return_block

module _ (p : meaning.Program) (gs : Graphs) (f n : ℕ) (P : meaning.Program) where
  abbrev pub L : ℕ → ℕ → (Facts → Type 0) → (Facts → Type 0) → Type 1
  L lo hi C E = facts.Lifted P gs f lo hi C E

  abbrev pub Acc : ℕ → Held → Facts → Type 0
  Acc b K J = Accepts J b (λ w at. K at)

  abbrev pub Around : (Facts → Type 0) → Scope → Type 1
  Around C sc = (J : Facts) → C J → Out sc J

  -- ---- what stays

  -- it is of the first m places, without the locals that are bound
  abbrev pub Steady : ℕ → (ℕ → Bool) → Held → Type 0
  Steady m B K = (at at' : At) → ((j : ℕ) → j < m → (n ≤ j) ⊎ (B j ≡ false) → at' j ≡ at j) → K at → K at'

  pub any_steady : (m : ℕ) (B : ℕ → Bool) → Steady m B Any
  any_steady m B at at' same x = tt

  pub steady_on : (m k : ℕ) (B B' : ℕ → Bool) (K : Held) → m ≤ k → ((j : ℕ) → B j ≡ false → B' j ≡ false) → Steady m B K → Steady k B' K
  steady_on m k B B' K le less s at at' same x = s at at' (λ j lt free. same j (omega (arith, le, lt)) (by j free)) x
    where
      by : (j : ℕ) → (n ≤ j) ⊎ (B j ≡ false) → (n ≤ j) ⊎ (B' j ≡ false)
      by j (inl here) = inl here
      by j (inr e) = inr (less j e)

  pub steady_up : (m k : ℕ) (B : ℕ → Bool) (K : Held) → m ≤ k → Steady m B K → Steady k B K
  steady_up m k B K le s = steady_on m k B B K le (λ j e. e) s

  pub stays : (m : ℕ) (B : ℕ → Bool) (K : Held) → Steady m B K → (at at' : At) → ((j : ℕ) → j < m → at' j ≡ at j) → K at → K at'
  stays m B K s at at' same x = s at at' (λ j lt free. same j lt) x

  -- behind an operation with m operands, where the first k places are passed on
  pub first_same : (k m : ℕ) (at : At) (v : Value) → k ≤ m → (j : ℕ) → j < k → pick (with_value at m v) (range 0 k) j ≡ at j
  first_same k m at v le j lt = pick_first (with_value at m v) k j lt ∙ with_other at m v j (omega (arith, le, lt))

  pub and_same : (k last m : ℕ) (at : At) (v : Value) → k ≤ m → (j : ℕ) → j < k → pick (with_value at m v) (range 0 k ++ last ∷ []) j ≡ at j
  and_same k last m at v le j lt = pick_and (with_value at m v) k last j lt ∙ with_other at m v j (omega (arith, le, lt))

  -- ---- operations

  pub act : (C : Facts → Type 0) (sc : Scope) (b node : ℕ) (value : Bool) (o : RowOp) (args : List ℕ) (m : ℕ) (norm : Jump) {lo hi : ℕ} (F : Fact) → Around C sc
      → ((J : Facts) → C J → (w : World) (at : At) (vs : List Value) → F w at → values_at at args ≡ Some vs → Operates P J m o sc.covers norm w at vs) → marks.Acts p gs f n sc b node value o args m norm lo hi → L lo hi C (λ J. Accepts J b F)
  act C sc b node value o args m norm F around does h =
      facts.one P gs f b h.0.0 m node value (Does o args sc.covers (hand_jumps m sc.hands) (first_and sc.default.to sc.default.keep m) norm) h.1 h.0.1 F
      (λ J c. (hands_free J m sc.hands (around J c).0, (around J c).1, does J c))

  untold : (o : RowOp) → narrows o ≡ false → (w : World) (vs : List Value) → IsTold P o w vs
  untold row.DropNone e w vs = absurd (false≢true (sym e))
  untold row.OnlyNone e w vs = absurd (false≢true (sym e))
  untold row.FalseNone e w vs = absurd (false≢true (sym e))
  untold (row.Lower class) e w vs = absurd (false≢true (sym e))
  untold row.NonNegative e w vs = absurd (false≢true (sym e))
  untold o e w vs = tt

  pub op : (C : Facts → Type 0) (sc : Scope) (b node : ℕ) (value : Bool) (o : RowOp) (args : List ℕ) (m : ℕ) (norm : Jump) {lo hi : ℕ} (K : Held) → narrows o ≡ false → Around C sc
      → ((J : Facts) → C J → (w : World) (at : At) (v : Value) → K at → J norm.to w (pick (with_value at m v) norm.places)) → marks.Acts p gs f n sc b node value o args m norm lo hi → L lo hi C (Acc b K)
  op C sc b node value o args m norm K quiet around on h =
      act C sc b node value o args m norm (λ w at. K at) around
      (λ J c w at vs k e. record { told = untold o quiet w vs; gives = λ v w' g. on J c w' at v k; enters = λ g args instead w' e v w''. on J c w'' at v k }) h

  -- with the first k variables, and perhaps one more
  pub op_first : (C : Facts → Type 0) (sc : Scope) (b node : ℕ) (value : Bool) (o : RowOp) (args : List ℕ) (m q k : ℕ) {lo hi : ℕ} (B : ℕ → Bool) (K : Held) → narrows o ≡ false → k ≤ m → Steady k B K → Around C sc → ((J : Facts) → C J → Acc q K J)
      → marks.Acts p gs f n sc b node value o args m (first q k) lo hi → L lo hi C (Acc b K)
  op_first C sc b node value o args m q k B K quiet le s around on h =
      op C sc b node value o args m (first q k) K quiet around (λ J c w at v x. on J c w (pick (with_value at m v) (range 0 k)) (stays k B K s at (pick (with_value at m v) (range 0 k)) (first_same k m at v le) x)) h

  pub op_and : (C : Facts → Type 0) (sc : Scope) (b node : ℕ) (value : Bool) (o : RowOp) (args : List ℕ) (m q k last : ℕ) {lo hi : ℕ} (B : ℕ → Bool) (K : Held) → narrows o ≡ false → k ≤ m → Steady k B K → Around C sc → ((J : Facts) → C J → Acc q K J)
      → marks.Acts p gs f n sc b node value o args m (first_and q k last) lo hi → L lo hi C (Acc b K)
  op_and C sc b node value o args m q k last B K quiet le s around on h =
      op C sc b node value o args m (first_and q k last) K quiet around
      (λ J c w at v x. on J c w (pick (with_value at m v) (range 0 k ++ last ∷ [])) (stays k B K s at (pick (with_value at m v) (range 0 k ++ last ∷ [])) (and_same k last m at v le) x)) h

  -- a block without an operation
  pub go : (C : Facts → Type 0) (b m : ℕ) (jump : Jump) {lo hi : ℕ} (K : Held) → ((J : Facts) → C J → (w : World) (at : At) → K at → J jump.to w (pick at jump.places)) → marks.Is p gs f n b m (Go jump) lo hi → L lo hi C (Acc b K)
  go C b m jump K on h = facts.one P gs f b h.0.0 m h.0.1 h.0.2 (Go jump) h.1 h.0.3 (λ w at. K at) (λ J c w at k. on J c w at k)

  pub go_first : (C : Facts → Type 0) (b m q k : ℕ) {lo hi : ℕ} (B : ℕ → Bool) (K : Held) → Steady k B K → ((J : Facts) → C J → Acc q K J) → marks.Is p gs f n b m (Go (first q k)) lo hi → L lo hi C (Acc b K)
  go_first C b m q k B K s on h = go C b m (first q k) K (λ J c w at x. on J c w (pick at (range 0 k)) (stays k B K s at (pick at (range 0 k)) (λ j lt. pick_first at k j lt) x)) h

  pub go_and : (C : Facts → Type 0) (b m q k last : ℕ) {lo hi : ℕ} (B : ℕ → Bool) (K : Held) → Steady k B K → ((J : Facts) → C J → Acc q K J) → marks.Is p gs f n b m (Go (first_and q k last)) lo hi → L lo hi C (Acc b K)
  go_and C b m q k last B K s on h = go C b m (first_and q k last) K (λ J c w at x. on J c w (pick at (range 0 k ++ last ∷ [])) (stays k B K s at (pick at (range 0 k ++ last ∷ [])) (λ j lt. pick_and at k last j lt) x)) h

  -- nothing follows what raises
  pub op_onward : (C : Facts → Type 0) (sc : Scope) (b node : ℕ) (value : Bool) (o : RowOp) (args : List ℕ) (m q k : ℕ) {lo hi : ℕ} (B : ℕ → Bool) (K : Held) → narrows o ≡ false → k ≤ m → Steady k B K → Around C sc → ((J : Facts) → C J → Acc q K J)
      → marks.Acts p gs f n sc b node value o args m (onward o q k m) lo hi → L lo hi C (Acc b K)
  op_onward C sc b node value o args m q k B K quiet le s around on h = op C sc b node value o args m (onward o q k m) K quiet around (λ J c w at v x. by o J c w at v x) h
    where
      by : (o : RowOp) (J : Facts) → C J → (w : World) (at : At) (v : Value) → K at → J (onward o q k m).to w (pick (with_value at m v) (onward o q k m).places)
      by row.Raise J c w at v x = (around J c).2 w (pick (with_value at m v) (range 0 0)) tt
      by o J c w at v x = on J c w (pick (with_value at m v) (range 0 k ++ m ∷ [])) (stays k B K s at (pick (with_value at m v) (range 0 k ++ m ∷ [])) (and_same k m m at v le) x)

  -- ---- tests

  -- By the truth of what stands at a place the test tells what is true; its operands stand from m on, up to a bound.
  abbrev pub Promise : Expr → ℕ → ℕ → ℕ → Fact
  Promise e m bound place w at = (way : Bool) (t : Telling) → tells e way ≡ Some t → t.local < n → marks.IsBefore p gs f n t.beside m bound → truth_of w (at place) ≡ Some way → (vs : List Value) → values_at at (operands t m) ≡ Some vs → IsTold P t.op w vs

  -- so the way on is taken
  abbrev pub Ways : Expr → Bool → ℕ → ℕ → Held → Jump → Facts → Type 0
  Ways e way m value K jump J = (w : World) (at : At) → K at → Promise e m value (value + 1) w at → truth_of w (at (value + 1)) ≡ Some way → J jump.to w (pick at jump.places)

  -- a narrowing hands its first operand on
  handed : (c : Covers) (beside : Option ℕ) (o : RowOp) → HandsOn P c beside o → (w : World) (at : At) (i m : ℕ) (vs : List Value) → values_at at (i ∷ beside_place beside m) ≡ Some vs → (x : Value) × (at i ≡ Some x) × (answer P c o vs w ≡ Gives x w)
  handed c None o hands w at i m vs e = let one = one_value (at i) vs e in (one.0, one.1, ap (λ (l : List Value). answer P c o l w) one.2 ∙ hands one.0 w)
  handed c (Some place) o hands w at i m vs e = let two = two_values (at i) (at (m + place)) vs e in (two.0, two.2, ap (λ (l : List Value). answer P c o l w) two.4 ∙ hands two.0 two.1 w)

  beside_below : (beside : Option ℕ) (m value : ℕ) → marks.IsBefore p gs f n beside m value → Below (value + 1) (beside_place beside m)
  beside_below None m value h = tt
  beside_below (Some place) m value h = (h, tt)

  pub way_on : (C : Facts → Type 0) (sc : Scope) (node : ℕ) (e : Expr) (way : Bool) (told : Option Telling) (m value : ℕ) (wants : Bool) (to : ℕ) (jump : Jump) (lo hi : ℕ) (B : ℕ → Bool) (K : Held) → tells e way ≡ told → n ≤ m → m ≤ value → Steady m B K → Around C sc
      → ((J : Facts) → C J → Acc to K J) → marks.WayOn p gs f n sc node told m value wants to jump lo hi → L lo hi C (Ways e way m value K jump)
  way_on C sc node e way told m value true to jump lo hi B K is few le s around on h =
      facts.straight P gs f h.1 (λ J c w at x promise true_is. subst (λ (j : Jump). J j.to w (pick at j.places)) (sym h.0)
      (on J c w (pick at (range 0 m ++ value ∷ [])) (stays m B K s at (pick at (range 0 m ++ value ∷ [])) (λ j lt. pick_and at m value j lt) x)))
  way_on C sc node e way None m value false to jump lo hi B K is few le s around on h =
      facts.straight P gs f h.1 (λ J c w at x promise true_is. subst (λ (j : Jump). J j.to w (pick at j.places)) (sym h.0)
      (on J c w (pick at (range 0 m)) (stays m B K s at (pick at (range 0 m)) (λ j lt. pick_first at m j lt) x)))
  way_on C sc node e way (Some t) m value false to jump lo hi B K is few le s around on h =
      facts.so P gs f (λ J c enter w at x promise true_is. subst (λ (j : Jump). J j.to w (pick at j.places)) (sym h.4)
      (enter w (pick at (range 0 (value + 1))) (
        stays m B K s at (pick at (range 0 (value + 1))) (λ j lt. pick_first at (value + 1) j (omega (arith, lt, le))) x,
        λ vs g. promise way t is h.1 h.2 true_is vs (sym (values_below at (pick at (range 0 (value + 1))) (value + 1) (λ j lt. pick_first at (value + 1) j lt) (operands t m) below) ∙ g),
      )))
      (act C sc h.0 node false t.op (operands t m) (value + 1) (stored to m t.local (value + 1)) (λ w at. K at × ((vs : List Value) → values_at at (operands t m) ≡ Some vs → IsTold P t.op w vs)) around
      (λ J c w at vs x g. record { told = x.1 vs g; gives = λ v w' a. on J c w' (after at v) (kept w at vs v w' x.0 g a); enters = λ callee args instead w' a v w''. absurd (never w at vs callee args instead w' g a) }) h.3)
    where
      below : Below (value + 1) (operands t m)
      below = (omega (arith, few, le, h.1), beside_below t.beside m value h.2)

      after : At → Value → At
      after at v = pick (with_value at (value + 1) v) (slice_set (range 0 m) t.local (value + 1))

      hands : (w : World) (at : At) (vs : List Value) → values_at at (operands t m) ≡ Some vs → (x : Value) × (at t.local ≡ Some x) × (answer P sc.covers t.op vs w ≡ Gives x w)
      hands w at vs g = handed sc.covers t.beside t.op (keeps_what_is_told P sc.covers e way t is).1 w at t.local m vs g

      given : {x v : Value} {w w' : World} → Gives x w ≡ Gives v w' → x ≡ v
      given e = cc

      kept : (w : World) (at : At) (vs : List Value) (v : Value) (w' : World) → K at → values_at at (operands t m) ≡ Some vs → answer P sc.covers t.op vs w ≡ Gives v w' → K (after at v)
      kept w at vs v w' x g a =
          let hand = hands w at vs g in
          let is_same : hand.0 ≡ v = given (sym hand.2 ∙ a) in
          let there : at t.local ≡ Some v = hand.1 ∙ ap Some is_same in
          let local_in : t.local < m = omega (arith, few, h.1) in
          stays m B K s at (after at v) (λ j lt. elim (cases_lt j t.local) [
            | inl less ↦ stored_other (with_value at (value + 1) v) m t.local (value + 1) j lt (λ e. omega (arith, e, less)) ∙ with_other at (value + 1) v j (omega (arith, lt, le))
            | inr ge ↦ elim (cases_lt t.local j) [
              | inl more ↦ stored_other (with_value at (value + 1) v) m t.local (value + 1) j lt (λ e. omega (arith, e, more)) ∙ with_other at (value + 1) v j (omega (arith, lt, le))
              | inr most ↦
                  let same : t.local ≡ j = omega (arith, ge, most) in
                  subst (λ (i : ℕ). after at v i ≡ at i) same (stored_here (with_value at (value + 1) v) m t.local (value + 1) local_in ∙ (with_here at (value + 1) v ∙ sym there))
            ]
          ]) x

      apart : {x : Value} {w w' : World} {callee : ℕ} {args : List Value} {instead : Option Value} → Gives x w ≡ Enters callee args instead w' → ⊥
      apart e = cc

      never : (w : World) (at : At) (vs : List Value) (callee : ℕ) (args : List Value) (instead : Option Value) (w' : World) → values_at at (operands t m) ≡ Some vs → answer P sc.covers t.op vs w ≡ Enters callee args instead w' → ⊥
      never w at vs callee args instead w' g a = apart (sym (hands w at vs g).2 ∙ a)
