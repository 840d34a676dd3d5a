-- What is known where a run enters the blocks of a graph, and how blocks keep it.
use Rattle.std.proofs.Common.{◌≡◌, ℕ, zero, suc, ◌<◌, ◌≤◌, inl, inr, Bool, true, false, List, [], ◌∷◌, Option, Some, None, sym, ◌∙◌, subst, arith}
use Rattle.std.specs.Prelude.{◌==◌, nat_lt, slice_get, if◌then◌else◌}
use Rattle.std.proofs.lemmas.Bool.{cases_lt, lt-ltb, le-ltb}
use Rattle.rpy_tree.specs.Value.{Value}
use Rattle.rpy_meaning.specs.declared.row.Covers.{Covers}
use Rattle.rpy_meaning.specs.declared.row.RowOp.{RowOp}
use Rattle.rpy_meaning.specs.Classes.{no_covers}
use Rattle.rpy_meaning.specs.Operations.{op}
use Rattle.rpy_meaning.specs.Tree.{Program}
use Rattle.rpy_meaning.specs.World.{World, Gives, Enters}
use Rattle.flow_graph.specs.declared.graph.Block.{Block as Code}
use Rattle.flow_graph.specs.declared.graph.Graphs.{Graphs}
use Rattle.flow_meaning.specs.Machine.{and_value, block_in, truth_of}
use Rattle.flow_stands.specs.Places.{Jump, Shape, Go, Fork, Does, Plain, GiveBack, GiveUp, numbered}
use Rattle.flow_trees.specs.Marks.{Alone}
use Rattle.graph_told.specs.Told.{IsTold}

-- what stands at the places of a block
abbrev pub At : Type 0
At = ℕ → Option Value

abbrev pub Fact : Type 1
Fact = World → At → Type 0

abbrev pub Facts : Type 1
Facts = ℕ → Fact

-- what is passed on
abbrev pub pick : At → List ℕ → At
pick at [] j = None
pick at (i ∷ places) zero = at i
pick at (i ∷ places) (suc j) = pick at places j

abbrev pub with_value : At → ℕ → Value → At
with_value at m v j = if j == m then Some v else at j

abbrev pub values_at : At → List ℕ → Option (List Value)
values_at at [] = Some []
values_at at (i ∷ places) = and_value (at i) (values_at at places)

-- where this is so, the block may be entered
abbrev pub Accepts : Facts → ℕ → Fact → Type 0
Accepts J b F = (w : World) (at : At) → F w at → J b w at

abbrev pub anything : Fact
anything w at = Unit {0}

abbrev pub Free : Facts → ℕ → Type 0
Free J b = Accepts J b anything

abbrev pub AllFree : Facts → List (ℕ × Jump) → Type 0
AllFree J [] = Unit {0}
AllFree J (hand ∷ hands) = Free J hand.1.to × AllFree J hands

abbrev pub choose : Bool → Type 0 → Type 0 → Type 0
choose true A B = A
choose false A B = B

-- the lower blocks, and those from a number on
abbrev pub split : ℕ → Facts → Facts → Facts
split mid low high b w at = choose (nat_lt b mid) (low b w at) (high b w at)

abbrev pub Matches : Facts → ℕ → ℕ → Facts → Type 0
Matches J lo hi found = (b : ℕ) → lo ≤ b → b < hi → (w : World) (at : At) → (J b w at → found b w at) × (found b w at → J b w at)

module _ (p : Program) where
  -- an operation with these operands tells the truth, and what is passed on behind it is known
  pub record Operates (J : Facts) (m : ℕ) (o : RowOp) (covers : Covers) (norm : Jump) (w : World) (at : At) (vs : List Value) : Type 0 where
    pub told : IsTold p o w vs
    pub gives : (v : Value) (w' : World) → op p covers o vs w ≡ Gives v w' → J norm.to w' (pick (with_value at m v) norm.places)
    pub enters : (g : ℕ) (args : List Value) (instead : Option Value) (w' : World) → op p covers o vs w ≡ Enters g args instead w' → (v : Value) (w'' : World) → J norm.to w'' (pick (with_value at m v) norm.places)

  -- a block of this form, with m inputs, where this is known
  abbrev pub Keeps : Facts → Fact → ℕ → Shape → Type 0
  Keeps J F m (Go jump) = (w : World) (at : At) → F w at → J jump.to w (pick at jump.places)
  Keeps J F m (Fork test so other_way) = (w : World) (at : At) → F w at → (truth_of w (at test) ≡ Some true → J so.to w (pick at so.places)) × (truth_of w (at test) ≡ Some false → J other_way.to w (pick at other_way.places))
  Keeps J F m (Does o args covers hands default norm) = AllFree J hands × Free J default.to × ((w : World) (at : At) (vs : List Value) → F w at → values_at at args ≡ Some vs → Operates J m o covers norm w at vs)
  Keeps J F m (Plain o jump) = (w : World) (at : At) → F w at → Operates J m o no_covers jump w at []
  Keeps J F m GiveBack = Unit {0}
  Keeps J F m GiveUp = Unit {0}

  -- where less is known
  keeps_less : (J : Facts) (F G : Fact) (m : ℕ) (shape : Shape) → ((w : World) (at : At) → G w at → F w at) → Keeps J F m shape → Keeps J G m shape
  keeps_less J F G m (Go jump) less k = λ w at g. k w at (less w at g)
  keeps_less J F G m (Fork test so other_way) less k = λ w at g. k w at (less w at g)
  keeps_less J F G m (Does o args covers hands default norm) less k = (k.0, k.1, λ w at vs g. k.2 w at vs (less w at g))
  keeps_less J F G m (Plain o jump) less k = λ w at g. k w at (less w at g)
  keeps_less J F G m GiveBack less k = tt
  keeps_less J F G m GiveUp less k = tt

  pub record KeptAt (J : Facts) (b : ℕ) (code : Code) : Type 0 where
    pub base : ℕ
    pub count : ℕ
    pub node : ℕ
    pub value : Bool
    pub shape : Shape
    pub is : code ≡ numbered base count node value shape
    pub keeps : Keeps J (J b) count shape

  module _ (gs : Graphs) (f : ℕ) where
    abbrev pub AllKept : Facts → ℕ → ℕ → Type 0
    AllKept J lo hi = (b : ℕ) → lo ≤ b → b < hi → (code : Code) → block_in (slice_get gs.graphs f) b ≡ Some code → KeptAt J b code

    -- Of a part's blocks: whatever is known of other blocks, where what is asked holds of it, the rest is known, and the blocks keep it.
    pub record Lifted (lo hi : ℕ) (C E : Facts → Type 0) : Type 1 where
      pub rise : lo ≤ hi
      pub found : Facts
      pub known : (J : Facts) → Matches J lo hi found → C J → E J
      pub kept : (J : Facts) → Matches J lo hi found → C J → AllKept J lo hi

    pub under : {lo hi : ℕ} {C D E : Facts → Type 0} → ((J : Facts) → D J → C J) → Lifted lo hi C E → Lifted lo hi D E
    under g x = record { rise = x.rise; found = x.found; known = λ J m d. x.known J m (g J d); kept = λ J m d. x.kept J m (g J d) }

    pub so : {lo hi : ℕ} {C E F : Facts → Type 0} → ((J : Facts) → C J → E J → F J) → Lifted lo hi C E → Lifted lo hi C F
    so g x = record { rise = x.rise; found = x.found; known = λ J m c. g J c (x.known J m c); kept = x.kept }

    low_part : (J low high : Facts) (lo mid hi : ℕ) → mid ≤ hi → Matches J lo hi (split mid low high) → Matches J lo mid low
    low_part J low high lo mid hi le m b l h w at =
        subst (λ (t : Bool). (J b w at → choose t (low b w at) (high b w at)) × (choose t (low b w at) (high b w at) → J b w at)) (lt-ltb b mid h) (m b l (omega (arith, le, h)) w at)

    high_part : (J low high : Facts) (lo mid hi : ℕ) → lo ≤ mid → Matches J lo hi (split mid low high) → Matches J mid hi high
    high_part J low high lo mid hi le m b l h w at =
        subst (λ (t : Bool). (J b w at → choose t (low b w at) (high b w at)) × (choose t (low b w at) (high b w at) → J b w at)) (le-ltb b mid l) (m b (omega (arith, le, l)) h w at)

    join : (J : Facts) (lo mid hi : ℕ) → AllKept J lo mid → AllKept J mid hi → AllKept J lo hi
    join J lo mid hi x y b l r code is = elim (cases_lt b mid) [ inl lt ↦ x b l lt code is | inr le ↦ y b le r code is ]

    -- one part before another, which may go on to it
    pub seq : {lo mid hi : ℕ} {C E F : Facts → Type 0} → Lifted lo mid C E → Lifted mid hi (λ J. C J × E J) F → Lifted lo hi C (λ J. E J × F J)
    seq {lo} {mid} {hi} {C} {E} {F} x y = record {
      rise = omega (arith, x.rise, y.rise);
      found = split mid x.found y.found;
      known = λ J m c.
          let e = x.known J (low_part J x.found y.found lo mid hi y.rise m) c in
          (e, y.known J (high_part J x.found y.found lo mid hi x.rise m) (c, e));
      kept = λ J m c.
          let ml = low_part J x.found y.found lo mid hi y.rise m in
          join J lo mid hi (x.kept J ml c) (y.kept J (high_part J x.found y.found lo mid hi x.rise m) (c, x.known J ml c));
    }

    -- the second begins
    pub next : {lo mid hi : ℕ} {C E F : Facts → Type 0} → Lifted lo mid C E → Lifted mid hi (λ J. C J × E J) F → Lifted lo hi C F
    next {lo} {mid} {hi} {C} {E} {F} x y = so {C = C} {E = λ J. E J × F J} {F = F} (λ J c e. e.1) (seq {C = C} {E = E} {F = F} x y)

    -- nothing is put
    pub straight : {lo hi : ℕ} {C E : Facts → Type 0} → lo ≡ hi → ((J : Facts) → C J → E J) → Lifted lo hi C E
    straight e g = record { rise = omega (arith, e); found = λ b w at. ⊥; known = λ J m c. g J c; kept = λ J m c b l r. absurd (omega (arith, e, l, r)) }

    one_kept : (lo hi b base m node : ℕ) (value : Bool) (form : Shape) → Alone b lo hi → block_in (slice_get gs.graphs f) b ≡ Some (numbered base m node value form)
        → (F : Fact) (J : Facts) → ((w : World) (at : At) → J b w at → F w at) → Keeps J F m form → AllKept J lo hi
    one_kept lo hi b base m node value form alone is F J less keeps i l r code there =
        let here : i ≡ b = omega (arith, alone.0, alone.1, l, r) in
        let at_b = subst (λ (j : ℕ). block_in (slice_get gs.graphs f) j ≡ Some code) here there in
        let same : code ≡ numbered base m node value form = by (sym at_b ∙ is) in
        subst (λ (j : ℕ). KeptAt J j code) (sym here) (record { base = base; count = m; node = node; value = value; shape = form; is = same; keeps = keeps_less J F (J b) m form less keeps })
      where
        by : {x y : Code} → Some x ≡ Some y → x ≡ y
        by e = cc

    -- one block, with what is known there
    pub one : {lo hi : ℕ} {C : Facts → Type 0} (b base m node : ℕ) (value : Bool) (form : Shape) → Alone b lo hi → block_in (slice_get gs.graphs f) b ≡ Some (numbered base m node value form)
        → (F : Fact) → ((J : Facts) → C J → Keeps J F m form) → Lifted lo hi C (λ J. Accepts J b F)
    one {lo} {hi} b base m node value form alone is F keeps = record {
      rise = omega (arith, alone.0, alone.1);
      found = λ i w at. F w at;
      known = λ J match c w at x. (match b (omega (arith, alone.0)) (omega (arith, alone.0, alone.1)) w at).1 x;
      kept = λ J match c. one_kept lo hi b base m node value form alone is F J (λ w at x. (match b (omega (arith, alone.0)) (omega (arith, alone.0, alone.1)) w at).0 x) (keeps J c);
    }

    -- the head of a loop, which goes on to what is put behind it
    pub head : {lo mid hi : ℕ} {C E : Facts → Type 0} (b base m node : ℕ) (value : Bool) (form : Shape) → Alone b lo mid → block_in (slice_get gs.graphs f) b ≡ Some (numbered base m node value form)
        → (F : Fact) → Lifted mid hi (λ J. C J × Accepts J b F) E → ((J : Facts) → C J → E J → Keeps J F m form) → Lifted lo hi C (λ J. Accepts J b F × E J)
    head {lo} {mid} {hi} {C} {E} b base m node value form alone is F y keeps =
        let rise : lo ≤ mid = omega (arith, alone.0, alone.1) in
        let here = λ (J : Facts) (match : Matches J lo hi (split mid (λ i w at. F w at) y.found)). low_part J (λ i w at. F w at) y.found lo mid hi y.rise match b (omega (arith, alone.0)) (omega (arith, alone.0, alone.1)) in
        record {
          rise = omega (arith, rise, y.rise);
          found = split mid (λ i w at. F w at) y.found;
          known = λ J match c.
              let accepts : Accepts J b F = λ w at x. (here J match w at).1 x in
              (accepts, y.known J (high_part J (λ i w at. F w at) y.found lo mid hi rise match) (c, accepts));
          kept = λ J match c.
              let accepts : Accepts J b F = λ w at x. (here J match w at).1 x in
              let above = high_part J (λ i w at. F w at) y.found lo mid hi rise match in
              join J lo mid hi (one_kept lo mid b base m node value form alone is F J (λ w at x. (here J match w at).0 x) (keeps J c (y.known J above (c, accepts)))) (y.kept J above (c, accepts));
        }
