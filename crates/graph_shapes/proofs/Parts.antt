-- What each block of a graph is like: its places are there, and its jumps lead to blocks that take what goes there.
use Rattle.std.proofs.Common.{◌≡◌, ◌⊎◌, ℕ, zero, suc, ◌+◌, ◌<◌, ◌≤◌, inl, inr, Bool, List, [], ◌∷◌, ◌++◌, length, Option, Some, None, refl, sym, ap, ◌∙◌, subst, arith}
use Rattle.std.specs.Prelude.{slice_get, slice_set}
use Rattle.std.proofs.lemmas.Bool.{cases_lt}
use Rattle.flow_graph.specs.declared.graph.Block.{Block as Code}
use Rattle.flow_graph.specs.declared.graph.Graphs.{Graphs}
use Rattle.flow_meaning.specs.Machine.{block_in}
use Rattle.flow_stands.specs.Places.{range, Aim, Hand, Jump, Shape, Go, Fork, Does, Plain, GiveBack, GiveUp, first, first_and, stored, stored_if_any, hand_jumps, shift, numbered}
use Rattle.flow_stands.specs.Stands.{hands_of, return_block}
use Rattle.flow_trees.specs.Marks.{Alone}
use Rattle.flow_reads.proofs.Below.{Below, first_below, and_below, and_two_below, stored_below, HandsKeep}

-- ---- how many there are

pub range_count : (a k : ℕ) → length (range a k) ≡ k
range_count a zero = refl
range_count a (suc k) = ap suc (range_count (a + 1) k)

one_more : (xs : List ℕ) (x : ℕ) → length (xs ++ x ∷ []) ≡ length xs + 1
one_more [] x = refl
one_more (y ∷ xs) x = let rest = one_more xs x in omega (arith, rest)

as_many : (xs : List ℕ) (i x : ℕ) → length (slice_set xs i x) ≡ length xs
as_many [] i x = refl
as_many (y ∷ xs) zero x = refl
as_many (y ∷ xs) (suc i) x = ap suc (as_many xs i x)

pub and_count : (a k last : ℕ) → length (range a k ++ last ∷ []) ≡ k + 1
and_count a k last = one_more (range a k) last ∙ ap (λ i. i + 1) (range_count a k)

pub shift_count : (base : ℕ) (places : List ℕ) → length (shift base places) ≡ length places
shift_count base [] = refl
shift_count base (place ∷ places) = ap suc (shift_count base places)

pub inputs_are : (base m node : ℕ) (value : Bool) (shape : Shape) → (numbered base m node value shape).inputs ≡ shift base (range 0 m)
inputs_are base m node value (Go jump) = refl
inputs_are base m node value (Fork test so other_way) = refl
inputs_are base m node value (Does o args covers hands default norm) = refl
inputs_are base m node value (Plain o jump) = refl
inputs_are base m node value GiveBack = refl
inputs_are base m node value GiveUp = refl

-- ---- blocks

module _ (gs : Graphs) (f : ℕ) where
  -- the block is there, behind the first one, and takes so many
  abbrev pub Takes : ℕ → ℕ → Type 0
  Takes b k = (0 < b) × ((code : Code) × (block_in (slice_get gs.graphs f) b ≡ Some code) × (length code.inputs ≡ k))

  -- a jump, from so many variables, to a block that takes what goes there
  abbrev pub Way : ℕ → Jump → Type 0
  Way u jump = Below u jump.places × Takes jump.to (length jump.places)

  abbrev pub HandsFit : ℕ → List (ℕ × Jump) → Type 0
  HandsFit u [] = Unit {0}
  HandsFit u (hand ∷ hands) = Way u hand.1 × HandsFit u hands

  -- with the first variables and the exception; where a value is given back behind a `finally`, to the block that returns
  abbrev pub Escape : ℕ → Jump → Type 0
  Escape m jump = (((keep : ℕ) × (jump.places ≡ range 0 keep ++ m ∷ [])) ⊎ (jump.to ≡ return_block)) × Way (m + 1) jump

  -- with m inputs; the result of an operation, or the exception, is one variable more
  abbrev pub Fits : ℕ → Shape → Type 0
  Fits m (Go jump) = Way m jump
  Fits m (Fork test so other_way) = (test < m) × Way m so × Way m other_way
  Fits m (Does o args covers hands default norm) = Below m args × HandsFit (m + 1) hands × Escape m default × Way (m + 1) norm
  Fits m (Plain o jump) = Way (m + 1) jump
  Fits m GiveBack = m ≡ 1
  Fits m GiveUp = m ≡ 1

  pub record Good (code : Code) : Type 0 where
    pub base : ℕ
    pub count : ℕ
    pub node : ℕ
    pub value : Bool
    pub shape : Shape
    pub is : code ≡ numbered base count node value shape
    pub fits : Fits count shape

  -- each block from one number up to another
  pub record AllGood (lo hi : ℕ) : Type 0 where
    pub rise : lo ≤ hi
    pub good : (b : ℕ) → lo ≤ b → b < hi → (code : Code) → block_in (slice_get gs.graphs f) b ≡ Some code → Good code

  pub join : {lo mid hi : ℕ} → AllGood lo mid → AllGood mid hi → AllGood lo hi
  join {lo} {mid} {hi} x y = record {
    rise = omega (arith, x.rise, y.rise);
    good = λ b l r code is. elim (cases_lt b mid) [ inl lt ↦ x.good b l lt code is | inr le ↦ y.good b le r code is ];
  }

  pub nothing : {lo hi : ℕ} → lo ≡ hi → AllGood lo hi
  nothing e = record { rise = omega (arith, e); good = λ b l r code is. absurd (omega (arith, e, l, r)) }

  abbrev IfGood : Option Code → Type 0
  IfGood None = Unit {0}
  IfGood (Some code) = Good code

  pub one : {lo hi : ℕ} (b base m node : ℕ) (value : Bool) (shape : Shape) → Fits m shape → block_in (slice_get gs.graphs f) b ≡ Some (numbered base m node value shape) → Alone b lo hi → AllGood lo hi
  one {lo} {hi} b base m node value shape fits stands alone = record {
    rise = omega (arith, alone.0, alone.1);
    good = λ i l r code is.
        let here : i ≡ b = omega (arith, alone.0, alone.1, l, r) in
        let there = subst (λ (j : ℕ). block_in (slice_get gs.graphs f) j ≡ Some code) here is in
        subst IfGood (sym stands ∙ there) (record { base = base; count = m; node = node; value = value; shape = shape; is = refl; fits = fits });
  }

  pub takes : (b base m node : ℕ) (value : Bool) (shape : Shape) → 0 < b → block_in (slice_get gs.graphs f) b ≡ Some (numbered base m node value shape) → Takes b m
  takes b base m node value shape lt is =
      (lt, (numbered base m node value shape, is, ap length (inputs_are base m node value shape) ∙ (shift_count base (range 0 m) ∙ range_count 0 m)))

  -- ---- ways

  by_count : (b k l : ℕ) → k ≡ l → Takes b l → Takes b k
  by_count b k l e t = (t.0, (t.1.0, t.1.1, t.1.2 ∙ sym e))

  pub way_first : (u to keep : ℕ) → keep ≤ u → Takes to keep → Way u (first to keep)
  way_first u to keep le t = (first_below keep u le, by_count to (length (range 0 keep)) keep (range_count 0 keep) t)

  pub way_and : (u to keep last : ℕ) → keep ≤ u → last < u → Takes to (keep + 1) → Way u (first_and to keep last)
  way_and u to keep last le lt t = (and_below keep last u le lt, by_count to (length (range 0 keep ++ last ∷ [])) (keep + 1) (and_count 0 keep last) t)

  pub way_stored : (u to keep local place : ℕ) → keep ≤ u → place < u → Takes to keep → Way u (stored to keep local place)
  way_stored u to keep local place le lt t =
      (stored_below keep local place u le lt, by_count to (length (slice_set (range 0 keep) local place)) keep (as_many (range 0 keep) local place ∙ range_count 0 keep) t)

  pub way_two : (u to keep last other : ℕ) → keep ≤ u → last < u → other < u → Takes to (keep + 2) → Way u (record { to = to; places = (range 0 keep ++ last ∷ []) ++ other ∷ [] })
  way_two u to keep last other le lt less t =
      let e : (keep + 1) + 1 ≡ keep + 2 = omega arith in
      (and_two_below keep last other u le lt less, by_count to (length ((range 0 keep ++ last ∷ []) ++ other ∷ [])) (keep + 2) (one_more (range 0 keep ++ last ∷ []) other ∙ (ap (λ i. i + 1) (and_count 0 keep last) ∙ e)) t)

  pub escape : (m to keep : ℕ) → keep ≤ m → Takes to (keep + 1) → Escape m (first_and to keep m)
  escape m to keep le t = (inl (keep, refl), way_and (m + 1) to keep m (omega (arith, le)) (omega arith) t)

  -- ---- where exceptions go

  abbrev pub HandsTake : List Hand → Type 0
  HandsTake [] = Unit {0}
  HandsTake (hand ∷ hands) = Takes hand.aim.to hand.aim.keep × HandsTake hands

  way_if_any : (aim : Aim) (local : Option ℕ) (m : ℕ) → aim.keep ≤ m → Takes aim.to aim.keep → Way (m + 1) (stored_if_any aim local m)
  way_if_any aim None m le t = way_first (m + 1) aim.to aim.keep (omega (arith, le)) t
  way_if_any aim (Some i) m le t = way_stored (m + 1) aim.to aim.keep i m (omega (arith, le)) (omega arith) t

  pub hands_fit : (m : ℕ) (hands : List Hand) → HandsKeep m hands → HandsTake hands → HandsFit (m + 1) (hand_jumps m hands)
  hands_fit m [] keep take = tt
  hands_fit m (hand ∷ hands) keep take = (way_if_any hand.aim hand.local m keep.0 take.0, hands_fit m hands keep.1 take.1)

  pub hands_before : (local : Option ℕ) (aim : Aim) (classes : List ℕ) (others : List Hand) → Takes aim.to aim.keep → HandsTake others → HandsTake (hands_of local aim classes others)
  hands_before local aim [] others t take = take
  hands_before local aim (class ∷ classes) others t take = (t, hands_before local aim classes others t take)
