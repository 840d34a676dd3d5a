-- What is written calls only graphs that are told not to raise, as far as these are asked for.
use Rattle.std.proofs.Common.{◌≡◌, ℕ, zero, suc, Bool, true, false, ◌&&◌, List, [], ◌∷◌, ◌++◌, Some, refl, subst}
use Rattle.std.specs.Prelude.{slice_get, if◌then◌else◌}
use Rattle.csub_tree.specs.declared.tree.COperand.{COperand}
use Rattle.ll_code.specs.declared.program.LlType.{LlType}
use Rattle.ll_code.specs.declared.program.LlOp.{LlOp}
use Rattle.ll_code.specs.declared.program.LlOp.TheVariants as op
use Rattle.ll_code.specs.declared.program.LlExit.{LlExit}
use Rattle.ll_code.specs.declared.program.LlExit.TheVariants as exit
use Rattle.ll_code.specs.declared.program.LlBlock.{LlBlock}
use Rattle.ll_code.specs.declared.program.LlGraph.{LlGraph}
use Rattle.ll_build.specs.declared.needs.Helper.{Helper}
use Rattle.ll_laws.proofs.Values.{and_left, and_right}
use Rattle.rtyper_data.specs.declared.body.Body.{Body}
use Rattle.rtyper_data.specs.declared.found.Found.{Found}
use Rattle.rtyper_data.specs.declared.small.Small.{Small}
use Rattle.rtyper_data.specs.Converting.{by_small, helped}
use Rattle.rtyper_data.specs.Finding.{failures_of, helper_number, nothing, small_number}
use Rattle.rtyper_data.specs.Seen.{Writing, push, with_op, writing}
use Rattle.rtyper_program.specs.Cuts.{small_raises}
use Rattle.growth_laws.specs.Growing.{Grows}
use Rattle.growth_laws.proofs.Data.{by_small_grows, helped_grows, then_grows}
use Rattle.growth_laws.proofs.Growing.{same_found}
use Rattle.throw_laws.specs.Pieces.{AreQuiet, is_quiet}
use Rattle.told_laws.specs.Tests.{IsQuietBlock, RaisesNothing}

-- ---- blocks, by the graphs that they call

abbrev pub AllTold : (ℕ → Bool) → List ℕ → Type 0
AllTold quiet [] = Unit {0}
AllTold quiet (g ∷ gs) = (quiet g ≡ true) × AllTold quiet gs

abbrev pub AllQuiet : (ℕ → Bool) → List LlBlock → Type 0
AllQuiet quiet [] = Unit {0}
AllQuiet quiet (b ∷ bs) = IsQuietBlock quiet b × AllQuiet quiet bs

abbrev pub calls_of : List LlOp → List ℕ
calls_of [] = []
calls_of (op.Call into g xs ∷ ops) = g ∷ calls_of ops
calls_of (o ∷ ops) = calls_of ops

abbrev pub calls_in : List LlBlock → List ℕ
calls_in [] = []
calls_in (b ∷ bs) = calls_of b.ops ++ calls_in bs

-- but for calls by number
abbrev pub is_calm_op : LlOp → Bool
is_calm_op (op.CallFn into result params b xs) = false
is_calm_op (op.Raise a) = false
is_calm_op other = true

abbrev pub are_calm_ops : List LlOp → Bool
are_calm_ops [] = true
are_calm_ops (o ∷ ops) = is_calm_op o && are_calm_ops ops

abbrev pub is_calm_exit : LlExit → Bool
is_calm_exit (exit.Raise a) = false
is_calm_exit other = true

abbrev pub is_calm : LlBlock → Bool
is_calm b = are_calm_ops b.ops && is_calm_exit b.exit

abbrev pub are_calm : List LlBlock → Bool
are_calm [] = true
are_calm (b ∷ bs) = is_calm b && are_calm bs

told_left : (quiet : ℕ → Bool) (gs hs : List ℕ) → AllTold quiet (gs ++ hs) → AllTold quiet gs
told_left quiet [] hs h = tt
told_left quiet (g ∷ gs) hs (h, rest) = (h, told_left quiet gs hs rest)

told_right : (quiet : ℕ → Bool) (gs hs : List ℕ) → AllTold quiet (gs ++ hs) → AllTold quiet hs
told_right quiet [] hs h = h
told_right quiet (g ∷ gs) hs (h, rest) = told_right quiet gs hs rest

module _ (quiet : ℕ → Bool) where
  pub calm_ops : (ops : List LlOp) → are_calm_ops ops ≡ true → AllTold quiet (calls_of ops) → AreQuiet quiet ops
  calm_ops [] h c = tt
  calm_ops (op.Call into g xs ∷ ops) h (e, c) = (e, calm_ops ops h c)
  calm_ops (op.CallFn into result params b xs ∷ ops) h c = absurd (cc)
  calm_ops (op.Raise a ∷ ops) h c = absurd (cc)
  calm_ops (o ∷ ops) h c = (refl, calm_ops ops h c)

  calm_exit : (e : LlExit) → is_calm_exit e ≡ true → RaisesNothing e
  calm_exit (exit.Raise a) h = absurd (cc)
  calm_exit other h = tt

  pub calm_block : (b : LlBlock) → is_calm b ≡ true → AllTold quiet (calls_of b.ops) → IsQuietBlock quiet b
  calm_block b h c = record { ops = calm_ops b.ops (and_left _ _ h) c; exit = calm_exit b.exit (and_right _ _ h) }

  pub calm_blocks : (bs : List LlBlock) → are_calm bs ≡ true → AllTold quiet (calls_in bs) → AllQuiet quiet bs
  calm_blocks [] h c = tt
  calm_blocks (b ∷ bs) h c = (calm_block b (and_left _ _ h) (told_left quiet (calls_of b.ops) (calls_in bs) c), calm_blocks bs (and_right _ _ h) (told_right quiet (calls_of b.ops) (calls_in bs) c))

  pub quiet_both : (bs cs : List LlBlock) → AllQuiet quiet bs → AllQuiet quiet cs → AllQuiet quiet (bs ++ cs)
  quiet_both [] cs h k = k
  quiet_both (b ∷ bs) cs (h, hs) k = (h, quiet_both bs cs hs k)

  pub quiet_in : (bs : List LlBlock) → AllQuiet quiet bs → (n : ℕ) (b : LlBlock) → slice_get bs n ≡ Some b → IsQuietBlock quiet b
  quiet_in [] h n b e = absurd (cc)
  quiet_in (c ∷ bs) (h, hs) zero b e = (let q : c ≡ b = cc in subst (λ (b : LlBlock). IsQuietBlock quiet b) q h)
  quiet_in (c ∷ bs) (h, hs) (suc n) b e = quiet_in bs hs n b e

  pub ops_more : (ops : List LlOp) (o : LlOp) → AreQuiet quiet ops → is_quiet quiet o ≡ true → AreQuiet quiet (ops ++ o ∷ [])
  ops_more [] o h k = (k, tt)
  ops_more (p ∷ ops) o (h, hs) k = (h, ops_more ops o hs k)

  pub ops_both : (ops more : List LlOp) → AreQuiet quiet ops → AreQuiet quiet more → AreQuiet quiet (ops ++ more)
  ops_both [] more h k = k
  ops_both (p ∷ ops) more (h, hs) k = (h, ops_both ops more hs k)

-- ---- what is asked for

-- Of what is asked for to the end, helpers of which no failure is covered, and small graphs that raise nothing, are told not to raise.
pub record Telling : Type 0 where
  pub quiet : ℕ → Bool
  pub last : Found
  pub helpers : (h : Helper) (found : Found) → failures_of h found.covered ≡ nothing → Grows (helper_number h found).1 last → quiet (helper_number h found).0 ≡ true
  pub smalls : (s : Small) (found : Found) → small_raises s ≡ false → Grows (small_number s found).1 last → quiet (small_number s found).0 ≡ true

module _ (t : Telling) where
  abbrev pub Quiet : Body → Type 0
  Quiet body = AreQuiet t.quiet body.ops

  -- what was written and calls only such graphs does so still
  pub record Keeps (before after : Writing) : Type 0 where
    pub grows : Grows before.found after.found
    pub stays : Grows after.found t.last → Quiet before.body → Quiet after.body

  pub kept : (w : Writing) → Keeps w w
  kept w = record { grows = same_found w.found; stays = λ g q. q }

  pub chain : {a b c : Writing} → Keeps a b → Keeps b c → Keeps a c
  chain {a} {b} {c} g h = record { grows = then_grows g.grows h.grows; stays = λ late q. h.stays late (g.stays (then_grows h.grows late) q) }

  pub if_kept : {A : Type 0} {w : Writing} (x y : A × Writing) (c : Bool) → Keeps w x.1 → Keeps w y.1 → Keeps w (if c then x else y).1
  if_kept x y true g h = g
  if_kept x y false g h = h

  pub either_kept : {w : Writing} (x y : Writing) (c : Bool) → Keeps w x → Keeps w y → Keeps w (if c then x else y)
  either_kept x y true g h = g
  either_kept x y false g h = h

  -- what asks for nothing
  pub writes : (w : Writing) (body : Body) → (Quiet w.body → Quiet body) → Keeps w (writing w.found body)
  writes w body h = record { grows = same_found w.found; stays = λ g q. h q }

  -- what only asks
  pub asks : (w : Writing) (found : Found) → Grows w.found found → Keeps w (writing found w.body)
  asks w found g = record { grows = g; stays = λ late q. q }

  pub pushed : (o : LlOp) (w : Writing) → is_quiet t.quiet o ≡ true → Keeps w (push o w)
  pushed o w h = writes w (with_op o w.body) (λ q. ops_more t.quiet w.body.ops o q h)

  pub by_small_keeps : (s : Small) (gives : LlType) (xs : List COperand) (w : Writing) → small_raises s ≡ false → Keeps w (by_small s gives xs w).1
  unfolding by_small
  by_small_keeps s gives xs w h = record { grows = by_small_grows s gives xs w; stays = λ late q. ops_more t.quiet w.body.ops _ q (t.smalls s w.found h late) }

  pub helped_keeps : (h : Helper) (gives : LlType) (xs : List COperand) (w : Writing) → failures_of h w.found.covered ≡ nothing → Keeps w (helped h gives xs w).1
  unfolding helped
  helped_keeps h gives xs w e = record { grows = helped_grows h gives xs w; stays = λ late q. ops_more t.quiet w.body.ops _ q (t.helpers h w.found e late) }

  -- a graph that calls only such graphs
  abbrev pub Calm : LlGraph × Found → Type 0
  Calm made = Grows made.1 t.last → AllQuiet t.quiet made.0.blocks

  pub calm : (b : LlBlock) → is_calm b ≡ true → AllTold t.quiet (calls_of b.ops) → IsQuietBlock t.quiet b
  calm b h c = calm_block t.quiet b h c

  pub all_calm : (bs : List LlBlock) → are_calm bs ≡ true → AllTold t.quiet (calls_in bs) → AllQuiet t.quiet bs
  all_calm bs h c = calm_blocks t.quiet bs h c

  pub more : (ops : List LlOp) (o : LlOp) → AreQuiet t.quiet ops → is_quiet t.quiet o ≡ true → AreQuiet t.quiet (ops ++ o ∷ [])
  more ops o h k = ops_more t.quiet ops o h k

  pub if_calm : (x y : LlGraph × Found) (c : Bool) → Calm x → Calm y → Calm (if c then x else y)
  if_calm x y true g h = g
  if_calm x y false g h = h
