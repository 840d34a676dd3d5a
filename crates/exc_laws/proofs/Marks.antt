-- A graph out of which an exception comes is marked.
use Rattle.std.proofs.Common.{◌≡◌, ℕ, zero, suc, Bool, true, false, ◌||◌, List, [], ◌∷◌, map, Some, refl, sym, ap, ◌∙◌, subst}
use Rattle.std.specs.Prelude.{slice_get, cond, option_map}
use Rattle.ll_code.specs.declared.program.LlBlock.{LlBlock}
use Rattle.ll_code.specs.declared.program.LlGraph.{LlGraph}
use Rattle.ll_code.specs.declared.program.LlProgram.{LlProgram}
use Rattle.ll_laws.proofs.Values.{and_left, and_right}
use Rattle.exc_transform.specs.Explicit.{is_marked, marked}
use Rattle.exc_transform.specs.Raising.{ops_leave, exit_leaves, some_raises, raises_within, blocks_leave, any_marked, marked_by, same_mark, same_marks, settled}
use Rattle.exc_laws.specs.Ready.{marks_of, any_of}
use Rattle.exc_laws.specs.Stands.{Leaving}
use Rattle.exc_laws.proofs.Tests.{or_first, or_second, get_map}

same_mark_is : (a b : Bool) → same_mark a b ≡ true → a ≡ b
same_mark_is true true e = refl
same_mark_is true false e = absurd (cc)
same_mark_is false true e = absurd (cc)
same_mark_is false false e = refl

same_marks_are : (xs ys : List Bool) → same_marks xs ys ≡ true → xs ≡ ys
same_marks_are [] [] e = refl
same_marks_are [] (y ∷ ys) e = absurd (cc)
same_marks_are (x ∷ xs) [] e = absurd (cc)
same_marks_are (x ∷ xs) (y ∷ ys) e = ap (λ b. b ∷ xs) (same_mark_is x y (and_left _ _ e)) ∙ ap (λ l. y ∷ l) (same_marks_are xs ys (and_right (same_mark x y) _ e))

module _ (graphs : List LlGraph) where
  abbrev leaves : List Bool → LlGraph → Bool
  leaves marks graph = blocks_leave marks (any_marked marks) graph.blocks

  -- a graph that raises, where these are marked, is among them
  abbrev Holds : List Bool → Type 0
  Holds marks = (f : ℕ) (graph : LlGraph) → slice_get graphs f ≡ Some graph → leaves marks graph ≡ true → is_marked marks f ≡ true

  all_hold : Holds (map (λ graph. true) graphs)
  all_hold f graph e h = ap marked (get_map (λ graph. true) graphs f ∙ ap (option_map (λ graph. true)) e)

  fixed_holds : (marks : List Bool) → marked_by graphs marks ≡ marks → Holds marks
  fixed_holds marks same f graph e h = ap (λ ms. is_marked ms f) (sym same) ∙ ap marked (get_map (leaves marks) graphs f ∙ ap (option_map (leaves marks)) e) ∙ h

  settled_holds : (rounds : List LlGraph) (marks : List Bool) → Holds (settled graphs rounds marks)
  settled_holds [] marks = all_hold
  settled_holds (round ∷ rounds) marks = one (settled_holds rounds (marked_by graphs marks)) (same_marks (marked_by graphs marks) marks) refl
    where
      one : Holds (settled graphs rounds (marked_by graphs marks)) → (b : Bool) → same_marks (marked_by graphs marks) marks ≡ b → Holds (cond b (marked_by graphs marks) (settled graphs rounds (marked_by graphs marks)))
      one go true e = let same : marked_by graphs marks ≡ marks = same_marks_are (marked_by graphs marks) marks e in fixed_holds (marked_by graphs marks) (ap (marked_by graphs) same)
      one go false e = go

module _ (p : LlProgram) where
  raising_marked : (f : ℕ) (graph : LlGraph) → slice_get p.graphs f ≡ Some graph → blocks_leave (marks_of p) (any_of p) graph.blocks ≡ true → is_marked (marks_of p) f ≡ true
  raising_marked = settled_holds p.graphs p.graphs (map (λ graph. false) p.graphs)

  block_leaves : (blocks : List LlBlock) (n : ℕ) (b : LlBlock) → slice_get blocks n ≡ Some b → (exit_leaves b.exit || ops_leave (marks_of p) (any_of p) b.ops b.exit) ≡ true → blocks_leave (marks_of p) (any_of p) blocks ≡ true
  block_leaves [] n b e h = absurd (cc)
  block_leaves (x ∷ blocks) zero b e h =
      let f : x ≡ b = cc in or_first (exit_leaves x.exit || ops_leave (marks_of p) (any_of p) x.ops x.exit) _ (subst (λ (b : LlBlock). (exit_leaves b.exit || ops_leave (marks_of p) (any_of p) b.ops b.exit) ≡ true) (sym f) h)
  block_leaves (x ∷ blocks) (suc n) b e h = or_second (exit_leaves x.exit || ops_leave (marks_of p) (any_of p) x.ops x.exit) _ (block_leaves blocks n b e h)

  -- a block of a graph
  pub block_leaving : (f : ℕ) (graph : LlGraph) → slice_get p.graphs f ≡ Some graph → (n : ℕ) (b : LlBlock) → slice_get graph.blocks n ≡ Some b → Leaving p f b.ops b.exit
  block_leaving f graph e n b is h = raising_marked f graph e (block_leaves graph.blocks n b is h)

  pub block_testing : (blocks : List LlBlock) (n : ℕ) (b : LlBlock) → slice_get blocks n ≡ Some b → (exit_leaves b.exit || some_raises (marks_of p) (any_of p) b.ops) ≡ true → raises_within (marks_of p) (any_of p) blocks ≡ true
  block_testing [] n b e h = absurd (cc)
  block_testing (x ∷ blocks) zero b e h =
      let f : x ≡ b = cc in or_first (exit_leaves x.exit || some_raises (marks_of p) (any_of p) x.ops) _ (subst (λ (b : LlBlock). (exit_leaves b.exit || some_raises (marks_of p) (any_of p) b.ops) ≡ true) (sym f) h)
  block_testing (x ∷ blocks) (suc n) b e h = or_second (exit_leaves x.exit || some_raises (marks_of p) (any_of p) x.ops) _ (block_testing blocks n b e h)

  -- where the marks are none, each graph is unmarked
  none_marked : (marks : List Bool) (n : ℕ) → any_marked marks ≡ false → is_marked marks n ≡ false
  none_marked [] n e = refl
  none_marked (true ∷ marks) n e = absurd (cc)
  none_marked (false ∷ marks) zero e = refl
  none_marked (false ∷ marks) (suc n) e = none_marked marks n e

  pub unmarked : (f : ℕ) → any_of p ≡ false → is_marked (marks_of p) f ≡ false
  unmarked f e = none_marked (marks_of p) f e
