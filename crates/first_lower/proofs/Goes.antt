-- Runs of the C machine that make no block, from one state to another.
use Rattle.std.proofs.Common.{◌≡◌, ℕ, zero, suc, ◌+◌, ◌<◌, List, [], ◌∷◌, ◌++◌, length, drop, Option, Some, refl, sym, ap, ◌∙◌, arith}
use Rattle.std.specs.Prelude.{slice_get}
use Rattle.csub_tree.specs.State.{Core, After, Onward, Puts, Over}
use Rattle.csub_tree.specs.Machine.{step}
use Rattle.csub_tree.specs.Meaning.{Ran, Ended, Came, follow, run}
use Rattle.csub_tree.specs.declared.tree.CFile.{CFile}
use Rattle.rpy_base.specs.declared.outcome.Outcome.{Outcome}

-- what is left of a list after its element at a place
pub get_at : {A : Type 0} (xs : List A) (i : ℕ) (y : A) (ys : List A) → drop i xs ≡ y ∷ ys → slice_get xs i ≡ Some y
get_at [] zero y ys e = absurd cc
get_at [] (suc i) y ys e = absurd cc
get_at (x ∷ xs) zero y ys e = ap (λ l. slice_get l 0) e
get_at (x ∷ xs) (suc i) y ys e = get_at xs i y ys e

tail_of : {A : Type 0} → List A → List A
tail_of [] = []
tail_of (x ∷ xs) = xs

drop_suc : {A : Type 0} (xs : List A) (i : ℕ) (y : A) (ys : List A) → drop i xs ≡ y ∷ ys → drop (suc i) xs ≡ ys
unfolding tail_of
drop_suc [] zero y ys e = absurd cc
drop_suc [] (suc i) y ys e = absurd cc
drop_suc (x ∷ xs) zero y ys e = ap tail_of e
drop_suc (x ∷ xs) (suc i) y ys e = drop_suc xs i y ys e

pub drop_next : {A : Type 0} (xs : List A) (i : ℕ) (y : A) (ys : List A) → drop i xs ≡ y ∷ ys → drop (i + 1) xs ≡ ys
drop_next xs i y ys e = let n : i + 1 ≡ suc i = omega arith in ap (λ j. drop j xs) n ∙ drop_suc xs i y ys e

module _ (file : CFile) (args : List (List ℕ)) where
  -- some number of statements leads from one state and text to another
  abbrev pub Goes : Core → List ℕ → Core → List ℕ → Type 0
  Goes a s b t = (k : ℕ) × ((j : ℕ) → run file args (k + j) a s [] ≡ run file args j b t [])

  pub stays : (a : Core) (s : List ℕ) → Goes a s a s
  stays a s = (0, λ j. let e : 0 + j ≡ j = omega arith in ap (λ n. run file args n a s []) e)

  pub then_goes : (a b c : Core) (s t u : List ℕ) → Goes a s b t → Goes b t c u → Goes a s c u
  then_goes a b c s t u p q = (
    p.0 + q.0,
    λ j.
        let e : p.0 + q.0 + j ≡ p.0 + (q.0 + j) = omega arith in
        ap (λ n. run file args n a s []) e ∙ p.1 (q.0 + j) ∙ q.1 j,
  )

  by_one : (a : Core) (s : List ℕ) (after : After) → step file args a ≡ after → (j : ℕ) → run file args (1 + j) a s [] ≡ follow file (run file args j) a s [] after
  unfolding run
  by_one a s after e j =
      let n : 1 + j ≡ suc j = omega arith in
      ap (λ n. run file args n a s []) n ∙ ap (λ x. follow file (run file args j) a s [] x) e

  -- one statement
  pub goes_on : (a b : Core) (s : List ℕ) → step file args a ≡ Onward b → Goes a s b s
  goes_on a b s e = (1, by_one a s (Onward b) e)

  pub puts : (a b : Core) (s : List ℕ) (byte : ℕ) → step file args a ≡ Puts byte b → Goes a s b (s ++ byte ∷ [])
  puts a b s byte e = (1, by_one a s (Puts byte b) e)

  pub to_text : (a b : Core) (s t u : List ℕ) → t ≡ u → Goes a s b t → Goes a s b u
  to_text a b s t u e p = (p.0, λ j. p.1 j ∙ ap (λ x. run file args j b x []) e)

  pub to_state : (a b c : Core) (s t : List ℕ) → b ≡ c → Goes a s b t → Goes a s c t
  to_state a b c s t e p = (p.0, λ j. p.1 j ∙ ap (λ x. run file args j x t []) e)

  -- the statement that ends a run, after those that lead to it
  pub ends : (a b c : Core) (s t : List ℕ) (outcome : Outcome) → Goes a s b t → step file args b ≡ Over outcome c → (k : ℕ) × (run file args k a s [] ≡ Ended (Came outcome) c t [])
  ends a b c s t outcome p e = (p.0 + (1 + 0), p.1 (1 + 0) ∙ by_one b t (Over outcome c) e 0)
