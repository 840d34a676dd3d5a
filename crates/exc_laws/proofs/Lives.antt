-- What is needed is live.
use Rattle.std.proofs.Common.{◌≡◌, ℕ, Bool, true, false, ◌&&◌, ◌||◌, ◌==◌, List, [], ◌∷◌, ◌++◌, Option, Some, None, refl, sym, ap, ◌∙◌, ◌⊎◌, inl, inr}
use Rattle.std.specs.Prelude.{cond, not}
use Rattle.ll_code.specs.declared.program.LlOp.{LlOp}
use Rattle.ll_code.specs.declared.program.LlExit.{LlExit}
use Rattle.ll_code.specs.declared.program.LlProgram.{LlProgram}
use Rattle.ll_laws.proofs.Values.{is_same}
use Rattle.exc_transform.specs.Raising.{may_raise}
use Rattle.ll_live.specs.Live.{among, reads, set_by, exit_variables}
use Rattle.exc_transform.specs.Live.{new_ones, handler_reads, exit_reads, and_this, live_from, live}
use Rattle.ll_live.specs.Live.{sets}
use Rattle.exc_laws.specs.Ready.{marks_of, any_of, is_live}
use Rattle.exc_laws.specs.Stands.{needs}
use Rattle.exc_laws.proofs.Tests.{or_first, or_second, equals}

-- ---- lists of variables

pub among_left : (v : ℕ) (xs ys : List ℕ) → among v xs ≡ true → among v (xs ++ ys) ≡ true
among_left v [] ys h = absurd (cc)
among_left v (x ∷ xs) ys h = one (among_left v xs ys) (x == v) h
  where
    one : (among v xs ≡ true → among v (xs ++ ys) ≡ true) → (b : Bool) → (b || among v xs) ≡ true → (b || among v (xs ++ ys)) ≡ true
    one go true h = refl
    one go false h = go h

pub among_right : (v : ℕ) (xs ys : List ℕ) → among v ys ≡ true → among v (xs ++ ys) ≡ true
among_right v [] ys h = h
among_right v (x ∷ xs) ys h = or_second (x == v) (among v (xs ++ ys)) (among_right v xs ys h)

pub among_own : (v : ℕ) → among v (v ∷ []) ≡ true
among_own v = or_first (v == v) false (equals v v refl)

-- which of two a variable is among, or of neither
pub among_either : (v : ℕ) (xs ys : List ℕ) → among v xs ≡ false → among v ys ≡ false → among v (xs ++ ys) ≡ false
among_either v [] ys h k = k
among_either v (x ∷ xs) ys h k = one (λ h. among_either v xs ys h k) (x == v) h
  where
    one : (among v xs ≡ false → among v (xs ++ ys) ≡ false) → (b : Bool) → (b || among v xs) ≡ false → (b || among v (xs ++ ys)) ≡ false
    one go true h = absurd (cc)
    one go false h = go h

new_keeps : (v : ℕ) (vs set into : List ℕ) → among v into ≡ true → among v (new_ones vs set into) ≡ true
new_keeps v [] set into h = h
new_keeps v (w ∷ vs) set into h = one (λ into. new_keeps v vs set into) (among w set || among w into)
  where
    one : ((into : List ℕ) → among v into ≡ true → among v (new_ones vs set into) ≡ true) → (b : Bool) → among v (new_ones vs set (cond b into (into ++ w ∷ []))) ≡ true
    one go true = go into h
    one go false = go (into ++ w ∷ []) (among_left v into (w ∷ []) h)

new_has : (v : ℕ) (vs set into : List ℕ) → among v vs ≡ true → among v set ≡ false → among v (new_ones vs set into) ≡ true
new_has v [] set into h k = absurd (cc)
new_has v (w ∷ vs) set into h k = one (λ into h. new_has v vs set into h k) (w == v) refl h
  where
    here : w ≡ v → (a b : Bool) → among w set ≡ a → among w into ≡ b → among v (new_ones vs set (cond (a || b) into (into ++ w ∷ []))) ≡ true
    here e true b f g = absurd (let i : true ≡ false = sym f ∙ ap (λ x. among x set) e ∙ k in cc)
    here e false true f g = new_keeps v vs set into (ap (λ x. among x into) (sym e) ∙ g)
    here e false false f g = new_keeps v vs set (into ++ w ∷ []) (among_right v into (w ∷ []) (ap (λ x. among v (x ∷ [])) e ∙ among_own v))

    one : ((into : List ℕ) → among v vs ≡ true → among v (new_ones vs set into) ≡ true) → (b : Bool) → (w == v) ≡ b → (b || among v vs) ≡ true → among v (new_ones vs set (cond (among w set || among w into) into (into ++ w ∷ []))) ≡ true
    one go true e h = here (is_same w v e) (among w set) (among w into) refl refl
    one go false e h = go (cond (among w set || among w into) into (into ++ w ∷ [])) h

-- ---- what is live

and_this_not : (v : ℕ) (set : List ℕ) (o : Option ℕ) → among v set ≡ false → sets o v ≡ false → among v (and_this set o) ≡ false
and_this_not v set None h k = h
and_this_not v set (Some a) h k = among_either v set (a ∷ []) h (ap (λ b. b || false) k)

module _ (p : LlProgram) (e : LlExit) (v : ℕ) where
  live_keeps : (raises : Bool) (set live : List ℕ) (ops : List LlOp) → among v live ≡ true → among v (live_from (marks_of p) (any_of p) raises set live ops e) ≡ true
  live_keeps raises set live [] h = new_keeps v (exit_reads raises e) set live h
  live_keeps raises set live (o ∷ ops) h = live_keeps (may_raise (marks_of p) (any_of p) o) (and_this set (set_by o)) (new_ones (reads o) set live) ops (new_keeps v (reads o) set live h)

  live_has : (raises : Bool) (set live : List ℕ) (ops : List LlOp) → among v set ≡ false → needs p raises ops e v ≡ true → among v (live_from (marks_of p) (any_of p) raises set live ops e) ≡ true
  live_has raises set live [] h k = new_has v (exit_reads raises e) set live k h
  live_has raises set live (o ∷ ops) h k = one (live_has (may_raise (marks_of p) (any_of p) o) (and_this set (set_by o)) (new_ones (reads o) set live) ops) (among v (reads o)) refl k
    where
      later : (among v (and_this set (set_by o)) ≡ false → needs p (may_raise (marks_of p) (any_of p) o) ops e v ≡ true
          → among v (live_from (marks_of p) (any_of p) (may_raise (marks_of p) (any_of p) o) (and_this set (set_by o)) (new_ones (reads o) set live) ops e) ≡ true) → (s : Bool) → sets (set_by o) v ≡ s → (not s && needs p (may_raise (marks_of p) (any_of p) o) ops e v) ≡ true
          → among v (live_from (marks_of p) (any_of p) (may_raise (marks_of p) (any_of p) o) (and_this set (set_by o)) (new_ones (reads o) set live) ops e) ≡ true
      later go true f k = absurd (cc)
      later go false f k = go (and_this_not v set (set_by o) h f) k

      one : (among v (and_this set (set_by o)) ≡ false → needs p (may_raise (marks_of p) (any_of p) o) ops e v ≡ true
          → among v (live_from (marks_of p) (any_of p) (may_raise (marks_of p) (any_of p) o) (and_this set (set_by o)) (new_ones (reads o) set live) ops e) ≡ true) → (b : Bool) → among v (reads o) ≡ b → (b || (not (sets (set_by o) v) && needs p (may_raise (marks_of p) (any_of p) o) ops e v)) ≡ true
          → among v (live_from (marks_of p) (any_of p) (may_raise (marks_of p) (any_of p) o) (and_this set (set_by o)) (new_ones (reads o) set live) ops e) ≡ true
      one go true f k = live_keeps (may_raise (marks_of p) (any_of p) o) (and_this set (set_by o)) (new_ones (reads o) set live) ops (new_has v (reads o) set live f h)
      one go false f k = later go (sets (set_by o) v) refl k

  pub needed_live : (ops : List LlOp) → needs p false ops e v ≡ true → is_live p ops e v ≡ true
  needed_live ops k = live_has false [] [] ops refl k

-- ---- what is live is needed

pub new_in : (v : ℕ) (vs set into : List ℕ) → among v (new_ones vs set into) ≡ true → (among v into ≡ true) ⊎ ((among v set ≡ false) × (among v vs ≡ true))
new_in v [] set into h = inl h
new_in v (w ∷ vs) set into h = one (λ into. new_in v vs set into) (among w set) (among w into) refl h
  where
    wider : (among v into ≡ true) ⊎ ((among v set ≡ false) × (among v vs ≡ true)) → (among v into ≡ true) ⊎ ((among v set ≡ false) × (among v (w ∷ vs) ≡ true))
    wider (inl h) = inl h
    wider (inr h) = inr (h.0, or_second (w == v) (among v vs) h.1)

    pushed : among w set ≡ false → (b : Bool) → (w == v) ≡ b → (c : Bool) → among v into ≡ c → among v (into ++ w ∷ []) ≡ true → (among v into ≡ true) ⊎ ((among v set ≡ false) × (among v (w ∷ vs) ≡ true))
    pushed free true e c f h = inr (ap (λ x. among x set) (sym (is_same w v e)) ∙ free, or_first (w == v) (among v vs) e)
    pushed free false e true f h = inl f
    pushed free false e false f h = absurd (let g : true ≡ false = sym h ∙ among_either v into (w ∷ []) f (ap (λ b. b || false) e) in cc)

    last : among w set ≡ false → (among v (into ++ w ∷ []) ≡ true) ⊎ ((among v set ≡ false) × (among v vs ≡ true)) → (among v into ≡ true) ⊎ ((among v set ≡ false) × (among v (w ∷ vs) ≡ true))
    last free (inl h) = pushed free (w == v) refl (among v into) refl h
    last free (inr h) = inr (h.0, or_second (w == v) (among v vs) h.1)

    one : ((into : List ℕ) → among v (new_ones vs set into) ≡ true → (among v into ≡ true) ⊎ ((among v set ≡ false) × (among v vs ≡ true))) → (a b : Bool) → among w set ≡ a → among v (new_ones vs set (cond (a || b) into (into ++ w ∷ []))) ≡ true → (among v into ≡ true) ⊎ ((among v set ≡ false) × (among v (w ∷ vs) ≡ true))
    one go true b f h = wider (go into h)
    one go false true f h = wider (go into h)
    one go false false f h = last f (go (into ++ w ∷ []) h)

among_split : (v : ℕ) (xs ys : List ℕ) → among v (xs ++ ys) ≡ false → (among v xs ≡ false) × (among v ys ≡ false)
among_split v [] ys h = (refl, h)
among_split v (x ∷ xs) ys h = one (among_split v xs ys) (x == v) h
  where
    one : (among v (xs ++ ys) ≡ false → (among v xs ≡ false) × (among v ys ≡ false)) → (b : Bool) → (b || among v (xs ++ ys)) ≡ false → ((b || among v xs) ≡ false) × (among v ys ≡ false)
    one go true h = absurd (cc)
    one go false h = go h

set_split : (v : ℕ) (set : List ℕ) (o : Option ℕ) → among v (and_this set o) ≡ false → (among v set ≡ false) × (sets o v ≡ false)
set_split v set None h = (h, refl)
set_split v set (Some a) h = let both = among_split v set (a ∷ []) h in (both.0, no_or (a == v) both.1)
  where
    no_or : (b : Bool) → (b || false) ≡ false → b ≡ false
    no_or true h = absurd (cc)
    no_or false h = refl

module _ (p : LlProgram) (e : LlExit) (v : ℕ) where
  live_in : (raises : Bool) (set live : List ℕ) (ops : List LlOp) → among v (live_from (marks_of p) (any_of p) raises set live ops e) ≡ true → (among v live ≡ true) ⊎ ((among v set ≡ false) × (needs p raises ops e v ≡ true))
  live_in raises set live [] h = new_in v (exit_reads raises e) set live h
  live_in raises set live (o ∷ ops) h = one (live_in (may_raise (marks_of p) (any_of p) o) (and_this set (set_by o)) (new_ones (reads o) set live) ops h)
    where
      first : (among v live ≡ true) ⊎ ((among v set ≡ false) × (among v (reads o) ≡ true)) → (among v live ≡ true) ⊎ ((among v set ≡ false) × (needs p raises (o ∷ ops) e v ≡ true))
      first (inl h) = inl h
      first (inr h) = inr (h.0, or_first (among v (reads o)) _ h.1)

      one : (among v (new_ones (reads o) set live) ≡ true) ⊎ ((among v (and_this set (set_by o)) ≡ false) × (needs p (may_raise (marks_of p) (any_of p) o) ops e v ≡ true)) → (among v live ≡ true) ⊎ ((among v set ≡ false) × (needs p raises (o ∷ ops) e v ≡ true))
      one (inl h) = first (new_in v (reads o) set live h)
      one (inr h) =
          let both = set_split v set (set_by o) h.0 in
          inr (both.0, or_second (among v (reads o)) _ (ap (λ b. not b && needs p (may_raise (marks_of p) (any_of p) o) ops e v) both.1 ∙ h.1))

  pub live_needed : (ops : List LlOp) → is_live p ops e v ≡ true → needs p false ops e v ≡ true
  live_needed ops h = one (live_in false [] [] ops h)
    where
      one : (among v [] ≡ true) ⊎ ((among v [] ≡ false) × (needs p false ops e v ≡ true)) → needs p false ops e v ≡ true
      one (inl h) = absurd (cc)
      one (inr h) = h.1

-- what a link reads but the variable
pub behind_reads : (v a : ℕ) (vs : List ℕ) → among v vs ≡ true → (a == v) ≡ false → among v (new_ones vs (a ∷ []) []) ≡ true
behind_reads v a vs h e = new_has v vs (a ∷ []) [] h (ap (λ b. b || false) e)

-- ---- what a call is followed by

module _ (p : LlProgram) where
  -- what the operations behind one read, if it does not set it, is needed before it; so is what its handler reads
  pub reads_needed : (raises : Bool) (o : LlOp) (ops : List LlOp) (e : LlExit) (v : ℕ) → among v (reads o) ≡ true → needs p raises (o ∷ ops) e v ≡ true
  reads_needed raises o ops e v h = or_first (among v (reads o)) _ h

  pub rest_needed : (raises : Bool) (o : LlOp) (ops : List LlOp) (e : LlExit) (v : ℕ) → sets (set_by o) v ≡ false → needs p (may_raise (marks_of p) (any_of p) o) ops e v ≡ true → needs p raises (o ∷ ops) e v ≡ true
  rest_needed raises o ops e v s h = or_second (among v (reads o)) _ (ap (λ b. not b && needs p (may_raise (marks_of p) (any_of p) o) ops e v) s ∙ h)

  -- what is needed after one that raises nothing is needed after one that may
  pub more_needed : (raises : Bool) (ops : List LlOp) (e : LlExit) (v : ℕ) → needs p false ops e v ≡ true → needs p raises ops e v ≡ true
  more_needed true [] e v h = among_right v (handler_reads [] e) (exit_variables e) h
  more_needed false [] e v h = h
  more_needed raises (o ∷ ops) e v h = h

  pub handled_needed : (ops : List LlOp) (e : LlExit) (v : ℕ) → among v (handler_reads ops e) ≡ true → needs p true ops e v ≡ true
  handled_needed [] e v h = among_left v (handler_reads [] e) (exit_variables e) h
  handled_needed (o ∷ ops) e v h = absurd (cc)
