-- What is emitted behind an operation drops what is no longer live.
use Rattle.std.proofs.Common.{◌≡◌, ◌≢◌, ⊎_elim, ◌<◌, ℕ, zero, suc, ◌+◌, Bool, true, false, ◌||◌, List, [], ◌∷◌, length, Option, Some, None, refl, sym, ap, ◌∙◌, subst, arith}
use Rattle.std.specs.Prelude.{◌==◌, slice_get}
use Rattle.std.proofs.lemmas.Bool.Decides.{nat_tests}
use Rattle.csub_tree.specs.State.{Value, Block, Core}
use Rattle.csub_tree.specs.Statement.{read}
use Rattle.csub_tree.specs.declared.tree.COperand.TheVariants.{Var}
use Rattle.ll_code.specs.State.{Frame, State, At}
use Rattle.ll_code.specs.declared.program.LlOp.{LlOp}
use Rattle.ll_code.specs.declared.program.LlExit.{LlExit}
use Rattle.ll_code.specs.declared.program.LlProgram.{LlProgram}
use Rattle.ll_code.specs.declared.program.LlType.{LlType}
use Rattle.ll_live.specs.Live.{among, live}
use Rattle.ll_laws.proofs.Values.{is_same}
use Rattle.refcount_transform.specs.Plan.{Plan, reference_given}
use Rattle.refcount_transform.specs.Changes.{Around, var_referred, down_by, down, down_unless, dead}
use Rattle.refcount_laws.specs.Graphs.{Counts, Counting}
use Rattle.refcount_laws.specs.Made.{counts_of}
use Rattle.refcount_laws.specs.Ghost.{Ghost, memory, hit, IsCounted}
use Rattle.refcount_laws.specs.Runs.{here}
use Rattle.refcount_laws.specs.Touched.{Shown, Done}
use Rattle.refcount_laws.specs.Owned.{owned, Leading, DoneTo}
use Rattle.refcount_laws.proofs.Steps.{stays}
use Rattle.refcount_laws.proofs.Touching.{is_or_not}
use Rattle.refcount_laws.proofs.Leading.{lead_kept}
use Rattle.refcount_laws.proofs.Moving.{own_same}
use Rattle.refcount_laws.proofs.Doing.{done_on, done_nothing, down_done}
use Rattle.refcount_laws.proofs.Places.{given_marked}
use Rattle.refcount_laws.proofs.Owning.{owned_same, owned_plain, owned_one}

pub same_is : (n : ℕ) → (n == n) ≡ true
same_is n = grind (arith, nat_tests)

pub differ_is : (m n : ℕ) → m ≢ n → (m == n) ≡ false
differ_is m n ne = by (m == n) refl
  where
    by : (b : Bool) → (m == n) ≡ b → b ≡ false
    by true e = absurd (ne (is_same m n e))
    by false e = refl

module _ (q : LlProgram) (args : List (List ℕ)) (plan : Plan) (counting : Counting q (counts_of plan)) (types : List LlType) (core : Core) (f b : ℕ) (ex : LlExit) (frames : List Frame) (vars : List Value) (fits : length vars ≡ length types) where
  abbrev around : Around
  around = record { plan = plan; types = types }

  abbrev c : Counts
  c = counts_of plan

  referred_inside : (v n : ℕ) → var_referred around v ≡ Some n → v < length vars
  referred_inside v n e = let lt : v < length types = inside types v n e in omega (arith, fits, lt)
    where
      inside : (ts : List LlType) (v n : ℕ) → reference_given plan.counted (slice_get ts v) ≡ Some n → v < length ts
      inside [] v n e = absurd (cc)
      inside (t ∷ ts) zero n e = omega arith
      inside (t ∷ ts) (suc v) n e = omega (arith, inside ts v n e)

  pub leading_kept : (g g' : Ghost) (uses : ℕ → Bool) (own : Value → ℕ) (from : State) (to : List (Option Block) → List Block → State) → (d : Done q args c g own from to) → Leading q around g uses vars → Leading q around d.later uses vars
  leading_kept g g' uses own from to d l = record { root = l.root; leads = λ v n u e. lead_kept q c g d.later d.same d.same_statics n (read vars v) (l.leads v n u e) }

  -- one variable, which is used no more
  pub down_run : (g : Ghost) (h : List (Option Block)) (own : Value → ℕ) (more less : ℕ → Bool) (v at : ℕ) (rest : List LlOp) → Shown c h g.blocks → Leading q around g more vars → more v ≡ true → less v ≡ false → ((w : ℕ) → w ≢ v → more w ≡ less w)
      → IsCounted q c g (λ r. owned around more vars r + own r) → DoneTo q args c g (λ r. owned around less vars r + own r) (At (down around v rest) ex frames (here core f b at vars h (memory g))) rest ex frames core f b vars
  down_run g h own more less v at rest sh lead used unused same counted = by (var_referred around v) refl
    where
      by : (o : Option ℕ) → var_referred around v ≡ o → DoneTo q args c g (λ r. owned around less vars r + own r) (At (down_by around v o rest) ex frames (here core f b at vars h (memory g))) rest ex frames core f b vars
      by None e = record {
        at = at;
        done = done_nothing q args c g h (λ r. owned around less vars r + own r) (At rest ex frames (here core f b at vars h (memory g))) (λ h s. At rest ex frames (here core f b at vars h s)) sh
            (own_same q args c g (λ r. owned around more vars r + own r) (λ r. owned around less vars r + own r) (λ r. ap (λ n. n + own r) (owned_plain around more less v vars r e same)) counted)
            (stays q args (At rest ex frames (here core f b at vars h (memory g))));
      }
      by (Some n) e = record {
        at = at + 1;
        done = down_done q args c counting g h (λ r. owned around less vars r + own r) n (read vars v) core f b ex frames (Var v) at rest vars sh (given_marked plan.counted (slice_get types v) n e, lead.root v n used e) (lead.leads v n used e)
            (own_same q args c g (λ r. owned around more vars r + own r) (λ r. hit r (read vars v) + (owned around less vars r + own r))
            (λ r. omega (arith, owned_one around more less v n vars r (referred_inside v n e) e used unused same)) counted) refl;
      }

  -- what is still used while these variables are to be dropped
  abbrev pub left_with : List LlOp → LlExit → List ℕ → ℕ → Bool
  left_with ops e vs w = live ops e w || among w vs

  -- each of them once, where it is not live
  pub dead_run : (vs : List ℕ) (ops : List LlOp) (e : LlExit) (rest : List LlOp) (at : ℕ) (g : Ghost) (h : List (Option Block)) (own : Value → ℕ) → Shown c h g.blocks → Leading q around g (left_with ops e vs) vars
      → IsCounted q c g (λ r. owned around (left_with ops e vs) vars r + own r)
      → DoneTo q args c g (λ r. owned around (live ops e) vars r + own r) (At (dead around vs ops e rest) ex frames (here core f b at vars h (memory g))) rest ex frames core f b vars
  dead_run [] ops e rest at g h own sh lead counted = record {
    at = at;
    done = done_nothing q args c g h (λ r. owned around (live ops e) vars r + own r) (At rest ex frames (here core f b at vars h (memory g))) (λ h s. At rest ex frames (here core f b at vars h s)) sh
        (own_same q args c g (λ r. owned around (left_with ops e []) vars r + own r) (λ r. owned around (live ops e) vars r + own r) (λ r. ap (λ n. n + own r) (owned_same around (left_with ops e []) (live ops e) vars r (λ w. or_none (live ops e w)))) counted)
        (stays q args (At rest ex frames (here core f b at vars h (memory g))));
  }
    where
      or_none : (b : Bool) → (b || false) ≡ b
      or_none true = refl
      or_none false = refl
  dead_run (v ∷ vs) ops e rest at g h own sh lead counted = by (among v vs || live ops e v) refl (λ at g h own. dead_run vs ops e rest at g h own)
    where
      -- without the first, where it is not used any more
      others : (w : ℕ) → w ≢ v → left_with ops e (v ∷ vs) w ≡ left_with ops e vs w
      others w ne = ap (λ b. live ops e w || (b || among w vs)) (differ_is v w (λ q. ne (sym q)))

      first : left_with ops e (v ∷ vs) v ≡ true
      first = ap (λ b. live ops e v || (b || among v vs)) (same_is v) ∙ or_true (live ops e v)
        where
          or_true : (b : Bool) → (b || true) ≡ true
          or_true true = refl
          or_true false = refl

      swap : (a b : Bool) (x : Bool) → (a || b) ≡ x → (b || a) ≡ x
      swap true true x h = h
      swap true false x h = h
      swap false true x h = h
      swap false false x h = h

      all_same : (among v vs || live ops e v) ≡ true → (w : ℕ) → left_with ops e (v ∷ vs) w ≡ left_with ops e vs w
      all_same y w = ⊎_elim (λ q. subst (λ w. left_with ops e (v ∷ vs) w ≡ left_with ops e vs w) q (first ∙ sym (swap (among v vs) (live ops e v) true y))) (λ ne. others w (λ q. ne (sym q))) (is_or_not v w)

      by : (x : Bool) → (among v vs || live ops e v) ≡ x
          → ((at : ℕ) (g : Ghost) (h : List (Option Block)) (own : Value → ℕ) → Shown c h g.blocks → Leading q around g (left_with ops e vs) vars → IsCounted q c g (λ r. owned around (left_with ops e vs) vars r + own r)
          → DoneTo q args c g (λ r. owned around (live ops e) vars r + own r) (At (dead around vs ops e rest) ex frames (here core f b at vars h (memory g))) rest ex frames core f b vars)
          → DoneTo q args c g (λ r. owned around (live ops e) vars r + own r) (At (down_unless x around v (dead around vs ops e rest)) ex frames (here core f b at vars h (memory g))) rest ex frames core f b vars
      by true y go =
          go at g h own sh (record { root = λ w n u r. lead.root w n (all_same y w ∙ u) r; leads = λ w n u r. lead.leads w n (all_same y w ∙ u) r })
          (own_same q args c g (λ r. owned around (left_with ops e (v ∷ vs)) vars r + own r) (λ r. owned around (left_with ops e vs) vars r + own r) (λ r. ap (λ n. n + own r) (owned_same around (left_with ops e (v ∷ vs)) (left_with ops e vs) vars r (all_same y))) counted)
      by false y go =
          let d : DoneTo q args c g (λ r. owned around (left_with ops e vs) vars r + own r) (At (down around v (dead around vs ops e rest)) ex frames (here core f b at vars h (memory g))) (dead around vs ops e rest) ex frames core f b vars =
          down_run g h own (left_with ops e (v ∷ vs)) (left_with ops e vs) v at (dead around vs ops e rest) sh lead first (swap (among v vs) (live ops e v) false y) others counted in
          let m : DoneTo q args c d.done.later (λ r. owned around (live ops e) vars r + own r) (At (dead around vs ops e rest) ex frames (here core f b d.at vars d.done.blocks (memory d.done.later))) rest ex frames core f b vars =
          go d.at d.done.later d.done.blocks own d.done.shown
          (record { root = λ w n u r. lead.root w n (wider w u) r; leads = λ w n u r. lead_kept q c g d.done.later d.done.same d.done.same_statics n (read vars w) (lead.leads w n (wider w u) r) }) d.done.counted in
          record {
            at = m.at;
            done = done_on q args c g (λ r. owned around (left_with ops e vs) vars r + own r) (λ r. owned around (live ops e) vars r + own r) (At (down around v (dead around vs ops e rest)) ex frames (here core f b at vars h (memory g)))
                (λ h s. At (dead around vs ops e rest) ex frames (here core f b d.at vars h s)) (λ h s. At rest ex frames (here core f b m.at vars h s)) d.done m.done;
          }
        where
          wider : (w : ℕ) → left_with ops e vs w ≡ true → left_with ops e (v ∷ vs) w ≡ true
          wider w u = ⊎_elim (λ q. subst (λ w. left_with ops e (v ∷ vs) w ≡ true) q first) (λ ne. others w (λ q. ne (sym q)) ∙ u) (is_or_not v w)
