-- Ways through blocks that follow at once: none comes twice to a block.
use Rattle.std.proofs.Common.{◌≡◌, ◌<◌, ◌≤◌, ℕ, zero, suc, ◌+◌, Bool, true, false, ◌||◌, ◌&&◌, not, ◌==◌, cond, List, [], ◌∷◌, ◌++◌, length, Option, Some, None, refl, sym, ap, ◌∙◌, subst, arith, ◌⊎◌, inl, inr}
use Rattle.std.specs.Prelude.{slice_get}
use Rattle.ll_code.specs.declared.program.LlLink.{LlLink}
use Rattle.ll_code.specs.declared.program.LlExit.{LlExit}
use Rattle.ll_code.specs.declared.program.LlExit.TheVariants as exit
use Rattle.ll_code.specs.declared.program.LlBlock.{LlBlock}
use Rattle.ll_laws.proofs.Values.{and_left, and_right, is_same}
use Rattle.ll_live.specs.Live.{among}
use Rattle.ll_joined.specs.declared.count.Counts.{Counts}
use Rattle.ll_joined.specs.Counted.{has, zeros, counts_of, is_open, follows_by, follows, taken_in, are_named, are_alone, is_exit_alone}
use Rattle.ll_joined.specs.Joined.{stays}
use Rattle.turned_laws.proofs.Lists.{known, differ, none_true, opposite, same, either_of, or_left, or_right, not_is, neither_left, neither_right, within_list}
use Rattle.straight_laws.proofs.Counting.{one_if, target_if, times, times_both, times_among, among_times, each, times_one, times_two, sets_of, targets_of, taken_of, set_is, to_is, taken_is, has_one, has_none}

-- ---- as many numbers as there are below one

leave : ℕ → List ℕ → List ℕ
leave v [] = []
leave v (w ∷ xs) = cond (w == v) (leave v xs) (w ∷ leave v xs)

leave_size : (v : ℕ) (xs : List ℕ) → length xs ≡ times v xs + length (leave v xs)
unfolding leave
leave_size v [] = refl
leave_size v (w ∷ xs) = one (leave_size v xs) (w == v)
  where
    one : length xs ≡ times v xs + length (leave v xs) → (b : Bool) → suc (length xs) ≡ one_if b + times v xs + length (cond b (leave v xs) (w ∷ leave v xs))
    one h true = omega (arith, h)
    one h false = omega (arith, h)

leave_fewer : (u v : ℕ) (xs : List ℕ) → times u (leave v xs) ≤ times u xs
unfolding leave
leave_fewer u v [] = omega arith
leave_fewer u v (w ∷ xs) = one (leave_fewer u v xs) (w == v)
  where
    one : times u (leave v xs) ≤ times u xs → (b : Bool) → times u (cond b (leave v xs) (w ∷ leave v xs)) ≤ one_if (w == u) + times u xs
    one h true = omega (arith, h)
    one h false = omega (arith, h)

leave_none : (v : ℕ) (xs : List ℕ) → times v (leave v xs) ≡ 0
unfolding leave
leave_none v [] = refl
leave_none v (w ∷ xs) = one (leave_none v xs) (w == v) refl
  where
    one : times v (leave v xs) ≡ 0 → (b : Bool) → (w == v) ≡ b → times v (cond b (leave v xs) (w ∷ leave v xs)) ≡ 0
    one h true e = h
    one h false e = ap (λ b. one_if b + times v (leave v xs)) e ∙ (omega (arith, h))

less : (v k : ℕ) → v < suc k → (v ≡ k → ⊥) → v < k
less zero zero lt ne = absurd (ne refl)
less zero (suc k) lt ne = omega arith
less (suc v) zero lt ne = absurd (omega (arith, lt))
less (suc v) (suc k) lt ne = let h : v < k = less v k (omega (arith, lt)) (λ e. ne (ap suc e)) in omega (arith, h)

-- different numbers below k are no more than k
pub no_more : (k : ℕ) (xs : List ℕ) → ((v : ℕ) → times v xs ≤ 1) → ((v : ℕ) → 0 < times v xs → v < k) → length xs ≤ k
no_more zero [] apart below = omega arith
no_more zero (x ∷ xs) apart below = absurd (let h : 0 < times x (x ∷ xs) = times_among x (x ∷ xs) (or_left (x == x) (among x xs) (same x)) in let l : x < 0 = below x h in omega (arith, l))
no_more (suc k) xs apart below =
    let size : length xs ≡ times k xs + length (leave k xs) = leave_size k xs in
    let once : times k xs ≤ 1 = apart k in
    let rest : length (leave k xs) ≤ k = no_more k (leave k xs) (λ v. let a : times v (leave k xs) ≤ times v xs = leave_fewer v k xs in let b : times v xs ≤ 1 = apart v in omega (arith, a, b)) (λ v h. smaller v h) in
    omega (arith, size, once, rest)
  where
    smaller : (v : ℕ) → 0 < times v (leave k xs) → v < k
    smaller v h =
        let a : times v (leave k xs) ≤ times v xs = leave_fewer v k xs in
        let lt : v < suc k = below v (omega (arith, a, h)) in
        one lt (known (v == k))
      where
        one : v < suc k → (v == k) ≡ true ⊎ (v == k) ≡ false → v < k
        one lt (inl e) = absurd (let f : v ≡ k = is_same v k e in let g : times v (leave k xs) ≡ 0 = subst (λ v. times v (leave k xs) ≡ 0) (sym f) (leave_none k xs) in omega (arith, g, h))
        one lt (inr e) = let ne : v ≡ k → ⊥ = differ v k e in less v k lt ne

-- ---- what follows at once

module _ (k : ℕ) (blocks : List LlBlock) where
  abbrev pub C : Counts
  C = counts_of k blocks

  abbrev pub T : List ℕ
  T = taken_in blocks C

  -- the exit goes to the next block, which is open
  pub record Followed (e : LlExit) (link : LlLink) : Type 0 where
    pub goes : e ≡ exit.Goto link
    pub next : LlBlock
    pub at : slice_get blocks link.to ≡ Some next
    pub is_next : is_open C link next ≡ true

  pub follow_is : (e : LlExit) (link : LlLink) → follows blocks C e ≡ Some link → Followed e link
  follow_is (exit.Goto l) link h = one (slice_get blocks l.to) refl h
    where
      two : (next : LlBlock) → slice_get blocks l.to ≡ Some next → (b : Bool) → is_open C l next ≡ b → cond b (Some l) None ≡ Some link → Followed (exit.Goto l) link
      two next e true o h =
          let f : l ≡ link = cc in
          record { goes = ap exit.Goto f; next = next; at = subst (λ l. slice_get blocks l.to ≡ Some next) f e; is_next = subst (λ l. is_open C l next ≡ true) f o }
      two next e false o h = absurd (cc)

      one : (o : Option LlBlock) → slice_get blocks l.to ≡ o → follows_by C l o ≡ Some link → Followed (exit.Goto l) link
      one None e h = absurd (cc)
      one (Some next) e h = two next e (is_open C l next) refl h
  follow_is (exit.If a one two) link h = absurd (cc)
  follow_is (exit.OnRaise a by without) link h = absurd (cc)
  follow_is (exit.Return x) link h = absurd (cc)
  follow_is (exit.Raise a) link h = absurd (cc)
  follow_is (exit.Fail n) link h = absurd (cc)
  follow_is (exit.Raised a) link h = absurd (cc)

  pub set_once : (v : ℕ) → has 1 v C.set ≡ true → times v (each sets_of blocks) ≡ 1
  set_once v h = has_one (each sets_of blocks) k v (sym (ap (has 1 v) (set_is k blocks)) ∙ h)

  pub led_once : (v : ℕ) → has 1 v C.to ≡ true → times v (each targets_of blocks) ≡ 1
  led_once v h = has_one (each targets_of blocks) (length blocks) v (sym (ap (has 1 v) (to_is k blocks)) ∙ h)

  pub not_taken : (v : ℕ) → has 0 v T ≡ true → times v (each (taken_of blocks C) blocks) ≡ 0
  not_taken v h = has_none (each (taken_of blocks C) blocks) (length blocks) v (sym (ap (has 0 v) (taken_is blocks C)) ∙ h)

  module _ (e : LlExit) (link : LlLink) (f : Followed e link) where
    pub not_first : (link.to == 0) ≡ false
    not_first = not_is (link.to == 0) (and_left _ _ f.is_next)

    pub only_link : times link.to (each targets_of blocks) ≡ 1
    only_link = led_once link.to (and_left _ _ (and_right (not (link.to == 0)) _ f.is_next))

    pub named_inputs : are_named C f.next.inputs link.args ≡ true
    named_inputs = and_left _ _ (and_right (has 1 link.to C.to) _ (and_right (not (link.to == 0)) _ f.is_next))

    pub alone_ops : are_alone C f.next.ops ≡ true
    alone_ops = and_left _ _ (and_right (are_named C f.next.inputs link.args) _ (and_right (has 1 link.to C.to) _ (and_right (not (link.to == 0)) _ f.is_next)))

    pub alone_exit : is_exit_alone C f.next.ops f.next.exit ≡ true
    alone_exit = and_right (are_alone C f.next.ops) _ (and_right (are_named C f.next.inputs link.args) _ (and_right (has 1 link.to C.to) _ (and_right (not (link.to == 0)) _ f.is_next)))

    pub is_target : times link.to (targets_of (record { inputs = []; ops = []; exit = e })) ≡ 1
    is_target = ap (λ e. times link.to (targets_of (record { inputs = []; ops = []; exit = e }))) f.goes ∙ ap (λ b. one_if b + 0) (same link.to)

  -- two blocks that are followed by the same one are the same
  pub one_before : (m n : ℕ) (one two : LlBlock) (link other : LlLink) → slice_get blocks m ≡ Some one → slice_get blocks n ≡ Some two → Followed one.exit link → Followed two.exit other → link.to ≡ other.to → m ≡ n
  one_before m n one two link other at_one at_two f g e = by (known (m == n))
    where
      by : (m == n) ≡ true ⊎ (m == n) ≡ false → m ≡ n
      by (inl s) = is_same m n s
      by (inr s) = absurd (
          let a : times link.to (targets_of one) ≡ 1 = is_target one.exit link f in
          let b : times link.to (targets_of two) ≡ 1 = subst (λ t. times t (targets_of two) ≡ 1) (sym e) (is_target two.exit other g) in
          let c : times link.to (targets_of one) + times link.to (targets_of two) ≤ times link.to (each targets_of blocks) = times_two targets_of link.to blocks m n one two at_one at_two (differ m n s) in
          let d : times link.to (each targets_of blocks) ≡ 1 = only_link one.exit link f in
          omega (arith, a, b, c, d))

  -- ---- trails

  module _ (head : ℕ) (head_stays : stays C T head ≡ true) where
    -- the way comes to a block, after these, the last one first
    pub data Trail : ℕ → List ℕ → Type 0 where
      Begins : Trail head []
      Follows : (n : ℕ) (before : List ℕ) (block : LlBlock) (link : LlLink) → Trail n before → slice_get blocks n ≡ Some block → Followed block.exit link → Trail link.to (n ∷ before)

    -- no block is followed by the head
    head_free : (n : ℕ) (block : LlBlock) (link : LlLink) → slice_get blocks n ≡ Some block → follows blocks C block.exit ≡ Some link → link.to ≡ head → ⊥
    head_free n block link at f e = one (either_of (head == 0) _ head_stays)
      where
        one : (head == 0) ≡ true ⊎ (not (has 0 head C.to) && has 0 head T) ≡ true → ⊥
        one (inl z) = opposite (head == 0) z (ap (λ t. t == 0) (sym e) ∙ not_first block.exit link (follow_is block.exit link f))
        one (inr z) =
            let a : times head (each (taken_of blocks C) blocks) ≡ 0 = not_taken head (and_right (not (has 0 head C.to)) _ z) in
            let b : times head (taken_of blocks C block) ≤ times head (each (taken_of blocks C) blocks) = times_one (taken_of blocks C) head blocks n block at in
            let c : times head (taken_of blocks C block) ≡ 1 = ap (λ o. times head (target_if o)) f ∙ ap (λ b. one_if b + 0) (ap (λ t. t == head) e ∙ same head) in
            omega (arith, a, b, c)

    follows_back : (e : LlExit) (link : LlLink) → Followed e link → follows blocks C e ≡ Some link
    follows_back e link f =
        ap (follows blocks C) f.goes ∙ ap (follows_by C link) f.at ∙ ap (λ b. cond b (Some link) None) f.is_next

    before_it : (n : ℕ) (before : List ℕ) → Trail n before → (m : ℕ) (block : LlBlock) (link : LlLink) → slice_get blocks m ≡ Some block → Followed block.exit link → among link.to (n ∷ before) ≡ true → among m before ≡ true
    before_it n before Begins m block link at f h = one (either_of (head == link.to) false h)
      where
        one : (head == link.to) ≡ true ⊎ false ≡ true → among m [] ≡ true
        one (inl e) = absurd (head_free m block link at (follows_back block.exit link f) (sym (is_same head link.to e)))
        one (inr e) = e
    before_it n before (Follows n2 before2 block2 link2 trail at2 g) m block link at f h = one (λ h. before_it n2 before2 trail m block link at f h) (either_of (link2.to == link.to) (among link.to (n2 ∷ before2)) h)
      where
        one : (among link.to (n2 ∷ before2) ≡ true → among m before2 ≡ true) → (link2.to == link.to) ≡ true ⊎ among link.to (n2 ∷ before2) ≡ true → among m (n2 ∷ before2) ≡ true
        one go (inl e) = or_left (n2 == m) (among m before2) (subst (λ m. (n2 == m) ≡ true) (one_before n2 m block2 block link2 link at2 at g f (is_same link2.to link.to e)) (same n2))
        one go (inr e) = or_right (n2 == m) (among m before2) (go e)

    pub fresh : (n : ℕ) (before : List ℕ) → Trail n before → among n before ≡ false
    fresh n before Begins = refl
    fresh n before (Follows m before2 block link trail at f) = one (fresh m before2 trail) (known (among link.to (m ∷ before2)))
      where
        one : among m before2 ≡ false → (among link.to (m ∷ before2) ≡ true) ⊎ (among link.to (m ∷ before2) ≡ false) → among link.to (m ∷ before2) ≡ false
        one old (inl h) = opposite (among m before2) (before_it m before2 trail m block link at f h) old
        one old (inr h) = h

    trail_apart : (n : ℕ) (before : List ℕ) → Trail n before → (v : ℕ) → times v (n ∷ before) ≤ 1
    trail_apart n before Begins v = one (head == v)
      where
        one : (b : Bool) → one_if b + 0 ≤ 1
        one true = omega arith
        one false = omega arith
    trail_apart n before (Follows m before2 block link trail at f) v = one (trail_apart m before2 trail v) (known (link.to == v))
      where
        none : (k : ℕ) → times v (m ∷ before2) ≡ k → link.to ≡ v → k ≡ 0
        none zero e s = refl
        none (suc k) e s = opposite (among v (m ∷ before2)) (among_times v (m ∷ before2) (omega (arith, e))) (subst (λ v. among v (m ∷ before2) ≡ false) s (fresh link.to (m ∷ before2) (Follows m before2 block link trail at f)))

        one : times v (m ∷ before2) ≤ 1 → (link.to == v) ≡ true ⊎ (link.to == v) ≡ false → one_if (link.to == v) + times v (m ∷ before2) ≤ 1
        one h (inl e) = let z : times v (m ∷ before2) ≡ 0 = none (times v (m ∷ before2)) refl (is_same link.to v e) in subst (λ b. one_if b + times v (m ∷ before2) ≤ 1) (sym e) (omega (arith, z))
        one h (inr e) = subst (λ b. one_if b + times v (m ∷ before2) ≤ 1) (sym e) (omega (arith, h))

    -- each block of the trail is there
    trail_within : (n : ℕ) (before : List ℕ) → Trail n before → n < length blocks → (v : ℕ) → 0 < times v (n ∷ before) → v < length blocks
    trail_within n before Begins lt v h = subst (λ v. v < length blocks) (one (either_of (head == v) false (among_times v (head ∷ []) h))) lt
      where
        one : (head == v) ≡ true ⊎ false ≡ true → head ≡ v
        one (inl e) = is_same head v e
        one (inr e) = none_true (sym e)
    trail_within n before (Follows m before2 block link t at f) lt v h = one (λ e. trail_within m before2 t (within_list blocks m block at) v (times_among v (m ∷ before2) e)) (either_of (link.to == v) (among v (m ∷ before2)) (among_times v (link.to ∷ m ∷ before2) h))
      where
        one : (among v (m ∷ before2) ≡ true → v < length blocks) → (link.to == v) ≡ true ⊎ among v (m ∷ before2) ≡ true → v < length blocks
        one go (inl e) = subst (λ v. v < length blocks) (is_same link.to v e) lt
        one go (inr e) = go e

    pub short : (n : ℕ) (before : List ℕ) → Trail n before → n < length blocks → length before < length blocks
    short n before trail lt = let h : length (n ∷ before) ≤ length blocks = no_more (length blocks) (n ∷ before) (trail_apart n before trail) (trail_within n before trail lt) in omega (arith, h)
