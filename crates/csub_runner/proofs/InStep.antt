-- Watchers stay in step with the heap.
use Rattle.std.proofs.Common.{◌≡◌, ℕ, zero, suc, ◌+◌, ◌<◌, ◌≤◌, ◌^◌, ◌==◌, Bool, true, false, cond, List, [], ◌∷◌, ◌++◌, length, map, get_or, set, refl, sym, ap, ◌∙◌, Some, None, arith, subst}
use Rattle.std.specs.Prelude.{Option, IfSome, IsSome, option_map}
use Rattle.std.proofs.lemmas.List.{length-set}
use Rattle.std.specs.List.{All}
use Rattle.std.proofs.lemmas.List.Elements.{All-weaker, All-map, All-same}
use Rattle.std.proofs.lemmas.Bool.Decides.{nat_tests}
use Rattle.rpy_base.specs.Watching.{Seen, Block, IsNew, is_live, without, CanMake, CanGo, after_made, after_gone}
use Rattle.csub_runner.specs.Synced.{numbers_from, gone_among, number_of, Synced}

-- lists of numbers
without_number : ℕ → List ℕ → List ℕ
without_number n [] = []
without_number n (m ∷ ms) = cond (m == n) ms (m ∷ without_number n ms)

has_number : ℕ → List ℕ → Bool
has_number n [] = false
has_number n (m ∷ ms) = cond (m == n) true (has_number n ms)

AllUnder : ℕ → List ℕ → Type 0
AllUnder n [] = Unit {0}
AllUnder n (m ∷ ms) = (m < n) × AllUnder n ms

is_here : (i : ℕ) → (i == (i + 0)) ≡ true
is_here i = grind (arith, nat_tests)

is_not : (i k : ℕ) → (i == (i + suc k)) ≡ false
is_not i k = grind (arith, nat_tests)

over : (i k : ℕ) → (i + 1) + k ≡ i + suc k
over i k = omega arith

module _ {X : Type 0} where
  push_numbers : (i : ℕ) (blocks : List (Option X)) (cells : X) → numbers_from i (blocks ++ Some cells ∷ []) ≡ numbers_from i blocks ++ (i + length blocks) ∷ []
  push_numbers i [] cells = ap (λ n. n ∷ []) (omega arith)
  push_numbers i (None ∷ blocks) cells = push_numbers (i + 1) blocks cells ∙ ap (λ n. numbers_from (i + 1) blocks ++ n ∷ []) (omega arith)
  push_numbers i (Some c ∷ blocks) cells = ap (λ ns. i ∷ ns) (push_numbers (i + 1) blocks cells ∙ ap (λ n. numbers_from (i + 1) blocks ++ n ∷ []) (omega arith))

  push_gone : (blocks : List (Option X)) (cells : X) → gone_among (blocks ++ Some cells ∷ []) ≡ gone_among blocks
  push_gone [] cells = refl
  push_gone (None ∷ blocks) cells = ap (λ n. n + 1) (push_gone blocks cells)
  push_gone (Some c ∷ blocks) cells = push_gone blocks cells

  push_length : (blocks : List (Option X)) (x : Option X) → length (blocks ++ x ∷ []) ≡ length blocks + 1
  push_length [] x = refl
  push_length (y ∷ blocks) x = omega (arith, push_length blocks x)

  under : (n i : ℕ) (blocks : List (Option X)) → i + length blocks ≤ n → AllUnder n (numbers_from i blocks)
  unfolding AllUnder
  under n i [] h = tt
  under n i (None ∷ blocks) h = under n (i + 1) blocks (omega arith)
  under n i (Some c ∷ blocks) h = (omega arith, under n (i + 1) blocks (omega arith))

  few_gone : (blocks : List (Option X)) → gone_among blocks ≤ length blocks
  few_gone [] = omega arith
  few_gone (None ∷ blocks) = omega (arith, few_gone blocks)
  few_gone (Some c ∷ blocks) = omega (arith, few_gone blocks)

  some_gone : (blocks : List (Option X)) (k : ℕ) → IsSome (get_or blocks k None) → gone_among blocks < length blocks
  some_gone [] k h = absurd (cc)
  some_gone (None ∷ blocks) zero h = absurd (cc)
  some_gone (None ∷ blocks) (suc k) h = omega (arith, some_gone blocks k h)
  some_gone (Some c ∷ blocks) k h = omega (arith, few_gone blocks)

  gone_set : (blocks : List (Option X)) (k : ℕ) → IsSome (get_or blocks k None) → gone_among (set blocks k None) ≡ gone_among blocks + 1
  gone_set [] k h = absurd (cc)
  gone_set (None ∷ blocks) zero h = absurd (cc)
  gone_set (None ∷ blocks) (suc k) h = ap (λ n. n + 1) (gone_set blocks k h)
  gone_set (Some c ∷ blocks) zero h = refl
  gone_set (Some c ∷ blocks) (suc k) h = gone_set blocks k h

  has_at : (i k : ℕ) (blocks : List (Option X)) → IsSome (get_or blocks k None) → has_number (i + k) (numbers_from i blocks) ≡ true
  unfolding has_number
  has_at i k [] h = absurd (cc)
  has_at i zero (None ∷ blocks) h = absurd (cc)
  has_at i (suc k) (None ∷ blocks) h = ap (λ n. has_number n (numbers_from (i + 1) blocks)) (sym (over i k)) ∙ has_at (i + 1) k blocks h
  has_at i zero (Some c ∷ blocks) h = ap (λ t. cond t true (has_number (i + 0) (numbers_from (i + 1) blocks))) (is_here i)
  has_at i (suc k) (Some c ∷ blocks) h =
      ap (λ t. cond t true (has_number (i + suc k) (numbers_from (i + 1) blocks))) (is_not i k)
      ∙ ap (λ n. has_number n (numbers_from (i + 1) blocks)) (sym (over i k)) ∙ has_at (i + 1) k blocks h

  without_at : (i k : ℕ) (blocks : List (Option X)) → IsSome (get_or blocks k None) → numbers_from i (set blocks k None) ≡ without_number (i + k) (numbers_from i blocks)
  unfolding without_number
  without_at i k [] h = absurd (cc)
  without_at i zero (None ∷ blocks) h = absurd (cc)
  without_at i (suc k) (None ∷ blocks) h = without_at (i + 1) k blocks h ∙ ap (λ n. without_number n (numbers_from (i + 1) blocks)) (over i k)
  without_at i zero (Some c ∷ blocks) h = sym (ap (λ t. cond t (numbers_from (i + 1) blocks) (i ∷ without_number (i + 0) (numbers_from (i + 1) blocks))) (is_here i))
  without_at i (suc k) (Some c ∷ blocks) h =
      ap (λ ns. i ∷ ns) (without_at (i + 1) k blocks h ∙ ap (λ n. without_number n (numbers_from (i + 1) blocks)) (over i k))
      ∙ sym (ap (λ t. cond t (numbers_from (i + 1) blocks) (i ∷ without_number (i + suc k) (numbers_from (i + 1) blocks))) (is_not i k))

-- live blocks, by their numbers
new_of : (n : ℕ) (live : List Block) → AllUnder n (map number_of live) → IsNew n live
unfolding AllUnder
new_of n [] h = tt
new_of n (b ∷ live) h = ((λ e. omega (arith, h.0)), new_of n live h.1)

live_of : (n : ℕ) (live : List Block) → is_live n live ≡ has_number n (map number_of live)
unfolding has_number
live_of n [] = refl
live_of n (b ∷ live) = ap (λ t. cond (b.0 == n) true t) (live_of n live)

without_by : (n : ℕ) (b : Block) (live : List Block) (t : Bool) → map number_of (without n live) ≡ without_number n (map number_of live)
    → map number_of (cond t live (b ∷ without n live)) ≡ cond t (map number_of live) (b.0 ∷ without_number n (map number_of live))
without_by n b live true e = refl
without_by n b live false e = ap (λ ns. b.0 ∷ ns) e

without_of : (n : ℕ) (live : List Block) → map number_of (without n live) ≡ without_number n (map number_of live)
unfolding without_number
without_of n [] = refl
without_of n (b ∷ live) = without_by n b live (b.0 == n) (without_of n live)

push_map : (live : List Block) (b : Block) → map number_of (live ++ b ∷ []) ≡ map number_of live ++ b.0 ∷ []
push_map [] b = refl
push_map (c ∷ live) b = ap (λ ns. c.0 ∷ ns) (push_map live b)

if_more : {A : Type 0} (P Q : A → Type 0) (o : Option A) → ((x : A) → P x → Q x) → IfSome o P → IfSome o Q
if_more P Q None f h = h
if_more P Q (Some x) f h = f x h

if_mapped : {A : Type 0} (P Q : A → Type 0) (g : A → A) (o : Option A) → ((x : A) → P x → Q (g x)) → IfSome o P → IfSome (option_map g o) Q
if_mapped P Q g None f h = h
if_mapped P Q g (Some x) f h = f x h

module _ {X : Type 0} (blocks : List (Option X)) where
  pub can_make : length blocks < 2 ^ 63 → (s : Seen) → Synced blocks s → CanMake (length blocks) s
  can_make small s h = (omega (arith, h.made), if_more (λ live. map number_of live ≡ numbers_from 0 blocks) (IsNew (length blocks)) s.live (λ live e. new_of (length blocks) live (subst (AllUnder (length blocks)) (sym e) (under (length blocks) 0 blocks (omega arith)))) h.live)

  pub made_synced : (kind cells : ℕ) (c : X) (s : Seen) → Synced blocks s → Synced (blocks ++ Some c ∷ []) (after_made (length blocks, kind, cells) s)
  made_synced kind cells c s h = record {
    made = ap (λ n. n + 1) h.made ∙ sym (push_length blocks (Some c));
    gone = h.gone ∙ sym (push_gone blocks c);
    live = if_mapped (λ live. map number_of live ≡ numbers_from 0 blocks) (λ live. map number_of live ≡ numbers_from 0 (blocks ++ Some c ∷ [])) (λ live. live ++ (length blocks, kind, cells) ∷ []) s.live
        (λ live e. push_map live (length blocks, kind, cells) ∙ ap (λ ns. ns ++ length blocks ∷ []) e ∙ ap (λ n. numbers_from 0 blocks ++ n ∷ []) (omega arith) ∙ sym (push_numbers 0 blocks c)) h.live;
  }

  pub make_ready : (n : ℕ) (seen : List Seen) → n ≡ length blocks → length blocks < 2 ^ 63 → All (Synced blocks) seen → All (CanMake n) seen
  make_ready n seen e small all = rw e (All-weaker (Synced blocks) (CanMake (length blocks)) (can_make small) seen all)

  stays_by : (kind cells : ℕ) (c : X) (before after : List Seen) → All (Synced blocks) before → after ≡ map (after_made (length blocks, kind, cells)) before → All (Synced (blocks ++ Some c ∷ [])) after
  stays_by kind cells c before after all e =
      All-same (Synced (blocks ++ Some c ∷ [])) after _ e
      (All-map (Synced (blocks ++ Some c ∷ [])) (after_made (length blocks, kind, cells)) before
      (All-weaker (Synced blocks) (λ s. Synced (blocks ++ Some c ∷ []) (after_made (length blocks, kind, cells) s)) (made_synced kind cells c) before all))

  pub make_stays : (n kind cells : ℕ) (c : X) (now : List (Option X)) (before after : List Seen) → n ≡ length blocks → now ≡ blocks ++ Some c ∷ [] → All (Synced blocks) before → after ≡ map (after_made (n, kind, cells)) before → All (Synced now) after
  make_stays n kind cells c now before after is is_now all e = rw is_now (stays_by kind cells c before after all (e ∙ ap (λ m. map (after_made (m, kind, cells)) before) is))

  module _ (k : ℕ) (there : IsSome (get_or blocks k None)) where
    pub can_go : (s : Seen) → Synced blocks s → CanGo k s
    can_go s h = let g = some_gone blocks k there in
        (omega (arith, g, h.made, h.gone), if_more (λ live. map number_of live ≡ numbers_from 0 blocks) (λ live. is_live k live ≡ true) s.live (λ live e. live_of k live ∙ ap (has_number k) e ∙ ap (λ n. has_number n (numbers_from 0 blocks)) (omega arith) ∙ has_at 0 k blocks there) h.live)

    pub gone_synced : (s : Seen) → Synced blocks s → Synced (set blocks k None) (after_gone k s)
    gone_synced s h = record {
      made = h.made ∙ sym (length-set blocks k None);
      gone = ap (λ n. n + 1) h.gone ∙ sym (gone_set blocks k there);
      live = if_mapped (λ live. map number_of live ≡ numbers_from 0 blocks) (λ live. map number_of live ≡ numbers_from 0 (set blocks k None)) (without k) s.live (λ live e. without_of k live ∙ ap (without_number k) e ∙ ap (λ n. without_number n (numbers_from 0 blocks)) (omega arith) ∙ sym (without_at 0 k blocks there)) h.live;
    }

    pub free_ready : (seen : List Seen) → All (Synced blocks) seen → All (CanGo k) seen
    free_ready seen all = All-weaker (Synced blocks) (CanGo k) can_go seen all

    pub free_stays : (before after : List Seen) → All (Synced blocks) before → after ≡ map (after_gone k) before → All (Synced (set blocks k None)) after
    free_stays before after all e =
        All-same (Synced (set blocks k None)) after _ e
        (All-map (Synced (set blocks k None)) (after_gone k) before
        (All-weaker (Synced blocks) (λ s. Synced (set blocks k None) (after_gone k s)) gone_synced before all))
