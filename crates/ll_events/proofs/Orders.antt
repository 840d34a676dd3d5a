-- What follows of events that are in order.
use Rattle.std.proofs.Common.{◌≡◌, ◌⊎◌, inl, inr, ⊎_elim, ◌<◌, ◌≤◌, ℕ, zero, suc, ◌+◌, Bool, true, false, ◌==◌, List, [], ◌∷◌, ◌++◌, length, map, Option, Some, None, refl, sym, ap, ◌∙◌, arith}
use Rattle.std.specs.Prelude.{slice_get, slice_set, slice_index_or, cond}
use Rattle.std.proofs.lemmas.Bool.Decides.{nat_tests}
use Rattle.csub_tree.specs.State.{Block, Event, Made, Freed}
use Rattle.csub_tree.specs.Meaning.{made_in, gone_in}
use Rattle.ll_events.specs.Told.{often, Marks, mark, told, InOrder, TellOf}

-- ---- lists

length_end : {A : Type 0} (xs : List A) (x : A) → length (xs ++ x ∷ []) ≡ suc (length xs)
length_end [] x = refl
length_end (y ∷ xs) x = ap suc (length_end xs x)

pub length_kept : {A : Type 0} (xs : List A) (n : ℕ) (x : A) → length (slice_set xs n x) ≡ length xs
length_kept [] n x = refl
length_kept (y ∷ xs) zero x = refl
length_kept (y ∷ xs) (suc n) x = ap suc (length_kept xs n x)

-- ---- events one behind the other

pub told_both : (marks : Marks) (xs ys : List Event) → told marks (xs ++ ys) ≡ told (told marks xs) ys
told_both marks [] ys = refl
told_both marks (Made number kind cells ∷ xs) ys = told_both (marks ++ Some (kind, cells) ∷ []) xs ys
told_both marks (Freed number ∷ xs) ys = told_both (slice_set marks number None) xs ys

pub order_both : (marks : Marks) (xs ys : List Event) → InOrder marks xs → InOrder (told marks xs) ys → InOrder marks (xs ++ ys)
order_both marks [] ys h k = k
order_both marks (Made number kind cells ∷ xs) ys h k = (h.0, order_both (marks ++ Some (kind, cells) ∷ []) xs ys h.1 k)
order_both marks (Freed number ∷ xs) ys h k = (h.0, order_both (slice_set marks number None) xs ys h.1 k)

-- ---- how many, and their numbers

told_length : (marks : Marks) (events : List Event) → length (told marks events) ≡ length marks + length (made_in events)
told_length marks [] = omega arith
told_length marks (Made number kind cells ∷ events) = omega (arith, told_length (marks ++ Some (kind, cells) ∷ []) events, length_end marks (Some (kind, cells)))
told_length marks (Freed number ∷ events) = omega (arith, told_length (slice_set marks number None) events, length_kept marks number None)

numbered : (marks : Marks) (events : List Event) → InOrder marks events → (b : ℕ) (entry : ℕ × ℕ × ℕ) → slice_get (made_in events) b ≡ Some entry → entry.0 ≡ length marks + b
numbered marks [] h b entry e = absurd (cc)
numbered marks (Made number kind cells ∷ events) h zero entry e = let f : (number, kind, cells) ≡ entry = cc in let g : number ≡ entry.0 = ap (λ t. t.0) f in let k : number ≡ length marks = h.0 in omega (arith, g, k)
numbered marks (Made number kind cells ∷ events) h (suc b) entry e = omega (arith, numbered (marks ++ Some (kind, cells) ∷ []) events h.1 b entry e, length_end marks (Some (kind, cells)))
numbered marks (Freed number ∷ events) h b entry e = omega (arith, numbered (slice_set marks number None) events h.1 b entry e, length_kept marks number None)

-- ---- those gone

-- 0 where the block is gone, 1 where it is there or still to come
abbrev stays : Marks → ℕ → ℕ
stays [] b = 1
stays (None ∷ marks) zero = 0
stays (Some m ∷ marks) zero = 1
stays (m ∷ marks) (suc b) = stays marks b

stays_made : (marks : Marks) (m : ℕ × ℕ) (b : ℕ) → stays (marks ++ Some m ∷ []) b ≡ stays marks b
stays_made [] m zero = refl
stays_made [] m (suc b) = refl
stays_made (None ∷ marks) m zero = refl
stays_made (Some x ∷ marks) m zero = refl
stays_made (x ∷ marks) m (suc b) = stays_made marks m b

abbrev once_if : Bool → ℕ
once_if true = 1
once_if false = 0

zero_first : (n : ℕ) → (0 == suc n) ≡ false
zero_first n = grind (arith, nat_tests)

zero_second : (n : ℕ) → (suc n == 0) ≡ false
zero_second n = grind (arith, nat_tests)

both_next : (b n : ℕ) → (suc b == suc n) ≡ (b == n)
both_next b n = grind (arith, nat_tests)

stays_gone : (marks : Marks) (n : ℕ) (m : ℕ × ℕ) (b : ℕ) → slice_index_or marks n None ≡ Some m → once_if (b == n) + stays (slice_set marks n None) b ≡ stays marks b
stays_gone [] n m b e = absurd (cc)
stays_gone (None ∷ marks) zero m b e = absurd (cc)
stays_gone (Some x ∷ marks) zero m zero e = refl
stays_gone (Some x ∷ marks) zero m (suc b) e = ap (λ y. once_if y + stays marks b) (zero_second b) ∙ omega arith
stays_gone (None ∷ marks) (suc n) m zero e = ap (λ y. once_if y + 0) (zero_first n)
stays_gone (Some x ∷ marks) (suc n) m zero e = ap (λ y. once_if y + 1) (zero_first n)
stays_gone (None ∷ marks) (suc n) m (suc b) e = ap (λ y. once_if y + stays (slice_set marks n None) b) (both_next b n) ∙ stays_gone marks n m b e
stays_gone (Some x ∷ marks) (suc n) m (suc b) e = ap (λ y. once_if y + stays (slice_set marks n None) b) (both_next b n) ∙ stays_gone marks n m b e

often_first : (b c : ℕ) (cs : List ℕ) → often b (c ∷ cs) ≡ once_if (b == c) + often b cs
often_first b c cs = by (b == c)
  where
    by : (x : Bool) → cond x (suc (often b cs)) (often b cs) ≡ once_if x + often b cs
    by true = omega arith
    by false = omega arith

gone_once : (marks : Marks) (events : List Event) → InOrder marks events → (b : ℕ) → often b (gone_in events) + stays (told marks events) b ≡ stays marks b
gone_once marks [] h b = omega arith
gone_once marks (Made number kind cells ∷ events) h b = gone_once (marks ++ Some (kind, cells) ∷ []) events h.1 b ∙ stays_made marks (kind, cells) b
gone_once marks (Freed number ∷ events) h b = omega (arith, gone_once (slice_set marks number None) events h.1 b, stays_gone marks number h.0.0 b h.0.1, often_first b number (gone_in events))

-- ---- those that are there are as they were made

record MadeLater (marks : Marks) (made : List (ℕ × ℕ × ℕ)) (b : ℕ) (m : ℕ × ℕ) : Type 0 where
  later : ℕ
  place : b ≡ length marks + later
  entry : slice_get made later ≡ Some (b, m.0, m.1)

at_end : (marks : Marks) (x m : ℕ × ℕ) (b : ℕ) → slice_index_or (marks ++ Some x ∷ []) b None ≡ Some m → (slice_index_or marks b None ≡ Some m) ⊎ ((b ≡ length marks) × (x ≡ m))
at_end [] x m zero e = inr (refl, cc)
at_end [] x m (suc b) e = absurd (cc)
at_end (y ∷ marks) x m zero e = inl e
at_end (y ∷ marks) x m (suc b) e = ⊎_elim (λ h. inl h) (λ h. inr (ap suc h.0, h.1)) (at_end marks x m b e)

at_kept : (marks : Marks) (n : ℕ) (m : ℕ × ℕ) (b : ℕ) → slice_index_or (slice_set marks n None) b None ≡ Some m → slice_index_or marks b None ≡ Some m
at_kept [] n m b e = e
at_kept (y ∷ marks) zero m zero e = absurd (cc)
at_kept (y ∷ marks) zero m (suc b) e = e
at_kept (y ∷ marks) (suc n) m zero e = e
at_kept (y ∷ marks) (suc n) m (suc b) e = at_kept marks n m b e

as_made : (marks : Marks) (events : List Event) → InOrder marks events → (b : ℕ) (m : ℕ × ℕ) → slice_index_or (told marks events) b None ≡ Some m → (slice_index_or marks b None ≡ Some m) ⊎ MadeLater marks (made_in events) b m
as_made marks [] h b m e = inl e
as_made marks (Made number kind cells ∷ events) h b m e = by (as_made (marks ++ Some (kind, cells) ∷ []) events h.1 b m e)
  where
    here : (slice_index_or marks b None ≡ Some m) ⊎ ((b ≡ length marks) × ((kind, cells) ≡ m)) → (slice_index_or marks b None ≡ Some m) ⊎ MadeLater marks ((number, kind, cells) ∷ made_in events) b m
    here (inl f) = inl f
    here (inr (f, g)) = inr (record {
      later = 0;
      place = omega (arith, f);
      entry = (let k : number ≡ length marks = h.0 in let l : number ≡ b = k ∙ sym f in ap (λ n. Some (n, kind, cells)) l ∙ ap (λ m. Some (b, m.0, m.1)) g);
    })

    by : (slice_index_or (marks ++ Some (kind, cells) ∷ []) b None ≡ Some m) ⊎ MadeLater (marks ++ Some (kind, cells) ∷ []) (made_in events) b m → (slice_index_or marks b None ≡ Some m) ⊎ MadeLater marks ((number, kind, cells) ∷ made_in events) b m
    by (inl f) = here (at_end marks (kind, cells) m b f)
    by (inr w) = inr (record { later = suc w.later; place = omega (arith, w.place, length_end marks (Some (kind, cells))); entry = w.entry })
as_made marks (Freed number ∷ events) h b m e = by (as_made (slice_set marks number None) events h.1 b m e)
  where
    by : (slice_index_or (slice_set marks number None) b None ≡ Some m) ⊎ MadeLater (slice_set marks number None) (made_in events) b m → (slice_index_or marks b None ≡ Some m) ⊎ MadeLater marks (made_in events) b m
    by (inl f) = inl (at_kept marks number m b f)
    by (inr w) = inr (record { later = w.later; place = omega (arith, w.place, length_kept marks number None); entry = w.entry })

-- ---- what events in order tell

pub length_map : {A B : Type 0} (f : A → B) (xs : List A) → length (map f xs) ≡ length xs
length_map f [] = refl
length_map f (x ∷ xs) = ap suc (length_map f xs)

pub mark_at : (blocks : List (Option Block)) (b : ℕ) → slice_index_or (map mark blocks) b None ≡ mark (slice_index_or blocks b None)
mark_at [] b = refl
mark_at (x ∷ blocks) zero = refl
mark_at (x ∷ blocks) (suc b) = mark_at blocks b

stays_there : (marks : Marks) (b : ℕ) (m : ℕ × ℕ) → slice_index_or marks b None ≡ Some m → stays marks b ≡ 1
stays_there [] b m e = absurd (cc)
stays_there (None ∷ marks) zero m e = absurd (cc)
stays_there (Some x ∷ marks) zero m e = refl
stays_there (None ∷ marks) (suc b) m e = stays_there marks b m e
stays_there (Some x ∷ marks) (suc b) m e = stays_there marks b m e

stays_none : (marks : Marks) (b : ℕ) → b < length marks → slice_index_or marks b None ≡ None → stays marks b ≡ 0
stays_none [] b lt e = absurd (omega (arith, lt))
stays_none (None ∷ marks) zero lt e = refl
stays_none (Some x ∷ marks) zero lt e = absurd (cc)
stays_none (None ∷ marks) (suc b) lt e = stays_none marks b (omega (arith, lt)) e
stays_none (Some x ∷ marks) (suc b) lt e = stays_none marks b (omega (arith, lt)) e

stays_past : (marks : Marks) (b : ℕ) → length marks ≤ b → stays marks b ≡ 1
stays_past [] b le = refl
stays_past (x ∷ marks) zero le = absurd (omega (arith, le))
stays_past (None ∷ marks) (suc b) le = stays_past marks b (omega (arith, le))
stays_past (Some x ∷ marks) (suc b) le = stays_past marks b (omega (arith, le))

pub events_tell : (events : List Event) (blocks : List (Option Block)) → InOrder [] events → told [] events ≡ map mark blocks → TellOf blocks (made_in events) (gone_in events)
events_tell events blocks h e = record {
  count = omega (arith, told_length [] events, long);
  numbers = λ b entry f. (let g : entry.0 ≡ 0 + b = numbered [] events h b entry f in omega (arith, g));
  like = λ b block f. like b block (as_made [] events h b (block.kind, length block.fields + length block.items) (at b block f));
  there = λ b block f. omega (arith, gone_once [] events h b, stays_there (told [] events) b (block.kind, length block.fields + length block.items) (at b block f));
  once = λ b lt f. omega (arith, gone_once [] events h b, stays_none (told [] events) b (omega (arith, lt, long)) (ap (λ marks. slice_index_or marks b None) e ∙ mark_at blocks b ∙ ap mark f));
  never = λ b le. omega (arith, gone_once [] events h b, stays_past (told [] events) b (omega (arith, le, long)));
}
  where
    long : length (told [] events) ≡ length blocks
    long = ap length e ∙ length_map mark blocks

    at : (b : ℕ) (block : Block) → slice_index_or blocks b None ≡ Some block → slice_index_or (told [] events) b None ≡ Some (block.kind, length block.fields + length block.items)
    at b block f = ap (λ marks. slice_index_or marks b None) e ∙ mark_at blocks b ∙ ap mark f

    nothing : Marks
    nothing = []

    like : (b : ℕ) (block : Block) → (slice_index_or nothing b None ≡ Some (block.kind, length block.fields + length block.items)) ⊎ MadeLater [] (made_in events) b (block.kind, length block.fields + length block.items)
        → slice_get (made_in events) b ≡ Some (b, block.kind, length block.fields + length block.items)
    like b block (inl f) = absurd (cc)
    like b block (inr w) = let g : b ≡ w.later = omega (arith, w.place) in ap (slice_get (made_in events)) g ∙ w.entry
