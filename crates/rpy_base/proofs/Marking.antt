-- Entries that are marked, and those that are left.
use Rattle.std.proofs.Common.{◌≡◌, ◌≢◌, ℕ, zero, suc, ◌+◌, ◌<◌, ◌≤◌, Bool, true, false, cond, ◌==◌, List, [], ◌∷◌, ◌++◌, length, take, set, get_or, filter, refl, sym, ap, ◌∙◌, append_assoc, subst, take_all, arith, eq-eqb, eqb-true}
use Rattle.std.proofs.lemmas.List.{take_more}
use Rattle.rpy_base.specs.declared.watch.Entry.{Entry}
use Rattle.rpy_base.specs.Watching.{Block, IsNew, is_live, without, leak_lines, leak_lines_of, leak_line}
use Rattle.rpy_base.specs.Entries.{is_distinct, IsEntryAt, live_blocks}

abbrev block : Entry → Block
block e = (e.number, e.kind, e.cells)

not_both : (b : Bool) → b ≡ true → b ≡ false → ⊥
not_both true t f = cc
not_both false t f = cc

neither : (b c : Bool) → cond b true c ≡ false → (b ≡ false) × (c ≡ false)
neither true c h = absurd cc
neither false c h = (refl, h)

none_of : (b c : Bool) → b ≡ false → c ≡ false → cond b true c ≡ false
none_of true c h k = absurd cc
none_of false c h k = k

only_if : (b c : Bool) → cond b false c ≡ true → (b ≡ false) × (c ≡ true)
only_if true c h = absurd cc
only_if false c h = (refl, h)

if_only : (b c : Bool) → b ≡ false → c ≡ true → cond b false c ≡ true
if_only true c h k = absurd cc
if_only false c h k = k

not_same_by : (m n : ℕ) (b : Bool) → m == n ≡ b → m ≢ n → b ≡ false
not_same_by m n true e h = absurd (h (eqb-true m n e))
not_same_by m n false e h = refl

not_same : (m n : ℕ) → m ≢ n → m == n ≡ false
not_same m n h = not_same_by m n (m == n) refl h

pub new_not_live : (number : ℕ) (bs : List Block) → IsNew number bs → is_live number bs ≡ false
new_not_live number [] n = refl
new_not_live number (b ∷ bs) n = none_of (b.0 == number) (is_live number bs) (not_same b.0 number n.0) (new_not_live number bs n.1)

stays : (b : Bool) (x : Block) (xs ys : List Block) → b ≡ false → ys ≡ xs → cond b xs (x ∷ ys) ≡ x ∷ xs
stays true x xs ys h e = absurd cc
stays false x xs ys h e = ap (λ w. x ∷ w) e

-- a number that no block has leaves all of them
pub without_none : (number : ℕ) (bs : List Block) → is_live number bs ≡ false → without number bs ≡ bs
without_none number [] n = refl
without_none number (b ∷ bs) n =
    let p = neither (b.0 == number) (is_live number bs) n in
    stays (b.0 == number) b bs (without number bs) p.0 (without_none number bs p.1)

live_after : (number : ℕ) (bs : List Block) (b : Block) → is_live number bs ≡ false → number ≢ b.0 → is_live number (bs ++ b ∷ []) ≡ false
live_after number [] b h n = none_of (b.0 == number) false (not_same b.0 number (λ e. n (sym e))) refl
live_after number (x ∷ bs) b h n =
    let p = neither (x.0 == number) (is_live number bs) h in
    none_of (x.0 == number) (is_live number (bs ++ b ∷ [])) p.0 (live_after number bs b p.1 n)

pub distinct_after : (bs : List Block) (b : Block) → is_distinct bs ≡ true → IsNew b.0 bs → is_distinct (bs ++ b ∷ []) ≡ true
distinct_after [] b d n = refl
distinct_after (x ∷ bs) b d n =
    let p = only_if (is_live x.0 bs) (is_distinct bs) d in
    if_only (is_live x.0 (bs ++ b ∷ [])) (is_distinct (bs ++ b ∷ [])) (live_after x.0 bs b p.0 n.0) (distinct_after bs b p.1 n.1)

live_in : (b : Bool) (k : ℕ) (x : Block) (bs ys : List Block) → is_live k (x ∷ bs) ≡ false → is_live k ys ≡ false → is_live k (cond b bs (x ∷ ys)) ≡ false
live_in true k x bs ys h e = (neither (x.0 == k) (is_live k bs) h).1
live_in false k x bs ys h e = none_of (x.0 == k) (is_live k ys) (neither (x.0 == k) (is_live k bs) h).0 e

live_without : (number k : ℕ) (bs : List Block) → is_live k bs ≡ false → is_live k (without number bs) ≡ false
live_without number k [] h = refl
live_without number k (x ∷ bs) h = live_in (x.0 == number) k x bs (without number bs) h (live_without number k bs (neither (x.0 == k) (is_live k bs) h).1)

distinct_in : (b : Bool) (x : Block) (bs ys : List Block) → is_distinct bs ≡ true → is_live x.0 ys ≡ false → is_distinct ys ≡ true → is_distinct (cond b bs (x ∷ ys)) ≡ true
distinct_in true x bs ys d l e = d
distinct_in false x bs ys d l e = if_only (is_live x.0 ys) (is_distinct ys) l e

pub distinct_without : (number : ℕ) (bs : List Block) → is_distinct bs ≡ true → is_distinct (without number bs) ≡ true
distinct_without number [] d = refl
distinct_without number (x ∷ bs) d =
    let p = only_if (is_live x.0 bs) (is_distinct bs) d in
    distinct_in (x.0 == number) x bs (without number bs) p.1 (live_without number x.0 bs p.0) (distinct_without number bs p.1)

here_live : (b : Bool) (number : ℕ) (x : Block) (xs : List Block) → b ≡ true → x.0 ≡ number → is_live number (cond b (x ∷ xs) xs) ≡ false → ⊥
here_live true number x xs e h n = not_both (x.0 == number) (eq-eqb x.0 number h) (neither (x.0 == number) (is_live number xs) n).0
here_live false number x xs e h n = cc

rest_not_live : (b : Bool) (number : ℕ) (x : Block) (xs : List Block) → is_live number (cond b (x ∷ xs) xs) ≡ false → is_live number xs ≡ false
rest_not_live true number x xs n = (neither (x.0 == number) (is_live number xs) n).1
rest_not_live false number x xs n = n

-- the number of a live entry is that of a live block
pub entry_is_live : (number : ℕ) (es : List Entry) (at : ℕ) → IsEntryAt number es at → is_live number (live_blocks es) ≡ false → ⊥
entry_is_live number [] at h n = h
entry_is_live number (e ∷ es) zero h n = here_live e.live number (block e) (live_blocks es) h.0 h.1 n
entry_is_live number (e ∷ es) (suc at) h n = entry_is_live number es at h (rest_not_live e.live number (block e) (live_blocks es) n)

pub entry_inside : (number : ℕ) (es : List Entry) (at : ℕ) → IsEntryAt number es at → at < length es
entry_inside number [] at h = absurd h
entry_inside number (e ∷ es) zero h = omega arith
entry_inside number (e ∷ es) (suc at) h = let p = entry_inside number es at h in omega (arith, p)

abbrev pub marked_entry : Entry → Entry
marked_entry e = record e { live = false }

first_of : (b c : Bool) (x : Block) (xs : List Block) (number : ℕ) → b ≡ true → x.0 ≡ number → xs ≡ without number (cond b (x ∷ xs) xs)
first_of true c x xs number e h = ap (λ (t : Bool). cond t xs (x ∷ without number xs)) (sym (eq-eqb x.0 number h))
first_of false c x xs number e h = absurd cc

later_of : (b : Bool) (x : Block) (xs ys : List Block) (number : ℕ) → x.0 == number ≡ false → ys ≡ without number xs → cond b (x ∷ ys) ys ≡ without number (cond b (x ∷ xs) xs)
later_of true x xs ys number h e = ap (λ w. x ∷ w) e ∙ ap (λ (t : Bool). cond t xs (x ∷ without number xs)) (sym h)
later_of false x xs ys number h e = e

distinct_rest : (b : Bool) (x : Block) (xs : List Block) → is_distinct (cond b (x ∷ xs) xs) ≡ true → is_distinct xs ≡ true
distinct_rest true x xs d = (only_if (is_live x.0 xs) (is_distinct xs) d).1
distinct_rest false x xs d = d

other_number : (t : Bool) (x : Block) (xs : List Block) (number : ℕ) → x.0 == number ≡ t → is_distinct (x ∷ xs) ≡ true → (is_live number xs ≡ false → ⊥) → t ≡ false
other_number true x xs number e d n = absurd (n (subst (λ m. is_live m xs ≡ false) (eqb-true x.0 number e) (only_if (is_live x.0 xs) (is_distinct xs) d).0))
other_number false x xs number e d n = refl

mark_later : (b : Bool) (x : Block) (xs ys : List Block) (number : ℕ) → is_distinct (cond b (x ∷ xs) xs) ≡ true → (is_live number xs ≡ false → ⊥) → ys ≡ without number xs → cond b (x ∷ ys) ys ≡ without number (cond b (x ∷ xs) xs)
mark_later true x xs ys number d n e = later_of true x xs ys number (other_number (x.0 == number) x xs number refl d n) e
mark_later false x xs ys number d n e = e

pub marked : (number : ℕ) (es : List Entry) (at : ℕ) (d : Entry) → IsEntryAt number es at → is_distinct (live_blocks es) ≡ true → live_blocks (set es at (marked_entry (get_or es at d))) ≡ without number (live_blocks es)
marked number [] at d h k = absurd h
marked number (e ∷ es) zero d h k = first_of e.live false (block e) (live_blocks es) number h.0 h.1
marked number (e ∷ es) (suc at) d h k =
    mark_later e.live (block e) (live_blocks es) (live_blocks (set es at (marked_entry (get_or es at d)))) number k (entry_is_live number es at h) (marked number es at d h (distinct_rest e.live (block e) (live_blocks es) k))

append_in : (b : Bool) (x : Block) (xs ys zs : List Block) → zs ≡ xs ++ ys → cond b (x ∷ zs) zs ≡ cond b (x ∷ xs) xs ++ ys
append_in true x xs ys zs e = ap (λ w. x ∷ w) e
append_in false x xs ys zs e = e

pub live_blocks-append : (xs ys : List Entry) → live_blocks (xs ++ ys) ≡ live_blocks xs ++ live_blocks ys
live_blocks-append [] ys = refl
live_blocks-append (x ∷ xs) ys = append_in x.live (block x) (live_blocks xs) (live_blocks ys) (live_blocks (xs ++ ys)) (live_blocks-append xs ys)

kept_in : (b : Bool) (e : Entry) (es : List Entry) (xs : List Block) → e.live ≡ b → live_blocks es ≡ xs → live_blocks (cond b (e ∷ es) es) ≡ cond b (block e ∷ xs) xs
kept_in true e es xs h k = ap (λ (t : Bool). cond t (block e ∷ live_blocks es) (live_blocks es)) h ∙ ap (λ w. block e ∷ w) k
kept_in false e es xs h k = k

-- what is left where the marked ones are dropped
pub live_blocks-kept : (es : List Entry) → live_blocks (filter (λ (e : Entry). e.live) es) ≡ live_blocks es
live_blocks-kept [] = refl
live_blocks-kept (e ∷ es) = kept_in e.live e (filter (λ (x : Entry). x.live) es) (live_blocks es) refl (live_blocks-kept es)

pub leak_lines_of-append : (xs ys : List Block) → leak_lines_of (xs ++ ys) ≡ leak_lines_of xs ++ leak_lines_of ys
leak_lines_of-append [] ys = refl
leak_lines_of-append (x ∷ xs) ys = ap (λ w. leak_line x ++ w) (leak_lines_of-append xs ys) ∙ sym (append_assoc (leak_line x) (leak_lines_of xs) (leak_lines_of ys))

-- the lines of one entry more
pub lines_more : (es : List Entry) (i : ℕ) (d : Entry) → i < length es → leak_lines_of (live_blocks (take i es)) ++ leak_lines_of (live_blocks (get_or es i d ∷ [])) ≡ leak_lines_of (live_blocks (take (i + 1) es))
lines_more es i d h =
    sym (leak_lines_of-append (live_blocks (take i es)) (live_blocks (get_or es i d ∷ [])))
    ∙ ap leak_lines_of (sym (live_blocks-append (take i es) (get_or es i d ∷ [])) ∙ ap live_blocks (sym (take_more es i d h)))

-- no lines, no blocks
pub no_lines : (bs : List Block) → leak_lines_of bs ≡ [] → bs ≡ []
no_lines [] e = refl
no_lines (b ∷ bs) e = absurd cc

-- some lines are those of the report
pub some_lines : (bs : List Block) → leak_lines_of bs ≢ [] → leak_lines_of bs ≡ leak_lines bs
some_lines [] e = absurd (e refl)
some_lines (b ∷ bs) e = refl

-- a live entry that is looked up, and one that is not the block of the number
pub entry_stands : (number : ℕ) (es : List Entry) (at : ℕ) (d : Entry) → at < length es → (get_or es at d).live ≡ true → (get_or es at d).number ≡ number → IsEntryAt number es at
entry_stands number [] at d h l n = absurd (omega (arith, h))
entry_stands number (e ∷ es) zero d h l n = (l, n)
entry_stands number (e ∷ es) (suc at) d h l n = entry_stands number es at d (omega (arith, h)) l n

one_more : (b : Bool) (number : ℕ) (x : Block) → (b ≡ true → x.0 ≡ number → ⊥) → is_live number (cond b (x ∷ []) []) ≡ false
one_more true number x n = none_of (x.0 == number) false (not_same x.0 number (n refl)) refl
one_more false number x n = refl

live_append : (number : ℕ) (xs ys : List Block) → is_live number xs ≡ false → is_live number ys ≡ false → is_live number (xs ++ ys) ≡ false
live_append number [] ys h k = k
live_append number (x ∷ xs) ys h k =
    let p = neither (x.0 == number) (is_live number xs) h in
    none_of (x.0 == number) (is_live number (xs ++ ys)) p.0 (live_append number xs ys p.1 k)

pub live_more : (number : ℕ) (es : List Entry) (i : ℕ) (d : Entry) → i < length es → is_live number (live_blocks (take i es)) ≡ false → ((get_or es i d).live ≡ true → (get_or es i d).number ≡ number → ⊥) → is_live number (live_blocks (take (i + 1) es)) ≡ false
live_more number es i d h k n =
    ap (λ w. is_live number (live_blocks w)) (take_more es i d h)
    ∙ ap (is_live number) (live_blocks-append (take i es) (get_or es i d ∷ []))
    ∙ live_append number (live_blocks (take i es)) (live_blocks (get_or es i d ∷ [])) k (one_more (get_or es i d).live number (block (get_or es i d)) n)

pub none_marked : (number : ℕ) (es now : List Entry) (i : ℕ) → es ≡ now → length es ≤ i → is_live number (live_blocks (take i es)) ≡ false → live_blocks es ≡ without number (live_blocks now)
none_marked number es now i same le none =
    ap live_blocks same
    ∙ sym (without_none number (live_blocks now) (ap (λ w. is_live number (live_blocks w)) (sym same) ∙ ap (λ w. is_live number (live_blocks w)) (sym (take_all i es le)) ∙ none))

pub live_push : (es : List Entry) (number kind cells : ℕ) → live_blocks (es ++ (record { number = number; kind = kind; cells = cells; live = true }) ∷ []) ≡ live_blocks es ++ (number, kind, cells) ∷ []
live_push es number kind cells = live_blocks-append es ((record { number = number; kind = kind; cells = cells; live = true }) ∷ [])

pub distinct_push : (es : List Entry) (number kind cells : ℕ) → is_distinct (live_blocks es) ≡ true → IsNew number (live_blocks es) → is_distinct (live_blocks (es ++ (record { number = number; kind = kind; cells = cells; live = true }) ∷ [])) ≡ true
distinct_push es number kind cells d n = ap is_distinct (live_push es number kind cells) ∙ distinct_after (live_blocks es) (number, kind, cells) d n
