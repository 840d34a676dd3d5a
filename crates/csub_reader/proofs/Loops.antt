-- Loops that read parts, one after the other.
use Rattle.std.proofs.Common.{◌≡◌, ℕ, zero, suc, ◌+◌, ◌-◌, ◌<◌, ◌≤◌, Bool, true, false, ◌||◌, List, [], ◌∷◌, ◌++◌, Some, None, refl, ap, ◌∙◌, arith, sym, append_assoc, length, length-append, codes}
use Rattle.std.proofs.lemmas.List.{append-nil}
use Rattle.csub_text.specs.Read.{Got, mapped, begins}
use Rattle.csub_text.specs.ReadStatement.{more_item, rest_of}
use Rattle.csub_tree.specs.declared.tree.CStmt.{CStmt}
use Rattle.csub_tree.specs.Checked.{ends_block}
use Rattle.csub_text.specs.ReadFile as of
use Rattle.csub_text.specs.ReadFile.{parts_while, some_while, statements}
use Rattle.csub_reader.specs.Parts.{extended, none_yet}

-- one part more was read
extended_more : {A : Type 0} (xs : List A) (x : A) (more : Got (List A)) → extended xs (mapped (λ ys. x ∷ ys) more) ≡ extended (xs ++ x ∷ []) more
extended_more xs x None = refl
extended_more xs x (Some p) = ap (λ ys. Some (ys, p.1)) (sym (append_assoc xs (x ∷ []) p.0))

pub extended_none : {A : Type 0} (xs : List A) (i : List ℕ) → extended xs (Some ([], i)) ≡ Some (xs, i)
extended_none xs i = ap (λ ys. Some (ys, i)) (append-nil xs)

less : (t n : ℕ) → t < n → n - t ≡ suc (n - (t + 1))
less t n h = omega arith

rest_turn : {A : Type 0} (read : List ℕ → Got A) (k : ℕ) (x : A) (i j : List ℕ) → begins (codes ", ") i ≡ true → more_item read i ≡ Some (x, j) → rest_of read (suc k) i ≡ mapped (λ ys. x ∷ ys) (rest_of read k j)
unfolding rest_of
rest_turn read k x i j sees is = rw (sees, is) refl

pub rest_next : {A : Type 0} (read : List ℕ → Got A) (xs longer : List A) (x : A) (n t : ℕ) (i j : List ℕ) (all : Got (List A))
    → t < n → longer ≡ xs ++ x ∷ [] → begins (codes ", ") i ≡ true → more_item read i ≡ Some (x, j) → all ≡ extended xs (rest_of read (n - t) i) → all ≡ extended longer (rest_of read (n - (t + 1)) j)
rest_next read xs longer x n t i j all within is sees one so_far =
    so_far ∙ ap (λ k. extended xs (rest_of read k i)) (less t n within) ∙ ap (extended xs) (rest_turn read (n - (t + 1)) x i j sees one)
    ∙ extended_more xs x (rest_of read (n - (t + 1)) j) ∙ ap (λ ys. extended ys (rest_of read (n - (t + 1)) j)) (sym is)

rest_at : {A : Type 0} (read : List ℕ → Got A) (k : ℕ) (i : List ℕ) → begins (codes ", ") i ≡ false → rest_of read k i ≡ Some ([], i)
unfolding rest_of
rest_at read zero i apart = refl
rest_at read (suc k) i apart = rw apart refl

pub rest_stop : {A : Type 0} (read : List ℕ → Got A) (xs : List A) (k : ℕ) (i : List ℕ) → begins (codes ", ") i ≡ false → extended xs (rest_of read k i) ≡ Some (xs, i)
rest_stop read xs k i apart = ap (extended xs) (rest_at read k i apart) ∙ extended_none xs i

rest_none : {A : Type 0} (read : List ℕ → Got A) (i : List ℕ) → rest_of read 0 i ≡ Some ([], i)
unfolding rest_of
rest_none read i = refl

pub rest_done : {A : Type 0} (read : List ℕ → Got A) (xs : List A) (n t : ℕ) (i : List ℕ) → n ≤ t → extended xs (rest_of read (n - t) i) ≡ Some (xs, i)
rest_done read xs n t i done =
    let none : n - t ≡ 0 = omega arith in
    ap (λ k. extended xs (rest_of read k i)) none ∙ ap (extended xs) (rest_none read i) ∙ extended_none xs i

-- the next part is none
rest_refuse : {A : Type 0} (read : List ℕ → Got A) (k : ℕ) (i : List ℕ) → begins (codes ", ") i ≡ true → more_item read i ≡ None → rest_of read (suc k) i ≡ None
unfolding rest_of
rest_refuse read k i sees is = rw (sees, is) refl

pub rest_fail : {A : Type 0} (read : List ℕ → Got A) (xs : List A) (n t : ℕ) (i : List ℕ) → t < n → begins (codes ", ") i ≡ true → more_item read i ≡ None → extended xs (rest_of read (n - t) i) ≡ None
rest_fail read xs n t i within sees is =
    ap (λ k. extended xs (rest_of read k i)) (less t n within) ∙ ap (extended xs) (rest_refuse read (n - (t + 1)) i sees is)

-- ---- parts while a test holds

while_turn : {A : Type 0} (test : List ℕ → Bool) (read : ℕ → List ℕ → Got A) (f k : ℕ) (x : A) (i j : List ℕ) → test i ≡ true → read k i ≡ Some (x, j) → parts_while test read (suc f) k i ≡ mapped (λ ys. x ∷ ys) (parts_while test read f (k + 1) j)
unfolding parts_while
while_turn test read f k x i j sees is = rw (sees, is) refl

pub while_next : {A : Type 0} (test : List ℕ → Bool) (read : ℕ → List ℕ → Got A) (xs longer : List A) (x : A) (n t k next : ℕ) (i j : List ℕ) (all : Got (List A))
    → t < n → longer ≡ xs ++ x ∷ [] → test i ≡ true → read k i ≡ Some (x, j) → next ≡ k + 1 → all ≡ extended xs (parts_while test read (n - t) k i) → all ≡ extended longer (parts_while test read (n - (t + 1)) next j)
while_next test read xs longer x n t k next i j all within is sees one number so_far =
    so_far ∙ ap (λ f. extended xs (parts_while test read f k i)) (less t n within) ∙ ap (extended xs) (while_turn test read (n - (t + 1)) k x i j sees one)
    ∙ extended_more xs x (parts_while test read (n - (t + 1)) (k + 1) j)
    ∙ ap (λ ys. extended ys (parts_while test read (n - (t + 1)) (k + 1) j)) (sym is) ∙ ap (λ m. extended longer (parts_while test read (n - (t + 1)) m j)) (sym number)

while_at : {A : Type 0} (test : List ℕ → Bool) (read : ℕ → List ℕ → Got A) (f k : ℕ) (i : List ℕ) → test i ≡ false → parts_while test read f k i ≡ Some ([], i)
unfolding parts_while
while_at test read zero k i apart = refl
while_at test read (suc f) k i apart = rw apart refl

pub while_stop : {A : Type 0} (test : List ℕ → Bool) (read : ℕ → List ℕ → Got A) (xs : List A) (f k : ℕ) (i : List ℕ) → test i ≡ false → extended xs (parts_while test read f k i) ≡ Some (xs, i)
while_stop test read xs f k i apart = ap (extended xs) (while_at test read f k i apart) ∙ extended_none xs i

while_none : {A : Type 0} (test : List ℕ → Bool) (read : ℕ → List ℕ → Got A) (k : ℕ) (i : List ℕ) → parts_while test read 0 k i ≡ Some ([], i)
unfolding parts_while
while_none test read k i = refl

pub while_done : {A : Type 0} (test : List ℕ → Bool) (read : ℕ → List ℕ → Got A) (xs : List A) (n t k : ℕ) (i : List ℕ) → n ≤ t → extended xs (parts_while test read (n - t) k i) ≡ Some (xs, i)
while_done test read xs n t k i done =
    let none : n - t ≡ 0 = omega arith in
    ap (λ f. extended xs (parts_while test read f k i)) none ∙ ap (extended xs) (while_none test read k i) ∙ extended_none xs i

while_refuse : {A : Type 0} (test : List ℕ → Bool) (read : ℕ → List ℕ → Got A) (f k : ℕ) (i : List ℕ) → test i ≡ true → read k i ≡ None → parts_while test read (suc f) k i ≡ None
unfolding parts_while
while_refuse test read f k i sees is = rw (sees, is) refl

pub while_fail : {A : Type 0} (test : List ℕ → Bool) (read : ℕ → List ℕ → Got A) (xs : List A) (n t k : ℕ) (i : List ℕ) → t < n → test i ≡ true → read k i ≡ None → extended xs (parts_while test read (n - t) k i) ≡ None
while_fail test read xs n t k i within sees is =
    ap (λ f. extended xs (parts_while test read f k i)) (less t n within) ∙ ap (extended xs) (while_refuse test read (n - (t + 1)) k i sees is)

-- ---- one part or more

some_turn : {A : Type 0} (test : List ℕ → Bool) (read : ℕ → List ℕ → Got A) (f k : ℕ) (first : Bool) (x : A) (i j : List ℕ) → (first || test i) ≡ true → read k i ≡ Some (x, j)
    → some_while test read (suc f) k first i ≡ mapped (λ ys. x ∷ ys) (some_while test read f (k + 1) false j)
unfolding some_while
some_turn test read f k first x i j sees is = rw (sees, is) refl

pub some_next : {A : Type 0} (test : List ℕ → Bool) (read : ℕ → List ℕ → Got A) (xs longer : List A) (x : A) (n t k next : ℕ) (first : Bool) (i j : List ℕ) (all : Got (List A))
    → t < n → longer ≡ xs ++ x ∷ [] → (first || test i) ≡ true → read k i ≡ Some (x, j) → next ≡ k + 1 → all ≡ extended xs (some_while test read (n - t) k first i) → all ≡ extended longer (some_while test read (n - (t + 1)) next false j)
some_next test read xs longer x n t k next first i j all within is sees one number so_far =
    so_far ∙ ap (λ f. extended xs (some_while test read f k first i)) (less t n within) ∙ ap (extended xs) (some_turn test read (n - (t + 1)) k first x i j sees one)
    ∙ extended_more xs x (some_while test read (n - (t + 1)) (k + 1) false j)
    ∙ ap (λ ys. extended ys (some_while test read (n - (t + 1)) (k + 1) false j)) (sym is) ∙ ap (λ m. extended longer (some_while test read (n - (t + 1)) m false j)) (sym number)

some_at : {A : Type 0} (test : List ℕ → Bool) (read : ℕ → List ℕ → Got A) (f k : ℕ) (first : Bool) (i : List ℕ) → (first || test i) ≡ false → some_while test read (suc f) k first i ≡ Some ([], i)
unfolding some_while
some_at test read f k first i apart = rw apart refl

pub some_stop : {A : Type 0} (test : List ℕ → Bool) (read : ℕ → List ℕ → Got A) (xs : List A) (n t k : ℕ) (first : Bool) (i : List ℕ) → t < n → (first || test i) ≡ false → extended xs (some_while test read (n - t) k first i) ≡ Some (xs, i)
some_stop test read xs n t k first i within apart =
    ap (λ f. extended xs (some_while test read f k first i)) (less t n within) ∙ ap (extended xs) (some_at test read (n - (t + 1)) k first i apart) ∙ extended_none xs i

some_refuse : {A : Type 0} (test : List ℕ → Bool) (read : ℕ → List ℕ → Got A) (f k : ℕ) (first : Bool) (i : List ℕ) → (first || test i) ≡ true → read k i ≡ None → some_while test read (suc f) k first i ≡ None
unfolding some_while
some_refuse test read f k first i sees is = rw (sees, is) refl

pub some_fail : {A : Type 0} (test : List ℕ → Bool) (read : ℕ → List ℕ → Got A) (xs : List A) (n t k : ℕ) (first : Bool) (i : List ℕ) → t < n → (first || test i) ≡ true → read k i ≡ None → extended xs (some_while test read (n - t) k first i) ≡ None
some_fail test read xs n t k first i within sees is =
    ap (λ f. extended xs (some_while test read f k first i)) (less t n within) ∙ ap (extended xs) (some_refuse test read (n - (t + 1)) k first i sees is)

some_none : {A : Type 0} (test : List ℕ → Bool) (read : ℕ → List ℕ → Got A) (k : ℕ) (first : Bool) (i : List ℕ) → some_while test read 0 k first i ≡ None
unfolding some_while
some_none test read k first i = refl

pub some_done : {A : Type 0} (test : List ℕ → Bool) (read : ℕ → List ℕ → Got A) (xs : List A) (n t k : ℕ) (first : Bool) (i : List ℕ) → n ≤ t → extended xs (some_while test read (n - t) k first i) ≡ None
some_done test read xs n t k first i done =
    let none : n - t ≡ 0 = omega arith in
    ap (λ f. extended xs (some_while test read f k first i)) none ∙ ap (extended xs) (some_none test read k first i)

-- ---- statements

statements_turn : (f : ℕ) (s : CStmt) (i j : List ℕ) → of.statement_line i ≡ Some (s, j) → ends_block s ≡ false → statements (suc f) i ≡ mapped (λ ss. s ∷ ss) (statements f j)
unfolding statements
statements_turn f s i j is goes = rw (is, goes) refl

pub statements_next : (ss longer : List CStmt) (s : CStmt) (n t : ℕ) (i j : List ℕ) (all : Got (List CStmt))
    → t < n → longer ≡ ss ++ s ∷ [] → of.statement_line i ≡ Some (s, j) → ends_block s ≡ false → all ≡ extended ss (statements (n - t) i) → all ≡ extended longer (statements (n - (t + 1)) j)
statements_next ss longer s n t i j all within is one goes so_far =
    so_far ∙ ap (λ f. extended ss (statements f i)) (less t n within) ∙ ap (extended ss) (statements_turn (n - (t + 1)) s i j one goes)
    ∙ extended_more ss s (statements (n - (t + 1)) j) ∙ ap (λ ys. extended ys (statements (n - (t + 1)) j)) (sym is)

statements_end : (f : ℕ) (s : CStmt) (i j : List ℕ) → of.statement_line i ≡ Some (s, j) → ends_block s ≡ true → statements (suc f) i ≡ Some (s ∷ [], j)
unfolding statements
statements_end f s i j is ends = rw (is, ends) refl

pub statements_last : (ss longer : List CStmt) (s : CStmt) (n t : ℕ) (i j : List ℕ) → t < n → longer ≡ ss ++ s ∷ [] → of.statement_line i ≡ Some (s, j) → ends_block s ≡ true → extended ss (statements (n - t) i) ≡ Some (longer, j)
statements_last ss longer s n t i j within is one ends =
    ap (λ f. extended ss (statements f i)) (less t n within) ∙ ap (extended ss) (statements_end (n - (t + 1)) s i j one ends) ∙ ap (λ ys. Some (ys, j)) (sym is)

statements_refuse : (f : ℕ) (i : List ℕ) → of.statement_line i ≡ None → statements (suc f) i ≡ None
unfolding statements
statements_refuse f i is = rw is refl

pub statements_fail : (ss : List CStmt) (n t : ℕ) (i : List ℕ) → t < n → of.statement_line i ≡ None → extended ss (statements (n - t) i) ≡ None
statements_fail ss n t i within is = ap (λ f. extended ss (statements f i)) (less t n within) ∙ ap (extended ss) (statements_refuse (n - (t + 1)) i is)

statements_none : (i : List ℕ) → statements 0 i ≡ None
unfolding statements
statements_none i = refl

pub statements_done : (ss : List CStmt) (n t : ℕ) (i : List ℕ) → n ≤ t → extended ss (statements (n - t) i) ≡ None
statements_done ss n t i done =
    let none : n - t ≡ 0 = omega arith in
    ap (λ f. extended ss (statements f i)) none ∙ ap (extended ss) (statements_none i)

-- something was read
pub none_longer : {A : Type 0} (xs longer : List A) (x : A) (f : Bool → Got (List A)) → longer ≡ xs ++ x ∷ [] → f false ≡ f (none_yet longer)
none_longer [] longer x f is = ap (λ ys. f (none_yet ys)) (sym is)
none_longer (y ∷ ys) longer x f is = ap (λ zs. f (none_yet zs)) (sym is)

-- the number of the next part
pub counted_more : {A : Type 0} (before : ℕ) (xs longer : List A) (x : A) → longer ≡ xs ++ x ∷ [] → before + length longer ≡ (before + length xs) + 1
counted_more before xs longer x is =
    let l : length longer ≡ length xs + length (x ∷ []) = ap length is ∙ length-append xs (x ∷ []) in
    omega arith
