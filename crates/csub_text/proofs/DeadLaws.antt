-- A dead line is one, and where there is one the bytes are no text.
use Rattle.std.proofs.Common.{◌≡◌, ℕ, suc, ◌==◌, Bool, true, false, cond, List, [], ◌∷◌, ◌++◌, ◌⊎◌, inl, inr, ◌+◌, refl, ap, ◌∙◌, sym, append_assoc, codes}
use Rattle.std.proofs.lemmas.List.{append-nil}
use Rattle.csub_tree.specs.declared.tree.CFile.{CFile}
use Rattle.csub_tree.specs.declared.tree.CFunction.{CFunction}
use Rattle.csub_tree.specs.Spelling as spell
use Rattle.csub_text.specs.Written.{IsWritten, IsSome}
use Rattle.csub_text.specs.Text.{IsText, IsNoText, AreLines, line_ends, first_line, has_line, IsDead}

-- ---- lines

split_at : (d : Bool) (b : ℕ) (bs : List ℕ) → ((rest : List ℕ) × (bs ≡ first_line bs ++ rest)) → (rest : List ℕ) × (b ∷ bs ≡ cond d (b ∷ []) (b ∷ first_line bs) ++ rest)
split_at true b bs more = (bs, refl)
split_at false b bs more = (more.0, ap (λ t. b ∷ t) more.1)

-- a line, and what stands after it
split : (a : List ℕ) → (rest : List ℕ) × (a ≡ first_line a ++ rest)
split [] = ([], refl)
split (b ∷ bs) = split_at (b == 10) b bs (split bs)

-- whether the last byte is a newline
abbrev ended : List ℕ → Bool
ended [] = false
ended (b ∷ []) = b == 10
ended (b ∷ c ∷ cs) = ended (c ∷ cs)

ended_last : (start : List ℕ) → ended (start ++ 10 ∷ []) ≡ true
ended_last [] = refl
ended_last (b ∷ []) = refl
ended_last (b ∷ c ∷ cs) = ended_last (c ∷ cs)

ended_after : (before : List ℕ) (c : ℕ) (cs : List ℕ) → ended (before ++ c ∷ cs) ≡ ended (c ∷ cs)
ended_after [] c cs = refl
ended_after (b ∷ []) c cs = refl
ended_after (b ∷ d ∷ ds) c cs = ended_after (d ∷ ds) c cs

has_at : (d : Bool) (bs : List ℕ) → has_line bs ≡ true → cond d true (has_line bs) ≡ true
has_at true bs h = refl
has_at false bs h = h

has_one : (d : Bool) → d ≡ true → cond d true false ≡ true
has_one true h = refl
has_one false h = h

ended_has : (a : List ℕ) → ended a ≡ true → has_line a ≡ true
ended_has [] e = e
ended_has (b ∷ []) e = has_one (b == 10) e
ended_has (b ∷ c ∷ cs) e = has_at (b == 10) (c ∷ cs) (ended_has (c ∷ cs) e)

has_more_at : (d : Bool) (v a : List ℕ) → (has_line v ≡ true → has_line (v ++ a) ≡ true) → cond d true (has_line v) ≡ true → cond d true (has_line (v ++ a)) ≡ true
has_more_at true v a more h = refl
has_more_at false v a more h = more h

has_more : (v a : List ℕ) → has_line v ≡ true → has_line (v ++ a) ≡ true
has_more [] a h = absurd (cc)
has_more (b ∷ bs) a h = has_more_at (b == 10) bs a (has_more bs a) h

first_at : (d : Bool) (b : ℕ) (v a : List ℕ) → (has_line v ≡ true → first_line (v ++ a) ≡ first_line v) → cond d true (has_line v) ≡ true → cond d (b ∷ []) (b ∷ first_line (v ++ a)) ≡ cond d (b ∷ []) (b ∷ first_line v)
first_at true b v a more h = refl
first_at false b v a more h = ap (λ t. b ∷ t) (more h)

first_more : (v a : List ℕ) → has_line v ≡ true → first_line (v ++ a) ≡ first_line v
first_more [] a h = absurd (cc)
first_more (b ∷ bs) a h = first_at (b == 10) b bs a (first_more bs a) h

-- ---- texts end with a newline

ended_some : (before a : List ℕ) → ended a ≡ true → ended (before ++ a) ≡ true
ended_some before [] e = absurd (cc)
ended_some before (c ∷ cs) e = ended_after before c cs ∙ e

functions_ended : (k : ℕ) (f : CFunction) (fs : List CFunction) → ended (spell.numbered spell.function_text k (f ∷ fs)) ≡ true
functions_ended k f [] =
    ap ended (append-nil (spell.function_text k f)) ∙ ended_some (spell.function_start k f ++ spell.function_body f) (spell.line (codes "}")) refl
functions_ended k f (g ∷ fs) = ended_some (spell.function_text k f) (spell.numbered spell.function_text (k + 1) (g ∷ fs)) (functions_ended (k + 1) g fs)

some_functions : (fs : List CFunction) → IsSome fs → ended (spell.numbered spell.function_text 0 fs) ≡ true
some_functions [] some = absurd some
some_functions (f ∷ fs) some = functions_ended 0 f fs

text_ended : (file : CFile) → IsWritten file → ended (spell.file_text file) ≡ true
text_ended file ok =
    ended_some (spell.file_head ++ spell.numbered spell.struct_text 0 file.structs ++ spell.numbered spell.prototype_text 0 file.prototypes ++ spell.numbered spell.static_text 0 file.statics)
    (spell.numbered spell.function_text 0 file.functions) (some_functions file.functions ok.4)

-- ---- the laws

nothing_left : (bytes before after : List ℕ) (file : CFile) → bytes ≡ before ++ after → IsText bytes file → has_line after ≡ false → after ≡ []
nothing_left bytes before [] file parts is no_line = refl
nothing_left bytes before (c ∷ cs) file parts is no_line =
    let e : ended (c ∷ cs) ≡ true = sym (ended_after before c cs) ∙ ap ended (sym parts ∙ is.0) ∙ text_ended file is.1 in
    let h : has_line (c ∷ cs) ≡ true = ended_has (c ∷ cs) e in
    absurd (cc)

dead_at : (bytes : List ℕ) (k : ℕ) (d : IsDead bytes k) (file : CFile) → IsText bytes file → (h : Bool) → has_line d.after ≡ h → ⊥
dead_at bytes k d file is true h =
    let s : (rest : List ℕ) × (d.after ≡ first_line d.after ++ rest) = split d.after in
    d.line h (s.0, file, (append_assoc d.before (first_line d.after) s.0 ∙ ap (λ t. d.before ++ t) (sym s.1) ∙ sym d.parts ∙ is.0, is.1))
dead_at bytes k d file is false h = d.whole (nothing_left bytes d.before d.after file d.parts is h) file is

pub dead_is_no_text : (bytes : List ℕ) (k : ℕ) → IsDead bytes k → IsNoText bytes
dead_is_no_text bytes k d file is = dead_at bytes k d file is (has_line d.after) refl

-- one of two beginnings begins with the other
abbrev Longer : List ℕ → List ℕ → List ℕ → List ℕ → Type 0
Longer b a c d = (v : List ℕ) × (c ≡ b ++ v) × (a ≡ v ++ d)

longer_cons : (x y : ℕ) (b a c d : List ℕ) → x ≡ y → Longer b a c d → Longer (x ∷ b) a (y ∷ c) d
longer_cons x y b a c d e l = (l.0, cc (l.1, e), l.2)

compare_cons : (x y : ℕ) (b a c d : List ℕ) → x ≡ y → Longer b a c d ⊎ Longer c d b a → Longer (x ∷ b) a (y ∷ c) d ⊎ Longer (y ∷ c) d (x ∷ b) a
compare_cons x y b a c d e (inl l) = inl (longer_cons x y b a c d e l)
compare_cons x y b a c d e (inr l) = inr (longer_cons y x c d b a (sym e) l)

compare : (b a c d : List ℕ) → b ++ a ≡ c ++ d → Longer b a c d ⊎ Longer c d b a
compare [] a c d e = inl (c, refl, e)
compare (x ∷ b) a [] d e = inr (x ∷ b, refl, sym e)
compare (x ∷ b) a (y ∷ c) d e = compare_cons x y b a c d (cc) (compare b a c d (cc))

not_nothing : (b : List ℕ) (x : ℕ) (xs : List ℕ) → b ++ x ∷ xs ≡ [] → ⊥
not_nothing [] x xs e = cc
not_nothing (c ∷ cs) x xs e = cc

lines_ended : (bytes b : List ℕ) (x : ℕ) (xs : List ℕ) → bytes ≡ b ++ x ∷ xs → AreLines bytes → ended bytes ≡ true
lines_ended bytes b x xs is (inl none) = absurd (not_nothing b x xs (sym is ∙ none))
lines_ended bytes b x xs is (inr s) = ap ended s.1 ∙ ended_last s.0

regroup : (b f w r : List ℕ) → (b ++ f) ++ (w ++ r) ≡ (b ++ (f ++ w)) ++ r
regroup b f w r = simp append_assoc

-- no beginning with more lines fits
no_longer : (bytes : List ℕ) (k m : ℕ) (d : IsDead bytes k) (e : IsDead bytes m) (v : List ℕ) → e.before ≡ d.before ++ v → d.after ≡ v ++ e.after → k ≡ m
no_longer bytes k m d e [] is left_over =
    d.number ∙ ap (λ t. suc (line_ends t)) (sym (append-nil d.before) ∙ sym is) ∙ sym e.number
no_longer bytes k m d e (x ∷ xs) is left_over =
    let here : ended (x ∷ xs) ≡ true = sym (ended_after d.before x xs) ∙ ap ended (sym is) ∙ lines_ended e.before d.before x xs is e.lines in
    let has : has_line (x ∷ xs) ≡ true = ended_has (x ∷ xs) here in
    let line : has_line d.after ≡ true = ap has_line left_over ∙ has_more (x ∷ xs) e.after has in
    let first : first_line d.after ≡ first_line (x ∷ xs) = ap first_line left_over ∙ first_more (x ∷ xs) e.after has in
    let s : (w : List ℕ) × (x ∷ xs ≡ first_line (x ∷ xs) ++ w) = split (x ∷ xs) in
    let same : (d.before ++ first_line d.after) ++ (s.0 ++ e.fits.0) ≡ e.before ++ e.fits.0 =
    ap (λ t. (d.before ++ t) ++ (s.0 ++ e.fits.0)) first ∙ regroup d.before (first_line (x ∷ xs)) s.0 e.fits.0 ∙ ap (λ t. (d.before ++ t) ++ e.fits.0) (sym s.1) ∙ ap (λ t. t ++ e.fits.0) (sym is) in
    absurd (d.line line (s.0 ++ e.fits.0, e.fits.1, (same ∙ e.fits.2.0, e.fits.2.1)))

one_of : (bytes : List ℕ) (k m : ℕ) (d : IsDead bytes k) (e : IsDead bytes m) → Longer d.before d.after e.before e.after ⊎ Longer e.before e.after d.before d.after → k ≡ m
one_of bytes k m d e (inl l) = no_longer bytes k m d e l.0 l.1 l.2
one_of bytes k m d e (inr l) = sym (no_longer bytes m k e d l.0 l.1 l.2)

pub one_dead : (bytes : List ℕ) (k m : ℕ) → IsDead bytes k → IsDead bytes m → k ≡ m
one_dead bytes k m d e = one_of bytes k m d e (compare d.before d.after e.before e.after (sym d.parts ∙ e.parts))
