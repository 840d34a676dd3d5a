-- Where no line fits after those that lead from the start, the next line is the dead one.
use Rattle.std.proofs.Common.{◌≡◌, ℕ, suc, ◌+◌, ◌++◌, ◌==◌, ◌≤◌, Bool, true, false, cond, List, [], ◌∷◌, inl, inr, refl, ap, ◌∙◌, arith, sym, subst, append_assoc, length, length-append, take, drop, take-append-drop}
use Rattle.std.specs.List.{concat}
use Rattle.std.proofs.lemmas.List.{append-nil}
use Rattle.csub_tree.specs.Spelling as spell
use Rattle.csub_text.specs.Text.{IsNoText, Begins, AreLines, line_ends, first_line, has_line, IsDead}
use Rattle.csub_text.specs.declared.places.Place.{Place}
use Rattle.csub_text.specs.declared.places.Place.TheVariants.{Start}
use Rattle.csub_text.specs.Lines.{Fits, Leads, LeadsTo, line_len}
use Rattle.csub_text.proofs.Lines.{IsLine, is_line, plain}
use Rattle.csub_text.proofs.LinesWalked.{Walk, walked_as, walked_fits, file_walked}
use Rattle.csub_text.proofs.LinesBegin.{lines_begin}

-- ---- counting lines

ends_at : (d : Bool) (m n k : ℕ) → m ≡ n + k → cond d (suc m) m ≡ cond d (suc n) n + k
ends_at true m n k e = omega (arith, e)
ends_at false m n k e = e

ends_both : (a b : List ℕ) → line_ends (a ++ b) ≡ line_ends a + line_ends b
ends_both [] b = omega arith
ends_both (c ∷ a) b = ends_at (c == 10) (line_ends (a ++ b)) (line_ends a) (line_ends b) (ends_both a b)

plain_ends_at : (d : Bool) (s : List ℕ) → cond d false (plain s) ≡ true → (plain s ≡ true → line_ends s ≡ 0) → cond d (suc (line_ends s)) (line_ends s) ≡ 0
plain_ends_at true s p h = absurd (cc)
plain_ends_at false s p h = h p

plain_ends : (s : List ℕ) → plain s ≡ true → line_ends s ≡ 0
plain_ends [] p = refl
plain_ends (b ∷ s) p = plain_ends_at (b == 10) s p (plain_ends s)

one_end : (l : List ℕ) → IsLine l → line_ends l ≡ 1
one_end l h =
    let e : line_ends l ≡ line_ends h.start + 1 = ap line_ends h.is ∙ ends_both h.start (10 ∷ []) in
    omega (arith, e, plain_ends h.start h.plain)

lines_counted : (p q : Place) (ls : List (List ℕ)) → Leads p ls q → line_ends (concat ls) ≡ length ls
lines_counted p q [] lead = refl
lines_counted p q (l ∷ ls) lead =
    let e : line_ends (l ++ concat ls) ≡ line_ends l + line_ends (concat ls) = ends_both l (concat ls) in
    omega (arith, e, one_end l (is_line p l lead.0 lead.1), lines_counted lead.0 q ls lead.2)

some_bytes : (l : List ℕ) → IsLine l → 1 ≤ length l
some_bytes l h =
    let e : length l ≡ length h.start + 1 = ap length h.is ∙ length-append h.start (10 ∷ []) in
    omega (arith, e)

no_longer : (p q : Place) (ls : List (List ℕ)) → Leads p ls q → length ls ≤ length (concat ls)
no_longer p q [] lead = omega arith
no_longer p q (l ∷ ls) lead =
    let e : length (l ++ concat ls) ≡ length l + length (concat ls) = length-append l (concat ls) in
    omega (arith, e, some_bytes l (is_line p l lead.0 lead.1), no_longer lead.0 q ls lead.2)

pub lines_fit : (text rest : List ℕ) (p : Place) (k : ℕ) → LeadsTo text rest p k → k + length rest ≤ length text
lines_fit text rest p k h =
    let e : length text ≡ length (concat h.0) + length rest = ap length h.1 ∙ length-append (concat h.0) rest in
    omega (arith, e, h.3, no_longer Start p h.0 h.2)

-- ---- they are lines

abbrev EndsLine : List ℕ → Type 0
EndsLine bytes = (start : List ℕ) × (bytes ≡ start ++ 10 ∷ [])

ends_line : (p q : Place) (l : List ℕ) (ls : List (List ℕ)) → Leads p (l ∷ ls) q → EndsLine (concat (l ∷ ls))
ends_line p q l [] lead =
    let h : IsLine l = is_line p l lead.0 lead.1 in
    (h.start, append-nil l ∙ h.is)
ends_line p q l (m ∷ ls) lead =
    let e : EndsLine (concat (m ∷ ls)) = ends_line lead.0 q m ls lead.2 in
    (l ++ e.0, ap (λ t. l ++ t) e.1 ∙ sym (append_assoc l e.0 (10 ∷ [])))

are_lines : (p q : Place) (ls : List (List ℕ)) → Leads p ls q → AreLines (concat ls)
are_lines p q [] lead = inl refl
are_lines p q (l ∷ ls) lead = inr (ends_line p q l ls lead)

-- ---- the first line

take_at : (d : Bool) (b n : ℕ) (bs : List ℕ) → take n bs ≡ first_line bs → take (cond d 1 (suc n)) (b ∷ bs) ≡ cond d (b ∷ []) (b ∷ first_line bs)
take_at true b n bs e = refl
take_at false b n bs e = ap (λ t. b ∷ t) e

pub first_taken : (bytes : List ℕ) → take (line_len bytes) bytes ≡ first_line bytes
unfolding line_len
first_taken [] = refl
first_taken (b ∷ bs) = take_at (b == 10) b (line_len bs) bs (first_taken bs)

first_plain : (d : Bool) (b : ℕ) (bs : List ℕ) → (b == 10) ≡ d → cond d true (has_line bs) ≡ true → (has_line bs ≡ true → IsLine (first_line bs)) → IsLine (cond d (b ∷ []) (b ∷ first_line bs))
first_plain true b bs e has h = record { start = []; plain = refl; is = ap (λ c. c ∷ []) (newline b e) }
  where
    newline : (b : ℕ) → (b == 10) ≡ true → b ≡ 10
    newline b e = grind arith
first_plain false b bs e has h =
    let l : IsLine (first_line bs) = h has in
    record { start = b ∷ l.start; plain = ap (λ d. cond d false (plain l.start)) e ∙ l.plain; is = ap (λ t. b ∷ t) l.is }

first_is_line : (bytes : List ℕ) → has_line bytes ≡ true → IsLine (first_line bytes)
first_is_line [] has = absurd (cc)
first_is_line (b ∷ bs) has = first_plain (b == 10) b bs refl has (first_is_line bs)

-- ---- a line more, and the dead one

pub leads_to_start : (text : List ℕ) → LeadsTo text text Start 0
leads_to_start text = ([], refl, refl, refl)

leads_snoc : (p q r : Place) (ls : List (List ℕ)) (l : List ℕ) → Leads p ls q → Fits q l r → Leads p (ls ++ l ∷ []) r
leads_snoc p q r [] l lead f = (r, subst (λ t. Fits t l r) (sym lead) f, refl)
leads_snoc p q r (k ∷ ls) l lead f = (lead.0, lead.1, leads_snoc lead.0 q r ls l lead.2 f)

concat_snoc : (ls : List (List ℕ)) (l rest : List ℕ) → concat (ls ++ l ∷ []) ++ rest ≡ concat ls ++ (l ++ rest)
concat_snoc [] l rest = ap (λ t. t ++ rest) (append-nil l)
concat_snoc (k ∷ ls) l rest = append_assoc k (concat (ls ++ l ∷ [])) rest ∙ ap (λ t. k ++ t) (concat_snoc ls l rest) ∙ sym (append_assoc k (concat ls) (l ++ rest))

pub leads_to_next : (text rest l more : List ℕ) (p q : Place) (k : ℕ) → LeadsTo text rest p k → rest ≡ l ++ more → Fits p l q → LeadsTo text more q (k + 1)
leads_to_next text rest l more p q k h e f =
    let n : length (h.0 ++ l ∷ []) ≡ length h.0 + length (l ∷ []) = length-append h.0 (l ∷ []) in
    (h.0 ++ l ∷ [], h.1 ∙ ap (λ t. concat h.0 ++ t) e ∙ sym (concat_snoc h.0 l more), leads_snoc Start p q h.0 l h.2 f, omega (arith, n, h.3))

no_beginning : (text rest : List ℕ) (p : Place) (k : ℕ) → (h : LeadsTo text rest p k) → has_line rest ≡ true → ((q : Place) → Fits p (first_line rest) q → ⊥) → Begins (concat h.0 ++ first_line rest) → ⊥
no_beginning text rest p k h has none b =
    let w = file_walked b.1 b.2.1 in
    let e : concat h.0 ++ (first_line rest ++ b.0) ≡ spell.file_text b.1 = sym (append_assoc (concat h.0) (first_line rest) b.0) ∙ b.2.0 in
    let before : Walk Start (concat h.0) p = record { lines = h.0; leads = h.2; are = refl } in
    let found : (t : Place) × Fits p (first_line rest) t = walked_fits Start p w.0 (concat h.0) (first_line rest) b.0 (first_is_line rest has) before (walked_as w.1 e) in
    none found.0 found.1

pub dead_line : (text rest : List ℕ) (p : Place) (k : ℕ) → LeadsTo text rest p k → IsNoText text → (has_line rest ≡ true → (q : Place) → Fits p (first_line rest) q → ⊥) → IsDead text (k + 1)
dead_line text rest p k h apart none = record {
  before = concat h.0;
  after = rest;
  parts = h.1;
  lines = are_lines Start p h.0 h.2;
  number = omega (arith, h.3, lines_counted Start p h.0 h.2);
  fits = lines_begin h.0 p h.2;
  line = λ has. no_beginning text rest p k h has (none has);
  whole = λ e. apart;
}

-- ---- as the lines are gone over

len_at : (d : Bool) (n : ℕ) (h : Bool) → cond d true h ≡ true → (h ≡ true → 1 ≤ n) → 1 ≤ cond d 1 (suc n)
len_at true n h e more = omega arith
len_at false n h e more = omega arith

pub line_len_some : (bytes : List ℕ) → has_line bytes ≡ true → 1 ≤ line_len bytes
unfolding line_len
line_len_some [] e = absurd (cc)
line_len_some (b ∷ bs) e = len_at (b == 10) (line_len bs) (has_line bs) e (line_len_some bs)

first_is : (n : ℕ) (line rest : List ℕ) → n ≡ line_len rest → line ≡ take n rest → line ≡ first_line rest
first_is n line rest e is = is ∙ ap (λ m. take m rest) e ∙ first_taken rest

split_again : (n : ℕ) (rest line more : List ℕ) → line ≡ take n rest → more ≡ drop n rest → rest ≡ line ++ more
split_again n rest line more a b = sym (ap (λ t. t ++ more) a ∙ ap (λ t. take n rest ++ t) b ∙ take-append-drop n rest)

pub line_passed : (text rest line more : List ℕ) (n : ℕ) (p q : Place) (k : ℕ) → LeadsTo text rest p k → line ≡ take n rest → more ≡ drop n rest → Fits p line q → LeadsTo text more q (k + 1)
line_passed text rest line more n p q k h a b f = leads_to_next text rest line more p q k h (split_again n rest line more a b) f

pub dead_here : (text rest line : List ℕ) (n : ℕ) (p : Place) (k : ℕ) → LeadsTo text rest p k → IsNoText text → n ≡ line_len rest → line ≡ take n rest → ((q : Place) → Fits p line q → ⊥) → IsDead text (k + 1)
dead_here text rest line n p k h apart e a none = dead_line text rest p k h apart (λ has q f. none q (subst (λ t. Fits p t q) (sym (first_is n line rest e a)) f))

pub dead_behind : (text rest : List ℕ) (p : Place) (k : ℕ) → LeadsTo text rest p k → IsNoText text → has_line rest ≡ false → IsDead text (k + 1)
dead_behind text rest p k h apart e = dead_line text rest p k h apart (λ has. absurd (cc))
