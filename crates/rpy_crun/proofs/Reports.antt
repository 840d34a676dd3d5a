-- Reports that are added to a text one after the other.
use Rattle.std.proofs.Common.{◌≡◌, ℕ, ◌+◌, ◌<◌, Bool, true, false, if◌then◌else◌, List, [], ◌∷◌, ◌++◌, length, map, drop, get_or, refl, sym, ap, subst, ◌∙◌, arith, inl, inr, append_assoc}
use Rattle.std.proofs.lemmas.List.{append-nil, drop_more, length-map}
use Rattle.std.proofs.Math.ListN.{get_or-map}
use Rattle.rpy_base.specs.Watching.{Seen, Reports}
use Rattle.rpy_words.specs.declared.words.RunWords.{RunWords}
use Rattle.rpy_edge.specs.declared.status.Status.{Status}
use Rattle.rpy_edge.specs.declared.status.Status.TheVariants.{NoMem}
use Rattle.rpy_edge.specs.Edge.{Sunk, IsQuiet}
use Rattle.rpy_crun.specs.Running.{is_asked, asked_of, AreReports, Adds, AddsReports, Reported}

-- with the reports of those that are left behind the new text, the reports of all were added to the old one
abbrev pub Gathers : List Seen → List Seen → List ℕ → List ℕ → Type 0
Gathers all left old new = (whole : Bool) (rest : List ℕ) → AreReports whole left rest → AddsReports whole all old (new ++ rest)

pub gathers_first : (all : List Seen) (text : List ℕ) → Gathers all all text text
gathers_first all text = λ whole rest are. (rest, are, refl)

gathers_one : (asked : Bool) (s : Seen) (all left : List Seen) (old new newer : List ℕ) → Gathers all (if asked then s ∷ left else left) old new → Adds asked s new newer → Gathers all left old newer
gathers_one false s all left old new newer given e = subst (Gathers all left old) (sym e) given
gathers_one true s all left old new newer given (report, is, e) = λ whole rest are.
    let next = given whole (report ++ rest) (inr (report, rest, is, are, refl)) in
    (next.0, next.1, ap (λ t. t ++ rest) e ∙ append_assoc new report rest ∙ next.2)

pub gathers_next : (words : RunWords) (seen : List Seen) (i : ℕ) (s : Seen) (old new newer : List ℕ) → i < length seen → get_or seen i s ≡ s
    → Gathers (asked_of words seen) (asked_of words (drop i seen)) old new → Adds (is_asked words s.name) s new newer
    → Gathers (asked_of words seen) (asked_of words (drop (i + 1) seen)) old newer
gathers_next words seen i s old new newer inside at given adds =
    let e : drop i seen ≡ s ∷ drop (i + 1) seen = drop_more seen i s inside ∙ ap (λ t. t ∷ drop (i + 1) seen) at in
    gathers_one (is_asked words s.name) s (asked_of words seen) (asked_of words (drop (i + 1) seen)) old new newer
    (subst (λ l. Gathers (asked_of words seen) (asked_of words l) old new) e given) adds

cut : (left : List Seen) → AreReports false left []
cut [] = refl
cut (s ∷ left) = inl (refl, refl)

-- memory was wanting
pub gathers_cut : (all left : List Seen) (old new : List ℕ) → Gathers all left old new → AddsReports false all old new
gathers_cut all left old new given = subst (AddsReports false all old) (append-nil new) (given false [] (cut left))

none_left : (words : RunWords) (seen : List Seen) (i : ℕ) → i ≡ length seen → asked_of words (drop i seen) ≡ []
none_left words seen i e = ap (λ n. asked_of words (drop n seen)) e ∙ ap (asked_of words) (all_dropped seen)
  where
    all_dropped : (xs : List Seen) → drop (length xs) xs ≡ []
    all_dropped [] = refl
    all_dropped (x ∷ xs) = all_dropped xs

-- none is left
pub gathers_last : (words : RunWords) (seen : List Seen) (i : ℕ) (old new : List ℕ) → i ≡ length seen → Gathers (asked_of words seen) (asked_of words (drop i seen)) old new
    → AddsReports true (asked_of words seen) old new
gathers_last words seen i old new e given =
    subst (AddsReports true (asked_of words seen) old) (append-nil new) (subst (λ l. Gathers (asked_of words seen) l old new) (none_left words seen i e) given true [] refl)

module _ {X : Type 0} (seen : X → Seen) (words : RunWords) (xs : List X) (i : ℕ) (old new : List ℕ)
    (given : Gathers (asked_of words (map seen xs)) (asked_of words (drop i (map seen xs))) old new) where
  -- the report of the next watcher was added
  pub watch_next : (x : X) (newer : List ℕ) → i < length xs → x ≡ get_or xs i x → Adds (is_asked words (seen x).name) (seen x) new newer
      → Gathers (asked_of words (map seen xs)) (asked_of words (drop (i + 1) (map seen xs))) old newer
  watch_next x newer inside at adds =
      gathers_next words (map seen xs) i (seen x) old new newer (omega (arith, inside, length-map xs seen)) (get_or-map seen xs i x ∙ ap seen (sym at)) given adds

  pub watch_cut : (newer : List ℕ) → newer ≡ new → AddsReports false (asked_of words (map seen xs)) old newer
  watch_cut newer e = subst (AddsReports false (asked_of words (map seen xs)) old) (sym e) (gathers_cut (asked_of words (map seen xs)) (asked_of words (drop i (map seen xs))) old new given)

  pub watch_last : i ≡ length xs → AddsReports true (asked_of words (map seen xs)) old new
  watch_last e = gathers_last words (map seen xs) i old new (e ∙ sym (length-map xs seen)) given

-- nothing was said
pub unreported : (worked : Status) (text : List ℕ) (seen : List Seen) (err : Sunk) → IsQuiet err → Reported worked NoMem text seen err
unreported worked text seen err quiet = (false, text, ([], cut seen, sym (append-nil text)), inr (inr (refl, quiet)))
