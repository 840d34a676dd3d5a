-- The methods that a call reaches: each once, and class by class.
use Rattle.std.proofs.Common.{◌≡◌, ◌+◌, ◌<◌, ◌≤◌, ℕ, suc, Bool, true, false, List, [], ◌∷◌, ◌++◌, length, map, Option, Some, None, refl, sym, ap, ◌∙◌, subst, arith}
use Rattle.std.specs.Prelude.{◌==◌, ◌&&◌, ◌||◌, nat_lt, slice_get, unwrap_or, if◌then◌else◌}
use Rattle.std.proofs.lemmas.Bool.{false≢true, eqb-true, eq-eqb, ne_eqb, ltb-true}
use Rattle.std.proofs.lemmas.List.{map-append}
use Rattle.class_desc.specs.Line as line
use Rattle.class_desc.specs.Tables.{Tables}
use Rattle.ann_lattice.specs.Assign.{Assignment, mark}
use Rattle.ann_lattice.specs.Laws.{rising, from}
use Rattle.ann_lattice.specs.Order.{has, Among}
use Rattle.ann_laws.proofs.Pairs.{and_left, and_right}
use Rattle.ann_rules.specs.Program.{Whole}
use Rattle.ann_rules.specs.Asks.{paired, method_of, methods_from, methods}
use Rattle.rtyper_core.specs.Call as code
use Rattle.typing_laws.proofs.Arities.{Distinct, among_is}

-- ---- lists of functions

or_assoc : (a b c : Bool) → ((a || b) || c) ≡ (a || (b || c))
or_assoc true b c = refl
or_assoc false b c = refl

or_false : (a : Bool) → a ≡ (a || false)
or_false true = refl
or_false false = refl

has_append : (fs gs : List ℕ) (x : ℕ) → has (fs ++ gs) x ≡ (has fs x || has gs x)
has_append [] gs x = refl
has_append (f ∷ fs) gs x = ap (λ b. (f == x) || b) (has_append fs gs x) ∙ sym (or_assoc (f == x) (has fs x) (has gs x))

within : (fs gs : List ℕ) → ((x : ℕ) → has fs x ≡ true → has gs x ≡ true) → Among fs gs
within [] gs h = tt
within (f ∷ fs) gs h = (h f (ap (λ b. b || has fs f) (eq-eqb f f refl)), within fs gs (λ x i. h x (later (f == x) (has fs x) i)))
  where
    later : (b c : Bool) → c ≡ true → (b || c) ≡ true
    later true c i = refl
    later false c i = i

pub same_within : (fs gs : List ℕ) → ((x : ℕ) → has fs x ≡ has gs x) → Among fs gs × Among gs fs
same_within fs gs h = (within fs gs (λ x i. sym (h x) ∙ i), within gs fs (λ x i. h x ∙ i))

-- ---- functions in rising order

apart : (n m : ℕ) (fs : List ℕ) → from n fs ≡ true → m ≤ n → has fs m ≡ false
apart n m [] h le = refl
apart n m (g ∷ gs) h le =
    let lt = ltb-true n g (and_left (nat_lt n g) (from g gs) h) in
    ap (λ b. b || has gs m) (ne_eqb g m (λ e. omega (arith, e, lt, le))) ∙ apart g m gs (and_right (nat_lt n g) (from g gs) h) (omega (arith, lt, le))

from_distinct : (n : ℕ) (fs : List ℕ) → from n fs ≡ true → Distinct fs
from_distinct n [] h = tt
from_distinct n (g ∷ gs) h =
    let rest = and_right (nat_lt n g) (from g gs) h in
    (apart g g gs rest (omega arith), from_distinct g gs rest)

pub rising_distinct : (fs : List ℕ) → rising fs ≡ true → Distinct fs
rising_distinct [] h = tt
rising_distinct (f ∷ fs) h = (apart f f fs h (omega arith), from_distinct f fs h)

-- ---- each once

no_more : (fs : List ℕ) (f x : ℕ) → has fs f ≡ true → has fs x ≡ (has fs x || ((f == x) || false))
no_more fs f x h = by (f == x) refl
  where
    or_true : (b : Bool) → b ≡ true → b ≡ (b || (true || false))
    or_true true e = refl
    or_true false e = e

    by : (c : Bool) → (f == x) ≡ c → has fs x ≡ (has fs x || (c || false))
    by true e = or_true (has fs x) (ap (has fs) (sym (eqb-true f x e)) ∙ h)
    by false e = or_false (has fs x)

with_one : (f : ℕ) (fs : List ℕ) (x : ℕ) → has (code.with_function (Some f) fs) x ≡ (has fs x || has (f ∷ []) x)
with_one f fs x = by (code.is_among fs f) refl
  where
    by : (c : Bool) → code.is_among fs f ≡ c → has (if c then fs else fs ++ f ∷ []) x ≡ (has fs x || has (f ∷ []) x)
    by true e = no_more fs f x (sym (among_is fs f) ∙ e)
    by false e = has_append fs (f ∷ []) x

neither : (b c : Bool) → b ≡ false → c ≡ false → (b || (c || false)) ≡ false
neither false false h i = refl
neither true c h i = absurd (false≢true (sym h))
neither false true h i = absurd (false≢true (sym i))

parts_first : (b c : Bool) → (b || c) ≡ false → b ≡ false
parts_first true c e = e
parts_first false c e = refl

parts_second : (b c : Bool) → (b || c) ≡ false → c ≡ false
parts_second true c e = absurd (false≢true (sym e))
parts_second false c e = e

eqb_back : (f g : ℕ) → (g == f) ≡ false → (f == g) ≡ false
eqb_back f g h = ne_eqb f g (λ e. false≢true (sym h ∙ eq-eqb g f (sym e)))

distinct_push : (fs : List ℕ) (f : ℕ) → Distinct fs → has fs f ≡ false → Distinct (fs ++ f ∷ [])
distinct_push [] f h i = (refl, tt)
distinct_push (g ∷ gs) f h i = (
  has_append gs (f ∷ []) g ∙ neither (has gs g) (f == g) h.0 (eqb_back f g (parts_first (g == f) (has gs f) i)),
  distinct_push gs f h.1 (parts_second (g == f) (has gs f) i),
)

distinct_with : (o : Option ℕ) (fs : List ℕ) → Distinct fs → Distinct (code.with_function o fs)
distinct_with None fs h = h
distinct_with (Some f) fs h = by (code.is_among fs f) refl
  where
    by : (c : Bool) → code.is_among fs f ≡ c → Distinct (if c then fs else fs ++ f ∷ [])
    by true e = h
    by false e = distinct_push fs f h (sym (among_is fs f) ∙ e)

-- ---- the methods of a name

abbrev pub functions : List (ℕ × ℕ) → List ℕ
functions found = map (λ g. g.1) found

module _ (p : Whole) (w : Assignment) (name : List ℕ) (d : ℕ) where
  abbrev t : Tables
  t = p.tables

  -- the marks from class c on are those of the assignment
  abbrev pub AreMade : ℕ → List Bool → Type 0
  AreMade c ms = (i : ℕ) → i < length ms → unwrap_or (slice_get ms i) false ≡ mark w (p.places.made (c + i))

  one_class : (c : ℕ) (m : Bool) (fs : List ℕ) (x : ℕ) → m ≡ mark w (p.places.made c)
      → has (code.with_made t d name c m fs) x ≡ (has fs x || has (functions (method_of p w d name c)) x)
  one_class c m fs x is =
      subst (λ b. has (code.with_made t d name c m fs) x ≡ (has fs x || has (functions (paired c (if b && line.is_below t.classes c d then line.method t.classes c name else None))) x)) is
      (by (m && line.is_below t.classes c d) (line.method t.classes c name))
    where
      by : (b : Bool) (o : Option ℕ) → has (if b then code.with_function o fs else fs) x ≡ (has fs x || has (functions (paired c (if b then o else None))) x)
      by false o = or_false (has fs x)
      by true None = or_false (has fs x)
      by true (Some f) = with_one f fs x

  next : (c : ℕ) (m : Bool) (ms : List Bool) → AreMade c (m ∷ ms) → AreMade (suc c) ms
  next c m ms h i lt = let e : c + suc i ≡ suc c + i = omega arith in h (suc i) (omega (arith, lt)) ∙ ap (λ j. mark w (p.places.made j)) e

  all_classes : (c : ℕ) (ms : List Bool) (fs : List ℕ) (x : ℕ) → AreMade c ms → has (code.methods_from t d name c ms fs) x ≡ (has fs x || has (functions (methods_from p w d name c (length ms))) x)
  all_classes c [] fs x h = or_false (has fs x)
  all_classes c (m ∷ ms) fs x h =
      let z : c + 0 ≡ c = omega arith in
      let s : c + 1 ≡ suc c = omega arith in
      let now = method_of p w d name c in
      let later = methods_from p w d name (suc c) (length ms) in
      ap (λ k. has (code.methods_from t d name k ms (code.with_made t d name c m fs)) x) s
      ∙ (all_classes (suc c) ms (code.with_made t d name c m fs) x (next c m ms h)
      ∙ (ap (λ b. b || has (functions later) x) (one_class c m fs x (h 0 (omega arith) ∙ ap (λ k. mark w (p.places.made k)) z))
      ∙ (or_assoc (has fs x) (has (functions now) x) (has (functions later) x)
      ∙ ap (λ b. has fs x || b) (sym (ap (λ l. has l x) (map-append (λ g. g.1) now later) ∙ has_append (functions now) (functions later) x)))))

  pub methods_are : (ms : List Bool) → AreMade 0 ms → length ms ≡ length t.classes → (x : ℕ) → has (code.methods t ms d name) x ≡ has (functions (methods p w d name)) x
  methods_are ms h long x = all_classes 0 ms [] x h ∙ ap (λ n. has (functions (methods_from p w d name 0 n)) x) long

  distinct_from : (c : ℕ) (ms : List Bool) (fs : List ℕ) → Distinct fs → Distinct (code.methods_from t d name c ms fs)
  distinct_from c [] fs h = h
  distinct_from c (m ∷ ms) fs h = distinct_from (c + 1) ms (code.with_made t d name c m fs) (by (m && line.is_below t.classes c d))
    where
      by : (b : Bool) → Distinct (if b then code.with_function (line.method t.classes c name) fs else fs)
      by true = distinct_with (line.method t.classes c name) fs h
      by false = h

  pub methods_distinct : (ms : List Bool) → Distinct (code.methods t ms d name)
  methods_distinct ms = distinct_from 0 ms [] tt
