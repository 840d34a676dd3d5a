-- The words that the language knows stand for what the table says.
use Rattle.std.proofs.Common.{◌≡◌, ℕ, codes, ◌+◌, ◌-◌, ◌≤◌, ◌<◌, zero, suc, List, [], ◌∷◌, ◌++◌, Bool, true, false, map, append_assoc, ap, ◌∙◌, refl, arith, cond}
use Rattle.std.specs.Prelude.{not, nat_eq, nat_lt, nat_le}
use Rattle.std.specs.Str.{bytes_eq}
use Rattle.std.proofs.lemmas.Grind.{common_steps}
use Rattle.rpy_nodes.specs.Listing as code
use Rattle.rpy_nodes.specs.Names.{number}
use Rattle.rpy_nodes.specs.declared.listing.Named.{Named}
use Rattle.names_bound.specs.Known as bound
use Rattle.names_bound.specs.declared.stand.Stand.{Stand}
use Rattle.names_bound.specs.declared.stand.Stand.TheVariants as stand
use Rattle.names_rules.specs.Events.{Names, see}
use Rattle.names_rules.specs.Listed.{module_names, names_of}
use Rattle.names_rules.specs.Members.{modules_said}
use Rattle.names_rules.specs.Words.{Table, words, find, known, is_fixed}
use Rattle.names_rules.proofs.Names.{grown}

abbrev pub texts : Table → Names
texts ws = map (λ w. w.0) ws

abbrev at : Table → ℕ → Stand
at [] n = stand.Unknown
at (w ∷ ws) zero = w.1
at (w ∷ ws) (suc n) = at ws n

at_next : (w : List ℕ × Stand) (ws : Table) (n : ℕ) → at (w ∷ ws) (1 + n) ≡ at ws n
at_next w ws n = let e : 1 + n ≡ suc n = omega arith in ap (at (w ∷ ws)) e

at_cond : (b : Bool) (w : List ℕ × Stand) (ws : Table) (n : ℕ) → at (w ∷ ws) (cond (not b) (1 + n) 0) ≡ cond b w.1 (at ws n)
at_cond true w ws n = refl
at_cond false w ws n = at_next w ws n

-- the number of a word is its place, so that it finds the word's line
at_number : (ws : Table) (rest : Names) (name : List ℕ) → at ws (number (texts ws ++ rest) name) ≡ find ws name
at_number [] rest name = refl
at_number (w ∷ ws) rest name = at_cond (bytes_eq name w.0) w ws (number (texts ws ++ rest) name) ∙ ap (cond (bytes_eq name w.0) w.1) (at_number ws rest name)

skip : (b : Bool) (x y : Stand) → b ≡ false → cond b x y ≡ y
skip b x y e = ap (λ t. cond t x y) e

other : (m k : ℕ) → k < m → nat_eq m k ≡ false
other m k h = grind (arith, common_steps)

above : (m k : ℕ) → k ≤ m → nat_lt m k ≡ false
above m k h = grind (arith, common_steps)

no_builtin : (m : ℕ) → 11 ≤ m → bound.builtin_function m ≡ stand.Unknown
no_builtin m h =
    skip (nat_eq m 0) _ _ (other m 0 (omega arith))
    ∙ skip (nat_eq m 1) _ _ (other m 1 (omega arith))
    ∙ skip (nat_eq m 2) _ _ (other m 2 (omega arith))
    ∙ skip (nat_eq m 3) _ _ (other m 3 (omega arith))
    ∙ skip (nat_eq m 4) _ _ (other m 4 (omega arith))
    ∙ skip (nat_eq m 5) _ _ (other m 5 (omega arith))
    ∙ skip (nat_eq m 6) _ _ (other m 6 (omega arith))
    ∙ skip (nat_eq m 7) _ _ (other m 7 (omega arith))
    ∙ skip (nat_eq m 8) _ _ (other m 8 (omega arith))
    ∙ skip (nat_eq m 9) _ _ (other m 9 (omega arith))
    ∙ skip (nat_eq m 10) _ _ (other m 10 (omega arith))

no_word : (n : ℕ) → 37 ≤ n → bound.known n ≡ stand.Unknown
no_word n h = skip (nat_lt n 13) _ _ (above n 13 (omega arith)) ∙ skip (nat_lt n 26) _ _ (above n 26 (omega arith)) ∙ no_builtin (n - 26) (omega arith)

known_at : (n : ℕ) → bound.known n ≡ at words n
known_at zero = refl
known_at (suc zero) = refl
known_at (suc (suc zero)) = refl
known_at (suc (suc (suc zero))) = refl
known_at (suc (suc (suc (suc zero)))) = refl
known_at (suc (suc (suc (suc (suc zero))))) = refl
known_at (suc (suc (suc (suc (suc (suc zero)))))) = refl
known_at (suc (suc (suc (suc (suc (suc (suc zero))))))) = refl
known_at (suc (suc (suc (suc (suc (suc (suc (suc zero)))))))) = refl
known_at (suc (suc (suc (suc (suc (suc (suc (suc (suc zero))))))))) = refl
known_at (suc (suc (suc (suc (suc (suc (suc (suc (suc (suc zero)))))))))) = refl
known_at (suc (suc (suc (suc (suc (suc (suc (suc (suc (suc (suc zero))))))))))) = refl
known_at (suc (suc (suc (suc (suc (suc (suc (suc (suc (suc (suc (suc zero)))))))))))) = refl
known_at (suc (suc (suc (suc (suc (suc (suc (suc (suc (suc (suc (suc (suc zero))))))))))))) = refl
known_at (suc (suc (suc (suc (suc (suc (suc (suc (suc (suc (suc (suc (suc (suc zero)))))))))))))) = refl
known_at (suc (suc (suc (suc (suc (suc (suc (suc (suc (suc (suc (suc (suc (suc (suc zero))))))))))))))) = refl
known_at (suc (suc (suc (suc (suc (suc (suc (suc (suc (suc (suc (suc (suc (suc (suc (suc zero)))))))))))))))) = refl
known_at (suc (suc (suc (suc (suc (suc (suc (suc (suc (suc (suc (suc (suc (suc (suc (suc (suc zero))))))))))))))))) = refl
known_at (suc (suc (suc (suc (suc (suc (suc (suc (suc (suc (suc (suc (suc (suc (suc (suc (suc (suc zero)))))))))))))))))) = refl
known_at (suc (suc (suc (suc (suc (suc (suc (suc (suc (suc (suc (suc (suc (suc (suc (suc (suc (suc (suc zero))))))))))))))))))) = refl
known_at (suc (suc (suc (suc (suc (suc (suc (suc (suc (suc (suc (suc (suc (suc (suc (suc (suc (suc (suc (suc zero)))))))))))))))))))) = refl
known_at (suc (suc (suc (suc (suc (suc (suc (suc (suc (suc (suc (suc (suc (suc (suc (suc (suc (suc (suc (suc (suc zero))))))))))))))))))))) = refl
known_at (suc (suc (suc (suc (suc (suc (suc (suc (suc (suc (suc (suc (suc (suc (suc (suc (suc (suc (suc (suc (suc (suc zero)))))))))))))))))))))) = refl
known_at (suc (suc (suc (suc (suc (suc (suc (suc (suc (suc (suc (suc (suc (suc (suc (suc (suc (suc (suc (suc (suc (suc (suc zero))))))))))))))))))))))) = refl
known_at (suc (suc (suc (suc (suc (suc (suc (suc (suc (suc (suc (suc (suc (suc (suc (suc (suc (suc (suc (suc (suc (suc (suc (suc zero)))))))))))))))))))))))) = refl
known_at (suc (suc (suc (suc (suc (suc (suc (suc (suc (suc (suc (suc (suc (suc (suc (suc (suc (suc (suc (suc (suc (suc (suc (suc (suc zero))))))))))))))))))))))))) = refl
known_at (suc (suc (suc (suc (suc (suc (suc (suc (suc (suc (suc (suc (suc (suc (suc (suc (suc (suc (suc (suc (suc (suc (suc (suc (suc (suc zero)))))))))))))))))))))))))) = refl
known_at (suc (suc (suc (suc (suc (suc (suc (suc (suc (suc (suc (suc (suc (suc (suc (suc (suc (suc (suc (suc (suc (suc (suc (suc (suc (suc (suc zero))))))))))))))))))))))))))) = refl
known_at (suc (suc (suc (suc (suc (suc (suc (suc (suc (suc (suc (suc (suc (suc (suc (suc (suc (suc (suc (suc (suc (suc (suc (suc (suc (suc (suc (suc zero)))))))))))))))))))))))))))) = refl
known_at (suc (suc (suc (suc (suc (suc (suc (suc (suc (suc (suc (suc (suc (suc (suc (suc (suc (suc (suc (suc (suc (suc (suc (suc (suc (suc (suc (suc (suc zero))))))))))))))))))))))))))))) = refl
known_at (suc (suc (suc (suc (suc (suc (suc (suc (suc (suc (suc (suc (suc (suc (suc (suc (suc (suc (suc (suc (suc (suc (suc (suc (suc (suc (suc (suc (suc (suc zero)))))))))))))))))))))))))))))) = refl
known_at (suc (suc (suc (suc (suc (suc (suc (suc (suc (suc (suc (suc (suc (suc (suc (suc (suc (suc (suc (suc (suc (suc (suc (suc (suc (suc (suc (suc (suc (suc (suc zero))))))))))))))))))))))))))))))) = refl
known_at (suc (suc (suc (suc (suc (suc (suc (suc (suc (suc (suc (suc (suc (suc (suc (suc (suc (suc (suc (suc (suc (suc (suc (suc (suc (suc (suc (suc (suc (suc (suc (suc zero)))))))))))))))))))))))))))))))) = refl
known_at (suc (suc (suc (suc (suc (suc (suc (suc (suc (suc (suc (suc (suc (suc (suc (suc (suc (suc (suc (suc (suc (suc (suc (suc (suc (suc (suc (suc (suc (suc (suc (suc (suc zero))))))))))))))))))))))))))))))))) = refl
known_at (suc (suc (suc (suc (suc (suc (suc (suc (suc (suc (suc (suc (suc (suc (suc (suc (suc (suc (suc (suc (suc (suc (suc (suc (suc (suc (suc (suc (suc (suc (suc (suc (suc (suc zero)))))))))))))))))))))))))))))))))) = refl
known_at (suc (suc (suc (suc (suc (suc (suc (suc (suc (suc (suc (suc (suc (suc (suc (suc (suc (suc (suc (suc (suc (suc (suc (suc (suc (suc (suc (suc (suc (suc (suc (suc (suc (suc (suc zero))))))))))))))))))))))))))))))))))) = refl
known_at (suc (suc (suc (suc (suc (suc (suc (suc (suc (suc (suc (suc (suc (suc (suc (suc (suc (suc (suc (suc (suc (suc (suc (suc (suc (suc (suc (suc (suc (suc (suc (suc (suc (suc (suc (suc zero)))))))))))))))))))))))))))))))))))) = refl
known_at (suc (suc (suc (suc (suc (suc (suc (suc (suc (suc (suc (suc (suc (suc (suc (suc (suc (suc (suc (suc (suc (suc (suc (suc (suc (suc (suc (suc (suc (suc (suc (suc (suc (suc (suc (suc (suc n))))))))))))))))))))))))))))))))))))) = no_word (suc (suc (suc (suc (suc (suc (suc (suc (suc (suc (suc (suc (suc (suc (suc (suc (suc (suc (suc (suc (suc (suc (suc (suc (suc (suc (suc (suc (suc (suc (suc (suc (suc (suc (suc (suc (suc n))))))))))))))))))))))))))))))))))))) (omega arith)

-- the names of methods that make lists, and of the entry point, follow
unfoldable pub others : Names
others = codes "split" ∷ codes "keys" ∷ codes "values" ∷ codes "items" ∷ codes "iterkeys" ∷ codes "itervalues" ∷ codes "iteritems" ∷ codes "entry_point" ∷ []

words_first : code.known ≡ texts words ++ others
unfolding others
words_first = refl

begins : (ms : List Named) (first : (rest : Names) × (see (module_names ms) code.known ≡ code.known ++ rest)) (second : (rest : Names) × (names_of ms ≡ see (module_names ms) code.known ++ rest)) → (rest : Names) × (names_of ms ≡ texts words ++ (others ++ rest))
begins ms (a, first) (b, second) = (a ++ b, second ∙ ap (λ t. t ++ b) first ∙ append_assoc code.known a b ∙ ap (λ t. t ++ (a ++ b)) words_first ∙ append_assoc (texts words) others (a ++ b))

-- the table of a program begins with these and those
pub all_begin : (ms : List Named) → (rest : Names) × (names_of ms ≡ texts words ++ (others ++ rest))
all_begin ms = begins ms (grown (module_names ms) code.known) (grown (modules_said ms) (see (module_names ms) code.known))

words_begin : (ms : List Named) (all : (rest : Names) × (names_of ms ≡ texts words ++ (others ++ rest))) → (rest : Names) × (names_of ms ≡ texts words ++ rest)
words_begin ms (rest, e) = (others ++ rest, e)

pub table_begins : (ms : List Named) → (rest : Names) × (names_of ms ≡ texts words ++ rest)
table_begins ms = words_begin ms (all_begin ms)

known_by : (ms : List Named) (name : List ℕ) (first : (rest : Names) × (names_of ms ≡ texts words ++ rest)) → bound.known (number (names_of ms) name) ≡ known name
known_by ms name (rest, e) = ap (λ t. bound.known (number t name)) e ∙ known_at (number (texts words ++ rest) name) ∙ at_number words rest name

-- what the language knows is found by a name's number as by its text
pub known_is : (ms : List Named) (name : List ℕ) → bound.known (number (names_of ms) name) ≡ known name
known_is ms name = known_by ms name (table_begins ms)

-- ---- the three that may not be bound

past_two : (k : ℕ) → nat_le (1 + (1 + (1 + k))) 2 ≡ false
past_two k = grind (arith, common_steps)

fixed_by : (a b c : Bool) (k : ℕ) → nat_le (cond (not a) (1 + cond (not b) (1 + cond (not c) (1 + k) 0) 0) 0) 2 ≡ cond a true (cond b true c)
fixed_by true b c k = refl
fixed_by false true c k = refl
fixed_by false false true k = refl
fixed_by false false false k = past_two k

fixed_from : (ms : List Named) (name : List ℕ) (first : (rest : Names) × (names_of ms ≡ texts words ++ rest)) → bound.is_fixed (number (names_of ms) name) ≡ is_fixed name
fixed_from ms name (rest, e) = ap (λ t. bound.is_fixed (number t name)) e ∙ fixed_by (bytes_eq name (codes "None")) (bytes_eq name (codes "True")) (bytes_eq name (codes "False")) _

pub fixed_is : (ms : List Named) (name : List ℕ) → bound.is_fixed (number (names_of ms) name) ≡ is_fixed name
fixed_is ms name = fixed_from ms name (table_begins ms)
