-- What the reader of modules answers, by the number of tokens that it leaves.
use Rattle.std.proofs.Common.{◌≡◌, ℕ, zero, suc, ◌⊎◌, inl, inr, ◌≤◌, ◌<◌, ◌-◌, ◌++◌, Bool, true, false, [], ◌∷◌, length, take, drop, Result, Ok, Err, refl, sym, ap, ◌∙◌, subst, arith, length-append, length-drop}
use Rattle.std.proofs.lemmas.List.{take-append-drop, append-nil}
use Rattle.rpy_tree.specs.declared.syntax.Module.{Module}
use Rattle.rpy_parse.specs.Input.{Input}
use Rattle.rpy_parse.specs.Rule.{Outcome, parse, room}
use Rattle.rpy_parse.specs.Shapes.{Whole, tables}
use Rattle.rpy_parse.specs.Rows.{python, reading}
use Rattle.rpy_parse.specs.Modules.{IsModule, IsDead}
use Rattle.rpy_parse.proofs.Laws.{done}
use Rattle.rpy_parse.proofs.Viable.{Took, fail, reader_took, lang_front}
use Rattle.rpy_parse.proofs.Depth.{parse_sound}
use Rattle.rpy_parse.proofs.Whole.{good}
use Rattle.rpy_parse.proofs.Exact.{module_sound, module_dead, module_left}

whole_took : (ts : Input) → Took false (length ts) (parse python Whole tt ts)
unfolding parse
whole_took ts = reader_took python good (suc (room tables Whole ts)) Whole tt ts

err_within : (n m : ℕ) (o : Outcome Module) → Took false n o → o ≡ Err m → m ≤ n
err_within n m (Ok x) w e = absurd cc
err_within n m (Err k) w e = let same : k ≡ m = cc in omega (arith, w, same)

front : (ts : Input) (n : ℕ) → n ≤ length ts → length (take (length ts - n) ts) ≡ length ts - n
front ts n le =
    let e = take-append-drop (length ts - n) ts in
    omega (arith, le, ap length e, length-append (take (length ts - n) ts) (drop (length ts - n) ts), length-drop (length ts - n) ts)

back : (ts : Input) (n : ℕ) → n ≤ length ts → length (drop (length ts - n) ts) ≡ n
back ts n le = omega (arith, le, length-drop (length ts - n) ts)

-- the reader fails before the last n tokens
pub whole_within : (ts : Input) (n : ℕ) → reading Whole tt ts ≡ Err n → n ≤ length ts
unfolding reading
whole_within ts n h = err_within (length ts) n (parse python Whole tt ts) (whole_took ts) h

dead_parts : (s x ts : Input) (n m : ℕ) → s ++ x ≡ ts → length x ≡ n → length s ≡ m → parse python Whole tt ts ≡ fail Module n → IsDead ts m
dead_parts s x ts n m e f g h =
    let whole : parse python Whole tt (s ++ x) ≡ fail Module (length x) = subst (λ (w : Input). parse python Whole tt w ≡ fail Module (length x)) (sym e) (subst (λ (k : ℕ). parse python Whole tt ts ≡ fail Module k) (sym f) h) in
    subst (λ (k : ℕ). IsDead ts k) g (subst (λ (w : Input). IsDead w (length s)) e (module_dead s x whole))

pub whole_dead : (ts : Input) (n : ℕ) → reading Whole tt ts ≡ Err n → IsDead ts (length ts - n)
unfolding reading
whole_dead ts n h =
    let le = err_within (length ts) n (parse python Whole tt ts) (whole_took ts) h in
    dead_parts (take (length ts - n) ts) (drop (length ts - n) ts) ts n (length ts - n) (take-append-drop (length ts - n) ts) (back ts n le) (front ts n le) h

-- the reader reads all tokens
nothing : (j : Input) → length j ≡ 0 → j ≡ []
nothing [] e = refl
nothing (t ∷ j) e = absurd (omega (arith, e))

pub whole_all : (ts : Input) (m : Module) (j : Input) → reading Whole tt ts ≡ Ok (m, j) → length j ≡ 0 → IsModule ts m
unfolding reading
whole_all ts m j h e = module_sound ts m (subst (λ (w : Input). parse python Whole tt ts ≡ done (m, w)) (nothing j e) h)

-- the reader leaves tokens
left_parts : (s j ts : Input) (m : Module) → ts ≡ s ++ j → 0 < length j → parse python Whole tt ts ≡ done (m, j) → IsDead ts (length ts - length j)
left_parts s [] ts m e lt h = absurd (omega (arith, lt))
left_parts s (t ∷ x) ts m e lt h =
    let same : length ts - length (t ∷ x) ≡ length s = omega (arith, ap length e, length-append s (t ∷ x)) in
    subst (λ (k : ℕ). IsDead ts k) (sym same) (subst (λ (w : Input). IsDead w (length s)) (sym e) (module_left s t x m (subst (λ (w : Input). parse python Whole tt w ≡ done (m, t ∷ x)) e h)))

pub whole_left : (ts : Input) (m : Module) (j : Input) → reading Whole tt ts ≡ Ok (m, j) → 0 < length j → IsDead ts (length ts - length j)
unfolding reading
whole_left ts m j h lt =
    let f = lang_front python Whole tt ts m j (parse_sound python good Whole tt ts m j h) in
    left_parts f.0 j ts m f.1 lt h

split_le : (i n : ℕ) → i ≤ n → (i < n) ⊎ (i ≡ n)
split_le zero zero le = inr refl
split_le zero (suc n) le = inl (omega arith)
split_le (suc i) zero le = absurd (omega (arith, le))
split_le (suc i) (suc n) le = elim (split_le i n (omega (arith, le))) [
  | inl l ↦ inl (omega (arith, l))
  | inr e ↦ inr (ap suc e)
]

-- tokens of which one is dead are no module
pub none_of_dead : (ts : Input) (m : Module) (i : ℕ) → IsModule ts m → IsDead ts i → ⊥
none_of_dead ts m i d x = elim (split_le i (length ts) x.within) [
  | inl l ↦ x.none l (drop (suc i) ts) m (subst (λ (w : Input). IsModule w m) (sym (take-append-drop (suc i) ts)) d)
  | inr e ↦ x.short e m d
]
