-- What the grammar's reader answers is the one module, or the dead token.
use Rattle.std.proofs.Common.{◌≡◌, ℕ, suc, ◌<◌, ◌+◌, [], ◌∷◌, ◌++◌, length, take, refl, sym, ap, ◌∙◌, subst, arith, append_assoc, length-append, inl}
use Rattle.std.proofs.lemmas.List.{append-nil}
use Rattle.std.proofs.Math.Seq.{take-append_seam, take-append-add}
use Rattle.rpy_token.specs.declared.token.Token.{Token}
use Rattle.rpy_tree.specs.declared.syntax.Module.{Module}
use Rattle.rpy_parse.specs.Input.{Input}
use Rattle.rpy_parse.specs.Rule.{parse}
use Rattle.rpy_parse.specs.Shapes.{Whole}
use Rattle.rpy_parse.specs.Rows.{python}
use Rattle.rpy_parse.specs.Modules.{IsModule, IsDead}
use Rattle.rpy_parse.proofs.Laws.{done, parts}
use Rattle.rpy_parse.proofs.Viable.{fail, lang_front, cut}
use Rattle.rpy_parse.proofs.Depth.{parse_sound, parse_reads, parse_completes}
use Rattle.rpy_parse.proofs.Dead.{parse_dead, parse_kept}
use Rattle.rpy_parse.proofs.Whole.{good}

pub module_sound : (ts : Input) (m : Module) → parse python Whole tt ts ≡ done (m, []) → IsModule ts m
module_sound ts m h = parse_sound python good Whole tt ts m [] h

pub module_reads : (ts : Input) (m : Module) → IsModule ts m → parse python Whole tt ts ≡ done (m, [])
module_reads ts m d = parse_reads python good Whole tt ts m [] d (inl refl)

same_value : (m n : Module) → done (m, []) ≡ done (n, []) → m ≡ n
same_value m n e = (parts m n [] [] e).0

-- a token list has at most one module
pub one_module : (ts : Input) (m n : Module) → IsModule ts m → IsModule ts n → m ≡ n
one_module ts m n d e = same_value m n (sym (module_reads ts m d) ∙ module_reads ts n e)

taken : (s : Input) (t : Token) (x c : Input) → take (suc (length s)) (s ++ t ∷ x) ++ c ≡ s ++ t ∷ c
taken s t x c =
    ap (λ (n : ℕ). take n (s ++ t ∷ x) ++ c) (let e : suc (length s) ≡ length s + 1 = omega arith in e)
    ∙ ap (λ (w : Input). w ++ c) (take-append-add s (t ∷ x) 1)
    ∙ append_assoc s (t ∷ []) c

no_end : (s : Input) (t : Token) (x : Input) → length s ≡ length (s ++ t ∷ x) → ⊥
no_end s t x e = omega (arith, e, length-append s (t ∷ x))

ended : (A : Type 0) (a : A) (n : ℕ) → done (a, []) ≡ fail A n → ⊥
ended A a n e = cc

-- where the reader fails
dead_none : (s x c : Input) (m : Module) → parse python Whole tt (s ++ x) ≡ fail Module (length x) → length s < length (s ++ x) → IsModule (take (suc (length s)) (s ++ x) ++ c) m → ⊥
dead_none s [] c m h lt d = omega (arith, lt, length-append s [])
dead_none s (t ∷ x) c m h lt d = parse_dead python good Whole tt t x s h c m [] (inl refl) (subst (λ (w : Input). IsModule w m) (taken s t x c) d)

dead_short : (s x : Input) (m : Module) → parse python Whole tt (s ++ x) ≡ fail Module (length x) → IsModule (s ++ x) m → ⊥
dead_short s x m h d = ended Module m (length x) (sym (module_reads (s ++ x) m d) ∙ h)

pub module_dead : (s x : Input) → parse python Whole tt (s ++ x) ≡ fail Module (length x) → IsDead (s ++ x) (length s)
module_dead s x h =
    let k = parse_completes python good Whole tt s x h in
    record {
      within = omega (arith, length-append s x);
      before = (
        k.0,
        k.1,
        subst (λ (w : Input). IsModule w k.1) (ap (λ (w : Input). s ++ w) (append-nil k.0) ∙ ap (λ (w : Input). w ++ k.0) (sym (take-append_seam s x))) (k.2 []),
      );
      none = λ lt c m d. dead_none s x c m h lt d;
      short = λ e m d. dead_short s x m h d;
    }

-- where the reader leaves tokens
same_front : (s a b : Input) → s ≡ a ++ b → length b ≡ 0 → a ++ [] ≡ s
same_front s a [] e z = sym e
same_front s a (u ∷ b) e z = absurd (omega (arith, z))

left_before : (s : Input) (t : Token) (x : Input) (m : Module) → parse python Whole tt (s ++ t ∷ x) ≡ done (m, t ∷ x) → IsModule s m
left_before s t x m h =
    let f = lang_front python Whole tt (s ++ t ∷ x) m (t ∷ x) (parse_sound python good Whole tt (s ++ t ∷ x) m (t ∷ x) h) in
    let g = cut s (t ∷ x) f.0 (t ∷ x) f.1 (omega arith) in
    let nil : length g.0 ≡ 0 = omega (arith, ap length g.1, length-append g.0 (t ∷ x)) in
    subst (λ (w : Input). IsModule w m) (same_front s f.0 g.0 g.2 nil) (f.2 [])

no_rest : (m n : Module) (t : Token) (c : Input) → done (m, t ∷ c) ≡ done (n, []) → ⊥
no_rest m n t c e = omega (arith, ap length (parts m n (t ∷ c) [] e).1)

left_none : (s : Input) (t : Token) (x c : Input) (m n : Module) → parse python Whole tt (s ++ t ∷ x) ≡ done (m, t ∷ x) → IsModule (s ++ t ∷ c) n → ⊥
left_none s t x c m n h d = no_rest m n t c (sym (parse_kept python good Whole tt t x c s m h) ∙ module_reads (s ++ t ∷ c) n d)

pub module_left : (s : Input) (t : Token) (x : Input) (m : Module) → parse python Whole tt (s ++ t ∷ x) ≡ done (m, t ∷ x) → IsDead (s ++ t ∷ x) (length s)
module_left s t x m h =
    record {
      within = omega (arith, length-append s (t ∷ x));
      before = ([], m, subst (λ (w : Input). IsModule w m) (sym (append-nil (take (length s) (s ++ t ∷ x)) ∙ take-append_seam s (t ∷ x))) (left_before s t x m h));
      none = λ lt c n d. left_none s t x c m n h (subst (λ (w : Input). IsModule w n) (taken s t x c) d);
      short = λ e n d. absurd (no_end s t x e);
    }
