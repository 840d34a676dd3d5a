-- Pieces that were read after something.
use Rattle.std.proofs.Common.{◌≡◌, ℕ, List, ◌++◌, sym, ap, ◌∙◌, append_assoc}

five : (p a b c d e : List ℕ) → p ++ (a ++ b ++ c ++ d ++ e) ≡ p ++ a ++ b ++ c ++ d ++ e
five p a b c d e =
    sym (append_assoc p (a ++ b ++ c ++ d) e)
    ∙ ap (λ t. t ++ e) (sym (append_assoc p (a ++ b ++ c) d)
    ∙ ap (λ t. t ++ d) (sym (append_assoc p (a ++ b) c)
    ∙ ap (λ t. t ++ c) (sym (append_assoc p a b))))

pub five_after : (p a b c d e old now : List ℕ) → old ≡ (a ++ b ++ c ++ d ++ e) ++ now → p ++ old ≡ (p ++ a ++ b ++ c ++ d ++ e) ++ now
five_after p a b c d e old now is =
    ap (λ t. p ++ t) is ∙ sym (append_assoc p (a ++ b ++ c ++ d ++ e) now) ∙ ap (λ t. t ++ now) (five p a b c d e)
