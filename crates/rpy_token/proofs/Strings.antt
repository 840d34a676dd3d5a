-- A string is read in as many parts as it takes, since each has a byte.
use Rattle.std.proofs.Common.{◌≡◌, ℕ, zero, suc, ◌≤◌, cond, [], ◌∷◌, ◌++◌, length, Ok, Err, refl, sym, ap, arith}
use Rattle.rpy_token.specs.declared.fault.TokenFault.TheVariants as fault
use Rattle.rpy_token.specs.declared.quoted.Form.{Form}
use Rattle.rpy_token.specs.Bytes.{Bytes}
use Rattle.rpy_token.specs.Fault.{Outcome, ◌>>=◌}
use Rattle.rpy_token.specs.Quoted.{part_of_line, next_part, closes, bytes_of, body_from, body}
use Rattle.rpy_token.proofs.Outcomes.{OnRead}
use Rattle.rpy_token.proofs.Progress.{Less, part_less}

-- at the end of the source a string is open
none_left : (n : ℕ) (form : Form) (size start : ℕ) (found bytes : Bytes) → length bytes ≤ 0 → body_from n form size start found bytes ≡ Err (fault.OpenString start)
unfolding next_part part_of_line
none_left zero form size start found bytes le = refl
none_left (suc n) form size start found [] le = refl
none_left (suc n) form size start found (b ∷ bs) le = absurd (omega arith)

same_then : {A B : Type 0} (P : A → Type 0) (o : Outcome A) (f g : A → Outcome B) → OnRead P o → ((x : A) → P x → f x ≡ g x) → (o >>= f) ≡ (o >>= g)
same_then P (Ok x) f g h e = e x h
same_then P (Err y) f g h e = refl

body_same : (n m : ℕ) (form : Form) (size start : ℕ) (found bytes : Bytes) → length bytes ≤ n → length bytes ≤ m → body_from n form size start found bytes ≡ body_from m form size start found bytes
body_same zero m form size start found bytes ln lm = sym (none_left m form size start found bytes ln)
body_same (suc n) zero form size start found bytes ln lm = none_left (suc n) form size start found bytes lm
body_same (suc n) (suc m) form size start found bytes ln lm =
    same_then (Less bytes) (next_part form size start bytes)
    (λ x. cond (closes x.0) (Ok (found, x.1)) (body_from n form size start (found ++ bytes_of x.0) x.1))
    (λ x. cond (closes x.0) (Ok (found, x.1)) (body_from m form size start (found ++ bytes_of x.0) x.1))
    (part_less form size start bytes)
    (λ x lt. ap (λ o. cond (closes x.0) (Ok (found, x.1)) o) (body_same n m form size start (found ++ bytes_of x.0) x.1 (omega arith) (omega arith)))

-- more parts than bytes change nothing
pub body_enough : (n : ℕ) (form : Form) (size start : ℕ) (bytes : Bytes) → length bytes ≤ n → body_from n form size start [] bytes ≡ body form size start bytes
unfolding body
body_enough n form size start bytes le = body_same n (length bytes) form size start [] bytes le (omega arith)
