-- One more part of a string.
use Rattle.std.proofs.Common.{◌≡◌, ℕ, suc, ◌+◌, ◌-◌, ◌<◌, true, false, cond, ◌++◌, Ok, refl, ap, ◌∙◌, arith}
use Rattle.rpy_token.specs.declared.fault.TokenFault.{TokenFault}
use Rattle.rpy_token.specs.declared.fault.TokenFault.TheVariants as fault
use Rattle.rpy_token.specs.declared.quoted.Form.{Form}
use Rattle.rpy_token.specs.declared.quoted.Part.{Part}
use Rattle.rpy_token.specs.Bytes.{Bytes}
use Rattle.rpy_token.specs.Fault.{Outcome, ◌>>=◌, Fails}
use Rattle.rpy_token.specs.Quoted.{next_part, bytes_of, closes, body_from}

turn : (form : Form) (size start n at : ℕ) (found bytes : Bytes) → at < n
    → body_from (n - at) form size start found bytes
    ≡ (next_part form size start bytes >>= λ x. cond (closes x.0) (Ok (found, x.1)) (body_from (n - (at + 1)) form size start (found ++ bytes_of x.0) x.1))
turn form size start n at found bytes lt =
    let e : n - at ≡ suc (n - (at + 1)) = omega arith in
    ap (λ k. body_from k form size start found bytes) e

after : (form : Form) (size start n at : ℕ) (found bytes : Bytes) (next : Part) (rest : Bytes) → at < n → next_part form size start bytes ≡ Ok (next, rest)
    → body_from (n - at) form size start found bytes ≡ cond (closes next) (Ok (found, rest)) (body_from (n - (at + 1)) form size start (found ++ bytes_of next) rest)
after form size start n at found bytes next rest lt e = turn form size start n at found bytes lt ∙ rw e refl

pub body_close : (form : Form) (size start n at : ℕ) (found bytes : Bytes) (next : Part) (rest : Bytes) → at < n → next_part form size start bytes ≡ Ok (next, rest) → closes next ≡ true
    → body_from (n - at) form size start found bytes ≡ Ok (found, rest)
body_close form size start n at found bytes next rest lt e c = after form size start n at found bytes next rest lt e ∙ rw c refl

pub body_goes_on : (form : Form) (size start n at : ℕ) (found bytes : Bytes) (next : Part) (rest : Bytes) → at < n → next_part form size start bytes ≡ Ok (next, rest) → closes next ≡ false
    → body_from (n - at) form size start found bytes ≡ body_from (n - (at + 1)) form size start (found ++ bytes_of next) rest
body_goes_on form size start n at found bytes next rest lt e c = after form size start n at found bytes next rest lt e ∙ rw c refl

-- a bind fails as its first part does
pub fails : {A B : Type 0} (e : TokenFault) (o : Outcome A) (f : A → Outcome B) → Fails e o → Fails e (o >>= f)
fails fault.NoMem o f h = tt
fails (fault.BadByte at) o f h = rw h refl
fails (fault.BadIndent at) o f h = rw h refl
fails (fault.OpenString at) o f h = rw h refl
fails (fault.BadNumber at) o f h = rw h refl
fails (fault.Limit kind at) o f h = rw h refl

pub carry : {A : Type 0} (e : TokenFault) (o q : Outcome A) → o ≡ q → Fails e q → Fails e o
carry fault.NoMem o q s h = tt
carry (fault.BadByte at) o q s h = s ∙ h
carry (fault.BadIndent at) o q s h = s ∙ h
carry (fault.OpenString at) o q s h = s ∙ h
carry (fault.BadNumber at) o q s h = s ∙ h
carry (fault.Limit kind at) o q s h = s ∙ h

pub body_fails : (e : TokenFault) (form : Form) (size start n at : ℕ) (found bytes : Bytes) (total : Outcome (Bytes × Bytes))
    → total ≡ body_from (n - at) form size start found bytes → at < n → Fails e (next_part form size start bytes) → Fails e total
body_fails e form size start n at found bytes total so_far lt h =
    carry e total _ (so_far ∙ turn form size start n at found bytes lt) (fails e (next_part form size start bytes) _ h)
