-- What holds of an outcome, step by step.
use Rattle.std.proofs.Common.{◌≡◌, subst, Bool, true, false, cond, Ok, Err, refl}
use Rattle.rpy_token.specs.Fault.{Outcome, ◌>>=◌}

abbrev the_ok : {A : Type 0} → A → Outcome A
the_ok x = Ok x

-- of what was read
abbrev pub OnRead : {A : Type 0} → (A → Type 0) → Outcome A → Type 0
OnRead P (Ok x) = P x
OnRead P (Err e) = Unit {0}

pub on_bind : {A B : Type 0} (P : A → Type 0) (Q : B → Type 0) (o : Outcome A) (f : A → Outcome B) → OnRead P o → ((x : A) → P x → OnRead Q (f x)) → OnRead Q (o >>= f)
on_bind P Q (Ok x) f p q = q x p
on_bind P Q (Err e) f p q = tt

pub on_any : {A : Type 0} (P : A → Type 0) → ((x : A) → P x) → (o : Outcome A) → OnRead P o
on_any P all (Ok x) = all x
on_any P all (Err e) = tt

pub on_if : {A : Type 0} (P : A → Type 0) (b : Bool) (x y : A) → (b ≡ true → P x) → (b ≡ false → P y) → P (cond b x y)
on_if P true x y on_true on_false = on_true refl
on_if P false x y on_true on_false = on_false refl

ok_is : {A : Type 0} (x y : A) → the_ok x ≡ the_ok y → x ≡ y
ok_is x y e = cc

-- what is known of what was read, where something was
pub read_is : {A : Type 0} (P : A → Type 0) (o : Outcome A) (x : A) → OnRead P o → o ≡ Ok x → P x
read_is P (Ok y) x h e = subst P (ok_is y x e) h
read_is P (Err f) x h e = absurd cc

-- of a test
pub on_test : (P : Bool → Type 0) (b : Bool) → (b ≡ true → P true) → (b ≡ false → P false) → P b
on_test P true on_true on_false = on_true refl
on_test P false on_true on_false = on_false refl

pub on_weaker : {A : Type 0} (P Q : A → Type 0) → ((x : A) → P x → Q x) → (o : Outcome A) → OnRead P o → OnRead Q o
on_weaker P Q f (Ok x) h = f x h
on_weaker P Q f (Err e) h = tt
