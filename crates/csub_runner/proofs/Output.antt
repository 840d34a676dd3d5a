-- Output that is held and taken.
use Rattle.std.proofs.Common.{◌≡◌, ℕ, List, [], ◌∷◌, ◌++◌, take, drop, zero, suc, refl, sym, ap, ◌∙◌, append_assoc, Some, None, Err}
use Rattle.std.specs.Prelude.{Option, option_map}
use Rattle.std.proofs.lemmas.List.{append-nil}
use Rattle.rpy_base.specs.Putting.{Takes}
use Rattle.rpy_base.specs.declared.sink.PutError.TheVariants.{Failed}
use Rattle.csub_runner.specs.Run.{HasTaken, HasTakenSome, Sends}

take_drop : {X : Type 0} (n : ℕ) (xs : List X) → xs ≡ take n xs ++ drop n xs
take_drop zero xs = refl
take_drop (suc n) [] = refl
take_drop (suc n) (x ∷ xs) = ap (λ ys. x ∷ ys) (take_drop n xs)

pub taken_nothing : (t : Option (List ℕ)) → HasTaken t t []
taken_nothing None = refl
taken_nothing (Some taken) = ap Some (sym (append-nil taken))

pub some_taken : (before after : Option (List ℕ)) (bytes : List ℕ) → Takes before after bytes (Err Failed) → HasTakenSome before after bytes
some_taken None after bytes h = ([], bytes, refl, h)
some_taken (Some taken) after bytes h = (take h.0 bytes, drop h.0 bytes, take_drop h.0 bytes, h.1)

pub taken_more : (before mid after : Option (List ℕ)) (text put : List ℕ) → HasTaken before mid text → HasTaken mid after put → HasTaken before after (text ++ put)
taken_more None mid after text put h k = k ∙ ap (option_map (λ taken. taken ++ put)) h
taken_more (Some t) mid after text put h k = k ∙ ap (option_map (λ taken. taken ++ put)) h ∙ ap Some (append_assoc t text put)

-- nothing was put and nothing taken
pub sends_nothing : (t : Option (List ℕ)) (held : List ℕ) → Sends t t held [] held
sends_nothing t held = ([], append-nil held, taken_nothing t)

pub keeps : (t : Option (List ℕ)) (held put now : List ℕ) → now ≡ held ++ put → Sends t t held put now
keeps t held put now e = ([], sym e, taken_nothing t)

pub sent_all : (before after : Option (List ℕ)) (held put mid now : List ℕ) → mid ≡ held ++ put → now ≡ [] → HasTaken before after mid → Sends before after held put now
sent_all before after held put mid now e f h = (mid, sym e ∙ sym (append-nil mid) ∙ ap (λ xs. mid ++ xs) (sym f), h)

pub some_of : (before after : Option (List ℕ)) (mid bytes : List ℕ) → mid ≡ bytes → HasTakenSome before after mid → HasTakenSome before after bytes
some_of before after mid bytes e h = (h.0, h.1, sym e ∙ h.2, h.3)

pub nothing_of : (t : Option (List ℕ)) (bytes : List ℕ) → HasTakenSome t t bytes
nothing_of t bytes = ([], bytes, refl, taken_nothing t)

-- a first part of a first part
pub some_behind : (before mid after : Option (List ℕ)) (sent held all : List ℕ) → all ≡ sent ++ held → HasTaken before mid sent → HasTakenSome mid after held → HasTakenSome before after all
some_behind before mid after sent held all e h k = (sent ++ k.0, k.1, e ∙ ap (λ xs. sent ++ xs) k.2 ∙ sym (append_assoc sent k.0 k.1), taken_more before mid after sent k.0 h k.3)
