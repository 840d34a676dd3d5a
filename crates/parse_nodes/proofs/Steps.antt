-- What holds of the values of a grammar's rules, where each rule keeps it: no tokens, and no trees of tokens.
use Rattle.std.proofs.Common.{◌≡◌, ℕ, zero, suc, true, inl, inr, subst}
use Rattle.rpy_token.specs.declared.token.Token.{Token}
use Rattle.rpy_parse.specs.Input.{Input}
use Rattle.rpy_parse.specs.Shape.{Shape}
use Rattle.rpy_parse.specs.Rule.{Rule, pure, tok, such, any, part, bind, choice, given, Derives, Grammar, lang}

module _ {N : Type 0} {Arg Val : N → Type 0} (K : (n : N) → Arg n → Val n → Type 0) where
  -- the values of the rule have the property, where K holds of its parts
  abbrev pub Gives : {s : Shape N} {A : Type 0} → Rule Arg Val s A → (A → Type 0) → Type 0
  Gives (pure a) P = P a
  Gives (tok k) P = (t : Token) → P t
  Gives (such k p x e) P = (t : Token) → P t
  Gives (any m x e) P = (t : Token) → P t
  Gives (part n c) P = (v : Val n) → K n c v → P v
  Gives (bind r f) P = Gives r (λ a. Gives (f a) P)
  Gives (choice r q) P = Gives r P × Gives q P
  Gives (given x r) P = x ≡ true → Gives r P

  -- a property that all values have
  pub anyway : {s : Shape N} {A : Type 0} (r : Rule Arg Val s A) (P : A → Type 0) → ((a : A) → P a) → Gives r P
  anyway (pure a) P h = h a
  anyway (tok k) P h = h
  anyway (such k p x e) P h = h
  anyway (any m x e) P h = h
  anyway (part n c) P h = λ v _. h v
  anyway (bind r f) P h = anyway r (λ a. Gives (f a) P) (λ a. anyway (f a) P h)
  anyway (choice r q) P h = (anyway r P h, anyway q P h)
  anyway (given x r) P h = λ _. anyway r P h

  module _ (R : (n : N) → Arg n → Input → Val n → Input → Type 0)
      (sound : (n : N) (c : Arg n) (i : Input) (v : Val n) (j : Input) → R n c i v j → K n c v) where
    has : {s : Shape N} {A : Type 0} (r : Rule Arg Val s A) (P : A → Type 0) → Gives r P → (i : Input) (a : A) (j : Input) → Derives R r i a j → P a
    has (pure a) P g i b j h = subst P h.0 g
    has (tok k) P g i b j h = g b
    has (such k p x e) P g i b j h = g b
    has (any m x e) P g i b j h = g b
    has (part n c) P g i b j h = g b (sound n c i b j h)
    has (bind r f) P g i b j h = has (f h.0) P (has r (λ a. Gives (f a) P) g i h.0 h.1 h.2) h.1 b j h.3
    has (choice r q) P g i b j (inl h) = has r P g.0 i b j h
    has (choice r q) P g i b j (inr h) = has q P g.1 i b j h
    has (given x r) P g i b j h = has r P (g h.0) i b j h.1

-- the values of all rules
pub kept : {N : Type 0} (G : Grammar N) (K : (n : N) → G.Arg n → G.Val n → Type 0) → ((n : N) (c : G.Arg n) → Gives K (G.rule n c) (K n c))
    → (d : ℕ) (n : N) (c : G.Arg n) (i : Input) (v : G.Val n) (j : Input) → lang G d n c i v j → K n c v
kept G K step zero n c i v j h = absurd h
kept G K step (suc d) n c i v j h = has K (lang G d) (kept G K step d) (G.rule n c) (K n c) (step n c) i v j h
