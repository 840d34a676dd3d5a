-- What is left of `__main__` is one string.
use Rattle.std.proofs.Common.{◌≡◌, ℕ, true, List, [], ◌∷◌, length, drop, refl, ap, inl, inr}
use Rattle.rpy_token.specs.declared.token.TokenKind.TheVariants as k
use Rattle.std.proofs.Math.Seq.{drop-length}
use Rattle.rpy_parse.specs.Build.{is_nil}
use Rattle.rpy_parse.specs.Kind.{token}
use Rattle.rpy_parse.specs.Rule.{Short, Lang}
use Rattle.rpy_parse.specs.Shapes.{Part, MainRest, by_hand}
use Rattle.rpy_parse.specs.Rows.{Arg, python, begins_itself}

main_rest : (r : List ℕ) → Short (Lang python MainRest r)
main_rest r = (
  token (k.Str r) ∷ [],
  tt,
  λ z. (3, inl (drop (length r) r, z, (token (k.Str r), z, (begins_itself r, refl), (refl, refl)), inr (ap is_nil (drop-length r), (refl, refl)))),
)

pub hand : (n : Part) → by_hand n ≡ true → (c : Arg n) → Short (Lang python n c)
hand MainRest e c = main_rest c
hand n e c = absurd cc
