-- What is skipped under `if __name__ == '__main__'`.
use Rattle.std.specs.Prelude.{ℕ, Bool, true, false, eqb, ◌&&◌, List, [], ◌∷◌, Option, Some, None}
use Rattle.rpy_token.specs.declared.token.TokenKind.{TokenKind}
use Rattle.rpy_token.specs.declared.token.TokenKind.TheVariants as k

abbrev pub sees_string : Option TokenKind → Bool
sees_string (Some (k.Str x)) = true
sees_string x = false

abbrev pub in_line : Option TokenKind → Bool
in_line None = false
in_line (Some k.Newline) = false
in_line (Some k.End) = false
in_line (Some x) = true

abbrev pub in_block : Option TokenKind → Bool
in_block None = false
in_block (Some k.Indent) = false
in_block (Some k.Dedent) = false
in_block (Some k.End) = false
in_block (Some x) = true

abbrev pub same : List ℕ → List ℕ → Bool
same [] [] = true
same (x ∷ xs) (y ∷ ys) = eqb x y && same xs ys
same xs ys = false
