-- Small sources, read by the grammar.
use Rattle.std.proofs.Common.{◌≡◌, ℕ, [], ◌∷◌, refl, pos}
use Rattle.rpy_token.specs.declared.token.Token.{Token}
use Rattle.rpy_token.specs.declared.token.TokenKind.TheVariants as k
use Rattle.rpy_token.specs.declared.token.Keyword.{Keyword}
use Rattle.rpy_token.specs.declared.token.Keyword.TheVariants as word
use Rattle.rpy_token.specs.declared.token.Sign.{Sign}
use Rattle.rpy_token.specs.declared.token.Sign.TheVariants as sign
use Rattle.rpy_tree.specs.declared.syntax.BinOp.TheVariants as bin
use Rattle.rpy_tree.specs.declared.syntax.Expr.TheVariants as e
use Rattle.rpy_tree.specs.declared.syntax.Member.TheVariants as m
use Rattle.rpy_tree.specs.declared.syntax.Module.{Module}
use Rattle.rpy_parse.specs.Input.{Input}
use Rattle.rpy_parse.specs.Kind.{token}
use Rattle.rpy_parse.specs.Build.{main_name}
use Rattle.rpy_parse.specs.Rule.{parse}
use Rattle.rpy_parse.specs.Shapes.{Whole}
use Rattle.rpy_parse.specs.Rows.{python}
use Rattle.rpy_parse.proofs.Laws.{done}
use Rattle.rpy_parse.proofs.Viable.{fail}

-- a name of one letter, a sign, a word, a token on line 2
abbrev named : ℕ → Token
named x = token (k.Name (x ∷ []))

abbrev sign_ : Sign → Token
sign_ s = token (k.Sign s)

abbrev word_ : Keyword → Token
word_ w = token (k.Word w)

abbrev at_two : Token → Token
at_two t = record t { line = 2 }

-- a = b + (newline) c
sum_of_two : parse python Whole tt (named 97 ∷ sign_ sign.Equal ∷ named 98 ∷ sign_ sign.Plus ∷ at_two (named 99) ∷ token k.Newline ∷ token k.End ∷ [])
    ≡ done (record { members = m.Const 3 (97 ∷ []) (e.Binary 2 bin.Add (e.Name 0 (98 ∷ [])) (e.Name 1 (99 ∷ []))) ∷ []; nodes = 4; lines = 0 ∷ 2 ∷ 0 ∷ 0 ∷ [] }, [])
unfolding parse
sum_of_two = refl

-- a = b * c + d: the product is the sum's part
product_first : parse python Whole tt (named 97 ∷ sign_ sign.Equal ∷ named 98 ∷ sign_ sign.Plus ∷ named 99 ∷ sign_ sign.Star ∷ named 100 ∷ token k.Newline ∷ token k.End ∷ [])
    ≡ done (record { members = m.Const 5 (97 ∷ []) (e.Binary 4 bin.Add (e.Name 0 (98 ∷ [])) (e.Binary 3 bin.Mul (e.Name 1 (99 ∷ [])) (e.Name 2 (100 ∷ [])))) ∷ []; nodes = 6; lines = 0 ∷ 0 ∷ 0 ∷ 0 ∷ 0 ∷ 0 ∷ [] }, [])
unfolding parse
product_first = refl

-- the head of a function without parameters, and a body of one line
abbrev function : Input → Input
function body = word_ word.Def ∷ named 102 ∷ sign_ sign.OpenParen ∷ sign_ sign.CloseParen ∷ sign_ sign.Colon ∷ body

-- break, outside a loop
dead_at_break : parse python Whole tt (function (word_ word.Break ∷ token k.Newline ∷ token k.End ∷ [])) ≡ fail Module 3
unfolding parse
dead_at_break = refl

-- a(b) = 1
dead_at_equals : parse python Whole tt (function (named 97 ∷ sign_ sign.OpenParen ∷ named 98 ∷ sign_ sign.CloseParen ∷ sign_ sign.Equal ∷ token (k.Int (pos 1)) ∷ token k.Newline ∷ token k.End ∷ [])) ≡ fail Module 4
unfolding parse
dead_at_equals = refl

-- (a) += 1
dead_at_plus_equals : parse python Whole tt (function (sign_ sign.OpenParen ∷ named 97 ∷ sign_ sign.CloseParen ∷ sign_ sign.AddAssign ∷ token (k.Int (pos 1)) ∷ token k.Newline ∷ token k.End ∷ [])) ≡ fail Module 4
unfolding parse
dead_at_plus_equals = refl

-- del (a[b])
dead_at_newline : parse python Whole tt (function (word_ word.Del ∷ sign_ sign.OpenParen ∷ named 97 ∷ sign_ sign.OpenBracket ∷ named 98 ∷ sign_ sign.CloseBracket ∷ sign_ sign.CloseParen ∷ token k.Newline ∷ token k.End ∷ [])) ≡ fail Module 2
unfolding parse
dead_at_newline = refl

-- def f(a=b, c):
dead_at_close : parse python Whole tt (word_ word.Def ∷ named 102 ∷ sign_ sign.OpenParen ∷ named 97 ∷ sign_ sign.Equal ∷ named 98 ∷ sign_ sign.Comma ∷ named 99 ∷ sign_ sign.CloseParen ∷ sign_ sign.Colon ∷ []) ≡ fail Module 2
unfolding parse
dead_at_close = refl

-- if __name__ == '__' 'x': the second string is no part of what is left
dead_at_piece : parse python Whole tt (word_ word.If ∷ token (k.Name main_name) ∷ sign_ sign.EqualEqual ∷ token (k.Str (95 ∷ 95 ∷ [])) ∷ token (k.Str (120 ∷ [])) ∷ sign_ sign.Colon ∷ []) ≡ fail Module 2
unfolding parse
dead_at_piece = refl
