-- The grammar: what each rule reads and gives. `x ← ..` reads a part and names what it gives, `part N a` reads the rule N
-- from a, `r <|> q` reads one of two, `given b (..)` only where b is true, and `pure` gives a value.
use Rattle.std.specs.Prelude.{◌≡◌, ℕ, Bool, true, false, not, List, [], ◌∷◌, ◌++◌, length, drop, Some, None, refl, ◌&&◌}
use Rattle.std.proofs.Common.{ap, ◌∙◌, eq-eqb}
use Rattle.rpy_token.specs.declared.token.Token.{Token}
use Rattle.rpy_token.specs.declared.token.TokenKind.TheVariants as k
use Rattle.rpy_token.specs.declared.token.Keyword.{Keyword}
use Rattle.rpy_token.specs.declared.token.Keyword.TheVariants as word
use Rattle.rpy_token.specs.declared.token.Sign.{Sign}
use Rattle.rpy_token.specs.declared.token.Sign.TheVariants as sign
use Rattle.rpy_tree.specs.declared.syntax.UnOp.TheVariants as un
use Rattle.rpy_tree.specs.declared.syntax.BinOp.TheVariants as bin
use Rattle.rpy_tree.specs.declared.syntax.CmpOp.{CmpOp}
use Rattle.rpy_tree.specs.declared.syntax.CmpOp.TheVariants as cmp
use Rattle.rpy_tree.specs.declared.syntax.Expr.{Expr}
use Rattle.rpy_tree.specs.declared.syntax.Target.{Target}
use Rattle.rpy_tree.specs.declared.syntax.Stmt.{Stmt}
use Rattle.rpy_tree.specs.declared.syntax.Module.{Module}
use Rattle.rpy_parse.specs.declared.found.Got.{Got}
use Rattle.rpy_parse.specs.declared.found.Listed.{Listed}
use Rattle.rpy_parse.specs.declared.found.Sliced.{Sliced}
use Rattle.rpy_parse.specs.declared.found.Indexed.{Indexed}
use Rattle.rpy_parse.specs.declared.found.Pairs.{Pairs}
use Rattle.rpy_parse.specs.declared.found.Walking.{Walking}
use Rattle.rpy_parse.specs.declared.found.Walk.{Walk}
use Rattle.rpy_parse.specs.declared.found.Aimed.{Aimed}
use Rattle.rpy_parse.specs.declared.found.Aims.{Aims}
use Rattle.rpy_parse.specs.declared.found.Assigned.{Assigned}
use Rattle.rpy_parse.specs.declared.found.Place.{Place}
use Rattle.rpy_parse.specs.declared.found.Made.{Made}
use Rattle.rpy_parse.specs.declared.found.Body.{Body}
use Rattle.rpy_parse.specs.declared.found.Headed.{Headed}
use Rattle.rpy_parse.specs.declared.found.Arm.{Arm}
use Rattle.rpy_parse.specs.declared.found.Arms.{Arms}
use Rattle.rpy_parse.specs.declared.found.Head.{Head}
use Rattle.rpy_parse.specs.declared.found.Handled.{Handled}
use Rattle.rpy_parse.specs.declared.found.Tried.{Tried}
use Rattle.rpy_parse.specs.declared.found.Params.{Params}
use Rattle.rpy_parse.specs.declared.found.Grown.{Grown}
use Rattle.rpy_parse.specs.declared.found.Members.{Members}
use Rattle.rpy_parse.specs.declared.found.Numbered.{Numbered}
use Rattle.rpy_parse.specs.Build.{Lines, more, op_at, text, value_of, begins_with, is_nil, main_name, main_text, is_main_name, int, string, name, unary, negated, binary, compare, logic, attribute, no_items, call, indexed, index, sliced, sliced_from, slice_open, slice, listed, longer, tuple, empty_tuple, bracketed, list, walking, walk, walk_all, walk_some, no_pairs, more_pairs, dict, goal_of, aimed, aims, more_aims, tuple_of_targets, passed, broken, continued, returned, returned_value, raised, asserted, deleted, printed, goals, assignment, changed, evaluated, no_body, pushed, arm, headed, handled, more_arms, with_lines, chosen, repeated, walked, in_loop, in_finally, outside, tried_of, no_clauses, more_clauses, finished, unbound, bound, bare_head, numbered, no_members, member_pushed, constant_of, import_of, from_of, function_of, class_of, no_params, default_param, plain_param, star_param, module_of}
use Rattle.rpy_parse.specs.Kind.{word_kind, sign_kind, token}
use Rattle.rpy_parse.specs.Shape.{Shape, one, both, either}
use Rattle.rpy_parse.specs.Rule.{Parser, Rule, pure, tok, such, any, part, bind, choice, given, Grammar, parse}
use Rattle.rpy_parse.specs.Shapes.{Part, shape, tables, of_line, of_block, Or, OrRest, And, AndRest, Not, Comparison, ComparisonRest, IsRest, Compared, BitOr, BitOrRest, BitXor, BitXorRest, BitAnd, BitAndRest, Shift, ShiftRest, Sum, SumRest, Term, TermRest, Signed, Primary, Trailers, Attribute, Arguments, Atom, OtherAtom, Strings, Paren, Exprs, ExprsRest, Items, ItemsRest, Item, Subscript, SubscriptRest, SliceEnd, Brackets, BracketsRest, CompRest, CompIn, CompOver, CompEnd, Braces, PairList, PairListRest, Pair, PairRest, Goal, GoalRest, GoalList, GoalListRest, OneGoal, GoalPart, PlaceRest, OtherRest, PlaceSubscript, PlaceSubscriptRest, Simple, PassWord, BreakWord, ContinueWord, Return, ReturnRest, Raise, Assert, AssertRest, StringsAlone, Del, DelOther, DelIndex, DelSubscript, DelSubscriptRest, Print, PrintRest, Prints, Valued, ValuedRest, AssignFirst, Assigns, Assign, Simples, OneSimple, SimplesRest, SimplesMore, Block, Statements, Statement, Compound, If, IfThen, FirstArm, Elifs, ElseBody, Elif, ElifArm, ElifBody, While, WhileBody, For, ForIn, ForBody, Try, TryRest, Finish, Clauses, NextClause, OneClause, Handler, ClauseHead, BracketedClasses, Bound, Bind, Classes, ClassesMore, Dotted, Dots, TryEnd, TryFinally, Whole, MemberList, OneMember, ModuleMember, ClassMember, CommonMember, NoMember, Constant, ImportLine, Names, MoreNames, FromLine, FromNames, Imported, BracketedNames, BracketedMore, DefText, DefParams, DefBody, ParamList, ParamListRest, OneParam, ParamRest, StarParam, CommaMaybe, ClassText, ClassRest, ClassBody, Base, BaseName, ClassBlock, ClassMembers, Main, MainPiece, MainRest, Skipped, SkipLine, SkipBlock}

-- what a rule goes on from
abbrev pub Arg : Part → Type 0
Arg Or = Lines
Arg OrRest = Got
Arg And = Lines
Arg AndRest = Got
Arg Not = Lines
Arg Comparison = Lines
Arg ComparisonRest = Got
Arg IsRest = Got
Arg Compared = CmpOp × Got
Arg BitOr = Lines
Arg BitOrRest = Got
Arg BitXor = Lines
Arg BitXorRest = Got
Arg BitAnd = Lines
Arg BitAndRest = Got
Arg Shift = Lines
Arg ShiftRest = Got
Arg Sum = Lines
Arg SumRest = Got
Arg Term = Lines
Arg TermRest = Got
Arg Signed = Lines
Arg Primary = Lines
Arg Trailers = Got
Arg Attribute = Got
Arg Arguments = Got
Arg Atom = Lines
Arg OtherAtom = Lines
Arg Strings = List ℕ
Arg Paren = Lines × ℕ
Arg Exprs = Lines
Arg ExprsRest = Got
Arg Items = Listed
Arg ItemsRest = Listed
Arg Item = Listed
Arg Subscript = Got
Arg SubscriptRest = Expr × ℕ × Got
Arg SliceEnd = Sliced
Arg Brackets = Lines × ℕ
Arg BracketsRest = Got × ℕ
Arg CompRest = Got × ℕ
Arg CompIn = Expr × ℕ × Aimed
Arg CompOver = Walking
Arg CompEnd = Walk
Arg Braces = Lines × ℕ
Arg PairList = Pairs
Arg PairListRest = Pairs
Arg Pair = Pairs
Arg PairRest = List (Expr × Expr) × ℕ × Got
Arg Goal = Lines
Arg GoalRest = Aimed
Arg GoalList = Aims
Arg GoalListRest = Aims
Arg OneGoal = Aims
Arg GoalPart = Lines
Arg PlaceRest = Got
Arg OtherRest = Got
Arg PlaceSubscript = Got
Arg PlaceSubscriptRest = Expr × ℕ × Got
Arg Simple = Place × Lines
Arg PassWord = Lines
Arg BreakWord = Lines
Arg ContinueWord = Lines
Arg Return = Lines
Arg ReturnRest = Lines × ℕ
Arg Raise = Lines
Arg Assert = Lines
Arg AssertRest = ℕ × Got
Arg StringsAlone = Unit {0}
Arg Del = Lines
Arg DelOther = ℕ × Got
Arg DelIndex = ℕ × Indexed
Arg DelSubscript = ℕ × Got
Arg DelSubscriptRest = ℕ × Expr × ℕ × Got
Arg Print = Lines
Arg PrintRest = Listed
Arg Prints = Listed
Arg Valued = Lines
Arg ValuedRest = Got
Arg AssignFirst = Got
Arg Assigns = Assigned
Arg Assign = Assigned
Arg Simples = Place × Body
Arg OneSimple = Place × Body
Arg SimplesRest = Place × Body
Arg SimplesMore = Place × Body
Arg Block = Place × Lines
Arg Statements = Place × Body
Arg Statement = Place × Body
Arg Compound = Place × Lines
Arg If = Place × Lines
Arg IfThen = Place × ℕ × Got
Arg FirstArm = Place × Headed
Arg Elifs = Place × Arms
Arg ElseBody = Place × Lines
Arg Elif = Place × Arms
Arg ElifArm = Place × Lines
Arg ElifBody = Place × Got
Arg While = Place × Lines
Arg WhileBody = Place × ℕ × Got
Arg For = Place × Lines
Arg ForIn = Place × ℕ × Aimed
Arg ForBody = Place × ℕ × Target × Got
Arg Try = Place × Lines
Arg TryRest = Place × Tried
Arg Finish = Tried × List Stmt
Arg Clauses = Place × Tried
Arg NextClause = Place × Tried
Arg OneClause = Place × Lines
Arg Handler = Place × ℕ × Lines × Head
Arg ClauseHead = Unit {0}
Arg BracketedClasses = Unit {0}
Arg Bound = List (List (List ℕ))
Arg Bind = List (List (List ℕ))
Arg Classes = List (List (List ℕ))
Arg ClassesMore = List (List (List ℕ))
Arg Dotted = Unit {0}
Arg Dots = List (List ℕ)
Arg TryEnd = Place × Tried
Arg TryFinally = Place × Tried × List Stmt
Arg Whole = Unit {0}
Arg MemberList = Members
Arg OneMember = Members
Arg ModuleMember = Lines
Arg ClassMember = Members
Arg CommonMember = Lines
Arg NoMember = Members
Arg Constant = Lines
Arg ImportLine = Lines
Arg Names = Unit {0}
Arg MoreNames = List (List ℕ)
Arg FromLine = Lines
Arg FromNames = Lines × ℕ × List (List ℕ)
Arg Imported = Unit {0}
Arg BracketedNames = List (List ℕ)
Arg BracketedMore = List (List ℕ)
Arg DefText = Lines
Arg DefParams = Numbered × List ℕ
Arg DefBody = ℕ × List ℕ × Params
Arg ParamList = Params
Arg ParamListRest = Params
Arg OneParam = Params
Arg ParamRest = Params × ℕ × List ℕ
Arg StarParam = ℕ × Params
Arg CommaMaybe = Unit {0}
Arg ClassText = Lines
Arg ClassRest = Numbered × List ℕ
Arg ClassBody = Numbered × List ℕ × List (List ℕ)
Arg Base = Unit {0}
Arg BaseName = Unit {0}
Arg ClassBlock = Members
Arg ClassMembers = Members
Arg Main = Unit {0}
Arg MainPiece = List ℕ
Arg MainRest = List ℕ
Arg Skipped = Unit {0}
Arg SkipLine = Unit {0}
Arg SkipBlock = Unit {0}

-- what it gives
abbrev pub Val : Part → Type 0
Val Or = Got
Val OrRest = Got
Val And = Got
Val AndRest = Got
Val Not = Got
Val Comparison = Got
Val ComparisonRest = Got
Val IsRest = Got
Val Compared = Got
Val BitOr = Got
Val BitOrRest = Got
Val BitXor = Got
Val BitXorRest = Got
Val BitAnd = Got
Val BitAndRest = Got
Val Shift = Got
Val ShiftRest = Got
Val Sum = Got
Val SumRest = Got
Val Term = Got
Val TermRest = Got
Val Signed = Got
Val Primary = Got
Val Trailers = Got
Val Attribute = Got
Val Arguments = Got
Val Atom = Got
Val OtherAtom = Got
Val Strings = List ℕ
Val Paren = Got
Val Exprs = Got
Val ExprsRest = Got
Val Items = Listed
Val ItemsRest = Listed
Val Item = Listed
Val Subscript = Got
Val SubscriptRest = Got
Val SliceEnd = Got
Val Brackets = Got
Val BracketsRest = Got
Val CompRest = Got
Val CompIn = Got
Val CompOver = Got
Val CompEnd = Got
Val Braces = Got
Val PairList = Pairs
Val PairListRest = Pairs
Val Pair = Pairs
Val PairRest = Pairs
Val Goal = Aimed
Val GoalRest = Aimed
Val GoalList = Aims
Val GoalListRest = Aims
Val OneGoal = Aims
Val GoalPart = Aimed
Val PlaceRest = Aimed
Val OtherRest = Aimed
Val PlaceSubscript = Aimed
Val PlaceSubscriptRest = Aimed
Val Simple = Made
Val PassWord = Made
Val BreakWord = Made
Val ContinueWord = Made
Val Return = Made
Val ReturnRest = Made
Val Raise = Made
Val Assert = Made
Val AssertRest = Made
Val StringsAlone = Unit {0}
Val Del = Made
Val DelOther = Made
Val DelIndex = Made
Val DelSubscript = Made
Val DelSubscriptRest = Made
Val Print = Made
Val PrintRest = Made
Val Prints = Listed
Val Valued = Made
Val ValuedRest = Made
Val AssignFirst = Made
Val Assigns = Made
Val Assign = Assigned
Val Simples = Body
Val OneSimple = Body
Val SimplesRest = Body
Val SimplesMore = Body
Val Block = Body
Val Statements = Body
Val Statement = Body
Val Compound = Made
Val If = Made
Val IfThen = Made
Val FirstArm = Arms
Val Elifs = Made
Val ElseBody = Body
Val Elif = Arms
Val ElifArm = Arm
Val ElifBody = Arm
Val While = Made
Val WhileBody = Made
Val For = Made
Val ForIn = Made
Val ForBody = Made
Val Try = Made
Val TryRest = Made
Val Finish = Made
Val Clauses = Made
Val NextClause = Tried
Val OneClause = Handled
Val Handler = Handled
Val ClauseHead = Head
Val BracketedClasses = Head
Val Bound = Head
Val Bind = Head
Val Classes = List (List (List ℕ))
Val ClassesMore = List (List (List ℕ))
Val Dotted = List (List ℕ)
Val Dots = List (List ℕ)
Val TryEnd = Made
Val TryFinally = Made
Val Whole = Module
Val MemberList = Members
Val OneMember = Members
Val ModuleMember = Grown
Val ClassMember = Members
Val CommonMember = Grown
Val NoMember = Members
Val Constant = Grown
Val ImportLine = Grown
Val Names = List (List ℕ)
Val MoreNames = List (List ℕ)
Val FromLine = Grown
Val FromNames = Grown
Val Imported = List (List ℕ)
Val BracketedNames = List (List ℕ)
Val BracketedMore = List (List ℕ)
Val DefText = Grown
Val DefParams = Grown
Val DefBody = Grown
Val ParamList = Params
Val ParamListRest = Params
Val OneParam = Params
Val ParamRest = Params
Val StarParam = Params
Val CommaMaybe = Unit {0}
Val ClassText = Grown
Val ClassRest = Grown
Val ClassBody = Grown
Val Base = List (List ℕ)
Val BaseName = List (List ℕ)
Val ClassBlock = Members
Val ClassMembers = Members
Val Main = Unit {0}
Val MainPiece = List ℕ
Val MainRest = Unit {0}
Val Skipped = Unit {0}
Val SkipLine = Unit {0}
Val SkipBlock = Unit {0}

abbrev R : Shape Part → Type 0 → Type 1
R = Rule Arg Val

infixl 10 ◌>>=◌
abbrev ◌>>=◌ : {a b : Shape Part} {A B : Type 0} → R a A → (A → R b B) → R (both a b) B
p >>= f = bind p f

infixl 10 ◌>>◌
abbrev ◌>>◌ : {a b : Shape Part} {A B : Type 0} → R a A → R b B → R (both a b) B
p >> q = bind p (λ _. q)

infixr 9 ◌<|>◌
abbrev ◌<|>◌ : {a b : Shape Part} {A : Type 0} → R a A → R b A → R (either a b) A
p <|> q = choice p q

abbrev sign_of : (x : Sign) → R (one (sign_kind x)) Token
sign_of x = tok (sign_kind x)

abbrev word_of : (x : Keyword) → R (one (word_kind x)) Token
word_of x = tok (word_kind x)

abbrev a_name : R (one 0) Token
a_name = tok 0

abbrev an_int : R (one 1) Token
an_int = tok 1

abbrev a_string : R (one 2) Token
a_string = tok 2

abbrev newline : R (one 75) Token
newline = tok 75

abbrev indent : R (one 76) Token
indent = tok 76

abbrev dedent : R (one 77) Token
dedent = tok 77

abbrev the_end : R (one 78) Token
the_end = tok 78

-- a text begins with itself
pub begins_itself : (r : List ℕ) → begins_with r r ≡ true
begins_itself [] = refl
begins_itself (x ∷ xs) = ap (λ (b : Bool). b && begins_with xs xs) (eq-eqb x x refl) ∙ begins_itself xs

abbrev pub rule : (n : Part) → Arg n → Rule Arg Val (shape n) (Val n)
rule Or n = do
  a ← part And n
  part OrRest a
rule OrRest a = (do word_of word.Or; b ← part And a.lines; part OrRest (logic false a.tree a.line b))
    <|> pure a
rule And n = do
  a ← part Not n
  part AndRest a
rule AndRest a = (do word_of word.And; b ← part Not a.lines; part AndRest (logic true a.tree a.line b))
    <|> pure a
rule Not n = (do t ← word_of word.Not; a ← part Not n; pure (negated t.line a))
    <|> part Comparison n
rule Comparison n = do
  a ← part BitOr n
  part ComparisonRest a
rule ComparisonRest a = (do word_of word.Not; word_of word.In; part Compared (cmp.NotWithin, a))
    <|> (do word_of word.Is; part IsRest a)
    <|> (do op ← ((do sign_of sign.Less; pure cmp.Lt) <|> (do sign_of sign.LessEqual; pure cmp.Le) <|> (do sign_of sign.Greater; pure cmp.Gt) <|> (do sign_of sign.GreaterEqual; pure cmp.Ge) <|> (do sign_of sign.EqualEqual; pure cmp.Eq) <|> (do sign_of sign.NotEqual; pure cmp.Ne) <|> (do word_of word.In; pure cmp.Within)); part Compared (op, a))
    <|> pure a
rule IsRest a = (do word_of word.Not; part Compared (cmp.IsNot, a))
    <|> part Compared (cmp.Is, a)
rule Compared x = do
  b ← part BitOr x.1.lines
  pure (compare x.0 x.1.tree x.1.line b)
rule BitOr n = do
  a ← part BitXor n
  part BitOrRest a
rule BitOrRest a = (do sign_of sign.Bar; b ← part BitXor a.lines; part BitOrRest (binary bin.BitOr a.tree a.line b))
    <|> pure a
rule BitXor n = do
  a ← part BitAnd n
  part BitXorRest a
rule BitXorRest a = (do sign_of sign.Caret; b ← part BitAnd a.lines; part BitXorRest (binary bin.BitXor a.tree a.line b))
    <|> pure a
rule BitAnd n = do
  a ← part Shift n
  part BitAndRest a
rule BitAndRest a = (do sign_of sign.Ampersand; b ← part Shift a.lines; part BitAndRest (binary bin.BitAnd a.tree a.line b))
    <|> pure a
rule Shift n = do
  a ← part Sum n
  part ShiftRest a
rule ShiftRest a = (do op ← ((do sign_of sign.ShiftLeft; pure bin.Shl) <|> (do sign_of sign.ShiftRight; pure bin.Shr)); b ← part Sum a.lines; part ShiftRest (binary op a.tree a.line b))
    <|> pure a
rule Sum n = do
  a ← part Term n
  part SumRest a
rule SumRest a = (do op ← ((do sign_of sign.Plus; pure bin.Add) <|> (do sign_of sign.Minus; pure bin.Sub)); b ← part Term a.lines; part SumRest (binary op a.tree a.line b))
    <|> pure a
rule Term n = do
  a ← part Signed n
  part TermRest a
rule TermRest a = (do op ← ((do sign_of sign.Star; pure bin.Mul) <|> (do sign_of sign.Slash; pure bin.Div) <|> (do sign_of sign.FloorDiv; pure bin.FloorDiv) <|> (do sign_of sign.Percent; pure bin.Mod)); b ← part Signed a.lines; part TermRest (binary op a.tree a.line b))
    <|> pure a
rule Signed n = (do op ← ((do t ← sign_of sign.Minus; pure (op_at un.Neg t.line)) <|> (do t ← sign_of sign.Plus; pure (op_at un.Pos t.line)) <|> (do t ← sign_of sign.Tilde; pure (op_at un.Invert t.line))); a ← part Signed n; pure (unary op.0 op.1 a))
    <|> part Primary n
rule Primary n = do
  a ← part Atom n
  part Trailers a
rule Trailers a = (do sign_of sign.Dot; b ← part Attribute a; part Trailers b)
    <|> (do sign_of sign.OpenParen; b ← part Arguments a; part Trailers b)
    <|> (do sign_of sign.OpenBracket; b ← part Subscript a; part Trailers b)
    <|> pure a
rule Attribute a = do
  x ← a_name
  pure (attribute a (text x))
rule Arguments a = do
  xs ← part Items (no_items a.lines a.line)
  sign_of sign.CloseParen
  pure (call a.tree xs)
rule Atom n = (do t ← a_name; pure (name n t.line (text t)))
    <|> part OtherAtom n
rule OtherAtom n = (do t ← an_int; pure (int n t.line (value_of t)))
    <|> (do t ← a_string; x ← part Strings (text t); pure (string n t.line x))
    <|> (do t ← sign_of sign.OpenParen; part Paren (n, t.line))
    <|> (do t ← sign_of sign.OpenBracket; part Brackets (n, t.line))
    <|> (do t ← sign_of sign.OpenBrace; part Braces (n, t.line))
rule Strings x = (do t ← a_string; part Strings (x ++ text t))
    <|> pure x
rule Paren x = (do sign_of sign.CloseParen; pure (empty_tuple x.0 x.1))
    <|> (do a ← part Exprs x.0; sign_of sign.CloseParen; pure (bracketed a x.1))
rule Exprs n = do
  a ← part Or n
  part ExprsRest a
rule ExprsRest a = (do sign_of sign.Comma; xs ← part Items (listed a a.line); pure (tuple xs))
    <|> pure a
rule Items x = (do y ← part Item x; part ItemsRest y)
    <|> pure x
rule ItemsRest x = (do sign_of sign.Comma; part Items x)
    <|> pure x
rule Item x = do
  a ← part Or x.lines
  pure (longer x.trees x.line x.goal a)
rule Subscript a = (do sign_of sign.Colon; part SliceEnd (sliced a.tree a.lines a.line))
    <|> (do i ← part Or a.lines; part SubscriptRest (a.tree, a.line, i))
rule SubscriptRest x = (do sign_of sign.CloseBracket; pure (index (indexed x.0 x.1 x.2)))
    <|> (do sign_of sign.Colon; part SliceEnd (sliced_from x.0 x.1 x.2))
rule SliceEnd x = (do sign_of sign.CloseBracket; pure (slice_open x))
    <|> (do b ← part Or x.lines; sign_of sign.CloseBracket; pure (slice x.of x.from x.line b))
rule Brackets x = (do sign_of sign.CloseBracket; pure (list (no_items x.0 x.1)))
    <|> (do a ← part Or x.0; part BracketsRest (a, x.1))
rule BracketsRest x = (do word_of word.For; part CompRest x)
    <|> (do xs ← part ItemsRest (listed x.0 x.1); sign_of sign.CloseBracket; pure (list xs))
rule CompRest x = do
  g ← part Goal x.0.lines
  part CompIn (x.0.tree, x.1, g)
rule CompIn x = do
  word_of word.In
  part CompOver (walking x.0 x.1 x.2)
rule CompOver x = do
  b ← part Or x.lines
  part CompEnd (walk x.item x.target x.line b)
rule CompEnd x = (do sign_of sign.CloseBracket; pure (walk_all x))
    <|> (do word_of word.If; c ← part Or x.lines; sign_of sign.CloseBracket; pure (walk_some x.item x.target x.subject x.line c))
rule Braces x = do
  ps ← part PairList (no_pairs x.0 x.1)
  sign_of sign.CloseBrace
  pure (dict ps)
rule PairList x = (do y ← part Pair x; part PairListRest y)
    <|> pure x
rule PairListRest x = (do sign_of sign.Comma; part PairList x)
    <|> pure x
rule Pair x = do
  k ← part Or x.lines
  part PairRest (x.pairs, x.line, k)
rule PairRest x = do
  sign_of sign.Colon
  v ← part Or x.2.lines
  pure (more_pairs x.0 x.1 x.2.tree v)
rule Goal n = do
  a ← part GoalPart n
  part GoalRest a
rule GoalRest a = (do sign_of sign.Comma; xs ← part GoalList (aims a); pure (tuple_of_targets xs))
    <|> pure a
rule GoalList x = (do y ← part OneGoal x; part GoalListRest y)
    <|> pure x
rule GoalListRest x = (do sign_of sign.Comma; part GoalList x)
    <|> pure x
rule OneGoal x = do
  a ← part GoalPart x.lines
  pure (more_aims x.targets x.line a)
rule GoalPart n = (do t ← a_name; part PlaceRest (name n t.line (text t)))
    <|> (do a ← part OtherAtom n; part OtherRest a)
rule PlaceRest a = (do sign_of sign.Dot; b ← part Attribute a; part PlaceRest b)
    <|> (do sign_of sign.OpenParen; b ← part Arguments a; part OtherRest b)
    <|> (do sign_of sign.OpenBracket; part PlaceSubscript a)
    <|> pure (aimed a)
rule OtherRest a = (do sign_of sign.Dot; b ← part Attribute a; part PlaceRest b)
    <|> (do sign_of sign.OpenParen; b ← part Arguments a; part OtherRest b)
    <|> (do sign_of sign.OpenBracket; part PlaceSubscript a)
    <|> given a.goal (pure (aimed a))
rule PlaceSubscript a = (do sign_of sign.Colon; b ← part SliceEnd (sliced a.tree a.lines a.line); part OtherRest b)
    <|> (do i ← part Or a.lines; part PlaceSubscriptRest (a.tree, a.line, i))
rule PlaceSubscriptRest x = (do sign_of sign.CloseBracket; part PlaceRest (index (indexed x.0 x.1 x.2)))
    <|> (do sign_of sign.Colon; b ← part SliceEnd (sliced_from x.0 x.1 x.2); part OtherRest b)
rule Simple x = part PassWord x.1
    <|> given x.0.looped (part BreakWord x.1)
    <|> given x.0.looped (part ContinueWord x.1)
    <|> given (not x.0.last) (part Return x.1)
    <|> part Raise x.1
    <|> part Assert x.1
    <|> part Del x.1
    <|> part Print x.1
    <|> part Valued x.1
rule PassWord n = do
  t ← word_of word.Pass
  pure (passed n t.line)
rule BreakWord n = do
  t ← word_of word.Break
  pure (broken n t.line)
rule ContinueWord n = do
  t ← word_of word.Continue
  pure (continued n t.line)
rule Return n = do
  t ← word_of word.Return
  part ReturnRest (n, t.line)
rule ReturnRest x = (do a ← part Exprs x.0; pure (returned_value x.1 a))
    <|> pure (returned x.0 x.1)
rule Raise n = do
  t ← word_of word.Raise
  a ← part Or n
  pure (raised t.line a)
rule Assert n = do
  t ← word_of word.Assert
  a ← part Or n
  part AssertRest (t.line, a)
rule AssertRest x = (do sign_of sign.Comma; part StringsAlone tt; pure (asserted x.0 x.1))
    <|> pure (asserted x.0 x.1)
rule StringsAlone x = do
  a_string
  part Strings []
  pure tt
rule Del n = do
  t ← word_of word.Del
  a ← part Atom n
  part DelOther (t.line, a)
rule DelOther x = (do sign_of sign.Dot; b ← part Attribute x.1; part DelOther (x.0, b))
    <|> (do sign_of sign.OpenParen; b ← part Arguments x.1; part DelOther (x.0, b))
    <|> (do sign_of sign.OpenBracket; part DelSubscript x)
rule DelIndex x = (do sign_of sign.Dot; b ← part Attribute (index x.1); part DelOther (x.0, b))
    <|> (do sign_of sign.OpenParen; b ← part Arguments (index x.1); part DelOther (x.0, b))
    <|> (do sign_of sign.OpenBracket; part DelSubscript (x.0, index x.1))
    <|> pure (deleted x.0 x.1)
rule DelSubscript x = (do sign_of sign.Colon; b ← part SliceEnd (sliced x.1.tree x.1.lines x.1.line); part DelOther (x.0, b))
    <|> (do i ← part Or x.1.lines; part DelSubscriptRest (x.0, x.1.tree, x.1.line, i))
rule DelSubscriptRest x = (do sign_of sign.CloseBracket; part DelIndex (x.0, indexed x.1 x.2 x.3))
    <|> (do sign_of sign.Colon; b ← part SliceEnd (sliced_from x.1 x.2 x.3); part DelOther (x.0, b))
rule Print n = do
  t ← word_of word.Print
  part PrintRest (no_items n t.line)
rule PrintRest x = (do y ← part Item x; zs ← part Prints y; pure (printed zs))
    <|> pure (printed x)
rule Prints x = (do sign_of sign.Comma; y ← part Item x; part Prints y)
    <|> pure x
rule Valued n = do
  a ← part Exprs n
  part ValuedRest a
rule ValuedRest a = given a.goal (part AssignFirst a)
    <|> given a.place (do op ← ((do sign_of sign.AddAssign; pure bin.Add) <|> (do sign_of sign.SubAssign; pure bin.Sub) <|> (do sign_of sign.MulAssign; pure bin.Mul) <|> (do sign_of sign.DivAssign; pure bin.Div) <|> (do sign_of sign.FloorDivAssign; pure bin.FloorDiv) <|> (do sign_of sign.ModAssign; pure bin.Mod) <|> (do sign_of sign.ShlAssign; pure bin.Shl) <|> (do sign_of sign.ShrAssign; pure bin.Shr) <|> (do sign_of sign.AndAssign; pure bin.BitAnd) <|> (do sign_of sign.OrAssign; pure bin.BitOr) <|> (do sign_of sign.XorAssign; pure bin.BitXor)); b ← part Exprs a.lines; pure (changed (goal_of a.tree) a.line op b))
    <|> pure (evaluated a)
rule AssignFirst a = do
  sign_of sign.Equal
  b ← part Exprs a.lines
  part Assigns (goals (goal_of a.tree ∷ []) a.line b)
rule Assigns x = given x.value.goal (do y ← part Assign x; part Assigns y)
    <|> pure (assignment x)
rule Assign x = do
  sign_of sign.Equal
  b ← part Exprs x.value.lines
  pure (goals (x.targets ++ goal_of x.value.tree ∷ []) x.line b)
rule Simples x = do
  b ← part OneSimple x
  part SimplesRest (x.0, b)
rule OneSimple x = do
  a ← part Simple (x.0, x.1.lines)
  pure (pushed x.1.stmts a)
rule SimplesRest x = (do sign_of sign.Semicolon; part SimplesMore x)
    <|> (do newline; pure x.1)
rule SimplesMore x = (do newline; pure x.1)
    <|> part Simples x
rule Block x = (do newline; indent; b ← part Statement (x.0, no_body x.1); part Statements (x.0, b))
    <|> part Simples (x.0, no_body x.1)
rule Statements x = (do dedent; pure x.1)
    <|> (do b ← part Statement x; part Statements (x.0, b))
rule Statement x = (do m ← part Compound (x.0, x.1.lines); pure (pushed x.1.stmts m))
    <|> part Simples x
rule Compound x = part If x
    <|> part While x
    <|> part For x
    <|> part Try x
rule If x = do
  t ← word_of word.If
  c ← part Or x.1
  part IfThen (x.0, t.line, c)
rule IfThen x = do
  sign_of sign.Colon
  e ← part FirstArm (x.0, headed x.2 x.1)
  part Elifs (x.0, e)
rule FirstArm x = do
  b ← part Block (x.0, x.1.lines)
  pure (more_arms x.1.node [] (arm x.1.tree b))
rule Elifs x = (do word_of word.Elif; y ← part Elif x; part Elifs (x.0, y))
    <|> (do word_of word.Else; b ← part ElseBody (x.0, x.1.lines); pure (chosen (with_lines x.1.node x.1.arms b.lines) b.stmts))
    <|> pure (chosen x.1 [])
rule ElseBody x = do
  sign_of sign.Colon
  part Block x
rule Elif x = do
  a ← part ElifArm (x.0, x.1.lines)
  pure (more_arms x.1.node x.1.arms a)
rule ElifArm x = do
  c ← part Or x.1
  part ElifBody (x.0, c)
rule ElifBody x = do
  sign_of sign.Colon
  b ← part Block (x.0, x.1.lines)
  pure (arm x.1.tree b)
rule While x = do
  t ← word_of word.While
  c ← part Or x.1
  part WhileBody (x.0, t.line, c)
rule WhileBody x = do
  sign_of sign.Colon
  b ← part Block (in_loop x.0, more x.2.lines x.1)
  pure (repeated (length x.2.lines) x.2.tree b)
rule For x = do
  t ← word_of word.For
  g ← part Goal x.1
  part ForIn (x.0, t.line, g)
rule ForIn x = do
  word_of word.In
  c ← part Or x.2.lines
  part ForBody (x.0, x.1, x.2.target, c)
rule ForBody x = do
  sign_of sign.Colon
  b ← part Block (in_loop x.0, more x.3.lines x.1)
  pure (walked (length x.3.lines) x.2 x.3.tree b)
rule Try x = do
  t ← word_of word.Try
  sign_of sign.Colon
  b ← part Block (x.0, more x.1 t.line)
  part TryRest (x.0, no_clauses (length x.1) b)
rule TryRest x = (do y ← part NextClause x; part Clauses (x.0, y))
    <|> given (not x.0.last) (do word_of word.Finally; part Finish (x.1, []))
rule Finish x = do
  b ← part ElseBody (in_finally, x.0.lines)
  pure (finished (tried_of x.0.node x.0.body x.0.clauses x.0.bare b.lines) x.1 (Some b.stmts))
rule Clauses x = given (not x.1.bare) (do y ← part NextClause x; part Clauses (x.0, y))
    <|> part TryEnd x
rule NextClause x = do
  c ← part OneClause (x.0, x.1.lines)
  pure (more_clauses x.1.node x.1.body x.1.clauses c)
rule OneClause x = do
  t ← word_of word.Except
  h ← part ClauseHead tt
  part Handler (x.0, t.line, x.1, h)
rule Handler x = do
  sign_of sign.Colon
  b ← part Block (x.0, more x.2 x.1)
  pure (handled (length x.2) x.3 b)
rule ClauseHead x = part BracketedClasses tt
    <|> (do c ← part Dotted tt; part Bound (c ∷ []))
    <|> pure bare_head
rule BracketedClasses x = do
  sign_of sign.OpenParen
  c ← part Dotted tt
  cs ← part Classes (c ∷ [])
  sign_of sign.CloseParen
  part Bound cs
rule Bound x = (do sign_of sign.Comma; part Bind x)
    <|> (do word_of word.As; part Bind x)
    <|> pure (unbound x)
rule Bind x = do
  t ← a_name
  pure (bound x (text t))
rule Classes x = (do sign_of sign.Comma; part ClassesMore x)
    <|> pure x
rule ClassesMore x = (do c ← part Dotted tt; part Classes (x ++ c ∷ []))
    <|> pure x
rule Dotted x = do
  t ← a_name
  part Dots (text t ∷ [])
rule Dots x = (do sign_of sign.Dot; t ← a_name; part Dots (x ++ text t ∷ []))
    <|> pure x
rule TryEnd x = (do word_of word.Else; b ← part ElseBody (x.0, x.1.lines); part TryFinally (x.0, tried_of x.1.node x.1.body x.1.clauses x.1.bare b.lines, b.stmts))
    <|> part TryFinally (x.0, x.1, [])
rule TryFinally x = given (not x.0.last) (do word_of word.Finally; part Finish (x.1, x.2))
    <|> pure (finished x.1 x.2 None)
rule Whole x = do
  y ← part MemberList (no_members [])
  pure (module_of y)
rule MemberList x = (do the_end; pure x)
    <|> (do y ← part OneMember x; part MemberList y)
rule OneMember x = (do g ← part ModuleMember x.lines; pure (member_pushed x.members g))
    <|> (do part Main tt; pure x)
    <|> part NoMember x
rule ModuleMember n = part ImportLine n
    <|> part FromLine n
    <|> part ClassText n
    <|> part CommonMember n
rule ClassMember x = (do g ← part CommonMember x.lines; pure (member_pushed x.members g))
    <|> part NoMember x
rule CommonMember n = part DefText n
    <|> part Constant n
rule NoMember x = (do word_of word.Pass; newline; pure x)
    <|> (do part StringsAlone tt; newline; pure x)
rule Constant n = do
  t ← a_name
  sign_of sign.Equal
  a ← part Or n
  newline
  pure (constant_of t.line (text t) a)
rule ImportLine n = do
  t ← word_of word.Import
  ns ← part Names tt
  newline
  pure (import_of n t.line ns)
rule Names x = do
  t ← a_name
  part MoreNames (text t ∷ [])
rule MoreNames x = (do sign_of sign.Comma; t ← a_name; part MoreNames (x ++ text t ∷ []))
    <|> pure x
rule FromLine n = do
  t ← word_of word.From
  p ← part Dotted tt
  part FromNames (n, t.line, p)
rule FromNames x = do
  word_of word.Import
  ns ← part Imported tt
  newline
  pure (from_of x.0 x.1 x.2 ns)
rule Imported x = (do sign_of sign.OpenParen; t ← a_name; ns ← part BracketedNames (text t ∷ []); sign_of sign.CloseParen; pure ns)
    <|> part Names tt
rule BracketedNames x = (do sign_of sign.Comma; part BracketedMore x)
    <|> pure x
rule BracketedMore x = (do t ← a_name; part BracketedNames (x ++ text t ∷ []))
    <|> pure x
rule DefText n = do
  t ← word_of word.Def
  a ← a_name
  part DefParams (numbered n t.line, text a)
rule DefParams x = do
  sign_of sign.OpenParen
  ps ← part ParamList (no_params x.0.lines)
  part DefBody (x.0.node, x.1, ps)
rule DefBody x = do
  sign_of sign.CloseParen
  sign_of sign.Colon
  b ← part Block (outside, x.2.lines)
  pure (function_of x.0 x.1 x.2 b)
rule ParamList x = (do y ← part OneParam x; part ParamListRest y)
    <|> (do t ← sign_of sign.Star; part StarParam (t.line, x))
    <|> pure x
rule ParamListRest x = (do sign_of sign.Comma; part ParamList x)
    <|> pure x
rule OneParam x = do
  t ← a_name
  part ParamRest (x, t.line, text t)
rule ParamRest x = (do sign_of sign.Equal; a ← part Or (more x.0.lines x.1); pure (default_param x.0.params x.0.star (length x.0.lines) x.2 a))
    <|> given (not x.0.defaults) (pure (plain_param x.0.params x.0.star (numbered x.0.lines x.1) x.2))
rule StarParam x = do
  t ← a_name
  part CommaMaybe tt
  pure (star_param x.1 x.0 (text t))
rule CommaMaybe x = (do sign_of sign.Comma; pure tt)
    <|> pure tt
rule ClassText n = do
  t ← word_of word.Class
  a ← a_name
  part ClassRest (numbered n t.line, text a)
rule ClassRest x = do
  b ← part Base tt
  part ClassBody (x.0, x.1, b)
rule ClassBody x = do
  sign_of sign.Colon
  own ← part ClassBlock (no_members x.0.lines)
  pure (class_of x.0.node x.1 x.2 own)
rule Base x = (do sign_of sign.OpenParen; b ← part BaseName tt; sign_of sign.CloseParen; pure b)
    <|> pure []
rule BaseName x = part Dotted tt
    <|> pure []
rule ClassBlock x = (do word_of word.Pass; newline; pure x)
    <|> (do newline; indent; y ← part ClassMember x; part ClassMembers y)
rule ClassMembers x = (do dedent; pure x)
    <|> (do y ← part ClassMember x; part ClassMembers y)
rule Main x = do
  word_of word.If
  such 0 is_main_name (token (k.Name main_name)) refl
  sign_of sign.EqualEqual
  r ← part MainPiece main_text
  part MainRest r
  sign_of sign.Colon
  part Skipped tt
  pure tt
rule MainPiece r = do
  t ← such 2 (λ t. begins_with (text t) r) (token (k.Str r)) (begins_itself r)
  pure (drop (length (text t)) r)
rule MainRest r = (do q ← part MainPiece r; part MainRest q)
    <|> given (is_nil r) (pure tt)
rule Skipped x = (do newline; indent; part SkipBlock tt)
    <|> (do any of_line (token k.Indent) refl; part SkipLine tt)
rule SkipLine x = (do newline; pure tt)
    <|> (do any of_line (token k.Indent) refl; part SkipLine tt)
rule SkipBlock x = (do dedent; pure tt)
    <|> (do indent; part SkipBlock tt; part SkipBlock tt)
    <|> (do any of_block (token k.Newline) refl; part SkipBlock tt)

abbrev pub python : Grammar Part
python = record { Arg = Arg; Val = Val; shape = shape; rule = rule; tables = tables }

-- the reader of a rule
unfoldable pub reading : (n : Part) → Arg n → Parser (Val n)
reading n c i = parse python n c i
