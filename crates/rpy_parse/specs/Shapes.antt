-- The rules' shapes, and what is claimed of them.
use Rattle.std.specs.Prelude.{ℕ, Bool, true, false}
use Rattle.rpy_token.specs.declared.token.Keyword.TheVariants as word
use Rattle.rpy_token.specs.declared.token.Sign.TheVariants as sign
use Rattle.rpy_parse.specs.Kind.{word_kind, sign_kind}
use Rattle.rpy_parse.specs.Shape.{Shape, nothing, one, among, part, both, either, only, bit, Tables}

pub data Part : Type 0 where
  Or : Part
  OrRest : Part
  And : Part
  AndRest : Part
  Not : Part
  Comparison : Part
  ComparisonRest : Part
  IsRest : Part
  Compared : Part
  BitOr : Part
  BitOrRest : Part
  BitXor : Part
  BitXorRest : Part
  BitAnd : Part
  BitAndRest : Part
  Shift : Part
  ShiftRest : Part
  Sum : Part
  SumRest : Part
  Term : Part
  TermRest : Part
  Signed : Part
  Primary : Part
  Trailers : Part
  Attribute : Part
  Arguments : Part
  Atom : Part
  OtherAtom : Part
  Strings : Part
  Paren : Part
  Exprs : Part
  ExprsRest : Part
  Items : Part
  ItemsRest : Part
  Item : Part
  Subscript : Part
  SubscriptRest : Part
  SliceEnd : Part
  Brackets : Part
  BracketsRest : Part
  CompRest : Part
  CompIn : Part
  CompOver : Part
  CompEnd : Part
  Braces : Part
  PairList : Part
  PairListRest : Part
  Pair : Part
  PairRest : Part
  Goal : Part
  GoalRest : Part
  GoalList : Part
  GoalListRest : Part
  OneGoal : Part
  GoalPart : Part
  PlaceRest : Part
  OtherRest : Part
  PlaceSubscript : Part
  PlaceSubscriptRest : Part
  Simple : Part
  PassWord : Part
  BreakWord : Part
  ContinueWord : Part
  Return : Part
  ReturnRest : Part
  Raise : Part
  Assert : Part
  AssertRest : Part
  StringsAlone : Part
  Del : Part
  DelOther : Part
  DelIndex : Part
  DelSubscript : Part
  DelSubscriptRest : Part
  Print : Part
  PrintRest : Part
  Prints : Part
  Valued : Part
  ValuedRest : Part
  AssignFirst : Part
  Assigns : Part
  Assign : Part
  Simples : Part
  OneSimple : Part
  SimplesRest : Part
  SimplesMore : Part
  Block : Part
  Statements : Part
  Statement : Part
  Compound : Part
  If : Part
  IfThen : Part
  FirstArm : Part
  Elifs : Part
  ElseBody : Part
  Elif : Part
  ElifArm : Part
  ElifBody : Part
  While : Part
  WhileBody : Part
  For : Part
  ForIn : Part
  ForBody : Part
  Try : Part
  TryRest : Part
  Finish : Part
  Clauses : Part
  NextClause : Part
  OneClause : Part
  Handler : Part
  ClauseHead : Part
  BracketedClasses : Part
  Bound : Part
  Bind : Part
  Classes : Part
  ClassesMore : Part
  Dotted : Part
  Dots : Part
  TryEnd : Part
  TryFinally : Part
  Whole : Part
  MemberList : Part
  OneMember : Part
  ModuleMember : Part
  ClassMember : Part
  CommonMember : Part
  NoMember : Part
  Constant : Part
  ImportLine : Part
  Names : Part
  MoreNames : Part
  FromLine : Part
  FromNames : Part
  Imported : Part
  BracketedNames : Part
  BracketedMore : Part
  DefText : Part
  DefParams : Part
  DefBody : Part
  ParamList : Part
  ParamListRest : Part
  OneParam : Part
  ParamRest : Part
  StarParam : Part
  CommaMaybe : Part
  ClassText : Part
  ClassRest : Part
  ClassBody : Part
  Base : Part
  BaseName : Part
  ClassBlock : Part
  ClassMembers : Part
  Main : Part
  MainPiece : Part
  MainRest : Part
  Skipped : Part
  SkipLine : Part
  SkipBlock : Part

-- what a skipped line may hold: all but a newline and the end
abbrev pub of_line : ℕ
of_line = 264452523040700131966975

-- what a skipped block may hold besides inner blocks
abbrev pub of_block : ℕ
of_block = 75557863725914323419135

abbrev pub shape : Part → Shape Part
shape Or = both (part And) (part OrRest)
shape OrRest = either (both (one (word_kind word.Or)) (both (part And) (part OrRest))) nothing
shape And = both (part Not) (part AndRest)
shape AndRest = either (both (one (word_kind word.And)) (both (part Not) (part AndRest))) nothing
shape Not = either (both (one (word_kind word.Not)) (both (part Not) nothing)) (part Comparison)
shape Comparison = both (part BitOr) (part ComparisonRest)
shape ComparisonRest = either (both (one (word_kind word.Not)) (both (one (word_kind word.In)) (part Compared))) (either (both (one (word_kind word.Is)) (part IsRest)) (either (both (either (both (one (sign_kind sign.Less)) nothing) (either (both (one (sign_kind sign.LessEqual)) nothing) (either (both (one (sign_kind sign.Greater)) nothing) (either (both (one (sign_kind sign.GreaterEqual)) nothing) (either (both (one (sign_kind sign.EqualEqual)) nothing) (either (both (one (sign_kind sign.NotEqual)) nothing) (both (one (word_kind word.In)) nothing))))))) (part Compared)) nothing))
shape IsRest = either (both (one (word_kind word.Not)) (part Compared)) (part Compared)
shape Compared = both (part BitOr) nothing
shape BitOr = both (part BitXor) (part BitOrRest)
shape BitOrRest = either (both (one (sign_kind sign.Bar)) (both (part BitXor) (part BitOrRest))) nothing
shape BitXor = both (part BitAnd) (part BitXorRest)
shape BitXorRest = either (both (one (sign_kind sign.Caret)) (both (part BitAnd) (part BitXorRest))) nothing
shape BitAnd = both (part Shift) (part BitAndRest)
shape BitAndRest = either (both (one (sign_kind sign.Ampersand)) (both (part Shift) (part BitAndRest))) nothing
shape Shift = both (part Sum) (part ShiftRest)
shape ShiftRest = either (both (either (both (one (sign_kind sign.ShiftLeft)) nothing) (both (one (sign_kind sign.ShiftRight)) nothing)) (both (part Sum) (part ShiftRest))) nothing
shape Sum = both (part Term) (part SumRest)
shape SumRest = either (both (either (both (one (sign_kind sign.Plus)) nothing) (both (one (sign_kind sign.Minus)) nothing)) (both (part Term) (part SumRest))) nothing
shape Term = both (part Signed) (part TermRest)
shape TermRest = either (both (either (both (one (sign_kind sign.Star)) nothing) (either (both (one (sign_kind sign.Slash)) nothing) (either (both (one (sign_kind sign.FloorDiv)) nothing) (both (one (sign_kind sign.Percent)) nothing)))) (both (part Signed) (part TermRest))) nothing
shape Signed = either (both (either (both (one (sign_kind sign.Minus)) nothing) (either (both (one (sign_kind sign.Plus)) nothing) (both (one (sign_kind sign.Tilde)) nothing))) (both (part Signed) nothing)) (part Primary)
shape Primary = both (part Atom) (part Trailers)
shape Trailers = either (both (one (sign_kind sign.Dot)) (both (part Attribute) (part Trailers))) (either (both (one (sign_kind sign.OpenParen)) (both (part Arguments) (part Trailers))) (either (both (one (sign_kind sign.OpenBracket)) (both (part Subscript) (part Trailers))) nothing))
shape Attribute = both (one 0) nothing
shape Arguments = both (part Items) (both (one (sign_kind sign.CloseParen)) nothing)
shape Atom = either (both (one 0) nothing) (part OtherAtom)
shape OtherAtom = either (both (one 1) nothing) (either (both (one 2) (both (part Strings) nothing)) (either (both (one (sign_kind sign.OpenParen)) (part Paren)) (either (both (one (sign_kind sign.OpenBracket)) (part Brackets)) (both (one (sign_kind sign.OpenBrace)) (part Braces)))))
shape Strings = either (both (one 2) (part Strings)) nothing
shape Paren = either (both (one (sign_kind sign.CloseParen)) nothing) (both (part Exprs) (both (one (sign_kind sign.CloseParen)) nothing))
shape Exprs = both (part Or) (part ExprsRest)
shape ExprsRest = either (both (one (sign_kind sign.Comma)) (both (part Items) nothing)) nothing
shape Items = either (both (part Item) (part ItemsRest)) nothing
shape ItemsRest = either (both (one (sign_kind sign.Comma)) (part Items)) nothing
shape Item = both (part Or) nothing
shape Subscript = either (both (one (sign_kind sign.Colon)) (part SliceEnd)) (both (part Or) (part SubscriptRest))
shape SubscriptRest = either (both (one (sign_kind sign.CloseBracket)) nothing) (both (one (sign_kind sign.Colon)) (part SliceEnd))
shape SliceEnd = either (both (one (sign_kind sign.CloseBracket)) nothing) (both (part Or) (both (one (sign_kind sign.CloseBracket)) nothing))
shape Brackets = either (both (one (sign_kind sign.CloseBracket)) nothing) (both (part Or) (part BracketsRest))
shape BracketsRest = either (both (one (word_kind word.For)) (part CompRest)) (both (part ItemsRest) (both (one (sign_kind sign.CloseBracket)) nothing))
shape CompRest = both (part Goal) (part CompIn)
shape CompIn = both (one (word_kind word.In)) (part CompOver)
shape CompOver = both (part Or) (part CompEnd)
shape CompEnd = either (both (one (sign_kind sign.CloseBracket)) nothing) (both (one (word_kind word.If)) (both (part Or) (both (one (sign_kind sign.CloseBracket)) nothing)))
shape Braces = both (part PairList) (both (one (sign_kind sign.CloseBrace)) nothing)
shape PairList = either (both (part Pair) (part PairListRest)) nothing
shape PairListRest = either (both (one (sign_kind sign.Comma)) (part PairList)) nothing
shape Pair = both (part Or) (part PairRest)
shape PairRest = both (one (sign_kind sign.Colon)) (both (part Or) nothing)
shape Goal = both (part GoalPart) (part GoalRest)
shape GoalRest = either (both (one (sign_kind sign.Comma)) (both (part GoalList) nothing)) nothing
shape GoalList = either (both (part OneGoal) (part GoalListRest)) nothing
shape GoalListRest = either (both (one (sign_kind sign.Comma)) (part GoalList)) nothing
shape OneGoal = both (part GoalPart) nothing
shape GoalPart = either (both (one 0) (part PlaceRest)) (both (part OtherAtom) (part OtherRest))
shape PlaceRest = either (both (one (sign_kind sign.Dot)) (both (part Attribute) (part PlaceRest))) (either (both (one (sign_kind sign.OpenParen)) (both (part Arguments) (part OtherRest))) (either (both (one (sign_kind sign.OpenBracket)) (part PlaceSubscript)) nothing))
shape OtherRest = either (both (one (sign_kind sign.Dot)) (both (part Attribute) (part PlaceRest))) (either (both (one (sign_kind sign.OpenParen)) (both (part Arguments) (part OtherRest))) (either (both (one (sign_kind sign.OpenBracket)) (part PlaceSubscript)) (only nothing)))
shape PlaceSubscript = either (both (one (sign_kind sign.Colon)) (both (part SliceEnd) (part OtherRest))) (both (part Or) (part PlaceSubscriptRest))
shape PlaceSubscriptRest = either (both (one (sign_kind sign.CloseBracket)) (part PlaceRest)) (both (one (sign_kind sign.Colon)) (both (part SliceEnd) (part OtherRest)))
shape Simple = either (part PassWord) (either (only (part BreakWord)) (either (only (part ContinueWord)) (either (only (part Return)) (either (part Raise) (either (part Assert) (either (part Del) (either (part Print) (part Valued))))))))
shape PassWord = both (one (word_kind word.Pass)) nothing
shape BreakWord = both (one (word_kind word.Break)) nothing
shape ContinueWord = both (one (word_kind word.Continue)) nothing
shape Return = both (one (word_kind word.Return)) (part ReturnRest)
shape ReturnRest = either (both (part Exprs) nothing) nothing
shape Raise = both (one (word_kind word.Raise)) (both (part Or) nothing)
shape Assert = both (one (word_kind word.Assert)) (both (part Or) (part AssertRest))
shape AssertRest = either (both (one (sign_kind sign.Comma)) (both (part StringsAlone) nothing)) nothing
shape StringsAlone = both (one 2) (both (part Strings) nothing)
shape Del = both (one (word_kind word.Del)) (both (part Atom) (part DelOther))
shape DelOther = either (both (one (sign_kind sign.Dot)) (both (part Attribute) (part DelOther))) (either (both (one (sign_kind sign.OpenParen)) (both (part Arguments) (part DelOther))) (both (one (sign_kind sign.OpenBracket)) (part DelSubscript)))
shape DelIndex = either (both (one (sign_kind sign.Dot)) (both (part Attribute) (part DelOther))) (either (both (one (sign_kind sign.OpenParen)) (both (part Arguments) (part DelOther))) (either (both (one (sign_kind sign.OpenBracket)) (part DelSubscript)) nothing))
shape DelSubscript = either (both (one (sign_kind sign.Colon)) (both (part SliceEnd) (part DelOther))) (both (part Or) (part DelSubscriptRest))
shape DelSubscriptRest = either (both (one (sign_kind sign.CloseBracket)) (part DelIndex)) (both (one (sign_kind sign.Colon)) (both (part SliceEnd) (part DelOther)))
shape Print = both (one (word_kind word.Print)) (part PrintRest)
shape PrintRest = either (both (part Item) (both (part Prints) nothing)) nothing
shape Prints = either (both (one (sign_kind sign.Comma)) (both (part Item) (part Prints))) nothing
shape Valued = both (part Exprs) (part ValuedRest)
shape ValuedRest = either (only (part AssignFirst)) (either (only (both (either (both (one (sign_kind sign.AddAssign)) nothing) (either (both (one (sign_kind sign.SubAssign)) nothing) (either (both (one (sign_kind sign.MulAssign)) nothing) (either (both (one (sign_kind sign.DivAssign)) nothing) (either (both (one (sign_kind sign.FloorDivAssign)) nothing) (either (both (one (sign_kind sign.ModAssign)) nothing) (either (both (one (sign_kind sign.ShlAssign)) nothing) (either (both (one (sign_kind sign.ShrAssign)) nothing) (either (both (one (sign_kind sign.AndAssign)) nothing) (either (both (one (sign_kind sign.OrAssign)) nothing) (both (one (sign_kind sign.XorAssign)) nothing))))))))))) (both (part Exprs) nothing))) nothing)
shape AssignFirst = both (one (sign_kind sign.Equal)) (both (part Exprs) (part Assigns))
shape Assigns = either (only (both (part Assign) (part Assigns))) nothing
shape Assign = both (one (sign_kind sign.Equal)) (both (part Exprs) nothing)
shape Simples = both (part OneSimple) (part SimplesRest)
shape OneSimple = both (part Simple) nothing
shape SimplesRest = either (both (one (sign_kind sign.Semicolon)) (part SimplesMore)) (both (one 75) nothing)
shape SimplesMore = either (both (one 75) nothing) (part Simples)
shape Block = either (both (one 75) (both (one 76) (both (part Statement) (part Statements)))) (part Simples)
shape Statements = either (both (one 77) nothing) (both (part Statement) (part Statements))
shape Statement = either (both (part Compound) nothing) (part Simples)
shape Compound = either (part If) (either (part While) (either (part For) (part Try)))
shape If = both (one (word_kind word.If)) (both (part Or) (part IfThen))
shape IfThen = both (one (sign_kind sign.Colon)) (both (part FirstArm) (part Elifs))
shape FirstArm = both (part Block) nothing
shape Elifs = either (both (one (word_kind word.Elif)) (both (part Elif) (part Elifs))) (either (both (one (word_kind word.Else)) (both (part ElseBody) nothing)) nothing)
shape ElseBody = both (one (sign_kind sign.Colon)) (part Block)
shape Elif = both (part ElifArm) nothing
shape ElifArm = both (part Or) (part ElifBody)
shape ElifBody = both (one (sign_kind sign.Colon)) (both (part Block) nothing)
shape While = both (one (word_kind word.While)) (both (part Or) (part WhileBody))
shape WhileBody = both (one (sign_kind sign.Colon)) (both (part Block) nothing)
shape For = both (one (word_kind word.For)) (both (part Goal) (part ForIn))
shape ForIn = both (one (word_kind word.In)) (both (part Or) (part ForBody))
shape ForBody = both (one (sign_kind sign.Colon)) (both (part Block) nothing)
shape Try = both (one (word_kind word.Try)) (both (one (sign_kind sign.Colon)) (both (part Block) (part TryRest)))
shape TryRest = either (both (part NextClause) (part Clauses)) (only (both (one (word_kind word.Finally)) (part Finish)))
shape Finish = both (part ElseBody) nothing
shape Clauses = either (only (both (part NextClause) (part Clauses))) (part TryEnd)
shape NextClause = both (part OneClause) nothing
shape OneClause = both (one (word_kind word.Except)) (both (part ClauseHead) (part Handler))
shape Handler = both (one (sign_kind sign.Colon)) (both (part Block) nothing)
shape ClauseHead = either (part BracketedClasses) (either (both (part Dotted) (part Bound)) nothing)
shape BracketedClasses = both (one (sign_kind sign.OpenParen)) (both (part Dotted) (both (part Classes) (both (one (sign_kind sign.CloseParen)) (part Bound))))
shape Bound = either (both (one (sign_kind sign.Comma)) (part Bind)) (either (both (one (word_kind word.As)) (part Bind)) nothing)
shape Bind = both (one 0) nothing
shape Classes = either (both (one (sign_kind sign.Comma)) (part ClassesMore)) nothing
shape ClassesMore = either (both (part Dotted) (part Classes)) nothing
shape Dotted = both (one 0) (part Dots)
shape Dots = either (both (one (sign_kind sign.Dot)) (both (one 0) (part Dots))) nothing
shape TryEnd = either (both (one (word_kind word.Else)) (both (part ElseBody) (part TryFinally))) (part TryFinally)
shape TryFinally = either (only (both (one (word_kind word.Finally)) (part Finish))) nothing
shape Whole = both (part MemberList) nothing
shape MemberList = either (both (one 78) nothing) (both (part OneMember) (part MemberList))
shape OneMember = either (both (part ModuleMember) nothing) (either (both (part Main) nothing) (part NoMember))
shape ModuleMember = either (part ImportLine) (either (part FromLine) (either (part ClassText) (part CommonMember)))
shape ClassMember = either (both (part CommonMember) nothing) (part NoMember)
shape CommonMember = either (part DefText) (part Constant)
shape NoMember = either (both (one (word_kind word.Pass)) (both (one 75) nothing)) (both (part StringsAlone) (both (one 75) nothing))
shape Constant = both (one 0) (both (one (sign_kind sign.Equal)) (both (part Or) (both (one 75) nothing)))
shape ImportLine = both (one (word_kind word.Import)) (both (part Names) (both (one 75) nothing))
shape Names = both (one 0) (part MoreNames)
shape MoreNames = either (both (one (sign_kind sign.Comma)) (both (one 0) (part MoreNames))) nothing
shape FromLine = both (one (word_kind word.From)) (both (part Dotted) (part FromNames))
shape FromNames = both (one (word_kind word.Import)) (both (part Imported) (both (one 75) nothing))
shape Imported = either (both (one (sign_kind sign.OpenParen)) (both (one 0) (both (part BracketedNames) (both (one (sign_kind sign.CloseParen)) nothing)))) (part Names)
shape BracketedNames = either (both (one (sign_kind sign.Comma)) (part BracketedMore)) nothing
shape BracketedMore = either (both (one 0) (part BracketedNames)) nothing
shape DefText = both (one (word_kind word.Def)) (both (one 0) (part DefParams))
shape DefParams = both (one (sign_kind sign.OpenParen)) (both (part ParamList) (part DefBody))
shape DefBody = both (one (sign_kind sign.CloseParen)) (both (one (sign_kind sign.Colon)) (both (part Block) nothing))
shape ParamList = either (both (part OneParam) (part ParamListRest)) (either (both (one (sign_kind sign.Star)) (part StarParam)) nothing)
shape ParamListRest = either (both (one (sign_kind sign.Comma)) (part ParamList)) nothing
shape OneParam = both (one 0) (part ParamRest)
shape ParamRest = either (both (one (sign_kind sign.Equal)) (both (part Or) nothing)) (only nothing)
shape StarParam = both (one 0) (both (part CommaMaybe) nothing)
shape CommaMaybe = either (both (one (sign_kind sign.Comma)) nothing) nothing
shape ClassText = both (one (word_kind word.Class)) (both (one 0) (part ClassRest))
shape ClassRest = both (part Base) (part ClassBody)
shape ClassBody = both (one (sign_kind sign.Colon)) (both (part ClassBlock) nothing)
shape Base = either (both (one (sign_kind sign.OpenParen)) (both (part BaseName) (both (one (sign_kind sign.CloseParen)) nothing))) nothing
shape BaseName = either (part Dotted) nothing
shape ClassBlock = either (both (one (word_kind word.Pass)) (both (one 75) nothing)) (both (one 75) (both (one 76) (both (part ClassMember) (part ClassMembers))))
shape ClassMembers = either (both (one 77) nothing) (both (part ClassMember) (part ClassMembers))
shape Main = both (one (word_kind word.If)) (both (one 0) (both (one (sign_kind sign.EqualEqual)) (both (part MainPiece) (both (part MainRest) (both (one (sign_kind sign.Colon)) (both (part Skipped) nothing))))))
shape MainPiece = both (one 2) nothing
shape MainRest = either (both (part MainPiece) (part MainRest)) (only nothing)
shape Skipped = either (both (one 75) (both (one 76) (part SkipBlock))) (both (among of_line) (part SkipLine))
shape SkipLine = either (both (one 75) nothing) (both (among of_line) (part SkipLine))
shape SkipBlock = either (both (one 77) nothing) (either (both (one 76) (both (part SkipBlock) (part SkipBlock))) (both (among of_block) (part SkipBlock)))

abbrev pub null : Part → Bool
null Or = false
null OrRest = true
null And = false
null AndRest = true
null Not = false
null Comparison = false
null ComparisonRest = true
null IsRest = false
null Compared = false
null BitOr = false
null BitOrRest = true
null BitXor = false
null BitXorRest = true
null BitAnd = false
null BitAndRest = true
null Shift = false
null ShiftRest = true
null Sum = false
null SumRest = true
null Term = false
null TermRest = true
null Signed = false
null Primary = false
null Trailers = true
null Attribute = false
null Arguments = false
null Atom = false
null OtherAtom = false
null Strings = true
null Paren = false
null Exprs = false
null ExprsRest = true
null Items = true
null ItemsRest = true
null Item = false
null Subscript = false
null SubscriptRest = false
null SliceEnd = false
null Brackets = false
null BracketsRest = false
null CompRest = false
null CompIn = false
null CompOver = false
null CompEnd = false
null Braces = false
null PairList = true
null PairListRest = true
null Pair = false
null PairRest = false
null Goal = false
null GoalRest = true
null GoalList = true
null GoalListRest = true
null OneGoal = false
null GoalPart = false
null PlaceRest = true
null OtherRest = true
null PlaceSubscript = false
null PlaceSubscriptRest = false
null Simple = false
null PassWord = false
null BreakWord = false
null ContinueWord = false
null Return = false
null ReturnRest = true
null Raise = false
null Assert = false
null AssertRest = true
null StringsAlone = false
null Del = false
null DelOther = false
null DelIndex = true
null DelSubscript = false
null DelSubscriptRest = false
null Print = false
null PrintRest = true
null Prints = true
null Valued = false
null ValuedRest = true
null AssignFirst = false
null Assigns = true
null Assign = false
null Simples = false
null OneSimple = false
null SimplesRest = false
null SimplesMore = false
null Block = false
null Statements = false
null Statement = false
null Compound = false
null If = false
null IfThen = false
null FirstArm = false
null Elifs = true
null ElseBody = false
null Elif = false
null ElifArm = false
null ElifBody = false
null While = false
null WhileBody = false
null For = false
null ForIn = false
null ForBody = false
null Try = false
null TryRest = false
null Finish = false
null Clauses = true
null NextClause = false
null OneClause = false
null Handler = false
null ClauseHead = true
null BracketedClasses = false
null Bound = true
null Bind = false
null Classes = true
null ClassesMore = true
null Dotted = false
null Dots = true
null TryEnd = true
null TryFinally = true
null Whole = false
null MemberList = false
null OneMember = false
null ModuleMember = false
null ClassMember = false
null CommonMember = false
null NoMember = false
null Constant = false
null ImportLine = false
null Names = false
null MoreNames = true
null FromLine = false
null FromNames = false
null Imported = false
null BracketedNames = true
null BracketedMore = true
null DefText = false
null DefParams = false
null DefBody = false
null ParamList = true
null ParamListRest = true
null OneParam = false
null ParamRest = true
null StarParam = false
null CommaMaybe = true
null ClassText = false
null ClassRest = false
null ClassBody = false
null Base = true
null BaseName = true
null ClassBlock = false
null ClassMembers = false
null Main = false
null MainPiece = false
null MainRest = true
null Skipped = false
null SkipLine = false
null SkipBlock = false

-- the kinds that a rule begins with, as a set
abbrev pub first_set : Part → ℕ
first_set Or = 388548057851406319623
first_set OrRest = 33554432
first_set And = 388548057851406319623
first_set AndRest = 8
first_set Not = 388548057851406319623
first_set Comparison = 388548057851389542407
first_set ComparisonRest = 6918056793245483008
first_set IsRest = 388548057851406319623
first_set Compared = 388548057851389542407
first_set BitOr = 388548057851389542407
first_set BitOrRest = 288230376151711744
first_set BitXor = 388548057851389542407
first_set BitXorRest = 576460752303423488
first_set BitAnd = 388548057851389542407
first_set BitAndRest = 144115188075855872
first_set Shift = 388548057851389542407
first_set ShiftRest = 3377699720527872
first_set Sum = 388548057851389542407
first_set SumRest = 13510798882111488
first_set Term = 388548057851389542407
first_set TermRest = 126663739519795200
first_set Signed = 388548057851389542407
first_set Primary = 387381625547900583943
first_set Trailers = 9536966686107838185472
first_set Attribute = 1
first_set Arguments = 425441545998825422855
first_set Atom = 387381625547900583943
first_set OtherAtom = 387381625547900583942
first_set Strings = 4
first_set Paren = 425441545998825422855
first_set Exprs = 388548057851406319623
first_set ExprsRest = 1180591620717411303424
first_set Items = 388548057851406319623
first_set ItemsRest = 1180591620717411303424
first_set Item = 388548057851406319623
first_set Subscript = 2749731299286228926471
first_set SubscriptRest = 2508757194024499019776
first_set SliceEnd = 536122010441082732551
first_set Brackets = 536122010441082732551
first_set BracketsRest = 1328165573307087781888
first_set CompRest = 387381625547900583943
first_set CompIn = 2097152
first_set CompOver = 388548057851406319623
first_set CompEnd = 147573952589676937216
first_set Braces = 978843868210111971335
first_set PairList = 388548057851406319623
first_set PairListRest = 1180591620717411303424
first_set Pair = 388548057851406319623
first_set PairRest = 2361183241434822606848
first_set Goal = 387381625547900583943
first_set GoalRest = 1180591620717411303424
first_set GoalList = 387381625547900583943
first_set GoalListRest = 1180591620717411303424
first_set OneGoal = 387381625547900583943
first_set GoalPart = 387381625547900583943
first_set PlaceRest = 9536966686107838185472
first_set OtherRest = 9536966686107838185472
first_set PlaceSubscript = 2749731299286228926471
first_set PlaceSubscriptRest = 2508757194024499019776
first_set Simple = 388548057852412953959
first_set PassWord = 67108864
first_set BreakWord = 64
first_set ContinueWord = 256
first_set Return = 536870912
first_set ReturnRest = 388548057851406319623
first_set Raise = 268435456
first_set Assert = 32
first_set AssertRest = 1180591620717411303424
first_set StringsAlone = 4
first_set Del = 1024
first_set DelOther = 9536966686107838185472
first_set DelIndex = 9536966686107838185472
first_set DelSubscript = 2749731299286228926471
first_set DelSubscriptRest = 2508757194024499019776
first_set Print = 134217728
first_set PrintRest = 388548057851406319623
first_set Prints = 1180591620717411303424
first_set Valued = 388548057851406319623
first_set ValuedRest = 9223407204046995456
first_set AssignFirst = 9223372036854775808
first_set Assigns = 9223372036854775808
first_set Assign = 9223372036854775808
first_set Simples = 388548057852412953959
first_set OneSimple = 388548057852412953959
first_set SimplesRest = 42501298345826806923264
first_set SimplesMore = 38167479920809574663527
first_set Block = 38167479920809574663527
first_set Statements = 151504275509684281607527
first_set Statement = 388548057855634769255
first_set Compound = 3221815296
first_set If = 524288
first_set IfThen = 2361183241434822606848
first_set FirstArm = 38167479920809574663527
first_set Elifs = 6144
first_set ElseBody = 2361183241434822606848
first_set Elif = 388548057851406319623
first_set ElifArm = 388548057851406319623
first_set ElifBody = 2361183241434822606848
first_set While = 2147483648
first_set WhileBody = 2361183241434822606848
first_set For = 65536
first_set ForIn = 2097152
first_set ForBody = 2361183241434822606848
first_set Try = 1073741824
first_set TryRest = 40960
first_set Finish = 2361183241434822606848
first_set Clauses = 45056
first_set NextClause = 8192
first_set OneClause = 8192
first_set Handler = 2361183241434822606848
first_set ClauseHead = 18446744073709551617
first_set BracketedClasses = 18446744073709551616
first_set Bound = 1180591620717411303440
first_set Bind = 1
first_set Classes = 1180591620717411303424
first_set ClassesMore = 1
first_set Dotted = 1
first_set Dots = 9444732965739290427392
first_set TryEnd = 36864
first_set TryFinally = 32768
first_set Whole = 302231454903657362489989
first_set MemberList = 302231454903657362489989
first_set OneMember = 68813445
first_set ModuleMember = 1180289
first_set ClassMember = 67109381
first_set CommonMember = 513
first_set NoMember = 67108868
first_set Constant = 1
first_set ImportLine = 1048576
first_set Names = 1
first_set MoreNames = 1180591620717411303424
first_set FromLine = 131072
first_set FromNames = 1048576
first_set Imported = 18446744073709551617
first_set BracketedNames = 1180591620717411303424
first_set BracketedMore = 1
first_set DefText = 512
first_set DefParams = 18446744073709551616
first_set DefBody = 36893488147419103232
first_set ParamList = 18014398509481985
first_set ParamListRest = 1180591620717411303424
first_set OneParam = 1
first_set ParamRest = 9223372036854775808
first_set StarParam = 1
first_set CommaMaybe = 1180591620717411303424
first_set ClassText = 128
first_set ClassRest = 2379629985508532158464
first_set ClassBody = 2361183241434822606848
first_set Base = 18446744073709551616
first_set BaseName = 1
first_set ClassBlock = 37778931862957228818432
first_set ClassMembers = 151115727451828713947653
first_set Main = 524288
first_set MainPiece = 4
first_set MainRest = 4
first_set Skipped = 302231454903657293676543
first_set SkipLine = 302231454903657293676543
first_set SkipBlock = 302231454903657293676543

-- the kinds that follow a rule, as a set
abbrev pub follow_set : Part → ℕ
follow_set Or = 46827059866278889586688
follow_set OrRest = 46827059866278889586688
follow_set And = 46827059866278923141120
follow_set AndRest = 46827059866278923141120
follow_set Not = 46827059866278923141128
follow_set Comparison = 46827059866278923141128
follow_set ComparisonRest = 46827059866278923141128
follow_set IsRest = 46827059866278923141128
follow_set Compared = 46827059866278923141128
follow_set BitOr = 46833977923072168624136
follow_set BitOrRest = 46833977923072168624136
follow_set BitXor = 46834266153448320335880
follow_set BitXorRest = 46834266153448320335880
follow_set BitAnd = 46834842614200623759368
follow_set BitAndRest = 46834842614200623759368
follow_set Shift = 46834986729388699615240
follow_set ShiftRest = 46834986729388699615240
follow_set Sum = 46834990107088420143112
follow_set SumRest = 46834990107088420143112
follow_set Term = 46835003617887302254600
follow_set TermRest = 46835003617887302254600
follow_set Signed = 46835130281626822049800
follow_set Primary = 46835130281626822049800
follow_set Trailers = 46835130281626822049800
follow_set Attribute = 56372096967734660235272
follow_set Arguments = 56372096967734660235272
follow_set Atom = 56372096967734660235272
follow_set OtherAtom = 56372096967734660235272
follow_set Strings = 56372096967734660235272
follow_set Paren = 56372096967734660235272
follow_set Exprs = 42547415241178273021952
follow_set ExprsRest = 42547415241178273021952
follow_set Items = 42694989193767949434880
follow_set ItemsRest = 42694989193767949434880
follow_set Item = 43875580814485360738304
follow_set Subscript = 56372096967734660235272
follow_set SubscriptRest = 56372096967734660235272
follow_set SliceEnd = 56372096967734660235272
follow_set Brackets = 56372096967734660235272
follow_set BracketsRest = 56372096967734660235272
follow_set CompRest = 56372096967734660235272
follow_set CompIn = 56372096967734660235272
follow_set CompOver = 56372096967734660235272
follow_set CompEnd = 56372096967734660235272
follow_set Braces = 56372096967734660235272
follow_set PairList = 590295810358705651712
follow_set PairListRest = 590295810358705651712
follow_set Pair = 1770887431076116955136
follow_set PairRest = 1770887431076116955136
follow_set Goal = 2097152
follow_set GoalRest = 2097152
follow_set GoalList = 2097152
follow_set GoalListRest = 2097152
follow_set OneGoal = 1180591620717413400576
follow_set GoalPart = 1180591620717413400576
follow_set PlaceRest = 1180591620717413400576
follow_set OtherRest = 1180591620717413400576
follow_set PlaceSubscript = 1180591620717413400576
follow_set PlaceSubscriptRest = 1180591620717413400576
follow_set Simple = 42501298345826806923264
follow_set PassWord = 42501298345826806923264
follow_set BreakWord = 42501298345826806923264
follow_set ContinueWord = 42501298345826806923264
follow_set Return = 42501298345826806923264
follow_set ReturnRest = 42501298345826806923264
follow_set Raise = 42501298345826806923264
follow_set Assert = 42501298345826806923264
follow_set AssertRest = 42501298345826806923264
follow_set StringsAlone = 42501298345826806923264
follow_set Del = 42501298345826806923264
follow_set DelOther = 42501298345826806923264
follow_set DelIndex = 42501298345826806923264
follow_set DelSubscript = 42501298345826806923264
follow_set DelSubscriptRest = 42501298345826806923264
follow_set Print = 42501298345826806923264
follow_set PrintRest = 42501298345826806923264
follow_set Prints = 42501298345826806923264
follow_set Valued = 42501298345826806923264
follow_set ValuedRest = 42501298345826806923264
follow_set AssignFirst = 42501298345826806923264
follow_set Assigns = 42501298345826806923264
follow_set Assign = 42510521717863661699072
follow_set Simples = 453735730413341576511463
follow_set OneSimple = 42501298345826806923264
follow_set SimplesRest = 453735730413341576511463
follow_set SimplesMore = 453735730413341576511463
follow_set Block = 453735730413341576511463
follow_set Statements = 453735730413341576511463
follow_set Statement = 151504275509684281607527
follow_set Compound = 151504275509684281607527
follow_set If = 151504275509684281607527
follow_set IfThen = 151504275509684281607527
follow_set FirstArm = 151504275509684281613671
follow_set Elifs = 151504275509684281607527
follow_set ElseBody = 151504275509684281640295
follow_set Elif = 151504275509684281613671
follow_set ElifArm = 151504275509684281613671
follow_set ElifBody = 151504275509684281613671
follow_set While = 151504275509684281607527
follow_set WhileBody = 151504275509684281607527
follow_set For = 151504275509684281607527
follow_set ForIn = 151504275509684281607527
follow_set ForBody = 151504275509684281607527
follow_set Try = 151504275509684281607527
follow_set TryRest = 151504275509684281607527
follow_set Finish = 151504275509684281607527
follow_set Clauses = 151504275509684281607527
follow_set NextClause = 151504275509684281652583
follow_set OneClause = 151504275509684281652583
follow_set Handler = 151504275509684281652583
follow_set ClauseHead = 2361183241434822606848
follow_set BracketedClasses = 2361183241434822606848
follow_set Bound = 2361183241434822606848
follow_set Bind = 2361183241434822606848
follow_set Classes = 36893488147419103232
follow_set ClassesMore = 36893488147419103232
follow_set Dotted = 3578668350299654062096
follow_set Dots = 3578668350299654062096
follow_set TryEnd = 151504275509684281607527
follow_set TryFinally = 151504275509684281607527
follow_set Whole = 0
follow_set MemberList = 0
follow_set OneMember = 302231454903657362489989
follow_set ModuleMember = 302231454903657362489989
follow_set ClassMember = 151115727451828713947653
follow_set CommonMember = 453347182355486009328261
follow_set NoMember = 453347182355486009328261
follow_set Constant = 453347182355486009328261
follow_set ImportLine = 302231454903657362489989
follow_set Names = 37778931862957161709568
follow_set MoreNames = 37778931862957161709568
follow_set FromLine = 302231454903657362489989
follow_set FromNames = 302231454903657362489989
follow_set Imported = 37778931862957161709568
follow_set BracketedNames = 36893488147419103232
follow_set BracketedMore = 36893488147419103232
follow_set DefText = 453347182355486009328261
follow_set DefParams = 453347182355486009328261
follow_set DefBody = 453347182355486009328261
follow_set ParamList = 36893488147419103232
follow_set ParamListRest = 36893488147419103232
follow_set OneParam = 1217485108864830406656
follow_set ParamRest = 1217485108864830406656
follow_set StarParam = 36893488147419103232
follow_set CommaMaybe = 36893488147419103232
follow_set ClassText = 302231454903657362489989
follow_set ClassRest = 302231454903657362489989
follow_set ClassBody = 302231454903657362489989
follow_set Base = 2361183241434822606848
follow_set BaseName = 36893488147419103232
follow_set ClassBlock = 302231454903657362489989
follow_set ClassMembers = 302231454903657362489989
follow_set Main = 302231454903657362489989
follow_set MainPiece = 2361183241434822606852
follow_set MainRest = 2361183241434822606848
follow_set Skipped = 302231454903657362489989
follow_set SkipLine = 302231454903657362489989
follow_set SkipBlock = 604462909807314587353087

abbrev pub rank : Part → ℕ
rank Or = 13
rank OrRest = 0
rank And = 12
rank AndRest = 0
rank Not = 11
rank Comparison = 10
rank ComparisonRest = 0
rank IsRest = 11
rank Compared = 10
rank BitOr = 9
rank BitOrRest = 0
rank BitXor = 8
rank BitXorRest = 0
rank BitAnd = 7
rank BitAndRest = 0
rank Shift = 6
rank ShiftRest = 0
rank Sum = 5
rank SumRest = 0
rank Term = 4
rank TermRest = 0
rank Signed = 3
rank Primary = 2
rank Trailers = 0
rank Attribute = 0
rank Arguments = 16
rank Atom = 1
rank OtherAtom = 0
rank Strings = 0
rank Paren = 15
rank Exprs = 14
rank ExprsRest = 0
rank Items = 15
rank ItemsRest = 0
rank Item = 14
rank Subscript = 14
rank SubscriptRest = 0
rank SliceEnd = 14
rank Brackets = 14
rank BracketsRest = 1
rank CompRest = 3
rank CompIn = 0
rank CompOver = 14
rank CompEnd = 0
rank Braces = 16
rank PairList = 15
rank PairListRest = 0
rank Pair = 14
rank PairRest = 0
rank Goal = 2
rank GoalRest = 0
rank GoalList = 3
rank GoalListRest = 0
rank OneGoal = 2
rank GoalPart = 1
rank PlaceRest = 0
rank OtherRest = 0
rank PlaceSubscript = 14
rank PlaceSubscriptRest = 0
rank Simple = 16
rank PassWord = 0
rank BreakWord = 0
rank ContinueWord = 0
rank Return = 0
rank ReturnRest = 15
rank Raise = 0
rank Assert = 0
rank AssertRest = 0
rank StringsAlone = 0
rank Del = 0
rank DelOther = 0
rank DelIndex = 0
rank DelSubscript = 14
rank DelSubscriptRest = 0
rank Print = 0
rank PrintRest = 15
rank Prints = 0
rank Valued = 15
rank ValuedRest = 1
rank AssignFirst = 0
rank Assigns = 1
rank Assign = 0
rank Simples = 18
rank OneSimple = 17
rank SimplesRest = 0
rank SimplesMore = 19
rank Block = 19
rank Statements = 20
rank Statement = 19
rank Compound = 1
rank If = 0
rank IfThen = 0
rank FirstArm = 20
rank Elifs = 0
rank ElseBody = 0
rank Elif = 15
rank ElifArm = 14
rank ElifBody = 0
rank While = 0
rank WhileBody = 0
rank For = 0
rank ForIn = 0
rank ForBody = 0
rank Try = 0
rank TryRest = 2
rank Finish = 1
rank Clauses = 2
rank NextClause = 1
rank OneClause = 0
rank Handler = 0
rank ClauseHead = 1
rank BracketedClasses = 0
rank Bound = 0
rank Bind = 0
rank Classes = 0
rank ClassesMore = 1
rank Dotted = 0
rank Dots = 0
rank TryEnd = 1
rank TryFinally = 0
rank Whole = 5
rank MemberList = 4
rank OneMember = 3
rank ModuleMember = 2
rank ClassMember = 2
rank CommonMember = 1
rank NoMember = 1
rank Constant = 0
rank ImportLine = 0
rank Names = 0
rank MoreNames = 0
rank FromLine = 0
rank FromNames = 0
rank Imported = 1
rank BracketedNames = 0
rank BracketedMore = 0
rank DefText = 0
rank DefParams = 0
rank DefBody = 0
rank ParamList = 1
rank ParamListRest = 0
rank OneParam = 0
rank ParamRest = 0
rank StarParam = 0
rank CommaMaybe = 0
rank ClassText = 0
rank ClassRest = 1
rank ClassBody = 0
rank Base = 0
rank BaseName = 1
rank ClassBlock = 0
rank ClassMembers = 3
rank Main = 0
rank MainPiece = 0
rank MainRest = 1
rank Skipped = 0
rank SkipLine = 0
rank SkipBlock = 0

abbrev pub height : Part → ℕ
height Or = 12
height OrRest = 0
height And = 11
height AndRest = 0
height Not = 10
height Comparison = 9
height ComparisonRest = 0
height IsRest = 10
height Compared = 9
height BitOr = 8
height BitOrRest = 0
height BitXor = 7
height BitXorRest = 0
height BitAnd = 6
height BitAndRest = 0
height Shift = 5
height ShiftRest = 0
height Sum = 4
height SumRest = 0
height Term = 3
height TermRest = 0
height Signed = 2
height Primary = 1
height Trailers = 0
height Attribute = 0
height Arguments = 1
height Atom = 0
height OtherAtom = 0
height Strings = 0
height Paren = 0
height Exprs = 13
height ExprsRest = 0
height Items = 0
height ItemsRest = 0
height Item = 13
height Subscript = 1
height SubscriptRest = 0
height SliceEnd = 0
height Brackets = 0
height BracketsRest = 1
height CompRest = 15
height CompIn = 14
height CompOver = 13
height CompEnd = 0
height Braces = 1
height PairList = 0
height PairListRest = 0
height Pair = 14
height PairRest = 13
height Goal = 2
height GoalRest = 0
height GoalList = 0
height GoalListRest = 0
height OneGoal = 2
height GoalPart = 1
height PlaceRest = 0
height OtherRest = 1
height PlaceSubscript = 2
height PlaceSubscriptRest = 1
height Simple = 1
height PassWord = 0
height BreakWord = 0
height ContinueWord = 0
height Return = 1
height ReturnRest = 0
height Raise = 13
height Assert = 13
height AssertRest = 0
height StringsAlone = 1
height Del = 15
height DelOther = 14
height DelIndex = 0
height DelSubscript = 13
height DelSubscriptRest = 1
height Print = 1
height PrintRest = 0
height Prints = 0
height Valued = 14
height ValuedRest = 0
height AssignFirst = 14
height Assigns = 0
height Assign = 14
height Simples = 3
height OneSimple = 2
height SimplesRest = 0
height SimplesMore = 0
height Block = 4
height Statements = 0
height Statement = 4
height Compound = 10
height If = 13
height IfThen = 6
height FirstArm = 5
height Elifs = 0
height ElseBody = 5
height Elif = 14
height ElifArm = 13
height ElifBody = 5
height While = 13
height WhileBody = 5
height For = 14
height ForIn = 13
height ForBody = 5
height Try = 9
height TryRest = 8
height Finish = 6
height Clauses = 2
height NextClause = 7
height OneClause = 6
height Handler = 5
height ClauseHead = 0
height BracketedClasses = 2
height Bound = 0
height Bind = 0
height Classes = 0
height ClassesMore = 0
height Dotted = 1
height Dots = 0
height TryEnd = 1
height TryFinally = 0
height Whole = 1
height MemberList = 0
height OneMember = 1
height ModuleMember = 3
height ClassMember = 1
height CommonMember = 8
height NoMember = 0
height Constant = 13
height ImportLine = 2
height Names = 1
height MoreNames = 0
height FromLine = 3
height FromNames = 2
height Imported = 1
height BracketedNames = 0
height BracketedMore = 0
height DefText = 7
height DefParams = 6
height DefBody = 5
height ParamList = 0
height ParamListRest = 0
height OneParam = 14
height ParamRest = 13
height StarParam = 1
height CommaMaybe = 0
height ClassText = 3
height ClassRest = 2
height ClassBody = 1
height Base = 0
height BaseName = 0
height ClassBlock = 0
height ClassMembers = 0
height Main = 2
height MainPiece = 0
height MainRest = 0
height Skipped = 1
height SkipLine = 0
height SkipBlock = 0

abbrev pub by_hand : Part → Bool
by_hand MainRest = true
by_hand x = false

abbrev pub tables : Tables Part
tables = record { null = null; first = λ n. bit (first_set n); follow = λ n. bit (follow_set n); ranks = 21; rank = rank; heights = 16; height = height; by_hand = by_hand }
