-- When a source is refused, on which line, and with which words.
use Rattle.std.specs.Prelude.{◌≡◌, ◌⊎◌, ℕ, List, ◌++◌, length, slice_get, Option, Some, None, codes, Result, Ok, Err}
use Rattle.std.specs.Fmt.{decimal}
use Rattle.rpy_token.specs.Lines.{line_of}
use Rattle.rpy_token.specs.Relation.{IsTokens, HasFault}
use Rattle.rpy_token.specs.declared.token.Token.{Token}
use Rattle.rpy_token.specs.declared.fault.TokenFault.{TokenFault}
use Rattle.rpy_token.specs.declared.fault.TokenFault.TheVariants as fault
use Rattle.rpy_token.specs.declared.fault.LimitKind.{LimitKind}
use Rattle.rpy_token.specs.declared.fault.LimitKind.TheVariants as limit
use Rattle.rpy_parse.specs.Modules.{IsModule, IsDead}
use Rattle.rpy_tree.specs.declared.syntax.Module.{Module}
use Rattle.rpy_first.specs.declared.fault.SourceKind.{SourceKind}
use Rattle.rpy_first.specs.declared.fault.SourceKind.TheVariants.{BadByte, BadIndent, OpenString, BadNumber, LimitBrackets, LimitBlocks, LimitOperators, Syntax}
use Rattle.rpy_first.specs.declared.fault.TranslateFault.{TranslateFault}
use Rattle.rpy_first.specs.declared.fault.TranslateFault.TheVariants.{Source, Name, NotFirst, NoMem}

abbrev pub words_of : SourceKind → List ℕ
words_of BadByte = codes "bad byte"
words_of BadIndent = codes "bad indent"
words_of OpenString = codes "open string"
words_of BadNumber = codes "bad number"
words_of LimitBrackets = codes "limit brackets"
words_of LimitBlocks = codes "limit blocks"
words_of LimitOperators = codes "limit operators"
words_of Syntax = codes "syntax"

-- a line that tells where something is wrong
abbrev pub line_at : List ℕ → ℕ → List ℕ → List ℕ
line_at file line words = file ++ codes ":" ++ decimal line ++ codes ": " ++ words ++ codes "\n"

-- what is said of a file that is refused
abbrev pub refusal : List ℕ → ℕ → SourceKind → List ℕ
refusal file line kind = line_at file line (words_of kind)

abbrev pub limit_kind : LimitKind → SourceKind
limit_kind limit.Brackets = LimitBrackets
limit_kind limit.Blocks = LimitBlocks
limit_kind limit.Operators = LimitOperators

-- why bytes have no tokens, and where
abbrev pub cause : TokenFault → Option (SourceKind × ℕ)
cause (fault.BadByte at) = Some (BadByte, at)
cause (fault.BadIndent at) = Some (BadIndent, at)
cause (fault.OpenString at) = Some (OpenString, at)
cause (fault.BadNumber at) = Some (BadNumber, at)
cause (fault.Limit which at) = Some (limit_kind which, at)
cause fault.NoMem = None

-- the line of a token, or of the end of the source
abbrev pub token_line : List ℕ → Option Token → ℕ
token_line source None = line_of source (length source)
token_line source (Some t) = t.line

-- the source has no tokens
pub record HasNoTokens (source : List ℕ) (line : ℕ) (kind : SourceKind) : Type 0 where
  pub fault : TokenFault
  pub at : ℕ
  pub has : HasFault source fault
  pub causes : cause fault ≡ Some (kind, at)
  pub stands : line ≡ line_of source at

-- its tokens are no module: none begins with those up to and with this one
pub record HasNoModule (source : List ℕ) (line : ℕ) (kind : SourceKind) : Type 0 where
  pub tokens : List Token
  pub at : ℕ
  pub have : IsTokens source tokens
  pub dead : IsDead tokens at
  pub is_syntax : kind ≡ Syntax
  pub stands : line ≡ token_line source (slice_get tokens at)

abbrev pub IsRefused : List ℕ → ℕ → SourceKind → Type 0
IsRefused source line kind = HasNoTokens source line kind ⊎ HasNoModule source line kind

-- the source has tokens, which are the module
pub record HasModule (source : List ℕ) (m : Module) : Type 0 where
  pub tokens : List Token
  pub have : IsTokens source tokens
  pub are : IsModule tokens m

-- what a function ensures that reads the module of a source
abbrev pub ReadsModule : List ℕ → Result Module TranslateFault → Type 0
ReadsModule source (Ok m) = HasModule source m
ReadsModule source (Err (Source file line kind)) = (file ≡ 0) × IsRefused source line kind
ReadsModule source (Err (Name file line kind)) = ⊥
ReadsModule source (Err NotFirst) = ⊥
ReadsModule source (Err NoMem) = Unit {0}

-- the fault for a cause, of the only source
abbrev pub refused_at : List ℕ → Option (SourceKind × ℕ) → TranslateFault
refused_at source None = NoMem
refused_at source (Some c) = Source 0 (line_of source c.1) c.0
