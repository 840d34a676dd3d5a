-- The tokens of a source, from left to right.
use Rattle.std.specs.Prelude.{ℕ, zero, suc, Bool, true, false, nat_lt, ◌==◌, if◌then◌else◌, List, [], ◌∷◌, ◌++◌, length, take, Option, Some, None, Ok, Err}
use Rattle.rpy_token.specs.declared.fault.LimitKind.TheVariants.{Blocks}
use Rattle.rpy_token.specs.declared.fault.TokenFault.TheVariants as fault
use Rattle.rpy_token.specs.declared.piece.Piece.{Piece}
use Rattle.rpy_token.specs.declared.piece.Piece.TheVariants as p
use Rattle.rpy_token.specs.declared.scan.Scan.{Scan}
use Rattle.rpy_token.specs.declared.token.Token.{Token}
use Rattle.rpy_token.specs.declared.token.TokenKind.{TokenKind}
use Rattle.rpy_token.specs.declared.token.TokenKind.TheVariants as kind
use Rattle.rpy_token.specs.Bytes.{Bytes, blank_len}
use Rattle.rpy_token.specs.Fault.{Outcome, ◌>>=◌}
use Rattle.rpy_token.specs.Levels.{role_of, counted}
use Rattle.rpy_token.specs.Indents.{blank_line, has_tab, innermost, wider, kept}
use Rattle.rpy_token.specs.Lines.{Spot, size_at, rest_at, skip, token_at, used, with_dedents}
use Rattle.rpy_token.specs.Piece.{next_piece}

abbrev pub put : TokenKind → ℕ → Spot → Scan → Scan
put kind n spot scan = record scan { found = scan.found ++ token_at kind n spot ∷ [] }

-- ---- where a logical line begins

-- is the innermost one wider?
abbrev pub has_wider : ℕ → List ℕ → Bool
has_wider width [] = false
has_wider width (i ∷ is) = nat_lt width i

-- one Dedent for each open indentation that is wider
abbrev pub close_indents : ℕ → Spot → Scan → Scan
close_indents width spot scan =
    record scan { indents = kept width scan.indents; found = with_dedents (wider width scan.indents) spot scan.found }

-- at most 32 indentations are open
abbrev pub open_indent : ℕ → Spot → Scan → Outcome (Spot × Scan)
open_indent width spot scan =
    if nat_lt (length scan.indents) 32 then Ok (spot, put kind.Indent 0 spot (record scan { indents = width ∷ scan.indents }))
    else Err (fault.Limit Blocks spot.at)

-- the indentation of the text of a line that begins at a place
unfoldable pub set_indent : ℕ → ℕ → Spot → Scan → Outcome (Spot × Scan)
set_indent start width spot scan =
    if nat_lt (innermost scan.indents) width then open_indent width spot scan
    else (if innermost (kept width scan.indents) == width then Ok (spot, close_indents width spot scan)
    else Err (fault.BadIndent start))

unfoldable pub indent : Spot → Scan → Outcome (Spot × Scan)
indent spot scan =
    let width = blank_len (rest_at spot) in
    if has_tab (take width (rest_at spot)) then Err (fault.BadIndent spot.at)
    else set_indent spot.at width (skip width spot) scan

-- ---- inside a logical line

abbrev pub take_token : ℕ → TokenKind → Spot → Scan → Outcome (Spot × Scan)
take_token n kind spot scan =
    counted spot.at (role_of kind) scan.levels >>= λ levels. Ok (skip n spot, put kind n spot (record scan { levels = levels }))

-- a piece of so many bytes; in brackets the end of a line is nothing
unfoldable pub take_piece : ℕ → Spot → Scan → Piece → Outcome (Spot × Scan)
take_piece n spot scan p.Blank = Ok (skip n spot, scan)
take_piece n spot scan (p.Lexeme kind) = take_token n kind spot scan
take_piece n spot scan p.LineEnd =
    if nat_lt 0 (length scan.levels.outer) then Ok (skip n spot, scan)
    else take_token n kind.Newline spot (record scan { fresh = true })

unfoldable pub inside : Spot → Scan → Outcome (Spot × Scan)
inside spot scan = next_piece (size_at spot) (rest_at spot) >>= λ x. take_piece (used (rest_at spot) x.1) spot scan x.0

-- ---- the whole source

abbrev pub begin_after : Spot → Scan → Option Bytes → Outcome (Spot × Scan)
begin_after spot scan (Some rest) = Ok (skip (used (rest_at spot) rest) spot, scan)
begin_after spot scan None = indent spot scan >>= λ x. inside x.0 (record x.1 { fresh = false })

unfoldable pub begin : Spot → Scan → Outcome (Spot × Scan)
begin spot scan = blank_line (size_at spot) (rest_at spot) >>= begin_after spot scan

abbrev pub turn : Spot → Scan → Outcome (Spot × Scan)
turn spot scan = if scan.fresh then begin spot scan else inside spot scan

-- An open logical line gives Newline, each open indentation Dedent, and then End comes.
unfoldable pub finish : Spot → Scan → List Token
finish spot scan =
    let ended = if scan.fresh then scan else put kind.Newline 0 spot scan in
    with_dedents (length ended.indents) spot ended.found ++ token_at kind.End 0 spot ∷ []

-- in at most so many turns
abbrev pub run : ℕ → Spot → Scan → Outcome (List Token)
run zero spot scan = Ok (finish spot scan)
run (suc n) spot scan =
    if length (rest_at spot) == 0 then Ok (finish spot scan)
    else (turn spot scan >>= λ x. run n x.0 x.1)

abbrev pub first_scan : Scan
first_scan = record { fresh = true; indents = []; levels = record { operators = 0; outer = [] }; found = [] }

unfoldable pub token_list : Bytes → Outcome (List Token)
token_list source = run (length source) (record { source = source; at = 0 }) first_scan
