-- Sources with their tokens and faults, worked out by hand.
use Rattle.std.proofs.Common.{◌≡◌, ℕ, List, [], ◌∷◌, ◌++◌, replicate, map, Some, pos, refl}
use Rattle.std.specs.Prelude.{codes}
use Rattle.std.specs.List.{flat_map}
use Rattle.rpy_token.specs.declared.fault.LimitKind.TheVariants as limit
use Rattle.rpy_token.specs.declared.fault.TokenFault.TheVariants as fault
use Rattle.rpy_token.specs.declared.token.Keyword.TheVariants as word
use Rattle.rpy_token.specs.declared.token.Sign.{Sign}
use Rattle.rpy_token.specs.declared.token.Sign.TheVariants as sign
use Rattle.rpy_token.specs.declared.token.Token.{Token}
use Rattle.rpy_token.specs.declared.token.TokenKind.{TokenKind}
use Rattle.rpy_token.specs.declared.token.TokenKind.TheVariants as kind
use Rattle.rpy_token.specs.Bytes.{name_len, blank_len}
use Rattle.rpy_token.specs.Levels.{counted}
use Rattle.rpy_token.specs.Number.{digit_len, value_from, number}
use Rattle.rpy_token.specs.Piece.{after_comment, name, lexeme, next_piece}
use Rattle.rpy_token.specs.Quoted.{after_close, hex_escape, octal_escape, escape, part_of_line, next_part, body, quoted}
use Rattle.rpy_token.specs.Relation.{IsTokens, HasFault}
use Rattle.rpy_token.specs.Indents.{blank_line, has_tab, wider, kept}
use Rattle.rpy_token.specs.Scan.{set_indent, indent, take_piece, inside, begin, finish, token_list}
use Rattle.rpy_token.specs.Words.{keyword, signs, longest_sign}
use Rattle.rpy_token.proofs.Whole.{tokens_found, fault_found}

tok : TokenKind → ℕ → ℕ → ℕ → Token
tok kind start end line = record { kind = kind; start = start; end = end; line = line }

-- the longest sign, and the end of the source in an open line
assignment : IsTokens (codes "x //= 0x1F") (tok (kind.Name (codes "x")) 0 1 1 ∷ tok (kind.Sign sign.FloorDivAssign) 2 5 1 ∷ tok (kind.Int (pos 31)) 6 10 1 ∷ tok kind.Newline 10 10 1 ∷ tok kind.End 10 10 1 ∷ [])
unfolding tok token_list begin blank_line blank_len after_comment indent has_tab set_indent kept wider inside next_piece lexeme name name_len keyword longest_sign number digit_len value_from quoted body next_part part_of_line after_close escape hex_escape octal_escape take_piece counted finish
assignment = tokens_found (codes "x //= 0x1F") (tok (kind.Name (codes "x")) 0 1 1 ∷ tok (kind.Sign sign.FloorDivAssign) 2 5 1 ∷ tok (kind.Int (pos 31)) 6 10 1 ∷ tok kind.Newline 10 10 1 ∷ tok kind.End 10 10 1 ∷ []) refl

-- a line, and in it one with a deeper indentation, after a comment
block : IsTokens (codes "if a:" ++ 10 ∷ codes " # c" ++ 10 ∷ codes "  b" ++ 10 ∷ codes "d") (tok (kind.Word word.If) 0 2 1 ∷ tok (kind.Name (codes "a")) 3 4 1 ∷ tok (kind.Sign sign.Colon) 4 5 1 ∷ tok kind.Newline 5 6 1 ∷ tok kind.Indent 13 13 3 ∷ tok (kind.Name (codes "b")) 13 14 3 ∷ tok kind.Newline 14 15 3 ∷ tok kind.Dedent 15 15 4 ∷ tok (kind.Name (codes "d")) 15 16 4 ∷ tok kind.Newline 16 16 4 ∷ tok kind.End 16 16 4 ∷ [])
unfolding tok token_list begin blank_line blank_len after_comment indent has_tab set_indent kept wider inside next_piece lexeme name name_len keyword longest_sign number digit_len value_from quoted body next_part part_of_line after_close escape hex_escape octal_escape take_piece counted finish
block = tokens_found (codes "if a:" ++ 10 ∷ codes " # c" ++ 10 ∷ codes "  b" ++ 10 ∷ codes "d") (tok (kind.Word word.If) 0 2 1 ∷ tok (kind.Name (codes "a")) 3 4 1 ∷ tok (kind.Sign sign.Colon) 4 5 1 ∷ tok kind.Newline 5 6 1 ∷ tok kind.Indent 13 13 3 ∷ tok (kind.Name (codes "b")) 13 14 3 ∷ tok kind.Newline 14 15 3 ∷ tok kind.Dedent 15 15 4 ∷ tok (kind.Name (codes "d")) 15 16 4 ∷ tok kind.Newline 16 16 4 ∷ tok kind.End 16 16 4 ∷ []) refl

-- in brackets the end of a line gives no token, and a carriage return belongs to the newline behind it
bracketed : IsTokens (codes "(" ++ 13 ∷ 10 ∷ codes "1)" ++ 13 ∷ 10 ∷ []) (tok (kind.Sign sign.OpenParen) 0 1 1 ∷ tok (kind.Int (pos 1)) 3 4 2 ∷ tok (kind.Sign sign.CloseParen) 4 5 2 ∷ tok kind.Newline 5 7 2 ∷ tok kind.End 7 7 3 ∷ [])
unfolding tok token_list begin blank_line blank_len after_comment indent has_tab set_indent kept wider inside next_piece lexeme name name_len keyword longest_sign number digit_len value_from quoted body next_part part_of_line after_close escape hex_escape octal_escape take_piece counted finish
bracketed = tokens_found (codes "(" ++ 13 ∷ 10 ∷ codes "1)" ++ 13 ∷ 10 ∷ []) (tok (kind.Sign sign.OpenParen) 0 1 1 ∷ tok (kind.Int (pos 1)) 3 4 2 ∷ tok (kind.Sign sign.CloseParen) 4 5 2 ∷ tok kind.Newline 5 7 2 ∷ tok kind.End 7 7 3 ∷ []) refl

-- `'\x41\q'`: an escape that is none keeps its backslash
escaped : IsTokens (39 ∷ codes "\\x41\\q" ++ 39 ∷ []) (tok (kind.Str (codes "A\\q")) 0 8 1 ∷ tok kind.Newline 8 8 1 ∷ tok kind.End 8 8 1 ∷ [])
unfolding tok token_list begin blank_line blank_len after_comment indent has_tab set_indent kept wider inside next_piece lexeme name name_len keyword longest_sign number digit_len value_from quoted body next_part part_of_line after_close escape hex_escape octal_escape take_piece counted finish
escaped = tokens_found (39 ∷ codes "\\x41\\q" ++ 39 ∷ []) (tok (kind.Str (codes "A\\q")) 0 8 1 ∷ tok kind.Newline 8 8 1 ∷ tok kind.End 8 8 1 ∷ []) refl

-- `r'\''`: a quote behind a backslash does not close
raw : IsTokens (codes "r" ++ 39 ∷ 92 ∷ 39 ∷ 39 ∷ []) (tok (kind.Str (92 ∷ 39 ∷ [])) 0 5 1 ∷ tok kind.Newline 5 5 1 ∷ tok kind.End 5 5 1 ∷ [])
unfolding tok token_list begin blank_line blank_len after_comment indent has_tab set_indent kept wider inside next_piece lexeme name name_len keyword longest_sign number digit_len value_from quoted body next_part part_of_line after_close escape hex_escape octal_escape take_piece counted finish
raw = tokens_found (codes "r" ++ 39 ∷ 92 ∷ 39 ∷ 39 ∷ []) (tok (kind.Str (92 ∷ 39 ∷ [])) 0 5 1 ∷ tok kind.Newline 5 5 1 ∷ tok kind.End 5 5 1 ∷ []) refl

-- a tab in the indentation, at the first byte of its line
tab : HasFault (codes "x" ++ 10 ∷ codes " " ++ 9 ∷ codes "y") (fault.BadIndent 2)
unfolding tok token_list begin blank_line blank_len after_comment indent has_tab set_indent kept wider inside next_piece lexeme name name_len keyword longest_sign number digit_len value_from quoted body next_part part_of_line after_close escape hex_escape octal_escape take_piece counted finish
tab = fault_found (codes "x" ++ 10 ∷ codes " " ++ 9 ∷ codes "y") (fault.BadIndent 2) refl

-- an indentation between two open ones
between : HasFault (codes "if a:" ++ 10 ∷ codes "  b" ++ 10 ∷ codes " c") (fault.BadIndent 10)
unfolding tok token_list begin blank_line blank_len after_comment indent has_tab set_indent kept wider inside next_piece lexeme name name_len keyword longest_sign number digit_len value_from quoted body next_part part_of_line after_close escape hex_escape octal_escape take_piece counted finish
between = fault_found (codes "if a:" ++ 10 ∷ codes "  b" ++ 10 ∷ codes " c") (fault.BadIndent 10) refl

-- `0` and octal digits, directly followed by a digit that is none of them
leading_zero : HasFault (codes "x = 09") (fault.BadNumber 4)
unfolding tok token_list begin blank_line blank_len after_comment indent has_tab set_indent kept wider inside next_piece lexeme name name_len keyword longest_sign number digit_len value_from quoted body next_part part_of_line after_close escape hex_escape octal_escape take_piece counted finish
leading_zero = fault_found (codes "x = 09") (fault.BadNumber 4) refl

-- one more than the largest word
too_large : HasFault (codes "9223372036854775808") (fault.BadNumber 0)
unfolding tok token_list begin blank_line blank_len after_comment indent has_tab set_indent kept wider inside next_piece lexeme name name_len keyword longest_sign number digit_len value_from quoted body next_part part_of_line after_close escape hex_escape octal_escape take_piece counted finish
too_large = fault_found (codes "9223372036854775808") (fault.BadNumber 0) refl

-- an open string begins at its prefix
open_string : HasFault (codes "x = r" ++ 39 ∷ codes "a" ++ 10 ∷ 39 ∷ []) (fault.OpenString 4)
unfolding tok token_list begin blank_line blank_len after_comment indent has_tab set_indent kept wider inside next_piece lexeme name name_len keyword longest_sign number digit_len value_from quoted body next_part part_of_line after_close escape hex_escape octal_escape take_piece counted finish
open_string = fault_found (codes "x = r" ++ 39 ∷ codes "a" ++ 10 ∷ 39 ∷ []) (fault.OpenString 4) refl

-- `'\400'`, at the backslash
octal : HasFault (39 ∷ codes "\\400" ++ 39 ∷ []) (fault.BadNumber 1)
unfolding tok token_list begin blank_line blank_len after_comment indent has_tab set_indent kept wider inside next_piece lexeme name name_len keyword longest_sign number digit_len value_from quoted body next_part part_of_line after_close escape hex_escape octal_escape take_piece counted finish
octal = fault_found (39 ∷ codes "\\400" ++ 39 ∷ []) (fault.BadNumber 1) refl

-- a sign that is none
dollar : HasFault (codes "x $") (fault.BadByte 2)
unfolding tok token_list begin blank_line blank_len after_comment indent has_tab set_indent kept wider inside next_piece lexeme name name_len keyword longest_sign number digit_len value_from quoted body next_part part_of_line after_close escape hex_escape octal_escape take_piece counted finish
dollar = fault_found (codes "x $") (fault.BadByte 2) refl

-- the seventeenth bracket
brackets : HasFault (replicate 17 40) (fault.Limit limit.Brackets 16)
unfolding tok token_list begin blank_line blank_len after_comment indent has_tab set_indent kept wider inside next_piece lexeme name name_len keyword longest_sign number digit_len value_from quoted body next_part part_of_line after_close escape hex_escape octal_escape take_piece counted finish
brackets = fault_found (replicate 17 40) (fault.Limit limit.Brackets 16) refl

-- the sixty-fifth operator
operators : HasFault (codes "1" ++ flat_map (λ (n : ℕ). codes "+1") (replicate 65 0)) (fault.Limit limit.Operators 129)
unfolding tok token_list begin blank_line blank_len after_comment indent has_tab set_indent kept wider inside next_piece lexeme name name_len keyword longest_sign number digit_len value_from quoted body next_part part_of_line after_close escape hex_escape octal_escape take_piece counted finish
operators = fault_found (codes "1" ++ flat_map (λ (n : ℕ). codes "+1") (replicate 65 0)) (fault.Limit limit.Operators 129) refl

-- each sign is read whole
each_sign : map (λ (row : List ℕ × Sign). longest_sign row.0) signs ≡ map (λ (row : List ℕ × Sign). Some (row.1, [])) signs
unfolding longest_sign
each_sign = refl

-- and before a byte that continues none, as a space
each_sign_apart : map (λ (row : List ℕ × Sign). longest_sign (row.0 ++ 32 ∷ [])) signs ≡ map (λ (row : List ℕ × Sign). Some (row.1, 32 ∷ [])) signs
unfolding longest_sign
each_sign_apart = refl
