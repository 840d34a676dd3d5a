-- Where a logical line begins.
use Rattle.std.specs.Prelude.{ℕ, suc, Bool, false, ◌||◌, nat_lt, ◌==◌, if◌then◌else◌, List, [], ◌∷◌, drop, unwrap_or, Option, Some, Ok}
use Rattle.rpy_token.specs.Bytes.{Bytes, blank_len, after_newline}
use Rattle.rpy_token.specs.Fault.{Outcome, ◌>>=◌}
use Rattle.rpy_token.specs.Piece.{after_comment}

-- a newline at the front is passed over
abbrev pub past_newline : Bytes → Bytes
past_newline bytes = unwrap_or (after_newline bytes) bytes

abbrev pub blank_after : ℕ → Bytes → Outcome (Option Bytes)
blank_after size [] = Ok (Some [])
blank_after size (b ∷ bs) =
    if b == 35 then (after_comment size bs >>= λ rest. Ok (Some (past_newline rest)))
    else Ok (after_newline (b ∷ bs))

-- what follows a line of nothing but spaces, tabs and a comment, if that is what stands at the front
unfoldable pub blank_line : ℕ → Bytes → Outcome (Option Bytes)
blank_line size bytes = blank_after size (drop (blank_len bytes) bytes)

unfoldable pub has_tab : Bytes → Bool
has_tab [] = false
has_tab (b ∷ bs) = b == 9 || has_tab bs

-- The open indentations stand with the innermost first. Where none is open, the margin serves.
abbrev pub innermost : List ℕ → ℕ
innermost [] = 0
innermost (i ∷ is) = i

-- how many open indentations are wider, up to one that is not
unfoldable pub wider : ℕ → List ℕ → ℕ
wider width [] = 0
wider width (i ∷ is) = if nat_lt width i then suc (wider width is) else 0

-- and which are left without these
unfoldable pub kept : ℕ → List ℕ → List ℕ
kept width [] = []
kept width (i ∷ is) = if nat_lt width i then kept width is else i ∷ is
