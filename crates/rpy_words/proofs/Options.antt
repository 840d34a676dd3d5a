-- The options of a run, with so many turns left and with none.
use Rattle.std.proofs.Common.{◌≡◌, ℕ, suc, ◌-◌, ◌<◌, Bool, Option, Some, ap, arith}
use Rattle.rpy_words.specs.Command.{Opted, read_options, read_option, go_on}

pub options_none : (n : ℕ) (reports : Bool) (o : Opted) → n ≡ 0 → read_options n reports o ≡ Some o
unfolding read_options
options_none n reports o none = ap (λ n. read_options n reports o) none

pub options_some : (n : ℕ) (reports : Bool) (o : Opted) → 0 < n → read_options n reports o ≡ go_on (read_options (n - 1) reports) o (read_option reports o o.rest)
unfolding read_options
options_some n reports o some = let e : n ≡ suc (n - 1) = omega arith in ap (λ n. read_options n reports o) e
