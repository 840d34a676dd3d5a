-- The shape of a rule, and the test that one token decides each choice.
use Rattle.std.specs.Prelude.{ℕ, zero, suc, ◌/◌, ◌%◌, ◌^◌, Bool, true, false, not, eqb, ltb, ◌&&◌, ◌||◌}
use Rattle.rpy_parse.specs.Kind.{kinds}

-- whether a number is in a set, which is the sum of the powers of two of its numbers
abbrev pub bit : ℕ → ℕ → Bool
bit set c = eqb (set / 2 ^ c % 2) 1

-- A rule reads nothing, a token of a kind, a token of a set of kinds, another rule, one rule and then another, one of two
-- rules, or a rule under a condition.
pub data Shape (N : Type 0) : Type 0 where
  nothing : Shape N
  one : ℕ → Shape N
  among : ℕ → Shape N
  part : N → Shape N
  both : Shape N → Shape N → Shape N
  either : Shape N → Shape N → Shape N
  only : Shape N → Shape N

-- What is claimed of the rules, by number: which may read nothing, which kinds of tokens they begin with,
-- which kinds may follow them, the order in which they begin with one another, and how high their least trees are.
pub record Tables (N : Type 0) : Type 0 where
  pub null : N → Bool
  pub first : N → ℕ → Bool
  pub follow : N → ℕ → Bool
  pub ranks : ℕ
  pub rank : N → ℕ
  pub heights : ℕ
  pub height : N → ℕ
  -- rules whose least text is given by hand
  pub by_hand : N → Bool

abbrev pub reads_none : {N : Type 0} → Tables N → Shape N → Bool
reads_none T nothing = true
reads_none T (one k) = false
reads_none T (among m) = false
reads_none T (part n) = T.null n
reads_none T (both s u) = reads_none T s && reads_none T u
reads_none T (either s u) = reads_none T s || reads_none T u
reads_none T (only s) = reads_none T s

abbrev pub begins : {N : Type 0} → Tables N → Shape N → ℕ → Bool
begins T nothing c = false
begins T (one k) c = eqb c k
begins T (among m) c = bit m c
begins T (part n) c = T.first n c
begins T (both s u) c = begins T s c || (reads_none T s && begins T u c)
begins T (either s u) c = begins T s c || begins T u c
begins T (only s) c = begins T s c

-- the kinds at which a rule is chosen, where those of f may follow it
abbrev pub chosen : {N : Type 0} → Tables N → Shape N → (ℕ → Bool) → ℕ → Bool
chosen T s f c = begins T s c || (reads_none T s && f c)

abbrev pub every : ℕ → (ℕ → Bool) → Bool
every zero p = true
every (suc n) p = p n && every n p

abbrev pub implies : Bool → Bool → Bool
implies a b = not a || b

-- one token decides each choice, where the kinds of f may follow
abbrev pub decides : {N : Type 0} → Tables N → Shape N → (ℕ → Bool) → Bool
decides T nothing f = true
decides T (one k) f = true
decides T (among m) f = true
decides T (part n) f = every kinds (λ c. implies (f c) (T.follow n c))
decides T (both s u) f = decides T u f && decides T s (chosen T u f)
decides T (either s u) f = decides T s f && (decides T u f && (not (reads_none T s && reads_none T u) && every kinds (λ c. not (chosen T s f c && chosen T u f c))))
decides T (only s) f = decides T s f

-- what stands at the beginning has a lower rank
abbrev pub ranked : {N : Type 0} → Tables N → Shape N → ℕ → Bool
ranked T nothing r = true
ranked T (one k) r = true
ranked T (among m) r = true
ranked T (part n) r = ltb (T.rank n) r
ranked T (both s u) r = ranked T s r && implies (reads_none T s) (ranked T u r)
ranked T (either s u) r = ranked T s r && ranked T u r
ranked T (only s) r = ranked T s r

-- there is a tree of less than this height without a condition
abbrev pub easy : {N : Type 0} → Tables N → Shape N → ℕ → Bool
easy T nothing h = true
easy T (one k) h = ltb k kinds
easy T (among m) h = true
easy T (part n) h = ltb (T.height n) h
easy T (both s u) h = easy T s h && easy T u h
easy T (either s u) h = easy T s h || easy T u h
easy T (only s) h = false

-- each token is of a kind of the tables
abbrev pub known : {N : Type 0} → Tables N → Shape N → Bool
known T nothing = true
known T (one k) = ltb k kinds
known T (among m) = true
known T (part n) = true
known T (both s u) = known T s && known T u
known T (either s u) = known T s && known T u
known T (only s) = known T s

-- whatever has been read of it, the rest can be read without a condition
abbrev pub finishes : {N : Type 0} → Tables N → Shape N → Bool
finishes T nothing = true
finishes T (one k) = true
finishes T (among m) = true
finishes T (part n) = true
finishes T (both s u) = finishes T s && (finishes T u && easy T u T.heights)
finishes T (either s u) = finishes T s && finishes T u
finishes T (only s) = finishes T s
