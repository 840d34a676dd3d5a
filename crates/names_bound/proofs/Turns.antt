-- One more turn of a walk along bases or imports.
use Rattle.std.proofs.Common.{◌≡◌, ℕ, suc, ◌+◌, ◌-◌, ◌<◌, Bool, true, List, Option, arith, refl}
use Rattle.names_bound.specs.Base.{back_at, back_from}
use Rattle.names_bound.specs.Scopes.{follow_from, follow_binding, member_from, or_at_base, base_in, stand_in, below_at, below_from}
use Rattle.names_bound.specs.Clash as clash
use Rattle.names_bound.specs.Clash.{declares_from, inherits_from, is_among}
use Rattle.std.specs.Prelude.{◌==◌, not}
use Rattle.names_bound.specs.Table.{Entries, look, is_fresh}

pub back_turn : (bases : List (Option ℕ)) (class n i : ℕ) (at : Option ℕ) → i < n → back_from bases class (n - i) at ≡ back_at (back_from bases class (n - (i + 1))) bases class at
back_turn bases class n i at lt = let e : n - i ≡ suc (n - (i + 1)) = omega arith in rw e refl

pub follow_turn : (es : Entries) (n i : ℕ) (followed : Bool) (file name : ℕ) → i < n → follow_from es (n - i) followed file name ≡ follow_binding (follow_from es (n - (i + 1)) true) followed (look es file name)
follow_turn es n i followed file name lt = let e : n - i ≡ suc (n - (i + 1)) = omega arith in rw e refl

pub member_turn : (es : Entries) (bases : List (Option ℕ)) (n i class name : ℕ) → i < n → member_from es bases (n - i) class name ≡ or_at_base (λ c. member_from es bases (n - (i + 1)) c name) (base_in bases class) (stand_in (look es class name))
member_turn es bases n i class name lt = let e : n - i ≡ suc (n - (i + 1)) = omega arith in rw e refl

pub declares_turn : (es : Entries) (bases : List (Option ℕ)) (name n i class : ℕ) → i < n → declares_from es bases name (n - i) class ≡ clash.or_at_base (declares_from es bases name (n - (i + 1))) (base_in bases class) (not (is_fresh es class name))
declares_turn es bases name n i class lt = let e : n - i ≡ suc (n - (i + 1)) = omega arith in rw e refl

pub inherits_turn : (bases : List (Option ℕ)) (classes : List ℕ) (n i class : ℕ) → i < n → inherits_from bases classes (n - i) class ≡ clash.or_at_base (inherits_from bases classes (n - (i + 1))) (base_in bases class) (is_among classes class)
inherits_turn bases classes n i class lt = let e : n - i ≡ suc (n - (i + 1)) = omega arith in rw e refl

pub below_turn : (bases : List (Option ℕ)) (above n i class : ℕ) → i < n → below_from bases above (n - i) class ≡ below_at (below_from bases above (n - (i + 1))) (base_in bases class) (class == above)
below_turn bases above n i class lt = let e : n - i ≡ suc (n - (i + 1)) = omega arith in rw e refl
