-- Operations that change nothing.
use Rattle.std.specs.Prelude.{◌≡◌, Bool}
use Rattle.rpy_tree.specs.Value.{Flag}
use Rattle.rpy_meaning.specs.World.{World, Answer, Gives, Throws, Fails, Lacks, Enters, Bad}

-- the world is left as it is, nothing is paid, and no function is called
abbrev pub Leaves : World → Answer → Type 0
Leaves w (Gives v w') = w' ≡ w
Leaves w (Throws exception w') = w' ≡ w
Leaves w (Fails name) = Unit {0}
Leaves w Lacks = ⊥
Leaves w (Enters function args instead w') = ⊥
Leaves w Bad = Unit {0}

-- and what is given is a truth value
abbrev pub Tells : World → Answer → Type 0
Tells w (Gives v w') = (w' ≡ w) × ((b : Bool) × (v ≡ Flag b))
Tells w (Throws exception w') = w' ≡ w
Tells w (Fails name) = Unit {0}
Tells w Lacks = ⊥
Tells w (Enters function args instead w') = ⊥
Tells w Bad = Unit {0}
