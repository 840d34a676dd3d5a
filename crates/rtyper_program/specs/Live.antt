-- What the rest of a block reads before it sets it, each variable once, in the order in which it is met.
use Rattle.std.specs.Prelude.{ℕ, ◌&&◌, not, if◌then◌else◌, List, [], ◌∷◌, ◌++◌, map, Option, Some, None}
use Rattle.csub_tree.specs.declared.tree.COperand.{COperand}
use Rattle.csub_tree.specs.declared.tree.COperand.TheVariants.{Var}
use Rattle.ll_code.specs.declared.program.LlOp.{LlOp}
use Rattle.ll_live.specs.Live.{among, variables_in, reads, set_by}

abbrev pub with_one : ℕ → List ℕ → List ℕ → List ℕ
with_one v set into = if not (among v set) && not (among v into) then into ++ v ∷ [] else into

-- with those variables that are not set and are not there
abbrev pub with_new : List ℕ → List ℕ → List ℕ → List ℕ
with_new [] set into = into
with_new (v ∷ variables) set into = with_new variables set (with_one v set into)

abbrev pub with_set : Option ℕ → List ℕ → List ℕ
with_set None set = set
with_set (Some a) set = set ++ a ∷ []

-- what operations and these operands behind them read, where some variables are set and some are met
abbrev pub live_from : List LlOp → List COperand → List ℕ → List ℕ → List ℕ
live_from [] further set met = with_new (variables_in further) set met
live_from (o ∷ ops) further set met = live_from ops further (with_set (set_by o) set) (with_new (reads o) set met)

-- the variables that links pass on, and those that the operations before them read before they set them; where an operation may raise, the first link
-- is taken from there
unfoldable pub live : List LlOp → List COperand → List COperand → List ℕ
live ops by further = live_from ops further [] (with_new (variables_in by) [] [])

abbrev pub operands : List ℕ → List COperand
operands variables = map Var variables
