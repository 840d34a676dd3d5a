-- The values of all constants, and the faults of those that have none.
use Rattle.std.specs.Prelude.{ℕ, zero, suc, ◌+◌, ◌-◌, Bool, true, false, if◌then◌else◌, nat_lt, List, [], ◌∷◌, ◌++◌, length, slice_get, slice_set, Option, Some, None}
use Rattle.rpy_tree.specs.declared.program.Const.{Const, out-Const}
use Rattle.rpy_tree.specs.declared.program.Const.TheOpen.{Const-F}
use Rattle.names_bound.specs.Fault.{lesser, fault_if}
use Rattle.names_bound.specs.declared.declare.ConstantAt.{ConstantAt}
use Rattle.names_bound.specs.declared.fault.Fault.{Fault}
use Rattle.names_bound.specs.declared.fault.FaultKind.TheVariants as fault
use Rattle.names_found.specs.declared.step.Step.{Step}
use Rattle.names_found.specs.declared.unit.Default.{Default}
use Rattle.names_found.specs.declared.unit.Found.{Found}
use Rattle.names_value.specs.Machine.{run, run_words, start}
use Rattle.names_value.specs.Slots.{last_slot, without_last}
use Rattle.names_value.specs.declared.constants.Checked.{Checked}
use Rattle.names_value.specs.declared.constants.Values.{Values}
use Rattle.names_value.specs.declared.machine.Machine.{Machine}
use Rattle.names_value.specs.declared.machine.Prebuilt.{Prebuilt}
use Rattle.names_value.specs.declared.machine.Root.{Root}

abbrev pub steps_in : Option Found → List Step
steps_in None = []
steps_in (Some f) = f.value

abbrev pub steps_of : List Found → ℕ → List Step
steps_of found unit = steps_in (slice_get found unit)

abbrev pub open_at : Option (Option Const) → Bool
open_at None = false
open_at (Some None) = true
open_at (Some (Some c)) = false

abbrev pub is_open : List (Option Const) → ℕ → Bool
is_open values number = open_at (slice_get values number)

abbrev pub value_at_end : Machine → Option Const × Machine
value_at_end m = ((last_slot m.slots).value, record m { slots = without_last m.slots })

-- the value that waits at the end of these steps
abbrev pub value_after : List (List ℕ) → List (Option Const) → List Step → Machine → Option Const × Machine
value_after names values steps m = value_at_end (run names values steps m)

-- ---- rounds

abbrev pub put_if : Bool → ℕ → Const → Values → Values
put_if is number c v = if is then record v { constants = slice_set v.constants number (Some c); changed = true } else v

abbrev pub put : ℕ → Option Const → Values → Values
put number None v = v
put number (Some c) v = put_if (nat_lt number (length v.constants)) number c v

abbrev pub settle_with : ℕ → Option Const × Machine → Values → Values
settle_with number r v = put number r.0 (record v { prebuilt = r.1.prebuilt })

-- a constant is tried with the values so far
abbrev pub settle : List (List ℕ) → ℕ → List Step → Values → Values
settle names number steps v = settle_with number (value_after names v.constants steps (start v.prebuilt [])) v

abbrev pub settle_open : List (List ℕ) → ℕ → List Step → Values → Values
settle_open names number steps v = if is_open v.constants number then settle names number steps v else v

abbrev pub pass_from : List (List ℕ) → List Found → ℕ → List ConstantAt → Values → Values
pass_from names found number [] v = v
pass_from names found number (c ∷ cs) v = pass_from names found (number + 1) cs (settle_open names number (steps_of found c.unit) v)

-- each constant that has no value yet is tried, in the order of the text
abbrev pub pass : List (List ℕ) → List Found → List ConstantAt → Values → Values
pass names found cs v = pass_from names found 0 cs (record v { changed = false })

abbrev pub none_yet : ℕ → List (Option Const)
none_yet zero = []
none_yet (suc n) = none_yet n ++ None ∷ []

-- until a round finds no value; each finds one, so there are no more rounds than constants
abbrev pub rounds : List (List ℕ) → List Found → List ConstantAt → ℕ → Values → Values
rounds names found cs zero v = v
rounds names found cs (suc n) v = if v.changed then rounds names found cs n (pass names found cs v) else v

abbrev pub constant_values : List (List ℕ) → List Found → List ConstantAt → Values
constant_values names found cs = rounds names found cs (length cs) (record { constants = none_yet (length cs); prebuilt = []; changed = true })

-- ---- what has to be constant

abbrev pub node_in : Option Step → ℕ
node_in None = 0
node_in (Some s) = s.node

abbrev pub last_node : List Step → ℕ
last_node steps = node_in (slice_get steps (length steps - 1))

abbrev pub function_layer : Const-F Const → Bool
function_layer (Const-F.Function f) = true
function_layer other = false

abbrev pub is_function : Const → Bool
is_function c = function_layer (out-Const c)

-- a function may not be a class-level constant
abbrev pub class_fault : Option ℕ → Const → ℕ → Option Fault
class_fault None c node = None
class_fault (Some class) c node = fault_if (is_function c) node fault.BadConstant

abbrev pub add_fault : Option Fault → Checked → Checked
add_fault f w = record w { fault = lesser w.fault f }

abbrev pub add_root : ℕ → Option Const → Checked → Checked
add_root node None w = add_fault (Some (record { node = node; kind = fault.BadConstant })) w
add_root node (Some c) w = record w { roots = w.roots ++ record { node = node; value = c } ∷ [] }

abbrev pub add_ended : ℕ → Option Const × Machine → Checked → Checked
add_ended node r w = add_root node r.0 (add_fault r.1.fault (record w { prebuilt = r.1.prebuilt }))

abbrev pub add_expression : List (List ℕ) → List (Option Const) → List Step → Checked → Checked
add_expression names values steps w = add_ended (last_node steps) (value_after names values steps (start w.prebuilt [])) w

abbrev pub add_steps : List (List ℕ) → List (Option Const) → Option (List Step) → Checked → Checked
add_steps names values None w = w
add_steps names values (Some steps) w = add_expression names values steps w

abbrev pub add_default : List (List ℕ) → List (Option Const) → Default → Checked → Checked
add_default names values d w = add_steps names values d.steps w

abbrev pub add_defaults : List (List ℕ) → List (Option Const) → List Default → Checked → Checked
add_defaults names values [] w = w
add_defaults names values (d ∷ ds) w = add_defaults names values ds (add_default names values d w)

abbrev pub add_ran : Machine → Checked → Checked
add_ran m w = add_fault m.fault (record w { roots = m.roots })

-- the steps of ranges in a body have values
abbrev pub add_body : List (Option Const) → List Step → Checked → Checked
add_body values steps w = add_ran (run_words values steps (start [] w.roots)) w

abbrev pub add_value : Option ℕ → ℕ → Const → Checked → Checked
add_value class node c w = add_root node (Some c) (add_fault (class_fault class c node) w)

abbrev pub add_settled : Option (Option Const) → List (List ℕ) → List (Option Const) → Option ℕ → List Step → Checked → Checked
add_settled None names values class steps w = add_expression names values steps w
add_settled (Some None) names values class steps w = add_expression names values steps w
add_settled (Some (Some c)) names values class steps w = add_value class (last_node steps) c w

abbrev pub add_constant : List (List ℕ) → List (Option Const) → Option ℕ → ℕ → List Step → Checked → Checked
add_constant names values class number steps w = add_settled (slice_get values number) names values class steps w

abbrev pub add_constants : ℕ → List (List ℕ) → List (Option Const) → List Found → List ConstantAt → Checked → Checked
add_constants number names values found [] w = w
add_constants number names values found (c ∷ cs) w = add_constants (number + 1) names values found cs (add_constant names values c.class number (steps_of found c.unit) w)

abbrev pub add_unit : List (List ℕ) → List (Option Const) → Found → Checked → Checked
add_unit names values u w = add_body values u.body (add_defaults names values u.defaults w)

abbrev pub add_units : List (List ℕ) → List (Option Const) → List Found → Checked → Checked
add_units names values [] w = w
add_units names values (u ∷ us) w = add_units names values us (add_unit names values u w)

abbrev pub bad_constants : List (List ℕ) → List (Option Const) → List Found → List ConstantAt → Checked
bad_constants names values found cs = add_units names values found (add_constants 0 names values found cs (record { roots = []; prebuilt = []; fault = None }))
