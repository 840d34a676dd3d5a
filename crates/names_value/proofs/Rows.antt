-- Worked rows of constants, which compute.
use Rattle.std.proofs.Common.{◌≡◌, ℕ, List, [], ◌∷◌, Option, Some, None, false, refl}
use Rattle.std.specs.Prelude.{ℤ, pos, negsuc, codes}
use Rattle.rpy_tree.specs.declared.syntax.BinOp.TheVariants as binop
use Rattle.rpy_tree.specs.declared.program.Const.{Const}
use Rattle.rpy_tree.specs.declared.program.Const.TheVariants as const
use Rattle.rpy_nodes.specs.declared.event.Act.{Act}
use Rattle.rpy_nodes.specs.declared.event.Act.TheVariants as act
use Rattle.names_bound.specs.declared.stand.Stand.TheVariants as stand
use Rattle.names_found.specs.declared.step.Called.{Called}
use Rattle.names_found.specs.declared.step.Called.TheVariants as called
use Rattle.names_found.specs.declared.step.Step.{Step}
use Rattle.names_value.specs.Arithmetic.{word_binary}
use Rattle.names_value.specs.Machine.{run, run_words, start}
use Rattle.names_value.specs.declared.machine.Machine.{Machine}

-- the true result of 1 << 63 is no word, that of -1 << 63 is the smallest
shift_past : word_binary binop.Shl (pos 1) (pos 63) ≡ None
shift_past = refl

shift_to_smallest : word_binary binop.Shl (negsuc 0) (pos 63) ≡ Some (negsuc 9223372036854775807)
shift_to_smallest = refl

shift_by_64 : word_binary binop.Shr (pos 1) (pos 64) ≡ None
shift_by_64 = refl

sum_past : word_binary binop.Add (pos 9223372036854775807) (pos 1) ≡ None
sum_past = refl

floor : word_binary binop.FloorDiv (negsuc 6) (pos 2) ≡ Some (negsuc 3)
floor = refl

sign_of_divisor : word_binary binop.Mod (pos 7) (negsuc 1) ≡ Some (negsuc 0)
sign_of_divisor = refl

by_zero : word_binary binop.Mod (pos 7) (pos 0) ≡ None
by_zero = refl

smallest_by_minus_one : word_binary binop.Div (negsuc 9223372036854775807) (negsuc 0) ≡ None
smallest_by_minus_one = refl

abbrev step : ℕ → Act → Called → ℕ → Step
step node a c site = record { node = node; act = a; stand = stand.Nothing; late = false; called = c; site = site }

-- [1, 2] is the list of site 7, which has the two items
list_of_two : run [] [] (step 0 (act.Int (pos 1)) called.Plain 7 ∷ step 1 (act.Int (pos 2)) called.Plain 7 ∷ step 2 (act.List 2) called.Plain 7 ∷ []) (start [] [])
    ≡ record { slots = record { node = 2; value = Some (const.List 7) } ∷ []; prebuilt = record { site = 7; pairs = (const.None, const.Word (pos 1)) ∷ (const.None, const.Word (pos 2)) ∷ [] } ∷ []; roots = []; fault = None }
list_of_two = refl

-- range(n, m, 2): the step has its value at its node
step_of_a_range : (run_words [] (step 0 (act.Name 0) called.Plain 0 ∷ step 1 (act.Name 1) called.Plain 0 ∷ step 2 (act.Name 2) called.Plain 0 ∷ step 3 (act.Int (pos 2)) called.Plain 0 ∷ step 4 (act.Call 3) called.Range 0 ∷ []) (start [] [])).roots
    ≡ record { node = 3; value = const.Word (pos 2) } ∷ []
step_of_a_range = refl
