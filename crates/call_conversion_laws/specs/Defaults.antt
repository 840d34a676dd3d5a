-- Constants that stand in for missing arguments.
use Rattle.std.specs.Prelude.{◌≡◌, ℕ, ◌+◌, List, [], ◌∷◌, length, map, slice_get, Option, Some, None, option_map}
use Rattle.ann_element.specs.declared.element.Element.{Element}
use Rattle.rpy_resolved.specs.declared.tree.Function.{Function}
use Rattle.rpy_tree.specs.declared.program.Const.{Const}
use Rattle.rpy_meaning.specs.Operations.{constant}
use Rattle.rpy_meaning.specs.Tree.{Function as MeantFunction}
use Rattle.rtyper_layout.specs.Types.{type_of}
use Rattle.rtyper_op.specs.Calls.{stand_in}
use Rattle.rtyper_data.specs.declared.found.Found.{Found}
use Rattle.rtyper_data.specs.Seen.{Around}
use Rattle.object_laws.specs.Known.{Known}
use Rattle.conversion_laws.specs.Constants.{IsValue}

abbrev pub defaults_of : Option Function → List (Option Const)
defaults_of None = []
defaults_of (Some function) = function.defaults

-- the parameter with this number has a default, which is a value of which this is known
pub record IsDefault (around : Around) (known : Known) (function : Option Function) (i : ℕ) (e : Element) : Type 0 where
  pub constant : Const
  pub has : slice_get (defaults_of function) i ≡ Some (Some constant)
  pub is : IsValue around known (Some e) constant

-- those from a number on
abbrev pub AllDefault : Around → Known → Option Function → ℕ → List Element → Type 0
AllDefault around known function i [] = Unit {0}
AllDefault around known function i (e ∷ es) = IsDefault around known function i e × AllDefault around known function (i + 1) es

-- what has been asked for behind them
abbrev pub stood_in : Around → Option Function → ℕ → List Element → Found → Found
stood_in around function i [] found = found
stood_in around function i (e ∷ es) found = stood_in around function (i + 1) es (stand_in around function i (type_of around.layout e) found).1

-- the function has so many parameters, and in the meaning of the program the same defaults
pub record HasDefaults (known : Known) (f : ℕ) (function : Option Function) (params : List Element) : Type 0 where
  pub long : length (defaults_of function) ≡ length params
  pub same : (meant : MeantFunction) → slice_get known.program.functions f ≡ Some meant → meant.defaults ≡ map (option_map (constant known.program.sites)) (defaults_of function)
