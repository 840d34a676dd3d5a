-- Calls, and whether the functions that they reach take their arguments.
use Rattle.std.specs.Prelude.{ℕ, ◌+◌, ◌-◌, ◌==◌, ◌||◌, ◌&&◌, not, nat_le, Bool, true, false, if◌then◌else◌, List, [], ◌∷◌, ◌++◌, length, Option, Some, None}
use Rattle.rpy_meaning.specs.declared.row.RowOp.{RowOp}
use Rattle.rpy_meaning.specs.declared.row.RowOp.TheVariants as row
use Rattle.flow_graph.specs.declared.graph.Op.{Op}
use Rattle.ann_element.specs.declared.element.Element.{Element, out-Element}
use Rattle.ann_element.specs.declared.element.Element.TheOpen.{Element-F}
use Rattle.class_desc.specs.Line.{is_below, method, init}
use Rattle.class_desc.specs.Tables.{Tables}
use Rattle.rtyper_core.specs.Arity.{arity_at}
use Rattle.rtyper_core.specs.Modify.{operand}
use Rattle.rtyper_core.specs.declared.arity.Arity.{Arity}
use Rattle.rtyper_core.specs.declared.call.Reach.{Reach}

abbrev pub is_among : List ℕ → ℕ → Bool
is_among [] f = false
is_among (g ∷ gs) f = if g == f then true else is_among gs f

-- each function once
abbrev pub with_function : Option ℕ → List ℕ → List ℕ
with_function None functions = functions
with_function (Some f) functions = if is_among functions f then functions else functions ++ f ∷ []

abbrev pub with_made : Tables → ℕ → List ℕ → ℕ → Bool → List ℕ → List ℕ
with_made t receiver name c made functions =
    if made && is_below t.classes c receiver then with_function (method t.classes c name) functions else functions

abbrev pub methods_from : Tables → ℕ → List ℕ → ℕ → List Bool → List ℕ → List ℕ
methods_from t receiver name c [] functions = functions
methods_from t receiver name c (made ∷ rest) functions = methods_from t receiver name (c + 1) rest (with_made t receiver name c made functions)

-- the nearest methods of the classes that have instances and are the receiver's class or below it
abbrev pub methods : Tables → List Bool → ℕ → List ℕ → List ℕ
methods t made receiver name = methods_from t receiver name 0 made []

abbrev pub functions_of : Element-F Element → List ℕ
functions_of (Element-F.Func functions none) = functions
functions_of other = []

abbrev pub functions_in : Element → List ℕ
functions_in e = functions_of (out-Element e)

abbrev pub functions_at : Option Element → List ℕ
functions_at None = []
functions_at (Some e) = functions_in e

abbrev pub methods_of : Tables → List Bool → List ℕ → Element-F Element → List ℕ
methods_of t made name (Element-F.Instance class none) = methods t made class name
methods_of t made name other = []

abbrev pub methods_on : Tables → List Bool → Element → List ℕ → List ℕ
methods_on t made e name = methods_of t made name (out-Element e)

abbrev pub methods_at : Tables → List Bool → List ℕ → Option Element → List ℕ
methods_at t made name None = []
methods_at t made name (Some e) = methods_on t made e name

abbrev pub single : Option ℕ → List ℕ
single f = with_function f []

abbrev pub reached : List ℕ → ℕ → Reach
reached functions given = record { functions = functions; given = given }

abbrev pub reach_by : Tables → List Bool → List Element → List ℕ → RowOp → Reach
reach_by t made es args (row.Call f) = reached (single (Some f)) (length args)
reach_by t made es args (row.CallOf c f) = reached (single (Some f)) (length args)
reach_by t made es args row.CallValue = reached (functions_at (operand es args 0)) (length args - 1)
reach_by t made es args (row.New c) = reached (single (init t.classes c)) (length args + 1)
reach_by t made es args (row.Method name site) = reached (methods_at t made name (operand es args 0)) (length args)
reach_by t made es args other = reached [] 0

-- the functions that an operation calls, and how many arguments it gives: a new instance counts, and the value that is called does not
abbrev pub reach : Tables → List Bool → List Element → Op → Reach
reach t made es op = reach_by t made es op.args op.op

-- a single function takes as many arguments as it has parameters, those with a default aside
abbrev pub takes : Arity → ℕ → Bool
takes a given = not a.star && nat_le a.required given && nat_le given a.params

-- of several functions each has as many parameters as there are arguments
abbrev pub take_alike : List Arity → List ℕ → ℕ → Bool
take_alike arities [] given = true
take_alike arities (f ∷ fs) given =
    if (arity_at arities f).star || not ((arity_at arities f).params == given) then false else take_alike arities fs given

abbrev pub fit : List Arity → List ℕ → ℕ → Bool
fit arities [] given = true
fit arities (f ∷ []) given = takes (arity_at arities f) given
fit arities (f ∷ g ∷ fs) given = take_alike arities (f ∷ g ∷ fs) given

abbrev pub fits : List Arity → Reach → Bool
fits arities r = fit arities r.functions r.given
