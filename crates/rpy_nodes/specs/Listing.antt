-- What the modules of a program say, one after the other.
use Rattle.std.specs.Prelude.{ℕ, ◌+◌, Bool, true, false, List, [], ◌∷◌, ◌++◌, map, Option, Some, None, codes, ◌==◌, if◌then◌else◌}
use Rattle.rpy_tree.specs.declared.syntax.Expr.{Expr}
use Rattle.rpy_tree.specs.declared.syntax.Param.{Param}
use Rattle.rpy_tree.specs.declared.syntax.Function.{Function}
use Rattle.rpy_tree.specs.declared.syntax.Member.{Member, out-Member}
use Rattle.rpy_tree.specs.declared.syntax.Member.TheOpen.{Member-F}
use Rattle.rpy_tree.specs.declared.syntax.ClassDef.{ClassDef, out-ClassDef}
use Rattle.rpy_nodes.specs.Walk.{number_in, seen, skip, cut, expr, block}
use Rattle.rpy_nodes.specs.declared.event.Event.{Event}
use Rattle.rpy_nodes.specs.declared.walk.Walk.{Walk}
use Rattle.rpy_nodes.specs.declared.unit.Parameter.{Parameter}
use Rattle.rpy_nodes.specs.declared.unit.What.{What}
use Rattle.rpy_nodes.specs.declared.unit.What.TheVariants.{Import, From, Constant, Def, Class}
use Rattle.rpy_nodes.specs.declared.unit.Unit.{Unit as Listed}
use Rattle.rpy_nodes.specs.declared.unit.Listing.{Listing}
use Rattle.rpy_nodes.specs.declared.listing.Named.{Named}
use Rattle.rpy_nodes.specs.Names.{with_name}

-- the numbers of names, after those
abbrev pub numbers_onto : List ℕ → List (List ℕ) → Walk → List ℕ × Walk
numbers_onto done [] w = (done, w)
numbers_onto done (name ∷ names) w = numbers_onto (done ++ number_in w name ∷ []) names (seen w name)

abbrev pub numbers : List (List ℕ) → Walk → List ℕ × Walk
numbers names w = numbers_onto [] names w

-- a part, with the events so far cut off
abbrev pub cut_off : {A : Type 0} → (List Event → A) → Walk → A × Walk
cut_off make w = (make w.events, cut w)

abbrev pub default_of : Option Expr → Walk → Option (List Event) × Walk
default_of None w = (None, w)
default_of (Some e) w = cut_off Some (expr e w)

abbrev pub parameter_with : ℕ → ℕ → Option (List Event) × Walk → Parameter × Walk
parameter_with node name d = (record { node = node; name = name; default = d.0 }, d.1)

-- a parameter has its number before its default
abbrev pub parameter : Param → Walk → Parameter × Walk
parameter p w = parameter_with w.next (number_in w p.name) (default_of p.default (seen (skip w) p.name))

abbrev pub parameters_onto : List Parameter → List Param → Walk → List Parameter × Walk
parameters_onto done [] w = (done, w)
parameters_onto done (p ∷ ps) w = parameters_onto (done ++ (parameter p w).0 ∷ []) ps (parameter p w).1

abbrev pub parameters : List Param → Walk → List Parameter × Walk
parameters ps w = parameters_onto [] ps w

-- ---- members, each with its node

abbrev pub Said : Type 0
Said = (ℕ × What) × Walk

abbrev pub import_with : ℕ → List ℕ × Walk → Said
import_with node names = ((node, Import names.0), names.1)

abbrev pub import : List (List ℕ) → Walk → Said
import names w = import_with w.next (numbers names (skip w))

abbrev pub from_with : ℕ → List ℕ → List ℕ × Walk → Said
from_with node path names = ((node, From path names.0), names.1)

abbrev pub from_path : ℕ → List ℕ × Walk → List (List ℕ) → Said
from_path node path names = from_with node path.0 (numbers names path.1)

abbrev pub from : List (List ℕ) → List (List ℕ) → Walk → Said
from path names w = from_path w.next (numbers path (skip w)) names

abbrev pub class_with : ℕ → ℕ → List ℕ × Walk → Said
class_with node name base = ((node, Class name base.0), base.1)

abbrev pub class : ClassDef → Walk → Said
class c w = class_with w.next (number_in w (out-ClassDef c).name) (numbers (out-ClassDef c).base (seen (skip w) (out-ClassDef c).name))

-- a constant's value has its nodes before the constant's own
abbrev pub constant_with : List Event → List ℕ → Walk → Said
constant_with value name w = ((w.next, Constant (number_in w name) value), seen (skip w) name)

abbrev pub constant_after : List ℕ → Walk → Said
constant_after name w = constant_with w.events name (cut w)

abbrev pub constant : List ℕ → Expr → Walk → Said
constant name e w = constant_after name (expr e w)

abbrev pub def_body : ℕ → ℕ → List Parameter → Bool → Walk → Said
def_body node name params star w = ((node, Def name params star w.events), cut w)

abbrev pub def_with : ℕ → ℕ → List Parameter × Walk → Function → Said
def_with node name params f = def_body node name params.0 f.star (block f.body params.1)

-- a function has its number before its parts
abbrev pub function : Function → Walk → Said
function f w = def_with w.next (number_in w f.name) (parameters f.params (seen (skip w) f.name)) f

abbrev pub said : Member-F Member ClassDef → Walk → Said
said (Member-F.Import n names) w = import names w
said (Member-F.From n path names) w = from path names w
said (Member-F.Const n name e) w = constant name e w
said (Member-F.Def f) w = function f w
said (Member-F.Class c) w = class c w

abbrev pub member : Member → Walk → Said
member m w = said (out-Member m) w

-- ---- the members of modules

abbrev pub Units : Type 0
Units = List Listed × Walk

abbrev pub unit_of : ℕ → ℕ → Bool → ℕ × What → Listed
unit_of file place inside what = record { file = file; place = place; inside = inside; node = what.0; what = what.1 }

-- a member is listed after those
abbrev pub list_said : ℕ → ℕ → Bool → List Listed → Said → Units
list_said file place inside units s = (units ++ unit_of file place inside s.0 ∷ [], s.1)

abbrev pub list_inside : ℕ → ℕ → List Member → Units → Units
list_inside file place [] u = u
list_inside file place (m ∷ ms) u = list_inside file place ms (list_said file place true u.0 (member m u.1))

abbrev pub inside_of : Member-F Member ClassDef → List Member
inside_of (Member-F.Class c) = (out-ClassDef c).members
inside_of other = []

abbrev pub body_of : Member → List Member
body_of m = inside_of (out-Member m)

abbrev pub list_whole : ℕ → ℕ → Member → Units → Units
list_whole file place m u = list_inside file place (body_of m) (list_said file place false u.0 (member m u.1))

-- the members of a module, from this place on
abbrev pub list_members : ℕ → ℕ → List Member → Units → Units
list_members file place [] u = u
list_members file place (m ∷ ms) u = list_members file (place + 1) ms (list_whole file place m u)

abbrev pub list_modules : ℕ → List Named → Units → Units
list_modules file [] u = u
list_modules file (m ∷ ms) u = list_modules (file + 1) ms (list_members file 0 m.module.members u)

-- the numbers of the modules' own names
abbrev pub module_names : List Named → Walk → List ℕ × Walk
module_names ms w = numbers (map (λ m. m.name) ms) w

-- ---- the whole

abbrev pub Seen : Type 0
Seen = List (List ℕ) × List ℕ

-- a name ends with a space
abbrev pub see_byte : ℕ → Seen → Seen
see_byte b s = if b == 32 then (with_name s.0 s.1, []) else (s.0, s.1 ++ b ∷ [])

abbrev pub see_from : List ℕ → Seen → Seen
see_from [] s = s
see_from (b ∷ bs) s = see_from bs (see_byte b s)

abbrev pub see_words : List ℕ → List (List ℕ)
see_words words = (see_from words ([], [])).0

-- the names that the language knows are seen first, so their numbers are known
abbrev pub known : List (List ℕ)
known = see_words (codes "None True False os sys rpython rlib rarithmetic ovfcheck intmask write maxint object Exception StandardError ArithmeticError OverflowError ZeroDivisionError LookupError IndexError KeyError ValueError AttributeError AssertionError RuntimeError NotImplementedError len ord chr str int bool min max isinstance range xrange split keys values items iterkeys itervalues iteritems entry_point ")

abbrev pub start : Walk
start = record { names = known; next = 0; events = [] }

abbrev pub listing_of : List ℕ → Units → Listing
listing_of names u = record { names = u.1.names; modules = names; nodes = u.1.next; units = u.0 }

abbrev pub list_named : List Named → List ℕ × Walk → Listing
list_named ms names = listing_of names.0 (list_modules 0 ms ([], names.1))

-- the names of the modules are seen next, then their members in order
abbrev pub listing : List Named → Listing
listing ms = list_named ms (module_names ms start)
