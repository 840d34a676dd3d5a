-- The code lists the members of a program.
use Rattle.std.proofs.Common.{◌≡◌, ℕ, ◌+◌, List, [], ◌∷◌, ◌++◌, map, Option, Some, None, append_assoc, append-nil, sym, ap, ◌∙◌, arith}
use Rattle.rpy_tree.specs.declared.syntax.Expr.{Expr}
use Rattle.rpy_tree.specs.declared.syntax.Stmt.{Stmt}
use Rattle.rpy_tree.specs.declared.syntax.Param.{Param}
use Rattle.rpy_tree.specs.declared.syntax.Function.{Function}
use Rattle.rpy_tree.specs.declared.syntax.Member.{Member}
use Rattle.rpy_tree.specs.declared.syntax.Member.TheOpen.{Member-F}
use Rattle.rpy_tree.specs.declared.syntax.ClassDef.{ClassDef, out-ClassDef}
use Rattle.rpy_nodes.specs.Names.{number, with_name}
use Rattle.rpy_nodes.specs.declared.unit.What.TheVariants as say
use Rattle.rpy_nodes.specs.Walk as walk
use Rattle.rpy_nodes.specs.Listing as code
use Rattle.rpy_nodes.specs.declared.event.Event.{Event}
use Rattle.rpy_nodes.specs.declared.unit.Parameter.{Parameter}
use Rattle.rpy_nodes.specs.declared.walk.Walk.{Walk}
use Rattle.names_rules.specs.Order as order
use Rattle.names_rules.specs.Numbering.{nodes, said}
use Rattle.names_rules.specs.Events.{Names, events, see}
use Rattle.names_rules.specs.Members.{formal, formal_nodes, formal_said, formals, formals_nodes, formals_said, default_items, default_at, what, node, member_nodes, member_said}
use Rattle.names_rules.specs.Listed.{standing, parameter, numbers, default_events, says}
use Rattle.names_rules.proofs.Names.{number_stays, see_append}
use Rattle.names_rules.proofs.Numbered.{over_items}
use Rattle.names_rules.proofs.Walked.{after_expr, after_block}

-- the number of a name when it is seen is that in every later table
pub seen_number : (names : Names) (name : List ℕ) (mid later : Names) → number names name ≡ number (see later (see (name ∷ mid) names)) name
seen_number names name mid later = sym (number_stays names name (mid ++ later)) ∙ ap (λ t. number t name) (see_append mid later (with_name names name))

abbrev walked : List (List ℕ) → ℕ → List Event → Walk
walked names n es = record { names = names; next = n; events = es }

pub walked_expr : (e : Expr) (later names : Names) (n : ℕ) → walk.expr e (standing names n) ≡ walked (see (said (order.expr e)) names) (n + nodes (order.expr e)) (events (see later (see (said (order.expr e)) names)) n (order.expr e))
walked_expr e later names n = sym (after_expr e (standing names n)) ∙ over_items (order.expr e) later (standing names n)

pub walked_block : (b : List Stmt) (later names : Names) (n : ℕ) → walk.block b (standing names n) ≡ walked (see (said (order.block b)) names) (n + nodes (order.block b)) (events (see later (see (said (order.block b)) names)) n (order.block b))
walked_block b later names n = sym (after_block b (standing names n)) ∙ over_items (order.block b) later (standing names n)

-- ---- lists of names

numbers_onto : (of : List (List ℕ)) (done : List ℕ) (later names : Names) (n : ℕ) → code.numbers_onto done of (standing names n) ≡ (done ++ numbers (see later (see of names)) of, standing (see of names) n)
numbers_onto [] done later names n = λ j. (sym (append-nil done) j, standing names n)
numbers_onto (name ∷ of) done later names n = numbers_onto of (done ++ number names name ∷ []) later (with_name names name) n
    ∙ (λ j. (append_assoc done (number names name ∷ []) (numbers (see later (see (name ∷ of) names)) of) j, standing (see (name ∷ of) names) n))
    ∙ (λ j. (done ++ (seen_number names name of later j ∷ numbers (see later (see (name ∷ of) names)) of), standing (see (name ∷ of) names) n))

pub numbers_is : (of : List (List ℕ)) (later names : Names) (n : ℕ) → code.numbers of (standing names n) ≡ (numbers (see later (see of names)) of, standing (see of names) n)
numbers_is of later names n = numbers_onto of [] later names n

-- ---- parameters

pub no_more : (n : ℕ) → n ≡ n + 0
no_more n = omega arith

one_more : (n : ℕ) → n + 1 ≡ n + (1 + 0)
one_more n = omega arith

after_one : (n k : ℕ) → (n + 1) + k ≡ n + (1 + k)
after_one n k = omega arith

parameter_by : (name : List ℕ) (d : Option Expr) (later names : Names) (n : ℕ) → code.parameter_with n (number names name) (code.default_of d (standing (with_name names name) (n + 1)))
    ≡ (record { node = n; name = number (see later (see (name ∷ said (default_items d)) names)) name; default = default_events (see later (see (name ∷ said (default_items d)) names)) (default_at (n + 1) d) }, standing (see (name ∷ said (default_items d)) names) (n + (1 + nodes (default_items d))))
parameter_by name None later names n = λ j. (record { node = n; name = seen_number names name [] later j; default = None }, standing (with_name names name) (one_more n j))
parameter_by name (Some e) later names n = ap (λ w. code.parameter_with n (number names name) (code.cut_off Some w)) (walked_expr e later (with_name names name) (n + 1))
    ∙ (λ j. (record { node = n; name = seen_number names name (said (order.expr e)) later j; default = Some (events (see later (see (name ∷ said (order.expr e)) names)) (n + 1) (order.expr e)) }, standing (see (name ∷ said (order.expr e)) names) (after_one n (nodes (order.expr e)) j)))

pub parameter_is : (p : Param) (later names : Names) (n : ℕ) → code.parameter p (standing names n) ≡ (parameter (see later (see (formal_said p) names)) (formal n p), standing (see (formal_said p) names) (n + formal_nodes p))
parameter_is p later names n = parameter_by p.name p.default later names n

-- ---- one thing said after another

pub see_rest : (xs ys later names : Names) → see later (see ys (see xs names)) ≡ see later (see (xs ++ ys) names)
see_rest xs ys later names = ap (see later) (sym (see_append xs ys names))

pub see_first : (xs ys later names : Names) → see (ys ++ later) (see xs names) ≡ see later (see (xs ++ ys) names)
see_first xs ys later names = see_append ys later (see xs names) ∙ see_rest xs ys later names

pub sum_three : (n a b : ℕ) → (n + a) + b ≡ n + (a + b)
sum_three n a b = omega arith

parameters_onto : (ps : List Param) (done : List Parameter) (later names : Names) (n : ℕ) → code.parameters_onto done ps (standing names n)
    ≡ (done ++ map (parameter (see later (see (formals_said ps) names))) (formals n ps), standing (see (formals_said ps) names) (n + formals_nodes ps))
parameters_onto [] done later names n = λ j. (sym (append-nil done) j, standing names (no_more n j))
parameters_onto (p ∷ ps) done later names n =
    ap (λ r. code.parameters_onto (done ++ r.0 ∷ []) ps r.1) (parameter_is p (formals_said ps ++ later) names n)
    ∙ parameters_onto ps (done ++ parameter (see (formals_said ps ++ later) (see (formal_said p) names)) (formal n p) ∷ []) later (see (formal_said p) names) (n + formal_nodes p)
    ∙ (λ j. (append_assoc done (parameter (see (formals_said ps ++ later) (see (formal_said p) names)) (formal n p) ∷ []) (map (parameter (see later (see (formals_said ps) (see (formal_said p) names)))) (formals (n + formal_nodes p) ps)) j, standing (see (formals_said ps) (see (formal_said p) names)) (sum_three n (formal_nodes p) (formals_nodes ps) j)))
    ∙ (λ j. (done ++ (parameter (see_first (formal_said p) (formals_said ps) later names j) (formal n p) ∷ map (parameter (see_rest (formal_said p) (formals_said ps) later names j)) (formals (n + formal_nodes p) ps)), standing (sym (see_append (formal_said p) (formals_said ps) names) j) (n + (formal_nodes p + formals_nodes ps))))

-- ---- members

abbrev pub Says : Member-F Member ClassDef → Names → Names → ℕ → Type 0
Says m later names n = code.said m (standing names n) ≡ ((node n m, says (see later (see (member_said m) names)) (what n m)), standing (see (member_said m) names) (n + member_nodes m))

import_is : (k : ℕ) (of : Names) (later names : Names) (n : ℕ) → Says (Member-F.Import k of) later names n
import_is k of later names n = ap (code.import_with n) (numbers_is of later names (n + 1))

from_is : (k : ℕ) (path of later names : Names) (n : ℕ) → Says (Member-F.From k path of) later names n
from_is k path of later names n = ap (λ r. code.from_path n r of) (numbers_is path (of ++ later) names (n + 1))
    ∙ ap (code.from_with n (numbers (see (of ++ later) (see path names)) path)) (numbers_is of later (see path names) (n + 1))
    ∙ (λ j. ((n, say.From (numbers (see_first path of later names j) path) (numbers (see_rest path of later names j) of)), standing (sym (see_append path of names) j) (n + 1)))

constant_is : (k : ℕ) (name : List ℕ) (e : Expr) (later names : Names) (n : ℕ) → Says (Member-F.Const k name e) later names n
constant_is k name e later names n = ap (code.constant_after name) (walked_expr e (name ∷ later) names n)
    ∙ (λ j. ((n + nodes (order.expr e), say.Constant (seen_number (see (said (order.expr e)) names) name [] later j) (events (see (name ∷ later) (see (said (order.expr e)) names)) n (order.expr e))), standing (with_name (see (said (order.expr e)) names) name) (sum_three n (nodes (order.expr e)) 1 j)))
    ∙ (λ j. ((n + nodes (order.expr e), say.Constant (number (see_rest (said (order.expr e)) (name ∷ []) later names j) name) (events (see_rest (said (order.expr e)) (name ∷ []) later names j) n (order.expr e))), standing (sym (see_append (said (order.expr e)) (name ∷ []) names) j) (n + (nodes (order.expr e) + 1))))

function_sum : (n a b : ℕ) → ((n + 1) + a) + b ≡ n + (1 + (a + b))
function_sum n a b = omega arith

function_is : (f : Function) (later names : Names) (n : ℕ) → Says (Member-F.Def f) later names n
function_is f later names n =
    let first : Names = with_name names f.name in
    let fs : Names = formals_said f.params in
    let bs : Names = said (order.block f.body) in
    let at : ℕ = (n + 1) + formals_nodes f.params in
    ap (λ r. code.def_with n (number names f.name) r f) (parameters_onto f.params [] (bs ++ later) first (n + 1))
    ∙ ap (code.def_body n (number names f.name) (map (parameter (see (bs ++ later) (see fs first))) (formals (n + 1) f.params)) f.star) (walked_block f.body later (see fs first) at)
    ∙ (λ j. (
      (n, say.Def (seen_number names f.name (fs ++ bs) later j) (map (parameter (see_first fs bs later first j)) (formals (n + 1) f.params)) f.star (events (see_rest fs bs later first j) at (order.block f.body))),
      standing (sym (see_append fs bs first) j) (function_sum n (formals_nodes f.params) (nodes (order.block f.body)) j),
    ))

class_is : (c : ClassDef) (later names : Names) (n : ℕ) → Says (Member-F.Class c) later names n
class_is c later names n =
    ap (code.class_with n (number names (out-ClassDef c).name)) (numbers_is (out-ClassDef c).base later (with_name names (out-ClassDef c).name) (n + 1))
    ∙ (λ j. ((n, say.Class (seen_number names (out-ClassDef c).name (out-ClassDef c).base later j) (numbers (see later (see (member_said (Member-F.Class c)) names)) (out-ClassDef c).base)), standing (see (member_said (Member-F.Class c)) names) (n + 1)))

pub said_is : (m : Member-F Member ClassDef) (later names : Names) (n : ℕ) → Says m later names n
said_is (Member-F.Import k of) later names n = import_is k of later names n
said_is (Member-F.From k path of) later names n = from_is k path of later names n
said_is (Member-F.Const k name e) later names n = constant_is k name e later names n
said_is (Member-F.Def f) later names n = function_is f later names n
said_is (Member-F.Class c) later names n = class_is c later names n
