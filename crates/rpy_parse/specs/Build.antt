-- What the rules make. A state is the list of the lines of the nodes so far: the next node is their number.
use Rattle.std.specs.Prelude.{ℕ, Bool, true, false, eqb, ◌&&◌, List, [], ◌∷◌, ◌++◌, map, length, Option, Some, None, ℤ, pos}
use Rattle.rpy_token.specs.declared.token.Token.{Token}
use Rattle.rpy_token.specs.declared.token.TokenKind.{TokenKind}
use Rattle.rpy_token.specs.declared.token.TokenKind.TheVariants as k
use Rattle.rpy_tree.specs.declared.syntax.UnOp.{UnOp}
use Rattle.rpy_tree.specs.declared.syntax.BinOp.{BinOp}
use Rattle.rpy_tree.specs.declared.syntax.CmpOp.{CmpOp}
use Rattle.rpy_tree.specs.declared.syntax.Expr.{Expr, para-Expr}
use Rattle.rpy_tree.specs.declared.syntax.Expr.TheVariants as e
use Rattle.rpy_tree.specs.declared.syntax.Expr.TheOpen.{Expr-F, Target-F}
use Rattle.rpy_tree.specs.declared.syntax.Target.{Target}
use Rattle.rpy_tree.specs.declared.syntax.Target.TheVariants as target
use Rattle.rpy_tree.specs.declared.syntax.Stmt.{Stmt}
use Rattle.rpy_tree.specs.declared.syntax.Stmt.TheVariants as s
use Rattle.rpy_tree.specs.declared.syntax.Clause.{Clause}
use Rattle.rpy_tree.specs.declared.syntax.Param.{Param}
use Rattle.rpy_tree.specs.declared.syntax.Member.{Member}
use Rattle.rpy_tree.specs.declared.syntax.Member.TheVariants as m
use Rattle.rpy_tree.specs.declared.syntax.Module.{Module}
use Rattle.rpy_parse.specs.declared.found.Got.{Got}
use Rattle.rpy_parse.specs.declared.found.Numbered.{Numbered}
use Rattle.rpy_parse.specs.declared.found.Listed.{Listed}
use Rattle.rpy_parse.specs.declared.found.Sliced.{Sliced}
use Rattle.rpy_parse.specs.declared.found.Indexed.{Indexed}
use Rattle.rpy_parse.specs.declared.found.Pairs.{Pairs}
use Rattle.rpy_parse.specs.declared.found.Walking.{Walking}
use Rattle.rpy_parse.specs.declared.found.Walk.{Walk}
use Rattle.rpy_parse.specs.declared.found.Aimed.{Aimed}
use Rattle.rpy_parse.specs.declared.found.Aims.{Aims}
use Rattle.rpy_parse.specs.declared.found.Assigned.{Assigned}
use Rattle.rpy_parse.specs.declared.found.Place.{Place}
use Rattle.rpy_parse.specs.declared.found.Made.{Made}
use Rattle.rpy_parse.specs.declared.found.Body.{Body}
use Rattle.rpy_parse.specs.declared.found.Headed.{Headed}
use Rattle.rpy_parse.specs.declared.found.Arm.{Arm}
use Rattle.rpy_parse.specs.declared.found.Arms.{Arms}
use Rattle.rpy_parse.specs.declared.found.Handled.{Handled}
use Rattle.rpy_parse.specs.declared.found.Grown.{Grown}
use Rattle.rpy_parse.specs.declared.found.Head.{Head}
use Rattle.rpy_parse.specs.declared.found.Tried.{Tried}
use Rattle.rpy_parse.specs.declared.found.Params.{Params}
use Rattle.rpy_parse.specs.declared.found.Members.{Members}

abbrev pub Lines : Type 0
Lines = List ℕ

-- one more node, which begins on this line
abbrev pub more : Lines → ℕ → Lines
more n l = n ++ l ∷ []

abbrev pub numbered : Lines → ℕ → Numbered
numbered n l = record { node = length n; lines = more n l }

-- ---- tokens

abbrev pub text_of : TokenKind → List ℕ
text_of (k.Name x) = x
text_of (k.Str x) = x
text_of x = []

abbrev pub text : Token → List ℕ
text t = text_of t.kind

abbrev int_of : TokenKind → ℤ
int_of (k.Int n) = n
int_of x = pos 0

abbrev pub value_of : Token → ℤ
value_of t = int_of t.kind

abbrev pub begins_with : List ℕ → List ℕ → Bool
begins_with [] r = true
begins_with (x ∷ xs) [] = false
begins_with (x ∷ xs) (y ∷ ys) = eqb x y && begins_with xs ys

abbrev pub is_nil : List ℕ → Bool
is_nil [] = true
is_nil (x ∷ xs) = false

-- __name__
abbrev pub main_name : List ℕ
main_name = 95 ∷ 95 ∷ 110 ∷ 97 ∷ 109 ∷ 101 ∷ 95 ∷ 95 ∷ []

-- __main__
abbrev pub main_text : List ℕ
main_text = 95 ∷ 95 ∷ 109 ∷ 97 ∷ 105 ∷ 110 ∷ 95 ∷ 95 ∷ []

abbrev same_text : List ℕ → List ℕ → Bool
same_text [] [] = true
same_text (x ∷ xs) (y ∷ ys) = eqb x y && same_text xs ys
same_text xs ys = false

abbrev pub is_main_name : Token → Bool
is_main_name t = same_text (text t) main_name

-- ---- expressions

-- an expression that is no target
abbrev pub value : Expr → Lines → ℕ → Got
value t n l = record { tree = t; lines = n; line = l; goal = false; place = false }

abbrev pub place : Expr → Lines → ℕ → Got
place t n l = record { tree = t; lines = n; line = l; goal = true; place = true }

abbrev pub int : Lines → ℕ → ℤ → Got
int n l x = value (e.Int (length n) x) (more n l) l

abbrev pub string : Lines → ℕ → List ℕ → Got
string n l x = value (e.Str (length n) x) (more n l) l

abbrev pub name : Lines → ℕ → List ℕ → Got
name n l x = place (e.Name (length n) x) (more n l) l

-- a sign, and the line that it stands on
abbrev pub op_at : UnOp → ℕ → UnOp × ℕ
op_at op l = (op, l)

abbrev pub unary : UnOp → ℕ → Got → Got
unary op l a = value (e.Unary (length a.lines) op a.tree) (more a.lines l) l

abbrev pub negated : ℕ → Got → Got
negated l a = value (e.Not (length a.lines) a.tree) (more a.lines l) l

abbrev pub binary : BinOp → Expr → ℕ → Got → Got
binary op a l b = value (e.Binary (length b.lines) op a b.tree) (more b.lines l) l

abbrev pub compare : CmpOp → Expr → ℕ → Got → Got
compare op a l b = value (e.Compare (length b.lines) op a b.tree) (more b.lines l) l

abbrev pub logic : Bool → Expr → ℕ → Got → Got
logic and a l b = value (e.Logic (length b.lines) and a b.tree) (more b.lines l) l

abbrev pub attribute : Got → List ℕ → Got
attribute a x = place (e.Attr (length a.lines) a.tree x) (more a.lines a.line) a.line

abbrev pub no_items : Lines → ℕ → Listed
no_items n l = record { trees = []; lines = n; line = l; goal = true }

abbrev pub call : Expr → Listed → Got
call f xs = value (e.Call (length xs.lines) f xs.trees) (more xs.lines xs.line) xs.line

abbrev pub indexed : Expr → ℕ → Got → Indexed
indexed a l i = record { of = a; index = i.tree; lines = i.lines; line = l }

abbrev pub index : Indexed → Got
index x = place (e.Index (length x.lines) x.of x.index) (more x.lines x.line) x.line

abbrev pub sliced : Expr → Lines → ℕ → Sliced
sliced a n l = record { of = a; from = None; lines = n; line = l }

abbrev pub sliced_from : Expr → ℕ → Got → Sliced
sliced_from a l i = record { of = a; from = Some i.tree; lines = i.lines; line = l }

abbrev pub slice_open : Sliced → Got
slice_open x = value (e.Slice (length x.lines) x.of x.from None) (more x.lines x.line) x.line

abbrev pub slice : Expr → Option Expr → ℕ → Got → Got
slice a from l to = value (e.Slice (length to.lines) a from (Some to.tree)) (more to.lines l) l

abbrev pub listed : Got → ℕ → Listed
listed a l = record { trees = a.tree ∷ []; lines = a.lines; line = l; goal = a.goal }

abbrev pub longer : List Expr → ℕ → Bool → Got → Listed
longer xs l goal a = record { trees = xs ++ a.tree ∷ []; lines = a.lines; line = l; goal = goal && a.goal }

abbrev pub tuple : Listed → Got
tuple x = record { tree = e.Tuple (length x.lines) x.trees; lines = more x.lines x.line; line = x.line; goal = x.goal; place = false }

abbrev pub empty_tuple : Lines → ℕ → Got
empty_tuple n l = value (e.Tuple (length n) []) (more n l) l

abbrev pub bracketed : Got → ℕ → Got
bracketed a l = record { tree = a.tree; lines = a.lines; line = l; goal = a.goal; place = false }

abbrev pub list : Listed → Got
list x = value (e.List (length x.lines) x.trees) (more x.lines x.line) x.line

abbrev pub walking : Expr → ℕ → Aimed → Walking
walking item l g = record { item = item; target = g.target; lines = g.lines; line = l }

abbrev pub walk : Expr → Target → ℕ → Got → Walk
walk item g l a = record { item = item; target = g; subject = a.tree; lines = a.lines; line = l }

abbrev pub walk_all : Walk → Got
walk_all x = value (e.Comp (length x.lines) x.item x.target x.subject None) (more x.lines x.line) x.line

abbrev pub walk_some : Expr → Target → Expr → ℕ → Got → Got
walk_some item g a l c = value (e.Comp (length c.lines) item g a (Some c.tree)) (more c.lines l) l

abbrev pub no_pairs : Lines → ℕ → Pairs
no_pairs n l = record { pairs = []; lines = n; line = l }

abbrev pub more_pairs : List (Expr × Expr) → ℕ → Expr → Got → Pairs
more_pairs xs l key v = record { pairs = xs ++ (key, v.tree) ∷ []; lines = v.lines; line = l }

abbrev pub dict : Pairs → Got
dict x = value (e.Dict (length x.lines) x.pairs) (more x.lines x.line) x.line

-- ---- targets

abbrev pub target_step : Expr-F (Expr × Target) (Target × Unit {0}) → Target
target_step (Expr-F.Expr::Name n x) = target.Name n x
target_step (Expr-F.Expr::Attr n a x) = target.Attr n a.0 x
target_step (Expr-F.Index n a i) = target.Item n a.0 i.0
target_step (Expr-F.Expr::Tuple n xs) = target.Tuple n (map (λ (p : Expr × Target). p.1) xs)
target_step x = target.Name 0 []

abbrev pub no_step : Target-F (Expr × Target) (Target × Unit {0}) → Unit {0}
no_step x = tt

-- the target that the tokens of an expression are, if they are one
abbrev pub goal_of : Expr → Target
goal_of = para-Expr Target (Unit {0}) target_step no_step

abbrev pub aimed : Got → Aimed
aimed a = record { target = goal_of a.tree; lines = a.lines; line = a.line }

abbrev pub aims : Aimed → Aims
aims a = record { targets = a.target ∷ []; lines = a.lines; line = a.line }

abbrev pub more_aims : List Target → ℕ → Aimed → Aims
more_aims xs l a = record { targets = xs ++ a.target ∷ []; lines = a.lines; line = l }

abbrev pub tuple_of_targets : Aims → Aimed
tuple_of_targets x = record { target = target.Tuple (length x.lines) x.targets; lines = more x.lines x.line; line = x.line }

-- ---- statements

abbrev pub made : Stmt → Lines → Made
made t n = record { stmt = t; lines = n }

abbrev pub passed : Lines → ℕ → Made
passed n l = made (s.Pass (length n)) (more n l)

abbrev pub broken : Lines → ℕ → Made
broken n l = made (s.Break (length n)) (more n l)

abbrev pub continued : Lines → ℕ → Made
continued n l = made (s.Continue (length n)) (more n l)

abbrev pub returned : Lines → ℕ → Made
returned n l = made (s.Return (length n) None) (more n l)

abbrev pub returned_value : ℕ → Got → Made
returned_value l a = made (s.Return (length a.lines) (Some a.tree)) (more a.lines l)

abbrev pub raised : ℕ → Got → Made
raised l a = made (s.Raise (length a.lines) a.tree) (more a.lines l)

abbrev pub asserted : ℕ → Got → Made
asserted l a = made (s.Assert (length a.lines) a.tree) (more a.lines l)

abbrev pub deleted : ℕ → Indexed → Made
deleted l x = made (s.Del (length x.lines) x.of x.index) (more x.lines l)

abbrev pub printed : Listed → Made
printed x = made (s.Print (length x.lines) x.trees) (more x.lines x.line)

abbrev pub goals : List Target → ℕ → Got → Assigned
goals xs l v = record { targets = xs; line = l; value = v }

abbrev pub assignment : Assigned → Made
assignment x = made (s.Assign (length x.value.lines) x.targets x.value.tree) (more x.value.lines x.line)

abbrev pub changed : Target → ℕ → BinOp → Got → Made
changed g l op v = made (s.Aug (length v.lines) g op v.tree) (more v.lines l)

abbrev pub evaluated : Got → Made
evaluated a = made (s.Expr (length a.lines) a.tree) (more a.lines a.line)

abbrev pub no_body : Lines → Body
no_body n = record { stmts = []; lines = n }

abbrev pub pushed : List Stmt → Made → Body
pushed xs a = record { stmts = xs ++ a.stmt ∷ []; lines = a.lines }

abbrev pub headed : Got → ℕ → Headed
headed a l = record { node = length a.lines; tree = a.tree; lines = more a.lines l }

abbrev pub arm : Expr → Body → Arm
arm test b = record { test = test; body = b.stmts; lines = b.lines }

abbrev pub more_arms : ℕ → List (Expr × List Stmt) → Arm → Arms
more_arms node xs a = record { node = node; arms = xs ++ (a.test, a.body) ∷ []; lines = a.lines }

abbrev pub with_lines : ℕ → List (Expr × List Stmt) → Lines → Arms
with_lines node xs n = record { node = node; arms = xs; lines = n }

abbrev pub chosen : Arms → List Stmt → Made
chosen x other = made (s.If x.node x.arms other) x.lines

abbrev pub repeated : ℕ → Expr → Body → Made
repeated node test b = made (s.While node test b.stmts) b.lines

abbrev pub walked : ℕ → Target → Expr → Body → Made
walked node g a b = made (s.For node g a b.stmts) b.lines

-- a body in a loop, in a `finally`, and in neither
abbrev pub in_loop : Place → Place
in_loop p = record { looped = true; last = p.last }

abbrev pub in_finally : Place
in_finally = record { looped = false; last = true }

abbrev pub outside : Place
outside = record { looped = false; last = false }

abbrev pub tried_of : ℕ → List Stmt → List Clause → Bool → Lines → Tried
tried_of node body cs bare n = record { node = node; body = body; clauses = cs; bare = bare; lines = n }

abbrev pub no_clauses : ℕ → Body → Tried
no_clauses node b = tried_of node b.stmts [] false b.lines

abbrev pub handled : ℕ → Head → Body → Handled
handled node h b = record { clause = record { node = node; classes = h.classes; bare = h.bare; bind = h.bind; body = b.stmts }; lines = b.lines }

abbrev pub more_clauses : ℕ → List Stmt → List Clause → Handled → Tried
more_clauses node body cs c = tried_of node body (cs ++ c.clause ∷ []) c.clause.bare c.lines

abbrev pub finished : Tried → List Stmt → Option (List Stmt) → Made
finished x other last = made (s.Try x.node x.body x.clauses other last) x.lines

abbrev pub unbound : List (List (List ℕ)) → Head
unbound cs = record { classes = cs; bare = false; bind = None }

abbrev pub bound : List (List (List ℕ)) → List ℕ → Head
bound cs x = record { classes = cs; bare = false; bind = Some x }

abbrev pub bare_head : Head
bare_head = record { classes = []; bare = true; bind = None }

-- ---- members

abbrev pub no_members : Lines → Members
no_members n = record { members = []; lines = n }

abbrev pub grown : Member → Lines → Grown
grown x n = record { member = x; lines = n }

abbrev pub member_pushed : List Member → Grown → Members
member_pushed xs g = record { members = xs ++ g.member ∷ []; lines = g.lines }

abbrev pub constant_of : ℕ → List ℕ → Got → Grown
constant_of l x a = grown (m.Const (length a.lines) x a.tree) (more a.lines l)

abbrev pub import_of : Lines → ℕ → List (List ℕ) → Grown
import_of n l ns = grown (m.Import (length n) ns) (more n l)

abbrev pub from_of : Lines → ℕ → List (List ℕ) → List (List ℕ) → Grown
from_of n l p ns = grown (m.From (length n) p ns) (more n l)

abbrev pub function_of : ℕ → List ℕ → Params → Body → Grown
function_of node x ps b = grown (m.Def (record { node = node; name = x; params = ps.params; star = ps.star; body = b.stmts })) b.lines

abbrev pub class_of : ℕ → List ℕ → List (List ℕ) → Members → Grown
class_of node x b own = grown (m.Class (record { node = node; name = x; base = b; members = own.members })) own.lines

abbrev pub no_params : Lines → Params
no_params n = record { params = []; defaults = false; star = false; lines = n }

abbrev pub default_param : List Param → Bool → ℕ → List ℕ → Got → Params
default_param xs star node t a = record { params = xs ++ (record { node = node; name = t; default = Some a.tree }) ∷ []; defaults = true; star = star; lines = a.lines }

abbrev pub plain_param : List Param → Bool → Numbered → List ℕ → Params
plain_param xs star new t = record { params = xs ++ (record { node = new.node; name = t; default = None }) ∷ []; defaults = false; star = star; lines = new.lines }

abbrev pub star_param : Params → ℕ → List ℕ → Params
star_param x l t = record { params = x.params ++ (record { node = length x.lines; name = t; default = None }) ∷ []; defaults = x.defaults; star = true; lines = more x.lines l }

abbrev pub module_of : Members → Module
module_of x = record { members = x.members; nodes = length x.lines; lines = x.lines }
