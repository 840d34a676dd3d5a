-- Three programs of one function, each with an annotation.
use Rattle.std.specs.Prelude.{ℕ, ℤ, pos, true, false, List, [], ◌∷◌, get_or, Option, Some, None}
use Rattle.rpy_tree.specs.Value.{Object}
use Rattle.rpy_tree.specs.declared.program.Site.{Site}
use Rattle.rpy_tree.specs.declared.syntax.BinOp.TheVariants as bin
use Rattle.rpy_tree.specs.declared.syntax.CmpOp.TheVariants as cmp
use Rattle.rpy_meaning.specs.declared.row.RowOp.TheVariants as row
use Rattle.ann_lattice.specs.Shape.{Any, One, OrNone, Shape, Nothing, NoneOnly, Truth, Num, Str, Lst}
use Rattle.ann_lattice.specs.Assign.{Assignment}
use Rattle.ann_rules.specs.Program.{Places, Whole}
use Rattle.flow_trees.specs.Tree.{Expr, Local, Apply, none, more, Name, no_targets, more_targets, Stmt, Return, Assign, Augment, If, While, Try, Block, done, line, no_clauses, clause, Function}
use Rattle.ann_tree.specs.Annotation.{Annotation}

-- ---- the entry point has one parameter, and the program besides its list of arguments one site

abbrev pub places : Places
places = record {
  variable = λ g v. 6;
  param = λ f i. 0;
  result = λ f. 1;
  attribute = λ c name. 6;
  item = λ s. get_or (2 ∷ 3 ∷ []) s 6;
  key = λ s. get_or (4 ∷ 5 ∷ []) s 6;
  block = λ g b. 2;
  reached = λ f. 0;
  made = λ c. 2;
  loaded = λ s. 2;
  loose = λ g v. 2;
  unbound = λ node. 1;
}

abbrev pub site : ℕ → Site
site node = record { node = node; dict = false; prebuilt = None }

abbrev pub whole : Whole
whole = record {
  tables = record { classes = []; attributes = [] };
  callees = record { defaults = None ∷ []; star = false } ∷ [];
  sites = site 1 ∷ site 11 ∷ [];
  graphs = [];
  entry = 0;
  has_literal = λ node. false;
  places = places;
}

-- which hold nothing before the run
abbrev pub objects : List (Option Object)
objects = None ∷ None ∷ []

-- it takes the list of strings; what it returns has the element
abbrev pub parts : Shape → Assignment
parts result = record { cells = Lst 0 false ∷ result ∷ Str Any ∷ Nothing ∷ Nothing ∷ Nothing ∷ []; marks = true ∷ []; same = 0 ∷ 1 ∷ [] }

abbrev pub annotated : Shape → List Shape → Annotation
annotated result elements = record { parts = parts result; element = λ node. get_or elements node Nothing; faulty = λ flaw node. false }

abbrev pub entry_point : Block → Function
entry_point body = record { node = 0; defaults = None ∷ []; takes_more = false; locals = 2; body = body }

-- ---- the second local and its uses

abbrev pub x : ℕ → Expr
x node = Local node 1

abbrev pub set_x : ℕ → Expr → ℕ → Stmt
set_x target e node = Assign node (more_targets (Name target 1) no_targets) e

abbrev pub word : ℕ → ℤ → Expr
word node z = Apply node true (row.Word z) none

abbrev pub text : ℕ → List ℕ → Expr
text node bytes = Apply node true (row.Str bytes) none

abbrev pub compare : ℕ → Expr → Expr → Expr
compare node a b = Apply node true (row.Compare cmp.Lt) (more a (more b none))

-- ---- a loop

-- x = 0
-- while x < 10:
--     x += 1
-- return x
abbrev pub counting : Function
counting = entry_point (
    line (set_x 2 (word 3 (pos 0)) 4) (
    line (While 8 (compare 7 (x 5) (word 6 (pos 10)))
    (line (Augment 11 (Name 9 1) (row.Binary bin.Add (Some 1)) (word 10 (pos 1))) done)) (
    line (Return 13 (x 12)) done)))

-- x is a word that is not below zero, at each node
abbrev pub counted_elements : List Shape
counted_elements =
    Nothing ∷ Nothing ∷ Num false ∷ Num false ∷ Nothing ∷ Num false ∷ Num false ∷ Truth None ∷ Nothing ∷ Num false ∷ Num false ∷ Nothing ∷ Num false ∷ []

abbrev pub counted : Annotation
counted = annotated (Num false) counted_elements

-- ---- a test for `None`

-- x = None
-- if 1 < 2:
--     x = 'a'
-- if x is None:
--     return 0
-- return int(x)
abbrev pub asking : Function
asking = entry_point (
    line (set_x 2 (Apply 3 true row.None none) 4) (
    line (If 8 (compare 7 (word 5 (pos 1)) (word 6 (pos 2))) (line (set_x 9 (text 10 (97 ∷ [])) 11) done) done) (
    line (If 15 (Apply 14 true (row.Compare cmp.Is) (more (x 12) (more (Apply 13 true row.None none) none)))
    (line (Return 17 (word 16 (pos 0))) done) done) (
    line (Return 20 (Apply 19 true row.ToInt (more (x 18) none))) done))))

-- behind the first `if` x is a string or `None`, and behind the second a string
abbrev pub asked_elements : List Shape
asked_elements =
    Nothing ∷ Nothing ∷ NoneOnly ∷ NoneOnly ∷ Nothing ∷ Num false ∷ Num false ∷ Truth None ∷ Nothing ∷ Str One ∷ Str One ∷ Nothing
    ∷ Str OrNone ∷ NoneOnly ∷ Truth None ∷ Nothing ∷ Num false ∷ Nothing ∷ Str Any ∷ Num true ∷ []

abbrev pub asked : Annotation
asked = annotated (Num true) asked_elements

-- ---- a handler

-- the number of the class
abbrev pub index_error : ℕ
index_error = 6

-- try:
--     x = args[0]
-- except IndexError:
--     x = '0'
-- return int(x)
abbrev pub guarding : Function
guarding = entry_point (
    line (Try 2
    (line (set_x 3 (Apply 6 true (row.Index (Some (pos 0))) (more (Local 4 0) (more (word 5 (pos 0)) none))) 7) done)
    (clause (Some (index_error ∷ [])) None (line (set_x 9 (text 10 (48 ∷ [])) 11) done) no_clauses)
    done) (
    line (Return 14 (Apply 13 true row.ToInt (more (x 12) none))) done))

-- x is a string, from the body or from the clause
abbrev pub guarded_elements : List Shape
guarded_elements =
    Nothing ∷ Nothing ∷ Nothing ∷ Str Any ∷ Lst 0 false ∷ Num false ∷ Str Any ∷ Nothing ∷ Nothing ∷ Str One ∷ Str One ∷ Nothing ∷ Str Any ∷ Num true ∷ []

abbrev pub guarded : Annotation
guarded = annotated (Num true) guarded_elements

-- ---- what is not closed

-- return 1
abbrev pub returning : Function
returning = entry_point (line (Return 3 (word 2 (pos 1))) done)

-- where what is returned were a string
abbrev pub mistaken : Annotation
mistaken = annotated (Str Any) (Nothing ∷ Nothing ∷ Num false ∷ [])
