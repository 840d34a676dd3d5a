-- Worked rows: the graphs that `rpy flow` writes of a small program stand for it.
--     def seven(n):
--         return 7
--
--     def down(n):
--         while n:
--             n -= 1
--         return n
--
--     def last(n):
--         try:
--             n = 1
--         finally:
--             print n
--
--     def entry_point(argv):
--         last(down(seven(0)))
--         return 0
use Rattle.std.proofs.Common.{◌≡◌, ℕ, zero, suc, List, [], ◌∷◌, false, inl, inr, Option, Some, None, refl, arith, codes}
use Rattle.std.specs.Prelude.{pos, replicate}
use Rattle.std.specs.Fmt.{digits}
use Rattle.std.specs.Int.{int_wrap}
use Rattle.rpy_base.specs.declared.outcome.Outcome.{Outcome}
use Rattle.rpy_base.specs.declared.outcome.Outcome.TheVariants.{Returned}
use Rattle.rpy_tree.specs.declared.syntax.BinOp.TheVariants.{Sub}
use Rattle.rpy_meaning.specs.declared.row.RowOp.{RowOp}
use Rattle.rpy_meaning.specs.declared.row.RowOp.TheVariants as row
use Rattle.rpy_meaning.specs.Tree.{Expr, Local, Apply, none, more, Name, no_targets, more_targets, Return, Do, Assign, Augment, While, Finally, Block, done, line, Function, Class, Program}
use Rattle.rpy_meaning.specs.Classes.{no_covers}
use Rattle.rpy_meaning.specs.Meaning.{Run, mean}
use Rattle.flow_graph.specs.declared.graph.Link.{Link}
use Rattle.flow_graph.specs.declared.graph.Exit.{Exit}
use Rattle.flow_graph.specs.declared.graph.Exit.TheVariants as exit
use Rattle.flow_graph.specs.declared.graph.Op.{Op}
use Rattle.flow_graph.specs.declared.graph.Block as graph
use Rattle.flow_graph.specs.declared.graph.Graph.{Graph}
use Rattle.flow_graph.specs.declared.graph.Graphs.{Graphs}
use Rattle.flow_stands.specs.Places.{first}
use Rattle.flow_stands.specs.Stands.{Stand, HasFunction}
use Rattle.flow_stands.specs.Follows.{HasBuiltins}

-- ---- the program

abbrev word : ℕ → Expr
word n = Apply (row.Word (pos n)) none

abbrev function : Block → Function
function body = record { defaults = None ∷ []; takes_more = false; locals = 1; body = body }

abbrev call : ℕ → Expr → Expr
call f e = Apply (row.Call f) (more e none)

-- the builtin classes, all right below the first
abbrev class : Option ℕ → Class
class base = record { name = []; base = base; constants = []; methods = [] }

program : Program
program = record {
  functions =
      function (line (Return (word 7)) done)
      ∷ function (line (While (Local 0) (line (Augment (Name 0) (row.Binary Sub None) (word 1)) done)) (line (Return (Local 0)) done))
      ∷ function (line (Finally (line (Assign (more_targets (Name 0) no_targets) (word 1)) done) (line (Do (Apply row.Print (more (Local 0) none))) done)) done)
      ∷ function (line (Do (call 2 (call 1 (call 0 (word 0))))) (line (Return (word 0)) done))
      ∷ [];
  classes = class None ∷ replicate 12 (class (Some 0));
  sites = [];
  entry = 3;
}

-- ---- its graphs

abbrev link : ℕ → List ℕ → Link
link to args = record { to = to; args = args }

abbrev does : ℕ → RowOp → List ℕ → Op
does result o args = record { result = result; op = o; args = args; node = 0; value = false; covered = no_covers }

abbrev block : List ℕ → List Op → Exit → graph.Block
block inputs ops exit = record { inputs = inputs; ops = ops; exit = exit }

graph_0 : Graph
graph_0 = record {
  function = 0;
  blocks =
      block (0 ∷ []) [] (exit.Goto (link 6 (0 ∷ [])))
      ∷ block (1 ∷ []) [] (exit.Return 1)
      ∷ block (2 ∷ []) [] (exit.Raise 2)
      ∷ block ([]) [] (exit.Goto (link 3 ([])))
      ∷ block (3 ∷ []) (does 4 row.None ([]) ∷ []) (exit.Goto (link 1 (4 ∷ [])))
      ∷ block (5 ∷ 6 ∷ []) [] (exit.Goto (link 1 (6 ∷ [])))
      ∷ block (7 ∷ []) (does 8 (row.Word (pos 7)) ([]) ∷ []) (exit.OnRaise 8 [] (Some (link 2 (8 ∷ []))) (link 5 (7 ∷ 8 ∷ [])))
      ∷ [];
}

graph_1 : Graph
graph_1 = record {
  function = 1;
  blocks =
      block (0 ∷ []) [] (exit.Goto (link 7 (0 ∷ [])))
      ∷ block (1 ∷ []) [] (exit.Return 1)
      ∷ block (2 ∷ []) [] (exit.Raise 2)
      ∷ block ([]) [] (exit.Goto (link 3 ([])))
      ∷ block (3 ∷ []) (does 4 row.None ([]) ∷ []) (exit.Goto (link 1 (4 ∷ [])))
      ∷ block (5 ∷ 6 ∷ []) [] (exit.Goto (link 1 (6 ∷ [])))
      ∷ block (7 ∷ []) (does 8 row.Copy (7 ∷ []) ∷ []) (exit.OnRaise 8 [] (Some (link 2 (8 ∷ []))) (link 5 (7 ∷ 8 ∷ [])))
      ∷ block (9 ∷ []) [] (exit.Goto (link 17 (9 ∷ [])))
      ∷ block (10 ∷ 11 ∷ []) (does 12 row.Copy (11 ∷ []) ∷ []) (exit.OnRaise 12 [] (Some (link 2 (12 ∷ []))) (link 7 (12 ∷ [])))
      ∷ block (13 ∷ 14 ∷ 15 ∷ []) (does 16 (row.Binary Sub None) (14 ∷ 15 ∷ []) ∷ []) (exit.OnRaise 16 [] (Some (link 2 (16 ∷ []))) (link 8 (13 ∷ 16 ∷ [])))
      ∷ block (17 ∷ 18 ∷ []) (does 19 (row.Word (pos 1)) ([]) ∷ []) (exit.OnRaise 19 [] (Some (link 2 (19 ∷ []))) (link 9 (17 ∷ 18 ∷ 19 ∷ [])))
      ∷ block (20 ∷ []) (does 21 row.Copy (20 ∷ []) ∷ []) (exit.OnRaise 21 [] (Some (link 2 (21 ∷ []))) (link 10 (20 ∷ 21 ∷ [])))
      ∷ block (22 ∷ []) (does 23 row.Turn ([]) ∷ []) (exit.OnRaise 23 [] (Some (link 2 (23 ∷ []))) (link 11 (22 ∷ [])))
      ∷ block (24 ∷ 25 ∷ []) (does 26 row.DropNone (24 ∷ []) ∷ []) (exit.OnRaise 26 [] (Some (link 2 (26 ∷ []))) (link 12 (26 ∷ [])))
      ∷ block (27 ∷ 28 ∷ []) (does 29 row.FalseNone (27 ∷ []) ∷ []) (exit.OnRaise 29 [] (Some (link 2 (29 ∷ []))) (link 6 (29 ∷ [])))
      ∷ block (30 ∷ 31 ∷ 32 ∷ []) [] (exit.If 32 (link 13 (30 ∷ 31 ∷ [])) (link 14 (30 ∷ 31 ∷ [])))
      ∷ block (33 ∷ 34 ∷ []) (does 35 row.Truth (34 ∷ []) ∷ []) (exit.OnRaise 35 [] (Some (link 2 (35 ∷ []))) (link 15 (33 ∷ 34 ∷ 35 ∷ [])))
      ∷ block (36 ∷ []) (does 37 row.Copy (36 ∷ []) ∷ []) (exit.OnRaise 37 [] (Some (link 2 (37 ∷ []))) (link 16 (36 ∷ 37 ∷ [])))
      ∷ [];
}

graph_2 : Graph
graph_2 = record {
  function = 2;
  blocks =
      block (0 ∷ []) [] (exit.Goto (link 27 (0 ∷ [])))
      ∷ block (1 ∷ []) [] (exit.Return 1)
      ∷ block (2 ∷ []) [] (exit.Raise 2)
      ∷ block ([]) [] (exit.Goto (link 3 ([])))
      ∷ block (3 ∷ []) (does 4 row.None ([]) ∷ []) (exit.Goto (link 1 (4 ∷ [])))
      ∷ block (5 ∷ 6 ∷ []) [] (exit.Goto (link 4 (5 ∷ [])))
      ∷ block (7 ∷ 8 ∷ []) (does 9 row.Print (8 ∷ []) ∷ []) (exit.OnRaise 9 [] (Some (link 2 (9 ∷ []))) (link 5 (7 ∷ 9 ∷ [])))
      ∷ block (10 ∷ []) (does 11 row.Copy (10 ∷ []) ∷ []) (exit.OnRaise 11 [] (Some (link 2 (11 ∷ []))) (link 6 (10 ∷ 11 ∷ [])))
      ∷ block (12 ∷ []) [] (exit.Goto (link 4 (12 ∷ [])))
      ∷ block (13 ∷ 14 ∷ []) [] (exit.Goto (link 8 (13 ∷ [])))
      ∷ block (15 ∷ 16 ∷ []) (does 17 row.Print (16 ∷ []) ∷ []) (exit.OnRaise 17 [] (Some (link 2 (17 ∷ []))) (link 9 (15 ∷ 17 ∷ [])))
      ∷ block (18 ∷ []) (does 19 row.Copy (18 ∷ []) ∷ []) (exit.OnRaise 19 [] (Some (link 2 (19 ∷ []))) (link 10 (18 ∷ 19 ∷ [])))
      ∷ block (20 ∷ []) [] (exit.Goto (link 4 (20 ∷ [])))
      ∷ block (21 ∷ 22 ∷ []) [] (exit.Goto (link 12 (21 ∷ [])))
      ∷ block (23 ∷ 24 ∷ []) (does 25 row.Print (24 ∷ []) ∷ []) (exit.OnRaise 25 [] (Some (link 2 (25 ∷ []))) (link 13 (23 ∷ 25 ∷ [])))
      ∷ block (26 ∷ []) (does 27 row.Copy (26 ∷ []) ∷ []) (exit.OnRaise 27 [] (Some (link 2 (27 ∷ []))) (link 14 (26 ∷ 27 ∷ [])))
      ∷ block (28 ∷ 29 ∷ []) [] (exit.Goto (link 1 (29 ∷ [])))
      ∷ block (30 ∷ 31 ∷ 32 ∷ []) [] (exit.Goto (link 16 (30 ∷ 31 ∷ [])))
      ∷ block (33 ∷ 34 ∷ 35 ∷ []) (does 36 row.Print (35 ∷ []) ∷ []) (exit.OnRaise 36 [] (Some (link 2 (36 ∷ []))) (link 17 (33 ∷ 34 ∷ 36 ∷ [])))
      ∷ block (37 ∷ 38 ∷ []) (does 39 row.Copy (37 ∷ []) ∷ []) (exit.OnRaise 39 [] (Some (link 2 (39 ∷ []))) (link 18 (37 ∷ 38 ∷ 39 ∷ [])))
      ∷ block (40 ∷ 41 ∷ []) (does 42 row.Raise (41 ∷ []) ∷ []) (exit.OnRaise 42 [] (Some (link 2 (42 ∷ []))) (link 3 ([])))
      ∷ block (43 ∷ 44 ∷ 45 ∷ []) [] (exit.Goto (link 20 (43 ∷ 44 ∷ [])))
      ∷ block (46 ∷ 47 ∷ 48 ∷ []) (does 49 row.Print (48 ∷ []) ∷ []) (exit.OnRaise 49 [] (Some (link 2 (49 ∷ []))) (link 21 (46 ∷ 47 ∷ 49 ∷ [])))
      ∷ block (50 ∷ 51 ∷ []) (does 52 row.Copy (50 ∷ []) ∷ []) (exit.OnRaise 52 [] (Some (link 2 (52 ∷ []))) (link 22 (50 ∷ 51 ∷ 52 ∷ [])))
      ∷ block (53 ∷ []) (does 54 row.None ([]) ∷ []) (exit.OnRaise 54 [] (Some (link 23 (53 ∷ 54 ∷ []))) (link 7 (53 ∷ [])))
      ∷ block (55 ∷ 56 ∷ []) (does 57 row.Copy (56 ∷ []) ∷ []) (exit.OnRaise 57 [] (Some (link 23 (55 ∷ 57 ∷ []))) (link 24 (57 ∷ [])))
      ∷ block (58 ∷ []) (does 59 (row.Word (pos 1)) ([]) ∷ []) (exit.OnRaise 59 [] (Some (link 23 (58 ∷ 59 ∷ []))) (link 25 (58 ∷ 59 ∷ [])))
      ∷ block (60 ∷ []) (does 61 row.None ([]) ∷ []) (exit.OnRaise 61 [] (Some (link 23 (60 ∷ 61 ∷ []))) (link 26 (60 ∷ [])))
      ∷ [];
}

graph_3 : Graph
graph_3 = record {
  function = 3;
  blocks =
      block (0 ∷ []) [] (exit.Goto (link 11 (0 ∷ [])))
      ∷ block (1 ∷ []) [] (exit.Return 1)
      ∷ block (2 ∷ []) [] (exit.Raise 2)
      ∷ block ([]) [] (exit.Goto (link 3 ([])))
      ∷ block (3 ∷ []) (does 4 row.None ([]) ∷ []) (exit.Goto (link 1 (4 ∷ [])))
      ∷ block (5 ∷ 6 ∷ []) [] (exit.Goto (link 1 (6 ∷ [])))
      ∷ block (7 ∷ []) (does 8 (row.Word (pos 0)) ([]) ∷ []) (exit.OnRaise 8 [] (Some (link 2 (8 ∷ []))) (link 5 (7 ∷ 8 ∷ [])))
      ∷ block (9 ∷ 10 ∷ []) [] (exit.Goto (link 6 (9 ∷ [])))
      ∷ block (11 ∷ 12 ∷ []) (does 13 (row.Call 2) (12 ∷ []) ∷ []) (exit.OnRaise 13 [] (Some (link 2 (13 ∷ []))) (link 7 (11 ∷ 13 ∷ [])))
      ∷ block (14 ∷ 15 ∷ []) (does 16 (row.Call 1) (15 ∷ []) ∷ []) (exit.OnRaise 16 [] (Some (link 2 (16 ∷ []))) (link 8 (14 ∷ 16 ∷ [])))
      ∷ block (17 ∷ 18 ∷ []) (does 19 (row.Call 0) (18 ∷ []) ∷ []) (exit.OnRaise 19 [] (Some (link 2 (19 ∷ []))) (link 9 (17 ∷ 19 ∷ [])))
      ∷ block (20 ∷ []) (does 21 (row.Word (pos 0)) ([]) ∷ []) (exit.OnRaise 21 [] (Some (link 2 (21 ∷ []))) (link 10 (20 ∷ 21 ∷ [])))
      ∷ [];
}

graphs : Graphs
graphs = record { graphs = graph_0 ∷ graph_1 ∷ graph_2 ∷ graph_3 ∷ [] }

-- ---- they stand for it

seven_stands : HasFunction program graphs 0 (function (line (Return (word 7)) done))
unfolding program graphs graph_0
seven_stands = (
  6,
  omega arith,
  (0, 0, false, refl),
  (1, 0, false, refl),
  (2, 0, false, refl),
  (0, 0, false, refl),
  (3, 0, false, refl),
  (6, 4, 4, refl, (5, inl (6, refl, (7, 0, false, refl)), inl (5, 0, false, refl)), refl, refl),
)

down_stands : HasFunction program graphs 1 (function (line (While (Local 0) (line (Augment (Name 0) (row.Binary Sub None) (word 1)) done)) (line (Return (Local 0)) done)))
unfolding program graphs graph_1
down_stands = (
  7,
  omega arith,
  (0, 0, false, refl),
  (1, 0, false, refl),
  (2, 0, false, refl),
  (0, 0, false, refl),
  (3, 0, false, refl),
  (
    7,
    6,
    6,
    refl,
    (
      17,
      12,
      11,
      (9, 0, false, refl),
      inl (
        16,
        (omega arith, (36, 0, false, refl)),
        (
          15,
          first 13 2,
          first 14 2,
          (33, 0, false, refl),
          (30, 0, false, refl),
          inr (13, 0, row.DropNone, 0 ∷ [], refl, omega arith, refl, (refl, inl (refl, λ x w. refl)), (24, 0, false, refl), refl),
          inr (14, 0, row.FalseNone, 0 ∷ [], refl, omega arith, refl, (refl, inl (refl, λ x w. refl)), (27, 0, false, refl), refl),
        ),
      ),
      (22, 0, false, refl),
      (11, 7, 7, refl, (omega arith, (10, 9, 8, (20, 0, false, refl), inl (10, refl, (17, 0, false, refl)), (13, 0, false, refl), (10, 0, false, refl))), refl, refl),
    ),
    refl,
    (6, 4, 4, refl, (5, (omega arith, (7, 0, false, refl)), inl (5, 0, false, refl)), refl, refl),
  ),
)

last_stands : HasFunction program graphs 2 (function (line (Finally (line (Assign (more_targets (Name 0) no_targets) (word 1)) done) (line (Do (Apply row.Print (more (Local 0) none))) done)) done))
unfolding program graphs graph_2
last_stands = (
  27,
  omega arith,
  (0, 0, false, refl),
  (1, 0, false, refl),
  (2, 0, false, refl),
  (0, 0, false, refl),
  (3, 0, false, refl),
  (
    27,
    4,
    4,
    refl,
    (
      7,
      11,
      15,
      19,
      23,
      8,
      12,
      16,
      20,
      (7, 4, 4, refl, (5, inl (6, (6, (omega arith, (10, 0, false, refl)), refl), (7, 0, false, refl)), (5, 0, false, refl)), refl, refl),
      (11, 8, 8, refl, (9, inl (10, (10, (omega arith, (18, 0, false, refl)), refl), (15, 0, false, refl)), (13, 0, false, refl)), refl, refl),
      (12, 0, false, refl),
      (15, 12, 12, refl, (13, inl (14, (14, (omega arith, (26, 0, false, refl)), refl), (23, 0, false, refl)), (21, 0, false, refl)), refl, refl),
      (20, 0, false, refl),
      (19, 16, 16, refl, (17, inl (18, (18, (omega arith, (37, 0, false, refl)), refl), (33, 0, false, refl)), (30, 0, false, refl)), refl, refl),
      (28, 0, false, refl),
      (23, 20, 20, refl, (21, inl (22, (22, (omega arith, (50, 0, false, refl)), refl), (46, 0, false, refl)), (43, 0, false, refl)), refl, refl),
      (40, 0, false, refl),
      (26, 24, 7, (60, 0, false, refl), (25, inl (26, refl, (58, 0, false, refl)), (25, 1, 2, omega arith, (refl, refl, refl), (55, 0, false, refl))), (53, 0, false, refl), refl),
    ),
    refl,
    refl,
  ),
)

entry_stands : HasFunction program graphs 3 (function (line (Do (call 2 (call 1 (call 0 (word 0))))) (line (Return (word 0)) done)))
unfolding program graphs graph_3
entry_stands = (
  11,
  omega arith,
  (0, 0, false, refl),
  (1, 0, false, refl),
  (2, 0, false, refl),
  (0, 0, false, refl),
  (3, 0, false, refl),
  (
    11,
    6,
    6,
    refl,
    (7, inl (8, (8, inl (9, (9, inl (10, (10, inl (11, refl, (20, 0, false, refl)), refl), (17, 0, false, refl)), refl), (14, 0, false, refl)), refl), (11, 0, false, refl)), (9, 0, false, refl)),
    refl,
    (6, 4, 4, refl, (5, inl (6, refl, (7, 0, false, refl)), inl (5, 0, false, refl)), refl, refl),
  ),
)

they_stand : Stand program graphs
unfolding program
they_stand zero = seven_stands
they_stand (suc zero) = down_stands
they_stand (suc (suc zero)) = last_stands
they_stand (suc (suc (suc zero))) = entry_stands
they_stand (suc (suc (suc (suc f)))) = tt

has_builtins : HasBuiltins program
unfolding program
has_builtins zero lt = refl
has_builtins (suc zero) lt = refl
has_builtins (suc (suc zero)) lt = refl
has_builtins (suc (suc (suc zero))) lt = refl
has_builtins (suc (suc (suc (suc zero)))) lt = refl
has_builtins (suc (suc (suc (suc (suc zero))))) lt = refl
has_builtins (suc (suc (suc (suc (suc (suc zero)))))) lt = refl
has_builtins (suc (suc (suc (suc (suc (suc (suc zero))))))) lt = refl
has_builtins (suc (suc (suc (suc (suc (suc (suc (suc zero)))))))) lt = refl
has_builtins (suc (suc (suc (suc (suc (suc (suc (suc (suc zero))))))))) lt = refl
has_builtins (suc (suc (suc (suc (suc (suc (suc (suc (suc (suc zero)))))))))) lt = refl
has_builtins (suc (suc (suc (suc (suc (suc (suc (suc (suc (suc (suc zero))))))))))) lt = refl
has_builtins (suc (suc (suc (suc (suc (suc (suc (suc (suc (suc (suc (suc zero)))))))))))) lt = refl
has_builtins (suc (suc (suc (suc (suc (suc (suc (suc (suc (suc (suc (suc (suc k))))))))))))) lt = absurd (omega arith)

-- ---- and what it means

abbrev seen : Run → Option Outcome × List ℕ × ℕ
seen r = (r.outcome, r.world.out, r.world.left)

-- four entries and seven turns
means : seen (mean program [] 11) ≡ (Some (Returned (pos 0)), codes "1\n", 0)
unfolding program int_wrap digits
means = refl
