-- What the rules of a program's graphs are read from.
use Rattle.std.specs.Prelude.{ℕ, Bool, List, length, Option}
use Rattle.rpy_tree.specs.declared.program.Const.{Const}
use Rattle.rpy_tree.specs.declared.program.Site.{Site}
use Rattle.class_desc.specs.Tables.{Tables}
use Rattle.flow_graph.specs.declared.graph.Graph.{Graph}

-- a function's parameters, each with its default; a starred one stands behind them
pub record Callee : Type 0 where
  pub defaults : List (Option Const)
  pub star : Bool

-- Where the parts of a program stand. Cells: a variable of a graph, a parameter and the result of a function, an attribute at its home, and what
-- the lists or dicts of a site hold, with the keys. Marks: a block that is reached, a function that is reached, a class that has instances, a site
-- whose prebuilt contents are there, a variable that may be unbound, and a node that reads one.
pub record Places : Type 0 where
  pub variable : ℕ → ℕ → ℕ
  pub param : ℕ → ℕ → ℕ
  pub result : ℕ → ℕ
  pub attribute : ℕ → List ℕ → ℕ
  pub item : ℕ → ℕ
  pub key : ℕ → ℕ
  pub block : ℕ → ℕ → ℕ
  pub reached : ℕ → ℕ
  pub made : ℕ → ℕ
  pub loaded : ℕ → ℕ
  pub loose : ℕ → ℕ → ℕ
  pub unbound : ℕ → ℕ

-- a program with its graphs; a call at a node may have a string literal as its one argument
pub record Whole : Type 0 where
  pub tables : Tables
  pub callees : List Callee
  pub sites : List Site
  pub graphs : List Graph
  pub entry : ℕ
  pub has_literal : ℕ → Bool
  pub places : Places
