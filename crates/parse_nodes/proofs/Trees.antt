-- What the rules make of expressions and targets has no more trees than nodes.
use Rattle.std.proofs.Common.{ℕ, ℤ, ◌+◌, Bool, List, [], length, Option, Some, None, arith}
use Rattle.rpy_tree.specs.declared.syntax.UnOp.{UnOp}
use Rattle.rpy_tree.specs.declared.syntax.BinOp.{BinOp}
use Rattle.rpy_tree.specs.declared.syntax.CmpOp.{CmpOp}
use Rattle.rpy_tree.specs.declared.syntax.Expr.{Expr}
use Rattle.rpy_tree.specs.declared.syntax.Target.{Target}
use Rattle.rpy_parse.specs.declared.found.Got.{Got}
use Rattle.rpy_parse.specs.declared.found.Listed.{Listed}
use Rattle.rpy_parse.specs.declared.found.Sliced.{Sliced}
use Rattle.rpy_parse.specs.declared.found.Indexed.{Indexed}
use Rattle.rpy_parse.specs.declared.found.Pairs.{Pairs}
use Rattle.rpy_parse.specs.declared.found.Walk.{Walk}
use Rattle.rpy_parse.specs.declared.found.Aimed.{Aimed}
use Rattle.rpy_parse.specs.declared.found.Aims.{Aims}
use Rattle.rpy_parse.specs.Build.{Lines, int, string, name, unary, negated, binary, compare, logic, attribute, no_items, call, index, slice_open, slice, listed, longer, tuple, empty_tuple, bracketed, list, walk_all, walk_some, more_pairs, dict, aimed, more_aims, tuple_of_targets}
use Rattle.resolver_names.specs.Nodes.{node_at, nodes, target_nodes, nodes_if}
use Rattle.parse_nodes.proofs.Counts.{both, total_push, pair_push, int_nodes, str_nodes, name_nodes, unary_nodes, binary_nodes, compare_nodes, logic_nodes, not_nodes, call_nodes, attr_nodes, index_nodes, slice_nodes, tuple_nodes, list_nodes, dict_nodes, comp_nodes, target_tuple_nodes}
use Rattle.parse_nodes.proofs.Most.{either_only, both_first, both_second}
use Rattle.parse_nodes.proofs.Seen.{seen, seen_more}
use Rattle.parse_nodes.proofs.Weights.{Grows, aim, targets, held, list_held, pair_nodes, of_start, of_got, of_placed, of_listed, of_sliced, of_indexed, of_pairs, of_walk, of_aimed, of_aims}
use Rattle.parse_nodes.proofs.Held.{held_tree, held_aim, held_least, placed_aim, placed_least, list_trees, list_aims, list_least}
use Rattle.parse_nodes.proofs.Aims.{name_aim, attr_aim, index_aim, tuple_aim}

module _ (k : ℕ) where
  -- ---- expressions

  pub int_grows : (n : Lines) (l : ℕ) (x : ℤ) → Grows (of_start k n) (of_got k (int n l x))
  unfolding held
  int_grows n l x = omega (arith, int_nodes k (length n) x, seen_more k n l)

  pub string_grows : (n : Lines) (l : ℕ) (x : List ℕ) → Grows (of_start k n) (of_got k (string n l x))
  unfolding held
  string_grows n l x = omega (arith, str_nodes k (length n) x, seen_more k n l)

  pub name_grows : (n : Lines) (l : ℕ) (x : List ℕ) → Grows (of_start k n) (of_placed k (name n l x))
  name_grows n l x =
      let b = name_nodes k (length n) x in
      let c = name_aim k (length n) x in
      let h = placed_least k (name n l x) (node_at k 0 (length n)) (omega (arith, b)) (omega (arith, c)) in
      omega (arith, h, seen_more k n l)

  pub unary_grows : (op : UnOp) (l : ℕ) (a : Got) → Grows (of_got k a) (of_got k (unary op l a))
  unfolding held
  unary_grows op l a = omega (arith, unary_nodes k (length a.lines) op a.tree, seen_more k a.lines l, held_tree k a)

  pub negated_grows : (l : ℕ) (a : Got) → Grows (of_got k a) (of_got k (negated l a))
  unfolding held
  negated_grows l a = omega (arith, not_nodes k (length a.lines) a.tree, seen_more k a.lines l, held_tree k a)

  pub binary_grows : (op : BinOp) (a : Expr) (l : ℕ) (b : Got) → Grows (nodes k 0 a + held k b, seen k b.lines) (of_got k (binary op a l b))
  unfolding held
  binary_grows op a l b = omega (arith, binary_nodes k (length b.lines) op a b.tree, seen_more k b.lines l, held_tree k b)

  pub compare_grows : (op : CmpOp) (a : Expr) (l : ℕ) (b : Got) → Grows (nodes k 0 a + held k b, seen k b.lines) (of_got k (compare op a l b))
  unfolding held
  compare_grows op a l b = omega (arith, compare_nodes k (length b.lines) op a b.tree, seen_more k b.lines l, held_tree k b)

  pub logic_grows : (and : Bool) (a : Expr) (l : ℕ) (b : Got) → Grows (nodes k 0 a + held k b, seen k b.lines) (of_got k (logic and a l b))
  unfolding held
  logic_grows and a l b = omega (arith, logic_nodes k (length b.lines) and a b.tree, seen_more k b.lines l, held_tree k b)

  pub attribute_grows : (a : Got) (x : List ℕ) → Grows (of_got k a) (of_placed k (attribute a x))
  attribute_grows a x =
      let b = attr_nodes k (length a.lines) a.tree x in
      let c = attr_aim k (length a.lines) a.tree x in
      let h = placed_least k (attribute a x) (node_at k 0 (length a.lines) + nodes k 0 a.tree) (omega (arith, b)) (omega (arith, c)) in
      omega (arith, h, seen_more k a.lines a.line, held_tree k a)

  pub call_grows : (f : Expr) (xs : Listed) → Grows (nodes k 0 f + list_held k xs.goal xs.trees, seen k xs.lines) (of_got k (call f xs))
  unfolding held
  call_grows f xs = omega (arith, call_nodes k (length xs.lines) f xs.trees, seen_more k xs.lines xs.line, list_trees k xs.goal xs.trees)

  pub index_grows : (x : Indexed) → Grows (of_indexed k x) (of_placed k (index x))
  index_grows x =
      let b = index_nodes k (length x.lines) x.of x.index in
      let c = index_aim k (length x.lines) x.of x.index in
      let h = placed_least k (index x) (node_at k 0 (length x.lines) + nodes k 0 x.of + nodes k 0 x.index) (omega (arith, b)) (omega (arith, c)) in
      omega (arith, h, seen_more k x.lines x.line)

  pub slice_open_grows : (x : Sliced) → Grows (of_sliced k x) (of_got k (slice_open x))
  unfolding held
  slice_open_grows x = omega (arith, slice_nodes k (length x.lines) x.of x.from None, seen_more k x.lines x.line)

  pub slice_grows : (a : Expr) (from : Option Expr) (l : ℕ) (to : Got)
      → Grows (nodes k 0 a + nodes_if k 0 from + held k to, seen k to.lines) (of_got k (slice a from l to))
  unfolding held
  slice_grows a from l to = omega (arith, slice_nodes k (length to.lines) a from (Some to.tree), seen_more k to.lines l, held_tree k to)

  -- ---- lists of expressions

  pub no_items_grows : (n : Lines) (l : ℕ) → Grows (of_start k n) (of_listed k (no_items n l))
  no_items_grows n l = let h = list_least k (no_items n l) 0 (omega arith) (λ _. omega arith) in omega (arith, h)

  pub listed_grows : (a : Got) (l : ℕ) → Grows (of_got k a) (of_listed k (listed a l))
  listed_grows a l =
      let t = held_tree k a in
      let h = list_least k (listed a l) (held k a) (omega (arith, t)) (λ g. let i = held_aim k a g in omega (arith, i)) in
      omega (arith, h)

  pub longer_grows : (xs : List Expr) (l : ℕ) (goal : Bool) (a : Got)
      → Grows (list_held k goal xs + held k a, seen k a.lines) (of_listed k (longer xs l goal a))
  longer_grows xs l goal a =
      let t = held_tree k a in
      let u = list_trees k goal xs in
      let p = total_push (nodes k 0) xs a.tree in
      let q = total_push (aim k) xs a.tree in
      let h = list_least k (longer xs l goal a) (list_held k goal xs + held k a) (omega (arith, t, u, p))
      (λ g.
      let i = held_aim k a (both_second goal a.goal g) in
      let j = list_aims k goal xs (both_first goal a.goal g) in
      omega (arith, i, j, q))
      in
      omega (arith, h)

  pub tuple_grows : (x : Listed) → Grows (of_listed k x) (of_got k (tuple x))
  tuple_grows x =
      let b = tuple_nodes k (length x.lines) x.trees in
      let c = tuple_aim k (length x.lines) x.trees in
      let t = list_trees k x.goal x.trees in
      let h = held_least k (tuple x) (node_at k 0 (length x.lines) + list_held k x.goal x.trees) (omega (arith, b, t))
      (λ g. let i = list_aims k x.goal x.trees (either_only x.goal g) in omega (arith, c, i))
      in
      omega (arith, h, seen_more k x.lines x.line)

  pub empty_tuple_grows : (n : Lines) (l : ℕ) → Grows (of_start k n) (of_got k (empty_tuple n l))
  unfolding held
  empty_tuple_grows n l = omega (arith, tuple_nodes k (length n) [], seen_more k n l)

  pub bracketed_grows : (a : Got) (l : ℕ) → Grows (of_got k a) (of_got k (bracketed a l))
  bracketed_grows a l =
      let h = held_least k (bracketed a l) (held k a) (held_tree k a) (λ g. held_aim k a (either_only a.goal g)) in
      omega (arith, h)

  pub list_grows : (x : Listed) → Grows (of_listed k x) (of_got k (list x))
  unfolding held
  list_grows x = omega (arith, list_nodes k (length x.lines) x.trees, seen_more k x.lines x.line, list_trees k x.goal x.trees)

  pub walk_all_grows : (x : Walk) → Grows (of_walk k x) (of_got k (walk_all x))
  unfolding held
  walk_all_grows x = omega (arith, comp_nodes k (length x.lines) x.item x.target x.subject None, seen_more k x.lines x.line)

  pub walk_some_grows : (item : Expr) (g : Target) (a : Expr) (l : ℕ) (c : Got)
      → Grows (nodes k 0 item + target_nodes k 0 g + nodes k 0 a + held k c, seen k c.lines) (of_got k (walk_some item g a l c))
  unfolding held
  walk_some_grows item g a l c = omega (arith, comp_nodes k (length c.lines) item g a (Some c.tree), seen_more k c.lines l, held_tree k c)

  pub more_pairs_grows : (xs : List (Expr × Expr)) (l : ℕ) (key : Expr) (v : Got)
      → Grows (pair_nodes k xs + nodes k 0 key + held k v, seen k v.lines) (of_pairs k (more_pairs xs l key v))
  more_pairs_grows xs l key v = omega (arith, pair_push (both (nodes k 0)) xs (key, v.tree), held_tree k v)

  pub dict_grows : (x : Pairs) → Grows (of_pairs k x) (of_got k (dict x))
  unfolding held
  dict_grows x = omega (arith, dict_nodes k (length x.lines) x.pairs, seen_more k x.lines x.line)

  -- ---- targets

  pub aimed_grows : (a : Got) → Grows (of_placed k a) (of_aimed k (aimed a))
  aimed_grows a = omega (arith, placed_aim k a)

  pub more_aims_grows : (xs : List Target) (l : ℕ) (a : Aimed)
      → Grows (targets k xs + target_nodes k 0 a.target, seen k a.lines) (of_aims k (more_aims xs l a))
  more_aims_grows xs l a = omega (arith, total_push (target_nodes k 0) xs a.target)

  pub tuple_of_targets_grows : (x : Aims) → Grows (of_aims k x) (of_aimed k (tuple_of_targets x))
  tuple_of_targets_grows x = omega (arith, target_tuple_nodes k (length x.lines) x.targets, seen_more k x.lines x.line)
