-- The rules for simple statements.
use Rattle.std.proofs.Common.{◌≡◌, ℕ, true, arith}
use Rattle.rpy_tree.specs.declared.syntax.BinOp.{BinOp}
use Rattle.rpy_tree.specs.declared.syntax.BinOp.TheVariants as bin
use Rattle.rpy_tree.specs.declared.syntax.Expr.{Expr}
use Rattle.rpy_parse.specs.declared.found.Assigned.{Assigned}
use Rattle.rpy_parse.specs.declared.found.Got.{Got}
use Rattle.rpy_parse.specs.declared.found.Indexed.{Indexed}
use Rattle.rpy_parse.specs.declared.found.Listed.{Listed}
use Rattle.rpy_parse.specs.declared.found.Place.{Place}
use Rattle.rpy_parse.specs.Build.{Lines, index, goal_of, changed}
use Rattle.rpy_parse.specs.Shapes.{Simple, PassWord, BreakWord, ContinueWord, Return, ReturnRest, Raise, Assert, AssertRest, Del, DelOther, DelIndex, DelSubscript, DelSubscriptRest, Print, PrintRest, Prints, Valued, ValuedRest, AssignFirst, Assigns, Assign}
use Rattle.resolver_names.specs.Nodes.{target_nodes}
use Rattle.parse_nodes.proofs.Counts.{total_push}
use Rattle.parse_nodes.proofs.Kept.{Keeps}
use Rattle.parse_nodes.proofs.Weights.{Grows, of_start, of_got, of_made}
use Rattle.parse_nodes.proofs.Held.{held_tree, held_placed, goal_held, place_held, placed_aim}
use Rattle.parse_nodes.proofs.Trees.{index_grows, no_items_grows}
use Rattle.parse_nodes.proofs.Stmts.{passed_grows, broken_grows, continued_grows, returned_grows, returned_value_grows, raised_grows, asserted_grows, deleted_grows, printed_grows, assignment_grows, changed_grows, evaluated_grows}

module _ (k : ℕ) where
  pub simple_keeps : (x : Place × Lines) → Keeps k Simple x
  simple_keeps x = (λ v p. p, (λ g v p. p, (λ g v p. p, (λ g v p. p, (λ v p. p, (λ v p. p, (λ v p. p, (λ v p. p, λ v p. p))))))))

  pub pass_keeps : (n : Lines) → Keeps k PassWord n
  pass_keeps n = λ t. passed_grows k n t.line

  pub break_keeps : (n : Lines) → Keeps k BreakWord n
  break_keeps n = λ t. broken_grows k n t.line

  pub continue_keeps : (n : Lines) → Keeps k ContinueWord n
  continue_keeps n = λ t. continued_grows k n t.line

  pub return_keeps : (n : Lines) → Keeps k Return n
  return_keeps n = λ t v p. p

  pub return_rest_keeps : (x : Lines × ℕ) → Keeps k ReturnRest x
  return_rest_keeps x = (λ a p. omega (arith, p, returned_value_grows k x.1 a), returned_grows k x.0 x.1)

  pub raise_keeps : (n : Lines) → Keeps k Raise n
  raise_keeps n = λ t a p. omega (arith, p, raised_grows k t.line a)

  pub assert_keeps : (n : Lines) → Keeps k Assert n
  assert_keeps n = λ t a p v q. omega (arith, p, q)

  pub assert_rest_keeps : (x : ℕ × Got) → Keeps k AssertRest x
  assert_rest_keeps x = (λ t u q. asserted_grows k x.0 x.1, asserted_grows k x.0 x.1)

  -- ---- `del`

  pub del_keeps : (n : Lines) → Keeps k Del n
  del_keeps n = λ t a p v q. omega (arith, p, q)

  pub del_other_keeps : (x : ℕ × Got) → Keeps k DelOther x
  del_other_keeps x = (λ t b p v q. omega (arith, p, q, held_placed k b), (λ t b p v q. omega (arith, p, q), λ t v p. p))

  pub del_index_keeps : (x : ℕ × Indexed) → Keeps k DelIndex x
  del_index_keeps x =
      let i = index_grows k x.1 in
      let h = held_placed k (index x.1) in (
        λ t b p v q. omega (arith, p, q, i, h, held_placed k b),
        (λ t b p v q. omega (arith, p, q, i, h), (λ t v p. omega (arith, p, i, h), deleted_grows k x.0 x.1)),
      )

  pub del_subscript_keeps : (x : ℕ × Got) → Keeps k DelSubscript x
  del_subscript_keeps x = (λ t b p v q. omega (arith, p, q, held_tree k x.1), λ i p v q. omega (arith, p, q, held_tree k x.1))

  pub del_subscript_rest_keeps : (x : ℕ × Expr × ℕ × Got) → Keeps k DelSubscriptRest x
  del_subscript_rest_keeps x = (λ t v p. omega (arith, p, held_tree k x.3), λ t b p v q. omega (arith, p, q, held_tree k x.3))

  -- ---- `print`

  pub print_keeps : (n : Lines) → Keeps k Print n
  print_keeps n = λ t v p. omega (arith, p, no_items_grows k n t.line)

  pub print_rest_keeps : (x : Listed) → Keeps k PrintRest x
  print_rest_keeps x = (λ y p zs q. omega (arith, p, q, printed_grows k zs), printed_grows k x)

  pub prints_keeps : (x : Listed) → Keeps k Prints x
  prints_keeps x = (λ t y p v q. omega (arith, p, q), omega arith)

  -- ---- assignments

  pub valued_keeps : (n : Lines) → Keeps k Valued n
  valued_keeps n = λ a p v q. omega (arith, p, q)

  changes : (a : Got) → a.place ≡ true → (op : BinOp) (b : Got)
      → Grows (of_start k a.lines) (of_got k b) → Grows (of_got k a) (of_made k (changed (goal_of a.tree) a.line op b))
  changes a g op b p = omega (arith, p, placed_aim k a, place_held k a g, changed_grows k (goal_of a.tree) a.line op b)

  pub valued_rest_keeps : (a : Got) → Keeps k ValuedRest a
  valued_rest_keeps a = (
    λ g v p. omega (arith, p, goal_held k a g),
    (
      λ g.
          let c = changes a g in (
            λ t. c bin.Add,
            (
              λ t. c bin.Sub,
              (
                λ t. c bin.Mul,
                (
                  λ t. c bin.Div,
                  (
                    λ t. c bin.FloorDiv,
                    (λ t. c bin.Mod, (λ t. c bin.Shl, (λ t. c bin.Shr, (λ t. c bin.BitAnd, (λ t. c bin.BitOr, λ t. c bin.BitXor))))),
                  ),
                ),
              ),
            ),
          ),
      evaluated_grows k a,
    ),
  )

  pub assign_first_keeps : (a : Got) → Keeps k AssignFirst a
  assign_first_keeps a = λ t b p v q. omega (arith, p, q, placed_aim k a)

  pub assigns_keeps : (x : Assigned) → Keeps k Assigns x
  assigns_keeps x = (λ g y p v q. omega (arith, p, q, goal_held k x.value g), assignment_grows k x)

  pub assign_keeps : (x : Assigned) → Keeps k Assign x
  assign_keeps x = λ t b p. omega (arith, p, total_push (target_nodes k 0) x.targets (goal_of x.value.tree), placed_aim k x.value)
