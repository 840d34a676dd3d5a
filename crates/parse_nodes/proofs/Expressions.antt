-- The rules for expressions.
use Rattle.std.proofs.Common.{ℕ, true, false, List, arith}
use Rattle.rpy_tree.specs.declared.syntax.UnOp.{UnOp}
use Rattle.rpy_tree.specs.declared.syntax.UnOp.TheVariants as un
use Rattle.rpy_tree.specs.declared.syntax.BinOp.{BinOp}
use Rattle.rpy_tree.specs.declared.syntax.BinOp.TheVariants as bin
use Rattle.rpy_tree.specs.declared.syntax.CmpOp.{CmpOp}
use Rattle.rpy_tree.specs.declared.syntax.Expr.{Expr}
use Rattle.rpy_parse.specs.declared.found.Aimed.{Aimed}
use Rattle.rpy_parse.specs.declared.found.Got.{Got}
use Rattle.rpy_parse.specs.declared.found.Listed.{Listed}
use Rattle.rpy_parse.specs.declared.found.Pairs.{Pairs}
use Rattle.rpy_parse.specs.declared.found.Sliced.{Sliced}
use Rattle.rpy_parse.specs.declared.found.Walk.{Walk}
use Rattle.rpy_parse.specs.declared.found.Walking.{Walking}
use Rattle.rpy_parse.specs.Build.{Lines, text, value_of, name, unary, binary, no_items, indexed, index}
use Rattle.rpy_parse.specs.Shapes.{Or, OrRest, And, AndRest, Not, Comparison, ComparisonRest, IsRest, Compared, BitOr, BitOrRest, BitXor, BitXorRest, BitAnd, BitAndRest, Shift, ShiftRest, Sum, SumRest, Term, TermRest, Signed, Primary, Trailers, Attribute, Arguments, Atom, OtherAtom, Paren, Exprs, ExprsRest, Items, ItemsRest, Item, Subscript, SubscriptRest, SliceEnd, Brackets, BracketsRest, CompRest, CompIn, CompOver, CompEnd, Braces, PairList, PairListRest, Pair, PairRest}
use Rattle.parse_nodes.proofs.Kept.{Keeps}
use Rattle.parse_nodes.proofs.Weights.{Grows, of_start, of_got}
use Rattle.parse_nodes.proofs.Held.{held_tree, held_placed}
use Rattle.parse_nodes.proofs.Trees.{int_grows, string_grows, name_grows, unary_grows, negated_grows, binary_grows, compare_grows, logic_grows, attribute_grows, call_grows, index_grows, slice_open_grows, slice_grows, no_items_grows, listed_grows, longer_grows, tuple_grows, empty_tuple_grows, bracketed_grows, list_grows, walk_all_grows, walk_some_grows, more_pairs_grows, dict_grows}

module _ (k : ℕ) where
  -- ---- operators

  pub or_keeps : (n : Lines) → Keeps k Or n
  or_keeps n = λ a p v q. omega (arith, p, q)

  pub or_rest_keeps : (a : Got) → Keeps k OrRest a
  or_rest_keeps a = (λ t b p v q. omega (arith, p, q, held_tree k a, logic_grows k false a.tree a.line b), omega arith)

  pub and_keeps : (n : Lines) → Keeps k And n
  and_keeps n = λ a p v q. omega (arith, p, q)

  pub and_rest_keeps : (a : Got) → Keeps k AndRest a
  and_rest_keeps a = (λ t b p v q. omega (arith, p, q, held_tree k a, logic_grows k true a.tree a.line b), omega arith)

  pub not_keeps : (n : Lines) → Keeps k Not n
  not_keeps n = (λ t a p. omega (arith, p, negated_grows k t.line a), λ v p. p)

  pub comparison_keeps : (n : Lines) → Keeps k Comparison n
  comparison_keeps n = λ a p v q. omega (arith, p, q)

  pub comparison_rest_keeps : (a : Got) → Keeps k ComparisonRest a
  comparison_rest_keeps a =
      (λ t u v p. p, (λ t v p. p, ((λ t v p. p, (λ t v p. p, (λ t v p. p, (λ t v p. p, (λ t v p. p, (λ t v p. p, λ t v p. p)))))), omega arith)))

  pub is_rest_keeps : (a : Got) → Keeps k IsRest a
  is_rest_keeps a = (λ t v p. p, λ v p. p)

  pub compared_keeps : (x : CmpOp × Got) → Keeps k Compared x
  compared_keeps x = λ b p. omega (arith, p, held_tree k x.1, compare_grows k x.0 x.1.tree x.1.line b)

  -- an operator, and what goes on from it
  joined : (op : BinOp) (a b : Got) → Grows (of_start k a.lines) (of_got k b)
      → (v : Got) → Grows (of_got k (binary op a.tree a.line b)) (of_got k v) → Grows (of_got k a) (of_got k v)
  joined op a b p v q = omega (arith, p, q, held_tree k a, binary_grows k op a.tree a.line b)

  pub bit_or_keeps : (n : Lines) → Keeps k BitOr n
  bit_or_keeps n = λ a p v q. omega (arith, p, q)

  pub bit_or_rest_keeps : (a : Got) → Keeps k BitOrRest a
  bit_or_rest_keeps a = (λ t. joined bin.BitOr a, omega arith)

  pub bit_xor_keeps : (n : Lines) → Keeps k BitXor n
  bit_xor_keeps n = λ a p v q. omega (arith, p, q)

  pub bit_xor_rest_keeps : (a : Got) → Keeps k BitXorRest a
  bit_xor_rest_keeps a = (λ t. joined bin.BitXor a, omega arith)

  pub bit_and_keeps : (n : Lines) → Keeps k BitAnd n
  bit_and_keeps n = λ a p v q. omega (arith, p, q)

  pub bit_and_rest_keeps : (a : Got) → Keeps k BitAndRest a
  bit_and_rest_keeps a = (λ t. joined bin.BitAnd a, omega arith)

  pub shift_keeps : (n : Lines) → Keeps k Shift n
  shift_keeps n = λ a p v q. omega (arith, p, q)

  pub shift_rest_keeps : (a : Got) → Keeps k ShiftRest a
  shift_rest_keeps a = ((λ t. joined bin.Shl a, λ t. joined bin.Shr a), omega arith)

  pub sum_keeps : (n : Lines) → Keeps k Sum n
  sum_keeps n = λ a p v q. omega (arith, p, q)

  pub sum_rest_keeps : (a : Got) → Keeps k SumRest a
  sum_rest_keeps a = ((λ t. joined bin.Add a, λ t. joined bin.Sub a), omega arith)

  pub term_keeps : (n : Lines) → Keeps k Term n
  term_keeps n = λ a p v q. omega (arith, p, q)

  pub term_rest_keeps : (a : Got) → Keeps k TermRest a
  term_rest_keeps a = ((λ t. joined bin.Mul a, (λ t. joined bin.Div a, (λ t. joined bin.FloorDiv a, λ t. joined bin.Mod a))), omega arith)

  signed : (n : Lines) (op : UnOp) (l : ℕ) (a : Got) → Grows (of_start k n) (of_got k a) → Grows (of_start k n) (of_got k (unary op l a))
  signed n op l a p = omega (arith, p, unary_grows k op l a)

  pub signed_keeps : (n : Lines) → Keeps k Signed n
  signed_keeps n = ((λ t. signed n un.Neg t.line, (λ t. signed n un.Pos t.line, λ t. signed n un.Invert t.line)), λ v p. p)

  -- ---- atoms, and what stands behind them

  pub primary_keeps : (n : Lines) → Keeps k Primary n
  primary_keeps n = λ a p v q. omega (arith, p, q)

  pub trailers_keeps : (a : Got) → Keeps k Trailers a
  trailers_keeps a =
      (λ t b p v q. omega (arith, p, q, held_placed k b), (λ t b p v q. omega (arith, p, q), (λ t b p v q. omega (arith, p, q), omega arith)))

  pub attribute_keeps : (a : Got) → Keeps k Attribute a
  attribute_keeps a = λ t. attribute_grows k a (text t)

  pub arguments_keeps : (a : Got) → Keeps k Arguments a
  arguments_keeps a = λ xs p t. omega (arith, p, held_tree k a, no_items_grows k a.lines a.line, call_grows k a.tree xs)

  pub atom_keeps : (n : Lines) → Keeps k Atom n
  atom_keeps n = (λ t. omega (arith, name_grows k n t.line (text t), held_placed k (name n t.line (text t))), λ v p. p)

  pub other_atom_keeps : (n : Lines) → Keeps k OtherAtom n
  other_atom_keeps n =
      (λ t. int_grows k n t.line (value_of t), (λ t x p. string_grows k n t.line x, (λ t v p. p, (λ t v p. p, λ t v p. p))))

  pub paren_keeps : (x : Lines × ℕ) → Keeps k Paren x
  paren_keeps x = (λ t. empty_tuple_grows k x.0 x.1, λ a p t. omega (arith, p, bracketed_grows k a x.1))

  pub exprs_keeps : (n : Lines) → Keeps k Exprs n
  exprs_keeps n = λ a p v q. omega (arith, p, q)

  pub exprs_rest_keeps : (a : Got) → Keeps k ExprsRest a
  exprs_rest_keeps a = (λ t xs p. omega (arith, p, listed_grows k a a.line, tuple_grows k xs), omega arith)

  pub items_keeps : (x : Listed) → Keeps k Items x
  items_keeps x = (λ y p v q. omega (arith, p, q), omega arith)

  pub items_rest_keeps : (x : Listed) → Keeps k ItemsRest x
  items_rest_keeps x = (λ t v p. p, omega arith)

  pub item_keeps : (x : Listed) → Keeps k Item x
  item_keeps x = λ a p. omega (arith, p, longer_grows k x.trees x.line x.goal a)

  pub subscript_keeps : (a : Got) → Keeps k Subscript a
  subscript_keeps a = (λ t v p. omega (arith, p, held_tree k a), λ i p v q. omega (arith, p, q, held_tree k a))

  pub subscript_rest_keeps : (x : Expr × ℕ × Got) → Keeps k SubscriptRest x
  subscript_rest_keeps x = (
    λ t. let i = indexed x.0 x.1 x.2 in omega (arith, index_grows k i, held_placed k (index i), held_tree k x.2),
    λ t v p. omega (arith, p, held_tree k x.2),
  )

  pub slice_end_keeps : (x : Sliced) → Keeps k SliceEnd x
  slice_end_keeps x = (λ t. slice_open_grows k x, λ b p t. omega (arith, p, slice_grows k x.of x.from x.line b))

  -- ---- lists, dicts and comprehensions

  pub brackets_keeps : (x : Lines × ℕ) → Keeps k Brackets x
  brackets_keeps x = (λ t. omega (arith, no_items_grows k x.0 x.1, list_grows k (no_items x.0 x.1)), λ a p v q. omega (arith, p, q))

  pub brackets_rest_keeps : (x : Got × ℕ) → Keeps k BracketsRest x
  brackets_rest_keeps x = (λ t v p. p, λ xs p t. omega (arith, p, listed_grows k x.0 x.1, list_grows k xs))

  pub comp_rest_keeps : (x : Got × ℕ) → Keeps k CompRest x
  comp_rest_keeps x = λ g p v q. omega (arith, p, q, held_tree k x.0)

  pub comp_in_keeps : (x : Expr × ℕ × Aimed) → Keeps k CompIn x
  comp_in_keeps x = λ t v p. p

  pub comp_over_keeps : (x : Walking) → Keeps k CompOver x
  comp_over_keeps x = λ b p v q. omega (arith, p, q, held_tree k b)

  pub comp_end_keeps : (x : Walk) → Keeps k CompEnd x
  comp_end_keeps x = (λ t. walk_all_grows k x, λ t c p u. omega (arith, p, walk_some_grows k x.item x.target x.subject x.line c))

  pub braces_keeps : (x : Lines × ℕ) → Keeps k Braces x
  braces_keeps x = λ ps p t. omega (arith, p, dict_grows k ps)

  pub pair_list_keeps : (x : Pairs) → Keeps k PairList x
  pair_list_keeps x = (λ y p v q. omega (arith, p, q), omega arith)

  pub pair_list_rest_keeps : (x : Pairs) → Keeps k PairListRest x
  pair_list_rest_keeps x = (λ t v p. p, omega arith)

  pub pair_keeps : (x : Pairs) → Keeps k Pair x
  pair_keeps x = λ key p v q. omega (arith, p, q)

  pub pair_rest_keeps : (x : List (Expr × Expr) × ℕ × Got) → Keeps k PairRest x
  pair_rest_keeps x = λ t v p. omega (arith, p, held_tree k x.2, more_pairs_grows k x.0 x.1 x.2.tree v)
