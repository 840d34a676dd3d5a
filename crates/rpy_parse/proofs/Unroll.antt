-- What a rule reads is what its parts read.
use Rattle.std.proofs.Common.{◌≡◌, ℕ, cond, List, [], ◌∷◌, ◌++◌, length, Option, Some, None, Result, Ok, Err, sym, subst}
use Rattle.rpy_token.specs.declared.token.Token.{Token}
use Rattle.rpy_token.specs.declared.token.TokenKind.{TokenKind}
use Rattle.rpy_token.specs.declared.token.TokenKind.TheVariants as k
use Rattle.rpy_token.specs.declared.token.Keyword.TheVariants as word
use Rattle.rpy_token.specs.declared.token.Sign.TheVariants as sign
use Rattle.rpy_tree.specs.declared.syntax.UnOp.{UnOp}
use Rattle.rpy_tree.specs.declared.syntax.BinOp.{BinOp}
use Rattle.rpy_tree.specs.declared.syntax.CmpOp.{CmpOp}
use Rattle.rpy_tree.specs.declared.syntax.CmpOp.TheVariants as cmp
use Rattle.rpy_tree.specs.declared.syntax.Expr.{Expr}
use Rattle.rpy_parse.specs.declared.found.Got.{Got}
use Rattle.rpy_parse.specs.declared.found.Listed.{Listed}
use Rattle.rpy_parse.specs.declared.found.Sliced.{Sliced}
use Rattle.rpy_parse.specs.declared.found.Pairs.{Pairs}
use Rattle.rpy_parse.specs.declared.found.Walking.{Walking}
use Rattle.rpy_parse.specs.declared.found.Walk.{Walk}
use Rattle.rpy_parse.specs.declared.found.Aimed.{Aimed}
use Rattle.rpy_parse.specs.declared.found.Aims.{Aims}
use Rattle.rpy_parse.specs.declared.fault.Stop.{Stop}
use Rattle.rpy_parse.specs.Input.{Input, first_kind, here, next, sees}
use Rattle.rpy_parse.specs.Kind.{sign_kind, word_kind}
use Rattle.rpy_parse.specs.Build.{Lines, binary, unary, name, int, string}
use Rattle.rpy_parse.specs.Ops.{comparison_op, shift_op, sum_op, term_op, sign_op, begins_expression, begins_atom}
use Rattle.rpy_parse.specs.Rule.{Parser, and_then, eat, Reads}
use Rattle.rpy_parse.specs.Shapes.{tables, Or, OrRest, And, AndRest, Not, Comparison, ComparisonRest, IsRest, Compared, BitOr, BitOrRest, BitXor, BitXorRest, BitAnd, BitAndRest, Shift, ShiftRest, Sum, SumRest, Term, TermRest, Signed, Primary, Trailers, Attribute, Arguments, Atom, OtherAtom, Strings, Paren, Exprs, ExprsRest, Items, ItemsRest, Item, Subscript, SubscriptRest, SliceEnd, Brackets, BracketsRest, CompRest, CompIn, CompOver, CompEnd, Braces, PairList, PairListRest, Pair, PairRest, Goal, GoalRest, GoalList, GoalListRest, OneGoal, GoalPart, PlaceRest, OtherRest, PlaceSubscript, PlaceSubscriptRest}
use Rattle.rpy_parse.specs.Rows.{rule, reading}
use Rattle.rpy_parse.proofs.Look.{look, by_looks, reads_by}

abbrev token_at : TokenKind → ℕ → ℕ → ℕ → Token
token_at x s e l = record { kind = x; start = s; end = e; line = l }

pub or_reads : (c : Lines) (i : Input) (r : Result (Got) Stop) (j : Input) → Reads (look tables reading (rule Or c) i) r j → Reads (reading Or c i) r j
or_reads c i r j h = reads_by Or c i r j h

pub or_rest_reads : (c : Got) (i : Input) (r : Result (Got) Stop) (j : Input) → Reads (look tables reading (rule OrRest c) i) r j → Reads (reading OrRest c i) r j
or_rest_reads c i r j h = reads_by OrRest c i r j h

pub and_reads : (c : Lines) (i : Input) (r : Result (Got) Stop) (j : Input) → Reads (look tables reading (rule And c) i) r j → Reads (reading And c i) r j
and_reads c i r j h = reads_by And c i r j h

pub and_rest_reads : (c : Got) (i : Input) (r : Result (Got) Stop) (j : Input) → Reads (look tables reading (rule AndRest c) i) r j → Reads (reading AndRest c i) r j
and_rest_reads c i r j h = reads_by AndRest c i r j h

pub not_reads : (c : Lines) (i : Input) (r : Result (Got) Stop) (j : Input) → Reads (look tables reading (rule Not c) i) r j → Reads (reading Not c i) r j
not_reads c i r j h = reads_by Not c i r j h

pub comparison_reads : (c : Lines) (i : Input) (r : Result (Got) Stop) (j : Input) → Reads (look tables reading (rule Comparison c) i) r j → Reads (reading Comparison c i) r j
comparison_reads c i r j h = reads_by Comparison c i r j h

pub is_rest_reads : (c : Got) (i : Input) (r : Result (Got) Stop) (j : Input) → Reads (look tables reading (rule IsRest c) i) r j → Reads (reading IsRest c i) r j
is_rest_reads c i r j h = reads_by IsRest c i r j h

pub compared_reads : (c : CmpOp × Got) (i : Input) (r : Result (Got) Stop) (j : Input) → Reads (look tables reading (rule Compared c) i) r j → Reads (reading Compared c i) r j
compared_reads c i r j h = reads_by Compared c i r j h

pub bit_or_reads : (c : Lines) (i : Input) (r : Result (Got) Stop) (j : Input) → Reads (look tables reading (rule BitOr c) i) r j → Reads (reading BitOr c i) r j
bit_or_reads c i r j h = reads_by BitOr c i r j h

pub bit_or_rest_reads : (c : Got) (i : Input) (r : Result (Got) Stop) (j : Input) → Reads (look tables reading (rule BitOrRest c) i) r j → Reads (reading BitOrRest c i) r j
bit_or_rest_reads c i r j h = reads_by BitOrRest c i r j h

pub bit_xor_reads : (c : Lines) (i : Input) (r : Result (Got) Stop) (j : Input) → Reads (look tables reading (rule BitXor c) i) r j → Reads (reading BitXor c i) r j
bit_xor_reads c i r j h = reads_by BitXor c i r j h

pub bit_xor_rest_reads : (c : Got) (i : Input) (r : Result (Got) Stop) (j : Input) → Reads (look tables reading (rule BitXorRest c) i) r j → Reads (reading BitXorRest c i) r j
bit_xor_rest_reads c i r j h = reads_by BitXorRest c i r j h

pub bit_and_reads : (c : Lines) (i : Input) (r : Result (Got) Stop) (j : Input) → Reads (look tables reading (rule BitAnd c) i) r j → Reads (reading BitAnd c i) r j
bit_and_reads c i r j h = reads_by BitAnd c i r j h

pub bit_and_rest_reads : (c : Got) (i : Input) (r : Result (Got) Stop) (j : Input) → Reads (look tables reading (rule BitAndRest c) i) r j → Reads (reading BitAndRest c i) r j
bit_and_rest_reads c i r j h = reads_by BitAndRest c i r j h

pub shift_reads : (c : Lines) (i : Input) (r : Result (Got) Stop) (j : Input) → Reads (look tables reading (rule Shift c) i) r j → Reads (reading Shift c i) r j
shift_reads c i r j h = reads_by Shift c i r j h

pub sum_reads : (c : Lines) (i : Input) (r : Result (Got) Stop) (j : Input) → Reads (look tables reading (rule Sum c) i) r j → Reads (reading Sum c i) r j
sum_reads c i r j h = reads_by Sum c i r j h

pub term_reads : (c : Lines) (i : Input) (r : Result (Got) Stop) (j : Input) → Reads (look tables reading (rule Term c) i) r j → Reads (reading Term c i) r j
term_reads c i r j h = reads_by Term c i r j h

pub primary_reads : (c : Lines) (i : Input) (r : Result (Got) Stop) (j : Input) → Reads (look tables reading (rule Primary c) i) r j → Reads (reading Primary c i) r j
primary_reads c i r j h = reads_by Primary c i r j h

pub trailers_reads : (c : Got) (i : Input) (r : Result (Got) Stop) (j : Input) → Reads (look tables reading (rule Trailers c) i) r j → Reads (reading Trailers c i) r j
trailers_reads c i r j h = reads_by Trailers c i r j h

pub attribute_reads : (c : Got) (i : Input) (r : Result (Got) Stop) (j : Input) → Reads (look tables reading (rule Attribute c) i) r j → Reads (reading Attribute c i) r j
attribute_reads c i r j h = reads_by Attribute c i r j h

pub arguments_reads : (c : Got) (i : Input) (r : Result (Got) Stop) (j : Input) → Reads (look tables reading (rule Arguments c) i) r j → Reads (reading Arguments c i) r j
arguments_reads c i r j h = reads_by Arguments c i r j h

pub paren_reads : (c : Lines × ℕ) (i : Input) (r : Result (Got) Stop) (j : Input) → Reads (look tables reading (rule Paren c) i) r j → Reads (reading Paren c i) r j
paren_reads c i r j h = reads_by Paren c i r j h

pub exprs_reads : (c : Lines) (i : Input) (r : Result (Got) Stop) (j : Input) → Reads (look tables reading (rule Exprs c) i) r j → Reads (reading Exprs c i) r j
exprs_reads c i r j h = reads_by Exprs c i r j h

pub exprs_rest_reads : (c : Got) (i : Input) (r : Result (Got) Stop) (j : Input) → Reads (look tables reading (rule ExprsRest c) i) r j → Reads (reading ExprsRest c i) r j
exprs_rest_reads c i r j h = reads_by ExprsRest c i r j h

pub items_rest_reads : (c : Listed) (i : Input) (r : Result (Listed) Stop) (j : Input) → Reads (look tables reading (rule ItemsRest c) i) r j → Reads (reading ItemsRest c i) r j
items_rest_reads c i r j h = reads_by ItemsRest c i r j h

pub item_reads : (c : Listed) (i : Input) (r : Result (Listed) Stop) (j : Input) → Reads (look tables reading (rule Item c) i) r j → Reads (reading Item c i) r j
item_reads c i r j h = reads_by Item c i r j h

pub subscript_reads : (c : Got) (i : Input) (r : Result (Got) Stop) (j : Input) → Reads (look tables reading (rule Subscript c) i) r j → Reads (reading Subscript c i) r j
subscript_reads c i r j h = reads_by Subscript c i r j h

pub subscript_rest_reads : (c : Expr × ℕ × Got) (i : Input) (r : Result (Got) Stop) (j : Input) → Reads (look tables reading (rule SubscriptRest c) i) r j → Reads (reading SubscriptRest c i) r j
subscript_rest_reads c i r j h = reads_by SubscriptRest c i r j h

pub slice_end_reads : (c : Sliced) (i : Input) (r : Result (Got) Stop) (j : Input) → Reads (look tables reading (rule SliceEnd c) i) r j → Reads (reading SliceEnd c i) r j
slice_end_reads c i r j h = reads_by SliceEnd c i r j h

pub brackets_reads : (c : Lines × ℕ) (i : Input) (r : Result (Got) Stop) (j : Input) → Reads (look tables reading (rule Brackets c) i) r j → Reads (reading Brackets c i) r j
brackets_reads c i r j h = reads_by Brackets c i r j h

pub brackets_rest_reads : (c : Got × ℕ) (i : Input) (r : Result (Got) Stop) (j : Input) → Reads (look tables reading (rule BracketsRest c) i) r j → Reads (reading BracketsRest c i) r j
brackets_rest_reads c i r j h = reads_by BracketsRest c i r j h

pub comp_rest_reads : (c : Got × ℕ) (i : Input) (r : Result (Got) Stop) (j : Input) → Reads (look tables reading (rule CompRest c) i) r j → Reads (reading CompRest c i) r j
comp_rest_reads c i r j h = reads_by CompRest c i r j h

pub comp_in_reads : (c : Expr × ℕ × Aimed) (i : Input) (r : Result (Got) Stop) (j : Input) → Reads (look tables reading (rule CompIn c) i) r j → Reads (reading CompIn c i) r j
comp_in_reads c i r j h = reads_by CompIn c i r j h

pub comp_over_reads : (c : Walking) (i : Input) (r : Result (Got) Stop) (j : Input) → Reads (look tables reading (rule CompOver c) i) r j → Reads (reading CompOver c i) r j
comp_over_reads c i r j h = reads_by CompOver c i r j h

pub comp_end_reads : (c : Walk) (i : Input) (r : Result (Got) Stop) (j : Input) → Reads (look tables reading (rule CompEnd c) i) r j → Reads (reading CompEnd c i) r j
comp_end_reads c i r j h = reads_by CompEnd c i r j h

pub braces_reads : (c : Lines × ℕ) (i : Input) (r : Result (Got) Stop) (j : Input) → Reads (look tables reading (rule Braces c) i) r j → Reads (reading Braces c i) r j
braces_reads c i r j h = reads_by Braces c i r j h

pub pair_list_rest_reads : (c : Pairs) (i : Input) (r : Result (Pairs) Stop) (j : Input) → Reads (look tables reading (rule PairListRest c) i) r j → Reads (reading PairListRest c i) r j
pair_list_rest_reads c i r j h = reads_by PairListRest c i r j h

pub pair_reads : (c : Pairs) (i : Input) (r : Result (Pairs) Stop) (j : Input) → Reads (look tables reading (rule Pair c) i) r j → Reads (reading Pair c i) r j
pair_reads c i r j h = reads_by Pair c i r j h

pub pair_rest_reads : (c : List (Expr × Expr) × ℕ × Got) (i : Input) (r : Result (Pairs) Stop) (j : Input) → Reads (look tables reading (rule PairRest c) i) r j → Reads (reading PairRest c i) r j
pair_rest_reads c i r j h = reads_by PairRest c i r j h

pub goal_reads : (c : Lines) (i : Input) (r : Result (Aimed) Stop) (j : Input) → Reads (look tables reading (rule Goal c) i) r j → Reads (reading Goal c i) r j
goal_reads c i r j h = reads_by Goal c i r j h

pub goal_rest_reads : (c : Aimed) (i : Input) (r : Result (Aimed) Stop) (j : Input) → Reads (look tables reading (rule GoalRest c) i) r j → Reads (reading GoalRest c i) r j
goal_rest_reads c i r j h = reads_by GoalRest c i r j h

pub goal_list_rest_reads : (c : Aims) (i : Input) (r : Result (Aims) Stop) (j : Input) → Reads (look tables reading (rule GoalListRest c) i) r j → Reads (reading GoalListRest c i) r j
goal_list_rest_reads c i r j h = reads_by GoalListRest c i r j h

pub one_goal_reads : (c : Aims) (i : Input) (r : Result (Aims) Stop) (j : Input) → Reads (look tables reading (rule OneGoal c) i) r j → Reads (reading OneGoal c i) r j
one_goal_reads c i r j h = reads_by OneGoal c i r j h

pub place_rest_reads : (c : Got) (i : Input) (r : Result (Aimed) Stop) (j : Input) → Reads (look tables reading (rule PlaceRest c) i) r j → Reads (reading PlaceRest c i) r j
place_rest_reads c i r j h = reads_by PlaceRest c i r j h

pub other_rest_reads : (c : Got) (i : Input) (r : Result (Aimed) Stop) (j : Input) → Reads (look tables reading (rule OtherRest c) i) r j → Reads (reading OtherRest c i) r j
other_rest_reads c i r j h = reads_by OtherRest c i r j h

pub place_subscript_reads : (c : Got) (i : Input) (r : Result (Aimed) Stop) (j : Input) → Reads (look tables reading (rule PlaceSubscript c) i) r j → Reads (reading PlaceSubscript c i) r j
place_subscript_reads c i r j h = reads_by PlaceSubscript c i r j h

pub place_subscript_rest_reads : (c : Expr × ℕ × Got) (i : Input) (r : Result (Aimed) Stop) (j : Input) → Reads (look tables reading (rule PlaceSubscriptRest c) i) r j → Reads (reading PlaceSubscriptRest c i) r j
place_subscript_rest_reads c i r j h = reads_by PlaceSubscriptRest c i r j h

abbrev pub shift_rest_by : Got → Option BinOp → Parser Got
shift_rest_by a None i = Ok (a, i)
shift_rest_by a (Some op) i = and_then (reading Sum a.lines (next i)) (λ b. reading ShiftRest (binary op a.tree a.line b))

abbrev pub shift_rest_on : Got → Option TokenKind → Parser Got
shift_rest_on a x i = shift_rest_by a (shift_op x) i

shift_rest_at : (c : Got) (x : TokenKind) (s e l : ℕ) (i : Input) → reading ShiftRest c (token_at x s e l ∷ i) ≡ shift_rest_on c (Some x) (token_at x s e l ∷ i)
shift_rest_at c (k.Word word.And) s e l i = by_looks ShiftRest c (token_at (k.Word word.And) s e l ∷ i)
shift_rest_at c (k.Sign sign.ShiftLeft) s e l i = by_looks ShiftRest c (token_at (k.Sign sign.ShiftLeft) s e l ∷ i)
shift_rest_at c x s e l i = by_looks ShiftRest c (token_at x s e l ∷ i)

pub shift_rest_is : (c : Got) (i : Input) → reading ShiftRest c i ≡ shift_rest_on c (first_kind i) i
shift_rest_is c [] = by_looks ShiftRest c []
shift_rest_is c (t ∷ i) = shift_rest_at c t.kind t.start t.end t.line i

pub shift_rest_reads : (c : Got) (i : Input) (r : Result (Got) Stop) (j : Input) → Reads (shift_rest_on c (first_kind i) i) r j → Reads (reading ShiftRest c i) r j
shift_rest_reads c i r j h = subst (λ o. Reads o r j) (sym (shift_rest_is c i)) h

abbrev pub sum_rest_by : Got → Option BinOp → Parser Got
sum_rest_by a None i = Ok (a, i)
sum_rest_by a (Some op) i = and_then (reading Term a.lines (next i)) (λ b. reading SumRest (binary op a.tree a.line b))

abbrev pub sum_rest_on : Got → Option TokenKind → Parser Got
sum_rest_on a x i = sum_rest_by a (sum_op x) i

sum_rest_at : (c : Got) (x : TokenKind) (s e l : ℕ) (i : Input) → reading SumRest c (token_at x s e l ∷ i) ≡ sum_rest_on c (Some x) (token_at x s e l ∷ i)
sum_rest_at c (k.Word word.And) s e l i = by_looks SumRest c (token_at (k.Word word.And) s e l ∷ i)
sum_rest_at c (k.Sign sign.Plus) s e l i = by_looks SumRest c (token_at (k.Sign sign.Plus) s e l ∷ i)
sum_rest_at c x s e l i = by_looks SumRest c (token_at x s e l ∷ i)

pub sum_rest_is : (c : Got) (i : Input) → reading SumRest c i ≡ sum_rest_on c (first_kind i) i
sum_rest_is c [] = by_looks SumRest c []
sum_rest_is c (t ∷ i) = sum_rest_at c t.kind t.start t.end t.line i

pub sum_rest_reads : (c : Got) (i : Input) (r : Result (Got) Stop) (j : Input) → Reads (sum_rest_on c (first_kind i) i) r j → Reads (reading SumRest c i) r j
sum_rest_reads c i r j h = subst (λ o. Reads o r j) (sym (sum_rest_is c i)) h

abbrev pub term_rest_by : Got → Option BinOp → Parser Got
term_rest_by a None i = Ok (a, i)
term_rest_by a (Some op) i = and_then (reading Signed a.lines (next i)) (λ b. reading TermRest (binary op a.tree a.line b))

abbrev pub term_rest_on : Got → Option TokenKind → Parser Got
term_rest_on a x i = term_rest_by a (term_op x) i

term_rest_at : (c : Got) (x : TokenKind) (s e l : ℕ) (i : Input) → reading TermRest c (token_at x s e l ∷ i) ≡ term_rest_on c (Some x) (token_at x s e l ∷ i)
term_rest_at c (k.Word word.And) s e l i = by_looks TermRest c (token_at (k.Word word.And) s e l ∷ i)
term_rest_at c (k.Sign sign.Star) s e l i = by_looks TermRest c (token_at (k.Sign sign.Star) s e l ∷ i)
term_rest_at c x s e l i = by_looks TermRest c (token_at x s e l ∷ i)

pub term_rest_is : (c : Got) (i : Input) → reading TermRest c i ≡ term_rest_on c (first_kind i) i
term_rest_is c [] = by_looks TermRest c []
term_rest_is c (t ∷ i) = term_rest_at c t.kind t.start t.end t.line i

pub term_rest_reads : (c : Got) (i : Input) (r : Result (Got) Stop) (j : Input) → Reads (term_rest_on c (first_kind i) i) r j → Reads (reading TermRest c i) r j
term_rest_reads c i r j h = subst (λ o. Reads o r j) (sym (term_rest_is c i)) h

abbrev pub signed_by : Lines → Option UnOp → Parser Got
signed_by n None i = reading Primary n i
signed_by n (Some op) i = and_then (reading Signed n (next i)) (λ a j. Ok (unary op (here i).line a, j))

abbrev pub signed_on : Lines → Option TokenKind → Parser Got
signed_on n x i = signed_by n (sign_op x) i

signed_at : (c : Lines) (x : TokenKind) (s e l : ℕ) (i : Input) → reading Signed c (token_at x s e l ∷ i) ≡ signed_on c (Some x) (token_at x s e l ∷ i)
signed_at c (k.Word word.And) s e l i = by_looks Signed c (token_at (k.Word word.And) s e l ∷ i)
signed_at c (k.Sign sign.Plus) s e l i = by_looks Signed c (token_at (k.Sign sign.Plus) s e l ∷ i)
signed_at c x s e l i = by_looks Signed c (token_at x s e l ∷ i)

pub signed_is : (c : Lines) (i : Input) → reading Signed c i ≡ signed_on c (first_kind i) i
signed_is c [] = by_looks Signed c []
signed_is c (t ∷ i) = signed_at c t.kind t.start t.end t.line i

pub signed_reads : (c : Lines) (i : Input) (r : Result (Got) Stop) (j : Input) → Reads (signed_on c (first_kind i) i) r j → Reads (reading Signed c i) r j
signed_reads c i r j h = subst (λ o. Reads o r j) (sym (signed_is c i)) h

abbrev pub compared_by : Got → Option CmpOp → Parser Got
compared_by a None i = Ok (a, i)
compared_by a (Some op) i = reading Compared (op, a) (next i)

abbrev pub comparison_rest_on : Got → Option TokenKind → Parser Got
comparison_rest_on a (Some (k.Word word.Not)) i = and_then (eat (word_kind word.In) (next i)) (λ _. reading Compared (cmp.NotWithin, a))
comparison_rest_on a (Some (k.Word word.Is)) i = reading IsRest a (next i)
comparison_rest_on a x i = compared_by a (comparison_op x) i

comparison_rest_at : (c : Got) (x : TokenKind) (s e l : ℕ) (i : Input) → reading ComparisonRest c (token_at x s e l ∷ i) ≡ comparison_rest_on c (Some x) (token_at x s e l ∷ i)
comparison_rest_at c (k.Word word.And) s e l i = by_looks ComparisonRest c (token_at (k.Word word.And) s e l ∷ i)
comparison_rest_at c (k.Sign sign.Less) s e l i = by_looks ComparisonRest c (token_at (k.Sign sign.Less) s e l ∷ i)
comparison_rest_at c x s e l i = by_looks ComparisonRest c (token_at x s e l ∷ i)

pub comparison_rest_is : (c : Got) (i : Input) → reading ComparisonRest c i ≡ comparison_rest_on c (first_kind i) i
comparison_rest_is c [] = by_looks ComparisonRest c []
comparison_rest_is c (t ∷ i) = comparison_rest_at c t.kind t.start t.end t.line i

pub comparison_rest_reads : (c : Got) (i : Input) (r : Result (Got) Stop) (j : Input) → Reads (comparison_rest_on c (first_kind i) i) r j → Reads (reading ComparisonRest c i) r j
comparison_rest_reads c i r j h = subst (λ o. Reads o r j) (sym (comparison_rest_is c i)) h

abbrev pub atom_on : Lines → Option TokenKind → Parser Got
atom_on n (Some (k.Name x)) i = Ok (name n (here i).line x, next i)
atom_on n x i = reading OtherAtom n i

atom_at : (c : Lines) (x : TokenKind) (s e l : ℕ) (i : Input) → reading Atom c (token_at x s e l ∷ i) ≡ atom_on c (Some x) (token_at x s e l ∷ i)
atom_at c (k.Word word.And) s e l i = by_looks Atom c (token_at (k.Word word.And) s e l ∷ i)
atom_at c (k.Sign sign.Less) s e l i = by_looks Atom c (token_at (k.Sign sign.Less) s e l ∷ i)
atom_at c x s e l i = by_looks Atom c (token_at x s e l ∷ i)

pub atom_is : (c : Lines) (i : Input) → reading Atom c i ≡ atom_on c (first_kind i) i
atom_is c [] = by_looks Atom c []
atom_is c (t ∷ i) = atom_at c t.kind t.start t.end t.line i

pub atom_reads : (c : Lines) (i : Input) (r : Result (Got) Stop) (j : Input) → Reads (atom_on c (first_kind i) i) r j → Reads (reading Atom c i) r j
atom_reads c i r j h = subst (λ o. Reads o r j) (sym (atom_is c i)) h

abbrev pub other_atom_on : Lines → Option TokenKind → Parser Got
other_atom_on n (Some (k.Int x)) i = Ok (int n (here i).line x, next i)
other_atom_on n (Some (k.Str x)) i = and_then (reading Strings x (next i)) (λ y j. Ok (string n (here i).line y, j))
other_atom_on n (Some (k.Sign sign.OpenParen)) i = reading Paren (n, (here i).line) (next i)
other_atom_on n (Some (k.Sign sign.OpenBracket)) i = reading Brackets (n, (here i).line) (next i)
other_atom_on n (Some (k.Sign sign.OpenBrace)) i = reading Braces (n, (here i).line) (next i)
other_atom_on n x i = Err (length i)

other_atom_at : (c : Lines) (x : TokenKind) (s e l : ℕ) (i : Input) → reading OtherAtom c (token_at x s e l ∷ i) ≡ other_atom_on c (Some x) (token_at x s e l ∷ i)
other_atom_at c (k.Word word.And) s e l i = by_looks OtherAtom c (token_at (k.Word word.And) s e l ∷ i)
other_atom_at c (k.Sign sign.OpenParen) s e l i = by_looks OtherAtom c (token_at (k.Sign sign.OpenParen) s e l ∷ i)
other_atom_at c x s e l i = by_looks OtherAtom c (token_at x s e l ∷ i)

pub other_atom_is : (c : Lines) (i : Input) → reading OtherAtom c i ≡ other_atom_on c (first_kind i) i
other_atom_is c [] = by_looks OtherAtom c []
other_atom_is c (t ∷ i) = other_atom_at c t.kind t.start t.end t.line i

pub other_atom_reads : (c : Lines) (i : Input) (r : Result (Got) Stop) (j : Input) → Reads (other_atom_on c (first_kind i) i) r j → Reads (reading OtherAtom c i) r j
other_atom_reads c i r j h = subst (λ o. Reads o r j) (sym (other_atom_is c i)) h

abbrev pub goal_part_on : Lines → Option TokenKind → Parser Aimed
goal_part_on n (Some (k.Name x)) i = reading PlaceRest (name n (here i).line x) (next i)
goal_part_on n x i = and_then (reading OtherAtom n i) (λ a. reading OtherRest a)

goal_part_at : (c : Lines) (x : TokenKind) (s e l : ℕ) (i : Input) → reading GoalPart c (token_at x s e l ∷ i) ≡ goal_part_on c (Some x) (token_at x s e l ∷ i)
goal_part_at c (k.Word word.And) s e l i = by_looks GoalPart c (token_at (k.Word word.And) s e l ∷ i)
goal_part_at c (k.Sign sign.Less) s e l i = by_looks GoalPart c (token_at (k.Sign sign.Less) s e l ∷ i)
goal_part_at c x s e l i = by_looks GoalPart c (token_at x s e l ∷ i)

pub goal_part_is : (c : Lines) (i : Input) → reading GoalPart c i ≡ goal_part_on c (first_kind i) i
goal_part_is c [] = by_looks GoalPart c []
goal_part_is c (t ∷ i) = goal_part_at c t.kind t.start t.end t.line i

pub goal_part_reads : (c : Lines) (i : Input) (r : Result (Aimed) Stop) (j : Input) → Reads (goal_part_on c (first_kind i) i) r j → Reads (reading GoalPart c i) r j
goal_part_reads c i r j h = subst (λ o. Reads o r j) (sym (goal_part_is c i)) h

abbrev pub strings_on : List ℕ → Option TokenKind → Parser (List ℕ)
strings_on x (Some (k.Str y)) i = reading Strings (x ++ y) (next i)
strings_on x k i = Ok (x, i)

strings_at : (c : List ℕ) (x : TokenKind) (s e l : ℕ) (i : Input) → reading Strings c (token_at x s e l ∷ i) ≡ strings_on c (Some x) (token_at x s e l ∷ i)
strings_at c (k.Word word.And) s e l i = by_looks Strings c (token_at (k.Word word.And) s e l ∷ i)
strings_at c (k.Sign sign.Less) s e l i = by_looks Strings c (token_at (k.Sign sign.Less) s e l ∷ i)
strings_at c x s e l i = by_looks Strings c (token_at x s e l ∷ i)

pub strings_is : (c : List ℕ) (i : Input) → reading Strings c i ≡ strings_on c (first_kind i) i
strings_is c [] = by_looks Strings c []
strings_is c (t ∷ i) = strings_at c t.kind t.start t.end t.line i

pub strings_reads : (c : List ℕ) (i : Input) (r : Result (List ℕ) Stop) (j : Input) → Reads (strings_on c (first_kind i) i) r j → Reads (reading Strings c i) r j
strings_reads c i r j h = subst (λ o. Reads o r j) (sym (strings_is c i)) h

abbrev pub items_on : Listed → Option TokenKind → Parser Listed
items_on x t i = cond (begins_expression t) (and_then (reading Item x i) (λ y. reading ItemsRest y)) (Ok (x, i))

items_at : (c : Listed) (x : TokenKind) (s e l : ℕ) (i : Input) → reading Items c (token_at x s e l ∷ i) ≡ items_on c (Some x) (token_at x s e l ∷ i)
items_at c (k.Word word.And) s e l i = by_looks Items c (token_at (k.Word word.And) s e l ∷ i)
items_at c (k.Sign sign.Less) s e l i = by_looks Items c (token_at (k.Sign sign.Less) s e l ∷ i)
items_at c x s e l i = by_looks Items c (token_at x s e l ∷ i)

pub items_is : (c : Listed) (i : Input) → reading Items c i ≡ items_on c (first_kind i) i
items_is c [] = by_looks Items c []
items_is c (t ∷ i) = items_at c t.kind t.start t.end t.line i

pub items_reads : (c : Listed) (i : Input) (r : Result (Listed) Stop) (j : Input) → Reads (items_on c (first_kind i) i) r j → Reads (reading Items c i) r j
items_reads c i r j h = subst (λ o. Reads o r j) (sym (items_is c i)) h

pub items_rest_is : (c : Listed) (i : Input) → reading ItemsRest c i ≡ cond (sees (sign_kind sign.Comma) i) (and_then (eat (sign_kind sign.Comma) i) (λ _. reading Items c)) (Ok (c, i))
items_rest_is c i = by_looks ItemsRest c i

abbrev pub pair_list_on : Pairs → Option TokenKind → Parser Pairs
pair_list_on x t i = cond (begins_expression t) (and_then (reading Pair x i) (λ y. reading PairListRest y)) (Ok (x, i))

pair_list_at : (c : Pairs) (x : TokenKind) (s e l : ℕ) (i : Input) → reading PairList c (token_at x s e l ∷ i) ≡ pair_list_on c (Some x) (token_at x s e l ∷ i)
pair_list_at c (k.Word word.And) s e l i = by_looks PairList c (token_at (k.Word word.And) s e l ∷ i)
pair_list_at c (k.Sign sign.Less) s e l i = by_looks PairList c (token_at (k.Sign sign.Less) s e l ∷ i)
pair_list_at c x s e l i = by_looks PairList c (token_at x s e l ∷ i)

pub pair_list_is : (c : Pairs) (i : Input) → reading PairList c i ≡ pair_list_on c (first_kind i) i
pair_list_is c [] = by_looks PairList c []
pair_list_is c (t ∷ i) = pair_list_at c t.kind t.start t.end t.line i

pub pair_list_reads : (c : Pairs) (i : Input) (r : Result (Pairs) Stop) (j : Input) → Reads (pair_list_on c (first_kind i) i) r j → Reads (reading PairList c i) r j
pair_list_reads c i r j h = subst (λ o. Reads o r j) (sym (pair_list_is c i)) h

pub pair_list_rest_is : (c : Pairs) (i : Input) → reading PairListRest c i ≡ cond (sees (sign_kind sign.Comma) i) (and_then (eat (sign_kind sign.Comma) i) (λ _. reading PairList c)) (Ok (c, i))
pair_list_rest_is c i = by_looks PairListRest c i

abbrev pub goal_list_on : Aims → Option TokenKind → Parser Aims
goal_list_on x t i = cond (begins_atom t) (and_then (reading OneGoal x i) (λ y. reading GoalListRest y)) (Ok (x, i))

goal_list_at : (c : Aims) (x : TokenKind) (s e l : ℕ) (i : Input) → reading GoalList c (token_at x s e l ∷ i) ≡ goal_list_on c (Some x) (token_at x s e l ∷ i)
goal_list_at c (k.Word word.And) s e l i = by_looks GoalList c (token_at (k.Word word.And) s e l ∷ i)
goal_list_at c (k.Sign sign.Less) s e l i = by_looks GoalList c (token_at (k.Sign sign.Less) s e l ∷ i)
goal_list_at c x s e l i = by_looks GoalList c (token_at x s e l ∷ i)

pub goal_list_is : (c : Aims) (i : Input) → reading GoalList c i ≡ goal_list_on c (first_kind i) i
goal_list_is c [] = by_looks GoalList c []
goal_list_is c (t ∷ i) = goal_list_at c t.kind t.start t.end t.line i

pub goal_list_reads : (c : Aims) (i : Input) (r : Result (Aims) Stop) (j : Input) → Reads (goal_list_on c (first_kind i) i) r j → Reads (reading GoalList c i) r j
goal_list_reads c i r j h = subst (λ o. Reads o r j) (sym (goal_list_is c i)) h

pub goal_list_rest_is : (c : Aims) (i : Input) → reading GoalListRest c i ≡ cond (sees (sign_kind sign.Comma) i) (and_then (eat (sign_kind sign.Comma) i) (λ _. reading GoalList c)) (Ok (c, i))
goal_list_rest_is c i = by_looks GoalListRest c i
