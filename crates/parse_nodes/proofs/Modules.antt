-- All rules keep that their trees have no more nodes of a number than they gave, and so there is one of each in a module.
use Rattle.std.proofs.Common.{ℕ, ◌≤◌, [], arith}
use Rattle.rpy_tree.specs.declared.syntax.Module.{Module}
use Rattle.rpy_parse.specs.Input.{Input}
use Rattle.rpy_parse.specs.Modules.{IsModule}
use Rattle.rpy_parse.specs.Rows.{Arg, rule, python}
use Rattle.rpy_parse.specs.Shapes.{Part, Or, OrRest, And, AndRest, Not, Comparison, ComparisonRest, IsRest, Compared, BitOr, BitOrRest, BitXor, BitXorRest, BitAnd, BitAndRest, Shift, ShiftRest, Sum, SumRest, Term, TermRest, Signed, Primary, Trailers, Attribute, Arguments, Atom, OtherAtom, Paren, Exprs, ExprsRest, Items, ItemsRest, Item, Subscript, SubscriptRest, SliceEnd, Brackets, BracketsRest, CompRest, CompIn, CompOver, CompEnd, Braces, PairList, PairListRest, Pair, PairRest, Goal, GoalRest, GoalList, GoalListRest, OneGoal, GoalPart, PlaceRest, OtherRest, PlaceSubscript, PlaceSubscriptRest, Simple, PassWord, BreakWord, ContinueWord, Return, ReturnRest, Raise, Assert, AssertRest, Del, DelOther, DelIndex, DelSubscript, DelSubscriptRest, Print, PrintRest, Prints, Valued, ValuedRest, AssignFirst, Assigns, Assign, Simples, OneSimple, SimplesRest, SimplesMore, Block, Statements, Statement, Compound, If, IfThen, FirstArm, Elifs, ElseBody, Elif, ElifArm, ElifBody, While, WhileBody, For, ForIn, ForBody, Try, TryRest, Finish, Clauses, NextClause, OneClause, Handler, TryEnd, TryFinally, Whole, MemberList, OneMember, ModuleMember, ClassMember, CommonMember, NoMember, Constant, ImportLine, FromLine, FromNames, DefText, DefParams, DefBody, ParamList, ParamListRest, OneParam, ParamRest, StarParam, ClassText, ClassRest, ClassBody, ClassBlock, ClassMembers}
use Rattle.resolver_nodes.specs.Numbered.{own_count, IsNumbered}
use Rattle.parse_nodes.proofs.Steps.{anyway, kept}
use Rattle.parse_nodes.proofs.Kept.{Kept, Keeps}
use Rattle.parse_nodes.proofs.Seen.{before, once}
use Rattle.parse_nodes.proofs.Expressions.{or_keeps, or_rest_keeps, and_keeps, and_rest_keeps, not_keeps, comparison_keeps, comparison_rest_keeps, is_rest_keeps, compared_keeps, bit_or_keeps, bit_or_rest_keeps, bit_xor_keeps, bit_xor_rest_keeps, bit_and_keeps, bit_and_rest_keeps, shift_keeps, shift_rest_keeps, sum_keeps, sum_rest_keeps, term_keeps, term_rest_keeps, signed_keeps, primary_keeps, trailers_keeps, attribute_keeps, arguments_keeps, atom_keeps, other_atom_keeps, paren_keeps, exprs_keeps, exprs_rest_keeps, items_keeps, items_rest_keeps, item_keeps, subscript_keeps, subscript_rest_keeps, slice_end_keeps, brackets_keeps, brackets_rest_keeps, comp_rest_keeps, comp_in_keeps, comp_over_keeps, comp_end_keeps, braces_keeps, pair_list_keeps, pair_list_rest_keeps, pair_keeps, pair_rest_keeps}
use Rattle.parse_nodes.proofs.Targets.{goal_keeps, goal_rest_keeps, goal_list_keeps, goal_list_rest_keeps, one_goal_keeps, goal_part_keeps, place_rest_keeps, other_rest_keeps, place_subscript_keeps, place_subscript_rest_keeps}
use Rattle.parse_nodes.proofs.Simple.{simple_keeps, pass_keeps, break_keeps, continue_keeps, return_keeps, return_rest_keeps, raise_keeps, assert_keeps, assert_rest_keeps, del_keeps, del_other_keeps, del_index_keeps, del_subscript_keeps, del_subscript_rest_keeps, print_keeps, print_rest_keeps, prints_keeps, valued_keeps, valued_rest_keeps, assign_first_keeps, assigns_keeps, assign_keeps}
use Rattle.parse_nodes.proofs.Compound.{simples_keeps, one_simple_keeps, simples_rest_keeps, simples_more_keeps, block_keeps, statements_keeps, statement_keeps, compound_keeps, if_keeps, if_then_keeps, first_arm_keeps, elifs_keeps, else_body_keeps, elif_keeps, elif_arm_keeps, elif_body_keeps, while_keeps, while_body_keeps, for_keeps, for_in_keeps, for_body_keeps, try_keeps, try_rest_keeps, finish_keeps, clauses_keeps, next_clause_keeps, one_clause_keeps, handler_keeps, try_end_keeps, try_finally_keeps}
use Rattle.parse_nodes.proofs.Members.{whole_keeps, member_list_keeps, one_member_keeps, module_member_keeps, class_member_keeps, common_member_keeps, no_member_keeps, constant_keeps, import_keeps, from_keeps, from_names_keeps, def_text_keeps, def_params_keeps, def_body_keeps, param_list_keeps, param_list_rest_keeps, one_param_keeps, param_rest_keeps, star_param_keeps, class_text_keeps, class_rest_keeps, class_body_keeps, class_block_keeps, class_members_keeps}

-- ---- rules

rules_keep : (k : ℕ) (n : Part) (x : Arg n) → Keeps k n x
rules_keep k Or x = or_keeps k x
rules_keep k OrRest x = or_rest_keeps k x
rules_keep k And x = and_keeps k x
rules_keep k AndRest x = and_rest_keeps k x
rules_keep k Not x = not_keeps k x
rules_keep k Comparison x = comparison_keeps k x
rules_keep k ComparisonRest x = comparison_rest_keeps k x
rules_keep k IsRest x = is_rest_keeps k x
rules_keep k Compared x = compared_keeps k x
rules_keep k BitOr x = bit_or_keeps k x
rules_keep k BitOrRest x = bit_or_rest_keeps k x
rules_keep k BitXor x = bit_xor_keeps k x
rules_keep k BitXorRest x = bit_xor_rest_keeps k x
rules_keep k BitAnd x = bit_and_keeps k x
rules_keep k BitAndRest x = bit_and_rest_keeps k x
rules_keep k Shift x = shift_keeps k x
rules_keep k ShiftRest x = shift_rest_keeps k x
rules_keep k Sum x = sum_keeps k x
rules_keep k SumRest x = sum_rest_keeps k x
rules_keep k Term x = term_keeps k x
rules_keep k TermRest x = term_rest_keeps k x
rules_keep k Signed x = signed_keeps k x
rules_keep k Primary x = primary_keeps k x
rules_keep k Trailers x = trailers_keeps k x
rules_keep k Attribute x = attribute_keeps k x
rules_keep k Arguments x = arguments_keeps k x
rules_keep k Atom x = atom_keeps k x
rules_keep k OtherAtom x = other_atom_keeps k x
rules_keep k Paren x = paren_keeps k x
rules_keep k Exprs x = exprs_keeps k x
rules_keep k ExprsRest x = exprs_rest_keeps k x
rules_keep k Items x = items_keeps k x
rules_keep k ItemsRest x = items_rest_keeps k x
rules_keep k Item x = item_keeps k x
rules_keep k Subscript x = subscript_keeps k x
rules_keep k SubscriptRest x = subscript_rest_keeps k x
rules_keep k SliceEnd x = slice_end_keeps k x
rules_keep k Brackets x = brackets_keeps k x
rules_keep k BracketsRest x = brackets_rest_keeps k x
rules_keep k CompRest x = comp_rest_keeps k x
rules_keep k CompIn x = comp_in_keeps k x
rules_keep k CompOver x = comp_over_keeps k x
rules_keep k CompEnd x = comp_end_keeps k x
rules_keep k Braces x = braces_keeps k x
rules_keep k PairList x = pair_list_keeps k x
rules_keep k PairListRest x = pair_list_rest_keeps k x
rules_keep k Pair x = pair_keeps k x
rules_keep k PairRest x = pair_rest_keeps k x
rules_keep k Goal x = goal_keeps k x
rules_keep k GoalRest x = goal_rest_keeps k x
rules_keep k GoalList x = goal_list_keeps k x
rules_keep k GoalListRest x = goal_list_rest_keeps k x
rules_keep k OneGoal x = one_goal_keeps k x
rules_keep k GoalPart x = goal_part_keeps k x
rules_keep k PlaceRest x = place_rest_keeps k x
rules_keep k OtherRest x = other_rest_keeps k x
rules_keep k PlaceSubscript x = place_subscript_keeps k x
rules_keep k PlaceSubscriptRest x = place_subscript_rest_keeps k x
rules_keep k Simple x = simple_keeps k x
rules_keep k PassWord x = pass_keeps k x
rules_keep k BreakWord x = break_keeps k x
rules_keep k ContinueWord x = continue_keeps k x
rules_keep k Return x = return_keeps k x
rules_keep k ReturnRest x = return_rest_keeps k x
rules_keep k Raise x = raise_keeps k x
rules_keep k Assert x = assert_keeps k x
rules_keep k AssertRest x = assert_rest_keeps k x
rules_keep k Del x = del_keeps k x
rules_keep k DelOther x = del_other_keeps k x
rules_keep k DelIndex x = del_index_keeps k x
rules_keep k DelSubscript x = del_subscript_keeps k x
rules_keep k DelSubscriptRest x = del_subscript_rest_keeps k x
rules_keep k Print x = print_keeps k x
rules_keep k PrintRest x = print_rest_keeps k x
rules_keep k Prints x = prints_keeps k x
rules_keep k Valued x = valued_keeps k x
rules_keep k ValuedRest x = valued_rest_keeps k x
rules_keep k AssignFirst x = assign_first_keeps k x
rules_keep k Assigns x = assigns_keeps k x
rules_keep k Assign x = assign_keeps k x
rules_keep k Simples x = simples_keeps k x
rules_keep k OneSimple x = one_simple_keeps k x
rules_keep k SimplesRest x = simples_rest_keeps k x
rules_keep k SimplesMore x = simples_more_keeps k x
rules_keep k Block x = block_keeps k x
rules_keep k Statements x = statements_keeps k x
rules_keep k Statement x = statement_keeps k x
rules_keep k Compound x = compound_keeps k x
rules_keep k If x = if_keeps k x
rules_keep k IfThen x = if_then_keeps k x
rules_keep k FirstArm x = first_arm_keeps k x
rules_keep k Elifs x = elifs_keeps k x
rules_keep k ElseBody x = else_body_keeps k x
rules_keep k Elif x = elif_keeps k x
rules_keep k ElifArm x = elif_arm_keeps k x
rules_keep k ElifBody x = elif_body_keeps k x
rules_keep k While x = while_keeps k x
rules_keep k WhileBody x = while_body_keeps k x
rules_keep k For x = for_keeps k x
rules_keep k ForIn x = for_in_keeps k x
rules_keep k ForBody x = for_body_keeps k x
rules_keep k Try x = try_keeps k x
rules_keep k TryRest x = try_rest_keeps k x
rules_keep k Finish x = finish_keeps k x
rules_keep k Clauses x = clauses_keeps k x
rules_keep k NextClause x = next_clause_keeps k x
rules_keep k OneClause x = one_clause_keeps k x
rules_keep k Handler x = handler_keeps k x
rules_keep k TryEnd x = try_end_keeps k x
rules_keep k TryFinally x = try_finally_keeps k x
rules_keep k Whole x = whole_keeps k x
rules_keep k MemberList x = member_list_keeps k x
rules_keep k OneMember x = one_member_keeps k x
rules_keep k ModuleMember x = module_member_keeps k x
rules_keep k ClassMember x = class_member_keeps k x
rules_keep k CommonMember x = common_member_keeps k x
rules_keep k NoMember x = no_member_keeps k x
rules_keep k Constant x = constant_keeps k x
rules_keep k ImportLine x = import_keeps k x
rules_keep k FromLine x = from_keeps k x
rules_keep k FromNames x = from_names_keeps k x
rules_keep k DefText x = def_text_keeps k x
rules_keep k DefParams x = def_params_keeps k x
rules_keep k DefBody x = def_body_keeps k x
rules_keep k ParamList x = param_list_keeps k x
rules_keep k ParamListRest x = param_list_rest_keeps k x
rules_keep k OneParam x = one_param_keeps k x
rules_keep k ParamRest x = param_rest_keeps k x
rules_keep k StarParam x = star_param_keeps k x
rules_keep k ClassText x = class_text_keeps k x
rules_keep k ClassRest x = class_rest_keeps k x
rules_keep k ClassBody x = class_body_keeps k x
rules_keep k ClassBlock x = class_block_keeps k x
rules_keep k ClassMembers x = class_members_keeps k x
rules_keep k other x = anyway (Kept k) (rule other x) (Kept k other x) (λ v. tt)

-- ---- modules

pub modules_numbered : (ts : Input) (m : Module) → IsModule ts m → m.nodes ≤ 4294967296 → IsNumbered m
modules_numbered ts m h fits k =
    let l : own_count k m ≤ before k m.nodes = kept python (Kept k) (rules_keep k) h.0 Whole tt ts m [] h.1 in
    let o = once k m.nodes fits in
    (omega (arith, l, o.0), λ le. let z = o.1 le in omega (arith, l, z))
