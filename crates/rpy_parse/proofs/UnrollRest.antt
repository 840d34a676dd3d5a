-- What a rule of statements or members reads is what its parts read.
use Rattle.std.proofs.Common.{◌≡◌, ℕ, ◌≤◌, arith, not, cond, List, [], ◌∷◌, ◌++◌, length, Option, Some, None, Result, Ok, Err, sym, subst}
use Rattle.rpy_token.specs.declared.token.Token.{Token}
use Rattle.rpy_token.specs.declared.token.TokenKind.{TokenKind}
use Rattle.rpy_token.specs.declared.token.TokenKind.TheVariants as k
use Rattle.rpy_token.specs.declared.token.Keyword.TheVariants as word
use Rattle.rpy_token.specs.declared.token.Sign.TheVariants as sign
use Rattle.rpy_tree.specs.declared.syntax.BinOp.{BinOp}
use Rattle.rpy_tree.specs.declared.syntax.Expr.{Expr}
use Rattle.rpy_tree.specs.declared.syntax.Target.{Target}
use Rattle.rpy_tree.specs.declared.syntax.Stmt.{Stmt}
use Rattle.rpy_tree.specs.declared.syntax.Module.{Module}
use Rattle.rpy_parse.specs.declared.found.Got.{Got}
use Rattle.rpy_parse.specs.declared.found.Listed.{Listed}
use Rattle.rpy_parse.specs.declared.found.Indexed.{Indexed}
use Rattle.rpy_parse.specs.declared.found.Assigned.{Assigned}
use Rattle.rpy_parse.specs.declared.found.Place.{Place}
use Rattle.rpy_parse.specs.declared.found.Made.{Made}
use Rattle.rpy_parse.specs.declared.found.Body.{Body}
use Rattle.rpy_parse.specs.declared.found.Headed.{Headed}
use Rattle.rpy_parse.specs.declared.found.Arm.{Arm}
use Rattle.rpy_parse.specs.declared.found.Arms.{Arms}
use Rattle.rpy_parse.specs.declared.found.Head.{Head}
use Rattle.rpy_parse.specs.declared.found.Handled.{Handled}
use Rattle.rpy_parse.specs.declared.found.Tried.{Tried}
use Rattle.rpy_parse.specs.declared.found.Params.{Params}
use Rattle.rpy_parse.specs.declared.found.Grown.{Grown}
use Rattle.rpy_parse.specs.declared.found.Members.{Members}
use Rattle.rpy_parse.specs.declared.found.Numbered.{Numbered}
use Rattle.rpy_parse.specs.declared.found.Aimed.{Aimed}
use Rattle.rpy_parse.specs.declared.fault.Stop.{Stop}
use Rattle.rpy_parse.specs.Input.{Input, first_kind, next, sees}
use Rattle.rpy_parse.specs.Kind.{sign_kind, word_kind, newline_kind}
use Rattle.rpy_parse.specs.Build.{Lines, text, goal_of, returned, returned_value, printed, changed, evaluated, assignment, bare_head, pushed, member_pushed}
use Rattle.rpy_parse.specs.Ops.{assign_op, begins_expression, begins_name, begins_compound, begins_member, begins_common}
use Rattle.rpy_parse.specs.Rule.{Parser, and_then, eat, Reads}
use Rattle.rpy_parse.specs.Shapes.{tables, Exprs, Item, Simple, PassWord, BreakWord, ContinueWord, Return, ReturnRest, Raise, Assert, AssertRest, StringsAlone, Del, DelOther, DelIndex, DelSubscript, DelSubscriptRest, Print, PrintRest, Prints, Valued, ValuedRest, AssignFirst, Assigns, Assign, Simples, OneSimple, SimplesRest, SimplesMore, Block, Statements, Statement, Compound, If, IfThen, FirstArm, Elifs, ElseBody, Elif, ElifArm, ElifBody, While, WhileBody, For, ForIn, ForBody, Try, TryRest, Finish, Clauses, NextClause, OneClause, Handler, ClauseHead, BracketedClasses, Bound, Bind, Classes, ClassesMore, Dotted, Dots, TryEnd, TryFinally, Whole, MemberList, OneMember, ModuleMember, ClassMember, CommonMember, NoMember, Constant, ImportLine, Names, MoreNames, FromLine, FromNames, Imported, BracketedNames, BracketedMore, DefText, DefParams, DefBody, ParamList, ParamListRest, OneParam, ParamRest, StarParam, CommaMaybe, ClassText, ClassRest, ClassBody, Base, BaseName, ClassBlock, ClassMembers, Main, MainPiece, MainRest, Skipped, SkipLine, SkipBlock}
use Rattle.rpy_parse.specs.Rows.{rule, reading}
use Rattle.rpy_parse.proofs.Look.{look, by_looks, reads_by}

abbrev token_at : TokenKind → ℕ → ℕ → ℕ → Token
token_at x s e l = record { kind = x; start = s; end = e; line = l }

pub pass_word_reads : (c : Lines) (i : Input) (r : Result (Made) Stop) (j : Input) → Reads (look tables reading (rule PassWord c) i) r j → Reads (reading PassWord c i) r j
pass_word_reads c i r j h = reads_by PassWord c i r j h

pub break_word_reads : (c : Lines) (i : Input) (r : Result (Made) Stop) (j : Input) → Reads (look tables reading (rule BreakWord c) i) r j → Reads (reading BreakWord c i) r j
break_word_reads c i r j h = reads_by BreakWord c i r j h

pub continue_word_reads : (c : Lines) (i : Input) (r : Result (Made) Stop) (j : Input) → Reads (look tables reading (rule ContinueWord c) i) r j → Reads (reading ContinueWord c i) r j
continue_word_reads c i r j h = reads_by ContinueWord c i r j h

pub return_reads : (c : Lines) (i : Input) (r : Result (Made) Stop) (j : Input) → Reads (look tables reading (rule Return c) i) r j → Reads (reading Return c i) r j
return_reads c i r j h = reads_by Return c i r j h

pub raise_reads : (c : Lines) (i : Input) (r : Result (Made) Stop) (j : Input) → Reads (look tables reading (rule Raise c) i) r j → Reads (reading Raise c i) r j
raise_reads c i r j h = reads_by Raise c i r j h

pub assert_reads : (c : Lines) (i : Input) (r : Result (Made) Stop) (j : Input) → Reads (look tables reading (rule Assert c) i) r j → Reads (reading Assert c i) r j
assert_reads c i r j h = reads_by Assert c i r j h

pub assert_rest_reads : (c : ℕ × Got) (i : Input) (r : Result (Made) Stop) (j : Input) → Reads (look tables reading (rule AssertRest c) i) r j → Reads (reading AssertRest c i) r j
assert_rest_reads c i r j h = reads_by AssertRest c i r j h

pub strings_alone_reads : (c : Unit {0}) (i : Input) (r : Result (Unit {0}) Stop) (j : Input) → Reads (look tables reading (rule StringsAlone c) i) r j → Reads (reading StringsAlone c i) r j
strings_alone_reads c i r j h = reads_by StringsAlone c i r j h

pub del_reads : (c : Lines) (i : Input) (r : Result (Made) Stop) (j : Input) → Reads (look tables reading (rule Del c) i) r j → Reads (reading Del c i) r j
del_reads c i r j h = reads_by Del c i r j h

pub del_other_reads : (c : ℕ × Got) (i : Input) (r : Result (Made) Stop) (j : Input) → Reads (look tables reading (rule DelOther c) i) r j → Reads (reading DelOther c i) r j
del_other_reads c i r j h = reads_by DelOther c i r j h

pub del_index_reads : (c : ℕ × Indexed) (i : Input) (r : Result (Made) Stop) (j : Input) → Reads (look tables reading (rule DelIndex c) i) r j → Reads (reading DelIndex c i) r j
del_index_reads c i r j h = reads_by DelIndex c i r j h

pub del_subscript_reads : (c : ℕ × Got) (i : Input) (r : Result (Made) Stop) (j : Input) → Reads (look tables reading (rule DelSubscript c) i) r j → Reads (reading DelSubscript c i) r j
del_subscript_reads c i r j h = reads_by DelSubscript c i r j h

pub del_subscript_rest_reads : (c : ℕ × Expr × ℕ × Got) (i : Input) (r : Result (Made) Stop) (j : Input) → Reads (look tables reading (rule DelSubscriptRest c) i) r j → Reads (reading DelSubscriptRest c i) r j
del_subscript_rest_reads c i r j h = reads_by DelSubscriptRest c i r j h

pub print_reads : (c : Lines) (i : Input) (r : Result (Made) Stop) (j : Input) → Reads (look tables reading (rule Print c) i) r j → Reads (reading Print c i) r j
print_reads c i r j h = reads_by Print c i r j h

pub prints_reads : (c : Listed) (i : Input) (r : Result (Listed) Stop) (j : Input) → Reads (look tables reading (rule Prints c) i) r j → Reads (reading Prints c i) r j
prints_reads c i r j h = reads_by Prints c i r j h

pub valued_reads : (c : Lines) (i : Input) (r : Result (Made) Stop) (j : Input) → Reads (look tables reading (rule Valued c) i) r j → Reads (reading Valued c i) r j
valued_reads c i r j h = reads_by Valued c i r j h

pub assign_first_reads : (c : Got) (i : Input) (r : Result (Made) Stop) (j : Input) → Reads (look tables reading (rule AssignFirst c) i) r j → Reads (reading AssignFirst c i) r j
assign_first_reads c i r j h = reads_by AssignFirst c i r j h

pub assign_reads : (c : Assigned) (i : Input) (r : Result (Assigned) Stop) (j : Input) → Reads (look tables reading (rule Assign c) i) r j → Reads (reading Assign c i) r j
assign_reads c i r j h = reads_by Assign c i r j h

pub simples_reads : (c : Place × Body) (i : Input) (r : Result (Body) Stop) (j : Input) → Reads (look tables reading (rule Simples c) i) r j → Reads (reading Simples c i) r j
simples_reads c i r j h = reads_by Simples c i r j h

pub one_simple_reads : (c : Place × Body) (i : Input) (r : Result (Body) Stop) (j : Input) → Reads (look tables reading (rule OneSimple c) i) r j → Reads (reading OneSimple c i) r j
one_simple_reads c i r j h = reads_by OneSimple c i r j h

pub simples_rest_reads : (c : Place × Body) (i : Input) (r : Result (Body) Stop) (j : Input) → Reads (look tables reading (rule SimplesRest c) i) r j → Reads (reading SimplesRest c i) r j
simples_rest_reads c i r j h = reads_by SimplesRest c i r j h

pub simples_more_reads : (c : Place × Body) (i : Input) (r : Result (Body) Stop) (j : Input) → Reads (look tables reading (rule SimplesMore c) i) r j → Reads (reading SimplesMore c i) r j
simples_more_reads c i r j h = reads_by SimplesMore c i r j h

pub block_reads : (c : Place × Lines) (i : Input) (r : Result (Body) Stop) (j : Input) → Reads (look tables reading (rule Block c) i) r j → Reads (reading Block c i) r j
block_reads c i r j h = reads_by Block c i r j h

pub statements_reads : (c : Place × Body) (i : Input) (r : Result (Body) Stop) (j : Input) → Reads (look tables reading (rule Statements c) i) r j → Reads (reading Statements c i) r j
statements_reads c i r j h = reads_by Statements c i r j h

pub if_reads : (c : Place × Lines) (i : Input) (r : Result (Made) Stop) (j : Input) → Reads (look tables reading (rule If c) i) r j → Reads (reading If c i) r j
if_reads c i r j h = reads_by If c i r j h

pub if_then_reads : (c : Place × ℕ × Got) (i : Input) (r : Result (Made) Stop) (j : Input) → Reads (look tables reading (rule IfThen c) i) r j → Reads (reading IfThen c i) r j
if_then_reads c i r j h = reads_by IfThen c i r j h

pub first_arm_reads : (c : Place × Headed) (i : Input) (r : Result (Arms) Stop) (j : Input) → Reads (look tables reading (rule FirstArm c) i) r j → Reads (reading FirstArm c i) r j
first_arm_reads c i r j h = reads_by FirstArm c i r j h

pub elifs_reads : (c : Place × Arms) (i : Input) (r : Result (Made) Stop) (j : Input) → Reads (look tables reading (rule Elifs c) i) r j → Reads (reading Elifs c i) r j
elifs_reads c i r j h = reads_by Elifs c i r j h

pub else_body_reads : (c : Place × Lines) (i : Input) (r : Result (Body) Stop) (j : Input) → Reads (look tables reading (rule ElseBody c) i) r j → Reads (reading ElseBody c i) r j
else_body_reads c i r j h = reads_by ElseBody c i r j h

pub elif_reads : (c : Place × Arms) (i : Input) (r : Result (Arms) Stop) (j : Input) → Reads (look tables reading (rule Elif c) i) r j → Reads (reading Elif c i) r j
elif_reads c i r j h = reads_by Elif c i r j h

pub elif_arm_reads : (c : Place × Lines) (i : Input) (r : Result (Arm) Stop) (j : Input) → Reads (look tables reading (rule ElifArm c) i) r j → Reads (reading ElifArm c i) r j
elif_arm_reads c i r j h = reads_by ElifArm c i r j h

pub elif_body_reads : (c : Place × Got) (i : Input) (r : Result (Arm) Stop) (j : Input) → Reads (look tables reading (rule ElifBody c) i) r j → Reads (reading ElifBody c i) r j
elif_body_reads c i r j h = reads_by ElifBody c i r j h

pub while_reads : (c : Place × Lines) (i : Input) (r : Result (Made) Stop) (j : Input) → Reads (look tables reading (rule While c) i) r j → Reads (reading While c i) r j
while_reads c i r j h = reads_by While c i r j h

pub while_body_reads : (c : Place × ℕ × Got) (i : Input) (r : Result (Made) Stop) (j : Input) → Reads (look tables reading (rule WhileBody c) i) r j → Reads (reading WhileBody c i) r j
while_body_reads c i r j h = reads_by WhileBody c i r j h

pub for_reads : (c : Place × Lines) (i : Input) (r : Result (Made) Stop) (j : Input) → Reads (look tables reading (rule For c) i) r j → Reads (reading For c i) r j
for_reads c i r j h = reads_by For c i r j h

pub for_in_reads : (c : Place × ℕ × Aimed) (i : Input) (r : Result (Made) Stop) (j : Input) → Reads (look tables reading (rule ForIn c) i) r j → Reads (reading ForIn c i) r j
for_in_reads c i r j h = reads_by ForIn c i r j h

pub for_body_reads : (c : Place × ℕ × Target × Got) (i : Input) (r : Result (Made) Stop) (j : Input) → Reads (look tables reading (rule ForBody c) i) r j → Reads (reading ForBody c i) r j
for_body_reads c i r j h = reads_by ForBody c i r j h

pub try_reads : (c : Place × Lines) (i : Input) (r : Result (Made) Stop) (j : Input) → Reads (look tables reading (rule Try c) i) r j → Reads (reading Try c i) r j
try_reads c i r j h = reads_by Try c i r j h

pub finish_reads : (c : Tried × List Stmt) (i : Input) (r : Result (Made) Stop) (j : Input) → Reads (look tables reading (rule Finish c) i) r j → Reads (reading Finish c i) r j
finish_reads c i r j h = reads_by Finish c i r j h

pub next_clause_reads : (c : Place × Tried) (i : Input) (r : Result (Tried) Stop) (j : Input) → Reads (look tables reading (rule NextClause c) i) r j → Reads (reading NextClause c i) r j
next_clause_reads c i r j h = reads_by NextClause c i r j h

pub one_clause_reads : (c : Place × Lines) (i : Input) (r : Result (Handled) Stop) (j : Input) → Reads (look tables reading (rule OneClause c) i) r j → Reads (reading OneClause c i) r j
one_clause_reads c i r j h = reads_by OneClause c i r j h

pub handler_reads : (c : Place × ℕ × Lines × Head) (i : Input) (r : Result (Handled) Stop) (j : Input) → Reads (look tables reading (rule Handler c) i) r j → Reads (reading Handler c i) r j
handler_reads c i r j h = reads_by Handler c i r j h

pub bracketed_classes_reads : (c : Unit {0}) (i : Input) (r : Result (Head) Stop) (j : Input) → Reads (look tables reading (rule BracketedClasses c) i) r j → Reads (reading BracketedClasses c i) r j
bracketed_classes_reads c i r j h = reads_by BracketedClasses c i r j h

pub bound_reads : (c : List (List (List ℕ))) (i : Input) (r : Result (Head) Stop) (j : Input) → Reads (look tables reading (rule Bound c) i) r j → Reads (reading Bound c i) r j
bound_reads c i r j h = reads_by Bound c i r j h

pub bind_reads : (c : List (List (List ℕ))) (i : Input) (r : Result (Head) Stop) (j : Input) → Reads (look tables reading (rule Bind c) i) r j → Reads (reading Bind c i) r j
bind_reads c i r j h = reads_by Bind c i r j h

pub classes_reads : (c : List (List (List ℕ))) (i : Input) (r : Result (List (List (List ℕ))) Stop) (j : Input) → Reads (look tables reading (rule Classes c) i) r j → Reads (reading Classes c i) r j
classes_reads c i r j h = reads_by Classes c i r j h

pub dotted_reads : (c : Unit {0}) (i : Input) (r : Result (List (List ℕ)) Stop) (j : Input) → Reads (look tables reading (rule Dotted c) i) r j → Reads (reading Dotted c i) r j
dotted_reads c i r j h = reads_by Dotted c i r j h

pub dots_reads : (c : List (List ℕ)) (i : Input) (r : Result (List (List ℕ)) Stop) (j : Input) → Reads (look tables reading (rule Dots c) i) r j → Reads (reading Dots c i) r j
dots_reads c i r j h = reads_by Dots c i r j h

pub try_end_reads : (c : Place × Tried) (i : Input) (r : Result (Made) Stop) (j : Input) → Reads (look tables reading (rule TryEnd c) i) r j → Reads (reading TryEnd c i) r j
try_end_reads c i r j h = reads_by TryEnd c i r j h

pub try_finally_reads : (c : Place × Tried × List Stmt) (i : Input) (r : Result (Made) Stop) (j : Input) → Reads (look tables reading (rule TryFinally c) i) r j → Reads (reading TryFinally c i) r j
try_finally_reads c i r j h = reads_by TryFinally c i r j h

pub whole_reads : (c : Unit {0}) (i : Input) (r : Result (Module) Stop) (j : Input) → Reads (look tables reading (rule Whole c) i) r j → Reads (reading Whole c i) r j
whole_reads c i r j h = reads_by Whole c i r j h

pub member_list_reads : (c : Members) (i : Input) (r : Result (Members) Stop) (j : Input) → Reads (look tables reading (rule MemberList c) i) r j → Reads (reading MemberList c i) r j
member_list_reads c i r j h = reads_by MemberList c i r j h

pub constant_reads : (c : Lines) (i : Input) (r : Result (Grown) Stop) (j : Input) → Reads (look tables reading (rule Constant c) i) r j → Reads (reading Constant c i) r j
constant_reads c i r j h = reads_by Constant c i r j h

pub import_line_reads : (c : Lines) (i : Input) (r : Result (Grown) Stop) (j : Input) → Reads (look tables reading (rule ImportLine c) i) r j → Reads (reading ImportLine c i) r j
import_line_reads c i r j h = reads_by ImportLine c i r j h

pub names_reads : (c : Unit {0}) (i : Input) (r : Result (List (List ℕ)) Stop) (j : Input) → Reads (look tables reading (rule Names c) i) r j → Reads (reading Names c i) r j
names_reads c i r j h = reads_by Names c i r j h

pub more_names_reads : (c : List (List ℕ)) (i : Input) (r : Result (List (List ℕ)) Stop) (j : Input) → Reads (look tables reading (rule MoreNames c) i) r j → Reads (reading MoreNames c i) r j
more_names_reads c i r j h = reads_by MoreNames c i r j h

pub from_line_reads : (c : Lines) (i : Input) (r : Result (Grown) Stop) (j : Input) → Reads (look tables reading (rule FromLine c) i) r j → Reads (reading FromLine c i) r j
from_line_reads c i r j h = reads_by FromLine c i r j h

pub from_names_reads : (c : Lines × ℕ × List (List ℕ)) (i : Input) (r : Result (Grown) Stop) (j : Input) → Reads (look tables reading (rule FromNames c) i) r j → Reads (reading FromNames c i) r j
from_names_reads c i r j h = reads_by FromNames c i r j h

pub imported_reads : (c : Unit {0}) (i : Input) (r : Result (List (List ℕ)) Stop) (j : Input) → Reads (look tables reading (rule Imported c) i) r j → Reads (reading Imported c i) r j
imported_reads c i r j h = reads_by Imported c i r j h

pub bracketed_names_reads : (c : List (List ℕ)) (i : Input) (r : Result (List (List ℕ)) Stop) (j : Input) → Reads (look tables reading (rule BracketedNames c) i) r j → Reads (reading BracketedNames c i) r j
bracketed_names_reads c i r j h = reads_by BracketedNames c i r j h

pub def_text_reads : (c : Lines) (i : Input) (r : Result (Grown) Stop) (j : Input) → Reads (look tables reading (rule DefText c) i) r j → Reads (reading DefText c i) r j
def_text_reads c i r j h = reads_by DefText c i r j h

pub def_params_reads : (c : Numbered × List ℕ) (i : Input) (r : Result (Grown) Stop) (j : Input) → Reads (look tables reading (rule DefParams c) i) r j → Reads (reading DefParams c i) r j
def_params_reads c i r j h = reads_by DefParams c i r j h

pub def_body_reads : (c : ℕ × List ℕ × Params) (i : Input) (r : Result (Grown) Stop) (j : Input) → Reads (look tables reading (rule DefBody c) i) r j → Reads (reading DefBody c i) r j
def_body_reads c i r j h = reads_by DefBody c i r j h

pub param_list_rest_reads : (c : Params) (i : Input) (r : Result (Params) Stop) (j : Input) → Reads (look tables reading (rule ParamListRest c) i) r j → Reads (reading ParamListRest c i) r j
param_list_rest_reads c i r j h = reads_by ParamListRest c i r j h

pub one_param_reads : (c : Params) (i : Input) (r : Result (Params) Stop) (j : Input) → Reads (look tables reading (rule OneParam c) i) r j → Reads (reading OneParam c i) r j
one_param_reads c i r j h = reads_by OneParam c i r j h

pub param_rest_reads : (c : Params × ℕ × List ℕ) (i : Input) (r : Result (Params) Stop) (j : Input) → Reads (look tables reading (rule ParamRest c) i) r j → Reads (reading ParamRest c i) r j
param_rest_reads c i r j h = reads_by ParamRest c i r j h

pub star_param_reads : (c : ℕ × Params) (i : Input) (r : Result (Params) Stop) (j : Input) → Reads (look tables reading (rule StarParam c) i) r j → Reads (reading StarParam c i) r j
star_param_reads c i r j h = reads_by StarParam c i r j h

pub comma_maybe_reads : (c : Unit {0}) (i : Input) (r : Result (Unit {0}) Stop) (j : Input) → Reads (look tables reading (rule CommaMaybe c) i) r j → Reads (reading CommaMaybe c i) r j
comma_maybe_reads c i r j h = reads_by CommaMaybe c i r j h

pub class_text_reads : (c : Lines) (i : Input) (r : Result (Grown) Stop) (j : Input) → Reads (look tables reading (rule ClassText c) i) r j → Reads (reading ClassText c i) r j
class_text_reads c i r j h = reads_by ClassText c i r j h

pub class_rest_reads : (c : Numbered × List ℕ) (i : Input) (r : Result (Grown) Stop) (j : Input) → Reads (look tables reading (rule ClassRest c) i) r j → Reads (reading ClassRest c i) r j
class_rest_reads c i r j h = reads_by ClassRest c i r j h

pub class_body_reads : (c : Numbered × List ℕ × List (List ℕ)) (i : Input) (r : Result (Grown) Stop) (j : Input) → Reads (look tables reading (rule ClassBody c) i) r j → Reads (reading ClassBody c i) r j
class_body_reads c i r j h = reads_by ClassBody c i r j h

pub base_reads : (c : Unit {0}) (i : Input) (r : Result (List (List ℕ)) Stop) (j : Input) → Reads (look tables reading (rule Base c) i) r j → Reads (reading Base c i) r j
base_reads c i r j h = reads_by Base c i r j h

pub class_block_reads : (c : Members) (i : Input) (r : Result (Members) Stop) (j : Input) → Reads (look tables reading (rule ClassBlock c) i) r j → Reads (reading ClassBlock c i) r j
class_block_reads c i r j h = reads_by ClassBlock c i r j h

pub class_members_reads : (c : Members) (i : Input) (r : Result (Members) Stop) (j : Input) → Reads (look tables reading (rule ClassMembers c) i) r j → Reads (reading ClassMembers c i) r j
class_members_reads c i r j h = reads_by ClassMembers c i r j h

pub main_reads : (c : Unit {0}) (i : Input) (r : Result (Unit {0}) Stop) (j : Input) → Reads (look tables reading (rule Main c) i) r j → Reads (reading Main c i) r j
main_reads c i r j h = reads_by Main c i r j h

pub main_piece_reads : (c : List ℕ) (i : Input) (r : Result (List ℕ) Stop) (j : Input) → Reads (look tables reading (rule MainPiece c) i) r j → Reads (reading MainPiece c i) r j
main_piece_reads c i r j h = reads_by MainPiece c i r j h

pub main_rest_reads : (c : List ℕ) (i : Input) (r : Result (Unit {0}) Stop) (j : Input) → Reads (look tables reading (rule MainRest c) i) r j → Reads (reading MainRest c i) r j
main_rest_reads c i r j h = reads_by MainRest c i r j h

pub skipped_reads : (c : Unit {0}) (i : Input) (r : Result (Unit {0}) Stop) (j : Input) → Reads (look tables reading (rule Skipped c) i) r j → Reads (reading Skipped c i) r j
skipped_reads c i r j h = reads_by Skipped c i r j h

pub skip_line_reads : (c : Unit {0}) (i : Input) (r : Result (Unit {0}) Stop) (j : Input) → Reads (look tables reading (rule SkipLine c) i) r j → Reads (reading SkipLine c i) r j
skip_line_reads c i r j h = reads_by SkipLine c i r j h

pub skip_block_reads : (c : Unit {0}) (i : Input) (r : Result (Unit {0}) Stop) (j : Input) → Reads (look tables reading (rule SkipBlock c) i) r j → Reads (reading SkipBlock c i) r j
skip_block_reads c i r j h = reads_by SkipBlock c i r j h

abbrev pub simple_by : (Place × Lines) → Option TokenKind → Parser (Made)
simple_by x (Some (k.Word word.Pass)) i = reading PassWord x.1 i
simple_by x (Some (k.Word word.Break)) i = cond x.0.looped (reading BreakWord x.1 i) (Err (length i))
simple_by x (Some (k.Word word.Continue)) i = cond x.0.looped (reading ContinueWord x.1 i) (Err (length i))
simple_by x (Some (k.Word word.Return)) i = cond (not x.0.last) (reading Return x.1 i) (Err (length i))
simple_by x (Some (k.Word word.Raise)) i = reading Raise x.1 i
simple_by x (Some (k.Word word.Assert)) i = reading Assert x.1 i
simple_by x (Some (k.Word word.Del)) i = reading Del x.1 i
simple_by x (Some (k.Word word.Print)) i = reading Print x.1 i
simple_by x y i = reading Valued x.1 i

abbrev pub simple_on : (Place × Lines) → Parser (Made)
simple_on x i = simple_by x (first_kind i) i

simple_at : (c : Place × Lines) (x : TokenKind) (s e l : ℕ) (i : Input) → reading Simple c (token_at x s e l ∷ i) ≡ simple_on c (token_at x s e l ∷ i)
simple_at c (k.Word word.And) s e l i = by_looks Simple c (token_at (k.Word word.And) s e l ∷ i)
simple_at c (k.Sign sign.Plus) s e l i = by_looks Simple c (token_at (k.Sign sign.Plus) s e l ∷ i)
simple_at c x s e l i = by_looks Simple c (token_at x s e l ∷ i)

pub simple_is : (c : Place × Lines) (i : Input) → reading Simple c i ≡ simple_on c i
simple_is c [] = by_looks Simple c []
simple_is c (t ∷ i) = simple_at c t.kind t.start t.end t.line i

pub simple_reads : (c : Place × Lines) (i : Input) (r : Result (Made) Stop) (j : Input) → Reads (simple_on c i) r j → Reads (reading Simple c i) r j
simple_reads c i r j h = subst (λ o. Reads o r j) (sym (simple_is c i)) h

abbrev pub statement_on : (Place × Body) → Parser (Body)
statement_on x i = cond (begins_compound (first_kind i)) (and_then (reading Compound (x.0, x.1.lines) i) (λ m j. Ok (pushed x.1.stmts m, j))) (reading Simples x i)

statement_at : (c : Place × Body) (x : TokenKind) (s e l : ℕ) (i : Input) → reading Statement c (token_at x s e l ∷ i) ≡ statement_on c (token_at x s e l ∷ i)
statement_at c (k.Word word.And) s e l i = by_looks Statement c (token_at (k.Word word.And) s e l ∷ i)
statement_at c (k.Sign sign.Plus) s e l i = by_looks Statement c (token_at (k.Sign sign.Plus) s e l ∷ i)
statement_at c x s e l i = by_looks Statement c (token_at x s e l ∷ i)

pub statement_is : (c : Place × Body) (i : Input) → reading Statement c i ≡ statement_on c i
statement_is c [] = by_looks Statement c []
statement_is c (t ∷ i) = statement_at c t.kind t.start t.end t.line i

pub statement_reads : (c : Place × Body) (i : Input) (r : Result (Body) Stop) (j : Input) → Reads (statement_on c i) r j → Reads (reading Statement c i) r j
statement_reads c i r j h = subst (λ o. Reads o r j) (sym (statement_is c i)) h

abbrev pub compound_by : (Place × Lines) → Option TokenKind → Parser (Made)
compound_by x (Some (k.Word word.If)) i = reading If x i
compound_by x (Some (k.Word word.While)) i = reading While x i
compound_by x (Some (k.Word word.For)) i = reading For x i
compound_by x y i = reading Try x i

abbrev pub compound_on : (Place × Lines) → Parser (Made)
compound_on x i = compound_by x (first_kind i) i

compound_at : (c : Place × Lines) (x : TokenKind) (s e l : ℕ) (i : Input) → reading Compound c (token_at x s e l ∷ i) ≡ compound_on c (token_at x s e l ∷ i)
compound_at c (k.Word word.And) s e l i = by_looks Compound c (token_at (k.Word word.And) s e l ∷ i)
compound_at c (k.Sign sign.Plus) s e l i = by_looks Compound c (token_at (k.Sign sign.Plus) s e l ∷ i)
compound_at c x s e l i = by_looks Compound c (token_at x s e l ∷ i)

pub compound_is : (c : Place × Lines) (i : Input) → reading Compound c i ≡ compound_on c i
compound_is c [] = by_looks Compound c []
compound_is c (t ∷ i) = compound_at c t.kind t.start t.end t.line i

pub compound_reads : (c : Place × Lines) (i : Input) (r : Result (Made) Stop) (j : Input) → Reads (compound_on c i) r j → Reads (reading Compound c i) r j
compound_reads c i r j h = subst (λ o. Reads o r j) (sym (compound_is c i)) h

abbrev pub return_rest_on : (Lines × ℕ) → Parser (Made)
return_rest_on x i = cond (begins_expression (first_kind i)) (and_then (reading Exprs x.0 i) (λ a j. Ok (returned_value x.1 a, j))) (Ok (returned x.0 x.1, i))

return_rest_at : (c : Lines × ℕ) (x : TokenKind) (s e l : ℕ) (i : Input) → reading ReturnRest c (token_at x s e l ∷ i) ≡ return_rest_on c (token_at x s e l ∷ i)
return_rest_at c (k.Word word.And) s e l i = by_looks ReturnRest c (token_at (k.Word word.And) s e l ∷ i)
return_rest_at c (k.Sign sign.Plus) s e l i = by_looks ReturnRest c (token_at (k.Sign sign.Plus) s e l ∷ i)
return_rest_at c x s e l i = by_looks ReturnRest c (token_at x s e l ∷ i)

pub return_rest_is : (c : Lines × ℕ) (i : Input) → reading ReturnRest c i ≡ return_rest_on c i
return_rest_is c [] = by_looks ReturnRest c []
return_rest_is c (t ∷ i) = return_rest_at c t.kind t.start t.end t.line i

pub return_rest_reads : (c : Lines × ℕ) (i : Input) (r : Result (Made) Stop) (j : Input) → Reads (return_rest_on c i) r j → Reads (reading ReturnRest c i) r j
return_rest_reads c i r j h = subst (λ o. Reads o r j) (sym (return_rest_is c i)) h

abbrev pub print_rest_on : Listed → Parser (Made)
print_rest_on x i = cond (begins_expression (first_kind i)) (and_then (reading Item x i) (λ y j. and_then (reading Prints y j) (λ z l. Ok (printed z, l)))) (Ok (printed x, i))

print_rest_at : (c : Listed) (x : TokenKind) (s e l : ℕ) (i : Input) → reading PrintRest c (token_at x s e l ∷ i) ≡ print_rest_on c (token_at x s e l ∷ i)
print_rest_at c (k.Word word.And) s e l i = by_looks PrintRest c (token_at (k.Word word.And) s e l ∷ i)
print_rest_at c (k.Sign sign.Plus) s e l i = by_looks PrintRest c (token_at (k.Sign sign.Plus) s e l ∷ i)
print_rest_at c x s e l i = by_looks PrintRest c (token_at x s e l ∷ i)

pub print_rest_is : (c : Listed) (i : Input) → reading PrintRest c i ≡ print_rest_on c i
print_rest_is c [] = by_looks PrintRest c []
print_rest_is c (t ∷ i) = print_rest_at c t.kind t.start t.end t.line i

pub print_rest_reads : (c : Listed) (i : Input) (r : Result (Made) Stop) (j : Input) → Reads (print_rest_on c i) r j → Reads (reading PrintRest c i) r j
print_rest_reads c i r j h = subst (λ o. Reads o r j) (sym (print_rest_is c i)) h

abbrev pub valued_by : Got → Option BinOp → Parser Made
valued_by a None i = Ok (evaluated a, i)
valued_by a (Some op) i = cond a.place (and_then (reading Exprs a.lines (next i)) (λ b j. Ok (changed (goal_of a.tree) a.line op b, j))) (Err (length i))

abbrev pub valued_rest_on : Got → Parser (Made)
valued_rest_on a i = cond (sees (sign_kind sign.Equal) i) (cond a.goal (reading AssignFirst a i) (Err (length i))) (valued_by a (assign_op (first_kind i)) i)

valued_rest_at : (c : Got) (x : TokenKind) (s e l : ℕ) (i : Input) → reading ValuedRest c (token_at x s e l ∷ i) ≡ valued_rest_on c (token_at x s e l ∷ i)
valued_rest_at c (k.Word word.And) s e l i = by_looks ValuedRest c (token_at (k.Word word.And) s e l ∷ i)
valued_rest_at c (k.Sign sign.Equal) s e l i = by_looks ValuedRest c (token_at (k.Sign sign.Equal) s e l ∷ i)
valued_rest_at c x s e l i = by_looks ValuedRest c (token_at x s e l ∷ i)

pub valued_rest_is : (c : Got) (i : Input) → reading ValuedRest c i ≡ valued_rest_on c i
valued_rest_is c [] = by_looks ValuedRest c []
valued_rest_is c (t ∷ i) = valued_rest_at c t.kind t.start t.end t.line i

pub valued_rest_reads : (c : Got) (i : Input) (r : Result (Made) Stop) (j : Input) → Reads (valued_rest_on c i) r j → Reads (reading ValuedRest c i) r j
valued_rest_reads c i r j h = subst (λ o. Reads o r j) (sym (valued_rest_is c i)) h

abbrev pub assigns_on : Assigned → Parser (Made)
assigns_on x i = cond (sees (sign_kind sign.Equal) i) (cond x.value.goal (and_then (reading Assign x i) (λ y. reading Assigns y)) (Err (length i))) (Ok (assignment x, i))

assigns_at : (c : Assigned) (x : TokenKind) (s e l : ℕ) (i : Input) → reading Assigns c (token_at x s e l ∷ i) ≡ assigns_on c (token_at x s e l ∷ i)
assigns_at c (k.Word word.And) s e l i = by_looks Assigns c (token_at (k.Word word.And) s e l ∷ i)
assigns_at c (k.Sign sign.Equal) s e l i = by_looks Assigns c (token_at (k.Sign sign.Equal) s e l ∷ i)
assigns_at c x s e l i = by_looks Assigns c (token_at x s e l ∷ i)

pub assigns_is : (c : Assigned) (i : Input) → reading Assigns c i ≡ assigns_on c i
assigns_is c [] = by_looks Assigns c []
assigns_is c (t ∷ i) = assigns_at c t.kind t.start t.end t.line i

pub assigns_reads : (c : Assigned) (i : Input) (r : Result (Made) Stop) (j : Input) → Reads (assigns_on c i) r j → Reads (reading Assigns c i) r j
assigns_reads c i r j h = subst (λ o. Reads o r j) (sym (assigns_is c i)) h

abbrev pub clauses_on : (Place × Tried) → Parser (Made)
clauses_on x i = cond (sees (word_kind word.Except) i) (cond (not x.1.bare) (and_then (reading NextClause x i) (λ y. reading Clauses (x.0, y))) (Err (length i))) (reading TryEnd x i)

clauses_at : (c : Place × Tried) (x : TokenKind) (s e l : ℕ) (i : Input) → reading Clauses c (token_at x s e l ∷ i) ≡ clauses_on c (token_at x s e l ∷ i)
clauses_at c (k.Word word.Except) s e l i = by_looks Clauses c (token_at (k.Word word.Except) s e l ∷ i)
clauses_at c (k.Sign sign.Plus) s e l i = by_looks Clauses c (token_at (k.Sign sign.Plus) s e l ∷ i)
clauses_at c x s e l i = by_looks Clauses c (token_at x s e l ∷ i)

pub clauses_is : (c : Place × Tried) (i : Input) → reading Clauses c i ≡ clauses_on c i
clauses_is c [] = by_looks Clauses c []
clauses_is c (t ∷ i) = clauses_at c t.kind t.start t.end t.line i

pub clauses_reads : (c : Place × Tried) (i : Input) (r : Result (Made) Stop) (j : Input) → Reads (clauses_on c i) r j → Reads (reading Clauses c i) r j
clauses_reads c i r j h = subst (λ o. Reads o r j) (sym (clauses_is c i)) h

abbrev pub try_rest_on : (Place × Tried) → Parser (Made)
try_rest_on x i = cond (sees (word_kind word.Except) i) (and_then (reading NextClause x i) (λ y. reading Clauses (x.0, y))) (cond (not x.0.last) (and_then (eat (word_kind word.Finally) i) (λ _. reading Finish (x.1, []))) (Err (length i)))

try_rest_at : (c : Place × Tried) (x : TokenKind) (s e l : ℕ) (i : Input) → reading TryRest c (token_at x s e l ∷ i) ≡ try_rest_on c (token_at x s e l ∷ i)
try_rest_at c (k.Word word.Except) s e l i = by_looks TryRest c (token_at (k.Word word.Except) s e l ∷ i)
try_rest_at c (k.Sign sign.Plus) s e l i = by_looks TryRest c (token_at (k.Sign sign.Plus) s e l ∷ i)
try_rest_at c x s e l i = by_looks TryRest c (token_at x s e l ∷ i)

pub try_rest_is : (c : Place × Tried) (i : Input) → reading TryRest c i ≡ try_rest_on c i
try_rest_is c [] = by_looks TryRest c []
try_rest_is c (t ∷ i) = try_rest_at c t.kind t.start t.end t.line i

pub try_rest_reads : (c : Place × Tried) (i : Input) (r : Result (Made) Stop) (j : Input) → Reads (try_rest_on c i) r j → Reads (reading TryRest c i) r j
try_rest_reads c i r j h = subst (λ o. Reads o r j) (sym (try_rest_is c i)) h

abbrev pub clause_head_by : Unit {0} → Option TokenKind → Parser (Head)
clause_head_by x (Some (k.Sign sign.OpenParen)) i = reading BracketedClasses tt i
clause_head_by x (Some (k.Name y)) i = and_then (reading Dotted tt i) (λ c. reading Bound (c ∷ []))
clause_head_by x y i = Ok (bare_head, i)

abbrev pub clause_head_on : Unit {0} → Parser (Head)
clause_head_on x i = clause_head_by x (first_kind i) i

clause_head_at : (c : Unit {0}) (x : TokenKind) (s e l : ℕ) (i : Input) → reading ClauseHead c (token_at x s e l ∷ i) ≡ clause_head_on c (token_at x s e l ∷ i)
clause_head_at c (k.Word word.And) s e l i = by_looks ClauseHead c (token_at (k.Word word.And) s e l ∷ i)
clause_head_at c (k.Sign sign.Plus) s e l i = by_looks ClauseHead c (token_at (k.Sign sign.Plus) s e l ∷ i)
clause_head_at c x s e l i = by_looks ClauseHead c (token_at x s e l ∷ i)

pub clause_head_is : (c : Unit {0}) (i : Input) → reading ClauseHead c i ≡ clause_head_on c i
clause_head_is c [] = by_looks ClauseHead c []
clause_head_is c (t ∷ i) = clause_head_at c t.kind t.start t.end t.line i

pub clause_head_reads : (c : Unit {0}) (i : Input) (r : Result (Head) Stop) (j : Input) → Reads (clause_head_on c i) r j → Reads (reading ClauseHead c i) r j
clause_head_reads c i r j h = subst (λ o. Reads o r j) (sym (clause_head_is c i)) h

abbrev pub classes_more_on : List (List (List ℕ)) → Parser (List (List (List ℕ)))
classes_more_on x i = cond (begins_name (first_kind i)) (and_then (reading Dotted tt i) (λ c. reading Classes (x ++ c ∷ []))) (Ok (x, i))

classes_more_at : (c : List (List (List ℕ))) (x : TokenKind) (s e l : ℕ) (i : Input) → reading ClassesMore c (token_at x s e l ∷ i) ≡ classes_more_on c (token_at x s e l ∷ i)
classes_more_at c (k.Word word.And) s e l i = by_looks ClassesMore c (token_at (k.Word word.And) s e l ∷ i)
classes_more_at c (k.Sign sign.Plus) s e l i = by_looks ClassesMore c (token_at (k.Sign sign.Plus) s e l ∷ i)
classes_more_at c x s e l i = by_looks ClassesMore c (token_at x s e l ∷ i)

pub classes_more_is : (c : List (List (List ℕ))) (i : Input) → reading ClassesMore c i ≡ classes_more_on c i
classes_more_is c [] = by_looks ClassesMore c []
classes_more_is c (t ∷ i) = classes_more_at c t.kind t.start t.end t.line i

pub classes_more_reads : (c : List (List (List ℕ))) (i : Input) (r : Result (List (List (List ℕ))) Stop) (j : Input) → Reads (classes_more_on c i) r j → Reads (reading ClassesMore c i) r j
classes_more_reads c i r j h = subst (λ o. Reads o r j) (sym (classes_more_is c i)) h

abbrev pub base_name_on : Unit {0} → Parser (List (List ℕ))
base_name_on x i = cond (begins_name (first_kind i)) (reading Dotted tt i) (Ok ([], i))

base_name_at : (c : Unit {0}) (x : TokenKind) (s e l : ℕ) (i : Input) → reading BaseName c (token_at x s e l ∷ i) ≡ base_name_on c (token_at x s e l ∷ i)
base_name_at c (k.Word word.And) s e l i = by_looks BaseName c (token_at (k.Word word.And) s e l ∷ i)
base_name_at c (k.Sign sign.Plus) s e l i = by_looks BaseName c (token_at (k.Sign sign.Plus) s e l ∷ i)
base_name_at c x s e l i = by_looks BaseName c (token_at x s e l ∷ i)

pub base_name_is : (c : Unit {0}) (i : Input) → reading BaseName c i ≡ base_name_on c i
base_name_is c [] = by_looks BaseName c []
base_name_is c (t ∷ i) = base_name_at c t.kind t.start t.end t.line i

pub base_name_reads : (c : Unit {0}) (i : Input) (r : Result (List (List ℕ)) Stop) (j : Input) → Reads (base_name_on c i) r j → Reads (reading BaseName c i) r j
base_name_reads c i r j h = subst (λ o. Reads o r j) (sym (base_name_is c i)) h

abbrev pub bracketed_more_on : List (List ℕ) → Parser (List (List ℕ))
bracketed_more_on x i = cond (begins_name (first_kind i)) (and_then (eat 0 i) (λ t. reading BracketedNames (x ++ text t ∷ []))) (Ok (x, i))

bracketed_more_at : (c : List (List ℕ)) (x : TokenKind) (s e l : ℕ) (i : Input) → reading BracketedMore c (token_at x s e l ∷ i) ≡ bracketed_more_on c (token_at x s e l ∷ i)
bracketed_more_at c (k.Word word.And) s e l i = by_looks BracketedMore c (token_at (k.Word word.And) s e l ∷ i)
bracketed_more_at c (k.Sign sign.Plus) s e l i = by_looks BracketedMore c (token_at (k.Sign sign.Plus) s e l ∷ i)
bracketed_more_at c x s e l i = by_looks BracketedMore c (token_at x s e l ∷ i)

pub bracketed_more_is : (c : List (List ℕ)) (i : Input) → reading BracketedMore c i ≡ bracketed_more_on c i
bracketed_more_is c [] = by_looks BracketedMore c []
bracketed_more_is c (t ∷ i) = bracketed_more_at c t.kind t.start t.end t.line i

pub bracketed_more_reads : (c : List (List ℕ)) (i : Input) (r : Result (List (List ℕ)) Stop) (j : Input) → Reads (bracketed_more_on c i) r j → Reads (reading BracketedMore c i) r j
bracketed_more_reads c i r j h = subst (λ o. Reads o r j) (sym (bracketed_more_is c i)) h

abbrev pub param_list_on : Params → Parser (Params)
param_list_on x i = cond (begins_name (first_kind i)) (and_then (reading OneParam x i) (λ y. reading ParamListRest y)) (cond (sees (sign_kind sign.Star) i) (and_then (eat (sign_kind sign.Star) i) (λ t. reading StarParam (t.line, x))) (Ok (x, i)))

param_list_at : (c : Params) (x : TokenKind) (s e l : ℕ) (i : Input) → reading ParamList c (token_at x s e l ∷ i) ≡ param_list_on c (token_at x s e l ∷ i)
param_list_at c (k.Word word.And) s e l i = by_looks ParamList c (token_at (k.Word word.And) s e l ∷ i)
param_list_at c (k.Sign sign.Star) s e l i = by_looks ParamList c (token_at (k.Sign sign.Star) s e l ∷ i)
param_list_at c x s e l i = by_looks ParamList c (token_at x s e l ∷ i)

pub param_list_is : (c : Params) (i : Input) → reading ParamList c i ≡ param_list_on c i
param_list_is c [] = by_looks ParamList c []
param_list_is c (t ∷ i) = param_list_at c t.kind t.start t.end t.line i

pub param_list_reads : (c : Params) (i : Input) (r : Result (Params) Stop) (j : Input) → Reads (param_list_on c i) r j → Reads (reading ParamList c i) r j
param_list_reads c i r j h = subst (λ o. Reads o r j) (sym (param_list_is c i)) h

abbrev pub one_member_on : Members → Parser (Members)
one_member_on x i = cond (begins_member (first_kind i)) (and_then (reading ModuleMember x.lines i) (λ g j. Ok (member_pushed x.members g, j))) (cond (sees (word_kind word.If) i) (and_then (reading Main tt i) (λ _ j. Ok (x, j))) (reading NoMember x i))

one_member_at : (c : Members) (x : TokenKind) (s e l : ℕ) (i : Input) → reading OneMember c (token_at x s e l ∷ i) ≡ one_member_on c (token_at x s e l ∷ i)
one_member_at c (k.Word word.If) s e l i = by_looks OneMember c (token_at (k.Word word.If) s e l ∷ i)
one_member_at c (k.Sign sign.Plus) s e l i = by_looks OneMember c (token_at (k.Sign sign.Plus) s e l ∷ i)
one_member_at c x s e l i = by_looks OneMember c (token_at x s e l ∷ i)

pub one_member_is : (c : Members) (i : Input) → reading OneMember c i ≡ one_member_on c i
one_member_is c [] = by_looks OneMember c []
one_member_is c (t ∷ i) = one_member_at c t.kind t.start t.end t.line i

pub one_member_reads : (c : Members) (i : Input) (r : Result (Members) Stop) (j : Input) → Reads (one_member_on c i) r j → Reads (reading OneMember c i) r j
one_member_reads c i r j h = subst (λ o. Reads o r j) (sym (one_member_is c i)) h

abbrev pub module_member_by : Lines → Option TokenKind → Parser (Grown)
module_member_by x (Some (k.Word word.Import)) i = reading ImportLine x i
module_member_by x (Some (k.Word word.From)) i = reading FromLine x i
module_member_by x (Some (k.Word word.Class)) i = reading ClassText x i
module_member_by x y i = reading CommonMember x i

abbrev pub module_member_on : Lines → Parser (Grown)
module_member_on x i = module_member_by x (first_kind i) i

module_member_at : (c : Lines) (x : TokenKind) (s e l : ℕ) (i : Input) → reading ModuleMember c (token_at x s e l ∷ i) ≡ module_member_on c (token_at x s e l ∷ i)
module_member_at c (k.Word word.And) s e l i = by_looks ModuleMember c (token_at (k.Word word.And) s e l ∷ i)
module_member_at c (k.Sign sign.Plus) s e l i = by_looks ModuleMember c (token_at (k.Sign sign.Plus) s e l ∷ i)
module_member_at c x s e l i = by_looks ModuleMember c (token_at x s e l ∷ i)

pub module_member_is : (c : Lines) (i : Input) → reading ModuleMember c i ≡ module_member_on c i
module_member_is c [] = by_looks ModuleMember c []
module_member_is c (t ∷ i) = module_member_at c t.kind t.start t.end t.line i

pub module_member_reads : (c : Lines) (i : Input) (r : Result (Grown) Stop) (j : Input) → Reads (module_member_on c i) r j → Reads (reading ModuleMember c i) r j
module_member_reads c i r j h = subst (λ o. Reads o r j) (sym (module_member_is c i)) h

abbrev pub class_member_on : Members → Parser (Members)
class_member_on x i = cond (begins_common (first_kind i)) (and_then (reading CommonMember x.lines i) (λ g j. Ok (member_pushed x.members g, j))) (reading NoMember x i)

class_member_at : (c : Members) (x : TokenKind) (s e l : ℕ) (i : Input) → reading ClassMember c (token_at x s e l ∷ i) ≡ class_member_on c (token_at x s e l ∷ i)
class_member_at c (k.Word word.And) s e l i = by_looks ClassMember c (token_at (k.Word word.And) s e l ∷ i)
class_member_at c (k.Sign sign.Plus) s e l i = by_looks ClassMember c (token_at (k.Sign sign.Plus) s e l ∷ i)
class_member_at c x s e l i = by_looks ClassMember c (token_at x s e l ∷ i)

pub class_member_is : (c : Members) (i : Input) → reading ClassMember c i ≡ class_member_on c i
class_member_is c [] = by_looks ClassMember c []
class_member_is c (t ∷ i) = class_member_at c t.kind t.start t.end t.line i

pub class_member_reads : (c : Members) (i : Input) (r : Result (Members) Stop) (j : Input) → Reads (class_member_on c i) r j → Reads (reading ClassMember c i) r j
class_member_reads c i r j h = subst (λ o. Reads o r j) (sym (class_member_is c i)) h

abbrev pub no_member_on : Members → Parser (Members)
no_member_on x i = cond (sees (word_kind word.Pass) i) (and_then (eat (word_kind word.Pass) i) (λ _ j. and_then (eat newline_kind j) (λ _ l. Ok (x, l)))) (and_then (reading StringsAlone tt i) (λ _ j. and_then (eat newline_kind j) (λ _ l. Ok (x, l))))

no_member_at : (c : Members) (x : TokenKind) (s e l : ℕ) (i : Input) → reading NoMember c (token_at x s e l ∷ i) ≡ no_member_on c (token_at x s e l ∷ i)
no_member_at c (k.Word word.Pass) s e l i = by_looks NoMember c (token_at (k.Word word.Pass) s e l ∷ i)
no_member_at c (k.Sign sign.Plus) s e l i = by_looks NoMember c (token_at (k.Sign sign.Plus) s e l ∷ i)
no_member_at c x s e l i = by_looks NoMember c (token_at x s e l ∷ i)

pub no_member_is : (c : Members) (i : Input) → reading NoMember c i ≡ no_member_on c i
no_member_is c [] = by_looks NoMember c []
no_member_is c (t ∷ i) = no_member_at c t.kind t.start t.end t.line i

pub no_member_reads : (c : Members) (i : Input) (r : Result (Members) Stop) (j : Input) → Reads (no_member_on c i) r j → Reads (reading NoMember c i) r j
no_member_reads c i r j h = subst (λ o. Reads o r j) (sym (no_member_is c i)) h

abbrev pub common_member_on : Lines → Parser (Grown)
common_member_on x i = cond (sees (word_kind word.Def) i) (reading DefText x i) (reading Constant x i)

common_member_at : (c : Lines) (x : TokenKind) (s e l : ℕ) (i : Input) → reading CommonMember c (token_at x s e l ∷ i) ≡ common_member_on c (token_at x s e l ∷ i)
common_member_at c (k.Word word.Def) s e l i = by_looks CommonMember c (token_at (k.Word word.Def) s e l ∷ i)
common_member_at c (k.Sign sign.Plus) s e l i = by_looks CommonMember c (token_at (k.Sign sign.Plus) s e l ∷ i)
common_member_at c x s e l i = by_looks CommonMember c (token_at x s e l ∷ i)

pub common_member_is : (c : Lines) (i : Input) → reading CommonMember c i ≡ common_member_on c i
common_member_is c [] = by_looks CommonMember c []
common_member_is c (t ∷ i) = common_member_at c t.kind t.start t.end t.line i

pub common_member_reads : (c : Lines) (i : Input) (r : Result (Grown) Stop) (j : Input) → Reads (common_member_on c i) r j → Reads (reading CommonMember c i) r j
common_member_reads c i r j h = subst (λ o. Reads o r j) (sym (common_member_is c i)) h

-- ---- the same as equations

pub next_shorter : (i : Input) → length (next i) ≤ length i
next_shorter [] = omega arith
next_shorter (t ∷ i) = omega arith

pub prints_is : (c : Listed) (i : Input) → reading Prints c i ≡ look tables reading (rule Prints c) i
prints_is c i = by_looks Prints c i

pub simples_is : (c : Place × Body) (i : Input) → reading Simples c i ≡ look tables reading (rule Simples c) i
simples_is c i = by_looks Simples c i

pub simples_rest_is : (c : Place × Body) (i : Input) → reading SimplesRest c i ≡ look tables reading (rule SimplesRest c) i
simples_rest_is c i = by_looks SimplesRest c i

pub simples_more_is : (c : Place × Body) (i : Input) → reading SimplesMore c i ≡ look tables reading (rule SimplesMore c) i
simples_more_is c i = by_looks SimplesMore c i

pub dots_is : (c : List (List ℕ)) (i : Input) → reading Dots c i ≡ look tables reading (rule Dots c) i
dots_is c i = by_looks Dots c i

pub classes_is : (c : List (List (List ℕ))) (i : Input) → reading Classes c i ≡ look tables reading (rule Classes c) i
classes_is c i = by_looks Classes c i

pub pass_word_is : (c : Lines) (i : Input) → reading PassWord c i ≡ look tables reading (rule PassWord c) i
pass_word_is c i = by_looks PassWord c i

pub break_word_is : (c : Lines) (i : Input) → reading BreakWord c i ≡ look tables reading (rule BreakWord c) i
break_word_is c i = by_looks BreakWord c i

pub continue_word_is : (c : Lines) (i : Input) → reading ContinueWord c i ≡ look tables reading (rule ContinueWord c) i
continue_word_is c i = by_looks ContinueWord c i

pub return_is : (c : Lines) (i : Input) → reading Return c i ≡ look tables reading (rule Return c) i
return_is c i = by_looks Return c i

pub raise_is : (c : Lines) (i : Input) → reading Raise c i ≡ look tables reading (rule Raise c) i
raise_is c i = by_looks Raise c i

pub assert_is : (c : Lines) (i : Input) → reading Assert c i ≡ look tables reading (rule Assert c) i
assert_is c i = by_looks Assert c i

pub assert_rest_is : (c : ℕ × Got) (i : Input) → reading AssertRest c i ≡ look tables reading (rule AssertRest c) i
assert_rest_is c i = by_looks AssertRest c i

pub strings_alone_is : (c : Unit {0}) (i : Input) → reading StringsAlone c i ≡ look tables reading (rule StringsAlone c) i
strings_alone_is c i = by_looks StringsAlone c i

pub del_is : (c : Lines) (i : Input) → reading Del c i ≡ look tables reading (rule Del c) i
del_is c i = by_looks Del c i

pub del_other_is : (c : ℕ × Got) (i : Input) → reading DelOther c i ≡ look tables reading (rule DelOther c) i
del_other_is c i = by_looks DelOther c i

pub del_index_is : (c : ℕ × Indexed) (i : Input) → reading DelIndex c i ≡ look tables reading (rule DelIndex c) i
del_index_is c i = by_looks DelIndex c i

pub del_subscript_is : (c : ℕ × Got) (i : Input) → reading DelSubscript c i ≡ look tables reading (rule DelSubscript c) i
del_subscript_is c i = by_looks DelSubscript c i

pub del_subscript_rest_is : (c : ℕ × Expr × ℕ × Got) (i : Input) → reading DelSubscriptRest c i ≡ look tables reading (rule DelSubscriptRest c) i
del_subscript_rest_is c i = by_looks DelSubscriptRest c i

pub print_is : (c : Lines) (i : Input) → reading Print c i ≡ look tables reading (rule Print c) i
print_is c i = by_looks Print c i

pub valued_is : (c : Lines) (i : Input) → reading Valued c i ≡ look tables reading (rule Valued c) i
valued_is c i = by_looks Valued c i

pub assign_first_is : (c : Got) (i : Input) → reading AssignFirst c i ≡ look tables reading (rule AssignFirst c) i
assign_first_is c i = by_looks AssignFirst c i

pub assign_is : (c : Assigned) (i : Input) → reading Assign c i ≡ look tables reading (rule Assign c) i
assign_is c i = by_looks Assign c i

pub one_simple_is : (c : Place × Body) (i : Input) → reading OneSimple c i ≡ look tables reading (rule OneSimple c) i
one_simple_is c i = by_looks OneSimple c i

pub block_is : (c : Place × Lines) (i : Input) → reading Block c i ≡ look tables reading (rule Block c) i
block_is c i = by_looks Block c i

pub statements_is : (c : Place × Body) (i : Input) → reading Statements c i ≡ look tables reading (rule Statements c) i
statements_is c i = by_looks Statements c i

pub if_is : (c : Place × Lines) (i : Input) → reading If c i ≡ look tables reading (rule If c) i
if_is c i = by_looks If c i

pub if_then_is : (c : Place × ℕ × Got) (i : Input) → reading IfThen c i ≡ look tables reading (rule IfThen c) i
if_then_is c i = by_looks IfThen c i

pub first_arm_is : (c : Place × Headed) (i : Input) → reading FirstArm c i ≡ look tables reading (rule FirstArm c) i
first_arm_is c i = by_looks FirstArm c i

pub elifs_is : (c : Place × Arms) (i : Input) → reading Elifs c i ≡ look tables reading (rule Elifs c) i
elifs_is c i = by_looks Elifs c i

pub else_body_is : (c : Place × Lines) (i : Input) → reading ElseBody c i ≡ look tables reading (rule ElseBody c) i
else_body_is c i = by_looks ElseBody c i

pub elif_is : (c : Place × Arms) (i : Input) → reading Elif c i ≡ look tables reading (rule Elif c) i
elif_is c i = by_looks Elif c i

pub elif_arm_is : (c : Place × Lines) (i : Input) → reading ElifArm c i ≡ look tables reading (rule ElifArm c) i
elif_arm_is c i = by_looks ElifArm c i

pub elif_body_is : (c : Place × Got) (i : Input) → reading ElifBody c i ≡ look tables reading (rule ElifBody c) i
elif_body_is c i = by_looks ElifBody c i

pub while_is : (c : Place × Lines) (i : Input) → reading While c i ≡ look tables reading (rule While c) i
while_is c i = by_looks While c i

pub while_body_is : (c : Place × ℕ × Got) (i : Input) → reading WhileBody c i ≡ look tables reading (rule WhileBody c) i
while_body_is c i = by_looks WhileBody c i

pub for_is : (c : Place × Lines) (i : Input) → reading For c i ≡ look tables reading (rule For c) i
for_is c i = by_looks For c i

pub for_in_is : (c : Place × ℕ × Aimed) (i : Input) → reading ForIn c i ≡ look tables reading (rule ForIn c) i
for_in_is c i = by_looks ForIn c i

pub for_body_is : (c : Place × ℕ × Target × Got) (i : Input) → reading ForBody c i ≡ look tables reading (rule ForBody c) i
for_body_is c i = by_looks ForBody c i

pub try_is : (c : Place × Lines) (i : Input) → reading Try c i ≡ look tables reading (rule Try c) i
try_is c i = by_looks Try c i

pub finish_is : (c : Tried × List Stmt) (i : Input) → reading Finish c i ≡ look tables reading (rule Finish c) i
finish_is c i = by_looks Finish c i

pub next_clause_is : (c : Place × Tried) (i : Input) → reading NextClause c i ≡ look tables reading (rule NextClause c) i
next_clause_is c i = by_looks NextClause c i

pub one_clause_is : (c : Place × Lines) (i : Input) → reading OneClause c i ≡ look tables reading (rule OneClause c) i
one_clause_is c i = by_looks OneClause c i

pub handler_is : (c : Place × ℕ × Lines × Head) (i : Input) → reading Handler c i ≡ look tables reading (rule Handler c) i
handler_is c i = by_looks Handler c i

pub bracketed_classes_is : (c : Unit {0}) (i : Input) → reading BracketedClasses c i ≡ look tables reading (rule BracketedClasses c) i
bracketed_classes_is c i = by_looks BracketedClasses c i

pub bound_is : (c : List (List (List ℕ))) (i : Input) → reading Bound c i ≡ look tables reading (rule Bound c) i
bound_is c i = by_looks Bound c i

pub bind_is : (c : List (List (List ℕ))) (i : Input) → reading Bind c i ≡ look tables reading (rule Bind c) i
bind_is c i = by_looks Bind c i

pub dotted_is : (c : Unit {0}) (i : Input) → reading Dotted c i ≡ look tables reading (rule Dotted c) i
dotted_is c i = by_looks Dotted c i

pub try_end_is : (c : Place × Tried) (i : Input) → reading TryEnd c i ≡ look tables reading (rule TryEnd c) i
try_end_is c i = by_looks TryEnd c i

pub try_finally_is : (c : Place × Tried × List Stmt) (i : Input) → reading TryFinally c i ≡ look tables reading (rule TryFinally c) i
try_finally_is c i = by_looks TryFinally c i

pub whole_is : (c : Unit {0}) (i : Input) → reading Whole c i ≡ look tables reading (rule Whole c) i
whole_is c i = by_looks Whole c i

pub member_list_is : (c : Members) (i : Input) → reading MemberList c i ≡ look tables reading (rule MemberList c) i
member_list_is c i = by_looks MemberList c i

pub constant_is : (c : Lines) (i : Input) → reading Constant c i ≡ look tables reading (rule Constant c) i
constant_is c i = by_looks Constant c i

pub import_line_is : (c : Lines) (i : Input) → reading ImportLine c i ≡ look tables reading (rule ImportLine c) i
import_line_is c i = by_looks ImportLine c i

pub names_is : (c : Unit {0}) (i : Input) → reading Names c i ≡ look tables reading (rule Names c) i
names_is c i = by_looks Names c i

pub more_names_is : (c : List (List ℕ)) (i : Input) → reading MoreNames c i ≡ look tables reading (rule MoreNames c) i
more_names_is c i = by_looks MoreNames c i

pub from_line_is : (c : Lines) (i : Input) → reading FromLine c i ≡ look tables reading (rule FromLine c) i
from_line_is c i = by_looks FromLine c i

pub from_names_is : (c : Lines × ℕ × List (List ℕ)) (i : Input) → reading FromNames c i ≡ look tables reading (rule FromNames c) i
from_names_is c i = by_looks FromNames c i

pub imported_is : (c : Unit {0}) (i : Input) → reading Imported c i ≡ look tables reading (rule Imported c) i
imported_is c i = by_looks Imported c i

pub bracketed_names_is : (c : List (List ℕ)) (i : Input) → reading BracketedNames c i ≡ look tables reading (rule BracketedNames c) i
bracketed_names_is c i = by_looks BracketedNames c i

pub def_text_is : (c : Lines) (i : Input) → reading DefText c i ≡ look tables reading (rule DefText c) i
def_text_is c i = by_looks DefText c i

pub def_params_is : (c : Numbered × List ℕ) (i : Input) → reading DefParams c i ≡ look tables reading (rule DefParams c) i
def_params_is c i = by_looks DefParams c i

pub def_body_is : (c : ℕ × List ℕ × Params) (i : Input) → reading DefBody c i ≡ look tables reading (rule DefBody c) i
def_body_is c i = by_looks DefBody c i

pub param_list_rest_is : (c : Params) (i : Input) → reading ParamListRest c i ≡ look tables reading (rule ParamListRest c) i
param_list_rest_is c i = by_looks ParamListRest c i

pub one_param_is : (c : Params) (i : Input) → reading OneParam c i ≡ look tables reading (rule OneParam c) i
one_param_is c i = by_looks OneParam c i

pub param_rest_is : (c : Params × ℕ × List ℕ) (i : Input) → reading ParamRest c i ≡ look tables reading (rule ParamRest c) i
param_rest_is c i = by_looks ParamRest c i

pub star_param_is : (c : ℕ × Params) (i : Input) → reading StarParam c i ≡ look tables reading (rule StarParam c) i
star_param_is c i = by_looks StarParam c i

pub comma_maybe_is : (c : Unit {0}) (i : Input) → reading CommaMaybe c i ≡ look tables reading (rule CommaMaybe c) i
comma_maybe_is c i = by_looks CommaMaybe c i

pub class_text_is : (c : Lines) (i : Input) → reading ClassText c i ≡ look tables reading (rule ClassText c) i
class_text_is c i = by_looks ClassText c i

pub class_rest_is : (c : Numbered × List ℕ) (i : Input) → reading ClassRest c i ≡ look tables reading (rule ClassRest c) i
class_rest_is c i = by_looks ClassRest c i

pub class_body_is : (c : Numbered × List ℕ × List (List ℕ)) (i : Input) → reading ClassBody c i ≡ look tables reading (rule ClassBody c) i
class_body_is c i = by_looks ClassBody c i

pub base_is : (c : Unit {0}) (i : Input) → reading Base c i ≡ look tables reading (rule Base c) i
base_is c i = by_looks Base c i

pub class_block_is : (c : Members) (i : Input) → reading ClassBlock c i ≡ look tables reading (rule ClassBlock c) i
class_block_is c i = by_looks ClassBlock c i

pub class_members_is : (c : Members) (i : Input) → reading ClassMembers c i ≡ look tables reading (rule ClassMembers c) i
class_members_is c i = by_looks ClassMembers c i

pub main_is : (c : Unit {0}) (i : Input) → reading Main c i ≡ look tables reading (rule Main c) i
main_is c i = by_looks Main c i

pub skipped_is : (c : Unit {0}) (i : Input) → reading Skipped c i ≡ look tables reading (rule Skipped c) i
skipped_is c i = by_looks Skipped c i
