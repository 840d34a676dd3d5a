-- The rules for members and modules.
use Rattle.std.proofs.Common.{ℕ, List, arith}
use Rattle.rpy_parse.specs.declared.found.Members.{Members}
use Rattle.rpy_parse.specs.declared.found.Numbered.{Numbered}
use Rattle.rpy_parse.specs.declared.found.Params.{Params}
use Rattle.rpy_parse.specs.Build.{Lines, text}
use Rattle.rpy_parse.specs.Shapes.{Whole, MemberList, OneMember, ModuleMember, ClassMember, CommonMember, NoMember, Constant, ImportLine, FromLine, FromNames, DefText, DefParams, DefBody, ParamList, ParamListRest, OneParam, ParamRest, StarParam, ClassText, ClassRest, ClassBody, ClassBlock, ClassMembers}
use Rattle.parse_nodes.proofs.Kept.{Keeps}
use Rattle.parse_nodes.proofs.Seen.{seen_is, seen_more}
use Rattle.parse_nodes.proofs.Grown.{constant_grows, import_grows, from_grows, function_grows, class_grows, member_pushed_grows}

module _ (k : ℕ) where
  -- ---- lists of members

  pub whole_keeps : (x : Unit {0}) → Keeps k Whole x
  whole_keeps x = λ y p. omega (arith, p, seen_is k y.lines)

  pub member_list_keeps : (x : Members) → Keeps k MemberList x
  member_list_keeps x = (λ t. omega arith, λ y p v q. omega (arith, p, q))

  pub one_member_keeps : (x : Members) → Keeps k OneMember x
  one_member_keeps x = (λ g p. omega (arith, p, member_pushed_grows k x.members g), (λ u q. omega arith, λ v p. p))

  pub module_member_keeps : (n : Lines) → Keeps k ModuleMember n
  module_member_keeps n = (λ v p. p, (λ v p. p, (λ v p. p, λ v p. p)))

  pub class_member_keeps : (x : Members) → Keeps k ClassMember x
  class_member_keeps x = (λ g p. omega (arith, p, member_pushed_grows k x.members g), λ v p. p)

  pub common_member_keeps : (n : Lines) → Keeps k CommonMember n
  common_member_keeps n = (λ v p. p, λ v p. p)

  pub no_member_keeps : (x : Members) → Keeps k NoMember x
  no_member_keeps x = (λ t u. omega arith, λ u q t. omega arith)

  pub constant_keeps : (n : Lines) → Keeps k Constant n
  constant_keeps n = λ t u a p w. omega (arith, p, constant_grows k t.line (text t) a)

  pub import_keeps : (n : Lines) → Keeps k ImportLine n
  import_keeps n = λ t names q u. import_grows k n t.line names

  pub from_keeps : (n : Lines) → Keeps k FromLine n
  from_keeps n = λ t path q v p. p

  pub from_names_keeps : (x : Lines × ℕ × List (List ℕ)) → Keeps k FromNames x
  from_names_keeps x = λ t names q u. from_grows k x.0 x.1 x.2 names

  -- ---- functions

  pub def_text_keeps : (n : Lines) → Keeps k DefText n
  def_text_keeps n = λ t a v p. omega (arith, p, seen_more k n t.line)

  pub def_params_keeps : (x : Numbered × List ℕ) → Keeps k DefParams x
  def_params_keeps x = λ t ps p v q. omega (arith, p, q)

  pub def_body_keeps : (x : ℕ × List ℕ × Params) → Keeps k DefBody x
  def_body_keeps x = λ t u b p. omega (arith, p, function_grows k x.0 x.1 x.2 b)

  pub param_list_keeps : (x : Params) → Keeps k ParamList x
  param_list_keeps x = (λ y p v q. omega (arith, p, q), (λ t v p. p, omega arith))

  pub param_list_rest_keeps : (x : Params) → Keeps k ParamListRest x
  param_list_rest_keeps x = (λ t v p. p, omega arith)

  pub one_param_keeps : (x : Params) → Keeps k OneParam x
  one_param_keeps x = λ t v p. p

  pub param_rest_keeps : (x : Params × ℕ × List ℕ) → Keeps k ParamRest x
  param_rest_keeps x = (λ t a p. omega (arith, p, seen_more k x.0.lines x.1), λ g. omega (arith, seen_more k x.0.lines x.1))

  pub star_param_keeps : (x : ℕ × Params) → Keeps k StarParam x
  star_param_keeps x = λ t u q. omega (arith, seen_more k x.1.lines x.0)

  -- ---- classes

  pub class_text_keeps : (n : Lines) → Keeps k ClassText n
  class_text_keeps n = λ t a v p. omega (arith, p, seen_more k n t.line)

  pub class_rest_keeps : (x : Numbered × List ℕ) → Keeps k ClassRest x
  class_rest_keeps x = λ b q v p. p

  pub class_body_keeps : (x : Numbered × List ℕ × List (List ℕ)) → Keeps k ClassBody x
  class_body_keeps x = λ t own p. omega (arith, p, class_grows k x.0.node x.1 x.2 own)

  pub class_block_keeps : (x : Members) → Keeps k ClassBlock x
  class_block_keeps x = (λ t u. omega arith, λ t u y p v q. omega (arith, p, q))

  pub class_members_keeps : (x : Members) → Keeps k ClassMembers x
  class_members_keeps x = (λ t. omega arith, λ y p v q. omega (arith, p, q))
