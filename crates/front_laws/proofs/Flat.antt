-- Rules for what stands in a class give no class.
use Rattle.std.proofs.Common.{◌≡◌, ℕ, zero, suc, Bool, true, List, [], ◌∷◌, ◌++◌, length, refl, ap, subst, ◌∙◌, inl, inr}
use Rattle.std.specs.Prelude.{◌&&◌}
use Rattle.std.specs.List.{list_all}
use Rattle.std.proofs.lemmas.List.Folds.{list_all-append}
use Rattle.rpy_tree.specs.declared.syntax.Member.{Member, out-Member}
use Rattle.rpy_tree.specs.declared.syntax.Module.{Module}
use Rattle.rpy_parse.specs.declared.found.Grown.{Grown}
use Rattle.rpy_parse.specs.declared.found.Members.{Members}
use Rattle.rpy_parse.specs.declared.found.Numbered.{Numbered}
use Rattle.rpy_parse.specs.declared.found.Params.{Params}
use Rattle.rpy_parse.specs.Build.{Lines, text, no_members}
use Rattle.rpy_parse.specs.Input.{Input}
use Rattle.rpy_parse.specs.Modules.{IsModule}
use Rattle.rpy_parse.specs.Rows.{python}
use Rattle.rpy_parse.specs.Rule.{lang}
use Rattle.rpy_parse.specs.Shapes.{Whole, MemberList, OneMember, ModuleMember, ClassMember, CommonMember, NoMember, Constant, ImportLine, FromLine, FromNames, DefText, DefParams, DefBody, ClassText, ClassRest, ClassBody, ClassBlock, ClassMembers}
use Rattle.rpy_nodes.specs.declared.listing.Named.{Named}
use Rattle.rpy_names.specs.Place.{modules_of}
use Rattle.resolver_laws.specs.Listing.{is_no_class, is_flat, HasNoInnerClasses}
use Rattle.rpy_front.specs.Modules.{AreFirst, AreModules}
use Rattle.front_laws.proofs.Members.{IsNoClass, IsFlat, NoClasses, AreFlat, def_plain, constant_plain, import_flat, from_flat, class_flat, plain_flat}

both : (a b : Bool) → a ≡ true → b ≡ true → (a && b) ≡ true
both a b h k = ap (λ x. x && b) h ∙ k

-- a list with one more
pushed : (p : Member → Bool) (ms : List Member) (m : Member) → list_all p ms ≡ true → p m ≡ true → list_all p (ms ++ m ∷ []) ≡ true
pushed p ms m h k = list_all-append p ms (m ∷ []) ∙ both (list_all p ms) (list_all p (m ∷ [])) h (both (p m) true k refl)

-- ---- what may stand in a class

body_plain : (d : ℕ) (x : ℕ × List ℕ × Params) (i j : Input) (g : Grown) → lang python d DefBody x i g j → IsNoClass g.member
body_plain zero x i j g h = absurd h
body_plain (suc d) x i j g h =
    subst (λ (g : Grown). IsNoClass g.member) h.3.3.3.0 (def_plain (record { node = x.0; name = x.1; params = x.2.params; star = x.2.star; body = h.3.3.0.stmts }))

params_plain : (d : ℕ) (x : Numbered × List ℕ) (i j : Input) (g : Grown) → lang python d DefParams x i g j → IsNoClass g.member
params_plain zero x i j g h = absurd h
params_plain (suc d) x i j g h = body_plain d _ _ j g h.3.3

text_plain : (d : ℕ) (n : Lines) (i j : Input) (g : Grown) → lang python d DefText n i g j → IsNoClass g.member
text_plain zero n i j g h = absurd h
text_plain (suc d) n i j g h = params_plain d _ _ j g h.3.3

value_plain : (d : ℕ) (n : Lines) (i j : Input) (g : Grown) → lang python d Constant n i g j → IsNoClass g.member
value_plain zero n i j g h = absurd h
value_plain (suc d) n i j g h = subst (λ (g : Grown). IsNoClass g.member) h.3.3.3.3.0 (constant_plain (length h.3.3.0.lines) (text h.0) h.3.3.0.tree)

common_plain : (d : ℕ) (n : Lines) (i j : Input) (g : Grown) → lang python d CommonMember n i g j → IsNoClass g.member
common_plain zero n i j g h = absurd h
common_plain (suc d) n i j g (inl h) = text_plain d n i j g h
common_plain (suc d) n i j g (inr h) = value_plain d n i j g h

none_added : (d : ℕ) (x : Members) (i j : Input) (y : Members) → lang python d NoMember x i y j → x ≡ y
none_added zero x i j y h = absurd h
none_added (suc d) x i j y (inl h) = h.3.3.0
none_added (suc d) x i j y (inr h) = h.3.3.0

member_plain : (d : ℕ) (x : Members) (i j : Input) (y : Members) → NoClasses x.members → lang python d ClassMember x i y j → NoClasses y.members
member_plain zero x i j y k h = absurd h
member_plain (suc d) x i j y k (inl h) =
    subst (λ (y : Members). NoClasses y.members) h.3.0 (pushed (λ m. is_no_class (out-Member m)) x.members h.0.member k (common_plain d x.lines i h.1 h.0 h.2))
member_plain (suc d) x i j y k (inr h) = subst (λ (y : Members). NoClasses y.members) (none_added d x i j y h) k

members_plain : (d : ℕ) (x : Members) (i j : Input) (y : Members) → NoClasses x.members → lang python d ClassMembers x i y j → NoClasses y.members
members_plain zero x i j y k h = absurd h
members_plain (suc d) x i j y k (inl h) = subst (λ (y : Members). NoClasses y.members) h.3.0 k
members_plain (suc d) x i j y k (inr h) = members_plain d h.0 h.1 j y (member_plain d x i h.1 h.0 k h.2) h.3

block_plain : (d : ℕ) (x : Members) (i j : Input) (y : Members) → NoClasses x.members → lang python d ClassBlock x i y j → NoClasses y.members
block_plain zero x i j y k h = absurd h
block_plain (suc d) x i j y k (inl h) = subst (λ (y : Members). NoClasses y.members) h.3.3.0 k
block_plain (suc d) x i j y k (inr h) = members_plain d h.3.3.0 h.3.3.1 j y (member_plain d x h.3.1 h.3.3.1 h.3.3.0 k h.3.3.2) h.3.3.3

-- ---- members of modules

class_body_flat : (d : ℕ) (x : Numbered × List ℕ × List (List ℕ)) (i j : Input) (g : Grown) → lang python d ClassBody x i g j → IsFlat g.member
class_body_flat zero x i j g h = absurd h
class_body_flat (suc d) x i j g h =
    subst (λ (g : Grown). IsFlat g.member) h.3.3.0
    (class_flat (record { node = x.0.node; name = x.1; base = x.2; members = h.3.0.members }) (block_plain d (no_members x.0.lines) h.1 h.3.1 h.3.0 refl h.3.2))

class_rest_flat : (d : ℕ) (x : Numbered × List ℕ) (i j : Input) (g : Grown) → lang python d ClassRest x i g j → IsFlat g.member
class_rest_flat zero x i j g h = absurd h
class_rest_flat (suc d) x i j g h = class_body_flat d _ _ j g h.3

class_text_flat : (d : ℕ) (n : Lines) (i j : Input) (g : Grown) → lang python d ClassText n i g j → IsFlat g.member
class_text_flat zero n i j g h = absurd h
class_text_flat (suc d) n i j g h = class_rest_flat d _ _ j g h.3.3

import_line_flat : (d : ℕ) (n : Lines) (i j : Input) (g : Grown) → lang python d ImportLine n i g j → IsFlat g.member
import_line_flat zero n i j g h = absurd h
import_line_flat (suc d) n i j g h = subst (λ (g : Grown). IsFlat g.member) h.3.3.3.0 (import_flat (length n) h.3.0)

names_flat : (d : ℕ) (x : Lines × ℕ × List (List ℕ)) (i j : Input) (g : Grown) → lang python d FromNames x i g j → IsFlat g.member
names_flat zero x i j g h = absurd h
names_flat (suc d) x i j g h = subst (λ (g : Grown). IsFlat g.member) h.3.3.3.0 (from_flat (length x.0) x.2 h.3.0)

from_line_flat : (d : ℕ) (n : Lines) (i j : Input) (g : Grown) → lang python d FromLine n i g j → IsFlat g.member
from_line_flat zero n i j g h = absurd h
from_line_flat (suc d) n i j g h = names_flat d _ _ j g h.3.3

member_flat : (d : ℕ) (n : Lines) (i j : Input) (g : Grown) → lang python d ModuleMember n i g j → IsFlat g.member
member_flat zero n i j g h = absurd h
member_flat (suc d) n i j g (inl h) = import_line_flat d n i j g h
member_flat (suc d) n i j g (inr (inl h)) = from_line_flat d n i j g h
member_flat (suc d) n i j g (inr (inr (inl h))) = class_text_flat d n i j g h
member_flat (suc d) n i j g (inr (inr (inr h))) = plain_flat g.member (common_plain d n i j g h)

one_flat : (d : ℕ) (x : Members) (i j : Input) (y : Members) → AreFlat x.members → lang python d OneMember x i y j → AreFlat y.members
one_flat zero x i j y k h = absurd h
one_flat (suc d) x i j y k (inl h) =
    subst (λ (y : Members). AreFlat y.members) h.3.0 (pushed (λ m. is_flat (out-Member m)) x.members h.0.member k (member_flat d x.lines i h.1 h.0 h.2))
one_flat (suc d) x i j y k (inr (inl h)) = subst (λ (y : Members). AreFlat y.members) h.3.0 k
one_flat (suc d) x i j y k (inr (inr h)) = subst (λ (y : Members). AreFlat y.members) (none_added d x i j y h) k

list_flat : (d : ℕ) (x : Members) (i j : Input) (y : Members) → AreFlat x.members → lang python d MemberList x i y j → AreFlat y.members
list_flat zero x i j y k h = absurd h
list_flat (suc d) x i j y k (inl h) = subst (λ (y : Members). AreFlat y.members) h.3.0 k
list_flat (suc d) x i j y k (inr h) = list_flat d h.0 h.1 j y (one_flat d x i h.1 h.0 k h.2) h.3

whole_flat : (d : ℕ) (i j : Input) (m : Module) → lang python d Whole tt i m j → AreFlat m.members
whole_flat zero i j m h = absurd h
whole_flat (suc d) i j m h = subst (λ (m : Module). AreFlat m.members) h.3.0 (list_flat d (no_members []) i h.1 h.0 refl h.2)

-- ---- modules

members_flat : (ts : Input) (m : Module) → IsModule ts m → AreFlat m.members
members_flat ts m h = whole_flat h.0 ts [] m h.1

pub module_flat : (ts : Input) (m : Module) → IsModule ts m → HasNoInnerClasses (m ∷ [])
module_flat ts m h = both (list_all (λ a. is_flat (out-Member a)) m.members) true (members_flat ts m h) refl

first_flat : (sources names : List (List ℕ)) (ms : List Named) → AreFirst sources names ms → HasNoInnerClasses (modules_of ms)
first_flat sources names [] h = refl
first_flat [] names (m ∷ ms) h = absurd h
first_flat (source ∷ sources) [] (m ∷ ms) h = absurd h
first_flat (source ∷ sources) (name ∷ names) (m ∷ ms) h =
    both (list_all (λ a. is_flat (out-Member a)) m.module.members) (list_all (λ n. list_all (λ a. is_flat (out-Member a)) n.members) (modules_of ms))
    (members_flat h.0.has.tokens m.module h.0.has.are) (first_flat sources names ms h.1)

pub texts_flat : (sources names : List (List ℕ)) (ms : List Named) → AreModules sources names ms → HasNoInnerClasses (modules_of ms)
texts_flat sources names ms h = first_flat sources names ms h.0
