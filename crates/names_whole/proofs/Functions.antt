-- The functions of the code are those of the members.
use Rattle.std.proofs.Common.{◌≡◌, ℕ, ◌+◌, List, [], ◌∷◌, ◌++◌, append_assoc, append-nil, map, length, Option, Some, None, sym, ap, ◌∙◌, refl}
use Rattle.std.specs.Prelude.{slice_get, nat_le, nat_lt, ◌&&◌}
use Rattle.std.specs.List.{AllByRecursion}
use Rattle.rpy_tree.specs.declared.program.FunInfo.{FunInfo}
use Rattle.rpy_nodes.specs.Names.{number}
use Rattle.rpy_nodes.specs.declared.unit.Unit.{Unit as Listed}
use Rattle.names_bound.specs.Base.{node_at}
use Rattle.names_bound.specs.Declare as old
use Rattle.names_bound.specs.Scopes as scopes
use Rattle.names_bound.specs.declared.declare.Declared.{Declared}
use Rattle.names_bound.specs.declared.declare.FunctionAt.{FunctionAt}
use Rattle.names_bound.specs.declared.scopes.Scopes.{Scopes}
use Rattle.names_bound.specs.declared.stand.Stand.{Stand}
use Rattle.names_found.specs.declared.step.SiteAt.{SiteAt}
use Rattle.names_found.specs.declared.unit.Found.{Found}
use Rattle.names_rules.specs.Bindings.{Binding, Counts, count}
use Rattle.names_rules.specs.Events.{Names}
use Rattle.names_rules.specs.Listed.{numbers, listed, says}
use Rattle.names_rules.specs.Locals.{Has}
use Rattle.names_rules.specs.Members as member
use Rattle.names_rules.specs.Members.{What, Placed}
use Rattle.names_rules.specs.Scopes as scope
use Rattle.names_rules.specs.Scopes.{FindsAlike}
use Rattle.names_rules.specs.Words.{words}
use Rattle.names_rules.proofs.Bindings as table
use Rattle.names_rules.proofs.Bindings.{longer}
use Rattle.names_rules.proofs.Stated.{unit_at}
use Rattle.names_rules.proofs.Words.{texts}
use Rattle.names_value.specs.Machine.{narrow}
use Rattle.names_constants.specs.Constants as constant
use Rattle.names_whole.specs.Functions.{as_number, function, functions_from}
use Rattle.names_constants.specs.Stands.{is_maker}
use Rattle.names_constants.proofs.Read.{IsFound, AreFound}
use Rattle.names_constants.proofs.Whole.{Lists, lists, lists_more, what_lists}
use Rattle.rpy_names.specs.Tables as tables

pub number_is : (o : Option ℕ) → tables.narrow_option o ≡ as_number o
number_is None = refl
number_is (Some n) = refl

pub infos_onto : (fs : List FunctionAt) (done : List FunInfo) (units : List Listed) (found : List Found) → tables.functions_onto done units found fs ≡ done ++ map (tables.function_info units found) fs
infos_onto [] done units found = sym (append-nil done)
infos_onto (f ∷ fs) done units found = infos_onto fs (done ++ tables.function_info units found f ∷ []) units found ∙ append_assoc done (tables.function_info units found f ∷ []) (map (tables.function_info units found) fs)

map_end : (f : FunctionAt → FunInfo) (xs : List FunctionAt) (x : FunctionAt) → map f (xs ++ x ∷ []) ≡ map f xs ++ f x ∷ []
map_end f [] x = refl
map_end f (y ∷ ys) x = ap (λ zs. f y ∷ zs) (map_end f ys x)

found_at : (before rest : List Found) (f : Found) → slice_get (before ++ f ∷ rest) (length before) ≡ Some f
found_at [] rest f = refl
found_at (x ∷ before) rest f = found_at before rest f

module _ (names : Names) (s : Scopes) (bs cs : List Binding)
    (globals : (file : ℕ) (name : List ℕ) → Has names name → FindsAlike names bs s file name)
    (dots : (of : Stand) (name : List ℕ) → Has names name → scopes.member s of (number names name) ≡ scope.member bs cs s.bases of name)
    (makers : (name : List ℕ) → (nat_le 37 (number names name) && nat_lt (number names name) 44) ≡ is_maker name)
    (rest modules : Names) (begins : names ≡ texts words ++ rest) (all : AllByRecursion (Has names) modules) (units : List Listed) (found : List Found) where
  abbrev info : FunctionAt → FunInfo
  info = tables.function_info units found

  still : (xs : List FunctionAt) (ys : List FunInfo) → map info xs ≡ ys → map info xs ≡ ys ++ []
  still xs ys e = e ∙ sym (append-nil ys)

  what_infos : (w : What) (unit : ℕ) (p : Placed) (o : Option ℕ) (l : Lists) (ys : List FunInfo) (f : Found) (sites : List SiteAt) → slice_get units unit ≡ Some (record { file = p.file; place = p.place; inside = p.inside; node = p.node; what = says names w }) → slice_get found unit ≡ Some f → IsFound names s bs cs globals dots makers f p w sites → map info l.0 ≡ ys
      → map info (lists_more unit o w l).0 ≡ ys ++ function o p w
  what_infos (member.Import of) unit p o l ys f sites u at h e = still l.0 ys e
  what_infos (member.From path of) unit p o l ys f sites u at h e = still l.0 ys e
  what_infos (member.Constant name v) unit p o l ys f sites u at h e = still l.0 ys e
  what_infos (member.Def name ps star b) unit p o l ys f sites u at h e = map_end info l.0 (record { unit = unit; class = o }) ∙ (λ j. e j ++ record {
    node = node_at (u j);
    file = narrow (tables.file_in (u j));
    class = number_is o j;
    locals = narrow ((ap tables.locals_in at ∙ h.2) j);
  } ∷ [])
  what_infos (member.Class name base) unit p o l ys f sites u at h e = still l.0 ys e

  pub units_infos : (ps : List Placed) (before : List Listed) (found_before fs : List Found) (unit : ℕ) (d : Declared) (ys : List FunInfo) (c : Counts) (sites : List SiteAt) → unit ≡ length before → unit ≡ length found_before → units ≡ before ++ map (listed names) ps → found ≡ found_before ++ fs
      → AreFound names s bs cs globals dots makers fs ps sites → table.Counted names rest modules begins all d c → map info d.functions ≡ ys
      → map info (old.declared_from (numbers names modules) unit (map (listed names) ps) d).functions ≡ ys ++ functions_from c ps
  units_infos [] before found_before fs unit d ys c sites n m u e h k are = still d.functions ys are
  units_infos (p ∷ ps) before found_before [] unit d ys c sites n m u e h k are = absurd h
  units_infos (p ∷ ps) before found_before (f ∷ fs) unit d ys c sites n m u e h k are =
      let given : List ℕ = numbers names modules in
      let class : Option ℕ = old.class_here p.inside (length d.classes) in
      let one : map info (old.add_unit given unit (listed names p) d).functions ≡ ys ++ function class p p.what
      = ap (λ l. map info l.0) (what_lists names p.what given unit p class d)
      ∙ what_infos p.what unit p class (lists d) ys f sites ((λ j. slice_get (u j) (n j)) ∙ unit_at before (map (listed names) ps) (listed names p)) ((λ j. slice_get (e j) (m j)) ∙ found_at found_before fs f) h.0 are in
      units_infos ps (before ++ listed names p ∷ []) (found_before ++ f ∷ []) fs (unit + 1) (old.add_unit given unit (listed names p) d) (ys ++ function (old.class_here p.inside c.classes) p p.what) (count p.what c) (constant.after bs cs s.bases p sites)
      (ap (λ i. i + 1) n ∙ sym (longer before (listed names p))) (ap (λ i. i + 1) m ∙ sym (longer found_before f))
      (u ∙ sym (append_assoc before (listed names p ∷ []) (map (listed names) ps))) (e ∙ sym (append_assoc found_before (f ∷ []) fs)) h.1
      (table.what_counted names rest modules begins all p.what unit p d c k)
      (one ∙ ap (λ x. ys ++ function (old.class_here p.inside x.classes) p p.what) k)
      ∙ append_assoc ys (function (old.class_here p.inside c.classes) p p.what) (functions_from (count p.what c) ps)
