-- What the code finds that is constant, and what is not, is what the rules say.
use Rattle.std.proofs.Common.{◌≡◌, ℕ, ◌+◌, List, [], ◌∷◌, ◌++◌, append_assoc, append-nil, length, length-append, map, Option, Some, None, sym, ap, ◌∙◌, refl, arith}
use Rattle.std.specs.Prelude.{slice_get, nat_le, nat_lt, ◌&&◌}
use Rattle.rpy_tree.specs.declared.program.Const.{Const}
use Rattle.rpy_nodes.specs.Names.{number}
use Rattle.names_bound.specs.Fault.{lesser}
use Rattle.names_bound.specs.Scopes as scopes
use Rattle.names_bound.specs.declared.declare.ConstantAt.{ConstantAt}
use Rattle.names_bound.specs.declared.fault.Fault.{Fault}
use Rattle.names_bound.specs.declared.fault.FaultKind.TheVariants as fault
use Rattle.names_bound.specs.declared.scopes.Scopes.{Scopes}
use Rattle.names_bound.specs.declared.stand.Stand.{Stand}
use Rattle.names_found.specs.declared.step.SiteAt.{SiteAt}
use Rattle.names_found.specs.declared.step.Step.{Step}
use Rattle.names_found.specs.declared.unit.Default.{Default}
use Rattle.names_found.specs.declared.unit.Found.{Found}
use Rattle.names_rules.specs.Bindings.{Binding}
use Rattle.names_rules.specs.Events.{Names}
use Rattle.names_rules.specs.Least.{least, faults_if}
use Rattle.names_rules.specs.Locals.{Has, locals}
use Rattle.names_rules.specs.Members as member
use Rattle.names_rules.specs.Members.{Formal, What, Placed}
use Rattle.names_rules.specs.Scopes as scope
use Rattle.names_rules.specs.Scopes.{FindsAlike}
use Rattle.names_rules.proofs.Least.{least_both, least_if, lesser_assoc, lesser_nothing}
use Rattle.names_value.specs.Constants as code
use Rattle.names_value.specs.Machine.{root_of}
use Rattle.names_value.specs.declared.constants.Checked.{Checked}
use Rattle.names_value.specs.declared.machine.Prebuilt.{Prebuilt}
use Rattle.names_value.specs.declared.machine.Root.{Root}
use Rattle.names_constants.specs.Constants as rule
use Rattle.names_constants.specs.Constants.{Constant}
use Rattle.names_constants.specs.Stands.{is_maker}
use Rattle.names_constants.specs.Value.{Piece, Kept, argument_faults, argument_roots, one_root}
use Rattle.names_constants.proofs.Order.{Values}
use Rattle.names_constants.proofs.Read.{Reads, ReadsBody, IsDefault, AreDefaults, IsFound, AreFound}
use Rattle.names_constants.proofs.Rounds.{AreConstants}
use Rattle.names_constants.proofs.Slots.{slot, last_in}

-- so much is added to what is known
abbrev pub added : List Root → List Prebuilt → List Fault → Checked → Checked
added rs ms fs w = record { roots = w.roots ++ rs; prebuilt = w.prebuilt ++ ms; fault = lesser w.fault (least fs) }

added_nothing : (w : Checked) → w ≡ added [] [] [] w
added_nothing w = λ j. record { roots = sym (append-nil w.roots) j; prebuilt = sym (append-nil w.prebuilt) j; fault = lesser_nothing w.fault j }

added_more : (rs rs' : List Root) (ms ms' : List Prebuilt) (fs fs' : List Fault) (w : Checked) → added rs' ms' fs' (added rs ms fs w) ≡ added (rs ++ rs') (ms ++ ms') (fs ++ fs') w
added_more rs rs' ms ms' fs fs' w = λ j. record {
  roots = append_assoc w.roots rs rs' j;
  prebuilt = append_assoc w.prebuilt ms ms' j;
  fault = (lesser_assoc w.fault (least fs) (least fs') ∙ ap (lesser w.fault) (sym (least_both fs fs'))) j;
}

module _ (bs cs : List Binding) (bases : List (Option ℕ)) where
  -- ---- one expression

  by_value : (o : Option Const) (node : ℕ) (fs : List Fault) (ms : List Prebuilt) (w : Checked)
      → code.add_root node o (code.add_fault (least fs) (record { roots = w.roots; prebuilt = w.prebuilt ++ ms; fault = w.fault })) ≡ added (one_root (root_of node o)) ms (fs ++ faults_if (rule.is_none o) node fault.BadConstant) w
  by_value None node fs ms w = λ j. record {
    roots = sym (append-nil w.roots) j;
    prebuilt = w.prebuilt ++ ms;
    fault = (lesser_assoc w.fault (least fs) (Some (record { node = node; kind = fault.BadConstant })) ∙ ap (lesser w.fault) (sym (least_both fs (record { node = node; kind = fault.BadConstant } ∷ [])))) j;
  }
  by_value (Some c) node fs ms w = λ j. record { roots = w.roots ++ record { node = node; value = c } ∷ []; prebuilt = w.prebuilt ++ ms; fault = lesser w.fault (least (sym (append-nil fs) j)) }

  expression_added : (names : Names) (V : Values) (steps : List Step) (r : List (Option Const) → Piece × Kept) (w : Checked) → Reads names steps r
      → code.add_expression names V steps w ≡ added (rule.expression_roots bs cs bases (r V)) (r V).1.made (rule.expression_faults bs cs bases (r V)) w
  expression_added names V steps r w h =
      ap (λ m. code.add_ended (code.last_node steps) (code.value_at_end m) w) (h.run V w.prebuilt [])
      ∙ (λ j. code.add_root (h.last V j) (last_in [] (slot (r V).0) j).value (code.add_fault (least (argument_faults (r V).1.arguments)) (record { roots = w.roots; prebuilt = w.prebuilt ++ (r V).1.made; fault = w.fault })))
      ∙ by_value (r V).0.value (r V).0.node (argument_faults (r V).1.arguments) (r V).1.made w

  -- ---- constants

  abbrev pub settled_made : Option Const → Piece × Kept → List Prebuilt
  settled_made None r = r.1.made
  settled_made (Some c) r = []

  -- what is made by constants that have no value
  abbrev pub unsettled_made : Values → List Constant → List Prebuilt
  unsettled_made V [] = []
  unsettled_made V (c ∷ all) = settled_made (rule.value_of bs cs bases V c) (rule.of_constant bs cs bases V c) ++ unsettled_made V all

  class_fault_is : (o : Option ℕ) (c : Const) (node : ℕ) → code.class_fault o c node ≡ least (rule.class_faults bs cs bases o c node)
  class_fault_is None c node = refl
  class_fault_is (Some class) c node = least_if (code.is_function c) node fault.BadConstant

  get_end : (xs ys : Values) (x : Option Const) → slice_get (xs ++ x ∷ ys) (length xs) ≡ Some x
  get_end [] ys x = refl
  get_end (z ∷ xs) ys x = get_end xs ys x

  value_added : (names : Names) (V : Values) (a : ConstantAt) (c : Constant) (steps : List Step) (o : Option Const) (w : Checked) → a.class ≡ c.class → Reads names steps (λ W. rule.of_constant bs cs bases W c) → rule.value_of bs cs bases V c ≡ o
      → code.add_settled (Some o) names V a.class steps w ≡ added (rule.expression_roots bs cs bases (rule.of_constant bs cs bases V c)) (settled_made o (rule.of_constant bs cs bases V c)) (rule.settled_faults bs cs bases c.class o (rule.of_constant bs cs bases V c)) w
  value_added names V a c steps None w same h e = expression_added names V steps (λ W. rule.of_constant bs cs bases W c) w h
  value_added names V a c steps (Some d) w same h e = λ j. record {
    roots = w.roots ++ one_root (root_of (h.last V j) (sym e j));
    prebuilt = sym (append-nil w.prebuilt) j;
    fault = lesser w.fault (class_path j);
  } where
    class_path : code.class_fault a.class d (code.last_node steps) ≡ least (rule.class_faults bs cs bases c.class d (rule.of_constant bs cs bases V c).0.node)
    class_path = (λ j. code.class_fault (same j) d (h.last V j)) ∙ class_fault_is c.class d (rule.of_constant bs cs bases V c).0.node

  next_place : (n : ℕ) (done : Values) (x : Option Const) → n ≡ length done → n + 1 ≡ length (done ++ x ∷ [])
  next_place n done x e = omega (arith, e, length-append done (x ∷ []))

  constants_added : (names : Names) (found : List Found) (V : Values) (ats : List ConstantAt) (all : List Constant) (n : ℕ) (done : Values) (w : Checked) → AreConstants bs cs bases names found ats all → n ≡ length done → V ≡ done ++ map (rule.value_of bs cs bases V) all
      → code.add_constants n names V found ats w ≡ added (rule.constant_roots bs cs bases V all) (unsettled_made V all) (rule.constant_faults bs cs bases V all) w
  constants_added names found V [] [] n done w h at e = added_nothing w
  constants_added names found V [] (c ∷ all) n done w h at e = absurd h
  constants_added names found V (a ∷ ats) [] n done w h at e = absurd h
  constants_added names found V (a ∷ ats) (c ∷ all) n done w h at e =
      let x : Option Const = rule.value_of bs cs bases V c in
      ap (λ o. code.add_constants (n + 1) names V found ats (code.add_settled o names V a.class (code.steps_of found a.unit) w)) ((λ j. slice_get (e j) (at j)) ∙ get_end done (map (rule.value_of bs cs bases V) all) x)
      ∙ ap (code.add_constants (n + 1) names V found ats) (value_added names V a c (code.steps_of found a.unit) x w h.0.class h.0.reads refl)
      ∙ constants_added names found V ats all (n + 1) (done ++ x ∷ []) (added (rule.expression_roots bs cs bases (rule.of_constant bs cs bases V c)) (settled_made x (rule.of_constant bs cs bases V c)) (rule.settled_faults bs cs bases c.class x (rule.of_constant bs cs bases V c)) w) h.1 (next_place n done x at) (e ∙ sym (append_assoc done (x ∷ []) (map (rule.value_of bs cs bases V) all)))
      ∙ added_more (rule.expression_roots bs cs bases (rule.of_constant bs cs bases V c)) (rule.constant_roots bs cs bases V all) (settled_made x (rule.of_constant bs cs bases V c)) (unsettled_made V all) (rule.settled_faults bs cs bases c.class x (rule.of_constant bs cs bases V c)) (rule.constant_faults bs cs bases V all) w

module _ (names : Names) (s : Scopes) (bs cs : List Binding)
    (globals : (file : ℕ) (name : List ℕ) → Has names name → FindsAlike names bs s file name)
    (dots : (of : Stand) (name : List ℕ) → Has names name → scopes.member s of (number names name) ≡ scope.member bs cs s.bases of name)
    (makers : (name : List ℕ) → (nat_le 37 (number names name) && nat_lt (number names name) 44) ≡ is_maker name) where
  -- ---- defaults and bodies

  default_added : (V : Values) (file place : ℕ) (o : Option member.Value) (d : Default) (sites : List SiteAt) (w : Checked) → IsDefault names s bs cs globals dots makers file place d o sites
      → code.add_default names V d w ≡ added (rule.default_roots bs cs s.bases V file place o sites) (rule.default_made bs cs s.bases V file place o sites) (rule.default_faults bs cs s.bases V file place o sites) w
  default_added V file place None d sites w h = ap (λ o. code.add_steps names V o w) h ∙ added_nothing w
  default_added V file place (Some v) d sites w h = ap (λ o. code.add_steps names V o w) h.1 ∙ expression_added bs cs s.bases names V h.0 (λ W. rule.valued bs cs s.bases W file place v sites) w h.2

  defaults_added : (V : Values) (file place : ℕ) (ps : List Formal) (ds : List Default) (sites : List SiteAt) (w : Checked) → AreDefaults names s bs cs globals dots makers file place ds ps sites
      → code.add_defaults names V ds w ≡ added (rule.formals_roots bs cs s.bases V file place ps sites) (rule.formals_made bs cs s.bases V file place ps sites) (rule.formals_faults bs cs s.bases V file place ps sites) w
  defaults_added V file place [] [] sites w h = added_nothing w
  defaults_added V file place [] (d ∷ ds) sites w h = absurd h
  defaults_added V file place (p ∷ ps) [] sites w h = absurd h
  defaults_added V file place (p ∷ ps) (d ∷ ds) sites w h =
      ap (code.add_defaults names V ds) (default_added V file place p.default d sites w h.0)
      ∙ defaults_added V file place ps ds (rule.after_default bs cs s.bases file place p.default sites) _ h.1
      ∙ added_more (rule.default_roots bs cs s.bases V file place p.default sites) (rule.formals_roots bs cs s.bases V file place ps (rule.after_default bs cs s.bases file place p.default sites)) (rule.default_made bs cs s.bases V file place p.default sites) (rule.formals_made bs cs s.bases V file place ps (rule.after_default bs cs s.bases file place p.default sites)) (rule.default_faults bs cs s.bases V file place p.default sites) (rule.formals_faults bs cs s.bases V file place ps (rule.after_default bs cs s.bases file place p.default sites)) w

  body_added : (V : Values) (steps : List Step) (r : List (Option Const) → Kept) (w : Checked) → ReadsBody steps r → code.add_body V steps w ≡ added (argument_roots (r V).arguments) [] (argument_faults (r V).arguments) w
  body_added V steps r w h = ap (λ m. code.add_ran m w) (h V [] w.roots) ∙ (λ j. record { roots = w.roots ++ argument_roots (r V).arguments; prebuilt = sym (append-nil w.prebuilt) j; fault = lesser w.fault (least (argument_faults (r V).arguments)) })

  bare_added : (V : Values) (f : Found) (w : Checked) → f.defaults ≡ [] → f.body ≡ [] → code.add_unit names V f w ≡ added [] [] [] w
  bare_added V f w d b = (λ j. code.add_body V (b j) (code.add_defaults names V (d j) w)) ∙ body_added V [] (λ V. record { node = 0; sites = []; made = []; arguments = [] }) w (λ V first roots j. record { slots = []; prebuilt = sym (append-nil first) j; roots = sym (append-nil roots) j; fault = None })

  unit_added : (V : Values) (what : What) (p : Placed) (f : Found) (sites : List SiteAt) (w : Checked) → IsFound names s bs cs globals dots makers f p what sites
      → code.add_unit names V f w ≡ added (rule.what_roots bs cs s.bases V p.file p.place what sites) (rule.what_made bs cs s.bases V p.file p.place what sites) (rule.what_faults bs cs s.bases V p.file p.place what sites) w
  unit_added V (member.Import of) p f sites w h = bare_added V f w h.0 h.1
  unit_added V (member.From path of) p f sites w h = bare_added V f w h.0 h.1
  unit_added V (member.Constant name v) p f sites w h = bare_added V f w h.0 h.1
  unit_added V (member.Class name base) p f sites w h = bare_added V f w h.0 h.1
  unit_added V (member.Def name ps star b) p f sites w h =
      let kept : List (Option Const) → Kept = λ W. rule.body_kept bs cs s.bases W p.file p.place (locals ps b.of) b (rule.after_formals bs cs s.bases p.file p.place ps sites) in
      ap (code.add_body V f.body) (defaults_added V p.file p.place ps f.defaults sites w h.0)
      ∙ body_added V f.body kept _ h.1
      ∙ added_more (rule.formals_roots bs cs s.bases V p.file p.place ps sites) (argument_roots (kept V).arguments) (rule.formals_made bs cs s.bases V p.file p.place ps sites) [] (rule.formals_faults bs cs s.bases V p.file p.place ps sites) (argument_faults (kept V).arguments) w
      ∙ ap (λ ms. added (rule.what_roots bs cs s.bases V p.file p.place (member.Def name ps star b) sites) ms (rule.what_faults bs cs s.bases V p.file p.place (member.Def name ps star b) sites) w) (append-nil (rule.formals_made bs cs s.bases V p.file p.place ps sites))

  pub units_added : (V : Values) (ps : List Placed) (fs : List Found) (sites : List SiteAt) (w : Checked) → AreFound names s bs cs globals dots makers fs ps sites
      → code.add_units names V fs w ≡ added (rule.function_roots bs cs s.bases V sites ps) (rule.function_made bs cs s.bases V sites ps) (rule.function_faults bs cs s.bases V sites ps) w
  units_added V [] [] sites w h = added_nothing w
  units_added V [] (f ∷ fs) sites w h = absurd h
  units_added V (p ∷ ps) [] sites w h = absurd h
  units_added V (p ∷ ps) (f ∷ fs) sites w h =
      ap (code.add_units names V fs) (unit_added V p.what p f sites w h.0)
      ∙ units_added V ps fs (rule.after bs cs s.bases p sites) _ h.1
      ∙ added_more (rule.what_roots bs cs s.bases V p.file p.place p.what sites) (rule.function_roots bs cs s.bases V (rule.after bs cs s.bases p sites) ps) (rule.what_made bs cs s.bases V p.file p.place p.what sites) (rule.function_made bs cs s.bases V (rule.after bs cs s.bases p sites) ps) (rule.what_faults bs cs s.bases V p.file p.place p.what sites) (rule.function_faults bs cs s.bases V (rule.after bs cs s.bases p sites) ps) w

  -- where these are the values of all constants
  pub all_added : (V : Values) (found : List Found) (ats : List ConstantAt) (all : List Constant) (ps : List Placed) (sites : List SiteAt) → AreConstants bs cs s.bases names found ats all → AreFound names s bs cs globals dots makers found ps sites → V ≡ map (rule.value_of bs cs s.bases V) all
      → code.bad_constants names V found ats ≡ added (rule.constant_roots bs cs s.bases V all ++ rule.function_roots bs cs s.bases V sites ps) (unsettled_made bs cs s.bases V all ++ rule.function_made bs cs s.bases V sites ps) (rule.constant_faults bs cs s.bases V all ++ rule.function_faults bs cs s.bases V sites ps) (record { roots = []; prebuilt = []; fault = None })
  all_added V found ats all ps sites h k e =
      ap (code.add_units names V found) (constants_added bs cs s.bases names found V ats all 0 [] (record { roots = []; prebuilt = []; fault = None }) h refl e)
      ∙ units_added V ps found sites _ k
      ∙ added_more (rule.constant_roots bs cs s.bases V all) (rule.function_roots bs cs s.bases V sites ps) (unsettled_made bs cs s.bases V all) (rule.function_made bs cs s.bases V sites ps) (rule.constant_faults bs cs s.bases V all) (rule.function_faults bs cs s.bases V sites ps) (record { roots = []; prebuilt = []; fault = None })
