-- The program of the code is that of the rules, in every part.
use Rattle.std.proofs.Common.{◌≡◌, ℕ, suc, append_assoc, List, [], ◌∷◌, ◌++◌, map, length, false, Option, Some, None, sym, ap, ◌∙◌, refl, subst}
use Rattle.std.specs.Prelude.{Result, Ok, Err}
use Rattle.std.specs.List.{AllByRecursion}
use Rattle.rpy_tree.specs.declared.program.ClassInfo.{ClassInfo}
use Rattle.rpy_tree.specs.declared.program.Const.{Const}
use Rattle.rpy_tree.specs.declared.program.Program.{Program}
use Rattle.rpy_tree.specs.declared.program.Use.{Use}
use Rattle.rpy_nodes.specs.Listing as listing
use Rattle.rpy_nodes.specs.declared.listing.Named.{Named}
use Rattle.rpy_nodes.specs.declared.unit.Listing.{Listing}
use Rattle.names_bound.specs.Declare as declare
use Rattle.names_bound.specs.Fault.{lesser}
use Rattle.names_bound.specs.declared.declare.ConstantAt.{ConstantAt}
use Rattle.names_bound.specs.declared.fault.Fault.{Fault}
use Rattle.names_found.specs.Finder.{start, add_fault}
use Rattle.names_found.specs.Units.{find_units}
use Rattle.names_found.specs.declared.finder.Finder.{Finder}
use Rattle.names_found.specs.declared.step.SiteAt.{SiteAt}
use Rattle.names_found.specs.declared.unit.Found.{Found}
use Rattle.names_value.specs.Constants as value
use Rattle.names_value.specs.Machine.{narrow}
use Rattle.names_value.specs.declared.constants.Checked.{Checked}
use Rattle.names_value.specs.declared.constants.Values.{Values}
use Rattle.names_rules.specs.Bindings.{none_before}
use Rattle.names_rules.specs.Entry.{EntryPoint, entry}
use Rattle.names_rules.specs.Events.{Names}
use Rattle.names_rules.specs.Laws.{modules}
use Rattle.names_rules.specs.Listed.{module_names, names_of, numbers, listed, whole}
use Rattle.names_rules.specs.Members.{members, modules_nodes}
use Rattle.names_rules.specs.Program.{module_bindings, body_bindings, bases}
use Rattle.names_rules.specs.Words.{words}
use Rattle.names_rules.proofs.Imports.{modules_stand}
use Rattle.names_rules.proofs.Known.{members_known, members_locals}
use Rattle.names_rules.proofs.Modules.{listing_is}
use Rattle.names_rules.proofs.Scopes.{scopes_alike, members_alike}
use Rattle.names_rules.proofs.Words.{texts, table_begins, fixed_is}
use Rattle.names_constants.specs.Constants as constant
use Rattle.names_constants.specs.Constants.{Constant}
use Rattle.names_constants.specs.Faults.{entry_site, first_sites, constant_values, sites as rule_sites}
use Rattle.names_constants.proofs.Checked.{unsettled_made}
use Rattle.names_constants.proofs.Rounds.{AreConstants}
use Rattle.names_constants.proofs.Stands.{makers_are}
use Rattle.names_constants.proofs.Whole as known
use Rattle.rpy_names.specs.Build as old
use Rattle.rpy_names.specs.Clauses.{clause_infos, no_heads as no_old}
use Rattle.rpy_names.specs.Place.{modules_of, names_of as names_in}
use Rattle.rpy_names.specs.Resolve as code
use Rattle.rpy_names.specs.Resolve.{program_by}
use Rattle.rpy_names.specs.Tables as tables
use Rattle.rpy_names.specs.Tables.{function_infos}
use Rattle.rpy_names.specs.Uses as old_uses
use Rattle.rpy_names.specs.declared.build.Bound.{Bound}
use Rattle.rpy_names.specs.declared.build.Entry.{Entry}
use Rattle.rpy_names.specs.declared.fault.NameFault.{NameFault}
use Rattle.rpy_names.specs.declared.fault.NameRefusal.{NameRefusal}
use Rattle.names_whole.specs.Classes.{classes, builtins_to, classes_from}
use Rattle.names_whole.specs.Clauses.{no_heads, members_heads, clauses}
use Rattle.names_whole.specs.Functions.{functions, entry_number}
use Rattle.names_whole.specs.Program.{program, namefault, unless, prog, IsAnswer}
use Rattle.names_whole.specs.Sites.{made_from, made, contents, sites_from, sites}
use Rattle.names_whole.specs.Uses as rule
use Rattle.names_whole.specs.Whole.{as_entry, IsWithout}
use Rattle.names_whole.proofs.Bodies.{members_follow}
use Rattle.names_whole.proofs.Bound.{scopes_are}
use Rattle.names_whole.proofs.Classes.{infos_are}
use Rattle.names_whole.proofs.Clauses.{units_seen}
use Rattle.names_whole.proofs.Declared.{Lists, lists, functions_at, constants_at, classes_at, units_lists}
use Rattle.names_whole.proofs.Entry.{entry_is}
use Rattle.names_whole.proofs.Fault.{fault_told, one_of_both}
use Rattle.names_whole.proofs.Functions.{infos_onto, units_infos}
use Rattle.names_whole.proofs.Held.{Made, Among, among_both, Rising, agrees, sites_are, Covers, covers_first, covers_last, covers_itself}
use Rattle.names_whole.proofs.Prebuilt.{all_rise, constants_among, functions_among, all_covered, ended_among, open_among, all_constants_covered}
use Rattle.names_whole.proofs.Uses.{units_put, nothings_are, roots_are}

abbrev or_else : Program → Option Program → Program
or_else d None = d
or_else d (Some p) = p

abbrev entry_of : Option Entry → ℕ
entry_of None = 0
entry_of (Some e) = narrow e.function

number_of : (e : Option EntryPoint) → entry_of (as_entry e) ≡ entry_number e
number_of None = refl
number_of (Some e) = refl

site_is : (e : Option EntryPoint) → old.entry_site (as_entry e) ≡ entry_site e
site_is None = refl
site_is (Some e) = refl

as_many : (names xs : Names) → length (numbers names xs) ≡ length xs
as_many names [] = refl
as_many names (x ∷ xs) = ap suc (as_many names xs)

named_many : (ms : List Named) → length (module_names ms) ≡ length ms
named_many [] = refl
named_many (m ∷ ms) = ap suc (named_many ms)

-- the program that the code builds
abbrev built : List Named → Listing → Bound → List Found → List SiteAt → Values → Checked → Option Entry → Program
built ms l b found places v c e = record {
  names = names_in ms;
  modules = modules_of ms;
  uses = old_uses.uses l.nodes v.constants (length l.modules) found c.roots;
  functions = function_infos l.units found b.functions;
  classes = old.program_classes l.names l.units b v.constants;
  sites = tables.program_sites places v.prebuilt c.prebuilt;
  clauses = clause_infos found;
  entry = entry_of e;
}

judged : (ms : List Named) (l : Listing) (b : Bound) (found : List Found) (places : List SiteAt) (v : Values) (c : Checked) (f : Option Fault) (e : Option Entry) (p : Program)
    → program_by ms (old.parts_if l b found places v c (old.judge f e)) ≡ Some p → p ≡ built ms l b found places v c e
judged ms l b found places v c (Some f) e p h = absurd cc
judged ms l b found places v c None None p h = absurd cc
judged ms l b found places v c None (Some e) p h = sym (ap (or_else p) h)

module _ (ms : List Named) where
  abbrev l : Listing
  l = listing.listing ms

  abbrev bound : Bound
  bound = old.bind l

  abbrev e : Option Entry
  e = old.entry_of l.units

  abbrev site : SiteAt
  site = old.entry_site e

  abbrev begin : Finder
  begin = add_fault bound.fault (start site)

  abbrev found_in : Listing → List Found
  found_in l = (find_units bound.scopes l.units begin).0

  functions_by : (begins : (rest : Names) × (names_of ms ≡ texts words ++ rest))
      → function_infos (whole ms).units (found_in (whole ms)) (declare.declared (whole ms).modules (whole ms).units).functions ≡ functions ms
  functions_by (rest, begins) = infos_onto (declare.declared (whole ms).modules (whole ms).units).functions [] (whole ms).units (found_in (whole ms))
      ∙ units_infos (names_of ms) bound.scopes (module_bindings ms) (body_bindings ms) (scopes_alike ms bound.scopes refl) (members_alike ms bound.scopes refl refl) (makers_are ms) rest (module_names ms) begins (modules_stand ms) (whole ms).units (found_in (whole ms))
      (members ms) [] [] (found_in (whole ms)) 0 declare.start [] none_before (site ∷ []) refl refl refl refl (known.found_are ms bound.scopes refl refl site bound.fault) refl refl

  functions_are : function_infos l.units (found_in l) bound.functions ≡ functions ms
  functions_are = ap (λ l. function_infos l.units (found_in l) (declare.declared l.modules l.units).functions) (listing_is ms) ∙ functions_by (table_begins ms)

  entry_same : e ≡ as_entry (entry (members ms))
  entry_same = entry_is ms

  sites_same : site ≡ entry_site (entry (members ms))
  sites_same = ap old.entry_site entry_same ∙ site_is (entry (members ms))

  abbrev valued : Values
  valued = value.constant_values l.names (found_in l) bound.constants

  abbrev checked : Checked
  checked = value.bad_constants l.names valued.constants (found_in l) bound.constants

  values_are : valued.constants ≡ constant_values ms
  values_are = known.values_follow ms bound.scopes refl refl site bound.fault
      ∙ (λ j. constant.values (module_bindings ms) (body_bindings ms) (scopes_are ms j).bases (constant.constants (module_bindings ms) (body_bindings ms) (scopes_are ms j).bases (sites_same j ∷ []) (members ms)))

  ends_are : checked.roots ≡ constant.roots (module_bindings ms) (body_bindings ms) (bases ms) (first_sites ms) (members ms)
  ends_are = known.roots_follow ms bound.scopes refl refl site bound.fault
      ∙ (λ j. constant.roots (module_bindings ms) (body_bindings ms) (scopes_are ms j).bases (sites_same j ∷ []) (members ms))

  put_are : (V : List (Option Const)) (n : ℕ) (us : List Use) → old_uses.put_units V n (found_in l) us ≡ rule.put_all (rule.members_uses (module_bindings ms) (body_bindings ms) (bases ms) V n (members ms)) us
  put_are V n us = ap (λ l. old_uses.put_units V n (found_in l) us) (listing_is ms)
      ∙ units_put V n (names_of ms) bound.scopes (module_bindings ms) (body_bindings ms) (scopes_alike ms bound.scopes refl) (members_alike ms bound.scopes refl refl) (fixed_is ms) (makers_are ms) (members ms) [] begin us (members_known ms) (members_locals ms) (refl, refl)
      ∙ (λ j. rule.put_all (rule.members_uses (module_bindings ms) (body_bindings ms) (scopes_are ms j).bases V n (members ms)) us)

  places_same : (find_units bound.scopes l.units begin).1.sites ≡ rule_sites ms
  places_same = known.sites_follow ms bound.scopes refl refl site bound.fault
      ∙ (λ j. constant.after_members (module_bindings ms) (body_bindings ms) (scopes_are ms j).bases (members ms) (sites_same j ∷ []))

  abbrev lists_in : Listing → Lists
  lists_in l = lists (declare.declared l.modules l.units)

  -- what the code declares, member by member
  lists_by : (begins : (rest : Names) × (names_of ms ≡ texts words ++ rest)) → lists_in (whole ms) ≡ record { functions = functions_at 0 none_before (members ms); constants = constants_at 0 none_before (members ms); classes = classes_at 0 none_before (members ms) }
  lists_by (rest, begins) = units_lists (names_of ms) rest (module_names ms) begins (modules_stand ms) (members ms) 0 declare.start none_before refl

  abbrev infos_in : Listing → Lists → List ClassInfo
  infos_in l d = tables.class_infos l.names l.units valued.constants d.constants d.functions bound.scopes.bases d.classes

  classes_same : old.program_classes l.names l.units bound valued.constants ≡ classes ms
  classes_same = ap (λ l. infos_in l (lists_in l)) (listing_is ms) ∙ ap (infos_in (whole ms)) (lists_by (table_begins ms))
      ∙ infos_are (names_of ms) (map (listed (names_of ms)) (members ms)) valued.constants (constants_at 0 none_before (members ms)) (functions_at 0 none_before (members ms)) bound.scopes.bases (members ms) none_before false refl
      (record { stands = (refl, refl); constants = ([], refl, refl); functions = ([], refl, refl) }) (members_known ms) (members_follow ms)
      ∙ (λ j. builtins_to (scopes_are ms j).bases 13 ++ classes_from (scopes_are ms j).bases (values_are j) none_before (members ms))

  clauses_same : clause_infos (found_in l) ≡ clauses ms
  clauses_same = ap (λ l. clause_infos (found_in l)) (listing_is ms)
      ∙ ap (λ h. h.clauses) (units_seen (names_of ms) bound.scopes (module_bindings ms) (body_bindings ms) (scopes_alike ms bound.scopes refl) (members_alike ms bound.scopes refl refl) (fixed_is ms) (makers_are ms) (members ms) [] begin no_old no_heads (members_known ms) (members_locals ms) (refl, refl) refl)
      ∙ (λ j. (members_heads (module_bindings ms) (body_bindings ms) (scopes_are ms j).bases (members ms) no_heads).clauses)

  modules_many : length l.modules ≡ length ms
  modules_many = ap (λ l. length l.modules) (listing_is ms) ∙ as_many (names_of ms) (module_names ms) ∙ named_many ms

  nodes_are : l.nodes ≡ modules_nodes ms
  nodes_are = ap (λ l. l.nodes) (listing_is ms)

  uses_are : old_uses.uses l.nodes valued.constants (length l.modules) (found_in l) checked.roots ≡ rule.uses ms
  uses_are = roots_are checked.roots (old_uses.put_units valued.constants (length l.modules) (found_in l) (old_uses.no_uses l.nodes))
      ∙ ap (rule.put_all (map rule.root_use checked.roots)) (put_are valued.constants (length l.modules) (old_uses.no_uses l.nodes))
      ∙ (λ j. rule.put_all (map rule.root_use (ends_are j)) (rule.put_all (rule.members_uses (module_bindings ms) (body_bindings ms) (bases ms) (values_are j) (modules_many j) (members ms)) ((nothings_are l.nodes ∙ ap rule.nothings nodes_are) j)))

  -- ---- what sites hold

  abbrev all_in : List (Option ℕ) → SiteAt → List Constant
  all_in bases site = constant.constants (module_bindings ms) (body_bindings ms) bases (site ∷ []) (members ms)

  abbrev final_in : List (Option ℕ) → SiteAt → List (Option Const)
  final_in bases site = constant.values (module_bindings ms) (body_bindings ms) bases (all_in bases site)

  abbrev made_in : List (Option ℕ) → SiteAt → Made
  made_in bases site = made_from (module_bindings ms) (body_bindings ms) bases (final_in bases site) (site ∷ []) (members ms)

  made_same : made_in bound.scopes.bases site ≡ made ms
  made_same = λ j. made_in (scopes_are ms j).bases (sites_same j)

  abbrev final : List (Option Const)
  final = final_in bound.scopes.bases site

  abbrev here : Made
  here = made_in bound.scopes.bases site

  abbrev ats : List ConstantAt
  ats = known.constants_at ms bound.scopes refl refl site bound.fault

  abbrev own : List Found
  own = known.found ms bound.scopes refl refl site bound.fault

  are : AreConstants (module_bindings ms) (body_bindings ms) bound.scopes.bases (names_of ms) own ats (all_in bound.scopes.bases site)
  are = known.constants_are ms bound.scopes refl refl site bound.fault

  every : AllByRecursion (λ c. Among (constant.of_constant (module_bindings ms) (body_bindings ms) bound.scopes.bases final c).1.made here) (all_in bound.scopes.bases site)
  every = constants_among (module_bindings ms) (body_bindings ms) bound.scopes.bases final (members ms) none_before (site ∷ []) []

  abbrev unsettled : Made
  unsettled = unsettled_made (module_bindings ms) (body_bindings ms) bound.scopes.bases final (all_in bound.scopes.bases site)

  abbrev defaults : Made
  defaults = constant.function_made (module_bindings ms) (body_bindings ms) bound.scopes.bases final (site ∷ []) (members ms)

  abbrev rounds : Made
  rounds = (value.constant_values (names_of ms) own ats).prebuilt

  rounds_same : valued.prebuilt ≡ rounds
  rounds_same = ap (λ l. (value.constant_values l.names (found_in l) (declare.declared l.modules l.units).constants).prebuilt) (listing_is ms)

  checked_same : checked.prebuilt ≡ unsettled ++ defaults
  checked_same = ap (λ w. w.prebuilt) (known.checked_follow ms bound.scopes refl refl site bound.fault)

  rises : Rising 1 (length (constant.after_members (module_bindings ms) (body_bindings ms) bound.scopes.bases (members ms) (site ∷ []))) here
  rises = all_rise (module_bindings ms) (body_bindings ms) bound.scopes.bases final (members ms) (site ∷ [])

  rounds_among : Among rounds here
  rounds_among = ended_among (module_bindings ms) (body_bindings ms) bound.scopes.bases (names_of ms) own ats (all_in bound.scopes.bases site) are here every

  others_among : Among (unsettled ++ defaults) here
  others_among = among_both unsettled defaults here
      (open_among (module_bindings ms) (body_bindings ms) bound.scopes.bases (names_of ms) own ats (all_in bound.scopes.bases site) are here every)
      (functions_among (module_bindings ms) (body_bindings ms) bound.scopes.bases final (members ms) (site ∷ []))

  covered : Covers (rounds ++ (unsettled ++ defaults)) here
  covered = all_covered (module_bindings ms) (body_bindings ms) bound.scopes.bases final (rounds ++ (unsettled ++ defaults)) (members ms) none_before (site ∷ [])
      (all_wider (all_in bound.scopes.bases site) (all_constants_covered (module_bindings ms) (body_bindings ms) bound.scopes.bases (names_of ms) own ats (all_in bound.scopes.bases site) are here every))
      (covers_last defaults rounds (unsettled ++ defaults) (covers_last defaults unsettled defaults (covers_itself defaults))) where
        all_wider : (ks : List Constant) → AllByRecursion (λ c. Covers (rounds ++ unsettled) (constant.of_constant (module_bindings ms) (body_bindings ms) bound.scopes.bases final c).1.made) ks
            → AllByRecursion (λ c. Covers (rounds ++ (unsettled ++ defaults)) (constant.of_constant (module_bindings ms) (body_bindings ms) bound.scopes.bases final c).1.made) ks
        all_wider [] h = tt
        all_wider (k ∷ ks) h = (subst (λ (xs : Made). Covers xs (constant.of_constant (module_bindings ms) (body_bindings ms) bound.scopes.bases final k).1.made) (append_assoc rounds unsettled defaults) (covers_first (constant.of_constant (module_bindings ms) (body_bindings ms) bound.scopes.bases final k).1.made (rounds ++ unsettled) defaults h.0), all_wider ks h.1)

  abbrev ss : List SiteAt
  ss = (find_units bound.scopes l.units begin).1.sites

  held_same : tables.program_sites ss valued.prebuilt checked.prebuilt ≡ sites ms
  held_same = (λ j. tables.program_sites ss (rounds_same j) (checked_same j))
      ∙ sites_are ss rounds (unsettled ++ defaults) here (agrees rounds here 1 _ rises rounds_among) (agrees (unsettled ++ defaults) here 1 _ rises others_among) covered
      ∙ (λ j. sites_from (contents (made_same j)) 0 (places_same j))

  -- ---- the program

  abbrev told : Option Fault
  told = lesser (find_units bound.scopes l.units begin).1.fault checked.fault

  built_is : built ms l bound (found_in l) ss valued checked e ≡ program ms
  built_is = λ j. record {
    names = module_names ms;
    modules = modules ms;
    uses = uses_are j;
    functions = functions_are j;
    classes = classes_same j;
    sites = held_same j;
    clauses = clauses_same j;
    entry = (ap entry_of entry_same ∙ number_of (entry (members ms))) j;
  }

  pub program_is : (p : Program) → code.prog ms ≡ Some p → p ≡ program ms
  program_is p h = judged ms l bound (found_in l) ss valued checked told e p h ∙ built_is

  -- ---- the answer

  fault_is : code.namefault ms ≡ namefault ms
  fault_is = fault_told ms

  by_both : (o : Option Program) (f : Option NameFault) → code.prog ms ≡ o → IsWithout o f → o ≡ unless f (program ms)
  by_both None None h w = absurd w
  by_both None (Some f) h w = refl
  by_both (Some p) None h w = ap Some (program_is p h)
  by_both (Some p) (Some f) h w = absurd w

  pub prog_is : code.prog ms ≡ prog ms
  prog_is = by_both (code.prog ms) (namefault ms) refl (subst (λ (f : Option NameFault). IsWithout (code.prog ms) f) fault_is (one_of_both ms))

  none_told : (f : Option NameFault) (p : Program) → IsWithout (Some p) f → f ≡ None
  none_told None p w = refl
  none_told (Some f) p w = absurd w

  pub answer_is : (r : Result Program NameRefusal) → code.IsResolved ms r → IsAnswer ms r
  answer_is (Ok p) h = (none_told (namefault ms) p (subst (λ (f : Option NameFault). IsWithout (Some p) f) fault_is (subst (λ (o : Option Program). IsWithout o (code.namefault ms)) h (one_of_both ms))), program_is p h)
  answer_is (Err refusal) h = (h.0, subst (λ (f : Option NameFault). code.IsTold f refusal.fault) fault_is h.1)
