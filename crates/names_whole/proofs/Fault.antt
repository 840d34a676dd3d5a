-- The fault that is told is that of the rules.
use Rattle.std.proofs.Common.{◌≡◌, List, [], ◌∷◌, Option, Some, None, sym, ap, ◌∙◌, refl}
use Rattle.std.specs.Prelude.{Result, Ok, Err}
use Rattle.rpy_nodes.specs.Listing as listing
use Rattle.rpy_nodes.specs.declared.listing.Named.{Named}
use Rattle.rpy_nodes.specs.declared.unit.Listing.{Listing}
use Rattle.names_bound.specs.Fault.{lesser}
use Rattle.names_bound.specs.declared.fault.Fault.{Fault}
use Rattle.names_found.specs.Finder.{start, add_fault}
use Rattle.names_found.specs.Units.{find_units}
use Rattle.names_found.specs.declared.finder.Finder.{Finder}
use Rattle.names_found.specs.declared.step.SiteAt.{SiteAt}
use Rattle.names_found.specs.declared.unit.Found.{Found}
use Rattle.names_value.specs.Constants.{constant_values, bad_constants}
use Rattle.names_value.specs.declared.constants.Checked.{Checked}
use Rattle.names_value.specs.declared.constants.Values.{Values}
use Rattle.names_rules.specs.Entry.{EntryPoint, entry}
use Rattle.names_rules.specs.Least.{least}
use Rattle.names_rules.specs.Members.{members}
use Rattle.names_rules.specs.Program.{module_bindings, body_bindings, bases, bound_faults, name_faults}
use Rattle.names_rules.specs.Used.{used}
use Rattle.names_rules.proofs.Least.{least_both}
use Rattle.names_rules.proofs.Used.{used_are}
use Rattle.rpy_names.specs.Build as old
use Rattle.rpy_names.specs.Resolve.{namefault, fault_by, prog, program_by}
use Rattle.rpy_names.specs.declared.build.Bound.{Bound}
use Rattle.rpy_names.specs.declared.build.Entry.{Entry}
use Rattle.rpy_names.specs.declared.build.Parts.{Parts}
use Rattle.rpy_names.specs.declared.fault.NameFault.{NameFault}
use Rattle.names_constants.specs.Constants as constant
use Rattle.names_constants.specs.Faults.{entry_site, bad_constants as rule_bad, faults}
use Rattle.names_constants.proofs.Whole.{faults_follow}
use Rattle.names_whole.specs.Whole.{as_entry, tells, IsWithout}
use Rattle.names_whole.proofs.Bound.{scopes_are, fault_is}
use Rattle.names_whole.proofs.Entry.{entry_is}

judged : (f : Option Fault) (e : Option EntryPoint) (l : Listing) (b : Bound) (found : List Found) (sites : List SiteAt) (v : Values) (c : Checked) → fault_by (old.parts_if l b found sites v c (old.judge f (as_entry e))) ≡ tells f e
judged (Some f) e l b found sites v c = refl
judged None None l b found sites v c = refl
judged None (Some e) l b found sites v c = refl

-- whatever is found
told_by : (l : Listing) (b : Bound) (e : Option EntryPoint) (found : List Found) (w : Finder)
    → fault_by (old.build_found l b (as_entry e) (found, w)) ≡ tells (lesser w.fault (bad_constants l.names (constant_values l.names found b.constants).constants found b.constants).fault) e
told_by l b e found w = judged (lesser w.fault (bad_constants l.names (constant_values l.names found b.constants).constants found b.constants).fault) e l b found w.sites
    (constant_values l.names found b.constants) (bad_constants l.names (constant_values l.names found b.constants).constants found b.constants)

told_pair : (l : Listing) (b : Bound) (e : Option EntryPoint) (f : List Found × Finder)
    → fault_by (old.build_found l b (as_entry e) f) ≡ tells (lesser f.1.fault (bad_constants l.names (constant_values l.names f.0 b.constants).constants f.0 b.constants).fault) e
told_pair l b e f = told_by l b e f.0 f.1

told_bound : (l : Listing) (b : Bound) (e : Option EntryPoint) (f : Option Fault) (c : Option Fault)
    → (find_units b.scopes l.units (add_fault b.fault (start (old.entry_site (as_entry e))))).1.fault ≡ f
    → (bad_constants l.names (constant_values l.names (find_units b.scopes l.units (add_fault b.fault (start (old.entry_site (as_entry e))))).0 b.constants).constants (find_units b.scopes l.units (add_fault b.fault (start (old.entry_site (as_entry e))))).0 b.constants).fault ≡ c
    → fault_by (old.build_bound l (as_entry e) b) ≡ tells (lesser f c) e
told_bound l b e f c h k = told_pair l b e (find_units b.scopes l.units (add_fault b.fault (start (old.entry_site (as_entry e))))) ∙ (λ j. tells (lesser (h j) (k j)) e)

module _ (ms : List Named) where
  -- the faults of names, whatever the entry point is
  names_are : (e : Option Entry) → (find_units (old.bind (listing.listing ms)).scopes (listing.listing ms).units (add_fault (old.bind (listing.listing ms)).fault (start (old.entry_site e)))).1.fault ≡ least (name_faults ms)
  names_are e =
      used_are ms (old.bind (listing.listing ms)).scopes (add_fault (old.bind (listing.listing ms)).fault (start (old.entry_site e))) refl refl
      ∙ (λ j. lesser (fault_is ms j) (least (used (module_bindings ms) (body_bindings ms) (scopes_are ms j).bases (members ms))))
      ∙ sym (least_both (bound_faults ms) (used (module_bindings ms) (body_bindings ms) (bases ms) (members ms)))

  abbrev bound : Bound
  bound = old.bind (listing.listing ms)

  abbrev found_with : Option Entry → List Found
  found_with e = (find_units bound.scopes (listing.listing ms).units (add_fault bound.fault (start (old.entry_site e)))).0

  abbrev bad_constant : Option Entry → Option Fault
  bad_constant e = (bad_constants (listing.listing ms).names (constant_values (listing.listing ms).names (found_with e) bound.constants).constants (found_with e) bound.constants).fault

  site_is : (e : Option EntryPoint) → old.entry_site (as_entry e) ≡ entry_site e
  site_is None = refl
  site_is (Some e) = refl

  constants_are : bad_constant (as_entry (entry (members ms))) ≡ least (rule_bad ms)
  constants_are = faults_follow ms bound.scopes refl refl (old.entry_site (as_entry (entry (members ms)))) bound.fault
      ∙ (λ j. least (constant.bad_constants (module_bindings ms) (body_bindings ms) (scopes_are ms j).bases (site_is (entry (members ms)) j ∷ []) (members ms)))

  pub fault_told : namefault ms ≡ tells (least (faults ms)) (entry (members ms))
  fault_told = ap (λ e. fault_by (old.build_bound (listing.listing ms) e bound)) (entry_is ms)
      ∙ told_bound (listing.listing ms) bound (entry (members ms)) (least (name_faults ms)) (least (rule_bad ms)) (names_are (as_entry (entry (members ms)))) constants_are
      ∙ ap (λ f. tells f (entry (members ms))) (sym (least_both (name_faults ms) (rule_bad ms)))

without : (ms : List Named) (r : Result Parts NameFault) → IsWithout (program_by ms r) (fault_by r)
without ms (Ok p) = tt
without ms (Err f) = tt

pub one_of_both : (ms : List Named) → IsWithout (prog ms) (namefault ms)
one_of_both ms = without ms (old.build ms)
