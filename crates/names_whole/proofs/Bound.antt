-- What is bound, and the faults of it, are those of the rules.
use Rattle.std.proofs.Common.{◌≡◌, List, [], ◌++◌, sym, ap, ◌∙◌, refl}
use Rattle.rpy_nodes.specs.Listing as listing
use Rattle.rpy_nodes.specs.declared.listing.Named.{Named}
use Rattle.names_bound.specs.Base.{class_bases, base_faults}
use Rattle.names_bound.specs.Clash.{clashing, clash_faults}
use Rattle.names_bound.specs.Declare as declare
use Rattle.names_bound.specs.Fault.{lesser}
use Rattle.names_bound.specs.declared.scopes.Scopes.{Scopes}
use Rattle.names_rules.specs.Bases as rule
use Rattle.names_rules.specs.Clashes as clash
use Rattle.names_rules.specs.Least.{least}
use Rattle.names_rules.specs.Listed.{module_names}
use Rattle.names_rules.specs.Members.{members}
use Rattle.names_rules.specs.Missing.{missing}
use Rattle.names_rules.specs.Program.{module_bindings, body_bindings, named_bases, bases, bound_faults}
use Rattle.names_rules.specs.Twice.{twices}
use Rattle.names_rules.proofs.Bases.{named_are, rings_same, bad_bases_are}
use Rattle.names_rules.proofs.Bindings.{bindings_are}
use Rattle.names_rules.proofs.ClassBindings.{class_bindings_are}
use Rattle.names_rules.proofs.Clashes.{clashes_are}
use Rattle.names_rules.proofs.Least.{least_both}
use Rattle.names_rules.proofs.Missing.{missing_are}
use Rattle.names_rules.proofs.Twice.{twices_are}
use Rattle.rpy_names.specs.Build as old
use Rattle.names_whole.specs.Whole.{scopes}

module _ (ms : List Named) where
  abbrev d : Rattle.names_bound.specs.declared.declare.Declared.Declared
  d = declare.declared (listing.listing ms).modules (listing.listing ms).units

  -- the scopes of the code before and after bases are known
  abbrev first : Scopes
  first = old.with_bases d.bindings d.members []

  names_are : class_bases first d.classes (listing.listing ms).units ≡ named_bases ms
  names_are = named_are ms first refl refl

  bases_are : (old.bind (listing.listing ms)).scopes.bases ≡ bases ms
  bases_are = rings_same (class_bases first d.classes (listing.listing ms).units) ∙ ap rule.without_rings names_are

  pub scopes_are : (old.bind (listing.listing ms)).scopes ≡ scopes ms
  scopes_are = λ j. record { bindings = bindings_are ms j; members = class_bindings_are ms j; bases = bases_are j }

  abbrev found : Scopes
  found = (old.bind (listing.listing ms)).scopes

  bad_are : base_faults found (class_bases first d.classes (listing.listing ms).units) d.classes (listing.listing ms).units ≡ least (rule.bad_bases (module_bindings ms) (body_bindings ms) (bases ms) (named_bases ms) (rule.classes (members ms)))
  bad_are = bad_bases_are ms found (class_bases first d.classes (listing.listing ms).units) refl refl
      ∙ (λ j. least (rule.bad_bases (module_bindings ms) (body_bindings ms) (bases_are j) (names_are j) (rule.classes (members ms))))

  clash_are : clash_faults found.bases (clashing d.attributes d.methods found.bases) d.classes (listing.listing ms).units ≡ least (clash.clashing (clash.attributes (members ms)) (clash.methods (members ms)) (bases ms) (rule.classes (members ms)))
  clash_are = clashes_are ms found.bases ∙ ap (λ b. least (clash.clashing (clash.attributes (members ms)) (clash.methods (members ms)) b (rule.classes (members ms)))) bases_are

  pub fault_is : (old.bind (listing.listing ms)).fault ≡ least (bound_faults ms)
  fault_is =
      (λ j. lesser (lesser (lesser (twices_are ms j) (missing_are ms found refl j)) (bad_are j)) (clash_are j))
      ∙ ap (λ f. lesser (lesser f (least (rule.bad_bases (module_bindings ms) (body_bindings ms) (bases ms) (named_bases ms) (rule.classes (members ms))))) (least (clash.clashing (clash.attributes (members ms)) (clash.methods (members ms)) (bases ms) (rule.classes (members ms)))))
      (sym (least_both (twices (module_names ms) (members ms)) (missing (module_names ms) (module_bindings ms) (members ms))))
      ∙ ap (λ f. lesser f (least (clash.clashing (clash.attributes (members ms)) (clash.methods (members ms)) (bases ms) (rule.classes (members ms)))))
      (sym (least_both (twices (module_names ms) (members ms) ++ missing (module_names ms) (module_bindings ms) (members ms)) (rule.bad_bases (module_bindings ms) (body_bindings ms) (bases ms) (named_bases ms) (rule.classes (members ms)))))
      ∙ sym (least_both ((twices (module_names ms) (members ms) ++ missing (module_names ms) (module_bindings ms) (members ms)) ++ rule.bad_bases (module_bindings ms) (body_bindings ms) (bases ms) (named_bases ms) (rule.classes (members ms))) (clash.clashing (clash.attributes (members ms)) (clash.methods (members ms)) (bases ms) (rule.classes (members ms))))
