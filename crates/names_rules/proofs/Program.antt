-- The sites of a program follow the rules.
use Rattle.std.proofs.Common.{◌≡◌, ℕ, List, [], ◌∷◌, ◌++◌, Option, Some, None, append_assoc, append-nil, map, sym, ap, ◌∙◌}
use Rattle.std.specs.Prelude.{false}
use Rattle.rpy_nodes.specs.Listing as code
use Rattle.rpy_nodes.specs.declared.listing.Named.{Named}
use Rattle.names_bound.specs.declared.scopes.Scopes.{Scopes}
use Rattle.names_found.specs.Finder.{add_fault}
use Rattle.names_found.specs.Units.{parameter_fault, default_steps, parameters_onto, find_parameters, find_what, units_onto, find_units}
use Rattle.names_found.specs.declared.finder.Finder.{Finder}
use Rattle.names_found.specs.declared.unit.Default.{Default}
use Rattle.names_found.specs.declared.unit.Found.{Found}
use Rattle.names_rules.specs.Events.{Names}
use Rattle.names_rules.specs.Members.{Value, Formal, What, Import, From, Constant, Def, Class, Placed, members}
use Rattle.names_rules.specs.Listed.{parameter, default_events, says, listed, names_of}
use Rattle.names_rules.specs.ProgramSites.{default_sites, defaults_sites, locals_of, what_sites, member_sites, sites_of, outside, inside, body_sites}
use Rattle.names_rules.proofs.Found.{expr_found, block_found}
use Rattle.names_rules.proofs.Modules.{listing_is}

module _ (names : Names) (scopes : Scopes) where
  default_found : (file place : ℕ) (known : List ℕ) (d : Option Value) (w : Finder) → (default_steps scopes known (record { file = file; place = place; body = false }) (default_events names d) w).1.sites ≡ w.sites ++ default_sites names scopes (record { file = file; place = place; body = false }) d
  default_found file place known None w = sym (append-nil w.sites)
  default_found file place known (Some v) w = expr_found names scopes known (record { file = file; place = place; body = false }) v.of v.first w

  defaults_found : (ps : List Formal) (file place : ℕ) (done : List Default) (known : List ℕ) (w : Finder) → (parameters_onto done known scopes (record { file = file; place = place; body = false }) (map (parameter names) ps) w).1.sites ≡ w.sites ++ defaults_sites names scopes (record { file = file; place = place; body = false }) ps
  defaults_found [] file place done known w = sym (append-nil w.sites)
  defaults_found (p ∷ ps) file place done known w =
      defaults_found ps file place _ _ _
      ∙ ap (λ ss. ss ++ defaults_sites names scopes (record { file = file; place = place; body = false }) ps) (default_found file place known p.default (add_fault (parameter_fault known (parameter names p)) w))
      ∙ append_assoc w.sites (default_sites names scopes (record { file = file; place = place; body = false }) p.default) (defaults_sites names scopes (record { file = file; place = place; body = false }) ps)

  what_found : (p : Placed) (what : What) (w : Finder) → (find_what scopes (outside p) (says names what) w).1.sites ≡ w.sites ++ what_sites names scopes p what
  what_found p (Import of) w = sym (append-nil w.sites)
  what_found p (From path of) w = sym (append-nil w.sites)
  what_found p (Constant name v) w = expr_found names scopes [] (outside p) v.of v.first w
  what_found p (Def name params star body) w =
      block_found names scopes (locals_of names params body) (inside p) body.of body.first (find_parameters scopes (outside p) (map (parameter names) params) w).1
      ∙ ap (λ ss. ss ++ body_sites names scopes (inside p) (locals_of names params body) body) (defaults_found params p.file p.place [] [] w)
      ∙ append_assoc w.sites (defaults_sites names scopes (outside p) params) (body_sites names scopes (inside p) (locals_of names params body) body)
  what_found p (Class name base) w = sym (append-nil w.sites)

  units_found : (ps : List Placed) (done : List Found) (w : Finder) → (units_onto done scopes (map (listed names) ps) w).1.sites ≡ w.sites ++ sites_of names scopes ps
  units_found [] done w = sym (append-nil w.sites)
  units_found (p ∷ ps) done w = units_found ps _ _ ∙ ap (λ ss. ss ++ sites_of names scopes ps) (what_found p p.what w) ∙ append_assoc w.sites (member_sites names scopes p) (sites_of names scopes ps)

pub sites_are : (ms : List Named) (scopes : Scopes) (w : Finder) → (find_units scopes (code.listing ms).units w).1.sites ≡ w.sites ++ sites_of (names_of ms) scopes (members ms)
sites_are ms scopes w = ap (λ l. (find_units scopes l.units w).1.sites) (listing_is ms) ∙ units_found (names_of ms) scopes (members ms) [] w
