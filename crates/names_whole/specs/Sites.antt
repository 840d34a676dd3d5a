-- The sites of a program, with what the lists and dicts hold that are made before the run.
use Rattle.std.specs.Prelude.{ℕ, ◌+◌, if◌then◌else◌, ◌==◌, List, [], ◌∷◌, ◌++◌, Option, Some, None}
use Rattle.rpy_tree.specs.declared.program.Const.{Const}
use Rattle.rpy_tree.specs.declared.program.Site.{Site}
use Rattle.rpy_nodes.specs.declared.listing.Named.{Named}
use Rattle.names_found.specs.declared.step.SiteAt.{SiteAt}
use Rattle.names_rules.specs.Bindings.{Binding}
use Rattle.names_rules.specs.Members as member
use Rattle.names_rules.specs.Members.{What, Placed, members}
use Rattle.names_rules.specs.Program.{module_bindings, body_bindings, bases}
use Rattle.names_value.specs.Machine.{Pairs}
use Rattle.names_value.specs.declared.machine.Prebuilt.{Prebuilt}
use Rattle.names_constants.specs.Constants as constant
use Rattle.names_constants.specs.Faults as fault
use Rattle.names_constants.specs.Faults.{first_sites, constant_values}

-- where these are bound by modules and by the bodies of classes, these are the bases of the classes, and constants have these values
module _ (bs cs : List Binding) (bases : List (Option ℕ)) (values : List (Option Const)) where
  -- the displays of constants and defaults, whose parts all have values
  abbrev pub what_made : ℕ → ℕ → What → List SiteAt → List Prebuilt
  what_made file place (member.Constant name v) sites = (constant.valued bs cs bases values file place v sites).1.made
  what_made file place (member.Def name ps star b) sites = constant.formals_made bs cs bases values file place ps sites
  what_made file place other sites = []

  abbrev pub made_from : List SiteAt → List Placed → List Prebuilt
  made_from sites [] = []
  made_from sites (p ∷ ps) = what_made p.file p.place p.what sites ++ made_from (constant.after bs cs bases p sites) ps

-- what is made before the run, each at its site
abbrev pub made : List Named → List Prebuilt
made ms = made_from (module_bindings ms) (body_bindings ms) (bases ms) (constant_values ms) (first_sites ms) (members ms)

-- what a site holds
abbrev pub contents : List Prebuilt → ℕ → Option Pairs
contents [] site = None
contents (p ∷ ps) site = if p.site == site then Some p.pairs else contents ps site

abbrev pub sites_from : (ℕ → Option Pairs) → ℕ → List SiteAt → List Site
sites_from held site [] = []
sites_from held site (s ∷ ss) = record { node = s.node; dict = s.dict; prebuilt = held site } ∷ sites_from held (site + 1) ss

abbrev pub sites : List Named → List Site
sites ms = sites_from (contents (made ms)) 0 (fault.sites ms)
