-- The sites of the members of a program, in their order.
use Rattle.std.specs.Prelude.{ℕ, true, false, List, [], ◌∷◌, ◌++◌, map, Option, Some, None}
use Rattle.names_bound.specs.declared.scopes.Scopes.{Scopes}
use Rattle.names_found.specs.Locals as locals
use Rattle.names_found.specs.declared.finder.Place.{Place}
use Rattle.names_found.specs.declared.step.SiteAt.{SiteAt}
use Rattle.names_rules.specs.Events.{Names}
use Rattle.names_rules.specs.Members.{Value, Body, Formal, What, Constant, Def, Placed}
use Rattle.names_rules.specs.Listed.{parameter, body_events}
use Rattle.names_rules.specs.Seen.{name_part, bound_part, attr_part}
use Rattle.names_rules.specs.Sites.{expr, block}

abbrev pub outside : Placed → Place
outside p = record { file = p.file; place = p.place; body = false }

abbrev pub inside : Placed → Place
inside p = record { file = p.file; place = p.place; body = true }

-- the parameters, then what the body binds
abbrev pub locals_of : Names → List Formal → Body → List ℕ
locals_of names params body = locals.of (map (parameter names) params) (body_events names body)

module _ (names : Names) (scopes : Scopes) where
  -- a name outside bodies is none of a function's
  abbrev pub value_sites : Place → Value → List SiteAt
  value_sites at v = (expr (name_part names scopes [] at) (bound_part names scopes [] at) (attr_part names scopes [] at) v.of).sites v.first

  abbrev pub default_sites : Place → Option Value → List SiteAt
  default_sites at None = []
  default_sites at (Some v) = value_sites at v

  abbrev pub defaults_sites : Place → List Formal → List SiteAt
  defaults_sites at [] = []
  defaults_sites at (p ∷ ps) = default_sites at p.default ++ defaults_sites at ps

  abbrev pub body_sites : Place → List ℕ → Body → List SiteAt
  body_sites at own body = (block (name_part names scopes own at) (bound_part names scopes own at) (attr_part names scopes own at) body.of).sites body.first

  abbrev pub what_sites : Placed → What → List SiteAt
  what_sites p (Constant name value) = value_sites (outside p) value
  what_sites p (Def name params star body) = defaults_sites (outside p) params ++ body_sites (inside p) (locals_of names params body) body
  what_sites p other = []

  abbrev pub member_sites : Placed → List SiteAt
  member_sites p = what_sites p p.what

  abbrev pub sites_of : List Placed → List SiteAt
  sites_of [] = []
  sites_of (p ∷ ps) = member_sites p ++ sites_of ps
