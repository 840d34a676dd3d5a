-- The parts and sites of the code while it sees items one by one.
use Rattle.std.specs.Prelude.{ℕ, List}
use Rattle.rpy_nodes.specs.Names.{number}
use Rattle.names_bound.specs.declared.scopes.Scopes.{Scopes}
use Rattle.names_bound.specs.declared.stand.Stand.TheVariants as stand
use Rattle.names_found.specs.Finder.{act_seen, name_seen, attr_seen, bind_seen, local_in, add_part, add_sites, site_count}
use Rattle.names_found.specs.Part.{is_dict}
use Rattle.names_found.specs.declared.finder.Place.{Place}
use Rattle.names_found.specs.declared.finder.Seen.{Seen}
use Rattle.names_found.specs.declared.part.Part.{Part}
use Rattle.names_found.specs.declared.step.SiteAt.{SiteAt}
use Rattle.names_rules.specs.Order.{Item}
use Rattle.names_rules.specs.Numbering.{next}
use Rattle.names_rules.specs.Events.{Names, act_of}

pub record Sight : Type 0 where
  pub next : ℕ
  pub parts : List Part
  pub sites : List SiteAt

module _ (names : Names) (scopes : Scopes) (locals : List ℕ) (at : Place) where
  -- what a name, a bound name and a name after a dot stand for
  abbrev pub name_part : List ℕ → Part
  name_part name = (name_seen scopes locals at (number names name)).part

  abbrev pub bound_part : List ℕ → Part
  bound_part name = (bind_seen (local_in locals at (number names name))).part

  abbrev pub attr_part : Part → List ℕ → Part
  attr_part base name = (attr_seen scopes at base (number names name)).part

  abbrev pub seen_by : List Part → Item → Seen
  seen_by parts i = act_seen scopes locals at parts stand.Nothing (act_of names i)

  abbrev pub see_item : Item → Sight → Sight
  see_item i s = record {
    next = next i s.next;
    parts = add_part (act_of names i) (seen_by s.parts i).part s.parts;
    sites = add_sites (site_count (act_of names i) (seen_by s.parts i).called) (record { node = s.next; dict = is_dict (act_of names i) }) s.sites;
  }
