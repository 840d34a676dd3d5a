-- The state in which a run begins.
use Rattle.std.specs.Prelude.{◌≡◌, ℕ, Bool, true, false, List, [], ◌∷◌, length, map, slice_get, Option, Some, None, option_map}
use Rattle.rpy_tree.specs.declared.program.Const.{Const}
use Rattle.rpy_tree.specs.declared.program.Site.{Site}
use Rattle.rpy_tree.specs.Value.{Object, Listed, Mapped}
use Rattle.rpy_meaning.specs.Tree.{Program}
use Rattle.rpy_meaning.specs.Operations.{constant}
use Rattle.flow_graph.specs.declared.graph.Graphs.{Graphs}
use Rattle.flow_meaning.specs.Meaning.{run, start}
use Rattle.flow_runs.specs.Good.{HasWholeKeys}
use Rattle.ann_lattice.specs.Assign.{Assignment}
use Rattle.ann_rules.specs.Program.{Whole}
use Rattle.ann_rules.specs.Asks.{defaults}
use Rattle.sound_rows.specs.Seen.{is_there}
use Rattle.sound_runs.specs.Graphs.{IsSettled}
use Rattle.sound_runs.specs.States.{IsSound}
use Rattle.sound_runs.specs.Runs.{ToldAlong, IsNotWrong}

-- what the list or dict of a module holds from the start
abbrev pub contents : List (Option Object) → Bool → List (Const × Const) → Object
contents sites false pairs = Listed (map (λ (q : Const × Const). constant sites q.1) pairs)
contents sites true pairs = Mapped (map (λ (q : Const × Const). (constant sites q.0, constant sites q.1)) pairs)

abbrev pub AllThere : List (Option Object) → List (Const × Const) → Type 0
AllThere sites [] = Unit {0}
AllThere sites (pair ∷ pairs) = ((is_there sites pair.0 ≡ true) × (is_there sites pair.1 ≡ true)) × AllThere sites pairs

abbrev pub ContentsThere : List (Option Object) → Option (List (Const × Const)) → Type 0
ContentsThere sites None = Unit {0}
ContentsThere sites (Some pairs) = AllThere sites pairs

-- a site has an object where a list or dict of a module is made there
abbrev pub SiteAt : List (Option Object) → Option Site → Option (Option Object) → Type 0
SiteAt sites None None = Unit {0}
SiteAt sites (Some site) (Some o) = (o ≡ option_map (contents sites site.dict) site.prebuilt) × ContentsThere sites site.prebuilt
SiteAt sites None (Some o) = ⊥
SiteAt sites (Some site) None = ⊥

-- the sites are those of the program, the keys of the dicts of modules have no part that is `None`, and the entry point takes one argument
pub record Begins (p : Whole) (q : Program) : Type 0 where
  pub sites : (s : ℕ) → SiteAt q.sites (slice_get p.sites s) (slice_get q.sites s)
  pub keys : (s : ℕ) (object : Option Object) → slice_get q.sites s ≡ Some object → HasWholeKeys object
  pub takes : length (defaults p p.entry) ≡ 1

-- the first state of a run is sound
abbrev pub StartsAreSound : Type 0
StartsAreSound = (p : Whole) (a : Assignment) (q : Program) (gs : Graphs) → IsSettled p a q gs → Begins p q → (args : List (List ℕ)) (n : ℕ) → IsSound p a q (start q args n)

-- so a run of a program is never wrong
abbrev pub ProgramsAreNeverWrong : Type 0
ProgramsAreNeverWrong = (p : Whole) (a : Assignment) (q : Program) (gs : Graphs) → IsSettled p a q gs → Begins p q → (args : List (List ℕ)) (n k : ℕ) → ToldAlong q gs k (start q args n)
    → IsNotWrong (run q gs k (start q args n))
