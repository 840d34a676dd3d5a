-- The clauses of the code are those of the rules.
use Rattle.std.proofs.Common.{◌≡◌, ℕ, List, [], ◌∷◌, ◌++◌, append-nil, map, length, Option, Some, None, sym, ap, ◌∙◌, refl}
use Rattle.std.specs.Prelude.{nat_eq, nat_le, nat_lt, ◌&&◌, position}
use Rattle.std.specs.List.{AllByRecursion}
use Rattle.std.specs.Str.{bytes_eq}
use Rattle.rpy_nodes.specs.Names.{number}
use Rattle.names_bound.specs.Known as known
use Rattle.names_bound.specs.Scopes as scopes
use Rattle.names_bound.specs.declared.scopes.Scopes.{Scopes}
use Rattle.names_bound.specs.declared.stand.Stand.{Stand}
use Rattle.names_bound.specs.declared.stand.Stand.TheVariants as stand
use Rattle.names_found.specs.Finder as finder
use Rattle.names_found.specs.Units as units
use Rattle.names_found.specs.declared.finder.Finder.{Finder}
use Rattle.names_found.specs.declared.finder.Place.{Place}
use Rattle.names_found.specs.declared.step.Step.{Step}
use Rattle.names_found.specs.declared.unit.Default.{Default}
use Rattle.names_found.specs.declared.unit.Found.{Found}
use Rattle.names_rules.specs.Bindings.{Binding}
use Rattle.names_rules.specs.Events.{Names, act_of, events}
use Rattle.names_rules.specs.Listed.{listed, says, parameter}
use Rattle.names_rules.specs.Locals as own_locals
use Rattle.names_rules.specs.Locals.{Has, IsKnown, HasLocals, AreLocals}
use Rattle.names_rules.specs.Members as member
use Rattle.names_rules.specs.Members.{What, Placed, params_said}
use Rattle.names_rules.specs.Numbering.{next, said, said_by}
use Rattle.names_rules.specs.Order.{Item, Items, CaughtEnd, Catch, block}
use Rattle.names_rules.specs.ProgramSites.{locals_of, outside, inside}
use Rattle.names_rules.specs.Scopes as scope
use Rattle.names_rules.specs.Scopes.{FindsAlike}
use Rattle.names_rules.specs.Used.{stand_after}
use Rattle.names_rules.specs.Words.{is_fixed}
use Rattle.names_rules.proofs.Fine.{State, Plain, Ends, Head, Needs, after, Well, block_well}
use Rattle.names_rules.proofs.Locals.{all_first, all_rest}
use Rattle.names_rules.proofs.Used as used_proof
use Rattle.names_rules.proofs.Used.{positions}
use Rattle.names_constants.specs.Stands.{is_maker}
use Rattle.names_constants.proofs.Read.{IsCut, FoundWhat, FoundDefaults, defaults_found, what_found}
use Rattle.names_whole.specs.Clauses as rule
use Rattle.names_whole.specs.Clauses.{Heads}
use Rattle.names_whole.specs.Functions.{as_number}
use Rattle.rpy_names.specs.Clauses as old
use Rattle.rpy_names.specs.declared.clauses.Heads.{Heads as Old}

abbrev pub as_old : Heads → Old
as_old h = record { clauses = h.clauses; classes = h.classes; local = h.local }

class_is : (s : Stand) (h : Heads) → old.see_class s (as_old h) ≡ as_old (record { clauses = h.clauses; classes = h.classes ++ rule.class_of s; local = h.local })
class_is (stand.Class class) h = refl
class_is other h = λ j. record { clauses = h.clauses; classes = sym (append-nil h.classes) j; local = h.local }

local_is_number : (o : Option ℕ) → old.local_of (finder.bind_seen o).part.stand ≡ as_number o
local_is_number None = refl
local_is_number (Some local) = refl

see_end : (xs : List Step) (x : Step) (h : Old) → old.see_steps (xs ++ x ∷ []) h ≡ old.see_step x (old.see_steps xs h)
see_end [] x h = refl
see_end (y ∷ xs) x h = see_end xs x (old.see_step y h)

module _ (names : Names) (s : Scopes) (bs cs : List Binding)
    (globals : (file : ℕ) (name : List ℕ) → Has names name → FindsAlike names bs s file name)
    (dots : (of : Stand) (name : List ℕ) → Has names name → scopes.member s of (number names name) ≡ scope.member bs cs s.bases of name)
    (fixed : (name : List ℕ) → known.is_fixed (number names name) ≡ is_fixed name)
    (makers : (name : List ℕ) → (nat_le 37 (number names name) && nat_lt (number names name) 44) ≡ is_maker name) where
  module _ (ls : List ℕ) (at : Place) (own : Names) (local_is : (name : List ℕ) → Has names name → finder.local_in ls at (number names name) ≡ position (bytes_eq name) own) where
    abbrev found : Item → ℕ → Finder → Finder
    found i n w = finder.find_event s ls at (record { node = n; act = act_of names i }) w

    abbrev Keeps : State → Finder → Stand → Type 0
    Keeps = used_proof.Keeps names s bs cs globals dots fixed ls at own local_is

    abbrev step_at : Item → ℕ → Finder → Step
    step_at i n w = finder.step_of (record { node = n; act = act_of names i }) (finder.act_seen s ls at w.parts (finder.act_caught s ls at w.caught (act_of names i)) (act_of names i)) (length w.sites)

    item_seen : (i : Item) (n : ℕ) (w : Finder) (st : State) (before : Stand) (h : Heads) → Needs i st → AllByRecursion (Has names) (said_by i) → Keeps st w before
        → old.see_step (step_at i n w) (as_old h) ≡ as_old (rule.head_at bs cs s.bases at.file own n before i h)
    item_seen CaughtEnd n w Head before h needs has k = ap (λ x. old.see_class x (as_old h)) k ∙ class_is before h
    item_seen CaughtEnd n w Plain before h needs has k = absurd needs
    item_seen CaughtEnd n w Ends before h needs has k = absurd needs
    item_seen (Catch name) n w st before h needs has k = λ j. record { clauses = h.clauses; classes = h.classes; local = (local_is_number (finder.local_in ls at (number names name)) ∙ ap as_number (local_is name has.0)) j }
    item_seen i n w st before h needs has k = refl

    items_seen : (is : Items) (n : ℕ) (w : Finder) (st : State) (before : Stand) (start : Old) (h : Heads) → Well st is → AllByRecursion (Has names) (said is) → Keeps st w before → old.see_steps w.steps start ≡ as_old h
        → old.see_steps (finder.find_events s ls at (events names n is) w).steps start ≡ as_old (rule.heads_from bs cs s.bases at.file own before n is h)
    items_seen [] n w st before start h well has k e = e
    items_seen (i ∷ is) n w st before start h well has k e =
        let here : AllByRecursion (Has names) (said_by i) = all_first (Has names) (said_by i) (said is) has in
        items_seen is (next i n) (found i n w) (after i) (stand_after bs cs s.bases at.file own before i) start (rule.head_at bs cs s.bases at.file own n before i h) well.1 (all_rest (Has names) (said_by i) (said is) has) (used_proof.item_keeps names s bs cs globals dots fixed ls at own local_is i n w st before well.0 here k)
        (see_end w.steps (step_at i n w) start ∙ ap (old.see_step (step_at i n w)) e ∙ item_seen i n w st before h well.0 here k)

  local_inside : (ls : List ℕ) (own : Names) (p : Placed) → ls ≡ map (number names) own → (name : List ℕ) → Has names name → finder.local_in ls (inside p) (number names name) ≡ position (bytes_eq name) own
  local_inside ls own p e name has = ap (λ xs. position (nat_eq (number names name)) xs) e ∙ positions names own name has

  what_seen : (w : What) (p : Placed) (f : Finder) (h : Heads) → AllByRecursion (Has names) (member.what_said w) → AreLocals names w → IsCut f
      → old.see_steps (units.find_what s (outside p) (says names w) f).0.body (as_old h) ≡ as_old (rule.what_heads bs cs s.bases p.file w h)
  what_seen (member.Import of) p f h has l cut = refl
  what_seen (member.From path of) p f h has l cut = refl
  what_seen (member.Constant name v) p f h has l cut = refl
  what_seen (member.Def name ps star b) p f h has l cut =
      let d : List Default × Finder = units.find_parameters s (outside p) (map (parameter names) ps) f in
      let defaults : FoundDefaults names s bs cs globals dots makers p.file p.place [] d ps f.sites = defaults_found names s bs cs globals dots makers ps p.file p.place [] [] f cut (all_first (Has names) (params_said ps) (said (block b.of)) has.1) in
      items_seen (locals_of names ps b) (inside p) (own_locals.locals ps b.of) (local_inside (locals_of names ps b) (own_locals.locals ps b.of) p l) (block b.of) b.first d.1 Plain stand.Nothing (as_old h) h (block_well b.of) (all_rest (Has names) (params_said ps) (said (block b.of)) has.1) tt (ap (λ ss. old.see_steps ss (as_old h)) defaults.cut.1)
  what_seen (member.Class name base) p f h has l cut = refl

  units_end : (xs : List Found) (x : Found) (h : Old) → old.see_units (xs ++ x ∷ []) h ≡ old.see_steps x.body (old.see_units xs h)
  units_end [] x h = refl
  units_end (y ∷ xs) x h = units_end xs x (old.see_steps y.body h)

  pub units_seen : (ps : List Placed) (done : List Found) (f : Finder) (start : Old) (h : Heads) → AllByRecursion (IsKnown names) ps → AllByRecursion (HasLocals names) ps → IsCut f → old.see_units done start ≡ as_old h
      → old.see_units (units.units_onto done s (map (listed names) ps) f).0 start ≡ as_old (rule.members_heads bs cs s.bases ps h)
  units_seen [] done f start h has l cut e = e
  units_seen (p ∷ ps) done f start h has l cut e =
      let one : FoundWhat names s bs cs globals dots makers p p.what f (units.find_what s (outside p) (says names p.what) f) = what_found names s bs cs globals dots makers p.what p f cut has.0 l.0 in
      units_seen ps (done ++ (units.find_what s (outside p) (says names p.what) f).0 ∷ []) (units.find_what s (outside p) (says names p.what) f).1 start (rule.what_heads bs cs s.bases p.file p.what h) has.1 l.1 one.2
      (units_end done (units.find_what s (outside p) (says names p.what) f).0 start ∙ ap (old.see_steps (units.find_what s (outside p) (says names p.what) f).0.body) e ∙ what_seen p.what p f h has.0 l.0 cut)
