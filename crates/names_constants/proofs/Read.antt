-- What the code finds of the members, and what its machine then does, is what the rules say of them.
use Rattle.std.proofs.Common.{◌≡◌, ℕ, ◌+◌, suc, List, [], ◌∷◌, ◌++◌, append_assoc, append-nil, length, Bool, true, false, map, Option, Some, None, sym, ap, ◌∙◌, refl, subst}
use Rattle.std.specs.Prelude.{nat_eq, nat_le, nat_lt, ◌&&◌, position}
use Rattle.std.specs.List.{AllByRecursion}
use Rattle.std.specs.Str.{bytes_eq}
use Rattle.rpy_tree.specs.declared.program.Const.{Const}
use Rattle.rpy_nodes.specs.Names.{number}
use Rattle.names_bound.specs.Scopes as code
use Rattle.names_bound.specs.declared.scopes.Scopes.{Scopes}
use Rattle.names_bound.specs.declared.stand.Stand.{Stand}
use Rattle.names_found.specs.Finder as old
use Rattle.names_found.specs.Locals as old_locals
use Rattle.names_found.specs.Units as units
use Rattle.names_found.specs.declared.finder.Finder.{Finder}
use Rattle.names_found.specs.declared.finder.Place.{Place}
use Rattle.names_found.specs.declared.part.Part.{Part}
use Rattle.names_found.specs.declared.step.SiteAt.{SiteAt}
use Rattle.names_found.specs.declared.step.Step.{Step}
use Rattle.names_found.specs.declared.unit.Default.{Default}
use Rattle.names_found.specs.declared.unit.Found.{Found}
use Rattle.names_rules.specs.Bindings.{Binding}
use Rattle.names_rules.specs.Events.{Names, events}
use Rattle.names_rules.specs.Listed.{listed, says, parameter, default_events, body_events}
use Rattle.names_rules.specs.Locals.{Has, IsKnown, HasLocals, AreLocals, locals}
use Rattle.names_rules.specs.Members as member
use Rattle.names_rules.specs.Members.{Value, Body, Formal, What, Placed, params_said, value_said}
use Rattle.names_rules.specs.Numbering.{said}
use Rattle.names_rules.specs.Order.{expr, block}
use Rattle.names_rules.specs.ProgramSites.{locals_of, outside, inside}
use Rattle.names_rules.specs.Scopes as scope
use Rattle.names_rules.specs.Scopes.{FindsAlike}
use Rattle.names_rules.proofs.Locals.{all_first, all_rest}
use Rattle.names_rules.proofs.Used.{positions}
use Rattle.names_value.specs.Constants.{last_node}
use Rattle.names_value.specs.Machine as machine
use Rattle.names_value.specs.Slots.{last_slot}
use Rattle.names_value.specs.declared.machine.Prebuilt.{Prebuilt}
use Rattle.names_value.specs.declared.machine.Root.{Root}
use Rattle.names_constants.specs.Constants as rule
use Rattle.names_constants.specs.Stands.{is_maker, name_part, bound_part, attr_part}
use Rattle.names_constants.specs.Value.{Piece, Kept, from_node}
use Rattle.names_constants.proofs.Block as block_proof
use Rattle.names_constants.proofs.Ends.{expr_ends}
use Rattle.names_constants.proofs.Sight as sight
use Rattle.names_constants.proofs.Sight.{Sight}
use Rattle.names_constants.proofs.Slots.{slot}
use Rattle.names_constants.proofs.Stands.{name_is, bind_is, attr_is, text_is}
use Rattle.names_constants.proofs.Steps.{machine_by, machine_of, whole_items, word_items, last_item}

-- a finder between expressions
abbrev pub IsCut : Finder → Type 0
IsCut w = (w.parts ≡ []) × (w.steps ≡ [])

-- what an expression has and keeps, by the values of constants
abbrev pub Told : Type 0
Told = List (Option Const) → Piece × Kept

-- where such steps run, and where they end
pub record Reads (names : Names) (steps : List Step) (r : Told) : Type 0 where
  pub run : (V : List (Option Const)) (first : List Prebuilt) (roots : List Root) → machine.run names V steps (machine.start first roots) ≡ machine_by first roots (slot (r V).0 ∷ []) (r V).1.made (r V).1.arguments
  pub last : (V : List (Option Const)) → last_node steps ≡ (r V).0.node

abbrev pub ReadsBody : List Step → (List (Option Const) → Kept) → Type 0
ReadsBody steps r = (V : List (Option Const)) (first : List Prebuilt) (roots : List Root) → machine.run_words V steps (machine.start first roots) ≡ machine_by first roots [] (r V).made (r V).arguments

begun : (first : List Prebuilt) (roots : List Root) → machine.start first roots ≡ machine_by first roots [] [] []
begun first roots = λ j. record { slots = []; prebuilt = sym (append-nil first) j; roots = sym (append-nil roots) j; fault = None }

module _ (names : Names) (s : Scopes) (bs cs : List Binding)
    (globals : (file : ℕ) (name : List ℕ) → Has names name → FindsAlike names bs s file name)
    (dots : (of : Stand) (name : List ℕ) → Has names name → code.member s of (number names name) ≡ scope.member bs cs s.bases of name)
    (makers : (name : List ℕ) → (nat_le 37 (number names name) && nat_lt (number names name) 44) ≡ is_maker name) where
  abbrev valued : ℕ → ℕ → Value → List SiteAt → Told
  valued file place v sites = λ V. rule.valued bs cs s.bases V file place v sites

  none_outside : (ls : List ℕ) (file place : ℕ) (name : List ℕ) → Has names name → old.local_in ls (record { file = file; place = place; body = false }) (number names name) ≡ position (bytes_eq name) []
  none_outside ls file place name has = refl

  local_inside : (ls : List ℕ) (own : Names) (p : Placed) → ls ≡ map (number names) own → (name : List ℕ) → Has names name → old.local_in ls (inside p) (number names name) ≡ position (bytes_eq name) own
  local_inside ls own p e name has = ap (λ xs. position (nat_eq (number names name)) xs) e ∙ positions names own name has

  -- ---- expressions outside bodies

  module _ (ls : List ℕ) (file place : ℕ) where
    abbrev at : Place
    at = record { file = file; place = place; body = false }

    abbrev np : List ℕ → Part
    np = name_part bs cs s.bases file place []

    abbrev bp : List ℕ → Part
    bp = bound_part bs cs s.bases file place []

    abbrev dotted : Part → List ℕ → Part
    dotted = attr_part bs cs s.bases file place []

    abbrev begins : Value → Finder → Sight
    begins v w = record { parts = []; slots = []; kept = from_node v.first w.sites }

    abbrev ended : Value → Finder → Finder
    ended v w = old.find_events s ls at (events names v.first (expr v.of)) w

    run_whole : (v : Value) (w : Finder) → IsCut w → AllByRecursion (Has names) (said (expr v.of)) → (V : List (Option Const)) (first : List Prebuilt) (roots : List Root)
        → ((ended v w).sites ≡ (rule.valued bs cs s.bases V file place v w.sites).1.sites) × (machine.run names V (ended v w).steps (machine.start first roots) ≡ machine_by first roots (slot (rule.valued bs cs s.bases V file place v w.sites).0 ∷ []) (rule.valued bs cs s.bases V file place v w.sites).1.made (rule.valued bs cs s.bases V file place v w.sites).1.arguments)
    run_whole v w cut has V first roots =
        let ran : ((ended v w).sites ≡ (Rattle.names_rules.proofs.Runs.run Sight (sight.one names np bp dotted true V) (expr v.of) (begins v w)).kept.sites) × (machine.run names V (ended v w).steps (machine.start first roots) ≡ machine_of first roots (Rattle.names_rules.proofs.Runs.run Sight (sight.one names np bp dotted true V) (expr v.of) (begins v w)))
        = whole_items first roots names np bp dotted V s ls at
        (name_is names s bs cs globals dots makers ls at [] (none_outside ls file place))
        (bind_is names s bs cs globals dots makers ls at [] (none_outside ls file place))
        (attr_is names s bs cs globals dots makers ls at [] (none_outside ls file place))
        (text_is names) (expr v.of) w (machine.start first roots) (begins v w) has cut.0 refl
        (ap (λ ss. machine.run names V ss (machine.start first roots)) cut.1 ∙ begun first roots) in
        (ran.0 ∙ ap (λ t. t.kept.sites) (sight.expr_seen names np bp dotted true V v.of (begins v w)), ran.1 ∙ ap (machine_of first roots) (sight.expr_seen names np bp dotted true V v.of (begins v w)))

    ended_last : (v : Value) (w : Finder) → AllByRecursion (Has names) (said (expr v.of)) → (V : List (Option Const)) → last_node (ended v w).steps ≡ (rule.valued bs cs s.bases V file place v w.sites).0.node
    ended_last v w has V =
        last_item [] [] names np bp dotted V s ls at
        (name_is names s bs cs globals dots makers ls at [] (none_outside ls file place))
        (bind_is names s bs cs globals dots makers ls at [] (none_outside ls file place))
        (attr_is names s bs cs globals dots makers ls at [] (none_outside ls file place))
        (text_is names) (expr v.of) (expr_ends v.of) w (begins v w)
        ∙ ap (λ t. (last_slot t.slots).node) (sight.expr_seen names np bp dotted true V v.of (begins v w))

    pub expr_reads : (v : Value) (w : Finder) → IsCut w → AllByRecursion (Has names) (said (expr v.of)) → Reads names (ended v w).steps (valued file place v w.sites)
    expr_reads v w cut has = record { run = λ V first roots. (run_whole v w cut has V first roots).1; last = λ V. ended_last v w has V }

    pub expr_sites : (v : Value) (w : Finder) → IsCut w → AllByRecursion (Has names) (said (expr v.of)) → (V : List (Option Const)) → (ended v w).sites ≡ (rule.valued bs cs s.bases V file place v w.sites).1.sites
    expr_sites v w cut has V = (run_whole v w cut has V [] []).0

  -- ---- bodies

  module _ (ls : List ℕ) (own : Names) (p : Placed) (same : ls ≡ map (number names) own) where
    abbrev in_body : Place
    in_body = inside p

    abbrev bnp : List ℕ → Part
    bnp = name_part bs cs s.bases p.file p.place own

    abbrev bbp : List ℕ → Part
    bbp = bound_part bs cs s.bases p.file p.place own

    abbrev bdotted : Part → List ℕ → Part
    bdotted = attr_part bs cs s.bases p.file p.place own

    abbrev body_begins : Body → Finder → Sight
    body_begins b w = record { parts = []; slots = []; kept = from_node b.first w.sites }

    abbrev body_ended : Body → Finder → Finder
    body_ended b w = old.find_events s ls in_body (events names b.first (block b.of)) w

    run_body : (b : Body) (w : Finder) → IsCut w → AllByRecursion (Has names) (said (block b.of)) → (V : List (Option Const)) (first : List Prebuilt) (roots : List Root)
        → ((body_ended b w).sites ≡ (rule.body_kept bs cs s.bases V p.file p.place own b w.sites).sites) × (machine.run_words V (body_ended b w).steps (machine.start first roots) ≡ machine_by first roots [] (rule.body_kept bs cs s.bases V p.file p.place own b w.sites).made (rule.body_kept bs cs s.bases V p.file p.place own b w.sites).arguments)
    run_body b w cut has V first roots =
        let ran : ((body_ended b w).sites ≡ (Rattle.names_rules.proofs.Runs.run Sight (sight.one names bnp bbp bdotted false V) (block b.of) (body_begins b w)).kept.sites) × (machine.run_words V (body_ended b w).steps (machine.start first roots) ≡ machine_of first roots (Rattle.names_rules.proofs.Runs.run Sight (sight.one names bnp bbp bdotted false V) (block b.of) (body_begins b w)))
        = word_items first roots names bnp bbp bdotted V s ls in_body
        (name_is names s bs cs globals dots makers ls in_body own (local_inside ls own p same))
        (bind_is names s bs cs globals dots makers ls in_body own (local_inside ls own p same))
        (attr_is names s bs cs globals dots makers ls in_body own (local_inside ls own p same))
        (text_is names) (block b.of) w (machine.start first roots) (body_begins b w) has cut.0 refl
        (ap (λ ss. machine.run_words V ss (machine.start first roots)) cut.1 ∙ begun first roots) in
        (ran.0 ∙ ap (λ t. t.kept.sites) (block_proof.block_seen names bnp bbp bdotted false V b.of (body_begins b w)), ran.1 ∙ ap (machine_of first roots) (block_proof.block_seen names bnp bbp bdotted false V b.of (body_begins b w)))

    pub body_reads : (b : Body) (w : Finder) → IsCut w → AllByRecursion (Has names) (said (block b.of)) → ReadsBody (body_ended b w).steps (λ V. rule.body_kept bs cs s.bases V p.file p.place own b w.sites)
    body_reads b w cut has = λ V first roots. (run_body b w cut has V first roots).1

    pub body_sites : (b : Body) (w : Finder) → IsCut w → AllByRecursion (Has names) (said (block b.of)) → (V : List (Option Const)) → (body_ended b w).sites ≡ (rule.body_kept bs cs s.bases V p.file p.place own b w.sites).sites
    body_sites b w cut has V = (run_body b w cut has V [] []).0

  -- ---- defaults

  abbrev pub IsDefault : ℕ → ℕ → Default → Option Value → List SiteAt → Type 0
  IsDefault file place d None sites = d.steps ≡ None
  IsDefault file place d (Some v) sites = (steps : List Step) × (d.steps ≡ Some steps) × Reads names steps (valued file place v sites)

  abbrev pub AreDefaults : ℕ → ℕ → List Default → List Formal → List SiteAt → Type 0
  AreDefaults file place [] [] sites = Unit {0}
  AreDefaults file place [] (p ∷ ps) sites = ⊥
  AreDefaults file place (d ∷ ds) [] sites = ⊥
  AreDefaults file place (d ∷ ds) (p ∷ ps) sites = IsDefault file place d p.default sites × AreDefaults file place ds ps (rule.after_default bs cs s.bases file place p.default sites)

  pub default_found : (file place : ℕ) (ls : List ℕ) (node : ℕ) (o : Option Value) (w : Finder) → IsCut w → AllByRecursion (Has names) (value_said o)
      → IsDefault file place (record { node = node; steps = (units.default_steps s ls (record { file = file; place = place; body = false }) (default_events names o) w).0 }) o w.sites
      × ((units.default_steps s ls (record { file = file; place = place; body = false }) (default_events names o) w).1.sites ≡ rule.after_default bs cs s.bases file place o w.sites)
      × IsCut (units.default_steps s ls (record { file = file; place = place; body = false }) (default_events names o) w).1
  default_found file place ls node None w cut has = (refl, refl, cut)
  default_found file place ls node (Some v) w cut has = ((_, refl, expr_reads ls file place v w cut has), expr_sites ls file place v w cut has [], (refl, refl))

  -- what is found of parameters, after those
  pub record FoundDefaults (file place : ℕ) (done : List Default) (r : List Default × Finder) (ps : List Formal) (sites : List SiteAt) : Type 0 where
    pub more : List Default
    pub are : AreDefaults file place more ps sites
    pub after : r.0 ≡ done ++ more
    pub then : r.1.sites ≡ rule.after_formals bs cs s.bases file place ps sites
    pub cut : IsCut r.1

  one_default : (file place : ℕ) (done : List Default) (d : Default) (r : List Default × Finder) (p : Formal) (ps : List Formal) (sites next : List SiteAt)
      → IsDefault file place d p.default sites → next ≡ rule.after_default bs cs s.bases file place p.default sites → FoundDefaults file place (done ++ d ∷ []) r ps next → FoundDefaults file place done r (p ∷ ps) sites
  one_default file place done d r p ps sites next h e f = record {
    more = d ∷ f.more;
    are = (h, subst (λ (ss : List SiteAt). AreDefaults file place f.more ps ss) e f.are);
    after = f.after ∙ append_assoc done (d ∷ []) f.more;
    then = f.then ∙ ap (rule.after_formals bs cs s.bases file place ps) e;
    cut = f.cut;
  }

  pub defaults_found : (ps : List Formal) (file place : ℕ) (done : List Default) (known : List ℕ) (w : Finder) → IsCut w → AllByRecursion (Has names) (params_said ps)
      → FoundDefaults file place done (units.parameters_onto done known s (record { file = file; place = place; body = false }) (map (parameter names) ps) w) ps w.sites
  defaults_found [] file place done known w cut has = record { more = []; are = tt; after = sym (append-nil done); then = refl; cut = cut }
  defaults_found (p ∷ ps) file place done known w cut has =
      let w' : Finder = old.add_fault (units.parameter_fault known (parameter names p)) w in
      let one : IsDefault file place (record { node = p.node; steps = (units.default_steps s known (record { file = file; place = place; body = false }) (default_events names p.default) w').0 }) p.default w.sites
      × ((units.default_steps s known (record { file = file; place = place; body = false }) (default_events names p.default) w').1.sites ≡ rule.after_default bs cs s.bases file place p.default w.sites)
      × IsCut (units.default_steps s known (record { file = file; place = place; body = false }) (default_events names p.default) w').1
      = default_found file place known p.node p.default w' cut (all_first (Has names) (value_said p.default) (params_said ps) has.1) in
      one_default file place done _ _ p ps w.sites _ one.0 one.1
      (defaults_found ps file place (done ++ record { node = p.node; steps = (units.default_steps s known (record { file = file; place = place; body = false }) (default_events names p.default) w').0 } ∷ []) (old_locals.add known (number names p.name))
      (units.default_steps s known (record { file = file; place = place; body = false }) (default_events names p.default) w').1 one.2 (all_rest (Has names) (value_said p.default) (params_said ps) has.1))

  -- ---- members

  abbrev pub IsFound : Found → Placed → What → List SiteAt → Type 0
  IsFound f p (member.Constant name v) sites = (f.defaults ≡ []) × (f.body ≡ []) × Reads names f.value (valued p.file p.place v sites)
  IsFound f p (member.Def name ps star b) sites = AreDefaults p.file p.place f.defaults ps sites × ReadsBody f.body (λ V. rule.body_kept bs cs s.bases V p.file p.place (locals ps b.of) b (rule.after_formals bs cs s.bases p.file p.place ps sites)) × (f.locals ≡ length (locals ps b.of))
  IsFound f p other sites = (f.defaults ≡ []) × (f.body ≡ [])

  abbrev pub FoundWhat : Placed → What → Finder → Found × Finder → Type 0
  FoundWhat p what w r = IsFound r.0 p what w.sites × (r.1.sites ≡ rule.after_what bs cs s.bases p.file p.place what w.sites) × IsCut r.1

  as_many : (xs : Names) → length (map (number names) xs) ≡ length xs
  as_many [] = refl
  as_many (x ∷ xs) = ap suc (as_many xs)

  function_found : (p : Placed) (name : List ℕ) (ps : List Formal) (star : Bool) (b : Body) (w : Finder) → locals_of names ps b ≡ map (number names) (locals ps b.of) → AllByRecursion (Has names) (said (block b.of))
      → (d : List Default × Finder) → FoundDefaults p.file p.place [] d ps w.sites → FoundWhat p (member.Def name ps star b) w (units.body_of s (outside p) (locals_of names ps b) (body_events names b) d)
  function_found p name ps star b w same has d f =
      let reads : ReadsBody (old.find_events s (locals_of names ps b) (inside p) (events names b.first (block b.of)) d.1).steps (λ V. rule.body_kept bs cs s.bases V p.file p.place (locals ps b.of) b d.1.sites)
      = body_reads (locals_of names ps b) (locals ps b.of) p same b d.1 f.cut has in (
        (
          subst (λ (ds : List Default). AreDefaults p.file p.place ds ps w.sites) (sym f.after) f.are,
          subst (λ (ss : List SiteAt). ReadsBody (old.find_events s (locals_of names ps b) (inside p) (events names b.first (block b.of)) d.1).steps (λ V. rule.body_kept bs cs s.bases V p.file p.place (locals ps b.of) b ss)) f.then reads,
          ap length same ∙ as_many (locals ps b.of),
        ),
        body_sites (locals_of names ps b) (locals ps b.of) p same b d.1 f.cut has [] ∙ ap (λ ss. (rule.body_kept bs cs s.bases [] p.file p.place (locals ps b.of) b ss).sites) f.then,
        (refl, refl),
      )

  pub what_found : (what : What) (p : Placed) (w : Finder) → IsCut w → AllByRecursion (Has names) (member.what_said what) → AreLocals names what → FoundWhat p what w (units.find_what s (outside p) (says names what) w)
  what_found (member.Import of) p w cut has l = ((refl, refl), refl, cut)
  what_found (member.From path of) p w cut has l = ((refl, refl), refl, cut)
  what_found (member.Constant name v) p w cut has l =
      let here : AllByRecursion (Has names) (said (expr v.of)) = all_first (Has names) (said (expr v.of)) (name ∷ []) has in
      ((refl, refl, expr_reads [] p.file p.place v w cut here), expr_sites [] p.file p.place v w cut here [], (refl, refl))
  what_found (member.Def name ps star b) p w cut has l =
      function_found p name ps star b w l (all_rest (Has names) (params_said ps) (said (block b.of)) has.1) (units.find_parameters s (outside p) (map (parameter names) ps) w)
      (defaults_found ps p.file p.place [] [] w cut (all_first (Has names) (params_said ps) (said (block b.of)) has.1))
  what_found (member.Class name base) p w cut has l = ((refl, refl), refl, cut)

  abbrev pub AreFound : List Found → List Placed → List SiteAt → Type 0
  AreFound [] [] sites = Unit {0}
  AreFound [] (p ∷ ps) sites = ⊥
  AreFound (f ∷ fs) [] sites = ⊥
  AreFound (f ∷ fs) (p ∷ ps) sites = IsFound f p p.what sites × AreFound fs ps (rule.after bs cs s.bases p sites)

  -- what is found of members, after those
  pub record FoundUnits (done : List Found) (r : List Found × Finder) (ps : List Placed) (sites : List SiteAt) : Type 0 where
    pub more : List Found
    pub are : AreFound more ps sites
    pub after : r.0 ≡ done ++ more
    pub then : r.1.sites ≡ rule.after_members bs cs s.bases ps sites

  one_unit : (done : List Found) (f : Found) (r : List Found × Finder) (p : Placed) (ps : List Placed) (sites next : List SiteAt)
      → IsFound f p p.what sites → next ≡ rule.after bs cs s.bases p sites → FoundUnits (done ++ f ∷ []) r ps next → FoundUnits done r (p ∷ ps) sites
  one_unit done f r p ps sites next h e g = record {
    more = f ∷ g.more;
    are = (h, subst (λ (ss : List SiteAt). AreFound g.more ps ss) e g.are);
    after = g.after ∙ append_assoc done (f ∷ []) g.more;
    then = g.then ∙ ap (rule.after_members bs cs s.bases ps) e;
  }

  pub units_found : (ps : List Placed) (done : List Found) (w : Finder) → IsCut w → AllByRecursion (IsKnown names) ps → AllByRecursion (HasLocals names) ps → FoundUnits done (units.units_onto done s (map (listed names) ps) w) ps w.sites
  units_found [] done w cut has l = record { more = []; are = tt; after = sym (append-nil done); then = refl }
  units_found (p ∷ ps) done w cut has l =
      let one : FoundWhat p p.what w (units.find_what s (outside p) (says names p.what) w) = what_found p.what p w cut has.0 l.0 in
      one_unit done _ _ p ps w.sites _ one.0 one.1 (units_found ps (done ++ (units.find_what s (outside p) (says names p.what) w).0 ∷ []) (units.find_what s (outside p) (says names p.what) w).1 one.2 has.1 l.1)
