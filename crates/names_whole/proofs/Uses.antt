-- The uses of nodes in the code are those of the rules.
use Rattle.std.proofs.Common.{◌≡◌, ℕ, zero, suc, List, [], ◌∷◌, ◌++◌, map, length, Bool, true, false, Option, Some, None, sym, ap, ◌∙◌, refl}
use Rattle.std.specs.Prelude.{nat_eq, nat_le, nat_lt, ◌&&◌, position}
use Rattle.std.specs.List.{AllByRecursion}
use Rattle.std.specs.Str.{bytes_eq}
use Rattle.rpy_tree.specs.declared.program.Const.{Const}
use Rattle.rpy_tree.specs.declared.program.Use.TheVariants as use_
use Rattle.rpy_nodes.specs.Names.{number}
use Rattle.names_bound.specs.Known as known
use Rattle.names_bound.specs.Scopes as scopes
use Rattle.names_bound.specs.declared.scopes.Scopes.{Scopes}
use Rattle.names_bound.specs.declared.stand.Stand.{Stand}
use Rattle.names_bound.specs.declared.stand.Stand.TheVariants as stand
use Rattle.names_found.specs.Finder as finder
use Rattle.names_found.specs.Locals as old_locals
use Rattle.names_found.specs.Part.{part_under}
use Rattle.names_found.specs.Units as units
use Rattle.names_found.specs.declared.finder.Finder.{Finder}
use Rattle.names_found.specs.declared.finder.Place.{Place}
use Rattle.names_found.specs.declared.step.Step.{Step}
use Rattle.names_found.specs.declared.unit.Default.{Default}
use Rattle.names_found.specs.declared.unit.Found.{Found}
use Rattle.names_rules.specs.Bindings.{Binding}
use Rattle.names_rules.specs.Events.{Names, act_of, events}
use Rattle.names_rules.specs.Listed.{listed, says, parameter, default_events}
use Rattle.names_rules.specs.Locals as own_locals
use Rattle.names_rules.specs.Locals.{Has, IsKnown, HasLocals, AreLocals}
use Rattle.names_rules.specs.Members as member
use Rattle.names_rules.specs.Members.{Value, Formal, What, Placed, params_said, value_said}
use Rattle.names_rules.specs.Numbering.{next, said, said_by}
use Rattle.names_rules.specs.Order.{Item, Items, Name, Attr, Bind, Call, expr, block}
use Rattle.names_rules.specs.ProgramSites.{locals_of, outside, inside}
use Rattle.names_rules.specs.Scopes as scope
use Rattle.names_rules.specs.Scopes.{FindsAlike}
use Rattle.names_rules.specs.Used.{local_or, name_stand, stand_after}
use Rattle.names_rules.specs.Words.{is_fixed}
use Rattle.names_rules.proofs.Fine.{State, Plain, Ends, Head, Needs, after, Well, expr_well, block_well}
use Rattle.names_rules.proofs.Locals.{all_first, all_rest}
use Rattle.names_rules.proofs.Used as used_proof
use Rattle.names_rules.proofs.Used.{positions}
use Rattle.names_value.specs.declared.machine.Root.{Root}
use Rattle.names_constants.specs.Stands.{is_maker}
use Rattle.names_whole.specs.Uses as rule
use Rattle.names_whole.specs.Uses.{used, put_all}
use Rattle.names_constants.proofs.Read.{IsCut, FoundWhat, IsDefault, default_found, what_found}
use Rattle.rpy_names.specs.Uses as old
use Rattle.rpy_names.specs.Uses.{Uses}

pub put_append : (xs ys : List rule.Used) (us : Uses) → put_all (xs ++ ys) us ≡ put_all ys (put_all xs us)
put_append [] ys us = refl
put_append (x ∷ xs) ys us = put_append xs ys (rule.put x us)

nothing_end : (n : ℕ) → rule.nothings n ++ use_.Nothing ∷ [] ≡ use_.Nothing ∷ rule.nothings n
nothing_end zero = refl
nothing_end (suc n) = ap (λ us. use_.Nothing ∷ us) (nothing_end n)

pub nothings_are : (n : ℕ) → old.no_uses n ≡ rule.nothings n
nothings_are zero = refl
nothings_are (suc n) = ap (λ us. us ++ use_.Nothing ∷ []) (nothings_are n) ∙ nothing_end n

pub roots_are : (rs : List Root) (us : Uses) → old.put_roots rs us ≡ put_all (map rule.root_use rs) us
roots_are [] us = refl
roots_are (r ∷ rs) us = roots_are rs (rule.put (rule.root_use r) us)

method_nothing : (b : Bool) → (finder.method_called b).part.stand ≡ stand.Nothing
method_nothing true = refl
method_nothing false = refl

call_nothing : (x : Stand) (makes : Bool) (count : ℕ) → (finder.called_by x makes count).part.stand ≡ stand.Nothing
call_nothing (stand.Builtin b) makes count = refl
call_nothing other makes count = method_nothing makes

bind_stand : (o : Option ℕ) → (finder.bind_seen o).part.stand ≡ local_or o stand.Nothing
bind_stand None = refl
bind_stand (Some local) = refl

module _ (values : List (Option Const)) (modules : ℕ) where
  value_is : (o : Option Const) → old.use_in o ≡ rule.value_use o
  value_is None = refl
  value_is (Some c) = refl

  stand_put : (n : ℕ) (s : Stand) (us : Uses) → old.put_stand values modules n s us ≡ put_all (used values modules n s) us
  stand_put n (stand.Constant number) us = ap (λ u. rule.put (n, u) us) (value_is (Rattle.names_value.specs.Machine.constant_at values number))
  stand_put n stand.Nothing us = refl
  stand_put n other us = refl

  put_end : (xs : List Step) (x : Step) (us : Uses) → old.put_steps values modules (xs ++ x ∷ []) us ≡ old.put_step values modules x (old.put_steps values modules xs us)
  put_end [] x us = refl
  put_end (y ∷ xs) x us = put_end xs x (old.put_step values modules y us)

  module _ (names : Names) (s : Scopes) (bs cs : List Binding)
      (globals : (file : ℕ) (name : List ℕ) → Has names name → FindsAlike names bs s file name)
      (dots : (of : Stand) (name : List ℕ) → Has names name → scopes.member s of (number names name) ≡ scope.member bs cs s.bases of name)
      (fixed : (name : List ℕ) → known.is_fixed (number names name) ≡ is_fixed name)
      (makers : (name : List ℕ) → (nat_le 37 (number names name) && nat_lt (number names name) 44) ≡ is_maker name) where
    module _ (ls : List ℕ) (at : Place) (own : Names) (local_is : (name : List ℕ) → Has names name → finder.local_in ls at (number names name) ≡ position (bytes_eq name) own) where
      abbrev found : Item → ℕ → Finder → Finder
      found i n w = finder.find_event s ls at (record { node = n; act = act_of names i }) w

      abbrev Keeps : State → Finder → Stand → Type 0
      Keeps = used_proof.Keeps names s bs cs globals dots fixed ls at own local_is

      -- the step of an item, after a finder
      abbrev step_at : Item → ℕ → Finder → Step
      step_at i n w = finder.step_of (record { node = n; act = act_of names i }) (finder.act_seen s ls at w.parts (finder.act_caught s ls at w.caught (act_of names i)) (act_of names i)) (length w.sites)

      item_put : (i : Item) (n : ℕ) (w : Finder) (st : State) (before : Stand) (us : Uses) → Needs i st → AllByRecursion (Has names) (said_by i) → Keeps st w before
          → old.put_step values modules (step_at i n w) us ≡ put_all (rule.uses_at bs cs s.bases values modules at.file own n before i) us
      item_put (Name name) n w st before us needs has k = ap (λ x. old.put_stand values modules n x us) (used_proof.name_is names s bs cs globals dots fixed ls at own local_is name has.0) ∙ stand_put n (name_stand bs cs s.bases at.file own name) us
      item_put (Attr name) n w Ends before us needs has k = ap (λ x. old.put_stand values modules n x us) (ap (λ x. scopes.member s x (number names name)) k ∙ dots before name has.0) ∙ stand_put n (scope.member bs cs s.bases before name) us
      item_put (Attr name) n w Plain before us needs has k = absurd needs
      item_put (Attr name) n w Head before us needs has k = absurd needs
      item_put (Bind name) n w st before us needs has k = ap (λ x. old.put_stand values modules n x us) (bind_stand (finder.local_in ls at (number names name)) ∙ ap (λ o. local_or o stand.Nothing) (local_is name has.0)) ∙ stand_put n (local_or (position (bytes_eq name) own) stand.Nothing) us
      item_put (Call count) n w st before us needs has k = ap (λ x. old.put_stand values modules n x us) (call_nothing (part_under w.parts count).stand (part_under w.parts count).makes count)
      item_put i n w st before us needs has k = refl

      items_put : (is : Items) (n : ℕ) (w : Finder) (st : State) (before : Stand) (us : Uses) → Well st is → AllByRecursion (Has names) (said is) → Keeps st w before
          → old.put_steps values modules (finder.find_events s ls at (events names n is) w).steps us ≡ put_all (rule.uses_from bs cs s.bases values modules at.file own before n is) (old.put_steps values modules w.steps us)
      items_put [] n w st before us well has k = refl
      items_put (i ∷ is) n w st before us well has k =
          let here : AllByRecursion (Has names) (said_by i) = all_first (Has names) (said_by i) (said is) has in
          let next_stand : Stand = stand_after bs cs s.bases at.file own before i in
          items_put is (next i n) (found i n w) (after i) next_stand us well.1 (all_rest (Has names) (said_by i) (said is) has) (used_proof.item_keeps names s bs cs globals dots fixed ls at own local_is i n w st before well.0 here k)
          ∙ ap (put_all (rule.uses_from bs cs s.bases values modules at.file own next_stand (next i n) is)) (put_end w.steps (step_at i n w) us ∙ item_put i n w st before (old.put_steps values modules w.steps us) well.0 here k)
          ∙ sym (put_append (rule.uses_at bs cs s.bases values modules at.file own n before i) (rule.uses_from bs cs s.bases values modules at.file own next_stand (next i n) is) (old.put_steps values modules w.steps us))

      -- from a finder between expressions
      cut_put : (is : Items) (n : ℕ) (w : Finder) (us : Uses) → Well Plain is → AllByRecursion (Has names) (said is) → w.steps ≡ []
          → old.put_steps values modules (finder.find_events s ls at (events names n is) w).steps us ≡ put_all (rule.uses_from bs cs s.bases values modules at.file own stand.Nothing n is) us
      cut_put is n w us well has cut = items_put is n w Plain stand.Nothing us well has tt ∙ ap (λ ss. put_all (rule.uses_from bs cs s.bases values modules at.file own stand.Nothing n is) (old.put_steps values modules ss us)) cut

    none_outside : (ls : List ℕ) (file place : ℕ) (name : List ℕ) → Has names name → finder.local_in ls (record { file = file; place = place; body = false }) (number names name) ≡ position (bytes_eq name) []
    none_outside ls file place name has = refl

    local_inside : (ls : List ℕ) (own : Names) (p : Placed) → ls ≡ map (number names) own → (name : List ℕ) → Has names name → finder.local_in ls (inside p) (number names name) ≡ position (bytes_eq name) own
    local_inside ls own p e name has = ap (λ xs. position (nat_eq (number names name)) xs) e ∙ positions names own name has

    value_put : (ls : List ℕ) (file place : ℕ) (v : Value) (w : Finder) (us : Uses) → AllByRecursion (Has names) (said (expr v.of)) → w.steps ≡ []
        → old.put_steps values modules (finder.find_events s ls (record { file = file; place = place; body = false }) (events names v.first (expr v.of)) w).steps us ≡ put_all (rule.value_uses bs cs s.bases values modules file v) us
    value_put ls file place v w us has cut = cut_put ls (record { file = file; place = place; body = false }) [] (none_outside ls file place) (expr v.of) v.first w us (expr_well v.of) has cut

    default_put : (ls : List ℕ) (file place : ℕ) (o : Option Value) (w : Finder) (us : Uses) → AllByRecursion (Has names) (value_said o) → w.steps ≡ []
        → old.put_option values modules (units.default_steps s ls (record { file = file; place = place; body = false }) (default_events names o) w).0 us ≡ put_all (rule.default_uses bs cs s.bases values modules file o) us
    default_put ls file place None w us has cut = refl
    default_put ls file place (Some v) w us has cut = value_put ls file place v w us has cut

    defaults_end : (xs : List Default) (x : Default) (us : Uses) → old.put_defaults values modules (xs ++ x ∷ []) us ≡ old.put_option values modules x.steps (old.put_defaults values modules xs us)
    defaults_end [] x us = refl
    defaults_end (y ∷ xs) x us = defaults_end xs x (old.put_option values modules y.steps us)

    -- and the finder after them stands between expressions
    defaults_put : (ps : List Formal) (file place : ℕ) (done : List Default) (ls : List ℕ) (w : Finder) (us : Uses) → AllByRecursion (Has names) (params_said ps) → IsCut w
        → (old.put_defaults values modules (units.parameters_onto done ls s (record { file = file; place = place; body = false }) (map (parameter names) ps) w).0 us ≡ put_all (rule.formals_uses bs cs s.bases values modules file ps) (old.put_defaults values modules done us))
        × IsCut (units.parameters_onto done ls s (record { file = file; place = place; body = false }) (map (parameter names) ps) w).1
    defaults_put [] file place done ls w us has cut = (refl, cut)
    defaults_put (p ∷ ps) file place done ls w us has cut =
        let at : Place = record { file = file; place = place; body = false } in
        let w' : Finder = finder.add_fault (units.parameter_fault ls (parameter names p)) w in
        let d : Default = record { node = p.node; steps = (units.default_steps s ls at (default_events names p.default) w').0 } in
        let here : AllByRecursion (Has names) (value_said p.default) = all_first (Has names) (value_said p.default) (params_said ps) has.1 in
        let one : IsDefault names s bs cs globals dots makers file place d p.default w.sites × ((units.default_steps s ls at (default_events names p.default) w').1.sites ≡ Rattle.names_constants.specs.Constants.after_default bs cs s.bases file place p.default w.sites) × IsCut (units.default_steps s ls at (default_events names p.default) w').1
        = default_found names s bs cs globals dots makers file place ls p.node p.default w' cut here in
        let more : (old.put_defaults values modules (units.parameters_onto (done ++ d ∷ []) (old_locals.add ls (number names p.name)) s at (map (parameter names) ps) (units.default_steps s ls at (default_events names p.default) w').1).0 us ≡ put_all (rule.formals_uses bs cs s.bases values modules file ps) (old.put_defaults values modules (done ++ d ∷ []) us))
        × IsCut (units.parameters_onto (done ++ d ∷ []) (old_locals.add ls (number names p.name)) s at (map (parameter names) ps) (units.default_steps s ls at (default_events names p.default) w').1).1
        = defaults_put ps file place (done ++ d ∷ []) (old_locals.add ls (number names p.name)) (units.default_steps s ls at (default_events names p.default) w').1 us (all_rest (Has names) (value_said p.default) (params_said ps) has.1) one.2 in (
          more.0
              ∙ ap (put_all (rule.formals_uses bs cs s.bases values modules file ps)) (defaults_end done d us ∙ default_put ls file place p.default w' (old.put_defaults values modules done us) here cut.1)
              ∙ sym (put_append (rule.default_uses bs cs s.bases values modules file p.default) (rule.formals_uses bs cs s.bases values modules file ps) (old.put_defaults values modules done us)),
          more.1,
        )

    what_put : (w : What) (p : Placed) (f : Finder) (us : Uses) → AllByRecursion (Has names) (member.what_said w) → AreLocals names w → IsCut f
        → old.put_unit values modules (units.find_what s (outside p) (says names w) f).0 us ≡ put_all (rule.what_uses bs cs s.bases values modules p.file w) us
    what_put (member.Import of) p f us has l cut = refl
    what_put (member.From path of) p f us has l cut = refl
    what_put (member.Constant name v) p f us has l cut = value_put [] p.file p.place v f us (all_first (Has names) (said (expr v.of)) (name ∷ []) has) cut.1
    what_put (member.Def name ps star b) p f us has l cut =
        let d : List Default × Finder = units.find_parameters s (outside p) (map (parameter names) ps) f in
        let defaults : (old.put_defaults values modules d.0 us ≡ put_all (rule.formals_uses bs cs s.bases values modules p.file ps) us) × IsCut d.1
        = defaults_put ps p.file p.place [] [] f us (all_first (Has names) (params_said ps) (said (block b.of)) has.1) cut in
        cut_put (locals_of names ps b) (inside p) (own_locals.locals ps b.of) (local_inside (locals_of names ps b) (own_locals.locals ps b.of) p l) (block b.of) b.first d.1 (old.put_defaults values modules d.0 us) (block_well b.of) (all_rest (Has names) (params_said ps) (said (block b.of)) has.1) defaults.1.1
        ∙ ap (put_all (rule.uses_from bs cs s.bases values modules p.file (own_locals.locals ps b.of) stand.Nothing b.first (block b.of))) defaults.0
        ∙ sym (put_append (rule.formals_uses bs cs s.bases values modules p.file ps) (rule.uses_from bs cs s.bases values modules p.file (own_locals.locals ps b.of) stand.Nothing b.first (block b.of)) us)
    what_put (member.Class name base) p f us has l cut = refl

    units_end : (xs : List Found) (x : Found) (us : Uses) → old.put_units values modules (xs ++ x ∷ []) us ≡ old.put_unit values modules x (old.put_units values modules xs us)
    units_end [] x us = refl
    units_end (y ∷ xs) x us = units_end xs x (old.put_unit values modules y us)

    pub units_put : (ps : List Placed) (done : List Found) (f : Finder) (us : Uses) → AllByRecursion (IsKnown names) ps → AllByRecursion (HasLocals names) ps → IsCut f
        → old.put_units values modules (units.units_onto done s (map (listed names) ps) f).0 us ≡ put_all (rule.members_uses bs cs s.bases values modules ps) (old.put_units values modules done us)
    units_put [] done f us has l cut = refl
    units_put (p ∷ ps) done f us has l cut =
        let one : FoundWhat names s bs cs globals dots makers p p.what f (units.find_what s (outside p) (says names p.what) f) = what_found names s bs cs globals dots makers p.what p f cut has.0 l.0 in
        units_put ps (done ++ (units.find_what s (outside p) (says names p.what) f).0 ∷ []) (units.find_what s (outside p) (says names p.what) f).1 us has.1 l.1 one.2
        ∙ ap (put_all (rule.members_uses bs cs s.bases values modules ps)) (units_end done (units.find_what s (outside p) (says names p.what) f).0 us ∙ what_put p.what p f (old.put_units values modules done us) has.0 l.0 cut)
        ∙ sym (put_append (rule.what_uses bs cs s.bases values modules p.file p.what) (rule.members_uses bs cs s.bases values modules ps) (old.put_units values modules done us))
