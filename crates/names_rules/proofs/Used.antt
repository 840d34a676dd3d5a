-- The faults of names that the code finds are those of the rules.
use Rattle.std.proofs.Common.{◌≡◌, ℕ, ◌+◌, zero, suc, List, [], ◌∷◌, ◌++◌, Bool, true, false, map, length, Option, Some, None, sym, ap, ◌∙◌, refl, cond, subst}
use Rattle.std.specs.Prelude.{not, nat_eq, ◌||◌, position}
use Rattle.std.specs.List.{AllByRecursion, list_any, position_from}
use Rattle.std.specs.Str.{bytes_eq}
use Rattle.std.proofs.lemmas.Iterator.Adapters.{position_from-zero}
use Rattle.rpy_nodes.specs.Listing as listing
use Rattle.rpy_nodes.specs.Names.{number, with_name}
use Rattle.rpy_nodes.specs.declared.event.Event.{Event}
use Rattle.rpy_nodes.specs.declared.listing.Named.{Named}
use Rattle.names_bound.specs.Declare as declare
use Rattle.names_bound.specs.Fault.{lesser, fault_if}
use Rattle.names_bound.specs.Known as known
use Rattle.names_bound.specs.Scopes as code
use Rattle.names_bound.specs.declared.fault.Fault.{Fault}
use Rattle.names_bound.specs.declared.fault.FaultKind.TheVariants as fault
use Rattle.names_bound.specs.declared.scopes.Scopes.{Scopes}
use Rattle.names_bound.specs.declared.stand.Stand.{Stand}
use Rattle.names_bound.specs.declared.stand.Stand.TheVariants as stand
use Rattle.names_found.specs.Finder as old
use Rattle.names_found.specs.Locals as locals
use Rattle.names_found.specs.Part.{part_under, without, taken, taken_besides, is_part}
use Rattle.names_found.specs.Units as units
use Rattle.names_found.specs.declared.finder.Finder.{Finder}
use Rattle.names_found.specs.declared.finder.Place.{Place}
use Rattle.names_found.specs.declared.part.Part.{Part}
use Rattle.names_found.specs.declared.unit.Default.{Default}
use Rattle.names_found.specs.declared.unit.Found.{Found}
use Rattle.names_rules.specs.Bases.{after_dot}
use Rattle.names_rules.specs.Bindings.{Binding, bindings, class_bindings}
use Rattle.names_rules.specs.Clashes.{line_from}
use Rattle.names_rules.specs.Events.{Names, act_of, events}
use Rattle.names_rules.specs.Least.{least, faults_if}
use Rattle.names_rules.specs.Listed.{module_names, names_of, listed, says, parameter, default_events, body_events}
use Rattle.names_rules.specs.Locals.{Has, IsKnown, HasLocals, AreLocals}
use Rattle.names_rules.specs.Locals as own_locals
use Rattle.names_rules.specs.Members as member
use Rattle.names_rules.specs.Members.{Value, Body, Formal, What, Placed, members, params_said, value_said}
use Rattle.names_rules.specs.Missing.{is_unknown}
use Rattle.names_rules.specs.Numbering.{next, said, said_by}
use Rattle.names_rules.specs.Order.{Item, Items, Int, Str, Name, Attr, Unary, Binary, Call, Tuple, List_of, Dict, Slice, Comp, Other, Bind, BindAttr, Done, For, Multiply, Clause_of, Elif, Caught, CaughtOf, CaughtEnd, Catch, expr, block}
use Rattle.names_rules.specs.ProgramSites.{locals_of, outside, inside}
use Rattle.names_rules.specs.Scopes as scope
use Rattle.names_rules.specs.Scopes.{FindsAlike}
use Rattle.names_rules.specs.Used as rule
use Rattle.names_rules.specs.Words.{is_fixed}
use Rattle.names_rules.proofs.Bases.{dot_same}
use Rattle.names_rules.proofs.Fine.{State, Plain, Ends, Head, IsEnds, IsHead, Needs, after, Well, expr_well, block_well}
use Rattle.names_rules.proofs.Injective.{compared}
use Rattle.names_rules.proofs.Known.{members_known, members_locals}
use Rattle.names_rules.proofs.Least.{least_if, lesser_more, lesser_nothing}
use Rattle.names_rules.proofs.Locals.{all_first, all_rest, numbered, added}
use Rattle.names_rules.proofs.Modules.{listing_is}
use Rattle.names_rules.proofs.Scopes.{scopes_alike, members_alike}
use Rattle.names_rules.proofs.Stack.{under}
use Rattle.names_rules.proofs.Words.{fixed_is}

unknown_is : (s : Stand) → old.is_unknown s ≡ is_unknown s
unknown_is stand.Unknown = refl
unknown_is s = refl

-- ---- what is caught

below_by : (b : Bool) (o : Option ℕ) (go : ℕ → Bool) (p : ℕ → Bool) (line : ℕ → List ℕ) → ((c : ℕ) → go c ≡ list_any p (line c)) → code.below_at go o b ≡ (b || list_any p (Rattle.names_rules.specs.Clashes.line_at line o))
below_by true None go p line h = refl
below_by true (Some c) go p line h = refl
below_by false None go p line h = refl
below_by false (Some c) go p line h = h c

below_is : (n : ℕ) (bases : List (Option ℕ)) (class : ℕ) → code.below_from bases 0 n class ≡ list_any (λ c. nat_eq c 0) (line_from bases n class)
below_is zero bases class = refl
below_is (suc n) bases class = below_by (nat_eq class 0) (code.base_in bases class) (code.below_from bases 0 n) (λ c. nat_eq c 0) (line_from bases n) (below_is n bases)

caught_is : (s : Scopes) (x : Stand) → old.is_caught s x ≡ rule.is_caught s.bases x
caught_is s stand.Missing = refl
caught_is s (stand.Class class) = below_is (length s.bases) s.bases class
caught_is s other = refl

local_stand : (o : Option ℕ) (g : Stand) (late : Bool) → (old.local_or o g late).part.stand ≡ rule.local_or o g
local_stand None g late = refl
local_stand (Some local) g late = refl

top : (xs : List Part) (p : Part) → (part_under (xs ++ p ∷ []) 0).stand ≡ p.stand
top xs p = ap (λ q. q.stand) (under xs [] p)

module _ (names : Names) where
  places : (own : Names) (i : ℕ) (name : List ℕ) → Has names name → position_from (nat_eq (number names name)) i (map (number names) own) ≡ position_from (bytes_eq name) i own
  places [] i name h = refl
  places (x ∷ own) i name h = λ j. cond (compared names name x h j) (Some i) (places own (i + 1) name h j)

  pub positions : (own : Names) (name : List ℕ) → Has names name → position (nat_eq (number names name)) (map (number names) own) ≡ position (bytes_eq name) own
  positions own name h = position_from-zero (nat_eq (number names name)) (map (number names) own) ∙ places own 0 name h ∙ sym (position_from-zero (bytes_eq name) own)

  known_cond : (b : Bool) (i : ℕ) (o : Option ℕ) (r f : Bool) (name : ℕ) → units.known_by o name ≡ (r || f) → units.known_by (cond b (Some i) o) name ≡ ((b || r) || f)
  known_cond true i o r f name h = refl
  known_cond false i o r f name h = h

  known_any : (own : Names) (i : ℕ) (name : List ℕ) → known.is_fixed (number names name) ≡ is_fixed name → units.known_by (position_from (bytes_eq name) i own) (number names name) ≡ (list_any (bytes_eq name) own || is_fixed name)
  known_any [] i name h = h
  known_any (x ∷ own) i name h = known_cond (bytes_eq name x) i (position_from (bytes_eq name) (i + 1) own) (list_any (bytes_eq name) own) (is_fixed name) (number names name) (known_any own (i + 1) name h)

module _ (names : Names) (s : Scopes) (bs cs : List Binding)
    (globals : (file : ℕ) (name : List ℕ) → Has names name → FindsAlike names bs s file name)
    (dots : (of : Stand) (name : List ℕ) → Has names name → code.member s of (number names name) ≡ scope.member bs cs s.bases of name)
    (fixed : (name : List ℕ) → known.is_fixed (number names name) ≡ is_fixed name) where
  module _ (ls : List ℕ) (at : Place) (own : Names) (local_is : (name : List ℕ) → Has names name → old.local_in ls at (number names name) ≡ position (bytes_eq name) own) where
    abbrev pub found : Item → ℕ → Finder → Finder
    found i n w = old.find_event s ls at (record { node = n; act = act_of names i }) w

    abbrev name_stand : List ℕ → Stand
    name_stand = rule.name_stand bs cs s.bases at.file own

    pub name_is : (name : List ℕ) → Has names name → (old.name_seen s ls at (number names name)).part.stand ≡ name_stand name
    name_is name has = local_stand (old.local_in ls at (number names name)) (code.global s at.file (number names name)) (code.is_late s at.file at.place (number names name))
        ∙ (λ j. rule.local_or (local_is name has j) ((globals at.file name has).1 j))

    -- what the code keeps of what stood right before
    abbrev pub Keeps : State → Finder → Stand → Type 0
    Keeps Plain w before = Unit {0}
    Keeps Ends w before = (part_under w.parts 0).stand ≡ before
    Keeps Head w before = w.caught ≡ before

    unknown_fault : (x y : Stand) (n : ℕ) → x ≡ y → fault_if (old.is_unknown x) n fault.Unknown ≡ least (faults_if (is_unknown y) n fault.Unknown)
    unknown_fault x y n e = ap (λ b. fault_if b n fault.Unknown) (unknown_is x ∙ ap is_unknown e) ∙ least_if (is_unknown y) n fault.Unknown

    fixed_fault : (name : List ℕ) (n : ℕ) → fault_if (known.is_fixed (number names name)) n fault.Twice ≡ least (faults_if (is_fixed name) n fault.Twice)
    fixed_fault name n = ap (λ b. fault_if b n fault.Twice) (fixed name) ∙ least_if (is_fixed name) n fault.Twice

    caught_fault : (x y : Stand) (n : ℕ) → x ≡ y → fault_if (not (old.is_caught s x)) n fault.Unknown ≡ least (faults_if (not (rule.is_caught s.bases y)) n fault.Unknown)
    caught_fault x y n e = ap (λ b. fault_if (not b) n fault.Unknown) (caught_is s x ∙ ap (rule.is_caught s.bases) e) ∙ least_if (not (rule.is_caught s.bases y)) n fault.Unknown

    item_fault : (i : Item) (n : ℕ) (w : Finder) (st : State) (before : Stand) → Needs i st → AllByRecursion (Has names) (said_by i) → Keeps st w before
        → (found i n w).fault ≡ lesser w.fault (least (rule.fault_at bs cs s.bases at.file own n before i))
    item_fault (Name name) n w st before needs has k = ap (lesser w.fault) (unknown_fault _ (name_stand name) n (name_is name has.0))
    item_fault (Attr name) n w Ends before needs has k = ap (lesser w.fault) (unknown_fault _ (scope.member bs cs s.bases before name) n (ap (λ x. code.member s x (number names name)) k ∙ dots before name has.0))
    item_fault (Attr name) n w Plain before needs has k = absurd needs
    item_fault (Attr name) n w Head before needs has k = absurd needs
    item_fault (Bind name) n w st before needs has k = ap (lesser w.fault) (fixed_fault name n)
    item_fault (Catch name) n w st before needs has k = ap (lesser w.fault) (fixed_fault name n)
    item_fault CaughtEnd n w Head before needs has k = ap (lesser w.fault) (caught_fault w.caught before n k)
    item_fault CaughtEnd n w Plain before needs has k = absurd needs
    item_fault CaughtEnd n w Ends before needs has k = absurd needs
    item_fault i n w st before needs has k = refl

    abbrev rest_of : Item → Finder → List Part
    rest_of i w = without (taken_besides (act_of names i)) (without (taken (act_of names i)) w.parts)

    pub item_keeps : (i : Item) (n : ℕ) (w : Finder) (st : State) (before : Stand) → Needs i st → AllByRecursion (Has names) (said_by i) → Keeps st w before
        → Keeps (after i) (found i n w) (rule.stand_after bs cs s.bases at.file own before i)
    item_keeps (Int v) n w st before needs has k = top (rest_of (Int v) w) _
    item_keeps (Str text) n w st before needs has k = top (rest_of (Str text) w) _
    item_keeps (Name name) n w st before needs has k = top (rest_of (Name name) w) _ ∙ name_is name has.0
    item_keeps (Attr name) n w Ends before needs has k = top (rest_of (Attr name) w) _ ∙ ap (λ x. code.member s x (number names name)) k ∙ dots before name has.0
    item_keeps (Attr name) n w Plain before needs has k = absurd needs
    item_keeps (Attr name) n w Head before needs has k = absurd needs
    item_keeps (Unary op) n w st before needs has k = top (rest_of (Unary op) w) _
    item_keeps (Binary op) n w st before needs has k = top (rest_of (Binary op) w) _
    item_keeps (Call count) n w st before needs has k = top (rest_of (Call count) w) _ ∙ call_is (part_under w.parts count).stand (part_under w.parts count).makes count where
      method_is : (b : Bool) → (old.method_called b).part.stand ≡ stand.Nothing
      method_is true = refl
      method_is false = refl

      call_is : (x : Stand) (makes : Bool) (count : ℕ) → (old.called_by x makes count).part.stand ≡ stand.Nothing
      call_is (stand.Builtin b) makes count = refl
      call_is other makes count = method_is makes
    item_keeps (Tuple count) n w st before needs has k = top (rest_of (Tuple count) w) _
    item_keeps (List_of count) n w st before needs has k = top (rest_of (List_of count) w) _
    item_keeps (Dict count) n w st before needs has k = top (rest_of (Dict count) w) _
    item_keeps (Slice count) n w st before needs has k = top (rest_of (Slice count) w) _
    item_keeps (Comp count) n w st before needs has k = top (rest_of (Comp count) w) _
    item_keeps (Other count) n w st before needs has k = top (rest_of (Other count) w) _
    item_keeps (Caught name) n w st before needs has k = name_is name has.0
    item_keeps (CaughtOf name) n w Head before needs has k = ap (λ x. Rattle.names_bound.specs.Base.further_stand s x (number names name)) k ∙ dot_same names s bs cs globals dots [] before name has.0
    item_keeps (CaughtOf name) n w Plain before needs has k = absurd needs
    item_keeps (CaughtOf name) n w Ends before needs has k = absurd needs
    item_keeps i n w st before needs has k = tt

    items_fault : (is : Items) (n : ℕ) (w : Finder) (st : State) (before : Stand) → Well st is → AllByRecursion (Has names) (said is) → Keeps st w before
        → (old.find_events s ls at (events names n is) w).fault ≡ lesser w.fault (least (rule.faults_from bs cs s.bases at.file own before n is))
    items_fault [] n w st before well has k = lesser_nothing w.fault
    items_fault (i ∷ is) n w st before well has k =
        items_fault is (next i n) (found i n w) (after i) (rule.stand_after bs cs s.bases at.file own before i) well.1 (all_rest (Has names) (said_by i) (said is) has) (item_keeps i n w st before well.0 (all_first (Has names) (said_by i) (said is) has) k)
        ∙ lesser_more w.fault (found i n w).fault (rule.fault_at bs cs s.bases at.file own n before i) (rule.faults_from bs cs s.bases at.file own (rule.stand_after bs cs s.bases at.file own before i) (next i n) is)
        (item_fault i n w st before well.0 (all_first (Has names) (said_by i) (said is) has) k)

  -- ---- members

  none_outside : (ls : List ℕ) (file place : ℕ) (name : List ℕ) → Has names name → old.local_in ls (record { file = file; place = place; body = false }) (number names name) ≡ position (bytes_eq name) []
  none_outside ls file place name has = refl

  value_fault : (ls : List ℕ) (file place : ℕ) (v : Value) (w : Finder) → AllByRecursion (Has names) (said (expr v.of))
      → (old.find_events s ls (record { file = file; place = place; body = false }) (events names v.first (expr v.of)) w).fault ≡ lesser w.fault (least (rule.value_faults bs cs s.bases file v))
  value_fault ls file place v w has = items_fault ls (record { file = file; place = place; body = false }) [] (none_outside ls file place) (expr v.of) v.first w Plain stand.Nothing (expr_well v.of) has tt

  default_fault : (ls : List ℕ) (file place : ℕ) (d : Option Value) (w : Finder) → AllByRecursion (Has names) (value_said d)
      → (units.default_steps s ls (record { file = file; place = place; body = false }) (default_events names d) w).1.fault ≡ lesser w.fault (least (rule.default_faults bs cs s.bases file d))
  default_fault ls file place None w has = lesser_nothing w.fault
  default_fault ls file place (Some v) w has = value_fault ls file place v w has

  known_is : (before : Names) (name : List ℕ) → Has names name → units.known_by (locals.number (numbered names before) (number names name)) (number names name) ≡ (list_any (bytes_eq name) before || is_fixed name)
  known_is before name has = ap (λ o. units.known_by o (number names name)) (position_from-zero (nat_eq (number names name)) (map (number names) before) ∙ places names before 0 name has) ∙ known_any names before 0 name (fixed name)

  repeated : (before : Names) (p : Formal) → Has names p.name → units.parameter_fault (numbered names before) (parameter names p) ≡ least (faults_if (list_any (bytes_eq p.name) before || is_fixed p.name) p.node fault.Twice)
  repeated before p has = ap (λ b. fault_if b p.node fault.Twice) (known_is before p.name has) ∙ least_if (list_any (bytes_eq p.name) before || is_fixed p.name) p.node fault.Twice

  parameters_fault : (ps : List Formal) (file place : ℕ) (done : List Default) (before : Names) (w : Finder) → AllByRecursion (Has names) (params_said ps)
      → (units.parameters_onto done (numbered names before) s (record { file = file; place = place; body = false }) (map (parameter names) ps) w).1.fault ≡ lesser w.fault (least (rule.parameter_faults bs cs s.bases file before ps))
  parameters_fault [] file place done before w has = lesser_nothing w.fault
  parameters_fault (p ∷ ps) file place done before w has =
      let one : List Fault = faults_if (list_any (bytes_eq p.name) before || is_fixed p.name) p.node fault.Twice in
      ap (λ ls. (units.parameters_onto (done ++ (units.find_parameter s (numbered names before) (record { file = file; place = place; body = false }) (parameter names p) w).0 ∷ []) ls s (record { file = file; place = place; body = false }) (map (parameter names) ps) (units.find_parameter s (numbered names before) (record { file = file; place = place; body = false }) (parameter names p) w).1).1.fault) (added names before p.name has.0)
      ∙ parameters_fault ps file place _ (with_name before p.name) (units.find_parameter s (numbered names before) (record { file = file; place = place; body = false }) (parameter names p) w).1 (all_rest (Has names) (p.name ∷ value_said p.default) (params_said ps) has)
      ∙ lesser_more w.fault _ (one ++ rule.default_faults bs cs s.bases file p.default) (rule.parameter_faults bs cs s.bases file (with_name before p.name) ps)
      (default_fault (numbered names before) file place p.default (old.add_fault (units.parameter_fault (numbered names before) (parameter names p)) w) (all_first (Has names) (value_said p.default) (params_said ps) has.1)
      ∙ lesser_more w.fault _ one (rule.default_faults bs cs s.bases file p.default) (ap (lesser w.fault) (repeated before p has.0)))

  local_inside : (ls : List ℕ) (own : Names) (p : Placed) → ls ≡ map (number names) own → (name : List ℕ) → Has names name → old.local_in ls (inside p) (number names name) ≡ position (bytes_eq name) own
  local_inside ls own p e name has = ap (λ xs. position (nat_eq (number names name)) xs) e ∙ positions names own name has

  what_fault : (w : What) (p : Placed) (f : Finder) → AllByRecursion (Has names) (member.what_said w) → AreLocals names w
      → (units.find_what s (outside p) (says names w) f).1.fault ≡ lesser f.fault (least (rule.what_faults bs cs s.bases p.file w))
  what_fault (member.Import of) p f has l = lesser_nothing f.fault
  what_fault (member.From path of) p f has l = lesser_nothing f.fault
  what_fault (member.Constant name v) p f has l = value_fault [] p.file p.place v f (all_first (Has names) (said (expr v.of)) (name ∷ []) has)
  what_fault (member.Def name ps star body) p f has l =
      items_fault (locals_of names ps body) (inside p) (own_locals.locals ps body.of) (local_inside (locals_of names ps body) (own_locals.locals ps body.of) p l) (block body.of) body.first (units.find_parameters s (outside p) (map (parameter names) ps) f).1 Plain stand.Nothing (block_well body.of) (all_rest (Has names) (params_said ps) (said (block body.of)) has.1) tt
      ∙ lesser_more f.fault _ (rule.parameter_faults bs cs s.bases p.file [] ps) (rule.faults bs cs s.bases p.file (own_locals.locals ps body.of) body.first (block body.of))
      (parameters_fault ps p.file p.place [] [] f (all_first (Has names) (params_said ps) (said (block body.of)) has.1))
  what_fault (member.Class name base) p f has l = lesser_nothing f.fault

  units_fault : (ps : List Placed) (done : List Found) (f : Finder) → AllByRecursion (IsKnown names) ps → AllByRecursion (HasLocals names) ps
      → (units.units_onto done s (map (listed names) ps) f).1.fault ≡ lesser f.fault (least (rule.used bs cs s.bases ps))
  units_fault [] done f has l = lesser_nothing f.fault
  units_fault (p ∷ ps) done f has l =
      units_fault ps _ (units.find_what s (outside p) (says names p.what) f).1 has.1 l.1
      ∙ lesser_more f.fault _ (rule.what_faults bs cs s.bases p.file p.what) (rule.used bs cs s.bases ps) (what_fault p.what p f has.0 l.0)

pub used_are : (ms : List Named) (s : Scopes) (f : Finder) → s.bindings ≡ (declare.declared (listing.listing ms).modules (listing.listing ms).units).bindings → s.members ≡ (declare.declared (listing.listing ms).modules (listing.listing ms).units).members
    → (units.find_units s (listing.listing ms).units f).1.fault ≡ lesser f.fault (least (rule.used (bindings (module_names ms) (members ms)) (class_bindings (members ms)) s.bases (members ms)))
used_are ms s f h k = ap (λ l. (units.find_units s l.units f).1.fault) (listing_is ms)
    ∙ units_fault (names_of ms) s (bindings (module_names ms) (members ms)) (class_bindings (members ms)) (scopes_alike ms s h) (members_alike ms s h k) (fixed_is ms) (members ms) [] f (members_known ms) (members_locals ms)
