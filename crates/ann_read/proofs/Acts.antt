-- An operation of a reached block: what the trees ask of it holds, its exceptions are seen, and evaluation goes on with its result.
use Rattle.std.proofs.Common.{◌≡◌, ◌+◌, ◌<◌, ◌≤◌, ℕ, Bool, true, false, List, [], ◌∷◌, ◌++◌, map, ◌⊎◌, inl, inr, Option, Some, None, refl, sym, ap, ◌∙◌, arith, subst}
use Rattle.std.specs.Prelude.{◌&&◌, ◌||◌, not}
use Rattle.std.proofs.lemmas.Bool.{or_parts, and_cases, false_from_ne_true, not_from_false, or_right, or_left}
use Rattle.rpy_meaning.specs.declared.row.RowOp.{RowOp}
use Rattle.rpy_meaning.specs.declared.row.RowOp.TheVariants as row
use Rattle.flow_graph.specs.declared.graph.Op.{Op}
use Rattle.flow_stands.specs.Places.{Aim, Hand, Scope, Jump, first, first_and, stored_if_any, hand_jumps, Does, shift, links, link, act, numbered}
use Rattle.flow_stands.specs.Stands.{LocalIn, onward}
use Rattle.flow_trees.specs.Marks as marks
use Rattle.ann_lattice.specs.Shape.{Shape as Element, Inst}
use Rattle.ann_lattice.specs.Join.{is_clash}
use Rattle.ann_lattice.specs.Laws.{IsFormed}
use Rattle.ann_lattice.specs.Assign.{Set, Under}
use Rattle.ann_lattice.specs.Kind.{is_nothing, some_nothing, some_clash}
use Rattle.ann_laws.specs.Rows.{Operands}
use Rattle.ann_laws.proofs.Equal.{nothing_down}
use Rattle.ann_laws.proofs.Calls.{above_clash}
use Rattle.ann_laws.proofs.Whole.{nothing_all}
use Rattle.ann_rules.specs.Asks.{when, from_each, asks}
use Rattle.ann_rules.specs.Rules as rule
use Rattle.ann_rules.specs.Hold.{AllHold}
use Rattle.ann_rules.proofs.Facts.{hold_left, hold_right}
use Rattle.ann_rules.proofs.Flows.{asked_down, asks_too}
use Rattle.ann_tree.proofs.Faulty.{shows_asked}
use Rattle.ann_tree.specs.Annotation.{Annotation, Environment, Point, Handler, elements_with, caught, with_class, Seen}
use Rattle.ann_tree.specs.Gives as part
use Rattle.ann_tree.specs.Gives.{is_raise}
use Rattle.ann_read.proofs.Links.{Known, IsKept, IsShown, IsAlike, k, u, Fits, Onward, passes_on, on, self, formed_var, var, loose, Enters, Inside, inside, Linked, stands, needs_of, go_first, go_and, throw_first, throw_and, throw_stored}
use Rattle.ann_read.proofs.Points.{Agree, agree_with, agree_on, enters_less, LeadsTo, Towards, Onto}

pub no : false ≡ true → ⊥
no e = cc

not_false : (b : Bool) → not b ≡ false → b ≡ true
not_false true e = refl
not_false false e = sym e

module _ (c : Known) where
  abbrev pub annotation : Annotation
  annotation = record { parts = c.w; element = c.element; faulty = c.faulty }

  -- ---- where exceptions go

  -- each handler is entered, as the class of the exception says, where it has the locals
  abbrev pub Thrown : List Hand → Aim → Environment → (ℕ → Element) → Type 0
  Thrown [] default e h = c.n ≤ default.keep → Enters c default.to (default.keep + 1) e (elements_with h default.keep (Inst 0 false))
  Thrown (hand ∷ hands) default e h =
      (c.n ≤ hand.aim.keep → LocalIn c.n hand.local → Enters c hand.aim.to hand.aim.keep (caught (with_class hand.local hand.class) e) h) × Thrown hands default e h

  abbrev pub Low : ℕ → List Hand → Type 0
  Low m [] = Unit {0}
  Low m (hand ∷ hands) = (hand.aim.keep ≤ m) × Low m hands

  pub low_on : (m l : ℕ) (hands : List Hand) → m ≤ l → Low m hands → Low l hands
  low_on m l [] le h = tt
  low_on m l (hand ∷ hands) le h = (let lt = h.0 in omega (arith, lt, le), low_on m l hands le h.1)

  abbrev pub SeenBy : List Handler → Environment → Type 0
  SeenBy hs e = Seen (k c) (u c) c.n hs e

  -- the handlers of a tree stand for those of a scope, while this is held
  pub record Catches (sc : Scope) (hs : List Handler) (m : ℕ) (h : ℕ → Element) : Type 0 where
    pub hands : Low m sc.hands
    pub default : sc.default.keep ≤ m
    pub seen : (e : Environment) (g : ℕ → Element) → Agree m g h → Thrown sc.hands sc.default e g → SeenBy hs e
    pub quiet : sc.tried ≡ false → (e : Environment) → SeenBy hs e

  pub catches_on : (sc : Scope) (hs : List Handler) (m l : ℕ) (g h : ℕ → Element) → m ≤ l → Agree m g h → Catches sc hs m h → Catches sc hs l g
  catches_on sc hs m l g h le a x = record {
    hands = low_on m l sc.hands le x.hands;
    default = let lt = x.default in omega (arith, lt, le);
    seen = λ e i b t. x.seen e i (agree_on l m i g h le b a) t;
    quiet = x.quiet;
  }

  -- ---- an operation

  pub record Acted (sc : Scope) (base m node : ℕ) (value : Bool) (o : RowOp) (args : List ℕ) (norm : Jump) (e : Environment) (h : ℕ → Element) : Type 0 where
    pub around : Inside c base m e h
    pub hands : AllHold (k c) c.w (from_each (λ l. rule.link_needs c.p c.w c.f c.graph (Some (base + m, l.0)) l.1) (links base (hand_jumps m sc.hands)))
    pub default : AllHold (k c) c.w (rule.link_needs c.p c.w c.f c.graph (Some (base + m, 0)) (link base (first_and sc.default.to sc.default.keep m)))
    pub op : AllHold (k c) c.w (rule.op_needs c.p c.w c.f (act base m node value o args sc.covers))
    pub onward : rule.goes_on c.p c.w c.f (act base m node value o args sc.covers) ≡ true → Linked c None base norm
    pub kept : IsKept c.p c.w c.element c.f (act base m node value o args sc.covers)
    pub shown : IsShown c.p c.w c.faulty c.f (act base m node value o args sc.covers)

  pub acted : (sc : Scope) (b node : ℕ) (value : Bool) (o : RowOp) (args : List ℕ) (m : ℕ) (norm : Jump) (lo hi : ℕ) (e : Environment) (h : ℕ → Element)
      → (has : marks.Acts c.program c.graphs c.f c.n sc b node value o args m norm lo hi) → c.n ≤ m → Enters c b m e h → Acted sc has.0.0 m node value o args norm e h
  acted sc b node value o args m norm lo hi e h has le enters =
      let base : ℕ = has.0.0 in
      let shape = Does o args sc.covers (hand_jumps m sc.hands) (first_and sc.default.to sc.default.keep m) norm in
      let is = stands c b base m node value shape has.0.1 in
      let needs = needs_of c b m e h (numbered base m node value shape) is enters in
      let hand_needs = from_each (λ l. rule.link_needs c.p c.w c.f c.graph (Some (base + m, l.0)) l.1) (links base (hand_jumps m sc.hands)) in
      let default_needs = rule.link_needs c.p c.w c.f c.graph (Some (base + m, 0)) (link base (first_and sc.default.to sc.default.keep m)) in
      let operation = act base m node value o args sc.covers in
      let op_needs = rule.op_needs c.p c.w c.f operation in
      let goes = rule.goes_on c.p c.w c.f operation in
      let norm_needs = rule.link_needs c.p c.w c.f c.graph None (link base norm) in
      let thrown = hold_left (k c) c.w (hand_needs ++ default_needs) (op_needs ++ when goes norm_needs) needs in
      let does = hold_right (k c) c.w (hand_needs ++ default_needs) (op_needs ++ when goes norm_needs) needs in
      record {
        around = inside c b base m node value shape e h is le enters;
        hands = hold_left (k c) c.w hand_needs default_needs thrown;
        default = hold_right (k c) c.w hand_needs default_needs thrown;
        op = hold_left (k c) c.w op_needs (when goes norm_needs) does;
        onward = λ t. subst (λ b. AllHold (k c) c.w (when b norm_needs)) t (hold_right (k c) c.w op_needs (when goes norm_needs) does);
        kept = c.kept b (numbered base m node value shape) operation [] is refl;
        shown = c.shown b (numbered base m node value shape) operation [] is refl (enters.reached (c.placed_blocks b (numbered base m node value shape) is));
      }

  -- operands, each below the variable at its place
  abbrev pub Given : ℕ → List ℕ → List Element → Type 0
  Given base [] [] = Unit {0}
  Given base [] (x ∷ xs) = ⊥
  Given base (place ∷ args) [] = ⊥
  Given base (place ∷ args) (x ∷ xs) = Fits c x (var c (base + place)) × Given base args xs

  operands_of : (base : ℕ) (args : List ℕ) (xs : List Element) → Given base args xs → Operands (k c) (u c) xs (map (rule.value c.p c.w c.f) (shift base args))
  operands_of base [] [] g = tt
  operands_of base [] (x ∷ xs) g = absurd g
  operands_of base (place ∷ args) [] g = absurd g
  operands_of base (place ∷ args) (x ∷ xs) g = ((g.0, c.facts.formed (c.p.places.variable c.f (base + place))), operands_of base args xs g.1)

  pub under_on : (xs : List Element) (y z : Element) → Fits c y z → Under (k c) (u c) xs y → Under (k c) (u c) xs z
  under_on [] y z f h = tt
  under_on (x ∷ xs) y z f h = (on c x y z h.0 f, under_on xs y z f h.1)

  free_pieces : (l : List Element) (z : Element) → is_clash z ≡ false → Under (k c) (u c) l z → some_clash l ≡ false
  free_pieces [] z i h = refl
  free_pieces (x ∷ l) z i h = ap (λ b. b || some_clash l) (above_clash (k c) (u c) x z i h.0) ∙ free_pieces l z i h.1

  module _ (sc : Scope) (base m node : ℕ) (value : Bool) (o : RowOp) (args : List ℕ) (norm : Jump) (e : Environment) (h : ℕ → Element) (does : Acted sc base m node value o args norm e h) where
    abbrev pub result : Element
    result = var c (base + m)

    abbrev operation : Op
    operation = act base m node value o args sc.covers

    abbrev given : List Element
    given = map (rule.value c.p c.w c.f) (shift base args)

    loose_part : AllHold (k c) c.w (rule.loose_needs c.p c.w c.f operation)
    loose_part = hold_left (k c) c.w (rule.loose_needs c.p c.w c.f operation) (when (not (some_nothing given)) (rule.reached_needs c.p c.w c.f operation given)) does.op

    reached_part : some_nothing given ≡ false → AllHold (k c) c.w (rule.reached_needs c.p c.w c.f operation given)
    reached_part is =
        subst (λ b. AllHold (k c) c.w (when (not b) (rule.reached_needs c.p c.w c.f operation given))) is
        (hold_right (k c) c.w (rule.loose_needs c.p c.w c.f operation) (when (not (some_nothing given)) (rule.reached_needs c.p c.w c.f operation given)) does.op)

    reached_too : (xs : List Element) → Given base args xs → some_nothing xs ≡ false → some_nothing given ≡ false
    reached_too xs g is = false_from_ne_true (some_nothing given) (λ t. no (sym is ∙ nothing_all c.p.tables c.facts.classes (u c) xs given (operands_of base args xs g) t))

    -- what the operation asks of smaller operands
    pub asked_of : (xs : List Element) → Given base args xs → some_nothing xs ≡ false → Under (k c) (u c) (rule.asked c.p c.w 0 o xs node) result
    asked_of xs g is =
        asked_down c.p c.w c.w c.facts 0 o xs given node result (operands_of base args xs g) does.kept.free is ((reached_part (reached_too xs g is)).0 does.kept.cell)

    asks_of : (xs : List Element) → Given base args xs → some_nothing xs ≡ false → AllHold (k c) c.w (asks c.p c.w o xs)
    asks_of xs g is =
        let needs = reached_part (reached_too xs g is) in
        let low : Under (k c) (u c) (rule.asked c.p c.w 0 o given node) result = needs.0 does.kept.cell in
        asks_too c.p c.w c.w c.facts 0 o xs given node result (operands_of base args xs g) does.kept.free is low
        (subst (λ b. AllHold (k c) c.w (when (not b) (asks c.p c.w o given))) (free_pieces (rule.asked c.p c.w 0 o given node) result does.kept.free low) needs.1)

    pub operates : (xs : List Element) (z : Element) → Given base args xs → is_clash z ≡ false → IsFormed z → Fits c result z → part.Operates c.p c.program.sites annotation c.n o node xs z
    operates xs z g free formed above = (free, (λ is. (under_on (rule.asked c.p c.w 0 o xs node) result z above (asked_of xs g is), asks_of xs g is)), λ f. formed)

    -- a flaw that it shows for smaller operands it shows for its own
    pub marked : (xs : List Element) → Given base args xs → part.MarksFaults c.p c.program.sites annotation c.n node value o xs
    marked xs g flaw is shown =
        does.shown flaw (reached_too xs g is)
        (shows_asked c.p c.w c.w c.facts c.f flaw value o xs given node result (operands_of base args xs g) does.kept.free is ((reached_part (reached_too xs g is)).0 does.kept.cell) shown)

    -- ---- what it leads to

    reaches : (z : Element) → is_nothing z ≡ false → Fits c z result → is_nothing result ≡ false
    reaches z is fits = false_from_ne_true (is_nothing result) (λ t. no (sym is ∙ nothing_down (k c) (u c) z result fits t))

    pub live : (z : Element) → is_nothing z ≡ false → Fits c z result → Linked c None base norm
    live z is fits = does.onward (or_right (rule.is_narrowing o) (not (is_nothing result)) (not_from_false (is_nothing result) (reaches z is fits)))

    pub narrow_live : rule.is_narrowing o ≡ true → Linked c None base norm
    narrow_live is = does.onward (or_left (rule.is_narrowing o) (not (is_nothing result)) is)

    one : (local : Option ℕ) (aim : Aim) (class : ℕ) → aim.keep ≤ m → c.n ≤ aim.keep → LocalIn c.n local → Linked c (Some (base + m, class)) base (stored_if_any aim local m)
        → Enters c aim.to aim.keep (caught (with_class local class) e) h
    one None aim class lt le there linked = throw_first c base m e h does.around class aim.to aim.keep le lt linked
    one (Some i) aim class lt le there linked = throw_stored c base m e h does.around class aim.to aim.keep i there le lt linked

    thrown_hands : (hands : List Hand) → AllHold (k c) c.w (from_each (λ l. rule.link_needs c.p c.w c.f c.graph (Some (base + m, l.0)) l.1) (links base (hand_jumps m hands)))
        → Low m hands → (default : Aim) → (c.n ≤ default.keep → Enters c default.to (default.keep + 1) e (elements_with h default.keep (Inst 0 false))) → Thrown hands default e h
    thrown_hands [] needs low default d = d
    thrown_hands (hand ∷ hands) needs low default d =
        let first = rule.link_needs c.p c.w c.f c.graph (Some (base + m, hand.class)) (link base (stored_if_any hand.aim hand.local m)) in
        let rest = from_each (λ l. rule.link_needs c.p c.w c.f c.graph (Some (base + m, l.0)) l.1) (links base (hand_jumps m hands)) in (
          λ le there. one hand.local hand.aim hand.class low.0 le there (hold_left (k c) c.w first rest needs),
          thrown_hands hands (hold_right (k c) c.w first rest needs) low.1 default d,
        )

    pub seen : (hs : List Handler) (l : ℕ) (g : ℕ → Element) → l ≤ m → Agree l h g → Catches sc hs l g → SeenBy hs e
    seen hs l g le a x =
        let low = x.default in
        x.seen e h a (thrown_hands sc.hands does.hands (low_on l m sc.hands le x.hands) sc.default (λ ge. throw_and c base m e h does.around 0 sc.default.to sc.default.keep ge (omega (arith, low, le)) does.default))

  -- ---- the same as a rule of the trees

  -- the element that the trees take for a result
  pub record Chosen (value : Bool) (node : ℕ) (r : Element) : Type 0 where
    pub z : Element
    pub is : part.IsOf c.p c.program.sites annotation c.n value node z
    pub free : is_clash z ≡ false
    pub formed : IsFormed z
    pub above : Fits c r z
    pub below : Fits c z r

  pub choose : (value : Bool) (node : ℕ) (r : Element) → is_clash r ≡ false → IsFormed r → (value ≡ true → IsAlike c.p c.w (c.element node) r) → Chosen value node r
  choose true node r free formed alike = let a = alike refl in record { z = c.element node; is = refl; free = a.free; formed = a.formed; above = a.back; below = a.there }
  choose false node r free formed alike = record { z = r; is = tt; free = free; formed = formed; above = self c r; below = self c r }

  pub onward_is : (o : RowOp) (to keep last : ℕ) → is_raise o ≡ false → onward o to keep last ≡ first_and to keep last
  onward_is row.Raise to keep last e = cc
  onward_is o to keep last e = refl

  module _ (sc : Scope) (base m node : ℕ) (value : Bool) (o : RowOp) (args : List ℕ) (norm : Jump) (e : Environment) (h : ℕ → Element) (does : Acted sc base m node value o args norm e h)
      (hs : List Handler) (seen_by : SeenBy hs e) (xs : List Element) (given_by : Given base args xs) where
    abbrev r : Element
    r = var c (base + m)

    unstopped : (z : Element) → Fits c z r → (not (rule.is_narrowing o) ≡ false) ⊎ (is_nothing z ≡ false) → Linked c None base norm
    unstopped z fits (inl narrow) = narrow_live sc base m node value o args norm e h does (not_false (rule.is_narrowing o) narrow)
    unstopped z fits (inr some) = live sc base m node value o args norm e h does z some fits

    pub acts : (x : Element) (q : Point) → ((z : Element) → is_raise o ≡ false → Fits c z r → Linked c None base norm → Onward c z x × LeadsTo c e q)
        → part.Acts c.p c.program.sites annotation c.n hs node value o xs e x q
    acts x q lead =
        let ch = choose value node r does.kept.free (formed_var c (base + m)) does.kept.node in (
          seen_by,
          (
            ch.z,
            operates sc base m node value o args norm e h does xs ch.z given_by ch.free ch.formed ch.above,
            ch.is,
            (λ t.
                let parts = or_parts (is_raise o) (not (rule.is_narrowing o) && is_nothing ch.z) t in
                lead ch.z parts.0 ch.below (unstopped ch.z ch.below (and_cases (not (rule.is_narrowing o)) (is_nothing ch.z) parts.1))),
            marked sc base m node value o args norm e h does xs given_by,
          ),
        )

    -- the result goes on as one variable more
    pub acts_onto : (q l : ℕ) (g : ℕ → Element) (x : Element) (s : Point) → c.n ≤ l → l ≤ m → Agree l h g → (is_raise o ≡ false → norm ≡ first_and q l m) → Onto c q l g x s
        → part.Acts c.p c.program.sites annotation c.n hs node value o xs e x s
    acts_onto q l g x s ge le a jump onto =
        acts x s
        (λ z raises fits linked.
        onto e z
        (enters_less c q (l + 1) (l + 1) e (elements_with h l z) (elements_with g l z) (omega arith) (agree_with l h g z a)
        (go_and c base m e h does.around q l m z ge le fits (subst (λ j. Linked c None base j) (jump raises) linked))))

    -- the result is let go
    pub acts_towards : (q l : ℕ) (g : ℕ → Element) (s : Point) → c.n ≤ l → l ≤ m → Agree l h g → norm ≡ first q l → Towards c q l g s
        → part.Acts c.p c.program.sites annotation c.n hs node value o xs e r s
    acts_towards q l g s ge le a jump to =
        acts r s
        (λ z raises fits linked. (
          passes_on c z r (formed_var c (base + m)) fits,
          to e (enters_less c q l l e h g (omega arith) a (go_first c base m e h does.around q l ge le (subst (λ j. Linked c None base j) jump linked))),
        ))

    pub stores : value ≡ true → (left : Environment) (q : Point) → (Fits c (c.element node) r → Linked c None base norm → LeadsTo c left q)
        → part.Stores c.p c.program.sites annotation c.n hs node o xs e left q
    stores is left q lead =
        let alike = does.kept.node is in (
          seen_by,
          operates sc base m node value o args norm e h does xs (c.element node) given_by alike.free alike.formed alike.back,
          (λ t. lead alike.there (live sc base m node value o args norm e h does (c.element node) t alike.there)),
          subst (λ b. part.MarksFaults c.p c.program.sites annotation c.n node b o xs) is (marked sc base m node value o args norm e h does xs given_by),
        )

  -- ---- locals that may be unbound

  pub marks_read : (sc : Scope) (base m node : ℕ) (value : Bool) (i : ℕ) (norm : Jump) (e : Environment) (h : ℕ → Element) → Acted sc base m node value row.Copy (i ∷ []) norm e h → i < c.n
      → part.Marks c.p c.program.sites annotation c.n node i e
  marks_read sc base m node value i norm e h does lt t =
      let loose_is : loose c (base + i) ≡ true = (does.around.locals i lt).1 t in
      let operation = act base m node value row.Copy (i ∷ []) sc.covers in
      let needs = hold_left (k c) c.w (rule.loose_needs c.p c.w c.f operation)
      (when (not (some_nothing (var c (base + i) ∷ []))) (rule.reached_needs c.p c.w c.f operation (var c (base + i) ∷ []))) does.op in
      (subst (λ b. AllHold (k c) c.w (when b (Set (c.p.places.unbound node) ∷ []))) loose_is
      (hold_left (k c) c.w (when (loose c (base + i)) (Set (c.p.places.unbound node) ∷ [])) [] needs)).0

  -- what a test says of a local that may be unbound may be so, too
  pub narrowed_loose : (sc : Scope) (base m node : ℕ) (value : Bool) (o : RowOp) (i : ℕ) (rest : List ℕ) (norm : Jump) (e : Environment) (h : ℕ → Element) → rule.is_narrowing o ≡ true
      → Acted sc base m node value o (i ∷ rest) norm e h → i < c.n → e.unbound i ≡ true → loose c (base + m) ≡ true
  narrowed_loose sc base m node value o i rest norm e h narrow does lt t =
      let loose_is : loose c (base + i) ≡ true = (does.around.locals i lt).1 t in
      let operation = act base m node value o (i ∷ rest) sc.covers in
      let all = map (rule.value c.p c.w c.f) (shift base (i ∷ rest)) in
      let needs = hold_left (k c) c.w (rule.loose_needs c.p c.w c.f operation) (when (not (some_nothing all)) (rule.reached_needs c.p c.w c.f operation all)) does.op in
      let mine = hold_right (k c) c.w (when (rule.is_copy o && loose c (base + i)) (Set (c.p.places.unbound node) ∷ [])) (when (rule.is_narrowing o && loose c (base + i)) (Set (c.p.places.loose c.f (base + m)) ∷ [])) needs in
      (subst (λ b. AllHold (k c) c.w (when b (Set (c.p.places.loose c.f (base + m)) ∷ []))) (ap (λ b. b && loose c (base + i)) narrow ∙ loose_is) mine).0 does.kept.loose
