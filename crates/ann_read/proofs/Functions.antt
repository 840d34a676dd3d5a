-- Functions: the locals at the start, and the end of the body.
use Rattle.std.proofs.Common.{◌≡◌, ◌+◌, ◌<◌, ◌≤◌, ℕ, zero, suc, Bool, true, false, List, [], ◌∷◌, ◌++◌, inl, length, get_or, None, refl, sym, arith, subst}
use Rattle.std.proofs.lemmas.Bool.{false_from_ne_true}
use Rattle.std.specs.Prelude.{nat_lt, nat_le, not, if◌then◌else◌}
use Rattle.rpy_meaning.specs.declared.row.RowOp.TheVariants as row
use Rattle.rpy_meaning.specs.Classes.{no_covers}
use Rattle.flow_stands.specs.Places.{Go, Plain, GiveBack, first, first_and, act, link, numbered}
use Rattle.flow_stands.specs.Stands.{head_block, return_block, end_block, no_try, outside}
use Rattle.flow_trees.specs.Tree.{Block}
use Rattle.flow_trees.specs.Marks as marks
use Rattle.ann_lattice.specs.Shape.{Shape as Element, Nothing, NoneOnly}
use Rattle.ann_lattice.specs.Order.{least}
use Rattle.ann_lattice.specs.Assign.{at, Up, Set}
use Rattle.ann_lattice.specs.Kind.{is_nothing, some_nothing}
use Rattle.ann_laws.proofs.Equal.{nothing_down}
use Rattle.ann_rules.specs.Asks.{when}
use Rattle.ann_rules.specs.Rules as rule
use Rattle.ann_rules.specs.Hold.{AllHold}
use Rattle.ann_rules.proofs.Facts.{hold_left, hold_right}
use Rattle.ann_tree.specs.Annotation.{Environment, Point, Away, Towards as Heads, Exits, At, at_start}
use Rattle.ann_tree.specs.Leaves as leaves
use Rattle.ann_read.proofs.Links.{Known, k, u, Fits, var, in_at, in_loose, inputs, front, Enters, Linked, stands, needs_of, arrives, go_first}
use Rattle.ann_read.proofs.Points.{point, at_point, towards_point}
use Rattle.ann_read.proofs.Acts.{annotation, no}
use Rattle.ann_read.proofs.Held.{is_wide, marked_wide, goes_on}
use Rattle.ann_read.proofs.Exits.{returns}
use Rattle.ann_read.proofs.Stmts.{LeavesAll}
use Rattle.ann_read.proofs.Finals.{block_sims}
use Rattle.ann_read.specs.Plain.{AllReturnPlainly}

module _ (c : Known) where
  -- ---- at the start

  -- each input takes its parameter, and else may be unbound
  inputs_from : (count bound i : ℕ) (vs : List ℕ) → AllHold (k c) c.w (rule.input_needs c.p c.w c.f count bound i vs) → (j : ℕ) → j < length vs
      → AllHold (k c) c.w (when (nat_lt (i + j) count) (Up (c.p.places.variable c.f (get_or vs j 0)) (at c.w (c.p.places.param c.f (i + j)) ∷ []) ∷ []))
      × AllHold (k c) c.w (when (nat_le bound (i + j)) (Set (c.p.places.loose c.f (get_or vs j 0)) ∷ []))
  inputs_from count bound i [] h j lt = absurd (omega (arith, lt))
  inputs_from count bound i (v ∷ vs) h zero lt =
      let same : i + zero ≡ i = omega arith in
      let one = when (nat_lt i count) (Up (c.p.places.variable c.f v) (at c.w (c.p.places.param c.f i) ∷ []) ∷ []) in
      let two = when (nat_le bound i) (Set (c.p.places.loose c.f v) ∷ []) in
      let rest = rule.input_needs c.p c.w c.f count bound (suc i) vs in
      subst (λ (l : ℕ).
      AllHold (k c) c.w (when (nat_lt l count) (Up (c.p.places.variable c.f v) (at c.w (c.p.places.param c.f l) ∷ []) ∷ []))
      × AllHold (k c) c.w (when (nat_le bound l) (Set (c.p.places.loose c.f v) ∷ []))) (sym same)
      (hold_left (k c) c.w one (two ++ rest) h, hold_left (k c) c.w two rest (hold_right (k c) c.w one (two ++ rest) h))
  inputs_from count bound i (v ∷ vs) h (suc j) lt =
      let same : suc i + j ≡ i + suc j = omega arith in
      let one = when (nat_lt i count) (Up (c.p.places.variable c.f v) (at c.w (c.p.places.param c.f i) ∷ []) ∷ []) in
      let two = when (nat_le bound i) (Set (c.p.places.loose c.f v) ∷ []) in
      let rest = rule.input_needs c.p c.w c.f count bound (suc i) vs in
      subst (λ (l : ℕ).
      AllHold (k c) c.w (when (nat_lt l count) (Up (c.p.places.variable c.f (get_or vs j 0)) (at c.w (c.p.places.param c.f l) ∷ []) ∷ []))
      × AllHold (k c) c.w (when (nat_le bound l) (Set (c.p.places.loose c.f (get_or vs j 0)) ∷ []))) same
      (inputs_from count bound (suc i) vs (hold_right (k c) c.w two rest (hold_right (k c) c.w one (two ++ rest) h)) j (omega (arith, lt)))

  -- what is asked where the function is reached
  abbrev pub Started : ℕ → ℕ → Type 0
  Started count bound = AllHold (k c) c.w (Set (c.p.places.block c.f zero) ∷ rule.input_needs c.p c.w c.f count bound zero (inputs c zero))

  abbrev pub start_env : ℕ → ℕ → Environment
  start_env count bound = at_start (λ i. at c.w (c.p.places.param c.f i)) count bound

  starts : (count bound m : ℕ) (h : ℕ → Element) → m ≤ c.n → Started count bound → Enters c head_block m (start_env count bound) h
  starts count bound m h le started = record {
    reached = λ lt. started.0 lt;
    locals = λ i lt lu. one i lu (inputs_from count bound zero (inputs c zero) started.1 i lu);
    held = λ j ge lt lu. absurd (omega (arith, ge, lt, le));
  }
    where
      by_param : (i : ℕ) → i < length (inputs c zero) → (b : Bool) → nat_lt i count ≡ b → AllHold (k c) c.w (when (nat_lt i count) (Up (c.p.places.variable c.f (get_or (inputs c zero) i 0)) (at c.w (c.p.places.param c.f i) ∷ []) ∷ []))
          → Fits c (if nat_lt i count then at c.w (c.p.places.param c.f i) else Nothing) (in_at c zero i)
      by_param i lu true is needs =
          let placed = c.placed_inputs zero i lu in
          subst (λ b. Fits c (if b then at c.w (c.p.places.param c.f i) else Nothing) (in_at c zero i)) (sym is)
          ((subst (λ b. AllHold (k c) c.w (when b (Up (c.p.places.variable c.f (get_or (inputs c zero) i 0)) (at c.w (c.p.places.param c.f i) ∷ []) ∷ []))) is needs).0 placed.0).0
      by_param i lu false is needs = subst (λ b. Fits c (if b then at c.w (c.p.places.param c.f i) else Nothing) (in_at c zero i)) (sym is) (least (in_at c zero i))

      one : (i : ℕ) → i < length (inputs c zero)
          → AllHold (k c) c.w (when (nat_lt (zero + i) count) (Up (c.p.places.variable c.f (get_or (inputs c zero) i 0)) (at c.w (c.p.places.param c.f (zero + i)) ∷ []) ∷ []))
          × AllHold (k c) c.w (when (nat_le bound (zero + i)) (Set (c.p.places.loose c.f (get_or (inputs c zero) i 0)) ∷ []))
          → Fits c ((start_env count bound).element i) (in_at c zero i) × ((start_env count bound).unbound i ≡ true → in_loose c zero i ≡ true)
      one i lu needs =
          let same : zero + i ≡ i = omega arith in
          let placed = c.placed_inputs zero i lu in
          let mine = subst (λ (l : ℕ).
          AllHold (k c) c.w (when (nat_lt l count) (Up (c.p.places.variable c.f (get_or (inputs c zero) i 0)) (at c.w (c.p.places.param c.f l) ∷ []) ∷ []))
          × AllHold (k c) c.w (when (nat_le bound l) (Set (c.p.places.loose c.f (get_or (inputs c zero) i 0)) ∷ []))) same needs in (
            by_param i lu (nat_lt i count) refl mine.0,
            λ t. (subst (λ b. AllHold (k c) c.w (when b (Set (c.p.places.loose c.f (get_or (inputs c zero) i 0)) ∷ []))) t mine.1).0 placed.1,
          )

  -- ---- the end of the body

  module _ (back : marks.Is c.program c.graphs c.f c.n return_block 1 GiveBack 1 2) where
    ends : (node : ℕ) (e : Environment) (h : ℕ → Element) → marks.Marked c.program c.graphs c.f c.n end_block c.n node false (Plain row.None (first_and return_block 0 c.n)) 4 5 → Enters c end_block c.n e h
        → leaves.Returns c.p c.program.sites (annotation c) c.f c.n NoneOnly
    ends node e h has enters =
        let base : ℕ = has.0.0 in
        let jump = first_and return_block 0 c.n in
        let shape = Plain row.None jump in
        let is = stands c end_block base c.n node false shape has.0.1 in
        let needs = needs_of c end_block c.n e h (numbered base c.n node false shape) is enters in
        let operation = act base c.n node false row.None [] no_covers in
        let kept = c.kept end_block (numbered base c.n node false shape) operation [] is refl in
        let link_needs = rule.link_needs c.p c.w c.f c.graph None (link base jump) in
        let op = hold_left (k c) c.w (rule.op_needs c.p c.w c.f operation) (when (rule.goes_on c.p c.w c.f operation) link_needs) needs in
        let reached = hold_right (k c) c.w (rule.loose_needs c.p c.w c.f operation) (when (not (some_nothing [])) (rule.reached_needs c.p c.w c.f operation [])) op in
        let r : Element = var c (base + c.n) in
        let fits : Fits c NoneOnly r = (reached.0 kept.cell).0 in
        let live : is_nothing r ≡ false = some_result r fits in
        let linked : Linked c None base jump = subst (λ t. AllHold (k c) c.w (when (not t) link_needs)) live (hold_right (k c) c.w (rule.op_needs c.p c.w c.f operation) (when (rule.goes_on c.p c.w c.f operation) link_needs) needs) in
        let l = (is_wide c return_block 1 GiveBack 1 2 back).long in
        let there = arrives c None base jump linked 0 NoneOnly false (omega arith) (omega (arith, l)) (fits, λ t. cc) in
        returns c 1 2 back NoneOnly (λ lt. linked.0 lt) there.0
      where
        some_result : (r : Element) → Fits c NoneOnly r → is_nothing r ≡ false
        some_result r fits = false_from_ne_true (is_nothing r) (λ t. no (nothing_down (k c) (u c) NoneOnly r fits t))

    abbrev exits : Point → Exits
    exits end = record { next = end; broken = Heads end; continued = Heads end; returned = Away }

    pub body_closed : (body : Block) → AllReturnPlainly body → (node begin count bound hi : ℕ) → marks.Is c.program c.graphs c.f c.n head_block c.n (Go (first begin c.n)) 0 1
        → marks.Marked c.program c.graphs c.f c.n end_block c.n node false (Plain row.None (first_and return_block 0 c.n)) 4 5 → marks.HasBlock c.program c.graphs c.f c.n no_try body begin c.n (outside c.n) 5 hi → Started count bound
        → (end : Point) × LeavesAll c 1 2 back [] body (start_env count bound) (exits end) × At end (λ g. leaves.Returns c.p c.program.sites (annotation c) c.f c.n NoneOnly)
    body_closed body plain node begin count bound hi head last has started =
        let none_held : ℕ → Element = λ j. Nothing in
        let e : Environment = start_env count bound in
        let end_wide = marked_wide c end_block c.n node false (Plain row.None (first_and return_block 0 c.n)) 4 5 last in
        let went = goes_on c head_block c.n (first begin c.n) 0 1 e none_held head (omega arith) (starts count bound c.n none_held (omega arith) started) in
        let end : Point = point c end_block none_held c.n in (
          end,
          (block_sims c 1 2 back body plain).sim no_try [] begin c.n (outside c.n) 5 hi e none_held (exits end) has (omega arith)
              (go_first c head.0.0 c.n e none_held went.around begin c.n (omega arith) (omega arith) went.linked)
              (record { hands = tt; default = omega arith; seen = λ g f a thrown. tt; quiet = λ t g. tt })
              (record {
                wide = end_wide;
                next = towards_point c end_block c.n c.n none_held end_wide (omega arith) (omega arith);
                broken = record { low = omega arith; high = omega arith; leads = λ g i. towards_point c end_block c.n c.n none_held end_wide (omega arith) (omega arith) g i };
                continued = record { low = omega arith; high = omega arith; leads = λ g i. towards_point c end_block c.n c.n none_held end_wide (omega arith) (omega arith) g i };
                returned = inl (refl, refl, λ g. tt);
              }),
          at_point c end_block c.n none_held (λ g. leaves.Returns c.p c.program.sites (annotation c) c.f c.n NoneOnly) (λ i. ends node (front c end_block) none_held last i),
        )
