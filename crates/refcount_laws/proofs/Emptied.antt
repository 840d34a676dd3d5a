-- The exception slots are emptied.
use Rattle.std.proofs.Common.{◌≡◌, ◌<◌, ◌≤◌, ℕ, zero, suc, ◌+◌, Bool, true, false, ◌||◌, List, [], ◌∷◌, ◌++◌, length, map, Option, Some, None, refl, sym, ap, ◌∙◌, subst, arith}
use Rattle.std.specs.Prelude.{slice_get, slice_set, ◌==◌}
use Rattle.csub_tree.specs.State.{Value, Unset, Null, Ptr, Block, Core, Onward, Stuck}
use Rattle.csub_tree.specs.Operation.{is_unset}
use Rattle.csub_tree.specs.Statement.{read}
use Rattle.csub_tree.specs.declared.tree.COperand.TheVariants.{Var}
use Rattle.ll_code.specs.State.{Frame, State, At}
use Rattle.ll_code.specs.Machine.{goes_on}
use Rattle.ll_code.specs.declared.program.LlOp.{LlOp}
use Rattle.ll_code.specs.declared.program.LlOp.TheVariants as op
use Rattle.ll_code.specs.declared.program.LlExit.{LlExit}
use Rattle.ll_code.specs.declared.program.LlType.{LlType}
use Rattle.ll_code.specs.declared.program.LlProgram.{LlProgram}
use Rattle.ll_live.specs.Live.{among, sets, live}
use Rattle.refcount_transform.specs.Plan.{Plan, plan_of, is_counted, root_of, reference_given}
use Rattle.refcount_transform.specs.Changes.{Around, around_of, var_referred, up, touched, dead}
use Rattle.refcount_transform.specs.Counted.{counted}
use Rattle.refcount_laws.specs.Graphs.{Counts, Counting}
use Rattle.refcount_laws.specs.Made.{counts_of}
use Rattle.refcount_laws.specs.Ghost.{Ghost, memory, LeadsTo, IsCounted}
use Rattle.refcount_laws.specs.Runs.{Leads, here}
use Rattle.refcount_laws.specs.Touched.{Shown, Done}
use Rattle.refcount_laws.specs.Owned.{owned, DoneTo, hits_by, operand_hits, Roomy}
use Rattle.refcount_laws.specs.Matches.{PointsTo, Comes, Follows}
use Rattle.refcount_laws.proofs.Steps.{stays, leads_on, goes}
use Rattle.refcount_laws.proofs.Moving.{own_same}
use Rattle.refcount_laws.proofs.Numbers.{Based}
use Rattle.refcount_laws.proofs.Places.{given_marked}
use Rattle.refcount_laws.proofs.Given.{up_run}
use Rattle.std.specs.Prelude.{cond}
use Rattle.csub_tree.specs.declared.stuck.StuckReason.TheVariants.{Unset as IsUnset}
use Rattle.refcount_transform.specs.Changes.{changed}
use Rattle.refcount_laws.proofs.Following.{near_kept, value_leads, comes_before, effect_end}
use Rattle.std.specs.Prelude.{not, ◌&&◌}
use Rattle.refcount_laws.proofs.Dead.{same_is}
use Rattle.refcount_laws.proofs.Copying.{owned_has}
use Rattle.refcount_laws.specs.Graphs.{StandsWith}
use Rattle.ll_code.specs.Typed.{IsWellTyped}
use Rattle.refcount_laws.specs.Made.{leads_to_roots}
use Rattle.refcount_laws.specs.Before as told
use Rattle.refcount_laws.specs.Before.{Before, is_of_words, MayStand, SetsUnread, MayTakeField, MayTakeItem, NoBlocksIn}
use Rattle.refcount_laws.proofs.Numbers.{all_based}
use Rattle.refcount_laws.proofs.Places.{counted_counting}
use Rattle.refcount_laws.proofs.Operations.{structs_typed}
use Rattle.ll_code.specs.declared.program.LlExit.TheVariants as exit
use Rattle.refcount_laws.proofs.Leading.{lead_kept}
use Rattle.refcount_transform.specs.Plan.{own_some, counted_structs}
use Rattle.refcount_transform.specs.Made as made
use Rattle.refcount_transform.specs.Made.{kind_read, value_read, slot_drop, slots_body, slots_graph, slots_made, made_from}
use Rattle.refcount_transform.specs.Changes.{exc_clear_by, emptied, emptied_by, up}
use Rattle.refcount_laws.proofs.Given.{up_run, roomy_after, hit_most}
use Rattle.refcount_laws.specs.Owned.{operand_hits, DoneTo}
use Rattle.std.specs.Prelude.{is_some}
use Rattle.refcount_laws.specs.Matches.{Comes}
use Rattle.refcount_laws.proofs.Following.{near_kept, value_leads, comes_before, effect_end}
use Rattle.refcount_laws.specs.Slots.{slot_hits, SlotLeads}
use Rattle.refcount_laws.proofs.Numbers.{get_right, length_mapped}
use Rattle.refcount_transform.specs.Blocks.{graph_of}
use Rattle.refcount_laws.proofs.Doing.{done_on, done_nothing, down_done}
use Rattle.refcount_laws.proofs.Standing.{slots_clear}
use Rattle.refcount_laws.proofs.Steps.{return_step, wait}
use Rattle.refcount_laws.proofs.Writing.{call_all_step}

-- a slot that owns something is read
abbrev with_kind : Option ℕ → Value → List Value → List Value
with_kind None v vars = vars
with_kind (Some n) v vars = slice_set vars 0 v

abbrev with_value : Option ℕ → Value → List Value → List Value
with_value None v vars = vars
with_value (Some n) v vars = slice_set vars 1 v

abbrev later_at : Option ℕ → ℕ → ℕ
later_at None at = at
later_at (Some n) at = at + 1

module _ (p : LlProgram) where
  abbrev plan : Plan
  plan = plan_of p

  abbrev q : LlProgram
  q = counted p

  abbrev c : Counts
  c = counts_of plan

  -- the graph that empties the slots, where they own something
  clear_there : own_some plan.slots ≡ true → slice_get q.graphs plan.slots.clear ≡ Some (slots_graph plan)
  clear_there e =
      ap (slice_get q.graphs) (slots_clear (counted_structs p.structs p.graphs) p.graphs (length p.graphs) ∙ (let z : length p.graphs ≡ length (map (graph_of plan) p.graphs) + 0 = omega (arith, length_mapped (graph_of plan) p.graphs) in z))
      ∙ get_right (map (graph_of plan) p.graphs) (slots_made plan (own_some plan.slots) ++ made_from plan 0 plan.structs) 0 ∙ ap (λ b. slice_get (slots_made plan b ++ made_from plan 0 plan.structs) 0) e

  clear_stands : own_some plan.slots ≡ true → StandsWith q plan.slots.clear [] (made.slot_type plan.slots.kind ∷ made.slot_type plan.slots.value ∷ []) (slots_body plan plan.slots ∷ [])
  clear_stands e = record { graph = slots_graph plan; there = clear_there e; taken = refl; result = refl; typed = refl; laid = refl }

  module _ (counting : Counting q c) (args : List (List ℕ)) (f b : ℕ) (ex : LlExit) (frames : List Frame) where
    kind_run : (o : Option ℕ) (core : Core) (at : ℕ) (vars : List Value) (h : List (Option Block)) (s : List Block) (rest : List LlOp)
        → Leads q args (At (kind_read o rest) ex frames (here core f b at vars h s)) (At rest ex frames (here core f b (later_at o at) (with_kind o core.exc_type vars) h s))
    kind_run None core at vars h s rest = stays q args (At rest ex frames (here core f b at vars h s))
    kind_run (Some n) core at vars h s rest = goes q args (At (op.ExcType 0 n ∷ rest) ex frames (here core f b at vars h s)) (At rest ex frames (here core f b (at + 1) (slice_set vars 0 core.exc_type) h s)) refl

    value_run : (o : Option ℕ) (core : Core) (at : ℕ) (vars : List Value) (h : List (Option Block)) (s : List Block) (rest : List LlOp)
        → Leads q args (At (value_read o rest) ex frames (here core f b at vars h s)) (At rest ex frames (here core f b (later_at o at) (with_value o core.exc_value vars) h s))
    value_run None core at vars h s rest = stays q args (At rest ex frames (here core f b at vars h s))
    value_run (Some n) core at vars h s rest = goes q args (At (op.ExcValue 1 n ∷ rest) ex frames (here core f b at vars h s)) (At rest ex frames (here core f b (at + 1) (slice_set vars 1 core.exc_value) h s)) refl

    -- what it held is dropped
    drop_run : (o : Option ℕ) (i : ℕ) (v : Value) (core : Core) (at : ℕ) (vars : List Value) (g : Ghost) (h : List (Option Block)) (own : Value → ℕ) (rest : List LlOp) → Shown c h g.blocks
        → ((n : ℕ) → o ≡ Some n → (is_counted plan n ≡ true) × (root_of plan n ≡ n) × LeadsTo q g n v × (read vars i ≡ v)) → IsCounted q c g (λ r. hits_by o v r + own r)
        → Done q args c g own (At (slot_drop plan i o rest) ex frames (here core f b at vars h (memory g))) (λ h s. At rest ex frames (here core f b (later_at o at) vars h s))
    drop_run None i v core at vars g h own rest sh lead counts =
        done_nothing q args c g h own (At rest ex frames (here core f b at vars h (memory g))) (λ h s. At rest ex frames (here core f b at vars h s)) sh (own_same q args c g (λ r. 0 + own r) own (λ r. omega arith) counts) (stays q args (At rest ex frames (here core f b at vars h (memory g))))
    drop_run (Some n) i v core at vars g h own rest sh lead counts =
        let l : (is_counted plan n ≡ true) × (root_of plan n ≡ n) × LeadsTo q g n v × (read vars i ≡ v) = lead n refl in
        down_done q args c counting g h own n v core f b ex frames (Var i) at rest vars sh (l.0, l.1) l.2 counts l.3

  -- the whole graph
  module _ (counting : Counting q c) (args : List (List ℕ)) (core : Core) (g : Ghost) (h : List (Option Block)) (own : Value → ℕ) (sh : Shown c h g.blocks) (counts : IsCounted q c g (λ r. slot_hits plan core.exc_type core.exc_value r + own r))
      (lead_kind : (n : ℕ) → plan.slots.kind ≡ Some n → (is_counted plan n ≡ true) × (root_of plan n ≡ n) × LeadsTo q g n core.exc_type) (lead_value : (n : ℕ) → plan.slots.value ≡ Some n → (is_counted plan n ≡ true) × (root_of plan n ≡ n) × LeadsTo q g n core.exc_value) where
    abbrev emptied_core : Core
    emptied_core = record core { exc_type = Null; exc_value = Null }

    pub clear_done : (f b : ℕ) (ex : LlExit) (frames : List Frame) (at : ℕ) (ops : List LlOp) (vars : List Value) → own_some plan.slots ≡ true
        → Done q args c g own (At (op.Call None plan.slots.clear [] ∷ ops) ex frames (here core f b at vars h (memory g))) (λ h s. At ops ex frames (here emptied_core f b (at + 1) vars h s))
    clear_done f b ex frames at ops vars some =
        let ret : LlExit = exit.Return None in
        let kind : Option ℕ = plan.slots.kind in
        let value : Option ℕ = plan.slots.value in
        let waiter : Frame = wait q args core f b ex frames at vars ops in
        let clear : ℕ = plan.slots.clear in
        let none : List Value = Unset ∷ Unset ∷ [] in
        let one : List Value = with_kind kind core.exc_type none in
        let both : List Value = with_value value core.exc_value one in
        let drops : List LlOp = slot_drop plan 0 kind (slot_drop plan 1 value []) in
        let at1 : ℕ = later_at kind 0 in
        let at2 : ℕ = later_at value at1 in
        let start : State = At (op.Call None clear [] ∷ ops) ex frames (here core f b at vars h (memory g)) in
        let emptied : State = At drops ret (waiter ∷ frames) (here emptied_core clear 0 (at2 + 1) both h (memory g)) in
        let to : Leads q args start emptied =
        leads_on q args (call_all_step q args core f b ex frames clear at [] ops vars [] h (memory g) [] (made.slot_type kind ∷ made.slot_type value ∷ []) (slots_body plan plan.slots ∷ []) (slots_body plan plan.slots) refl refl (clear_stands some) refl)
        (leads_on q args (kind_run counting args clear 0 ret (waiter ∷ frames) kind core 0 none h (memory g) (value_read value (op.ExcClear ∷ drops)))
        (leads_on q args (value_run counting args clear 0 ret (waiter ∷ frames) value core at1 one h (memory g) (op.ExcClear ∷ drops))
        (goes q args (At (op.ExcClear ∷ drops) ret (waiter ∷ frames) (here core clear 0 at2 both h (memory g))) emptied refl))) in
        let own1 : Value → ℕ = λ r. hits_by value core.exc_value r + own r in
        let mid : List (Option Block) → List Block → State = λ h s. At (slot_drop plan 1 value []) ret (waiter ∷ frames) (here emptied_core clear 0 (later_at kind (at2 + 1)) both h s) in
        let d1 : Done q args c g own1 emptied mid =
        drop_run counting args clear 0 ret (waiter ∷ frames) kind 0 core.exc_type emptied_core (at2 + 1) both g h own1 (slot_drop plan 1 value []) sh (λ n e. ((lead_kind n e).0, (lead_kind n e).1, (lead_kind n e).2, first_is kind value core.exc_type core.exc_value n e))
        (own_same q args c g (λ r. slot_hits plan core.exc_type core.exc_value r + own r) (λ r. hits_by kind core.exc_type r + own1 r) (λ r. omega arith) counts) in
        let last : List (Option Block) → List Block → State = λ h s. At [] ret (waiter ∷ frames) (here emptied_core clear 0 (later_at value (later_at kind (at2 + 1))) both h s) in
        let d2 : Done q args c d1.later own (mid d1.blocks (memory d1.later)) last =
        drop_run counting args clear 0 ret (waiter ∷ frames) value 1 core.exc_value emptied_core (later_at kind (at2 + 1)) both d1.later d1.blocks own [] d1.shown
        (λ n e. ((lead_value n e).0, (lead_value n e).1, lead_kept q c g d1.later d1.same d1.same_statics n core.exc_value (lead_value n e).2, second_is kind value core.exc_type core.exc_value n e)) d1.counted in
        let all : Done q args c g own emptied last = done_on q args c g own1 own emptied mid last d1 d2 in
        record {
          later = all.later;
          blocks = all.blocks;
          same = all.same;
          same_statics = all.same_statics;
          size = all.size;
          size_statics = all.size_statics;
          inners = all.inners;
          counted = all.counted;
          shown = all.shown;
          leads = leads_on q args to (leads_on q args all.leads (return_step q args emptied_core f b ex frames clear 0 at (later_at value (later_at kind (at2 + 1))) ops vars both all.blocks (memory all.later)));
        }
      where
        first_is : (k v : Option ℕ) (x y : Value) (n : ℕ) → k ≡ Some n → read (with_value v y (with_kind k x (Unset ∷ Unset ∷ []))) 0 ≡ x
        first_is None v x y n e = absurd (cc)
        first_is (Some m) None x y n e = refl
        first_is (Some m) (Some j) x y n e = refl

        second_is : (k v : Option ℕ) (x y : Value) (n : ℕ) → v ≡ Some n → read (with_value v y (with_kind k x (Unset ∷ Unset ∷ []))) 1 ≡ y
        second_is k None x y n e = absurd (cc)
        second_is None (Some m) x y n e = refl
        second_is (Some j) (Some m) x y n e = refl

-- ---- the operations on the slots; what is owned besides them stays

module _ (p : LlProgram) (ok : IsWellTyped p) (leads : leads_to_roots p ≡ true) (args : List (List ℕ)) (types : List LlType) (own : Value → ℕ) (ops rest : List LlOp) (e ex : LlExit) (frames : List Frame) (b at : ℕ) (core qcore : Core) (g : Ghost)
    (h : List (Option Block)) where
  abbrev the_plan : Plan
  the_plan = plan_of p

  abbrev around : Around
  around = around_of the_plan types

  based : Based p.structs
  based = all_based p.structs (structs_typed p ok)

  counting_ : Counting (counted p) (counts_of the_plan)
  counting_ = counted_counting p ok leads

  abbrev emptied_p : Core
  emptied_p = record core { at = core.at + 1; exc_type = Null; exc_value = Null }

  abbrev behind_clear : List LlOp
  behind_clear = dead around (touched op.ExcClear) ops e rest

  abbrev with_slots : Value → ℕ
  with_slots = λ r. slot_hits the_plan core.exc_type core.exc_value r + own r

  slot_here : (d : Before p types with_slots op.ExcClear ops e core qcore g h) (o : Option ℕ) (v w : Value) → w ≡ v → SlotLeads p core o v → (n : ℕ) → o ≡ Some n → (is_counted the_plan n ≡ true) × (root_of the_plan n ≡ n) × LeadsTo (counted p) g n w
  slot_here d o v w same lead n f =
      let l : (is_counted the_plan n ≡ true) × (root_of the_plan n ≡ n) × PointsTo p core.blocks core.statics n v = lead n f in
      (l.0, l.1, subst (LeadsTo (counted p) g n) (sym same) (value_leads p based counting_ args types d.roots core.blocks core.statics g d.stands.near n v l.0 l.1 l.2))

  pub exc_clear_followed : SlotLeads p core the_plan.slots.kind core.exc_type → SlotLeads p core the_plan.slots.value core.exc_value → Before p types with_slots op.ExcClear ops e core qcore g h
      → Comes p args types (live ops e) own (At (changed around op.ExcClear behind_clear) ex frames (here qcore core.function b at core.vars h (memory g))) rest ex frames b emptied_p
  exc_clear_followed lead_kind lead_value d = by (own_some the_plan.slots) refl
    where
      had : IsCounted (counted p) (counts_of the_plan) g (λ r. slot_hits the_plan qcore.exc_type qcore.exc_value r + (owned around (live (op.ExcClear ∷ ops) e) core.vars r + own r))
      had = own_same (counted p) args (counts_of the_plan) g (λ r. owned around (live (op.ExcClear ∷ ops) e) core.vars r + with_slots r) (λ r. slot_hits the_plan qcore.exc_type qcore.exc_value r + (owned around (live (op.ExcClear ∷ ops) e) core.vars r + own r))
          (λ r. omega (arith, ap (λ v. hits_by the_plan.slots.kind v r) d.stands.exc_type, ap (λ v. hits_by the_plan.slots.value v r) d.stands.exc_value)) d.counts

      by : (y : Bool) → own_some the_plan.slots ≡ y → Comes p args types (live ops e) own (At (exc_clear_by the_plan.slots y ∷ behind_clear) ex frames (here qcore core.function b at core.vars h (memory g))) rest ex frames b emptied_p
      by true some =
          let c : Done (counted p) args (counts_of the_plan) g (λ r. owned around (live (op.ExcClear ∷ ops) e) core.vars r + own r) (At (op.Call None the_plan.slots.clear [] ∷ behind_clear) ex frames (here qcore core.function b at core.vars h (memory g)))
          (λ h s. At behind_clear ex frames (here (record qcore { exc_type = Null; exc_value = Null }) core.function b (at + 1) core.vars h s)) =
          clear_done p counting_ args qcore g h (λ r. owned around (live (op.ExcClear ∷ ops) e) core.vars r + own r) d.stands.shown had (slot_here d the_plan.slots.kind core.exc_type qcore.exc_type d.stands.exc_type lead_kind)
          (slot_here d the_plan.slots.value core.exc_value qcore.exc_value d.stands.exc_value lead_value) core.function b ex frames at behind_clear core.vars some in
          comes_before p based counting_ args types d.roots own op.ExcClear ops rest e ex frames b (live ops e) (At (op.Call None the_plan.slots.clear [] ∷ behind_clear) ex frames (here qcore core.function b at core.vars h (memory g)))
          (At behind_clear ex frames (here (record qcore { exc_type = Null; exc_value = Null }) core.function b (at + 1) core.vars c.blocks (memory c.later))) emptied_p c.leads
          (effect_end p based counting_ args types d.roots own op.ExcClear ops rest e ex frames b emptied_p (record qcore { exc_type = Null; exc_value = Null }) c.later c.blocks (at + 1) refl d.fits
          (record { near = near_kept the_plan g c.later c.same c.same_statics core.blocks core.statics c.size c.size_statics d.stands.near; shown = c.shown; steps = d.stands.steps; exc_type = refl; exc_value = refl })
          (record { at = d.pointing.at; refers = d.pointing.refers }) c.counted)
      by false none =
          comes_before p based counting_ args types d.roots own op.ExcClear ops rest e ex frames b (live ops e) (At (op.ExcClear ∷ behind_clear) ex frames (here qcore core.function b at core.vars h (memory g)))
          (At behind_clear ex frames (here (record qcore { exc_type = Null; exc_value = Null }) core.function b (at + 1) core.vars h (memory g))) emptied_p
          (goes (counted p) args (At (op.ExcClear ∷ behind_clear) ex frames (here qcore core.function b at core.vars h (memory g))) (At behind_clear ex frames (here (record qcore { exc_type = Null; exc_value = Null }) core.function b (at + 1) core.vars h (memory g))) refl)
          (effect_end p based counting_ args types d.roots own op.ExcClear ops rest e ex frames b emptied_p (record qcore { exc_type = Null; exc_value = Null }) g h (at + 1) refl d.fits
          (record { near = d.stands.near; shown = d.stands.shown; steps = d.stands.steps; exc_type = refl; exc_value = refl }) (record { at = d.pointing.at; refers = d.pointing.refers })
          (own_same (counted p) args (counts_of the_plan) g (λ r. slot_hits the_plan qcore.exc_type qcore.exc_value r + (owned around (live (op.ExcClear ∷ ops) e) core.vars r + own r)) (λ r. owned around (live (op.ExcClear ∷ ops) e) core.vars r + own r)
          (λ r. no_slots the_plan.slots.kind the_plan.slots.value none r) had))
        where
          no_slots : (k v : Option ℕ) → (is_some k || is_some v) ≡ false → (r : Value) → hits_by k qcore.exc_type r + hits_by v qcore.exc_value r + (owned around (live (op.ExcClear ∷ ops) e) core.vars r + own r) ≡ owned around (live (op.ExcClear ∷ ops) e) core.vars r + own r
          no_slots None None f r = omega arith
          no_slots None (Some n) f r = absurd (cc)
          no_slots (Some n) v f r = absurd (cc)

  -- the slots take what two variables hold, and drop what they held
  module _ (x y : ℕ) (is_kind : var_referred around x ≡ the_plan.slots.kind) (is_value : var_referred around y ≡ the_plan.slots.value) (kind_set : is_unset (read core.vars x) ≡ false) (value_set : is_unset (read core.vars y) ≡ false)
      (lead_kind : SlotLeads p core the_plan.slots.kind core.exc_type) (lead_value : SlotLeads p core the_plan.slots.value core.exc_value) (d : Before p types with_slots (op.ExcSet x y) ops e core qcore g h) (room : Roomy g 2) where
    abbrev set_p : Core
    set_p = record core { at = core.at + 1; exc_type = read core.vars x; exc_value = read core.vars y }

    abbrev set_q : Core
    set_q = record qcore { exc_type = read core.vars x; exc_value = read core.vars y }

    abbrev last_ops : List LlOp
    last_ops = op.ExcSet x y ∷ dead around (touched (op.ExcSet x y)) ops e rest

    abbrev uses : ℕ → Bool
    uses = live (op.ExcSet x y ∷ ops) e

    abbrev had : Value → ℕ
    had = λ r. owned around uses core.vars r + with_slots r

    abbrev had1 : Value → ℕ
    had1 = λ r. operand_hits around core.vars (Var x) r + had r

    abbrev had2 : Value → ℕ
    had2 = λ r. operand_hits around core.vars (Var y) r + had1 r

    x_used : uses x ≡ true
    x_used = ap (λ z. (z || (among x (y ∷ []))) || (not (sets None x) && live ops e x)) (same_is x)

    y_used : uses y ≡ true
    y_used = ap (λ z. ((x == y) || (z || false)) || (not (sets None y) && live ops e y)) (same_is y) ∙ all (x == y) (not (sets None y) && live ops e y)
      where
        all : (a b : Bool) → ((a || (true || false)) || b) ≡ true
        all true b = refl
        all false b = refl

    var_lead : (w n : ℕ) → uses w ≡ true → var_referred around w ≡ Some n → LeadsTo (counted p) g n (read core.vars w)
    var_lead w n u f = value_leads p based counting_ args types d.roots core.blocks core.statics g d.stands.near n (read core.vars w) (given_marked the_plan.counted (slice_get types w) n f) (d.roots w n f) (d.pointing.at w n u f)

    var_there : (w n m : ℕ) → uses w ≡ true → var_referred around w ≡ Some n → read core.vars w ≡ Ptr m → 0 < owned around uses core.vars (Ptr m)
    var_there w n m u f is =
        let lt : w < length core.vars = (let l : w < length types = inside types w n f in omega (arith, l, d.fits)) in owned_has around 0 uses core.vars w n m lt u f is
      where
        inside : (ts : List LlType) (v n : ℕ) → reference_given the_plan.counted (slice_get ts v) ≡ Some n → v < length ts
        inside [] v n e = absurd (cc)
        inside (t ∷ ts) zero n e = omega arith
        inside (t ∷ ts) (suc v) n e = omega (arith, inside ts v n e)

    abbrev start_set : State
    start_set = At (up around (Var x) (up around (Var y) (emptied the_plan.slots last_ops))) ex frames (here qcore core.function b at core.vars h (memory g))

    first_up : DoneTo (counted p) args (counts_of the_plan) g had1 start_set (up around (Var y) (emptied the_plan.slots last_ops)) ex frames qcore core.function b core.vars
    first_up = up_run (counted p) args the_plan counting_ types qcore core.function b ex frames core.vars g h had (Var x) 1 at (up around (Var y) (emptied the_plan.slots last_ops)) d.stands.shown (λ n f. d.roots x n f) (λ n f. var_lead x n x_used f)
        (λ n m f is. (let l : 0 < owned around uses core.vars (Ptr m) = var_there x n m x_used f is in omega (arith, l, d.counts.blocks m))) room d.counts

    abbrev g1 : Ghost
    g1 = first_up.done.later

    room1 : Roomy g1 1
    room1 = roomy_after (counted p) args (counts_of the_plan) g had had1 1 1 start_set (λ h s. At (up around (Var y) (emptied the_plan.slots last_ops)) ex frames (here qcore core.function b first_up.at core.vars h s)) d.counts first_up.done (λ r. one_most (var_referred around x) (read core.vars x) r (had r)) room
      where
        one_most : (o : Option ℕ) (v r : Value) (n : ℕ) → hits_by o v r + n ≤ n + 1
        one_most None v r n = omega arith
        one_most (Some k) v r n = omega (arith, hit_most r v)

    second_up : DoneTo (counted p) args (counts_of the_plan) g1 had2 (At (up around (Var y) (emptied the_plan.slots last_ops)) ex frames (here qcore core.function b first_up.at core.vars first_up.done.blocks (memory g1))) (emptied the_plan.slots last_ops) ex frames qcore
        core.function b core.vars
    second_up = up_run (counted p) args the_plan counting_ types qcore core.function b ex frames core.vars g1 first_up.done.blocks had1 (Var y) 0 first_up.at (emptied the_plan.slots last_ops) first_up.done.shown (λ n f. d.roots y n f)
        (λ n f. lead_kept (counted p) (counts_of the_plan) g g1 first_up.done.same first_up.done.same_statics n (read core.vars y) (var_lead y n y_used f))
        (λ n m f is. (let l : 0 < owned around uses core.vars (Ptr m) = var_there y n m y_used f is in omega (arith, l, first_up.done.counted.blocks m))) room1 first_up.done.counted

    abbrev g2 : Ghost
    g2 = second_up.done.later

    -- what is owned once the old exception is dropped
    abbrev had3 : Value → ℕ
    had3 = λ r. operand_hits around core.vars (Var y) r + (operand_hits around core.vars (Var x) r + (owned around uses core.vars r + own r))

    counts2 : IsCounted (counted p) (counts_of the_plan) g2 (λ r. slot_hits the_plan qcore.exc_type qcore.exc_value r + had3 r)
    counts2 = own_same (counted p) args (counts_of the_plan) g2 had2 (λ r. slot_hits the_plan qcore.exc_type qcore.exc_value r + had3 r)
        (λ r. omega (arith, ap (λ v. hits_by the_plan.slots.kind v r) d.stands.exc_type, ap (λ v. hits_by the_plan.slots.value v r) d.stands.exc_value)) second_up.done.counted

    slot_in : (o : Option ℕ) (v w : Value) → w ≡ v → SlotLeads p core o v → (n : ℕ) → o ≡ Some n → (is_counted the_plan n ≡ true) × (root_of the_plan n ≡ n) × LeadsTo (counted p) g2 n w
    slot_in o v w same lead n f =
        let l : (is_counted the_plan n ≡ true) × (root_of the_plan n ≡ n) × PointsTo p core.blocks core.statics n v = lead n f in
        let at_g : LeadsTo (counted p) g n v = value_leads p based counting_ args types d.roots core.blocks core.statics g d.stands.near n v l.0 l.1 l.2 in (
          l.0,
          l.1,
          subst (LeadsTo (counted p) g2 n) (sym same)
              (lead_kept (counted p) (counts_of the_plan) g1 g2 second_up.done.same second_up.done.same_statics n v (lead_kept (counted p) (counts_of the_plan) g g1 first_up.done.same first_up.done.same_statics n v at_g)),
        )

    -- the slots may have been emptied by then
    record Cleared : Type 0 where
      left : Core
      steps : left.steps ≡ core.steps
      at_ : ℕ
      done : Done (counted p) args (counts_of the_plan) g2 had3 (At (emptied the_plan.slots last_ops) ex frames (here qcore core.function b second_up.at core.vars second_up.done.blocks (memory g2))) (λ h s. At last_ops ex frames (here left core.function b at_ core.vars h s))

    cleared : (z : Bool) → own_some the_plan.slots ≡ z → Cleared
    cleared true some = record {
      left = record qcore { exc_type = Null; exc_value = Null };
      steps = d.stands.steps;
      at_ = second_up.at + 1;
      done =
          subst (λ l. Done (counted p) args (counts_of the_plan) g2 had3 (At l ex frames (here qcore core.function b second_up.at core.vars second_up.done.blocks (memory g2))) (λ h s. At last_ops ex frames (here (record qcore { exc_type = Null; exc_value = Null }) core.function b (second_up.at + 1) core.vars h s)))
          (sym (ap (λ z. emptied_by the_plan.slots z last_ops) some))
          (clear_done p counting_ args qcore g2 second_up.done.blocks had3 second_up.done.shown counts2 (slot_in the_plan.slots.kind core.exc_type qcore.exc_type d.stands.exc_type lead_kind) (slot_in the_plan.slots.value core.exc_value qcore.exc_value d.stands.exc_value lead_value)
          core.function b ex frames second_up.at last_ops core.vars some);
    }
    cleared false none = record {
      left = qcore;
      steps = d.stands.steps;
      at_ = second_up.at;
      done =
          subst (λ l. Done (counted p) args (counts_of the_plan) g2 had3 (At l ex frames (here qcore core.function b second_up.at core.vars second_up.done.blocks (memory g2))) (λ h s. At last_ops ex frames (here qcore core.function b second_up.at core.vars h s)))
          (sym (ap (λ z. emptied_by the_plan.slots z last_ops) none))
          (done_nothing (counted p) args (counts_of the_plan) g2 second_up.done.blocks had3 (At last_ops ex frames (here qcore core.function b second_up.at core.vars second_up.done.blocks (memory g2))) (λ h s. At last_ops ex frames (here qcore core.function b second_up.at core.vars h s)) second_up.done.shown
          (own_same (counted p) args (counts_of the_plan) g2 (λ r. slot_hits the_plan qcore.exc_type qcore.exc_value r + had3 r) had3 (λ r. no_slots the_plan.slots.kind the_plan.slots.value none r) counts2)
          (stays (counted p) args (At last_ops ex frames (here qcore core.function b second_up.at core.vars second_up.done.blocks (memory g2)))));
    }
      where
        no_slots : (k v : Option ℕ) → (is_some k || is_some v) ≡ false → (r : Value) → hits_by k qcore.exc_type r + hits_by v qcore.exc_value r + had3 r ≡ had3 r
        no_slots None None f r = omega arith
        no_slots None (Some n) f r = absurd (cc)
        no_slots (Some n) v f r = absurd (cc)

    pub exc_set_followed : Comes p args types (live ops e) (λ r. slot_hits the_plan (read core.vars x) (read core.vars y) r + own r) start_set rest ex frames b set_p
    exc_set_followed =
        let c : Cleared = cleared (own_some the_plan.slots) refl in
        let g3 : Ghost = c.done.later in
        let after : Value → ℕ = λ r. slot_hits the_plan (read core.vars x) (read core.vars y) r + own r in
        let behind : List LlOp = dead around (touched (op.ExcSet x y)) ops e rest in
        let final : Core = record c.left { exc_type = read core.vars x; exc_value = read core.vars y } in
        comes_before p based counting_ args types d.roots after (op.ExcSet x y) ops rest e ex frames b (live ops e) start_set (At behind ex frames (here final core.function b (c.at_ + 1) core.vars c.done.blocks (memory g3))) set_p
        (leads_on (counted p) args first_up.done.leads (leads_on (counted p) args second_up.done.leads (leads_on (counted p) args c.done.leads
        (goes (counted p) args (At last_ops ex frames (here c.left core.function b c.at_ core.vars c.done.blocks (memory g3))) (At behind ex frames (here final core.function b (c.at_ + 1) core.vars c.done.blocks (memory g3)))
        (ap (λ z. goes_on (At behind ex frames) (cond (z || is_unset (read core.vars y)) (Stuck IsUnset) (Onward (here final core.function b (c.at_ + 1) core.vars c.done.blocks (memory g3))))) kind_set
        ∙ ap (λ z. goes_on (At behind ex frames) (cond z (Stuck IsUnset) (Onward (here final core.function b (c.at_ + 1) core.vars c.done.blocks (memory g3))))) value_set)))))
        (effect_end p based counting_ args types d.roots after (op.ExcSet x y) ops rest e ex frames b set_p final g3 c.done.blocks (c.at_ + 1) refl d.fits
        (record {
          near = near_kept the_plan g2 g3 c.done.same c.done.same_statics core.blocks core.statics c.done.size c.done.size_statics
              (near_kept the_plan g1 g2 second_up.done.same second_up.done.same_statics core.blocks core.statics second_up.done.size second_up.done.size_statics
              (near_kept the_plan g g1 first_up.done.same first_up.done.same_statics core.blocks core.statics first_up.done.size first_up.done.size_statics d.stands.near));
          shown = c.done.shown;
          steps = c.steps;
          exc_type = refl;
          exc_value = refl;
        })
        (record { at = d.pointing.at; refers = d.pointing.refers })
        (own_same (counted p) args (counts_of the_plan) g3 had3 (λ r. owned around uses core.vars r + after r) (λ r. omega (arith, ap (λ o. hits_by o (read core.vars x) r) is_kind, ap (λ o. hits_by o (read core.vars y) r) is_value)) c.done.counted))

  pub exc_set_one : (x y : ℕ) → var_referred around x ≡ the_plan.slots.kind → var_referred around y ≡ the_plan.slots.value → SlotLeads p core the_plan.slots.kind core.exc_type → SlotLeads p core the_plan.slots.value core.exc_value → Roomy g 2
      → Before p types with_slots (op.ExcSet x y) ops e core qcore g h → told.IsFollowed p args types (λ r. slot_hits the_plan (read core.vars x) (read core.vars y) r + own r) (op.ExcSet x y) ops rest e ex frames b at core qcore g h
  exc_set_one x y is_kind is_value lead_kind lead_value room d = by (is_unset (read core.vars x)) refl (is_unset (read core.vars y)) refl
    where
      by : (u : Bool) → is_unset (read core.vars x) ≡ u → (w : Bool) → is_unset (read core.vars y) ≡ w
          → Follows p args types (live ops e) (λ r. slot_hits the_plan (read core.vars x) (read core.vars y) r + own r) (At (changed around (op.ExcSet x y) (dead around (touched (op.ExcSet x y)) ops e rest)) ex frames (here qcore core.function b at core.vars h (memory g))) rest ex frames b
          (cond (u || w) (Stuck IsUnset) (Onward (record core { at = core.at + 1; exc_type = read core.vars x; exc_value = read core.vars y })))
      by true u w v = tt
      by false u true v = tt
      by false u false v = exc_set_followed x y is_kind is_value u v lead_kind lead_value d room

  pub exc_clear_one : SlotLeads p core the_plan.slots.kind core.exc_type → SlotLeads p core the_plan.slots.value core.exc_value → Before p types with_slots op.ExcClear ops e core qcore g h → told.IsFollowed p args types own op.ExcClear ops rest e ex frames b at core qcore g h
  exc_clear_one lead_kind lead_value d = exc_clear_followed lead_kind lead_value d
