-- A counted program follows the operations of its program.
use Rattle.std.proofs.Common.{◌≡◌, ◌≢◌, ◌⊎◌, inl, inr, ◌<◌, ℕ, suc, ◌+◌, Bool, true, false, List, ◌∷◌, length, Option, Some, None, Ok, Err, refl, sym, ap, ◌∙◌, subst, arith}
use Rattle.std.specs.Prelude.{slice_get, slice_set}
use Rattle.csub_tree.specs.State.{Value, Unset, Word, Byte, Flag, Fun, Null, Ptr, Static, Block, Core}
use Rattle.csub_tree.specs.Layout.{begins_with}
use Rattle.csub_tree.specs.Operation.{Answer}
use Rattle.csub_tree.specs.Statement as st
use Rattle.csub_tree.specs.Statement.{read, operand}
use Rattle.csub_tree.specs.declared.tree.COperand.TheVariants.{Var}
use Rattle.ll_code.specs.State.{Frame, State, At}
use Rattle.ll_code.specs.Machine.{step, goes_on, shapes_of}
use Rattle.ll_code.specs.declared.program.LlOp.{LlOp}
use Rattle.ll_code.specs.declared.program.LlExit.{LlExit}
use Rattle.ll_code.specs.declared.program.LlType.{LlType}
use Rattle.ll_code.specs.declared.program.LlProgram.{LlProgram}
use Rattle.ll_live.specs.Live.{among, reads, set_by, live}
use Rattle.refcount_transform.specs.Plan.{Plan, plan_of, is_counted, root_of}
use Rattle.refcount_transform.specs.Changes.{Around, around_of, var_referred, up, touched, dead}
use Rattle.refcount_transform.specs.Counted.{counted}
use Rattle.refcount_laws.specs.Graphs.{Counts, Counting}
use Rattle.refcount_laws.specs.Made.{counts_of}
use Rattle.refcount_laws.specs.Ghost.{Ghost, Fixed, Alone, F, as_first, fixed_at, bare_at, count, memory, LeadsTo, IsCounted}
use Rattle.refcount_laws.specs.Runs.{Leads, here}
use Rattle.refcount_laws.specs.Touched.{block_in}
use Rattle.refcount_laws.specs.Owned.{owned, Leading, DoneTo, hits_by, operand_hits, Roomy}
use Rattle.refcount_laws.specs.Matches.{NearBlock, NearStatic, NearMemory, PointsTo, Pointing, AllRoots, Stands, Comes, Follows}
use Rattle.refcount_laws.proofs.Cells.{set_here, set_other, set_length}
use Rattle.refcount_laws.proofs.Steps.{leads_on, goes}
use Rattle.refcount_laws.proofs.Touching.{is_or_not, there_inside}
use Rattle.refcount_laws.proofs.Moving.{own_same}
use Rattle.refcount_laws.proofs.Numbers.{Based}
use Rattle.refcount_laws.proofs.Places.{rooted, Rooted, given_marked}
use Rattle.refcount_laws.proofs.Alike.{begins_same}
use Rattle.refcount_laws.proofs.Dead.{dead_run}
use Rattle.refcount_laws.proofs.Given.{up_run}
use Rattle.refcount_laws.proofs.Accounts.{used_by, effect_used, effect_owned, value_owned, others}

-- ---- memory that changes only its counts

module _ (plan : Plan) (g g' : Ghost) (same : (b : ℕ) → bare_at g'.blocks b ≡ bare_at g.blocks b) (firsts : (s : ℕ) → as_first (fixed_at g'.statics s) ≡ as_first (fixed_at g.statics s)) where
  static_kept : (block : Block) (d d' : Fixed) → as_first d' ≡ as_first d → NearStatic plan block d → NearStatic plan block d'
  static_kept block (Alone other) (Alone another) e h = let f : other ≡ another = cc in subst (λ x. (block ≡ x) × (is_counted plan block.kind ≡ false)) f h
  static_kept block (Alone other) (F n kind fields items) e h = absurd (cc)
  static_kept block (F n kind fields items) (Alone other) e h = absurd (cc)
  static_kept block (F n kind fields items) (F m kind2 fields2 items2) e h =
      let e1 : kind ≡ kind2 = cc in
      let e2 : fields ≡ fields2 = cc in
      let e3 : items ≡ items2 = cc in
      subst (λ k. NearStatic plan block (F m k fields2 items2)) e1 (subst (λ l. NearStatic plan block (F m kind l items2)) e2 (subst (λ l. NearStatic plan block (F m kind fields l)) e3 h))

  pub near_kept : (blocks : List (Option Block)) (statics : List Block) → length g'.blocks ≡ length g.blocks → length g'.statics ≡ length g.statics → NearMemory plan blocks statics g → NearMemory plan blocks statics g'
  near_kept blocks statics size size_statics near = record {
    size = near.size ∙ sym size;
    each = λ a lt. (let w : (block : Block) × (block_in blocks a ≡ Some block) × NearBlock block (bare_at g.blocks a) = near.each a lt in (w.0, w.1, subst (NearBlock w.0) (sym (same a)) w.2));
    size_statics = near.size_statics ∙ sym size_statics;
    each_static = λ s block e. static_kept block (fixed_at g.statics s) (fixed_at g'.statics s) (firsts s) (near.each_static s block e);
  }

module _ (p : LlProgram) (based : Based p.structs) (counting : Counting (counted p) (counts_of (plan_of p))) (args : List (List ℕ)) (types : List LlType) (roots : AllRoots p types) where
  abbrev plan : Plan
  plan = plan_of p

  abbrev q : LlProgram
  q = counted p

  abbrev c : Counts
  c = counts_of plan

  abbrev around : Around
  around = around_of plan types

  -- where a pointer leads in the program, it leads with its counts
  static_leads : (g : Ghost) (s n : ℕ) (block : Block) (d : Fixed) → fixed_at g.statics s ≡ d → is_counted plan n ≡ true → root_of plan n ≡ n → NearStatic plan block d → begins_with (shapes_of p.structs) block.kind n ≡ true → LeadsTo q g n (Static s)
  static_leads g s n block (Alone other) e counted root near of =
      let w : Rooted p based block.kind n = rooted p based (suc block.kind) block.kind n (omega arith) counted root (sym (begins_same p based block.kind n) ∙ of) in
      absurd (let f : true ≡ false = sym w.counted ∙ near.1 in cc)
  static_leads g s n block (F m kind fields items) e counted root near of =
      (m, kind, fields, items, e, sym (begins_same p based kind n) ∙ ap (λ k. begins_with (shapes_of p.structs) k n) (sym near.0.kind) ∙ of)

  pub value_leads : (blocks : List (Option Block)) (statics : List Block) (g : Ghost) → NearMemory plan blocks statics g → (n : ℕ) (v : Value) → is_counted plan n ≡ true → root_of plan n ≡ n → PointsTo p blocks statics n v → LeadsTo q g n v
  value_leads blocks statics g near n Unset counted root h = absurd h
  value_leads blocks statics g near n (Word z) counted root h = absurd h
  value_leads blocks statics g near n (Byte z) counted root h = absurd h
  value_leads blocks statics g near n (Flag z) counted root h = absurd h
  value_leads blocks statics g near n (Fun z) counted root h = absurd h
  value_leads blocks statics g near n Null counted root h = tt
  value_leads blocks statics g near n (Ptr b) counted root (block, is, of) =
      let w : (block : Block) × (block_in blocks b ≡ Some block) × NearBlock block (bare_at g.blocks b) = near.each b (there_inside blocks b block is) in
      let f : Some block ≡ Some w.0 = sym is ∙ w.1 in
      let e : block ≡ w.0 = cc in
      sym (begins_same p based (bare_at g.blocks b).kind n) ∙ ap (λ k. begins_with (shapes_of p.structs) k n) (sym w.2.kind) ∙ ap (λ x. begins_with (shapes_of p.structs) x.kind n) (sym e) ∙ of
  value_leads blocks statics g near n (Static s) counted root (block, is, of) = static_leads g s n block (fixed_at g.statics s) refl counted root (near.each_static s block is) of

  pub vars_lead : (blocks : List (Option Block)) (statics : List Block) (g : Ghost) (uses : ℕ → Bool) (vars : List Value) → NearMemory plan blocks statics g → Pointing p types blocks statics uses vars → Leading q around g uses vars
  vars_lead blocks statics g uses vars near at = record {
    root = λ v n u e. roots v n e;
    leads = λ v n u e. value_leads blocks statics g near n (read vars v) (given_marked plan.counted (slice_get types v) n e) (roots v n e) (at.at v n u e);
  }

  module _ (own : Value → ℕ) (o : LlOp) (ops rest : List LlOp) (e : LlExit) (ex : LlExit) (frames : List Frame) (b : ℕ) where
    -- ---- the end of each operation: what is no longer live is dropped

    pub finish : (core qcore : Core) (g : Ghost) (h : List (Option Block)) (at : ℕ) → length core.vars ≡ length types → Stands p core qcore g h → Pointing p types core.blocks core.statics (used_by o ops e) core.vars
        → IsCounted q c g (λ r. owned around (used_by o ops e) core.vars r + own r)
        → Comes p args types (live ops e) own (At (dead around (touched o) ops e rest) ex frames (here qcore core.function b at core.vars h (memory g))) rest ex frames b core
    finish core qcore g h at fits stands pointing counted =
        let d : DoneTo q args c g (λ r. owned around (live ops e) core.vars r + own r) (At (dead around (touched o) ops e rest) ex frames (here qcore core.function b at core.vars h (memory g))) rest ex frames qcore core.function b core.vars =
        dead_run q args plan counting types qcore core.function b ex frames core.vars fits (touched o) ops e rest at g h own stands.shown (vars_lead core.blocks core.statics g (used_by o ops e) core.vars stands.near pointing) counted in
        record {
          qcore = qcore;
          g = d.done.later;
          h = d.done.blocks;
          at = d.at;
          stands = record {
            near = near_kept plan g d.done.later d.done.same d.done.same_statics core.blocks core.statics d.done.size d.done.size_statics stands.near;
            shown = d.done.shown;
            steps = stands.steps;
            exc_type = stands.exc_type;
            exc_value = stands.exc_value;
          };
          counts = d.done.counted;
          leads = d.done.leads;
        }

    pub comes_before : (uses : ℕ → Bool) (first from : State) (core : Core) → Leads q args first from → Comes p args types uses own from rest ex frames b core → Comes p args types uses own first rest ex frames b core
    comes_before uses first from core l x = record { qcore = x.qcore; g = x.g; h = x.h; at = x.at; stands = x.stands; counts = x.counts; leads = leads_on q args l x.leads }

    -- an operation that sets nothing
    pub effect_end : (core qcore : Core) (g : Ghost) (h : List (Option Block)) (at : ℕ) → set_by o ≡ None → length core.vars ≡ length types → Stands p core qcore g h → Pointing p types core.blocks core.statics (live (o ∷ ops) e) core.vars
        → IsCounted q c g (λ r. owned around (live (o ∷ ops) e) core.vars r + own r)
        → Comes p args types (live ops e) own (At (dead around (touched o) ops e rest) ex frames (here qcore core.function b at core.vars h (memory g))) rest ex frames b core
    effect_end core qcore g h at none fits stands pointing counted =
        finish core qcore g h at fits stands (record { at = λ v n u r. pointing.at v n (same v ∙ u) r; refers = λ v a u r. pointing.refers v a (same v ∙ u) r })
        (own_same q args c g (λ r. owned around (live (o ∷ ops) e) core.vars r + own r) (λ r. owned around (used_by o ops e) core.vars r + own r) (λ r. ap (λ n. n + own r) (effect_owned around o ops e core.vars r none)) counted)
      where
        same : (v : ℕ) → live (o ∷ ops) e v ≡ used_by o ops e v
        same v = effect_used around o ops e none v

    module _ (a : ℕ) (sets_it : set_by o ≡ Some a) where
      -- an operation that sets a variable
      pub value_end : (core qcore : Core) (g : Ghost) (h : List (Option Block)) (at : ℕ) (v : Value) → a < length core.vars → length core.vars ≡ length types → ((n : ℕ) → var_referred around a ≡ Some n → among a (reads o) ≡ false) → Stands p core qcore g h
          → Pointing p types core.blocks core.statics (live (o ∷ ops) e) core.vars → ((n : ℕ) → var_referred around a ≡ Some n → PointsTo p core.blocks core.statics n v) → ((m : ℕ) → v ≡ Ptr m → (n : ℕ) × (var_referred around a ≡ Some n))
          → IsCounted q c g (λ r. hits_by (var_referred around a) v r + (owned around (live (o ∷ ops) e) core.vars r + own r))
          → Comes p args types (live ops e) own (At (dead around (touched o) ops e rest) ex frames (here qcore core.function b at (slice_set core.vars a v) h (memory g))) rest ex frames b (record core { at = core.at + 1; vars = slice_set core.vars a v })
      value_end core qcore g h at v inside fits unread stands pointing new refers counted =
          finish (record core { at = core.at + 1; vars = slice_set core.vars a v }) qcore g h at (set_length core.vars a v ∙ fits)
          (record { near = stands.near; shown = stands.shown; steps = stands.steps; exc_type = stands.exc_type; exc_value = stands.exc_value }) (record { at = λ w n u r. by w n u r (is_or_not a w); refers = λ w m u r. referred w m u r (is_or_not a w) })
          (own_same q args c g (λ r. hits_by (var_referred around a) v r + (owned around (live (o ∷ ops) e) core.vars r + own r)) (λ r. owned around (used_by o ops e) (slice_set core.vars a v) r + own r)
          (λ r. omega (arith, value_owned around o ops e a sets_it core.vars v r inside unread)) counted)
        where
          referred : (w m : ℕ) → used_by o ops e w ≡ true → read (slice_set core.vars a v) w ≡ Ptr m → (a ≡ w) ⊎ (a ≢ w) → (n : ℕ) × (var_referred around w ≡ Some n)
          referred w m u r (inl f) = subst (λ w. (n : ℕ) × (var_referred around w ≡ Some n)) f (refers m (sym (set_here core.vars a v Unset inside) ∙ ap (read (slice_set core.vars a v)) f ∙ r))
          referred w m u r (inr ne) = pointing.refers w m (sym (others around o ops e a sets_it w (λ q. ne (sym q))) ∙ u) (sym (set_other core.vars a w v Unset ne) ∙ r)

          by : (w n : ℕ) → used_by o ops e w ≡ true → var_referred around w ≡ Some n → (a ≡ w) ⊎ (a ≢ w) → PointsTo p core.blocks core.statics n (read (slice_set core.vars a v) w)
          by w n u r (inl f) = subst (λ w. PointsTo p core.blocks core.statics n (read (slice_set core.vars a v) w)) f (subst (PointsTo p core.blocks core.statics n) (sym (set_here core.vars a v Unset inside)) (new n (ap (var_referred around) f ∙ r)))
          by w n u r (inr ne) =
              subst (PointsTo p core.blocks core.statics n) (sym (set_other core.vars a w v Unset ne)) (pointing.at w n (sym (others around o ops e a sets_it w (λ q. ne (sym q))) ∙ u) r)

      -- what is no reference
      pub plain_end : (core qcore : Core) (g : Ghost) (h : List (Option Block)) (at : ℕ) (v : Value) → a < length core.vars → length core.vars ≡ length types → var_referred around a ≡ None → ((m : ℕ) → v ≡ Ptr m → ⊥) → Stands p core qcore g h
          → Pointing p types core.blocks core.statics (live (o ∷ ops) e) core.vars → IsCounted q c g (λ r. owned around (live (o ∷ ops) e) core.vars r + own r)
          → Comes p args types (live ops e) own (At (dead around (touched o) ops e rest) ex frames (here qcore core.function b at (slice_set core.vars a v) h (memory g))) rest ex frames b (record core { at = core.at + 1; vars = slice_set core.vars a v })
      plain_end core qcore g h at v inside fits none apart stands pointing counted =
          value_end core qcore g h at v inside fits (λ n r. absurd (let f : None ≡ Some n = sym none ∙ r in cc)) stands pointing (λ n r. absurd (let f : None ≡ Some n = sym none ∙ r in cc)) (λ m r. absurd (apart m r))
          (own_same q args c g (λ r. owned around (live (o ∷ ops) e) core.vars r + own r) (λ r. hits_by (var_referred around a) v r + (owned around (live (o ∷ ops) e) core.vars r + own r))
          (λ r. (let z : owned around (live (o ∷ ops) e) core.vars r + own r ≡ 0 + (owned around (live (o ∷ ops) e) core.vars r + own r) = omega arith in z) ∙ ap (λ k. hits_by k v r + (owned around (live (o ∷ ops) e) core.vars r + own r)) (sym none)) counted)

      -- an operator, or what the outside gives
      pub answered_follows : (core qcore : Core) (g : Ghost) (h : List (Option Block)) (at : ℕ) (answer : Answer) → a < length core.vars → length core.vars ≡ length types → var_referred around a ≡ None → ((v : Value) → answer ≡ Ok v → (m : ℕ) → v ≡ Ptr m → ⊥) → Stands p core qcore g h
          → Pointing p types core.blocks core.statics (live (o ∷ ops) e) core.vars → IsCounted q c g (λ r. owned around (live (o ∷ ops) e) core.vars r + own r)
          → step q args (At (o ∷ dead around (touched o) ops e rest) ex frames (here qcore core.function b at core.vars h (memory g)))
          ≡ goes_on (At (dead around (touched o) ops e rest) ex frames) (st.answered (here qcore core.function b at core.vars h (memory g)) a answer)
          → Follows p args types (live ops e) own (At (o ∷ dead around (touched o) ops e rest) ex frames (here qcore core.function b at core.vars h (memory g))) rest ex frames b (st.answered core a answer)
      answered_follows core qcore g h at (Err reason) inside fits none apart stands pointing counted moves = tt
      answered_follows core qcore g h at (Ok v) inside fits none apart stands pointing counted moves =
          comes_before (live ops e) (At (o ∷ dead around (touched o) ops e rest) ex frames (here qcore core.function b at core.vars h (memory g)))
          (At (dead around (touched o) ops e rest) ex frames (here qcore core.function b (at + 1) (slice_set core.vars a v) h (memory g))) (record core { at = core.at + 1; vars = slice_set core.vars a v })
          (goes q args (At (o ∷ dead around (touched o) ops e rest) ex frames (here qcore core.function b at core.vars h (memory g)))
          (At (dead around (touched o) ops e rest) ex frames (here qcore core.function b (at + 1) (slice_set core.vars a v) h (memory g))) moves)
          (plain_end core qcore g h (at + 1) v inside fits none (apart v refl) stands pointing counted)

      -- what is read, and counted
      pub copy_end : (core qcore : Core) (g : Ghost) (h : List (Option Block)) (at k : ℕ) (v : Value) → a < length core.vars → length core.vars ≡ length types → ((n : ℕ) → var_referred around a ≡ Some n → among a (reads o) ≡ false) → Stands p core qcore g h
          → Pointing p types core.blocks core.statics (live (o ∷ ops) e) core.vars → ((n : ℕ) → var_referred around a ≡ Some n → PointsTo p core.blocks core.statics n v) → ((m : ℕ) → v ≡ Ptr m → (n : ℕ) × (var_referred around a ≡ Some n))
          → ((m : ℕ) → v ≡ Ptr m → 0 < count g.blocks m) → Roomy g (suc k) → IsCounted q c g (λ r. owned around (live (o ∷ ops) e) core.vars r + own r)
          → Comes p args types (live ops e) own (At (up around (Var a) (dead around (touched o) ops e rest)) ex frames (here qcore core.function b at (slice_set core.vars a v) h (memory g))) rest ex frames b
          (record core { at = core.at + 1; vars = slice_set core.vars a v })
      copy_end core qcore g h at k v inside fits unread stands pointing new refers alive room counted =
          let now : read (slice_set core.vars a v) a ≡ v = set_here core.vars a v Unset inside in
          let had : Value → ℕ = λ r. owned around (live (o ∷ ops) e) core.vars r + own r in
          let start : State = At (up around (Var a) (dead around (touched o) ops e rest)) ex frames (here qcore core.function b at (slice_set core.vars a v) h (memory g)) in
          let d : DoneTo q args c g (λ r. operand_hits around (slice_set core.vars a v) (Var a) r + had r) start (dead around (touched o) ops e rest) ex frames qcore core.function b (slice_set core.vars a v) =
          up_run q args plan counting types qcore core.function b ex frames (slice_set core.vars a v) g h had (Var a) k at (dead around (touched o) ops e rest) stands.shown (λ n r. roots a n r)
          (λ n r. subst (LeadsTo q g n) (sym now) (value_leads core.blocks core.statics g stands.near n v (given_marked plan.counted (slice_get types a) n r) (roots a n r) (new n r)))
          (λ n m r is. alive m (sym now ∙ is)) room counted in
          let g1 : Ghost = d.done.later in
          comes_before (live ops e) start (At (dead around (touched o) ops e rest) ex frames (here qcore core.function b d.at (slice_set core.vars a v) d.done.blocks (memory g1))) (record core { at = core.at + 1; vars = slice_set core.vars a v }) d.done.leads
          (value_end core qcore g1 d.done.blocks d.at v inside fits unread
          (record { near = near_kept plan g g1 d.done.same d.done.same_statics core.blocks core.statics d.done.size d.done.size_statics stands.near; shown = d.done.shown; steps = stands.steps; exc_type = stands.exc_type; exc_value = stands.exc_value })
          pointing new refers
          (own_same q args c g1 (λ r. operand_hits around (slice_set core.vars a v) (Var a) r + had r) (λ r. hits_by (var_referred around a) v r + had r) (λ r. ap (λ x. hits_by (var_referred around a) x r + had r) now) d.done.counted))
