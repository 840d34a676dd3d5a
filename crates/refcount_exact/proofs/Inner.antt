-- The references that are counted in blocks and slots are all that stand there.
use Rattle.std.proofs.Common.{◌≡◌, inl, inr, ◌<◌, ℕ, zero, suc, ◌+◌, Bool, true, false, List, [], ◌∷◌, ◌++◌, length, Option, Some, None, refl, sym, ap, ◌∙◌, subst, arith}
use Rattle.std.specs.Prelude.{slice_get}
use Rattle.csub_tree.specs.Operation.{is_unset}
use Rattle.csub_tree.specs.State.{Value, Unset, Null, Ptr, Block, Core}
use Rattle.csub_tree.specs.Statement.{read}
use Rattle.ll_code.specs.Typed.{IsWellTyped, items_of}
use Rattle.ll_code.specs.declared.program.LlType.{LlType}
use Rattle.ll_code.specs.declared.program.LlType.TheVariants as type
use Rattle.ll_code.specs.declared.program.LlOp.{LlOp}
use Rattle.ll_code.specs.declared.program.LlOp.TheVariants as op
use Rattle.ll_code.specs.declared.program.LlBlock.{LlBlock}
use Rattle.ll_code.specs.declared.program.LlGraph.{LlGraph}
use Rattle.ll_code.specs.declared.program.LlProgram.{LlProgram}
use Rattle.ll_held.specs.Held.{times, is_block, is_reference, cells}
use Rattle.ll_held.specs.Roots.{slots}
use Rattle.ll_held.proofs.Keeping.{times_append, block_is}
use Rattle.ll_laws.specs.Fields.{fields_of}
use Rattle.ll_laws.specs.Fits.{Fits, BlockFits, MemoryFits}
use Rattle.ll_laws.proofs.Values.{and_left}
use Rattle.ll_points.specs.Agrees as agrees
use Rattle.ll_points.specs.Agrees.{Slots, Agrees, slots_of}
use Rattle.ll_points.specs.Points.{Leads, LeadsBy, BlockLeads, SlotsLead, MemoryLeads}
use Rattle.refcount_transform.specs.Plan.{plan_of, is_counted, reference_to, reference_given, items_referred}
use Rattle.refcount_laws.specs.Graphs.{Counts}
use Rattle.refcount_laws.specs.Ghost.{Ghost, Slot, S, no_slot, slot_at, count_of, count, bare, bare_at, shown, hit, occurs, references, field_references, item_references, held_by}
use Rattle.refcount_laws.specs.Ghost as ghost_
use Rattle.refcount_laws.specs.Made.{counts_of}
use Rattle.refcount_laws.specs.Matches.{Near, NearBlock, NearMemory}
use Rattle.refcount_laws.specs.Owned.{hits_by}
use Rattle.refcount_laws.specs.Slots.{slot_hits}
use Rattle.refcount_laws.specs.Touched.{block_in}
use Rattle.refcount_laws.proofs.Numbers.{Based, all_based}
use Rattle.refcount_typed.specs.Leads.{LeadsToRoots}
use Rattle.refcount_ready.proofs.Pointers.{begins_counted, counted_refers, typed_at}
use Rattle.refcount_ready.proofs.Slots.{Found, slots_found}
use Rattle.refcount_ready.proofs.Tests.{all_roots}
use Rattle.refcount_exact.specs.Exact.{in_blocks}
use Rattle.refcount_exact.proofs.Hits.{hit_block, hit_times, occurs_times, no_place, fields_exact}
use Rattle.refcount_exact.proofs.Places.{all_distinct, each_place}

-- ---- blocks of the counted program

occurs_two : (r : Value) (xs ys : List Value) → occurs r (xs ++ ys) ≡ occurs r xs + occurs r ys
occurs_two r [] ys = omega arith
occurs_two r (x ∷ xs) ys = omega (arith, occurs_two r xs ys)

inside_count : (g : List Slot) (a : ℕ) → 0 < count g a → a < length g
inside_count [] a h = absurd (past a h)
  where
    past : (a : ℕ) → 0 < count [] a → ⊥
    past zero h = omega (arith, h)
    past (suc a) h = omega (arith, h)
inside_count (d ∷ g) zero h = omega arith
inside_count (d ∷ g) (suc a) h = omega (arith, inside_count g a h)

-- the references that are counted in the block are its cells that hold b
abbrev pub Counts_all : Counts → ℕ → Block → Type 0
Counts_all c b block = occurs (Ptr b) (references c block) ≡ times b block.fields + times b block.items

module _ (c : Counts) (b : ℕ) where
  cell_sum : (o : Option Block) (d : Slot) → o ≡ shown c d → (0 < count_of d → Counts_all c b (bare d)) → times b (cells o) ≡ held_by c d (Ptr b)
  cell_sum o (S zero kind fields items) e edge = ap (λ o. times b (cells o)) e
  cell_sum o (S (suc n) kind fields items) e edge =
      let x : times b (fields ++ items) ≡ times b fields + times b items = times_append b fields items in
      ap (λ o. times b (cells o)) e ∙ x ∙ sym (edge (omega arith))

  pub sums : (h : List (Option Block)) (g : List Slot) → ((a : ℕ) → block_in h a ≡ shown c (slot_at g a)) → ((a : ℕ) → 0 < count g a → Counts_all c b (bare_at g a)) → in_blocks h b ≡ ghost_.inner c g (Ptr b)
  sums [] [] at edge = refl
  sums [] (d ∷ g) at edge =
      let x : times b (cells None) ≡ held_by c d (Ptr b) = cell_sum None d (at 0) (edge 0) in
      let y : in_blocks [] b ≡ ghost_.inner c g (Ptr b) = sums [] g (λ a. at (suc a)) (λ a. edge (suc a)) in
      omega (arith, x, y)
  sums (o ∷ h) [] at edge =
      let x : times b (cells o) ≡ 0 = ap (λ o. times b (cells o)) (at 0) in
      let y : in_blocks h b ≡ ghost_.inner c [] (Ptr b) = sums h [] (λ a. at (suc a)) (λ a lt. absurd (omega (arith, lt))) in
      omega (arith, x, y)
  sums (o ∷ h) (d ∷ g) at edge =
      let x : times b (cells o) ≡ held_by c d (Ptr b) = cell_sum o d (at 0) (edge 0) in
      let y : in_blocks h b ≡ ghost_.inner c g (Ptr b) = sums h g (λ a. at (suc a)) (λ a. edge (suc a)) in
      omega (arith, x, y)

-- ---- the program that sets its slots has such an operation

record Sets (ops : List LlOp) : Type 0 where
  at : ℕ
  a : ℕ
  b : ℕ
  is : slice_get ops at ≡ Some (op.ExcSet a b)

sets_here : (types : List LlType) (o : LlOp) (x : ℕ × ℕ) (ops : List LlOp) → agrees.slots_set types o ≡ Some x → Sets (o ∷ ops)
sets_here types (op.ExcSet a b) x ops e = record { at = 0; a = a; b = b; is = refl }
sets_here types other x ops e = absurd (cc)

sets_in : (types : List LlType) (ops : List LlOp) (x : ℕ × ℕ) → agrees.slots_in types ops ≡ Some x → Sets ops
sets_in types [] x e = absurd (cc)
sets_in types (o ∷ ops) x e = by (agrees.slots_set types o) refl e (λ e. sets_in types ops x e)
  where
    by : (s : Slots) → agrees.slots_set types o ≡ s → agrees.or_else s (agrees.slots_in types ops) ≡ Some x → (agrees.slots_in types ops ≡ Some x → Sets ops) → Sets (o ∷ ops)
    by None f e go = let w : Sets ops = go e in record { at = suc w.at; a = w.a; b = w.b; is = w.is }
    by (Some y) f e go = sets_here types o y ops f

record SetsWithin (blocks : List LlBlock) : Type 0 where
  n : ℕ
  block : LlBlock
  of : slice_get blocks n ≡ Some block
  sets : Sets block.ops

sets_within : (types : List LlType) (blocks : List LlBlock) (x : ℕ × ℕ) → agrees.slots_within types blocks ≡ Some x → SetsWithin blocks
sets_within types [] x e = absurd (cc)
sets_within types (block ∷ blocks) x e = by (agrees.slots_in types block.ops) refl e (λ e. sets_within types blocks x e)
  where
    by : (s : Slots) → agrees.slots_in types block.ops ≡ s → agrees.or_else s (agrees.slots_within types blocks) ≡ Some x → (agrees.slots_within types blocks ≡ Some x → SetsWithin blocks) → SetsWithin (block ∷ blocks)
    by None f e go = let w : SetsWithin blocks = go e in record { n = suc w.n; block = w.block; of = w.of; sets = w.sets }
    by (Some y) f e go = record { n = 0; block = block; of = refl; sets = sets_in types block.ops y f }

record SetsAmong (graphs : List LlGraph) : Type 0 where
  f : ℕ
  graph : LlGraph
  there : slice_get graphs f ≡ Some graph
  sets : SetsWithin graph.blocks

sets_among : (graphs : List LlGraph) (x : ℕ × ℕ) → agrees.slots_among graphs ≡ Some x → SetsAmong graphs
sets_among [] x e = absurd (cc)
sets_among (graph ∷ graphs) x e = by (agrees.slots_within graph.types graph.blocks) refl e (λ e. sets_among graphs x e)
  where
    by : (s : Slots) → agrees.slots_within graph.types graph.blocks ≡ s → agrees.or_else s (agrees.slots_among graphs) ≡ Some x → (agrees.slots_among graphs ≡ Some x → SetsAmong graphs) → SetsAmong (graph ∷ graphs)
    by None f e go = let w : SetsAmong graphs = go e in record { f = suc w.f; graph = w.graph; there = w.there; sets = w.sets }
    by (Some y) f e go = record { f = 0; graph = graph; there = refl; sets = sets_within graph.types graph.blocks y f }

-- ---- what holds a block that is there

near_pointer : (x y : Value) (b : ℕ) → Near x y → y ≡ Ptr b → x ≡ Ptr b
near_pointer x y b (inl e) f = e ∙ f
near_pointer x y b (inr (e, n)) f = absurd (let z : true ≡ false = sym (ap is_reference f) ∙ n in cc)

no_item : (items : List Value) (i : ℕ) → length items ≡ 0 → read items i ≡ Unset
no_item [] i e = refl
no_item (x ∷ items) i e = absurd (omega (arith, e))

module _ (p : LlProgram) (ok : IsWellTyped p) (core : Core) (g : Ghost) (near : NearMemory (plan_of p) core.blocks core.statics g)
    (kinds : (a : ℕ) → 0 < count g.blocks a → is_counted (plan_of p) (bare_at g.blocks a).kind ≡ true) (fits : MemoryFits p core.blocks core.statics core.exc_type core.exc_value) (lead : MemoryLeads p (slots_of p) core) (b : ℕ) (there : 0 < count g.blocks b) where
  based : Based p.structs
  based = all_based p.structs (and_left _ _ (and_left _ _ (and_left _ _ ok)))

  record At (a : ℕ) : Type 0 where
    block : Block
    is : block_in core.blocks a ≡ Some block
    near_ : NearBlock block (bare_at g.blocks a)

  stands : (a : ℕ) → 0 < count g.blocks a → At a
  stands a lt = let w : (block : Block) × (block_in core.blocks a ≡ Some block) × NearBlock block (bare_at g.blocks a) = near.each a (omega (arith, inside_count g.blocks a lt, near.size)) in record { block = w.0; is = w.1; near_ = w.2 }

  -- what begins the block is counted
  begun : (n : ℕ) → Leads p core.blocks core.statics n (Ptr b) → is_counted (plan_of p) n ≡ true
  begun n (block, is, h) =
      let w : At b = stands b there in
      let same : w.block ≡ block = (let e : Some w.block ≡ Some block = sym w.is ∙ is in cc) in
      begins_counted p based block.kind n (ap (is_counted (plan_of p)) (ap (λ x. x.kind) (sym same) ∙ w.near_.kind) ∙ kinds b there) h

  refers : (t : LlType) → Fits p (length core.blocks) t (Ptr b) → LeadsBy p core.blocks core.statics t (Ptr b) → (n : ℕ) × (reference_to (plan_of p).counted t ≡ Some n)
  refers type.Signed fit lead = absurd fit
  refers type.Char fit lead = absurd fit
  refers type.Bool fit lead = absurd fit
  refers type.Void fit lead = absurd fit
  refers type.Fn fit lead = absurd fit
  refers (type.Ptr n) fit lead = (n, counted_refers p n (begun n lead))

  -- ---- cells

  pub all_counted : (a : ℕ) → 0 < count g.blocks a → Counts_all (counts_of (plan_of p)) b (bare_at g.blocks a)
  all_counted a lt =
      occurs_two (Ptr b) (field_references ((counts_of (plan_of p)).held kind) (bare_at g.blocks a).fields) (item_references ((counts_of (plan_of p)).items kind) (bare_at g.blocks a).items)
      ∙ (let x : occurs (Ptr b) (field_references ((counts_of (plan_of p)).held kind) (bare_at g.blocks a).fields) ≡ times b (bare_at g.blocks a).fields = fields_exact b ((counts_of (plan_of p)).held kind) (bare_at g.blocks a).fields (all_distinct p based kind (kinds a lt)) place in
      let y : occurs (Ptr b) (item_references ((counts_of (plan_of p)).items kind) (bare_at g.blocks a).items) ≡ times b (bare_at g.blocks a).items = items ((counts_of (plan_of p)).items kind) refl in
      omega (arith, x, y))
    where
      kind : ℕ
      kind = (bare_at g.blocks a).kind

      w : At a
      w = stands a lt

      of : BlockFits p (length core.blocks) w.block
      of = fits.each a w.block w.is

      leads : BlockLeads p core.blocks core.statics w.block
      leads = lead.each a w.block w.is

      place : (j : ℕ) → read (bare_at g.blocks a).fields j ≡ Ptr b → Rattle.refcount_exact.proofs.Hits.HasPlace j ((counts_of (plan_of p)).held kind)
      place j e =
          let is : read w.block.fields j ≡ Ptr b = near_pointer (read w.block.fields j) (read (bare_at g.blocks a).fields j) b (w.near_.fields.at j) e in
          let v : (t : LlType) × (slice_get (fields_of p.structs w.block.kind) j ≡ Some t) = typed_at (fields_of p.structs w.block.kind) w.block.fields j of.fields.count (ap is_unset is) in
          let r : (n : ℕ) × (reference_to (plan_of p).counted v.0 ≡ Some n) = refers v.0 (subst (Fits p (length core.blocks) v.0) is (of.fields.at j v.0 v.1)) (subst (LeadsBy p core.blocks core.statics v.0) is (leads.fields j v.0 v.1)) in
          each_place p based (and_left _ _ (and_left _ _ (and_left _ _ ok))) kind j r.0 v.0 (kinds a lt) (ap (λ k. slice_get (fields_of p.structs k) j) (sym w.near_.kind) ∙ v.1) r.1

      item : (i : ℕ) → read (bare_at g.blocks a).items i ≡ Ptr b → items_referred (plan_of p) kind ≡ None → ⊥
      item i e none = by (items_of (slice_get p.structs w.block.kind)) refl
        where
          is : read w.block.items i ≡ Ptr b
          is = near_pointer (read w.block.items i) (read (bare_at g.blocks a).items i) b (w.near_.items.at i) e

          by : (o : Option LlType) → items_of (slice_get p.structs w.block.kind) ≡ o → ⊥
          by None f = let x : Unset ≡ Ptr b = sym (no_item w.block.items i (of.none f)) ∙ is in cc
          by (Some t) f =
              let r : (n : ℕ) × (reference_to (plan_of p).counted t ≡ Some n) = refers t (subst (Fits p (length core.blocks) t) is (of.items i t f)) (subst (LeadsBy p core.blocks core.statics t) is (leads.items i t f)) in
              let x : items_referred (plan_of p) kind ≡ Some r.0 = ap (items_referred (plan_of p)) (sym w.near_.kind) ∙ ap (reference_given (plan_of p).counted) f ∙ r.1 in
              let y : None ≡ Some r.0 = sym none ∙ x in
              cc

      items : (o : Option ℕ) → items_referred (plan_of p) kind ≡ o → occurs (Ptr b) (item_references o (bare_at g.blocks a).items) ≡ times b (bare_at g.blocks a).items
      items None e = sym (no_place b (bare_at g.blocks a).items (λ i f. item i f e))
      items (Some m) e = occurs_times b (bare_at g.blocks a).items

  -- ---- slots

  slot_one : (o : Option ℕ) (k : ℕ) (w : Value) → o ≡ reference_to (plan_of p).counted (type.Ptr k) → Leads p core.blocks core.statics k w → hits_by o w (Ptr b) ≡ hit (Ptr b) w
  slot_one o k w e h = by (is_block b w) refl
    where
      none : (o : Option ℕ) → hit (Ptr b) w ≡ 0 → hits_by o w (Ptr b) ≡ hit (Ptr b) w
      none None f = sym f
      none (Some n) f = refl

      by : (y : Bool) → is_block b w ≡ y → hits_by o w (Ptr b) ≡ hit (Ptr b) w
      by true f = (let c : is_counted (plan_of p) k ≡ true = begun k (subst (Leads p core.blocks core.statics k) (block_is b w f) h) in ap (λ o. hits_by o w (Ptr b)) (e ∙ counted_refers p k c))
      by false f = none o (hit_block b w ∙ ap Rattle.refcount_exact.proofs.Hits.one_if f)

  null_hits : (o : Option ℕ) → hits_by o Null (Ptr b) ≡ 0
  null_hits None = refl
  null_hits (Some n) = refl

  pub slots_counted : Agrees (slots_of p) p → LeadsToRoots p → slot_hits (plan_of p) core.exc_type core.exc_value (Ptr b) ≡ times b (slots core)
  slots_counted agree leads = by (slots_of p) refl agree lead.held
    where
      both : hits_by (plan_of p).slots.kind core.exc_type (Ptr b) ≡ hit (Ptr b) core.exc_type → hits_by (plan_of p).slots.value core.exc_value (Ptr b) ≡ hit (Ptr b) core.exc_value → slot_hits (plan_of p) core.exc_type core.exc_value (Ptr b) ≡ times b (slots core)
      both x y = omega (arith, x, y, hit_times b core.exc_type (core.exc_value ∷ []), hit_times b core.exc_value [])

      by : (s : Slots) → slots_of p ≡ s → Agrees s p → SlotsLead p s core → slot_hits (plan_of p) core.exc_type core.exc_value (Ptr b) ≡ times b (slots core)
      by None e agree (k, v) = both
          (ap (λ w. hits_by (plan_of p).slots.kind w (Ptr b)) k ∙ null_hits (plan_of p).slots.kind ∙ sym (ap (hit (Ptr b)) k))
          (ap (λ w. hits_by (plan_of p).slots.value w (Ptr b)) v ∙ null_hits (plan_of p).slots.value ∙ sym (ap (hit (Ptr b)) v))
      by (Some (k, v)) e agree (x, y) =
          let w : SetsAmong p.graphs = sets_among p.graphs (k, v) e in
          let f : Found p k v (plan_of p).slots =
          slots_found p k v (λ f graph there. all_roots p leads f graph there) agree w.graph w.sets.sets.a w.sets.sets.b (record { f = w.f; there = w.there; n = w.sets.n; block = w.sets.block; of = w.sets.of; at = w.sets.sets.at; is = w.sets.sets.is }) in
          both (slot_one (plan_of p).slots.kind k core.exc_type f.kind x) (slot_one (plan_of p).slots.value v core.exc_value f.value y)
