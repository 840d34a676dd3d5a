-- Writes of items are followed.
use Rattle.std.proofs.Common.{◌≡◌, ◌<◌, ℕ, zero, suc, ◌+◌, Bool, true, false, ◌||◌, List, [], ◌∷◌, ◌++◌, length, Option, Some, None, Ok, Err, refl, sym, ap, ◌∙◌, subst, arith}
use Rattle.std.specs.Prelude.{slice_get, slice_set}
use Rattle.csub_tree.specs.State.{Value, Unset, Word, Byte, Flag, Fun, Null, Ptr, Static, Block, Core, After, Stuck}
use Rattle.csub_tree.specs.Layout.{begins_with}
use Rattle.csub_tree.specs.Operation.{is_unset}
use Rattle.csub_tree.specs.Statement as st
use Rattle.csub_tree.specs.Statement.{read, operand}
use Rattle.csub_tree.specs.declared.tree.COperand.{COperand}
use Rattle.csub_tree.specs.declared.tree.COperand.TheVariants.{Var}
use Rattle.ll_code.specs.State.{Frame, State, At}
use Rattle.ll_code.specs.Machine.{does, shapes_of}
use Rattle.ll_code.specs.declared.program.LlOp.{LlOp}
use Rattle.ll_code.specs.declared.program.LlOp.TheVariants as op
use Rattle.ll_code.specs.declared.program.LlExit.{LlExit}
use Rattle.ll_code.specs.declared.program.LlType.{LlType}
use Rattle.ll_code.specs.declared.program.LlProgram.{LlProgram}
use Rattle.ll_live.specs.Live.{among, sets, live}
use Rattle.refcount_transform.specs.Plan.{Plan, plan_of, is_counted, root_of, reference_given}
use Rattle.refcount_transform.specs.Changes.{Around, around_of, var_referred, touched, dead}
use Rattle.refcount_transform.specs.Counted.{counted}
use Rattle.refcount_laws.specs.Graphs.{Counts, Counting}
use Rattle.refcount_laws.specs.Made.{counts_of}
use Rattle.refcount_laws.specs.Ghost.{Ghost, bare_at, count, memory, hit, LeadsTo, IsCounted}
use Rattle.refcount_laws.specs.Runs.{here}
use Rattle.refcount_laws.specs.Touched.{block_in, Done}
use Rattle.refcount_laws.specs.Owned.{owned, Roomy}
use Rattle.refcount_laws.specs.Matches.{NearBlock, NearMemory, PointsTo, Pointing, AllRoots, Stands, Comes, Follows}
use Rattle.refcount_laws.proofs.Touching.{there_inside}
use Rattle.refcount_laws.proofs.Moving.{own_same}
use Rattle.refcount_laws.proofs.Numbers.{Based}
use Rattle.refcount_laws.proofs.Alike.{begins_same}
use Rattle.std.specs.Prelude.{ℤ, pos, negsuc, cond, nat_lt}
use Rattle.csub_tree.specs.Operation.{word_of}
use Rattle.csub_tree.specs.declared.stuck.StuckReason.TheVariants.{Unset as IsUnset}
use Rattle.refcount_transform.specs.Changes.{changed}
use Rattle.refcount_laws.proofs.Following.{near_kept, value_leads, comes_before, effect_end}
use Rattle.std.specs.Prelude.{not, ◌&&◌}
use Rattle.ll_live.specs.Live.{variables_of}
use Rattle.refcount_laws.proofs.Dead.{same_is}
use Rattle.std.specs.Prelude.{Result}
use Rattle.csub_tree.specs.declared.stuck.StuckReason.{StuckReason}
use Rattle.ll_laws.proofs.Values.{is_less}
use Rattle.csub_tree.specs.Statement.{block_at, reached, as_struct, on_block}
use Rattle.csub_tree.specs.declared.stuck.StuckReason.TheVariants.{Outside}
use Rattle.ll_code.specs.Typed.{items_of, structs_ok}
use Rattle.ll_laws.proofs.Cells.{all_laid}
use Rattle.ll_held.proofs.Calming.{reached_there}
use Rattle.refcount_laws.specs.Made.{shapes_counted}
use Rattle.refcount_laws.specs.Ghost.{S, bare, shown, occurs, field_references, item_references, references, IsWhole}
use Rattle.refcount_laws.proofs.Ghosts.{There, there, occurs_both}
use Rattle.refcount_laws.proofs.Copying.{owned_has, no_null}
use Rattle.csub_tree.specs.Statement.{stored}
use Rattle.refcount_transform.specs.Plan.{counts_at}
use Rattle.refcount_transform.specs.Changes.{set_item_by}
use Rattle.refcount_laws.specs.Graphs.{StandsWith, put_item_block, put_item_types}
use Rattle.refcount_laws.specs.Ghost.{written, ItemsLead}
use Rattle.refcount_laws.proofs.Leading.{fields_by_kind}
use Rattle.refcount_laws.proofs.Given.{room_for}
use Rattle.refcount_laws.proofs.Writing.{kinds_then, written_counted, written_shown}
use Rattle.refcount_laws.proofs.Storing.{put_item_done, store_step}
use Rattle.refcount_laws.proofs.Getting.{reached_begins}
use Rattle.refcount_laws.specs.Ghost.{Fixed, Alone, F, fixed_at, shown_fixed}
use Rattle.refcount_laws.specs.Matches.{NearStatic}
use Rattle.refcount_laws.proofs.Members.{counted_alike}
use Rattle.refcount_laws.proofs.Leading.{static_there}
use Rattle.refcount_laws.proofs.FixedWrites.{fixed_counted, fixed_memory, fixed_near, fixed_pointing}
use Rattle.ll_code.specs.State.{Goes}
use Rattle.refcount_laws.proofs.Setting.{near_cell, near_written, pointing_after}
use Rattle.refcount_transform.specs.Plan.{items_referred}

module _ (p : LlProgram) (based : Based p.structs) (counting : Counting (counted p) (counts_of (plan_of p))) (args : List (List ℕ)) (types : List LlType) (roots : AllRoots p types) (own : Value → ℕ) (ops rest : List LlOp) (e : LlExit) (ex : LlExit)
    (frames : List Frame) (b : ℕ) (core qcore : Core) (g : Ghost) (h : List (Option Block)) (at : ℕ) (fits : length core.vars ≡ length types) (stands : Stands p core qcore g h) (k : ℕ) (room : Roomy g (suc k))
    (laid : structs_ok p.structs 0 p.structs ≡ true) where
  abbrev plan : Plan
  plan = plan_of p

  abbrev q : LlProgram
  q = counted p

  abbrev c : Counts
  c = counts_of plan

  abbrev around : Around
  around = around_of plan types

  module _ (n v : ℕ) (y x : COperand) (t : LlType) (are_items : items_of (slice_get p.structs n) ≡ Some t) where
    abbrev q_here : List LlOp → State
    q_here l = At l ex frames (here qcore core.function b at core.vars h (memory g))

    abbrev behind : List LlOp
    behind = dead around (touched (op.SetItem n v y x)) ops e rest

    abbrev core_after : ℕ → Block → ℕ → Core
    core_after a block i = record core { at = core.at + 1; blocks = slice_set core.blocks a (Some (record block { items = slice_set block.items i (operand core.vars x) })) }

    used : live (op.SetItem n v y x ∷ ops) e v ≡ true
    used = ap (λ z. (z || among v (variables_of y ++ variables_of x)) || (not (sets None v) && live ops e v)) (same_is v)

    inside_types : (ts : List LlType) (v n : ℕ) → reference_given plan.counted (slice_get ts v) ≡ Some n → v < length ts
    inside_types [] v n e = absurd (cc)
    inside_types (t ∷ ts) zero n e = omega arith
    inside_types (t ∷ ts) (suc v) n e = omega (arith, inside_types ts v n e)

    owns_it : (m : ℕ) → Pointing p types core.blocks core.statics (live (op.SetItem n v y x ∷ ops) e) core.vars → read core.vars v ≡ Ptr m → 0 < owned around (live (op.SetItem n v y x ∷ ops) e) core.vars (Ptr m)
    owns_it m pointing is =
        let z : (n : ℕ) × (var_referred around v ≡ Some n) = pointing.refers v m used is in
        let lt : v < length core.vars = (let l : v < length types = inside_types types v z.0 z.1 in omega (arith, l, fits)) in
        owned_has around 0 (live (op.SetItem n v y x ∷ ops) e) core.vars v z.0 m lt used z.1 is

    -- a block of which an item is written
    module _ (a i : ℕ) (block : Block) (is_a : read core.vars v ≡ Ptr a) (found : reached core (shapes_of p.structs) n (Ptr a) ≡ Ok block) (within : i < length block.items) (index : operand core.vars y ≡ Word (pos i))
        (pointing : Pointing p types core.blocks core.statics (live (op.SetItem n v y x ∷ ops) e) core.vars) (counts : IsCounted q c g (λ r. owned around (live (op.SetItem n v y x ∷ ops) e) core.vars r + own r)) where
      abbrev had : Value → ℕ
      had = λ r. owned around (live (op.SetItem n v y x ∷ ops) e) core.vars r + own r

      is : block_in core.blocks a ≡ Some block
      is = reached_there core (shapes_of p.structs) n (Ptr a) block found

      of : begins_with (shapes_of p.structs) block.kind n ≡ true
      of = reached_begins p core n (Ptr a) block found

      alive_a : 0 < count g.blocks a
      alive_a = let l : 0 < owned around (live (op.SetItem n v y x ∷ ops) e) core.vars (Ptr a) = owns_it a pointing is_a in omega (arith, l, counts.blocks a)

      d : There g.blocks a
      d = there g.blocks a alive_a

      abbrev bare_d : Block
      bare_d = record { kind = d.kind; fields = d.fields; items = d.items }

      both : NearBlock block bare_d
      both =
          let near : (block : Block) × (block_in core.blocks a ≡ Some block) × NearBlock block (bare_at g.blocks a) = stands.near.each a (there_inside core.blocks a block is) in
          let f : Some near.0 ≡ Some block = sym near.1 ∙ is in
          let same : near.0 ≡ block = cc in
          subst (λ x. NearBlock block x) (ap bare d.is) (subst (λ x. NearBlock x (bare_at g.blocks a)) same near.2)

      whole : IsWhole q c g bare_d
      whole = subst (IsWhole q c g) (ap bare d.is) (counts.whole a alive_a)

      of_d : begins_with (shapes_counted plan) d.kind n ≡ true
      of_d = sym (begins_same p based d.kind n) ∙ ap (λ k. begins_with (shapes_of p.structs) k n) (sym both.kind) ∙ of

      -- it is a block of the struct itself
      kind_is : d.kind ≡ n
      kind_is = sym both.kind ∙ sym ((all_laid p.structs laid).items block.kind n t of are_items)

      within_d : i < length d.items
      within_d = omega (arith, within, both.items.size)

      abbrev block2 : Block
      block2 = record block { items = slice_set block.items i (operand core.vars x) }

      near2 : NearBlock block2 (record { kind = d.kind; fields = d.fields; items = slice_set d.items i (operand core.vars x) })
      near2 = record { kind = both.kind; fields = both.fields; items = near_cell block.items d.items i (operand core.vars x) both.items }

      abbrev g2 : Ghost
      g2 = written g a (S (suc d.n) d.kind d.fields (slice_set d.items i (operand core.vars x)))

      near_after : NearMemory plan (slice_set core.blocks a (Some block2)) core.statics g2
      near_after = near_written p core.blocks core.statics g stands.near a d.n d.kind d.fields d.items d.fields (slice_set d.items i (operand core.vars x)) d.is block2 near2

      points_after : Pointing p types (slice_set core.blocks a (Some block2)) core.statics (live (op.SetItem n v y x ∷ ops) e) core.vars
      points_after = pointing_after p core.blocks core.statics g stands.near a d.n d.kind d.fields d.items d.fields (slice_set d.items i (operand core.vars x)) d.is block2 near2 types block is refl (live (op.SetItem n v y x ∷ ops) e) core.vars pointing

      -- items that are no references
      plain_item : items_referred plan n ≡ None → is_unset (operand core.vars x) ≡ false → Comes p args types (live ops e) own (q_here (op.SetItem n v y x ∷ behind)) rest ex frames b (core_after a block i)
      plain_item none set =
          let items2 : List Value = slice_set d.items i (operand core.vars x) in
          let refer : c.items d.kind ≡ None = ap (λ k. items_referred plan k) kind_is ∙ none in
          let kinds : (b : ℕ) → (bare_at g2.blocks b).kind ≡ (bare_at g.blocks b).kind = kinds_then q args c g had a d.n d.kind d.fields d.items d.fields items2 d.is Null Null in
          let whole2 : IsWhole q c g2 (record { kind = d.kind; fields = d.fields; items = items2 }) = record {
            counted = whole.counted;
            fields = fields_by_kind q c g g2 kinds (λ s. refl) (c.held d.kind) d.fields whole.fields;
            items = subst (λ o. ItemsLead q c g2 o (record { kind = d.kind; fields = d.fields; items = items2 })) (sym refer) tt;
          } in
          let none_in : (r : Value) (l : List Value) → occurs r (item_references (c.items d.kind) l) ≡ 0 = λ r l. ap (λ o. occurs r (item_references o l)) refer in
          let same : (r : Value) → occurs r (references c (record { kind = d.kind; fields = d.fields; items = items2 })) + hit r Null ≡ occurs r (references c bare_d) + hit r Null = λ r.
          omega (arith, occurs_both r (field_references (c.held d.kind) d.fields) (item_references (c.items d.kind) items2), occurs_both r (field_references (c.held d.kind) d.fields) (item_references (c.items d.kind) d.items), none_in r items2, none_in r d.items) in
          let counts2 : IsCounted q c g2 had =
          own_same q args c g2 (λ r. hit r Null + had r) had (λ r. omega (arith, no_null r))
          (written_counted q args c g had a d.n d.kind d.fields d.items d.fields items2 d.is Null Null (own_same q args c g had (λ r. hit r Null + had r) (λ r. omega (arith, no_null r)) counts) same whole2) in
          let shown_d : Block = record { kind = d.kind; fields = Word (pos (suc d.n)) ∷ Fun (c.release d.kind) ∷ d.fields; items = d.items } in
          let h2 : List (Option Block) = slice_set h a (shown c (S (suc d.n) d.kind d.fields items2)) in
          comes_before p based counting args types roots own (op.SetItem n v y x) ops rest e ex frames b (live ops e) (q_here (op.SetItem n v y x ∷ behind)) (At behind ex frames (here qcore core.function b (at + 1) core.vars h2 (memory g2))) (core_after a block i)
          (store_step q args qcore core.function b ex frames n v at i y x behind core.vars h (memory g) (Ptr a) (operand core.vars x) shown_d (At behind ex frames (here qcore core.function b (at + 1) core.vars h2 (memory g2))) is_a refl index within_d refl set
          (stands.shown.at a ∙ ap (shown c) d.is) of_d refl)
          (effect_end p based counting args types roots own (op.SetItem n v y x) ops rest e ex frames b (core_after a block i) qcore g2 h2 (at + 1) refl fits
          (record { near = near_after; shown = written_shown q args c g had a d.n d.kind d.fields d.items d.fields items2 d.is Null Null h stands.shown; steps = stands.steps; exc_type = stands.exc_type; exc_value = stands.exc_value }) points_after counts2)

      -- items that are
      reference_item : (m put : ℕ) → items_referred plan n ≡ Some m → StandsWith q put (0 ∷ 1 ∷ 2 ∷ []) (put_item_types c n m) (put_item_block c n m ∷ []) → PointsTo p core.blocks core.statics m (operand core.vars x) → root_of plan m ≡ m → is_counted plan m ≡ true
          → ((z : ℕ) → operand core.vars x ≡ Ptr z → 0 < count g.blocks z) → Comes p args types (live ops e) own (q_here (op.Call None put (Var v ∷ y ∷ x ∷ []) ∷ behind)) rest ex frames b (core_after a block i)
      reference_item m put refers stand points root_m counted_m alive_x =
          let items2 : List Value = slice_set d.items i (operand core.vars x) in
          let refer : c.items d.kind ≡ Some m = ap (λ k. items_referred plan k) kind_is ∙ refers in
          let value : Value = operand core.vars x in
          let lead : LeadsTo q g m value = value_leads p based counting args types roots core.blocks core.statics g stands.near m value counted_m root_m points in
          let owned_a : 0 < owned around (live (op.SetItem n v y x ∷ ops) e) core.vars (Ptr a) = owns_it a pointing is_a in
          let put_ : Done q args c g2 had (q_here (op.Call None put (Var v ∷ y ∷ x ∷ []) ∷ behind)) (λ h' s'. At behind ex frames (here qcore core.function b (at + 1) core.vars h' s')) =
          put_item_done q args c counting m put g h had a d.n d.kind d.fields d.items (subst (λ n. StandsWith q put (0 ∷ 1 ∷ 2 ∷ []) (put_item_types c n m) (put_item_block c n m ∷ [])) (sym kind_is) stand) d.is refer i within_d value stands.shown counts (omega (arith, owned_a)) lead
          (room_for q c g had k value counts room alive_x) qcore core.function b ex frames (Var v) y x at behind core.vars is_a index refl in
          comes_before p based counting args types roots own (op.SetItem n v y x) ops rest e ex frames b (live ops e) (q_here (op.Call None put (Var v ∷ y ∷ x ∷ []) ∷ behind)) (At behind ex frames (here qcore core.function b (at + 1) core.vars put_.blocks (memory put_.later)))
          (core_after a block i) put_.leads
          (effect_end p based counting args types roots own (op.SetItem n v y x) ops rest e ex frames b (core_after a block i) qcore put_.later put_.blocks (at + 1) refl fits
          (record {
            near = near_kept plan g2 put_.later put_.same put_.same_statics (slice_set core.blocks a (Some block2)) core.statics put_.size put_.size_statics near_after;
            shown = put_.shown;
            steps = stands.steps;
            exc_type = stands.exc_type;
            exc_value = stands.exc_value;
          }) points_after put_.counted)

    -- items of a static, which are no references
    plain_static : is_counted plan n ≡ true → (s i : ℕ) (block : Block) → read core.vars v ≡ Static s → reached core (shapes_of p.structs) n (Static s) ≡ Ok block → i < length block.items → operand core.vars y ≡ Word (pos i) → is_unset (operand core.vars x) ≡ false
        → Pointing p types core.blocks core.statics (live (op.SetItem n v y x ∷ ops) e) core.vars → IsCounted q c g (λ r. owned around (live (op.SetItem n v y x ∷ ops) e) core.vars r + own r)
        → Comes p args types (live ops e) own (q_here (op.SetItem n v y x ∷ behind)) rest ex frames b (record core { at = core.at + 1; statics = slice_set core.statics s (record block { items = slice_set block.items i (operand core.vars x) }) })
    plain_static cn s i block is_s found within index set pointing counts = by (fixed_at g.statics s) refl (stands.near.each_static s block is)
      where
        value : Value
        value = operand core.vars x

        block2 : Block
        block2 = record block { items = slice_set block.items i value }

        core2 : Core
        core2 = record core { at = core.at + 1; statics = slice_set core.statics s block2 }

        is : slice_get core.statics s ≡ Some block
        is = reached_there core (shapes_of p.structs) n (Static s) block found

        of : begins_with (shapes_counted plan) block.kind n ≡ true
        of = sym (begins_same p based block.kind n) ∙ reached_begins p core n (Static s) block found

        by : (d : Fixed) → fixed_at g.statics s ≡ d → NearStatic plan block d → Comes p args types (live ops e) own (q_here (op.SetItem n v y x ∷ behind)) rest ex frames b core2
        by (Alone other) at_s near = absurd (let z : true ≡ false = sym (counted_alike p based block.kind n of ∙ cn) ∙ near.1 in cc)
        by (F m kind fields items) at_s near =
            let items2 : List Value = slice_set items i value in
            let near2 : NearBlock block2 (record { kind = kind; fields = fields; items = items2 }) = record { kind = near.0.kind; fields = near.0.fields; items = near_cell block.items items i value near.0.items } in
            let g2 : Ghost = record g { statics = slice_set g.statics s (F m kind fields items2) } in
            let end : State = At behind ex frames (here qcore core.function b (at + 1) core.vars h (memory g2)) in
            let of_kind : begins_with (shapes_counted plan) kind n ≡ true = ap (λ k. begins_with (shapes_counted plan) k n) (sym near.0.kind) ∙ of in
            comes_before p based counting args types roots own (op.SetItem n v y x) ops rest e ex frames b (live ops e) (q_here (op.SetItem n v y x ∷ behind)) end core2
            (store_step q args qcore core.function b ex frames n v at i y x behind core.vars h (memory g) (Static s) value (shown_fixed (F m kind fields items)) end is_s refl index (omega (arith, within, near.0.items.size)) refl set (static_there g.statics s m kind fields items at_s) of_kind
            (ap (λ l. Goes (At behind ex frames (here qcore core.function b (at + 1) core.vars h l))) (fixed_memory q c g s m kind fields items fields items2 at_s)))
            (effect_end p based counting args types roots own (op.SetItem n v y x) ops rest e ex frames b core2 qcore g2 h (at + 1) refl fits
            (record {
              near = fixed_near p core.blocks core.statics g s m kind fields items fields items2 at_s block block2 is refl stands.near near2 near.1;
              shown = stands.shown;
              steps = stands.steps;
              exc_type = stands.exc_type;
              exc_value = stands.exc_value;
            })
            (fixed_pointing p core.blocks core.statics g s m kind fields items fields items2 at_s block block2 is refl types (live (op.SetItem n v y x ∷ ops) e) core.vars pointing)
            (fixed_counted q c g s m kind fields items fields items2 at_s (λ r. owned around (live (op.SetItem n v y x ∷ ops) e) core.vars r + own r) counts))

    -- the whole operation: what is done where the items are no references, or where they are
    module _ (rest_of : List LlOp) (plain : changed around (op.SetItem n v y x) behind ≡ rest_of)
        (one : (a i : ℕ) (block : Block) → read core.vars v ≡ Ptr a → reached core (shapes_of p.structs) n (Ptr a) ≡ Ok block → i < length block.items → operand core.vars y ≡ Word (pos i) → is_unset (operand core.vars x) ≡ false
        → Comes p args types (live ops e) own (q_here rest_of) rest ex frames b (core_after a block i))
        (fixed : (s i : ℕ) (block : Block) → read core.vars v ≡ Static s → reached core (shapes_of p.structs) n (Static s) ≡ Ok block → i < length block.items → operand core.vars y ≡ Word (pos i) → is_unset (operand core.vars x) ≡ false
        → Comes p args types (live ops e) own (q_here rest_of) rest ex frames b (record core { at = core.at + 1; statics = slice_set core.statics s (record block { items = slice_set block.items i (operand core.vars x) }) })) where
      abbrev FollowsItem : After → Type 0
      FollowsItem after = Follows p args types (live ops e) own (q_here rest_of) rest ex frames b after

      word_is : (u : Value) (i : ℕ) → word_of u ≡ Some (pos i) → u ≡ Word (pos i)
      word_is (Word z) i f = let g : z ≡ pos i = cc in ap Word g
      word_is Unset i f = absurd (cc)
      word_is (Byte z) i f = absurd (cc)
      word_is (Flag z) i f = absurd (cc)
      word_is (Fun z) i f = absurd (cc)
      word_is Null i f = absurd (cc)
      word_is (Ptr z) i f = absurd (cc)
      word_is (Static z) i f = absurd (cc)

      at_pointer : (pointer : Value) → read core.vars v ≡ pointer → (i : ℕ) (block : Block) → reached core (shapes_of p.structs) n pointer ≡ Ok block → i < length block.items → operand core.vars y ≡ Word (pos i) → is_unset (operand core.vars x) ≡ false
          → FollowsItem (stored core pointer (record block { items = slice_set block.items i (operand core.vars x) }))
      at_pointer Unset at_it i block found lt index set = tt
      at_pointer (Word z) at_it i block found lt index set = tt
      at_pointer (Byte z) at_it i block found lt index set = tt
      at_pointer (Flag z) at_it i block found lt index set = tt
      at_pointer (Fun z) at_it i block found lt index set = tt
      at_pointer Null at_it i block found lt index set = tt
      at_pointer (Static s) at_it i block found lt index set = fixed s i block at_it found lt index set
      at_pointer (Ptr a) at_it i block found lt index set = one a i block at_it found lt index set

      at_place : (i : ℕ) (block : Block) → reached core (shapes_of p.structs) n (read core.vars v) ≡ Ok block → operand core.vars y ≡ Word (pos i) → is_unset (operand core.vars x) ≡ false → (z : Bool) → nat_lt i (length block.items) ≡ z
          → FollowsItem (cond z (stored core (read core.vars v) (record block { items = slice_set block.items i (operand core.vars x) })) (Stuck Outside))
      at_place i block found index set false z = tt
      at_place i block found index set true z = at_pointer (read core.vars v) refl i block found (is_less i (length block.items) z) index set

      at_index : is_unset (operand core.vars x) ≡ false → (w : Option ℤ) → word_of (operand core.vars y) ≡ w → (r : Result Block StuckReason) → reached core (shapes_of p.structs) n (read core.vars v) ≡ r
          → FollowsItem (st.on (λ i. on_block (λ block. st.put_item core (read core.vars v) block i (operand core.vars x)) r) w)
      at_index set None f r found = tt
      at_index set (Some (negsuc i)) f (Err reason) found = tt
      at_index set (Some (negsuc i)) f (Ok block) found = tt
      at_index set (Some (pos i)) f (Err reason) found = tt
      at_index set (Some (pos i)) f (Ok block) found = at_place i block found (word_is (operand core.vars y) i f) set (nat_lt i (length block.items)) refl

      all_of : (z : Bool) → is_unset (operand core.vars x) ≡ z
          → FollowsItem (cond z (Stuck IsUnset) (st.on (λ i. on_block (λ block. st.put_item core (read core.vars v) block i (operand core.vars x)) (reached core (shapes_of p.structs) n (read core.vars v))) (word_of (operand core.vars y))))
      all_of true z = tt
      all_of false z = at_index z (word_of (operand core.vars y)) refl (reached core (shapes_of p.structs) n (read core.vars v)) refl

      item_set : Follows p args types (live ops e) own (q_here (changed around (op.SetItem n v y x) behind)) rest ex frames b (does p args core (op.SetItem n v y x))
      item_set = subst (λ l. Follows p args types (live ops e) own (q_here l) rest ex frames b (does p args core (op.SetItem n v y x))) (sym plain) (all_of (is_unset (operand core.vars x)) refl)

    pub set_plain_item_followed : items_referred plan n ≡ None → is_counted plan n ≡ true → Pointing p types core.blocks core.statics (live (op.SetItem n v y x ∷ ops) e) core.vars
        → IsCounted q c g (λ r. owned around (live (op.SetItem n v y x ∷ ops) e) core.vars r + own r)
        → Follows p args types (live ops e) own (q_here (changed around (op.SetItem n v y x) behind)) rest ex frames b (does p args core (op.SetItem n v y x))
    set_plain_item_followed none cn pointing counts =
        item_set (op.SetItem n v y x ∷ behind) (ap (λ r. set_item_by plan n v y x r ∷ behind) none) (λ a i block is found lt index set. plain_item a i block is found lt index pointing counts none set)
        (λ s i block is found lt index set. plain_static cn s i block is found lt index set pointing counts)

    pub set_reference_item_followed : (m : ℕ) → items_referred plan n ≡ Some m → StandsWith q (counts_at plan n).items (0 ∷ 1 ∷ 2 ∷ []) (put_item_types c n m) (put_item_block c n m ∷ []) → ((s : ℕ) → read core.vars v ≡ Static s → ⊥)
        → PointsTo p core.blocks core.statics m (operand core.vars x) → root_of plan m ≡ m → is_counted plan m ≡ true → ((z : ℕ) → operand core.vars x ≡ Ptr z → 0 < count g.blocks z)
        → Pointing p types core.blocks core.statics (live (op.SetItem n v y x ∷ ops) e) core.vars → IsCounted q c g (λ r. owned around (live (op.SetItem n v y x ∷ ops) e) core.vars r + own r)
        → Follows p args types (live ops e) own (q_here (changed around (op.SetItem n v y x) behind)) rest ex frames b (does p args core (op.SetItem n v y x))
    set_reference_item_followed m refers stand in_block points root_m counted_m alive_x pointing counts =
        item_set (op.Call None (counts_at plan n).items (Var v ∷ y ∷ x ∷ []) ∷ behind) (ap (λ r. set_item_by plan n v y x r ∷ behind) refers)
        (λ a i block is found lt index set. reference_item a i block is found lt index pointing counts m (counts_at plan n).items refers stand points root_m counted_m alive_x) (λ s i block is found lt index set. absurd (in_block s is))
