-- Writes of fields are followed.
use Rattle.std.proofs.Common.{◌≡◌, ◌≢◌, ◌<◌, ℕ, zero, suc, ◌+◌, ◌-◌, Bool, true, false, ◌||◌, List, [], ◌∷◌, length, map, Option, Some, None, Ok, Err, refl, sym, ap, ◌∙◌, subst, arith}
use Rattle.std.specs.Prelude.{slice_get, slice_set}
use Rattle.csub_tree.specs.State.{Value, Unset, Word, Byte, Flag, Fun, Null, Ptr, Static, Block, Core, Stuck}
use Rattle.csub_tree.specs.Layout.{begins_with}
use Rattle.csub_tree.specs.Operation.{is_unset}
use Rattle.csub_tree.specs.Statement.{read, operand}
use Rattle.csub_tree.specs.declared.tree.COperand.{COperand}
use Rattle.csub_tree.specs.declared.tree.COperand.TheVariants.{Var}
use Rattle.ll_code.specs.State.{Frame, State, At}
use Rattle.ll_code.specs.Machine.{does, shapes_of}
use Rattle.ll_code.specs.declared.program.LlOp.{LlOp}
use Rattle.ll_code.specs.declared.program.LlOp.TheVariants as op
use Rattle.ll_code.specs.declared.program.LlExit.{LlExit}
use Rattle.ll_code.specs.declared.program.LlType.{LlType}
use Rattle.ll_code.specs.declared.program.LlProgram.{LlProgram}
use Rattle.ll_live.specs.Live.{among, sets, live}
use Rattle.refcount_transform.specs.Plan.{Plan, plan_of, is_counted, root_of, reference_given}
use Rattle.refcount_transform.specs.Changes.{Around, around_of, var_referred, touched, dead}
use Rattle.refcount_transform.specs.Counted.{counted}
use Rattle.refcount_laws.specs.Graphs.{Counts, Counting}
use Rattle.refcount_laws.specs.Made.{counts_of}
use Rattle.refcount_laws.specs.Ghost.{Ghost, bare_at, count, memory, LeadsTo, IsCounted}
use Rattle.refcount_laws.specs.Runs.{here}
use Rattle.refcount_laws.specs.Touched.{block_in, Done}
use Rattle.refcount_laws.specs.Owned.{owned, Roomy}
use Rattle.refcount_laws.specs.Matches.{AllNear, NearBlock, PointsTo, Pointing, AllRoots, Stands, Comes, Follows}
use Rattle.refcount_laws.proofs.Touching.{there_inside}
use Rattle.refcount_laws.proofs.Numbers.{Based}
use Rattle.refcount_laws.proofs.Alike.{begins_same}
use Rattle.std.specs.Prelude.{cond}
use Rattle.csub_tree.specs.declared.stuck.StuckReason.TheVariants.{Unset as IsUnset}
use Rattle.ll_code.specs.Typed.{operation_ok, unary_gives, binary_gives, has_type}
use Rattle.ll_laws.proofs.Values.{and_left, and_right}
use Rattle.refcount_transform.specs.Plan.{reference_to}
use Rattle.refcount_transform.specs.Changes.{changed}
use Rattle.refcount_laws.proofs.Following.{near_kept, value_leads, comes_before, effect_end}
use Rattle.std.specs.Prelude.{not, ◌&&◌}
use Rattle.ll_code.specs.Typed.{given_takes, takes, is_of_any}
use Rattle.ll_live.specs.Live.{variables_of}
use Rattle.refcount_laws.proofs.Dead.{same_is}
use Rattle.std.specs.Prelude.{Result}
use Rattle.csub_tree.specs.declared.stuck.StuckReason.{StuckReason}
use Rattle.csub_tree.specs.Layout.{shape_at, place}
use Rattle.csub_tree.specs.Statement.{reached, on_block}
use Rattle.ll_code.specs.Typed.{field_of, items_of, has_given, structs_ok}
use Rattle.ll_code.specs.declared.program.LlStruct.{LlStruct}
use Rattle.ll_held.proofs.Calming.{reached_there}
use Rattle.refcount_transform.specs.Plan.{shifted, held_of}
use Rattle.refcount_laws.specs.Made.{shapes_counted, reference_of}
use Rattle.refcount_laws.specs.Ghost.{S, bare, shown, IsWhole}
use Rattle.refcount_laws.proofs.Ghosts.{There, there}
use Rattle.refcount_laws.proofs.Standing.{StructAt, marked_there}
use Rattle.refcount_laws.proofs.Members.{counted_begins}
use Rattle.refcount_laws.proofs.Copying.{owned_has}
use Rattle.csub_tree.specs.Statement.{stored}
use Rattle.refcount_transform.specs.Plan.{counts_at, field_referred, put_of, field_number}
use Rattle.refcount_transform.specs.Changes.{set_field_by}
use Rattle.refcount_laws.specs.Ready.{KeepsNumber}
use Rattle.ll_code.specs.State.{Goes}
use Rattle.ll_code.specs.Machine.{goes_on}
use Rattle.refcount_laws.specs.Ghost.{Fixed, Alone, F, fixed_at, shown_fixed}
use Rattle.refcount_laws.specs.Matches.{NearStatic}
use Rattle.refcount_laws.proofs.Members.{counted_alike}
use Rattle.refcount_laws.proofs.Alike.{place_same}
use Rattle.refcount_laws.proofs.Leading.{static_there}
use Rattle.refcount_laws.proofs.Steps.{put_step}
use Rattle.refcount_laws.proofs.FixedWrites.{fixed_counted, fixed_memory, fixed_near, fixed_pointing}
use Rattle.std.specs.Prelude.{pos}
use Rattle.refcount_laws.specs.Graphs.{Reference, StandsWith, IsField, put_block, put_types}
use Rattle.refcount_laws.specs.Ghost.{written, Apart, OnceIn}
use Rattle.refcount_laws.proofs.Given.{room_for}
use Rattle.refcount_laws.proofs.Writing.{put_done}
use Rattle.refcount_laws.proofs.Getting.{reached_begins}
use Rattle.ll_code.specs.Typed.{own_field, given_takes}
use Rattle.ll_code.specs.Typed as typed
use Rattle.refcount_transform.specs.Plan.{place_of, place_behind, fields_given, references_before}
use Rattle.refcount_transform.specs.Plan as plans
use Rattle.refcount_laws.specs.Made.{structs_lead, all_lead, is_root_given}
use Rattle.refcount_laws.proofs.Places.{place_behind_two, reference_marked, leads_at, given_root}
use Rattle.refcount_laws.proofs.Alike.{plain_shape}
use Rattle.refcount_laws.proofs.Spread.{begin, begin_is, own_at, own_once, held_once, field_apart, inside_times}
use Rattle.refcount_laws.proofs.Putting.{put_stands}
use Rattle.refcount_laws.proofs.Setting.{w, plain_counts, plain_near, plain_shown, plain_write, plain_points, near_cell, near_written, pointing_after}

-- a field among those of the struct itself
record Spot (p : LlProgram) (based : Based p.structs) (n i : ℕ) (s : LlStruct) (is : slice_get p.structs n ≡ Some s) (c : is_counted (plan_of p) n ≡ true) (t : LlType) : Type 0 where
  j : ℕ
  there : slice_get s.fields j ≡ Some t
  at : place (shape_at (shapes_of p.structs) n) i ≡ begin p based n s is c + j
  of : place_of (plan_of p) n i ≡ j

spot_of : (p : LlProgram) (based : Based p.structs) (n i : ℕ) (s : LlStruct) (is : slice_get p.structs n ≡ Some s) (c : is_counted (plan_of p) n ≡ true) (t : LlType) → field_of (Some s) i ≡ Some t → Spot p based n i s is c t
spot_of p based n i s is c t f = by s.base refl i f
  where
    by : (o : Option ℕ) → s.base ≡ o → (i : ℕ) → own_field s s.base i ≡ Some t → Spot p based n i s is c t
    by None b i f = record {
      j = i;
      there = sym (ap (λ o. own_field s o i) b) ∙ f;
      at =
          (let x : place (shape_at (shapes_of p.structs) n) i ≡ 0 + (i - 0) = ap (λ x. place x i) (plain_shape p based n s None is b) in
          let y : begin p based n s is c ≡ 0 = ap (λ x. x.own) (plain_shape p based n s None is b) in omega (arith, x, y));
      of = ap (λ o. place_behind o i) (ap typed.base_of is ∙ b);
    }
    by (Some m) b zero f = absurd (let x : None ≡ Some t = sym (ap (λ o. own_field s o 0) b) ∙ f in cc)
    by (Some m) b (suc i) f = record {
      j = i;
      there = sym (ap (λ o. own_field s o (suc i)) b) ∙ f;
      at =
          (let x : place (shape_at (shapes_of p.structs) n) (suc i) ≡ (shape_at (shapes_of p.structs) m).size + (suc i - 1) = ap (λ x. place x (suc i)) (plain_shape p based n s (Some m) is b) in
          let y : begin p based n s is c ≡ (shape_at (shapes_of p.structs) m).size = begin_is p based n s is c m b in omega (arith, x, y));
      of = ap (λ o. place_behind o (suc i)) (ap typed.base_of is ∙ b);
    }

module _ (p : LlProgram) (based : Based p.structs) (counting : Counting (counted p) (counts_of (plan_of p))) (args : List (List ℕ)) (types : List LlType) (roots : AllRoots p types) (own : Value → ℕ) (ops rest : List LlOp) (e : LlExit) (ex : LlExit)
    (frames : List Frame) (b : ℕ) (core qcore : Core) (g : Ghost) (h : List (Option Block)) (at : ℕ) (fits : length core.vars ≡ length types) (stands : Stands p core qcore g h) (k : ℕ) (room : Roomy g (suc k)) where
  abbrev plan : Plan
  plan = plan_of p

  abbrev q : LlProgram
  q = counted p

  abbrev c : Counts
  c = counts_of plan

  abbrev around : Around
  around = around_of plan types

  module _ (n v i : ℕ) (x : COperand) (t : LlType) (is_field : field_of (slice_get p.structs n) i ≡ Some t) (keeps : KeepsNumber p core n v i x) where
    abbrev o : LlOp
    o = op.SetField n v i x

    abbrev spot_at : ℕ
    spot_at = place (shape_at (shapes_of p.structs) n) i

    abbrev q_here : List LlOp → State
    q_here l = At l ex frames (here qcore core.function b at core.vars h (memory g))

    abbrev behind : List LlOp
    behind = dead around (touched (op.SetField n v i x)) ops e rest

    abbrev core_after : ℕ → Block → Core
    core_after a block = record core { at = core.at + 1; blocks = slice_set core.blocks a (Some (record block { fields = slice_set block.fields spot_at (operand core.vars x) })) }

    struct_is : (s : LlStruct) → slice_get p.structs n ≡ Some s → field_of (Some s) i ≡ Some t
    struct_is s e = sym (ap (λ o. field_of o i) e) ∙ is_field

    used : live (op.SetField n v i x ∷ ops) e v ≡ true
    used = ap (λ y. (y || among v (variables_of x)) || (not (sets None v) && live ops e v)) (same_is v)

    inside_types : (ts : List LlType) (v n : ℕ) → reference_given plan.counted (slice_get ts v) ≡ Some n → v < length ts
    inside_types [] v n e = absurd (cc)
    inside_types (t ∷ ts) zero n e = omega arith
    inside_types (t ∷ ts) (suc v) n e = omega (arith, inside_types ts v n e)

    owns_it : (m : ℕ) → Pointing p types core.blocks core.statics (live (op.SetField n v i x ∷ ops) e) core.vars → read core.vars v ≡ Ptr m → 0 < owned around (live (op.SetField n v i x ∷ ops) e) core.vars (Ptr m)
    owns_it m pointing is =
        let z : (n : ℕ) × (var_referred around v ≡ Some n) = pointing.refers v m used is in
        let lt : v < length core.vars = (let l : v < length types = inside_types types v z.0 z.1 in omega (arith, l, fits)) in
        owned_has around 0 (live (op.SetField n v i x ∷ ops) e) core.vars v z.0 m lt used z.1 is

    -- a field that is no reference, of a block
    plain_block : (none : field_referred plan n i ≡ None) (a : ℕ) (block : Block) → read core.vars v ≡ Ptr a → reached core (shapes_of p.structs) n (Ptr a) ≡ Ok block → is_unset (operand core.vars x) ≡ false
        → Pointing p types core.blocks core.statics (live (op.SetField n v i x ∷ ops) e) core.vars → IsCounted q c g (λ r. owned around (live (op.SetField n v i x ∷ ops) e) core.vars r + own r)
        → Comes p args types (live ops e) own (q_here (op.SetField n v (shifted plan n i) x ∷ behind)) rest ex frames b (core_after a block)
    plain_block none a block is_a found set pointing counts =
        let had : Value → ℕ = λ r. owned around (live (op.SetField n v i x ∷ ops) e) core.vars r + own r in
        let is : block_in core.blocks a ≡ Some block = reached_there core (shapes_of p.structs) n (Ptr a) block found in
        let of : begins_with (shapes_of p.structs) block.kind n ≡ true = reached_begins p core n (Ptr a) block found in
        let alive_a : 0 < count g.blocks a = (let l : 0 < owned around (live (op.SetField n v i x ∷ ops) e) core.vars (Ptr a) = owns_it a pointing is_a in omega (arith, l, counts.blocks a)) in
        let st_kind : There g.blocks a = w p based counting args types roots own ops rest e ex frames b core qcore g h at fits stands k room had n a block is of alive_a counts in
        let whole : IsWhole q c g (record { kind = st_kind.kind; fields = st_kind.fields; items = st_kind.items }) = subst (IsWhole q c g) (ap bare st_kind.is) (counts.whole a alive_a) in
        let near : (block : Block) × (block_in core.blocks a ≡ Some block) × NearBlock block (bare_at g.blocks a) = stands.near.each a (there_inside core.blocks a block is) in
        let same : near.0 ≡ block = (let f : Some near.0 ≡ Some block = sym near.1 ∙ is in cc) in
        let kind_same : block.kind ≡ st_kind.kind = ap (λ x. x.kind) (sym same) ∙ near.2.kind ∙ ap (λ d. (bare d).kind) st_kind.is in
        let of_w : begins_with (shapes_counted plan) st_kind.kind n ≡ true = sym (begins_same p based st_kind.kind n) ∙ ap (λ k. begins_with (shapes_of p.structs) k n) (sym kind_same) ∙ of in
        let cn : is_counted plan n ≡ true = counted_begins p based st_kind.kind n of_w whole.counted in
        let cs : StructAt p.structs n = marked_there p.structs p.graphs 0 p.structs n cn in
        let spot : Spot p based n i cs.s cs.is cn t = spot_of p based n i cs.s cs.is cn t (struct_is cs.s cs.is) in
        let r : Reference = record { owner = n; number = i; at = spot_at; to = 0 } in
        let is_none : reference_to plan.counted t ≡ None =
        ap (reference_given plan.counted) (sym (ap (λ l. slice_get (fields_given l) (place_of plan n i)) cs.is ∙ ap (slice_get cs.s.fields) spot.of ∙ spot.there)) ∙ none in
        let apart : Apart r (c.held st_kind.kind) = field_apart p based n cs.s cs.is cn r spot.j t spot.at spot.there st_kind.kind whole.counted of_w is_none in
        let value : Value = operand core.vars x in
        let near_w : NearBlock block (record { kind = st_kind.kind; fields = st_kind.fields; items = st_kind.items }) = subst (λ d. NearBlock block d) (ap bare st_kind.is) (subst (λ b. NearBlock b (bare_at g.blocks a)) same near.2) in
        let side : (m : ℕ) → c.items st_kind.kind ≡ Some m → c.number_at st_kind.kind ≡ spot_at → value ≡ Word (pos (length st_kind.items)) = λ m f q.
        keeps a m block is_a is of (ap c.items kind_same ∙ f) (ap c.number_at kind_same ∙ q) ∙ ap (λ k. Word (pos k)) near_w.items.size in
        comes_before p based counting args types roots own (op.SetField n v i x) ops rest e ex frames b (live ops e) (q_here (op.SetField n v (shifted plan n i) x ∷ behind))
        (At behind ex frames (here qcore core.function b (at + 1) core.vars (slice_set h a (shown c (S (suc st_kind.n) st_kind.kind (slice_set st_kind.fields spot_at value) st_kind.items))) (memory (written g a (S (suc st_kind.n) st_kind.kind (slice_set st_kind.fields spot_at value) st_kind.items)))))
        (core_after a block)
        (plain_write p based counting args types roots own ops rest e ex frames b core qcore g h at fits stands k room had n a block is of alive_a counts i x value refl set v is_a r refl apart side behind)
        (effect_end p based counting args types roots own (op.SetField n v i x) ops rest e ex frames b (core_after a block) qcore (written g a (S (suc st_kind.n) st_kind.kind (slice_set st_kind.fields spot_at value) st_kind.items))
        (slice_set h a (shown c (S (suc st_kind.n) st_kind.kind (slice_set st_kind.fields spot_at value) st_kind.items))) (at + 1) refl fits
        (record {
          near = plain_near p based counting args types roots own ops rest e ex frames b core qcore g h at fits stands k room had n a block is of alive_a counts i x value refl set v is_a r refl apart side behind;
          shown = plain_shown p based counting args types roots own ops rest e ex frames b core qcore g h at fits stands k room had n a block is of alive_a counts i x value refl set v is_a r refl apart side behind;
          steps = stands.steps;
          exc_type = stands.exc_type;
          exc_value = stands.exc_value;
        })
        (plain_points p based counting args types roots own ops rest e ex frames b core qcore g h at fits stands k room had n a block is of alive_a counts i x value refl set v is_a r refl apart side behind (live (op.SetField n v i x ∷ ops) e) pointing)
        (plain_counts p based counting args types roots own ops rest e ex frames b core qcore g h at fits stands k room had n a block is of alive_a counts i x value refl set v is_a r refl apart side behind))

    -- a field that is no reference, of a static
    plain_static : is_counted plan n ≡ true → (s : ℕ) (block : Block) → read core.vars v ≡ Static s → reached core (shapes_of p.structs) n (Static s) ≡ Ok block → is_unset (operand core.vars x) ≡ false
        → Pointing p types core.blocks core.statics (live (op.SetField n v i x ∷ ops) e) core.vars → IsCounted q c g (λ r. owned around (live (op.SetField n v i x ∷ ops) e) core.vars r + own r)
        → Comes p args types (live ops e) own (q_here (op.SetField n v (shifted plan n i) x ∷ behind)) rest ex frames b
        (record core { at = core.at + 1; statics = slice_set core.statics s (record block { fields = slice_set block.fields spot_at (operand core.vars x) }) })
    plain_static cn s block is_s found set pointing counts = by (fixed_at g.statics s) refl (stands.near.each_static s block is)
      where
        value : Value
        value = operand core.vars x

        block2 : Block
        block2 = record block { fields = slice_set block.fields spot_at value }

        core2 : Core
        core2 = record core { at = core.at + 1; statics = slice_set core.statics s block2 }

        is : slice_get core.statics s ≡ Some block
        is = reached_there core (shapes_of p.structs) n (Static s) block found

        of : begins_with (shapes_counted plan) block.kind n ≡ true
        of = sym (begins_same p based block.kind n) ∙ reached_begins p core n (Static s) block found

        by : (d : Fixed) → fixed_at g.statics s ≡ d → NearStatic plan block d → Comes p args types (live ops e) own (q_here (op.SetField n v (shifted plan n i) x ∷ behind)) rest ex frames b core2
        by (Alone other) at_s near = absurd (let z : true ≡ false = sym (counted_alike p based block.kind n of ∙ cn) ∙ near.1 in cc)
        by (F m kind fields items) at_s near =
            let cs : StructAt p.structs n = marked_there p.structs p.graphs 0 p.structs n cn in
            let fields2 : List Value = slice_set fields spot_at value in
            let near2 : NearBlock block2 (record { kind = kind; fields = fields2; items = items }) = record { kind = near.0.kind; fields = near_cell block.fields fields spot_at value near.0.fields; items = near.0.items } in
            let g2 : Ghost = record g { statics = slice_set g.statics s (F m kind fields2 items) } in
            let end : State = At behind ex frames (here qcore core.function b (at + 1) core.vars h (memory g2)) in
            let of_kind : begins_with (shapes_counted plan) kind n ≡ true = ap (λ k. begins_with (shapes_counted plan) k n) (sym near.0.kind) ∙ of in
            comes_before p based counting args types roots own (op.SetField n v i x) ops rest e ex frames b (live ops e) (q_here (op.SetField n v (shifted plan n i) x ∷ behind)) end core2
            (put_step q args qcore core.function b ex frames n v (shifted plan n i) at x behind core.vars h (memory g) (Static s) value (shown_fixed (F m kind fields items)) end is_s refl refl set (static_there g.statics s m kind fields items at_s) of_kind
            (ap (λ j. goes_on (At behind ex frames) (stored (here qcore core.function b at core.vars h (memory g)) (Static s) (record { kind = kind; fields = slice_set (Word (pos m) ∷ Null ∷ fields) j value; items = items }))) (place_same p based n i cs.s cs.is cn)
            ∙ ap (λ l. Goes (At behind ex frames (here qcore core.function b (at + 1) core.vars h l))) (fixed_memory q c g s m kind fields items fields2 items at_s)))
            (effect_end p based counting args types roots own (op.SetField n v i x) ops rest e ex frames b core2 qcore g2 h (at + 1) refl fits
            (record {
              near = fixed_near p core.blocks core.statics g s m kind fields items fields2 items at_s block block2 is refl stands.near near2 near.1;
              shown = stands.shown;
              steps = stands.steps;
              exc_type = stands.exc_type;
              exc_value = stands.exc_value;
            })
            (fixed_pointing p core.blocks core.statics g s m kind fields items fields2 items at_s block block2 is refl types (live (op.SetField n v i x ∷ ops) e) core.vars pointing)
            (fixed_counted q c g s m kind fields items fields2 items at_s (λ r. owned around (live (op.SetField n v i x ∷ ops) e) core.vars r + own r) counts))

    pub set_plain_followed : field_referred plan n i ≡ None → is_counted plan n ≡ true
        → Pointing p types core.blocks core.statics (live (op.SetField n v i x ∷ ops) e) core.vars → IsCounted q c g (λ r. owned around (live (op.SetField n v i x ∷ ops) e) core.vars r + own r)
        → Follows p args types (live ops e) own (q_here (changed around (op.SetField n v i x) behind)) rest ex frames b (does p args core (op.SetField n v i x))
    set_plain_followed none cn pointing counts =
        subst (λ l. Follows p args types (live ops e) own (q_here l) rest ex frames b (does p args core (op.SetField n v i x))) (sym (ap (λ r. set_field_by plan n v i x r ∷ behind) none))
        (set (is_unset (operand core.vars x)) refl)
      where
        at_pointer : (pointer : Value) → read core.vars v ≡ pointer → is_unset (operand core.vars x) ≡ false → (block : Block) → reached core (shapes_of p.structs) n pointer ≡ Ok block
            → Follows p args types (live ops e) own (q_here (op.SetField n v (shifted plan n i) x ∷ behind)) rest ex frames b (stored core pointer (record block { fields = slice_set block.fields spot_at (operand core.vars x) }))
        at_pointer Unset is y block found = tt
        at_pointer (Word z) is y block found = tt
        at_pointer (Byte z) is y block found = tt
        at_pointer (Flag z) is y block found = tt
        at_pointer (Fun z) is y block found = tt
        at_pointer Null is y block found = tt
        at_pointer (Static s) is y block found = plain_static cn s block is found y pointing counts
        at_pointer (Ptr a) is y block found = plain_block none a block is found y pointing counts

        by : (r : Result Block StuckReason) → reached core (shapes_of p.structs) n (read core.vars v) ≡ r → is_unset (operand core.vars x) ≡ false
            → Follows p args types (live ops e) own (q_here (op.SetField n v (shifted plan n i) x ∷ behind)) rest ex frames b
            (on_block (λ block. stored core (read core.vars v) (record block { fields = slice_set block.fields spot_at (operand core.vars x) })) r)
        by (Err reason) found y = tt
        by (Ok block) found y = at_pointer (read core.vars v) refl y block found

        set : (y : Bool) → is_unset (operand core.vars x) ≡ y
            → Follows p args types (live ops e) own (q_here (op.SetField n v (shifted plan n i) x ∷ behind)) rest ex frames b
            (cond y (Stuck IsUnset) (on_block (λ block. stored core (read core.vars v) (record block { fields = slice_set block.fields spot_at (operand core.vars x) })) (reached core (shapes_of p.structs) n (read core.vars v))))
        set true y = tt
        set false y = by (reached core (shapes_of p.structs) n (read core.vars v)) refl y

    -- a field that is a reference, of a block
    reference_block : (leads : structs_lead plan p.structs ≡ true) (m : ℕ) (refers : field_referred plan n i ≡ Some m) (a : ℕ) (block : Block) → read core.vars v ≡ Ptr a → reached core (shapes_of p.structs) n (Ptr a) ≡ Ok block → PointsTo p core.blocks core.statics m (operand core.vars x)
        → ((z : ℕ) → operand core.vars x ≡ Ptr z → 0 < count g.blocks z) → Pointing p types core.blocks core.statics (live (op.SetField n v i x ∷ ops) e) core.vars
        → IsCounted q c g (λ r. owned around (live (op.SetField n v i x ∷ ops) e) core.vars r + own r)
        → Comes p args types (live ops e) own (q_here (op.Call None (put_of plan n i) (Var v ∷ x ∷ []) ∷ behind)) rest ex frames b (core_after a block)
    reference_block leads m refers a block is_a found points alive_x pointing counts =
        let had : Value → ℕ = λ r. owned around (live (op.SetField n v i x ∷ ops) e) core.vars r + own r in
        let is : block_in core.blocks a ≡ Some block = reached_there core (shapes_of p.structs) n (Ptr a) block found in
        let of : begins_with (shapes_of p.structs) block.kind n ≡ true = reached_begins p core n (Ptr a) block found in
        let owned_a : 0 < owned around (live (op.SetField n v i x ∷ ops) e) core.vars (Ptr a) = owns_it a pointing is_a in
        let alive_a : 0 < count g.blocks a = omega (arith, owned_a, counts.blocks a) in
        let d : There g.blocks a = there g.blocks a alive_a in
        let whole : IsWhole q c g (record { kind = d.kind; fields = d.fields; items = d.items }) = subst (IsWhole q c g) (ap bare d.is) (counts.whole a alive_a) in
        let near : (block : Block) × (block_in core.blocks a ≡ Some block) × NearBlock block (bare_at g.blocks a) = stands.near.each a (there_inside core.blocks a block is) in
        let same : near.0 ≡ block = (let f : Some near.0 ≡ Some block = sym near.1 ∙ is in cc) in
        let both : NearBlock block (record { kind = d.kind; fields = d.fields; items = d.items }) = subst (λ x. NearBlock block x) (ap bare d.is) (subst (λ x. NearBlock x (bare_at g.blocks a)) same near.2) in
        let of_w : begins_with (shapes_counted plan) d.kind n ≡ true = sym (begins_same p based d.kind n) ∙ ap (λ k. begins_with (shapes_of p.structs) k n) (sym both.kind) ∙ of in
        let cn : is_counted plan n ≡ true = counted_begins p based d.kind n of_w whole.counted in
        let cs : StructAt p.structs n = marked_there p.structs p.graphs 0 p.structs n cn in
        let spot : Spot p based n i cs.s cs.is cn t = spot_of p based n i cs.s cs.is cn t (struct_is cs.s cs.is) in
        let r : Reference = reference_of plan (record { owner = n; number = field_number plan n spot.j; to = m }) in
        let at_r : r.at ≡ spot_at = own_at p based n cs.s cs.is cn spot.j ∙ sym spot.at in
        let refer : reference_to plan.counted t ≡ Some m = ap (reference_given plan.counted) (sym (ap (λ l. slice_get (fields_given l) (place_of plan n i)) cs.is ∙ ap (slice_get cs.s.fields) spot.of ∙ spot.there)) ∙ refers in
        let fields_are : plans.fields_of plan n ≡ cs.s.fields = ap fields_given cs.is in
        let here_f : slice_get (plans.fields_of plan n) spot.j ≡ Some t = ap (λ l. slice_get l spot.j) fields_are ∙ spot.there in
        let stand : StandsWith q (put_of plan n i) (0 ∷ 1 ∷ []) (put_types c r) (put_block c r ∷ []) =
        subst (λ j. StandsWith q ((counts_at plan n).puts + references_before plan.counted j (plans.fields_of plan n)) (0 ∷ 1 ∷ []) (put_types c r) (put_block c r ∷ [])) (sym spot.of) (put_stands p based n cn spot.j t m here_f refer) in
        let root_m : root_of plan m ≡ m = root_at leads n cs.s cs.is spot.j t m spot.there refer in
        let field : IsField q c d.kind r = record { of = of_w; place = place_behind_two p based n spot.j cn; to = (reference_marked plan.counted t m refer, root_m) } in
        let once : OnceIn r (c.held d.kind) =
        held_once p based n cs.s cs.is cn r spot.j t (own_at p based n cs.s cs.is cn spot.j) spot.there p.structs d.kind (inside_times p based n cs.s cs.is cn r spot.j t (own_at p based n cs.s cs.is cn spot.j) spot.there d.kind whole.counted) whole.counted of_w
        (subst (λ l. OnceIn r (map (reference_of plan) (plans.held_from plan n 0 l))) (sym fields_are)
        (subst (λ j. OnceIn (reference_of plan (record { owner = n; number = field_number plan n j; to = m })) (map (reference_of plan) (plans.held_from plan n 0 cs.s.fields))) (let z : 0 + spot.j ≡ spot.j = omega arith in z) (own_once p based n cs.s cs.is cn 0 cs.s.fields spot.j m t spot.there refer))) in
        let value : Value = operand core.vars x in
        let lead : LeadsTo q g m value = value_leads p based counting args types roots core.blocks core.statics g stands.near m value (reference_marked plan.counted t m refer) root_m points in
        let put : Done q args c (written g a (S (suc d.n) d.kind (slice_set d.fields r.at value) d.items)) had (q_here (op.Call None (put_of plan n i) (Var v ∷ x ∷ []) ∷ behind)) (λ h' s'. At behind ex frames (here qcore core.function b (at + 1) core.vars h' s')) =
        put_done q args c counting r (put_of plan n i) stand g h had a d.n d.kind d.fields d.items d.is field once (λ m2 f q. subst (PointsTo p core.blocks core.statics m) (keeps a m2 block is_a is of (ap c.items both.kind ∙ f) (ap c.number_at both.kind ∙ q ∙ at_r)) points) value stands.shown counts (omega (arith, owned_a)) lead
        (room_for q c g had k value counts room alive_x) qcore core.function b ex frames (Var v) x at behind core.vars is_a refl in
        let block2 : Block = record block { fields = slice_set block.fields spot_at value } in
        let near2 : NearBlock block2 (record { kind = d.kind; fields = slice_set d.fields r.at value; items = d.items }) =
        record { kind = both.kind; fields = subst (λ j. AllNear (slice_set block.fields j value) (slice_set d.fields r.at value)) at_r (near_cell block.fields d.fields r.at value both.fields); items = both.items } in
        let g2 : Ghost = written g a (S (suc d.n) d.kind (slice_set d.fields r.at value) d.items) in
        comes_before p based counting args types roots own (op.SetField n v i x) ops rest e ex frames b (live ops e) (q_here (op.Call None (put_of plan n i) (Var v ∷ x ∷ []) ∷ behind))
        (At behind ex frames (here qcore core.function b (at + 1) core.vars put.blocks (memory put.later))) (core_after a block) put.leads
        (effect_end p based counting args types roots own (op.SetField n v i x) ops rest e ex frames b (core_after a block) qcore put.later put.blocks (at + 1) refl fits
        (record {
          near = near_kept plan g2 put.later put.same put.same_statics (slice_set core.blocks a (Some block2)) core.statics put.size put.size_statics
              (near_written p core.blocks core.statics g stands.near a d.n d.kind d.fields d.items (slice_set d.fields r.at value) d.items d.is block2 near2);
          shown = put.shown;
          steps = stands.steps;
          exc_type = stands.exc_type;
          exc_value = stands.exc_value;
        })
        (pointing_after p core.blocks core.statics g stands.near a d.n d.kind d.fields d.items (slice_set d.fields r.at value) d.items d.is block2 near2 types block is refl (live (op.SetField n v i x ∷ ops) e) core.vars pointing)
        put.counted)
      where
        root_at : structs_lead plan p.structs ≡ true → (n : ℕ) (s : LlStruct) → slice_get p.structs n ≡ Some s → (j : ℕ) (t : LlType) (m : ℕ) → slice_get s.fields j ≡ Some t → reference_to plan.counted t ≡ Some m → root_of plan m ≡ m
        root_at leads n s is j t m f r = among s.fields j (and_left _ _ (leads_at p based leads p.structs n s leads is)) f
          where
            among : (ts : List LlType) (j : ℕ) → all_lead plan ts ≡ true → slice_get ts j ≡ Some t → root_of plan m ≡ m
            among [] j ok f = absurd (cc)
            among (u ∷ ts) zero ok f = let g : u ≡ t = cc in given_root p based leads (reference_to plan.counted t) m r (subst (λ u. is_root_given plan (reference_to plan.counted u) ≡ true) g (and_left _ _ ok))
            among (u ∷ ts) (suc j) ok f = among ts j (and_right _ _ ok) f

    pub set_reference_followed : (leads : structs_lead plan p.structs ≡ true) (m : ℕ) → field_referred plan n i ≡ Some m → ((s : ℕ) → read core.vars v ≡ Static s → ⊥) → PointsTo p core.blocks core.statics m (operand core.vars x)
        → ((z : ℕ) → operand core.vars x ≡ Ptr z → 0 < count g.blocks z) → Pointing p types core.blocks core.statics (live (op.SetField n v i x ∷ ops) e) core.vars
        → IsCounted q c g (λ r. owned around (live (op.SetField n v i x ∷ ops) e) core.vars r + own r)
        → Follows p args types (live ops e) own (q_here (changed around (op.SetField n v i x) behind)) rest ex frames b (does p args core (op.SetField n v i x))
    set_reference_followed leads m refers in_block points alive_x pointing counts =
        subst (λ l. Follows p args types (live ops e) own (q_here l) rest ex frames b (does p args core (op.SetField n v i x))) (sym (ap (λ r. set_field_by plan n v i x r ∷ behind) refers))
        (set (is_unset (operand core.vars x)) refl)
      where
        at_pointer : (pointer : Value) → read core.vars v ≡ pointer → (block : Block) → reached core (shapes_of p.structs) n pointer ≡ Ok block
            → Follows p args types (live ops e) own (q_here (op.Call None (put_of plan n i) (Var v ∷ x ∷ []) ∷ behind)) rest ex frames b (stored core pointer (record block { fields = slice_set block.fields spot_at (operand core.vars x) }))
        at_pointer Unset is block found = tt
        at_pointer (Word z) is block found = tt
        at_pointer (Byte z) is block found = tt
        at_pointer (Flag z) is block found = tt
        at_pointer (Fun z) is block found = tt
        at_pointer Null is block found = tt
        at_pointer (Static s) is block found = absurd (in_block s is)
        at_pointer (Ptr a) is block found = reference_block leads m refers a block is found points alive_x pointing counts

        by : (r : Result Block StuckReason) → reached core (shapes_of p.structs) n (read core.vars v) ≡ r
            → Follows p args types (live ops e) own (q_here (op.Call None (put_of plan n i) (Var v ∷ x ∷ []) ∷ behind)) rest ex frames b
            (on_block (λ block. stored core (read core.vars v) (record block { fields = slice_set block.fields spot_at (operand core.vars x) })) r)
        by (Err reason) found = tt
        by (Ok block) found = at_pointer (read core.vars v) refl block found

        set : (y : Bool) → is_unset (operand core.vars x) ≡ y
            → Follows p args types (live ops e) own (q_here (op.Call None (put_of plan n i) (Var v ∷ x ∷ []) ∷ behind)) rest ex frames b
            (cond y (Stuck IsUnset) (on_block (λ block. stored core (read core.vars v) (record block { fields = slice_set block.fields spot_at (operand core.vars x) })) (reached core (shapes_of p.structs) n (read core.vars v))))
        set true y = tt
        set false y = by (reached core (shapes_of p.structs) n (read core.vars v)) refl
