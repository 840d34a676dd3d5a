-- Fields and items that are read are followed.
use Rattle.std.proofs.Common.{◌≡◌, inl, inr, ◌<◌, ℕ, zero, suc, ◌+◌, Bool, true, false, ◌||◌, List, [], ◌∷◌, length, map, Option, Some, None, Ok, Err, refl, sym, ap, ◌∙◌, subst, arith}
use Rattle.std.specs.Prelude.{slice_get, slice_set, slice_index_or}
use Rattle.csub_tree.specs.State.{Value, Unset, Word, Byte, Flag, Fun, Null, Ptr, Static, Block, Core, After, Stuck}
use Rattle.csub_tree.specs.Layout.{begins_with}
use Rattle.csub_tree.specs.Operation.{is_unset}
use Rattle.csub_tree.specs.Statement as st
use Rattle.csub_tree.specs.Statement.{read, operand}
use Rattle.csub_tree.specs.declared.tree.COperand.{COperand}
use Rattle.csub_tree.specs.declared.tree.COperand.TheVariants.{Var}
use Rattle.ll_code.specs.State.{Frame, State, At}
use Rattle.ll_code.specs.Machine.{does, shapes_of}
use Rattle.ll_code.specs.declared.program.LlOp.{LlOp}
use Rattle.ll_code.specs.declared.program.LlOp.TheVariants as op
use Rattle.ll_code.specs.declared.program.LlExit.{LlExit}
use Rattle.ll_code.specs.declared.program.LlType.{LlType}
use Rattle.ll_code.specs.declared.program.LlProgram.{LlProgram}
use Rattle.ll_live.specs.Live.{among, sets, live}
use Rattle.refcount_transform.specs.Plan.{Plan, plan_of, is_counted, reference_given}
use Rattle.refcount_transform.specs.Changes.{Around, around_of, var_referred, up, touched, dead}
use Rattle.refcount_transform.specs.Counted.{counted}
use Rattle.refcount_laws.specs.Graphs.{Counting}
use Rattle.refcount_laws.specs.Made.{counts_of}
use Rattle.refcount_laws.specs.Ghost.{Ghost, Fixed, Alone, F, fixed_at, bare_at, count, memory, hit, IsCounted}
use Rattle.refcount_laws.specs.Runs.{here}
use Rattle.refcount_laws.specs.Touched.{block_in}
use Rattle.refcount_laws.specs.Owned.{owned, Roomy}
use Rattle.refcount_laws.specs.Matches.{Near, NearBlock, NearStatic, Pointing, AllRoots, Stands, Follows}
use Rattle.refcount_laws.proofs.Touching.{there_inside}
use Rattle.refcount_laws.proofs.Numbers.{Based}
use Rattle.refcount_laws.proofs.Alike.{begins_same}
use Rattle.std.specs.Prelude.{ℤ, pos, negsuc, cond, nat_lt}
use Rattle.csub_tree.specs.Operation.{word_of}
use Rattle.csub_tree.specs.declared.stuck.StuckReason.TheVariants.{Unset as IsUnset}
use Rattle.refcount_transform.specs.Changes.{changed}
use Rattle.refcount_laws.proofs.Following.{comes_before}
use Rattle.std.specs.Prelude.{not, ◌&&◌}
use Rattle.ll_live.specs.Live.{variables_of}
use Rattle.refcount_laws.proofs.Ghosts.{one_self}
use Rattle.refcount_laws.proofs.Dead.{same_is}
use Rattle.refcount_laws.proofs.Following.{copy_end}
use Rattle.refcount_laws.proofs.Operating.{typed_inside}
use Rattle.std.proofs.lemmas.Option.{slice_get_within}
use Rattle.std.specs.Prelude.{Result}
use Rattle.csub_tree.specs.declared.stuck.StuckReason.{StuckReason}
use Rattle.ll_laws.proofs.Values.{is_less}
use Rattle.csub_tree.specs.Layout.{shape_at, place}
use Rattle.csub_tree.specs.Statement.{block_at, reached, as_struct, on_block}
use Rattle.csub_tree.specs.declared.stuck.StuckReason.TheVariants.{Outside, Kind}
use Rattle.ll_code.specs.Typed.{field_of, items_of, structs_ok}
use Rattle.ll_code.specs.declared.program.LlStruct.{LlStruct}
use Rattle.ll_laws.proofs.Cells.{all_laid}
use Rattle.ll_held.proofs.Calming.{reached_there}
use Rattle.refcount_transform.specs.Plan.{shifted}
use Rattle.refcount_laws.specs.Made.{shapes_counted}
use Rattle.refcount_laws.specs.Ghost.{bare, shown, shown_fixed, occurs, field_references, item_references, references, IsWhole}
use Rattle.refcount_laws.proofs.Ghosts.{There, there, occurs_both}
use Rattle.refcount_laws.proofs.Leading.{static_there}
use Rattle.refcount_laws.proofs.Steps.{get_step, item_step}
use Rattle.refcount_laws.proofs.Standing.{StructAt, marked_there}
use Rattle.refcount_laws.proofs.Alike.{place_same}
use Rattle.refcount_laws.proofs.Members.{has_hits, inner_has, field_held, counted_begins, counted_alike, place_plain}
use Rattle.refcount_laws.proofs.Copying.{owned_has, MayHold, IsFollowedBy}

-- what is set is the same
pub near_set : (x y : Value) → Near x y → is_unset x ≡ false → y ≡ x
near_set x y (inl e) set = sym e
near_set x y (inr (e, f)) set = absurd (let g : true ≡ false = sym (ap is_unset e) ∙ set in cc)

pub pointer_set : (core : Core) (v : Value) (block : Block) → block_at core v ≡ Some block → is_unset v ≡ false
pointer_set core Unset block e = absurd (cc)
pointer_set core (Word z) block e = refl
pointer_set core (Byte z) block e = refl
pointer_set core (Flag z) block e = refl
pointer_set core (Fun z) block e = refl
pointer_set core Null block e = refl
pointer_set core (Ptr z) block e = refl
pointer_set core (Static z) block e = refl

-- what a pointer reaches begins with the struct
pub reached_begins : (p : LlProgram) (core : Core) (n : ℕ) (v : Value) (block : Block) → reached core (shapes_of p.structs) n v ≡ Ok block → begins_with (shapes_of p.structs) block.kind n ≡ true
reached_begins p core n v block e = by (begins_with (shapes_of p.structs) block.kind n) (sym (ap (as_struct (shapes_of p.structs) n) at) ∙ seen)
  where
    at : block_at core v ≡ Some block
    at = reached_there core (shapes_of p.structs) n v block e

    seen : as_struct (shapes_of p.structs) n (block_at core v) ≡ Ok block
    seen = sym (ap (λ b. cond b (Err IsUnset) (as_struct (shapes_of p.structs) n (block_at core v))) (pointer_set core v block at)) ∙ e

    by : (b : Bool) → cond b (Ok block) (Err Kind) ≡ Ok block → b ≡ true
    by true f = refl
    by false f = absurd (cc)

-- no block stands in a static
abbrev pub Apart : List Block → Type 0
Apart statics = (s : ℕ) (block : Block) → slice_get statics s ≡ Some block → ((j m : ℕ) → read block.fields j ≡ Ptr m → ⊥) × ((j m : ℕ) → read block.items j ≡ Ptr m → ⊥)

module _ (p : LlProgram) (based : Based p.structs) (counting : Counting (counted p) (counts_of (plan_of p))) (args : List (List ℕ)) (types : List LlType) (roots : AllRoots p types) (own : Value → ℕ) (ops rest : List LlOp) (e : LlExit) (ex : LlExit)
    (frames : List Frame) (b : ℕ) (core qcore : Core) (g : Ghost) (h : List (Option Block)) (at : ℕ) (fits : length core.vars ≡ length types) (stands : Stands p core qcore g h) (k : ℕ) (room : Roomy g (suc k))
    (laid : structs_ok p.structs 0 p.structs ≡ true) (apart : Apart core.statics) where
  abbrev plan : Plan
  plan = plan_of p

  abbrev q : LlProgram
  q = counted p

  abbrev around : Around
  around = around_of plan types

  abbrev IsFollowedHere : LlOp → After → Type 0
  IsFollowedHere o after = IsFollowedBy p based counting args types roots own ops rest e ex frames b core qcore g h at fits stands k room o after

  -- what a pointer reaches, in both programs
  pub record Seen (n : ℕ) (v : Value) (block : Block) : Type 0 where
    pub other : Block
    pub found : block_at (here qcore core.function b at core.vars h (memory g)) v ≡ Some other
    pub of : begins_with (shapes_counted plan) other.kind n ≡ true
    pub field : (i : ℕ) → is_unset (read block.fields (place (shape_at (shapes_of p.structs) n) i)) ≡ false → read other.fields (place (shape_at (shapes_counted plan) n) (shifted plan n i)) ≡ read block.fields (place (shape_at (shapes_of p.structs) n) i)
    pub item : (i : ℕ) → is_unset (read block.items i) ≡ false → read other.items i ≡ read block.items i
    pub size : length other.items ≡ length block.items
    pub alive : (i m r : ℕ) (t : LlType) → read block.fields (place (shape_at (shapes_of p.structs) n) i) ≡ Ptr m → field_of (slice_get p.structs n) i ≡ Some t → reference_given plan.counted (Some t) ≡ Some r → 0 < count g.blocks m
    pub alive_item : (i m r : ℕ) (t : LlType) → read block.items i ≡ Ptr m → items_of (slice_get p.structs n) ≡ Some t → reference_given plan.counted (Some t) ≡ Some r → 0 < count g.blocks m

  counted_struct : (n : ℕ) → is_counted plan n ≡ true → StructAt p.structs n
  counted_struct n c = marked_there p.structs p.graphs 0 p.structs n c

  -- items that are references lead from blocks of the struct itself
  pub items_kind : (kind n : ℕ) (t : LlType) → begins_with (shapes_of p.structs) kind n ≡ true → items_of (slice_get p.structs n) ≡ Some t → n ≡ kind
  items_kind kind n t of e = (all_laid p.structs laid).items kind n t of e

  occurs_at : (m : ℕ) (items : List Value) (i : ℕ) → read items i ≡ Ptr m → 0 < occurs (Ptr m) items
  occurs_at m [] i f = absurd (cc)
  occurs_at m (x ∷ items) zero f = omega (arith, ap (hit (Ptr m)) f, one_self m)
  occurs_at m (x ∷ items) (suc i) f = omega (arith, occurs_at m items i f)

  module _ (had : Value → ℕ) (n a : ℕ) (block : Block) (is : block_in core.blocks a ≡ Some block) (of : begins_with (shapes_of p.structs) block.kind n ≡ true) (alive : 0 < count g.blocks a) (counts : IsCounted q (counts_of plan) g had) where
    w : There g.blocks a
    w = there g.blocks a alive

    near : (block : Block) × (block_in core.blocks a ≡ Some block) × NearBlock block (bare_at g.blocks a)
    near = stands.near.each a (there_inside core.blocks a block is)

    same_block : near.0 ≡ block
    same_block = let f : Some near.0 ≡ Some block = sym near.1 ∙ is in cc

    bare_is : bare_at g.blocks a ≡ record { kind = w.kind; fields = w.fields; items = w.items }
    bare_is = ap bare w.is

    both : NearBlock block (record { kind = w.kind; fields = w.fields; items = w.items })
    both = subst (λ x. NearBlock block x) bare_is (subst (λ x. NearBlock x (bare_at g.blocks a)) same_block near.2)

    abbrev other_ : Block
    other_ = record { kind = w.kind; fields = Word (pos (suc w.n)) ∷ Fun ((counts_of plan).release w.kind) ∷ w.fields; items = w.items }

    abbrev there_at : ℕ → ℕ
    there_at i = place (shape_at (shapes_of p.structs) n) i

    cell : slice_index_or h a None ≡ Some other_
    cell = stands.shown.at a ∙ ap (shown (counts_of plan)) w.is

    of_other : begins_with (shapes_counted plan) w.kind n ≡ true
    of_other = sym (begins_same p based w.kind n) ∙ ap (λ k. begins_with (shapes_of p.structs) k n) (sym both.kind) ∙ of

    whole : IsWhole q (counts_of plan) g (record { kind = w.kind; fields = w.fields; items = w.items })
    whole = subst (IsWhole q (counts_of plan) g) bare_is (counts.whole a alive)

    cn : is_counted plan n ≡ true
    cn = counted_begins p based w.kind n of_other whole.counted

    cs : StructAt p.structs n
    cs = counted_struct n cn

    field_near : (i : ℕ) → is_unset (read block.fields (there_at i)) ≡ false → read w.fields (there_at i) ≡ read block.fields (there_at i)
    field_near i set = near_set (read block.fields (there_at i)) (read w.fields (there_at i)) (both.fields.at (there_at i)) set

    item_near : (i : ℕ) → is_unset (read block.items i) ≡ false → read w.items i ≡ read block.items i
    item_near i set = near_set (read block.items i) (read w.items i) (both.items.at i) set

    inners : (m : ℕ) → 0 < occurs (Ptr m) (references (counts_of plan) (record { kind = w.kind; fields = w.fields; items = w.items })) → 0 < count g.blocks m
    inners m lt = omega (arith, lt, inner_has (counts_of plan) g.blocks a (Ptr m) alive, ap (λ x. occurs (Ptr m) (references (counts_of plan) x)) bare_is, counts.blocks m)

    refs_both : (m : ℕ) → occurs (Ptr m) (references (counts_of plan) (record { kind = w.kind; fields = w.fields; items = w.items }))
        ≡ occurs (Ptr m) (field_references ((counts_of plan).held w.kind) w.fields) + occurs (Ptr m) (item_references ((counts_of plan).items w.kind) w.items)
    refs_both m = occurs_both (Ptr m) (field_references ((counts_of plan).held w.kind) w.fields) (item_references ((counts_of plan).items w.kind) w.items)

    pub seen_block : Seen n (Ptr a) block
    seen_block = record {
      other = other_;
      found = cell;
      of = of_other;
      field = λ i set. ap (read other_.fields) (place_same p based n i cs.s cs.is cn) ∙ field_near i set;
      item = item_near;
      size = sym both.items.size;
      alive = λ i m r t v f u. inners m
          (let has : 0 < occurs (Ptr m) (field_references ((counts_of plan).held w.kind) w.fields) =
          has_hits (there_at i) ((counts_of plan).held w.kind) w.fields m (field_held p based w.kind n i r t whole.counted of_other f u) (field_near i (ap is_unset v) ∙ v) in omega (arith, has, refs_both m));
      alive_item = λ i m r t v f u. inners m
          (let refer : (counts_of plan).items w.kind ≡ Some r = ap (λ n. reference_given plan.counted (items_of (slice_get p.structs n))) (sym (items_kind block.kind n t of f ∙ both.kind)) ∙ ap (reference_given plan.counted) f ∙ u in
          let has : 0 < occurs (Ptr m) (item_references ((counts_of plan).items w.kind) w.items) = subst (λ o. 0 < occurs (Ptr m) (item_references o w.items)) (sym refer) (occurs_at m w.items i (item_near i (ap is_unset v) ∙ v)) in
          omega (arith, has, refs_both m));
    }

  -- a static
  module _ (n s : ℕ) (block : Block) (is : slice_get core.statics s ≡ Some block) (of : begins_with (shapes_of p.structs) block.kind n ≡ true) (there_n : StructAt p.structs n) where
    abbrev spot : ℕ → ℕ
    spot i = place (shape_at (shapes_of p.structs) n) i

    alone_there : (t : List Fixed) (s : ℕ) (block : Block) → s < length t → fixed_at t s ≡ Alone block → slice_get (map shown_fixed t) s ≡ Some block
    alone_there [] s block lt f = absurd (omega (arith, lt))
    alone_there (d ∷ t) zero block lt f = ap (λ d. Some (shown_fixed d)) f
    alone_there (d ∷ t) (suc s) block lt f = alone_there t s block (omega (arith, lt)) f

    static_inside : s < length g.statics
    static_inside = let lt : s < length core.statics = slice_get_within core.statics s block is in omega (arith, lt, stands.near.size_statics)

    by_static : (d : Fixed) → fixed_at g.statics s ≡ d → NearStatic plan block d → Seen n (Static s) block
    by_static (Alone other) f (same, plain) =
        let of_q : begins_with (shapes_counted plan) block.kind n ≡ true = sym (begins_same p based block.kind n) ∙ of in
        let not : is_counted plan n ≡ false = sym (counted_alike p based block.kind n of_q) ∙ plain in
        record {
          other = block;
          found = alone_there g.statics s block static_inside (f ∙ ap Alone (sym same));
          of = of_q;
          field = λ i set. ap (read block.fields) (place_plain p based n i there_n.s there_n.is not);
          item = λ i set. refl;
          size = refl;
          alive = λ i m r t v f u. absurd ((apart s block is).0 (spot i) m v);
          alive_item = λ i m r t v f u. absurd ((apart s block is).1 i m v);
        }
    by_static (F c kind fields items) f (near, counted_kind) =
        let of_q : begins_with (shapes_counted plan) kind n ≡ true = sym (begins_same p based kind n) ∙ ap (λ k. begins_with (shapes_of p.structs) k n) (sym near.kind) ∙ of in
        let cn : is_counted plan n ≡ true = counted_begins p based kind n of_q counted_kind in
        record {
          other = record { kind = kind; fields = Word (pos c) ∷ Null ∷ fields; items = items };
          found = static_there g.statics s c kind fields items f;
          of = of_q;
          field = λ i set. ap (read (Word (pos c) ∷ Null ∷ fields)) (place_same p based n i there_n.s there_n.is cn) ∙ near_set (read block.fields (spot i)) (read fields (spot i)) (near.fields.at (spot i)) set;
          item = λ i set. near_set (read block.items i) (read items i) (near.items.at i) set;
          size = sym near.items.size;
          alive = λ i m r t v f u. absurd ((apart s block is).0 (spot i) m v);
          alive_item = λ i m r t v f u. absurd ((apart s block is).1 i m v);
        }

    pub seen_static : Seen n (Static s) block
    seen_static = by_static (fixed_at g.statics s) refl (stands.near.each_static s block is)

  -- ---- what a variable reaches

  pub struct_of : (n i : ℕ) (t : LlType) → field_of (slice_get p.structs n) i ≡ Some t → StructAt p.structs n
  struct_of n i t f = by (slice_get p.structs n) refl f
    where
      by : (o : Option LlStruct) → slice_get p.structs n ≡ o → field_of o i ≡ Some t → StructAt p.structs n
      by None g f = absurd (cc)
      by (Some s) g f = record { s = s; is = g }

  pub struct_with : (n : ℕ) (t : LlType) → items_of (slice_get p.structs n) ≡ Some t → StructAt p.structs n
  struct_with n t f = by (slice_get p.structs n) refl f
    where
      by : (o : Option LlStruct) → slice_get p.structs n ≡ o → items_of o ≡ Some t → StructAt p.structs n
      by None g f = absurd (cc)
      by (Some s) g f = record { s = s; is = g }

  referred_place : (v n : ℕ) → var_referred around v ≡ Some n → v < length core.vars
  referred_place v n r = let lt : v < length types = inside types v n r in omega (arith, lt, fits)
    where
      inside : (ts : List LlType) (v n : ℕ) → reference_given plan.counted (slice_get ts v) ≡ Some n → v < length ts
      inside [] v n e = absurd (cc)
      inside (t ∷ ts) zero n e = omega arith
      inside (t ∷ ts) (suc v) n e = omega (arith, inside ts v n e)

  -- a block that a live variable leads to is there
  pub var_alive : (uses : ℕ → Bool) (v m : ℕ) → Pointing p types core.blocks core.statics uses core.vars → IsCounted q (counts_of plan) g (λ r. owned around uses core.vars r + own r) → uses v ≡ true → read core.vars v ≡ Ptr m → 0 < count g.blocks m
  var_alive uses v m pointing counts u r =
      let w : (n : ℕ) × (var_referred around v ≡ Some n) = pointing.refers v m u r in
      let has : 0 < owned around uses core.vars (Ptr m) = owned_has around 0 uses core.vars v w.0 m (referred_place v w.0 w.1) u w.1 r in
      omega (arith, has, counts.blocks m)

  pub var_seen : (uses : ℕ → Bool) (v n : ℕ) (block : Block) → Pointing p types core.blocks core.statics uses core.vars → IsCounted q (counts_of plan) g (λ r. owned around uses core.vars r + own r) → uses v ≡ true → StructAt p.structs n
      → reached core (shapes_of p.structs) n (read core.vars v) ≡ Ok block → Seen n (read core.vars v) block
  var_seen uses v n block pointing counts u st found =
      by (read core.vars v) (λ m r. var_alive uses v m pointing counts u r) (reached_there core (shapes_of p.structs) n (read core.vars v) block found) (reached_begins p core n (read core.vars v) block found)
    where
      by : (x : Value) → ((m : ℕ) → x ≡ Ptr m → 0 < count g.blocks m) → block_at core x ≡ Some block → begins_with (shapes_of p.structs) block.kind n ≡ true → Seen n x block
      by Unset alive at of = absurd (cc)
      by (Word z) alive at of = absurd (cc)
      by (Byte z) alive at of = absurd (cc)
      by (Flag z) alive at of = absurd (cc)
      by (Fun z) alive at of = absurd (cc)
      by Null alive at of = absurd (cc)
      by (Ptr m) alive at of = seen_block (λ r. owned around uses core.vars r + own r) n m block at of (alive m refl) counts
      by (Static s) alive at of = seen_static n s block at of st

  -- ---- fields

  abbrev step_of : LlOp → List LlOp → State
  step_of o rest = At (o ∷ rest) ex frames (here qcore core.function b at core.vars h (memory g))

  module _ (a n v i : ℕ) (t : LlType) (is_field : field_of (slice_get p.structs n) i ≡ Some t) (typed : slice_get types a ≡ Some t) (unread : (m : ℕ) → var_referred around a ≡ Some m → among a (v ∷ []) ≡ false) where
    pub get_field_followed : ((block : Block) → reached core (shapes_of p.structs) n (read core.vars v) ≡ Ok block → is_unset (read block.fields (place (shape_at (shapes_of p.structs) n) i)) ≡ false → MayHold p based counting args types roots own ops rest e ex frames b core qcore g h at fits stands k room a (read block.fields (place (shape_at (shapes_of p.structs) n) i)))
        → IsFollowedHere (op.GetField a n v i) (does p args core (op.GetField a n v i))
    get_field_followed may pointing counts = by (reached core (shapes_of p.structs) n (read core.vars v)) refl
      where
        used : live (op.GetField a n v i ∷ ops) e v ≡ true
        used = ap (λ y. (y || false) || (not (sets (Some a) v) && live ops e v)) (same_is v)

        inside : a < length core.vars
        inside = let lt : a < length types = typed_inside types a t typed in omega (arith, lt, fits)

        set : (block : Block) → reached core (shapes_of p.structs) n (read core.vars v) ≡ Ok block → (y : Bool) → is_unset (read block.fields (place (shape_at (shapes_of p.structs) n) i)) ≡ y
            → Follows p args types (live ops e) own (At (changed around (op.GetField a n v i) (dead around (touched (op.GetField a n v i)) ops e rest)) ex frames (here qcore core.function b at core.vars h (memory g))) rest ex frames b
            (cond y (Stuck IsUnset) (st.assigned core a (read block.fields (place (shape_at (shapes_of p.structs) n) i))))
        set block found true y = tt
        set block found false y =
            let x : Value = read block.fields (place (shape_at (shapes_of p.structs) n) i) in
            let s : Seen n (read core.vars v) block = var_seen (live (op.GetField a n v i ∷ ops) e) v n block pointing counts used (struct_of n i t is_field) found in
            let may_hold : MayHold p based counting args types roots own ops rest e ex frames b core qcore g h at fits stands k room a x = may block found y in
            let behind : List LlOp = up around (Var a) (dead around (touched (op.GetField a n v i)) ops e rest) in
            comes_before p based counting args types roots own (op.GetField a n v i) ops rest e ex frames b (live ops e) (step_of (op.GetField a n v (shifted plan n i)) behind)
            (At behind ex frames (here qcore core.function b (at + 1) (slice_set core.vars a x) h (memory g))) (record core { at = core.at + 1; vars = slice_set core.vars a x })
            (get_step q args qcore core.function b ex frames a n v (shifted plan n i) at behind core.vars h (memory g) (read core.vars v) x s.other refl (pointer_set core (read core.vars v) block (reached_there core (shapes_of p.structs) n (read core.vars v) block found))
            s.found s.of (s.field i y) y)
            (copy_end p based counting args types roots own (op.GetField a n v i) ops rest e ex frames b a refl core qcore g h (at + 1) k x inside fits unread stands pointing may_hold.points may_hold.refers
            (λ m r. (let w : (n : ℕ) × (var_referred around a ≡ Some n) = may_hold.refers m r in s.alive i m w.0 t r is_field (ap (reference_given plan.counted) (sym typed) ∙ w.1))) room counts)

        by : (r : Result Block StuckReason) → reached core (shapes_of p.structs) n (read core.vars v) ≡ r
            → Follows p args types (live ops e) own (At (changed around (op.GetField a n v i) (dead around (touched (op.GetField a n v i)) ops e rest)) ex frames (here qcore core.function b at core.vars h (memory g))) rest ex frames b
            (on_block (λ block. st.set core a (read block.fields (place (shape_at (shapes_of p.structs) n) i))) r)
        by (Err reason) found = tt
        by (Ok block) found = set block found (is_unset (read block.fields (place (shape_at (shapes_of p.structs) n) i))) refl

  -- ---- items

  module _ (a n v : ℕ) (x : COperand) (t : LlType) (are_items : items_of (slice_get p.structs n) ≡ Some t) (typed : slice_get types a ≡ Some t) (unread : (m : ℕ) → var_referred around a ≡ Some m → among a (v ∷ variables_of x) ≡ false) where
    pub get_item_followed : ((block : Block) (i : ℕ) → reached core (shapes_of p.structs) n (read core.vars v) ≡ Ok block → is_unset (read block.items i) ≡ false → MayHold p based counting args types roots own ops rest e ex frames b core qcore g h at fits stands k room a (read block.items i))
        → IsFollowedHere (op.GetItem a n v x) (does p args core (op.GetItem a n v x))
    get_item_followed may pointing counts = by (word_of (operand core.vars x)) refl (reached core (shapes_of p.structs) n (read core.vars v)) refl
      where
        used : live (op.GetItem a n v x ∷ ops) e v ≡ true
        used = ap (λ y. (y || among v (variables_of x)) || (not (sets (Some a) v) && live ops e v)) (same_is v)

        inside : a < length core.vars
        inside = let lt : a < length types = typed_inside types a t typed in omega (arith, lt, fits)

        word_is : (u : Value) (i : ℕ) → word_of u ≡ Some (pos i) → u ≡ Word (pos i)
        word_is (Word z) i f = let g : z ≡ pos i = cc in ap Word g
        word_is Unset i f = absurd (cc)
        word_is (Byte z) i f = absurd (cc)
        word_is (Flag z) i f = absurd (cc)
        word_is (Fun z) i f = absurd (cc)
        word_is Null i f = absurd (cc)
        word_is (Ptr z) i f = absurd (cc)
        word_is (Static z) i f = absurd (cc)

        set : (block : Block) (i : ℕ) → reached core (shapes_of p.structs) n (read core.vars v) ≡ Ok block → word_of (operand core.vars x) ≡ Some (pos i) → i < length block.items → (y : Bool) → is_unset (read block.items i) ≡ y
            → Follows p args types (live ops e) own (At (changed around (op.GetItem a n v x) (dead around (touched (op.GetItem a n v x)) ops e rest)) ex frames (here qcore core.function b at core.vars h (memory g))) rest ex frames b
            (cond y (Stuck IsUnset) (st.assigned core a (read block.items i)))
        set block i found w lt true y = tt
        set block i found w lt false y =
            let z : Value = read block.items i in
            let s : Seen n (read core.vars v) block = var_seen (live (op.GetItem a n v x ∷ ops) e) v n block pointing counts used (struct_with n t are_items) found in
            let may_hold : MayHold p based counting args types roots own ops rest e ex frames b core qcore g h at fits stands k room a z = may block i found y in
            let behind : List LlOp = up around (Var a) (dead around (touched (op.GetItem a n v x)) ops e rest) in
            comes_before p based counting args types roots own (op.GetItem a n v x) ops rest e ex frames b (live ops e) (step_of (op.GetItem a n v x) behind)
            (At behind ex frames (here qcore core.function b (at + 1) (slice_set core.vars a z) h (memory g))) (record core { at = core.at + 1; vars = slice_set core.vars a z })
            (item_step q args qcore core.function b ex frames a n v at i x behind core.vars h (memory g) (read core.vars v) z s.other refl (pointer_set core (read core.vars v) block (reached_there core (shapes_of p.structs) n (read core.vars v) block found))
            (word_is (operand core.vars x) i w) (omega (arith, lt, s.size)) s.found s.of (s.item i y) y)
            (copy_end p based counting args types roots own (op.GetItem a n v x) ops rest e ex frames b a refl core qcore g h (at + 1) k z inside fits unread stands pointing may_hold.points may_hold.refers
            (λ m r. (let w : (n : ℕ) × (var_referred around a ≡ Some n) = may_hold.refers m r in s.alive_item i m w.0 t r are_items (ap (reference_given plan.counted) (sym typed) ∙ w.1))) room counts)

        at_item : (block : Block) (i : ℕ) → reached core (shapes_of p.structs) n (read core.vars v) ≡ Ok block → word_of (operand core.vars x) ≡ Some (pos i) → (y : Bool) → nat_lt i (length block.items) ≡ y
            → Follows p args types (live ops e) own (At (changed around (op.GetItem a n v x) (dead around (touched (op.GetItem a n v x)) ops e rest)) ex frames (here qcore core.function b at core.vars h (memory g))) rest ex frames b
            (cond y (st.set core a (read block.items i)) (Stuck Outside))
        at_item block i found w false y = tt
        at_item block i found w true y = set block i found w (is_less i (length block.items) y) (is_unset (read block.items i)) refl

        by : (w : Option ℤ) → word_of (operand core.vars x) ≡ w → (r : Result Block StuckReason) → reached core (shapes_of p.structs) n (read core.vars v) ≡ r
            → Follows p args types (live ops e) own (At (changed around (op.GetItem a n v x) (dead around (touched (op.GetItem a n v x)) ops e rest)) ex frames (here qcore core.function b at core.vars h (memory g))) rest ex frames b
            (st.on (λ i. on_block (λ block. st.item core a block.items i) r) w)
        by None w r found = tt
        by (Some (negsuc i)) w (Err reason) found = tt
        by (Some (negsuc i)) w (Ok block) found = tt
        by (Some (pos i)) w (Err reason) found = tt
        by (Some (pos i)) w (Ok block) found = at_item block i found w (nat_lt i (length block.items)) refl
