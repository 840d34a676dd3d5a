-- Counts have room where few references stand in what is held: the references of a block stand at different places, and what is owned
-- stands in the roots.
use Rattle.std.proofs.Common.{◌≡◌, inl, inr, ◌<◌, ◌≤◌, ℕ, zero, suc, ◌+◌, Bool, true, false, ◌&&◌, ◌||◌, List, [], ◌∷◌, ◌++◌, length, map, Option, Some, None, refl, sym, ap, ◌∙◌, subst, arith}
use Rattle.std.specs.Prelude.{slice_get, slice_set, cond, is_some, not}
use Rattle.csub_tree.specs.State.{Value, Unset, Word, Byte, Flag, Fun, Null, Ptr, Static, Block, Core}
use Rattle.csub_tree.specs.Layout.{shape_at}
use Rattle.csub_tree.specs.Statement.{read}
use Rattle.ll_code.specs.Machine.{shapes_of}
use Rattle.ll_code.specs.State.{Frame, Calling, At, Returning}
use Rattle.ll_code.specs.Typed as typed
use Rattle.ll_code.specs.declared.program.LlType.{LlType}
use Rattle.ll_code.specs.declared.program.LlStruct.{LlStruct}
use Rattle.ll_code.specs.declared.program.LlOp.{LlOp}
use Rattle.ll_code.specs.declared.program.LlExit.{LlExit}
use Rattle.ll_code.specs.declared.program.LlProgram.{LlProgram}
use Rattle.ll_held.specs.Held.{times, references as references_of, is_reference, cells, cells_at, IsBelow}
use Rattle.ll_held.specs.Roots.{kept, slots, waits_for, waiting_roots, read_by, roots}
use Rattle.ll_held.proofs.Keeping.{references_append, in_first, in_second, head_in, tail_in}
use Rattle.ll_live.specs.Live.{among, reads, sets, live}
use Rattle.refcount_transform.specs.declared.plan.Held.{Held}
use Rattle.refcount_transform.specs.Plan.{Plan, plan_of, is_counted, base_at, referred, fields_of, fields_given, field_number, held_if, held_from, own_held, of_base, held_within}
use Rattle.refcount_transform.specs.Changes.{Around, around_of, var_referred}
use Rattle.refcount_transform.specs.Counted.{counted}
use Rattle.refcount_laws.specs.Graphs.{Reference, Counts}
use Rattle.refcount_laws.specs.Ghost.{Ghost, Fixed, Alone, F, Slot, fixed_at, IsFixed, count, bare_at, occurs, hit, one, inner, references, field_references, item_references, Apart, IsCounted}
use Rattle.refcount_laws.specs.Made.{counts_of, reference_of, place_in}
use Rattle.refcount_laws.specs.Matches.{Near, AllNear, NearBlock, NearMemory}
use Rattle.refcount_laws.specs.Owned.{owns, owned, hits_by, Roomy, HasRoomBy}
use Rattle.refcount_laws.specs.Leaves.{given_to}
use Rattle.refcount_laws.specs.Touched.{block_in}
use Rattle.refcount_laws.specs.Whole.{Call, Waits, AllWait, slots_own, waits_own, beside}
use Rattle.refcount_laws.specs.Reach.{Mirrors, Owns}
use Rattle.refcount_laws.proofs.Numbers.{Based}
use Rattle.refcount_laws.proofs.Spread.{Low, High, own_at, begin, begin_is, held_high}
use Rattle.refcount_laws.proofs.Leftover.{edges_of}
use Rattle.refcount_laws.proofs.Reaching.{has_room}
use Rattle.refcount_laws.proofs.Cells.{set_other}
use Rattle.refcount_laws.proofs.Standing.{StructAt, marked_there}
use Rattle.refcount_laws.proofs.Places.{earlier, counted_base}
use Rattle.refcount_checks.specs.Countable.{most}

-- ---- references that are hit

one_is : (m n : ℕ) → 0 < one m n → m ≡ n
one_is zero zero h = refl
one_is zero (suc n) h = absurd (omega (arith, h))
one_is (suc m) zero h = absurd (omega (arith, h))
one_is (suc m) (suc n) h = ap suc (one_is m n h)

one_most : (m n : ℕ) → one m n ≤ 1
one_most zero zero = omega arith
one_most zero (suc n) = omega arith
one_most (suc m) zero = omega arith
one_most (suc m) (suc n) = one_most m n

hit_most : (r v : Value) → hit r v ≤ references_of (v ∷ [])
hit_most (Ptr a) (Ptr b) = one_most b a
hit_most (Static a) (Static b) = one_most b a
hit_most r v = omega arith

hit_is : (b : ℕ) (v : Value) → 0 < hit (Ptr b) v → v ≡ Ptr b
hit_is b (Ptr n) h = ap Ptr (one_is n b h)
hit_is b Unset h = absurd (omega (arith, h))
hit_is b (Word z) h = absurd (omega (arith, h))
hit_is b (Byte z) h = absurd (omega (arith, h))
hit_is b (Flag z) h = absurd (omega (arith, h))
hit_is b (Fun z) h = absurd (omega (arith, h))
hit_is b Null h = absurd (omega (arith, h))
hit_is b (Static z) h = absurd (omega (arith, h))

-- ---- what is owned stands in the roots

owns_same : (own other : Value → ℕ) (roots : List Value) → ((r : Value) → other r ≡ own r) → Owns own roots → Owns other roots
owns_same own other roots same w = record {
  named = λ b h. w.named b (omega (arith, h, same (Ptr b)));
  fewer = λ r. let e : other r ≡ own r = same r in let f : own r ≤ references_of roots = w.fewer r in omega (arith, e, f);
}

owns_both : (a b : Value → ℕ) (xs ys : List Value) → Owns a xs → Owns b ys → Owns (λ r. a r + b r) (xs ++ ys)
owns_both a b xs ys x y = record { named = λ n h. in_parts n h (a (Ptr n)) refl; fewer = λ r. let f : a r ≤ references_of xs = x.fewer r in let g : b r ≤ references_of ys = y.fewer r in omega (arith, f, g, references_append xs ys) }
  where
    in_parts : (n : ℕ) → 0 < a (Ptr n) + b (Ptr n) → (m : ℕ) → a (Ptr n) ≡ m → 0 < times n (xs ++ ys)
    in_parts n h zero e = in_second n xs ys (y.named n (omega (arith, h, e)))
    in_parts n h (suc m) e = in_first n xs ys (x.named n (omega (arith, e)))

owns_none : Owns (λ r. 0) []
owns_none = record { named = λ b h. absurd (omega (arith, h)); fewer = λ r. omega arith }

owns_hit : (o : Option ℕ) (v : Value) → Owns (λ r. hits_by o v r) (v ∷ [])
owns_hit None v = record { named = λ b h. absurd (omega (arith, h)); fewer = λ r. omega arith }
owns_hit (Some n) v = record { named = λ b h. head_in b v [] (hit_is b v h); fewer = λ r. hit_most r v }

owns_first : (a b : Value → ℕ) (x : Value) (xs : List Value) → Owns a (x ∷ []) → Owns b xs → Owns (λ r. a r + b r) (x ∷ xs)
owns_first a b x xs u w = owns_both a b (x ∷ []) xs u w

owns_more : (own : Value → ℕ) (x : Value) (xs : List Value) → Owns own xs → Owns own (x ∷ xs)
owns_more own x xs w = record { named = λ b h. tail_in b x xs (w.named b h); fewer = λ r. let f : own r ≤ references_of xs = w.fewer r in let g : references_of xs ≤ references_of (x ∷ xs) = more (is_reference x) in omega (arith, f, g) }
  where
    more : (b : Bool) → references_of xs ≤ cond b (suc (references_of xs)) (references_of xs)
    more true = omega arith
    more false = omega arith

-- variables that own something, among those that are used
owns_kept : (f g : ℕ → Bool) (n : ℕ) (vars : List Value) → ((v : ℕ) → f v ≡ true → g v ≡ true) → Owns (λ r. occurs r (kept f n vars)) (kept g n vars)
owns_kept f g n [] more = owns_none
owns_kept f g n (x ∷ vars) more = by (f n) (g n) (more n) (owns_kept f g (suc n) vars more)
  where
    by : (y z : Bool) → (y ≡ true → z ≡ true) → Owns (λ r. occurs r (kept f (suc n) vars)) (kept g (suc n) vars) → Owns (λ r. occurs r (cond y (x ∷ kept f (suc n) vars) (kept f (suc n) vars))) (cond z (x ∷ kept g (suc n) vars) (kept g (suc n) vars))
    by true true m w = owns_first (λ r. hit r x) (λ r. occurs r (kept f (suc n) vars)) x (kept g (suc n) vars) (owns_hit (Some 0) x) w
    by true false m w = absurd (let z : false ≡ true = m refl in cc)
    by false true m w = owns_more (λ r. occurs r (kept f (suc n) vars)) x (kept g (suc n) vars) w
    by false false m w = w

left_true : (x y : Bool) → (x && y) ≡ true → x ≡ true
left_true true y e = refl
left_true false y e = absurd (cc)

owns_vars : (around : Around) (uses more : ℕ → Bool) (vars : List Value) → ((v : ℕ) → uses v ≡ true → more v ≡ true) → Owns (λ r. owned around uses vars r) (kept more 0 vars)
owns_vars around uses more vars h = owns_kept (owns around uses) more 0 vars (λ v e. h v (left_true (uses v) (is_some (var_referred around v)) e))

owns_slots : (p : LlProgram) (core : Core) → Owns (λ r. slots_own p core r) (slots core)
owns_slots p core = owns_first (λ r. hits_by (plan_of p).slots.kind core.exc_type r) (λ r. hits_by (plan_of p).slots.value core.exc_value r) core.exc_type (core.exc_value ∷ []) (owns_hit (plan_of p).slots.kind core.exc_type) (owns_hit (plan_of p).slots.value core.exc_value)

-- what a call reads, and what is live behind it
pub waits_same : (p : LlProgram) (call : Call) (frame other : Frame) → Waits p call frame other → (v : ℕ) → live (call.op ∷ frame.ops) frame.exit v ≡ waits_for p frame v
waits_same p call frame other w v = ap (λ s. among v (reads call.op) || (not (sets s v) && live frame.ops frame.exit v)) w.into ∙ sym (ap (λ o. read_by o v || (not (sets frame.into v) && live frame.ops frame.exit v)) w.under)

owns_waits : (p : LlProgram) (calls : List Call) (frames others : List Frame) → AllWait p calls frames others → Owns (λ r. waits_own p calls frames r) (waiting_roots p frames)
owns_waits p [] [] [] w = owns_none
owns_waits p [] [] (other ∷ others) w = absurd w
owns_waits p [] (frame ∷ frames) others w = absurd w
owns_waits p (call ∷ calls) [] others w = absurd w
owns_waits p (call ∷ calls) (frame ∷ frames) [] w = absurd w
owns_waits p (call ∷ calls) (frame ∷ frames) (other ∷ others) (w, ws) =
    owns_both (λ r. owned (around_of (plan_of p) call.graph.types) (live (call.op ∷ frame.ops) frame.exit) frame.vars r) (λ r. waits_own p calls frames r) (kept (waits_for p frame) 0 frame.vars) (waiting_roots p frames)
    (owns_vars (around_of (plan_of p) call.graph.types) (live (call.op ∷ frame.ops) frame.exit) (waits_for p frame) frame.vars (λ v e. sym (waits_same p call frame other w v) ∙ e))
    (owns_waits p calls frames others ws)

pub owns_at : (p : LlProgram) (types : List LlType) (calls : List Call) (ops : List LlOp) (e : LlExit) (frames others : List Frame) (core : Core) → AllWait p calls frames others
    → Owns (λ r. owned (around_of (plan_of p) types) (live ops e) core.vars r + beside p calls frames core r) (roots p (At ops e frames core))
owns_at p types calls ops e frames others core w =
    owns_same (λ r. (owned (around_of (plan_of p) types) (live ops e) core.vars r + slots_own p core r) + waits_own p calls frames r) (λ r. owned (around_of (plan_of p) types) (live ops e) core.vars r + beside p calls frames core r) (roots p (At ops e frames core))
    (λ r. omega arith)
    (owns_both (λ r. owned (around_of (plan_of p) types) (live ops e) core.vars r + slots_own p core r) (λ r. waits_own p calls frames r) (kept (live ops e) 0 core.vars ++ slots core) (waiting_roots p frames)
    (owns_both (λ r. owned (around_of (plan_of p) types) (live ops e) core.vars r) (λ r. slots_own p core r) (kept (live ops e) 0 core.vars) (slots core) (owns_vars (around_of (plan_of p) types) (live ops e) (live ops e) core.vars (λ v e. e)) (owns_slots p core))
    (owns_waits p calls frames others w))

owns_given : (around : Around) (n : ℕ) (values : List Value) → Owns (λ r. given_to around n values r) values
owns_given around n [] = owns_none
owns_given around n (x ∷ values) = owns_first (λ r. hits_by (var_referred around n) x r) (λ r. given_to around (suc n) values r) x values (owns_hit (var_referred around n) x) (owns_given around (suc n) values)

pub owns_calling : (p : LlProgram) (types : List LlType) (calls : List Call) (f : ℕ) (values : List Value) (frames others : List Frame) (core : Core) → AllWait p calls frames others
    → Owns (λ r. given_to (around_of (plan_of p) types) 0 values r + beside p calls frames core r) (roots p (Calling f values frames core))
owns_calling p types calls f values frames others core w =
    owns_same (λ r. (given_to (around_of (plan_of p) types) 0 values r + slots_own p core r) + waits_own p calls frames r) (λ r. given_to (around_of (plan_of p) types) 0 values r + beside p calls frames core r) (roots p (Calling f values frames core))
    (λ r. omega arith)
    (owns_both (λ r. given_to (around_of (plan_of p) types) 0 values r + slots_own p core r) (λ r. waits_own p calls frames r) (values ++ slots core) (waiting_roots p frames)
    (owns_both (λ r. given_to (around_of (plan_of p) types) 0 values r) (λ r. slots_own p core r) values (slots core) (owns_given (around_of (plan_of p) types) 0 values) (owns_slots p core))
    (owns_waits p calls frames others w))

pub owns_returning : (p : LlProgram) (o : Option ℕ) (calls : List Call) (value : Value) (frames others : List Frame) (core : Core) → AllWait p calls frames others
    → Owns (λ r. hits_by o value r + beside p calls frames core r) (roots p (Returning value frames core))
owns_returning p o calls value frames others core w =
    owns_first (λ r. hits_by o value r) (λ r. beside p calls frames core r) value (slots core ++ waiting_roots p frames) (owns_hit o value)
    (owns_both (λ r. slots_own p core r) (λ r. waits_own p calls frames r) (slots core) (waiting_roots p frames) (owns_slots p core) (owns_waits p calls frames others w))

-- ---- the references of a block stand at different places

abbrev Distinct : List Reference → Type 0
Distinct [] = Unit {0}
Distinct (r ∷ held) = Apart r held × Distinct held

same_fields : (held : List Reference) (fields : List Value) (r : Reference) (w : Value) → Apart r held → field_references held (slice_set fields r.at w) ≡ field_references held fields
same_fields [] fields r w h = refl
same_fields (k ∷ held) fields r w h =
    ap (λ v. v ∷ field_references held (slice_set fields r.at w)) (set_other fields r.at k.at w Unset (λ e. h.0 (sym e))) ∙ ap (λ l. read fields k.at ∷ l) (same_fields held fields r w h.1)

-- one reference less
null_less : (fields : List Value) (k : ℕ) → is_reference (read fields k) ≡ true → references_of fields ≡ suc (references_of (slice_set fields k Null))
null_less [] k h = absurd (cc)
null_less (x ∷ fields) zero h = ap (λ b. cond b (suc (references_of fields)) (references_of fields)) h
null_less (x ∷ fields) (suc k) h = by (is_reference x) (null_less fields k h)
  where
    by : (b : Bool) → references_of fields ≡ suc (references_of (slice_set fields k Null)) → cond b (suc (references_of fields)) (references_of fields) ≡ suc (cond b (suc (references_of (slice_set fields k Null))) (references_of (slice_set fields k Null)))
    by true e = ap suc e
    by false e = e

hit_reference : (r v : Value) (n : ℕ) → hit r v ≡ suc n → is_reference v ≡ true
hit_reference (Ptr a) (Ptr b) n e = refl
hit_reference (Static a) (Static b) n e = refl
hit_reference r v n e = by r v e
  where
    by : (r v : Value) → hit r v ≡ suc n → is_reference v ≡ true
    by r (Ptr b) e = refl
    by r (Static b) e = refl
    by r Unset e = absurd (none r e)
      where
        none : (r : Value) → hit r Unset ≡ suc n → ⊥
        none (Ptr a) e = cc
        none (Static a) e = cc
        none other e = cc
    by r (Word z) e = absurd (none r e)
      where
        none : (r : Value) → hit r (Word z) ≡ suc n → ⊥
        none (Ptr a) e = cc
        none (Static a) e = cc
        none other e = cc
    by r (Byte z) e = absurd (none r e)
      where
        none : (r : Value) → hit r (Byte z) ≡ suc n → ⊥
        none (Ptr a) e = cc
        none (Static a) e = cc
        none other e = cc
    by r (Flag z) e = absurd (none r e)
      where
        none : (r : Value) → hit r (Flag z) ≡ suc n → ⊥
        none (Ptr a) e = cc
        none (Static a) e = cc
        none other e = cc
    by r (Fun z) e = absurd (none r e)
      where
        none : (r : Value) → hit r (Fun z) ≡ suc n → ⊥
        none (Ptr a) e = cc
        none (Static a) e = cc
        none other e = cc
    by r Null e = absurd (none r e)
      where
        none : (r : Value) → hit r Null ≡ suc n → ⊥
        none (Ptr a) e = cc
        none (Static a) e = cc
        none other e = cc

hit_one : (r v : Value) → hit r v ≤ 1
hit_one (Ptr a) (Ptr b) = one_most b a
hit_one (Static a) (Static b) = one_most b a
hit_one r v = omega arith

fields_fewer : (held : List Reference) (fields : List Value) (r : Value) → Distinct held → occurs r (field_references held fields) ≤ references_of fields
fields_fewer [] fields r d = omega arith
fields_fewer (h ∷ held) fields r (a, d) = by (hit r (read fields h.at)) refl (fields_fewer held fields r d) (fields_fewer held (slice_set fields h.at Null) r d)
  where
    by : (n : ℕ) → hit r (read fields h.at) ≡ n → occurs r (field_references held fields) ≤ references_of fields → occurs r (field_references held (slice_set fields h.at Null)) ≤ references_of (slice_set fields h.at Null)
        → hit r (read fields h.at) + occurs r (field_references held fields) ≤ references_of fields
    by zero e x y = omega (arith, e, x)
    by (suc n) e x y =
        let z : occurs r (field_references held fields) ≤ references_of (slice_set fields h.at Null) = subst (λ l. occurs r l ≤ references_of (slice_set fields h.at Null)) (same_fields held fields h Null a) y in
        let w : references_of fields ≡ suc (references_of (slice_set fields h.at Null)) = null_less fields h.at (hit_reference r (read fields h.at) n e) in
        let u : hit r (read fields h.at) ≤ 1 = hit_one r (read fields h.at) in
        omega (arith, z, w, u)

occurs_fewer : (values : List Value) (r : Value) → occurs r values ≤ references_of values
occurs_fewer [] r = omega arith
occurs_fewer (v ∷ values) r = by (is_reference v) (hit_most r v) (occurs_fewer values r)
  where
    by : (b : Bool) → hit r v ≤ cond b 1 0 → occurs r values ≤ references_of values → hit r v + occurs r values ≤ cond b (suc (references_of values)) (references_of values)
    by true x y = omega (arith, x, y)
    by false x y = omega (arith, x, y)

occurs_two : (r : Value) (xs ys : List Value) → occurs r (xs ++ ys) ≡ occurs r xs + occurs r ys
occurs_two r [] ys = omega arith
occurs_two r (x ∷ xs) ys = omega (arith, occurs_two r xs ys)

-- cells that are near have as many references
near_same : (x y : Value) → Near x y → is_reference x ≡ is_reference y
near_same x y (inl e) = ap is_reference e
near_same x y (inr (u, n)) = ap is_reference u ∙ sym n

near_references : (xs ys : List Value) → AllNear xs ys → references_of xs ≡ references_of ys
near_references [] [] w = refl
near_references [] (y ∷ ys) w = absurd (let e : 0 ≡ suc (length ys) = w.size in omega (arith, e))
near_references (x ∷ xs) [] w = absurd (let e : suc (length xs) ≡ 0 = w.size in omega (arith, e))
near_references (x ∷ xs) (y ∷ ys) w =
    ap (λ b. cond b (suc (references_of xs)) (references_of xs)) (near_same x y (w.at 0))
    ∙ ap (λ n. cond (is_reference y) (suc n) n) (near_references xs ys (record { size = (let e : suc (length xs) ≡ suc (length ys) = w.size in omega (arith, e)); at = λ k. w.at (suc k) }))

low_apart : (r : Reference) (low : ℕ) (held : List Reference) → r.at < low → Low low held → Apart r held
low_apart r low [] lt h = tt
low_apart r low (k ∷ held) lt h = ((λ e. absurd (let le : low ≤ k.at = h.0 in omega (arith, lt, le, e))), low_apart r low held lt h.1)

apart_two : (r : Reference) (plan : Plan) (xs ys : List Held) → Apart r (map (reference_of plan) xs) → Apart r (map (reference_of plan) ys) → Apart r (map (reference_of plan) (xs ++ ys))
apart_two r plan [] ys a b = b
apart_two r plan (x ∷ xs) ys a b = (a.0, apart_two r plan xs ys a.1 b)

high_apart : (r : Reference) (high : ℕ) (held : List Reference) → high ≤ r.at → High high held → Apart r held
high_apart r high [] le h = tt
high_apart r high (k ∷ held) le h = ((λ e. absurd (let lt : k.at < high = h.0 in omega (arith, lt, le, e))), high_apart r high held le h.1)

distinct_two : (plan : Plan) (b : ℕ) (xs ys : List Held) → Distinct (map (reference_of plan) xs) → Distinct (map (reference_of plan) ys) → Low b (map (reference_of plan) xs) → High b (map (reference_of plan) ys) → Distinct (map (reference_of plan) (xs ++ ys))
distinct_two plan b [] ys x y l h = y
distinct_two plan b (u ∷ xs) ys x y l h = (apart_two (reference_of plan u) plan xs ys x.0 (high_apart (reference_of plan u) b (map (reference_of plan) ys) l.0 h), distinct_two plan b xs ys x.1 y l.1 h)

low_less : (a b : ℕ) → a ≤ b → (l : List Reference) → Low b l → Low a l
low_less a b le [] h = tt
low_less a b le (r ∷ l) h = ((let x : b ≤ r.at = h.0 in omega (arith, x, le)), low_less a b le l h.1)

module _ (p : LlProgram) (based : Based p.structs) where
  abbrev plan : Plan
  plan = plan_of p

  module _ (n : ℕ) (s : LlStruct) (e : slice_get p.structs n ≡ Some s) (c : is_counted (plan_of p) n ≡ true) where
    own_low : (place : ℕ) (ts : List LlType) → Low (begin p based n s e c + place) (map (reference_of (plan_of p)) (held_from (plan_of p) n place ts))
    own_low place [] = tt
    own_low place (t ∷ ts) = by (referred (plan_of p) t) (low_less (begin p based n s e c + place) (begin p based n s e c + suc place) (omega arith) (map (reference_of (plan_of p)) (held_from (plan_of p) n (suc place) ts)) (own_low (suc place) ts))
      where
        by : (o : Option ℕ) → Low (begin p based n s e c + place) (map (reference_of (plan_of p)) (held_from (plan_of p) n (suc place) ts)) → Low (begin p based n s e c + place) (map (reference_of (plan_of p)) (held_if n (field_number (plan_of p) n place) o (held_from (plan_of p) n (suc place) ts)))
        by None h = h
        by (Some m) h = ((let x : place_in (plan_of p) n (field_number (plan_of p) n place) ≡ begin p based n s e c + place = own_at p based n s e c place in omega (arith, x)), h)

    own_distinct : (place : ℕ) (ts : List LlType) → Distinct (map (reference_of (plan_of p)) (held_from (plan_of p) n place ts))
    own_distinct place [] = tt
    own_distinct place (t ∷ ts) = by (referred (plan_of p) t) (own_distinct (suc place) ts)
      where
        by : (o : Option ℕ) → Distinct (map (reference_of (plan_of p)) (held_from (plan_of p) n (suc place) ts)) → Distinct (map (reference_of (plan_of p)) (held_if n (field_number (plan_of p) n place) o (held_from (plan_of p) n (suc place) ts)))
        by None d = d
        by (Some m) d = (
          low_apart (reference_of (plan_of p) (record { owner = n; number = field_number (plan_of p) n place; to = m })) (begin p based n s e c + suc place) (map (reference_of (plan_of p)) (held_from (plan_of p) n (suc place) ts))
              (let x : place_in (plan_of p) n (field_number (plan_of p) n place) ≡ begin p based n s e c + place = own_at p based n s e c place in omega (arith, x)) (own_low (suc place) ts),
          d,
        )

  base_counted : (n m : ℕ) (s : LlStruct) → slice_get p.structs n ≡ Some s → s.base ≡ Some m → is_counted (plan_of p) n ≡ true → is_counted (plan_of p) m ≡ true
  base_counted n m s e b c = let t : StructAt p.structs m = earlier p.structs n m s e (based.before n m s e b) in sym (counted_base p based n m (record { s = s; is = e; base = b }) t.s t.is) ∙ c

  held_distinct : (times : List LlStruct) (n : ℕ) → is_counted (plan_of p) n ≡ true → Distinct (map (reference_of (plan_of p)) (held_within (plan_of p) times n))
  held_distinct [] n c = tt
  held_distinct (t ∷ times) n c = by (λ m c. held_distinct times m c) (marked_there p.structs p.graphs 0 p.structs n c)
    where
      by : ((m : ℕ) → is_counted (plan_of p) m ≡ true → Distinct (map (reference_of (plan_of p)) (held_within (plan_of p) times m))) → StructAt p.structs n → Distinct (map (reference_of (plan_of p)) (own_held (plan_of p) n ++ of_base (held_within (plan_of p) times) (base_at (plan_of p) n)))
      by go w = with_base w.s.base refl
        where
          fields_are : fields_of (plan_of p) n ≡ w.s.fields
          fields_are = ap fields_given w.is

          own : Distinct (map (reference_of (plan_of p)) (own_held (plan_of p) n))
          own = subst (λ l. Distinct (map (reference_of (plan_of p)) (held_from (plan_of p) n 0 l))) (sym fields_are) (own_distinct n w.s w.is c 0 w.s.fields)

          low : Low (begin p based n w.s w.is c + 0) (map (reference_of (plan_of p)) (own_held (plan_of p) n))
          low = subst (λ l. Low (begin p based n w.s w.is c + 0) (map (reference_of (plan_of p)) (held_from (plan_of p) n 0 l))) (sym fields_are) (own_low n w.s w.is c 0 w.s.fields)

          with_base : (o : Option ℕ) → w.s.base ≡ o → Distinct (map (reference_of (plan_of p)) (own_held (plan_of p) n ++ of_base (held_within (plan_of p) times) (base_at (plan_of p) n)))
          with_base None b = subst (λ o. Distinct (map (reference_of (plan_of p)) (own_held (plan_of p) n ++ of_base (held_within (plan_of p) times) o))) (sym (ap typed.base_of w.is ∙ b)) (distinct_two (plan_of p) (begin p based n w.s w.is c + 0) (own_held (plan_of p) n) [] own tt low tt)
          with_base (Some m) b =
              let cm : is_counted (plan_of p) m ≡ true = base_counted n m w.s w.is b c in
              let z : (shape_at (shapes_of p.structs) m).size ≡ begin p based n w.s w.is c + 0 = (let y : begin p based n w.s w.is c ≡ (shape_at (shapes_of p.structs) m).size = begin_is p based n w.s w.is c m b in omega (arith, y)) in
              subst (λ o. Distinct (map (reference_of (plan_of p)) (own_held (plan_of p) n ++ of_base (held_within (plan_of p) times) o))) (sym (ap typed.base_of w.is ∙ b))
              (distinct_two (plan_of p) (begin p based n w.s w.is c + 0) (own_held (plan_of p) n) (held_within (plan_of p) times m) own (go m cm) low
              (subst (λ k. High k (map (reference_of (plan_of p)) (held_within (plan_of p) times m))) z (held_high p based times m cm)))

inside_count : (g : List Slot) (a : ℕ) → 0 < count g a → a < length g
inside_count [] a h = absurd (past a h)
  where
    past : (a : ℕ) → 0 < count [] a → ⊥
    past zero h = omega (arith, h)
    past (suc a) h = omega (arith, h)
inside_count (d ∷ g) zero h = omega arith
inside_count (d ∷ g) (suc a) h = omega (arith, inside_count g a h)

-- ---- counts have room

static_room : (c : Counts) (f : Fixed) (m k : ℕ) → IsFixed c f m → m < most → k < most → HasRoomBy f k
static_room c (Alone block) m k is small few = tt
static_room c (F n kind fields items) m k is small few = let e : n ≡ suc m = is in omega (arith, e, small, few)

module _ (p : LlProgram) (based : Based p.structs) (blocks : List (Option Block)) (statics : List Block) (g : Ghost) (near : NearMemory (plan_of p) blocks statics g) (own : Value → ℕ) (counts : IsCounted (counted p) (counts_of (plan_of p)) g own) where
  references_fewer : (a : ℕ) (r : Value) → 0 < count g.blocks a → occurs r (references (counts_of (plan_of p)) (bare_at g.blocks a)) ≤ references_of (cells_at blocks a)
  references_fewer a r there =
      let w : (block : Block) × (block_in blocks a ≡ Some block) × NearBlock block (bare_at g.blocks a) = near.each a (omega (arith, inside_count g.blocks a there, near.size)) in
      subst (λ o. occurs r (references (counts_of (plan_of p)) (bare_at g.blocks a)) ≤ references_of (cells o)) (sym w.1) (by w.0 w.2)
    where
      bare : Block
      bare = bare_at g.blocks a

      by : (block : Block) → NearBlock block (bare_at g.blocks a) → occurs r (references (counts_of (plan_of p)) (bare_at g.blocks a)) ≤ references_of (block.fields ++ block.items)
      by block n =
          let x : occurs r (field_references ((counts_of (plan_of p)).held (bare_at g.blocks a).kind) (bare_at g.blocks a).fields) ≤ references_of (bare_at g.blocks a).fields =
          fields_fewer ((counts_of (plan_of p)).held (bare_at g.blocks a).kind) (bare_at g.blocks a).fields r (held_distinct p based p.structs (bare_at g.blocks a).kind (counts.whole a there).counted) in
          let y : occurs r (item_references ((counts_of (plan_of p)).items (bare_at g.blocks a).kind) (bare_at g.blocks a).items) ≤ references_of (bare_at g.blocks a).items = items ((counts_of (plan_of p)).items (bare_at g.blocks a).kind) in
          omega (
            arith,
            x,
            y,
            near_references block.fields (bare_at g.blocks a).fields n.fields,
            near_references block.items (bare_at g.blocks a).items n.items,
            references_append block.fields block.items,
            occurs_two r (field_references ((counts_of (plan_of p)).held (bare_at g.blocks a).kind) (bare_at g.blocks a).fields) (item_references ((counts_of (plan_of p)).items (bare_at g.blocks a).kind) (bare_at g.blocks a).items),
          )
        where
          items : (o : Option ℕ) → occurs r (item_references o (bare_at g.blocks a).items) ≤ references_of (bare_at g.blocks a).items
          items None = omega arith
          items (Some m) = occurs_fewer (bare_at g.blocks a).items r

  mirrors : Mirrors (counts_of (plan_of p)) g.blocks blocks
  mirrors = record { edges = edges_of p blocks statics g near; fewer = references_fewer }

  pub roomy : (roots : List Value) → Owns own roots → IsBelow most blocks roots → (k : ℕ) → k < most → Roomy g k
  roomy roots owns below k few = record {
    blocks = λ b. let x : inner (counts_of (plan_of p)) g.blocks (Ptr b) + own (Ptr b) < most = room (Ptr b) in omega (arith, x, few, counts.blocks b);
    statics = λ s. static_room (counts_of (plan_of p)) (fixed_at g.statics s) (inner (counts_of (plan_of p)) g.blocks (Static s) + own (Static s)) k (counts.statics s) (room (Static s)) few;
  }
    where
      room : (r : Value) → inner (counts_of (plan_of p)) g.blocks r + own r < most
      room r = has_room (counts_of (plan_of p)) g.blocks blocks own roots mirrors owns (λ b. counts.blocks b) most below r
