-- What is there in a counted program, its program holds; where it returns and nothing lies on a cycle, nothing is left.
use Rattle.std.proofs.Common.{◌≡◌, inl, inr, ◌<◌, ℕ, zero, suc, ◌+◌, Bool, true, false, ◌&&◌, List, [], ◌∷◌, ◌++◌, length, Option, Some, None, refl, sym, ap, ◌∙◌, subst, arith}
use Rattle.std.specs.Prelude.{cond}
use Rattle.csub_tree.specs.State.{Value, Unset, Word, Byte, Flag, Fun, Null, Ptr, Static, Block, Core}
use Rattle.csub_tree.specs.Statement.{read}
use Rattle.ll_code.specs.declared.program.LlProgram.{LlProgram}
use Rattle.ll_held.specs.Held.{is_reference, times, is_block, cells, Refers, Reaches}
use Rattle.refcount_transform.specs.Plan.{plan_of}
use Rattle.refcount_laws.specs.Graphs.{Counts, Reference}
use Rattle.refcount_laws.specs.Made.{counts_of}
use Rattle.refcount_laws.specs.Ghost.{Ghost, Slot, S, one, hit, occurs, count, count_of, slot_at, no_slot, bare_at, references, field_references, item_references}
use Rattle.refcount_laws.specs.Touched.{block_in}
use Rattle.refcount_laws.specs.Matches.{Near, NearBlock, NearMemory}
use Rattle.refcount_laws.proofs.Dead.{same_is}
use Rattle.std.specs.Prelude.{ℤ}
use Rattle.ll_code.specs.State.{Frame, State, Calling, At, Returning, Throwing}
use Rattle.ll_live.specs.Live.{live}
use Rattle.ll_held.specs.Roots.{kept, slots, core_of}
use Rattle.ll_held.specs.Held.{Held}
use Rattle.refcount_transform.specs.Changes.{Around, around_of, var_referred}
use Rattle.refcount_laws.specs.Leaves.{given_to}
use Rattle.refcount_laws.specs.Kept.{waiting_values, used_values}
use Rattle.refcount_transform.specs.Plan.{reference_given}
use Rattle.refcount_laws.specs.Owned.{hits_by, owned, owns}
use Rattle.refcount_laws.specs.Whole.{Call, BothReturning, StandsFor, beside, waits_own, slots_own}
use Rattle.refcount_laws.proofs.Reaching.{all_gone, there_held}

one_same : (m n : ℕ) → 0 < one m n → m ≡ n
one_same zero zero h = refl
one_same zero (suc n) h = absurd (omega (arith, h))
one_same (suc m) zero h = absurd (omega (arith, h))
one_same (suc m) (suc n) h = ap suc (one_same m n h)

hit_is : (b : ℕ) (v : Value) → 0 < hit (Ptr b) v → v ≡ Ptr b
hit_is b Unset h = absurd (omega (arith, h))
hit_is b (Word z) h = absurd (omega (arith, h))
hit_is b (Byte z) h = absurd (omega (arith, h))
hit_is b (Flag z) h = absurd (omega (arith, h))
hit_is b (Fun z) h = absurd (omega (arith, h))
hit_is b Null h = absurd (omega (arith, h))
hit_is b (Ptr n) h = ap Ptr (one_same n b h)
hit_is b (Static z) h = absurd (omega (arith, h))

record Stand (values : List Value) (b : ℕ) : Type 0 where
  pub place : ℕ
  pub is : read values place ≡ Ptr b

in_fields : (held : List Reference) (fields : List Value) (b : ℕ) → 0 < occurs (Ptr b) (field_references held fields) → Stand fields b
in_fields [] fields b h = absurd (omega (arith, h))
in_fields (r ∷ held) fields b h = by (hit (Ptr b) (read fields r.at)) refl (λ lt. in_fields held fields b lt)
  where
    by : (n : ℕ) → hit (Ptr b) (read fields r.at) ≡ n → (0 < occurs (Ptr b) (field_references held fields) → Stand fields b) → Stand fields b
    by zero e go = go (omega (arith, h, e))
    by (suc n) e go = record { place = r.at; is = hit_is b (read fields r.at) (omega (arith, e)) }

in_items : (items : List Value) (b : ℕ) → 0 < occurs (Ptr b) items → Stand items b
in_items [] b h = absurd (omega (arith, h))
in_items (v ∷ items) b h = by (hit (Ptr b) v) refl (λ lt. in_items items b lt)
  where
    by : (n : ℕ) → hit (Ptr b) v ≡ n → (0 < occurs (Ptr b) items → Stand items b) → Stand (v ∷ items) b
    by zero e go = let w : Stand items b = go (omega (arith, h, e)) in record { place = suc w.place; is = w.is }
    by (suc n) e go = record { place = 0; is = hit_is b v (omega (arith, e)) }

occurs_both : (r : Value) (xs ys : List Value) → occurs r (xs ++ ys) ≡ occurs r xs + occurs r ys
occurs_both r [] ys = omega arith
occurs_both r (x ∷ xs) ys = omega (arith, occurs_both r xs ys)

times_at : (values : List Value) (place b : ℕ) → read values place ≡ Ptr b → 0 < times b values
times_at [] place b e = absurd (cc)
times_at (v ∷ values) zero b e = subst (λ v. 0 < cond (is_block b v) (suc (times b values)) (times b values)) (sym e) (subst (λ y. 0 < cond y (suc (times b values)) (times b values)) (sym (same_is b)) (omega arith))
times_at (v ∷ values) (suc place) b e = by (is_block b v) (times_at values place b e)
  where
    by : (y : Bool) → 0 < times b values → 0 < cond y (suc (times b values)) (times b values)
    by true h = omega arith
    by false h = h

times_left : (b : ℕ) (xs ys : List Value) → 0 < times b xs → 0 < times b (xs ++ ys)
times_left b [] ys h = absurd (omega (arith, h))
times_left b (x ∷ xs) ys h = by (is_block b x) h (λ h. times_left b xs ys h)
  where
    by : (y : Bool) → 0 < cond y (suc (times b xs)) (times b xs) → (0 < times b xs → 0 < times b (xs ++ ys)) → 0 < cond y (suc (times b (xs ++ ys))) (times b (xs ++ ys))
    by true h go = omega arith
    by false h go = go h

times_right : (b : ℕ) (xs ys : List Value) → 0 < times b ys → 0 < times b (xs ++ ys)
times_right b [] ys h = h
times_right b (x ∷ xs) ys h = by (is_block b x) (times_right b xs ys h)
  where
    by : (y : Bool) → 0 < times b (xs ++ ys) → 0 < cond y (suc (times b (xs ++ ys))) (times b (xs ++ ys))
    by true h = omega arith
    by false h = h

near_pointer : (x y : Value) (b : ℕ) → Near x y → y ≡ Ptr b → x ≡ Ptr b
near_pointer x y b (inl e) f = e ∙ f
near_pointer x y b (inr (e, n)) f = absurd (let z : true ≡ false = sym (ap is_reference f) ∙ n in cc)

inside : (g : List Slot) (a : ℕ) → 0 < count g a → a < length g
inside [] a h = absurd (past a h)
  where
    past : (a : ℕ) → 0 < count [] a → ⊥
    past zero h = omega (arith, h)
    past (suc a) h = omega (arith, h)
inside (d ∷ g) zero h = omega arith
inside (d ∷ g) (suc a) h = omega (arith, inside g a h)

module _ (p : LlProgram) (blocks : List (Option Block)) (statics : List Block) (g : Ghost) (near : NearMemory (plan_of p) blocks statics g) where
  -- what a block that is there refers to, it refers to in the program
  pub edges_of : (a b : ℕ) → 0 < count g.blocks a → 0 < occurs (Ptr b) (references (counts_of (plan_of p)) (bare_at g.blocks a)) → Refers blocks a b
  edges_of a b there h =
      let w : (block : Block) × (block_in blocks a ≡ Some block) × NearBlock block (bare_at g.blocks a) = near.each a (omega (arith, inside g.blocks a there, near.size)) in
      subst (λ o. 0 < times b (cells o)) (sym w.1) (by w.0 w.2 (occurs (Ptr b) (field_references ((counts_of (plan_of p)).held (bare_at g.blocks a).kind) (bare_at g.blocks a).fields)) refl)
    where
      fields_ : List Value
      fields_ = (bare_at g.blocks a).fields

      by : (block : Block) → NearBlock block (bare_at g.blocks a) → (n : ℕ) → occurs (Ptr b) (field_references ((counts_of (plan_of p)).held (bare_at g.blocks a).kind) (bare_at g.blocks a).fields) ≡ n → 0 < times b (block.fields ++ block.items)
      by block x (suc n) e =
          let v : Stand (bare_at g.blocks a).fields b = in_fields ((counts_of (plan_of p)).held (bare_at g.blocks a).kind) (bare_at g.blocks a).fields b (omega (arith, e)) in
          times_left b block.fields block.items (times_at block.fields v.place b (near_pointer (read block.fields v.place) (read (bare_at g.blocks a).fields v.place) b (x.fields.at v.place) v.is))
      by block x zero e = items ((counts_of (plan_of p)).items (bare_at g.blocks a).kind)
          (omega (arith, h, e, occurs_both (Ptr b) (field_references ((counts_of (plan_of p)).held (bare_at g.blocks a).kind) (bare_at g.blocks a).fields) (item_references ((counts_of (plan_of p)).items (bare_at g.blocks a).kind) (bare_at g.blocks a).items)))
        where
          items : (o : Option ℕ) → 0 < occurs (Ptr b) (item_references o (bare_at g.blocks a).items) → 0 < times b (block.fields ++ block.items)
          items None lt = absurd (omega (arith, lt))
          items (Some m) lt =
              let v : Stand (bare_at g.blocks a).items b = in_items (bare_at g.blocks a).items b lt in
              times_right b block.fields block.items (times_at block.items v.place b (near_pointer (read block.items v.place) (read (bare_at g.blocks a).items v.place) b (x.items.at v.place) v.is))

-- ---- the end of a run

none_shown : (c : Counts) (d : Slot) → count_of d ≡ 0 → Rattle.refcount_laws.specs.Ghost.shown c d ≡ None
none_shown c (S zero kind fields items) e = refl
none_shown c (S (suc n) kind fields items) e = absurd (omega (arith, e))

word_hits : (k : Option ℕ) (z : _) (b : ℕ) → Rattle.refcount_laws.specs.Owned.hits_by k (Word z) (Ptr b) ≡ 0
word_hits None z b = refl
word_hits (Some n) z b = refl

null_hits : (k : Option ℕ) (b : ℕ) → Rattle.refcount_laws.specs.Owned.hits_by k Null (Ptr b) ≡ 0
null_hits None b = refl
null_hits (Some n) b = refl

pub nothing_left : (p : LlProgram) (value : Value) (core : Core) (s : State) (g : Ghost) (h : List (Option Block)) → BothReturning p [] [] value [] core s g h → (z : ℤ) → value ≡ Word z → core.exc_type ≡ Null → core.exc_value ≡ Null
    → ((b : ℕ) → Reaches core.blocks b b → ⊥) → (b : ℕ) → block_in h b ≡ None
nothing_left p value core s g h both z word kind exception apart b =
    both.stands.shown.at b ∙ none_shown (counts_of (plan_of p)) (slot_at g.blocks b)
    (all_gone (counts_of (plan_of p)) g.blocks core.blocks own [] (edges_of p core.blocks core.statics g both.stands.near) (λ b lt. absurd (omega (arith, lt, nothing b))) (λ b. both.counts.blocks b) (λ b. refl) apart b)
  where
    own : Value → ℕ
    own r = hits_by (reference_given (plan_of p).counted (Some both.graph.result)) value r + beside p [] [] core r

    nothing : (b : ℕ) → hits_by (reference_given (plan_of p).counted (Some both.graph.result)) value (Ptr b) + beside p [] [] core (Ptr b) ≡ 0
    nothing b =
        let one : hits_by (reference_given (plan_of p).counted (Some both.graph.result)) value (Ptr b) ≡ 0 = ap (λ v. hits_by (reference_given (plan_of p).counted (Some both.graph.result)) v (Ptr b)) word ∙ word_hits (reference_given (plan_of p).counted (Some both.graph.result)) z b in
        let two : hits_by (plan_of p).slots.kind core.exc_type (Ptr b) ≡ 0 = ap (λ v. hits_by (plan_of p).slots.kind v (Ptr b)) kind ∙ null_hits (plan_of p).slots.kind b in
        let three : hits_by (plan_of p).slots.value core.exc_value (Ptr b) ≡ 0 = ap (λ v. hits_by (plan_of p).slots.value v (Ptr b)) exception ∙ null_hits (plan_of p).slots.value b in
        omega (arith, one, two, three)

-- ---- what is there is held

occurs_times : (b : ℕ) (values : List Value) → 0 < occurs (Ptr b) values → 0 < times b values
occurs_times b values h = let w : Stand values b = in_items values b h in times_at values w.place b w.is

kept_more : (b : ℕ) (f g : ℕ → Bool) (n : ℕ) (vars : List Value) → ((m : ℕ) → f m ≡ true → g m ≡ true) → 0 < times b (kept f n vars) → 0 < times b (kept g n vars)
kept_more b f g n [] more h = h
kept_more b f g n (x ∷ vars) more h = by (f n) (g n) (more n) h (λ h. kept_more b f g (suc n) vars more h)
  where
    tail : (y : Bool) → 0 < times b (kept g (suc n) vars) → 0 < times b (cond y (x ∷ kept g (suc n) vars) (kept g (suc n) vars))
    tail true h = times_right b (x ∷ []) (kept g (suc n) vars) h
    tail false h = h

    split : (y : Bool) → is_block b x ≡ y → 0 < cond y (suc (times b (kept f (suc n) vars))) (times b (kept f (suc n) vars)) → (0 < times b (kept f (suc n) vars) → 0 < times b (kept g (suc n) vars)) → 0 < times b (x ∷ kept g (suc n) vars)
    split true e h go = subst (λ y. 0 < cond y (suc (times b (kept g (suc n) vars))) (times b (kept g (suc n) vars))) (sym e) (omega arith)
    split false e h go = times_right b (x ∷ []) (kept g (suc n) vars) (go h)

    by : (y z : Bool) → (y ≡ true → z ≡ true) → 0 < times b (cond y (x ∷ kept f (suc n) vars) (kept f (suc n) vars)) → (0 < times b (kept f (suc n) vars) → 0 < times b (kept g (suc n) vars)) → 0 < times b (cond z (x ∷ kept g (suc n) vars) (kept g (suc n) vars))
    by true z m h go = subst (λ z. 0 < times b (cond z (x ∷ kept g (suc n) vars) (kept g (suc n) vars))) (sym (m refl)) (split (is_block b x) refl h go)
    by false z m h go = tail z (go h)

owned_used : (around : Around) (uses : ℕ → Bool) (vars : List Value) (b : ℕ) → 0 < owned around uses vars (Ptr b) → 0 < times b (kept uses 0 vars)
owned_used around uses vars b h = kept_more b (owns around uses) uses 0 vars (λ m e. left (uses m) _ e) (occurs_times b (kept (owns around uses) 0 vars) h)
  where
    left : (x y : Bool) → (x && y) ≡ true → x ≡ true
    left true y e = refl
    left false y e = absurd (cc)

hits_used : (k : Option ℕ) (v : Value) (b : ℕ) → 0 < hits_by k v (Ptr b) → v ≡ Ptr b
hits_used None v b h = absurd (omega (arith, h))
hits_used (Some n) v b h = hit_is b v h

given_used : (around : Around) (n : ℕ) (values : List Value) (b : ℕ) → 0 < given_to around n values (Ptr b) → 0 < times b values
given_used around n [] b h = absurd (omega (arith, h))
given_used around n (x ∷ values) b h = by (hits_by (var_referred around n) x (Ptr b)) refl (λ h. given_used around (suc n) values b h)
  where
    by : (m : ℕ) → hits_by (var_referred around n) x (Ptr b) ≡ m → (0 < given_to around (suc n) values (Ptr b) → 0 < times b values) → 0 < times b (x ∷ values)
    by zero e go = times_right b (x ∷ []) values (go (omega (arith, h, e)))
    by (suc m) e go = times_at (x ∷ values) 0 b (hits_used (var_referred around n) x b (omega (arith, e)))

slots_used : (p : LlProgram) (core : Core) (b : ℕ) → 0 < slots_own p core (Ptr b) → 0 < times b (slots core)
slots_used p core b h = by (hits_by (plan_of p).slots.kind core.exc_type (Ptr b)) refl
  where
    by : (m : ℕ) → hits_by (plan_of p).slots.kind core.exc_type (Ptr b) ≡ m → 0 < times b (slots core)
    by zero e = times_at (slots core) 1 b (hits_used (plan_of p).slots.value core.exc_value b (omega (arith, h, e)))
    by (suc m) e = times_at (slots core) 0 b (hits_used (plan_of p).slots.kind core.exc_type b (omega (arith, e)))

waits_used : (p : LlProgram) (calls : List Call) (frames : List Frame) (b : ℕ) → 0 < waits_own p calls frames (Ptr b) → 0 < times b (waiting_values calls frames)
waits_used p [] frames b h = absurd (omega (arith, h))
waits_used p (call ∷ calls) [] b h = absurd (omega (arith, h))
waits_used p (call ∷ calls) (frame ∷ frames) b h = by (owned (around_of (plan_of p) call.graph.types) (live (call.op ∷ frame.ops) frame.exit) frame.vars (Ptr b)) refl (λ h. waits_used p calls frames b h)
  where
    by : (m : ℕ) → owned (around_of (plan_of p) call.graph.types) (live (call.op ∷ frame.ops) frame.exit) frame.vars (Ptr b) ≡ m → (0 < waits_own p calls frames (Ptr b) → 0 < times b (waiting_values calls frames)) → 0 < times b (waiting_values (call ∷ calls) (frame ∷ frames))
    by zero e go = times_right b (kept (live (call.op ∷ frame.ops) frame.exit) 0 frame.vars) (waiting_values calls frames) (go (omega (arith, h, e)))
    by (suc m) e go = times_left b (kept (live (call.op ∷ frame.ops) frame.exit) 0 frame.vars) (waiting_values calls frames) (owned_used (around_of (plan_of p) call.graph.types) (live (call.op ∷ frame.ops) frame.exit) frame.vars b (omega (arith, e)))

beside_used : (p : LlProgram) (calls : List Call) (frames : List Frame) (core : Core) (b : ℕ) → 0 < beside p calls frames core (Ptr b) → 0 < times b (slots core ++ waiting_values calls frames)
beside_used p calls frames core b h = by (slots_own p core (Ptr b)) refl
  where
    by : (m : ℕ) → slots_own p core (Ptr b) ≡ m → 0 < times b (slots core ++ waiting_values calls frames)
    by zero e = times_right b (slots core) (waiting_values calls frames) (waits_used p calls frames b (omega (arith, h, e)))
    by (suc m) e = times_left b (slots core) (waiting_values calls frames) (slots_used p core b (omega (arith, e)))

both_used : (b m n : ℕ) (xs ys : List Value) → (0 < m → 0 < times b xs) → (0 < n → 0 < times b ys) → 0 < m + n → 0 < times b (xs ++ ys)
both_used b zero n xs ys first second h = times_right b xs ys (second (omega (arith, h)))
both_used b (suc m) n xs ys first second h = times_left b xs ys (first (omega arith))

pub there_is_held : (p : LlProgram) (calls : List Call) (others : List Frame) (s t : State) (g : Ghost) (h : List (Option Block)) → StandsFor p calls others s t g h → (b : ℕ) → 0 < count g.blocks b → Held (core_of s).blocks (used_values calls s) b
there_is_held p calls others (At ops e frames core) t g h both b lt =
    there_held (counts_of (plan_of p)) g.blocks core.blocks (λ r. owned (around_of (plan_of p) both.graph.types) (live ops e) core.vars r + beside p calls frames core r) (used_values calls (At ops e frames core)) (edges_of p core.blocks core.statics g both.stands.near)
    (λ b h. both_used b (owned (around_of (plan_of p) both.graph.types) (live ops e) core.vars (Ptr b)) (beside p calls frames core (Ptr b)) (kept (live ops e) 0 core.vars) (slots core ++ waiting_values calls frames)
    (λ h. owned_used (around_of (plan_of p) both.graph.types) (live ops e) core.vars b h) (λ h. beside_used p calls frames core b h) h) (λ b. both.counts.blocks b) b lt
there_is_held p calls others (Calling f values frames core) t g h both b lt =
    there_held (counts_of (plan_of p)) g.blocks core.blocks (λ r. given_to (around_of (plan_of p) both.graph.types) 0 values r + beside p calls frames core r) (used_values calls (Calling f values frames core)) (edges_of p core.blocks core.statics g both.stands.near)
    (λ b h. both_used b (given_to (around_of (plan_of p) both.graph.types) 0 values (Ptr b)) (beside p calls frames core (Ptr b)) values (slots core ++ waiting_values calls frames)
    (λ h. given_used (around_of (plan_of p) both.graph.types) 0 values b h) (λ h. beside_used p calls frames core b h) h) (λ b. both.counts.blocks b) b lt
there_is_held p calls others (Returning value frames core) t g h both b lt =
    there_held (counts_of (plan_of p)) g.blocks core.blocks (λ r. hits_by (reference_given (plan_of p).counted (Some both.graph.result)) value r + beside p calls frames core r) (used_values calls (Returning value frames core)) (edges_of p core.blocks core.statics g both.stands.near)
    (λ b h. both_used b (hits_by (reference_given (plan_of p).counted (Some both.graph.result)) value (Ptr b)) (beside p calls frames core (Ptr b)) (value ∷ []) (slots core ++ waiting_values calls frames)
    (λ h. times_at (value ∷ []) 0 b (hits_used (reference_given (plan_of p).counted (Some both.graph.result)) value b h)) (λ h. beside_used p calls frames core b h) h) (λ b. both.counts.blocks b) b lt
there_is_held p calls others (Throwing value frames core) t g h both b lt = absurd both
