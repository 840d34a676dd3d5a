-- Where all that is read was known, each block reads its inputs alone, and has them once.
use Rattle.std.proofs.Common.{◌≡◌, ◌≢◌, ◌⊎◌, inl, inr, ◌<◌, ◌≤◌, ℕ, zero, suc, ◌+◌, Bool, true, false, ◌||◌, ◌&&◌, not, List, [], ◌∷◌, ◌++◌, length, map, Option, Some, None, refl, sym, ap, ◌∙◌, subst, arith}
use Rattle.refcount_laws.specs.Leaves.{are_apart}
use Rattle.std.specs.Prelude.{drop, slice_get, slice_set, ◌==◌, nat_lt}
use Rattle.std.proofs.lemmas.Bool.Decides.{nat_tests}
use Rattle.ll_code.specs.declared.program.LlOp.{LlOp}
use Rattle.ll_code.specs.declared.program.LlType.{LlType}
use Rattle.ll_code.specs.declared.program.LlExit.{LlExit}
use Rattle.ll_code.specs.declared.program.LlExit.TheVariants as exit
use Rattle.ll_code.specs.declared.program.LlBlock.{LlBlock}
use Rattle.ll_code.specs.declared.program.LlGraph.{LlGraph}
use Rattle.ll_live.specs.Live.{among, reads, set_by, sets, live, exit_variables, exit_reads, handler_variable}
use Rattle.refcount_checks.specs.declared.watch.Watch.{Watch}
use Rattle.refcount_checks.specs.Watch.{is_now, is_known, and_so, learn, learn_if, ask, enter, run_ops, catches_none, next, run_block, run_blocks, none_set, begin, graph_reads_known, graphs_read_known}

-- ---- numbers and tests

same_number : (n : ℕ) → (n == n) ≡ true
same_number n = grind (arith, nat_tests)

is_same : (m n : ℕ) → (m == n) ≡ true → m ≡ n
is_same m n e = grind (arith, nat_tests)

is_less : (m n : ℕ) → nat_lt m n ≡ true → m < n
is_less m n e = grind (arith, nat_tests)

same_or : (m n : ℕ) → (m ≡ n) ⊎ (m ≢ n)
same_or m n = grind arith

and_one : (a b : Bool) → (a && b) ≡ true → a ≡ true
and_one true b e = refl
and_one false b e = e

and_two : (a b : Bool) → (a && b) ≡ true → b ≡ true
and_two true b e = e
and_two false b e = absurd (cc)

and_both : (a b : Bool) → a ≡ true → b ≡ true → (a && b) ≡ true
and_both true b e f = f
and_both false b e f = absurd (cc)

or_cases : (a b : Bool) → (a || b) ≡ true → (a ≡ true) ⊎ (b ≡ true)
or_cases true b e = inl refl
or_cases false b e = inr e

not_so : (a : Bool) → not a ≡ true → a ≡ false
not_so false e = refl
not_so true e = absurd (cc)

-- ---- marks

get_set : (xs : List ℕ) (a x : ℕ) → a < length xs → slice_get (slice_set xs a x) a ≡ Some x
get_set [] a x lt = absurd (omega (arith, lt))
get_set (y ∷ xs) zero x lt = refl
get_set (y ∷ xs) (suc a) x lt = get_set xs a x (omega (arith, lt))

get_past : (xs : List ℕ) (a x v : ℕ) → a ≢ v → slice_get (slice_set xs a x) v ≡ slice_get xs v
get_past [] a x v ne = refl
get_past (y ∷ xs) zero x zero ne = absurd (ne refl)
get_past (y ∷ xs) zero x (suc v) ne = refl
get_past (y ∷ xs) (suc a) x zero ne = refl
get_past (y ∷ xs) (suc a) x (suc v) ne = get_past xs a x v (λ e. ne (ap suc e))

set_size : (xs : List ℕ) (a x : ℕ) → length (slice_set xs a x) ≡ length xs
set_size [] a x = refl
set_size (y ∷ xs) zero x = refl
set_size (y ∷ xs) (suc a) x = ap suc (set_size xs a x)

-- what is set now is known; nothing else is known that was not
learned : (v : ℕ) (w : Watch) → v < length w.marks → is_known (learn v w) v ≡ true
learned v w lt = ap (λ o. is_now o w.block) (get_set w.marks v w.block lt) ∙ same_number w.block

other_known : (v u : ℕ) (w : Watch) → v ≢ u → is_known (learn v w) u ≡ is_known w u
other_known v u w ne = ap (λ o. is_now o w.block) (get_past w.marks v w.block u ne)

-- no mark is of a later block
abbrev pub NoLater : Watch → Type 0
NoLater w = (v m : ℕ) → slice_get w.marks v ≡ Some m → m ≤ w.block

learn_no_later : (v : ℕ) (w : Watch) → NoLater w → NoLater (learn v w)
learn_no_later v w h u m e = by w.marks v u h e
  where
    by : (marks : List ℕ) (v u : ℕ) → ((u m : ℕ) → slice_get marks u ≡ Some m → m ≤ w.block) → slice_get (slice_set marks v w.block) u ≡ Some m → m ≤ w.block
    by [] v u h e = absurd (cc)
    by (x ∷ marks) zero zero h e = let f : w.block ≡ m = cc in omega (arith, f)
    by (x ∷ marks) zero (suc u) h e = h (suc u) m e
    by (x ∷ marks) (suc v) zero h e = h zero m e
    by (x ∷ marks) (suc v) (suc u) h e = by marks v u (λ u m e. h (suc u) m e) e

-- ---- one pass leaves what was wrong wrong, and the number of the block

record Passes (w later : Watch) : Type 0 where
  block : later.block ≡ w.block
  size : length later.marks ≡ length w.marks
  ok : later.ok ≡ true → w.ok ≡ true
  kept : (v : ℕ) → is_known w v ≡ true → is_known later v ≡ true
  no_later : NoLater w → NoLater later

then_passes : (a b c : Watch) → Passes a b → Passes b c → Passes a c
then_passes a b c x y = record { block = y.block ∙ x.block; size = y.size ∙ x.size; ok = λ e. x.ok (y.ok e); kept = λ v e. y.kept v (x.kept v e); no_later = λ h. y.no_later (x.no_later h) }

same_passes : (w : Watch) → Passes w w
same_passes w = record { block = refl; size = refl; ok = λ e. e; kept = λ v e. e; no_later = λ h. h }

so_passes : (b : Bool) (w : Watch) → Passes w (and_so b w)
so_passes b w = record { block = refl; size = refl; ok = λ e. and_one w.ok b e; kept = λ v e. e; no_later = λ h. h }

learn_passes : (v : ℕ) (w : Watch) → Passes w (learn v w)
learn_passes v w = record { block = refl; size = set_size w.marks v w.block; ok = λ e. e; kept = λ u e. by u e (same_or v u); no_later = learn_no_later v w }
  where
    inside : (marks : List ℕ) (u : ℕ) → is_now (slice_get marks u) w.block ≡ true → u < length marks
    inside [] u e = absurd (cc)
    inside (x ∷ marks) zero e = omega arith
    inside (x ∷ marks) (suc u) e = omega (arith, inside marks u e)

    by : (u : ℕ) → is_known w u ≡ true → (v ≡ u) ⊎ (v ≢ u) → is_known (learn v w) u ≡ true
    by u e (inl f) = subst (λ u. is_known (learn v w) u ≡ true) f (learned v w (subst (λ u. u < length w.marks) (sym f) (inside w.marks u e)))
    by u e (inr ne) = other_known v u w ne ∙ e

if_passes : (o : Option ℕ) (w : Watch) → Passes w (learn_if o w)
if_passes None w = same_passes w
if_passes (Some v) w = learn_passes v w

ask_passes : (vs : List ℕ) (w : Watch) → Passes w (ask vs w)
ask_passes [] w = same_passes w
ask_passes (v ∷ vs) w = then_passes w (and_so (is_known w v) w) (ask vs (and_so (is_known w v) w)) (so_passes (is_known w v) w) (ask_passes vs (and_so (is_known w v) w))

enter_passes : (vs : List ℕ) (w : Watch) → Passes w (enter vs w)
enter_passes [] w = same_passes w
enter_passes (v ∷ vs) w =
    let a : Watch = and_so (nat_lt v (length w.marks) && not (is_known w v)) w in
    then_passes w a (enter vs (learn v a)) (so_passes (nat_lt v (length w.marks) && not (is_known w v)) w) (then_passes a (learn v a) (enter vs (learn v a)) (learn_passes v a) (enter_passes vs (learn v a)))

ops_pass : (ops : List LlOp) (w : Watch) → Passes w (run_ops ops w)
ops_pass [] w = same_passes w
ops_pass (o ∷ ops) w =
    let a : Watch = ask (reads o) w in
    let b : Watch = learn_if (set_by o) a in
    then_passes w a (run_ops ops b) (ask_passes (reads o) w) (then_passes a b (run_ops ops b) (if_passes (set_by o) a) (ops_pass ops b))

-- ---- what was asked was known

asked : (vs : List ℕ) (w : Watch) → (ask vs w).ok ≡ true → (v : ℕ) → among v vs ≡ true → is_known w v ≡ true
asked [] w e v a = absurd (cc)
asked (u ∷ vs) w e v a =
    let so : Watch = and_so (is_known w u) w in
    by (or_cases (u == v) (among v vs) a) (asked vs so e v)
  where
    by : ((u == v) ≡ true) ⊎ (among v vs ≡ true) → (among v vs ≡ true → is_known w v ≡ true) → is_known w v ≡ true
    by (inl f) go = subst (λ v. is_known w v ≡ true) (is_same u v f) (and_two w.ok (is_known w u) ((ask_passes vs (and_so (is_known w u) w)).ok e))
    by (inr f) go = go f

-- what is live is known
live_known : (ops : List LlOp) (e : LlExit) (w : Watch) → catches_none e ≡ true → (ask (exit_variables e) (run_ops ops w)).ok ≡ true → (v : ℕ) → live ops e v ≡ true → is_known w v ≡ true
live_known [] e w calm ok v l = asked (exit_variables e) w ok v (no_handler e calm l)
  where
    or_none : (b : Bool) → (b || false) ≡ true → b ≡ true
    or_none true f = refl
    or_none false f = f

    no_handler : (e : LlExit) → catches_none e ≡ true → exit_reads e v ≡ true → among v (exit_variables e) ≡ true
    no_handler (exit.OnRaise a by without) calm l = absurd (cc)
    no_handler (exit.Goto link) calm l = or_none _ l
    no_handler (exit.If a there elsewhere) calm l = or_none _ l
    no_handler (exit.Return x) calm l = or_none _ l
    no_handler (exit.Raise a) calm l = or_none _ l
    no_handler (exit.Fail n) calm l = or_none _ l
    no_handler (exit.Raised a) calm l = or_none _ l
live_known (o ∷ ops) e w calm ok v l = by (or_cases (among v (reads o)) (not (sets (set_by o) v) && live ops e v) l) (live_known ops e (learn_if (set_by o) (ask (reads o) w)) calm ok v)
  where
    a : Watch
    a = ask (reads o) w

    asked_ok : (ask (reads o) w).ok ≡ true
    asked_ok = (if_passes (set_by o) (ask (reads o) w)).ok ((ops_pass ops (learn_if (set_by o) (ask (reads o) w))).ok ((ask_passes (exit_variables e) (run_ops ops (learn_if (set_by o) (ask (reads o) w)))).ok ok))

    same_asked : (vs : List ℕ) (w : Watch) → is_known (ask vs w) v ≡ is_known w v
    same_asked [] w = refl
    same_asked (u ∷ vs) w = same_asked vs (and_so (is_known w u) w)

    not_set : (s : Option ℕ) (w : Watch) → sets s v ≡ false → is_known (learn_if s w) v ≡ is_known w v
    not_set None w e = refl
    not_set (Some u) w e = other_known u v w (λ f. absurd (let g : true ≡ false = sym (ap (λ u. u == v) f ∙ same_number v) ∙ e in cc))

    by : (among v (reads o) ≡ true) ⊎ ((not (sets (set_by o) v) && live ops e v) ≡ true) → (live ops e v ≡ true → is_known (learn_if (set_by o) (ask (reads o) w)) v ≡ true) → is_known w v ≡ true
    by (inl f) go = asked (reads o) w asked_ok v f
    by (inr f) go =
        let g : sets (set_by o) v ≡ false = not_so (sets (set_by o) v) (and_one _ _ f) in
        sym (same_asked (reads o) w) ∙ sym (not_set (set_by o) (ask (reads o) w) g) ∙ go (and_two (not (sets (set_by o) v)) _ f)

-- ---- inputs

-- what is known behind the inputs was known, or is one
entered : (vs : List ℕ) (w : Watch) (v : ℕ) → is_known (enter vs w) v ≡ true → (is_known w v ≡ true) ⊎ (among v vs ≡ true)
entered [] w v e = inl e
entered (u ∷ vs) w v e = by (entered vs (learn u a) v e) (same_or u v)
  where
    a : Watch
    a = and_so (nat_lt u (length w.marks) && not (is_known w u)) w

    by : (is_known (learn u a) v ≡ true) ⊎ (among v vs ≡ true) → (u ≡ v) ⊎ (u ≢ v) → (is_known w v ≡ true) ⊎ (among v (u ∷ vs) ≡ true)
    by x (inl f) = inr (ap (λ n. (n == v) || among v vs) f ∙ ap (λ b. b || among v vs) (same_number v))
    by (inl f) (inr ne) = inl (sym (other_known u v a ne) ∙ f)
    by (inr f) (inr ne) = inr (or_right (u == v) (among v vs) f)
      where
        or_right : (a b : Bool) → b ≡ true → (a || b) ≡ true
        or_right true b e = refl
        or_right false b e = e

-- none stands twice
each_once : (vs : List ℕ) (w : Watch) → (enter vs w).ok ≡ true → (v : ℕ) → is_known w v ≡ true → among v vs ≡ false
each_once [] w ok v k = refl
each_once (u ∷ vs) w ok v k = by (same_or u v) (each_once vs (learn u a) ok v)
  where
    a : Watch
    a = and_so (nat_lt u (length w.marks) && not (is_known w u)) w

    fresh : (nat_lt u (length w.marks) && not (is_known w u)) ≡ true
    fresh = and_two w.ok _ ((learn_passes u a).ok ((enter_passes vs (learn u a)).ok ok))

    none : (b : Bool) → (u == v) ≡ b → u ≢ v → b ≡ false
    none false e ne = refl
    none true e ne = absurd (ne (is_same u v e))

    by : (u ≡ v) ⊎ (u ≢ v) → (is_known (learn u a) v ≡ true → among v vs ≡ false) → among v (u ∷ vs) ≡ false
    by (inl f) go = absurd (let g : true ≡ false = sym k ∙ sym (ap (is_known w) f) ∙ not_so (is_known w u) (and_two (nat_lt u (length w.marks)) _ fresh) in cc)
    by (inr ne) go = ap (λ b. b || among v vs) (none (u == v) refl ne) ∙ go (other_known u v a ne ∙ k)

apart_inputs : (vs : List ℕ) (w : Watch) → (enter vs w).ok ≡ true → are_apart vs ≡ true
apart_inputs [] w ok = refl
apart_inputs (u ∷ vs) w ok =
    let a : Watch = and_so (nat_lt u (length w.marks) && not (is_known w u)) w in
    let fresh : (nat_lt u (length w.marks) && not (is_known w u)) ≡ true = and_two w.ok _ ((learn_passes u a).ok ((enter_passes vs (learn u a)).ok ok)) in
    let once : among u vs ≡ false = each_once vs (learn u a) ok u (learned u a (is_less u (length w.marks) (and_one _ _ fresh))) in
    and_both (not (among u vs)) _ (ap not once) (apart_inputs vs (learn u a) ok)

-- ---- blocks

-- nothing is known at the start of a block
none_known : (w : Watch) → NoLater w → (v : ℕ) → is_known (next w) v ≡ false
none_known w h v = by (slice_get w.marks v) refl
  where
    by : (o : Option ℕ) → slice_get w.marks v ≡ o → is_now o (w.block + 1) ≡ false
    by None e = refl
    by (Some m) e = differs (m == w.block + 1) refl
      where
        differs : (b : Bool) → (m == w.block + 1) ≡ b → b ≡ false
        differs false f = refl
        differs true f = absurd (omega (arith, h v m e, is_same m (w.block + 1) f))

next_no_later : (w : Watch) → NoLater w → NoLater (next w)
next_no_later w h v m e = omega (arith, h v m e)

block_no_later : (block : LlBlock) (w : Watch) → NoLater w → NoLater (run_block block w)
block_no_later block w h =
    let a : Watch = enter block.inputs (next w) in
    let b : Watch = run_ops block.ops a in
    (ask_passes (exit_variables block.exit) b).no_later ((ops_pass block.ops a).no_later ((enter_passes block.inputs (next w)).no_later (next_no_later w h)))

block_ok_before : (block : LlBlock) (w : Watch) → (run_block block w).ok ≡ true → w.ok ≡ true
block_ok_before block w e =
    let a : Watch = enter block.inputs (next w) in
    let b : Watch = run_ops block.ops a in
    (enter_passes block.inputs (next w)).ok ((ops_pass block.ops a).ok ((ask_passes (exit_variables block.exit) b).ok (and_one _ _ e)))

blocks_ok_before : (blocks : List LlBlock) (w : Watch) → (run_blocks blocks w).ok ≡ true → w.ok ≡ true
blocks_ok_before [] w e = e
blocks_ok_before (block ∷ blocks) w e = block_ok_before block w (blocks_ok_before blocks (run_block block w) e)

pub record Block (block : LlBlock) : Type 0 where
  pub closed : (v : ℕ) → live block.ops block.exit v ≡ true → among v block.inputs ≡ true
  pub apart : are_apart block.inputs ≡ true

one_block : (block : LlBlock) (w : Watch) → NoLater w → (run_block block w).ok ≡ true → Block block
one_block block w h e =
    let a : Watch = enter block.inputs (next w) in
    let b : Watch = run_ops block.ops a in
    let asks : (ask (exit_variables block.exit) b).ok ≡ true = and_one _ _ e in
    let calm : catches_none block.exit ≡ true = and_two (ask (exit_variables block.exit) b).ok _ e in
    record {
      closed = λ v l. known v (entered block.inputs (next w) v (live_known block.ops block.exit a calm asks v l));
      apart = apart_inputs block.inputs (next w) ((ops_pass block.ops a).ok ((ask_passes (exit_variables block.exit) b).ok asks));
    }
  where
    known : (v : ℕ) → (is_known (next w) v ≡ true) ⊎ (among v block.inputs ≡ true) → among v block.inputs ≡ true
    known v (inl f) = absurd (let g : true ≡ false = sym f ∙ none_known w h v in cc)
    known v (inr f) = f

some_block : (blocks : List LlBlock) (w : Watch) → NoLater w → (run_blocks blocks w).ok ≡ true → (n : ℕ) (block : LlBlock) → slice_get blocks n ≡ Some block → Block block
some_block [] w h e n block f = absurd (cc)
some_block (x ∷ blocks) w h e zero block f = let g : x ≡ block = cc in subst Block g (one_block x w h (blocks_ok_before blocks (run_block x w) e))
some_block (x ∷ blocks) w h e (suc n) block f = some_block blocks (run_block x w) (block_no_later x w h) e n block f

begin_no_later : (types : List LlType) → NoLater (begin types)
begin_no_later [] v m e = absurd (cc)
begin_no_later (t ∷ types) zero m e = let f : 0 ≡ m = cc in omega (arith, f)
begin_no_later (t ∷ types) (suc v) m e = begin_no_later types v m e

pub known_blocks : (graphs : List LlGraph) → graphs_read_known graphs ≡ true → (f : ℕ) (graph : LlGraph) → slice_get graphs f ≡ Some graph → (n : ℕ) (block : LlBlock) → slice_get graph.blocks n ≡ Some block → Block block
known_blocks [] e f graph is n block there = absurd (cc)
known_blocks (x ∷ graphs) e zero graph is n block there = let g : x ≡ graph = cc in some_block graph.blocks (begin graph.types) (begin_no_later graph.types) (subst (λ x. graph_reads_known x ≡ true) g (and_one _ _ e)) n block there
known_blocks (x ∷ graphs) e (suc f) graph is n block there = known_blocks graphs (and_two (graph_reads_known x) _ e) f graph is n block there

-- ---- for the code

pub none_step : (types : List LlType) (i : ℕ) → i < length types → none_set (drop i types) ≡ 0 ∷ none_set (drop (i + 1) types)
none_step [] i lt = absurd (omega (arith, lt))
none_step (t ∷ types) zero lt = refl
none_step (t ∷ types) (suc i) lt = none_step types i (omega (arith, lt)) ∙ ap (λ k. 0 ∷ none_set (drop k (t ∷ types))) (let z : suc (i + 1) ≡ suc i + 1 = omega arith in z)

pub none_on : (types : List LlType) (i : ℕ) (marks later : List ℕ) → i < length types → later ≡ marks ++ 0 ∷ [] → marks ++ none_set (drop i types) ≡ none_set types → later ++ none_set (drop (i + 1) types) ≡ none_set types
none_on types i marks later lt e h =
    ap (λ l. l ++ none_set (drop (i + 1) types)) e ∙ both_again marks (none_set (drop (i + 1) types)) ∙ ap (λ l. marks ++ l) (sym (none_step types i lt)) ∙ h
  where
    both_again : (xs ys : List ℕ) → (xs ++ 0 ∷ []) ++ ys ≡ xs ++ 0 ∷ ys
    both_again [] ys = refl
    both_again (x ∷ xs) ys = ap (λ l. x ∷ l) (both_again xs ys)
