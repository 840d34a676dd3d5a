-- A straight way as a single block does what its blocks do.
use Rattle.std.proofs.Common.{◌≡◌, ◌<◌, ◌≤◌, ℕ, zero, suc, ◌+◌, Bool, true, false, ◌||◌, ◌&&◌, not, ◌==◌, cond, List, [], ◌∷◌, ◌++◌, length, map, Option, Some, None, refl, sym, ap, ◌∙◌, subst, arith, ◌⊎◌, inl, inr}
use Rattle.std.specs.Prelude.{slice_get}
use Rattle.csub_tree.specs.declared.tree.COperand.{COperand}
use Rattle.csub_tree.specs.declared.tree.COperand.TheVariants.{Var, Const}
use Rattle.ll_code.specs.Typed as rules
use Rattle.ll_code.specs.Typed.{operations_ok, link_ok, exit_ok, block_ok, blocks_ok, all_given}
use Rattle.ll_code.specs.declared.program.LlLink.{LlLink}
use Rattle.ll_code.specs.declared.program.LlOp.{LlOp}
use Rattle.ll_code.specs.declared.program.LlExit.{LlExit}
use Rattle.ll_code.specs.declared.program.LlExit.TheVariants as exit
use Rattle.ll_code.specs.declared.program.LlBlock.{LlBlock}
use Rattle.ll_code.specs.declared.program.LlGraph.{LlGraph}
use Rattle.ll_code.specs.declared.program.LlProgram.{LlProgram}
use Rattle.ll_laws.proofs.Values.{and_left, and_right, is_same}
use Rattle.ll_live.specs.Live.{among, variables_in, set_by, handler_variable, live}
use Rattle.ll_joined.specs.Named.{Naming, ByPairs, by_pairs, name_of, value_of, named, number_of, exit_by}
use Rattle.ll_joined.specs.Counted.{has, is_alone, are_alone, are_some, is_exit_alone, is_named, are_named, follows, taken_in}
use Rattle.ll_joined.specs.Joined as join
use Rattle.ll_joined.specs.Joined.{pairs_of, constants_of, inputs_of, past, onto, goes_by, goes_at, goes_on, then_on, way_from, stays}
use Rattle.joined_laws.specs.Straight.{exit_at}
use Rattle.turned_laws.specs.Ordered.{are_apart}
use Rattle.turned_laws.specs.Turned.{asked_of, asked_at, AreVariables, KeepsName, KeepsNames, KeepsCaught, KeepsType, catches, IsPassed, ArePassed, leads, Turned, Ended, Kept, Joined}
use Rattle.turned_laws.proofs.Lists.{known, differ, none_true, opposite, same, either_of, both, or_left, or_right, not_is, is_not, within_list, all_given_size}
use Rattle.turned_laws.proofs.Relation.{among_left, among_right, among_first}
use Rattle.straight_laws.proofs.Counting.{times, times_both, times_among, among_times, each, times_one, times_two, times_from, if_any, op_sets, exit_sets, sets_of, target_if, targets, targets_of, taken_of, to_is, taken_is, none_has, some_has}
use Rattle.straight_laws.proofs.Trails.{C, T, Followed, follow_is, set_once, alone_ops, alone_exit, named_inputs, is_target, only_link, Trail, Begins, Follows, fresh, short}
use Rattle.straight_laws.proofs.Names.{set_or_live, no_input, Calls, calls, each_call, call_types}

pub append_none : {A : Type 0} (xs : List A) → xs ++ [] ≡ xs
append_none [] = refl
append_none (x ∷ xs) = ap (λ l. x ∷ l) (append_none xs)

pub append_both : {A : Type 0} (xs ys zs : List A) → (xs ++ ys) ++ zs ≡ xs ++ (ys ++ zs)
append_both [] ys zs = refl
append_both (x ∷ xs) ys zs = ap (λ l. x ∷ l) (append_both xs ys zs)

pub exit_numbered : (names : Naming) (numbers : List ℕ) (e : LlExit) → exit_at numbers (exit_by names [] e) ≡ exit_by names numbers e
exit_numbered names numbers (exit.Goto link) = refl
exit_numbered names numbers (exit.If a there elsewhere) = refl
exit_numbered names numbers (exit.OnRaise a None without) = refl
exit_numbered names numbers (exit.OnRaise a (Some by) without) = refl
exit_numbered names numbers (exit.Return x) = refl
exit_numbered names numbers (exit.Raise a) = refl
exit_numbered names numbers (exit.Fail n) = refl
exit_numbered names numbers (exit.Raised a) = refl

pub block_typed : (p : LlProgram) (g : LlGraph) (blocks : List LlBlock) (n : ℕ) (block : LlBlock) → blocks_ok p g blocks ≡ true → slice_get blocks n ≡ Some block → block_ok p g block ≡ true
block_typed p g [] n block ok e = absurd (cc)
block_typed p g (b ∷ blocks) zero block ok e = let f : b ≡ block = cc in subst (λ b. block_ok p g b ≡ true) f (and_left _ _ ok)
block_typed p g (b ∷ blocks) (suc n) block ok e = block_typed p g blocks n block (and_right (block_ok p g b) _ ok) e

module _ (p : LlProgram) (graph : LlGraph) (typed : blocks_ok p graph graph.blocks ≡ true) (closed : (n : ℕ) (block : LlBlock) → slice_get graph.blocks n ≡ Some block → (v : ℕ) → live block.ops block.exit v ≡ true → among v block.inputs ≡ true)
    (apart : (n : ℕ) (block : LlBlock) → slice_get graph.blocks n ≡ Some block → are_apart block.inputs ≡ true) (numbers : List ℕ) where
  abbrev blocks : List LlBlock
  blocks = graph.blocks

  abbrev k : ℕ
  k = length graph.types

  abbrev pub heads : ℕ → Bool
  heads n = stays (C k blocks) (T k blocks) n

  abbrev pub Text : ℕ → Naming → List LlOp → LlExit → List LlOp → LlExit → Type 0
  Text n names ops e left ends = Turned graph.types blocks numbers heads n names ops e left ends

  -- ---- links that are not followed

  -- what is not followed leads to a block that stays
  leads_on : (n : ℕ) (block : LlBlock) → slice_get blocks n ≡ Some block → follows blocks (C k blocks) block.exit ≡ None → (to : ℕ) → to < length blocks → 0 < times to (targets_of block) → heads to ≡ true
  leads_on n block at none to lt led = or_right (to == 0) _ (both (not (has 0 to (C k blocks).to)) (has 0 to (T k blocks)) (is_not (has 0 to (C k blocks).to) named) free)
    where
      named : has 0 to (C k blocks).to ≡ false
      named = ap (has 0 to) (to_is k blocks) ∙ some_has (each targets_of blocks) (length blocks) to lt (let h : times to (targets_of block) ≤ times to (each targets_of blocks) = times_one targets_of to blocks n block at in omega (arith, h, led))

      untaken : (m : ℕ) → times to (each (taken_of blocks (C k blocks)) blocks) ≡ m → times to (each (taken_of blocks (C k blocks)) blocks) ≡ 0
      untaken zero e = e
      untaken (suc m) e = (let (i, other, here, some) = times_from (taken_of blocks (C k blocks)) to blocks (omega (arith, e)) in by i other here some (follows blocks (C k blocks) other.exit) refl)
        where
          by : (i : ℕ) (other : LlBlock) → slice_get blocks i ≡ Some other → 0 < times to (taken_of blocks (C k blocks) other) → (o : Option LlLink) → follows blocks (C k blocks) other.exit ≡ o → times to (each (taken_of blocks (C k blocks)) blocks) ≡ 0
          by i other here some None f = absurd (let z : times to (taken_of blocks (C k blocks) other) ≡ 0 = ap (λ o. times to (target_if o)) f in omega (arith, z, some))
          by i other here some (Some link) f = absurd (two (known (i == n)))
            where
              to_link : (link.to == to) ≡ true
              to_link = one (either_of (link.to == to) false (among_times to (link.to ∷ []) (subst (λ o. 0 < times to (target_if o)) f some)))
                where
                  one : (link.to == to) ≡ true ⊎ false ≡ true → (link.to == to) ≡ true
                  one (inl e) = e
                  one (inr e) = none_true (sym e)

              two : (i == n) ≡ true ⊎ (i == n) ≡ false → ⊥
              two (inl s) =
                  let same_block : Some other ≡ Some block = sym here ∙ ap (slice_get blocks) (is_same i n s) ∙ at in
                  let g : other ≡ block = cc in
                  let h : Some link ≡ None = sym f ∙ ap (λ b. follows blocks (C k blocks) b.exit) g ∙ none in
                  absurd (cc)
              two (inr s) =
                  let w = follow_is k blocks other.exit link f in
                  let e : link.to ≡ to = is_same link.to to to_link in
                  let a : times to (targets_of other) ≡ 1 = subst (λ t. times t (targets_of other) ≡ 1) e (is_target k blocks other.exit link w) in
                  let b : times to (targets_of other) + times to (targets_of block) ≤ times to (each targets_of blocks) = times_two targets_of to blocks i n other block here at (differ i n s) in
                  let c : times to (each targets_of blocks) ≡ 1 = subst (λ t. times t (each targets_of blocks) ≡ 1) e (only_link k blocks other.exit link w) in
                  omega (arith, a, b, c, led)

      free : has 0 to (T k blocks) ≡ true
      free = ap (has 0 to) (taken_is blocks (C k blocks)) ∙ none_has (each (taken_of blocks (C k blocks)) blocks) (length blocks) to lt (untaken (times to (each (taken_of blocks (C k blocks)) blocks)) refl)

  link_within : (link : LlLink) → link_ok p graph link ≡ true → link.to < length blocks
  link_within link h = one (slice_get blocks link.to) refl h
    where
      one : (o : Option LlBlock) → slice_get blocks link.to ≡ o → rules.enters p graph.types o link.args ≡ true → link.to < length blocks
      one None e h = none_true (sym h)
      one (Some b) e h = within_list blocks link.to b e

  leads_all : (n : ℕ) (block : LlBlock) → slice_get blocks n ≡ Some block → follows blocks (C k blocks) block.exit ≡ None → (e : LlExit) → block.exit ≡ e → exit_ok p graph e ≡ true → leads heads e ≡ true
  leads_all n block at none e is ok = by e is ok
    where
      to : (e : LlExit) → block.exit ≡ e → (link : LlLink) → link_ok p graph link ≡ true → among link.to (targets e) ≡ true → heads link.to ≡ true
      to e is link ok h = leads_on n block at none link.to (link_within link ok) (subst (λ e. 0 < times link.to (targets e)) (sym is) (times_among link.to (targets e) h))

      by : (e : LlExit) → block.exit ≡ e → exit_ok p graph e ≡ true → leads heads e ≡ true
      by (exit.Goto link) is ok = to (exit.Goto link) is link ok (among_first link.to [])
      by (exit.If a there elsewhere) is ok =
          both (heads there.to) (heads elsewhere.to) (to (exit.If a there elsewhere) is there (and_right _ _ (and_left _ _ ok)) (among_first there.to (elsewhere.to ∷ [])))
          (to (exit.If a there elsewhere) is elsewhere (and_right _ _ ok) (or_right (there.to == elsewhere.to) _ (among_first elsewhere.to [])))
      by (exit.OnRaise a None without) is ok = to (exit.OnRaise a None without) is without (and_right _ _ ok) (among_first without.to [])
      by (exit.OnRaise a (Some b) without) is ok =
          both (heads b.to) (heads without.to) (to (exit.OnRaise a (Some b) without) is b (and_right _ _ (and_left _ _ ok)) (among_first b.to (without.to ∷ [])))
          (to (exit.OnRaise a (Some b) without) is without (and_right _ _ ok) (or_right (b.to == without.to) _ (among_first without.to [])))
      by (exit.Return x) is ok = refl
      by (exit.Raise a) is ok = refl
      by (exit.Fail m) is ok = refl
      by (exit.Raised a) is ok = refl

  -- ---- names along a way

  -- a block of the trail sets it, or has it as an input
  abbrev Settled : List ℕ → ℕ → Type 0
  Settled before w = (m : ℕ) × (block : LlBlock) × (among m before ≡ true) × (slice_get blocks m ≡ Some block) × (among w (sets_of block) ≡ true)

  pub record Calling (before : List ℕ) (pairs : List (ℕ × ℕ)) (block : LlBlock) : Type 0 where
    pub others : (v : ℕ) → among v block.inputs ≡ false → by_pairs pairs v ≡ v
    pub values : (v : ℕ) → (by_pairs pairs v ≡ v) ⊎ Settled before (by_pairs pairs v)
    pub kinds : (v : ℕ) → slice_get graph.types (by_pairs pairs v) ≡ slice_get graph.types v

  -- what the block sets has a name of its own
  abbrev Own : List (ℕ × ℕ) → LlBlock → Type 0
  Own pairs block = (a : ℕ) → among a (op_sets block.ops ++ exit_sets block.exit) ≡ true → (good : ℕ → Bool) → KeepsName (ByPairs pairs) a good

  pub own_here : (block : LlBlock) → Own [] block
  own_here block a h good = record { own = refl; others = λ v g ne e. ne (let f : v ≡ a = cc in sym f) }

  own_once : (head : ℕ) (hs : heads head ≡ true) (n : ℕ) (before : List ℕ) (pairs : List (ℕ × ℕ)) (block : LlBlock) → Trail k blocks head hs n before → slice_get blocks n ≡ Some block → Calling before pairs block
      → (a : ℕ) → among a (op_sets block.ops ++ exit_sets block.exit) ≡ true → has 1 a (C k blocks).set ≡ true → (good : ℕ → Bool) → KeepsName (ByPairs pairs) a good
  own_once head hs n before pairs block trail at names a h once good = record { own = ap Var own; others = λ v g ne e. other v ne (let f : by_pairs pairs v ≡ a = cc in f) }
    where
      all : times a (each sets_of blocks) ≡ 1
      all = set_once k blocks a once

      some : 0 < times a (op_sets block.ops ++ exit_sets block.exit)
      some = times_among a (op_sets block.ops ++ exit_sets block.exit) h

      parts : times a (sets_of block) ≡ times a block.inputs + times a (op_sets block.ops ++ exit_sets block.exit)
      parts = times_both a block.inputs (op_sets block.ops ++ exit_sets block.exit)

      no_input_here : among a block.inputs ≡ false
      no_input_here = one (known (among a block.inputs))
        where
          one : (among a block.inputs ≡ true) ⊎ (among a block.inputs ≡ false) → among a block.inputs ≡ false
          one (inl i) = absurd (let t : 0 < times a block.inputs = times_among a block.inputs i in let m : times a (sets_of block) ≤ times a (each sets_of blocks) = times_one sets_of a blocks n block at in omega (arith, t, m, all, some, parts))
          one (inr i) = i

      own : by_pairs pairs a ≡ a
      own = names.others a no_input_here

      other : (v : ℕ) → (a ≡ v → ⊥) → by_pairs pairs v ≡ a → ⊥
      other v ne e = two (names.values v)
        where
          two : (by_pairs pairs v ≡ v) ⊎ Settled before (by_pairs pairs v) → ⊥
          two (inl s) = ne (sym e ∙ s)
          two (inr (m, b, i, here, set)) =
              let t : 0 < times a (sets_of b) = times_among a (sets_of b) (subst (λ w. among w (sets_of b) ≡ true) e set) in
              let both_of : times a (sets_of b) + times a (sets_of block) ≤ times a (each sets_of blocks) = times_two sets_of a blocks m n b block here at (λ s. opposite (among n before) (subst (λ m. among m before ≡ true) s i) (fresh k blocks head hs n before trail)) in
              omega (arith, t, both_of, all, some, parts)

  alone_in : (ops : List LlOp) → are_alone (C k blocks) ops ≡ true → (a : ℕ) → among a (op_sets ops) ≡ true → has 1 a (C k blocks).set ≡ true
  alone_in [] h a i = none_true (sym i)
  alone_in (o ∷ ops) h a i = one (λ g. alone_in ops (and_right _ _ h) a g) (set_by o) (and_left _ _ h) i
    where
      one : (among a (op_sets ops) ≡ true → has 1 a (C k blocks).set ≡ true) → (s : Option ℕ) → is_alone (C k blocks) s ≡ true → among a (if_any s ++ op_sets ops) ≡ true → has 1 a (C k blocks).set ≡ true
      one go None h i = go i
      one go (Some b) h i = two (either_of (b == a) (among a (op_sets ops)) i)
        where
          two : (b == a) ≡ true ⊎ among a (op_sets ops) ≡ true → has 1 a (C k blocks).set ≡ true
          two (inl e) = subst (λ a. has 1 a (C k blocks).set ≡ true) (is_same b a e) h
          two (inr g) = go g

  in_either : (v : ℕ) (xs ys : List ℕ) → among v (xs ++ ys) ≡ true → (among v xs ≡ true) ⊎ (among v ys ≡ true)
  in_either v [] ys h = inr h
  in_either v (x ∷ xs) ys h = one (in_either v xs ys) (x == v) h
    where
      one : (among v (xs ++ ys) ≡ true → (among v xs ≡ true) ⊎ (among v ys ≡ true)) → (b : Bool) → (b || among v (xs ++ ys)) ≡ true → ((b || among v xs) ≡ true) ⊎ (among v ys ≡ true)
      one go true h = inl refl
      one go false h = go h

  alone_all : (ops : List LlOp) (e : LlExit) → are_alone (C k blocks) ops ≡ true → is_exit_alone (C k blocks) ops e ≡ true → (a : ℕ) → among a (op_sets ops ++ exit_sets e) ≡ true → has 1 a (C k blocks).set ≡ true
  alone_all ops e h g a i = one (in_either a (op_sets ops) (exit_sets e) i)
    where
      two : (e : LlExit) → is_exit_alone (C k blocks) ops e ≡ true → among a (exit_sets e) ≡ true → has 1 a (C k blocks).set ≡ true
      two (exit.OnRaise b by without) g i = three (either_of (b == a) false i)
        where
          three : (b == a) ≡ true ⊎ false ≡ true → has 1 a (C k blocks).set ≡ true
          three (inl s) = subst (λ a. has 1 a (C k blocks).set ≡ true) (is_same b a s) (and_left _ _ g)
          three (inr s) = none_true (sym s)
      two (exit.Goto link) g i = none_true (sym i)
      two (exit.If b there elsewhere) g i = none_true (sym i)
      two (exit.Return x) g i = none_true (sym i)
      two (exit.Raise b) g i = none_true (sym i)
      two (exit.Fail m) g i = none_true (sym i)
      two (exit.Raised b) g i = none_true (sym i)

      one : (among a (op_sets ops) ≡ true) ⊎ (among a (exit_sets e) ≡ true) → has 1 a (C k blocks).set ≡ true
      one (inl s) = alone_in ops h a s
      one (inr s) = two e g s

  -- ---- operations are kept

  kept_all : (pairs : List (ℕ × ℕ)) (ops : List LlOp) (e : LlExit) (left : List LlOp) (ends : LlExit) (m : ℕ) → ((a : ℕ) → among a (op_sets ops) ≡ true → (good : ℕ → Bool) → KeepsName (ByPairs pairs) a good) → Text m (ByPairs pairs) [] e left ends
      → (n : ℕ) × Text n (ByPairs pairs) ops e (map (named (ByPairs pairs)) ops ++ left) ends
  kept_all pairs [] e left ends m own text = (m, text)
  kept_all pairs (o ∷ ops) e left ends m own text =
      let rest = kept_all pairs ops e left ends m (λ a h good. own a (among_right a (if_any (set_by o)) (op_sets ops) h) good) text in
      (0, Kept rest.0 (ByPairs pairs) o ops (map (named (ByPairs pairs)) ops ++ left) e ends (λ v h. refl) (keeps (set_by o) (λ a h good. own a (among_left a (if_any (set_by o)) (op_sets ops) h) good)) rest.1)
    where
      keeps : (s : Option ℕ) → ((a : ℕ) → among a (if_any s) ≡ true → (good : ℕ → Bool) → KeepsName (ByPairs pairs) a good) → KeepsNames (ByPairs pairs) s (λ v. live ops e v)
      keeps None h = tt
      keeps (Some a) h = h a (among_first a []) (λ v. live ops e v)

  caught_names : (pairs : List (ℕ × ℕ)) (e : LlExit) → ((a : ℕ) → among a (exit_sets e) ≡ true → (good : ℕ → Bool) → KeepsName (ByPairs pairs) a good) → KeepsCaught (ByPairs pairs) e
  caught_names pairs (exit.OnRaise a (Some by) without) own = own a (among_first a []) (λ v. among v (variables_in by.args))
  caught_names pairs (exit.OnRaise a None without) own = (own a (among_first a []) (λ v. false)).own
  caught_names pairs (exit.Goto link) own = tt
  caught_names pairs (exit.If a there elsewhere) own = tt
  caught_names pairs (exit.Return x) own = tt
  caught_names pairs (exit.Raise a) own = tt
  caught_names pairs (exit.Fail m) own = tt
  caught_names pairs (exit.Raised a) own = tt

  kept_type : (pairs : List (ℕ × ℕ)) (e : LlExit) → ((v : ℕ) → slice_get graph.types (by_pairs pairs v) ≡ slice_get graph.types v) → KeepsType graph.types (ByPairs pairs) e
  kept_type pairs (exit.Raised a) kinds = kinds a
  kept_type pairs (exit.OnRaise a by without) kinds = tt
  kept_type pairs (exit.Goto link) kinds = tt
  kept_type pairs (exit.If a there elsewhere) kinds = tt
  kept_type pairs (exit.Return x) kinds = tt
  kept_type pairs (exit.Raise a) kinds = tt
  kept_type pairs (exit.Fail m) kinds = tt

  -- ---- the next block of a way

  module _ (head : ℕ) (hs : heads head ≡ true) (n : ℕ) (before : List ℕ) (pairs : List (ℕ × ℕ)) (block : LlBlock) (trail : Trail k blocks head hs n before) (at : slice_get blocks n ≡ Some block) (names : Calling before pairs block) (own : Own pairs block) (link : LlLink) (f : Followed k blocks block.exit link) where
    abbrev next : LlBlock
    next = f.next

    abbrev further : List (ℕ × ℕ)
    further = pairs_of (ByPairs pairs) next.inputs link.args

    abbrev there : Trail k blocks head hs link.to (n ∷ before)
    there = Follows n before block link trail at f

    given : all_given p graph.types graph.types next.inputs link.args ≡ true
    given = subst (λ o. rules.enters p graph.types o link.args ≡ true) f.at (subst (λ e. exit_ok p graph e ≡ true) f.goes (and_right _ _ (block_typed p graph blocks n block typed at)))

    size : length next.inputs ≡ length link.args
    size = all_given_size p graph.types graph.types next.inputs link.args given

    called : Calls (ByPairs pairs) further next.inputs link.args
    called = calls (ByPairs pairs) next.inputs link.args (apart link.to next f.at)

    -- what is passed on was set on the way
    settled : (w : ℕ) → among w (variables_in link.args) ≡ true → Settled (n ∷ before) (by_pairs pairs w)
    settled w h = one (set_or_live block.ops block.exit w (subst (λ e. live [] e w ≡ true) (sym f.goes) (or_left (among w (variables_in link.args)) false h)))
      where
        here : among w (sets_of block) ≡ true → by_pairs pairs w ≡ w → Settled (n ∷ before) (by_pairs pairs w)
        here s e = (n, block, among_first n before, at, subst (λ w. among w (sets_of block) ≡ true) (sym e) s)

        two : among w block.inputs ≡ true → (by_pairs pairs w ≡ w) ⊎ Settled before (by_pairs pairs w) → Settled (n ∷ before) (by_pairs pairs w)
        two i (inl e) = here (among_left w block.inputs (op_sets block.ops ++ exit_sets block.exit) i) e
        two i (inr (m, b, j, at_m, s)) = (m, b, or_right (n == m) (among m before) j, at_m, s)

        one : (among w (op_sets block.ops) ≡ true) ⊎ (live block.ops block.exit w ≡ true) → Settled (n ∷ before) (by_pairs pairs w)
        one (inl s) =
            let i : among w (op_sets block.ops ++ exit_sets block.exit) ≡ true = among_left w (op_sets block.ops) (exit_sets block.exit) s in
            here (among_right w block.inputs (op_sets block.ops ++ exit_sets block.exit) i) (let e : Var (by_pairs pairs w) ≡ Var w = (own w i (λ v. false)).own in let g : by_pairs pairs w ≡ w = cc in g)
        one (inr l) = two (closed n block at w l) (names.values w)

    next_values : (v : ℕ) → (by_pairs further v ≡ v) ⊎ Settled (n ∷ before) (by_pairs further v)
    next_values v = one (known (among v next.inputs))
      where
        one : (among v next.inputs ≡ true) ⊎ (among v next.inputs ≡ false) → (by_pairs further v ≡ v) ⊎ Settled (n ∷ before) (by_pairs further v)
        one (inl i) = each_call (ByPairs pairs) (Settled (n ∷ before)) further next.inputs link.args called size settled v i
        one (inr i) = inl (no_input (ByPairs pairs) next.inputs link.args v i)

    next_kinds : (v : ℕ) → slice_get graph.types (by_pairs further v) ≡ slice_get graph.types v
    next_kinds v = one (known (among v next.inputs))
      where
        one : (among v next.inputs ≡ true) ⊎ (among v next.inputs ≡ false) → slice_get graph.types (by_pairs further v) ≡ slice_get graph.types v
        one (inl i) = call_types (ByPairs pairs) p graph.types further next.inputs link.args called given names.kinds v i
        one (inr i) = ap (slice_get graph.types) (no_input (ByPairs pairs) next.inputs link.args v i)

    pub next_names : Calling (n ∷ before) further next
    next_names = record { others = no_input (ByPairs pairs) next.inputs link.args; values = next_values; kinds = next_kinds }

    pub next_own : Own further next
    next_own a h good = own_once head hs link.to (n ∷ before) further next there f.at next_names a h (alone_all next.ops next.exit (alone_ops k blocks block.exit link f) (alone_exit k blocks block.exit link f) a h) good

    -- an input that is a constant is set by nothing else
    constant_own : (v : ℕ) → among v next.inputs ≡ true → by_pairs further v ≡ v → has 1 v (C k blocks).set ≡ true → KeepsName (ByPairs further) v (λ u. among u next.inputs)
    constant_own v i e once = record { own = ap Var e; others = λ u g ne s. other u ne (let t : by_pairs further u ≡ v = cc in t) }
      where
        other : (u : ℕ) → (v ≡ u → ⊥) → by_pairs further u ≡ v → ⊥
        other u ne s = two (next_values u)
          where
            two : (by_pairs further u ≡ u) ⊎ Settled (n ∷ before) (by_pairs further u) → ⊥
            two (inl t) = ne (sym s ∙ t)
            two (inr (m, b, j, at_m, set)) =
                let a : 0 < times v (sets_of b) = times_among v (sets_of b) (subst (λ w. among w (sets_of b) ≡ true) s set) in
                let c : 0 < times v (sets_of next) = times_among v (sets_of next) (among_left v next.inputs (op_sets next.ops ++ exit_sets next.exit) i) in
                let d : times v (sets_of b) + times v (sets_of next) ≤ times v (each sets_of blocks) = times_two sets_of v blocks m link.to b next at_m f.at (λ q. opposite (among link.to (n ∷ before)) (subst (λ m. among m (n ∷ before) ≡ true) q j) (fresh k blocks head hs link.to (n ∷ before) there)) in
                let g : times v (each sets_of blocks) ≡ 1 = set_once k blocks v once in
                omega (arith, a, c, d, g)

    passed_from : (vs : List ℕ) (xs : List COperand) → ((v : ℕ) → among v vs ≡ true → among v next.inputs ≡ true) → Calls (ByPairs pairs) further vs xs → are_named (C k blocks) vs xs ≡ true → length vs ≡ length xs → ArePassed (ByPairs pairs) (ByPairs further) next.inputs vs xs
    passed_from [] [] inside c h e = tt
    passed_from [] (x ∷ xs) inside c h e = absurd (omega (arith, e))
    passed_from (v ∷ vs) [] inside c h e = absurd (omega (arith, e))
    passed_from (v ∷ vs) (Var w ∷ xs) inside (s, c) h e = (ap Var s, passed_from vs xs (λ u i. inside u (or_right (v == u) (among u vs) i)) c (and_right (is_named (C k blocks) v (Var w)) _ h) (omega (arith, e)))
    passed_from (v ∷ vs) (Const t ∷ xs) inside (s, c) h e = (constant_own v (inside v (among_first v vs)) s (and_left _ _ h), passed_from vs xs (λ u i. inside u (or_right (v == u) (among u vs) i)) c (and_right _ _ h) (omega (arith, e)))

    pub passed : ArePassed (ByPairs pairs) (ByPairs further) next.inputs next.inputs link.args
    passed = passed_from next.inputs link.args (λ v i. i) called (named_inputs k blocks block.exit link f) size

    pub caught_last : catches next.exit ≡ true → are_some next.ops ≡ true
    caught_last h = one next.exit h (alone_exit k blocks block.exit link f)
      where
        one : (e : LlExit) → catches e ≡ true → is_exit_alone (C k blocks) next.ops e ≡ true → are_some next.ops ≡ true
        one (exit.OnRaise a by without) h g = and_right (has 1 a (C k blocks).set) _ g
        one (exit.Goto l) h g = none_true (sym h)
        one (exit.If a l elsewhere) h g = none_true (sym h)
        one (exit.Return x) h g = none_true (sym h)
        one (exit.Raise a) h g = none_true (sym h)
        one (exit.Fail m) h g = none_true (sym h)
        one (exit.Raised a) h g = none_true (sym h)

  -- ---- whole ways

  -- the way leads on by operations and an exit that do what is left
  pub record WayTurned (done : List LlOp) (pairs : List (ℕ × ℕ)) (block : LlBlock) (made : List LlOp × LlExit) : Type 0 where
    pub left : List LlOp
    pub ends : LlExit
    pub is : made ≡ (done ++ left, ends)
    pub moves : ℕ
    pub text : Text moves (ByPairs pairs) block.ops block.exit left (exit_at numbers ends)

  pub way_turned : (most : ℕ) (head : ℕ) (hs : heads head ≡ true) (n : ℕ) (before : List ℕ) (pairs : List (ℕ × ℕ)) (block : LlBlock) (done : List LlOp) → Trail k blocks head hs n before → slice_get blocks n ≡ Some block → Calling before pairs block → Own pairs block → length before + most ≡ length blocks
      → WayTurned done pairs block (way_from blocks (C k blocks) most (record (join.way_at n) { ops = done; pairs = pairs }))
  unfolding way_from
  way_turned zero head hs n before pairs block done trail at names own fuel = absurd (let h : length before < length blocks = short k blocks head hs n before trail (within_list blocks n block at) in omega (arith, h, fuel))
  way_turned (suc most) head hs n before pairs block done trail at names own fuel =
      subst (λ o. WayTurned done pairs block (then_on (way_from blocks (C k blocks) most) (goes_at blocks (C k blocks) (record (join.way_at n) { ops = done; pairs = pairs }) o))) (sym at)
      (by (follows blocks (C k blocks) block.exit) refl
      (λ link f. way_turned most head hs link.to (n ∷ before) (pairs_of (ByPairs pairs) f.next.inputs link.args) f.next ((done ++ map (named (ByPairs pairs)) block.ops) ++ constants_of f.next.inputs link.args) (Follows n before block link trail at f) f.at
      (next_names head hs n before pairs block trail at names own link f) (next_own head hs n before pairs block trail at names own link f) (omega (arith, fuel))))
    where
      by : (o : Option LlLink) → follows blocks (C k blocks) block.exit ≡ o
          → ((link : LlLink) (f : Followed k blocks block.exit link) → WayTurned ((done ++ map (named (ByPairs pairs)) block.ops) ++ constants_of f.next.inputs link.args) (pairs_of (ByPairs pairs) f.next.inputs link.args) f.next (way_from blocks (C k blocks) most (record (join.way_at link.to) { ops = (done ++ map (named (ByPairs pairs)) block.ops) ++ constants_of f.next.inputs link.args; pairs = pairs_of (ByPairs pairs) f.next.inputs link.args })))
          → WayTurned done pairs block (then_on (way_from blocks (C k blocks) most) (goes_by blocks (record (join.way_at n) { ops = done; pairs = pairs }) block o))
      by None none go = record {
        left = map (named (ByPairs pairs)) block.ops;
        ends = exit_by (ByPairs pairs) [] block.exit;
        is = refl;
        moves = kept.0;
        text = subst (λ e. Text kept.0 (ByPairs pairs) block.ops block.exit (map (named (ByPairs pairs)) block.ops) e) (sym (exit_numbered (ByPairs pairs) numbers block.exit)) (subst (λ ops. Text kept.0 (ByPairs pairs) block.ops block.exit ops (exit_by (ByPairs pairs) numbers block.exit)) (append_none (map (named (ByPairs pairs)) block.ops)) kept.1);
      }
        where
          kept : (m : ℕ) × Text m (ByPairs pairs) block.ops block.exit (map (named (ByPairs pairs)) block.ops ++ []) (exit_by (ByPairs pairs) numbers block.exit)
          kept =
              kept_all pairs block.ops block.exit [] (exit_by (ByPairs pairs) numbers block.exit) 0 (λ a h good. own a (among_left a (op_sets block.ops) (exit_sets block.exit) h) good)
              (Ended (ByPairs pairs) block.exit (leads_all n block at none block.exit refl (and_right (operations_ok p graph.types block.ops) _ (block_typed p graph blocks n block typed at))) (λ v h. refl) (caught_names pairs block.exit (λ a h good. own a (among_right a (op_sets block.ops) (exit_sets block.exit) h) good))
              (kept_type pairs block.exit names.kinds))
      by (Some link) some go = subst (λ inputs. WayTurned done pairs block (way_from blocks (C k blocks) most (record (join.way_at link.to) { ops = (done ++ map (named (ByPairs pairs)) block.ops) ++ constants_of inputs link.args; pairs = pairs_of (ByPairs pairs) inputs link.args }))) (sym (ap inputs_of f.at)) (record {
        left = map (named (ByPairs pairs)) block.ops ++ (constants_of f.next.inputs link.args ++ rest.left);
        ends = rest.ends;
        is = rest.is ∙ ap (λ ops. (ops, rest.ends)) (append_both (done ++ map (named (ByPairs pairs)) block.ops) (constants_of f.next.inputs link.args) rest.left ∙ append_both done (map (named (ByPairs pairs)) block.ops) (constants_of f.next.inputs link.args ++ rest.left));
        moves = kept.0;
        text = kept.1;
      })
        where
          f : Followed k blocks block.exit link
          f = follow_is k blocks block.exit link some

          rest : WayTurned ((done ++ map (named (ByPairs pairs)) block.ops) ++ constants_of f.next.inputs link.args) (pairs_of (ByPairs pairs) f.next.inputs link.args) f.next (way_from blocks (C k blocks) most (record (join.way_at link.to) { ops = (done ++ map (named (ByPairs pairs)) block.ops) ++ constants_of f.next.inputs link.args; pairs = pairs_of (ByPairs pairs) f.next.inputs link.args }))
          rest = go link f

          kept : (m : ℕ) × Text m (ByPairs pairs) block.ops block.exit (map (named (ByPairs pairs)) block.ops ++ (constants_of f.next.inputs link.args ++ rest.left)) (exit_at numbers rest.ends)
          kept =
              kept_all pairs block.ops block.exit (constants_of f.next.inputs link.args ++ rest.left) (exit_at numbers rest.ends) (suc rest.moves) (λ a h good. own a (among_left a (op_sets block.ops) (exit_sets block.exit) h) good)
              (subst (λ e. Text (suc rest.moves) (ByPairs pairs) [] e (constants_of f.next.inputs link.args ++ rest.left) (exit_at numbers rest.ends)) (sym f.goes)
              (Joined rest.moves (ByPairs pairs) (ByPairs (pairs_of (ByPairs pairs) f.next.inputs link.args)) link f.next rest.left (exit_at numbers rest.ends) f.at (caught_last head hs n before pairs block trail at names own link f) (passed head hs n before pairs block trail at names own link f) rest.text))
