-- The inputs of a block take their values as if all at once.
use Rattle.std.proofs.Common.{◌≡◌, ◌<◌, ◌≤◌, ℕ, zero, suc, ◌+◌, Bool, true, false, ◌&&◌, ◌||◌, ◌==◌, List, [], ◌∷◌, ◌++◌, length, drop, Option, Some, None, refl, sym, ap, ◌∙◌, subst, arith, ◌⊎◌, inl, inr}
use Rattle.std.specs.Prelude.{slice_get, slice_set, cond, not}
use Rattle.csub_tree.specs.State.{Value, Unset, Core}
use Rattle.csub_tree.specs.Operation.{is_unset}
use Rattle.csub_tree.specs.Statement as st
use Rattle.csub_tree.specs.Statement.{read, any_unset}
use Rattle.csub_tree.specs.declared.tree.COperand.{COperand}
use Rattle.csub_tree.specs.declared.tree.COperand.TheVariants.{Var, Const}
use Rattle.csub_tree.specs.declared.tree.CStmt.{CStmt}
use Rattle.csub_tree.specs.declared.tree.CStmt.TheVariants as stmt
use Rattle.ll_code.specs.Machine.{set_all}
use Rattle.ll_code.specs.Typed.{given_takes, all_given, enters, link_ok}
use Rattle.ll_code.specs.declared.program.LlType.{LlType}
use Rattle.ll_code.specs.declared.program.LlLink.{LlLink}
use Rattle.ll_code.specs.declared.program.LlBlock.{LlBlock}
use Rattle.ll_code.specs.declared.program.LlGraph.{LlGraph}
use Rattle.ll_code.specs.declared.program.LlProgram.{LlProgram}
use Rattle.ll_laws.proofs.Values.{and_left, and_right, is_same}
use Rattle.std.proofs.lemmas.Option.{slice_get_within}
use Rattle.genc_lower.specs.Lower as lower
use Rattle.genc_lower.specs.Lower.{order_of, lowered, moves, is_changed, changes, is_new, reads_changed, crosses_in, crosses, assigns, moved, inputs_of, inputs_at, link_code, link_crosses, blocks_code, function_code, any_crosses}
use Rattle.genc_laws.specs.Same.{renamed, SameVars}
use Rattle.genc_laws.specs.Stands.{count_of}
use Rattle.genc_laws.specs.Follows.{Leads}
use Rattle.genc_laws.proofs.Values.{equals, unset_same, constant_same}
use Rattle.genc_laws.proofs.Memory.{set_here, set_elsewhere, length_set, apart, vars_set}
use Rattle.genc_laws.proofs.Operations.{place_of}
use Rattle.genc_laws.proofs.Leading.{drop_next, nothing, then, sets, standing, onward, stepped}
use Rattle.genc_laws.proofs.Places.{not_same, room_to_wait, append_assoc}

-- ---- tests

or_left : (a b : Bool) → (a || b) ≡ false → a ≡ false
or_left false b e = refl
or_left true b e = e

or_right : (a b : Bool) → (a || b) ≡ false → b ≡ false
or_right false b e = e
or_right true b e = absurd (cc)

second : (a b : Bool) → (a && b) ≡ false → a ≡ true → b ≡ false
second true b e h = e
second false b e h = absurd (cc)

-- an operand that is no new value of an input is the input itself
stays_put : (v : ℕ) (x : COperand) → moves v x ≡ false → x ≡ Var v
stays_put v (Var w) e = ap Var (sym (is_same v w (undone (v == w) e)))
  where
    undone : (b : Bool) → not b ≡ false → b ≡ true
    undone true h = refl
    undone false h = absurd (cc)
stays_put v (Const c) e = absurd (cc)

new_is : (vs : List ℕ) (xs : List COperand) (w : ℕ) → is_new vs xs w ≡ changes w vs xs
unfolding is_new
new_is vs xs w = refl

abbrev is_in : ℕ → List ℕ → Bool
is_in w [] = false
is_in w (v ∷ vs) = (w == v) || is_in w vs

-- ---- all at once

set_own : (vars : List Value) (a b : ℕ) (x : Value) → x ≡ read vars a → read (slice_set vars a x) b ≡ read vars b
set_own [] a b x e = refl
set_own (y ∷ vars) zero zero x e = e
set_own (y ∷ vars) zero (suc b) x e = refl
set_own (y ∷ vars) (suc a) zero x e = refl
set_own (y ∷ vars) (suc a) (suc b) x e = set_own vars a b x e

-- a variable that is no input keeps its value
not_in : (vars : List Value) (vs : List ℕ) (values : List Value) (w : ℕ) → is_in w vs ≡ false → read (set_all vars vs values) w ≡ read vars w
not_in vars [] values w e = refl
not_in vars (v ∷ vs) [] w e = refl
not_in vars (v ∷ vs) (x ∷ values) w e =
    not_in (slice_set vars v x) vs values w (or_right (w == v) (is_in w vs) e) ∙ set_elsewhere vars v w x Unset (λ f. (let g : true ≡ false = sym (equals w v (sym f)) ∙ or_left (w == v) (is_in w vs) e in absurd (cc)))

module _ (vars : List Value) where
  -- so does one that takes no other
  not_changed : (to : List Value) (vs : List ℕ) (xs : List COperand) (w : ℕ) → changes w vs xs ≡ false → read to w ≡ read vars w → read (set_all to vs (st.operands vars xs)) w ≡ read vars w
  not_changed to [] xs w e h = h
  not_changed to (v ∷ vs) [] w e h = h
  not_changed to (v ∷ vs) (x ∷ xs) w e h = not_changed (slice_set to v (st.operand vars x)) vs xs w (or_right (is_changed w v x) (changes w vs xs) e) (one (apart v w))
    where
      one : ((v ≡ w) ⊎ (v ≡ w → ⊥)) → read (slice_set to v (st.operand vars x)) w ≡ read vars w
      one (inl same) =
          let f : x ≡ Var v = stays_put v x (second (w == v) (moves v x) (or_left (is_changed w v x) (changes w vs xs) e) (equals w v (sym same))) in
          set_own to v w (st.operand vars x) (ap (st.operand vars) f ∙ ap (read vars) same ∙ sym h ∙ ap (read to) (sym same)) ∙ h
      one (inr other) = set_elsewhere to v w (st.operand vars x) Unset other ∙ h

  -- one that takes another has a value then
  is_set : (to : List Value) (vs : List ℕ) (xs : List COperand) (w : ℕ) → any_unset (st.operands vars xs) ≡ false → w < length to → (changes w vs xs ≡ true) ⊎ (is_unset (read to w) ≡ false)
      → is_unset (read (set_all to vs (st.operands vars xs)) w) ≡ false
  is_set to [] xs w e lt (inl h) = absurd (cc)
  is_set to [] xs w e lt (inr h) = h
  is_set to (v ∷ vs) [] w e lt (inl h) = absurd (cc)
  is_set to (v ∷ vs) [] w e lt (inr h) = h
  is_set to (v ∷ vs) (x ∷ xs) w e lt h =
      is_set (slice_set to v (st.operand vars x)) vs xs w (or_right (is_unset (st.operand vars x)) (any_unset (st.operands vars xs)) e) (let n : length (slice_set to v (st.operand vars x)) ≡ length to = length_set to v (st.operand vars x) in omega (arith, lt, n))
      (one (apart v w) h)
    where
      one : ((v ≡ w) ⊎ (v ≡ w → ⊥)) → (changes w (v ∷ vs) (x ∷ xs) ≡ true) ⊎ (is_unset (read to w) ≡ false) → (changes w vs xs ≡ true) ⊎ (is_unset (read (slice_set to v (st.operand vars x)) w) ≡ false)
      one (inl same) h = inr (ap is_unset (set_here to v w (st.operand vars x) Unset same (omega (arith, lt, same))) ∙ or_left (is_unset (st.operand vars x)) (any_unset (st.operands vars xs)) e)
      one (inr other) (inl h) = inl (sym (ap (λ b. (b && moves v x) || changes w vs xs) (not_same w v (λ f. other (sym f)))) ∙ h)
      one (inr other) (inr h) = inr (ap is_unset (set_elsewhere to v w (st.operand vars x) Unset other) ∙ h)

module _ (p : LlProgram) (args : List (List ℕ)) (graph : LlGraph) (base : Core) (here : slice_get (lowered p).functions base.function ≡ Some (function_code (order_of p) graph)) (stmts : List CStmt)
    (of : slice_get (blocks_code (order_of p) graph) base.block ≡ Some stmts) where
  -- the core at a place of the block, with these variables
  abbrev Place : ℕ → List Value → Core
  Place at vars = record base { at = at; vars = vars }

  -- some statements on, the rest is left, and this holds of the variables
  pub record Moved (at : ℕ) (vars : List Value) (rest : List CStmt) (Holds : List Value → Type 0) : Type 0 where
    pub to : ℕ
    pub now : List Value
    pub count : ℕ
    pub leads : Leads (lowered p) args (Place at vars) (Place to now) count
    pub left : drop to stmts ≡ rest
    pub holds : Holds now

  stay : (at : ℕ) (vars : List Value) (rest : List CStmt) (Holds : List Value → Type 0) → drop at stmts ≡ rest → Holds vars → Moved at vars rest Holds
  stay at vars rest Holds e h = record { to = at; now = vars; count = 0; leads = nothing (lowered p) args (Place at vars); left = e; holds = h }

  -- a variable is set first
  set_first : (at : ℕ) (vars : List Value) (a : ℕ) (x : COperand) (more rest : List CStmt) (Holds : List Value → Type 0) → drop at stmts ≡ stmt.Set a x ∷ more → is_unset (st.operand vars x) ≡ false
      → (drop (at + 1) stmts ≡ more → Moved (at + 1) (slice_set vars a (st.operand vars x)) rest Holds) → Moved at vars rest Holds
  set_first at vars a x more rest Holds e set go =
      let m = go (drop_next stmts at (stmt.Set a x) more e) in
      record {
        to = m.to;
        now = m.now;
        count = m.count + 1;
        leads = then (lowered p) args (Place at vars) (Place (at + 1) (slice_set vars a (st.operand vars x))) (Place m.to m.now) 1 m.count
            (sets (lowered p) args (Place at vars) a x (standing (lowered p) args (Place at vars) (function_code (order_of p) graph) stmts more (stmt.Set a x) here of e) set) m.leads;
        left = m.left;
        holds = m.holds;
      }

  abbrev Rename : Value → Value
  Rename = renamed (order_of p)

  module _ (vars : List Value) (size : length vars ≡ length graph.types) (vs0 : List ℕ) (xs0 : List COperand) where
    within : (v : ℕ) (o : Option LlType) (x : COperand) → slice_get graph.types v ≡ o → given_takes p graph.types o x ≡ true → v < length graph.types
    within v None x e h = absurd (cc)
    within v (Some t) x e h = slice_get_within graph.types v t e

    -- the first variables of the function are those of the graph
    abbrev Low : List Value → Type 0
    Low now = (a : ℕ) → a < length graph.types → read now a ≡ Rename (read vars a)

    low_operand : (now : List Value) → Low now → (o : Option LlType) (x : COperand) → given_takes p graph.types o x ≡ true → st.operand now (lower.operand (order_of p) x) ≡ Rename (st.operand vars x)
    low_operand now low None x h = absurd (cc)
    low_operand now low (Some t) (Var w) h = low w (place_of graph.types t w h)
    low_operand now low (Some t) (Const c) h = constant_same (order_of p) c

    -- ---- where nothing crosses

    abbrev Whole : List Value → List Value → Type 0
    Whole to now = SameVars (order_of p) (length graph.types) (count_of graph) to now

    abbrev Keep : List Value → Type 0
    Keep to = (w : ℕ) → is_new vs0 xs0 w ≡ false → read to w ≡ read vars w

    whole_operand : (to now : List Value) → Whole to now → Keep to → (o : Option LlType) (x : COperand) → given_takes p graph.types o x ≡ true → reads_changed vs0 xs0 x ≡ false
        → st.operand now (lower.operand (order_of p) x) ≡ Rename (st.operand vars x)
    whole_operand to now s keep None x h e = absurd (cc)
    whole_operand to now s keep (Some t) (Var w) h e = s.at w (place_of graph.types t w h) ∙ ap Rename (keep w (new_is vs0 xs0 w ∙ e))
    whole_operand to now s keep (Some t) (Const c) h e = constant_same (order_of p) c

    -- setting an input to its own value
    idle : (to now : List Value) (v : ℕ) (x : Value) → x ≡ read to v → Whole to now → Whole (slice_set to v x) now
    idle to now v x e s = record { size = length_set to v x ∙ s.size; c_size = s.c_size; room = s.room; at = λ b lt. s.at b lt ∙ ap Rename (sym (set_own to v b x e)) }

    assigns_run : (vs : List ℕ) (xs : List COperand) (to now : List Value) (at : ℕ) (rest : List CStmt) → crosses_in vs0 xs0 vs xs ≡ false → any_unset (st.operands vars xs) ≡ false
        → all_given p graph.types graph.types vs xs ≡ true → ((w : ℕ) → is_new vs0 xs0 w ≡ false → changes w vs xs ≡ false) → Whole to now → Keep to
        → drop at stmts ≡ assigns (order_of p) 0 vs0 xs0 vs xs ++ rest → Moved at now rest (Whole (set_all to vs (st.operands vars xs)))
    assigns_run [] [] to now at rest cross set given sub s keep e = stay at now rest (Whole to) e s
    assigns_run [] (x ∷ xs) to now at rest cross set given sub s keep e = absurd (cc)
    assigns_run (v ∷ vs) [] to now at rest cross set given sub s keep e = absurd (cc)
    assigns_run (v ∷ vs) (x ∷ xs) to now at rest cross set given sub s keep e =
        one (is_new vs0 xs0 v) refl
        (λ now at. assigns_run vs xs (slice_set to v (st.operand vars x)) now at rest (or_right _ _ cross) (or_right _ _ set) (and_right _ _ given) (λ w h. or_right (is_changed w v x) (changes w vs xs) (sub w h)))
      where
        place : v < length graph.types
        place = within v (slice_get graph.types v) x refl (and_left _ _ given)

        one : (b : Bool) → is_new vs0 xs0 v ≡ b
            → ((now : List Value) (at : ℕ) → Whole (slice_set to v (st.operand vars x)) now → Keep (slice_set to v (st.operand vars x)) → drop at stmts ≡ assigns (order_of p) 0 vs0 xs0 vs xs ++ rest
            → Moved at now rest (Whole (set_all (slice_set to v (st.operand vars x)) vs (st.operands vars xs))))
            → Moved at now rest (Whole (set_all (slice_set to v (st.operand vars x)) vs (st.operands vars xs)))
        one true is go =
            let same : st.operand now (lower.operand (order_of p) x) ≡ Rename (st.operand vars x) = whole_operand to now s keep (slice_get graph.types v) x (and_left _ _ given) (second _ _ (or_left _ _ cross) is) in
            let nought : 0 + v ≡ v = omega arith in
            set_first at now v (lower.operand (order_of p) x) (assigns (order_of p) 0 vs0 xs0 vs xs ++ rest) rest (Whole (set_all (slice_set to v (st.operand vars x)) vs (st.operands vars xs)))
            (e ∙ ap (λ b. cond b (stmt.Set (0 + v) (lower.operand (order_of p) x) ∷ assigns (order_of p) 0 vs0 xs0 vs xs) (assigns (order_of p) 0 vs0 xs0 vs xs) ++ rest) is
            ∙ ap (λ a. stmt.Set a (lower.operand (order_of p) x) ∷ assigns (order_of p) 0 vs0 xs0 vs xs ++ rest) nought)
            (ap is_unset same ∙ unset_same (order_of p) (st.operand vars x) ∙ or_left _ _ set)
            (go (slice_set now v (st.operand now (lower.operand (order_of p) x))) (at + 1)
            (vars_set (order_of p) (length graph.types) (count_of graph) to now v (st.operand vars x) (st.operand now (lower.operand (order_of p) x)) s place same)
            (λ w h. set_elsewhere to v w (st.operand vars x) Unset (λ f. (let g : true ≡ false = sym is ∙ ap (is_new vs0 xs0) f ∙ h in absurd (cc))) ∙ keep w h))
        one false is go =
            let put : x ≡ Var v = stays_put v x (second (v == v) (moves v x) (or_left (is_changed v v x) (changes v vs xs) (sub v is)) (equals v v refl)) in
            let its : st.operand vars x ≡ read to v = ap (st.operand vars) put ∙ sym (keep v is) in
            go now at (idle to now v (st.operand vars x) its s) (λ w h. set_own to v w (st.operand vars x) its ∙ keep w h)
            (e ∙ ap (λ b. cond b (stmt.Set (0 + v) (lower.operand (order_of p) x) ∷ assigns (order_of p) 0 vs0 xs0 vs xs) (assigns (order_of p) 0 vs0 xs0 vs xs) ++ rest) is)

    -- ---- where values wait

    -- the values that wait stand above the inputs
    abbrev Waiting : List ℕ → List Value → List Value → Type 0
    Waiting vs final now = (w : ℕ) → w < length graph.types → is_new vs0 xs0 w ≡ true → is_in w vs ≡ false → read now (length graph.types + w) ≡ Rename (read final w)

    pub record Waits (final now : List Value) : Type 0 where
      pub c_size : length now ≡ count_of graph
      pub low : Low now
      pub above : (w : ℕ) → w < length graph.types → is_new vs0 xs0 w ≡ true → read now (length graph.types + w) ≡ Rename (read final w)

    differs_above : (a v : ℕ) → a < length graph.types → length graph.types + v ≡ a → ⊥
    differs_above a v lt e = omega (arith, lt, e)

    module _ (two : length graph.types + length graph.types ≤ count_of graph) where
      waits_run : (vs : List ℕ) (xs : List COperand) (to now : List Value) (at : ℕ) (rest : List CStmt) → any_unset (st.operands vars xs) ≡ false → all_given p graph.types graph.types vs xs ≡ true
          → length to ≡ length graph.types → length now ≡ count_of graph → Low now → Waiting vs (set_all to vs (st.operands vars xs)) now
          → drop at stmts ≡ assigns (order_of p) (length graph.types) vs0 xs0 vs xs ++ rest → Moved at now rest (Waits (set_all to vs (st.operands vars xs)))
      waits_run [] [] to now at rest set given t_size c_size low wait e = stay at now rest (Waits to) e (record { c_size = c_size; low = low; above = λ w lt is. wait w lt is refl })
      waits_run [] (x ∷ xs) to now at rest set given t_size c_size low wait e = absurd (cc)
      waits_run (v ∷ vs) [] to now at rest set given t_size c_size low wait e = absurd (cc)
      waits_run (v ∷ vs) (x ∷ xs) to now at rest set given t_size c_size low wait e =
          one (is_new vs0 xs0 v) refl
          (λ now at. waits_run vs xs (slice_set to v (st.operand vars x)) now at rest (or_right _ _ set) (and_right _ _ given) (length_set to v (st.operand vars x) ∙ t_size))
        where
          place : v < length graph.types
          place = within v (slice_get graph.types v) x refl (and_left _ _ given)

          one : (b : Bool) → is_new vs0 xs0 v ≡ b
              → ((now : List Value) (at : ℕ) → length now ≡ count_of graph → Low now → Waiting vs (set_all (slice_set to v (st.operand vars x)) vs (st.operands vars xs)) now
              → drop at stmts ≡ assigns (order_of p) (length graph.types) vs0 xs0 vs xs ++ rest → Moved at now rest (Waits (set_all (slice_set to v (st.operand vars x)) vs (st.operands vars xs))))
              → Moved at now rest (Waits (set_all (slice_set to v (st.operand vars x)) vs (st.operands vars xs)))
          one true is go =
              set_first at now (length graph.types + v) (lower.operand (order_of p) x) (assigns (order_of p) (length graph.types) vs0 xs0 vs xs ++ rest) rest
              (Waits (set_all (slice_set to v (st.operand vars x)) vs (st.operands vars xs)))
              (e ∙ ap (λ b. cond b (stmt.Set (length graph.types + v) (lower.operand (order_of p) x) ∷ assigns (order_of p) (length graph.types) vs0 xs0 vs xs) (assigns (order_of p) (length graph.types) vs0 xs0 vs xs) ++ rest) is)
              (ap is_unset same ∙ unset_same (order_of p) (st.operand vars x) ∙ or_left _ _ set)
              (go (slice_set now (length graph.types + v) (st.operand now (lower.operand (order_of p) x))) (at + 1)
              (length_set now (length graph.types + v) (st.operand now (lower.operand (order_of p) x)) ∙ c_size)
              (λ a lt. set_elsewhere now (length graph.types + v) a (st.operand now (lower.operand (order_of p) x)) Unset (differs_above a v lt) ∙ low a lt)
              (λ w lt h out. waits w lt h out (apart v w)))
            where
              same : st.operand now (lower.operand (order_of p) x) ≡ Rename (st.operand vars x)
              same = low_operand now low (slice_get graph.types v) x (and_left _ _ given)

              waits : (w : ℕ) → w < length graph.types → is_new vs0 xs0 w ≡ true → is_in w vs ≡ false → ((v ≡ w) ⊎ (v ≡ w → ⊥))
                  → read (slice_set now (length graph.types + v) (st.operand now (lower.operand (order_of p) x))) (length graph.types + w) ≡ Rename (read (set_all (slice_set to v (st.operand vars x)) vs (st.operands vars xs)) w)
              waits w lt h out (inl f) =
                  set_here now (length graph.types + v) (length graph.types + w) (st.operand now (lower.operand (order_of p) x)) Unset (ap (λ k. length graph.types + k) f) (omega (arith, place, two, c_size))
                  ∙ same ∙ ap Rename (sym (not_in (slice_set to v (st.operand vars x)) vs (st.operands vars xs) w out ∙ set_here to v w (st.operand vars x) Unset f (omega (arith, place, t_size))))
              waits w lt h out (inr other) =
                  set_elsewhere now (length graph.types + v) (length graph.types + w) (st.operand now (lower.operand (order_of p) x)) Unset (λ f. other (omega (arith, f)))
                  ∙ wait w lt h (ap (λ b. b || is_in w vs) (not_same w v (λ f. other (sym f))) ∙ out)
          one false is go =
              go now at c_size low
              (λ w lt h out. wait w lt h (ap (λ b. b || is_in w vs) (not_same w v (λ f. (let g : true ≡ false = sym h ∙ ap (is_new vs0 xs0) f ∙ is in absurd (cc)))) ∙ out))
              (e ∙ ap (λ b. cond b (stmt.Set (length graph.types + v) (lower.operand (order_of p) x) ∷ assigns (order_of p) (length graph.types) vs0 xs0 vs xs) (assigns (order_of p) (length graph.types) vs0 xs0 vs xs) ++ rest) is)

      module _ (final : List Value) (f_size : length final ≡ length graph.types) (f_set : (w : ℕ) → w < length graph.types → is_new vs0 xs0 w ≡ true → is_unset (read final w) ≡ false) where
        pub takes_run : (vs : List ℕ) (xs : List COperand) (now : List Value) (at : ℕ) (rest : List CStmt) → all_given p graph.types graph.types vs xs ≡ true → length now ≡ count_of graph
            → ((w : ℕ) → w < length graph.types → is_new vs0 xs0 w ≡ true → read now (length graph.types + w) ≡ Rename (read final w))
            → ((a : ℕ) → a < length graph.types → (is_new vs0 xs0 a ≡ false) ⊎ (is_in a vs ≡ false) → read now a ≡ Rename (read final a))
            → drop at stmts ≡ lower.takes (length graph.types) vs0 xs0 vs xs ++ rest → Moved at now rest (Whole final)
        takes_run [] [] now at rest given c_size above done e = stay at now rest (Whole final) e (record { size = f_size; c_size = c_size; room = omega (arith, two); at = λ a lt. done a lt (inr refl) })
        takes_run [] (x ∷ xs) now at rest given c_size above done e = absurd (cc)
        takes_run (v ∷ vs) [] now at rest given c_size above done e = absurd (cc)
        takes_run (v ∷ vs) (x ∷ xs) now at rest given c_size above done e = one (is_new vs0 xs0 v) refl (λ now at. takes_run vs xs now at rest (and_right _ _ given))
          where
            place : v < length graph.types
            place = within v (slice_get graph.types v) x refl (and_left _ _ given)

            one : (b : Bool) → is_new vs0 xs0 v ≡ b
                → ((now : List Value) (at : ℕ) → length now ≡ count_of graph → ((w : ℕ) → w < length graph.types → is_new vs0 xs0 w ≡ true → read now (length graph.types + w) ≡ Rename (read final w))
                → ((a : ℕ) → a < length graph.types → (is_new vs0 xs0 a ≡ false) ⊎ (is_in a vs ≡ false) → read now a ≡ Rename (read final a))
                → drop at stmts ≡ lower.takes (length graph.types) vs0 xs0 vs xs ++ rest → Moved at now rest (Whole final))
                → Moved at now rest (Whole final)
            one true is go =
                set_first at now v (Var (length graph.types + v)) (lower.takes (length graph.types) vs0 xs0 vs xs ++ rest) rest (Whole final)
                (e ∙ ap (λ b. cond b (stmt.Set v (Var (length graph.types + v)) ∷ lower.takes (length graph.types) vs0 xs0 vs xs) (lower.takes (length graph.types) vs0 xs0 vs xs) ++ rest) is)
                (ap is_unset (above v place is) ∙ unset_same (order_of p) (read final v) ∙ f_set v place is)
                (go (slice_set now v (read now (length graph.types + v))) (at + 1) (length_set now v (read now (length graph.types + v)) ∙ c_size)
                (λ w lt h. set_elsewhere now v (length graph.types + w) (read now (length graph.types + v)) Unset (λ f. differs_above v w place (sym f)) ∙ above w lt h)
                (λ a lt h. placed a lt h (apart v a)))
              where
                placed : (a : ℕ) → a < length graph.types → (is_new vs0 xs0 a ≡ false) ⊎ (is_in a vs ≡ false) → ((v ≡ a) ⊎ (v ≡ a → ⊥)) → read (slice_set now v (read now (length graph.types + v))) a ≡ Rename (read final a)
                placed a lt h (inl f) = set_here now v a (read now (length graph.types + v)) Unset f (omega (arith, place, two, c_size)) ∙ above v place is ∙ ap (λ k. Rename (read final k)) f
                placed a lt (inl h) (inr other) = set_elsewhere now v a (read now (length graph.types + v)) Unset other ∙ done a lt (inl h)
                placed a lt (inr h) (inr other) = set_elsewhere now v a (read now (length graph.types + v)) Unset other ∙ done a lt (inr (ap (λ b. b || is_in a vs) (not_same a v (λ f. other (sym f))) ∙ h))
            one false is go =
                go now at c_size above (λ a lt h. placed a lt h (apart v a))
                (e ∙ ap (λ b. cond b (stmt.Set v (Var (length graph.types + v)) ∷ lower.takes (length graph.types) vs0 xs0 vs xs) (lower.takes (length graph.types) vs0 xs0 vs xs) ++ rest) is)
              where
                placed : (a : ℕ) → a < length graph.types → (is_new vs0 xs0 a ≡ false) ⊎ (is_in a vs ≡ false) → ((v ≡ a) ⊎ (v ≡ a → ⊥)) → read now a ≡ Rename (read final a)
                placed a lt h (inl f) = done a lt (inl (ap (is_new vs0 xs0) (sym f) ∙ is))
                placed a lt (inl h) (inr other) = done a lt (inl h)
                placed a lt (inr h) (inr other) = done a lt (inr (ap (λ b. b || is_in a vs) (not_same a v (λ f. other (sym f))) ∙ h))

  -- ---- the whole link

  module _ (vars : List Value) (vs : List ℕ) (xs : List COperand) (set : any_unset (st.operands vars xs) ≡ false) (given : all_given p graph.types graph.types vs xs ≡ true)
      (s : SameVars (order_of p) (length graph.types) (count_of graph) vars base.vars) where
    abbrev Ends : List CStmt → Type 0
    Ends rest = Moved base.at base.vars rest (λ now. SameVars (order_of p) (length graph.types) (count_of graph) (set_all vars vs (st.operands vars xs)) now)

    straight : (rest : List CStmt) → crosses vs xs ≡ false → drop base.at stmts ≡ assigns (order_of p) 0 vs xs vs xs ++ rest → Ends rest
    straight rest cross e = assigns_run vars s.size vs xs vs xs vars base.vars base.at rest cross set given (λ w h. sym (new_is vs xs w) ∙ h) s (λ w h. refl) e

    changed_in : (us : List ℕ) (ys : List COperand) (w : ℕ) → changes w us ys ≡ true → is_in w us ≡ false → ⊥
    changed_in [] ys w h k = absurd (cc)
    changed_in (u ∷ us) [] w h k = absurd (cc)
    changed_in (u ∷ us) (y ∷ ys) w h k = changed_in us ys w (sym (ap (λ b. (b && moves u y) || changes w us ys) (or_left (w == u) (is_in w us) k)) ∙ h) (or_right (w == u) (is_in w us) k)

    all_set : (w : ℕ) → w < length graph.types → is_new vs xs w ≡ true → is_unset (read (set_all vars vs (st.operands vars xs)) w) ≡ false
    all_set w lt h = is_set vars vars vs xs w set (omega (arith, lt, s.size)) (inl (sym (new_is vs xs w) ∙ h))

    size_all : (to : List Value) (us : List ℕ) (values : List Value) → length (set_all to us values) ≡ length to
    size_all to [] values = refl
    size_all to (u ∷ us) [] = refl
    size_all to (u ∷ us) (x ∷ values) = size_all (slice_set to u x) us values ∙ length_set to u x

    wait_then_take : (rest : List CStmt) → length graph.types + length graph.types ≤ count_of graph
        → drop base.at stmts ≡ (assigns (order_of p) (length graph.types) vs xs vs xs ++ lower.takes (length graph.types) vs xs vs xs) ++ rest → Ends rest
    wait_then_take rest two e =
        taken (waits_run vars s.size vs xs two vs xs vars base.vars base.at (lower.takes (length graph.types) vs xs vs xs ++ rest) set given s.size s.c_size s.at
        (λ w lt h out. absurd (changed_in vs xs w (sym (new_is vs xs w) ∙ h) out)) (e ∙ sym (append_assoc (assigns (order_of p) (length graph.types) vs xs vs xs) (lower.takes (length graph.types) vs xs vs xs) rest)))
      where
        final : List Value
        final = set_all vars vs (st.operands vars xs)

        taken : Moved base.at base.vars (lower.takes (length graph.types) vs xs vs xs ++ rest) (Waits vars s.size vs xs (set_all vars vs (st.operands vars xs))) → Ends rest
        taken m =
            let n = takes_run vars s.size vs xs two (set_all vars vs (st.operands vars xs)) (size_all vars vs (st.operands vars xs) ∙ s.size) all_set vs xs m.now m.to rest given m.holds.c_size m.holds.above
            (λ a lt h. m.holds.low a lt ∙ ap Rename (sym (unchanged a h))) m.left in
            record {
              to = n.to;
              now = n.now;
              count = n.count + m.count;
              leads = then (lowered p) args (Place base.at base.vars) (Place m.to m.now) (Place n.to n.now) m.count n.count m.leads n.leads;
              left = n.left;
              holds = n.holds;
            }
          where
            unchanged : (a : ℕ) → (is_new vs xs a ≡ false) ⊎ (is_in a vs ≡ false) → read (set_all vars vs (st.operands vars xs)) a ≡ read vars a
            unchanged a (inl h) = not_changed vars vars vs xs a (sym (new_is vs xs a) ∙ h) refl
            unchanged a (inr h) = not_in vars vs (st.operands vars xs) a h

    pub moves_run : (rest : List CStmt) → (crosses vs xs ≡ true → any_crosses graph graph.blocks ≡ true) → drop base.at stmts ≡ moved (order_of p) (length graph.types) vs xs ++ rest → Ends rest
    moves_run rest room e = one (crosses vs xs) refl
      where
        one : (b : Bool) → crosses vs xs ≡ b → Ends rest
        one false h =
            straight rest h
            (e ∙ ap (λ b. cond b (assigns (order_of p) (length graph.types) vs xs vs xs ++ lower.takes (length graph.types) vs xs vs xs) (assigns (order_of p) 0 vs xs vs xs) ++ rest) h)
        one true h =
            let two : count_of graph ≡ length graph.types + length graph.types = room_to_wait graph (room h) in
            wait_then_take rest (omega (arith, two))
            (e ∙ ap (λ b. cond b (assigns (order_of p) (length graph.types) vs xs vs xs ++ lower.takes (length graph.types) vs xs vs xs) (assigns (order_of p) 0 vs xs vs xs) ++ rest) h)

  -- where the link has done its moves, its block begins
  pub goes : (at : ℕ) (vars : List Value) (to : ℕ) → drop at stmts ≡ stmt.Goto to ∷ [] → Leads (lowered p) args (Place at vars) (record base { block = to; at = 0; vars = vars }) 1
  goes at vars to e = onward (lowered p) args (Place at vars) (record base { block = to; at = 0; vars = vars })
      (stepped (lowered p) args (Place at vars) (stmt.Goto to) (standing (lowered p) args (Place at vars) (function_code (order_of p) graph) stmts [] (stmt.Goto to) here of e))

  pub record Linked (link : LlLink) (vars : List Value) (inputs : List ℕ) : Type 0 where
    pub now : List Value
    pub count : ℕ
    pub leads : Leads (lowered p) args base (record base { block = link.to; at = 0; vars = now }) (suc count)
    pub vars_same : SameVars (order_of p) (length graph.types) (count_of graph) (set_all vars inputs (st.operands vars link.args)) now

  pub link_runs : (link : LlLink) (block : LlBlock) (vars : List Value) → slice_get graph.blocks link.to ≡ Some block → link_ok p graph link ≡ true → (link_crosses graph link ≡ true → any_crosses graph graph.blocks ≡ true)
      → any_unset (st.operands vars link.args) ≡ false → SameVars (order_of p) (length graph.types) (count_of graph) vars base.vars → drop base.at stmts ≡ link_code (order_of p) graph link → Linked link vars block.inputs
  link_runs link block vars is ok room set s e =
      linked (moves_run vars block.inputs link.args set (sym (ap (λ o. enters p graph.types o link.args) is) ∙ ok) s (stmt.Goto link.to ∷ [])
      (λ h. room (ap (λ o. crosses (inputs_of o) link.args) is ∙ h))
      (e ∙ ap (λ o. moved (order_of p) (length graph.types) (inputs_of o) link.args ++ stmt.Goto link.to ∷ []) is))
    where
      linked : Moved base.at base.vars (stmt.Goto link.to ∷ []) (λ now. SameVars (order_of p) (length graph.types) (count_of graph) (set_all vars block.inputs (st.operands vars link.args)) now) → Linked link vars block.inputs
      linked m = record {
        now = m.now;
        count = m.count;
        leads = (let f : suc m.count ≡ 1 + m.count = omega arith in subst (Leads (lowered p) args base (record base { block = link.to; at = 0; vars = m.now })) (sym f)
            (then (lowered p) args base (Place m.to m.now) (record base { block = link.to; at = 0; vars = m.now }) m.count 1 m.leads (goes m.to m.now link.to m.left)));
        vars_same = m.holds;
      }
