-- Without the variables that nothing names, blocks read their inputs alone where they did before.
use Rattle.std.proofs.Common.{◌≡◌, ℕ, Bool, true, false, ◌||◌, ◌&&◌, not, ◌==◌, List, [], ◌∷◌, ◌++◌, map, Option, Some, None, refl, sym, ap, ◌∙◌, subst, arith, ◌⊎◌, inl, inr}
use Rattle.std.specs.Prelude.{slice_get, option_map}
use Rattle.csub_tree.specs.declared.tree.COperand.{COperand}
use Rattle.csub_tree.specs.declared.tree.COperand.TheVariants.{Var, Const}
use Rattle.ll_code.specs.declared.program.LlOp.{LlOp}
use Rattle.ll_code.specs.declared.program.LlOp.TheVariants as op
use Rattle.ll_code.specs.declared.program.LlExit.{LlExit}
use Rattle.ll_code.specs.declared.program.LlExit.TheVariants as exit
use Rattle.ll_code.specs.declared.program.LlBlock.{LlBlock}
use Rattle.ll_code.specs.declared.program.LlGraph.{LlGraph}
use Rattle.ll_code.specs.declared.program.LlProgram.{LlProgram}
use Rattle.ll_laws.proofs.Values.{is_same}
use Rattle.ll_live.specs.Live.{among, variables_of, variables_in, reads, set_by, sets, exit_variables, handler_variable, exit_reads, live}
use Rattle.ll_held.specs.Quiet.{ReadsInputs}
use Rattle.ll_joined.specs.Named.{Naming, ByPlaces, name_of, operand_by, named, exit_by}
use Rattle.ll_joined.specs.Joined.{block_by, places_of}
use Rattle.joined_laws.specs.Fewer.{counts_in, fewer_graph, fewer}
use Rattle.joined_laws.proofs.Moving.{or_first, or_second}
use Rattle.joined_laws.proofs.Steps.{get_map}

module _ (places : List ℕ) where
  abbrev N : Naming
  N = ByPlaces places

  abbrev at : ℕ → ℕ
  at v = name_of N v

  map_both : (xs ys : List ℕ) → map at (xs ++ ys) ≡ map at xs ++ map at ys
  map_both [] ys = refl
  map_both (x ∷ xs) ys = ap (λ l. at x ∷ l) (map_both xs ys)

  -- ---- what is read

  one_named : (x : COperand) → variables_of (operand_by N x) ≡ map at (variables_of x)
  one_named (Var v) = refl
  one_named (Const c) = refl

  two_named : (x y : COperand) → variables_of (operand_by N x) ++ variables_of (operand_by N y) ≡ map at (variables_of x ++ variables_of y)
  two_named x y = ap (λ l. l ++ variables_of (operand_by N y)) (one_named x) ∙ ap (λ l. map at (variables_of x) ++ l) (one_named y) ∙ sym (map_both (variables_of x) (variables_of y))

  all_named : (xs : List COperand) → variables_in (map (operand_by N) xs) ≡ map at (variables_in xs)
  all_named [] = refl
  all_named (x ∷ xs) =
      ap (λ l. l ++ variables_in (map (operand_by N) xs)) (one_named x) ∙ ap (λ l. map at (variables_of x) ++ l) (all_named xs) ∙ sym (map_both (variables_of x) (variables_in xs))

  reads_named : (o : LlOp) → reads (named N o) ≡ map at (reads o)
  reads_named (op.Set a x) = one_named x
  reads_named (op.Unary a o x) = one_named x
  reads_named (op.Binary a o x y) = two_named x y
  reads_named (op.GetField a n b k) = refl
  reads_named (op.SetField n b k x) = ap (λ l. at b ∷ l) (one_named x)
  reads_named (op.GetItem a n b i) = ap (λ l. at b ∷ l) (one_named i)
  reads_named (op.SetItem n b i x) = ap (λ l. at b ∷ l) (two_named i x)
  reads_named (op.New a m n) = refl
  reads_named (op.NewArray a m n x) = one_named x
  reads_named (op.Free a) = refl
  reads_named (op.Step x) = one_named x
  reads_named (op.Call into f xs) = all_named xs
  reads_named (op.CallFn into result params b xs) = ap (λ l. at b ∷ l) (all_named xs)
  reads_named (op.ExcType a n) = refl
  reads_named (op.ExcValue a n) = refl
  reads_named (op.ExcSet a b) = refl
  reads_named op.ExcClear = refl
  reads_named (op.Argc a) = refl
  reads_named (op.ArgLen a x) = one_named x
  reads_named (op.Arg a x y) = two_named x y
  reads_named (op.Put x) = one_named x
  reads_named (op.Raise a) = refl

  set_named : (o : LlOp) → set_by (named N o) ≡ option_map at (set_by o)
  set_named (op.Call into f xs) = refl
  set_named (op.CallFn into result params b xs) = refl
  set_named other = refl

  exit_named : (e : LlExit) → exit_variables (exit_by N [] e) ≡ map at (exit_variables e)
  exit_named (exit.Goto link) = all_named link.args
  exit_named (exit.If a there elsewhere) =
      ap (λ l. at a ∷ l ++ variables_in (map (operand_by N) elsewhere.args)) (all_named there.args) ∙ ap (λ l. at a ∷ map at (variables_in there.args) ++ l) (all_named elsewhere.args) ∙ sym (ap (λ l. at a ∷ l) (map_both (variables_in there.args) (variables_in elsewhere.args)))
  exit_named (exit.OnRaise a by without) = all_named without.args
  exit_named (exit.Return None) = refl
  exit_named (exit.Return (Some x)) = one_named x
  exit_named (exit.Raise a) = refl
  exit_named (exit.Fail n) = refl
  exit_named (exit.Raised a) = refl

  -- ---- where a name comes from

  record From (good : ℕ → Bool) (w : ℕ) : Type 0 where
    v : ℕ
    holds : good v ≡ true
    is : at v ≡ w

  either_of : (a b : Bool) → (a || b) ≡ true → (a ≡ true) ⊎ (b ≡ true)
  either_of true b h = inl refl
  either_of false b h = inr h

  both_left : (a b : Bool) → (a && b) ≡ true → a ≡ true
  both_left true b h = refl
  both_left false b h = absurd (cc)

  both_right : (a b : Bool) → (a && b) ≡ true → b ≡ true
  both_right true b h = h
  both_right false b h = absurd (cc)

  both : (a b : Bool) → a ≡ true → b ≡ true → (a && b) ≡ true
  both true b e f = f
  both false b e f = absurd (cc)

  equals : (m n : ℕ) → m ≡ n → (m == n) ≡ true
  equals m n e = grind (arith, e)

  among_from : (vs : List ℕ) (w : ℕ) → among w (map at vs) ≡ true → From (λ v. among v vs) w
  among_from [] w h = absurd (cc)
  among_from (x ∷ vs) w h = one (either_of (at x == w) (among w (map at vs)) h) (λ k. among_from vs w k)
    where
      one : (at x == w) ≡ true ⊎ among w (map at vs) ≡ true → (among w (map at vs) ≡ true → From (λ v. among v vs) w) → From (λ v. among v (x ∷ vs)) w
      one (inl e) go = record { v = x; holds = or_first (x == x) (among x vs) (equals x x refl); is = is_same (at x) w e }
      one (inr e) go = let k = go e in record { v = k.v; holds = or_second (x == k.v) (among k.v vs) k.holds; is = k.is }

  among_to : (vs : List ℕ) (v : ℕ) → among v vs ≡ true → among (at v) (map at vs) ≡ true
  among_to [] v h = absurd (cc)
  among_to (x ∷ vs) v h = one (either_of (x == v) (among v vs) h) (λ k. among_to vs v k)
    where
      one : (x == v) ≡ true ⊎ among v vs ≡ true → (among v vs ≡ true → among (at v) (map at vs) ≡ true) → (at x == at v || among (at v) (map at vs)) ≡ true
      one (inl e) go = or_first (at x == at v) (among (at v) (map at vs)) (equals (at x) (at v) (ap at (is_same x v e)))
      one (inr e) go = or_second (at x == at v) (among (at v) (map at vs)) (go e)

  -- what is not named so is another one
  other : (a v w : ℕ) → at v ≡ w → not (at a == w) ≡ true → not (a == v) ≡ true
  other a v w e h = one (a == v) refl
    where
      one : (b : Bool) → (a == v) ≡ b → not b ≡ true
      one true f = absurd (let g : at a ≡ w = ap at (is_same a v f) ∙ e in let k : (at a == w) ≡ true = equals (at a) w g in let l : false ≡ true = sym (ap not k) ∙ h in cc)
      one false f = refl

  handler_from : (e : LlExit) (w : ℕ) → handler_variable (exit_by N [] e) w ≡ true → From (handler_variable e) w
  handler_from (exit.OnRaise a (Some by) without) w h =
      let k = among_from (variables_in by.args) w (subst (λ l. among w l ≡ true) (all_named by.args) (both_right (not (at a == w)) _ h)) in
      record { v = k.v; holds = both (not (a == k.v)) (among k.v (variables_in by.args)) (other a k.v w k.is (both_left (not (at a == w)) _ h)) k.holds; is = k.is }
  handler_from (exit.OnRaise a None without) w h = absurd (cc)
  handler_from (exit.Goto link) w h = absurd (cc)
  handler_from (exit.If a one two) w h = absurd (cc)
  handler_from (exit.Return x) w h = absurd (cc)
  handler_from (exit.Raise a) w h = absurd (cc)
  handler_from (exit.Fail n) w h = absurd (cc)
  handler_from (exit.Raised a) w h = absurd (cc)

  exit_from : (e : LlExit) (w : ℕ) → exit_reads (exit_by N [] e) w ≡ true → From (exit_reads e) w
  exit_from e w h = one (either_of (among w (exit_variables (exit_by N [] e))) (handler_variable (exit_by N [] e) w) h)
    where
      one : among w (exit_variables (exit_by N [] e)) ≡ true ⊎ handler_variable (exit_by N [] e) w ≡ true → From (exit_reads e) w
      one (inl k) = let f = among_from (exit_variables e) w (subst (λ l. among w l ≡ true) (exit_named e) k) in record { v = f.v; holds = or_first (among f.v (exit_variables e)) (handler_variable e f.v) f.holds; is = f.is }
      one (inr k) = let f = handler_from e w k in record { v = f.v; holds = or_second (among f.v (exit_variables e)) (handler_variable e f.v) f.holds; is = f.is }

  not_set : (o : Option ℕ) (v w : ℕ) → at v ≡ w → not (sets (option_map at o) w) ≡ true → not (sets o v) ≡ true
  not_set None v w e h = refl
  not_set (Some a) v w e h = other a v w e h

  live_from : (ops : List LlOp) (e : LlExit) (w : ℕ) → live (map (named N) ops) (exit_by N [] e) w ≡ true → From (live ops e) w
  live_from [] e w h = exit_from e w h
  live_from (o ∷ ops) e w h = one (either_of (among w (reads (named N o))) (not (sets (set_by (named N o)) w) && live (map (named N) ops) (exit_by N [] e) w) h) (λ k. live_from ops e w k)
    where
      one : among w (reads (named N o)) ≡ true ⊎ (not (sets (set_by (named N o)) w) && live (map (named N) ops) (exit_by N [] e) w) ≡ true → (live (map (named N) ops) (exit_by N [] e) w ≡ true → From (live ops e) w) → From (live (o ∷ ops) e) w
      one (inl k) go =
          let f = among_from (reads o) w (subst (λ l. among w l ≡ true) (reads_named o) k) in
          record { v = f.v; holds = or_first (among f.v (reads o)) (not (sets (set_by o) f.v) && live ops e f.v) f.holds; is = f.is }
      one (inr k) go =
          let f = go (both_right (not (sets (set_by (named N o)) w)) _ k) in
          let s = not_set (set_by o) f.v w f.is (subst (λ a. not (sets a w) ≡ true) (set_named o) (both_left (not (sets (set_by (named N o)) w)) _ k)) in
          record { v = f.v; holds = or_second (among f.v (reads o)) (not (sets (set_by o) f.v) && live ops e f.v) (both (not (sets (set_by o) f.v)) (live ops e f.v) s f.holds); is = f.is }

  -- a block that reads its inputs alone does so with other names
  block_closed : (block : LlBlock) → ((v : ℕ) → live block.ops block.exit v ≡ true → among v block.inputs ≡ true) → (w : ℕ) → live (block_by N [] block).ops (block_by N [] block).exit w ≡ true → among w (block_by N [] block).inputs ≡ true
  block_closed block h w k = let f = live_from block.ops block.exit w k in subst (λ w. among w (map at block.inputs) ≡ true) f.is (among_to block.inputs f.v (h f.v f.holds))

pub fewer_closed : (p : LlProgram) → ReadsInputs p → ReadsInputs (fewer p)
fewer_closed p closed f graph e n block k w h = one (slice_get p.graphs f) refl (sym (get_map fewer_graph p.graphs f) ∙ e)
  where
    inside : (g : LlGraph) → slice_get p.graphs f ≡ Some g → fewer_graph g ≡ graph → (o : Option LlBlock) → slice_get g.blocks n ≡ o → option_map (block_by (ByPlaces (places_of (counts_in g))) []) o ≡ Some block → among w block.inputs ≡ true
    inside g of is None at m = absurd (cc)
    inside g of is (Some b) at m =
        let same : block_by (ByPlaces (places_of (counts_in g))) [] b ≡ block = cc in
        subst (λ b. among w b.inputs ≡ true) same (block_closed (places_of (counts_in g)) b (λ v l. closed f g of n b at v l) w (subst (λ b. live b.ops b.exit w ≡ true) (sym same) h))

    one : (o : Option LlGraph) → slice_get p.graphs f ≡ o → option_map fewer_graph o ≡ Some graph → among w block.inputs ≡ true
    one None of is = absurd (cc)
    one (Some g) of is =
        let same : fewer_graph g ≡ graph = cc in
        inside g of same (slice_get g.blocks n) refl (sym (get_map (block_by (ByPlaces (places_of (counts_in g))) []) g.blocks n) ∙ ap (λ g. slice_get g.blocks n) same ∙ k)
