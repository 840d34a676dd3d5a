-- What is named is counted.
use Rattle.std.proofs.Common.{◌≡◌, ℕ, zero, suc, ◌+◌, Bool, true, false, ◌||◌, ◌==◌, cond, List, [], ◌∷◌, ◌++◌, length, drop, Option, Some, None, refl, sym, ap, ◌∙◌, subst, arith}
use Rattle.std.specs.Prelude.{slice_get, slice_set}
use Rattle.csub_tree.specs.declared.tree.COperand.{COperand}
use Rattle.csub_tree.specs.declared.tree.COperand.TheVariants.{Var, Const}
use Rattle.ll_code.specs.declared.program.LlLink.{LlLink}
use Rattle.ll_code.specs.declared.program.LlOp.{LlOp}
use Rattle.ll_code.specs.declared.program.LlOp.TheVariants as op
use Rattle.ll_code.specs.declared.program.LlExit.{LlExit}
use Rattle.ll_code.specs.declared.program.LlExit.TheVariants as exit
use Rattle.ll_code.specs.declared.program.LlBlock.{LlBlock}
use Rattle.ll_code.specs.declared.program.LlGraph.{LlGraph}
use Rattle.ll_laws.proofs.Values.{is_same}
use Rattle.ll_live.specs.Live.{among, variables_of, variables_in, reads, set_by}
use Rattle.ll_joined.specs.declared.marks.Marks.{Marks}
use Rattle.ll_joined.specs.Counted.{has, is, one_more, add_one, more_at, zeros}
use Rattle.ll_joined.specs.Marked as marked
use Rattle.ll_joined.specs.Marked.{many, in_ops, in_block, in_blocks, in_exit, in_link_if, ask_all, read_all, no_marks}
use Rattle.joined_laws.specs.Fewer.{counts_in}

-- ---- counts that grow

abbrev pub Kept : List ℕ → ℕ → Type 0
Kept counts v = has 0 v counts ≡ false

pub record Grows (old new : List ℕ) : Type 0 where
  pub size : length new ≡ length old
  pub kept : (v : ℕ) → Kept old v → Kept new v

grows_same : (c : List ℕ) → Grows c c
grows_same c = record { size = refl; kept = λ v h. h }

grows_then : (a b c : List ℕ) → Grows a b → Grows b c → Grows a c
grows_then a b c h k = record { size = k.size ∙ h.size; kept = λ v g. k.kept v (h.kept v g) }

pub set_size : {A : Type 0} (xs : List A) (a : ℕ) (x : A) → length (slice_set xs a x) ≡ length xs
set_size [] a x = refl
set_size (y ∷ xs) zero x = refl
set_size (y ∷ xs) (suc a) x = ap suc (set_size xs a x)

get_here : {A : Type 0} (xs : List A) (a : ℕ) (x y : A) → slice_get xs a ≡ Some y → slice_get (slice_set xs a x) a ≡ Some x
get_here [] a x y e = absurd (cc)
get_here (z ∷ xs) zero x y e = refl
get_here (z ∷ xs) (suc a) x y e = get_here xs a x y e

get_elsewhere : {A : Type 0} (xs : List A) (a b : ℕ) (x : A) → (a ≡ b → ⊥) → slice_get (slice_set xs a x) b ≡ slice_get xs b
get_elsewhere [] a b x ne = refl
get_elsewhere (y ∷ xs) zero zero x ne = absurd (ne refl)
get_elsewhere (y ∷ xs) zero (suc b) x ne = refl
get_elsewhere (y ∷ xs) (suc a) zero x ne = refl
get_elsewhere (y ∷ xs) (suc a) (suc b) x ne = get_elsewhere xs a b x (λ e. ne (ap suc e))

more_some : (n : ℕ) → (one_more n == 0) ≡ false
more_some n = grind arith

add_size : (at : ℕ) (c : List ℕ) → length (add_one at c) ≡ length c
add_size at c = one (slice_get c at)
  where
    one : (o : Option ℕ) → length (more_at at c o) ≡ length c
    one None = refl
    one (Some n) = set_size c at (one_more n)

add_here : (at : ℕ) (c : List ℕ) → Kept (add_one at c) at
add_here at c = one (slice_get c at) refl
  where
    one : (o : Option ℕ) → slice_get c at ≡ o → Kept (more_at at c o) at
    one None e = ap (is 0) e
    one (Some n) e = ap (is 0) (get_here c at (one_more n) n e) ∙ more_some n

not_same : (w v : ℕ) → (w == v) ≡ false → w ≡ v → ⊥
not_same w v e f = grind (arith, e, f)

add_kept : (at v : ℕ) (c : List ℕ) → Kept c v → Kept (add_one at c) v
add_kept at v c h = one (at == v) refl
  where
    other : (at ≡ v → ⊥) → (o : Option ℕ) → Kept (more_at at c o) v
    other ne None = h
    other ne (Some n) = ap (is 0) (get_elsewhere c at v (one_more n) ne) ∙ h

    one : (b : Bool) → (at == v) ≡ b → Kept (add_one at c) v
    one true e = subst (Kept (add_one at c)) (is_same at v e) (add_here at c)
    one false e = other (not_same at v e) (slice_get c at)

add_grows : (at : ℕ) (c : List ℕ) → Grows c (add_one at c)
add_grows at c = record { size = add_size at c; kept = λ v h. add_kept at v c h }

-- ---- one after the other

abbrev adds : List ℕ → List ℕ → List ℕ
adds [] c = c
adds (v ∷ vs) c = adds vs (add_one v c)

adds_grows : (vs c : List ℕ) → Grows c (adds vs c)
adds_grows [] c = grows_same c
adds_grows (v ∷ vs) c = grows_then c (add_one v c) (adds vs (add_one v c)) (add_grows v c) (adds_grows vs (add_one v c))

adds_kept : (v : ℕ) (vs c : List ℕ) → among v vs ≡ true → Kept (adds vs c) v
adds_kept v [] c h = absurd (cc)
adds_kept v (w ∷ vs) c h = one (λ h. adds_kept v vs (add_one w c) h) (w == v) refl h
  where
    one : (among v vs ≡ true → Kept (adds vs (add_one w c)) v) → (b : Bool) → (w == v) ≡ b → (b || among v vs) ≡ true → Kept (adds vs (add_one w c)) v
    one go true e h = (adds_grows vs (add_one w c)).kept v (subst (Kept (add_one w c)) (is_same w v e) (add_here w c))
    one go false e h = go h

adds_both : (vs ws c : List ℕ) → adds (vs ++ ws) c ≡ adds ws (adds vs c)
adds_both [] ws c = refl
adds_both (v ∷ vs) ws c = adds_both vs ws (add_one v c)

-- ---- marks

read_adds : (x : COperand) (m : Marks) → (marked.read x m).named ≡ adds (variables_of x) m.named
read_adds (Var v) m = refl
read_adds (Const c) m = refl

two_adds : (x y : COperand) (m : Marks) → (marked.read y (marked.read x m)).named ≡ adds (variables_of x ++ variables_of y) m.named
two_adds x y m = read_adds y (marked.read x m) ∙ ap (adds (variables_of y)) (read_adds x m) ∙ sym (adds_both (variables_of x) (variables_of y) m.named)

all_adds : (xs : List COperand) (m : Marks) → (read_all xs m).named ≡ adds (variables_in xs) m.named
all_adds [] m = refl
all_adds (x ∷ xs) m = all_adds xs (marked.read x m) ∙ ap (adds (variables_in xs)) (read_adds x m) ∙ sym (adds_both (variables_of x) (variables_in xs) m.named)

ask_adds : (vs : List ℕ) (m : Marks) → (ask_all vs m).named ≡ adds vs m.named
ask_adds [] m = refl
ask_adds (v ∷ vs) m = ask_adds vs (marked.ask v m)

reads_adds : (o : LlOp) (m : Marks) → (marked.reads o m).named ≡ adds (reads o) m.named
reads_adds (op.Set a x) m = read_adds x m
reads_adds (op.Unary a o x) m = read_adds x m
reads_adds (op.Binary a o x y) m = two_adds x y m
reads_adds (op.GetField a n b k) m = refl
reads_adds (op.SetField n b k x) m = read_adds x (marked.ask b m)
reads_adds (op.GetItem a n b i) m = read_adds i (marked.ask b m)
reads_adds (op.SetItem n b i x) m = two_adds i x (marked.ask b m)
reads_adds (op.New a k n) m = refl
reads_adds (op.NewArray a k n x) m = read_adds x m
reads_adds (op.Free a) m = refl
reads_adds (op.Step x) m = read_adds x m
reads_adds (op.Call into g xs) m = all_adds xs m
reads_adds (op.CallFn into result params b xs) m = all_adds xs (marked.ask b m)
reads_adds (op.ExcType a n) m = refl
reads_adds (op.ExcValue a n) m = refl
reads_adds (op.ExcSet a b) m = refl
reads_adds op.ExcClear m = refl
reads_adds (op.Argc a) m = refl
reads_adds (op.ArgLen a x) m = read_adds x m
reads_adds (op.Arg a x y) m = two_adds x y m
reads_adds (op.Put x) m = read_adds x m
reads_adds (op.Raise a) m = refl

first_same : (v : ℕ) (m : Marks) → (marked.first v m).named ≡ m.named
first_same v m = one (has 0 v m.named)
  where
    one : (b : Bool) → (cond b (record m { first_set = add_one v m.first_set }) m).named ≡ m.named
    one true = refl
    one false = refl

set_grows : (a : Option ℕ) (m : Marks) → Grows m.named (marked.set_if a m).named
set_grows None m = grows_same m.named
set_grows (Some a) m = subst (λ c. Grows c (add_one a (marked.first a m).named)) (first_same a m) (add_grows a (marked.first a m).named)

set_kept : (a : ℕ) (m : Marks) → Kept (marked.set a m).named a
set_kept a m = add_here a (marked.first a m).named

reads_grow : (o : LlOp) (m : Marks) → Grows m.named (marked.reads o m).named
reads_grow o m = subst (Grows m.named) (sym (reads_adds o m)) (adds_grows (reads o) m.named)

reads_kept : (o : LlOp) (m : Marks) (v : ℕ) → among v (reads o) ≡ true → Kept (marked.reads o m).named v
reads_kept o m v h = subst (λ c. Kept c v) (sym (reads_adds o m)) (adds_kept v (reads o) m.named h)

-- ---- exits

abbrev pub link_names : Option LlLink → List ℕ
link_names None = []
link_names (Some link) = variables_in link.args

abbrev pub exit_names : LlExit → List ℕ
exit_names (exit.Goto link) = variables_in link.args
exit_names (exit.If a there elsewhere) = a ∷ variables_in there.args ++ variables_in elsewhere.args
exit_names (exit.OnRaise a by without) = a ∷ link_names by ++ variables_in without.args
exit_names (exit.Return None) = []
exit_names (exit.Return (Some x)) = variables_of x
exit_names (exit.Raise a) = a ∷ []
exit_names (exit.Fail n) = []
exit_names (exit.Raised a) = a ∷ []

link_adds : (link : Option LlLink) (m : Marks) → (in_link_if link m).named ≡ adds (link_names link) m.named
link_adds None m = refl
link_adds (Some link) m = all_adds link.args m

exit_adds : (e : LlExit) (m : Marks) → (in_exit e m).named ≡ adds (exit_names e) m.named
exit_adds (exit.Goto link) m = all_adds link.args m
exit_adds (exit.If a there elsewhere) m =
    all_adds elsewhere.args (read_all there.args (marked.ask a m)) ∙ ap (adds (variables_in elsewhere.args)) (all_adds there.args (marked.ask a m)) ∙ sym (adds_both (variables_in there.args) (variables_in elsewhere.args) (add_one a m.named))
exit_adds (exit.OnRaise a by without) m =
    all_adds without.args (in_link_if by (marked.ask a m)) ∙ ap (adds (variables_in without.args)) (link_adds by (marked.ask a m)) ∙ sym (adds_both (link_names by) (variables_in without.args) (add_one a m.named))
exit_adds (exit.Return None) m = refl
exit_adds (exit.Return (Some x)) m = read_adds x m
exit_adds (exit.Raise a) m = refl
exit_adds (exit.Fail n) m = refl
exit_adds (exit.Raised a) m = refl

-- ---- operations

abbrev step_marks : LlOp → Marks → Marks
step_marks o m = marked.set_if (set_by o) (marked.reads o m)

step_grows : (o : LlOp) (m : Marks) → Grows m.named (step_marks o m).named
step_grows o m = grows_then m.named (marked.reads o m).named (step_marks o m).named (reads_grow o m) (set_grows (set_by o) (marked.reads o m))

ops_grow : (ops : List LlOp) (m : Marks) → Grows m.named (in_ops ops m).named
ops_grow [] m = grows_same m.named
ops_grow (o ∷ ops) m = grows_then m.named (step_marks o m).named (in_ops ops (step_marks o m)).named (step_grows o m) (ops_grow ops (step_marks o m))

ops_read : (ops : List LlOp) (m : Marks) (place : ℕ) (o : LlOp) (rest : List LlOp) → drop place ops ≡ o ∷ rest → (v : ℕ) → among v (reads o) ≡ true → Kept (in_ops ops m).named v
ops_read [] m zero o rest e v h = absurd (cc)
ops_read [] m (suc place) o rest e v h = absurd (cc)
ops_read (p ∷ ops) m zero o rest e v h =
    let f : p ≡ o = cc in
    (ops_grow ops (step_marks p m)).kept v ((set_grows (set_by p) (marked.reads p m)).kept v (reads_kept p m v (subst (λ o. among v (reads o) ≡ true) (sym f) h)))
ops_read (p ∷ ops) m (suc place) o rest e v h = ops_read ops (step_marks p m) place o rest e v h

ops_set : (ops : List LlOp) (m : Marks) (place : ℕ) (o : LlOp) (rest : List LlOp) → drop place ops ≡ o ∷ rest → (a : ℕ) → set_by o ≡ Some a → Kept (in_ops ops m).named a
ops_set [] m zero o rest e a h = absurd (cc)
ops_set [] m (suc place) o rest e a h = absurd (cc)
ops_set (p ∷ ops) m zero o rest e a h =
    let f : p ≡ o = cc in
    (ops_grow ops (step_marks p m)).kept a (subst (λ w. Kept (marked.set_if w (marked.reads p m)).named a) (sym (ap set_by f ∙ h)) (set_kept a (marked.reads p m)))
ops_set (p ∷ ops) m (suc place) o rest e a h = ops_set ops (step_marks p m) place o rest e a h

-- ---- blocks

pub record BlockKept (counts : List ℕ) (block : LlBlock) : Type 0 where
  pub inputs : (v : ℕ) → among v block.inputs ≡ true → Kept counts v
  pub read : (place : ℕ) (o : LlOp) (rest : List LlOp) → drop place block.ops ≡ o ∷ rest → (v : ℕ) → among v (reads o) ≡ true → Kept counts v
  pub set : (place : ℕ) (o : LlOp) (rest : List LlOp) → drop place block.ops ≡ o ∷ rest → (a : ℕ) → set_by o ≡ Some a → Kept counts a
  pub exit : (v : ℕ) → among v (exit_names block.exit) ≡ true → Kept counts v

block_on : (old new : List ℕ) (block : LlBlock) → Grows old new → BlockKept old block → BlockKept new block
block_on old new block g k = record {
  inputs = λ v h. g.kept v (k.inputs v h);
  read = λ place o rest e v h. g.kept v (k.read place o rest e v h);
  set = λ place o rest e a h. g.kept a (k.set place o rest e a h);
  exit = λ v h. g.kept v (k.exit v h);
}

module _ (i : ℕ) (block : LlBlock) (m : Marks) where
  abbrev here : Marks
  here = record m { block = one_more i }

  abbrev asked : Marks
  asked = ask_all block.inputs here

  abbrev done : Marks
  done = in_ops block.ops asked

  asked_grows : Grows m.named asked.named
  asked_grows = subst (Grows m.named) (sym (ask_adds block.inputs here)) (adds_grows block.inputs m.named)

  exit_grows : Grows done.named (in_block i block m).named
  exit_grows = subst (Grows done.named) (sym (exit_adds block.exit done)) (adds_grows (exit_names block.exit) done.named)

  rest_grows : Grows asked.named (in_block i block m).named
  rest_grows = grows_then asked.named done.named (in_block i block m).named (ops_grow block.ops asked) exit_grows

  block_grows : Grows m.named (in_block i block m).named
  block_grows = grows_then m.named asked.named (in_block i block m).named asked_grows rest_grows

  block_kept : BlockKept (in_block i block m).named block
  block_kept = record {
    inputs = λ v h. rest_grows.kept v (subst (λ c. Kept c v) (sym (ask_adds block.inputs here)) (adds_kept v block.inputs m.named h));
    read = λ place o rest e v h. exit_grows.kept v (ops_read block.ops asked place o rest e v h);
    set = λ place o rest e a h. exit_grows.kept a (ops_set block.ops asked place o rest e a h);
    exit = λ v h. subst (λ c. Kept c v) (sym (exit_adds block.exit done)) (adds_kept v (exit_names block.exit) done.named h);
  }

blocks_grow : (i : ℕ) (blocks : List LlBlock) (m : Marks) → Grows m.named (in_blocks i blocks m).named
blocks_grow i [] m = grows_same m.named
blocks_grow i (block ∷ blocks) m = grows_then m.named (in_block i block m).named (in_blocks (i + 1) blocks (in_block i block m)).named (block_grows i block m) (blocks_grow (i + 1) blocks (in_block i block m))

blocks_kept : (i : ℕ) (blocks : List LlBlock) (m : Marks) (n : ℕ) (block : LlBlock) → slice_get blocks n ≡ Some block → BlockKept (in_blocks i blocks m).named block
blocks_kept i [] m n block e = absurd (cc)
blocks_kept i (b ∷ blocks) m zero block e =
    let f : b ≡ block = cc in
    subst (BlockKept (in_blocks i (b ∷ blocks) m).named) f (block_on (in_block i b m).named (in_blocks (i + 1) blocks (in_block i b m)).named b (blocks_grow (i + 1) blocks (in_block i b m)) (block_kept i b m))
blocks_kept i (b ∷ blocks) m (suc n) block e = blocks_kept (i + 1) blocks (in_block i b m) n block e

-- ---- graphs

zeros_size : (n : ℕ) → length (zeros n) ≡ n
zeros_size zero = refl
zeros_size (suc n) = ap suc (zeros_size n)

module _ (graph : LlGraph) where
  abbrev begun : Marks
  begun = ask_all graph.params (no_marks (length graph.types))

  pub counts_size : length (counts_in graph) ≡ length graph.types
  counts_size =
      (blocks_grow 0 graph.blocks begun).size ∙ ap length (ask_adds graph.params (no_marks (length graph.types))) ∙ (adds_grows graph.params (zeros (length graph.types))).size ∙ zeros_size (length graph.types)

  pub params_kept : (v : ℕ) → among v graph.params ≡ true → Kept (counts_in graph) v
  params_kept v h = (blocks_grow 0 graph.blocks begun).kept v (subst (λ c. Kept c v) (sym (ask_adds graph.params (no_marks (length graph.types)))) (adds_kept v graph.params (zeros (length graph.types)) h))

  pub all_kept : (n : ℕ) (block : LlBlock) → slice_get graph.blocks n ≡ Some block → BlockKept (counts_in graph) block
  all_kept n block e = blocks_kept 0 graph.blocks begun n block e
