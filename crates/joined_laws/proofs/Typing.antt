-- Without the variables that nothing names a program keeps its rules.
use Rattle.std.proofs.Common.{◌≡◌, ◌<◌, ◌≤◌, ◌^◌, ℕ, zero, suc, ◌+◌, Bool, true, false, ◌&&◌, ◌==◌, cond, List, [], ◌∷◌, ◌++◌, length, map, drop, Option, Some, None, refl, sym, ap, ◌∙◌, arith}
use Rattle.std.specs.Prelude.{slice_get, option_map, nat_lt, is_none, is_some}
use Rattle.csub_tree.specs.Checked.{is_name}
use Rattle.csub_tree.specs.declared.tree.CBinary.{CBinary}
use Rattle.csub_tree.specs.declared.tree.CBinary.TheVariants as two
use Rattle.csub_tree.specs.declared.tree.CConst.{CConst}
use Rattle.csub_tree.specs.declared.tree.COperand.{COperand}
use Rattle.csub_tree.specs.declared.tree.COperand.TheVariants.{Var, Const}
use Rattle.ll_code.specs.Typed.{IsWellTyped, is_kind, are_kinds, has_type, has_given, takes, given_takes, all_taken, all_given, points, pointer_type, pointed, same_pointers, both_taken, unary_takes, unary_gives, binary_gives, field_of, items_of, begins, result_ok, call_ok, operation_ok, operations_ok, enters, link_ok, exit_ok, names_chars, blocks_ok, params_ok, is_type_given, graph_ok, graphs_ok, takes_nothing, begins_run, is_of_any, is_raw, is_counted, are_types, structs_ok}
use Rattle.ll_code.specs.declared.program.LlStruct.{LlStruct}
use Rattle.ll_code.specs.declared.program.LlType.{LlType}
use Rattle.ll_code.specs.declared.program.LlType.TheVariants as type
use Rattle.ll_code.specs.declared.program.LlLink.{LlLink}
use Rattle.ll_code.specs.declared.program.LlOp.{LlOp}
use Rattle.ll_code.specs.declared.program.LlOp.TheVariants as op
use Rattle.ll_code.specs.declared.program.LlExit.{LlExit}
use Rattle.ll_code.specs.declared.program.LlExit.TheVariants as exit
use Rattle.ll_code.specs.declared.program.LlBlock.{LlBlock}
use Rattle.ll_code.specs.declared.program.LlGraph.{LlGraph}
use Rattle.ll_code.specs.declared.program.LlProgram.{LlProgram}
use Rattle.ll_laws.proofs.Values.{and_left, and_right, is_same}
use Rattle.ll_live.specs.Live.{among, variables_of, variables_in, reads, set_by}
use Rattle.joined_laws.proofs.Statics.{constant_same, statics_same}
use Rattle.ll_joined.specs.Named.{name_of, operand_by, named, link_by, exit_by}
use Rattle.ll_joined.specs.Joined.{block_by}
use Rattle.joined_laws.specs.Fewer.{counts_in, fewer_graph, fewer, HasNumbers}
use Rattle.joined_laws.proofs.Kept.{keep, rank, place, place_within, get_kept, types_kept, First}
use Rattle.joined_laws.proofs.Counting.{Kept, BlockKept, counts_size, params_kept, all_kept, exit_names}
use Rattle.joined_laws.proofs.Moving.{AllKept, names_in, left, right, first, rest}
use Rattle.joined_laws.proofs.Steps.{get_map}
use Rattle.joined_laws.proofs.Runs.{params_first}

and_same : (a a2 b b2 : Bool) → a2 ≡ a → b2 ≡ b → (a2 && b2) ≡ (a && b)
and_same a a2 b b2 e f = ap (λ x. x && b2) e ∙ ap (λ x. a && x) f

and_both : (a b : Bool) → a ≡ true → b ≡ true → (a && b) ≡ true
and_both true b e f = f
and_both false b e f = absurd (cc)

length_map : {A B : Type 0} (f : A → B) (xs : List A) → length (map f xs) ≡ length xs
length_map f [] = refl
length_map f (x ∷ xs) = ap suc (length_map f xs)

-- the variables of a graph have their types
record Names (graph : LlGraph) : Type 0 where
  few : length (counts_in graph) < 2 ^ 64

type_same : (graph : LlGraph) → Names graph → (v : ℕ) → Kept (counts_in graph) v → slice_get (fewer_graph graph).types (place (counts_in graph) v) ≡ slice_get graph.types v
type_same graph n v h =
    let e : length (counts_in graph) ≡ length graph.types = counts_size graph in
    ap (λ ts. slice_get ts (place (counts_in graph) v)) (types_kept (counts_in graph) graph.types (sym e)) ∙ get_kept (counts_in graph) n.few graph.types v (omega (arith, e)) h

module _ (p : LlProgram) (has : HasNumbers p) where
  abbrev q : LlProgram
  q = fewer p

  many : length q.graphs ≡ length p.graphs
  many = length_map fewer_graph p.graphs

  of_same : (t : LlType) (c : CConst) → is_of_any q t c ≡ is_of_any p t c
  of_same t c = constant_same p q.graphs many (length p.statics) t c

  names_at : (f : ℕ) (graph : LlGraph) → slice_get p.graphs f ≡ Some graph → Names graph
  names_at f graph e = record { few = let k : length (counts_in graph) ≡ length graph.types = counts_size graph in let l : length graph.types < 2 ^ 64 = has f graph e in omega (arith, k, l) }

  module _ (graph : LlGraph) (n : Names graph) where
    abbrev ns : List ℕ
    ns = counts_in graph

    abbrev types : List LlType
    types = graph.types

    abbrev types2 : List LlType
    types2 = (fewer_graph graph).types

    same : (v : ℕ) → Kept ns v → slice_get types2 (place ns v) ≡ slice_get types v
    same v h = type_same graph n v h

    takes_same : (t : LlType) (x : COperand) → AllKept ns (variables_of x) → takes q types2 t (operand_by (names_in ns) x) ≡ takes p types t x
    takes_same t (Var v) h = ap (has_type t) (same v (first ns n.few v [] h))
    takes_same t (Const c) h = of_same t c

    given_same : (o : Option LlType) (x : COperand) → AllKept ns (variables_of x) → given_takes q types2 o (operand_by (names_in ns) x) ≡ given_takes p types o x
    given_same None x h = refl
    given_same (Some t) x h = takes_same t x h

    all_taken_same : (ts : List LlType) (xs : List COperand) → AllKept ns (variables_in xs) → all_taken q types2 ts (map (operand_by (names_in ns)) xs) ≡ all_taken p types ts xs
    all_taken_same [] [] h = refl
    all_taken_same [] (x ∷ xs) h = refl
    all_taken_same (t ∷ ts) [] h = refl
    all_taken_same (t ∷ ts) (x ∷ xs) h = and_same _ _ _ _ (takes_same t x (left ns n.few (variables_of x) (variables_in xs) h)) (all_taken_same ts xs (right ns n.few (variables_of x) (variables_in xs) h))

    -- what is given to the variables of another graph, or of this one
    all_given_same : (other : LlGraph) → Names other → (vs : List ℕ) → AllKept (counts_in other) vs → (xs : List COperand) → AllKept ns (variables_in xs)
        → all_given q types2 (fewer_graph other).types (map (name_of (names_in (counts_in other))) vs) (map (operand_by (names_in ns)) xs) ≡ all_given p types other.types vs xs
    all_given_same other m [] k [] h = refl
    all_given_same other m [] k (x ∷ xs) h = refl
    all_given_same other m (v ∷ vs) k [] h = refl
    all_given_same other m (v ∷ vs) k (x ∷ xs) h =
        and_same _ _ _ _
        (ap (λ o. given_takes q types2 o (operand_by (names_in ns) x)) (type_same other m v (first (counts_in other) m.few v vs k)) ∙ given_same (slice_get other.types v) x (left ns n.few (variables_of x) (variables_in xs) h))
        (all_given_same other m vs (rest (counts_in other) m.few v vs k) xs (right ns n.few (variables_of x) (variables_in xs) h))

    pointed_same : (x : COperand) → AllKept ns (variables_of x) → pointed q types2 (operand_by (names_in ns) x) ≡ pointed p types x
    pointed_same (Var v) h = ap pointer_type (same v (first ns n.few v [] h))
    pointed_same (Const c) h = refl

    two_same : (t : LlType) (x y : COperand) → AllKept ns (variables_of x ++ variables_of y) → (takes q types2 t (operand_by (names_in ns) x) && takes q types2 t (operand_by (names_in ns) y)) ≡ (takes p types t x && takes p types t y)
    two_same t x y h = and_same _ _ _ _ (takes_same t x (left ns n.few (variables_of x) (variables_of y) h)) (takes_same t y (right ns n.few (variables_of x) (variables_of y) h))

    both_same : (o : CBinary) (x y : COperand) → AllKept ns (variables_of x ++ variables_of y) → both_taken q types2 o (operand_by (names_in ns) x) (operand_by (names_in ns) y) ≡ both_taken p types o x y
    both_same two.Beq x y h = two_same type.Bool x y h
    both_same two.Peq x y h =
        ap (λ a. same_pointers a (pointed q types2 (operand_by (names_in ns) y))) (pointed_same x (left ns n.few (variables_of x) (variables_of y) h)) ∙ ap (same_pointers (pointed p types x)) (pointed_same y (right ns n.few (variables_of x) (variables_of y) h))
    both_same two.Feq x y h = two_same type.Fn x y h
    both_same other x y h = two_same type.Signed x y h

    result_same : (into : Option ℕ) (t : LlType) → ((a : ℕ) → into ≡ Some a → Kept ns a) → result_ok types2 (option_map (name_of (names_in ns)) into) t ≡ result_ok types into t
    result_same None t k = refl
    result_same (Some a) t k = ap (has_type t) (same a (k a refl))

    call_same : (into : Option ℕ) (f : ℕ) (xs : List COperand) → AllKept ns (variables_in xs) → ((a : ℕ) → into ≡ Some a → Kept ns a)
        → call_ok q types2 (option_map (name_of (names_in ns)) into) (slice_get q.graphs f) (map (operand_by (names_in ns)) xs) ≡ call_ok p types into (slice_get p.graphs f) xs
    call_same into f xs h k = ap (λ o. call_ok q types2 (option_map (name_of (names_in ns)) into) o (map (operand_by (names_in ns)) xs)) (get_map fewer_graph p.graphs f) ∙ one (slice_get p.graphs f) refl
      where
        one : (o : Option LlGraph) → slice_get p.graphs f ≡ o → call_ok q types2 (option_map (name_of (names_in ns)) into) (option_map fewer_graph o) (map (operand_by (names_in ns)) xs) ≡ call_ok p types into o xs
        one None e = refl
        one (Some g) e = and_same _ _ _ _ (result_same into g.result k) (all_given_same g (names_at f g e) g.params (λ v m. params_kept g v m) xs h)

    points_same : (b : ℕ) (vs : List ℕ) → AllKept ns (b ∷ vs) → points (slice_get types2 (place ns b)) ≡ points (slice_get types b)
    points_same b vs h = ap points (same b (first ns n.few b vs h))

    given_at : (a : ℕ) → Kept ns a → (o : Option LlType) → has_given types2 (place ns a) o ≡ has_given types a o
    given_at a k None = refl
    given_at a k (Some t) = ap (has_type t) (same a k)

    operation_same : (o : LlOp) → AllKept ns (reads o) → ((a : ℕ) → set_by o ≡ Some a → Kept ns a) → operation_ok q types2 (named (names_in ns) o) ≡ operation_ok p types o
    operation_same (op.Set a x) h k = ap (λ t. given_takes q types2 t (operand_by (names_in ns) x)) (same a (k a refl)) ∙ given_same (slice_get types a) x h
    operation_same (op.Unary a o x) h k = and_same _ _ _ _ (ap (has_type (unary_gives o)) (same a (k a refl))) (takes_same (unary_takes o) x h)
    operation_same (op.Binary a o x y) h k = and_same _ _ _ _ (ap (has_type (binary_gives o)) (same a (k a refl))) (both_same o x y h)
    operation_same (op.GetField a s b f) h k = and_same _ _ _ _ (points_same b [] h) (given_at a (k a refl) (field_of (slice_get p.structs s) f))
    operation_same (op.SetField s b f x) h k = and_same _ _ _ _ (points_same b (variables_of x) h) (given_same (field_of (slice_get p.structs s) f) x (rest ns n.few b (variables_of x) h))
    operation_same (op.GetItem a s b i) h k = and_same _ _ _ _ (and_same _ _ _ _ (points_same b (variables_of i) h) (takes_same type.Signed i (rest ns n.few b (variables_of i) h))) (given_at a (k a refl) (items_of (slice_get p.structs s)))
    operation_same (op.SetItem s b i x) h k =
        let t = rest ns n.few b (variables_of i ++ variables_of x) h in
        and_same _ _ _ _ (and_same _ _ _ _ (points_same b (variables_of i ++ variables_of x) h) (takes_same type.Signed i (left ns n.few (variables_of i) (variables_of x) t)))
        (given_same (items_of (slice_get p.structs s)) x (right ns n.few (variables_of i) (variables_of x) t))
    operation_same (op.New a m s) h k = ap (λ o. has_type (type.Ptr m) o && begins p.structs s m && is_none (items_of (slice_get p.structs s))) (same a (k a refl))
    operation_same (op.NewArray a m s x) h k =
        and_same _ _ _ _ (ap (λ o. has_type (type.Ptr m) o && begins p.structs s m && is_some (items_of (slice_get p.structs s))) (same a (k a refl))) (takes_same type.Signed x h)
    operation_same (op.Free a) h k = ap (λ b. is_counted p.stage && b) (points_same a [] h)
    operation_same (op.Step x) h k = takes_same type.Signed x h
    operation_same (op.Call into f xs) h k = call_same into f xs h k
    operation_same (op.CallFn into given params b xs) h k =
        and_same _ _ _ _ (and_same _ _ _ _ (ap (λ o. has_type type.Fn o && is_kind p.structs given && are_types p.structs params) (same b (first ns n.few b (variables_in xs) h))) (result_same into given k)) (all_taken_same params xs (rest ns n.few b (variables_in xs) h))
    operation_same (op.ExcType a s) h k = ap (λ o. nat_lt s (length p.structs) && has_type (type.Ptr s) o) (same a (k a refl))
    operation_same (op.ExcValue a s) h k = ap (λ o. nat_lt s (length p.structs) && has_type (type.Ptr s) o) (same a (k a refl))
    operation_same (op.ExcSet a b) h k = and_same _ _ _ _ (points_same a (b ∷ []) h) (points_same b [] (rest ns n.few a (b ∷ []) h))
    operation_same op.ExcClear h k = refl
    operation_same (op.Argc a) h k = ap (has_type type.Signed) (same a (k a refl))
    operation_same (op.ArgLen a x) h k = and_same _ _ _ _ (ap (has_type type.Signed) (same a (k a refl))) (takes_same type.Signed x h)
    operation_same (op.Arg a x y) h k =
        and_same _ _ _ _ (and_same _ _ _ _ (ap (has_type type.Signed) (same a (k a refl))) (takes_same type.Signed x (left ns n.few (variables_of x) (variables_of y) h))) (takes_same type.Signed y (right ns n.few (variables_of x) (variables_of y) h))
    operation_same (op.Put x) h k = takes_same type.Signed x h
    operation_same (op.Raise a) h k = ap (λ b. is_raw p.stage && b) (points_same a [] h)

    record OpsKept (ops : List LlOp) : Type 0 where
      read : (at : ℕ) (o : LlOp) (more : List LlOp) → drop at ops ≡ o ∷ more → (v : ℕ) → among v (reads o) ≡ true → Kept ns v
      set : (at : ℕ) (o : LlOp) (more : List LlOp) → drop at ops ≡ o ∷ more → (a : ℕ) → set_by o ≡ Some a → Kept ns a

    operations_same : (ops : List LlOp) → OpsKept ops → operations_ok q types2 (map (named (names_in ns)) ops) ≡ operations_ok p types ops
    operations_same [] k = refl
    operations_same (o ∷ ops) k =
        and_same _ _ _ _ (operation_same o (λ v h. k.read 0 o ops refl v h) (λ a h. k.set 0 o ops refl a h))
        (operations_same ops (record { read = λ at o more e v h. k.read (suc at) o more e v h; set = λ at o more e a h. k.set (suc at) o more e a h }))

    -- ---- links and exits

    link_same : (link : LlLink) → AllKept ns (variables_in link.args) → link_ok q (fewer_graph graph) (link_by (names_in ns) [] link) ≡ link_ok p graph link
    link_same link h = ap (λ o. enters q types2 o (map (operand_by (names_in ns)) link.args)) (get_map (block_by (names_in ns) []) graph.blocks link.to) ∙ one (slice_get graph.blocks link.to) refl
      where
        one : (o : Option LlBlock) → slice_get graph.blocks link.to ≡ o → enters q types2 (option_map (block_by (names_in ns) []) o) (map (operand_by (names_in ns)) link.args) ≡ enters p types o link.args
        one None e = refl
        one (Some b) e = all_given_same graph n b.inputs (λ v m. (all_kept graph link.to b e).inputs v m) link.args h

    exit_same : (e : LlExit) → AllKept ns (exit_names e) → exit_ok q (fewer_graph graph) (exit_by (names_in ns) [] e) ≡ exit_ok p graph e
    exit_same (exit.Goto link) h = link_same link h
    exit_same (exit.If a one two) h =
        let t = rest ns n.few a (variables_in one.args ++ variables_in two.args) h in
        and_same _ _ _ _ (and_same _ _ _ _ (ap (has_type type.Bool) (same a (first ns n.few a (variables_in one.args ++ variables_in two.args) h))) (link_same one (left ns n.few (variables_in one.args) (variables_in two.args) t)))
        (link_same two (right ns n.few (variables_in one.args) (variables_in two.args) t))
    exit_same (exit.OnRaise a None without) h =
        and_same _ _ _ _ (ap (λ b. is_raw p.stage && b && true) (points_same a (variables_in without.args) h)) (link_same without (rest ns n.few a (variables_in without.args) h))
    exit_same (exit.OnRaise a (Some by) without) h =
        let t = rest ns n.few a (variables_in by.args ++ variables_in without.args) h in
        and_same _ _ _ _ (and_same _ _ _ _ (ap (λ b. is_raw p.stage && b) (points_same a (variables_in by.args ++ variables_in without.args) h)) (link_same by (left ns n.few (variables_in by.args) (variables_in without.args) t)))
        (link_same without (right ns n.few (variables_in by.args) (variables_in without.args) t))
    exit_same (exit.Return None) h = refl
    exit_same (exit.Return (Some x)) h = takes_same graph.result x h
    exit_same (exit.Raise a) h = ap (λ b. is_raw p.stage && b) (points_same a [] h)
    exit_same (exit.Fail k) h = refl
    exit_same (exit.Raised a) h = ap (names_chars p.structs) (same a (first ns n.few a [] h))

    blocks_same : (blocks : List LlBlock) → ((i : ℕ) (b : LlBlock) → slice_get blocks i ≡ Some b → BlockKept ns b) → blocks_ok q (fewer_graph graph) (map (block_by (names_in ns) []) blocks) ≡ blocks_ok p graph blocks
    blocks_same [] k = refl
    blocks_same (b ∷ blocks) k =
        let m = k 0 b refl in
        and_same _ _ _ _ (and_same _ _ _ _ (operations_same b.ops (record { read = λ at o more e v h. m.read at o more e v h; set = λ at o more e a h. m.set at o more e a h })) (exit_same b.exit (λ v h. m.exit v h)))
        (blocks_same blocks (λ i b e. k (suc i) b e))

  -- ---- graphs

  kinds_kept : (structs : List LlStruct) (counts : List ℕ) (kinds : List LlType) → are_kinds structs kinds ≡ true → are_kinds structs (keep counts kinds) ≡ true
  kinds_kept structs [] kinds h = refl
  kinds_kept structs (n ∷ counts) [] h = refl
  kinds_kept structs (n ∷ counts) (t ∷ kinds) h = one (n == 0) (kinds_kept structs counts kinds (and_right (is_kind structs t) _ h))
    where
      one : (b : Bool) → are_kinds structs (keep counts kinds) ≡ true → are_kinds structs (cond b (keep counts kinds) (t ∷ keep counts kinds)) ≡ true
      one true e = e
      one false e = and_both (is_kind structs t) _ (and_left _ _ h) e

  rank_first : (n : ℕ) (ns : List ℕ) (v : ℕ) → First n ns → v < n → rank ns v ≡ v
  rank_first zero ns v h lt = absurd (omega (arith, lt))
  rank_first (suc n) [] v h lt = absurd (let s : suc n ≤ 0 = h.size in omega (arith, s))
  rank_first (suc n) (m ∷ ns) zero h lt = refl
  rank_first (suc n) (m ∷ ns) (suc v) h lt =
      let k : (m == 0) ≡ false = h.all 0 (omega arith) in
      ap (λ b. cond b (rank ns v) (suc (rank ns v))) k ∙ ap suc (rank_first n ns v (record { all = λ v lt. h.all (suc v) (omega (arith, lt)); size = let s : suc n ≤ suc (length ns) = h.size in omega (arith, s) }) (omega (arith, lt)))

  place_first : (graph : LlGraph) (n : Names graph) (k v : ℕ) → First k (counts_in graph) → v < k → place (counts_in graph) v ≡ v
  place_first graph n k v h lt = place_within (counts_in graph) v (let s : k ≤ length (counts_in graph) = h.size in omega (arith, lt, s)) n.few ∙ rank_first k (counts_in graph) v h lt

  params_same : (graph : LlGraph) (n : Names graph) (count : ℕ) → First count (counts_in graph) → (k : ℕ) (vs : List ℕ) → k + length vs ≤ count → params_ok p graph.types k vs ≡ true → params_ok q (fewer_graph graph).types k (map (name_of (names_in (counts_in graph))) vs) ≡ true
  params_same graph n count h k [] le e = refl
  params_same graph n count h k (v ∷ vs) le e =
      let is : v ≡ k = is_same v k (and_left _ _ (and_left _ _ e)) in
      let at : place (counts_in graph) v ≡ v = place_first graph n count v h (omega (arith, is, le)) in
      and_both _ _ (and_both _ _ (ap (λ w. w == k) at ∙ and_left _ _ (and_left _ _ e))
      (ap (is_type_given p.structs) (type_same graph n v (h.all v (omega (arith, is, le)))) ∙ and_right (v == k) _ (and_left _ _ e)))
      (params_same graph n count h (k + 1) vs (omega (arith, le)) (and_right _ _ e))

  module _ (ok : IsWellTyped p) (args : List (List ℕ)) where
    graph_kept : (f : ℕ) (graph : LlGraph) → slice_get p.graphs f ≡ Some graph → graph_ok p graph ≡ true → graph_ok q (fewer_graph graph) ≡ true
    graph_kept f graph of h =
        let n = names_at f graph of in
        let size : length (counts_in graph) ≡ length graph.types = counts_size graph in
        let h5 = and_left _ _ h in
        let h4 = and_left _ _ h5 in
        let h3 = and_left _ _ h4 in
        let h2 = and_left _ _ h3 in
        and_both _ _ (and_both _ _ (and_both _ _ (and_both _ _ (and_both _ _ (and_left _ _ h2)
        (ap (are_kinds p.structs) (types_kept (counts_in graph) graph.types (sym size)) ∙ kinds_kept p.structs (counts_in graph) graph.types (and_right (is_name graph.name) _ h2)))
        (and_right _ _ h3))
        (params_same graph n (length graph.params) (params_first p ok has args f graph of) 0 graph.params (omega arith) (and_right _ _ h4)))
        (ap (nat_lt 0) (length_map (block_by (names_in (counts_in graph)) []) graph.blocks) ∙ and_right _ _ h5))
        (blocks_same graph n graph.blocks (λ i b e. all_kept graph i b e) ∙ and_right _ _ h)

    graphs_kept : (start : ℕ) (graphs : List LlGraph) → ((i : ℕ) (g : LlGraph) → slice_get graphs i ≡ Some g → slice_get p.graphs (start + i) ≡ Some g) → graphs_ok p graphs ≡ true → graphs_ok q (map fewer_graph graphs) ≡ true
    graphs_kept start [] k h = refl
    graphs_kept start (g ∷ graphs) k h =
        and_both _ _ (graph_kept (start + 0) g (k 0 g refl) (and_left _ _ h))
        (graphs_kept (start + 1) graphs (λ i x e. let s : start + 1 + i ≡ start + suc i = omega arith in ap (slice_get p.graphs) s ∙ k (suc i) x e) (and_right (graph_ok p g) _ h))

    begins_kept : (o : Option LlGraph) → begins_run o ≡ true → begins_run (option_map fewer_graph o) ≡ true
    begins_kept None h = h
    begins_kept (Some g) h = and_both _ _ (one g.params (and_left _ _ h)) (and_right (takes_nothing g.params) _ h)
      where
        one : (vs : List ℕ) → takes_nothing vs ≡ true → takes_nothing (map (name_of (names_in (counts_in g))) vs) ≡ true
        one [] e = refl
        one (v ∷ vs) e = absurd (cc)

    pub fewer_typed : IsWellTyped (fewer p)
    fewer_typed =
        let h3 = and_left _ _ ok in
        let h2 = and_left _ _ h3 in
        and_both _ _ (and_both _ _ (and_both _ _ (and_left _ _ h2) (statics_same p q.graphs many 0 p.statics ∙ and_right (structs_ok p.structs 0 p.structs) _ h2))
        (graphs_kept 0 p.graphs (λ i g e. let s : 0 + i ≡ i = omega arith in ap (slice_get p.graphs) s ∙ e) (and_right _ _ h3)))
        (ap begins_run (get_map fewer_graph p.graphs p.entry) ∙ begins_kept (slice_get p.graphs p.entry) (and_right _ _ ok))

pub fewer_well_typed : (p : LlProgram) → IsWellTyped p → HasNumbers p → IsWellTyped (fewer p)
fewer_well_typed p ok has = fewer_typed p has ok []
