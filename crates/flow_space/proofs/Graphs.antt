-- The graph of a function, and those of all functions.
use Rattle.std.proofs.Common.{◌≡◌, ℕ, zero, suc, ◌+◌, ◌<◌, ◌≤◌, false, List, [], ◌∷◌, ◌++◌, length, ◌⊎◌, inl, inr, Option, Some, None, refl, sym, ap, ◌∙◌, subst, arith, length-append}
use Rattle.std.specs.Prelude.{slice_get, slice_set, map, option_map}
use Rattle.std.proofs.lemmas.List.{length-map}
use Rattle.std.proofs.lemmas.Option.{slice_get_within, slice_get-get_or}
use Rattle.rpy_meaning.specs.declared.row.Covers.{Covers}
use Rattle.rpy_meaning.specs.declared.row.RowOp.TheVariants as row
use Rattle.rpy_meaning.specs.Classes.{no_covers}
use Rattle.rpy_resolved.specs.declared.tree.Function.{Function}
use Rattle.rpy_resolved.specs.declared.tree.Resolved.{Resolved}
use Rattle.rpy_resolved.specs.declared.tree.Stmt.{Stmt}
use Rattle.flow_graph.specs.declared.graph.Block.{Block}
use Rattle.flow_graph.specs.declared.graph.Graph.{Graph}
use Rattle.flow_graph.specs.declared.graph.Graphs.{Graphs}
use Rattle.flow_graph.specs.Owners.{HaveOwnVariables}
use Rattle.flow_meaning.specs.Machine.{block_in}
use Rattle.flow_stands.specs.Places.{Go, Plain, GiveBack, GiveUp, first, first_and, numbered}
use Rattle.flow_stands.specs.Stands as stands
use Rattle.flow_space.specs.declared.code.Hand.{Hand}
use Rattle.flow_space.specs.declared.code.Scope.{Scope}
use Rattle.flow_space.specs.declared.statement.Ways.{Ways}
use Rattle.resolved_meaning.specs.Programs.{value_in}
use Rattle.resolved_meaning.specs.Trees as bare
use Rattle.resolved_meaning.specs.Trees.{program_of}
use Rattle.flow_trees.specs.Marks as marks
use Rattle.flow_trees.specs.Ops.{OfBlocks, InBlock, InFunction}
use Rattle.flow_space.specs.Trees.{function_of, block_of}
use Rattle.flow_space.specs.Placed.{Part, Headed, ShapeAt, MarkedAt, BlockAt, GraphAt, GraphsAt, NodesAt, FlowAt, hands_of}
use Rattle.flow_space.proofs.Forget.{function_stands}
use Rattle.flow_space.proofs.Parts.{either, blocks_map, part_then, part_patch}
use Rattle.flow_space.proofs.Plain.{function_plain}

-- the scope and the ways of a function's body
abbrev scope_for : ℕ → List Hand → Covers → ℕ → Scope
scope_for locals hands covers raising = record { locals = locals; hands = hands; default = record { to = raising; keep = 0 }; covers = covers; tried = false }

abbrev ways_for : ℕ → ℕ → ℕ → Ways
ways_for locals end returning =
    record { norm = end; brk = record { to = end; keep = locals }; cont = record { to = end; keep = locals }; ret = record { to = returning; keep = 0 } }

-- a block that is set first stands first
set_first : (blocks : List Block) (x b : Block) → slice_get (slice_set blocks 0 x) 0 ≡ Some b → x ≡ b
set_first [] x b h = absurd (cc)
set_first (y ∷ blocks) x b h = cc

-- the first of some variables
first_input : (base count v : ℕ) → slice_get (numbered base count 0 false (Go (first 0 0))).inputs 0 ≡ Some v → v ≡ base
first_input base zero v h = absurd (cc)
first_input base (suc count) v h = (let q : base + 0 ≡ v = cc in omega (arith, q))

pub graph_stands : (program : Resolved) (function : Function) (number : ℕ) (body : List Stmt) (hands : List Hand) (covers : Covers) (old c1 c2 c3 c4 c5 c6 final : List Block) (head base count returning raising never end begin : ℕ)
    → old ≡ [] → Headed old c1 function.locals head count
    → Part c1 c2 (ShapeAt returning 1 GiveBack) → returning ≡ length c1 → length c2 ≡ length c1 + 1
    → Part c2 c3 (ShapeAt raising 1 GiveUp) → raising ≡ length c2 → length c3 ≡ length c2 + 1
    → Part c3 c4 (ShapeAt never 0 (Go (first 3 0))) → never ≡ length c3 → length c4 ≡ length c3 + 1
    → Part c4 c5 (MarkedAt end function.locals function.node false (Plain row.None (first_and 1 0 function.locals))) → end ≡ length c4
    → Part c5 c6 (BlockAt (scope_for function.locals hands covers raising) program body begin function.locals (ways_for function.locals end returning))
    → final ≡ slice_set c6 head (numbered base count 0 false (Go (first begin count)))
    → body ≡ function.body → hands ≡ [] → covers ≡ no_covers → length function.defaults ≤ function.locals → HaveOwnVariables final → base ≡ 0
    → GraphAt program function (record { function = number; blocks = final })
graph_stands program function number body hands covers old c1 c2 c3 c4 c5 c6 final head base count returning raising never end begin is_old headed p1 at1 n1 p2 at2 n2 p3 at3 n3 p4 at4 p5 last is_body no_hands nothing few own nought =
    let n = function.locals in
    let len1 : length c1 ≡ 1 = omega (arith, ap length headed.grows.1, length-append old (headed.grows.0 ∷ []), ap length is_old) in
    let zero_at : head ≡ 0 = headed.at ∙ ap length is_old in
    let one_at : returning ≡ 1 = omega (arith, at1, len1) in
    let two_at : raising ≡ 2 = omega (arith, at2, n1, len1) in
    let three_at : never ≡ 3 = omega (arith, at3, n2, n1, len1) in
    let four_at : end ≡ 4 = omega (arith, at4, n3, n2, n1, len1) in
    let whole = part_patch final base n head count begin headed (part_then (part_then (part_then (part_then p1 p2) p3) p4) p5) last in
    let is : final ≡ whole.grows.0 = whole.grows.1 ∙ ap (λ l. l ++ whole.grows.0) is_old in
    record {
      stands = λ gs f is.
          let k = whole.stands program gs f (λ b le lt. ap (λ g. block_in g b) is) in
          let p = program_of program in
          let few2 : length (map (option_map (value_in program.sites)) function.defaults) ≤ n = let l = length-map function.defaults (option_map (value_in program.sites)) in omega (arith, l, few) in
          let lo_is : k.2.0 ≡ 5 = let a = k.2.1.2.1.1 in omega (arith, a, four_at) in
          let b1 = k.2.2 refl in
          let b2 = subst (λ ss. marks.HasBlock p gs f n (record { hands = hands_of hands; default = record { to = raising; keep = 0 }; covers = covers; tried = false }) (block_of program.sites ss) begin n (record { norm = end; brk = record { to = end; keep = n }; cont = record { to = end; keep = n }; ret = record { to = returning; keep = 0 } }) k.2.0 (length final)) is_body b1 in
          let b3 = subst (λ hs. marks.HasBlock p gs f n (record { hands = hands_of hs; default = record { to = raising; keep = 0 }; covers = covers; tried = false }) (block_of program.sites function.body) begin n (record { norm = end; brk = record { to = end; keep = n }; cont = record { to = end; keep = n }; ret = record { to = returning; keep = 0 } }) k.2.0 (length final)) no_hands b2 in
          let b4 = subst (λ cs. marks.HasBlock p gs f n (record { hands = []; default = record { to = raising; keep = 0 }; covers = cs; tried = false }) (block_of program.sites function.body) begin n (record { norm = end; brk = record { to = end; keep = n }; cont = record { to = end; keep = n }; ret = record { to = returning; keep = 0 } }) k.2.0 (length final)) nothing b3 in
          let b5 = subst (λ j. marks.HasBlock p gs f n (record { hands = []; default = record { to = j; keep = 0 }; covers = no_covers; tried = false }) (block_of program.sites function.body) begin n (record { norm = end; brk = record { to = end; keep = n }; cont = record { to = end; keep = n }; ret = record { to = returning; keep = 0 } }) k.2.0 (length final)) two_at b4 in
          let b6 = subst (λ j. marks.HasBlock p gs f n stands.no_try (block_of program.sites function.body) begin n (record { norm = j; brk = record { to = j; keep = n }; cont = record { to = j; keep = n }; ret = record { to = returning; keep = 0 } }) k.2.0 (length final)) four_at b5 in
          let b7 = subst (λ j. marks.HasBlock p gs f n stands.no_try (block_of program.sites function.body) begin n (record { norm = 4; brk = record { to = 4; keep = n }; cont = record { to = 4; keep = n }; ret = record { to = j; keep = 0 } }) k.2.0 (length final)) one_at b6 in
          let b8 = subst (λ l. marks.HasBlock p gs f n stands.no_try (block_of program.sites function.body) begin n (stands.outside n) l (length final)) lo_is b7 in
          let b9 = subst (λ o. marks.HasBlock p gs f n stands.no_try (block_of program.sites function.body) begin n (stands.outside n) 5 (length (marks.blocks_of o))) (sym is) b8 in (
            begin,
            few2,
            subst (λ j. stands.Is p gs f n j n (Go (first begin n))) zero_at k.1.0,
            subst (λ j. stands.Is p gs f n j 1 GiveBack) one_at k.2.1.1.1.1.0,
            subst (λ j. stands.Is p gs f n j 1 GiveUp) two_at k.2.1.1.1.2.0,
            subst (λ j. stands.Is p gs f n j 0 (Go (first 3 0))) three_at k.2.1.1.2.0,
            (subst (λ j. (base : ℕ) × (block_in (slice_get gs.graphs f) j ≡ Some (numbered base n function.node false (Plain row.None (first_and 1 0 n))))) four_at k.2.1.2.0, (refl, refl)),
            b9,
          );
      only = subst (λ bs. OfBlocks (λ x g w. InFunction x g w (function_of program.sites function)) bs) (sym is)
          (blocks_map (λ x g w. either (either (either (either (λ a. absurd a) (λ a. absurd a)) (λ a. absurd a)) (λ a. inl (a.0, a.1)))
          (λ a. inr (subst (λ ss. InBlock x g w (block_of program.sites ss)) is_body a)))
          whole.grows.0 (whole.only program));
      own = own;
      nought = λ b v at v_at. first_input base count v (ap (λ (b : Block). slice_get b.inputs 0) (set_first c6 (numbered base count 0 false (Go (first begin count))) b (ap (λ i. slice_get (slice_set c6 i (numbered base count 0 false (Go (first begin count)))) 0) (sym zero_at) ∙ ap (λ bs. slice_get bs 0) (sym last) ∙ at)) ∙ v_at) ∙ nought;
    }

get_before : {A : Type 0} (a more : List A) (i : ℕ) → i < length a → slice_get (a ++ more) i ≡ slice_get a i
get_before [] more i lt = absurd (omega arith)
get_before {A = A} (x ∷ a) more zero lt = refl
get_before {A = A} (x ∷ a) more (suc i) lt = get_before a more i (omega arith)

pub get_last : {A : Type 0} (a : List A) (x y : A) (i : ℕ) → slice_get (a ++ x ∷ []) i ≡ Some y → (i < length a × (slice_get a i ≡ Some y)) ⊎ ((i ≡ length a) × (x ≡ y))
get_last {A = A} [] x y zero e = let z : x ≡ y = cc in inr (refl, z)
get_last {A = A} [] x y (suc i) e = absurd (cc e)
get_last {A = A} (w ∷ a) x y zero e = inl (omega arith, e)
get_last {A = A} (w ∷ a) x y (suc i) e = step (get_last a x y i e)
  where
    step : (i < length a × (slice_get a i ≡ Some y)) ⊎ ((i ≡ length a) × (x ≡ y)) → (suc i < length (w ∷ a) × (slice_get (w ∷ a) (suc i) ≡ Some y)) ⊎ ((suc i ≡ length (w ∷ a)) × (x ≡ y))
    step (inl h) = let lt = h.0 in inl (omega (arith, lt), h.1)
    step (inr h) = let eq = h.0 in inr (omega (arith, eq), h.1)

pub graphs_none : (program : Resolved) (functions : List Function) (graphs : List Graph) → graphs ≡ [] → GraphsAt program functions graphs
graphs_none program functions graphs none i function graph e g = absurd (let z = ap (λ l. slice_get l i) none in cc)

pub graphs_push : (program : Resolved) (functions : List Function) (graphs new : List Graph) (function : Function) (graph : Graph) (index : ℕ) → length graphs ≡ index → slice_get functions index ≡ Some function → GraphAt program function graph → new ≡ graphs ++ graph ∷ [] → GraphsAt program functions graphs → GraphsAt program functions new
graphs_push program functions graphs new function graph index len item is e all i other g at_i at_g = step (get_last graphs graph g i (ap (λ l. slice_get l i) (sym e) ∙ at_g))
  where
    step : (i < length graphs × (slice_get graphs i ≡ Some g)) ⊎ ((i ≡ length graphs) × (graph ≡ g)) → GraphAt program other g
    step (inl h) = all i other g at_i h.1
    step (inr h) =
        let at : Some other ≡ Some function = sym at_i ∙ ap (slice_get functions) (h.0 ∙ len) ∙ item in
        let same : function ≡ other = cc in
        subst (λ x. GraphAt program other x) h.1 (subst (λ x. GraphAt program x graph) same is)

-- graphs of all functions stand for the program
stand_by : (program : Resolved) (gs : Graphs) (f : ℕ) (functions : List Function) → length gs.graphs ≡ length functions → GraphsAt program functions gs.graphs
    → (o : Option Function) → slice_get functions f ≡ o → marks.IfFunction (program_of program) gs f (option_map (function_of program.sites) o)
stand_by program gs f functions len all None e = tt
stand_by program gs f functions len all (Some function) e = by (slice_get gs.graphs f) refl
  where
    by : (g : Option Graph) → slice_get gs.graphs f ≡ g → marks.HasFunction (program_of program) gs f (function_of program.sites function)
    by (Some graph) z = (all f function graph e z).stands gs f z
    by None z = absurd (let lt = slice_get_within functions f function e in let y = slice_get-get_or gs.graphs f (record { function = 0; blocks = [] }) (omega (arith, lt, len)) in cc)

-- a graph has no other operations than its function, which there is
only_by : (program : Resolved) (gs : Graphs) (f : ℕ) (graph : Graph) (functions : List Function) → length gs.graphs ≡ length functions → GraphsAt program functions gs.graphs → slice_get gs.graphs f ≡ Some graph
    → (o : Option Function) → slice_get functions f ≡ o
    → (function : Function) × (slice_get functions f ≡ Some function) × OfBlocks (λ x g w. InFunction x g w (function_of program.sites function)) graph.blocks
only_by program gs f graph functions len all z (Some function) e = (function, e, (all f function graph e z).only)
only_by program gs f graph functions len all z None e =
    absurd (let lt = slice_get_within gs.graphs f graph z in let y = slice_get-get_or functions f (record { node = 0; name = []; defaults = []; takes_more = false; locals = 0; body = [] }) (omega (arith, lt, len)) in cc)

own_by : (program : Resolved) (gs : Graphs) (f : ℕ) (graph : Graph) (functions : List Function) → GraphsAt program functions gs.graphs → slice_get gs.graphs f ≡ Some graph
    → (function : Function) → slice_get functions f ≡ Some function → HaveOwnVariables graph.blocks
own_by program gs f graph functions all z function e = (all f function graph e z).own

get_map : {A B : Type 0} (g : A → B) (xs : List A) (i : ℕ) → slice_get (map g xs) i ≡ option_map g (slice_get xs i)
get_map {A = A} {B = B} g [] i = refl
get_map {A = A} {B = B} g (x ∷ xs) zero = refl
get_map {A = A} {B = B} g (x ∷ xs) (suc i) = get_map g xs i

pub all_stand : (program : Resolved) (gs : Graphs) → length gs.graphs ≡ length program.functions → GraphsAt program program.functions gs.graphs → NodesAt program gs
all_stand program gs len all = record {
  stand = λ f.
      subst (λ o. marks.IfFunction (program_of program) gs f o) (sym (get_map (function_of program.sites) program.functions f))
      (stand_by program gs f program.functions len all (slice_get program.functions f) refl);
  only = λ f graph z. only_by program gs f graph program.functions len all z (slice_get program.functions f) refl;
  own = λ f graph z.
      let of = only_by program gs f graph program.functions len all z (slice_get program.functions f) refl in
      own_by program gs f graph program.functions all z of.0 of.1;
  nought = λ f graph z. (let of = only_by program gs f graph program.functions len all z (slice_get program.functions f) refl in (all f of.0 graph of.1 z).nought);
}

forget_by : (program : Resolved) (gs : Graphs) (f : ℕ) (o : Option Function) → marks.IfFunction (program_of program) gs f (option_map (function_of program.sites) o)
    → stands.IfFunction (program_of program) gs f (option_map (bare.function_of program.sites) o)
forget_by program gs f None h = tt
forget_by program gs f (Some function) h =
    subst (λ g. stands.HasFunction (program_of program) gs f g) (function_plain program.sites function) (function_stands (program_of program) gs f (function_of program.sites function) h)

-- graphs that stand with nodes stand without
pub nodes_forgotten : (program : Resolved) (gs : Graphs) → NodesAt program gs → FlowAt program gs
unfolding program_of
nodes_forgotten program gs h f =
    subst (λ o. stands.IfFunction (program_of program) gs f o) (sym (get_map (bare.function_of program.sites) program.functions f))
    (forget_by program gs f (slice_get program.functions f) (subst (λ o. marks.IfFunction (program_of program) gs f o) (get_map (function_of program.sites) program.functions f) (h.stand f)))
