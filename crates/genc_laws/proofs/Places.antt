-- Where the functions of graphs, and their blocks, stand in the file.
use Rattle.std.proofs.Common.{◌≡◌, ◌<◌, ◌≤◌, ℕ, zero, suc, ◌+◌, ◌-◌, Bool, true, false, ◌||◌, ◌==◌, List, [], ◌∷◌, ◌++◌, length, map, drop, Option, Some, None, refl, sym, ap, ◌∙◌, subst, arith, ◌⊎◌, inl, inr}
use Rattle.std.proofs.lemmas.Option.{slice_get_within}
use Rattle.std.specs.Prelude.{slice_get, nat_lt, cond, option_map}
use Rattle.csub_tree.specs.declared.tree.CStmt.{CStmt}
use Rattle.ll_code.specs.Machine.{c_type, param_types, type_or_word}
use Rattle.ll_code.specs.Typed.{params_ok, is_type_given}
use Rattle.ll_code.specs.declared.program.LlType.{LlType}
use Rattle.ll_code.specs.declared.program.LlExit.{LlExit}
use Rattle.ll_code.specs.declared.program.LlExit.TheVariants as exit
use Rattle.ll_code.specs.declared.program.LlBlock.{LlBlock}
use Rattle.ll_code.specs.declared.program.LlGraph.{LlGraph}
use Rattle.ll_code.specs.declared.program.LlProgram.{LlProgram}
use Rattle.ll_laws.proofs.Values.{and_left, and_right, is_same}
use Rattle.genc_lower.specs.declared.order.Order.{Order}
use Rattle.genc_lower.specs.Lower.{function_of, order_of, others, only, in_order, link_code, body, bodies, after, ways_of, ways, blocks_code, waiting_types, exit_crosses, any_crosses}
use Rattle.genc_laws.specs.Stands.{HasWays, LeftAt, count_of}
use Rattle.genc_laws.proofs.Values.{length_map, get_map, equals}

-- ---- lists

pub get_left : {A : Type 0} (xs ys : List A) (n : ℕ) (x : A) → slice_get xs n ≡ Some x → slice_get (xs ++ ys) n ≡ Some x
get_left [] ys n x e = absurd (cc)
get_left (y ∷ xs) ys zero x e = e
get_left (y ∷ xs) ys (suc n) x e = get_left xs ys n x e

pub get_right : {A : Type 0} (xs ys : List A) (n k : ℕ) → n ≡ length xs + k → slice_get (xs ++ ys) n ≡ slice_get ys k
get_right [] ys n k e = let f : n ≡ k = omega (arith, e) in ap (slice_get ys) f
get_right (x ∷ xs) ys zero k e = absurd (omega (arith, e))
get_right (x ∷ xs) ys (suc n) k e = get_right xs ys n k (omega (arith, e))

pub length_both : {A : Type 0} (xs ys : List A) → length (xs ++ ys) ≡ length xs + length ys
length_both [] ys = omega arith
length_both (x ∷ xs) ys = let e : length (xs ++ ys) ≡ length xs + length ys = length_both xs ys in omega (arith, e)

pub some_at : {A : Type 0} (xs : List A) (n : ℕ) → n < length xs → (x : A) × (slice_get xs n ≡ Some x)
some_at [] n lt = absurd (omega (arith, lt))
some_at (x ∷ xs) zero lt = (x, refl)
some_at (x ∷ xs) (suc n) lt = some_at xs n (omega (arith, lt))

pub not_same : (m n : ℕ) → (m ≡ n → ⊥) → (m == n) ≡ false
not_same m n ne = grind arith

pub is_below : (m n : ℕ) → m < n → nat_lt m n ≡ true
is_below m n lt = grind arith

pub not_below : (m n : ℕ) → n ≤ m → nat_lt m n ≡ false
not_below m n le = grind arith

-- ---- graphs in the order of functions

module _ {A : Type 0} (f : LlGraph → A) (e : ℕ) where
  -- a graph that is not the entry
  first_other : (n : ℕ) (graph : LlGraph) (graphs : List LlGraph) → (n ≡ e → ⊥) → others f e n (graph ∷ graphs) ≡ f graph ∷ others f e (n + 1) graphs
  first_other n graph graphs ne = ap (λ b. cond b [] (f graph ∷ []) ++ others f e (n + 1) graphs) (not_same n e ne)

  the_entry : (n : ℕ) (graph : LlGraph) (graphs : List LlGraph) → n ≡ e → others f e n (graph ∷ graphs) ≡ others f e (n + 1) graphs
  the_entry n graph graphs is = ap (λ b. cond b [] (f graph ∷ []) ++ others f e (n + 1) graphs) (equals n e is)

  all_past : (n : ℕ) (graphs : List LlGraph) → e < n → others f e n graphs ≡ map f graphs
  all_past n [] lt = refl
  all_past n (graph ∷ graphs) lt = first_other n graph graphs (λ is. omega (arith, is, lt)) ∙ ap (λ l. f graph ∷ l) (all_past (n + 1) graphs (omega (arith, lt)))

  before_entry : (n : ℕ) (graphs : List LlGraph) (g : ℕ) → n + g < e → slice_get (others f e n graphs) g ≡ option_map f (slice_get graphs g)
  before_entry n [] g lt = refl
  before_entry n (graph ∷ graphs) zero lt = ap (λ l. slice_get l 0) (first_other n graph graphs (λ is. omega (arith, is, lt)))
  before_entry n (graph ∷ graphs) (suc g) lt =
      ap (λ l. slice_get l (suc g)) (first_other n graph graphs (λ is. omega (arith, is, lt))) ∙ before_entry (n + 1) graphs g (omega (arith, lt))

  pub two_ways : (m n : ℕ) → n ≤ m → (n ≡ m) ⊎ (n < m)
  two_ways m n le = grind arith

  after_entry : (n : ℕ) (graphs : List LlGraph) (h : ℕ) → n ≤ e → e ≤ n + h → slice_get (others f e n graphs) h ≡ option_map f (slice_get graphs (suc h))
  after_entry n [] h le lt = refl
  after_entry n (graph ∷ graphs) h le lt = now h lt (two_ways e n le) (λ k less there. after_entry (n + 1) graphs k less there)
    where
      now : (h : ℕ) → e ≤ n + h → (n ≡ e) ⊎ (n < e) → ((k : ℕ) → n + 1 ≤ e → e ≤ n + 1 + k → slice_get (others f e (n + 1) graphs) k ≡ option_map f (slice_get graphs (suc k)))
          → slice_get (others f e n (graph ∷ graphs)) h ≡ option_map f (slice_get graphs h)
      now h lt (inl is) go = ap (λ l. slice_get l h) (the_entry n graph graphs is ∙ all_past (n + 1) graphs (omega (arith, is))) ∙ get_map f graphs h
      now zero lt (inr less) go = absurd (omega (arith, lt, less))
      now (suc k) lt (inr less) go = ap (λ l. slice_get l (suc k)) (first_other n graph graphs (λ is. omega (arith, is, less))) ∙ go k (omega (arith, less)) (omega (arith, lt))

  pub others_count : (n : ℕ) (graphs : List LlGraph) → n ≤ e → e < n + length graphs → suc (length (others f e n graphs)) ≡ length graphs
  others_count n [] le lt = absurd (omega (arith, le, lt))
  others_count n (graph ∷ graphs) le lt = now (two_ways e n le) (λ less. others_count (n + 1) graphs less (omega (arith, lt)))
    where
      now : (n ≡ e) ⊎ (n < e) → (n + 1 ≤ e → suc (length (others f e (n + 1) graphs)) ≡ length graphs) → suc (length (others f e n (graph ∷ graphs))) ≡ suc (length graphs)
      now (inl is) go = ap (λ l. suc (length l)) (the_entry n graph graphs is ∙ all_past (n + 1) graphs (omega (arith, is))) ∙ ap suc (length_map f graphs)
      now (inr less) go = ap (λ l. suc (length l)) (first_other n graph graphs (λ is. omega (arith, is, less))) ∙ ap suc (go (omega (arith, less)))

pub entry_place : (p : LlProgram) → function_of (order_of p) p.entry ≡ length p.graphs - 1
entry_place p = ap (λ b. cond b (length p.graphs - 1) (cond (nat_lt p.entry p.entry) (p.entry - 1) p.entry)) (equals p.entry p.entry refl)

module _ {A : Type 0} (f : LlGraph → A) (p : LlProgram) (entry : LlGraph) (is : slice_get p.graphs p.entry ≡ Some entry) where
  within : p.entry < length p.graphs
  within = slice_get_within p.graphs p.entry entry is

  ordered : in_order f p ≡ others f p.entry 0 p.graphs ++ f entry ∷ []
  ordered = ap (λ o. others f p.entry 0 p.graphs ++ only f o) is

  many : suc (length (others f p.entry 0 p.graphs)) ≡ length p.graphs
  many = others_count f p.entry 0 p.graphs (omega arith) (omega (arith, within))

  pub order_count : length (in_order f p) ≡ length p.graphs
  order_count = ap length ordered ∙ (let e : length (others f p.entry 0 p.graphs ++ f entry ∷ []) ≡ length (others f p.entry 0 p.graphs) + 1 = length_both (others f p.entry 0 p.graphs) (f entry ∷ []) in omega (arith, e, many))

  at_other : (g : ℕ) → (g ≡ p.entry → ⊥) → function_of (order_of p) g ≡ cond (nat_lt p.entry g) (g - 1) g
  at_other g ne = ap (λ b. cond b (length p.graphs - 1) (cond (nat_lt p.entry g) (g - 1) g)) (not_same g p.entry ne)

  others_at : (g k : ℕ) (graph : LlGraph) → slice_get (others f p.entry 0 p.graphs) k ≡ option_map f (slice_get p.graphs g) → slice_get p.graphs g ≡ Some graph → slice_get (in_order f p) k ≡ Some (f graph)
  others_at g k graph e h = ap (λ l. slice_get l k) ordered ∙ get_left (others f p.entry 0 p.graphs) (f entry ∷ []) k (f graph) (e ∙ ap (option_map f) h)

  last_at : (graph : LlGraph) → slice_get p.graphs p.entry ≡ Some graph → slice_get (in_order f p) (length p.graphs - 1) ≡ Some (f graph)
  last_at graph h =
      let g : entry ≡ graph = (let e : Some entry ≡ Some graph = sym is ∙ h in cc) in
      ap (λ l. slice_get l (length p.graphs - 1)) ordered ∙ get_right (others f p.entry 0 p.graphs) (f entry ∷ []) (length p.graphs - 1) 0 (omega (arith, many)) ∙ ap (λ x. Some (f x)) g

  three_ways : (m n : ℕ) → (m ≡ n) ⊎ ((m < n) ⊎ (n < m))
  three_ways m n = grind arith

  -- the function of a graph is what the graph becomes
  pub order_at : (g : ℕ) (graph : LlGraph) → slice_get p.graphs g ≡ Some graph → slice_get (in_order f p) (function_of (order_of p) g) ≡ Some (f graph)
  order_at g graph h = now (three_ways g p.entry)
    where
      now : (g ≡ p.entry) ⊎ ((g < p.entry) ⊎ (p.entry < g)) → slice_get (in_order f p) (function_of (order_of p) g) ≡ Some (f graph)
      now (inl same) = ap (λ k. slice_get (in_order f p) k) (ap (function_of (order_of p)) same ∙ entry_place p) ∙ last_at graph (ap (slice_get p.graphs) (sym same) ∙ h)
      now (inr (inl less)) =
          ap (λ k. slice_get (in_order f p) k) (at_other g (λ e. omega (arith, e, less)) ∙ ap (λ b. cond b (g - 1) g) (not_below p.entry g (omega (arith, less))))
          ∙ others_at g g graph (before_entry f p.entry 0 p.graphs g (omega (arith, less))) h
      now (inr (inr more)) =
          let e : suc (g - 1) ≡ g = omega (arith, more) in
          ap (λ k. slice_get (in_order f p) k) (at_other g (λ e. omega (arith, e, more)) ∙ ap (λ b. cond b (g - 1) g) (is_below p.entry g more))
          ∙ others_at g (g - 1) graph (after_entry f p.entry 0 p.graphs (g - 1) (omega arith) (omega (arith, more)) ∙ ap (λ k. option_map f (slice_get p.graphs k)) e) h

-- ---- blocks

one_crosses : (graph : LlGraph) (blocks : List LlBlock) (n : ℕ) (block : LlBlock) → slice_get blocks n ≡ Some block → exit_crosses graph block.exit ≡ true → any_crosses graph blocks ≡ true
one_crosses graph [] n block e h = absurd (cc)
one_crosses graph (b ∷ blocks) zero block e h = let f : b ≡ block = cc in ap (λ x. x || any_crosses graph blocks) (ap (λ b. exit_crosses graph b.exit) f ∙ h)
one_crosses graph (b ∷ blocks) (suc n) block e h = ap (λ x. exit_crosses graph b.exit || x) (one_crosses graph blocks n block e h) ∙ or_true (exit_crosses graph b.exit)
  where
    or_true : (b : Bool) → (b || true) ≡ true
    or_true true = refl
    or_true false = refl

module _ (order : Order) (graph : LlGraph) where
  pub bodies_count : (next : ℕ) (blocks : List LlBlock) → length (bodies order graph next blocks) ≡ length blocks
  bodies_count next [] = refl
  bodies_count next (b ∷ blocks) = ap suc (bodies_count (after next b.exit) blocks)

  -- the ways of these blocks stand from here on
  abbrev Stand : List (List CStmt) → ℕ → List LlBlock → Type 0
  Stand code next blocks = (k : ℕ) (w : List CStmt) → slice_get (ways order graph blocks) k ≡ Some w → slice_get code (next + k) ≡ Some w

  pub own_ways : (code : List (List CStmt)) (next : ℕ) (exit : LlExit) (more : List (List CStmt))
      → ((k : ℕ) (w : List CStmt) → slice_get (ways_of order graph exit ++ more) k ≡ Some w → slice_get code (next + k) ≡ Some w) → HasWays order graph code next exit
  own_ways code next (exit.If a there elsewhere) more h =
      let e : next ≡ next + 0 = omega arith in (ap (slice_get code) e ∙ h 0 (link_code order graph there) refl, h 1 (link_code order graph elsewhere) refl)
  own_ways code next other more h = tt

  pub later_ways : (code : List (List CStmt)) (next : ℕ) (exit : LlExit) (more : List (List CStmt))
      → ((k : ℕ) (w : List CStmt) → slice_get (ways_of order graph exit ++ more) k ≡ Some w → slice_get code (next + k) ≡ Some w)
      → (k : ℕ) (w : List CStmt) → slice_get more k ≡ Some w → slice_get code (after next exit + k) ≡ Some w
  later_ways code next (exit.If a there elsewhere) more h k w e = let f : next + 2 + k ≡ next + suc (suc k) = omega arith in ap (slice_get code) f ∙ h (suc (suc k)) w e
  later_ways code next other more h k w e = h k w e

  body_at : (code : List (List CStmt)) (blocks : List LlBlock) (next n : ℕ) (block : LlBlock) → Stand code next blocks → slice_get blocks n ≡ Some block
      → (m : ℕ) × (slice_get (bodies order graph next blocks) n ≡ Some (body order graph m block)) × HasWays order graph code m block.exit
  body_at code [] next n block h e = absurd (cc)
  body_at code (b ∷ blocks) next zero block h e =
      let f : b ≡ block = cc in (next, ap (λ b. Some (body order graph next b)) f, subst (λ b. HasWays order graph code next b.exit) f (own_ways code next b.exit (ways order graph blocks) h))
  body_at code (b ∷ blocks) next (suc n) block h e = body_at code blocks (after next b.exit) n block (later_ways code next b.exit (ways order graph blocks) h) e

  pub all_ways : Stand (blocks_code order graph) (length graph.blocks) graph.blocks
  all_ways k w e = get_right (bodies order graph (length graph.blocks) graph.blocks) (ways order graph graph.blocks) (length graph.blocks + k) k (ap (λ n. n + k) (sym (bodies_count (length graph.blocks) graph.blocks))) ∙ e

  -- a block of the graph is left to do at the start of the block of its number
  pub block_left : (n : ℕ) (block : LlBlock) → slice_get graph.blocks n ≡ Some block → LeftAt order graph block.ops block.exit n 0
  block_left n block e = left (body_at (blocks_code order graph) graph.blocks (length graph.blocks) n block all_ways e)
    where
      left : (m : ℕ) × (slice_get (bodies order graph (length graph.blocks) graph.blocks) n ≡ Some (body order graph m block)) × HasWays order graph (blocks_code order graph) m block.exit
          → LeftAt order graph block.ops block.exit n 0
      left (m, at, has) = record {
        stmts = body order graph m block;
        next = m;
        of = get_left (bodies order graph (length graph.blocks) graph.blocks) (ways order graph graph.blocks) n (body order graph m block) at;
        left = refl;
        ways = has;
        wait = one_crosses graph graph.blocks n block e;
      }

-- ---- variables

pub drop_at : {A : Type 0} (xs : List A) (n : ℕ) (x : A) → slice_get xs n ≡ Some x → drop n xs ≡ x ∷ drop (n + 1) xs
drop_at [] n x e = absurd (cc)
drop_at (y ∷ xs) zero x e = let f : y ≡ x = cc in ap (λ z. z ∷ xs) f
drop_at (y ∷ xs) (suc n) x e = let f : suc n + 1 ≡ suc (n + 1) = omega arith in drop_at xs n x e ∙ ap (λ k. x ∷ drop k (y ∷ xs)) (sym f)

pub length_drop : {A : Type 0} (xs : List A) (n : ℕ) → length (drop n xs) ≡ length xs - n
length_drop [] zero = refl
length_drop [] (suc n) = omega arith
length_drop (x ∷ xs) zero = omega arith
length_drop (x ∷ xs) (suc n) = let e : length (drop n xs) ≡ length xs - n = length_drop xs n in omega (arith, e)

-- the parameters are the first variables
params_first : (p : LlProgram) (types : List LlType) (n : ℕ) (vs : List ℕ) → params_ok p types n vs ≡ true
    → map (λ v. type_or_word (slice_get types v)) vs ++ map c_type (drop (n + length vs) types) ≡ map c_type (drop n types)
params_first p types n [] ok = let e : n + 0 ≡ n = omega arith in ap (λ k. map c_type (drop k types)) e
params_first p types n (v ∷ vs) ok = first (slice_get types v) refl (and_right _ _ (and_left _ _ ok)) (params_first p types (n + 1) vs (and_right _ _ ok))
  where
    here : v ≡ n
    here = is_same v n (and_left _ _ (and_left _ _ ok))

    first : (o : Option LlType) → slice_get types v ≡ o → is_type_given p.structs o ≡ true
        → map (λ v. type_or_word (slice_get types v)) vs ++ map c_type (drop (n + 1 + length vs) types) ≡ map c_type (drop (n + 1) types)
        → type_or_word (slice_get types v) ∷ map (λ v. type_or_word (slice_get types v)) vs ++ map c_type (drop (n + suc (length vs)) types) ≡ map c_type (drop n types)
    first None e h go = absurd (cc)
    first (Some t) e h go =
        let f : n + suc (length vs) ≡ n + 1 + length vs = omega arith in
        ap (λ o. type_or_word o ∷ map (λ v. type_or_word (slice_get types v)) vs ++ map c_type (drop (n + suc (length vs)) types)) e
        ∙ ap (λ k. c_type t ∷ map (λ v. type_or_word (slice_get types v)) vs ++ map c_type (drop k types)) f
        ∙ ap (λ l. c_type t ∷ l) go
        ∙ sym (ap (map c_type) (drop_at types n t (ap (slice_get types) (sym here) ∙ e)))

pub append_assoc : {A : Type 0} (xs ys zs : List A) → xs ++ (ys ++ zs) ≡ (xs ++ ys) ++ zs
append_assoc [] ys zs = refl
append_assoc (x ∷ xs) ys zs = ap (λ l. x ∷ l) (append_assoc xs ys zs)

-- the variables of a function are those of its graph, and then those in which values wait
pub variables_are : (p : LlProgram) (graph : LlGraph) → params_ok p graph.types 0 graph.params ≡ true
    → param_types graph ++ (map c_type (drop (length graph.params) graph.types) ++ waiting_types graph) ≡ map c_type graph.types ++ waiting_types graph
variables_are p graph ok =
    append_assoc (param_types graph) (map c_type (drop (length graph.params) graph.types)) (waiting_types graph)
    ∙ ap (λ l. l ++ waiting_types graph) ((let e : length graph.params ≡ 0 + length graph.params = omega arith in ap (λ k. param_types graph ++ map c_type (drop k graph.types)) e) ∙ params_first p graph.types 0 graph.params ok)

pub variable_count : (p : LlProgram) (graph : LlGraph) → params_ok p graph.types 0 graph.params ≡ true
    → length graph.params + length (map c_type (drop (length graph.params) graph.types) ++ waiting_types graph) ≡ count_of graph
variable_count p graph ok =
    let a : length (param_types graph ++ (map c_type (drop (length graph.params) graph.types) ++ waiting_types graph)) ≡ length (map c_type graph.types ++ waiting_types graph) = ap length (variables_are p graph ok) in
    let b : length (param_types graph ++ (map c_type (drop (length graph.params) graph.types) ++ waiting_types graph))
    ≡ length (param_types graph) + length (map c_type (drop (length graph.params) graph.types) ++ waiting_types graph) = length_both (param_types graph) _ in
    let c : length (map c_type graph.types ++ waiting_types graph) ≡ length (map c_type graph.types) + length (waiting_types graph) = length_both (map c_type graph.types) (waiting_types graph) in
    let d : length (map c_type graph.types) ≡ length graph.types = length_map c_type graph.types in
    let e : length (param_types graph) ≡ length graph.params = length_map (λ v. type_or_word (slice_get graph.types v)) graph.params in
    omega (arith, a, b, c, d, e)

-- where values wait, each variable has one above it
pub room_to_wait : (graph : LlGraph) → any_crosses graph graph.blocks ≡ true → count_of graph ≡ length graph.types + length graph.types
room_to_wait graph h = ap (λ b. length graph.types + length (cond b (map c_type graph.types) [])) h ∙ ap (λ n. length graph.types + n) (length_map c_type graph.types)
