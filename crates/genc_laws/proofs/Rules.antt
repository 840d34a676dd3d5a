-- The C file of a well-typed program of the last stage keeps every rule.
use Rattle.std.proofs.Common.{◌≡◌, ◌<◌, ◌≤◌, ℕ, zero, suc, ◌+◌, Bool, true, false, not, ◌&&◌, ◌||◌, ◌==◌, List, [], ◌∷◌, ◌++◌, length, map, drop, Option, Some, None, refl, sym, ap, ◌∙◌, subst, arith, ◌⊎◌, inl, inr}
use Rattle.std.specs.Prelude.{slice_get, nat_lt, cond, option_map, if◌then◌else◌}
use Rattle.std.proofs.lemmas.List.{map-append}
use Rattle.std.proofs.lemmas.Option.{slice_get_within}
use Rattle.csub_tree.specs.Statement.{same_types, same_result}
use Rattle.csub_tree.specs.Checked as ck
use Rattle.csub_tree.specs.Checked.{first_bad, or_else, no_functions, first_unchecked, IsChecked}
use Rattle.csub_tree.specs.declared.tree.CType.{CType}
use Rattle.csub_tree.specs.declared.tree.CType.TheVariants as c
use Rattle.csub_tree.specs.declared.tree.COperand.{COperand}
use Rattle.csub_tree.specs.declared.tree.COperand.TheVariants.{Var, Const}
use Rattle.csub_tree.specs.declared.tree.CFunction.{CFunction}
use Rattle.csub_tree.specs.declared.tree.CPrototype.{CPrototype}
use Rattle.csub_tree.specs.declared.tree.CStatic.{CStatic}
use Rattle.csub_tree.specs.declared.tree.CStmt.{CStmt}
use Rattle.csub_tree.specs.declared.tree.CStmt.TheVariants as stmt
use Rattle.ll_code.specs.Machine.{c_type, c_result, param_types, type_or_word}
use Rattle.ll_code.specs.Typed as typed
use Rattle.ll_code.specs.Typed.{IsWellTyped, operations_ok, exit_ok, link_ok, graph_ok, graphs_ok, begins_run, takes_nothing, is_signed}
use Rattle.ll_code.specs.declared.program.LlStage.TheVariants as stage
use Rattle.ll_code.specs.declared.program.LlType.{LlType}
use Rattle.ll_code.specs.declared.program.LlType.TheVariants as type
use Rattle.ll_code.specs.declared.program.LlStruct.{LlStruct}
use Rattle.ll_code.specs.declared.program.LlLink.{LlLink}
use Rattle.ll_code.specs.declared.program.LlOp.{LlOp}
use Rattle.ll_code.specs.declared.program.LlExit.{LlExit}
use Rattle.ll_code.specs.declared.program.LlExit.TheVariants as exit
use Rattle.ll_code.specs.declared.program.LlBlock.{LlBlock}
use Rattle.ll_code.specs.declared.program.LlGraph.{LlGraph}
use Rattle.ll_code.specs.declared.program.LlProgram.{LlProgram}
use Rattle.ll_laws.proofs.Values.{and_left, and_right, is_less}
use Rattle.genc_lower.specs.Lower as lower
use Rattle.genc_lower.specs.Lower.{order_of, lowered, function_of, statement, changes, is_new, crosses, crosses_in, assigns, moved, inputs_of, inputs_at, link_code, link_crosses, exit_code, exit_crosses, any_crosses, after, body, bodies, ways_of, ways, blocks_code, function_code, prototype, waiting_types, c_struct, static_code, others, unless, only, in_order}
use Rattle.genc_laws.specs.Stands.{HasWays}
use Rattle.genc_laws.proofs.Values.{length_map, get_map}
use Rattle.genc_laws.proofs.Places.{get_left, get_right, length_both, is_below, variables_are, own_ways, later_ways, all_ways, bodies_count}
use Rattle.genc_laws.proofs.Steps.{params_of, entry_of}
use Rattle.genc_laws.proofs.Kept.{and_both, all_same_refl, result_refl, same_refl, kinds_kept, result_kept, struct_kept, takes_kept, has_kept, operation_kept, operation_goes_on}
use Rattle.genc_laws.proofs.KeptStatics.{static_kept}

-- ---- blocks of statements

module _ (p : LlProgram) (vars : List CType) (result : Option CType) (blocks : ℕ) where
  abbrev Keeps : CStmt → Type 0
  Keeps s = ck.statement_ok (lowered p) vars result blocks s ≡ true

  abbrev IsBlock : List CStmt → Type 0
  IsBlock ss = ck.block_ok (lowered p) vars result blocks ss ≡ true

  abbrev AreBlocks : List (List CStmt) → Type 0
  AreBlocks bs = ck.blocks_ok (lowered p) vars result blocks bs ≡ true

  -- statements that keep the rules and end no block
  abbrev AllGo : List CStmt → Type 0
  AllGo [] = Unit {0}
  AllGo (s ∷ ss) = (ck.ends_block s ≡ false) × Keeps s × AllGo ss

  before : (s : CStmt) (ss : List CStmt) → ck.ends_block s ≡ false → Keeps s → IsBlock ss → IsBlock (s ∷ ss)
  before s [] e k b = absurd (cc)
  before s (t ∷ ss) e k b = and_both _ _ (and_both _ _ (ap not e) k) b

  all_before : (ss more : List CStmt) → AllGo ss → IsBlock more → IsBlock (ss ++ more)
  all_before [] more all b = b
  all_before (s ∷ ss) more all b = before s (ss ++ more) all.0 all.1 (all_before ss more all.2 b)

  all_both : (ss ts : List CStmt) → AllGo ss → AllGo ts → AllGo (ss ++ ts)
  all_both [] ts h k = k
  all_both (s ∷ ss) ts h k = (h.0, h.1, all_both ss ts h.2 k)

  only_end : (s : CStmt) → ck.ends_block s ≡ true → Keeps s → IsBlock (s ∷ [])
  only_end s e k = and_both _ _ e k

  blocks_both : (bs cs : List (List CStmt)) → AreBlocks bs → AreBlocks cs → AreBlocks (bs ++ cs)
  blocks_both [] cs h k = k
  blocks_both (b ∷ bs) cs h k = and_both _ _ (and_left _ _ h) (blocks_both bs cs (and_right (ck.block_ok (lowered p) vars result blocks b) _ h) k)

-- ---- a graph

module _ (p : LlProgram) (entry : LlGraph) (is : slice_get p.graphs p.entry ≡ Some entry) (le : p.entry < length p.graphs) (raw : typed.is_raw p.stage ≡ false) (graph : LlGraph) (good : graph_ok p graph ≡ true) where
  abbrev vars : List CType
  vars = map c_type graph.types ++ waiting_types graph

  abbrev many : ℕ
  many = length (blocks_code (order_of p) graph)

  has : (a : ℕ) (t : LlType) → slice_get graph.types a ≡ Some t → slice_get vars a ≡ Some (c_type t)
  has a t e = get_left (map c_type graph.types) (waiting_types graph) a (c_type t) (get_map c_type graph.types a ∙ ap (option_map c_type) e)

  -- where values wait, each variable has one of its type above it
  above : any_crosses graph graph.blocks ≡ true → (a : ℕ) (t : LlType) → slice_get graph.types a ≡ Some t → slice_get vars (length graph.types + a) ≡ Some (c_type t)
  above cross a t e =
      get_right (map c_type graph.types) (waiting_types graph) (length graph.types + a) a (ap (λ n. n + a) (sym (length_map c_type graph.types)))
      ∙ ap (λ b. slice_get (cond b (map c_type graph.types) []) a) cross ∙ get_map c_type graph.types a ∙ ap (option_map c_type) e

  abbrev Go : List CStmt → Type 0
  Go = AllGo p vars (c_result graph.result) many

  abbrev Block : List CStmt → Type 0
  Block = IsBlock p vars (c_result graph.result) many

  operations_kept : (ops : List LlOp) → operations_ok p graph.types ops ≡ true → Go (map (statement (order_of p)) ops)
  operations_kept [] h = tt
  operations_kept (o ∷ ops) h = (
    operation_goes_on p entry is le graph.types vars has (c_result graph.result) many raw o,
    operation_kept p entry is le graph.types vars has (c_result graph.result) many raw o (and_left _ _ h),
    operations_kept ops (and_right (typed.operation_ok p graph.types o) _ h),
  )

  module _ (vs0 : List ℕ) (xs0 : List COperand) where
    choice : (b : Bool) (s : CStmt) (ss : List CStmt) → ck.ends_block s ≡ false → (b ≡ true → ck.statement_ok (lowered p) vars (c_result graph.result) many s ≡ true) → Go ss → Go (cond b (s ∷ ss) ss)
    choice true s ss e k all = (e, k refl, all)
    choice false s ss e k all = all

    set_kept : (a v : ℕ) (o : Option LlType) (x : COperand) → slice_get graph.types v ≡ o → ((t : LlType) → slice_get graph.types v ≡ Some t → slice_get vars a ≡ Some (c_type t)) → typed.given_takes p graph.types o x ≡ true
        → ck.given_takes (lowered p) vars (slice_get vars a) (lower.operand (order_of p) x) ≡ true
    set_kept a v None x e place h = absurd (cc)
    set_kept a v (Some t) x e place h = ap (λ o. ck.given_takes (lowered p) vars o (lower.operand (order_of p) x)) (place t e) ∙ takes_kept p entry is le graph.types vars has t x h

    take_kept : (v : ℕ) (o : Option LlType) (x : COperand) → any_crosses graph graph.blocks ≡ true → slice_get graph.types v ≡ o → typed.given_takes p graph.types o x ≡ true
        → ck.given_takes (lowered p) vars (slice_get vars v) (Var (length graph.types + v)) ≡ true
    take_kept v None x cross e h = absurd (cc)
    take_kept v (Some t) x cross e h =
        ap (λ o. ck.given_takes (lowered p) vars o (Var (length graph.types + v))) (has v t e) ∙ ap (ck.has_type (c_type t)) (above cross v t e) ∙ same_refl (c_type t)

    assigns_kept : (most : ℕ) (vs : List ℕ) (xs : List COperand) → ((v : ℕ) (t : LlType) → slice_get graph.types v ≡ Some t → slice_get vars (most + v) ≡ Some (c_type t)) → typed.all_given p graph.types graph.types vs xs ≡ true
        → Go (assigns (order_of p) most vs0 xs0 vs xs)
    assigns_kept most [] xs place h = tt
    assigns_kept most (v ∷ vs) [] place h = tt
    assigns_kept most (v ∷ vs) (x ∷ xs) place h =
        choice (is_new vs0 xs0 v) (stmt.Set (most + v) (lower.operand (order_of p) x)) (assigns (order_of p) most vs0 xs0 vs xs) refl (λ e. set_kept (most + v) v (slice_get graph.types v) x refl (place v) (and_left _ _ h))
        (assigns_kept most vs xs place (and_right (typed.given_takes p graph.types (slice_get graph.types v) x) _ h))

    takes_go : any_crosses graph graph.blocks ≡ true → (vs : List ℕ) (xs : List COperand) → typed.all_given p graph.types graph.types vs xs ≡ true → Go (lower.takes (length graph.types) vs0 xs0 vs xs)
    takes_go cross [] xs h = tt
    takes_go cross (v ∷ vs) [] h = tt
    takes_go cross (v ∷ vs) (x ∷ xs) h =
        choice (is_new vs0 xs0 v) (stmt.Set v (Var (length graph.types + v))) (lower.takes (length graph.types) vs0 xs0 vs xs) refl (λ e. take_kept v (slice_get graph.types v) x cross refl (and_left _ _ h))
        (takes_go cross vs xs (and_right (typed.given_takes p graph.types (slice_get graph.types v) x) _ h))

  moved_kept : (vs : List ℕ) (xs : List COperand) → (crosses vs xs ≡ true → any_crosses graph graph.blocks ≡ true) → typed.all_given p graph.types graph.types vs xs ≡ true → Go (moved (order_of p) (length graph.types) vs xs)
  moved_kept vs xs room h = one (crosses vs xs) refl
    where
      one : (b : Bool) → crosses vs xs ≡ b → Go (cond b (assigns (order_of p) (length graph.types) vs xs vs xs ++ lower.takes (length graph.types) vs xs vs xs) (assigns (order_of p) 0 vs xs vs xs))
      one true e =
          all_both p vars (c_result graph.result) many (assigns (order_of p) (length graph.types) vs xs vs xs) (lower.takes (length graph.types) vs xs vs xs) (assigns_kept vs xs (length graph.types) vs xs (above (room e)) h) (takes_go vs xs (room e) vs xs h)
      one false e = assigns_kept vs xs 0 vs xs (λ v t f. (let g : 0 + v ≡ v = omega arith in ap (slice_get vars) g) ∙ has v t f) h

  enough : length graph.blocks ≤ many
  enough =
      let a : many ≡ length (bodies (order_of p) graph (length graph.blocks) graph.blocks) + length (ways (order_of p) graph graph.blocks) = length_both (bodies (order_of p) graph (length graph.blocks) graph.blocks) (ways (order_of p) graph graph.blocks) in
      let b : length (bodies (order_of p) graph (length graph.blocks) graph.blocks) ≡ length graph.blocks = bodies_count (order_of p) graph (length graph.blocks) graph.blocks in
      omega (arith, a, b)

  link_kept : (link : LlLink) → (link_crosses graph link ≡ true → any_crosses graph graph.blocks ≡ true) → link_ok p graph link ≡ true → Block (link_code (order_of p) graph link)
  link_kept link room h = one (slice_get graph.blocks link.to) refl h
    where
      one : (o : Option LlBlock) → slice_get graph.blocks link.to ≡ o → typed.enters p graph.types o link.args ≡ true → Block (link_code (order_of p) graph link)
      one None e h = absurd (cc)
      one (Some block) e h =
          let lt : link.to < length graph.blocks = slice_get_within graph.blocks link.to block e in
          subst (λ vs. Block (moved (order_of p) (length graph.types) vs link.args ++ stmt.Goto link.to ∷ [])) (sym (ap inputs_of e))
          (all_before p vars (c_result graph.result) many (moved (order_of p) (length graph.types) block.inputs link.args) (stmt.Goto link.to ∷ [])
          (moved_kept block.inputs link.args (λ k. room (ap (λ o. crosses (inputs_of o) link.args) e ∙ k)) h)
          (only_end p vars (c_result graph.result) many (stmt.Goto link.to) refl (is_below link.to many (omega (arith, lt, enough)))))

  or_first : (a b : Bool) → a ≡ true → (a || b) ≡ true
  or_first true b e = refl
  or_first false b e = absurd (cc)

  or_second : (a b : Bool) → b ≡ true → (a || b) ≡ true
  or_second true b e = refl
  or_second false b e = e

  -- ---- ends of blocks

  returned_kept : (r : LlType) (x : COperand) → typed.takes p graph.types r x ≡ true → ck.return_ok (lowered p) vars (c_result r) (Some (lower.operand (order_of p) x)) ≡ true
  returned_kept type.Void (Var v) h = absurd (void_var (slice_get graph.types v) h)
    where
      void_var : (o : Option LlType) → typed.has_type type.Void o ≡ true → ⊥
      void_var None h = cc
      void_var (Some t) h = let f : false ≡ true = h in cc
  returned_kept type.Void (Const x) h = let f : false ≡ true = h in absurd (cc)
  returned_kept type.Signed x h = takes_kept p entry is le graph.types vars has type.Signed x h
  returned_kept type.Char x h = takes_kept p entry is le graph.types vars has type.Char x h
  returned_kept type.Bool x h = takes_kept p entry is le graph.types vars has type.Bool x h
  returned_kept type.Fn x h = takes_kept p entry is le graph.types vars has type.Fn x h
  returned_kept (type.Ptr n) x h = takes_kept p entry is le graph.types vars has (type.Ptr n) x h

  nothing_kept : (r : LlType) → typed.is_void r ≡ true → ck.return_ok (lowered p) vars (c_result r) None ≡ true
  nothing_kept type.Void h = refl
  nothing_kept other h = absurd (cc)

  char_kept : (o : Option LlType) → typed.is_char o ≡ true → ck.is_char (option_map c_type o) ≡ true
  char_kept (Some type.Char) h = refl
  char_kept other h = absurd (cc)

  item_of : (o : Option LlStruct) → ck.items_of (option_map c_struct o) ≡ option_map c_type (typed.items_of o)
  item_of None = refl
  item_of (Some s) = refl

  raised_kept : (a : ℕ) (o : Option LlType) → slice_get graph.types a ≡ o → typed.names_chars p.structs o ≡ true → ck.names_chars (map c_struct p.structs) (slice_get vars a) ≡ true
  raised_kept a (Some (type.Ptr n)) e h =
      ap (ck.names_chars (map c_struct p.structs)) (has a (type.Ptr n) e) ∙ ap ck.is_char (ap ck.items_of (get_map c_struct p.structs n) ∙ item_of (slice_get p.structs n)) ∙ char_kept (typed.items_of (slice_get p.structs n)) h
  raised_kept a other e h = absurd (cc)

  ways_within : (next : ℕ) (a : ℕ) (there elsewhere : LlLink) → HasWays (order_of p) graph (blocks_code (order_of p) graph) next (exit.If a there elsewhere) → next + 1 < many
  ways_within next a there elsewhere w = slice_get_within (blocks_code (order_of p) graph) (next + 1) (link_code (order_of p) graph elsewhere) w.1

  exit_kept : (next : ℕ) (exit : LlExit) → HasWays (order_of p) graph (blocks_code (order_of p) graph) next exit → (exit_crosses graph exit ≡ true → any_crosses graph graph.blocks ≡ true) → exit_ok p graph exit ≡ true
      → Block (exit_code (order_of p) graph next exit)
  exit_kept next (exit.Goto link) w room h = link_kept link room h
  exit_kept next (exit.If a there elsewhere) w room h =
      let lt : next + 1 < many = ways_within next a there elsewhere w in
      only_end p vars (c_result graph.result) many (stmt.If a next (next + 1)) refl
      (and_both _ _ (and_both _ _ (has_kept p entry is le graph.types vars has type.Bool a (and_left _ _ (and_left _ _ h))) (is_below next many (omega (arith, lt)))) (is_below (next + 1) many lt))
  exit_kept next (exit.OnRaise a by without) w room h = link_kept without room (and_right (typed.is_raw p.stage && typed.points (slice_get graph.types a) && typed.link_if_any_ok p graph by) _ h)
  exit_kept next (exit.Return None) w room h = only_end p vars (c_result graph.result) many (stmt.Return None) refl (nothing_kept graph.result h)
  exit_kept next (exit.Return (Some x)) w room h = only_end p vars (c_result graph.result) many (stmt.Return (Some (lower.operand (order_of p) x))) refl (returned_kept graph.result x h)
  exit_kept next (exit.Raise a) w room h = absurd (let f : true ≡ false = sym (and_left (typed.is_raw p.stage) _ h) ∙ raw in cc)
  exit_kept next (exit.Fail n) w room h = only_end p vars (c_result graph.result) many (stmt.Fail n) refl h
  exit_kept next (exit.Raised a) w room h = only_end p vars (c_result graph.result) many (stmt.Raised a) refl (raised_kept a (slice_get graph.types a) refl h)

  -- ---- all blocks

  -- values wait on an exit of these blocks only where they do on one of the graph
  abbrev Room : List LlBlock → Type 0
  Room blocks = any_crosses graph blocks ≡ true → any_crosses graph graph.blocks ≡ true

  bodies_kept : (next : ℕ) (blocks : List LlBlock) → ((k : ℕ) (w : List CStmt) → slice_get (ways (order_of p) graph blocks) k ≡ Some w → slice_get (blocks_code (order_of p) graph) (next + k) ≡ Some w) → Room blocks
      → typed.blocks_ok p graph blocks ≡ true → AreBlocks p vars (c_result graph.result) many (bodies (order_of p) graph next blocks)
  bodies_kept next [] stand room h = refl
  bodies_kept next (b ∷ blocks) stand room h =
      and_both _ _
      (all_before p vars (c_result graph.result) many (map (statement (order_of p)) b.ops) (exit_code (order_of p) graph next b.exit) (operations_kept b.ops (and_left _ _ (and_left _ _ h)))
      (exit_kept next b.exit (own_ways (order_of p) graph (blocks_code (order_of p) graph) next b.exit (ways (order_of p) graph blocks) stand) (λ k. room (or_first (exit_crosses graph b.exit) (any_crosses graph blocks) k))
      (and_right (operations_ok p graph.types b.ops) _ (and_left _ _ h))))
      (bodies_kept (after next b.exit) blocks (later_ways (order_of p) graph (blocks_code (order_of p) graph) next b.exit (ways (order_of p) graph blocks) stand) (λ k. room (or_second (exit_crosses graph b.exit) (any_crosses graph blocks) k))
      (and_right (typed.block_ok p graph b) _ h))

  own_kept : (exit : LlExit) → (exit_crosses graph exit ≡ true → any_crosses graph graph.blocks ≡ true) → exit_ok p graph exit ≡ true → AreBlocks p vars (c_result graph.result) many (ways_of (order_of p) graph exit)
  own_kept (exit.If a there elsewhere) room h =
      and_both _ _ (link_kept there (λ k. room (or_first (link_crosses graph there) (link_crosses graph elsewhere) k)) (and_right (typed.has_type type.Bool (slice_get graph.types a)) _ (and_left _ _ h)))
      (and_both _ true (link_kept elsewhere (λ k. room (or_second (link_crosses graph there) (link_crosses graph elsewhere) k)) (and_right (typed.has_type type.Bool (slice_get graph.types a) && link_ok p graph there) _ h)) refl)
  own_kept other room h = refl

  ways_kept : (blocks : List LlBlock) → Room blocks → typed.blocks_ok p graph blocks ≡ true → AreBlocks p vars (c_result graph.result) many (ways (order_of p) graph blocks)
  ways_kept [] room h = refl
  ways_kept (b ∷ blocks) room h =
      blocks_both p vars (c_result graph.result) many (ways_of (order_of p) graph b.exit) (ways (order_of p) graph blocks)
      (own_kept b.exit (λ k. room (or_first (exit_crosses graph b.exit) (any_crosses graph blocks) k)) (and_right (operations_ok p graph.types b.ops) _ (and_left _ _ h)))
      (ways_kept blocks (λ k. room (or_second (exit_crosses graph b.exit) (any_crosses graph blocks) k)) (and_right (typed.block_ok p graph b) _ h))

  graph_blocks : typed.blocks_ok p graph graph.blocks ≡ true
  graph_blocks = and_right _ _ good

  code_kept : AreBlocks p vars (c_result graph.result) many (blocks_code (order_of p) graph)
  code_kept =
      blocks_both p vars (c_result graph.result) many (bodies (order_of p) graph (length graph.blocks) graph.blocks) (ways (order_of p) graph graph.blocks)
      (bodies_kept (length graph.blocks) graph.blocks (all_ways (order_of p) graph) (λ k. k) graph_blocks) (ways_kept graph.blocks (λ k. k) graph_blocks)

  -- ---- the function

  types_kept : ck.are_types (map c_struct p.structs) vars ≡ true
  types_kept = types_both (map c_type graph.types) (waiting_types graph) kinds (waiting (any_crosses graph graph.blocks))
    where
      kinds : ck.are_types (map c_struct p.structs) (map c_type graph.types) ≡ true
      kinds = kinds_kept p.structs graph.types (and_right (ck.is_name graph.name) _ (and_left _ _ (and_left _ _ (and_left _ _ (and_left _ _ good)))))

      types_both : (ss ts : List CType) → ck.are_types (map c_struct p.structs) ss ≡ true → ck.are_types (map c_struct p.structs) ts ≡ true → ck.are_types (map c_struct p.structs) (ss ++ ts) ≡ true
      types_both [] ts h k = k
      types_both (s ∷ ss) ts h k = and_both _ _ (and_left _ _ h) (types_both ss ts (and_right (ck.is_type (map c_struct p.structs) s) _ h) k)

      waiting : (b : Bool) → ck.are_types (map c_struct p.structs) (cond b (map c_type graph.types) []) ≡ true
      waiting true = kinds
      waiting false = refl

  pub function_kept : (n : ℕ) → slice_get (lowered p).prototypes n ≡ Some (prototype graph) → ck.may_stand (lowered p) n (function_code (order_of p) graph) ≡ true
      → ck.function_ok (lowered p) n (function_code (order_of p) graph) ≡ true
  function_kept n e stand =
      and_both _ _
      (and_both _ _
      (and_both _ _
      (and_both _ _
      (and_both _ _
      (and_both _ _ (and_left _ _ (and_left _ _ (and_left _ _ (and_left _ _ (and_left _ _ good)))))
      (ap (ck.is_declared (function_code (order_of p) graph)) e ∙ and_both _ _ (result_refl (c_result graph.result)) (all_same_refl (param_types graph))))
      (ap (ck.are_types (map c_struct p.structs)) same ∙ types_kept))
      (result_kept p.structs graph.result (and_right (ck.is_name graph.name && typed.are_kinds p.structs graph.types) _ (and_left _ _ (and_left _ _ (and_left _ _ good))))))
      stand)
      (is_below 0 many (omega (arith, some, enough))))
      (ap (λ vs. ck.blocks_ok (lowered p) vs (c_result graph.result) many (blocks_code (order_of p) graph)) same ∙ code_kept)
    where
      some : 0 < length graph.blocks
      some = is_less 0 (length graph.blocks) (and_right (ck.is_name graph.name && typed.are_kinds p.structs graph.types && typed.is_kind p.structs graph.result && typed.params_ok p graph.types 0 graph.params) _ (and_left _ _ good))

      same : ck.variables (function_code (order_of p) graph) ≡ map c_type graph.types ++ waiting_types graph
      same = variables_are p graph (params_of p graph good)

  pub prototype_kept : (n : ℕ) → n < length (lowered p).functions → ck.prototype_ok (lowered p) n (prototype graph) ≡ true
  prototype_kept n lt =
      and_both _ _ (and_both _ _ (is_below n (length (lowered p).functions) lt) (types_left (param_types graph) (map c_type (drop (length graph.params) graph.types) ++ waiting_types graph)
      (ap (ck.are_types (map c_struct p.structs)) (variables_are p graph (params_of p graph good)) ∙ types_kept)))
      (result_kept p.structs graph.result (and_right (ck.is_name graph.name && typed.are_kinds p.structs graph.types) _ (and_left _ _ (and_left _ _ (and_left _ _ good)))))
    where
      types_left : (ss ts : List CType) → ck.are_types (map c_struct p.structs) (ss ++ ts) ≡ true → ck.are_types (map c_struct p.structs) ss ≡ true
      types_left [] ts h = refl
      types_left (s ∷ ss) ts h = and_both _ _ (and_left _ _ h) (types_left ss ts (and_right (ck.is_type (map c_struct p.structs) s) _ h))

-- ---- graphs in order

abbrev same_graph : LlGraph → LlGraph
same_graph g = g

others_map : {A : Type 0} (f : LlGraph → A) (e n : ℕ) (graphs : List LlGraph) → others f e n graphs ≡ map f (others same_graph e n graphs)
others_map f e n [] = refl
others_map f e n (g ∷ graphs) = one (n == e) (others_map f e (n + 1) graphs)
  where
    one : (b : Bool) → others f e (n + 1) graphs ≡ map f (others same_graph e (n + 1) graphs) → cond b [] (f g ∷ []) ++ others f e (n + 1) graphs ≡ map f (cond b [] (g ∷ []) ++ others same_graph e (n + 1) graphs)
    one true h = h
    one false h = ap (λ l. f g ∷ l) h

graphs_both : (p : LlProgram) (gs hs : List LlGraph) → graphs_ok p gs ≡ true → graphs_ok p hs ≡ true → graphs_ok p (gs ++ hs) ≡ true
graphs_both p [] hs h k = k
graphs_both p (g ∷ gs) hs h k = and_both _ _ (and_left _ _ h) (graphs_both p gs hs (and_right (graph_ok p g) _ h) k)

others_good : (p : LlProgram) (e n : ℕ) (graphs : List LlGraph) → graphs_ok p graphs ≡ true → graphs_ok p (others same_graph e n graphs) ≡ true
others_good p e n [] h = refl
others_good p e n (g ∷ graphs) h = graphs_both p (unless same_graph e n g) (others same_graph e (n + 1) graphs) (one (n == e)) (others_good p e (n + 1) graphs (and_right (graph_ok p g) _ h))
  where
    one : (b : Bool) → graphs_ok p (cond b [] (g ∷ [])) ≡ true
    one true = refl
    one false = and_both _ true (and_left _ _ h) refl

graph_in : (p : LlProgram) (graphs : List LlGraph) (n : ℕ) (g : LlGraph) → graphs_ok p graphs ≡ true → slice_get graphs n ≡ Some g → graph_ok p g ≡ true
graph_in p [] n g ok e = absurd (cc)
graph_in p (x ∷ graphs) zero g ok e = let f : x ≡ g = cc in subst (λ g. graph_ok p g ≡ true) f (and_left _ _ ok)
graph_in p (x ∷ graphs) (suc n) g ok e = graph_in p graphs n g (and_right (graph_ok p x) _ ok) e

-- ---- first that breaks a rule

all_good : {A : Type 0} (ok : ℕ → A → Bool) (n : ℕ) (xs : List A) → ((k : ℕ) (x : A) → slice_get xs k ≡ Some x → ok (n + k) x ≡ true) → first_bad ok n xs ≡ None
all_good ok n [] h = refl
all_good ok n (x ∷ xs) h =
    let e : n ≡ n + 0 = omega arith in
    ap (λ b. if b then first_bad ok (n + 1) xs else Some n) (ap (λ k. ok k x) e ∙ h 0 x refl)
    ∙ all_good ok (n + 1) xs (λ k y f. (let g : n + 1 + k ≡ n + suc k = omega arith in ap (λ k. ok k y) g ∙ h (suc k) y f))

past : (b : ℕ) (o rest : Option ℕ) → o ≡ None → rest ≡ None → or_else b o rest ≡ None
past b None rest e h = h
past b (Some n) rest e h = absurd (cc)

some_functions : (b : ℕ) (fs : List CFunction) (f : CFunction) → no_functions b (fs ++ f ∷ []) ≡ None
some_functions b [] f = refl
some_functions b (g ∷ fs) f = refl

module _ (p : LlProgram) (ok : IsWellTyped p) (counted : p.stage ≡ stage.Counted) where
  module _ (entry : LlGraph) (is : slice_get p.graphs p.entry ≡ Some entry) (begins : begins_run (Some entry) ≡ true) where
    le : p.entry < length p.graphs
    le = slice_get_within p.graphs p.entry entry is

    raw : typed.is_raw p.stage ≡ false
    raw = ap typed.is_raw counted

    ordered : {A : Type 0} (f : LlGraph → A) → in_order f p ≡ map f (others same_graph p.entry 0 p.graphs ++ entry ∷ [])
    ordered f =
        ap (λ o. others f p.entry 0 p.graphs ++ only f o) is ∙ ap (λ l. l ++ f entry ∷ []) (others_map f p.entry 0 p.graphs)
        ∙ sym (map-append f (others same_graph p.entry 0 p.graphs) (entry ∷ []))

    all_graphs : graphs_ok p p.graphs ≡ true
    all_graphs = and_right _ _ (and_left _ _ ok)

    ordered_good : graphs_ok p (others same_graph p.entry 0 p.graphs ++ entry ∷ []) ≡ true
    ordered_good =
        graphs_both p (others same_graph p.entry 0 p.graphs) (entry ∷ []) (others_good p p.entry 0 p.graphs all_graphs) (and_both _ true (graph_in p p.graphs p.entry entry all_graphs is) refl)

    -- the graph at a place of the file
    abbrev Found : {A : Type 0} → (LlGraph → A) → ℕ → A → Type 0
    Found f k x = (graph : LlGraph) × (slice_get (others same_graph p.entry 0 p.graphs ++ entry ∷ []) k ≡ Some graph) × (f graph ≡ x) × (graph_ok p graph ≡ true)

    found : {A : Type 0} (f : LlGraph → A) (k : ℕ) (x : A) → slice_get (in_order f p) k ≡ Some x → Found f k x
    found f k x e = one (slice_get (others same_graph p.entry 0 p.graphs ++ entry ∷ []) k) refl (sym (ap (λ l. slice_get l k) (ordered f) ∙ get_map f (others same_graph p.entry 0 p.graphs ++ entry ∷ []) k) ∙ e)
      where
        one : (o : Option LlGraph) → slice_get (others same_graph p.entry 0 p.graphs ++ entry ∷ []) k ≡ o → option_map f o ≡ Some x → Found f k x
        one None g h = absurd (cc)
        one (Some graph) g h = (graph, g, cc, graph_in p (others same_graph p.entry 0 p.graphs ++ entry ∷ []) k graph ordered_good g)

    prototype_at : (k : ℕ) (graph : LlGraph) → slice_get (others same_graph p.entry 0 p.graphs ++ entry ∷ []) k ≡ Some graph → slice_get (in_order prototype p) k ≡ Some (prototype graph)
    prototype_at k graph e = ap (λ l. slice_get l k) (ordered prototype) ∙ get_map prototype (others same_graph p.entry 0 p.graphs ++ entry ∷ []) k ∙ ap (option_map prototype) e

    as_many : length (in_order (function_code (order_of p)) p) ≡ length (others same_graph p.entry 0 p.graphs) + 1
    as_many =
        ap length (ordered (function_code (order_of p))) ∙ length_map (function_code (order_of p)) (others same_graph p.entry 0 p.graphs ++ entry ∷ []) ∙ length_both (others same_graph p.entry 0 p.graphs) (entry ∷ [])

    two_ways : (m n : ℕ) → m < n + 1 → (m < n) ⊎ (m ≡ n)
    two_ways m n lt = grind arith

    no_params : (g : LlGraph) (vs : List ℕ) → takes_nothing vs ≡ true → same_types (map (λ v. type_or_word (slice_get g.types v)) vs) [] ≡ true
    no_params g [] h = refl
    no_params g (v ∷ vs) h = absurd (cc)

    signed : (t : LlType) → is_signed t ≡ true → same_result (c_result t) (Some c.Signed) ≡ true
    signed type.Signed h = refl
    signed other h = absurd (cc)

    entry_begins : ck.begins_run (function_code (order_of p) entry) ≡ true
    entry_begins = and_both _ _ (no_params entry entry.params (and_left _ _ begins)) (signed entry.result (and_right (takes_nothing entry.params) _ begins))

    or_true : (a : Bool) → (a || true) ≡ true
    or_true true = refl
    or_true false = refl

    stands : (k : ℕ) (graph : LlGraph) → slice_get (others same_graph p.entry 0 p.graphs ++ entry ∷ []) k ≡ Some graph → ck.may_stand (lowered p) k (function_code (order_of p) graph) ≡ true
    stands k graph e = one (two_ways k (length (others same_graph p.entry 0 p.graphs)) (let lt : k < length (others same_graph p.entry 0 p.graphs ++ entry ∷ []) = slice_get_within _ k graph e in
        let m : length (others same_graph p.entry 0 p.graphs ++ entry ∷ []) ≡ length (others same_graph p.entry 0 p.graphs) + 1 = length_both (others same_graph p.entry 0 p.graphs) (entry ∷ []) in omega (arith, lt, m)))
      where
        one : (k < length (others same_graph p.entry 0 p.graphs)) ⊎ (k ≡ length (others same_graph p.entry 0 p.graphs)) → ck.may_stand (lowered p) k (function_code (order_of p) graph) ≡ true
        one (inl lt) =
            ap (λ b. ck.begins_run (function_code (order_of p) graph) || b) (is_below (k + 1) (length (lowered p).functions) (let m : length (lowered p).functions ≡ length (others same_graph p.entry 0 p.graphs) + 1 = as_many in omega (arith, m, lt)))
            ∙ or_true (ck.begins_run (function_code (order_of p) graph))
        one (inr last) =
            let g : Some entry ≡ Some graph = sym (get_right (others same_graph p.entry 0 p.graphs) (entry ∷ []) k 0 (omega (arith, last))) ∙ e in
            let same : entry ≡ graph = cc in
            ap (λ b. b || nat_lt (k + 1) (length (lowered p).functions)) (subst (λ g. ck.begins_run (function_code (order_of p) g) ≡ true) same entry_begins)

    plus_nought : (k : ℕ) → 0 + k ≡ k
    plus_nought k = omega arith

    functions_kept : first_bad (ck.function_ok (lowered p)) 0 (lowered p).functions ≡ None
    functions_kept = all_good (ck.function_ok (lowered p)) 0 (lowered p).functions (λ k x e. ap (λ k. ck.function_ok (lowered p) k x) (plus_nought k) ∙ one k x (found (function_code (order_of p)) k x e))
      where
        one : (k : ℕ) (x : CFunction) → Found (function_code (order_of p)) k x → ck.function_ok (lowered p) k x ≡ true
        one k x (graph, e, f, good) = subst (λ x. ck.function_ok (lowered p) k x ≡ true) f (function_kept p entry is le raw graph good k (prototype_at k graph e) (stands k graph e))

    prototypes_kept : first_bad (ck.prototype_ok (lowered p)) 0 (lowered p).prototypes ≡ None
    prototypes_kept = all_good (ck.prototype_ok (lowered p)) 0 (lowered p).prototypes (λ k x e. ap (λ k. ck.prototype_ok (lowered p) k x) (plus_nought k) ∙ one k x (found prototype k x e))
      where
        one : (k : ℕ) (x : CPrototype) → Found prototype k x → ck.prototype_ok (lowered p) k x ≡ true
        one k x (graph, e, f, good) =
            let lt : k < length (others same_graph p.entry 0 p.graphs ++ entry ∷ []) = slice_get_within _ k graph e in
            let m : length (others same_graph p.entry 0 p.graphs ++ entry ∷ []) ≡ length (others same_graph p.entry 0 p.graphs) + 1 = length_both (others same_graph p.entry 0 p.graphs) (entry ∷ []) in
            let n : length (lowered p).functions ≡ length (others same_graph p.entry 0 p.graphs) + 1 = as_many in
            subst (λ x. ck.prototype_ok (lowered p) k x ≡ true) f (prototype_kept p entry is le raw graph good k (omega (arith, lt, m, n)))

    structs_kept : (n : ℕ) (ss : List LlStruct) → typed.structs_ok p.structs n ss ≡ true → first_bad (ck.struct_ok (map c_struct p.structs)) n (map c_struct ss) ≡ None
    structs_kept n [] h = refl
    structs_kept n (s ∷ ss) h =
        ap (λ b. if b then first_bad (ck.struct_ok (map c_struct p.structs)) (n + 1) (map c_struct ss) else Some n) (struct_kept p.structs n s (and_left _ _ h))
        ∙ structs_kept (n + 1) ss (and_right (typed.struct_ok p.structs n s) _ h)

    statics_kept : (n : ℕ) (ss : List CStatic) → typed.statics_ok p n ss ≡ true → first_bad (ck.static_ok (lowered p)) n (map (static_code (order_of p)) ss) ≡ None
    statics_kept n [] h = refl
    statics_kept n (s ∷ ss) h =
        ap (λ b. if b then first_bad (ck.static_ok (lowered p)) (n + 1) (map (static_code (order_of p)) ss) else Some n) (static_kept p entry is le n s (and_left _ _ h))
        ∙ statics_kept (n + 1) ss (and_right (typed.static_ok p n s) _ h)

    kept : IsChecked (lowered p)
    kept =
        past 1 _ _ (structs_kept 0 p.structs (and_left _ _ (and_left _ _ (and_left _ _ ok))))
        (past (1 + length (lowered p).structs) _ _ prototypes_kept
        (past (1 + length (lowered p).structs + length (lowered p).prototypes) _ _ (statics_kept 0 p.statics (and_right (typed.structs_ok p.structs 0 p.structs) _ (and_left _ _ (and_left _ _ ok))))
        (past (1 + length (lowered p).structs + length (lowered p).prototypes + length (lowered p).statics) _ _ functions_kept
        (ap (no_functions (length (lowered p).structs + length (lowered p).prototypes + length (lowered p).statics)) (ap (λ o. others (function_code (order_of p)) p.entry 0 p.graphs ++ only (function_code (order_of p)) o) is)
        ∙ some_functions (length (lowered p).structs + length (lowered p).prototypes + length (lowered p).statics) (others (function_code (order_of p)) p.entry 0 p.graphs) (function_code (order_of p) entry)))))

  pub lowered_is_checked : IsChecked (lowered p)
  lowered_is_checked = let e = entry_of p ok in kept e.0 e.1 e.2
