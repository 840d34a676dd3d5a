-- The pieces of blocks keep the rules.
use Rattle.std.proofs.Common.{◌≡◌, ◌<◌, ℕ, ◌+◌, Bool, true, false, ◌||◌, ◌==◌, List, [], ◌∷◌, ◌++◌, length, Option, Some, None, refl, sym, ap, ◌∙◌, subst, arith, pos}
use Rattle.std.specs.Prelude.{slice_get, nat_lt, cond, is_some}
use Rattle.csub_tree.specs.declared.tree.CConst.TheVariants as constant
use Rattle.csub_tree.specs.declared.tree.COperand.TheVariants.{Var}
use Rattle.ll_code.specs.Typed.{has_type, same_type, has_given, given_takes, all_given, points, pointer_type, same_pointers, is_void, is_of_any, operation_ok, operations_ok, enters, link_ok, return_ok, names_chars, exit_ok, block_ok, blocks_ok, graph_ok, are_kinds, is_kind, is_type_given, params_ok}
use Rattle.csub_tree.specs.Checked.{is_name}
use Rattle.ll_code.specs.declared.program.LlStage.TheVariants as stage
use Rattle.ll_code.specs.declared.program.LlType.{LlType}
use Rattle.ll_code.specs.declared.program.LlType.TheVariants as type
use Rattle.ll_code.specs.declared.program.LlLink.{LlLink}
use Rattle.ll_code.specs.declared.program.LlOp.{LlOp}
use Rattle.ll_code.specs.declared.program.LlOp.TheVariants as op
use Rattle.ll_code.specs.declared.program.LlExit.{LlExit}
use Rattle.ll_code.specs.declared.program.LlExit.TheVariants as exit
use Rattle.ll_code.specs.declared.program.LlBlock.{LlBlock}
use Rattle.ll_code.specs.declared.program.LlGraph.{LlGraph}
use Rattle.ll_code.specs.declared.program.LlProgram.{LlProgram}
use Rattle.ll_laws.proofs.Values.{and_left, and_right, is_less}
use Rattle.exc_transform.specs.declared.family.Family.{Family}
use Rattle.exc_transform.specs.declared.pieces.Ending.{Ending}
use Rattle.exc_transform.specs.declared.pieces.Ending.TheVariants.{Leaves, Raises, Tested}
use Rattle.exc_transform.specs.Explicit.{is_calm, is_tested, led_to, or_else, kind_of, default_of, raising_by, raising, testing, taking, same_led, giving, left_ops, left_exit, way_ops, way_exit, raised_ops}
use Rattle.exc_transform.specs.Explicit as spec
use Rattle.exc_transform.specs.Raising.{any_marked, may_raise, exit_leaves, some_raises, raises_within}
use Rattle.exc_transform.specs.Live.{live, handler_reads, as_operands}
use Rattle.exc_transform.specs.Pieces.{Around, around_graph, graph_of, test_types, way_block, onward, on_by, on, link_to, test_exit, ending_in, ops_by, exit_by, piece_ops, piece_exit, rest_blocks, behind_by, behind, behind_block, firsts, others, blocks_of}
use Rattle.exc_transform.proofs.Without.{raises_is, tested_calm, leaves_calm}
use Rattle.exc_laws.proofs.Tests.{and_both, or_first, or_second, equals, is_below, get_left, get_right, length_both}
use Rattle.exc_laws.proofs.Kept.{New, kept, takes_kept, given_kept, all_given_kept, points_kept, operation_kept}
use Rattle.exc_laws.proofs.Families.{FamilyFits, leads}
use Rattle.exc_laws.proofs.Typed.{all_there, own_type, handler_there, live_there}
use Rattle.exc_laws.specs.Stands.{From}
use Rattle.exc_laws.proofs.Places.{from_left, from_right, firsts_count, block_placed, others_from}

pub tested_raises : (marks : List Bool) (any : Bool) (o : LlOp) → is_tested marks any o ≡ true → may_raise marks any o ≡ true
tested_raises marks any (op.Raise a) e = refl
tested_raises marks any other e = e

module _ (p : LlProgram) (raw : p.stage ≡ stage.Raw) (family : Family) (marks : List Bool) (fits : FamilyFits p.structs family) (g : LlGraph) (good : graph_ok p g ≡ true) where
  abbrev More : List LlType
  More = test_types family (raises_within marks (any_marked marks) g.blocks)

  abbrev All : List LlType
  All = g.types ++ More

  abbrev Here : Around
  Here = around_graph family marks (any_marked marks) g

  abbrev Next : LlProgram
  Next = New p family marks

  abbrev Made : LlGraph
  Made = graph_of family marks g

  abbrev OpsOk : List LlOp → Type 0
  OpsOk ops = operations_ok Next All ops ≡ true

  kinds : are_kinds p.structs g.types ≡ true
  kinds = and_right _ _ (and_left _ _ (and_left _ _ (and_left _ _ (and_left _ _ good))))

  -- ---- the variables for tests

  abbrev HasTests : Type 0
  HasTests = (slice_get All (length g.types) ≡ Some (type.Ptr (kind_of family))) × (slice_get All (length g.types + 1) ≡ Some type.Bool)

  has_tests : raises_within marks (any_marked marks) g.blocks ≡ true → HasTests
  has_tests e =
      let f : length g.types ≡ length g.types + 0 = omega arith in
      (ap (slice_get All) f ∙ get_right g.types More 0 ∙ ap (λ b. slice_get (test_types family b) 0) e, get_right g.types More 1 ∙ ap (λ b. slice_get (test_types family b) 1) e)

  kind_points : HasTests → points (slice_get All (length g.types)) ≡ true
  kind_points t = ap points t.0

  pointer : (v : ℕ) → points (slice_get g.types v) ≡ true → points (slice_get All v) ≡ true
  pointer v h = points_kept p family marks g.types More v h

  -- ---- operations on the slots

  ops_both : (xs ys : List LlOp) → OpsOk xs → OpsOk ys → OpsOk (xs ++ ys)
  ops_both [] ys h k = k
  ops_both (x ∷ xs) ys h k = and_both (operation_ok Next All x) (operations_ok Next All (xs ++ ys)) (and_left _ _ h) (ops_both xs ys (and_right (operation_ok Next All x) _ h) k)

  raising_ok : HasTests → (v : ℕ) → points (slice_get g.types v) ≡ true → OpsOk (raising family (length g.types) v)
  raising_ok t v h = by family.kind refl
    where
      set : OpsOk (op.ExcSet (length g.types) v ∷ [])
      set = and_both _ true (and_both _ _ (kind_points t) (pointer v h)) refl

      by : (o : Option ℕ) → family.kind ≡ o → OpsOk (raising_by family.root o (length g.types) v)
      by None e = and_both _ true (and_both _ _ (pointer v h) (pointer v h)) refl
      by (Some n) e =
          let k : kind_of family ≡ n = ap (or_else family.root) e in
          and_both _ (operations_ok Next All (op.ExcSet (length g.types) v ∷ []))
          (and_both _ _ (pointer v h) (ap (has_given All (length g.types)) (fits.field n e) ∙ ap (has_type (type.Ptr n)) t.0 ∙ equals n (kind_of family) (sym k))) set

  testing_ok : HasTests → OpsOk (testing family (length g.types) (length g.types + 1))
  testing_ok t =
      and_both _ _ (and_both _ _ (is_below (kind_of family) (length p.structs) fits.kind) (ap (has_type (type.Ptr (kind_of family))) t.0 ∙ equals (kind_of family) (kind_of family) refl))
      (and_both _ true (and_both _ _ (ap (has_type type.Bool) t.1) (ap (λ o. same_pointers (pointer_type o) (Some None)) t.0)) refl)

  taking_ok : (a : ℕ) → points (slice_get g.types a) ≡ true → OpsOk (taking family g.types a)
  taking_ok a h = from (leads p.structs g.types a kinds h)
    where
      from : (n : ℕ) × (slice_get g.types a ≡ Some (type.Ptr n)) × (n < length p.structs) → OpsOk (taking family g.types a)
      from (n, e, lt) =
          let f : led_to g.types a ≡ Some n = ap spec.pointed e in
          and_both _ true
          (ap (λ o. operation_ok Next All (op.ExcValue a (or_else family.root o))) f
          ∙ and_both _ _ (is_below n (length p.structs) lt) (ap (has_type (type.Ptr n)) (get_left g.types More a (type.Ptr n) e) ∙ equals n n refl))
          refl

  giving_ok : HasTests → (a v : ℕ) → points (slice_get g.types a) ≡ true → points (slice_get g.types v) ≡ true → OpsOk (giving family g.types (length g.types) a v)
  giving_ok t a v h k = from (leads p.structs g.types a kinds h) (leads p.structs g.types v kinds k)
    where
      from : (m : ℕ) × (slice_get g.types a ≡ Some (type.Ptr m)) × (m < length p.structs) → (n : ℕ) × (slice_get g.types v ≡ Some (type.Ptr n)) × (n < length p.structs) → OpsOk (giving family g.types (length g.types) a v)
      from (m, e, _) (n, f, _) = choose (same_led (led_to g.types a) (led_to g.types v)) refl
        where
          choose : (b : Bool) → same_led (led_to g.types a) (led_to g.types v) ≡ b → OpsOk (cond b (op.Set a (Var v) ∷ []) (raising family (length g.types) v ++ taking family g.types a))
          choose false i = ops_both (raising family (length g.types) v) (taking family g.types a) (raising_ok t v k) (taking_ok a h)
          choose true i =
              let j : (m == n) ≡ true = sym (ap (λ o. same_led o (led_to g.types v)) (ap spec.pointed e) ∙ ap (same_led (Some m)) (ap spec.pointed f)) ∙ i in
              and_both _ true (given_kept p family marks g.types More g.types More a (Var v) (ap (λ o. given_takes p g.types o (Var v)) e ∙ ap (has_type (type.Ptr m)) f ∙ j)) refl

  -- ---- links

  link_kept : (l : LlLink) → link_ok p g l ≡ true → link_ok Next Made l ≡ true
  link_kept l h = one (slice_get g.blocks l.to) refl h
    where
      one : (o : Option LlBlock) → slice_get g.blocks l.to ≡ o → enters p g.types o l.args ≡ true → enters Next All (slice_get (blocks_of Here g.blocks) l.to) l.args ≡ true
      one None e h = absurd (cc)
      one (Some b) e h = ap (λ o. enters Next All o l.args) (block_placed Here g.blocks l.to b e).1 ∙ all_given_kept p family marks g.types More g.types More b.inputs l.args h

  given_live : (vs : List ℕ) → all_there g.types vs ≡ true → all_given Next All All vs (as_operands vs) ≡ true
  given_live [] h = refl
  given_live (v ∷ vs) h = and_both _ (all_given Next All All vs (as_operands vs)) (here (own_type (slice_get g.types v) (and_left _ _ h))) (given_live vs (and_right _ _ h))
    where
      here : (t : LlType) × (slice_get g.types v ≡ Some t) × (same_type t t ≡ true) → given_takes Next All (slice_get All v) (Var v) ≡ true
      here (t, e, s) = let k : slice_get All v ≡ Some t = get_left g.types More v t e in ap (λ o. given_takes Next All o (Var v)) k ∙ ap (has_type t) k ∙ s

  -- ---- exits

  default_ok : exit_ok Next Made (exit.Return (default_of g.result)) ≡ true
  default_ok = by g.result refl
    where
      by : (t : LlType) → g.result ≡ t → return_ok Next Made (default_of t) ≡ true
      by type.Signed e = ap (λ t. is_of_any Next t (constant.Word (pos 0))) e
      by type.Char e = ap (λ t. is_of_any Next t (constant.Char 0)) e
      by type.Bool e = ap (λ t. is_of_any Next t (constant.Bool false)) e
      by type.Void e = ap is_void e
      by type.Fn e = ap (λ t. is_of_any Next t constant.Null) e
      by (type.Ptr n) e = ap (λ t. is_of_any Next t constant.Null) e

  left_ops_ok : (e : LlExit) → exit_ok p g e ≡ true → (exit_leaves e ≡ true → HasTests) → OpsOk (left_ops family (length g.types) e)
  left_ops_ok (exit.Raise v) h t = raising_ok (t refl) v (and_right _ _ h)
  left_ops_ok other h t = refl

  left_exit_ok : (e : LlExit) → exit_ok p g e ≡ true → exit_ok Next Made (left_exit g.result e) ≡ true
  left_exit_ok (exit.Goto l) h = link_kept l h
  left_exit_ok (exit.If a there elsewhere) h =
      and_both _ _ (and_both _ _ (kept (has_type type.Bool) refl g.types More a (and_left _ _ (and_left _ _ h))) (link_kept there (and_right _ _ (and_left _ _ h)))) (link_kept elsewhere (and_right _ _ h))
  left_exit_ok (exit.OnRaise a by without) h = link_kept without (and_right _ _ h)
  left_exit_ok (exit.Return None) h = h
  left_exit_ok (exit.Return (Some x)) h = takes_kept p family marks g.types More g.result x h
  left_exit_ok (exit.Raise a) h = default_ok
  left_exit_ok (exit.Fail n) h = h
  left_exit_ok (exit.Raised a) h = kept (names_chars p.structs) refl g.types More a h

  way_exit_ok : (rest : List LlOp) (e : LlExit) → exit_ok p g e ≡ true → exit_ok Next Made (way_exit g.result rest e) ≡ true
  way_exit_ok [] (exit.OnRaise a (Some by) without) h = link_kept by (and_right _ _ (and_left _ _ h))
  way_exit_ok [] (exit.OnRaise a None without) h = default_ok
  way_exit_ok [] (exit.Goto l) h = default_ok
  way_exit_ok [] (exit.If a there elsewhere) h = default_ok
  way_exit_ok [] (exit.Return x) h = default_ok
  way_exit_ok [] (exit.Raise a) h = default_ok
  way_exit_ok [] (exit.Fail n) h = default_ok
  way_exit_ok [] (exit.Raised a) h = default_ok
  way_exit_ok (o ∷ rest) e h = default_ok

  way_ops_ok : (rest : List LlOp) (e : LlExit) → exit_ok p g e ≡ true → OpsOk (way_ops family g.types rest e)
  way_ops_ok [] (exit.OnRaise a (Some by) without) h = taking_ok a (and_right _ _ (and_left _ _ (and_left _ _ h)))
  way_ops_ok [] (exit.OnRaise a None without) h = refl
  way_ops_ok [] (exit.Goto l) h = refl
  way_ops_ok [] (exit.If a there elsewhere) h = refl
  way_ops_ok [] (exit.Return x) h = refl
  way_ops_ok [] (exit.Raise a) h = refl
  way_ops_ok [] (exit.Fail n) h = refl
  way_ops_ok [] (exit.Raised a) h = refl
  way_ops_ok (o ∷ rest) e h = refl

  raised_ops_ok : HasTests → (v : ℕ) → points (slice_get g.types v) ≡ true → (rest : List LlOp) (e : LlExit) → exit_ok p g e ≡ true → OpsOk (raised_ops family g.types (length g.types) v rest e)
  raised_ops_ok t v k [] (exit.OnRaise a (Some by) without) h = giving_ok t a v (and_right _ _ (and_left _ _ (and_left _ _ h))) k
  raised_ops_ok t v k [] (exit.OnRaise a None without) h = raising_ok t v k
  raised_ops_ok t v k [] (exit.Goto l) h = raising_ok t v k
  raised_ops_ok t v k [] (exit.If a there elsewhere) h = raising_ok t v k
  raised_ops_ok t v k [] (exit.Return x) h = raising_ok t v k
  raised_ops_ok t v k [] (exit.Raise a) h = raising_ok t v k
  raised_ops_ok t v k [] (exit.Fail n) h = raising_ok t v k
  raised_ops_ok t v k [] (exit.Raised a) h = raising_ok t v k
  raised_ops_ok t v k (o ∷ rest) e h = raising_ok t v k

  onward_ok : (rest : List LlOp) (e : LlExit) (l : LlLink) → exit_ok p g e ≡ true → onward rest e ≡ Some l → link_ok p g l ≡ true
  onward_ok [] (exit.Goto m) l h f = let i : m ≡ l = cc in subst (λ l. link_ok p g l ≡ true) i h
  onward_ok [] (exit.OnRaise a by without) l h f = let i : without ≡ l = cc in subst (λ l. link_ok p g l ≡ true) i (and_right _ _ h)
  onward_ok [] (exit.If a there elsewhere) l h f = absurd (cc)
  onward_ok [] (exit.Return x) l h f = absurd (cc)
  onward_ok [] (exit.Raise a) l h f = absurd (cc)
  onward_ok [] (exit.Fail n) l h f = absurd (cc)
  onward_ok [] (exit.Raised a) l h f = absurd (cc)
  onward_ok (o ∷ rest) e l h f = absurd (cc)

  abbrev Blocks : List LlBlock
  Blocks = blocks_of Here g.blocks

  test_exit_ok : (rest : List LlOp) (e : LlExit) (way : ℕ) (more : List LlBlock) → HasTests → operations_ok p g.types rest ≡ true → exit_ok p g e ≡ true
      → From Blocks way (way_block Here rest e ∷ rest_blocks Here rest e way (is_some (onward rest e)) more) → exit_ok Next Made (test_exit Here rest e way) ≡ true
  test_exit_ok rest e way more t h k at =
      and_both _ (link_ok Next Made (link_to way (as_operands (handler_reads rest e))))
      (and_both _ (link_ok Next Made (on Here rest e way)) (ap (has_type type.Bool) t.1) (goes (onward rest e) refl at.1))
      (ap (λ o. enters Next All o (as_operands (handler_reads rest e))) at.0 ∙ given_live (handler_reads rest e) (handler_there p g rest e k))
    where
      goes : (o : Option LlLink) → onward rest e ≡ o → From Blocks (way + 1) (rest_blocks Here rest e way (is_some o) more) → link_ok Next Made (on_by Here rest e way o) ≡ true
      goes (Some l) f at = link_kept l (onward_ok rest e l k f)
      goes None f at =
          ap (λ o. enters Next All o (as_operands (live marks (any_marked marks) rest e))) at.0
          ∙ given_live (live marks (any_marked marks) rest e) (live_there p g marks (any_marked marks) false [] [] rest e refl h k)

  -- ---- pieces

  abbrev Need : List LlOp → LlExit → Type 0
  Need ops e = (exit_leaves e || some_raises marks (any_marked marks) ops) ≡ true → HasTests

  need_rest : (o : LlOp) (rest : List LlOp) (e : LlExit) → Need (o ∷ rest) e → Need rest e
  need_rest o rest e t h = t (more (exit_leaves e) (may_raise marks (any_marked marks) o) (some_raises marks (any_marked marks) rest) h)
    where
      more : (a b c : Bool) → (a || c) ≡ true → (a || (b || c)) ≡ true
      more true b c h = refl
      more false b c h = or_second b c h

  need_here : (o : LlOp) (rest : List LlOp) (e : LlExit) → Need (o ∷ rest) e → may_raise marks (any_marked marks) o ≡ true → HasTests
  need_here o rest e t h = t (or_second (exit_leaves e) _ (or_first (may_raise marks (any_marked marks) o) _ h))

  abbrev PieceOk : List LlOp → LlExit → ℕ → Type 0
  PieceOk ops e way = OpsOk (piece_ops Here ops e) × (exit_ok Next Made (piece_exit Here ops e way) ≡ true)

  next_way : (way : ℕ) (blocks : List LlBlock) → From Blocks (way + 1 + 1) blocks → From Blocks (way + 2) blocks
  next_way way blocks at = let e : way + 1 + 1 ≡ way + 2 = omega arith in subst (λ n. From Blocks n blocks) e at

  piece_ok : (ops : List LlOp) (e : LlExit) (way : ℕ) → operations_ok p g.types ops ≡ true → exit_ok p g e ≡ true → Need ops e → From Blocks way (behind Here way ops e) → PieceOk ops e way
  piece_ok [] e way h k t at = (left_ops_ok e k (λ f. t (or_first (exit_leaves e) false f)), left_exit_ok e k)
  piece_ok (o ∷ rest) e way h k t at = by (λ at. piece_ok rest e way (and_right (operation_ok p g.types o) _ h) k (need_rest o rest e t) at) (ending_in Here o) refl at
    where
      by : (From Blocks way (behind Here way rest e) → PieceOk rest e way) → (x : Ending) → ending_in Here o ≡ x → From Blocks way (behind_by Here rest e way x (behind Here (way + 2) rest e) (behind Here way rest e))
          → OpsOk (ops_by Here o rest e x (piece_ops Here rest e)) × (exit_ok Next Made (exit_by Here rest e way x (piece_exit Here rest e way)) ≡ true)
      by go (Raises v) f at =
          let is : o ≡ op.Raise v = raises_is marks (any_marked marks) o v f in
          let own : operation_ok p g.types (op.Raise v) ≡ true = subst (λ o. operation_ok p g.types o ≡ true) is (and_left _ _ h) in
          (raised_ops_ok (need_here o rest e t (subst (λ o. may_raise marks (any_marked marks) o ≡ true) (sym is) refl)) v (and_right _ _ own) rest e k, way_exit_ok rest e k)
      by go Tested f at =
          let c = tested_calm marks (any_marked marks) o f in
          let tests : HasTests = need_here o rest e t (tested_raises marks (any_marked marks) o c.1) in (
            and_both _ (operations_ok Next All (testing family (length g.types) (length g.types + 1))) (operation_kept p family marks g.types More raw o c.0 (and_left _ _ h)) (testing_ok tests),
            test_exit_ok rest e way (behind Here (way + 2) rest e) tests (and_right _ _ h) k at,
          )
      by go Leaves f at =
          let more : PieceOk rest e way = go at in
          (and_both _ (operations_ok Next All (piece_ops Here rest e)) (operation_kept p family marks g.types More raw o (leaves_calm marks (any_marked marks) o f) (and_left _ _ h)) more.0, more.1)

  way_block_ok : (rest : List LlOp) (e : LlExit) → exit_ok p g e ≡ true → block_ok Next Made (way_block Here rest e) ≡ true
  way_block_ok rest e k = and_both _ (exit_ok Next Made (way_exit g.result rest e)) (way_ops_ok rest e k) (way_exit_ok rest e k)

  behind_ok : (ops : List LlOp) (e : LlExit) (way : ℕ) → operations_ok p g.types ops ≡ true → exit_ok p g e ≡ true → Need ops e → From Blocks way (behind Here way ops e) → blocks_ok Next Made (behind Here way ops e) ≡ true
  behind_ok [] e way h k t at = refl
  behind_ok (o ∷ rest) e way h k t at = by (λ way at. behind_ok rest e way (and_right (operation_ok p g.types o) _ h) k (need_rest o rest e t) at) (ending_in Here o) at
    where
      rests : ((way : ℕ) → From Blocks way (behind Here way rest e) → blocks_ok Next Made (behind Here way rest e) ≡ true) → (b : Bool) → From Blocks (way + 1) (rest_blocks Here rest e way b (behind Here (way + 2) rest e)) → blocks_ok Next Made (rest_blocks Here rest e way b (behind Here (way + 2) rest e)) ≡ true
      rests go true at = refl
      rests go false at =
          let on : From Blocks (way + 2) (behind Here (way + 2) rest e) = next_way way (behind Here (way + 2) rest e) at.1 in
          let own : PieceOk rest e (way + 2) = piece_ok rest e (way + 2) (and_right _ _ h) k (need_rest o rest e t) on in
          and_both _ (blocks_ok Next Made (behind Here (way + 2) rest e)) (and_both _ (exit_ok Next Made (piece_exit Here rest e (way + 2))) own.0 own.1) (go (way + 2) on)

      by : ((way : ℕ) → From Blocks way (behind Here way rest e) → blocks_ok Next Made (behind Here way rest e) ≡ true) → (x : Ending) → From Blocks way (behind_by Here rest e way x (behind Here (way + 2) rest e) (behind Here way rest e)) → blocks_ok Next Made (behind_by Here rest e way x (behind Here (way + 2) rest e) (behind Here way rest e)) ≡ true
      by go (Raises v) at = refl
      by go Tested at = and_both _ (blocks_ok Next Made (rest_blocks Here rest e way (is_some (onward rest e)) (behind Here (way + 2) rest e))) (way_block_ok rest e k) (rests go (is_some (onward rest e)) at.1)
      by go Leaves at = go way at

  -- ---- blocks

  blocks_both : (xs ys : List LlBlock) → blocks_ok Next Made xs ≡ true → blocks_ok Next Made ys ≡ true → blocks_ok Next Made (xs ++ ys) ≡ true
  blocks_both [] ys h k = k
  blocks_both (x ∷ xs) ys h k = and_both (block_ok Next Made x) (blocks_ok Next Made (xs ++ ys)) (and_left _ _ h) (blocks_both xs ys (and_right (block_ok Next Made x) _ h) k)

  abbrev NeedAll : List LlBlock → Type 0
  NeedAll blocks = raises_within marks (any_marked marks) blocks ≡ true → HasTests

  firsts_ok : (blocks : List LlBlock) (next : ℕ) → blocks_ok p g blocks ≡ true → NeedAll blocks → From Blocks next (others Here next blocks)
      → (blocks_ok Next Made (firsts Here next blocks) ≡ true) × (blocks_ok Next Made (others Here next blocks) ≡ true)
  firsts_ok [] next h t at = (refl, refl)
  firsts_ok (b ∷ blocks) next h t at =
      let here : From Blocks next (behind_block Here next b) = from_left Blocks next (behind_block Here next b) (others Here (next + length (behind_block Here next b)) blocks) at in
      let need : Need b.ops b.exit = λ f. t (or_first (exit_leaves b.exit || some_raises marks (any_marked marks) b.ops) _ f) in
      let ops : operations_ok p g.types b.ops ≡ true = and_left _ _ (and_left _ _ h) in
      let ends : exit_ok p g b.exit ≡ true = and_right (operations_ok p g.types b.ops) _ (and_left _ _ h) in
      let own : PieceOk b.ops b.exit next = piece_ok b.ops b.exit next ops ends need here in
      let more : (blocks_ok Next Made (firsts Here (next + length (behind_block Here next b)) blocks) ≡ true) × (blocks_ok Next Made (others Here (next + length (behind_block Here next b)) blocks) ≡ true) =
      firsts_ok blocks (next + length (behind_block Here next b)) (and_right (block_ok p g b) _ h) (λ f. t (or_second (exit_leaves b.exit || some_raises marks (any_marked marks) b.ops) _ f))
      (from_right Blocks next (behind_block Here next b) (others Here (next + length (behind_block Here next b)) blocks) at) in (
        and_both _ (blocks_ok Next Made (firsts Here (next + length (behind_block Here next b)) blocks)) (and_both _ (exit_ok Next Made (piece_exit Here b.ops b.exit next)) own.0 own.1) more.0,
        blocks_both (behind_block Here next b) (others Here (next + length (behind_block Here next b)) blocks) (behind_ok b.ops b.exit next ops ends need here) more.1,
      )

  all_blocks_ok : blocks_ok Next Made Blocks ≡ true
  all_blocks_ok =
      let both = firsts_ok g.blocks (length g.blocks) (and_right _ _ good) has_tests (others_from Here g.blocks) in
      blocks_both (firsts Here (length g.blocks) g.blocks) (others Here (length g.blocks) g.blocks) both.0 both.1

  -- ---- graphs

  kinds_both : (ts us : List LlType) → are_kinds p.structs ts ≡ true → are_kinds p.structs us ≡ true → are_kinds p.structs (ts ++ us) ≡ true
  kinds_both [] us h k = k
  kinds_both (t ∷ ts) us h k = and_both (is_kind p.structs t) (are_kinds p.structs (ts ++ us)) (and_left _ _ h) (kinds_both ts us (and_right (is_kind p.structs t) _ h) k)

  more_kinds : (b : Bool) → are_kinds p.structs (test_types family b) ≡ true
  more_kinds true = and_both _ true (is_below (kind_of family) (length p.structs) fits.kind) refl
  more_kinds false = refl

  params_kept : (n : ℕ) (vs : List ℕ) → params_ok p g.types n vs ≡ true → params_ok Next All n vs ≡ true
  params_kept n [] h = refl
  params_kept n (v ∷ vs) h =
      and_both _ (params_ok Next All (n + 1) vs) (and_both (v == n) (is_type_given p.structs (slice_get All v)) (and_left _ _ (and_left _ _ h)) (kept (is_type_given p.structs) refl g.types More v (and_right (v == n) _ (and_left _ _ h))))
      (params_kept (n + 1) vs (and_right _ _ h))

  count : nat_lt 0 (length g.blocks) ≡ true → nat_lt 0 (length Blocks) ≡ true
  count h =
      let a : length (firsts Here (length g.blocks) g.blocks) ≡ length g.blocks = firsts_count Here (length g.blocks) g.blocks in
      let b : length Blocks ≡ length (firsts Here (length g.blocks) g.blocks) + length (others Here (length g.blocks) g.blocks) = length_both (firsts Here (length g.blocks) g.blocks) (others Here (length g.blocks) g.blocks) in
      let c : 0 < length g.blocks = is_less 0 (length g.blocks) h in
      is_below 0 (length Blocks) (omega (arith, a, b, c))

  pub graph_kept : graph_ok Next Made ≡ true
  graph_kept =
      and_both _ (blocks_ok Next Made Blocks)
      (and_both _ (nat_lt 0 (length Blocks))
      (and_both _ (params_ok Next All 0 g.params)
      (and_both _ (is_kind p.structs g.result) (and_both (is_name g.name) (are_kinds p.structs All) (and_left _ _ (and_left _ _ (and_left _ _ (and_left _ _ (and_left _ _ good))))) (kinds_both g.types More kinds (more_kinds (raises_within marks (any_marked marks) g.blocks))))
      (and_right _ _ (and_left _ _ (and_left _ _ (and_left _ _ good)))))
      (params_kept 0 g.params (and_right _ _ (and_left _ _ (and_left _ _ good)))))
      (count (and_right _ _ (and_left _ _ good))))
      all_blocks_ok
