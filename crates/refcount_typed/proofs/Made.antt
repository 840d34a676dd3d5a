-- The graphs that are made keep the rules.
use Rattle.std.proofs.Common.{◌≡◌, ◌<◌, ℕ, suc, ◌+◌, true, ◌&&◌, ◌==◌, List, [], ◌∷◌, ◌++◌, length, Option, Some, None, refl, sym, ap, ◌∙◌, subst, arith, codes}
use Rattle.std.specs.Prelude.{slice_get, nat_lt}
use Rattle.std.specs.Fmt.{decimal}
use Rattle.csub_tree.specs.Checked.{is_name}
use Rattle.csub_tree.specs.declared.tree.COperand.TheVariants.{Var}
use Rattle.ll_code.specs.declared.program.LlType.{LlType}
use Rattle.ll_code.specs.declared.program.LlType.TheVariants as type
use Rattle.ll_code.specs.declared.program.LlOp.{LlOp}
use Rattle.ll_code.specs.declared.program.LlOp.TheVariants as op
use Rattle.ll_code.specs.declared.program.LlExit.TheVariants as exit
use Rattle.ll_code.specs.declared.program.LlBlock.{LlBlock}
use Rattle.ll_code.specs.declared.program.LlGraph.{LlGraph}
use Rattle.ll_code.specs.declared.program.LlProgram.{LlProgram}
use Rattle.ll_code.specs.Typed.{IsWellTyped, field_of, items_of, are_kinds, is_kind, params_ok, has_type, has_given, given_takes, points, exit_ok, operation_ok, operations_ok, block_ok, blocks_ok, graph_ok}
use Rattle.refcount_transform.specs.declared.plan.Held.{Held}
use Rattle.refcount_transform.specs.Plan.{Plan, plan_of, counts_at, root_of}
use Rattle.refcount_transform.specs.Made.{call, block_with, up_graph, down_graph, put_body, put_graph, put_item_body, put_item_graph, clear_graph, gets, drops, held_types, kind_read, value_read, slot_drop, slot_type, slots_graph}
use Rattle.refcount_transform.specs.Counted.{counted}
use Rattle.refcount_laws.specs.Graphs.{IsRoot}
use Rattle.refcount_laws.specs.Made.{counts_of, leads_to_roots}
use Rattle.refcount_typed.proofs.Tests.{and_both, equals}
use Rattle.refcount_typed.proofs.Named.{decimal_named, both_named}
use Rattle.refcount_typed.proofs.Fields.{Right, AllRight}
use Rattle.refcount_typed.proofs.Calls.{up_call, down_call, one_more}

pub self : (n : ℕ) → (n == n) ≡ true
self n = equals n n refl

abbrev pub Inside : LlProgram → ℕ → Type 0
Inside q n = nat_lt n (length q.structs) ≡ true

module _ (p : LlProgram) where
  pub up_good : (n : ℕ) → Inside (counted p) n → field_of (slice_get (counted p).structs n) 0 ≡ Some type.Signed → graph_ok (counted p) (up_graph n) ≡ true
  up_good n inside count = simp (self n, inside, count, decimal_named n) refl

  pub down_good : (n : ℕ) → Inside (counted p) n → field_of (slice_get (counted p).structs n) 0 ≡ Some type.Signed → field_of (slice_get (counted p).structs n) 1 ≡ Some type.Fn → graph_ok (counted p) (down_graph n) ≡ true
  down_good n inside count release = simp (self n, inside, count, release, decimal_named n) refl

  pub clear_good : (n m : ℕ) → Inside (counted p) (root_of (plan_of p) n) → items_of (slice_get (counted p).structs n) ≡ Some (type.Ptr m) → graph_ok (counted p) (clear_graph (plan_of p) n) ≡ true
  clear_good n m inside items = simp (self (root_of (plan_of p) n), inside, items, decimal_named n) refl

  pub graph_fine : (g : LlGraph) → is_name g.name ≡ true → are_kinds (counted p).structs g.types ≡ true → is_kind (counted p).structs g.result ≡ true → params_ok (counted p) g.types 0 g.params ≡ true → nat_lt 0 (length g.blocks) ≡ true
      → blocks_ok (counted p) g g.blocks ≡ true → graph_ok (counted p) g ≡ true
  graph_fine g a b c d e f =
      and_both ((((is_name g.name && are_kinds (counted p).structs g.types) && is_kind (counted p).structs g.result) && params_ok (counted p) g.types 0 g.params) && nat_lt 0 (length g.blocks)) (blocks_ok (counted p) g g.blocks)
      (and_both (((is_name g.name && are_kinds (counted p).structs g.types) && is_kind (counted p).structs g.result) && params_ok (counted p) g.types 0 g.params) (nat_lt 0 (length g.blocks))
      (and_both ((is_name g.name && are_kinds (counted p).structs g.types) && is_kind (counted p).structs g.result) (params_ok (counted p) g.types 0 g.params)
      (and_both (is_name g.name && are_kinds (counted p).structs g.types) (is_kind (counted p).structs g.result) (and_both (is_name g.name) (are_kinds (counted p).structs g.types) a b) c) d) e) f

  pub one_block : (g : LlGraph) (b : LlBlock) → operations_ok (counted p) g.types b.ops ≡ true → exit_ok (counted p) g b.exit ≡ true → blocks_ok (counted p) g (b ∷ []) ≡ true
  one_block g b h e = and_both (block_ok (counted p) g b) true (and_both (operations_ok (counted p) g.types b.ops) (exit_ok (counted p) g b.exit) h e) refl

module _ (p : LlProgram) (ok : IsWellTyped p) (leads : leads_to_roots p ≡ true) where
  abbrev plan : Plan
  plan = plan_of p

  abbrev Fine : List LlType → List LlOp → Type 0
  Fine types ops = operations_ok (counted p) types ops ≡ true

  pub more : (types : List LlType) (o : LlOp) (rest : List LlOp) → operation_ok (counted p) types o ≡ true → Fine types rest → Fine types (o ∷ rest)
  more types o rest h k = one_more p ok leads types o rest h k

  -- ---- writes

  pub put_good : (h : Held) → Right p h → Inside (counted p) (root_of plan h.owner) → Inside (counted p) h.to → graph_ok (counted p) (put_graph plan h) ≡ true
  put_good h right owner to =
      let types : List LlType = type.Ptr (root_of plan h.owner) ∷ type.Ptr h.to ∷ type.Ptr h.to ∷ [] in
      let up : LlOp = call (counts_at plan h.to).up (Var 1 ∷ []) in
      let get : LlOp = op.GetField 2 h.owner 0 h.number in
      let set : LlOp = op.SetField h.owner 0 h.number (Var 1) in
      let down : LlOp = call (counts_at plan h.to).down (Var 2 ∷ []) in
      graph_fine p (put_graph plan h)
      (both_named (codes "put_s" ++ decimal h.owner ++ codes "_") (decimal h.number) (both_named (codes "put_s" ++ decimal h.owner) (codes "_") (both_named (codes "put_s") (decimal h.owner) refl (decimal_named h.owner)) refl) (decimal_named h.number))
      (simp (owner, to) refl) refl (simp (owner, to) refl) refl
      (one_block p (put_graph plan h) (put_body plan h)
      (more types up (get ∷ set ∷ down ∷ []) (up_call p ok leads types h.to (Var 1) right.root (self h.to))
      (more types get (set ∷ down ∷ []) (ap (has_given types 2) right.field ∙ self h.to)
      (more types set (down ∷ []) (ap (λ o. given_takes (counted p) types o (Var 1)) right.field ∙ self h.to) (more types down [] (down_call p ok leads types h.to (Var 2) right.root (self h.to)) refl)))) refl)

  pub put_item_good : (n m : ℕ) → IsRoot (counts_of plan) m → items_of (slice_get (counted p).structs n) ≡ Some (type.Ptr m) → Inside (counted p) (root_of plan n) → Inside (counted p) m → graph_ok (counted p) (put_item_graph plan n m) ≡ true
  put_item_good n m root items owner to =
      let types : List LlType = type.Ptr (root_of plan n) ∷ type.Signed ∷ type.Ptr m ∷ type.Ptr m ∷ [] in
      let up : LlOp = call (counts_at plan m).up (Var 2 ∷ []) in
      let get : LlOp = op.GetItem 3 n 0 (Var 1) in
      let set : LlOp = op.SetItem n 0 (Var 1) (Var 2) in
      let down : LlOp = call (counts_at plan m).down (Var 3 ∷ []) in
      graph_fine p (put_item_graph plan n m) (both_named (codes "put_item_s") (decimal n) refl (decimal_named n)) (simp (owner, to) refl) refl (simp (owner, to) refl) refl
      (one_block p (put_item_graph plan n m) (put_item_body plan n m)
      (more types up (get ∷ set ∷ down ∷ []) (up_call p ok leads types m (Var 2) root (self m))
      (more types get (set ∷ down ∷ []) (ap (has_given types 3) items ∙ self m)
      (more types set (down ∷ []) (ap (λ o. given_takes (counted p) types o (Var 2)) items ∙ self m) (more types down [] (down_call p ok leads types m (Var 3) root (self m)) refl)))) refl)

  -- ---- exception slots

  pub slots_good : (kind value : Option ℕ) → ((n : ℕ) → kind ≡ Some n → IsRoot (counts_of plan) n × Inside (counted p) n) → ((n : ℕ) → value ≡ Some n → IsRoot (counts_of plan) n × Inside (counted p) n)
      → plan.slots.kind ≡ kind → plan.slots.value ≡ value → graph_ok (counted p) (slots_graph plan) ≡ true
  slots_good kind value k v ek ev =
      subst (λ o. graph_ok (counted p) (record { name = codes "clear_exception"; params = []; result = type.Void; types = slot_type o ∷ slot_type plan.slots.value ∷ []; blocks = block_with [] (kind_read o (value_read plan.slots.value (op.ExcClear ∷ slot_drop plan 0 o (slot_drop plan 1 plan.slots.value [])))) (exit.Return None) ∷ [] }) ≡ true) (sym ek)
      (subst (λ o. graph_ok (counted p) (record { name = codes "clear_exception"; params = []; result = type.Void; types = slot_type kind ∷ slot_type o ∷ []; blocks = block_with [] (kind_read kind (value_read o (op.ExcClear ∷ slot_drop plan 0 kind (slot_drop plan 1 o [])))) (exit.Return None) ∷ [] }) ≡ true) (sym ev) (by kind value k v))
    where
      types : Option ℕ → Option ℕ → List LlType
      types kind value = slot_type kind ∷ slot_type value ∷ []

      by : (kind value : Option ℕ) → ((n : ℕ) → kind ≡ Some n → IsRoot (counts_of plan) n × Inside (counted p) n) → ((n : ℕ) → value ≡ Some n → IsRoot (counts_of plan) n × Inside (counted p) n)
          → graph_ok (counted p) (record { name = codes "clear_exception"; params = []; result = type.Void; types = slot_type kind ∷ slot_type value ∷ []; blocks = block_with [] (kind_read kind (value_read value (op.ExcClear ∷ slot_drop plan 0 kind (slot_drop plan 1 value [])))) (exit.Return None) ∷ [] }) ≡ true
      by None None k v = refl
      by (Some n) None k v =
          let w : IsRoot (counts_of plan) n × Inside (counted p) n = k n refl in
          let down : operation_ok (counted p) (type.Ptr n ∷ type.Void ∷ []) (call (counts_at plan n).down (Var 0 ∷ [])) ≡ true = down_call p ok leads (type.Ptr n ∷ type.Void ∷ []) n (Var 0) w.0 (self n) in
          simp (self n, w.1, down) refl
      by None (Some n) k v =
          let w : IsRoot (counts_of plan) n × Inside (counted p) n = v n refl in
          let down : operation_ok (counted p) (type.Void ∷ type.Ptr n ∷ []) (call (counts_at plan n).down (Var 1 ∷ [])) ≡ true = down_call p ok leads (type.Void ∷ type.Ptr n ∷ []) n (Var 1) w.0 (self n) in
          simp (self n, w.1, down) refl
      by (Some n) (Some m) k v =
          let w : IsRoot (counts_of plan) n × Inside (counted p) n = k n refl in
          let x : IsRoot (counts_of plan) m × Inside (counted p) m = v m refl in
          let one : operation_ok (counted p) (type.Ptr n ∷ type.Ptr m ∷ []) (call (counts_at plan n).down (Var 0 ∷ [])) ≡ true = down_call p ok leads (type.Ptr n ∷ type.Ptr m ∷ []) n (Var 0) w.0 (self n) in
          let other : operation_ok (counted p) (type.Ptr n ∷ type.Ptr m ∷ []) (call (counts_at plan m).down (Var 1 ∷ [])) ≡ true = down_call p ok leads (type.Ptr n ∷ type.Ptr m ∷ []) m (Var 1) x.0 (self m) in
          simp (self n, self m, w.1, x.1, one, other) refl

  -- ---- release

  module _ (types : List LlType) (pt : points (slice_get types 0) ≡ true) where
    -- the variables from here on have the types of what is held
    abbrev Have : ℕ → List Held → Type 0
    Have v held = (i : ℕ) → i < length held → slice_get types (v + i) ≡ slice_get (held_types held) i

    next : (v : ℕ) (h : Held) (held : List Held) → Have v (h ∷ held) → Have (suc v) held
    next v h held have i lt = ap (slice_get types) (let z : suc v + i ≡ v + suc i = omega arith in z) ∙ have (suc i) (omega (arith, lt))

    here : (v : ℕ) (h : Held) (held : List Held) → Have v (h ∷ held) → slice_get types v ≡ Some (type.Ptr h.to)
    here v h held have = ap (slice_get types) (let z : v ≡ v + 0 = omega arith in z) ∙ have 0 (omega arith)

    pub gets_good : (v : ℕ) (held : List Held) (rest : List LlOp) → Have v held → AllRight p held → Fine types rest → Fine types (gets v held rest)
    gets_good v [] rest have right k = k
    gets_good v (h ∷ held) rest have right k =
        more types (op.GetField v h.owner 0 h.number) (gets (suc v) held rest)
        (and_both (points (slice_get types 0)) (has_given types v (field_of (slice_get (counted p).structs h.owner) h.number)) pt (ap (has_given types v) right.0.field ∙ ap (has_type (type.Ptr h.to)) (here v h held have) ∙ self h.to))
        (gets_good (suc v) held rest (next v h held have) right.1 k)

    pub drops_good : (v : ℕ) (held : List Held) → Have v held → AllRight p held → Fine types (drops plan v held [])
    drops_good v [] have right = refl
    drops_good v (h ∷ held) have right =
        more types (call (counts_at plan h.to).down (Var v ∷ [])) (drops plan (suc v) held [])
        (down_call p ok leads types h.to (Var v) right.0.root (ap (has_type (type.Ptr h.to)) (here v h held have) ∙ self h.to)) (drops_good (suc v) held (next v h held have) right.1)
