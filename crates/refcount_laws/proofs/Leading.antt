-- References lead where they led, whatever the counts.
use Rattle.std.proofs.Common.{◌≡◌, ℕ, zero, suc, ◌<◌, ◌≤◌, false, List, [], ◌∷◌, length, map, Option, Some, None, refl, sym, ap, ◌∙◌, subst, arith}
use Rattle.std.specs.Prelude.{slice_get, slice_set}
use Rattle.csub_tree.specs.State.{Value, Unset, Word, Byte, Flag, Fun, Null, Ptr, Static, Block}
use Rattle.csub_tree.specs.Layout.{begins_with}
use Rattle.csub_tree.specs.Operation.{is_unset}
use Rattle.csub_tree.specs.Statement.{read}
use Rattle.ll_code.specs.Machine.{shapes_of}
use Rattle.ll_code.specs.declared.program.LlProgram.{LlProgram}
use Rattle.refcount_laws.specs.Graphs.{Reference, Counts}
use Rattle.refcount_laws.specs.Ghost.{count, bare_at, Fixed, Alone, F, fixed_at, shown_fixed, as_first, Ghost, LeadsTo, AllLead, FieldsLead, ItemsLead, IsWhole}

-- a static that is counted
pub record Counted (t : Fixed) (kind : ℕ) (fields items : List Value) : Type 0 where
  pub n : ℕ
  pub is : t ≡ F n kind fields items

pub as_counted : (t : Fixed) (kind : ℕ) (fields items : List Value) → as_first t ≡ F 0 kind fields items → Counted t kind fields items
as_counted (Alone block) kind fields items e = absurd (cc)
as_counted (F n k fs is) kind fields items e =
    let e1 : k ≡ kind = cc in
    let e2 : fs ≡ fields = cc in
    let e3 : is ≡ items = cc in
    record { n = n; is = cc }

-- a static that is counted stands there
pub static_there : (t : List Fixed) (s n kind : ℕ) (fields items : List Value) → fixed_at t s ≡ F n kind fields items → slice_get (map shown_fixed t) s ≡ Some (shown_fixed (F n kind fields items))
static_there [] s n kind fields items e = absurd (cc)
static_there (d ∷ t) zero n kind fields items e = ap (λ d. Some (shown_fixed d)) e
static_there (d ∷ t) (suc s) n kind fields items e = static_there t s n kind fields items e

pub static_inside : (t : List Fixed) (s n kind : ℕ) (fields items : List Value) → fixed_at t s ≡ F n kind fields items → s < length t
static_inside [] s n kind fields items e = absurd (cc)
static_inside (d ∷ t) zero n kind fields items e = omega arith
static_inside (d ∷ t) (suc s) n kind fields items e = omega (arith, static_inside t s n kind fields items e)

pub set_statics : (t : List Fixed) (s : ℕ) (d : Fixed) → slice_set (map shown_fixed t) s (shown_fixed d) ≡ map shown_fixed (slice_set t s d)
set_statics [] s d = refl
set_statics (x ∷ t) zero d = refl
set_statics (x ∷ t) (suc s) d = ap (λ l. shown_fixed x ∷ l) (set_statics t s d)

pub lead_set : (q : LlProgram) (g : Ghost) (to : ℕ) (v : Value) → LeadsTo q g to v → is_unset v ≡ false
lead_set q g to Unset h = absurd h
lead_set q g to (Word z) h = absurd h
lead_set q g to (Byte b) h = absurd h
lead_set q g to (Flag b) h = absurd h
lead_set q g to (Fun f) h = absurd h
lead_set q g to Null h = refl
lead_set q g to (Ptr b) h = refl
lead_set q g to (Static s) h = refl

module _ (q : LlProgram) (c : Counts) (g g' : Ghost) (kinds : (b : ℕ) → (bare_at g'.blocks b).kind ≡ (bare_at g.blocks b).kind) (same_statics : (s : ℕ) → as_first (fixed_at g'.statics s) ≡ as_first (fixed_at g.statics s)) where
  pub lead_by_kind : (to : ℕ) (v : Value) → LeadsTo q g to v → LeadsTo q g' to v
  lead_by_kind to Unset h = absurd h
  lead_by_kind to (Word z) h = absurd h
  lead_by_kind to (Byte b) h = absurd h
  lead_by_kind to (Flag b) h = absurd h
  lead_by_kind to (Fun f) h = absurd h
  lead_by_kind to Null h = tt
  lead_by_kind to (Ptr b) h = ap (λ kind. begins_with (shapes_of q.structs) kind to) (kinds b) ∙ h
  lead_by_kind to (Static s) (n, kind, fields, items, e, h) =
      let x : Counted (fixed_at g'.statics s) kind fields items = as_counted (fixed_at g'.statics s) kind fields items (same_statics s ∙ ap as_first e) in (x.n, kind, fields, items, x.is, h)

  pub all_by_kind : (to : ℕ) (vs : List Value) → AllLead q g to vs → AllLead q g' to vs
  all_by_kind to [] h = tt
  all_by_kind to (v ∷ vs) h = (lead_by_kind to v h.0, all_by_kind to vs h.1)

  pub fields_by_kind : (held : List Reference) (fields : List Value) → FieldsLead q g held fields → FieldsLead q g' held fields
  fields_by_kind [] fields w = tt
  fields_by_kind (h ∷ held) fields w = (lead_by_kind h.to (read fields h.at) w.0, fields_by_kind held fields w.1)

  pub items_by_kind : (o : Option ℕ) (block : Block) → ItemsLead q c g o block → ItemsLead q c g' o block
  items_by_kind None block w = tt
  items_by_kind (Some m) block w = (all_by_kind m block.items w.0, w.1, w.2)

  pub whole_by_kind : (block : Block) → IsWhole q c g block → IsWhole q c g' block
  whole_by_kind block w = record { counted = w.counted; fields = fields_by_kind (c.held block.kind) block.fields w.fields; items = items_by_kind (c.items block.kind) block w.items }

module _ (q : LlProgram) (c : Counts) (g g' : Ghost) (same : (b : ℕ) → bare_at g'.blocks b ≡ bare_at g.blocks b) (same_statics : (s : ℕ) → as_first (fixed_at g'.statics s) ≡ as_first (fixed_at g.statics s)) where
  kinds : (b : ℕ) → (bare_at g'.blocks b).kind ≡ (bare_at g.blocks b).kind
  kinds b = ap (λ block. block.kind) (same b)

  pub lead_kept : (to : ℕ) (v : Value) → LeadsTo q g to v → LeadsTo q g' to v
  lead_kept to v h = lead_by_kind q c g g' kinds same_statics to v h

  pub all_kept : (to : ℕ) (vs : List Value) → AllLead q g to vs → AllLead q g' to vs
  all_kept to vs h = all_by_kind q c g g' kinds same_statics to vs h

  pub fields_kept : (held : List Reference) (fields : List Value) → FieldsLead q g held fields → FieldsLead q g' held fields
  fields_kept held fields h = fields_by_kind q c g g' kinds same_statics held fields h

  pub whole_kept : (block : Block) → IsWhole q c g block → IsWhole q c g' block
  whole_kept block w = whole_by_kind q c g g' kinds same_statics block w

  pub all_whole : ((b : ℕ) → 0 < count g.blocks b → IsWhole q c g (bare_at g.blocks b)) → ((b : ℕ) → count g'.blocks b ≤ count g.blocks b) → (b : ℕ) → 0 < count g'.blocks b → IsWhole q c g' (bare_at g'.blocks b)
  all_whole w less b lt = subst (IsWhole q c g') (sym (same b)) (whole_kept (bare_at g.blocks b) (w b (omega (arith, less b, lt))))
