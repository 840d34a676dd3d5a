-- What is no reference is written into a static.
use Rattle.std.proofs.Common.{◌≡◌, ◌≢◌, ◌⊎◌, inl, inr, ⊎_elim, ◌<◌, ℕ, zero, suc, ◌+◌, Bool, true, false, List, [], ◌∷◌, length, Option, Some, None, refl, sym, ap, ◌∙◌, subst, arith}
use Rattle.std.specs.Prelude.{slice_get, slice_set}
use Rattle.csub_tree.specs.State.{Value, Unset, Word, Byte, Flag, Fun, Null, Ptr, Static, Block}
use Rattle.csub_tree.specs.Layout.{begins_with}
use Rattle.ll_code.specs.Machine.{shapes_of}
use Rattle.ll_code.specs.declared.program.LlType.{LlType}
use Rattle.ll_code.specs.declared.program.LlProgram.{LlProgram}
use Rattle.refcount_transform.specs.Plan.{Plan, plan_of, is_counted}
use Rattle.refcount_laws.specs.Graphs.{Reference, Counts}
use Rattle.refcount_laws.specs.Ghost.{Ghost, Fixed, Alone, F, fixed_at, shown_fixed, bare_at, count, inner, memory, LeadsTo, AllLead, FieldsLead, ItemsLead, IsWhole, IsFixed, IsSmall, IsCounted}
use Rattle.refcount_laws.specs.Touched.{block_in}
use Rattle.refcount_laws.specs.Matches.{NearBlock, NearStatic, NearMemory, PointsTo, Pointing}
use Rattle.refcount_laws.proofs.Cells.{set_here, set_other, set_length}
use Rattle.refcount_laws.proofs.Leading.{set_statics, static_inside}
use Rattle.refcount_laws.proofs.Touching.{is_or_not}

get_here : {A : Type 0} (xs : List A) (a : ℕ) (x : A) → a < length xs → slice_get (slice_set xs a x) a ≡ Some x
get_here [] a x lt = absurd (omega (arith, lt))
get_here (y ∷ xs) zero x lt = refl
get_here (y ∷ xs) (suc a) x lt = get_here xs a x (omega (arith, lt))

get_other : {A : Type 0} (xs : List A) (a b : ℕ) (x : A) → a ≢ b → slice_get (slice_set xs a x) b ≡ slice_get xs b
get_other [] a b x ne = refl
get_other (y ∷ xs) zero zero x ne = absurd (ne refl)
get_other (y ∷ xs) zero (suc b) x ne = refl
get_other (y ∷ xs) (suc a) zero x ne = refl
get_other (y ∷ xs) (suc a) (suc b) x ne = get_other xs a b x (λ e. ne (ap suc e))

module _ (q : LlProgram) (c : Counts) (g : Ghost) (s n kind : ℕ) (fields items fields2 items2 : List Value) (is : fixed_at g.statics s ≡ F n kind fields items) where
  abbrev pub later : Ghost
  later = record g { statics = slice_set g.statics s (F n kind fields2 items2) }

  now : fixed_at later.statics s ≡ F n kind fields2 items2
  now = set_here g.statics s (F n kind fields2 items2) (Alone (record { kind = 0; fields = []; items = [] })) (static_inside g.statics s n kind fields items is)

  still : (t : ℕ) → s ≢ t → fixed_at later.statics t ≡ fixed_at g.statics t
  still t ne = set_other g.statics s t (F n kind fields2 items2) (Alone (record { kind = 0; fields = []; items = [] })) ne

  lead_on : (to : ℕ) (v : Value) → LeadsTo q g to v → LeadsTo q later to v
  lead_on to Unset h = absurd h
  lead_on to (Word z) h = absurd h
  lead_on to (Byte z) h = absurd h
  lead_on to (Flag z) h = absurd h
  lead_on to (Fun z) h = absurd h
  lead_on to Null h = tt
  lead_on to (Ptr b) h = h
  lead_on to (Static t) (m, k, fs, vs, e, of) =
      ⊎_elim (λ same. (let f : F n kind fields items ≡ F m k fs vs = sym is ∙ ap (fixed_at g.statics) same ∙ e in let kinds : kind ≡ k = cc in
      (n, kind, fields2, items2, ap (fixed_at later.statics) (sym same) ∙ now, ap (λ k. begins_with (shapes_of q.structs) k to) kinds ∙ of)))
      (λ ne. (m, k, fs, vs, still t ne ∙ e, of)) (is_or_not s t)

  all_on : (to : ℕ) (vs : List Value) → AllLead q g to vs → AllLead q later to vs
  all_on to [] h = tt
  all_on to (v ∷ vs) h = (lead_on to v h.0, all_on to vs h.1)

  fields_on : (held : List Reference) (fields : List Value) → FieldsLead q g held fields → FieldsLead q later held fields
  fields_on [] fields h = tt
  fields_on (r ∷ held) fields h = (lead_on r.to _ h.0, fields_on held fields h.1)

  items_on : (o : Option ℕ) (block : Block) → ItemsLead q c g o block → ItemsLead q c later o block
  items_on None block h = tt
  items_on (Some m) block h = (all_on m block.items h.0, h.1, h.2)

  pub fixed_counted : (own : Value → ℕ) → IsCounted q c g own → IsCounted q c later own
  fixed_counted own counts = record {
    blocks = counts.blocks;
    statics = λ t. ⊎_elim (λ e. subst (λ t. IsFixed c (fixed_at later.statics t) (inner c g.blocks (Static t) + own (Static t))) e (subst (λ d. IsFixed c d (inner c g.blocks (Static s) + own (Static s))) (sym now) (subst (λ d. IsFixed c d (inner c g.blocks (Static s) + own (Static s))) is (counts.statics s))))
        (λ ne. subst (λ d. IsFixed c d (inner c g.blocks (Static t) + own (Static t))) (sym (still t ne)) (counts.statics t)) (is_or_not s t);
    small = counts.small;
    small_static = λ t. ⊎_elim (λ e. subst (λ t. IsSmall (fixed_at later.statics t)) e (subst IsSmall (sym now) (subst IsSmall is (counts.small_static s)))) (λ ne. subst IsSmall (sym (still t ne)) (counts.small_static t)) (is_or_not s t);
    whole = λ b lt. (let w : IsWhole q c g (bare_at g.blocks b) = counts.whole b lt in
        record { counted = w.counted; fields = fields_on (c.held (bare_at g.blocks b).kind) (bare_at g.blocks b).fields w.fields; items = items_on (c.items (bare_at g.blocks b).kind) (bare_at g.blocks b) w.items });
  }

  pub fixed_memory : slice_set (memory g) s (shown_fixed (F n kind fields2 items2)) ≡ memory later
  fixed_memory = set_statics g.statics s (F n kind fields2 items2)

module _ (p : LlProgram) (blocks : List (Option Block)) (statics : List Block) (g : Ghost) (s n kind : ℕ) (fields items fields2 items2 : List Value) (is : fixed_at g.statics s ≡ F n kind fields items) (block block2 : Block) (there : slice_get statics s ≡ Some block)
    (same : block.kind ≡ block2.kind) where
  abbrev after : List Block
  after = slice_set statics s block2

  size_is : length g.statics ≡ length statics → s < length statics
  size_is e = omega (arith, static_inside g.statics s n kind fields items is, e)

  pub fixed_near : (near : NearMemory (plan_of p) blocks statics g) → NearBlock block2 (record { kind = kind; fields = fields2; items = items2 }) → is_counted (plan_of p) kind ≡ true
      → NearMemory (plan_of p) blocks after (record g { statics = slice_set g.statics s (F n kind fields2 items2) })
  fixed_near near near2 counted = record {
    size = near.size;
    each = near.each;
    size_statics = set_length statics s block2 ∙ near.size_statics ∙ sym (set_length g.statics s (F n kind fields2 items2));
    each_static = λ t other e. ⊎_elim
        (λ f. subst (λ t. NearStatic (plan_of p) other (fixed_at (slice_set g.statics s (F n kind fields2 items2)) t)) f
        (subst (NearStatic (plan_of p) other) (sym (set_here g.statics s (F n kind fields2 items2) (Alone (record { kind = 0; fields = []; items = [] })) (static_inside g.statics s n kind fields items is)))
        (let z : Some block2 ≡ Some other = sym (get_here statics s block2 (size_is (sym near.size_statics))) ∙ ap (slice_get after) f ∙ e in let w : block2 ≡ other = cc in
        subst (λ b. NearBlock b (record { kind = kind; fields = fields2; items = items2 }) × (is_counted (plan_of p) kind ≡ true)) w (near2, counted))))
        (λ ne. subst (NearStatic (plan_of p) other) (sym (set_other g.statics s t (F n kind fields2 items2) (Alone (record { kind = 0; fields = []; items = [] })) ne)) (near.each_static t other (sym (get_other statics s t block2 ne) ∙ e)))
        (is_or_not s t);
  }

  points_after : (m : ℕ) (v : Value) → PointsTo p blocks statics m v → PointsTo p blocks after m v
  points_after m Unset h = absurd h
  points_after m (Word z) h = absurd h
  points_after m (Byte z) h = absurd h
  points_after m (Flag z) h = absurd h
  points_after m (Fun z) h = absurd h
  points_after m Null h = tt
  points_after m (Ptr b) h = h
  points_after m (Static t) (other, e, of) =
      ⊎_elim
      (λ f. (let z : Some block ≡ Some other = sym there ∙ ap (slice_get statics) f ∙ e in let w : block ≡ other = cc in
      (block2, ap (slice_get after) (sym f) ∙ get_here statics s block2 (inside statics s block there), ap (λ k. begins_with (shapes_of p.structs) k m) (sym same) ∙ ap (λ b. begins_with (shapes_of p.structs) b.kind m) w ∙ of)))
      (λ ne. (other, get_other statics s t block2 ne ∙ e, of)) (is_or_not s t)
    where
      inside : (xs : List Block) (a : ℕ) (x : Block) → slice_get xs a ≡ Some x → a < length xs
      inside [] a x e = absurd (cc)
      inside (y ∷ xs) zero x e = omega arith
      inside (y ∷ xs) (suc a) x e = omega (arith, inside xs a x e)

  pub fixed_pointing : (types : List LlType) (uses : ℕ → Bool) (vars : List Value) → Pointing p types blocks statics uses vars → Pointing p types blocks after uses vars
  fixed_pointing types uses vars pointing = record { at = λ v m u r. points_after m _ (pointing.at v m u r); refers = pointing.refers }
