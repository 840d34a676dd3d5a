-- Fields and items that are written are followed.
use Rattle.std.proofs.Common.{◌≡◌, ◌≢◌, ◌⊎◌, inl, inr, ⊎_elim, ◌<◌, ◌≤◌, ℕ, suc, ◌+◌, Bool, true, false, List, [], ◌∷◌, length, Option, Some, None, refl, sym, ap, ◌∙◌, subst, arith}
use Rattle.std.specs.Prelude.{slice_set, slice_index_or}
use Rattle.csub_tree.specs.State.{Value, Unset, Word, Byte, Flag, Fun, Null, Ptr, Static, Block, Core}
use Rattle.csub_tree.specs.Layout.{begins_with}
use Rattle.csub_tree.specs.Operation.{is_unset}
use Rattle.csub_tree.specs.Statement.{read, operand}
use Rattle.csub_tree.specs.declared.tree.COperand.{COperand}
use Rattle.ll_code.specs.State.{Frame, At}
use Rattle.ll_code.specs.Machine.{goes_on, shapes_of}
use Rattle.ll_code.specs.declared.program.LlOp.{LlOp}
use Rattle.ll_code.specs.declared.program.LlOp.TheVariants as op
use Rattle.ll_code.specs.declared.program.LlExit.{LlExit}
use Rattle.ll_code.specs.declared.program.LlType.{LlType}
use Rattle.ll_code.specs.declared.program.LlProgram.{LlProgram}
use Rattle.refcount_transform.specs.Plan.{Plan, plan_of, is_counted}
use Rattle.refcount_transform.specs.Changes.{Around, around_of}
use Rattle.refcount_transform.specs.Counted.{counted}
use Rattle.refcount_laws.specs.Graphs.{Counts, Counting}
use Rattle.refcount_laws.specs.Made.{counts_of}
use Rattle.refcount_laws.specs.Ghost.{Ghost, Slot, bare_at, count, memory, hit, LeadsTo, IsCounted}
use Rattle.refcount_laws.specs.Runs.{Leads, here}
use Rattle.refcount_laws.specs.Touched.{block_in, Shown}
use Rattle.refcount_laws.specs.Owned.{Roomy}
use Rattle.refcount_laws.specs.Matches.{Near, AllNear, NearBlock, NearMemory, PointsTo, Pointing, AllRoots, Stands}
use Rattle.refcount_laws.proofs.Cells.{set_here, set_other, set_length}
use Rattle.refcount_laws.proofs.Touching.{is_or_not, there_inside}
use Rattle.refcount_laws.proofs.Moving.{own_same}
use Rattle.refcount_laws.proofs.Numbers.{Based}
use Rattle.refcount_laws.proofs.Alike.{begins_same}
use Rattle.std.specs.Prelude.{pos}
use Rattle.csub_tree.specs.Layout.{shape_at, place}
use Rattle.refcount_transform.specs.Plan.{shifted}
use Rattle.refcount_laws.specs.Made.{shapes_counted}
use Rattle.refcount_laws.specs.Ghost.{S, bare, shown, slot_at, occurs, field_references, item_references, references, IsWhole}
use Rattle.refcount_laws.proofs.Cells.{past}
use Rattle.refcount_laws.proofs.Ghosts.{There, there, occurs_both}
use Rattle.refcount_laws.proofs.Standing.{StructAt, marked_there}
use Rattle.refcount_laws.proofs.Alike.{place_same}
use Rattle.refcount_laws.proofs.Members.{counted_begins}
use Rattle.refcount_laws.proofs.Copying.{no_null}
use Rattle.csub_tree.specs.Statement.{stored}
use Rattle.refcount_laws.specs.Graphs.{Reference}
use Rattle.refcount_laws.specs.Ghost.{no_slot, count_of, written, Apart, FieldsLead, ItemsLead}
use Rattle.refcount_laws.proofs.Ghosts.{inside}
use Rattle.refcount_laws.proofs.Leading.{fields_by_kind, items_by_kind}
use Rattle.refcount_laws.proofs.Steps.{put_step}
use Rattle.refcount_laws.proofs.Writing.{read_inside, apart_same, kinds_then, written_counted, written_shown}

-- ---- cells that are set in both programs

pub near_cell : (xs ys : List Value) (i : ℕ) (v : Value) → AllNear xs ys → AllNear (slice_set xs i v) (slice_set ys i v)
near_cell xs ys i v near = record { size = set_length xs i v ∙ near.size ∙ sym (set_length ys i v); at = λ k. by k (is_or_not i k) (is_in i (length xs)) }
  where
    is_in : (i n : ℕ) → (i < n) ⊎ (n ≤ i)
    is_in i n = grind arith

    by : (k : ℕ) → (i ≡ k) ⊎ (i ≢ k) → (i < length xs) ⊎ (length xs ≤ i) → Near (read (slice_set xs i v) k) (read (slice_set ys i v) k)
    by k (inr ne) d = subst (λ y. Near (read (slice_set xs i v) k) y) (sym (set_other ys i k v Unset ne)) (subst (λ x. Near x (read ys k)) (sym (set_other xs i k v Unset ne)) (near.at k))
    by k (inl e) (inl lt) =
        subst (λ k. Near (read (slice_set xs i v) k) (read (slice_set ys i v) k)) e (inl (set_here xs i v Unset lt ∙ sym (set_here ys i v Unset (omega (arith, lt, near.size)))))
    by k (inl e) (inr le) =
        subst (λ k. Near (read (slice_set xs i v) k) (read (slice_set ys i v) k)) e
        (inl (past (slice_set xs i v) i Unset (omega (arith, le, set_length xs i v)) ∙ sym (past (slice_set ys i v) i Unset (omega (arith, le, near.size, set_length ys i v)))))

module _ (p : LlProgram) (blocks : List (Option Block)) (statics : List Block) (g : Ghost) (near : NearMemory (plan_of p) blocks statics g) (a n kind : ℕ) (fields items fields2 items2 : List Value) (is : slot_at g.blocks a ≡ S (suc n) kind fields items) (block2 : Block)
    (near2 : NearBlock block2 (record { kind = kind; fields = fields2; items = items2 })) where
  abbrev after : List (Option Block)
  after = slice_set blocks a (Some block2)

  abbrev ghost2 : Ghost
  ghost2 = written g a (S (suc n) kind fields2 items2)

  alive : 0 < count g.blocks a
  alive = omega (arith, ap count_of is)

  a_in : a < length blocks
  a_in = let lt : a < length g.blocks = inside g.blocks a alive in omega (arith, lt, near.size)

  now : slot_at ghost2.blocks a ≡ S (suc n) kind fields2 items2
  now = set_here g.blocks a (S (suc n) kind fields2 items2) no_slot (inside g.blocks a alive)

  pub near_written : NearMemory (plan_of p) after statics ghost2
  near_written = record {
    size = set_length blocks a (Some block2) ∙ near.size ∙ sym (set_length g.blocks a (S (suc n) kind fields2 items2));
    each = λ b lt. ⊎_elim
        (λ e. subst (λ b. (block : Block) × (block_in after b ≡ Some block) × NearBlock block (bare_at ghost2.blocks b)) e (block2, set_here blocks a (Some block2) None a_in, subst (λ d. NearBlock block2 d) (sym (ap bare now)) near2))
        (λ ne. (let w : (block : Block) × (block_in blocks b ≡ Some block) × NearBlock block (bare_at g.blocks b) = near.each b (omega (arith, lt, set_length blocks a (Some block2))) in
        (w.0, set_other blocks a b (Some block2) None ne ∙ w.1, subst (λ d. NearBlock w.0 d) (sym (ap bare (set_other g.blocks a b (S (suc n) kind fields2 items2) no_slot ne))) w.2)))
        (is_or_not a b);
    size_statics = near.size_statics;
    each_static = near.each_static;
  }

  -- pointers lead where they led
  points_after : (block : Block) → block_in blocks a ≡ Some block → block.kind ≡ block2.kind → (m : ℕ) (v : Value) → PointsTo p blocks statics m v → PointsTo p after statics m v
  points_after block found same m Unset h = absurd h
  points_after block found same m (Word z) h = absurd h
  points_after block found same m (Byte z) h = absurd h
  points_after block found same m (Flag z) h = absurd h
  points_after block found same m (Fun z) h = absurd h
  points_after block found same m Null h = tt
  points_after block found same m (Static s) h = h
  points_after block found same m (Ptr b) (other, at, of) =
      ⊎_elim
      (λ e. (let f : Some block ≡ Some other = sym found ∙ ap (block_in blocks) e ∙ at in let k : block ≡ other = cc in
      (block2, ap (block_in after) (sym e) ∙ set_here blocks a (Some block2) None a_in, ap (λ k. begins_with (shapes_of p.structs) k m) (sym same) ∙ ap (λ x. begins_with (shapes_of p.structs) x.kind m) k ∙ of)))
      (λ ne. (other, set_other blocks a b (Some block2) None ne ∙ at, of)) (is_or_not a b)

  pub pointing_after : (types : List LlType) (block : Block) → block_in blocks a ≡ Some block → block.kind ≡ block2.kind → (uses : ℕ → Bool) (vars : List Value) → Pointing p types blocks statics uses vars → Pointing p types after statics uses vars
  pointing_after types block found same uses vars pointing = record { at = λ v m u r. points_after block found same m (read vars v) (pointing.at v m u r); refers = pointing.refers }

module _ (p : LlProgram) (based : Based p.structs) (counting : Counting (counted p) (counts_of (plan_of p))) (args : List (List ℕ)) (types : List LlType) (roots : AllRoots p types) (own : Value → ℕ) (ops rest : List LlOp) (e : LlExit) (ex : LlExit)
    (frames : List Frame) (b : ℕ) (core qcore : Core) (g : Ghost) (h : List (Option Block)) (at : ℕ) (fits : length core.vars ≡ length types) (stands : Stands p core qcore g h) (k : ℕ) (room : Roomy g (suc k)) where
  abbrev plan : Plan
  plan = plan_of p

  abbrev q : LlProgram
  q = counted p

  abbrev c : Counts
  c = counts_of plan

  abbrev around : Around
  around = around_of plan types

  -- a block that is written, where it stands in both programs
  module _ (had : Value → ℕ) (n a : ℕ) (block : Block) (is : block_in core.blocks a ≡ Some block) (of : begins_with (shapes_of p.structs) block.kind n ≡ true) (alive_a : 0 < count g.blocks a) (counts : IsCounted q c g had) where
    pub w : There g.blocks a
    w = there g.blocks a alive_a

    abbrev bare_w : Block
    bare_w = record { kind = w.kind; fields = w.fields; items = w.items }

    both : NearBlock block bare_w
    both =
        let near : (block : Block) × (block_in core.blocks a ≡ Some block) × NearBlock block (bare_at g.blocks a) = stands.near.each a (there_inside core.blocks a block is) in
        let f : Some near.0 ≡ Some block = sym near.1 ∙ is in
        let same : near.0 ≡ block = cc in
        subst (λ x. NearBlock block x) (ap bare w.is) (subst (λ x. NearBlock x (bare_at g.blocks a)) same near.2)

    whole : IsWhole q c g bare_w
    whole = subst (IsWhole q c g) (ap bare w.is) (counts.whole a alive_a)

    abbrev shown_w : Block
    shown_w = record { kind = w.kind; fields = Word (pos (suc w.n)) ∷ Fun (c.release w.kind) ∷ w.fields; items = w.items }

    cell : slice_index_or h a None ≡ Some shown_w
    cell = stands.shown.at a ∙ ap (shown c) w.is

    of_w : begins_with (shapes_counted plan) w.kind n ≡ true
    of_w = sym (begins_same p based w.kind n) ∙ ap (λ k. begins_with (shapes_of p.structs) k n) (sym both.kind) ∙ of

    cn : is_counted plan n ≡ true
    cn = counted_begins p based w.kind n of_w whole.counted

    cs : StructAt p.structs n
    cs = marked_there p.structs p.graphs 0 p.structs n cn

    -- ---- a field that is no reference

    module _ (i : ℕ) (x : COperand) (v : Value) (is_v : operand core.vars x ≡ v) (v_set : is_unset v ≡ false) (bvar : ℕ) (is_a : read core.vars bvar ≡ Ptr a) (r : Reference) (at_r : r.at ≡ place (shape_at (shapes_of p.structs) n) i)
        (apart : Apart r (c.held w.kind)) (keeps : (m : ℕ) → c.items w.kind ≡ Some m → c.number_at w.kind ≡ r.at → v ≡ Word (pos (length w.items))) (behind : List LlOp) where
      abbrev fields2 : List Value
      fields2 = slice_set w.fields r.at v

      abbrev slot2 : Slot
      slot2 = S (suc w.n) w.kind fields2 w.items

      abbrev g2 : Ghost
      g2 = written g a slot2

      abbrev block2 : Block
      block2 = record block { fields = slice_set block.fields (place (shape_at (shapes_of p.structs) n) i) v }

      near2 : NearBlock block2 (record { kind = w.kind; fields = fields2; items = w.items })
      near2 = record { kind = both.kind; fields = subst (λ j. AllNear (slice_set block.fields j v) fields2) at_r (near_cell block.fields w.fields r.at v both.fields); items = both.items }

      kinds2 : (b : ℕ) → (bare_at g2.blocks b).kind ≡ (bare_at g.blocks b).kind
      kinds2 = kinds_then q args c g had a w.n w.kind w.fields w.items fields2 w.items w.is Null Null

      still : IsWhole q c g2 (record { kind = w.kind; fields = fields2; items = w.items })
      still = record {
        counted = whole.counted;
        fields = fields_by_kind q c g g2 kinds2 (λ s. refl) (c.held w.kind) fields2 (fields_lead (c.held w.kind) apart whole.fields);
        items = items_by_kind q c g g2 kinds2 (λ s. refl) (c.items w.kind) (record { kind = w.kind; fields = fields2; items = w.items }) (number_kept (c.items w.kind) refl whole.items);
      }
        where
          fields_lead : (held : List Reference) → Apart r held → FieldsLead q g held w.fields → FieldsLead q g held fields2
          fields_lead [] a f = tt
          fields_lead (t ∷ held) a f = (subst (LeadsTo q g t.to) (sym (set_other w.fields r.at t.at v Unset (λ e. a.0 (sym e)))) f.0, fields_lead held a.1 f.1)

          number_kept : (o : Option ℕ) → c.items w.kind ≡ o → ItemsLead q c g o bare_w → ItemsLead q c g o (record { kind = w.kind; fields = fields2; items = w.items })
          number_kept None e l = tt
          number_kept (Some m) e l = (l.0, ⊎_elim (λ q. ap (read fields2) q ∙ set_here w.fields r.at v Unset (read_inside w.fields r.at (ap is_unset (ap (read w.fields) (sym q) ∙ l.1))) ∙ keeps m e q) (λ ne. set_other w.fields r.at (c.number_at w.kind) v Unset (λ q. ne (sym q)) ∙ l.1) (is_or_not (c.number_at w.kind) r.at), l.2)

      same_refs : (r2 : Value) → occurs r2 (references c (record { kind = w.kind; fields = fields2; items = w.items })) + hit r2 Null ≡ occurs r2 (references c bare_w) + hit r2 Null
      same_refs r2 =
          omega (
            arith,
            occurs_both r2 (field_references (c.held w.kind) fields2) (item_references (c.items w.kind) w.items),
            occurs_both r2 (field_references (c.held w.kind) w.fields) (item_references (c.items w.kind) w.items),
            ap (occurs r2) (apart_same r (c.held w.kind) w.fields v apart),
          )

      pub plain_counts : IsCounted q c g2 had
      plain_counts =
          own_same q args c g2 (λ r. hit r Null + had r) had (λ r. omega (arith, no_null r))
          (written_counted q args c g had a w.n w.kind w.fields w.items fields2 w.items w.is Null Null (own_same q args c g had (λ r. hit r Null + had r) (λ r. omega (arith, no_null r)) counts) same_refs still)

      pub plain_near : NearMemory plan (slice_set core.blocks a (Some block2)) core.statics g2
      plain_near = near_written p core.blocks core.statics g stands.near a w.n w.kind w.fields w.items fields2 w.items w.is block2 near2

      pub plain_shown : Shown c (slice_set h a (shown c slot2)) g2.blocks
      plain_shown = written_shown q args c g had a w.n w.kind w.fields w.items fields2 w.items w.is Null Null h stands.shown

      pub plain_write : Leads q args (At (op.SetField n bvar (shifted plan n i) x ∷ behind) ex frames (here qcore core.function b at core.vars h (memory g))) (At behind ex frames (here qcore core.function b (at + 1) core.vars (slice_set h a (shown c slot2)) (memory g2)))
      plain_write =
          put_step q args qcore core.function b ex frames n bvar (shifted plan n i) at x behind core.vars h (memory g) (Ptr a) v shown_w (At behind ex frames (here qcore core.function b (at + 1) core.vars (slice_set h a (shown c slot2)) (memory g2))) is_a refl is_v v_set cell of_w
          (ap (λ j. goes_on (At behind ex frames) (stored (here qcore core.function b at core.vars h (memory g)) (Ptr a) (record shown_w { fields = slice_set shown_w.fields j v }))) (place_same p based n i cs.s cs.is cn ∙ ap (λ j. suc (suc j)) (sym at_r)))

      pub plain_points : (uses : ℕ → Bool) → Pointing p types core.blocks core.statics uses core.vars → Pointing p types (slice_set core.blocks a (Some block2)) core.statics uses core.vars
      plain_points uses pointing = pointing_after p core.blocks core.statics g stands.near a w.n w.kind w.fields w.items fields2 w.items w.is block2 near2 types block is refl uses core.vars pointing
