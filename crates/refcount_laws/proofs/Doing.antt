-- References that are counted and dropped one after the other, over memory that shows all blocks.
use Rattle.std.proofs.Common.{◌≡◌, ◌≢◌, ⊎_elim, ◌<◌, ◌^◌, ℕ, suc, ◌+◌, true, List, [], ◌∷◌, Option, Some, None, refl, sym, ap, ◌∙◌, subst, arith}
use Rattle.std.specs.Prelude.{slice_set, pos}
use Rattle.csub_tree.specs.State.{Value, Unset, Word, Flag, Byte, Fun, Null, Ptr, Static, Block, Core}
use Rattle.csub_tree.specs.Layout.{begins_with}
use Rattle.csub_tree.specs.Statement.{operand}
use Rattle.csub_tree.specs.declared.tree.COperand.{COperand}
use Rattle.ll_code.specs.State.{Frame, State, At}
use Rattle.ll_code.specs.Machine.{shapes_of}
use Rattle.ll_code.specs.declared.program.LlOp.{LlOp}
use Rattle.ll_code.specs.declared.program.LlOp.TheVariants as op
use Rattle.ll_code.specs.declared.program.LlExit.{LlExit}
use Rattle.ll_code.specs.declared.program.LlProgram.{LlProgram}
use Rattle.refcount_laws.specs.Graphs.{Counts, Counting, IsRoot}
use Rattle.refcount_laws.specs.Ghost.{one, hit, Slot, S, no_slot, count_of, bare, shown, slot_at, count, bare_at, inner, held_by, weight, Fixed, Alone, F, shown_fixed, as_first, fixed_at, Ghost, IsFixed, IsSmall, HasRoom, memory, LeadsTo, IsWhole, IsCounted}
use Rattle.refcount_laws.specs.Runs.{Leads, here}
use Rattle.refcount_laws.specs.Touched.{block_in, Shown, Moved, Done}
use Rattle.refcount_laws.proofs.Cells.{set_here, set_other, set_length}
use Rattle.refcount_laws.proofs.Ghosts.{one_self, one_other, There, there, inside, set_up, set_inner}
use Rattle.refcount_laws.proofs.Steps.{leads_on}
use Rattle.refcount_laws.proofs.Touching.{is_or_not, all_shown, shown_after}
use Rattle.refcount_laws.proofs.Leading.{static_there, static_inside, set_statics, all_whole, whole_kept}
use Rattle.refcount_laws.proofs.Moving.{own_same}
use Rattle.refcount_laws.proofs.Dropping.{dropped}
use Rattle.refcount_laws.proofs.Rising.{null_up, count_rises}

module _ (q : LlProgram) (args : List (List ℕ)) (c : Counts) where
  pub done_before : (g : Ghost) (own : Value → ℕ) (first from : State) (to : List (Option Block) → List Block → State) → Leads q args first from → Done q args c g own from to → Done q args c g own first to
  done_before g own first from to l m = record {
    later = m.later;
    blocks = m.blocks;
    same = m.same;
    same_statics = m.same_statics;
    size = m.size;
    size_statics = m.size_statics;
    inners = m.inners;
    counted = m.counted;
    shown = m.shown;
    leads = leads_on q args l m.leads;
  }

  pub done_on : (g : Ghost) (own own' : Value → ℕ) (from : State) (mid to : List (Option Block) → List Block → State) → (x : Done q args c g own from mid) → Done q args c x.later own' (mid x.blocks (memory x.later)) to → Done q args c g own' from to
  done_on g own own' from mid to x y = record {
    later = y.later;
    blocks = y.blocks;
    same = λ b. y.same b ∙ x.same b;
    same_statics = λ s. y.same_statics s ∙ x.same_statics s;
    size = y.size ∙ x.size;
    size_statics = y.size_statics ∙ x.size_statics;
    inners = λ r. omega (arith, x.inners r, y.inners r);
    counted = y.counted;
    shown = y.shown;
    leads = leads_on q args x.leads y.leads;
  }

  pub done_nothing : (g : Ghost) (h : List (Option Block)) (own : Value → ℕ) (from : State) (to : List (Option Block) → List Block → State) → Shown c h g.blocks → IsCounted q c g own → Leads q args from (to h (memory g)) → Done q args c g own from to
  done_nothing g h own from to sh counted l = record {
    later = g;
    blocks = h;
    same = λ b. refl;
    same_statics = λ s. refl;
    size = refl;
    size_statics = refl;
    inners = λ r. omega arith;
    counted = counted;
    shown = sh;
    leads = l;
  }

no_hit : (r : Value) → hit r Null ≡ 0
no_hit Unset = refl
no_hit (Word z) = refl
no_hit (Byte b) = refl
no_hit (Flag b) = refl
no_hit (Fun f) = refl
no_hit Null = refl
no_hit (Ptr b) = refl
no_hit (Static s) = refl

module _ (q : LlProgram) (args : List (List ℕ)) (c : Counts) (counting : Counting q c) where
  -- ---- one reference less

  pub down_done : (g : Ghost) (h : List (Option Block)) (own : Value → ℕ) (to : ℕ) (v : Value) (core : Core) (f b : ℕ) (ex : LlExit) (frames : List Frame) (x : COperand) (at : ℕ) (ops : List LlOp) (vars : List Value) → Shown c h g.blocks → IsRoot c to
      → LeadsTo q g to v → IsCounted q c g (λ r. hit r v + own r) → operand vars x ≡ v
      → Done q args c g own (At (op.Call None (c.down to) (x ∷ []) ∷ ops) ex frames (here core f b at vars h (memory g))) (λ h' s'. At ops ex frames (here core f b (at + 1) vars h' s'))
  down_done g h own to v core f b ex frames x at ops vars sh root lead counted e =
      let m : Moved q args c g h own (At (op.Call None (c.down to) (x ∷ []) ∷ ops) ex frames (here core f b at vars h (memory g))) (λ h' s'. At ops ex frames (here core f b (at + 1) vars h' s')) =
      dropped q args c counting (weight c g.blocks) g h own to v core f b ex frames x at ops vars (omega arith) (all_shown c g.blocks h sh) root lead counted e in
      record {
        later = m.later;
        blocks = m.blocks;
        same = m.same;
        same_statics = m.same_statics;
        size = m.size;
        size_statics = m.size_statics;
        inners = m.inners;
        counted = m.counted;
        shown = shown_after c g.blocks m.later.blocks h m.blocks m.size sh m.touched;
        leads = m.leads;
      }

  -- ---- one reference more

  module _ (g : Ghost) (h : List (Option Block)) (own : Value → ℕ) (a m kind : ℕ) (fields items : List Value) (is : slot_at g.blocks a ≡ S (suc m) kind fields items) (sh : Shown c h g.blocks) (counted : IsCounted q c g own) (room : suc (suc m) < 2 ^ 63) where
    abbrev more_slot : Slot
    more_slot = S (suc (suc m)) kind fields items

    abbrev raised : Ghost
    raised = record g { blocks = slice_set g.blocks a more_slot }

    alive : 0 < count g.blocks a
    alive = omega (arith, ap count_of is)

    now : slot_at raised.blocks a ≡ more_slot
    now = set_here g.blocks a more_slot no_slot (inside g.blocks a alive)

    same : (b : ℕ) → bare_at raised.blocks b ≡ bare_at g.blocks b
    same b = ⊎_elim (λ e. subst (λ b. bare_at raised.blocks b ≡ bare_at g.blocks b) e (ap bare now ∙ sym (ap bare is))) (λ ne. ap bare (set_other g.blocks a b more_slot no_slot ne)) (is_or_not a b)

    rises : (b : ℕ) → count raised.blocks b ≡ count g.blocks b + one a b
    rises b = set_up g.blocks a more_slot alive (omega (arith, ap count_of is)) b

    small : (b : ℕ) → count raised.blocks b < 2 ^ 63
    small b = ⊎_elim (λ e. subst (λ b. count raised.blocks b < 2 ^ 63) e (omega (arith, ap count_of now, room))) (λ ne. omega (arith, rises b, one_other a b ne, counted.small b)) (is_or_not a b)

    inner_same : (r : Value) → inner c raised.blocks r ≡ inner c g.blocks r
    inner_same r = omega (arith, set_inner c g.blocks a more_slot alive r, ap (λ d. held_by c d r) is)

    was_there : (b : ℕ) → 0 < count raised.blocks b → 0 < count g.blocks b
    was_there b lt = ⊎_elim (λ e. subst (λ b. 0 < count g.blocks b) e alive) (λ ne. omega (arith, lt, rises b, one_other a b ne)) (is_or_not a b)

    raised_counted : IsCounted q c raised (λ r. hit r (Ptr a) + own r)
    raised_counted = record {
      blocks = λ b. omega (arith, counted.blocks b, rises b, inner_same (Ptr b));
      statics = λ s. subst (IsFixed c (fixed_at g.statics s)) (let k : inner c g.blocks (Static s) + own (Static s) ≡ inner c raised.blocks (Static s) + (0 + own (Static s)) = omega (arith, inner_same (Static s)) in k) (counted.statics s);
      small = small;
      small_static = counted.small_static;
      whole = λ b lt. subst (IsWhole q c raised) (sym (same b)) (whole_kept q c g raised same (λ s. refl) (bare_at g.blocks b) (counted.whole b (was_there b lt)));
    }

    cell : block_in h a ≡ Some (record { kind = kind; fields = Word (pos (suc m)) ∷ Fun (c.release kind) ∷ fields; items = items })
    cell = sh.at a ∙ ap (shown c) is

    up_block : (to : ℕ) (root : IsRoot c to) (core : Core) (f b : ℕ) (ex : LlExit) (frames : List Frame) (x : COperand) (at : ℕ) (ops : List LlOp) (vars : List Value) → begins_with (shapes_of q.structs) kind to ≡ true → operand vars x ≡ Ptr a
        → Done q args c g (λ r. hit r (Ptr a) + own r) (At (op.Call None (c.up to) (x ∷ []) ∷ ops) ex frames (here core f b at vars h (memory g))) (λ h' s'. At ops ex frames (here core f b (at + 1) vars h' s'))
    up_block to root core f b ex frames x at ops vars of e = record {
      later = raised;
      blocks = slice_set h a (shown c more_slot);
      same = same;
      same_statics = λ s. refl;
      size = set_length g.blocks a more_slot;
      size_statics = refl;
      inners = λ r. omega (arith, inner_same r);
      counted = raised_counted;
      shown = record {
        at = λ b. ⊎_elim
            (λ e. subst (λ b. block_in (slice_set h a (shown c more_slot)) b ≡ shown c (slot_at raised.blocks b)) e (set_here h a (shown c more_slot) None (omega (arith, sh.size, inside g.blocks a alive)) ∙ sym (ap (shown c) now)))
            (λ ne. set_other h a b (shown c more_slot) None ne ∙ sh.at b ∙ sym (ap (shown c) (set_other g.blocks a b more_slot no_slot ne))) (is_or_not a b);
        size = set_length h a (shown c more_slot) ∙ sh.size ∙ sym (set_length g.blocks a more_slot);
      };
      leads = count_rises q args c counting core f b ex frames to root x at ops vars h (slice_set h a (shown c more_slot)) (memory g) (memory g) (Ptr a) (suc m) kind (Fun (c.release kind)) fields items e refl refl of room (λ b at vars. cell) (λ b at vars. refl);
    }

  module _ (g : Ghost) (h : List (Option Block)) (own : Value → ℕ) (s m kind : ℕ) (fields items : List Value) (is : fixed_at g.statics s ≡ F m kind fields items) (sh : Shown c h g.blocks) (counted : IsCounted q c g own) (room : suc m < 2 ^ 63) where
    abbrev higher : Fixed
    higher = F (suc m) kind fields items

    abbrev no_static : Fixed
    no_static = Alone (record { kind = 0; fields = []; items = [] })

    abbrev lifted : Ghost
    lifted = record g { statics = slice_set g.statics s higher }

    now_static : fixed_at lifted.statics s ≡ higher
    now_static = set_here g.statics s higher no_static (static_inside g.statics s m kind fields items is)

    others : (t : ℕ) → s ≢ t → fixed_at lifted.statics t ≡ fixed_at g.statics t
    others t ne = set_other g.statics s t higher no_static ne

    firsts : (t : ℕ) → as_first (fixed_at lifted.statics t) ≡ as_first (fixed_at g.statics t)
    firsts t = ⊎_elim (λ e. subst (λ t. as_first (fixed_at lifted.statics t) ≡ as_first (fixed_at g.statics t)) e (ap as_first now_static ∙ sym (ap as_first is))) (λ ne. ap as_first (others t ne)) (is_or_not s t)

    lifted_counted : IsCounted q c lifted (λ r. hit r (Static s) + own r)
    lifted_counted = record {
      blocks = λ b. omega (arith, counted.blocks b);
      statics = λ t. ⊎_elim
          (λ e. subst (λ t. IsFixed c (fixed_at lifted.statics t) (inner c g.blocks (Static t) + (one s t + own (Static t)))) e
          (subst (λ d. IsFixed c d (inner c g.blocks (Static s) + (one s s + own (Static s)))) (sym now_static)
          (let k : m ≡ suc (inner c g.blocks (Static s) + own (Static s)) = subst (λ d. IsFixed c d (inner c g.blocks (Static s) + own (Static s))) is (counted.statics s) in
          let l : suc m ≡ suc (inner c g.blocks (Static s) + (one s s + own (Static s))) = omega (arith, k, one_self s) in l)))
          (λ ne. subst (λ d. IsFixed c d (inner c g.blocks (Static t) + (one s t + own (Static t)))) (sym (others t ne))
          (subst (IsFixed c (fixed_at g.statics t)) (let k : inner c g.blocks (Static t) + own (Static t) ≡ inner c g.blocks (Static t) + (one s t + own (Static t)) = omega (arith, one_other s t ne) in k) (counted.statics t)))
          (is_or_not s t);
      small = counted.small;
      small_static = λ t. ⊎_elim
          (λ e. subst (λ t. IsSmall (fixed_at lifted.statics t)) e (subst IsSmall (sym now_static) room))
          (λ ne. subst IsSmall (sym (others t ne)) (counted.small_static t))
          (is_or_not s t);
      whole = all_whole q c g lifted (λ b. refl) firsts counted.whole (λ b. omega arith);
    }

    up_static : (to : ℕ) (root : IsRoot c to) (core : Core) (f b : ℕ) (ex : LlExit) (frames : List Frame) (x : COperand) (at : ℕ) (ops : List LlOp) (vars : List Value) → begins_with (shapes_of q.structs) kind to ≡ true → operand vars x ≡ Static s
        → Done q args c g (λ r. hit r (Static s) + own r) (At (op.Call None (c.up to) (x ∷ []) ∷ ops) ex frames (here core f b at vars h (memory g))) (λ h' s'. At ops ex frames (here core f b (at + 1) vars h' s'))
    up_static to root core f b ex frames x at ops vars of e =
        let high : List Block = slice_set (memory g) s (shown_fixed higher) in
        let target : List Block → State = λ s'. At ops ex frames (here core f b (at + 1) vars h s') in
        record {
          later = lifted;
          blocks = h;
          same = λ b. refl;
          same_statics = firsts;
          size = refl;
          size_statics = set_length g.statics s higher;
          inners = λ r. omega arith;
          counted = lifted_counted;
          shown = sh;
          leads = subst (λ s'. Leads q args (At (op.Call None (c.up to) (x ∷ []) ∷ ops) ex frames (here core f b at vars h (memory g))) (target s')) (set_statics g.statics s higher)
              (count_rises q args c counting core f b ex frames to root x at ops vars h h (memory g) high (Static s) m kind Null fields items e refl refl of room (λ b at vars. static_there g.statics s m kind fields items is) (λ b at vars. refl));
        }

  pub up_done : (g : Ghost) (h : List (Option Block)) (own : Value → ℕ) (to : ℕ) (v : Value) (core : Core) (f b : ℕ) (ex : LlExit) (frames : List Frame) (x : COperand) (at : ℕ) (ops : List LlOp) (vars : List Value) → Shown c h g.blocks → IsRoot c to
      → LeadsTo q g to v → HasRoom g v → IsCounted q c g own → operand vars x ≡ v
      → Done q args c g (λ r. hit r v + own r) (At (op.Call None (c.up to) (x ∷ []) ∷ ops) ex frames (here core f b at vars h (memory g))) (λ h' s'. At ops ex frames (here core f b (at + 1) vars h' s'))
  up_done g h own to Unset core f b ex frames x at ops vars sh root lead room counted e = absurd lead
  up_done g h own to (Word z) core f b ex frames x at ops vars sh root lead room counted e = absurd lead
  up_done g h own to (Byte z) core f b ex frames x at ops vars sh root lead room counted e = absurd lead
  up_done g h own to (Flag z) core f b ex frames x at ops vars sh root lead room counted e = absurd lead
  up_done g h own to (Fun z) core f b ex frames x at ops vars sh root lead room counted e = absurd lead
  up_done g h own to Null core f b ex frames x at ops vars sh root lead room counted e =
      done_nothing q args c g h (λ r. hit r Null + own r) (At (op.Call None (c.up to) (x ∷ []) ∷ ops) ex frames (here core f b at vars h (memory g))) (λ h' s'. At ops ex frames (here core f b (at + 1) vars h' s')) sh
      (own_same q args c g own (λ r. hit r Null + own r) (λ r. omega (arith, no_hit r)) counted) (null_up q args c counting core f b ex frames to root x at ops vars h (memory g) e)
  up_done g h own to (Ptr a) core f b ex frames x at ops vars sh root lead room counted e =
      let w : There g.blocks a = there g.blocks a room.0 in
      up_block g h own a w.n w.kind w.fields w.items w.is sh counted (omega (arith, room.1, ap count_of w.is)) to root core f b ex frames x at ops vars (ap (λ d. begins_with (shapes_of q.structs) (bare d).kind to) (sym w.is) ∙ lead) e
  up_done g h own to (Static s) core f b ex frames x at ops vars sh root (n, kind, fields, items, is, of) room counted e =
      up_static g h own s n kind fields items is sh counted (room n kind fields items is) to root core f b ex frames x at ops vars of e
