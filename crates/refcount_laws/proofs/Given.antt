-- References that are counted before a call or an exit.
use Rattle.std.proofs.Common.{◌≡◌, ◌<◌, ◌≤◌, ◌^◌, ℕ, zero, suc, ◌+◌, Bool, true, false, List, [], ◌∷◌, length, Option, Some, None, refl, subst, arith}
use Rattle.std.specs.Prelude.{slice_get}
use Rattle.csub_tree.specs.State.{Value, Unset, Word, Byte, Flag, Fun, Null, Ptr, Static, Block, Core}
use Rattle.csub_tree.specs.Statement.{operand}
use Rattle.csub_tree.specs.declared.tree.CConst.TheVariants as const
use Rattle.csub_tree.specs.declared.tree.COperand.{COperand}
use Rattle.csub_tree.specs.declared.tree.COperand.TheVariants.{Var, Const}
use Rattle.ll_code.specs.State.{Frame, State, At}
use Rattle.ll_code.specs.declared.program.LlOp.{LlOp}
use Rattle.ll_code.specs.declared.program.LlExit.{LlExit}
use Rattle.ll_code.specs.declared.program.LlProgram.{LlProgram}
use Rattle.ll_code.specs.declared.program.LlType.{LlType}
use Rattle.ll_code.specs.declared.program.LlType.TheVariants as type
use Rattle.refcount_transform.specs.Plan.{Plan, is_counted, root_of}
use Rattle.refcount_transform.specs.Changes.{Around, operand_referred, up_by, up, ups, up_if, is_given_later, given}
use Rattle.refcount_laws.specs.Graphs.{Counts, Counting}
use Rattle.refcount_laws.specs.Made.{counts_of}
use Rattle.refcount_laws.specs.Ghost.{Ghost, one, bare_at, Fixed, Alone, F, as_first, fixed_at, memory, count, inner, hit, HasRoom, LeadsTo, IsFixed, IsCounted}
use Rattle.refcount_laws.specs.Runs.{here}
use Rattle.refcount_laws.specs.Touched.{Shown, Done}
use Rattle.refcount_laws.specs.Owned.{owned, DoneTo, hits_by, operand_hits, all_hits, OperandLeads, OperandsLead, HasRoomBy, Roomy, given_hits_if, given_hits}
use Rattle.refcount_laws.proofs.Steps.{stays}
use Rattle.refcount_laws.proofs.Leading.{lead_kept}
use Rattle.refcount_laws.proofs.Moving.{own_same}
use Rattle.refcount_laws.proofs.Doing.{done_on, done_nothing, up_done}
use Rattle.refcount_laws.proofs.Places.{given_marked, reference_marked}

-- one count rises by one at most, where nothing else is owned
pub hit_most : (r v : Value) → hit r v ≤ 1
hit_most (Ptr a) (Ptr b) = most b a
  where
    most : (m n : ℕ) → one m n ≤ 1
    most zero zero = omega arith
    most zero (suc n) = omega arith
    most (suc m) zero = omega arith
    most (suc m) (suc n) = most m n
hit_most (Static a) (Static b) = most b a
  where
    most : (m n : ℕ) → one m n ≤ 1
    most zero zero = omega arith
    most zero (suc n) = omega arith
    most (suc m) zero = omega arith
    most (suc m) (suc n) = most m n
hit_most r v = omega arith

module _ (q : LlProgram) (args : List (List ℕ)) (c : Counts) where
  roomy_by : (g g' : Ghost) (own own' : Value → ℕ) (j k s : ℕ) (d d' : Fixed) → IsFixed c d (inner c g.blocks (Static s) + own (Static s)) → IsFixed c d' (inner c g'.blocks (Static s) + own' (Static s)) → as_first d' ≡ as_first d
      → inner c g'.blocks (Static s) ≤ inner c g.blocks (Static s) → own' (Static s) ≤ own (Static s) + j → HasRoomBy d (j + k) → HasRoomBy d' k
  roomy_by g g' own own' j k s (Alone block) (Alone other) a b e le more room = tt
  roomy_by g g' own own' j k s (Alone block) (F m kind fields items) a b e le more room = absurd (cc)
  roomy_by g g' own own' j k s (F n kind fields items) (Alone block) a b e le more room = tt
  roomy_by g g' own own' j k s (F n kind fields items) (F m kind2 fields2 items2) a b e le more room = omega (arith, a, b, le, room, more)

  -- some of the room is taken
  pub roomy_after : (g : Ghost) (own own' : Value → ℕ) (j k : ℕ) (from : State) (to : List (Option Block) → List Block → State) → IsCounted q c g own → (d : Done q args c g own' from to) → ((r : Value) → own' r ≤ own r + j) → Roomy g (j + k) → Roomy d.later k
  roomy_after g own own' j k from to counted d more room = record {
    blocks = λ b. omega (arith, counted.blocks b, d.counted.blocks b, d.inners (Ptr b), room.blocks b, more (Ptr b));
    statics = λ s. roomy_by g d.later own own' j k s (fixed_at g.statics s) (fixed_at d.later.statics s) (counted.statics s) (d.counted.statics s) (d.same_statics s) (d.inners (Static s)) (more (Static s)) (room.statics s);
  }

pub room_for : (q : LlProgram) (c : Counts) (g : Ghost) (own : Value → ℕ) (k : ℕ) (v : Value) → IsCounted q c g own → Roomy g (suc k) → ((a : ℕ) → v ≡ Ptr a → 0 < count g.blocks a) → HasRoom g v
room_for q c g own k Unset counted room owned = tt
room_for q c g own k (Word z) counted room owned = tt
room_for q c g own k (Byte z) counted room owned = tt
room_for q c g own k (Flag z) counted room owned = tt
room_for q c g own k (Fun z) counted room owned = tt
room_for q c g own k Null counted room owned = tt
room_for q c g own k (Ptr a) counted room owned = (owned a refl, omega (arith, room.blocks a))
room_for q c g own k (Static s) counted room owned = λ n kind fields items e. (let lt : n + suc k < 2 ^ 63 = subst (λ d. HasRoomBy d (suc k)) e (room.statics s) in omega (arith, lt))

module _ (q : LlProgram) (args : List (List ℕ)) (plan : Plan) (counting : Counting q (counts_of plan)) (types : List LlType) (core : Core) (f b : ℕ) (ex : LlExit) (frames : List Frame) (vars : List Value) where
  abbrev around : Around
  around = record { plan = plan; types = types }

  abbrev c : Counts
  c = counts_of plan

  operand_marked : (x : COperand) (n : ℕ) → operand_referred around x ≡ Some n → is_counted plan n ≡ true
  operand_marked (Var v) n e = given_marked plan.counted (slice_get types v) n e
  operand_marked (Const (const.Static m g)) n e = reference_marked plan.counted (type.Ptr m) n e
  operand_marked (Const (const.Word z)) n e = absurd (cc)
  operand_marked (Const (const.Char z)) n e = absurd (cc)
  operand_marked (Const (const.Bool z)) n e = absurd (cc)
  operand_marked (Const const.Null) n e = absurd (cc)
  operand_marked (Const (const.Fun z)) n e = absurd (cc)

  operand_kept : (g g' : Ghost) (own own' : Value → ℕ) (x : COperand) → ((b : ℕ) → bare_at g'.blocks b ≡ bare_at g.blocks b)
      → ((s : ℕ) → as_first (fixed_at g'.statics s) ≡ as_first (fixed_at g.statics s)) → ((r : Value) → own r ≤ own' r) → OperandLeads q around g own vars x → OperandLeads q around g' own' vars x
  operand_kept g g' own own' x same firsts le l = record {
    root = l.root;
    leads = λ n e. lead_kept q c g g' same firsts n (operand vars x) (l.leads n e);
    owned = λ n a e is. (let lt : 0 < own (Ptr a) = l.owned n a e is in omega (arith, lt, le (Ptr a)));
  }

  operands_kept : (g g' : Ghost) (own own' : Value → ℕ) (xs : List COperand) → ((b : ℕ) → bare_at g'.blocks b ≡ bare_at g.blocks b)
      → ((s : ℕ) → as_first (fixed_at g'.statics s) ≡ as_first (fixed_at g.statics s)) → ((r : Value) → own r ≤ own' r) → OperandsLead q around g own vars xs → OperandsLead q around g' own' vars xs
  operands_kept g g' own own' [] same firsts le l = tt
  operands_kept g g' own own' (x ∷ xs) same firsts le l = (operand_kept g g' own own' x same firsts le l.0, operands_kept g g' own own' xs same firsts le l.1)

  hits_most : (o : Option ℕ) (v r : Value) → hits_by o v r ≤ 1
  hits_most None v r = omega arith
  hits_most (Some n) v r = hit_most r v

  -- one operand
  pub up_run : (g : Ghost) (h : List (Option Block)) (own : Value → ℕ) (x : COperand) (k at : ℕ) (rest : List LlOp) → Shown c h g.blocks → ((n : ℕ) → operand_referred around x ≡ Some n → root_of plan n ≡ n) → ((n : ℕ) → operand_referred around x ≡ Some n → LeadsTo q g n (operand vars x))
      → ((n a : ℕ) → operand_referred around x ≡ Some n → operand vars x ≡ Ptr a → 0 < count g.blocks a) → Roomy g (suc k) → IsCounted q c g own
      → DoneTo q args c g (λ r. operand_hits around vars x r + own r) (At (up around x rest) ex frames (here core f b at vars h (memory g))) rest ex frames core f b vars
  up_run g h own x k at rest sh root lead alive room counted = by (operand_referred around x) refl
    where
      by : (o : Option ℕ) → operand_referred around x ≡ o → DoneTo q args c g (λ r. hits_by o (operand vars x) r + own r) (At (up_by around x o rest) ex frames (here core f b at vars h (memory g))) rest ex frames core f b vars
      by None e = record {
        at = at;
        done = done_nothing q args c g h (λ r. 0 + own r) (At rest ex frames (here core f b at vars h (memory g))) (λ h s. At rest ex frames (here core f b at vars h s)) sh
            (own_same q args c g own (λ r. 0 + own r) (λ r. omega arith) counted) (stays q args (At rest ex frames (here core f b at vars h (memory g))));
      }
      by (Some n) e = record {
        at = at + 1;
        done = up_done q args c counting g h own n (operand vars x) core f b ex frames x at rest vars sh (operand_marked x n e, root n e) (lead n e) (room_for q c g own k (operand vars x) counted room (λ a is. alive n a e is)) counted refl;
      }

  owned_alive : (g : Ghost) (own : Value → ℕ) (x : COperand) → OperandLeads q around g own vars x → IsCounted q c g own → (n a : ℕ) → operand_referred around x ≡ Some n → operand vars x ≡ Ptr a → 0 < count g.blocks a
  owned_alive g own x lead counted n a e is = let lt : 0 < own (Ptr a) = lead.owned n a e is in omega (arith, counted.blocks a, lt)

  nothing_run : (g : Ghost) (h : List (Option Block)) (own : Value → ℕ) (at : ℕ) (rest : List LlOp) → Shown c h g.blocks → IsCounted q c g own → DoneTo q args c g (λ r. 0 + own r) (At rest ex frames (here core f b at vars h (memory g))) rest ex frames core f b vars
  nothing_run g h own at rest sh counted = record {
    at = at;
    done = done_nothing q args c g h (λ r. 0 + own r) (At rest ex frames (here core f b at vars h (memory g))) (λ h s. At rest ex frames (here core f b at vars h s)) sh
        (own_same q args c g own (λ r. 0 + own r) (λ r. omega arith) counted) (stays q args (At rest ex frames (here core f b at vars h (memory g))));
  }

  -- two runs, one behind the other
  then_run : (g : Ghost) (own1 own2 own3 : Value → ℕ) (start : State) (mid rest : List LlOp) → ((r : Value) → own2 r ≡ own3 r) → (d : DoneTo q args c g own1 start mid ex frames core f b vars)
      → DoneTo q args c d.done.later own2 (At mid ex frames (here core f b d.at vars d.done.blocks (memory d.done.later))) rest ex frames core f b vars → DoneTo q args c g own3 start rest ex frames core f b vars
  then_run g own1 own2 own3 start mid rest e d m =
      let x : Done q args c g own2 start (λ h s. At rest ex frames (here core f b m.at vars h s)) =
      done_on q args c g own1 own2 start (λ h s. At mid ex frames (here core f b d.at vars h s)) (λ h s. At rest ex frames (here core f b m.at vars h s)) d.done m.done in
      record {
        at = m.at;
        done = record {
          later = x.later;
          blocks = x.blocks;
          same = x.same;
          same_statics = x.same_statics;
          size = x.size;
          size_statics = x.size_statics;
          inners = x.inners;
          shown = x.shown;
          leads = x.leads;
          counted = own_same q args c x.later own2 own3 e x.counted;
        };
      }

  -- all operands of a call
  pub ups_run : (xs : List COperand) (g : Ghost) (h : List (Option Block)) (own : Value → ℕ) (k at : ℕ) (rest : List LlOp) → Shown c h g.blocks → OperandsLead q around g own vars xs → Roomy g (length xs + k) → IsCounted q c g own
      → DoneTo q args c g (λ r. all_hits around vars xs r + own r) (At (ups around xs rest) ex frames (here core f b at vars h (memory g))) rest ex frames core f b vars
  ups_run [] g h own k at rest sh lead room counted = nothing_run g h own at rest sh counted
  ups_run (x ∷ xs) g h own k at rest sh lead room counted =
      let own1 : Value → ℕ = λ r. operand_hits around vars x r + own r in
      let start : State = At (ups around (x ∷ xs) rest) ex frames (here core f b at vars h (memory g)) in
      let d : DoneTo q args c g own1 start (ups around xs rest) ex frames core f b vars =
      up_run g h own x (length xs + k) at (ups around xs rest) sh lead.0.root lead.0.leads (owned_alive g own x lead.0 counted) (subst (Roomy g) (let z : length (x ∷ xs) + k ≡ suc (length xs + k) = omega arith in z) room) counted in
      let room1 : Roomy d.done.later (length xs + k) =
      roomy_after q args c g own own1 1 (length xs + k) start (λ h s. At (ups around xs rest) ex frames (here core f b d.at vars h s)) counted d.done (λ r. omega (arith, hits_most (operand_referred around x) (operand vars x) r))
      (subst (Roomy g) (let z : length (x ∷ xs) + k ≡ 1 + (length xs + k) = omega arith in z) room) in
      then_run g own1 (λ r. all_hits around vars xs r + own1 r) (λ r. all_hits around vars (x ∷ xs) r + own r) start (ups around xs rest) rest (λ r. omega arith) d
      (ups_run xs d.done.later d.done.blocks own1 k d.at rest d.done.shown (operands_kept g d.done.later own own1 xs d.done.same d.done.same_statics (λ r. omega arith) lead.1) room1 d.done.counted)

  abbrev GoesOn : ℕ → List LlOp → List COperand → Type 0
  GoesOn k rest xs = (g : Ghost) (h : List (Option Block)) (own : Value → ℕ) (at : ℕ) → Shown c h g.blocks → OperandsLead q around g own vars xs → Roomy g (length xs + k) → IsCounted q c g own
      → DoneTo q args c g (λ r. given_hits around vars xs r + own r) (At (given around xs rest) ex frames (here core f b at vars h (memory g))) rest ex frames core f b vars

  -- what an exit gives on
  pub given_run : (xs : List COperand) (g : Ghost) (h : List (Option Block)) (own : Value → ℕ) (k at : ℕ) (rest : List LlOp) → Shown c h g.blocks → OperandsLead q around g own vars xs → Roomy g (length xs + k) → IsCounted q c g own
      → DoneTo q args c g (λ r. given_hits around vars xs r + own r) (At (given around xs rest) ex frames (here core f b at vars h (memory g))) rest ex frames core f b vars
  given_run [] g h own k at rest sh lead room counted = nothing_run g h own at rest sh counted
  given_run (x ∷ xs) g h own k at rest sh lead room counted = by (is_given_later x xs) (λ g h own at. given_run xs g h own k at rest)
    where
      by : (y : Bool) → GoesOn k rest xs → DoneTo q args c g (λ r. given_hits_if y around vars x r + given_hits around vars xs r + own r) (At (up_if y around x (given around xs rest)) ex frames (here core f b at vars h (memory g))) rest ex frames core f b vars
      by true go =
          let own1 : Value → ℕ = λ r. operand_hits around vars x r + own r in
          let start : State = At (up around x (given around xs rest)) ex frames (here core f b at vars h (memory g)) in
          let d : DoneTo q args c g own1 start (given around xs rest) ex frames core f b vars =
          up_run g h own x (length xs + k) at (given around xs rest) sh lead.0.root lead.0.leads (owned_alive g own x lead.0 counted) (subst (Roomy g) (let z : length (x ∷ xs) + k ≡ suc (length xs + k) = omega arith in z) room) counted in
          let room1 : Roomy d.done.later (length xs + k) =
          roomy_after q args c g own own1 1 (length xs + k) start (λ h s. At (given around xs rest) ex frames (here core f b d.at vars h s)) counted d.done (λ r. omega (arith, hits_most (operand_referred around x) (operand vars x) r))
          (subst (Roomy g) (let z : length (x ∷ xs) + k ≡ 1 + (length xs + k) = omega arith in z) room) in
          then_run g own1 (λ r. given_hits around vars xs r + own1 r) (λ r. operand_hits around vars x r + given_hits around vars xs r + own r) start (given around xs rest) rest (λ r. omega arith) d
          (go d.done.later d.done.blocks own1 d.at d.done.shown (operands_kept g d.done.later own own1 xs d.done.same d.done.same_statics (λ r. omega arith) lead.1) room1 d.done.counted)
      by false go =
          let start : State = At (given around xs rest) ex frames (here core f b at vars h (memory g)) in
          let n : DoneTo q args c g (λ r. 0 + own r) start (given around xs rest) ex frames core f b vars = nothing_run g h own at (given around xs rest) sh counted in
          let weak : Roomy n.done.later (length xs + k) =
          roomy_after q args c g own (λ r. 0 + own r) 1 (length xs + k) start (λ h s. At (given around xs rest) ex frames (here core f b n.at vars h s)) counted n.done (λ r. omega arith) (subst (Roomy g) (let z : length (x ∷ xs) + k ≡ 1 + (length xs + k) = omega arith in z) room) in
          then_run g (λ r. 0 + own r) (λ r. given_hits around vars xs r + (0 + own r)) (λ r. 0 + given_hits around vars xs r + own r) start (given around xs rest) rest (λ r. omega arith) n
          (go n.done.later n.done.blocks (λ r. 0 + own r) n.at n.done.shown (operands_kept g n.done.later own (λ r. 0 + own r) xs n.done.same n.done.same_statics (λ r. omega arith) lead.1) weak n.done.counted)
