-- A block that no reference leads to is freed, and what it held is dropped.
use Rattle.std.proofs.Common.{◌≡◌, ◌<◌, ◌≤◌, ◌^◌, ℕ, suc, ◌+◌, true, false, List, [], ◌∷◌, ◌++◌, length, Option, Some, None, refl, ap, ◌∙◌, subst, arith}
use Rattle.std.specs.Prelude.{slice_set, pos}
use Rattle.csub_tree.specs.State.{Value, Unset, Word, Flag, Ptr, Block, Core}
use Rattle.csub_tree.specs.Layout.{place}
use Rattle.csub_tree.specs.Operation.{is_unset, binary_of}
use Rattle.csub_tree.specs.Statement.{read}
use Rattle.csub_tree.specs.declared.tree.CBinary.TheVariants.{Add, Lt}
use Rattle.csub_tree.specs.declared.tree.COperand.TheVariants.{Var}
use Rattle.ll_code.specs.State.{Frame, State, At}
use Rattle.ll_code.specs.declared.program.LlType.{LlType}
use Rattle.ll_code.specs.declared.program.LlType.TheVariants as type
use Rattle.ll_code.specs.declared.program.LlOp.{LlOp}
use Rattle.ll_code.specs.declared.program.LlOp.TheVariants as op
use Rattle.ll_code.specs.declared.program.LlExit.{LlExit}
use Rattle.ll_code.specs.declared.program.LlProgram.{LlProgram}
use Rattle.refcount_laws.specs.Graphs.{Counts, Counting, Stands, link, word, given, test, one_item, freed, item_blocks, blocks_for, types_for, held_types}
use Rattle.refcount_laws.specs.Ghost.{memory, hit, occurs, count, weight, Ghost, AllLead, IsCounted}
use Rattle.refcount_laws.specs.Runs.{Leads, here}
use Rattle.refcount_laws.specs.Touched.{block_in, Shows, Moved}
use Rattle.refcount_laws.proofs.Cells.{set_here, set_other, set_length, set_again}
use Rattle.refcount_laws.proofs.Steps.{leads_on, item_step, binary_step, goto_step, yes_step, no_step}
use Rattle.refcount_laws.proofs.Touching.{shows_after}
use Rattle.refcount_laws.proofs.Leading.{lead_set, all_kept}
use Rattle.refcount_laws.proofs.Variables.{is_below, not_below, more_word, AllSet, none_unset, none_unset_behind, same_again, last_set, set_more, HasFrom}
use Rattle.refcount_laws.proofs.Moving.{own_same, before, behind, moved_on, unmoved}
use Rattle.refcount_laws.proofs.Release.{Down, Loops, Looped}

module _ (q : LlProgram) (args : List (List ℕ)) (c : Counts) (counting : Counting q c) where
  pub release_stands : (kind m : ℕ) → c.counted kind ≡ true → c.items kind ≡ Some m → Stands q (c.release kind) (type.Ptr (c.root kind) ∷ (held_types (c.held kind) ++ types_for (Some m))) (item_blocks c kind m)
  release_stands kind m counted e = subst (λ o. Stands q (c.release kind) (type.Ptr (c.root kind) ∷ (held_types (c.held kind) ++ types_for o)) (blocks_for c kind o)) e (counting.release kind counted)

  module _ (kind m z : ℕ) (w0 w1 : Value) (fields items : List Value) (core : Core) (frames : List Frame) (counted : c.counted kind ≡ true) (e : c.items kind ≡ Some m) where
    abbrev k : ℕ
    k = length (c.held kind)

    abbrev pub at_test : List Value → List (Option Block) → List Block → State
    at_test vars h s = At (test k).ops (test k).exit frames (here core (c.release kind) 1 0 vars h s)

    abbrev at_end : List Value → List (Option Block) → List Block → State
    at_end now h s = At (freed c kind).ops (freed c kind).exit frames (here core (c.release kind) 3 0 now h s)

    abbrev at_item : List Value → List (Option Block) → List Block → State
    at_item vars h s = At (one_item c kind m k).ops (one_item c kind m k).exit frames (here core (c.release kind) 2 0 vars h s)

    keeps_set : (vars : List Value) (a : ℕ) (x : Value) → suc k < suc a → (i : ℕ) → i < suc k → read (slice_set vars a x) i ≡ read vars i
    keeps_set vars a x le i lt = set_other vars a i x Unset (λ q. absurd (omega (arith, le, lt, q)))

    -- no item is left
    no_loops : (g : Ghost) (own : Value → ℕ) (vars : List Value) (i : ℕ) (h : List (Option Block)) → Shows c h g.blocks → i ≡ length items → suc (suc (suc (suc k))) < length vars → AllSet vars (suc (suc (suc k))) → read vars (suc k) ≡ Word (pos (length items))
        → read vars (suc (suc k)) ≡ Word (pos i) → IsCounted q c g (λ r. 0 + own r) → Looped q args c counting g h own kind core frames vars
    no_loops g own vars i h sh done room set total place counts =
        let tested : List Value = slice_set vars (suc (suc (suc k))) (Flag false) in
        let set_tested : AllSet tested (suc k) = record { at = λ j lt. ap is_unset (keeps_set vars (suc (suc (suc k))) (Flag false) (omega arith) j lt) ∙ set.at j (omega (arith, lt)) } in
        record {
          now = tested;
          same = λ j lt. keeps_set vars (suc (suc (suc k))) (Flag false) (omega arith) j lt;
          moved = unmoved q args c g h own (at_test vars h (memory g)) (λ h' s'. at_end tested h' s') sh (own_same q args c g (λ r. 0 + own r) own (λ r. omega arith) counts)
              (leads_on q args {t = At [] (test k).exit frames (here core (c.release kind) 1 1 tested h (memory g))}
              (binary_step q args core (c.release kind) 1 (test k).exit frames (suc (suc (suc k))) 0 Lt (Var (suc (suc k))) (Var (suc k)) [] vars h (memory g) (Flag false)
              (ap (λ a. binary_of Lt a (read vars (suc k))) place ∙ ap (λ b. binary_of Lt (Word (pos i)) b) total ∙ not_below i (length items) (omega (arith, done))))
              (no_step q args core (c.release kind) 1 frames 1 (suc (suc (suc k))) (link 2 (given 0 (suc (suc k)) ++ Var (suc (suc k)) ∷ [])) (link 3 (given 0 (suc k))) tested tested h (memory g)
              (type.Ptr (c.root kind) ∷ (held_types (c.held kind) ++ types_for (Some m))) (item_blocks c kind m) (freed c kind)
              (set_here vars (suc (suc (suc k))) (Flag false) Unset (omega (arith, room))) (release_stands kind m counted e) refl (none_unset tested (suc k) set_tested) (same_again tested (suc k) 0)));
        }

    -- one item is dropped, and the next one follows
    drop_one : (n : ℕ) → Down q args c counting n → Loops q args c counting n → (g : Ghost) (own : Value → ℕ) (vars : List Value) (i : ℕ) (h : List (Option Block)) (v : Value) (vs : List Value) → weight c g.blocks + length (v ∷ vs) ≤ suc n → Shows c h g.blocks
        → block_in h z ≡ Some (record { kind = kind; fields = w0 ∷ w1 ∷ fields; items = items }) → count g.blocks z ≡ 0 → AllLead q g m (v ∷ vs) → HasFrom items i (v ∷ vs) → i + length (v ∷ vs) ≡ length items → length items < 2 ^ 63
        → suc (suc (suc (suc k))) < length vars → AllSet vars (suc (suc (suc k))) → read vars 0 ≡ Ptr z → read vars (suc k) ≡ Word (pos (length items))
        → read vars (suc (suc k)) ≡ Word (pos i) → IsCounted q c g (λ r. occurs r (v ∷ vs) + own r) → Looped q args c counting g h own kind core frames vars
    drop_one n down ih g own vars i h v vs le sh cell gone lead has length_is small room set pointer total place counts =
        let types : List LlType = type.Ptr (c.root kind) ∷ (held_types (c.held kind) ++ types_for (Some m)) in
        let tested : List Value = slice_set vars (suc (suc (suc k))) (Flag true) in
        let with_item : List Value = slice_set tested (suc (suc (suc (suc k)))) v in
        let moved_place : List Value = slice_set with_item (suc (suc k)) (Word (pos (suc i))) in
        let block : Block = record { kind = kind; fields = w0 ∷ w1 ∷ fields; items = items } in
        let rest : Value → ℕ = λ r. occurs r vs + own r in
        let size1 : length tested ≡ length vars = set_length vars (suc (suc (suc k))) (Flag true) in
        let size2 : length with_item ≡ length tested = set_length tested (suc (suc (suc (suc k)))) v in
        let size3 : length moved_place ≡ length with_item = set_length with_item (suc (suc k)) (Word (pos (suc i))) in
        let v_set : is_unset v ≡ false = lead_set q g m v lead.0 in
        let set1 : AllSet tested (suc (suc (suc k))) = set_more vars (suc (suc (suc k))) (suc (suc (suc k))) (Flag true) set refl in
        let set2 : AllSet with_item (suc (suc (suc k))) = set_more tested (suc (suc (suc k))) (suc (suc (suc (suc k)))) v set1 v_set in
        let set3 : AllSet moved_place (suc (suc (suc k))) = set_more with_item (suc (suc (suc k))) (suc (suc k)) (Word (pos (suc i))) set2 refl in
        let place1 : read tested (suc (suc k)) ≡ Word (pos i) = set_other vars (suc (suc (suc k))) (suc (suc k)) (Flag true) Unset (λ q. absurd (omega (arith, q))) ∙ place in
        let place2 : read with_item (suc (suc k)) ≡ Word (pos i) = set_other tested (suc (suc (suc (suc k)))) (suc (suc k)) v Unset (λ q. absurd (omega (arith, q))) ∙ place1 in
        let place3 : read moved_place (suc (suc k)) ≡ Word (pos (suc i)) = set_here with_item (suc (suc k)) (Word (pos (suc i))) Unset (omega (arith, size1, size2, room)) in
        let total3 : read moved_place (suc k) ≡ Word (pos (length items)) =
        set_other with_item (suc (suc k)) (suc k) (Word (pos (suc i))) Unset (λ q. absurd (omega (arith, q))) ∙ set_other tested (suc (suc (suc (suc k)))) (suc k) v Unset (λ q. absurd (omega (arith, q)))
        ∙ set_other vars (suc (suc (suc k))) (suc k) (Flag true) Unset (λ q. absurd (omega (arith, q))) ∙ total in
        let below : (j : ℕ) → j < suc k → read moved_place j ≡ read vars j = λ j lt.
        keeps_set with_item (suc (suc k)) (Word (pos (suc i))) (omega arith) j lt ∙ keeps_set tested (suc (suc (suc (suc k)))) v (omega arith) j lt ∙ keeps_set vars (suc (suc (suc k))) (Flag true) (omega arith) j lt in
        let item_is : read with_item (suc (suc (suc (suc k)))) ≡ v = set_here tested (suc (suc (suc (suc k)))) v Unset (omega (arith, size1, room)) in
        let last_op : List LlOp = op.Binary (suc (suc k)) Add (Var (suc (suc k))) (word 1) ∷ [] in
        let ex : LlExit = (one_item c kind m k).exit in
        let rel : ℕ = c.release kind in
        let stands : Stands q rel types (item_blocks c kind m) = release_stands kind m counted e in
        let at_call : List (Option Block) → List Block → State = λ h s. At (op.Call None (c.down m) (Var (suc (suc (suc (suc k)))) ∷ []) ∷ last_op) ex frames (here core rel 2 1 with_item h s) in
        let behind_call : List (Option Block) → List Block → State = λ h s. At last_op ex frames (here core rel 2 2 with_item h s) in
        let to : Leads q args (at_test vars h (memory g)) (at_call h (memory g)) =
        leads_on q args {t = At [] (test k).exit frames (here core rel 1 1 tested h (memory g))}
        (binary_step q args core rel 1 (test k).exit frames (suc (suc (suc k))) 0 Lt (Var (suc (suc k))) (Var (suc k)) [] vars h (memory g) (Flag true)
        (ap (λ a. binary_of Lt a (read vars (suc k))) place ∙ ap (λ b. binary_of Lt (Word (pos i)) b) total ∙ is_below i (length items) (omega (arith, length_is))))
        (leads_on q args {t = at_item tested h (memory g)}
        (yes_step q args core rel 1 frames 1 (suc (suc (suc k))) (link 2 (given 0 (suc (suc k)) ++ Var (suc (suc k)) ∷ [])) (link 3 (given 0 (suc k))) tested tested h (memory g) types (item_blocks c kind m) (one_item c kind m k)
        (set_here vars (suc (suc (suc k))) (Flag true) Unset (omega (arith, room))) stands refl
        (none_unset_behind tested (suc (suc k)) (Var (suc (suc k))) (record { at = λ j lt. set1.at j (omega (arith, lt)) }) (set1.at (suc (suc k)) (omega arith)))
        (last_set tested (suc (suc k)) (Var (suc (suc k))) ∙ set_again tested (suc (suc k)) Unset))
        (item_step q args core rel 2 ex frames (suc (suc (suc (suc k)))) kind 0 0 i (Var (suc (suc k))) (op.Call None (c.down m) (Var (suc (suc (suc (suc k)))) ∷ []) ∷ last_op) tested h (memory g) (Ptr z) v block
        (keeps_set vars (suc (suc (suc k))) (Flag true) (omega arith) 0 (omega arith) ∙ pointer) refl place1 (omega (arith, length_is)) cell (counting.items kind m counted e).of has.0 v_set)) in
        let x : Moved q args c g h rest (at_call h (memory g)) behind_call =
        down g h rest m v core rel 2 ex frames (Var (suc (suc (suc (suc k))))) 1 last_op with_item (omega (arith, le)) sh (counting.items kind m counted e).to lead.0
        (own_same q args c g (λ r. occurs r (v ∷ vs) + own r) (λ r. hit r v + rest r) (λ r. omega arith) counts) item_is in
        let back : (h : List (Option Block)) (s : List Block) → Leads q args (behind_call h s) (at_test moved_place h s) = λ h s.
        leads_on q args {t = At [] ex frames (here core rel 2 3 moved_place h s)}
        (binary_step q args core rel 2 ex frames (suc (suc k)) 2 Add (Var (suc (suc k))) (word 1) [] with_item h s (Word (pos (suc i))) (ap (λ a. binary_of Add a (Word (pos 1))) place2 ∙ more_word i (omega (arith, length_is, small))))
        (goto_step q args core rel 2 frames 3 (link 1 (given 0 (suc (suc k)) ++ Var (suc (suc k)) ∷ [])) moved_place moved_place h s types (item_blocks c kind m) (test k) stands refl
        (none_unset_behind moved_place (suc (suc k)) (Var (suc (suc k))) (record { at = λ j lt. set3.at j (omega (arith, lt)) }) (set3.at (suc (suc k)) (omega arith)))
        (last_set moved_place (suc (suc k)) (Var (suc (suc k))) ∙ set_again moved_place (suc (suc k)) Unset)) in
        let first : Moved q args c g h rest (at_test vars h (memory g)) (at_test moved_place) =
        before q args c g h rest (at_test vars h (memory g)) (at_call h (memory g)) (at_test moved_place) to (behind q args c g h rest (at_call h (memory g)) behind_call (at_test moved_place) x back) in
        let y : Looped q args c counting first.later first.blocks own kind core frames moved_place =
        ih kind m z w0 w1 fields items vs (suc i) first.later first.blocks own core frames moved_place (omega (arith, le, first.weighs)) (shows_after c g.blocks first.later.blocks h first.blocks first.touched) counted e (first.touched.dead z gone ∙ cell)
        (omega (arith, gone, first.touched.less z)) (all_kept q c g first.later first.same first.same_statics m vs lead.1) has.1 (omega (arith, length_is)) small (omega (arith, size1, size2, size3, room)) set3 (below 0 (omega arith) ∙ pointer) total3 place3 first.counted in
        record {
          now = y.now;
          same = λ j lt. y.same j lt ∙ below j lt;
          moved = moved_on q args c g h rest own (at_test vars h (memory g)) (at_test moved_place) (λ h' s'. at_end y.now h' s') first y.moved;
        }

  pub first_loops : Loops q args c counting 0
  first_loops kind m z w0 w1 fields items [] i g h own core frames vars le sh counted e cell gone lead has length_is small room set pointer total place counts =
      no_loops kind m z w0 w1 fields items core frames counted e g own vars i h sh (omega (arith, length_is)) room set total place counts
  first_loops kind m z w0 w1 fields items (v ∷ vs) i g h own core frames vars le sh counted e cell gone lead has length_is small room set pointer total place counts = absurd (omega (arith, le))

  pub more_loops : (n : ℕ) → Down q args c counting n → Loops q args c counting n → Loops q args c counting (suc n)
  more_loops n down ih kind m z w0 w1 fields items [] i g h own core frames vars le sh counted e cell gone lead has length_is small room set pointer total place counts =
      no_loops kind m z w0 w1 fields items core frames counted e g own vars i h sh (omega (arith, length_is)) room set total place counts
  more_loops n down ih kind m z w0 w1 fields items (v ∷ vs) i g h own core frames vars le sh counted e cell gone lead has length_is small room set pointer total place counts =
      drop_one kind m z w0 w1 fields items core frames counted e n down ih g own vars i h v vs le sh cell gone lead has length_is small room set pointer total place counts
