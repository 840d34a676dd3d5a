-- The fields that are references are read before a block is freed.
use Rattle.std.proofs.Common.{◌≡◌, ◌<◌, ◌≤◌, ℕ, suc, ◌+◌, List, [], ◌∷◌, ◌++◌, length, Option, Some, refl, ap, ◌∙◌, subst, arith, ◌⊎◌, ⊎_elim, false}
use Rattle.std.specs.Prelude.{slice_set}
use Rattle.csub_tree.specs.State.{Value, Unset, Ptr, Block, Core}
use Rattle.csub_tree.specs.Layout.{shape_at, place}
use Rattle.csub_tree.specs.Operation.{is_unset}
use Rattle.csub_tree.specs.Statement.{read}
use Rattle.ll_code.specs.State.{Frame, State, At}
use Rattle.ll_code.specs.Machine.{shapes_of}
use Rattle.ll_code.specs.declared.program.LlOp.{LlOp}
use Rattle.ll_code.specs.declared.program.LlExit.{LlExit}
use Rattle.ll_code.specs.declared.program.LlProgram.{LlProgram}
use Rattle.refcount_laws.specs.Graphs.{Reference, Counts, AllFields, gets}
use Rattle.refcount_laws.specs.Ghost.{Ghost, FieldsLead, field_references}
use Rattle.refcount_laws.specs.Runs.{Leads, here}
use Rattle.refcount_laws.specs.Touched.{block_in}
use Rattle.refcount_laws.proofs.Cells.{set_here, set_other, set_length}
use Rattle.refcount_laws.proofs.Leading.{lead_set}
use Rattle.refcount_laws.proofs.Steps.{stays, leads_on, get_step}
use Rattle.refcount_laws.proofs.Touching.{is_or_not}
use Rattle.refcount_laws.proofs.Variables.{HasFrom}

-- so many operations on
abbrev pub along : {A : Type 0} → ℕ → List A → ℕ
along at [] = at
along at (x ∷ xs) = along (at + 1) xs

-- after the reads
pub record Got (q : LlProgram) (args : List (List ℕ)) (from : State) (to : List Value → State) (vars : List Value) (v : ℕ) (values : List Value) : Type 0 where
  pub now : List Value
  pub size : length now ≡ length vars
  pub same : (i : ℕ) → i < v → read now i ≡ read vars i
  pub has : HasFrom now v values
  pub leads : Leads q args from (to now)

module _ (q : LlProgram) (args : List (List ℕ)) (c : Counts) (g : Ghost) (core : Core) (f b : ℕ) (ex : LlExit) (frames : List Frame) (rest : List LlOp) (h : List (Option Block)) (s : List Block) (z : ℕ) (block : Block) (found : block_in h z ≡ Some block)
    (w0 w1 : Value) (fields : List Value) (is : block.fields ≡ w0 ∷ w1 ∷ fields) where
  pub gets_run : (held : List Reference) (v at : ℕ) (vars : List Value) → 0 < v → v + length held ≤ length vars → read vars 0 ≡ Ptr z → AllFields q c block.kind held → FieldsLead q g held fields
      → Got q args (At (gets held v ++ rest) ex frames (here core f b at vars h s)) (λ now. At rest ex frames (here core f b (along at held) now h s)) vars v (field_references held fields)
  gets_run [] v at vars first room pointer all lead = record { now = vars; size = refl; same = λ i lt. refl; has = tt; leads = stays q args (At rest ex frames (here core f b at vars h s)) }
  gets_run (r ∷ held) v at vars first room pointer all lead =
      let x : Value = read fields r.at in
      let next : List Value = slice_set vars v x in
      let y : Got q args (At (gets held (suc v) ++ rest) ex frames (here core f b (at + 1) next h s)) (λ now. At rest ex frames (here core f b (along (at + 1) held) now h s)) next (suc v) (field_references held fields) =
      gets_run held (suc v) (at + 1) next (omega arith) (let e : length next ≡ length vars = set_length vars v x in omega (arith, e, room))
      (set_other vars v 0 x Unset (λ e. absurd (omega (arith, e, first))) ∙ pointer) all.1 lead.1 in
      record {
        now = y.now;
        size = y.size ∙ set_length vars v x;
        same = λ i lt. y.same i (omega (arith, lt)) ∙ set_other vars v i x Unset (λ e. absurd (omega (arith, e, lt)));
        has = (y.same v (omega arith) ∙ set_here vars v x Unset (omega (arith, room)), y.has);
        leads =
            leads_on q args {t = At (gets held (suc v) ++ rest) ex frames (here core f b (at + 1) next h s)}
            (get_step q args core f b ex frames v r.owner 0 r.number at (gets held (suc v) ++ rest) vars h s (Ptr z) x block pointer refl found all.0.of
            (ap (λ l. read l (place (shape_at (shapes_of q.structs) r.owner) r.number)) is ∙ ap (read (w0 ∷ w1 ∷ fields)) all.0.place) (lead_set q g r.to x lead.0))
            y.leads;
      }

-- what was read is set
pub references_set : (q : LlProgram) (g : Ghost) (held : List Reference) (fields vars : List Value) (v : ℕ) → FieldsLead q g held fields → HasFrom vars v (field_references held fields) → (i : ℕ) → v ≤ i → i < v + length held → is_unset (read vars i) ≡ false
references_set q g [] fields vars v lead has i le lt = absurd (omega (arith, le, lt))
references_set q g (r ∷ held) fields vars v lead has i le lt =
    ⊎_elim
    (λ e. subst (λ i. is_unset (read vars i) ≡ false) e (ap is_unset has.0 ∙ lead_set q g r.to (read fields r.at) lead.0))
    (λ ne. references_set q g held fields vars (suc v) lead.1 has.1 i (let d : (v ≡ i) ⊎ (v < i) = grind arith in ⊎_elim (λ e. absurd (ne e)) (λ lt. omega (arith, lt)) d) (omega (arith, lt)))
    (is_or_not v i)

pub along_item : {A : Type 0} (at : ℕ) (xs : List A) → along at xs ≡ at + length xs
along_item at [] = omega arith
along_item at (x ∷ xs) = along_item (at + 1) xs ∙ (let e : at + 1 + length xs ≡ at + suc (length xs) = omega arith in e)
