-- The laws of counts and of C files in a row.
use Rattle.std.proofs.Common.{◌≡◌, ◌⊎◌, inl, inr, ℕ, List, map, refl, sym, ap, ◌∙◌, subst}
use Rattle.csub_tree.specs.Checked.{IsChecked}
use Rattle.csub_tree.specs.Meaning as c
use Rattle.ll_code.specs.Meaning as l
use Rattle.ll_code.specs.Typed.{IsWellTyped}
use Rattle.ll_code.specs.declared.program.LlProgram.{LlProgram}
use Rattle.genc_laws.specs.Alike.{SameMeant, IsStuckAtLink}
use Rattle.genc_laws.proofs.Rules.{lowered_is_checked}
use Rattle.genc_laws.proofs.Whole.{ends_alike, comes_back, goes_on}
use Rattle.refcount_transform.specs.Counted.{counted}
use Rattle.refcount_laws.specs.Means.{SameMeaning}
use Rattle.refcount_laws.specs.Run.{wider}
use Rattle.refcount_typed.specs.Leads.{LeadsToRoots}
use Rattle.refcount_typed.proofs.Whole.{counted_typed}
use Rattle.refcount_ready.specs.Programs.{CanBeCounted, RunsSmall}
use Rattle.refcount_ready.proofs.Composed.{means_the_same, ends_only, never_stuck, runs_on}
use Rattle.ll_compiled.specs.Compiled.{compiled, CanBeCompiled, MeansAlike, IsNotStuck, SameRuns}

still_typed : (p : LlProgram) → CanBeCompiled p → IsWellTyped (counted p)
still_typed p can = counted_typed p can.counts.typed can.explicit can.counts.leads can.counts.numbers

pub keeps_rules : (p : LlProgram) → CanBeCompiled p → IsChecked (compiled p)
keeps_rules p can = lowered_is_checked (counted p) (still_typed p can) refl

-- an outcome of the counted program is one of the file
alike : (p : LlProgram) (args : List (List ℕ)) (steps : ℕ) (meant : l.Meant) (same : SameMeaning p args steps meant) (c_meant : c.Meant) → l.comes meant.ending → SameMeant same.other c_meant → MeansAlike meant c_meant
alike p args steps meant same c_meant ends m = record {
  ending = subst (λ e. Rattle.genc_laws.specs.Alike.SameEnding e c_meant.ending) same.ending m.ending;
  output = m.output ∙ same.output;
  paid = m.paid (subst l.comes (sym same.ending) ends) ∙ same.paid;
  made = m.made ∙ same.made;
}

not_stuck : (p : LlProgram) (args : List (List ℕ)) (steps : ℕ) (meant : l.Meant) → l.comes meant.ending → IsStuckAtLink p args steps meant → ⊥
not_stuck p args steps meant ends stuck = subst l.comes stuck.ending ends

module _ (p : LlProgram) (can : CanBeCompiled p) (args : List (List ℕ)) (steps : ℕ) (small : RunsSmall p args steps) where
  forth : (meant : l.Meant) → l.LMeans p args steps meant → l.comes meant.ending → (c_meant : c.Meant) × c.CMeans (compiled p) args steps c_meant × MeansAlike meant c_meant
  forth meant means ends = by (means_the_same p can.counts args steps small meant means ends)
    where
      by : SameMeaning p args steps meant → (c_meant : c.Meant) × c.CMeans (compiled p) args steps c_meant × MeansAlike meant c_meant
      by same = on (ends_alike (counted p) (still_typed p can) refl args steps same.other same.means)
        where
          on : (((c_meant : c.Meant) × c.CMeans (compiled p) args steps c_meant × SameMeant same.other c_meant) ⊎ IsStuckAtLink (counted p) args steps same.other) → (c_meant : c.Meant) × c.CMeans (compiled p) args steps c_meant × MeansAlike meant c_meant
          on (inl (c_meant, means, m)) = (c_meant, means, alike p args steps meant same c_meant ends m)
          on (inr stuck) = absurd (not_stuck (counted p) args steps same.other (subst l.comes (sym same.ending) ends) stuck)

  back : IsNotStuck p args steps → (c_meant : c.Meant) → c.CMeans (compiled p) args steps c_meant → (meant : l.Meant) × l.LMeans p args steps meant × MeansAlike meant c_meant
  back free c_meant means = by (comes_back (counted p) (still_typed p can) refl args steps c_meant means)
    where
      by : ((other : l.Meant) × l.LMeans (counted p) args steps other × (SameMeant other c_meant ⊎ IsStuckAtLink (counted p) args steps other)) → (meant : l.Meant) × l.LMeans p args steps meant × MeansAlike meant c_meant
      by (other, is, m) = on (ends_only p can.counts args steps small free other is) m
        where
          on : ((meant : l.Meant) × l.LMeans p args steps meant × SameMeaning p args steps meant) → (SameMeant other c_meant ⊎ IsStuckAtLink (counted p) args steps other) → (meant : l.Meant) × l.LMeans p args steps meant × MeansAlike meant c_meant
          on (meant, mine, same) (inl m) = (meant, mine, alike p args steps meant same c_meant (free meant mine) (subst (λ o. SameMeant o c_meant) (same.only other is) m))
          on (meant, mine, same) (inr stuck) = absurd (not_stuck (counted p) args steps other (never_stuck p can.counts args steps small free other is) stuck)

  pub same_runs : SameRuns p (compiled p) args steps
  same_runs = record {
    forth = forth;
    back = back;
    on = λ runs. goes_on (counted p) (still_typed p can) refl args steps (runs_on p can.counts args steps small runs);
  }
