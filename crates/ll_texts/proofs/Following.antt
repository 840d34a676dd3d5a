-- What the ways of helpers come to.
use Rattle.std.proofs.Common.{◌≡◌, ℕ, List, [], ◌++◌, refl, sym, ap, ◌∙◌, subst, arith}
use Rattle.std.proofs.lemmas.List.{append-nil}
use Rattle.rpy_base.specs.declared.outcome.FailName.{FailName}
use Rattle.rpy_base.specs.declared.outcome.Outcome.TheVariants.{Failed}
use Rattle.rpy_tree.specs.Value.{Value as Meant}
use Rattle.rpy_meaning.specs.World.{World}
use Rattle.csub_tree.specs.State.{Value, Core}
use Rattle.ll_code.specs.State.{Frame, State, Returning, Ends}
use Rattle.ll_code.specs.Machine.{step}
use Rattle.ll_code.specs.declared.program.LlType.{LlType}
use Rattle.ll_code.specs.declared.program.LlProgram.{LlProgram}
use Rattle.ll_held.specs.Roots.{core_of}
use Rattle.ll_leads.specs.Path.{Leads}
use Rattle.ll_leads.specs.Memory.{forgotten}
use Rattle.ll_texts.specs.Stands.{Stands}
use Rattle.ll_texts.specs.Follows.{Gave, FailedAs}

module _ {p : LlProgram} {args : List (List ℕ)} {s : State} where
  -- nothing was made, paid or put
  pub gave : {frames : List Frame} {core : Core} {t : LlType} {w : World} {v : Meant} {value : Value} {end : Core} → w.left ≡ core.steps → Leads p args 0 s [] (Returning value frames end) → forgotten end ≡ forgotten core → Stands core.blocks core.statics t value v → Gave p args s frames core t w v w
  gave {core = core} {t = t} {w = w} {v = v} {value = value} {end = end} left l m st = record {
    value = value;
    end = end;
    text = [];
    leads = l;
    texts = [];
    few = omega arith;
    memory = m ∙ ap (λ (c : Core). forgotten c) (ap (λ bs. record core { blocks = bs }) (sym (append-nil core.blocks)) ∙ ap (λ n. record core { blocks = core.blocks ++ []; steps = n }) (sym left));
    stands = subst (λ (c : Core). Stands c.blocks c.statics t value v) (sym m) st;
    out = sym (append-nil w.out);
    heap = refl;
  }

  pub failed : {name : FailName} {last : State} → Leads p args 0 s [] last → step p args last ≡ Ends (Failed name) (core_of last) → FailedAs p args s name
  failed {last = last} l e = record { last = last; leads = l; ends = e }
