-- What stands for values stays, and so do helpers at their numbers, while memory and the variables that are read stay.
use Rattle.std.proofs.Common.{◌≡◌, ◌<◌, ◌≤◌, ℕ, ◌^◌, List, [], ◌∷◌, ◌++◌, refl, sym, subst, arith}
use Rattle.csub_tree.specs.State.{Value, Core}
use Rattle.csub_tree.specs.Statement.{read, operand}
use Rattle.csub_tree.specs.declared.tree.COperand.{COperand}
use Rattle.csub_tree.specs.declared.tree.COperand.TheVariants.{Var, Const}
use Rattle.rpy_tree.specs.Value.{Value as Meant}
use Rattle.ll_code.specs.declared.program.LlProgram.{LlProgram}
use Rattle.ll_leads.specs.Memory.{forgotten}
use Rattle.ll_build.specs.declared.needs.Helper.{Helper}
use Rattle.ll_build.specs.declared.needs.Numbers.{Numbers}
use Rattle.ll_texts.specs.Texts.{HasStatics}
use Rattle.ll_strings.specs.Laws.{HasHelper}
use Rattle.rtyper_layout.specs.declared.layout.Layout.{Layout}
use Rattle.rtyper_data.specs.declared.found.Found.{Found}
use Rattle.rtyper_data.specs.Seen.{Around, Operand}
use Rattle.lower_laws.specs.Asked.{Ask, Help, Raise, Make, number_of, all_asked, HasAll}
use Rattle.lower_laws.specs.Values.{Holds, Given, IsBelow, AllBelow}

module _ (core end : Core) (memory : forgotten end ≡ forgotten core) where
  pub helper_kept : {p : LlProgram} {numbers : Numbers} {h : Helper} {f : ℕ} → HasHelper p numbers h f core → HasHelper p numbers h f end
  helper_kept {p = p} {numbers = numbers} has = record {
    graph = has.graph;
    shared = has.shared;
    text = has.text;
    statics = λ n. subst (λ (c : Core). HasStatics p numbers.table c.statics) (sym memory) (has.statics n);
    small = subst (λ (c : Core). c.steps < 2 ^ 62) (sym memory) has.small;
  }

  pub has_kept : (p : LlProgram) (layout : Layout) (numbers : Numbers) (raised : ℕ → Value) (asks : List Ask) (found : Found) → HasAll p layout numbers raised core asks found → HasAll p layout numbers raised end asks found
  has_kept p layout numbers raised [] found has = tt
  has_kept p layout numbers raised (Help h ∷ asks) found has = (helper_kept has.0, has_kept p layout numbers raised asks (number_of (Help h) found).1 has.1)
  has_kept p layout numbers raised (Raise h ∷ asks) found has = (has.0, has_kept p layout numbers raised asks (number_of (Raise h) found).1 has.1)
  has_kept p layout numbers raised (Make s ∷ asks) found has = (has.0, has_kept p layout numbers raised asks (number_of (Make s) found).1 has.1)

  module _ (below : ℕ) (others : (n : ℕ) → n < below → read end.vars n ≡ read core.vars n) where
    pub operand_kept : (x : COperand) → IsBelow below x → operand end.vars x ≡ operand core.vars x
    operand_kept (Var v) h = others v h
    operand_kept (Const c) h = refl

    pub given_kept : (around : Around) (args : List Operand) (vs : List Meant) → AllBelow below args → Given around core args vs → Given around end args vs
    given_kept around [] [] b g = tt
    given_kept around [] (v ∷ vs) b g = absurd g
    given_kept around (a ∷ args) [] b g = absurd g
    given_kept around (a ∷ args) (v ∷ vs) b g = (
      subst (λ x. Holds around.layout end.blocks end.statics a.element x v) (sym (operand_kept a.x b.0)) (subst (λ (c : Core). Holds around.layout c.blocks c.statics a.element (operand core.vars a.x) v) (sym memory) g.0),
      given_kept around args vs b.1 g.1,
    )

-- ---- variables below

pub below_more : {n m : ℕ} → n ≤ m → (x : COperand) → IsBelow n x → IsBelow m x
below_more h (Var v) b = omega (arith, h, b)
below_more h (Const c) b = tt

pub all_more : {n m : ℕ} → n ≤ m → (args : List Operand) → AllBelow n args → AllBelow m args
all_more h [] b = tt
all_more h (a ∷ args) b = (below_more h a.x b.0, all_more h args b.1)

-- ---- what is asked for

pub asked_append : (xs ys : List Ask) (found : Found) → all_asked (xs ++ ys) found ≡ all_asked ys (all_asked xs found)
asked_append [] ys found = refl
asked_append (a ∷ xs) ys found = asked_append xs ys (number_of a found).1

module _ (p : LlProgram) (layout : Layout) (numbers : Numbers) (raised : ℕ → Value) (core : Core) where
  pub has_first : (xs ys : List Ask) (found : Found) → HasAll p layout numbers raised core (xs ++ ys) found → HasAll p layout numbers raised core xs found
  has_first [] ys found h = tt
  has_first (a ∷ xs) ys found h = (h.0, has_first xs ys (number_of a found).1 h.1)

  pub has_second : (xs ys : List Ask) (found : Found) → HasAll p layout numbers raised core (xs ++ ys) found → HasAll p layout numbers raised core ys (all_asked xs found)
  has_second [] ys found h = h
  has_second (a ∷ xs) ys found h = has_second xs ys (number_of a found).1 h.1
