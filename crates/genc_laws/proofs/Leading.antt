-- Statements one after the other.
use Rattle.std.proofs.Common.{◌≡◌, ℕ, zero, suc, ◌+◌, false, List, [], ◌∷◌, drop, Some, refl, ap, ◌∙◌, arith}
use Rattle.std.specs.Prelude.{slice_get, slice_set, cond}
use Rattle.csub_tree.specs.State.{Value, Core, Event, Onward, Stuck}
use Rattle.csub_tree.specs.Operation.{is_unset}
use Rattle.csub_tree.specs.Statement as st
use Rattle.csub_tree.specs.Machine as c_machine
use Rattle.csub_tree.specs.Machine.{stmt_at, stmt_in, block_in, does_at}
use Rattle.csub_tree.specs.Meaning.{run, follow}
use Rattle.csub_tree.specs.declared.stuck.StuckReason.TheVariants.{Unset as IsUnset}
use Rattle.csub_tree.specs.declared.tree.CFile.{CFile}
use Rattle.csub_tree.specs.declared.tree.CFunction.{CFunction}
use Rattle.csub_tree.specs.declared.tree.COperand.{COperand}
use Rattle.csub_tree.specs.declared.tree.CStmt.{CStmt}
use Rattle.csub_tree.specs.declared.tree.CStmt.TheVariants as stmt
use Rattle.genc_laws.specs.Follows.{Leads}

-- ---- lists

pub drop_first : {A : Type 0} (xs : List A) (n : ℕ) (x : A) (rest : List A) → drop n xs ≡ x ∷ rest → slice_get xs n ≡ Some x
drop_first [] zero x rest e = absurd (cc)
drop_first [] (suc n) x rest e = absurd (cc)
drop_first (y ∷ xs) zero x rest e = cc
drop_first (y ∷ xs) (suc n) x rest e = drop_first xs n x rest e

pub drop_next : {A : Type 0} (xs : List A) (n : ℕ) (x : A) (rest : List A) → drop n xs ≡ x ∷ rest → drop (n + 1) xs ≡ rest
drop_next [] zero x rest e = absurd (cc)
drop_next [] (suc n) x rest e = absurd (cc)
drop_next (y ∷ xs) zero x rest e = cc
drop_next (y ∷ xs) (suc n) x rest e = let f : suc n + 1 ≡ suc (n + 1) = omega arith in ap (λ k. drop k (y ∷ xs)) f ∙ drop_next xs n x rest e

-- ---- statements

module _ (file : CFile) (args : List (List ℕ)) where
  pub nothing : (c : Core) → Leads file args c c 0
  nothing c = record { by = λ k text events. (let e : k + 0 ≡ k = omega arith in ap (λ j. run file args j c text events) e) }

  pub one : (k : ℕ) (c : Core) (text : List ℕ) (events : List Event) → run file args (suc k) c text events ≡ follow file (run file args k) c text events (c_machine.step file args c)
  unfolding run
  one k c text events = refl

  pub onward : (c d : Core) → c_machine.step file args c ≡ Onward d → Leads file args c d 1
  onward c d e = record { by = λ k text events. (let f : k + 1 ≡ suc k = omega arith in ap (λ j. run file args j c text events) f) ∙ one k c text events ∙ ap (follow file (run file args k) c text events) e }

  pub then : (b c d : Core) (m n : ℕ) → Leads file args b c m → Leads file args c d n → Leads file args b d (n + m)
  then b c d m n h k = record { by = λ i text events. (let e : i + (n + m) ≡ i + n + m = omega arith in ap (λ j. run file args j b text events) e) ∙ h.by (i + n) text events ∙ k.by i text events }

  -- the statement at the machine's place
  pub standing : (c : Core) (f : CFunction) (stmts rest : List CStmt) (s : CStmt) → slice_get file.functions c.function ≡ Some f → slice_get f.blocks c.block ≡ Some stmts → drop c.at stmts ≡ s ∷ rest
      → stmt_at file.functions c ≡ Some s
  standing c f stmts rest s e g h = ap (λ o. stmt_in (block_in o c.block) c.at) e ∙ ap (λ o. stmt_in o c.at) g ∙ drop_first stmts c.at s rest h

  pub stepped : (c : Core) (s : CStmt) → stmt_at file.functions c ≡ Some s → c_machine.step file args c ≡ c_machine.does file args c s
  stepped c s e = ap (does_at file args c) e

  set_on : (c : Core) (a : ℕ) (x : Value) → is_unset x ≡ false → st.set c a x ≡ st.assigned c a x
  set_on c a x e = ap (λ b. cond b (Stuck IsUnset) (st.assigned c a x)) e

  -- a variable is set to what is not unset
  pub sets : (c : Core) (a : ℕ) (x : COperand) → stmt_at file.functions c ≡ Some (stmt.Set a x) → is_unset (st.operand c.vars x) ≡ false
      → Leads file args c (record c { at = c.at + 1; vars = slice_set c.vars a (st.operand c.vars x) }) 1
  sets c a x e set = onward c (record c { at = c.at + 1; vars = slice_set c.vars a (st.operand c.vars x) }) (stepped c (stmt.Set a x) e ∙ set_on c a (st.operand c.vars x) set)
